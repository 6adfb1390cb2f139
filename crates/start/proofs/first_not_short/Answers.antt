-- `start::first_not_short` meets its contract: the position in the rest of the strip.
use Rattle.std.proofs.Common.{rules, ◌≡◌, ◌∙◌, ◌≤◌, drop, length}
use mathlib.Core.Path.{sym}
use Rattle.std.proofs.lemmas.Iterator.{YieldsList-from_slice}
use Rattle.std.proofs.lemmas.Iterator.Adapters.{position_from-zero}
use Rattle.std.proofs.lemmas.Iterator.Search.{position_from_yields_List}
use Rattle.lists.proofs.LoopLaws.{first-over}
use Rattle.pulse.specs.Pulse.{classes}
use Rattle.start.specs.private.Search.{not_short}
use Rattle.start.proofs.Searching.{other, rest-whole, rest-none, rest-some}
use Rattle.start.proofs.first_not_short.Goals as goal

pub returns-in_err-rest : goal.returns-in_err-rest
returns-in_err-rest c =
    let past : length c.args.strip.now ≤ c.past_shorts-from.result = search rules in
    c.from_residual.ensures ∙ sym (first-over (not_short (classes c.args.t c.args.strip.now)) _ c.past_shorts-from.result past) ∙ c.past_shorts-from.ensures

pub returns-in_err-first : goal.returns-in_err-first
returns-in_err-first c =
    let found = position_from_yields_List (other c.args.t c.args.strip.now c.past_shorts-from.result) _ _ c.position.result c.position.ensures.ran (YieldsList-from_slice c.in_ok-rest.rest.now cc) (λ x b q k. search rules) in
    let rest : c.in_ok-rest.rest.now ≡ drop c.past_shorts-from.result c.args.strip.now = rest-whole c.args.t c.args.strip.now c.past_shorts-from.result c.in_ok-rest.ensures.lookup.0.2 in
    c.from_residual-in_err-first.ensures
    ∙ rest-none c.args.t c.args.strip.now c.past_shorts-from.result (rw (← rest) (sym (position_from-zero (other c.args.t c.args.strip.now c.past_shorts-from.result) c.in_ok-rest.rest.now) ∙ sym found ∙ c.in_err-first.was)) ∙ c.past_shorts-from.ensures

pub returns : goal.returns
returns c =
    let found = position_from_yields_List (other c.args.t c.args.strip.now c.past_shorts-from.result) _ _ c.position.result c.position.ensures.ran (YieldsList-from_slice c.in_ok-rest.rest.now cc) (λ x b q k. search rules) in
    let rest : c.in_ok-rest.rest.now ≡ drop c.past_shorts-from.result c.args.strip.now = rest-whole c.args.t c.args.strip.now c.past_shorts-from.result c.in_ok-rest.ensures.lookup.0.2 in
    rest-some c.args.t c.args.strip.now c.past_shorts-from.result (rw (← rest) (sym (position_from-zero (other c.args.t c.args.strip.now c.past_shorts-from.result) c.in_ok-rest.rest.now) ∙ sym found ∙ c.in_ok-first.was)) ∙ c.past_shorts-from.ensures
