-- `byte::first_wrong` meets its contract. The invariant: the search from pair i on finds what the whole search finds.
use Rattle.std.proofs.Common.{sym, ap, ◌∙◌}
use Rattle.lists.proofs.LoopLaws.{first-here, first-passed, first-over}
use Rattle.pulse.specs.Pulse.{classes}
use Rattle.byte.specs.Byte.{wrong_pair, or_ten, first_wrong}
use Rattle.byte.proofs.first_wrong.Goals as goal

pub returns-then-is_wrong : goal.returns-then-is_wrong
unfolding first_wrong
returns-then-is_wrong c =
    let f = wrong_pair (classes c.args.t c.args.frame.now) in
    ap or_ten (sym (first-here f 10 c.loop-i.i c.loop-i-test.true (sym c.is_wrong.ensures ∙ c.if-is_wrong.true)) ∙ c.loop-i.invariant)

pub loop-i-preserved : goal.loop-i-preserved
loop-i-preserved c =
    let f = wrong_pair (classes c.args.t c.args.frame.now) in
    first-passed f 10 c.loop-i.i c.loop-i-test.true (sym c.is_wrong.ensures ∙ c.if-is_wrong.false) ∙ c.loop-i.invariant

pub returns : goal.returns
unfolding first_wrong
returns c =
    let f = wrong_pair (classes c.args.t c.args.frame.now) in
    ap or_ten (sym (first-over f 10 c.loop-i.i c.loop-i-test.false) ∙ c.loop-i.invariant)
