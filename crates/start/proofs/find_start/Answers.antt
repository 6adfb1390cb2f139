-- `start::find_start` meets its contract. The invariant of the search, and of its way to the next run of short pulses: no place before the
-- end of the sixteen pulses is a start. That of the look: the pairs passed are those of $89.
use Prim.Native.Nat.{ℕ, ◌+◌, ◌-◌}
use native.Mathlib.Omega.{arith}
use mathlib.Core.Path.{◌≡◌, sym, ap, ◌∙◌}
use mathlib.Core.List.{List}
use Rattle.std.specs.Prelude.{Some, Option, ℕ}
use lib.ListN.{length, length-map}
use Rattle.lists.specs.Places.{first_from}
use Rattle.lists.proofs.PlaceLaws.{some_first}
use Rattle.pulse.specs.declared.Thresholds.{Thresholds}
use Rattle.pulse.specs.Pulse.{class_of, classes}
use Rattle.byte.proofs.Matching.{fits-there, is_good-fits, is_good-unfit}
use Rattle.start.specs.Start.{start_at, find_start}
use Rattle.start.specs.private.Search.{not_short, last_from}
use Rattle.start.proofs.Searching.{some-last, find_start-fewer, searching-not_short, find_start-run_lasts, find_start-cut_short, searching-other_byte, find_start-found}
use Rattle.start.proofs.find_start.Goals as goal
use Rattle.start.proofs.find_start.Goals.{In-Some}

-- where one of the sixteen pulses is not short
last-there : (arm : In-Some) → last_from (not_short (classes arm.args.t arm.args.strip.now)) 16 arm.runs.at ≡ Some arm.in-Some.last
last-there arm = sym arm.last_not_short.ensures ∙ arm.in-Some.is

-- where the run of short pulses ends
end-there : (t : Thresholds) (strip : List ℕ) (at end : ℕ) {found : Option ℕ} → found ≡ first_from (not_short (classes t strip)) (length strip - (at + 16)) (at + 16)
    → found ≡ Some end → first_from (not_short (classes t strip)) (length strip - (at + 16)) (at + 16) ≡ Some end
end-there t strip at end e is = sym e ∙ is

pub overflow_add-at : goal.overflow_add-at
overflow_add-at c = let r = some-last _ _ 16 _ (last-there c) in omega arith

pub runs-smaller : goal.runs-smaller
runs-smaller c = let r = some-last _ _ 16 _ (last-there c) in omega arith

pub runs-preserved : goal.runs-preserved
runs-preserved c =
    let r = some-last _ _ 16 _ (last-there c) in
    (omega arith, searching-not_short c.runs.invariant.1 (last-there c))

pub search-smaller : goal.search-smaller
search-smaller c =
    let r = some_first _ _ _ _ (end-there c.args.t c.args.strip.now c.runs.at c.in-Some-first_not_short.end c.first_not_short.ensures c.in-Some-first_not_short.is) in
    omega arith

pub search-preserved : goal.search-preserved
search-preserved c =
    searching-other_byte c.runs.invariant.1 _ (end-there c.args.t c.args.strip.now c.runs.at c.in-Some-first_not_short.end c.first_not_short.ensures c.in-Some-first_not_short.is)
    (is_good-unfit (classes c.args.t c.args.strip.now) c.in-Some-first_not_short.end 0x89 c.loop-i.i (omega arith) (sym (fits-there c.args.t c.args.strip.now c.in-Some-first_not_short.end 0x89 c.loop-i.i (omega arith)) ∙ sym c.pair_fits.ensures ∙ c.if-not-pair_fits.true))

pub returns-then-saturating_sub-lt-SYNC_SHORTS : goal.returns-then-saturating_sub-lt-SYNC_SHORTS
unfolding find_start
returns-then-saturating_sub-lt-SYNC_SHORTS c =
    ap start_at (find_start-fewer c.runs.invariant.1 (omega (arith, length-map c.args.strip.now (class_of c.args.t))))

pub returns-in_default-first_not_short : goal.returns-in_default-first_not_short
unfolding find_start
returns-in_default-first_not_short c =
    ap start_at (find_start-run_lasts c.runs.invariant.1 _ (omega (arith, length-map c.args.strip.now (class_of c.args.t))) (sym c.first_not_short.ensures ∙ c.in_default-first_not_short.is))

pub returns-then-saturating_sub-lt-BYTE_PULSES : goal.returns-then-saturating_sub-lt-BYTE_PULSES
unfolding find_start
returns-then-saturating_sub-lt-BYTE_PULSES c =
    ap start_at (find_start-cut_short c.runs.invariant.1 _ (end-there c.args.t c.args.strip.now c.runs.at c.in-Some-first_not_short.end c.first_not_short.ensures c.in-Some-first_not_short.is)
    (omega (arith, length-map c.args.strip.now (class_of c.args.t))))

pub returns-after-loop-i : goal.returns-after-loop-i
unfolding find_start
returns-after-loop-i c =
    ap start_at (find_start-found c.runs.invariant.1 _ (end-there c.args.t c.args.strip.now c.runs.at c.in-Some-first_not_short.end c.first_not_short.ensures c.in-Some-first_not_short.is)
    (sym c.last_not_short.ensures ∙ c.in_default.is)
    (is_good-fits (classes c.args.t c.args.strip.now) c.in-Some-first_not_short.end 0x89 (omega arith) (omega (arith, length-map c.args.strip.now (class_of c.args.t))) (omega arith) c.loop-i.invariant))
