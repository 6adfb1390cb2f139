-- The totals with a strip added: what is refused, and that no sum is too large.
use Prim.Native.Nat.{ℕ, zero, suc, ◌*◌, ◌≤◌, ◌<◌}
use native.Mathlib.Omega.{arith}
use Rattle.std.proofs.lemmas.Bool.Decides.{nat_tests}
use mathlib.Core.Path.{◌≡◌, refl, ap}
use mathlib.Core.Bool.{Bool, true, false, ◌||◌}
use Rattle.std.specs.List.{list_any}
use mathlib.Core.List.{List, [], ◌∷◌}
use borrow.Author.Tests.{ltb-false}
use lib.Dec.{leb, ltb}
use lib.ListN.{length, get_or, length-map}
use Rattle.lists.proofs.BoolLaws.{or-false}
use Rattle.refusal.specs.declared.Reason.TheVariants.{WrongSize}
use Rattle.refusal.specs.Outcome.{accepted, refuse}
use Rattle.pulse.specs.declared.Thresholds.{Thresholds}
use Rattle.pulse.specs.declared.Class.{Class}
use Rattle.pulse.specs.declared.Class.TheVariants.{Short, Medium, Long, Noise}
use Rattle.pulse.specs.Pulse.{class_of, classes}
use Rattle.block.specs.declared.Tally.{Tally}
use Rattle.block.specs.Looking.{each_cause, cause_numbers, for_cause}
use Rattle.block.proofs.LookingLaws.{for-most}
use Rattle.wear.specs.declared.Totals.{Totals}
use Rattle.wear.specs.declared.count.Pulses.{Pulses}
use Rattle.wear.specs.Walk.{blocks}
use Rattle.wear.specs.Report.{total, bad_of, added, is_above, any_above, is_full, report_strip}
use Rattle.wear.specs.private.Counts.{pulses_of, places_of, sums, SumsFit}
use Rattle.wear.proofs.ClassLaws.{count_most}
use Rattle.wear.proofs.Walking.{one-most, two-most, lost-most, bad-most, both-fit}

-- ---- Totals that are not full

abbrev most : ℕ
most = 1000000000000

pub record Open (t : Totals) : Type 0 where
  pub strips : t.strips < 1000
  pub shorts : t.shorts ≤ most
  pub mediums : t.mediums ≤ most
  pub longs : t.longs ≤ most
  pub noises : t.noises ≤ most
  pub one : t.one ≤ most
  pub two : t.two ≤ most
  pub lost : t.lost ≤ most
  pub bad : (cause : ℕ) → for_cause cause t.bad ≤ most

none_above : (ns : List ℕ) → any_above ns ≡ false → (i : ℕ) → get_or ns i 0 ≤ most
unfolding any_above
none_above [] e i = omega arith
none_above (n ∷ ns) e zero = ltb-false most n (or-false (is_above n) (any_above ns) e).0
none_above (n ∷ ns) e (suc i) = none_above ns (or-false (is_above n) (any_above ns) e).1 i

pub above-any : (ns : List ℕ) → list_any is_above ns ≡ any_above ns
unfolding any_above
above-any [] = refl
above-any (n ∷ ns) = ap (λ r. is_above n || r) (above-any ns)

-- the tests of the strips, of seven counts and of eleven
pub full-any : (t : Totals) {counts causes : Bool}
    → counts ≡ any_above (t.shorts ∷ t.mediums ∷ t.longs ∷ t.noises ∷ t.one ∷ t.two ∷ t.lost ∷ []) → causes ≡ any_above (cause_numbers t.bad)
    → (leb 1000 t.strips || counts || causes) ≡ is_full t
unfolding any_above
full-any t e f = rw (e, f) (grind (arith, nat_tests))

not_full : (t : Totals) → is_full t ≡ false → Open t
not_full t e =
    let all = or-false _ (any_above (cause_numbers t.bad)) e in
    record {
      strips = grind (arith, nat_tests);
      shorts = grind (arith, nat_tests);
      mediums = grind (arith, nat_tests);
      longs = grind (arith, nat_tests);
      noises = grind (arith, nat_tests);
      one = grind (arith, nat_tests);
      two = grind (arith, nat_tests);
      lost = grind (arith, nat_tests);
      bad = none_above (cause_numbers t.bad) all.1;
    }

-- ---- The report

module _ (h : Thresholds) (t : Totals) (strip : List ℕ) where
  abbrev cs : List Class
  cs = classes h strip

  pub report-refused : (is_full t || ltb 1048576 (length strip)) ≡ true → refuse WrongSize 0 ≡ report_strip t cs
  unfolding report_strip
  report-refused e = rw (length-map strip (class_of h), e)

  module _ (e : (is_full t || ltb 1048576 (length strip)) ≡ false) where
    pub report-open : Open t × (length strip ≤ 1048576)
    report-open = let s = or-false (is_full t) (ltb 1048576 (length strip)) e in (not_full t s.0, ltb-false 1048576 (length strip) s.1)

    -- the number for a cause is that of all blocks, or 0
    for-total : (cause : ℕ) → for_cause cause (each_cause (λ c. total (bad_of c) (blocks cs))) ≤ 16386 * length cs
    for-total = for-most (λ c. total (bad_of c) (blocks cs)) (16386 * length cs) (bad-most cs)

    module _ {p : Pulses} {q : Tally} (counted : p ≡ pulses_of cs) (walked : q ≡ places_of (blocks cs)) where
      -- a strip adds at most 1,048,576 pulses to a class, and at most 8,193 places for each of its pulses
      pub sums-fit : SumsFit t p q
      unfolding pulses_of places_of
      sums-fit =
          let few = report-open.1 in
          let l = length-map strip (class_of h) in
          let o = report-open.0 in
          rw (counted, walked) (record {
            strips = omega (arith, o.strips);
            shorts = omega (arith, o.shorts, count_most Short cs);
            mediums = omega (arith, o.mediums, count_most Medium cs);
            longs = omega (arith, o.longs, count_most Long cs);
            noises = omega (arith, o.noises, count_most Noise cs);
            one = omega (arith, o.one, one-most cs);
            two = omega (arith, o.two, two-most cs);
            lost = omega (arith, o.lost, lost-most cs);
            bad = both-fit t.bad _ (λ cause. omega (arith, o.bad cause, for-total cause));
          })

      pub report-added : {r : Totals} → r ≡ sums t p q → accepted r ≡ report_strip t cs
      unfolding report_strip added pulses_of places_of
      report-added s = rw (length-map strip (class_of h), e, s, counted, walked)
