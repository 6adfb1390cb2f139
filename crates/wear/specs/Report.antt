-- The report over many strips (document 02, Q-1).
use Rattle.std.specs.Prelude.{ℕ, ◌+◌, Bool, false, cond, ◌||◌, List, [], ◌∷◌, leb, ltb, length}
use Rattle.refusal.specs.declared.Reason.TheVariants.{WrongSize}
use Rattle.refusal.specs.Outcome.{Outcome, accepted, refuse}
use Rattle.pulse.specs.declared.Class.{Class}
use Rattle.pulse.specs.declared.Class.TheVariants.{Short, Medium, Long, Noise}
use Rattle.pulse.specs.Pulse.{same}
use Rattle.block.specs.Looking.{each_cause, cause_numbers, for_cause}
use Rattle.wear.specs.declared.Totals.{Totals}
use Rattle.wear.specs.Walk.{Block, blocks}

-- how many pulses have a class
unfoldable pub count_of : Class → List Class → ℕ
count_of c [] = 0
count_of c (x ∷ cs) = cond (same x c) 1 0 + count_of c cs

-- a count of each block, added up
unfoldable pub total : (Block → ℕ) → List Block → ℕ
total count [] = 0
total count (b ∷ bs) = count b + total count bs

-- places taken from copy one, taken from copy two, lost
abbrev pub one_of : Block → ℕ
one_of b = b.tally.one

abbrev pub two_of : Block → ℕ
two_of b = b.tally.two

abbrev pub lost_of : Block → ℕ
lost_of b = b.tally.lost

-- bytes that are bad for a cause
abbrev pub bad_of : (cause : ℕ) → Block → ℕ
bad_of cause b = for_cause cause b.tally.bad

-- the totals with the places of some blocks added, and their bad bytes
abbrev pub with_blocks : List Block → Totals → Totals
with_blocks bs t = record {
  strips = t.strips;
  shorts = t.shorts;
  mediums = t.mediums;
  longs = t.longs;
  noises = t.noises;
  one = t.one + total one_of bs;
  two = t.two + total two_of bs;
  lost = t.lost + total lost_of bs;
  bad = each_cause (λ cause. for_cause cause t.bad + total (bad_of cause) bs);
}

-- the totals with a strip and its pulses added
abbrev pub with_pulses : (cs : List Class) → Totals → Totals
with_pulses cs t = record {
  strips = t.strips + 1;
  shorts = t.shorts + count_of Short cs;
  mediums = t.mediums + count_of Medium cs;
  longs = t.longs + count_of Long cs;
  noises = t.noises + count_of Noise cs;
  one = t.one;
  two = t.two;
  lost = t.lost;
  bad = t.bad;
}

-- the totals with a strip added: the strip, its pulses of each class, and the places and the bad bytes of all blocks of its walk
unfoldable pub added : Totals → (cs : List Class) → Totals
added t cs = with_blocks (blocks cs) (with_pulses cs t)

-- a total above 1,000,000,000,000
abbrev pub is_above : ℕ → Bool
is_above n = ltb 1000000000000 n

unfoldable pub any_above : List ℕ → Bool
any_above [] = false
any_above (n ∷ ns) = is_above n || any_above ns

-- 1,000 strips or more, or one total above that
abbrev pub is_full : Totals → Bool
is_full t =
    leb 1000 t.strips
    || (is_above t.shorts || is_above t.mediums || is_above t.longs || is_above t.noises)
    || (is_above t.one || is_above t.two || is_above t.lost)
    || any_above (cause_numbers t.bad)

-- refusal 1 where the totals are full or the strip has over 1,048,576 pulses
unfoldable pub report_strip : Totals → (cs : List Class) → Outcome Totals
report_strip t cs = cond (is_full t || ltb 1048576 (length cs)) (refuse WrongSize 0) (accepted (added t cs))
