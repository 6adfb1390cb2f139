-- What is counted on one strip, and the totals with it.
use Rattle.std.specs.Prelude.{◌+◌, ◌^◌, ◌<◌, List}
use Rattle.pulse.specs.declared.Class.{Class}
use Rattle.pulse.specs.declared.Class.TheVariants.{Short, Medium, Long, Noise}
use Rattle.block.specs.declared.ByCause.{ByCause}
use Rattle.block.specs.declared.Tally.{Tally}
use Rattle.block.specs.Looking.{each_cause, for_cause}
use Rattle.wear.specs.declared.Totals.{Totals}
use Rattle.wear.specs.declared.count.Pulses.{Pulses}
use Rattle.wear.specs.Walk.{Block}
use Rattle.wear.specs.Report.{count_of, total, one_of, two_of, lost_of, bad_of}

-- the pulses of each class
unfoldable pub pulses_of : (cs : List Class) → Pulses
pulses_of cs = record { shorts = count_of Short cs; mediums = count_of Medium cs; longs = count_of Long cs; noises = count_of Noise cs }

-- the places of some blocks, and their bad bytes
unfoldable pub places_of : List Block → Tally
places_of bs = record { one = total one_of bs; two = total two_of bs; lost = total lost_of bs; bad = each_cause (λ cause. total (bad_of cause) bs) }

-- ---- One strip more

-- the bad bytes of both
abbrev pub both_bad : ByCause → ByCause → ByCause
both_bad a b = each_cause (λ cause. for_cause cause a + for_cause cause b)

-- no sum of them is too large
pub record BothFit (a b : ByCause) : Type 0 where
  pub marker : a.marker + b.marker < 2 ^ 64
  pub bit0 : a.bit0 + b.bit0 < 2 ^ 64
  pub bit1 : a.bit1 + b.bit1 < 2 ^ 64
  pub bit2 : a.bit2 + b.bit2 < 2 ^ 64
  pub bit3 : a.bit3 + b.bit3 < 2 ^ 64
  pub bit4 : a.bit4 + b.bit4 < 2 ^ 64
  pub bit5 : a.bit5 + b.bit5 < 2 ^ 64
  pub bit6 : a.bit6 + b.bit6 < 2 ^ 64
  pub bit7 : a.bit7 + b.bit7 < 2 ^ 64
  pub parity : a.parity + b.parity < 2 ^ 64
  pub ones : a.ones + b.ones < 2 ^ 64

-- the places of both, and their bad bytes
abbrev pub both_tallies : Tally → Tally → Tally
both_tallies a b = record { one = a.one + b.one; two = a.two + b.two; lost = a.lost + b.lost; bad = both_bad a.bad b.bad }

-- no sum of them is too large
pub record TalliesFit (a b : Tally) : Type 0 where
  pub one : a.one + b.one < 2 ^ 64
  pub two : a.two + b.two < 2 ^ 64
  pub lost : a.lost + b.lost < 2 ^ 64
  pub bad : BothFit a.bad b.bad

abbrev pub sums : Totals → Pulses → Tally → Totals
sums t pulses places = record {
  strips = t.strips + 1;
  shorts = t.shorts + pulses.shorts;
  mediums = t.mediums + pulses.mediums;
  longs = t.longs + pulses.longs;
  noises = t.noises + pulses.noises;
  one = t.one + places.one;
  two = t.two + places.two;
  lost = t.lost + places.lost;
  bad = both_bad t.bad places.bad;
}

-- no sum is too large
pub record SumsFit (t : Totals) (pulses : Pulses) (places : Tally) : Type 0 where
  pub strips : t.strips + 1 < 2 ^ 64
  pub shorts : t.shorts + pulses.shorts < 2 ^ 64
  pub mediums : t.mediums + pulses.mediums < 2 ^ 64
  pub longs : t.longs + pulses.longs < 2 ^ 64
  pub noises : t.noises + pulses.noises < 2 ^ 64
  pub one : t.one + places.one < 2 ^ 64
  pub two : t.two + places.two < 2 ^ 64
  pub lost : t.lost + places.lost < 2 ^ 64
  pub bad : BothFit t.bad places.bad
