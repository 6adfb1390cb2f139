-- Where the written figures come from (document 01, 'Pulses'): they are the exact ones rounded to the nearest multiple of eight.
use Rattle.std.specs.Prelude.{ℕ, ◌+◌, ◌*◌, ◌/◌, ◌^◌, ◌≡◌}
use Rattle.pulse.specs.declared.Class.TheVariants.{Short, Medium, Long}
use Rattle.pulse.specs.Pulse.{written_as}

-- a clock in tenths of a hertz, and the half periods of the classes in tenths of a microsecond
pub record Machine : Type 0 where
  pub clock : ℕ
  pub short : ℕ
  pub medium : ℕ
  pub long : ℕ

-- 1.0227273 MHz, and 176, 256 and 336 µs (source documents 000 and 001)
abbrev pub ntsc : Machine
ntsc = record { clock = 10227273; short = 1760; medium = 2560; long = 3360 }

-- 0.9852486 MHz, and 182.7, 265.7 and 348.8 µs
abbrev pub pal : Machine
pal = record { clock = 9852486; short = 1827; medium = 2657; long = 3488 }

-- a whole period in cycles, to the nearest multiple of eight
abbrev pub rounded : ℕ → ℕ → ℕ
rounded clock half = 8 * ((2 * half * clock + 4 * 10 ^ 8) / (8 * 10 ^ 8))

-- the three written figures are this machine's
pub record RoundedFigures (m : Machine) : Type 0 where
  pub short : rounded m.clock m.short ≡ written_as Short
  pub medium : rounded m.clock m.medium ≡ written_as Medium
  pub long : rounded m.clock m.long ≡ written_as Long
