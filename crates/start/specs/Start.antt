-- The start of a block (document 01, 'Reading a block', rule 1), on the classes of a strip.
use Rattle.std.specs.Prelude.{ℕ, ◌+◌, ◌-◌, ◌≤◌, ◌≡◌, Bool, true, ◌&&◌, List, [], ◌∷◌, leb, length, replicate, Option, None, Some}
use Rattle.lists.specs.Places.{first_from, part}
use Rattle.refusal.specs.declared.Reason.TheVariants.{NoStart}
use Rattle.refusal.specs.Outcome.{Outcome, accepted, refuse}
use Rattle.pulse.specs.declared.Class.{Class}
use Rattle.pulse.specs.declared.Class.TheVariants.{Short}
use Rattle.pulse.specs.Pulse.{same}
use Rattle.byte.specs.declared.ByteRead.TheVariants.{Good}
use Rattle.byte.specs.Byte.{byte_at, is_good}

unfoldable pub all_short : List Class → Bool
all_short [] = true
all_short (c ∷ cs) = same c Short && all_short cs

-- 16 short pulses just before p, all at or after `from`, and the 20 pulses from p on a good byte $89
unfoldable pub is_start : (cs : List Class) (from p : ℕ) → Bool
is_start cs from p = leb (from + 16) p && all_short (part cs (p - 16) 16) && is_good 0x89 (byte_at cs p)

-- the same in words
pub record Start (cs : List Class) (from p : ℕ) : Type 0 where
  pub far : from + 16 ≤ p
  pub shorts : part cs (p - 16) 16 ≡ replicate 16 Short
  pub first : byte_at cs p ≡ Good 0x89

-- the start is the smallest such place
unfoldable pub start_of : (cs : List Class) (from : ℕ) → Option ℕ
start_of cs from = first_from (is_start cs from) (length cs) 0

-- what the search comes to: refusal 3 where there is none
abbrev pub start_at : Option ℕ → Outcome ℕ
start_at None = refuse NoStart 0
start_at (Some p) = accepted p

unfoldable pub find_start : (cs : List Class) (from : ℕ) → Outcome ℕ
find_start cs from = start_at (start_of cs from)
