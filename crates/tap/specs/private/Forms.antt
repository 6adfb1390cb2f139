-- The forms of durations: what each stands for, what one byte counts of a duration, and whether all have a form.
use Rattle.std.specs.Prelude.{ℕ, ◌+◌, ◌*◌, ◌/◌, ◌%◌, Bool, true, cond, not, ◌&&◌, List, [], ◌∷◌, eqb, leb, Option, None, Some}
use Rattle.std.specs.Option.{is_some}
use Rattle.lists.specs.Places.{part}
use Rattle.lists.specs.Text.{low_first, from_low}
use Rattle.pulse.specs.Units.{unit_cycles}
use Rattle.tap.specs.declared.forms.Form.{Form}
use Rattle.tap.specs.declared.forms.Form.TheVariants.{Byte, Long}
use Rattle.tap.specs.Tap.{zero_cycles, first_without}

-- ---- Groups

unfoldable pub no_zeros : List ℕ → Bool
no_zeros [] = true
no_zeros (x ∷ xs) = not (eqb x 0) && no_zeros xs

-- ---- What a form stands for

-- what a byte stands for that is a form by itself
unfoldable pub lone_cycles : (byte : ℕ) → ℕ
lone_cycles b = cond (eqb b 0) zero_cycles (b * unit_cycles)

-- what the long form stands for that begins at a place
abbrev pub long_cycles : (bytes : List ℕ) (i : ℕ) → ℕ
long_cycles bytes i = from_low (part bytes (i + 1) 3)

-- ---- Which durations have a form

-- the units of a duration that one byte counts, or 0
unfoldable pub byte_units : (duration : ℕ) → ℕ
byte_units d = cond (eqb (d % unit_cycles) 0 && leb (d / unit_cycles) 255) (d / unit_cycles) 0

-- the bytes of a form; none where there is none
abbrev pub bytes_of : Option Form → List ℕ
bytes_of None = []
bytes_of (Some (Byte b)) = b ∷ []
bytes_of (Some (Long cycles)) = 0 ∷ low_first 3 cycles.0

-- some duration has no form
abbrev pub is_missing : (version : ℕ) (durations : List ℕ) → Bool
is_missing version ds = is_some (first_without version ds)
