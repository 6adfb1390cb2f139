-- The search for the start, pulse by pulse.
use Rattle.std.specs.Prelude.{ℕ, zero, suc, ◌-◌, Bool, cond, List, [], ◌∷◌, ◌++◌, eqb, length, take, drop, replicate}
use Rattle.pulse.specs.declared.Class.{Class}
use Rattle.pulse.specs.declared.Class.TheVariants.{Short}
use Rattle.byte.specs.Byte.{byte_classes}
use Rattle.byte.specs.Damage.{differ}

-- the 36 pulses by which a start is known: sixteen short ones, and $89
unfoldable pub lead : List Class
lead = replicate 16 Short ++ byte_classes 0x89

-- the last m of these classes are the first m of the lead
unfoldable pub ends_with : (cs : List Class) (m : ℕ) → Bool
ends_with cs m = eqb (differ (take m lead) (drop (length cs - m) cs)) 0

-- how many pulses of the lead end these classes: the largest such number, up to `most`
unfoldable pub longest_end : (cs : List Class) (most : ℕ) → ℕ
longest_end cs zero = zero
longest_end cs (suc m) = let fewer = longest_end cs m in cond (ends_with cs (suc m)) (suc m) fewer

-- how many end what was heard, when `matched` did before and a pulse of class c comes now
unfoldable pub seek : (matched : ℕ) → Class → ℕ
seek matched c = longest_end (take matched lead ++ (c ∷ [])) (suc matched)
