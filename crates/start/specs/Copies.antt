-- Where the copies of a block lie (document 01, 'Blocks', and 'Reading a block', rule 2).
use Rattle.std.specs.Prelude.{ℕ, ◌+◌, ◌*◌, cond, ltb}
use Rattle.refusal.specs.declared.Reason.TheVariants.{CutShort}
use Rattle.refusal.specs.Outcome.{Outcome, accepted, refuse}
use Rattle.start.specs.declared.Copies.{Copies}

-- a copy of n payload bytes has n + 10 byte places
abbrev pub copy_pulses : (n : ℕ) → ℕ
copy_pulses n = 20 * (n + 10)

-- byte place i of a copy that begins at a place
abbrev pub byte_place : (copy i : ℕ) → ℕ
byte_place copy i = copy + 20 * i

-- copy one is 20(n + 10) pulses from p on; copy two starts 20(n + 10) + 61 pulses after p and is as long
abbrev pub copy_two : (p n : ℕ) → ℕ
copy_two p n = p + copy_pulses n + 61

-- the place after copy two
abbrev pub end_of : (p n : ℕ) → ℕ
end_of p n = copy_two p n + copy_pulses n

abbrev pub copies_of : (p n : ℕ) → Copies
copies_of p n = record { one = p; two = copy_two p n; end = end_of p n }

-- on a strip of that many pulses: refusal 4 where it ends before copy two does
unfoldable pub locate_copies : (count p n : ℕ) → Outcome Copies
locate_copies count p n = cond (ltb count (end_of p n)) (refuse CutShort p) (accepted (copies_of p n))
