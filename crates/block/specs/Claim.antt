-- What holds of the causes of bad bytes (document 02, Q-6).
use Rattle.std.specs.Prelude.{ℕ, ◌+◌, ◌*◌, ◌≤◌, ◌<◌, ◌≡◌, false, ◌&&◌, List, [], ◌∷◌, None, Some}
use Rattle.lists.specs.Places.{count_below}
use Rattle.refusal.specs.Refusal.{Why}
use Rattle.refusal.specs.Outcome.{refused, accepted}
use Rattle.pulse.specs.declared.Class.{Class}
use Rattle.byte.specs.declared.ByteRead.TheVariants.{Bad}
use Rattle.byte.specs.Byte.{byte_at, is_bad}
use Rattle.start.specs.Start.{find_start}
use Rattle.start.specs.Copies.{byte_place, copy_two}
use Rattle.block.specs.Reading.{place_at, is_lost, read_block}
use Rattle.block.specs.Looking.{is_from_one, cause_numbers, tally_of}

-- ---- Words for the claims

-- a refusal of the block of n bytes from a place on names its first lost place, and why the bytes there are bad, in copy one and in copy two
pub record LostTold (cs : List Class) (from n : ℕ) (why : Why) : Type 0 where
  pub start : ℕ
  pub one : ℕ
  pub two : ℕ
  pub found : find_start cs from ≡ accepted start
  pub within : why.place ≤ n
  pub least : (i : ℕ) → i < why.place → is_lost cs start (copy_two start n) i ≡ false
  pub causes : why.causes ≡ Some (record { one = one; two = two })
  pub most : (one ≤ 10) × (two ≤ 10)
  pub first : byte_at cs (byte_place start (9 + why.place)) ≡ Bad one
  pub second : byte_at cs (byte_place (copy_two start n) (9 + why.place)) ≡ Bad two

-- numbers added up
unfoldable pub sum_of : List ℕ → ℕ
sum_of [] = 0
sum_of (n ∷ ns) = n + sum_of ns

-- how many places are taken from copy one where copy two's byte is bad
abbrev pub spare_bad : (cs : List Class) (one two n : ℕ) → ℕ
spare_bad cs one two n = count_below (λ i. is_from_one (place_at cs one two i) && is_bad (byte_at cs (byte_place two (9 + i)))) (n + 1)

-- ---- The claims

pub record CausesTold : Type 0 where
  -- Refusal 6 of the block reader names the first lost place, and tells the causes of the two bytes there.
  pub lost : (cs : List Class) (room from n : ℕ) (why : Why) → read_block cs room from n ≡ refused why → why.number ≡ 6 → LostTold cs from n why
  -- No other refusal of it has causes.
  pub others : (cs : List Class) (room from n : ℕ) (why : Why) → read_block cs room from n ≡ refused why → (why.number ≡ 6 → ⊥) → why.causes ≡ None
  -- The eleven counts of a block are together all its bad bytes: a lost place counts twice, a place taken from copy two once, and one taken from
  -- copy one where copy two's byte is bad.
  pub counts : (cs : List Class) (one two n : ℕ)
      → (let t = tally_of cs one two n in sum_of (cause_numbers t.bad) ≡ 2 * t.lost + t.two + spare_bad cs one two n)
