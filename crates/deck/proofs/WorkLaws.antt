-- Laws of the working buffer: what stands at a place, after a byte of copy one is put there and after copy two's is checked.
use Prim.Native.Nat.{ℕ, suc, ◌+◌, ◌*◌, ◌<◌}
use native.Mathlib.Omega.{arith}
use mathlib.Core.Path.{◌≡◌, refl, ◌∙◌}
use mathlib.Core.Bool.{Bool, true, false, cond}
use mathlib.Core.List.{List}
use lib.Dec.{ltb}
use lib.ListN.{length, get_or, set, length-set}
use lib.Seq.{get_or-set_same, get_or-set_other}
use Rattle.lists.specs.Places.{tabulate}
use Rattle.lists.proofs.PlaceLaws.{tabulate-same}
use Rattle.byte.specs.declared.ByteRead.{ByteRead}
use Rattle.byte.specs.declared.ByteRead.TheVariants.{Good, Bad}
use Rattle.block.specs.Reading.{Place, FromOne, FromTwo, Lost, place_of, place_value}
use Rattle.deck.specs.Work.{value_byte, cause_byte, put_byte, byte_by, get_byte, payload_in}
use Rattle.deck.specs.Judge.{mended, mend_byte}
use Rattle.deck.specs.Claim.{kept}

-- the byte r stands at place i
pub record Stands (w : List ℕ) (i : ℕ) (r : ByteRead) : Type 0 where
  pub value : get_or w (2 * i) 0 ≡ value_byte r
  pub cause : get_or w (2 * i + 1) 0 ≡ cause_byte r

-- ---- get_byte

by_bytes : (r : ByteRead) → byte_by (value_byte r) (cause_byte r) ≡ r
by_bytes (Good v) = refl
by_bytes (Bad cause) = let z : cause + 1 ≡ suc cause = omega arith in rw z

pub get-stands : (w : List ℕ) (i : ℕ) (r : ByteRead) → Stands w i r → get_byte w i ≡ r
unfolding get_byte
get-stands w i r s = rw (s.value, s.cause) (by_bytes r)

-- ---- put_byte

module _ (w : List ℕ) (i : ℕ) (r : ByteRead) where
  pub length-put_byte : length (put_byte w i r) ≡ length w
  unfolding put_byte
  length-put_byte = simp length-set

  pub put-here : 2 * i + 1 < length w → Stands (put_byte w i r) i r
  unfolding put_byte
  put-here h = record {
    value =
        get_or-set_other (set w (2 * i) (value_byte r)) (2 * i + 1) (2 * i) (cause_byte r) 0 (λ e. omega arith)
        ∙ get_or-set_same w (2 * i) (value_byte r) 0 (omega arith);
    cause = get_or-set_same (set w (2 * i) (value_byte r)) (2 * i + 1) (cause_byte r) 0 (rw length-set h);
  }

  -- no other byte changes
  pub put-away : (x : ℕ) → (x ≡ 2 * i → ⊥) → (x ≡ 2 * i + 1 → ⊥) → get_or (put_byte w i r) x 0 ≡ get_or w x 0
  unfolding put_byte
  put-away x a b = get_or-set_other (set w (2 * i) (value_byte r)) (2 * i + 1) x (cause_byte r) 0 b ∙ get_or-set_other w (2 * i) x (value_byte r) 0 a

-- another place, where no byte of it changes
pub stands-still : (w w' : List ℕ) (i j : ℕ) (r : ByteRead) → ((x : ℕ) → (x ≡ 2 * i → ⊥) → (x ≡ 2 * i + 1 → ⊥) → get_or w' x 0 ≡ get_or w x 0)
    → (j ≡ i → ⊥) → Stands w j r → Stands w' j r
stands-still w w' i j r away other s = record {
  value = away (2 * j) (λ e. other (omega arith)) (λ e. omega arith) ∙ s.value;
  cause = away (2 * j + 1) (λ e. omega arith) (λ e. other (omega arith)) ∙ s.cause;
}

-- ---- mend_byte

-- what stands at place i after copy two's byte there is checked
abbrev pub settled : (i : ℕ) (one two : ByteRead) → ByteRead
settled i one two = cond (ltb i 9) one (kept one two)

module _ (w : List ℕ) (i : ℕ) (one two : ByteRead) where
  pub length-mend : length (mend_byte w i one two) ≡ length w
  unfolding mend_byte
  length-mend = go _ _
    where
      go : (t : Bool) (p : Place) → length (cond t w (mended w i p)) ≡ length w
      go true p = refl
      go false (FromOne v) = refl
      go false (FromTwo v) = length-put_byte w i (Good v)
      go false (Lost causes) = refl

  pub mend-away : (x : ℕ) → (x ≡ 2 * i → ⊥) → (x ≡ 2 * i + 1 → ⊥) → get_or (mend_byte w i one two) x 0 ≡ get_or w x 0
  unfolding mend_byte
  mend-away x a b = go _ _
    where
      go : (t : Bool) (p : Place) → get_or (cond t w (mended w i p)) x 0 ≡ get_or w x 0
      go true p = refl
      go false (FromOne v) = refl
      go false (FromTwo v) = put-away w i (Good v) x a b
      go false (Lost causes) = refl

  pub mend-here : 2 * i + 1 < length w → Stands w i one → Stands (mend_byte w i one two) i (settled i one two)
  unfolding mend_byte
  mend-here h s = go (ltb i 9) one two s
    where
      go : (t : Bool) (one two : ByteRead) → Stands w i one → Stands (cond t w (mended w i (place_of one two))) i (cond t one (kept one two))
      go true one two s = s
      go false (Good v) two s = s
      go false (Bad cause) (Good v) s = put-here w i (Good v) h
      go false (Bad one) (Bad two) s = s

-- ---- payload_in

-- the value byte of what is kept is the place's value
pub kept-value : (one two : ByteRead) → value_byte (kept one two) ≡ place_value (place_of one two)
kept-value (Good v) two = refl
kept-value (Bad cause) (Good v) = refl
kept-value (Bad one) (Bad two) = refl

pub payload-is : (n : ℕ) (w : List ℕ) (f : ℕ → ℕ) → ((i : ℕ) → i < n → get_or w (2 * (9 + i)) 0 ≡ f i) → payload_in n w ≡ tabulate f n 0
unfolding payload_in
payload-is n w f h = tabulate-same (λ i. get_or w (2 * (9 + i)) 0) f n 0 (λ i a b. h i (omega arith))
