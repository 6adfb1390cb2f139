-- What a refusal of the file reader tells of the causes of bad bytes.
use Prim.Native.Nat.{ℕ}
use native.Mathlib.Omega.{arith}
use mathlib.Core.Path.{◌≡◌, refl}
use mathlib.Core.Logic.{◌⊎◌, inl, inr}
use mathlib.Core.Bool.{Bool, true, false, cond}
use mathlib.Core.List.{List}
use Rattle.std.specs.Prelude.{None}
use lib.Dec.{ltb}
use Rattle.refusal.specs.declared.Reason.{Reason}
use Rattle.refusal.specs.declared.Reason.TheVariants.{NoRoom, WrongType, WrongAddresses}
use Rattle.refusal.specs.Refusal.{Why, number_of, causes_of, why_in}
use Rattle.refusal.specs.Outcome.{Outcome, refused, accepted, refuse, if_room, mapped, of_block, and_then}
use Rattle.pulse.specs.declared.Class.{Class}
use Rattle.block.specs.Reading.{BlockRead, read_from}
use Rattle.block.specs.Claim.{LostTold}
use Rattle.block.proofs.Telling.{refuse-plain, lost-in, read_from-tells}
use Rattle.header.specs.declared.Fields.{Fields}
use Rattle.header.specs.Header.{fields_of}
use Rattle.file.specs.File.{not_program, wrong_addresses, data_bytes, measure_data}
use Rattle.file.specs.Reading.{FileRead, file_read, read_data, read_file_by, read_file}
use Rattle.file.specs.Causes.{DataLost, FileCauses}

-- what a refusal of the file from a place on tells
record Told (cs : List Class) (from : ℕ) (why : Why) : Type 0 where
  blocks : why.number ≡ 6 → (why.block ≡ 0) ⊎ (why.block ≡ 1)
  first : why.number ≡ 6 → why.block ≡ 0 → LostTold cs from 192 why
  second : why.number ≡ 6 → why.block ≡ 1 → DataLost cs from why
  others : (why.number ≡ 6 → ⊥) → why.causes ≡ None

module _ (cs : List Class) (from : ℕ) (why : Why) where
  -- any other reason than a lost byte
  plain : {A : Type 0} (reason : Reason) (place : ℕ) → (number_of reason ≡ 6 → ⊥) → causes_of reason ≡ None
      → ◌≡◌ {A = Outcome A} (refuse reason place) (refused why) → Told cs from why
  plain reason place six causes e =
      let p = refuse-plain why reason place six causes e in
      record { blocks = λ s. absurd (p.0 s); first = λ s. absurd (p.0 s); second = λ s. absurd (p.0 s); others = λ _. p.1 }

  -- the header is refused
  header-told : read_from cs from 192 ≡ refused why → Told cs from why
  header-told e =
      let t = read_from-tells cs from 192 why e in
      record { blocks = λ _. inl t.block; first = λ s _. t.lost s; second = λ _ k. absurd (omega (arith, t.block)); others = t.others }

  module _ (h : BlockRead) (read : read_from cs from 192 ≡ accepted h) where
    abbrev f : Fields
    f = fields_of h.payload

    -- its data block is refused
    bytes-told : (inner : Why) → read_from cs h.extent.end (data_bytes f) ≡ refused inner → why_in 1 inner ≡ why → Told cs from why
    bytes-told inner e same =
        let t = read_from-tells cs h.extent.end (data_bytes f) inner e in
        rw (← same) (record {
          blocks = λ _. inr refl;
          first = λ _ k. absurd (omega arith);
          second = λ s _. record { header = h; read = read; told = lost-in cs h.extent.end (data_bytes f) 1 inner (t.lost s) };
          others = t.others;
        })

    -- the data block of n bytes, with so many places lent
    module _ (header_room data_room : ℕ) where
      abbrev lent : (n : ℕ) → Outcome FileRead
      lent n = if_room header_room 192 (if_room data_room n (mapped (file_read h.payload) (of_block 1 (read_from cs h.extent.end n))))

      rooms-told : lent (data_bytes f) ≡ refused why → Told cs from why
      unfolding if_room
      rooms-told e = go (ltb header_room 192) (ltb data_room (data_bytes f)) (read_from cs h.extent.end (data_bytes f)) refl e
        where
          go : (short less : Bool) (o : Outcome BlockRead) → read_from cs h.extent.end (data_bytes f) ≡ o
              → cond short (refuse NoRoom 0) (cond less (refuse NoRoom 0) (mapped (file_read h.payload) (of_block 1 o))) ≡ refused why
              → Told cs from why
          go true less o g e = plain NoRoom 0 (λ z. omega arith) refl e
          go false true o g e = plain NoRoom 0 (λ z. omega arith) refl e
          go false false (refused inner) g e = bytes-told inner g cc
          go false false (accepted d) g e = absurd (let z : ◌≡◌ {A = ℕ} 0 1 = cc in omega arith)

      data-told : read_data (read_from cs) header_room data_room h.extent.end h.payload ≡ refused why → Told cs from why
      unfolding read_data measure_data
      data-told e = go (not_program f.kind) (wrong_addresses f) e
        where
          go : (kind order : Bool)
              → and_then (cond kind (refuse WrongType 0) (cond order (refuse WrongAddresses 0) (accepted (data_bytes f)))) lent ≡ refused why
              → Told cs from why
          go true order e = plain WrongType 0 (λ z. omega arith) refl e
          go false true e = plain WrongAddresses 0 (λ z. omega arith) refl e
          go false false e = rooms-told e

  file-told : (header_room data_room : ℕ) → read_file cs header_room data_room from ≡ refused why → Told cs from why
  unfolding read_file_by
  file-told header_room data_room e = go (read_from cs from 192) refl e
    where
      go : (o : Outcome BlockRead) → read_from cs from 192 ≡ o
          → and_then o (λ h. read_data (read_from cs) header_room data_room h.extent.end h.payload) ≡ refused why → Told cs from why
      go (refused inner) g e = let same : inner ≡ why = cc in header-told (rw same at g)
      go (accepted h) g e = data-told h g header_room data_room e

pub file-causes : FileCauses
file-causes = record {
  blocks = λ cs h b from why e. (file-told cs from why h b e).blocks;
  first = λ cs h b from why e. (file-told cs from why h b e).first;
  second = λ cs h b from why e. (file-told cs from why h b e).second;
  others = λ cs h b from why e. (file-told cs from why h b e).others;
}
