-- What the file reader comes to, by what its parts answered, for any block reader.
use Prim.Native.Nat.{ℕ}
use Rattle.file.specs.declared.Loaded.{Loaded}
use Rattle.std.specs.Prelude.{Result, ℕ, Err, Ok}
use native.Mathlib.Omega.{arith}
use mathlib.Core.Path.{◌≡◌, refl, sym, ap, ◌∙◌}
use mathlib.Core.Bool.{Bool, true, false, cond, ◌||◌}
use mathlib.Core.List.{List}
use borrow.Author.Tests.{eq-eqb, ltb-false}
use lib.Dec.{ltb, lit≤}
use lib.ListN.{length, get_or, replicate}
use Rattle.lists.specs.Buffer.{put_at}
use Rattle.lists.proofs.BoolLaws.{or-false, cond-first}
use Rattle.lists.proofs.BufferLaws.{put_whole}
use Rattle.refusal.specs.declared.Reason.TheVariants.{NoRoom, WrongType}
use Rattle.refusal.specs.declared.Refusal.{Refusal}
use Rattle.refusal.specs.Refusal.{Why, why_of, why_in, refusal_at}
use Rattle.refusal.specs.Outcome.{Outcome, refused, accepted, refused_with, refuse, if_room, mapped, of_block, puts, outcome_of}
use Rattle.refusal.proofs.OutcomeLaws.{mapped-refused, mapped-accepted, of_block-accepted, cond-accepted}
use Rattle.refusal.proofs.PromiseLaws.{put-nothing, answers-refused, fills-refused}
use Rattle.block.specs.declared.Extent.{Extent}
use Rattle.block.specs.Reading.{BlockRead, extent_of, payload_of}
use Rattle.header.specs.declared.Fields.{Fields}
use Rattle.header.specs.Header.{wrong_type, fields_of, unpack_header}
use Rattle.file.specs.File.{measure_data}
use Rattle.file.specs.Reading.{FileRead, loaded_of, header_of, bytes_of, file_read, BlockReader, read_data, read_file_by, FilePromise}
use Rattle.file.proofs.ReaderLaws.{ReadsBlocks}
use Rattle.file.proofs.FileLaws.{not_program-wrong_type, measure_data-size}

refuses : (o : Outcome FileRead) (h b : List ℕ) (r : Refusal) → o ≡ refused_with r → FilePromise o h b (Err r) h b
refuses o h b r e = (answers-refused loaded_of o e refl, (fills-refused header_of o h e, fills-refused bytes_of o b e))

-- the same refusal, of another kind of outcome
refused_as : {A B : Type 0} {x y : Why} → ◌≡◌ {A = Outcome A} (refused x) (refused y) → ◌≡◌ {A = Outcome B} (refused x) (refused y)
refused_as e = cc

-- a block that is refused as block 1
block-refused : (o : Outcome BlockRead) (r : Refusal) → refused_with r ≡ of_block 1 (mapped extent_of o) → (why : Why) × (o ≡ refused why) × (why_in 1 why ≡ why_of r)
block-refused (refused why) r e = (why, refl, cc)
block-refused (accepted x) r e = absurd (let z : ◌≡◌ {A = ℕ} 0 1 = cc in omega arith)

-- ---- Two outputs

module _ {A : Type 0} (header_room data_room n : ℕ) (later : Outcome A) where
  abbrev both_rooms : Outcome A
  both_rooms = if_room header_room 192 (if_room data_room n later)

  either : (s t : Bool) → (s || t) ≡ true → cond s (refuse NoRoom 0) (cond t (refuse NoRoom 0) later) ≡ refuse NoRoom 0
  either true t e = refl
  either false true e = refl
  either false false e = absurd (let z : ◌≡◌ {A = ℕ} 0 1 = cc in omega arith)

  rooms-no_room : (ltb header_room 192 || ltb data_room n) ≡ true → both_rooms ≡ refuse NoRoom 0
  unfolding if_room
  rooms-no_room e = either (ltb header_room 192) (ltb data_room n) e

  rooms-room : (ltb header_room 192 || ltb data_room n) ≡ false → both_rooms ≡ later
  unfolding if_room
  rooms-room e = let w = or-false (ltb header_room 192) (ltb data_room n) e in rw (w.0, w.1)

-- ---- After a header that was read

module _ {lent : (room from n : ℕ) → Outcome BlockRead} {read : BlockReader} (reader : ReadsBlocks lent read) (h b : List ℕ) (from : ℕ) (header : List ℕ) where
  abbrev outcome : Outcome FileRead
  outcome = read_data read (length h) (length b) from header

  -- unpacking refuses it
  module _ (whole : length header ≡ 192) {a : Result Fields Refusal} (e : outcome_of a ≡ unpack_header header) where
    pub read_data-wrong_type : {r : Refusal} → a ≡ Err r → FilePromise outcome h b (Err r) h b
    unfolding read_data measure_data unpack_header fields_of
    read_data-wrong_type {r} q =
        let o = rw (eq-eqb (length header) 192 whole) at (sym (sym (ap outcome_of q) ∙ e)) in
        let t = cond-first (wrong_type (fields_of header).kind) (refuse WrongType 0) _ (refused_with r) (λ x. let z : ◌≡◌ {A = ℕ} 0 1 = cc in omega arith) o in
        refuses outcome h b r (rw (not_program-wrong_type (fields_of header).kind t.0) (refused_as t.1))

    pub read_data-fields : {f : Fields} → a ≡ Ok f → f ≡ fields_of header
    unfolding unpack_header
    read_data-fields {f} q =
        let o = rw (eq-eqb (length header) 192 whole) at (sym (sym (ap outcome_of q) ∙ e)) in
        let t = cond-accepted (wrong_type (get_or header 0 0)) (refusal_at WrongType 0) (accepted (fields_of header)) f o in
        cc

  module _ {f : Fields} (fields : f ≡ fields_of header) {p : Result ℕ Refusal} (e : outcome_of p ≡ measure_data f) where
    -- type or addresses are wrong
    pub read_data-not_program : {r : Refusal} → p ≡ Err r → FilePromise outcome h b (Err r) h b
    unfolding read_data
    read_data-not_program {r} q = refuses outcome h b r (rw (← fields, ← e, q))

    module _ {n : ℕ} (q : p ≡ Ok n) where
      pub read_data-no_room : {r : Refusal} → (ltb (length h) 192 || ltb (length b) n) ≡ true → r ≡ refusal_at NoRoom 0 → FilePromise outcome h b (Err r) h b
      unfolding read_data
      read_data-no_room {r} t s = rw s (refuses outcome h b (refusal_at NoRoom 0) (rw (← fields, ← e, q) (rooms-no_room (length h) (length b) n _ t)))

      module _ (room : (ltb (length h) 192 || ltb (length b) n) ≡ false) where
        enough : lent (length b) from n ≡ read from n
        enough =
            reader.roomy (length b) from n (measure_data-size f n (sym e ∙ ap outcome_of q))
            (ltb-false (length b) n (or-false (ltb (length h) 192) (ltb (length b) n) room).1)

        begun : outcome ≡ mapped (file_read header) (of_block 1 (read from n))
        unfolding read_data
        begun = rw (← fields, ← e, q) (rooms-room (length h) (length b) n _ room)

        loads : (z : BlockRead) {x : Extent} {h' b' : List ℕ} → read from n ≡ accepted z → z.extent ≡ x → h' ≡ put_at h 0 header → b' ≡ put_at b 0 z.payload
            → FilePromise outcome h b (Ok (record { fields = f; stop = x.end })) h' b'
        loads z o x w p = rw (begun, o, fields, ← x) (refl, (w, p))

        module _ {a : Result Extent Refusal} (g : outcome_of a ≡ of_block 1 (mapped extent_of (lent (length b) from n))) {b' : List ℕ}
            (put : b' ≡ put_at b 0 (puts (mapped payload_of (lent (length b) from n)))) where
          -- the data block is refused
          pub read_data-refused : {r : Refusal} → a ≡ Err r → FilePromise outcome h b (Err r) h b'
          read_data-refused {r} k =
              let o = block-refused (read from n) r (sym (ap outcome_of k) ∙ g ∙ ap (λ o. of_block 1 (mapped extent_of o)) enough) in
              let unchanged : b' ≡ b = rw (enough, o.1) at put ∙ sym (put-nothing b) in
              rw unchanged (refuses outcome h b r (rw (begun, o.1, o.2)))

          -- it is accepted
          pub read_data-accepted : {x : Extent} {h' : List ℕ} → a ≡ Ok x → h' ≡ put_at h 0 header
              → FilePromise outcome h b (Ok (record { fields = f; stop = x.end })) h' b'
          read_data-accepted {x} k w =
              let y = mapped-accepted extent_of (read from n) (sym (of_block-accepted 1 (mapped extent_of (read from n)) x (sym (sym (ap outcome_of k) ∙ g ∙ ap (λ o. of_block 1 (mapped extent_of o)) enough)))) in
              loads y.0 y.1 y.2 w (put ∙ ap (λ o. put_at b 0 (puts (mapped payload_of o))) (enough ∙ y.1))

-- ---- The whole file

module _ {lent : (room from n : ℕ) → Outcome BlockRead} {read : BlockReader} (reader : ReadsBlocks lent read) (h b : List ℕ) (from : ℕ) where
  abbrev outcome₀ : Outcome FileRead
  outcome₀ = read_file_by read (length h) (length b) from

  header-enough : lent 192 from 192 ≡ read from 192
  header-enough = reader.roomy 192 from 192 refl (lit≤ tt)

  follows : (z : BlockRead) {x : Extent} {header : List ℕ} → read from 192 ≡ accepted z → z.extent ≡ x → header ≡ z.payload → (r : Result Loaded Refusal) {h' b' : List ℕ}
      → FilePromise (read_data read (length h) (length b) x.end header) h b r h' b' → FilePromise outcome₀ h b r h' b'
  unfolding read_file_by
  follows z o q s r m = rw (o, q, ← s) m

  module _ {a : Result Extent Refusal} (e : outcome_of a ≡ mapped extent_of (lent 192 from 192)) where
    -- the header block is refused
    pub read_file_by-refused : {r : Refusal} → a ≡ Err r → FilePromise outcome₀ h b (Err r) h b
    unfolding read_file_by
    read_file_by-refused {r} q =
        let o : read from 192 ≡ refused_with r = mapped-refused extent_of (read from 192) r (sym (ap outcome_of q) ∙ e ∙ ap (mapped extent_of) header-enough) in
        refuses outcome₀ h b r (rw o)

    -- what follows a header that is accepted
    pub read_file_by-header : {x : Extent} {header : List ℕ} (r : Result Loaded Refusal) {h' b' : List ℕ} → a ≡ Ok x
        → header ≡ put_at (replicate 192 0) 0 (puts (mapped payload_of (lent 192 from 192)))
        → FilePromise (read_data read (length h) (length b) x.end header) h b r h' b' → FilePromise outcome₀ h b r h' b'
    read_file_by-header {x} {header} r q p m =
        let y = mapped-accepted extent_of (read from 192) (sym (ap outcome_of q) ∙ e ∙ ap (mapped extent_of) header-enough) in
        let long = reader.long from 192 y.0 y.1 in
        let same : header ≡ y.0.payload = rw (header-enough, y.1) at p ∙ put_whole (replicate 192 0) y.0.payload long in
        follows y.0 y.1 y.2 same r m
