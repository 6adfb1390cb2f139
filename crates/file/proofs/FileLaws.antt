-- Laws of program files: what the writer accepts, how long it is, and that every strip within its damage is read as that file.
use Prim.Native.Nat.{ℕ, ◌+◌, ◌≤◌, ◌<◌}
use native.Mathlib.Omega.{arith}
use mathlib.Core.Path.{◌≡◌, sym, ap, ◌∙◌}
use mathlib.Core.Logic.{◌⊎◌, inl, inr}
use mathlib.Core.Bool.{true, false, not, ◌||◌}
use mathlib.Core.List.{List}
use borrow.Author.Tests.{ltb-true, ne_eqb, le-ltb, lt-leb, ltb-false, leb-false, not-false, eq-eqb, eqb-true}
use lib.Dec.{eqb, leb, ltb}
use lib.ListN.{length, get_or, length-append}
use Rattle.std.specs.Prelude.{Result, Ok, Err}
use Rattle.std.specs.Result.{MatchResult, IsErrAnd}
use Rattle.lists.specs.Places.{part}
use Rattle.lists.proofs.BoolLaws.{or-false, or-true}
use Rattle.lists.proofs.PartLaws.{part-part}
use Rattle.refusal.specs.declared.Reason.TheVariants.{WrongSize, WrongType, WrongAddresses, WrongLeader}
use Rattle.refusal.specs.declared.Refusal.{Refusal}
use Rattle.refusal.specs.Refusal.{refusal_at, in_block}
use Rattle.refusal.specs.Outcome.{accepted, outcome_of, mapped, of_block}
use Rattle.refusal.proofs.OutcomeLaws.{cond-accepted, and_then-accepted, of_block-accepted, mapped-accepted, if_room-accepted, if_room-room}
use Rattle.pulse.specs.declared.Thresholds.{Thresholds}
use Rattle.pulse.specs.declared.Class.TheVariants.{Short}
use Rattle.pulse.specs.Pulse.{class_of}
use Rattle.start.specs.Copies.{end_of}
use Rattle.block.specs.Block.{wrong_leader, block_length, wrong_size}
use Rattle.block.specs.Reading.{block_at}
use Rattle.block.specs.Damage.{Damaged}
use Rattle.block.proofs.BlockLaws.{Within, wrong_leader-within, wrong_leader-right, length-block_pulses, wrong_size-right}
use Rattle.block.proofs.DamageLaws.{after-short}
use Rattle.header.specs.declared.Fields.{Fields}
use Rattle.header.specs.Header.{wrong_name, wrong_type, fields_of}
use Rattle.header.proofs.HeaderLaws.{length-header, fields-header, below-header}
use Rattle.file.specs.File.{File, file_header, header_pulses, data_pulses, file_pulses, not_program, wrong_addresses, data_bytes, write_blocks, write_file, measure_data, write_program}
use Rattle.file.specs.Reading.{BlockReader, FileRead, file_read, read_data, read_file_by}
use Rattle.file.specs.Damage.{FileDamaged}
use Rattle.file.specs.Claim.{Typed}
use Rattle.file.proofs.ReaderLaws.{PayloadLength, ReadsDamaged}

-- ---- The number of the data block

-- the same answer, where a refusal names block 1: as `map_err` leaves it, whose closure is told by P
pub data-block : {T : Type 0} (a b : Result T Refusal) {P : Refusal → Refusal → Type 0} → MatchResult a (λ x. b ≡ Ok x) (λ r. IsErrAnd b (P r))
    → ((r s : Refusal) → P r s → s ≡ in_block 1 r) → outcome_of b ≡ of_block 1 (outcome_of a)
data-block (Ok x) b e told = rw e
data-block (Err r) (Ok x) e told = absurd e
data-block (Err r) (Err s) e told = rw (told r s e)

-- ---- The tests in words

not_program-kind : (kind : ℕ) → not_program kind ≡ false → (kind ≡ 1) ⊎ (kind ≡ 3)
not_program-kind kind e = elim (or-true (eqb kind 1) (eqb kind 3) (not-false (eqb kind 1 || eqb kind 3) e)) [
  | inl h ↦ inl (eqb-true kind 1 h)
  | inr h ↦ inr (eqb-true kind 3 h)
]

not_program-right : (kind : ℕ) → (kind ≡ 1) ⊎ (kind ≡ 3) → not_program kind ≡ false
not_program-right kind (inl e) = rw e
not_program-right kind (inr e) = rw e

-- the data block of right addresses has 1 to 8,192 bytes
pub wrong_addresses-within : (f : Fields) → wrong_addresses f ≡ false → Within 1 8192 (data_bytes f)
wrong_addresses-within f e =
    let w = or-false (leb f.end f.start) (ltb (f.start + 8192) f.end) e in
    let low : f.start < f.end = leb-false f.end f.start w.0 in
    let high : f.end ≤ f.start + 8192 = ltb-false (f.start + 8192) f.end w.1 in
    record { low = omega arith; high = omega arith }

wrong_addresses-right : (f : Fields) → Within 1 8192 (data_bytes f) → wrong_addresses f ≡ false
wrong_addresses-right f w = rw (lt-leb f.end f.start (omega arith), le-ltb (f.start + 8192) f.end (omega arith))

-- a type that no header has is no program's
pub not_program-wrong_type : (kind : ℕ) → wrong_type kind ≡ true → not_program kind ≡ true
not_program-wrong_type kind e = elim (or-true (ltb kind 1) (ltb 5 kind) e) [
  | inl h ↦ let l = ltb-true kind 1 h in rw (ne_eqb kind 1 (λ q. omega arith), ne_eqb kind 3 (λ q. omega arith))
  | inr h ↦ let l = ltb-true 5 kind h in rw (ne_eqb kind 1 (λ q. omega arith), ne_eqb kind 3 (λ q. omega arith))
]

-- ---- measure_data

module _ (f : Fields) where
  pub measure_data-right : not_program f.kind ≡ false → wrong_addresses f ≡ false → measure_data f ≡ accepted (data_bytes f)
  unfolding measure_data
  measure_data-right kind order = rw (kind, order)

  pub measure_data-accepted : (n : ℕ) → measure_data f ≡ accepted n → (not_program f.kind ≡ false) × (wrong_addresses f ≡ false) × (data_bytes f ≡ n)
  unfolding measure_data
  measure_data-accepted n e =
      let k = cond-accepted (not_program f.kind) (refusal_at WrongType 0) _ n e in
      let a = cond-accepted (wrong_addresses f) (refusal_at WrongAddresses 0) _ n k.1 in
      (k.0, a.0, cc)

  -- the size of a data block is a right one
  pub measure_data-size : (n : ℕ) → measure_data f ≡ accepted n → wrong_size n ≡ false
  measure_data-size n e = let m = measure_data-accepted n e in rw (← m.2) (wrong_size-right (data_bytes f) (wrong_addresses-within f m.1))

-- ---- What the writer accepts

pub record RightFile (f : File) : Type 0 where
  pub name : length f.name ≤ 187
  pub kind : (f.fields.kind ≡ 1) ⊎ (f.fields.kind ≡ 3)
  pub addresses : Within 1 8192 (data_bytes f.fields)
  pub size : data_bytes f.fields ≡ length f.bytes
  pub leader₀ : Within 64 65535 f.leader₀
  pub leader₁ : Within 64 65535 f.leader₁

-- and there is room for it
pub record Taken (room : ℕ) (f : File) : Type 0 where
  pub right : RightFile f
  pub fits : length (file_pulses f) ≤ room

-- it accepts exactly such files
pub write_file-taken : (room : ℕ) (f : File) (strip : List ℕ) → write_file room f ≡ accepted strip → Taken room f
unfolding write_file write_program write_blocks
write_file-taken room f strip e =
    let n = cond-accepted (wrong_name (length f.name)) (refusal_at WrongSize 0) _ strip e in
    let a = and_then-accepted (measure_data f.fields) _ strip n.1 in
    let m = measure_data-accepted f.fields a.0 a.1 in
    let s = cond-accepted (not (eqb a.0 (length f.bytes))) (refusal_at WrongAddresses 0) _ strip a.2 in
    let l₀ = cond-accepted (wrong_leader f.leader₀) (refusal_at WrongLeader 0) _ strip s.1 in
    let l₁ = cond-accepted (wrong_leader f.leader₁) (in_block 1 (refusal_at WrongLeader 0)) _ strip l₀.1 in
    let r = if_room-accepted room (length (file_pulses f)) _ strip l₁.1 in
    record {
      right = record {
        name = ltb-false 187 (length f.name) n.0;
        kind = not_program-kind f.fields.kind m.0;
        addresses = wrong_addresses-within f.fields m.1;
        size = m.2 ∙ eqb-true a.0 (length f.bytes) (not-false (eqb a.0 (length f.bytes)) s.0);
        leader₀ = wrong_leader-within f.leader₀ l₀.0;
        leader₁ = wrong_leader-within f.leader₁ l₁.0;
      };
      fits = r.0;
    }

pub write_file-accepted : (room : ℕ) (f : File) → Taken room f → write_file room f ≡ accepted (file_pulses f)
unfolding write_file write_program write_blocks
write_file-accepted room f t =
    let right = t.right in
    rw (
      le-ltb 187 (length f.name) right.name,
      measure_data-right f.fields (not_program-right f.fields.kind right.kind) (wrong_addresses-right f.fields right.addresses),
      eq-eqb (data_bytes f.fields) (length f.bytes) right.size,
      wrong_leader-right f.leader₀ right.leader₀,
      wrong_leader-right f.leader₁ right.leader₁,
      if_room-room room (length (file_pulses f)) _ t.fits,
    )

-- ---- Lengths

module _ (f : File) where
  length-header_pulses : length (header_pulses f) ≡ block_length f.leader₀ 192
  length-header_pulses = length-block_pulses f.leader₀ (file_header f) ∙ ap (block_length f.leader₀) (length-header f.fields f.name)

  pub length-file_pulses : length (file_pulses f) ≡ length (header_pulses f) + length (data_pulses f)
  length-file_pulses = length-append (header_pulses f) (data_pulses f)

-- ---- Both blocks accepted make the file

read_file_by-both : (f : File) → Typed f → RightFile f → (read : BlockReader) (header_room data_room from p₀ p₁ : ℕ) → 192 ≤ header_room → data_bytes f.fields ≤ data_room
    → read from 192 ≡ accepted (block_at p₀ 192 (file_header f))
    → read (end_of p₀ 192) (data_bytes f.fields) ≡ accepted (block_at p₁ (data_bytes f.fields) f.bytes)
    → read_file_by read header_room data_room from ≡ accepted (file_read (file_header f) (block_at p₁ (data_bytes f.fields) f.bytes))
unfolding read_file_by read_data
read_file_by-both f typed right read header_room data_room from p₀ p₁ h b one two =
    let same : fields_of (file_header f) ≡ f.fields = fields-header f.fields f.name typed.start typed.end in
    let n = data_bytes f.fields in
    let e : read_data read header_room data_room (end_of p₀ 192) (file_header f) ≡ mapped (file_read (file_header f)) (of_block 1 (read (end_of p₀ 192) n)) =
    rw (
      same,
      measure_data-right f.fields (not_program-right f.fields.kind right.kind) (wrong_addresses-right f.fields right.addresses),
      if_room-room header_room 192 _ h,
      if_room-room data_room n _ b,
    )
    in
    rw one (e ∙ rw two)

-- ---- A damaged file is read

-- The strip holds, from place o on, what lies within the damage of the file, and after `from` only short pulses stand before it. The reader
-- is any that reads damaged blocks.
module _ (t : Thresholds) (f : File) (typed : Typed f) (right : RightFile f) (strip : List ℕ) (o : ℕ) (d : FileDamaged t f (length (file_pulses f)) (part strip o (length (file_pulses f))))
    (from : ℕ) (far : from + 16 ≤ o + f.leader₀) (before : (i : ℕ) → from < i → i < o → class_of t (get_or strip i 0) ≡ Short)
    {read : BlockReader} (reads : ReadsDamaged t strip read) where
  abbrev k₀ : ℕ
  k₀ = f.leader₀

  abbrev k₁ : ℕ
  k₁ = f.leader₁

  abbrev n : ℕ
  n = data_bytes f.fields

  -- where the data block begins
  abbrev o₁ : ℕ
  o₁ = o + length (header_pulses f)

  one : Damaged t k₀ (file_header f) (part strip o (length (header_pulses f)))
  one =
      let e : o + 0 ≡ o = omega arith in
      rw e at (rw (part-part strip o (length (file_pulses f)) 0 (length (header_pulses f)) (omega (arith, length-file_pulses f))) at d.header)

  two : Damaged t k₁ f.bytes (part strip o₁ (length (data_pulses f)))
  two = rw (part-part strip o (length (file_pulses f)) (length (header_pulses f)) (length (data_pulses f)) (omega (arith, length-file_pulses f))) at d.bytes

  header_read : read from 192 ≡ accepted (block_at (o + k₀) 192 (file_header f))
  header_read =
      reads o k₀ (file_header f) 192 (length-header f.fields f.name) one
      (below-header f.fields f.name typed.kind typed.name) from (omega (arith, right.leader₀.low)) far before

  data-read : read (end_of (o + k₀) 192) n ≡ accepted (block_at (o₁ + k₁) n f.bytes)
  data-read =
      let l = length-header_pulses f in
      reads o₁ k₁ f.bytes n (sym right.size) two typed.bytes (end_of (o + k₀) 192) (omega (arith, right.leader₁.low)) (omega (arith, right.leader₁.low))
      (λ i a b. after-short t strip o k₀ (file_header f) (length-header f.fields f.name) one i a (omega arith))

  pub read_file_by-damaged : (header_room data_room : ℕ) → 192 ≤ header_room → n ≤ data_room
      → read_file_by read header_room data_room from ≡ accepted (file_read (file_header f) (block_at (o₁ + k₁) n f.bytes))
  read_file_by-damaged header_room data_room h b = read_file_by-both f typed right read header_room data_room from (o + k₀) (o₁ + k₁) h b header_read data-read

-- ---- What the reader accepts

-- the header of an accepted file has 192 bytes, and its data end minus start
pub record Whole (f : FileRead) : Type 0 where
  pub header : length f.header ≡ 192
  pub bytes : length f.bytes ≡ data_bytes f.loaded.fields

module _ {read : BlockReader} (long : PayloadLength read) (header_room data_room : ℕ) (f : FileRead) where
  read_data-whole : (end : ℕ) (header : List ℕ) → length header ≡ 192 → read_data read header_room data_room end header ≡ accepted f → Whole f
  unfolding read_data
  read_data-whole end header l e =
      let a = and_then-accepted (measure_data (fields_of header)) _ f e in
      let size = (measure_data-accepted (fields_of header) a.0 a.1).2 in
      let h = if_room-accepted header_room 192 _ f a.2 in
      let d = if_room-accepted data_room a.0 _ f h.1 in
      let m = mapped-accepted (file_read header) (of_block 1 (read end a.0)) (sym d.1) in
      let n = long end a.0 m.0 (of_block-accepted 1 (read end a.0) m.0 m.1) in
      rw (← m.2) (record { header = l; bytes = n ∙ sym size })

  pub read_file_by-whole : (from : ℕ) → read_file_by read header_room data_room from ≡ accepted f → Whole f
  unfolding read_file_by
  read_file_by-whole from e =
      let t = and_then-accepted (read from 192) (λ h. read_data read header_room data_room h.extent.end h.payload) f e in
      read_data-whole t.0.extent.end t.0.payload (long from 192 t.0 t.1) t.2
