-- `file::read_data` meets its contract: refusals 8, 9 and 2, and else what the data block comes to; the header is put last.
use borrow.Author.Rules.{rules}
use Prim.Native.Nat.{ℕ, ◌≤◌}
use mathlib.Core.Path.{◌≡◌, ap, ◌∙◌}
use native.Mathlib.Omega.{arith}
use borrow.Author.Tests.{ltb-false}
use lib.Dec.{ltb}
use lib.ListN.{length, drop, length-take}
use Rattle.lists.proofs.BoolLaws.{or-false}
use mathlib.Core.List.{List, ◌++◌}
use Rattle.std.proofs.lemmas.Result.{err_from_is_err_and}
use Rattle.lists.specs.Buffer.{put_at}
use Rattle.lists.proofs.BufferLaws.{put_front}
use Rattle.refusal.specs.Outcome.{mapped, of_block, outcome_of}
use Rattle.pulse.specs.Pulse.{fixed, classes}
use Rattle.block.specs.Reading.{read_block, extent_of}
use Rattle.header.specs.Header.{fields_of}
use Rattle.file.proofs.FileLaws.{data-block}
use Rattle.file.proofs.ReaderLaws.{by-rules}
use Rattle.file.proofs.Loading.{read_data-wrong_type, read_data-fields, read_data-not_program, read_data-no_room, read_data-refused, read_data-accepted}
use Rattle.file.proofs.read_data.Goals as goal
use Rattle.file.proofs.read_data.Goals.{In_ok-fields, After-map_err}

pub returns-in_err-fields : goal.returns-in_err-fields
returns-in_err-fields c =
    let p = err_from_is_err_and c.from_residual.result c.from_residual.ensures.1 in
    rw (p.1, p.2) (read_data-wrong_type (by-rules (classes fixed c.args.strip.now)) c.args.header.now c.args.bytes.now c.args.from c.args.h (search rules) c.unpack_header.ensures c.in_err-fields.was)

fields : (c : In_ok-fields) → c.in_ok-fields.fields ≡ fields_of c.args.h
fields c = read_data-fields (by-rules (classes fixed c.args.strip.now)) c.args.header.now c.args.bytes.now c.args.from c.args.h (search rules) c.unpack_header.ensures c.in_ok-fields.was

pub returns-in_err-n : goal.returns-in_err-n
returns-in_err-n c =
    let p = err_from_is_err_and c.from_residual-in_err-n.result c.from_residual-in_err-n.ensures.1 in
    rw (p.1, p.2) (read_data-not_program (by-rules (classes fixed c.args.strip.now)) c.args.header.now c.args.bytes.now c.args.from c.args.h
    (fields (goal.at.returns-in_err-n c).In_ok-fields) c.measure_data.ensures c.in_err-n.was)

pub returns-then-header-bytes : goal.returns-then-header-bytes
returns-then-header-bytes c =
    read_data-no_room (by-rules (classes fixed c.args.strip.now)) c.args.header.now c.args.bytes.now c.args.from c.args.h
    (fields (goal.at.returns-then-header-bytes c).In_ok-fields) c.measure_data.ensures c.in_ok-n.was c.if-header-bytes.true c.into.ensures

-- the data block is read as block 1
block₁ : (c : After-map_err) → outcome_of c.map_err.result ≡ of_block 1 (mapped extent_of (read_block (classes fixed c.args.strip.now) (length c.args.bytes.now) c.args.from c.in_ok-n.n))
block₁ c = data-block _ _ c.map_err.ensures.cases (λ r s e. search rules) ∙ ap (of_block 1) c.read_block.ensures.0

pub returns-in_err-data : goal.returns-in_err-data
returns-in_err-data c =
    let p = err_from_is_err_and c.from_residual-in_err-data.result c.from_residual-in_err-data.ensures.1 in
    rw (p.1, p.2) (read_data-refused (by-rules (classes fixed c.args.strip.now)) c.args.header.now c.args.bytes.now c.args.from c.args.h
    (fields (goal.at.returns-in_err-data c).In_ok-fields) c.measure_data.ensures c.in_ok-n.was c.if-header-bytes.false
    (block₁ (goal.at.returns-in_err-data c).After-map_err) c.read_block.ensures.1 c.in_err-data.was)

room : (c : After-map_err) → 192 ≤ length c.args.header.now
room c =
    ltb-false (length c.args.header.now) 192 (or-false (ltb (length c.args.header.now) 192) (ltb (length c.args.bytes.now) c.in_ok-n.n) c.if-header-bytes.false).0

pub slice_bounds-copy_from_slice-end-2 : goal.slice_bounds-copy_from_slice-end-2
slice_bounds-copy_from_slice-end-2 c = let r = room (goal.at.slice_bounds-copy_from_slice-end-2 c).After-map_err in search rules

pub copy_from_slice-requires : goal.copy_from_slice-requires
copy_from_slice-requires c = let r = room (goal.at.copy_from_slice-requires c).After-map_err in let whole : length c.args.h ≡ 192 = search rules in simp length-take (rw whole (omega arith))

-- a whole header copied to the front of a buffer
copied : (buffer values : List ℕ) {front : List ℕ} → length values ≡ 192 → 192 ≤ length buffer → front ≡ values → front ++ drop 192 buffer ≡ put_at buffer 0 values
copied buffer values l r e =
    let z = put_front buffer values (omega arith) in
    rw (e, z, l)

pub returns : goal.returns
returns c =
    read_data-accepted (by-rules (classes fixed c.args.strip.now)) c.args.header.now c.args.bytes.now c.args.from c.args.h
    (fields (goal.at.returns c).In_ok-fields) c.measure_data.ensures c.in_ok-n.was c.if-header-bytes.false
    (block₁ (goal.at.returns c).After-map_err) c.read_block.ensures.1 c.in_ok-data.was (copied c.args.header.now c.args.h (search rules) (room (goal.at.returns c).After-map_err) c.copy_from_slice.ensures.after)
