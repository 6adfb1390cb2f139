-- `file::write_file` meets its contract: what packing the header refuses, what measuring the data refuses, and else what the two blocks come to.
use Rattle.std.specs.Prelude.{Err}
use Rattle.std.proofs.lemmas.Result.{err_from_is_err_and}
use Rattle.file.specs.File.{file}
use Rattle.file.proofs.Writing.{write_program-refused, write_program-wrong_addresses, write_program-size, write_program-blocks, write_file-refused, write_file-program}
use Rattle.file.proofs.write_file.Goals as goal

pub returns-in_err-pack_header : goal.returns-in_err-pack_header
returns-in_err-pack_header c =
    let p = err_from_is_err_and c.from_residual.result c.from_residual.ensures.1 in
    rw (p.1, p.2) (write_file-refused c.args.out.now (file c.args.fields c.args.name.now c.args.bytes.now c.args.leader0 c.args.leader1)
    c.pack_header.ensures.0 _ c.in_err-pack_header.was)

pub returns-in_err-n : goal.returns-in_err-n
returns-in_err-n c =
    let p = err_from_is_err_and c.from_residual-in_err-n.result c.from_residual-in_err-n.ensures.1 in
    rw (p.1, p.2) (write_file-program c.args.out.now (file c.args.fields c.args.name.now c.args.bytes.now c.args.leader0 c.args.leader1)
    c.pack_header.ensures.0 c.in_ok-pack_header.was (Err c.in_err-n.field-0.0) c.pack_header.ensures.1
    (write_program-refused c.args.out.now c.args.fields c.args.leader0 c.pack_header.new.out c.args.leader1 c.args.bytes.now c.measure_data.ensures _ c.in_err-n.was))

pub returns-then-n-bytes : goal.returns-then-n-bytes
returns-then-n-bytes c =
    write_file-program c.args.out.now (file c.args.fields c.args.name.now c.args.bytes.now c.args.leader0 c.args.leader1)
    c.pack_header.ensures.0 c.in_ok-pack_header.was (Err c.into.result) c.pack_header.ensures.1
    (write_program-wrong_addresses c.args.out.now c.args.fields c.args.leader0 c.pack_header.new.out c.args.leader1 c.args.bytes.now c.measure_data.ensures
    c.in_ok-n.was c.if-n-bytes.true c.into.ensures)

pub write_blocks-requires : goal.write_blocks-requires
write_blocks-requires c =
    write_program-size c.args.out.now c.args.fields c.args.leader0 c.pack_header.new.out c.args.leader1 c.args.bytes.now c.measure_data.ensures c.in_ok-n.was c.if-n-bytes.false

pub returns : goal.returns
returns c =
    write_file-program c.args.out.now (file c.args.fields c.args.name.now c.args.bytes.now c.args.leader0 c.args.leader1)
    c.pack_header.ensures.0 c.in_ok-pack_header.was c.write_blocks.result c.pack_header.ensures.1
    (write_program-blocks c.args.out.now c.args.fields c.args.leader0 c.pack_header.new.out c.args.leader1 c.args.bytes.now c.measure_data.ensures c.in_ok-n.was
    c.if-n-bytes.false c.write_blocks.result c.write_blocks.ensures)
