-- `block::write_block` meets its contract: refused as it was measured, or for its room, and else the whole block.
use Rattle.std.proofs.Common.{arith, sym, ap, ◌∙◌, length}
use Rattle.std.proofs.lemmas.Result.{err_from_is_err_and}
use Rattle.refusal.specs.Outcome.{outcome_of}
use Rattle.block.proofs.BlockLaws.{measure_block-accepted}
use Rattle.block.proofs.Writing.{write_block-unmeasured, write_block-no_room, write_block-whole}
use Rattle.block.proofs.write_block.Goals as goal

pub returns-in_err-count : goal.returns-in_err-count
returns-in_err-count c =
    let p = err_from_is_err_and c.from_residual.result c.from_residual.ensures.1 in
    rw (p.1, p.2) (write_block-unmeasured c.args.out.now c.args.leader c.args.payload.now c.measure_block.ensures _ c.in_err-count.was)

pub returns-then-out-count : goal.returns-then-out-count
returns-then-out-count c =
    write_block-no_room c.args.out.now c.args.leader c.args.payload.now c.measure_block.ensures c.in_ok-count.was c.if-out-count.true c.into.ensures

pub put_block-requires : goal.put_block-requires
put_block-requires c =
    let l = measure_block-accepted c.args.leader (length c.args.payload.now) _ (sym c.measure_block.ensures ∙ ap outcome_of c.in_ok-count.was) in
    omega arith

pub returns : goal.returns
returns c =
    write_block-whole c.args.out.now c.args.leader c.args.payload.now c.measure_block.ensures c.in_ok-count.was c.if-out-count.false c.put_block.ensures
