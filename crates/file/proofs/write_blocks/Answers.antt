-- `file::write_blocks` meets its contract: both blocks are measured first, and then written one behind the other.
use native.Mathlib.Omega.{arith}
use borrow.Author.Rules.{rules}
use mathlib.Core.Path.{◌≡◌, ap, ◌∙◌}
use lib.ListN.{length}
use Rattle.std.proofs.lemmas.Result.{err_from_is_err_and}
use Rattle.refusal.specs.Outcome.{of_block, outcome_of}
use Rattle.block.specs.Block.{measure_block}
use Rattle.block.proofs.BlockLaws.{wrong_size-within, wrong_leader-within}
use Rattle.file.proofs.FileLaws.{data-block}
use Rattle.file.proofs.Writing.{one, two, write_blocks-header_leader, write_blocks-data_leader, write_blocks-no_room, write_blocks-both}
use Rattle.file.proofs.write_blocks.Goals as goal
use Rattle.file.proofs.write_blocks.Goals.{After-map_err}

-- the data block is measured as block 1
second : (c : After-map_err) → outcome_of c.map_err.result ≡ of_block 1 (measure_block c.args.leader1 (length c.args.bytes.now))
second c = data-block _ _ c.map_err.ensures.cases (λ r s e. search rules) ∙ ap (of_block 1) c.measure_block-2.ensures

pub returns-in_err-first : goal.returns-in_err-first
returns-in_err-first c =
    let p = err_from_is_err_and c.from_residual.result c.from_residual.ensures.1 in
    rw (p.1, p.2) (write_blocks-header_leader c.args.out.now c.args.leader0 c.args.header c.args.leader1 c.args.bytes.now c.measure_block.ensures c.in_err-first.was)

pub returns-in_err-second : goal.returns-in_err-second
returns-in_err-second c =
    let p = err_from_is_err_and c.from_residual-in_err-second.result c.from_residual-in_err-second.ensures.1 in
    rw (p.1, p.2) (write_blocks-data_leader c.args.out.now c.args.leader0 c.args.header c.args.leader1 c.args.bytes.now c.measure_block.ensures c.in_ok-first.was
    (second (goal.at.returns-in_err-second c).After-map_err) c.requires c.in_err-second.was)

pub overflow_add-count : goal.overflow_add-count
overflow_add-count c =
    let e = second (goal.at.overflow_add-count c).After-map_err in
    let m₀ = one c.args.out.now c.args.leader0 c.args.header c.args.leader1 c.args.bytes.now c.measure_block.ensures c.in_ok-first.was in
    let m₁ = two c.args.out.now c.args.leader0 c.args.header c.args.leader1 c.args.bytes.now c.measure_block.ensures c.in_ok-first.was e c.in_ok-second.was (search rules) in
    let size = wrong_size-within (length c.args.bytes.now) m₁.size in
    let k₀ = wrong_leader-within c.args.leader0 m₀.leader in
    let k₁ = wrong_leader-within c.args.leader1 m₁.leader in
    omega arith

pub returns-then-out-count : goal.returns-then-out-count
returns-then-out-count c =
    write_blocks-no_room c.args.out.now c.args.leader0 c.args.header c.args.leader1 c.args.bytes.now c.measure_block.ensures c.in_ok-first.was
    (second (goal.at.returns-then-out-count c).After-map_err) c.in_ok-second.was (search rules) c.if-out-count.true c.into.ensures

pub returns : goal.returns
returns c =
    write_blocks-both c.args.out.now c.args.leader0 c.args.header c.args.leader1 c.args.bytes.now c.measure_block.ensures c.in_ok-first.was
    (second (goal.at.returns c).After-map_err) c.in_ok-second.was (search rules) c.if-out-count.false c.write_block.ensures.1 c.write_block-2.ensures.1
