-- `block::copies::BothCopies::fill_copy` meets its contract. The invariant: the values left, put after those that are there, give the whole.
use Prim.Native.Nat.{◌+◌}
use mathlib.Core.Path.{refl, sym, ap, ◌∙◌}
use mathlib.Core.List.{◌∷◌}
use Rattle.lists.proofs.LoopLaws.{put_one, put-done, table-next, table-over, table_left}
use Rattle.block.specs.private.Values.{bits_of}
use Rattle.block.proofs.copies.BothCopies.fill_copy.Goals as goal

pub loop-i-preserved : goal.loop-i-preserved
loop-i-preserved c =
    let value = bits_of c.args.self.now.t c.args.self.now.strip.now c.args.copy in
    let left = table_left value c.args.self.now.n (c.loop-i.i + 1) in
    put_one c.loop-i.invariant _ left (table-next value c.args.self.now.n c.loop-i.i c.loop-i-test.true ∙ ap (λ v. v ∷ left) (sym c.bits.ensures)) refl

pub returns : goal.returns
returns c =
    put-done c.loop-i.invariant (table-over (bits_of c.args.self.now.t c.args.self.now.strip.now c.args.copy) c.args.self.now.n c.loop-i.i c.loop-i-test.false)
