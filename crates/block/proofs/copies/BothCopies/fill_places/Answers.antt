-- `block::copies::BothCopies::fill_places` meets its contract. The invariant: the values left, put after those that are there, give the whole.
use Prim.Native.Nat.{◌+◌}
use mathlib.Core.Path.{refl, sym, ap, ◌∙◌}
use mathlib.Core.List.{◌∷◌}
use Rattle.lists.proofs.LoopLaws.{put_one, put-done, table-next, table-over, table_left}
use Rattle.pulse.specs.Pulse.{classes}
use Rattle.block.specs.Reading.{value_at}
use Rattle.block.proofs.copies.BothCopies.fill_places.Goals as goal

pub loop-i-preserved : goal.loop-i-preserved
loop-i-preserved c =
    let value = value_at (classes c.args.self.now.t c.args.self.now.strip.now) c.args.self.now.one c.args.self.now.two in
    let left = table_left value c.args.end (c.loop-i.i + 1) in
    put_one c.loop-i.invariant _ left (table-next value c.args.end c.loop-i.i c.loop-i-test.true ∙ ap (λ v. v ∷ left) (sym c.sound_value.ensures)) refl

pub returns : goal.returns
returns c =
    put-done c.loop-i.invariant (table-over (value_at (classes c.args.self.now.t c.args.self.now.strip.now) c.args.self.now.one c.args.self.now.two) c.args.end c.loop-i.i c.loop-i-test.false)
