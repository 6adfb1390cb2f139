-- `block::copies::BothCopies::fill_places` meets its contract. The invariant: the values left, put after those that are there, give the whole.
use Prim.Native.Nat.{◌-◌}
use Rattle.lists.specs.Places.{tabulate}
use Rattle.lists.proofs.LoopLaws.{Putting, table_left}
use Rattle.pulse.specs.Pulse.{classes}
use Rattle.block.specs.Reading.{value_at}
use Rattle.block.proofs.copies.BothCopies.fill_places.Given as goal

abbrev pub invariant-loop-i : goal.invariant-loop-i
invariant-loop-i l =
    Putting l.initial.out l.from (tabulate (value_at (classes l.self.t l.self.strip.now) l.self.one l.self.two) (l.end - l.from) l.from) l.out l.i (table_left (value_at (classes l.self.t l.self.strip.now) l.self.one l.self.two) l.end l.i)
