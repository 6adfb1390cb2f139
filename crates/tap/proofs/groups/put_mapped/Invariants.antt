-- `tap::groups::put_mapped` meets its contract. The invariant: what is left, put after those that are there, gives them all.
use Prim.Native.Nat.{◌+◌}
use mathlib.Core.Path.{◌≡◌}
use mathlib.Core.List.{map}
use lib.ListN.{drop}
use lib.Seq.{sets}
use Rattle.tap.proofs.groups.put_mapped.Given as goal

abbrev pub invariant-loop-i : goal.invariant-loop-i
invariant-loop-i g l = (h : g.row.T.Denot → g.row.U.Denot) → ((x : g.row.T.Denot) (y : g.row.U.Denot) → goal.F-post g l.f x y → y ≡ h x) → sets l.out (l.at + l.i) (map h (drop l.i l.xs)) ≡ sets l.initial.out l.at (map h l.xs)
