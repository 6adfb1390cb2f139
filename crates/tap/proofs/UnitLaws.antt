-- What a duration in units comes to: the units that one byte counts.
use Prim.Native.Nat.{◌≤◌, ◌<◌}
use Rattle.std.specs.Prelude.{Option, None, Some}
use mathlib.Core.Path.{◌≡◌, sym, ◌∙◌}
use Rattle.pulse.specs.declared.Cycles.{Cycles}
use Rattle.pulse.specs.declared.Units.{Units}
use Rattle.pulse.specs.Units.{units_of}
use Rattle.pulse.proofs.UnitLaws.{between-units, whole-units}
use Rattle.tap.specs.private.Forms.{byte_units}
use Rattle.tap.proofs.FormLaws.{byte_units-between, byte_units-few, byte_units-many}

module _ (c : Cycles) {r : Option Units} (e : r ≡ units_of c) where
  pub units_of-none : r ≡ None → 0 ≡ byte_units c.0
  units_of-none q = sym (byte_units-between c.0 (between-units c e q))

  module _ {u : Units} (q : r ≡ Some u) where
    pub units_of-few : u.0 ≤ 255 → u.0 ≡ byte_units c.0
    units_of-few h = let w = whole-units c e q in w.1 ∙ sym (byte_units-few c.0 w.0 (rw w.1 at h))

    pub units_of-many : 255 < u.0 → 0 ≡ byte_units c.0
    units_of-many h = let w = whole-units c e q in sym (byte_units-many c.0 w.0 (rw w.1 at h))
