-- Laws of the two conversions: when each gives a number, and that they are inverse to each other.
use Prim.Native.Nat.{ℕ, ◌*◌, ◌/◌, ◌%◌, ◌^◌, ◌<◌}
use Rattle.std.specs.Prelude.{Option, None, Some}
use native.Mathlib.Decide.{ℕ_discrete}
use native.Mathlib.Omega.{arith}
use mathlib.Core.Path.{◌≡◌}
use borrow.Author.Tests.{lt-ltb, eq-eqb, ne_eqb, eqb-true}
use lib.Dec.{ltb, eqb}
use Rattle.lists.proofs.BoolLaws.{cond-first}
use Rattle.pulse.specs.declared.Cycles.{Cycles}
use Rattle.pulse.specs.declared.Units.{Units}
use Rattle.pulse.specs.Units.{unit_cycles, cycles_of, units_of}

-- ---- Inverse

pub units-cycles : (u : Units) (c : Cycles) → cycles_of u ≡ Some c → units_of c ≡ Some u
unfolding cycles_of units_of
units-cycles u c e =
    let h = cond-first (ltb (u.0 * 8) (2 ^ 32)) (Some (record { 0 = u.0 * 8 })) None (Some c) (λ n. let z : ◌≡◌ {A = ℕ} 0 1 = cc in omega arith) e in
    let w : record { 0 = u.0 * 8 } ≡ c = cc in
    let q : u.0 * 8 / 8 ≡ u.0 = omega arith in
    rw (← w, eq-eqb (u.0 * 8 % 8) 0 (omega arith), q)

pub cycles-units : (c : Cycles) (u : Units) → c.0 < 2 ^ 32 → units_of c ≡ Some u → cycles_of u ≡ Some c
unfolding cycles_of units_of
cycles-units c u fits e =
    let h = cond-first (eqb (c.0 % 8) 0) (Some (record { 0 = c.0 / 8 })) None (Some u) (λ n. let z : ◌≡◌ {A = ℕ} 0 1 = cc in omega arith) e in
    let w : record { 0 = c.0 / 8 } ≡ u = cc in
    let m : c.0 % 8 ≡ 0 = eqb-true (c.0 % 8) 0 h.0 in
    let q : c.0 / 8 * 8 ≡ c.0 = omega arith in
    rw (← w, q, lt-ltb c.0 (2 ^ 32) fits)

-- ---- The cases

-- a multiple of a unit's cycles is whole
pub units-whole : (c : Cycles) → c.0 % unit_cycles ≡ 0 → units_of c ≡ Some (record { 0 = c.0 / unit_cycles })
unfolding units_of
units-whole c m = rw (eq-eqb (c.0 % unit_cycles) 0 m)

pub units-between : (c : Cycles) → (c.0 % unit_cycles ≡ 0 → ⊥) → units_of c ≡ None
unfolding units_of
units-between c m = rw (ne_eqb (c.0 % unit_cycles) 0 m)

-- and what an answer says of the cycles
module _ (c : Cycles) {r : Option Units} (e : r ≡ units_of c) where
  pub between-units : r ≡ None → c.0 % unit_cycles ≡ 0 → ⊥
  between-units q m = let w = units-whole c m in let z : ◌≡◌ {A = ℕ} 0 1 = cc in omega arith

  pub whole-units : {u : Units} → r ≡ Some u → (c.0 % unit_cycles ≡ 0) × (u.0 ≡ c.0 / unit_cycles)
  whole-units {u} q = elim (ℕ_discrete (c.0 % unit_cycles) 0) [
    | yes m ↦
        let w = units-whole c m in
        let s : u ≡ record { 0 = c.0 / unit_cycles } = cc in
        (m, rw s)
    | no m ↦ absurd (let w = units-between c m in let z : ◌≡◌ {A = ℕ} 0 1 = cc in omega arith)
  ]
