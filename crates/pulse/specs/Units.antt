-- Cycles and TAP units of eight cycles (document 01, 'Pulses'). Each is a type of its own, so that neither passes for the other
-- without one of these conversions.
use Rattle.std.specs.Prelude.{ℕ, ◌*◌, ◌/◌, ◌%◌, ◌^◌, cond, ltb, eqb, Option, None, Some}
use Rattle.pulse.specs.declared.Cycles.{Cycles}
use Rattle.pulse.specs.declared.Units.{Units}

-- eight cycles to a unit
abbrev pub unit_cycles : ℕ
unit_cycles = 8

-- units in cycles; a pulse counts fewer than 2 ^ 32
unfoldable pub cycles_of : Units → Option Cycles
cycles_of u = cond (ltb (u.0 * unit_cycles) (2 ^ 32)) (Some (record { 0 = u.0 * unit_cycles })) None

-- as many units as a byte counts, in cycles: these always fit
abbrev pub byte_cycles : (units : ℕ) → ℕ
byte_cycles units = units * unit_cycles

-- the other way: only a multiple of a unit's cycles is a whole number of units
unfoldable pub units_of : Cycles → Option Units
units_of c = cond (eqb (c.0 % unit_cycles) 0) (Some (record { 0 = c.0 / unit_cycles })) None
