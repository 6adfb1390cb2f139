-- A rule that holds at every number below n, by one test that is computed.
use Prim.Native.Nat.{ℕ, zero, suc, ◌<◌}
use native.Mathlib.Nat.{not-suc-le-zero}
use native.Mathlib.Decide.{ℕ_discrete}
use native.Mathlib.Omega.{arith}
use mathlib.Core.Path.{◌≡◌}
use mathlib.Core.Bool.{Bool, true, ◌&&◌}
use Rattle.lists.proofs.BoolLaws.{and-true}

abbrev pub every : (ℕ → Bool) → ℕ → Bool
every f zero = true
every f (suc n) = f n && every f n

pub every-at : (f : ℕ → Bool) (n : ℕ) → every f n ≡ true → (i : ℕ) → i < n → f i ≡ true
every-at f zero t i h = absurd (not-suc-le-zero h)
every-at f (suc n) t i h =
    let s = and-true (f n) (every f n) t in
    elim (ℕ_discrete i n) [
      | yes e ↦ rw e s.0
      | no ne ↦ every-at f n s.1 i (omega arith)
    ]
