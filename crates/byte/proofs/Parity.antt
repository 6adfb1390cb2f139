-- Oddness by the remainder of 2.
use Rattle.std.proofs.Common.{◌≡◌, ℕ, zero, suc, ◌%◌, not, eqb, refl, ap, ◌∙◌, arith, eq-eqb, ne_eqb}
use Rattle.byte.specs.Byte.{is_odd}

odd-suc : (n r : ℕ) → n % 2 ≡ r → eqb (suc n % 2) 1 ≡ not (eqb (n % 2) 1)
odd-suc n zero e = rw (eq-eqb (suc n % 2) 1 (omega arith), ne_eqb (n % 2) 1 (λ q. omega arith))
odd-suc n (suc zero) e = rw (ne_eqb (suc n % 2) 1 (λ q. omega arith), eq-eqb (n % 2) 1 (omega arith))
odd-suc n (suc (suc r)) e = absurd (omega arith)

pub odd-mod : (n : ℕ) → eqb (n % 2) 1 ≡ is_odd n
unfolding is_odd
odd-mod zero = refl
odd-mod (suc n) = odd-suc n (n % 2) refl ∙ ap not (odd-mod n)
