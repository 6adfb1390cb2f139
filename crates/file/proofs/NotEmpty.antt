-- Demand 3 is not empty: the writer accepts every right file where there is room, and there is such a file, with room enough for it.
use Prim.Native.Nat.{ℕ}
use native.Mathlib.Omega.{arith}
use mathlib.Core.Path.{◌≡◌, refl}
use mathlib.Core.Logic.{inl}
use mathlib.Core.List.{List, [], ◌∷◌}
use lib.Dec.{lit<, lit≤}
use lib.ListN.{length, replicate}
use Rattle.lists.specs.Buffer.{put_at}
use Rattle.lists.proofs.PlaceLaws.{below_one}
use Rattle.refusal.proofs.PromiseLaws.{written-accepted}
use Rattle.file.specs.File.{File, file, file_pulses, write_file}
use Rattle.file.specs.Claim.{Typed, Sent, Enough}
use Rattle.file.proofs.FileLaws.{Taken, write_file-accepted}

pub right-sent : {f : File} (out : List ℕ) → Typed f → Taken (length out) f → Sent f out (length (file_pulses f)) (put_at out 0 (file_pulses f))
right-sent {f} out typed t = record { typed = typed; promised = written-accepted (write_file (length out) f) out (write_file-accepted (length out) f t) refl refl }

-- type 1, no name, one byte
abbrev pub smallest : File
smallest = file (record { kind = 1; start = 0; end = 1 }) [] (0 ∷ []) 64 64

smallest-typed : Typed smallest
smallest-typed = record { kind = lit< tt; start = lit< tt; end = lit< tt; name = λ i. lit< tt; bytes = below_one 0 (lit< tt) }

smallest-taken : Taken (length (file_pulses smallest)) smallest
smallest-taken = record {
  right = record {
    name = lit≤ tt;
    kind = inl refl;
    addresses = record { low = lit≤ tt; high = lit≤ tt };
    size = refl;
    leader₀ = record { low = lit≤ tt; high = lit≤ tt };
    leader₁ = record { low = lit≤ tt; high = lit≤ tt };
  };
  fits = omega arith;
}

-- into any buffer that is just long enough
pub smallest-sent : (out : List ℕ) → length out ≡ length (file_pulses smallest)
    → Sent smallest out (length (file_pulses smallest)) (put_at out 0 (file_pulses smallest))
smallest-sent out e = right-sent out smallest-typed (rw e smallest-taken)

pub smallest-enough : Enough smallest (replicate 192 0) (replicate 1 0)
smallest-enough = record { header = lit≤ tt; bytes = lit≤ tt }
