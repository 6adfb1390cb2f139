-- What is printed of a damaged tape is the file that was written: the TAP file reads back as the strip, and demand 3 reads the strip.
use Prim.Native.Nat.{ℕ, ◌≤◌}
use Rattle.refusal.specs.declared.Refusal.{Refusal}
use Rattle.std.specs.Prelude.{Result, ℕ, Err, Ok}
use native.Mathlib.Omega.{arith}
use mathlib.Core.Path.{◌≡◌, ap, ◌∙◌}
use mathlib.Core.Logic.{⊎_elim}
use mathlib.Core.List.{List, ◌++◌}
use borrow.Author.Tests.{le-leb, le-ltb}
use lib.Dec.{lit≤}
use lib.ListN.{length, take, get_or, length-take}
use Rattle.refusal.specs.Outcome.{Outcome, accepted, mapped, outcome_of}
use Rattle.refusal.specs.Promise.{Written}
use Rattle.pulse.specs.Pulse.{fixed}
use Rattle.block.proofs.BlockLaws.{length-block_pulses}
use Rattle.header.proofs.HeaderLaws.{length-header}
use Rattle.file.specs.File.{File, file_header}
use Rattle.file.specs.Damage.{FileDamaged}
use Rattle.file.specs.Claim.{Sent}
use Rattle.file.proofs.FileLaws.{length-file_pulses}
use Rattle.file.proofs.Demand3.{as_written, taken, length-count, read_file-damaged, demand-3}
use Rattle.file.proofs.NeverNoise.{never-noise}
use Rattle.tap.specs.Tap.{write_tap}
use Rattle.tap.specs.Reading.{tap_with, tap_of}
use Rattle.tap.specs.Claim.{Writable}
use Rattle.tap.proofs.RoundTrip.{tap_of-written, round_trip}
use Rattle.listing.specs.Listing.{line, file_in, heading, listing}
use Rattle.listing.specs.Claim.{FitsLongForm, Printed}

file-in : {f : File} {out out' : List ℕ} {count : ℕ} (sent : Sent f out count out') {strip : List ℕ} → FileDamaged fixed f count strip
    → (version : ℕ) (file : List ℕ) → length file ≤ 16384 → tap_of file ≡ accepted (tap_with version strip) → file_in file ≡ accepted (as_written f strip)
unfolding file_in
file-in sent d version file short e =
    rw (le-ltb 16384 (length file) short, e) (read_file-damaged sent d 192 8192 (lit≤ tt) (taken sent).right.addresses.high)

-- ---- Strips that have a TAP file

module _ {f : File} {out out' : List ℕ} {count : ℕ} (sent : Sent f out count out') where
  count-few : count ≤ 1048576
  count-few =
      let r = (taken sent).right in
      let a = length-block_pulses f.leader₀ (file_header f) in
      let b = length-block_pulses f.leader₁ f.bytes in
      let n = length-header f.fields f.name in
      omega (arith, length-count sent, length-file_pulses f, r.leader₀.high, r.leader₁.high, r.addresses.high, r.size)

  strip-writable : {strip : List ℕ} → FileDamaged fixed f count strip → FitsLongForm strip → Writable 1 strip
  strip-writable {strip} d fits = record {
    few = omega (arith, d.long, count-few);
    old = lit≤ tt;
    forms = λ i h. round_trip.one (get_or strip i 0) ∙ rw (le-leb (get_or strip i 0) 16777215 (fits i h));
  }

  -- a written pulse is short, medium or long
  written-fits : FitsLongForm (take count out')
  written-fits i h =
      ⊎_elim (λ e. rw e (lit≤ tt)) (λ w. ⊎_elim (λ e. rw e (lit≤ tt)) (λ e. rw e (lit≤ tt)) w) (never-noise.put f out count out' sent i h)

-- a writer that accepts answers the number of elements put
answered-count : (r : Result ℕ Refusal) {o : Outcome (List ℕ)} {values : List ℕ} → o ≡ accepted values → outcome_of r ≡ mapped length o → r ≡ Ok (length values)
answered-count (Ok n) e a = let q : accepted n ≡ accepted _ = a ∙ ap (mapped length) e in cc
answered-count (Err w) e a = absurd (let q = a ∙ ap (mapped length) e in let z : ◌≡◌ {A = ℕ} 0 1 = cc in omega arith)

-- ---- The claim

-- the strip is read from its TAP file, and the file from the strip
strip-listed : {f : File} {out out' : List ℕ} {count : ℕ} → Sent f out count out' → {strip : List ℕ} → FileDamaged fixed f count strip
    → (version : ℕ) (tape : List ℕ) (n : ℕ) (tape' : List ℕ) → Written (write_tap (length tape) version strip) tape (Ok n) tape' → n ≤ 16384
    → listing (take n tape') ≡ heading ++ line (accepted (as_written f strip))
unfolding listing
strip-listed sent {strip} d version tape n tape' w small =
    let l = length-take n tape' in
    ap (λ o. heading ++ line o) (file-in sent d version (take n tape') (omega arith) (tap_of-written version strip tape n tape' w))

pub printed-as-written : Printed
printed-as-written = record {
  listed = λ f out count out' sent strip d. strip-listed sent d;
  covered = λ f out count out' sent strip d fits n e tape room r tape' w.
      let accepts = round_trip.written (length tape) 1 strip (strip-writable sent d fits) (rw e at room) in
      let answer : r ≡ Ok n = answered-count r accepts w.0 ∙ rw e in
      (answer, λ small. strip-listed sent d 1 tape n tape' (rw answer at w) small);
  written = λ f out count out' sent. (demand-3.within f out count out' sent, written-fits sent);
}
