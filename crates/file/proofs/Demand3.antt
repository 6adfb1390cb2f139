-- Demand 3: whatever the tape does within the damage of a file, the reader returns what was written; and no strip lies within the damage
-- of two files that differ. It is stated over the promises of the writer and the reader themselves.
use Prim.Native.Nat.{ℕ, ◌+◌, ◌-◌, ◌≤◌}
use Rattle.refusal.specs.declared.Refusal.{Refusal}
use Rattle.std.specs.Prelude.{Result, Err, Ok}
use native.Mathlib.Omega.{arith}
use mathlib.Core.Path.{◌≡◌, refl, sym, ap, ◌∙◌}
use mathlib.Core.List.{List}
use lib.Dec.{lit≤}
use lib.ListN.{length}
use lib.Seq.{take_all, take_at, drop_at}
use Rattle.lists.specs.Places.{part}
use Rattle.lists.specs.Buffer.{put_at}
use Rattle.lists.proofs.PartLaws.{part-part}
use Rattle.lists.proofs.BufferLaws.{part-put, rest-front}
use Rattle.refusal.specs.Outcome.{accepted, mapped, puts, outcome_of}
use Rattle.refusal.proofs.OutcomeLaws.{accepted-once, mapped-accepted}
use Rattle.pulse.specs.declared.Thresholds.{Thresholds}
use Rattle.pulse.specs.Pulse.{fixed, classes}
use Rattle.start.specs.Copies.{end_of}
use Rattle.block.specs.Block.{block_length}
use Rattle.block.proofs.BlockLaws.{length-block_pulses}
use Rattle.block.proofs.DamageLaws.{undamaged}
use Rattle.header.proofs.HeaderLaws.{length-header, fields-header, header-name}
use Rattle.file.specs.declared.Loaded.{Loaded}
use Rattle.file.specs.File.{File, file_header, header_pulses, data_pulses, file_pulses, data_bytes, write_file}
use Rattle.file.specs.Reading.{FileRead, loaded_of, header_of, bytes_of, read_file, FilePromise}
use Rattle.file.specs.Damage.{FileDamaged}
use Rattle.file.specs.Claim.{Sent, Enough, FileReturned, SameFile, Demand3}
use Rattle.file.proofs.FileLaws.{Taken, write_file-taken, write_file-accepted, length-file_pulses, read_file_by-damaged}
use Rattle.file.proofs.ReaderLaws.{rules-damaged}

-- what the file is read as
abbrev pub as_written : File → (strip : List ℕ) → FileRead
as_written f strip = record { loaded = record { fields = f.fields; stop = length strip - 61 }; header = file_header f; bytes = f.bytes }

answered-is : (a : Result Loaded Refusal) (l : Loaded) → outcome_of a ≡ accepted l → a ≡ Ok l
answered-is (Ok m) l e = cc
answered-is (Err r) l e = absurd (let z : ◌≡◌ {A = ℕ} 0 1 = cc in omega arith)

-- ---- The writer accepted the file

module _ {f : File} {out out' : List ℕ} {count : ℕ} (sent : Sent f out count out') where
  pub taken : Taken (length out) f
  taken = let w = mapped-accepted length (write_file (length out) f) sent.promised.0 in write_file-taken (length out) f w.0 w.1

  pub length-count : length (file_pulses f) ≡ count
  length-count = let e = rw (write_file-accepted (length out) f taken) at sent.promised.0 in cc

  -- ---- The strip lies within its damage

  module _ {t : Thresholds} {strip : List ℕ} (d : FileDamaged t f count strip) where
    -- the rules for reading give it, whatever room is enough
    pub read_file-damaged : (header_room data_room : ℕ) → 192 ≤ header_room → data_bytes f.fields ≤ data_room
        → read_file (classes t strip) header_room data_room 0 ≡ accepted (as_written f strip)
    read_file-damaged header_room data_room h b =
        let right = taken.right in
        let n = data_bytes f.fields in
        let p = 0 + length (header_pulses f) + f.leader₁ in
        let whole : part strip 0 (length (file_pulses f)) ≡ strip = take_all (length (file_pulses f)) strip (omega (arith, d.long, length-count)) in
        let r = read_file_by-damaged t f sent.typed right strip 0 (rw (whole, length-count) d) 0 (omega (arith, right.leader₀.low)) (λ i x y. absurd (omega arith))
        (rules-damaged t strip) header_room data_room h b in
        let size : length (data_pulses f) ≡ block_length f.leader₁ n = rw right.size (length-block_pulses f.leader₁ f.bytes) in
        let stop : end_of p n ≡ length strip - 61 = omega (arith, d.long, length-count, length-file_pulses f) in
        r ∙ rw (fields-header f.fields f.name sent.typed.start sent.typed.end, stop)

    -- what the reader promises from place 0 on is to return the file
    returned : (h b : List ℕ) (r : Result Loaded Refusal) (h' b' : List ℕ) → Enough f h b → FilePromise (read_file (classes t strip) (length h) (length b) 0) h b r h' b'
        → FileReturned f strip h b r h' b'
    returned h b r h' b' enough promised =
        let e = read_file-damaged (length h) (length b) enough.header enough.bytes in
        let put₀ : h' ≡ put_at h 0 (file_header f) = promised.1.0 ∙ ap (λ o. put_at h 0 (puts (mapped header_of o))) e in
        let put₁ : b' ≡ put_at b 0 f.bytes = promised.1.1 ∙ ap (λ o. put_at b 0 (puts (mapped bytes_of o))) e in
        let long = length-header f.fields f.name in
        let fits : length f.bytes ≤ length b = omega (arith, enough.bytes, taken.right.size) in
        let there : part h' 0 192 ≡ file_header f = rw put₀ (rw long at (part-put h 0 (file_header f) (omega (arith, enough.header)))) in
        record {
          answer = answered-is r _ (promised.0 ∙ ap (mapped loaded_of) e);
          header = there;
          name = sym (part-part h' 0 192 5 187 (lit≤ tt)) ∙ ap (λ xs. part xs 5 187) there ∙ header-name f.fields f.name;
          bytes = rw put₁ (part-put b 0 f.bytes (omega arith));
          header_rest = rw put₀ (rest-front h (file_header f) 192 long enough.header);
          bytes_rest = rw put₁ (rest-front b f.bytes (length f.bytes) refl fits);
        }

-- ---- No strip lies within the damage of two files that differ

module _ {f g : File} {out out' other other' : List ℕ} {count count' : ℕ} (sent : Sent f out count out') (sent' : Sent g other count' other') {strip : List ℕ} where
  pub same-file : FileDamaged fixed f count strip → FileDamaged fixed g count' strip → SameFile f g
  same-file d d' =
      let e = read_file-damaged sent d 192 8192 (lit≤ tt) (taken sent).right.addresses.high in
      let e' = read_file-damaged sent' d' 192 8192 (lit≤ tt) (taken sent').right.addresses.high in
      let same : as_written f strip ≡ as_written g strip = accepted-once e e' in
      record {
        fields = ap (λ r. r.loaded.fields) same;
        name = sym (header-name f.fields f.name) ∙ ap (λ r. part r.header 5 187) same ∙ header-name g.fields g.name;
        bytes = ap bytes_of same;
      }

-- ---- The file as written

-- it lies within its own damage
pub file-undamaged : (f : File) → FileDamaged fixed f (length (file_pulses f)) (file_pulses f)
file-undamaged f = record {
  long = refl;
  header = rw (take_at (header_pulses f) (data_pulses f) (length (header_pulses f)) refl) (undamaged f.leader₀ (file_header f));
  bytes =
      let n = length (header_pulses f) in
      let m = length (data_pulses f) in
      rw (drop_at (header_pulses f) (data_pulses f) n refl, take_all m (data_pulses f) (omega arith)) (undamaged f.leader₁ f.bytes);
}

-- what the writer left in the buffer, as many pulses as it answered, is the file
pub sent-strip : {f : File} {out out' : List ℕ} {count : ℕ} → Sent f out count out' → part out' 0 count ≡ file_pulses f
sent-strip {f} {out} sent =
    let t = taken sent in
    let fits = t.fits in
    rw (sent.promised.1, write_file-accepted (length out) f t, ← (length-count sent)) (part-put out 0 (file_pulses f) (omega arith))

sent-undamaged : {f : File} {out out' : List ℕ} {count : ℕ} → Sent f out count out' → FileDamaged fixed f count (part out' 0 count)
sent-undamaged {f} sent = rw (sent-strip sent, ← (length-count sent)) (file-undamaged f)

-- ---- Demand 3

pub demand-3 : Demand3
demand-3 = record {
  returned = λ f out count out' sent strip d h b enough r h' b'. returned sent d h b r h' b' enough;
  apart = λ f g out other count count' out' other' sent sent' differ strip d d'. differ (same-file sent sent' d d');
  within = λ f out count out' sent. sent-undamaged sent;
}
