-- What loading a file and listing it come to, by what their parts answered.
use Prim.Native.Nat.{ℕ, ◌≤◌, ◌<◌}
use Rattle.std.specs.Prelude.{Result, Err, Ok}
use native.Mathlib.Omega.{arith}
use mathlib.Core.Path.{◌≡◌, refl, sym, ap, ap₂, ◌∙◌}
use mathlib.Core.List.{List, ◌++◌}
use borrow.Author.Tests.{lt-ltb, le-ltb}
use lib.Dec.{ltb}
use lib.ListN.{length, take, drop, replicate, length-replicate}
use lib.Seq.{length-take-le}
use Rattle.lists.specs.Buffer.{put_at, Counts}
use Rattle.lists.proofs.BufferLaws.{length-put, part-put, put_front, put_whole}
use Rattle.refusal.specs.declared.Reason.TheVariants.{WrongSize}
use Rattle.refusal.specs.declared.Refusal.{Refusal}
use Rattle.refusal.specs.Refusal.{refusal_at}
use Rattle.refusal.specs.Outcome.{Outcome, accepted, refused_with, mapped, and_then, puts, outcome_of}
use Rattle.refusal.specs.Promise.{Answers, Fills, itself}
use Rattle.refusal.proofs.OutcomeLaws.{cond-accepted, and_then-accepted, mapped-refused, mapped-accepted}
use Rattle.refusal.proofs.PromiseLaws.{promise-refused}
use Rattle.pulse.specs.Pulse.{fixed, classes}
use Rattle.header.specs.Header.{shown_name}
use Rattle.file.specs.declared.Loaded.{Loaded}
use Rattle.file.specs.File.{data_bytes}
use Rattle.file.specs.Reading.{FileRead, loaded_of, header_of, read_file, FilePromise}
use Rattle.file.proofs.ReaderLaws.{by-rules}
use Rattle.file.proofs.FileLaws.{Whole, read_file_by-whole}
use Rattle.tap.specs.declared.TapInfo.{TapInfo}
use Rattle.tap.specs.Reading.{Tap, info_of, durations_of, tap_of, read_tap}
use Rattle.tap.specs.Reading as tap
use Rattle.tap.proofs.DataLaws.{read-enough, width-tap}
use Rattle.listing.specs.Listing.{file_in, file_line, line, heading, listing}
use Rattle.listing.specs.private.Lines.{answer_line, answer_text}

-- ---- Loading

-- the answer, and the header that is kept
abbrev pub Kept : (o : Outcome FileRead) (h : List ℕ) (r : Result Loaded Refusal) (h' : List ℕ) → Type 0
Kept o h r h' = Answers itself loaded_of o (outcome_of r) × Fills header_of o h h'

kept-refused : (o : Outcome FileRead) (h : List ℕ) {r s : Refusal} → o ≡ refused_with s → r ≡ s → Kept o h (Err r) h
kept-refused o h e q = promise-refused loaded_of header_of o h e (ap refused_with q)

module _ (file h : List ℕ) where
  pub file_in-wrong_size : {r : Refusal} → 16384 < length file → r ≡ refusal_at WrongSize 0 → Kept (file_in file) h (Err r) h
  unfolding file_in
  file_in-wrong_size l = kept-refused (file_in file) h (rw (lt-ltb 16384 (length file) l))

  module _ (short : length file ≤ 16384) where
    in-tap : file_in file ≡ and_then (tap_of file) (λ t. read_file (classes fixed t.durations) 192 8192 0)
    unfolding file_in
    in-tap = rw (le-ltb 16384 (length file) short)

    enough : read_tap 16364 file ≡ tap_of file
    enough = read-enough file 16364 (omega arith)

    module _ {a : Result TapInfo Refusal} {strip : List ℕ} (e : tap.TapPromise (read_tap 16364 file) (replicate 16364 0) a strip) where
      pub file_in-no_tape : {r : Refusal} → a ≡ Err r → Kept (file_in file) h (Err r) h
      file_in-no_tape {r} q =
          let t : tap_of file ≡ refused_with r = sym enough ∙ mapped-refused info_of (read_tap 16364 file) r (sym (ap outcome_of q) ∙ e.0) in
          kept-refused (file_in file) h {s = r} (in-tap ∙ ap (λ o. and_then o (λ t. read_file (classes fixed t.durations) 192 8192 0)) t) refl

      module _ {t : TapInfo} (q : a ≡ Ok t) where
        held : (x : Tap) × (read_tap 16364 file ≡ accepted x) × (info_of x ≡ t)
        held = mapped-accepted info_of (read_tap 16364 file) (sym (ap outcome_of q) ∙ e.0)

        strip-put : strip ≡ put_at (replicate 16364 0) 0 held.0.durations
        strip-put = e.1 ∙ ap (λ o. put_at (replicate 16364 0) 0 (puts (mapped durations_of o))) held.1

        count-is : t.count ≡ length held.0.durations
        count-is = sym (ap (λ i. i.count) held.2)

        few : length held.0.durations ≤ 16364
        few = let w = width-tap file held.0 (sym enough ∙ held.1) in omega arith

        pub count-within : t.count ≤ length strip
        count-within =
            let l = ap length strip-put ∙ length-put (replicate 16364 0) 0 held.0.durations ∙ length-replicate {A = ℕ} 16364 0 in
            let f = few in
            omega (arith, count-is)

        front : take t.count strip ≡ held.0.durations
        front =
            let f = few in
            let l = length-replicate {A = ℕ} 16364 0 in
            ap₂ take count-is strip-put ∙ part-put (replicate 16364 0) 0 held.0.durations (omega arith)

        read_is : read_file (classes fixed (take t.count strip)) 192 8192 0 ≡ file_in file
        read_is = rw front (sym (in-tap ∙ ap (λ o. and_then o (λ u. read_file (classes fixed u.durations) 192 8192 0)) (sym enough ∙ held.1)))

        pub file_in-read : (r : Result Loaded Refusal) (b : List ℕ) {h' b' : List ℕ} → length h ≡ 192 → length b ≡ 8192
            → FilePromise (read_file (classes fixed (take t.count strip)) (length h) (length b) 0) h b r h' b' → Kept (file_in file) h r h'
        file_in-read r b l m s = let s' = rw (l, m, read_is) at s in (s'.0, s'.1.0)

-- ---- Listing

file-in : (file : List ℕ) (f : FileRead) → file_in file ≡ accepted f → Whole f
unfolding file_in
file-in file f e =
    let s = cond-accepted (ltb 16384 (length file)) (refusal_at WrongSize 0) _ f e in
    let t = and_then-accepted (tap_of file) (λ u. read_file (classes fixed u.durations) 192 8192 0) f s.1 in
    read_file_by-whole (by-rules (classes fixed t.0.durations)).long 192 8192 f 0 t.2

line-answer : (file h : List ℕ) → length h ≡ 192 → (a : Result Loaded Refusal) (h' : List ℕ) → Kept (file_in file) h a h' → line (file_in file) ≡ answer_line a h'
line-answer file h l (Err r) h' k = ap line (mapped-refused loaded_of (file_in file) r k.0)
line-answer file h l (Ok x) h' k =
    let m = mapped-accepted loaded_of (file_in file) k.0 in
    let w = file-in file m.0 m.1 in
    let p : h' ≡ m.0.header = k.1 ∙ ap (λ o. put_at h 0 (puts (mapped header_of o))) m.1 ∙ put_whole h m.0.header (w.header ∙ sym l) in
    ap line m.1 ∙ ap (λ n. file_line m.0.loaded.fields n (shown_name m.0.header)) w.bytes
    ∙ ap (λ (y : Loaded). file_line y.fields (data_bytes y.fields) (shown_name m.0.header)) m.2
    ∙ ap (λ n. file_line x.fields (data_bytes x.fields) (shown_name n)) (sym p)

pub listing-answer : (file h : List ℕ) → length h ≡ 192 → (a : Result Loaded Refusal) (h' : List ℕ) → Kept (file_in file) h a h' → answer_text a h' ≡ listing file
unfolding listing
listing-answer file h l a h' k = ap (λ xs. heading ++ xs) (sym (line-answer file h l a h' k))

-- what is put where there is room for the text
pub listing-put : (file out : List ℕ) {n : ℕ} {text copied : List ℕ} → text ≡ listing file → n ≡ length text → copied ≡ text → length text ≤ length out
    → (n ≡ length (listing file)) × ((copied ++ drop n out ≡ put_at out 0 (listing file)) × Counts n (copied ++ drop n out))
listing-put file out {n} {text} {copied} e l w room =
    let p : copied ++ drop n out ≡ put_at out 0 text = rw (w, l) (sym (put_front out text room)) in
    let s = ap length p ∙ length-put out 0 text in
    let k : n ≤ length (copied ++ drop n out) = omega arith in
    (l ∙ ap length e, (p ∙ ap (put_at out 0) e, (k, sym (length-take-le n (copied ++ drop n out) k))))
