-- Laws of lines: a text that is copied, digits, a refusal's line, and how long a listing is.
use Prim.Native.Nat.{ℕ, zero, suc, ◌+◌, ◌-◌, ◌*◌, ◌/◌, ◌%◌, ◌^◌, ◌≤◌, ◌<◌}
use native.Mathlib.Nat.{pow-suc}
use native.Mathlib.Decide.{dec_lt}
use native.Mathlib.Omega.{arith}
use mathlib.Core.Path.{◌≡◌, refl, sym, ap, ◌∙◌}
use mathlib.Core.Bool.{Bool, true, false, cond}
use mathlib.Core.List.{List, [], ◌∷◌, ◌++◌, append_assoc}
use borrow.Author.Tests.{lt-ltb, le-ltb}
use lib.Dec.{ltb}
use lib.ListN.{length, take, length-append, length-map}
use lib.Seq.{sets, sets-eq, drop-drop}
use borrow.Rule.Slice.PartMut.{put_mid}
use Rattle.std.specs.Fmt as std
use Rattle.std.proofs.lemmas.Fmt.{AppendsLastDigit, decimal_from_appends, length-decimal-le}
use Rattle.lists.specs.Text.{ascii}
use Rattle.refusal.specs.declared.Reason.{Reason}
use Rattle.refusal.specs.declared.Reason.TheVariants.{WrongSize, NoRoom, NoStart, CutShort, WrongCountdown, LostByte, WrongChecksum, WrongType, WrongAddresses, WrongTapHeader, WrongTapVersion, CutLongForm, NoTapForm, WrongLeader}
use Rattle.refusal.specs.declared.Refusal.{Refusal}
use Rattle.refusal.specs.Refusal.{number_of}
use Rattle.refusal.specs.Shown.{shown}
use Rattle.refusal.specs.Outcome.{Outcome, refused, accepted}
use Rattle.header.specs.declared.Fields.{Fields}
use Rattle.header.specs.Header.{shown_name}
use Rattle.header.proofs.HeaderLaws.{shown_name-width}
use Rattle.file.specs.Reading.{FileRead}
use Rattle.listing.specs.Listing.{digit, digits, decimal, hexadecimal, newline, printed, file_line, refusal_line, line, file_in, listing}

-- ---- A text that is copied into the part of a buffer from a place on (docs/PORT.md names the law)

pub text-put : (out : List ℕ) (at : ℕ) (text : List ℕ) {copied : List ℕ} → at + length text ≤ length out → copied ≡ text
    → put_mid at (at + length text - at) out copied ≡ sets out at text
text-put out at text h e =
    let n : at + length text - at ≡ length text = omega arith in
    rw (e, n, drop-drop) (sym (append_assoc (take at out) text _) ∙ sym (sets-eq text out at h))

-- ---- Digits

-- the last digit comes after those of the front
appends_last : AppendsLastDigit digits
unfolding digits digit
appends_last = record {
  one = λ k n h. rw (lt-ltb n 10 h);
  more = λ k n h. let d : n % 10 < 10 = omega arith in rw (le-ltb n 10 h, lt-ltb (n % 10) 10 d);
}

-- std writes a number with the same digits
pub decimal-same : (n : ℕ) → n < 2 ^ 64 → std.decimal n ≡ decimal n
decimal-same n h = sym (decimal_from_appends digits appends_last 20 n h (length-decimal-le 20 n (omega arith) (omega arith) h))

-- the number that digits spell, after a number that was spelt before them
abbrev spelt : ℕ → List ℕ → ℕ
spelt n [] = n
spelt n (c ∷ text) = spelt (n * 10 + (c - 0x30)) text

spelt-last : (n : ℕ) (text : List ℕ) (c : ℕ) → spelt n (text ++ c ∷ []) ≡ spelt n text * 10 + (c - 0x30)
spelt-last n [] c = refl
spelt-last n (b ∷ text) c = spelt-last (n * 10 + (b - 0x30)) text c

digit-spelt : (d : ℕ) → d < 10 → digit d - 0x30 ≡ d
unfolding digit
digit-spelt d h = rw (lt-ltb d 10 h) (omega arith)

-- the digits of a number spell it
pub digits-spell : (most n : ℕ) → n < 10 ^ most → spelt 0 (digits most n) ≡ n
unfolding digits
digits-spell zero n h = omega arith
digits-spell (suc most) n h = elim (dec_lt n 10) [
  | yes l ↦ rw (lt-ltb n 10 l, digit-spelt n l) (omega arith)
  | no l ↦
      let b : n < 10 ^ most * 10 = rw (pow-suc 10 most) at h in
      rw (le-ltb n 10 (omega arith), spelt-last 0 (digits most (n / 10)) (digit (n % 10)), digit-spelt (n % 10) (omega arith), digits-spell most (n / 10) (omega arith)) (omega arith)
]

pub width-digits : (most n : ℕ) → length (digits most n) ≤ most
unfolding digits
width-digits zero n = omega arith
width-digits (suc most) n = go (ltb n 10) (width-digits most (n / 10))
  where
    go : (t : Bool) → length (digits most (n / 10)) ≤ most → length (cond t (digit n ∷ []) (digits most (n / 10) ++ digit (n % 10) ∷ [])) ≤ suc most
    go true h = omega arith
    go false h = rw length-append (omega arith)

pub width-number : (n after : ℕ) → length (decimal n ++ after ∷ []) ≤ 21
width-number n after = rw length-append (omega (arith, width-digits 20 n))

-- ---- A refusal's line

number_few : (reason : Reason) → number_of reason ≤ 14
number_few WrongSize = omega arith
number_few NoRoom = omega arith
number_few NoStart = omega arith
number_few CutShort = omega arith
number_few WrongCountdown = omega arith
number_few (LostByte causes) = omega arith
number_few WrongChecksum = omega arith
number_few WrongType = omega arith
number_few WrongAddresses = omega arith
number_few WrongTapHeader = omega arith
number_few WrongTapVersion = omega arith
number_few CutLongForm = omega arith
number_few NoTapForm = omega arith
number_few WrongLeader = omega arith

-- the line is what the programs print of a refusal, and its end
pub refusal_line-shown : (r : Refusal) → r.block < 2 ^ 64 → r.place < 2 ^ 64 → refusal_line (number_of r.reason) r.block r.place ≡ shown r ++ newline
unfolding refusal_line ascii
refusal_line-shown r b p =
    let n = number_few r.reason in
    let d = decimal (number_of r.reason) in
    let e = decimal r.block in
    let f = decimal r.place in
    let end = ap (λ text. d ++ 0x20 ∷ text) (sym (append_assoc e (0x20 ∷ f) newline)) ∙ sym (append_assoc d (0x20 ∷ (e ++ 0x20 ∷ f)) newline) in
    rw (decimal-same (number_of r.reason) (omega arith), decimal-same r.block b, decimal-same r.place p)
    (simp append_assoc (ap (λ text. ascii "refused " ++ text) end))

-- ---- How long a listing is

width-refusal : (number block place : ℕ) → length (refusal_line number block place) ≤ 71
unfolding refusal_line ascii
width-refusal number block place =
    let a = width-number number 0x20 in
    let b = width-number block 0x20 in
    let c = width-number place 0x0a in
    simp length-append (omega (arith, rw length-append at a, rw length-append at b, rw length-append at c))

width-file : (f : Fields) (count : ℕ) (name : List ℕ) → length name ≤ 16 → length (file_line f count name) ≤ 69
unfolding file_line hexadecimal
width-file f count name h =
    let a = width-digits 20 f.kind in
    let b = width-digits 20 count in
    let c = length-map name printed in
    simp length-append (omega arith)

width-line : (o : Outcome FileRead) → length (line o) ≤ 71
width-line (refused why) = width-refusal why.number why.block why.place
width-line (accepted f) = omega (arith, width-file f.loaded.fields (length f.bytes) (shown_name f.header) (shown_name-width f.header))

-- every listing fits 97 bytes
pub width-listing : (file : List ℕ) → length (listing file) ≤ 97
unfolding listing ascii
width-listing file = simp length-append (omega (arith, width-line (file_in file)))
