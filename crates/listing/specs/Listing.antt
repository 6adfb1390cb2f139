-- What the listing program prints (document 01, 'Cases').
use Rattle.std.specs.Prelude.{ℕ, zero, suc, ◌+◌, ◌/◌, ◌%◌, cond, ◌||◌, List, [], ◌∷◌, ◌++◌, map, ltb, length}
use Rattle.lists.specs.Text.{ascii}
use Rattle.refusal.specs.declared.Reason.TheVariants.{WrongSize}
use Rattle.refusal.specs.Outcome.{Outcome, refused, accepted, refuse, and_then}
use Rattle.pulse.specs.Pulse.{fixed, classes}
use Rattle.header.specs.declared.Fields.{Fields}
use Rattle.header.specs.Header.{shown_name}
use Rattle.file.specs.Reading.{FileRead, read_file}
use Rattle.tap.specs.Reading.{tap_of}

-- ---- Numbers as text

-- 0 to 9, then A to F
unfoldable pub digit : ℕ → ℕ
digit d = cond (ltb d 10) (0x30 + d) (0x37 + d)

-- the decimal digits of a number that has at most `most` of them
unfoldable pub digits : (most n : ℕ) → List ℕ
digits zero n = []
digits (suc most) n = let front = digits most (n / 10) in cond (ltb n 10) (digit n ∷ []) (front ++ digit (n % 10) ∷ [])

-- a 64-bit number has at most twenty
abbrev pub decimal : ℕ → List ℕ
decimal n = digits 20 n

-- a 16-bit address, as four digits
unfoldable pub hexadecimal : ℕ → List ℕ
hexadecimal n = digit (n / 4096) ∷ digit (n / 256 % 16) ∷ digit (n / 16 % 16) ∷ digit (n % 16) ∷ []

-- ---- Lines

-- a field and the space after it
abbrev pub field : List ℕ → List ℕ
field text = text ++ 0x20 ∷ []

abbrev pub newline : List ℕ
newline = 0x0a ∷ []

-- a byte outside $20 to $7E prints as a full stop
unfoldable pub printed : ℕ → ℕ
printed b = cond (ltb b 0x20 || ltb 0x7e b) 0x2e b

-- type, start, end, number of bytes, shown name
unfoldable pub file_line : (fields : Fields) (count : ℕ) (name : List ℕ) → List ℕ
file_line f count name =
    field (decimal f.kind) ++ field (hexadecimal f.start) ++ field (hexadecimal f.end) ++ field (decimal count) ++ map printed name ++ newline

unfoldable pub refusal_line : (number block place : ℕ) → List ℕ
refusal_line number block place = field (ascii "refused") ++ field (decimal number) ++ field (decimal block) ++ (decimal place ++ newline)

abbrev pub line : Outcome FileRead → List ℕ
line (refused why) = refusal_line why.number why.block why.place
line (accepted f) = file_line f.loaded.fields (length f.bytes) (shown_name f.header)

-- ---- The listing

-- the program file from place 0 of a TAP file of at most 16 KiB (longer: refusal 1); there is room for every header and the data of every file
unfoldable pub file_in : (file : List ℕ) → Outcome FileRead
file_in file = cond (ltb 16384 (length file)) (refuse WrongSize 0) (and_then (tap_of file) (λ t. read_file (classes fixed t.durations) 192 8192 0))

abbrev pub heading : List ℕ
heading = ascii "type start end bytes name\n"

unfoldable pub listing : (file : List ℕ) → List ℕ
listing file = heading ++ line (file_in file)
