-- Headers (document 01, 'Headers and program files').
use Rattle.std.specs.Prelude.{ℕ, zero, suc, ◌+◌, Bool, cond, not, ◌||◌, List, ◌∷◌, ◌++◌, eqb, ltb, length, get_or}
use Rattle.lists.specs.Places.{tabulate, part}
use Rattle.lists.specs.Text.{low_first, from_low}
use Rattle.refusal.specs.declared.Reason.TheVariants.{WrongSize, WrongType}
use Rattle.refusal.specs.Outcome.{Outcome, refused, accepted, refuse, if_room, mapped}
use Rattle.header.specs.declared.Fields.{Fields}

-- ---- The layout

-- 187 bytes of name; a shorter name is filled with $20. Of a longer one, which packing and writing refuse, it is the first 187.
unfoldable pub filled : (name : List ℕ) → List ℕ
filled name = tabulate (λ i. get_or name i 0x20) 187 0

-- type; start low, high; end low, high; name
unfoldable pub header_bytes : (fields : Fields) (name : List ℕ) → List ℕ
header_bytes f name = f.kind ∷ (low_first 2 f.start ++ (low_first 2 f.end ++ filled name))

-- ---- Packing

-- a name over 187 bytes
abbrev pub wrong_name : (n : ℕ) → Bool
wrong_name n = ltb 187 n

-- the type is not 1 to 5
abbrev pub wrong_type : (kind : ℕ) → Bool
wrong_type kind = ltb kind 1 || ltb 5 kind

-- what is put into `room` places: refusals 1, 8, 2 in this order, else the header
unfoldable pub pack_header : (room : ℕ) (fields : Fields) (name : List ℕ) → Outcome (List ℕ)
pack_header room f name =
    cond (wrong_name (length name)) (refuse WrongSize 0)
    (cond (wrong_type f.kind) (refuse WrongType 0)
    (if_room room 192 (accepted (header_bytes f name))))

-- ---- Unpacking

-- an address is a 16-bit number, low byte first
abbrev pub word_at : (header : List ℕ) (at : ℕ) → ℕ
word_at h at = from_low (part h at 2)

-- type and both addresses
unfoldable pub fields_of : (header : List ℕ) → Fields
fields_of h = record { kind = get_or h 0 0; start = word_at h 1; end = word_at h 3 }

-- refusals 1 and 8 in this order, else type and both addresses
unfoldable pub unpack_header : (header : List ℕ) → Outcome Fields
unpack_header h =
    cond (not (eqb (length h) 192)) (refuse WrongSize 0)
    (cond (wrong_type (get_or h 0 0)) (refuse WrongType 0)
    (accepted (fields_of h)))

-- ---- The shown name

-- of the first n bytes of the name, how many there are without the spaces at their end
unfoldable pub shown_count : (header : List ℕ) (n : ℕ) → ℕ
shown_count h zero = zero
shown_count h (suc n) = cond (eqb (get_or h (5 + n) 0) 0x20) (shown_count h n) (suc n)

-- a part of a header: where it begins, and how many bytes it has
pub record Span : Type 0 where
  pub offset : ℕ
  pub length : ℕ

-- where the shown name stands: the first 16 bytes of the name without those spaces; refused where unpacking is
unfoldable pub shown_span : (header : List ℕ) → Outcome Span
shown_span h = mapped (λ _. record { offset = 5; length = shown_count h 16 }) (unpack_header h)

-- the part that is handed back; by a refusal it is empty, at the header's beginning
abbrev pub handed : Outcome Span → Span
handed (refused why) = record { offset = 0; length = 0 }
handed (accepted span) = span

-- its bytes
unfoldable pub shown_name : (header : List ℕ) → List ℕ
shown_name h = part h (handed (shown_span h)).offset (handed (shown_span h)).length

-- the place of the header where it begins
unfoldable pub shown_place : (header : List ℕ) → ℕ
shown_place h = (handed (shown_span h)).offset

-- the pointer k bytes on: a pointer is a block of memory and the place of a byte in it
abbrev pub pointer_at : ℕ × ℕ → ℕ → ℕ × ℕ
pointer_at p k = (p.0, p.1 + k)
