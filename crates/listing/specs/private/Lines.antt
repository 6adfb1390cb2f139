-- The listing, by what the file reader answered, and the room of its text.
use Rattle.std.specs.Prelude.{ℕ, ◌+◌, ◌≤◌, List, ◌++◌, Result, Err, Ok}
use Rattle.arrayvec.specs.ArrayString.{ArrayString, array_string_len}
use Rattle.file.specs.declared.Loaded.{Loaded}
use Rattle.refusal.specs.declared.Refusal.{Refusal}
use Rattle.refusal.specs.Refusal.{number_of}
use Rattle.header.specs.Header.{shown_name}
use Rattle.file.specs.File.{data_bytes}
use Rattle.listing.specs.Listing.{file_line, refusal_line, heading}

abbrev pub answer_line : Result Loaded Refusal → (header : List ℕ) → List ℕ
answer_line (Ok l) header = file_line l.fields (data_bytes l.fields) (shown_name header)
answer_line (Err r) header = refusal_line (number_of r.reason) r.block r.place

-- the listing, by what the file reader answered and the header that it put
abbrev pub answer_text : Result Loaded Refusal → (header : List ℕ) → List ℕ
answer_text a header = heading ++ answer_line a header

-- a text has room for n bytes more
abbrev pub HasRoom : (text : ArrayString) (n : ℕ) → Type 0
HasRoom text n = array_string_len text + n ≤ 97
