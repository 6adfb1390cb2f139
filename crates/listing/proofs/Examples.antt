-- Texts that document 01 gives, by computation.
use mathlib.Core.Path.{◌≡◌, refl}
use mathlib.Core.List.{[], ◌∷◌, map}
use Rattle.lists.specs.Text.{ascii, equal}
use Rattle.header.specs.declared.Fields.{Fields}
use Rattle.tap.specs.Reading.{tap_version, tap_of}
use Rattle.listing.specs.Listing.{digit, digits, hexadecimal, printed, file_line, refusal_line, file_in, listing}

abbrev game : Fields
game = record { kind = 1; start = 0x0801; end = 0x0811 }

file-line : file_line game 16 (ascii "GAME") ≡ ascii "1 0801 0811 16 GAME\n"
unfolding file_line digits digit hexadecimal printed ascii
file-line = refl

-- an empty name leaves the space before it
empty_name : file_line game 16 [] ≡ ascii "1 0801 0811 16 \n"
unfolding file_line digits digit hexadecimal printed ascii
empty_name = refl

-- addresses are in upper case
upper-case : hexadecimal 0xabcd ≡ ascii "ABCD"
unfolding hexadecimal digit ascii
upper-case = refl

-- bytes outside $20 to $7E print as a full stop
full-stops : map printed (0x00 ∷ 0x1f ∷ 0x20 ∷ 0x7e ∷ 0x7f ∷ 0xff ∷ []) ≡ ascii ".. ~.."
unfolding printed ascii
full-stops = refl

-- number, block and place
refusal-line : refusal_line 4 1 8330 ≡ ascii "refused 4 1 8330\n"
unfolding refusal_line digits digit ascii
refusal-line = refl

-- a refusal prints the same heading
no-file : listing [] ≡ ascii "type start end bytes name\nrefused 10 0 0\n"
unfolding listing file_in tap_of tap_version refusal_line digits digit equal ascii
no-file = refl
