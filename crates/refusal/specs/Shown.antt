-- A refusal as the programs print it; the listing's `refusal_line` is the same with a line's end (`listing/LineLaws.refusal_line-shown`).
use Rattle.std.specs.Prelude.{List, ℕ, ◌++◌, codes}
use Rattle.std.specs.Fmt.{decimal}
use Rattle.refusal.specs.declared.Refusal.{Refusal}
use Rattle.refusal.specs.Refusal.{number_of}

-- the word, the number, the block and the place, with single spaces
abbrev pub shown : Refusal → List ℕ
shown r = codes "refused " ++ (decimal (number_of r.reason) ++ (codes " " ++ (decimal r.block ++ (codes " " ++ decimal r.place))))
