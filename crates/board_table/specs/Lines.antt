-- How places and sets of layers are said.
use Rattle.std.specs.Prelude.{ℕ, List, ◌++◌, codes, false}
use Rattle.std.specs.Fmt.{digits, signed_decimal}
use Rattle.grid_num.specs.declared.Point.{Point}

-- both coordinates in decimal, each behind a space
abbrev pub place_text : Point → List ℕ
place_text at = codes " " ++ (signed_decimal at.x ++ (codes " " ++ signed_decimal at.y))

-- a set of layers in binary digits, the first layer's the last one
abbrev pub set_text : ℕ → List ℕ
set_text layers = codes " layers " ++ digits 2 false layers
