-- Where the titles of a file of boards stand.
use Rattle.std.specs.Prelude.{◌≡◌, ◌⊎◌, ℕ, ◌-◌, List, ◌++◌, codes, drop, take, slice_index}
use Rattle.board_table.specs.declared.cases.Case.{Case}

-- a line begins at this place
abbrev pub IsLineStart : List ℕ → ℕ → Type 0
IsLineStart text at = (at ≡ 0) ⊎ (slice_index text (at - 1) ≡ 10)

-- and it begins with the mark of titles
abbrev pub IsTitleAt : List ℕ → ℕ → Type 0
IsTitleAt text at = IsLineStart text at × (take 3 (drop at text) ≡ codes "== ")

-- a case as it stands in the file
abbrev pub case_text : Case → List ℕ
case_text case = case.title.now ++ case.board.now
