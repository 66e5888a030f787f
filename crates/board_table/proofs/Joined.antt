-- One case more is joined to those before it.
use Rattle.std.proofs.Common.{◌≡◌, ℕ, ◌-◌, ◌≤◌, List, [], ◌∷◌, ◌++◌, take, drop, ◌∙◌, ap}
use Rattle.std.proofs.lemmas.Grind.{flat_map-append}
use Rattle.std.proofs.lemmas.List.{append-nil}
use Rattle.std.specs.List.{flat_map}
use Rattle.board_table.specs.declared.cases.Case.{Case}
use Rattle.board_table.specs.Cases.{case_text}
use Rattle.board_table.proofs.Cuts.{cut_twice}

pub joined_more : (found more : List Case) (case : Case) (xs : List ℕ) (a b c : ℕ) → a ≤ b → b ≤ c → more ≡ found ++ (case ∷ []) → case_text case ≡ take (b - a) (drop a xs) ++ take (c - b) (drop b xs) → flat_map case_text found ≡ take a xs → flat_map case_text more ≡ take c xs
joined_more found more case xs a b c ab bc e is before =
    ap (flat_map case_text) e
    ∙ flat_map-append case_text found (case ∷ [])
    ∙ ap (λ ys. ys ++ flat_map case_text (case ∷ [])) before
    ∙ ap (λ ys. take a xs ++ ys) (append-nil (case_text case) ∙ is)
    ∙ cut_twice xs a b c ab bc
