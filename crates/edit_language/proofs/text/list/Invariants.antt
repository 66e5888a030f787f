use Rattle.std.proofs.Common.{◌≡◌, [], ◌∷◌, ◌++◌, map, drop}
use Rattle.edit_language.specs.Splices.{values_text, list_text}
use Rattle.edit_language.proofs.text.list.Given as goal

abbrev pub invariant-values : goal.invariant-values
invariant-values l = l.out.items ++ (values_text (map (λ value. value.items) (drop l.value-index l.values)) ++ (41 ∷ [])) ≡ list_text l.name (map (λ value. value.items) l.values)
