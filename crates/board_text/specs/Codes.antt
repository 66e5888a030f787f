-- How the logic keeps items apart: a forest by the numbers of its items and their nodes, which give it back.
use Rattle.std.specs.Prelude.{◌≡◌, ℕ, List, length, refl, ◌==◌, cond}
use Rattle.std.specs.Coded.{Coded, code_by, coded×, coded_ℕ, coded_list}
use Rattle.sexpr_text.specs.Grammar.{Forest}
use Rattle.sexpr_text.specs.Items.{Item}
use Rattle.sexpr_text.specs.Flat.{Shown, flat, numbers}
use Rattle.sexpr_text.specs.declared.NodeKind.{NodeKind}
use Rattle.sexpr_text.specs.declared.NodeKind.TheVariants as kinds
use Rattle.sexpr_text.specs.Parts.{Part, forest_at}
use Rattle.sexpr_text.proofs.ItemAt.{given_back}

abbrev kind_number : NodeKind → ℕ
kind_number kinds.List = 0
kind_number kinds.Word = 1
kind_number kinds.Text = 2

abbrev kind_of : ℕ → NodeKind
kind_of n = cond (n == 0) kinds.List (cond (n == 1) kinds.Word kinds.Text)

pub kind_back : (k : NodeKind) → kind_of (kind_number k) ≡ k
kind_back kinds.List = refl
kind_back kinds.Word = refl
kind_back kinds.Text = refl

abbrev kind_code : Coded NodeKind
kind_code = code_by ℕ coded_ℕ kind_number kind_of kind_back

abbrev shown_code : Coded Shown
shown_code =
    code_by (NodeKind × (ℕ × (ℕ × List ℕ))) (coded× kind_code (coded× coded_ℕ (coded× coded_ℕ (coded_list coded_ℕ))))
    (λ n. (n.kind, (n.from, (n.to, n.children)))) (λ p. record { kind = p.0; from = p.1.0; to = p.1.1.0; children = p.1.1.1 }) (λ _. refl)

abbrev forest_code : Coded Forest
forest_code =
    code_by (List ℕ × List Shown) (coded× (coded_list coded_ℕ) (coded_list shown_code))
    (λ f. (numbers 0 f, flat 0 f)) (λ p. forest_at (length p.1) p.1 p.0) given_back

abbrev item_code : Coded Item
item_code =
    code_by (NodeKind × (ℕ × (ℕ × Forest))) (coded× kind_code (coded× coded_ℕ (coded× coded_ℕ forest_code)))
    (λ i. (i.kind, (i.from, (i.to, i.inner)))) (λ p. record { kind = p.0; from = p.1.0; to = p.1.1.0; inner = p.1.1.1 }) (λ _. refl)

-- how items with their texts are kept apart
abbrev pub part_code : Coded Part
part_code =
    code_by (List ℕ × Item) (coded× (coded_list coded_ℕ) item_code) (λ p. (p.bytes, p.item)) (λ p. record { bytes = p.0; item = p.1 }) (λ _. refl)
