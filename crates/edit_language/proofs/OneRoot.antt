-- A text has one root.
use Rattle.std.proofs.Common.{◌≡◌, ◌∙◌, ap, sym, ℕ}
use Rattle.sexpr_text.specs.Grammar.{Forest}
use Rattle.sexpr_text.specs.Grammar.Forest.{Nil, Word, Text, Group}
use Rattle.sexpr_text.specs.Items.{Item}
use Rattle.sexpr_text.specs.declared.NodeKind.{NodeKind}
use Rattle.sexpr_text.proofs.Whole.{one_tree}
use Rattle.edit_language.specs.FoldLaws.{OneRootLaw}

abbrev from_in : Forest → ℕ
from_in Nil = 0
from_in (Word from to rest) = from
from_in (Text from to rest) = from
from_in (Group from to inner rest) = from

abbrev to_in : Forest → ℕ
to_in Nil = 0
to_in (Word from to rest) = to
to_in (Text from to rest) = to
to_in (Group from to inner rest) = to

abbrev inner_in : Forest → Forest
inner_in Nil = Nil
inner_in (Word from to rest) = Nil
inner_in (Text from to rest) = Nil
inner_in (Group from to inner rest) = inner

abbrev item : NodeKind → ℕ → ℕ → Forest → Item
item kind from to inner = record { kind = kind; from = from; to = to; inner = inner }

same_parts : (k l : NodeKind) (a b c d : ℕ) (f g : Forest) → k ≡ l → a ≡ b → c ≡ d → f ≡ g → item k a c f ≡ item l b d g
same_parts k l a b c d f g p q r s =
    ap (λ x. item x a c f) p ∙ ap (λ x. item l x c f) q ∙ ap (λ x. item l b x f) r ∙ ap (λ x. item l b d x) s

pub one_root : OneRootLaw
one_root text root other a b =
    let e = one_tree text (Group root.from root.to root.inner Nil) (Group other.from other.to other.inner Nil) a.spelt b.spelt in
    same_parts root.kind other.kind root.from other.from root.to other.to root.inner other.inner (a.list ∙ sym b.list) (ap from_in e) (ap to_in e) (ap inner_in e)
