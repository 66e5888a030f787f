-- Whatever is the ratsnest in joining order is a least tree.
use Rattle.std.proofs.Common.{subst, ◌↔◌, List, [], ◌∷◌, arith}
use Rattle.classes.specs.Classes.{IsOneOf}
use Rattle.ratsnest.specs.declared.Anchor.{Anchor}
use Rattle.ratsnest.specs.declared.Pair.{Pair}
use Rattle.ratsnest.specs.Ratsnest.{IsPair, InRatsnest, IsTree, HasOneFewer, IsLeastTree, TreeLaw}
use Rattle.ratsnest.proofs.Least.{tree_is, tree_joins, tree_many, tree_least}
use Rattle.ratsnest.proofs.Unique.{tree_one}

no_pair : (e : Pair) → IsPair [] e → ⊥
no_pair e p = omega (arith, p.there)

no_ratsnest : (e : Pair) → InRatsnest [] e → ⊥
no_ratsnest e r = no_pair e r.is

law_exact : (xs : List Anchor) (es : List Pair) → IsTree xs es → (e : Pair) → IsOneOf e es ↔ InRatsnest xs e
unfolding IsTree IsOneOf
law_exact [] es h e = (λ i. absurd (subst (λ l. IsOneOf e l) h i), λ r. absurd (no_ratsnest e r))
law_exact (a ∷ xs) es g e = tree_is a xs es g e

law_fewer : (xs : List Anchor) (es : List Pair) → IsTree xs es → HasOneFewer xs es
unfolding IsTree HasOneFewer
law_fewer [] es h = h
law_fewer (a ∷ xs) es g = tree_many a xs es g

pub least_tree : (xs : List Anchor) (es : List Pair) → IsTree xs es → IsLeastTree xs es
least_tree xs es g = record {
  exact = law_exact xs es g;
  joining = tree_joins xs es g;
  fewer = law_fewer xs es g;
  least = λ js square j. tree_least xs es js g j square;
}

pub law : TreeLaw
law = record { least = least_tree; one = tree_one }
