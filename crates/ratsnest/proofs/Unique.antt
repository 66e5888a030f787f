-- There is one tree in joining order.
use Rattle.std.proofs.Common.{◌≡◌, refl, sym, subst, ap, ◌∙◌, ℕ, List, [], ◌∷◌, inl, inr}
use Rattle.std.proofs.Common.{rules}
use Rattle.std.specs.Prelude.{◌==◌, ◌&&◌}
use Rattle.std.specs.Bool.{Decides}
use Rattle.classes.specs.Classes.{IsOneOf}
use Rattle.ratsnest.specs.declared.Anchor.{Anchor}
use Rattle.ratsnest.specs.declared.Pair.{Pair}
use Rattle.ratsnest.specs.Ratsnest.{AreEndsOf, IsNextPair, IsGrown, IsTree}
use Rattle.ratsnest.proofs.Order.{less_cases}
use Rattle.ratsnest.proofs.Least.{end_in}

next_same : (xs : List Anchor) (done : List ℕ) (e : Pair) (u c : ℕ) (f : Pair) (v d : ℕ) → IsNextPair xs done e u c → IsNextPair xs done f v d → e ≡ f
next_same xs done e u c f v d n m = elim (less_cases xs e f) [
  | inl k ↦ absurd (m.least e u c n.leaving k)
  | inr o ↦ elim o [ inl p ↦ p | inr k ↦ absurd (n.least f v d m.leaving k) ]
]

end_same : (xs : List Anchor) (done : List ℕ) (e : Pair) (u c v d : ℕ) → AreEndsOf xs e u c → AreEndsOf xs e v d
    → IsOneOf u done → (IsOneOf d done → ⊥) → c ≡ d
unfolding AreEndsOf
end_same xs done e u c v d (inl (p, q)) (inl (r, s)) i k = q ∙ sym s
end_same xs done e u c v d (inl (p, q)) (inr (r, s)) i k = absurd (k (subst (λ z. IsOneOf z done) (p ∙ sym s) i))
end_same xs done e u c v d (inr (p, q)) (inl (r, s)) i k = absurd (k (subst (λ z. IsOneOf z done) (p ∙ sym s) i))
end_same xs done e u c v d (inr (p, q)) (inr (r, s)) i k = q ∙ sym s

pub grown_one : (xs : List Anchor) (done : List ℕ) (es fs : List Pair) → IsGrown xs done es → IsGrown xs done fs → es ≡ fs
unfolding IsGrown
grown_one xs done [] [] g h = refl
grown_one xs done [] (f ∷ fs) g (v, d, m, h) = absurd (m.leaving.new (g d (end_in xs f v d m.leaving.is m.leaving.ends)))
grown_one xs done (e ∷ es) [] (u, c, n, g) h = absurd (n.leaving.new (h c (end_in xs e u c n.leaving.is n.leaving.ends)))
grown_one xs done (e ∷ es) (f ∷ fs) (u, c, n, g) (v, d, m, h) =
    let p : e ≡ f = next_same xs done e u c f v d n m in
    let q : c ≡ d = end_same xs done f u c v d (subst (λ z. AreEndsOf xs z u c) p n.leaving.ends) m.leaving.ends n.leaving.from m.leaving.new in
    ap (λ z. z ∷ es) p ∙ ap (λ zs. f ∷ zs) (grown_one xs (c ∷ done) es fs g (subst (λ z. IsGrown xs (z ∷ done) fs) (sym q) h))

pub tree_one : (xs : List Anchor) (es fs : List Pair) → IsTree xs es → IsTree xs fs → es ≡ fs
unfolding IsTree
tree_one [] es fs g h = g ∙ sym h
tree_one (a ∷ xs) es fs g h = grown_one (a ∷ xs) (a.cluster ∷ []) es fs g h

pub pair_decides : (a b : Pair) → Decides ((a.first == b.first) && (a.second == b.second)) (a ≡ b)
pair_decides a b = search rules
