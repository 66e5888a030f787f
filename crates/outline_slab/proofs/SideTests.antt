-- What the tests of a side's run and rise mean.
use Rattle.std.proofs.Common.{◌≡◌, sym, ap, inl, inr, arith, Bool, subst}
use Rattle.std.specs.Prelude.{ℤ, pos, ◌-ℤ◌, ◌↔◌, IsTrue}
use Rattle.std.proofs.lemmas.Int.{ints}
use Rattle.plane.specs.Covering.{Edge}
use Rattle.plane.specs.Edges.{IsOctilinear}
use Rattle.outline_slab.specs.Rules.{IsSide}
use Rattle.outline_slab.specs.Inner.Side.{IsSameSign, IsEighth}
use Rattle.outline_slab.proofs.Chain.{same_point}

eighth_from : (e : Edge) → IsOctilinear e → IsEighth (e.finish.x -ℤ e.start.x) (e.finish.y -ℤ e.start.y)
unfolding IsOctilinear
eighth_from e (inl h) = inl (omega (arith, ints))
eighth_from e (inr (inl h)) = inr (inl (omega (arith, ints)))
eighth_from e (inr (inr (inl h))) = inr (inr (inl h))
eighth_from e (inr (inr (inr h))) = inr (inr (inr h))

eighth_to : (e : Edge) → IsEighth (e.finish.x -ℤ e.start.x) (e.finish.y -ℤ e.start.y) → IsOctilinear e
unfolding IsOctilinear
eighth_to e (inl h) = inl (omega (arith, ints))
eighth_to e (inr (inl h)) = inr (inl (omega (arith, ints)))
eighth_to e (inr (inr (inl h))) = inr (inr (inl h))
eighth_to e (inr (inr (inr h))) = inr (inr (inr h))

right_from : (e : Edge) → (e.finish.x -ℤ e.start.x ≡ pos 0 → e.finish.y -ℤ e.start.y ≡ pos 0 → ⊥) → IsEighth (e.finish.x -ℤ e.start.x) (e.finish.y -ℤ e.start.y) → IsSide e
right_from e g h = record {
  goes = λ s. g (let x = ap (λ (p : _). p.x) s in omega (arith, ints, x)) (let y = ap (λ (p : _). p.y) s in omega (arith, ints, y));
  octilinear = eighth_to e h;
}

pub right_test : (e : Edge) (run rise : ℤ) (t g h : Bool) → run ≡ e.finish.x -ℤ e.start.x → rise ≡ e.finish.y -ℤ e.start.y
    → IsTrue t ↔ (IsTrue g × IsTrue h) → IsTrue g ↔ (run ≡ pos 0 → rise ≡ pos 0 → ⊥) → IsTrue h ↔ IsEighth run rise → IsTrue t ↔ IsSide e
right_test e run rise t g h x y both goes eighth =
    subst (λ (u : ℤ). (IsTrue g ↔ (u ≡ pos 0 → rise ≡ pos 0 → ⊥)) → (IsTrue h ↔ IsEighth u rise) → IsTrue t ↔ IsSide e) (sym x)
    (subst (λ (v : ℤ). (IsTrue g ↔ (e.finish.x -ℤ e.start.x ≡ pos 0 → v ≡ pos 0 → ⊥)) → (IsTrue h ↔ IsEighth (e.finish.x -ℤ e.start.x) v) → IsTrue t ↔ IsSide e) (sym y)
    (λ a b. (
      λ z. right_from e (a.0 (both.0 z).0) (b.0 (both.0 z).1),
      λ s. both.1 (
        a.1 (λ i j. s.goes (same_point e.start e.finish (omega (arith, ints)) (omega (arith, ints)))),
        b.1 (eighth_from e s.octilinear),
      ),
    )))
    goes eighth

pub folded_test : (u v w z u' v' w' z' : ℤ) (t g h : Bool) → u ≡ u' → v ≡ v' → w ≡ w' → z ≡ z'
    → IsTrue t ↔ (IsTrue g × IsTrue h) → IsTrue g ↔ IsSameSign u v → IsTrue h ↔ IsSameSign w z → IsTrue t ↔ (IsSameSign u' v' × IsSameSign w' z')
folded_test u v w z u' v' w' z' t g h e1 e2 e3 e4 both x y =
    rw (← e1, ← e2, ← e3, ← e4) (λ a. (x.0 (both.0 a).0, y.0 (both.0 a).1), λ s. both.1 (x.1 s.0, y.1 s.1))
