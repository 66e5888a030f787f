-- The fills are one family: each meets the rule over those above it, and no other family does.
use Rattle.std.proofs.Common.{sym, subst, ℕ, zero, suc, ◌<◌, inl, inr, arith}
use Rattle.std.specs.Prelude.{◌↔◌}
use Rattle.std.proofs.lemmas.Bool.{cases_eq}
use Rattle.plane.specs.Plane.{PlanePoint}
use Rattle.board_language.specs.Board.{Board}
use Rattle.fill_rules.specs.Fill.{Fills, InFill, fills_below, fill_of, AreFills}
use Rattle.fill_rules.proofs.Same.{fill_map, clears_fewer}

pub below_is : (b : Board) (n j : ℕ) (p : PlanePoint) → fills_below b n j p → (j < n) × fill_of b j p
unfolding fills_below fill_of
below_is b zero j p h = absurd h
below_is b (suc n) j p (inl h) = let r = below_is b n j p h in let l : j < n = r.0 in (omega arith, r.1)
below_is b (suc n) j p (inr (e, h)) = (omega arith, subst (λ k. InFill b (fills_below b k) k p) (sym e) h)

pub below_from : (b : Board) (n j : ℕ) (p : PlanePoint) → j < n → fill_of b j p → fills_below b n j p
unfolding fills_below fill_of
below_from b zero j p l h = absurd (omega arith)
below_from b (suc n) j p l h = elim (cases_eq j n) [
  | inl e ↦ inr (e, subst (λ k. InFill b (fills_below b k) k p) e h)
  | inr ne ↦ inl (below_from b n j p (omega (arith, ne)) h)
]

-- families that agree below i have one fill there
pub fill_agree : (b : Board) (one other : Fills) (i : ℕ) → ((j : ℕ) (p : PlanePoint) → j < i → one j p ↔ other j p)
    → (p : PlanePoint) → InFill b one i p ↔ InFill b other i p
fill_agree b one other i f p =
    let h = clears_fewer b one other i (λ j q l. (f j q l).1) in
    let k = clears_fewer b other one i (λ j q l. (f j q l).0) in
    (fill_map b one other i h k p, fill_map b other one i k h p)

pub fills_meet : (b : Board) → AreFills b (fill_of b)
unfolding fill_of
fills_meet b i p = fill_agree b (fills_below b i) (fill_of b) i (λ j q l. (λ h. (below_is b i j q h).1, λ h. below_from b i j q l h)) p

one_below : (b : Board) (one other : Fills) → AreFills b one → AreFills b other
    → (n j : ℕ) → j < n → (p : PlanePoint) → one j p ↔ other j p
one_below b one other f g zero j l p = absurd (omega arith)
one_below b one other f g (suc n) j l p =
    let a = fill_agree b one other j (λ k q m. one_below b one other f g n k (omega arith) q) p in
    (λ h. (g j p).1 (a.0 ((f j p).0 h)), λ h. (f j p).1 (a.1 ((g j p).0 h)))

-- at most one family of sets is that of the fills
pub fills_one : (b : Board) (one other : Fills) → AreFills b one → AreFills b other → (i : ℕ) (p : PlanePoint) → one i p ↔ other i p
fills_one b one other f g i p = one_below b one other f g (suc i) i (omega arith) p
