-- A square is an outline.
use Rattle.std.proofs.Common.{◌≡◌, refl, ap, ℕ, zero, suc, ◌+◌, ◌<◌, ◌≤◌, inl, inr, [], ◌∷◌, arith}
use Rattle.std.specs.Prelude.{ℤ, pos, ◌*ℤ◌, ◌<ℤ◌}
use Rattle.std.specs.List.{All}
use Rattle.std.proofs.lemmas.Int.{ints}
use Rattle.std.proofs.lemmas.List.Elements.{All-nil, All-cons}
use Rattle.grid_num.specs.declared.Point.{Point}
use Rattle.grid_num.proofs.Products.{mul_lt}
use Rattle.plane.specs.Plane.{PlanePoint, IsSame, grid_point}
use Rattle.plane.specs.Covering.{Edge, edges_of}
use Rattle.plane.specs.Edges.{IsOctilinear}
use Rattle.plane.proofs.On.{on_level, on_upright}
use Rattle.outline_slab.specs.Rules.{IsEven, IsOnGrid, IsSide, AreCrossing, IsOutline, edge}
use Rattle.gen_facts.proofs.ZoneKind.{square}

abbrev corner : ℤ → ℤ → Point
corner x y = record { x = x; y = y }

abbrev way : Point → Point → Edge
way a b = record { start = a; finish = b }

-- ---- corners and sides

zero_even : IsEven (pos 0)
zero_even = (pos 0, refl)

on_grid : (x y : ℤ) → IsEven x → IsEven y → IsOnGrid (corner x y)
on_grid x y h k = record { x = h; y = k }

level_side : (a b y : ℤ) → (a ≡ b → ⊥) → IsSide (way (corner a y) (corner b y))
unfolding IsOctilinear
level_side a b y n = record { goes = λ e. n (ap (λ (p : Point). p.x) e); octilinear = inl refl }

upright_side : (x a b : ℤ) → (a ≡ b → ⊥) → IsSide (way (corner x a) (corner x b))
unfolding IsOctilinear
upright_side x a b n = record { goes = λ e. n (ap (λ (p : Point). p.y) e); octilinear = inr (inl refl) }

apart : (e : ℕ) → 1 ≤ e → pos 0 ≡ pos e → ⊥
apart e l h = omega (arith, ints)

apart_back : (e : ℕ) → 1 ≤ e → pos e ≡ pos 0 → ⊥
apart_back e l h = omega (arith, ints)

all_four : {X : Type 0} (P : X → Type 0) (a b c d : X) → P a → P b → P c → P d → All P (a ∷ b ∷ c ∷ d ∷ [])
all_four P a b c d p q r s = All-cons P a (b ∷ c ∷ d ∷ []) p (All-cons P b (c ∷ d ∷ []) q (All-cons P c (d ∷ []) r (All-cons P d [] s (All-nil P))))

sides : (e : ℕ) → 1 ≤ e → All IsSide (edges_of (square e))
sides e l =
    all_four IsSide (way (corner (pos 0) (pos 0)) (corner (pos e) (pos 0))) (way (corner (pos e) (pos 0)) (corner (pos e) (pos e))) (way (corner (pos e) (pos e)) (corner (pos 0) (pos e)))
    (way (corner (pos 0) (pos e)) (corner (pos 0) (pos 0)))
    (level_side (pos 0) (pos e) (pos 0) (apart e l)) (upright_side (pos e) (pos 0) (pos e) (apart e l)) (level_side (pos e) (pos 0) (pos e) (apart_back e l))
    (upright_side (pos 0) (pos e) (pos 0) (apart_back e l))

grid : (e : ℕ) → IsEven (pos e) → All IsOnGrid (square e)
grid e h =
    all_four IsOnGrid (corner (pos 0) (pos 0)) (corner (pos e) (pos 0)) (corner (pos e) (pos e)) (corner (pos 0) (pos e))
    (on_grid (pos 0) (pos 0) zero_even zero_even) (on_grid (pos e) (pos 0) h zero_even) (on_grid (pos e) (pos e) h h) (on_grid (pos 0) (pos e) zero_even h)

-- ---- no two sides cross

at_corner : (x y : ℤ) (p : PlanePoint) → p.x ≡ pos p.scale *ℤ x → p.y ≡ pos p.scale *ℤ y → IsSame (grid_point x y) p
at_corner x y p h k = record { x = omega (arith, ints, h); y = omega (arith, ints, k) }

two_levels : (e k : ℕ) (z : ℤ) → 1 ≤ e → 1 ≤ k → z ≡ pos k *ℤ pos 0 → z ≡ pos k *ℤ pos e → ⊥
two_levels e k z l m h g = let w : (pos k *ℤ pos 0) <ℤ (pos k *ℤ pos e) = mul_lt k (pos 0) (pos e) m (omega (arith, ints)) in omega (arith, ints)

first_second : (e : ℕ) → AreCrossing (square e) 0 1 → ⊥
first_second e c =
    c.not_end (record {
      next = inl refl;
      end = at_corner (pos e) (pos 0) c.at (on_upright (edge (square e) 1) c.at refl c.second) (on_level (edge (square e) 0) c.at refl c.first);
    })

second_third : (e : ℕ) → AreCrossing (square e) 1 2 → ⊥
second_third e c =
    c.not_end (record {
      next = inl refl;
      end = at_corner (pos e) (pos e) c.at (on_upright (edge (square e) 1) c.at refl c.first) (on_level (edge (square e) 2) c.at refl c.second);
    })

third_fourth : (e : ℕ) → AreCrossing (square e) 2 3 → ⊥
third_fourth e c =
    c.not_end (record {
      next = inl refl;
      end = at_corner (pos 0) (pos e) c.at (on_upright (edge (square e) 3) c.at refl c.second) (on_level (edge (square e) 2) c.at refl c.first);
    })

first_fourth : (e : ℕ) → AreCrossing (square e) 0 3 → ⊥
first_fourth e c =
    c.not_start (record {
      next = inr (refl, refl);
      end = at_corner (pos 0) (pos 0) c.at (on_upright (edge (square e) 3) c.at refl c.second) (on_level (edge (square e) 0) c.at refl c.first);
    })

first_third : (e : ℕ) → 1 ≤ e → AreCrossing (square e) 0 2 → ⊥
first_third e l c =
    two_levels e c.at.scale c.at.y l c.at.positive (on_level (edge (square e) 0) c.at refl c.first) (on_level (edge (square e) 2) c.at refl c.second)

second_fourth : (e : ℕ) → 1 ≤ e → AreCrossing (square e) 1 3 → ⊥
second_fourth e l c =
    two_levels e c.at.scale c.at.x l c.at.positive (on_upright (edge (square e) 3) c.at refl c.second) (on_upright (edge (square e) 1) c.at refl c.first)

none_cross : (e : ℕ) → 1 ≤ e → (i j : ℕ) → i < j → j < 4 → AreCrossing (square e) i j → ⊥
none_cross e l zero zero a b c = omega (arith, a)
none_cross e l zero (suc zero) a b c = first_second e c
none_cross e l zero (suc (suc zero)) a b c = first_third e l c
none_cross e l zero (suc (suc (suc zero))) a b c = first_fourth e c
none_cross e l zero (suc (suc (suc (suc j)))) a b c = omega (arith, b)
none_cross e l (suc zero) zero a b c = omega (arith, a)
none_cross e l (suc zero) (suc zero) a b c = omega (arith, a)
none_cross e l (suc zero) (suc (suc zero)) a b c = second_third e c
none_cross e l (suc zero) (suc (suc (suc zero))) a b c = second_fourth e l c
none_cross e l (suc zero) (suc (suc (suc (suc j)))) a b c = omega (arith, b)
none_cross e l (suc (suc zero)) zero a b c = omega (arith, a)
none_cross e l (suc (suc zero)) (suc zero) a b c = omega (arith, a)
none_cross e l (suc (suc zero)) (suc (suc zero)) a b c = omega (arith, a)
none_cross e l (suc (suc zero)) (suc (suc (suc zero))) a b c = third_fourth e c
none_cross e l (suc (suc zero)) (suc (suc (suc (suc j)))) a b c = omega (arith, b)
none_cross e l (suc (suc (suc i))) j a b c = omega (arith, a, b)

pub square_outline : (e h : ℕ) → 1 ≤ e → e ≡ h + h → IsOutline (square e)
square_outline e h l m = record {
  grid = grid e (pos h, omega (arith, ints, m));
  simple = record { three = omega arith; sides = sides e l; apart = none_cross e l };
}
