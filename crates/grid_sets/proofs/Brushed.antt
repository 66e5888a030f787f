-- The cells plus a brush are the brush at the points of the rows.
use Rattle.std.proofs.Common.{inl, inr, ℕ, ◌≤◌, List, [], ◌∷◌, arith}
use Rattle.std.specs.Prelude.{ℤ}
use Rattle.std.specs.List.{All}
use Rattle.std.proofs.lemmas.List.Elements.{All-head, All-tail}
use Rattle.plane.specs.Plane.{Bounds, PlanePoint, Within, In, IsTight, ball_of, moved}
use Rattle.grid_sets.specs.Brush.{IsBrushed}
use Rattle.grid_sets.proofs.CellBrushed.{brush_law}
use Rattle.grid_sets.specs.Cells.{cells_of, OnBrushed, IsBrushedByRows}
use Rattle.grid_sets.specs.Points.{HasPoint}
use Rattle.grid_sets.specs.Laws.{CellsBrushLaw}
use Rattle.grid_sets.proofs.CellPoints.{cells_points}
use Rattle.grid_sets.proofs.Apart.{cells_tight_law}

-- the brush at some point of the octagons has p
record IsByPoints (b : ℕ) (os : List Bounds) (p : PlanePoint) : Type 0 where
  x : ℤ
  y : ℤ
  on : HasPoint os x y
  by : In (moved (ball_of b) x y) p

brushed_there : (b : ℕ) (c : Bounds) (os : List Bounds) (p : PlanePoint) → IsBrushed b c p → IsByPoints b (c ∷ os) p
unfolding IsBrushed
brushed_there b c os p h = record { x = h.0; y = h.1; on = inl h.2; by = h.3 }

brushed_back : (b : ℕ) (c : Bounds) (p : PlanePoint) (x y : ℤ) → Within c x y → In (moved (ball_of b) x y) p → IsBrushed b c p
unfolding IsBrushed
brushed_back b c p x y w h = (x, y, w, h)

there : (b : ℕ) (os : List Bounds) (p : PlanePoint) → 10 ≤ b → All IsTight os → OnBrushed b os p → IsByPoints b os p
there b [] p l t h = absurd h
there b (c ∷ cs) p l t (inl h) = brushed_there b c cs p ((brush_law b c p l (All-head IsTight c cs t)).0 h)
there b (c ∷ cs) p l t (inr h) = let r = there b cs p l (All-tail IsTight c cs t) h in record { x = r.x; y = r.y; on = inr r.on; by = r.by }

back : (b : ℕ) (os : List Bounds) (p : PlanePoint) (x y : ℤ) → 10 ≤ b → All IsTight os → HasPoint os x y → In (moved (ball_of b) x y) p → OnBrushed b os p
back b [] p x y l t h i = absurd h
back b (c ∷ cs) p x y l t (inl h) i = inl ((brush_law b c p l (All-head IsTight c cs t)).1 (brushed_back b c p x y h i))
back b (c ∷ cs) p x y l t (inr h) i = inr (back b cs p x y l (All-tail IsTight c cs t) h i)

pub cells_brush_law : CellsBrushLaw
unfolding IsBrushedByRows
cells_brush_law b rows bands p l a h =
    let t = cells_tight_law rows bands a h in (
      λ k. let r = there b (cells_of bands) p (omega arith) t k in (r.x, r.y, (cells_points rows bands r.x r.y h).1 r.on, r.by),
      λ k. back b (cells_of bands) p k.0 k.1 (omega arith) t ((cells_points rows bands k.0 k.1 h).0 k.2) k.3,
    )
