-- How far hulls reach.
use Rattle.std.proofs.Common.{◌≡◌, sym, ap, ◌∙◌, ℕ, zero, suc, ◌+◌, ◌-◌, ◌*◌, ◌≤◌, ◌<◌, arith, List, [], ◌∷◌, length}
use Rattle.std.specs.Prelude.{ℤ, pos, ◌+ℤ◌, ◌*ℤ◌}
use Rattle.std.specs.Int.{div_ceil}
use Rattle.std.specs.List.{All}
use Rattle.std.proofs.lemmas.List.Elements.{All-cons, All-nil}
use Rattle.std.proofs.lemmas.Int.{ints}
use Rattle.std.proofs.Math.Nat.{add-mul}
use Rattle.grid_num.specs.declared.Point.{Point}
use Rattle.plane.specs.Plane.{Bounds, ball_of}
use Rattle.plane.specs.Narrow.{IsNearZero}
use Rattle.octagon.specs.Room.{IsAround}
use Rattle.plane.specs.Corners.{corners_of}
use Rattle.touching.specs.Core.{Core, Spot, area, line, IsWhole}
use Rattle.cores.specs.Room.{IsInRoom, IsLineInRoom, IsCoreInRoom}
use Rattle.hulls.specs.Cells.{points_round_all}
use Rattle.hulls.specs.Hulls.{hull_of, cut_at, piece_hull, piece_hulls, count_pieces, hulls_of}
use Rattle.copper_shape.specs.Laws.{HullReachLaw}
use Rattle.copper_shape.proofs.CellLists.{cells_near, cells_some, around_near}
use Rattle.copper_shape.proofs.Cuts.{product_near}
use Rattle.copper_shape.proofs.Areas.{corner_places, around_of}

quarter : (r a : ℕ) → r ≤ 4 * a → div_ceil r 4 ≤ a
quarter r a h = omega arith

hull_reach : (n m a : ℕ) (ps : List Point) (r : ℕ) → 1 ≤ n → 0 < length ps → All (IsInRoom (n * m)) ps → r ≤ 4 * a → IsAround (m + a) (hull_of n ps r)
unfolding hull_of ball_of
hull_reach n m a ps r one some h l =
    let i = around_near m (points_round_all n ps) (cells_some n ps some) (cells_near n m ps one h) in
    let q = quarter r a l in
    record {
      x_low = omega (arith, ints, i.x0, q);
      x_high = omega (arith, ints, i.x1, q);
      y_low = omega (arith, ints, i.y0, q);
      y_high = omega (arith, ints, i.y1, q);
    }

-- ---- the pieces of a line
mean_near : (k i m : ℕ) (s t : ℤ) → i ≤ k → IsNearZero (4 * m) s → IsNearZero (4 * m) t → IsNearZero (4 * k * m) (pos (k - i) *ℤ s +ℤ pos i *ℤ t)
mean_near k i m s t l h g =
    let p = product_near (k - i) (4 * m) s h in
    let q = product_near i (4 * m) t g in
    let n : (k - i) + i ≡ k = omega arith in
    let e : (k - i) * (4 * m) + i * (4 * m) ≡ k * (4 * m) = sym (add-mul (k - i) i (4 * m)) ∙ ap (λ (z : ℕ). z * (4 * m)) n in
    let f : k * (4 * m) ≡ 4 * k * m = omega arith in
    record { low = omega (arith, ints, p.low, q.low, e, f); high = omega (arith, ints, p.high, q.high, e, f) }

cut_near : (s t : Spot) (k i m : ℕ) → i ≤ k → IsLineInRoom (4 * m) s t → IsInRoom (4 * k * m) (cut_at s t k i)
unfolding cut_at
cut_near s t k i m l h = record { x = mean_near k i m s.x t.x l h.sx h.tx; y = mean_near k i m s.y t.y l h.sy h.ty }

two : {X : Type 0} (P : X → Type 0) (a b : X) → P a → P b → All P (a ∷ b ∷ [])
two P a b ha hb = All-cons P a (b ∷ []) ha (All-cons P b [] hb (All-nil P))

pieces_reach : (s t : Spot) (k m a r i n : ℕ) → i + n ≤ k → IsLineInRoom (4 * m) s t → r ≤ 4 * a → All (IsAround (m + a)) (piece_hulls s t k r i n)
unfolding piece_hulls piece_hull
pieces_reach s t k m a r i zero w h l = All-nil (IsAround (m + a))
pieces_reach s t k m a r i (suc n) w h l =
    All-cons (IsAround (m + a)) (piece_hull s t k r i) (piece_hulls s t k r (suc i) n)
    (hull_reach (4 * k) m a (cut_at s t k i ∷ cut_at s t k (suc i) ∷ []) r (omega arith) (omega arith)
    (two (IsInRoom (4 * k * m)) (cut_at s t k i) (cut_at s t k (suc i)) (cut_near s t k i m (omega arith) h) (cut_near s t k (suc i) m (omega arith) h)) l)
    (pieces_reach s t k m a r (suc i) n (omega arith) h l)

pub reach_law : HullReachLaw
unfolding IsWhole IsCoreInRoom hulls_of
reach_law m a (area b) r whole near l =
    All-cons (IsAround (m + a)) (hull_of 4 (corners_of b) r) [] (hull_reach 4 m a (corners_of b) r (omega arith) (omega arith) (corner_places (4 * m) b whole (around_of (4 * m) b near)) l)
    (All-nil (IsAround (m + a)))
reach_law m a (line s t) r whole near l = pieces_reach s t (count_pieces s t) m a r 0 (count_pieces s t) (omega arith) near l

pub shape_reach : (c : Core) (r : ℕ) (hulls : List Bounds) → hulls ≡ hulls_of c r → IsWhole c → IsCoreInRoom 2000000000 c → r ≤ 2000000000 → All (IsAround 1000000000) hulls
shape_reach c r hulls e w h l = rw e (reach_law 500000000 500000000 c r w h l)
