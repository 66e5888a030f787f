-- The cells of a list of places, and the octagon round them.
use Rattle.std.proofs.Common.{◌≡◌, sym, ap, ◌∙◌, ℕ, suc, ◌+◌, ◌*◌, ◌≤◌, ◌<◌, arith, List, [], ◌∷◌, ◌++◌, length, drop, get_or, append_assoc}
use Rattle.std.specs.Prelude.{pos, neg_ℤ}
use Rattle.std.specs.Int.{div_ceil}
use Rattle.std.specs.List.{All}
use Rattle.std.proofs.Math.Seq.{drop-cons, drop-length}
use Rattle.std.proofs.lemmas.List.{append-nil}
use Rattle.std.proofs.lemmas.List.Elements.{All-head, All-tail, All-cons, All-nil, All-append}
use Rattle.std.proofs.lemmas.Int.{ints}
use Rattle.grid_num.specs.declared.Point.{Point}
use Rattle.plane.specs.Plane.{PlanePoint, Bounds, In, IsOct, HasRoom, sum_of, ball_of, box_of}
use Rattle.hulls.specs.Cells.{points_round, points_round_all, around}
use Rattle.hulls.specs.Hulls.{hull_of}
use Rattle.hulls.proofs.Around.{Holds, IsInside, around_inside, one_least_law}
use Rattle.octagon.specs.Bounded.{IsInReach}
use Rattle.cores.specs.Room.{IsInRoom}
use Rattle.copper_shape.specs.Inner.Ranges.{IsPlaceInRoom}
use Rattle.copper_shape.proofs.Rounded.{low_near, high_near}

-- ---- the loop
pub cells_step : (n i : ℕ) (places out new cell : List Point) (d : Point) → i < length places
    → out ++ points_round_all n (drop i places) ≡ points_round_all n places → cell ≡ points_round n (get_or places i d) → new ≡ out ++ cell
    → new ++ points_round_all n (drop (i + 1) places) ≡ points_round_all n places
unfolding points_round_all
cells_step n i places out new cell none l e c f =
    let one : i + 1 ≡ suc i = omega arith in
    let d : drop i places ≡ get_or places i none ∷ drop (i + 1) places = rw one (drop-cons places i none l) in
    rw f (append_assoc out cell (points_round_all n (drop (i + 1) places)) ∙ (ap (λ (z : List Point). out ++ (z ++ points_round_all n (drop (i + 1) places))) c ∙ (ap (λ (z : List Point). out ++ points_round_all n z) (sym d) ∙ e)))

pub cells_end : (n i : ℕ) (places out : List Point) → i ≡ length places → out ++ points_round_all n (drop i places) ≡ points_round_all n places → out ≡ points_round_all n places
unfolding points_round_all
cells_end n i places out h e =
    let d : drop i places ≡ [] = rw h (drop-length places) in
    sym (append-nil out) ∙ (ap (λ (z : List Point). out ++ points_round_all n z) (sym d) ∙ e)

-- ---- how far cells reach
all_four : {X : Type 0} (P : X → Type 0) (a b c d : X) → P a → P b → P c → P d → All P (a ∷ b ∷ c ∷ d ∷ [])
all_four P a b c d ha hb hc hd = All-cons P a (b ∷ c ∷ d ∷ []) ha (All-cons P b (c ∷ d ∷ []) hb (All-cons P c (d ∷ []) hc (All-cons P d [] hd (All-nil P))))

cell_near : (n m : ℕ) (p : Point) → 1 ≤ n → IsInRoom (n * m) p → All (IsInRoom m) (points_round n p)
unfolding points_round
cell_near n m p one h =
    let west = low_near n m p.x one h.x in
    let east = high_near n m p.x one h.x in
    let north = low_near n m p.y one h.y in
    let south = high_near n m p.y one h.y in
    all_four (IsInRoom m) _ _ _ _ (record { x = west; y = north }) (record { x = east; y = north }) (record { x = west; y = south }) (record { x = east; y = south })

pub cells_near : (n m : ℕ) (ps : List Point) → 1 ≤ n → All (IsInRoom (n * m)) ps → All (IsInRoom m) (points_round_all n ps)
unfolding points_round_all
cells_near n m [] one h = All-nil (IsInRoom m)
cells_near n m (p ∷ ps) one h =
    All-append (IsInRoom m) (points_round n p) (points_round_all n ps) (cell_near n m p one (All-head (IsInRoom (n * m)) p ps h)) (cells_near n m ps one (All-tail (IsInRoom (n * m)) p ps h))

pub cells_some : (n : ℕ) (ps : List Point) → 0 < length ps → 0 < length (points_round_all n ps)
unfolding points_round_all points_round
cells_some n [] l = absurd (omega arith)
cells_some n (p ∷ ps) l = omega arith

-- ---- the octagon
wide : (m : ℕ) (p : Point) → IsInRoom m p → Holds (box_of (neg_ℤ (pos m)) (pos m) (neg_ℤ (pos m)) (pos m)) p
wide m p h = record {
  x_low = h.x.low;
  x_high = h.x.high;
  y_low = h.y.low;
  y_high = h.y.high;
  s_low = omega (arith, ints, h.x.low, h.y.low);
  s_high = omega (arith, ints, h.x.high, h.y.high);
  d_low = omega (arith, ints, h.x.low, h.y.high);
  d_high = omega (arith, ints, h.x.high, h.y.low);
}

pub around_near : (m : ℕ) (ps : List Point) → 0 < length ps → All (IsInRoom m) ps → IsInside (around ps) (box_of (neg_ℤ (pos m)) (pos m) (neg_ℤ (pos m)) (pos m))
around_near m ps l h = around_inside ps (box_of (neg_ℤ (pos m)) (pos m) (neg_ℤ (pos m)) (pos m)) l (λ k d s. wide m _ (h k d s))

-- what the code has is the octagon round the cells
is_around : (ps : List Point) (r : Bounds) → 0 < length ps → All (Holds r) ps
    → ((b : Bounds) (q : PlanePoint) → All (Holds b) ps → In r q → In b q) → IsOct r → r ≡ around ps
is_around ps r l h f o = one_least_law ps r l (record { tight = o.tight; holds = h; least = f })

around_cells : (n : ℕ) (corners cells : List Point) (r : Bounds) → 0 < length corners → cells ≡ points_round_all n corners
    → All (Holds r) cells → ((b : Bounds) (q : PlanePoint) → All (Holds b) cells → In r q → In b q) → IsOct r → r ≡ around (points_round_all n corners)
around_cells n corners cells r l e h f o = is_around (points_round_all n corners) r (cells_some n corners l) (rw e at h) (rw e at f) o

pub code_hull : (n : ℕ) (corners : List Point) (radius : ℕ) (cells : List Point) (r : Bounds) (a : ℕ) (ball : Bounds) → 0 < length corners → cells ≡ points_round_all n corners
    → All (Holds r) cells → ((b : Bounds) (q : PlanePoint) → All (Holds b) cells → In r q → In b q) → IsOct r
    → a ≡ div_ceil radius 4 → ball ≡ ball_of a → sum_of r ball ≡ hull_of n corners radius
unfolding hull_of
code_hull n corners radius cells r a ball l e h f o ea eb =
    ap (λ (z : Bounds). sum_of z ball) (around_cells n corners cells r l e h f o)
    ∙ ap (λ (z : Bounds). sum_of (around (points_round_all n corners)) z) (eb ∙ ap ball_of ea)

quarter_most : (r : ℕ) → r ≤ 2000000000 → div_ceil r 4 ≤ 500000000
quarter_most r h = omega arith

room : (ps : List Point) (a : ℕ) → 0 < length ps → All (IsInRoom 500000000) ps → a ≤ 500000000 → HasRoom (sum_of (around ps) (ball_of a))
unfolding ball_of
room ps a l h m =
    let i = around_near 500000000 ps l h in
    record {
      x_low = omega (arith, ints, i.x0);
      x_high = omega (arith, ints, i.x1);
      y_low = omega (arith, ints, i.y0);
      y_high = omega (arith, ints, i.y1);
    }

pub hull_room : (n : ℕ) (corners : List Point) (radius : ℕ) (cells : List Point) (r : Bounds) (a : ℕ) (ball : Bounds) → 0 < length corners → 1 ≤ n → All (IsPlaceInRoom n) corners
    → radius ≤ 2000000000 → cells ≡ points_round_all n corners
    → All (Holds r) cells → ((b : Bounds) (q : PlanePoint) → All (Holds b) cells → In r q → In b q) → IsOct r
    → a ≡ div_ceil radius 4 → ball ≡ ball_of a → HasRoom (sum_of r ball)
hull_room n corners radius cells r a ball l one places m e h f o ea eb =
    rw (around_cells n corners cells r l e h f o, eb, ea)
    (room (points_round_all n corners) (div_ceil radius 4) (cells_some n corners l) (cells_near n 500000000 corners one places) (quarter_most radius m))

pub near_reach : (ps : List Point) → All (IsInRoom 500000000) ps → All IsInReach ps
near_reach ps h k d l =
    let w = h k d l in
    record {
      x = record { low = omega (arith, ints, w.x.low); high = omega (arith, ints, w.x.high) };
      y = record { low = omega (arith, ints, w.y.low); high = omega (arith, ints, w.y.high) };
    }
