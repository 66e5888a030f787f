-- The areas of strips add up to no more than what the strips are within.
use Rattle.std.proofs.Common.{◌≡◌, ap, ℕ, zero, suc, ◌^◌, ◌+◌, ◌<◌, ◌≤◌, inl, inr, arith, List, [], ◌∷◌, length, get_or, drop, drop-cons, add-one, Fits}
use Rattle.std.specs.Prelude.{ℤ, pos, ◌+ℤ◌, ◌-ℤ◌, ◌*ℤ◌, ◌≤ℤ◌, ◌<ℤ◌}
use Rattle.std.specs.Int.RustNames.{unsigned_abs}
use Rattle.std.proofs.lemmas.Int.{ints}
use mir.Syntax.{w128}
use Rattle.grid_num.proofs.Products.{mul_le, mul_add}
use Rattle.strips.specs.declared.Strip.{Strip}
use Rattle.strips.specs.Strips.{IsTrapezoid, AreApartInSlab}
use Rattle.strips.specs.Area.{strip_area2, area2_of}
use Rattle.sheet_union.specs.Near.{IsNearStrip, IsSheet}
use Rattle.sheet_union.proofs.Walks.{none_left}

-- a height that isn't negative, as a number
height : (a b : ℤ) → a <ℤ b → (n : ℕ) × (b -ℤ a ≡ pos n)
height a b h = (unsigned_abs (b -ℤ a), omega (arith, ints))

-- what strips from s on may cover: the rest of the slab to the right, and all below it
abbrev room_below : Strip → ℤ
room_below s = pos 140737488355328 *ℤ (pos 35184372088832 -ℤ s.bottom)

abbrev room_beside : Strip → ℤ
room_beside s = (s.bottom -ℤ s.top) *ℤ (pos 70368744177664 -ℤ (s.left +ℤ s.left_end))

IsWithinRoom : List Strip → Type 0
IsWithinRoom [] = Unit {0}
IsWithinRoom (s ∷ ss) = area2_of (s ∷ ss) ≤ℤ (room_below s +ℤ room_beside s)

-- the last strip
last_room : (s : Strip) (n : ℕ) → IsNearStrip s → s.bottom -ℤ s.top ≡ pos n → strip_area2 s ≤ℤ (room_below s +ℤ room_beside s)
last_room s n k e =
    let b = k.bottom in
    let r = k.right in
    let q = k.right_end in
    let w = (s.right -ℤ s.left) +ℤ (s.right_end -ℤ s.left_end) in
    let v = pos 70368744177664 -ℤ (s.left +ℤ s.left_end) in
    let l = mul_le n w v (omega (arith, ints, r, q)) in
    let f = ap (λ (z : ℤ). z *ℤ w) e in
    let g = ap (λ (z : ℤ). z *ℤ v) e in
    omega (arith, ints, l, f, g, b)

-- a strip with the room of the next one below it
below_room : (s t : Strip) (n m : ℕ) → IsNearStrip s → IsNearStrip t → s.bottom -ℤ s.top ≡ pos n → t.bottom -ℤ t.top ≡ pos m → s.bottom ≤ℤ t.top
    → (strip_area2 s +ℤ (room_below t +ℤ room_beside t)) ≤ℤ (room_below s +ℤ room_beside s)
below_room s t n m k j e h d =
    let r = k.right in
    let q = k.right_end in
    let c = j.left in
    let c' = j.left_end in
    let w = (s.right -ℤ s.left) +ℤ (s.right_end -ℤ s.left_end) in
    let v = pos 70368744177664 -ℤ (s.left +ℤ s.left_end) in
    let u = pos 70368744177664 -ℤ (t.left +ℤ t.left_end) in
    let l = mul_le n w v (omega (arith, ints, r, q)) in
    let i = mul_le m u (pos 140737488355328) (omega (arith, ints, c, c')) in
    let f = ap (λ (z : ℤ). z *ℤ w) e in
    let g = ap (λ (z : ℤ). z *ℤ v) e in
    let p = ap (λ (z : ℤ). z *ℤ u) h in
    omega (arith, ints, l, i, f, g, p, h, d)

-- a strip with the room of the next one beside it
beside_room : (s t : Strip) (n : ℕ) → s.bottom -ℤ s.top ≡ pos n → s.top ≡ t.top → s.bottom ≡ t.bottom → AreApartInSlab s t
    → (strip_area2 s +ℤ (room_below t +ℤ room_beside t)) ≤ℤ (room_below s +ℤ room_beside s)
beside_room s t n e a b h =
    let w = (s.right -ℤ s.left) +ℤ (s.right_end -ℤ s.left_end) in
    let v = pos 70368744177664 -ℤ (s.left +ℤ s.left_end) in
    let u = pos 70368744177664 -ℤ (t.left +ℤ t.left_end) in
    let x = h.start in
    let y = h.finish in
    let i : t.bottom -ℤ t.top ≡ pos n = omega (arith, ints, e, a, b) in
    let l = mul_le n (w +ℤ u) v (omega (arith, ints, x, y)) in
    let k = mul_add n w u in
    let f = ap (λ (z : ℤ). z *ℤ w) e in
    let g = ap (λ (z : ℤ). z *ℤ v) e in
    let p = ap (λ (z : ℤ). z *ℤ u) i in
    omega (arith, ints, l, k, f, g, p, b)

tail_sheet : (s : Strip) (ss : List Strip) → IsSheet (s ∷ ss) → IsSheet ss
tail_sheet s ss h = record {
  near = λ k d l. h.near (suc k) d (omega (arith, l));
  shapes = λ k d l. h.shapes (suc k) d (omega (arith, l));
  order = λ i j d l m. h.order (suc i) (suc j) d (omega (arith, l)) (omega (arith, m));
}

within_room : (ss : List Strip) → IsSheet ss → IsWithinRoom ss
unfolding area2_of IsWithinRoom
within_room [] h = tt
within_room (s ∷ []) h =
    let n = height s.top s.bottom (h.shapes 0 s (omega arith)).down in
    let l = last_room s n.0 (h.near 0 s (omega arith)) n.1 in
    omega (arith, ints, l)
within_room (s ∷ t ∷ ss) h =
    let n = height s.top s.bottom (h.shapes 0 s (omega arith)).down in
    let m = height t.top t.bottom (h.shapes 1 s (omega arith)).down in
    let r = within_room (t ∷ ss) (tail_sheet s (t ∷ ss) h) in
    elim (h.order 0 1 s (omega arith) (omega arith)) [
      | inl d ↦ (let l = below_room s t n.0 m.0 (h.near 0 s (omega arith)) (h.near 1 s (omega arith)) n.1 m.1 d in omega (arith, ints, l, r))
      | inr d ↦ (let l = beside_room s t n.0 n.1 d.0 d.1 d.2 in omega (arith, ints, l, r))
    ]

-- so all of them have at most 2 ^ 94
all_room : (ss : List Strip) → IsSheet ss → area2_of ss ≤ℤ pos (2 ^ 94)
unfolding area2_of IsWithinRoom
all_room [] h = omega (arith, ints)
all_room (s ∷ ss) h =
    let k = h.near 0 s (omega arith) in
    let n = height s.top s.bottom (h.shapes 0 s (omega arith)).down in
    let r = within_room (s ∷ ss) h in
    let a = k.top in
    let b = k.bottom in
    let c = k.left in
    let c' = k.left_end in
    let v = pos 70368744177664 -ℤ (s.left +ℤ s.left_end) in
    let l = mul_le n.0 v (pos 140737488355328) (omega (arith, ints, c, c')) in
    let e = n.1 in
    let g = ap (λ (z : ℤ). z *ℤ v) e in
    omega (arith, ints, r, l, g, e, a, b)

-- an area isn't negative
strip_least : (s : Strip) → IsTrapezoid s → pos 0 ≤ℤ strip_area2 s
strip_least s h =
    let n = height s.top s.bottom h.down in
    let w = (s.right -ℤ s.left) +ℤ (s.right_end -ℤ s.left_end) in
    let a = h.start in
    let b = h.finish in
    let l = mul_le n.0 (pos 0) w (omega (arith, ints, a, b)) in
    let f = ap (λ (z : ℤ). z *ℤ w) n.1 in
    omega (arith, ints, l, f)

all_least : (ss : List Strip) → IsSheet ss → pos 0 ≤ℤ area2_of ss
unfolding area2_of
all_least [] h = omega (arith, ints)
all_least (s ∷ ss) h =
    let a = strip_least s (h.shapes 0 s (omega arith)) in
    let b = all_least ss (tail_sheet s ss h) in
    omega (arith, ints, a, b)

drop_sheet : (i : ℕ) (ss : List Strip) → IsSheet ss → IsSheet (drop i ss)
drop_sheet zero ss h = h
drop_sheet (suc i) [] h = h
drop_sheet (suc i) (s ∷ ss) h = drop_sheet i ss (tail_sheet s ss h)

abbrev none : Strip
none = record { top = pos 0; bottom = pos 0; left = pos 0; left_end = pos 0; right = pos 0; right_end = pos 0 }

-- ---- the code's sum
pub area_step : (ss : List Strip) (i : ℕ) (area more : ℕ) → i < length ss → pos more ≡ strip_area2 (get_or ss i none)
    → pos area +ℤ area2_of (drop i ss) ≡ area2_of ss → pos (area + more) +ℤ area2_of (drop (i + 1) ss) ≡ area2_of ss
unfolding area2_of
area_step ss i area more l e inv = let w = rw (drop-cons ss i none l) at inv in rw add-one (omega (arith, ints, w, e))

pub area_fits : (ss : List Strip) (i : ℕ) (area more : ℕ) → IsSheet ss → i < length ss → pos more ≡ strip_area2 (get_or ss i none)
    → pos area +ℤ area2_of (drop i ss) ≡ area2_of ss → Fits w128 (area + more)
area_fits ss i area more h l e inv =
    let w = area_step ss i area more l e inv in
    let a = all_room ss h in
    let b = all_least (drop (i + 1) ss) (drop_sheet (i + 1) ss h) in
    omega (arith, ints, w, a, b)

pub area_end : (ss : List Strip) (i : ℕ) (area : ℕ) → length ss ≤ i → pos area +ℤ area2_of (drop i ss) ≡ area2_of ss → pos area ≡ area2_of ss
unfolding area2_of
area_end ss i area l inv = let w = rw (none_left ss i l) at inv in omega (arith, ints, w)
