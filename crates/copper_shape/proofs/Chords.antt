-- The chord of an arc, and the disc on it.
use Rattle.std.proofs.Common.{◌≡◌, refl, sym, ℕ, ◌+◌, ◌*◌, ◌≤◌, arith, List}
use Rattle.std.specs.Prelude.{ℤ, ◌+ℤ◌, ◌-ℤ◌, Bool, true, false}
use Rattle.std.specs.Int.RustNames.{unsigned_abs}
use Rattle.std.proofs.lemmas.Int.{ints}
use Rattle.std.proofs.Math.Nat.{mul-le-mul}
use Rattle.grid_num.specs.declared.Point.{Point}
use Rattle.plane.specs.Plane.{PlanePoint, Bounds, box_of}
use Rattle.grid_num.specs.Roots.{least_root}
use Rattle.touching.specs.Core.{Core, Spot, area, line, OnLine}
use Rattle.hulls.specs.Hulls.{chord_of, hulls_of, edge_core, edge_radius, edge_hulls_of, in_halves}
use Rattle.hulls.specs.Laws.{InSome, InChordDisc, nm_in_units}
use Rattle.hulls.proofs.Edges.{root_reaches, root_least, segment_law, chord_disc_law}
use Rattle.cores.specs.Room.{IsInRoom, spot}

pub far_apart : (a b : ℤ) → IsInRoom 500000000 (record { x = a; y = b }) → unsigned_abs (a -ℤ b) ≤ 1000000000
far_apart a b h = omega (arith, ints, h.x, h.y)

pub square_room : (w h : ℕ) → w ≤ 1000000000 → h ≤ 1000000000 → w * w + h * h ≤ 2000000000000000000
square_room w h lw lh =
    let p : w * w ≤ 1000000000 * 1000000000 = mul-le-mul lw lw in
    let q : h * h ≤ 1000000000 * 1000000000 = mul-le-mul lh lh in
    omega arith

pub chord_is : (a b : Point) (w h r : ℕ) → w ≡ unsigned_abs (b.x -ℤ a.x) → h ≡ unsigned_abs (b.y -ℤ a.y)
    → w * w + h * h ≤ r * r → ((m : ℕ) → w * w + h * h ≤ m * m → r ≤ m) → r ≡ chord_of a b
unfolding chord_of
chord_is a b w h r ew eh reaches least = rw (sym ew, sym eh) (plain (w * w + h * h) (w + h) r (omega arith) reaches least)
  where
    plain : (t n r : ℕ) → t ≤ n * n → t ≤ r * r → ((m : ℕ) → t ≤ m * m → r ≤ m) → r ≡ least_root t n
    plain t n r room reaches least =
        let below = root_least t n r reaches in
        let above = least (least_root t n) (root_reaches t n room) in
        omega arith

-- ---- the copper that stands for an edge
pub arc_core : (a b : Point) (x y : ℤ) (c : Core) → x ≡ a.x +ℤ b.x → y ≡ a.y +ℤ b.y → c ≡ area (box_of x x y y) → c ≡ edge_core a b true
unfolding edge_core
arc_core a b x y c ex ey e = rw (ex, ey) at e

pub line_core : (a b : Point) (s t : Spot) (c : Core) → s ≡ in_halves a → t ≡ in_halves b → c ≡ line s t → c ≡ edge_core a b false
unfolding edge_core
line_core a b s t c es et e = rw (es, et) at e

pub arc_radius : (a b : Point) (r : ℕ) → r ≡ chord_of a b → r ≡ edge_radius a b true
unfolding edge_radius
arc_radius a b r e = e

pub line_radius : (a b : Point) (r : ℕ) → r ≡ 0 → r ≡ edge_radius a b false
unfolding edge_radius
line_radius a b r e = e

pub edge_is : (a b : Point) (bow : Bool) (c : Core) (r : ℕ) → c ≡ edge_core a b bow → r ≡ edge_radius a b bow → hulls_of c r ≡ edge_hulls_of a b bow
unfolding edge_hulls_of
edge_is a b bow c r ec er = rw (ec, er) refl

-- ---- the edge is in its hulls
pub holds_segment : (a b : Point) (bow : Bool) (hulls : List Bounds) → hulls ≡ edge_hulls_of a b bow → bow ≡ false → (p : PlanePoint)
    → OnLine (spot a) (spot b) p → InSome hulls (nm_in_units p)
holds_segment a b bow hulls e f p on = rw (e, f) (segment_law a b p on)

pub holds_disc : (a b : Point) (bow : Bool) (hulls : List Bounds) → hulls ≡ edge_hulls_of a b bow → bow ≡ true → (p : PlanePoint)
    → InChordDisc a b p → InSome hulls (nm_in_units p)
holds_disc a b bow hulls e f p i = rw (e, f) (chord_disc_law a b p i)
