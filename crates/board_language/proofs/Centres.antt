-- The hulls of a pad hold the pad's centre, rounded down to units.
use Rattle.std.proofs.Common.{◌≡◌, ap, subst, ℕ, suc, ◌+◌, arith}
use Rattle.std.specs.Prelude.{◌/◌, ℤ, pos, negsuc, ◌+ℤ◌}
use Rattle.plane.specs.Plane.{Bounds, Within}
use Rattle.classes.specs.Classes.{IsOneOf}
use Rattle.board_language.proofs.Members.{all_one_of}
use Rattle.hulls.specs.Cells.{floor_of}
use Rattle.hulls.specs.Hulls.{hulls_of}
use Rattle.hulls.proofs.Pads.{centre_law}
use Rattle.board_language.specs.declared.board.Pad.{Pad}
use Rattle.board_language.specs.Copper.{pad_hulls, HasPad}

-- a quarter of twice as much, rounded down, is the half
pub halved : (x : ℤ) → floor_of 4 (x +ℤ x) ≡ floor_of 2 x
unfolding floor_of
halved (pos a) = ap pos (quarter a)
  where
    quarter : (a : ℕ) → (a + a) / 4 ≡ a / 2
    quarter a = omega arith
halved (negsuc a) = ap negsuc (quarter a)
  where
    quarter : (a : ℕ) → suc (a + a) / 4 ≡ a / 2
    quarter a = omega arith

pub centred : (p : Pad) → HasPad p → (h : Bounds) → IsOneOf h (pad_hulls p) → Within h (floor_of 2 p.at.x) (floor_of 2 p.at.y)
unfolding pad_hulls
centred p w h i =
    let x = p.at.x +ℤ p.at.x in
    let y = p.at.y +ℤ p.at.y in
    let all = centre_law p.shape.core p.shape.radius x y w.core w.centre in
    let at : Within h (floor_of 4 x) (floor_of 4 y) = all_one_of (λ (o : Bounds). Within o (floor_of 4 x) (floor_of 4 y)) (hulls_of p.shape.core p.shape.radius) h all i in
    subst (λ (v : ℤ). Within h (floor_of 2 p.at.x) v) (halved p.at.y) (subst (λ (u : ℤ). Within h u (floor_of 4 y)) (halved p.at.x) at)
