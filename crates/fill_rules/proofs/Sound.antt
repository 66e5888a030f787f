-- What the rules of the fill rest on, of all that every accepted board has.
use Rattle.std.proofs.Common.{◌≡◌, sym, subst, inl, inr, ◌≤◌, List, [], ◌∷◌, length}
use Rattle.plane.specs.Plane.{Bounds, Within}
use Rattle.classes.specs.Classes.{IsOneOf}
use Rattle.board_language.proofs.Members.{all_one_of}
use Rattle.hulls.specs.Cells.{floor_of}
use Rattle.board_language.specs.declared.board.Pad.{Pad}
use Rattle.board_language.specs.declared.board.Zone.{Zone}
use Rattle.board_language.specs.Board.{Board}
use Rattle.board_language.specs.Copper.{pad_hulls}
use Rattle.board_language.specs.Facts.{HasOneHull, IsSoundPad, IsSoundZone, IsSoundBoard}

-- copper is at least 0.001 mm thick, and a pad's hull holds the pad's centre, rounded down to units
pub record IsFillable (b : Board) : Type 0 where
  pub thick : (z : Zone) → IsOneOf z b.zones → 1000 ≤ z.thickness
  pub centred : (p : Pad) → IsOneOf p b.pads → (h : Bounds) → IsOneOf h (pad_hulls p) → Within h (floor_of 2 p.at.x) (floor_of 2 p.at.y)

one_centred : (p : Pad) → HasOneHull p → (h : Bounds) → IsOneOf h (pad_hulls p) → Within h (floor_of 2 p.at.x) (floor_of 2 p.at.y)
unfolding IsOneOf
one_centred p o h i = by_place (subst (IsOneOf h) o.only i)
  where
    by_place : IsOneOf h (o.hull ∷ []) → Within h (floor_of 2 p.at.x) (floor_of 2 p.at.y)
    by_place (inl e) = subst (λ (g : Bounds). Within g (floor_of 2 p.at.x) (floor_of 2 p.at.y)) (sym e) o.centre
    by_place (inr none) = absurd none

pub fillable : (b : Board) → IsSoundBoard b → IsFillable b
fillable b s =
    record {
      thick = λ z i. (all_one_of (IsSoundZone (length b.layers)) b.zones z s.zones i).thick;
      centred = λ p i. one_centred p (all_one_of (IsSoundPad (length b.layers)) b.pads p s.pads i).hull;
    }
