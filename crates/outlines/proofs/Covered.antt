-- The outlines of the fills of a board cover exactly the fills' pieces, however they were made.
use Rattle.std.proofs.Common.{subst, ℕ, ◌<◌, get_or}
use Rattle.rings.specs.Rings.{Traced, not_traced}
use Rattle.rings.specs.Outlines.{AreOutlines}
use Rattle.rings.specs.Laws.{UnionCoverLaw}
use Rattle.strips.specs.Strips.{in_nanometres}
use Rattle.sheet_union.specs.Laws.{StripsCoverLaw}
use Rattle.board_language.specs.Board.{Board}
use Rattle.board_language.specs.Facts.{IsSoundBoard}
use Rattle.fill_rules.specs.Made.{Made, no_fill}
use Rattle.fills.specs.Fills.{IsFillOf}
use Rattle.outlines.specs.Drawn.{IsCovering}
use Rattle.outlines.specs.Laws.{AllCoveredLaw}
use Rattle.outlines.proofs.Cover.{union_covering}
use Rattle.outlines.proofs.Drawable.{drawable, all_octs}

of_one : StripsCoverLaw → UnionCoverLaw → (b : Board) → IsSoundBoard b → (i : ℕ) (f : Made) (t : Traced) → IsFillOf b i f → AreOutlines f.pieces t → IsCovering f.pieces t
of_one strips rings b s i f t w o =
    let cover = strips f.pieces o.strips (all_octs b s i f w) (drawable b s i f w).inside o.are_strips in
    union_covering f.pieces t (λ p. rings (in_nanometres f.pieces) o.strips t.rings p (record { shapes = o.are_strips.shapes; order = o.are_strips.order }) cover o.are_rings)

pub all_covered : StripsCoverLaw → UnionCoverLaw → AllCoveredLaw
all_covered strips rings b s all traced f t i l =
    of_one strips rings b s i (get_or all i no_fill) (get_or traced i not_traced) (f.each i (subst (λ (n : ℕ). i < n) t.count l)) (t.each i l)
