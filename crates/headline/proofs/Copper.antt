-- The rings of a filled board cover the fills, which keep their clearances.
use Rattle.std.proofs.Common.{sym, ◌∙◌, subst, arith, ℕ, ◌<◌, List, length, get_or}
use Rattle.plane.specs.Plane.{PlanePoint}
use Rattle.hulls.specs.Laws.{nm_in_units}
use Rattle.board_language.specs.Board.{Board}
use Rattle.board_language.specs.Facts.{IsSoundBoard}
use Rattle.fill_rules.specs.Clearance.{CoreClearanceLaw, CopperClearanceLaw, EdgeClearanceLaw, ArcClearanceLaw, ZoneClearanceLaw}
use Rattle.fill_rules.specs.Fill.{fill_of}
use Rattle.fill_rules.specs.Made.{Made, no_fill}
use Rattle.fills.specs.Fills.{AreBoardFills}
use Rattle.fills.specs.Laws.{FillPointsLaw}
use Rattle.rings.specs.Rings.{Traced}
use Rattle.output_rules.specs.Traced.{AreTracedOf}
use Rattle.outlines.specs.Drawn.{AreCovered}
use Rattle.headline.specs.Headline.{IsFillCovered, IsDrawn, KeepsClearances}

-- the laws of clearances, as `clearance_in_nanometres` of the rules of the fill states them
pub record ClearanceLaws : Type 0 where
  pub core : CoreClearanceLaw
  pub copper : CopperClearanceLaw
  pub edge : EdgeClearanceLaw
  pub arc : ArcClearanceLaw
  pub zones : ZoneClearanceLaw

-- the rings cover the pieces, and the pieces are the fill
pub fill_covered : FillPointsLaw → (b : Board) (fills : List Made) (traced : List Traced) → IsSoundBoard b → AreBoardFills b fills → AreTracedOf fills traced → AreCovered fills traced
    → IsFillCovered b traced
fill_covered law b fills traced s f t c i p l =
    let at : i < length traced = subst (λ (n : ℕ). i < n) (sym (t.count ∙ f.count)) l in
    let rings = c i at p in
    let points = law b s i (get_or fills i no_fill) (f.each i (subst (λ (n : ℕ). i < n) (sym f.count) l)) (nm_in_units p) in
    (λ h. points.0 (rings.0 h), λ h. rings.1 (points.1 h))

-- so the laws of clearances speak of what is drawn
on_fill : (b : Board) (traced : List Traced) (i : ℕ) (p : PlanePoint) → IsFillCovered b traced → IsDrawn b traced i p → fill_of b i (nm_in_units p)
on_fill b traced i p cover d = (cover i p d.0).0 d.1

pub clearances : (b : Board) (traced : List Traced) → IsSoundBoard b → ClearanceLaws → IsFillCovered b traced → KeepsClearances b traced
clearances b traced s laws cover = record {
  core = λ i own c p q d k m. (let two = s.rules.floor.least in laws.core b (omega (arith, two)) i own c (nm_in_units p) q (on_fill b traced i p cover d) k m);
  copper = λ i own c p q d k m. laws.copper b i own c (nm_in_units p) q (on_fill b traced i p cover d) k m;
  edge = λ i e p q d k n o. laws.edge b i e (nm_in_units p) q (on_fill b traced i p cover d) k n o;
  arc = λ i e p q d k n o. laws.arc b i e (nm_in_units p) q (on_fill b traced i p cover d) k n o;
  zones = λ i j p q d o n l f. laws.zones b i j (nm_in_units p) (nm_in_units q) n l f (on_fill b traced i p cover d) (on_fill b traced j q cover o);
}
