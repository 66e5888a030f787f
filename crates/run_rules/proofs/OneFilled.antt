-- A board has one list of fills at most, and fills one list of outlines.
use Rattle.std.proofs.Common.{◌≡◌, ◌∙◌, ap, sym, subst, ℕ, ◌<◌, List, get_or}
use Rattle.std.proofs.Common.{negsuc}
use Rattle.std.specs.Prelude.{pos, ℤ}
use Rattle.fills.proofs.Same.{one_fill}
use Rattle.fill_rules.specs.Made.{no_fill}
use Rattle.board_language.proofs.Members.{same_lists}
use Rattle.plane.specs.Plane.{Bounds}
use Rattle.strips.specs.Strips.{in_nanometres}
use Rattle.strips.specs.Area.{area2_of}
use Rattle.strips.proofs.Once.{once_law}
use Rattle.rings.specs.Sheets.{AreRings}
use Rattle.rings.proofs.Laws.{one_rings_law}
use Rattle.rings.specs.Rings.{Traced, not_traced}
use Rattle.rings.specs.Outlines.{AreOutlines}
use Rattle.run_rules.specs.Laws.{OneFillsLaw, OneOutlinesLaw}

pub one_fills : OneFillsLaw
one_fills b all others h g =
    same_lists no_fill all others (h.count ∙ sym g.count)
    (λ i l. one_fill b i (get_or all i no_fill) (get_or others i no_fill) (h.each i l) (g.each i (subst (λ n. i < n) (h.count ∙ sym g.count) l)))

abbrev size_of : ℤ → ℕ
size_of (pos n) = n
size_of (negsuc n) = 0

one_traced : (pieces : List Bounds) (t u : Traced) → AreOutlines pieces t → AreOutlines pieces u → t ≡ u
one_traced pieces t u h g =
    let strips = once_law (in_nanometres pieces) h.strips g.strips h.are_strips g.are_strips in
    let rings : t.rings ≡ u.rings = one_rings_law g.strips t.rings u.rings (record { shapes = g.are_strips.shapes; order = g.are_strips.order }) (subst (λ ss. AreRings ss t.rings) strips h.are_rings) g.are_rings in
    let area : t.area2 ≡ u.area2 = ap size_of (h.area ∙ ap area2_of strips ∙ sym g.area) in
    λ j. record { rings = rings j; area2 = area j }

pub one_outlines : OneOutlinesLaw
one_outlines all traced others h g =
    same_lists not_traced traced others (h.count ∙ sym g.count)
    (λ i l. one_traced (get_or all i no_fill).pieces (get_or traced i not_traced) (get_or others i not_traced) (h.each i l) (g.each i (subst (λ n. i < n) (h.count ∙ sym g.count) l)))
