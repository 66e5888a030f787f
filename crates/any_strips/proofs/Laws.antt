-- The strips of the octagons exist, and cover what the others cover.
use Rattle.std.proofs.Common.{sym, ◌∙◌}
use Rattle.sheet_union.proofs.Exists.{strips_exist, cover_law}
use Rattle.strips.specs.Strips.{in_nanometres}
use Rattle.rings.specs.Laws.{AreOrderly}
use Rattle.same_points.proofs.Laws.{same_cover_law, same_drawn_law}
use Rattle.any_strips.specs.Laws.{SomeStripsLaw, AnyStripsLaw, AnyOutlinesLaw}

pub some_strips_law : SomeStripsLaw
some_strips_law octs o h = let w = strips_exist octs o h in (w.0, w.1)

pub any_strips_law : AnyStripsLaw
any_strips_law octs ss ts o h s t =
    let order : AreOrderly ss = record { shapes = s.shapes; order = s.order } in
    let same = same_cover_law (in_nanometres octs) ss ts (cover_law octs ss o h s) t.cover in
    same_drawn_law ss ts order t.order same

pub any_outlines_law : AnyOutlinesLaw
any_outlines_law octs ts traced o h t rings area =
    let w = some_strips_law octs o h in
    let same = any_strips_law octs w.0 ts o h w.1 t in
    record { strips = w.0; are_strips = w.1; are_rings = (same.rings traced.rings).1 rings; area = area ∙ sym same.area }
