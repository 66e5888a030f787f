use Rattle.stacks.specs.Stacks.{HaveSameUnion}
use Rattle.outlines.proofs.Cover.{covers_pieces, outlining, covering, ranging, if_ok, if_both}
use Rattle.outlines.proofs.outline.Goals as goal

pub of-requires : goal.of-requires
of-requires c = rw (c.as_slice.ensures.value) (c.in_ok-fewer.ensures.thick c.requires.inside)

pub returns-clause-outlines : goal.returns-clause-outlines
returns-clause-outlines c =
    let points : HaveSameUnion c.args.pieces.now c.as_slice.result.now = rw (c.as_slice.ensures.value) c.in_ok-fewer.ensures.points in
    if_both _ _ _ c.trace.result
    (λ t rings area. outlining c.any_law.ensures.outlines c.args.pieces.now c.as_slice.result.now _ t c.in_ok-fewer.ensures.octs c.requires.inside points c.strips.ensures.sheet
    c.in_ok-sheet.ensures.cover rings area)
    c.trace.ensures.rings c.trace.ensures.area

pub returns-clause-cover : goal.returns-clause-cover
returns-clause-cover c =
    let points : HaveSameUnion c.args.pieces.now c.as_slice.result.now = rw (c.as_slice.ensures.value) c.in_ok-fewer.ensures.points in
    let cover = covers_pieces c.args.pieces.now c.as_slice.result.now _ points c.in_ok-sheet.ensures.cover in
    if_ok _ _ c.trace.result
    (λ t rings. covering c.cover_law.ensures.union c.args.pieces.now _ t c.strips.ensures.sheet cover rings)
    c.trace.ensures.rings

pub returns-clause-range : goal.returns-clause-range
returns-clause-range c =
    let points : HaveSameUnion c.args.pieces.now c.as_slice.result.now = rw (c.as_slice.ensures.value) c.in_ok-fewer.ensures.points in
    let cover = covers_pieces c.args.pieces.now c.as_slice.result.now _ points c.in_ok-sheet.ensures.cover in
    if_ok _ _ c.trace.result
    (λ t rings. ranging c.args.pieces.now t (covering c.cover_law.ensures.union c.args.pieces.now _ t c.strips.ensures.sheet cover rings) c.requires.near)
    c.trace.ensures.rings
