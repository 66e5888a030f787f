use Rattle.std.proofs.Common.{sym, subst, arith}
use Rattle.plane.specs.Covering.{Edge}
use Rattle.slabs.proofs.Outside.{ends_all}
use Rattle.outline_slab.specs.Rules.{IsInSpan, no_edge}
use Rattle.outline_slab.proofs.Chain.{edges_length}
use Rattle.outline_slab.proofs.side.side_at.Goals as goal

pub returns-clause-start : goal.returns-clause-start
returns-clause-start c =
    let n = edges_length c.args.corners.now in
    subst (λ (e : Edge). IsInSpan e.start) (sym c.edge_at.ensures) (ends_all IsInSpan c.args.corners.now c.requires.span c.args.i no_edge (omega arith)).0

pub returns-clause-finish : goal.returns-clause-finish
returns-clause-finish c =
    let n = edges_length c.args.corners.now in
    subst (λ (e : Edge). IsInSpan e.finish) (sym c.edge_at.ensures) (ends_all IsInSpan c.args.corners.now c.requires.span c.args.i no_edge (omega arith)).1
