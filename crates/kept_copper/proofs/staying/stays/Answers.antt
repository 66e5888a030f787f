use Rattle.kept_copper.proofs.Decided.{if_ok, labels_within, are_staying}
use Rattle.kept_copper.proofs.staying.stays.Goals as goal

pub flags-requires-clause-labels : goal.flags-requires-clause-labels
flags-requires-clause-labels c = rw (c.as_slice-labels.ensures.value) (labels_within c.args.pieces.now _ c.in_ok-found.ensures)

pub returns : goal.returns
returns c =
    if_ok _ _ c.flags.result
    (λ v f. are_staying c.args.edges.now c.args.anchors.now c.args.live.now c.args.islands c.args.cells.now c.args.pieces.now c.as_slice-labels.result.now
    c.as_slice.result.now c.as_slice-2.result.now c.as_slice-3.result.now (rw (c.as_slice-labels.ensures.value) c.in_ok-found.ensures) c.requires.same
    (rw (c.as_slice.ensures.value) c.in_ok-held.ensures.held) (rw (c.as_slice-2.ensures.value) c.in_ok-begun.ensures.1)
    (rw (c.as_slice-3.ensures.value) c.in_ok-spared.ensures.1) v.items f)
    c.flags.ensures
