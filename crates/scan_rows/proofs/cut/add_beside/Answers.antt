use Rattle.scan_rows.proofs.Pieces.{all_sides}
use Rattle.scan_rows.proofs.cut.add_beside.Goals as goal

pub returns : goal.returns
returns c =
    all_sides c.args.own.now c.args.other.now _ _ _ _ _ _ _ _ _ _ _ _ _ _ _ _ _
    (rw c.eight_of-whole.ensures.value at c.in_ok-a.ensures.cut)
    c.in_ok-b.ensures.cut
    c.in_ok-c.ensures.cut
    c.in_ok-d.ensures.cut
    c.in_ok-e.ensures.cut
    c.in_ok-f.ensures.cut
    c.in_ok-g.ensures.cut
    c.in_ok-_common.ensures.cut
