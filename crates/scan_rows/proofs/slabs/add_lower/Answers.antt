use Rattle.scan_rows.proofs.Portions.{lower_added, seen_limit}
use Rattle.scan_rows.proofs.slabs.add_lower.Goals as goal

pub returns : goal.returns
returns c =
    lower_added c.args.oct.now c.args.mark.now _ c.args.parts.now.items c.add.new.out.items
    (rw (c.eight_of-whole.ensures.value, seen_limit c.args.mark.now c.limit_of.result c.limit_of.ensures.value c.limit_of.ensures.near) at c.inside-lower.ensures.points) c.in_ok-add.ensures
