use Rattle.scan_rows.proofs.Portions.{left_added}
use Rattle.scan_rows.proofs.slabs.add_left.Goals as goal

pub returns : goal.returns
returns c = left_added c.args.near.now c.args.octs.now c.args.done.now.items c.in_ok-rest.rest.items _ c.in_ok-rest.ensures c.in_ok-append.ensures.items
