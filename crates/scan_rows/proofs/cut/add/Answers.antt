use Rattle.scan_rows.specs.Inner.Cutting.{bounds}
use Rattle.scan_rows.proofs.Pieces.{added_piece}
use Rattle.scan_rows.proofs.cut.add.Goals as goal

pub returns-in_ok-push-in-Some : goal.returns-in_ok-push-in-Some
returns-in_ok-push-in-Some c = rw c.in_ok-push-in-Some.ensures.items (added_piece c.in-Some.piece (bounds c.args.b.now) c.args.out.now.items c.in-Some.ensures)
