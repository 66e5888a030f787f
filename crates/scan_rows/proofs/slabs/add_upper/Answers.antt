use Rattle.scan_rows.proofs.Portions.{upper_added}
use Rattle.scan_rows.proofs.slabs.add_upper.Goals as goal

pub returns : goal.returns
returns c = upper_added c.args.oct.now c.args.mark.now _ c.args.parts.now.items c.cut_off.new.out.items (rw c.eight_of.ensures.value at c.in_ok-_lower.ensures.cut)
