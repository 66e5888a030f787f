use Rattle.scan_rows.proofs.Closed.{half_product}
use Rattle.scan_rows.proofs.count.triangle.Goals as goal

pub returns-clause-value : goal.returns-clause-value
returns-clause-value c = half_product c.args.n
