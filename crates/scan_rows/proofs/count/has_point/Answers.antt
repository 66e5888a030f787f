use Rattle.std.proofs.Common.{refl}
use Rattle.std.specs.Prelude.{IsTrue}
use Rattle.scan_rows.proofs.Lists.{has_item, none_more}
use Rattle.scan_rows.proofs.count.has_point.Goals as goal

pub returns-then-is_in : goal.returns-then-is_in
returns-then-is_in c =
    (λ _. has_item c.oct-item.result c.args.octs.now c.octs.oct-index c.args.p.x c.args.p.y c.octs-test.true c.oct-item.is (c.is_in.ensures.0 c.if-is_in.true), λ _. refl)

pub octs-preserved : goal.octs-preserved
octs-preserved c =
    none_more c.oct-item.result c.args.octs.now c.octs.oct-index c.args.p.x c.args.p.y c.octs-test.true c.oct-item.is c.octs.invariant
    (λ w. let t : IsTrue c.is_in.result = c.is_in.ensures.1 w in cc)
