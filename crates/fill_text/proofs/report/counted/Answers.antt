use Rattle.std.proofs.Common.{ap, arith, List, length}
use Rattle.output_rules.specs.declared.report.RatsnestLine.{RatsnestLine}
use Rattle.output_rules.specs.Shown.{net_shown}
use Rattle.fill_text.proofs.NetsSaid.{none_unjoined, unjoined_more}
use Rattle.fill_text.proofs.report.counted.Goals as goal

pub nets-init : goal.nets-init
nets-init c = record { count = none_unjoined; most = omega arith }

pub nets-preserved : goal.nets-preserved
nets-preserved c = record {
  count = unjoined_more net_shown c.args.nets.now c.nets.net-index c.net-item.result c.nets.count c.in_ok-count.count _ c.nets-test.true c.net-item.is c.nets.invariant.count c.in_ok-count.ensures.sum
      (ap (λ (ls : List RatsnestLine). length ls) c.as_slice.ensures.value);
  most = c.in_ok-count.ensures.most;
}
