use Rattle.std.proofs.Common.{arith, ◌<◌, ◌≤◌, length}
use Rattle.output_rules.specs.Shown.{net_shown}
use Rattle.output_rules.proofs.Reporting.{net_end, counted}
use Rattle.output_rules.proofs.report.unjoined.Goals as goal

pub overflow_add-count : goal.overflow_add-count
overflow_add-count c =
    let within : c.nets.net-index < length c.args.nets.now = omega arith in
    let all = counted net_shown c.args.nets.now c.nets.net-index c.net-item.result c.as_slice.result.now c.nets.count _ within c.net-item.is c.as_slice.ensures.value c.nets.invariant in
    omega (arith, all, c.requires)

pub nets-preserved : goal.nets-preserved
nets-preserved c =
    let within : c.nets.net-index < length c.args.nets.now = omega arith in
    counted net_shown c.args.nets.now c.nets.net-index c.net-item.result c.as_slice.result.now c.nets.count _ within c.net-item.is c.as_slice.ensures.value c.nets.invariant

pub returns : goal.returns
returns c =
    let done : length c.args.nets.now ≤ c.nets.net-index = omega arith in
    let none = net_end net_shown c.args.nets.now c.nets.net-index done in
    omega (arith, none, c.nets.invariant)
