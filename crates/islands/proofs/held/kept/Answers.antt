use Rattle.std.proofs.Common.{◌∙◌, arith, ◌<◌, false, length, get_or}
use Rattle.std.proofs.lemmas.List.{get_or_default}
use Rattle.islands.proofs.Marking.{label_below, read_more, read_held}
use Rattle.islands.proofs.held.kept.Goals as goal

pub index-requires : goal.index-requires
index-requires c =
    let k : c.each.label-index < length c.args.octs.now = omega (arith, c.each-test.true, c.requires.parts.each) in
    let l = label_below c.args.octs.now c.args.labels.now c.requires.parts c.each.label-index k in
    omega (arith, l, c.in_ok-marks.ensures.count, c.in_ok-marks.marks.ok)

pub each-preserved : goal.each-preserved
each-preserved c =
    let k : c.each.label-index < length c.args.octs.now = omega (arith, c.each-test.true, c.requires.parts.each) in
    let l = label_below c.args.octs.now c.args.labels.now c.requires.parts c.each.label-index k in
    let m : get_or c.args.labels.now c.each.label-index 0 < length c.in_ok-marks.marks.items = omega (arith, l, c.in_ok-marks.ensures.count) in
    rw c.in_ok-push.ensures.items
    (read_more c.args.labels.now c.in_ok-marks.marks.items c.each.label-index c.each.kept.items _
    (c.index.ensures ∙ get_or_default c.in_ok-marks.marks.items (get_or c.args.labels.now c.each.label-index 0) _ false m) c.each.invariant)

pub returns-clause-count : goal.returns-clause-count
returns-clause-count c = omega (arith, c.each.invariant.count, c.each-test.false, c.requires.parts.each, c.each.auto.label-index-end)

pub returns-clause-held : goal.returns-clause-held
returns-clause-held c =
    read_held c.args.octs.now c.args.labels.now c.args.anchors.now c.args.live.now c.in_ok-marks.marks.items c.each.kept.items c.each.label-index
    c.each-test.false c.requires.parts c.in_ok-marks.ensures c.each.invariant
