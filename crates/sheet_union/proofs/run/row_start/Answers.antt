use Rattle.std.proofs.Common.{rules, w64, FitsSigned}
use Rattle.octagon.proofs.Plain.{IsOct-IsSmall}
use Rattle.sheet_union.proofs.Ranges.{twice_fits, sub_fits, add_fits, start_is, start_near}
use Rattle.sheet_union.proofs.run.row_start.Goals as goal

pub overflow_sub-s : goal.overflow_sub-s
overflow_sub-s c = sub_fits c.s0.result _ c.args.y c.s0.ensures.value (IsOct-IsSmall _ c.s0.ensures.oct).s0 c.requires

pub overflow_mul-d : goal.overflow_mul-d
overflow_mul-d c = twice_fits c.d0.result _ c.d0.ensures.value (IsOct-IsSmall _ c.d0.ensures.oct).d0

pub overflow_add-d : goal.overflow_add-d
overflow_add-d c = add_fits c.d0.result _ c.args.y c.d0.ensures.value (IsOct-IsSmall _ c.d0.ensures.oct).d0 c.requires

pub returns-clause-value : goal.returns-clause-value
returns-clause-value c =
    let m = IsOct-IsSmall _ c.d0.ensures.oct in
    let f : FitsSigned w64 c.greatest.result = search rules in
    start_is c.x0-x.result c.s0.result c.d0.result _ _ _ c.args.y c.greatest.result c.x0-x.ensures.value c.s0.ensures.value c.d0.ensures.value m.x0 m.s0 m.d0 c.requires f c.greatest.ensures

pub returns-clause-near : goal.returns-clause-near
returns-clause-near c =
    let m = IsOct-IsSmall _ c.d0.ensures.oct in
    let f : FitsSigned w64 c.greatest.result = search rules in
    start_near _ _ _ c.args.y _ m.x0 m.s0 m.d0 c.requires
    (start_is c.x0-x.result c.s0.result c.d0.result _ _ _ c.args.y c.greatest.result c.x0-x.ensures.value c.s0.ensures.value c.d0.ensures.value m.x0 m.s0 m.d0 c.requires f c.greatest.ensures)
