use Rattle.std.proofs.Common.{rules, w64, FitsSigned}
use Rattle.octagon.proofs.Plain.{IsOct-IsSmall}
use Rattle.sheet_union.proofs.Ranges.{twice_fits, sub_fits, add_fits, finish_is, finish_near}
use Rattle.sheet_union.proofs.run.row_end.Goals as goal

pub overflow_sub-s : goal.overflow_sub-s
overflow_sub-s c = sub_fits c.s1.result _ c.args.y c.s1.ensures.value (IsOct-IsSmall _ c.s1.ensures.oct).s1 c.requires

pub overflow_mul-d : goal.overflow_mul-d
overflow_mul-d c = twice_fits c.d1.result _ c.d1.ensures.value (IsOct-IsSmall _ c.d1.ensures.oct).d1

pub overflow_add-d : goal.overflow_add-d
overflow_add-d c = add_fits c.d1.result _ c.args.y c.d1.ensures.value (IsOct-IsSmall _ c.d1.ensures.oct).d1 c.requires

pub returns-clause-value : goal.returns-clause-value
returns-clause-value c =
    let m = IsOct-IsSmall _ c.d1.ensures.oct in
    let f : FitsSigned w64 c.least.result = search rules in
    finish_is c.x1-x.result c.s1.result c.d1.result _ _ _ c.args.y c.least.result c.x1-x.ensures.value c.s1.ensures.value c.d1.ensures.value m.x1 m.s1 m.d1 c.requires f c.least.ensures

pub returns-clause-near : goal.returns-clause-near
returns-clause-near c =
    let m = IsOct-IsSmall _ c.d1.ensures.oct in
    let f : FitsSigned w64 c.least.result = search rules in
    finish_near _ _ _ c.args.y _ m.x1 m.s1 m.d1 c.requires
    (finish_is c.x1-x.result c.s1.result c.d1.result _ _ _ c.args.y c.least.result c.x1-x.ensures.value c.s1.ensures.value c.d1.ensures.value m.x1 m.s1 m.d1 c.requires f c.least.ensures)
