use Rattle.plane.specs.Plane.{StrictlyWithin}
use Rattle.octagon.specs.contracts.Oct.{the_view}
use Rattle.octagon.proofs.Steps.{none_iff, some_iff, some_oct, code_opened, opened_same, code_opened-IsTakeable, fits_plus, fits_minus}
use Rattle.octagon.proofs.Plain.{IsOct-IsSmall}
use Rattle.octagon.proofs.Oct.opened.Goals as goal

pub tightened-requires : goal.tightened-requires
tightened-requires c = code_opened-IsTakeable (the_view c.self.inside) c.self.invariant

pub returns-clause-none : goal.returns-clause-none
returns-clause-none c =
    let b = the_view c.self.inside in
    rw (← c.self.view_is) (none_iff (code_opened b) (StrictlyWithin b) c.tightened.result (opened_same b c.self.invariant) c.tightened.ensures.none c.tightened.ensures.some)

pub returns-clause-points : goal.returns-clause-points
returns-clause-points c =
    let b = the_view c.self.inside in
    rw (← c.self.view_is) (some_iff (code_opened b) (StrictlyWithin b) c.tightened.result (opened_same b c.self.invariant) c.tightened.ensures.some)

pub overflow_sub-self-inside-3 : goal.overflow_sub-self-inside-3
overflow_sub-self-inside-3 c = fits_minus c.self.inside.s1 (IsOct-IsSmall (the_view c.self.inside) c.self.invariant).s1

pub overflow_add-self-inside-4 : goal.overflow_add-self-inside-4
overflow_add-self-inside-4 c = fits_plus c.self.inside.d0 (IsOct-IsSmall (the_view c.self.inside) c.self.invariant).d0

pub overflow_sub-self-inside-4 : goal.overflow_sub-self-inside-4
overflow_sub-self-inside-4 c = fits_minus c.self.inside.d1 (IsOct-IsSmall (the_view c.self.inside) c.self.invariant).d1

pub returns-clause-oct : goal.returns-clause-oct
returns-clause-oct c = some_oct (code_opened (the_view c.self.inside)) c.tightened.result c.tightened.ensures.some
