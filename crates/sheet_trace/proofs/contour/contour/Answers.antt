use Rattle.std.proofs.Common.{◌≡◌, ◌∙◌, sym, subst, []}
use Rattle.std.proofs.lemmas.Result.{IfOk-weaker}
use Rattle.rings.specs.Inner.Tracing.{least_from}
use Rattle.sheet_trace.specs.Inner.Visits.{begun_at}
use Rattle.sheet_trace.proofs.Opens.{empty_told, some_told}
use Rattle.sheet_trace.proofs.Rounds.{no_contour, contour_is}
use Rattle.sheet_trace.proofs.contour.contour.Goals as goal

pub returns-then-is_empty : goal.returns-then-is_empty
returns-then-is_empty c = no_contour c.args.walk.now _ (empty_told _ _ c.is_empty.ensures c.if-is_empty.true) c.new.ensures.items

pub returns : goal.returns
returns c =
    let place = c.least_place-place.result in
    let cs = c.deref-2.result.now in
    let least = subst (λ zs. begun_at zs place ≡ least_from [] zs) (c.deref.ensures.value ∙ sym c.deref-2.ensures.value) c.least_place-place.ensures.least in
    IfOk-weaker c.begun_at.result _ _
    (λ v h. contour_is c.args.walk.now _ place cs v.items (some_told _ _ c.is_empty.ensures c.if-is_empty.false) (c.deref-2.ensures.value ∙ c.in_ok-corners.ensures) least h) c.begun_at.ensures
