use Rattle.std.proofs.Common.{◌∙◌, ◌++◌, ap}
use Rattle.edit_language.proofs.Values.{begun, written, ended}
use Rattle.edit_language.proofs.text.list.Goals as goal

pub values-init : goal.values-init
values-init c = begun (λ v. v.items) c.args.values.now c.args.name.now c.in_ok-out.out.items c.in_ok-out.ensures

pub values-preserved : goal.values-preserved
values-preserved c =
    written (λ v. v.items) c.args.values.now c.values.value-index c.value-item.result c.values.out.items c.push.new.self.items c.extend_from_slice.new.self.items c.values-test.true
    c.value-item.is c.in_ok-push.ensures.items (c.in_ok-extend_from_slice.ensures.items ∙ ap (λ k. c.push.new.self.items ++ k) c.as_slice.ensures.value) ∙ c.values.invariant

pub returns : goal.returns
returns c = ended (λ v. v.items) c.args.values.now c.values.value-index c.values.out.items c.push-2.new.self.items _ c.values-test.false c.in_ok-push-2.ensures.items c.values.invariant
