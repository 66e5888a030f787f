use Rattle.std.proofs.lemmas.Result.{IfOk-weaker}
use Rattle.ratsnest.specs.Inner.Best.{IsRestOfOffers, IsAbsorbed}
use Rattle.ratsnest.proofs.Ring.{absorbed_by}
use Rattle.ratsnest.proofs.offers.absorbed.Goals as goal

pub returns : goal.returns
returns c = IfOk-weaker c.others.result (λ rest. IsRestOfOffers c.args.anchors.now c.args.cluster c.deref.result.now c.args.left.now rest.items)
    (λ rest. IsAbsorbed c.args.anchors.now c.args.cluster c.args.left.now rest.items)
    (λ rest h. absorbed_by _ _ _ _ c.deref.result.now (rw c.deref.ensures.value c.in_ok-moved.ensures) h) c.others.ensures
