use Rattle.std.proofs.lemmas.List.Elements.{All-push}
use Rattle.plane.specs.Plane.{IsOct}
use Rattle.outline_slab.proofs.Octs.{pair_at, pairs_more, pairs_all}
use Rattle.outline_slab.proofs.Sides.{no_side}
use Rattle.outline_slab.proofs.Filled.{wide_more, wide_all}
use Rattle.outline_slab.proofs.slab_octs.pair_octs.Goals as goal

pub amid-requires : goal.amid-requires
amid-requires c = c.requires c.pair.j _ _ (pair_at c.args.cuts.now c.pair.j _ c.pair-test.true)

pub pair-preserved : goal.pair-preserved
pair-preserved c = record {
  points = λ p. pairs_more c.args.cuts.now c.pair.j _ c.pair.octs.items c.push.new.self.items c.amid.result p c.pair-test.true (c.pair.invariant.points p) (c.amid.ensures.points p) c.in_ok-push.ensures.items;
  wide = wide_more c.args.cuts.now c.pair.j _ c.pair.octs.items c.push.new.self.items c.amid.result c.pair-test.true c.pair.invariant.wide c.amid.ensures.points c.amid.ensures.wide c.in_ok-push.ensures.items;
  octs = rw c.in_ok-push.ensures.items (All-push IsOct c.pair.octs.items c.amid.result c.pair.invariant.octs c.amid.ensures.oct);
}

pub returns-clause-points : goal.returns-clause-points
returns-clause-points c = λ p.
    let a = c.pair.invariant.points p in
    let b = pairs_all c.args.cuts.now c.pair.j no_side p c.pair-test.false in
    (λ i. b.0 (a.0 i), λ i. a.1 (b.1 i))

pub returns-clause-wide : goal.returns-clause-wide
returns-clause-wide c = wide_all c.args.cuts.now c.pair.j no_side c.pair.octs.items c.pair-test.false c.pair.invariant.wide
