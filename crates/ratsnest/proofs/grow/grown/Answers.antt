use Rattle.std.proofs.Common.{refl, [], ◌∷◌, sym, subst, ◌∙◌, ◌≡◌, length, arith}
use Rattle.std.specs.List.{All}
use Rattle.std.proofs.lemmas.Bool.Decides.{Decides-eqb}
use Rattle.ratsnest.specs.Inner.Best.{IsSoundOffer, IsRing, IsAbsorbed, IsNearest}
use Rattle.ratsnest.proofs.Growing.{Growing, sound_at, growing_first, growing_more, growing_end, growing_sound, growing_falls, none_of, empty_tree, some_one}
use Rattle.ratsnest.proofs.grow.grown.Goals as goal

pub returns-then-is_empty : goal.returns-then-is_empty
returns-then-is_empty c = empty_tree _ _ ((Decides-eqb _ 0).0 (sym c.is_empty.ensures ∙ c.if-is_empty.true)) c.new-pairs.ensures.items

pub grow-init : goal.grow-init
grow-init c = growing_first _ _ c.deref.result.now _ _ (some_one _ _ c.is_empty.ensures c.if-is_empty.false) c.new-pairs.ensures.items refl
    (subst (λ z. IsRing c.args.anchors.now (0 ∷ []) z) (sym c.deref.ensures.value) c.in_ok-start.ensures) c.in_ok-left.ensures

pub anchor_at-cluster-requires : goal.anchor_at-cluster-requires
anchor_at-cluster-requires c =
    let s : IsSoundOffer c.args.anchors.now c.nearest-line.result = sound_at _ c.grow.left.items _ (growing_sound _ _ _ c.grow.invariant)
    (subst (λ z. IsNearest c.args.anchors.now z c.nearest-line.result) c.deref-in-grow.ensures.value (c.nearest-line.ensures c.args.anchors.now (subst (λ z. All (λ o. IsSoundOffer c.args.anchors.now o) z) (sym c.deref-in-grow.ensures.value) (growing_sound _ _ _ c.grow.invariant)))) in
    s.there

pub grow-smaller : goal.grow-smaller
grow-smaller c = growing_falls c.args.anchors.now c.grow.left.items c.in_ok-left-2.left.items c.nearest-line.result c.anchor_at-cluster.result.cluster
    (subst (λ z. IsNearest c.args.anchors.now z c.nearest-line.result) c.deref-in-grow.ensures.value (c.nearest-line.ensures c.args.anchors.now (subst (λ z. All (λ o. IsSoundOffer c.args.anchors.now o) z) (sym c.deref-in-grow.ensures.value) (growing_sound _ _ _ c.grow.invariant))))
    (rw c.anchor_at-cluster.ensures refl)
    (subst (λ z. IsAbsorbed c.args.anchors.now c.anchor_at-cluster.result.cluster z c.in_ok-left-2.left.items) c.deref-in-grow-2.ensures.value c.in_ok-left-2.ensures)

pub grow-preserved : goal.grow-preserved
grow-preserved c = subst (λ z. Growing c.args.anchors.now z c.in_ok-left-2.left.items) (sym c.in_ok-push.ensures.items)
    (growing_more c.args.anchors.now _ c.grow.left.items c.in_ok-left-2.left.items c.nearest-line.result c.anchor_at-cluster.result.cluster
    (subst (λ z. IsNearest c.args.anchors.now z c.nearest-line.result) c.deref-in-grow.ensures.value (c.nearest-line.ensures c.args.anchors.now (subst (λ z. All (λ o. IsSoundOffer c.args.anchors.now o) z) (sym c.deref-in-grow.ensures.value) (growing_sound _ _ _ c.grow.invariant))))
    (rw c.anchor_at-cluster.ensures refl)
    (subst (λ z. IsAbsorbed c.args.anchors.now c.anchor_at-cluster.result.cluster z c.in_ok-left-2.left.items) c.deref-in-grow-2.ensures.value c.in_ok-left-2.ensures)
    c.grow.invariant)

pub returns : goal.returns
returns c = let e : length c.grow.left.items ≡ 0 = omega (arith, (Decides-eqb _ 0).0 (sym c.is_empty-in-grow.ensures ∙ c.grow-test.false), c.grow.left.ok) in
    growing_end _ _ _ (none_of c.grow.left.items e) c.grow.invariant
