use Rattle.std.proofs.Common.{◌≡◌, ℕ, ◌+◌, ◌<◌, inl, inr, arith, length}
use Rattle.outline_slab.specs.Rules.{IsNextAround}
use Rattle.outline_slab.specs.Inner.Side.{side_edge}
use Rattle.outline_slab.proofs.Crossings.{side_octilinear, near_test, far_test, turned_test}
use Rattle.outline_slab.proofs.crossing.crosses.Goals as goal
use Rattle.outline_slab.proofs.crossing.crosses.Goals.{else-i-eq0-via-then-i-eq0+else-j-corners, else-i-eq0-via-else-i-eq0}

not_before : (n i j : ℕ) → i < j → (i ≡ 0 → j + 1 ≡ n → ⊥) → IsNextAround n j i → ⊥
not_before n i j h g (inl e) = omega arith
not_before n i j h g (inr e) = g e.1 (omega (arith, e.0))

not_after : (n i j : ℕ) → i < j → (j ≡ i + 1 → ⊥) → IsNextAround n i j → ⊥
not_after n i j h g (inl e) = g (omega arith)
not_after n i j h g (inr e) = omega (arith, e.1)

pub returns-then-j-i : goal.returns-then-j-i
returns-then-j-i c =
    near_test c.args.corners.now c.args.i c.args.j (side_edge c.side_at-first.result) (side_edge c.side_at-second.result) _
    c.side_at-first.ensures.edge c.side_at-second.ensures.edge c.requires.three (omega arith) c.requires.within
    (inl (omega arith)) c.requires.sides c.is_folded.ensures

pub returns-then-j-corners : goal.returns-then-j-corners
returns-then-j-corners c =
    turned_test c.args.corners.now c.args.j c.args.i _
    (near_test c.args.corners.now c.args.j c.args.i (side_edge c.side_at-second.result) (side_edge c.side_at-first.result) _
    c.side_at-second.ensures.edge c.side_at-first.ensures.edge c.requires.three c.requires.within (omega arith)
    (inr (omega arith, omega arith)) c.requires.sides c.is_folded-then-j-corners.ensures)

pub hull-requires-clause-octilinear : goal.hull-requires-clause-octilinear
hull-requires-clause-octilinear c = side_octilinear c.args.corners.now c.args.i _ c.requires.sides (omega arith) c.side_at-first.ensures.edge

pub hull-requires-2-clause-octilinear : goal.hull-requires-2-clause-octilinear
hull-requires-2-clause-octilinear c = side_octilinear c.args.corners.now c.args.j _ c.requires.sides c.requires.within c.side_at-second.ensures.edge

pub returns : goal.returns
returns c =
    let apart : c.args.i ≡ 0 → c.args.j + 1 ≡ length c.args.corners.now → ⊥ =
    λ e f. elim c.else-i-eq0.branch [ else-i-eq0-via-then-i-eq0+else-j-corners w ↦ omega arith | else-i-eq0-via-else-i-eq0 w ↦ omega arith ] in
    far_test c.args.corners.now c.args.i c.args.j (side_edge c.side_at-first.result) (side_edge c.side_at-second.result) _ _ _
    c.side_at-first.ensures.edge c.side_at-second.ensures.edge
    (not_after (length c.args.corners.now) c.args.i c.args.j c.requires.order (λ e. omega arith)) (not_before (length c.args.corners.now) c.args.i c.args.j c.requires.order apart)
    c.hull.ensures c.hull-2.ensures c.meets.ensures
