use Rattle.dirtied.proofs.Flags.{ok_so}
use Rattle.dirtied.proofs.Arms.{drops_track, drops_via, some_mapped, none_mapped}
use Rattle.board_items.specs.Stamps.{stamped}
use Rattle.dirtied.proofs.edit.by_dropped.Goals as goal

pub returns-then-is_some : goal.returns-then-is_some
returns-then-is_some c =
    let s = some_mapped (λ t. t.now) c.track_with-track.result c.is_some.result c.is_some.ensures c.if-is_some.true in
    ok_so c.by_named_track.result _ _
    (λ v f. drops_track c.args.old.now.board c.args.new.now.board (stamped c.args.old.now.stamps c.args.stamp.now) _ s.0 v.items c.track_with-track.ensures.value s.1 f)
    c.by_named_track.ensures

pub returns-else-is_some : goal.returns-else-is_some
returns-else-is_some c =
    let n = none_mapped (λ t. t.now) c.track_with-track.result c.is_some.result c.is_some.ensures c.if-is_some.false in
    ok_so c.by_named_via.result _ _
    (λ v f. drops_via c.args.old.now.board c.args.new.now.board (stamped c.args.old.now.stamps c.args.stamp.now) _ _ v.items c.track_with-track.ensures.value n c.via_with.ensures.value f)
    c.by_named_via.ensures
