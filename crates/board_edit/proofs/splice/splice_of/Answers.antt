use Rattle.board_edit.proofs.Boards.{number}
use Rattle.board_edit.proofs.Arms.{ok_so, track_form, via_form, clearance_form, drop_kind, priority_kind, clearance_kind, connect_in, track_made, via_made, drop_made, priority_made, clearance_made}
use Rattle.edit_language.specs.Edited.{edit_stamp}
use Rattle.board_edit.proofs.splice.splice_of.Goals as goal

pub put_track-requires-clause-from : goal.put_track-requires-clause-from
put_track-requires-clause-from c = (track_form c.args.edit.now _ _ _ _ _ _ c.in-Track.is c.requires.formed).0

pub put_track-requires-clause-to : goal.put_track-requires-clause-to
put_track-requires-clause-to c = (track_form c.args.edit.now _ _ _ _ _ _ c.in-Track.is c.requires.formed).1

pub put_track-requires-clause-width : goal.put_track-requires-clause-width
put_track-requires-clause-width c = (track_form c.args.edit.now _ _ _ _ _ _ c.in-Track.is c.requires.formed).2

pub put_via-requires-clause-at : goal.put_via-requires-clause-at
put_via-requires-clause-at c = (via_form c.args.edit.now _ _ _ _ _ _ _ c.in-Via.is c.requires.formed).0

pub put_via-requires-clause-size : goal.put_via-requires-clause-size
put_via-requires-clause-size c = (via_form c.args.edit.now _ _ _ _ _ _ _ c.in-Via.is c.requires.formed).1

pub put_via-requires-clause-drill : goal.put_via-requires-clause-drill
put_via-requires-clause-drill c = (via_form c.args.edit.now _ _ _ _ _ _ _ c.in-Via.is c.requires.formed).2

pub copper_span-requires-clause-kind : goal.copper_span-requires-clause-kind
copper_span-requires-clause-kind c = drop_kind c.args.edit.now c.in-Drop.stamp c.args.thing c.in-Drop.is c.requires.fits

pub copper_span-requires-clause-number : goal.copper_span-requires-clause-number
copper_span-requires-clause-number c = number c.args.text.now c.args.board.now (edit_stamp c.args.edit.now) c.args.thing c.requires.board c.requires.thing

pub zone_in-requires-clause-kind : goal.zone_in-requires-clause-kind
zone_in-requires-clause-kind c = priority_kind c.args.edit.now c.in-Priority.stamp c.in-Priority.value c.args.thing c.in-Priority.is c.requires.fits

pub zone_in-requires-clause-number : goal.zone_in-requires-clause-number
zone_in-requires-clause-number c = number c.args.text.now c.args.board.now (edit_stamp c.args.edit.now) c.args.thing c.requires.board c.requires.thing

pub zone_in-requires-in-Clearance-clause-kind : goal.zone_in-requires-in-Clearance-clause-kind
zone_in-requires-in-Clearance-clause-kind c = clearance_kind c.args.edit.now c.in-Clearance.stamp c.in-Clearance.value c.args.thing c.in-Clearance.is c.requires.fits

pub zone_in-requires-in-Clearance-clause-number : goal.zone_in-requires-in-Clearance-clause-number
zone_in-requires-in-Clearance-clause-number c = number c.args.text.now c.args.board.now (edit_stamp c.args.edit.now) c.args.thing c.requires.board c.requires.thing

pub set_clearance-requires-clause-connect : goal.set_clearance-requires-clause-connect
set_clearance-requires-clause-connect c = connect_in c.args.text.now c.args.board.now c.args.thing c.zone_in-in-Clearance.result.now c.requires.board c.zone_in-in-Clearance.ensures

pub set_clearance-requires-clause-value : goal.set_clearance-requires-clause-value
set_clearance-requires-clause-value c = clearance_form c.args.edit.now c.in-Clearance.stamp c.in-Clearance.value c.in-Clearance.is c.requires.formed

pub returns-in-Track : goal.returns-in-Track
returns-in-Track c =
    ok_so c.put_track.result _ _
    (λ s e root r.
    track_made c.args.text.now root c.args.board.now c.up_to_end.result c.in-Track.from c.in-Track.to c.in-Track.width c.in-Track.net c.version.result c.bytes.result.now
    c.bytes-in-Track.result.now c.in-Track.layer c.in-Track.stamp c.args.edit.now s c.requires.board r (c.up_to_end.ensures root r) c.version.ensures c.bytes.ensures
    c.bytes-in-Track.ensures c.in-Track.is e)
    c.put_track.ensures

pub returns-in-Via : goal.returns-in-Via
returns-in-Via c =
    ok_so c.put_via.result _ _
    (λ s e root r.
    via_made c.args.text.now root c.args.board.now c.up_to_end-in-Via.result c.in-Via.at c.in-Via.size c.in-Via.drill c.in-Via.net c.version-in-Via.result c.bytes-in-Via.result.now
    c.bytes-in-Via-2.result.now c.bytes-in-Via-3.result.now c.in-Via.top c.in-Via.bottom c.in-Via.stamp c.args.edit.now s c.requires.board r (c.up_to_end-in-Via.ensures root r)
    c.version-in-Via.ensures c.bytes-in-Via.ensures c.bytes-in-Via-2.ensures c.bytes-in-Via-3.ensures c.in-Via.is e)
    c.put_via.ensures

pub returns-in-Drop : goal.returns-in-Drop
returns-in-Drop c =
    λ root r.
    drop_made c.args.text.now root c.args.board.now c.in-Drop.stamp c.args.thing c.copper_span.result c.args.edit.now c.drop_copper.result c.requires.board r c.requires.thing c.in-Drop.is
    c.copper_span.ensures c.drop_copper.ensures

pub returns-in-Priority : goal.returns-in-Priority
returns-in-Priority c =
    ok_so c.set_priority.result _ _
    (λ s e root r.
    priority_made c.args.text.now root c.args.board.now c.in-Priority.stamp c.in-Priority.value c.args.thing c.zone_in.result.now c.args.edit.now s c.requires.board r c.requires.thing
    c.in-Priority.is c.zone_in.ensures e)
    c.set_priority.ensures

pub returns-in-Clearance : goal.returns-in-Clearance
returns-in-Clearance c =
    ok_so c.set_clearance.result _ _
    (λ s e root r.
    clearance_made c.args.text.now root c.args.board.now c.in-Clearance.stamp c.in-Clearance.value c.args.thing c.zone_in-in-Clearance.result.now c.args.edit.now s c.requires.board r
    c.requires.thing c.in-Clearance.is c.zone_in-in-Clearance.ensures e)
    c.set_clearance.ensures
