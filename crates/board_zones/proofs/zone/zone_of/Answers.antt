use Rattle.board_items.specs.Known.{context}
use Rattle.board_zones.proofs.Sound.{sound_zone}
use Rattle.board_zones.proofs.Whole.{span_is, zone_is}
use Rattle.board_zones.proofs.zone.zone_of.Goals as goal

pub outline_of-requires : goal.outline_of-requires
outline_of-requires c = sound_zone (context c.args.zone.now.bytes c.args.known.now) c.args.zone.now.item c.requires.sound

pub returns : goal.returns
returns c =
    zone_is (context c.args.zone.now.bytes c.args.known.now) c.args.zone.now.item _ _ _ _ _ _ _ _ _ _ _ _ _
    c.in_ok-outline_of.ensures
    c.in_ok-layers_of.ensures
    c.in_ok-whole_in.ensures
    c.in_ok-whole_in-2.ensures
    c.in_ok-join_in.ensures
    c.in_ok-clearance.ensures
    c.in_ok-thickness.ensures
    c.in_ok-gap.ensures
    c.in_ok-bridge.ensures
    c.in_ok-islands.ensures
    c.in_ok-spans_of.ensures
    (span_is c.span.result c.args.zone.now.item c.span.ensures.from c.span.ensures.to)
    c.requires.line
