use Rattle.std.proofs.Common.{◌≡◌, ◌++◌, drop, flat_map}
use Rattle.fill_rules.specs.Tasks.{settings_of}
use Rattle.fill_rules.specs.Anchors.{track_anchors}
use Rattle.knockouts.proofs.holding.of_tracks.Given as goal

abbrev pub invariant-each : goal.invariant-each
invariant-each l = l.shapes.items ++ flat_map (track_anchors (settings_of l.zone) l.layer) (drop l.track-index l.tracks) ≡ flat_map (track_anchors (settings_of l.zone) l.layer) l.tracks
