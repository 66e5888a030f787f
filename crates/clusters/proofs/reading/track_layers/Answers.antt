use Rattle.std.proofs.Common.{◌∙◌}
use Rattle.clusters.proofs.NodeParts.{track_none, track_layer}
use Rattle.clusters.proofs.reading.track_layers.Goals as goal

pub returns-then-k-tracks : goal.returns-then-k-tracks
returns-then-k-tracks c = track_none c.args.board.now.board c.tracks-tracks.result.now c.args.k c.tracks-tracks.ensures c.if-k-tracks.true

pub returns : goal.returns
returns c = c.only.ensures ∙ track_layer c.args.board.now.board c.tracks-tracks.result.now c.args.k _ c.tracks-tracks.ensures c.if-k-tracks.false
