use Rattle.dirty_rules.proofs.Copper.{track_law, via_law, drop_track_law, drop_via_law}
use Rattle.dirty_rules.proofs.copper_law.Goals as goal

pub returns : goal.returns
returns c = record { track = track_law; via = via_law; drop_track = drop_track_law; drop_via = drop_via_law }
