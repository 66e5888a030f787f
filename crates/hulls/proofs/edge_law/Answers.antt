use Rattle.hulls.proofs.Edges.{segment_law, chord_disc_law, chord_law}
use Rattle.hulls.proofs.edge_law.Goals as goal

pub returns : goal.returns
returns c = record { segment = segment_law; disc = chord_disc_law; length = chord_law }
