use Rattle.fill_rules.proofs.Clusters.{one_labelling_law, label_law}
use Rattle.fill_rules.proofs.joined.label_law.Goals as goal

pub returns : goal.returns
returns c = record { one = one_labelling_law; clusters = label_law }
