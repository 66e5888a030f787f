use Rattle.edit_facts.proofs.InText.{zone_law}
use Rattle.edit_facts.proofs.zone_law.Goals as goal

pub returns : goal.returns
returns c = zone_law
