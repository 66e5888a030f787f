use Rattle.edit_language.proofs.Spells.{spell_law}
use Rattle.edit_language.proofs.laws.spell_law.Goals as goal

pub returns : goal.returns
returns c = spell_law
