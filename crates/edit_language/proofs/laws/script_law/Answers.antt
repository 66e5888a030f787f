use Rattle.edit_language.proofs.Scripts.{edits_law, fault_law, some_script, one_script}
use Rattle.edit_language.proofs.laws.script_law.Goals as goal

pub returns : goal.returns
returns c = record { edits = edits_law; fault = fault_law; some = some_script; one = one_script }
