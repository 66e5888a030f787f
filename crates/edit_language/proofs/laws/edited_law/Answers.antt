use Rattle.edit_language.proofs.Fold.{splice_text, one_edit, one_fold, index_law}
use Rattle.edit_language.proofs.laws.edited_law.Goals as goal

pub returns : goal.returns
returns c = record { splice = splice_text; edit = one_edit; fold = one_fold; index = index_law }
