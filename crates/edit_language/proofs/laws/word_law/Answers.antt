use Rattle.edit_language.proofs.Pieces.{word_end_law, word_law, no_word_law}
use Rattle.edit_language.proofs.laws.word_law.Goals as goal

pub returns : goal.returns
returns c = record { end = word_end_law; word = word_law; none = no_word_law }
