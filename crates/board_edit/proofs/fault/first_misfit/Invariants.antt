use Rattle.std.proofs.Common.{◌≡◌, map, drop}
use Rattle.edit_language.specs.Forms.{first_misfit}
use Rattle.board_edit.specs.Inner.Words.{meant}
use Rattle.board_edit.proofs.fault.first_misfit.Given as goal

-- the first misfit of what is left is that of all
abbrev pub invariant-words : goal.invariant-words
invariant-words l = first_misfit (map meant (drop l.place l.wanted)) (map (λ word. word.now) (drop l.place l.words)) ≡ first_misfit (map meant l.wanted) (map (λ word. word.now) l.words)
