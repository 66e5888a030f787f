use Rattle.std.proofs.Common.{◌≡◌, refl, ℕ, ◌+◌, ◌<◌, [], ◌∷◌, arith}
use Rattle.std.specs.Fmt.{decimal}
use Rattle.std.proofs.lemmas.Fmt.{decimal_digit}
use Rattle.edit_language.specs.Lines.{pieces, words_of, lines_of}
use Rattle.edit_language.specs.Forms.{forms_of, fault_of}
use Rattle.edit_language.specs.Scripts.{edit_of, script_from, script_of}
use Rattle.edit_language.specs.Splices.{values_text, list_text, track_line, via_line, priority_splice, clearance_splice}
use Rattle.edit_language.specs.Edited.{stamp_refusal}
use Rattle.board_text.specs.Numbers.{length_fault, length_of}
use Rattle.edit_language.proofs.laws.rows.Goals as goal

pub returns-clause-scripts : goal.returns-clause-scripts
unfolding pieces words_of lines_of forms_of fault_of edit_of script_from script_of length_fault length_of
returns-clause-scripts c = record {
  track = refl;
  via = refl;
  two = refl;
  comment = refl;
  empty = refl;
  line = refl;
  unknown = refl;
  few = refl;
  many = refl;
  misfit = refl;
  number = refl;
  negative = refl;
  digits = refl;
  greatest = refl;
  beyond = refl;
}

pub returns-clause-length : goal.returns-clause-length
unfolding forms_of fault_of
returns-clause-length c = record { last = refl; beyond = refl }

digit : (n : ℕ) → n < 10 → decimal n ≡ (48 + n) ∷ []
digit = decimal_digit

pub returns-clause-splices : goal.returns-clause-splices
unfolding values_text list_text track_line via_line priority_splice clearance_splice
returns-clause-splices c = record {
  track = simp (digit 0 (omega arith), digit 3 (omega arith), digit 5 (omega arith), digit 8 (omega arith), digit 9 (omega arith)) refl;
  newer_track = simp (digit 0 (omega arith), digit 3 (omega arith), digit 5 (omega arith), digit 8 (omega arith), digit 9 (omega arith)) refl;
  via = simp (digit 0 (omega arith), digit 1 (omega arith), digit 5 (omega arith)) refl;
  newer_via = simp (digit 0 (omega arith), digit 1 (omega arith), digit 5 (omega arith)) refl;
  drop = refl;
  priority = simp (digit 2 (omega arith)) refl;
  new_priority = simp (digit 2 (omega arith)) refl;
  clearance = simp (digit 0 (omega arith)) refl;
  in_connect = simp (digit 0 (omega arith)) refl;
  with_connect = simp (digit 0 (omega arith)) refl;
}

pub returns-clause-refusals : goal.returns-clause-refusals
unfolding stamp_refusal
returns-clause-refusals c = record {
  nothing = refl;
  zone_dropped = refl;
  track_dropped = refl;
  track_set = refl;
  area_set = refl;
  zone_set = refl;
  taken = refl;
  free = refl;
}
