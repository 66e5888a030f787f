-- A script is read line by line.
use Rattle.std.proofs.Common.{◌≡◌, ◌∙◌, refl, ap, sym, subst, ℕ, zero, suc, Bool, true, false, not, cond, List, [], ◌∷◌, ◌++◌, map, length, append_assoc, append-nil, length-append, Option, None, Some, arith}
use Rattle.std.specs.Prelude.{All, if◌then◌else◌, nat_le}
use Rattle.std.proofs.lemmas.Option.{none-some}
use Rattle.edit_language.specs.declared.edit.Edit.{Edit}
use Rattle.edit_language.specs.declared.edit.EditKind.{EditKind}
use Rattle.edit_language.specs.declared.edit.EditKind.TheVariants.{TooLong}
use Rattle.edit_language.specs.Lines.{Line, pieces, is_line_feed, words_of, is_passed_over, lines_of}
use Rattle.edit_language.specs.Forms.{words_fault, fault_of}
use Rattle.edit_language.specs.Scripts.{edit_of, IsWritten, AreEdits, Script, Edits, Fault, or_fault, before_others, script_from, script_of}
use Rattle.edit_language.proofs.Scripts.{SoundFrom, sound_from, edits_law, fault_law}
use Rattle.board_edit.specs.declared.error.ScriptError.{ScriptError}
use Rattle.board_edit.specs.declared.error.ScriptError.TheVariants.{Memory, Bad}
use Rattle.board_edit.specs.Scripts.{IsScriptRefusal}
use Rattle.board_edit.specs.Inner.Reading.{behind, lines_in, script_with, IsLineRefusal}

-- a line with its number
abbrev pub line_at : ℕ → List ℕ → Line
line_at n line = record { number = n; words = words_of line }

-- ---- one line

pub passed : (edits : List Edit) (n : ℕ) (line : List ℕ) (others : List (List ℕ)) → is_passed_over (words_of line) ≡ true
    → script_with edits n (line ∷ others) ≡ script_with edits (suc n) others
unfolding script_with
passed edits n line others e =
    ap (λ b. behind edits (script_from (length edits) (cond (not b) (line_at n line ∷ lines_in (suc n) others) (lines_in (suc n) others)))) e

kept : (edits : List Edit) (n : ℕ) (line : List ℕ) (others : List (List ℕ)) → is_passed_over (words_of line) ≡ false
    → script_with edits n (line ∷ others) ≡ behind edits (script_from (length edits) (line_at n line ∷ lines_in (suc n) others))
unfolding script_with
kept edits n line others e =
    ap (λ b. behind edits (script_from (length edits) (cond (not b) (line_at n line ∷ lines_in (suc n) others) (lines_in (suc n) others)))) e

first_of_all : (n : ℕ) (line : Line) (lines : List Line) (o : Option EditKind) → fault_of n line ≡ o
    → script_from n (line ∷ lines) ≡ or_fault line o (before_others (edit_of line) (script_from (suc n) lines))
unfolding script_from
first_of_all n line lines o e = ap (λ k. or_fault line k (before_others (edit_of line) (script_from (suc n) lines))) e

pub faulty : (edits : List Edit) (n : ℕ) (line : List ℕ) (others : List (List ℕ)) (kind : EditKind) → is_passed_over (words_of line) ≡ false
    → fault_of (length edits) (line_at n line) ≡ Some kind → script_with edits n (line ∷ others) ≡ Fault n kind
faulty edits n line others kind p e =
    kept edits n line others p ∙ ap (behind edits) (first_of_all (length edits) (line_at n line) (lines_in (suc n) others) (Some kind) e)

behind_more : (edits : List Edit) (edit : Edit) (rest : Script) → behind edits (before_others edit rest) ≡ behind (edits ++ edit ∷ []) rest
behind_more edits edit (Edits more) = ap Edits (sym (append_assoc edits (edit ∷ []) more))
behind_more edits edit (Fault line kind) = refl

one_more : (edits : List Edit) (edit : Edit) → suc (length edits) ≡ length (edits ++ edit ∷ [])
one_more edits edit = let l = length-append edits (edit ∷ []) in omega (arith, l)

pub read : (edits : List Edit) (n : ℕ) (line : List ℕ) (others : List (List ℕ)) (edit : Edit) (new : List Edit) → is_passed_over (words_of line) ≡ false
    → fault_of (length edits) (line_at n line) ≡ None → edit ≡ edit_of (line_at n line) → new ≡ edits ++ edit ∷ []
    → script_with edits n (line ∷ others) ≡ script_with new (suc n) others
unfolding script_with
read edits n line others edit new p e s w =
    kept edits n line others p
    ∙ ap (behind edits) (first_of_all (length edits) (line_at n line) (lines_in (suc n) others) None e)
    ∙ ap (λ k. behind edits (before_others k (script_from (suc (length edits)) (lines_in (suc n) others)))) (sym s)
    ∙ behind_more edits edit (script_from (suc (length edits)) (lines_in (suc n) others))
    ∙ ap (λ k. behind (edits ++ edit ∷ []) (script_from k (lines_in (suc n) others))) (one_more edits edit)
    ∙ ap (λ k. behind k (script_from (length k) (lines_in (suc n) others))) (sym w)

sound_words : (b : Bool) (o : Option EditKind) → (if b then Some TooLong else o) ≡ None → o ≡ None
sound_words true o e = absurd (none-some TooLong (sym e))
sound_words false o e = e

-- a line without a fault has words without one
pub sound : (n : ℕ) (line : Line) → fault_of n line ≡ None → words_fault line.words ≡ None
unfolding fault_of
sound n line e = sound_words (nat_le 10000 n) (words_fault line.words) e

-- ---- the whole script

behind_none : (script : Script) → behind [] script ≡ script
behind_none (Edits edits) = refl
behind_none (Fault line kind) = refl

pub begun : (script : List ℕ) → script_with [] 1 (pieces is_line_feed script) ≡ script_of script
unfolding script_with script_of lines_of
begun script = behind_none (script_from 0 (lines_in 1 (pieces is_line_feed script)))

ended : (edits : List Edit) (n : ℕ) → script_with edits n [] ≡ Edits edits
unfolding script_with script_from
ended edits n = ap Edits (append-nil edits)

pub are_edits : (script : List ℕ) (edits : List Edit) (n : ℕ) → script_with edits n [] ≡ script_of script → AreEdits script edits
are_edits script edits n e = (edits_law script edits).0 (sym e ∙ ended edits n)

pub refused : (script : List ℕ) (said : Script) (e : ScriptError) → said ≡ script_of script → IsLineRefusal said e → IsScriptRefusal script e
refused script said Memory s r = tt
refused script said (Bad fault) s r = (fault_law script fault.line fault.kind).0 (sym s ∙ r)

-- ---- each edit of a script is one that some line gives

written_from : (n : ℕ) (lines : List Line) → SoundFrom n lines → All IsWritten (map edit_of lines)
written_from n [] s k d l = absurd (omega (arith, l))
written_from n (line ∷ lines) s zero d l = record { line = line; sound = sound n line s.0; edit_is = refl }
written_from n (line ∷ lines) s (suc k) d l = written_from (suc n) lines s.1 k d (omega (arith, l))

pub are_written : (script : List ℕ) (edits : List Edit) → AreEdits script edits → All IsWritten edits
are_written script edits a = subst (All IsWritten) (sym a.edits_are) (written_from 0 (lines_of script) (sound_from 0 (lines_of script) (λ before after line e. ap (λ k. fault_of k line) (omega arith) ∙ a.sound before after line e)))
