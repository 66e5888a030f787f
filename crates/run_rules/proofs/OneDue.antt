-- At most one thing is due, and so the answer of a quiet run is to it.
use Rattle.std.proofs.Common.{◌≡◌, inl, inr, ℕ, ◌<◌, arith, sym, ◌∙◌, ap, subst, List, [], ◌++◌, length, Option, None, refl}
use Rattle.std.specs.Prelude.{Bool, true, false, ◌↔◌}
use Rattle.classes.specs.Classes.{IsOneOf}
use Rattle.desk.specs.Seen.{Seen, content}
use Rattle.desk.specs.declared.Counts.{Counts}
use Rattle.sexpr_text.specs.declared.error.TextKind.{TextKind}
use Rattle.sexpr_text.specs.declared.error.TextFault.{TextFault}
use Rattle.sexpr_text.specs.Items.{Item}
use Rattle.sexpr_text.proofs.FaultLaws.{same_fault, no_fault}
use Rattle.board_language.specs.declared.board.Rules.{Rules}
use Rattle.board_language.specs.declared.offence.OffenceKind.{OffenceKind}
use Rattle.board_language.specs.Board.{Board}
use Rattle.board_language.specs.Reading.{board_of}
use Rattle.fill_rules.specs.Tasks.{ranked}
use Rattle.fill_rules.specs.Made.{Made}
use Rattle.edit_language.specs.declared.edit.Edit.{Edit}
use Rattle.edit_language.specs.declared.edit.EditFault.{EditFault}
use Rattle.edit_language.specs.declared.edit.EditKind.{EditKind}
use Rattle.edit_language.specs.declared.edit.EditKind.TheVariants.{TooFewWords}
use Rattle.edit_language.specs.declared.edit.EditRefusal.TheVariants.{NoStamp}
use Rattle.board_language.specs.declared.offence.Offence.{Offence}
use Rattle.edit_language.specs.Edited.{IsBoardOf}
use Rattle.dirty_rules.specs.Dirty.{IsInDirtySet}
use Rattle.edit_language.proofs.OneRoot.{one_root}
use Rattle.board_language.proofs.OneOffence.{one_offence, no_offence}
use Rattle.edit_language.proofs.Scripts.{one_script}
use Rattle.edit_language.proofs.Fold.{one_fold}
use Rattle.board_gen.specs.Generated.{generated}
use Rattle.rings.specs.Rings.{Traced}
use Rattle.output_rules.specs.Report.{Report, unjoined, refilled_text}
use Rattle.output_rules.specs.Reported.{IsReport}
use Rattle.output_rules.proofs.Reports.{one_report}
use Rattle.run_rules.specs.declared.words.Command.{Command}
use Rattle.run_rules.specs.declared.words.Command.TheVariants as commands
use Rattle.run_rules.specs.declared.ended.Ended.{Ended}
use Rattle.run_rules.specs.declared.ended.Ended.TheVariants.{Done, Usage, TooLong, BadText, Refused, BadScript, EditRefused, Unreadable, Unwritten, Unsaid, Memory}
use Rattle.run_rules.specs.declared.ended.Role.{Role}
use Rattle.run_rules.specs.declared.ended.Role.TheVariants.{In, Edits}
use Rattle.run_rules.specs.Words.{Wanted, default_rules}
use Rattle.run_rules.specs.Words.Wanted.{Wrong, Run}
use Rattle.fills.specs.Fills.{AreBoardFills}
use Rattle.output_rules.specs.Traced.{AreTracedOf}
use Rattle.run_rules.specs.Filled.{Filled, IsFilled, written, reported}
use Rattle.run_rules.specs.Due.{File, Due, Duties, all_duties, IsDue, OwesFile, OwesRoot, OwesBoard, OwesFill, OwesReport, OwesScript, OwesEdits, OwesGenerated, OwesCommand, OwesWords, IsRefilled, TellsChanged, pass_with, summary_of}
use Rattle.run_rules.specs.Due.Due.{Refuse, Pass}
use Rattle.run_rules.specs.Leaves.{IsCaused, IsDeskFault, IsQuiet, IsAnswerTo}
use Rattle.run_rules.specs.Laws.{HasOneEach, HasOneDue, AnswersDue, DutiesLaw, OneDueLaw, AnswersDueLaw}
use Rattle.run_rules.proofs.OneFilled.{one_fills, one_outlines}
use Rattle.run_rules.proofs.Sorted.{same_sorted}

-- ---- records are the same where their fields are

abbrev text_fault : ℕ → TextKind → TextFault
text_fault at kind = record { at = at; kind = kind }

same_text_fault : (fault other : TextFault) → fault.at ≡ other.at → fault.kind ≡ other.kind → fault ≡ other
same_text_fault fault other p q = let h : text_fault fault.at fault.kind ≡ text_fault other.at other.kind = cc in h

abbrev offence_of : ℕ → ℕ → OffenceKind → Offence
offence_of at line kind = record { at = at; line = line; kind = kind }

same_offence : (o p : Offence) → o.at ≡ p.at → o.line ≡ p.line → o.kind ≡ p.kind → o ≡ p
same_offence o p a l k = let h : offence_of o.at o.line o.kind ≡ offence_of p.at p.line p.kind = cc in h

abbrev edit_fault : ℕ → EditKind → EditFault
edit_fault line kind = record { line = line; kind = kind }

same_edit_fault : (fault other : EditFault) → fault.line ≡ other.line → fault.kind ≡ other.kind → fault ≡ other
same_edit_fault fault other p q = let h : edit_fault fault.line fault.kind ≡ edit_fault other.line other.kind = cc in h

abbrev filled : Board → List Made → List Traced → Report → Filled
filled board fills traced report = record { board = board; fills = fills; traced = traced; report = report }

-- ---- boards and their fills

pub one_board : (text : List ℕ) (rules : Rules) (b c : Board) → IsBoardOf text rules b → IsBoardOf text rules c → b ≡ c
one_board text rules b c h g =
    let root : h.root ≡ g.root = one_root text h.root g.root h.is_root g.is_root in
    h.board_is ∙ ap (λ r. board_of text r rules) root ∙ sym g.board_is

one_filled : (text : List ℕ) (rules : Rules) (f h : Filled) → IsFilled text rules f → IsFilled text rules h → f ≡ h
one_filled text rules f h p q =
    let b : f.board ≡ h.board = one_board text rules f.board h.board p.is_board q.is_board in
    let m : f.fills ≡ h.fills = one_fills h.board f.fills h.fills (subst (λ x. AreBoardFills x f.fills) b p.are_fills) q.are_fills in
    let t : f.traced ≡ h.traced = one_outlines h.fills f.traced h.traced (subst (λ x. AreTracedOf x f.traced) m p.are_traced) q.are_traced in
    let at_board : IsReport h.board f.fills f.traced f.report = subst (λ x. IsReport x f.fills f.traced f.report) b p.is_report in
    let at_fills : IsReport h.board h.fills f.traced f.report = subst (λ x. IsReport h.board x f.traced f.report) m at_board in
    let at_traced : IsReport h.board h.fills h.traced f.report = subst (λ x. IsReport h.board h.fills x f.report) t at_fills in
    let r : f.report ≡ h.report = one_report h.board h.fills h.traced f.report h.report at_traced q.is_report in
    let same : filled f.board f.fills f.traced f.report ≡ filled h.board h.fills h.traced h.report = cc in
    same

-- ---- the dirty set

both : (x y : Bool) → ((x ≡ true) ↔ (y ≡ true)) → x ≡ y
both true true h = refl
both true false h = sym (h.0 refl)
both false true h = h.1 refl
both false false h = refl

changed_same : (old new : Filled) (changed other : ℕ → Bool) → TellsChanged old new changed → TellsChanged old new other → changed ≡ other
changed_same old new changed other h g =
    λ i k. both (changed k) (other k) ((λ e. (g k).1 ((h k).0 e)), (λ e. (h k).1 ((g k).0 e))) i

one_count : (text : List ℕ) (edits : List Edit) (rules : Rules) (f : Filled) (n m : ℕ)
    → IsRefilled text edits rules f n → IsRefilled text edits rules f m → n ≡ m
one_count text edits rules f n m h k =
    let old : h.old ≡ k.old = one_filled text rules h.old k.old h.old_is k.old_is in
    let changed : h.changed ≡ k.changed = changed_same k.old f h.changed k.changed (subst (λ x. TellsChanged x f h.changed) old h.tells) k.tells in
    let members : (i : ℕ) → IsOneOf i h.dirty ↔ ((i < length (ranked f.board)) × IsInDirtySet text edits rules f.board k.changed i) =
    subst (λ c. (i : ℕ) → IsOneOf i h.dirty ↔ ((i < length (ranked f.board)) × IsInDirtySet text edits rules f.board c i)) changed h.members in
    let same : h.dirty ≡ k.dirty = same_sorted h.dirty k.dirty h.sorted k.sorted
    (λ i. ((λ x. (k.members i).1 ((members i).0 x)), (λ x. (members i).1 ((k.members i).0 x)))) in
    h.count ∙ ap length same ∙ sym k.count

-- ---- what is due, from the end of a run to its front

abbrev IsOne : (Due → Type 0) → Type 0
IsOne owes = (due other : Due) → owes due → owes other → due ≡ other

one_fill : (rules : Rules) (output text : List ℕ) → IsOne (OwesFill rules output text)
one_fill rules output text due other h k = h.2 ∙ ap (λ f. pass_with output (written text f) (reported f) f) (one_filled text rules h.0 k.0 h.1 k.1) ∙ sym k.2

one_said : (rules : Rules) (text : List ℕ) → IsOne (OwesReport rules text)
one_said rules text due other h k = h.2 ∙ ap (λ f. Pass None (reported f) (unjoined f.report.nets)) (one_filled text rules h.0 k.0 h.1 k.1) ∙ sym k.2

one_of_edits : (rules : Rules) (output text : List ℕ) (edits : List Edit) → IsOne (OwesEdits rules output text edits)
one_of_edits rules output text edits due other (inl h) (inl k) =
    let same = (one_fold text edits text text h.0 k.0 h.1 k.1).2 h.2 k.2 in
    h.3 ∙ ap (λ i. Refuse (EditRefused i h.1)) same.0 ∙ ap (λ r. Refuse (EditRefused k.0 r)) same.1 ∙ sym k.3
one_of_edits rules output text edits due other (inl h) (inr k) = absurd ((one_fold text edits k.0 k.0 h.0 h.0 h.1 h.1).1 k.3 h.2)
one_of_edits rules output text edits due other (inr h) (inl k) = absurd ((one_fold text edits h.0 h.0 k.0 k.0 k.1 k.1).1 h.3 k.2)
one_of_edits rules output text edits due other (inr h) (inr k) =
    let t : h.0 ≡ k.0 = (one_fold text edits h.0 k.0 0 0 NoStamp NoStamp).0 h.3 k.3 in
    let f : h.1 ≡ k.1 = one_filled k.0 rules h.1 k.1 (subst (λ x. IsFilled x rules h.1) t h.4) k.4 in
    let n : h.2 ≡ k.2 = one_count text edits rules k.1 h.2 k.2 (subst (λ x. IsRefilled text edits rules x h.2) f h.5) k.5 in
    h.6 ∙ ap (λ x. pass_with output (written x h.1) (refilled_text h.2 ++ reported h.1) h.1) t
    ∙ ap (λ x. pass_with output (written k.0 x) (refilled_text h.2 ++ reported x) x) f
    ∙ ap (λ x. pass_with output (written k.0 k.1) (refilled_text x ++ reported k.1) k.1) n ∙ sym k.6

one_of_script : (rules : Rules) (output text script : List ℕ) → IsOne (OwesScript rules output text script)
one_of_script rules output text script due other (inl h) (inl k) =
    let same = (one_script script [] [] h.0.line k.0.line h.0.kind k.0.kind).2 h.1 k.1 in
    h.2 ∙ ap (λ f. Refuse (BadScript f)) (same_edit_fault h.0 k.0 same.0 same.1) ∙ sym k.2
one_of_script rules output text script due other (inl h) (inr k) = absurd ((one_script script k.0 k.0 h.0.line h.0.line h.0.kind h.0.kind).0 k.1 h.1)
one_of_script rules output text script due other (inr h) (inl k) = absurd ((one_script script h.0 h.0 k.0.line k.0.line k.0.kind k.0.kind).0 h.1 k.1)
one_of_script rules output text script due other (inr h) (inr k) =
    let same : h.0 ≡ k.0 = (one_script script h.0 k.0 0 0 TooFewWords TooFewWords).1 h.1 k.1 in
    one_of_edits rules output text k.0 due other (subst (λ e. OwesEdits rules output text e due) same h.2) k.2

pub one_of_board : (then : List ℕ → Due → Type 0) (text : List ℕ) → IsOne (then text) → IsOne (OwesBoard then text)
one_of_board then text one due other (inl h) (inl k) =
    let same = same_fault text h.0.at k.0.at h.0.kind k.0.kind h.1 k.1 in
    h.2 ∙ ap (λ f. Refuse (BadText f)) (same_text_fault h.0 k.0 same.0 same.1) ∙ sym k.2
one_of_board then text one due other (inl h) (inr k) = absurd (no_fault text _ h.0.at h.0.kind k.1.spelt h.1)
one_of_board then text one due other (inr h) (inl k) = absurd (no_fault text _ k.0.at k.0.kind h.1.spelt k.1)
one_of_board then text one due other (inr h) (inr k) =
    let root : h.0 ≡ k.0 = one_root text h.0 k.0 h.1 k.1 in
    accepted k.0 (subst (λ r. OwesRoot then text r due) root h.2) k.2
  where
    accepted : (root : Item) → OwesRoot then text root due → OwesRoot then text root other → due ≡ other
    accepted root (inl a) (inl b) =
        let same = one_offence text root a.0.at b.0.at a.0.line b.0.line a.0.kind b.0.kind a.1 b.1 in
        a.2 ∙ ap (λ f. Refuse (Refused f)) (same_offence a.0 b.0 same.0 same.1 same.2) ∙ sym b.2
    accepted root (inl a) (inr b) = absurd (no_offence text root a.0.at a.0.line a.0.kind b.0 a.1)
    accepted root (inr a) (inl b) = absurd (no_offence text root b.0.at b.0.line b.0.kind a.0 b.1)
    accepted root (inr a) (inr b) = one due other a.1 b.1

pub one_of_file : (role : Role) (then : List ℕ → Due → Type 0) (text : List ℕ) → IsOne (then text) → IsOne (OwesFile role then text)
one_of_file role then text one due other (inl h) (inl k) = h.1 ∙ sym k.1
one_of_file role then text one due other (inl h) (inr k) = absurd (omega (arith, h.0, k.0))
one_of_file role then text one due other (inr h) (inl k) = absurd (omega (arith, h.0, k.0))
one_of_file role then text one due other (inr h) (inr k) = one due other h.1 k.1

one_generated : (seed size : ℕ) (output : List ℕ) → IsOne (OwesGenerated seed size output)
one_generated seed size output due other h k =
    h.2 ∙ ap (λ f. pass_with output (written (generated seed size) f) (summary_of seed size f) f) (one_filled (generated seed size) default_rules h.0 k.0 h.1 k.1) ∙ sym k.2

one_of_command : (command : Command) (s : Seen) → IsOne (OwesCommand command s)
one_of_command (commands.Fill input output threads rules) s =
    one_of_file In (OwesBoard (OwesFill rules output)) (content input s) (one_of_board (OwesFill rules output) (content input s) (one_fill rules output (content input s)))
one_of_command (commands.Refill input edits output threads rules) s =
    let then : List ℕ → Due → Type 0 = λ text due. OwesFile Edits (OwesScript rules output text) (content edits s) due in
    one_of_file In (OwesBoard then) (content input s) (one_of_board then (content input s)
    (one_of_file Edits (OwesScript rules output (content input s)) (content edits s) (one_of_script rules output (content input s) (content edits s))))
one_of_command (commands.Report input rules) s =
    one_of_file In (OwesBoard (OwesReport rules)) (content input s) (one_of_board (OwesReport rules) (content input s) (one_said rules (content input s)))
one_of_command (commands.Generate seed size output) s = one_generated seed size output

pub one_each : HasOneEach all_duties
one_each command s due other h k = one_of_command command s due other h k

-- ---- any duties

one_of_words : (owes : Command → Seen → Due → Type 0) → ((command : Command) (s : Seen) → IsOne (owes command s)) → (w : Wanted) (s : Seen) → IsOne (OwesWords owes w s)
one_of_words owes one (Wrong fault) s due other h k = h ∙ sym k
one_of_words owes one (Run command) s due other h k = one command s due other h k

has_one : (d : Duties) → HasOneEach d → HasOneDue d
unfolding IsDue
has_one d one words s due other h k = one_of_words d.Owes one (d.asked words) s due other h k

is_pass : (lines : ℕ) (file : Option File) (said : List ℕ) (due : Due) → Pass file said lines ≡ due → IsAnswerTo (Done lines) due
is_pass lines file said due e = subst (IsAnswerTo (Done lines)) e refl

answers : (d : Duties) → HasOneDue d → AnswersDue d
answers d one (Done lines) words s t due l f h = is_pass lines l.0 l.1 due (one words s (Pass l.0 l.1 lines) due l.2 h)
answers d one (Usage fault) words s t due l f h = one words s due (Refuse (Usage fault)) h l.0
answers d one (TooLong role taken) words s t due l f h = one words s due (Refuse (TooLong role taken)) h l.0
answers d one (BadText fault) words s t due l f h = one words s due (Refuse (BadText fault)) h l.0
answers d one (Refused offence) words s t due l f h = one words s due (Refuse (Refused offence)) h l.0
answers d one (BadScript fault) words s t due l f h = one words s due (Refuse (BadScript fault)) h l.0
answers d one (EditRefused index refusal) words s t due l f h = one words s due (Refuse (EditRefused index refusal)) h l.0
answers d one (Unreadable role) words s t due l f h = absurd (f tt)
answers d one (Unwritten given) words s t due l f h = absurd (f tt)
answers d one (Unsaid given) words s t due l f h = absurd (f tt)
answers d one Memory words s t due l f h = tt

pub duties : DutiesLaw
duties d one = (has_one d one, answers d (has_one d one))

-- ---- the whole program

pub one_due : OneDueLaw
one_due words s due other h k = (duties all_duties one_each).0 words s due other h k

pub quiet_no_fault : (answer : Ended) (before now : Counts) → IsCaused answer before now → IsQuiet before now → IsDeskFault answer → ⊥
quiet_no_fault (Unreadable role) before now c q f = q.reading c
quiet_no_fault (Unwritten given) before now c q f = q.writing c
quiet_no_fault (Unsaid given) before now c q f = q.saying c
quiet_no_fault (Done lines) before now c q f = f
quiet_no_fault (Usage fault) before now c q f = f
quiet_no_fault (TooLong role taken) before now c q f = f
quiet_no_fault (BadText fault) before now c q f = f
quiet_no_fault (Refused offence) before now c q f = f
quiet_no_fault (BadScript fault) before now c q f = f
quiet_no_fault (EditRefused index refusal) before now c q f = f
quiet_no_fault Memory before now c q f = f

pub answers_due : AnswersDueLaw
answers_due answer words before now s t due l c q h =
    (duties all_duties one_each).1 answer words s t due l (quiet_no_fault answer before now c q) h
