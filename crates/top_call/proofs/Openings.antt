-- What is due of a board that is opened and drawn, and how many steps it took.
use Rattle.std.proofs.Common.{◌≡◌, ◌∙◌, sym, ap, subst, inl, inr, ℕ, ◌+◌, ◌<◌, arith, length, List, None, Some}
use Rattle.desk.specs.Seen.{Seen, content}
use Rattle.board_language.specs.declared.board.Rules.{Rules}
use Rattle.fill_rules.specs.Tasks.{ranked}
use Rattle.edit_language.specs.Edited.{IsBoardOf}
use Rattle.board_gen.specs.Generated.{generated}
use Rattle.output_rules.specs.Report.{summary_text}
use Rattle.run_rules.specs.Items.{items_in}
use Rattle.run_rules.specs.Filled.{Filled, IsFilled, written, reported}
use Rattle.run_rules.specs.declared.words.Command.{Command}
use Rattle.run_rules.specs.declared.words.Command.TheVariants.{Fill, Refill, Report, Generate}
use Rattle.run_rules.specs.Words.{GivenWord, default_rules}
use Rattle.run_rules.specs.Due.{IsDue, OwesFill, OwesReport, summary_of, pass_with}
use Rattle.run_rules.specs.Due.Due.{Pass}
use Rattle.output_rules.specs.Report.{unjoined}
use Rattle.top_call.specs.declared.drawn.Outcome.{Outcome}
use Rattle.top_call.specs.declared.opened.Opened.{Opened}
use Rattle.top_call.specs.declared.opened.Purpose.TheVariants.{Write, Tell, Sum}
use Rattle.top_call.specs.declared.passing.Passing.{Passing}
use Rattle.top_call.specs.Today.{OwesToday, today}
use Rattle.top_call.specs.Opened.{IsRead, IsMade, IsOpened, IsOpening}
use Rattle.top_call.specs.Passed.{IsOutcome, IsPassingOf, IsSaidFor, IsSummary, due_of, file_of, file_with, file_due}
use Rattle.top_call.specs.Steps.{TakesSteps, CommandTakes, WorkersTake, IsTakenBy}
use Rattle.top_call.proofs.Boards.{filled_of, is_filled}
use Rattle.top_call.proofs.Owes.{owes_command}
use Rattle.top_call.proofs.Stops.{owes_text}

-- ---- what is due

fill_due : (input output : List ℕ) (threads : ℕ) (rules : Rules) (s : Seen) (opened : Opened) (o : Outcome) (p : Passing) → IsRead input rules s opened → opened.purpose ≡ Write output
    → IsOutcome opened.board.board o → IsPassingOf opened o p → OwesToday (Fill input output threads rules) s (due_of p)
fill_due input output threads rules s opened o p r e h q =
    let f : Filled = filled_of opened.board.board o h in
    let file : file_of p ≡ Some (file_with output opened o) = q.file ∙ ap (λ k. file_due k opened o) e in
    let said : p.said.items ≡ o.report.bytes.items = subst (λ k. IsSaidFor k o p.said.items) e q.said in
    let all : due_of p ≡ pass_with output (written opened.text.items f) (reported f) f = λ i. Pass (file i) ((said ∙ h.is_report.text) i) ((q.lines ∙ h.is_report.count) i) in
    owes_text (OwesFill rules output) opened.text.items (content input s) (due_of p) r.text r.short
    (inr (r.board.root, r.board.is_root, inr (r.board.accepted, (f, is_filled opened.text.items rules opened.board.board o r.board h, all))))

report_due : (input : List ℕ) (rules : Rules) (s : Seen) (opened : Opened) (o : Outcome) (p : Passing) → IsRead input rules s opened → opened.purpose ≡ Tell
    → IsOutcome opened.board.board o → IsPassingOf opened o p → OwesToday (Report input rules) s (due_of p)
report_due input rules s opened o p r e h q =
    let f : Filled = filled_of opened.board.board o h in
    let file : file_of p ≡ None = q.file ∙ ap (λ k. file_due k opened o) e in
    let said : p.said.items ≡ o.report.bytes.items = subst (λ k. IsSaidFor k o p.said.items) e q.said in
    let all : due_of p ≡ Pass None (reported f) (unjoined f.report.nets) = λ i. Pass (file i) ((said ∙ h.is_report.text) i) ((q.lines ∙ h.is_report.count) i) in
    owes_text (OwesReport rules) opened.text.items (content input s) (due_of p) r.text r.short
    (inr (r.board.root, r.board.is_root, inr (r.board.accepted, (f, is_filled opened.text.items rules opened.board.board o r.board h, all))))

generate_due : (seed size : ℕ) (output : List ℕ) (s : Seen) (opened : Opened) (o : Outcome) (p : Passing) → IsMade seed size opened → opened.purpose ≡ Sum output (items_in seed size)
    → IsOutcome opened.board.board o → IsPassingOf opened o p → OwesToday (Generate seed size output) s (due_of p)
generate_due seed size output s opened o p m e h q =
    let f : Filled = filled_of opened.board.board o h in
    let file : file_of p ≡ Some (file_with output opened o) = q.file ∙ ap (λ k. file_due k opened o) e in
    let said : IsSummary (items_in seed size) o p.said.items = subst (λ k. IsSaidFor k o p.said.items) e q.said in
    let lines : p.said.items ≡ summary_of seed size f = said.line ∙ (λ i. summary_text (items_in seed size) (said.are.polygons i) (said.are.area2 i) (h.is_report.count i)) in
    let all : due_of p ≡ pass_with output (written opened.text.items f) (summary_of seed size f) f = λ i. Pass (file i) (lines i) ((q.lines ∙ h.is_report.count) i) in (
      f,
      subst (λ t. IsFilled t default_rules f) m.text (is_filled opened.text.items default_rules opened.board.board o m.board h),
      all ∙ ap (λ t. pass_with output (written t f) (summary_of seed size f) f) m.text,
    )

command_due : (command : Command) (s : Seen) (opened : Opened) (o : Outcome) (p : Passing) → IsOpened command s opened → IsOutcome opened.board.board o → IsPassingOf opened o p
    → OwesToday command s (due_of p)
command_due (Fill input output threads rules) s opened o p g h q = fill_due input output threads rules s opened o p g.0 g.1 h q
command_due (Refill input edits output threads rules) s opened o p g h q = absurd g
command_due (Report input rules) s opened o p g h q = report_due input rules s opened o p g.0 g.1 h q
command_due (Generate seed size output) s opened o p g h q = generate_due seed size output s opened o p g.0 g.1 h q

pub opening_due : (words : List GivenWord) (s : Seen) (opened : Opened) (o : Outcome) (p : Passing) → IsOpening words s opened → IsOutcome opened.board.board o → IsPassingOf opened o p
    → IsDue today words s (due_of p)
opening_due words s opened o p g h q = owes_command words s g.command (due_of p) g.asked (command_due g.command s opened o p g.opened h q)

-- ---- steps

read_takes : (input : List ℕ) (rules : Rules) (s : Seen) (opened : Opened) (before now : ℕ) → IsRead input rules s opened → now ≡ before + length (ranked opened.board.board)
    → TakesSteps (content input s) rules before now
read_takes input rules s opened before now r e = (opened.board.board, subst (λ t. IsBoardOf t rules opened.board.board) r.text r.board, e)

made_takes : (seed size : ℕ) (opened : Opened) (before now : ℕ) → IsMade seed size opened → now ≡ before + length (ranked opened.board.board)
    → TakesSteps (generated seed size) default_rules before now
made_takes seed size opened before now m e = (opened.board.board, subst (λ t. IsBoardOf t default_rules opened.board.board) m.text m.board, e)

pub takes_single : (command : Command) (s : Seen) (opened : Opened) (before now : ℕ) → IsOpened command s opened → now ≡ before + length (ranked opened.board.board) → CommandTakes command s before now
takes_single (Fill input output threads rules) s opened before now g e = read_takes input rules s opened before now g.0 e
takes_single (Refill input edits output threads rules) s opened before now g e = absurd g
takes_single (Report input rules) s opened before now g e = read_takes input rules s opened before now g.0 e
takes_single (Generate seed size output) s opened before now g e = made_takes seed size opened before now g.0 e

-- one worker is no more than one
not_more : {A : Type 0} (workers : ℕ) → workers ≡ 1 → 1 < workers → A
not_more workers one more = absurd (omega (arith, one, more))

pub takes_beside : (command : Command) (s : Seen) (opened : Opened) (before now : ℕ) → IsOpened command s opened → IsTakenBy opened.workers (length (ranked opened.board.board)) before now
    → WorkersTake command s before now
takes_beside (Fill input output threads rules) s opened before now g (inl t) = inl (sym g.2 ∙ t.0, read_takes input rules s opened before now g.0 t.1)
takes_beside (Fill input output threads rules) s opened before now g (inr t) = inr (subst (λ n. 1 < n) g.2 t.0, t.1)
takes_beside (Refill input edits output threads rules) s opened before now g t = absurd g
takes_beside (Report input rules) s opened before now g (inl t) = read_takes input rules s opened before now g.0 t.1
takes_beside (Report input rules) s opened before now g (inr t) = not_more opened.workers g.2 t.0
takes_beside (Generate seed size output) s opened before now g (inl t) = made_takes seed size opened before now g.0 t.1
takes_beside (Generate seed size output) s opened before now g (inr t) = not_more opened.workers g.2 t.0
