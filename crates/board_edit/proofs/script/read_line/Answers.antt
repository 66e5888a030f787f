use Rattle.std.proofs.Common.{◌≡◌, ◌∙◌, ap, sym, map, length, arith}
use Rattle.edit_language.specs.Lines.{words_of, is_passed_over}
use Rattle.edit_language.specs.Forms as forms
use Rattle.board_edit.proofs.Readings.{line_at, passed, faulty, read, sound}
use Rattle.board_edit.proofs.script.read_line.Goals as goal

pub returns-then-is_passed_over-clause-read : goal.returns-then-is_passed_over-clause-read
returns-then-is_passed_over-clause-read c =
    let ws : map (λ word. word.now) c.deref.result.now ≡ words_of c.args.line.now = ap (map (λ word. word.now)) c.deref.ensures.value ∙ c.in_ok-words.ensures in
    λ others.
    passed c.args.edits.now.items c.args.number c.args.line.now others (ap is_passed_over (sym ws) ∙ sym c.is_passed_over.ensures ∙ c.if-is_passed_over.true)

pub returns-in-Some-clause-refused : goal.returns-in-Some-clause-refused
returns-in-Some-clause-refused c =
    let ws : map (λ word. word.now) c.deref.result.now ≡ words_of c.args.line.now = ap (map (λ word. word.now)) c.deref.ensures.value ∙ c.in_ok-words.ensures in
    let vs : map (λ word. word.now) c.deref-2.result.now ≡ words_of c.args.line.now = ap (map (λ word. word.now)) c.deref-2.ensures.value ∙ c.in_ok-words.ensures in
    let len : length c.args.edits.now.items ≡ c.len.result = omega (arith, c.len.ensures, c.args.edits.now.ok) in
    λ others.
    faulty c.args.edits.now.items c.args.number c.args.line.now others c.in-Some.kind (ap is_passed_over (sym ws) ∙ sym c.is_passed_over.ensures ∙ c.if-is_passed_over.false)
    (ap (λ n. forms.fault_of n (line_at c.args.number c.args.line.now)) len ∙ sym (c.fault_of.ensures (line_at c.args.number c.args.line.now) (sym vs)) ∙ c.in-Some.is)

pub edit_of-requires : goal.edit_of-requires
edit_of-requires c =
    let vs : map (λ word. word.now) c.deref-2.result.now ≡ words_of c.args.line.now = ap (map (λ word. word.now)) c.deref-2.ensures.value ∙ c.in_ok-words.ensures in
    let us : map (λ word. word.now) c.deref-3.result.now ≡ words_of c.args.line.now = ap (map (λ word. word.now)) c.deref-3.ensures.value ∙ c.in_ok-words.ensures in
    ap forms.words_fault us
    ∙ sound c.len.result (line_at c.args.number c.args.line.now) (sym (c.fault_of.ensures (line_at c.args.number c.args.line.now) (sym vs)) ∙ c.in_default.is)

pub returns-clause-read : goal.returns-clause-read
returns-clause-read c =
    let ws : map (λ word. word.now) c.deref.result.now ≡ words_of c.args.line.now = ap (map (λ word. word.now)) c.deref.ensures.value ∙ c.in_ok-words.ensures in
    let vs : map (λ word. word.now) c.deref-2.result.now ≡ words_of c.args.line.now = ap (map (λ word. word.now)) c.deref-2.ensures.value ∙ c.in_ok-words.ensures in
    let us : map (λ word. word.now) c.deref-3.result.now ≡ words_of c.args.line.now = ap (map (λ word. word.now)) c.deref-3.ensures.value ∙ c.in_ok-words.ensures in
    let len : length c.args.edits.now.items ≡ c.len.result = omega (arith, c.len.ensures, c.args.edits.now.ok) in
    λ others.
    read c.args.edits.now.items c.args.number c.args.line.now others c.in_ok-edit.edit c.push.new.self.items (ap is_passed_over (sym ws) ∙ sym c.is_passed_over.ensures ∙ c.if-is_passed_over.false)
    (ap (λ n. forms.fault_of n (line_at c.args.number c.args.line.now)) len ∙ sym (c.fault_of.ensures (line_at c.args.number c.args.line.now) (sym vs)) ∙ c.in_default.is)
    (c.in_ok-edit.ensures (line_at c.args.number c.args.line.now) (sym us))
    c.in_ok-push.ensures.items
