use Rattle.std.proofs.Common.{◌∙◌, arith, ap, sym, option_map}
use Rattle.sexpr_text.specs.Items.{children_of}
use Rattle.board_text.specs.Fields.{text_of, texts_of}
use Rattle.board_text.proofs.Walks.{texts_more, texts_same, texts_all}
use Rattle.board_text.proofs.part.Part.texts.Goals as goal
use Rattle.board_text.proofs.part.Part.texts.Goals.{in-Some+in_ok-push, in_default}

pub each-preserved : goal.each-preserved
each-preserved c =
    let bytes = c.args.self.now.bytes in
    let xs = children_of c.args.self.now.item in
    let all = texts_of c.args.self.now.bytes c.args.self.now.item in
    let content = c.in_ok-text.ensures ∙ ap (λ b. text_of b c.child.result.item) c.child.ensures.bytes in
    elim c.match-branch-2.branch [
      | in-Some+in_ok-push w ↦ rw (w.texts-is, w.in_ok-push.ensures.items)
          (texts_more (λ t. t.items) bytes xs c.each.place c.each.texts.items all c.child.result.item w.in-Some.text (omega (arith, c.each-test.true, c.len-place-end.ensures)) c.child.ensures.item
          (ap (option_map (λ v. v.items)) (sym w.in-Some.is) ∙ content) c.each.invariant)
      | in_default w ↦ rw w.texts-is
          (texts_same (λ t. t.items) bytes xs c.each.place c.each.texts.items all c.child.result.item (omega (arith, c.each-test.true, c.len-place-end.ensures)) c.child.ensures.item
          (ap (option_map (λ v. v.items)) (sym w.in_default.is) ∙ content) c.each.invariant)
    ]

pub returns : goal.returns
returns c =
    texts_all (λ t. t.items) c.args.self.now.bytes (children_of c.args.self.now.item) c.each.place c.each.texts.items (texts_of c.args.self.now.bytes c.args.self.now.item)
    (omega (arith, c.each-test.false, c.len-place-end.ensures)) c.each.invariant
