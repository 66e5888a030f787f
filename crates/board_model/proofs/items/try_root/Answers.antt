use Rattle.std.proofs.Common.{◌∙◌, ap}
use Rattle.std.proofs.lemmas.Result.{IfOk-weaker, IfErr-weaker}
use Rattle.board_text.specs.Items.{line_of}
use Rattle.board_items.specs.Known.{context}
use Rattle.board_model.specs.State.{nothing_read_yet}
use Rattle.board_model.specs.Run.{the_board}
use Rattle.board_model.proofs.Running.{root_tried, read_one, stop_one}
use Rattle.board_model.proofs.items.try_root.Goals as goal

pub returns-clause-ok : goal.returns-clause-ok
returns-clause-ok c =
    IfOk-weaker c.stopped.result _ _
    (λ x e.
    read_one (context c.args.root.now.bytes c.args.known.now) nothing_read_yet (the_board c.args.root.now.item) nothing_read_yet c.in_ok-kind.kind
    (root_tried (context c.args.root.now.bytes c.args.known.now) c.args.root.now.item c.in_ok-kind.kind c.in_ok-kind.ensures) e)
    c.stopped.ensures.ok

pub returns-clause-err : goal.returns-clause-err
returns-clause-err c =
    IfErr-weaker c.stopped.result _ _
    (λ e h.
    stop_one (context c.args.root.now.bytes c.args.known.now) nothing_read_yet (the_board c.args.root.now.item) nothing_read_yet c.in_ok-kind.kind c.line_of-line.result e
    (root_tried (context c.args.root.now.bytes c.args.known.now) c.args.root.now.item c.in_ok-kind.kind c.in_ok-kind.ensures)
    (c.line_of-line.ensures.line ∙ ap (λ bytes. line_of bytes c.span.result.from) c.requires.text ∙ ap (line_of c.args.root.now.bytes) c.span.ensures.from) h)
    c.stopped.ensures.err
