use Rattle.std.proofs.Common.{◌∙◌, ap}
use Rattle.std.proofs.lemmas.Result.{IfOk-weaker, IfErr-weaker}
use Rattle.board_text.specs.Items.{line_of}
use Rattle.board_text.specs.Things.{thing_of}
use Rattle.board_items.specs.Known.{context}
use Rattle.board_model.specs.Run.{on_the_board}
use Rattle.board_model.proofs.Running.{read_one, stop_one}
use Rattle.board_model.proofs.reading.ReadSoFar.read_list.Goals as goal

pub returns-clause-ok : goal.returns-clause-ok
unfolding thing_of
returns-clause-ok c =
    IfOk-weaker c.stopped.result _ _
    (λ x e. read_one (context c.args.item.now.bytes c.args.known.now) c.args.self.now (on_the_board c.args.item.now.item) c.try_list.new.self c.in_ok-kind.kind c.in_ok-kind.ensures e)
    c.stopped.ensures.ok

pub returns-clause-err : goal.returns-clause-err
unfolding thing_of
returns-clause-err c =
    IfErr-weaker c.stopped.result _ _
    (λ e h.
    stop_one (context c.args.item.now.bytes c.args.known.now) c.args.self.now (on_the_board c.args.item.now.item) c.try_list.new.self c.in_ok-kind.kind c.line_of-line.result e c.in_ok-kind.ensures
    (c.line_of-line.ensures.line ∙ ap (λ bytes. line_of bytes c.span.result.from) c.requires.text ∙ ap (line_of c.args.item.now.bytes) c.span.ensures.from) h)
    c.stopped.ensures.err
