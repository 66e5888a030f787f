use Rattle.std.proofs.Common.{subst, ◌∷◌, []}
use Rattle.std.proofs.lemmas.Result.{err_from_is_err_and}
use Rattle.board_items.specs.Known.{context}
use Rattle.std.specs.List.{flat_map}
use Rattle.board_text.specs.Lists.{lists_of}
use Rattle.board_text.specs.Things.{with_own, items_of_board}
use Rattle.board_model.specs.State.{nothing_read_yet}
use Rattle.board_model.specs.Run.{AreRead, IsStop, the_board}
use Rattle.board_model.proofs.Running.{err_kept, read_both, stop_front, stop_behind}
use Rattle.board_model.proofs.items.read_all.Goals as goal

pub returns-in_err-try_root-clause-err : goal.returns-in_err-try_root-clause-err
unfolding items_of_board
returns-in_err-try_root-clause-err c =
    let p = err_from_is_err_and c.from_residual.result c.from_residual.ensures.1 in
    err_kept c.from_residual.result _ _ _ p.1 p.2
    (stop_front (context c.args.root.now.bytes c.args.known.now) nothing_read_yet (the_board c.args.root.now.item ∷ []) (flat_map (with_own c.args.root.now.bytes) (lists_of c.args.root.now.item)) _ c.in_err-try_root.ensures.err)

pub returns-in_err-read_lists-clause-err : goal.returns-in_err-read_lists-clause-err
unfolding items_of_board
returns-in_err-read_lists-clause-err c =
    let ctx = context c.args.root.now.bytes c.args.known.now in
    let lists = flat_map (with_own c.args.root.now.bytes) (lists_of c.args.root.now.item) in
    let p = err_from_is_err_and c.from_residual-in_err-read_lists.result c.from_residual-in_err-read_lists.ensures.1 in
    err_kept c.from_residual-in_err-read_lists.result _ _ _ p.1 p.2
    (stop_behind ctx nothing_read_yet nothing_read_yet (the_board c.args.root.now.item ∷ []) lists _ c.in_ok-try_root.ensures.ok
    (subst (λ s. IsStop ctx s lists c.in_err-read_lists.field-0.0) c.new-reading.ensures c.in_err-read_lists.ensures.err))

pub returns-clause-ok : goal.returns-clause-ok
unfolding items_of_board
returns-clause-ok c =
    let ctx = context c.args.root.now.bytes c.args.known.now in
    let lists = flat_map (with_own c.args.root.now.bytes) (lists_of c.args.root.now.item) in
    read_both ctx nothing_read_yet nothing_read_yet c.read_lists.new.self (the_board c.args.root.now.item ∷ []) lists c.in_ok-try_root.ensures.ok
    (subst (λ s. AreRead ctx s lists c.read_lists.new.self) c.new-reading.ensures c.in_ok-read_lists.ensures.ok)
