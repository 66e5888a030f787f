use Rattle.std.proofs.Common.{◌≡◌, ◌∙◌, ap, sym, subst, cond, Bool, true, List, ◌∷◌, [], map}
use Rattle.std.proofs.lemmas.Result.{err_from_is_err_and}
use Rattle.board_text.specs.Lists.{lists_of}
use Rattle.board_text.specs.Things.{Placed, in_footprint}
use Rattle.board_items.specs.Known.{context}
use Rattle.board_model.specs.Run.{AreRead, IsStop, on_the_board, in_the_footprint}
use Rattle.board_model.proofs.Running.{err_kept, read_both, stop_front, stop_behind}
use Rattle.board_model.proofs.reading.ReadSoFar.read_with_own.Goals as goal

-- where the item is a footprint, its lists are read
footprint_own : (b : Bool) (ps : List Placed) → b ≡ true → ps ≡ cond b ps []
footprint_own b ps e = ap (λ t. cond t ps []) (sym e)

pub returns-in_err-read_list-clause-err : goal.returns-in_err-read_list-clause-err
returns-in_err-read_list-clause-err c =
    let p = err_from_is_err_and c.from_residual.result c.from_residual.ensures.1 in
    err_kept c.from_residual.result _ _ _ p.1 p.2
    (stop_front (context c.args.item.now.bytes c.args.known.now) c.args.self.now (on_the_board c.args.item.now.item ∷ []) (in_footprint c.args.item.now.bytes c.args.item.now.item) _ c.in_err-read_list.ensures.err)

pub returns-in_err-read_footprint-clause-err : goal.returns-in_err-read_footprint-clause-err
returns-in_err-read_footprint-clause-err c =
    let ctx = context c.args.item.now.bytes c.args.known.now in
    let own = map (in_the_footprint c.args.item.now.item) (lists_of c.args.item.now.item) in
    let p = err_from_is_err_and c.from_residual-in_err-read_footprint.result c.from_residual-in_err-read_footprint.ensures.1 in
    err_kept c.from_residual-in_err-read_footprint.result _ _ _ p.1 p.2
    (subst (λ ps. IsStop ctx c.args.self.now (on_the_board c.args.item.now.item ∷ ps) c.in_err-read_footprint.field-0.0) (footprint_own _ own (sym c.is_headed.ensures ∙ c.if-is_headed.true))
    (stop_behind ctx c.args.self.now c.read_list.new.self (on_the_board c.args.item.now.item ∷ []) own _ c.in_ok-read_list.ensures.ok c.in_err-read_footprint.ensures.err))

pub returns-in_ok-read_footprint-clause-ok : goal.returns-in_ok-read_footprint-clause-ok
returns-in_ok-read_footprint-clause-ok c =
    let ctx = context c.args.item.now.bytes c.args.known.now in
    let own = map (in_the_footprint c.args.item.now.item) (lists_of c.args.item.now.item) in
    subst (λ ps. AreRead ctx c.args.self.now (on_the_board c.args.item.now.item ∷ ps) c.read_footprint.new.self) (footprint_own _ own (sym c.is_headed.ensures ∙ c.if-is_headed.true))
    (read_both ctx c.args.self.now c.read_list.new.self c.read_footprint.new.self (on_the_board c.args.item.now.item ∷ []) own c.in_ok-read_list.ensures.ok c.in_ok-read_footprint.ensures.ok)
