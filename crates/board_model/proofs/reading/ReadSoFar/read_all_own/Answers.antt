use Rattle.std.proofs.Common.{◌∙◌, ap, sym, subst, arith, List, ◌∷◌, []}
use Rattle.std.proofs.lemmas.Result.{err_from_is_err_and}
use Rattle.sexpr_text.specs.Items.{Item}
use Rattle.board_text.specs.Lists.{lists_of}
use Rattle.board_text.specs.Things.{Placed}
use Rattle.board_model.specs.Run.{AreRead, IsStop, in_the_footprint}
use Rattle.board_items.specs.Known.{context}
use Rattle.board_model.proofs.Running.{err_kept, read_none}
use Rattle.board_model.proofs.Parts.{all_of, next_read, stop_read, all_read, bytes_are, items_are, each_alone}
use Rattle.board_model.proofs.reading.ReadSoFar.read_all_own.Goals as goal

pub each-init : goal.each-init
each-init c = record { read = read_none (context c.args.footprint.now.bytes c.args.known.now) c.args.self.now; text = c.requires.text }

pub read_own-requires-clause-text : goal.read_own-requires-clause-text
read_own-requires-clause-text c =
    let are = c.deref-item-items.ensures.value ∙ c.in_ok-lists.ensures in
    let is_text = bytes_are c.args.footprint.now.bytes (lists_of c.args.footprint.now.item) c.deref-item-items.result.now c.each.item-index c.item-item.result are c.each-test.true c.item-item.is in
    c.each.invariant.text ∙ sym is_text

pub read_own-requires-clause-same : goal.read_own-requires-clause-same
read_own-requires-clause-same c =
    let are = c.deref-item-items.ensures.value ∙ c.in_ok-lists.ensures in
    let is_text = bytes_are c.args.footprint.now.bytes (lists_of c.args.footprint.now.item) c.deref-item-items.result.now c.each.item-index c.item-item.result are c.each-test.true c.item-item.is in
    sym is_text

pub returns-in_err-read_own-clause-err : goal.returns-in_err-read_own-clause-err
returns-in_err-read_own-clause-err c =
    let bytes = c.args.footprint.now.bytes in
    let known = c.args.known.now in
    let h : Item → List Placed = λ i. in_the_footprint c.args.footprint.now.item i ∷ [] in
    let ps = c.deref-item-items.result.now in
    let are = c.deref-item-items.ensures.value ∙ c.in_ok-lists.ensures in
    let is_text = bytes_are bytes (lists_of c.args.footprint.now.item) ps c.each.item-index c.item-item.result are c.each-test.true c.item-item.is in
    let e = c.in_err-read_own.field-0.0 in
    let stop = subst (λ b. IsStop (context b known) c.each.self (in_the_footprint c.args.footprint.now.item c.item-item.result.item ∷ []) e) is_text c.in_err-read_own.ensures.err in
    let p = err_from_is_err_and c.from_residual-in_err-read_own.result c.from_residual-in_err-read_own.ensures.1 in
    err_kept c.from_residual-in_err-read_own.result e _ _ p.1 p.2
    (subst (λ qs. IsStop (context bytes known) c.args.self.now qs e) (ap (all_of h) are ∙ items_are h bytes (lists_of c.args.footprint.now.item) ∙ each_alone (in_the_footprint c.args.footprint.now.item) (lists_of c.args.footprint.now.item))
    (stop_read (context bytes known) c.args.self.now c.each.self h ps c.each.item-index c.item-item.result e c.each-test.true c.item-item.is c.each.invariant.read stop))

pub each-preserved : goal.each-preserved
each-preserved c =
    let bytes = c.args.footprint.now.bytes in
    let known = c.args.known.now in
    let h : Item → List Placed = λ i. in_the_footprint c.args.footprint.now.item i ∷ [] in
    let ps = c.deref-item-items.result.now in
    let are = c.deref-item-items.ensures.value ∙ c.in_ok-lists.ensures in
    let is_text = bytes_are bytes (lists_of c.args.footprint.now.item) ps c.each.item-index c.item-item.result are c.each-test.true c.item-item.is in
    let one = subst (λ b. AreRead (context b known) c.each.self (in_the_footprint c.args.footprint.now.item c.item-item.result.item ∷ []) c.read_own.new.self) is_text c.in_ok-read_own.ensures.ok in
    record {
      read = next_read (context bytes known) c.args.self.now c.each.self c.read_own.new.self h ps c.each.item-index c.item-item.result c.each-test.true c.item-item.is c.each.invariant.read one;
      text = c.read_own.ensures.text ∙ c.each.invariant.text;
    }

pub returns-clause-ok : goal.returns-clause-ok
returns-clause-ok c =
    let bytes = c.args.footprint.now.bytes in
    let known = c.args.known.now in
    let h : Item → List Placed = λ i. in_the_footprint c.args.footprint.now.item i ∷ [] in
    let ps = c.deref-item-items.result.now in
    let are = c.deref-item-items.ensures.value ∙ c.in_ok-lists.ensures in
    subst (λ qs. AreRead (context bytes known) c.args.self.now qs c.each.self) (ap (all_of h) are ∙ items_are h bytes (lists_of c.args.footprint.now.item) ∙ each_alone (in_the_footprint c.args.footprint.now.item) (lists_of c.args.footprint.now.item))
    (all_read (context bytes known) c.args.self.now c.each.self h ps c.each.item-index (omega (arith, c.each-test.false)) c.each.invariant.read)
