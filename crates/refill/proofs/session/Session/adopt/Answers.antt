use Rattle.std.proofs.Common.{◌≡◌, ◌∙◌, sym, map, length, rules}
use Rattle.std.specs.Arc.{arc_value}
use Rattle.std.proofs.lemmas.List.{length-map}
use Rattle.refill.proofs.States.{filled_now, new_so}
use Rattle.refill.proofs.session.Session.adopt.Goals as goal

pub invariant_of-result : goal.invariant_of-result
invariant_of-result c =
    let n : length c.in_ok-dirty.dirty.items ≡ length c.args.fills.items = search rules in
    filled_now c.args.text.items c.args.board (map arc_value c.args.fills.items) c.in_ok-dirty.dirty.items c.requires.read c.requires.fills
    (n ∙ sym (length-map c.args.fills.items arc_value))

pub returns-clause-new : goal.returns-clause-new
returns-clause-new c =
    let n : length c.in_ok-dirty.dirty.items ≡ length c.args.fills.items = search rules in
    new_so c.args.text.items c.args.board (map arc_value c.args.fills.items) c.in_ok-dirty.dirty.items c.requires.fills
    (n ∙ sym (length-map c.args.fills.items arc_value)) c.in_ok-dirty.ensures.none
