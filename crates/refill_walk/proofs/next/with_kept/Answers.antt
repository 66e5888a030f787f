use Rattle.std.proofs.Common.{◌≡◌, ◌∙◌, sym, subst, ◌<◌, length, map, arith}
use Rattle.std.proofs.lemmas.List.{length-map}
use Rattle.std.proofs.lemmas.Result.{IfOk-weaker}
use Rattle.std.specs.Arc.{arc_value}
use Rattle.fill_rules.specs.Tasks.{ranked}
use Rattle.refill_laws.specs.Walked.{is_set}
use Rattle.refill_walk.specs.Inner.Walk.{IsFilledAgain}
use Rattle.refill_walk.proofs.Places.{task_count}
use Rattle.refill_walk.proofs.Steps.{kept_next, one_longer}
use Rattle.refill_walk.proofs.Results.{ok_three}
use Rattle.refill_walk.proofs.next.with_kept.Goals as goal

pub returns-clause-walked : goal.returns-clause-walked
returns-clause-walked c =
    let e = c.args.it.now in
    let h = c.requires.edited in
    let fills = c.args.walk.fills in
    let r : c.len-rank.result ≡ length fills.items = omega (arith, c.len-rank.ensures, fills.ok) in
    let m = task_count e.board.now.board e.tasks.now h.order in
    let l : c.len-rank.result < length (ranked e.board.now.board) = omega (arith, m, r, c.requires.more) in
    ok_three c.with_fill.result _ _ _ _ (λ w f g n.
    kept_next e.filled.now.board e.board.now.board (map arc_value e.olds.now) (is_set e.flags.now) (map arc_value fills.items) c.args.walk.changed.items c.args.walk.count
    c.requires.walked c.len-rank.result (length-map fills.items arc_value ∙ sym r) h.sound_before h.sound h.flagged h.right l
    (subst (λ k. IsFilledAgain e.board.now.board (is_set e.flags.now) c.args.walk.changed.items k → ⊥) (sym r) c.requires.stays)
    (arc_value c.in_ok-fill.fill) (c.in_ok-fill.ensures ∙ c.old_fill.ensures) (map arc_value w.fills.items) w.changed.items f g w.count n)
    c.with_fill.ensures.fills c.with_fill.ensures.changed c.with_fill.ensures.count

pub returns-clause-longer : goal.returns-clause-longer
returns-clause-longer c =
    IfOk-weaker c.with_fill.result _ _ (λ w f. one_longer arc_value c.args.walk.fills.items w.fills.items _ f) c.with_fill.ensures.fills
