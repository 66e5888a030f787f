use Rattle.std.proofs.Common.{◌≡◌, ◌∙◌, ap, sym, ℕ, ◌<◌, inl, inr, arith, below_more, get_or}
use Rattle.std.specs.Prelude.{◌<ℤ◌}
use Rattle.std.proofs.lemmas.Bool.{cases_lt}
use Rattle.outline_slab.specs.Inner.Search.{Misses}
use Rattle.outline_slab.specs.declared.rows.Row.{Row}
use Rattle.outline_slab.proofs.LeastPair.{better_trans, better_later, apart_later, index_read}
use Rattle.outline_slab.proofs.crossing.with_later.Goals as goal

pub returns-then-is_above-clause-missed : goal.returns-then-is_above-clause-missed
returns-then-is_above-clause-missed c = λ v d h g. elim (cases_lt v c.later.later) [
  | inl l ↦ c.later.invariant.missed v d h l
  | inr l ↦
      (let rows = c.args.rows.now in
      let e = c.index-rows-place.result in
      let f = c.index-rows-later.result in
      let above : (get_or rows c.args.place e).bottom <ℤ (get_or rows c.later.later f).top
      = rw (sym c.index-rows-place.is, sym c.index-rows-later.is) (c.is_above.ensures.0 c.if-is_above.true) in
      apart_later c.args.corners.now rows c.later.best c.args.place c.later.later v d e f c.requires.rows c.requires.within l g above)
]

pub later-preserved : goal.later-preserved
later-preserved c =
    let cs = c.args.corners.now in
    let rows = c.args.rows.now in
    let u = c.args.place in
    let best = c.with_rows-best.result in
    let e = c.index-rows-place.result in
    let f = c.index-rows-later-in-later.result in
    let index : Row → ℕ = λ r. r.index in
    let old = better_later cs rows c.later.best best u c.later.later c.with_rows-best.ensures.better c.later.invariant.missed in
    let P : ℕ → Type 0 = λ v. (d : Row) → u < v → Misses cs best (get_or rows u d).index (get_or rows v d).index × Misses cs best (get_or rows v d).index (get_or rows u d).index in
    let here : P c.later.later = λ d h.
    let x : e.index ≡ (get_or rows u d).index = ap index c.index-rows-place.is ∙ index_read rows u d e c.requires.within in
    let y : f.index ≡ (get_or rows c.later.later d).index = ap index c.index-rows-later-in-later.is ∙ index_read rows c.later.later d f c.later-test.true in
    rw (← x, ← y) c.with_rows-best.ensures.missed in
    let all = below_more P c.later.later (λ v l d h. old v d h l) here in
    record {
      better = better_trans cs c.args.best c.later.best best c.later.invariant.better c.with_rows-best.ensures.better;
      missed = λ v d h g. all v g d h;
    }

pub returns-clause-missed : goal.returns-clause-missed
returns-clause-missed c = λ v d h g. c.later.invariant.missed v d h (omega arith)
