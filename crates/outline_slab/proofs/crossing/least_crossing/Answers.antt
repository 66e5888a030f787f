use Rattle.std.proofs.Common.{ℕ, arith, below_more, length}
use Rattle.outline_slab.specs.Inner.Search.{MissesLater}
use Rattle.outline_slab.proofs.LeastPair.{better_later, least_found}
use Rattle.outline_slab.proofs.crossing.least_crossing.Goals as goal

pub place-preserved : goal.place-preserved
place-preserved c =
    let cs = c.args.corners.now in
    let rows = c.in_ok-rows.rows.items in
    let best = c.with_later-best.result in
    let P : ℕ → Type 0 = λ u. MissesLater cs rows best u (length rows) in
    let here = rw c.deref.ensures.value at c.with_later-best.ensures.missed in
    let all = below_more P c.place.place (λ u l. better_later cs rows c.place.best best u (length rows) c.with_later-best.ensures.better (c.place.invariant.missed u l)) here in
    record { found = c.with_later-best.ensures.better.found; missed = λ u l. all u l }

pub returns : goal.returns
returns c =
    least_found c.args.corners.now c.in_ok-rows.rows.items c.place.best c.in_ok-rows.ensures c.place.invariant.found (λ u l. c.place.invariant.missed u (omega arith))
