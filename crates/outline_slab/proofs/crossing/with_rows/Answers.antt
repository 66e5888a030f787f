use Rattle.std.proofs.lemmas.Bool.{iff_false}
use Rattle.outline_slab.proofs.Crossings.{turned_crossing}
use Rattle.outline_slab.proofs.LeastPair.{hulls_apart}
use Rattle.outline_slab.proofs.crossing.with_rows.Goals as goal

pub returns-then-not-meets-clause-missed : goal.returns-then-not-meets-clause-missed
returns-then-not-meets-clause-missed c =
    let cs = c.args.corners.now in
    let apart = iff_false c.meets.ensures c.if-not-meets.true in (
      λ o w b x. hulls_apart cs c.args.first.now c.args.second.now c.requires.first c.requires.second apart x,
      λ o w b x. hulls_apart cs c.args.first.now c.args.second.now c.requires.first c.requires.second apart (turned_crossing cs _ _ x),
    )
