use Rattle.outline_slab.specs.Inner.Search.{MissesLater, IsBetterFind}
use Rattle.outline_slab.proofs.crossing.with_later.Given as goal

abbrev pub invariant-later : goal.invariant-later
invariant-later l = record { better : IsBetterFind l.corners l.initial.best l.best; missed : MissesLater l.corners l.rows l.best l.place l.later }
