use Rattle.std.proofs.Common.{◌≡◌, ◌++◌, drop}
use Rattle.std.specs.List.{All}
use Rattle.strips.specs.Inner.Merge.{merged, merged_from}
use Rattle.sheet_union.specs.Near.{IsNearStrip}
use Rattle.sheet_union.proofs.merge.put_merged.Given as goal

-- the strips so far, and those of the run in hand and the rest, are all
abbrev pub invariant-each : goal.invariant-each
invariant-each l = record {
  strips : l.out.items ++ merged_from l.last (drop l.i l.runs) ≡ l.fn.out.items ++ merged l.runs;
  last : IsNearStrip l.last;
  near : All (λ s. IsNearStrip s) l.fn.out.items → All (λ s. IsNearStrip s) l.out.items;
}
