use Rattle.outline_slab.proofs.Simple.{all_in_span}
use Rattle.outline_slab.proofs.Outline.covers.Goals as goal

pub is_covered-requires-clause-span : goal.is_covered-requires-clause-span
is_covered-requires-clause-span c = rw c.as_slice.ensures.value (all_in_span c.self.inside.vertices.items c.self.invariant.0.within)
