use Rattle.outline_slab.proofs.Simple.{closed_chain, sound_chain}
use Rattle.outline_slab.proofs.Frames.{chain_edges}
use Rattle.outline_slab.proofs.Outline.inner.Goals as goal

pub covered_octs-requires-clause-closed : goal.covered_octs-requires-clause-closed
covered_octs-requires-clause-closed c =
    let e = chain_edges c.new.result.items c.in_ok-sides.sides.items c.deref.result.now c.as_slice.result.now c.self.inside.vertices.items c.new.ensures.items c.as_slice.ensures.value c.in_ok-sides.ensures c.deref.ensures.value in
    rw e (closed_chain c.self.inside.vertices.items c.self.invariant.0.simple)

pub covered_octs-requires-clause-sound : goal.covered_octs-requires-clause-sound
covered_octs-requires-clause-sound c =
    let e = chain_edges c.new.result.items c.in_ok-sides.sides.items c.deref.result.now c.as_slice.result.now c.self.inside.vertices.items c.new.ensures.items c.as_slice.ensures.value c.in_ok-sides.ensures c.deref.ensures.value in
    rw e (sound_chain c.self.inside.vertices.items c.self.invariant.0)
