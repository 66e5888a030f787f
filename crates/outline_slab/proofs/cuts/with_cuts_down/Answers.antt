use Rattle.std.proofs.Common.{◌≡◌, refl, sym, arith, rules}
use Rattle.std.proofs.lemmas.Int.{ints}
use mir.Val.{to_z, of_z}
use mir.Syntax.{w64}
use Rattle.slabs.proofs.Cutting.{begin_law}
use Rattle.outline_slab.specs.Inner.Side.{side_edge}
use Rattle.outline_slab.specs.Cuts.{all_edges}
use Rattle.outline_slab.proofs.Sides.{part_reached, part_octilinear, some_row, smaller, step, last, neighbours_same, one_same}
use Rattle.outline_slab.proofs.cuts.with_cuts_down.Goals as goal

pub row-init : goal.row-init
row-init c =
    let rows = c.args.rows.now in
    let s = c.args.side in
    let reach = c.requires.sound.reached in
    let n = c.next_row-row.ensures in
    let e : to_z w64 (of_z w64 s.start.y) ≡ s.start.y = search (rules, arith, ints) in
    let f : c.next_row-row.result ≡ to_z w64 (of_z w64 c.next_row-row.result) = sym (search (rules, arith, ints)) in
    record {
      rest = begin_law rows (side_edge s) (all_edges c.args.cuts.items) c.requires.down c.requires.sound.octilinear c.requires.ends.0 c.requires.ends.1;
      finish = refl;
      after = omega (arith, ints, n.after, e, f);
      is = one_same rows _ _ f n.row;
      next = neighbours_same rows _ _ _ _ e f n.next;
    }

pub point_at-middle-requires-clause-reach : goal.point_at-middle-requires-clause-reach
point_at-middle-requires-clause-reach c =
    let p = c.row.invariant.rest.part in
    part_reached (side_edge c.args.side) (side_edge c.row.rest) p.line p.from p.to c.requires.sound.reached

pub point_at-middle-requires-clause-octilinear : goal.point_at-middle-requires-clause-octilinear
point_at-middle-requires-clause-octilinear c = part_octilinear (side_edge c.args.side) (side_edge c.row.rest) c.row.invariant.rest.part.line

pub next_row-row-requires-in-row-clause-some : goal.next_row-row-requires-in-row-clause-some
next_row-row-requires-in-row-clause-some c = some_row c.args.rows.now _ c.args.side.finish.y (omega (arith, ints)) c.requires.ends.1

pub row-smaller : goal.row-smaller
row-smaller c =
    let rows = c.args.rows.now in
    let n = c.next_row-row-in-row.ensures in
    let f : c.next_row-row-in-row.result ≡ to_z w64 (of_z w64 c.next_row-row-in-row.result) = sym (search (rules, arith, ints)) in
    let e : to_z w64 c.row.row-bits ≡ to_z w64 c.row.row-bits = refl in
    smaller rows (to_z w64 c.row.row-bits) (to_z w64 (of_z w64 c.next_row-row-in-row.result)) c.args.side.finish.y c.requires.ends.1 (omega (arith, ints)) (omega (arith, ints, n.after, f)) (neighbours_same rows _ _ _ _ e f n.next)

pub row-preserved : goal.row-preserved
row-preserved c =
    let rows = c.args.rows.now in
    let m = c.point_at-middle.result in
    let h = c.point_at-middle.ensures.row in
    let n = c.next_row-row-in-row.ensures in
    let f : c.next_row-row-in-row.result ≡ to_z w64 (of_z w64 c.next_row-row-in-row.result) = sym (search (rules, arith, ints)) in
    record {
      rest = step rows c.args.side c.row.rest (all_edges c.args.cuts.items) c.row.cuts.items c.push.new.self.items m _ c.row.invariant.rest c.row.invariant.finish
          c.row.invariant.after (omega (arith, ints)) c.row.invariant.is c.row.invariant.next h c.point_at-middle.ensures.place c.in_ok-push.ensures.items;
      finish = refl;
      after = omega (arith, ints, n.after, f, h);
      is = one_same rows _ _ f n.row;
      next = neighbours_same rows _ _ _ _ (sym h) f n.next;
    }

pub returns : goal.returns
returns c =
    last c.args.rows.now c.args.side c.row.rest (all_edges c.args.cuts.items) c.row.cuts.items c.push-2.new.self.items _ c.row.invariant.rest c.row.invariant.finish
    (omega (arith, ints)) c.row.invariant.next c.in_ok-push-2.ensures.items
