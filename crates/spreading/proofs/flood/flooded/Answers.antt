use Rattle.std.proofs.Common.{sym, subst, ◌<◌, length, arith}
use Rattle.std.specs.List.{All}
use Rattle.spreading.proofs.Flooding.{flooding_begun, flooding_turn, flooding_turn_falls, partly_more, member_within, linked_numbers, read_is}
use Rattle.spreading.proofs.flood.flooded.Goals as goal

pub each-init : goal.each-init
each-init g c =
    rw (c.in_ok-push.ensures.items, c.new-members.ensures.items)
    (flooding_begun (g.L.Links.count_of c.args.links.now) (g.L.Links.are_linked c.args.links.now) c.requires.links c.args.first c.args.labels.items c.requires.first c.requires.partly c.requires.bare)

pub linked-requires-clause-there : goal.linked-requires-clause-there
linked-requires-clause-there g c =
    let l : c.each.done < length c.each.members.items = omega (arith, c.each-test.true, c.len.ensures, c.each.members.ok) in
    subst (λ y. y < g.L.Links.count_of c.args.links.now) (read_is c.each.members.items c.each.done c.index.result.now l c.index.ensures)
    (member_within (g.L.Links.count_of c.args.links.now) (g.L.Links.are_linked c.args.links.now) c.args.first c.args.labels.items c.each.done c.each.members.items c.each.labels.items l c.each.invariant)

pub spread-requires-clause-linked : goal.spread-requires-clause-linked
spread-requires-clause-linked g c =
    rw c.deref.ensures.value (subst (λ n. All (λ j. j < n) c.linked.new.into.items) (sym c.each.invariant.many)
    (linked_numbers (g.L.Links.count_of c.args.links.now) (g.L.Links.are_linked c.args.links.now) c.requires.links _ c.linked.new.into.items c.in_ok-linked.ensures))

pub each-preserved : goal.each-preserved
each-preserved g c =
    let l : c.each.done < length c.each.members.items = omega (arith, c.each-test.true, c.len.ensures, c.each.members.ok) in
    flooding_turn (g.L.Links.count_of c.args.links.now) (g.L.Links.are_linked c.args.links.now) c.requires.links c.args.first c.args.labels.items c.requires.first c.requires.partly c.requires.bare
    c.each.done _ c.each.members.items c.each.labels.items c.linked.new.into.items _ _ _ l c.each.invariant c.index.ensures c.in_ok-linked.ensures c.deref.ensures.value c.in_ok-spread.ensures

pub each-smaller : goal.each-smaller
each-smaller g c =
    let l : c.each.done < length c.each.members.items = omega (arith, c.each-test.true, c.len.ensures, c.each.members.ok) in
    flooding_turn_falls (g.L.Links.count_of c.args.links.now) (g.L.Links.are_linked c.args.links.now) c.requires.links c.args.first c.args.labels.items c.requires.first c.requires.partly c.requires.bare
    c.each.done _ c.each.members.items c.each.labels.items c.linked.new.into.items _ _ _ l c.each.invariant c.index.ensures c.in_ok-linked.ensures c.deref.ensures.value c.in_ok-spread.ensures

pub returns : goal.returns
returns g c =
    partly_more (g.L.Links.count_of c.args.links.now) (g.L.Links.are_linked c.args.links.now) c.requires.links c.args.first c.args.labels.items c.requires.first c.requires.partly c.requires.bare
    c.each.members.items c.each.labels.items c.each.done (omega (arith, c.each-test.false, c.len.ensures, c.each.members.ok)) c.each.invariant
