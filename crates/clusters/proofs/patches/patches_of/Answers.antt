use Rattle.std.proofs.Common.{◌≡◌, ℕ, subst, sym, map, length, arith}
use Rattle.std.specs.List.{All}
use Rattle.std.specs.Arc.{arc_value}
use Rattle.std.proofs.lemmas.List.{length-map}
use Rattle.std.proofs.lemmas.List.Elements.{All-append, All-nil}
use Rattle.fill_rules.specs.Nodes.{nodes_of}
use Rattle.fill_rules.specs.Clusters.{node_net}
use Rattle.clusters.specs.Labelling.{node_of}
use Rattle.clusters.specs.Inner.Patches.{IsPatch}
use Rattle.clusters.specs.Inner.Copper.{AreNodePatches}
use Rattle.clusters.proofs.Joined.{patches_none, patches_more, net_read}
use Rattle.clusters.proofs.SamePoints.{read_shapes}
use Rattle.clusters.proofs.patches.patches_of.Goals as goal

pub each-init : goal.each-init
each-init c = rw (c.new-patches.ensures.items) (record {
  patches = patches_none c.args.board.now.board (map arc_value c.args.fills.now) (nodes_of c.args.board.now.board (map arc_value c.args.fills.now));
  each = All-nil (IsPatch (length c.args.nodes.now));
})

pub each-preserved : goal.each-preserved
each-preserved c =
    let b = c.args.board.now.board in
    let fs = map arc_value c.args.fills.now in
    let e = c.in_ok-append.ensures.items in
    record {
      patches = patches_more b fs c.copper_law.ensures (node_of b) c.args.nodes.now (nodes_of b fs) c.each.k _ _ c.layers_of.result c.in_ok-shapes.shapes.items c.deref-in-each.result.now
          c.each.patches.items c.in_ok-more.more.items c.append.new.self.items c.requires.nodes c.each-test.true
          (net_read (node_net b) (node_of b) c.args.nodes.now c.args.nets.now c.each.k _ c.requires.nets c.each-test.true) c.layers_of.ensures
          (read_shapes b fs c.requires.fills c.in_ok-stacks.stacks.items c.deref.result.now (length c.args.fills.now) _ c.in_ok-shapes.shapes.items (length-map c.args.fills.now arc_value)
          c.in_ok-stacks.ensures.stacks c.deref.ensures.value c.in_ok-shapes.ensures.shapes)
          c.deref-in-each.ensures.value c.in_ok-more.ensures.patches e c.each.invariant.patches;
      each = subst (All (IsPatch (length c.args.nodes.now))) (sym e)
          (All-append (IsPatch (length c.args.nodes.now)) c.each.patches.items c.in_ok-more.more.items c.each.invariant.each (c.in_ok-more.ensures.each (length c.args.nodes.now) c.each-test.true));
    }

pub returns-clause-patches : goal.returns-clause-patches
returns-clause-patches c =
    let e : c.each.k ≡ length c.args.nodes.now = omega (arith, c.each-test.false, c.each.auto.k-end) in
    subst (λ (n : ℕ). AreNodePatches c.args.board.now.board (map arc_value c.args.fills.now) (nodes_of c.args.board.now.board (map arc_value c.args.fills.now)) n c.each.patches.items) e
    c.each.invariant.patches
