use Rattle.std.proofs.Common.{◌<◌, sym, subst, map, List, ℕ, arith, length}
use Rattle.std.specs.List.{All}
use Rattle.std.specs.Arc.{arc_value}
use Rattle.std.proofs.lemmas.List.{get_or_read}
use Rattle.std.proofs.lemmas.List.Elements.{All-push}
use Rattle.output_rules.specs.Shown.{net_shown, IsNetInRange}
use Rattle.fill_text.specs.Inner.Alike.{AreSmallLabels}
use Rattle.fill_text.specs.Inner.Nets.{AreEachOnce, AreLinesOfNet}
use Rattle.fill_text.proofs.NetsSaid.{labels_up, nets_are, nets_more, nets_end}
use Rattle.fill_text.proofs.lines_of_nets.net_lines.Goals as goal

pub next_alike-requires : goal.next_alike-requires
next_alike-requires c = subst AreSmallLabels (sym c.deref.ensures.value) (labels_up c.args.board.now.board (map arc_value c.args.fills.now) _ c.requires.labelling.clusters)

pub each-preserved : goal.each-preserved
each-preserved c =
    let b = c.args.board.now.board in
    let fs = map arc_value c.args.fills.now in
    let labels = c.args.labelling.now.label.items in
    let nets = c.in_ok-nets.nets.items in
    let l : c.each.k < length c.in_ok-nets.nets.items = omega (arith, c.each-test.true, c.len-k-end.ensures, c.in_ok-nets.nets.ok) in
    let e = c.in_ok-push.ensures.items in
    record {
      lines = nets_more net_shown b fs labels nets c.each.k c.each.lines.items c.push.new.self.items c.in_ok-line.line l c.each.invariant.lines
          (subst (λ (n : ℕ). AreLinesOfNet b fs labels n (net_shown c.in_ok-line.line)) (get_or_read nets c.each.k c.index.result.now l c.index.ensures 0) c.in_ok-line.ensures.lines) e;
      range = subst (All IsNetInRange) (sym e) (All-push IsNetInRange c.each.lines.items c.in_ok-line.line c.each.invariant.range c.in_ok-line.ensures.range);
    }

pub returns-clause-lines : goal.returns-clause-lines
returns-clause-lines c =
    let b = c.args.board.now.board in
    let fs = map arc_value c.args.fills.now in
    nets_end net_shown b fs c.args.labelling.now.label.items c.in_ok-nets.nets.items _ c.each.k c.each.lines.items (omega (arith, c.each-test.false, c.len-k-end.ensures, c.in_ok-nets.nets.ok))
    (nets_are c.nets_law.ensures b fs c.args.labelling.now.nets.items c.in_ok-nets.nets.items c.requires.labelling.nets (subst (λ (ns : List ℕ). AreEachOnce ns c.in_ok-nets.nets.items) c.deref-2.ensures.value c.in_ok-nets.ensures))
    c.each.invariant.lines
