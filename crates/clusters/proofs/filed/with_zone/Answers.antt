use Rattle.std.proofs.Common.{◌≡◌, ◌∙◌, ap, map, get_or, arith, ◌<◌, ◌+◌, ◌*◌, length, List, ℕ}
use Rattle.std.proofs.lemmas.List.{get_or_default}
use Rattle.board_language.specs.declared.board.Zone.{Zone}
use Rattle.fill_rules.specs.Tasks.{task_at, no_zone}
use Rattle.clusters.proofs.Ranks.{layer_step}
use Rattle.clusters.proofs.filed.with_zone.Goals as goal

pub each-preserved : goal.each-preserved
each-preserved c =
    let b = c.args.board.now.board in
    let few = c.sound.ensures.layers in
    let e : get_or c.zones.result.now c.args.zone c.index-zones-zone.result ≡ get_or b.zones c.args.zone no_zone =
    ap (λ (zs : List Zone). get_or zs c.args.zone c.index-zones-zone.result) c.zones.ensures ∙ get_or_default b.zones c.args.zone _ no_zone c.requires.zone in
    let n = ap (λ (ls : List (List ℕ)). length ls) c.layers.ensures in
    let l : c.each.layer < length b.layers = omega (arith, c.each-test.true, n, few) in
    let w = layer_step b c.args.table.now c.args.zone c.each.layer _ _ c.has_layer.result (map (task_at b) c.args.ranks.items) c.each.all.items c.in_ok-all.all.items c.requires.table c.requires.zone
    l (omega (arith, l, few)) (ap (λ (z : Zone). z.layers) e) c.has_layer.ensures (ap (λ (m : ℕ). get_or c.args.table.now (c.args.zone * 32 + m) 0) c.from.ensures) c.in_ok-all.ensures c.each.invariant.order c.each.invariant.each in
    record { order = w.0; each = w.1 }
