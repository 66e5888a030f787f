use Rattle.std.proofs.Common.{◌≡◌, refl, length, get_or}
use Rattle.std.specs.Prelude.{slice_get, Some}
use Rattle.std.proofs.lemmas.Bool.{iff_false}
use Rattle.std.proofs.lemmas.Option.{slice_get_read}
use Rattle.clusters.proofs.Linking.{added_none, added_more, added_other}
use Rattle.clusters.proofs.node_links.add_linked.Goals as goal
use Rattle.clusters.proofs.node_links.add_linked.Goals.{then-leads_to+in_ok-push, else-leads_to}

pub each-init : goal.each-init
each-init c = added_none c.args.patches.now c.args.patch.now c.args.into.now.items

pub each-preserved : goal.each-preserved
each-preserved c =
    let ps = c.args.patches.now in
    let j = get_or c.args.met.now c.each.j-index 0 in
    let at : slice_get ps j ≡ Some c.index-patches-j.result = slice_get_read ps (length ps) j _ refl (c.requires.places c.each.j-index 0 c.each-test.true) c.index-patches-j.is in
    elim c.if-leads_to.branch [
      | then-leads_to+in_ok-push w ↦ rw (w.into-is, w.in_ok-push.ensures.items)
          (added_more ps c.args.patch.now _ c.args.met.now c.each.j-index 0 _ _ c.each-test.true at (c.leads_to.ensures.0 w.if-leads_to.true) c.each.invariant)
      | else-leads_to w ↦ rw (w.into-is)
          (added_other ps c.args.patch.now _ c.args.met.now c.each.j-index 0 _ _ c.each-test.true at (λ l. iff_false c.leads_to.ensures w.if-leads_to.false l) c.each.invariant)
    ]
