use Rattle.std.proofs.Common.{sym, ◌∙◌, ap, subst, ◌++◌, ◌∷◌, [], get_or, List}
use Rattle.std.proofs.lemmas.List.{map_more}
use Rattle.std.proofs.lemmas.List.Elements.{All-push}
use Rattle.std.specs.List.{All}
use Rattle.clusters.specs.declared.patch.Patch.{Patch}
use Rattle.clusters.specs.Inner.Patches.{IsPatch}
use Rattle.clusters.specs.Inner.Copper.{patch_of}
use Rattle.clusters.proofs.patches.patches_of_shape.Goals as goal

pub each-preserved : goal.each-preserved
each-preserved c =
    let e = c.in_ok-push.ensures.items in
    record {
      patches = e ∙ ap (λ (p : Patch). c.each.patches.items ++ p ∷ []) (c.patch_of.ensures.value ∙ ap (patch_of c.args.owner c.args.shape.now) c.hull-item.is)
          ∙ ap (λ (ps : List Patch). ps ++ patch_of c.args.owner c.args.shape.now (get_or c.deref-hull-items.result.now c.each.hull-index c.hull-item.result) ∷ []) c.each.invariant.patches
          ∙ sym (map_more (patch_of c.args.owner c.args.shape.now) c.deref-hull-items.result.now c.each.hull-index c.hull-item.result c.each-test.true);
      each = λ n l. subst (All (IsPatch n)) (sym e) (All-push (IsPatch n) c.each.patches.items c.patch_of.result (c.each.invariant.each n l) (c.patch_of.ensures.each n l));
    }
