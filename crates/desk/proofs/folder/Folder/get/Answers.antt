use Rattle.std.proofs.Common.{◌∙◌, sym, ap, subst, map, Some, List, ℕ, [], slice_index_or}
use Rattle.std.specs.Ordering.{nat_cmp}
use Rattle.std.specs.Cmp.Lexicographic.{slice_cmp}
use Rattle.std.specs.FinMap.{FinMap, get}
use Rattle.desk.specs.Folder.{entry, IsFirst, IsNowhere}
use Rattle.desk.proofs.Entries.{got_first, got_none}
use Rattle.desk.proofs.folder.Folder.get.Goals as goal

pub returns-in-Some : goal.returns-in-Some
returns-in-Some c =
    ap Some c.bytes_at.ensures
    ∙ ap (λ fs. Some (slice_index_or (map entry fs) c.in-Some.at ([], [])).1) c.deref-in-Some.ensures.value
    ∙ sym (got_first (map entry c.self.inside.files.items) c.in-Some.at c.args.name.now (subst (λ fs. IsFirst c.args.name.now (map entry fs) c.in-Some.at) c.deref.ensures.value c.in-Some.ensures.found))
    ∙ ap (λ (m : FinMap (slice_cmp nat_cmp) (List ℕ)). get m c.args.name.now) c.self.view_is

pub returns-in-None : goal.returns-in-None
returns-in-None c =
    sym (got_none (map entry c.self.inside.files.items) c.args.name.now (subst (λ fs. IsNowhere c.args.name.now (map entry fs)) c.deref.ensures.value c.in-None.ensures.none))
    ∙ ap (λ (m : FinMap (slice_cmp nat_cmp) (List ℕ)). get m c.args.name.now) c.self.view_is
