use Rattle.std.proofs.Common.{◌≡◌, List, ℕ, subst, map}
use Rattle.std.proofs.lemmas.Result.{on_ok_weaker}
use Rattle.std.specs.Ordering.{nat_cmp}
use Rattle.std.specs.Cmp.Lexicographic.{slice_cmp}
use Rattle.std.specs.FinMap.{FinMap, insert, from_entries}
use Rattle.desk.specs.Folder.{entry, IsFirst, IsNowhere}
use Rattle.desk.proofs.Entries.{replaced, added}
use Rattle.desk.proofs.folder.Folder.set.Goals as goal

pub returns-in-Some-clause-ok : goal.returns-in-Some-clause-ok
returns-in-Some-clause-ok c =
    let first : IsFirst c.args.name.now (map entry c.self.inside.files.items) c.in-Some.at = subst (λ fs. IsFirst c.args.name.now (map entry fs) c.in-Some.at) c.deref.ensures.value c.in-Some.ensures.found in
    subst (λ (m : FinMap (slice_cmp nat_cmp) (List ℕ)). from_entries (map entry c.replace_file.new.files.items) ≡ insert m c.args.name.now c.args.bytes.items) c.self.view_is
    (replaced (map entry c.self.inside.files.items) _ c.in-Some.at c.args.name.now c.args.bytes.items first c.replace_file.ensures)

pub returns-in-None-clause-ok : goal.returns-in-None-clause-ok
returns-in-None-clause-ok c =
    let nowhere : IsNowhere c.args.name.now (map entry c.self.inside.files.items) = subst (λ fs. IsNowhere c.args.name.now (map entry fs)) c.deref.ensures.value c.in-None.ensures.none in
    on_ok_weaker c.add_file.result
    (λ h. subst (λ (m : FinMap (slice_cmp nat_cmp) (List ℕ)). from_entries (map entry c.add_file.new.files.items) ≡ insert m c.args.name.now c.args.bytes.items) c.self.view_is
    (added (map entry c.self.inside.files.items) _ c.args.name.now c.args.bytes.items nowhere h))
    c.add_file.ensures.ok
