use Rattle.std.proofs.Common.{◌≡◌, sym, subst, List, ℕ, eqb}
use Rattle.std.specs.List.{dedup, Contains}
use Rattle.std.specs.List.Sorted.{IsStrictlyIncreasing}
use Rattle.std.proofs.lemmas.List.Filters.{dedup_is}
use Rattle.std.proofs.lemmas.List.Kept.{Contains-dedup_nat, Contains-from_dedup}
use Rattle.std.proofs.lemmas.List.Sorted.{Contains-permutation, IsPermutation-sym}
use Rattle.std.proofs.lemmas.Map.Keys.{IsStrictlyIncreasing-dedup}
use Rattle.classes.specs.Classes.{IsOneOf}
use Rattle.fill_text.proofs.Once.{sorted_is, contains_one}
use Rattle.fill_text.proofs.lines_of_nets.each_once.Goals as goal

pub returns : goal.returns
returns c =
    let own = c.in_ok-once.once.items in
    let up = c.sort_unstable.new.self.items in
    let e : c.dedup.new.self.items ≡ dedup eqb up = dedup_is eqb up c.dedup.new.self.items c.dedup.ensures.filtered in
    record {
      sorted = sorted_is c.dedup.new.self.items (subst IsStrictlyIncreasing (sym e) (IsStrictlyIncreasing-dedup up c.sort_unstable.ensures.sorted));
      same = λ n. (
        λ i. subst (IsOneOf n) c.in_ok-once.ensures.items ((contains_one n own).0 (Contains-permutation up own n (IsPermutation-sym own up c.sort_unstable.ensures.permutation)
            (Contains-from_dedup eqb up n (subst (λ (xs : List ℕ). Contains xs n) e ((contains_one n c.dedup.new.self.items).1 i))))),
        λ i. (contains_one n c.dedup.new.self.items).0 (subst (λ (xs : List ℕ). Contains xs n) (sym e) (Contains-dedup_nat up n
            (Contains-permutation own up n c.sort_unstable.ensures.permutation ((contains_one n own).1 (subst (IsOneOf n) (sym c.in_ok-once.ensures.items) i))))),
      );
    }
