use Rattle.std.proofs.Common.{◌≡◌, ◌∙◌, List, ℕ, sym, ap, subst, rules, SFits, w64}
use Rattle.std.proofs.lemmas.Int.{to_z-of_z}
use Rattle.grid_num.specs.Length.{IsInRange}
use Rattle.grid_num.specs.Written.{mm_of, IsShortest}
use Rattle.grid_num.proofs.Shortest.{mm_is_shortest}
use Rattle.grid_num.proofs.write.write_mm.Goals as goal

pub returns-clause-shortest : goal.returns-clause-shortest
returns-clause-shortest c =
    let fits : SFits w64 c.get.result = search rules in
    let text : c.put_length.new.into ≡ mm_of c.args.value = c.put_length.ensures ∙ ap mm_of (to_z-of_z w64 c.get.result fits ∙ c.get.ensures.value) in
    subst (λ (t : List ℕ). IsShortest t c.args.value) (sym text) (mm_is_shortest c.args.value (subst IsInRange c.get.ensures.value c.get.ensures.range))
