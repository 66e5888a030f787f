use Rattle.std.proofs.Common.{◌≡◌, ◌∙◌, ap, subst, List, ℕ, [], unwrap_or}
use Rattle.desk.specs.Seen.{content, Gives}
use Rattle.desk.specs.Memory.{MemoryState}
use Rattle.desk.proofs.Readings.{gives_least}
use Rattle.desk.proofs.memory_desk.MemoryDeskDesk.read_at.Goals as goal

pub returns-in-Some-clause-bytes : goal.returns-in-Some-clause-bytes
returns-in-Some-clause-bytes c =
    let e : c.in-Some.bytes.now ≡ content c.args.name.now c.args.self.now.seen = ap (λ o. unwrap_or o []) c.in-Some.ensures ∙ ap (λ (s : MemoryState). content c.args.name.now s.seen) c.self.view_is in
    subst (λ (b : List ℕ). Gives b c.args.from c.copy_some.new.into c.copy_some.result) e
    (gives_least c.in-Some.bytes.now c.args.into.now c.copy_some.new.into c.args.from c.self.inside.step c.copy_some.result c.self.invariant.0 c.requires c.copy_some.ensures.count c.copy_some.ensures.filled)
