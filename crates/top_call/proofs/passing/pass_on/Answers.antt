use Rattle.std.proofs.Common.{◌∙◌, ap, subst, refl, ◌<◌, take, length, Some}
use Rattle.desk.specs.Seen.{with_said}
use Rattle.run_rules.specs.Leaves.{with_output}
use Rattle.top_call.specs.Passed.{file_of}
use Rattle.top_call.proofs.passing.pass_on.Goals as goal

pub returns-in-Err-clause-passes : goal.returns-in-Err-clause-passes
returns-in-Err-clause-passes g c s e = let w = c.in-Err.ensures.cut s e in (w.1, (w.0, w.2, w.3), w.4)

pub returns-in-Ok-clause-passes : goal.returns-in-Ok-clause-passes
returns-in-Ok-clause-passes g c s e =
    let file = with_output (file_of c.args.passing.now) s in
    let said = c.in-Ok.ensures.ok file (c.in_default.ensures.ok s e) in
    (with_said c.args.passing.now.said.items file, (refl, refl), said ∙ ap (λ b. Some (with_said b file)) c.deref.ensures.value)

pub returns-in-Err-say_all-clause-passes : goal.returns-in-Err-say_all-clause-passes
returns-in-Err-say_all-clause-passes g c s e =
    let given = c.in-Err-say_all.given in
    let file = with_output (file_of c.args.passing.now) s in
    let said = c.in-Err-say_all.ensures.short file (c.in_default.ensures.ok s e) in (
      with_said (take given c.args.passing.now.said.items) file,
      (subst (λ b. given < length b) c.deref.ensures.value said.0, refl),
      said.1 ∙ ap (λ b. Some (with_said (take given b) file)) c.deref.ensures.value,
    )
