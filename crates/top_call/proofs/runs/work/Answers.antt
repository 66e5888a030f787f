use Rattle.std.proofs.Common.{◌∙◌, map, refl, sym}
use Rattle.std.specs.String.{string_bytes}
use Rattle.top_call.specs.Steps.{WorkersTake}
use Rattle.top_call.proofs.Owes.{counted, room_moved}
use Rattle.top_call.proofs.Openings.{takes_beside}
use Rattle.top_call.proofs.runs.work.Goals as goal

pub returns-in-Err-clause-leaves : goal.returns-in-Err-clause-leaves
returns-in-Err-clause-leaves g c s e = (s, c.in-Err.ensures.leaves s e, c.opening.ensures.seen ∙ e)

pub finished-requires-clause-room : goal.finished-requires-clause-room
finished-requires-clause-room g c = (
  map string_bytes c.args.words.now,
  room_moved (map string_bytes c.args.words.now) _ _ _ _ c.opening.ensures.seen c.opening.ensures.room c.requires,
  λ s e. c.in-Ok.ensures.opening s (sym c.opening.ensures.seen ∙ e),
)

pub returns-in-Ok-drawn-clause-leaves : goal.returns-in-Ok-drawn-clause-leaves
returns-in-Ok-drawn-clause-leaves g c s e = c.finished.ensures.leaves (map string_bytes c.args.words.now) s (c.opening.ensures.seen ∙ e) (c.in-Ok.ensures.opening s e)

pub returns-in-Ok-drawn-clause-counts : goal.returns-in-Ok-drawn-clause-counts
returns-in-Ok-drawn-clause-counts g c s e =
    let o = c.in-Ok.ensures.opening s e in
    counted WorkersTake (map string_bytes c.args.words.now) o.command s c.finished.result _ _ o.asked (takes_beside o.command s c.in-Ok.opened _ _ o.opened c.in-Ok-drawn.ensures.counts)

pub returns-clause-leaves : goal.returns-clause-leaves
returns-clause-leaves g c s e = (s, refl, c.opening.ensures.seen ∙ e)
