use Rattle.std.proofs.Common.{◌≡◌, subst, map, length, rules}
use Rattle.std.specs.Arc.{arc_value}
use Rattle.refill.specs.Sessions.{IsSoundState}
use Rattle.refill.specs.Inner.Kept.{with_filled}
use Rattle.refill.proofs.States.{refilled_sound}
use Rattle.refill.proofs.session.Session.refill.Goals as goal

pub put_filled-requires : goal.put_filled-requires
put_filled-requires g c =
    let n : length c.in_ok-dirty.dirty.items ≡ length c.self.inside.dirty.items = search rules in
    subst (λ s. IsSoundState (with_filled s (map arc_value c.in_ok-again.again.fills.items) c.in_ok-dirty.dirty.items)) c.self.view_is
    (refilled_sound _ (map arc_value c.in_ok-again.again.fills.items) c.in_ok-dirty.dirty.items c.self.invariant c.in_ok-again.ensures.fills n)
