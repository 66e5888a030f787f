use Rattle.std.proofs.Common.{refl}
use Rattle.outline_slab.proofs.Wide.{round_near, round_range, round_some, round_frame, round_least}
use Rattle.outline_slab.proofs.Outline.wide_frame.Goals as goal

pub rim_round-requires : goal.rim_round-requires
rim_round-requires c = c.frame-frame.ensures.near

pub bounds-requires-clause-x : goal.bounds-requires-clause-x
bounds-requires-clause-x c =
    let e = c.rim_round.ensures in
    let r = c.rim_round.result in
    (round_near c.frame-frame.result r.left r.right r.top r.bottom c.frame-frame.ensures.near (record { left = e.left; right = e.right; top = e.top; bottom = e.bottom })).0

pub bounds-requires-clause-y : goal.bounds-requires-clause-y
bounds-requires-clause-y c =
    let e = c.rim_round.ensures in
    let r = c.rim_round.result in
    (round_near c.frame-frame.result r.left r.right r.top r.bottom c.frame-frame.ensures.near (record { left = e.left; right = e.right; top = e.top; bottom = e.bottom })).1

pub of_bounds-requires : goal.of_bounds-requires
of_bounds-requires c =
    let e = c.rim_round.ensures in
    let r = c.rim_round.result in
    round_range c.frame-frame.result _ r.left r.right r.top r.bottom c.frame-frame.ensures.near (record { left = e.left; right = e.right; top = e.top; bottom = e.bottom }) c.bounds.ensures

pub returns-in-Some-clause-frame : goal.returns-in-Some-clause-frame
returns-in-Some-clause-frame c =
    let e = c.rim_round.ensures in
    let r = c.rim_round.result in
    round_frame c.args.self.now c.frame-frame.result _ c.in-Some.wide r.left r.right r.top r.bottom c.frame-frame.ensures.oct.tight c.frame-frame.ensures.holds
    (record { left = e.left; right = e.right; top = e.top; bottom = e.bottom }) c.bounds.ensures c.in-Some.ensures.oct c.in-Some.ensures.points

pub returns-in-None-clause-frame : goal.returns-in-None-clause-frame
returns-in-None-clause-frame c =
    let e = c.rim_round.ensures in
    let r = c.rim_round.result in
    absurd (round_some c.frame-frame.result _ r.left r.right r.top r.bottom c.frame-frame.ensures.oct.tight
    (record { left = e.left; right = e.right; top = e.top; bottom = e.bottom }) c.bounds.ensures (c.in-None.ensures.none.0 refl))

pub returns-in-Some-clause-least : goal.returns-in-Some-clause-least
returns-in-Some-clause-least c =
    let e = c.rim_round.ensures in
    let r = c.rim_round.result in
    round_least c.args.self.now c.frame-frame.result _ c.in-Some.wide r.left r.right r.top r.bottom c.frame-frame.ensures.oct.tight c.frame-frame.ensures.least
    (record { left = e.left; right = e.right; top = e.top; bottom = e.bottom }) c.bounds.ensures c.in-Some.ensures.oct c.in-Some.ensures.points

pub returns-in-None-clause-least : goal.returns-in-None-clause-least
returns-in-None-clause-least c =
    let e = c.rim_round.ensures in
    let r = c.rim_round.result in
    absurd (round_some c.frame-frame.result _ r.left r.right r.top r.bottom c.frame-frame.ensures.oct.tight
    (record { left = e.left; right = e.right; top = e.top; bottom = e.bottom }) c.bounds.ensures (c.in-None.ensures.none.0 refl))
