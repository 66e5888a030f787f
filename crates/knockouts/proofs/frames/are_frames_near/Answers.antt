use Rattle.hulls.specs.Cells.{around}
use Rattle.knockouts.proofs.Near.{frames_near}
use Rattle.knockouts.proofs.frames.are_frames_near.Goals as goal

pub returns : goal.returns
returns c =
    let lower = c.args.lower.now in
    let upper = c.args.upper.now in
    rw (← c.zone_need-need.ensures.value)
    (frames_near c.zone_need-need.result (around lower.outline) (around upper.outline) c.frame.result c.frame-2.result c.apart.result
    c.zone_need-need.ensures.least c.frame.ensures.oct c.frame-2.ensures.oct c.frame.ensures.value c.frame-2.ensures.value c.apart.ensures)
