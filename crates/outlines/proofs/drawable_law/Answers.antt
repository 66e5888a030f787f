use Rattle.outlines.proofs.Drawable.{drawable, all_drawable}
use Rattle.outlines.proofs.drawable_law.Goals as goal

pub returns : goal.returns
returns c = record { each = drawable; all = all_drawable }
