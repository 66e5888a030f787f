use Rattle.text_shapes.proofs.Root.{root_there}
use Rattle.text_shapes.proofs.shapes_law.Goals as goal

pub returns : goal.returns
returns c = root_there
