use Rattle.components.proofs.Components.{centres, components}
use Rattle.components.proofs.components_law.Goals as goal

pub returns-clause-centres : goal.returns-clause-centres
returns-clause-centres c = centres

pub returns-clause-same : goal.returns-clause-same
returns-clause-same c = components
