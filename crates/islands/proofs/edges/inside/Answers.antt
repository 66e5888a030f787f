use Rattle.islands.proofs.Crossings.{within_is}
use Rattle.islands.proofs.Members.{empty_is}
use Rattle.islands.proofs.edges.inside.Goals as goal

pub returns : goal.returns
returns c = within_is c.args.edges.now c.args.at _ _ _ (empty_is c.args.edges.now _ c.is_empty.ensures) c.is_odd.ensures c.either.ensures
