use Rattle.std.proofs.Common.{sym, subst}
use Rattle.fills.specs.Above.{AreReaching}
use Rattle.fill_pool.proofs.Machines.{row_is}
use Rattle.fill_pool.proofs.machine.Machine.reaching.Goals as goal

pub returns-clause-value : goal.returns-clause-value
returns-clause-value g c =
    subst (AreReaching g.N.Named.board c.args.number) (sym c.as_slice.ensures.value)
    (row_is (λ v. v.items) g.N.Named.board c.self.inside.table.items c.self.invariant.table_is c.args.number c.requires c.index.result.now c.index.ensures)
