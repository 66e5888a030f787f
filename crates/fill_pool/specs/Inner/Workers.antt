-- What a worker knows between two holds of the lock.
use Rattle.std.specs.Prelude.{List}
use Rattle.board_language.specs.Board.{Board}
use Rattle.fill_rules.specs.Made.{Made}
use Rattle.fills.specs.Above.{AreFillsAbove}
use Rattle.fill_pool.specs.declared.workers.Next.{Next}
use Rattle.fill_pool.specs.declared.workers.Next.TheVariants.{Fill, GiveBack, Again, End}

-- with leave to fill a task, the list has the fills of exactly the tasks that reach the task
abbrev pub HasAbove : {N : Type 0} → Board → Next N → List Made → Type 0
HasAbove b (Fill t) above = AreFillsAbove b t.number above
HasAbove b (GiveBack t) above = Unit {0}
HasAbove b Again above = Unit {0}
HasAbove b End above = Unit {0}
