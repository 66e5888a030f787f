use Rattle.std.specs.Prelude.{◌≤◌}
use Rattle.std.proofs.Common.{arith}
use Rattle.classes.specs.Laws.{AreLinked}
use Rattle.classes.proofs.Reaching.{least_one, least_shared, linked_back}
use Rattle.classes.proofs.least_law.Goals as goal

pub returns : goal.returns
returns c = record {
  one = λ links a m n h k. least_one (AreLinked links) (λ x y. x ≤ y) (λ x y p q. omega (arith, p, q)) a m n h k;
  shared = λ links a b m r h. least_shared (AreLinked links) (λ x y. x ≤ y) (linked_back links) a b m r h;
}
