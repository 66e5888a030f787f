-- What several clauses say of one result.
use Rattle.std.proofs.Common.{Result, Ok, Err}
use Rattle.std.specs.Prelude.{IfOk}

module _ {A E : Type 0} where
  pub ok_two : (r : Result A E) (P Q S : A → Type 0) → ((a : A) → P a → Q a → S a) → IfOk r P → IfOk r Q → IfOk r S
  ok_two (Ok a) P Q S f p q = f a p q
  ok_two (Err e) P Q S f p q = tt

  pub ok_three : (r : Result A E) (P Q R S : A → Type 0) → ((a : A) → P a → Q a → R a → S a) → IfOk r P → IfOk r Q → IfOk r R → IfOk r S
  ok_three (Ok a) P Q R S f p q s = f a p q s
  ok_three (Err e) P Q R S f p q s = tt
