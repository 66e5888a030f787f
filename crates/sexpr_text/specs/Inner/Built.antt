-- What is kept while a text is read.
use Rattle.std.specs.Prelude.{ℕ, List}
use Rattle.sexpr_text.specs.Flat.{Shown}

-- the nodes so far, and the numbers of those that stand in a list which is still open
pub record Built : Type 0 where
  pub nodes : List Shown
  pub waiting : List ℕ
