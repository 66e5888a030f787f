-- A piece of a text is replaced.
use Rattle.std.specs.Prelude.{◌≡◌, ℕ, ◌+◌, List, ◌++◌, length}

-- the new text has `put` where the old one has the bytes from one place to another, and what stands before and behind
-- them is the same in both
pub record IsSplice (text : List ℕ) (from to : ℕ) (put new : List ℕ) : Type 0 where
  pub front : List ℕ
  pub out : List ℕ
  pub tail : List ℕ
  pub from_is : length front ≡ from
  pub to_is : from + length out ≡ to
  pub text_is : text ≡ front ++ (out ++ tail)
  pub new_is : new ≡ front ++ (put ++ tail)
