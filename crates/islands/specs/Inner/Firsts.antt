-- The first places of classes: octagons stand at places, each is of a stack, and each stack is of a class.
use Rattle.std.specs.Prelude.{◌≡◌, ℕ, ◌<◌, ◌≤◌, List, length, get_or}
use Rattle.std.specs.List.{All}

-- the class of the place: that of its stack
abbrev pub class_at : List ℕ → List ℕ → ℕ → ℕ
class_at places classes k = get_or classes (get_or places k 0) 0

-- each place has a stack, and each stack a class, by their numbers
pub record AreClasses (places classes : List ℕ) : Type 0 where
  pub stacks : All (λ n. n < length classes) places
  pub each : All (λ c. c < length classes) classes

-- f is the first place of the class from place n on
pub record IsFirstPlace (places classes : List ℕ) (n class f : ℕ) : Type 0 where
  pub within : f < length places
  pub same : class_at places classes f ≡ class
  pub least : (k : ℕ) → n ≤ k → k < length places → class_at places classes k ≡ class → f ≤ k

-- under the class of each place from place n on stands the first place of that class there
pub record AreFirstOf (places classes : List ℕ) (n : ℕ) (firsts : List ℕ) : Type 0 where
  pub count : length firsts ≡ length classes
  pub each : (k : ℕ) → n ≤ k → k < length places
      → IsFirstPlace places classes n (class_at places classes k) (get_or firsts (class_at places classes k) 0)

-- each place has the first place of its class
pub record AreFirstPlaces (places classes labels : List ℕ) : Type 0 where
  pub each : length labels ≡ length places
  pub first : (k : ℕ) → k < length places → IsFirstPlace places classes 0 (class_at places classes k) (get_or labels k 0)
