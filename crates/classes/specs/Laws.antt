-- What a reader may take of reachability, for links that are listed and go both ways. The proofs hold for any relation.
use Rattle.std.specs.Prelude.{◌≡◌, ◌⊎◌, ◌≤◌, ℕ, List}
use Rattle.classes.specs.Classes.{Reaches, IsLeastOf, IsOneOf}

-- a link of two things
pub record Link : Type 0 where
  pub from : ℕ
  pub to : ℕ

-- one of the links has these two ends
unfoldable pub AreLinked : List Link → ℕ → ℕ → Type 0
AreLinked links a b = IsOneOf (record { from = a; to = b }) links ⊎ IsOneOf (record { from = b; to = a }) links

-- reaching along links puts things into classes
pub record ClassLaw : Type 0 where
  pub itself : (links : List Link) (a : ℕ) → Reaches (AreLinked links) a a
  pub linked : (links : List Link) (a b : ℕ) → AreLinked links a b → Reaches (AreLinked links) a b
  pub back : (links : List Link) (a b : ℕ) → Reaches (AreLinked links) a b → Reaches (AreLinked links) b a
  pub on : (links : List Link) (a b c : ℕ) → Reaches (AreLinked links) a b → Reaches (AreLinked links) b c
      → Reaches (AreLinked links) a c
  -- and no less: reaching goes no further than a set that no link leaves
  pub within : (links : List Link) (set : List ℕ) → ((a b : ℕ) → AreLinked links a b → IsOneOf a set → IsOneOf b set)
      → (a b : ℕ) → Reaches (AreLinked links) a b → IsOneOf a set → IsOneOf b set

-- a class has at most one least member, and all its members have the same one
pub record LeastMemberLaw : Type 0 where
  pub one : (links : List Link) (a m n : ℕ) → IsLeastOf (AreLinked links) (λ x y. x ≤ y) a m
      → IsLeastOf (AreLinked links) (λ x y. x ≤ y) a n → m ≡ n
  pub shared : (links : List Link) (a b m : ℕ) → Reaches (AreLinked links) a b
      → IsLeastOf (AreLinked links) (λ x y. x ≤ y) a m → IsLeastOf (AreLinked links) (λ x y. x ≤ y) b m
