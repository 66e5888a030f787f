-- The rank order of tasks, as a relation.
use Rattle.std.specs.Prelude.{◌≡◌, ◌⊎◌, ◌↔◌, ◌<◌, true, List, [], ◌∷◌, length}
use Rattle.classes.specs.Classes.{IsOneOf}
use Rattle.board_language.specs.Board.{Board}
use Rattle.board_language.specs.Copper.{has_layer}
use Rattle.fill_rules.specs.Tasks.{Task, task_zone}

-- t is one of the board's tasks: a zone together with one of its layers
pub record IsTask (b : Board) (t : Task) : Type 0 where
  pub zone : t.zone < length b.zones
  pub layer : t.layer < length b.layers
  pub has : has_layer (task_zone b t).layers t.layer ≡ true

-- s stands before t in the file: by zone, then by layer
abbrev pub IsFiled : Task → Task → Type 0
IsFiled s t = (s.zone < t.zone) ⊎ ((s.zone ≡ t.zone) × (s.layer < t.layer))

-- s ranks above t: by greater priority, then by the file
abbrev pub Outranks : Board → Task → Task → Type 0
Outranks b s t =
    ((task_zone b t).priority < (task_zone b s).priority) ⊎ (((task_zone b t).priority ≡ (task_zone b s).priority) × IsFiled s t)

-- each of the list is in the relation to all later ones
unfoldable pub IsSortedBy : {A : Type 0} → (A → A → Type 0) → List A → Type 0
IsSortedBy R [] = Unit {0}
IsSortedBy {A} R (x ∷ xs) = ((y : A) → IsOneOf y xs → R x y) × IsSortedBy R xs

-- the list has exactly the board's tasks, each above all later ones
pub record IsRanking (b : Board) (ts : List Task) : Type 0 where
  pub members : (t : Task) → IsOneOf t ts ↔ IsTask b t
  pub sorted : IsSortedBy (Outranks b) ts
