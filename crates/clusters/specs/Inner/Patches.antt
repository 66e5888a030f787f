-- Patches: each is one hull of one shape of copper, with the node that it belongs to.
use Rattle.std.specs.Prelude.{◌≡◌, ℕ, ◌<◌, true, List}
use Rattle.plane.specs.Plane.{IsMeeting}
use Rattle.classes.specs.Classes.{IsOneOf}
use Rattle.islands.specs.Held.{IsAnchorInRoom}
use Rattle.board_language.specs.Copper.{has_layer}
use Rattle.fill_rules.specs.Clusters.{AreTouching}
use Rattle.clusters.specs.declared.patch.Patch.{Patch}

-- a patch of one of so many nodes, whose copper is such as boards have
pub record IsPatch (count : ℕ) (p : Patch) : Type 0 where
  pub node : p.node < count
  pub copper : IsAnchorInRoom p.shape

-- some layer is in both sets
abbrev pub HaveCommonLayer : ℕ → ℕ → Type 0
HaveCommonLayer m n = (l : ℕ) × (has_layer m l ≡ true) × (has_layer n l ≡ true)

-- of two nodes of one net, on a common layer, and their copper touches
pub record IsPatchNeighbour (p q : Patch) : Type 0 where
  pub apart : p.node ≡ q.node → ⊥
  pub net : p.net ≡ q.net
  pub layer : HaveCommonLayer p.layers q.layers
  pub touch : AreTouching p.shape q.shape

-- of one net, on a common layer, their hulls meet, and their copper touches
pub record ArePatchesLinked (p q : Patch) : Type 0 where
  pub net : p.net ≡ q.net
  pub layer : HaveCommonLayer p.layers q.layers
  pub meet : IsMeeting p.hull q.hull
  pub touch : AreTouching p.shape q.shape

-- two of the patches, of these nodes, are linked
pub record AreNodesLinkedBy (ps : List Patch) (x y : ℕ) : Type 0 where
  pub first : Patch
  pub second : Patch
  pub one : IsOneOf first ps
  pub other : IsOneOf second ps
  pub from : first.node ≡ x
  pub to : second.node ≡ y
  pub linked : ArePatchesLinked first second
