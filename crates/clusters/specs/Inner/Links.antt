-- Patches node by node, and what is found of them: the nodes to which those of one node lead.
use Rattle.std.specs.Prelude.{◌≡◌, ◌↔◌, ◌⊎◌, ℕ, ◌<◌, List, map, slice_get, Some}
use Rattle.std.specs.List.{All}
use Rattle.std.specs.List.Sorted.{IsNonDecreasingBy}
use Rattle.plane.specs.Plane.{Bounds, IsMeeting}
use Rattle.classes.specs.Classes.{IsOneOf}
use Rattle.clusters.specs.declared.patch.Patch.{Patch}
use Rattle.clusters.specs.Inner.Patches.{IsPatch, IsPatchNeighbour}

-- node by node
abbrev pub ArePatchesInOrder : List Patch → Type 0
ArePatchesInOrder ps = IsNonDecreasingBy (λ (p : Patch). p.node) ps

abbrev pub patch_hulls : List Patch → List Bounds
patch_hulls ps = map (λ (p : Patch). p.hull) ps

-- patches of so many nodes, node by node, and the hulls of these patches
pub record HasPatches (count : ℕ) (ps : List Patch) (octs : List Bounds) : Type 0 where
  pub order : ArePatchesInOrder ps
  pub each : All (IsPatch count) ps
  pub hulls : octs ≡ patch_hulls ps

-- the patch leads to that of node y at one of the places
pub record LeadsInto (ps : List Patch) (p : Patch) (places : List ℕ) (y : ℕ) : Type 0 where
  pub place : ℕ
  pub other : Patch
  pub one : IsOneOf place places
  pub there : slice_get ps place ≡ Some other
  pub on : IsPatchNeighbour p other
  pub to : other.node ≡ y

-- the nodes to which the patch leads at these places were added
abbrev pub AreAdded : List Patch → Patch → List ℕ → List ℕ → List ℕ → Type 0
AreAdded ps p places before after = (y : ℕ) → IsOneOf y after ↔ (IsOneOf y before ⊎ LeadsInto ps p places y)

-- a patch of node k before place i leads to one of node y, and their hulls meet
pub record IsWayByPatches (ps : List Patch) (k i y : ℕ) : Type 0 where
  pub place : ℕ
  pub first : Patch
  pub second : Patch
  pub before : place < i
  pub there : slice_get ps place ≡ Some first
  pub other : IsOneOf second ps
  pub from : first.node ≡ k
  pub to : second.node ≡ y
  pub meet : IsMeeting first.hull second.hull
  pub on : IsPatchNeighbour first second

-- they are the nodes to which the patches of node k before place i lead
abbrev pub AreGathered : List Patch → ℕ → ℕ → List ℕ → Type 0
AreGathered ps k i js = (y : ℕ) → IsOneOf y js ↔ IsWayByPatches ps k i y
