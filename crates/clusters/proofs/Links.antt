-- When two patches are linked.
use Rattle.std.proofs.Common.{◌≡◌, sym, subst, ℕ, ◌<◌, Bool, List}
use Rattle.std.specs.Prelude.{◌↔◌, IsTrue}
use Rattle.std.specs.List.{All}
use Rattle.plane.specs.Plane.{IsMeeting}
use Rattle.plane.proofs.Near.{IsMeeting-sym}
use Rattle.spreading.specs.Labels.{AreLinks}
use Rattle.islands.proofs.Members.{of_all}
use Rattle.fill_rules.specs.Clusters.{AreTouching}
use Rattle.fill_rules.specs.ClusterLaws.{TouchLaw}
use Rattle.clusters.specs.declared.patch.Patch.{Patch}
use Rattle.clusters.specs.Inner.Patches.{IsPatch, HaveCommonLayer, IsPatchNeighbour, ArePatchesLinked, AreNodesLinkedBy}

pub leads_is : (p q : Patch) (t : Bool) → (p.node ≡ q.node → ⊥) → p.net ≡ q.net → HaveCommonLayer p.layers q.layers → IsTrue t ↔ AreTouching p.shape q.shape → IsTrue t ↔ IsPatchNeighbour p q
leads_is p q t a n l h = (λ e. record { apart = a; net = n; layer = l; touch = h.0 e }, λ w. h.1 w.touch)

pub leads_of : (p q : Patch) → (p.node ≡ q.node → ⊥) → ArePatchesLinked p q → IsPatchNeighbour p q
leads_of p q n h = record { apart = n; net = h.net; layer = h.layer; touch = h.touch }

pub linked_of : (p q : Patch) → IsPatchNeighbour p q → IsMeeting p.hull q.hull → ArePatchesLinked p q
linked_of p q h m = record { net = h.net; layer = h.layer; meet = m; touch = h.touch }

pub linked_back : TouchLaw → (p q : Patch) → ArePatchesLinked p q → ArePatchesLinked q p
linked_back law p q h = record {
  net = sym h.net;
  layer = (h.layer.0, h.layer.2, h.layer.1);
  meet = IsMeeting-sym p.hull q.hull h.meet;
  touch = law p.shape q.shape h.touch;
}

pub link_back : TouchLaw → (ps : List Patch) (x y : ℕ) → AreNodesLinkedBy ps x y → AreNodesLinkedBy ps y x
link_back law ps x y h = record {
  first = h.second;
  second = h.first;
  one = h.other;
  other = h.one;
  from = h.to;
  to = h.from;
  linked = linked_back law h.first h.second h.linked;
}

-- nodes of patches have both ways links, and are below the count
pub nodes_linked : TouchLaw → (ps : List Patch) (count : ℕ) → All (IsPatch count) ps → AreLinks count (AreNodesLinkedBy ps)
nodes_linked law ps count each = record {
  back = link_back law ps;
  within = λ x y h. subst (λ k. k < count) h.to (of_all (IsPatch count) ps each h.second h.other).node;
}
