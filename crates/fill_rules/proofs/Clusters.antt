-- Clusters are classes, and labels are one list.
use Rattle.std.proofs.Common.{◌≡◌, ℕ, zero, suc, ◌+◌, ◌<◌, List, [], ◌∷◌, length, get_or, refl, sym, ap, ◌∙◌, subst, arith}
use Rattle.touching.specs.Core.{Touches}
use Rattle.touching.proofs.Decided.{order_law}
use Rattle.classes.specs.Classes.{Reaches, IsLeastOf}
use Rattle.classes.proofs.Reaching.{reaches_self, reaches_link, reaches_then, reaches_back, least_one, least_shared}
use Rattle.board_language.specs.Board.{Board}
use Rattle.fill_rules.specs.Made.{Made}
use Rattle.islands.specs.Parts.{IsUpTo}
use Rattle.islands.proofs.PartLaws.{up_to_one}
use Rattle.board_language.proofs.Members.{same_lists}
use Rattle.fill_rules.specs.Clusters.{AreTouching, AreJoinedAt, IsOneCluster}
use Rattle.fill_rules.specs.ClusterLaws.{TouchLaw, JoinLaw, ClusterLaw, OneLabellingLaw, LabelLaw}

pub touch_law : TouchLaw
unfolding AreTouching
touch_law c d h =
    let e : c.radius + d.radius ≡ d.radius + c.radius = omega arith in
    subst (λ r. Touches r d.core c.core) e ((order_law (c.radius + d.radius) c.core d.core).0 h)

pub join_law : JoinLaw
join_law b fills m n h = record {
  net = sym h.net;
  layer = (h.layer.0, h.layer.2, h.layer.1);
  touch = (h.touch.1, h.touch.0, h.touch.3, h.touch.2, touch_law h.touch.0 h.touch.1 h.touch.4);
}

joined_back : (b : Board) (fills : List Made) (i j : ℕ) → AreJoinedAt b fills i j → AreJoinedAt b fills j i
joined_back b fills i j h = record {
  first = h.second;
  second = h.first;
  at_first = h.at_second;
  at_second = h.at_first;
  joined = join_law b fills h.first h.second h.joined;
}

pub cluster_law : ClusterLaw
unfolding IsOneCluster
cluster_law = record {
  itself = λ b fills i. reaches_self (AreJoinedAt b fills) i;
  joined = λ b fills i j h. reaches_link (AreJoinedAt b fills) i j h;
  back = λ b fills i j h. reaches_back (AreJoinedAt b fills) (joined_back b fills) i j h;
  on = λ b fills i j k h g. reaches_then (AreJoinedAt b fills) i j k h g;
}

one_least : (b : Board) (fills : List Made) (i m n : ℕ) → IsLeastOf (AreJoinedAt b fills) IsUpTo i m → IsLeastOf (AreJoinedAt b fills) IsUpTo i n → m ≡ n
one_least b fills i m n h g = least_one (AreJoinedAt b fills) IsUpTo up_to_one i m n h g

pub one_labelling_law : OneLabellingLaw
one_labelling_law b fills labels others h g =
    let e : length labels ≡ length others = h.each ∙ sym g.each in
    same_lists 0 labels others e (λ i l. one_least b fills i (get_or labels i 0) (get_or others i 0) (h.least i l) (g.least i (omega (arith, l, e))))

pub label_law : LabelLaw
unfolding IsOneCluster
label_law = record {
  same = λ b fills labels i j h li lj r.
      one_least b fills j (get_or labels i 0) (get_or labels j 0)
      (least_shared (AreJoinedAt b fills) IsUpTo (joined_back b fills) i j (get_or labels i 0) r (h.least i li)) (h.least j lj);
  one = λ b fills labels i j h li lj e.
      let back = reaches_back (AreJoinedAt b fills) (joined_back b fills) j (get_or labels j 0) (h.least j lj).reached in
      reaches_then (AreJoinedAt b fills) i (get_or labels i 0) j (h.least i li).reached (subst (λ m. Reaches (AreJoinedAt b fills) m j) (sym e) back);
}
