-- What is known of edges is known of them in another order.
use Rattle.std.proofs.Common.{List}
use Rattle.std.specs.List.Sorted.{IsPermutation}
use Rattle.std.proofs.lemmas.List.Sorted.{IsPermutation-sym, IsPermutation-trans}
use Rattle.grid_num.specs.declared.Point.{Point}
use Rattle.plane.specs.Covering.{Edge}
use Rattle.rings.specs.Loops.{Loop, AreLoopsOf}
use Rattle.rings.specs.Walks.{joined_walks, AreContours}
use Rattle.rings.proofs.Lists.{has_permuted, no_repeats_permuted}
use Rattle.rings.proofs.Parted.{AreGood, AreParted}
use Rattle.rings.proofs.Unique.{AreSame, same_edge, edge_test, walk_again}
use Rattle.rings.proofs.Rings.{AreTidy}
use Rattle.rings.proofs.Near.{Alternate}

pub permuted_same : {X : Type 0} (xs ys : List X) → IsPermutation xs ys → AreSame xs ys
permuted_same xs ys p = record { there = λ x h. has_permuted xs ys x p h; back = λ x h. has_permuted ys xs x (IsPermutation-sym xs ys p) h }

pub tidy_permuted : (es fs : List Edge) → IsPermutation es fs → AreTidy es → AreTidy fs
unfolding AreGood AreParted
tidy_permuted es fs p t =
    let s = permuted_same es fs p in
    record {
      good = λ e h. t.good e (s.back e h);
      parted = λ e f q h i. t.parted e f q (s.back e h) (s.back f i);
      once = no_repeats_permuted same_edge edge_test es fs p t.once;
    }

pub alternate_permuted : (es fs : List Edge) → IsPermutation es fs → Alternate es → Alternate fs
unfolding Alternate
alternate_permuted es fs p a e h =
    let s = permuted_same es fs p in
    let n = a e (s.back e h) in (
      n.0,
      record {
        one = s.there n.0 (n.1).one;
        joins = (n.1).joins;
        out = λ g i. (n.1).out g (s.back g i);
        back = λ g i. (n.1).back g (s.back g i);
      },
    )

pub contours_permuted : (es fs : List Edge) (ws : List (List Edge)) (cs : List (List Point)) → IsPermutation es fs → AreContours fs ws cs → AreContours es ws cs
contours_permuted es fs ws cs p a =
    let q = IsPermutation-sym es fs p in
    record {
      once = IsPermutation-trans (joined_walks ws) fs es a.once q;
      next = λ k d l. walk_again fs es _ (permuted_same fs es q) (a.next k d l);
      draw = a.draw;
      order = a.order;
    }

pub loops_permuted : (es fs : List Edge) (loops : List Loop) → IsPermutation es fs → AreLoopsOf fs loops → AreLoopsOf es loops
loops_permuted es fs loops p a = record { walks = a.walks; contours = contours_permuted es fs a.walks _ p a.contours; holes = a.holes }
