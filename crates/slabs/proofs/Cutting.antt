-- Edges cut one by one.
use Rattle.std.proofs.Common.{◌≡◌, refl, sym, subst, ℕ, zero, suc, ◌+◌, ◌<◌, ◌⊎◌, inl, inr, arith, List, [], ◌∷◌, ◌++◌, length, get_or}
use Rattle.std.specs.Prelude.{ℤ, ◌+ℤ◌, ◌-ℤ◌, ◌≤ℤ◌, ◌<ℤ◌, sum_by, Any}
use Rattle.std.specs.List.{All}
use Rattle.std.proofs.lemmas.Int.{ints}
use Rattle.std.proofs.lemmas.List.Sums.{sum_by-cons, sum_by-append}
use Rattle.std.proofs.lemmas.List.Elements.{All-push}
use Rattle.plane.specs.Plane.{PlanePoint}
use Rattle.grid_num.specs.declared.Point.{Point}
use Rattle.plane.specs.Covering.{Edge, IsOn, Between, crossing}
use Rattle.plane.specs.Edges.{turned_back, IsOctilinear, IsOnWay}
use Rattle.plane.specs.Ends.{crossing_below}
use Rattle.plane.proofs.CoverLaws.{crossing_turned, on_turned}
use Rattle.plane.proofs.Split.{split_crossing, split_on}
use Rattle.plane.proofs.Lists.{any_none, any_head, any_cases, any_left, any_right, any_parts}
use Rattle.slabs.specs.Slabs.{IsAmong, IsAt, IsInLine, IsCutOfEdge, IsOnLevel, AreCuts}
use Rattle.slabs.specs.Inner.Cutting.{BeginLaw, StepLaw, EndLaw, TurnedCutsLaw, MoreCutsLaw, LevelCutsLaw}
use Rattle.slabs.proofs.Below.{split_below, below_turned, level_below}
use Rattle.slabs.proofs.Closed.{level_none}
use Rattle.slabs.proofs.Order.{IsCutOf}

-- ---- the whole edge
whole_line : (e : Edge) → e.start.y <ℤ e.finish.y → IsOctilinear e → IsInLine e e
unfolding IsOctilinear IsInLine
whole_line e d (inl h) = absurd (omega (arith, ints, h, d))
whole_line e d (inr (inl h)) = inl (h, refl, sym h)
whole_line e d (inr (inr (inl h))) = inr (inl (h, refl, omega (arith, ints, h)))
whole_line e d (inr (inr (inr h))) = inr (inr (h, refl, omega (arith, ints, h)))

same_at : {X : Type 0} (xs : List X) (k : ℕ) (d : X) → k < length xs → get_or xs k (get_or xs k d) ≡ get_or xs k d
same_at [] k d h = absurd (omega (arith, h))
same_at (x ∷ xs) zero d h = refl
same_at (x ∷ xs) (suc k) d h = same_at xs k d (omega (arith, h))

pub one_is : {X : Type 0} (xs : List X) → All (λ x. IsAmong xs x) xs
one_is xs = λ k d h. (k, get_or xs k d, h, same_at xs k d h, refl)

pub begin_law : BeginLaw
begin_law rows e cs d o t b = record {
  part = record { down = d; line = whole_line e d o; from = inl (omega (arith, ints, d), omega (arith, ints, d)); to = inl (omega (arith, ints, d), omega (arith, ints, d)); top = t; bottom = b };
  each = λ k q h. inl (one_is cs k q h);
  count = λ p. refl;
  below = λ p. refl;
  kept = λ p a. a;
  on = λ p a. inr a;
}

-- ---- the next cut
line_middle : (e r : Edge) (m : Point) → IsInLine e r → r.start.y <ℤ r.finish.y → IsAt r 1 m.y m.x → IsInLine e (record { start = r.start; finish = m }) × IsInLine e (record { start = m; finish = r.finish })
unfolding IsInLine IsAt
line_middle e r m (inl a) d w =
    let x : m.x ≡ e.start.x = omega (arith, ints, a, d, w) in
    (inl (a.0, a.1, x), inl (a.0, x, a.2))
line_middle e r m (inr (inl a)) d w =
    let x : m.x -ℤ m.y ≡ e.start.x -ℤ e.start.y = omega (arith, ints, a, d, w) in
    (inr (inl (a.0, a.1, x)), inr (inl (a.0, x, a.2)))
line_middle e r m (inr (inr a)) d w =
    let x : m.x +ℤ m.y ≡ e.start.x +ℤ e.start.y = omega (arith, ints, a, d, w) in
    (inr (inr (a.0, a.1, x)), inr (inr (a.0, x, a.2)))

on_way : (e r : Edge) (m : Point) → IsInLine e r → r.start.y <ℤ m.y → m.y <ℤ r.finish.y → IsAt r 1 m.y m.x → IsOnWay r.start m r.finish
unfolding IsInLine IsAt IsOnWay
on_way e r m (inl a) l n w = (omega (arith, ints, l), omega (arith, ints, n), inl (omega (arith, ints, a, l, n, w), omega (arith, ints, a, l, n, w)))
on_way e r m (inr (inl a)) l n w = (omega (arith, ints, l), omega (arith, ints, n), inr (inl (omega (arith, ints, a, l, n, w), omega (arith, ints, a, l, n, w))))
on_way e r m (inr (inr a)) l n w = (omega (arith, ints, l), omega (arith, ints, n), inr (inr (omega (arith, ints, a, l, n, w), omega (arith, ints, a, l, n, w))))

between_more : (a b t u y : ℤ) → Between a b t → Between a b u → t ≤ℤ y → y ≤ℤ u → Between a b y
between_more a b t u y (inl g) (inl h) l m = inl (omega (arith, ints), omega (arith, ints))
between_more a b t u y (inl g) (inr h) l m = inl (omega (arith, ints), omega (arith, ints))
between_more a b t u y (inr g) (inl h) l m = inl (omega (arith, ints), omega (arith, ints))
between_more a b t u y (inr g) (inr h) l m = inr (omega (arith, ints), omega (arith, ints))

pushed_sum : (f : Edge → ℕ) (ds : List Edge) (c : Edge) → sum_by f (ds ++ c ∷ []) ≡ sum_by f ds + f c
pushed_sum f ds c = let a = sum_by-append f ds (c ∷ []) in let b = sum_by-cons f c [] in omega (arith, a, b)

pushed_on : (p : PlanePoint) (ds : List Edge) (c : Edge) → IsOn c p → Any (λ d. IsOn d p) (ds ++ c ∷ [])
pushed_on p ds c o = any_right (λ d. IsOn d p) ds (c ∷ []) (any_head (λ d. IsOn d p) c [] o)

pub step_law : StepLaw
step_law rows e r cs ds m rest l n row next w =
    let part = rest.part in
    let c : Edge = record { start = r.start; finish = m } in
    let q : Edge = record { start = m; finish = r.finish } in
    let lines = line_middle e r m part.line part.down w in
    let way = on_way e r m part.line l n w in
    let here = between_more e.start.y e.finish.y r.start.y r.finish.y m.y part.from part.to (omega (arith, ints, l)) (omega (arith, ints, n)) in
    let cut : IsCutOfEdge rows e c = record { down = l; line = lines.0; from = part.from; to = here; top = part.top; bottom = row; next = next } in
    record {
      part = record { down = n; line = lines.1; from = here; to = part.to; top = row; bottom = part.bottom };
      each = All-push (λ d. IsAmong cs d ⊎ IsCutOfEdge rows e d) ds c rest.each (inr cut);
      count = λ p. (let a = rest.count p in let b = pushed_sum (crossing p) ds c in let s = split_crossing r.start m r.finish p way in omega (arith, a, b, s));
      below = λ p. (let a = rest.below p in let b = pushed_sum (crossing_below p) ds c in let s = split_below r.start m r.finish p way in omega (arith, a, b, s));
      kept = λ p a. any_left (λ d. IsOn d p) ds (c ∷ []) (rest.kept p a);
      on = λ p a. elim (rest.on p a) [
        | inl i ↦ inl (any_left (λ d. IsOn d p) ds (c ∷ []) i)
        | inr o ↦ elim ((split_on r.start m r.finish p way).0 o) [ inl u ↦ inl (pushed_on p ds c u) | inr u ↦ inr u ]
      ];
    }

pub end_law : EndLaw
end_law rows e r cs ds rest next =
    let part = rest.part in
    let cut : IsCutOfEdge rows e r = record { down = part.down; line = part.line; from = part.from; to = part.to; top = part.top; bottom = part.bottom; next = next } in
    record {
      each = All-push (λ d. IsAmong cs d ⊎ IsCutOfEdge rows e d) ds r rest.each (inr cut);
      count = λ p. (let a = rest.count p in let b = pushed_sum (crossing p) ds r in omega (arith, a, b));
      below = λ p. (let a = rest.below p in let b = pushed_sum (crossing_below p) ds r in omega (arith, a, b));
      kept = λ p a. any_left (λ d. IsOn d p) ds (r ∷ []) (rest.kept p a);
      on = λ p a. elim (rest.on p a) [ inl i ↦ any_left (λ d. IsOn d p) ds (r ∷ []) i | inr o ↦ pushed_on p ds r o ];
    }

-- ---- the other direction
swap : (a b z : ℤ) → Between a b z → Between b a z
swap a b z (inl h) = inr h
swap a b z (inr h) = inl h

line_turned : (e c : Edge) → IsInLine (turned_back e) c → IsInLine e c
unfolding IsInLine turned_back
line_turned e c (inl a) = inl (omega (arith, ints, a), omega (arith, ints, a), omega (arith, ints, a))
line_turned e c (inr (inl a)) = inr (inl (omega (arith, ints, a), omega (arith, ints, a), omega (arith, ints, a)))
line_turned e c (inr (inr a)) = inr (inr (omega (arith, ints, a), omega (arith, ints, a), omega (arith, ints, a)))

cut_turned : (rows : List ℤ) (e c : Edge) → IsCutOfEdge rows (turned_back e) c → IsCutOfEdge rows e c
unfolding turned_back
cut_turned rows e c a = record {
  down = a.down;
  line = line_turned e c a.line;
  from = swap e.finish.y e.start.y c.start.y a.from;
  to = swap e.finish.y e.start.y c.finish.y a.to;
  top = a.top;
  bottom = a.bottom;
  next = a.next;
}

pub turned_cuts_law : TurnedCutsLaw
turned_cuts_law rows e cs ds o a = record {
  each = λ k q h. elim (a.each k q h) [ inl i ↦ inl i | inr i ↦ inr (cut_turned rows e (get_or ds k q) i) ];
  count = λ p. (let s = a.count p in let t = crossing_turned p e in omega (arith, s, t));
  below = λ p. (let s = a.below p in let t = below_turned p e in omega (arith, s, t));
  kept = a.kept;
  on = λ p i. a.on p (on_turned p e o i);
}

-- ---- edge by edge
from_more : (rows : List ℤ) (es : List Edge) (e d : Edge) → IsCutOf rows es d → IsCutOf rows (es ++ e ∷ []) d
from_more rows es e d a = (a.0, any_left (λ x. x ≡ a.0) es (e ∷ []) a.1, a.2)

from_one : (rows : List ℤ) (es : List Edge) (e d : Edge) → IsCutOfEdge rows e d → IsCutOf rows (es ++ e ∷ []) d
from_one rows es e d c = (e, any_right (λ x. x ≡ e) es (e ∷ []) (any_head (λ x. x ≡ e) e [] refl), c)

pick : {X : Type 0} (P : X → Type 0) (xs : List X) (x : X) → All P xs → IsAmong xs x → P x
pick P xs x all a = subst P a.4 (subst P a.3 (all a.0 a.1 a.2))

level_more : (es : List Edge) (e : Edge) (p : PlanePoint) → IsOnLevel es p → IsOnLevel (es ++ e ∷ []) p
level_more es e p a = any_left (λ e. (e.start.y ≡ e.finish.y) × IsOn e p) es (e ∷ []) a

pub more_cuts_law : MoreCutsLaw
more_cuts_law rows es cs ds e a b = record {
  each = λ k q h. elim (b.each k q h) [
    | inl i ↦ from_more rows es e (get_or ds k q) (pick (IsCutOf rows es) cs (get_or ds k q) a.each i)
    | inr i ↦ from_one rows es e (get_or ds k q) i
  ];
  count = λ p. (let s = a.count p in let t = b.count p in let u = pushed_sum (crossing p) es e in omega (arith, s, t, u));
  below = λ p. (let s = a.below p in let t = b.below p in let u = pushed_sum (crossing_below p) es e in omega (arith, s, t, u));
  on = λ p i. elim (any_parts (λ e. IsOn e p) es (e ∷ []) i) [
    | inl o ↦ elim (a.on p o) [ inl w ↦ inl (b.kept p w) | inr w ↦ inr (level_more es e p w) ]
    | inr o ↦ elim (any_cases (λ e. IsOn e p) e [] o) [ inl w ↦ inl (b.on p w) | inr w ↦ absurd (any_none (λ e. IsOn e p) w) ]
  ];
}

pub level_cuts_law : LevelCutsLaw
level_cuts_law rows es cs e a level = record {
  each = λ k q h. from_more rows es e (get_or cs k q) (a.each k q h);
  count = λ p. (let s = a.count p in let t = level_none e p level in let u = pushed_sum (crossing p) es e in omega (arith, s, t, u));
  below = λ p. (let s = a.below p in let t = level_below e p level in let u = pushed_sum (crossing_below p) es e in omega (arith, s, t, u));
  on = λ p i. elim (any_parts (λ e. IsOn e p) es (e ∷ []) i) [
    | inl o ↦ elim (a.on p o) [ inl w ↦ inl w | inr w ↦ inr (level_more es e p w) ]
    | inr o ↦ elim (any_cases (λ e. IsOn e p) e [] o) [
      | inl w ↦ inr (any_right (λ e. (e.start.y ≡ e.finish.y) × IsOn e p) es (e ∷ []) (any_head (λ e. (e.start.y ≡ e.finish.y) × IsOn e p) e [] (level, w)))
      | inr w ↦ absurd (any_none (λ e. IsOn e p) w)
    ]
  ];
}

pub no_cuts : (rows : List ℤ) → AreCuts rows [] []
no_cuts rows = record { each = λ k d h. absurd (omega (arith, h)); count = λ p. refl; below = λ p. refl; on = λ p a. absurd (any_none (λ e. IsOn e p) a) }
