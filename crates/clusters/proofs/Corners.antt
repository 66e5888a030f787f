-- The least corner of some octagons.
use Rattle.std.proofs.Common.{◌≡◌, refl, sym, ◌∙◌, ap, subst, ℕ, suc, ◌+◌, ◌<◌, ◌≤◌, ◌⊎◌, inl, inr, arith, zero, add-one, append-nil, Bool, true, false, cond, List, [], ◌∷◌, ◌++◌, length, get_or, take}
use Rattle.std.specs.Prelude.{ℤ, pos, neg_ℤ, ◌-ℤ◌, ◌≤ℤ◌, ◌<ℤ◌, int_lt, ◌||◌, ◌&&◌, ◌==◌, flat_map, Option, Some, None, IfSome}
use Rattle.std.proofs.lemmas.Int.{ints}
use Rattle.std.proofs.lemmas.List.{take_all, get_or_default}
use Rattle.std.proofs.lemmas.List.Concat.{flat_map-append}
use Rattle.std.proofs.lemmas.Bool.Decides.{Decides-eqb}
use mir.Val.{to_z, of_z}
use mir.Syntax.{w64}
use Rattle.plane.specs.Plane.{Bounds, IsTight}
use Rattle.plane.specs.Corners.{corners_of}
use Rattle.octagon.specs.Room.{IsAround}
use Rattle.grid_num.specs.declared.Point.{Point}
use Rattle.classes.specs.Classes.{IsOneOf}
use Rattle.cores.specs.Room.{IsInRoom}
use Rattle.islands.proofs.Members.{none_in, one_front, one_back, one_split}
use Rattle.board_language.proofs.Members.{one_of_flat}
use Rattle.fill_rules.specs.Clusters.{option_list, labelled, lesser, least_point, in_nm, least_of}
use Rattle.clusters.specs.Inner.Corners.{IsNotBehind, IsLeastPoint, IsLeastCorner, IsLesserOf}
use Rattle.clusters.proofs.Rooms.{IsNearPiece}

-- ---- the order of points

not_behind_itself : (p : Point) → IsNotBehind p p
not_behind_itself p = inr (refl, omega (arith, ints))

not_behind_on : (p q r : Point) → IsNotBehind p q → IsNotBehind q r → IsNotBehind p r
not_behind_on p q r (inl a) (inl b) = inl (omega (arith, ints, a, b))
not_behind_on p q r (inl a) (inr (e, b)) = inl (omega (arith, ints, a, e))
not_behind_on p q r (inr (e, a)) (inl b) = inl (omega (arith, ints, e, b))
not_behind_on p q r (inr (e, a)) (inr (f, b)) = inr (e ∙ f, omega (arith, ints, a, b))

same_point : (p q : Point) → p.x ≡ q.x → p.y ≡ q.y → p ≡ q
same_point p q e f = ap (λ (x : ℤ). record { x = x; y = p.y }) e ∙ ap (λ (y : ℤ). record { x = q.x; y = y }) f

not_behind_both : (p q : Point) → IsNotBehind p q → IsNotBehind q p → p ≡ q
not_behind_both p q (inl a) (inl b) = absurd (omega (arith, ints, a, b))
not_behind_both p q (inl a) (inr (e, b)) = absurd (omega (arith, ints, a, e))
not_behind_both p q (inr (e, a)) (inl b) = absurd (omega (arith, ints, e, b))
not_behind_both p q (inr (e, a)) (inr (f, b)) = same_point p q (omega (arith, ints, a, b)) e

-- what holds of the first two of three
lt_true : (a b : ℤ) → int_lt a b ≡ true → a <ℤ b
lt_true a b e = grind (arith, ints)

lt_false : (a b : ℤ) → int_lt a b ≡ false → b ≤ℤ a
lt_false a b e = grind (arith, ints)

-- m is the lesser of the two
abbrev IsChoice : Point → Point → Point → Type 0
IsChoice p q m = IsNotBehind m p × IsNotBehind m q × ((m ≡ p) ⊎ (m ≡ q))

choice : (p q : Point) (a b c : Bool) → int_lt q.y p.y ≡ a → int_lt p.y q.y ≡ b → int_lt q.x p.x ≡ c → IsChoice p q (cond (a || (cond b false true && c)) q p)
choice p q true b c e f g = (inl (lt_true q.y p.y e), not_behind_itself q, inr refl)
choice p q false true c e f g = (not_behind_itself p, inl (lt_true p.y q.y f), inl refl)
choice p q false false true e f g =
    let l = lt_false q.y p.y e in
    let m = lt_false p.y q.y f in
    let n = lt_true q.x p.x g in
    (inr (omega (arith, ints, l, m), omega (arith, ints, n)), not_behind_itself q, inr refl)
choice p q false false false e f g =
    let l = lt_false q.y p.y e in
    let m = lt_false p.y q.y f in
    let n = lt_false q.x p.x g in
    (not_behind_itself p, inr (omega (arith, ints, l, m), n), inl refl)

-- the rules' choice of two
lesser_is : (p q : Point) → IsChoice p q (lesser p q)
lesser_is p q = choice p q (int_lt q.y p.y) (int_lt p.y q.y) (int_lt q.x p.x) refl refl refl

-- some points have one least
one_least : (m n : Point) (ps : List Point) → IsLeastPoint m ps → IsLeastPoint n ps → m ≡ n
one_least m n ps a b = not_behind_both m n (a.least n b.one) (b.least m a.one)

pub least_is : (p : Point) (qs : List Point) → IsLeastPoint (least_point p qs) (p ∷ qs)
unfolding IsOneOf
least_is p [] = record { one = inl refl; least = λ q i. elim i [ inl e ↦ subst (λ r. IsNotBehind p r) (sym e) (not_behind_itself p) | inr n ↦ absurd n ] }
least_is p (q ∷ qs) =
    let h = least_is q qs in
    let w = lesser_is p (least_point q qs) in
    record {
      one = elim w.2 [ inl e ↦ inl e | inr e ↦ inr (subst (λ r. IsOneOf r (q ∷ qs)) (sym e) h.one) ];
      least = λ r i. elim i [
        | inl e ↦ subst (λ z. IsNotBehind (lesser p (least_point q qs)) z) (sym e) w.0
        | inr j ↦ not_behind_on (lesser p (least_point q qs)) (least_point q qs) r w.1 (h.least r j)
      ];
    }

-- so the least one is the rules' one
pub least_point_of : (m p : Point) (qs : List Point) → IsLeastPoint m (p ∷ qs) → m ≡ least_point p qs
least_point_of m p qs h = one_least m (least_point p qs) (p ∷ qs) h (least_is p qs)

-- ---- the corners of one octagon

z_cases : (a b : ℤ) → a ≤ℤ b → (a <ℤ b) ⊎ (a ≡ b)
z_cases a b l = go (int_lt a b) refl
  where
    go : (t : Bool) → int_lt a b ≡ t → (a <ℤ b) ⊎ (a ≡ b)
    go true e = inl (lt_true a b e)
    go false e = inr (let m = lt_false a b e in omega (arith, ints, l, m))

in_front : (x y u v : ℤ) → y ≤ℤ v → (y ≡ v → x ≤ℤ u) → IsNotBehind (record { x = x; y = y }) (record { x = u; y = v })
in_front x y u v l h = elim (z_cases y v l) [ inl a ↦ inl a | inr e ↦ inr (e, h e) ]

pub top_left : (o : Bounds) → IsTight o → IsLeastPoint (record { x = o.s0 -ℤ o.y0; y = o.y0 }) (corners_of o)
unfolding IsOneOf
top_left o t = record { one = inl refl; least = each }
  where
    each : (q : Point) → IsOneOf q (corners_of o) → IsNotBehind (record { x = o.s0 -ℤ o.y0; y = o.y0 }) q
    each q (inl e) = subst (λ r. IsNotBehind (record { x = o.s0 -ℤ o.y0; y = o.y0 }) r) (sym e) (in_front _ _ _ _ (omega (arith, ints, t)) (λ f. omega (arith, ints, t, f)))
    each q (inr (inl e)) = subst (λ r. IsNotBehind (record { x = o.s0 -ℤ o.y0; y = o.y0 }) r) (sym e) (in_front _ _ _ _ (omega (arith, ints, t)) (λ f. omega (arith, ints, t, f)))
    each q (inr (inr (inl e))) = subst (λ r. IsNotBehind (record { x = o.s0 -ℤ o.y0; y = o.y0 }) r) (sym e) (in_front _ _ _ _ (omega (arith, ints, t)) (λ f. omega (arith, ints, t, f)))
    each q (inr (inr (inr (inl e)))) = subst (λ r. IsNotBehind (record { x = o.s0 -ℤ o.y0; y = o.y0 }) r) (sym e) (in_front _ _ _ _ (omega (arith, ints, t)) (λ f. omega (arith, ints, t, f)))
    each q (inr (inr (inr (inr (inl e))))) = subst (λ r. IsNotBehind (record { x = o.s0 -ℤ o.y0; y = o.y0 }) r) (sym e) (in_front _ _ _ _ (omega (arith, ints, t)) (λ f. omega (arith, ints, t, f)))
    each q (inr (inr (inr (inr (inr (inl e)))))) = subst (λ r. IsNotBehind (record { x = o.s0 -ℤ o.y0; y = o.y0 }) r) (sym e) (in_front _ _ _ _ (omega (arith, ints, t)) (λ f. omega (arith, ints, t, f)))
    each q (inr (inr (inr (inr (inr (inr (inl e))))))) = subst (λ r. IsNotBehind (record { x = o.s0 -ℤ o.y0; y = o.y0 }) r) (sym e) (in_front _ _ _ _ (omega (arith, ints, t)) (λ f. omega (arith, ints, t, f)))
    each q (inr (inr (inr (inr (inr (inr (inr (inl e)))))))) = subst (λ r. IsNotBehind (record { x = o.s0 -ℤ o.y0; y = o.y0 }) r) (sym e) (in_front _ _ _ _ (omega (arith, ints, t)) (λ f. omega (arith, ints, t, f)))
    each q (inr (inr (inr (inr (inr (inr (inr (inr n)))))))) = absurd n

at_corner : (x y : ℤ) (p : Point) → p ≡ record { x = x; y = y } → neg_ℤ (pos 250000000) ≤ℤ x → x ≤ℤ pos 250000000 → neg_ℤ (pos 250000000) ≤ℤ y → y ≤ℤ pos 250000000 → IsInRoom 250000000 p
at_corner x y p e a b c d = subst (IsInRoom 250000000) (sym e) (record { x = record { low = a; high = b }; y = record { low = c; high = d } })

pub corner_near : (o : Bounds) → IsNearPiece o → (p : Point) → IsOneOf p (corners_of o) → IsInRoom 250000000 p
unfolding IsOneOf
corner_near o h p (inl e) = let t = h.tight in let n = h.near in at_corner _ _ p e (omega (arith, ints, t, n)) (omega (arith, ints, t, n)) (omega (arith, ints, t, n)) (omega (arith, ints, t, n))
corner_near o h p (inr (inl e)) = let t = h.tight in let n = h.near in at_corner _ _ p e (omega (arith, ints, t, n)) (omega (arith, ints, t, n)) (omega (arith, ints, t, n)) (omega (arith, ints, t, n))
corner_near o h p (inr (inr (inl e))) = let t = h.tight in let n = h.near in at_corner _ _ p e (omega (arith, ints, t, n)) (omega (arith, ints, t, n)) (omega (arith, ints, t, n)) (omega (arith, ints, t, n))
corner_near o h p (inr (inr (inr (inl e)))) = let t = h.tight in let n = h.near in at_corner _ _ p e (omega (arith, ints, t, n)) (omega (arith, ints, t, n)) (omega (arith, ints, t, n)) (omega (arith, ints, t, n))
corner_near o h p (inr (inr (inr (inr (inl e))))) = let t = h.tight in let n = h.near in at_corner _ _ p e (omega (arith, ints, t, n)) (omega (arith, ints, t, n)) (omega (arith, ints, t, n)) (omega (arith, ints, t, n))
corner_near o h p (inr (inr (inr (inr (inr (inl e)))))) = let t = h.tight in let n = h.near in at_corner _ _ p e (omega (arith, ints, t, n)) (omega (arith, ints, t, n)) (omega (arith, ints, t, n)) (omega (arith, ints, t, n))
corner_near o h p (inr (inr (inr (inr (inr (inr (inl e))))))) = let t = h.tight in let n = h.near in at_corner _ _ p e (omega (arith, ints, t, n)) (omega (arith, ints, t, n)) (omega (arith, ints, t, n)) (omega (arith, ints, t, n))
corner_near o h p (inr (inr (inr (inr (inr (inr (inr (inl e)))))))) = let t = h.tight in let n = h.near in at_corner _ _ p e (omega (arith, ints, t, n)) (omega (arith, ints, t, n)) (omega (arith, ints, t, n)) (omega (arith, ints, t, n))
corner_near o h p (inr (inr (inr (inr (inr (inr (inr (inr n)))))))) = absurd n

-- ---- the least corner of several

least_join : (m p c : Point) (xs ys : List Point) → IsLeastPoint p xs → IsLeastPoint c ys → IsChoice p c m → IsLeastPoint m (xs ++ ys)
least_join m p c xs ys a b w = record {
  one = elim w.2 [
    | inl e ↦ subst (λ z. IsOneOf z (xs ++ ys)) (sym e) (one_front p xs ys a.one)
    | inr e ↦ subst (λ z. IsOneOf z (xs ++ ys)) (sym e) (one_back c xs ys b.one)
  ];
  least = λ q i. elim (one_split q xs ys i) [
    | inl j ↦ not_behind_on m p q w.0 (a.least q j)
    | inr j ↦ not_behind_on m c q w.1 (b.least q j)
  ];
}

only_corners : (o : Bounds) → flat_map corners_of (o ∷ []) ≡ corners_of o
only_corners o = append-nil (corners_of o)

pub least_none : (os : List Bounds) → os ≡ [] → IsLeastCorner os None
unfolding IsLeastCorner
least_none os e = e

pub least_more : (os : List Bounds) (o : Bounds) (best : Option Point) (c m : Point) → IsLeastCorner os best → IsLeastPoint c (corners_of o) → IsLesserOf best c m
    → IsLeastCorner (os ++ o ∷ []) (Some m)
unfolding IsLeastCorner IsLesserOf
least_more os o None c m h g w =
    subst (λ (z : List Bounds). IsLeastPoint m (flat_map corners_of (z ++ o ∷ []))) (sym h)
    (subst (IsLeastPoint m) (sym (only_corners o)) (subst (λ z. IsLeastPoint z (corners_of o)) (sym w) g))
least_more os o (Some p) c m h g w =
    subst (IsLeastPoint m) (sym (flat_map-append corners_of os (o ∷ [])))
    (least_join m p c (flat_map corners_of os) (flat_map corners_of (o ∷ [])) h (subst (IsLeastPoint c) (sym (only_corners o)) g) w)

-- what the rules say of the least corner: none where there is none
pub no_corner : (os : List Bounds) → IsLeastCorner os None → least_of (flat_map corners_of os) ≡ []
unfolding IsLeastCorner
no_corner os h = ap (λ (z : List Bounds). least_of (flat_map corners_of z)) h

pub some_corner : (os : List Bounds) (m : Point) → IsLeastCorner os (Some m) → least_of (flat_map corners_of os) ≡ in_nm m ∷ []
unfolding IsLeastCorner
some_corner os m h = go (flat_map corners_of os) h
  where
    go : (ps : List Point) → IsLeastPoint m ps → least_of ps ≡ in_nm m ∷ []
    go [] g = absurd (none_in m g.one)
    go (p ∷ ps) g = ap (λ (z : Point). in_nm z ∷ []) (sym (least_point_of m p ps g))

-- a corner of near pieces is near
pub least_near : (os : List Bounds) (m : Point) → ((o : Bounds) → IsOneOf o os → IsNearPiece o) → IsLeastCorner os (Some m) → IsInRoom 250000000 m
unfolding IsLeastCorner
least_near os m near h = let r = one_of_flat corners_of m os h.one in corner_near r.0 (near r.0 r.1) m r.2

-- ---- the pieces with a label, one after another

pub labelled_next : (first : ℕ) (os : List Bounds) (labels : List ℕ) (k : ℕ) (d : Bounds) → k < length os → k < length labels
    → labelled first (take (suc k) os) (take (suc k) labels) ≡ labelled first (take k os) (take k labels) ++ cond (get_or labels k 0 == first) (get_or os k d ∷ []) []
labelled_next first [] labels k d l m = absurd (omega (arith, l))
labelled_next first (o ∷ os) [] k d l m = absurd (omega (arith, m))
labelled_next first (o ∷ os) (label ∷ labels) zero d l m = refl
labelled_next first (o ∷ os) (label ∷ labels) (suc k) d l m =
    ap (λ (z : List Bounds). cond (label == first) (o ∷ z) z) (labelled_next first os labels k d (omega (arith, l)) (omega (arith, m)))
    ∙ behind (label == first) (labelled first (take k os) (take k labels)) (cond (get_or labels k 0 == first) (get_or os k d ∷ []) [])
  where
    behind : (b : Bool) (xs ys : List Bounds) → cond b (o ∷ (xs ++ ys)) (xs ++ ys) ≡ cond b (o ∷ xs) xs ++ ys
    behind true xs ys = refl
    behind false xs ys = refl

module _ (first : ℕ) (os : List Bounds) (labels : List ℕ) (k : ℕ) (o : Bounds) (label : ℕ) (l : k < length os) (m : k < length labels) (eo : o ≡ get_or os k o) (el : label ≡ get_or labels k 0) where
  pub labelled_yes : label ≡ first → labelled first (take (k + 1) os) (take (k + 1) labels) ≡ labelled first (take k os) (take k labels) ++ o ∷ []
  labelled_yes e =
      ap (λ (n : ℕ). labelled first (take n os) (take n labels)) (add-one k) ∙ labelled_next first os labels k o l m
      ∙ ap (λ (b : Bool). labelled first (take k os) (take k labels) ++ cond b (get_or os k o ∷ []) []) ((Decides-eqb (get_or labels k 0) first).1 (sym el ∙ e))
      ∙ ap (λ (z : Bounds). labelled first (take k os) (take k labels) ++ z ∷ []) (sym eo)

  pub labelled_no : (label ≡ first → ⊥) → labelled first (take (k + 1) os) (take (k + 1) labels) ≡ labelled first (take k os) (take k labels)
  labelled_no n =
      ap (λ (n : ℕ). labelled first (take n os) (take n labels)) (add-one k) ∙ labelled_next first os labels k o l m
      ∙ ap (λ (b : Bool). labelled first (take k os) (take k labels) ++ cond b (get_or os k o ∷ []) []) (not_true (get_or labels k 0 == first) (λ e. n (el ∙ (Decides-eqb (get_or labels k 0) first).0 e)))
      ∙ append-nil (labelled first (take k os) (take k labels))
    where
      not_true : (b : Bool) → (b ≡ true → ⊥) → b ≡ false
      not_true true f = absurd (f refl)
      not_true false f = refl

pub labelled_all : (first : ℕ) (os : List Bounds) (labels : List ℕ) (k : ℕ) → length os ≤ k → length labels ≡ length os
    → labelled first (take k os) (take k labels) ≡ labelled first os labels
labelled_all first os labels k l e =
    ap (λ (z : List Bounds). labelled first z (take k labels)) (take_all k os l) ∙ ap (λ (z : List ℕ). labelled first os z) (take_all k labels (omega (arith, l, e)))

-- one piece more
pub least_step : (first : ℕ) (os : List Bounds) (labels : List ℕ) (k : ℕ) (best next : Option Point) (o : Bounds) (c m : Point) → k < length os → k < length labels → o ≡ get_or os k o
    → get_or labels k 0 ≡ first → next ≡ Some m → IsLeastPoint c (corners_of o) → IsLesserOf best c m → IsLeastCorner (labelled first (take k os) (take k labels)) best
    → IsLeastCorner (labelled first (take (k + 1) os) (take (k + 1) labels)) next
least_step first os labels k best next o c m l n eo e en g w h =
    subst (λ (z : Option Point). IsLeastCorner (labelled first (take (k + 1) os) (take (k + 1) labels)) z) (sym en)
    (subst (λ (z : List Bounds). IsLeastCorner z (Some m)) (sym (labelled_yes first os labels k o (get_or labels k 0) l n eo refl e))
    (least_more (labelled first (take k os) (take k labels)) o best c m h g w))

pub least_stay : (first : ℕ) (os : List Bounds) (labels : List ℕ) (k : ℕ) (best next : Option Point) → k < length os → k < length labels → (get_or labels k 0 ≡ first → ⊥) → next ≡ best
    → IsLeastCorner (labelled first (take k os) (take k labels)) best → IsLeastCorner (labelled first (take (k + 1) os) (take (k + 1) labels)) next
least_stay first os labels k best next l n ne en h =
    let d : Bounds = record { x0 = pos 0; x1 = pos 0; y0 = pos 0; y1 = pos 0; s0 = pos 0; s1 = pos 0; d0 = pos 0; d1 = pos 0 } in
    subst (λ (z : Option Point). IsLeastCorner (labelled first (take (k + 1) os) (take (k + 1) labels)) z) (sym en)
    (subst (λ (z : List Bounds). IsLeastCorner z best)
    (sym (labelled_no first os labels k (get_or os k d) (get_or labels k 0) l n (get_or_default os k d (get_or os k d) l) refl ne)) h)

-- the left end of the top edge, as it is computed
pub corner_is : (o : Bounds) (s y : ℤ) → IsAround 250000000 o → IsTight o → s ≡ o.s0 → y ≡ o.y0
    → ◌≡◌ {A = Point} (record { x = to_z w64 (of_z w64 (to_z w64 (of_z w64 s) -ℤ to_z w64 (of_z w64 y))); y = to_z w64 (of_z w64 y) }) (record { x = o.s0 -ℤ o.y0; y = o.y0 })
corner_is o s y h t es ey = same_point _ _ (omega (arith, ints, h, t, es, ey)) (omega (arith, ints, h, t, ey))

-- what the rules say of the least corner
pub corner_ends : (os : List Bounds) (m : Option Point) → IsLeastCorner os m → option_list (λ (p : Point). in_nm p ∷ []) m ≡ least_of (flat_map corners_of os)
corner_ends os None h = sym (no_corner os h)
corner_ends os (Some m) h = sym (some_corner os m h)

pub corner_room : (os : List Bounds) (m : Option Point) → ((o : Bounds) → IsOneOf o os → IsNearPiece o) → IsLeastCorner os m → IfSome m (IsInRoom 250000000)
corner_room os None near h = tt
corner_room os (Some m) near h = least_near os m near h
