-- The boundary edges don't overlap, and none stands twice; any two lists of them have the same edges.
use Rattle.std.proofs.Common.{◌≡◌, refl, sym, subst, ap, ◌∙◌, ◌⊎◌, inl, inr, arith, List, [], ◌∷◌}
use Rattle.std.specs.Prelude.{◌<ℤ◌}
use Rattle.std.proofs.lemmas.Int.{ints, by_lt_z}
use Rattle.grid_num.specs.declared.Point.{Point}
use Rattle.plane.specs.Covering.{Edge}
use Rattle.strips.specs.declared.Strip.{Strip}
use Rattle.rings.specs.Turning.{direction}
use Rattle.rings.specs.Boundary.{left_edge, right_edge, side_edges, AreNeighbours, IsLevelPart, AreBoundary}
use Rattle.rings.proofs.Lists.{Has, has_of, has_left, has_right, has_parts, NoRepeats, no_repeats_append, all_at, Rising, rising_of}
use Rattle.rings.proofs.Order.{point_same}
use Rattle.rings.proofs.Lines.{line, along, GoesOn, IsGood, direction_is}
use Rattle.rings.proofs.Parted.{IsAlong, OnHalf, AreGood, AreParted}
use Rattle.rings.proofs.Unique.{edge_same, AreSame}
use Rattle.rings.proofs.Sides.{AreOrdered, LeftAt, RightAt, left_is, right_is, left_parted, right_parted}

-- ---- sides
pub data IsSide (ss : List Strip) (e : Edge) : Type 0 where
  Left : (s : Strip) → Has ss s → e ≡ left_edge s → IsSide ss e
  Right : (s : Strip) → Has ss s → e ≡ right_edge s → IsSide ss e

side_more : (t : Strip) (ss : List Strip) (e : Edge) → IsSide ss e → IsSide (t ∷ ss) e
unfolding Has
side_more t ss e (Left s h k) = Left s (inr h) k
side_more t ss e (Right s h k) = Right s (inr h) k

pub is_side : (ss : List Strip) (e : Edge) → Has (side_edges ss) e → IsSide ss e
unfolding side_edges Has
is_side [] e h = absurd h
is_side (s ∷ ss) e (inl k) = Left s (inl refl) (sym k)
is_side (s ∷ ss) e (inr (inl k)) = Right s (inl refl) (sym k)
is_side (s ∷ ss) e (inr (inr h)) = side_more s ss e (is_side ss e h)

pub left_has : (ss : List Strip) (s : Strip) → Has ss s → Has (side_edges ss) (left_edge s)
unfolding side_edges Has
left_has [] s h = absurd h
left_has (t ∷ ss) s (inl e) = inl (ap left_edge e)
left_has (t ∷ ss) s (inr h) = inr (inr (left_has ss s h))

pub right_has : (ss : List Strip) (s : Strip) → Has ss s → Has (side_edges ss) (right_edge s)
unfolding side_edges Has
right_has [] s h = absurd h
right_has (t ∷ ss) s (inl e) = inr (inl (ap right_edge e))
right_has (t ∷ ss) s (inr h) = inr (inr (right_has ss s h))

pub side_good : (ss : List Strip) → AreOrdered ss → (e : Edge) → IsSide ss e → IsGood e
side_good ss o e (Left s h k) = subst IsGood (sym k) (left_is s (o.shape s h)).1
side_good ss o e (Right s h k) = subst IsGood (sym k) (right_is s (o.shape s h)).1

-- a side goes neither to the right nor to the left
pub side_slope : (ss : List Strip) → AreOrdered ss → (e : Edge) → IsSide ss e → (direction e ≡ 0 → ⊥) × (direction e ≡ 4 → ⊥)
unfolding LeftAt RightAt
side_slope ss o e (Left s h k) = let c = (left_is s (o.shape s h)).0 in let d = ap direction k in (λ z. omega (arith, c, d, z), λ z. omega (arith, c, d, z))
side_slope ss o e (Right s h k) = let c = (right_is s (o.shape s h)).0 in let d = ap direction k in (λ z. omega (arith, c, d, z), λ z. omega (arith, c, d, z))

left_not_right : (ss : List Strip) → AreOrdered ss → (s t : Strip) → Has ss s → Has ss t → direction (left_edge s) ≡ direction (right_edge t) → ⊥
unfolding LeftAt RightAt
left_not_right ss o s t h i d = let a = (left_is s (o.shape s h)).0 in let b = (right_is t (o.shape t i)).0 in omega (arith, a, b, d)

side_parted : (ss : List Strip) → AreOrdered ss → (e f : Edge) (q : Point) → IsSide ss e → IsSide ss f → direction e ≡ direction f → OnHalf e q → OnHalf f q → e ≡ f
side_parted ss o e f q (Left s h k) (Left t i l) d a b =
    k ∙ left_parted ss o s t q h i (ap direction (sym k) ∙ d ∙ ap direction l) (subst (λ z. OnHalf z q) k a) (subst (λ z. OnHalf z q) l b) ∙ sym l
side_parted ss o e f q (Left s h k) (Right t i l) d a b = absurd (left_not_right ss o s t h i (ap direction (sym k) ∙ d ∙ ap direction l))
side_parted ss o e f q (Right s h k) (Left t i l) d a b = absurd (left_not_right ss o t s i h (ap direction (sym l) ∙ sym d ∙ ap direction k))
side_parted ss o e f q (Right s h k) (Right t i l) d a b =
    k ∙ right_parted ss o s t q h i (ap direction (sym k) ∙ d ∙ ap direction l) (subst (λ z. OnHalf z q) k a) (subst (λ z. OnHalf z q) l b) ∙ sym l

-- ---- no side twice
pub ordered_tail : (s : Strip) (ss : List Strip) → AreOrdered (s ∷ ss) → AreOrdered ss
unfolding Rising Has
ordered_tail s ss o = record { shape = λ t h. o.shape t (inr h); order = (o.order).1 }

not_again : (s : Strip) (ss : List Strip) → AreOrdered (s ∷ ss) → (t : Strip) → Has ss t
    → s.top ≡ t.top → ((s.left ≡ t.left) × (s.left_end ≡ t.left_end)) ⊎ ((s.right ≡ t.right) × (s.right_end ≡ t.right_end)) → ⊥
unfolding Rising Has
not_again s ss o t h k (inl (l, m)) = let d = (o.shape s (inl refl)).down in let w = (o.shape s (inl refl)).wide in elim ((o.order).0 t h) [
  | inl b ↦ omega (arith, ints, b, k, d)
  | inr c ↦ (let g = (c.2).gap in omega (arith, ints, g, l, m, w))
]
not_again s ss o t h k (inr (l, m)) = let d = (o.shape s (inl refl)).down in let w = (o.shape t (inr h)).wide in elim ((o.order).0 t h) [
  | inl b ↦ omega (arith, ints, b, k, d)
  | inr c ↦ (let g = (c.2).gap in omega (arith, ints, g, l, m, w))
]

sides_once : (ss : List Strip) → AreOrdered ss → NoRepeats (side_edges ss)
unfolding side_edges NoRepeats Has
sides_once [] o = tt
sides_once (s ∷ ss) o = (
  λ h. elim h [
    | inl k ↦ left_not_right (s ∷ ss) o s s (inl refl) (inl refl) (ap direction (sym k))
    | inr h ↦ left_first (is_side ss (left_edge s) h)
  ],
  (λ h. right_first (is_side ss (right_edge s) h), sides_once ss (ordered_tail s ss o)),
)
  where
    left_first : IsSide ss (left_edge s) → ⊥
    left_first (Left t i k) = not_again s ss o t i (ap (λ e. e.finish.y) k) (inl (ap (λ e. e.finish.x) k, ap (λ e. e.start.x) k))
    left_first (Right t i k) = left_not_right (s ∷ ss) o s t (inl refl) (inr i) (ap direction k)

    right_first : IsSide ss (right_edge s) → ⊥
    right_first (Left t i k) = left_not_right (s ∷ ss) o t s (inr i) (inl refl) (ap direction (sym k))
    right_first (Right t i k) = not_again s ss o t i (ap (λ e. e.start.y) k) (inr (ap (λ e. e.start.x) k, ap (λ e. e.finish.x) k))

-- ---- level parts
pub neighbours_same : (ss : List Strip) (a b c d : Point) → AreNeighbours ss a b → AreNeighbours ss c d → a.y ≡ c.y → a.x <ℤ d.x → c.x <ℤ b.x → (a ≡ c) × (b ≡ d)
neighbours_same ss a b c d m n r u v = (
  point_same a c
      (by_lt_z {P = a.x ≡ c.x} a.x c.x (λ l. absurd (m.next c n.first (sym r) l v)) (λ l. by_lt_z {P = a.x ≡ c.x} c.x a.x (λ k. absurd (n.next a m.first r k u)) (λ k. omega (arith, ints, l, k))))
      r,
  point_same b d
      (by_lt_z {P = b.x ≡ d.x} b.x d.x (λ l. absurd (n.next b m.second (sym m.level ∙ r) v l)) (λ l. by_lt_z {P = b.x ≡ d.x} d.x b.x (λ k. absurd (m.next d n.second (sym n.level ∙ sym r) u k)) (λ k. omega (arith, ints, l, k))))
      (sym m.level ∙ r ∙ n.level),
)

pub rightward : (ss : List Strip) (e : Edge) → AreNeighbours ss e.start e.finish → (direction e ≡ 0) × IsGood e
unfolding line along
rightward ss e n =
    let g : GoesOn 0 e = record { line = sym n.level; on = n.rising } in
    let d = direction_is 0 (omega arith) e g in
    (d, subst (λ k. GoesOn k e) (sym d) g)

pub leftward : (ss : List Strip) (e : Edge) → AreNeighbours ss e.finish e.start → (direction e ≡ 4) × IsGood e
unfolding line along
leftward ss e n =
    let g : GoesOn 4 e = record { line = n.level; on = (let r = n.rising in omega (arith, ints, r)) } in
    let d = direction_is 4 (omega arith) e g in
    (d, subst (λ k. GoesOn k e) (sym d) g)

pub level_good : (ss : List Strip) (e : Edge) → IsLevelPart ss e → IsGood e × ((direction e ≡ 0) ⊎ (direction e ≡ 4))
unfolding IsLevelPart
level_good ss e (inl (n, h)) = let r = rightward ss e n in (r.1, inl r.0)
level_good ss e (inr (n, h)) = let r = leftward ss e n in (r.1, inr r.0)

right_same : (ss : List Strip) (e f : Edge) (q : Point) → AreNeighbours ss e.start e.finish → AreNeighbours ss f.start f.finish → IsAlong 0 e q → IsAlong 0 f q → e ≡ f
unfolding line along
right_same ss e f q m n a b =
    let l = a.line in let k = b.line in let a0 = a.from in let a1 = a.to in let b0 = b.from in let b1 = b.to in
    let s = neighbours_same ss e.start e.finish f.start f.finish m n (sym l ∙ k) (omega (arith, ints, a0, b1)) (omega (arith, ints, b0, a1)) in
    edge_same e f s.0 s.1

left_same : (ss : List Strip) (e f : Edge) (q : Point) → AreNeighbours ss e.finish e.start → AreNeighbours ss f.finish f.start → IsAlong 4 e q → IsAlong 4 f q → e ≡ f
unfolding line along
left_same ss e f q m n a b =
    let l = a.line in let k = b.line in let a0 = a.from in let a1 = a.to in let b0 = b.from in let b1 = b.to in
    let s = neighbours_same ss e.finish e.start f.finish f.start m n (m.level ∙ sym l ∙ k ∙ sym n.level) (omega (arith, ints, a1, b0)) (omega (arith, ints, b1, a0)) in
    edge_same e f s.1 s.0

level_parted : (ss : List Strip) (e f : Edge) (q : Point) → IsLevelPart ss e → IsLevelPart ss f → direction e ≡ direction f → OnHalf e q → OnHalf f q → e ≡ f
unfolding IsLevelPart
level_parted ss e f q (inl (m, h)) (inl (n, i)) d a b =
    right_same ss e f q m n (subst (λ k. IsAlong k e q) (rightward ss e m).0 a) (subst (λ k. IsAlong k f q) (rightward ss f n).0 b)
level_parted ss e f q (inl (m, h)) (inr (n, i)) d a b = absurd (let k = (rightward ss e m).0 in let l = (leftward ss f n).0 in omega (arith, k, l, d))
level_parted ss e f q (inr (m, h)) (inl (n, i)) d a b = absurd (let k = (leftward ss e m).0 in let l = (rightward ss f n).0 in omega (arith, k, l, d))
level_parted ss e f q (inr (m, h)) (inr (n, i)) d a b =
    left_same ss e f q m n (subst (λ k. IsAlong k e q) (leftward ss e m).0 a) (subst (λ k. IsAlong k f q) (leftward ss f n).0 b)

-- ---- all boundary edges
pub data IsBound (ss : List Strip) (e : Edge) : Type 0 where
  Side : IsSide ss e → IsBound ss e
  Level : IsLevelPart ss e → IsBound ss e

pub is_bound : (ss : List Strip) (es : List Edge) → AreBoundary ss es → (e : Edge) → Has es e → IsBound ss e
is_bound ss es b e h = elim (has_parts (side_edges ss) b.parts e (subst (λ z. Has z e) b.all h)) [
  | inl i ↦ Side (is_side ss e i)
  | inr i ↦ Level (all_at (IsLevelPart ss) b.parts e (b.level).each i)
]

pub bound_has : (ss : List Strip) (es : List Edge) → AreBoundary ss es → (e : Edge) → IsBound ss e → Has es e
bound_has ss es b e (Side (Left s h k)) = subst (λ z. Has z e) (sym b.all) (has_left (side_edges ss) b.parts e (subst (Has (side_edges ss)) (sym k) (left_has ss s h)))
bound_has ss es b e (Side (Right s h k)) = subst (λ z. Has z e) (sym b.all) (has_left (side_edges ss) b.parts e (subst (Has (side_edges ss)) (sym k) (right_has ss s h)))
bound_has ss es b e (Level l) = subst (λ z. Has z e) (sym b.all) (has_right (side_edges ss) b.parts e (has_of b.parts e ((b.level).whole e l)))

bound_good : (ss : List Strip) → AreOrdered ss → (e : Edge) → IsBound ss e → IsGood e
bound_good ss o e (Side s) = side_good ss o e s
bound_good ss o e (Level l) = (level_good ss e l).0

side_not_level : (ss : List Strip) → AreOrdered ss → (e f : Edge) → IsSide ss e → IsLevelPart ss f → direction e ≡ direction f → ⊥
side_not_level ss o e f s l d = let a = side_slope ss o e s in elim (level_good ss f l).1 [ inl k ↦ a.0 (d ∙ k) | inr k ↦ a.1 (d ∙ k) ]

bound_parted : (ss : List Strip) → AreOrdered ss → (e f : Edge) (q : Point) → IsBound ss e → IsBound ss f → direction e ≡ direction f → OnHalf e q → OnHalf f q → e ≡ f
bound_parted ss o e f q (Side s) (Side t) d a b = side_parted ss o e f q s t d a b
bound_parted ss o e f q (Side s) (Level t) d a b = absurd (side_not_level ss o e f s t d)
bound_parted ss o e f q (Level s) (Side t) d a b = absurd (side_not_level ss o f e t s (sym d))
bound_parted ss o e f q (Level s) (Level t) d a b = level_parted ss e f q s t d a b

rising_once : (es : List Edge) → Rising (λ e f. e ≡ f → ⊥) es → NoRepeats es
unfolding Rising NoRepeats
rising_once [] r = tt
rising_once (e ∷ es) r = (λ h. r.0 e h refl, rising_once es r.1)

pub boundary_good : (ss : List Strip) (es : List Edge) → AreOrdered ss → AreBoundary ss es → AreGood es
unfolding AreGood
boundary_good ss es o b e h = bound_good ss o e (is_bound ss es b e h)

pub boundary_parted : (ss : List Strip) (es : List Edge) → AreOrdered ss → AreBoundary ss es → AreParted es
unfolding AreParted
boundary_parted ss es o b e f q h i d u v = bound_parted ss o e f q (is_bound ss es b e h) (is_bound ss es b f i) d u v

pub boundary_once : (ss : List Strip) (es : List Edge) → AreOrdered ss → AreBoundary ss es → NoRepeats es
boundary_once ss es o b =
    subst NoRepeats (sym b.all)
    (no_repeats_append (side_edges ss) b.parts (sides_once ss o) (rising_once b.parts (rising_of (λ e f. e ≡ f → ⊥) b.parts (b.level).once))
    (λ e h i. side_not_level ss o e e (is_side ss e h) (all_at (IsLevelPart ss) b.parts e (b.level).each i) refl))

pub boundary_same : (ss : List Strip) (es fs : List Edge) → AreBoundary ss es → AreBoundary ss fs → AreSame es fs
boundary_same ss es fs a b = record {
  there = λ e h. bound_has ss fs b e (is_bound ss es a e h);
  back = λ e h. bound_has ss es a e (is_bound ss fs b e h);
}
