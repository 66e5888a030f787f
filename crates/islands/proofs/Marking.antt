-- Octagons are held together with their parts.
use Rattle.std.proofs.Common.{◌≡◌, refl, sym, ◌∙◌, ap, subst, ℕ, ◌+◌, ◌<◌, ◌≤◌, ◌⊎◌, inl, inr, arith, Bool, true, false, List, [], ◌∷◌, ◌++◌, length, get_or, set, replicate, length-set, length-append}
use Rattle.std.specs.Prelude.{◌↔◌, IsTrue, slice_get, Some, Any}
use Rattle.std.proofs.lemmas.Bool.{true≢false, cases_eq, cases_lt}
use Rattle.std.proofs.lemmas.Int.{ints}
use Rattle.std.proofs.lemmas.List.{get_or-set_same, get_or-set_other, get_or_default, get_or-replicate, length-replicate, get_or_append_left, get_or_push}
use Rattle.std.proofs.lemmas.Option.{slice_get_within}
use Rattle.plane.specs.Plane.{Bounds, times, IsMeeting}
use Rattle.touching.specs.Core.{area, Touches}
use Rattle.classes.proofs.Reaching.{reaches_self}
use Rattle.octagon.specs.Room.{IsAround}
use Rattle.cores.specs.Room.{IsCoreInRoom}
use Rattle.copper_shape.specs.Shapes.{Copper}
use Rattle.islands.specs.Parts.{IsMeetingAt, AreParts}
use Rattle.islands.specs.Held.{IsTouching, IsHeldDirectly, IsHeld}
use Rattle.islands.specs.Inner.Marks.{IsMarked, AreMarks}
use Rattle.islands.proofs.Members.{any_one, same_there}
use Rattle.islands.proofs.PartLaws.{parts_same}

-- ---- one octagon
pub oct_room : (o : Bounds) → IsAround 300000000 o → IsCoreInRoom 1200000000 (area (times 4 o))
unfolding IsCoreInRoom
oct_room o h = record {
  left = let a = h.x_low in omega (arith, ints);
  right = let a = h.x_high in omega (arith, ints);
  top = let a = h.y_low in omega (arith, ints);
  bottom = let a = h.y_high in omega (arith, ints);
}

pub oct_within : (o : Bounds) → IsAround 300000000 o → IsAround 500000000 o
oct_within o h = record {
  x_low = let a = h.x_low in omega (arith, ints);
  x_high = let a = h.x_high in omega (arith, ints);
  y_low = let a = h.y_low in omega (arith, ints);
  y_high = let a = h.y_high in omega (arith, ints);
}

pub touching_is : (c : Copper) (o : Bounds) (t : Bool) → IsTrue t ↔ Touches (c.radius + 0) c.core (area (times 4 o)) → IsTrue t ↔ IsTouching c o
unfolding IsTouching
touching_is c o t h = let e : c.radius + 0 ≡ c.radius = omega arith in subst (λ r. IsTrue t ↔ Touches r c.core (area (times 4 o))) e h

pub held_directly : (anchors : List Copper) (live : List Bounds) (o : Bounds) (t u r : Bool) → IsTrue t ↔ Any (λ l. IsMeeting l o) live
    → IsTrue u ↔ Any (λ s. IsTouching s o) anchors → IsTrue r ↔ (IsTrue t ⊎ IsTrue u) → IsTrue r ↔ IsHeldDirectly anchors live o
unfolding IsHeldDirectly
held_directly anchors live o t u r h g e = (
  λ x. elim (e.0 x) [ inl a ↦ inl ((any_one (λ l. IsMeeting l o) live).0 (h.0 a)) | inr a ↦ inr ((any_one (λ s. IsTouching s o) anchors).0 (g.0 a)) ],
  λ x. e.1 (elim x [ inl a ↦ inl (h.1 ((any_one (λ l. IsMeeting l o) live).1 a)) | inr a ↦ inr (g.1 ((any_one (λ s. IsTouching s o) anchors).1 a)) ]),
)

-- ---- the shapes of a list
pub some_touches : (anchors : List Copper) (o : Bounds) (i : ℕ) (s : Copper) → i < length anchors → s ≡ get_or anchors i s → IsTouching s o
    → IsTrue true ↔ Any (λ a. IsTouching a o) anchors
some_touches anchors o i s l e t = (λ x. (i, s, l, sym e, t), λ x. refl)

pub none_more : (anchors : List Copper) (o : Bounds) (i : ℕ) (s : Copper) → i < length anchors → s ≡ get_or anchors i s → (IsTouching s o → ⊥)
    → ((k : ℕ) (d : Copper) → k < i → IsTouching (get_or anchors k d) o → ⊥) → (k : ℕ) (d : Copper) → k < i + 1 → IsTouching (get_or anchors k d) o → ⊥
none_more anchors o i s l e n h k d m t = elim (cases_lt k i) [
  | inl j ↦ h k d j t
  | inr j ↦ (let f : k ≡ i = omega (arith, j, m) in
      n (subst (λ (x : Copper). IsTouching x o) (get_or_default anchors i d s l ∙ sym e) (subst (λ x. IsTouching (get_or anchors x d) o) f t)))
]

pub none_touch : (anchors : List Copper) (o : Bounds) (i : ℕ) → length anchors ≤ i → ((k : ℕ) (d : Copper) → k < i → IsTouching (get_or anchors k d) o → ⊥)
    → IsTrue false ↔ Any (λ a. IsTouching a o) anchors
none_touch anchors o i l h = (
  λ x. absurd (true≢false (sym x)),
  λ a. absurd (h a.0 a.1 (let m = a.2 in omega (arith, l, m)) (subst (λ (x : Copper). IsTouching x o) (sym a.3) a.4)),
)

-- ---- labels and marks
pub label_below : (octs : List Bounds) (labels : List ℕ) → AreParts octs labels → (k : ℕ) → k < length octs → get_or labels k 0 < length octs
label_below octs labels a k l = let m : get_or labels k 0 ≤ k = (a.least k l).least k (reaches_self (IsMeetingAt octs) k) in omega (arith, l, m)

marked_more : (octs : List Bounds) (labels : List ℕ) (anchors : List Copper) (live : List Bounds) (i label : ℕ)
    → IsMarked octs labels anchors live i label → IsMarked octs labels anchors live (i + 1) label
marked_more octs labels anchors live i label m = record {
  at = m.at;
  oct = m.oct;
  before = let l = m.before in omega (arith, l);
  labelled = m.labelled;
  there = m.there;
  directly = m.directly;
}

pub marks_none : (octs : List Bounds) (labels : List ℕ) (anchors : List Copper) (live : List Bounds)
    → AreMarks octs labels anchors live 0 (replicate (length octs) false)
marks_none octs labels anchors live = record {
  count = length-replicate (length octs) false;
  each = λ label l. (
    λ e. absurd (true≢false (sym e ∙ get_or-replicate (length octs) label false false l)),
    λ m. absurd (let b = m.before in omega (arith, b)),
  );
}

module _ (octs : List Bounds) (labels : List ℕ) (anchors : List Copper) (live : List Bounds) (i : ℕ) (marks : List Bool) (o : Bounds)
    (there : slice_get octs i ≡ Some o) (h : AreMarks octs labels anchors live i marks) where
  abbrev Marked : ℕ → ℕ → Type 0
  Marked n label = IsMarked octs labels anchors live n label

  -- the last one, or one before it
  last_marked : (label : ℕ) → Marked (i + 1) label → Marked i label ⊎ ((get_or labels i 0 ≡ label) × IsHeldDirectly anchors live o)
  last_marked label m = elim (cases_lt m.at i) [
    | inl l ↦ inl (record { at = m.at; oct = m.oct; before = l; labelled = m.labelled; there = m.there; directly = m.directly })
    | inr l ↦ (let b = m.before in let e : m.at ≡ i = omega (arith, b, l) in
        inr (
          subst (λ k. get_or labels k 0 ≡ label) e m.labelled,
          subst (IsHeldDirectly anchors live) (same_there octs i m.oct o (subst (λ k. slice_get octs k ≡ Some m.oct) e m.there) there) m.directly,
        ))
  ]

  set_to : (label : ℕ) → label < length octs → IsHeldDirectly anchors live o → get_or (set marks (get_or labels i 0) true) label false ≡ true → Marked (i + 1) label
  set_to label l a e = elim (cases_eq label (get_or labels i 0)) [
    | inl f ↦ record { at = i; oct = o; before = omega arith; labelled = sym f; there = there; directly = a }
    | inr n ↦ marked_more octs labels anchors live i label ((h.each label l).0 (sym (get_or-set_other marks (get_or labels i 0) label true false n) ∙ e))
  ]

  set_here : (label : ℕ) → label < length octs → get_or labels i 0 ≡ label → get_or (set marks (get_or labels i 0) true) label false ≡ true
  set_here label l e =
      subst (λ x. get_or (set marks x true) label false ≡ true) (sym e)
      (get_or-set_same marks label true false (let c = h.count in omega (arith, c, l)))

  set_from : (label : ℕ) → label < length octs → Marked (i + 1) label → get_or (set marks (get_or labels i 0) true) label false ≡ true
  set_from label l m = elim (cases_eq label (get_or labels i 0)) [
    | inl f ↦ set_here label l (sym f)
    | inr n ↦ elim (last_marked label m) [
      | inl a ↦ get_or-set_other marks (get_or labels i 0) label true false n ∙ (h.each label l).1 a
      | inr a ↦ absurd (n (sym a.0))
    ]
  ]

  stay_from : (label : ℕ) → label < length octs → (get_or marks (get_or labels i 0) false ≡ true) ⊎ (IsHeldDirectly anchors live o → ⊥)
      → Marked (i + 1) label → get_or marks label false ≡ true
  stay_from label l s m = elim (last_marked label m) [
    | inl a ↦ (h.each label l).1 a
    | inr a ↦ elim s [ inl e ↦ subst (λ x. get_or marks x false ≡ true) a.0 e | inr n ↦ absurd (n a.1) ]
  ]

pub marks_set : (octs : List Bounds) (labels : List ℕ) (anchors : List Copper) (live : List Bounds) (i : ℕ) (marks : List Bool) (o : Bounds)
    → slice_get octs i ≡ Some o → AreMarks octs labels anchors live i marks → IsHeldDirectly anchors live o
    → AreMarks octs labels anchors live (i + 1) (set marks (get_or labels i 0) true)
marks_set octs labels anchors live i marks o t h a = record {
  count = length-set marks (get_or labels i 0) true ∙ h.count;
  each = λ label l. (λ e. set_to octs labels anchors live i marks o t h label l a e, λ m. set_from octs labels anchors live i marks o t h label l m);
}

pub marks_stay : (octs : List Bounds) (labels : List ℕ) (anchors : List Copper) (live : List Bounds) (i : ℕ) (marks : List Bool) (o : Bounds)
    → slice_get octs i ≡ Some o → AreMarks octs labels anchors live i marks → (get_or marks (get_or labels i 0) false ≡ true) ⊎ (IsHeldDirectly anchors live o → ⊥)
    → AreMarks octs labels anchors live (i + 1) marks
marks_stay octs labels anchors live i marks o t h s = record {
  count = h.count;
  each = λ label l. (λ e. marked_more octs labels anchors live i label ((h.each label l).0 e), λ m. stay_from octs labels anchors live i marks o t h label l s m);
}

-- an octagon is held where its label is marked
pub held_is : (octs : List Bounds) (labels : List ℕ) (anchors : List Copper) (live : List Bounds) (marks : List Bool) (k : ℕ) → AreParts octs labels
    → AreMarks octs labels anchors live (length octs) marks → k < length octs → (get_or marks (get_or labels k 0) false ≡ true) ↔ IsHeld octs anchors live k
held_is octs labels anchors live marks k a h l = (
  λ e. let m = (h.each (get_or labels k 0) (label_below octs labels a k l)).0 e in
      record { at = m.at; oct = m.oct; together = (parts_same octs labels a k m.at l m.before).0 (sym m.labelled); there = m.there; directly = m.directly },
  λ w. let b = slice_get_within octs w.at w.oct w.there in
      (h.each (get_or labels k 0) (label_below octs labels a k l)).1
      (record { at = w.at; oct = w.oct; before = b; labelled = sym ((parts_same octs labels a k w.at l b).1 w.together); there = w.there; directly = w.directly }),
)

-- the marks of the first n labels
pub record AreRead (labels : List ℕ) (marks : List Bool) (n : ℕ) (kept : List Bool) : Type 0 where
  pub count : length kept ≡ n
  pub each : (k : ℕ) → k < n → get_or kept k false ≡ get_or marks (get_or labels k 0) false

pub read_more : (labels : List ℕ) (marks : List Bool) (n : ℕ) (kept : List Bool) (b : Bool) → b ≡ get_or marks (get_or labels n 0) false
    → AreRead labels marks n kept → AreRead labels marks (n + 1) (kept ++ (b ∷ []))
read_more labels marks n kept b e h = record {
  count = let a = length-append kept (b ∷ []) in let c = h.count in omega (arith, a, c);
  each = λ k l. elim (cases_lt k n) [
    | inl m ↦ get_or_append_left kept (b ∷ []) false k (let c = h.count in omega (arith, c, m)) ∙ h.each k m
    | inr m ↦ (let f : n ≡ k = omega (arith, l, m) in get_or_push kept b false k (h.count ∙ f) ∙ (e ∙ ap (λ (j : ℕ). get_or marks (get_or labels j 0) false) f))
  ];
}

-- all labels are read: what is held
pub read_held : (octs : List Bounds) (labels : List ℕ) (anchors : List Copper) (live : List Bounds) (marks kept : List Bool) (n : ℕ) → length labels ≤ n
    → AreParts octs labels → AreMarks octs labels anchors live (length octs) marks → AreRead labels marks n kept
    → (k : ℕ) → k < length octs → (get_or kept k false ≡ true) ↔ IsHeld octs anchors live k
read_held octs labels anchors live marks kept n m a h r k l =
    let e : get_or kept k false ≡ get_or marks (get_or labels k 0) false = r.each k (let c = a.each in omega (arith, c, m, l)) in
    let w = held_is octs labels anchors live marks k a h l in
    (λ x. w.0 (sym e ∙ x), λ y. e ∙ w.1 y)

-- an octagon that isn't new has its label marked, or isn't held
pub marks_old : (anchors : List Copper) (live : List Bounds) (o : Bounds) (m t : Bool) → t ≡ false
    → IsTrue t ⊎ ((m ≡ true) ⊎ (IsHeldDirectly anchors live o → ⊥)) → (m ≡ true) ⊎ (IsHeldDirectly anchors live o → ⊥)
marks_old anchors live o m t e (inl x) = absurd (true≢false (sym x ∙ e))
marks_old anchors live o m t e (inr y) = y
