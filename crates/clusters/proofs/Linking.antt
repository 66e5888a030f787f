-- The nodes to which patches lead, as they are gathered.
use Rattle.std.proofs.Common.{◌≡◌, refl, sym, ◌∙◌, ap, subst, ℕ, ◌+◌, ◌<◌, ◌≤◌, ◌⊎◌, inl, inr, arith, true, false, ltb, leb, ltb-true, ltb-false, leb-true, leb-false, List, [], ◌∷◌, ◌++◌, length, get_or, take}
use Rattle.std.specs.Prelude.{slice_get, Some}
use Rattle.std.specs.List.{All}
use Rattle.std.specs.List.Sorted.{IsPartitionPoint}
use Rattle.std.proofs.lemmas.Bool.{cases_eq, cases_lt}
use Rattle.std.proofs.lemmas.List.{take_more, take_all, get_or-map, length-map}
use Rattle.std.proofs.lemmas.Option.{slice_get_within, slice_get_read, slice_get-get_or, get_or_from_slice_get, same_Some}
use Rattle.plane.specs.Plane.{Bounds, IsMeeting}
use Rattle.plane.proofs.Near.{IsMeeting-sym}
use Rattle.classes.specs.Classes.{IsOneOf}
use Rattle.islands.proofs.Members.{one_front, one_last, last_split, none_in, one_at, one_place, all_of}
use Rattle.bins.specs.Meeting.{AreThoseMeeting}
use Rattle.spreading.specs.Labels.{AreThoseLinked}
use Rattle.clusters.specs.declared.patch.Patch.{Patch}
use Rattle.clusters.specs.Inner.Patches.{IsPatchNeighbour, AreNodesLinkedBy}
use Rattle.clusters.specs.Inner.Links.{patch_hulls, LeadsInto, AreAdded, IsWayByPatches, AreGathered}
use Rattle.clusters.proofs.Links.{leads_of, linked_of}

-- ---- patches by their places
there_in : (ps : List Patch) (k : ℕ) (p : Patch) → slice_get ps k ≡ Some p → IsOneOf p ps
there_in ps k p e = subst (λ (z : Patch). IsOneOf z ps) (get_or_from_slice_get ps k p p e) (one_at ps k p (slice_get_within ps k p e))

place_in : (ps : List Patch) (p : Patch) → IsOneOf p ps → (k : ℕ) × (slice_get ps k ≡ Some p)
place_in ps p i = let a = one_place p ps i in (a.0, slice_get-get_or ps a.0 p a.1 ∙ ap (λ (z : Patch). Some z) (a.2 p))

same_item : (ps : List Patch) (k : ℕ) (p q : Patch) → slice_get ps k ≡ Some p → slice_get ps k ≡ Some q → p ≡ q
same_item ps k p q e f = same_Some p q (sym e ∙ f)

hull_there : (ps : List Patch) (k : ℕ) (p : Patch) → slice_get ps k ≡ Some p → slice_get (patch_hulls ps) k ≡ Some p.hull
hull_there ps k p e =
    let l = slice_get_within ps k p e in
    let n = length-map ps (λ (q : Patch). q.hull) in
    slice_get-get_or (patch_hulls ps) k p.hull (omega (arith, l, n))
    ∙ ap (λ (h : Bounds). Some h) (get_or-map (λ (q : Patch). q.hull) ps k p p.hull l ∙ ap (λ (q : Patch). q.hull) (get_or_from_slice_get ps k p p e))

-- ---- what is added for one patch
pub added_none : (ps : List Patch) (p : Patch) (before : List ℕ) → AreAdded ps p [] before before
added_none ps p before y = (λ i. inl i, λ h. elim h [ inl i ↦ i | inr w ↦ absurd (none_in w.place w.one) ])

module _ (ps : List Patch) (p : Patch) (seen : List ℕ) (x : ℕ) (q : Patch) (at : slice_get ps x ≡ Some q) where
  led_on : (y : ℕ) → LeadsInto ps p seen y → LeadsInto ps p (seen ++ (x ∷ [])) y
  led_on y w = record { place = w.place; other = w.other; one = one_front w.place seen (x ∷ []) w.one; there = w.there; on = w.on; to = w.to }

  led_back : (y : ℕ) → LeadsInto ps p (seen ++ (x ∷ [])) y → LeadsInto ps p seen y ⊎ (IsPatchNeighbour p q × (q.node ≡ y))
  led_back y w = elim (last_split w.place x seen w.one) [
    | inl i ↦ inl (record { place = w.place; other = w.other; one = i; there = w.there; on = w.on; to = w.to })
    | inr e ↦ (let s : w.other ≡ q = same_item ps x w.other q (subst (λ k. slice_get ps k ≡ Some w.other) e w.there) at in
        inr (subst (IsPatchNeighbour p) s w.on, sym (ap (λ (z : Patch). z.node) s) ∙ w.to))
  ]

  added_past : (before after : List ℕ) → (IsPatchNeighbour p q → ⊥) → AreAdded ps p seen before after → AreAdded ps p (seen ++ (x ∷ [])) before after
  added_past before after n h y = (
    λ i. elim ((h y).0 i) [ inl a ↦ inl a | inr w ↦ inr (led_on y w) ],
    λ i. elim i [ inl a ↦ (h y).1 (inl a) | inr w ↦ elim (led_back y w) [ inl v ↦ (h y).1 (inr v) | inr v ↦ absurd (n v.0) ] ],
  )

  added_to : (before after : List ℕ) → IsPatchNeighbour p q → AreAdded ps p seen before after → AreAdded ps p (seen ++ (x ∷ [])) before (after ++ (q.node ∷ []))
  added_to before after l h y = (
    λ i. elim (last_split y q.node after i) [
      | inl a ↦ elim ((h y).0 a) [ inl b ↦ inl b | inr w ↦ inr (led_on y w) ]
      | inr e ↦ inr (record { place = x; other = q; one = one_last x seen; there = at; on = l; to = sym e })
    ],
    λ i. elim i [
      | inl a ↦ one_front y after (q.node ∷ []) ((h y).1 (inl a))
      | inr w ↦ elim (led_back y w) [
        | inl v ↦ one_front y after (q.node ∷ []) ((h y).1 (inr v))
        | inr v ↦ subst (λ k. IsOneOf k (after ++ (q.node ∷ []))) v.1 (one_last q.node after)
      ]
    ],
  )

pub added_other : (ps : List Patch) (p q : Patch) (met : List ℕ) (i d : ℕ) (before after : List ℕ) → i < length met → slice_get ps (get_or met i d) ≡ Some q → (IsPatchNeighbour p q → ⊥)
    → AreAdded ps p (take i met) before after → AreAdded ps p (take (i + 1) met) before after
added_other ps p q met i d before after l at n h =
    subst (λ z. AreAdded ps p z before after) (sym (take_more met i d l)) (added_past ps p (take i met) (get_or met i d) q at before after n h)

pub added_more : (ps : List Patch) (p q : Patch) (met : List ℕ) (i d : ℕ) (before after : List ℕ) → i < length met → slice_get ps (get_or met i d) ≡ Some q → IsPatchNeighbour p q
    → AreAdded ps p (take i met) before after → AreAdded ps p (take (i + 1) met) before (after ++ (q.node ∷ []))
added_more ps p q met i d before after l at n h =
    subst (λ z. AreAdded ps p z before (after ++ (q.node ∷ []))) (sym (take_more met i d l)) (added_to ps p (take i met) (get_or met i d) q at before after n h)

pub added_end : (ps : List Patch) (p : Patch) (met : List ℕ) (i : ℕ) (before after : List ℕ) → length met ≤ i → AreAdded ps p (take i met) before after → AreAdded ps p met before after
added_end ps p met i before after l h = subst (λ z. AreAdded ps p z before after) (take_all i met l) h

-- ---- what is gathered of one node
pub met_places : (ps : List Patch) (o : Bounds) (met : List ℕ) → AreThoseMeeting (patch_hulls ps) o met → All (λ j. j < length ps) met
met_places ps o met m =
    let n = length-map ps (λ (q : Patch). q.hull) in all_of (λ j. j < length ps) met (λ j i. let l = ((m.same j).0 i).0 in omega (arith, l, n))

module _ (ps : List Patch) (k i : ℕ) (p : Patch) (at : slice_get ps i ≡ Some p) (own : p.node ≡ k) (met old new : List ℕ) (m : AreThoseMeeting (patch_hulls ps) p.hull met)
    (a : AreAdded ps p met old new) (h : AreGathered ps k i old) where
  way_on : (y : ℕ) → IsWayByPatches ps k i y → IsWayByPatches ps k (i + 1) y
  way_on y w = record {
    place = w.place;
    first = w.first;
    second = w.second;
    before = let b = w.before in omega (arith, b);
    there = w.there;
    other = w.other;
    from = w.from;
    to = w.to;
    meet = w.meet;
    on = w.on;
  }

  way_of : (y : ℕ) → LeadsInto ps p met y → IsWayByPatches ps k (i + 1) y
  way_of y w =
      let t = ((m.same w.place).0 w.one).1 in
      let e : t.other ≡ w.other.hull = same_Some t.other w.other.hull (sym t.there ∙ hull_there ps w.place w.other w.there) in
      record {
        place = i;
        first = p;
        second = w.other;
        before = omega arith;
        there = at;
        other = there_in ps w.place w.other w.there;
        from = own;
        to = w.to;
        meet = IsMeeting-sym w.other.hull p.hull (subst (λ z. IsMeeting z p.hull) e t.meet);
        on = w.on;
      }

  way_back : (y : ℕ) → IsWayByPatches ps k (i + 1) y → IsWayByPatches ps k i y ⊎ LeadsInto ps p met y
  way_back y w = elim (cases_lt w.place i) [
    | inl l ↦ inl (record {
      place = w.place;
      first = w.first;
      second = w.second;
      before = l;
      there = w.there;
      other = w.other;
      from = w.from;
      to = w.to;
      meet = w.meet;
      on = w.on;
    })
    | inr l ↦ (let b = w.before in
        let e : w.place ≡ i = omega (arith, l, b) in
        let s : w.first ≡ p = same_item ps i w.first p (subst (λ z. slice_get ps z ≡ Some w.first) e w.there) at in
        let c = place_in ps w.second w.other in
        let f = hull_there ps c.0 w.second c.1 in
        let n : c.0 < length (patch_hulls ps) = slice_get_within (patch_hulls ps) c.0 w.second.hull f in
        inr (record {
          place = c.0;
          other = w.second;
          one = (m.same c.0).1 (n, record { other = w.second.hull; there = f; meet = IsMeeting-sym p.hull w.second.hull (subst (λ (z : Patch). IsMeeting z.hull w.second.hull) s w.meet) });
          there = c.1;
          on = subst (λ (z : Patch). IsPatchNeighbour z w.second) s w.on;
          to = w.to;
        }))
  ]

  pub gathered_on : AreGathered ps k (i + 1) new
  gathered_on y = (
    λ u. elim ((a y).0 u) [ inl b ↦ way_on y ((h y).0 b) | inr w ↦ way_of y w ],
    λ u. elim (way_back y u) [ inl w ↦ (a y).1 (inl ((h y).1 w)) | inr w ↦ (a y).1 (inr w) ],
  )

-- ---- the patches of one node stand from one place to another
pub record IsStretch (ps : List Patch) (k first end : ℕ) : Type 0 where
  pub low : (i : ℕ) (d : Patch) → i < first → (get_or ps i d).node < k
  pub own : (i : ℕ) (d : Patch) → first ≤ i → i < end → (get_or ps i d).node ≡ k
  pub high : (i : ℕ) (d : Patch) → end ≤ i → i < length ps → k < (get_or ps i d).node
  pub within : end ≤ length ps

pub gathered_none : (ps : List Patch) (k first end : ℕ) → IsStretch ps k first end → AreGathered ps k first []
gathered_none ps k first end s y = (
  λ i. absurd (none_in y i),
  λ w.
      let l = s.low w.place w.first w.before in
      let e = ap (λ (z : Patch). z.node) (get_or_from_slice_get ps w.place w.first w.first w.there) in
      let f = w.from in
      absurd (omega (arith, l, e, f)),
)

pub gathered_end : (ps : List Patch) (k first end i : ℕ) (js : List ℕ) → IsStretch ps k first end → end ≤ i → AreGathered ps k i js → AreThoseLinked (AreNodesLinkedBy ps) k js
gathered_end ps k first end i js s t h = record {
  linked = λ y u. (
      let w = (h y).0 u in
      record {
        first = w.first;
        second = w.second;
        one = there_in ps w.place w.first w.there;
        other = w.other;
        from = w.from;
        to = w.to;
        linked = linked_of w.first w.second w.on w.meet;
      });
  whole = λ y w. elim (cases_eq y k) [
    | inl e ↦ inl e
    | inr n ↦ inr ((h y).1 (
        let c = place_in ps w.first w.one in
        record {
          place = c.0;
          first = w.first;
          second = w.second;
          before = before c.0 w.first c.1 w.from;
          there = c.1;
          other = w.other;
          from = w.from;
          to = w.to;
          meet = w.linked.meet;
          on = leads_of w.first w.second (λ e. n (sym w.to ∙ sym e ∙ w.from)) w.linked;
        }))
  ];
}
  where
    before : (c : ℕ) (p : Patch) → slice_get ps c ≡ Some p → p.node ≡ k → c < i
    before c p e f = elim (cases_lt c end) [
      | inl l ↦ omega (arith, l, t)
      | inr l ↦ (let u = s.high c p l (slice_get_within ps c p e) in
          let g = ap (λ (z : Patch). z.node) (get_or_from_slice_get ps c p p e) in
          absurd (omega (arith, u, g, f)))
    ]

-- as two searches for the node's number find them
pub stretch_of : (ps : List Patch) (k first end : ℕ) → IsPartitionPoint (λ (p : Patch). ltb p.node k ≡ true) (λ (p : Patch). ltb p.node k ≡ false) ps first
    → IsPartitionPoint (λ (p : Patch). leb p.node k ≡ true) (λ (p : Patch). leb p.node k ≡ false) ps end → end ≤ length ps → IsStretch ps k first end
stretch_of ps k first end lo hi w = record {
  low = λ i d l. ltb-true (get_or ps i d).node k (lo.0 i d (omega arith) l);
  own = λ i d l m.
      let a = ltb-false (get_or ps i d).node k (lo.1 i d l (omega (arith, m, w))) in
      let b = leb-true (get_or ps i d).node k (hi.0 i d (omega arith) m) in omega (arith, a, b);
  high = λ i d l m. leb-false (get_or ps i d).node k (hi.1 i d l m);
  within = w;
}

-- one patch more, as the code has it
pub gathered_turn : (ps seen : List Patch) (k first end i : ℕ) (p : Patch) (octs : List Bounds) (met shown old new : List ℕ) → IsStretch ps k first end → first ≤ i → i < end
    → p ≡ get_or ps i p → octs ≡ patch_hulls ps → AreThoseMeeting octs p.hull met → seen ≡ ps → shown ≡ met → AreAdded seen p shown old new → AreGathered ps k i old
    → AreGathered ps k (i + 1) new
gathered_turn ps seen k first end i p octs met shown old new s l m e o t es em a h =
    let w = s.within in
    gathered_on ps k i p (slice_get_read ps (length ps) i p refl (omega (arith, m, w)) e) (ap (λ (z : Patch). z.node) e ∙ s.own i p l m) met old new
    (subst (λ (z : List Bounds). AreThoseMeeting z p.hull met) o t)
    (subst (λ (z : List Patch). AreAdded z p met old new) es (subst (λ (z : List ℕ). AreAdded seen p z old new) em a)) h
