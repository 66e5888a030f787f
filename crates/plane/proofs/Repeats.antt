-- Chains without repeats, and rectangles.
use Rattle.std.proofs.Common.{◌≡◌, subst, refl, sym, ◌∙◌, ap, ◌⊎◌, inl, inr, arith, List, [], ◌∷◌, Bool, true, false}
use Rattle.std.specs.Prelude.{ℤ, ◌+ℤ◌, ◌-ℤ◌, Any, not, ◌&&◌, map}
use Rattle.std.specs.List.{filter, All}
use Rattle.std.proofs.lemmas.List.Elements.{All-head, All-tail}
use Rattle.std.specs.Ordering.{int_eq}
use Rattle.std.proofs.lemmas.Int.{ints}
use Rattle.std.proofs.lemmas.List.Sums.{sum_by-cons}
use Rattle.std.proofs.lemmas.Bool.Decides.{Decides-int_eq}
use Rattle.plane.specs.Plane.{PlanePoint, Bounds, In, IsTight, box_of}
use Rattle.plane.proofs.Moved.{tight_box_law}
use Rattle.grid_num.specs.declared.Point.{Point}
use Rattle.plane.specs.Covering.{Edge, IsOn, crossing, Covers, CoversSome, edges_to, edges_of}
use Rattle.plane.specs.Corners.{corners_of, has_length, or_one, without_repeats, box_corners}
use Rattle.plane.specs.CoverLaws.{RepeatsLaw, StrictRepeatsLaw, ExactCoverLaw, StrictExactCoverLaw, SomeCoverLaw, BoxCoverLaw, StrictBoxCoverLaw}
use Rattle.plane.proofs.Lists.{any_none, any_head, any_tail, any_cases}
use Rattle.plane.proofs.CoverLaws.{crossing_flat, start_on, finish_on}
use Rattle.plane.proofs.Split.{AreAlike, alike_covers, alike_strictly}
use Rattle.plane.proofs.Chains.{alike_refl, alike_sym, alike_trans, alike_append}
use Rattle.plane.proofs.Octagon.{corners_law, strict_corners_law}

abbrev edge : Point → Point → Edge
edge a b = record { start = a; finish = b }

abbrev on : PlanePoint → Edge → Type 0
on p e = IsOn e p

-- ---- an edge without length counts nothing, and its point is on its neighbour
alike_head : (e : Edge) (es fs : List Edge) → AreAlike es fs → AreAlike (e ∷ es) (e ∷ fs)
alike_head e es fs h = alike_append (e ∷ []) (e ∷ []) es fs (alike_refl (e ∷ [])) h

flat_next : (p : PlanePoint) (a b : Point) → IsOn (edge a a) p → IsOn (edge a b) p
flat_next p a b o = start_on p (edge a b) (let v = o.across in omega (arith, ints)) (let v = o.along in omega (arith, ints))

flat_before : (p : PlanePoint) (a b : Point) → IsOn (edge b b) p → IsOn (edge a b) p
flat_before p a b o = finish_on p (edge a b) (let v = o.across in omega (arith, ints)) (let v = o.along in omega (arith, ints))

flat_first : (a b : Point) (es : List Edge) → AreAlike (edge a a ∷ edge a b ∷ es) (edge a b ∷ es)
flat_first a b es =
    record {
      count = λ p. let s = sum_by-cons (crossing p) (edge a a) (edge a b ∷ es) in let c = crossing_flat p a in omega (arith, s, c);
      on = λ p. (
        λ i. elim (any_cases (on p) (edge a a) (edge a b ∷ es) i) [ inl o ↦ any_head (on p) (edge a b) es (flat_next p a b o) | inr j ↦ j ],
        λ i. any_tail (on p) (edge a a) (edge a b ∷ es) i,
      );
    }

flat_last : (a b : Point) → AreAlike (edge a b ∷ edge b b ∷ []) (edge a b ∷ [])
flat_last a b =
    record {
      count = λ p.
          let s = sum_by-cons (crossing p) (edge a b) (edge b b ∷ []) in
          let t = sum_by-cons (crossing p) (edge b b) [] in
          let u = sum_by-cons (crossing p) (edge a b) [] in
          let c = crossing_flat p b in
          omega (arith, s, t, u, c);
      on = λ p. (to p, λ i. elim (any_cases (on p) (edge a b) [] i) [ inl o ↦ any_head (on p) (edge a b) (edge b b ∷ []) o | inr j ↦ absurd (any_none (on p) j) ]);
    }
  where
    to : (p : PlanePoint) → Any (on p) (edge a b ∷ edge b b ∷ []) → Any (on p) (edge a b ∷ [])
    to p i =
        elim (any_cases (on p) (edge a b) (edge b b ∷ []) i) [
          | inl o ↦ any_head (on p) (edge a b) [] o
          | inr j ↦ elim (any_cases (on p) (edge b b) [] j) [ inl o ↦ any_head (on p) (edge a b) [] (flat_before p a b o) | inr k ↦ absurd (any_none (on p) k) ]
        ]

-- a chain goes on from its first corner
flat_chain : (z a : Point) (cs : List Point) → AreAlike (edge a a ∷ edges_to z a cs) (edges_to z a cs)
flat_chain z a [] = flat_first a z []
flat_chain z a (c ∷ cs) = flat_first a c (edges_to z c cs)

-- ---- which edges have a length
abbrev made : ℤ → ℤ → Point
made x y = record { x = x; y = y }

same_corner : (a b : Point) → a.x ≡ b.x → a.y ≡ b.y → a ≡ b
same_corner a b e f = let h : made a.x a.y ≡ made b.x b.y = cc in h

length_cases : (a b : Point) → (has_length (edge a b) ≡ true) ⊎ ((has_length (edge a b) ≡ false) × (a ≡ b))
length_cases a b = at (int_eq a.x b.x) (int_eq a.y b.y) ((Decides-int_eq a.x b.x).0) ((Decides-int_eq a.y b.y).0)
  where
    at : (s t : Bool) → (s ≡ true → a.x ≡ b.x) → (t ≡ true → a.y ≡ b.y) → (not (s && t) ≡ true) ⊎ ((not (s && t) ≡ false) × (a ≡ b))
    at false t f g = inl refl
    at true false f g = inl refl
    at true true f g = inr (refl, same_corner a b (f refl) (g refl))

-- ---- the edges with a length of a way from a to z: none, and a is z, or they are the edges of a way by fewer corners
abbrev kept : List Edge → List Edge
kept es = filter has_length es

record IsShorter (z a : Point) (cs bs : List Point) : Type 0 where
  edges : kept (edges_to z a cs) ≡ edges_to z a bs
  starts : map (λ e. e.start) (kept (edges_to z a cs)) ≡ a ∷ bs
  alike : AreAlike (edges_to z a bs) (edges_to z a cs)

record IsAllFlat (z a : Point) (cs : List Point) : Type 0 where
  none : kept (edges_to z a cs) ≡ []
  same : a ≡ z
  alike : AreAlike (edge z z ∷ []) (edges_to z a cs)

shorter : (z a : Point) (cs : List Point) → IsAllFlat z a cs ⊎ ((bs : List Point) × IsShorter z a cs bs)
shorter z a [] =
    elim (length_cases a z) [
      | inl h ↦ inr ([], record { edges = rw h refl; starts = rw h refl; alike = alike_refl (edge a z ∷ []) })
      | inr w ↦ inl (record {
        none = let h = w.0 in rw h refl;
        same = w.1;
        alike = let P : Point → Type 0 = λ v. AreAlike (edge z z ∷ []) (edge v z ∷ []) in subst P (sym w.1) (alike_refl (edge z z ∷ []));
      })
    ]
shorter z a (c ∷ cs) =
    elim (length_cases a c) [
      | inl h ↦ elim (shorter z c cs) [
        | inl n ↦ inr (long_then_none h n)
        | inr s ↦ inr (c ∷ s.0, long_then_more h s.0 s.1)
      ]
      | inr w ↦ elim (shorter z c cs) [
        | inl n ↦ inl (flat_then_none w.0 w.1 n)
        | inr s ↦ inr (s.0, flat_then_more w.0 w.1 s.0 s.1)
      ]
    ]
  where
    long_then_none : has_length (edge a c) ≡ true → IsAllFlat z c cs → (bs : List Point) × IsShorter z a (c ∷ cs) bs
    long_then_none h n =
        let none = n.none in
        let end : edge a c ≡ edge a z = ap (λ (v : Point). edge a v) n.same in
        let P : Point → Type 0 = λ v. AreAlike (edge a z ∷ []) (edge a v ∷ edges_to z c cs) in (
          [],
          record {
            edges = rw (h, none) (ap (λ (e : Edge). e ∷ []) end);
            starts = rw (h, none) refl;
            alike = subst P (sym n.same) (alike_trans (edge a z ∷ []) (edge a z ∷ edge z z ∷ []) (edge a z ∷ edges_to z c cs)
                (alike_sym (edge a z ∷ edge z z ∷ []) (edge a z ∷ []) (flat_last a z))
                (alike_head (edge a z) (edge z z ∷ []) (edges_to z c cs) n.alike));
          },
        )

    long_then_more : has_length (edge a c) ≡ true → (bs : List Point) → IsShorter z c cs bs → IsShorter z a (c ∷ cs) (c ∷ bs)
    long_then_more h bs s =
        let edges = s.edges in
        let starts = s.starts in
        record {
          edges = rw (h, edges) refl;
          starts = rw (h, starts) refl;
          alike = alike_head (edge a c) (edges_to z c bs) (edges_to z c cs) s.alike;
        }

    flat_then_none : has_length (edge a c) ≡ false → a ≡ c → IsAllFlat z c cs → IsAllFlat z a (c ∷ cs)
    flat_then_none h e n =
        let P : Point → Type 0 = λ v. AreAlike (edge z z ∷ []) (edge v c ∷ edges_to z c cs) in
        record {
          none = rw h n.none;
          same = e ∙ n.same;
          alike = subst P (sym e) (alike_trans (edge z z ∷ []) (edges_to z c cs) (edge c c ∷ edges_to z c cs) n.alike
              (alike_sym (edge c c ∷ edges_to z c cs) (edges_to z c cs) (flat_chain z c cs)));
        }

    flat_then_more : has_length (edge a c) ≡ false → a ≡ c → (bs : List Point) → IsShorter z c cs bs → IsShorter z a (c ∷ cs) bs
    flat_then_more h e bs s =
        let P : Point → Type 0 = λ v. AreAlike (edges_to z v bs) (edge v c ∷ edges_to z c cs) in
        record {
          edges = rw h (s.edges ∙ ap (λ (v : Point). edges_to z v bs) (sym e));
          starts = rw h (s.starts ∙ ap (λ (v : Point). v ∷ bs) (sym e));
          alike = subst P (sym e) (alike_trans (edges_to z c bs) (edges_to z c cs) (edge c c ∷ edges_to z c cs) s.alike
              (alike_sym (edge c c ∷ edges_to z c cs) (edges_to z c cs) (flat_chain z c cs)));
        }

-- ---- the laws
pub repeats_alike : (cs : List Point) → AreAlike (edges_of (without_repeats cs)) (edges_of cs)
unfolding without_repeats
repeats_alike [] = alike_refl []
repeats_alike (a ∷ cs) =
    elim (shorter a a cs) [
      | inl n ↦ (let m = n.none in let P : List Edge → Type 0 = λ l. AreAlike (edges_of (or_one a (map (λ e. e.start) l))) (edges_to a a cs) in subst P (sym m) n.alike)
      | inr s ↦ (let m = s.1.starts in let P : List Point → Type 0 = λ l. AreAlike (edges_of (or_one a l)) (edges_to a a cs) in subst P (sym m) s.1.alike)
    ]

pub repeats_law : RepeatsLaw
repeats_law cs p = alike_covers (edges_of (without_repeats cs)) (edges_of cs) p (repeats_alike cs)

pub strict_repeats_law : StrictRepeatsLaw
strict_repeats_law cs p = alike_strictly (edges_of (without_repeats cs)) (edges_of cs) p (repeats_alike cs)

pub exact_cover_law : ExactCoverLaw
exact_cover_law b p t =
    let r = repeats_law (corners_of b) p in
    let c = corners_law b p t in
    (λ h. c.0 (r.0 h), λ h. r.1 (c.1 h))

pub strict_exact_cover_law : StrictExactCoverLaw
strict_exact_cover_law b p t =
    let r = strict_repeats_law (corners_of b) p in
    let c = strict_corners_law b p t in
    (λ h. c.0 (r.0 h), λ h. r.1 (c.1 h))

-- ---- a rectangle's four corners are its octagon's eight
abbrev twice : Point → Point → Point → Point → List Point
twice a b c d = a ∷ b ∷ b ∷ c ∷ c ∷ d ∷ d ∷ a ∷ []

twice_alike : (a b c d : Point) → AreAlike (edges_of (twice a b c d)) (edges_of (a ∷ b ∷ c ∷ d ∷ []))
twice_alike a b c d =
    let at_end = alike_head (edge c d) _ _ (alike_trans _ _ _ (flat_first d a (edge a a ∷ [])) (flat_last d a)) in
    let at_c = alike_trans (edge c c ∷ edge c d ∷ edge d d ∷ edge d a ∷ edge a a ∷ []) _ _ (flat_first c d (edge d d ∷ edge d a ∷ edge a a ∷ [])) at_end in
    let at_b = alike_trans (edge b b ∷ edge b c ∷ edge c c ∷ edge c d ∷ edge d d ∷ edge d a ∷ edge a a ∷ []) _ _
    (flat_first b c (edge c c ∷ edge c d ∷ edge d d ∷ edge d a ∷ edge a a ∷ [])) (alike_head (edge b c) _ _ at_c) in
    alike_head (edge a b) _ _ at_b

eight_of_box : (x0 x1 y0 y1 : ℤ) → corners_of (box_of x0 x1 y0 y1) ≡ twice (made x0 y0) (made x1 y0) (made x1 y1) (made x0 y1)
eight_of_box x0 x1 y0 y1 =
    let a : (x0 +ℤ y0) -ℤ y0 ≡ x0 = omega (arith, ints) in
    let b : (x1 -ℤ y0) +ℤ y0 ≡ x1 = omega (arith, ints) in
    let c : x1 -ℤ (x1 -ℤ y0) ≡ y0 = omega (arith, ints) in
    let d : (x1 +ℤ y1) -ℤ x1 ≡ y1 = omega (arith, ints) in
    let e : (x1 +ℤ y1) -ℤ y1 ≡ x1 = omega (arith, ints) in
    let f : (x0 -ℤ y1) +ℤ y1 ≡ x0 = omega (arith, ints) in
    let g : x0 -ℤ (x0 -ℤ y1) ≡ y1 = omega (arith, ints) in
    let h : (x0 +ℤ y0) -ℤ x0 ≡ y0 = omega (arith, ints) in
    cc

box_alike : (x0 x1 y0 y1 : ℤ) → AreAlike (edges_of (box_corners x0 x1 y0 y1)) (edges_of (corners_of (box_of x0 x1 y0 y1)))
box_alike x0 x1 y0 y1 =
    let P : List Point → Type 0 = λ l. AreAlike (edges_of (box_corners x0 x1 y0 y1)) (edges_of l) in
    subst P (sym (eight_of_box x0 x1 y0 y1))
    (alike_sym (edges_of (twice (made x0 y0) (made x1 y0) (made x1 y1) (made x0 y1))) (edges_of (box_corners x0 x1 y0 y1)) (twice_alike (made x0 y0) (made x1 y0) (made x1 y1) (made x0 y1)))

pub box_cover_law : BoxCoverLaw
box_cover_law x0 x1 y0 y1 p h l =
    let b = box_of x0 x1 y0 y1 in
    let r = alike_covers (edges_of (box_corners x0 x1 y0 y1)) (edges_of (corners_of b)) p (box_alike x0 x1 y0 y1) in
    let c = corners_law b p (tight_box_law x0 x1 y0 y1 h l) in
    (λ i. c.0 (r.0 i), λ i. r.1 (c.1 i))

pub strict_box_cover_law : StrictBoxCoverLaw
strict_box_cover_law x0 x1 y0 y1 p h l =
    let b = box_of x0 x1 y0 y1 in
    let r = alike_strictly (edges_of (box_corners x0 x1 y0 y1)) (edges_of (corners_of b)) p (box_alike x0 x1 y0 y1) in
    let c = strict_corners_law b p (tight_box_law x0 x1 y0 y1 h l) in
    (λ i. c.0 (r.0 i), λ i. r.1 (c.1 i))

-- ---- lists of rings
some_head : (c : List Point) (cs : List (List Point)) (p : PlanePoint) → Covers (edges_of c) p → CoversSome (c ∷ cs) p
unfolding CoversSome
some_head c cs p h = any_head (λ c. Covers (edges_of c) p) c cs h

some_tail : (c : List Point) (cs : List (List Point)) (p : PlanePoint) → CoversSome cs p → CoversSome (c ∷ cs) p
unfolding CoversSome
some_tail c cs p h = any_tail (λ c. Covers (edges_of c) p) c cs h

some_cases : (c : List Point) (cs : List (List Point)) (p : PlanePoint) → CoversSome (c ∷ cs) p → Covers (edges_of c) p ⊎ CoversSome cs p
unfolding CoversSome
some_cases c cs p h = any_cases (λ c. Covers (edges_of c) p) c cs h

some_none : (p : PlanePoint) → CoversSome [] p → ⊥
unfolding CoversSome
some_none p h = any_none (λ c. Covers (edges_of c) p) h

abbrev ring : Bounds → List Point
ring b = without_repeats (corners_of b)

some_to : (bs : List Bounds) (p : PlanePoint) → All IsTight bs → CoversSome (map ring bs) p → Any (λ b. In b p) bs
some_to [] p t h = absurd (some_none p h)
some_to (b ∷ bs) p t h =
    elim (some_cases (ring b) (map ring bs) p h) [
      | inl c ↦ any_head (λ b. In b p) b bs ((exact_cover_law b p (All-head IsTight b bs t)).0 c)
      | inr c ↦ any_tail (λ b. In b p) b bs (some_to bs p (All-tail IsTight b bs t) c)
    ]

some_from : (bs : List Bounds) (p : PlanePoint) → All IsTight bs → Any (λ b. In b p) bs → CoversSome (map ring bs) p
some_from [] p t h = absurd (any_none (λ b. In b p) h)
some_from (b ∷ bs) p t h =
    elim (any_cases (λ b. In b p) b bs h) [
      | inl c ↦ some_head (ring b) (map ring bs) p ((exact_cover_law b p (All-head IsTight b bs t)).1 c)
      | inr c ↦ some_tail (ring b) (map ring bs) p (some_from bs p (All-tail IsTight b bs t) c)
    ]

pub some_cover_law : SomeCoverLaw
some_cover_law bs p t = (some_to bs p t, some_from bs p t)
