-- Which stack each piece is put to, piece by piece.
use Rattle.std.proofs.Common.{◌≡◌, refl, sym, subst, ap, ◌∙◌, ℕ, zero, suc, ◌+◌, ◌<◌, ◌≤◌, ◌⊎◌, inl, inr, arith, List, [], ◌∷◌, ◌++◌, length, get_or, set, take}
use Rattle.std.specs.Prelude.{◌↔◌, slice_get, Some}
use Rattle.std.proofs.Math.Seq.{take-suc}
use Rattle.std.proofs.lemmas.List.{length-set, take_all}
use Rattle.std.proofs.lemmas.List.Elements.{All-append, All-cons, All-nil}
use Rattle.std.proofs.lemmas.Bool.{cases_eq}
use Rattle.std.proofs.lemmas.Option.{slice_get_within, get_or_from_slice_get, same_Some}
use Rattle.plane.specs.Plane.{PlanePoint, Bounds, In, IsMeeting}
use Rattle.plane.proofs.Near.{IsMeeting-sym}
use Rattle.classes.specs.Classes.{Reaches}
use Rattle.classes.proofs.Reaching.{reaches_self, reaches_link, reaches_then, reaches_step, reaches_map}
use Rattle.stacks.specs.Stacks.{IsUnion}
use Rattle.stacks.specs.Places.{IsPieceOf, IsInPiece, AreTogether, ArePlaces}
use Rattle.stacks.specs.Inner.Piles.{IsStackBegun, IsStackGrown, IsPutTo}

-- ---- a list with one more, and with another item
none_there : {A : Type 0} (xs : List A) (j : ℕ) (x : A) → length xs ≡ 0 → slice_get xs j ≡ Some x → ⊥
none_there xs j x n e = let l = slice_get_within xs j x e in omega (arith, l, n)

get_front : {A : Type 0} (xs : List A) (y : A) (j : ℕ) (x : A) → slice_get xs j ≡ Some x → slice_get (xs ++ y ∷ []) j ≡ Some x
get_front [] y j x e = absurd (none_there [] j x refl e)
get_front (z ∷ xs) y zero x e = e
get_front (z ∷ xs) y (suc j) x e = get_front xs y j x e

get_last : {A : Type 0} (xs : List A) (y : A) → slice_get (xs ++ y ∷ []) (length xs) ≡ Some y
get_last [] y = refl
get_last (z ∷ xs) y = get_last xs y

get_split : {A : Type 0} (xs : List A) (y : A) (j : ℕ) (x : A) → slice_get (xs ++ y ∷ []) j ≡ Some x → (slice_get xs j ≡ Some x) ⊎ ((j ≡ length xs) × (x ≡ y))
get_split [] y zero x e = inr (refl, sym (same_Some y x e))
get_split [] y (suc j) x e = absurd (none_there [] j x refl e)
get_split (z ∷ xs) y zero x e = inl e
get_split (z ∷ xs) y (suc j) x e = elim (get_split xs y j x e) [ inl i ↦ inl i | inr p ↦ inr (ap (λ (n : ℕ). suc n) p.0, p.1) ]

get_set : {A : Type 0} (xs : List A) (k : ℕ) (h x : A) → k < length xs → slice_get (set xs k h) k ≡ Some x → x ≡ h
get_set [] k h x l e = absurd (omega (arith, l))
get_set (z ∷ xs) zero h x l e = sym (same_Some h x e)
get_set (z ∷ xs) (suc k) h x l e = get_set xs k h x (omega (arith, l)) e

get_off : {A : Type 0} (xs : List A) (k m : ℕ) (h x : A) → (m ≡ k → ⊥) → slice_get (set xs k h) m ≡ Some x → slice_get xs m ≡ Some x
get_off [] k m h x n e = e
get_off (z ∷ xs) zero zero h x n e = absurd (n refl)
get_off (z ∷ xs) zero (suc m) h x n e = e
get_off (z ∷ xs) (suc k) zero h x n e = e
get_off (z ∷ xs) (suc k) (suc m) h x n e = get_off xs k m h x (λ i. n (ap (λ (a : ℕ). suc a) i)) e

length_more : {A : Type 0} (xs : List A) (y : A) → length (xs ++ y ∷ []) ≡ suc (length xs)
length_more [] y = omega arith
length_more (x ∷ xs) y = let l = length_more xs y in omega (arith, l)

-- ---- one piece more, put to stack n
module _ (front stacks new : List Bounds) (places : List ℕ) (q : Bounds) (n : ℕ) (s : ArePlaces front stacks places) (more : length stacks ≤ length new) (there : n < length new)
    (others : (m : ℕ) (b : Bounds) → slice_get new m ≡ Some b → (m ≡ n → ⊥) → slice_get stacks m ≡ Some b)
    (own : (b : Bounds) → slice_get new n ≡ Some b → (p : PlanePoint) → In b p ↔ (IsInPiece front places n p ⊎ In q p))
    (met : (j : ℕ) (r : Bounds) → IsPieceOf front places n j r → (i : ℕ) × (o : Bounds) × IsPieceOf front places n i o × IsMeeting o q) where
  abbrev pieces : List Bounds
  pieces = front ++ q ∷ []

  abbrev to : List ℕ
  to = places ++ n ∷ []

  old_piece : (m j : ℕ) (r : Bounds) → IsPieceOf front places m j r → IsPieceOf pieces to m j r
  old_piece m j r i = record { there = get_front front q j r i.there; stack = get_front places n j m i.stack }

  new_piece : IsPieceOf pieces to n (length front) q
  new_piece = record { there = get_last front q; stack = subst (λ (k : ℕ). slice_get to k ≡ Some n) s.each (get_last places n) }

  which_piece : (m j : ℕ) (r : Bounds) → IsPieceOf pieces to m j r → IsPieceOf front places m j r ⊎ ((j ≡ length front) × (m ≡ n) × (r ≡ q))
  which_piece m j r i = elim (get_split front q j r i.there) [
    | inl a ↦ elim (get_split places n j m i.stack) [
      | inl b ↦ inl (record { there = a; stack = b })
      | inr b ↦ absurd (let l = slice_get_within front j r a in let e = b.0 in let c = s.each in omega (arith, l, e, c))
    ]
    | inr a ↦ elim (get_split places n j m i.stack) [
      | inl b ↦ absurd (let l = slice_get_within places j m b in let e = a.0 in let c = s.each in omega (arith, l, e, c))
      | inr b ↦ inr (a.0, b.1, a.1)
    ]
  ]

  -- ---- points
  old_in : (m : ℕ) (p : PlanePoint) → IsInPiece front places m p → IsInPiece pieces to m p
  old_in m p i = record { at = i.at; piece = i.piece; one = old_piece m i.at i.piece i.one; holds = i.holds }

  new_in : (p : PlanePoint) → In q p → IsInPiece pieces to n p
  new_in p h = record { at = length front; piece = q; one = new_piece; holds = h }

  which_in : (m : ℕ) (p : PlanePoint) → IsInPiece pieces to m p → IsInPiece front places m p ⊎ ((m ≡ n) × In q p)
  which_in m p i = elim (which_piece m i.at i.piece i.one) [
    | inl a ↦ inl (record { at = i.at; piece = i.piece; one = a; holds = i.holds })
    | inr a ↦ inr (a.1, subst (λ (b : Bounds). In b p) a.2 i.holds)
  ]

  points : (m : ℕ) (b : Bounds) → slice_get new m ≡ Some b → (p : PlanePoint) → In b p ↔ IsInPiece pieces to m p
  points m b e p = elim (cases_eq m n) [
    | inl a ↦ (let h = own b (subst (λ (k : ℕ). slice_get new k ≡ Some b) a e) p in (
      λ i. subst (λ (k : ℕ). IsInPiece pieces to k p) (sym a) (elim (h.0 i) [ inl j ↦ old_in n p j | inr j ↦ new_in p j ]),
      λ i. h.1 (elim (which_in m p i) [ inl j ↦ inl (subst (λ (k : ℕ). IsInPiece front places k p) a j) | inr j ↦ inr j.1 ]),
    ))
    | inr a ↦ (let h = s.points m b (others m b e a) p in (
      λ i. old_in m p (h.0 i),
      λ i. elim (which_in m p i) [ inl j ↦ h.1 j | inr j ↦ absurd (a j.0) ],
    ))
  ]

  -- ---- hanging together
  old_link : (m j k : ℕ) → AreTogether front places m j k → AreTogether pieces to m j k
  old_link m j k h = record { first = h.first; second = h.second; one = old_piece m j h.first h.one; other = old_piece m k h.second h.other; meet = h.meet }

  old_way : (m j k : ℕ) → Reaches (AreTogether front places m) j k → Reaches (AreTogether pieces to m) j k
  old_way m j k r = reaches_map (AreTogether front places m) (AreTogether pieces to m) (λ x y. old_link m x y) j k r

  -- from the new piece to an old one of its stack, and back
  from_new : (k : ℕ) (r : Bounds) → IsPieceOf front places n k r → Reaches (AreTogether pieces to n) (length front) k
  from_new k r i =
      let m = met k r i in
      reaches_step (AreTogether pieces to n) (length front) m.0 k
      (record { first = q; second = m.1; one = new_piece; other = old_piece n m.0 m.1 m.2; meet = IsMeeting-sym m.1 q m.3 })
      (old_way n m.0 k (s.together n m.0 k m.1 r m.2 i))

  to_new : (j : ℕ) (r : Bounds) → IsPieceOf front places n j r → Reaches (AreTogether pieces to n) j (length front)
  to_new j r i =
      let m = met j r i in
      reaches_then (AreTogether pieces to n) j m.0 (length front) (old_way n j m.0 (s.together n j m.0 r m.1 i m.2))
      (reaches_link (AreTogether pieces to n) m.0 (length front) (record { first = m.1; second = q; one = old_piece n m.0 m.1 m.2; other = new_piece; meet = m.3 }))

  together : (m j k : ℕ) (b c : Bounds) → IsPieceOf pieces to m j b → IsPieceOf pieces to m k c → Reaches (AreTogether pieces to m) j k
  together m j k b c x y = elim (which_piece m j b x) [
    | inl u ↦ elim (which_piece m k c y) [
      | inl v ↦ old_way m j k (s.together m j k b c u v)
      | inr v ↦ subst (λ (z : ℕ). Reaches (AreTogether pieces to m) j z) (sym v.0)
          (subst (λ (z : ℕ). Reaches (AreTogether pieces to z) j (length front)) (sym v.1) (to_new j b (subst (λ (z : ℕ). IsPieceOf front places z j b) v.1 u)))
    ]
    | inr u ↦ elim (which_piece m k c y) [
      | inl v ↦ subst (λ (z : ℕ). Reaches (AreTogether pieces to m) z k) (sym u.0)
          (subst (λ (z : ℕ). Reaches (AreTogether pieces to z) (length front) k) (sym u.1) (from_new k c (subst (λ (z : ℕ). IsPieceOf front places z k c) u.1 v)))
      | inr v ↦ subst (λ (z : ℕ). Reaches (AreTogether pieces to m) j z) (u.0 ∙ sym v.0) (reaches_self (AreTogether pieces to m) j)
    ]
  ]

  placed_one : ArePlaces pieces new to
  placed_one = record {
    each = let a = length_more front q in let b = length_more places n in let c = s.each in omega (arith, a, b, c);
    within = All-append (λ m. m < length new) places (n ∷ []) (λ k d l. let w = s.within k d l in omega (arith, w, more))
        (All-cons (λ m. m < length new) n [] there (All-nil (λ m. m < length new)));
    points = points;
    together = together;
  }

-- ---- a piece that begins a stack, and one by which a stack grows
module _ (front stacks new : List Bounds) (places : List ℕ) (q : Bounds) (n : ℕ) (s : ArePlaces front stacks places) where
  none_yet : n ≡ length stacks → (j : ℕ) → slice_get places j ≡ Some n → ⊥
  none_yet e j i =
      let l = slice_get_within places j n i in
      let w = s.within j n l in
      let g = get_or_from_slice_get places j n n i in
      omega (arith, w, e, g)

  placed_begun : IsStackBegun stacks q n new → ArePlaces (front ++ q ∷ []) new (places ++ n ∷ [])
  placed_begun u =
      let long : length new ≡ suc (length stacks) = ap (λ (z : List Bounds). length z) u.stacks ∙ length_more stacks q in
      let e = u.number in
      placed_one front stacks new places q n s (omega (arith, long)) (omega (arith, long, e))
      (λ m b i a. elim (get_split stacks q m b (subst (λ (z : List Bounds). slice_get z m ≡ Some b) u.stacks i)) [ inl j ↦ j | inr j ↦ absurd (a (j.0 ∙ sym e)) ])
      (λ b i p. elim (get_split stacks q n b (subst (λ (z : List Bounds). slice_get z n ≡ Some b) u.stacks i)) [
        | inl j ↦ absurd (let l = slice_get_within stacks n b j in omega (arith, l, e))
        | inr j ↦ (
          λ h. inr (subst (λ (z : Bounds). In z p) j.1 h),
          λ h. elim h [ inl o ↦ absurd (none_yet e o.at o.one.stack) | inr o ↦ subst (λ (z : Bounds). In z p) (sym j.1) o ],
        )
      ])
      (λ j r i. absurd (none_yet e j i.stack))

  placed_grown : IsStackGrown stacks q n new → ArePlaces (front ++ q ∷ []) new (places ++ n ∷ [])
  unfolding IsUnion IsMeeting
  placed_grown u =
      let long : length new ≡ length stacks = ap (λ (z : List Bounds). length z) u.stacks ∙ length-set stacks n u.after in
      let l = slice_get_within stacks n u.before u.there in
      let old = s.points n u.before u.there in
      placed_one front stacks new places q n s (omega (arith, long)) (omega (arith, long, l))
      (λ m b i a. get_off stacks n m u.after b a (subst (λ (z : List Bounds). slice_get z m ≡ Some b) u.stacks i))
      (λ b i p. let e = get_set stacks n u.after b l (subst (λ (z : List Bounds). slice_get z n ≡ Some b) u.stacks i) in (
        λ h. elim ((u.union p).0 (subst (λ (z : Bounds). In z p) e h)) [ inl o ↦ inl ((old p).0 o) | inr o ↦ inr o ],
        λ h. subst (λ (z : Bounds). In z p) (sym e) ((u.union p).1 (elim h [ inl o ↦ inl ((old p).1 o) | inr o ↦ inr o ])),
      ))
      (λ j r i. let h = (old u.meet.0).0 u.meet.1 in (h.at, h.piece, h.one, (u.meet.0, h.holds, u.meet.2)))

  placed_more : IsPutTo stacks q n new → ArePlaces (front ++ q ∷ []) new (places ++ n ∷ [])
  placed_more u = elim u.which [ inl a ↦ placed_begun a | inr a ↦ placed_grown a ]

-- ---- one piece after another
pub placed_none : ArePlaces [] [] []
placed_none = record {
  each = refl;
  within = All-nil (λ n. n < 0);
  points = λ n b e. absurd (none_there [] n b refl e);
  together = λ n j k q r i h. absurd (none_there [] j q refl i.there);
}

pub placed_next : (pieces stacks new : List Bounds) (places : List ℕ) (i n : ℕ) (q : Bounds) → i < length pieces → q ≡ get_or pieces i q → ArePlaces (take i pieces) stacks places
    → IsPutTo stacks q n new → ArePlaces (take (i + 1) pieces) new (places ++ n ∷ [])
placed_next pieces stacks new places i n q l e s u =
    let more : take (suc i) pieces ≡ take i pieces ++ get_or pieces i q ∷ [] = take-suc pieces i q l in
    let next : i + 1 ≡ suc i = omega arith in
    let same : take (i + 1) pieces ≡ take i pieces ++ q ∷ [] = ap (λ (m : ℕ). take m pieces) next ∙ (more ∙ ap (λ (z : Bounds). take i pieces ++ z ∷ []) (sym e)) in
    subst (λ (z : List Bounds). ArePlaces z new (places ++ n ∷ [])) (sym same) (placed_more (take i pieces) stacks new places q n s u)

pub placed_all : (pieces stacks : List Bounds) (places : List ℕ) (i : ℕ) → length pieces ≤ i → ArePlaces (take i pieces) stacks places → ArePlaces pieces stacks places
placed_all pieces stacks places i l s = subst (λ (z : List Bounds). ArePlaces z stacks places) (take_all i pieces l) s
