-- Stacks to which pieces are put.
use Rattle.std.proofs.Common.{◌≡◌, refl, sym, subst, ap, ◌∙◌, ℕ, zero, suc, ◌+◌, ◌<◌, ◌≤◌, ◌⊎◌, inl, inr, arith, List, [], ◌∷◌, ◌++◌, length, get_or, set, take}
use Rattle.std.specs.Prelude.{◌↔◌, Any}
use Rattle.std.specs.List.{All}
use Rattle.std.proofs.lemmas.Int.{ints}
use Rattle.std.proofs.lemmas.List.Elements.{All-cons, All-nil, All-append, All-set}
use Rattle.std.proofs.Math.Seq.{take-suc}
use Rattle.std.proofs.lemmas.List.{length-set, get_or_default}
use Rattle.std.proofs.lemmas.Option.{slice_get_read}
use Rattle.plane.specs.Plane.{PlanePoint, Bounds, In, StrictlyIn, IsOct, IsMeeting}
use Rattle.plane.proofs.Inside.{IsInside}
use Rattle.plane.proofs.Lists.{any_none, any_head, any_tail, any_cases, any_left, any_right, any_parts}
use Rattle.grid_num.proofs.Products.{mul_le}
use Rattle.octagon.specs.Room.{IsAround}
use Rattle.strips.specs.Strips.{HasInside}
use Rattle.stacks.specs.Stacks.{IsHull, IsUnion, HaveSameUnion}
use Rattle.stacks.specs.Inner.Piles.{IsPieceAdded, IsPutTo, AreStacked}
use Rattle.stacks.proofs.Unions.{hull_first}

-- ---- the octagon round two
strictly : (a h : Bounds) (p : PlanePoint) → IsInside a h → StrictlyIn a p → StrictlyIn h p
strictly a h p i w =
    let k = p.scale in
    record {
      x_low = omega (arith, ints, mul_le k h.x0 a.x0 i.x0, w.x_low);
      x_high = omega (arith, ints, mul_le k a.x1 h.x1 i.x1, w.x_high);
      y_low = omega (arith, ints, mul_le k h.y0 a.y0 i.y0, w.y_low);
      y_high = omega (arith, ints, mul_le k a.y1 h.y1 i.y1, w.y_high);
      s_low = omega (arith, ints, mul_le k h.s0 a.s0 i.s0, w.s_low);
      s_high = omega (arith, ints, mul_le k a.s1 h.s1 i.s1, w.s_high);
      d_low = omega (arith, ints, mul_le k h.d0 a.d0 i.d0, w.d_low);
      d_high = omega (arith, ints, mul_le k a.d1 h.d1 i.d1, w.d_high);
    }

hull_thick : (a b h : Bounds) → IsHull a b h → HasInside a → HasInside h
unfolding HasInside
hull_thick a b h w i = (i.0, strictly a h i.0 (hull_first a b h w) i.1)

hull_around : (m : ℕ) (a b h : Bounds) → IsHull a b h → IsAround m a → IsAround m b → IsAround m h
hull_around m a b h w u v = record {
  x_low = omega (arith, ints, w.x0.is, u.x_low, v.x_low);
  x_high = omega (arith, ints, w.x1.is, u.x_high, v.x_high);
  y_low = omega (arith, ints, w.y0.is, u.y_low, v.y_low);
  y_high = omega (arith, ints, w.y1.is, u.y_high, v.y_high);
}

-- ---- a piece is put to a stack
put_points : (xs : List Bounds) (k : ℕ) (q h : Bounds) (p : PlanePoint) → k < length xs → ((d : Bounds) → IsUnion (get_or xs k d) q h)
    → Any (λ b. In b p) (set xs k h) ↔ (Any (λ b. In b p) xs ⊎ In q p)
unfolding IsUnion
put_points [] k q h p l u = absurd (omega (arith, l))
put_points (x ∷ xs) zero q h p l u = (
  λ a. elim (any_cases (λ b. In b p) h xs a) [
    | inl i ↦ elim ((u x p).0 i) [ inl j ↦ inl (any_head (λ b. In b p) x xs j) | inr j ↦ inr j ]
    | inr i ↦ inl (any_tail (λ b. In b p) x xs i)
  ],
  λ s. elim s [
    | inl a ↦ elim (any_cases (λ b. In b p) x xs a) [
      | inl i ↦ any_head (λ b. In b p) h xs ((u x p).1 (inl i))
      | inr i ↦ any_tail (λ b. In b p) h xs i
    ]
    | inr i ↦ any_head (λ b. In b p) h xs ((u x p).1 (inr i))
  ],
)
put_points (x ∷ xs) (suc k) q h p l u =
    let w = put_points xs k q h p (omega (arith, l)) u in (
      λ a. elim (any_cases (λ b. In b p) x (set xs k h) a) [
        | inl i ↦ inl (any_head (λ b. In b p) x xs i)
        | inr i ↦ elim (w.0 i) [ inl j ↦ inl (any_tail (λ b. In b p) x xs j) | inr j ↦ inr j ]
      ],
      λ s. elim s [
        | inl a ↦ elim (any_cases (λ b. In b p) x xs a) [
          | inl i ↦ any_head (λ b. In b p) x (set xs k h) i
          | inr i ↦ any_tail (λ b. In b p) x (set xs k h) (w.1 (inl i))
        ]
        | inr i ↦ any_tail (λ b. In b p) x (set xs k h) (w.1 (inr i))
      ],
    )

put_set : (xs : List Bounds) (k : ℕ) (a q h : Bounds) → k < length xs → a ≡ get_or xs k a → IsHull a q h → IsUnion a q h → IsPieceAdded xs q (set xs k h)
put_set xs k a q h l e w u = record {
  points = λ p. put_points xs k q h p l (λ d. subst (λ (z : Bounds). IsUnion z q h) (e ∙ get_or_default xs k a d l) u);
  thick = λ all piece. All-set (λ b. HasInside b) xs k h (hull_thick a q h w (subst (λ (z : Bounds). HasInside z) (sym e) (all k a l))) all;
  around = λ m all piece. All-set (λ b. IsAround m b) xs k h (hull_around m a q h w (subst (λ (z : Bounds). IsAround m z) (sym e) (all k a l)) piece) all;
  count = let n = length-set xs k h in omega (arith, n);
}

-- a is the stack as it was asked whether it meets the piece, b as it was joined to it
pub put_to_set : (xs : List Bounds) (k : ℕ) (a b q h : Bounds) → k < length xs → a ≡ get_or xs k a → b ≡ get_or xs k b → IsMeeting a q → IsHull b q h → IsUnion b q h
    → IsPutTo xs q k (set xs k h)
put_to_set xs k a b q h l e f m w u = record {
  put = put_set xs k b q h l f w u;
  which = inr (record {
    before = b;
    after = h;
    there = slice_get_read xs (length xs) k b refl l f;
    meet = subst (λ (z : Bounds). IsMeeting z q) (e ∙ (get_or_default xs k a b l ∙ sym f)) m;
    union = u;
    stacks = refl;
  });
}

length_more : (xs : List Bounds) (q : Bounds) → length (xs ++ q ∷ []) ≡ suc (length xs)
length_more [] q = omega arith
length_more (x ∷ xs) q = let l = length_more xs q in omega (arith, l)

-- ---- a piece begins a stack
put_more : (xs : List Bounds) (q : Bounds) → IsPieceAdded xs q (xs ++ q ∷ [])
put_more xs q = record {
  points = λ p. (
    λ a. elim (any_parts (λ b. In b p) xs (q ∷ []) a) [
      | inl i ↦ inl i
      | inr i ↦ elim (any_cases (λ b. In b p) q [] i) [ inl j ↦ inr j | inr j ↦ absurd (any_none (λ b. In b p) j) ]
    ],
    λ s. elim s [
      | inl i ↦ any_left (λ b. In b p) xs (q ∷ []) i
      | inr i ↦ any_right (λ b. In b p) xs (q ∷ []) (any_head (λ b. In b p) q [] i)
    ],
  );
  thick = λ all piece. All-append (λ b. HasInside b) xs (q ∷ []) all (All-cons (λ b. HasInside b) q [] piece (All-nil (λ b. HasInside b)));
  around = λ m all piece. All-append (λ b. IsAround m b) xs (q ∷ []) all (All-cons (λ b. IsAround m b) q [] piece (All-nil (λ b. IsAround m b)));
  count = let n = length_more xs q in omega (arith, n);
}

pub put_to_more : (xs : List Bounds) (q : Bounds) (n : ℕ) → n ≡ length xs → IsPutTo xs q n (xs ++ q ∷ [])
put_to_more xs q n e = record { put = put_more xs q; which = inl (record { number = e; stacks = refl }) }

-- ---- one piece after another
pub stacked_none : AreStacked [] []
stacked_none = record {
  points = λ p. (λ a. a, λ a. a);
  thick = λ all. all;
  around = λ m all. all;
  count = omega arith;
  octs = All-nil IsOct;
}

all_front : (P : Bounds → Type 0) (xs ys : List Bounds) → All P (xs ++ ys) → All P xs
all_front P [] ys a = All-nil P
all_front P (x ∷ xs) ys a = All-cons P x xs (a zero x (omega arith)) (all_front P xs ys (λ k d l. a (suc k) d (omega (arith, l))))

all_last : (P : Bounds → Type 0) (xs : List Bounds) (q : Bounds) → All P (xs ++ q ∷ []) → P q
all_last P [] q a = a zero q (omega arith)
all_last P (x ∷ xs) q a = all_last P xs q (λ k d l. a (suc k) d (omega (arith, l)))

stacked_more : (front stacks new : List Bounds) (q : Bounds) → AreStacked front stacks → IsPieceAdded stacks q new → IsOct q → AreStacked (front ++ q ∷ []) new
stacked_more front stacks new q s u o = record {
  points = λ p. (
    λ a. elim ((u.points p).0 a) [
      | inl i ↦ any_left (λ b. In b p) front (q ∷ []) ((s.points p).0 i)
      | inr i ↦ any_right (λ b. In b p) front (q ∷ []) (any_head (λ b. In b p) q [] i)
    ],
    λ a. (u.points p).1 (elim (any_parts (λ b. In b p) front (q ∷ []) a) [
      | inl i ↦ inl ((s.points p).1 i)
      | inr i ↦ elim (any_cases (λ b. In b p) q [] i) [ inl j ↦ inr j | inr j ↦ absurd (any_none (λ b. In b p) j) ]
    ]),
  );
  thick = λ all. u.thick (s.thick (all_front (λ b. HasInside b) front (q ∷ []) all)) (all_last (λ b. HasInside b) front q all);
  around = λ m all. u.around m (s.around m (all_front (λ b. IsAround m b) front (q ∷ []) all)) (all_last (λ b. IsAround m b) front q all);
  count = let n = length_more front q in omega (arith, n, u.count, s.count);
  octs = All-append IsOct front (q ∷ []) s.octs (All-cons IsOct q [] o (All-nil IsOct));
}

pub stacked_next : (pieces stacks new : List Bounds) (i : ℕ) (q : Bounds) → i < length pieces → q ≡ get_or pieces i q → AreStacked (take i pieces) stacks → IsPieceAdded stacks q new → IsOct q
    → AreStacked (take (i + 1) pieces) new
stacked_next pieces stacks new i q l e s u o =
    let more : take (suc i) pieces ≡ take i pieces ++ get_or pieces i q ∷ [] = take-suc pieces i q l in
    let next : i + 1 ≡ suc i = omega arith in
    let same : take (i + 1) pieces ≡ take i pieces ++ q ∷ [] = ap (λ (n : ℕ). take n pieces) next ∙ (more ∙ ap (λ (z : Bounds). take i pieces ++ z ∷ []) (sym e)) in
    subst (λ (z : List Bounds). AreStacked z new) (sym same) (stacked_more (take i pieces) stacks new q s u o)

take_all : (xs : List Bounds) (n : ℕ) → length xs ≤ n → take n xs ≡ xs
take_all [] zero l = refl
take_all [] (suc n) l = refl
take_all (x ∷ xs) zero l = absurd (omega (arith, l))
take_all (x ∷ xs) (suc n) l = ap (λ (z : List Bounds). x ∷ z) (take_all xs n (omega (arith, l)))

pub stacked_all : (pieces stacks : List Bounds) (i : ℕ) → length pieces ≤ i → AreStacked (take i pieces) stacks → AreStacked pieces stacks
stacked_all pieces stacks i l s = subst (λ (z : List Bounds). AreStacked z stacks) (take_all pieces i l) s

pub same_union : (pieces stacks : List Bounds) → AreStacked pieces stacks → HaveSameUnion pieces stacks
unfolding HaveSameUnion
same_union pieces stacks s p = s.points p
