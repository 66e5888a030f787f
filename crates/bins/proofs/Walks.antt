-- What a walk has found.
use Rattle.std.proofs.Common.{◌≡◌, refl, sym, ◌∙◌, ap, subst, ℕ, zero, suc, ◌+◌, ◌<◌, ◌≤◌, ◌⊎◌, inl, inr, arith, List, [], ◌∷◌, ◌++◌, length, get_or}
use Rattle.std.specs.Prelude.{◌↔◌, Bool, true, false, IsTrue, slice_get, Some}
use Rattle.std.proofs.lemmas.Bool.{cases_lt, cases_eq}
use Rattle.std.proofs.lemmas.Option.{slice_get_read, get_or_from_slice_get, slice_get_within}
use Rattle.plane.specs.Plane.{Bounds, IsMeeting}
use Rattle.classes.specs.Classes.{IsOneOf}
use Rattle.bins.specs.Meeting.{IsMeetingThere, AreUpward, AreThoseMeetingAmong, AreThoseMeeting}
use Rattle.bins.specs.declared.frame.Frame.{Frame}
use Rattle.bins.specs.declared.block.Block.{Block}
use Rattle.bins.specs.Inner.Frames.{IsInFrame}
use Rattle.bins.specs.Inner.Blocks.{AreInFrame, block_at, start_at, next_start, IsBlock, AreBlocks, IsWalked}
use Rattle.bins.proofs.Blocks.{start_there, start_end}

-- ---- lists that grow at their end
one_split : (x y : ℕ) (xs : List ℕ) → IsOneOf x (xs ++ (y ∷ [])) → IsOneOf x xs ⊎ (x ≡ y)
unfolding IsOneOf
one_split x y [] (inl e) = inr e
one_split x y [] (inr n) = absurd n
one_split x y (z ∷ xs) (inl e) = inl (inl e)
one_split x y (z ∷ xs) (inr i) = elim (one_split x y xs i) [ inl j ↦ inl (inr j) | inr j ↦ inr j ]

one_front : (x y : ℕ) (xs : List ℕ) → IsOneOf x xs → IsOneOf x (xs ++ (y ∷ []))
unfolding IsOneOf
one_front x y [] i = absurd i
one_front x y (z ∷ xs) (inl e) = inl e
one_front x y (z ∷ xs) (inr i) = inr (one_front x y xs i)

one_last : (x : ℕ) (xs : List ℕ) → IsOneOf x (xs ++ (x ∷ []))
unfolding IsOneOf
one_last x [] = inl refl
one_last x (z ∷ xs) = inr (one_last x xs)

one_none : (x : ℕ) → IsOneOf x [] → ⊥
unfolding IsOneOf
one_none x i = i

upward_more : (low j : ℕ) (js : List ℕ) → low ≤ j → ((i : ℕ) → IsOneOf i js → i < j) → AreUpward low js → AreUpward low (js ++ (j ∷ []))
unfolding IsOneOf
upward_more low j [] l h u = (l, tt)
upward_more low j (i ∷ js) l h u = (u.0, upward_more (suc i) j js (let a = h i (inl refl) in omega (arith, a)) (λ k m. h k (inr m)) u.1)

-- ---- octagon by octagon
pub found_none : (octs : List Bounds) (o : Bounds) → AreThoseMeetingAmong octs o 0 []
found_none octs o = record { upward = tt; same = λ j. (λ i. absurd (one_none j i), λ h. absurd (omega (arith, h.0))) }

pub found_more : (octs : List Bounds) (o p : Bounds) (j : ℕ) (js : List ℕ) → j < length octs → p ≡ get_or octs j p → IsMeeting p o → AreThoseMeetingAmong octs o j js
    → AreThoseMeetingAmong octs o (j + 1) (js ++ (j ∷ []))
found_more octs o p j js l e m h = record {
  upward = upward_more 0 j js (omega arith) (λ i a. ((h.same i).0 a).0) h.upward;
  same = λ i. (
    λ a. elim (one_split i j js a) [
      | inl b ↦ (let c = ((h.same i).0 b).0 in omega (arith, c), ((h.same i).0 b).1)
      | inr q ↦ (omega (arith, q), subst (λ k. IsMeetingThere octs o k) (sym q) here)
    ],
    λ b. elim (cases_eq i j) [
      | inl q ↦ subst (λ k. IsOneOf k (js ++ (j ∷ []))) (sym q) (one_last j js)
      | inr q ↦ one_front i j js ((h.same i).1 (let c = b.0 in omega (arith, c, q), b.1))
    ],
  );
}
  where
    here : IsMeetingThere octs o j
    here = record { other = p; there = slice_get_read octs (length octs) j p refl l e; meet = m }

-- none of the octagons from the one place to before the other meets o
abbrev pub NoneMeets : List Bounds → Bounds → ℕ → ℕ → Type 0
NoneMeets octs o from to = (j : ℕ) → from ≤ j → j < to → IsMeetingThere octs o j → ⊥

pub found_past : (octs : List Bounds) (o : Bounds) (from to : ℕ) (js : List ℕ) → from ≤ to → NoneMeets octs o from to → AreThoseMeetingAmong octs o from js → AreThoseMeetingAmong octs o to js
found_past octs o from to js l n h = record {
  upward = h.upward;
  same = λ j. (
    λ a. (let c = ((h.same j).0 a).0 in omega (arith, c, l), ((h.same j).0 a).1),
    λ b. elim (cases_lt j from) [
      | inl k ↦ (h.same j).1 (k, b.1)
      | inr k ↦ absurd (n j k b.0 b.1)
    ],
  );
}

pub found_other : (octs : List Bounds) (o p : Bounds) (j : ℕ) (js : List ℕ) → j < length octs → p ≡ get_or octs j p → (IsMeeting p o → ⊥) → AreThoseMeetingAmong octs o j js
    → AreThoseMeetingAmong octs o (j + 1) js
found_other octs o p j js l e n h = found_past octs o j (j + 1) js (omega arith) (λ i a b m. n (meets i m (omega (arith, a, b)))) h
  where
    meets : (i : ℕ) → IsMeetingThere octs o i → i ≡ j → IsMeeting p o
    meets i m q = subst (λ x. IsMeeting x o)
        (sym (get_or_from_slice_get octs i m.other p m.there) ∙ (ap (λ k. get_or octs k p) q ∙ sym e)) m.meet

pub missed : (octs : List Bounds) (o : Bounds) (f : Frame) (from to : ℕ) → AreInFrame f octs from to → ((p : Bounds) → IsInFrame f p → IsMeeting p o → ⊥) → NoneMeets octs o from to
missed octs o f from to h n j a b m = n m.other (h j m.other a b m.there) m.meet

-- ---- block by block
pub walk_begun : (octs : List Bounds) (blocks : List Block) (o : Bounds) → AreBlocks octs blocks → IsWalked octs blocks o 0 []
walk_begun octs blocks o h = subst (λ k. AreThoseMeetingAmong octs o k []) (sym h.begins) (found_none octs o)

pub walk_end : (octs : List Bounds) (blocks : List Block) (o : Bounds) (at : ℕ) (js : List ℕ) → at ≤ length blocks → length blocks ≤ at → IsWalked octs blocks o at js → AreThoseMeeting octs o js
walk_end octs blocks o at js l m h =
    subst (λ k. AreThoseMeetingAmong octs o k js) (start_end blocks (length blocks) (length octs))
    (subst (λ i. AreThoseMeetingAmong octs o (start_at blocks (length blocks) (length octs) i) js) (omega (arith, l, m)) h)

pub walked_to : (octs : List Bounds) (blocks : List Block) (o : Bounds) (at : ℕ) (js : List ℕ) → at < length blocks → IsWalked octs blocks o at js
    → AreThoseMeetingAmong octs o (block_at blocks at).first js
walked_to octs blocks o at js l h = subst (λ k. AreThoseMeetingAmong octs o k js) (start_there blocks (length blocks) (length octs) at l) h

pub walk_skips : (octs : List Bounds) (blocks : List Block) (o : Bounds) (at : ℕ) (js : List ℕ) → AreBlocks octs blocks → at < length blocks
    → ((p : Bounds) → IsInFrame (block_at blocks at).frame p → IsMeeting p o → ⊥) → IsWalked octs blocks o at js → IsWalked octs blocks o (block_at blocks at).skip js
walk_skips octs blocks o at js h l n w =
    let g = h.each at l in
    subst (λ k. AreThoseMeetingAmong octs o k js) (sym g.skipped)
    (found_past octs o _ _ js g.order (missed octs o _ _ _ g.framed n) (walked_to octs blocks o at js l w))

pub walk_leaf : (octs : List Bounds) (blocks : List Block) (o : Bounds) (at : ℕ) (js : List ℕ) → AreBlocks octs blocks → at < length blocks → (block_at blocks at).is_leaf ≡ true
    → AreThoseMeetingAmong octs o (block_at blocks at).end js → IsWalked octs blocks o (at + 1) js
walk_leaf octs blocks o at js h l b w = subst (λ k. AreThoseMeetingAmong octs o k js) (sym ((h.each at l).next ∙ rw (b) refl)) w

pub walk_inner : (octs : List Bounds) (blocks : List Block) (o : Bounds) (at : ℕ) (js : List ℕ) → AreBlocks octs blocks → at < length blocks → (block_at blocks at).is_leaf ≡ false
    → IsWalked octs blocks o at js → IsWalked octs blocks o (at + 1) js
walk_inner octs blocks o at js h l b w =
    subst (λ k. AreThoseMeetingAmong octs o k js) (sym ((h.each at l).next ∙ rw (b) refl)) (walked_to octs blocks o at js l w)
