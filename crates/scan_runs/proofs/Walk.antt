-- Parts walked from left to right, one part further; and what a sort of parts gives.
use Rattle.std.proofs.Common.{◌≡◌, refl, sym, ap, subst, ◌⊎◌, inl, inr, ℕ, zero, suc, ◌+◌, ◌<◌, ◌≤◌, List, [], ◌∷◌, ◌++◌, map, length, get_or, take, drop, drop-cons, add-one, Result, Ok, Err, IfOk, true, false, arith}
use Rattle.std.specs.Prelude.{◌==◌, ℤ, pos, ◌+ℤ◌, ◌≤ℤ◌, ◌↔◌, All, Contains, Option, None, Some, IfSome}
use Rattle.std.specs.List.Sorted.{IsPermutation}
use Rattle.std.proofs.lemmas.Bool.{false≢true, eqb-true}
use Rattle.std.proofs.lemmas.List.{take_more, take_all}
use Rattle.std.proofs.lemmas.List.Sorted.{Contains-permutation, IsPermutation-sym}
use Rattle.std.proofs.lemmas.Int.{ints}
use Rattle.grid_sets.specs.Rows.{OnRuns, IsOnRun, AscendingRuns}
use Rattle.grid_sets.specs.Bands.{place_after, reach, run_down}
use Rattle.grid_sets.specs.declared.Move.{Move}
use Rattle.grid_sets.specs.declared.Move.TheVariants.{Left, Still, Right}
use Rattle.grid_sets.specs.declared.End.{End}
use Rattle.grid_sets.specs.declared.Slant.{Slant}
use Rattle.scan_runs.specs.Inner.Lines.{AreEndsApart}
use Rattle.scan_runs.specs.Inner.Parts.{IsSmallSlant, AreSmall, IsSmallJoint, IsPart}
use Rattle.scan_runs.specs.Inner.Walk.{begin_key, AreFromLeft, AreMerged, IsPut}

pub small_at : (ss : List Slant) (i : ℕ) (d : Slant) → AreSmall ss → i < length ss → IsSmallSlant (get_or ss i d)
small_at [] i d a l = absurd (omega arith)
small_at (t ∷ ts) zero d a l = a.0
small_at (t ∷ ts) (suc i) d a l = small_at ts i d a.1 (omega arith)

small_end : (ss : List Slant) (s : Slant) → AreSmall ss → IsSmallSlant s → AreSmall (ss ++ s ∷ [])
small_end [] s h k = (k, tt)
small_end (t ∷ ts) s h k = (h.0, small_end ts s h.1 k)

small_front : (ss : List Slant) (s : Slant) → AreSmall (ss ++ s ∷ []) → AreSmall ss
small_front [] s h = tt
small_front (t ∷ ts) s h = (h.0, small_front ts s h.1)

small_last : (ss : List Slant) (s : Slant) → AreSmall (ss ++ s ∷ []) → IsSmallSlant s
small_last [] s h = h.0
small_last (t ∷ ts) s h = small_last ts s h.1

-- ---- one run more on a row
pub on_end : (k : ℕ) (ss : List Slant) (s : Slant) (x : ℤ) → OnRuns (map (run_down k) (ss ++ s ∷ [])) x ↔ (OnRuns (map (run_down k) ss) x ⊎ IsOnRun (run_down k s) x)
on_end k [] s x = (λ h. elim h [ inl w ↦ inr w | inr e ↦ absurd e ], λ h. elim h [ inl e ↦ absurd e | inr w ↦ inl w ])
on_end k (a ∷ ss) s x =
    let r = on_end k ss s x in (
      λ h. elim h [ inl w ↦ inl (inl w) | inr m ↦ elim (r.0 m) [ inl u ↦ inl (inr u) | inr w ↦ inr w ] ],
      λ h. elim h [ inl m ↦ elim m [ inl w ↦ inl w | inr u ↦ inr (r.1 (inl u)) ] | inr w ↦ inr (r.1 (inr w)) ],
    )

next_sorted : (k : ℕ) (l : ℤ) (ss : List Slant) (t s : Slant) → AscendingRuns l (map (run_down k) (ss ++ t ∷ [])) → (reach k t.to +ℤ pos 2) ≤ℤ reach k s.from → reach k s.from ≤ℤ reach k s.to
    → AscendingRuns l (map (run_down k) ((ss ++ t ∷ []) ++ s ∷ []))
next_sorted k l [] t s a g f = (a.0, a.1, (g, f, tt))
next_sorted k l (r ∷ ss) t s a g f = (a.0, a.1, next_sorted k (reach k r.to +ℤ pos 2) ss t s a.2 g f)

joint_sorted : (k : ℕ) (l : ℤ) (ss : List Slant) (t j : Slant) → AscendingRuns l (map (run_down k) (ss ++ t ∷ [])) → reach k j.from ≡ reach k t.from
    → (reach k t.from ≤ℤ reach k t.to → reach k j.from ≤ℤ reach k j.to) → AscendingRuns l (map (run_down k) (ss ++ j ∷ []))
joint_sorted k l [] t j a e f = (rw e a.0, f a.1, tt)
joint_sorted k l (r ∷ ss) t j a e f = (a.0, a.1, joint_sorted k (reach k r.to +ℤ pos 2) ss t j a.2 e f)

-- ---- one part further
pub walked_before : (n : ℕ) (t s : Slant) (old : List Slant) → AreEndsApart n (pos 2) t.to s.from → IsPut n t s old (old ++ t ∷ []) s
walked_before n t s old g = record {
  more = λ parts a p. record {
    sorted = λ k l. let w = a.sorted k l in record { low = w.low; ascending = next_sorted k w.low old t s w.ascending (g.each k l) (p.filled k l) };
    same = λ k x l.
        let e = on_end k (old ++ t ∷ []) s x in
        let d = on_end k parts s x in
        let m = a.same k x l in (
          λ h. d.1 (elim (e.0 h) [ inl u ↦ inl (m.0 u) | inr w ↦ inr w ]),
          λ h. e.1 (elim (d.0 h) [ inl u ↦ inl (m.1 u) | inr w ↦ inr w ]),
        );
    small = small_end (old ++ t ∷ []) s a.small p.small;
  };
  from = inr refl;
}

pub walked_joint : (n : ℕ) (t s j : Slant) (old : List Slant) → IsSmallJoint n t s j → IsPut n t s old old j
walked_joint n t s j old i = record {
  more = λ parts a p. record {
    sorted = λ k l. let w = a.sorted k l in
        record { low = w.low; ascending = joint_sorted k w.low old t j w.ascending (ap (λ (v : End). reach k v) i.from) (λ h. i.joint.filled k l h (p.filled k l)) };
    same = λ k x l.
        let e = on_end k old j x in
        let f = on_end k old t x in
        let d = on_end k parts s x in
        let m = a.same k x l in
        let u = i.joint.same k x l in (
          λ h. d.1 (elim (e.0 h) [ inl o ↦ inl (m.0 (f.1 (inl o))) | inr w ↦ elim (u.0 w) [ inl v ↦ inl (m.0 (f.1 (inr v))) | inr v ↦ inr v ] ]),
          λ h. e.1 (elim (d.0 h) [ inl o ↦ elim (f.0 (m.1 o)) [ inl b ↦ inl b | inr v ↦ inr (u.1 (inl v)) ] | inr v ↦ inr (u.1 (inr v)) ]),
        );
    small = small_end old j (small_front old t a.small) i.small;
  };
  from = inl i.from;
}

-- ---- the walk
-- none begins left of the one before it, and the first not left of l
abbrev pub IsRising : ℤ → List Slant → Type 0
IsRising l [] = Unit {0}
IsRising l (s ∷ ss) = (l ≤ℤ s.from.place) × IsRising s.from.place ss

rising_of : (l : ℤ) (ss : List Slant) → ((d : Slant) → 0 < length ss → l ≤ℤ (get_or ss 0 d).from.place) → AreFromLeft ss → IsRising l ss
rising_of l [] f a = tt
rising_of l (s ∷ ss) f a = (f s (omega arith), rising_of s.from.place ss (λ d m. a 0 d (omega (arith, m))) (λ k d m. later k d m))
  where
    later : (k : ℕ) (d : Slant) → k + 1 < length ss → (get_or ss k d).from.place ≤ℤ (get_or ss (k + 1) d).from.place
    later k d m =
        let e : suc k + 1 ≡ suc (k + 1) = omega arith in
        subst (λ (j : ℕ). (get_or (s ∷ ss) (suc k) d).from.place ≤ℤ (get_or (s ∷ ss) j d).from.place) e (a (suc k) d (omega (arith, m)))

rising_lower : (l m : ℤ) (ss : List Slant) → l ≤ℤ m → IsRising m ss → IsRising l ss
rising_lower l m [] h a = tt
rising_lower l m (s ∷ ss) h a = (omega (arith, ints, a.0), a.1)

pub record IsWalking (n : ℕ) (parts runs : List Slant) (held : Slant) (i : ℕ) : Type 0 where
  pub merged : AreMerged n (take i parts) (runs ++ held ∷ [])
  pub left : IsRising held.from.place (drop i parts)

pub held_small : (n : ℕ) (parts runs : List Slant) (held : Slant) (i : ℕ) → IsWalking n parts runs held i → IsSmallSlant held
held_small n parts runs held i a = small_last runs held a.merged.small

pub none_merged : (n : ℕ) (parts : List Slant) → (length parts == 0) ≡ true → AreMerged n parts []
none_merged n [] e = record {
  sorted = λ k l. record { low = pos 0; ascending = tt };
  same = λ k x l. (λ h. h, λ h. h);
  small = tt;
}
none_merged n (s ∷ ss) e = absurd (omega (arith, eqb-true (length (s ∷ ss)) 0 e))

pub some_part : (parts : List Slant) → (length parts == 0) ≡ false → 0 < length parts
some_part [] e = absurd (false≢true (sym e))
some_part (s ∷ ss) e = omega arith

pub walking_first : (n : ℕ) (parts : List Slant) (d : Slant) → 0 < length parts → All (λ s. IsPart n s) parts → AreFromLeft parts → IsWalking n parts [] (get_or parts 0 d) 1
walking_first n [] d l p a = absurd (omega (arith, l))
walking_first n (s ∷ ss) d l p a =
    let q : IsPart n s = p 0 d (omega arith) in
    record {
      merged = record {
        sorted = λ k i. record { low = reach k s.from; ascending = (omega (arith, ints), q.filled k i, tt) };
        same = λ k x i. (λ h. h, λ h. h);
        small = (q.small, tt);
      };
      left = (rising_of s.from.place (s ∷ ss) (λ e m. omega (arith, ints)) a).1;
    }

ahead : (parts : List Slant) (l : ℤ) (i : ℕ) (d : Slant) → i < length parts → IsRising l (drop i parts)
    → (l ≤ℤ (get_or parts i d).from.place) × IsRising (get_or parts i d).from.place (drop (i + 1) parts)
ahead parts l i d m a =
    let c : drop i parts ≡ get_or parts i d ∷ drop (i + 1) parts = rw (add-one, drop-cons parts i d) refl in
    subst (λ (v : List Slant). IsRising l v) c a

pub walking_left : (n : ℕ) (parts runs : List Slant) (held d : Slant) (i : ℕ) → i < length parts → IsWalking n parts runs held i → held.from.place ≤ℤ (get_or parts i d).from.place
walking_left n parts runs held d i l a = (ahead parts held.from.place i d l a.left).0

still_left : (e f g : End) (rest : List Slant) → ((g ≡ e) ⊎ (g ≡ f)) → e.place ≤ℤ f.place → IsRising f.place rest → IsRising g.place rest
still_left e f g rest (inl q) h a = subst (λ (v : End). IsRising v.place rest) (sym q) (rising_lower e.place f.place rest h a)
still_left e f g rest (inr q) h a = subst (λ (v : End). IsRising v.place rest) (sym q) a

pub walking_more : (n : ℕ) (d : Slant) (parts runs new : List Slant) (held next : Slant) (i : ℕ) → i < length parts → All (λ s. IsPart n s) parts
    → IsWalking n parts runs held i → IsPut n held (get_or parts i d) runs new next → IsWalking n parts new next (i + 1)
walking_more n d parts runs new held next i l p a w =
    let h = ahead parts held.from.place i d l a.left in
    record {
      merged = subst (λ (v : List Slant). AreMerged n v (new ++ next ∷ [])) (sym (take_more parts i d l)) (w.more (take i parts) a.merged (p i d l));
      left = still_left held.from (get_or parts i d).from next.from (drop (i + 1) parts) w.from h.0 h.1;
    }

pub walking_end : (n : ℕ) (parts runs : List Slant) (held : Slant) (i : ℕ) → length parts ≤ i → IsWalking n parts runs held i → AreMerged n parts (runs ++ held ∷ [])
walking_end n parts runs held i l a = subst (λ (v : List Slant). AreMerged n v (runs ++ held ∷ [])) (take_all i parts l) a.merged

-- ---- parts in another order
key_moves : (m p : Move) (a c : ℤ) → (place_after m 0 a +ℤ place_after m 0 a +ℤ place_after m 1 a) ≤ℤ (place_after p 0 c +ℤ place_after p 0 c +ℤ place_after p 1 c) → a ≤ℤ c
key_moves Left Left a c h = omega (arith, ints)
key_moves Left Still a c h = omega (arith, ints)
key_moves Left Right a c h = omega (arith, ints)
key_moves Still Left a c h = omega (arith, ints)
key_moves Still Still a c h = omega (arith, ints)
key_moves Still Right a c h = omega (arith, ints)
key_moves Right Left a c h = omega (arith, ints)
key_moves Right Still a c h = omega (arith, ints)
key_moves Right Right a c h = omega (arith, ints)

pub from_left_of : (ss : List Slant) → ((k : ℕ) (d : Slant) → k + 1 < length ss → begin_key (get_or ss k d) ≤ℤ begin_key (get_or ss (k + 1) d)) → AreFromLeft ss
from_left_of ss f = λ k d l.
    let s = get_or ss k d in
    let t = get_or ss (k + 1) d in
    key_moves s.from.go t.from.go s.from.place t.from.place (f k d l)

on_in : (k : ℕ) (ss : List Slant) (x : ℤ) → OnRuns (map (run_down k) ss) x → (s : Slant) × Contains ss s × IsOnRun (run_down k s) x
on_in k [] x h = absurd h
on_in k (s ∷ ss) x (inl w) = (s, (0, omega arith, refl), w)
on_in k (s ∷ ss) x (inr m) = let r = on_in k ss x m in let c = r.1 in (r.0, (suc c.0, (let l = c.1 in omega (arith, l)), c.2), r.2)

on_of : (k : ℕ) (ss : List Slant) (x : ℤ) (i : ℕ) (s : Slant) → i < length ss → get_or ss i s ≡ s → IsOnRun (run_down k s) x → OnRuns (map (run_down k) ss) x
on_of k [] x i s l e w = absurd (omega (arith, l))
on_of k (t ∷ ss) x zero s l e w = inl (subst (λ (v : Slant). IsOnRun (run_down k v) x) (sym e) w)
on_of k (t ∷ ss) x (suc i) s l e w = inr (on_of k ss x i s (omega (arith, l)) e w)

on_permuted : (k : ℕ) (ss ts : List Slant) (x : ℤ) → IsPermutation ss ts → OnRuns (map (run_down k) ss) x → OnRuns (map (run_down k) ts) x
on_permuted k ss ts x p h = let r = on_in k ss x h in let c = Contains-permutation ss ts r.0 p r.1 in on_of k ts x c.0 r.0 c.1 c.2 r.2

merged_permuted : (n : ℕ) (parts sorted runs : List Slant) → IsPermutation parts sorted → AreMerged n sorted runs → AreMerged n parts runs
merged_permuted n parts sorted runs p a = record {
  sorted = a.sorted;
  same = λ k x l. (
    λ h. on_permuted k sorted parts x (IsPermutation-sym parts sorted p) ((a.same k x l).0 h),
    λ h. (a.same k x l).1 (on_permuted k parts sorted x p h),
  );
  small = a.small;
}

pub merged_some : {V E : Type 0} (items : V → List Slant) (n : ℕ) (parts sorted : List Slant) (r : Result (Option V) E) → IsPermutation parts sorted
    → IfOk r (λ u. IfSome u (λ v. AreMerged n sorted (items v))) → IfOk r (λ u. IfSome u (λ v. AreMerged n parts (items v)))
merged_some items n parts sorted (Err e) p h = h
merged_some items n parts sorted (Ok None) p h = h
merged_some items n parts sorted (Ok (Some v)) p h = merged_permuted n parts sorted (items v) p h
