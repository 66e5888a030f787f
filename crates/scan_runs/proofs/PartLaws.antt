-- What octagons are on a stretch, from their ends.
use Rattle.std.proofs.Common.{◌≡◌, refl, sym, subst, ℕ, zero, suc, ◌≤◌, ◌^◌, ◌⊎◌, inl, inr, w64, to_z, of_z, List, [], ◌∷◌, ◌++◌, ◌+◌, ◌<◌, take, length, get_or, Result, Ok, Err, IfOk, arith}
use Rattle.std.specs.Prelude.{Option, None, Some, IfSome, ℤ, pos, negsuc, ◌+ℤ◌, ◌≤ℤ◌, ◌<ℤ◌}
use Rattle.std.proofs.lemmas.Int.{ints}
use Rattle.plane.specs.Plane.{Bounds, IsOct}
use Rattle.plane.specs.Narrow.{IsNearZero}
use Rattle.scan_runs.specs.Inner.Lines.{AreEndsApart, IsGreaterEnd, IsAbsent}
use Rattle.std.proofs.lemmas.List.{take_more, take_all}
use Rattle.std.proofs.lemmas.List.Elements.{All-push}
use Rattle.grid_sets.specs.declared.End.{End}
use Rattle.grid_sets.specs.declared.Slant.{Slant}
use Rattle.scan_runs.proofs.Lines.{both-IsAlong}
use Rattle.scan_runs.proofs.Merging.{joint_law, has_end}
use Rattle.scan_runs.specs.Inner.Ends.{IsLeftFor, IsRightFor, IsSmallEnd}
use Rattle.scan_runs.specs.Inner.Parts.{IsSmallSlant, IsSmallAlong, IsSmallJoint, IsPart, ArePartsOf, IsWith, IsSoFar}
use Rattle.scan_runs.specs.Inner.Walk.{AreMerged}
use Rattle.scan_runs.proofs.Walk.{on_end}
use Rattle.grid_sets.specs.Bands.{place_after, reach}
use Rattle.grid_sets.specs.declared.Move.{Move}
use Rattle.grid_sets.specs.declared.Move.TheVariants.{Left, Still, Right}

either_small : (e f m : End) → IsSmallEnd e → IsSmallEnd f → ((m ≡ e) ⊎ (m ≡ f)) → IsSmallEnd m
either_small e f m h k (inl p) = let P : End → Type 0 = λ v. IsSmallEnd v in subst P (sym p) h
either_small e f m h k (inr p) = let P : End → Type 0 = λ v. IsSmallEnd v in subst P (sym p) k

pub small_joint : (n : ℕ) (a b : Slant) (t : End) → IsSmallSlant a → IsSmallSlant b → AreEndsApart n (pos 0) a.from b.from → IsGreaterEnd n a.to b.to t
    → AreEndsApart n (negsuc 0) b.from a.to → IsSmallJoint n a b (record { from = a.from; to = t })
small_joint n a b t h k l g u = record {
  small = record { from = h.from; to = either_small a.to b.to t h.to k.to g.is };
  joint = joint_law n a b t l g u;
  from = refl;
}

first_place : (m : Move) (a : ℤ) → place_after m 0 a ≡ a
first_place Left a = omega (arith, ints)
first_place Still a = refl
first_place Right a = omega (arith, ints)

-- ends that are in order on the first row change it on more rows alone
pub order_changes : (n : ℕ) (e f : End) → e.place ≤ℤ f.place → (n ≡ 0 → reach 0 f <ℤ (reach 0 e +ℤ pos 0)) → 1 ≤ n
order_changes zero e f l h = absurd (let k = h refl in omega (arith, ints, first_place e.go e.place, first_place f.go f.place))
order_changes (suc n) e f l h = omega arith

pub right_as : (x1 s1 d1 top x s d t : ℤ) (n : ℕ) (e : End) → IsRightFor x s d t n e → x ≡ x1 → s ≡ s1 → d ≡ d1 → t ≡ top → IsRightFor x1 s1 d1 top n e
right_as x1 s1 d1 top x s d t n e h p q r u =
    let T : ℤ → Type 0 = λ v. IsRightFor x s d v n e in
    let h : IsRightFor x s d top n e = subst T u h in
    let P : ℤ → Type 0 = λ v. IsRightFor v s d top n e in
    let Q : ℤ → Type 0 = λ v. IsRightFor x1 v d top n e in
    let R : ℤ → Type 0 = λ v. IsRightFor x1 s1 v top n e in
    subst R r (subst Q q (subst P p h))

pub small_along : (o : Bounds) (top : ℤ) (n : ℕ) (e f : End) → IsOct o → o.y0 ≤ℤ top → (top +ℤ pos n) ≤ℤ o.y1
    → IsLeftFor o.x0 o.s0 o.d0 top n e → IsRightFor o.x1 o.s1 o.d1 top n f → IsSmallAlong o top n (record { from = e; to = f })
small_along o top n e f t h i a b = record {
  small = record { from = a.small; to = b.small };
  along = both-IsAlong o top n e f t.tight h i a.is b.is;
}

pub near_as : (r a : ℤ) → IsNearZero (2 ^ 42) a → r ≡ a → IsNearZero (2 ^ 42) (to_z w64 (of_z w64 r))
near_as r a h e = record { low = omega (arith, ints); high = omega (arith, ints) }

-- ---- one octagon more on a stretch
pub no_parts : (top : ℤ) (n : ℕ) → ArePartsOf [] top n []
no_parts top n = record { each = λ k d l. absurd (omega (arith, l)); same = λ k x l. (λ h. h, λ h. h) }

pub with_absent : (o : Bounds) (top t : ℤ) (n : ℕ) (ss : List Slant) → t ≡ top → IsAbsent o t n → IsWith o top n ss ss
with_absent o top t n ss z b =
    let b : IsAbsent o top n = subst (λ (v : ℤ). IsAbsent o v n) z b in
    record {
      more = λ os a. record {
        each = a.each;
        same = λ k x l. (
          λ h. (has_end os o x (top +ℤ pos k)).1 (inl ((a.same k x l).0 h)),
          λ h. elim ((has_end os o x (top +ℤ pos k)).0 h) [ inl m ↦ (a.same k x l).1 m | inr w ↦ absurd (b.each k x l w) ],
        );
      };
    }

pub with_along : (o : Bounds) (top t : ℤ) (n : ℕ) (s : Slant) (ss : List Slant) → t ≡ top → IsSmallAlong o t n s → IsWith o top n ss (ss ++ s ∷ [])
with_along o top t n s ss z b =
    let b : IsSmallAlong o top n s = subst (λ (v : ℤ). IsSmallAlong o v n s) z b in
    record {
      more = λ os a. record {
        each = All-push (λ v. IsPart n v) ss s a.each (record { small = b.small; filled = b.along.filled });
        same = λ k x l.
            let e = on_end k ss s x in
            let f = has_end os o x (top +ℤ pos k) in (
              λ h. f.1 (elim (e.0 h) [ inl m ↦ inl ((a.same k x l).0 m) | inr r ↦ inr (b.along.there k x l r) ]),
              λ h. e.1 (elim (f.0 h) [ inl m ↦ inl ((a.same k x l).1 m) | inr v ↦ inr (b.along.back k x l v) ]),
            );
      };
    }

-- ---- the loop over the octagons
pub parts_more : (o : Bounds) (xs : List Bounds) (i : ℕ) (top : ℤ) (n : ℕ) (ss new : List Slant) → i < length xs → o ≡ get_or xs i o
    → ArePartsOf (take i xs) top n ss → IsWith o top n ss new → ArePartsOf (take (i + 1) xs) top n new
parts_more o xs i top n ss new l e a w =
    let P : List Bounds → Type 0 = λ t. ArePartsOf t top n new in
    let Q : Bounds → Type 0 = λ v. ArePartsOf (take i xs ++ v ∷ []) top n new in
    subst P (sym (take_more xs i o l)) (subst Q e (w.more (take i xs) a))

pub parts_end : (xs : List Bounds) (i : ℕ) (top t : ℤ) (n : ℕ) (ss : List Slant) → length xs ≤ i → t ≡ top → ArePartsOf (take i xs) t n ss → ArePartsOf xs top n ss
parts_end xs i top t n ss l z a = subst (λ (w : ℤ). ArePartsOf xs w n ss) z (subst (λ (v : List Bounds). ArePartsOf v t n ss) (take_all i xs l) a)

-- ---- the merged parts are the octagons' runs
so_far : (os : List Bounds) (top t : ℤ) (n : ℕ) (parts runs : List Slant) → t ≡ top → ArePartsOf os t n parts → AreMerged n parts runs → IsSoFar os top n runs
so_far os top t n parts runs z a m =
    let a : ArePartsOf os top n parts = subst (λ (v : ℤ). ArePartsOf os v n parts) z a in
    record {
      straight = record {
        sorted = m.sorted;
        same = λ k x l. (λ h. (a.same k x l).0 ((m.same k x l).0 h), λ h. (m.same k x l).1 ((a.same k x l).1 h));
      };
      small = m.small;
    }

pub so_far_some : {V E : Type 0} (items : V → List Slant) (os : List Bounds) (top t : ℤ) (n : ℕ) (parts : List Slant) (r : Result (Option V) E) → t ≡ top → ArePartsOf os t n parts
    → IfOk r (λ u. IfSome u (λ v. AreMerged n parts (items v))) → IfOk r (λ u. IfSome u (λ v. IsSoFar os top n (items v)))
so_far_some items os top t n parts (Err e) z a h = h
so_far_some items os top t n parts (Ok None) z a h = h
so_far_some items os top t n parts (Ok (Some v)) z a h = so_far os top t n parts (items v) z a h
