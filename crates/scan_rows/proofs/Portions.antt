-- Octagons taken away slab by slab.
use Rattle.std.proofs.Common.{◌≡◌, ◌∙◌, ap, refl, ◌^◌, w64, to_z, of_z, sym, subst, ◌⊎◌, inl, inr, ℕ, ◌+◌, ◌<◌, ◌≤◌, arith, List, [], ◌∷◌, ◌++◌, length, get_or, take}
use Rattle.std.proofs.lemmas.Bool.{true≢false}
use Rattle.std.proofs.lemmas.Int.{ints, by_lt_z}
use Rattle.std.proofs.lemmas.List.{take_all}
use Rattle.std.specs.Prelude.{ℤ, ◌<ℤ◌, ◌↔◌, Bool, true, false, not, cond, IsTrue}
use Rattle.plane.specs.Plane.{Bounds, Within, IsOct}
use Rattle.plane.specs.Narrow.{IsNearZero, Small}
use Rattle.octagon.proofs.Plain.{IsOct-IsSmall}
use Rattle.grid_sets.specs.Points.{HasPoint, AreApart}
use Rattle.scan_rows.specs.Sets.{IsWithoutAll}
use Rattle.scan_rows.specs.Inner.Cutting.{IsCutOff, IsAdded}
use Rattle.scan_rows.specs.declared.cut.Side.TheVariants.{Top}
use Rattle.scan_rows.specs.Inner.Slabs.{IsPartAdded, ArePartsOf, AgreeWhere, IsLeftAdded, IsUnderWay}
use Rattle.scan_rows.proofs.Lists.{has_end, own_here, more_by}

-- ---- lists end to end

pub has_both : (os ps : List Bounds) (x y : ℤ) → HasPoint (os ++ ps) x y ↔ (HasPoint os x y ⊎ HasPoint ps x y)
has_both [] ps x y = (λ h. inr h, λ h. right h)
  where
    right : ⊥ ⊎ HasPoint ps x y → HasPoint ps x y
    right (inl e) = absurd e
    right (inr p) = p
has_both (o ∷ os) ps x y =
    let r = has_both os ps x y in (
      λ h. elim h [ inl w ↦ inl (inl w) | inr k ↦ elim (r.0 k) [ inl m ↦ inl (inr m) | inr p ↦ inr p ] ],
      λ h. elim h [ inl k ↦ elim k [ inl w ↦ inl w | inr m ↦ inr (r.1 (inl m)) ] | inr p ↦ inr (r.1 (inr p)) ],
    )

pub apart_both : (os ps : List Bounds) → AreApart os → AreApart ps → ((x y : ℤ) → HasPoint os x y → HasPoint ps x y → ⊥) → AreApart (os ++ ps)
apart_both [] ps a b f = b
apart_both (o ∷ os) ps a b f = (
  λ x y w h. elim ((has_both os ps x y).0 h) [ inl m ↦ a.0 x y w m | inr p ↦ f x y (inl w) p ],
  apart_both os ps a.1 b (λ x y h p. f x y (inr h) p),
)

pub left_added : (near octs old rest new : List Bounds) → IsWithoutAll near octs rest → new ≡ old ++ rest → IsLeftAdded near octs old new
left_added near octs old rest new w e = record {
  same = λ x y. subst (λ t. HasPoint t x y ↔ (HasPoint old x y ⊎ (HasPoint octs x y × ¬ (HasPoint near x y)))) (sym e) (
    λ h. elim ((has_both old rest x y).0 h) [ inl m ↦ inl m | inr p ↦ inr ((w.same x y).0 p) ],
    λ h. (has_both old rest x y).1 (elim h [ inl m ↦ inl m | inr p ↦ inr ((w.same x y).1 p) ]),
  );
  apart = λ a f. subst AreApart (sym e) (apart_both old rest a w.apart (λ x y h p. f x y h ((w.same x y).0 p).0));
}

-- ---- parts

pub no_parts : (P : ℤ → Type 0) (parts : List Bounds) → parts ≡ [] → ArePartsOf P [] parts
no_parts P parts e = subst (ArePartsOf P []) (sym e) (record { same = λ x y. (λ h. absurd h, λ h. absurd h.0); apart = tt })

pub upper_added : (oct m rest : Bounds) (old new : List Bounds) → IsCutOff Top m.y0 oct old new rest → IsPartAdded (λ y. y <ℤ m.y0) oct old new
upper_added oct m rest old new c = record { same = c.added; apart = c.apart }

pub lower_added : (oct m rest : Bounds) (old new : List Bounds) → ((x y : ℤ) → Within rest x y ↔ (Within oct x y × ¬ (y <ℤ m.y0))) → IsAdded rest old new
    → IsPartAdded (λ y. ¬ (y <ℤ m.y0)) oct old new
lower_added oct m rest old new r a = record {
  same = λ x y. (
    λ h. elim ((a.same x y).0 h) [ inl k ↦ inl k | inr w ↦ inr ((r x y).0 w) ],
    λ h. (a.same x y).1 (elim h [ inl k ↦ inl k | inr w ↦ inr ((r x y).1 w) ]),
  );
  apart = λ b f. a.apart b (λ x y w h. f x y ((r x y).0 w).0 h);
}

pub parts_more : (P : ℤ → Type 0) (o : Bounds) (xs old new : List Bounds) (i : ℕ) → AreApart xs → i < length xs → o ≡ get_or xs i o → ArePartsOf P (take i xs) old → IsPartAdded P o old new
    → ArePartsOf P (take (i + 1) xs) new
parts_more P o xs old new i a l e m w =
    more_by (λ t. ArePartsOf P t new) o xs i l e (record {
      same = λ x y. (
        λ h. elim ((w.same x y).0 h) [
          | inl k ↦ (let q = (m.same x y).0 k in ((has_end (take i xs) o x y).1 (inl q.0), q.1))
          | inr k ↦ ((has_end (take i xs) o x y).1 (inr k.0), k.1)
        ],
        λ h. (w.same x y).1 (elim ((has_end (take i xs) o x y).0 h.0) [ inl k ↦ inl ((m.same x y).1 (k, h.1)) | inr k ↦ inr (k, h.1) ]),
      );
      apart = w.apart m.apart (λ x y v h. own_here o xs i x y a l e v ((m.same x y).0 h).0);
    })

pub parts_all : (P : ℤ → Type 0) (xs new : List Bounds) (i : ℕ) → length xs ≤ i → ArePartsOf P (take i xs) new → ArePartsOf P xs new
parts_all P xs new i l m = subst (λ t. ArePartsOf P t new) (take_all i xs l) m

-- ---- those that are near

pub agree_none : (P : ℤ → Type 0) (new : List Bounds) → new ≡ [] → AgreeWhere P [] new
agree_none P new e = subst (AgreeWhere P []) (sym e) (λ x y p. (λ h. h, λ h. h))

pub agree_more : (P : ℤ → Type 0) (o : Bounds) (xs old new : List Bounds) (i : ℕ) (wanted : Bool) → i < length xs → o ≡ get_or xs i o → ((wanted ≡ false) → (x y : ℤ) → Within o x y → P y → ⊥)
    → AgreeWhere P (take i xs) old → new ≡ cond wanted (old ++ o ∷ []) old → AgreeWhere P (take (i + 1) xs) new
agree_more P o xs old new i true l e n m is =
    more_by (λ t. AgreeWhere P t new) o xs i l e (subst (AgreeWhere P (take i xs ++ o ∷ [])) (sym is) (λ x y p. (
      λ h. (has_end (take i xs) o x y).1 (elim ((has_end old o x y).0 h) [ inl k ↦ inl ((m x y p).0 k) | inr w ↦ inr w ]),
      λ h. (has_end old o x y).1 (elim ((has_end (take i xs) o x y).0 h) [ inl k ↦ inl ((m x y p).1 k) | inr w ↦ inr w ]),
    )))
agree_more P o xs old new i false l e n m is =
    more_by (λ t. AgreeWhere P t new) o xs i l e (subst (AgreeWhere P (take i xs ++ o ∷ [])) (sym is) (λ x y p. (
      λ h. (has_end (take i xs) o x y).1 (inl ((m x y p).0 h)),
      λ h. elim ((has_end (take i xs) o x y).0 h) [ inl k ↦ (m x y p).1 k | inr w ↦ absurd (n refl x y w p) ],
    )))

pub agree_all : (P : ℤ → Type 0) (xs new : List Bounds) (i : ℕ) → length xs ≤ i → AgreeWhere P (take i xs) new → AgreeWhere P xs new
agree_all P xs new i l m = subst (λ t. AgreeWhere P t new) (take_all i xs l) m

-- ---- slab by slab

pub begun : (others octs done left later : List Bounds) → AreApart octs → done ≡ [] → left ≡ octs → later ≡ others → IsUnderWay others octs done left later
begun others octs done left later a ed el ef =
    subst (λ d. IsUnderWay others octs d left later) (sym ed) (subst (λ t. IsUnderWay others octs [] t later) (sym el) (subst (λ t. IsUnderWay others octs [] octs t) (sym ef) (record {
      same = λ x y. (λ h. inr h, λ h. own x y h);
      done_apart = tt;
      left_apart = a;
      beside = λ x y h k. h;
    })))
  where
    own : (x y : ℤ) → ⊥ ⊎ (HasPoint octs x y × ¬ (HasPoint others x y)) → HasPoint octs x y × ¬ (HasPoint others x y)
    own x y (inl e) = absurd e
    own x y (inr h) = h

above_or_from : (row y : ℤ) → (y <ℤ row) ⊎ ¬ (y <ℤ row)
above_or_from row y = by_lt_z {P = (y <ℤ row) ⊎ ¬ (y <ℤ row)} y row (λ l. inl l) (λ g. inr (λ l. omega (arith, ints, l, g)))

pub slab_done : (others octs done left later slab near new rest after : List Bounds) (row : ℤ) → IsUnderWay others octs done left later → ArePartsOf (λ y. y <ℤ row) left slab
    → AgreeWhere (λ y. y <ℤ row) later near → IsLeftAdded near slab done new → ArePartsOf (λ y. ¬ (y <ℤ row)) left rest → AgreeWhere (λ y. ¬ (y <ℤ row)) later after
    → IsUnderWay others octs new rest after
slab_done others octs done left later slab near new rest after row u above near_is added below after_is = record {
  same = λ x y. (λ h. forward x y ((u.same x y).0 h), λ h. (u.same x y).1 (back x y h));
  done_apart = added.apart u.done_apart (λ x y d s. u.beside x y d ((above.same x y).0 s).0);
  left_apart = below.apart;
  beside = λ x y d r. beside x y ((added.same x y).0 d) ((below.same x y).0 r);
}
  where
    forward : (x y : ℤ) → HasPoint done x y ⊎ (HasPoint left x y × ¬ (HasPoint later x y)) → HasPoint new x y ⊎ (HasPoint rest x y × ¬ (HasPoint after x y))
    forward x y (inl d) = inl ((added.same x y).1 (inl d))
    forward x y (inr h) = elim (above_or_from row y) [
      | inl a ↦ inl ((added.same x y).1 (inr ((above.same x y).1 (h.0, a), λ n. h.1 ((near_is x y a).0 n))))
      | inr f ↦ inr ((below.same x y).1 (h.0, f), λ n. h.1 ((after_is x y f).0 n))
    ]

    back : (x y : ℤ) → HasPoint new x y ⊎ (HasPoint rest x y × ¬ (HasPoint after x y)) → HasPoint done x y ⊎ (HasPoint left x y × ¬ (HasPoint later x y))
    back x y (inl n) = elim ((added.same x y).0 n) [
      | inl d ↦ inl d
      | inr s ↦ (let q = (above.same x y).0 s.0 in inr (q.0, λ l. s.1 ((near_is x y q.1).1 l)))
    ]
    back x y (inr r) = let q = (below.same x y).0 r.0 in inr (q.0, λ l. r.1 ((after_is x y q.1).1 l))

    beside : (x y : ℤ) → HasPoint done x y ⊎ (HasPoint slab x y × ¬ (HasPoint near x y)) → HasPoint left x y × (¬ (y <ℤ row)) → ⊥
    beside x y (inl d) r = u.beside x y d r.0
    beside x y (inr s) r = r.1 ((above.same x y).0 s.0).1

pub finished : (others octs done left later new : List Bounds) → IsUnderWay others octs done left later → IsLeftAdded later left done new → IsWithoutAll others octs new
finished others octs done left later new u added = record {
  same = λ x y. (λ h. (u.same x y).1 ((added.same x y).0 h), λ h. (added.same x y).1 ((u.same x y).0 h));
  apart = added.apart u.done_apart u.beside;
}

-- ---- bounds

ends_above : (o m : Bounds) → o.y1 <ℤ m.y0 → (x y : ℤ) → Within o x y → (y <ℤ m.y0 → ⊥) → ⊥
ends_above o m l x y w a = a (omega (arith, ints, l, w))

pub begun_test : (o m : Bounds) (r : Bool) (a b : ℤ) → a ≡ o.y0 → b ≡ m.y0 → IsTrue r ↔ (a <ℤ b) → r ≡ false → (x y : ℤ) → Within o x y → y <ℤ m.y0 → ⊥
begun_test o m r a b ea eb t f x y w l =
    let less : a <ℤ b = subst (λ (z : ℤ). z <ℤ b) (sym ea) (subst (λ (z : ℤ). o.y0 <ℤ z) (sym eb) (omega (arith, ints, w, l))) in
    true≢false (sym (t.1 less) ∙ f)

pub ended_test : (o m : Bounds) (r : Bool) (a b : ℤ) → a ≡ o.y1 → b ≡ m.y0 → IsTrue r ↔ (a <ℤ b) → not r ≡ false → (x y : ℤ) → Within o x y → (y <ℤ m.y0 → ⊥) → ⊥
ended_test o m true a b ea eb t f x y w n =
    ends_above o m (subst (λ (z : ℤ). o.y1 <ℤ z) eb (subst (λ (z : ℤ). z <ℤ b) ea (t.0 refl))) x y w n
ended_test o m false a b ea eb t f x y w n = true≢false f

-- ---- numbers as they are read

seen : (z : ℤ) → Small z → to_z w64 (of_z w64 z) ≡ z
seen z h = omega (arith, ints)

pub seen_top : (o : Bounds) (r : ℤ) → r ≡ o.y0 → IsOct o → to_z w64 (of_z w64 r) ≡ o.y0
seen_top o r e h = ap (λ (z : ℤ). to_z w64 (of_z w64 z)) e ∙ seen o.y0 (IsOct-IsSmall o h).y0

pub seen_bottom : (o : Bounds) (r : ℤ) → r ≡ o.y1 → IsOct o → to_z w64 (of_z w64 r) ≡ o.y1
seen_bottom o r e h = ap (λ (z : ℤ). to_z w64 (of_z w64 z)) e ∙ seen o.y1 (IsOct-IsSmall o h).y1

pub seen_limit : (m : Bounds) (r : ℤ) → r ≡ m.y0 → IsNearZero (2 ^ 42) r → to_z w64 (of_z w64 r) ≡ m.y0
seen_limit m r e h = seen r h ∙ e
