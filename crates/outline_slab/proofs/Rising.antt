-- Rows from the top, and a search in them.
use Rattle.std.proofs.Common.{◌≡◌, ap, subst, ℕ, zero, suc, ◌+◌, ◌<◌, ◌≤◌, inl, inr, arith, List, length, get_or, true, false}
use Rattle.std.specs.Prelude.{ℤ, ◌≤ℤ◌, ◌<ℤ◌, int_le, Any}
use Rattle.std.specs.List.Sorted.{IsPartitionedBy, IsPartitionPoint}
use Rattle.std.proofs.lemmas.Int.{ints}
use Rattle.std.proofs.lemmas.Bool.{cases_lt}
use Rattle.std.proofs.lemmas.List.{get_or_default}
use Rattle.slabs.specs.Slabs.{IsAmong}
use Rattle.slabs.specs.Inner.Cutting.{AreNeighbourRows}
use Rattle.slabs.proofs.Cutting.{one_is}
use Rattle.outline_slab.specs.Cuts.{AreRising}

le_true : (a b : ℤ) → a ≤ℤ b → int_le a b ≡ true
le_true a b h = grind (arith, ints)

le_is : (a b : ℤ) → int_le a b ≡ true → a ≤ℤ b
le_is a b h = grind (arith, ints)

le_not : (a b : ℤ) → int_le a b ≡ false → b <ℤ a
le_not a b h = grind (arith, ints)

-- each is at most the next one, so each is at most all later ones
pub rising_from : (rows : List ℤ) → ((k : ℕ) (d : ℤ) → k + 1 < length rows → get_or rows k d ≤ℤ get_or rows (k + 1) d) → AreRising rows
rising_from rows h = λ i j d l m. climb i j d l m
  where
    same : (i j : ℕ) (d : ℤ) → i ≡ j → get_or rows i d ≤ℤ get_or rows j d
    same i j d e = let f = ap (λ (n : ℕ). get_or rows n d) e in omega (arith, ints, f)

    next : (j : ℕ) (d : ℤ) → suc j < length rows → get_or rows j d ≤ℤ get_or rows (suc j) d
    next j d m = let e : j + 1 ≡ suc j = omega arith in subst (λ (n : ℕ). get_or rows j d ≤ℤ get_or rows n d) e (h j d (omega (arith, m)))

    climb : (i j : ℕ) (d : ℤ) → i ≤ j → j < length rows → get_or rows i d ≤ℤ get_or rows j d
    climb i zero d l m = same i zero d (omega (arith, l))
    climb i (suc j) d l m = elim (cases_lt i (suc j)) [
      | inl g ↦ (let a = climb i j d (omega (arith, g)) (omega (arith, m)) in let b = next j d m in omega (arith, ints, a, b))
      | inr g ↦ same i (suc j) d (omega (arith, g, l))
    ]

pub partitioned : (rows : List ℤ) (y : ℤ) → AreRising rows → IsPartitionedBy (λ z. int_le z y) rows
partitioned rows y r i j d l m h =
    let a = le_is (get_or rows j d) y h in
    let b = r i j d l m in
    le_true (get_or rows i d) y (omega (arith, ints, a, b))

-- ---- what the search finds
module _ (rows : List ℤ) (y : ℤ) (i : ℕ) (rising : AreRising rows) (found : IsPartitionPoint (λ z. int_le z y ≡ true) (λ z. int_le z y ≡ false) rows i) where
  found_low : (k : ℕ) (d : ℤ) → k < i → get_or rows k d ≤ℤ y
  found_low k d h = le_is (get_or rows k d) y (found.0 k d (omega arith) h)

  found_high : (k : ℕ) (d : ℤ) → i ≤ k → k < length rows → y <ℤ get_or rows k d
  found_high k d h l = le_not (get_or rows k d) y (found.1 k d h l)

  pub found_within : Any (λ z. y <ℤ z) rows → i < length rows
  found_within a = elim (cases_lt i (length rows)) [
    | inl h ↦ h
    | inr h ↦
        (let b = found_low a.0 a.1 (omega (arith, h, a.2)) in
        let c : get_or rows a.0 a.1 ≡ a.1 = a.3 in
        let d : y <ℤ a.1 = a.4 in
        absurd (omega (arith, ints, b, c, d)))
  ]

  pub found_after : (d : ℤ) → Any (λ z. y <ℤ z) rows → y <ℤ get_or rows i d
  found_after d a = found_high i d (omega arith) (found_within a)

  pub found_row : (d : ℤ) → Any (λ z. y <ℤ z) rows → IsAmong rows (get_or rows i d)
  found_row d a = one_is rows i d (found_within a)

  pub found_next : (d : ℤ) → Any (λ z. y <ℤ z) rows → AreNeighbourRows rows y (get_or rows i d)
  found_next d a = λ k q h. elim (cases_lt k i) [
    | inl l ↦ inl (found_low k q l)
    | inr l ↦
        (let r = rising i k d (omega (arith, l)) h in
        let e = get_or_default rows k d q h in
        inr (omega (arith, ints, r, e)))
  ]
