-- The stacks of a part have just the points of its pieces.
use Rattle.std.proofs.Common.{◌≡◌, refl, sym, ◌∙◌, ap, subst, ℕ, zero, suc, ◌+◌, ◌<◌, inl, inr, ◌⊎◌, arith, Bool, true, false, cond, List, [], ◌∷◌, ◌++◌, length, get_or, set}
use Rattle.std.specs.Prelude.{◌==◌, slice_get, Some}
use Rattle.std.proofs.lemmas.Bool.{cases_eq, cases_lt}
use Rattle.std.proofs.lemmas.Bool.Decides.{Decides-eqb}
use Rattle.std.proofs.lemmas.List.{get_or-set_same, get_or-set_other, length-set, get_or_append_left, get_or_push, length_push}
use Rattle.std.proofs.lemmas.Option.{slice_get_within, slice_get-get_or, slice_get_cases, get_or_from_slice_get, same_Some, none-some}
use Rattle.plane.specs.Plane.{PlanePoint, Bounds}
use Rattle.classes.specs.Classes.{IsOneOf}
use Rattle.classes.proofs.Reaching.{reaches_map}
use Rattle.stacks.specs.Places.{AreTogether, ArePlaces}
use Rattle.islands.specs.Parts.{IsMeetingAt, AreParts}
use Rattle.islands.proofs.PartLaws.{parts_same}
use Rattle.fill_rules.specs.Made.{Made, no_fill}
use Rattle.fill_rules.specs.Clusters.{labelled}
use Rattle.clusters.specs.declared.fill_stacks.FillStacks.{FillStacks}
use Rattle.clusters.specs.Inner.Stacks.{IsInOctagons, AreOfOnePart, AreStackParts, HavePartPoints, AreFillStacks}

-- ---- what has a label, by its place

picked : (t : Bool) (x o : Bounds) (os : List Bounds) → IsOneOf o (cond t (x ∷ os) os) → ((t ≡ true) × (o ≡ x)) ⊎ IsOneOf o os
unfolding IsOneOf
picked true x o os (inl e) = inl (refl, e)
picked true x o os (inr i) = inr i
picked false x o os i = inr i

labelled_place : (first : ℕ) (os : List Bounds) (labels : List ℕ) (o : Bounds) → IsOneOf o (labelled first os labels)
    → (k : ℕ) × (slice_get os k ≡ Some o) × (k < length labels) × (get_or labels k 0 ≡ first)
unfolding IsOneOf
labelled_place first [] labels o i = absurd i
labelled_place first (x ∷ os) [] o i = absurd i
labelled_place first (x ∷ os) (label ∷ labels) o i = elim (picked (label == first) x o (labelled first os labels) i) [
  | inl a ↦ (0, ap (λ (z : Bounds). Some z) (sym a.1), omega arith, (Decides-eqb label first).0 a.0)
  | inr j ↦ (let r = labelled_place first os labels o j in (suc r.0, r.1, (let l = r.2 in omega (arith, l)), r.3))
]

place_labelled : (first : ℕ) (os : List Bounds) (labels : List ℕ) (k : ℕ) (o : Bounds) → slice_get os k ≡ Some o → k < length labels → get_or labels k 0 ≡ first
    → IsOneOf o (labelled first os labels)
unfolding IsOneOf
place_labelled first [] labels k o at l e = absurd (none-some o at)
place_labelled first (x ∷ os) [] k o at l e = absurd (omega (arith, l))
place_labelled first (x ∷ os) (label ∷ labels) zero o at l e =
    subst (λ (t : Bool). IsOneOf o (cond t (x ∷ labelled first os labels) (labelled first os labels))) (sym ((Decides-eqb label first).1 e)) (inl (sym (same_Some x o at)))
place_labelled first (x ∷ os) (label ∷ labels) (suc k) o at l e = put (label == first) (place_labelled first os labels k o at (omega (arith, l)) e)
  where
    put : (t : Bool) → IsOneOf o (labelled first os labels) → IsOneOf o (cond t (x ∷ labelled first os labels) (labelled first os labels))
    put true i = inr i
    put false i = i

-- ---- pieces of a stack hang together, and so are of one part

there : (os : List Bounds) (k : ℕ) → k < length os → (o : Bounds) × (slice_get os k ≡ Some o)
there os k l = elim (slice_get_cases os k).1 [ inl a ↦ (a.0, a.2) | inr a ↦ absurd (let m = a.0 in omega (arith, l, m)) ]

in_stack : (pieces : List Bounds) (places : List ℕ) (n j k : ℕ) → AreTogether pieces places n j k → IsMeetingAt pieces j k
in_stack pieces places n j k h = record { first = h.first; second = h.second; at_first = h.one.there; at_second = h.other.there; meet = h.meet }

pub of_one_part : (pieces stacks : List Bounds) (places parts : List ℕ) → ArePlaces pieces stacks places → AreParts pieces parts → AreOfOnePart places parts
unfolding AreOfOnePart
of_one_part pieces stacks places parts s a j k l m e =
    let c = s.each in
    let lj : j < length pieces = omega (arith, l, c) in
    let lk : k < length pieces = omega (arith, m, c) in
    let q = there pieces j lj in
    let r = there pieces k lk in
    let n : ℕ = get_or places j 0 in
    (parts_same pieces parts a j k lj lk).1
    (reaches_map (AreTogether pieces places n) (IsMeetingAt pieces) (in_stack pieces places n) j k
    (s.together n j k q.0 r.0
    (record { there = q.1; stack = slice_get-get_or places j 0 l })
    (record { there = r.1; stack = subst (λ (z : ℕ). slice_get places k ≡ Some z) (sym e) (slice_get-get_or places k 0 m) })))

-- ---- the parts of stacks, piece by piece

pub parts_none : (places parts firsts : List ℕ) (count : ℕ) → length firsts ≡ count → AreStackParts places parts count 0 firsts
parts_none places parts firsts count e = record { many = e; each = λ j l. absurd (omega (arith, l)) }

pub parts_more : (places parts firsts : List ℕ) (count j : ℕ) → AreOfOnePart places parts → j < length places → get_or places j 0 < count → AreStackParts places parts count j firsts
    → AreStackParts places parts count (j + 1) (set firsts (get_or places j 0) (get_or parts j 0))
unfolding AreOfOnePart
parts_more places parts firsts count j one l w h =
    let own : ℕ = get_or places j 0 in
    let part : ℕ = get_or parts j 0 in
    record {
      many = length-set firsts own part ∙ h.many;
      each = λ i m. elim (cases_eq (get_or places i 0) own) [
        | inl e ↦ ap (λ (z : ℕ). get_or (set firsts own part) z 0) e ∙ get_or-set_same firsts own part 0 (let c = h.many in omega (arith, w, c))
            ∙ sym (one i j (omega (arith, l, m)) l e)
        | inr n ↦ get_or-set_other firsts own (get_or places i 0) part 0 n ∙ h.each i (before i m n)
      ];
    }
  where
    before : (i : ℕ) → i < j + 1 → (get_or places i 0 ≡ get_or places j 0 → ⊥) → i < j
    before i m n = elim (cases_eq i j) [ inl e ↦ absurd (n (ap (λ (z : ℕ). get_or places z 0) e)) | inr x ↦ omega (arith, m, x) ]

module _ (pieces stacks : List Bounds) (places parts firsts : List ℕ) (s : ArePlaces pieces stacks places) (n : length parts ≡ length pieces)
    (t : AreStackParts places parts (length stacks) (length places) firsts) where
  to_pieces : (first : ℕ) (p : PlanePoint) → IsInOctagons (labelled first stacks firsts) p → IsInOctagons (labelled first pieces parts) p
  to_pieces first p w =
      let a = labelled_place first stacks firsts w.0 w.1 in
      let i = (s.points a.0 w.0 a.1 p).0 w.2 in
      let l : i.at < length places = slice_get_within places i.at a.0 i.one.stack in
      let c = s.each in
      let e : get_or parts i.at 0 ≡ first = sym (t.each i.at l) ∙ ap (λ (z : ℕ). get_or firsts z 0) (get_or_from_slice_get places i.at a.0 0 i.one.stack) ∙ a.3 in
      (i.piece, place_labelled first pieces parts i.at i.piece i.one.there (omega (arith, l, c, n)) e, i.holds)

  to_stacks : (first : ℕ) (p : PlanePoint) → IsInOctagons (labelled first pieces parts) p → IsInOctagons (labelled first stacks firsts) p
  to_stacks first p w =
      let a = labelled_place first pieces parts w.0 w.1 in
      let j : ℕ = a.0 in
      let b = a.2 in
      let c = s.each in
      let l : j < length places = omega (arith, b, c, n) in
      let m : get_or places j 0 < length stacks = s.within j 0 l in
      let at : slice_get stacks (get_or places j 0) ≡ Some (get_or stacks (get_or places j 0) w.0) = slice_get-get_or stacks (get_or places j 0) w.0 m in
      let f = t.many in (
        get_or stacks (get_or places j 0) w.0,
        place_labelled first stacks firsts (get_or places j 0) (get_or stacks (get_or places j 0) w.0) at (omega (arith, m, f)) (t.each j l ∙ a.3),
        (s.points (get_or places j 0) (get_or stacks (get_or places j 0) w.0) at p).1
            (record { at = j; piece = w.0; one = record { there = a.1; stack = slice_get-get_or places j 0 l }; holds = w.2 }),
      )

  pub part_points : HavePartPoints pieces parts stacks firsts
  unfolding HavePartPoints
  part_points first p = (to_pieces first p, to_stacks first p)

-- as they are read
pub read_points : (pieces stacks : List Bounds) (places parts firsts seen : List ℕ) (count : ℕ) → ArePlaces pieces stacks places → length parts ≡ length pieces → seen ≡ places
    → count ≡ length stacks → AreStackParts seen parts count (length seen) firsts → HavePartPoints pieces parts stacks firsts
read_points pieces stacks places parts firsts seen count s n e f t =
    part_points pieces stacks places parts firsts s n
    (subst (λ (z : ℕ). AreStackParts places parts z (length places) firsts) f (subst (λ (z : List ℕ). AreStackParts z parts count (length z) firsts) e t))

pub read_many : (places parts firsts : List ℕ) (count : ℕ) (stacks : List Bounds) → count ≡ length stacks → AreStackParts places parts count (length places) firsts
    → length firsts ≡ length stacks
read_many places parts firsts count stacks e t = t.many ∙ e

-- ---- fill by fill

pub stacks_none : (fills : List Made) → AreFillStacks fills 0 []
stacks_none fills = record { count = refl; each = λ r d l. absurd (omega (arith, l)) }

pub stacks_more : (fills : List Made) (n : ℕ) (all : List FillStacks) (f : Made) (s : FillStacks) → f ≡ get_or fills n no_fill
    → HavePartPoints f.pieces f.parts s.stacks.items s.parts.items → AreFillStacks fills n all → AreFillStacks fills (n + 1) (all ++ s ∷ [])
stacks_more fills n all f s e w h = record {
  count = let a = length_push all s in let c = h.count in omega (arith, a, c);
  each = λ r d l. elim (cases_lt r n) [
    | inl m ↦ subst (HasPoints r) (sym (get_or_append_left all (s ∷ []) d r (let c = h.count in omega (arith, m, c)))) (h.each r d m)
    | inr m ↦ (let x : n ≡ r = omega (arith, l, m) in
        subst (HasPoints r) (sym (get_or_push all s d r (h.count ∙ x)))
        (subst (λ (z : Made). HavePartPoints z.pieces z.parts s.stacks.items s.parts.items) (e ∙ ap (λ (z : ℕ). get_or fills z no_fill) x) w))
  ];
}
  where
    HasPoints : ℕ → FillStacks → Type 0
    HasPoints r z = HavePartPoints (get_or fills r no_fill).pieces (get_or fills r no_fill).parts z.stacks.items z.parts.items

-- of a fill, as it is read
pub seen_points : (f : Made) (pieces : List Bounds) (parts : List ℕ) (s : FillStacks) → pieces ≡ f.pieces → parts ≡ f.parts → HavePartPoints pieces parts s.stacks.items s.parts.items
    → HavePartPoints f.pieces f.parts s.stacks.items s.parts.items
seen_points f pieces parts s e g w =
    subst (λ (z : List ℕ). HavePartPoints f.pieces z s.stacks.items s.parts.items) g (subst (λ (z : List Bounds). HavePartPoints z parts s.stacks.items s.parts.items) e w)
