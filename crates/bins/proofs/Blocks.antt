-- How blocks are put together.
use Rattle.std.proofs.Common.{◌≡◌, refl, sym, ◌∙◌, ap, subst, ℕ, zero, suc, ◌+◌, ◌<◌, ◌≤◌, ◌⊎◌, inl, inr, arith, List, [], ◌∷◌, ◌++◌, length, get_or, set, length-append, length-set}
use Rattle.std.specs.Prelude.{Bool, true, false, nat_lt, cond, slice_get, Some}
use Rattle.std.proofs.lemmas.Bool.{cases_lt, cases_eq, lt-ltb, le-ltb}
use Rattle.std.proofs.lemmas.List.{get_or_append_left, get_or_push, get_or-set_same, get_or-set_other}
use Rattle.std.proofs.lemmas.Option.{slice_get_read, get_or_from_slice_get}
use Rattle.plane.specs.Plane.{Bounds}
use Rattle.bins.specs.declared.frame.Frame.{Frame}
use Rattle.bins.specs.declared.block.Block.{Block}
use Rattle.bins.specs.Inner.Frames.{IsInFrame}
use Rattle.bins.specs.Inner.Blocks.{AreInFrame, no_block, block_at, start_at, next_start, IsBlock, AreBlocksOf, AreBlocks, AreBlocksMore}

-- ---- frames
same_there : (octs : List Bounds) (k : ℕ) (a b : Bounds) → slice_get octs k ≡ Some a → slice_get octs k ≡ Some b → a ≡ b
same_there octs k a b e f = sym (get_or_from_slice_get octs k a a e) ∙ get_or_from_slice_get octs k b a f

framed_put : (f g : Frame) (octs : List Bounds) (first j : ℕ) (o : Bounds) → slice_get octs j ≡ Some o → ((p : Bounds) → IsInFrame f p → IsInFrame g p) → IsInFrame g o
    → AreInFrame f octs first j → AreInFrame g octs first (j + 1)
framed_put f g octs first j o e k n h i p a b there = elim (cases_eq i j) [
  | inl q ↦ subst (λ x. IsInFrame g x) (same_there octs i o p (subst (λ m. slice_get octs m ≡ Some o) (sym q) e) there) n
  | inr q ↦ k p (h i p a (omega (arith, b, q)) there)
]

pub framed_more : (f g : Frame) (octs : List Bounds) (first j : ℕ) (o : Bounds) → j < length octs → o ≡ get_or octs j o → ((p : Bounds) → IsInFrame f p → IsInFrame g p) → IsInFrame g o
    → AreInFrame f octs first j → AreInFrame g octs first (j + 1)
framed_more f g octs first j o l e = framed_put f g octs first j o (slice_get_read octs (length octs) j o refl l e)

pub framed_one : (f : Frame) (octs : List Bounds) (first : ℕ) (o : Bounds) → first < length octs → o ≡ get_or octs first o → IsInFrame f o → AreInFrame f octs first (first + 1)
framed_one f octs first o l e n = framed_more f f octs first first o l e (λ p h. h) n (λ j p a b. absurd (omega (arith, a, b)))

-- ---- where a block begins
below : (i count : ℕ) → i < count → nat_lt i count ≡ true
below i count l = lt-ltb i count l

past : (i count : ℕ) → count ≤ i → nat_lt i count ≡ false
past i count l = le-ltb i count l

pub start_there : (blocks : List Block) (count last i : ℕ) → i < count → start_at blocks count last i ≡ (block_at blocks i).first
unfolding start_at
start_there blocks count last i l = rw (below i count l) refl

pub start_end : (blocks : List Block) (count last : ℕ) → start_at blocks count last count ≡ last
unfolding start_at
start_end blocks count last = rw (past count count (omega arith)) refl

-- ---- no blocks, of no octagons
pub no_blocks : (octs : List Bounds) → length octs ≡ 0 → AreBlocks octs []
no_blocks octs e = record { begins = start_end [] 0 (length octs) ∙ e; each = λ i l. absurd (omega (arith, l)) }

pub blocks_whole : (octs : List Bounds) (new : List Block) → AreBlocksMore octs 0 (length octs) [] new → AreBlocks octs new
blocks_whole octs new m = record {
  begins = start_there new (length new) (length octs) 0 m.longer ∙ m.more.begins;
  each = λ i l. m.more.each i (omega arith) l;
}

-- ---- a block at the end
pushed_kept : (old : List Block) (n : Block) (i : ℕ) → i < length old → block_at (old ++ (n ∷ [])) i ≡ block_at old i
pushed_kept old n i l = get_or_append_left old (n ∷ []) no_block i l

pushed_last : (old : List Block) (n : Block) → block_at (old ++ (n ∷ [])) (length old) ≡ n
pushed_last old n = get_or_push old n no_block (length old) refl

pushed_length : (old : List Block) (n : Block) → length (old ++ (n ∷ [])) ≡ length old + 1
pushed_length old n = length-append old (n ∷ [])

-- what makes a block right, told of the block itself
pub block_is : (octs : List Bounds) (blocks : List Block) (count last i : ℕ) (n : Block) → block_at blocks i ≡ n → i < n.skip → n.skip ≤ count → n.first ≤ n.end → n.end ≤ length octs
    → AreInFrame n.frame octs n.first n.end → start_at blocks count last n.skip ≡ n.end → start_at blocks count last (i + 1) ≡ next_start n → IsBlock octs blocks count last i
block_is octs blocks count last i n e a b c d f s t = record {
  onward = rw (e) a;
  within = rw (e) b;
  order = rw (e) c;
  inside = rw (e) d;
  framed = subst (λ (m : Block). AreInFrame m.frame octs m.first m.end) (sym e) f;
  skipped = subst (λ (m : Block). start_at blocks count last m.skip ≡ m.end) (sym e) s;
  next = subst (λ (m : Block). start_at blocks count last (i + 1) ≡ next_start m) (sym e) t;
}

leaf_of : (octs : List Bounds) (old : List Block) (f : Frame) (first end : ℕ) → first < end → end ≤ length octs → AreInFrame f octs first end
    → AreBlocksMore octs first end old (old ++ (record { frame = f; first = first; end = end; skip = length old + 1; is_leaf = true } ∷ []))
leaf_of octs old f first end l m h = record {
  longer = let a = pushed_length old n in omega (arith, a);
  kept = λ i k. pushed_kept old n i k;
  more = record {
    some = let a = pushed_length old n in omega (arith, a);
    begins = ap (λ (x : Block). x.first) (pushed_last old n);
    each = λ i a b. one i (let k = pushed_length old n in omega (arith, a, b, k));
  };
}
  where
    n : Block
    n = record { frame = f; first = first; end = end; skip = length old + 1; is_leaf = true }

    new : List Block
    new = old ++ (n ∷ [])

    ends : start_at new (length new) end (length old + 1) ≡ end
    ends = subst (λ k. start_at new k end (length old + 1) ≡ end) (sym (pushed_length old n)) (start_end new (length old + 1) end)

    one : (i : ℕ) → i ≡ length old → IsBlock octs new (length new) end i
    one i e = subst (λ k. IsBlock octs new (length new) end k) (sym e)
        (block_is octs new (length new) end (length old) n (pushed_last old n) (omega arith) (let k = pushed_length old n in omega (arith, k)) (omega (arith, l)) m h ends ends)

pub leaf_more : (octs : List Bounds) (old new : List Block) (n : Block) → new ≡ old ++ (n ∷ []) → n.is_leaf ≡ true → n.skip ≡ length old + 1 → n.first < n.end → n.end ≤ length octs
    → AreInFrame n.frame octs n.first n.end → AreBlocksMore octs n.first n.end old new
leaf_more octs old new n e b s l m h =
    subst (λ z. AreBlocksMore octs n.first n.end old z) (sym e)
    (subst (λ (x : Block). AreBlocksMore octs n.first n.end old (old ++ (x ∷ []))) whole (leaf_of octs old n.frame n.first n.end l m h))
  where
    whole : record { frame = n.frame; first = n.first; end = n.end; skip = length old + 1; is_leaf = true } ≡ n
    whole = rw (sym s, sym b) refl

-- ---- a block with those of its two halves behind it
module _ (octs : List Bounds) (old begun one two new : List Block) (n : Block) (middle : ℕ)
    (begun_is : begun ≡ old ++ (n ∷ [])) (first_half : AreBlocksMore octs n.first middle begun one) (second_half : AreBlocksMore octs middle n.end one two)
    (same_length : length new ≡ length two) (others : (i : ℕ) → (i ≡ length old → ⊥) → block_at new i ≡ block_at two i)
    (itself : block_at new (length old) ≡ record n { skip = length two })
    (inner : n.is_leaf ≡ false) (l : n.first < n.end) (m : n.end ≤ length octs) (framed : AreInFrame n.frame octs n.first n.end) where
  begun_length : length begun ≡ length old + 1
  begun_length = ap (λ (z : List Block). length z) begun_is ∙ pushed_length old n

  -- blocks of the first half are what they were
  same_one : (i : ℕ) → length old < i → i < length one → block_at new i ≡ block_at one i
  same_one i a b = others i (λ e. omega (arith, a, e)) ∙ second_half.kept i b

  start_one : (i : ℕ) → length old < i → i ≤ length one → start_at new (length new) n.end i ≡ start_at one (length one) middle i
  start_one i a b = elim (cases_lt i (length one)) [
    | inl k ↦ start_there new (length new) n.end i (let x = second_half.longer in omega (arith, k, x, same_length))
        ∙ (ap (λ (x : Block). x.first) (same_one i a k) ∙ sym (start_there one (length one) middle i k))
    | inr k ↦ last i (omega (arith, b, k))
  ]
    where
      last : (i : ℕ) → i ≡ length one → start_at new (length new) n.end i ≡ start_at one (length one) middle i
      last i e = subst (λ k. start_at new (length new) n.end k ≡ start_at one (length one) middle k) (sym e)
          (start_there new (length new) n.end (length one) (let x = second_half.longer in omega (arith, x, same_length))
          ∙ (ap (λ (x : Block). x.first) (others (length one) (λ q. let x = first_half.longer in omega (arith, q, x, begun_length)))
          ∙ (second_half.more.begins ∙ sym (start_end one (length one) middle))))

  block_one : (i : ℕ) → length old < i → i < length one → IsBlock octs new (length new) n.end i
  block_one i a b =
      let h = first_half.more.each i (omega (arith, a, begun_length)) b in
      block_is octs new (length new) n.end i (block_at one i) (same_one i a b) h.onward (let x = h.within in let y = second_half.longer in omega (arith, x, y, same_length)) h.order h.inside h.framed
      (start_one _ (let x = h.onward in omega (arith, a, x)) h.within ∙ h.skipped) (start_one (i + 1) (omega (arith, a)) (omega (arith, b)) ∙ h.next)

  -- and so are those of the second
  start_two : (i : ℕ) → length old < i → i ≤ length two → start_at new (length new) n.end i ≡ start_at two (length two) n.end i
  start_two i a b = elim (cases_lt i (length two)) [
    | inl k ↦ start_there new (length new) n.end i (omega (arith, k, same_length))
        ∙ (ap (λ (x : Block). x.first) (others i (λ e. omega (arith, a, e))) ∙ sym (start_there two (length two) n.end i k))
    | inr k ↦ ends i (omega (arith, b, k))
  ]
    where
      ends : (i : ℕ) → i ≡ length two → start_at new (length new) n.end i ≡ start_at two (length two) n.end i
      ends i e = rw (e, same_length, start_end new (length two) n.end, start_end two (length two) n.end) refl

  block_two : (i : ℕ) → length one ≤ i → i < length two → IsBlock octs new (length new) n.end i
  block_two i a b =
      let h = second_half.more.each i a b in
      let g : length old < i = (let x = first_half.longer in omega (arith, a, x, begun_length)) in
      block_is octs new (length new) n.end i (block_at two i) (others i (λ e. omega (arith, g, e))) h.onward (let x = h.within in omega (arith, x, same_length)) h.order h.inside h.framed
      (start_two _ (let x = h.onward in omega (arith, g, x)) h.within ∙ h.skipped) (start_two (i + 1) (omega (arith, g)) (omega (arith, b)) ∙ h.next)

  block_self : IsBlock octs new (length new) n.end (length old)
  block_self =
      block_is octs new (length new) n.end (length old) (record n { skip = length two }) itself
      (let x = first_half.longer in let y = second_half.longer in omega (arith, x, y, begun_length)) (omega (arith, same_length)) (omega (arith, l)) m framed
      (rw (same_length, start_end new (length two) n.end) refl)
      (start_one (length old + 1) (omega arith) (let x = first_half.longer in omega (arith, x, begun_length))
      ∙ (start_there one (length one) middle (length old + 1) (let x = first_half.longer in omega (arith, x, begun_length))
      ∙ (subst (λ k. (block_at one k).first ≡ n.first) begun_length first_half.more.begins ∙ rw (inner) refl)))

  halves : AreBlocksMore octs n.first n.end old new
  halves = record {
    longer = let x = first_half.longer in let y = second_half.longer in omega (arith, x, y, begun_length, same_length);
    kept = λ i k. others i (λ e. omega (arith, k, e)) ∙ (second_half.kept i (let x = first_half.longer in omega (arith, k, x, begun_length))
        ∙ (first_half.kept i (omega (arith, k, begun_length)) ∙ subst (λ z. block_at z i ≡ block_at old i) (sym begun_is) (pushed_kept old n i k)));
    more = record {
      some = let x = first_half.longer in let y = second_half.longer in omega (arith, x, y, begun_length, same_length);
      begins = ap (λ (x : Block). x.first) itself;
      each = λ i a b. elim (cases_eq i (length old)) [
        | inl e ↦ subst (λ k. IsBlock octs new (length new) n.end k) (sym e) block_self
        | inr e ↦ elim (cases_lt i (length one)) [
          | inl k ↦ block_one i (omega (arith, a, e)) k
          | inr k ↦ block_two i k (omega (arith, b, same_length))
        ]
      ];
    };
  }

pub halves_more : (octs : List Bounds) (old begun one two new : List Block) (n : Block) (middle : ℕ) → begun ≡ old ++ (n ∷ []) → AreBlocksMore octs n.first middle begun one
    → AreBlocksMore octs middle n.end one two → new ≡ set two (length old) (record n { skip = length two }) → n.is_leaf ≡ false → n.first < n.end → n.end ≤ length octs
    → AreInFrame n.frame octs n.first n.end → AreBlocksMore octs n.first n.end old new
halves_more octs old begun one two new n middle e f s put b l m h =
    halves octs old begun one two new n middle e f s
    (ap (λ (z : List Block). length z) put ∙ length-set two (length old) (record n { skip = length two }))
    (λ i q. ap (λ (z : List Block). block_at z i) put ∙ get_or-set_other two (length old) i (record n { skip = length two }) no_block q)
    (ap (λ (z : List Block). block_at z (length old)) put ∙ get_or-set_same two (length old) (record n { skip = length two }) no_block there) b l m h
  where
    there : length old < length two
    there = let x = f.longer in let y = s.longer in let z = ap (λ (z : List Block). length z) e in let w = pushed_length old n in omega (arith, x, y, z, w)
