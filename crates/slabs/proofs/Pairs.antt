-- Lists of marks in pairs: where marks fall from 1 to 0 within a slab, their sum is odd exactly where some pair has one.
use Rattle.std.proofs.Common.{◌≡◌, refl, sym, ◌∙◌, ap, ℕ, zero, suc, ◌+◌, ◌%◌, ◌≤◌, ◌⊎◌, inl, inr, arith, List, [], ◌∷◌, get_or}
use Rattle.std.specs.Prelude.{ℤ, ◌≤ℤ◌, ◌<ℤ◌, sum_by}
use Rattle.std.specs.List.{All}
use Rattle.std.proofs.lemmas.Int.{ints}
use Rattle.std.proofs.lemmas.List.Sums.{sum_by-cons}
use Rattle.plane.specs.Covering.{Edge}
use Rattle.slabs.specs.Slabs.{IsFramed, IsPairAt, IsWay}
use Rattle.slabs.proofs.Order.{IsBeside, AreLined, all_head, all_tail}

-- two and two lie in one slab
unfoldable pub AreAligned : List Edge → Type 0
AreAligned [] = Unit {0}
AreAligned (c ∷ []) = ⊥
AreAligned (c ∷ d ∷ cs) = IsFramed c d × AreAligned cs

-- marks of 0 and 1 that fall within a slab and stand in one slab alone
pub record IsMarking (f : Edge → ℕ) : Type 0 where
  pub bit : (c : Edge) → IsWay c → f c ≤ 1
  pub falls : (c d : Edge) → IsWay c → IsWay d → IsFramed c d → f d ≤ f c
  pub once : (c d : Edge) → IsWay c → IsWay d → c.finish.y ≤ℤ d.start.y → f c + f d ≤ 1

none_marked : (f : Edge → ℕ) (cs : List Edge) → All (λ c. f c ≡ 0) cs → sum_by f cs ≡ 0
none_marked f [] h = refl
none_marked f (c ∷ cs) h =
    let a = all_head (λ c. f c ≡ 0) c cs h in
    let b = none_marked f cs (all_tail (λ c. f c ≡ 0) c cs h) in
    let s = sum_by-cons f c cs in
    omega (arith, a, b, s)

pub pair_all : (P : Edge → Type 0) (cs : List Edge) (j : ℕ) (l r : Edge) → All P cs → IsPairAt cs j l r → P l × P r
unfolding IsPairAt
pair_all P [] j l r a h = absurd h
pair_all P (c ∷ []) j l r a h = absurd h
pair_all P (c ∷ d ∷ cs) zero l r a h =
    let x : P c = all_head P c (d ∷ cs) a in
    let y : P d = all_head P d cs (all_tail P c (d ∷ cs) a) in
    (rw (← h.0) x, rw (← h.1) y)
pair_all P (c ∷ d ∷ cs) (suc j) l r a h = pair_all P cs j l r (all_tail P d cs (all_tail P c (d ∷ cs) a)) h

pub pair_framed : (cs : List Edge) (j : ℕ) (l r : Edge) → AreAligned cs → IsPairAt cs j l r → IsFramed l r
unfolding IsPairAt AreAligned
pair_framed [] j l r a h = absurd h
pair_framed (c ∷ []) j l r a h = absurd h
pair_framed (c ∷ d ∷ cs) zero l r a h = rw (← h.0, ← h.1) a.0
pair_framed (c ∷ d ∷ cs) (suc j) l r a h = pair_framed cs j l r a.1 h

sum_two : (f : Edge → ℕ) (c d : Edge) (cs : List Edge) → sum_by f (c ∷ d ∷ cs) ≡ f c + (f d + sum_by f cs)
sum_two f c d cs = let a = sum_by-cons f c (d ∷ cs) in let b = sum_by-cons f d cs in omega (arith, a, b)

split_bits : {P : Type 0} (m n : ℕ) → m ≤ 1 → n ≤ m → (m ≡ 1 → n ≡ 0 → P) → (m ≡ n → P) → P
split_bits zero zero h g a b = b refl
split_bits zero (suc n) h g a b = absurd (omega (arith, g))
split_bits (suc zero) zero h g a b = a refl refl
split_bits (suc zero) (suc n) h g a b = b (omega (arith, g))
split_bits (suc (suc m)) n h g a b = absurd (omega (arith, h))

pub odd_pair : (f : Edge → ℕ) (cs : List Edge) → IsMarking f → All IsWay cs → AreAligned cs → sum_by f cs % 2 ≡ 1
    → (j : ℕ) × (l : Edge) × (r : Edge) × IsPairAt cs j l r × (f l ≡ 1) × (f r ≡ 0)
unfolding IsPairAt AreAligned
odd_pair f [] m ways a o = absurd (omega (arith, o))
odd_pair f (c ∷ []) m ways a o = absurd a
odd_pair f (c ∷ d ∷ cs) m ways a o =
    let x = all_head IsWay c (d ∷ cs) ways in
    let rest = all_tail IsWay c (d ∷ cs) ways in
    let y = all_head IsWay d cs rest in
    let s = sum_two f c d cs in
    split_bits {P = (j : ℕ) × (l : Edge) × (r : Edge) × IsPairAt (c ∷ d ∷ cs) j l r × (f l ≡ 1) × (f r ≡ 0)} (f c) (f d) (m.bit c x) (m.falls c d x y a.0)
    (λ h g. (zero, c, d, (refl, refl), h, g))
    (λ h. (let w = odd_pair f cs m (all_tail IsWay d cs rest) a.1 (omega (arith, o, s, h)) in (suc w.0, w.1, w.2, w.3, w.4, w.5)))

later_none : (f : Edge → ℕ) (c d : Edge) (cs : List Edge) → IsMarking f → IsWay c → IsWay d → All IsWay cs → IsFramed c d → All (IsBeside c) cs → All (IsBeside d) cs
    → f c ≡ 1 → f d ≡ 0 → All (λ e. f e ≡ 0) cs
later_none f c d cs m x y ways a b1 b2 h g = λ k q l.
    elim (b2 k q l) [
      | inl w ↦ (let u = m.falls d (get_or cs k q) y (ways k q l) w in omega (arith, u, g))
      | inr w ↦ (let u = m.once c (get_or cs k q) x (ways k q l) (omega (arith, ints, w, a.bottom)) in omega (arith, u, h))
    ]

earlier_even : (f : Edge → ℕ) (c d l : Edge) → IsMarking f → IsWay c → IsWay d → IsWay l → IsFramed c d → IsBeside d l → f l ≡ 1 → f c ≡ f d
earlier_even f c d l m x y z a (inl w) h =
    let u = m.falls d l y z w in
    let v = m.falls c d x y a in
    let b = m.bit c x in
    omega (arith, u, v, b, h)
earlier_even f c d l m x y z a (inr w) h =
    let u = m.once d l y z w in
    let v = m.once c l x z (omega (arith, ints, w, a.bottom)) in
    omega (arith, u, v, h)

pub pair_odd : (f : Edge → ℕ) (cs : List Edge) (j : ℕ) (l r : Edge) → IsMarking f → All IsWay cs → AreAligned cs → AreLined cs → IsPairAt cs j l r → f l ≡ 1 → f r ≡ 0
    → sum_by f cs % 2 ≡ 1
unfolding IsPairAt AreAligned AreLined
pair_odd f [] j l r m ways a b i h g = absurd i
pair_odd f (c ∷ []) j l r m ways a b i h g = absurd i
pair_odd f (c ∷ d ∷ cs) zero l r m ways a b i h g =
    let x = all_head IsWay c (d ∷ cs) ways in
    let rest = all_tail IsWay c (d ∷ cs) ways in
    let y = all_head IsWay d cs rest in
    let fc : f c ≡ 1 = ap f i.0 ∙ h in
    let fd : f d ≡ 0 = ap f i.1 ∙ g in
    let s = sum_two f c d cs in
    let n = none_marked f cs (later_none f c d cs m x y (all_tail IsWay d cs rest) a.0 (all_tail (IsBeside c) d cs b.0) b.1.0 fc fd) in
    omega (arith, s, n, fc, fd)
pair_odd f (c ∷ d ∷ cs) (suc j) l r m ways a b i h g =
    let x = all_head IsWay c (d ∷ cs) ways in
    let rest = all_tail IsWay c (d ∷ cs) ways in
    let y = all_head IsWay d cs rest in
    let more = all_tail IsWay d cs rest in
    let s = sum_two f c d cs in
    let o = pair_odd f cs j l r m more a.1 b.1.1 i h g in
    let z = (pair_all IsWay cs j l r more i).0 in
    let e = earlier_even f c d l m x y z a.0 (pair_all (IsBeside d) cs j l r b.1.0 i).0 h in
    omega (arith, s, o, e)

-- ---- each slab has an even number of cuts, so pairs lie in one slab
-- one of the two: the cut starts in the row and is marked, or it doesn't and isn't
abbrev pub IsTop : (ℤ → Edge → ℕ) → ℤ → Edge → Type 0
IsTop f y c = ((c.start.y ≡ y) × (f y c ≡ 1)) ⊎ ((c.start.y ≡ y → ⊥) × (f y c ≡ 0))

lower_none : (f : ℤ → Edge → ℕ) (c d : Edge) (cs : List Edge) → IsWay d → c.start.y <ℤ d.start.y → All (IsBeside d) cs
    → All (IsTop f c.start.y) cs → All (λ e. f c.start.y e ≡ 0) cs
lower_none f c d cs y l b t = λ k q h.
    elim (t k q h) [
      | inl w ↦ absurd (elim (b k q h) [ inl v ↦ omega (arith, ints, w.0, v.top, l) | inr v ↦ omega (arith, ints, w.0, v, y.down, l) ])
      | inr w ↦ w.1
    ]

-- the two marks of a pair are the same
same_tops : (f : ℤ → Edge → ℕ) (y : ℤ) (c d : Edge) → c.start.y ≡ d.start.y → IsTop f y c → IsTop f y d → f y c ≡ f y d
same_tops f y c d e (inl a) (inl b) = a.1 ∙ sym b.1
same_tops f y c d e (inl a) (inr b) = absurd (b.0 (sym e ∙ a.0))
same_tops f y c d e (inr a) (inl b) = absurd (a.0 (e ∙ b.0))
same_tops f y c d e (inr a) (inr b) = a.1 ∙ sym b.1

own_top : (f : ℤ → Edge → ℕ) (c : Edge) → IsTop f c.start.y c → f c.start.y c ≡ 1
own_top f c (inl a) = a.1
own_top f c (inr a) = absurd (a.0 refl)

other_top : (f : ℤ → Edge → ℕ) (c d : Edge) → c.start.y <ℤ d.start.y → IsTop f c.start.y d → f c.start.y d ≡ 0
other_top f c d l (inl a) = absurd (omega (arith, ints, a.0, l))
other_top f c d l (inr a) = a.1

pub aligned : (f : ℤ → Edge → ℕ) (Row : ℤ → Type 0) (cs : List Edge) → All IsWay cs → AreLined cs
    → All (λ c. Row c.start.y) cs → ((y : ℤ) → Row y → All (IsTop f y) cs) → ((y : ℤ) → Row y → sum_by (f y) cs % 2 ≡ 0) → AreAligned cs
unfolding AreAligned AreLined
aligned f Row [] ways b rows tops even = tt
aligned f Row (c ∷ []) ways b rows tops even =
    let row = all_head (λ c. Row c.start.y) c [] rows in
    let o = own_top f c (all_head (IsTop f c.start.y) c [] (tops c.start.y row)) in
    let s = sum_by-cons (f c.start.y) c [] in
    let e = even c.start.y row in
    omega (arith, o, s, e)
aligned f Row (c ∷ d ∷ cs) ways b rows tops even =
    let waysd = all_tail IsWay c (d ∷ cs) ways in
    let rowsd = all_tail (λ c. Row c.start.y) c (d ∷ cs) rows in
    let one = framed_two (all_head (IsBeside c) d cs b.0) in (
      one,
      aligned f Row cs (all_tail IsWay d cs waysd) b.1.1 (all_tail (λ c. Row c.start.y) d cs rowsd)
          (λ y r. all_tail (IsTop f y) d cs (all_tail (IsTop f y) c (d ∷ cs) (tops y r)))
          (λ y r. (let t = tops y r in
          let h = same_tops f y c d one.top (all_head (IsTop f y) c (d ∷ cs) t) (all_head (IsTop f y) d cs (all_tail (IsTop f y) c (d ∷ cs) t)) in
          let s = sum_two (f y) c d cs in
          let e = even y r in
          omega (arith, h, s, e))),
    )
  where
    framed_two : IsBeside c d → IsFramed c d
    framed_two (inl w) = w
    framed_two (inr w) =
        let row = all_head (λ c. Row c.start.y) c (d ∷ cs) rows in
        let t = tops c.start.y row in
        let td = all_tail (IsTop f c.start.y) c (d ∷ cs) t in
        let x = all_head IsWay c (d ∷ cs) ways in
        let y = all_head IsWay d cs (all_tail IsWay c (d ∷ cs) ways) in
        let l : c.start.y <ℤ d.start.y = omega (arith, ints, w, x.down) in
        let n = none_marked (f c.start.y) cs (lower_none f c d cs y l b.1.0 (all_tail (IsTop f c.start.y) d cs td)) in
        let o = own_top f c (all_head (IsTop f c.start.y) c (d ∷ cs) t) in
        let z = other_top f c d l (all_head (IsTop f c.start.y) d cs td) in
        let s = sum_two (f c.start.y) c d cs in
        let e = even c.start.y row in
        absurd (omega (arith, n, o, z, s, e))
