-- Closed edges cover what lies between the cuts of pairs, and their level edges.
use Rattle.std.proofs.Common.{◌≡◌, refl, sym, subst, ℕ, zero, suc, ◌%◌, ◌⊎◌, inl, inr, arith, List, [], ◌∷◌, get_or}
use Rattle.std.specs.Prelude.{ℤ, pos, ◌-ℤ◌, ◌*ℤ◌, ◌≤ℤ◌, ◌<ℤ◌, sum_by, Any}
use Rattle.std.specs.List.{All}
use Rattle.std.proofs.lemmas.Int.{ints, by_lt_z}
use Rattle.plane.specs.Plane.{PlanePoint, grid_point}
use Rattle.grid_num.proofs.Products.{mul_lt}
use Rattle.plane.specs.Covering.{Edge, IsOn, Between, crossing, Covers}
use Rattle.plane.specs.Ends.{crossing_below}
use Rattle.plane.proofs.Counts.{Counts}
use Rattle.plane.proofs.Lists.{any_none, any_head, any_tail, any_cases, covers_on, covers_odd, covers_cases}
use Rattle.slabs.specs.Slabs.{IsAmong, IsAt, AreCuts, AreClosed, AreCutsInOrder, IsFramed, IsAmid, IsPairAt, IsWay, IsInPair, IsOnLevel, SlabsLaw, PairsLaw}
use Rattle.slabs.proofs.At.{somewhere, crosses, cut_on, on_at, along_down}
use Rattle.plane.proofs.Below.{CountsBelow}
use Rattle.slabs.proofs.Below.{crosses_below}
use Rattle.slabs.proofs.Order.{IsCutOf, AreLined, lined, one_of}
use Rattle.slabs.proofs.Pairs.{AreAligned, aligned, odd_pair, pair_odd, pair_all, pair_framed}
use Rattle.slabs.proofs.Closed.{far_of, far_left}
use Rattle.slabs.proofs.Marks.{way, order_at, crossing_marks, below_marks, top_marks}

-- ---- whether a point is on an edge can be told
abbrev Told : Type 0 → Type 0
Told A = A ⊎ (A → ⊥)

told_equal : (a b : ℤ) → Told (a ≡ b)
told_equal a b =
    by_lt_z {P = Told (a ≡ b)} a b (λ l. inr (λ e. omega (arith, ints))) (λ l. by_lt_z {P = Told (a ≡ b)} b a (λ m. inr (λ e. omega (arith, ints))) (λ m. inl (omega (arith, ints))))

told_between : (a b z : ℤ) → Told (Between a b z)
told_between a b z =
    by_lt_z {P = Told (Between a b z)} z a
    (λ l. by_lt_z {P = Told (Between a b z)} z b (λ m. inr (λ h. omega (arith, ints))) (λ m. inl (inr (m, omega (arith, ints)))))
    (λ l. by_lt_z {P = Told (Between a b z)} b z
    (λ m. by_lt_z {P = Told (Between a b z)} a z (λ n. inr (λ h. omega (arith, ints))) (λ n. inl (inr (omega (arith, ints), n))))
    (λ m. inl (inl (l, m))))

told_on : (e : Edge) (p : PlanePoint) → Told (IsOn e p)
told_on e p =
    elim (told_equal ((e.finish.y -ℤ e.start.y) *ℤ (p.x -ℤ pos p.scale *ℤ e.start.x)) ((e.finish.x -ℤ e.start.x) *ℤ (p.y -ℤ pos p.scale *ℤ e.start.y))) [
      | inr n ↦ inr (λ o. n o.line)
      | inl line ↦ elim (told_between (pos p.scale *ℤ e.start.x) (pos p.scale *ℤ e.finish.x) p.x) [
        | inr n ↦ inr (λ o. n o.across)
        | inl across ↦ elim (told_between (pos p.scale *ℤ e.start.y) (pos p.scale *ℤ e.finish.y) p.y) [
          | inr n ↦ inr (λ o. n o.along)
          | inl along ↦ inl (record { line = line; across = across; along = along })
        ]
      ]
    ]

pub told_some : (es : List Edge) (p : PlanePoint) → Told (Any (λ e. IsOn e p) es)
told_some [] p = inr (λ a. any_none (λ e. IsOn e p) a)
told_some (e ∷ es) p =
    elim (told_on e p) [
      | inl o ↦ inl (any_head (λ e. IsOn e p) e es o)
      | inr n ↦ elim (told_some es p) [
        | inl o ↦ inl (any_tail (λ e. IsOn e p) e es o)
        | inr m ↦ inr (λ a. elim (any_cases (λ e. IsOn e p) e es a) [ inl o ↦ n o | inr o ↦ m o ])
      ]
    ]

pub one_on : (es : List Edge) (e : Edge) (p : PlanePoint) → IsAmong es e → IsOn e p → Any (λ e. IsOn e p) es
one_on es e p a o = (a.0, a.1, a.2, a.3, subst (λ (g : Edge). IsOn g p) (sym a.4) o)

-- ---- what is known of the cuts of closed edges
record IsKnown (rows : List ℤ) (es cs : List Edge) : Type 0 where
  ways : All IsWay cs
  line : AreLined cs
  pairs : AreAligned cs

known : (rows : List ℤ) (es cs : List Edge) → AreClosed rows es → AreCuts rows es cs → AreCutsInOrder cs → IsKnown rows es cs
known rows es cs closed cuts order =
    let bound = far_of es in
    let far = bound.0 in
    let f : ℤ → Edge → ℕ = λ y. crossing (grid_point far y) in
    let ways : All IsWay cs = λ k d h. way rows _ _ (cuts.each k d h).2 in
    let line = lined rows es cs closed cuts.each order in
    record {
      ways = ways;
      line = line;
      pairs = aligned (λ (y : ℤ). crossing (grid_point far y)) (λ y. IsAmong rows y) cs ways line
          (λ k d h. (cuts.each k d h).2.top)
          (λ y row k d h. (let a = cuts.each k d h in let b = one_of (λ e. (e.start.x <ℤ far) × (e.finish.x <ℤ far)) es a.0 bound.1 a.1 in top_marks rows a.0 (get_or cs k d) far y a.2 b.0 b.1 row))
          (λ y row. (let e = closed.even (grid_point far y) (far_left es far y bound.1) in let c = cuts.count (grid_point far y) in omega (arith, e, c)));
    }

pub pairs_law : PairsLaw
pairs_law rows es cs j l r closed cuts order i =
    let k = known rows es cs closed cuts order in
    let w = pair_all IsWay cs j l r k.ways i in
    (w.0, w.1, pair_framed cs j l r k.pairs i)

-- ---- from covered to between
any_pair : (P : Edge → Type 0) (cs : List Edge) → AreAligned cs → Any P cs → (j : ℕ) × (l : Edge) × (r : Edge) × IsPairAt cs j l r × (P l ⊎ P r)
unfolding AreAligned IsPairAt
any_pair P [] a s = absurd (any_none P s)
any_pair P (c ∷ []) a s = absurd a
any_pair P (c ∷ d ∷ cs) a s =
    elim (any_cases P c (d ∷ cs) s) [
      | inl h ↦ (zero, c, d, (refl, refl), inl h)
      | inr t ↦ elim (any_cases P d cs t) [
        | inl h ↦ (zero, c, d, (refl, refl), inr h)
        | inr u ↦ (let w = any_pair P cs a.1 u in (suc w.0, w.1, w.2, w.3, w.4))
      ]
    ]

amid_left : (l r : Edge) (p : PlanePoint) → IsWay l → IsWay r → IsFramed l r → IsOn l p → IsAmid l r p
amid_left l r p x y f o =
    let a = on_at l p x.steep o in
    let b = along_down l p x.down o in
    let z = somewhere r p.scale p.y y.steep in
    record { top = b.0; bottom = b.1; left = (p.x, a, omega (arith, ints)); right = (z.0, z.1, order_at l r p.scale p.y p.x z.0 f a z.1 b.0 b.1) }

amid_right : (l r : Edge) (p : PlanePoint) → IsWay l → IsWay r → IsFramed l r → IsOn r p → IsAmid l r p
amid_right l r p x y f o =
    let a = on_at r p y.steep o in
    let b = along_down r p y.down o in
    let z = somewhere l p.scale p.y x.steep in
    let t : (pos p.scale *ℤ l.start.y) ≤ℤ p.y = rw f.top b.0 in
    let u : p.y ≤ℤ (pos p.scale *ℤ l.finish.y) = rw f.bottom b.1 in
    record { top = t; bottom = u; left = (z.0, z.1, order_at l r p.scale p.y z.0 p.x f z.1 a t u); right = (p.x, a, omega (arith, ints)) }

crossed_in : (n : ℕ) (low high y z x : ℤ) → Counts n low high y z x → n ≡ 1 → (low ≤ℤ y) × (y <ℤ high) × (z <ℤ x)
crossed_in n low high y z x (inl h) e = (h.1, h.2, h.3)
crossed_in n low high y z x (inr h) e = absurd (let f = h.0 in omega (arith, e, f))

passed_in : (n : ℕ) (low high y z x : ℤ) → Counts n low high y z x → n ≡ 0 → low ≤ℤ y → y <ℤ high → x ≤ℤ z
passed_in n low high y z x (inl h) e l m = absurd (let f = h.0 in omega (arith, e, f))
passed_in n low high y z x (inr (f, h)) e l m = omega (arith, ints, h, l, m)

amid_odd : (l r : Edge) (p : PlanePoint) → IsWay l → IsWay r → IsFramed l r → crossing p l ≡ 1 → crossing p r ≡ 0 → IsAmid l r p
amid_odd l r p x y f h g =
    let z = somewhere l p.scale p.y x.steep in
    let u = somewhere r p.scale p.y y.steep in
    let a = crossed_in (crossing p l) (pos p.scale *ℤ l.start.y) (pos p.scale *ℤ l.finish.y) p.y z.0 p.x (crosses l p z.0 x.down z.1) h in
    let c : Counts (crossing p r) (pos p.scale *ℤ l.start.y) (pos p.scale *ℤ l.finish.y) p.y u.0 p.x = rw (f.top, f.bottom) (crosses r p u.0 y.down u.1) in
    record {
      top = a.0;
      bottom = omega (arith, ints, a.1);
      left = (z.0, z.1, omega (arith, ints, a.2));
      right = (u.0, u.1, passed_in (crossing p r) (pos p.scale *ℤ l.start.y) (pos p.scale *ℤ l.finish.y) p.y u.0 p.x c g a.0 a.1);
    }

to_pair : (rows : List ℤ) (es cs : List Edge) (p : PlanePoint) → AreCuts rows es cs → IsKnown rows es cs → Covers es p → IsInPair cs p ⊎ IsOnLevel es p
to_pair rows es cs p cuts k c =
    elim (covers_cases es p c) [
      | inl o ↦ elim (cuts.on p o) [
        | inr level ↦ inr level
        | inl s ↦
            (let w = any_pair (λ c. IsOn c p) cs k.pairs s in
            let f = pair_framed cs w.0 w.1 w.2 k.pairs w.3 in
            let v = pair_all IsWay cs w.0 w.1 w.2 k.ways w.3 in
            inl (w.0, w.1, w.2, w.3, elim (w.4) [ inl o ↦ amid_left w.1 w.2 p v.0 v.1 f o | inr o ↦ amid_right w.1 w.2 p v.0 v.1 f o ]))
      ]
      | inr o ↦
          (let n = cuts.count p in
          let w = odd_pair (crossing p) cs (crossing_marks p) k.ways k.pairs (omega (arith, o, n)) in
          let f = pair_framed cs w.0 w.1 w.2 k.pairs w.3 in
          let v = pair_all IsWay cs w.0 w.1 w.2 k.ways w.3 in
          inl (w.0, w.1, w.2, w.3, amid_odd w.1 w.2 p v.0 v.1 f w.4 w.5))
    ]

-- ---- from between to covered
full_in : (n : ℕ) (low high y z x : ℤ) → Counts n low high y z x → low ≤ℤ y → y <ℤ high → z <ℤ x → n ≡ 1
full_in n low high y z x (inl h) l m o = h.0
full_in n low high y z x (inr h) l m o = absurd (omega (arith, ints, h, l, m, o))

none_in : (n : ℕ) (low high y z x : ℤ) → Counts n low high y z x → x <ℤ z → n ≡ 0
none_in n low high y z x (inl h) l = absurd (omega (arith, ints, h, l))
none_in n low high y z x (inr h) l = h.0

full_below : (n : ℕ) (low high y z x : ℤ) → CountsBelow n low high y z x → low <ℤ y → y ≤ℤ high → z <ℤ x → n ≡ 1
full_below n low high y z x (inl h) l m o = h.0
full_below n low high y z x (inr h) l m o = absurd (omega (arith, ints, h, l, m, o))

none_below : (n : ℕ) (low high y z x : ℤ) → CountsBelow n low high y z x → x <ℤ z → n ≡ 0
none_below n low high y z x (inl h) l = absurd (omega (arith, ints, h, l))
none_below n low high y z x (inr h) l = h.0

unless : (a b : ℤ) → a ≤ℤ b → (a ≡ b → ⊥) → a <ℤ b
unless a b l n = by_lt_z {P = a <ℤ b} a b (λ m. m) (λ m. absurd (n (omega (arith, ints))))

from_pair : (rows : List ℤ) (es cs : List Edge) (p : PlanePoint) (j : ℕ) (l r : Edge) → AreClosed rows es → AreCuts rows es cs → IsKnown rows es cs
    → IsPairAt cs j l r → IsAmid l r p → (Any (λ e. IsOn e p) es → ⊥) → sum_by (crossing p) es % 2 ≡ 1
from_pair rows es cs p j l r closed cuts k i m off =
    let f = pair_framed cs j l r k.pairs i in
    let v = pair_all IsWay cs j l r k.ways i in
    let cut = pair_all (IsCutOf rows es) cs j l r cuts.each i in
    let a = cut.0 in
    let b = cut.1 in
    let rt : (pos p.scale *ℤ r.start.y) ≤ℤ p.y = rw (← f.top) m.top in
    let rb : p.y ≤ℤ (pos p.scale *ℤ r.finish.y) = rw (← f.bottom) m.bottom in
    let zl = m.left.0 in
    let zr = m.right.0 in
    let left : zl <ℤ p.x = unless zl p.x m.left.2
    (λ e. off (one_on es a.0 p a.1 (cut_on a.0 l p a.2.down a.2.line a.2.from a.2.to m.top m.bottom (subst (IsAt l p.scale p.y) e m.left.1)))) in
    let right : p.x <ℤ zr = unless p.x zr m.right.2
    (λ e. off (one_on es b.0 p b.1 (cut_on b.0 r p b.2.down b.2.line b.2.from b.2.to rt rb (subst (IsAt r p.scale p.y) (sym e) m.right.1)))) in
    by_lt_z {P = sum_by (crossing p) es % 2 ≡ 1} p.y (pos p.scale *ℤ l.finish.y)
    (λ h. (let one = full_in _ _ _ _ _ _ (crosses l p zl v.0.down m.left.1) m.top h left in
    let none = none_in _ _ _ _ _ _ (crosses r p zr v.1.down m.right.1) right in
    let o = pair_odd (crossing p) cs j l r (crossing_marks p) k.ways k.pairs k.line i one none in
    let n = cuts.count p in
    omega (arith, o, n)))
    (λ h. (let n = mul_lt p.scale l.start.y l.finish.y p.positive v.0.down in
    let one = full_below _ _ _ _ _ _ (crosses_below l p zl v.0.down m.left.1) (omega (arith, ints, n, h)) m.bottom left in
    let none = none_below _ _ _ _ _ _ (crosses_below r p zr v.1.down m.right.1) right in
    let o = pair_odd (crossing_below p) cs j l r (below_marks p) k.ways k.pairs k.line i one none in
    let c = cuts.below p in
    let e = closed.ends p off in
    omega (arith, o, c, e)))

level_on : (es : List Edge) (p : PlanePoint) → IsOnLevel es p → Any (λ e. IsOn e p) es
level_on es p a = (a.0, a.1, a.2, a.3, a.4.1)

pub slabs_law : SlabsLaw
slabs_law rows es cs p closed cuts order =
    let k = known rows es cs closed cuts order in (
      λ c. to_pair rows es cs p cuts k c,
      λ h. elim h [
        | inr a ↦ covers_on es p (level_on es p a)
        | inl w ↦ elim (told_some es p) [
          | inl o ↦ covers_on es p o
          | inr off ↦ covers_odd es p (from_pair rows es cs p w.0 w.1 w.2 closed cuts k w.3 w.4 off)
        ]
      ],
    )
