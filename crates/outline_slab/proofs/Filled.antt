-- The octagons of pairs of cuts fill up what closed edges cover.
use Rattle.std.proofs.Common.{◌≡◌, sym, subst, ℕ, ◌+◌, ◌*◌, ◌/◌, ◌<◌, ◌≤◌, inl, inr, arith, List, [], ◌∷◌, ◌++◌, length, get_or}
use Rattle.std.specs.Prelude.{ℤ, pos, ◌+ℤ◌, ◌*ℤ◌, ◌≤ℤ◌, ◌<ℤ◌, ◌↔◌, Any}
use Rattle.std.proofs.lemmas.Bool.{cases_lt}
use Rattle.std.proofs.lemmas.Int.{ints, by_lt_z}
use Rattle.plane.specs.Plane.{PlanePoint, Bounds, Within, In, StrictlyIn}
use Rattle.plane.specs.Covering.{Edge, IsOn, StrictlyCovers}
use Rattle.plane.proofs.Lists.{any_head, any_left, any_right, covers_odd}
use Rattle.slabs.specs.Slabs.{IsAt, IsPairAt, IsAmid, IsFramed, AreCuts, AreClosed, AreCutsInOrder}
use Rattle.slabs.proofs.At.{cut_on}
use Rattle.slabs.proofs.Law.{slabs_law, pairs_law, one_on}
use Rattle.slabs.proofs.Marks.{order_at}
use Rattle.slabs.proofs.Order.{IsCutOf}
use Rattle.slabs.proofs.Pairs.{pair_all}
use Rattle.outline_slab.specs.declared.side.Side.{Side}
use Rattle.outline_slab.specs.Inner.Side.{side_edge}
use Rattle.outline_slab.specs.Cuts.{all_edges}
use Rattle.outline_slab.specs.Filled.{IsInStout, AreFilling}
use Rattle.outline_slab.specs.Inner.Wide.{IsWide, IsInWidePair, IsInWidePairUpTo, KeepStout}
use Rattle.outline_slab.proofs.Octs.{pair_same}

-- ---- a pair with a point strictly between is wide
wide_at : (l r : Edge) (k : ℕ) (y z u : ℤ) → IsFramed l r → IsAt l k y z → IsAt r k y u → (pos k *ℤ l.start.y) ≤ℤ y → y ≤ℤ (pos k *ℤ l.finish.y) → z <ℤ u → IsWide l r
wide_at l r k y z u f a b t g h =
    by_lt_z {P = IsWide l r} l.start.x r.start.x (λ m. inl m)
    (λ m. by_lt_z {P = IsWide l r} l.finish.x r.finish.x (λ n. inr n)
    (λ n. absurd (
    let back : IsFramed r l = record { top = sym f.top; bottom = sym f.bottom; upper = m; lower = n } in
    let t2 : (pos k *ℤ r.start.y) ≤ℤ y = rw (← f.top) t in
    let g2 : y ≤ℤ (pos k *ℤ r.finish.y) = rw (← f.bottom) g in
    let o = order_at r l k y u z back b a t2 g2 in
    omega (arith, ints, o, h)
    )))

unless : (a b : ℤ) → a ≤ℤ b → (a ≡ b → ⊥) → a <ℤ b
unless a b l n = by_lt_z {P = a <ℤ b} a b (λ m. m) (λ m. absurd (n (omega (arith, ints))))

wide_pair : (rows : List ℤ) (es cs : List Edge) (p : PlanePoint) (j : ℕ) (l r : Edge) → AreCuts rows es cs → IsFramed l r → IsPairAt cs j l r → IsAmid l r p
    → (Any (λ e. IsOn e p) es → ⊥) → IsWide l r
wide_pair rows es cs p j l r cuts f i m off =
    let cut = pair_all (IsCutOf rows es) cs j l r cuts.each i in
    let a = cut.0 in
    let b = cut.1 in
    let rt : (pos p.scale *ℤ r.start.y) ≤ℤ p.y = rw (← f.top) m.top in
    let rb : p.y ≤ℤ (pos p.scale *ℤ r.finish.y) = rw (← f.bottom) m.bottom in
    let zl = m.left.0 in
    let zr = m.right.0 in
    let left : zl <ℤ p.x = unless zl p.x m.left.2
    (λ e. off (one_on es a.0 p a.1 (cut_on a.0 l p a.2.down a.2.line a.2.from a.2.to m.top m.bottom (subst (IsAt l p.scale p.y) e m.left.1)))) in
    let right : p.x <ℤ zr = unless p.x zr m.right.2
    (λ e. off (one_on es b.0 p b.1 (cut_on b.0 r p b.2.down b.2.line b.2.from b.2.to rt rb (subst (IsAt r p.scale p.y) (sym e) m.right.1)))) in
    wide_at l r p.scale p.y zl zr f m.left.1 m.right.1 m.top m.bottom (omega (arith, ints, left, right))

pub wide_covered : (rows : List ℤ) (es cs : List Edge) (p : PlanePoint) → AreClosed rows es → AreCuts rows es cs → AreCutsInOrder cs → StrictlyCovers es p → IsInWidePair cs p
wide_covered rows es cs p closed cuts order c =
    elim ((slabs_law rows es cs p closed cuts order).0 (covers_odd es p c.odd)) [
      | inr a ↦ absurd (c.off (a.0, a.1, a.2, a.3, a.4.1))
      | inl w ↦
          (let v = pairs_law rows es cs w.0 w.1 w.2 closed cuts order w.3 in
          (w.0, w.1, w.2, w.3, w.4, wide_pair rows es cs p w.0 w.1 w.2 cuts v.2 w.3 w.4 c.off))
    ]

-- ---- the octagon of a wide pair isn't flat: it has the middle of its four ends strictly inside
pub wide_inside : (l r : Edge) (b : Bounds) → Within b l.start.x l.start.y → Within b r.start.x r.start.y → Within b l.finish.x l.finish.y → Within b r.finish.x r.finish.y
    → l.start.y <ℤ l.finish.y → IsFramed l r → IsWide l r → (q : PlanePoint) × StrictlyIn b q
wide_inside l r b ul ur ll lr down f wide =
    let top = f.top in
    let bottom = f.bottom in
    let upper = f.upper in
    let lower = f.lower in (
      record { x = l.start.x +ℤ r.start.x +ℤ (l.finish.x +ℤ r.finish.x); y = l.start.y +ℤ r.start.y +ℤ (l.finish.y +ℤ r.finish.y); scale = 4; positive = omega arith },
      record {
        x_low = (let a = ul.x_low in let c = ll.x_low in omega (arith, ints, wide));
        x_high = (let a = ur.x_high in let c = lr.x_high in omega (arith, ints, wide));
        y_low = (let a = ul.y_low in omega (arith, ints));
        y_high = (let a = ll.y_high in omega (arith, ints));
        s_low = (let a = ul.s_low in let c = ll.s_low in omega (arith, ints, wide));
        s_high = (let a = ur.s_high in let c = lr.s_high in omega (arith, ints, wide));
        d_low = (let a = ul.d_low in let c = ll.d_low in omega (arith, ints, wide));
        d_high = (let a = ur.d_high in let c = lr.d_high in omega (arith, ints, wide));
      },
    )

-- ---- pair by pair

pub stout_kept : (octs more : List Bounds) (o : Bounds) → more ≡ octs ++ o ∷ [] → KeepStout octs more
stout_kept octs more o e p a = rw e (any_left (λ o. In o p × ((q : PlanePoint) × StrictlyIn o q)) octs (o ∷ []) a)

pub wide_more : (ss : List Side) (j : ℕ) (d : Side) (octs more : List Bounds) (o : Bounds) → j < length ss / 2
    → ((p : PlanePoint) → IsInWidePairUpTo j (all_edges ss) p → IsInStout octs p)
    → ((p : PlanePoint) → In o p ↔ IsAmid (side_edge (get_or ss (2 * j) d)) (side_edge (get_or ss (2 * j + 1) d)) p)
    → (IsWide (side_edge (get_or ss (2 * j) d)) (side_edge (get_or ss (2 * j + 1) d)) → (q : PlanePoint) × StrictlyIn o q)
    → more ≡ octs ++ o ∷ [] → (p : PlanePoint) → IsInWidePairUpTo (j + 1) (all_edges ss) p → IsInStout more p
wide_more ss j d octs more o h old new inside e p w =
    rw e (elim (cases_lt w.0 j) [
      | inl l ↦ any_left (λ o. In o p × ((q : PlanePoint) × StrictlyIn o q)) octs (o ∷ []) (old p (w.0, w.1, w.2, l, w.4, w.5, w.6))
      | inr l ↦ any_right (λ o. In o p × ((q : PlanePoint) × StrictlyIn o q)) octs (o ∷ [])
          (any_head (λ o. In o p × ((q : PlanePoint) × StrictlyIn o q)) o [] (here w.0 w.1 w.2 (let v = w.3 in omega (arith, v, l)) w.4 w.5 w.6))
    ])
  where
    here : (i : ℕ) (a b : Edge) → i ≡ j → IsPairAt (all_edges ss) i a b → IsAmid a b p → IsWide a b → In o p × ((q : PlanePoint) × StrictlyIn o q)
    here i a b e q m wide =
        let r : IsPairAt (all_edges ss) j a b = subst (λ (k : ℕ). IsPairAt (all_edges ss) k a b) e q in
        let w = pair_same ss j d a b r in
        let m2 : IsAmid (side_edge (get_or ss (2 * j) d)) (side_edge (get_or ss (2 * j + 1) d)) p = rw (← w.0, ← w.1) m in
        let wide2 : IsWide (side_edge (get_or ss (2 * j) d)) (side_edge (get_or ss (2 * j + 1) d)) =
        subst (λ (z : Edge). IsWide (side_edge (get_or ss (2 * j) d)) z) w.1 (subst (λ (z : Edge). IsWide z b) w.0 wide) in
        ((new p).1 m2, inside wide2)

pub wide_all : (ss : List Side) (j : ℕ) (d : Side) (octs : List Bounds) → length ss / 2 ≤ j → ((p : PlanePoint) → IsInWidePairUpTo j (all_edges ss) p → IsInStout octs p)
    → (p : PlanePoint) → IsInWidePair (all_edges ss) p → IsInStout octs p
wide_all ss j d octs h old p w = old p (w.0, w.1, w.2, (let v = (pair_same ss w.0 d w.1 w.2 w.3).2 in omega (arith, v, h)), w.3, w.4, w.5)

-- ---- all together
pub filling : (rows : List ℤ) (es cs : List Edge) (first octs : List Bounds) → AreClosed rows es → AreCuts rows es cs → AreCutsInOrder cs
    → ((p : PlanePoint) → IsInWidePair cs p → IsInStout first p) → KeepStout first octs → AreFilling octs (StrictlyCovers es)
filling rows es cs first octs closed cuts order pairs kept p c = kept p (pairs p (wide_covered rows es cs p closed cuts order c))
