-- Lists of octagons, one more at a time.
use Rattle.std.proofs.Common.{◌≡◌, refl, sym, ◌∙◌, ap, subst, ℕ, zero, suc, ◌+◌, ◌*◌, ◌/◌, ◌<◌, ◌≤◌, ◌⊎◌, inl, inr, arith, List, [], ◌∷◌, ◌++◌, length, get_or, take}
use Rattle.std.specs.Prelude.{ℤ, ◌↔◌}
use Rattle.std.specs.List.{All}
use Rattle.std.proofs.lemmas.Bool.{cases_lt}
use Rattle.std.proofs.lemmas.List.{length-map, get_or-map}
use Rattle.plane.specs.Plane.{PlanePoint, Bounds, In}
use Rattle.plane.specs.Covering.{Edge, IsOn, Covers}
use Rattle.plane.proofs.Lists.{any_none, any_head, any_cases, any_left, any_right, any_parts}
use Rattle.slabs.specs.Slabs.{IsAmong, IsPairAt, IsAmid, IsInPair, IsOnLevel, AreCuts, AreClosed, AreCutsInOrder, starts}
use Rattle.slabs.proofs.Law.{slabs_law, pairs_law}
use Rattle.slabs.proofs.Closed.{rows_law}
use Rattle.slabs.proofs.Order.{one_of}
use Rattle.slabs.proofs.Pairs.{pair_all}
use Rattle.outline_slab.specs.declared.side.Side.{Side}
use Rattle.outline_slab.specs.Inner.Side.{side_edge}
use Rattle.outline_slab.specs.Rules.{no_edge}
use Rattle.outline_slab.specs.Cuts.{all_edges, IsEdgeInReach, IsSoundEdge, IsInRows, HasRows, ArePaired, IsInSome}
use Rattle.outline_slab.proofs.Sides.{all_length, read_edge, taken_more, part_reached}

pub some_pushed : (octs : List Bounds) (o : Bounds) (p : PlanePoint) → IsInSome (octs ++ o ∷ []) p ↔ (IsInSome octs p ⊎ In o p)
some_pushed octs o p = (
  λ a. elim (any_parts (λ o. In o p) octs (o ∷ []) a) [
    | inl h ↦ inl h
    | inr h ↦ elim (any_cases (λ o. In o p) o [] h) [ inl i ↦ inr i | inr i ↦ absurd (any_none (λ o. In o p) i) ]
  ],
  λ a. elim a [ inl h ↦ any_left (λ o. In o p) octs (o ∷ []) h | inr h ↦ any_right (λ o. In o p) octs (o ∷ []) (any_head (λ o. In o p) o [] h) ],
)

-- ---- level sides
pub level_pushed : (octs : List Bounds) (o : Bounds) (e : Edge) (p : PlanePoint) → e.start.y ≡ e.finish.y → In o p ↔ IsOn e p
    → IsInSome (octs ++ o ∷ []) p ↔ (IsInSome octs p ⊎ ((e.start.y ≡ e.finish.y) × IsOn e p))
level_pushed octs o e p level same =
    let s = some_pushed octs o p in (
      λ a. elim (s.0 a) [ inl h ↦ inl h | inr h ↦ inr (level, same.0 h) ],
      λ a. s.1 (elim a [ inl h ↦ inl h | inr h ↦ inr (same.1 h.1) ]),
    )

pub levels_more : (ss : List Side) (i : ℕ) (d : Side) (first octs more : List Bounds) (p : PlanePoint) → i < length ss
    → IsInSome octs p ↔ (IsInSome first p ⊎ IsOnLevel (take i (all_edges ss)) p)
    → IsInSome more p ↔ (IsInSome octs p ⊎ (((get_or ss i d).start.y ≡ (get_or ss i d).finish.y) × IsOn (side_edge (get_or ss i d)) p))
    → IsInSome more p ↔ (IsInSome first p ⊎ IsOnLevel (take (i + 1) (all_edges ss)) p)
levels_more ss i d first octs more p h old new = rw (taken_more ss i d h) (
  λ a. elim (new.0 a) [
    | inl b ↦ elim (old.0 b) [ inl f ↦ inl f | inr l ↦ inr (any_left Level before (e ∷ []) l) ]
    | inr b ↦ inr (any_right Level before (e ∷ []) (any_head Level e [] b))
  ],
  λ a. elim a [
    | inl f ↦ new.1 (inl (old.1 (inl f)))
    | inr l ↦ elim (any_parts Level before (e ∷ []) l) [
      | inl b ↦ new.1 (inl (old.1 (inr b)))
      | inr b ↦ elim (any_cases Level e [] b) [ inl c ↦ new.1 (inr c) | inr c ↦ absurd (any_none Level c) ]
    ]
  ],
)
  where
    e : Edge
    e = side_edge (get_or ss i d)

    before : List Edge
    before = take i (all_edges ss)

    Level : Edge → Type 0
    Level g = (g.start.y ≡ g.finish.y) × IsOn g p

-- ---- pairs
pair_from : (cs : List Edge) (j m : ℕ) (d : Edge) → m ≡ 2 * j → suc m < length cs → IsPairAt cs j (get_or cs m d) (get_or cs (suc m) d)
unfolding IsPairAt
pair_from [] j m d e h = absurd (omega (arith, h))
pair_from (c ∷ []) j m d e h = absurd (omega (arith, h))
pair_from (c ∷ b ∷ cs) zero zero d e h = (refl, refl)
pair_from (c ∷ b ∷ cs) zero (suc m) d e h = absurd (omega (arith, e))
pair_from (c ∷ b ∷ cs) (suc j) zero d e h = absurd (omega (arith, e))
pair_from (c ∷ b ∷ cs) (suc j) (suc zero) d e h = absurd (omega (arith, e))
pair_from (c ∷ b ∷ cs) (suc j) (suc (suc m)) d e h = pair_from cs j m d (omega (arith, e)) (omega (arith, h))

pair_only : (cs : List Edge) (j m : ℕ) (l r d : Edge) → m ≡ 2 * j → IsPairAt cs j l r → (l ≡ get_or cs m d) × (r ≡ get_or cs (suc m) d) × (suc m < length cs)
unfolding IsPairAt
pair_only [] j m l r d e h = absurd h
pair_only (c ∷ []) j m l r d e h = absurd h
pair_only (c ∷ b ∷ cs) zero zero l r d e h = (sym h.0, sym h.1, omega arith)
pair_only (c ∷ b ∷ cs) zero (suc m) l r d e h = absurd (omega (arith, e))
pair_only (c ∷ b ∷ cs) (suc j) zero l r d e h = absurd (omega (arith, e))
pair_only (c ∷ b ∷ cs) (suc j) (suc zero) l r d e h = absurd (omega (arith, e))
pair_only (c ∷ b ∷ cs) (suc j) (suc (suc m)) l r d e h = (let w = pair_only cs j m l r d (omega (arith, e)) h in (w.0, w.1, (let v = w.2 in omega (arith, v))))

pub pair_at : (ss : List Side) (j : ℕ) (d : Side) → j < length ss / 2 → IsPairAt (all_edges ss) j (side_edge (get_or ss (2 * j) d)) (side_edge (get_or ss (2 * j + 1) d))
pair_at ss j d h =
    let n = all_length ss in
    let l : 2 * j + 1 < length ss = omega (arith, h) in
    let a = read_edge ss (2 * j) d (omega (arith, l)) in
    let b = read_edge ss (2 * j + 1) d l in
    let e : suc (2 * j) ≡ 2 * j + 1 = omega arith in
    rw (a, b) (subst (λ (k : ℕ). IsPairAt (all_edges ss) j (get_or (all_edges ss) (2 * j) no_edge) (get_or (all_edges ss) k no_edge)) e (pair_from (all_edges ss) j (2 * j) no_edge refl (omega (arith, n, l))))

-- there is no other pair at that place
pub pair_same : (ss : List Side) (j : ℕ) (d : Side) (l r : Edge) → IsPairAt (all_edges ss) j l r
    → (l ≡ side_edge (get_or ss (2 * j) d)) × (r ≡ side_edge (get_or ss (2 * j + 1) d)) × (j < length ss / 2)
pair_same ss j d l r h =
    let n = all_length ss in
    let w = pair_only (all_edges ss) j (2 * j) l r no_edge refl h in
    let v = w.2 in
    let b : 2 * j + 1 < length ss = omega (arith, n, v) in
    let e : suc (2 * j) ≡ 2 * j + 1 = omega arith in
    (w.0 ∙ sym (read_edge ss (2 * j) d (omega (arith, b))), w.1 ∙ (ap (λ (k : ℕ). get_or (all_edges ss) k no_edge) e ∙ sym (read_edge ss (2 * j + 1) d b)), omega (arith, b))

abbrev IsEarlier : List Edge → ℕ → PlanePoint → Type 0
IsEarlier cs j p = (i : ℕ) × (a : Edge) × (b : Edge) × (i < j) × IsPairAt cs i a b × IsAmid a b p

pub pairs_more : (ss : List Side) (j : ℕ) (d : Side) (octs more : List Bounds) (o : Bounds) (p : PlanePoint) → j < length ss / 2
    → IsInSome octs p ↔ ((i : ℕ) × (a : Edge) × (b : Edge) × (i < j) × IsPairAt (all_edges ss) i a b × IsAmid a b p)
    → In o p ↔ IsAmid (side_edge (get_or ss (2 * j) d)) (side_edge (get_or ss (2 * j + 1) d)) p → more ≡ octs ++ o ∷ []
    → IsInSome more p ↔ ((i : ℕ) × (a : Edge) × (b : Edge) × (i < j + 1) × IsPairAt (all_edges ss) i a b × IsAmid a b p)
pairs_more ss j d octs more o p h old new e =
    let s = some_pushed octs o p in
    rw e (
      λ a. elim (s.0 a) [
        | inl b ↦ (let w = old.0 b in (w.0, w.1, w.2, (let v = w.3 in omega (arith, v)), w.4, w.5))
        | inr b ↦ (j, side_edge (get_or ss (2 * j) d), side_edge (get_or ss (2 * j + 1) d), omega arith, pair_at ss j d h, new.0 b)
      ],
      λ w. s.1 (elim (cases_lt w.0 j) [ inl l ↦ inl (old.1 (w.0, w.1, w.2, l, w.4, w.5)) | inr l ↦ inr (new.1 (here w.0 w.1 w.2 (let v = w.3 in omega (arith, v, l)) w.4 w.5)) ]),
    )
  where
    here : (i : ℕ) (a b : Edge) → i ≡ j → IsPairAt (all_edges ss) i a b → IsAmid a b p → IsAmid (side_edge (get_or ss (2 * j) d)) (side_edge (get_or ss (2 * j + 1) d)) p
    here i a b e q m =
        let r : IsPairAt (all_edges ss) j a b = subst (λ (k : ℕ). IsPairAt (all_edges ss) k a b) e q in
        let w = pair_same ss j d a b r in
        rw (← w.0, ← w.1) m

pub pairs_all : (ss : List Side) (j : ℕ) (d : Side) (p : PlanePoint) → length ss / 2 ≤ j
    → ((i : ℕ) × (a : Edge) × (b : Edge) × (i < j) × IsPairAt (all_edges ss) i a b × IsAmid a b p) ↔ IsInPair (all_edges ss) p
pairs_all ss j d p h = (
  λ w. (w.0, w.1, w.2, w.4, w.5),
  λ w. (w.0, w.1, w.2, (let v = (pair_same ss w.0 d w.1 w.2 w.3).2 in omega (arith, v, h)), w.3, w.4),
)

-- ---- closed sides
starts_in : (rows : List ℤ) (es : List Edge) → All (IsInRows rows) es → (z : ℤ) → IsAmong (starts es) z → IsAmong rows z
starts_in rows es all z a = one_of (λ y. IsAmong rows y) (starts es) z (λ k d h. here k d h) a
  where
    here : (k : ℕ) (d : ℤ) → k < length (starts es) → IsAmong rows (get_or (starts es) k d)
    here k d h =
        let n = length-map es (λ (e : Edge). e.start.y) in
        let l : k < length es = omega (arith, h, n) in
        rw (get_or-map (λ (e : Edge). e.start.y) es k no_edge d l) (all k no_edge l).0

pub closed_rows : (rows : List ℤ) (es : List Edge) → HasRows rows es → AreClosed (starts es) es → AreClosed rows es
closed_rows rows es has closed = rows_law (starts es) rows es (starts_in rows es has.every) closed

pub all_two : (rows : List ℤ) (es cs : List Edge) → AreClosed rows es → All IsSoundEdge es → AreCuts rows es cs → AreCutsInOrder cs → ArePaired cs
all_two rows es cs closed sound cuts order = λ j l r i.
    let reached : All IsEdgeInReach cs = λ k d h.
    (let c = cuts.each k d h in
    let s = one_of IsSoundEdge es c.0 sound c.1 in
    part_reached c.0 (get_or cs k d) c.2.line c.2.from c.2.to s.reached) in
    let w = pairs_law rows es cs j l r closed cuts order i in
    let q = pair_all IsEdgeInReach cs j l r reached i in
    record { left = w.0; right = w.1; framed = w.2; left_reached = q.0; right_reached = q.1 }

pub covered : (rows : List ℤ) (es cs : List Edge) (first octs : List Bounds) (p : PlanePoint) → AreClosed rows es → AreCuts rows es cs → AreCutsInOrder cs
    → IsInSome first p ↔ IsInPair cs p → IsInSome octs p ↔ (IsInSome first p ⊎ IsOnLevel es p) → IsInSome octs p ↔ Covers es p
covered rows es cs first octs p closed cuts order a b =
    let s = slabs_law rows es cs p closed cuts order in (
      λ i. s.1 (elim (b.0 i) [ inl h ↦ inl (a.0 h) | inr h ↦ inr h ]),
      λ c. b.1 (elim (s.0 c) [ inl h ↦ inl (a.1 h) | inr h ↦ inr h ]),
    )
