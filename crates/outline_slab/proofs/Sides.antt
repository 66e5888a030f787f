-- Lists of sides as lists of edges.
use Rattle.std.proofs.Common.{◌≡◌, sym, ◌∙◌, ap, subst, ℕ, ◌+◌, ◌<◌, ◌≤◌, ◌⊎◌, inl, inr, arith, List, [], ◌∷◌, ◌++◌, length, get_or, take}
use Rattle.std.specs.Prelude.{ℤ, pos, negsuc, neg_ℤ, ◌+ℤ◌, ◌-ℤ◌, ◌≤ℤ◌, ◌<ℤ◌, Any}
use Rattle.std.specs.Int.RustNames.{unsigned_abs}
use Rattle.std.specs.List.{All}
use Rattle.std.specs.List.Sorted.{IsPermutation}
use Rattle.std.proofs.lemmas.Int.{ints}
use Rattle.std.proofs.lemmas.List.{length-map, get_or-map, map-append, append_assoc, take_more, take_all}
use Rattle.std.proofs.lemmas.List.Elements.{All-push}
use Rattle.std.proofs.lemmas.List.Sorted.{All-permutation, sum_by-IsPermutation, IsPermutation-map}
use Rattle.plane.specs.Narrow.{IsNearZero}
use Rattle.grid_num.specs.declared.Point.{Point}
use Rattle.plane.specs.Covering.{Edge, IsOn, Between, crossing, edges_of}
use Rattle.plane.specs.Ends.{crossing_below}
use Rattle.plane.specs.Edges.{turned_back, IsOctilinear}
use Rattle.plane.proofs.CoverLaws.{any_permutation}
use Rattle.plane.proofs.Lists.{any_head, any_left, any_right}
use Rattle.slabs.specs.Slabs.{IsAmong, IsAt, IsInLine, IsCutOfEdge, AreCuts, IsCutBefore, AreCutsInOrder}
use Rattle.slabs.specs.Inner.Cutting.{IsRest, AreAdded, AreNeighbourRows}
use Rattle.slabs.proofs.Cutting.{step_law, end_law, more_cuts_law, turned_cuts_law}
use Rattle.slabs.proofs.Order.{one_of}
use Rattle.slabs.proofs.Closed.{turned_octilinear}
use Rattle.outline_slab.specs.declared.side.Side.{Side}
use Rattle.outline_slab.specs.Inner.Side.{side_edge}
use Rattle.outline_slab.specs.Rules.{edge, no_edge, no_corner}
use Rattle.outline_slab.proofs.Chain.{edges_length}
use Rattle.outline_slab.specs.Cuts.{all_edges, IsEdgeInReach, IsSoundEdge, IsInRows}

pub all_length : (ss : List Side) → length (all_edges ss) ≡ length ss
all_length ss = length-map ss (λ s. side_edge s)

-- the side that was read
pub read_edge : (ss : List Side) (i : ℕ) (d : Side) → i < length ss → side_edge (get_or ss i d) ≡ get_or (all_edges ss) i no_edge
read_edge ss i d h = sym (get_or-map (λ s. side_edge s) ss i d no_edge h)

pub read_fact : (P : Edge → Type 0) (ss : List Side) (i : ℕ) (d : Side) → i < length ss → All P (all_edges ss) → P (side_edge (get_or ss i d))
read_fact P ss i d h all = let n = all_length ss in subst P (sym (read_edge ss i d h)) (all i no_edge (omega (arith, n, h)))

pub pushed : (ss : List Side) (s : Side) → all_edges (ss ++ s ∷ []) ≡ all_edges ss ++ side_edge s ∷ []
pushed ss s = map-append (λ s. side_edge s) ss (s ∷ [])

pub taken_more : (ss : List Side) (i : ℕ) (d : Side) → i < length ss → take (i + 1) (all_edges ss) ≡ take i (all_edges ss) ++ side_edge (get_or ss i d) ∷ []
taken_more ss i d h =
    let n = all_length ss in
    take_more (all_edges ss) i no_edge (omega (arith, n, h)) ∙ ap (λ (q : Edge). take i (all_edges ss) ++ q ∷ []) (sym (read_edge ss i d h))

pub taken_all : (ss : List Side) (i : ℕ) → length ss ≤ i → take i (all_edges ss) ≡ all_edges ss
taken_all ss i h = let n = all_length ss in take_all i (all_edges ss) (omega (arith, n, h))

-- ---- another order
map_permutation : (ss ts : List Side) → IsPermutation ss ts → IsPermutation (all_edges ss) (all_edges ts)
map_permutation ss ts h = IsPermutation-map (λ s. side_edge s) ss ts h

pub ordered_cuts : (rows : List ℤ) (es : List Edge) (ss ts : List Side) → IsPermutation ss ts → AreCuts rows es (all_edges ss) → AreCuts rows es (all_edges ts)
ordered_cuts rows es ss ts h a =
    let q = map_permutation ss ts h in
    record {
      each = All-permutation (λ c. (e : Edge) × IsAmong es e × IsCutOfEdge rows e c) (all_edges ss) (all_edges ts) q a.each;
      count = λ p. sum_by-IsPermutation (crossing p) (all_edges ss) (all_edges ts) q ∙ a.count p;
      below = λ p. sum_by-IsPermutation (crossing_below p) (all_edges ss) (all_edges ts) q ∙ a.below p;
      on = λ p o. elim (a.on p o) [ inl i ↦ inl (any_permutation (λ c. IsOn c p) (all_edges ss) (all_edges ts) q i) | inr i ↦ inr i ];
    }

-- ---- reach
within_line : (n : ℕ) (e : Edge) (v : Point) → Between e.start.y e.finish.y v.y
    → ((e.start.x ≡ e.finish.x) × (v.x ≡ e.start.x)) ⊎ (((e.finish.x -ℤ e.start.x ≡ e.finish.y -ℤ e.start.y) × (v.x -ℤ v.y ≡ e.start.x -ℤ e.start.y)) ⊎ ((e.finish.x -ℤ e.start.x ≡ neg_ℤ (e.finish.y -ℤ e.start.y)) × (v.x +ℤ v.y ≡ e.start.x +ℤ e.start.y)))
    → IsNearZero n e.start.x → IsNearZero n e.finish.x → IsNearZero n v.x
within_line n e v f (inl a) g h = record { low = omega (arith, ints); high = omega (arith, ints) }
within_line n e v f (inr (inl a)) g h = record { low = omega (arith, ints); high = omega (arith, ints) }
within_line n e v f (inr (inr a)) g h = record { low = omega (arith, ints); high = omega (arith, ints) }

within_rows : (n : ℕ) (a b y : ℤ) → Between a b y → IsNearZero n a → IsNearZero n b → IsNearZero n y
within_rows n a b y f g h = record { low = omega (arith, ints); high = omega (arith, ints) }

pub part_reached : (e c : Edge) → IsInLine e c → Between e.start.y e.finish.y c.start.y → Between e.start.y e.finish.y c.finish.y → IsEdgeInReach e → IsEdgeInReach c
unfolding IsInLine
part_reached e c l f g r =
    record {
      start = record { x = within_line _ e c.start f (starts l) r.start.x r.finish.x; y = within_rows _ e.start.y e.finish.y c.start.y f r.start.y r.finish.y };
      finish = record { x = within_line _ e c.finish g (ends l) r.start.x r.finish.x; y = within_rows _ e.start.y e.finish.y c.finish.y g r.start.y r.finish.y };
    }
  where
    starts : ((e.start.x ≡ e.finish.x) × (c.start.x ≡ e.start.x) × (c.finish.x ≡ e.start.x))
        ⊎ (((e.finish.x -ℤ e.start.x ≡ e.finish.y -ℤ e.start.y) × (c.start.x -ℤ c.start.y ≡ e.start.x -ℤ e.start.y) × (c.finish.x -ℤ c.finish.y ≡ e.start.x -ℤ e.start.y))
        ⊎ ((e.finish.x -ℤ e.start.x ≡ neg_ℤ (e.finish.y -ℤ e.start.y)) × (c.start.x +ℤ c.start.y ≡ e.start.x +ℤ e.start.y) × (c.finish.x +ℤ c.finish.y ≡ e.start.x +ℤ e.start.y)))
        → ((e.start.x ≡ e.finish.x) × (c.start.x ≡ e.start.x)) ⊎ (((e.finish.x -ℤ e.start.x ≡ e.finish.y -ℤ e.start.y) × (c.start.x -ℤ c.start.y ≡ e.start.x -ℤ e.start.y)) ⊎ ((e.finish.x -ℤ e.start.x ≡ neg_ℤ (e.finish.y -ℤ e.start.y)) × (c.start.x +ℤ c.start.y ≡ e.start.x +ℤ e.start.y)))
    starts (inl a) = inl (a.0, a.1)
    starts (inr (inl a)) = inr (inl (a.0, a.1))
    starts (inr (inr a)) = inr (inr (a.0, a.1))

    ends : ((e.start.x ≡ e.finish.x) × (c.start.x ≡ e.start.x) × (c.finish.x ≡ e.start.x))
        ⊎ (((e.finish.x -ℤ e.start.x ≡ e.finish.y -ℤ e.start.y) × (c.start.x -ℤ c.start.y ≡ e.start.x -ℤ e.start.y) × (c.finish.x -ℤ c.finish.y ≡ e.start.x -ℤ e.start.y))
        ⊎ ((e.finish.x -ℤ e.start.x ≡ neg_ℤ (e.finish.y -ℤ e.start.y)) × (c.start.x +ℤ c.start.y ≡ e.start.x +ℤ e.start.y) × (c.finish.x +ℤ c.finish.y ≡ e.start.x +ℤ e.start.y)))
        → ((e.start.x ≡ e.finish.x) × (c.finish.x ≡ e.start.x)) ⊎ (((e.finish.x -ℤ e.start.x ≡ e.finish.y -ℤ e.start.y) × (c.finish.x -ℤ c.finish.y ≡ e.start.x -ℤ e.start.y)) ⊎ ((e.finish.x -ℤ e.start.x ≡ neg_ℤ (e.finish.y -ℤ e.start.y)) × (c.finish.x +ℤ c.finish.y ≡ e.start.x +ℤ e.start.y)))
    ends (inl a) = inl (a.0, a.2)
    ends (inr (inl a)) = inr (inl (a.0, a.2))
    ends (inr (inr a)) = inr (inr (a.0, a.2))

pub part_octilinear : (e c : Edge) → IsInLine e c → IsOctilinear c
unfolding IsInLine IsOctilinear
part_octilinear e c (inl a) = inr (inl (omega (arith, ints, a)))
part_octilinear e c (inr (inl a)) = inr (inr (inl (omega (arith, ints, a))))
part_octilinear e c (inr (inr a)) = inr (inr (inr (omega (arith, ints, a))))

-- ---- where a side passes a row
pub place_right : (e : Edge) (row x : ℤ) → IsOctilinear e → e.start.y <ℤ row → row <ℤ e.finish.y → e.start.x <ℤ e.finish.x → x ≡ e.start.x +ℤ (row -ℤ e.start.y) → IsAt e 1 row x
unfolding IsOctilinear IsAt
place_right e row x (inl o) a b r h = absurd (omega (arith, ints))
place_right e row x (inr (inl o)) a b r h = absurd (omega (arith, ints))
place_right e row x (inr (inr (inl o))) a b r h = inr (inl (o, omega (arith, ints)))
place_right e row x (inr (inr (inr o))) a b r h = absurd (omega (arith, ints))

pub place_left : (e : Edge) (row x : ℤ) → IsOctilinear e → e.start.y <ℤ row → row <ℤ e.finish.y → e.finish.x <ℤ e.start.x → x ≡ e.start.x -ℤ (row -ℤ e.start.y) → IsAt e 1 row x
unfolding IsOctilinear IsAt
place_left e row x (inl o) a b r h = absurd (omega (arith, ints))
place_left e row x (inr (inl o)) a b r h = absurd (omega (arith, ints))
place_left e row x (inr (inr (inl o))) a b r h = absurd (omega (arith, ints))
place_left e row x (inr (inr (inr o))) a b r h = inr (inr (o, omega (arith, ints)))

pub place_straight : (e : Edge) (row x : ℤ) → IsOctilinear e → e.start.y <ℤ row → row <ℤ e.finish.y → e.start.x ≡ e.finish.x → x ≡ e.start.x → IsAt e 1 row x
unfolding IsOctilinear IsAt
place_straight e row x (inl o) a b r h = absurd (omega (arith, ints))
place_straight e row x (inr (inl o)) a b r h = inl (sym o, omega (arith, ints))
place_straight e row x (inr (inr (inl o))) a b r h = absurd (omega (arith, ints))
place_straight e row x (inr (inr (inr o))) a b r h = absurd (omega (arith, ints))

-- ---- order
before_of : (c d : Edge) → (c.start.y <ℤ d.start.y) ⊎ ((c.start.y ≡ d.start.y) × ((c.start.x +ℤ c.finish.x) ≤ℤ (d.start.x +ℤ d.finish.x))) → IsCutBefore c d
unfolding IsCutBefore
before_of c d h = h

abbrev pub no_side : Side
no_side = record { start = no_corner; finish = no_corner }

pub order_of : (ss : List Side)
    → ((k : ℕ) (d : Side) → k + 1 < length ss → ((get_or ss k d).start.y <ℤ (get_or ss (k + 1) d).start.y)
    ⊎ (((get_or ss k d).start.y ≡ (get_or ss (k + 1) d).start.y) × (((get_or ss k d).start.x +ℤ (get_or ss k d).finish.x) ≤ℤ ((get_or ss (k + 1) d).start.x +ℤ (get_or ss (k + 1) d).finish.x))))
    → AreCutsInOrder (all_edges ss)
order_of ss h = λ k d l.
    let n = all_length ss in
    let a : k < length ss = omega (arith, n, l) in
    let b : k + 1 < length ss = omega (arith, n, l) in
    let x = get_or-map (λ s. side_edge s) ss k no_side d a in
    let y = get_or-map (λ s. side_edge s) ss (k + 1) no_side d b in
    rw (x, y) (before_of (side_edge (get_or ss k no_side)) (side_edge (get_or ss (k + 1) no_side)) (h k no_side b))

-- ---- cutting
abbrev way : Point → Point → Side
way a b = record { start = a; finish = b }

pub step : (rows : List ℤ) (side rest : Side) (cs : List Edge) (ds more : List Side) (m : Point) (row : ℤ) → IsRest rows (side_edge side) cs (all_edges ds) (side_edge rest)
    → rest.finish ≡ side.finish → rest.start.y <ℤ row → row <ℤ side.finish.y → IsAmong rows row → AreNeighbourRows rows rest.start.y row
    → m.y ≡ row → IsAt (side_edge rest) 1 row m.x → more ≡ ds ++ way rest.start m ∷ []
    → IsRest rows (side_edge side) cs (all_edges more) (side_edge (way m side.finish))
step rows side rest cs ds more m row r f a b i n e w same =
    let low : rest.start.y <ℤ m.y = rw e a in
    let y : Point → ℤ = λ p. p.y in
    let g = ap y f in
    let high : m.y <ℤ rest.finish.y = omega (arith, ints, e, b, g) in
    let is : IsAmong rows m.y = rw e i in
    let next : AreNeighbourRows rows rest.start.y m.y = rw e n in
    let at : IsAt (side_edge rest) 1 m.y m.x = rw e w in
    let s = step_law rows (side_edge side) (side_edge rest) cs (all_edges ds) m r low high is next at in
    let t : IsRest rows (side_edge side) cs (all_edges ds ++ side_edge (way rest.start m) ∷ []) (side_edge (way m side.finish)) = subst (λ (q : Point). IsRest rows (side_edge side) cs (all_edges ds ++ side_edge (way rest.start m) ∷ []) (side_edge (way m q))) f s in
    rw (same, pushed ds (way rest.start m)) t

pub last : (rows : List ℤ) (side rest : Side) (cs : List Edge) (ds more : List Side) (row : ℤ) → IsRest rows (side_edge side) cs (all_edges ds) (side_edge rest)
    → rest.finish ≡ side.finish → side.finish.y ≤ℤ row → AreNeighbourRows rows rest.start.y row → more ≡ ds ++ rest ∷ []
    → AreAdded rows (side_edge side) cs (all_edges more)
last rows side rest cs ds more row r f b n same =
    let y : Point → ℤ = λ p. p.y in
    let g = ap y f in
    let next : AreNeighbourRows rows rest.start.y rest.finish.y = λ k d h. elim (n k d h) [ inl l ↦ inl l | inr l ↦ inr (omega (arith, ints, l, b, g)) ] in
    rw (same, pushed ds rest) (end_law rows (side_edge side) (side_edge rest) cs (all_edges ds) r next)

-- a row that is left brings a lower one, at most the last one
pub some_row : (rows : List ℤ) (row last : ℤ) → row <ℤ last → IsAmong rows last → Any (λ z. row <ℤ z) rows
some_row rows row last l a = (a.0, a.1, a.2, a.3, (let e : a.1 ≡ last = a.4 in omega (arith, ints, e, l)))

pub smaller : (rows : List ℤ) (row more last : ℤ) → IsAmong rows last → row <ℤ last → row <ℤ more → AreNeighbourRows rows row more → unsigned_abs (last -ℤ more) < unsigned_abs (last -ℤ row)
smaller rows row more last a l m n =
    elim (one_of (λ z. (z ≤ℤ row) ⊎ (more ≤ℤ z)) rows last n a) [
      | inl h ↦ absurd (omega (arith, ints, h, l))
      | inr h ↦ nearer (last -ℤ more) (last -ℤ row) (omega (arith, ints, h)) (omega (arith, ints, m))
    ]
  where
    nearer : (u v : ℤ) → pos 0 ≤ℤ u → u <ℤ v → unsigned_abs u < unsigned_abs v
    nearer (pos u) (pos v) a b = omega (arith, ints, b)
    nearer (pos u) (negsuc v) a b = absurd (omega (arith, ints, b))
    nearer (negsuc u) v a b = absurd (omega (arith, ints, a))

pub turned_way : (s t : Side) → t.start ≡ s.finish → t.finish ≡ s.start → side_edge t ≡ record { start = s.finish; finish = s.start }
turned_way s t e f = let g : Point → Edge = λ a. record { start = a; finish = t.finish } in let h : Point → Edge = λ b. record { start = s.finish; finish = b } in ap g e ∙ ap h f

turned_is : (s : Side) → IsOctilinear (side_edge s) → IsOctilinear (record { start = s.finish; finish = s.start })
unfolding turned_back
turned_is s o = turned_octilinear (side_edge s) o

pub turned_sound : (s t : Side) → t.start ≡ s.finish → t.finish ≡ s.start → IsSoundEdge (side_edge s) → IsSoundEdge (side_edge t)
turned_sound s t e f a = subst IsSoundEdge (sym (turned_way s t e f)) (record { octilinear = turned_is s a.octilinear; reached = record { start = a.reached.finish; finish = a.reached.start } })

pub turned_added : (rows : List ℤ) (es cs ds : List Edge) (e t : Edge) → IsSoundEdge e → t ≡ record { start = e.finish; finish = e.start } → AreAdded rows t cs ds → AreCuts rows es cs → AreCuts rows (es ++ e ∷ []) ds
unfolding turned_back
turned_added rows es cs ds e t s h a c = more_cuts_law rows es cs ds e c (turned_cuts_law rows e cs ds s.octilinear (subst (λ (q : Edge). AreAdded rows q cs ds) h a))

-- ---- the same numbers, read in another way
pub neighbours_same : (rows : List ℤ) (t t' b b' : ℤ) → t ≡ t' → b ≡ b' → AreNeighbourRows rows t b → AreNeighbourRows rows t' b'
neighbours_same rows t t' b b' e f n = λ k d h. elim (n k d h) [ inl l ↦ inl (omega (arith, ints, l, e)) | inr l ↦ inr (omega (arith, ints, l, f)) ]

pub one_same : (rows : List ℤ) (t t' : ℤ) → t ≡ t' → IsAmong rows t → IsAmong rows t'
one_same rows t t' e a = (a.0, a.1, a.2, a.3, a.4 ∙ e)

-- ---- the rows of ends
in_more : (rows : List ℤ) (y : ℤ) (e : Edge) → IsInRows rows e → IsInRows (rows ++ y ∷ []) e
in_more rows y e a = (any_left (λ x. x ≡ e.start.y) rows (y ∷ []) a.0, any_left (λ x. x ≡ e.finish.y) rows (y ∷ []) a.1)

one_pushed : (rows : List ℤ) (y z : ℤ) → y ≡ z → IsAmong (rows ++ y ∷ []) z
one_pushed rows y z e = any_right (λ x. x ≡ z) rows (y ∷ []) (any_head (λ x. x ≡ z) y [] e)

pub ends_pushed : (ss : List Side) (i : ℕ) (d : Side) (rows more last : List ℤ) (y z : ℤ) → i < length ss → All (IsInRows rows) (take i (all_edges ss))
    → more ≡ rows ++ y ∷ [] → last ≡ more ++ z ∷ [] → y ≡ (get_or ss i d).start.y → z ≡ (get_or ss i d).finish.y
    → All (IsInRows last) (take (i + 1) (all_edges ss))
ends_pushed ss i d rows more last y z h all e f a b =
    rw (taken_more ss i d h, f)
    (All-push (IsInRows (more ++ z ∷ [])) (take i (all_edges ss)) (side_edge (get_or ss i d))
    (λ k q l. in_more more z (get_or (take i (all_edges ss)) k q) (rw e (in_more rows y (get_or (take i (all_edges ss)) k q) (all k q l))))
    (any_left (λ x. x ≡ (get_or ss i d).start.y) more (z ∷ []) (rw e (one_pushed rows y (get_or ss i d).start.y a)), one_pushed more z (get_or ss i d).finish.y b))

pub every_permuted : (es : List Edge) (rows more : List ℤ) → IsPermutation rows more → All (IsInRows rows) es → All (IsInRows more) es
every_permuted es rows more p all = λ k d h.
    let a = all k d h in
    (any_permutation (λ x. x ≡ (get_or es k d).start.y) rows more p a.0, any_permutation (λ x. x ≡ (get_or es k d).finish.y) rows more p a.1)

-- ---- the sides of a chain
pub chain_more : (cs : List Point) (i : ℕ) (first ss more : List Side) (s : Side) → i < length cs → all_edges ss ≡ all_edges first ++ take i (edges_of cs) → side_edge s ≡ edge cs i → more ≡ ss ++ s ∷ []
    → all_edges more ≡ all_edges first ++ take (i + 1) (edges_of cs)
chain_more cs i first ss more s h old e same =
    let n = edges_length cs in
    ap (λ (q : List Side). all_edges q) same
    ∙ (pushed ss s ∙ (ap (λ (q : List Edge). q ++ side_edge s ∷ []) old ∙ (append_assoc (all_edges first) (take i (edges_of cs)) (side_edge s ∷ [])
    ∙ ap (λ (q : List Edge). all_edges first ++ q) (ap (λ (q : Edge). take i (edges_of cs) ++ q ∷ []) e ∙ sym (take_more (edges_of cs) i no_edge (omega (arith, n, h)))))))

pub chain_all : (cs : List Point) (i : ℕ) (first ss : List Side) → length cs ≤ i → all_edges ss ≡ all_edges first ++ take i (edges_of cs) → all_edges ss ≡ all_edges first ++ edges_of cs
chain_all cs i first ss h e = let n = edges_length cs in e ∙ ap (λ (q : List Edge). all_edges first ++ q) (take_all i (edges_of cs) (omega (arith, n, h)))
