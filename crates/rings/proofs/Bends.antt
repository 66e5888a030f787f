-- The contour of a walk covers what the walk's edges cover: corners that are passed straight don't matter.
use Rattle.std.proofs.Common.{◌≡◌, refl, sym, subst, ap, ◌∙◌, ℕ, ◌⊎◌, inl, inr, arith, List, [], ◌∷◌, ◌++◌, Bool, true, false, not}
use Rattle.std.specs.Prelude.{◌<ℤ◌, ◌≤ℤ◌, map, nat_eq}
use Rattle.std.specs.List.{All, filter}
use Rattle.std.proofs.lemmas.Int.{ints}
use Rattle.std.proofs.lemmas.Bool.{false≢true}
use Rattle.std.proofs.lemmas.Bool.Decides.{Decides-eqb}
use Rattle.std.proofs.lemmas.List.{append-nil}
use Rattle.std.proofs.lemmas.List.Elements.{All-head, All-tail}
use Rattle.std.proofs.lemmas.List.Sorted.{IsPermutation-append_comm}
use Rattle.grid_num.specs.declared.Point.{Point}
use Rattle.plane.specs.Covering.{Edge, edges_to, edges_of}
use Rattle.plane.proofs.Split.{AreAlike, alike_order}
use Rattle.plane.proofs.Chains.{alike_refl, alike_sym, alike_trans, alike_append, straight_alike}
use Rattle.rings.specs.Turning.{direction, IsNextEdge}
use Rattle.rings.specs.Walks.{last_of, visits_after, visits, IsWalk, visit_corner, is_bend, bends, IsSameRound, IsContour}
use Rattle.rings.proofs.Lists.{has_of, round_sym, round_trans}
use Rattle.rings.proofs.Lines.{line, along, IsGood, direction_low, straight_at}
use Rattle.rings.proofs.Parted.{AreGood}
use Rattle.rings.proofs.Walks.{first_visit, visits_head, walk_round, bends_round}

abbrev edge : Point → Point → Edge
edge a b = record { start = a; finish = b }

-- ---- begun elsewhere
edges_split : (z a b : Point) (xs ys : List Point) → edges_to z a (xs ++ b ∷ ys) ≡ edges_to b a xs ++ edges_to z b ys
edges_split z a b [] ys = refl
edges_split z a b (x ∷ xs) ys = ap (λ es. edge a x ∷ es) (edges_split z x b xs ys)

round_edges : (xs ys : List Point) → AreAlike (edges_of (xs ++ ys)) (edges_of (ys ++ xs))
round_edges [] ys = subst (λ zs. AreAlike (edges_of ys) (edges_of zs)) (sym (append-nil ys)) (alike_refl (edges_of ys))
round_edges (a ∷ xs) [] = subst (λ zs. AreAlike (edges_of zs) (edges_of (a ∷ xs))) (sym (append-nil (a ∷ xs))) (alike_refl (edges_of (a ∷ xs)))
round_edges (a ∷ xs) (b ∷ ys) =
    subst (λ es. AreAlike es (edges_of (b ∷ ys ++ a ∷ xs))) (sym (edges_split a a b xs ys))
    (subst (λ es. AreAlike (edges_to b a xs ++ edges_to a b ys) es) (sym (edges_split b b a ys xs))
    (alike_order (edges_to b a xs ++ edges_to a b ys) (edges_to a b ys ++ edges_to b a xs) (IsPermutation-append_comm (edges_to b a xs) (edges_to a b ys))))

pub edges_round : (xs ys : List Point) → IsSameRound xs ys → AreAlike (edges_of xs) (edges_of ys)
edges_round xs ys r = subst (λ zs. AreAlike (edges_of zs) (edges_of ys)) (sym r.was) (subst (λ zs. AreAlike (edges_of (r.front ++ r.back)) (edges_of zs)) (sym r.is) (round_edges r.front r.back))

walk_alike : (w v : List Edge) → IsSameRound w v → AreAlike w v
walk_alike w v r = subst (λ zs. AreAlike zs v) (sym r.was) (subst (λ zs. AreAlike (r.front ++ r.back) zs) (sym r.is) (alike_order (r.front ++ r.back) (r.back ++ r.front) (IsPermutation-append_comm r.front r.back)))

-- ---- from a bend on
unfoldable pub Linked : Edge → List Edge → Type 0
Linked e [] = Unit {0}
Linked e (b ∷ bs) = (b.start ≡ e.finish) × IsGood b × Linked b bs

unfoldable pub tail_bends : Edge → List Edge → List Point
tail_bends e bs = map visit_corner (filter is_bend (visits_after e bs))

pub bends_yes : (e b : Edge) (bs : List Edge) → is_bend (record { comes = e; goes = b }) ≡ true → tail_bends e (b ∷ bs) ≡ b.start ∷ tail_bends b bs
unfolding tail_bends visits_after
bends_yes e b bs h = rw h refl

pub bends_no : (e b : Edge) (bs : List Edge) → is_bend (record { comes = e; goes = b }) ≡ false → tail_bends e (b ∷ bs) ≡ tail_bends b bs
unfolding tail_bends visits_after
bends_no e b bs h = rw h refl

pub not_bend : (e b : Edge) → is_bend (record { comes = e; goes = b }) ≡ false → direction e ≡ direction b
unfolding is_bend
not_bend e b h = at (nat_eq (direction e) (direction b)) refl h
  where
    at : (c : Bool) → nat_eq (direction e) (direction b) ≡ c → not c ≡ false → direction e ≡ direction b
    at true i k = (Decides-eqb (direction e) (direction b)).0 i
    at false i k = absurd (false≢true (sym k))

-- p and a are on one line of direction d, p not after a
pub record IsUpTo (d : ℕ) (p a : Point) : Type 0 where
  pub line : line d p ≡ line d a
  pub on : along d p ≤ℤ along d a

pub goes_on : (p : Point) (e b : Edge) → IsGood e → b.start ≡ e.finish → direction e ≡ direction b → IsUpTo (direction e) p e.start → IsUpTo (direction b) p b.start
goes_on p e b g j d i =
    subst (λ k. IsUpTo k p b.start) d
    (subst (IsUpTo (direction e) p) (sym j) (record { line = i.line ∙ sym g.line; on = (let u = i.on in let v = g.on in omega (arith, ints, u, v)) }))

-- an edge from further back on the same line
longer : (p : Point) (b : Edge) → IsGood b → IsUpTo (direction b) p b.start → AreAlike (edge p b.finish ∷ []) (edge p b.start ∷ b ∷ [])
longer p b g u =
    let o = u.on in
    let v = g.on in
    straight_alike p b.start b.finish (straight_at (direction b) (direction_low b) p b.start b.finish (sym u.line) (g.line ∙ sym u.line) o (omega (arith, ints, v)))

bends_from : (z p : Point) (e : Edge) (bs : List Edge) → IsGood e → Linked e bs → (last_of e bs).finish ≡ z → IsUpTo (direction e) p e.start
    → AreAlike (edges_to z p (tail_bends e bs)) (edge p e.finish ∷ bs)
unfolding Linked last_of tail_bends visits_after
bends_from z p e [] g l h u = subst (λ q. AreAlike (edge p q ∷ []) (edge p e.finish ∷ [])) h (alike_refl (edge p e.finish ∷ []))
bends_from z p e (b ∷ bs) g l h u =
    at (bends_from z b.start b bs l.1 l.2 h (record { line = refl; on = omega (arith, ints) }))
    (λ v. bends_from z p b bs l.1 l.2 h v)
    (is_bend (record { comes = e; goes = b })) refl
  where
    at : AreAlike (edges_to z b.start (tail_bends b bs)) (edge b.start b.finish ∷ bs)
        → (IsUpTo (direction b) p b.start → AreAlike (edges_to z p (tail_bends b bs)) (edge p b.finish ∷ bs))
        → (c : Bool) → is_bend (record { comes = e; goes = b }) ≡ c → AreAlike (edges_to z p (tail_bends e (b ∷ bs))) (edge p e.finish ∷ b ∷ bs)
    at f k true i =
        subst (λ ps. AreAlike (edges_to z p ps) (edge p e.finish ∷ b ∷ bs)) (sym (bends_yes e b bs i))
        (subst (λ q. AreAlike (edge p b.start ∷ edges_to z b.start (tail_bends b bs)) (edge p q ∷ b ∷ bs)) l.0
        (alike_append (edge p b.start ∷ []) (edge p b.start ∷ []) (edges_to z b.start (tail_bends b bs)) (b ∷ bs) (alike_refl (edge p b.start ∷ [])) f))
    at f k false i =
        let v = goes_on p e b g l.0 (not_bend e b i) u in
        subst (λ ps. AreAlike (edges_to z p ps) (edge p e.finish ∷ b ∷ bs)) (sym (bends_no e b bs i))
        (alike_trans (edges_to z p (tail_bends b bs)) (edge p b.finish ∷ bs) (edge p e.finish ∷ b ∷ bs) (k v)
        (subst (λ q. AreAlike (edge p b.finish ∷ bs) (edge p q ∷ b ∷ bs)) l.0
        (alike_append (edge p b.finish ∷ []) (edge p b.start ∷ b ∷ []) bs bs (longer p b l.1 v) (alike_refl bs))))

-- ---- a walk that begins with a bend
pub bends_first : (a : Edge) (bs : List Edge) → is_bend (first_visit a bs) ≡ true → bends (a ∷ bs) ≡ a.start ∷ tail_bends a bs
unfolding first_visit bends visits tail_bends visits_after
bends_first a bs h = rw h refl

linked_from : (es : List Edge) (e : Edge) (bs : List Edge) → AreGood es → All (λ v. IsNextEdge es v.comes v.goes) (visits_after e bs) → Linked e bs
unfolding Linked visits_after AreGood
linked_from es e [] g h = tt
linked_from es e (b ∷ bs) g h =
    let n = All-head (λ v. IsNextEdge es v.comes v.goes) (record { comes = e; goes = b }) (visits_after b bs) h in
    (n.joins, g b (has_of es b n.one), linked_from es b bs g (All-tail (λ v. IsNextEdge es v.comes v.goes) (record { comes = e; goes = b }) (visits_after b bs) h))

-- a walk's first edge, and what follows
pub record IsLinkedWalk (a : Edge) (bs : List Edge) : Type 0 where
  pub good : IsGood a
  pub linked : Linked a bs
  pub closed : a.start ≡ (last_of a bs).finish

pub linked_walk : (es : List Edge) (a : Edge) (bs : List Edge) → AreGood es → IsWalk es (a ∷ bs) → IsLinkedWalk a bs
unfolding first_visit AreGood
linked_walk es a bs g w =
    let n = subst (All (λ u. IsNextEdge es u.comes u.goes)) (visits_head a bs) w.next in
    let f = All-head (λ v. IsNextEdge es v.comes v.goes) (first_visit a bs) (visits_after a bs) n in
    record {
      good = g a (has_of es a f.one);
      linked = linked_from es a bs g (All-tail (λ v. IsNextEdge es v.comes v.goes) (first_visit a bs) (visits_after a bs) n);
      closed = f.joins;
    }

bent_alike : (a : Edge) (bs : List Edge) → IsLinkedWalk a bs → is_bend (first_visit a bs) ≡ true → AreAlike (edges_of (bends (a ∷ bs))) (a ∷ bs)
bent_alike a bs w h =
    subst (λ ps. AreAlike (edges_of ps) (a ∷ bs)) (sym (bends_first a bs h))
    (bends_from a.start a.start a bs w.good w.linked (sym w.closed) (record { line = refl; on = omega (arith, ints) }))

-- ---- some corner is a bend
record IsBentAt (p : Edge) (xs : List Edge) : Type 0 where
  before : List Edge
  edge : Edge
  after : List Edge
  is : xs ≡ before ++ edge ∷ after
  bend : is_bend (record { comes = last_of p before; goes = edge }) ≡ true

unfoldable NoBends : Edge → List Edge → Type 0
NoBends p [] = Unit {0}
NoBends p (x ∷ xs) = (direction p ≡ direction x) × NoBends x xs

bent_at : (p : Edge) (xs : List Edge) → NoBends p xs ⊎ IsBentAt p xs
unfolding NoBends last_of
bent_at p [] = inl tt
bent_at p (x ∷ xs) = at (bent_at x xs) (is_bend (record { comes = p; goes = x })) refl
  where
    at : NoBends x xs ⊎ IsBentAt x xs → (c : Bool) → is_bend (record { comes = p; goes = x }) ≡ c → NoBends p (x ∷ xs) ⊎ IsBentAt p (x ∷ xs)
    at r true i = inr (record { before = []; edge = x; after = xs; is = refl; bend = i })
    at (inl n) false i = inl (not_bend p x i, n)
    at (inr b) false i = inr (record { before = x ∷ b.before; edge = b.edge; after = b.after; is = ap (λ ys. x ∷ ys) b.is; bend = b.bend })

-- without a bend one never comes back
runs_on : (e : Edge) (bs : List Edge) → IsGood e → Linked e bs → NoBends e bs → along (direction e) e.start <ℤ along (direction e) (last_of e bs).finish
unfolding Linked last_of NoBends
runs_on e [] g l n = g.on
runs_on e (b ∷ bs) g l n =
    let r = subst (λ d. along d b.start <ℤ along d (last_of b bs).finish) (sym n.0) (runs_on b bs l.1 l.2 n.1) in
    let s = ap (along (direction e)) l.0 in
    let o = g.on in
    omega (arith, ints, r, s, o)

last_append : (b : Edge) (xs : List Edge) (a : Edge) (ys : List Edge) → last_of b (xs ++ a ∷ ys) ≡ last_of a ys
unfolding last_of
last_append b [] a ys = refl
last_append b (x ∷ xs) a ys = last_append x xs a ys

-- the walk begun at the bend
pub record IsBegun (w : List Edge) : Type 0 where
  pub first : Edge
  pub others : List Edge
  pub round : IsSameRound w (first ∷ others)
  pub bend : is_bend (first_visit first others) ≡ true

begun_at : (a : Edge) (bs us : List Edge) (b : Edge) (vs : List Edge) → a ∷ bs ≡ us ++ b ∷ vs → is_bend (record { comes = last_of (last_of a bs) us; goes = b }) ≡ true → IsBegun (a ∷ bs)
unfolding first_visit last_of
begun_at a bs [] b vs e h = record {
  first = b;
  others = vs;
  round = record { front = []; back = b ∷ vs; was = e; is = sym (append-nil (b ∷ vs)) };
  bend = subst (λ z. is_bend (record { comes = z; goes = b }) ≡ true) (ap (λ zs. last_of a zs) e) h;
}
begun_at a bs (u ∷ us) b vs e h = record {
  first = b;
  others = vs ++ u ∷ us;
  round = record { front = u ∷ us; back = b ∷ vs; was = e; is = refl };
  bend = subst (λ z. is_bend (record { comes = z; goes = b }) ≡ true) (sym (last_append b vs u us)) h;
}

begun : (a : Edge) (bs : List Edge) → IsLinkedWalk a bs → IsBegun (a ∷ bs)
unfolding NoBends
begun a bs w = elim (bent_at (last_of a bs) (a ∷ bs)) [
  | inl n ↦ absurd (let r = runs_on a bs w.good w.linked n.1 in let s = ap (along (direction a)) w.closed in omega (arith, ints, r, s))
  | inr b ↦ begun_at a bs b.before b.edge b.after b.is b.bend
]

pub walk_begun : (es w : List Edge) → AreGood es → IsWalk es w → IsBegun w
walk_begun es [] g h = absurd (h.some refl)
walk_begun es (a ∷ bs) g h = begun a bs (linked_walk es a bs g h)

-- ---- the contour covers what the walk does
pub contour_alike : (es w : List Edge) (cs : List Point) → AreGood es → IsWalk es w → IsContour w cs → AreAlike (edges_of cs) w
contour_alike es w cs g h c =
    let b = walk_begun es w g h in
    let v = b.first ∷ b.others in
    let r = round_trans cs (bends w) (bends v) (round_sym (bends w) cs c.round) (bends_round w v b.round) in
    alike_trans (edges_of cs) (edges_of (bends v)) w (edges_round cs (bends v) r)
    (alike_trans (edges_of (bends v)) v w (bent_alike b.first b.others (linked_walk es b.first b.others g (walk_round es w v b.round h)) b.bend)
    (alike_sym w v (walk_alike w v b.round)))
