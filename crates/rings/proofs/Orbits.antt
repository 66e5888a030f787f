-- Edges of which each has a next one, and no two the same, fall into walks.
use Rattle.std.proofs.Common.{◌≡◌, refl, sym, subst, ap, ℕ, zero, suc, ◌≤◌, ◌⊎◌, inl, inr, arith, List, [], ◌∷◌, ◌++◌, length}
use Rattle.std.specs.List.{All}
use Rattle.std.specs.List.Sorted.{IsPermutation}
use Rattle.std.proofs.lemmas.List.{append_assoc, length-append}
use Rattle.std.proofs.lemmas.List.Elements.{All-cons, All-nil}
use Rattle.std.proofs.lemmas.List.Sorted.{IsPermutation-refl, IsPermutation-cons, IsPermutation-trans, IsPermutation-sym, IsPermutation-insert, IsPermutation-append_right, length_permutation}
use Rattle.plane.specs.Covering.{Edge}
use Rattle.rings.specs.Turning.{IsNextEdge}
use Rattle.rings.specs.Walks.{visits_after, last_of, IsWalk, joined_walks}
use Rattle.rings.proofs.Lists.{Has, has_head, has_of, has_left, has_right, has_parts, has_split, has_permuted, NoRepeats, no_repeats_left, no_repeats_right, no_repeats_apart, no_repeats_permuted}
use Rattle.rings.proofs.Unique.{edge_test, same_edge}
use Rattle.rings.proofs.Walks.{LeadsTo, first_visit, visits_head}
use Rattle.rings.proofs.Heads.{last_in}
use Rattle.rings.proofs.Near.{OneToOne}

pub middle : {X : Type 0} (z : X) (us vs : List X) → IsPermutation (z ∷ (us ++ vs)) (us ++ z ∷ vs)
middle z [] vs = IsPermutation-refl (z ∷ vs)
middle z (u ∷ us) vs =
    IsPermutation-trans (z ∷ u ∷ (us ++ vs)) (u ∷ z ∷ (us ++ vs)) (u ∷ (us ++ z ∷ vs)) (IsPermutation-insert (u ∷ (us ++ vs)) 1 z)
    (IsPermutation-cons u (z ∷ (us ++ vs)) (us ++ z ∷ vs) (middle z us vs))

-- ---- chains of next edges
leads_more : (es : List Edge) (z y a : Edge) (bs : List Edge) → LeadsTo es z a bs → IsNextEdge es z y → LeadsTo es y a (bs ++ z ∷ [])
unfolding LeadsTo
leads_more es z y a [] p n = (p, n)
leads_more es z y a (b ∷ bs) p n = (p.0, leads_more es z y b bs p.1 n)

leads_last : (es : List Edge) (z a : Edge) (bs : List Edge) → LeadsTo es z a bs → IsNextEdge es (last_of a bs) z
unfolding LeadsTo last_of
leads_last es z a [] p = p
leads_last es z a (b ∷ bs) p = leads_last es z b bs p.1

leads_part : (es : List Edge) (z a b : Edge) (us vs : List Edge) → LeadsTo es z a (us ++ b ∷ vs) → LeadsTo es b a us × LeadsTo es z b vs
unfolding LeadsTo
leads_part es z a b [] vs p = p
leads_part es z a b (u ∷ us) vs p = let r = leads_part es z u b us vs p.1 in ((p.0, r.0), r.1)

pub last_part : (a b : Edge) (us vs : List Edge) → last_of a (us ++ b ∷ vs) ≡ last_of b vs
unfolding last_of
last_part a b [] vs = refl
last_part a b (u ∷ us) vs = last_part u b us vs

-- each edge of the chain but the first is the next one of an edge of it
before_in : (es : List Edge) (z a : Edge) (bs : List Edge) (f : Edge) → LeadsTo es z a bs → Has bs f → (p : Edge) × Has (a ∷ bs) p × IsNextEdge es p f
unfolding LeadsTo Has
before_in es z a [] f p h = absurd h
before_in es z a (b ∷ bs) f p (inl k) = (a, inl refl, subst (IsNextEdge es a) k p.0)
before_in es z a (b ∷ bs) f p (inr h) = let r = before_in es z b bs f p.1 h in (r.0, inr r.1, r.2)

-- one never comes back into the middle of the chain
not_middle : (es : List Edge) (z a : Edge) (bs : List Edge) → OneToOne es → ((e : Edge) → Has (a ∷ bs) e → Has es e) → NoRepeats (a ∷ bs) → LeadsTo es z a bs → Has bs z → ⊥
unfolding OneToOne
not_middle es z a bs o i n p h =
    let s = has_split bs z h in
    let q = leads_part es z a z s.0 s.1 (subst (LeadsTo es z a) s.2 p) in
    let u = leads_last es z a s.0 q.0 in
    let v = leads_last es z z s.1 q.1 in
    let whole = ap (λ xs. a ∷ xs) s.2 in
    let x = last_in a s.0 in
    let y = last_in z s.1 in
    let m : NoRepeats ((a ∷ s.0) ++ z ∷ s.1) = subst NoRepeats whole n in
    let e = o (last_of a s.0) (last_of z s.1) z
    (i (last_of a s.0) (subst (λ zs. Has zs (last_of a s.0)) (sym whole) (has_left (a ∷ s.0) (z ∷ s.1) (last_of a s.0) x)))
    (i (last_of z s.1) (subst (λ zs. Has zs (last_of z s.1)) (sym whole) (has_right (a ∷ s.0) (z ∷ s.1) (last_of z s.1) y))) u v in
    no_repeats_apart (a ∷ s.0) (z ∷ s.1) (last_of a s.0) m x (subst (Has (z ∷ s.1)) (sym e) y)

-- ---- one orbit
unfoldable pub IsClosed : List Edge → List Edge → Type 0
IsClosed es xs = (e : Edge) → Has xs e → (f : Edge) × IsNextEdge es e f × Has xs f

-- edges of es, none twice, and with each its next one
pub record IsPool (es all : List Edge) : Type 0 where
  pub closed : IsClosed es all
  pub inside : (e : Edge) → Has all e → Has es e
  pub once : NoRepeats all

pub record IsOrbit (es all : List Edge) (a : Edge) : Type 0 where
  pub others : List Edge
  pub rest : List Edge
  pub leads : LeadsTo es a a others
  pub perm : IsPermutation (a ∷ others ++ rest) all

taken : (a z : Edge) (bs us vs all : List Edge) → IsPermutation (a ∷ bs ++ (us ++ z ∷ vs)) all → IsPermutation (a ∷ (bs ++ z ∷ []) ++ (us ++ vs)) all
taken a z bs us vs all p =
    IsPermutation-trans (a ∷ (bs ++ z ∷ []) ++ (us ++ vs)) (a ∷ bs ++ (us ++ z ∷ vs)) all
    (subst (λ zs. IsPermutation (a ∷ zs) (a ∷ bs ++ (us ++ z ∷ vs))) (sym (append_assoc bs (z ∷ []) (us ++ vs)))
    (IsPermutation-append_right (a ∷ bs) (z ∷ (us ++ vs)) (us ++ z ∷ vs) (middle z us vs)))
    p

-- the next edge is the first one, or one that isn't in the chain yet
orbit_step : (es all : List Edge) (a z : Edge) (bs rest : List Edge) → OneToOne es → IsPool es all → LeadsTo es z a bs → IsPermutation (a ∷ bs ++ rest) all → Has all z
    → IsOrbit es all a ⊎ ((us : List Edge) × (vs : List Edge) × (y : Edge) × (rest ≡ us ++ z ∷ vs) × LeadsTo es y a (bs ++ z ∷ []) × IsPermutation (a ∷ (bs ++ z ∷ []) ++ (us ++ vs)) all × Has all y)
unfolding Has IsClosed
orbit_step es all a z bs rest o p l m h = at (has_parts (a ∷ bs) rest z (has_permuted all (a ∷ bs ++ rest) z (IsPermutation-sym (a ∷ bs ++ rest) all m) h))
  where
    whole : NoRepeats (a ∷ bs ++ rest)
    whole = no_repeats_permuted same_edge edge_test all (a ∷ bs ++ rest) (IsPermutation-sym (a ∷ bs ++ rest) all m) p.once

    at : Has (a ∷ bs) z ⊎ Has rest z
        → IsOrbit es all a ⊎ ((us : List Edge) × (vs : List Edge) × (y : Edge) × (rest ≡ us ++ z ∷ vs) × LeadsTo es y a (bs ++ z ∷ []) × IsPermutation (a ∷ (bs ++ z ∷ []) ++ (us ++ vs)) all × Has all y)
    at (inl (inl e)) = inl (record { others = bs; rest = rest; leads = subst (λ y. LeadsTo es y a bs) (sym e) l; perm = m })
    at (inl (inr i)) = absurd (not_middle es z a bs o (λ e j. p.inside e (has_permuted (a ∷ bs ++ rest) all e m (has_left (a ∷ bs) rest e j))) (no_repeats_left (a ∷ bs) rest whole) l i)
    at (inr i) =
        let c = has_split rest z i in
        let n = p.closed z h in
        inr (c.0, c.1, n.0, c.2, leads_more es z n.0 a bs l n.1, taken a z bs c.0 c.1 all (subst (λ zs. IsPermutation (a ∷ bs ++ zs) all) c.2 m), n.2)

pub orbit_from : (fuel : ℕ) (es all : List Edge) (a z : Edge) (bs rest : List Edge) → OneToOne es → IsPool es all → LeadsTo es z a bs → IsPermutation (a ∷ bs ++ rest) all → Has all z → length rest ≤ fuel
    → IsOrbit es all a
orbit_from zero es all a z bs rest o p l m h s = elim (orbit_step es all a z bs rest o p l m h) [
  | inl r ↦ r
  | inr r ↦ absurd (let q = ap length r.3 in let t = length-append r.0 (z ∷ r.1) in omega (arith, q, t, s))
]
orbit_from (suc k) es all a z bs rest o p l m h s = elim (orbit_step es all a z bs rest o p l m h) [
  | inl r ↦ r
  | inr r ↦ orbit_from k es all a r.2 (bs ++ z ∷ []) (r.0 ++ r.1) o p r.4 r.5 r.6
      (let q = ap length r.3 in let t = length-append r.0 (z ∷ r.1) in let u = length-append r.0 r.1 in omega (arith, q, t, u, s))
]

-- ---- all orbits
visits_from : (es : List Edge) (z a : Edge) (bs : List Edge) → LeadsTo es z a bs → All (λ u. IsNextEdge es u.comes u.goes) (visits_after a bs)
unfolding LeadsTo visits_after
visits_from es z a [] p = All-nil (λ u. IsNextEdge es u.comes u.goes)
visits_from es z a (b ∷ bs) p = All-cons (λ u. IsNextEdge es u.comes u.goes) (record { comes = a; goes = b }) (visits_after b bs) p.0 (visits_from es z b bs p.1)

pub orbit_walk : (es : List Edge) (a : Edge) (bs : List Edge) → LeadsTo es a a bs → IsWalk es (a ∷ bs)
unfolding first_visit
orbit_walk es a bs p = record {
  some = λ e. (let l = ap length e in omega (arith, l));
  next = subst (All (λ u. IsNextEdge es u.comes u.goes)) (sym (visits_head a bs)) (All-cons (λ u. IsNextEdge es u.comes u.goes) (first_visit a bs) (visits_after a bs) (leads_last es a a bs p) (visits_from es a a bs p));
}

-- each edge of an orbit is the next one of an edge of it
orbit_before : (es : List Edge) (a : Edge) (bs : List Edge) (f : Edge) → LeadsTo es a a bs → Has (a ∷ bs) f → (p : Edge) × Has (a ∷ bs) p × IsNextEdge es p f
unfolding Has
orbit_before es a bs f l (inl e) = (last_of a bs, last_in a bs, subst (IsNextEdge es (last_of a bs)) e (leads_last es a a bs l))
orbit_before es a bs f l (inr h) = before_in es a a bs f l h

pub pool_rest : (es all : List Edge) (a : Edge) → OneToOne es → IsPool es all → (r : IsOrbit es all a) → IsPool es r.rest
unfolding IsClosed OneToOne
pool_rest es all a o p r =
    let cs = a ∷ r.others in
    let n = no_repeats_permuted same_edge edge_test all (cs ++ r.rest) (IsPermutation-sym (cs ++ r.rest) all r.perm) p.once in
    let up : (e : Edge) → Has r.rest e → Has all e = λ e h. has_permuted (cs ++ r.rest) all e r.perm (has_right cs r.rest e h) in
    record {
      closed = λ e h. (
          let f = p.closed e (up e h) in
          elim (has_parts cs r.rest f.0 (has_permuted all (cs ++ r.rest) f.0 (IsPermutation-sym (cs ++ r.rest) all r.perm) f.2)) [
            | inl i ↦ absurd (
                let b = orbit_before es a r.others f.0 r.leads i in
                let k = o e b.0 f.0 (p.inside e (up e h)) (p.inside b.0 (has_permuted (cs ++ r.rest) all b.0 r.perm (has_left cs r.rest b.0 b.1))) f.1 b.2 in
                no_repeats_apart cs r.rest b.0 n b.1 (subst (Has r.rest) k h))
            | inr i ↦ (f.0, f.1, i)
          ]);
      inside = λ e h. p.inside e (up e h);
      once = no_repeats_right cs r.rest n;
    }

-- the walks of a pool
pub record IsWalked (es all : List Edge) : Type 0 where
  pub walks : List (List Edge)
  pub perm : IsPermutation (joined_walks walks) all
  pub are : (w : List Edge) → Has walks w → IsWalk es w

pub first_next : (es : List Edge) (a : Edge) (as' : List Edge) → IsPool es (a ∷ as') → (z : Edge) × LeadsTo es z a [] × Has (a ∷ as') z
unfolding IsClosed LeadsTo
first_next es a as' p = let n = p.closed a (has_head a as') in (n.0, n.1, n.2)

walked : (fuel : ℕ) (es all : List Edge) → OneToOne es → IsPool es all → length all ≤ fuel → IsWalked es all
unfolding Has
walked fuel es [] o p s = record { walks = []; perm = IsPermutation-refl []; are = λ w h. absurd h }
walked zero es (a ∷ as') o p s = absurd (omega (arith, s))
walked (suc k) es (a ∷ as') o p s =
    let n = first_next es a as' p in
    let r = orbit_from (length as') es (a ∷ as') a n.0 [] as' o p n.1 (IsPermutation-refl (a ∷ as')) n.2 (omega arith) in
    let u = length_permutation (a ∷ r.others ++ r.rest) (a ∷ as') r.perm in
    let t = length-append r.others r.rest in
    let m = walked k es r.rest o (pool_rest es (a ∷ as') a o p r) (omega (arith, u, t, s)) in
    record {
      walks = (a ∷ r.others) ∷ m.walks;
      perm = IsPermutation-trans ((a ∷ r.others) ++ joined_walks m.walks) ((a ∷ r.others) ++ r.rest) (a ∷ as') (IsPermutation-append_right (a ∷ r.others) (joined_walks m.walks) r.rest m.perm) r.perm;
      are = λ w h. elim h [ inl e ↦ subst (IsWalk es) e (orbit_walk es a r.others r.leads) | inr h ↦ m.are w h ];
    }

-- all edges fall into walks
pub orbits : (es : List Edge) → NoRepeats es → ((e : Edge) → Has es e → (f : Edge) × IsNextEdge es e f) → OneToOne es → IsWalked es es
unfolding IsClosed
orbits es n f o = walked (length es) es es o (record { closed = λ e h. (let r = f e h in (r.0, r.1, has_of es r.0 (r.1).one)); inside = λ e h. h; once = n }) (omega arith)
