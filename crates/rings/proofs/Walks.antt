-- A walk may be begun at any of its edges; and a walk that begins with an edge is one alone, where each edge has one next.
use Rattle.std.proofs.Common.{◌≡◌, refl, sym, subst, ap, ◌∙◌, inl, inr, arith, List, [], ◌∷◌, ◌++◌, Bool, length}
use Rattle.std.specs.Prelude.{map}
use Rattle.std.specs.List.{All, filter}
use Rattle.std.proofs.lemmas.List.{map-append}
use Rattle.std.proofs.lemmas.List.Elements.{filter-append, All-head, All-tail}
use Rattle.plane.specs.Covering.{Edge}
use Rattle.rings.specs.Turning.{IsNextEdge}
use Rattle.rings.specs.Walks.{Visit, visits, visits_after, last_of, IsWalk, visit_corner, is_bend, bends, IsSameRound, IsLess}
use Rattle.rings.specs.Loops.{IsHole}
use Rattle.rings.proofs.Lists.{Has, has_of, of_has, NoRepeats, all_at, all_of, round_keeps, round_refl, round_sym, round_step, round_trans, has_round}

-- ---- begun at the next edge
after_more : (p : Edge) (xs : List Edge) (a : Edge) → visits_after p (xs ++ a ∷ []) ≡ visits_after p xs ++ record { comes = last_of p xs; goes = a } ∷ []
unfolding visits_after last_of
after_more p [] a = refl
after_more p (x ∷ xs) a = ap (λ vs. record { comes = p; goes = x } ∷ vs) (after_more x xs a)

last_more : (p : Edge) (xs : List Edge) (a : Edge) → last_of p (xs ++ a ∷ []) ≡ a
unfolding last_of
last_more p [] a = refl
last_more p (x ∷ xs) a = last_more x xs a

unfoldable pub first_visit : Edge → List Edge → Visit
first_visit a xs = record { comes = last_of a xs; goes = a }

pub visits_head : (a : Edge) (xs : List Edge) → visits (a ∷ xs) ≡ first_visit a xs ∷ visits_after a xs
unfolding visits visits_after first_visit
visits_head a xs = refl

visits_step : (a : Edge) (xs : List Edge) → visits (xs ++ a ∷ []) ≡ visits_after a xs ++ first_visit a xs ∷ []
unfolding visits first_visit visits_after last_of
visits_step a [] = refl
visits_step a (b ∷ bs) =
    ap (λ z. visits_after z (b ∷ bs ++ a ∷ [])) (last_more b bs a) ∙ ap (λ vs. record { comes = a; goes = b } ∷ vs) (after_more b bs a)

visits_turned : (a : Edge) (xs : List Edge) → IsSameRound (visits (a ∷ xs)) (visits (xs ++ a ∷ []))
visits_turned a xs =
    subst (λ vs. IsSameRound vs (visits (xs ++ a ∷ []))) (sym (visits_head a xs))
    (subst (IsSameRound (first_visit a xs ∷ visits_after a xs)) (sym (visits_step a xs)) (round_step (first_visit a xs) (visits_after a xs)))

pub visits_round : (w v : List Edge) → IsSameRound w v → IsSameRound (visits w) (visits v)
visits_round w v r =
    round_keeps (λ u. IsSameRound (visits w) (visits u)) (λ a xs h. round_trans (visits w) (visits (a ∷ xs)) (visits (xs ++ a ∷ [])) h (visits_turned a xs)) w v r
    (round_refl (visits w))

-- ---- what stays
round_mapped : {X Y : Type 0} (f : X → Y) (xs ys : List X) → IsSameRound xs ys → IsSameRound (map f xs) (map f ys)
round_mapped f xs ys r = record {
  front = map f r.front;
  back = map f r.back;
  was = ap (map f) r.was ∙ map-append f r.front r.back;
  is = ap (map f) r.is ∙ map-append f r.back r.front;
}

round_filtered : {X : Type 0} (p : X → Bool) (xs ys : List X) → IsSameRound xs ys → IsSameRound (filter p xs) (filter p ys)
round_filtered p xs ys r = record {
  front = filter p r.front;
  back = filter p r.back;
  was = ap (filter p) r.was ∙ filter-append p r.front r.back;
  is = ap (filter p) r.is ∙ filter-append p r.back r.front;
}

pub bends_round : (w v : List Edge) → IsSameRound w v → IsSameRound (bends w) (bends v)
unfolding bends
bends_round w v r = round_mapped visit_corner (filter is_bend (visits w)) (filter is_bend (visits v)) (round_filtered is_bend (visits w) (visits v) (visits_round w v r))

all_round : {X : Type 0} (P : X → Type 0) (xs ys : List X) → IsSameRound xs ys → All P xs → All P ys
all_round P xs ys r a = all_of P ys (λ y h. all_at P xs y a (has_round ys xs (round_sym xs ys r) y h))

none_round : {X : Type 0} (xs ys : List X) → IsSameRound xs ys → (xs ≡ [] → ⊥) → ys ≡ [] → ⊥
none_round {X} xs ys r f e = f (r.was ∙ by r.front r.back (sym r.is ∙ e))
  where
    by : (front back : List X) → back ++ front ≡ [] → front ++ back ≡ []
    by [] [] e = refl
    by (a ∷ front) [] e = absurd (let l = ap length e in omega (arith, l))
    by front (b ∷ back) e = absurd (let l = ap length e in omega (arith, l))

pub walk_round : (es w v : List Edge) → IsSameRound w v → IsWalk es w → IsWalk es v
walk_round es w v r h =
    record { some = none_round w v r h.some; next = all_round (λ u. IsNextEdge es u.comes u.goes) (visits w) (visits v) (visits_round w v r) h.next }

pub hole_round : (w v : List Edge) → IsSameRound w v → IsHole w → IsHole v
unfolding IsHole
hole_round w v r (u, h) =
    let s = visits_round w v r in (
      u,
      record {
        one = of_has (visits v) u (has_round (visits w) (visits v) s u (has_of (visits w) u h.one));
        least = all_round (λ t. IsLess (visit_corner t) (visit_corner u) → ⊥) (visits w) (visits v) s h.least;
        passes = h.passes;
      },
    )

-- ---- each edge has one next
unfoldable pub HasOneNext : List Edge → Type 0
HasOneNext es = (e f g : Edge) → IsNextEdge es e f → IsNextEdge es e g → f ≡ g

-- each is followed by its next, and the last by z
unfoldable pub LeadsTo : List Edge → Edge → Edge → List Edge → Type 0
LeadsTo es z a [] = IsNextEdge es a z
LeadsTo es z a (b ∷ bs) = IsNextEdge es a b × LeadsTo es z b bs

leads_from : (es : List Edge) (z a : Edge) (bs : List Edge) → All (λ u. IsNextEdge es u.comes u.goes) (visits_after a bs) → IsNextEdge es (last_of a bs) z → LeadsTo es z a bs
unfolding LeadsTo visits_after last_of
leads_from es z a [] h n = n
leads_from es z a (b ∷ bs) h n = (
  All-head (λ u. IsNextEdge es u.comes u.goes) (record { comes = a; goes = b }) (visits_after b bs) h,
  leads_from es z b bs (All-tail (λ u. IsNextEdge es u.comes u.goes) (record { comes = a; goes = b }) (visits_after b bs) h) n,
)

leads_of : (es : List Edge) (a : Edge) (bs : List Edge) → IsWalk es (a ∷ bs) → LeadsTo es a a bs
unfolding first_visit
leads_of es a bs w =
    let n = subst (All (λ u. IsNextEdge es u.comes u.goes)) (visits_head a bs) w.next in
    leads_from es a a bs (All-tail (λ u. IsNextEdge es u.comes u.goes) (first_visit a bs) (visits_after a bs) n)
    (All-head (λ u. IsNextEdge es u.comes u.goes) (first_visit a bs) (visits_after a bs) n)

leads_same : (es : List Edge) → HasOneNext es → (z a : Edge) (bs cs : List Edge) → LeadsTo es z a bs → LeadsTo es z a cs → (Has bs z → ⊥) → (Has cs z → ⊥) → bs ≡ cs
unfolding LeadsTo Has HasOneNext
leads_same es o z a [] [] p q f g = refl
leads_same es o z a [] (c ∷ cs) p q f g = absurd (g (inl (o a c z q.0 p)))
leads_same es o z a (b ∷ bs) [] p q f g = absurd (f (inl (o a b z p.0 q)))
leads_same es o z a (b ∷ bs) (c ∷ cs) p q f g =
    let e = o a b c p.0 q.0 in
    ap (λ d. d ∷ bs) e ∙ ap (λ ds. c ∷ ds) (leads_same es o z c bs cs (subst (λ d. LeadsTo es z d bs) e p.1) q.1 (λ h. f (inr h)) (λ h. g (inr h)))

-- two walks without repeats that begin with the same edge are the same
pub walk_same : (es : List Edge) → HasOneNext es → (a : Edge) (bs cs : List Edge) → IsWalk es (a ∷ bs) → IsWalk es (a ∷ cs) → NoRepeats (a ∷ bs) → NoRepeats (a ∷ cs) → bs ≡ cs
unfolding NoRepeats
walk_same es o a bs cs p q n m = leads_same es o a a bs cs (leads_of es a bs p) (leads_of es a cs q) n.0 m.0
