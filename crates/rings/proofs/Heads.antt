-- The first corner of a loop is its least, and a hole comes to it with copper on its left; so no two holes have one first corner.
use Rattle.std.proofs.Common.{◌≡◌, refl, sym, subst, ap, ◌∙◌, ℕ, zero, suc, ◌<◌, ◌≤◌, ◌+◌, ◌-◌, ◌%◌, ◌⊎◌, inl, inr, arith, List, [], ◌∷◌, ◌++◌, Bool, true, false}
use Rattle.std.specs.Prelude.{map, Contains}
use Rattle.std.specs.List.{filter}
use Rattle.std.proofs.lemmas.Int.{ints}
use Rattle.grid_num.specs.declared.Point.{Point}
use Rattle.plane.specs.Covering.{Edge}
use Rattle.rings.specs.Turning.{direction, turn_to, IsNextEdge}
use Rattle.rings.specs.Walks.{Visit, visits, visits_after, last_of, IsWalk, visit_corner, is_bend, bends, IsLess, IsListLess, IsContour}
use Rattle.rings.specs.Loops.{IsOpenLeft, IsHole}
use Rattle.rings.proofs.Lists.{Has, has_of, has_head, has_split, has_round, all_at, round_sym}
use Rattle.rings.proofs.Order.{less_cases}
use Rattle.rings.proofs.Lines.{line, along, GoesOn, direction_low}
use Rattle.rings.proofs.Turning.{AreApart}
use Rattle.rings.proofs.Parted.{AreGood}
use Rattle.rings.proofs.Bends.{not_bend}

-- ---- each edge of a walk comes to a corner and goes from one
goes_in : (p : Edge) (xs : List Edge) (e : Edge) → Has xs e → (u : Visit) × Has (visits_after p xs) u × (u.goes ≡ e)
unfolding visits_after Has
goes_in p [] e h = absurd h
goes_in p (x ∷ xs) e (inl k) = (record { comes = p; goes = x }, inl refl, k)
goes_in p (x ∷ xs) e (inr h) = let r = goes_in x xs e h in (r.0, inr r.1, r.2)

comes_in : (p : Edge) (xs : List Edge) (e : Edge) → Has (p ∷ xs) e → (last_of p xs ≡ e) ⊎ ((u : Visit) × Has (visits_after p xs) u × (u.comes ≡ e))
unfolding visits_after last_of Has
comes_in p [] e (inl k) = inl k
comes_in p [] e (inr h) = absurd h
comes_in p (x ∷ xs) e (inl k) = inr (record { comes = p; goes = x }, inl refl, k)
comes_in p (x ∷ xs) e (inr h) = elim (comes_in x xs e h) [ inl k ↦ inl k | inr r ↦ inr (r.0, inr r.1, r.2) ]

pub visit_goes : (w : List Edge) (e : Edge) → Has w e → (u : Visit) × Has (visits w) u × (u.goes ≡ e)
unfolding visits Has
visit_goes [] e h = absurd h
visit_goes (a ∷ bs) e h = goes_in (last_of a bs) (a ∷ bs) e h

visit_comes : (w : List Edge) (e : Edge) → Has w e → (u : Visit) × Has (visits w) u × (u.comes ≡ e)
unfolding visits visits_after Has
visit_comes [] e h = absurd h
visit_comes (a ∷ bs) e h = elim (comes_in a bs e h) [
  | inl k ↦ (record { comes = last_of a bs; goes = a }, inl refl, k)
  | inr r ↦ (r.0, inr r.1, r.2)
]

after_goes : (p : Edge) (xs : List Edge) (u : Visit) → Has (visits_after p xs) u → Has xs u.goes
unfolding visits_after Has
after_goes p [] u h = h
after_goes p (x ∷ xs) u (inl k) = inl (ap (λ v. v.goes) k)
after_goes p (x ∷ xs) u (inr h) = inr (after_goes x xs u h)

after_comes : (p : Edge) (xs : List Edge) (u : Visit) → Has (visits_after p xs) u → Has (p ∷ xs) u.comes
unfolding visits_after Has
after_comes p [] u h = absurd h
after_comes p (x ∷ xs) u (inl k) = inl (ap (λ v. v.comes) k)
after_comes p (x ∷ xs) u (inr h) = inr (after_comes x xs u h)

pub last_in : (a : Edge) (bs : List Edge) → Has (a ∷ bs) (last_of a bs)
unfolding last_of Has
last_in a [] = inl refl
last_in a (b ∷ bs) = inr (last_in b bs)

pub goes_has : (w : List Edge) (u : Visit) → Has (visits w) u → Has w u.goes
unfolding visits Has
goes_has [] u h = h
goes_has (a ∷ bs) u h = after_goes (last_of a bs) (a ∷ bs) u h

pub comes_has : (w : List Edge) (u : Visit) → Has (visits w) u → Has w u.comes
unfolding visits visits_after Has
comes_has [] u h = h
comes_has (a ∷ bs) u (inl k) = subst (Has (a ∷ bs)) (ap (λ v. v.comes) k) (last_in a bs)
comes_has (a ∷ bs) u (inr h) = after_comes a bs u h

-- ---- the least corner is a bend
ends_less : (d : ℕ) → d < 8 → (e f : Edge) → GoesOn d e → GoesOn d f → IsLess e.start e.finish ⊎ IsLess f.finish f.start
unfolding line along IsLess
ends_less zero h e f g k = let l = g.line in inl (inr (sym l, g.on))
ends_less (suc zero) h e f g k = let l = k.line in let o = k.on in inr (inl (omega (arith, ints, l, o)))
ends_less (suc (suc zero)) h e f g k = let o = k.on in inr (inl (omega (arith, ints, o)))
ends_less (suc (suc (suc zero))) h e f g k = let o = k.on in inr (inl (omega (arith, ints, o)))
ends_less (suc (suc (suc (suc zero)))) h e f g k = let o = k.on in inr (inr (k.line, omega (arith, ints, o)))
ends_less (suc (suc (suc (suc (suc zero))))) h e f g k = inl (inl g.on)
ends_less (suc (suc (suc (suc (suc (suc zero)))))) h e f g k = inl (inl g.on)
ends_less (suc (suc (suc (suc (suc (suc (suc zero))))))) h e f g k = inl (inl g.on)
ends_less (suc (suc (suc (suc (suc (suc (suc (suc d)))))))) h e f g k = absurd (omega (arith, h))

pub visit_next : (es w : List Edge) (u : Visit) → IsWalk es w → Has (visits w) u → IsNextEdge es u.comes u.goes
visit_next es w u i h = all_at (λ v. IsNextEdge es v.comes v.goes) (visits w) u i.next h

bool_cases : (b : Bool) → (b ≡ true) ⊎ (b ≡ false)
bool_cases true = inl refl
bool_cases false = inr refl

least_bend : (es w : List Edge) (u : Visit) → AreGood es → IsWalk es w → IsOpenLeft w u → is_bend u ≡ true
unfolding AreGood
least_bend es w u g i o = elim (bool_cases (is_bend u)) [
  | inl b ↦ b
  | inr b ↦ absurd (
      let h = has_of (visits w) u o.one in
      let n = visit_next es w u i h in
      let before = visit_goes w u.comes (comes_has w u h) in
      let later = visit_comes w u.goes (goes_has w u h) in
      let m = visit_next es w later.0 i later.1 in
      let d = not_bend u.comes u.goes b in
      let c = g u.comes (has_of es u.comes (subst (Contains es) before.2 (visit_next es w before.0 i before.1).one)) in
      let k = g u.goes (has_of es u.goes n.one) in
      elim (ends_less (direction u.comes) (direction_low u.comes) u.comes u.goes c (subst (λ e. GoesOn e u.goes) (sym d) k)) [
        | inl l ↦ all_at (λ t. IsLess (visit_corner t) (visit_corner u) → ⊥) (visits w) before.0 o.least before.1
            (subst (λ q. IsLess q (visit_corner u)) (sym (ap (λ e. e.start) before.2)) (subst (IsLess u.comes.start) (sym n.joins) l))
        | inr l ↦ all_at (λ t. IsLess (visit_corner t) (visit_corner u) → ⊥) (visits w) later.0 o.least later.1
            (subst (λ q. IsLess q (visit_corner u)) (sym (m.joins ∙ ap (λ e. e.finish) later.2)) l)
      ])
]

-- ---- the first corner
pub has_filtered : {X : Type 0} (p : X → Bool) (xs : List X) (x : X) → Has xs x → p x ≡ true → Has (filter p xs) x
unfolding Has
has_filtered p [] x h t = absurd h
has_filtered {X} p (y ∷ ys) x (inl e) t = subst (λ zs. Has zs x) (sym (kept (ap p e ∙ t))) (inl e)
  where
    kept : p y ≡ true → filter p (y ∷ ys) ≡ y ∷ filter p ys
    kept i = rw i refl
has_filtered {X} p (y ∷ ys) x (inr h) t = at (has_filtered p ys x h t) (p y) refl
  where
    at : Has (filter p ys) x → (b : Bool) → p y ≡ b → Has (filter p (y ∷ ys)) x
    at k true i = subst (λ zs. Has zs x) (sym (kept i)) (inr k)
      where
        kept : p y ≡ true → filter p (y ∷ ys) ≡ y ∷ filter p ys
        kept i = rw i refl
    at k false i = subst (λ zs. Has zs x) (sym (left i)) k
      where
        left : p y ≡ false → filter p (y ∷ ys) ≡ filter p ys
        left i = rw i refl

pub filtered_has : {X : Type 0} (p : X → Bool) (xs : List X) (x : X) → Has (filter p xs) x → Has xs x × (p x ≡ true)
unfolding Has
filtered_has p [] x h = absurd h
filtered_has {X} p (y ∷ ys) x h = at (λ k. filtered_has p ys x k) (p y) refl
  where
    at : (Has (filter p ys) x → Has ys x × (p x ≡ true)) → (b : Bool) → p y ≡ b → Has (y ∷ ys) x × (p x ≡ true)
    at f true i = elim (subst (λ zs. Has zs x) (kept i) h) [ inl e ↦ (inl e, ap p (sym e) ∙ i) | inr k ↦ (let r = f k in (inr r.0, r.1)) ]
      where
        kept : p y ≡ true → filter p (y ∷ ys) ≡ y ∷ filter p ys
        kept i = rw i refl
    at f false i = let r = f (subst (λ zs. Has zs x) (left i) h) in (inr r.0, r.1)
      where
        left : p y ≡ false → filter p (y ∷ ys) ≡ filter p ys
        left i = rw i refl

pub has_map : {X Y : Type 0} (f : X → Y) (xs : List X) (x : X) → Has xs x → Has (map f xs) (f x)
unfolding Has
has_map f [] x h = absurd h
has_map f (y ∷ ys) x (inl e) = inl (ap f e)
has_map f (y ∷ ys) x (inr h) = inr (has_map f ys x h)

pub map_has : {X Y : Type 0} (f : X → Y) (xs : List X) (y : Y) → Has (map f xs) y → (x : X) × Has xs x × (f x ≡ y)
unfolding Has
map_has f [] y h = absurd h
map_has f (x ∷ xs) y (inl e) = (x, inl refl, e)
map_has f (x ∷ xs) y (inr h) = let r = map_has f xs y h in (r.0, inr r.1, r.2)

-- a corner of the contour is one of the walk
pub contour_visit : (w : List Edge) (cs : List Point) (a : Point) → IsContour w cs → Has cs a → (u : Visit) × Has (visits w) u × (visit_corner u ≡ a)
unfolding bends
contour_visit w cs a c h =
    let r = map_has visit_corner (filter is_bend (visits w)) a (has_round cs (bends w) (round_sym (bends w) cs c.round) a h) in
    (r.0, (filtered_has is_bend (visits w) r.0 r.1).0, r.2)

bend_contour : (w : List Edge) (cs : List Point) (u : Visit) → IsContour w cs → Has (visits w) u → is_bend u ≡ true → Has cs (visit_corner u)
unfolding bends
bend_contour w cs u c h b = has_round (bends w) cs c.round (visit_corner u) (has_map visit_corner (filter is_bend (visits w)) u (has_filtered is_bend (visits w) u h b))

least_first : (w : List Edge) (h : Point) (cs : List Point) (a : Point) → IsContour w (h ∷ cs) → Has (h ∷ cs) a → IsLess a h → ⊥
unfolding IsListLess
least_first w h cs a c i l =
    let s = has_split (h ∷ cs) a i in
    c.least (a ∷ s.1 ++ s.0) (record { front = s.0; back = a ∷ s.1; was = s.2; is = refl }) (inl l)

-- the visit of a hole to its first corner
pub record IsHead (es w : List Edge) (h : Point) (u : Visit) : Type 0 where
  pub one : Has (visits w) u
  pub here : visit_corner u ≡ h
  pub next : IsNextEdge es u.comes u.goes
  pub passes : turn_to u.comes 4 < turn_to u.comes (direction u.goes)
  pub least : (t : Visit) → Has (visits w) t → IsLess (visit_corner t) h → ⊥

pub hole_head : (es w : List Edge) (h : Point) (cs : List Point) → AreGood es → IsWalk es w → IsContour w (h ∷ cs) → IsHole w → (u : Visit) × IsHead es w h u
unfolding IsHole
hole_head es w h cs g i c o =
    let u = o.0 in
    let k = o.1 in
    let one = has_of (visits w) u k.one in
    let b = bend_contour w (h ∷ cs) u c one (least_bend es w u g i k) in
    let v = contour_visit w (h ∷ cs) h c (has_head h cs) in
    let e : visit_corner u ≡ h = elim (less_cases (visit_corner u) h) [
      | inl l ↦ absurd (least_first w h cs (visit_corner u) c b l)
      | inr s ↦ elim s [
        | inl e ↦ e
        | inr l ↦ absurd (all_at (λ t. IsLess (visit_corner t) (visit_corner u) → ⊥) (visits w) v.0 k.least v.1 (subst (λ q. IsLess q (visit_corner u)) (sym v.2) l))
      ]
    ] in (
      u,
      record {
        one = one;
        here = e;
        next = visit_next es w u i one;
        passes = k.passes;
        least = λ t j l. all_at (λ t. IsLess (visit_corner t) (visit_corner u) → ⊥) (visits w) t k.least j (subst (IsLess (visit_corner t)) (sym e) l);
      },
    )

-- ---- two holes
same_turn : (a b d f : ℕ) → a < 8 → b < 8 → d < 8 → f < 8 → (d + 11 - a) % 8 ≤ (f + 11 - a) % 8 → (f + 11 - b) % 8 ≤ (d + 11 - b) % 8
    → (15 - a) % 8 < (d + 11 - a) % 8 → (15 - b) % 8 < (f + 11 - b) % 8 → d ≡ f
same_turn a b d f h1 h2 h3 h4 p q r s = omega (arith, h1, h2, h3, h4, p, q, r, s)

heads_one : (es w v : List Edge) (h : Point) (u t : Visit) → AreApart es → IsHead es w h u → IsHead es v h t → u.goes ≡ t.goes
unfolding AreApart turn_to
heads_one es w v h u t a k l =
    let n = k.next in
    let m = l.next in
    let e : u.comes.finish ≡ t.comes.finish = sym n.joins ∙ k.here ∙ sym l.here ∙ m.joins in
    let p = n.first t.goes m.one (m.joins ∙ sym e) in
    let q = m.first u.goes n.one (n.joins ∙ e) in
    let r = k.passes in
    let s = l.passes in
    a u.goes t.goes (has_of es u.goes n.one) (has_of es t.goes m.one) (k.here ∙ sym l.here)
    (same_turn (direction u.comes) (direction t.comes) (direction u.goes) (direction t.goes) (direction_low u.comes) (direction_low t.comes) (direction_low u.goes) (direction_low t.goes)
    (omega (arith, p)) (omega (arith, q)) (omega (arith, r)) (omega (arith, s)))

pub heads_apart : (es w v : List Edge) (h : Point) (cs bs : List Point) → AreGood es → AreApart es → IsWalk es w → IsWalk es v → IsContour w (h ∷ cs) → IsContour v (h ∷ bs)
    → IsHole w → IsHole v → ((e : Edge) → Has w e → Has v e → ⊥) → ⊥
heads_apart es w v h cs bs g a i j c d o p f =
    let u = hole_head es w h cs g i c o in
    let t = hole_head es v h bs g j d p in
    f u.0.goes (goes_has w u.0 (u.1).one) (subst (Has v) (sym (heads_one es w v h u.0 t.0 a u.1 t.1)) (goes_has v t.0 (t.1).one))
