-- Around a corner edges that come in and edges that go out alternate; so each edge has a next one, and no two have the same.
use Rattle.std.proofs.Common.{◌≡◌, refl, sym, subst, ap, ◌∙◌, ℕ, zero, suc, ◌<◌, ◌≤◌, ◌+◌, ◌-◌, ◌%◌, ◌⊎◌, inl, inr, arith, List}
use Rattle.std.proofs.lemmas.Int.{ints, by_lt_z}
use Rattle.std.proofs.lemmas.Bool.{cases_order}
use Rattle.grid_num.specs.declared.Point.{Point}
use Rattle.plane.specs.Covering.{Edge}
use Rattle.strips.specs.declared.Strip.{Strip}
use Rattle.rings.specs.Turning.{direction, turn_to, IsNextEdge}
use Rattle.rings.specs.Boundary.{left_edge, right_edge, side_edges, IsCorner, IsLevelPart, AreBoundary}
use Rattle.rings.proofs.Lists.{Has, has_of, of_has}
use Rattle.rings.proofs.Lines.{line, along, GoesOn, direction_low}
use Rattle.rings.proofs.Parted.{IsAlong, AreGood, AreParted, starts_on}
use Rattle.rings.proofs.Walks.{HasOneNext}
use Rattle.rings.proofs.Slits.{has_any}
use Rattle.rings.proofs.Sides.{AreOrdered}
use Rattle.rings.proofs.Boundary.{Left, Right, IsBound, Side, Level, is_bound, bound_has, left_has, right_has}
use Rattle.rings.proofs.Sectors.{HasCopper, copper_cases}
use Rattle.rings.proofs.Around.{in_copper, in_none, out_none, out_there}
use Rattle.rings.proofs.Rings.{AreTidy, tidy_next}

-- f goes out where e ends, and turning from the way back to it one meets no edge before, that goes out or comes in
pub record IsNear (es : List Edge) (e f : Edge) : Type 0 where
  pub one : Has es f
  pub joins : f.start ≡ e.finish
  pub out : (g : Edge) → Has es g → g.start ≡ e.finish → turn_to e (direction f) ≤ turn_to e (direction g)
  pub back : (g : Edge) → Has es g → g.finish ≡ e.finish → turn_to e (direction f) ≤ turn_to e ((direction g + 4) % 8)

unfoldable pub Alternate : List Edge → Type 0
Alternate es = (e : Edge) → Has es e → (f : Edge) × IsNear es e f

pub near_next : (es : List Edge) (e f : Edge) → IsNear es e f → IsNextEdge es e f
near_next es e f n = record { one = of_has es f n.one; joins = n.joins; first = λ g c j. n.out g (has_of es g c) j }

-- ---- no two edges have the same next one
ends_apart : (es : List Edge) (e f : Edge) → AreTidy es → Has es e → Has es f → e.finish ≡ f.finish → direction e ≡ direction f → e ≡ f
unfolding AreGood AreParted
ends_apart es e f t h i k d =
    let g = t.good e h in
    let j = subst (λ c. GoesOn c f) (sym d) (t.good f i) in
    let ef = ap (along (direction e)) k in
    let lf = ap (line (direction e)) k in
    let gl = g.line in let jl = j.line in let go = g.on in let jo = j.on in
    by_lt_z {P = e ≡ f} (along (direction e) e.start) (along (direction e) f.start)
    (λ l. t.parted e f f.start h i d (record { line = sym jl ∙ sym lf ∙ gl; from = omega (arith, ints, l); to = omega (arith, ints, ef, jo) }) (starts_on f (t.good f i)))
    (λ l. t.parted e f e.start h i d (starts_on e g)
    (subst (λ c. IsAlong c f e.start) d (record { line = sym gl ∙ lf ∙ jl; from = omega (arith, ints, l); to = omega (arith, ints, ef, go) })))

same_way : (a b d : ℕ) → a < 8 → b < 8 → d < 8 → (d + 11 - a) % 8 ≤ ((b + 4) % 8 + 11 - a) % 8 → (d + 11 - b) % 8 ≤ ((a + 4) % 8 + 11 - b) % 8 → a ≡ b
same_way a b d h1 h2 h3 p q = omega (arith, h1, h2, h3, p, q)

unfoldable pub OneToOne : List Edge → Type 0
OneToOne es = (e g f : Edge) → Has es e → Has es g → IsNextEdge es e f → IsNextEdge es g f → e ≡ g

pub one_to_one : (es : List Edge) → AreTidy es → Alternate es → OneToOne es
unfolding Alternate OneToOne HasOneNext turn_to
one_to_one es t a e g f h i n m =
    let x = a e h in
    let y = a g i in
    let o = tidy_next es t in
    let p : x.0 ≡ f = o e x.0 f (near_next es e x.0 x.1) n in
    let q : y.0 ≡ f = o g y.0 f (near_next es g y.0 y.1) m in
    let k = sym m.joins ∙ n.joins in
    let u = (x.1).back g i k in
    let v = (y.1).back e h (sym k) in
    let dp = ap direction p in
    let dq = ap direction q in
    let u2 = subst (λ c. (c + 11 - direction e) % 8 + 1 ≤ ((direction g + 4) % 8 + 11 - direction e) % 8 + 1) dp u in
    let v2 = subst (λ c. (c + 11 - direction g) % 8 + 1 ≤ ((direction e + 4) % 8 + 11 - direction g) % 8 + 1) dq v in
    ends_apart es e g t h i (sym k)
    (same_way (direction e) (direction g) (direction f) (direction_low e) (direction_low g) (direction_low f) (omega (arith, u2)) (omega (arith, v2)))

-- ---- the boundary edges
pub corner_of : (ss : List Strip) (e : Edge) → IsBound ss e → IsCorner ss e.finish
unfolding IsCorner IsLevelPart
corner_of ss e (Side (Left s h k)) = has_any (λ f. (e.finish ≡ f.start) ⊎ (e.finish ≡ f.finish)) (side_edges ss) (left_edge s) (left_has ss s h) (inr (ap (λ z. z.finish) k))
corner_of ss e (Side (Right s h k)) = has_any (λ f. (e.finish ≡ f.start) ⊎ (e.finish ≡ f.finish)) (side_edges ss) (right_edge s) (right_has ss s h) (inr (ap (λ z. z.finish) k))
corner_of ss e (Level (inl (n, g))) = n.second
corner_of ss e (Level (inr (n, g))) = n.first

-- copper from the direction r on over k sectors, and then none
record IsSpan (ss : List Strip) (v : Point) (r k : ℕ) : Type 0 where
  low : 1 ≤ k
  high : k ≤ 7
  copper : (j : ℕ) → j < k → HasCopper ss v ((r + j) % 8)
  none : HasCopper ss v ((r + k) % 8) → ⊥

span_from : (ss : List Strip) (v : Point) (r : ℕ) (left k : ℕ) → left + k ≡ 7 → 1 ≤ k → ((j : ℕ) → j < k → HasCopper ss v ((r + j) % 8)) → (HasCopper ss v ((r + 7) % 8) → ⊥) → (m : ℕ) × IsSpan ss v r m
span_from ss v r zero k e l c n = (k, record { low = l; high = omega (arith, e); copper = c; none = λ h. (let q : k ≡ 7 = omega (arith, e) in n (subst (λ z. HasCopper ss v ((r + z) % 8)) q h)) })
span_from ss v r (suc left) k e l c n = elim (copper_cases ss v ((r + k) % 8)) [
  | inr f ↦ (k, record { low = l; high = omega (arith, e); copper = c; none = f })
  | inl h ↦ span_from ss v r left (k + 1) (omega (arith, e)) (omega arith)
      (λ j i. elim (cases_order j k) [
        | inl q ↦ subst (λ z. HasCopper ss v ((r + z) % 8)) (sym q) h
        | inr o ↦ elim o [ inl i ↦ c j i | inr i2 ↦ absurd (omega (arith, i, i2)) ]
      ]) n
]

pub ray_at : (d x : ℕ) → d < 8 → x < 8 → x ≡ ((d + 4) % 8 + ((x + 11 - d) % 8 + 1)) % 8
ray_at d x h i = omega (arith, h, i)

pub before_ray : (d x : ℕ) → d < 8 → x < 8 → (x + 3) % 8 ≡ ((d + 4) % 8 + ((x + 4) % 8 + 11 - d) % 8) % 8
before_ray d x h i = omega (arith, h, i)

out_turn : (d k x : ℕ) → d < 8 → 1 ≤ k → k ≤ 7 → x ≡ ((d + 4) % 8 + k) % 8 → (x + 11 - d) % 8 + 1 ≡ k
out_turn d k x h l m e = omega (arith, h, l, m, e)

pub boundary_alternate : (ss : List Strip) (es : List Edge) → AreOrdered ss → AreBoundary ss es → Alternate es
unfolding Alternate turn_to
boundary_alternate ss es o b e h =
    let i = is_bound ss es b e h in
    let v = e.finish in
    let d = direction e in
    let low = direction_low e in
    let s = span_from ss v ((d + 4) % 8) 6 1 refl (omega arith)
    (λ j l. subst (λ z. HasCopper ss v z) (omega (arith, l, low)) (in_copper ss e v o i refl))
    (λ c. in_none ss e v o i refl (subst (λ z. HasCopper ss v z) (omega (arith, low)) c)) in
    let k = s.0 in
    let a = s.1 in
    let f = out_there (((d + 4) % 8 + k) % 8) (omega arith) ss v o (corner_of ss e i)
    (subst (λ z. HasCopper ss v z) (let l = a.low in let m = a.high in omega (arith, low, l, m)) (a.copper (k - 1) (let l = a.low in omega (arith, l)))) a.none in
    let t = out_turn d k (direction f.edge) low a.low a.high f.way in (
      f.edge,
      record {
        one = bound_has ss es b f.edge f.bound;
        joins = f.start;
        out = λ g j q. not_before (direction f.edge) k ((direction g + 11 - d) % 8 + 1) d t
            (λ l. out_none ss g v o (is_bound ss es b g j) q (subst (HasCopper ss v) (sym (ray_at d (direction g) low (direction_low g))) (a.copper ((direction g + 11 - d) % 8 + 1) l)));
        back = λ g j q. not_before (direction f.edge) k (((direction g + 4) % 8 + 11 - d) % 8 + 1) d t
            (λ l. in_none ss g v o (is_bound ss es b g j) q (subst (HasCopper ss v) (sym (before_ray d (direction g) low (direction_low g))) (a.copper (((direction g + 4) % 8 + 11 - d) % 8) (omega (arith, l)))));
      },
    )
  where
    not_before : (x k j d : ℕ) → (x + 11 - d) % 8 + 1 ≡ k → (j < k → ⊥) → (x + 11 - d) % 8 + 1 ≤ j
    not_before x k j d t n = elim (cases_order k j) [
      | inl q ↦ omega (arith, t, q)
      | inr o ↦ elim o [ inl l ↦ omega (arith, t, l) | inr l ↦ absurd (n l) ]
    ]
