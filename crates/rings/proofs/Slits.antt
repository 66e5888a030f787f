-- Slits: each hole has one, they overlap neither boundary edges nor each other, and none stands twice.
use Rattle.std.proofs.Common.{◌≡◌, refl, sym, subst, ap, ◌∙◌, inl, inr, arith, lit≤, List, [], ◌∷◌, get_or}
use Rattle.std.specs.Prelude.{ℤ, pos, neg_ℤ, ◌+ℤ◌, ◌*ℤ◌, ◌<ℤ◌, Any}
use Rattle.std.specs.List.{AllZip}
use Rattle.std.proofs.lemmas.Int.{ints, by_lt_z}
use Rattle.plane.specs.Plane.{PlanePoint, grid_point}
use Rattle.grid_num.specs.declared.Point.{Point}
use Rattle.plane.specs.Covering.{Edge, IsOn}
use Rattle.plane.specs.Edges.{turned_back}
use Rattle.plane.proofs.Lists.{any_none, any_head, any_tail, any_cases}
use Rattle.plane.proofs.On.{level_on}
use Rattle.rings.specs.Turning.{direction}
use Rattle.rings.specs.Slits.{IsSlit}
use Rattle.rings.proofs.Lists.{Has}
use Rattle.rings.proofs.Order.{point_same}
use Rattle.rings.proofs.Lines.{line, along, GoesOn, direction_is}
use Rattle.rings.proofs.Parted.{IsAlong}
use Rattle.rings.proofs.Unique.{edge_same, AreSame}

abbrev pub OnSome : List Edge → PlanePoint → Type 0
OnSome es p = Any (λ e. IsOn e p) es

pub has_any : {X : Type 0} (P : X → Type 0) (xs : List X) (x : X) → Has xs x → P x → Any P xs
unfolding Has
has_any P [] x h p = absurd h
has_any P (y ∷ ys) x (inl e) p = any_head P y ys (subst P (sym e) p)
has_any P (y ∷ ys) x (inr h) p = any_tail P y ys (has_any P ys x h p)

pub any_has : {X : Type 0} (P : X → Type 0) (xs : List X) → Any P xs → (x : X) × Has xs x × P x
unfolding Has
any_has P [] a = absurd (any_none P a)
any_has P (y ∷ ys) a = elim (any_cases P y ys a) [
  | inl p ↦ (y, inl refl, p)
  | inr b ↦ (let r = any_has P ys b in (r.0, inr r.1, r.2))
]

pub any_same : {X : Type 0} (P : X → Type 0) (xs ys : List X) → AreSame xs ys → Any P xs → Any P ys
any_same P xs ys s a = let r = any_has P xs a in has_any P ys r.0 (s.there r.0 r.1) r.2

-- ---- directions
pub slit_goes : (s : Edge) → s.finish.y ≡ s.start.y → s.finish.x <ℤ s.start.x → GoesOn 4 s
unfolding line along
slit_goes s k l = record { line = k; on = omega (arith, ints, l) }

pub back_goes : (s : Edge) → s.finish.y ≡ s.start.y → s.finish.x <ℤ s.start.x → GoesOn 0 (turned_back s)
unfolding line along turned_back
back_goes s k l = record { line = sym k; on = l }

pub slit_direction : (s : Edge) → s.finish.y ≡ s.start.y → s.finish.x <ℤ s.start.x → direction s ≡ 4
slit_direction s k l = direction_is 4 (omega arith) s (slit_goes s k l)

pub back_direction : (s : Edge) → s.finish.y ≡ s.start.y → s.finish.x <ℤ s.start.x → direction (turned_back s) ≡ 0
back_direction s k l = direction_is 0 (omega arith) (turned_back s) (back_goes s k l)

-- ---- one slit of a loop
-- no boundary point is inside a slit
free : (es : List Edge) (cs : List Point) (s : Edge) (a : Point) → IsSlit es cs s → OnSome es (grid_point a.x a.y) → a.y ≡ s.start.y → s.finish.x <ℤ a.x → a.x <ℤ s.start.x → ⊥
free es cs s a i o y l m = i.first (grid_point a.x a.y) (omega (arith, ints, y)) (omega (arith, ints, l)) (omega (arith, ints, m)) o

-- two slits of one row that overlap start at one corner
pub meet : (es : List Edge) (cs bs : List Point) (s t : Edge) → IsSlit es cs s → IsSlit es bs t → OnSome es (grid_point s.start.x s.start.y) → OnSome es (grid_point t.start.x t.start.y)
    → s.start.y ≡ t.start.y → s.finish.x <ℤ t.start.x → t.finish.x <ℤ s.start.x → s.start ≡ t.start
meet es cs bs s t i j a b y k l =
    point_same s.start t.start
    (by_lt_z {P = s.start.x ≡ t.start.x} s.start.x t.start.x (λ m. absurd (free es bs t s.start j a y l m))
    (λ m. by_lt_z {P = s.start.x ≡ t.start.x} t.start.x s.start.x (λ n. absurd (free es cs s t.start i b (sym y) k n)) (λ n. omega (arith, ints, m, n))))
    y

-- slits that start at one corner are one
pub from_one : (es : List Edge) (cs bs : List Point) (s t : Edge) → IsSlit es cs s → IsSlit es bs t → s.start ≡ t.start → s ≡ t
from_one es cs bs s t i j e =
    let x = ap (λ p. p.x) e in
    let y = ap (λ p. p.y) e in
    let si = i.left in
    let ti = j.left in
    let sl = i.level in
    let tl = j.level in
    edge_same s t e
    (point_same s.finish t.finish
    (by_lt_z {P = s.finish.x ≡ t.finish.x} s.finish.x t.finish.x
    (λ m. absurd (free es cs s t.finish i j.stops (tl ∙ sym y) m (omega (arith, ints, ti, x))))
    (λ m. by_lt_z {P = s.finish.x ≡ t.finish.x} t.finish.x s.finish.x
    (λ n. absurd (free es bs t s.finish j i.stops (sl ∙ y) n (omega (arith, ints, si, x))))
    (λ n. omega (arith, ints, m, n))))
    (sl ∙ y ∙ sym tl))

pub slit_again : (es fs : List Edge) (cs : List Point) (s : Edge) → AreSame es fs → IsSlit fs cs s → IsSlit es cs s
slit_again es fs cs s m i = record {
  others = i.others;
  from = i.from;
  level = i.level;
  left = i.left;
  stops = any_same (λ e. IsOn e (grid_point s.finish.x s.finish.y)) fs es (record { there = m.back; back = m.there }) i.stops;
  first = λ p y l r a. i.first p y l r (any_same (λ e. IsOn e p) es fs m a);
}

first_same : (a b : Point) (as' bs cs : List Point) → cs ≡ a ∷ as' → cs ≡ b ∷ bs → a ≡ b
first_same a b as' bs cs e f = ap (λ zs. get_or zs 0 a) (sym e ∙ f)

slit_one : (es fs : List Edge) (cs : List Point) (s t : Edge) → AreSame es fs → IsSlit es cs s → IsSlit fs cs t → s ≡ t
slit_one es fs cs s t m i j = from_one es cs cs s t i (slit_again es fs cs t m j) (first_same s.start t.start i.others j.others cs i.from j.from)

pub slits_one : (es fs : List Edge) (hs : List (List Point)) (ss ts : List Edge) → AreSame es fs → AllZip (IsSlit es) hs ss → AllZip (IsSlit fs) hs ts → ss ≡ ts
slits_one es fs [] [] [] m i j = refl
slits_one es fs [] [] (t ∷ ts) m i j = absurd j
slits_one es fs [] (s ∷ ss) ts m i j = absurd i
slits_one es fs (h ∷ hs) [] ts m i j = absurd i
slits_one es fs (h ∷ hs) (s ∷ ss) [] m i j = absurd j
slits_one es fs (h ∷ hs) (s ∷ ss) (t ∷ ts) m i j =
    ap (λ z. z ∷ ss) (slit_one es fs h s t m i.0 j.0) ∙ ap (λ zs. t ∷ zs) (slits_one es fs hs ss ts m i.1 j.1)

-- ---- slits and boundary edges
half : ℤ → ℤ → ℤ → PlanePoint
half x by' y = record { x = pos 2 *ℤ x +ℤ by'; y = pos 2 *ℤ y; scale = 2; positive = lit≤ tt }

-- a slit and an edge that goes to the left don't overlap
pub left_free : (es : List Edge) (cs : List Point) (s e : Edge) (q : Point) → IsSlit es cs s → Has es e → IsAlong 4 s q → IsAlong 4 e q → GoesOn 4 e → ⊥
unfolding line along half
left_free es cs s e q i h a b g =
    let sl = a.line in let s0 = a.from in let s1 = a.to in
    let el = b.line in let e0 = b.from in let e1 = b.to in
    let gl = g.line in
    i.first (half q.x (neg_ℤ (pos 1)) q.y) (omega (arith, ints, sl)) (omega (arith, ints, s1)) (omega (arith, ints, s0))
    (has_any (λ e. IsOn e (half q.x (neg_ℤ (pos 1)) q.y)) es e h
    (level_on e (half q.x (neg_ℤ (pos 1)) q.y) (sym gl) (omega (arith, ints, el)) (inr (omega (arith, ints, e1), omega (arith, ints, e0)))))

-- nor do its way back and an edge that goes to the right
pub right_free : (es : List Edge) (cs : List Point) (s e : Edge) (q : Point) → IsSlit es cs s → Has es e → IsAlong 0 (turned_back s) q → IsAlong 0 e q → GoesOn 0 e → ⊥
unfolding line along half turned_back
right_free es cs s e q i h a b g =
    let sl = a.line in let s0 = a.from in let s1 = a.to in
    let el = b.line in let e0 = b.from in let e1 = b.to in
    let gl = g.line in
    let k = i.level in
    i.first (half q.x (pos 1) q.y) (omega (arith, ints, sl, k)) (omega (arith, ints, s0)) (omega (arith, ints, s1))
    (has_any (λ e. IsOn e (half q.x (pos 1) q.y)) es e h
    (level_on e (half q.x (pos 1) q.y) (sym gl) (omega (arith, ints, el)) (inl (omega (arith, ints, e0), omega (arith, ints, e1)))))
