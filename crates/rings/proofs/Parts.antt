-- The level parts of a sheet can be found: they are among the stretches between two corners.
use Rattle.std.proofs.Common.{◌≡◌, refl, sym, subst, ap, ◌⊎◌, inl, inr, arith, List, [], ◌∷◌, ◌++◌, Bool, true, false}
use Rattle.std.specs.Prelude.{pos, ◌*ℤ◌, ◌<ℤ◌, ◌≤ℤ◌, AllPairs}
use Rattle.std.proofs.lemmas.Int.{ints}
use Rattle.std.proofs.lemmas.Bool.{false≢true}
use Rattle.std.proofs.lemmas.List.Kept.{AllPairs-cons}
use Rattle.plane.specs.Plane.{PlanePoint}
use Rattle.grid_num.specs.declared.Point.{Point}
use Rattle.plane.specs.Covering.{Edge}
use Rattle.strips.specs.declared.Strip.{Strip}
use Rattle.rings.specs.Boundary.{IsCorner, HasCopperAbove, HasCopperBelow, AreNeighbours, IsLevelPart, AreBoundary, side_edges}
use Rattle.rings.proofs.Lists.{Has, has_left, has_right, of_has, all_of, found}
use Rattle.rings.proofs.Sides.{AreOrdered}
use Rattle.rings.proofs.Order.{point_same}
use Rattle.rings.proofs.Unique.{same_edge, same_tells, same_meets}
use Rattle.rings.proofs.Rows.{IsOver, under_of, of_under, over_of, of_over, corners, corner_has, has_corner}
use Rattle.rings.proofs.Levels.{both_cases, equal_cases, most_cases, under_cases, part_below, part_above}
use Rattle.rings.proofs.Around.{right_of, from_left}
use Rattle.rings.proofs.Sectors.{less_cases}

over_cases : (ss : List Strip) (p : PlanePoint) → ((s : Strip) × IsOver ss p s) ⊎ ((s : Strip) → IsOver ss p s → ⊥)
over_cases ss p = elim (found (λ s. (p.y ≡ pos p.scale *ℤ s.bottom) × (((pos p.scale *ℤ s.left_end) ≤ℤ p.x) × (p.x ≤ℤ (pos p.scale *ℤ s.right_end))))
    (λ s. both_cases (equal_cases p.y (pos p.scale *ℤ s.bottom)) (both_cases (most_cases (pos p.scale *ℤ s.left_end) p.x) (most_cases p.x (pos p.scale *ℤ s.right_end)))) ss) [
      | inl f ↦ inl (f.0, record { one = f.1; row = (f.2).0; from = ((f.2).1).0; to = ((f.2).1).1 })
      | inr f ↦ inr (λ s u. f s u.one (u.row, (u.from, u.to)))
    ]

below_cases : (ss : List Strip) (p : PlanePoint) → AreOrdered ss → HasCopperBelow ss p ⊎ (HasCopperBelow ss p → ⊥)
below_cases ss p o = elim (under_cases ss p) [ inl u ↦ inl (of_under ss p u.0 o u.1) | inr n ↦ inr (λ h. (let u = under_of ss p o h in n u.0 u.1)) ]

above_cases : (ss : List Strip) (p : PlanePoint) → AreOrdered ss → HasCopperAbove ss p ⊎ (HasCopperAbove ss p → ⊥)
above_cases ss p o = elim (over_cases ss p) [ inl u ↦ inl (of_over ss p u.0 o u.1) | inr n ↦ inr (λ h. (let u = over_of ss p o h in n u.0 u.1)) ]

corner_cases : (ss : List Strip) (a : Point) → IsCorner ss a ⊎ (IsCorner ss a → ⊥)
corner_cases ss a = elim (found (λ c. (c.x ≡ a.x) × (c.y ≡ a.y)) (λ c. both_cases (equal_cases c.x a.x) (equal_cases c.y a.y)) (corners ss)) [
  | inl f ↦ inl (subst (IsCorner ss) (point_same f.0 a (f.2).0 (f.2).1) (has_corner ss f.0 f.1))
  | inr f ↦ inr (λ i. f a (corner_has ss a i) (refl, refl))
]

neighbour_cases : (ss : List Strip) (a b : Point) → AreNeighbours ss a b ⊎ (AreNeighbours ss a b → ⊥)
neighbour_cases ss a b =
    elim (both_cases (both_cases (corner_cases ss a) (corner_cases ss b)) (both_cases (equal_cases a.y b.y) (less_cases a.x b.x))) [
      | inr n ↦ inr (λ m. n ((m.first, m.second), (m.level, m.rising)))
      | inl h ↦ elim (found (λ c. (c.y ≡ a.y) × ((a.x <ℤ c.x) × (c.x <ℤ b.x))) (λ c. both_cases (equal_cases c.y a.y) (both_cases (less_cases a.x c.x) (less_cases c.x b.x))) (corners ss)) [
        | inl f ↦ inr (λ m. m.next f.0 (has_corner ss f.0 f.1) (f.2).0 ((f.2).1).0 ((f.2).1).1)
        | inr f ↦ inl (record { first = (h.0).0; second = (h.0).1; level = (h.1).0; rising = (h.1).1; next = λ c i y u v. f c (corner_has ss c i) (y, (u, v)) })
      ]
    ]

not_cases : {A : Type 0} → A ⊎ (A → ⊥) → (A → ⊥) ⊎ ((A → ⊥) → ⊥)
not_cases (inl a) = inr (λ n. n a)
not_cases (inr n) = inl n

level_cases : (ss : List Strip) (e : Edge) → AreOrdered ss → IsLevelPart ss e ⊎ (IsLevelPart ss e → ⊥)
unfolding IsLevelPart
level_cases ss e o = elim (neighbour_cases ss e.start e.finish) [
  | inl n ↦ (
      let p = right_of e.start in
      let j = from_left ss e.start e.finish n in
      elim (both_cases (below_cases ss p o) (not_cases (above_cases ss p o))) [
        | inl h ↦ inl (part_below ss e.start e.finish p o n j h.0 h.1)
        | inr f ↦ inr (λ l. elim l [ inl g ↦ f (g.1 p j) | inr g ↦ (let r = (g.0).rising in let q = n.rising in omega (arith, ints, r, q)) ])
      ])
  | inr n ↦ elim (neighbour_cases ss e.finish e.start) [
    | inl m ↦ (
        let p = right_of e.finish in
        let j = from_left ss e.finish e.start m in
        elim (both_cases (above_cases ss p o) (not_cases (below_cases ss p o))) [
          | inl h ↦ inl (part_above ss e.finish e.start p o m j h.0 h.1)
          | inr f ↦ inr (λ l. elim l [ inl g ↦ n g.0 | inr g ↦ f (g.1 p j) ])
        ])
    | inr m ↦ inr (λ l. elim l [ inl g ↦ n g.0 | inr g ↦ m g.0 ])
  ]
]

-- ---- all stretches between two corners
from_one : Point → List Point → List Edge
from_one a [] = []
from_one a (b ∷ bs) = record { start = a; finish = b } ∷ from_one a bs

from_all : List Point → List Point → List Edge
from_all [] bs = []
from_all (a ∷ as') bs = from_one a bs ++ from_all as' bs

one_has : (a b : Point) (bs : List Point) → Has bs b → Has (from_one a bs) (record { start = a; finish = b })
unfolding from_one Has
one_has a b [] h = h
one_has a b (c ∷ bs) (inl k) = inl (ap (λ z. record { start = a; finish = z }) k)
one_has a b (c ∷ bs) (inr h) = inr (one_has a b bs h)

all_has : (a b : Point) (as' bs : List Point) → Has as' a → Has bs b → Has (from_all as' bs) (record { start = a; finish = b })
unfolding from_all Has
all_has a b [] bs h i = absurd h
all_has a b (c ∷ as') bs (inl k) i = has_left (from_one c bs) (from_all as' bs) (record { start = a; finish = b }) (subst (λ z. Has (from_one z bs) (record { start = a; finish = b })) (sym k) (one_has a b bs i))
all_has a b (c ∷ as') bs (inr h) i = has_right (from_one c bs) (from_all as' bs) (record { start = a; finish = b }) (all_has a b as' bs h i)

record IsSelected (ss : List Strip) (cs : List Edge) : Type 0 where
  pub parts : List Edge
  pub each : (e : Edge) → Has parts e → IsLevelPart ss e
  pub whole : (e : Edge) → Has cs e → IsLevelPart ss e → Has parts e
  pub once : AllPairs (λ e f. e ≡ f → ⊥) parts

in_cases : (e : Edge) (es : List Edge) → Has es e ⊎ (Has es e → ⊥)
in_cases e es = elim (found (λ f. same_edge e f ≡ true) (λ f. bool_cases (same_edge e f)) es) [
  | inl f ↦ inl (subst (Has es) (same_tells e f.0 f.2) f.1)
  | inr f ↦ inr (λ h. f e h (same_meets e))
]
  where
    bool_cases : (b : Bool) → (b ≡ true) ⊎ (b ≡ true → ⊥)
    bool_cases true = inl refl
    bool_cases false = inr (λ k. false≢true k)

selected : (ss : List Strip) (cs : List Edge) → AreOrdered ss → IsSelected ss cs
unfolding Has
selected ss [] o = record { parts = []; each = λ e h. absurd h; whole = λ e h l. h; once = λ i j d l m. absurd (omega (arith, m)) }
selected ss (c ∷ cs) o = choose (selected ss cs o) (level_cases ss c o) (in_cases c (selected ss cs o).parts)
  where
    choose : (r : IsSelected ss cs) → IsLevelPart ss c ⊎ (IsLevelPart ss c → ⊥) → Has r.parts c ⊎ (Has r.parts c → ⊥) → IsSelected ss (c ∷ cs)
    choose r (inr n) i = record { parts = r.parts; each = r.each; whole = λ e h l. elim h [ inl k ↦ absurd (n (subst (IsLevelPart ss) (sym k) l)) | inr h ↦ r.whole e h l ]; once = r.once }
    choose r (inl l) (inl i) = record { parts = r.parts; each = r.each; whole = λ e h m. elim h [ inl k ↦ subst (Has r.parts) k i | inr h ↦ r.whole e h m ]; once = r.once }
    choose r (inl l) (inr f) = record {
      parts = c ∷ r.parts;
      each = λ e h. elim h [ inl k ↦ subst (IsLevelPart ss) k l | inr h ↦ r.each e h ];
      whole = λ e h m. elim h [ inl k ↦ inl k | inr h ↦ inr (r.whole e h m) ];
      once = AllPairs-cons (λ e f. e ≡ f → ⊥) c r.parts (all_of (λ z. c ≡ z → ⊥) r.parts (λ z h k. f (subst (Has r.parts) (sym k) h))) r.once;
    }

level_ends : (ss : List Strip) (e : Edge) → IsLevelPart ss e → Has (corners ss) e.start × Has (corners ss) e.finish
unfolding IsLevelPart
level_ends ss e (inl g) = (corner_has ss e.start (g.0).first, corner_has ss e.finish (g.0).second)
level_ends ss e (inr g) = (corner_has ss e.start (g.0).second, corner_has ss e.finish (g.0).first)

pub boundary_exists : (ss : List Strip) → AreOrdered ss → (es : List Edge) × AreBoundary ss es
boundary_exists ss o =
    let r = selected ss (from_all (corners ss) (corners ss)) o in (
      side_edges ss ++ r.parts,
      record {
        parts = r.parts;
        level = record {
          each = all_of (IsLevelPart ss) r.parts r.each;
          whole = λ e l. (let c = level_ends ss e l in of_has r.parts e (r.whole e (all_has e.start e.finish (corners ss) (corners ss) c.0 c.1) l));
          once = r.once;
        };
        all = refl;
      },
    )
