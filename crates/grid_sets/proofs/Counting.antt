-- A finite set has one number of points.
use Rattle.std.proofs.Common.{◌≡◌, refl, sym, subst, ◌∙◌, ◌⊎◌, inl, inr, ℕ, ◌+◌, ◌≤◌, List, [], ◌∷◌, ◌++◌, length, length-append, arith}
use Rattle.std.specs.Prelude.{ℤ, ◌↔◌}
use Rattle.grid_sets.specs.Points.{GridPoint, IsListed, AreDistinct, IsCount}
use Rattle.grid_sets.specs.Laws.{CountLaw}

-- ---- lists of points
pub listed_either : (ps qs : List GridPoint) (x y : ℤ) → IsListed (ps ++ qs) x y ↔ (IsListed ps x y ⊎ IsListed qs x y)
listed_either [] qs x y = (λ h. inr h, λ h. elim h [ inl e ↦ absurd e | inr k ↦ k ])
listed_either (p ∷ ps) qs x y =
    let i = listed_either ps qs x y in (
      λ h. elim h [ inl w ↦ inl (inl w) | inr k ↦ elim (i.0 k) [ inl m ↦ inl (inr m) | inr m ↦ inr m ] ],
      λ h. elim h [ inl k ↦ elim k [ inl w ↦ inl w | inr m ↦ inr (i.1 (inl m)) ] | inr m ↦ inr (i.1 (inr m)) ],
    )

pub distinct_either : (ps qs : List GridPoint) → AreDistinct ps → AreDistinct qs → ((x y : ℤ) → IsListed ps x y → IsListed qs x y → ⊥) → AreDistinct (ps ++ qs)
distinct_either [] qs a b f = b
distinct_either (p ∷ ps) qs a b f = (
  λ h. elim ((listed_either ps qs p.x p.y).0 h) [ inl m ↦ a.0 m | inr m ↦ f p.x p.y (inl (refl, refl)) m ],
  distinct_either ps qs a.1 b (λ x y m n. f x y (inr m) n),
)

-- the list without one of the places where a listed point stands
record IsTakenOut (x y : ℤ) (qs rest : List GridPoint) : Type 0 where
  short : length qs ≡ length rest + 1
  kept : (u v : ℤ) → IsListed qs u v → ((u ≡ x) × (v ≡ y)) ⊎ IsListed rest u v

take_out : (qs : List GridPoint) (x y : ℤ) → IsListed qs x y → (rest : List GridPoint) × IsTakenOut x y qs rest
take_out [] x y h = absurd h
take_out (q ∷ qs) x y (inl h) = (qs, record { short = omega arith; kept = λ u v k. elim k [ inl e ↦ inl (e.0 ∙ sym h.0, e.1 ∙ sym h.1) | inr m ↦ inr m ] })
take_out (q ∷ qs) x y (inr h) =
    let r = take_out qs x y h in (
      q ∷ r.0,
      record {
        short = let e : length qs ≡ length r.0 + 1 = r.1.short in omega arith;
        kept = λ u v k. elim k [ inl e ↦ inr (inl e) | inr m ↦ elim (r.1.kept u v m) [ inl e ↦ inl e | inr n ↦ inr (inr n) ] ];
      },
    )

-- points that stand once each and all stand in the other list are no more than the other list has
pub no_more : (ps qs : List GridPoint) → AreDistinct ps → ((x y : ℤ) → IsListed ps x y → IsListed qs x y) → length ps ≤ length qs
no_more [] qs d h = omega arith
no_more (p ∷ ps) qs d h =
    let t = take_out qs p.x p.y (h p.x p.y (inl (refl, refl))) in
    let l : length ps ≤ length t.0 = no_more ps t.0 d.1 (λ x y k. others t.0 x y k (t.1.kept x y (h x y (inr k)))) in
    let s : length qs ≡ length t.0 + 1 = t.1.short in
    omega arith
  where
    here : (x y : ℤ) → x ≡ p.x → y ≡ p.y → IsListed ps x y → ⊥
    here x y e f k = d.0 (subst (λ (v : ℤ). IsListed ps p.x v) f (subst (λ (u : ℤ). IsListed ps u y) e k))

    others : (rest : List GridPoint) (x y : ℤ) → IsListed ps x y → ((x ≡ p.x) × (y ≡ p.y)) ⊎ IsListed rest x y → IsListed rest x y
    others rest x y k (inl e) = absurd (here x y e.0 e.1 k)
    others rest x y k (inr m) = m

pub count_law : CountLaw
count_law ps qs d e h =
    let l = no_more ps qs d (λ x y. (h x y).0) in
    let m = no_more qs ps e (λ x y. (h x y).1) in
    omega arith

-- ---- counts of sets: of a part, and of two sets that have no common point
pub count_le : (P Q : ℤ → ℤ → Type 0) (m n : ℕ) → IsCount P m → IsCount Q n → ((x y : ℤ) → P x y → Q x y) → m ≤ n
count_le P Q m n a b f =
    let l : length a.spots ≤ length b.spots = no_more a.spots b.spots a.are.distinct (λ x y h. (b.are.same x y).1 (f x y ((a.are.same x y).0 h))) in
    let e = a.count in
    let g = b.count in
    omega arith

pub count_join : (P Q R : ℤ → ℤ → Type 0) (m n : ℕ) → IsCount P m → IsCount Q n → ((x y : ℤ) → P x y → Q x y → ⊥) → ((x y : ℤ) → R x y ↔ (P x y ⊎ Q x y)) → IsCount R (m + n)
count_join P Q R m n a b f h = record {
  spots = a.spots ++ b.spots;
  are = record {
    distinct = distinct_either a.spots b.spots a.are.distinct b.are.distinct (λ x y i j. f x y ((a.are.same x y).0 i) ((b.are.same x y).0 j));
    same = λ x y. (
      λ k. (h x y).1 (elim ((listed_either a.spots b.spots x y).0 k) [ inl i ↦ inl ((a.are.same x y).0 i) | inr i ↦ inr ((b.are.same x y).0 i) ]),
      λ k. (listed_either a.spots b.spots x y).1 (elim ((h x y).0 k) [ inl i ↦ inl ((a.are.same x y).1 i) | inr i ↦ inr ((b.are.same x y).1 i) ]),
    );
  };
  count =
      let e : length a.spots ≡ m = a.count in
      let g : length b.spots ≡ n = b.count in
      let k : length (a.spots ++ b.spots) ≡ length a.spots + length b.spots = length-append a.spots b.spots in
      omega arith;
}

pub count_none : (P : ℤ → ℤ → Type 0) → ((x y : ℤ) → P x y → ⊥) → IsCount P 0
count_none P f = record {
  spots = [];
  are = record { distinct = tt; same = λ x y. (λ h. absurd h, λ h. f x y h) };
  count = refl;
}
