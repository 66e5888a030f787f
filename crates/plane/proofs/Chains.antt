-- Chains with and without the corners that are passed straight.
use Rattle.std.proofs.Common.{◌≡◌, refl, sym, ◌∙◌, ◌+◌, ◌⊎◌, inl, inr, arith, List, [], ◌∷◌, ◌++◌}
use Rattle.std.specs.Prelude.{pos, ◌*ℤ◌, ◌↔◌, Any}
use Rattle.std.proofs.lemmas.Int.{ints, by_lt_z}
use Rattle.std.proofs.lemmas.List.Sums.{sum_by-cons}
use Rattle.plane.specs.Plane.{PlanePoint}
use Rattle.grid_num.proofs.Products.{mul_le}
use Rattle.grid_num.specs.declared.Point.{Point}
use Rattle.plane.specs.Covering.{Edge, IsOn, Between, crossing, edges_to, edges_of, edges_of_all}
use Rattle.plane.specs.Edges.{turned_back, IsOctilinear, IsOnWay, IsStraight}
use Rattle.plane.specs.CoverLaws.{SplitLaw}
use Rattle.plane.proofs.Counts.{none_up}
use Rattle.plane.proofs.On.{at, on_level, level_on}
use Rattle.plane.proofs.Lists.{any_none, any_head, any_tail, any_cases, any_left, any_right, any_parts}
use Rattle.plane.proofs.CoverLaws.{crossing_turned, crossings_append, on_turned}
use Rattle.plane.proofs.Split.{split_crossing, split_on, AreAlike, alike_covers}

abbrev edge : Point → Point → Edge
edge a b = record { start = a; finish = b }

abbrev OnSome : PlanePoint → List Edge → Type 0
OnSome p es = Any (λ e. IsOn e p) es

-- ---- lists alike
pub alike_refl : (es : List Edge) → AreAlike es es
alike_refl es = record { count = λ p. refl; on = λ p. (λ i. i, λ i. i) }

pub alike_sym : (es fs : List Edge) → AreAlike es fs → AreAlike fs es
alike_sym es fs a = record { count = λ p. sym (a.count p); on = λ p. ((a.on p).1, (a.on p).0) }

pub alike_trans : (es fs gs : List Edge) → AreAlike es fs → AreAlike fs gs → AreAlike es gs
alike_trans es fs gs a b = record { count = λ p. a.count p ∙ b.count p; on = λ p. (λ i. (b.on p).0 ((a.on p).0 i), λ i. (a.on p).1 ((b.on p).1 i)) }

pub alike_append : (es fs gs hs : List Edge) → AreAlike es fs → AreAlike gs hs → AreAlike (es ++ gs) (fs ++ hs)
alike_append es fs gs hs a b =
    record {
      count = λ p. (let x = crossings_append p es gs in let y = crossings_append p fs hs in let c = a.count p in let d = b.count p in omega (arith, x, y, c, d));
      on = λ p. (
        λ i. elim (any_parts (λ e. IsOn e p) es gs i) [ inl j ↦ any_left (λ e. IsOn e p) fs hs ((a.on p).0 j) | inr j ↦ any_right (λ e. IsOn e p) fs hs ((b.on p).0 j) ],
        λ i. elim (any_parts (λ e. IsOn e p) fs hs i) [ inl j ↦ any_left (λ e. IsOn e p) es gs ((a.on p).1 j) | inr j ↦ any_right (λ e. IsOn e p) es gs ((b.on p).1 j) ],
      );
    }

-- ---- one straight corner
three : (x : Edge) (y z : Edge) → ((p : PlanePoint) → crossing p x ≡ crossing p y + crossing p z) → ((p : PlanePoint) → IsOn x p ↔ (IsOn y p ⊎ IsOn z p))
    → AreAlike (x ∷ []) (y ∷ z ∷ [])
three x y z f g =
    record {
      count = λ p. (let a = sum_by-cons (crossing p) x [] in let b = sum_by-cons (crossing p) y (z ∷ []) in let c = sum_by-cons (crossing p) z [] in let d = f p in omega (arith, a, b, c, d));
      on = λ p. (to p, from p);
    }
  where
    to : (p : PlanePoint) → OnSome p (x ∷ []) → OnSome p (y ∷ z ∷ [])
    to p i =
        elim (any_cases (λ e. IsOn e p) x [] i) [
          | inl j ↦ elim ((g p).0 j) [ inl k ↦ any_head (λ e. IsOn e p) y (z ∷ []) k | inr k ↦ any_tail (λ e. IsOn e p) y (z ∷ []) (any_head (λ e. IsOn e p) z [] k) ]
          | inr j ↦ absurd (any_none (λ e. IsOn e p) j)
        ]

    from : (p : PlanePoint) → OnSome p (y ∷ z ∷ []) → OnSome p (x ∷ [])
    from p i =
        elim (any_cases (λ e. IsOn e p) y (z ∷ []) i) [
          | inl j ↦ any_head (λ e. IsOn e p) x [] ((g p).1 (inl j))
          | inr i ↦ elim (any_cases (λ e. IsOn e p) z [] i) [ inl j ↦ any_head (λ e. IsOn e p) x [] ((g p).1 (inr j)) | inr j ↦ absurd (any_none (λ e. IsOn e p) j) ]
        ]

-- the parts and the whole of a way are octilinear
way_octilinear : (a b c : Point) → IsOnWay a b c → IsOctilinear (edge a c) × IsOctilinear (edge a b) × IsOctilinear (edge b c)
unfolding IsOctilinear IsOnWay
way_octilinear a b c (h1, h2, inl e) = (inr (inl (e.0 ∙ e.1)), inr (inl e.0), inr (inl e.1))
way_octilinear a b c (h1, h2, inr (inl e)) = (inr (inr (inl (let f = e.0 in let g = e.1 in omega (arith, ints, f, g)))), inr (inr (inl e.0)), inr (inr (inl e.1)))
way_octilinear a b c (h1, h2, inr (inr e)) = (inr (inr (inr (let f = e.0 in let g = e.1 in omega (arith, ints, f, g)))), inr (inr (inr e.0)), inr (inr (inr e.1)))

octilinear_back : (a b : Point) → IsOctilinear (edge a b) → IsOctilinear (edge b a)
unfolding IsOctilinear
octilinear_back a b (inl h) = inl (sym h)
octilinear_back a b (inr (inl h)) = inr (inl (sym h))
octilinear_back a b (inr (inr (inl h))) = inr (inr (inl (omega (arith, ints))))
octilinear_back a b (inr (inr (inr h))) = inr (inr (inr (omega (arith, ints))))

on_back : (a b : Point) (p : PlanePoint) → IsOctilinear (edge a b) → IsOn (edge a b) p → IsOn (edge b a) p
unfolding turned_back
on_back a b p h o = on_turned p (edge a b) h o

level_split : (a b c : Point) (p : PlanePoint) → a.y ≡ b.y → b.y ≡ c.y → Between a.x c.x b.x → IsOn (edge a c) p ↔ (IsOn (edge a b) p ⊎ IsOn (edge b c) p)
level_split a b c p e f (inl w) =
    let k1 = mul_le p.scale a.x b.x w.0 in
    let k2 = mul_le p.scale b.x c.x w.1 in
    let y1 = at p.scale a.y b.y e in (
      λ o. (let y = on_level (edge a c) p (e ∙ f) o in let x = o.across in
          by_lt_z {P = IsOn (edge a b) p ⊎ IsOn (edge b c) p} p.x (pos p.scale *ℤ b.x)
          (λ m. inl (level_on (edge a b) p e y (inl (omega (arith, ints, x, k1, k2, m), omega (arith, ints, m)))))
          (λ m. inr (level_on (edge b c) p f (y ∙ y1) (inl (m, omega (arith, ints, x, k1, k2, m)))))),
      λ o. elim o [
        | inl o ↦ (let x = o.across in level_on (edge a c) p (e ∙ f) (on_level (edge a b) p e o) (inl (omega (arith, ints, x, k1, k2), omega (arith, ints, x, k1, k2))))
        | inr o ↦ (let x = o.across in level_on (edge a c) p (e ∙ f) (on_level (edge b c) p f o ∙ sym y1) (inl (omega (arith, ints, x, k1, k2), omega (arith, ints, x, k1, k2))))
      ],
    )
level_split a b c p e f (inr w) =
    let k1 = mul_le p.scale c.x b.x w.0 in
    let k2 = mul_le p.scale b.x a.x w.1 in
    let y1 = at p.scale a.y b.y e in (
      λ o. (let y = on_level (edge a c) p (e ∙ f) o in let x = o.across in
          by_lt_z {P = IsOn (edge a b) p ⊎ IsOn (edge b c) p} p.x (pos p.scale *ℤ b.x)
          (λ m. inr (level_on (edge b c) p f (y ∙ y1) (inr (omega (arith, ints, x, k1, k2, m), omega (arith, ints, m)))))
          (λ m. inl (level_on (edge a b) p e y (inr (m, omega (arith, ints, x, k1, k2, m)))))),
      λ o. elim o [
        | inl o ↦ (let x = o.across in level_on (edge a c) p (e ∙ f) (on_level (edge a b) p e o) (inr (omega (arith, ints, x, k1, k2), omega (arith, ints, x, k1, k2))))
        | inr o ↦ (let x = o.across in level_on (edge a c) p (e ∙ f) (on_level (edge b c) p f o ∙ sym y1) (inr (omega (arith, ints, x, k1, k2), omega (arith, ints, x, k1, k2))))
      ],
    )

level_crossing : (a b : Point) (p : PlanePoint) → a.y ≡ b.y → crossing p (edge a b) ≡ 0
unfolding crossing
level_crossing a b p h = omega (arith, none_up a b p (omega (arith, ints)), none_up b a p (omega (arith, ints)))

swap_or : {A B : Type 0} → A ⊎ B → B ⊎ A
swap_or (inl x) = inr x
swap_or (inr x) = inl x

pub straight_alike : (a b c : Point) → IsStraight a b c → AreAlike (edge a c ∷ []) (edge a b ∷ edge b c ∷ [])
unfolding IsStraight turned_back
straight_alike a b c (inl w) = three (edge a c) (edge a b) (edge b c) (λ p. split_crossing a b c p w) (λ p. split_on a b c p w)
straight_alike a b c (inr (inl w)) =
    let o = way_octilinear c b a w in
    three (edge a c) (edge a b) (edge b c)
    (λ p. (let s = split_crossing c b a p w in let x = crossing_turned p (edge a c) in let y = crossing_turned p (edge a b) in let z = crossing_turned p (edge b c) in omega (arith, s, x, y, z)))
    (λ p. (
      λ i. swap_or (elim ((split_on c b a p w).0 (on_back a c p (octilinear_back c a o.0) i)) [ inl j ↦ inl (on_back c b p o.1 j) | inr j ↦ inr (on_back b a p o.2 j) ]),
      λ i. on_back c a p o.0 ((split_on c b a p w).1 (swap_or (elim i [ inl j ↦ inl (on_back a b p (octilinear_back b a o.2) j) | inr j ↦ inr (on_back b c p (octilinear_back c b o.1) j) ]))),
    ))
straight_alike a b c (inr (inr w)) =
    three (edge a c) (edge a b) (edge b c)
    (λ p. (let x = level_crossing a c p (w.0 ∙ w.1) in let y = level_crossing a b p w.0 in let z = level_crossing b c p w.1 in omega (arith, x, y, z)))
    (λ p. level_split a b c p w.0 w.1 w.2)

pub split_law : SplitLaw
split_law a b c es p h =
    alike_covers (edge a c ∷ es) (edge a b ∷ edge b c ∷ es) p
    (alike_append (edge a c ∷ []) (edge a b ∷ edge b c ∷ []) es es (straight_alike a b c h) (alike_refl es))

-- ---- chains
-- a straight corner is left out or put in
pub drop_straight : (z a b c : Point) (cs : List Point) → IsStraight a b c → AreAlike (edges_to z a (c ∷ cs)) (edges_to z a (b ∷ c ∷ cs))
drop_straight z a b c cs h =
    alike_append (edge a c ∷ []) (edge a b ∷ edge b c ∷ []) (edges_to z c cs) (edges_to z c cs) (straight_alike a b c h) (alike_refl (edges_to z c cs))

pub drop_last : (z a b : Point) → IsStraight a b z → AreAlike (edges_to z a []) (edges_to z a (b ∷ []))
drop_last z a b h = straight_alike a b z h

pub keep_first : (z a b : Point) (bs : List Point) (cs : List Point) → AreAlike (edges_to z b bs) (edges_to z b cs) → AreAlike (edges_to z a (b ∷ bs)) (edges_to z a (b ∷ cs))
keep_first z a b bs cs h = alike_append (edge a b ∷ []) (edge a b ∷ []) (edges_to z b bs) (edges_to z b cs) (alike_refl (edge a b ∷ [])) h

-- chain by chain
unfoldable pub AreAlikeChains : List (List Point) → List (List Edge) → Type 0
AreAlikeChains [] [] = Unit {0}
AreAlikeChains [] (w ∷ ws) = ⊥
AreAlikeChains (c ∷ cs) [] = ⊥
AreAlikeChains (c ∷ cs) (w ∷ ws) = AreAlike (edges_of c) w × AreAlikeChains cs ws

abbrev pub joined_edges : List (List Edge) → List Edge
joined_edges [] = []
joined_edges (w ∷ ws) = w ++ joined_edges ws

pub chains_alike : (cs : List (List Point)) (ws : List (List Edge)) → AreAlikeChains cs ws → AreAlike (edges_of_all cs) (joined_edges ws)
unfolding AreAlikeChains
chains_alike [] [] h = alike_refl []
chains_alike [] (w ∷ ws) h = absurd h
chains_alike (c ∷ cs) [] h = absurd h
chains_alike (c ∷ cs) (w ∷ ws) h = alike_append (edges_of c) w (edges_of_all cs) (joined_edges ws) h.0 (chains_alike cs ws h.1)
