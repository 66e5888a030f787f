-- Octagons that can't be said not to be near are near; and what ranks say of tasks.
use Rattle.std.proofs.Common.{◌≡◌, refl, sym, subst, ℕ, zero, suc, ◌<◌, ◌≤◌, inl, inr, arith, List, [], ◌∷◌, length, get_or}
use Rattle.std.specs.Prelude.{ℤ, ◌≤ℤ◌, ◌<ℤ◌, ◌↔◌, ◌+◌, ◌/◌, max, Bool, true, false, not, ◌&&◌, IsTrue, int_lt}
use Rattle.std.proofs.lemmas.Bool.{cases_lt, cases_eq, false≢true}
use Rattle.std.proofs.lemmas.Int.{ints}
use Rattle.std.specs.List.{All}
use Rattle.plane.specs.Plane.{PlanePoint, Bounds, Within, In, IsTight, IsOct, AreNear}
use Rattle.plane.proofs.Near.{IsOverlappingStrictly, AreNear-bounds, bounds-AreNear}
use Rattle.grid_num.specs.declared.Point.{Point}
use Rattle.hulls.specs.Cells.{around}
use Rattle.hulls.proofs.Around.{one_least_law}
use Rattle.outline_slab.specs.Rules.{IsSimple}
use Rattle.classes.specs.Classes.{IsOneOf}
use Rattle.board_language.specs.Board.{Board}
use Rattle.board_language.specs.declared.board.Zone.{Zone}
use Rattle.fill_rules.specs.Tasks.{Task, settings_of, task_zone, zone_at, ranked, task_at, no_task}
use Rattle.fill_rules.specs.Needs.{zone_need}
use Rattle.fill_rules.specs.Ranking.{Outranks, IsSortedBy}
use Rattle.fill_rules.proofs.Ranking.{ranked_is}
use Rattle.knockouts.specs.Reaching.{ReachesTask, ReachByRankLaw}
use Rattle.knockouts.specs.Inner.Above.{IsAboveForeign}

-- ---- near or not
lt_true : (a b : ℤ) → int_lt a b ≡ true → a <ℤ b
lt_true a b e = grind (arith, ints)

lt_false : (a b : ℤ) → int_lt a b ≡ false → b ≤ℤ a
lt_false a b e = grind (arith, ints)

not_le : (a b : ℤ) → (b ≤ℤ a → ⊥) → a <ℤ b
not_le a b h = by_cases (int_lt a b) refl
  where
    by_cases : (c : Bool) → int_lt a b ≡ c → a <ℤ b
    by_cases true e = lt_true a b e
    by_cases false e = absurd (h (lt_false a b e))

clash : (a b : ℤ) → b ≤ℤ a → a <ℤ b → ⊥
clash a b h l = omega (arith, ints, h, l)

overlap_again : (b c : Bounds) → ((IsOverlappingStrictly b c → ⊥) → ⊥) → IsOverlappingStrictly b c
overlap_again b c h = record {
  x_low = not_le b.x0 c.x1 (λ l. h (λ o. clash b.x0 c.x1 l o.x_low));
  x_high = not_le c.x0 b.x1 (λ l. h (λ o. clash c.x0 b.x1 l o.x_high));
  y_low = not_le b.y0 c.y1 (λ l. h (λ o. clash b.y0 c.y1 l o.y_low));
  y_high = not_le c.y0 b.y1 (λ l. h (λ o. clash c.y0 b.y1 l o.y_high));
  s_low = not_le b.s0 c.s1 (λ l. h (λ o. clash b.s0 c.s1 l o.s_low));
  s_high = not_le c.s0 b.s1 (λ l. h (λ o. clash c.s0 b.s1 l o.s_high));
  d_low = not_le b.d0 c.d1 (λ l. h (λ o. clash b.d0 c.d1 l o.d_low));
  d_high = not_le c.d0 b.d1 (λ l. h (λ o. clash c.d0 b.d1 l o.d_high));
}

pub near_again : (a : ℕ) (b c : Bounds) → 1 ≤ a → IsTight b → IsTight c → ((AreNear a b c → ⊥) → ⊥) → AreNear a b c
near_again a b c one t u h = bounds-AreNear a b c one t u (overlap_again _ _ (λ no. h (λ n. no (AreNear-bounds a b c n))))

-- ---- ranks
pub member : {A : Type 0} (xs : List A) (i : ℕ) (d : A) → i < length xs → IsOneOf (get_or xs i d) xs
unfolding IsOneOf
member [] i d l = absurd (omega (arith, l))
member (x ∷ xs) zero d l = inl refl
member (x ∷ xs) (suc i) d l = inr (member xs i d (omega (arith, l)))

sorted_at : {A : Type 0} (R : A → A → Type 0) (xs : List A) (j i : ℕ) (d : A) → IsSortedBy R xs → j < i → i < length xs → R (get_or xs j d) (get_or xs i d)
unfolding IsSortedBy
sorted_at R [] j i d h l m = absurd (omega (arith, m))
sorted_at R (x ∷ xs) j zero d h l m = absurd (omega (arith, l))
sorted_at R (x ∷ xs) zero (suc i) d h l m = h.0 (get_or xs i d) (member xs i d (omega (arith, m)))
sorted_at R (x ∷ xs) (suc j) (suc i) d h l m = sorted_at R xs j i d h.1 (omega (arith, l)) (omega (arith, m))

pub ranks_above : (b : Board) (j i : ℕ) → j < i → i < length (ranked b) → Outranks b (task_at b j) (task_at b i)
unfolding task_at
ranks_above b j i l m = sorted_at (Outranks b) (ranked b) j i (no_task b) (ranked_is b).sorted l m

not_both : (b : Board) (s t : Task) → Outranks b s t → Outranks b t s → ⊥
not_both b s t h k = omega (arith, h, k)

not_self : (b : Board) (s : Task) → Outranks b s s → ⊥
not_self b s h = omega (arith, h)

pub above_ranks : (b : Board) (j i : ℕ) → j < length (ranked b) → i < length (ranked b) → Outranks b (task_at b j) (task_at b i) → j < i
above_ranks b j i lj li o = elim (cases_lt j i) [
  | inl l ↦ l
  | inr g ↦ elim (cases_eq i j) [
    | inl e ↦ absurd (not_self b (task_at b i) (subst (λ (k : ℕ). Outranks b (task_at b k) (task_at b i)) (sym e) o))
    | inr ne ↦ absurd (not_both b (task_at b j) (task_at b i) o (ranks_above b i j (omega (arith, g, ne)) lj))
  ]
]

pub ranks_law : ReachByRankLaw
unfolding zone_at
ranks_law b j i lj li = (
  λ r. record { above = ranks_above b j i r.above li; layer = r.layer; foreign = r.foreign; near = r.near },
  λ r. record { above = above_ranks b j i lj li r.above; layer = r.layer; foreign = r.foreign; near = r.near },
)

-- ---- frames
pub frame_is : (ps : List Point) (o : Bounds) → IsSimple ps → All (λ (p : Point). Within o p.x p.y) ps → ((c : Bounds) (q : PlanePoint) → All (λ (p : Point). Within c p.x p.y) ps → In o q → In c q)
    → IsOct o → o ≡ around ps
frame_is ps o s holds least oct =
    let three : 3 ≤ length ps = s.three in
    one_least_law ps o (omega (arith, three)) (record { tight = oct.tight; holds = holds; least = least })

pub frames_near : (a : ℕ) (o p f g : Bounds) (apart : Bool) → 1 ≤ a → IsOct f → IsOct g → f ≡ o → g ≡ p → IsTrue apart ↔ (AreNear a f g → ⊥) → IsTrue (not apart) ↔ AreNear a o p
frames_near a o p f g apart one hf hg ef eg h = rw (← ef, ← eg) (by_cases apart h)
  where
    by_cases : (c : Bool) → IsTrue c ↔ (AreNear a f g → ⊥) → IsTrue (not c) ↔ AreNear a f g
    by_cases true k = (λ e. absurd (false≢true e), λ n. absurd (k.0 refl n))
    by_cases false k = (λ e. near_again a f g one hf.tight hg.tight (λ no. false≢true (k.1 no)), λ n. refl)

pub need_some : (a b floor n : ℕ) → 1 ≤ floor → n ≡ (max (max a b) floor + 1) / 2 → 1 ≤ n
need_some a b floor n h e = omega (arith, h, e)

-- ---- reaching
there : (b : Board) (s t : Task) (y z : Zone) → y ≡ task_zone b s → z ≡ task_zone b t → IsAboveForeign y s z t
    → AreNear (zone_need b (settings_of y) (settings_of z)) (around z.outline) (around y.outline) → ReachesTask b s t
there b s t y z ey ez a n =
    let above : IsAboveForeign (task_zone b s) s (task_zone b t) t = subst (λ (v : Zone). IsAboveForeign (task_zone b s) s v t) ez (subst (λ (u : Zone). IsAboveForeign u s z t) ey a) in
    let near = subst (λ (v : Zone). AreNear (zone_need b (settings_of (task_zone b s)) (settings_of v)) (around v.outline) (around (task_zone b s).outline)) ez
    (subst (λ (u : Zone). AreNear (zone_need b (settings_of u) (settings_of z)) (around z.outline) (around u.outline)) ey n) in
    record { above = above.above; layer = above.layer; foreign = above.foreign; near = near }

above_from : (b : Board) (s t : Task) (y z : Zone) → y ≡ task_zone b s → z ≡ task_zone b t → ReachesTask b s t → IsAboveForeign y s z t
above_from b s t y z ey ez r =
    subst (λ (u : Zone). IsAboveForeign u s z t) (sym ey) (subst (λ (v : Zone). IsAboveForeign (task_zone b s) s v t) (sym ez) (record { layer = r.layer; foreign = r.foreign; above = r.above }))

near_from : (b : Board) (s t : Task) (y z : Zone) → y ≡ task_zone b s → z ≡ task_zone b t → ReachesTask b s t
    → AreNear (zone_need b (settings_of y) (settings_of z)) (around z.outline) (around y.outline)
near_from b s t y z ey ez r =
    subst (λ (u : Zone). AreNear (zone_need b (settings_of u) (settings_of z)) (around z.outline) (around u.outline)) (sym ey)
    (subst (λ (v : Zone). AreNear (zone_need b (settings_of (task_zone b s)) (settings_of v)) (around v.outline) (around (task_zone b s).outline)) (sym ez) r.near)

pub reaches : (b : Board) (s t : Task) (y z : Zone) (above near : Bool) → y ≡ task_zone b s → z ≡ task_zone b t → IsTrue above ↔ IsAboveForeign y s z t
    → IsTrue near ↔ AreNear (zone_need b (settings_of y) (settings_of z)) (around z.outline) (around y.outline) → IsTrue (above && near) ↔ ReachesTask b s t
reaches b s t y z true true ey ez a n = (λ e. there b s t y z ey ez (a.0 refl) (n.0 refl), λ r. refl)
reaches b s t y z true false ey ez a n = (λ e. absurd (false≢true e), λ r. n.1 (near_from b s t y z ey ez r))
reaches b s t y z false near ey ez a n = (λ e. absurd (false≢true e), λ r. a.1 (above_from b s t y z ey ez r))
