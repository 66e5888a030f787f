-- A fill keeps its clearances, in nanometres before rounding.
use Rattle.std.proofs.Common.{◌≡◌, refl, sym, ◌∙◌, ap, subst, ℕ, ◌+◌, ◌*◌, ◌≤◌, ◌<◌, ◌⊎◌, inl, inr, arith, mul_comm, List}
use Rattle.std.specs.Prelude.{ℤ, max, pos, ◌+ℤ◌, ◌-ℤ◌, ◌*ℤ◌, ◌≤ℤ◌, true, false, ◌==◌, ◌||◌, not, flat_map, unwrap_or}
use Rattle.std.proofs.lemmas.Int.{ints}
use Rattle.std.proofs.lemmas.Bool.{cases_lt}
use Rattle.std.proofs.Math.Nat.{mul-le-mul_right}
use Rattle.grid_num.proofs.Products.{mul_sub}
use Rattle.grid_num.proofs.Roots.{square_le}
use Rattle.plane.specs.Plane.{PlanePoint, Bounds, In, IsSame, minus, scaled_dist_sq, AreNear}
use Rattle.plane.proofs.Euclid.{euclid}
use Rattle.plane.proofs.Points.{mul_mul, In-same}
use Rattle.copper_shape.specs.Shapes.{Copper}
use Rattle.touching.specs.Core.{InCore, InCopper, IsReached}
use Rattle.touching.proofs.Ring.{distrib_sub, times_diff}
use Rattle.hulls.specs.Hulls.{hulls_of, in_units}
use Rattle.hulls.specs.Laws.{nm_in_units}
use Rattle.hulls.proofs.Copper.{copper_law}
use Rattle.classes.specs.Classes.{IsOneOf}
use Rattle.board_language.specs.declared.board.Pad.{Pad}
use Rattle.board_language.specs.Board.{Board}
use Rattle.fill_rules.specs.Tasks.{Settings, zone_at, layer_at}
use Rattle.board_language.specs.Copper.{pad_hulls}
use Rattle.fill_rules.specs.Needs.{units, is_foreign, item_need, zone_need, edge_need, Need, at_need, keep_when}
use Rattle.fill_rules.specs.Reliefs.{gap_of, is_thermal, thermal_needs}
use Rattle.fill_rules.specs.Distance.{IsWithin}
use Rattle.fill_rules.specs.Fill.{brush_at, fill_of}
use Rattle.fill_rules.specs.InWords.{IsApart, IsBarred}
use Rattle.fill_rules.specs.Clearance.{IsAway, item_clearance, zone_clearance, relief_gap, CoreClearanceLaw, CopperClearanceLaw, EdgeClearanceLaw, ArcClearanceLaw, ZoneClearanceLaw, ReliefLaw}
use Rattle.board_language.proofs.Members.{flat_one_of, map_one_of}
use Rattle.fill_rules.proofs.Members.{is_when, some_one_of}
use Rattle.fill_rules.proofs.Fills.{fills_meet}
use Rattle.fill_rules.proofs.Distance.{keeps_distance}
use Rattle.fill_rules.proofs.InWords.{item_need_law}
use Rattle.fill_rules.proofs.Anchors.{foreign_law}
use Rattle.fill_rules.proofs.Kept.{fill_clear, barred, copper_kept, edge_kept, arc_kept, zone_kept}

-- ---- what is a units apart is d halves apart, where d is at most 4 a
squared : (d a s : ℕ) → d ≤ 4 * a → (d * s) * (d * s) ≤ 16 * ((a * s) * (a * s))
squared d a s h =
    let l : d * s ≤ (4 * a) * s = mul-le-mul_right s h in
    let m : (d * s) * (d * s) ≤ ((4 * a) * s) * ((4 * a) * s) = square_le (d * s) ((4 * a) * s) l in
    omega (arith, m)

sixteen : (m n : ℕ) (z : ℤ) → m ≤ 16 * n → pos n ≤ℤ z → pos m ≤ℤ (pos 16 *ℤ z)
sixteen m n z h l = omega (arith, ints, h, l)

away : (d a : ℕ) (p q : PlanePoint) → d ≤ 4 * a → IsApart a p q → IsAway d p q
unfolding IsApart IsAway
away d a p q h l =
    sixteen ((d * (minus p q).scale) * (d * (minus p q).scale)) ((a * (minus p q).scale) * (a * (minus p q).scale)) (scaled_dist_sq p q)
    (squared d a (minus p q).scale h) l

-- nanometres in halves are at most the units, rounded up, in halves
rounded : (n : ℕ) → 2 * n ≤ 4 * units n
rounded n = omega arith

pub copper_clear : CopperClearanceLaw
copper_clear b i own c p q f k w =
    away (2 * item_clearance b (zone_at b i) own) (item_need b (zone_at b i) own) p (in_units q)
    (rounded (item_clearance b (zone_at b i) own)) (copper_kept b i own c p q f k w)

pub edge_clear : EdgeClearanceLaw
edge_clear b i e p q f k n o =
    away (2 * b.rules.edge) (edge_need b) p (nm_in_units q) (rounded b.rules.edge) (edge_kept b i e p q f k n o)

pub arc_clear : ArcClearanceLaw
arc_clear b i e p q f k n o =
    away (2 * b.rules.edge) (edge_need b) p (nm_in_units q) (rounded b.rules.edge) (arc_kept b i e p q f k n o)

-- ---- from the core
-- a point in units, as a point in halves
abbrev in_fours : PlanePoint → PlanePoint
in_fours h = record { x = pos 4 *ℤ h.x; y = pos 4 *ℤ h.y; scale = h.scale; positive = h.positive }

back_again : (h : PlanePoint) → IsSame (in_units (in_fours h)) h
back_again h = record { x = along h.x; y = along h.y }
  where
    along : (x : ℤ) → pos h.scale *ℤ (pos 4 *ℤ x) ≡ pos (4 * h.scale) *ℤ x
    along x = mul_mul h.scale 4 x ∙ ap (λ (n : ℕ). pos n *ℤ x) (mul_comm h.scale 4)

-- squares are those of the opposite
opposite : (u v : ℤ) → (u -ℤ v) *ℤ (u -ℤ v) ≡ (v -ℤ u) *ℤ (v -ℤ u)
opposite u v =
    omega (
      arith,
      ints,
      times_diff u v (u -ℤ v),
      distrib_sub u u v,
      distrib_sub v u v,
      times_diff v u (v -ℤ u),
      distrib_sub v v u,
      distrib_sub u v u,
    )

-- the step from q to h is the opposite of that from h to q, whichever unit it is told in
step_back : (j k : ℕ) (x y : ℤ)
    → (pos k *ℤ x -ℤ pos j *ℤ (pos 4 *ℤ y)) *ℤ (pos k *ℤ x -ℤ pos j *ℤ (pos 4 *ℤ y))
    ≡ (pos (4 * j) *ℤ y -ℤ pos k *ℤ x) *ℤ (pos (4 * j) *ℤ y -ℤ pos k *ℤ x)
step_back j k x y =
    let e : pos j *ℤ (pos 4 *ℤ y) ≡ pos (4 * j) *ℤ y = mul_mul j 4 y ∙ ap (λ (n : ℕ). pos n *ℤ y) (mul_comm j 4) in
    subst (λ (z : ℤ). (pos k *ℤ x -ℤ z) *ℤ (pos k *ℤ x -ℤ z) ≡ (pos (4 * j) *ℤ y -ℤ pos k *ℤ x) *ℤ (pos (4 * j) *ℤ y -ℤ pos k *ℤ x))
    (sym e) (opposite (pos k *ℤ x) (pos (4 * j) *ℤ y))

quarter : (r j k : ℕ) (s t : ℤ) → s ≡ t → (pos 16 *ℤ t) ≤ℤ pos ((r * (k * (4 * j))) * (r * (k * (4 * j)))) → s ≤ℤ pos ((r * (j * k)) * (r * (j * k)))
quarter r j k s t e h =
    let f : (r * (k * (4 * j))) * (r * (k * (4 * j))) ≡ 16 * ((r * (j * k)) * (r * (j * k))) = omega arith in
    let g : (pos 16 *ℤ t) ≤ℤ pos (16 * ((r * (j * k)) * (r * (j * k)))) = subst (λ (n : ℕ). (pos 16 *ℤ t) ≤ℤ pos n) f h in
    omega (arith, ints, e, g)

-- what is within the radius of a point of the core is copper
within_copper : (c : Copper) (q h : PlanePoint) → InCore c.core q → IsWithin c.radius h (in_units q) → InCopper c.core c.radius (in_fours h)
unfolding InCopper IsReached minus
within_copper c q h i w = (
  q,
  i,
  quarter c.radius q.scale h.scale _ _ (sum_of_two (step_back q.scale h.scale q.x h.x) (step_back q.scale h.scale q.y h.y)) w.close,
)
  where
    sum_of_two : {a b u v : ℤ} → a ≡ u → b ≡ v → a +ℤ b ≡ u +ℤ v
    sum_of_two e f = omega (arith, ints, e, f)

-- so it is in one of the hulls
in_hull : (c : Copper) (q h : PlanePoint) → InCore c.core q → IsWithin c.radius h (in_units q) → (o : Bounds) × IsOneOf o (hulls_of c.core c.radius) × In o h
in_hull c q h i w =
    let s = some_one_of (λ (o : Bounds). In o (in_units (in_fours h))) (hulls_of c.core c.radius) (copper_law c.core c.radius (in_fours h) (within_copper c q h i w)) in
    (s.0, s.1, In-same s.0 (in_units (in_fours h)) h (back_again h) s.2)

-- a greater distance holds the lesser
farther : (d e : ℕ) (p q : PlanePoint) → d ≤ e → pos ((e * (p.scale * q.scale)) * (e * (p.scale * q.scale))) ≤ℤ (pos 16 *ℤ scaled_dist_sq p q) → IsAway d p q
unfolding IsAway minus
farther d e p q l h =
    let s = p.scale * q.scale in
    let m : d * s ≤ e * s = mul-le-mul_right s l in
    let n : (d * s) * (d * s) ≤ (e * s) * (e * s) = square_le (d * s) (e * s) m in
    lesser ((d * s) * (d * s)) ((e * s) * (e * s)) _ n h
  where
    lesser : (m n : ℕ) (z : ℤ) → m ≤ n → pos n ≤ℤ z → pos m ≤ℤ z
    lesser m n z h l = omega (arith, ints, h, l)

pub core_clear : CoreClearanceLaw
unfolding AreNear
core_clear b one i own c p q f k w =
    let a = item_need b (zone_at b i) own in
    let m = fill_clear b (fill_of b) i p ((fills_meet b i p).0 f) in
    farther (2 * item_clearance b (zone_at b i) own + c.radius) (4 * a + c.radius) p (in_units q) (wide (item_clearance b (zone_at b i) own) c.radius)
    (keeps_distance a c.radius (some (item_need_law b (zone_at b i) own).third) p (in_units q)
    (λ h v n. let s = in_hull c q h w v in m.2.items (record { oct = s.0; need = a }) (barred b (zone_at b i) (layer_at b i) own c s.0 k s.1) (p, h, m.1, s.2, n)))
  where
    wide : (n r : ℕ) → 2 * n + r ≤ 4 * units n + r
    wide n r = omega arith

    some : units b.rules.floor ≤ item_need b (zone_at b i) own → 1 ≤ item_need b (zone_at b i) own
    some l = omega (arith, one, l)

-- ---- between two fills
apart_back : (a : ℕ) (p q : PlanePoint) → IsApart a q p → IsApart a p q
unfolding IsApart minus
apart_back a p q h =
    let g = subst (λ (s : ℕ). pos ((a * s) * (a * s)) ≤ℤ scaled_dist_sq q p) (mul_comm q.scale p.scale) h in
    omega (arith, ints, g, opposite (pos p.scale *ℤ q.x) (pos q.scale *ℤ p.x), opposite (pos p.scale *ℤ q.y) (pos q.scale *ℤ p.y))

max_turned : (m n : ℕ) → max m n ≡ max n m
max_turned m n = elim (cases_lt m n) [ inl l ↦ omega arith | inr l ↦ omega arith ]

clearance_turned : (b : Board) (y z : Settings) → zone_clearance b y z ≡ zone_clearance b z y
clearance_turned b y z = ap (λ (n : ℕ). max n b.rules.floor) (max_turned y.clearance z.clearance)

foreign_back : (m n : ℕ) → is_foreign m n ≡ true → is_foreign n m ≡ true
foreign_back m n h = foreign_as n m (elim ((foreign_law m n).0 h) [ inl f ↦ inl (λ e. f (sym e)) | inr z ↦ zeroed m n z ])
  where
    foreign_as : (m n : ℕ) → ((m ≡ n → ⊥) ⊎ (m ≡ 0)) → is_foreign m n ≡ true
    foreign_as m n = (foreign_law m n).1

    zeroed : (m n : ℕ) → m ≡ 0 → ((n ≡ m → ⊥) ⊎ (n ≡ 0))
    zeroed m n e = elim (cases_lt 0 n) [ inl l ↦ inl (λ f. omega (arith, e, f, l)) | inr l ↦ inr (omega (arith, l)) ]

pub zones_clear : ZoneClearanceLaw
zones_clear b i j p q n l g f h = elim (cases_lt i j) [
  | inl below ↦
      away (2 * zone_clearance b (zone_at b i) (zone_at b j)) (zone_need b (zone_at b i) (zone_at b j)) p q
      (rounded (zone_clearance b (zone_at b i) (zone_at b j)))
      (apart_back (zone_need b (zone_at b i) (zone_at b j)) p q (zone_kept b i j q p below l g h f))
  | inr above ↦
      subst (λ (d : ℕ). IsAway (2 * d) p q) (clearance_turned b (zone_at b j) (zone_at b i))
      (away (2 * zone_clearance b (zone_at b j) (zone_at b i)) (zone_need b (zone_at b j) (zone_at b i)) p q
      (rounded (zone_clearance b (zone_at b j) (zone_at b i)))
      (zone_kept b j i p q (lower above) (sym l) (foreign_back (zone_at b i).net (zone_at b j).net g) f h))
]
  where
    lower : j ≤ i → j < i
    lower a = elim (cases_lt j i) [ inl o ↦ o | inr o ↦ absurd (n (omega (arith, a, o))) ]

-- ---- round pads with spokes
gap_at_most : (g : ℕ) → 2 * max 2 g ≤ 4 * max 1 (units g)
gap_at_most g = elim (cases_lt 2 g) [ inl l ↦ omega (arith, l) | inr l ↦ elim (cases_lt 1 (units g)) [ inl m ↦ omega (arith, l, m) | inr m ↦ omega (arith, l, m) ] ]

relieved : (b : Board) (z : Settings) (l : ℕ) (a : Pad) (o : Bounds) → IsOneOf a b.pads → is_thermal z l a ≡ true → IsOneOf o (pad_hulls a)
    → IsOneOf (record { oct = o; need = gap_of z a }) (thermal_needs b z l)
unfolding thermal_needs
relieved b z l a o i e g =
    let n : Need = record { oct = o; need = gap_of z a } in
    flat_one_of (λ (p : Pad). keep_when (is_thermal z l p) (at_need (gap_of z p) (pad_hulls p))) n a b.pads i
    (is_when (is_thermal z l a) n (at_need (gap_of z a) (pad_hulls a)) e (map_one_of (λ (h : Bounds). record { oct = h; need = gap_of z a }) o (pad_hulls a) g))

pub relief_clear : ReliefLaw
unfolding IsApart AreNear pad_hulls
relief_clear b i c a p q k at one e w =
    let z = zone_at b i in
    let s = some_one_of (λ (o : Bounds). In o (in_units q)) (hulls_of a.shape.core a.shape.radius) (copper_law a.shape.core a.shape.radius q w) in
    away (2 * relief_gap z a) (gap_of z a) p (in_units q) (gap_at_most (unwrap_or a.gap z.gap))
    (euclid (gap_of z a) p (in_units q)
    (λ n. k.allowed.gaps (record { oct = s.0; need = gap_of z a }) (relieved b z (layer_at b i) a s.0 one e s.1) (p, in_units q, at, s.2, n)))
