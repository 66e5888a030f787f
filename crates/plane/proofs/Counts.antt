-- The crossing of a level, upright or slanted edge in linear form.
use Rattle.std.proofs.Common.{◌≡◌, refl, sym, ◌∙◌, ap, ℕ, zero, suc, ◌⊎◌, inl, inr, arith, true, false, cond}
use Rattle.std.specs.Prelude.{ℤ, pos, negsuc, neg_ℤ, ◌+ℤ◌, ◌-ℤ◌, ◌*ℤ◌, ◌≤ℤ◌, ◌<ℤ◌, int_lt, int_le, ◌&&◌}
use Rattle.std.proofs.lemmas.Int.{ints, by_lt_z}
use lib.IntN.{zero-*ℤ, *ℤ-zero, *ℤ-negsuc, *ℤ_comm}
use Rattle.plane.specs.Plane.{PlanePoint}
use Rattle.grid_num.proofs.Products.{mul_add, mul_sub, mul_lt, mul_lt_back}
use Rattle.grid_num.specs.declared.Point.{Point}
use Rattle.plane.specs.Covering.{down_crossing}

-- n counts whether y is from low up to high, and u is beyond the line
abbrev pub Counts : ℕ → ℤ → ℤ → ℤ → ℤ → ℤ → Type 0
Counts n low high y line u =
    ((n ≡ 1) × (low ≤ℤ y) × (y <ℤ high) × (line <ℤ u)) ⊎ ((n ≡ 0) × ((y <ℤ low) ⊎ ((high ≤ℤ y) ⊎ (u ≤ℤ line))))

pub less_true : (a b : ℤ) → a <ℤ b → int_lt a b ≡ true
less_true a b h = grind (arith, ints)

pub less_false : (a b : ℤ) → b ≤ℤ a → int_lt a b ≡ false
less_false a b h = grind (arith, ints)

pub most_true : (a b : ℤ) → a ≤ℤ b → int_le a b ≡ true
most_true a b h = grind (arith, ints)

pub most_false : (a b : ℤ) → b <ℤ a → int_le a b ≡ false
most_false a b h = grind (arith, ints)

counts_from : (low high y c d line u : ℤ)
    → (low ≤ℤ y → y <ℤ high → c <ℤ d → line <ℤ u) → (low ≤ℤ y → y <ℤ high → line <ℤ u → c <ℤ d)
    → Counts (cond (int_le low y && (int_lt y high && int_lt c d)) 1 0) low high y line u
counts_from low high y c d line u f g =
    by_lt_z {P = Counts (cond (int_le low y && (int_lt y high && int_lt c d)) 1 0) low high y line u} y low
    (λ above. let e = most_false low y above in rw e (inr (refl, inl above)))
    (λ from. let e = most_true low y from in
    rw e (by_lt_z {P = Counts (cond (true && (int_lt y high && int_lt c d)) 1 0) low high y line u} y high
    (λ below. let f1 = less_true y high below in rw f1
    (by_lt_z {P = Counts (cond (true && (true && int_lt c d)) 1 0) low high y line u} c d
    (λ l. let t = less_true c d l in rw t (inl (refl, from, below, f from below l)))
    (λ l. let t = less_false c d l in rw t (inr (refl, inr (inr (by_lt_z {P = u ≤ℤ line} line u (λ m. let k = g from below m in omega (arith, ints)) (λ m. m))))))))
    (λ past. let f1 = less_false y high past in rw f1 (inr (refl, inr (inl past))))))

-- ---- products by a positive number
pub scale_less : (d c e : ℤ) → pos 0 <ℤ d → c <ℤ e → (d *ℤ c) <ℤ (d *ℤ e)
scale_less (pos n) c e h l = mul_lt n c e (omega (arith, ints)) l
scale_less (negsuc n) c e h l = absurd (omega (arith, ints))

pub less_back : (d c e : ℤ) → pos 0 <ℤ d → (d *ℤ c) <ℤ (d *ℤ e) → c <ℤ e
less_back (pos n) c e h l = mul_lt_back n c e l
less_back (negsuc n) c e h l = absurd (omega (arith, ints))

pub neg_pos : (n : ℕ) (c : ℤ) → neg_ℤ (pos n) *ℤ c ≡ neg_ℤ (pos n *ℤ c)
neg_pos zero c = omega (arith, ints, zero-*ℤ c)
neg_pos (suc n) c = *ℤ_comm (negsuc n) c ∙ (*ℤ-negsuc c n ∙ ap neg_ℤ (*ℤ_comm c (pos (suc n))))

zero_less : (c : ℤ) → pos 0 -ℤ c ≡ neg_ℤ c
zero_less c = omega (arith, ints)

pos_neg : (n : ℕ) (c : ℤ) → pos n *ℤ neg_ℤ c ≡ neg_ℤ (pos n *ℤ c)
pos_neg n c = omega (arith, ints, mul_sub n (pos 0) c, *ℤ-zero (pos n), ap (λ (z : ℤ). pos n *ℤ z) (zero_less c))

neg_neg : (c : ℤ) → neg_ℤ (neg_ℤ c) ≡ c
neg_neg c = omega (arith, ints)

neg_times : (d c : ℤ) → neg_ℤ d *ℤ c ≡ d *ℤ neg_ℤ c
neg_times (pos n) c = neg_pos n c ∙ sym (pos_neg n c)
neg_times (negsuc n) c = sym (neg_pos (suc n) (neg_ℤ c) ∙ (ap neg_ℤ (pos_neg (suc n) c) ∙ neg_neg (pos (suc n) *ℤ c)))

-- dx *ℤ c for each slope
pub level_run : (dx dy c : ℤ) → dx ≡ pos 0 → dx *ℤ c ≡ dy *ℤ pos 0
level_run dx dy c e = ap (λ (z : ℤ). z *ℤ c) e ∙ (zero-*ℤ c ∙ sym (*ℤ-zero dy))

pub rise_run : (dx dy c : ℤ) → dx ≡ dy → dx *ℤ c ≡ dy *ℤ c
rise_run dx dy c e = ap (λ (z : ℤ). z *ℤ c) e

pub fall_run : (dx dy c : ℤ) → dx ≡ neg_ℤ dy → dx *ℤ c ≡ dy *ℤ neg_ℤ c
fall_run dx dy c e = ap (λ (z : ℤ). z *ℤ c) e ∙ neg_times dy c

-- ---- the three kinds of edges that go down
lower_end : (k : ℕ) (a b y : ℤ) → (pos k *ℤ a) ≤ℤ y → y <ℤ (pos k *ℤ b) → pos 0 <ℤ (b -ℤ a)
lower_end k a b y h l = let m = mul_lt_back k a b (omega (arith, ints)) in omega (arith, ints)

-- where the way across is dy times m, so that the line of the edge is at m
counts_run : (low high y line u dx dy c m e : ℤ) → (low ≤ℤ y → y <ℤ high → pos 0 <ℤ dy) → dx *ℤ c ≡ dy *ℤ m → e -ℤ m ≡ u -ℤ line
    → Counts (cond (int_le low y && (int_lt y high && int_lt (dx *ℤ c) (dy *ℤ e))) 1 0) low high y line u
counts_run low high y line u dx dy c m e d run is =
    counts_from low high y (dx *ℤ c) (dy *ℤ e) line u
    (λ f l h. let s = less_back dy m e (d f l) (rw (← run) h) in omega (arith, ints))
    (λ f l h. let g : m <ℤ e = omega (arith, ints) in rw run (scale_less dy m e (d f l) g))

pub upright : (a b : Point) (p : PlanePoint) → a.x ≡ b.x
    → Counts (down_crossing a b p) (pos p.scale *ℤ a.y) (pos p.scale *ℤ b.y) p.y (pos p.scale *ℤ a.x) p.x
upright a b p e =
    counts_run (pos p.scale *ℤ a.y) (pos p.scale *ℤ b.y) p.y (pos p.scale *ℤ a.x) p.x
    (b.x -ℤ a.x) (b.y -ℤ a.y) (p.y -ℤ pos p.scale *ℤ a.y) (pos 0) (p.x -ℤ pos p.scale *ℤ a.x)
    (lower_end p.scale a.y b.y p.y)
    (level_run (b.x -ℤ a.x) (b.y -ℤ a.y) (p.y -ℤ pos p.scale *ℤ a.y) (omega (arith, ints)))
    (omega (arith, ints))

pub rise : (a b : Point) (p : PlanePoint) → b.x -ℤ a.x ≡ b.y -ℤ a.y
    → Counts (down_crossing a b p) (pos p.scale *ℤ a.y) (pos p.scale *ℤ b.y) p.y (pos p.scale *ℤ (a.x -ℤ a.y)) (p.x -ℤ p.y)
rise a b p e =
    counts_run (pos p.scale *ℤ a.y) (pos p.scale *ℤ b.y) p.y (pos p.scale *ℤ (a.x -ℤ a.y)) (p.x -ℤ p.y)
    (b.x -ℤ a.x) (b.y -ℤ a.y) (p.y -ℤ pos p.scale *ℤ a.y) (p.y -ℤ pos p.scale *ℤ a.y) (p.x -ℤ pos p.scale *ℤ a.x)
    (lower_end p.scale a.y b.y p.y)
    (rise_run (b.x -ℤ a.x) (b.y -ℤ a.y) (p.y -ℤ pos p.scale *ℤ a.y) e)
    (omega (arith, ints, mul_sub p.scale a.x a.y))

pub fall : (a b : Point) (p : PlanePoint) → b.x -ℤ a.x ≡ neg_ℤ (b.y -ℤ a.y)
    → Counts (down_crossing a b p) (pos p.scale *ℤ a.y) (pos p.scale *ℤ b.y) p.y (pos p.scale *ℤ (a.x +ℤ a.y)) (p.x +ℤ p.y)
fall a b p e =
    counts_run (pos p.scale *ℤ a.y) (pos p.scale *ℤ b.y) p.y (pos p.scale *ℤ (a.x +ℤ a.y)) (p.x +ℤ p.y)
    (b.x -ℤ a.x) (b.y -ℤ a.y) (p.y -ℤ pos p.scale *ℤ a.y) (neg_ℤ (p.y -ℤ pos p.scale *ℤ a.y)) (p.x -ℤ pos p.scale *ℤ a.x)
    (lower_end p.scale a.y b.y p.y)
    (fall_run (b.x -ℤ a.x) (b.y -ℤ a.y) (p.y -ℤ pos p.scale *ℤ a.y) e)
    (omega (arith, ints, mul_add p.scale a.x a.y))

-- an edge that goes up or is level has no crossing on its way down
pub none_up : (a b : Point) (p : PlanePoint) → b.y ≤ℤ a.y → down_crossing a b p ≡ 0
none_up a b p h =
    elim (counts_from (pos p.scale *ℤ a.y) (pos p.scale *ℤ b.y) p.y
    ((b.x -ℤ a.x) *ℤ (p.y -ℤ pos p.scale *ℤ a.y)) ((b.y -ℤ a.y) *ℤ (p.x -ℤ pos p.scale *ℤ a.x)) (pos 0) (pos 1)
    (λ f l c. omega (arith, ints))
    (λ f l c. absurd (let m = lower_end p.scale a.y b.y p.y f l in omega (arith, ints))))
    [ inl w ↦ absurd (let m = lower_end p.scale a.y b.y p.y w.1 w.2 in omega (arith, ints)) | inr w ↦ w.0 ]
