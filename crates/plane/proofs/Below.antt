-- The crossings of one edge with the end of greater y in place of that of lesser y.
use Rattle.std.proofs.Common.{◌≡◌, refl, ℕ, ◌⊎◌, inl, inr, arith, true, cond}
use Rattle.std.specs.Prelude.{ℤ, pos, neg_ℤ, ◌+ℤ◌, ◌-ℤ◌, ◌*ℤ◌, ◌≤ℤ◌, ◌<ℤ◌, int_lt, int_le, ◌&&◌}
use Rattle.std.proofs.lemmas.Int.{ints, by_lt_z}
use Rattle.plane.specs.Plane.{PlanePoint}
use Rattle.grid_num.proofs.Products.{mul_add, mul_sub, mul_lt_back}
use Rattle.grid_num.specs.declared.Point.{Point}
use Rattle.plane.specs.Ends.{down_crossing_below}
use Rattle.plane.proofs.Counts.{less_true, less_false, most_true, most_false, less_back, scale_less, level_run, rise_run, fall_run}

-- n counts whether y is from above low down to high, and u is beyond the line
abbrev pub CountsBelow : ℕ → ℤ → ℤ → ℤ → ℤ → ℤ → Type 0
CountsBelow n low high y line u =
    ((n ≡ 1) × (low <ℤ y) × (y ≤ℤ high) × (line <ℤ u)) ⊎ ((n ≡ 0) × ((y ≤ℤ low) ⊎ ((high <ℤ y) ⊎ (u ≤ℤ line))))

pub below_from : (low high y c d line u : ℤ)
    → (low <ℤ y → y ≤ℤ high → c <ℤ d → line <ℤ u) → (low <ℤ y → y ≤ℤ high → line <ℤ u → c <ℤ d)
    → CountsBelow (cond (int_lt low y && (int_le y high && int_lt c d)) 1 0) low high y line u
below_from low high y c d line u f g =
    by_lt_z {P = CountsBelow (cond (int_lt low y && (int_le y high && int_lt c d)) 1 0) low high y line u} low y
    (λ from. let e = less_true low y from in
    rw e (by_lt_z {P = CountsBelow (cond (true && (int_le y high && int_lt c d)) 1 0) low high y line u} high y
    (λ past. let f1 = most_false y high past in rw f1 (inr (refl, inr (inl past))))
    (λ below. let f1 = most_true y high below in rw f1
    (by_lt_z {P = CountsBelow (cond (true && (true && int_lt c d)) 1 0) low high y line u} c d
    (λ l. let t = less_true c d l in rw t (inl (refl, from, below, f from below l)))
    (λ l. let t = less_false c d l in rw t (inr (refl, inr (inr (by_lt_z {P = u ≤ℤ line} line u (λ m. let k = g from below m in omega (arith, ints)) (λ m. m))))))))))
    (λ above. let e = less_false low y above in rw e (inr (refl, inl above)))

pub lower_end : (k : ℕ) (a b y : ℤ) → (pos k *ℤ a) <ℤ y → y ≤ℤ (pos k *ℤ b) → pos 0 <ℤ (b -ℤ a)
lower_end k a b y h l = let m = mul_lt_back k a b (omega (arith, ints)) in omega (arith, ints)

pub below_run : (low high y line u dx dy c m e : ℤ) → (low <ℤ y → y ≤ℤ high → pos 0 <ℤ dy) → dx *ℤ c ≡ dy *ℤ m → e -ℤ m ≡ u -ℤ line
    → CountsBelow (cond (int_lt low y && (int_le y high && int_lt (dx *ℤ c) (dy *ℤ e))) 1 0) low high y line u
below_run low high y line u dx dy c m e d run is =
    below_from low high y (dx *ℤ c) (dy *ℤ e) line u
    (λ f l h. let s = less_back dy m e (d f l) (rw (← run) h) in omega (arith, ints))
    (λ f l h. let g : m <ℤ e = omega (arith, ints) in rw run (scale_less dy m e (d f l) g))

pub upright_below : (a b : Point) (p : PlanePoint) → a.x ≡ b.x
    → CountsBelow (down_crossing_below a b p) (pos p.scale *ℤ a.y) (pos p.scale *ℤ b.y) p.y (pos p.scale *ℤ a.x) p.x
upright_below a b p e =
    below_run (pos p.scale *ℤ a.y) (pos p.scale *ℤ b.y) p.y (pos p.scale *ℤ a.x) p.x
    (b.x -ℤ a.x) (b.y -ℤ a.y) (p.y -ℤ pos p.scale *ℤ a.y) (pos 0) (p.x -ℤ pos p.scale *ℤ a.x)
    (lower_end p.scale a.y b.y p.y)
    (level_run (b.x -ℤ a.x) (b.y -ℤ a.y) (p.y -ℤ pos p.scale *ℤ a.y) (omega (arith, ints)))
    (omega (arith, ints))

pub rise_below : (a b : Point) (p : PlanePoint) → b.x -ℤ a.x ≡ b.y -ℤ a.y
    → CountsBelow (down_crossing_below a b p) (pos p.scale *ℤ a.y) (pos p.scale *ℤ b.y) p.y (pos p.scale *ℤ (a.x -ℤ a.y)) (p.x -ℤ p.y)
rise_below a b p e =
    below_run (pos p.scale *ℤ a.y) (pos p.scale *ℤ b.y) p.y (pos p.scale *ℤ (a.x -ℤ a.y)) (p.x -ℤ p.y)
    (b.x -ℤ a.x) (b.y -ℤ a.y) (p.y -ℤ pos p.scale *ℤ a.y) (p.y -ℤ pos p.scale *ℤ a.y) (p.x -ℤ pos p.scale *ℤ a.x)
    (lower_end p.scale a.y b.y p.y)
    (rise_run (b.x -ℤ a.x) (b.y -ℤ a.y) (p.y -ℤ pos p.scale *ℤ a.y) e)
    (omega (arith, ints, mul_sub p.scale a.x a.y))

pub fall_below : (a b : Point) (p : PlanePoint) → b.x -ℤ a.x ≡ neg_ℤ (b.y -ℤ a.y)
    → CountsBelow (down_crossing_below a b p) (pos p.scale *ℤ a.y) (pos p.scale *ℤ b.y) p.y (pos p.scale *ℤ (a.x +ℤ a.y)) (p.x +ℤ p.y)
fall_below a b p e =
    below_run (pos p.scale *ℤ a.y) (pos p.scale *ℤ b.y) p.y (pos p.scale *ℤ (a.x +ℤ a.y)) (p.x +ℤ p.y)
    (b.x -ℤ a.x) (b.y -ℤ a.y) (p.y -ℤ pos p.scale *ℤ a.y) (neg_ℤ (p.y -ℤ pos p.scale *ℤ a.y)) (p.x -ℤ pos p.scale *ℤ a.x)
    (lower_end p.scale a.y b.y p.y)
    (fall_run (b.x -ℤ a.x) (b.y -ℤ a.y) (p.y -ℤ pos p.scale *ℤ a.y) e)
    (omega (arith, ints, mul_add p.scale a.x a.y))
