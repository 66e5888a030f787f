-- A point within reach of a line, and its decision.
use Rattle.std.proofs.Common.{◌≡◌, ℕ, zero, suc, ◌+◌, ◌≤◌, ◌*◌, ◌⊎◌, inl, inr, arith, ap, sym, subst, ◌∙◌}
use Rattle.std.specs.Prelude.{ℤ, pos, negsuc, ◌+ℤ◌, ◌-ℤ◌, ◌*ℤ◌, ◌≤ℤ◌, ◌<ℤ◌}
use Rattle.std.proofs.lemmas.Int.{ints, by_lt_z}
use Rattle.touching.specs.Inner.Decision.{inner, cross, IsPointBeside}
use Rattle.touching.proofs.Short.{IsShort, square_is, squares_are}
use Rattle.touching.proofs.Ring.{mean_square, lagrange}
use Rattle.touching.proofs.Scalars.{near_start, near_end, near_middle, middle_reached}
use Rattle.grid_num.proofs.Products.{mul_add}

-- with w from the line's start to the point and v along the line, the place j / n of the line is within reach
pub record IsNear (r : ℕ) (wx wy vx vy : ℤ) : Type 0 where
  pub n : ℕ
  pub j : ℕ
  pub some : 1 ≤ n
  pub inside : j ≤ n
  pub close : IsShort r n (pos n *ℤ wx -ℤ pos j *ℤ vx) (pos n *ℤ wy -ℤ pos j *ℤ vy)

-- the squared distance at a place, by the inner products
pub spread : (n j : ℕ) (wx wy vx vy : ℤ)
    → inner (pos n *ℤ wx -ℤ pos j *ℤ vx) (pos n *ℤ wy -ℤ pos j *ℤ vy) (pos n *ℤ wx -ℤ pos j *ℤ vx) (pos n *ℤ wy -ℤ pos j *ℤ vy)
    ≡ pos (n * n) *ℤ inner wx wy wx wy -ℤ pos 2 *ℤ (pos (n * j) *ℤ inner wx wy vx vy) +ℤ pos (j * j) *ℤ inner vx vy vx vy
spread n j wx wy vx vy =
    omega (
      arith,
      ints,
      mean_square n j wx vx,
      mean_square n j wy vy,
      mul_add (n * n) (wx *ℤ wx) (wy *ℤ wy),
      mul_add (n * j) (wx *ℤ vx) (wy *ℤ vy),
      mul_add (j * j) (vx *ℤ vx) (vy *ℤ vy),
    )

-- over the four inner products alone
Quadratic : (r n j : ℕ) (f d l : ℤ) → Type 0
Quadratic r n j f d l = (pos (n * n) *ℤ f -ℤ pos 2 *ℤ (pos (n * j) *ℤ d) +ℤ pos (j * j) *ℤ l) ≤ℤ pos (r * (n * n))

Verdict : (r : ℕ) (f d l k : ℤ) → Type 0
Verdict r f d l k =
    ((d ≤ℤ pos 0) × (f ≤ℤ pos r))
    ⊎ (((l ≤ℤ d) × ((f +ℤ l) ≤ℤ (pos r +ℤ pos 2 *ℤ d))) ⊎ ((pos 0 <ℤ d) × (d <ℤ l) × (k ≤ℤ (pos r *ℤ l))))

decided : (r n j f : ℕ) (d : ℤ) (l k : ℕ) → 1 ≤ n → j ≤ n → pos l *ℤ pos f ≡ d *ℤ d +ℤ pos k → Quadratic r n j (pos f) d (pos l)
    → Verdict r (pos f) d (pos l) (pos k)
unfolding Quadratic Verdict
decided r n j f (negsuc e) l k one le is h =
    let s = near_start j n f (e + 1) l r one (omega (arith, ints)) in
    inl (omega (arith, ints), omega (arith, ints))
decided r n j f (pos zero) l k one le is h =
    let s = near_start j n f 0 l r one (omega (arith, ints)) in
    inl (omega (arith, ints), omega (arith, ints))
decided r n j f (pos (suc e)) l k one le is h =
    by_lt_z {P = Verdict r (pos f) (pos (suc e)) (pos l) (pos k)} (pos (suc e)) (pos l)
    (λ less.
    let s = near_middle j n f (suc e) l k r one (omega (arith, ints)) (omega (arith, ints)) in
    inr (inr (omega (arith, ints), less, omega (arith, ints))))
    (λ more.
    let s = near_end j n f (suc e) l r one le (omega (arith, ints)) (omega (arith, ints)) in
    inr (inl (more, omega (arith, ints))))

decided_z : (r n j : ℕ) (f d l k : ℤ) → (a : (m : ℕ) × (f ≡ pos m)) → (b : (m : ℕ) × (l ≡ pos m)) → (c : (m : ℕ) × (k ≡ pos m)) → 1 ≤ n → j ≤ n
    → l *ℤ f ≡ d *ℤ d +ℤ k → Quadratic r n j f d l → Verdict r f d l k
decided_z r n j f d l k a b c one le is h =
    let is1 : pos b.0 *ℤ pos a.0 ≡ d *ℤ d +ℤ pos c.0 = ap (λ (z : ℤ). z *ℤ pos a.0) (sym b.1) ∙ ap (λ (z : ℤ). l *ℤ z) (sym a.1) ∙ is ∙ ap (λ (z : ℤ). d *ℤ d +ℤ z) c.1 in
    let h1 : Quadratic r n j (pos a.0) d (pos b.0) =
    subst (λ (z : ℤ). Quadratic r n j (pos a.0) d z) b.1 (subst (λ (z : ℤ). Quadratic r n j z d l) a.1 h) in
    subst (λ (z : ℤ). Verdict r z d l k) (sym a.1)
    (subst (λ (z : ℤ). Verdict r (pos a.0) d z k) (sym b.1) (subst (λ (z : ℤ). Verdict r (pos a.0) d (pos b.0) z) (sym c.1) (decided r n j a.0 d b.0 c.0 one le is1 h1)))

-- a place that serves
record Place (r : ℕ) (f d l : ℤ) : Type 0 where
  n : ℕ
  j : ℕ
  some : 1 ≤ n
  inside : j ≤ n
  close : Quadratic r n j f d l

placed : (r f : ℕ) (d : ℤ) (l k : ℕ) → pos l *ℤ pos f ≡ d *ℤ d +ℤ pos k → Verdict r (pos f) d (pos l) (pos k) → Place r (pos f) d (pos l)
unfolding Quadratic Verdict
placed r f d l k is (inl h) = record { n = 1; j = 0; some = omega arith; inside = omega arith; close = omega (arith, ints, h.1) }
placed r f d l k is (inr (inl h)) = record { n = 1; j = 1; some = omega arith; inside = omega arith; close = omega (arith, ints, h.1) }
placed r f (pos d) l k is (inr (inr h)) = record {
  n = l;
  j = d;
  some = omega (arith, ints, h.0, h.1);
  inside = omega (arith, ints, h.1);
  close =
      let s = middle_reached f d l k r (omega (arith, ints, is)) (omega (arith, ints, h.2)) in
      omega (arith, ints, s);
}
placed r f (negsuc d) l k is (inr (inr h)) = absurd (omega (arith, ints, h.0))

placed_z : (r : ℕ) (f d l k : ℤ) → (a : (m : ℕ) × (f ≡ pos m)) → (b : (m : ℕ) × (l ≡ pos m)) → (c : (m : ℕ) × (k ≡ pos m))
    → l *ℤ f ≡ d *ℤ d +ℤ k → Verdict r f d l k → Place r f d l
placed_z r f d l k a b c is h =
    let is1 : pos b.0 *ℤ pos a.0 ≡ d *ℤ d +ℤ pos c.0 = ap (λ (z : ℤ). z *ℤ pos a.0) (sym b.1) ∙ ap (λ (z : ℤ). l *ℤ z) (sym a.1) ∙ is ∙ ap (λ (z : ℤ). d *ℤ d +ℤ z) c.1 in
    let h1 : Verdict r (pos a.0) d (pos b.0) (pos c.0) =
    subst (λ (z : ℤ). Verdict r (pos a.0) d (pos b.0) z) c.1
    (subst (λ (z : ℤ). Verdict r (pos a.0) d z k) b.1 (subst (λ (z : ℤ). Verdict r z d l k) a.1 h)) in
    subst (λ (z : ℤ). Place r z d l) (sym a.1) (subst (λ (z : ℤ). Place r (pos a.0) d z) (sym b.1) (placed r a.0 d b.0 c.0 is1 h1))

pub near_test : (r : ℕ) (wx wy vx vy : ℤ) → IsNear r wx wy vx vy → IsPointBeside r wx wy vx vy
unfolding Quadratic Verdict IsPointBeside
near_test r wx wy vx vy h =
    decided_z r h.n h.j (inner wx wy wx wy) (inner wx wy vx vy) (inner vx vy vx vy) (cross wx wy vx vy *ℤ cross wx wy vx vy) (squares_are wx wy)
    (squares_are vx vy) (square_is (cross wx wy vx vy)) h.some h.inside (lagrange wx wy vx vy) (rw (← spread h.n h.j wx wy vx vy) h.close)

pub test_near : (r : ℕ) (wx wy vx vy : ℤ) → IsPointBeside r wx wy vx vy → IsNear r wx wy vx vy
unfolding Quadratic Verdict IsPointBeside
test_near r wx wy vx vy h =
    let p = placed_z r (inner wx wy wx wy) (inner wx wy vx vy) (inner vx vy vx vy) (cross wx wy vx vy *ℤ cross wx wy vx vy) (squares_are wx wy)
    (squares_are vx vy) (square_is (cross wx wy vx vy)) (lagrange wx wy vx vy) h in
    record { n = p.n; j = p.j; some = p.some; inside = p.inside; close = rw (spread p.n p.j wx wy vx vy) p.close }
