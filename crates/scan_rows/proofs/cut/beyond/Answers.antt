use Rattle.std.proofs.Common.{rules, arith}
use Rattle.std.specs.Prelude.{ℤ, ◌≤ℤ◌, ◌<ℤ◌, ◌↔◌}
use Rattle.std.proofs.lemmas.Int.{ints}
use Rattle.scan_rows.specs.Inner.Cutting.{bounds}
use Rattle.scan_rows.proofs.Replaced.{with_d0, with_d1, with_s0, with_s1, with_x0, with_x1, with_y0, with_y1}
use Rattle.scan_rows.proofs.cut.beyond.Goals as goal

pub returns-in-Top-clause-points : goal.returns-in-Top-clause-points
returns-in-Top-clause-points c =
    let e : (z : ℤ) → (z ≤ℤ c.lesser.result) ↔ ((z ≤ℤ c.args.b.now.y1) × (z <ℤ c.args.limit)) = λ z. (λ h. (omega (arith, ints), omega (arith, ints)), λ h. omega (arith, ints)) in
    let f = with_y1 (λ z. z <ℤ c.args.limit) (bounds c.args.b.now) c.lesser.result e in
    search (rules, f)

pub returns-in-Top-clause-bounded : goal.returns-in-Top-clause-bounded
returns-in-Top-clause-bounded c = record { x0 = omega (arith, ints); x1 = omega (arith, ints); y0 = omega (arith, ints); y1 = omega (arith, ints); s0 = omega (arith, ints); s1 = omega (arith, ints); d0 = omega (arith, ints); d1 = omega (arith, ints) }

pub returns-in-Bottom-clause-points : goal.returns-in-Bottom-clause-points
returns-in-Bottom-clause-points c =
    let e : (z : ℤ) → (c.greater.result ≤ℤ z) ↔ ((c.args.b.now.y0 ≤ℤ z) × (c.args.limit <ℤ z)) = λ z. (λ h. (omega (arith, ints), omega (arith, ints)), λ h. omega (arith, ints)) in
    let f = with_y0 (λ z. c.args.limit <ℤ z) (bounds c.args.b.now) c.greater.result e in
    search (rules, f)

pub returns-in-Bottom-clause-bounded : goal.returns-in-Bottom-clause-bounded
returns-in-Bottom-clause-bounded c = record { x0 = omega (arith, ints); x1 = omega (arith, ints); y0 = omega (arith, ints); y1 = omega (arith, ints); s0 = omega (arith, ints); s1 = omega (arith, ints); d0 = omega (arith, ints); d1 = omega (arith, ints) }

pub returns-in-Left-clause-points : goal.returns-in-Left-clause-points
returns-in-Left-clause-points c =
    let e : (z : ℤ) → (z ≤ℤ c.lesser-in-Left.result) ↔ ((z ≤ℤ c.args.b.now.x1) × (z <ℤ c.args.limit)) = λ z. (λ h. (omega (arith, ints), omega (arith, ints)), λ h. omega (arith, ints)) in
    let f = with_x1 (λ z. z <ℤ c.args.limit) (bounds c.args.b.now) c.lesser-in-Left.result e in
    search (rules, f)

pub returns-in-Left-clause-bounded : goal.returns-in-Left-clause-bounded
returns-in-Left-clause-bounded c = record { x0 = omega (arith, ints); x1 = omega (arith, ints); y0 = omega (arith, ints); y1 = omega (arith, ints); s0 = omega (arith, ints); s1 = omega (arith, ints); d0 = omega (arith, ints); d1 = omega (arith, ints) }

pub returns-in-Right-clause-points : goal.returns-in-Right-clause-points
returns-in-Right-clause-points c =
    let e : (z : ℤ) → (c.greater-in-Right.result ≤ℤ z) ↔ ((c.args.b.now.x0 ≤ℤ z) × (c.args.limit <ℤ z)) = λ z. (λ h. (omega (arith, ints), omega (arith, ints)), λ h. omega (arith, ints)) in
    let f = with_x0 (λ z. c.args.limit <ℤ z) (bounds c.args.b.now) c.greater-in-Right.result e in
    search (rules, f)

pub returns-in-Right-clause-bounded : goal.returns-in-Right-clause-bounded
returns-in-Right-clause-bounded c = record { x0 = omega (arith, ints); x1 = omega (arith, ints); y0 = omega (arith, ints); y1 = omega (arith, ints); s0 = omega (arith, ints); s1 = omega (arith, ints); d0 = omega (arith, ints); d1 = omega (arith, ints) }

pub returns-in-TopLeft-clause-points : goal.returns-in-TopLeft-clause-points
returns-in-TopLeft-clause-points c =
    let e : (z : ℤ) → (z ≤ℤ c.lesser-in-TopLeft.result) ↔ ((z ≤ℤ c.args.b.now.s1) × (z <ℤ c.args.limit)) = λ z. (λ h. (omega (arith, ints), omega (arith, ints)), λ h. omega (arith, ints)) in
    let f = with_s1 (λ z. z <ℤ c.args.limit) (bounds c.args.b.now) c.lesser-in-TopLeft.result e in
    search (rules, f)

pub returns-in-TopLeft-clause-bounded : goal.returns-in-TopLeft-clause-bounded
returns-in-TopLeft-clause-bounded c = record { x0 = omega (arith, ints); x1 = omega (arith, ints); y0 = omega (arith, ints); y1 = omega (arith, ints); s0 = omega (arith, ints); s1 = omega (arith, ints); d0 = omega (arith, ints); d1 = omega (arith, ints) }

pub returns-in-BottomRight-clause-points : goal.returns-in-BottomRight-clause-points
returns-in-BottomRight-clause-points c =
    let e : (z : ℤ) → (c.greater-in-BottomRight.result ≤ℤ z) ↔ ((c.args.b.now.s0 ≤ℤ z) × (c.args.limit <ℤ z)) = λ z. (λ h. (omega (arith, ints), omega (arith, ints)), λ h. omega (arith, ints)) in
    let f = with_s0 (λ z. c.args.limit <ℤ z) (bounds c.args.b.now) c.greater-in-BottomRight.result e in
    search (rules, f)

pub returns-in-BottomRight-clause-bounded : goal.returns-in-BottomRight-clause-bounded
returns-in-BottomRight-clause-bounded c = record { x0 = omega (arith, ints); x1 = omega (arith, ints); y0 = omega (arith, ints); y1 = omega (arith, ints); s0 = omega (arith, ints); s1 = omega (arith, ints); d0 = omega (arith, ints); d1 = omega (arith, ints) }

pub returns-in-BottomLeft-clause-points : goal.returns-in-BottomLeft-clause-points
returns-in-BottomLeft-clause-points c =
    let e : (z : ℤ) → (z ≤ℤ c.lesser-in-BottomLeft.result) ↔ ((z ≤ℤ c.args.b.now.d1) × (z <ℤ c.args.limit)) = λ z. (λ h. (omega (arith, ints), omega (arith, ints)), λ h. omega (arith, ints)) in
    let f = with_d1 (λ z. z <ℤ c.args.limit) (bounds c.args.b.now) c.lesser-in-BottomLeft.result e in
    search (rules, f)

pub returns-in-BottomLeft-clause-bounded : goal.returns-in-BottomLeft-clause-bounded
returns-in-BottomLeft-clause-bounded c = record { x0 = omega (arith, ints); x1 = omega (arith, ints); y0 = omega (arith, ints); y1 = omega (arith, ints); s0 = omega (arith, ints); s1 = omega (arith, ints); d0 = omega (arith, ints); d1 = omega (arith, ints) }

pub returns-in-TopRight-clause-points : goal.returns-in-TopRight-clause-points
returns-in-TopRight-clause-points c =
    let e : (z : ℤ) → (c.greater-in-TopRight.result ≤ℤ z) ↔ ((c.args.b.now.d0 ≤ℤ z) × (c.args.limit <ℤ z)) = λ z. (λ h. (omega (arith, ints), omega (arith, ints)), λ h. omega (arith, ints)) in
    let f = with_d0 (λ z. c.args.limit <ℤ z) (bounds c.args.b.now) c.greater-in-TopRight.result e in
    search (rules, f)

pub returns-in-TopRight-clause-bounded : goal.returns-in-TopRight-clause-bounded
returns-in-TopRight-clause-bounded c = record { x0 = omega (arith, ints); x1 = omega (arith, ints); y0 = omega (arith, ints); y1 = omega (arith, ints); s0 = omega (arith, ints); s1 = omega (arith, ints); d0 = omega (arith, ints); d1 = omega (arith, ints) }
