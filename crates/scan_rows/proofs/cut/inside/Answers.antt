use Rattle.std.proofs.Common.{rules, arith}
use Rattle.std.specs.Prelude.{ℤ, ◌≤ℤ◌, ◌<ℤ◌, ◌↔◌}
use Rattle.std.proofs.lemmas.Int.{ints}
use Rattle.scan_rows.specs.Inner.Cutting.{bounds}
use Rattle.scan_rows.proofs.Replaced.{no_less, no_more, with_d0, with_d1, with_s0, with_s1, with_x0, with_x1, with_y0, with_y1}
use Rattle.scan_rows.proofs.cut.inside.Goals as goal

pub returns-in-Top-clause-points : goal.returns-in-Top-clause-points
returns-in-Top-clause-points c =
    let e : (z : ℤ) → (c.greater.result ≤ℤ z) ↔ ((c.args.b.now.y0 ≤ℤ z) × (z <ℤ c.args.limit → ⊥)) = no_less c.args.b.now.y0 c.args.limit c.greater.result (omega (arith, ints, c.greater.ensures)) (omega (arith, ints, c.greater.ensures)) (λ z h k. omega (arith, ints, c.greater.ensures)) in
    let f = with_y0 (λ z. z <ℤ c.args.limit → ⊥) (bounds c.args.b.now) c.greater.result e in
    search (rules, f)

pub returns-in-Bottom-clause-points : goal.returns-in-Bottom-clause-points
returns-in-Bottom-clause-points c =
    let e : (z : ℤ) → (z ≤ℤ c.lesser.result) ↔ ((z ≤ℤ c.args.b.now.y1) × (c.args.limit <ℤ z → ⊥)) = no_more c.args.b.now.y1 c.args.limit c.lesser.result (omega (arith, ints, c.lesser.ensures)) (omega (arith, ints, c.lesser.ensures)) (λ z h k. omega (arith, ints, c.lesser.ensures)) in
    let f = with_y1 (λ z. c.args.limit <ℤ z → ⊥) (bounds c.args.b.now) c.lesser.result e in
    search (rules, f)

pub returns-in-Left-clause-points : goal.returns-in-Left-clause-points
returns-in-Left-clause-points c =
    let e : (z : ℤ) → (c.greater-in-Left.result ≤ℤ z) ↔ ((c.args.b.now.x0 ≤ℤ z) × (z <ℤ c.args.limit → ⊥)) = no_less c.args.b.now.x0 c.args.limit c.greater-in-Left.result (omega (arith, ints, c.greater-in-Left.ensures)) (omega (arith, ints, c.greater-in-Left.ensures)) (λ z h k. omega (arith, ints, c.greater-in-Left.ensures)) in
    let f = with_x0 (λ z. z <ℤ c.args.limit → ⊥) (bounds c.args.b.now) c.greater-in-Left.result e in
    search (rules, f)

pub returns-in-Right-clause-points : goal.returns-in-Right-clause-points
returns-in-Right-clause-points c =
    let e : (z : ℤ) → (z ≤ℤ c.lesser-in-Right.result) ↔ ((z ≤ℤ c.args.b.now.x1) × (c.args.limit <ℤ z → ⊥)) = no_more c.args.b.now.x1 c.args.limit c.lesser-in-Right.result (omega (arith, ints, c.lesser-in-Right.ensures)) (omega (arith, ints, c.lesser-in-Right.ensures)) (λ z h k. omega (arith, ints, c.lesser-in-Right.ensures)) in
    let f = with_x1 (λ z. c.args.limit <ℤ z → ⊥) (bounds c.args.b.now) c.lesser-in-Right.result e in
    search (rules, f)

pub returns-in-TopLeft-clause-points : goal.returns-in-TopLeft-clause-points
returns-in-TopLeft-clause-points c =
    let e : (z : ℤ) → (c.greater-in-TopLeft.result ≤ℤ z) ↔ ((c.args.b.now.s0 ≤ℤ z) × (z <ℤ c.args.limit → ⊥)) = no_less c.args.b.now.s0 c.args.limit c.greater-in-TopLeft.result (omega (arith, ints, c.greater-in-TopLeft.ensures)) (omega (arith, ints, c.greater-in-TopLeft.ensures)) (λ z h k. omega (arith, ints, c.greater-in-TopLeft.ensures)) in
    let f = with_s0 (λ z. z <ℤ c.args.limit → ⊥) (bounds c.args.b.now) c.greater-in-TopLeft.result e in
    search (rules, f)

pub returns-in-BottomRight-clause-points : goal.returns-in-BottomRight-clause-points
returns-in-BottomRight-clause-points c =
    let e : (z : ℤ) → (z ≤ℤ c.lesser-in-BottomRight.result) ↔ ((z ≤ℤ c.args.b.now.s1) × (c.args.limit <ℤ z → ⊥)) = no_more c.args.b.now.s1 c.args.limit c.lesser-in-BottomRight.result (omega (arith, ints, c.lesser-in-BottomRight.ensures)) (omega (arith, ints, c.lesser-in-BottomRight.ensures)) (λ z h k. omega (arith, ints, c.lesser-in-BottomRight.ensures)) in
    let f = with_s1 (λ z. c.args.limit <ℤ z → ⊥) (bounds c.args.b.now) c.lesser-in-BottomRight.result e in
    search (rules, f)

pub returns-in-BottomLeft-clause-points : goal.returns-in-BottomLeft-clause-points
returns-in-BottomLeft-clause-points c =
    let e : (z : ℤ) → (c.greater-in-BottomLeft.result ≤ℤ z) ↔ ((c.args.b.now.d0 ≤ℤ z) × (z <ℤ c.args.limit → ⊥)) = no_less c.args.b.now.d0 c.args.limit c.greater-in-BottomLeft.result (omega (arith, ints, c.greater-in-BottomLeft.ensures)) (omega (arith, ints, c.greater-in-BottomLeft.ensures)) (λ z h k. omega (arith, ints, c.greater-in-BottomLeft.ensures)) in
    let f = with_d0 (λ z. z <ℤ c.args.limit → ⊥) (bounds c.args.b.now) c.greater-in-BottomLeft.result e in
    search (rules, f)

pub returns-in-TopRight-clause-points : goal.returns-in-TopRight-clause-points
returns-in-TopRight-clause-points c =
    let e : (z : ℤ) → (z ≤ℤ c.lesser-in-TopRight.result) ↔ ((z ≤ℤ c.args.b.now.d1) × (c.args.limit <ℤ z → ⊥)) = no_more c.args.b.now.d1 c.args.limit c.lesser-in-TopRight.result (omega (arith, ints, c.lesser-in-TopRight.ensures)) (omega (arith, ints, c.lesser-in-TopRight.ensures)) (λ z h k. omega (arith, ints, c.lesser-in-TopRight.ensures)) in
    let f = with_d1 (λ z. c.args.limit <ℤ z → ⊥) (bounds c.args.b.now) c.lesser-in-TopRight.result e in
    search (rules, f)
