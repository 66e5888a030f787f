-- Numbers as the code reads them, and the frame shrunk by the brush.
use Rattle.std.proofs.Common.{◌≡◌, ℕ, ◌≤◌, ◌^◌, arith, List, [], ◌∷◌, FitsSigned, w64, to_z, of_z}
use Rattle.std.specs.Prelude.{ℤ, pos, ◌+ℤ◌, ◌-ℤ◌, ◌↔◌}
use Rattle.std.proofs.lemmas.Int.{ints}
use Rattle.grid_num.specs.Roots.{up2_of}
use Rattle.grid_num.proofs.Roots.{up2_le_double}
use Rattle.plane.specs.Plane.{Bounds, Within, IsOct, ball_of}
use Rattle.plane.specs.Narrow.{Small}
use Rattle.plane.proofs.Equal.{equal}
use Rattle.octagon.specs.Bounded.{bounds_of, AreInRange}
use Rattle.octagon.specs.Room.{IsAround}
use Rattle.octagon.proofs.Plain.{code_add, code_sub, plain_add, plain_sub, IsOct-IsSmall}
use Rattle.grid_sets.specs.Points.{HasPoint}
use Rattle.centres.specs.Centres.{shrunk}

pub seen : (z : ℤ) → Small z → to_z w64 (of_z w64 z) ≡ z
seen z h = omega (arith, ints)

pub fits_add : (a b : ℤ) → Small a → Small b → FitsSigned w64 (to_z w64 (of_z w64 a) +ℤ to_z w64 (of_z w64 b))
fits_add a b h k = omega (arith, ints)

pub fits_sub : (a b : ℤ) → Small a → Small b → FitsSigned w64 (to_z w64 (of_z w64 a) -ℤ to_z w64 (of_z w64 b))
fits_sub a b h k = omega (arith, ints)

-- the bounds as the code computes them
abbrev pub code_shrunk : Bounds → Bounds → List ℤ
code_shrunk f b =
    code_add f.x0 b.x1
    ∷ code_sub f.x1 b.x1
    ∷ code_add f.y0 b.x1
    ∷ code_sub f.y1 b.x1
    ∷ code_add f.s0 b.s1
    ∷ code_sub f.s1 b.s1
    ∷ code_add f.d0 b.s1
    ∷ code_sub f.d1 b.s1
    ∷ []

pub shrunk_is : (f : Bounds) (r : ℕ) → IsOct f → IsOct (ball_of r) → bounds_of (code_shrunk f (ball_of r)) ≡ shrunk f r
unfolding ball_of
shrunk_is f r h k =
    let m = IsOct-IsSmall f h in
    let n = IsOct-IsSmall (ball_of r) k in
    equal (bounds_of (code_shrunk f (ball_of r))) (shrunk f r) (record {
      x0 = plain_add f.x0 (pos r) m.x0 n.x1;
      x1 = plain_sub f.x1 (pos r) m.x1 n.x1;
      y0 = plain_add f.y0 (pos r) m.y0 n.x1;
      y1 = plain_sub f.y1 (pos r) m.y1 n.x1;
      s0 = plain_add f.s0 (pos (up2_of r)) m.s0 n.s1;
      s1 = plain_sub f.s1 (pos (up2_of r)) m.s1 n.s1;
      d0 = plain_add f.d0 (pos (up2_of r)) m.d0 n.s1;
      d1 = plain_sub f.d1 (pos (up2_of r)) m.d1 n.s1;
    })

pub shrunk_range : (f : Bounds) (r : ℕ) → IsOct f → IsAround (2 ^ 31) f → r ≤ 2 ^ 31 → AreInRange (shrunk f r)
shrunk_range f r h a l =
    let u = up2_le_double r in
    record {
      x0 = record { low = omega (arith, ints); high = omega (arith, ints) };
      x1 = record { low = omega (arith, ints); high = omega (arith, ints) };
      y0 = record { low = omega (arith, ints); high = omega (arith, ints) };
      y1 = record { low = omega (arith, ints); high = omega (arith, ints) };
      s0 = record { low = omega (arith, ints); high = omega (arith, ints) };
      s1 = record { low = omega (arith, ints); high = omega (arith, ints) };
      d0 = record { low = omega (arith, ints); high = omega (arith, ints) };
      d1 = record { low = omega (arith, ints); high = omega (arith, ints) };
    }

-- the points of what is made of the bounds
pub made_of : (os : List Bounds) (o b s : Bounds) → b ≡ s → ((x y : ℤ) → HasPoint os x y ↔ Within o x y) → ((x y : ℤ) → Within o x y ↔ Within b x y)
    → (x y : ℤ) → HasPoint os x y ↔ Within s x y
made_of os o b s e f g x y = rw (← e) (λ h. (g x y).0 ((f x y).0 h), λ w. (f x y).1 ((g x y).1 w))

pub none_of : (os : List Bounds) (b s : Bounds) → b ≡ s → ((x y : ℤ) → HasPoint os x y → ⊥) → ((x y : ℤ) → Within b x y → ⊥)
    → (x y : ℤ) → HasPoint os x y ↔ Within s x y
none_of os b s e f g x y = rw (← e) (λ h. absurd (f x y h), λ w. absurd (g x y w))
