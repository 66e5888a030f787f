-- The test of points strictly inside.
use Rattle.std.proofs.Common.{◌≡◌, refl, sym, ◌∙◌, ◌^◌, arith, Bool, true}
use Rattle.std.specs.Prelude.{ℤ, ◌<ℤ◌, ◌↔◌, int_lt, ◌&&◌}
use Rattle.std.proofs.lemmas.Int.{ints, by_lt_z}
use Rattle.std.proofs.lemmas.Bool.{false≢true}
use Rattle.plane.specs.Plane.{Bounds, IsOct}
use Rattle.plane.specs.Narrow.{IsNearZero}
use Rattle.octagon.proofs.Plain.{IsOct-IsSmall}
use Rattle.plane.proofs.Counts.{less_true, less_false}
use Rattle.strips.specs.Strips.{HasInside, IsStout}
use Rattle.strips.proofs.Inside.{stout, inside}
use Rattle.sheet_union.proofs.Plain.{read, read_is}
use Rattle.sheet_union.proofs.CutRows.{both_true}

less_from : (a b : ℤ) → int_lt a b ≡ true → a <ℤ b
less_from a b e = by_lt_z {P = a <ℤ b} a b (λ l. l) (λ l. absurd (false≢true (sym (less_false a b l) ∙ e)))

stout_from : (b : Bounds) → (int_lt b.x0 b.x1 && (int_lt b.y0 b.y1 && (int_lt b.s0 b.s1 && int_lt b.d0 b.d1))) ≡ true → IsStout b
stout_from b e =
    let p = both_true (int_lt b.x0 b.x1) (int_lt b.y0 b.y1 && (int_lt b.s0 b.s1 && int_lt b.d0 b.d1)) e in
    let q = both_true (int_lt b.y0 b.y1) (int_lt b.s0 b.s1 && int_lt b.d0 b.d1) p.1 in
    let r = both_true (int_lt b.s0 b.s1) (int_lt b.d0 b.d1) q.1 in
    record { x = less_from b.x0 b.x1 p.0; y = less_from b.y0 b.y1 q.0; s = less_from b.s0 b.s1 r.0; d = less_from b.d0 b.d1 r.1 }

stout_true : (b : Bounds) → IsStout b → (int_lt b.x0 b.x1 && (int_lt b.y0 b.y1 && (int_lt b.s0 b.s1 && int_lt b.d0 b.d1))) ≡ true
stout_true b k = rw (less_true b.x0 b.x1 k.x, less_true b.y0 b.y1 k.y, less_true b.s0 b.s1 k.s, less_true b.d0 b.d1 k.d) refl

pub inside_is : (b : Bounds) (x0 x1 y0 y1 s0 s1 d0 d1 : ℤ) (r : Bool) → IsOct b
    → x0 ≡ b.x0 → x1 ≡ b.x1 → y0 ≡ b.y0 → y1 ≡ b.y1 → s0 ≡ b.s0 → s1 ≡ b.s1 → d0 ≡ b.d0 → d1 ≡ b.d1
    → r ≡ (int_lt (read x0) (read x1) && (int_lt (read y0) (read y1) && (int_lt (read s0) (read s1) && int_lt (read d0) (read d1)))) → (r ≡ true) ↔ HasInside b
inside_is b x0 x1 y0 y1 s0 s1 d0 d1 r o a0 a1 b0 b1 c0 c1 e0 e1 f =
    (λ t. inside b o.tight (stout_from b (sym g ∙ t)), λ h. g ∙ stout_true b (stout b h))
  where
    small_is : (z : ℤ) → IsNearZero (2 ^ 42) z → read z ≡ z
    small_is z n = read_is z (omega (arith, ints))

    g : r ≡ (int_lt b.x0 b.x1 && (int_lt b.y0 b.y1 && (int_lt b.s0 b.s1 && int_lt b.d0 b.d1)))
    g =
        let m = IsOct-IsSmall b o in
        rw (
          a0,
          a1,
          b0,
          b1,
          c0,
          c1,
          e0,
          e1,
          small_is b.x0 m.x0,
          small_is b.x1 m.x1,
          small_is b.y0 m.y0,
          small_is b.y1 m.y1,
          small_is b.s0 m.s0,
          small_is b.s1 m.s1,
          small_is b.d0 m.d0,
          small_is b.d1 m.d1,
        ) at f
