-- Straight ends of octagons as the code makes them.
use Rattle.std.proofs.Common.{◌≡◌, sym, subst, ℕ, ◌≤◌, ◌^◌, ◌⊎◌, w64, to_z, of_z, arith}
use Rattle.std.specs.Prelude.{ℤ, pos, ◌+ℤ◌, ◌-ℤ◌, ◌≤ℤ◌, ◌<ℤ◌}
use Rattle.std.proofs.lemmas.Int.{ints}
use Rattle.plane.specs.Narrow.{IsNearZero}
use Rattle.grid_sets.specs.Bands.{place_after, reach}
use Rattle.scan_runs.specs.Inner.Lines.{AreEndsApart}
use Rattle.grid_sets.specs.declared.Move.{Move}
use Rattle.grid_sets.specs.declared.Move.TheVariants.{Left, Still, Right}
use Rattle.grid_sets.specs.declared.End.{End}
use Rattle.scan_runs.proofs.Lines.{left_still, left_left, left_right, right_still, right_left, right_right, ends-AreEndsApart}
use Rattle.scan_runs.specs.Inner.Ends.{IsLeftFor, IsRightFor, IsSmallEnd}

pub left_still_for : (x0 s0 d0 top p : ℤ) (n : ℕ) → p ≡ x0 → IsNearZero (2 ^ 43) (x0) → (s0 -ℤ top) ≤ℤ x0 → (d0 +ℤ (top +ℤ pos n)) ≤ℤ x0 → IsLeftFor x0 s0 d0 top n (record { place = p; go = Still })
left_still_for x0 s0 d0 top p n e z h i =
    let P : ℤ → Type 0 = λ q. IsLeftFor x0 s0 d0 top n (record { place = q; go = Still }) in
    subst P (sym e) (record { small = z; is = left_still x0 s0 d0 top n h i })

pub left_left_for : (x0 s0 d0 top p : ℤ) (n : ℕ) → p ≡ s0 -ℤ top → IsNearZero (2 ^ 43) (s0 -ℤ top) → x0 ≤ℤ (s0 -ℤ (top +ℤ pos n)) → (d0 +ℤ (top +ℤ pos n)) ≤ℤ (s0 -ℤ (top +ℤ pos n)) → IsLeftFor x0 s0 d0 top n (record { place = p; go = Left })
left_left_for x0 s0 d0 top p n e z h i =
    let P : ℤ → Type 0 = λ q. IsLeftFor x0 s0 d0 top n (record { place = q; go = Left }) in
    subst P (sym e) (record { small = z; is = left_left x0 s0 d0 top n h i })

pub left_right_for : (x0 s0 d0 top p : ℤ) (n : ℕ) → p ≡ d0 +ℤ top → IsNearZero (2 ^ 43) (d0 +ℤ top) → x0 ≤ℤ (d0 +ℤ top) → (s0 -ℤ top) ≤ℤ (d0 +ℤ top) → IsLeftFor x0 s0 d0 top n (record { place = p; go = Right })
left_right_for x0 s0 d0 top p n e z h i =
    let P : ℤ → Type 0 = λ q. IsLeftFor x0 s0 d0 top n (record { place = q; go = Right }) in
    subst P (sym e) (record { small = z; is = left_right x0 s0 d0 top n h i })

pub right_still_for : (x1 s1 d1 top p : ℤ) (n : ℕ) → p ≡ x1 → IsNearZero (2 ^ 43) (x1) → x1 ≤ℤ (s1 -ℤ (top +ℤ pos n)) → x1 ≤ℤ (d1 +ℤ top) → IsRightFor x1 s1 d1 top n (record { place = p; go = Still })
right_still_for x1 s1 d1 top p n e z h i =
    let P : ℤ → Type 0 = λ q. IsRightFor x1 s1 d1 top n (record { place = q; go = Still }) in
    subst P (sym e) (record { small = z; is = right_still x1 s1 d1 top n h i })

pub right_left_for : (x1 s1 d1 top p : ℤ) (n : ℕ) → p ≡ s1 -ℤ top → IsNearZero (2 ^ 43) (s1 -ℤ top) → (s1 -ℤ top) ≤ℤ x1 → (s1 -ℤ top) ≤ℤ (d1 +ℤ top) → IsRightFor x1 s1 d1 top n (record { place = p; go = Left })
right_left_for x1 s1 d1 top p n e z h i =
    let P : ℤ → Type 0 = λ q. IsRightFor x1 s1 d1 top n (record { place = q; go = Left }) in
    subst P (sym e) (record { small = z; is = right_left x1 s1 d1 top n h i })

pub right_right_for : (x1 s1 d1 top p : ℤ) (n : ℕ) → p ≡ d1 +ℤ top → IsNearZero (2 ^ 43) (d1 +ℤ top) → (d1 +ℤ (top +ℤ pos n)) ≤ℤ x1 → (d1 +ℤ (top +ℤ pos n)) ≤ℤ (s1 -ℤ (top +ℤ pos n)) → IsRightFor x1 s1 d1 top n (record { place = p; go = Right })
right_right_for x1 s1 d1 top p n e z h i =
    let P : ℤ → Type 0 = λ q. IsRightFor x1 s1 d1 top n (record { place = q; go = Right }) in
    subst P (sym e) (record { small = z; is = right_right x1 s1 d1 top n h i })

pub apart_by : (n : ℕ) (g : ℤ) (e f : End) (a b c d : ℤ) → a ≡ reach 0 e → b ≡ reach 0 f → c ≡ reach n e → d ≡ reach n f → (a +ℤ g) ≤ℤ b → (c +ℤ g) ≤ℤ d → AreEndsApart n g e f
apart_by n g e f a b c d p q r s h i = ends-AreEndsApart n g e f (omega (arith, ints)) (omega (arith, ints))

pub not_apart_by : (n : ℕ) (g : ℤ) (e f : End) (a b : ℤ) → a ≡ reach n e → b ≡ reach n f → b <ℤ (a +ℤ g) → n ≡ 0 → reach 0 f <ℤ (reach 0 e +ℤ g)
not_apart_by n g e f a b p q h z =
    let P : ℕ → Type 0 = λ m. a ≡ reach m e in
    let Q : ℕ → Type 0 = λ m. b ≡ reach m f in
    let u = subst P z p in
    let v = subst Q z q in
    omega (arith, ints)

reach_small : (m : Move) (k : ℕ) (a : ℤ) → k ≤ 2 ^ 42 → IsNearZero (2 ^ 43) a → IsNearZero (2 ^ 44) (place_after m k a)
reach_small Left k a h i = record { low = omega (arith, ints); high = omega (arith, ints) }
reach_small Still k a h i = record { low = omega (arith, ints); high = omega (arith, ints) }
reach_small Right k a h i = record { low = omega (arith, ints); high = omega (arith, ints) }

pub place_small : (e : End) (k : ℕ) (r : ℤ) → k ≤ 2 ^ 42 → IsSmallEnd e → r ≡ reach k e → IsNearZero (2 ^ 44) r
place_small e k r h i q = let P : ℤ → Type 0 = λ v. IsNearZero (2 ^ 44) v in subst P (sym q) (reach_small e.go k e.place h i)

pub kept_small : (r : ℤ) → IsNearZero (2 ^ 44) r → IsNearZero (2 ^ 44) (to_z w64 (of_z w64 r))
kept_small r h = record { low = omega (arith, ints); high = omega (arith, ints) }

pub none_left : (x0 s d top : ℤ) (n : ℕ) (x sf sl df dl : ℤ) → (x <ℤ sf) ⊎ (x <ℤ dl) → (sl <ℤ x) ⊎ (sl <ℤ dl) → (df <ℤ x) ⊎ (df <ℤ sf)
    → x ≡ x0 → sf ≡ s -ℤ top → sl ≡ s -ℤ (top +ℤ pos n) → df ≡ d +ℤ top → dl ≡ d +ℤ (top +ℤ pos n) → 1 ≤ n
none_left x0 s d top n x sf sl df dl h i j a b c e f = omega (arith, ints)

pub none_right : (x1 s d top : ℤ) (n : ℕ) (x sf sl df dl : ℤ) → (sl <ℤ x) ⊎ (df <ℤ x) → (x <ℤ sf) ⊎ (df <ℤ sf) → (x <ℤ dl) ⊎ (sl <ℤ dl)
    → x ≡ x1 → sf ≡ s -ℤ top → sl ≡ s -ℤ (top +ℤ pos n) → df ≡ d +ℤ top → dl ≡ d +ℤ (top +ℤ pos n) → 1 ≤ n
none_right x1 s d top n x sf sl df dl h i j a b c e f = omega (arith, ints)

pub leaves_plain : (a b g : ℤ) → IsNearZero (2 ^ 44) a → IsNearZero (2 ^ 44) b → IsNearZero 2 g
    → (to_z w64 (of_z w64 a) +ℤ to_z w64 (of_z w64 g)) ≤ℤ to_z w64 (of_z w64 b) → (a +ℤ g) ≤ℤ b
leaves_plain a b g h i j k = omega (arith, ints)
