-- How far the copper of a pad reaches that is no wider or higher than 100 mm.
use Rattle.std.proofs.Common.{◌≡◌, refl, sym, subst, ℕ, zero, suc, ◌-◌, ◌*◌, ◌/◌, ◌≤◌, arith, Bool, true, false, List, ◌||◌, ◌&&◌}
use Rattle.std.specs.Prelude.{ℤ, pos, negsuc, ◌+ℤ◌, ◌-ℤ◌, int_lt, min, max, if◌then◌else◌, codes, ◌==◌, ◌%◌}
use Rattle.std.proofs.lemmas.Int.{ints}
use Rattle.std.proofs.lemmas.Bool.Decides.{nat_tests}
use Rattle.grid_num.specs.declared.Point.{Point}
use Rattle.sexpr_text.specs.Items.{Item}
use Rattle.cores.specs.Room.{IsNearZero, IsCoreInRoom}
use Rattle.board_text.specs.Fields.{list_of}
use Rattle.board_text.specs.Numbers.{length_at}
use Rattle.board_text.specs.Items.{size_of, is_no_length, is_no_size}
use Rattle.board_language.specs.Pads.{Size, is_shape, is_hole, box_round, circle, rectangle, oval, rounded_by, corner_radius, ratio_in, shape_of, written_size, drilled_size, drill_of, drill_width, drill_height, swapped, turns_in, size_on_board}
use Rattle.board_language.specs.Offences.{is_bad_ratio, has_bad_drill}
use Rattle.board_language.specs.Facts.{IsPlaceInReach, IsSmallShape}
use Rattle.board_facts.proofs.Tracks.{length_read}
use Rattle.board_facts.proofs.Passed.{or_front, or_back}

-- ---- sizes

pub record IsSmall (s : Size) : Type 0 where
  pub width : s.width ≤ 100000000
  pub height : s.height ≤ 100000000

swapped_small : (turns : ℕ) (s : Size) → IsSmall s → IsSmall (swapped turns s)
swapped_small turns s h = by_test (turns % 2 == 1)
  where
    by_test : (b : Bool) → IsSmall (if b then record { width = s.height; height = s.width } else s)
    by_test true = record { width = h.height; height = h.width }
    by_test false = h

sized : (z : ℤ) → is_no_size z ≡ false → size_of z ≤ 100000000
sized z e = length_read z (or_front (is_no_length z) (size_of z == 0) e)

drilled_small : (bytes : List ℕ) (pad : Item) → IsSmall (written_size bytes pad) → has_bad_drill bytes pad ≡ false → IsSmall (drilled_size bytes pad)
drilled_small bytes pad h e = by_test (is_hole bytes pad) (is_no_length (drill_width bytes (drill_of bytes pad))) (is_no_length (drill_height bytes (drill_of bytes pad))) refl refl e
  where
    by_test : (b w v : Bool) → is_no_length (drill_width bytes (drill_of bytes pad)) ≡ w → is_no_length (drill_height bytes (drill_of bytes pad)) ≡ v → (b && (w || v)) ≡ false
        → IsSmall (if b then record { width = max (written_size bytes pad).width (size_of (drill_width bytes (drill_of bytes pad))); height = max (written_size bytes pad).height (size_of (drill_height bytes (drill_of bytes pad))) } else written_size bytes pad)
    by_test false w v p q e = h
    by_test true w v p q e =
        let a : size_of (drill_width bytes (drill_of bytes pad)) ≤ 100000000 = length_read (drill_width bytes (drill_of bytes pad)) (subst (λ b. b ≡ false) (sym p) (or_front w v e)) in
        let b : size_of (drill_height bytes (drill_of bytes pad)) ≤ 100000000 = length_read (drill_height bytes (drill_of bytes pad)) (subst (λ b. b ≡ false) (sym q) (or_back w v e)) in
        record { width = omega (arith, h.width, a); height = omega (arith, h.height, b) }

pub size_small : (bytes : List ℕ) (pad : Item) → is_no_size (length_at bytes 0 (list_of bytes (codes "size") pad)) ≡ false → is_no_size (length_at bytes 1 (list_of bytes (codes "size") pad)) ≡ false
    → has_bad_drill bytes pad ≡ false → IsSmall (size_on_board bytes pad)
unfolding size_on_board
size_small bytes pad w h d =
    swapped_small (turns_in bytes pad) (drilled_size bytes pad)
    (drilled_small bytes pad (record { width = sized (length_at bytes 0 (list_of bytes (codes "size") pad)) w; height = sized (length_at bytes 1 (list_of bytes (codes "size") pad)) h }) d)

-- ---- shapes

box_small : (at : Point) (w h r : ℕ) → IsPlaceInReach at → w ≤ 100000000 → h ≤ 100000000 → r ≤ 100000000 → IsSmallShape (record { core = box_round at w h; radius = r })
unfolding IsCoreInRoom
box_small at w h r n a b d =
    record {
      within = record { left = omega (arith, ints, n.x.low, a); right = omega (arith, ints, n.x.high, a); top = omega (arith, ints, n.y.low, b); bottom = omega (arith, ints, n.y.high, b) };
      radius = d;
    }

near_plus : (z : ℤ) (a : ℕ) → IsPlaceInReach (record { x = z; y = z }) → a ≤ 100000000 → (IsNearZero 1100000000 (z +ℤ z -ℤ pos a)) × IsNearZero 1100000000 (z +ℤ z +ℤ pos a)
near_plus z a n h =
    (record { low = omega (arith, ints, n.x.low, h); high = omega (arith, ints, n.x.high, h) }, record { low = omega (arith, ints, n.x.low, h); high = omega (arith, ints, n.x.high, h) })

oval_small : (at : Point) (s : Size) → IsPlaceInReach at → IsSmall s → IsSmallShape (oval at s)
unfolding IsCoreInRoom
oval_small at s n h =
    let x = near_plus at.x (s.width - s.height) (record { x = n.x; y = n.x }) (omega (arith, h.width)) in
    let y = near_plus at.y (s.height - s.width) (record { x = n.y; y = n.y }) (omega (arith, h.height)) in
    record { within = record { sx = x.0; sy = y.0; tx = x.1; ty = y.1 }; radius = omega (arith, h.width) }

times_most : (m q : ℕ) → q ≤ 5000000000 → m * q ≤ m * 5000000000
times_most zero q h = omega arith
times_most (suc m) q h = omega (arith, times_most m q h)

radius_small : (q : ℕ) (s : Size) → q ≤ 5000000000 → IsSmall s → corner_radius q s ≤ 100000000
radius_small q s h i =
    let m = min s.width s.height in
    let l : m ≤ 100000000 = omega (arith, i.width) in
    tenth (m * q) m (times_most m q h) l
  where
    tenth : (a m : ℕ) → a ≤ m * 5000000000 → m ≤ 100000000 → (2 * a) / 10000000000 ≤ 100000000
    tenth a m h l = omega (arith, h, l)

pub ratio_small : (q : ℤ) → is_bad_ratio q ≡ false → size_of q ≤ 5000000000
ratio_small q e = by_sign q (or_back (int_lt q (pos 0)) (int_lt (pos 5000000000) q) e)
  where
    by_sign : (q : ℤ) → int_lt (pos 5000000000) q ≡ false → size_of q ≤ 5000000000
    by_sign (pos n) f = grind (arith, nat_tests)
    by_sign (negsuc n) f = omega arith

pub shape_small : (bytes : List ℕ) (pad : Item) (at : Point) (s : Size) → IsPlaceInReach at → IsSmall s → size_of (ratio_in bytes pad) ≤ 5000000000 → IsSmallShape (shape_of bytes pad at s)
unfolding shape_of
shape_small bytes pad at s n h q =
    by_tests (is_shape bytes (codes "circle") pad) (is_shape bytes (codes "oval") pad) (is_shape bytes (codes "roundrect") pad) (corner_radius (size_of (ratio_in bytes pad)) s) (radius_small (size_of (ratio_in bytes pad)) s q h)
  where
    by_tests : (a b d : Bool) (r : ℕ) → r ≤ 100000000 → IsSmallShape (if a then circle at s else (if b then oval at s else (if d then rounded_by r at s else rectangle at s)))
    by_tests true b d r l = box_small at 0 0 s.width n (omega arith) (omega arith) h.width
    by_tests false true d r l = oval_small at s n h
    by_tests false false true r l = box_small at (s.width - r) (s.height - r) r n (omega (arith, h.width)) (omega (arith, h.height)) l
    by_tests false false false r l = box_small at s.width s.height 0 n h.width h.height (omega arith)
