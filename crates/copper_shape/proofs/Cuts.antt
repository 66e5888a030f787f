-- The places that cut a segment, and how many there are.
use Rattle.std.proofs.Common.{◌≡◌, refl, sym, ap, ◌∙◌, ℕ, suc, ◌+◌, ◌-◌, ◌*◌, ◌≤◌, ◌<◌, arith, w64, to_z, of_z, FitsSigned, List, [], ◌∷◌, ◌++◌, append_assoc}
use Rattle.std.specs.Prelude.{ℤ, pos, neg_ℤ, ◌+ℤ◌, ◌-ℤ◌, ◌*ℤ◌, Bool, true, false, min, max}
use Rattle.std.specs.Int.{div_ceil}
use Rattle.std.specs.Int.RustNames.{unsigned_abs}
use Rattle.std.proofs.lemmas.Int.{ints}
use Rattle.std.proofs.lemmas.List.{append-nil}
use Rattle.grid_num.specs.declared.Point.{Point}
use Rattle.plane.specs.Plane.{Bounds}
use Rattle.plane.specs.Narrow.{IsNearZero}
use Rattle.grid_num.proofs.Products.{mul_le, mul_neg}
use Rattle.touching.specs.Core.{Spot, line}
use Rattle.hulls.specs.Hulls.{hull_of, cut_at, is_slanted, piece_count, piece_hull, piece_hulls, hulls_of}
use Rattle.copper_shape.specs.Inner.Ranges.{IsPlaceInRoom}

pub product_near : (i m : ℕ) (s : ℤ) → IsNearZero m s → IsNearZero (i * m) (pos i *ℤ s)
product_near i m s h = record {
  low = omega (arith, ints, mul_le i (neg_ℤ (pos m)) s h.low, mul_neg i (pos m));
  high = omega (arith, ints, mul_le i s (pos m) h.high);
}

-- as the code computes it: a and b are the two products
pub record IsMean (i j : ℕ) (s t a b : ℤ) : Type 0 where
  pub fits : FitsSigned w64 (to_z w64 (of_z w64 a) +ℤ to_z w64 (of_z w64 b))
  pub value : to_z w64 (of_z w64 (to_z w64 (of_z w64 a) +ℤ to_z w64 (of_z w64 b))) ≡ pos i *ℤ s +ℤ pos j *ℤ t
  pub near : IsNearZero ((i + j) * 2000000000) (to_z w64 (of_z w64 (to_z w64 (of_z w64 a) +ℤ to_z w64 (of_z w64 b))))

pub code_mean : (i j : ℕ) (s t ci cs cj ct : ℤ) → ci ≡ pos i → cs ≡ s → cj ≡ pos j → ct ≡ t → i + j ≤ 64
    → IsNearZero 2000000000 s → IsNearZero 2000000000 t → IsMean i j s t (ci *ℤ cs) (cj *ℤ ct)
code_mean i j s t ci cs cj ct ei es ej et w hs ht =
    rw (ei, es, ej, et) (plain i j s t (pos i *ℤ s) (pos j *ℤ t) refl refl w (product_near i 2000000000 s hs) (product_near j 2000000000 t ht))
  where
    plain : (i j : ℕ) (s t a b : ℤ) → a ≡ pos i *ℤ s → b ≡ pos j *ℤ t → i + j ≤ 64 → IsNearZero (i * 2000000000) a → IsNearZero (j * 2000000000) b → IsMean i j s t a b
    plain i j s t a b ea eb w ha hb = record {
      fits = omega (arith, ints, ha, hb);
      value = omega (arith, ints, ha, hb);
      near = record { low = omega (arith, ints, ha, hb); high = omega (arith, ints, ha, hb) };
    }

-- ---- one place
abbrev point : ℤ → ℤ → Point
point x y = record { x = x; y = y }

pub record IsCut (s t : Spot) (k i : ℕ) (p : Point) : Type 0 where
  pub value : p ≡ cut_at s t k i
  pub place : IsPlaceInRoom (4 * k) p

read_near : (z v : ℤ) → z ≡ v → IsNearZero 128000000000 z → to_z w64 (of_z w64 z) ≡ v
read_near z v e h = omega (arith, ints)

pub code_cut : (s t : Spot) (k i d : ℕ) (x y sx sy tx ty : ℤ) → k ≤ 64 → i ≤ k → d ≡ k - i → sx ≡ s.x → sy ≡ s.y → tx ≡ t.x → ty ≡ t.y
    → x ≡ pos d *ℤ sx +ℤ pos i *ℤ tx → y ≡ pos d *ℤ sy +ℤ pos i *ℤ ty
    → IsNearZero ((d + i) * 2000000000) x → IsNearZero ((d + i) * 2000000000) y
    → IsCut s t k i (point (to_z w64 (of_z w64 x)) (to_z w64 (of_z w64 y)))
unfolding cut_at
code_cut s t k i d x y sx sy tx ty most le ed esx esy etx ety ex ey nx ny =
    let n : d + i ≡ k = omega arith in
    let rx = read_near x x refl (wide k x most (rw n at nx)) in
    let ry = read_near y y refl (wide k y most (rw n at ny)) in
    rw (rx, ry)
    (record {
      value = rw (ex, ey, ed, esx, esy, etx, ety) refl;
      place = record { x = placed k x (rw n at nx); y = placed k y (rw n at ny) };
    })
  where
    wide : (k : ℕ) (z : ℤ) → k ≤ 64 → IsNearZero (k * 2000000000) z → IsNearZero 128000000000 z
    wide k z l h = record { low = omega (arith, ints, h.low); high = omega (arith, ints, h.high) }

    placed : (k : ℕ) (z : ℤ) → IsNearZero (k * 2000000000) z → IsNearZero (4 * k * 500000000) z
    placed k z h = record { low = omega (arith, ints, h.low); high = omega (arith, ints, h.high) }

-- ---- the loop over the pieces
pub pieces_step : (s t : Spot) (k r i : ℕ) (out new : List Bounds) (h : Bounds) → i < k
    → out ++ piece_hulls s t k r i (k - i) ≡ piece_hulls s t k r 0 k → h ≡ piece_hull s t k r i → new ≡ out ++ h ∷ []
    → new ++ piece_hulls s t k r (i + 1) (k - (i + 1)) ≡ piece_hulls s t k r 0 k
unfolding piece_hulls
pieces_step s t k r i out new h l e eh en =
    let n : k - i ≡ suc (k - (i + 1)) = omega arith in
    let one : suc i ≡ i + 1 = omega arith in
    let d : piece_hulls s t k r i (k - i) ≡ h ∷ piece_hulls s t k r (i + 1) (k - (i + 1)) = rw (n, eh, sym one) refl in
    rw en (append_assoc out (h ∷ []) (piece_hulls s t k r (i + 1) (k - (i + 1))) ∙ (ap (λ (z : List Bounds). out ++ z) (sym d) ∙ e))

pub pieces_end : (s t : Spot) (k r i : ℕ) (out : List Bounds) → k ≤ i → out ++ piece_hulls s t k r i (k - i) ≡ piece_hulls s t k r 0 k → out ≡ piece_hulls s t k r 0 k
unfolding piece_hulls
pieces_end s t k r i out l e =
    let n : k - i ≡ 0 = omega arith in
    sym (append-nil out) ∙ (ap (λ (z : ℕ). out ++ piece_hulls s t k r i z) (sym n) ∙ e)

-- ---- how many pieces
pub slanted_count : (w h m n a r : ℕ) (s : Bool) → s ≡ is_slanted w h → s ≡ true → m ≡ max w h → n ≡ div_ceil m 400000 → a ≡ max n 1 → r ≡ min a 64 → r ≡ piece_count w h
unfolding piece_count
slanted_count w h m n a r s es t em en ea er = rw (sym es ∙ t) (last n a r ea er ∙ ap (λ (z : ℕ). min 64 (max 1 z)) (rw em at en))
  where
    last : (n a r : ℕ) → a ≡ max n 1 → r ≡ min a 64 → r ≡ min 64 (max 1 n)
    last n a r ea er = omega arith

pub other_count : (w h : ℕ) (s : Bool) → s ≡ is_slanted w h → s ≡ false → 1 ≡ piece_count w h
unfolding piece_count
other_count w h s es t = rw (sym es ∙ t) refl

-- ---- one piece, and all of them
pub code_piece : (s t : Spot) (k r i : ℕ) (start finish : Point) → start ≡ cut_at s t k i → finish ≡ cut_at s t k (i + 1)
    → hull_of (4 * k) (start ∷ finish ∷ []) r ≡ piece_hull s t k r i
unfolding piece_hull
code_piece s t k r i start finish e f =
    let one : i + 1 ≡ suc i = omega arith in
    rw (e, f, one) refl

pub code_segment : (s t : Spot) (r k w h : ℕ) (out : List Bounds) → k ≡ piece_count w h → w ≡ unsigned_abs (t.x -ℤ s.x) → h ≡ unsigned_abs (t.y -ℤ s.y)
    → out ≡ piece_hulls s t k r 0 k → out ≡ hulls_of (line s t) r
unfolding hulls_of
code_segment s t r k w h out ek ew eh e = rw (ek, ew, eh) at e
