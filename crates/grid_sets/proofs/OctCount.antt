-- How many grid points a tight octagon has: those of its box without four triangles.
use Rattle.std.proofs.Common.{◌≡◌, refl, sym, subst, ap, ◌∙◌, ◌⊎◌, inl, inr, ℕ, zero, suc, ◌+◌, ◌*◌, ◌-◌, ◌≤◌, ◌<◌, List, [], ◌∷◌, ◌++◌, length, length-append, arith}
use Rattle.std.specs.Prelude.{ℤ, pos, negsuc, ◌+ℤ◌, ◌-ℤ◌, ◌≤ℤ◌, ◌<ℤ◌}
use Rattle.std.proofs.lemmas.Int.{ints, by_lt_z}
use Rattle.std.proofs.lemmas.Bool.{cases_lt}
use Rattle.plane.specs.Plane.{Bounds, Within, IsTight}
use Rattle.grid_sets.proofs.Counting.{listed_either, distinct_either}
use Rattle.grid_sets.specs.Points.{GridPoint, IsListed, AreDistinct, AreSpotsOf, IsCount, triangle}

-- ---- n points of a row, from x on
abbrev spot : ℤ → ℤ → GridPoint
spot x y = record { x = x; y = y }

unfoldable line : ℤ → ℤ → ℕ → List GridPoint
line x y zero = []
line x y (suc n) = spot x y ∷ line (x +ℤ pos 1) y n

record IsOnLine (x y : ℤ) (n : ℕ) (u v : ℤ) : Type 0 where
  row : v ≡ y
  low : x ≤ℤ u
  high : u <ℤ (x +ℤ pos n)

on_line : (x y : ℤ) (n : ℕ) (u v : ℤ) → IsListed (line x y n) u v → IsOnLine x y n u v
unfolding line
on_line x y zero u v h = absurd h
on_line x y (suc n) u v (inl h) = record { row = h.1; low = omega (arith, ints, h.0); high = omega (arith, ints, h.0) }
on_line x y (suc n) u v (inr h) = let r = on_line (x +ℤ pos 1) y n u v h in record { row = r.row; low = omega (arith, ints, r.low); high = omega (arith, ints, r.high) }

line_on : (x y : ℤ) (n : ℕ) (u v : ℤ) → IsOnLine x y n u v → IsListed (line x y n) u v
unfolding line
line_on x y zero u v h = absurd (omega (arith, ints, h.low, h.high))
line_on x y (suc n) u v h = by_lt_z {P = IsListed (line x y (suc n)) u v} x u
    (λ l. inr (line_on (x +ℤ pos 1) y n u v (record { row = h.row; low = omega (arith, ints); high = omega (arith, ints, h.high) })))
    (λ l. inl (omega (arith, ints, h.low), h.row))

line_distinct : (x y : ℤ) (n : ℕ) → AreDistinct (line x y n)
unfolding line
line_distinct x y zero = tt
line_distinct x y (suc n) = (λ h. let r = on_line (x +ℤ pos 1) y n x y h in omega (arith, ints, r.low), line_distinct (x +ℤ pos 1) y n)

line_length : (x y : ℤ) (n : ℕ) → length (line x y n) ≡ n
unfolding line
line_length x y zero = refl
line_length x y (suc n) = let r : length (line (x +ℤ pos 1) y n) ≡ n = line_length (x +ℤ pos 1) y n in omega arith

-- ---- n rows from row k on, each from left to so many points further
unfoldable area : (ℕ → ℤ) → (ℕ → ℕ) → ℤ → ℕ → ℕ → List GridPoint
area left wide top k zero = []
area left wide top k (suc n) = line (left k) (top +ℤ pos k) (wide k) ++ area left wide top (suc k) n

record IsInArea (left : ℕ → ℤ) (wide : ℕ → ℕ) (top : ℤ) (k n : ℕ) (u v : ℤ) : Type 0 where
  row : ℕ
  first : k ≤ row
  last : row < k + n
  on : IsOnLine (left row) (top +ℤ pos row) (wide row) u v

in_area : (left : ℕ → ℤ) (wide : ℕ → ℕ) (top : ℤ) (k n : ℕ) (u v : ℤ) → IsListed (area left wide top k n) u v → IsInArea left wide top k n u v
unfolding area
in_area left wide top k zero u v h = absurd h
in_area left wide top k (suc n) u v h = elim ((listed_either (line (left k) (top +ℤ pos k) (wide k)) (area left wide top (suc k) n) u v).0 h) [
  | inl m ↦ record { row = k; first = omega arith; last = omega arith; on = on_line (left k) (top +ℤ pos k) (wide k) u v m }
  | inr m ↦ let r = in_area left wide top (suc k) n u v m in record { row = r.row; first = omega (arith, r.first); last = omega (arith, r.last); on = r.on }
]

area_in : (left : ℕ → ℤ) (wide : ℕ → ℕ) (top : ℤ) (k n : ℕ) (u v : ℤ) → IsInArea left wide top k n u v → IsListed (area left wide top k n) u v
unfolding area
area_in left wide top k zero u v h = absurd (omega (arith, h.first, h.last))
area_in left wide top k (suc n) u v h = (listed_either (line (left k) (top +ℤ pos k) (wide k)) (area left wide top (suc k) n) u v).1 (elim (cases_lt k h.row) [
  | inl l ↦ inr (area_in left wide top (suc k) n u v (record { row = h.row; first = omega arith; last = omega (arith, h.last); on = h.on }))
  | inr l ↦
      let e : h.row ≡ k = omega (arith, h.first) in
      inl (line_on (left k) (top +ℤ pos k) (wide k) u v (subst (λ (i : ℕ). IsOnLine (left i) (top +ℤ pos i) (wide i) u v) e h.on))
])

area_distinct : (left : ℕ → ℤ) (wide : ℕ → ℕ) (top : ℤ) (k n : ℕ) → AreDistinct (area left wide top k n)
unfolding area
area_distinct left wide top k zero = tt
area_distinct left wide top k (suc n) =
    distinct_either (line (left k) (top +ℤ pos k) (wide k)) (area left wide top (suc k) n) (line_distinct (left k) (top +ℤ pos k) (wide k)) (area_distinct left wide top (suc k) n)
    (λ x y h i. apart x y (on_line (left k) (top +ℤ pos k) (wide k) x y h).row (in_area left wide top (suc k) n x y i))
  where
    apart : (x y : ℤ) → y ≡ top +ℤ pos k → IsInArea left wide top (suc k) n x y → ⊥
    apart x y e r = omega (arith, ints, r.first, r.on.row)

-- ---- sums over rows
unfoldable total : (ℕ → ℕ) → ℕ → ℕ → ℕ
total f k zero = 0
total f k (suc n) = f k + total f (suc k) n

area_length : (left : ℕ → ℤ) (wide : ℕ → ℕ) (top : ℤ) (k n : ℕ) → length (area left wide top k n) ≡ total wide k n
unfolding area total
area_length left wide top k zero = refl
area_length left wide top k (suc n) =
    let r : length (area left wide top (suc k) n) ≡ total wide (suc k) n = area_length left wide top (suc k) n in
    let l : length (line (left k) (top +ℤ pos k) (wide k)) ≡ wide k = line_length (left k) (top +ℤ pos k) (wide k) in
    let e : length (line (left k) (top +ℤ pos k) (wide k) ++ area left wide top (suc k) n) ≡ length (line (left k) (top +ℤ pos k) (wide k)) + length (area left wide top (suc k) n) = length-append (line (left k) (top +ℤ pos k) (wide k)) (area left wide top (suc k) n) in
    omega arith

rows_add : (f g1 g2 g3 g4 : ℕ → ℕ) (m k n : ℕ) → ((i : ℕ) → k ≤ i → i < k + n → f i + (g1 i + g2 i + g3 i + g4 i) ≡ m)
    → total f k n + (total g1 k n + total g2 k n + total g3 k n + total g4 k n) ≡ n * m
unfolding total
rows_add f g1 g2 g3 g4 m k zero h = omega arith
rows_add f g1 g2 g3 g4 m k (suc n) h =
    let a : f k + (g1 k + g2 k + g3 k + g4 k) ≡ m = h k (omega arith) (omega arith) in
    let r : total f (suc k) n + (total g1 (suc k) n + total g2 (suc k) n + total g3 (suc k) n + total g4 (suc k) n) ≡ n * m = rows_add f g1 g2 g3 g4 m (suc k) n (λ i l u. h i (omega arith) (omega arith)) in
    let e : suc n * m ≡ m + n * m = omega arith in
    omega arith

pub triangle_double : (n : ℕ) → 2 * triangle n ≡ n * (n + 1)
unfolding triangle
triangle_double zero = refl
triangle_double (suc n) = let r : 2 * triangle n ≡ n * (n + 1) = triangle_double n in omega arith

triangle_step : (n : ℕ) → triangle n ≡ n + triangle (n - 1)
unfolding triangle
triangle_step zero = refl
triangle_step (suc n) = let e : suc n - 1 ≡ n = omega arith in ap (λ (v : ℕ). suc n + triangle v) (sym e)

-- what a slanted side cuts off, row by row: one less in each row from the top, or one more towards the bottom
down_rows : (a k n : ℕ) → total (λ i. a - i) k n + triangle (a - (k + n)) ≡ triangle (a - k)
unfolding total
down_rows a k zero =
    let e : k + 0 ≡ k = omega arith in
    let t : triangle (a - (k + 0)) ≡ triangle (a - k) = ap (λ (v : ℕ). triangle (a - v)) e in
    omega arith
down_rows a k (suc n) =
    let r : total (λ i. a - i) (suc k) n + triangle (a - (suc k + n)) ≡ triangle (a - suc k) = down_rows a (suc k) n in
    let e : suc k + n ≡ k + suc n = omega arith in
    let s : total (λ i. a - i) (suc k) n + triangle (a - (k + suc n)) ≡ triangle (a - suc k) = subst (λ (v : ℕ). total (λ i. a - i) (suc k) n + triangle (a - v) ≡ triangle (a - suc k)) e r in
    let t : triangle (a - k) ≡ (a - k) + triangle (a - k - 1) = triangle_step (a - k) in
    let f : a - k - 1 ≡ a - suc k = omega arith in
    let u : triangle (a - k - 1) ≡ triangle (a - suc k) = ap triangle f in
    omega arith

up_rows : (h d k n : ℕ) → k + n ≤ suc h → total (λ i. d - (h - i)) k n + triangle (d - (suc h - k)) ≡ triangle (d - (suc h - (k + n)))
unfolding total
up_rows h d k zero l =
    let e : k ≡ k + 0 = omega arith in
    let t : triangle (d - (suc h - k)) ≡ triangle (d - (suc h - (k + 0))) = ap (λ (v : ℕ). triangle (d - (suc h - v))) e in
    omega arith
up_rows h d k (suc n) l =
    let r : total (λ i. d - (h - i)) (suc k) n + triangle (d - (suc h - suc k)) ≡ triangle (d - (suc h - (suc k + n))) = up_rows h d (suc k) n (omega arith) in
    let e : suc k + n ≡ k + suc n = omega arith in
    let s : triangle (d - (suc h - (suc k + n))) ≡ triangle (d - (suc h - (k + suc n))) = ap (λ (v : ℕ). triangle (d - (suc h - v))) e in
    let g : suc h - suc k ≡ h - k = omega arith in
    let t : triangle (d - (suc h - suc k)) ≡ triangle (d - (h - k)) = ap (λ (v : ℕ). triangle (d - v)) g in
    let v : triangle (d - (h - k)) ≡ (d - (h - k)) + triangle (d - (h - k) - 1) = triangle_step (d - (h - k)) in
    let f : d - (h - k) - 1 ≡ d - (suc h - k) = omega arith in
    let u : triangle (d - (h - k) - 1) ≡ triangle (d - (suc h - k)) = ap triangle f in
    omega arith

-- ---- the octagon, with the sides of its box and of the four triangles beyond its slanted sides
pub record IsShape (o : Bounds) (w h a b c d : ℕ) : Type 0 where
  pub wide : o.x1 ≡ o.x0 +ℤ pos w
  pub high : o.y1 ≡ o.y0 +ℤ pos h
  pub top_left : o.s0 ≡ (o.x0 +ℤ o.y0) +ℤ pos a
  pub top_right : o.d1 ≡ (o.x1 -ℤ o.y0) -ℤ pos b
  pub bottom_right : o.s1 ≡ (o.x1 +ℤ o.y1) -ℤ pos c
  pub bottom_left : o.d0 ≡ (o.x0 -ℤ o.y1) +ℤ pos d

-- the triangles have room beside each other
record IsRoomy (w h a b c d : ℕ) : Type 0 where
  left : a + d ≤ h
  right : b + c ≤ h
  top : a + b ≤ w
  bottom : c + d ≤ w

roomy : (o : Bounds) (w h a b c d : ℕ) → IsTight o → IsShape o w h a b c d → IsRoomy w h a b c d
roomy o w h a b c d t s = record { left = omega (arith, ints); right = omega (arith, ints); top = omega (arith, ints); bottom = omega (arith, ints) }

cuts_fit : (w h a b c d i : ℕ) → IsRoomy w h a b c d → i ≤ h → (a - i) + (d - (h - i)) + (b - i) + (c - (h - i)) ≤ w
cuts_fit w h a b c d i r l = omega arith

-- ---- its rows
abbrev left_of : ℤ → ℕ → ℕ → ℕ → ℕ → ℤ
left_of x0 h a d i = x0 +ℤ pos ((a - i) + (d - (h - i)))

abbrev wide_of : ℕ → ℕ → ℕ → ℕ → ℕ → ℕ → ℕ → ℕ
wide_of w h a b c d i = suc w - ((a - i) + (d - (h - i)) + (b - i) + (c - (h - i)))

-- the four cuts of a row, as numbers of which at most one of each pair counts
record AreCuts (h a b c d i : ℕ) (e f g j : ℕ) : Type 0 where
  e_low : a ≤ e + i
  f_low : d + i ≤ f + h
  g_low : b ≤ g + i
  j_low : c + i ≤ j + h
  left : (e + f ≡ 0) ⊎ ((e + f + i ≡ a) ⊎ (e + f + h ≡ d + i))
  right : (g + j ≡ 0) ⊎ ((g + j + i ≡ b) ⊎ (g + j + h ≡ c + i))

cut_left : (h a d i : ℕ) → a + d ≤ h → i ≤ h → ((a - i) + (d - (h - i)) ≡ 0) ⊎ (((a - i) + (d - (h - i)) + i ≡ a) ⊎ ((a - i) + (d - (h - i)) + h ≡ d + i))
cut_left h a d i r l = elim (cases_lt i a) [
  | inl m ↦ inr (inl (omega arith))
  | inr m ↦ elim (cases_lt (h - i) d) [ inl n ↦ inr (inr (omega arith)) | inr n ↦ inl (omega arith) ]
]

cuts : (w h a b c d i : ℕ) → IsRoomy w h a b c d → i ≤ h → AreCuts h a b c d i (a - i) (d - (h - i)) (b - i) (c - (h - i))
cuts w h a b c d i r l = record {
  e_low = omega arith;
  f_low = omega arith;
  g_low = omega arith;
  j_low = omega arith;
  left = cut_left h a d i r.left l;
  right = cut_left h b c i r.right l;
}

-- a row's points by its cuts
row_there : (o : Bounds) (w h a b c d i : ℕ) (e f g j m : ℕ) (u : ℤ) → IsShape o w h a b c d → AreCuts h a b c d i e f g j → i ≤ h → m + (e + f + g + j) ≡ suc w
    → (o.x0 +ℤ pos (e + f)) ≤ℤ u → u <ℤ ((o.x0 +ℤ pos (e + f)) +ℤ pos m) → Within o u (o.y0 +ℤ pos i)
row_there o w h a b c d i e f g j m u s k l q low high =
    let end : (u +ℤ pos (g + j)) ≤ℤ o.x1 = omega (arith, ints, s.wide) in
    let el = k.e_low in let fl = k.f_low in let gl = k.g_low in let jl = k.j_low in
    record {
      x_low = omega (arith, ints);
      x_high = omega (arith, ints);
      y_low = omega (arith, ints);
      y_high = omega (arith, ints, s.high);
      s_low = omega (arith, ints, s.top_left);
      s_high = omega (arith, ints, s.bottom_right, s.high);
      d_low = omega (arith, ints, s.bottom_left, s.high);
      d_high = omega (arith, ints, s.top_right);
    }

row_low : (o : Bounds) (w h a b c d i e f : ℕ) (u : ℤ) → IsShape o w h a b c d → (e + f ≡ 0) ⊎ ((e + f + i ≡ a) ⊎ (e + f + h ≡ d + i))
    → Within o u (o.y0 +ℤ pos i) → (o.x0 +ℤ pos (e + f)) ≤ℤ u
row_low o w h a b c d i e f u s (inl k) v = omega (arith, ints, v.x_low)
row_low o w h a b c d i e f u s (inr (inl k)) v = omega (arith, ints, v.s_low, s.top_left)
row_low o w h a b c d i e f u s (inr (inr k)) v = omega (arith, ints, v.d_low, s.bottom_left, s.high)

row_high : (o : Bounds) (w h a b c d i g j : ℕ) (u : ℤ) → IsShape o w h a b c d → (g + j ≡ 0) ⊎ ((g + j + i ≡ b) ⊎ (g + j + h ≡ c + i))
    → Within o u (o.y0 +ℤ pos i) → (u +ℤ pos (g + j)) ≤ℤ o.x1
row_high o w h a b c d i g j u s (inl k) v = omega (arith, ints, v.x_high)
row_high o w h a b c d i g j u s (inr (inl k)) v = omega (arith, ints, v.d_high, s.top_right)
row_high o w h a b c d i g j u s (inr (inr k)) v = omega (arith, ints, v.s_high, s.bottom_right, s.high)

row_number : (top y : ℤ) (n : ℕ) → top ≤ℤ y → y ≤ℤ (top +ℤ pos n) → (k : ℕ) × (k ≤ n) × (y ≡ top +ℤ pos k)
row_number top y n h l = by_sign (y -ℤ top) (omega (arith, ints))
  where
    by_sign : (d : ℤ) → y ≡ top +ℤ d → (k : ℕ) × (k ≤ n) × (y ≡ top +ℤ pos k)
    by_sign (pos k) e = (k, omega (arith, ints), e)
    by_sign (negsuc k) e = absurd (omega (arith, ints))

octagon_spots : (o : Bounds) (w h a b c d : ℕ) → IsRoomy w h a b c d → IsShape o w h a b c d
    → AreSpotsOf (Within o) (area (left_of o.x0 h a d) (wide_of w h a b c d) o.y0 0 (suc h))
octagon_spots o w h a b c d r s = record {
  distinct = area_distinct (left_of o.x0 h a d) (wide_of w h a b c d) o.y0 0 (suc h);
  same = λ x y. (
    λ m. there x y (in_area (left_of o.x0 h a d) (wide_of w h a b c d) o.y0 0 (suc h) x y m),
    λ v. area_in (left_of o.x0 h a d) (wide_of w h a b c d) o.y0 0 (suc h) x y (back x y v (row_number o.y0 y h v.y_low (reach y v.y_high))),
  );
}
  where
    reach : (y : ℤ) → y ≤ℤ o.y1 → y ≤ℤ (o.y0 +ℤ pos h)
    reach y l = omega (arith, ints, s.high)

    whole : (i : ℕ) → i ≤ h → wide_of w h a b c d i + ((a - i) + (d - (h - i)) + (b - i) + (c - (h - i))) ≡ suc w
    whole i l = let f = cuts_fit w h a b c d i r l in fits (suc w) ((a - i) + (d - (h - i)) + (b - i) + (c - (h - i))) (omega arith)
      where
        fits : (m n : ℕ) → n ≤ m → (m - n) + n ≡ m
        fits m n l = omega arith

    there : (x y : ℤ) → IsInArea (left_of o.x0 h a d) (wide_of w h a b c d) o.y0 0 (suc h) x y → Within o x y
    there x y p =
        let l : p.row ≤ h = omega (arith, p.last) in
        let v : Within o x (o.y0 +ℤ pos p.row) = row_there o w h a b c d p.row (a - p.row) (d - (h - p.row)) (b - p.row) (c - (h - p.row)) (wide_of w h a b c d p.row) x s (cuts w h a b c d p.row r l) l (whole p.row l) p.on.low p.on.high in
        subst (λ (t : ℤ). Within o x t) (sym p.on.row) v

    back : (x y : ℤ) → Within o x y → (i : ℕ) × (i ≤ h) × (y ≡ o.y0 +ℤ pos i) → IsInArea (left_of o.x0 h a d) (wide_of w h a b c d) o.y0 0 (suc h) x y
    back x y v p =
        let i = p.0 in
        let q : Within o x (o.y0 +ℤ pos i) = subst (λ (t : ℤ). Within o x t) p.2 v in
        let k = cuts w h a b c d i r p.1 in
        let low = row_low o w h a b c d i (a - i) (d - (h - i)) x s k.left q in
        let high = row_high o w h a b c d i (b - i) (c - (h - i)) x s k.right q in
        record {
          row = i;
          first = omega arith;
          last = omega (arith, p.1);
          on = record { row = p.2; low = low; high = ended x ((a - i) + (d - (h - i))) (b - i) (c - (h - i)) (wide_of w h a b c d i) high (whole i p.1) };
        }
      where
        ended : (x : ℤ) (e g j m : ℕ) → (x +ℤ pos (g + j)) ≤ℤ o.x1 → m + (e + g + j) ≡ suc w → x <ℤ ((o.x0 +ℤ pos e) +ℤ pos m)
        ended x e g j m l q = omega (arith, ints, s.wide)

triangle_none : triangle 0 ≡ 0
unfolding triangle
triangle_none = refl

rows_sum : (w h a b c d : ℕ) → IsRoomy w h a b c d → total (wide_of w h a b c d) 0 (suc h) + (triangle a + triangle b + triangle c + triangle d) ≡ suc h * suc w
rows_sum w h a b c d r =
    let t = rows_add (wide_of w h a b c d) (λ i. a - i) (λ i. d - (h - i)) (λ i. b - i) (λ i. c - (h - i)) (suc w) 0 (suc h) (λ i l u. whole i (omega arith)) in
    let ea = down_all a (omega (arith, r.left)) in
    let eb = down_all b (omega (arith, r.right)) in
    let ed = up_all d (omega (arith, r.left)) in
    let ec = up_all c (omega (arith, r.right)) in
    add_up (total (wide_of w h a b c d) 0 (suc h)) (total (λ i. a - i) 0 (suc h)) (total (λ i. d - (h - i)) 0 (suc h)) (total (λ i. b - i) 0 (suc h)) (total (λ i. c - (h - i)) 0 (suc h)) (suc h * suc w)
    (triangle a) (triangle b) (triangle c) (triangle d) t ea ed eb ec
  where
    whole : (i : ℕ) → i ≤ h → wide_of w h a b c d i + ((a - i) + (d - (h - i)) + (b - i) + (c - (h - i))) ≡ suc w
    whole i l = let f = cuts_fit w h a b c d i r l in fits (suc w) ((a - i) + (d - (h - i)) + (b - i) + (c - (h - i))) (omega arith)
      where
        fits : (m n : ℕ) → n ≤ m → (m - n) + n ≡ m
        fits m n l = omega arith

    down_all : (n : ℕ) → n ≤ h → total (λ i. n - i) 0 (suc h) ≡ triangle n
    down_all n l =
        let t : total (λ i. n - i) 0 (suc h) + triangle (n - (0 + suc h)) ≡ triangle (n - 0) = down_rows n 0 (suc h) in
        let e : n - (0 + suc h) ≡ 0 = omega arith in
        let f : triangle (n - (0 + suc h)) ≡ 0 = ap triangle e ∙ triangle_none in
        let g : n - 0 ≡ n = omega arith in
        let k : triangle (n - 0) ≡ triangle n = ap triangle g in
        omega arith

    up_all : (n : ℕ) → n ≤ h → total (λ i. n - (h - i)) 0 (suc h) ≡ triangle n
    up_all n l =
        let t : total (λ i. n - (h - i)) 0 (suc h) + triangle (n - (suc h - 0)) ≡ triangle (n - (suc h - (0 + suc h))) = up_rows h n 0 (suc h) (omega arith) in
        let e : n - (suc h - 0) ≡ 0 = omega arith in
        let f : triangle (n - (suc h - 0)) ≡ 0 = ap triangle e ∙ triangle_none in
        let g : n - (suc h - (0 + suc h)) ≡ n = omega arith in
        let k : triangle (n - (suc h - (0 + suc h))) ≡ triangle n = ap triangle g in
        omega arith

    add_up : (t sa sd sb sc m ta tb tc td : ℕ) → t + (sa + sd + sb + sc) ≡ m → sa ≡ ta → sd ≡ td → sb ≡ tb → sc ≡ tc → t + (ta + tb + tc + td) ≡ m
    add_up t sa sd sb sc m ta tb tc td e f g h i = omega arith

-- so many points as the box without the triangles
pub octagon_count : (o : Bounds) (w h a b c d n : ℕ) → IsTight o → IsShape o w h a b c d → n + (triangle a + triangle b + triangle c + triangle d) ≡ suc h * suc w → IsCount (Within o) n
octagon_count o w h a b c d n t s e =
    let r = roomy o w h a b c d t s in
    let q : total (wide_of w h a b c d) 0 (suc h) + (triangle a + triangle b + triangle c + triangle d) ≡ suc h * suc w = rows_sum w h a b c d r in
    record {
      spots = area (left_of o.x0 h a d) (wide_of w h a b c d) o.y0 0 (suc h);
      are = octagon_spots o w h a b c d r s;
      count = area_length (left_of o.x0 h a d) (wide_of w h a b c d) o.y0 0 (suc h) ∙ same (total (wide_of w h a b c d) 0 (suc h)) n (triangle a + triangle b + triangle c + triangle d) (suc h * suc w) q e;
    }
  where
    same : (t n k m : ℕ) → t + k ≡ m → n + k ≡ m → t ≡ n
    same t n k m e f = omega arith

-- the triangles are no more than the box, and the rest is the octagon
pub triangles_fit : (o : Bounds) (w h a b c d : ℕ) → IsTight o → IsShape o w h a b c d → triangle a + triangle b + triangle c + triangle d ≤ (w + 1) * (h + 1)
triangles_fit o w h a b c d t s =
    let q : total (wide_of w h a b c d) 0 (suc h) + (triangle a + triangle b + triangle c + triangle d) ≡ suc h * suc w = rows_sum w h a b c d (roomy o w h a b c d t s) in
    let e : suc h * suc w ≡ (w + 1) * (h + 1) = omega arith in
    omega arith

pub octagon_rest : (o : Bounds) (w h a b c d n : ℕ) → IsTight o → IsShape o w h a b c d → n + (triangle a + triangle b + triangle c + triangle d) ≡ (w + 1) * (h + 1) → IsCount (Within o) n
octagon_rest o w h a b c d n t s e =
    let f : (w + 1) * (h + 1) ≡ suc h * suc w = omega arith in
    octagon_count o w h a b c d n t s (e ∙ f)
