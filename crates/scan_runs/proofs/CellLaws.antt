-- A cell is the least octagon round the ends of its first row and its last.
use Rattle.std.proofs.Common.{◌≡◌, refl, sym, ap, ◌∙◌, subst, ℕ, zero, suc, ◌+◌, ◌<◌, ◌≤◌, List, [], ◌∷◌, ◌++◌, map, length, get_or, take, append_assoc, arith}
use Rattle.std.specs.Prelude.{ℤ, pos, ◌+ℤ◌, ◌-ℤ◌, ◌≤ℤ◌}
use Rattle.std.specs.List.{All}
use Rattle.std.proofs.lemmas.Int.{ints}
use Rattle.std.proofs.lemmas.List.{take_more, take_all, length-take-le}
use Rattle.plane.specs.Plane.{Bounds, PlanePoint, Within, In, IsTight, IsOct, grid_point}
use Rattle.plane.proofs.Moved.{grid_law}
use Rattle.plane.proofs.Tight.{same_points}
use Rattle.octagon.specs.Bounded.{IsInReach}
use Rattle.grid_num.specs.declared.Point.{Point}
use Rattle.grid_sets.specs.Bands.{place_after, reach, Band}
use Rattle.grid_sets.specs.Cells.{leftmost, rightmost, cell_of, cells_of}
use Rattle.grid_sets.specs.declared.Move.{Move}
use Rattle.grid_sets.specs.declared.Move.TheVariants.{Left, Still, Right}
use Rattle.grid_sets.specs.declared.Slant.{Slant}
use Rattle.grid_sets.proofs.Cells.{run_in_cell}
use Rattle.scan_runs.specs.Strips.{band_of}
use Rattle.scan_runs.specs.Inner.Grouping.{IsGoodBand, AreGoodBands}
use Rattle.scan_runs.specs.Cells.{run_cells, numbered_cells}
use Rattle.scan_runs.specs.declared.cell.Cell.{Cell}
use Rattle.scan_runs.specs.declared.strip.RowStrip.{RowStrip}

within_as : (b : Bounds) (x y u v : ℤ) → x ≡ u → y ≡ v → Within b u v → Within b x y
within_as b x y u v e f w = subst (λ (z : ℤ). Within b z y) (sym e) (subst (λ (z : ℤ). Within b u z) (sym f) w)

-- ---- the ends of the first row and the last are on the cell
moved_zero : (m : Move) (a : ℤ) → a ≡ place_after m 0 a
moved_zero Left a = omega (arith, ints)
moved_zero Still a = refl
moved_zero Right a = omega (arith, ints)

first_order : (top : ℤ) (n : ℕ) (s : Slant) → IsTight (cell_of top n s) → reach 0 s.from ≤ℤ reach 0 s.to
first_order top n s t = through s.from.place s.to.place (reach 0 s.from) (reach 0 s.to) (moved_zero s.from.go s.from.place) (moved_zero s.to.go s.to.place) t.top
  where
    through : (a c p q : ℤ) → a ≡ p → c ≡ q → ((a +ℤ top) -ℤ (c -ℤ top)) ≤ℤ (top +ℤ top) → p ≤ℤ q
    through a c p q e f h = omega (arith, ints)

last_order : (top : ℤ) (n : ℕ) (s : Slant) → IsTight (cell_of top n s) → reach n s.from ≤ℤ reach n s.to
last_order top n s t = through (reach n s.from) (reach n s.to) t.bottom
  where
    through : (p q : ℤ) → ((top +ℤ pos n) +ℤ (top +ℤ pos n)) ≤ℤ ((q +ℤ (top +ℤ pos n)) -ℤ (p -ℤ (top +ℤ pos n))) → p ≤ℤ q
    through p q h = omega (arith, ints)

same : (x : ℤ) → x ≤ℤ x
same x = omega (arith, ints)

level : (top : ℤ) → top ≡ top +ℤ pos 0
level top = omega (arith, ints)

pub first_left : (top : ℤ) (n : ℕ) (s : Slant) (x y : ℤ) → IsTight (cell_of top n s) → x ≡ reach 0 s.from → y ≡ top → Within (cell_of top n s) x y
first_left top n s x y t e f =
    within_as (cell_of top n s) x y (reach 0 s.from) (top +ℤ pos 0) e (f ∙ level top) (run_in_cell top n 0 s (reach 0 s.from) (omega arith) (record { low = same (reach 0 s.from); high = first_order top n s t }))

pub first_right : (top : ℤ) (n : ℕ) (s : Slant) (x y : ℤ) → IsTight (cell_of top n s) → x ≡ reach 0 s.to → y ≡ top → Within (cell_of top n s) x y
first_right top n s x y t e f =
    within_as (cell_of top n s) x y (reach 0 s.to) (top +ℤ pos 0) e (f ∙ level top) (run_in_cell top n 0 s (reach 0 s.to) (omega arith) (record { low = first_order top n s t; high = same (reach 0 s.to) }))

pub last_left : (top : ℤ) (n : ℕ) (s : Slant) (x y : ℤ) → IsTight (cell_of top n s) → x ≡ reach n s.from → y ≡ top +ℤ pos n → Within (cell_of top n s) x y
last_left top n s x y t e f =
    within_as (cell_of top n s) x y (reach n s.from) (top +ℤ pos n) e f (run_in_cell top n n s (reach n s.from) (omega arith) (record { low = same (reach n s.from); high = last_order top n s t }))

pub last_right : (top : ℤ) (n : ℕ) (s : Slant) (x y : ℤ) → IsTight (cell_of top n s) → x ≡ reach n s.to → y ≡ top +ℤ pos n → Within (cell_of top n s) x y
last_right top n s x y t e f =
    within_as (cell_of top n s) x y (reach n s.to) (top +ℤ pos n) e f (run_in_cell top n n s (reach n s.to) (omega arith) (record { low = last_order top n s t; high = same (reach n s.to) }))

pub in_reach : (b : Bounds) (p : Point) → IsOct b → Within b p.x p.y → IsInReach p
in_reach b p o w = record {
  x = record { low = omega (arith, ints, o.x_low, w.x_low); high = omega (arith, ints, o.x_high, w.x_high) };
  y = record { low = omega (arith, ints, o.y_low, w.y_low); high = omega (arith, ints, o.y_high, w.y_high) };
}

-- ---- an octagon that has them has the cell
left_held : (m : Move) (n : ℕ) (a r : ℤ) → r ≤ℤ place_after m 0 a → r ≤ℤ place_after m n a → r ≤ℤ leftmost m n a
left_held Left n a r h i = i
left_held Still n a r h i = i
left_held Right n a r h i = omega (arith, ints, h)

right_held : (m : Move) (n : ℕ) (a r : ℤ) → place_after m 0 a ≤ℤ r → place_after m n a ≤ℤ r → rightmost m n a ≤ℤ r
right_held Left n a r h i = omega (arith, ints, h)
right_held Still n a r h i = i
right_held Right n a r h i = i

through : (a b c : ℤ) → a ≤ℤ b → b ≤ℤ c → a ≤ℤ c
through a b c h i = omega (arith, ints)

-- r has the four points
pub record HasEnds (top : ℤ) (n : ℕ) (s : Slant) (r : Bounds) : Type 0 where
  pub first_left : Within r (reach 0 s.from) top
  pub first_right : Within r (reach 0 s.to) top
  pub last_left : Within r (reach n s.from) (top +ℤ pos n)
  pub last_right : Within r (reach n s.to) (top +ℤ pos n)

ends_held : (top : ℤ) (n : ℕ) (s : Slant) (r : Bounds) → HasEnds top n s r → (x y : ℤ) → Within (cell_of top n s) x y → Within r x y
ends_held top n s r h x y w = record {
  x_low = through r.x0 (leftmost s.from.go n s.from.place) x (left_held s.from.go n s.from.place r.x0 h.first_left.x_low h.last_left.x_low) w.x_low;
  x_high = through x (rightmost s.to.go n s.to.place) r.x1 w.x_high (right_held s.to.go n s.to.place r.x1 h.first_right.x_high h.last_right.x_high);
  y_low = through r.y0 top y h.first_left.y_low w.y_low;
  y_high = through y (top +ℤ pos n) r.y1 w.y_high h.last_left.y_high;
  s_low = through r.s0 (s.from.place +ℤ top) (x +ℤ y) (low_s s.from.place (reach 0 s.from) (moved_zero s.from.go s.from.place) h.first_left.s_low) w.s_low;
  s_high = through (x +ℤ y) (reach n s.to +ℤ (top +ℤ pos n)) r.s1 w.s_high h.last_right.s_high;
  d_low = through r.d0 (reach n s.from -ℤ (top +ℤ pos n)) (x -ℤ y) h.last_left.d_low w.d_low;
  d_high = through (x -ℤ y) (s.to.place -ℤ top) r.d1 w.d_high (high_d s.to.place (reach 0 s.to) (moved_zero s.to.go s.to.place) h.first_right.d_high);
}
  where
    low_s : (a p : ℤ) → a ≡ p → r.s0 ≤ℤ (p +ℤ top) → r.s0 ≤ℤ (a +ℤ top)
    low_s a p e k = omega (arith, ints)

    high_d : (a p : ℤ) → a ≡ p → (p -ℤ top) ≤ℤ r.d1 → (a -ℤ top) ≤ℤ r.d1
    high_d a p e k = omega (arith, ints)

cell_hull : (top : ℤ) (n : ℕ) (s : Slant) (r : Bounds) → IsTight (cell_of top n s) → IsTight r → HasEnds top n s r → ((x y : ℤ) → Within r x y → Within (cell_of top n s) x y) → r ≡ cell_of top n s
cell_hull top n s r t u h l = same_points r (cell_of top n s) u t (λ x y. (l x y, ends_held top n s r h x y))

-- ---- the same of the points in a list
all_four : (P : Point → Type 0) (a b c d : Point) → P a → P b → P c → P d → All P (a ∷ b ∷ c ∷ d ∷ [])
all_four P a b c d p q u v zero e l = p
all_four P a b c d p q u v (suc zero) e l = q
all_four P a b c d p q u v (suc (suc zero)) e l = u
all_four P a b c d p q u v (suc (suc (suc zero))) e l = v
all_four P a b c d p q u v (suc (suc (suc (suc k)))) e l = absurd (omega arith)

-- the ends of the first row and the last
pub record AreEnds (top : ℤ) (n : ℕ) (s : Slant) (a b c d : Point) : Type 0 where
  pub ax : a.x ≡ reach 0 s.from
  pub ay : a.y ≡ top
  pub bx : b.x ≡ reach 0 s.to
  pub by : b.y ≡ top
  pub cx : c.x ≡ reach n s.from
  pub cy : c.y ≡ top +ℤ pos n
  pub dx : d.x ≡ reach n s.to
  pub dy : d.y ≡ top +ℤ pos n

pub ends_in_reach : (top : ℤ) (n : ℕ) (s : Slant) (a b c d : Point) → AreEnds top n s a b c d → IsOct (cell_of top n s) → All IsInReach (a ∷ b ∷ c ∷ d ∷ [])
ends_in_reach top n s a b c d e o =
    all_four IsInReach a b c d
    (in_reach (cell_of top n s) a o (first_left top n s a.x a.y o.tight e.ax e.ay))
    (in_reach (cell_of top n s) b o (first_right top n s b.x b.y o.tight e.bx e.by))
    (in_reach (cell_of top n s) c o (last_left top n s c.x c.y o.tight e.cx e.cy))
    (in_reach (cell_of top n s) d o (last_right top n s d.x d.y o.tight e.dx e.dy))

pub ends_hull : (top : ℤ) (n : ℕ) (s : Slant) (a b c d : Point) (r : Bounds) → AreEnds top n s a b c d → IsOct (cell_of top n s) → IsOct r → All (λ q. Within r q.x q.y) (a ∷ b ∷ c ∷ d ∷ [])
    → ((z : Bounds) (p : PlanePoint) → All (λ q. Within z q.x q.y) (a ∷ b ∷ c ∷ d ∷ []) → In r p → In z p) → r ≡ cell_of top n s
ends_hull top n s a b c d r e o q h l =
    let z = cell_of top n s in
    let held : All (λ p. Within z p.x p.y) (a ∷ b ∷ c ∷ d ∷ []) =
    all_four (λ p. Within z p.x p.y) a b c d
    (first_left top n s a.x a.y o.tight e.ax e.ay) (first_right top n s b.x b.y o.tight e.bx e.by)
    (last_left top n s c.x c.y o.tight e.cx e.cy) (last_right top n s d.x d.y o.tight e.dx e.dy) in
    cell_hull top n s r o.tight q.tight
    (record {
      first_left = within_as r (reach 0 s.from) top a.x a.y (sym e.ax) (sym e.ay) (h 0 a (omega arith));
      first_right = within_as r (reach 0 s.to) top b.x b.y (sym e.bx) (sym e.by) (h 1 a (omega arith));
      last_left = within_as r (reach n s.from) (top +ℤ pos n) c.x c.y (sym e.cx) (sym e.cy) (h 2 a (omega arith));
      last_right = within_as r (reach n s.to) (top +ℤ pos n) d.x d.y (sym e.dx) (sym e.dy) (h 3 a (omega arith));
    })
    (λ x y w. (grid_law z x y).0 (l z (grid_point x y) held ((grid_law r x y).1 w)))

-- ---- lists of cells
abbrev cell : Band → ℕ → ℕ → Slant → Cell
cell b band run s = record { oct = cell_of b.top b.more s; band = band; run = run }

no_more : (cs : List Cell) → cs ++ [] ≡ cs
no_more [] = refl
no_more (c ∷ cs) = ap (λ (v : List Cell). c ∷ v) (no_more cs)

run_cells_end : (b : Band) (band run : ℕ) (ss : List Slant) (s : Slant) → run_cells b band run (ss ++ s ∷ []) ≡ run_cells b band run ss ++ cell b band (run + length ss) s ∷ []
run_cells_end b band run [] s = let e : run ≡ run + 0 = omega arith in ap (λ (v : ℕ). cell b band v s ∷ []) e
run_cells_end b band run (t ∷ ts) s =
    let e : suc run + length ts ≡ run + suc (length ts) = omega arith in
    ap (λ (v : List Cell). cell b band run t ∷ v) (run_cells_end b band (suc run) ts s ∙ ap (λ (v : ℕ). run_cells b band (suc run) ts ++ cell b band v s ∷ []) e)

cell_by : (b : Band) (band m n : ℕ) (s : Slant) (o : Bounds) → m ≡ n → o ≡ cell_of b.top b.more s → cell b band n s ≡ record { oct = o; band = band; run = m }
cell_by b band m n s o e f = cc

pub run_cells_more : (b : Band) (band i n : ℕ) (ss : List Slant) (d : Slant) (o : Bounds) (old start : List Cell) → i < length ss → n ≡ i → o ≡ cell_of b.top b.more (get_or ss i d)
    → old ≡ start ++ run_cells b band 0 (take i ss) → old ++ (record { oct = o; band = band; run = n }) ∷ [] ≡ start ++ run_cells b band 0 (take (i + 1) ss)
run_cells_more b band i n ss d o old start l e f h =
    let m : length (take i ss) ≡ i = length-take-le i ss (omega arith) in
    let z : n ≡ 0 + length (take i ss) = omega arith in
    let whole : run_cells b band 0 (take (i + 1) ss) ≡ run_cells b band 0 (take i ss) ++ (record { oct = o; band = band; run = n }) ∷ [] =
    ap (λ (v : List Slant). run_cells b band 0 v) (take_more ss i d l)
    ∙ (run_cells_end b band 0 (take i ss) (get_or ss i d)
    ∙ ap (λ (v : Cell). run_cells b band 0 (take i ss) ++ v ∷ []) (cell_by b band n (0 + length (take i ss)) (get_or ss i d) o z f)) in
    ap (λ (v : List Cell). v ++ (record { oct = o; band = band; run = n }) ∷ []) h
    ∙ (append_assoc start (run_cells b band 0 (take i ss)) ((record { oct = o; band = band; run = n }) ∷ [])
    ∙ ap (λ (v : List Cell). start ++ v) (sym whole))

pub run_cells_first : (b : Band) (band : ℕ) (start : List Cell) → start ≡ start ++ run_cells b band 0 []
run_cells_first b band start = sym (no_more start)

pub run_cells_all : (b : Band) (band i : ℕ) (ss : List Slant) (start new : List Cell) → length ss ≤ i → new ≡ start ++ run_cells b band 0 (take i ss) → new ≡ start ++ run_cells b band 0 ss
run_cells_all b band i ss start new l h = h ∙ ap (λ (v : List Slant). start ++ run_cells b band 0 v) (take_all i ss l)

numbered_end : (k : ℕ) (bs : List RowStrip) (s : RowStrip) → numbered_cells k (map band_of (bs ++ s ∷ [])) ≡ numbered_cells k (map band_of bs) ++ run_cells (band_of s) (k + length bs) 0 s.runs.items
numbered_end k [] s = let e : k ≡ k + 0 = omega arith in ap (λ (v : ℕ). run_cells (band_of s) v 0 s.runs.items ++ []) e ∙ no_more (run_cells (band_of s) (k + 0) 0 s.runs.items)
numbered_end k (t ∷ ts) s =
    let e : suc k + length ts ≡ k + suc (length ts) = omega arith in
    let first = run_cells (band_of t) k 0 t.runs.items in
    ap (λ (v : List Cell). first ++ v) (numbered_end (suc k) ts s ∙ ap (λ (v : ℕ). numbered_cells (suc k) (map band_of ts) ++ run_cells (band_of s) v 0 s.runs.items) e)
    ∙ sym (append_assoc first (numbered_cells (suc k) (map band_of ts)) (run_cells (band_of s) (k + suc (length ts)) 0 s.runs.items))

pub numbered_more : (i n : ℕ) (bs : List RowStrip) (d s : RowStrip) (old new : List Cell) → i < length bs → s ≡ get_or bs i d → n ≡ i → old ≡ numbered_cells 0 (map band_of (take i bs))
    → new ≡ old ++ run_cells (band_of s) n 0 s.runs.items → new ≡ numbered_cells 0 (map band_of (take (i + 1) bs))
numbered_more i n bs d s old new l q e h k =
    let m : length (take i bs) ≡ i = length-take-le i bs (omega arith) in
    let z : n ≡ 0 + length (take i bs) = omega arith in
    k
    ∙ (ap (λ (v : List Cell). v ++ run_cells (band_of s) n 0 s.runs.items) h
    ∙ (ap (λ (v : ℕ). numbered_cells 0 (map band_of (take i bs)) ++ run_cells (band_of s) v 0 s.runs.items) z
    ∙ (ap (λ (v : RowStrip). numbered_cells 0 (map band_of (take i bs)) ++ run_cells (band_of v) (0 + length (take i bs)) 0 v.runs.items) q
    ∙ (sym (numbered_end 0 (take i bs) (get_or bs i d))
    ∙ ap (λ (v : List RowStrip). numbered_cells 0 (map band_of v)) (sym (take_more bs i d l))))))

pub numbered_all : (i : ℕ) (bs : List RowStrip) (new : List Cell) → length bs ≤ i → new ≡ numbered_cells 0 (map band_of (take i bs)) → new ≡ numbered_cells 0 (map band_of bs)
numbered_all i bs new l h = h ∙ ap (λ (v : List RowStrip). numbered_cells 0 (map band_of v)) (take_all i bs l)

-- ---- what holds of all cells holds of each
pub all_map_at : (P : Bounds → Type 0) (f : Slant → Bounds) (ss : List Slant) (i : ℕ) (d : Slant) → All P (map f ss) → i < length ss → P (f (get_or ss i d))
all_map_at P f [] i d h l = absurd (omega arith)
all_map_at P f (s ∷ ss) zero d h l = h 0 (f d) (omega arith)
all_map_at P f (s ∷ ss) (suc i) d h l = all_map_at P f ss i d (λ k e m. h (suc k) e (omega arith)) (omega arith)

all_left : (P : Bounds → Type 0) (xs ys : List Bounds) → All P (xs ++ ys) → All P xs
all_left P [] ys h k d l = absurd (omega arith)
all_left P (x ∷ xs) ys h zero d l = h 0 d (omega arith)
all_left P (x ∷ xs) ys h (suc k) d l = all_left P xs ys (λ j e m. h (suc j) e (omega arith)) k d (omega arith)

all_right : (P : Bounds → Type 0) (xs ys : List Bounds) → All P (xs ++ ys) → All P ys
all_right P [] ys h = h
all_right P (x ∷ xs) ys h = all_right P xs ys (λ j e m. h (suc j) e (omega arith))

pub all_band_at : (P : Bounds → Type 0) (bs : List RowStrip) (i : ℕ) (d : RowStrip) → All P (cells_of (map band_of bs)) → i < length bs
    → All P (map (cell_of (get_or bs i d).top (get_or bs i d).more) (get_or bs i d).runs.items)
all_band_at P [] i d h l = absurd (omega arith)
all_band_at P (b ∷ bs) zero d h l = all_left P (map (cell_of b.top b.more) b.runs.items) (cells_of (map band_of bs)) h
all_band_at P (b ∷ bs) (suc i) d h l = all_band_at P bs i d (all_right P (map (cell_of b.top b.more) b.runs.items) (cells_of (map band_of bs)) h) (omega arith)

pub good_band_at : (bs : List RowStrip) (i : ℕ) (d : RowStrip) → AreGoodBands bs → i < length bs → IsGoodBand (get_or bs i d)
good_band_at [] i d a l = absurd (omega arith)
good_band_at (t ∷ ts) zero d a l = a.0
good_band_at (t ∷ ts) (suc i) d a l = good_band_at ts i d a.1 (omega arith)

pub cell_oct_as : (top t : ℤ) (more : ℕ) (s : Slant) → t ≡ top → IsOct (cell_of top more s) → IsOct (cell_of t more s)
cell_oct_as top t more s e o = subst (λ (v : ℤ). IsOct (cell_of v more s)) (sym e) o

pub cell_same : (top t : ℤ) (more : ℕ) (s u : Slant) (o : Bounds) → t ≡ top → s ≡ u → o ≡ cell_of t more s → o ≡ cell_of top more u
cell_same top t more s u o e f h = h ∙ (ap (λ (v : ℤ). cell_of v more s) e ∙ ap (λ (v : Slant). cell_of top more v) f)
