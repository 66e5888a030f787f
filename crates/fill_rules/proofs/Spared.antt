-- Islands: that a component has one number of grid points, and that components with the same centres are spared alike.
use Rattle.std.proofs.Common.{◌≡◌, sym, subst, ◌∙◌, ℕ, ◌*◌, ◌≤◌, arith}
use Rattle.std.specs.Prelude.{ℤ, ◌↔◌}
use Rattle.plane.specs.Plane.{Bounds, Within}
use Rattle.classes.specs.Classes.{Reaches}
use Rattle.grid_num.specs.declared.Point.{Point}
use Rattle.grid_sets.specs.Points.{IsCount}
use Rattle.grid_sets.proofs.Counting.{count_law}
use Rattle.board_language.specs.declared.IslandMode.{IslandMode}
use Rattle.board_language.specs.declared.IslandMode.TheVariants.{Remove, Keep, Below}
use Rattle.board_language.specs.Board.{Board}
use Rattle.fill_rules.specs.Fill.{Fills, brush_at, IsLinked, IsIslandPoint, IsLargeEnough, IsSpared}

-- ---- how many points a set has: two sets with the same points have as many

pub count_alike : (P Q : ℤ → ℤ → Type 0) (n : ℕ) → ((x y : ℤ) → P x y ↔ Q x y) → IsCount P n → IsCount Q n
count_alike P Q n f a = record {
  spots = a.spots;
  are = record {
    distinct = a.are.distinct;
    same = λ x y. (λ h. (f x y).0 ((a.are.same x y).0 h), λ h. (a.are.same x y).1 ((f x y).1 h));
  };
  count = a.count;
}

pub one_count : (P : ℤ → ℤ → Type 0) (m n : ℕ) → IsCount P m → IsCount P n → m ≡ n
one_count P m n a c =
    sym a.count
    ∙ count_law a.spots c.spots a.are.distinct c.are.distinct
    (λ x y. (λ h. (c.are.same x y).1 ((a.are.same x y).0 h), λ h. (a.are.same x y).1 ((c.are.same x y).0 h)))
    ∙ c.count

-- ---- islands

pub one_size : (b : Board) (above : Fills) (i : ℕ) (c : Point) (m n : ℕ) → IsCount (IsIslandPoint b above i c) m
    → IsCount (IsIslandPoint b above i c) n → m ≡ n
one_size b above i c m n = one_count (IsIslandPoint b above i c) m n

-- the count tells whether the component is large enough
pub told_by_count : (b : Board) (above : Fills) (i : ℕ) (c : Point) (area n : ℕ) → IsCount (IsIslandPoint b above i c) n
    → IsLargeEnough b above i c area ↔ (1000000 * area ≤ 4 * n)
told_by_count b above i c area n a = (
  λ l. subst (λ m. 1000000 * area ≤ 4 * m) (one_size b above i c l.points n l.count a) l.enough,
  λ h. record { points = n; count = a; enough = h },
)

-- the same brush at the same centres takes the same points
module _ (b d : Board) (one other : Fills) (i k : ℕ) (brush : (c : Point) → brush_at b i c ≡ brush_at d k c) (c e : Point) where
  point_to : ((x : Point) → Reaches (IsLinked b one i) c x → Reaches (IsLinked d other k) e x) → (x y : ℤ)
      → IsIslandPoint b one i c x y → IsIslandPoint d other k e x y
  point_to f x y (u, r, w) = (u, f u r, subst (λ (o : Bounds). Within o x y) (brush u) w)

  point_from : ((x : Point) → Reaches (IsLinked d other k) e x → Reaches (IsLinked b one i) c x) → (x y : ℤ)
      → IsIslandPoint d other k e x y → IsIslandPoint b one i c x y
  point_from g x y (u, r, w) = (u, g u r, subst (λ (o : Bounds). Within o x y) (sym (brush u)) w)

  pub spared_alike : ((x : Point) → Reaches (IsLinked b one i) c x → Reaches (IsLinked d other k) e x)
      → ((x : Point) → Reaches (IsLinked d other k) e x → Reaches (IsLinked b one i) c x)
      → (mode : IslandMode) → IsSpared b one i c mode → IsSpared d other k e mode
  spared_alike f g Remove s = absurd s
  spared_alike f g Keep s = tt
  spared_alike f g (Below area) s = record {
    points = s.points;
    count = count_alike (IsIslandPoint b one i c) (IsIslandPoint d other k e) s.points (λ x y. (point_to f x y, point_from g x y)) s.count;
    enough = s.enough;
  }

-- ---- rows

module _ (b : Board) (above : Fills) (i : ℕ) (c : Point) where
  pub row_stays : IsCount (IsIslandPoint b above i c) 11684826500000 → IsLargeEnough b above i c 46739306
  row_stays n = (told_by_count b above i c 46739306 11684826500000 n).1 (omega arith)

  pub row_goes : IsCount (IsIslandPoint b above i c) 11684826500000 → IsLargeEnough b above i c 46739307 → ⊥
  row_goes n l = let h = (told_by_count b above i c 46739307 11684826500000 n).0 l in omega arith

  pub row_less : IsCount (IsIslandPoint b above i c) 11684826499999 → IsLargeEnough b above i c 46739306 → ⊥
  row_less n l = let h = (told_by_count b above i c 46739306 11684826499999 n).0 l in omega arith
