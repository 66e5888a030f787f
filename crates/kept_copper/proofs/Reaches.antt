-- How far what is grown reaches, and cells.
use Rattle.std.proofs.Common.{◌≡◌, refl, sym, subst, inl, inr, ℕ, ◌+◌, ◌≤◌, ◌<◌, ◌^◌, arith, List, [], ◌∷◌, ◌++◌, length, get_or, take}
use Rattle.std.specs.Prelude.{ℤ}
use Rattle.std.specs.List.{All, AllByRecursion}
use Rattle.std.proofs.lemmas.List.{take_more}
use Rattle.std.proofs.lemmas.List.Elements.{All-nil, All-cons, recursion_from_All}
use Rattle.plane.specs.Plane.{Bounds, IsTight, HasRoom, ball_of, sum_of}
use Rattle.plane.specs.Narrow.{IsNearZero}
use Rattle.octagon.specs.Room.{IsAround}
use Rattle.octagon.proofs.Room.{ball_reach, sum_reach, points_reach, room_law}
use Rattle.grid_sets.specs.Points.{HasPoint}
use Rattle.scan_runs.specs.declared.cell.Cell.{Cell}
use Rattle.scan_runs.specs.Cells.{AreCellsOf, octs_of, AreTiles}
use Rattle.scan_runs.proofs.OfSet.{tiles}
use Rattle.components.specs.Cells.{AreCells}

pub grown_room : (o : Bounds) (r : ℕ) → IsAround (2 ^ 31) o → r ≤ 2 ^ 31 → HasRoom (sum_of o (ball_of r))
grown_room o r a l = room_law (2 ^ 31 + r) (sum_of o (ball_of r)) (omega (arith, l)) (sum_reach (2 ^ 31) r o (ball_of r) a (ball_reach r))

pub twice_grown_room : (o : Bounds) (n r : ℕ) → IsAround (2 ^ 31) o → n ≤ 2 ^ 31 → r ≤ 2 ^ 31 → HasRoom (sum_of (sum_of o (ball_of n)) (ball_of r))
twice_grown_room o n r a k l =
    room_law (2 ^ 31 + n + r) (sum_of (sum_of o (ball_of n)) (ball_of r)) (omega (arith, k, l))
    (sum_reach (2 ^ 31 + n) r (sum_of o (ball_of n)) (ball_of r) (sum_reach (2 ^ 31) n o (ball_of n) a (ball_reach n)) (ball_reach r))

-- ---- cells
all_around : (m : ℕ) (os : List Bounds) → AllByRecursion IsTight os → ((x y : ℤ) → HasPoint os x y → IsNearZero m x × IsNearZero m y) → All (IsAround m) os
all_around m [] t f = All-nil (IsAround m)
all_around m (o ∷ os) t f = All-cons (IsAround m) o os (points_reach m o t.0 (λ x y w. f x y (inl w))) (all_around m os t.1 (λ x y h. f x y (inr h)))

cells_around : (m : ℕ) (os : List Bounds) (cells : List Cell) → AreCellsOf (HasPoint os) cells → ((x y : ℤ) → HasPoint os x y → IsNearZero m x × IsNearZero m y)
    → All (IsAround m) (octs_of cells)
cells_around m os cells a f =
    let t = tiles os cells a in
    all_around m (octs_of cells) (recursion_from_All IsTight (octs_of cells) t.tight) (λ x y h. f x y ((t.same x y).0 h))

pub octs_around : (m : ℕ) (os : List Bounds) (cells : List Cell) (octs : List Bounds) → octs ≡ octs_of cells → AreCellsOf (HasPoint os) cells
    → ((x y : ℤ) → HasPoint os x y → IsNearZero m x × IsNearZero m y) → All (IsAround m) octs
octs_around m os cells octs e a f = subst (λ t. All (IsAround m) t) (sym e) (cells_around m os cells a f)

pub cells_are : (P : ℤ → ℤ → Type 0) (cells : List Cell) (octs : List Bounds) → octs ≡ octs_of cells → AreCellsOf P cells → AreCells P octs
cells_are P cells octs e a = record { rows = a.rows; bands = a.bands; are_rows = a.are_rows; are_bands = a.are_bands; are = rw (e) a.octs }

pub octs_more : (cells : List Cell) (c : Cell) (i : ℕ) (octs : List Bounds) → i < length cells → c ≡ get_or cells i c → octs ≡ octs_of (take i cells)
    → octs ++ c.oct ∷ [] ≡ octs_of (take (i + 1) cells)
octs_more cells c i octs l e h =
    rw (h, take_more cells i c l, octs_end (take i cells) (get_or cells i c)) (subst (λ (d : Cell). octs_of (take i cells) ++ c.oct ∷ [] ≡ octs_of (take i cells) ++ d.oct ∷ []) e refl)
  where
    octs_end : (xs : List Cell) (d : Cell) → octs_of (xs ++ d ∷ []) ≡ octs_of xs ++ d.oct ∷ []
    octs_end [] d = refl
    octs_end (x ∷ xs) d = rw (octs_end xs d) refl
