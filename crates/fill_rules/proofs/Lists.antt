-- Lists that are the fills cover the fills.
use Rattle.std.proofs.Common.{ℕ, zero, suc, ◌<◌, arith, List, length}
use Rattle.std.specs.Prelude.{◌↔◌}
use Rattle.plane.specs.Plane.{PlanePoint, Bounds}
use Rattle.board_language.specs.Board.{Board}
use Rattle.fill_rules.specs.Tasks.{ranked}
use Rattle.fill_rules.specs.Fill.{fill_of}
use Rattle.fill_rules.specs.Lists.{covered_by, AreFillLists}
use Rattle.fill_rules.proofs.Fills.{fill_agree, fills_meet}

lists_below : (b : Board) (fills : List (List Bounds)) → AreFillLists b fills → (n i : ℕ) → i < n → i < length (ranked b) → (p : PlanePoint) → covered_by fills i p ↔ fill_of b i p
lists_below b fills f zero i l h p = absurd (omega arith)
lists_below b fills f (suc n) i l h p =
    let a = fill_agree b (covered_by fills) (fill_of b) i (λ k q m. lists_below b fills f n k (omega arith) (omega arith) q) p in
    (λ x. (fills_meet b i p).1 (a.0 ((f.each i h p).0 x)), λ x. (f.each i h p).1 (a.1 ((fills_meet b i p).0 x)))

pub lists_cover : (b : Board) (fills : List (List Bounds)) → AreFillLists b fills → (i : ℕ) → i < length (ranked b) → (p : PlanePoint) → covered_by fills i p ↔ fill_of b i p
lists_cover b fills f i h p = lists_below b fills f (suc i) i (omega arith) h p

pub lists_one : (b : Board) (fills others : List (List Bounds)) → AreFillLists b fills → AreFillLists b others
    → (i : ℕ) → i < length (ranked b) → (p : PlanePoint) → covered_by fills i p ↔ covered_by others i p
lists_one b fills others f g i h p =
    let x = lists_cover b fills f i h p in
    let y = lists_cover b others g i h p in
    (λ a. y.1 (x.0 a), λ a. x.1 (y.0 a))
