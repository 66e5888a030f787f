use Rattle.std.proofs.Common.{◌≡◌, sym, subst, arith, ℕ, ◌+◌, ◌<◌, ◌≤◌, List, ◌∷◌, map, get_or, length, drop}
use Rattle.std.specs.Prelude.{nat_le, IsTrue}
use Rattle.std.proofs.lemmas.Bool.Decides.{nat_tests}
use Rattle.std.proofs.lemmas.Bool.{false≢true}
use Rattle.output_rules.specs.Pieces.{ArePiecesInOrder}
use Rattle.output_rules.specs.Shown.{piece_shown}
use Rattle.output_rules.specs.declared.pieces.Piece as code
use Rattle.output_rules.proofs.Replacing.{split_at, first_from, first_to, first_rest, in_order, last_in_order}
use Rattle.output_rules.proofs.pieces.are_in_order.Goals as goal
use Rattle.output_rules.proofs.pieces.are_in_order.Goals.{then-piece-at-via-then-piece-at, then-piece-at-via-else-piece-at+then-piece}

left : (end : ℕ) (ps : List code.Piece) (i : ℕ) (p : code.Piece) (at : ℕ) → i < length ps → p ≡ get_or ps i p → ArePiecesInOrder at end (map piece_shown (drop i ps))
    → ArePiecesInOrder at end (piece_shown p ∷ map piece_shown (drop (i + 1) ps))
left end ps i p at within is h = subst (ArePiecesInOrder at end) (split_at piece_shown ps i p within is) h

back_left : (end : ℕ) (ps : List code.Piece) (i : ℕ) (p : code.Piece) (at : ℕ) → i < length ps → p ≡ get_or ps i p → ArePiecesInOrder at end (piece_shown p ∷ map piece_shown (drop (i + 1) ps))
    → ArePiecesInOrder at end (map piece_shown (drop i ps))
back_left end ps i p at within is h = subst (ArePiecesInOrder at end) (sym (split_at piece_shown ps i p within is)) h

pub returns-then-piece-at : goal.returns-then-piece-at
returns-then-piece-at c =
    let within : c.pieces.piece-index < length c.args.pieces.now = omega arith in (
      λ t. absurd (false≢true t),
      λ h.
          let all = left c.args.length c.args.pieces.now c.pieces.piece-index c.piece-item.result c.pieces.at within c.piece-item.is (c.pieces.invariant.on h) in
          let from : c.pieces.at ≤ c.piece-item.result.from = first_from _ _ _ _ all in
          let to : c.piece-item.result.from ≤ c.piece-item.result.to = first_to _ _ _ _ all in
          elim c.then-piece-at.branch [
            | then-piece-at-via-then-piece-at w ↦ absurd (omega (arith, from, w.if-piece-at.true))
            | then-piece-at-via-else-piece-at+then-piece w ↦ absurd (omega (arith, to, w.if-piece.true))
          ],
    )

pub pieces-preserved : goal.pieces-preserved
pieces-preserved c =
    let within : c.pieces.piece-index < length c.args.pieces.now = omega arith in
    let from : c.pieces.at ≤ c.piece-item.result.from = omega (arith, c.if-piece-at.false) in
    let to : c.piece-item.result.from ≤ c.piece-item.result.to = omega (arith, c.if-piece.false) in
    record {
      on = λ h. first_rest _ _ _ _ (left c.args.length c.args.pieces.now c.pieces.piece-index c.piece-item.result c.pieces.at within c.piece-item.is (c.pieces.invariant.on h));
      back = λ h. c.pieces.invariant.back (back_left c.args.length c.args.pieces.now c.pieces.piece-index c.piece-item.result c.pieces.at within c.piece-item.is
          (in_order c.pieces.at c.args.length (piece_shown c.piece-item.result) (map piece_shown (drop (c.pieces.piece-index + 1) c.args.pieces.now)) from to h));
    }

le_of : (m n : ℕ) → IsTrue (nat_le m n) → m ≤ n
le_of m n h = grind (arith, nat_tests)

of_le : (m n : ℕ) → m ≤ n → IsTrue (nat_le m n)
of_le m n h = grind (arith, nat_tests)

pub returns : goal.returns
returns c =
    let done : length c.args.pieces.now ≤ c.pieces.piece-index = omega arith in
    let last = last_in_order piece_shown c.args.pieces.now c.pieces.piece-index c.pieces.at c.args.length done in
    (λ t. c.pieces.invariant.back (last.1 (le_of c.pieces.at c.args.length t)), λ h. of_le c.pieces.at c.args.length (last.0 (c.pieces.invariant.on h)))
