use Rattle.std.proofs.Common.{◌≡◌, ◌∙◌, ap, sym, subst, ℕ, ◌+◌, ◌<◌, ◌≤◌, arith, map, get_or, length, take, drop, ◌-◌, List, [], ◌∷◌, ◌++◌}
use Rattle.std.proofs.Math.Seq.{take-length}
use Rattle.std.proofs.Math.ListN.{drop_of_length-le}
use Rattle.std.proofs.lemmas.List.{length-drop}
use Rattle.output_rules.specs.Pieces.{ArePiecesInOrder, replaced}
use Rattle.output_rules.specs.Shown.{piece_shown}
use Rattle.output_rules.specs.declared.pieces.Piece as code
use Rattle.output_rules.proofs.Replacing.{order, split_at, first_from, first_to, first_rest, next, last_written}
use Rattle.output_rules.proofs.pieces.replaced.Goals as goal

-- of the pieces that are left, what is known of the first
left : (text : List ℕ) (ps : List code.Piece) (i : ℕ) (p : code.Piece) (at : ℕ) → i < length ps → p ≡ get_or ps i p → ArePiecesInOrder at (length text) (map piece_shown (drop i ps))
    → ArePiecesInOrder at (length text) (piece_shown p ∷ map piece_shown (drop (i + 1) ps))
left text ps i p at within is h = subst (ArePiecesInOrder at (length text)) (split_at piece_shown ps i p within is) h

pub slice_bounds-extend_from_slice-count : goal.slice_bounds-extend_from_slice-count
slice_bounds-extend_from_slice-count c =
    let within : c.pieces.piece-index < length c.args.pieces.now = omega arith in
    first_from _ _ _ _ (left c.args.text.now c.args.pieces.now c.pieces.piece-index c.piece-item.result c.pieces.at within c.piece-item.is c.pieces.invariant.order)

pub slice_bounds-extend_from_slice-start : goal.slice_bounds-extend_from_slice-start
slice_bounds-extend_from_slice-start c =
    let within : c.pieces.piece-index < length c.args.pieces.now = omega arith in
    first_from _ _ _ _ (left c.args.text.now c.args.pieces.now c.pieces.piece-index c.piece-item.result c.pieces.at within c.piece-item.is c.pieces.invariant.order)

pub slice_bounds-extend_from_slice-end : goal.slice_bounds-extend_from_slice-end
slice_bounds-extend_from_slice-end c =
    let within : c.pieces.piece-index < length c.args.pieces.now = omega arith in
    let all = left c.args.text.now c.args.pieces.now c.pieces.piece-index c.piece-item.result c.pieces.at within c.piece-item.is c.pieces.invariant.order in
    let to : c.piece-item.result.from ≤ c.piece-item.result.to = first_to _ _ _ _ all in
    let last : c.piece-item.result.to ≤ length c.args.text.now = order _ _ _ (first_rest _ _ _ _ all) in
    omega (arith, to, last)

pub pieces-preserved : goal.pieces-preserved
pieces-preserved c =
    let within : c.pieces.piece-index < length c.args.pieces.now = omega arith in
    let p = piece_shown c.piece-item.result in
    let ps = map piece_shown (drop (c.pieces.piece-index + 1) c.args.pieces.now) in
    let all : ArePiecesInOrder c.pieces.at (length c.args.text.now) (p ∷ ps) =
    left c.args.text.now c.args.pieces.now c.pieces.piece-index c.piece-item.result c.pieces.at within c.piece-item.is c.pieces.invariant.order in
    record {
      order = first_rest c.pieces.at (length c.args.text.now) p ps all;
      written = next c.args.text.now c.pieces.at p ps c.pieces.out.items c.extend_from_slice.new.self.items c.extend_from_slice-in-pieces.new.self.items _
          (first_from c.pieces.at (length c.args.text.now) p ps all) (first_to c.pieces.at (length c.args.text.now) p ps all)
          c.in_ok-extend_from_slice.ensures.items
          (c.in_ok-extend_from_slice-2.ensures.items ∙ ap (λ t. c.extend_from_slice.new.self.items ++ t) c.deref.ensures.value)
          (ap (λ qs. c.pieces.out.items ++ replaced c.pieces.at qs (drop c.pieces.at c.args.text.now)) (sym (split_at piece_shown c.args.pieces.now c.pieces.piece-index c.piece-item.result within c.piece-item.is)) ∙ c.pieces.invariant.written);
    }

pub slice_bounds-extend_from_slice-count-2 : goal.slice_bounds-extend_from_slice-count-2
slice_bounds-extend_from_slice-count-2 c = order _ _ _ c.pieces.invariant.order

pub slice_bounds-extend_from_slice-start-2 : goal.slice_bounds-extend_from_slice-start-2
slice_bounds-extend_from_slice-start-2 c = order _ _ _ c.pieces.invariant.order

pub returns : goal.returns
returns c =
    let text = c.args.text.now in
    let at = c.pieces.at in
    let done : length c.args.pieces.now ≤ c.pieces.piece-index = omega arith in
    let none : map piece_shown (drop c.pieces.piece-index c.args.pieces.now) ≡ [] = ap (map piece_shown) (drop_of_length-le c.args.pieces.now done) in
    let all : take (length text - at) (drop at text) ≡ drop at text = ap (λ n. take n (drop at text)) (sym (length-drop at text)) ∙ take-length (drop at text) in
    c.in_ok-extend_from_slice-3.ensures.items ∙ ap (λ t. c.pieces.out.items ++ t) all
    ∙ last_written at text c.pieces.out.items _ (ap (λ ps. c.pieces.out.items ++ replaced at ps (drop at text)) (sym none) ∙ c.pieces.invariant.written)
