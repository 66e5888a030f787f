use Rattle.std.proofs.Common.{sym, ◌∙◌, inl, inr}
use Rattle.board_text.proofs.Wholes.{bad_fault, small_fault, great_fault}
use Rattle.board_text.proofs.number.whole_fault.Goals as goal
use Rattle.board_text.proofs.number.whole_fault.Goals.{then-not-are_digits-via-then-not-are_digits, then-not-are_digits-via-else-not-are_digits+then-is_empty}

pub returns-then-not-are_digits : goal.returns-then-not-are_digits
returns-then-not-are_digits c =
    bad_fault c.args.text.now c.are_digits.result c.are_digits.ensures.value
    (elim c.then-not-are_digits.branch [
      | then-not-are_digits-via-then-not-are_digits w ↦ inl w.if-not-are_digits.true
      | then-not-are_digits-via-else-not-are_digits+then-is_empty w ↦ inr (sym w.is_empty.ensures ∙ w.if-is_empty.true)
    ])

pub returns-then-capped_number : goal.returns-then-capped_number
returns-then-capped_number c = small_fault c.args.text.now c.are_digits.result c.is_empty.result c.capped_number.result c.are_digits.ensures.value c.if-not-are_digits.false c.is_empty.ensures c.if-is_empty.false c.capped_number.ensures c.if-capped_number.true

pub returns-else-capped_number : goal.returns-else-capped_number
returns-else-capped_number c = great_fault c.args.text.now c.are_digits.result c.is_empty.result c.capped_number.result c.are_digits.ensures.value c.if-not-are_digits.false c.is_empty.ensures c.if-is_empty.false c.capped_number.ensures c.if-capped_number.false
