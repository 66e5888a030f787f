use Rattle.std.proofs.Common.{sym, ◌∙◌, inl, inr}
use Rattle.board_text.proofs.Wholes.{bad_number, small_number, great_number}
use Rattle.board_text.proofs.number.whole_number.Goals as goal
use Rattle.board_text.proofs.number.whole_number.Goals.{then-not-are_digits-via-then-not-are_digits, then-not-are_digits-via-else-not-are_digits+then-is_empty}

pub returns-then-not-are_digits : goal.returns-then-not-are_digits
returns-then-not-are_digits c =
    bad_number c.args.text.now c.are_digits.result c.are_digits.ensures.value
    (elim c.then-not-are_digits.branch [
      | then-not-are_digits-via-then-not-are_digits w ↦ inl w.if-not-are_digits.true
      | then-not-are_digits-via-else-not-are_digits+then-is_empty w ↦ inr (sym w.is_empty.ensures ∙ w.if-is_empty.true)
    ])

pub returns-then-number : goal.returns-then-number
returns-then-number c = small_number c.args.text.now c.are_digits.result c.is_empty.result c.capped_number-number.result c.are_digits.ensures.value c.if-not-are_digits.false c.is_empty.ensures c.if-is_empty.false c.capped_number-number.ensures c.if-number.true

pub returns-else-number : goal.returns-else-number
returns-else-number c = great_number c.args.text.now c.are_digits.result c.is_empty.result c.capped_number-number.result c.are_digits.ensures.value c.if-not-are_digits.false c.is_empty.ensures c.if-is_empty.false c.capped_number-number.ensures c.if-number.false
