use Rattle.std.proofs.Common.{◌≡◌, ◌∙◌, sym, ap}
use Rattle.grid_num.specs.Spelling.{number}
use Rattle.grid_num.specs.Length.{with_sign}
use Rattle.grid_num.specs.Parts.{fraction_of, whole_of}
use Rattle.std.specs.Prelude.{◌++◌}
use Rattle.board_text.specs.Numbers.{ten_places}
use Rattle.board_pads.specs.Ratios.{kept_ratio}
use Rattle.board_pads.proofs.Ratios.{none_kept, some_kept}
use Rattle.board_pads.proofs.ratio.ratio_of.Goals as goal

pub returns-then-not-is_decimal : goal.returns-then-not-is_decimal
returns-then-not-is_decimal c = none_kept c.args.text.now (sym c.is_decimal.ensures ∙ c.if-not-is_decimal.true)

pub returns : goal.returns
returns c =
    some_kept c.args.text.now c.kept.result (sym c.is_decimal.ensures ∙ c.if-not-is_decimal.false)
    (c.kept.ensures (number (whole_of c.args.text.now ++ ten_places (fraction_of c.args.text.now))) c.ratio_size.ensures
    ∙ ap (λ b. kept_ratio (with_sign b (number (whole_of c.args.text.now ++ ten_places (fraction_of c.args.text.now))))) c.is_negative.ensures)
