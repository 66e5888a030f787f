use Rattle.std.proofs.Common.{◌≡◌, ◌∙◌, sym, ap, min}
use Rattle.grid_num.specs.Spelling.{number, number_after}
use Rattle.grid_num.specs.Parts.{fraction_of, whole_of}
use Rattle.board_text.specs.Numbers.{ten_places}
use Rattle.board_pads.proofs.Ratios.{both_parts}
use Rattle.board_pads.proofs.ratio.ratio_size.Goals as goal

pub returns : goal.returns
returns c =
    both_parts 5000000001 c.follow-whole.result c.follow.result (whole_of c.args.text.now) (ten_places (fraction_of c.args.text.now))
    (c.follow-whole.ensures.value ∙ ap (λ ds. min 5000000001 (number ds)) c.whole_of.ensures)
    (c.follow.ensures.value ∙ ap (λ ds. min 5000000001 (number_after c.follow-whole.result ds)) (c.ten_places.ensures ∙ ap ten_places c.fraction_of.ensures))
