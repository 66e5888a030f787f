use Rattle.grid_num.proofs.Cutting.{cut_spells, cut_none}
use Rattle.grid_num.proofs.read.parts_of.Goals as goal

pub returns-then-not-is_spelt-clause-none : goal.returns-then-not-is_spelt-clause-none
returns-then-not-is_spelt-clause-none c =
    cut_none c.args.text.now c.without_sign-unsigned.result.now c.split_at.result.0.now c.split_at.result.1.now c.without_point-fraction.result.now c.digits_end.result
    (record { unsigned_is = c.without_sign-unsigned.ensures; count_is = c.digits_end.ensures.value; whole_is = c.split_at.ensures.front; rest_is = c.split_at.ensures.back; fraction_is = c.without_point-fraction.ensures })
    (c.is_spelt.ensures.no c.if-not-is_spelt.true)

pub returns-clause-found : goal.returns-clause-found
returns-clause-found c =
    cut_spells c.args.text.now c.without_sign-unsigned.result.now c.split_at.result.0.now c.split_at.result.1.now c.without_point-fraction.result.now c.digits_end.result c.starts_with.result
    (record { unsigned_is = c.without_sign-unsigned.ensures; count_is = c.digits_end.ensures.value; whole_is = c.split_at.ensures.front; rest_is = c.split_at.ensures.back; fraction_is = c.without_point-fraction.ensures })
    c.starts_with.ensures (c.is_spelt.ensures.yes c.if-not-is_spelt.false) (c.is_spelt.ensures.some c.if-not-is_spelt.false)
