use Rattle.std.proofs.Common.{refl, ◌∙◌}
use Rattle.grid_num.proofs.Decimals.{put_point}
use Rattle.grid_num.proofs.write.put_places.Goals as goal

pub returns : goal.returns
returns c =
    let through = c.put_place.ensures.text 0 refl ∙ c.put_place-left-5.ensures.text 1 refl ∙ c.put_place-left-4.ensures.text 2 refl ∙ c.put_place-left-3.ensures.text 3 refl ∙ c.put_place-left-2.ensures.text 4 refl ∙ c.put_place-left.ensures.text 5 refl in
    put_point _ _ _ c.args.millionths c.if-millionths-eq0.false through c.put.ensures
