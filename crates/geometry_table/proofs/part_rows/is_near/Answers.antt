use Rattle.std.proofs.Common.{subst}
use Rattle.std.specs.Prelude.{pos, neg_ℤ, ◌≤ℤ◌}
use Rattle.std.proofs.lemmas.Int.{to_z-of_z}
use mir.Val.{SFits}
use mir.Syntax.{w64}
use Rattle.geometry_table.proofs.part_rows.is_near.Goals as goal

pub returns : goal.returns
returns c = λ t.
    let p = c.both.ensures t in
    let e : SFits w64 c.x0.result = record { sfits = c.x0.type_inv } in
    let f : SFits w64 c.x1.result = record { sfits = c.x1.type_inv } in
    let g : SFits w64 c.y0.result = record { sfits = c.y0.type_inv } in
    let h : SFits w64 c.y1.result = record { sfits = c.y1.type_inv } in
    let x = simp to_z-of_z at c.is_range_near-across.ensures p.0 in
    let y = simp to_z-of_z at c.is_range_near-down.ensures p.1 in
    record {
      x_low = subst (λ z. neg_ℤ (pos 300000000) ≤ℤ z) c.x0.ensures.value x.0;
      x_high = subst (λ z. z ≤ℤ pos 300000000) c.x1.ensures.value x.1;
      y_low = subst (λ z. neg_ℤ (pos 300000000) ≤ℤ z) c.y0.ensures.value y.0;
      y_high = subst (λ z. z ≤ℤ pos 300000000) c.y1.ensures.value y.1;
    }
