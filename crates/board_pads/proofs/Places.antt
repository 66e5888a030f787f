-- The place of a pad, put together.
use Rattle.std.proofs.Common.{◌≡◌, ℕ, List, sym, ap, ◌∙◌}
use Rattle.std.specs.Prelude.{codes, ◌+ℤ◌}
use Rattle.grid_num.specs.declared.Point.{Point}
use Rattle.sexpr_text.specs.Items.{Item}
use Rattle.board_text.specs.Items.{point_in}
use Rattle.board_language.specs.Pads.{pad_place, turned_by, turns_in}

abbrev sum : Point → Point → Point
sum base own = record { x = base.x +ℤ own.x; y = base.y +ℤ own.y }

pub place_is : (bytes other : List ℕ) (footprint pad : Item) (base at own place : Point) (turns : ℕ) → other ≡ bytes → base ≡ point_in other (codes "at") footprint → turns ≡ turns_in other footprint
    → at ≡ point_in bytes (codes "at") pad → own ≡ turned_by turns at → place.x ≡ base.x +ℤ own.x → place.y ≡ base.y +ℤ own.y → place ≡ pad_place bytes footprint pad
unfolding pad_place
place_is bytes other footprint pad base at own place turns e b t a o x y =
    let first : place ≡ sum base own = ap (λ z. record { x = z; y = place.y }) x ∙ ap (λ z. record { x = base.x +ℤ own.x; y = z }) y in
    let turned : own ≡ turned_by (turns_in other footprint) (point_in bytes (codes "at") pad) = o ∙ ap (λ k. turned_by k at) t ∙ ap (turned_by (turns_in other footprint)) a in
    first ∙ ap (λ q. sum base q) turned ∙ ap (λ q. sum q (turned_by (turns_in other footprint) (point_in bytes (codes "at") pad))) b
    ∙ ap (λ bs. sum (point_in bs (codes "at") footprint) (turned_by (turns_in bs footprint) (point_in bytes (codes "at") pad))) e
