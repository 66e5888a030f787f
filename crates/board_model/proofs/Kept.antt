-- What is read is kept, of a board with few layers.
use Rattle.std.proofs.Common.{◌≡◌, ◌∙◌, ap, sym, Bool, true, false, cond, None, Some}
use Rattle.board_text.specs.Items.{Context}
use Rattle.board_model.specs.Steps.{has_few, kept}

pub some_kept : {X : Type 0} (c : Context) (x y : X) (b : Bool) → b ≡ has_few c → b ≡ true → x ≡ y → Some x ≡ kept c y
some_kept c x y b few e same = ap Some same ∙ ap (λ t. cond t (Some y) None) (sym e ∙ few)

pub none_kept : {X : Type 0} (c : Context) (y : X) (b : Bool) → b ≡ has_few c → b ≡ false → None ≡ kept c y
none_kept c y b few e = ap (λ t. cond t (Some y) None) (sym e ∙ few)
