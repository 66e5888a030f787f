-- Just one reading of a text's fills is right.
use Rattle.std.proofs.Common.{◌≡◌, refl, sym, ap, ◌∙◌, ℕ, inl, inr, List, [], ◌∷◌, length, get_or, arith}
use Rattle.std.specs.Prelude.{◌⊎◌}
use Rattle.grid_num.specs.declared.Point.{Point}
use Rattle.sexpr_text.specs.Items.{Item}
use Rattle.board_language.specs.Board.{Board}
use Rattle.fill_text.specs.FillLists.{bad_fills, rings_in, no_list, AreRingsRead, IsFirstOf}
use Rattle.fill_text.specs.ReadLaws.{OneReadingLaw}

some_reading : (bytes : List ℕ) (root : Item) (b : Board) (bad : List Item) → bad_fills bytes root ≡ bad → ((rings : List (List (List Point))) × AreRingsRead bytes root b rings) ⊎ ((at : ℕ) × IsFirstOf (bad_fills bytes root) at)
some_reading bytes root b [] e = inl (rings_in bytes root b, record { sound = e; rings_are = refl })
some_reading bytes root b (fill ∷ later) e = inr (fill.from, record { fill = fill; later = later; first = e; stands = refl })

none_first : (fill : Item) (later : List Item) → [] ≡ fill ∷ later → ⊥
none_first fill later e = let l : length (fill ∷ later) ≡ 0 = sym (ap length e) in omega (arith, l)

abbrev place_in : List Item → ℕ
place_in fills = (get_or fills 0 no_list).from

pub one_reading : OneReadingLaw
one_reading bytes root b =
    record {
      some = some_reading bytes root b (bad_fills bytes root) refl;
      either = λ rings at read bad. none_first bad.fill bad.later (sym read.sound ∙ bad.first);
      rings = λ these those h g. h.rings_are ∙ sym g.rings_are;
      place = λ at other h g. h.stands ∙ ap place_in (sym h.first ∙ g.first) ∙ sym g.stands;
    }
