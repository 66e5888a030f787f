-- The numbers of a drill, by their places among its words and strings.
use Rattle.std.specs.Prelude.{ℕ, not, List, [], ◌∷◌, filter, Option, None, Some, ℤ, pos}
use Rattle.grid_num.specs.declared.read.NumFault.{NumFault}
use Rattle.sexpr_text.specs.Items.{Item}
use Rattle.board_text.specs.Lists.{is_list, behind_head}
use Rattle.sexpr_text.specs.Parts.{Part}
use Rattle.board_text.specs.Fields.{text_of}
use Rattle.board_text.specs.Numbers.{item_fault, length_fault}
use Rattle.board_language.specs.Pads.{length_from}

-- the words and strings of a list
abbrev pub leaves_in : Item → List Item
leaves_in list = filter (λ item. not (is_list item)) (behind_head list)

abbrev pub leaves_of : Option Item → List Item
leaves_of None = []
leaves_of (Some list) = leaves_in list

abbrev pub first_text : List Part → Option (List ℕ)
first_text [] = None
first_text (p ∷ ps) = text_of p.bytes p.item

-- where no item stands the length is 0, and nothing is wrong with it
abbrev pub length_shown : Option Part → ℤ
length_shown None = pos 0
length_shown (Some p) = length_from p.bytes p.item

abbrev pub fault_shown : Option Part → Option NumFault
fault_shown None = None
fault_shown (Some p) = item_fault length_fault p.bytes p.item

-- the length of an item, or what stands for it where there is none
abbrev pub shown_or : ℤ → Option Part → ℤ
shown_or z None = z
shown_or z (Some p) = length_from p.bytes p.item
