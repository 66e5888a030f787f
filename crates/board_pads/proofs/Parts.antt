-- Parts of a text, and the items that they are.
use Rattle.std.proofs.Common.{◌≡◌, ℕ, ◌+◌, Bool, true, false, ◌&&◌, ◌||◌, cond, List, [], ◌∷◌, map, filter, refl, sym, ap, ◌∙◌}
use Rattle.std.specs.Prelude.{codes}
use Rattle.std.specs.List.{list_any}
use Rattle.board_language.specs.Pads.{is_read_pad}
use Rattle.board_items.specs.Known.{context}
use Rattle.board_items.specs.declared.Known.{Known}
use Rattle.sexpr_text.specs.Items.{Item, is_headed}
use Rattle.sexpr_text.specs.Parts.{Part, part_of}

-- one of the items that are kept passes
any_kept : (keep test : Item → Bool) (xs : List Item) → list_any (λ x. keep x && test x) xs ≡ list_any test (filter keep xs)
any_kept keep test [] = refl
any_kept keep test (x ∷ xs) = by_case (keep x) refl (any_kept keep test xs)
  where
    by_case : (b : Bool) → keep x ≡ b → list_any (λ x. keep x && test x) xs ≡ list_any test (filter keep xs) → list_any (λ x. keep x && test x) (x ∷ xs) ≡ list_any test (filter keep (x ∷ xs))
    by_case true e h = rw e (ap (λ b. test x || b) h)
    by_case false e h = rw e h

any_part : {X : Type 0} (f : Item → X) (test : X → Bool) (xs : List Item) → list_any test (map f xs) ≡ list_any (λ x. test (f x)) xs
any_part f test [] = refl
any_part f test (x ∷ xs) = ap (λ b. test (f x) || b) (any_part f test xs)

-- one of the lists of a footprint is a pad that is read
pub read_is : (bytes : List ℕ) (known : Known) (lists : List Item) (parts : List Part) (found : Bool) → parts ≡ map (part_of bytes) lists
    → found ≡ list_any (λ p. is_headed p.bytes (codes "pad") p.item && is_read_pad (context p.bytes known) p.item) parts
    → found ≡ list_any (is_read_pad (context bytes known)) (filter (is_headed bytes (codes "pad")) lists)
read_is bytes known lists parts found e h =
    h ∙ ap (list_any (λ p. is_headed p.bytes (codes "pad") p.item && is_read_pad (context p.bytes known) p.item)) e
    ∙ any_part (part_of bytes) (λ p. is_headed p.bytes (codes "pad") p.item && is_read_pad (context p.bytes known) p.item) lists
    ∙ any_kept (is_headed bytes (codes "pad")) (is_read_pad (context bytes known)) lists
