-- The corners of an outline, through the parts of the text that they are read from.
use Rattle.std.proofs.Common.{◌≡◌, ℕ, Bool, List, map, refl, sym, ap, ◌∙◌, Some}
use Rattle.std.specs.List.{list_any}
use Rattle.std.proofs.lemmas.Simd.{map-map}
use Rattle.sexpr_text.specs.Items.{Item}
use Rattle.sexpr_text.specs.Parts.{Part, part_of}
use Rattle.board_text.proofs.Walks.{any_of_map}
use Rattle.board_text.specs.Numbers.{first_of, point_fault}
use Rattle.board_text.specs.Items.{point_at}
use Rattle.board_language.specs.Zones.{corner_lists, corners_read, corners_fault}

through : {W : Type 0} (f : Part → W) (bytes : List ℕ) (xs : List Item) (ps qs : List Part) → ps ≡ qs → qs ≡ map (part_of bytes) xs → map f ps ≡ map (λ x. f (part_of bytes x)) xs
through f bytes xs ps qs e g = ap (map f) (e ∙ g) ∙ map-map f (part_of bytes) xs

pub any_through : (test : Part → Bool) (bytes : List ℕ) (xs : List Item) (ps qs : List Part) → ps ≡ qs → qs ≡ map (part_of bytes) xs → list_any test ps ≡ list_any (λ x. test (part_of bytes x)) xs
any_through test bytes xs ps qs e g = ap (list_any test) (e ∙ g) ∙ sym (any_of_map test (part_of bytes) xs (list_any (λ x. test (part_of bytes x)) xs) refl)

pub fault_through : (bytes : List ℕ) (zone : Item) (ps qs : List Part) → ps ≡ qs → qs ≡ map (part_of bytes) (corner_lists bytes zone)
    → first_of (map (λ p. point_fault p.bytes (Some p.item)) ps) ≡ corners_fault bytes zone
unfolding corners_fault
fault_through bytes zone ps qs e g = ap first_of (through (λ p. point_fault p.bytes (Some p.item)) bytes (corner_lists bytes zone) ps qs e g)

pub corners_through : (bytes : List ℕ) (zone : Item) (ps qs : List Part) → ps ≡ qs → qs ≡ map (part_of bytes) (corner_lists bytes zone)
    → map (λ p. point_at p.bytes (Some p.item)) ps ≡ corners_read bytes zone
unfolding corners_read
corners_through bytes zone ps qs e g = through (λ p. point_at p.bytes (Some p.item)) bytes (corner_lists bytes zone) ps qs e g
