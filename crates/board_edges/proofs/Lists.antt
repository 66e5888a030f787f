-- What is asked of a polygon's points, as parts of one text, is asked of its lists.
use Rattle.std.proofs.Common.{◌≡◌, ℕ, ◌∙◌, List, [], ◌∷◌, map, Bool, refl, ap, not, ◌||◌, Some}
use Rattle.std.specs.Prelude.{codes}
use Rattle.std.specs.List.{list_any}
use Rattle.std.proofs.lemmas.Simd.{map-map}
use Rattle.sexpr_text.specs.Items.{Item, is_headed}
use Rattle.sexpr_text.specs.Parts.{Part, part_of}
use Rattle.board_text.specs.Numbers.{first_of, point_fault, is_short}
use Rattle.board_text.specs.Items.{point_at}

any_map : (test : Part → Bool) (bytes : List ℕ) (xs : List Item) → list_any test (map (part_of bytes) xs) ≡ list_any (λ x. test (part_of bytes x)) xs
any_map test bytes [] = refl
any_map test bytes (x ∷ xs) = ap (λ b. test (part_of bytes x) || b) (any_map test bytes xs)

pub faults_are : (bytes : List ℕ) (seen parts : List Part) (xs : List Item) → seen ≡ parts → parts ≡ map (part_of bytes) xs
    → first_of (map (λ p. point_fault p.bytes (Some p.item)) seen) ≡ first_of (map (λ list. point_fault bytes (Some list)) xs)
faults_are bytes seen parts xs s e = ap first_of (ap (map (λ p. point_fault p.bytes (Some p.item))) (s ∙ e) ∙ map-map (λ p. point_fault p.bytes (Some p.item)) (part_of bytes) xs)

pub points_are : (bytes : List ℕ) (seen parts : List Part) (xs : List Item) → seen ≡ parts → parts ≡ map (part_of bytes) xs
    → map (λ p. point_at p.bytes (Some p.item)) seen ≡ map (λ list. point_at bytes (Some list)) xs
points_are bytes seen parts xs s e = ap (map (λ p. point_at p.bytes (Some p.item))) (s ∙ e) ∙ map-map (λ p. point_at p.bytes (Some p.item)) (part_of bytes) xs

pub short_are : (bytes : List ℕ) (seen parts : List Part) (xs : List Item) → seen ≡ parts → parts ≡ map (part_of bytes) xs
    → list_any (λ p. is_short 2 (Some p.item)) seen ≡ list_any (λ list. is_short 2 (Some list)) xs
short_are bytes seen parts xs s e = ap (list_any (λ p. is_short 2 (Some p.item))) (s ∙ e) ∙ any_map (λ p. is_short 2 (Some p.item)) bytes xs

pub others_are : (bytes : List ℕ) (seen parts : List Part) (xs : List Item) → seen ≡ parts → parts ≡ map (part_of bytes) xs
    → list_any (λ p. not (is_headed p.bytes (codes "xy") p.item)) seen ≡ list_any (λ list. not (is_headed bytes (codes "xy") list)) xs
others_are bytes seen parts xs s e = ap (list_any (λ p. not (is_headed p.bytes (codes "xy") p.item))) (s ∙ e) ∙ any_map (λ p. not (is_headed p.bytes (codes "xy") p.item)) bytes xs
