-- The layers of things are declared ones.
use Rattle.std.proofs.Common.{◌≡◌, refl, sym, ap, subst, ◌∙◌, ℕ, zero, suc, ◌+◌, ◌*◌, ◌/◌, ◌%◌, ◌^◌, ◌<◌, ◌≤◌, arith, Bool, true, false, cond, not, List, [], ◌∷◌, ◌||◌, map, length, get_or, Option}
use Rattle.std.specs.Prelude.{◌==◌, bit_and}
use Rattle.std.specs.Int.{bit_at}
use Rattle.std.specs.List.{list_any}
use Rattle.std.specs.Str.{bytes_eq}
use Rattle.std.proofs.lemmas.Bool.{false≢true}
use Rattle.std.proofs.lemmas.Bool.Decides.{nat_tests}
use Rattle.std.proofs.lemmas.List.{length-map}
use Rattle.std.proofs.lemmas.Slice.Eq.{bytes_eq-Decides}
use Rattle.std.proofs.lemmas.Nat.Bits.{bit_at_lowest, bit_at-suc, and_pow}
use Rattle.sexpr_text.specs.Items.{Item}
use Rattle.board_text.specs.Layers.{Name, is_among, meant_in, bits, layer_set, layer_number, between_from, layers_between}
use Rattle.board_language.specs.Copper.{has_layer}
use Rattle.board_facts.proofs.Passed.{or_front, no_not}

-- ---- sets of layers

bit_half : (b : Bool) (n : ℕ) → (cond b 1 0 + 2 * n) / 2 ≡ n
bit_half true n = omega arith
bit_half false n = omega arith

bit_low : (b : Bool) (n : ℕ) → (cond b 1 0 + 2 * n) % 2 ≡ cond b 1 0
bit_low true n = omega arith
bit_low false n = omega arith

bit_of : (bs : List Bool) (l : ℕ) → get_or bs l false ≡ true → bit_at (bits bs) l ≡ 1
unfolding bits
bit_of [] l e = absurd (false≢true e)
bit_of (b ∷ bs) zero e = bit_at_lowest (cond b 1 0 + 2 * bits bs) ∙ bit_low b (bits bs) ∙ ap (λ x. cond x 1 0) e
bit_of (b ∷ bs) (suc l) e =
    bit_at-suc (cond b 1 0 + 2 * bits bs) l ∙ ap (λ n. bit_at n l) (bit_half b (bits bs)) ∙ bit_of bs l e

some_bit : (n : ℕ) → 1 ≤ n → not (n == 0) ≡ true
some_bit n l = grind (arith, nat_tests)

pow_some : (l : ℕ) → 1 ≤ 2 ^ l
pow_some zero = omega arith
pow_some (suc l) = omega (arith, pow_some l)

has_bit : (bs : List Bool) (l : ℕ) → get_or bs l false ≡ true → has_layer (bits bs) l ≡ true
has_bit bs l e =
    let a : bit_and (bits bs) (2 ^ l) ≡ 1 * 2 ^ l = and_pow (bits bs) l ∙ ap (λ n. n * 2 ^ l) (bit_of bs l e) in
    some_bit (bit_and (bits bs) (2 ^ l)) (omega (arith, a, pow_some l))

-- a set of so many layers has no others
set_more : (b : Bool) (n l : ℕ) → n < 2 ^ l → cond b 1 0 + 2 * n < 2 ^ suc l
set_more true n l h = omega arith
set_more false n l h = omega arith

bits_below : (bs : List Bool) → bits bs < 2 ^ length bs
unfolding bits
bits_below [] = omega arith
bits_below (b ∷ bs) = set_more b (bits bs) (length bs) (bits_below bs)

pub set_below : (bytes : List ℕ) (copper : List Name) (list : Option Item) → layer_set bytes copper list < 2 ^ length copper
unfolding layer_set
set_below bytes copper list =
    let bs = map (is_among (meant_in bytes copper list)) copper in
    subst (λ n. bits bs < 2 ^ n) (length-map copper (is_among (meant_in bytes copper list))) (bits_below bs)

-- the first name that passes
record IsPlaceOf (names : List Name) (name : Name) : Type 0 where
  place : ℕ
  within : place < length names
  there : get_or names place [] ≡ name

place_of : (names : List Name) (name : Name) → is_among names name ≡ true → IsPlaceOf names name
place_of [] name e = absurd (false≢true e)
place_of (other ∷ names) name e = by_first (bytes_eq other name) refl e (place_of names name)
  where
    by_first : (b : Bool) → bytes_eq other name ≡ b → (b || is_among names name) ≡ true → (is_among names name ≡ true → IsPlaceOf names name) → IsPlaceOf (other ∷ names) name
    by_first true h e more = record { place = 0; within = omega arith; there = (bytes_eq-Decides other name).0 h }
    by_first false h e more = let r = more e in let l = r.within in record { place = suc r.place; within = omega (arith, l); there = r.there }

first_among : (name : Name) (names : List Name) → is_among (name ∷ names) name ≡ true
first_among name names = ap (λ b. b || is_among names name) ((bytes_eq-Decides name name).1 refl)

map_at : {X Y : Type 0} (f : X → Y) (xs : List X) (n : ℕ) (d : X) (e : Y) → n < length xs → get_or (map f xs) n e ≡ f (get_or xs n d)
map_at f [] n d e l = absurd (omega (arith, l))
map_at f (x ∷ xs) zero d e l = refl
map_at f (x ∷ xs) (suc n) d e l = map_at f xs n d e (omega (arith, l))

abbrev pub IsOnLayer : List Name → ℕ → Type 0
IsOnLayer copper layers = (l : ℕ) × (l < length copper) × (has_layer layers l ≡ true)

-- a list of copper layers that are all declared has one
pub on_layer : (copper meant : List Name) → not (length meant == 0) ≡ true → list_any (λ name. not (is_among copper name)) meant ≡ false → IsOnLayer copper (bits (map (is_among meant) copper))
on_layer copper [] e h = absurd (false≢true e)
on_layer copper (name ∷ meant) e h =
    let declared : is_among copper name ≡ true = no_not (is_among copper name) (or_front (not (is_among copper name)) (list_any (λ n. not (is_among copper n)) meant) h) in
    let p = place_of copper name declared in
    let there : is_among (name ∷ meant) (get_or copper p.place []) ≡ true = subst (λ n. is_among (name ∷ meant) n ≡ true) (sym p.there) (first_among name meant) in
    (p.place, p.within, has_bit (map (is_among (name ∷ meant)) copper) p.place (map_at (is_among (name ∷ meant)) copper p.place [] false p.within ∙ there))

-- ---- the layers of tracks and vias

-- the number of a declared layer is below how many there are
pub number_below : (copper : List Name) (name : Name) → is_among copper name ≡ true → layer_number copper name < length copper
number_below [] name e = absurd (false≢true e)
number_below (other ∷ copper) name e = by_first (bytes_eq other name) e (number_below copper name)
  where
    by_first : (b : Bool) → (b || is_among copper name) ≡ true → (is_among copper name ≡ true → layer_number copper name < length copper)
        → cond (not b) (1 + layer_number copper name) 0 < length (other ∷ copper)
    by_first true e more = omega arith
    by_first false e more = let l = more e in omega (arith, l)

length_between : (a b k n : ℕ) → length (between_from a b k n) ≡ n
length_between a b k zero = refl
length_between a b k (suc n) = ap suc (length_between a b (suc k) n)

pub between_below : (copper : List Name) (top bottom : Name) → layers_between copper top bottom < 2 ^ length copper
unfolding layers_between
between_below copper top bottom =
    let bs = between_from (layer_number copper top) (layer_number copper bottom) 0 (length copper) in
    subst (λ n. bits bs < 2 ^ n) (length_between (layer_number copper top) (layer_number copper bottom) 0 (length copper)) (bits_below bs)
