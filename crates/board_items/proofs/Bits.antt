-- Sets of layers, from the last layer to the first.
use Rattle.std.proofs.Common.{◌≡◌, ℕ, zero, suc, ◌+◌, ◌-◌, ◌*◌, ◌<◌, ◌≤◌, Bool, true, false, cond, List, [], ◌∷◌, length, map, drop, get_or, refl, sym, ap, ◌∙◌, arith}
use Rattle.std.specs.Prelude.{◌^◌, None}
use Rattle.std.proofs.lemmas.List.{length-drop, length-map}
use Rattle.std.proofs.lemmas.Simd.{map-map}
use Rattle.board_text.specs.Layers.{bits, between_from, is_between, layer_set}
use Rattle.board_text.proofs.Walks.{drop_here, drop_past}

-- n bits make a number below 2 ^ n
pub bits_below : (bs : List Bool) (n : ℕ) → length bs ≤ n → bits bs < 2 ^ n
unfolding bits
bits_below [] zero l = omega arith
bits_below [] (suc n) l = let p = bits_below [] n (omega arith) in omega (arith, p)
bits_below (b ∷ bs) zero l = absurd (omega (arith, l))
bits_below (b ∷ bs) (suc n) l = let p = bits_below bs n (omega (arith, l)) in by_bit b p
  where
    by_bit : (b : Bool) → bits bs < 2 ^ n → cond b 1 0 + 2 * bits bs < 2 ^ (suc n)
    by_bit true p = omega (arith, p)
    by_bit false p = omega (arith, p)

pub no_bits : {X : Type 0} (xs : List X) → bits (map (λ x. false) xs) ≡ 0
unfolding bits
no_bits [] = refl
no_bits (x ∷ xs) = let p = no_bits xs in omega (arith, p)

pub no_layers : (bytes : List ℕ) (copper : List (List ℕ)) → layer_set bytes copper None ≡ 0
unfolding layer_set
no_layers bytes copper = no_bits copper

-- ---- one more layer before the others

last_places : (n step : ℕ) → step < n → (n - 1 - step) + 1 ≡ n - step
last_places n step l = omega (arith, l)

pub bit_more : {X : Type 0} (f : X → Bool) (xs : List X) (step : ℕ) (x : X) (set : ℕ) → step < length xs → ((d : X) → x ≡ get_or xs (length xs - 1 - step) d)
    → set ≡ bits (map f (drop (length xs - step) xs)) → 2 * set + cond (f x) 1 0 ≡ bits (map f (drop (length xs - (step + 1)) xs))
unfolding bits
bit_more f xs step x set l e h =
    let k : ℕ = length xs - 1 - step in
    let same : k ≡ length xs - (step + 1) = omega arith in
    let here : drop k xs ≡ x ∷ drop (k + 1) xs = drop_here xs k x (omega (arith, l)) e in
    let there : bits (map f (drop k xs)) ≡ cond (f x) 1 0 + 2 * bits (map f (drop (length xs - step) xs)) =
    ap (λ ys. bits (map f ys)) here ∙ ap (λ m. cond (f x) 1 0 + 2 * bits (map f (drop m xs))) (last_places (length xs) step l) in
    let turned : 2 * set + cond (f x) 1 0 ≡ bits (map f (drop k xs)) = omega (arith, h, there) in
    turned ∙ ap (λ m. bits (map f (drop m xs))) same

-- with fewer than 32 layers done, the set is below 2 ^ 31
pub set_below : {X : Type 0} (f : X → Bool) (xs : List X) (step set : ℕ) → length xs ≤ 32 → step < length xs → set ≡ bits (map f (drop (length xs - step) xs)) → set < 2 ^ 31
set_below f xs step set m l h =
    let d : length (drop (length xs - step) xs) ≡ length xs - (length xs - step) = length-drop (length xs - step) xs in
    let e : length (map f (drop (length xs - step) xs)) ≡ length (drop (length xs - step) xs) = length-map (drop (length xs - step) xs) f in
    let n : length (map f (drop (length xs - step) xs)) ≤ 31 = omega (arith, m, l, d, e) in
    let p = bits_below (map f (drop (length xs - step) xs)) 31 n in
    omega (arith, h, p)

pub no_bit : {X : Type 0} (f : X → Bool) (xs : List X) → 0 ≡ bits (map f (drop (length xs - 0) xs))
unfolding bits
no_bit f xs = sym (ap (λ ys. bits (map f ys)) (drop_past xs (length xs - 0) (omega arith)))

pub all_bits : {X Y : Type 0} (f : Y → Bool) (g : X → Y) (xs : List X) (step set : ℕ) → length xs ≤ step → set ≡ bits (map (λ x. f (g x)) (drop (length xs - step) xs)) → set ≡ bits (map f (map g xs))
all_bits f g xs step set l h =
    let z : length xs - step ≡ 0 = omega (arith, l) in
    h ∙ ap (λ k. bits (map (λ x. f (g x)) (drop k xs))) z ∙ ap bits (sym (map-map f g xs))

-- ---- the layers between two

pub between_length : (a b k n : ℕ) → length (between_from a b k n) ≡ n
between_length a b k zero = refl
between_length a b k (suc n) = ap suc (between_length a b (suc k) n)

pub none_between : (a b k : ℕ) → 0 ≡ bits (between_from a b k 0)
unfolding bits
none_between a b k = refl

-- one more layer before those that are done
pub between_more : (a b n step set : ℕ) → step < n → set ≡ bits (between_from a b (n - step) step)
    → 2 * set + cond (is_between a b (n - 1 - step)) 1 0 ≡ bits (between_from a b (n - (step + 1)) (step + 1))
unfolding bits
between_more a b n step set l h =
    let next : suc (n - 1 - step) ≡ n - step = omega (arith, l) in
    let same : n - 1 - step ≡ n - (step + 1) = omega arith in
    let more : suc step ≡ step + 1 = omega arith in
    let there : bits (between_from a b (n - 1 - step) (suc step)) ≡ cond (is_between a b (n - 1 - step)) 1 0 + 2 * bits (between_from a b (n - step) step) =
    ap (λ m. cond (is_between a b (n - 1 - step)) 1 0 + 2 * bits (between_from a b m step)) next in
    let turned : 2 * set + cond (is_between a b (n - 1 - step)) 1 0 ≡ bits (between_from a b (n - 1 - step) (suc step)) = omega (arith, h, there) in
    turned ∙ ap (λ m. bits (between_from a b m (suc step))) same ∙ ap (λ m. bits (between_from a b (n - (step + 1)) m)) more

-- with fewer than 32 layers done, the set is below 2 ^ 31
pub between_below : (a b n step set : ℕ) → n ≤ 32 → step < n → set ≡ bits (between_from a b (n - step) step) → set < 2 ^ 31
between_below a b n step set m l h =
    let e = between_length a b (n - step) step in
    let p = bits_below (between_from a b (n - step) step) 31 (omega (arith, m, l, e)) in
    omega (arith, h, p)

pub all_between : (a b n step set : ℕ) → step ≡ n → set ≡ bits (between_from a b (n - step) step) → set ≡ bits (between_from a b 0 n)
all_between a b n step set e h =
    let z : n - step ≡ 0 = omega (arith, e) in
    h ∙ ap (λ k. bits (between_from a b k step)) z ∙ ap (λ k. bits (between_from a b 0 k)) e
