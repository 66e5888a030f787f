-- Lists whose elements are related one by one.
use Rattle.std.proofs.Common.{◌≡◌, ◌∙◌, refl, ap, sym, ℕ, suc, ◌+◌, Bool, true, false, cond, ◌||◌, List, [], ◌∷◌, ◌++◌, map, length, filter, find, filter_map, flat_map, sum_by, Option, None, Some, option_map}
use Rattle.std.specs.List.{list_any, cons_option}
use Rattle.std.proofs.lemmas.Bool.{false≢true, true≢false}
use Rattle.std.proofs.lemmas.List.Sums.{sum_by-cons}
use Rattle.same_boards.specs.Contents.{Each}

pub each_map : {X Y Z : Type 0} (R : X → Y → Type 0) (f : X → Z) (g : Y → Z) → ((x : X) (y : Y) → R x y → f x ≡ g y) → (xs : List X) (ys : List Y) → Each R xs ys → map f xs ≡ map g ys
each_map R f g h [] [] e = refl
each_map R f g h [] (y ∷ ys) e = absurd e
each_map R f g h (x ∷ xs) [] e = absurd e
each_map R f g h (x ∷ xs) (y ∷ ys) e = ap (λ z. z ∷ map f xs) (h x y e.0) ∙ ap (λ z. g y ∷ z) (each_map R f g h xs ys e.1)

pub each_any : {X Y : Type 0} (R : X → Y → Type 0) (f : X → Bool) (g : Y → Bool) → ((x : X) (y : Y) → R x y → f x ≡ g y) → (xs : List X) (ys : List Y) → Each R xs ys → list_any f xs ≡ list_any g ys
each_any R f g h [] [] e = refl
each_any R f g h [] (y ∷ ys) e = absurd e
each_any R f g h (x ∷ xs) [] e = absurd e
each_any R f g h (x ∷ xs) (y ∷ ys) e = ap (λ z. z || list_any f xs) (h x y e.0) ∙ ap (λ z. g y || z) (each_any R f g h xs ys e.1)

pub each_sum : {X Y : Type 0} (R : X → Y → Type 0) (f : X → ℕ) (g : Y → ℕ) → ((x : X) (y : Y) → R x y → f x ≡ g y) → (xs : List X) (ys : List Y) → Each R xs ys → sum_by f xs ≡ sum_by g ys
each_sum R f g h [] [] e = refl
each_sum R f g h [] (y ∷ ys) e = absurd e
each_sum R f g h (x ∷ xs) [] e = absurd e
each_sum R f g h (x ∷ xs) (y ∷ ys) e = sum_by-cons f x xs ∙ ap (λ z. z + sum_by f xs) (h x y e.0) ∙ ap (λ z. g y + z) (each_sum R f g h xs ys e.1) ∙ sym (sum_by-cons g y ys)

pub each_length : {X Y : Type 0} (R : X → Y → Type 0) (xs : List X) (ys : List Y) → Each R xs ys → length xs ≡ length ys
each_length R [] [] e = refl
each_length R [] (y ∷ ys) e = absurd e
each_length R (x ∷ xs) [] e = absurd e
each_length R (x ∷ xs) (y ∷ ys) e = ap suc (each_length R xs ys e.1)

pub each_given : {X Y Z : Type 0} (R : X → Y → Type 0) (f : X → Option Z) (g : Y → Option Z) → ((x : X) (y : Y) → R x y → f x ≡ g y)
    → (xs : List X) (ys : List Y) → Each R xs ys → filter_map f xs ≡ filter_map g ys
each_given R f g h [] [] e = refl
each_given R f g h [] (y ∷ ys) e = absurd e
each_given R f g h (x ∷ xs) [] e = absurd e
each_given R f g h (x ∷ xs) (y ∷ ys) e = ap (λ z. cons_option z (filter_map f xs)) (h x y e.0) ∙ ap (cons_option (g y)) (each_given R f g h xs ys e.1)

given_step : {A B Z : Type 0} (s : A → Z) (t : B → Z) (o : Option A) (p : Option B) (us : List A) (bs : List B) → option_map s o ≡ option_map t p → map s us ≡ map t bs
    → map s (cons_option o us) ≡ map t (cons_option p bs)
given_step s t None None us bs e r = r
given_step s t None (Some y) us bs e r = absurd (false≢true (ap is_there e))
  where
    is_there : {Z : Type 0} → Option Z → Bool
    is_there None = false
    is_there (Some z) = true
given_step s t (Some x) None us bs e r = absurd (true≢false (ap is_there e))
  where
    is_there : {Z : Type 0} → Option Z → Bool
    is_there None = false
    is_there (Some z) = true
given_step s t (Some x) (Some y) us bs e r = ap (λ o. cons_option o (map s us)) e ∙ ap (λ zs. t y ∷ zs) r

-- what is given of the elements is the same but for what s and t leave out
pub each_given_map : {X Y A B Z : Type 0} (R : X → Y → Type 0) (s : A → Z) (t : B → Z) (f : X → Option A) (g : Y → Option B)
    → ((x : X) (y : Y) → R x y → option_map s (f x) ≡ option_map t (g y)) → (xs : List X) (ys : List Y) → Each R xs ys → map s (filter_map f xs) ≡ map t (filter_map g ys)
each_given_map R s t f g h [] [] e = refl
each_given_map R s t f g h [] (y ∷ ys) e = absurd e
each_given_map R s t f g h (x ∷ xs) [] e = absurd e
each_given_map R s t f g h (x ∷ xs) (y ∷ ys) e = given_step s t (f x) (g y) (filter_map f xs) (filter_map g ys) (h x y e.0) (each_given_map R s t f g h xs ys e.1)

filter_step : {X Y : Type 0} (S : X → Y → Type 0) (x : X) (y : Y) (xs : List X) (ys : List Y) (a b : Bool) → a ≡ b → (a ≡ true → S x y) → Each S xs ys
    → Each S (cond a (x ∷ xs) xs) (cond b (y ∷ ys) ys)
filter_step S x y xs ys true true e s r = (s refl, r)
filter_step S x y xs ys true false e s r = absurd (true≢false e)
filter_step S x y xs ys false true e s r = absurd (false≢true e)
filter_step S x y xs ys false false e s r = r

pub each_filter : {X Y : Type 0} (R S : X → Y → Type 0) (p : X → Bool) (q : Y → Bool) → ((x : X) (y : Y) → R x y → p x ≡ q y) → ((x : X) (y : Y) → R x y → p x ≡ true → S x y)
    → (xs : List X) (ys : List Y) → Each R xs ys → Each S (filter p xs) (filter q ys)
each_filter R S p q h s [] [] e = tt
each_filter R S p q h s [] (y ∷ ys) e = absurd e
each_filter R S p q h s (x ∷ xs) [] e = absurd e
each_filter R S p q h s (x ∷ xs) (y ∷ ys) e = filter_step S x y (filter p xs) (filter q ys) (p x) (q y) (h x y e.0) (s x y e.0) (each_filter R S p q h s xs ys e.1)

find_step : {X Y Z : Type 0} (s : X → Z) (t : Y → Z) (x : X) (y : Y) (o : Option X) (p : Option Y) (a b : Bool) → a ≡ b → (a ≡ true → s x ≡ t y) → option_map s o ≡ option_map t p
    → option_map s (cond a (Some x) o) ≡ option_map t (cond b (Some y) p)
find_step s t x y o p true true e k r = ap Some (k refl)
find_step s t x y o p true false e k r = absurd (true≢false e)
find_step s t x y o p false true e k r = absurd (false≢true e)
find_step s t x y o p false false e k r = r

pub each_find : {X Y Z : Type 0} (R : X → Y → Type 0) (s : X → Z) (t : Y → Z) (p : X → Bool) (q : Y → Bool) → ((x : X) (y : Y) → R x y → p x ≡ q y)
    → ((x : X) (y : Y) → R x y → p x ≡ true → s x ≡ t y) → (xs : List X) (ys : List Y) → Each R xs ys → option_map s (find p xs) ≡ option_map t (find q ys)
each_find R s t p q h k [] [] e = refl
each_find R s t p q h k [] (y ∷ ys) e = absurd e
each_find R s t p q h k (x ∷ xs) [] e = absurd e
each_find R s t p q h k (x ∷ xs) (y ∷ ys) e = find_step s t x y (find p xs) (find q ys) (p x) (q y) (h x y e.0) (k x y e.0) (each_find R s t p q h k xs ys e.1)

pub each_flat : {X Y Z : Type 0} (R : X → Y → Type 0) (f : X → List Z) (g : Y → List Z) → ((x : X) (y : Y) → R x y → f x ≡ g y)
    → (xs : List X) (ys : List Y) → Each R xs ys → flat_map f xs ≡ flat_map g ys
each_flat R f g h [] [] e = refl
each_flat R f g h [] (y ∷ ys) e = absurd e
each_flat R f g h (x ∷ xs) [] e = absurd e
each_flat R f g h (x ∷ xs) (y ∷ ys) e = ap (λ z. z ++ flat_map f xs) (h x y e.0) ∙ ap (λ z. g y ++ z) (each_flat R f g h xs ys e.1)

pub each_append : {X Y : Type 0} (R : X → Y → Type 0) (xs us : List X) (ys bs : List Y) → Each R xs ys → Each R us bs → Each R (xs ++ us) (ys ++ bs)
each_append R [] us [] bs e r = r
each_append R [] us (y ∷ ys) bs e r = absurd e
each_append R (x ∷ xs) us [] bs e r = absurd e
each_append R (x ∷ xs) us (y ∷ ys) bs e r = (e.0, each_append R xs us ys bs e.1 r)

pub each_flat_each : {X Y A B : Type 0} (R : X → Y → Type 0) (S : A → B → Type 0) (f : X → List A) (g : Y → List B) → ((x : X) (y : Y) → R x y → Each S (f x) (g y))
    → (xs : List X) (ys : List Y) → Each R xs ys → Each S (flat_map f xs) (flat_map g ys)
each_flat_each R S f g h [] [] e = tt
each_flat_each R S f g h [] (y ∷ ys) e = absurd e
each_flat_each R S f g h (x ∷ xs) [] e = absurd e
each_flat_each R S f g h (x ∷ xs) (y ∷ ys) e = each_append S (f x) (flat_map f xs) (g y) (flat_map g ys) (h x y e.0) (each_flat_each R S f g h xs ys e.1)

pub each_maps : {X Y A B : Type 0} (R : X → Y → Type 0) (S : A → B → Type 0) (f : X → A) (g : Y → B) → ((x : X) (y : Y) → R x y → S (f x) (g y))
    → (xs : List X) (ys : List Y) → Each R xs ys → Each S (map f xs) (map g ys)
each_maps R S f g h [] [] e = tt
each_maps R S f g h [] (y ∷ ys) e = absurd e
each_maps R S f g h (x ∷ xs) [] e = absurd e
each_maps R S f g h (x ∷ xs) (y ∷ ys) e = (h x y e.0, each_maps R S f g h xs ys e.1)

abbrev is_some_left : {Z : Type 0} → List Z → Bool
is_some_left [] = false
is_some_left (z ∷ zs) = true

abbrev first : {Z : Type 0} → Z → List Z → Z
first d [] = d
first d (z ∷ zs) = z

abbrev behind : {Z : Type 0} → List Z → List Z
behind [] = []
behind (z ∷ zs) = zs

-- lists that are the same but for what f and g leave out
pub maps_each : {X Y Z : Type 0} (f : X → Z) (g : Y → Z) (xs : List X) (ys : List Y) → map f xs ≡ map g ys → Each (λ (x : X) (y : Y). f x ≡ g y) xs ys
maps_each f g [] [] e = tt
maps_each f g [] (y ∷ ys) e = absurd (false≢true (ap is_some_left e))
maps_each f g (x ∷ xs) [] e = absurd (true≢false (ap is_some_left e))
maps_each f g (x ∷ xs) (y ∷ ys) e = (ap (first (f x)) e, maps_each f g xs ys (ap behind e))

-- where the one list is split, so is the other
pub record IsSplit {X Y : Type 0} (R : X → Y → Type 0) (xs : List X) (before : List Y) (y : Y) : Type 0 where
  pub front : List X
  pub back : List X
  pub element : X
  pub stands : xs ≡ front ++ element ∷ back
  pub before_each : Each R front before
  pub related : R element y

pub each_split : {X Y : Type 0} (R : X → Y → Type 0) (xs : List X) (before after : List Y) (y : Y) → Each R xs (before ++ y ∷ after) → IsSplit R xs before y
each_split R [] [] after y e = absurd e
each_split R [] (z ∷ before) after y e = absurd e
each_split R (x ∷ xs) [] after y e = record { front = []; back = xs; element = x; stands = refl; before_each = tt; related = e.0 }
each_split R (x ∷ xs) (z ∷ before) after y e =
    let s = each_split R xs before after y e.1 in
    record { front = x ∷ s.front; back = s.back; element = s.element; stands = ap (λ zs. x ∷ zs) s.stands; before_each = (e.0, s.before_each); related = s.related }
