-- The written length is the shortest spelling with a digit before the point, and no other is as short.
use Rattle.std.proofs.Common.{◌≡◌, ℕ, zero, suc, ◌+◌, ◌*◌, ◌^◌, ◌/◌, ◌%◌, ◌<◌, ◌≤◌, ◌⊎◌, inl, inr, Bool, true, false, List, [], ◌∷◌, ◌++◌, length, decimal, refl, sym, ap, ◌∙◌, arith, length-append, ℤ, pos, negsuc}
use Rattle.std.proofs.lemmas.Int.{ints}
use Rattle.std.proofs.lemmas.Bool.{ne_eqb}
use Rattle.grid_num.specs.Spelling.{IsSpelling, IsSign, IsPoint, number, number_after}
use Rattle.grid_num.specs.Length.{IsLength, IsInRange, nanometres, places, with_sign}
use Rattle.grid_num.specs.Written.{last_places, with_point, mm_of, IsFullLength, IsShortest}
use Rattle.grid_num.proofs.Capped.{number_append}
use Rattle.grid_num.proofs.Digits.{number_split, number_decimal, decimal_digits, decimal_some, decimal_shortest}
use Rattle.grid_num.proofs.Fractions.{padded, places_padded, length-padded, padded_below, last_step, last_digits, last_whole, number_last, last_shortest}

-- the size is the whole millimetres, and the places behind them
size_parts : (whole fraction : List ℕ) → nanometres whole fraction ≡ number whole * 1000000 + number (padded 6 fraction)
size_parts whole fraction =
    number_append 0 whole (places fraction) ∙ ap (λ ds. number_after (number whole) ds) (places_padded fraction) ∙ number_split (number whole) (padded 6 fraction) ∙ ap (λ k. number whole * 10 ^ k + number (padded 6 fraction)) (length-padded 6 fraction)

-- what stands for the sign
abbrev sign_of : ℤ → List ℕ
sign_of (pos n) = []
sign_of (negsuc n) = 45 ∷ []

abbrev size_of : ℤ → ℕ
size_of (pos n) = n
size_of (negsuc n) = suc n

abbrev is_negative : ℤ → Bool
is_negative (pos n) = false
is_negative (negsuc n) = true

mm_parts : (nm : ℤ) → mm_of nm ≡ sign_of nm ++ (decimal (size_of nm / 1000000) ++ with_point (size_of nm % 1000000))
mm_parts (pos n) = refl
mm_parts (negsuc n) = refl

sign_fits : (nm : ℤ) → IsSign (sign_of nm) (is_negative nm)
sign_fits (pos n) = inl refl
sign_fits (negsuc n) = refl

signed_is : (nm : ℤ) → nm ≡ with_sign (is_negative nm) (size_of nm)
signed_is (pos n) = refl
signed_is (negsuc n) = refl

-- the point of a written fraction
pub record Pointed (n : ℕ) : Type 0 where
  pub point : List ℕ
  pub written : with_point n ≡ point ++ last_places 6 n
  pub fits : IsPoint point (last_places 6 n)

pointed : (n : ℕ) → Pointed n
pointed zero = record { point = []; written = refl; fits = inr (refl, refl) }
pointed (suc n) = record { point = 46 ∷ []; written = rw (ne_eqb (suc n) 0 (λ e. omega (arith, e))) refl; fits = inl refl }

below_size : (n : ℕ) → n ≤ 500000000 → n / 1000000 < 2 ^ 64
below_size n h = omega arith

pub mm_spells : (nm : ℤ) → IsInRange nm → IsFullLength (mm_of nm) nm
mm_spells nm range =
    let size : size_of nm ≤ 500000000 = within nm range in
    let whole = size_of nm / 1000000 in
    let left = size_of nm % 1000000 in
    let small : whole < 2 ^ 64 = below_size (size_of nm) size in
    let p : Pointed left = pointed left in
    let value : nanometres (decimal whole) (last_places 6 left) ≡ size_of nm =
    size_parts (decimal whole) (last_places 6 left) ∙ rw (number_decimal whole small, number_last 6 left (omega arith)) (omega arith) in
    record {
      length_is = record {
        negative = is_negative nm;
        whole = decimal whole;
        fraction = last_places 6 left;
        spelling = record {
          sign = sign_of nm;
          point = p.point;
          in_order = mm_parts nm ∙ ap (λ ds. sign_of nm ++ (decimal whole ++ ds)) p.written;
          has_sign = sign_fits nm;
          has_point = p.fits;
          whole_digits = decimal_digits whole small;
          fraction_digits = last_digits 6 left (omega arith);
          some_digit = omega (arith, decimal_some whole small);
        };
        fine = last_whole left;
        range = omega (arith, value, size);
        value = signed_is nm ∙ ap (with_sign (is_negative nm)) (sym value);
      };
      digit_first = decimal_some whole small;
    }
  where
    within : (nm : ℤ) → IsInRange nm → size_of nm ≤ 500000000
    within (pos n) h = omega (arith, ints, h)
    within (negsuc n) h = omega (arith, ints, h)

-- one list is longer than another, or the same
abbrev Longer : List ℕ → List ℕ → Type 0
Longer short other = (length short < length other) ⊎ (other ≡ short)

longer_both : (a b x y : List ℕ) → Longer a x → Longer b y → Longer (a ++ b) (x ++ y)
longer_both a b x y (inl h) (inl k) = inl (omega (arith, length-append a b, length-append x y))
longer_both a b x y (inl h) (inr k) = inl (omega (arith, length-append a b, length-append x y, ap length k))
longer_both a b x y (inr h) (inl k) = inl (omega (arith, length-append a b, length-append x y, ap length h))
longer_both a b x y (inr h) (inr k) = inr (rw (h, k) refl)

sign_longer : (nm : ℤ) (negative : Bool) (size : ℕ) (sign : List ℕ) → IsSign sign negative → nm ≡ with_sign negative size → Longer (sign_of nm) sign
sign_longer nm true zero sign s e = rw (e, s) (inl (omega arith))
sign_longer nm true (suc n) sign s e = rw (e, s) (inr refl)
sign_longer nm false n sign (inl s) e = rw (e, s) (inr refl)
sign_longer nm false n sign (inr s) e = rw (e, s) (inl (omega arith))

size_same : (nm : ℤ) (negative : Bool) (size : ℕ) → nm ≡ with_sign negative size → size_of nm ≡ size
size_same nm true zero e = rw e refl
size_same nm true (suc n) e = rw e refl
size_same nm false n e = rw e refl

fraction_longer : (n : ℕ) (point fraction : List ℕ) → IsPoint point fraction → Longer (last_places 6 n) fraction → Longer (with_point n) (point ++ fraction)
fraction_longer zero point fraction (inl p) h = rw p (inl (omega arith))
fraction_longer zero point fraction (inr p) h = rw (p.0, p.1) (inr refl)
fraction_longer (suc n) point fraction p h =
    let w : with_point (suc n) ≡ 46 ∷ last_places 6 (suc n) = rw (ne_eqb (suc n) 0 (λ e. omega (arith, e))) refl in
    rw w (some_places n point fraction p h)
  where
    some_places : (n : ℕ) (point fraction : List ℕ) → IsPoint point fraction → Longer (last_places 6 (suc n)) fraction → Longer (46 ∷ last_places 6 (suc n)) (point ++ fraction)
    some_places n point fraction (inl p) (inl h) = rw p (inl (omega (arith, h)))
    some_places n point fraction (inl p) (inr h) = rw (p, h) (inr refl)
    some_places n point fraction (inr p) (inl h) = absurd (omega (arith, h, ap length p.1))
    some_places n point fraction (inr p) (inr h) = absurd (omega (arith, ap length p.1, ap length h, ap length (last_step 5 n)))

pub mm_shortest : (nm : ℤ) (other : List ℕ) → IsFullLength other nm → Longer (mm_of nm) other
mm_shortest nm other full =
    let l : IsLength other nm = full.length_is in
    let s : IsSpelling other l.negative l.whole l.fraction = l.spelling in
    let size : nanometres l.whole l.fraction ≡ number l.whole * 1000000 + number (padded 6 l.fraction) = size_parts l.whole l.fraction in
    let own : size_of nm ≡ nanometres l.whole l.fraction = size_same nm l.negative (nanometres l.whole l.fraction) l.value in
    let below : number (padded 6 l.fraction) < 1000000 = padded_below 6 l.fraction s.fraction_digits in
    let whole : size_of nm / 1000000 ≡ number l.whole = omega (arith, own, size, below) in
    let left : size_of nm % 1000000 ≡ number (padded 6 l.fraction) = omega (arith, own, size, below) in
    let sign_part : Longer (sign_of nm) s.sign = sign_longer nm l.negative (nanometres l.whole l.fraction) s.sign s.has_sign l.value in
    let whole_part : Longer (decimal (size_of nm / 1000000)) l.whole =
    decimal_shortest (size_of nm / 1000000) l.whole (below_size (size_of nm) (omega (arith, own, l.range))) s.whole_digits full.digit_first (sym whole) in
    let fraction_part : Longer (with_point (size_of nm % 1000000)) (s.point ++ l.fraction) =
    fraction_longer (size_of nm % 1000000) s.point l.fraction s.has_point (last_shortest 6 l.fraction (size_of nm % 1000000) s.fraction_digits left) in
    rw (mm_parts nm, s.in_order)
    (longer_both (sign_of nm) (decimal (size_of nm / 1000000) ++ with_point (size_of nm % 1000000)) s.sign (l.whole ++ (s.point ++ l.fraction)) sign_part
    (longer_both (decimal (size_of nm / 1000000)) (with_point (size_of nm % 1000000)) l.whole (s.point ++ l.fraction) whole_part fraction_part))

pub mm_is_shortest : (nm : ℤ) → IsInRange nm → IsShortest (mm_of nm) nm
mm_is_shortest nm range = record { spells = mm_spells nm range; shortest = mm_shortest nm }
