-- Ratios: their ten places, and what is kept of them.
use Rattle.std.proofs.Common.{◌≡◌, ℕ, zero, suc, ◌+◌, ◌<◌, ◌≤◌, Bool, true, false, ◌&&◌, ◌||◌, not, List, [], ◌∷◌, ◌++◌, refl, sym, ap, ◌∙◌, arith, min, Option, Some, None, nat_lt}
use Rattle.std.specs.Prelude.{slice_index_or, ℤ, pos, negsuc, neg_ℤ, int_lt, ◌==◌}
use Rattle.std.proofs.lemmas.Bool.Decides.{nat_tests}
use Rattle.std.proofs.lemmas.Int.{ints}
use Rattle.grid_num.specs.Spelling.{number, number_after}
use Rattle.grid_num.specs.Length.{with_sign}
use Rattle.grid_num.specs.Parts.{whole_of, fraction_of}
use Rattle.grid_num.proofs.Capped.{capped_alike, number_append}
use Rattle.board_text.specs.Numbers.{is_decimal, is_negative, ratio_of, ratio_fault, ten_places, or_zero}
use Rattle.board_text.specs.Items.{size_of}
use Rattle.board_language.specs.Offences.{is_bad_ratio}
use Rattle.board_pads.specs.Ratios.{kept_ratio}

pub ten : (xs : List ℕ)
    → slice_index_or xs 0 48 ∷ slice_index_or xs 1 48 ∷ slice_index_or xs 2 48 ∷ slice_index_or xs 3 48 ∷ slice_index_or xs 4 48 ∷ slice_index_or xs 5 48 ∷ slice_index_or xs 6 48 ∷ slice_index_or xs 7 48 ∷ slice_index_or xs 8 48 ∷ slice_index_or xs 9 48 ∷ [] ≡ ten_places xs
ten [] = refl
ten (a ∷ []) = refl
ten (a ∷ b ∷ []) = refl
ten (a ∷ b ∷ c ∷ []) = refl
ten (a ∷ b ∷ c ∷ d ∷ []) = refl
ten (a ∷ b ∷ c ∷ d ∷ e ∷ []) = refl
ten (a ∷ b ∷ c ∷ d ∷ e ∷ f ∷ []) = refl
ten (a ∷ b ∷ c ∷ d ∷ e ∷ f ∷ g ∷ []) = refl
ten (a ∷ b ∷ c ∷ d ∷ e ∷ f ∷ g ∷ h ∷ []) = refl
ten (a ∷ b ∷ c ∷ d ∷ e ∷ f ∷ g ∷ h ∷ i ∷ []) = refl
ten (a ∷ b ∷ c ∷ d ∷ e ∷ f ∷ g ∷ h ∷ i ∷ j ∷ xs) = refl

-- the digits behind the point follow those before it, also where both are capped
pub both_parts : (most whole all : ℕ) (ws fs : List ℕ) → whole ≡ min most (number ws) → all ≡ min most (number_after whole fs) → all ≡ min most (number (ws ++ fs))
both_parts most whole all ws fs w e =
    e ∙ capped_alike most whole (number ws) fs (omega (arith, w)) ∙ ap (min most) (sym (number_append 0 ws fs))

bad_small : (n : ℕ) → n ≤ 5000000000 → is_bad_ratio (pos n) ≡ false
bad_small n l = grind (arith, ints, nat_tests)

bad_beyond : (n : ℕ) → 5000000000 < n → is_bad_ratio (pos n) ≡ true
bad_beyond n l = grind (arith, ints, nat_tests)

pub kept_small : (negative : Bool) (size n : ℕ) → size ≤ 5000000000 → (negative && not (size == 0)) ≡ false → size ≡ min 5000000001 n → Some size ≡ kept_ratio (with_sign negative n)
kept_small false size n l e m = let same : size ≡ n = omega (arith, l, m) in rw (same, bad_small n (omega (arith, l, m))) refl
kept_small true size n l e m = by_size n (omega (arith, l, m)) e
  where
    by_size : (n : ℕ) → size ≡ n → (true && not (size == 0)) ≡ false → Some size ≡ kept_ratio (neg_ℤ (pos n))
    by_size zero same e = ap (λ k. Some k) same
    by_size (suc n) same e = absurd (omega (arith, same, zero_of size e))
      where
        zero_of : (k : ℕ) → not (k == 0) ≡ false → k ≡ 0
        zero_of k e = grind (arith, nat_tests)

pub kept_beyond : (negative : Bool) (size n : ℕ) → 5000000000 < size → size ≡ min 5000000001 n → None ≡ kept_ratio (with_sign negative n)
kept_beyond false size n l m = rw (bad_beyond n (omega (arith, l, m))) refl
kept_beyond true size n l m = by_size n (omega (arith, l, m))
  where
    by_size : (n : ℕ) → 5000000000 < n → None ≡ kept_ratio (neg_ℤ (pos n))
    by_size zero l = absurd (omega (arith, l))
    by_size (suc n) l = refl

pub kept_below : (size n : ℕ) → not (size == 0) ≡ true → size ≡ min 5000000001 n → None ≡ kept_ratio (with_sign true n)
kept_below size n e m = by_size n m
  where
    some_of : (k : ℕ) → not (k == 0) ≡ true → 0 < k
    some_of k e = grind (arith, nat_tests)

    by_size : (n : ℕ) → size ≡ min 5000000001 n → None ≡ kept_ratio (neg_ℤ (pos n))
    by_size zero m = absurd (omega (arith, m, some_of size e))
    by_size (suc n) m = refl

pub none_kept : (text : List ℕ) → is_decimal text ≡ false → Some 0 ≡ kept_ratio (ratio_of text)
unfolding ratio_of ratio_fault
none_kept text e = rw e refl

pub some_kept : (text : List ℕ) (r : Option ℕ) → is_decimal text ≡ true → r ≡ kept_ratio (with_sign (is_negative text) (number (whole_of text ++ ten_places (fraction_of text)))) → r ≡ kept_ratio (ratio_of text)
unfolding ratio_of ratio_fault
some_kept text r e h = rw e h
