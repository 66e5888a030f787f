-- A text has at most one sign, whole digits and fraction: they are cut at the first byte that is no digit.
use Rattle.std.proofs.Common.{◌≡◌, ℕ, suc, ◌+◌, ◌<◌, ◌≤◌, Bool, true, false, cond, ◌||◌, inl, inr, eqb, List, [], ◌∷◌, ◌++◌, length, get_or, take, drop, refl, sym, ap, ◌∙◌, subst, arith, All}
use Rattle.std.specs.Char.{IsAsciiDigit, is_ascii_digit}
use Rattle.std.proofs.lemmas.Bool.{eqb-true, false≢true}
use Rattle.std.proofs.lemmas.Bool.Decides.{nat_tests}
use Rattle.std.proofs.lemmas.List.{take_at, drop_at, take-append-drop}
use Rattle.std.proofs.lemmas.List.Elements.{All-head, All-tail, All-nil, All-cons}
use Rattle.grid_num.specs.Spelling.{IsSign, IsPoint, IsSpelling, SpellsNone}
use Rattle.grid_num.specs.Parts.{begins_with, unsigned_of, digit_count, whole_of, after_point, fraction_of}

digit_true : (c : ℕ) → IsAsciiDigit c → is_ascii_digit c ≡ true
digit_true c h = grind (arith, nat_tests)

digit_from : (c : ℕ) → is_ascii_digit c ≡ true → IsAsciiDigit c
digit_from c h = grind (arith, nat_tests)

-- digits before something else
digits_before : (whole tail : List ℕ) → All IsAsciiDigit whole → is_ascii_digit (get_or tail 0 0) ≡ false → digit_count (whole ++ tail) ≡ length whole
digits_before [] [] h stop = refl
digits_before [] (t ∷ tail) h stop = rw stop refl
digits_before (d ∷ whole) tail h stop =
    rw (digit_true d (All-head IsAsciiDigit d whole h)) (omega (arith, digits_before whole tail (All-tail IsAsciiDigit d whole h) stop))

point_stops : (point fraction : List ℕ) → IsPoint point fraction → is_ascii_digit (get_or (point ++ fraction) 0 0) ≡ false
point_stops point fraction (inl e) = rw e refl
point_stops point fraction (inr e) = rw (e.0, e.1) refl

point_skipped : (point fraction : List ℕ) → IsPoint point fraction → after_point (point ++ fraction) ≡ fraction
point_skipped point fraction (inl e) = rw e refl
point_skipped point fraction (inr e) = rw (e.0, e.1) refl

-- neither a digit nor a point is a sign
pub record NoSign (body : List ℕ) : Type 0 where
  pub no_minus : begins_with body 45 ≡ false
  pub no_plus : begins_with body 43 ≡ false

body_first : (whole point fraction : List ℕ) → All IsAsciiDigit whole → IsPoint point fraction → NoSign (whole ++ (point ++ fraction))
body_first [] point fraction h (inl e) = rw e (record { no_minus = refl; no_plus = refl })
body_first [] point fraction h (inr e) = rw (e.0, e.1) (record { no_minus = refl; no_plus = refl })
body_first (d ∷ whole) point fraction h p =
    let digit : IsAsciiDigit d = All-head IsAsciiDigit d whole h in
    record { no_minus = other d 45 digit (omega arith); no_plus = other d 43 digit (omega arith) }
  where
    other : (c sign : ℕ) → IsAsciiDigit c → sign < 48 → eqb c sign ≡ false
    other c sign digit low = grind (arith, nat_tests)

pub record Cut (text : List ℕ) (negative : Bool) (body : List ℕ) : Type 0 where
  pub sign_is : negative ≡ begins_with text 45
  pub body_is : body ≡ unsigned_of text

sign_cut : (negative : Bool) (sign body : List ℕ) → IsSign sign negative → NoSign body → Cut (sign ++ body) negative body
sign_cut true sign body e n = rw e (record { sign_is = refl; body_is = refl })
sign_cut false sign body (inl e) n = rw e (record { sign_is = sym n.no_minus; body_is = rw (n.no_minus, n.no_plus) refl })
sign_cut false sign body (inr e) n = rw e (record { sign_is = refl; body_is = refl })

-- the parts of a spelling are those that are cut out of the text
pub record AreParts (text : List ℕ) (negative : Bool) (whole fraction : List ℕ) : Type 0 where
  pub negative_is : negative ≡ begins_with text 45
  pub whole_is : whole ≡ whole_of text
  pub fraction_is : fraction ≡ fraction_of text

body_parts : (whole point fraction : List ℕ) → All IsAsciiDigit whole → IsPoint point fraction → (body : List ℕ) → body ≡ whole ++ (point ++ fraction)
    → (whole ≡ take (digit_count body) body) × (fraction ≡ after_point (drop (digit_count body) body))
body_parts whole point fraction h p body e =
    let n : digit_count (whole ++ (point ++ fraction)) ≡ length whole = digits_before whole (point ++ fraction) h (point_stops point fraction p) in
    rw e (rw n (sym (take_at whole (point ++ fraction) (length whole) refl), rw (drop_at whole (point ++ fraction) (length whole) refl) (sym (point_skipped point fraction p))))

pub parts_are : (text : List ℕ) (negative : Bool) (whole fraction : List ℕ) → IsSpelling text negative whole fraction → AreParts text negative whole fraction
parts_are text negative whole fraction s =
    let body : List ℕ = whole ++ (s.point ++ fraction) in
    let cut : Cut (s.sign ++ body) negative body = sign_cut negative s.sign body s.has_sign (body_first whole s.point fraction s.whole_digits s.has_point) in
    let cut_text : Cut text negative body = subst (λ t. Cut t negative body) (sym s.in_order) cut in
    let parts = body_parts whole s.point fraction s.whole_digits s.has_point (unsigned_of text) (sym cut_text.body_is) in
    record { negative_is = cut_text.sign_is; whole_is = parts.0; fraction_is = parts.1 }

prefix_within : (xs : List ℕ) → digit_count xs ≤ length xs
prefix_within [] = omega arith
prefix_within (x ∷ xs) = cond_within (is_ascii_digit x) (digit_count xs) (length xs) (prefix_within xs)
  where
    cond_within : (b : Bool) (m n : ℕ) → m ≤ n → cond b (1 + m) 0 ≤ suc n
    cond_within true m n h = omega arith
    cond_within false m n h = omega arith

-- the first digits are digits, and behind them stands none
front_digits : (xs : List ℕ) → All IsAsciiDigit (take (digit_count xs) xs)
front_digits [] = All-nil IsAsciiDigit
front_digits (x ∷ xs) = by_first (is_ascii_digit x) refl (front_digits xs)
  where
    by_first : (b : Bool) → is_ascii_digit x ≡ b → All IsAsciiDigit (take (digit_count xs) xs) → All IsAsciiDigit (take (cond b (1 + digit_count xs) 0) (x ∷ xs))
    by_first true e h = let n : 1 + digit_count xs ≡ suc (digit_count xs) = omega arith in
        rw n (All-cons IsAsciiDigit x (take (digit_count xs) xs) (digit_from x e) h)
    by_first false e h = All-nil IsAsciiDigit

behind_digits : (xs : List ℕ) → is_ascii_digit (get_or (drop (digit_count xs) xs) 0 0) ≡ false
behind_digits [] = refl
behind_digits (x ∷ xs) = by_first (is_ascii_digit x) refl (behind_digits xs)
  where
    by_first : (b : Bool) → is_ascii_digit x ≡ b → is_ascii_digit (get_or (drop (digit_count xs) xs) 0 0) ≡ false → is_ascii_digit (get_or (drop (cond b (1 + digit_count xs) 0) (x ∷ xs)) 0 0) ≡ false
    by_first true e h = let n : 1 + digit_count xs ≡ suc (digit_count xs) = omega arith in rw n h
    by_first false e h = e

-- a sign and a point that stand at the front of a text
pub record Front (text rest : List ℕ) (P : List ℕ → Type 0) : Type 0 where
  pub front : List ℕ
  pub whole : text ≡ front ++ rest
  pub fits : P front

sign_front : (text : List ℕ) → Front text (unsigned_of text) (λ sign. IsSign sign (begins_with text 45))
sign_front [] = record { front = []; whole = refl; fits = inl refl }
sign_front (c ∷ cs) = by_tests (eqb c 45) (eqb c 43) refl refl
  where
    by_tests : (minus plus : Bool) → eqb c 45 ≡ minus → eqb c 43 ≡ plus → Front (c ∷ cs) (drop (cond (minus || plus) 1 0) (c ∷ cs)) (λ sign. IsSign sign minus)
    by_tests true plus e f = record { front = c ∷ []; whole = refl; fits = ap (λ x. x ∷ []) (eqb-true c 45 e) }
    by_tests false true e f = record { front = c ∷ []; whole = refl; fits = inr (ap (λ x. x ∷ []) (eqb-true c 43 f)) }
    by_tests false false e f = record { front = []; whole = refl; fits = inl refl }

point_front : (rest : List ℕ) → is_ascii_digit (get_or rest 0 0) ≡ false → All IsAsciiDigit (after_point rest) → Front rest (after_point rest) (λ point. IsPoint point (after_point rest))
point_front [] stop h = record { front = []; whole = refl; fits = inr (refl, refl) }
point_front (c ∷ cs) stop h = by_test (eqb c 46) refl h
  where
    by_test : (b : Bool) → eqb c 46 ≡ b → All IsAsciiDigit (drop (cond b 1 0) (c ∷ cs)) → Front (c ∷ cs) (drop (cond b 1 0) (c ∷ cs)) (λ point. IsPoint point (drop (cond b 1 0) (c ∷ cs)))
    by_test true e h = record { front = c ∷ []; whole = refl; fits = inl (ap (λ x. x ∷ []) (eqb-true c 46 e)) }
    by_test false e h = absurd (false≢true (sym stop ∙ digit_true c (All-head IsAsciiDigit c cs h)))

pub parts_spell : (text : List ℕ) → All IsAsciiDigit (fraction_of text) → 0 < length (whole_of text) + length (fraction_of text) → IsSpelling text (begins_with text 45) (whole_of text) (fraction_of text)
parts_spell text digits some =
    let body = unsigned_of text in
    let rest = drop (digit_count body) body in
    let signed : Front text body (λ sign. IsSign sign (begins_with text 45)) = sign_front text in
    let pointed : Front rest (after_point rest) (λ point. IsPoint point (after_point rest)) = point_front rest (behind_digits body) digits in
    record {
      sign = signed.front;
      point = pointed.front;
      in_order = signed.whole ∙ ap (λ b. signed.front ++ b) (sym (take-append-drop (digit_count body) body) ∙ ap (λ r. whole_of text ++ r) pointed.whole);
      has_sign = signed.fits;
      has_point = pointed.fits;
      whole_digits = front_digits body;
      fraction_digits = digits;
      some_digit = some;
    }

-- where the cut out parts are no spelling, none is
pub none_spelt : (text : List ℕ) → (All IsAsciiDigit (fraction_of text) → 0 < length (whole_of text) + length (fraction_of text) → ⊥) → SpellsNone text
none_spelt text not_cut negative whole fraction s =
    let p : AreParts text negative whole fraction = parts_are text negative whole fraction s in
    not_cut (subst (All IsAsciiDigit) p.fraction_is s.fraction_digits) (omega (arith, s.some_digit, ap length p.whole_is, ap length p.fraction_is))

-- what the code has cut out of a text
pub record IsCut (text unsigned whole rest fraction : List ℕ) (count : ℕ) : Type 0 where
  pub unsigned_is : unsigned ≡ unsigned_of text
  pub count_is : count ≡ digit_count unsigned
  pub whole_is : whole ≡ take count unsigned
  pub rest_is : rest ≡ drop count unsigned
  pub fraction_is : fraction ≡ after_point rest

cut_whole : (text unsigned whole rest fraction : List ℕ) (count : ℕ) → IsCut text unsigned whole rest fraction count → whole ≡ whole_of text
cut_whole text unsigned whole rest fraction count c = c.whole_is ∙ ap (λ n. take n unsigned) c.count_is ∙ ap (λ u. take (digit_count u) u) c.unsigned_is

cut_fraction : (text unsigned whole rest fraction : List ℕ) (count : ℕ) → IsCut text unsigned whole rest fraction count → fraction ≡ fraction_of text
cut_fraction text unsigned whole rest fraction count c =
    c.fraction_is ∙ ap after_point (c.rest_is ∙ ap (λ n. drop n unsigned) c.count_is ∙ ap (λ u. drop (digit_count u) u) c.unsigned_is)

pub cut_spells : (text unsigned whole rest fraction : List ℕ) (count : ℕ) (negative : Bool) → IsCut text unsigned whole rest fraction count → negative ≡ begins_with text 45
    → All IsAsciiDigit fraction → 0 < length whole + length fraction → IsSpelling text negative whole fraction
cut_spells text unsigned whole rest fraction count negative c n digits some =
    let w : whole ≡ whole_of text = cut_whole text unsigned whole rest fraction count c in
    let f : fraction ≡ fraction_of text = cut_fraction text unsigned whole rest fraction count c in
    let s : IsSpelling text (begins_with text 45) (whole_of text) (fraction_of text) =
    parts_spell text (subst (All IsAsciiDigit) f digits) (omega (arith, some, ap length w, ap length f)) in
    rw (n, w, f) s

pub cut_none : (text unsigned whole rest fraction : List ℕ) (count : ℕ) → IsCut text unsigned whole rest fraction count
    → (All IsAsciiDigit fraction → 0 < length whole + length fraction → ⊥) → SpellsNone text
cut_none text unsigned whole rest fraction count c h =
    let w : whole ≡ whole_of text = cut_whole text unsigned whole rest fraction count c in
    let f : fraction ≡ fraction_of text = cut_fraction text unsigned whole rest fraction count c in
    none_spelt text (λ digits some. h (subst (All IsAsciiDigit) (sym f) digits) (omega (arith, some, ap length w, ap length f)))
