-- What a word looks like, to the definition and to the library of command lines.
use Rattle.std.proofs.Common.{◌≡◌, ◌∙◌, ap, ap₂, sym, subst, refl, ℕ, suc, ◌+◌, Bool, true, false, [], ◌∷◌, take, drop, Option, None, Some, arith}
use Rattle.std.specs.Prelude.{◌==◌, ◌||◌, option_map, is_some, unwrap_or, if◌then◌else◌}
use Rattle.std.specs.List.{before_first, after_first, position_or_len}
use Rattle.std.specs.Str.{bytes_eq}
use Rattle.std.proofs.lemmas.Bool.Decides.{Decides-eqb}
use Rattle.std.proofs.lemmas.Slice.Eq.{bytes_eq-Decides}
use lib.Chars.{codes}
use Rattle.clap.specs.Lexer.{long_of, short_of, has_byte}
use Rattle.clap.specs.Walk.{Text, arg_by_long}
use Rattle.run_rules.specs.declared.words.Flag.{Flag}
use Rattle.run_rules.specs.declared.words.Flag.TheVariants.{Threads, Clearance, EdgeClearance}
use Rattle.run_rules.specs.Words.{GivenWord, is_option, flag_of, has_equals, joined_flag, joined_value, name_in, value_in}
use Rattle.run_rules.proofs.LineRules.{rules, one_value}

-- ---- texts

pub bytes_turned : (a b : Text) → bytes_eq a b ≡ bytes_eq b a
bytes_turned a b = go (bytes_eq a b) (bytes_eq b a) refl refl
  where
    go : (x y : Bool) → bytes_eq a b ≡ x → bytes_eq b a ≡ y → x ≡ y
    go true true e f = refl
    go true false e f = sym ((bytes_eq-Decides b a).1 (sym ((bytes_eq-Decides a b).0 e))) ∙ f
    go false true e f = sym (sym ((bytes_eq-Decides a b).1 (sym ((bytes_eq-Decides b a).0 f))) ∙ e)
    go false false e f = refl

-- the option of this name
abbrev pub flag_long : Text → Option Flag
flag_long name =
    if bytes_eq name (codes "threads") then Some Threads
    else (if bytes_eq name (codes "clearance") then Some Clearance else (if bytes_eq name (codes "edge-clearance") then Some EdgeClearance else None))

pub long_found : (name : Text) → arg_by_long rules name ≡ option_map one_value (flag_long name)
long_found name =
    rw (bytes_turned (codes "threads") name, bytes_turned (codes "clearance") name, bytes_turned (codes "edge-clearance") name)
    (go (bytes_eq name (codes "threads")) (bytes_eq name (codes "clearance")) (bytes_eq name (codes "edge-clearance")))
  where
    go : (a b c : Bool)
        → (if (a || false) then Some (one_value Threads) else (if (b || false) then Some (one_value Clearance) else (if (c || false) then Some (one_value EdgeClearance) else None)))
        ≡ option_map one_value (if a then Some Threads else (if b then Some Clearance else (if c then Some EdgeClearance else None)))
    go true b c = refl
    go false true c = refl
    go false false true = refl
    go false false false = refl

pub flag_is_long : (name : Text) → flag_of (45 ∷ 45 ∷ name) ≡ flag_long name
flag_is_long name = refl

-- ---- the kinds of words

pub data Class (word : GivenWord) : Type 0 where
  dashes : bytes_eq word (codes "--") ≡ true → Class word
  plain : bytes_eq word (codes "--") ≡ false → is_option word ≡ false → long_of word ≡ None → short_of word ≡ None → Class word
  apart : (name : Text) → bytes_eq word (codes "--") ≡ false → is_option word ≡ true → long_of word ≡ Some (name, None) → has_equals word ≡ false
      → flag_of word ≡ flag_long name → Class word
  joined : (name value : Text) → bytes_eq word (codes "--") ≡ false → is_option word ≡ true → long_of word ≡ Some (name, Some value) → has_equals word ≡ true
      → joined_flag word ≡ flag_long name → joined_value word ≡ value → Class word
  short : (f : ℕ) (flags : Text) → bytes_eq word (codes "--") ≡ false → is_option word ≡ true → long_of word ≡ None → short_of word ≡ Some (f ∷ flags)
      → flag_of word ≡ None → joined_flag word ≡ None → Class word

one_more : (p : ℕ) → 1 + p ≡ suc p
one_more p = omega arith

two_more : (p : ℕ) → (1 + p) + 1 ≡ suc (p + 1)
two_more p = omega arith

front : (xs : Text) → before_first (λ x. x == 61) xs ≡ name_in xs
front [] = refl
front (x ∷ xs) = go (x == 61) refl (front xs)
  where
    go : (b : Bool) → (x == 61) ≡ b → before_first (λ y. y == 61) xs ≡ name_in xs → before_first (λ y. y == 61) (x ∷ xs) ≡ name_in (x ∷ xs)
    go true e ih = rw e refl
    go false e ih = rw e (ap (λ k. take k (x ∷ xs)) (one_more (position_or_len (λ y. y == 61) xs)) ∙ ap (λ t. x ∷ t) ih)

back : (xs : Text) → (if has_byte 61 xs then Some (after_first (λ x. x == 61) xs) else None) ≡ value_in xs
back [] = refl
back (x ∷ xs) = go (x == 61) refl (back xs)
  where
    go : (b : Bool) → (x == 61) ≡ b → (if has_byte 61 xs then Some (after_first (λ y. y == 61) xs) else None) ≡ value_in xs
        → (if has_byte 61 (x ∷ xs) then Some (after_first (λ y. y == 61) (x ∷ xs)) else None) ≡ value_in (x ∷ xs)
    go true e ih = rw e refl
    go false e ih = rw e (ap (λ k. if has_byte 61 xs then Some (drop k (x ∷ xs)) else None) (two_more (position_or_len (λ y. y == 61) xs)) ∙ ih)

whole : (xs : Text) → value_in xs ≡ None → name_in xs ≡ xs
whole [] e = refl
whole (x ∷ xs) e = go (x == 61) refl e (whole xs)
  where
    go : (b : Bool) → (x == 61) ≡ b → value_in (x ∷ xs) ≡ None → (value_in xs ≡ None → name_in xs ≡ xs) → name_in (x ∷ xs) ≡ x ∷ xs
    go true f n ih = let there : value_in (x ∷ xs) ≡ Some xs = rw f refl in absurd (cc (sym there ∙ n))
    go false f n ih = let rest : value_in xs ≡ None = rw f at n in rw f (ap (λ t. x ∷ t) (ih rest))

long_parts : (x : ℕ) (xs : Text) → long_of (45 ∷ 45 ∷ x ∷ xs) ≡ Some (name_in (x ∷ xs), value_in (x ∷ xs))
long_parts x xs = ap₂ (λ (name : Text) (value : Option Text). Some (name, value)) (front (x ∷ xs)) (back (x ∷ xs))

long_word : (x : ℕ) (xs : Text) → Class (45 ∷ 45 ∷ x ∷ xs)
long_word x xs = go (value_in (x ∷ xs)) refl
  where
    go : (v : Option Text) → value_in (x ∷ xs) ≡ v → Class (45 ∷ 45 ∷ x ∷ xs)
    go (Some value) e =
        joined (name_in (x ∷ xs)) value refl refl (long_parts x xs ∙ ap (λ v. Some (name_in (x ∷ xs), v)) e) (ap is_some e) refl (ap (λ v. unwrap_or v []) e)
    go None e = apart (name_in (x ∷ xs)) refl refl (long_parts x xs ∙ ap (λ v. Some (name_in (x ∷ xs), v)) e) (ap is_some e) (ap (λ t. flag_of (45 ∷ 45 ∷ t)) (sym (whole (x ∷ xs) e)))

short_flag : (d : ℕ) (rest : Text) → (d == 45) ≡ false → flag_of (45 ∷ d ∷ rest) ≡ None
short_flag d rest e = rw e refl

short_joined : (d : ℕ) (rest : Text) → (d == 45) ≡ false → joined_flag (45 ∷ d ∷ rest) ≡ None
short_joined d rest e = go (d == 61) refl
  where
    go : (b : Bool) → (d == 61) ≡ b → joined_flag (45 ∷ d ∷ rest) ≡ None
    go true f = rw f refl
    go false f = rw f (short_flag d (name_in rest) e)

dash_word : (d : ℕ) (rest : Text) → Class (45 ∷ d ∷ rest)
dash_word d rest = go (d == 45) refl
  where
    two : (rest : Text) → Class (45 ∷ 45 ∷ rest)
    two [] = dashes refl
    two (x ∷ xs) = long_word x xs

    go : (b : Bool) → (d == 45) ≡ b → Class (45 ∷ d ∷ rest)
    go true e = subst (λ k. Class (45 ∷ k ∷ rest)) (sym ((Decides-eqb d 45).0 e)) (two rest)
    go false e = short d rest (rw e refl) refl (rw e refl) (rw e refl) (short_flag d rest e) (short_joined d rest e)

pub class : (word : GivenWord) → Class word
class [] = plain refl refl refl refl
class (c ∷ []) = go (c == 45) refl
  where
    go : (b : Bool) → (c == 45) ≡ b → Class (c ∷ [])
    go true e = plain (rw e refl) refl (rw e refl) (rw e refl)
    go false e = plain (rw e refl) refl (rw e refl) (rw e refl)
class (c ∷ d ∷ rest) = go (c == 45) refl
  where
    go : (b : Bool) → (c == 45) ≡ b → Class (c ∷ d ∷ rest)
    go true e = subst (λ k. Class (k ∷ d ∷ rest)) (sym ((Decides-eqb c 45).0 e)) (dash_word d rest)
    go false e = plain (rw e refl) e (rw e refl) (rw e refl)
