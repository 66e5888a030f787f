-- Bytes whose cut isn't broken begin UTF-8.
use Rattle.std.proofs.Common.{◌≡◌, ◌⊎◌, ℕ, zero, suc, ◌+◌, ◌-◌, ◌*◌, ◌<◌, ◌≤◌, ◌/◌, ◌%◌, Bool, true, false, ◌&&◌, ◌==◌, cond, nat_lt, nat_le, List, [], ◌∷◌, refl, sym, ◌∙◌, ap, inl, inr, arith}
use Rattle.std.specs.Char.{IsScalar, encode_utf8}
use Rattle.sexpr_text.specs.Inner.Cut.{Cut, lead, follows, cut_step, cuts}
use Rattle.sexpr_text.specs.Inner.Cut.Cut.{Full, Next, Broken}
use Rattle.sexpr_text.proofs.Cuts.{goes}
use Rattle.sexpr_text.proofs.CutLaws.{broken_on}
use lib.Utf8.{low_scalar}
use Rattle.sexpr_text.proofs.Numbers.{below_or_past}

-- the last bytes of a character are filled in
abbrev pub pad : ℕ → List ℕ
pad zero = []
pad (suc left) = 128 ∷ pad left

abbrev pub fill : Cut → List ℕ
fill Full = []
fill (Next low high left) = low ∷ pad left
fill Broken = []

abbrev pub Valid : Cut → Type 0
Valid (Next low high left) = low ≤ high
Valid other = Unit {0}

valid_cond : (b : Bool) (s t : Cut) → Valid s → Valid t → Valid (cond b s t)
valid_cond true s t h i = h
valid_cond false s t h i = i

valid_follows : (left : ℕ) → Valid (follows left)
valid_follows zero = tt
valid_follows (suc left) = omega arith

valid_lead : (c : ℕ) → Valid (lead c)
valid_lead c =
    valid_cond (nat_lt c 128) Full _ tt (valid_cond (nat_lt c 194) Broken _ tt (valid_cond (nat_lt c 224) (Next 128 191 0) _ (omega arith) (valid_cond (c == 224) (Next 160 191 1) _ (omega arith)
    (valid_cond (c == 237) (Next 128 159 1) _ (omega arith) (valid_cond (nat_lt c 240) (Next 128 191 1) _ (omega arith) (valid_cond (c == 240) (Next 144 191 2) _ (omega arith)
    (valid_cond (nat_lt c 244) (Next 128 191 2) _ (omega arith) (valid_cond (c == 244) (Next 128 143 2) Broken (omega arith) tt))))))))

valid_step : (s : Cut) (c : ℕ) → Valid s → Valid (cut_step s c)
valid_step Full c h = valid_lead c
valid_step (Next low high left) c h = valid_cond (nat_le low c && nat_le c high) (follows left) Broken (valid_follows left) tt
valid_step Broken c h = tt

pub valid : (a : List ℕ) (s : Cut) → Valid s → Valid (cuts s a)
unfolding cuts
valid [] s h = h
valid (c ∷ a) s h = valid a (cut_step s c) (valid_step s c h)

padded : (left : ℕ) → cuts (follows left) (pad left) ≡ Full
unfolding cuts
padded zero = refl
padded (suc left) = ap (λ x. cuts x (pad left)) (goes 128 191 left 128 (omega arith) (omega arith)) ∙ padded left

pub filled : (s : Cut) → Valid s → (s ≡ Broken → ⊥) → cuts s (fill s) ≡ Full
unfolding cuts
filled Full v h = refl
filled (Next low high left) v h = ap (λ x. cuts x (pad left)) (goes low high left low (omega arith) v) ∙ padded left
filled Broken v h = absurd (h refl)

-- the next byte of a character
pub record Taken (low high left : ℕ) (bs : List ℕ) : Type 0 where
  pub first : ℕ
  pub rest : List ℕ
  pub split : bs ≡ first ∷ rest
  pub above : low ≤ first
  pub below : first ≤ high
  pub then : cuts (follows left) rest ≡ Full

pub taken : (low high left : ℕ) (bs : List ℕ) → cuts (Next low high left) bs ≡ Full → Taken low high left bs
unfolding cuts
taken low high left [] h = absurd cc
taken low high left (y ∷ bs) h = on (nat_le low y) refl (nat_le y high) refl
  where
    on : (p : Bool) → nat_le low y ≡ p → (q : Bool) → nat_le y high ≡ q → Taken low high left (y ∷ bs)
    on true p true q =
        let a : low ≤ y = grind (arith, p) in let b : y ≤ high = grind (arith, q) in
        record { first = y; rest = bs; split = refl; above = a; below = b; then = sym (ap (λ x. cuts x bs) (goes low high left y a b)) ∙ h }
    on true p false q = let f : Broken ≡ Full = sym (broken_on bs) ∙ sym (ap (λ x. cuts x bs) (rw (p, q) refl)) ∙ h in absurd cc
    on false p q r = let f : Broken ≡ Full = sym (broken_on bs) ∙ sym (ap (λ x. cuts x bs) (rw p refl)) ∙ h in absurd cc

pub record Char (bytes : List ℕ) : Type 0 where
  pub code : ℕ
  pub scalar : IsScalar code
  pub spells : encode_utf8 code ≡ bytes

low_or_high : (c : ℕ) → (c < 55296) ⊎ ((57344 ≤ c) × (c < 1114112)) → IsScalar c
low_or_high c (inl a) = low_scalar c a
low_or_high c (inr b) =
    let p : nat_lt c 55296 ≡ false = grind (arith, b.0) in let q : nat_le 57344 c ≡ true = grind (arith, b.0) in let r : nat_lt c 1114112 ≡ true = grind (arith, b.1) in
    rw (p, q, r) refl

pub char1 : (x : ℕ) → x < 128 → Char (x ∷ [])
unfolding encode_utf8
char1 x h = record { code = x; scalar = low_scalar x (omega arith); spells = let p : nat_lt x 128 ≡ true = grind (arith, h) in rw p refl }

pub char2 : (x y : ℕ) → 194 ≤ x → x < 224 → 128 ≤ y → y ≤ 191 → Char (x ∷ y ∷ [])
unfolding encode_utf8
char2 x y a b d e =
    let c : ℕ = (x - 192) * 64 + (y - 128) in
    let p : nat_lt c 128 ≡ false = grind (arith, a, b, d, e) in let q : nat_lt c 2048 ≡ true = grind (arith, a, b, d, e) in
    let f : 192 + c / 64 ≡ x = omega arith in let g : 128 + c % 64 ≡ y = omega arith in
    record { code = c; scalar = low_scalar c (omega arith); spells = rw (p, q, f, g) refl }

three_of : (c x y z : ℕ) → 2048 ≤ c → c < 65536 → 224 + c / 4096 ≡ x → 128 + c / 64 % 64 ≡ y → 128 + c % 64 ≡ z → encode_utf8 c ≡ x ∷ y ∷ z ∷ []
unfolding encode_utf8
three_of c x y z a b d e f =
    let p : nat_lt c 128 ≡ false = grind (arith, a) in let q : nat_lt c 2048 ≡ false = grind (arith, a) in let r : nat_lt c 65536 ≡ true = grind (arith, b) in
    rw (p, q, r, d, e, f) refl

four_of : (c x y z w : ℕ) → 65536 ≤ c → 240 + c / 262144 ≡ x → 128 + c / 4096 % 64 ≡ y → 128 + c / 64 % 64 ≡ z → 128 + c % 64 ≡ w → encode_utf8 c ≡ x ∷ y ∷ z ∷ w ∷ []
unfolding encode_utf8
four_of c x y z w a d e f g =
    let p : nat_lt c 128 ≡ false = grind (arith, a) in let q : nat_lt c 2048 ≡ false = grind (arith, a) in let r : nat_lt c 65536 ≡ false = grind (arith, a) in
    rw (p, q, r, d, e, f, g) refl

pub char3 : (x y z : ℕ) → 224 ≤ x → x < 240 → 128 ≤ y → y ≤ 191 → (x ≡ 224 → 160 ≤ y) → (x ≡ 237 → y ≤ 159) → 128 ≤ z → z ≤ 191 → Char (x ∷ y ∷ z ∷ [])
char3 x y z a b d e f g h i = on (below_or_past 224 x) (below_or_past x 237) (below_or_past 237 x)
  where
    made : ((x ≡ 224 → ⊥) ⊎ (160 ≤ y)) → ((x < 237) ⊎ ((x ≡ 237) × (y ≤ 159))) ⊎ (237 < x) → Char (x ∷ y ∷ z ∷ [])
    made j k = record {
      code = (x - 224) * 4096 + (y - 128) * 64 + (z - 128);
      scalar = low_or_high ((x - 224) * 4096 + (y - 128) * 64 + (z - 128)) (elim k [ inl l ↦ inl (omega arith) | inr m ↦ inr (omega arith, omega arith) ]);
      spells = three_of ((x - 224) * 4096 + (y - 128) * 64 + (z - 128)) x y z (omega arith) (omega arith) (omega arith) (omega arith) (omega arith);
    }

    on : (224 < x) ⊎ (x ≤ 224) → (x < 237) ⊎ (237 ≤ x) → (237 < x) ⊎ (x ≤ 237) → Char (x ∷ y ∷ z ∷ [])
    on (inl l) (inl m) n = made (inl (λ q. omega arith)) (inl (inl m))
    on (inl l) (inr m) (inl n) = made (inl (λ q. omega arith)) (inr n)
    on (inl l) (inr m) (inr n) = made (inl (λ q. omega arith)) (inl (inr (omega arith, g (omega arith))))
    on (inr l) m n = made (inr (f (omega arith))) (inl (inl (omega arith)))

pub char4 : (x y z w : ℕ) → 240 ≤ x → x ≤ 244 → 128 ≤ y → y ≤ 191 → ((240 < x) ⊎ (144 ≤ y)) → ((x < 244) ⊎ (y ≤ 143)) → 128 ≤ z → z ≤ 191 → 128 ≤ w → w ≤ 191 → Char (x ∷ y ∷ z ∷ w ∷ [])
char4 x y z w a b d e f g h i j k = record {
  code = (x - 240) * 262144 + (y - 128) * 4096 + (z - 128) * 64 + (w - 128);
  scalar = low_or_high ((x - 240) * 262144 + (y - 128) * 4096 + (z - 128) * 64 + (w - 128)) (inr (omega arith, omega arith));
  spells = four_of ((x - 240) * 262144 + (y - 128) * 4096 + (z - 128) * 64 + (w - 128)) x y z w (omega arith) (omega arith) (omega arith) (omega arith) (omega arith);
}
