-- The fronts of UTF-8, by their cut.
use Rattle.std.proofs.Common.{◌≡◌, ◌⊎◌, ℕ, ◌+◌, ◌<◌, ◌≤◌, ◌/◌, ◌%◌, true, false, nat_lt, List, [], ◌∷◌, ◌++◌, refl, sym, ◌∙◌, ap, inl, inr, arith}
use Rattle.std.specs.Str.{all_scalars, encode_utf8_all}
use Rattle.std.specs.Char.{IsScalar, encode_utf8}
use Rattle.sexpr_text.specs.Inner.Cut.{Cut, lead, cut_step, cuts}
use Rattle.sexpr_text.specs.Inner.Cut.Cut.{Full, Next, Broken}
use Rattle.sexpr_text.specs.Faults.{IsUtf8Front}
use Rattle.sexpr_text.proofs.Utf8Ends.{scalar_first}
use Rattle.sexpr_text.proofs.Cuts.{goes, lead1, lead2, lead4, three}
use lib.Utf8.{scalar_cases}
use Rattle.sexpr_text.proofs.Numbers.{below_or_past}

pub two : (c : ℕ) → 128 ≤ c → c < 2048 → cuts Full ((192 + c / 64) ∷ (128 + c % 64) ∷ []) ≡ Full
unfolding cuts
two c h k = ap (λ x. cut_step x (128 + c % 64)) (lead2 (192 + c / 64) (omega arith) (omega arith)) ∙ goes 128 191 0 (128 + c % 64) (omega arith) (omega arith)

pub four : (c : ℕ) → 65536 ≤ c → c < 1114112 → cuts Full ((240 + c / 262144) ∷ (128 + c / 4096 % 64) ∷ (128 + c / 64 % 64) ∷ (128 + c % 64) ∷ []) ≡ Full
unfolding cuts
four c h k = on (below_or_past c 262144) (below_or_past c 1048576)
  where
    via : (low high : ℕ) → lead (240 + c / 262144) ≡ Next low high 2 → low ≤ 128 + c / 4096 % 64 → 128 + c / 4096 % 64 ≤ high
        → cut_step (cut_step (cut_step (lead (240 + c / 262144)) (128 + c / 4096 % 64)) (128 + c / 64 % 64)) (128 + c % 64) ≡ Full
    via low high e a b =
        ap (λ x. cut_step (cut_step (cut_step x (128 + c / 4096 % 64)) (128 + c / 64 % 64)) (128 + c % 64)) e
        ∙ ap (λ x. cut_step (cut_step x (128 + c / 64 % 64)) (128 + c % 64)) (goes low high 2 (128 + c / 4096 % 64) a b)
        ∙ ap (λ x. cut_step x (128 + c % 64)) (goes 128 191 1 (128 + c / 64 % 64) (omega arith) (omega arith))
        ∙ goes 128 191 0 (128 + c % 64) (omega arith) (omega arith)

    on : (c < 262144) ⊎ (262144 ≤ c) → (c < 1048576) ⊎ (1048576 ≤ c)
        → cut_step (cut_step (cut_step (lead (240 + c / 262144)) (128 + c / 4096 % 64)) (128 + c / 64 % 64)) (128 + c % 64) ≡ Full
    on (inl a) b = via 144 191 (let e : 240 + c / 262144 ≡ 240 = omega arith in rw e refl) (omega arith) (omega arith)
    on (inr a) (inl b) = via 128 191 (lead4 (240 + c / 262144) (omega arith) (omega arith)) (omega arith) (omega arith)
    on (inr a) (inr b) = via 128 143 (let e : 240 + c / 262144 ≡ 244 = omega arith in rw e refl) (omega arith) (omega arith)

pub one_char : (c : ℕ) → IsScalar c → cuts Full (encode_utf8 c) ≡ Full
unfolding cuts encode_utf8
one_char c s = on (below_or_past c 128) (below_or_past c 2048) (below_or_past c 65536)
  where
    side : (c < 55296) ⊎ (57344 ≤ c)
    side = elim (scalar_cases c s) [ inl a ↦ inl a | inr b ↦ inr b.0 ]

    fits : c < 1114112
    fits = elim (scalar_cases c s) [ inl a ↦ omega (arith, a) | inr b ↦ b.1 ]

    on : (c < 128) ⊎ (128 ≤ c) → (c < 2048) ⊎ (2048 ≤ c) → (c < 65536) ⊎ (65536 ≤ c) → cuts Full (encode_utf8 c) ≡ Full
    on (inl a) y z = let p : nat_lt c 128 ≡ true = grind (arith, a) in rw p (lead1 c a)
    on (inr a) (inl b) z = let p : nat_lt c 128 ≡ false = grind (arith, a) in let q : nat_lt c 2048 ≡ true = grind (arith, b) in rw (p, q) (two c a b)
    on (inr a) (inr b) (inl d) =
        let p : nat_lt c 128 ≡ false = grind (arith, a) in let q : nat_lt c 2048 ≡ false = grind (arith, b) in let r : nat_lt c 65536 ≡ true = grind (arith, d) in
        rw (p, q, r) (three c b d side)
    on (inr a) (inr b) (inr d) =
        let p : nat_lt c 128 ≡ false = grind (arith, a) in let q : nat_lt c 2048 ≡ false = grind (arith, b) in let r : nat_lt c 65536 ≡ false = grind (arith, d) in
        rw (p, q, r) (four c d fits)

pub cuts-append : (a b : List ℕ) (s : Cut) → cuts s (a ++ b) ≡ cuts (cuts s a) b
unfolding cuts
cuts-append [] b s = refl
cuts-append (c ∷ a) b s = cuts-append a b (cut_step s c)

pub broken_on : (a : List ℕ) → cuts Broken a ≡ Broken
unfolding cuts
broken_on [] = refl
broken_on (c ∷ a) = broken_on a

pub all_chars : (cs : List ℕ) → all_scalars cs ≡ true → cuts Full (encode_utf8_all cs) ≡ Full
unfolding cuts
all_chars [] s = refl
all_chars (c ∷ cs) s =
    cuts-append (encode_utf8 c) (encode_utf8_all cs) Full ∙ ap (λ x. cuts x (encode_utf8_all cs)) (one_char c (scalar_first c cs s).0) ∙ all_chars cs (scalar_first c cs s).1

-- a front of UTF-8 isn't broken
pub utf8_whole : (bs : List ℕ) → IsUtf8Front bs → cuts Full bs ≡ Broken → ⊥
utf8_whole bs (more, u) e =
    let w : cuts Full (bs ++ more) ≡ Full = ap (cuts Full) (sym u.1.1) ∙ all_chars u.0 u.1.0 in
    let b : cuts Full (bs ++ more) ≡ Broken = cuts-append bs more Full ∙ ap (λ x. cuts x more) e ∙ broken_on more in
    let f : Full ≡ Broken = sym w ∙ b in cc
