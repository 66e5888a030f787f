-- Characters and their cuts.
use Rattle.std.proofs.Common.{◌≡◌, ◌⊎◌, ℕ, ◌+◌, ◌-◌, ◌*◌, ◌<◌, ◌≤◌, ◌/◌, ◌%◌, true, false, ◌==◌, nat_lt, nat_le, [], ◌∷◌, refl, ◌∙◌, ap, inl, inr, arith}
use Rattle.sexpr_text.specs.Inner.Cut.{Cut, lead, follows, cut_step, cuts}
use Rattle.sexpr_text.specs.Inner.Cut.Cut.{Full, Next}
use Rattle.sexpr_text.proofs.Numbers.{below_or_past}

pub goes : (low high left c : ℕ) → low ≤ c → c ≤ high → cut_step (Next low high left) c ≡ follows left
goes low high left c a b =
    let e : nat_le low c ≡ true = grind (arith, a) in
    let f : nat_le c high ≡ true = grind (arith, b) in
    rw (e, f) refl

pub lead1 : (c : ℕ) → c < 128 → lead c ≡ Full
lead1 c h = let e : nat_lt c 128 ≡ true = grind (arith, h) in rw e refl

pub lead2 : (c : ℕ) → 194 ≤ c → c < 224 → lead c ≡ Next 128 191 0
lead2 c h k =
    let a : nat_lt c 128 ≡ false = grind (arith, h) in
    let b : nat_lt c 194 ≡ false = grind (arith, h) in
    let d : nat_lt c 224 ≡ true = grind (arith, k) in
    rw (a, b, d) refl

pub lead3 : (c : ℕ) → 225 ≤ c → c < 240 → (c ≡ 237 → ⊥) → lead c ≡ Next 128 191 1
lead3 c h k n =
    let a : nat_lt c 128 ≡ false = grind (arith, h) in
    let b : nat_lt c 194 ≡ false = grind (arith, h) in
    let d : nat_lt c 224 ≡ false = grind (arith, h) in
    let e : (c == 224) ≡ false = grind (arith, h) in
    let f : (c == 237) ≡ false = grind (arith, n) in
    let g : nat_lt c 240 ≡ true = grind (arith, k) in
    rw (a, b, d, e, f, g) refl

pub lead4 : (c : ℕ) → 241 ≤ c → c < 244 → lead c ≡ Next 128 191 2
lead4 c h k =
    let a : nat_lt c 128 ≡ false = grind (arith, h) in
    let b : nat_lt c 194 ≡ false = grind (arith, h) in
    let d : nat_lt c 224 ≡ false = grind (arith, h) in
    let e : (c == 224) ≡ false = grind (arith, h) in
    let f : (c == 237) ≡ false = grind (arith, h) in
    let g : nat_lt c 240 ≡ false = grind (arith, h) in
    let i : (c == 240) ≡ false = grind (arith, h) in
    let j : nat_lt c 244 ≡ true = grind (arith, k) in
    rw (a, b, d, e, f, g, i, j) refl

-- three bytes of a character
pub three : (c : ℕ) → 2048 ≤ c → c < 65536 → (c < 55296) ⊎ (57344 ≤ c) → cuts Full ((224 + c / 4096) ∷ (128 + c / 64 % 64) ∷ (128 + c % 64) ∷ []) ≡ Full
unfolding cuts
three c h k s = on (below_or_past c 4096) (below_or_past c 53248) (below_or_past c 57344)
  where
    last : (cut : Cut) → cut ≡ Next 128 191 0 → cut_step cut (128 + c % 64) ≡ Full
    last cut e = ap (λ x. cut_step x (128 + c % 64)) e ∙ goes 128 191 0 (128 + c % 64) (omega arith) (omega arith)

    via : (low high : ℕ) → lead (224 + c / 4096) ≡ Next low high 1 → low ≤ 128 + c / 64 % 64 → 128 + c / 64 % 64 ≤ high
        → cut_step (cut_step (lead (224 + c / 4096)) (128 + c / 64 % 64)) (128 + c % 64) ≡ Full
    via low high e a b = last (cut_step (lead (224 + c / 4096)) (128 + c / 64 % 64)) (ap (λ x. cut_step x (128 + c / 64 % 64)) e ∙ goes low high 1 (128 + c / 64 % 64) a b)

    on : (c < 4096) ⊎ (4096 ≤ c) → (c < 53248) ⊎ (53248 ≤ c) → (c < 57344) ⊎ (57344 ≤ c)
        → cut_step (cut_step (lead (224 + c / 4096)) (128 + c / 64 % 64)) (128 + c % 64) ≡ Full
    on (inl a) b d = via 160 191 (let e : 224 + c / 4096 ≡ 224 = omega arith in rw e refl) (omega arith) (omega arith)
    on (inr a) (inl b) d = via 128 191 (lead3 (224 + c / 4096) (omega arith) (omega arith) (λ e. omega arith)) (omega arith) (omega arith)
    on (inr a) (inr b) (inl d) = via 128 159 (let e : 224 + c / 4096 ≡ 237 = omega arith in rw e refl) (omega arith) (omega arith)
    on (inr a) (inr b) (inr d) = via 128 191 (lead3 (224 + c / 4096) (omega arith) (omega arith) (λ e. omega arith)) (omega arith) (omega arith)

-- three bytes that pass are a character
pub three_back : (x y z : ℕ) → 225 ≤ x → x < 240 → (x ≡ 237 → ⊥) → 128 ≤ y → y ≤ 191 → 128 ≤ z → z ≤ 191
    → (c : ℕ) × (2048 ≤ c) × (c < 65536) × ((c < 55296) ⊎ (57344 ≤ c)) × (224 + c / 4096 ≡ x) × (128 + c / 64 % 64 ≡ y) × (128 + c % 64 ≡ z)
three_back x y z a b n d e f g =
    ((x - 224) * 4096 + (y - 128) * 64 + (z - 128), omega arith, omega arith, side, omega arith, omega arith, omega arith)
  where
    side : ((x - 224) * 4096 + (y - 128) * 64 + (z - 128) < 55296) ⊎ (57344 ≤ (x - 224) * 4096 + (y - 128) * 64 + (z - 128))
    side = elim (below_or_past x 237) [ inl less ↦ inl (omega arith) | inr past ↦ inr (let m : x ≡ 237 → ⊥ = n in omega arith) ]
