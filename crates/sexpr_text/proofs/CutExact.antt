-- Bytes begin UTF-8 exactly where their cut isn't broken.
use Rattle.std.proofs.Common.{◌≡◌, ℕ, zero, suc, ◌+◌, ◌<◌, ◌≤◌, Bool, true, false, ◌==◌, nat_lt, List, [], ◌∷◌, ◌++◌, length, refl, sym, ◌∙◌, ap, subst, inl, inr, arith, length-append}
use Rattle.std.proofs.lemmas.Str.{IsUtf8-append, IsUtf8-encode, IsUtf8-nil}
use Rattle.std.specs.Str.{IsUtf8}
use Rattle.sexpr_text.specs.Inner.Cut.{lead, cuts}
use Rattle.sexpr_text.specs.Inner.Cut.Cut.{Full, Next, Broken}
use Rattle.sexpr_text.specs.Faults.{IsUtf8Front}
use Rattle.sexpr_text.proofs.CutLaws.{cuts-append, broken_on}
use Rattle.sexpr_text.proofs.CutBack.{Char, char1, char2, char3, char4, Taken, taken, fill, filled, valid}

-- a character and the rest
pub record Led (x : ℕ) (bs : List ℕ) : Type 0 where
  pub ys : List ℕ
  pub rest : List ℕ
  pub split : bs ≡ ys ++ rest
  pub char : Char (x ∷ ys)
  pub then : cuts Full rest ≡ Full

led2 : (low high x : ℕ) (bs : List ℕ) → lead x ≡ Next low high 0 → ((y : ℕ) → low ≤ y → y ≤ high → Char (x ∷ y ∷ [])) → cuts (lead x) bs ≡ Full → Led x bs
led2 low high x bs e make h =
    let a : Taken low high 0 bs = taken low high 0 bs (sym (ap (λ l. cuts l bs) e) ∙ h) in
    record { ys = a.first ∷ []; rest = a.rest; split = a.split; char = make a.first a.above a.below; then = a.then }

led3 : (low high x : ℕ) (bs : List ℕ) → lead x ≡ Next low high 1 → ((y z : ℕ) → low ≤ y → y ≤ high → 128 ≤ z → z ≤ 191 → Char (x ∷ y ∷ z ∷ [])) → cuts (lead x) bs ≡ Full → Led x bs
led3 low high x bs e make h =
    let a : Taken low high 1 bs = taken low high 1 bs (sym (ap (λ l. cuts l bs) e) ∙ h) in
    let b : Taken 128 191 0 a.rest = taken 128 191 0 a.rest a.then in
    record {
      ys = a.first ∷ b.first ∷ [];
      rest = b.rest;
      split = a.split ∙ ap (λ t. a.first ∷ t) b.split;
      char = make a.first b.first a.above a.below b.above b.below;
      then = b.then;
    }

led4 : (low high x : ℕ) (bs : List ℕ) → lead x ≡ Next low high 2 → ((y z w : ℕ) → low ≤ y → y ≤ high → 128 ≤ z → z ≤ 191 → 128 ≤ w → w ≤ 191 → Char (x ∷ y ∷ z ∷ w ∷ [])) → cuts (lead x) bs ≡ Full → Led x bs
led4 low high x bs e make h =
    let a : Taken low high 2 bs = taken low high 2 bs (sym (ap (λ l. cuts l bs) e) ∙ h) in
    let b : Taken 128 191 1 a.rest = taken 128 191 1 a.rest a.then in
    let c : Taken 128 191 0 b.rest = taken 128 191 0 b.rest b.then in
    record {
      ys = a.first ∷ b.first ∷ c.first ∷ [];
      rest = c.rest;
      split = a.split ∙ ap (λ t. a.first ∷ t) (b.split ∙ ap (λ t. b.first ∷ t) c.split);
      char = make a.first b.first c.first a.above a.below b.above b.below c.above c.below;
      then = c.then;
    }

pub led : (x : ℕ) (bs : List ℕ) → cuts (lead x) bs ≡ Full → Led x bs
led x bs h =
    on (nat_lt x 128) refl (nat_lt x 194) refl (nat_lt x 224) refl (x == 224) refl (x == 237) refl (nat_lt x 240) refl (x == 240) refl (nat_lt x 244) refl (x == 244) refl
  where
    bad : lead x ≡ Broken → Led x bs
    bad e = let f : Broken ≡ Full = sym (broken_on bs) ∙ sym (ap (λ l. cuts l bs) e) ∙ h in absurd cc

    on : (a : Bool) → nat_lt x 128 ≡ a → (b : Bool) → nat_lt x 194 ≡ b → (c : Bool) → nat_lt x 224 ≡ c → (d : Bool) → (x == 224) ≡ d → (e : Bool) → (x == 237) ≡ e
        → (f : Bool) → nat_lt x 240 ≡ f → (g : Bool) → (x == 240) ≡ g → (i : Bool) → nat_lt x 244 ≡ i → (j : Bool) → (x == 244) ≡ j → Led x bs
    on true p b q c r d s e t f u g v i w j y =
        let m : x < 128 = grind (arith, p) in
        record { ys = []; rest = bs; split = refl; char = char1 x m; then = sym (ap (λ l. cuts l bs) (rw p refl)) ∙ h }
    on false p true q c r d s e t f u g v i w j y = bad (rw (p, q) refl)
    on false p false q true r d s e t f u g v i w j y =
        let m : 194 ≤ x = grind (arith, q) in let n : x < 224 = grind (arith, r) in
        led2 128 191 x bs (rw (p, q, r) refl) (λ k a b. char2 x k m n a b) h
    on false p false q false r true s e t f u g v i w j y =
        let m : x ≡ 224 = grind (arith, s) in
        led3 160 191 x bs (rw (p, q, r, s) refl) (λ k l a b c d. char3 x k l (omega arith) (omega arith) (omega arith) b (λ o. a) (λ o. absurd (omega arith)) c d) h
    on false p false q false r false s true t f u g v i w j y =
        let m : x ≡ 237 = grind (arith, t) in
        led3 128 159 x bs (rw (p, q, r, s, t) refl) (λ k l a b c d. char3 x k l (omega arith) (omega arith) a (omega arith) (λ o. absurd (omega arith)) (λ o. b) c d) h
    on false p false q false r false s false t true u g v i w j y =
        let m : 224 ≤ x = grind (arith, r) in let n : x < 240 = grind (arith, u) in
        let o : x ≡ 224 → ⊥ = λ k. (let z : (x == 224) ≡ true = rw k refl in let zz : false ≡ true = sym s ∙ z in cc) in
        let o' : x ≡ 237 → ⊥ = λ k. (let z : (x == 237) ≡ true = rw k refl in let zz : false ≡ true = sym t ∙ z in cc) in
        led3 128 191 x bs (rw (p, q, r, s, t, u) refl) (λ k l a b c d. char3 x k l m n a b (λ e. absurd (o e)) (λ e. absurd (o' e)) c d) h
    on false p false q false r false s false t false u true v i w j y =
        let m : x ≡ 240 = grind (arith, v) in
        led4 144 191 x bs (rw (p, q, r, s, t, u, v) refl) (λ k l n a b c d e f. char4 x k l n (omega arith) (omega arith) (omega arith) b (inr a) (inl (omega arith)) c d e f) h
    on false p false q false r false s false t false u false v true w j y =
        let m : 240 ≤ x = grind (arith, u) in let n : x < 244 = grind (arith, w) in
        let o : x ≡ 240 → ⊥ = λ k. (let z : (x == 240) ≡ true = rw k refl in let zz : false ≡ true = sym v ∙ z in cc) in
        let m' : 240 < x = grind (arith, m, o) in
        led4 128 191 x bs (rw (p, q, r, s, t, u, v, w) refl) (λ k l z a b c d e f. char4 x k l z m (omega arith) a b (inl m') (inl n) c d e f) h
    on false p false q false r false s false t false u false v false w true y =
        let m : x ≡ 244 = grind (arith, y) in
        led4 128 143 x bs (rw (p, q, r, s, t, u, v, w, y) refl) (λ k l z a b c d e f. char4 x k l z (omega arith) (omega arith) a (omega arith) (inl (omega arith)) (inr b) c d e f) h
    on false p false q false r false s false t false u false v false w false y = bad (rw (p, q, r, s, t, u, v, w, y) refl)

-- whole characters are UTF-8
pub full_utf8 : (n : ℕ) (bs : List ℕ) → length bs ≤ n → cuts Full bs ≡ Full → IsUtf8 bs
unfolding cuts
full_utf8 n [] l h = IsUtf8-nil
full_utf8 zero (x ∷ bs) l h = absurd (omega arith)
full_utf8 (suc n) (x ∷ bs) l h =
    let t : Led x bs = led x bs h in
    let k : length bs ≡ length t.ys + length t.rest = ap length t.split ∙ length-append t.ys t.rest in
    let u : IsUtf8 (x ∷ t.ys) = subst IsUtf8 t.char.spells (IsUtf8-encode t.char.code t.char.scalar) in
    subst IsUtf8 (sym (ap (λ b. x ∷ b) t.split)) (IsUtf8-append (x ∷ t.ys) t.rest u (full_utf8 n t.rest (omega arith) t.then))

-- bytes whose cut isn't broken begin UTF-8
pub utf8_front : (bs : List ℕ) → (cuts Full bs ≡ Broken → ⊥) → IsUtf8Front bs
utf8_front bs h =
    let f : cuts (cuts Full bs) (fill (cuts Full bs)) ≡ Full = filled (cuts Full bs) (valid bs Full tt) h in
    (fill (cuts Full bs), full_utf8 (length (bs ++ fill (cuts Full bs))) (bs ++ fill (cuts Full bs)) (omega arith) (cuts-append bs (fill (cuts Full bs)) Full ∙ f))
