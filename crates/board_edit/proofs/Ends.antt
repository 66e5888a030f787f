-- A text ends behind its list, but for white space.
use Rattle.std.proofs.Common.{◌≡◌, ◌∙◌, ap, sym, ℕ, zero, suc, ◌-◌, ◌<◌, ◌≤◌, true, false, List, length, inl, inr, arith}
use Rattle.std.specs.Prelude.{if◌then◌else◌, slice_index}
use Rattle.std.proofs.Math.Nat.{eq-or-lt_of_le}
use Rattle.sexpr_text.specs.Grammar.{Items, is_space}
use Rattle.sexpr_text.specs.Grammar.Forest.{Nil, Group}
use Rattle.sexpr_text.specs.Items.{Item}
use Rattle.sexpr_text.specs.Trees.{IsRoot}
use Rattle.board_text.specs.Items.{solid_end}

-- white space behind another byte is left out, and nothing else
back : (text : List ℕ) (to n : ℕ) → to ≤ n → 0 < to → is_space (slice_index text (to - 1)) ≡ false
    → ((k : ℕ) → to ≤ k → k < n → is_space (slice_index text k) ≡ true) → solid_end text n ≡ to
unfolding solid_end
back text to zero l o s h = absurd (omega (arith, l, o))
back text to (suc n) l o s h = elim (eq-or-lt_of_le l) [
  | inl e ↦
      let m : n ≡ to - 1 = omega (arith, e) in
      ap (λ b. if b then solid_end text n else suc n) (ap (λ k. is_space (slice_index text k)) m ∙ s) ∙ sym e
  | inr k ↦
      ap (λ b. if b then solid_end text n else suc n) (h n (omega (arith, k)) (omega arith))
      ∙ back text to n (omega (arith, k)) o s (λ i a b. h i a (omega (arith, b)))
]

pub list_end : (text : List ℕ) (root : Item) → IsRoot text root → solid_end text (length text) ≡ root.to
list_end text root r =
    let i : Items text 64 0 (length text) (Group root.from root.to root.inner Nil) = r.spelt.items in
    let o = i.1.order in
    back text root.to (length text) i.3.order (omega (arith, o)) (ap is_space i.1.closing) i.3.each
