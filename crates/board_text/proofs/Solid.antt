-- The end of a text without the white space at its end.
use Rattle.std.proofs.Common.{◌≡◌, ℕ, zero, suc, ◌-◌, ◌<◌, ◌≤◌, true, false, List, refl, sym, ap, ◌∙◌, arith, if◌then◌else◌}
use Rattle.std.specs.Prelude.{slice_index}
use Rattle.sexpr_text.specs.Grammar.{is_space}
use Rattle.board_text.specs.Items.{solid_end}

less : (n : ℕ) → suc n - 1 ≡ n
less n = omega arith

pub white : (bytes : List ℕ) (n : ℕ) → 0 < n → is_space (slice_index bytes (n - 1)) ≡ true → solid_end bytes (n - 1) ≡ solid_end bytes n
unfolding solid_end
white bytes zero l e = absurd (omega (arith, l))
white bytes (suc n) l e =
    ap (solid_end bytes) (less n) ∙ sym (ap (λ b. if b then solid_end bytes n else suc n) (ap (λ m. is_space (slice_index bytes m)) (sym (less n)) ∙ e))

pub solid : (bytes : List ℕ) (n : ℕ) → 0 < n → is_space (slice_index bytes (n - 1)) ≡ false → n ≡ solid_end bytes n
unfolding solid_end
solid bytes zero l e = absurd (omega (arith, l))
solid bytes (suc n) l e = sym (ap (λ b. if b then solid_end bytes n else suc n) (ap (λ m. is_space (slice_index bytes m)) (sym (less n)) ∙ e))

pub nothing : (bytes : List ℕ) (n : ℕ) → n ≤ 0 → n ≡ solid_end bytes n
unfolding solid_end
nothing bytes zero l = refl
nothing bytes (suc n) l = absurd (omega (arith, l))
