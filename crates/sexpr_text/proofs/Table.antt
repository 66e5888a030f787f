-- The kinds of the walk are those of the table.
use Rattle.std.proofs.Common.{◌≡◌, ℕ, zero, suc, ◌-◌, Bool, true, false, ◌==◌, ◌&&◌, ◌||◌, not, cond, refl, ◌∙◌, ap, arith, Some, None}
use Rattle.sexpr_text.specs.Grammar.{is_space}
use Rattle.sexpr_text.specs.Faults.{first_row}
use Rattle.sexpr_text.specs.Inner.Spot.{TextSpot}
use Rattle.sexpr_text.specs.Inner.Spot.TextSpot.{Before, Inside, Quoted, Behind, Lost}
use Rattle.sexpr_text.specs.Inner.Seen.{fault_at_spot, ended}
use Rattle.sexpr_text.specs.declared.error.TextKind.{TextKind}
use Rattle.sexpr_text.specs.declared.error.TextKind.TheVariants.{StrayClose, NotList, After, TooDeep, BadUtf8}
use Rattle.sexpr_text.proofs.Wheres.{where_of}

some_cond : (b : Bool) (k l : TextKind) → cond b (Some k) (Some l) ≡ Some (cond b k l)
some_cond true k l = refl
some_cond false k l = refl

pub row_refused : (s : TextSpot) (c : ℕ) → (s ≡ Lost → ⊥) → first_row (where_of s) (Some c) ≡ Some (fault_at_spot s c)
row_refused Before c a =
    ap (λ o. cond (c == 41) (Some StrayClose) o) (some_cond (not (is_space c || c == 40 || c == 41)) NotList BadUtf8)
    ∙ some_cond (c == 41) StrayClose (cond (not (is_space c || c == 40 || c == 41)) NotList BadUtf8)
row_refused (Quoted room escaped) c a = refl
row_refused (Inside zero) c a = some_cond (c == 40) TooDeep BadUtf8
row_refused (Inside (suc room)) c a =
    let e : (64 - suc room == 64) ≡ false = grind arith in
    ap (λ b. cond (b && (c == 40)) (Some TooDeep) (Some BadUtf8)) e
row_refused Behind c a = some_cond (not (is_space c)) After BadUtf8
row_refused Lost c a = absurd (a refl)

pub row_ended : (s : TextSpot) (k : TextKind) → ended s ≡ Some k → first_row (where_of s) None ≡ Some k
row_ended Before k e = e
row_ended (Quoted room escaped) k e = e
row_ended (Inside room) k e = e
row_ended Behind k e = cc
row_ended Lost k e = cc

-- the input never ends with a byte that can't continue the UTF-8
pub ends_utf8 : (s : TextSpot) → first_row (where_of s) None ≡ Some BadUtf8 → ⊥
ends_utf8 Before e = cc
ends_utf8 (Quoted room escaped) e = cc
ends_utf8 (Inside room) e = cc
ends_utf8 Behind e = cc
ends_utf8 Lost e = cc
