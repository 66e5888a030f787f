-- Names are compared as bytes.
use Rattle.std.proofs.Common.{◌≡◌, ◌≢◌, ℕ, Bool, true, false, cond, List, refl, sym, ◌∙◌}
use Rattle.std.specs.Ordering.{nat_cmp, eq_by_cmp, is_eq}
use Rattle.std.specs.declared.cmp.Ordering.{Ordering}
use Rattle.std.specs.declared.cmp.Ordering.TheVariants.{Less, Equal, Greater}
use Rattle.std.specs.Cmp.Lexicographic.{slice_cmp}
use Rattle.std.specs.FinMap.{IsAntisymmetric, nat_cmp-IsAntisymmetric, slice_cmp-IsAntisymmetric}
use Rattle.std.proofs.lemmas.Bool.{false_from_ne_true}

abbrev pub same_name : List ℕ → List ℕ → Bool
same_name a b = eq_by_cmp (slice_cmp nat_cmp) a b

pub names_exact : IsAntisymmetric (slice_cmp nat_cmp)
names_exact = slice_cmp-IsAntisymmetric nat_cmp-IsAntisymmetric

pub twice : {X : Type 0} (b : Bool) (x y z : X) → cond b x (cond b y z) ≡ cond b x z
twice true x y z = refl
twice false x y z = refl

tied : (r : Ordering) → is_eq r ≡ true → r ≡ Equal
tied Less e = cc
tied Equal e = refl
tied Greater e = cc

-- names that no test tells apart are equal
pub exact : (a b : List ℕ) → same_name a b ≡ true → a ≡ b
exact a b e = names_exact a b (tied (slice_cmp nat_cmp a b) e)

pub apart : (q a b : List ℕ) → a ≢ b → same_name q a ≡ true → same_name q b ≡ true → ⊥
apart q a b ne e f = ne (sym (exact q a e) ∙ exact q b f)

pub other : (q a : List ℕ) → a ≢ q → same_name q a ≡ false
other q a ne = false_from_ne_true (same_name q a) (λ e. ne (sym (exact q a e)))
