-- Numbers of 64 bits read as they are.
use mir.Val.{SFits, of_z, to_z}
use Rattle.std.proofs.Common.{◌≡◌, ◌↔◌, sym, subst, ap, ◌∙◌, ℕ, ◌<◌, ◌⊎◌, inl, inr, arith, List, w64, IsTrue}
use Rattle.std.specs.Prelude.{ℤ, pos, negsuc, neg_ℤ, ◌+ℤ◌, ◌-ℤ◌, ◌*ℤ◌, ◌≤ℤ◌, ◌<ℤ◌, Bool}
use Rattle.std.proofs.lemmas.Int.{ints, to_z-of_z}
use Rattle.ratsnest.specs.declared.Anchor.{Anchor}
use Rattle.ratsnest.specs.declared.Pair.{Pair}
use Rattle.ratsnest.specs.Ratsnest.{anchor, dist_sq, HasLesserKey}
use Rattle.ratsnest.specs.Ratsnest.{IsNearby}

pub key_move : (r : Bool) (d e g h : ℤ) (i j k l : ℕ) → d ≡ e → g ≡ h
    → (IsTrue r ↔ ((d <ℤ g) ⊎ ((d ≡ g) × ((i < k) ⊎ ((i ≡ k) × (j < l))))))
    → (IsTrue r ↔ ((e <ℤ h) ⊎ ((e ≡ h) × ((i < k) ⊎ ((i ≡ k) × (j < l))))))
key_move r d e g h i j k l p q t = subst (λ x. IsTrue r ↔ ((x <ℤ h) ⊎ ((x ≡ h) × ((i < k) ⊎ ((i ≡ k) × (j < l)))))) p
    (subst (λ y. IsTrue r ↔ ((d <ℤ y) ⊎ ((d ≡ y) × ((i < k) ⊎ ((i ≡ k) × (j < l)))))) q t)

pub read64 : (a b : ℤ) → SFits w64 a → a ≡ b → to_z w64 (of_z w64 a) ≡ b
read64 a b f p = to_z-of_z w64 a f ∙ p

pub near_fits : (z : ℤ) → neg_ℤ (pos 1000000000) ≤ℤ z → z ≤ℤ pos 1000000000 → SFits w64 z
near_fits (pos n) l h = record { sfits = omega (arith, ints, l, h) }
near_fits (negsuc n) l h = record { sfits = omega (arith, ints, l, h) }

abbrev sum_sq : ℤ → ℤ → ℤ → ℤ → ℤ
sum_sq a b c d = ((a -ℤ c) *ℤ (a -ℤ c)) +ℤ ((b -ℤ d) *ℤ (b -ℤ d))

plain_sq : (r a b c d : ℤ) → SFits w64 a → SFits w64 b → SFits w64 c → SFits w64 d
    → r ≡ sum_sq (to_z w64 (of_z w64 a)) (to_z w64 (of_z w64 b)) (to_z w64 (of_z w64 c)) (to_z w64 (of_z w64 d)) → r ≡ sum_sq a b c d
plain_sq r a b c d f g h k e = e ∙ (ap (λ z. sum_sq z (to_z w64 (of_z w64 b)) (to_z w64 (of_z w64 c)) (to_z w64 (of_z w64 d))) (to_z-of_z w64 a f)
    ∙ (ap (λ z. sum_sq a z (to_z w64 (of_z w64 c)) (to_z w64 (of_z w64 d))) (to_z-of_z w64 b g)
    ∙ (ap (λ z. sum_sq a b z (to_z w64 (of_z w64 d))) (to_z-of_z w64 c h) ∙ ap (λ z. sum_sq a b c z) (to_z-of_z w64 d k))))

pub dist_move : (xs : List Anchor) (e : Pair) (a b : Anchor) (r : ℤ) → a ≡ anchor xs e.first → b ≡ anchor xs e.second → IsNearby (anchor xs e.first) → IsNearby (anchor xs e.second)
    → r ≡ sum_sq (to_z w64 (of_z w64 a.at.x)) (to_z w64 (of_z w64 a.at.y)) (to_z w64 (of_z w64 b.at.x)) (to_z w64 (of_z w64 b.at.y)) → r ≡ dist_sq xs e
unfolding dist_sq
dist_move xs e a b r p q n m h = let n2 : IsNearby a = subst IsNearby (sym p) n in let m2 : IsNearby b = subst IsNearby (sym q) m in
    let k : r ≡ sum_sq a.at.x a.at.y b.at.x b.at.y = plain_sq r a.at.x a.at.y b.at.x b.at.y (near_fits a.at.x n2.x_low n2.x_high) (near_fits a.at.y n2.y_low n2.y_high)
    (near_fits b.at.x m2.x_low m2.x_high) (near_fits b.at.y m2.y_low m2.y_high) h in
    subst (λ (z : Anchor). r ≡ sum_sq z.at.x z.at.y (anchor xs e.second).at.x (anchor xs e.second).at.y) p (subst (λ (z : Anchor). r ≡ sum_sq a.at.x a.at.y z.at.x z.at.y) q k)

-- where the squared distances are known, the order of keys is that of pairs
pub key_less : (xs : List Anchor) (e f : Pair) (d g : ℕ) (r : Bool) → pos d ≡ dist_sq xs e → pos g ≡ dist_sq xs f
    → (IsTrue r ↔ ((d < g) ⊎ ((d ≡ g) × ((e.first < f.first) ⊎ ((e.first ≡ f.first) × (e.second < f.second)))))) → IsTrue r ↔ HasLesserKey xs e f
unfolding HasLesserKey
key_less xs e f d g r p q h = key_move r (pos d) (dist_sq xs e) (pos g) (dist_sq xs f) e.first e.second f.first f.second p q (
  λ t. elim (h.0 t) [ inl l ↦ inl (omega (arith, ints, l)) | inr k ↦ inr (ap pos k.0, k.1) ],
  λ t. elim t [ inl l ↦ h.1 (inl (omega (arith, ints, l))) | inr k ↦ h.1 (inr (omega (arith, ints, k.0), k.1)) ],
)
