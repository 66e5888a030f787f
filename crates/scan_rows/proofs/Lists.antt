-- Lists of octagons, octagon by octagon.
use Rattle.std.proofs.Common.{◌≡◌, sym, subst, ◌⊎◌, inl, inr, ℕ, zero, suc, ◌+◌, ◌<◌, List, [], ◌∷◌, ◌++◌, length, get_or, take, arith}
use Rattle.std.specs.Prelude.{ℤ, ◌↔◌}
use Rattle.std.proofs.lemmas.List.{take_more}
use Rattle.plane.specs.Plane.{Bounds, Within}
use Rattle.grid_sets.specs.Points.{HasPoint, AreApart}

-- the points of a list and one more octagon
pub has_end : (os : List Bounds) (o : Bounds) (x y : ℤ) → HasPoint (os ++ o ∷ []) x y ↔ (HasPoint os x y ⊎ Within o x y)
has_end [] o x y = (λ h. elim h [ inl w ↦ inr w | inr e ↦ absurd e ], λ h. elim h [ inl e ↦ absurd e | inr w ↦ inl w ])
has_end (a ∷ os) o x y =
    let r = has_end os o x y in (
      λ h. elim h [ inl w ↦ inl (inl w) | inr k ↦ elim (r.0 k) [ inl m ↦ inl (inr m) | inr w ↦ inr w ] ],
      λ h. elim h [ inl k ↦ elim k [ inl w ↦ inl w | inr m ↦ inr (r.1 (inl m)) ] | inr w ↦ inr (r.1 (inr w)) ],
    )

pub apart_end : (os : List Bounds) (o : Bounds) → AreApart os → ((x y : ℤ) → Within o x y → HasPoint os x y → ⊥) → AreApart (os ++ o ∷ [])
apart_end [] o a f = (λ x y w h. h, tt)
apart_end (p ∷ os) o a f = (
  λ x y w h. elim ((has_end os o x y).0 h) [ inl m ↦ a.0 x y w m | inr m ↦ f x y m (inl w) ],
  apart_end os o a.1 (λ x y w h. f x y w (inr h)),
)

has_at : (os : List Bounds) (i : ℕ) (d : Bounds) (x y : ℤ) → i < length os → Within (get_or os i d) x y → HasPoint os x y
has_at [] i d x y l w = absurd (omega arith)
has_at (o ∷ os) zero d x y l w = inl w
has_at (o ∷ os) (suc i) d x y l w = inr (has_at os i d x y (omega arith) w)

pub has_item : (o : Bounds) (os : List Bounds) (i : ℕ) (x y : ℤ) → i < length os → o ≡ get_or os i o → Within o x y → HasPoint os x y
has_item o os i x y l e w = has_at os i o x y l (subst (λ (b : Bounds). Within b x y) e w)

-- an octagon of a list that is apart has no point of those before it
pub apart_here : (os : List Bounds) (i : ℕ) (d : Bounds) (x y : ℤ) → AreApart os → i < length os → HasPoint (take i os) x y → Within (get_or os i d) x y → ⊥
apart_here [] i d x y a l h w = absurd (omega arith)
apart_here (o ∷ os) zero d x y a l h w = h
apart_here (o ∷ os) (suc i) d x y a l (inl h) w = a.0 x y h (has_at os i d x y (omega arith) w)
apart_here (o ∷ os) (suc i) d x y a l (inr h) w = apart_here os i d x y a.1 (omega arith) h w

-- what holds of the octagons before one, and the one, holds of one more
pub more_by : (P : List Bounds → Type 0) (o : Bounds) (os : List Bounds) (i : ℕ) → i < length os → o ≡ get_or os i o → P (take i os ++ o ∷ []) → P (take (i + 1) os)
more_by P o os i l e h = subst P (sym (take_more os i o l)) (subst (λ (b : Bounds). P (take i os ++ b ∷ [])) e h)

pub own_here : (o : Bounds) (os : List Bounds) (i : ℕ) (x y : ℤ) → AreApart os → i < length os → o ≡ get_or os i o → Within o x y → HasPoint (take i os) x y → ⊥
own_here o os i x y a l e w h = apart_here os i o x y a l h (subst (λ (b : Bounds). Within b x y) e w)

pub none_more : (o : Bounds) (os : List Bounds) (i : ℕ) (x y : ℤ) → i < length os → o ≡ get_or os i o → (HasPoint (take i os) x y → ⊥) → (Within o x y → ⊥) → HasPoint (take (i + 1) os) x y → ⊥
none_more o os i x y l e f g =
    more_by (λ t. HasPoint t x y → ⊥) o os i l e (λ h. elim ((has_end (take i os) o x y).0 h) [ inl k ↦ f k | inr k ↦ g k ])
