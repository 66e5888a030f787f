-- Walls and needs that an octagon enters or keeps, one by one.
use Rattle.std.proofs.Common.{◌≡◌, refl, sym, subst, inl, inr, ℕ, zero, suc, ◌<◌, List, [], ◌∷◌, length, get_or, map, arith}
use Rattle.std.specs.Prelude.{ℤ, ◌≤ℤ◌, ◌↔◌, Bool, IsTrue, Any}
use Rattle.std.specs.List.{All}
use Rattle.std.proofs.lemmas.List.Elements.{All-nil, All-cons}
use Rattle.plane.specs.Plane.{Bounds, Within, StrictlyWithin, IsTight, AreNear, IsMeeting}
use Rattle.classes.specs.Classes.{IsOneOf}
use Rattle.board_language.proofs.Members.{all_one_of}
use Rattle.fill_rules.specs.Needs.{Need}
use Rattle.fill_rules.proofs.Members.{some_one_of}
use Rattle.components.specs.Kept.{IsMet}
use Rattle.centres.specs.Walls.{EntersNone}
use Rattle.centres.specs.Needs.{KeepsAll, LiesIn}
use Rattle.centres.specs.Laws.{IsSpokeSized}
use Rattle.centres.proofs.Home.{lies_in_law}
use Rattle.centres.proofs.Listed.{one_any}
use Rattle.centres.proofs.Spokes.{entered_law}
use Rattle.knockouts.specs.Obstacles.{need_of, IsNeedInRange}
use Rattle.knockouts.specs.declared.obstacles.Need.{Need as Obstacle}

-- what holds of each member holds of all
one_all : {A : Type 0} (P : A → Type 0) (xs : List A) → ((x : A) → IsOneOf x xs → P x) → All P xs
unfolding IsOneOf
one_all P [] f = All-nil P
one_all P (x ∷ xs) f = All-cons P x xs (f x (inl refl)) (one_all P xs (λ y i. f y (inr i)))

-- ---- walls
pub entering : (walls : List Bounds) (o inner : Bounds) → IsSpokeSized o → IsTight inner → ((x y : ℤ) → Within inner x y ↔ StrictlyWithin o x y) → All IsTight walls
    → All (λ w. AreNear 1 inner w → ⊥) walls ↔ EntersNone walls o
unfolding EntersNone
entering walls o inner wide tight same ts = (
  λ a w i e. all_one_of (λ v. AreNear 1 inner v → ⊥) walls w a i ((entered_law.near o inner w wide tight same (all_one_of IsTight walls w ts i)).0 e),
  λ n. one_all (λ w. AreNear 1 inner w → ⊥) walls (λ w i e. n w i ((entered_law.near o inner w wide tight same (all_one_of IsTight walls w ts i)).1 e)),
)

pub some_inside : (o : Bounds) → IsSpokeSized o → ((x y : ℤ) → StrictlyWithin o x y → ⊥) → ⊥
some_inside o w n = let s = entered_law.some o w in n s.0 s.1 s.2

-- ---- needs
pub need_at : (needs : List Obstacle) (i : ℕ) (n : Obstacle) → i < length needs → n ≡ get_or needs i n → All IsNeedInRange (map need_of needs) → IsNeedInRange (need_of n)
need_at [] i n l e h = absurd (omega arith)
need_at (m ∷ ms) zero n l e h = subst (λ (t : Obstacle). IsNeedInRange (need_of t)) (sym e) (h 0 (need_of n) (omega arith))
need_at (m ∷ ms) (suc i) n l e h = need_at ms i n (omega arith) e (λ k d lt. h (suc k) d (omega arith))

mapped : (P : Need → Type 0) (needs : List Obstacle) → All (λ n. P (need_of n)) needs → All P (map need_of needs)
mapped P [] h = All-nil P
mapped P (m ∷ ms) h = All-cons P (need_of m) (map need_of ms) (h 0 m (omega arith)) (mapped P ms (λ k d lt. h (suc k) d (omega arith)))

unmapped : (P : Need → Type 0) (needs : List Obstacle) → All P (map need_of needs) → All (λ n. P (need_of n)) needs
unmapped P [] h = All-nil (λ n. P (need_of n))
unmapped P (m ∷ ms) h = All-cons (λ n. P (need_of n)) m ms (h 0 (need_of m) (omega arith)) (unmapped P ms (λ k d lt. h (suc k) d (omega arith)))

pub keeping : (needs : List Obstacle) (o : Bounds) → All (λ n. AreNear n.need o n.oct → ⊥) needs ↔ KeepsAll (map need_of needs) o
unfolding KeepsAll
keeping needs o = (
  λ a n i. all_one_of (λ m. AreNear m.need o m.oct → ⊥) (map need_of needs) n (mapped (λ m. AreNear m.need o m.oct → ⊥) needs a) i,
  λ k. unmapped (λ m. AreNear m.need o m.oct → ⊥) needs (one_all (λ m. AreNear m.need o m.oct → ⊥) (map need_of needs) (λ n i. k n i)),
)

-- ---- meeting
pub met : (os : List Bounds) (o : Bounds) → Any (λ l. IsMeeting l o) os ↔ IsMet os o
met os o = (λ a. some_one_of (λ l. IsMeeting l o) os a, λ m. one_any (λ l. IsMeeting l o) os m.0 m.1 m.2)

-- ---- lying in a frame
pub lying_by : (r x y s d : Bool) (o f : Bounds) → IsTight o → IsTrue r ↔ (IsTrue x × IsTrue y × IsTrue s × IsTrue d)
    → IsTrue x ↔ ((f.x0 ≤ℤ o.x0) × (o.x1 ≤ℤ f.x1)) → IsTrue y ↔ ((f.y0 ≤ℤ o.y0) × (o.y1 ≤ℤ f.y1))
    → IsTrue s ↔ ((f.s0 ≤ℤ o.s0) × (o.s1 ≤ℤ f.s1)) → IsTrue d ↔ ((f.d0 ≤ℤ o.d0) × (o.d1 ≤ℤ f.d1))
    → IsTrue r ↔ LiesIn o f
lying_by r x y s d o f t all a b e g = (
  λ h. let k = all.0 h in
      (lies_in_law o f t).1
      (record { x0 = (a.0 k.0).0; x1 = (a.0 k.0).1; y0 = (b.0 k.1).0; y1 = (b.0 k.1).1; s0 = (e.0 k.2).0; s1 = (e.0 k.2).1; d0 = (g.0 k.3).0; d1 = (g.0 k.3).1 }),
  λ h. let i = (lies_in_law o f t).0 h in all.1 (a.1 (i.x0, i.x1), b.1 (i.y0, i.y1), e.1 (i.s0, i.s1), g.1 (i.d0, i.d1)),
)
