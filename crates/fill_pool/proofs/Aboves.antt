-- The fills above a task are one list.
use Rattle.std.proofs.Common.{◌≡◌, refl, ◌∙◌, ap, subst, ℕ, ◌+◌, ◌≤◌, inl, inr, arith, List, [], ◌∷◌}
use Rattle.classes.specs.Classes.{IsOneOf}
use Rattle.board_language.specs.Board.{Board}
use Rattle.fill_rules.specs.Made.{Made}
use Rattle.fills.proofs.Same.{one_fill}
use Rattle.fills.specs.Above.{AreRanksAscending, AreFillsOfTasks}
use Rattle.fill_pool.specs.Laws.{OneAboveLaw}

from_low : (low : ℕ) (js : List ℕ) → AreRanksAscending low js → (x : ℕ) → IsOneOf x js → low ≤ x
unfolding IsOneOf
from_low low [] a x o = absurd o
from_low low (j ∷ js) (l, a) x (inl e) = omega (arith, l, e)
from_low low (j ∷ js) (l, a) x (inr o) = let r : j + 1 ≤ x = from_low (j + 1) js a x o in omega (arith, l, r)

-- one of the list begins it, or is past its first
first_or_past : (low : ℕ) (j : ℕ) (js : List ℕ) → AreRanksAscending low (j ∷ js) → (x : ℕ) → IsOneOf x (j ∷ js) → j ≤ x
unfolding IsOneOf
first_or_past low j js (l, a) x (inl e) = omega (arith, e)
first_or_past low j js (l, a) x (inr o) = let r : j + 1 ≤ x = from_low (j + 1) js a x o in omega (arith, r)

first_is : (j : ℕ) (js : List ℕ) → IsOneOf j (j ∷ js)
unfolding IsOneOf
first_is j js = inl refl

none_is : (x : ℕ) → IsOneOf x [] → [] ≡ x ∷ []
unfolding IsOneOf
none_is x o = absurd o

behind : (x j : ℕ) (js : List ℕ) → IsOneOf x js → IsOneOf x (j ∷ js)
unfolding IsOneOf
behind x j js o = inr o

-- what is past the first of a list is behind it
past_first : (x j : ℕ) (js : List ℕ) → j + 1 ≤ x → IsOneOf x (j ∷ js) → IsOneOf x js
unfolding IsOneOf
past_first x j js l (inl e) = absurd (omega (arith, l, e))
past_first x j js l (inr o) = o

one_order : (low least : ℕ) (js ks : List ℕ) → AreRanksAscending low js → AreRanksAscending least ks
    → ((x : ℕ) → IsOneOf x js → IsOneOf x ks) → ((x : ℕ) → IsOneOf x ks → IsOneOf x js) → js ≡ ks
one_order low least [] [] a c h g = refl
one_order low least [] (k ∷ ks) a c h g = absurd (let e : [] ≡ k ∷ [] = none_is k (g k (first_is k ks)) in cc)
one_order low least (j ∷ js) [] a c h g = absurd (let e : [] ≡ j ∷ [] = none_is j (h j (first_is j js)) in cc)
one_order low least (j ∷ js) (k ∷ ks) a c h g =
    let up : k ≤ j = first_or_past least k ks c j (h j (first_is j js)) in
    let down : j ≤ k = first_or_past low j js a k (g k (first_is k ks)) in
    let e : j ≡ k = omega (arith, up, down) in
    let t : js ≡ ks = one_order (j + 1) (k + 1) js ks a.1 c.1
    (λ x o. past_first x k ks (let l : j + 1 ≤ x = from_low (j + 1) js a.1 x o in omega (arith, l, up)) (h x (behind x j js o)))
    (λ x o. past_first x j js (let l : k + 1 ≤ x = from_low (k + 1) ks c.1 x o in omega (arith, l, down)) (g x (behind x k ks o))) in
    ap (λ (n : ℕ). n ∷ js) e ∙ ap (λ (ns : List ℕ). k ∷ ns) t

one_list : (b : Board) (js : List ℕ) (fs gs : List Made) → AreFillsOfTasks b js fs → AreFillsOfTasks b js gs → fs ≡ gs
one_list b [] [] [] h w = refl
one_list b [] [] (g ∷ gs) h w = absurd w
one_list b [] (f ∷ fs) gs h w = absurd h
one_list b (j ∷ js) [] gs h w = absurd h
one_list b (j ∷ js) (f ∷ fs) [] h w = absurd w
one_list b (j ∷ js) (f ∷ fs) (g ∷ gs) h w =
    ap (λ (m : Made). m ∷ fs) (one_fill b j f g h.0 w.0) ∙ ap (λ (ms : List Made). g ∷ ms) (one_list b js fs gs h.1 w.1)

pub one_above : OneAboveLaw
one_above b i fs gs h w =
    let e = one_order 0 0 h.tasks w.tasks h.reaching.order w.reaching.order
    (λ x o. (w.reaching.same x).1 ((h.reaching.same x).0 o)) (λ x o. (h.reaching.same x).1 ((w.reaching.same x).0 o)) in
    one_list b w.tasks fs gs (subst (λ (js : List ℕ). AreFillsOfTasks b js fs) e h.each) w.each
