-- Steps of the walks along strips, edges and corners.
use Rattle.std.proofs.Common.{◌≡◌, refl, sym, ap, ◌∙◌, subst, ℕ, zero, suc, ◌+◌, ◌-◌, ◌<◌, ◌≤◌, arith, List, [], ◌∷◌, ◌++◌, length, get_or, drop}
use Rattle.std.proofs.lemmas.List.{append-nil, append_assoc}
use Rattle.grid_num.specs.declared.Point.{Point}
use Rattle.strips.specs.declared.Strip.{Strip}
use Rattle.sheet_trace.specs.declared.edge.BoundaryEdge.{BoundaryEdge}
use Rattle.sheet_trace.specs.Edges.{left_side, right_side, strip_sides, edge_ends}
use Rattle.sheet_trace.specs.Inner.Levels.{level_between, level_parts}

drop_next : {X : Type 0} (xs : List X) (k : ℕ) (d : X) → k < length xs → drop k xs ≡ get_or xs k d ∷ drop (suc k) xs
drop_next [] k d l = absurd (omega (arith, l))
drop_next (x ∷ xs) zero d l = refl
drop_next (x ∷ xs) (suc k) d l = drop_next xs k d (omega (arith, l))

pub drop_here : {X : Type 0} (xs : List X) (k : ℕ) (d : X) → k < length xs → drop k xs ≡ get_or xs k d ∷ drop (k + 1) xs
drop_here xs k d l = let e : suc k ≡ k + 1 = omega arith in drop_next xs k d l ∙ ap (λ n. get_or xs k d ∷ drop n xs) e

pub drop_all : {X : Type 0} (xs : List X) (k : ℕ) → length xs ≤ k → drop k xs ≡ []
drop_all [] zero l = refl
drop_all [] (suc k) l = refl
drop_all (x ∷ xs) zero l = absurd (omega (arith, l))
drop_all (x ∷ xs) (suc k) l = drop_all xs k (omega (arith, l))

two_more : {X : Type 0} (out one two more all : List X) (a b : X) → one ≡ out ++ a ∷ [] → two ≡ one ++ b ∷ [] → out ++ a ∷ b ∷ more ≡ all → two ++ more ≡ all
two_more out one two more all a b e f h =
    ap (λ z. z ++ more) f ∙ append_assoc one (b ∷ []) more ∙ ap (λ z. z ++ b ∷ more) e ∙ append_assoc out (a ∷ []) (b ∷ more) ∙ h

pub sides_step : (ss : List Strip) (k : ℕ) (d : Strip) (out one two all : List BoundaryEdge) (a b : BoundaryEdge) → k < length ss
    → a ≡ left_side (get_or ss k d) → b ≡ right_side (get_or ss k d) → one ≡ out ++ a ∷ [] → two ≡ one ++ b ∷ [] → out ++ strip_sides (drop k ss) ≡ all → two ++ strip_sides (drop (k + 1) ss) ≡ all
unfolding strip_sides
sides_step ss k d out one two all a b l p q e f h =
    two_more out one two (strip_sides (drop (k + 1) ss)) all a b e f
    (ap (λ z. out ++ z ∷ b ∷ strip_sides (drop (k + 1) ss)) p ∙ (ap (λ z. out ++ left_side (get_or ss k d) ∷ z ∷ strip_sides (drop (k + 1) ss)) q ∙ (ap (λ z. out ++ strip_sides z) (sym (drop_here ss k d l)) ∙ h)))

pub sides_end : (ss : List Strip) (k : ℕ) (out all : List BoundaryEdge) → length ss ≤ k → out ++ strip_sides (drop k ss) ≡ all → out ≡ all
unfolding strip_sides
sides_end ss k out all l h = sym (append-nil out) ∙ (ap (λ z. out ++ strip_sides z) (sym (drop_all ss k l)) ∙ h)

pub ends_step : (es : List BoundaryEdge) (k : ℕ) (d : BoundaryEdge) (out one two all : List Point) (a b : Point) → k < length es
    → a ≡ (get_or es k d).start → b ≡ (get_or es k d).finish → one ≡ out ++ a ∷ [] → two ≡ one ++ b ∷ [] → out ++ edge_ends (drop k es) ≡ all → two ++ edge_ends (drop (k + 1) es) ≡ all
unfolding edge_ends
ends_step es k d out one two all a b l p q e f h =
    two_more out one two (edge_ends (drop (k + 1) es)) all a b e f
    (ap (λ z. out ++ z ∷ b ∷ edge_ends (drop (k + 1) es)) p ∙ (ap (λ z. out ++ (get_or es k d).start ∷ z ∷ edge_ends (drop (k + 1) es)) q ∙ (ap (λ z. out ++ edge_ends z) (sym (drop_here es k d l)) ∙ h)))

pub ends_end : (es : List BoundaryEdge) (k : ℕ) (out all : List Point) → length es ≤ k → out ++ edge_ends (drop k es) ≡ all → out ≡ all
unfolding edge_ends
ends_end es k out all l h = sym (append-nil out) ∙ (ap (λ z. out ++ edge_ends z) (sym (drop_all es k l)) ∙ h)

-- the level parts, from corner to corner
pub parts_step : (ss : List Strip) (cs : List Point) (k : ℕ) (d e : Point) (out new all : List BoundaryEdge) → k + 1 < length cs
    → new ≡ out ++ level_between ss (get_or cs k d) (get_or cs (k + 1) e) → out ++ level_parts ss (drop k cs) ≡ all → new ++ level_parts ss (drop (k + 1) cs) ≡ all
unfolding level_parts
parts_step ss cs k d e out new all l n h =
    let a = get_or cs k d in
    let b = get_or cs (k + 1) e in
    let q = drop_here cs (k + 1) e l in
    ap (λ z. z ++ level_parts ss (drop (k + 1) cs)) n
    ∙ (append_assoc out (level_between ss a b) (level_parts ss (drop (k + 1) cs))
    ∙ (ap (λ z. out ++ (level_between ss a b ++ level_parts ss z)) q
    ∙ (ap (λ z. out ++ level_parts ss (a ∷ z)) (sym q)
    ∙ (ap (λ z. out ++ level_parts ss z) (sym (drop_here cs k d (omega (arith, l)))) ∙ h))))

pub parts_end : (ss : List Strip) (cs : List Point) (k : ℕ) (out all : List BoundaryEdge) → length cs ≤ k + 1 → out ++ level_parts ss (drop k cs) ≡ all → out ≡ all
unfolding level_parts
parts_end ss cs k out all l h = sym (append-nil out) ∙ (ap (λ z. out ++ z) (sym (none cs k l)) ∙ h)
  where
    none : (cs : List Point) (k : ℕ) → length cs ≤ k + 1 → level_parts ss (drop k cs) ≡ []
    none [] zero l = refl
    none [] (suc k) l = refl
    none (c ∷ []) zero l = refl
    none (c ∷ d ∷ cs) zero l = absurd (omega (arith, l))
    none (c ∷ cs) (suc k) l = none cs k (omega (arith, l))

pub loop_step : (ss : List Strip) (cs : List Point) (i : ℕ) (d e : Point) (out new all : List BoundaryEdge) → 1 ≤ i → i < length cs
    → new ≡ out ++ level_between ss (get_or cs (i - 1) d) (get_or cs i e) → out ++ level_parts ss (drop (i - 1) cs) ≡ all → new ++ level_parts ss (drop (i + 1 - 1) cs) ≡ all
loop_step ss cs i d e out new all g l n h =
    let p : i - 1 + 1 ≡ i = omega (arith, g) in
    let q : i - 1 + 1 ≡ i + 1 - 1 = omega (arith, g) in
    subst (λ k. new ++ level_parts ss (drop k cs) ≡ all) q
    (parts_step ss cs (i - 1) d e out new all (omega (arith, g, l)) (subst (λ k. new ≡ out ++ level_between ss (get_or cs (i - 1) d) (get_or cs k e)) (sym p) n) h)
