-- The sides of a closed chain, one by one.
use Rattle.std.proofs.Common.{◌≡◌, ℕ, zero, suc, ◌+◌, ◌<◌, ◌≤◌, List, [], ◌∷◌, ◌++◌, length, drop, get_or, refl, sym, ap, ◌∙◌, arith, append_assoc, append-nil, true, false}
use Rattle.std.specs.Prelude.{◌==◌}
use Rattle.std.proofs.lemmas.Bool.{false≢true, eqb-true}
use Rattle.grid_num.specs.declared.Point.{Point}
use Rattle.copper_shape.specs.declared.edge.Edge.{Edge}
use Rattle.board_language.specs.Edges.{sides_to, sides_of, straight}
use Rattle.board_text.proofs.Walks.{drop_here, drop_past}

behind : (cs : List Point) (k : ℕ) (z : Point) → get_or (drop (k + 1) cs) 0 z ≡ get_or cs (k + 1) z
behind cs k z = get_drop cs (k + 1) z
  where
    get_drop : (cs : List Point) (n : ℕ) (z : Point) → get_or (drop n cs) 0 z ≡ get_or cs n z
    get_drop [] zero z = refl
    get_drop [] (suc n) z = refl
    get_drop (c ∷ cs) zero z = refl
    get_drop (c ∷ cs) (suc n) z = get_drop cs n z

step : (z : Point) (cs : List Point) (k : ℕ) (x : Point) → k < length cs → ((d : Point) → x ≡ get_or cs k d) → sides_to z (drop k cs) ≡ straight x (get_or cs (k + 1) z) ∷ sides_to z (drop (k + 1) cs)
unfolding sides_to
step z cs k x l e = ap (sides_to z) (drop_here cs k x l e) ∙ ap (λ y. straight x y ∷ sides_to z (drop (k + 1) cs)) (behind cs k z)

pub side_more : (z : Point) (cs : List Point) (k : ℕ) (x y : Point) (done all : List Edge) → k < length cs → ((d : Point) → x ≡ get_or cs k d) → y ≡ get_or cs (k + 1) z
    → done ++ sides_to z (drop k cs) ≡ all → (done ++ straight x y ∷ []) ++ sides_to z (drop (k + 1) cs) ≡ all
side_more z cs k x y done all l e n h =
    append_assoc done (straight x y ∷ []) (sides_to z (drop (k + 1) cs))
    ∙ ap (λ w. done ++ straight x w ∷ sides_to z (drop (k + 1) cs)) n ∙ ap (λ ss. done ++ ss) (sym (step z cs k x l e)) ∙ h

pub side_none : (z : Point) (cs : List Point) (k : ℕ) (done all : List Edge) → length cs ≤ k → done ++ sides_to z (drop k cs) ≡ all → done ≡ all
unfolding sides_to
side_none z cs k done all l h = sym (append-nil done) ∙ ap (λ ys. done ++ sides_to z ys) (sym (drop_past cs k l)) ∙ h

pub all_sides : (cs : List Point) → 0 < length cs → (z : Point) → z ≡ get_or cs 0 z → sides_to z cs ≡ sides_of cs
unfolding sides_of
all_sides [] l z e = absurd (omega (arith, l))
all_sides (c ∷ cs) l z e = ap (λ y. sides_to y (c ∷ cs)) e

pub no_sides : (cs : List Point) → (length cs == 0) ≡ true → [] ≡ sides_of cs
unfolding sides_of
no_sides [] e = refl
no_sides (c ∷ cs) e = absurd (omega (arith, eqb-true (length (c ∷ cs)) 0 e))

pub some_corner : (cs : List Point) → (length cs == 0) ≡ false → 0 < length cs
some_corner [] e = absurd (false≢true (sym e))
some_corner (c ∷ cs) e = omega arith
