-- Walking over items: what each of them gives, where it gives something.
use Rattle.std.proofs.Common.{◌≡◌, ℕ, ◌+◌, ◌<◌, ◌≤◌, Bool, true, false, cond, List, [], ◌∷◌, ◌++◌, length, map, drop, filter, filter_map, get_or, refl, sym, ap, ◌∙◌, append_assoc, append-nil, Option, Some, None}
use Rattle.std.specs.Prelude.{codes}
use Rattle.std.specs.List.{cons_option}
use Rattle.sexpr_text.specs.Items.{Item, children_of, is_headed}
use Rattle.board_text.specs.Items.{declared_net, declared_nets}
use Rattle.board_text.proofs.Walks.{drop_here, drop_past}

pub pick_more : {X W : Type 0} (f : X → Option W) (xs : List X) (k : ℕ) (done all : List W) (x : X) (w : W) → k < length xs → ((d : X) → x ≡ get_or xs k d) → Some w ≡ f x
    → done ++ filter_map f (drop k xs) ≡ all → (done ++ w ∷ []) ++ filter_map f (drop (k + 1) xs) ≡ all
pick_more f xs k done all x w l e s h =
    append_assoc done (w ∷ []) (filter_map f (drop (k + 1) xs))
    ∙ ap (λ o. done ++ cons_option o (filter_map f (drop (k + 1) xs))) s
    ∙ ap (λ ys. done ++ filter_map f ys) (sym (drop_here xs k x l e)) ∙ h

pub pick_same : {X W : Type 0} (f : X → Option W) (xs : List X) (k : ℕ) (done all : List W) (x : X) → k < length xs → ((d : X) → x ≡ get_or xs k d) → None ≡ f x
    → done ++ filter_map f (drop k xs) ≡ all → done ++ filter_map f (drop (k + 1) xs) ≡ all
pick_same f xs k done all x l e s h =
    ap (λ o. done ++ cons_option o (filter_map f (drop (k + 1) xs))) s
    ∙ ap (λ ys. done ++ filter_map f ys) (sym (drop_here xs k x l e)) ∙ h

pub pick_all : {X W : Type 0} (f : X → Option W) (xs : List X) (k : ℕ) (done all : List W) → length xs ≤ k → done ++ filter_map f (drop k xs) ≡ all → done ≡ all
pick_all f xs k done all l h = sym (append-nil done) ∙ ap (λ ys. done ++ filter_map f ys) (sym (drop_past xs k l)) ∙ h

-- what those that pass give
picked : {X W : Type 0} (p : X → Bool) (f : X → Option W) (xs : List X) → filter_map (λ x. cond (p x) (f x) None) xs ≡ filter_map f (filter p xs)
picked p f [] = refl
picked p f (x ∷ xs) = by_test (p x) (picked p f xs)
  where
    by_test : (b : Bool) → filter_map (λ x. cond (p x) (f x) None) xs ≡ filter_map f (filter p xs)
        → cons_option (cond b (f x) None) (filter_map (λ x. cond (p x) (f x) None) xs) ≡ filter_map f (cond b (x ∷ filter p xs) (filter p xs))
    by_test true e = ap (cons_option (f x)) e
    by_test false e = e

pub picked_map : {X Y W : Type 0} (f : Y → Option W) (g : X → Y) (xs : List X) → filter_map f (map g xs) ≡ filter_map (λ x. f (g x)) xs
picked_map f g [] = refl
picked_map f g (x ∷ xs) = ap (cons_option (f (g x))) (picked_map f g xs)

-- what each item of the board declares, where it is a net
pub nets_are : (bytes : List ℕ) (board : Item) → filter_map (λ item. cond (is_headed bytes (codes "net") item) (declared_net bytes item) None) (children_of board) ≡ declared_nets bytes board
unfolding declared_nets
nets_are bytes board = picked (is_headed bytes (codes "net")) (declared_net bytes) (children_of board)
