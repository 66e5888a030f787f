-- Tasks in file order, and in rank order.
use Rattle.std.proofs.Common.{◌≡◌, ℕ, ◌+◌, ◌<◌, ◌≤◌, Bool, true, false, cond, List, [], ◌∷◌, ◌++◌, length, map, drop, get_or, refl, sym, ap, ◌∙◌, append_assoc, append-nil, add-one}
use Rattle.std.specs.Prelude.{nat_le}
use Rattle.std.proofs.lemmas.List.{map-append}
use Rattle.board_language.specs.declared.board.Zone.{Zone}
use Rattle.board_language.specs.Board.{Board}
use Rattle.board_language.specs.Copper.{has_layer}
use Rattle.fill_rules.specs.Tasks.{Task, layers_below, tasks_from, put_by_priority, put_all, task_zone, ranked}
use Rattle.fills.specs.declared.Task as V
use Rattle.fills.specs.Fills.{task_of}
use Rattle.knockouts.proofs.Walks.{drop_here, drop_past}
use Rattle.knockouts.proofs.Sorting.{put, all_put}

-- ---- the layers of a zone
pub layer_more : (zone layers k : ℕ) (before done new : List Task) (has : Bool) → has ≡ has_layer layers k → new ≡ done ++ cond has (record { zone = zone; layer = k } ∷ []) []
    → done ≡ before ++ map (λ (l : ℕ). record { zone = zone; layer = l }) (layers_below layers k)
    → new ≡ before ++ map (λ (l : ℕ). record { zone = zone; layer = l }) (layers_below layers (k + 1))
layer_more zone layers k before done new has same e h =
    let f : ℕ → Task = λ (l : ℕ). record { zone = zone; layer = l } in
    let own : List ℕ = cond (has_layer layers k) (k ∷ []) [] in
    e ∙ ap (λ b. done ++ cond b (f k ∷ []) []) same ∙ ap (λ ts. ts ++ cond (has_layer layers k) (f k ∷ []) []) h
    ∙ ap (λ ts. (before ++ map f (layers_below layers k)) ++ ts) (by_cases (has_layer layers k))
    ∙ append_assoc before (map f (layers_below layers k)) (map f own)
    ∙ ap (λ ts. before ++ ts) (sym (ap (λ n. map f (layers_below layers n)) (add-one k) ∙ map-append f (layers_below layers k) own))
  where
    by_cases : (b : Bool) → cond {A = List Task} b (record { zone = zone; layer = k } ∷ []) [] ≡ map (λ (l : ℕ). record { zone = zone; layer = l }) (cond b (k ∷ []) [])
    by_cases true = refl
    by_cases false = refl

-- ---- the zones of the file
pub zone_more : (count i : ℕ) (zones : List Zone) (done new all : List Task) (z : Zone) → i < length zones → z ≡ get_or zones i z
    → new ≡ done ++ map (λ (l : ℕ). record { zone = i; layer = l }) (layers_below z.layers count)
    → done ++ tasks_from count i (drop i zones) ≡ all → new ++ tasks_from count (i + 1) (drop (i + 1) zones) ≡ all
zone_more count i zones done new all z l same e h =
    let one : List Task = map (λ (l : ℕ). record { zone = i; layer = l }) (layers_below z.layers count) in
    ap (λ ts. ts ++ tasks_from count (i + 1) (drop (i + 1) zones)) e ∙ append_assoc done one (tasks_from count (i + 1) (drop (i + 1) zones))
    ∙ ap (λ k. done ++ (one ++ tasks_from count k (drop (i + 1) zones))) (add-one i)
    ∙ ap (λ zs. done ++ tasks_from count i zs) (sym (drop_here zones i z l same)) ∙ h

pub zone_none : (count i : ℕ) (zones : List Zone) (done all : List Task) → length zones ≤ i → done ++ tasks_from count i (drop i zones) ≡ all → done ≡ all
zone_none count i zones done all l h = sym (append-nil done) ∙ ap (λ zs. done ++ tasks_from count i zs) (sym (drop_past zones i l)) ∙ h

-- ---- in rank order
abbrev pub priority : Board → V.Task → ℕ
priority b t = (task_zone b (task_of t)).priority

put_same : (b : Board) (t : V.Task) (ts : List V.Task) → map task_of (put (priority b) t ts) ≡ put_by_priority b (task_of t) (map task_of ts)
put_same b t [] = refl
put_same b t (u ∷ us) = by_cases (nat_le (priority b u) (priority b t)) (put_same b t us)
  where
    by_cases : (c : Bool) → map task_of (put (priority b) t us) ≡ put_by_priority b (task_of t) (map task_of us)
        → map task_of (cond c (t ∷ u ∷ us) (u ∷ put (priority b) t us)) ≡ cond c (task_of t ∷ task_of u ∷ map task_of us) (task_of u ∷ put_by_priority b (task_of t) (map task_of us))
    by_cases true r = refl
    by_cases false r = ap (λ vs. task_of u ∷ vs) r

all_same : (b : Board) (ts : List V.Task) → map task_of (all_put (priority b) ts) ≡ put_all b (map task_of ts)
all_same b [] = refl
all_same b (t ∷ ts) = put_same b t (all_put (priority b) ts) ∙ ap (put_by_priority b (task_of t)) (all_same b ts)

-- the tasks in file order, each put before those of no greater priority, are the ranked ones
pub ranked_from : (b : Board) (count : ℕ) (names : List (List ℕ)) (zones : List Zone) (xs ys : List V.Task) → names ≡ b.layers → zones ≡ b.zones → count ≡ length names
    → map task_of xs ≡ tasks_from count 0 zones → ys ≡ all_put (priority b) xs → map task_of ys ≡ ranked b
unfolding ranked
ranked_from b count names zones xs ys en ez ec filed sorted =
    ap (map task_of) sorted ∙ all_same b xs ∙ ap (put_all b) (filed ∙ ap (λ n. tasks_from n 0 zones) (ec ∙ ap length en) ∙ ap (tasks_from (length b.layers) 0) ez)
