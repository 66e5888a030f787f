-- The list of nodes, one after another.
use Rattle.std.proofs.Common.{◌≡◌, refl, sym, ◌∙◌, ap, subst, ℕ, suc, ◌+◌, ◌<◌, ◌≤◌, arith, Bool, true, false, cond, List, [], ◌∷◌, ◌++◌, length, map, get_or, drop, append_assoc, append-nil, add-one}
use Rattle.std.specs.Prelude.{flat_map, ◌==◌}
use Rattle.std.proofs.lemmas.Bool.Decides.{Decides-eqb}
use Rattle.std.proofs.lemmas.List.{map-append, drop_more, drop_all, length-map, get_or-map}
use Rattle.board_language.specs.Board.{Board}
use Rattle.fill_rules.specs.Tasks.{Task, no_task, task_zone, task_at, ranked}
use Rattle.fill_rules.specs.Nodes.{Node, part, passing_places, firsts_from, has_net, part_nodes, made_of}
use Rattle.fill_rules.specs.Made.{Made, no_fill}
use Rattle.clusters.specs.Filed.{AreFiled}
use Rattle.clusters.proofs.Ranks.{made_at}

-- a node that is added where it is wanted, seen through a map
pub added_if : {V : Type 0} (f : V → Node) (old new : List V) (v : V) (wanted : Bool) → new ≡ old ++ cond wanted (v ∷ []) []
    → map f new ≡ map f old ++ cond wanted (f v ∷ []) []
added_if f old new v wanted e = ap (map f) e ∙ map-append f old (cond wanted (v ∷ []) []) ∙ ap (λ (ns : List Node). map f old ++ ns) (moved wanted)
  where
    moved : (b : Bool) → map f (cond b (v ∷ []) []) ≡ cond b (f v ∷ []) []
    moved true = refl
    moved false = refl

pick : (b : Bool) (x : Node) (done rest : List Node) → (done ++ cond b (x ∷ []) []) ++ rest ≡ done ++ cond b (x ∷ rest) rest
pick true x done rest = append_assoc done (x ∷ []) rest
pick false x done rest = append_assoc done [] rest

inside : (b : Bool) (g : ℕ → Node) (k : ℕ) (ks : List ℕ) → cond b (g k ∷ map g ks) (map g ks) ≡ map g (cond b (k ∷ ks) ks)
inside true g k ks = refl
inside false g k ks = refl

-- the item at the next place
pub place_more : {X : Type 0} (passes : X → Bool) (g : ℕ → Node) (xs : List X) (k : ℕ) (x : X) (wanted : Bool) (done new all : List Node) → k < length xs → x ≡ get_or xs k x
    → wanted ≡ passes x → new ≡ done ++ cond wanted (g k ∷ []) [] → done ++ map g (passing_places passes k (drop k xs)) ≡ all
    → new ++ map g (passing_places passes (k + 1) (drop (k + 1) xs)) ≡ all
place_more passes g xs k x wanted done new all l same w e h =
    let rest : List ℕ = passing_places passes (suc k) (drop (k + 1) xs) in
    ap (λ (ns : List Node). ns ++ map g (passing_places passes (k + 1) (drop (k + 1) xs))) (e ∙ ap (λ (b : Bool). done ++ cond b (g k ∷ []) []) w)
    ∙ ap (λ (n : ℕ). (done ++ cond (passes x) (g k ∷ []) []) ++ map g (passing_places passes n (drop (k + 1) xs))) (add-one k)
    ∙ pick (passes x) (g k) done (map g rest)
    ∙ ap (λ (ns : List Node). done ++ ns) (inside (passes x) g k rest)
    ∙ ap (λ (ys : List _). done ++ map g (passing_places passes k ys)) (sym (drop_more xs k x l ∙ ap (λ y. y ∷ drop (k + 1) xs) (sym same)))
    ∙ h

pub places_end : {X : Type 0} (passes : X → Bool) (g : ℕ → Node) (xs : List X) (k : ℕ) (done all : List Node) → length xs ≤ k
    → done ++ map g (passing_places passes k (drop k xs)) ≡ all → done ≡ all
places_end passes g xs k done all l h = sym (append-nil done) ∙ ap (λ (ys : List _). done ++ map g (passing_places passes k ys)) (sym (drop_all k xs l)) ∙ h

-- the next piece, where it begins a part
pub first_more : (g : ℕ → Node) (xs : List ℕ) (k : ℕ) (x : ℕ) (wanted : Bool) (done new all : List Node) → k < length xs → x ≡ get_or xs k 0
    → wanted ≡ (x == k) → new ≡ done ++ cond wanted (g k ∷ []) [] → done ++ map g (firsts_from k (drop k xs)) ≡ all
    → new ++ map g (firsts_from (k + 1) (drop (k + 1) xs)) ≡ all
first_more g xs k x wanted done new all l same w e h =
    let rest : List ℕ = firsts_from (suc k) (drop (k + 1) xs) in
    ap (λ (ns : List Node). ns ++ map g (firsts_from (k + 1) (drop (k + 1) xs))) (e ∙ ap (λ (b : Bool). done ++ cond b (g k ∷ []) []) w)
    ∙ ap (λ (n : ℕ). (done ++ cond (x == k) (g k ∷ []) []) ++ map g (firsts_from n (drop (k + 1) xs))) (add-one k)
    ∙ pick (x == k) (g k) done (map g rest)
    ∙ ap (λ (ns : List Node). done ++ ns) (inside (x == k) g k rest)
    ∙ ap (λ (ys : List ℕ). done ++ map g (firsts_from k ys)) (sym (drop_more xs k 0 l ∙ ap (λ (y : ℕ). y ∷ drop (k + 1) xs) (sym same)))
    ∙ h

pub firsts_end : (g : ℕ → Node) (xs : List ℕ) (k : ℕ) (done all : List Node) → length xs ≤ k → done ++ map g (firsts_from k (drop k xs)) ≡ all → done ≡ all
firsts_end g xs k done all l h = sym (append-nil done) ∙ ap (λ (ys : List ℕ). done ++ map g (firsts_from k ys)) (sym (drop_all k xs l)) ∙ h

-- where a piece is the first of its own, it may be told by its label
pub first_node : (g : ℕ → Node) (x k : ℕ) (wanted : Bool) → wanted ≡ (x == k) → cond wanted (g x ∷ []) [] ≡ cond wanted (g k ∷ []) []
first_node g x k wanted e = go wanted e
  where
    go : (b : Bool) → b ≡ (x == k) → cond b (g x ∷ []) [] ≡ cond b (g k ∷ []) []
    go true f = ap (λ (n : ℕ). g n ∷ []) ((Decides-eqb x k).0 (sym f))
    go false f = refl

-- the parts of the next fill
pub fill_nodes : (b : Board) (fills : List Made) (ranks : List ℕ) (k r : ℕ) (f : Made) (done new all : List Node) → AreFiled b ranks → k < length ranks → r ≡ get_or ranks k 0
    → f ≡ get_or fills r no_fill → new ≡ done ++ cond (has_net (task_zone b (task_at b r)).net) (map (part (task_at b r)) (firsts_from 0 f.parts)) []
    → done ++ flat_map (part_nodes b fills) (drop k (map (task_at b) ranks)) ≡ all → new ++ flat_map (part_nodes b fills) (drop (k + 1) (map (task_at b) ranks)) ≡ all
fill_nodes b fills ranks k r f done new all h l er ef en i =
    let ts : List Task = map (task_at b) ranks in
    let lt : k < length ts = (let m = length-map ranks (task_at b) in omega (arith, l, m)) in
    let et : get_or ts k (no_task b) ≡ task_at b r = get_or-map (task_at b) ranks k 0 (no_task b) l ∙ ap (task_at b) (sym er) in
    let em : f ≡ made_of b fills (task_at b r) = ef ∙ sym (made_at b fills r (subst (λ (n : ℕ). n < length (ranked b)) (sym er) (h.each k 0 l))) in
    let own : new ≡ done ++ part_nodes b fills (task_at b r) =
    en ∙ ap (λ (m : Made). done ++ cond (has_net (task_zone b (task_at b r)).net) (map (part (task_at b r)) (firsts_from 0 m.parts)) []) em in
    ap (λ (ns : List Node). ns ++ flat_map (part_nodes b fills) (drop (k + 1) ts)) own
    ∙ append_assoc done (part_nodes b fills (task_at b r)) (flat_map (part_nodes b fills) (drop (k + 1) ts))
    ∙ ap (λ (us : List Task). done ++ flat_map (part_nodes b fills) us) (sym (drop_more ts k (no_task b) lt ∙ ap (λ (t : Task). t ∷ drop (k + 1) ts) et))
    ∙ i

pub fills_end : (b : Board) (fills : List Made) (ranks : List ℕ) (k : ℕ) (done all : List Node) → length ranks ≤ k
    → done ++ flat_map (part_nodes b fills) (drop k (map (task_at b) ranks)) ≡ all → done ≡ all
fills_end b fills ranks k done all l h =
    sym (append-nil done) ∙ ap (λ (us : List Task). done ++ flat_map (part_nodes b fills) us)
    (sym (drop_all k (map (task_at b) ranks) (let m = length-map ranks (task_at b) in omega (arith, l, m)))) ∙ h

-- the next piece, where the node is told by its label
pub first_step : {V : Type 0} (f : V → Node) (g : ℕ → Node) (h : ℕ → V) (xs : List ℕ) (k : ℕ) (old new : List V) (all : List Node) → ((n : ℕ) → f (h n) ≡ g n) → k < length xs
    → new ≡ old ++ cond (get_or xs k 0 == k) (h (get_or xs k 0) ∷ []) [] → map f old ++ map g (firsts_from k (drop k xs)) ≡ all
    → map f new ++ map g (firsts_from (k + 1) (drop (k + 1) xs)) ≡ all
first_step f g h xs k old new all same l e i =
    let x : ℕ = get_or xs k 0 in
    first_more g xs k x (x == k) (map f old) (map f new) all l refl refl
    (added_if f old new (h x) (x == k) e ∙ ap (λ (n : Node). map f old ++ cond (x == k) (n ∷ []) []) (same x) ∙ ap (λ (ns : List Node). map f old ++ ns) (first_node g x k (x == k) refl))
    i
