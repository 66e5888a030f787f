-- The table of a board, row by row, out of the places of the tasks on each layer.
use Rattle.std.proofs.Common.{◌≡◌, refl, sym, ◌∙◌, ap, subst, ◌⊎◌, inl, inr, ℕ, zero, suc, ◌+◌, ◌<◌, ◌≤◌, arith, List, [], ◌∷◌, ◌++◌, length, map, get_or}
use Rattle.std.specs.Prelude.{◌↔◌, ◌==◌, Bool, true, false, cond, IsTrue}
use Rattle.std.proofs.lemmas.Bool.{cases_eq, cases_lt, eq-eqb, ne_eqb, true≢false}
use Rattle.std.proofs.lemmas.List.{get_or-map, length-map, length-append, map-append, append_assoc}
use Rattle.classes.specs.Classes.{IsOneOf}
use Rattle.board_language.specs.Board.{Board}
use Rattle.board_language.proofs.Members.{one_of_append, append_left, append_right}
use Rattle.fill_rules.specs.Tasks.{Task, ranked, task_at, layer_at, no_task}
use Rattle.fill_rules.specs.Reach.{IsReaching}
use Rattle.fills.specs.Above.{AreRanksAscending, AreReaching}
use Rattle.knockouts.specs.Reaching.{ReachesTask, ReachByRankLaw}
use Rattle.fill_pool.specs.Runs.{count_of}
use Rattle.fill_pool.specs.Inner.Tables.{AreLists, ArePlacesOn, AreByLayer, AreChosen}
use Rattle.fill_pool.proofs.Boards.{one_of_get}

-- ---- lists of ranks
one_end : (js : List ℕ) (m j : ℕ) → IsOneOf j (js ++ m ∷ []) → IsOneOf j js ⊎ (j ≡ m)
unfolding IsOneOf
one_end js m j h = elim (one_of_append j js (m ∷ []) h) [
  | inl o ↦ inl o
  | inr (inl e) ↦ inr e
  | inr (inr z) ↦ absurd z
]

end_one : (js : List ℕ) (m j : ℕ) → IsOneOf j js ⊎ (j ≡ m) → IsOneOf j (js ++ m ∷ [])
unfolding IsOneOf
end_one js m j (inl o) = append_left j js (m ∷ []) o
end_one js m j (inr e) = append_right j js (m ∷ []) (inl e)

ascending_end : (low : ℕ) (js : List ℕ) (m : ℕ) → AreRanksAscending low js → low ≤ m → ((j : ℕ) → IsOneOf j js → j < m) → AreRanksAscending low (js ++ m ∷ [])
unfolding IsOneOf
ascending_end low [] m a l h = (l, tt)
ascending_end low (j ∷ js) m a l h =
    let less = h j (inl refl) in
    (a.0, ascending_end (j + 1) js m a.1 (omega (arith, less)) (λ i o. h i (inr o)))

ascending_lower : (low least : ℕ) (ys : List ℕ) → low ≤ least → AreRanksAscending least ys → AreRanksAscending low ys
ascending_lower low least [] l a = tt
ascending_lower low least (y ∷ ys) l a = let m = a.0 in (omega (arith, l, m), a.1)

-- without one of them
ascending_less : (low : ℕ) (xs : List ℕ) (u : ℕ) (ys : List ℕ) → AreRanksAscending low (xs ++ u ∷ ys) → AreRanksAscending low (xs ++ ys)
ascending_less low [] u ys a = let m = a.0 in ascending_lower low (u + 1) ys (omega (arith, m)) a.1
ascending_less low (x ∷ xs) u ys a = (a.0, ascending_less (x + 1) xs u ys a.1)

-- ---- lists by their places
each_end : (P : ℕ → List ℕ → Type 0) (xs : List (List ℕ)) (x : List ℕ) → ((k : ℕ) → k < length xs → P k (get_or xs k [])) → P (length xs) x
    → (k : ℕ) → k < length (xs ++ x ∷ []) → P k (get_or (xs ++ x ∷ []) k [])
each_end P [] x h p zero l = p
each_end P [] x h p (suc k) l = absurd (omega (arith, l))
each_end P (y ∷ xs) x h p zero l = h zero (omega arith)
each_end P (y ∷ xs) x h p (suc k) l = each_end (λ j. P (suc j)) xs x (λ j m. h (suc j) (omega (arith, m))) p k (omega (arith, l))

pub no_lists : {X : Type 0} (P : ℕ → List ℕ → Type 0) (f : X → List ℕ) (xs : List X) → xs ≡ [] → AreLists P 0 (map f xs)
no_lists {X} P f xs e = subst (λ (ys : List X). AreLists P 0 (map f ys)) (sym e) (record { rows = refl; each = λ i l. absurd (omega (arith, l)) })

pub list_more : {X : Type 0} (P : ℕ → List ℕ → Type 0) (n : ℕ) (f : X → List ℕ) (xs new : List X) (x : X) → new ≡ xs ++ x ∷ [] → P n (f x) → AreLists P n (map f xs)
    → AreLists P (n + 1) (map f new)
list_more {X} P n f xs new x e p h =
    let all : map f new ≡ map f xs ++ f x ∷ [] = ap (map f) e ∙ map-append f xs (x ∷ []) in
    let count : length (map f xs ++ f x ∷ []) ≡ n + 1 = length-append (map f xs) (f x ∷ []) ∙ ap (λ (k : ℕ). k + 1) h.rows in
    subst (AreLists P (n + 1)) (sym all) (record {
      rows = count;
      each = λ k l.
          each_end P (map f xs) (f x) (λ j m. h.each j (omega (arith, m, h.rows))) (subst (λ (k : ℕ). P k (f x)) (sym h.rows) p) k (omega (arith, l, count));
    })

pub list_at : {X : Type 0} (P : ℕ → List ℕ → Type 0) (n : ℕ) (f : X → List ℕ) (xs : List X) (k : ℕ) (x : X) → AreLists P n (map f xs) → k < n → x ≡ get_or xs k x → P k (f x)
list_at P n f xs k x h l e =
    let m : k < length xs = let c = length-map xs f in omega (arith, l, h.rows, c) in
    subst (P k) (get_or-map f xs k x [] m ∙ ap f (sym e)) (h.each k l)

-- ---- the places of the tasks on a layer
pub no_places : (ts : List Task) (l : ℕ) (ps : List ℕ) → ps ≡ [] → ArePlacesOn ts l 0 ps
unfolding IsOneOf
no_places ts l ps e = subst (ArePlacesOn ts l 0) (sym e) (record { order = tt; same = λ j d. (λ no. absurd no, λ h. (let q = h.0 in absurd (omega (arith, q)))) })

place_more : (ts : List Task) (l n : ℕ) (ps : List ℕ) → ((d : Task) → (get_or ts n d).layer ≡ l) → ArePlacesOn ts l n ps → ArePlacesOn ts l (n + 1) (ps ++ n ∷ [])
place_more ts l n ps on h = record {
  order = ascending_end 0 ps n h.order (omega arith) (λ j o. ((h.same j (no_such 0)).0 o).0);
  same = λ j d. (
    λ o. elim (one_end ps n j o) [
      | inl p ↦ (let q = (h.same j d).0 p in let m = q.0 in (omega (arith, m), q.1))
      | inr e ↦ (omega (arith, e), subst (λ (k : ℕ). (get_or ts k d).layer ≡ l) (sym e) (on d))
    ],
    λ q. end_one ps n j (elim (cases_lt j n) [
      | inl m ↦ inl ((h.same j d).1 (m, q.1))
      | inr g ↦ (let m = q.0 in inr (omega (arith, m, g)))
    ]),
  );
}
  where
    no_such : ℕ → Task
    no_such k = record { zone = k; layer = 0 }

place_same : (ts : List Task) (l n : ℕ) (ps : List ℕ) → ((d : Task) → (get_or ts n d).layer ≡ l → ⊥) → ArePlacesOn ts l n ps → ArePlacesOn ts l (n + 1) ps
place_same ts l n ps off h = record {
  order = h.order;
  same = λ j d. (
    λ o. (let q = (h.same j d).0 o in let m = q.0 in (omega (arith, m), q.1)),
    λ q. elim (cases_lt j n) [
      | inl m ↦ (h.same j d).1 (m, q.1)
      | inr g ↦ (let m = q.0 in let e : j ≡ n = omega (arith, m, g) in absurd (off d (subst (λ (k : ℕ). (get_or ts k d).layer ≡ l) e q.1)))
    ],
  );
}

-- one more task is looked at
pub place_step : {X : Type 0} (f : X → Task) (xs : List X) (x : X) (l n : ℕ) (ps into : List ℕ) → n < length xs
    → into ≡ cond ((f (get_or xs n x)).layer == l) (ps ++ n ∷ []) ps → ArePlacesOn (map f xs) l n ps → ArePlacesOn (map f xs) l (n + 1) into
place_step f xs x l n ps into m is h =
    let t = f (get_or xs n x) in
    let at : (d : Task) → get_or (map f xs) n d ≡ t = λ d. get_or-map f xs n x d m in
    elim (cases_eq t.layer l) [
      | inl q ↦ subst (ArePlacesOn (map f xs) l (n + 1)) (sym (is ∙ ap (λ (c : Bool). cond c (ps ++ n ∷ []) ps) (eq-eqb t.layer l q)))
          (place_more (map f xs) l n ps (λ d. ap (λ (u : Task). u.layer) (at d) ∙ q) h)
      | inr ne ↦ subst (ArePlacesOn (map f xs) l (n + 1)) (sym (is ∙ ap (λ (c : Bool). cond c (ps ++ n ∷ []) ps) (ne_eqb t.layer l ne)))
          (place_same (map f xs) l n ps (λ d q. ne (sym (ap (λ (u : Task). u.layer) (at d)) ∙ q)) h)
    ]

-- each of them is looked at
pub place_within : (ts : List Task) (l n : ℕ) (ps : List ℕ) (k d : ℕ) → ArePlacesOn ts l n ps → k < length ps → get_or ps k d < n
place_within ts l n ps k d h m = ((h.same (get_or ps k d) (record { zone = 0; layer = 0 })).0 (one_of_get ps k d m)).0

-- all are looked at
pub all_places : {X : Type 0} (f : X → Task) (xs : List X) (l n k : ℕ) (ps : List ℕ) → n ≡ length xs → k ≡ length xs → ArePlacesOn (map f xs) l n ps → ArePlacesOn (map f xs) l k ps
all_places f xs l n k ps e g h = subst (λ (m : ℕ). ArePlacesOn (map f xs) l m ps) (e ∙ sym g) h

-- ---- those of a layer that reach a task
pub chosen_first : (b : Board) (i n : ℕ) (ranks chosen : List ℕ) → chosen ≡ [] → ArePlacesOn (ranked b) (layer_at b i) n ranks → AreChosen b i ranks chosen ranks
unfolding IsOneOf
chosen_first b i n ranks chosen e h =
    subst (λ (c : List ℕ). AreChosen b i ranks c ranks) (sym e) (record { order = h.order; reach = λ j no. absurd no; all = λ j r o. o })

chosen_more : (b : Board) (i u : ℕ) (ranks chosen left : List ℕ) → IsReaching b u i → AreChosen b i ranks chosen (u ∷ left) → AreChosen b i ranks (chosen ++ u ∷ []) left
chosen_more b i u ranks chosen left r h =
    let e : (chosen ++ u ∷ []) ++ left ≡ chosen ++ (u ∷ left) = append_assoc chosen (u ∷ []) left in
    record {
      order = subst (AreRanksAscending 0) (sym e) h.order;
      reach = λ j o. elim (one_end chosen u j o) [
        | inl p ↦ h.reach j p
        | inr q ↦ subst (λ (k : ℕ). IsReaching b k i) (sym q) r
      ];
      all = λ j s o. subst (IsOneOf j) (sym e) (h.all j s o);
    }

without : (u j : ℕ) (chosen left : List ℕ) → (j ≡ u → ⊥) → IsOneOf j (chosen ++ u ∷ left) → IsOneOf j (chosen ++ left)
unfolding IsOneOf
without u j chosen left ne o = elim (one_of_append j chosen (u ∷ left) o) [
  | inl p ↦ append_left j chosen left p
  | inr (inl e) ↦ absurd (ne e)
  | inr (inr p) ↦ append_right j chosen left p
]

chosen_same : (b : Board) (i u : ℕ) (ranks chosen left : List ℕ) → (IsReaching b u i → ⊥) → AreChosen b i ranks chosen (u ∷ left) → AreChosen b i ranks chosen left
chosen_same b i u ranks chosen left r h = record {
  order = ascending_less 0 chosen u left h.order;
  reach = h.reach;
  all = λ j s o. without u j chosen left (λ e. r (subst (λ (k : ℕ). IsReaching b k i) e s)) (h.all j s o);
}

chosen_by : (b : Board) (i u : ℕ) (ranks chosen left : List ℕ) (w : Bool) → IsTrue w ↔ IsReaching b u i → AreChosen b i ranks chosen (u ∷ left)
    → AreChosen b i ranks (cond w (chosen ++ u ∷ []) chosen) left
chosen_by b i u ranks chosen left true w h = chosen_more b i u ranks chosen left (w.0 refl) h
chosen_by b i u ranks chosen left false w h = chosen_same b i u ranks chosen left (λ r. true≢false (sym (w.1 r))) h

-- the next of them is looked at
pub chosen_step : (b : Board) (i u : ℕ) (ranks chosen into rest left : List ℕ) (w : Bool) → rest ≡ u ∷ left → IsTrue w ↔ IsReaching b u i
    → into ≡ cond w (chosen ++ u ∷ []) chosen → AreChosen b i ranks chosen rest → AreChosen b i ranks into left
chosen_step b i u ranks chosen into rest left w e r is h =
    subst (λ (c : List ℕ). AreChosen b i ranks c left) (sym is) (chosen_by b i u ranks chosen left w r (subst (AreChosen b i ranks chosen) e h))

ascending_front : (low : ℕ) (xs ys : List ℕ) → AreRanksAscending low (xs ++ ys) → AreRanksAscending low xs
ascending_front low [] ys a = tt
ascending_front low (x ∷ xs) ys a = (a.0, ascending_front (x + 1) xs ys a.1)

from_low : (low : ℕ) (js : List ℕ) → AreRanksAscending low js → (x : ℕ) → IsOneOf x js → low ≤ x
unfolding IsOneOf
from_low low [] a x o = absurd o
from_low low (j ∷ js) (l, a) x (inl e) = omega (arith, l, e)
from_low low (j ∷ js) (l, a) x (inr o) = let r : j + 1 ≤ x = from_low (j + 1) js a x o in omega (arith, l, r)

-- what stands from a place of the list on is no less than what stands there
from_place : (low : ℕ) (xs : List ℕ) (u : ℕ) (ys : List ℕ) → AreRanksAscending low (xs ++ u ∷ ys) → (x : ℕ) → IsOneOf x (u ∷ ys) → u ≤ x
from_place low [] u ys a x o = from_low u (u ∷ ys) (omega arith, a.1) x o
from_place low (y ∷ xs) u ys a x o = from_place (y + 1) xs u ys a.1 x o

-- no more of them reach the task
chosen_whole : (b : Board) (i n : ℕ) (ranks chosen rest : List ℕ) → i < n → ArePlacesOn (ranked b) (layer_at b i) n ranks → AreChosen b i ranks chosen rest
    → ((j : ℕ) → IsOneOf j rest → i ≤ j) → AreReaching b i chosen
unfolding task_at
chosen_whole b i n ranks chosen rest l p h past = record {
  order = ascending_front 0 chosen rest h.order;
  same = λ j. (
    h.reach j,
    λ r. (let a = r.above in
        elim (one_of_append j chosen rest (h.all j r ((p.same j (no_task b)).1 (omega (arith, a, l), r.layer)))) [
          | inl o ↦ o
          | inr o ↦ absurd (let q = past j o in omega (arith, a, q))
        ]),
  );
}

-- the next of them is no more above the task
pub chosen_enough : (b : Board) (i n u : ℕ) (ranks chosen rest left : List ℕ) → rest ≡ u ∷ left → i ≤ u → i < n → ArePlacesOn (ranked b) (layer_at b i) n ranks
    → AreChosen b i ranks chosen rest → AreReaching b i chosen
chosen_enough b i n u ranks chosen rest left e m l p h =
    let k = subst (AreChosen b i ranks chosen) e h in
    chosen_whole b i n ranks chosen (u ∷ left) l p k (λ j o. let q = from_place 0 chosen u left k.order j o in omega (arith, m, q))

-- all are looked at
pub chosen_all : (b : Board) (i n : ℕ) (ranks chosen rest : List ℕ) → rest ≡ [] → i < n → ArePlacesOn (ranked b) (layer_at b i) n ranks → AreChosen b i ranks chosen rest
    → AreReaching b i chosen
unfolding IsOneOf
chosen_all b i n ranks chosen rest e l p h = chosen_whole b i n ranks chosen [] l p (subst (AreChosen b i ranks chosen) e h) (λ j o. absurd o)

-- the ranks on the layer of a task
pub ranks_on_layer : {X Y : Type 0} (f : X → Task) (g : Y → List ℕ) (b : Board) (ts : List X) (lists : List Y) (n i : ℕ) (x : X) (y : Y) → map f ts ≡ ranked b → i < length ts
    → AreByLayer (map f ts) n (map g lists) → (f (get_or ts i x)).layer < n → y ≡ get_or lists (f (get_or ts i x)).layer y → ArePlacesOn (ranked b) (layer_at b i) (length ts) (g y)
unfolding task_at
ranks_on_layer f g b ts lists n i x y e l h m is =
    let at : task_at b i ≡ f (get_or ts i x) = ap (λ (us : List Task). get_or us i (no_task b)) (sym e) ∙ get_or-map f ts i x (no_task b) l in
    let own : ArePlacesOn (map f ts) (f (get_or ts i x)).layer (length (map f ts)) (g y) = list_at (λ k ps. ArePlacesOn (map f ts) k (length (map f ts)) ps) n g lists (f (get_or ts i x)).layer y h m is in
    subst (λ (us : List Task). ArePlacesOn us (layer_at b i) (length ts) (g y)) e
    (subst (λ (t : Task). ArePlacesOn (map f ts) t.layer (length ts) (g y)) (sym at)
    (subst (λ (k : ℕ). ArePlacesOn (map f ts) (f (get_or ts i x)).layer k (g y)) (length-map ts f) own))

-- what is told of two tasks of the list is told of their ranks
pub reaching_is : {X : Type 0} (f : X → Task) (b : Board) (ts : List X) (j i : ℕ) (x y : X) (w : Bool) → ReachByRankLaw → map f ts ≡ ranked b → j < length ts → i < length ts
    → IsTrue w ↔ ReachesTask b (f (get_or ts j x)) (f (get_or ts i y)) → IsTrue w ↔ IsReaching b j i
unfolding task_at
reaching_is f b ts j i x y w law e lj li h =
    let n : length ts ≡ count_of b = sym (length-map ts f) ∙ ap length e in
    let at : (k : ℕ) (z : _) → k < length ts → f (get_or ts k z) ≡ task_at b k =
    λ k z l. sym (get_or-map f ts k z (no_task b) l) ∙ ap (λ (us : List Task). get_or us k (no_task b)) e in
    let same = law b j i (omega (arith, lj, n)) (omega (arith, li, n)) in
    let both : IsTrue w ↔ ReachesTask b (task_at b j) (task_at b i) =
    subst (λ (t : Task). IsTrue w ↔ ReachesTask b t (task_at b i)) (at j x lj) (subst (λ (t : Task). IsTrue w ↔ ReachesTask b (f (get_or ts j x)) t) (at i y li) h) in
    (λ t. same.1 (both.0 t), λ r. both.1 (same.0 r))
