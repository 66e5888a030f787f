-- Tasks and their ranks.
use Rattle.std.proofs.Common.{◌≡◌, refl, sym, ◌∙◌, ap, subst, ℕ, zero, suc, ◌+◌, ◌-◌, ◌*◌, ◌<◌, ◌≤◌, ◌⊎◌, inl, inr, arith, Bool, true, false, cond, List, [], ◌∷◌, ◌++◌, length, map, get_or, set, drop, replicate, length-set, append_assoc, append-nil, add-one}
use Rattle.std.specs.Prelude.{◌&&◌, ◌==◌}
use Rattle.std.proofs.lemmas.Bool.{true≢false, cases_lt}
use Rattle.std.proofs.lemmas.Bool.Decides.{Decides-eqb}
use Rattle.std.proofs.lemmas.List.{get_or-set_same, get_or-set_other, get_or-replicate, length-replicate, drop_more, drop_all, get_or_past, get_or_default, map-append}
use Rattle.std.proofs.lemmas.List.Elements.{All-append, All-nil, All-cons}
use Rattle.classes.specs.Classes.{IsOneOf}
use Rattle.islands.proofs.Members.{one_at}
use Rattle.board_language.specs.declared.board.Zone.{Zone}
use Rattle.board_language.specs.Board.{Board}
use Rattle.board_language.specs.Copper.{has_layer}
use Rattle.board_language.specs.Facts.{IsSoundBoard}
use Rattle.fill_rules.specs.Tasks.{Task, no_zone, no_task, layers_below, tasks_from, task_zone, ranked, task_at}
use Rattle.fill_rules.specs.Ranking.{IsTask, Outranks, IsSortedBy}
use Rattle.fill_rules.specs.Nodes.{rank_in, made_of}
use Rattle.fill_rules.specs.Made.{Made, no_fill}
use Rattle.fill_rules.proofs.Ranking.{ranked_is}
use Rattle.fills.specs.Fills.{AreBoardFills}
use Rattle.clusters.specs.Filed.{AreRanks, tasks_of}
use Rattle.clusters.specs.Inner.Ranks.{IsRankTable}

-- ---- the place of a task in a list

abbrev is_same : Task → Task → Bool
is_same t u = (t.zone == u.zone) && (t.layer == u.layer)

pub one_of_two : (b : Bool) → (b ≡ true) ⊎ (b ≡ false)
one_of_two true = inl refl
one_of_two false = inr refl

both : (a b : Bool) → (a && b) ≡ true → (a ≡ true) × (b ≡ true)
both true b e = (refl, e)
both false b e = absurd (true≢false (sym e))

both_back : (a b : Bool) → a ≡ true → b ≡ true → (a && b) ≡ true
both_back a b e f = subst (λ (x : Bool). (x && b) ≡ true) (sym e) f

is_same_task : (t u : Task) → is_same t u ≡ true → t ≡ u
is_same_task t u e =
    let h = both (t.zone == u.zone) (t.layer == u.layer) e in
    ap (λ (z : ℕ). record { zone = z; layer = t.layer }) ((Decides-eqb t.zone u.zone).0 h.0)
    ∙ ap (λ (l : ℕ). record { zone = u.zone; layer = l }) ((Decides-eqb t.layer u.layer).0 h.1)

is_itself : (t : Task) → is_same t t ≡ true
is_itself t = both_back (t.zone == t.zone) (t.layer == t.layer) ((Decides-eqb t.zone t.zone).1 refl) ((Decides-eqb t.layer t.layer).1 refl)

is_apart : (t u : Task) → (t ≡ u → ⊥) → is_same t u ≡ false
is_apart t u n = elim (one_of_two (is_same t u)) [ inl e ↦ absurd (n (is_same_task t u e)) | inr e ↦ e ]

rank_first : (t u : Task) (us : List Task) → is_same t u ≡ true → rank_in t (u ∷ us) ≡ 0
rank_first t u us e = ap (λ (b : Bool). cond b zero (suc (rank_in t us))) e

rank_later : (t u : Task) (us : List Task) → is_same t u ≡ false → rank_in t (u ∷ us) ≡ suc (rank_in t us)
rank_later t u us e = ap (λ (b : Bool). cond b zero (suc (rank_in t us))) e

-- a task of the list stands at its place
pub rank_there : (t : Task) (ts : List Task) (d : Task) → IsOneOf t ts → (rank_in t ts < length ts) × (get_or ts (rank_in t ts) d ≡ t)
unfolding IsOneOf
rank_there t [] d i = absurd i
rank_there t (u ∷ us) d i = elim (one_of_two (is_same t u)) [
  | inl e ↦ (let r = rank_first t u us e in (omega (arith, r), ap (λ (k : ℕ). get_or (u ∷ us) k d) r ∙ sym (is_same_task t u e)))
  | inr e ↦ elim i [
    | inl f ↦ absurd (true≢false (sym (subst (λ x. is_same t x ≡ true) f (is_itself t)) ∙ e))
    | inr j ↦ (let h = rank_there t us d j in let r = rank_later t u us e in (let a = h.0 in omega (arith, r, a), ap (λ (k : ℕ). get_or (u ∷ us) k d) r ∙ h.1))
  ]
]

-- and in a sorted list each place is that of its task
pub rank_again : (R : Task → Task → Type 0) → ((t : Task) → R t t → ⊥) → (ts : List Task) (d : Task) → IsSortedBy R ts → (k : ℕ) → k < length ts → rank_in (get_or ts k d) ts ≡ k
unfolding IsSortedBy
rank_again R irr [] d s k l = absurd (omega (arith, l))
rank_again R irr (u ∷ us) d s zero l = rank_first u u us (is_itself u)
rank_again R irr (u ∷ us) d s (suc k) l =
    let m : k < length us = omega (arith, l) in
    let t = get_or us k d in
    let r : R u t = s.0 t (one_at us k d m) in
    let h = rank_again R irr us d s.1 k m in
    let e = rank_later t u us (is_apart t u (λ f. irr u (subst (R u) f r))) in
    omega (arith, e, h)

-- ---- the ranks of a board's tasks

not_itself : (b : Board) (t : Task) → Outranks b t t → ⊥
not_itself b t h = absurd (omega (arith, h))

pub rank_of_task : (b : Board) (t : Task) → IsTask b t → (rank_in t (ranked b) < length (ranked b)) × (task_at b (rank_in t (ranked b)) ≡ t)
unfolding task_at
rank_of_task b t h = rank_there t (ranked b) (no_task b) (((ranked_is b).members t).1 h)

pub rank_of_rank : (b : Board) (r : ℕ) → r < length (ranked b) → rank_in (task_at b r) (ranked b) ≡ r
unfolding task_at
rank_of_rank b r l = rank_again (Outranks b) (not_itself b) (ranked b) (no_task b) (ranked_is b).sorted r l

pub task_of_rank : (b : Board) (r : ℕ) → r < length (ranked b) → IsTask b (task_at b r)
unfolding task_at
task_of_rank b r l = ((ranked_is b).members (task_at b r)).0 (one_at (ranked b) r (no_task b) l)

-- the fill of a task by its rank
pub made_at : (b : Board) (fills : List Made) (r : ℕ) → r < length (ranked b) → made_of b fills (task_at b r) ≡ get_or fills r no_fill
made_at b fills r l = ap (λ (k : ℕ). get_or fills k no_fill) (rank_of_rank b r l)

pub fill_task : (b : Board) (fills : List Made) → AreBoardFills b fills → (r : ℕ) (f : Made) → r < length fills → f ≡ get_or fills r no_fill → f.task ≡ task_at b r
fill_task b fills h r f l e = ap (λ (m : Made). m.task) e ∙ (h.each r l).task

pub fill_is_task : (b : Board) (fills : List Made) → AreBoardFills b fills → (r : ℕ) (f : Made) → r < length fills → f ≡ get_or fills r no_fill → IsTask b f.task
fill_is_task b fills h r f l e = subst (IsTask b) (sym (fill_task b fills h r f l e)) (task_of_rank b r (let c = h.count in omega (arith, c, l)))

-- ---- past the last rank

rank_none : (t : Task) (ts : List Task) → (IsOneOf t ts → ⊥) → rank_in t ts ≡ length ts
unfolding IsOneOf
rank_none t [] n = refl
rank_none t (u ∷ us) n =
    let e = rank_later t u us (is_apart t u (λ f. n (inl f))) in
    let h = rank_none t us (λ i. n (inr i)) in
    omega (arith, e, h)

pub task_past : (b : Board) (r : ℕ) → length (ranked b) ≤ r → task_at b r ≡ no_task b
unfolding task_at
task_past b r l = get_or_past (ranked b) r (no_task b) l

no_task_rank : (b : Board) → rank_in (no_task b) (ranked b) ≡ length (ranked b)
no_task_rank b = rank_none (no_task b) (ranked b) (λ i. let t = (((ranked_is b).members (no_task b)).0 i).zone in absurd (omega (arith, t)))

-- the fill by its rank, none past the last
pub made_any : (b : Board) (fills : List Made) → AreBoardFills b fills → (r : ℕ) → made_of b fills (task_at b r) ≡ get_or fills r no_fill
made_any b fills h r = elim (cases_lt r (length (ranked b))) [
  | inl l ↦ made_at b fills r l
  | inr l ↦ (let c = h.count in
      ap (λ (t : Task). get_or fills (rank_in t (ranked b)) no_fill) (task_past b r l)
      ∙ ap (λ (k : ℕ). get_or fills k no_fill) (no_task_rank b)
      ∙ (get_or_past fills (length (ranked b)) no_fill (omega (arith, c)) ∙ sym (get_or_past fills r no_fill (omega (arith, c, l)))))
]

-- ---- the table

pub record IsTableFrom (ts : List Task) (zones k : ℕ) (table : List ℕ) : Type 0 where
  pub many : length table ≡ zones * 32
  pub at : (z l : ℕ) → z < zones → l < 32 → get_or table (z * 32 + l) 0 ≡ k + rank_in (record { zone = z; layer = l }) (drop k ts)

within_table : (z l zones : ℕ) → z < zones → l < 32 → z * 32 + l < zones * 32
within_table z l zones a b = omega (arith, a, b)

pub table_none : (ts : List Task) (zones count : ℕ) (table : List ℕ) → count ≡ length ts → table ≡ replicate (zones * 32) count → IsTableFrom ts zones count table
table_none ts zones count table e f = record {
  many = ap (λ (z : List ℕ). length z) f ∙ length-replicate (zones * 32) count;
  at = λ z l a b.
      let g : get_or table (z * 32 + l) 0 ≡ count =
      ap (λ (t : List ℕ). get_or t (z * 32 + l) 0) f ∙ get_or-replicate (zones * 32) (z * 32 + l) count 0 (within_table z l zones a b) in
      let d : drop count ts ≡ [] = drop_all count ts (omega (arith, e)) in
      let r : rank_in (record { zone = z; layer = l }) (drop count ts) ≡ 0 = ap (rank_in (record { zone = z; layer = l })) d in
      omega (arith, g, r);
}

one_place : (z l y m : ℕ) → l < 32 → m < 32 → z * 32 + l ≡ y * 32 + m → (z ≡ y) × (l ≡ m)
one_place z l y m a b e = (omega (arith, a, b, e), omega (arith, a, b, e))

module _ (ts : List Task) (zones k : ℕ) (table : List ℕ) (t : Task) (l : k < length ts) (e : t ≡ get_or ts k t) (tz : t.zone < zones) (tl : t.layer < 32)
    (h : IsTableFrom ts zones (k + 1) table) where
  abbrev next : List ℕ
  next = set table (t.zone * 32 + t.layer) k

  abbrev asked : ℕ → ℕ → Task
  asked z m = record { zone = z; layer = m }

  rest : (u : Task) → rank_in u (drop k ts) ≡ rank_in u (t ∷ drop (k + 1) ts)
  rest u = ap (rank_in u) (drop_more ts k t l ∙ ap (λ (x : Task). x ∷ drop (k + 1) ts) (sym e))

  next_at : (z m : ℕ) → z < zones → m < 32 → get_or next (z * 32 + m) 0 ≡ k + rank_in (asked z m) (drop k ts)
  next_at z m a b = elim (one_of_two (is_same (asked z m) t)) [
    | inl s ↦ (
        let f = is_same_task (asked z m) t s in
        let g : z * 32 + m ≡ t.zone * 32 + t.layer = ap (λ (x : Task). x.zone * 32 + x.layer) f in
        let i : get_or next (z * 32 + m) 0 ≡ k = ap (λ (n : ℕ). get_or next n 0) g ∙ get_or-set_same table (t.zone * 32 + t.layer) k 0
        (let w = within_table t.zone t.layer zones tz tl in let c = h.many in omega (arith, w, c)) in
        let r = rest (asked z m) in
        let q = rank_first (asked z m) t (drop (k + 1) ts) s in
        omega (arith, i, r, q))
    | inr s ↦ (
        let n : z * 32 + m ≡ t.zone * 32 + t.layer → ⊥ = λ g. (let w = one_place z m t.zone t.layer b tl g in
        true≢false (sym (both_back (z == t.zone) (m == t.layer) ((Decides-eqb z t.zone).1 w.0) ((Decides-eqb m t.layer).1 w.1)) ∙ s)) in
        let i : get_or next (z * 32 + m) 0 ≡ get_or table (z * 32 + m) 0 = get_or-set_other table (t.zone * 32 + t.layer) (z * 32 + m) k 0 n in
        let r = rest (asked z m) in
        let q = rank_later (asked z m) t (drop (k + 1) ts) s in
        let p = h.at z m a b in
        omega (arith, i, r, q, p))
  ]

  pub table_more : IsTableFrom ts zones k next
  table_more = record { many = length-set table (t.zone * 32 + t.layer) k ∙ h.many; at = next_at }

pub table_end : (b : Board) (k : ℕ) (table : List ℕ) → k ≡ 0 → IsTableFrom (ranked b) (length b.zones) k table → IsRankTable b table
table_end b k table e h = record { many = h.many; at = λ z l a c. let g = subst (λ n. get_or table (z * 32 + l) 0 ≡ n + rank_in (record { zone = z; layer = l }) (drop n (ranked b))) e (h.at z l a c) in omega (arith, g) }

-- ---- the tasks of a zone, and of all

pub layer_added : (f : ℕ → Task) (layers k : ℕ) (before done : List Task) (new : List Task) (has : Bool) → has ≡ has_layer layers k
    → new ≡ done ++ cond has (f k ∷ []) [] → done ≡ before ++ map f (layers_below layers k) → new ≡ before ++ map f (layers_below layers (k + 1))
layer_added f layers k before done new has same e h =
    e ∙ ap (λ (b : Bool). done ++ cond b (f k ∷ []) []) same ∙ ap (λ (ts : List Task). ts ++ cond (has_layer layers k) (f k ∷ []) []) h
    ∙ append_assoc before (map f (layers_below layers k)) (cond (has_layer layers k) (f k ∷ []) [])
    ∙ ap (λ (ts : List Task). before ++ ts)
    (ap (λ (ts : List Task). map f (layers_below layers k) ++ ts) (moved (has_layer layers k)) ∙ sym (map-append f (layers_below layers k) (cond (has_layer layers k) (k ∷ []) []))
    ∙ ap (λ (n : ℕ). map f (layers_below layers n)) (sym (add-one k)))
  where
    moved : (b : Bool) → cond {A = List Task} b (f k ∷ []) [] ≡ map f (cond b (k ∷ []) [])
    moved true = refl
    moved false = refl

pub zone_added : (b : Board) (z : ℕ) (done new all : List Task) → z < length b.zones → new ≡ done ++ tasks_of b z
    → done ++ tasks_from (length b.layers) z (drop z b.zones) ≡ all → new ++ tasks_from (length b.layers) (z + 1) (drop (z + 1) b.zones) ≡ all
zone_added b z done new all l e h =
    ap (λ (ts : List Task). ts ++ tasks_from (length b.layers) (z + 1) (drop (z + 1) b.zones)) e
    ∙ append_assoc done (tasks_of b z) (tasks_from (length b.layers) (z + 1) (drop (z + 1) b.zones))
    ∙ ap (λ (k : ℕ). done ++ (tasks_of b z ++ tasks_from (length b.layers) k (drop (z + 1) b.zones))) (add-one z)
    ∙ ap (λ (zs : List Zone). done ++ tasks_from (length b.layers) z zs) (sym (drop_more b.zones z no_zone l)) ∙ h

pub zones_end : (b : Board) (z : ℕ) (done all : List Task) → length b.zones ≤ z → done ++ tasks_from (length b.layers) z (drop z b.zones) ≡ all → done ≡ all
zones_end b z done all l h = sym (append-nil done) ∙ ap (λ (zs : List Zone). done ++ tasks_from (length b.layers) z zs) (sym (drop_all z b.zones l)) ∙ h

-- the rank that the table tells of one of the zone's layers
pub rank_in_table : (b : Board) (table : List ℕ) (z l : ℕ) (r : ℕ) → IsRankTable b table → z < length b.zones → l < length b.layers → l < 32
    → has_layer (get_or b.zones z no_zone).layers l ≡ true → r ≡ get_or table (z * 32 + l) 0
    → (r < length (ranked b)) × (task_at b r ≡ record { zone = z; layer = l })
unfolding task_zone
rank_in_table b table z l r h lz ll few has e =
    let t : Task = record { zone = z; layer = l } in
    let k : IsTask b t = record { zone = lz; layer = ll; has = has } in
    let w = rank_of_task b t k in
    let f : r ≡ rank_in t (ranked b) = e ∙ h.at z l lz few in
    (subst (λ n. n < length (ranked b)) (sym f) w.0, ap (task_at b) f ∙ w.1)

-- one layer more of a zone
pub layer_step : (b : Board) (table : List ℕ) (z l r layers : ℕ) (has : Bool) (before : List Task) (done new : List ℕ) → IsRankTable b table → z < length b.zones → l < length b.layers → l < 32
    → layers ≡ (get_or b.zones z no_zone).layers → has ≡ has_layer layers l → r ≡ get_or table (z * 32 + l) 0 → new ≡ done ++ cond has (r ∷ []) []
    → map (task_at b) done ≡ before ++ map (λ (m : ℕ). record { zone = z; layer = m }) (layers_below layers l) → AreRanks b done
    → (map (task_at b) new ≡ before ++ map (λ (m : ℕ). record { zone = z; layer = m }) (layers_below layers (l + 1))) × AreRanks b new
layer_step b table z l r layers has before done new h lz ll few el eh er en e each = (
  layer_added (λ (m : ℕ). record { zone = z; layer = m }) layers l before (map (task_at b) done) (map (task_at b) new) has eh (ap (map (task_at b)) en ∙ told.0) e,
  subst (AreRanks b) (sym en) told.1,
)
  where
    added : (t : Bool) → t ≡ has → (map (task_at b) (done ++ cond t (r ∷ []) []) ≡ map (task_at b) done ++ cond t (record { zone = z; layer = l } ∷ []) []) × AreRanks b (done ++ cond t (r ∷ []) [])
    added true f =
        let w = rank_in_table b table z l r h lz ll few (ap (λ (n : ℕ). has_layer n l) (sym el) ∙ sym (f ∙ eh)) er in (
          map-append (task_at b) done (r ∷ []) ∙ ap (λ (t : Task). map (task_at b) done ++ t ∷ []) w.1,
          All-append (λ (n : ℕ). n < length (ranked b)) done (r ∷ []) each (All-cons (λ (n : ℕ). n < length (ranked b)) r [] w.0 (All-nil (λ (n : ℕ). n < length (ranked b)))),
        )
    added false f = (map-append (task_at b) done [], subst (AreRanks b) (sym (append-nil done)) each)

    told : (map (task_at b) (done ++ cond has (r ∷ []) []) ≡ map (task_at b) done ++ cond has (record { zone = z; layer = l } ∷ []) []) × AreRanks b (done ++ cond has (r ∷ []) [])
    told = added has refl

-- one rank more in the table
pub table_step : (b : Board) (fills : List Made) → IsSoundBoard b → AreBoardFills b fills → (rank : ℕ) (table : List ℕ) (z l : ℕ) (f : Made) → 0 < rank → rank ≤ length fills
    → record { zone = z; layer = l } ≡ f.task → f ≡ get_or fills (rank - 1) no_fill → IsTableFrom (ranked b) (length b.zones) rank table
    → (z * 32 + l < length table) × IsTableFrom (ranked b) (length b.zones) (rank - 1) (set table (z * 32 + l) (rank - 1))
unfolding task_at
table_step b fills s h rank table z l f some most et ef g =
    let k : ℕ = rank - 1 in
    let lk : k < length fills = omega (arith, some, most) in
    let c = h.count in
    let is : IsTask b (record { zone = z; layer = l }) = subst (IsTask b) (sym et) (fill_is_task b fills h k f lk ef) in
    let at : record { zone = z; layer = l } ≡ task_at b k = et ∙ fill_task b fills h k f lk ef in
    let lz : z < length b.zones = is.zone in
    let ll : l < 32 = (let a = is.layer in let m = s.layers in omega (arith, a, m)) in
    let e : rank ≡ k + 1 = omega (arith, some) in
    let lr : k < length (ranked b) = omega (arith, c, lk) in (
      (let w = within_table z l (length b.zones) lz ll in let m = g.many in omega (arith, w, m)),
      table_more (ranked b) (length b.zones) k table (record { zone = z; layer = l }) lr
          (at ∙ get_or_default (ranked b) k (no_task b) (record { zone = z; layer = l }) lr) lz ll (subst (λ (n : ℕ). IsTableFrom (ranked b) (length b.zones) n table) e g),
    )
