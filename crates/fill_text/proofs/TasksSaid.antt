-- What is said of tasks and nodes, as it is read.
use Rattle.std.proofs.Common.{◌≡◌, sym, ◌∙◌, ap, ℕ, suc, ◌+◌, ◌<◌, ◌≤◌, List, [], ◌∷◌, ◌++◌, length, map, get_or, take, add-one}
use Rattle.std.proofs.lemmas.List.{take_all, map_push, take_more, get_or-map}
use Rattle.board_language.specs.Board.{Board}
use Rattle.rings.specs.Rings.{Traced, not_traced}
use Rattle.fill_rules.specs.Tasks.{Task, ranked, task_at}
use Rattle.fill_rules.specs.Made.{Made, no_fill}
use Rattle.fill_rules.specs.Nodes.{Node, rank_in}
use Rattle.fills.specs.Fills.{AreBoardFills}
use Rattle.output_rules.specs.declared.report.Copper.{Copper}
use Rattle.output_rules.specs.declared.report.Copper.TheVariants.{Part}
use Rattle.output_rules.specs.declared.report.NodeLine.{NodeLine}
use Rattle.output_rules.specs.Output.{layer_name}
use Rattle.output_rules.specs.Reported.{task_line, part_number, copper_of, node_line}
use Rattle.fill_rules.specs.Clusters.{node_net}
use Rattle.clusters.proofs.Joined.{net_read}
use Rattle.clusters.proofs.Ranks.{rank_of_rank, made_at, made_any}
use Rattle.fill_text.specs.Inner.Lines.{line_of_fill}
use Rattle.fill_text.specs.Inner.Numbers.{number_of_part}

-- the line of a fill is that of its task
pub line_is : (b : Board) (fills : List Made) (traced : List Traced) (r : ℕ) (f : Made) → r < length (ranked b) → f ≡ get_or fills r no_fill → f.task ≡ task_at b r
    → line_of_fill b f (get_or traced r not_traced) ≡ task_line b fills traced (task_at b r)
line_is b fills traced r f l e t =
    ap (λ (u : Task). line_of_fill b (record { task = u; pieces = f.pieces; spokes = f.spokes; parts = f.parts }) (get_or traced r not_traced)) t
    ∙ ap (λ (k : ℕ). line_of_fill b (record { task = task_at b r; pieces = f.pieces; spokes = f.spokes; parts = f.parts }) (get_or traced k not_traced)) (sym (rank_of_rank b r l))
    ∙ ap (λ (m : Made). line_of_fill b (record { task = task_at b r; pieces = m.pieces; spokes = m.spokes; parts = m.parts }) (get_or traced (rank_in (task_at b r) (ranked b)) not_traced))
    (e ∙ sym (made_at b fills r l))

-- one item more of a list that is made item by item
pub item_more : {A B : Type 0} (F : A → B) (xs : List A) (k : ℕ) (d : A) (y : B) (done new : List B) → k < length xs → done ≡ map F (take k xs) → y ≡ F (get_or xs k d) → new ≡ done ++ y ∷ []
    → new ≡ map F (take (k + 1) xs)
item_more F xs k d y done new l h e n =
    n ∙ ap (λ (z : List _). z ++ y ∷ []) h ∙ ap (λ z. map F (take k xs) ++ z ∷ []) e ∙ sym (map_push F (take k xs) (get_or xs k d)) ∙ ap (map F) (sym (take_more xs k d l))

pub items_end : {A B : Type 0} (F : A → B) (xs : List A) (k : ℕ) (done : List B) → length xs ≤ k → done ≡ map F (take k xs) → done ≡ map F xs
items_end F xs k done l h = h ∙ ap (map F) (take_all k xs l)

-- the number of a part, by the fill's rank
pub number_at : (b : Board) (fills : List Made) → AreBoardFills b fills → (r first : ℕ) → number_of_part (get_or fills r no_fill).parts first ≡ part_number b fills (task_at b r) first
number_at b fills h r first = ap (λ (m : Made). number_of_part m.parts first) (sym (made_any b fills h r))

-- what is said of a part
pub part_said : (b : Board) (fills : List Made) → AreBoardFills b fills → (r first zone number : ℕ) (layer : List ℕ) (t : Task) → t ≡ task_at b r → zone ≡ t.zone + 1 → layer ≡ layer_name b t.layer
    → number ≡ number_of_part (get_or fills r no_fill).parts first
    → Part zone layer number ≡ Part (suc (task_at b r).zone) (layer_name b (task_at b r).layer) (part_number b fills (task_at b r) first)
part_said b fills h r first zone number layer t et ez el en =
    ap (λ (z : ℕ). Part z layer number) (ez ∙ ap (λ (u : Task). u.zone + 1) et ∙ add-one (task_at b r).zone)
    ∙ ap (λ (z : List ℕ). Part (suc (task_at b r).zone) z number) (el ∙ ap (λ (u : Task). layer_name b u.layer) et)
    ∙ ap (Part (suc (task_at b r).zone) (layer_name b (task_at b r).layer)) (en ∙ number_at b fills h r first)

-- what is said of a node
pub node_said : {V : Type 0} (b : Board) (fills : List Made) (f : V → Node) (vs : List V) (ns : List Node) (nets : List ℕ) (k : ℕ) (v : V) (copper : Copper) (net : ℕ)
    → map f vs ≡ ns → nets ≡ map (node_net b) ns → k < length vs → v ≡ get_or vs k v → net ≡ get_or nets k 0 → copper ≡ copper_of b fills (f v)
    → ◌≡◌ {A = NodeLine} (record { copper = copper; net = net }) (node_line b fills (get_or ns k (f v)))
node_said b fills f vs ns nets k v copper net en e l ev ew ec =
    let at : f v ≡ get_or ns k (f v) = ap f ev ∙ sym (get_or-map f vs k v (f v) l) ∙ ap (λ (z : List Node). get_or z k (f v)) en in
    ap (λ (z : Copper). record { copper = z; net = net }) (ec ∙ ap (copper_of b fills) at)
    ∙ ap (λ (z : ℕ). record { copper = copper_of b fills (get_or ns k (f v)); net = z })
    (ew ∙ net_read (node_net b) f vs nets k v (e ∙ ap (map (node_net b)) (sym en)) l ∙ ap (λ (u : _). node_net b (f u)) (sym ev) ∙ ap (node_net b) at)
