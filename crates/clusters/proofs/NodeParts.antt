-- What is read of nodes.
use Rattle.std.proofs.Common.{◌≡◌, refl, sym, ◌∙◌, ap, subst, ℕ, ◌+◌, ◌^◌, ◌<◌, ◌≤◌, arith, List, [], ◌∷◌, ◌++◌, length, map, get_or, take}
use Rattle.std.specs.Prelude.{Option, pos}
use Rattle.std.proofs.lemmas.List.{get_or_past, get_or_default, map-append}
use Rattle.std.proofs.lemmas.Option.{slice_get_past, slice_get-get_or}
use Rattle.plane.specs.Plane.{Bounds}
use Rattle.copper_shape.specs.Shapes.{Copper}
use Rattle.board_language.specs.declared.board.Track.{Track}
use Rattle.board_language.specs.declared.board.Zone.{Zone}
use Rattle.board_language.specs.Board.{Board}
use Rattle.fill_rules.specs.Tasks.{Task, ranked, task_at, task_zone, no_zone}
use Rattle.fill_rules.specs.Made.{Made, no_fill}
use Rattle.fill_rules.specs.Nodes.{track, part}
use Rattle.fill_rules.specs.Clusters.{option_or_zero, node_net, node_layers, labelled, part_pieces, octagon_copper}
use Rattle.fills.specs.Fills.{AreBoardFills}
use Rattle.grid_num.specs.declared.Point.{Point}
use Rattle.clusters.specs.Inner.Corners.{IsLeastCorner}
use Rattle.clusters.proofs.Ranks.{task_past, made_any}
use Rattle.clusters.proofs.Corners.{labelled_yes, labelled_no}

-- ---- tracks

pub track_none : (b : Board) (ts : List Track) (k : ℕ) → ts ≡ b.tracks → length ts ≤ k → 0 ≡ node_layers b (track k)
unfolding node_layers
track_none b ts k e l = sym (ap (option_or_zero (λ (t : Track). 2 ^ t.layer)) (slice_get_past b.tracks k (subst (λ (z : List Track). length z ≤ k) e l)))

pub track_layer : (b : Board) (ts : List Track) (k : ℕ) (d : Track) → ts ≡ b.tracks → k < length ts → 2 ^ (get_or ts k d).layer ≡ node_layers b (track k)
unfolding node_layers
track_layer b ts k d e l =
    ap (λ (z : List Track). 2 ^ (get_or z k d).layer) e
    ∙ sym (ap (option_or_zero (λ (t : Track). 2 ^ t.layer)) (slice_get-get_or b.tracks k d (subst (λ (z : List Track). k < length z) e l)))

-- ---- parts

pub part_net : (b : Board) (t : Task) (r first : ℕ) (z : Zone) → z ≡ task_zone b t → t ≡ task_at b r → z.net ≡ node_net b (part (task_at b r) first)
unfolding node_net
part_net b t r first z e f = ap (λ (y : Zone). y.net) e ∙ ap (λ (u : Task). (task_zone b u).net) f

pub part_net_past : (b : Board) (r first : ℕ) → length (ranked b) ≤ r → 0 ≡ node_net b (part (task_at b r) first)
unfolding node_net task_zone
part_net_past b r first l =
    sym (ap (λ (t : Task). (get_or b.zones t.zone no_zone).net) (task_past b r l) ∙ ap (λ (z : Zone). z.net) (get_or_past b.zones (length b.zones) no_zone (omega arith)))

pub part_layer : (b : Board) (t : Task) (r first : ℕ) → t ≡ task_at b r → 2 ^ t.layer ≡ node_layers b (part (task_at b r) first)
unfolding node_layers
part_layer b t r first e = ap (λ (u : Task). 2 ^ u.layer) e

pub part_layer_past : (b : Board) (r first : ℕ) → length (ranked b) ≤ r → 1 ≡ node_layers b (part (task_at b r) first)
unfolding node_layers
part_layer_past b r first l = sym (ap (λ (t : Task). 2 ^ t.layer) (task_past b r l))

module _ (b : Board) (fills : List Made) (h : AreBoardFills b fills) where
  -- the pieces of a part, by the fill's rank
  pub part_is : (r first : ℕ) (f : Made) → f ≡ get_or fills r no_fill → part_pieces b fills (task_at b r) first ≡ labelled first f.pieces f.parts
  unfolding part_pieces
  part_is r first f e = ap (λ (m : Made). labelled first m.pieces m.parts) (made_any b fills h r ∙ sym e)

  pub part_past : (r first : ℕ) → length fills ≤ r → part_pieces b fills (task_at b r) first ≡ []
  part_past r first l = part_is r first no_fill (sym (get_or_past fills r no_fill l))

-- ---- the copper of pieces with a label

-- any octagon
pub bare : Bounds
bare = record { x0 = pos 0; x1 = pos 0; y0 = pos 0; y1 = pos 0; s0 = pos 0; s1 = pos 0; d0 = pos 0; d1 = pos 0 }

module _ (first : ℕ) (os : List Bounds) (labels : List ℕ) (k : ℕ) (o : Bounds) (l : k < length os) (m : k < length labels) (eo : o ≡ get_or os k o) (shapes new : List Copper)
    (h : shapes ≡ map octagon_copper (labelled first (take k os) (take k labels))) where
  pub copper_yes : (c : Copper) → get_or labels k 0 ≡ first → c ≡ octagon_copper o → new ≡ shapes ++ c ∷ []
      → new ≡ map octagon_copper (labelled first (take (k + 1) os) (take (k + 1) labels))
  copper_yes c e ec en =
      en ∙ ap (λ (z : Copper). shapes ++ z ∷ []) ec ∙ ap (λ (z : List Copper). z ++ octagon_copper o ∷ []) h
      ∙ sym (map-append octagon_copper (labelled first (take k os) (take k labels)) (o ∷ []))
      ∙ ap (map octagon_copper) (sym (labelled_yes first os labels k o (get_or labels k 0) l m eo refl e))

pub copper_no : (first : ℕ) (os : List Bounds) (labels : List ℕ) (k : ℕ) (d : Bounds) (shapes : List Copper) → k < length os → k < length labels
    → (get_or labels k 0 ≡ first → ⊥) → shapes ≡ map octagon_copper (labelled first (take k os) (take k labels))
    → shapes ≡ map octagon_copper (labelled first (take (k + 1) os) (take (k + 1) labels))
copper_no first os labels k d shapes l m n h =
    h ∙ ap (map octagon_copper) (sym (labelled_no first os labels k (get_or os k d) (get_or labels k 0) l m (get_or_default os k d (get_or os k d) l) refl n))

-- the least corner of a part, as its pieces are read
pub part_least : (b : Board) (fills : List Made) → AreBoardFills b fills → (r first : ℕ) (f : Made) (pieces : List Bounds) (parts : List ℕ) (m : Option Point) → f ≡ get_or fills r no_fill
    → pieces ≡ f.pieces → parts ≡ f.parts → IsLeastCorner (labelled first pieces parts) m → IsLeastCorner (part_pieces b fills (task_at b r) first) m
part_least b fills h r first f pieces parts m e ep el w =
    subst (λ (os : List Bounds). IsLeastCorner os m)
    (ap (λ (os : List Bounds). labelled first os parts) ep ∙ ap (λ (ls : List ℕ). labelled first f.pieces ls) el ∙ sym (part_is b fills h r first f e)) w
