-- The patches that stand for the copper of nodes: one for each hull of each shape, where the stacks of a part are its shapes. Points of
-- copper are in halves of a nanometre, hulls in units.
use Rattle.std.specs.Prelude.{◌≡◌, ◌↔◌, ℕ, ◌<◌, List, [], ◌∷◌, map, slice_get, Some}
use Rattle.plane.specs.Plane.{PlanePoint, Bounds, In}
use Rattle.touching.specs.Core.{InCopper}
use Rattle.hulls.specs.Hulls.{in_units}
use Rattle.copper_shape.specs.Shapes.{Copper}
use Rattle.classes.specs.Classes.{IsOneOf}
use Rattle.board_language.specs.Board.{Board}
use Rattle.board_language.specs.Copper.{hulls_round}
use Rattle.fill_rules.specs.Needs.{track_copper, via_copper}
use Rattle.fill_rules.specs.Made.{Made}
use Rattle.fill_rules.specs.Nodes as rules
use Rattle.fill_rules.specs.Clusters.{option_list, labelled, octagon_copper, node_net, node_layers, shapes_of}
use Rattle.clusters.specs.declared.Node.{Node}
use Rattle.clusters.specs.declared.Node.TheVariants.{Pad, Track, Via, Part}
use Rattle.clusters.specs.declared.fill_stacks.FillStacks.{FillStacks}
use Rattle.clusters.specs.declared.patch.Patch.{Patch}
use Rattle.clusters.specs.declared.patches.Owner.{Owner}
use Rattle.clusters.specs.Inner.Links.{ArePatchesInOrder}

-- the shapes that stand for the copper of a node: a pad, a track and a via are one, a part is each of its stacks
unfoldable pub node_shapes : Board → List FillStacks → Node → List Copper
node_shapes b stacks (Pad k) = option_list (λ p. p.shape ∷ []) (slice_get b.pads k)
node_shapes b stacks (Track k) = option_list (λ t. track_copper t ∷ []) (slice_get b.tracks k)
node_shapes b stacks (Via k) = option_list (λ v. via_copper v ∷ []) (slice_get b.vias k)
node_shapes b stacks (Part fill first) =
    option_list (λ (s : FillStacks). map octagon_copper (labelled first s.stacks.items s.parts.items)) (slice_get stacks fill)

-- the point is in one of the shapes
abbrev pub IsInShapes : List Copper → PlanePoint → Type 0
IsInShapes cs q = (c : Copper) × IsOneOf c cs × InCopper c.core c.radius q

-- together the shapes have the same points, at every scale
unfoldable pub HaveSamePoints : List Copper → List Copper → Type 0
HaveSamePoints cs ds = (q : PlanePoint) → IsInShapes cs q ↔ IsInShapes ds q

-- one hull of a shape of the owner's copper
abbrev pub patch_of : Owner → Copper → Bounds → Patch
patch_of o c h = record { node = o.node; net = o.net; layers = o.layers; shape = c; hull = h }

-- all hulls of a shape
abbrev pub shape_patches : Owner → Copper → List Patch
shape_patches o c = map (patch_of o c) (hulls_round c)

-- the patch is of a node in the list, and has no points but those of the node's copper
pub record IsNodePatch (b : Board) (fills : List Made) (ns : List rules.Node) (p : Patch) : Type 0 where
  pub node : rules.Node
  pub at : slice_get ns p.node ≡ Some node
  pub net : p.net ≡ node_net b node
  pub layers : p.layers ≡ node_layers b node
  pub points : (q : PlanePoint) → InCopper p.shape.core p.shape.radius q → IsInShapes (shapes_of b fills node) q

-- a patch of node k has the point, in its shape and in its hull
pub record IsInPatch (ps : List Patch) (k : ℕ) (q : PlanePoint) : Type 0 where
  pub patch : Patch
  pub one : IsOneOf patch ps
  pub node : patch.node ≡ k
  pub shape : InCopper patch.shape.core patch.shape.radius q
  pub hull : In patch.hull (in_units q)

-- the patches of the first n nodes, node by node, have just the points of their copper
pub record AreNodePatches (b : Board) (fills : List Made) (ns : List rules.Node) (n : ℕ) (ps : List Patch) : Type 0 where
  pub order : ArePatchesInOrder ps
  pub below : (p : Patch) → IsOneOf p ps → p.node < n
  pub each : (p : Patch) → IsOneOf p ps → IsNodePatch b fills ns p
  pub whole : (k : ℕ) (node : rules.Node) → k < n → slice_get ns k ≡ Some node → (q : PlanePoint) → IsInShapes (shapes_of b fills node) q → IsInPatch ps k q
