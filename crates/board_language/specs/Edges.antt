-- What is read of the board's edge: its drawings on `Edge.Cuts`.
--
--     (gr_line (start 0 0) (end 10 0) (layer "Edge.Cuts"))
--     (gr_rect (start 0 0) (end 10 5) (layer "Edge.Cuts"))
--     (gr_arc (start 0 2) (mid 0.6 0.6) (end 2 0) (layer "Edge.Cuts"))
--     (gr_poly (pts (xy 0 0) (xy 10 0) (xy 10 5)) (layer "Edge.Cuts"))
use Rattle.std.specs.Prelude.{ℕ, Bool, true, false, not, ◌&&◌, ◌||◌, int_lt, if◌then◌else◌, List, [], ◌∷◌, map, codes, is_some, slice_index_or, Option, Some, pos, ◌+ℤ◌, ◌-ℤ◌, ◌*ℤ◌}
use Rattle.std.specs.List.{list_any}
use Rattle.grid_num.specs.declared.Point.{Point}
use Rattle.grid_num.specs.declared.read.NumFault.{NumFault}
use Rattle.sexpr_text.specs.Items.{Item, is_headed}
use Rattle.board_text.specs.Fields.{list_of, has_list, head_begins}
use Rattle.board_text.specs.Numbers.{first_of, point_fault, is_short}
use Rattle.board_text.specs.Layers.{is_drawn_on, is_edge_name, is_copper}
use Rattle.copper_shape.specs.declared.edge.Edge.{Edge}
use Rattle.board_language.specs.declared.EdgeForm.{EdgeForm}
use Rattle.board_language.specs.declared.EdgeForm.TheVariants.{Line, Rectangle, Arc, Polygon, Other}
use Rattle.board_text.specs.Items.{point_at, point_in}
use Rattle.board_language.specs.Zones.{lists_in}

-- what kind of edge a drawing is
abbrev pub form_of : List ℕ → Item → EdgeForm
form_of bytes item =
    if is_headed bytes (codes "gr_line") item then Line
    else (if is_headed bytes (codes "gr_rect") item then Rectangle
    else (if is_headed bytes (codes "gr_arc") item then Arc
    else (if is_headed bytes (codes "gr_poly") item then Polygon else Other)))

-- the drawing is a piece of the board's edge
abbrev pub is_edge : List ℕ → Item → Bool
is_edge bytes item = head_begins bytes (codes "gr_") item && is_drawn_on is_edge_name bytes item

-- the drawing is on a copper layer
abbrev pub is_on_copper : List ℕ → Item → Bool
is_on_copper bytes item = is_drawn_on is_copper bytes item

-- ---- the edges of a drawing, in their order

-- a straight piece of edge
abbrev pub straight : Point → Point → Edge
straight a b = record { from = a; to = b; bow = false }

-- the sides from each of the corners to the next, from the last one to z
unfoldable pub sides_to : Point → List Point → List Edge
sides_to z [] = []
sides_to z (a ∷ cs) = straight a (slice_index_or cs 0 z) ∷ sides_to z cs

-- a polygon closes itself; without points it has no side, and with one it has the one from the point to itself
unfoldable pub sides_of : List Point → List Edge
sides_of [] = []
sides_of (a ∷ cs) = sides_to a (a ∷ cs)

-- the corners of the rectangle from one corner to the opposite one
abbrev pub rectangle_corners : Point → Point → List Point
rectangle_corners a b = a ∷ record { x = b.x; y = a.y } ∷ b ∷ record { x = a.x; y = b.y } ∷ []

-- the points of a polygon
abbrev pub corner_lists : List ℕ → Item → List Item
corner_lists bytes item = lists_in (list_of bytes (codes "pts") item)

-- the edges of a drawing of this form
abbrev pub edges_as : EdgeForm → List ℕ → Item → List Edge
edges_as Line bytes item = straight (point_in bytes (codes "start") item) (point_in bytes (codes "end") item) ∷ []
edges_as Rectangle bytes item = sides_of (rectangle_corners (point_in bytes (codes "start") item) (point_in bytes (codes "end") item))
edges_as Arc bytes item = record { from = point_in bytes (codes "start") item; to = point_in bytes (codes "end") item; bow = true } ∷ []
edges_as Polygon bytes item = sides_of (map (λ list. point_at bytes (Some list)) (corner_lists bytes item))
edges_as Other bytes item = []

-- what a drawing adds to the board's edge: nothing where it isn't a piece of it
unfoldable pub edges_read : List ℕ → Item → List Edge
edges_read bytes item = if is_edge bytes item then edges_as (form_of bytes item) bytes item else []

-- ---- what offends

-- an arc from a by m to b is wider than a half circle where the angle at m is acute
unfoldable pub is_wide : Point → Point → Point → Bool
is_wide a m b = int_lt (pos 0) ((a.x -ℤ m.x) *ℤ (b.x -ℤ m.x) +ℤ (a.y -ℤ m.y) *ℤ (b.y -ℤ m.y))

-- the lists of points that a drawing needs
abbrev pub needed_points : EdgeForm → List (List ℕ)
needed_points Line = codes "start" ∷ codes "end" ∷ []
needed_points Rectangle = codes "start" ∷ codes "end" ∷ []
needed_points Arc = codes "start" ∷ codes "mid" ∷ codes "end" ∷ []
needed_points Polygon = []
needed_points Other = []

-- the list of a point isn't there, or has fewer than two items
abbrev pub lacks_point : List ℕ → Item → List ℕ → Bool
lacks_point bytes item name = not (has_list bytes name item) || is_short 2 (list_of bytes name item)

-- a drawing of this form lacks a point
abbrev pub lacks_as : EdgeForm → List ℕ → Item → Bool
lacks_as Polygon bytes item = list_any (λ list. is_short 2 (Some list)) (corner_lists bytes item)
lacks_as form bytes item = list_any (lacks_point bytes item) (needed_points form)

-- an edge lacks a point
unfoldable pub lacks_points : List ℕ → Item → Bool
lacks_points bytes item = lacks_as (form_of bytes item) bytes item

-- of a drawing of this form the first number that can't be read
abbrev pub fault_as : EdgeForm → List ℕ → Item → Option NumFault
fault_as Polygon bytes item = first_of (map (λ list. point_fault bytes (Some list)) (corner_lists bytes item))
fault_as form bytes item = first_of (map (λ name. point_fault bytes (list_of bytes name item)) (needed_points form))

-- the first of an edge's numbers that can't be read
unfoldable pub edge_fault : List ℕ → Item → Option NumFault
edge_fault bytes item = fault_as (form_of bytes item) bytes item

-- an edge's points can't be read
abbrev pub is_unread : List ℕ → Item → Bool
is_unread bytes item = lacks_points bytes item || is_some (edge_fault bytes item)

-- an edge that is curved otherwise than in an arc of at most a half circle, or a polygon with other points than `xy`;
-- the width of an arc is tried where its points are read
abbrev pub is_curved_as : EdgeForm → List ℕ → Item → Bool
is_curved_as Line bytes item = false
is_curved_as Rectangle bytes item = false
is_curved_as Arc bytes item =
    not (is_unread bytes item) && is_wide (point_in bytes (codes "start") item) (point_in bytes (codes "mid") item) (point_in bytes (codes "end") item)
is_curved_as Polygon bytes item = list_any (λ list. not (is_headed bytes (codes "xy") list)) (corner_lists bytes item)
is_curved_as Other bytes item = true

-- an edge is curved otherwise than it may be
unfoldable pub is_curved : List ℕ → Item → Bool
is_curved bytes item = is_curved_as (form_of bytes item) bytes item
