-- The edges of a board end within 500 mm, whatever the text says.
use Rattle.std.proofs.Common.{refl, sym, subst, ℕ, inl, inr, Bool, true, false, List, [], ◌∷◌, Some}
use Rattle.std.specs.Prelude.{codes, if◌then◌else◌}
use Rattle.classes.specs.Classes.{IsOneOf}
use Rattle.grid_num.specs.declared.Point.{Point}
use Rattle.sexpr_text.specs.Items.{Item}
use Rattle.copper_shape.specs.declared.edge.Edge.{Edge}
use Rattle.board_language.specs.declared.EdgeForm.{EdgeForm}
use Rattle.board_language.specs.declared.EdgeForm.TheVariants.{Line, Rectangle, Arc, Polygon, Other}
use Rattle.board_text.specs.Fields.{list_of}
use Rattle.board_text.specs.Items.{Context, point_at}
use Rattle.board_language.specs.Edges.{form_of, is_edge, sides_to, sides_of, rectangle_corners, corner_lists, edges_as, edges_read}
use Rattle.board_text.specs.Things as things
use Rattle.board_language.specs.Reading.{edges_from}
use Rattle.board_language.proofs.Members.{get_or_is, one_of_map}
use Rattle.board_language.specs.Facts.{IsPlaceInReach, IsSoundBoardEdge}
use Rattle.board_facts.proofs.Near.{point_near}

abbrev AllNear : List Point → Type 0
AllNear ps = (p : Point) → IsOneOf p ps → IsPlaceInReach p

sides_near : (z : Point) (ps : List Point) (e : Edge) → IsPlaceInReach z → AllNear ps → IsOneOf e (sides_to z ps) → IsSoundBoardEdge e
unfolding IsOneOf sides_to
sides_near z [] e n h i = absurd i
sides_near z (a ∷ cs) e n h (inl same) =
    subst IsSoundBoardEdge (sym same) (record { from = h a (inl refl); to = get_or_is IsPlaceInReach cs 0 z n (λ p i. h p (inr i)) })
sides_near z (a ∷ cs) e n h (inr i) = sides_near z cs e n (λ p j. h p (inr j)) i

closed_near : (ps : List Point) (e : Edge) → AllNear ps → IsOneOf e (sides_of ps) → IsSoundBoardEdge e
unfolding IsOneOf sides_of
closed_near [] e h i = absurd i
closed_near (a ∷ cs) e h i = sides_near a (a ∷ cs) e (h a (inl refl)) h i

round_near : (a b : Point) → IsPlaceInReach a → IsPlaceInReach b → AllNear (rectangle_corners a b)
unfolding IsOneOf
round_near a b m n p (inl e) = subst IsPlaceInReach (sym e) m
round_near a b m n p (inr (inl e)) = subst IsPlaceInReach (sym e) (record { x = n.x; y = m.y })
round_near a b m n p (inr (inr (inl e))) = subst IsPlaceInReach (sym e) n
round_near a b m n p (inr (inr (inr (inl e)))) = subst IsPlaceInReach (sym e) (record { x = m.x; y = n.y })
round_near a b m n p (inr (inr (inr (inr i)))) = absurd i

one_near : (e f : Edge) → IsSoundBoardEdge f → IsOneOf e (f ∷ []) → IsSoundBoardEdge e
unfolding IsOneOf
one_near e f s (inl same) = subst IsSoundBoardEdge (sym same) s
one_near e f s (inr i) = absurd i

none_near : (e : Edge) → IsOneOf e [] → IsSoundBoardEdge e
unfolding IsOneOf
none_near e i = absurd i

form_near : (bytes : List ℕ) (item : Item) (form : EdgeForm) (e : Edge) → IsOneOf e (edges_as form bytes item) → IsSoundBoardEdge e
form_near bytes item Line e i =
    one_near e _ (record { from = point_near bytes (list_of bytes (codes "start") item); to = point_near bytes (list_of bytes (codes "end") item) }) i
form_near bytes item Rectangle e i =
    closed_near _ e (round_near _ _ (point_near bytes (list_of bytes (codes "start") item)) (point_near bytes (list_of bytes (codes "end") item))) i
form_near bytes item Arc e i =
    one_near e _ (record { from = point_near bytes (list_of bytes (codes "start") item); to = point_near bytes (list_of bytes (codes "end") item) }) i
form_near bytes item Polygon e i =
    closed_near _ e (λ p j. (let r = one_of_map (λ (list : Item). point_at bytes (Some list)) p (corner_lists bytes item) j in subst IsPlaceInReach (sym r.2) (point_near bytes (Some r.0)))) i
form_near bytes item Other e i = none_near e i

drawn_near : (bytes : List ℕ) (item : Item) (e : Edge) → IsOneOf e (edges_read bytes item) → IsSoundBoardEdge e
unfolding edges_read
drawn_near bytes item e i = by_test (is_edge bytes item) i
  where
    by_test : (b : Bool) → IsOneOf e (if b then edges_as (form_of bytes item) bytes item else []) → IsSoundBoardEdge e
    by_test true j = form_near bytes item (form_of bytes item) e j
    by_test false j = none_near e j

pub edge_read : (c : Context) (item : Item) (t : things.Thing) (e : Edge) → IsOneOf e (edges_from c item t) → IsSoundBoardEdge e
edge_read c item things.Drawing e i = drawn_near c.bytes item e i
edge_read c item _ e i = none_near e i
