-- The loops and rings of the example boards, by tests.
use Rattle.std.proofs.Common.{◌≡◌, refl, subst, List, [], ◌∷◌}
use Rattle.std.specs.Prelude.{pos, true, map}
use Rattle.plane.specs.Covering.{Edge, edges_of}
use Rattle.plane.specs.Edges.{turned_back, both_ways}
use Rattle.rings.specs.Turning.{direction, turn_to}
use Rattle.rings.specs.Walks.{visits, visits_after, last_of, is_bend, bends}
use Rattle.rings.specs.Loops.{AreLoopsOf}
use Rattle.rings.specs.Slits.{is_inside_edge, cut_one, cut_edges, cut_by}
use Rattle.rings.specs.Rings.{holes_of, with_slits, AreRingsOf}
use Rattle.rings.specs.Examples.{corner_at, outer, via_edges, via_loops, via_ring, cut_corners, via_corners, square_edges, first_square, second_square, pair_edges, pair_loops, pair_ring, frame_corners, left_hole, right_hole, bay_edges, bay_corners, ExamplesLaw}
use Rattle.rings.proofs.Unique.{same_edge}
use Rattle.rings.proofs.Checks.{if_then, same_point, has_edge, later, is_next, is_some, is_walk, less_point, less_list, no_less, is_contour, without, is_permuted, is_rising, is_round, is_open_left, some_visit, is_hole, loop_of, in_span, on_edge, some_on, is_aside, is_missed, is_octilinear, is_slit, are_slits, loops_told, rings_told}

-- ---- via
via_walks : List (List Edge)
via_walks = edges_of cut_corners ∷ edges_of via_corners ∷ []

via_slits : List Edge
via_slits = record { start = corner_at (pos 4792890) (pos 4500000); finish = corner_at (pos 0) (pos 4500000) } ∷ []

via_round : is_round via_edges via_walks ≡ true
unfolding via_walks direction turn_to visits visits_after last_of is_bend bends same_edge if_then same_point has_edge later is_next is_some is_walk less_point less_list no_less is_contour without is_permuted is_rising is_round
via_round = refl

via_are : map loop_of via_walks ≡ via_loops
unfolding via_walks direction turn_to visits visits_after last_of is_bend bends same_edge if_then same_point has_edge later is_next is_some is_walk less_point less_list no_less is_contour without is_permuted is_rising is_round is_open_left some_visit is_hole loop_of
via_are = refl

via_cut : are_slits via_edges (holes_of (map loop_of via_walks)) via_slits ≡ true
unfolding via_walks via_slits direction turn_to visits visits_after last_of is_bend bends same_edge if_then same_point has_edge later is_next is_some is_walk less_point less_list no_less is_contour without is_permuted is_rising is_round is_open_left some_visit is_hole loop_of holes_of with_slits cut_by cut_edges cut_one is_inside_edge turned_back both_ways in_span on_edge some_on is_aside is_missed is_octilinear is_slit are_slits
via_cut = refl

via_ring_walks : List (List Edge)
via_ring_walks = edges_of (corner_at (pos 73222) (pos 0) ∷ corner_at (pos 5000000) (pos 0) ∷ corner_at (pos 9926778) (pos 0) ∷ corner_at (pos 10000000) (pos 73222) ∷ corner_at (pos 10000000) (pos 9926778) ∷ corner_at (pos 9926778) (pos 10000000) ∷ corner_at (pos 73222) (pos 10000000) ∷ corner_at (pos 0) (pos 9926778) ∷ corner_at (pos 0) (pos 4500000) ∷ corner_at (pos 4792890) (pos 4500000) ∷ corner_at (pos 4500000) (pos 4792890) ∷ corner_at (pos 4500000) (pos 5207110) ∷ corner_at (pos 4792890) (pos 5500000) ∷ corner_at (pos 5207110) (pos 5500000) ∷ corner_at (pos 5500000) (pos 5207110) ∷ corner_at (pos 5500000) (pos 4792890) ∷ corner_at (pos 5207110) (pos 4500000) ∷ corner_at (pos 4792890) (pos 4500000) ∷ corner_at (pos 0) (pos 4500000) ∷ corner_at (pos 0) (pos 73222) ∷ []) ∷ []

via_rings_round : is_round (with_slits via_edges via_slits) via_ring_walks ≡ true
unfolding via_walks via_slits via_ring_walks direction turn_to visits visits_after last_of is_bend bends same_edge if_then same_point has_edge later is_next is_some is_walk less_point less_list no_less is_contour without is_permuted is_rising is_round is_open_left some_visit is_hole loop_of holes_of with_slits cut_by cut_edges cut_one is_inside_edge turned_back both_ways in_span on_edge some_on is_aside is_missed is_octilinear is_slit are_slits
via_rings_round = refl

via_rings_are : map bends via_ring_walks ≡ via_ring ∷ []
unfolding via_ring_walks direction turn_to visits visits_after last_of is_bend bends same_edge if_then same_point has_edge later is_next is_some is_walk less_point less_list no_less is_contour without is_permuted is_rising is_round
via_rings_are = refl

-- ---- square
square_walks : List (List Edge)
square_walks = edges_of first_square ∷ edges_of second_square ∷ []

square_slits : List Edge
square_slits = []

square_round : is_round square_edges square_walks ≡ true
unfolding square_walks direction turn_to visits visits_after last_of is_bend bends same_edge if_then same_point has_edge later is_next is_some is_walk less_point less_list no_less is_contour without is_permuted is_rising is_round
square_round = refl

square_are : map loop_of square_walks ≡ outer first_square ∷ outer second_square ∷ []
unfolding square_walks direction turn_to visits visits_after last_of is_bend bends same_edge if_then same_point has_edge later is_next is_some is_walk less_point less_list no_less is_contour without is_permuted is_rising is_round is_open_left some_visit is_hole loop_of
square_are = refl

square_cut : are_slits square_edges (holes_of (map loop_of square_walks)) square_slits ≡ true
unfolding square_walks square_slits direction turn_to visits visits_after last_of is_bend bends same_edge if_then same_point has_edge later is_next is_some is_walk less_point less_list no_less is_contour without is_permuted is_rising is_round is_open_left some_visit is_hole loop_of holes_of with_slits cut_by cut_edges cut_one is_inside_edge turned_back both_ways in_span on_edge some_on is_aside is_missed is_octilinear is_slit are_slits
square_cut = refl

square_ring_walks : List (List Edge)
square_ring_walks = edges_of first_square ∷ edges_of second_square ∷ []

square_rings_round : is_round (with_slits square_edges square_slits) square_ring_walks ≡ true
unfolding square_walks square_slits square_ring_walks direction turn_to visits visits_after last_of is_bend bends same_edge if_then same_point has_edge later is_next is_some is_walk less_point less_list no_less is_contour without is_permuted is_rising is_round is_open_left some_visit is_hole loop_of holes_of with_slits cut_by cut_edges cut_one is_inside_edge turned_back both_ways in_span on_edge some_on is_aside is_missed is_octilinear is_slit are_slits
square_rings_round = refl

square_rings_are : map bends square_ring_walks ≡ first_square ∷ second_square ∷ []
unfolding square_ring_walks direction turn_to visits visits_after last_of is_bend bends same_edge if_then same_point has_edge later is_next is_some is_walk less_point less_list no_less is_contour without is_permuted is_rising is_round
square_rings_are = refl

-- ---- pair
pair_walks : List (List Edge)
pair_walks = edges_of frame_corners ∷ edges_of left_hole ∷ edges_of right_hole ∷ []

pair_slits : List Edge
pair_slits = record { start = corner_at (pos 2) (pos 2); finish = corner_at (pos 0) (pos 2) } ∷ record { start = corner_at (pos 6) (pos 2); finish = corner_at (pos 4) (pos 2) } ∷ []

pair_round : is_round pair_edges pair_walks ≡ true
unfolding pair_walks direction turn_to visits visits_after last_of is_bend bends same_edge if_then same_point has_edge later is_next is_some is_walk less_point less_list no_less is_contour without is_permuted is_rising is_round
pair_round = refl

pair_are : map loop_of pair_walks ≡ pair_loops
unfolding pair_walks direction turn_to visits visits_after last_of is_bend bends same_edge if_then same_point has_edge later is_next is_some is_walk less_point less_list no_less is_contour without is_permuted is_rising is_round is_open_left some_visit is_hole loop_of
pair_are = refl

pair_cut : are_slits pair_edges (holes_of (map loop_of pair_walks)) pair_slits ≡ true
unfolding pair_walks pair_slits direction turn_to visits visits_after last_of is_bend bends same_edge if_then same_point has_edge later is_next is_some is_walk less_point less_list no_less is_contour without is_permuted is_rising is_round is_open_left some_visit is_hole loop_of holes_of with_slits cut_by cut_edges cut_one is_inside_edge turned_back both_ways in_span on_edge some_on is_aside is_missed is_octilinear is_slit are_slits
pair_cut = refl

pair_ring_walks : List (List Edge)
pair_ring_walks = edges_of (corner_at (pos 0) (pos 0) ∷ corner_at (pos 10) (pos 0) ∷ corner_at (pos 10) (pos 6) ∷ corner_at (pos 0) (pos 6) ∷ corner_at (pos 0) (pos 2) ∷ corner_at (pos 2) (pos 2) ∷ corner_at (pos 2) (pos 4) ∷ corner_at (pos 4) (pos 4) ∷ corner_at (pos 4) (pos 2) ∷ corner_at (pos 6) (pos 2) ∷ corner_at (pos 6) (pos 4) ∷ corner_at (pos 8) (pos 4) ∷ corner_at (pos 8) (pos 2) ∷ corner_at (pos 6) (pos 2) ∷ corner_at (pos 4) (pos 2) ∷ corner_at (pos 2) (pos 2) ∷ corner_at (pos 0) (pos 2) ∷ []) ∷ []

pair_rings_round : is_round (with_slits pair_edges pair_slits) pair_ring_walks ≡ true
unfolding pair_walks pair_slits pair_ring_walks direction turn_to visits visits_after last_of is_bend bends same_edge if_then same_point has_edge later is_next is_some is_walk less_point less_list no_less is_contour without is_permuted is_rising is_round is_open_left some_visit is_hole loop_of holes_of with_slits cut_by cut_edges cut_one is_inside_edge turned_back both_ways in_span on_edge some_on is_aside is_missed is_octilinear is_slit are_slits
pair_rings_round = refl

pair_rings_are : map bends pair_ring_walks ≡ pair_ring ∷ []
unfolding pair_ring_walks direction turn_to visits visits_after last_of is_bend bends same_edge if_then same_point has_edge later is_next is_some is_walk less_point less_list no_less is_contour without is_permuted is_rising is_round
pair_rings_are = refl

-- ---- bay
bay_walks : List (List Edge)
bay_walks = edges_of bay_corners ∷ []

bay_slits : List Edge
bay_slits = []

bay_round : is_round bay_edges bay_walks ≡ true
unfolding bay_walks direction turn_to visits visits_after last_of is_bend bends same_edge if_then same_point has_edge later is_next is_some is_walk less_point less_list no_less is_contour without is_permuted is_rising is_round
bay_round = refl

bay_are : map loop_of bay_walks ≡ outer bay_corners ∷ []
unfolding bay_walks direction turn_to visits visits_after last_of is_bend bends same_edge if_then same_point has_edge later is_next is_some is_walk less_point less_list no_less is_contour without is_permuted is_rising is_round is_open_left some_visit is_hole loop_of
bay_are = refl

bay_cut : are_slits bay_edges (holes_of (map loop_of bay_walks)) bay_slits ≡ true
unfolding bay_walks bay_slits direction turn_to visits visits_after last_of is_bend bends same_edge if_then same_point has_edge later is_next is_some is_walk less_point less_list no_less is_contour without is_permuted is_rising is_round is_open_left some_visit is_hole loop_of holes_of with_slits cut_by cut_edges cut_one is_inside_edge turned_back both_ways in_span on_edge some_on is_aside is_missed is_octilinear is_slit are_slits
bay_cut = refl

bay_ring_walks : List (List Edge)
bay_ring_walks = edges_of bay_corners ∷ []

bay_rings_round : is_round (with_slits bay_edges bay_slits) bay_ring_walks ≡ true
unfolding bay_walks bay_slits bay_ring_walks direction turn_to visits visits_after last_of is_bend bends same_edge if_then same_point has_edge later is_next is_some is_walk less_point less_list no_less is_contour without is_permuted is_rising is_round is_open_left some_visit is_hole loop_of holes_of with_slits cut_by cut_edges cut_one is_inside_edge turned_back both_ways in_span on_edge some_on is_aside is_missed is_octilinear is_slit are_slits
bay_rings_round = refl

bay_rings_are : map bends bay_ring_walks ≡ bay_corners ∷ []
unfolding bay_ring_walks direction turn_to visits visits_after last_of is_bend bends same_edge if_then same_point has_edge later is_next is_some is_walk less_point less_list no_less is_contour without is_permuted is_rising is_round
bay_rings_are = refl

pub examples_law : ExamplesLaw
examples_law = record {
  via_loops = subst (AreLoopsOf via_edges) via_are (loops_told via_edges via_walks via_round);
  via_rings = subst (AreRingsOf via_edges) via_rings_are (rings_told via_edges via_walks via_slits via_ring_walks via_round via_cut via_rings_round);
  square_loops = subst (AreLoopsOf square_edges) square_are (loops_told square_edges square_walks square_round);
  square_rings = subst (AreRingsOf square_edges) square_rings_are (rings_told square_edges square_walks square_slits square_ring_walks square_round square_cut square_rings_round);
  pair_loops = subst (AreLoopsOf pair_edges) pair_are (loops_told pair_edges pair_walks pair_round);
  pair_rings = subst (AreRingsOf pair_edges) pair_rings_are (rings_told pair_edges pair_walks pair_slits pair_ring_walks pair_round pair_cut pair_rings_round);
  bay_loops = subst (AreLoopsOf bay_edges) bay_are (loops_told bay_edges bay_walks bay_round);
  bay_rings = subst (AreRingsOf bay_edges) bay_rings_are (rings_told bay_edges bay_walks bay_slits bay_ring_walks bay_round bay_cut bay_rings_round);
}
