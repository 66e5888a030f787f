use Rattle.cores.specs.contracts.area.AreaBounds.{the_view}
use Rattle.copper_shape.proofs.Areas.{are_wide, sub_fits, add_fits, code_corners-is}
use Rattle.copper_shape.proofs.area.corners.Goals as goal

pub overflow_sub-result : goal.overflow_sub-result
overflow_sub-result c = let w = are_wide (the_view c.area.inside) (rw (← c.area.view_is) at c.requires.tight) (rw (← c.area.view_is) at c.requires.within) in sub_fits c.area.inside.s0 c.area.inside.y0 w.s0 w.y0

pub overflow_add-result : goal.overflow_add-result
overflow_add-result c = let w = are_wide (the_view c.area.inside) (rw (← c.area.view_is) at c.requires.tight) (rw (← c.area.view_is) at c.requires.within) in add_fits c.area.inside.d1 c.area.inside.y0 w.d1 w.y0

pub overflow_sub-result-2 : goal.overflow_sub-result-2
overflow_sub-result-2 c = let w = are_wide (the_view c.area.inside) (rw (← c.area.view_is) at c.requires.tight) (rw (← c.area.view_is) at c.requires.within) in sub_fits c.area.inside.x1 c.area.inside.d1 w.x1 w.d1

pub overflow_sub-result-3 : goal.overflow_sub-result-3
overflow_sub-result-3 c = let w = are_wide (the_view c.area.inside) (rw (← c.area.view_is) at c.requires.tight) (rw (← c.area.view_is) at c.requires.within) in sub_fits c.area.inside.s1 c.area.inside.x1 w.s1 w.x1

pub overflow_sub-result-4 : goal.overflow_sub-result-4
overflow_sub-result-4 c = let w = are_wide (the_view c.area.inside) (rw (← c.area.view_is) at c.requires.tight) (rw (← c.area.view_is) at c.requires.within) in sub_fits c.area.inside.s1 c.area.inside.y1 w.s1 w.y1

pub overflow_add-result-2 : goal.overflow_add-result-2
overflow_add-result-2 c = let w = are_wide (the_view c.area.inside) (rw (← c.area.view_is) at c.requires.tight) (rw (← c.area.view_is) at c.requires.within) in add_fits c.area.inside.d0 c.area.inside.y1 w.d0 w.y1

pub overflow_sub-result-5 : goal.overflow_sub-result-5
overflow_sub-result-5 c = let w = are_wide (the_view c.area.inside) (rw (← c.area.view_is) at c.requires.tight) (rw (← c.area.view_is) at c.requires.within) in sub_fits c.area.inside.x0 c.area.inside.d0 w.x0 w.d0

pub overflow_sub-result-6 : goal.overflow_sub-result-6
overflow_sub-result-6 c = let w = are_wide (the_view c.area.inside) (rw (← c.area.view_is) at c.requires.tight) (rw (← c.area.view_is) at c.requires.within) in sub_fits c.area.inside.s0 c.area.inside.x0 w.s0 w.x0

pub returns : goal.returns
returns c = let w = are_wide (the_view c.area.inside) (rw (← c.area.view_is) at c.requires.tight) (rw (← c.area.view_is) at c.requires.within) in rw (← c.area.view_is) (code_corners-is (the_view c.area.inside) w)
