-- The corners with x and y exchanged: the same chain, seen in the mirror of the line x = y.
use Rattle.std.specs.Prelude.{List, map}
use Rattle.grid_num.specs.declared.Point.{Point}

-- x and y exchanged
abbrev pub exchanged : Point → Point
exchanged p = record { x = p.y; y = p.x }

-- of all corners
abbrev pub all_exchanged : List Point → List Point
all_exchanged cs = map (λ c. exchanged c) cs
