-- Stamps, each with the thing that it belongs to. Of two things with the same stamp the first counts.
use Rattle.std.specs.Prelude.{List, [], ◌∷◌, ◌++◌, map, if◌then◌else◌, Option, None, Some}
use Rattle.std.specs.Str.{bytes_eq}
use Rattle.board_text.specs.Layers.{Name, is_among}
use Rattle.board_text.specs.declared.stamped.Stamped.{Stamped}

-- stamps in their order, each with its thing
abbrev pub Table : Type 0
Table = List (Name × Stamped)

-- the stamps of a table alone
abbrev pub stamps_of : Table → List Name
stamps_of table = map (λ p. p.0) table

-- the first thing with this stamp
abbrev pub stamped : Table → Name → Option Stamped
stamped [] stamp = None
stamped (p ∷ table) stamp = if bytes_eq p.0 stamp then Some p.1 else stamped table stamp

-- with one more thing, which counts where its stamp isn't there
abbrev pub with_stamp : Table → Name → Stamped → Table
with_stamp table stamp thing = if is_among (stamps_of table) stamp then table else table ++ (stamp, thing) ∷ []

-- with several things, one after another
unfoldable pub with_stamps : Table → Table → Table
with_stamps table [] = table
with_stamps table (p ∷ more) = with_stamps (with_stamp table p.0 p.1) more
