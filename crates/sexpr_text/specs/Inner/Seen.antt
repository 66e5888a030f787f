-- What the walk to a fault keeps, as its code keeps it, and the kinds that it tells.
use Rattle.std.specs.Prelude.{ℕ, zero, suc, ◌≤◌, ◌==◌, ◌||◌, not, cond, Option, Some, None}
use Rattle.sexpr_text.specs.Grammar.{is_space}
use Rattle.sexpr_text.specs.Inner.Cut.{Cut}
use Rattle.sexpr_text.specs.Inner.Cut.Cut.{Full, Next, Broken}
use Rattle.sexpr_text.specs.Inner.Spot.{TextSpot}
use Rattle.sexpr_text.specs.Inner.Spot.TextSpot.{Before, Inside, Quoted, Behind, Lost}
use Rattle.sexpr_text.specs.declared.cut.Cutting.{Cutting}
use Rattle.sexpr_text.specs.declared.cut.Cutting.TheVariants.{Whole, Wants, Bad}
use Rattle.sexpr_text.specs.declared.stand.Stand.{Stand}
use Rattle.sexpr_text.specs.declared.stand.Stand.TheVariants.{Start, List, Text, End, Off}
use Rattle.sexpr_text.specs.declared.error.TextKind.{TextKind}
use Rattle.sexpr_text.specs.declared.error.TextKind.TheVariants as kinds

-- where the code stands in a text
abbrev pub seen : Stand → TextSpot
seen Start = Before
seen (List room) = Inside room
seen (Text room escaped) = Quoted room escaped
seen End = Behind
seen Off = Lost

-- lists may go at most 63 deeper than the outermost one
abbrev pub is_room : Stand → Type 0
is_room (List room) = room ≤ 63
is_room (Text room escaped) = room ≤ 63
is_room other = Unit {0}

-- where the code stands in a character
abbrev pub seen_cut : Cutting → Cut
seen_cut Whole = Full
seen_cut (Wants low high left) = Next low high left
seen_cut Bad = Broken

-- the kind where the input ends, if it is no text
abbrev pub ended : TextSpot → Option TextKind
ended Before = Some kinds.Empty
ended (Quoted room escaped) = Some kinds.BadString
ended (Inside room) = Some kinds.Unclosed
ended Behind = None
ended Lost = None

-- the kind where this byte can't stand
abbrev pub fault_at_spot : TextSpot → ℕ → TextKind
fault_at_spot Before c = cond (c == 41) kinds.StrayClose (cond (not (is_space c || c == 40 || c == 41)) kinds.NotList kinds.BadUtf8)
fault_at_spot (Quoted room escaped) c = kinds.BadUtf8
fault_at_spot (Inside zero) c = cond (c == 40) kinds.TooDeep kinds.BadUtf8
fault_at_spot (Inside (suc room)) c = kinds.BadUtf8
fault_at_spot Behind c = cond (not (is_space c)) kinds.After kinds.BadUtf8
fault_at_spot Lost c = kinds.BadUtf8
