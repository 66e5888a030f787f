-- Where a reader stands in a text, byte by byte: what the walk to a fault keeps.
use Rattle.std.specs.Prelude.{ℕ, zero, suc, ◌+◌, Bool, true, false, cond, ◌==◌, List, slice_index}
use Rattle.sexpr_text.specs.Grammar.{is_space}

-- where a reader stands in a text
pub data TextSpot : Type 0 where
  -- nothing but white space was read
  Before : TextSpot
  -- inside a list and outside a string; lists may still go room deeper
  Inside : (room : ℕ) → TextSpot
  -- inside a string of such a list; whether the next byte is escaped
  Quoted : (room : ℕ) (escaped : Bool) → TextSpot
  -- the list has ended
  Behind : TextSpot
  -- no text begins so
  Lost : TextSpot

-- behind an opening parenthesis, where lists could go so much deeper
abbrev pub opened : ℕ → TextSpot
opened zero = Lost
opened (suc room) = Inside room

-- the outermost list has room for 63 levels more
abbrev pub closed : ℕ → TextSpot
closed room = cond (room == 63) Behind (Inside (room + 1))

-- one byte further
abbrev pub step : TextSpot → ℕ → TextSpot
step Before c = cond (is_space c) Before (cond (c == 40) (Inside 63) Lost)
step (Inside room) c = cond (c == 40) (opened room) (cond (c == 41) (closed room) (cond (c == 34) (Quoted room false) (Inside room)))
step (Quoted room true) c = Quoted room false
step (Quoted room false) c = cond (c == 34) (Inside room) (Quoted room (c == 92))
step Behind c = cond (is_space c) Behind Lost
step Lost c = Lost

-- the spot behind the first n bytes
abbrev pub text_spot : List ℕ → ℕ → TextSpot
text_spot bytes zero = Before
text_spot bytes (suc n) = step (text_spot bytes n) (slice_index bytes n)
