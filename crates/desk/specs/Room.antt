-- The room that a desk may tell: how many bytes it will still take for sure.
use Rattle.std.specs.Prelude.{ℕ, ◌+◌, ◌≤◌, List, length, Option, None, Some, is_some, if◌then◌else◌}
use Rattle.std.specs.Ordering.{nat_cmp}
use Rattle.std.specs.Cmp.Lexicographic.{slice_cmp}
use Rattle.std.specs.FinMap.{FinMap, get}
use Rattle.desk.specs.Seen.{Seen}

-- the bytes of a name that isn't there yet, none where it is there
abbrev pub cost_in : FinMap (slice_cmp nat_cmp) (List ℕ) → List ℕ → ℕ
cost_in files name = if is_some (get files name) then 0 else length name

-- the same of what is told, none where nothing is told
abbrev pub cost_of : Option Seen → List ℕ → ℕ
cost_of None name = 0
cost_of (Some s) name = cost_in s.files name

-- Where a room is told, n bytes fit. Where none is told, nothing is asked.
abbrev pub HasRoomTold : Option ℕ → ℕ → Type 0
HasRoomTold None n = Unit {0}
HasRoomTold (Some room) n = n ≤ room

-- A told room falls by at most n bytes. Whether a room is told never changes.
abbrev pub Spends : (before now : Option ℕ) → ℕ → Type 0
Spends None None n = Unit {0}
Spends (Some room) (Some left) n = room ≤ left + n
Spends (Some room) None n = ⊥
Spends None (Some left) n = ⊥
