-- Names and contents side by side in memory that was reserved, with a table of their lengths.
use Rattle.std.specs.Prelude.{◌≡◌, ℕ, ◌+◌, ◌≤◌, ◌<◌, List, [], ◌∷◌, length, take, drop, is_some, if◌then◌else◌}
use Rattle.std.specs.Ordering.{nat_cmp}
use Rattle.std.specs.Cmp.Lexicographic.{slice_cmp}
use Rattle.std.specs.FinMap.{FinMap, get, code, from_entries}
use Rattle.std.specs.Coded.{Coded, code_by, coded×, coded_ℕ, coded_list}
use Rattle.std.specs.Prelude.{refl}
use Rattle.desk.specs.declared.arena.Lengths.{Lengths}
use Rattle.desk.specs.declared.arena.Spot.{Spot}

-- contents by name, and how many bytes may still be taken
pub record Reserved : Type 0 where
  pub files : FinMap (slice_cmp nat_cmp) (List ℕ)
  pub room : ℕ

-- it is stored as the pair of its parts
abbrev pub reserved_code : Coded Reserved
reserved_code =
    code_by (FinMap (slice_cmp nat_cmp) (List ℕ) × ℕ) (coded× (code (coded_list coded_ℕ) (coded_list coded_ℕ)) coded_ℕ) (λ r. (r.files, r.room)) (λ p. record { files = p.0; room = p.1 }) (λ _. refl)

-- the names with their contents, in the order of the table
abbrev pub entries_of : List Lengths → List ℕ → List (List ℕ × List ℕ)
entries_of [] bytes = []
entries_of (l ∷ ls) bytes = (take l.name bytes, take l.contents (drop l.name bytes)) ∷ entries_of ls (drop (l.name + l.contents) bytes)

-- the contents by name
abbrev pub stored : List Lengths → List ℕ → FinMap (slice_cmp nat_cmp) (List ℕ)
stored ls bytes = from_entries (entries_of ls bytes)

-- how many bytes the names and contents of a table take
abbrev pub total_of : List Lengths → ℕ
total_of [] = 0
total_of (l ∷ ls) = l.name + l.contents + total_of ls

-- how many bytes stand before the name of a place
abbrev pub offset_of : List Lengths → ℕ → ℕ
offset_of ls i = total_of (take i ls)

-- the table is of these bytes
abbrev pub IsTable : List Lengths → List ℕ → Type 0
IsTable ls bytes = total_of ls ≡ length bytes

-- a place of the table and its offset
abbrev pub IsSpotIn : List Lengths → Spot → Type 0
IsSpotIn ls spot = (spot.index < length ls) × (spot.at ≡ offset_of ls spot.index)

-- 1 where the empty name is there: it is the one name that takes no bytes
abbrev pub nameless : FinMap (slice_cmp nat_cmp) (List ℕ) → ℕ
nameless files = if is_some (get files []) then 1 else 0

-- The capacity is enough for every call that the room allows: for its bytes, and for a place in the table for each name.
pub record IsReserved (files : FinMap (slice_cmp nat_cmp) (List ℕ)) (names names_capacity bytes bytes_capacity room : ℕ) : Type 0 where
  pub names_fit : names + room + 1 ≤ names_capacity + nameless files
  pub bytes_fit : bytes + room ≤ bytes_capacity
