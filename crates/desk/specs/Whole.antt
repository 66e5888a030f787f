-- What whole files leave: a file that was cut, bytes that were said in part, and a complaint.
use Rattle.std.specs.Prelude.{◌≡◌, ◌⊎◌, ℕ, ◌<◌, ◌≤◌, List, length, take, Option, Some}
use Rattle.desk.specs.Seen.{Seen, with_file, with_said, with_complained}

-- The name has the first so many of these bytes and not all, or making it failed and nothing changed.
abbrev pub IsCut : List ℕ → List ℕ → ℕ → Seen → Option Seen → Type 0
IsCut name bytes given s new =
    ((given ≡ 0) × (new ≡ Some s)) ⊎ ((given < length bytes) × (new ≡ Some (with_file name (take given bytes) s)))

-- The first so many of these bytes were said and not all, and nothing else changed.
abbrev pub IsSaidShort : List ℕ → ℕ → Seen → Option Seen → Type 0
IsSaidShort bytes given s new = (given < length bytes) × (new ≡ Some (with_said (take given bytes) s))

-- Some first bytes of these were complained, and nothing else changed.
abbrev pub IsComplained : List ℕ → Seen → Option Seen → Type 0
IsComplained bytes s new = (n : ℕ) × (n ≤ length bytes) × (new ≡ Some (with_complained (take n bytes) s))
