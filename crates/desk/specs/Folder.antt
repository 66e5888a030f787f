-- Names with their contents, kept in memory.
use Rattle.std.specs.Prelude.{◌≡◌, ◌≢◌, ℕ, ◌<◌, List, [], length, map, slice_index_or, slice_set, ◌++◌, unwrap_or}
use Rattle.std.specs.String.{string_bytes}
use Rattle.std.specs.Ordering.{nat_cmp}
use Rattle.std.specs.Cmp.Lexicographic.{slice_cmp}
use Rattle.std.specs.FinMap.{FinMap, get, from_entries}
use Rattle.desk.specs.declared.folder.File.{File}

-- a file as its name and its bytes
abbrev pub entry : File → List ℕ × List ℕ
entry f = (string_bytes f.name, f.bytes.items)

-- the contents by name; of two files of one name the first counts
abbrev pub files_of : List File → FinMap (slice_cmp nat_cmp) (List ℕ)
files_of fs = from_entries (map entry fs)

-- the contents of a name, none where it isn't there
abbrev pub bytes_of : FinMap (slice_cmp nat_cmp) (List ℕ) → List ℕ → List ℕ
bytes_of m name = unwrap_or (get m name) []

-- the entry at a place: a name and its bytes
abbrev pub entry_at : List (List ℕ × List ℕ) → ℕ → List ℕ × List ℕ
entry_at es i = slice_index_or es i ([], [])

-- the first entry of a name
abbrev pub IsFirst : List ℕ → List (List ℕ × List ℕ) → ℕ → Type 0
IsFirst name es i = (i < length es) × ((entry_at es i).0 ≡ name) × ((k : ℕ) → k < i → (entry_at es k).0 ≢ name)

-- no entry has the name
abbrev pub IsNowhere : List ℕ → List (List ℕ × List ℕ) → Type 0
IsNowhere name es = (k : ℕ) → k < length es → (entry_at es k).0 ≢ name

-- the entry at a place keeps its name and has these bytes
abbrev pub IsReplaced : (old : List (List ℕ × List ℕ)) → ℕ → List ℕ → (new : List (List ℕ × List ℕ)) → Type 0
IsReplaced old i bytes new = new ≡ slice_set old i ((entry_at old i).0, bytes)

-- and these behind those that it had
abbrev pub IsExtended : (old : List (List ℕ × List ℕ)) → ℕ → List ℕ → (new : List (List ℕ × List ℕ)) → Type 0
IsExtended old i bytes new = IsReplaced old i ((entry_at old i).1 ++ bytes) new
