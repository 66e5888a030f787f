-- What a desk tells: contents by name, and the bytes that were said and complained.
use Rattle.std.specs.Prelude.{◌≡◌, ℕ, ◌≤◌, List, [], ◌++◌, length, take, drop, unwrap_or, Option, Some, IfSome}
use Rattle.std.specs.Option.{option_map}
use Rattle.std.specs.Ordering.{nat_cmp}
use Rattle.std.specs.Cmp.Lexicographic.{slice_cmp}
use Rattle.std.specs.FinMap.{FinMap, empty, get, insert}

-- contents by name, and what was said and complained since the desk was made
pub record Seen : Type 0 where
  pub files : FinMap (slice_cmp nat_cmp) (List ℕ)
  pub said : List ℕ
  pub complained : List ℕ

-- no names, and nothing said
abbrev pub nothing : Seen
nothing = record { files = empty; said = []; complained = [] }

-- the bytes of a name, none where it isn't there
abbrev pub content : List ℕ → Seen → List ℕ
content name s = unwrap_or (get s.files name) []

-- the name has these bytes, and all else is as before
abbrev pub with_file : List ℕ → List ℕ → Seen → Seen
with_file name bytes s = record { files = insert s.files name bytes; said = s.said; complained = s.complained }

-- the name has these bytes after those that it had, and all else is as before
abbrev pub appended : List ℕ → List ℕ → Seen → Seen
appended name bytes s = with_file name (content name s ++ bytes) s

-- these bytes are said behind those before, and all else is as before
abbrev pub with_said : List ℕ → Seen → Seen
with_said bytes s = record { files = s.files; said = s.said ++ bytes; complained = s.complained }

-- these bytes are complained behind those before, and all else is as before
abbrev pub with_complained : List ℕ → Seen → Seen
with_complained bytes s = record { files = s.files; said = s.said; complained = s.complained ++ bytes }

-- What is told goes from old to new by this change alone. A desk that tells nothing goes on to tell nothing.
abbrev pub Changes : (old new : Option Seen) → (Seen → Seen) → Type 0
Changes old new change = new ≡ option_map change old

-- a fact of what is told, where it is told
abbrev pub Told : Option Seen → (Seen → Type 0) → Type 0
Told told P = (s : Seen) → told ≡ Some s → P s

-- A read put n of the bytes from a place on at the front of the piece: none only where the place isn't before their end.
pub record Gives (bytes : List ℕ) (from : ℕ) (piece : List ℕ) (n : ℕ) : Type 0 where
  pub same : take n piece ≡ take n (drop from bytes)
  pub fits : n ≤ length (drop from bytes)
  pub more : n ≡ 0 → length bytes ≤ from

-- a read gives bytes of the name's contents, where these are told
abbrev pub ReadsFrom : Option Seen → List ℕ → ℕ → List ℕ → ℕ → Type 0
ReadsFrom told name from piece n = IfSome told (λ s. Gives (content name s) from piece n)
