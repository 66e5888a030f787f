-- What a caller over any desk says of the room, over several calls.
use Rattle.std.proofs.Common.{◌≡◌, ◌≢◌, ℕ, ◌+◌, ◌≤◌, true, false, List, ◌++◌, length, refl, ◌∙◌, ap, sym, subst, arith, Option, Some, None, is_some, cond}
use Rattle.std.specs.FinMap.{get}
use Rattle.std.specs.Option.{option_map}
use Rattle.desk.specs.Seen.{Seen, Changes, with_file, appended, content, with_said, with_complained}
use Rattle.desk.specs.Room.{cost_of, HasRoomTold, Spends}
use Rattle.desk.proofs.Files.{get-insert_same, get-insert_other}

pub has_less : (room : Option ℕ) (m n : ℕ) → m ≤ n → HasRoomTold room n → HasRoomTold room m
has_less None m n le h = tt
has_less (Some r) m n le h = omega arith

pub spends_nothing : (before now : Option ℕ) (n : ℕ) → now ≡ before → Spends before now n
spends_nothing before now n e = subst (λ x. Spends before x n) (sym e) (same before n)
  where
    same : (o : Option ℕ) (n : ℕ) → Spends o o n
    same None n = tt
    same (Some r) n = omega arith

pub spends_more : (before now : Option ℕ) (m n : ℕ) → m ≤ n → Spends before now m → Spends before now n
spends_more None None m n le h = tt
spends_more (Some r) (Some l) m n le h = omega arith
spends_more (Some r) None m n le h = h
spends_more None (Some l) m n le h = h

pub spends_both : (a b c : Option ℕ) (m n : ℕ) → Spends a b m → Spends b c n → Spends a c (m + n)
spends_both None None None m n h k = tt
spends_both (Some x) (Some y) (Some z) m n h k = omega arith
spends_both None None (Some z) m n h k = k
spends_both None (Some y) c m n h k = absurd h
spends_both (Some x) None c m n h k = absurd h
spends_both (Some x) (Some y) None m n h k = k

-- what is left for the calls after
pub room_left : (before now : Option ℕ) (m n : ℕ) → HasRoomTold before (m + n) → Spends before now m → HasRoomTold now n
room_left None None m n h s = tt
room_left (Some r) (Some l) m n h s = omega arith
room_left None (Some l) m n h s = absurd s
room_left (Some r) None m n h s = absurd s

cost_of_some : (o : Option (List ℕ)) (x name : List ℕ) → o ≡ Some x → cond (is_some o) 0 (length name) ≡ 0
cost_of_some None x name e = cc
cost_of_some (Some y) x name e = refl

pub cost_within : (told : Option Seen) (name : List ℕ) → cost_of told name ≤ length name
cost_within None name = omega arith
cost_within (Some s) name = elim (is_some (get s.files name)) as (λ b. cond b 0 (length name) ≤ length name) [ true ↦ omega arith | false ↦ omega arith ]

-- a name that was made costs nothing more, and each other name what it did
pub cost-with_file : (told new : Option Seen) (name bytes : List ℕ) → Changes told new (with_file name bytes) → cost_of new name ≡ 0
cost-with_file told new name bytes e = ap (λ o. cost_of o name) e ∙ made told
  where
    made : (o : Option Seen) → cost_of (option_map (with_file name bytes) o) name ≡ 0
    made None = refl
    made (Some s) = cost_of_some _ bytes name (get-insert_same s.files name bytes)

pub cost-appended : (told new : Option Seen) (name bytes : List ℕ) → Changes told new (appended name bytes) → cost_of new name ≡ 0
cost-appended told new name bytes e = ap (λ o. cost_of o name) e ∙ made told
  where
    made : (o : Option Seen) → cost_of (option_map (appended name bytes) o) name ≡ 0
    made None = refl
    made (Some s) = cost_of_some _ _ name (get-insert_same s.files name (content name s ++ bytes))

pub cost-with_other : (told new : Option Seen) (q name bytes : List ℕ) → q ≢ name → Changes told new (with_file name bytes) → cost_of new q ≡ cost_of told q
cost-with_other told new q name bytes ne e = ap (λ o. cost_of o q) e ∙ kept told
  where
    kept : (o : Option Seen) → cost_of (option_map (with_file name bytes) o) q ≡ cost_of o q
    kept None = refl
    kept (Some s) = ap (λ o. cond (is_some o) 0 (length q)) (get-insert_other s.files name bytes q ne)

pub cost-with_said : (told new : Option Seen) (name bytes : List ℕ) → Changes told new (with_said bytes) → cost_of new name ≡ cost_of told name
cost-with_said told new name bytes e = ap (λ o. cost_of o name) e ∙ kept told
  where
    kept : (o : Option Seen) → cost_of (option_map (with_said bytes) o) name ≡ cost_of o name
    kept None = refl
    kept (Some s) = refl

pub cost-with_complained : (told new : Option Seen) (name bytes : List ℕ) → Changes told new (with_complained bytes) → cost_of new name ≡ cost_of told name
cost-with_complained told new name bytes e = ap (λ o. cost_of o name) e ∙ kept told
  where
    kept : (o : Option Seen) → cost_of (option_map (with_complained bytes) o) name ≡ cost_of o name
    kept None = refl
    kept (Some s) = refl
