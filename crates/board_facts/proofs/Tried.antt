-- What is read of an item of an accepted board is read of one that was tried, and has no offence.
use Rattle.std.proofs.Common.{◌≡◌, refl, sym, ap, ◌∙◌, ℕ, zero, suc, ◌<◌, inl, inr, arith, true, List, [], ◌∷◌, ◌++◌, length, get_or, Option, None, Some}
use Rattle.std.specs.Prelude.{filter_map}
use Rattle.std.specs.List.{All, cons_option}
use Rattle.classes.specs.Classes.{IsOneOf}
use Rattle.sexpr_text.specs.Items.{Item}
use Rattle.outline_slab.specs.declared.error.OutlineFault.{OutlineFault}
use Rattle.board_text.specs.Things.{Placed, Thing, thing_of}
use Rattle.board_text.specs.Items.{Context}
use Rattle.board_language.specs.Zones.{corners_read}
use Rattle.board_language.specs.Offences.{IsOutlineResult, has_outline, kind_as, kind_with}
use Rattle.board_language.specs.Reading.{AreSound}

-- ---- lists

-- an item stands in the list, and what is got of it is this
pub record IsGot {X Y : Type 0} (f : X → Option Y) (xs : List X) (y : Y) : Type 0 where
  pub before : List X
  pub behind : List X
  pub item : X
  pub stands : xs ≡ before ++ item ∷ behind
  pub got : f item ≡ Some y

pub got_in : {X Y : Type 0} (f : X → Option Y) (xs : List X) (y : Y) → IsOneOf y (filter_map f xs) → IsGot f xs y
unfolding IsOneOf
got_in f [] y i = absurd i
got_in {X} {Y} f (x ∷ xs) y i = by_first (f x) refl i (got_in f xs y)
  where
    later : IsGot f xs y → IsGot f (x ∷ xs) y
    later g = record { before = x ∷ g.before; behind = g.behind; item = g.item; stands = ap (λ ys. x ∷ ys) g.stands; got = g.got }

    by_first : (o : Option Y) → f x ≡ o → IsOneOf y (cons_option o (filter_map f xs)) → (IsOneOf y (filter_map f xs) → IsGot f xs y) → IsGot f (x ∷ xs) y
    by_first None e j more = later (more j)
    by_first (Some z) e (inl same) more = record { before = []; behind = xs; item = x; stands = refl; got = e ∙ ap Some (sym same) }
    by_first (Some z) e (inr j) more = later (more j)

pub all_of_members : {A : Type 0} (P : A → Type 0) (xs : List A) → ((x : A) → IsOneOf x xs → P x) → All P xs
unfolding IsOneOf
all_of_members P [] h = λ k d l. absurd (omega (arith, l))
all_of_members {A} P (x ∷ xs) h = λ k d l. by_place (all_of_members P xs (λ y i. h y (inr i))) k d l
  where
    by_place : All P xs → (k : ℕ) (d : A) → k < length (x ∷ xs) → P (get_or (x ∷ xs) k d)
    by_place more zero d l = h x (inl refl)
    by_place more (suc k) d l = more k d (omega (arith, l))

-- ---- items

pub record IsTried (c : Context) (items : List Placed) {Y : Type 0} (from : Context → Item → Thing → Option Y) (y : Y) : Type 0 where
  pub before : List Placed
  pub behind : List Placed
  pub item : Placed
  pub stands : items ≡ before ++ item ∷ behind
  pub got : from c item.item (thing_of c.bytes item) ≡ Some y
  pub outline : Option OutlineFault
  pub is_outline : has_outline c item.item (thing_of c.bytes item) ≡ true → IsOutlineResult (corners_read c.bytes item.item) outline
  pub none : None ≡ kind_as c before item outline (thing_of c.bytes item)

pub tried : {Y : Type 0} (c : Context) (items : List Placed) (from : Context → Item → Thing → Option Y) (y : Y) → AreSound c items
    → IsOneOf y (filter_map (λ (p : Placed). from c p.item (thing_of c.bytes p)) items) → IsTried c items from y
unfolding kind_with
tried c items from y sound i =
    let g = got_in (λ (p : Placed). from c p.item (thing_of c.bytes p)) items y i in
    let k = sound g.before g.behind g.item g.stands in
    record { before = g.before; behind = g.behind; item = g.item; stands = g.stands; got = g.got; outline = k.outline; is_outline = k.is_outline; none = k.is_kind }
