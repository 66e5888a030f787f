-- A list of items, one after another: what is read of them all, and the first that offends.
use Rattle.std.specs.Prelude.{◌≡◌, ◌⊎◌, ℕ, ⊤, List, [], ◌∷◌, Option, None, Some}
use Rattle.sexpr_text.specs.Items.{Item}
use Rattle.board_language.specs.declared.offence.OffenceKind.{OffenceKind}
use Rattle.board_text.specs.Things.{Placed, Root, OnBoard, InFootprint, Thing, thing_of}
use Rattle.board_text.specs.Items.{Context, line_of}
use Rattle.board_language.specs.declared.offence.Offence.{Offence}
use Rattle.board_model.specs.declared.error.BoardError.{BoardError}
use Rattle.board_model.specs.declared.error.BoardError.TheVariants.{Memory, Bad}
use Rattle.board_model.specs.State.{State}
use Rattle.board_model.specs.Steps.{IsKindBy, after_as}

unfoldable pub after : Context → State → Placed → State
after c s p = after_as c s p.item (thing_of c.bytes p)

unfoldable pub after_all : Context → State → List Placed → State
after_all c s [] = s
after_all c s (p ∷ ps) = after_all c (after c s p) ps

-- the item doesn't offend
abbrev pub IsSoundItem : Context → State → Placed → Type 0
IsSoundItem c s p = IsKindBy c s p.item (thing_of c.bytes p) None

-- the item offends so
pub record Offends (c : Context) (s : State) (p : Placed) (o : Offence) : Type 0 where
  pub is_kind : IsKindBy c s p.item (thing_of c.bytes p) (Some o.kind)
  pub at_item : o.at ≡ p.item.from
  pub on_line : o.line ≡ line_of c.bytes o.at

unfoldable pub AreSoundFrom : Context → State → List Placed → Type 0
AreSoundFrom c s [] = ⊤
AreSoundFrom c s (p ∷ ps) = IsSoundItem c s p × AreSoundFrom c (after c s p) ps

-- the first item of the list that offends, offends so
unfoldable pub OffendsFirst : Context → State → List Placed → Offence → Type 0
OffendsFirst c s [] o = ⊥
OffendsFirst c s (p ∷ ps) o = Offends c s p o ⊎ (IsSoundItem c s p × OffendsFirst c (after c s p) ps o)

-- none of the items offends, and this is read of them
pub record AreRead (c : Context) (s : State) (items : List Placed) (new : State) : Type 0 where
  pub sound : AreSoundFrom c s items
  pub state : new ≡ after_all c s items

-- why the items aren't read: want of memory, or the first that offends
abbrev pub IsStop : Context → State → List Placed → BoardError → Type 0
IsStop c s items Memory = Unit {0}
IsStop c s items (Bad o) = OffendsFirst c s items o

-- an item was tried: it offends so, or it doesn't and was read
pub record IsTried (c : Context) (s : State) (item : Item) (thing : Thing) (new : State) (kind : Option OffenceKind) : Type 0 where
  pub is_kind : IsKindBy c s item thing kind
  pub after : kind ≡ None → new ≡ after_as c s item thing

-- the offence of an item at this place and line, of this kind
abbrev pub IsOf : ℕ → ℕ → Option OffenceKind → BoardError → Type 0
IsOf at line kind Memory = ⊥
IsOf at line kind (Bad o) = (o.at ≡ at) × (o.line ≡ line) × (kind ≡ Some o.kind)

abbrev pub the_board : Item → Placed
the_board item = record { item = item; site = Root }

abbrev pub on_the_board : Item → Placed
on_the_board item = record { item = item; site = OnBoard }

abbrev pub in_the_footprint : Item → Item → Placed
in_the_footprint footprint item = record { item = item; site = InFootprint footprint }
