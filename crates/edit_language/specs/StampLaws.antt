-- The laws of stamps: what the definitions say in the board's own lists.
use Rattle.std.specs.Prelude.{◌≡◌, ℕ, false, true, List, ◌∷◌, ◌++◌, slice_get, None, Some}
use Rattle.classes.specs.Classes.{IsOneOf}
use Rattle.sexpr_text.specs.Items.{Item}
use Rattle.board_text.specs.Things.{Placed, items_of_board}
use Rattle.board_language.specs.Tracks.{track_of, via_of}
use Rattle.board_language.specs.Zones.{zone_of}
use Rattle.board_language.specs.declared.board.Rules.{Rules}
use Rattle.board_text.specs.Items.{context_of}
use Rattle.board_language.specs.Reading.{board_of, IsAccepted}
use Rattle.board_text.specs.declared.stamped.Stamped.TheVariants.{Track, Via, Zone}
use Rattle.board_language.specs.Stamps.{has_stamp, stamp_of, bearer_of}

-- a stamp of a track is that of the board's track of this number, which is read of the item that has the stamp
abbrev pub TrackStampLaw : Type 0
TrackStampLaw =
    (text : List ℕ) (root : Item) (rules : Rules) (stamp : List ℕ) (n : ℕ) (p : Placed) → stamp_of text root stamp ≡ Some (Track n)
    → bearer_of text root stamp ≡ Some p → slice_get (board_of text root rules).tracks n ≡ Some (track_of (context_of text root) p.item)

-- and so for a via
abbrev pub ViaStampLaw : Type 0
ViaStampLaw =
    (text : List ℕ) (root : Item) (rules : Rules) (stamp : List ℕ) (n : ℕ) (p : Placed) → stamp_of text root stamp ≡ Some (Via n)
    → bearer_of text root stamp ≡ Some p → slice_get (board_of text root rules).vias n ≡ Some (via_of (context_of text root) p.item)

-- and for a copper zone
abbrev pub ZoneStampLaw : Type 0
ZoneStampLaw =
    (text : List ℕ) (root : Item) (rules : Rules) (stamp : List ℕ) (n : ℕ) (p : Placed) → stamp_of text root stamp ≡ Some (Zone n)
    → bearer_of text root stamp ≡ Some p → slice_get (board_of text root rules).zones n ≡ Some (zone_of (context_of text root) p.item)

-- an item that bears a stamp has it, and is one of the board's
abbrev pub BearerLaw : Type 0
BearerLaw =
    (text : List ℕ) (root : Item) (stamp : List ℕ) (p : Placed) → bearer_of text root stamp ≡ Some p
    → IsOneOf p (items_of_board text root) × (has_stamp text stamp p ≡ true)

-- where a stamp is nothing's, no item of the board has it
abbrev pub NoBearerLaw : Type 0
NoBearerLaw =
    (text : List ℕ) (root : Item) (stamp : List ℕ) → stamp_of text root stamp ≡ None → (p : Placed)
    → IsOneOf p (items_of_board text root) → has_stamp text stamp p ≡ false

-- in an accepted board no two things have one stamp
abbrev pub OneBearerLaw : Type 0
OneBearerLaw =
    (text : List ℕ) (root : Item) (stamp : List ℕ) (before after other behind : List Placed) (p q : Placed) → IsAccepted text root
    → items_of_board text root ≡ before ++ p ∷ after → items_of_board text root ≡ other ++ q ∷ behind
    → has_stamp text stamp p ≡ true → has_stamp text stamp q ≡ true → (before ≡ other) × (p ≡ q)
