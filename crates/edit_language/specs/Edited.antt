-- A board's text after edits, and the first edit that is refused.
use Rattle.std.specs.Prelude.{◌≡◌, ℕ, ◌+◌, List, [], ◌∷◌, ◌++◌, length, Option, None, Some}
use Rattle.sexpr_text.specs.Items.{Item}
use Rattle.sexpr_text.specs.Trees.{IsRoot}
use Rattle.text_splices.specs.Splice.{IsSplice}
use Rattle.board_text.specs.Things.{Placed}
use Rattle.board_language.specs.declared.board.Rules.{Rules}
use Rattle.board_language.specs.Board.{Board}
use Rattle.board_language.specs.Reading.{IsAccepted, IsOffence, board_of}
use Rattle.edit_language.specs.declared.edit.Edit.{Edit}
use Rattle.edit_language.specs.declared.edit.Edit.TheVariants as edits
use Rattle.board_language.specs.declared.offence.Offence.{Offence}
use Rattle.edit_language.specs.declared.edit.EditRefusal.{EditRefusal}
use Rattle.edit_language.specs.declared.edit.EditRefusal.TheVariants.{NoStamp, WrongKind, StampTaken, Breaks}
use Rattle.board_text.specs.declared.stamped.Stamped.{Stamped}
use Rattle.board_text.specs.declared.stamped.Stamped.TheVariants.{Track, Via, Zone, Other}
use Rattle.board_language.specs.Stamps.{stamp_of, bearer_of}
use Rattle.edit_language.specs.Splices.{Splice, splice_of}

-- ---- stamps

-- the stamp that an edit gives or names
abbrev pub edit_stamp : Edit → List ℕ
edit_stamp (edits.Track from to width layer net stamp) = stamp
edit_stamp (edits.Via at size drill top bottom net stamp) = stamp
edit_stamp (edits.Drop stamp) = stamp
edit_stamp (edits.Priority stamp value) = stamp
edit_stamp (edits.Clearance stamp value) = stamp

-- a new thing's stamp is one that nothing has
abbrev pub if_taken : Option Stamped → Option EditRefusal
if_taken None = None
if_taken (Some thing) = Some StampTaken

-- a track or via is dropped, and nothing else
abbrev pub if_no_copper : Option Stamped → Option EditRefusal
if_no_copper None = Some NoStamp
if_no_copper (Some (Track n)) = None
if_no_copper (Some (Via n)) = None
if_no_copper (Some (Zone n)) = Some WrongKind
if_no_copper (Some Other) = Some WrongKind

-- a copper zone that is read is set, and nothing else
abbrev pub if_no_zone : Option Stamped → Option EditRefusal
if_no_zone None = Some NoStamp
if_no_zone (Some (Zone n)) = None
if_no_zone (Some (Track n)) = Some WrongKind
if_no_zone (Some (Via n)) = Some WrongKind
if_no_zone (Some Other) = Some WrongKind

-- why an edit is refused for what has its stamp
unfoldable pub stamp_refusal : Edit → Option Stamped → Option EditRefusal
stamp_refusal (edits.Track from to width layer net stamp) thing = if_taken thing
stamp_refusal (edits.Via at size drill top bottom net stamp) thing = if_taken thing
stamp_refusal (edits.Drop stamp) thing = if_no_copper thing
stamp_refusal (edits.Priority stamp value) thing = if_no_zone thing
stamp_refusal (edits.Clearance stamp value) thing = if_no_zone thing

-- why an edit of this text is refused for the thing with its stamp, if it is
abbrev pub refusal_in : List ℕ → Item → Edit → Option EditRefusal
refusal_in text board edit = stamp_refusal edit (stamp_of text board (edit_stamp edit))

-- ---- one edit

-- the item that was found; the board where none was
abbrev pub item_or : Item → Option Placed → Item
item_or board None = board
item_or board (Some p) = p.item

-- what the edit takes out of the text of this board, and what it puts in
unfoldable pub splice_in : List ℕ → Item → Edit → Splice
splice_in text board edit = splice_of text board edit (item_or board (bearer_of text board (edit_stamp edit)))

-- the text is that of an accepted board
pub record IsBoardText (text : List ℕ) : Type 0 where
  pub root : Item
  pub is_root : IsRoot text root
  pub accepted : IsAccepted text root

-- the edit's stamp is right, and the new text is the old one with the edit's splice
pub record IsPut (text : List ℕ) (edit : Edit) (new : List ℕ) : Type 0 where
  pub root : Item
  pub is_root : IsRoot text root
  pub fits : refusal_in text root edit ≡ None
  pub spliced : IsSplice text (splice_in text root edit).from (splice_in text root edit).to (splice_in text root edit).put new

-- the edit makes this text, and nothing offends in its board
pub record IsAcceptedEdit (text : List ℕ) (edit : Edit) (new : List ℕ) : Type 0 where
  pub put : IsPut text edit new
  pub board : IsBoardText new

-- the edit is refused for its stamp
pub record IsStampRefused (text : List ℕ) (edit : Edit) (refusal : EditRefusal) : Type 0 where
  pub root : Item
  pub is_root : IsRoot text root
  pub refused : refusal_in text root edit ≡ Some refusal

-- the edit's stamp is right, and in the board of the text that it makes this offends first
pub record IsBreaking (text : List ℕ) (edit : Edit) (offence : Offence) : Type 0 where
  pub new : List ℕ
  pub put : IsPut text edit new
  pub root : Item
  pub is_root : IsRoot new root
  pub offends : IsOffence new root offence.at offence.line offence.kind

-- the edit is refused, and why
unfoldable pub IsEditRefused : List ℕ → Edit → EditRefusal → Type 0
IsEditRefused text edit NoStamp = IsStampRefused text edit NoStamp
IsEditRefused text edit WrongKind = IsStampRefused text edit WrongKind
IsEditRefused text edit StampTaken = IsStampRefused text edit StampTaken
IsEditRefused text edit (Breaks offence) = IsBreaking text edit offence

-- ---- a list of edits

-- each edit is accepted, on the text that those before it make, and the last makes this one
unfoldable pub IsEdited : List ℕ → List Edit → List ℕ → Type 0
IsEdited text [] new = new ≡ text
IsEdited text (edit ∷ more) new = (next : List ℕ) × IsAcceptedEdit text edit next × IsEdited next more new

-- the edit of this number, from 1, is the first that is refused, on the text that those before it make
pub record IsRefusedEdit (text : List ℕ) (list : List Edit) (index : ℕ) (refusal : EditRefusal) : Type 0 where
  pub before : List Edit
  pub edit : Edit
  pub after : List Edit
  pub stands : list ≡ before ++ edit ∷ after
  pub so_far : List ℕ
  pub accepted : IsEdited text before so_far
  pub refused : IsEditRefused so_far edit refusal
  pub index_is : index ≡ length before + 1

-- ---- boards

-- the board of an accepted text
pub record IsBoardOf (text : List ℕ) (rules : Rules) (board : Board) : Type 0 where
  pub root : Item
  pub is_root : IsRoot text root
  pub accepted : IsAccepted text root
  pub board_is : board ≡ board_of text root rules
