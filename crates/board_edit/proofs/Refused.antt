-- Why an edit isn't made.
use Rattle.std.proofs.Common.{◌≡◌, ◌∙◌, subst, ℕ, List, Option, None, Some}
use Rattle.sexpr_text.specs.Grammar.Forest.{Nil, Group}
use Rattle.sexpr_text.specs.Items.{Item}
use Rattle.sexpr_text.specs.Trees.{IsRoot}
use Rattle.sexpr_text.specs.Faults.{IsFault}
use Rattle.sexpr_text.specs.declared.error.TextKind.{TextKind}
use Rattle.sexpr_text.proofs.FaultLaws.{no_fault}
use Rattle.board_text.specs.declared.stamped.Stamped.{Stamped}
use Rattle.board_text.specs.declared.stamped.Stamped.TheVariants as stamped
use Rattle.board_items.specs.Stamps as tables
use Rattle.board_model.specs.Whole.{Whole}
use Rattle.edit_language.specs.declared.edit.Edit.{Edit}
use Rattle.edit_language.specs.declared.edit.Edit.TheVariants.{Track, Via, Drop, Priority, Clearance}
use Rattle.edit_language.specs.declared.edit.EditRefusal.{EditRefusal}
use Rattle.edit_language.specs.declared.edit.EditRefusal.TheVariants.{NoStamp, WrongKind, StampTaken, Breaks}
use Rattle.edit_language.specs.Scripts.{IsWritten}
use Rattle.edit_language.specs.Edited.{edit_stamp, if_taken, if_no_copper, if_no_zone, stamp_refusal, IsPut, IsAcceptedEdit, IsEditRefused}
use Rattle.edit_language.proofs.Written.{written}
use Rattle.edit_language.proofs.Spells.{spell_law}
use Rattle.board_edit.specs.declared.error.EditError.{EditError}
use Rattle.board_edit.specs.declared.error.EditError.TheVariants.{Memory, Bad}
use Rattle.board_edit.specs.Edited.{IsReadOf, IsEditRefusal}
use Rattle.board_edit.specs.Inner.Boards.{IsBoardRefusal}
use Rattle.board_edit.proofs.Boards.{refusal_is}

-- ---- for the stamp

-- a refusal for a stamp, if any
abbrev IsForStamp : Option EditRefusal → Type 0
IsForStamp None = Unit {0}
IsForStamp (Some NoStamp) = Unit {0}
IsForStamp (Some WrongKind) = Unit {0}
IsForStamp (Some StampTaken) = Unit {0}
IsForStamp (Some (Breaks offence)) = ⊥

taken_so : (o : Option Stamped) → IsForStamp (if_taken o)
taken_so None = tt
taken_so (Some s) = tt

copper_so : (o : Option Stamped) → IsForStamp (if_no_copper o)
copper_so None = tt
copper_so (Some (stamped.Track n)) = tt
copper_so (Some (stamped.Via n)) = tt
copper_so (Some (stamped.Zone n)) = tt
copper_so (Some stamped.Other) = tt

zone_so : (o : Option Stamped) → IsForStamp (if_no_zone o)
zone_so None = tt
zone_so (Some (stamped.Track n)) = tt
zone_so (Some (stamped.Via n)) = tt
zone_so (Some (stamped.Zone n)) = tt
zone_so (Some stamped.Other) = tt

stamp_so : (edit : Edit) (o : Option Stamped) → IsForStamp (stamp_refusal edit o)
unfolding stamp_refusal
stamp_so (Track from to width layer net stamp) o = taken_so o
stamp_so (Via at size drill top bottom net stamp) o = taken_so o
stamp_so (Drop stamp) o = copper_so o
stamp_so (Priority stamp value) o = zone_so o
stamp_so (Clearance stamp value) o = zone_so o

pub stamp_refused : (text : List ℕ) (w : Whole) (edit : Edit) (o : Option Stamped) (refusal : EditRefusal) → IsReadOf text w → o ≡ tables.stamped w.stamps (edit_stamp edit)
    → stamp_refusal edit o ≡ Some refusal → IsEditRefused text edit refusal
unfolding IsEditRefused
stamp_refused text w edit o NoStamp h e f = record { root = h.root; is_root = h.is_root; refused = refusal_is text w edit o h e ∙ f }
stamp_refused text w edit o WrongKind h e f = record { root = h.root; is_root = h.is_root; refused = refusal_is text w edit o h e ∙ f }
stamp_refused text w edit o StampTaken h e f = record { root = h.root; is_root = h.is_root; refused = refusal_is text w edit o h e ∙ f }
stamp_refused text w edit o (Breaks offence) h e f = absurd (subst IsForStamp f (stamp_so edit o))

-- ---- for the new board

-- the new text is one list
pub spelt : (text : List ℕ) (edit : Edit) (new : List ℕ) → IsWritten edit → IsPut text edit new → (root : Item) × IsRoot new root
spelt text edit new w p = spell_law text edit new (written edit w) p

-- so it has no fault
pub faultless : (text : List ℕ) (root : Item) (at : ℕ) (kind : TextKind) → IsRoot text root → IsFault text at kind → ⊥
faultless text root at kind r f = no_fault text (Group root.from root.to root.inner Nil) at kind r.spelt f

pub breaks : (text : List ℕ) (edit : Edit) (new : List ℕ) (e : EditError) → IsPut text edit new → IsBoardRefusal new e → IsEditRefusal text edit e
unfolding IsEditRefused
breaks text edit new Memory p b = tt
breaks text edit new (Bad (Breaks offence)) p b = record { new = new; put = p; root = b.root; is_root = b.is_root; offends = b.offends }
breaks text edit new (Bad NoStamp) p b = absurd b
breaks text edit new (Bad WrongKind) p b = absurd b
breaks text edit new (Bad StampTaken) p b = absurd b

pub accepted : (text : List ℕ) (edit : Edit) (new : List ℕ) (w : Whole) → IsPut text edit new → IsReadOf new w → IsAcceptedEdit text edit new
accepted text edit new w p h = record { put = p; board = record { root = h.root; is_root = h.is_root; accepted = h.accepted } }
