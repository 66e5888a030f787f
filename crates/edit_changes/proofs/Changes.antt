-- Each accepted edit changes the board as it says.
use Rattle.std.proofs.Common.{◌≡◌, sym, subst, ℕ, List, None}
use Rattle.sexpr_text.specs.Items.{Item}
use Rattle.sexpr_text.specs.Trees.{IsRoot}
use Rattle.text_splices.specs.Splice.{IsSplice}
use Rattle.board_language.specs.declared.board.Rules.{Rules}
use Rattle.board_language.specs.Board.{Board}
use Rattle.board_language.specs.Reading.{IsAccepted, board_of}
use Rattle.board_language.specs.Stamps.{stamp_of}
use Rattle.edit_language.specs.declared.edit.Edit.{Edit}
use Rattle.edit_language.specs.declared.edit.Edit.TheVariants.{Track, Via, Drop, Priority, Clearance}
use Rattle.edit_language.specs.Scripts.{IsFormed}
use Rattle.edit_language.specs.Edited.{stamp_refusal, refusal_in, splice_in}
use Rattle.edit_language.proofs.Written.{written}
use Rattle.edit_changes.specs.Changes.{IsChange}
use Rattle.edit_changes.specs.Laws.{ChangeLaw}
use Rattle.edit_changes.proofs.AddedLaws.{board_at, track_change, via_change}
use Rattle.edit_changes.proofs.Dropped.{drop_change}
use Rattle.edit_changes.proofs.Priorities.{zone_named, priority_change}
use Rattle.edit_changes.proofs.Clearances.{clearance_change}

change : (text new : List ℕ) (root last : Item) (rules : Rules) (edit : Edit) → IsRoot text root → IsRoot new last → IsAccepted new last → IsFormed edit → refusal_in text root edit ≡ None
    → IsSplice text (splice_in text root edit).from (splice_in text root edit).to (splice_in text root edit).put new
    → IsChange text new rules edit (board_of text root rules) (board_of new last rules)
unfolding IsChange IsFormed stamp_refusal
change text new root last rules (Track from to width layer net stamp) r l ok w f s = track_change text new root last rules from to width layer net stamp r l ok w s
change text new root last rules (Via at size drill top bottom net stamp) r l ok w f s = via_change text new root last rules at size drill top bottom net stamp r l ok w s
change text new root last rules (Drop stamp) r l ok w f s = drop_change text new root last rules stamp r l s f
change text new root last rules (Priority stamp value) r l ok w f s =
    let z = zone_named (stamp_of text root stamp) f in
    priority_change text new root last rules stamp value w.1 r l s z.0 z.1
change text new root last rules (Clearance stamp value) r l ok w f s =
    let z = zone_named (stamp_of text root stamp) f in
    clearance_change text new root last rules stamp value w.1 r l s z.0 z.1

pub change_law : ChangeLaw
change_law text new rules b d edit w a h k =
    subst (λ (x : Board). IsChange text new rules edit x d) (sym (board_at text rules b a.put.root h a.put.is_root))
    (subst (λ (x : Board). IsChange text new rules edit (board_of text a.put.root rules) x) (sym k.board_is)
    (change text new a.put.root k.root rules edit a.put.is_root k.is_root k.accepted (written edit w) a.put.fits a.put.spliced))
