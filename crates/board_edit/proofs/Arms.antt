-- The splice of each kind of edit, as the code makes it.
use Rattle.std.proofs.Common.{◌≡◌, ◌∙◌, ap, sym, subst, ℕ, ◌<◌, List, length, Option, None, Some, Result, Ok, Err}
use Rattle.std.specs.Prelude.{All, IfOk, IfSome}
use Rattle.std.proofs.lemmas.Option.{none-some, slice_get_within, get_or_from_slice_get}
use Rattle.grid_num.specs.declared.Point.{Point}
use Rattle.sexpr_text.specs.Items.{Item}
use Rattle.sexpr_text.specs.Trees.{IsRoot}
use Rattle.sexpr_text.specs.declared.Span.{Span}
use Rattle.board_text.specs.declared.stamped.Stamped.{Stamped}
use Rattle.board_text.specs.declared.stamped.Stamped.TheVariants as stamped
use Rattle.board_language.specs.declared.board.Zone.{Zone}
use Rattle.board_items.specs.Stamps as tables
use Rattle.board_facts.specs.Places.{IsPlacedZone}
use Rattle.board_facts.proofs.Spans.{places}
use Rattle.board_model.specs.Whole.{Whole}
use Rattle.edit_language.specs.declared.edit.Edit.{Edit}
use Rattle.edit_language.specs.declared.edit.Edit.TheVariants.{Track, Via, Drop, Priority, Clearance}
use Rattle.edit_language.specs.Scripts.{IsPointInRange, IsSize, IsFormed}
use Rattle.edit_language.specs.Splices.{Splice, put_before_close, take_out, track_line, via_line, priority_splice, clearance_splice}
use Rattle.edit_language.specs.Edited.{edit_stamp, if_no_copper, if_no_zone, stamp_refusal, splice_in}
use Rattle.edit_facts.proofs.InText.{zone_law}
use Rattle.board_edit.specs.Edited.{IsReadOf}
use Rattle.board_edit.specs.Inner.Things.{copper_span, zone_in}
use Rattle.board_edit.proofs.Boards.{track_splice, via_splice, drop_splice, priority_is, clearance_is}

pub ok_so : {A E : Type 0} (r : Result A E) (P Q : A → Type 0) → ((a : A) → P a → Q a) → IfOk r P → IfOk r Q
ok_so (Ok a) P Q f h = f a h
ok_so (Err e) P Q f h = tt

-- ---- what the edit's form says

pub track_form : (edit : Edit) (from to : Point) (width : ℕ) (layer : List ℕ) (net : ℕ) (stamp : List ℕ) → edit ≡ Track from to width layer net stamp → IsFormed edit
    → IsPointInRange from × IsPointInRange to × IsSize width
unfolding IsFormed
track_form edit from to width layer net stamp e f = let g : IsFormed (Track from to width layer net stamp) = subst IsFormed e f in (g.0, g.1, g.2)

pub via_form : (edit : Edit) (at : Point) (size drill : ℕ) (top bottom : List ℕ) (net : ℕ) (stamp : List ℕ) → edit ≡ Via at size drill top bottom net stamp → IsFormed edit
    → IsPointInRange at × IsSize size × IsSize drill
unfolding IsFormed
via_form edit at size drill top bottom net stamp e f = let g : IsFormed (Via at size drill top bottom net stamp) = subst IsFormed e f in (g.0, g.1, g.2)

pub clearance_form : (edit : Edit) (stamp : List ℕ) (value : ℕ) → edit ≡ Clearance stamp value → IsFormed edit → IsSize value
unfolding IsFormed
clearance_form edit stamp value e f = let g : IsFormed (Clearance stamp value) = subst IsFormed e f in g.1

-- ---- what its stamp says

pub drop_kind : (edit : Edit) (stamp : List ℕ) (o : Option Stamped) → edit ≡ Drop stamp → stamp_refusal edit o ≡ None → if_no_copper o ≡ None
unfolding stamp_refusal
drop_kind edit stamp o e f = subst (λ k. stamp_refusal k o ≡ None) e f

pub priority_kind : (edit : Edit) (stamp : List ℕ) (value : ℕ) (o : Option Stamped) → edit ≡ Priority stamp value → stamp_refusal edit o ≡ None → if_no_zone o ≡ None
unfolding stamp_refusal
priority_kind edit stamp value o e f = subst (λ k. stamp_refusal k o ≡ None) e f

pub clearance_kind : (edit : Edit) (stamp : List ℕ) (value : ℕ) (o : Option Stamped) → edit ≡ Clearance stamp value → stamp_refusal edit o ≡ None → if_no_zone o ≡ None
unfolding stamp_refusal
clearance_kind edit stamp value o e f = subst (λ k. stamp_refusal k o ≡ None) e f

-- a zone's `connect_pads` has a closing parenthesis
pub connect_in : (text : List ℕ) (w : Whole) (o : Option Stamped) (zone : Zone) → IsReadOf text w → Some zone ≡ zone_in w.board o → IfSome zone.spans.connect (λ list. 0 < list.to)
connect_in text w None zone h s = absurd (none-some zone (sym s))
connect_in text w (Some (stamped.Track n)) zone h s = absurd (none-some zone (sym s))
connect_in text w (Some (stamped.Via n)) zone h s = absurd (none-some zone (sym s))
connect_in text w (Some (stamped.Zone n)) zone h s =
    let a : All (IsPlacedZone (length text)) w.board.zones = subst (λ (k : Whole). All (IsPlacedZone (length text)) k.board.zones) (sym h.board_is) ((places text h.root h.rules h.is_root).zones) in
    let p : IsPlacedZone (length text) zone = subst (IsPlacedZone (length text)) (get_or_from_slice_get w.board.zones n zone zone (sym s)) (a n zone (slice_get_within w.board.zones n zone (sym s))) in
    (zone_law (length text) zone 0 p).connect
connect_in text w (Some stamped.Other) zone h s = absurd (none-some zone (sym s))

-- ---- the splices

stamp_in : (w : Whole) (edit other : Edit) (o : Option Stamped) → edit ≡ other → o ≡ tables.stamped w.stamps (edit_stamp edit) → o ≡ tables.stamped w.stamps (edit_stamp other)
stamp_in w edit other o e t = t ∙ ap (λ k. tables.stamped w.stamps (edit_stamp k)) e

pub track_made : (text : List ℕ) (root : Item) (w : Whole) (board : Span) (from to : Point) (width net v : ℕ) (l t layer stamp : List ℕ) (edit : Edit) (s : Splice) → IsReadOf text w → IsRoot text root
    → board.to ≡ root.to → v ≡ w.version → l ≡ layer → t ≡ stamp → edit ≡ Track from to width layer net stamp → s ≡ put_before_close board (track_line v from to width l net t)
    → s ≡ splice_in text root edit
track_made text root w board from to width net v l t layer stamp edit s h r b ev el et ee es =
    es
    ∙ ap (λ k. put_before_close board (track_line k from to width l net t)) ev
    ∙ ap (λ k. put_before_close board (track_line w.version from to width k net t)) el
    ∙ ap (λ k. put_before_close board (track_line w.version from to width layer net k)) et
    ∙ track_splice text root w board from to width layer net stamp h r b
    ∙ ap (splice_in text root) (sym ee)

pub via_made : (text : List ℕ) (root : Item) (w : Whole) (board : Span) (at : Point) (size drill net v : ℕ) (a b t top bottom stamp : List ℕ) (edit : Edit) (s : Splice) → IsReadOf text w → IsRoot text root
    → board.to ≡ root.to → v ≡ w.version → a ≡ top → b ≡ bottom → t ≡ stamp → edit ≡ Via at size drill top bottom net stamp → s ≡ put_before_close board (via_line v at size drill a b net t)
    → s ≡ splice_in text root edit
via_made text root w board at size drill net v a b t top bottom stamp edit s h r e ev ea eb et ee es =
    es
    ∙ ap (λ k. put_before_close board (via_line k at size drill a b net t)) ev
    ∙ ap (λ k. put_before_close board (via_line w.version at size drill k b net t)) ea
    ∙ ap (λ k. put_before_close board (via_line w.version at size drill top k net t)) eb
    ∙ ap (λ k. put_before_close board (via_line w.version at size drill top bottom net k)) et
    ∙ via_splice text root w board at size drill top bottom net stamp h r e
    ∙ ap (splice_in text root) (sym ee)

pub drop_made : (text : List ℕ) (root : Item) (w : Whole) (stamp : List ℕ) (o : Option Stamped) (span : Span) (edit : Edit) (s : Splice) → IsReadOf text w → IsRoot text root
    → o ≡ tables.stamped w.stamps (edit_stamp edit) → edit ≡ Drop stamp → Some span ≡ copper_span w.board o → s ≡ take_out span → s ≡ splice_in text root edit
drop_made text root w stamp o span edit s h r t e c es =
    es ∙ drop_splice text root w stamp o span h r (stamp_in w edit (Drop stamp) o e t) c ∙ ap (splice_in text root) (sym e)

pub priority_made : (text : List ℕ) (root : Item) (w : Whole) (stamp : List ℕ) (value : ℕ) (o : Option Stamped) (zone : Zone) (edit : Edit) (s : Splice) → IsReadOf text w → IsRoot text root
    → o ≡ tables.stamped w.stamps (edit_stamp edit) → edit ≡ Priority stamp value → Some zone ≡ zone_in w.board o → s ≡ priority_splice zone.spans value → s ≡ splice_in text root edit
priority_made text root w stamp value o zone edit s h r t e z es =
    es ∙ priority_is text root w stamp o zone value h r (stamp_in w edit (Priority stamp value) o e t) z ∙ ap (splice_in text root) (sym e)

pub clearance_made : (text : List ℕ) (root : Item) (w : Whole) (stamp : List ℕ) (value : ℕ) (o : Option Stamped) (zone : Zone) (edit : Edit) (s : Splice) → IsReadOf text w → IsRoot text root
    → o ≡ tables.stamped w.stamps (edit_stamp edit) → edit ≡ Clearance stamp value → Some zone ≡ zone_in w.board o → s ≡ clearance_splice zone.spans value → s ≡ splice_in text root edit
clearance_made text root w stamp value o zone edit s h r t e z es =
    es ∙ clearance_is text root w stamp o zone value h r (stamp_in w edit (Clearance stamp value) o e t) z ∙ ap (splice_in text root) (sym e)
