-- What stamps of a board stand for in its text, and what its edits do to that.
use Rattle.std.proofs.Common.{◌≡◌, ◌∙◌, refl, ap, sym, subst, ℕ, ◌-◌, List, length, slice_get, Option, None, Some, option_map}
use Rattle.std.proofs.lemmas.Option.{none-some, same_Some, slice_get_within}
use Rattle.grid_num.specs.declared.Point.{Point}
use Rattle.sexpr_text.specs.Items.{Item}
use Rattle.sexpr_text.specs.Trees.{IsRoot}
use Rattle.sexpr_text.specs.declared.Span.{Span}
use Rattle.text_splices.specs.Splice.{IsSplice}
use Rattle.board_text.specs.Things.{Placed}
use Rattle.board_text.specs.Items.{Context, context_of, span_of, version_of}
use Rattle.board_text.specs.declared.stamped.Stamped.{Stamped}
use Rattle.board_text.specs.declared.stamped.Stamped.TheVariants as stamped
use Rattle.board_language.specs.declared.board.Zone.{Zone}
use Rattle.board_language.specs.declared.board.Rules.{Rules}
use Rattle.board_language.specs.Tracks.{track_of, via_of}
use Rattle.board_language.specs.Zones.{spans_of, zone_of}
use Rattle.board_language.specs.Reading.{board_of}
use Rattle.board_language.specs.Stamps.{stamp_of, bearer_of}
use Rattle.board_items.specs.Stamps as tables
use Rattle.board_model.specs.Whole.{Whole, whole_board}
use Rattle.board_model.proofs.OneStamp.{stamps_are}
use Rattle.edit_language.specs.declared.edit.Edit.{Edit}
use Rattle.edit_language.specs.declared.edit.Edit.TheVariants.{Track, Via, Drop, Priority, Clearance}
use Rattle.edit_language.specs.Splices.{Splice, put_at, put_before_close, take_out, track_line, via_line, priority_splice, clearance_splice, splice_of}
use Rattle.edit_language.specs.Edited.{edit_stamp, item_or, stamp_refusal, refusal_in, splice_in, IsPut}
use Rattle.edit_language.proofs.OneRoot.{one_root}
use Rattle.edit_language.proofs.Stamps.{track_stamp, via_stamp, zone_stamp}
use Rattle.edit_facts.specs.Laws.{IsInText}
use Rattle.edit_facts.proofs.InText.{edit_law}
use Rattle.board_edit.specs.Edited.{IsReadOf}
use Rattle.board_edit.specs.Laws.{BoardLaw}
use Rattle.board_edit.specs.Inner.Things.{IsNumber, copper_span, zone_in}

-- the board at the root of its text
at_root : (text : List ℕ) (root : Item) (w : Whole) → (h : IsReadOf text w) → IsRoot text root → w ≡ whole_board text root h.rules
at_root text root w h r = h.board_is ∙ ap (λ k. whole_board text k h.rules) (one_root text h.root root h.is_root r)

rules_of : (text : List ℕ) (root : Item) (rules : Rules) → (board_of text root rules).rules ≡ rules
unfolding board_of
rules_of text root rules = refl

-- a board has the rules that it is read under
pub rules_so : (text : List ℕ) (root : Item) (rules : Rules) (w : Whole) → w ≡ whole_board text root rules → w.board.rules ≡ rules
rules_so text root rules w e = ap (λ k. k.board.rules) e ∙ rules_of text root rules

pub board_so : BoardLaw
board_so text b h =
    record {
      root = h.root;
      is_root = h.is_root;
      accepted = h.accepted;
      board_is = ap (λ k. k.board) h.board_is ∙ ap (board_of text h.root) (sym (rules_so text h.root h.rules b h.board_is));
    }

-- ---- stamps

stamp_is : (text : List ℕ) (root : Item) (w : Whole) (stamp : List ℕ) → IsReadOf text w → IsRoot text root → tables.stamped w.stamps stamp ≡ stamp_of text root stamp
stamp_is text root w stamp h r = ap (λ k. tables.stamped k.stamps stamp) (at_root text root w h r) ∙ stamps_are text root stamp

mapped : {X Y : Type 0} (h : X → Y) (o : Option X) (y : Y) → option_map h o ≡ Some y → (x : X) × (o ≡ Some x)
mapped h None y e = absurd (none-some y e)
mapped h (Some x) y e = (x, refl)

-- what has a stamp is an item
some_bearer : (text : List ℕ) (root : Item) (stamp : List ℕ) (s : Stamped) → stamp_of text root stamp ≡ Some s → (p : Placed) × (bearer_of text root stamp ≡ Some p)
unfolding stamp_of bearer_of context_of
some_bearer text root stamp s e = mapped _ _ s e

-- the thing of a board that has a stamp, as its text has it
record IsThing (text : List ℕ) (root : Item) (stamp : List ℕ) (s : Stamped) : Type 0 where
  stands : stamp_of text root stamp ≡ Some s
  placed : Placed
  bearer : bearer_of text root stamp ≡ Some placed

thing : (text : List ℕ) (root : Item) (w : Whole) (stamp : List ℕ) (s : Stamped) → IsReadOf text w → IsRoot text root → Some s ≡ tables.stamped w.stamps stamp → IsThing text root stamp s
thing text root w stamp s h r e =
    let f : stamp_of text root stamp ≡ Some s = sym (e ∙ stamp_is text root w stamp h r) in
    let b = some_bearer text root stamp s f in
    record { stands = f; placed = b.0; bearer = b.1 }

track_in : (text : List ℕ) (root : Item) (w : Whole) (stamp : List ℕ) (n : ℕ) → (h : IsReadOf text w) → IsRoot text root → (t : IsThing text root stamp (stamped.Track n))
    → slice_get w.board.tracks n ≡ Some (track_of (context_of text root) t.placed.item)
track_in text root w stamp n h r t =
    ap (λ k. slice_get k.board.tracks n) (at_root text root w h r) ∙ track_stamp text root h.rules stamp n t.placed t.stands t.bearer

via_in : (text : List ℕ) (root : Item) (w : Whole) (stamp : List ℕ) (n : ℕ) → (h : IsReadOf text w) → IsRoot text root → (t : IsThing text root stamp (stamped.Via n))
    → slice_get w.board.vias n ≡ Some (via_of (context_of text root) t.placed.item)
via_in text root w stamp n h r t =
    ap (λ k. slice_get k.board.vias n) (at_root text root w h r) ∙ via_stamp text root h.rules stamp n t.placed t.stands t.bearer

zone_at : (text : List ℕ) (root : Item) (w : Whole) (stamp : List ℕ) (n : ℕ) → (h : IsReadOf text w) → IsRoot text root → (t : IsThing text root stamp (stamped.Zone n))
    → slice_get w.board.zones n ≡ Some (zone_of (context_of text root) t.placed.item)
zone_at text root w stamp n h r t =
    ap (λ k. slice_get k.board.zones n) (at_root text root w h r) ∙ zone_stamp text root h.rules stamp n t.placed t.stands t.bearer

-- what a stamp stands for is there
pub number : (text : List ℕ) (w : Whole) (stamp : List ℕ) (o : Option Stamped) → IsReadOf text w → o ≡ tables.stamped w.stamps stamp → IsNumber w.board o
number text w stamp None h e = tt
number text w stamp (Some (stamped.Track n)) h e =
    slice_get_within w.board.tracks n _ (track_in text h.root w stamp n h h.is_root (thing text h.root w stamp (stamped.Track n) h h.is_root e))
number text w stamp (Some (stamped.Via n)) h e =
    slice_get_within w.board.vias n _ (via_in text h.root w stamp n h h.is_root (thing text h.root w stamp (stamped.Via n) h h.is_root e))
number text w stamp (Some (stamped.Zone n)) h e =
    slice_get_within w.board.zones n _ (zone_at text h.root w stamp n h h.is_root (thing text h.root w stamp (stamped.Zone n) h h.is_root e))
number text w stamp (Some stamped.Other) h e = tt

-- ---- new tracks and vias

version_is : (text : List ℕ) (root : Item) (w : Whole) → IsReadOf text w → IsRoot text root → w.version ≡ version_of text root
version_is text root w h r = ap (λ k. k.version) (at_root text root w h r)

pub track_splice : (text : List ℕ) (root : Item) (w : Whole) (board : Span) (from to : Point) (width : ℕ) (layer : List ℕ) (net : ℕ) (stamp : List ℕ) → IsReadOf text w → IsRoot text root
    → board.to ≡ root.to → put_before_close board (track_line w.version from to width layer net stamp) ≡ splice_in text root (Track from to width layer net stamp)
unfolding splice_in splice_of
track_splice text root w board from to width layer net stamp h r e =
    ap (λ n. put_at (n - 1) (track_line w.version from to width layer net stamp)) e
    ∙ ap (λ v. put_at (root.to - 1) (track_line v from to width layer net stamp)) (version_is text root w h r)

pub via_splice : (text : List ℕ) (root : Item) (w : Whole) (board : Span) (at : Point) (size drill : ℕ) (top bottom : List ℕ) (net : ℕ) (stamp : List ℕ) → IsReadOf text w → IsRoot text root
    → board.to ≡ root.to → put_before_close board (via_line w.version at size drill top bottom net stamp) ≡ splice_in text root (Via at size drill top bottom net stamp)
unfolding splice_in splice_of
via_splice text root w board at size drill top bottom net stamp h r e =
    ap (λ n. put_at (n - 1) (via_line w.version at size drill top bottom net stamp)) e
    ∙ ap (λ v. put_at (root.to - 1) (via_line v at size drill top bottom net stamp)) (version_is text root w h r)

-- ---- drops

track_span : (c : Context) (item : Item) → (track_of c item).span ≡ span_of item
unfolding track_of
track_span c item = refl

via_span : (c : Context) (item : Item) → (via_of c item).span ≡ span_of item
unfolding via_of
via_span c item = refl

taken : (text : List ℕ) (root : Item) (stamp : List ℕ) (p : Placed) (span : Span) → bearer_of text root stamp ≡ Some p → span ≡ span_of p.item
    → take_out span ≡ splice_in text root (Drop stamp)
unfolding splice_in splice_of
taken text root stamp p span b e = ap take_out e ∙ ap (λ o. take_out (span_of (item_or root o))) (sym b)

pub drop_splice : (text : List ℕ) (root : Item) (w : Whole) (stamp : List ℕ) (o : Option Stamped) (span : Span) → IsReadOf text w → IsRoot text root
    → o ≡ tables.stamped w.stamps stamp → Some span ≡ copper_span w.board o → take_out span ≡ splice_in text root (Drop stamp)
drop_splice text root w stamp None span h r e s = absurd (none-some span (sym s))
drop_splice text root w stamp (Some (stamped.Track n)) span h r e s =
    let t = thing text root w stamp (stamped.Track n) h r e in
    taken text root stamp t.placed span t.bearer
    (same_Some span (span_of t.placed.item)
    (s ∙ ap (option_map (λ x. x.span)) (track_in text root w stamp n h r t) ∙ ap Some (track_span (context_of text root) t.placed.item)))
drop_splice text root w stamp (Some (stamped.Via n)) span h r e s =
    let t = thing text root w stamp (stamped.Via n) h r e in
    taken text root stamp t.placed span t.bearer
    (same_Some span (span_of t.placed.item)
    (s ∙ ap (option_map (λ x. x.span)) (via_in text root w stamp n h r t) ∙ ap Some (via_span (context_of text root) t.placed.item)))
drop_splice text root w stamp (Some (stamped.Zone n)) span h r e s = absurd (none-some span (sym s))
drop_splice text root w stamp (Some stamped.Other) span h r e s = absurd (none-some span (sym s))

-- ---- zones

zone_spans : (text : List ℕ) (root item : Item) → (zone_of (context_of text root) item).spans ≡ spans_of text item
unfolding zone_of context_of
zone_spans text root item = refl

-- the lists of the zone stand where those of the item stand that has the stamp
pub spans_at : (text : List ℕ) (root : Item) (w : Whole) (stamp : List ℕ) (o : Option Stamped) (zone : Zone) → IsReadOf text w → IsRoot text root
    → o ≡ tables.stamped w.stamps stamp → Some zone ≡ zone_in w.board o → zone.spans ≡ spans_of text (item_or root (bearer_of text root stamp))
spans_at text root w stamp None zone h r e s = absurd (none-some zone (sym s))
spans_at text root w stamp (Some (stamped.Track n)) zone h r e s = absurd (none-some zone (sym s))
spans_at text root w stamp (Some (stamped.Via n)) zone h r e s = absurd (none-some zone (sym s))
spans_at text root w stamp (Some (stamped.Zone n)) zone h r e s =
    let t = thing text root w stamp (stamped.Zone n) h r e in
    ap (λ z. z.spans) (same_Some zone (zone_of (context_of text root) t.placed.item) (s ∙ zone_at text root w stamp n h r t))
    ∙ zone_spans text root t.placed.item
    ∙ ap (λ k. spans_of text (item_or root k)) (sym t.bearer)
spans_at text root w stamp (Some stamped.Other) zone h r e s = absurd (none-some zone (sym s))

pub priority_is : (text : List ℕ) (root : Item) (w : Whole) (stamp : List ℕ) (o : Option Stamped) (zone : Zone) (value : ℕ) → IsReadOf text w → IsRoot text root
    → o ≡ tables.stamped w.stamps stamp → Some zone ≡ zone_in w.board o → priority_splice zone.spans value ≡ splice_in text root (Priority stamp value)
unfolding splice_in splice_of
priority_is text root w stamp o zone value h r e s = ap (λ k. priority_splice k value) (spans_at text root w stamp o zone h r e s)

pub clearance_is : (text : List ℕ) (root : Item) (w : Whole) (stamp : List ℕ) (o : Option Stamped) (zone : Zone) (value : ℕ) → IsReadOf text w → IsRoot text root
    → o ≡ tables.stamped w.stamps stamp → Some zone ≡ zone_in w.board o → clearance_splice zone.spans value ≡ splice_in text root (Clearance stamp value)
unfolding splice_in splice_of
clearance_is text root w stamp o zone value h r e s = ap (λ k. clearance_splice k value) (spans_at text root w stamp o zone h r e s)

-- ---- the new text

pub in_text : (text : List ℕ) (w : Whole) (edit : Edit) (s : Splice) → IsReadOf text w → ((root : Item) → IsRoot text root → s ≡ splice_in text root edit) → IsInText (length text) s
in_text text w edit s h q = subst (IsInText (length text)) (sym (q h.root h.is_root)) (edit_law text h.root edit h.is_root)

pub refusal_is : (text : List ℕ) (w : Whole) (edit : Edit) (o : Option Stamped) → (h : IsReadOf text w) → o ≡ tables.stamped w.stamps (edit_stamp edit)
    → refusal_in text h.root edit ≡ stamp_refusal edit o
refusal_is text w edit o h e = ap (stamp_refusal edit) (sym (e ∙ stamp_is text h.root w (edit_stamp edit) h h.is_root))

pub put_is : (text : List ℕ) (w : Whole) (edit : Edit) (o : Option Stamped) (s : Splice) (new : List ℕ) → IsReadOf text w → o ≡ tables.stamped w.stamps (edit_stamp edit) → stamp_refusal edit o ≡ None
    → ((root : Item) → IsRoot text root → s ≡ splice_in text root edit) → IsSplice text s.from s.to s.put new → IsPut text edit new
put_is text w edit o s new h e f q p =
    record {
      root = h.root;
      is_root = h.is_root;
      fits = refusal_is text w edit o h e ∙ f;
      spliced = subst (λ z. IsSplice text z.from z.to z.put new) (q h.root h.is_root) p;
    }
