-- An edit makes one text or is refused for one thing, and so a list of edits.
use Rattle.std.proofs.Common.{◌≡◌, ◌∙◌, refl, ap, sym, subst, ℕ, ◌+◌, List, [], ◌∷◌, ◌++◌, length, None, inl, inr}
use Rattle.std.proofs.lemmas.Option.{none-some, same_Some}
use Rattle.sexpr_text.specs.Items.{Item}
use Rattle.sexpr_text.specs.Trees.{IsRoot}
use Rattle.text_splices.specs.Splice.{IsSplice}
use Rattle.text_splices.proofs.Splices.{one_law}
use Rattle.board_language.specs.Reading.{IsAccepted, IsOffence}
use Rattle.board_language.specs.declared.offence.OffenceKind.{OffenceKind}
use Rattle.edit_language.specs.declared.edit.Edit.{Edit}
use Rattle.board_language.specs.declared.offence.Offence.{Offence}
use Rattle.edit_language.specs.declared.edit.EditRefusal.{EditRefusal}
use Rattle.edit_language.specs.declared.edit.EditRefusal.TheVariants.{NoStamp, WrongKind, StampTaken, Breaks}
use Rattle.edit_language.specs.Edited.{refusal_in, splice_in, IsPut, IsAcceptedEdit, IsStampRefused, IsBreaking, IsEditRefused, IsEdited, IsRefusedEdit}
use Rattle.edit_language.specs.FoldLaws.{SpliceTextLaw, OneEditLaw, OneFoldLaw, IndexLaw}
use Rattle.board_language.proofs.Places.{compared}
use Rattle.edit_language.proofs.OneRoot.{one_root}
use Rattle.board_language.proofs.OneOffence.{one_offence, no_offence}

-- the new text by the edit's splice
abbrev IsSpliceIn : List ℕ → Edit → List ℕ → Item → Type 0
IsSpliceIn text edit new root = IsSplice text (splice_in text root edit).from (splice_in text root edit).to (splice_in text root edit).put new

pub splice_text : SpliceTextLaw
splice_text text root edit new r a =
    let e = one_root text a.put.root root a.put.is_root r in
    (subst (λ (x : Item). refusal_in text x edit ≡ None) e a.put.fits, subst (IsSpliceIn text edit new) e a.put.spliced)

-- ---- one edit

same_put : (text : List ℕ) (edit : Edit) (new last : List ℕ) → IsPut text edit new → IsPut text edit last → new ≡ last
same_put text edit new last a b =
    let s : IsSpliceIn text edit new b.root = subst (IsSpliceIn text edit new) (one_root text a.root b.root a.is_root b.is_root) a.spliced in
    one_law text (splice_in text b.root edit).from (splice_in text b.root edit).to (splice_in text b.root edit).put new last s b.spliced

same_stamp : (text : List ℕ) (edit : Edit) (refusal other : EditRefusal) → IsStampRefused text edit refusal → IsStampRefused text edit other → refusal ≡ other
same_stamp text edit refusal other a b =
    same_Some refusal other (sym a.refused ∙ ap (λ (x : Item). refusal_in text x edit) (one_root text a.root b.root a.is_root b.is_root) ∙ b.refused)

put_no_stamp : (text : List ℕ) (edit : Edit) (new : List ℕ) (refusal : EditRefusal) → IsPut text edit new → IsStampRefused text edit refusal → ⊥
put_no_stamp text edit new refusal a b =
    none-some refusal (sym a.fits ∙ ap (λ (x : Item). refusal_in text x edit) (one_root text a.root b.root a.is_root b.is_root) ∙ b.refused)

abbrev offence_of : ℕ → ℕ → OffenceKind → Offence
offence_of at line kind = record { at = at; line = line; kind = kind }

same_offence : (a b : Offence) → a.at ≡ b.at → a.line ≡ b.line → a.kind ≡ b.kind → a ≡ b
same_offence a b e f g =
    ap (λ x. offence_of x a.line a.kind) e ∙ ap (λ x. offence_of b.at x a.kind) f ∙ ap (λ x. offence_of b.at b.line x) g

same_break : (text : List ℕ) (edit : Edit) (a b : Offence) → IsBreaking text edit a → IsBreaking text edit b → a ≡ b
same_break text edit a b h g =
    let e : h.new ≡ g.new = same_put text edit h.new g.new h.put g.put in
    let r : IsRoot g.new h.root = subst (λ t. IsRoot t h.root) e h.is_root in
    let o : IsOffence g.new h.root a.at a.line a.kind = subst (λ t. IsOffence t h.root a.at a.line a.kind) e h.offends in
    let p : IsOffence g.new g.root a.at a.line a.kind = subst (λ (x : Item). IsOffence g.new x a.at a.line a.kind) (one_root g.new h.root g.root r g.is_root) o in
    let s = one_offence g.new g.root a.at b.at a.line b.line a.kind b.kind p g.offends in
    same_offence a b s.0 s.1 s.2

accepted_no_break : (text : List ℕ) (edit : Edit) (new : List ℕ) (o : Offence) → IsAcceptedEdit text edit new → IsBreaking text edit o → ⊥
accepted_no_break text edit new o a b =
    let e : new ≡ b.new = same_put text edit new b.new a.put b.put in
    let r : IsRoot b.new a.board.root = subst (λ t. IsRoot t a.board.root) e a.board.is_root in
    let s : IsAccepted b.new a.board.root = subst (λ t. IsAccepted t a.board.root) e a.board.accepted in
    no_offence b.new b.root o.at o.line o.kind (subst (IsAccepted b.new) (one_root b.new a.board.root b.root r b.is_root) s) b.offends

-- a refusal by the stamp, or by what breaks
data Why (text : List ℕ) (edit : Edit) (refusal : EditRefusal) : Type 0 where
  Stamp : IsStampRefused text edit refusal → Why text edit refusal
  Break : (o : Offence) → refusal ≡ Breaks o → IsBreaking text edit o → Why text edit refusal

why : (text : List ℕ) (edit : Edit) (refusal : EditRefusal) → IsEditRefused text edit refusal → Why text edit refusal
unfolding IsEditRefused
why text edit NoStamp r = Stamp r
why text edit WrongKind r = Stamp r
why text edit StampTaken r = Stamp r
why text edit (Breaks o) r = Break o refl r

same_why : (text : List ℕ) (edit : Edit) (refusal other : EditRefusal) → Why text edit refusal → Why text edit other → refusal ≡ other
same_why text edit refusal other (Stamp a) (Stamp b) = same_stamp text edit refusal other a b
same_why text edit refusal other (Stamp a) (Break o e b) = absurd (put_no_stamp text edit b.new refusal b.put a)
same_why text edit refusal other (Break o e a) (Stamp b) = absurd (put_no_stamp text edit a.new other a.put b)
same_why text edit refusal other (Break o e a) (Break u f b) = e ∙ ap Breaks (same_break text edit o u a b) ∙ sym f

pub same_refusal : (text : List ℕ) (edit : Edit) (refusal other : EditRefusal) → IsEditRefused text edit refusal → IsEditRefused text edit other → refusal ≡ other
same_refusal text edit refusal other a b = same_why text edit refusal other (why text edit refusal a) (why text edit other b)

no_why : (text : List ℕ) (edit : Edit) (new : List ℕ) (refusal : EditRefusal) → IsAcceptedEdit text edit new → Why text edit refusal → ⊥
no_why text edit new refusal a (Stamp b) = put_no_stamp text edit new refusal a.put b
no_why text edit new refusal a (Break o e b) = accepted_no_break text edit new o a b

pub not_both : (text : List ℕ) (edit : Edit) (new : List ℕ) (refusal : EditRefusal) → IsAcceptedEdit text edit new → IsEditRefused text edit refusal → ⊥
not_both text edit new refusal a b = no_why text edit new refusal a (why text edit refusal b)

pub one_edit : OneEditLaw
one_edit text edit new last refusal other =
    (λ a b. same_put text edit new last a.put b.put, not_both text edit new refusal, same_refusal text edit refusal other)

-- ---- a list of edits

pub same_edited : (text : List ℕ) (list : List Edit) (new last : List ℕ) → IsEdited text list new → IsEdited text list last → new ≡ last
unfolding IsEdited
same_edited text [] new last a b = a ∙ sym b
same_edited text (edit ∷ list) new last a b =
    let e : a.0 ≡ b.0 = same_put text edit a.0 b.0 a.1.put b.1.put in
    same_edited b.0 list new last (subst (λ t. IsEdited t list new) e a.2) b.2

-- an edit of an accepted list is accepted
record IsMidway (text : List ℕ) (before : List Edit) (edit : Edit) : Type 0 where
  mid : List ℕ
  front : IsEdited text before mid
  next : List ℕ
  accepted : IsAcceptedEdit mid edit next

midway : (text : List ℕ) (before : List Edit) (edit : Edit) (after : List Edit) (new : List ℕ) → IsEdited text (before ++ edit ∷ after) new → IsMidway text before edit
unfolding IsEdited
midway text [] edit after new h = record { mid = text; front = refl; next = h.0; accepted = h.1 }
midway text (b ∷ before) edit after new h =
    let m = midway h.0 before edit after new h.2 in
    record { mid = m.mid; front = (h.0, h.1, m.front); next = m.next; accepted = m.accepted }

no_refusal : (text : List ℕ) (before : List Edit) (edit : Edit) (after : List Edit) (new so_far : List ℕ) (refusal : EditRefusal)
    → IsEdited text (before ++ edit ∷ after) new → IsEdited text before so_far → IsEditRefused so_far edit refusal → ⊥
no_refusal text before edit after new so_far refusal h g r =
    let m = midway text before edit after new h in
    let e : m.mid ≡ so_far = same_edited text before m.mid so_far m.front g in
    not_both so_far edit m.next refusal (subst (λ t. IsAcceptedEdit t edit m.next) e m.accepted) r

fold_not_both : (text : List ℕ) (list : List Edit) (new : List ℕ) (index : ℕ) (refusal : EditRefusal) → IsEdited text list new → IsRefusedEdit text list index refusal → ⊥
fold_not_both text list new index refusal a b =
    no_refusal text b.before b.edit b.after new b.so_far refusal (subst (λ l. IsEdited text l new) b.stands a) b.accepted b.refused

same_fold : (text : List ℕ) (list : List Edit) (index place : ℕ) (refusal other : EditRefusal)
    → IsRefusedEdit text list index refusal → IsRefusedEdit text list place other → (index ≡ place) × (refusal ≡ other)
same_fold text list index place refusal other a b =
    elim (compared a.before a.after b.before b.after a.edit b.edit (sym a.stands ∙ b.stands)) [
      | inl s ↦
          let e : a.so_far ≡ b.so_far = same_edited text b.before a.so_far b.so_far (subst (λ l. IsEdited text l a.so_far) s.front a.accepted) b.accepted in
          let r : IsEditRefused b.so_far b.edit refusal = subst (λ (x : Edit). IsEditRefused b.so_far x refusal) s.item (subst (λ t. IsEditRefused t a.edit refusal) e a.refused) in
          (a.index_is ∙ ap (λ l. length l + 1) s.front ∙ sym b.index_is, same_refusal b.so_far b.edit refusal other r b.refused)
      | inr (inl w) ↦ absurd (no_refusal text a.before a.edit w.rest b.so_far a.so_far refusal (subst (λ l. IsEdited text l b.so_far) w.is b.accepted) a.accepted a.refused)
      | inr (inr w) ↦ absurd (no_refusal text b.before b.edit w.rest a.so_far b.so_far other (subst (λ l. IsEdited text l a.so_far) w.is a.accepted) b.accepted b.refused)
    ]

pub one_fold : OneFoldLaw
one_fold text list new last index place refusal other =
    (same_edited text list new last, fold_not_both text list new index refusal, same_fold text list index place refusal other)

pub index_law : IndexLaw
unfolding IsEdited
index_law text so_far first second refusal = (
  λ r. record { before = []; edit = first; after = second ∷ []; stands = refl; so_far = text; accepted = refl; refused = r; index_is = refl },
  λ a r. record { before = first ∷ []; edit = second; after = []; stands = refl; so_far = so_far; accepted = (so_far, a, refl); refused = r; index_is = refl },
)
