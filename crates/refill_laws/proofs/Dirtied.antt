-- What a list of edits dirties, with one edit more.
use Rattle.std.proofs.Common.{◌≡◌, ◌∙◌, refl, ap, sym, subst, ℕ, inl, inr, List, [], ◌∷◌, ◌++◌, length, length-append, append_assoc, arith}
use Rattle.std.specs.Prelude.{◌⊎◌}
use Rattle.sexpr_text.specs.Items.{Item}
use Rattle.board_language.specs.declared.board.Rules.{Rules}
use Rattle.board_language.specs.Board.{Board}
use Rattle.board_language.specs.Reading.{board_of}
use Rattle.board_language.proofs.Places.{compared}
use Rattle.fill_rules.specs.Tasks.{Task, task_at}
use Rattle.edit_language.specs.declared.edit.Edit.{Edit}
use Rattle.edit_language.specs.declared.edit.EditRefusal.TheVariants.{NoStamp}
use Rattle.edit_language.specs.Edited.{IsAcceptedEdit, IsEdited, IsBoardOf}
use Rattle.edit_language.proofs.Fold.{one_edit, same_edited}
use Rattle.edit_language.proofs.OneRoot.{one_root}
use Rattle.dirty_rules.specs.Dirty.{IsRankOf, IsDirtying, IsDirtied}
use Rattle.dirty_rules.proofs.Ranks.{one_rank}
use Rattle.refill_laws.specs.Laws.{NoEditLaw, SnocLaw, FlagsLaw}

-- ---- one text, one board, one rank

one_next : (text : List ℕ) (edit : Edit) (new last : List ℕ) → IsAcceptedEdit text edit new → IsAcceptedEdit text edit last → new ≡ last
one_next text edit new last a b = (one_edit text edit new last NoStamp NoStamp).0 a b

one_board : (text : List ℕ) (rules : Rules) (b d : Board) → IsBoardOf text rules b → IsBoardOf text rules d → b ≡ d
one_board text rules b d h g = h.board_is ∙ ap (λ (x : Item). board_of text x rules) (one_root text h.root g.root h.is_root g.is_root) ∙ sym g.board_is

-- ---- no edit

short : (before after : List Edit) (edit : Edit) → [] ≡ before ++ edit ∷ after → ⊥
short before after edit e = omega (arith, ap (λ (es : List Edit). length es) e, length-append before (edit ∷ after))

pub no_edit : NoEditLaw
no_edit text rules t h = short h.before h.after h.edit h.stands

-- ---- one edit more

longer : (list before after rest : List Edit) (edit other : Edit) → list ++ edit ∷ [] ≡ before ++ other ∷ after → before ≡ list ++ edit ∷ rest → ⊥
longer list before after rest edit other e w =
    omega (
      arith,
      ap (λ (es : List Edit). length es) e,
      ap (λ (es : List Edit). length es) w,
      length-append list (edit ∷ []),
      length-append before (other ∷ after),
      length-append list (edit ∷ rest),
    )

module _ (text so_far new : List ℕ) (list : List Edit) (rules : Rules) (b d : Board) (edit : Edit) (front : IsEdited text list so_far)
    (accepted : IsAcceptedEdit so_far edit new) (old : IsBoardOf so_far rules b) (last : IsBoardOf new rules d) (k : ℕ) (t : Task) (rank : IsRankOf d k t)
  where
    -- the same edit on the same text
    same : (texts nexts : List ℕ) (x y : Board) (other : Edit) (j : ℕ) → IsEdited text list texts → edit ≡ other → IsAcceptedEdit texts other nexts
        → IsBoardOf texts rules x → IsBoardOf nexts rules y → IsRankOf y j t → IsDirtying texts nexts rules x y other j → IsDirtying so_far new rules b d edit k
    same texts nexts x y other j f e a o n r h =
        let te : texts ≡ so_far = same_edited text list texts so_far f front in
        let ae : IsAcceptedEdit so_far edit nexts = subst (λ (s : List ℕ). IsAcceptedEdit s edit nexts) te (subst (λ (z : Edit). IsAcceptedEdit texts z nexts) (sym e) a) in
        let ne : nexts ≡ new = one_next so_far edit nexts new ae accepted in
        let xe : x ≡ b = one_board so_far rules x b (subst (λ (s : List ℕ). IsBoardOf s rules x) te o) old in
        let ye : y ≡ d = one_board new rules y d (subst (λ (s : List ℕ). IsBoardOf s rules y) ne n) last in
        let je : j ≡ k = one_rank d j k t (subst (λ (z : Board). IsRankOf z j t) ye r) rank in
        subst (λ (i : ℕ). IsDirtying so_far new rules b d edit i) je
        (subst (λ (z : Board). IsDirtying so_far new rules b z edit j) ye
        (subst (λ (z : Board). IsDirtying so_far new rules z y edit j) xe
        (subst (λ (s : List ℕ). IsDirtying so_far s rules x y edit j) ne
        (subst (λ (s : List ℕ). IsDirtying s nexts rules x y edit j) te
        (subst (λ (z : Edit). IsDirtying texts nexts rules x y z j) (sym e) h)))))

    to_parts : IsDirtied text (list ++ edit ∷ []) rules t → IsDirtied text list rules t ⊎ IsDirtying so_far new rules b d edit k
    to_parts h = elim (compared h.before h.after list [] h.edit edit (sym h.stands)) [
      | inl s ↦ inr (same h.so_far h.next h.old h.new h.edit h.rank (subst (λ (es : List Edit). IsEdited text es h.so_far) s.front h.front) (sym s.item) h.accepted
          h.old_is h.new_is h.rank_is h.dirties)
      | inr (inl w) ↦ inl (record {
        before = h.before;
        edit = h.edit;
        after = w.rest;
        stands = w.is;
        so_far = h.so_far;
        next = h.next;
        front = h.front;
        accepted = h.accepted;
        old = h.old;
        new = h.new;
        old_is = h.old_is;
        new_is = h.new_is;
        rank = h.rank;
        rank_is = h.rank_is;
        dirties = h.dirties;
      })
      | inr (inr w) ↦ absurd (longer list h.before h.after w.rest edit h.edit h.stands w.is)
    ]

    from_list : IsDirtied text list rules t → IsDirtied text (list ++ edit ∷ []) rules t
    from_list h = record {
      before = h.before;
      edit = h.edit;
      after = h.after ++ edit ∷ [];
      stands = ap (λ (es : List Edit). es ++ edit ∷ []) h.stands ∙ append_assoc h.before (h.edit ∷ h.after) (edit ∷ []);
      so_far = h.so_far;
      next = h.next;
      front = h.front;
      accepted = h.accepted;
      old = h.old;
      new = h.new;
      old_is = h.old_is;
      new_is = h.new_is;
      rank = h.rank;
      rank_is = h.rank_is;
      dirties = h.dirties;
    }

    from_last : IsDirtying so_far new rules b d edit k → IsDirtied text (list ++ edit ∷ []) rules t
    from_last h = record {
      before = list;
      edit = edit;
      after = [];
      stands = refl;
      so_far = so_far;
      next = new;
      front = front;
      accepted = accepted;
      old = b;
      new = d;
      old_is = old;
      new_is = last;
      rank = k;
      rank_is = rank;
      dirties = h;
    }

pub snoc_law : SnocLaw
snoc_law text so_far new list rules b d edit front accepted old last k t rank = (
  to_parts text so_far new list rules b d edit front accepted old last k t rank,
  λ h. elim h [
    | inl x ↦ from_list text so_far new list rules b d edit front accepted old last k t rank x
    | inr x ↦ from_last text so_far new list rules b d edit front accepted old last k t rank x
  ],
)

pub flags_law : FlagsLaw
flags_law text so_far new list rules b d edit front accepted o n old flagged next ranks flags nexts k l =
    let s = snoc_law text so_far new list rules b d edit front accepted o n k (task_at d k) (record { within = l; is = refl }) in
    let r = ranks k l in
    let f = flags (old k) r.within in (
      λ e. s.1 (elim ((nexts.each k l).0 e) [
        | inl x ↦ inl (subst (λ (t : Task). IsDirtied text list rules t) r.is (f.0 x))
        | inr x ↦ inr x
      ]),
      λ h. (nexts.each k l).1 (elim (s.0 h) [
        | inl x ↦ inl (f.1 (subst (λ (t : Task). IsDirtied text list rules t) (sym r.is) x))
        | inr x ↦ inr x
      ]),
    )
