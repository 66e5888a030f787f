-- Fills that are kept, or made on the edited board, are the fills of the edited board.
use Rattle.std.proofs.Common.{◌≡◌, ap, sym, subst, ℕ, zero, suc, ◌<◌, ◌≤◌, inl, inr, List, [], ◌∷◌, length, length-append, get_or, arith}
use Rattle.std.specs.Prelude.{Bool, false}
use Rattle.std.proofs.lemmas.Bool.{cases_lt, cases_eq, cases_Bool, both_ways}
use Rattle.std.proofs.lemmas.List.{get_or_append_left, get_or_push}
use Rattle.plane.specs.Plane.{Bounds}
use Rattle.board_language.specs.Board.{Board}
use Rattle.board_language.specs.Facts.{IsSoundBoard}
use Rattle.fill_rules.specs.Tasks.{ranked}
use Rattle.fill_rules.specs.Fill.{fill_of}
use Rattle.fill_rules.specs.Lists.{InOne}
use Rattle.fill_rules.specs.Made.{Made, no_fill}
use Rattle.fill_rules.specs.Dirty.{IsSameFill}
use Rattle.fills.specs.Fills.{IsFillOf, AreBoardFills}
use Rattle.fills.proofs.Points.{fill_points}
use Rattle.dirty_rules.specs.Dirty.{AreOldRanks}
use Rattle.same_boards.proofs.Fills.{follow_law, carry_law}
use Rattle.refill_laws.specs.Flags.{AreFlags}
use Rattle.refill_laws.specs.Walks.{HasOldPieces, MayStay, IsWalk, IsReachedAnew, TellsPieces}
use Rattle.refill_laws.specs.Laws.{KeepLaw, NextFillLaw, AllFillsLaw, WalkLaw, StayLaw, RefillLaw}

module _ (b d : Board) (s : IsSoundBoard b) (t : IsSoundBoard d) (old : ℕ → ℕ) (olds fills : List Made) (ranks : AreOldRanks b d old) (filled : AreBoardFills b olds) where
  old_fill : (m : ℕ) → m < length (ranked d) → IsFillOf b (old m) (get_or olds (old m) no_fill)
  old_fill m l = filled.each (old m) (subst (λ (n : ℕ). old m < n) (sym filled.count) (ranks m l).within)

  -- a task with the pieces that it had has the points that it had
  same_points : (m : ℕ) → m < length (ranked d) → IsFillOf d m (get_or fills m no_fill)
      → (get_or olds (old m) no_fill).pieces ≡ (get_or fills m no_fill).pieces → IsSameFill (fill_of b) (fill_of d) (old m) m
  same_points m l f e p =
      let x = fill_points b s (old m) (get_or olds (old m) no_fill) (old_fill m l) p in
      let y = fill_points d t m (get_or fills m no_fill) f p in (
        λ h. y.0 (subst (λ (os : List Bounds). InOne os p) e (x.1 h)),
        λ h. x.0 (subst (λ (os : List Bounds). InOne os p) (sym e) (y.1 h)),
      )

  keep_at : (k : ℕ) → k < length (ranked d) → ((i : ℕ) → i < k → IsFillOf d i (get_or fills i no_fill)) → MayStay b d old olds fills k
      → IsFillOf d k (get_or olds (old k) no_fill)
  keep_at k l right may =
      carry_law b d (old k) k (get_or olds (old k) no_fill) may.untouched.like
      (follow_law b d s t old k may.untouched (λ m r. same_points m (omega (arith, r.above, l)) (right m r.above) (may.above m r)))
      (ranks k l).is (old_fill k l)

  -- the fills of a walk, one after another
  right_below : IsWalk b d old olds fills → (n : ℕ) → n ≤ length fills → (i : ℕ) → i < n → IsFillOf d i (get_or fills i no_fill)
  right_below w zero l i h = absurd (omega (arith, h))
  right_below w (suc n) l i h = elim (cases_eq i n) [
    | inr ne ↦ right_below w n (omega (arith, l)) i (omega (arith, ne, h))
    | inl e ↦ subst (λ (j : ℕ). IsFillOf d j (get_or fills j no_fill)) (sym e) (elim (w.each n (omega (arith, l))) [
      | inl kept ↦ subst (λ (f : Made). IsFillOf d n f) (sym kept.is)
          (keep_at n (omega (arith, l, w.count)) (λ j g. right_below w n (omega (arith, l)) j g) kept.may)
      | inr f ↦ f
    ])
  ]

pub keep_law : KeepLaw
keep_law b d s t old olds fills ranks filled so_far l may = keep_at b d s t old olds fills ranks filled (length fills) l so_far.each may

pub next_fill : NextFillLaw
next_fill d fills f h g = record {
  each = λ i l. elim (cases_lt i (length fills)) [
    | inl w ↦ subst (λ (x : Made). IsFillOf d i x) (sym (get_or_append_left fills (f ∷ []) no_fill i w)) (h.each i w)
    | inr w ↦ let e : length fills ≡ i = omega (arith, w, l, length-append fills (f ∷ [])) in
        subst (λ (x : Made). IsFillOf d i x) (sym (get_or_push fills f no_fill i e)) (subst (λ (j : ℕ). IsFillOf d j f) e g)
  ];
}

pub all_fills : AllFillsLaw
all_fills d fills h e = record { count = e; each = h.each }

pub walk_law : WalkLaw
walk_law b d s t old olds fills ranks filled w = record {
  count = w.count;
  each = λ i l. right_below b d s t old olds fills ranks filled w (length fills) (omega arith) i l;
}

-- ---- what flags tell to fill again

stay : (b d : Board) (old : ℕ → ℕ) (olds fills : List Made) (flagged changed again : ℕ → Bool) → AreFlags b d old flagged
    → TellsPieces old olds fills changed → ((m : ℕ) → m < length fills → again m ≡ false → HasOldPieces olds old fills m)
    → (k : ℕ) → k ≤ length fills → k < length (ranked d) → flagged k ≡ false → (IsReachedAnew d changed again k → ⊥) → MayStay b d old olds fills k
stay b d old olds fills flagged changed again flags tells kept k l w f none = record {
  untouched = flags.clean k w f;
  above = λ m r. let h : m < length fills = omega (arith, r.above, l) in elim (cases_Bool (changed m)) [
    | inr c ↦ (tells.each m h).0 c
    | inl c ↦ elim (cases_Bool (again m)) [ inl a ↦ absurd (none (m, r, a, c)) | inr a ↦ kept m h a ]
  ];
}

pub stay_law : StayLaw
stay_law b d old olds fills flagged changed again flags tells kept l f none =
    stay b d old olds fills flagged changed again flags tells kept (length fills) (omega arith) l f none

pub refill_law : RefillLaw
refill_law b d s t old olds fills flagged changed again flags filled r =
    walk_law b d s t old olds fills flags.ranks filled (record {
      count = r.count;
      each = λ k l. elim (cases_Bool (again k)) [
        | inl a ↦ inr (r.made k l a)
        | inr a ↦ inl (record {
          may = let w : k < length (ranked d) = omega (arith, l, r.count) in
              stay b d old olds fills flagged changed again flags r.tells (λ m h e. ap (λ (f : Made). f.pieces) (sym (r.kept m h e)))
              k (omega (arith, l)) w (not_flagged k l a) (λ x. both_ways (again k) a ((r.anew.each k l).1 (inr x)));
          is = r.kept k l a;
        })
      ];
    })
  where
    not_flagged : (k : ℕ) → k < length fills → again k ≡ false → flagged k ≡ false
    not_flagged k w a = elim (cases_Bool (flagged k)) [
      | inl f ↦ absurd (both_ways (again k) a ((r.anew.each k w).1 (inl f)))
      | inr f ↦ f
    ]
