-- The tasks that are filled again are those of the dirty set.
use Rattle.std.proofs.Common.{◌≡◌, ℕ, zero, suc, ◌<◌, ◌≤◌, inl, inr, length, arith}
use Rattle.std.specs.Prelude.{◌↔◌, ◌⊎◌, Bool, true}
use Rattle.classes.specs.Classes.{Reaches}
use Rattle.classes.proofs.Reaching.{reaches_self, reaches_link, reaches_then, reaches_keeps}
use Rattle.board_language.specs.Board.{Board}
use Rattle.fill_rules.specs.Tasks.{ranked, task_at}
use Rattle.fill_rules.specs.Dirty.{IsDirty, Spreads}
use Rattle.dirty_rules.specs.Dirty.{IsDirtied, IsInDirtySet}
use Rattle.refill_laws.specs.Walks.{IsReachedAnew}
use Rattle.refill_laws.specs.Laws.{AgainLaw, DirtySetLaw, SameDirtyLaw}

-- ---- the least set

module _ (d : Board) (most : ℕ) (direct : ℕ → Type 0) (changed again : ℕ → Bool)
    (each : (k : ℕ) → k < most → (again k ≡ true) ↔ (direct k ⊎ IsReachedAnew d changed again k))
  where
    abbrev spreads : ℕ → ℕ → Type 0
    spreads = Spreads d (λ (m : ℕ). changed m ≡ true)

    to_below : (n k : ℕ) → k < n → k < most → again k ≡ true → IsDirty direct spreads k
    to_below zero k h l a = absurd (omega (arith, h))
    to_below (suc n) k h l a = elim ((each k l).0 a) [
      | inl x ↦ (k, x, reaches_self spreads k)
      | inr x ↦
          let above : x.0 < k = x.1.above in
          let m = to_below n x.0 (omega (arith, above, h)) (omega (arith, above, l)) x.2 in
          (m.0, m.1, reaches_then spreads m.0 x.0 k m.2 (reaches_link spreads x.0 k (x.1, x.3)))
    ]

    pub to_dirty : (k : ℕ) → k < most → again k ≡ true → IsDirty direct spreads k
    to_dirty k l a = to_below (suc k) k (omega arith) l a

    pub from_dirty : (k : ℕ) → k < most → IsDirty direct spreads k → again k ≡ true
    from_dirty k l h =
        reaches_keeps spreads (λ (j : ℕ). j < most → again j ≡ true)
        (λ x y s p w. (each y w).1 (inr (x, s.0, p (omega (arith, s.0.above, w)), s.1))) h.0 k h.2 (λ w. (each h.0 w).1 (inl h.1)) l

pub again_law : AgainLaw
again_law d n flagged changed again a k l = (
  to_dirty d n (λ (m : ℕ). flagged m ≡ true) changed again a.each k l,
  from_dirty d n (λ (m : ℕ). flagged m ≡ true) changed again a.each k l,
)

pub dirty_set : DirtySetLaw
unfolding IsInDirtySet
dirty_set text list rules d flagged changed again flags a k l = (
  to_dirty d (length (ranked d)) (λ (m : ℕ). IsDirtied text list rules (task_at d m)) changed again by_edits k l,
  from_dirty d (length (ranked d)) (λ (m : ℕ). IsDirtied text list rules (task_at d m)) changed again by_edits k l,
)
  where
    by_edits : (j : ℕ) → j < length (ranked d) → (again j ≡ true) ↔ (IsDirtied text list rules (task_at d j) ⊎ IsReachedAnew d changed again j)
    by_edits j w = (
      λ e. elim ((a.each j w).0 e) [ inl f ↦ inl ((flags j w).0 f) | inr r ↦ inr r ],
      λ h. (a.each j w).1 (elim h [ inl x ↦ inl ((flags j w).1 x) | inr r ↦ inr r ]),
    )

-- ---- by flags or by edits

reached_past : (d : Board) (changed : ℕ → Bool) (s k : ℕ) → Reaches (Spreads d (λ (m : ℕ). changed m ≡ true)) s k → s ≤ k
reached_past d changed s k r =
    reaches_keeps (Spreads d (λ (m : ℕ). changed m ≡ true)) (λ (j : ℕ). s ≤ j) (λ x y e l. omega (arith, e.0.above, l)) s k r (omega arith)

pub same_dirty : SameDirtyLaw
unfolding IsInDirtySet
same_dirty text list rules d flagged changed flags k l = (
  λ h. (h.0, (flags h.0 (before h.0 h.2)).0 h.1, h.2),
  λ h. (h.0, (flags h.0 (before h.0 h.2)).1 h.1, h.2),
)
  where
    before : (s : ℕ) → Reaches (Spreads d (λ (m : ℕ). changed m ≡ true)) s k → s < length (ranked d)
    before s r = omega (arith, reached_past d changed s k r, l)
