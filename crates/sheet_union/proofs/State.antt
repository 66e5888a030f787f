-- The octagons that are open, from row to row.
use Rattle.std.proofs.Common.{◌≡◌, subst, refl, sym, ◌∙◌, ap, ◌≤◌, ◌⊎◌, inl, inr, arith, List, [], ◌∷◌, ◌++◌, length, append_assoc, true, false}
use Rattle.std.specs.Prelude.{ℤ, pos, ◌*ℤ◌, ◌≤ℤ◌, ◌<ℤ◌, int_le, Contains}
use Rattle.std.specs.List.{All}
use Rattle.std.proofs.lemmas.Int.{ints, by_lt_z}
use Rattle.std.proofs.lemmas.List.{append-nil}
use Rattle.std.proofs.lemmas.List.Elements.{All-cons, All-nil}
use Rattle.plane.specs.Plane.{Bounds, times}
use Rattle.plane.proofs.Counts.{most_true, most_false}
use Rattle.strips.specs.declared.Strip.{Strip}
use Rattle.strips.specs.Strips.{in_nanometres}
use Rattle.strips.specs.Inner.Runs.{ReachesAcross}
use Rattle.strips.specs.Inner.Sweep.{AreOpen, AreSheetStrips}
use Rattle.sheet_union.specs.Near.{IsSlabAdded}
use Rattle.sheet_union.specs.Inner.Rows.{AreFromTop}
use Rattle.sheet_union.specs.Inner.Sweep.{begun, waiting, reaching_below}
use Rattle.sheet_union.proofs.Members.{IsOne, one_of, contains_of, one_left, one_right, one_cases, one_map, one_back}
use Rattle.sheet_union.proofs.CutRows.{tail_from_top, below_first}

-- ---- those that begin, those that wait, those that end further down
by_test : {P : Type 0} (a b : ℤ) → (int_le a b ≡ true → a ≤ℤ b → P) → (int_le a b ≡ false → b <ℤ a → P) → P
by_test {P} a b f g = by_lt_z {P = P} b a (λ l. g (most_false a b l) l) (λ l. f (most_true a b l) l)

begun_each : (t : ℤ) (bs : List Bounds) (b : Bounds) → IsOne (begun t bs) b → IsOne bs b × ((pos 2 *ℤ b.y0) ≤ℤ t)
unfolding begun IsOne
begun_each t [] b = λ i. absurd i
begun_each t (c ∷ cs) b =
    by_test {P = IsOne (begun t (c ∷ cs)) b → IsOne (c ∷ cs) b × ((pos 2 *ℤ b.y0) ≤ℤ t)} (pos 2 *ℤ c.y0) t
    (λ e l. rw e (λ i. elim i [
      | inl f ↦ (inl f, subst (λ (z : Bounds). (pos 2 *ℤ z.y0) ≤ℤ t) (sym f) l)
      | inr j ↦ (let w = begun_each t cs b j in (inr w.0, w.1))
    ]))
    (λ e l. rw e (λ i. absurd i))

waiting_each : (t : ℤ) (bs : List Bounds) (b : Bounds) → IsOne (waiting t bs) b → IsOne bs b
unfolding waiting IsOne
waiting_each t [] b = λ i. absurd i
waiting_each t (c ∷ cs) b =
    by_test {P = IsOne (waiting t (c ∷ cs)) b → IsOne (c ∷ cs) b} (pos 2 *ℤ c.y0) t
    (λ e l. rw e (λ i. inr (waiting_each t cs b i)))
    (λ e l. rw e (λ i. i))

begun_or_waiting : (t : ℤ) (bs : List Bounds) (b : Bounds) → IsOne bs b → IsOne (begun t bs) b ⊎ IsOne (waiting t bs) b
unfolding begun waiting IsOne
begun_or_waiting t [] b i = absurd i
begun_or_waiting t (c ∷ cs) b i =
    by_test {P = IsOne (begun t (c ∷ cs)) b ⊎ IsOne (waiting t (c ∷ cs)) b} (pos 2 *ℤ c.y0) t
    (λ e l. rw e (elim i [ inl f ↦ inl (inl f) | inr j ↦ elim (begun_or_waiting t cs b j) [ inl k ↦ inl (inr k) | inr k ↦ inr k ] ]))
    (λ e l. rw e (inr i))

waiting_sorted : (t : ℤ) (bs : List Bounds) → AreFromTop bs → AreFromTop (waiting t bs)
unfolding waiting
waiting_sorted t [] h = h
waiting_sorted t (c ∷ cs) h =
    by_test {P = AreFromTop (waiting t (c ∷ cs))} (pos 2 *ℤ c.y0) t
    (λ e l. rw e (waiting_sorted t cs (tail_from_top c cs h)))
    (λ e l. rw e h)

waiting_below : (t : ℤ) (bs : List Bounds) (b : Bounds) → AreFromTop bs → IsOne (waiting t bs) b → t <ℤ (pos 2 *ℤ b.y0)
unfolding waiting IsOne
waiting_below t [] b h = λ i. absurd i
waiting_below t (c ∷ cs) b h =
    by_test {P = IsOne (waiting t (c ∷ cs)) b → t <ℤ (pos 2 *ℤ b.y0)} (pos 2 *ℤ c.y0) t
    (λ e l. rw e (λ i. waiting_below t cs b (tail_from_top c cs h) i))
    (λ e l. rw e (λ i. elim i [
      | inl f ↦ subst (λ (z : Bounds). t <ℤ (pos 2 *ℤ z.y0)) (sym f) l
      | inr j ↦ (let m = below_first c cs b h j in omega (arith, ints, l, m))
    ]))

reaching_each : (u : ℤ) (bs : List Bounds) (b : Bounds) → IsOne (reaching_below u bs) b → IsOne bs b × (u ≤ℤ (pos 2 *ℤ b.y1))
unfolding reaching_below IsOne
reaching_each u [] b = λ i. absurd i
reaching_each u (c ∷ cs) b =
    by_test {P = IsOne (reaching_below u (c ∷ cs)) b → IsOne (c ∷ cs) b × (u ≤ℤ (pos 2 *ℤ b.y1))} u (pos 2 *ℤ c.y1)
    (λ e l. rw e (λ i. elim i [
      | inl f ↦ (inl f, subst (λ (z : Bounds). u ≤ℤ (pos 2 *ℤ z.y1)) (sym f) l)
      | inr j ↦ (let w = reaching_each u cs b j in (inr w.0, w.1))
    ]))
    (λ e l. rw e (λ i. (let w = reaching_each u cs b i in (inr w.0, w.1))))

reaching_or_done : (u : ℤ) (bs : List Bounds) (b : Bounds) → IsOne bs b → IsOne (reaching_below u bs) b ⊎ ((pos 2 *ℤ b.y1) <ℤ u)
unfolding reaching_below IsOne
reaching_or_done u [] b i = absurd i
reaching_or_done u (c ∷ cs) b i =
    by_test {P = IsOne (reaching_below u (c ∷ cs)) b ⊎ ((pos 2 *ℤ b.y1) <ℤ u)} u (pos 2 *ℤ c.y1)
    (λ e l. rw e (elim i [ inl f ↦ inl (inl f) | inr j ↦ elim (reaching_or_done u cs b j) [ inl k ↦ inl (inr k) | inr k ↦ inr k ] ]))
    (λ e l. rw e (elim i [ inl f ↦ inr (subst (λ (z : Bounds). (pos 2 *ℤ z.y1) <ℤ u) (sym f) l) | inr j ↦ reaching_or_done u cs b j ]))

-- ---- at the row t: some octagons wait, some are open, the others ended above it
pub record IsState (octs : List Bounds) (t : ℤ) (opened rest : List Bounds) : Type 0 where
  pub sorted : AreFromTop rest
  pub each : (b : Bounds) → IsOne opened b → IsOne octs b × ((pos 2 *ℤ b.y0) ≤ℤ t)
  pub wait : (b : Bounds) → IsOne rest b → IsOne octs b
  pub all : (b : Bounds) → IsOne octs b → IsOne rest b ⊎ (IsOne opened b ⊎ ((pos 2 *ℤ b.y1) <ℤ t))

pub first_state : (octs : List Bounds) (t : ℤ) → AreFromTop octs → IsState octs t [] octs
unfolding IsOne
first_state octs t h = record { sorted = h; each = λ b i. absurd i; wait = λ b i. i; all = λ b i. inl i }

abbrev pub opened_at : ℤ → ℤ → List Bounds → List Bounds → List Bounds
opened_at t u opened rest = reaching_below u (opened ++ begun t rest)

begun_in : (octs : List Bounds) (t : ℤ) (opened rest : List Bounds) (b : Bounds) → IsState octs t opened rest → IsOne (opened ++ begun t rest) b → IsOne octs b × ((pos 2 *ℤ b.y0) ≤ℤ t)
begun_in octs t opened rest b s i =
    elim (one_cases opened (begun t rest) b i) [
      | inl j ↦ s.each b j
      | inr j ↦ (let w = begun_each t rest b j in (s.wait b w.0, w.1))
    ]

pub next_state : (octs : List Bounds) (t u : ℤ) (opened rest : List Bounds) → t <ℤ u → IsState octs t opened rest → IsState octs u (opened_at t u opened rest) (waiting t rest)
next_state octs t u opened rest d s = record {
  sorted = waiting_sorted t rest s.sorted;
  each = λ b i. (let w = begun_in octs t opened rest b s (reaching_each u (opened ++ begun t rest) b i).0 in let l = w.1 in (w.0, omega (arith, ints, l, d)));
  wait = λ b i. s.wait b (waiting_each t rest b i);
  all = λ b i. elim (s.all b i) [
    | inl j ↦ elim (begun_or_waiting t rest b j) [ inl k ↦ inr (reaching_or_done u (opened ++ begun t rest) b (one_right opened (begun t rest) b k)) | inr k ↦ inl k ]
    | inr j ↦ elim j [
      | inl k ↦ inr (reaching_or_done u (opened ++ begun t rest) b (one_left opened (begun t rest) b k))
      | inr k ↦ inr (inr (omega (arith, ints, k, d)))
    ]
  ];
}

all_map : (P : Bounds → Type 0) (xs : List Bounds) → ((b : Bounds) → IsOne xs b → P (times 2 b)) → All P (in_nanometres xs)
unfolding IsOne
all_map P [] f = All-nil P
all_map P (x ∷ xs) f = All-cons P (times 2 x) (in_nanometres xs) (f x (inl refl)) (all_map P xs (λ b i. f b (inr i)))

pub open_at : (octs : List Bounds) (t u : ℤ) (opened rest : List Bounds) → t <ℤ u → IsState octs t opened rest → AreOpen (in_nanometres octs) t u (in_nanometres (opened_at t u opened rest))
open_at octs t u opened rest d s = record {
  each = all_map (λ b. Contains (in_nanometres octs) b × ReachesAcross b t u) (opened_at t u opened rest)
      (λ b i. (let v = reaching_each u (opened ++ begun t rest) b i in let w = begun_in octs t opened rest b s v.0 in
      (contains_of (in_nanometres octs) (times 2 b) (one_map (times 2) octs b w.0), (w.1, v.1))));
  all = λ c i r. (
      let w = one_back (times 2) octs c (one_of (in_nanometres octs) c i) in
      let q = subst (λ (z : Bounds). ReachesAcross z t u) w.2 r in
      subst (Contains (in_nanometres (opened_at t u opened rest))) (sym w.2)
      (contains_of (in_nanometres (opened_at t u opened rest)) (times 2 w.0) (one_map (times 2) (opened_at t u opened rest) w.0 (found w.0 w.1 q))));
}
  where
    in_reach : (b : Bounds) → ReachesAcross (times 2 b) t u → IsOne (opened ++ begun t rest) b → IsOne (opened_at t u opened rest) b
    in_reach b q i = elim (reaching_or_done u (opened ++ begun t rest) b i) [ inl j ↦ j | inr l ↦ absurd (let m = q.1 in omega (arith, ints, l, m)) ]

    found : (b : Bounds) → IsOne octs b → ReachesAcross (times 2 b) t u → IsOne (opened_at t u opened rest) b
    found b i q =
        elim (s.all b i) [
          | inl j ↦ elim (begun_or_waiting t rest b j) [
            | inl k ↦ in_reach b q (one_right opened (begun t rest) b k)
            | inr k ↦ absurd (let l = waiting_below t rest b s.sorted k in let m = q.0 in omega (arith, ints, l, m))
          ]
          | inr j ↦ elim j [
            | inl k ↦ in_reach b q (one_left opened (begun t rest) b k)
            | inr l ↦ absurd (let m = q.1 in omega (arith, ints, l, m, d))
          ]
        ]

-- ---- the strips so far: whatever the slabs from here on have, put after them, makes the sheet
abbrev pub IsSoFar : List Bounds → List ℤ → List ℤ → List Strip → Type 0
IsSoFar os rs left out = (ys : List Strip) → AreSheetStrips os left ys → AreSheetStrips os rs (out ++ ys)

pub so_far_start : (os : List Bounds) (rs : List ℤ) → IsSoFar os rs rs []
so_far_start os rs ys h = h

pub so_far_next : (os : List Bounds) (rs : List ℤ) (t u : ℤ) (left : List ℤ) (out new : List Strip) → IsSoFar os rs (t ∷ u ∷ left) out → IsSlabAdded os t u out new
    → IsSoFar os rs (u ∷ left) new
unfolding AreSheetStrips IsSlabAdded
so_far_next os rs t u left out new f g ys h =
    subst (AreSheetStrips os rs) (sym (ap (λ l. l ++ ys) g.2 ∙ append_assoc out g.0 ys)) (f (g.0 ++ ys) (g.0, ys, g.1, h, refl))

pub so_far_end : (os : List Bounds) (rs left : List ℤ) (out : List Strip) → length left ≤ 1 → IsSoFar os rs left out → AreSheetStrips os rs out
unfolding AreSheetStrips
so_far_end os rs [] out l f = subst (AreSheetStrips os rs) (append-nil out) (f [] refl)
so_far_end os rs (t ∷ []) out l f = subst (AreSheetStrips os rs) (append-nil out) (f [] refl)
so_far_end os rs (t ∷ u ∷ left) out l f = absurd (omega (arith, l))
