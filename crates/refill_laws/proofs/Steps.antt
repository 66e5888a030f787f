-- A walk, step by step.
use Rattle.std.proofs.Common.{◌≡◌, ◌∙◌, refl, ap, sym, subst, ℕ, zero, suc, ◌+◌, ◌<◌, ◌≤◌, inl, inr, List, [], ◌∷◌, ◌++◌, length, length-append, get_or, arith}
use Rattle.std.specs.Prelude.{◌↔◌, ◌⊎◌, Bool, true, false, cond}
use Rattle.std.proofs.lemmas.Bool.{cases_lt, both_ways, cases_Bool}
use Rattle.std.proofs.lemmas.List.{get_or_append_left, get_or_push}
use Rattle.std.proofs.lemmas.List.Recursion.{is_count_by}
use Rattle.std.proofs.lemmas.List.Sums.{sum_by-append}
use Rattle.board_language.specs.Board.{Board}
use Rattle.fill_rules.specs.Tasks.{ranked}
use Rattle.fill_rules.specs.Made.{Made, no_fill}
use Rattle.fills.specs.Fills.{IsFillOf, AreBoardFills}
use Rattle.fills.proofs.Same.{one_fill}
use Rattle.dirty_rules.specs.Dirty.{AreOldRanks}
use Rattle.refill_laws.specs.Walks.{HasOldPieces, IsReachedAnew, TellsChange, AreFilledAgain, IsDirtyByFlags, numbers_with, AreTasksWith}
use Rattle.refill_laws.specs.Walked.{is_set, count_set, IsWalkedTo}
use Rattle.refill_laws.specs.StepLaws.{IsNextAnew, StartLaw, KeptStepLaw, MadeStepLaw, EndTellsLaw, EndCountLaw, SomeRanksLaw, EarlyCountLaw}
use Rattle.refill_laws.proofs.Walks.{keep_law, next_fill, stay_law}
use Rattle.refill_laws.proofs.Counts.{count_law, one_count, broken_walk, by_changes}

-- ---- lists with one more

set_before : (marks : List Bool) (mark : Bool) (n m : ℕ) → length marks ≡ n → m < n → is_set marks m ≡ is_set (marks ++ mark ∷ []) m
set_before marks mark n m e l = sym (get_or_append_left marks (mark ∷ []) false m (omega (arith, e, l)))

set_at : (marks : List Bool) (mark : Bool) (n : ℕ) → length marks ≡ n → mark ≡ is_set (marks ++ mark ∷ []) n
set_at marks mark n e = sym (get_or_push marks mark false n e)

fill_before : (fills : List Made) (f : Made) (m : ℕ) → m < length fills → get_or fills m no_fill ≡ get_or (fills ++ f ∷ []) m no_fill
fill_before fills f m l = sym (get_or_append_left fills (f ∷ []) no_fill m l)

fill_at : (fills : List Made) (f : Made) → f ≡ get_or (fills ++ f ∷ []) (length fills) no_fill
fill_at fills f = sym (get_or_push fills f no_fill (length fills) refl)

-- what holds of each place of a list holds of each of the list with one more, where it holds of the last
each_more : (fills : List Made) (f : Made) (P : ℕ → Type 0) → ((m : ℕ) → m < length fills → P m) → P (length fills) → (m : ℕ) → m < length (fills ++ f ∷ []) → P m
each_more fills f P h last m l = elim (cases_lt m (length fills)) [
  | inl w ↦ h m w
  | inr w ↦ let e : length fills ≡ m = omega (arith, w, l, length-append fills (f ∷ [])) in subst P e last
]

one_longer : (marks : List Bool) (mark : Bool) (fills : List Made) (f : Made) → length marks ≡ length fills → length (marks ++ mark ∷ []) ≡ length (fills ++ f ∷ [])
one_longer marks mark fills f e = omega (arith, e, length-append marks (mark ∷ []), length-append fills (f ∷ []))

-- ---- one step

module _ (d : Board) (old : ℕ → ℕ) (olds : List Made) (flagged : ℕ → Bool) (fills : List Made) (again changed : List Bool)
    (w : IsWalkedTo d old olds flagged fills again changed) (f : Made) (anew differs : Bool)
  where
    reached_to : (k : ℕ) → k ≤ length fills → IsReachedAnew d (is_set changed) (is_set again) k → IsReachedAnew d (is_set (changed ++ differs ∷ [])) (is_set (again ++ anew ∷ [])) k
    reached_to k l r =
        let m : r.0 < length fills = omega (arith, r.1.above, l) in
        (r.0, r.1, sym (set_before again anew (length fills) r.0 w.as_many m) ∙ r.2, sym (set_before changed differs (length fills) r.0 w.as_told m) ∙ r.3)

    reached_back : (k : ℕ) → k ≤ length fills → IsReachedAnew d (is_set (changed ++ differs ∷ [])) (is_set (again ++ anew ∷ [])) k → IsReachedAnew d (is_set changed) (is_set again) k
    reached_back k l r =
        let m : r.0 < length fills = omega (arith, r.1.above, l) in
        (r.0, r.1, set_before again anew (length fills) r.0 w.as_many m ∙ r.2, set_before changed differs (length fills) r.0 w.as_told m ∙ r.3)

    abbrev Asked : ℕ → Type 0
    Asked k = (flagged k ≡ true) ⊎ IsReachedAnew d (is_set changed) (is_set again) k

    abbrev AskedThen : ℕ → Type 0
    AskedThen k = (flagged k ≡ true) ⊎ IsReachedAnew d (is_set (changed ++ differs ∷ [])) (is_set (again ++ anew ∷ [])) k

    asked_moved : (k : ℕ) → k ≤ length fills → (mark : Bool) → mark ≡ is_set (again ++ anew ∷ []) k → (mark ≡ true) ↔ Asked k
        → (is_set (again ++ anew ∷ []) k ≡ true) ↔ AskedThen k
    asked_moved k l mark e h = (
      λ q. elim (h.0 (e ∙ q)) [ inl x ↦ inl x | inr x ↦ inr (reached_to k l x) ],
      λ q. sym e ∙ h.1 (elim q [ inl x ↦ inl x | inr x ↦ inr (reached_back k l x) ]),
    )

    anew_more : (anew ≡ true) ↔ Asked (length fills) → (k : ℕ) → k < length (fills ++ f ∷ []) → (is_set (again ++ anew ∷ []) k ≡ true) ↔ AskedThen k
    anew_more h =
        each_more fills f (λ (k : ℕ). (is_set (again ++ anew ∷ []) k ≡ true) ↔ AskedThen k)
        (λ k l. asked_moved k (omega (arith, l)) (is_set again k) (set_before again anew (length fills) k w.as_many l) (w.anew.each k l))
        (asked_moved (length fills) (omega arith) anew (set_at again anew (length fills) w.as_many) h)

    -- of the last task the pieces that it had are those of f or not
    last_pieces : (get_or olds (old (length fills)) no_fill).pieces ≡ f.pieces → HasOldPieces olds old (fills ++ f ∷ []) (length fills)
    last_pieces e = e ∙ ap (λ (x : Made). x.pieces) (fill_at fills f)

    last_back : HasOldPieces olds old (fills ++ f ∷ []) (length fills) → (get_or olds (old (length fills)) no_fill).pieces ≡ f.pieces
    last_back e = e ∙ sym (ap (λ (x : Made). x.pieces) (fill_at fills f))

    before_pieces : (m : ℕ) → m < length fills → HasOldPieces olds old fills m → HasOldPieces olds old (fills ++ f ∷ []) m
    before_pieces m l e = e ∙ ap (λ (x : Made). x.pieces) (fill_before fills f m l)

    before_back : (m : ℕ) → m < length fills → HasOldPieces olds old (fills ++ f ∷ []) m → HasOldPieces olds old fills m
    before_back m l e = e ∙ sym (ap (λ (x : Made). x.pieces) (fill_before fills f m l))

    tells_more : (differs ≡ false) ↔ ((get_or olds (old (length fills)) no_fill).pieces ≡ f.pieces)
        → (m : ℕ) → m < length (fills ++ f ∷ []) → (is_set (changed ++ differs ∷ []) m ≡ false) ↔ HasOldPieces olds old (fills ++ f ∷ []) m
    tells_more h =
        each_more fills f (λ (m : ℕ). (is_set (changed ++ differs ∷ []) m ≡ false) ↔ HasOldPieces olds old (fills ++ f ∷ []) m)
        (λ m l. let e = set_before changed differs (length fills) m w.as_told l in (
          λ q. before_pieces m l ((w.tells.each m l).0 (e ∙ q)),
          λ p. sym e ∙ (w.tells.each m l).1 (before_back m l p),
        ))
        (let e = set_at changed differs (length fills) w.as_told in (λ q. last_pieces (h.0 (e ∙ q)), λ p. sym e ∙ h.1 (last_back p)))

    kept_more : (anew ≡ false → (get_or olds (old (length fills)) no_fill).pieces ≡ f.pieces)
        → (m : ℕ) → m < length (fills ++ f ∷ []) → is_set (again ++ anew ∷ []) m ≡ false → HasOldPieces olds old (fills ++ f ∷ []) m
    kept_more h =
        each_more fills f (λ (m : ℕ). is_set (again ++ anew ∷ []) m ≡ false → HasOldPieces olds old (fills ++ f ∷ []) m)
        (λ m l q. before_pieces m l (w.kept m l (set_before again anew (length fills) m w.as_many l ∙ q)))
        (λ q. last_pieces (h (set_at again anew (length fills) w.as_many ∙ q)))

    pub one_step : IsFillOf d (length fills) f → (anew ≡ true) ↔ Asked (length fills)
        → (differs ≡ false) ↔ ((get_or olds (old (length fills)) no_fill).pieces ≡ f.pieces)
        → (anew ≡ false → (get_or olds (old (length fills)) no_fill).pieces ≡ f.pieces)
        → IsWalkedTo d old olds flagged (fills ++ f ∷ []) (again ++ anew ∷ []) (changed ++ differs ∷ [])
    one_step is asked tells kept = record {
      as_many = one_longer again anew fills f w.as_many;
      as_told = one_longer changed differs fills f w.as_told;
      right = next_fill d fills f w.right is;
      anew = record { each = anew_more asked };
      tells = record { each = tells_more tells };
      kept = kept_more kept;
    }

-- ---- the laws of steps

pub start_law : StartLaw
start_law d old olds flagged = record {
  as_many = refl;
  as_told = refl;
  right = record { each = λ i l. absurd (omega (arith, l)) };
  anew = record { each = λ k l. absurd (omega (arith, l)) };
  tells = record { each = λ m l. absurd (omega (arith, l)) };
  kept = λ m l e. absurd (omega (arith, l));
}

not_flagged : (b : Bool) → (b ≡ true → ⊥) → b ≡ false
not_flagged b n = elim (cases_Bool b) [ inl e ↦ absurd (n e) | inr e ↦ e ]

pub kept_step : KeptStepLaw
kept_step b d s t old olds flagged flags filled fills again changed w l none =
    one_step d old olds flagged fills again changed w (get_or olds (old (length fills)) no_fill) false false
    (keep_law b d s t old olds fills flags.ranks filled w.right l
    (stay_law b d old olds fills flagged (is_set changed) (is_set again) flags w.tells w.kept l
    (not_flagged (flagged (length fills)) (λ e. none (inl e))) (λ r. none (inr r))))
    (λ e. absurd (both_ways false refl e), λ a. absurd (none a)) (λ e. refl, λ e. refl) (λ e. refl)

pub made_step : MadeStepLaw
made_step d old olds flagged fills again changed w a f is differs tells =
    one_step d old olds flagged fills again changed w f true differs is (λ e. a, λ x. refl) tells (λ e. absurd (both_ways true e refl))

-- ---- the end

pub end_tells : EndTellsLaw
end_tells b d old olds flagged fills again changed ranks filled w e = record {
  each = λ k l f g h i.
      let m : k < length fills = omega (arith, l, e) in
      let fe : f ≡ get_or olds (old k) no_fill = one_fill b (old k) f (get_or olds (old k) no_fill) h
      (filled.each (old k) (subst (λ (n : ℕ). old k < n) (sym filled.count) (ranks k l).within)) in
      let ge : g ≡ get_or fills k no_fill = one_fill d k g (get_or fills k no_fill) i (w.right.each k m) in (
        λ q. ap (λ (x : Made). x.pieces) fe ∙ (w.tells.each k m).0 q ∙ sym (ap (λ (x : Made). x.pieces) ge),
        λ p. (w.tells.each k m).1 (sym (ap (λ (x : Made). x.pieces) fe) ∙ p ∙ ap (λ (x : Made). x.pieces) ge),
      );
}

pub some_ranks : SomeRanksLaw
some_ranks b d old olds flagged fills again changed w e = (
  numbers_with (is_set again) (length (ranked d)),
  count_law d flagged (is_set changed) (is_set again) (subst (λ (n : ℕ). AreFilledAgain d n flagged (is_set changed) (is_set again)) e w.anew),
)

-- ---- how many were filled again

first_of : (n : ℕ) (mark : Bool) → length (cond mark (n ∷ []) []) ≡ cond mark 1 0
first_of n true = refl
first_of n false = refl

from_front : (test : ℕ → Bool) (n : ℕ) → length (numbers_with test (suc n)) ≡ cond (test 0) 1 0 + length (numbers_with (λ (k : ℕ). test (suc k)) n)
from_front test zero = first_of 0 (test 0) ∙ omega arith
from_front test (suc n) =
    let h = from_front test n in
    let a = length-append (numbers_with test (suc n)) (cond (test (suc n)) (suc n ∷ []) []) in
    let c = length-append (numbers_with (λ (k : ℕ). test (suc k)) n) (cond (test (suc n)) (n ∷ []) []) in
    omega (arith, h, a, c, first_of (suc n) (test (suc n)), first_of n (test (suc n)))

one_or_none : (mark : Bool) (n : ℕ) → cond mark 1 0 + n ≡ cond mark (1 + n) n
one_or_none true n = refl
one_or_none false n = omega arith

pub counted : (marks : List Bool) → length (numbers_with (is_set marks) (length marks)) ≡ count_set marks
counted =
    is_count_by (λ (marks : List Bool). length (numbers_with (is_set marks) (length marks))) (λ (mark : Bool). mark) refl
    (λ mark marks. from_front (is_set (mark ∷ marks)) (length marks) ∙ one_or_none mark (length (numbers_with (is_set marks) (length marks))))

count_more : (marks : List Bool) → count_set (marks ++ true ∷ []) ≡ count_set marks + 1
count_more marks = sum_by-append (λ (mark : Bool). cond mark 1 0) marks (true ∷ [])

module _ (b d : Board) (old : ℕ → ℕ) (olds : List Made) (flagged : ℕ → Bool) (fills : List Made) (again changed : List Bool) (ranks : AreOldRanks b d old)
    (filled : AreBoardFills b olds) (w : IsWalkedTo d old olds flagged fills again changed) (all : ℕ → Bool) (tells : TellsChange b d old all)
    (list : List ℕ) (is_list : AreTasksWith d (λ (k : ℕ). IsDirtyByFlags d flagged all k) list)
  where
    at_end : length fills ≡ length (ranked d) → count_set again ≡ length list
    at_end e =
        let n : length again ≡ length (ranked d) = w.as_many ∙ e in
        let a : AreFilledAgain d (length (ranked d)) flagged (is_set changed) (is_set again) =
        subst (λ (n : ℕ). AreFilledAgain d n flagged (is_set changed) (is_set again)) e w.anew in
        let c : AreFilledAgain d (length (ranked d)) flagged all (is_set again) =
        by_changes b d old olds fills flagged (is_set changed) all (is_set again) ranks filled w.right w.tells tells (length (ranked d)) (omega arith) (omega (arith, e)) a in
        let o : length (numbers_with (is_set again) (length (ranked d))) ≡ length list =
        one_count d flagged all (numbers_with (is_set again) (length (ranked d))) list (count_law d flagged all (is_set again) c) is_list in
        sym (counted again) ∙ ap (λ (k : ℕ). length (numbers_with (is_set again) k)) n ∙ o

    so_far : length fills ≤ length (ranked d) → count_set again ≤ length list
    so_far l =
        let h : length (numbers_with (is_set again) (length fills)) ≤ length list =
        broken_walk b d old olds fills flagged (is_set changed) all (is_set again) ranks filled w.right w.tells tells (length fills) l (omega arith) w.anew list is_list in
        subst (λ (n : ℕ). n ≤ length list) (ap (λ (k : ℕ). length (numbers_with (is_set again) k)) (sym w.as_many) ∙ counted again) h

    -- with the next task marked too
    with_next : IsNextAnew d flagged fills again changed → AreFilledAgain d (length fills + 1) flagged (is_set changed) (is_set (again ++ true ∷ []))
    with_next x = record {
      each = λ k l. elim (cases_lt k (length fills)) [
        | inl v ↦ moved k (omega (arith, v)) (is_set again k) (set_before again true (length fills) k w.as_many v) (w.anew.each k v)
        | inr v ↦ let e : length fills ≡ k = omega (arith, v, l) in
            subst (λ (j : ℕ). (is_set (again ++ true ∷ []) j ≡ true) ↔ ((flagged j ≡ true) ⊎ IsReachedAnew d (is_set changed) (is_set (again ++ true ∷ [])) j)) e
            (moved (length fills) (omega arith) true (set_at again true (length fills) w.as_many) (λ q. x, λ q. refl))
      ];
    }
      where
        moved : (k : ℕ) → k ≤ length fills → (mark : Bool) → mark ≡ is_set (again ++ true ∷ []) k
            → (mark ≡ true) ↔ ((flagged k ≡ true) ⊎ IsReachedAnew d (is_set changed) (is_set again) k)
            → (is_set (again ++ true ∷ []) k ≡ true) ↔ ((flagged k ≡ true) ⊎ IsReachedAnew d (is_set changed) (is_set (again ++ true ∷ [])) k)
        moved k l mark e h = (
          λ q. elim (h.0 (e ∙ q)) [
            | inl y ↦ inl y
            | inr r ↦ inr (r.0, r.1, sym (set_before again true (length fills) r.0 w.as_many (omega (arith, r.1.above, l))) ∙ r.2, r.3)
          ],
          λ q. sym e ∙ h.1 (elim q [
            | inl y ↦ inl y
            | inr r ↦ inr (r.0, r.1, set_before again true (length fills) r.0 w.as_many (omega (arith, r.1.above, l)) ∙ r.2, r.3)
          ]),
        )

    and_next : length fills < length (ranked d) → IsNextAnew d flagged fills again changed → count_set again + 1 ≤ length list
    and_next l x =
        let n : length (again ++ true ∷ []) ≡ length fills + 1 = omega (arith, length-append again (true ∷ []), w.as_many) in
        let h : length (numbers_with (is_set (again ++ true ∷ [])) (length fills + 1)) ≤ length list =
        broken_walk b d old olds fills flagged (is_set changed) all (is_set (again ++ true ∷ [])) ranks filled w.right w.tells tells (length fills + 1)
        (omega (arith, l)) (omega arith) (with_next x) list is_list in
        subst (λ (m : ℕ). m ≤ length list)
        (ap (λ (k : ℕ). length (numbers_with (is_set (again ++ true ∷ [])) k)) (sym n) ∙ counted (again ++ true ∷ []) ∙ count_more again) h

pub end_count : EndCountLaw
end_count b d old olds flagged fills again changed ranks filled w e all tells list is_list =
    at_end b d old olds flagged fills again changed ranks filled w all tells list is_list e

pub early_count : EarlyCountLaw
early_count b d old olds flagged fills again changed ranks filled w l all tells list is_list = (
  so_far b d old olds flagged fills again changed ranks filled w all tells list is_list l,
  and_next b d old olds flagged fills again changed ranks filled w all tells list is_list,
)
