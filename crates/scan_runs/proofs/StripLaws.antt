-- Strips below strips.
use Rattle.std.proofs.Common.{◌≡◌, refl, sym, ap, ◌∙◌, subst, ◌⊎◌, inl, inr, length, get_or, take, ℕ, ◌<◌, ◌+◌, ◌≤◌, List, [], ◌∷◌, ◌++◌, append_assoc, Result, Ok, Err, IfOk, arith}
use Rattle.std.specs.Prelude.{ℤ, pos, ◌+ℤ◌, ◌≤ℤ◌, ◌<ℤ◌, ◌↔◌}
use Rattle.std.proofs.lemmas.List.{take_more, take_all}
use Rattle.std.proofs.lemmas.Int.{ints}
use Rattle.plane.specs.Plane.{Bounds}
use Rattle.grid_sets.specs.Rows.{Row}
use Rattle.grid_sets.specs.Bands.{rows_of}
use Rattle.scan_runs.specs.Inner.Merge.{AreRowsBetween, AreStraight}
use Rattle.grid_sets.specs.declared.Slant.{Slant}
use Rattle.scan_runs.proofs.Merging.{no_rows, band_between, rows_put_together, has_end}
use Rattle.grid_sets.proofs.BandRows.{append_none}
use Rattle.grid_sets.specs.Points.{HasPoint}
use Rattle.scan_runs.specs.declared.strip.RowStrip.{RowStrip}
use Rattle.scan_runs.specs.Strips.{band_of, rows_of_strips, IsSmallStrip, AreSmallStrips, AreStripsAdded}
use Rattle.scan_runs.specs.Inner.Parts.{IsSoFar, AreOpenOnRows, IsKeptOpen}

pub all_more : (ss ts : List RowStrip) → rows_of_strips (ss ++ ts) ≡ rows_of_strips ss ++ rows_of_strips ts
all_more [] ts = refl
all_more (s ∷ ss) ts = ap (λ (u : List Row). rows_of (band_of s) ++ u) (all_more ss ts) ∙ sym (append_assoc (rows_of (band_of s)) (rows_of_strips ss) (rows_of_strips ts))

none_more : (ss : List RowStrip) → ss ++ [] ≡ ss
none_more [] = refl
none_more (s ∷ ss) = ap (λ (u : List RowStrip). s ∷ u) (none_more ss)

small_both : (ss ts : List RowStrip) → AreSmallStrips ss → AreSmallStrips ts → AreSmallStrips (ss ++ ts)
small_both [] ts a b = b
small_both (s ∷ ss) ts a b = (a.0, small_both ss ts a.1 b)

pub strips_both : (os : List Bounds) (top next : ℤ) (n half rest : ℕ) (old mid new : List RowStrip) → next ≡ top +ℤ pos half +ℤ pos 1 → half + rest + 1 ≡ n
    → AreStripsAdded os top half old mid → AreStripsAdded os next rest mid new → AreStripsAdded os top n old new
strips_both os top next n half rest old mid new e f a b =
    let P : ℤ → Type 0 = λ v. AreRowsBetween (HasPoint os) v (next +ℤ pos rest) (rows_of_strips b.more) in
    let Q : ℤ → Type 0 = λ v. AreRowsBetween (HasPoint os) (top +ℤ pos half +ℤ pos 1) v (rows_of_strips b.more) in
    let R : List Row → Type 0 = λ v. AreRowsBetween (HasPoint os) top (top +ℤ pos n) v in
    let S : List RowStrip → Type 0 = λ v. new ≡ v ++ b.more in
    let low : next +ℤ pos rest ≡ top +ℤ pos n = omega (arith, ints) in
    let r = rows_put_together (HasPoint os) top (top +ℤ pos half) (top +ℤ pos n) (rows_of_strips a.more) (rows_of_strips b.more) (omega (arith, ints)) (omega (arith, ints)) a.rows (subst Q low (subst P e b.rows)) in
    record { more = a.more ++ b.more; added = subst S a.added b.added ∙ append_assoc old a.more b.more; rows = subst R (sym (all_more a.more b.more)) r; small = small_both a.more b.more a.small b.small }

one_band : (os : List Bounds) (top : ℤ) (n : ℕ) (ss : List Slant) → (ss ≡ [] → ⊥) → AreStraight (HasPoint os) top n ss
    → AreRowsBetween (HasPoint os) top (top +ℤ pos n) (rows_of (record { top = top; more = n; runs = ss }) ++ [])
one_band os top n [] f a = absurd (f refl)
one_band os top n (s ∷ ss) f a =
    let P : List Row → Type 0 = λ v. AreRowsBetween (HasPoint os) top (top +ℤ pos n) v in
    subst P (sym (append_none (rows_of (record { top = top; more = n; runs = s ∷ ss })))) (band_between (HasPoint os) top n s ss a)

-- ---- the octagons that are open
pub open_none : (top : ℤ) (n : ℕ) → AreOpenOnRows [] top n []
open_none top n = record { same = λ x y h l. (λ k. k, λ k. k) }

pub open_more : (o : Bounds) (xs some new : List Bounds) (i : ℕ) (top bottom : ℤ) (n : ℕ) → i < length xs → o ≡ get_or xs i o → bottom ≡ top +ℤ pos n
    → AreOpenOnRows (take i xs) top n some → IsKeptOpen top bottom o some new → AreOpenOnRows (take (i + 1) xs) top n new
open_more o xs some new i top bottom n l e q a k =
    subst (λ (t : List Bounds). AreOpenOnRows t top n new) (sym (take_more xs i o l))
    (subst (λ (v : Bounds). AreOpenOnRows (take i xs ++ v ∷ []) top n new) e (record { same = λ x y g h. step x y g h }))
  where
    step : (x y : ℤ) → top ≤ℤ y → y ≤ℤ (top +ℤ pos n) → HasPoint new x y ↔ HasPoint (take i xs ++ o ∷ []) x y
    step x y g h =
        let r = k.same x y g (omega (arith, ints)) in
        let s = a.same x y g h in
        let t = has_end (take i xs) o x y in (
          λ m. t.1 (elim (r.0 m) [ inl u ↦ inl (s.0 u) | inr w ↦ inr w ]),
          λ m. r.1 (elim (t.0 m) [ inl u ↦ inl (s.1 u) | inr w ↦ inr w ]),
        )

pub kept_open : (o : Bounds) (os : List Bounds) (top bottom : ℤ) → IsKeptOpen top bottom o os (os ++ o ∷ [])
kept_open o os top bottom = record { same = λ x y g h. has_end os o x y }

pub kept_closed : (o : Bounds) (os : List Bounds) (top bottom : ℤ) → (o.y1 <ℤ top) ⊎ (bottom <ℤ o.y0) → IsKeptOpen top bottom o os os
kept_closed o os top bottom d = record { same = λ x y g h. (λ m. inl m, λ m. elim m [ inl u ↦ u | inr w ↦ absurd (out y g h w.y_low w.y_high) ]) }
  where
    out : (y : ℤ) → top ≤ℤ y → y ≤ℤ bottom → o.y0 ≤ℤ y → y ≤ℤ o.y1 → ⊥
    out y g h i j = omega (arith, ints, d)

-- strips of the open octagons are strips of all
open_strips : (os some : List Bounds) (top : ℤ) (n : ℕ) (old new : List RowStrip) → AreOpenOnRows os top n some → AreStripsAdded some top n old new → AreStripsAdded os top n old new
open_strips os some top n old new o a = record {
  more = a.more;
  added = a.added;
  rows = record {
    descending = a.rows.descending;
    there = λ x y h. let r = a.rows.there x y h in (r.0, r.1, (o.same x y r.0 r.1).0 r.2);
    back = λ x y g h p. a.rows.back x y g h ((o.same x y g h).1 p);
  };
  small = a.small;
}

-- ---- a stretch whose runs are straight
strip_one : (os : List Bounds) (top : ℤ) (n : ℕ) (ss : List Slant) (s : RowStrip) (old new : List RowStrip) → (ss ≡ [] → ⊥) → IsSoFar os top n ss → IsSmallStrip s
    → s.top ≡ top → s.more ≡ n → s.runs.items ≡ ss → new ≡ old ++ s ∷ [] → AreStripsAdded os top n old new
strip_one os top n ss s old new f a k h i j p =
    let r = one_band os top n ss f a.straight in
    let P : List Slant → Type 0 = λ v. AreRowsBetween (HasPoint os) top (top +ℤ pos n) (rows_of (record { top = top; more = n; runs = v }) ++ []) in
    let Q : ℤ → Type 0 = λ v. AreRowsBetween (HasPoint os) top (top +ℤ pos n) (rows_of (record { top = v; more = n; runs = s.runs.items }) ++ []) in
    let R : ℕ → Type 0 = λ v. AreRowsBetween (HasPoint os) top (top +ℤ pos n) (rows_of (record { top = s.top; more = v; runs = s.runs.items }) ++ []) in
    record { more = s ∷ []; added = p; rows = subst R (sym i) (subst Q (sym h) (subst P (sym j) r)); small = (k, tt) }

strip_none : (os : List Bounds) (top : ℤ) (n : ℕ) (ss : List Slant) (old new : List RowStrip) → ss ≡ [] → IsSoFar os top n ss → new ≡ old → AreStripsAdded os top n old new
strip_none os top n ss old new e a p =
    let P : List Slant → Type 0 = λ v. AreStraight (HasPoint os) top n v in
    record { more = []; added = p ∙ sym (none_more old); rows = no_rows (HasPoint os) top n (subst P e a.straight); small = tt }

no_slants : (ss : List Slant) → (ss ≡ []) ⊎ (ss ≡ [] → ⊥)
no_slants [] = inl refl
no_slants (s ∷ ss) = inr (λ e. cc)

pub strips_straight : (E U : Type 0) (os some : List Bounds) (top t : ℤ) (n : ℕ) (ss : List Slant) (s : RowStrip) (old new : List RowStrip) (r : Result U E) → AreOpenOnRows os top n some → t ≡ top
    → IsSoFar some t n ss → IsSmallStrip s → s.top ≡ top → s.more ≡ n → s.runs.items ≡ ss
    → IfOk r (λ _. ss ≡ [] → new ≡ old) → IfOk r (λ _. (ss ≡ [] → ⊥) → new ≡ old ++ s ∷ []) → IfOk r (λ _. AreStripsAdded os top n old new)
strips_straight E U os some top t n ss s old new (Err x) o z a k h i j p q = p
strips_straight E U os some top t n ss s old new (Ok u) o z a k h i j p q =
    let b : IsSoFar some top n ss = subst (λ (v : ℤ). IsSoFar some v n ss) z a in
    open_strips os some top n old new o (elim (no_slants ss) [
      | inl e ↦ strip_none some top n ss old new e b (p e)
      | inr f ↦ strip_one some top n ss s old new f b k h i j (q f)
    ])

pub strips_whole : (E : Type 0) (U : Type 0) (os : List Bounds) (top t next : ℤ) (n half rest : ℕ) (old mid new : List RowStrip) (r : Result U E) → t ≡ top → next ≡ top +ℤ pos half +ℤ pos 1 → half + rest + 1 ≡ n
    → AreStripsAdded os t half old mid → IfOk r (λ _. AreStripsAdded os next rest mid new) → IfOk r (λ _. AreStripsAdded os top n old new)
strips_whole E U os top t next n half rest old mid new (Ok u) z e f a b = let P : ℤ → Type 0 = λ v. AreStripsAdded os v half old mid in strips_both os top next n half rest old mid new e f (subst P z a) b
strips_whole E U os top t next n half rest old mid new (Err x) z e f a b = b

pub strips_open : (E U : Type 0) (os some : List Bounds) (top t : ℤ) (n : ℕ) (old new : List RowStrip) (r : Result U E) → t ≡ top → AreOpenOnRows os t n some → IfOk r (λ _. AreStripsAdded some top n old new)
    → IfOk r (λ _. AreStripsAdded os top n old new)
strips_open E U os some top t n old new (Err x) z o a = a
strips_open E U os some top t n old new (Ok u) z o a = open_strips os some top n old new (subst (λ (v : ℤ). AreOpenOnRows os v n some) z o) a

pub kept_as : (o : Bounds) (os : List Bounds) (top bottom t b : ℤ) → t ≡ top → b ≡ bottom → (o.y1 <ℤ t) ⊎ (b <ℤ o.y0) → IsKeptOpen top bottom o os os
kept_as o os top bottom t b e f d = kept_closed o os top bottom (subst (λ (v : ℤ). (o.y1 <ℤ v) ⊎ (bottom <ℤ o.y0)) e (subst (λ (v : ℤ). (o.y1 <ℤ t) ⊎ (v <ℤ o.y0)) f d))

pub open_end : (xs : List Bounds) (i : ℕ) (top t : ℤ) (n : ℕ) (some : List Bounds) → length xs ≤ i → t ≡ top → AreOpenOnRows (take i xs) t n some → AreOpenOnRows xs top n some
open_end xs i top t n some l z a = subst (λ (w : ℤ). AreOpenOnRows xs w n some) z (subst (λ (v : List Bounds). AreOpenOnRows v t n some) (take_all i xs l) a)

pub open_at : (os some : List Bounds) (top t : ℤ) (n : ℕ) → t ≡ top → AreOpenOnRows os t n some → AreOpenOnRows os top n some
open_at os some top t n z a = subst (λ (v : ℤ). AreOpenOnRows os v n some) z a
