-- What threads make, one for each fill, in the order of the fills.
use Rattle.std.proofs.Common.{◌≡◌, refl, sym, ◌∙◌, ap, subst, ℕ, zero, suc, ◌<◌, arith, List, [], ◌∷◌, length, get_or, map}
use Rattle.std.specs.Prelude.{Result, Ok, Err, IfOk, MatchResult, Contains}
use Rattle.std.specs.List.{All, AllZip}
use Rattle.std.proofs.lemmas.List.{get_or-map}
use Rattle.std.proofs.lemmas.List.Elements.{All-cons}
use Rattle.std.proofs.lemmas.Result.{MatchResult-weaker}
use Rattle.rings.specs.Rings.{Traced, IsRingInRange, not_traced}
use Rattle.fill_rules.specs.Made.{Made, no_fill}
use Rattle.output_rules.specs.Traced.{AreTracedOf}
use Rattle.outlines.specs.Drawn.{ArePiecesDrawable, AreCovered, AreRingsInRange}
use Rattle.outlines.specs.Inner.Each.{IsOutlined}
use Rattle.outlines.proofs.Each as each

module _ {X : Type 0} (v : X → Made) where
  -- each is drawn
  abbrev pub AreDrawn : List X → List Traced → Type 0
  AreDrawn xs ts = AllZip (λ x t. IsOutlined (v x).pieces t) xs ts

  -- what came of each, where all came
  pub drawn_ok : {E : Type 0} (xs : List X) (rs : List (Result Traced E)) (ts : List Traced) → rs ≡ map Ok ts → AllZip (λ x r. IfOk r (λ t. IsOutlined (v x).pieces t)) xs rs → AreDrawn xs ts
  drawn_ok {E} xs rs ts e h = go xs ts (subst (AllZip (λ x r. IfOk r (λ t. IsOutlined (v x).pieces t)) xs) e h)
    where
      go : (xs : List X) (ts : List Traced) → AllZip (λ x (r : Result Traced E). IfOk r (λ t. IsOutlined (v x).pieces t)) xs (map Ok ts) → AreDrawn xs ts
      go [] [] h = tt
      go [] (t ∷ ts) h = absurd h
      go (x ∷ xs) [] h = absurd h
      go (x ∷ xs) (t ∷ ts) h = (h.0, go xs ts h.1)

  counted : (xs : List X) (ts : List Traced) → AreDrawn xs ts → length ts ≡ length (map v xs)
  counted [] [] h = refl
  counted [] (t ∷ ts) h = absurd h
  counted (x ∷ xs) [] h = absurd h
  counted (x ∷ xs) (t ∷ ts) h = ap suc (counted xs ts h.1)

  at_place : (xs : List X) (ts : List Traced) → AreDrawn xs ts → (i : ℕ) → i < length ts → IsOutlined (get_or (map v xs) i no_fill).pieces (get_or ts i not_traced)
  at_place xs [] h i l = absurd (omega (arith, l))
  at_place [] (t ∷ ts) h i l = absurd h
  at_place (x ∷ xs) (t ∷ ts) h zero l = h.0
  at_place (x ∷ xs) (t ∷ ts) h (suc i) l = at_place xs ts h.1 i (omega (arith, l))

  pub traced : (xs : List X) (ts : List Traced) → AreDrawn xs ts → AreTracedOf (map v xs) ts
  traced xs ts h = record { count = counted xs ts h; each = λ i l. (at_place xs ts h i l).outlines }

  pub covered : (xs : List X) (ts : List Traced) → AreDrawn xs ts → AreCovered (map v xs) ts
  covered xs ts h = λ i l. (at_place xs ts h i l).cover

  pub in_range : (xs : List X) (ts : List Traced) → AreDrawn xs ts → AreRingsInRange ts
  in_range [] [] h = λ k d l. absurd (omega (arith, l))
  in_range [] (t ∷ ts) h = absurd h
  in_range (x ∷ xs) [] h = absurd h
  in_range (x ∷ xs) (t ∷ ts) h = All-cons (λ (u : Traced). All IsRingInRange u.rings) t ts h.0.range (in_range xs ts h.1)

  -- a fill that a thread is handed can be drawn
  pub drawable_at : (now xs : List X) (k : ℕ) (d x : X) → now ≡ xs → All (λ (f : Made). ArePiecesDrawable f.pieces) (map v xs) → k < length now → x ≡ get_or now k d → ArePiecesDrawable (v x).pieces
  drawable_at now xs k d x s h l e =
      each.at_place (λ (f : Made). ArePiecesDrawable f.pieces) v now k no_fill (v x) (subst (λ (ys : List X). All (λ (f : Made). ArePiecesDrawable f.pieces) (map v ys)) (sym s) h) l
      (ap v e ∙ sym (get_or-map v now k d no_fill l))

  -- what all of them make, as one list
  pub together : {E V : Type 0} (items : V → List Traced) (r : Result V E) (xs : List X) (rs : List (Result Traced E)) (Q : List Traced → Type 0)
      → MatchResult r (λ w. (ts : List Traced) × (rs ≡ map Ok ts) × (items w ≡ ts)) (λ e. Contains rs (Err e))
      → AllZip (λ x s. IfOk s (λ t. IsOutlined (v x).pieces t)) xs rs → ((ts : List Traced) → AreDrawn xs ts → Q ts) → IfOk r (λ w. Q (items w))
  together items r xs rs Q m h f = MatchResult-weaker r m (λ w q. subst Q (sym q.2) (f q.0 (drawn_ok xs rs q.0 q.1 h))) (λ e q. tt)
