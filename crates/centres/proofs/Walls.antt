-- Walls are found outline by outline.
use Rattle.std.proofs.Common.{◌≡◌, refl, sym, subst, ℕ, ◌⊎◌, inl, inr, List, [], ◌∷◌, ◌++◌}
use Rattle.std.specs.Prelude.{Bool, true, false, Any}
use Rattle.std.specs.List.{All}
use Rattle.std.proofs.lemmas.Bool.{true≢false}
use Rattle.std.proofs.lemmas.List.Elements.{All-append}
use Rattle.plane.specs.Plane.{PlanePoint, Bounds, In, IsTight}
use Rattle.grid_num.specs.declared.Point.{Point}
use Rattle.plane.specs.Covering.{IsOn, Covers, StrictlyCovers, edges_of}
use Rattle.plane.proofs.Lists.{any_left, any_right, any_parts, covers_cases}
use Rattle.classes.specs.Classes.{IsOneOf}
use Rattle.slabs.specs.Outside.{IsOutside}
use Rattle.strips.specs.Strips.{IsStout}
use Rattle.outline_slab.specs.Cuts.{HaveJust}
use Rattle.outline_slab.specs.Filled.{AreFilling, IsLeftOver}
use Rattle.board_language.specs.declared.board.Area.{Area}
use Rattle.board_language.specs.Copper.{has_layer}
use Rattle.board_language.proofs.Members.{one_of_append, append_left, append_right}
use Rattle.centres.specs.Walls.{IsOffLimits, IsAlongWall, AreWallsOf, stout_of}
use Rattle.centres.specs.Laws.{WallsLaw}
use Rattle.centres.proofs.Listed.{in_stout, stout_in, all_stout, all_tight}

-- ---- the areas of a list, and one more
one_alone : {A : Type 0} (x y : A) → IsOneOf x (y ∷ []) → x ≡ y
unfolding IsOneOf
one_alone x y (inl e) = e
one_alone x y (inr i) = absurd i

alone : {A : Type 0} (y : A) → IsOneOf y (y ∷ [])
unfolding IsOneOf
alone y = inl refl

none : {A : Type 0} (x : A) → IsOneOf x [] → ⊥
unfolding IsOneOf
none x i = i

off_more : (outline : List Point) (layer : ℕ) (areas : List Area) (a : Area) (p : PlanePoint) → IsOffLimits outline layer areas p → IsOffLimits outline layer (areas ++ a ∷ []) p
unfolding IsOffLimits
off_more outline layer areas a p (inl n) = inl n
off_more outline layer areas a p (inr (c, k, s)) = inr (c, (append_left c areas (a ∷ []) k.0, k.1), s)

-- off limits by the list with one more is off limits by the list, or by the one
off_parts : (outline : List Point) (layer : ℕ) (areas : List Area) (a : Area) (p : PlanePoint) → IsOffLimits outline layer (areas ++ a ∷ []) p
    → IsOffLimits outline layer areas p ⊎ ((has_layer a.layers layer ≡ true) × StrictlyCovers (edges_of a.outline) p)
unfolding IsOffLimits
off_parts outline layer areas a p (inl n) = inl (inl n)
off_parts outline layer areas a p (inr (c, k, s)) = elim (one_of_append c areas (a ∷ []) k.0) [
  | inl h ↦ inl (inr (c, (h, k.1), s))
  | inr h ↦
      let e = one_alone c a h in
      inr (subst (λ (x : Area). has_layer x.layers layer ≡ true) e k.1, subst (λ (x : Area). StrictlyCovers (edges_of x.outline) p) e s)
]

off_last : (outline : List Point) (layer : ℕ) (areas : List Area) (a : Area) (p : PlanePoint) → has_layer a.layers layer ≡ true
    → StrictlyCovers (edges_of a.outline) p → IsOffLimits outline layer (areas ++ a ∷ []) p
unfolding IsOffLimits
off_last outline layer areas a p l s = inr (a, (append_right a areas (a ∷ []) (alone a), l), s)

side_more : (outline : List Point) (layer : ℕ) (areas : List Area) (a : Area) (p : PlanePoint) → IsAlongWall outline layer areas p → IsAlongWall outline layer (areas ++ a ∷ []) p
unfolding IsAlongWall
side_more outline layer areas a p (inl n) = inl n
side_more outline layer areas a p (inr (c, k, s)) = inr (c, (append_left c areas (a ∷ []) k.0, k.1), s)

side_last : (outline : List Point) (layer : ℕ) (areas : List Area) (a : Area) (p : PlanePoint) → has_layer a.layers layer ≡ true
    → Any (λ e. IsOn e p) (edges_of a.outline) → IsAlongWall outline layer (areas ++ a ∷ []) p
unfolding IsAlongWall
side_last outline layer areas a p l s = inr (a, (append_right a areas (a ∷ []) (alone a), l), s)

-- ---- the zone's outline
outside_parts : (outline : List Point) (layer : ℕ) (frame : Bounds) (p : PlanePoint) → IsOutside (edges_of outline) frame p → (IsAlongWall outline layer [] p → ⊥) → IsOffLimits outline layer [] p
unfolding IsOutside IsAlongWall IsOffLimits
outside_parts outline layer frame p (f, inl n) side = inl n
outside_parts outline layer frame p (f, inr o) side = absurd (side (inl o))

outline_walls : (outline : List Point) (layer : ℕ) (frame : Bounds) (octs : List Bounds) → All IsTight octs
    → HaveJust octs (IsOutside (edges_of outline) frame) → AreFilling octs (IsLeftOver (edges_of outline) frame)
    → AreWallsOf outline layer [] frame (stout_of octs)
unfolding IsOffLimits
outline_walls outline layer frame octs tight just filling = record {
  tight = all_tight octs tight;
  stout = all_stout octs;
  each = λ p f off. in_stout octs p (filling p (f, elim off [ inl n ↦ n | inr a ↦ absurd (none a.0 a.1.0) ]));
  only = λ p w side. outside_parts outline layer frame p ((just p).0 (stout_in octs p w)) side;
}

-- ---- a rule area on the layer
strictly : (a : Area) (p : PlanePoint) → Covers (edges_of a.outline) p → (Any (λ e. IsOn e p) (edges_of a.outline) → ⊥) → StrictlyCovers (edges_of a.outline) p
strictly a p c off = elim (covers_cases (edges_of a.outline) p c) [ inl o ↦ absurd (off o) | inr o ↦ record { odd = o; off = off } ]

area_walls : (outline : List Point) (layer : ℕ) (areas : List Area) (frame : Bounds) (walls : List Bounds) (a : Area) (octs : List Bounds)
    → AreWallsOf outline layer areas frame walls → has_layer a.layers layer ≡ true → All IsTight octs
    → HaveJust octs (Covers (edges_of a.outline)) → AreFilling octs (StrictlyCovers (edges_of a.outline))
    → AreWallsOf outline layer (areas ++ a ∷ []) frame (walls ++ stout_of octs)
area_walls outline layer areas frame walls a octs w l tight just filling = record {
  tight = All-append IsTight walls (stout_of octs) w.tight (all_tight octs tight);
  stout = All-append IsStout walls (stout_of octs) w.stout (all_stout octs);
  each = λ p f off. elim (off_parts outline layer areas a p off) [
    | inl o ↦ any_left (λ (c : Bounds). In c p) walls (stout_of octs) (w.each p f o)
    | inr o ↦ any_right (λ (c : Bounds). In c p) walls (stout_of octs) (in_stout octs p (filling p o.1))
  ];
  only = λ p h side. elim (any_parts (λ (c : Bounds). In c p) walls (stout_of octs) h) [
    | inl g ↦ off_more outline layer areas a p (w.only p g (λ s. side (side_more outline layer areas a p s)))
    | inr g ↦ off_last outline layer areas a p l (strictly a p ((just p).0 (stout_in octs p g)) (λ o. side (side_last outline layer areas a p l o)))
  ];
}

-- ---- a rule area on other layers
other_walls : (outline : List Point) (layer : ℕ) (areas : List Area) (frame : Bounds) (walls : List Bounds) (a : Area)
    → AreWallsOf outline layer areas frame walls → has_layer a.layers layer ≡ false → AreWallsOf outline layer (areas ++ a ∷ []) frame walls
other_walls outline layer areas frame walls a w l = record {
  tight = w.tight;
  stout = w.stout;
  each = λ p f off. elim (off_parts outline layer areas a p off) [
    | inl o ↦ w.each p f o
    | inr o ↦ absurd (differ (has_layer a.layers layer) o.0 l)
  ];
  only = λ p h side. off_more outline layer areas a p (w.only p h (λ s. side (side_more outline layer areas a p s)));
}
  where
    differ : (c : Bool) → c ≡ true → c ≡ false → ⊥
    differ true e f = true≢false f
    differ false e f = true≢false (sym e)

pub walls_law : WallsLaw
walls_law = record { outline = outline_walls; area = area_walls; elsewhere = other_walls }
