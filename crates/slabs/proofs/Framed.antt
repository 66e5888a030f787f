-- A closed chain and the rectangle round it are closed together.
use Rattle.std.proofs.Common.{◌≡◌, refl, sym, ◌∙◌, subst, ◌⊎◌, inl, inr, arith, List, [], ◌∷◌}
use Rattle.std.specs.Prelude.{ℤ, pos, ◌*ℤ◌, ◌<ℤ◌}
use Rattle.std.proofs.lemmas.Int.{ints}
use Rattle.plane.specs.Plane.{PlanePoint, StrictlyWithin, box_of}
use Rattle.grid_num.proofs.Products.{mul_lt}
use Rattle.plane.specs.Covering.{Edge, IsOn, edges_of}
use Rattle.plane.specs.Edges.{IsOctilinear, AreOctilinear}
use Rattle.plane.specs.Corners.{box_corners}
use Rattle.plane.proofs.On.{on_level, on_upright}
use Rattle.plane.proofs.Lists.{any_none, any_cases}
use Rattle.slabs.specs.Slabs.{IsAmong, IsOffRows}
use Rattle.slabs.specs.Outside.{FramedLaw}
use Rattle.slabs.proofs.Order.{one_of}
use Rattle.slabs.proofs.Closed.{chain_law, together_law}
use Rattle.slabs.proofs.Law.{one_on}
use Rattle.slabs.proofs.Outside.{ends_all, strictly, rim_not_strictly}

abbrev way : ℤ → ℤ → ℤ → ℤ → Edge
way a b c d = record { start = record { x = a; y = b }; finish = record { x = c; y = d } }

module _ (x0 x1 y0 y1 : ℤ) where
  abbrev Rim : List Edge
  Rim = edges_of (box_corners x0 x1 y0 y1)

  abbrev top : Edge
  top = way x0 y0 x1 y0

  abbrev right : Edge
  right = way x1 y0 x1 y1

  abbrev bottom : Edge
  bottom = way x1 y1 x0 y1

  abbrev left : Edge
  left = way x0 y1 x0 y0

  rim_octilinear : AreOctilinear Rim
  unfolding AreOctilinear IsOctilinear
  rim_octilinear = (inl refl, (inr (inl refl), (inl refl, (inr (inl refl), tt))))

  rim_cases : (e : Edge) → IsAmong Rim e → (top ≡ e) ⊎ ((right ≡ e) ⊎ ((bottom ≡ e) ⊎ (left ≡ e)))
  rim_cases e i =
      elim (any_cases (λ x. x ≡ e) top (right ∷ bottom ∷ left ∷ []) i) [
        | inl h ↦ inl h
        | inr i ↦ elim (any_cases (λ x. x ≡ e) right (bottom ∷ left ∷ []) i) [
          | inl h ↦ inr (inl h)
          | inr i ↦ elim (any_cases (λ x. x ≡ e) bottom (left ∷ []) i) [
            | inl h ↦ inr (inr (inl h))
            | inr i ↦ elim (any_cases (λ x. x ≡ e) left [] i) [ inl h ↦ inr (inr (inr h)) | inr i ↦ absurd (any_none (λ x. x ≡ e) i) ]
          ]
        ]
      ]

  -- off the rows, only the two upright sides have points
  upright_side : (rows : List ℤ) (e : Edge) (p : PlanePoint) → IsAmong rows y0 → IsAmong rows y1 → IsAmong Rim e → IsOn e p → IsOffRows rows p
      → ((right ≡ e) × (p.x ≡ pos p.scale *ℤ x1)) ⊎ ((left ≡ e) × (p.x ≡ pos p.scale *ℤ x0))
  upright_side rows e p r0 r1 i o off =
      elim (rim_cases e i) [
        | inl h ↦ absurd (off y0 r0 (on_level top p refl (subst (λ (g : Edge). IsOn g p) (sym h) o)))
        | inr h ↦ elim h [
          | inl h ↦ inl (h, on_upright right p refl (subst (λ (g : Edge). IsOn g p) (sym h) o))
          | inr h ↦ elim h [
            | inl h ↦ absurd (off y1 r1 (on_level bottom p refl (subst (λ (g : Edge). IsOn g p) (sym h) o)))
            | inr h ↦ inr (h, on_upright left p refl (subst (λ (g : Edge). IsOn g p) (sym h) o))
          ]
        ]
      ]

  rim_apart : (rows : List ℤ) → x0 <ℤ x1 → IsAmong rows y0 → IsAmong rows y1 → (e f : Edge) (p : PlanePoint) → IsAmong Rim e → IsAmong Rim f → IsOn e p → IsOn f p → IsOffRows rows p → e ≡ f
  rim_apart rows hx r0 r1 e f p i j oe of off =
      let m = mul_lt p.scale x0 x1 p.positive hx in
      elim (upright_side rows e p r0 r1 i oe off) [
        | inl a ↦ elim (upright_side rows f p r0 r1 j of off) [ inl b ↦ sym a.0 ∙ b.0 | inr b ↦ absurd (omega (arith, ints, m, a.1, b.1)) ]
        | inr a ↦ elim (upright_side rows f p r0 r1 j of off) [ inl b ↦ absurd (omega (arith, ints, m, a.1, b.1)) | inr b ↦ sym a.0 ∙ b.0 ]
      ]

pub framed_law : FramedLaw
framed_law rows x0 x1 y0 y1 cs hx hy r0 r1 around closed =
    together_law rows (edges_of cs) (edges_of (box_corners x0 x1 y0 y1)) closed
    (chain_law rows (box_corners x0 x1 y0 y1) (rim_octilinear x0 x1 y0 y1) (rim_apart x0 x1 y0 y1 rows hx r0 r1))
    (λ e f p i j oe of.
    (let w = one_of (λ (e : Edge). StrictlyWithin (box_of x0 x1 y0 y1) e.start.x e.start.y × StrictlyWithin (box_of x0 x1 y0 y1) e.finish.x e.finish.y) (edges_of cs) e (ends_all (λ v. StrictlyWithin (box_of x0 x1 y0 y1) v.x v.y) cs around) i in
    let s = strictly x0 x1 y0 y1 cs p e w.0 w.1 oe in
    rim_not_strictly x0 x1 y0 y1 cs p (omega (arith, ints, hx)) (omega (arith, ints, hy)) (one_on (edges_of (box_corners x0 x1 y0 y1)) f p j of) s))
