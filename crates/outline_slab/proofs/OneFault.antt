-- Corners have at most one fault, and an outline has none.
use Rattle.std.proofs.Common.{◌≡◌, refl, ap, ◌∙◌, ℕ, inl, inr, arith, List}
use Rattle.std.specs.List.{All}
use Rattle.std.proofs.lemmas.Bool.{cases_order}
use Rattle.grid_num.specs.declared.Point.{Point}
use Rattle.plane.specs.Covering.{Edge, edges_of}
use Rattle.outline_slab.specs.Rules.{IsOnGrid, IsSide, no_corner, no_edge}
use Rattle.outline_slab.specs.Faults.{IsFirstOff, IsLeastCrossing, OneFaultLaw, NoFaultLaw}
use Rattle.outline_slab.specs.declared.error.OutlineFault.{OutlineFault}
use Rattle.outline_slab.specs.declared.error.OutlineFault.TheVariants.{Short, OffGrid, OffAngle, Crossing}

-- the first item that breaks a rule is one only, and there is none where all keep it
one_first : (X : Type 0) (R : X → Type 0) (xs : List X) (d : X) (i j : ℕ) → IsFirstOff X R xs i → IsFirstOff X R xs j → i ≡ j
one_first X R xs d i j a b = elim (cases_order i j) [
  | inl e ↦ e
  | inr (inl l) ↦ absurd (a.off d (b.before i d l))
  | inr (inr l) ↦ absurd (b.off d (a.before j d l))
]

none_first : (X : Type 0) (R : X → Type 0) (xs : List X) (d : X) (i : ℕ) → All R xs → IsFirstOff X R xs i → ⊥
none_first X R xs d i all a = a.off d (all i d a.within)

one_least : (cs : List Point) (i j k l : ℕ) → IsLeastCrossing cs i j → IsLeastCrossing cs k l → (i ≡ k) × (j ≡ l)
one_least cs i j k l a b = elim (cases_order i k) [
  | inl e ↦ elim (cases_order j l) [
    | inl f ↦ (e, f)
    | inr (inl m) ↦ absurd (b.least i j a.order a.within (inr (e, m)) a.crossing)
    | inr (inr m) ↦ absurd (a.least k l b.order b.within (inr (omega (arith, e), m)) b.crossing)
  ]
  | inr (inl m) ↦ absurd (b.least i j a.order a.within (inl m) a.crossing)
  | inr (inr m) ↦ absurd (a.least k l b.order b.within (inl m) b.crossing)
]

pub one_fault_law : OneFaultLaw
one_fault_law cs Short Short a b = refl
one_fault_law cs Short (OffGrid j) a b = absurd (let n = b.0 in omega arith)
one_fault_law cs Short (OffAngle j) a b = absurd (let n = b.0 in omega arith)
one_fault_law cs Short (Crossing k l) a b = absurd (let n = b.0 in omega arith)
one_fault_law cs (OffGrid i) Short a b = absurd (let n = a.0 in omega arith)
one_fault_law cs (OffGrid i) (OffGrid j) a b = let f : ℕ → OutlineFault = λ k. OffGrid k in ap f (one_first Point IsOnGrid cs no_corner i j a.1 b.1)
one_fault_law cs (OffGrid i) (OffAngle j) a b = absurd (none_first Point IsOnGrid cs no_corner i b.1 a.1)
one_fault_law cs (OffGrid i) (Crossing k l) a b = absurd (none_first Point IsOnGrid cs no_corner i b.1 a.1)
one_fault_law cs (OffAngle i) Short a b = absurd (let n = a.0 in omega arith)
one_fault_law cs (OffAngle i) (OffGrid j) a b = absurd (none_first Point IsOnGrid cs no_corner j a.1 b.1)
one_fault_law cs (OffAngle i) (OffAngle j) a b = let f : ℕ → OutlineFault = λ k. OffAngle k in ap f (one_first Edge IsSide (edges_of cs) no_edge i j a.2 b.2)
one_fault_law cs (OffAngle i) (Crossing k l) a b = absurd (none_first Edge IsSide (edges_of cs) no_edge i b.2 a.2)
one_fault_law cs (Crossing i j) Short a b = absurd (let n = a.0 in omega arith)
one_fault_law cs (Crossing i j) (OffGrid k) a b = absurd (none_first Point IsOnGrid cs no_corner k a.1 b.1)
one_fault_law cs (Crossing i j) (OffAngle k) a b = absurd (none_first Edge IsSide (edges_of cs) no_edge k a.2 b.2)
one_fault_law cs (Crossing i j) (Crossing k l) a b =
    let e = one_least cs i j k l a.3 b.3 in
    let f : ℕ → OutlineFault = λ m. Crossing m j in
    let g : ℕ → OutlineFault = λ m. Crossing k m in
    ap f e.0 ∙ ap g e.1

pub no_fault_law : NoFaultLaw
no_fault_law cs Short o b = let n = o.simple.three in omega arith
no_fault_law cs (OffGrid i) o b = none_first Point IsOnGrid cs no_corner i o.grid b.1
no_fault_law cs (OffAngle i) o b = none_first Edge IsSide (edges_of cs) no_edge i o.simple.sides b.2
no_fault_law cs (Crossing i j) o b = o.simple.apart i j b.3.order b.3.within b.3.crossing
