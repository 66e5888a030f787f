-- The edges of a chain, one by one.
use Rattle.std.proofs.Common.{◌≡◌, refl, sym, ◌∙◌, ap, ℕ, zero, suc, ◌+◌, ◌<◌, ◌≤◌, ◌⊎◌, inl, inr, arith, List, [], ◌∷◌, length, get_or, add-one}
use Rattle.std.specs.Prelude.{ℤ}
use Rattle.grid_num.specs.declared.Point.{Point}
use Rattle.plane.specs.Covering.{Edge, edges_to, edges_of}
use Rattle.outline_slab.specs.Rules.{edge, no_edge}

to_length : (z a : Point) (cs : List Point) → length (edges_to z a cs) ≡ suc (length cs)
to_length z a [] = refl
to_length z a (b ∷ cs) = omega (arith, to_length z b cs)

to_start : (z a : Point) (cs : List Point) (i : ℕ) (d : Edge) (q : Point) → i < suc (length cs) → (get_or (edges_to z a cs) i d).start ≡ get_or (a ∷ cs) i q
to_start z a [] zero d q h = refl
to_start z a [] (suc i) d q h = absurd (omega arith)
to_start z a (b ∷ cs) zero d q h = refl
to_start z a (b ∷ cs) (suc i) d q h = to_start z b cs i d q (omega arith)

to_next : (z a : Point) (cs : List Point) (i : ℕ) (d : Edge) (q : Point) → i < length cs → (get_or (edges_to z a cs) i d).finish ≡ get_or cs i q
to_next z a [] i d q h = absurd (omega arith)
to_next z a (b ∷ cs) zero d q h = refl
to_next z a (b ∷ cs) (suc i) d q h = to_next z b cs i d q (omega arith)

to_last : (z a : Point) (cs : List Point) (i : ℕ) (d : Edge) → i ≡ length cs → (get_or (edges_to z a cs) i d).finish ≡ z
to_last z a [] zero d h = refl
to_last z a [] (suc i) d h = absurd (omega arith)
to_last z a (b ∷ cs) zero d h = absurd (omega arith)
to_last z a (b ∷ cs) (suc i) d h = to_last z b cs i d (omega arith)

-- a chain has as many edges as corners
pub edges_length : (cs : List Point) → length (edges_of cs) ≡ length cs
edges_length [] = refl
edges_length (a ∷ cs) = to_length a a cs

pub edge_start : (cs : List Point) (i : ℕ) (q : Point) → i < length cs → (edge cs i).start ≡ get_or cs i q
edge_start [] i q h = absurd (omega arith)
edge_start (a ∷ cs) i q h = to_start a a cs i no_edge q (omega arith)

pub edge_next : (cs : List Point) (i : ℕ) (q : Point) → i + 1 < length cs → (edge cs i).finish ≡ get_or cs (i + 1) q
edge_next [] i q h = absurd (omega arith)
edge_next (a ∷ cs) i q h = rw (add-one i) (to_next a a cs i no_edge q (omega arith))

pub edge_last : (cs : List Point) (i : ℕ) (q : Point) → i + 1 ≡ length cs → (edge cs i).finish ≡ get_or cs 0 q
edge_last [] i q h = absurd (omega arith)
edge_last (a ∷ cs) i q h = to_last a a cs i no_edge (omega arith)

-- points with the same coordinates are the same, and edges with the same ends
pub same_point : (a b : Point) → a.x ≡ b.x → a.y ≡ b.y → a ≡ b
same_point a b x y =
    let f : ℤ → Point = λ z. record { x = z; y = a.y } in
    let g : ℤ → Point = λ z. record { x = b.x; y = z } in
    ap f x ∙ ap g y

pub same_edge : (e : Edge) (s f : Point) → e.start ≡ s → e.finish ≡ f → record { start = s; finish = f } ≡ e
same_edge e s f x y =
    let g : Point → Edge = λ z. record { start = z; finish = e.finish } in
    let h : Point → Edge = λ z. record { start = s; finish = z } in
    sym (ap g x ∙ ap h y)

-- edge i goes from corner i to the next one
pub edge_made : (cs : List Point) (i n : ℕ) (q : Point) → i < length cs → ((n ≡ i + 1) × (i + 1 < length cs)) ⊎ ((n ≡ 0) × (length cs ≤ i + 1))
    → record { start = get_or cs i q; finish = get_or cs n q } ≡ edge cs i
edge_made cs i n q h (inl w) = same_edge (edge cs i) (get_or cs i q) (get_or cs n q) (edge_start cs i q h) (rw w.0 (edge_next cs i q w.1))
edge_made cs i n q h (inr w) = same_edge (edge cs i) (get_or cs i q) (get_or cs n q) (edge_start cs i q h) (rw w.0 (edge_last cs i q (omega arith)))
