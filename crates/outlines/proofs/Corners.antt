-- Corners of rings lie on the rings' edges, so on what the rings cover.
use lib.IntN.{zero-*ℤ}
use Rattle.std.proofs.Common.{◌≡◌, sym, ◌∙◌, subst, inl, inr, arith, List, [], ◌∷◌}
use Rattle.std.specs.Prelude.{ℤ, pos, ◌-ℤ◌, ◌*ℤ◌, Any}
use Rattle.std.proofs.Math.IntN.{*ℤ_comm}
use Rattle.std.proofs.lemmas.Int.{ints, by_lt_z}
use Rattle.plane.specs.Plane.{PlanePoint, grid_point}
use Rattle.grid_num.specs.declared.Point.{Point}
use Rattle.plane.specs.Covering.{Edge, Between, IsOn, edges_to, edges_of, edges_of_all}
use Rattle.plane.proofs.Lists.{any_head, any_tail, any_left, any_right}
use Rattle.rings.proofs.Lists.{Has}

-- a corner as a place of the plane
abbrev pub place : Point → PlanePoint
place c = grid_point c.x c.y

nothing : (m n u v : ℤ) → u ≡ pos 0 → v ≡ pos 0 → m *ℤ u ≡ n *ℤ v
nothing m n u v e f = rw (e, f) (*ℤ_comm m (pos 0) ∙ (zero-*ℤ m ∙ sym (*ℤ_comm n (pos 0) ∙ zero-*ℤ n)))

between : (a b : ℤ) → Between (pos 1 *ℤ a) (pos 1 *ℤ b) a
between a b = by_lt_z {P = Between (pos 1 *ℤ a) (pos 1 *ℤ b) a} b a
    (λ l. inr (omega (arith, ints, l), omega (arith, ints)))
    (λ g. inl (omega (arith, ints), omega (arith, ints, g)))

at_start : (e : Edge) → IsOn e (place e.start)
at_start e = record {
  line = nothing (e.finish.y -ℤ e.start.y) (e.finish.x -ℤ e.start.x) (e.start.x -ℤ pos 1 *ℤ e.start.x) (e.start.y -ℤ pos 1 *ℤ e.start.y) (omega (arith, ints)) (omega (arith, ints));
  across = between e.start.x e.finish.x;
  along = between e.start.y e.finish.y;
}

abbrev OnSome : Point → List Edge → Type 0
OnSome c es = Any (λ e. IsOn e (place c)) es

chain_on : (z a : Point) (cs : List Point) (c : Point) → Has (a ∷ cs) c → OnSome c (edges_to z a cs)
unfolding Has
chain_on z a [] c (inl e) =
    subst (λ (x : Point). OnSome x (edges_to z a [])) e (any_head (λ g. IsOn g (place a)) (record { start = a; finish = z }) [] (at_start (record { start = a; finish = z })))
chain_on z a [] c (inr h) = absurd h
chain_on z a (b ∷ cs) c (inl e) =
    subst (λ (x : Point). OnSome x (edges_to z a (b ∷ cs))) e
    (any_head (λ g. IsOn g (place a)) (record { start = a; finish = b }) (edges_to z b cs) (at_start (record { start = a; finish = b })))
chain_on z a (b ∷ cs) c (inr h) = any_tail (λ g. IsOn g (place c)) (record { start = a; finish = b }) (edges_to z b cs) (chain_on z b cs c h)

ring_on : (cs : List Point) (c : Point) → Has cs c → OnSome c (edges_of cs)
unfolding Has
ring_on [] c h = absurd h
ring_on (a ∷ cs) c h = chain_on a a cs c h

pub rings_on : (rings : List (List Point)) (cs : List Point) (c : Point) → Has rings cs → Has cs c → OnSome c (edges_of_all rings)
unfolding Has
rings_on [] cs c h i = absurd h
rings_on (ring ∷ rings) cs c (inl e) i =
    any_left (λ g. IsOn g (place c)) (edges_of ring) (edges_of_all rings) (subst (λ (x : List Point). OnSome c (edges_of x)) (sym e) (ring_on cs c i))
rings_on (ring ∷ rings) cs c (inr h) i = any_right (λ g. IsOn g (place c)) (edges_of ring) (edges_of_all rings) (rings_on rings cs c h i)
