-- What a fill owes to the fills above it: only which octagons that fit are clear.
use Rattle.std.proofs.Common.{◌≡◌, refl, ℕ, ◌<◌, ◌⊎◌, inl, inr}
use Rattle.plane.specs.Plane.{PlanePoint, Bounds}
use Rattle.classes.specs.Classes.{IsOneOf}
use Rattle.classes.proofs.Reaching.{reaches_map}
use Rattle.grid_num.specs.declared.Point.{Point}
use Rattle.board_language.specs.Board.{Board}
use Rattle.fill_rules.specs.Tasks.{zone_at, layer_at}
use Rattle.fill_rules.specs.Reliefs.{spokes_of}
use Rattle.fill_rules.specs.Fill.{Fills, brush_at, Fits, IsClear, IsAllowed, IsLinked, IsLive, IsAnchored, IsKept, InFill}
use Rattle.fill_rules.proofs.Spared.{spared_alike}

-- the brush at some centre, or a spoke
abbrev pub IsUsed : Board → ℕ → Bounds → Type 0
IsUsed b i o = ((c : Point) × (o ≡ brush_at b i c)) ⊎ IsOneOf o (spokes_of b (zone_at b i) (layer_at b i))

-- each of these that fits and is clear over the one is clear over the other
abbrev pub Clears : Board → Fills → Fills → ℕ → Type 0
Clears b one other i = (o : Bounds) → IsUsed b i o → Fits b i o → IsClear b one i o → IsClear b other i o

allowed_map : (b : Board) (one other : Fills) (i : ℕ) → Clears b one other i → (c : Point) → IsAllowed b one i c → IsAllowed b other i c
allowed_map b one other i h c a = record { fits = a.fits; clear = h (brush_at b i c) (inl (c, refl)) a.fits a.clear; gaps = a.gaps }

linked_map : (b : Board) (one other : Fills) (i : ℕ) → Clears b one other i → (c d : Point) → IsLinked b one i c d → IsLinked b other i c d
linked_map b one other i h c d l = record { first = allowed_map b one other i h c l.first; second = allowed_map b one other i h d l.second; meet = l.meet }

live_map : (b : Board) (one other : Fills) (i : ℕ) → Clears b one other i → (o : Bounds) → IsLive b one i o → IsLive b other i o
live_map b one other i h o l = record {
  spoke = l.spoke;
  fits = l.fits;
  clear = h o (inr l.spoke) l.fits l.clear;
  meets = (l.meets.0, allowed_map b one other i h l.meets.0 l.meets.1, l.meets.2);
}

anchored_map : (b : Board) (one other : Fills) (i : ℕ) → Clears b one other i → (c : Point) → IsAnchored b one i c → IsAnchored b other i c
anchored_map b one other i h c (d, r, inl (o, l, m)) =
    (d, reaches_map (IsLinked b one i) (IsLinked b other i) (linked_map b one other i h) c d r, inl (o, live_map b one other i h o l, m))
anchored_map b one other i h c (d, r, inr t) =
    (d, reaches_map (IsLinked b one i) (IsLinked b other i) (linked_map b one other i h) c d r, inr t)

kept_map : (b : Board) (one other : Fills) (i : ℕ) → Clears b one other i → Clears b other one i → (c : Point) → IsKept b one i c → IsKept b other i c
kept_map b one other i h k c w = record {
  allowed = allowed_map b one other i h c w.allowed;
  first = w.first;
  is_first = record {
    reached = reaches_map (IsLinked b one i) (IsLinked b other i) (linked_map b one other i h) c w.first w.is_first.reached;
    least = λ d r. w.is_first.least d (reaches_map (IsLinked b other i) (IsLinked b one i) (linked_map b other one i k) c d r);
  };
  inside = w.inside;
  stays = elim w.stays [
    | inl a ↦ inl (anchored_map b one other i h c a)
    | inr s ↦ inr (spared_alike b b one other i i (λ d. refl) c c
        (reaches_map (IsLinked b one i) (IsLinked b other i) (linked_map b one other i h) c)
        (reaches_map (IsLinked b other i) (IsLinked b one i) (linked_map b other one i k) c)
        (zone_at b i).islands s)
  ];
}

pub fill_map : (b : Board) (one other : Fills) (i : ℕ) → Clears b one other i → Clears b other one i → (p : PlanePoint)
    → InFill b one i p → InFill b other i p
unfolding InFill
fill_map b one other i h k p (inl (c, w, n)) = inl (c, kept_map b one other i h k c w, n)
fill_map b one other i h k p (inr (o, l, n, (c, w, m))) = inr (o, live_map b one other i h o l, n, (c, kept_map b one other i h k c w, m))

-- fewer points above bar less
pub clears_fewer : (b : Board) (one other : Fills) (i : ℕ) → ((j : ℕ) (p : PlanePoint) → j < i → other j p → one j p) → Clears b one other i
clears_fewer b one other i f o u t c = record {
  items = c.items;
  fills = λ j l e g p q m n. c.fills j l e g p q m (f j q l n);
}
