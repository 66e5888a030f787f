-- Nearness by the need, and components.
use Rattle.std.proofs.Common.{refl, ℕ, ◌≤◌, inl, inr}
use Rattle.plane.specs.Plane.{PlanePoint, Bounds, IsNear, AreNear, IsMeeting}
use Rattle.plane.proofs.Near.{IsNear-more, AreNear-more, IsMeeting-sym}
use Rattle.classes.specs.Classes.{Reaches}
use Rattle.classes.proofs.Reaching.{reaches_then, reaches_link, reaches_back, reaches_keeps, least_shared}
use Rattle.grid_num.specs.declared.Point.{Point}
use Rattle.board_language.specs.Board.{Board}
use Rattle.fill_rules.specs.Tasks.{zone_at}
use Rattle.open_laws.specs.Open.{IsBefore}
use Rattle.fill_rules.specs.Fill.{Fills, brush_at, IsAllowed, IsLinked, IsAnchored, IsKept}
use Rattle.fill_rules.proofs.Spared.{spared_alike}

-- ---- near
pub near_grows : (a c : ℕ) → a ≤ c → (p q : PlanePoint) → IsNear a p q → IsNear c p q
near_grows a c l p q n = IsNear-more a c p q l n

-- what is clear at a need is clear at a lesser one
pub clear_shrinks : (a c : ℕ) → a ≤ c → (o u : Bounds) → (AreNear c o u → ⊥) → AreNear a o u → ⊥
clear_shrinks a c l o u f n = f (AreNear-more a c o u l n)

-- ---- components
pub meeting_back : (o u : Bounds) → IsMeeting o u → IsMeeting u o
meeting_back o u m = IsMeeting-sym o u m

pub linked_back : (b : Board) (above : Fills) (i : ℕ) (c d : Point) → IsLinked b above i c d → IsLinked b above i d c
linked_back b above i c d l = record { first = l.second; second = l.first; meet = meeting_back (brush_at b i c) (brush_at b i d) l.meet }

-- all of an allowed centre's component is allowed
pub component_allowed : (b : Board) (above : Fills) (i : ℕ) (c d : Point) → IsAllowed b above i c → Reaches (IsLinked b above i) c d → IsAllowed b above i d
component_allowed b above i c d a r = reaches_keeps (IsLinked b above i) (IsAllowed b above i) (λ x y l z. l.second) c d r a

-- an allowed centre whose brush meets that of a component's centre is of the component
pub component_whole : (b : Board) (above : Fills) (i : ℕ) (c d e : Point) → IsAllowed b above i c → Reaches (IsLinked b above i) c d
    → IsAllowed b above i e → IsMeeting (brush_at b i d) (brush_at b i e) → Reaches (IsLinked b above i) c e
component_whole b above i c d e a r f m =
    reaches_then (IsLinked b above i) c d e r
    (reaches_link (IsLinked b above i) d e (record { first = component_allowed b above i c d a r; second = f; meet = m }))

anchored_together : (b : Board) (above : Fills) (i : ℕ) (c d : Point) → Reaches (IsLinked b above i) d c → IsAnchored b above i c → IsAnchored b above i d
anchored_together b above i c d r (e, s, a) = (e, reaches_then (IsLinked b above i) d c e r s, a)

-- a component is kept or left out as a whole
pub kept_together : (b : Board) (above : Fills) (i : ℕ) (c d : Point) → IsKept b above i c → Reaches (IsLinked b above i) c d → IsKept b above i d
kept_together b above i c d k r =
    let back : Reaches (IsLinked b above i) d c = reaches_back (IsLinked b above i) (linked_back b above i) c d r in
    record {
      allowed = component_allowed b above i c d k.allowed r;
      first = k.first;
      is_first = least_shared (IsLinked b above i) IsBefore (linked_back b above i) c d k.first r k.is_first;
      inside = k.inside;
      stays = elim k.stays [
        | inl a ↦ inl (anchored_together b above i c d back a)
        | inr s ↦ inr (spared_alike b b above above i i (λ e. refl) c d
            (λ e q. reaches_then (IsLinked b above i) d c e back q)
            (λ e q. reaches_then (IsLinked b above i) c d e r q)
            (zone_at b i).islands s)
      ];
    }
