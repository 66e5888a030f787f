-- Parts are classes, and a list has one list of labels.
use Rattle.std.proofs.Common.{◌≡◌, sym, ◌∙◌, subst, ℕ, ◌<◌, arith, List, length, get_or}
use Rattle.std.specs.Prelude.{◌↔◌}
use Rattle.std.proofs.lemmas.List.{ext_get_or}
use Rattle.plane.specs.Plane.{Bounds}
use Rattle.plane.proofs.Near.{IsMeeting-sym}
use Rattle.classes.proofs.Reaching.{reaches_then, reaches_back, least_one, least_shared}
use Rattle.islands.specs.Parts.{IsMeetingAt, IsOnePart, IsUpTo, AreParts}

pub meeting_at_back : (octs : List Bounds) (j k : ℕ) → IsMeetingAt octs j k → IsMeetingAt octs k j
meeting_at_back octs j k m = record {
  first = m.second;
  second = m.first;
  at_first = m.at_second;
  at_second = m.at_first;
  meet = IsMeeting-sym m.first m.second m.meet;
}

pub up_to_one : (j k : ℕ) → IsUpTo j k → IsUpTo k j → j ≡ k
up_to_one j k l m = omega arith

-- two octagons have one label exactly where they are in one part
pub parts_same : (octs : List Bounds) (labels : List ℕ) → AreParts octs labels → (j k : ℕ) → j < length octs → k < length octs
    → (get_or labels j 0 ≡ get_or labels k 0) ↔ IsOnePart octs j k
parts_same octs labels a j k l m = (
  λ e. reaches_then (IsMeetingAt octs) j (get_or labels j 0) k (a.least j l).reached
      (reaches_back (IsMeetingAt octs) (meeting_at_back octs) k (get_or labels j 0) (subst (λ x. IsOnePart octs k x) (sym e) (a.least k m).reached)),
  λ r. least_one (IsMeetingAt octs) IsUpTo up_to_one k (get_or labels j 0) (get_or labels k 0)
      (least_shared (IsMeetingAt octs) IsUpTo (meeting_at_back octs) j k (get_or labels j 0) r (a.least j l)) (a.least k m),
)

pub parts_one : (octs : List Bounds) (labels others : List ℕ) → AreParts octs labels → AreParts octs others → labels ≡ others
parts_one octs labels others h g =
    ext_get_or 0 labels others (h.each ∙ sym g.each)
    (λ i l. let m : i < length octs = omega (arith, l, h.each) in
    least_one (IsMeetingAt octs) IsUpTo up_to_one i (get_or labels i 0) (get_or others i 0) (h.least i m) (g.least i m))
