-- The decision for every pair of cores.
use Rattle.std.proofs.Common.{ℕ, ◌*◌}
use Rattle.touching.specs.Core.{Core, area, line, IsWhole, Touches}
use Rattle.touching.specs.Inner.Decision.{AreClose}
use Rattle.touching.specs.Laws.{DecisionLaw, TouchingOrderLaw}
use Rattle.touching.proofs.Pairs.{Pair, touches_pair, pair_touches, pair_turned}
use Rattle.touching.proofs.LineToLine.{lines_close, close_lines}
use Rattle.touching.proofs.AreaToArea.{areas_close, close_areas}
use Rattle.touching.proofs.AreaToLine.{area_close, close_area}

pub decided : (a : ℕ) (c d : Core) → Pair a c d → AreClose a c d
unfolding AreClose
decided a (area b) (area c) h = areas_close a b c h
decided a (area b) (line s t) h = area_close a b s t h
decided a (line s t) (area b) h = area_close a b s t (pair_turned a (line s t) (area b) h)
decided a (line s t) (line u v) h = lines_close a s t u v h

pub found : (a : ℕ) (c d : Core) → IsWhole c → IsWhole d → AreClose a c d → Pair a c d
unfolding AreClose IsWhole
found a (area b) (area c) t u h = close_areas a b c t u h
found a (area b) (line s t) tight u h = close_area a b s t tight h
found a (line s t) (area b) u tight h = pair_turned a (area b) (line s t) (close_area a b s t tight h)
found a (line s t) (line u v) g k h = close_lines a s t u v h

pub decision_law : DecisionLaw
decision_law r c d t u = (λ h. pair_touches r c d (found (r * r) c d t u h), λ h. decided (r * r) c d (touches_pair r c d h))

pub order_law : TouchingOrderLaw
order_law r c d = (turn r c d, turn r d c)
  where
    turn : (r : ℕ) (c d : Core) → Touches r c d → Touches r d c
    turn r c d h = pair_touches r d c (pair_turned (r * r) c d (touches_pair r c d h))
