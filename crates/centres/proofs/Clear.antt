-- The fills of lesser ranks are all that a task keeps away from.
use Rattle.std.proofs.Common.{ℕ}
use Rattle.plane.specs.Plane.{Bounds}
use Rattle.board_language.specs.Board.{Board}
use Rattle.fill_rules.specs.Fill.{IsClear, fill_of, fills_below}
use Rattle.fill_rules.proofs.Fills.{below_is, below_from}
use Rattle.centres.specs.Needs.{IsClearBy}
use Rattle.centres.specs.Laws.{ClearByLaw}

clear_below : (b : Board) (i : ℕ) (o : Bounds) → IsClear b (fill_of b) i o → IsClear b (fills_below b i) i o
clear_below b i o c = record { items = c.items; fills = λ j l e g p q m f. c.fills j l e g p q m (below_is b i j q f).1 }

clear_all : (b : Board) (i : ℕ) (o : Bounds) → IsClear b (fills_below b i) i o → IsClear b (fill_of b) i o
clear_all b i o c = record { items = c.items; fills = λ j l e g p q m f. c.fills j l e g p q m (below_from b i j q l f) }

pub clear_by_law : ClearByLaw
unfolding IsClearBy
clear_by_law b i bars h o home = (λ c. (h o home).0 (clear_below b i o c), λ k. clear_all b i o ((h o home).1 k))
