use Rattle.std.proofs.Common.{◌≡◌, take, ◌∷◌, []}
use Rattle.board_items.specs.Known.{context}
use Rattle.board_model.specs.Run.{AreRead, in_the_footprint}
use Rattle.board_model.proofs.Parts.{all_of}
use Rattle.board_model.proofs.reading.ReadSoFar.read_all_own.Given as goal

-- the lists before this one were read
abbrev pub invariant-each : goal.invariant-each
invariant-each l = record {
  read : AreRead (context l.footprint.bytes l.known) l.fn.self (all_of (λ i. in_the_footprint l.footprint.item i ∷ []) (take l.item-index l.item-items)) l.self;
  text : l.lines ≡ l.footprint.bytes;
}
