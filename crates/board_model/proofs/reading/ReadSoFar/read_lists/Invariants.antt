use Rattle.std.proofs.Common.{◌≡◌, take}
use Rattle.board_items.specs.Known.{context}
use Rattle.board_text.specs.Things.{with_own}
use Rattle.board_model.specs.Run.{AreRead}
use Rattle.board_model.proofs.Parts.{all_of}
use Rattle.board_model.proofs.reading.ReadSoFar.read_lists.Given as goal

-- the lists before this one were read
abbrev pub invariant-each : goal.invariant-each
invariant-each l = record {
  read : AreRead (context l.board.bytes l.known) l.fn.self (all_of (with_own l.board.bytes) (take l.item-index l.item-items)) l.self;
  text : l.lines ≡ l.board.bytes;
}
