use Rattle.board_facts.proofs.Spans.{places}
use Rattle.board_facts.proofs.places_law.Goals as goal

pub returns : goal.returns
returns c = places
