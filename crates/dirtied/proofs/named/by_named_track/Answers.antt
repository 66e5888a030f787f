use Rattle.std.proofs.Common.{ap}
use Rattle.std.specs.Prelude.{option_map}
use Rattle.std.proofs.Common.{Bor}
use Rattle.board_language.specs.declared.board.Track.{Track}
use Rattle.dirtied.proofs.Flags.{ok_so}
use Rattle.dirtied.proofs.Arms.{some_track, no_track}
use Rattle.dirtied.proofs.named.by_named_track.Goals as goal

pub returns-in-Some : goal.returns-in-Some
returns-in-Some c =
    ok_so c.by_track.result _ _
    (λ v f. some_track c.args.board.now.board (option_map (λ (t : Bor Track). t.now) c.args.track) c.in-Some.track.now v.items (ap (option_map (λ (t : Bor Track). t.now)) c.in-Some.is) f)
    c.by_track.ensures

pub returns-in-None : goal.returns-in-None
returns-in-None c =
    ok_so c.no_flags.result _ _
    (λ v f. no_track c.args.board.now.board (option_map (λ (t : Bor Track). t.now) c.args.track) v.items (ap (option_map (λ (t : Bor Track). t.now)) c.in-None.is) f)
    c.no_flags.ensures
