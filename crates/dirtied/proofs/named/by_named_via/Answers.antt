use Rattle.std.proofs.Common.{ap}
use Rattle.std.specs.Prelude.{option_map}
use Rattle.std.proofs.Common.{Bor}
use Rattle.board_language.specs.declared.board.Via.{Via}
use Rattle.dirtied.proofs.Flags.{ok_so}
use Rattle.dirtied.proofs.Arms.{some_via, no_via}
use Rattle.dirtied.proofs.named.by_named_via.Goals as goal

pub returns-in-Some : goal.returns-in-Some
returns-in-Some c =
    ok_so c.by_via.result _ _
    (λ v f. some_via c.args.board.now.board (option_map (λ (t : Bor Via). t.now) c.args.via) c.in-Some.via.now v.items (ap (option_map (λ (t : Bor Via). t.now)) c.in-Some.is) f)
    c.by_via.ensures

pub returns-in-None : goal.returns-in-None
returns-in-None c =
    ok_so c.no_flags.result _ _
    (λ v f. no_via c.args.board.now.board (option_map (λ (t : Bor Via). t.now) c.args.via) v.items (ap (option_map (λ (t : Bor Via). t.now)) c.in-None.is) f)
    c.no_flags.ensures
