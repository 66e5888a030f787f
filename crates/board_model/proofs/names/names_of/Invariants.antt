use Rattle.std.proofs.Common.{◌≡◌, ◌++◌, drop, map}
use Rattle.board_model.proofs.names.names_of.Given as goal

-- the names so far, and those of the texts that are left, are all
abbrev pub invariant-each : goal.invariant-each
invariant-each l = l.names.items ++ map (λ t. t.items) (drop l.text-index l.texts) ≡ map (λ t. t.items) l.texts
