-- The exit status of a run.
use Rattle.std.specs.Prelude.{ℕ}
use Rattle.run_rules.specs.declared.ended.Ended.{Ended}
use Rattle.run_rules.specs.declared.ended.Ended.TheVariants.{Done, Usage, TooLong, BadText, Refused, BadScript, EditRefused, Unreadable, Unwritten, Unsaid, Memory}

-- 0 where it is done, 1 where a file is refused, 2 where the words are, 3 for a fault of the outside, 4 for want of memory
abbrev pub status_of : Ended → ℕ
status_of (Done unjoined) = 0
status_of (Usage fault) = 2
status_of (TooLong role taken) = 1
status_of (BadText fault) = 1
status_of (Refused offence) = 1
status_of (BadScript fault) = 1
status_of (EditRefused index refusal) = 1
status_of (Unreadable role) = 3
status_of (Unwritten given) = 3
status_of (Unsaid given) = 3
status_of Memory = 4
