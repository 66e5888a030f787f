use Rattle.std.proofs.Common.{length, ◌-◌, ◌≡◌, ◌≢◌, ◌≤◌, take}
use Rattle.sexpr_text.specs.Inner.Spot.{text_spot}
use Rattle.sexpr_text.specs.Inner.Spot.TextSpot.{Lost}
use Rattle.sexpr_text.specs.Inner.Cut.{cuts}
use Rattle.sexpr_text.specs.Inner.Cut.Cut.{Full, Broken}
use Rattle.sexpr_text.specs.Inner.Seen.{seen, is_room, seen_cut}
use Rattle.sexpr_text.proofs.walk.walk.Given as goal

abbrev pub invariant-each : goal.invariant-each
invariant-each l = record {
  within : l.at ≤ length l.bytes;
  stands : seen l.stand ≡ text_spot l.bytes l.at;
  alive : seen l.stand ≢ Lost;
  room : is_room l.stand;
  cuts_so : seen_cut l.cut ≡ cuts Full (take l.at l.bytes);
  valid : seen_cut l.cut ≢ Broken;
}

abbrev pub decreases-each : goal.decreases-each
decreases-each l = length l.bytes - l.at
