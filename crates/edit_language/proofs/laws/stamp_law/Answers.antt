use Rattle.edit_language.proofs.OneBearer.{one_bearer}
use Rattle.edit_language.proofs.Stamps.{track_stamp, via_stamp, zone_stamp, bearer, no_bearer}
use Rattle.edit_language.proofs.laws.stamp_law.Goals as goal

pub returns : goal.returns
returns c = record { track = track_stamp; via = via_stamp; zone = zone_stamp; some = bearer; none = no_bearer; one = one_bearer }
