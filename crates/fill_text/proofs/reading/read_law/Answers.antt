use Rattle.fill_text.proofs.ZoneLists.{zone_lists}
use Rattle.fill_text.proofs.OneReading.{one_reading}
use Rattle.fill_text.proofs.FillOrder.{least_place}
use Rattle.fill_text.proofs.reading.read_law.Goals as goal

pub returns-clause-zones : goal.returns-clause-zones
returns-clause-zones c = zone_lists

pub returns-clause-one : goal.returns-clause-one
returns-clause-one c = one_reading

pub returns-clause-least : goal.returns-clause-least
returns-clause-least c = least_place
