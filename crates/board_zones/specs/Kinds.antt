-- The first offence of a zone or rule area, with what its outline is refused for.
use Rattle.std.specs.Prelude.{◌≡◌, Bool, Option, None}
use Rattle.outline_slab.specs.declared.error.OutlineFault.{OutlineFault}
use Rattle.sexpr_text.specs.Items.{Item}
use Rattle.board_text.specs.Items.{Context}
use Rattle.board_language.specs.Zones.{corners_read}
use Rattle.board_language.specs.Offences.{IsOutlineResult, zone_kind, area_kind}
use Rattle.board_language.specs.declared.offence.OffenceKind.{OffenceKind}

-- the first offence of a zone that is read, with another of its stamp before or not, and one too many or not
pub record IsZoneKind (c : Context) (zone : Item) (double many : Bool) (kind : Option OffenceKind) : Type 0 where
  pub outline : Option OutlineFault
  pub is_outline : IsOutlineResult (corners_read c.bytes zone) outline
  pub is_kind : kind ≡ zone_kind c zone outline double many

-- the first offence of a rule area that is read
pub record IsAreaKind (c : Context) (zone : Item) (double many : Bool) (kind : Option OffenceKind) : Type 0 where
  pub outline : Option OutlineFault
  pub is_outline : IsOutlineResult (corners_read c.bytes zone) outline
  pub is_kind : kind ≡ area_kind c zone outline double many

-- nothing offends in the zone that is read
pub record IsZoneWithoutOffence (c : Context) (zone : Item) : Type 0 where
  pub double : Bool
  pub many : Bool
  pub none : IsZoneKind c zone double many None

-- nothing offends in the rule area that is read
pub record IsAreaWithoutOffence (c : Context) (zone : Item) : Type 0 where
  pub double : Bool
  pub many : Bool
  pub none : IsAreaKind c zone double many None
