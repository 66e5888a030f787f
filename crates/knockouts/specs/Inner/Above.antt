-- What is asked of two tasks, with their zones, before their frames are compared.
use Rattle.std.specs.Prelude.{◌≡◌, ◌⊎◌, ◌<◌, true}
use Rattle.board_language.specs.declared.board.Zone.{Zone}
use Rattle.fill_rules.specs.Tasks.{Task}
use Rattle.fill_rules.specs.Ranking.{IsFiled}
use Rattle.fill_rules.specs.Needs.{is_foreign}

-- s, of zone y, ranks above t, of zone z, on its layer, and the zones are foreign
pub record IsAboveForeign (y : Zone) (s : Task) (z : Zone) (t : Task) : Type 0 where
  pub layer : s.layer ≡ t.layer
  pub foreign : is_foreign y.net z.net ≡ true
  pub above : (z.priority < y.priority) ⊎ ((z.priority ≡ y.priority) × IsFiled s t)
