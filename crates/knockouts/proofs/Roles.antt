-- What a zone does about a pad says which lists the pad is in.
use Rattle.std.proofs.Common.{◌≡◌, refl}
use Rattle.fill_rules.specs.Needs.{Role, Foreign, Relieved, Joined, Unjoined, is_barred}
use Rattle.fill_rules.specs.Reliefs.{is_relieved}
use Rattle.fill_rules.specs.Anchors.{is_joined}
use Rattle.knockouts.specs.Treatments.{treatment_of, is_kept_off, is_by_spokes, is_all_round}

pub kept_off : (r : Role) → is_kept_off (treatment_of r) ≡ is_barred r
kept_off Foreign = refl
kept_off Relieved = refl
kept_off Joined = refl
kept_off Unjoined = refl

pub by_spokes : (r : Role) → is_by_spokes (treatment_of r) ≡ is_relieved r
by_spokes Foreign = refl
by_spokes Relieved = refl
by_spokes Joined = refl
by_spokes Unjoined = refl

pub all_round : (r : Role) → is_all_round (treatment_of r) ≡ is_joined r
all_round Foreign = refl
all_round Relieved = refl
all_round Joined = refl
all_round Unjoined = refl
