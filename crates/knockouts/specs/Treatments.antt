-- What a zone does about a pad, by what the pad is to the zone.
use Rattle.std.specs.Prelude.{Bool, true, false}
use Rattle.fill_rules.specs.Needs.{Role, Foreign, Relieved, Joined, Unjoined}
use Rattle.knockouts.specs.declared.pads.Treatment.{Treatment}
use Rattle.knockouts.specs.declared.pads.Treatment.TheVariants.{KeptOff, BySpokes, AllRound}

-- what the zone does about a pad of this role
abbrev pub treatment_of : Role → Treatment
treatment_of Foreign = KeptOff
treatment_of Relieved = BySpokes
treatment_of Joined = AllRound
treatment_of Unjoined = KeptOff

-- whether the zone keeps off the pad
abbrev pub is_kept_off : Treatment → Bool
is_kept_off KeptOff = true
is_kept_off BySpokes = false
is_kept_off AllRound = false

-- whether it joins the pad by spokes
abbrev pub is_by_spokes : Treatment → Bool
is_by_spokes KeptOff = false
is_by_spokes BySpokes = true
is_by_spokes AllRound = false

-- whether it joins the pad by copper all round
abbrev pub is_all_round : Treatment → Bool
is_all_round KeptOff = false
is_all_round BySpokes = false
is_all_round AllRound = true
