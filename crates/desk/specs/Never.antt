-- A desk whose calls never fail: what it holds, and what each of its calls leaves.
use Rattle.std.specs.Prelude.{ℕ, ◌-◌, List, refl}
use Rattle.std.specs.Ordering.{nat_cmp}
use Rattle.std.specs.Cmp.Lexicographic.{slice_cmp}
use Rattle.std.specs.FinMap.{FinMap, code}
use Rattle.std.specs.Coded.{Coded, code_by, coded×, coded_ℕ, coded_list}
use Rattle.desk.specs.Seen.{Seen}

-- a desk whose calls never fail, with the room that it was given
pub record NeverState : Type 0 where
  -- what it tells
  pub seen : Seen
  -- the most bytes that a call takes or gives
  pub step : ℕ
  -- how many bytes may still be taken
  pub room : ℕ

-- it is stored as the tuple of its parts
abbrev pub never_code : Coded NeverState
never_code =
    code_by
    ((FinMap (slice_cmp nat_cmp) (List ℕ) × (List ℕ × List ℕ)) × (ℕ × ℕ))
    (coded× (coded× (code (coded_list coded_ℕ) (coded_list coded_ℕ)) (coded× (coded_list coded_ℕ) (coded_list coded_ℕ))) (coded× coded_ℕ coded_ℕ))
    (λ s. ((s.seen.files, (s.seen.said, s.seen.complained)), (s.step, s.room)))
    (λ p. record { seen = record { files = p.0.0; said = p.0.1.0; complained = p.0.1.1 }; step = p.1.0; room = p.1.1 })
    (λ _. refl)

-- What a call leaves: what is told has changed, and it took this many bytes of the room.
abbrev pub spent : (Seen → Seen) → ℕ → NeverState → NeverState
spent change taken s = record { seen = change s.seen; step = s.step; room = s.room - taken }
