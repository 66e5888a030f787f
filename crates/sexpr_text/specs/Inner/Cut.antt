-- Where a reader stands in a character of UTF-8, byte by byte: what the walk to a fault keeps.
use Rattle.std.specs.Prelude.{ℕ, zero, suc, cond, ◌==◌, ◌&&◌, List, [], ◌∷◌, nat_lt, nat_le}

-- where a reader stands in a character
pub data Cut : Type 0 where
  -- between characters
  Full : Cut
  -- the next byte is one from low to high, and left more follow it
  Next : (low high left : ℕ) → Cut
  -- no UTF-8 begins so
  Broken : Cut

-- behind a character's first byte
abbrev pub lead : ℕ → Cut
lead c = cond (nat_lt c 128) Full (cond (nat_lt c 194) Broken (cond (nat_lt c 224) (Next 128 191 0) (cond (c == 224) (Next 160 191 1) (cond (c == 237) (Next 128 159 1)
    (cond (nat_lt c 240) (Next 128 191 1) (cond (c == 240) (Next 144 191 2) (cond (nat_lt c 244) (Next 128 191 2) (cond (c == 244) (Next 128 143 2) Broken))))))))

-- so many more bytes follow, each from 128 to 191
abbrev pub follows : ℕ → Cut
follows zero = Full
follows (suc left) = Next 128 191 left

-- one byte further
abbrev pub cut_step : Cut → ℕ → Cut
cut_step Full c = lead c
cut_step (Next low high left) c = cond (nat_le low c && nat_le c high) (follows left) Broken
cut_step Broken c = Broken

-- behind all these bytes
unfoldable pub cuts : Cut → List ℕ → Cut
cuts s [] = s
cuts s (c ∷ cs) = cuts (cut_step s c) cs
