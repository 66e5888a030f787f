-- Stamps: tracks, vias and zones of any kind are told apart by them.
use Rattle.std.specs.Prelude.{◌≡◌, ℕ, List, AllPairs, Some}
use Rattle.board_text.specs.Things.{Placed}
use Rattle.board_language.specs.Offences.{stamp_of_placed}

-- the two have not the same stamp
abbrev pub AreStampedApart : List ℕ → Placed → Placed → Type 0
AreStampedApart bytes p q = (stamp : List ℕ) → stamp_of_placed bytes p ≡ Some stamp → stamp_of_placed bytes q ≡ Some stamp → ⊥

-- no two of the items have one stamp
abbrev pub HaveOwnStamps : List ℕ → List Placed → Type 0
HaveOwnStamps bytes items = AllPairs (AreStampedApart bytes) items
