-- What the growing keeps: for each anchor outside the joined clusters, its least pair to one inside.
use Rattle.std.specs.Prelude.{◌≡◌, ◌⊎◌, ℕ, pos, ◌<◌, ◌≤◌, List, length, get_or, map}
use Rattle.std.specs.List.{All}
use Rattle.ratsnest.specs.declared.Anchor.{Anchor}
use Rattle.ratsnest.specs.declared.Pair.{Pair}
use Rattle.ratsnest.specs.declared.offers.Offer.{Offer}
use Rattle.ratsnest.specs.Ratsnest.{anchor, IsPair, HasLesserKey, dist_sq}
use Rattle.classes.specs.Classes.{IsOneOf}

-- e has just these two ends
pub record IsBetween (e : Pair) (i j : ℕ) : Type 0 where
  pub rising : e.first < e.second
  pub ends : ((e.first ≡ i) × (e.second ≡ j)) ⊎ ((e.first ≡ j) × (e.second ≡ i))

-- f goes from k to an anchor in D
pub record GoesInto (xs : List Anchor) (D : ℕ → Type 0) (k : ℕ) (f : Pair) : Type 0 where
  pub is : IsPair xs f
  pub ends : ((f.first ≡ k) × D f.second) ⊎ ((f.second ≡ k) × D f.first)

-- an offer where the anchors in D are inside
pub record IsOffer (xs : List Anchor) (D : ℕ → Type 0) (o : Offer) : Type 0 where
  pub out : D o.outside → ⊥
  pub touches : GoesInto xs D o.outside o.best
  pub least : (f : Pair) → GoesInto xs D o.outside f → HasLesserKey xs f o.best → ⊥

-- what the calls need of an offer: its numbers are there, and its length is the squared distance
pub record IsSoundOffer (xs : List Anchor) (o : Offer) : Type 0 where
  pub there : o.outside < length xs
  pub is : IsPair xs o.best
  pub measured : pos o.length ≡ dist_sq xs o.best

-- m is an anchor other than k
pub record MayMeet (xs : List Anchor) (k m : ℕ) : Type 0 where
  pub there : m < length xs
  pub other : m ≡ k → ⊥

-- the better one of the offer and its pair with m
pub record IsBetter (xs : List Anchor) (m : ℕ) (o new : Offer) : Type 0 where
  pub same : new.outside ≡ o.outside
  pub pair : Pair
  pub between : IsBetween pair m o.outside
  pub measured : pos new.length ≡ dist_sq xs new.best
  pub chosen : ((new.best ≡ o.best) × (HasLesserKey xs pair o.best → ⊥)) ⊎ ((new.best ≡ pair) × HasLesserKey xs pair o.best)

-- whatever was inside, the offer is one where the moved ones are inside too
pub record IsImproved (xs : List Anchor) (moved : List ℕ) (o new : Offer) : Type 0 where
  pub same : new.outside ≡ o.outside
  pub sound : IsSoundOffer xs new
  pub offer : (inside : List ℕ) → IsOffer xs (λ j. IsOneOf j inside) o → IsOffer xs (λ j. IsOneOf j inside ⊎ IsOneOf j moved) new

-- the anchors outside, by their numbers
abbrev pub offer_numbers : List Offer → List ℕ
offer_numbers left = map (λ o. o.outside) left

-- the moved ones are those of the anchors outside that are in cluster c
pub record IsEntering (xs : List Anchor) (c : ℕ) (left : List Offer) (moved : List ℕ) : Type 0 where
  pub these : All (λ m. (m < length xs) × ((anchor xs m).cluster ≡ c)) moved
  pub whole : (k : ℕ) → IsOneOf k (offer_numbers left) → (anchor xs k).cluster ≡ c → IsOneOf k moved

-- the rest has the offers of all others, where the moved ones are inside too
pub record IsRestOfOffers (xs : List Anchor) (c : ℕ) (moved : List ℕ) (left rest : List Offer) : Type 0 where
  pub offers : (inside : List ℕ) → All (λ o. IsOffer xs (λ j. IsOneOf j inside) o) left
      → All (λ o. IsOffer xs (λ j. IsOneOf j inside ⊎ IsOneOf j moved) o) rest
  pub sound : All (λ o. IsSoundOffer xs o) rest
  pub whole : (k : ℕ) → IsOneOf k (offer_numbers left) → ((anchor xs k).cluster ≡ c → ⊥) → IsOneOf k (offer_numbers rest)
  pub most : length rest ≤ length left
  pub fewer : (k : ℕ) → IsOneOf k (offer_numbers left) → (anchor xs k).cluster ≡ c → length rest < length left

-- offers of all anchors outside
pub record IsRing (xs : List Anchor) (inside : List ℕ) (left : List Offer) : Type 0 where
  pub sound : All (λ o. IsSoundOffer xs o) left
  pub offers : All (λ o. IsOffer xs (λ j. IsOneOf j inside) o) left
  pub whole : (k : ℕ) → k < length xs → (IsOneOf k inside → ⊥) → IsOneOf k (offer_numbers left)

-- where inside were the old ones, more has those of cluster c too, and no others
pub record IsJoinedBy (xs : List Anchor) (c : ℕ) (inside more : List ℕ) : Type 0 where
  pub old : (k : ℕ) → IsOneOf k inside → IsOneOf k more
  pub new : (k : ℕ) → IsOneOf k more → IsOneOf k inside ⊎ ((anchor xs k).cluster ≡ c)
  pub whole : (k : ℕ) → k < length xs → (anchor xs k).cluster ≡ c → IsOneOf k more

-- once cluster c is joined, offers of all anchors outside are offers of all anchors outside again
pub record IsAbsorbed (xs : List Anchor) (c : ℕ) (left rest : List Offer) : Type 0 where
  pub ring : (inside : List ℕ) → IsRing xs inside left → (more : List ℕ) × IsJoinedBy xs c inside more × IsRing xs more rest
  pub fewer : (k : ℕ) → IsOneOf k (offer_numbers left) → (anchor xs k).cluster ≡ c → length rest < length left

-- one of the offers, and none has a lesser key
pub record IsNearest (xs : List Anchor) (left : List Offer) (o : Offer) : Type 0 where
  pub at : ℕ
  pub there : at < length left
  pub is : (d : Offer) → get_or left at d ≡ o
  pub least : All (λ p. HasLesserKey xs p.best o.best → ⊥) left
