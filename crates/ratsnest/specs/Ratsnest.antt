-- The ratsnest of a list of anchors, its joining order, and what makes it a least tree.
use Rattle.std.specs.Prelude.{◌≡◌, ◌⊎◌, ◌↔◌, ℕ, zero, suc, ◌<◌, ◌≤◌, ℤ, pos, neg_ℤ, ◌+ℤ◌, ◌-ℤ◌, ◌*ℤ◌, ◌<ℤ◌, ◌≤ℤ◌, cond, int_lt, List, [], ◌∷◌, length, get_or}
use Rattle.ratsnest.specs.declared.Anchor.{Anchor}
use Rattle.ratsnest.specs.declared.Pair.{Pair}
use Rattle.classes.specs.Classes.{Reaches, IsOneOf}

-- within a metre of the origin along both axes
pub record IsNearby (a : Anchor) : Type 0 where
  pub x_low : neg_ℤ (pos 1000000000) ≤ℤ a.at.x
  pub x_high : a.at.x ≤ℤ pos 1000000000
  pub y_low : neg_ℤ (pos 1000000000) ≤ℤ a.at.y
  pub y_high : a.at.y ≤ℤ pos 1000000000

-- the anchor of that number
abbrev pub anchor : List Anchor → ℕ → Anchor
anchor xs i = get_or xs i (record { at = record { x = pos 0; y = pos 0 }; cluster = 0 })

-- one of the anchors has this cluster
pub record IsCluster (xs : List Anchor) (c : ℕ) : Type 0 where
  pub number : ℕ
  pub there : number < length xs
  pub is : (anchor xs number).cluster ≡ c

-- the numbers of two anchors, the lesser first
pub record IsPair (xs : List Anchor) (e : Pair) : Type 0 where
  pub rising : e.first < e.second
  pub there : e.second < length xs

-- the clusters at the two ends of a pair
unfoldable pub start : List Anchor → Pair → ℕ
start xs e = (anchor xs e.first).cluster

-- the cluster of its second anchor
unfoldable pub finish : List Anchor → Pair → ℕ
finish xs e = (anchor xs e.second).cluster

-- c and d are these two, in one of the two orders
unfoldable pub AreEndsOf : List Anchor → Pair → ℕ → ℕ → Type 0
AreEndsOf xs e c d = ((c ≡ start xs e) × (d ≡ finish xs e)) ⊎ ((c ≡ finish xs e) × (d ≡ start xs e))

-- the squared distance of the two anchors
unfoldable pub dist_sq : List Anchor → Pair → ℤ
dist_sq xs e = (((anchor xs e.first).at.x -ℤ (anchor xs e.second).at.x) *ℤ ((anchor xs e.first).at.x -ℤ (anchor xs e.second).at.x))
    +ℤ (((anchor xs e.first).at.y -ℤ (anchor xs e.second).at.y) *ℤ ((anchor xs e.first).at.y -ℤ (anchor xs e.second).at.y))

-- e has the lesser key: by squared distance, then by the lesser number, then by the greater
unfoldable pub HasLesserKey : List Anchor → Pair → Pair → Type 0
HasLesserKey xs e f = (dist_sq xs e <ℤ dist_sq xs f)
    ⊎ ((dist_sq xs e ≡ dist_sq xs f) × ((e.first < f.first) ⊎ ((e.first ≡ f.first) × (e.second < f.second))))

-- one of the pairs in P goes from cluster c to cluster d
pub record IsLinkedBy (xs : List Anchor) (P : Pair → Type 0) (c d : ℕ) : Type 0 where
  pub by : Pair
  pub is : IsPair xs by
  pub one : P by
  pub ends : AreEndsOf xs by c d

-- the pairs in P join the two clusters
abbrev pub AreJoinedBy : List Anchor → (Pair → Type 0) → ℕ → ℕ → Type 0
AreJoinedBy xs P c d = Reaches (IsLinkedBy xs P) c d

-- a pair is in the ratsnest exactly where its clusters differ and aren't joined by pairs of lesser key
pub record InRatsnest (xs : List Anchor) (e : Pair) : Type 0 where
  pub is : IsPair xs e
  pub differ : start xs e ≡ finish xs e → ⊥
  pub apart : AreJoinedBy xs (λ f. HasLesserKey xs f e) (start xs e) (finish xs e) → ⊥

-- e leaves the joined clusters: it goes from one of them, u, to c, which is none of them
pub record IsLeaving (xs : List Anchor) (done : List ℕ) (e : Pair) (u c : ℕ) : Type 0 where
  pub is : IsPair xs e
  pub ends : AreEndsOf xs e u c
  pub from : IsOneOf u done
  pub new : IsOneOf c done → ⊥

-- and no pair of lesser key leaves them
pub record IsNextPair (xs : List Anchor) (done : List ℕ) (e : Pair) (u c : ℕ) : Type 0 where
  pub leaving : IsLeaving xs done e u c
  pub least : (f : Pair) (v d : ℕ) → IsLeaving xs done f v d → HasLesserKey xs f e → ⊥

-- each pair is the one of least key that leaves the clusters joined so far, and at the end all clusters are joined
unfoldable pub IsGrown : List Anchor → List ℕ → List Pair → Type 0
IsGrown xs done [] = (c : ℕ) → IsCluster xs c → IsOneOf c done
IsGrown xs done (e ∷ es) = (u : ℕ) × (c : ℕ) × IsNextPair xs done e u c × IsGrown xs (c ∷ done) es

-- the joining order begins with the cluster of anchor 0
unfoldable pub IsTree : List Anchor → List Pair → Type 0
IsTree [] es = es ≡ []
IsTree (a ∷ xs) es = IsGrown (a ∷ xs) (a.cluster ∷ []) es

-- a list of pairs that joins all clusters
pub record JoinsAll (xs : List Anchor) (es : List Pair) : Type 0 where
  pub pairs : (e : Pair) → IsOneOf e es → IsPair xs e
  pub joins : (c d : ℕ) → IsCluster xs c → IsCluster xs d → AreJoinedBy xs (λ e. IsOneOf e es) c d

-- how many pairs of the list are longer than a length, which is given by its square
unfoldable pub longer : List Anchor → ℤ → List Pair → ℕ
longer xs square [] = zero
longer xs square (e ∷ es) = cond (int_lt square (dist_sq xs e)) (suc (longer xs square es)) (longer xs square es)

-- no two of the list are related
unfoldable pub Apart : (ℕ → ℕ → Type 0) → List ℕ → Type 0
Apart R [] = Unit {0}
Apart R (r ∷ rs) = ((s : ℕ) → IsOneOf s rs → R r s → ⊥) × Apart R rs

-- the list has each cluster once, and nothing else
pub record HasClusters (xs : List Anchor) (all : List ℕ) : Type 0 where
  pub apart : Apart (λ c d. c ≡ d) all
  pub these : (c : ℕ) → IsOneOf c all → IsCluster xs c
  pub whole : (c : ℕ) → IsCluster xs c → IsOneOf c all

-- one pair fewer than there are clusters; no pair where there is no anchor
unfoldable pub HasOneFewer : List Anchor → List Pair → Type 0
HasOneFewer [] es = es ≡ []
HasOneFewer (a ∷ xs) es = (all : List ℕ) × HasClusters (a ∷ xs) all × (length all ≡ suc (length es))

-- the pairs are exactly the ratsnest, and they are a least tree: they join all clusters, with one pair fewer than there
-- are clusters, and no list that joins all clusters has fewer pairs longer than some length
pub record IsLeastTree (xs : List Anchor) (es : List Pair) : Type 0 where
  pub exact : (e : Pair) → IsOneOf e es ↔ InRatsnest xs e
  pub joining : JoinsAll xs es
  pub fewer : HasOneFewer xs es
  pub least : (others : List Pair) (square : ℤ) → JoinsAll xs others → longer xs square es ≤ longer xs square others

-- the ratsnest in joining order is a least tree, and one list alone is that
pub record TreeLaw : Type 0 where
  pub least : (xs : List Anchor) (es : List Pair) → IsTree xs es → IsLeastTree xs es
  pub one : (xs : List Anchor) (es fs : List Pair) → IsTree xs es → IsTree xs fs → es ≡ fs
