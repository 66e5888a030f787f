-- Reaching over groups: each thing belongs to a group, and groups are linked just where some of their things are.
use Rattle.std.proofs.Common.{◌≡◌, sym, subst, ℕ, zero, suc, ◌<◌, arith, List, get_or}
use Rattle.std.specs.Prelude.{◌↔◌}
use Rattle.classes.specs.Classes.{Chain, Reaches}
use Rattle.classes.proofs.Reaching.{reaches_self, reaches_step, reaches_then, reaches_back, least_one, least_shared}
use Rattle.spreading.specs.Labels.{AreLinks, IsUpTo, AreLabels}

-- R links things and S groups; a thing is of one group, groups are linked just where things of theirs are, and the things of a group hang
-- together
pub record AreGroups (R S IsOf : ℕ → ℕ → Type 0) : Type 0 where
  pub one : (j m n : ℕ) → IsOf j m → IsOf j n → m ≡ n
  pub groups : (j k : ℕ) → R j k → (m : ℕ) × (n : ℕ) × IsOf j m × IsOf k n × S m n
  pub things : (m n : ℕ) → S m n → (j : ℕ) × (k : ℕ) × IsOf j m × IsOf k n × R j k
  pub together : (n j k : ℕ) → IsOf j n → IsOf k n → Reaches R j k

module _ (R S IsOf : ℕ → ℕ → Type 0) (g : AreGroups R S IsOf) where
  chain_groups : (l j k m n : ℕ) → IsOf j m → IsOf k n → Chain R l j k → Reaches S m n
  unfolding Chain
  chain_groups zero j k m n a b e = subst (λ x. Reaches S m x) (g.one j m n a (subst (λ x. IsOf x n) (sym e) b)) (reaches_self S m)
  chain_groups (suc l) j k m n a b (i, r, t) =
      let s = g.groups j i r in
      reaches_step S m s.1 n (subst (λ x. S x s.1) (g.one j s.0 m s.2 a) s.4) (chain_groups l i k s.1 n s.3 b t)

  chain_things : (l j k m n : ℕ) → IsOf j m → IsOf k n → Chain S l m n → Reaches R j k
  unfolding Chain
  chain_things zero j k m n a b e = g.together m j k a (subst (λ x. IsOf k x) (sym e) b)
  chain_things (suc l) j k m n a b (i, s, t) =
      let r = g.things m i s in
      reaches_then R j r.0 k (g.together m j r.0 a r.2) (reaches_step R r.0 r.1 k r.4 (chain_things l r.1 k i n r.3 b t))

  -- a thing reaches another one exactly where its group reaches the other's
  pub reaches_groups : (j k m n : ℕ) → IsOf j m → IsOf k n → Reaches R j k ↔ Reaches S m n
  unfolding Reaches
  reaches_groups j k m n a b = (λ r. chain_groups r.0 j k m n a b r.1, λ s. chain_things s.0 j k m n a b s.1)

up_to_one : (j k : ℕ) → IsUpTo j k → IsUpTo k j → j ≡ k
up_to_one j k l m = omega arith

-- two things have one label exactly where they are of one class
pub labels_same : (count : ℕ) (R : ℕ → ℕ → Type 0) (labels : List ℕ) → AreLinks count R → AreLabels count R labels → (j k : ℕ) → j < count → k < count
    → (get_or labels j 0 ≡ get_or labels k 0) ↔ Reaches R j k
labels_same count R labels g a j k l m = (
  λ e. reaches_then R j (get_or labels j 0) k (a.least j l).reached
      (reaches_back R g.back k (get_or labels j 0) (subst (λ x. Reaches R k x) (sym e) (a.least k m).reached)),
  λ r. least_one R IsUpTo up_to_one k (get_or labels j 0) (get_or labels k 0) (least_shared R IsUpTo g.back j k (get_or labels j 0) r (a.least j l)) (a.least k m),
)
