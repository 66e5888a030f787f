-- The nets of a report, and that a report is one.
use Rattle.std.proofs.Common.{◌≡◌, ◌∙◌, refl, sym, ap, subst, ℕ, ◌<◌, ◌⊎◌, inl, inr, arith, List, [], ◌∷◌, map}
use Rattle.std.specs.Prelude.{Bool, true, false, cond, nat_lt, ◌==◌}
use Rattle.std.proofs.lemmas.Bool.Decides.{nat_tests}
use Rattle.classes.specs.Classes.{IsOneOf}
use Rattle.board_language.specs.Board.{Board}
use Rattle.ratsnest.proofs.Unique.{tree_one}
use Rattle.fill_rules.specs.Ranking.{IsSortedBy}
use Rattle.board_language.proofs.Members.{one_of_map, map_one_of}
use Rattle.fill_rules.specs.Made.{Made}
use Rattle.fill_rules.specs.Nodes.{nodes_of}
use Rattle.fill_rules.specs.Clusters.{node_net, net_anchors}
use Rattle.fill_rules.proofs.Clusters.{one_labelling_law}
use Rattle.output_rules.specs.declared.report.TaskLine.{TaskLine}
use Rattle.output_rules.specs.declared.report.NodeLine.{NodeLine}
use Rattle.output_rules.specs.Report.{NetLines, Report}
use Rattle.output_rules.specs.Reported.{with_number, numbers_in_order, nets_of, net_lines, AreNetLines}
use Rattle.output_rules.specs.Laws.{IsNetOfNode, IsBelow, NetsLaw, OneReportLaw}

-- ---- numbers in order

lt_true : (m n : ℕ) → nat_lt m n ≡ true → m < n
lt_true m n e = grind (arith, nat_tests)

eq_true : (m n : ℕ) → (m == n) ≡ true → m ≡ n
eq_true m n e = grind (arith, nat_tests)

above : (m n : ℕ) → nat_lt m n ≡ false → (m == n) ≡ false → n < m
above m n e f = grind (arith, nat_tests)

number_is : (n : ℕ) (ms : List ℕ) (k : ℕ) → IsOneOf k (with_number n ms) → (k ≡ n) ⊎ IsOneOf k ms
unfolding IsOneOf
number_is n [] k h = h
number_is n (m ∷ ms) k h = pick (nat_lt n m) (n == m) h (number_is n ms k)
  where
    pick : (a c : Bool) → IsOneOf k (cond a (n ∷ m ∷ ms) (cond c (m ∷ ms) (m ∷ with_number n ms))) → (IsOneOf k (with_number n ms) → (k ≡ n) ⊎ IsOneOf k ms) → (k ≡ n) ⊎ IsOneOf k (m ∷ ms)
    pick true c i f = i
    pick false true i f = inr i
    pick false false (inl e) f = inr (inl e)
    pick false false (inr i) f = elim (f i) [ inl e ↦ inl e | inr j ↦ inr (inr j) ]

number_in : (n : ℕ) (ms : List ℕ) (k : ℕ) → (k ≡ n) ⊎ IsOneOf k ms → IsOneOf k (with_number n ms)
unfolding IsOneOf
number_in n [] k h = h
number_in n (m ∷ ms) k h = pick (nat_lt n m) (n == m) refl h (number_in n ms k)
  where
    pick : (a c : Bool) → (n == m) ≡ c → (k ≡ n) ⊎ IsOneOf k (m ∷ ms) → ((k ≡ n) ⊎ IsOneOf k ms → IsOneOf k (with_number n ms))
        → IsOneOf k (cond a (n ∷ m ∷ ms) (cond c (m ∷ ms) (m ∷ with_number n ms)))
    pick true c q i f = i
    pick false true q (inl e) f = inl (e ∙ eq_true n m q)
    pick false true q (inr i) f = i
    pick false false q (inl e) f = inr (f (inl e))
    pick false false q (inr (inl e)) f = inl e
    pick false false q (inr (inr i)) f = inr (f (inr i))

number_sorted : (n : ℕ) (ms : List ℕ) → IsSortedBy IsBelow ms → IsSortedBy IsBelow (with_number n ms)
unfolding IsSortedBy IsOneOf
number_sorted n [] h = (λ y i. absurd i, tt)
number_sorted n (m ∷ ms) h = pick (nat_lt n m) (n == m) refl refl (number_sorted n ms h.1)
  where
    pick : (a c : Bool) → nat_lt n m ≡ a → (n == m) ≡ c → IsSortedBy IsBelow (with_number n ms) → IsSortedBy IsBelow (cond a (n ∷ m ∷ ms) (cond c (m ∷ ms) (m ∷ with_number n ms)))
    pick true c e q k = (
      λ y i. elim i [
        | inl f ↦ let l : n < m = lt_true n m e in omega (arith, f, l)
        | inr j ↦ let l : n < m = lt_true n m e in let g : m < y = h.0 y j in omega (arith, l, g)
      ],
      h,
    )
    pick false true e q k = h
    pick false false e q k = (
      λ y i. elim (number_is n ms y i) [
        | inl f ↦ let l : m < n = above n m e q in omega (arith, f, l)
        | inr j ↦ h.0 y j
      ],
      k,
    )

order_is : (ns : List ℕ) (k : ℕ) → IsOneOf k (numbers_in_order ns) → IsOneOf k ns
unfolding IsOneOf
order_is [] k h = h
order_is (n ∷ ns) k h = elim (number_is n (numbers_in_order ns) k h) [ inl e ↦ inl e | inr i ↦ inr (order_is ns k i) ]

order_in : (ns : List ℕ) (k : ℕ) → IsOneOf k ns → IsOneOf k (numbers_in_order ns)
unfolding IsOneOf
order_in [] k h = h
order_in (n ∷ ns) k (inl e) = number_in n (numbers_in_order ns) k (inl e)
order_in (n ∷ ns) k (inr i) = number_in n (numbers_in_order ns) k (inr (order_in ns k i))

order_sorted : (ns : List ℕ) → IsSortedBy IsBelow (numbers_in_order ns)
unfolding IsSortedBy
order_sorted [] = tt
order_sorted (n ∷ ns) = number_sorted n (numbers_in_order ns) (order_sorted ns)

of_node : (b : Board) (fills : List Made) (net : ℕ) → IsOneOf net (nets_of b fills) → IsNetOfNode b fills net
unfolding nets_of
of_node b fills net h =
    let r = one_of_map (node_net b) net (nodes_of b fills) (order_is (map (node_net b) (nodes_of b fills)) net h) in
    record { node = r.0; is = r.1; net_is = r.2 }

node_of : (b : Board) (fills : List Made) (net : ℕ) → IsNetOfNode b fills net → IsOneOf net (nets_of b fills)
unfolding nets_of
node_of b fills net h =
    order_in (map (node_net b) (nodes_of b fills)) net (subst (λ n. IsOneOf n (map (node_net b) (nodes_of b fills))) (sym h.net_is) (map_one_of (node_net b) h.node (nodes_of b fills) h.is))

sorted : (b : Board) (fills : List Made) → IsSortedBy IsBelow (nets_of b fills)
unfolding nets_of
sorted b fills = order_sorted (map (node_net b) (nodes_of b fills))

pub nets_law : NetsLaw
nets_law = record { members = λ b fills net. (of_node b fills net, node_of b fills net); sorted = sorted }

-- ---- a report is one

one_net_lines : (b : Board) (fills : List Made) (labels nets : List ℕ) (ns ms : List NetLines) → AreNetLines b fills labels nets ns → AreNetLines b fills labels nets ms → ns ≡ ms
one_net_lines b fills labels [] ns ms h g = h ∙ sym g
one_net_lines b fills labels (net ∷ nets) ns ms h g =
    let pairs : h.0 ≡ g.0 = tree_one (net_anchors b fills labels net) h.0 g.0 h.2 g.2 in
    let more : h.1 ≡ g.1 = one_net_lines b fills labels nets h.1 g.1 h.3 g.3 in
    h.4 ∙ ap (λ ps. net_lines b fills labels net ps ∷ h.1) pairs ∙ ap (λ m. net_lines b fills labels net g.0 ∷ m) more ∙ sym g.4

abbrev report : List TaskLine → List NodeLine → List NetLines → Report
report tasks nodes nets = record { tasks = tasks; nodes = nodes; nets = nets }

pub one_report : OneReportLaw
one_report b fills traced r s h g =
    let labels : h.labels ≡ g.labels = one_labelling_law b fills h.labels g.labels h.are_clusters g.are_clusters in
    let tasks : r.tasks ≡ s.tasks = h.tasks ∙ sym g.tasks in
    let nodes : r.nodes ≡ s.nodes = h.nodes ∙ sym g.nodes in
    let nets : r.nets ≡ s.nets = one_net_lines b fills g.labels (nets_of b fills) r.nets s.nets (subst (λ l. AreNetLines b fills l (nets_of b fills) r.nets) labels h.nets) g.nets in
    let same : report r.tasks r.nodes r.nets ≡ report s.tasks s.nodes s.nets = cc in
    same
