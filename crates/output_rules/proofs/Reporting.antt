-- One more node is added, and one more net is counted.
use Rattle.std.proofs.Common.{◌≡◌, ◌∙◌, ap, sym, ℕ, suc, ◌+◌, ◌<◌, ◌≤◌, List, ◌∷◌, ◌++◌, get_or, map, drop, length, append_assoc, append-nil, drop-cons, add-one, arith}
use Rattle.std.proofs.Math.ListN.{drop_of_length-le}
use Rattle.output_rules.specs.declared.report.NodeLine.{NodeLine}
use Rattle.output_rules.specs.declared.report.RatsnestLine.{RatsnestLine}
use Rattle.output_rules.specs.Report.{NetLines, node_text, nodes_text, unjoined}

split : {X : Type 0} (xs : List X) (i : ℕ) (x : X) → i < length xs → x ≡ get_or xs i x → drop i xs ≡ x ∷ drop (i + 1) xs
split xs i x within is = drop-cons xs i x within ∙ ap (λ y. y ∷ drop (suc i) xs) (sym is) ∙ ap (λ k. x ∷ drop k xs) (sym (add-one i))

pub node_next : (ns : List NodeLine) (k : ℕ) (n : NodeLine) (out new all : List ℕ) → k < length ns → n ≡ get_or ns k n → new ≡ out ++ node_text k n
    → out ++ nodes_text k (drop k ns) ≡ all → new ++ nodes_text (k + 1) (drop (k + 1) ns) ≡ all
unfolding nodes_text
node_next ns k n out new all within is e h =
    ap (λ t. t ++ nodes_text (k + 1) (drop (k + 1) ns)) e
    ∙ append_assoc out (node_text k n) (nodes_text (k + 1) (drop (k + 1) ns))
    ∙ ap (λ m. out ++ (node_text k n ++ nodes_text m (drop (k + 1) ns))) (add-one k)
    ∙ ap (λ xs. out ++ nodes_text k xs) (sym (split ns k n within is))
    ∙ h

pub node_end : (ns : List NodeLine) (k : ℕ) (out all : List ℕ) → length ns ≤ k → out ++ nodes_text k (drop k ns) ≡ all → out ≡ all
unfolding nodes_text
node_end ns k out all done h = sym (append-nil out) ∙ ap (λ xs. out ++ nodes_text k xs) (sym (drop_of_length-le ns done)) ∙ h

pub net_split : {X : Type 0} (f : X → NetLines) (ns : List X) (i : ℕ) (n : X) → i < length ns → n ≡ get_or ns i n
    → unjoined (map f (drop i ns)) ≡ length (f n).lines + unjoined (map f (drop (i + 1) ns))
unfolding unjoined
net_split f ns i n within is = ap (λ xs. unjoined (map f xs)) (split ns i n within is)

pub net_end : {X : Type 0} (f : X → NetLines) (ns : List X) (i : ℕ) → length ns ≤ i → unjoined (map f (drop i ns)) ≡ 0
unfolding unjoined
net_end f ns i done = ap (λ xs. unjoined (map f xs)) (drop_of_length-le ns done)

-- one more net is counted
pub counted : {X : Type 0} (f : X → NetLines) (ns : List X) (i : ℕ) (n : X) (lines : List RatsnestLine) (count all : ℕ) → i < length ns → n ≡ get_or ns i n → lines ≡ (f n).lines
    → count + unjoined (map f (drop i ns)) ≡ all → count + length lines + unjoined (map f (drop (i + 1) ns)) ≡ all
counted f ns i n lines count all within is e h =
    let left = net_split f ns i n within is in
    let size : length lines ≡ length (f n).lines = ap length e in
    omega (arith, left, size, h)
