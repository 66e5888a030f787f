-- Pieces of a text are replaced one after another.
use Rattle.std.proofs.Common.{◌≡◌, ◌∙◌, refl, ap, sym, subst, ℕ, suc, ◌+◌, ◌-◌, ◌<◌, ◌≤◌, List, [], ◌∷◌, ◌++◌, map, get_or, take, drop, length, length-append, length-drop, append_assoc, drop-cons, add-one, arith}
use Rattle.std.specs.List.{slice_range}
use Rattle.std.proofs.Math.Seq.{take-append_seam, drop-append_seam}
use Rattle.std.proofs.Math.ListN.{drop_of_length-le}
use Rattle.std.proofs.lemmas.List.{take-append-drop, length-take-le, drop-drop}
use Rattle.std.proofs.lemmas.List.Folds.{drop_split}
use Rattle.output_rules.specs.Pieces.{Piece, IsPieceReplaced, ArePiecesInOrder, AreReplaced, replaced, put_size, out_size}
use Rattle.output_rules.specs.Laws.{ReplacedLaw}

-- ---- what the pieces make

split2 : (m n : ℕ) (xs : List ℕ) → m ≤ n → xs ≡ take m xs ++ (take (n - m) (drop m xs) ++ drop n xs)
split2 m n xs l = sym (take-append-drop m xs) ∙ ap (λ t. take m xs ++ t) (drop_split xs m n l)

pub order : (at end : ℕ) (ps : List Piece) → ArePiecesInOrder at end ps → at ≤ end
unfolding ArePiecesInOrder
order at end [] h = h
order at end (p ∷ ps) h = let rest : p.to ≤ end = order p.to end ps h.2 in omega (arith, h.0, h.1, rest)

made : (at end : ℕ) (ps : List Piece) (old : List ℕ) → at + length old ≡ end → ArePiecesInOrder at end ps → AreReplaced at ps old (replaced at ps old)
unfolding ArePiecesInOrder AreReplaced replaced
made at end [] old e h = refl
made at end (p ∷ ps) old e h =
    let last : p.to ≤ end = order p.to end ps h.2 in
    let m = p.from - at in
    let n = p.to - at in
    let rest = drop n old in
    let out = take (n - m) (drop m old) in
    let mn : m ≤ n = omega (arith, h.0, h.1) in
    let within : n ≤ length old = omega (arith, h.0, h.1, e, last) in
    let m_within : m ≤ length old = omega (arith, mn, within) in
    let kept_is : length (take m old) ≡ m = length-take-le m old m_within in
    let left : length (drop m old) ≡ length old - m = length-drop m old in
    let out_within : n - m ≤ length (drop m old) = omega (arith, left, mn, within) in
    let out_is : length out ≡ n - m = length-take-le (n - m) (drop m old) out_within in
    let rest_is : length rest ≡ length old - n = length-drop n old in
    let from_is : at + length (take m old) ≡ p.from = omega (arith, kept_is, h.0) in
    let to_is : p.from + length out ≡ p.to = omega (arith, out_is, h.0, h.1) in
    let end_is : p.to + length rest ≡ end = omega (arith, rest_is, within, e, h.0, h.1) in
    let this : IsPieceReplaced at p old rest (take m old ++ (p.put ++ replaced p.to ps rest)) (replaced p.to ps rest) =
    record { kept = take m old; out = out; from_is = from_is; to_is = to_is; old_is = split2 m n old mn; new_is = refl } in
    (rest, replaced p.to ps rest, this, made p.to end ps rest end_is h.2)

-- what stands before a seam, and what behind it
before : (xs ys all : List ℕ) (n : ℕ) → all ≡ xs ++ ys → length xs ≡ n → take n all ≡ xs
before xs ys all n e l = ap (take n) e ∙ ap (λ k. take k (xs ++ ys)) (sym l) ∙ take-append_seam xs ys

behind : (xs ys all : List ℕ) (n : ℕ) → all ≡ xs ++ ys → length xs ≡ n → drop n all ≡ ys
behind xs ys all n e l = ap (drop n) e ∙ ap (λ k. drop k (xs ++ ys)) (sym l) ∙ drop-append_seam xs ys

one : (at : ℕ) (ps : List Piece) (old new other : List ℕ) → AreReplaced at ps old new → AreReplaced at ps old other → new ≡ other
unfolding AreReplaced
one at [] old new other h g = h ∙ sym g
one at (p ∷ ps) old new other h g =
    let a = h.2 in
    let b = g.2 in
    let size : length a.kept ≡ length b.kept = omega (arith, a.from_is, b.from_is) in
    let kept : a.kept ≡ b.kept = sym (before a.kept (a.out ++ h.0) old (length b.kept) a.old_is size) ∙ before b.kept (b.out ++ g.0) old (length b.kept) b.old_is refl in
    let back : a.out ++ h.0 ≡ b.out ++ g.0 = sym (behind a.kept (a.out ++ h.0) old (length b.kept) a.old_is size) ∙ behind b.kept (b.out ++ g.0) old (length b.kept) b.old_is refl in
    let out_size : length a.out ≡ length b.out = omega (arith, a.to_is, b.to_is) in
    let rest : h.0 ≡ g.0 = sym (behind a.out h.0 (b.out ++ g.0) (length b.out) (sym back) out_size) ∙ behind b.out g.0 (b.out ++ g.0) (length b.out) refl refl in
    let more : h.1 ≡ g.1 = one p.to ps g.0 h.1 g.1 (subst (λ r. AreReplaced p.to ps r h.1) rest h.3) g.3 in
    a.new_is ∙ ap (λ k. k ++ (p.put ++ h.1)) kept ∙ ap (λ k. b.kept ++ (p.put ++ k)) more ∙ sym b.new_is

three : (xs ys zs : List ℕ) → length (xs ++ (ys ++ zs)) ≡ length xs + (length ys + length zs)
three xs ys zs = length-append xs (ys ++ zs) ∙ ap (λ k. length xs + k) (length-append ys zs)

size : (at : ℕ) (ps : List Piece) (old new : List ℕ) → AreReplaced at ps old new → length new + out_size ps ≡ length old + put_size ps
unfolding AreReplaced out_size put_size
size at [] old new h = ap (λ k. length k + 0) h
size at (p ∷ ps) old new h =
    let a = h.2 in
    let was : length old ≡ length a.kept + (length a.out + length h.0) = ap length a.old_is ∙ three a.kept a.out h.0 in
    let now : length new ≡ length a.kept + (length p.put + length h.1) = ap length a.new_is ∙ three a.kept p.put h.1 in
    let rest : length h.1 + out_size ps ≡ length h.0 + put_size ps = size p.to ps h.0 h.1 h.3 in
    omega (arith, was, now, rest, a.to_is)

pub replaced_law : ReplacedLaw
replaced_law = record { made = λ text ps h. made 0 (length text) ps text refl_sum h; one = λ text new other ps h g. one 0 ps text new other h g; size = λ text new ps h. size 0 ps text new h }
  where
    refl_sum : {n : ℕ} → 0 + n ≡ n
    refl_sum = omega arith

-- ---- the walk over the pieces

-- What is written so far, with what the pieces that are left make of the rest of the text.
pub next : (text : List ℕ) (at : ℕ) (p : Piece) (ps : List Piece) (out mid new all : List ℕ) → at ≤ p.from → p.from ≤ p.to
    → mid ≡ out ++ slice_range text at p.from → new ≡ mid ++ p.put
    → out ++ replaced at (p ∷ ps) (drop at text) ≡ all → new ++ replaced p.to ps (drop p.to text) ≡ all
unfolding replaced
next text at p ps out mid new all l k e f h =
    let sum : at + (p.to - at) ≡ p.to = omega (arith, l, k) in
    let rest : drop (p.to - at) (drop at text) ≡ drop p.to text = drop-drop (p.to - at) at text ∙ ap (λ n. drop n text) sum in
    ap (λ t. t ++ replaced p.to ps (drop p.to text)) (f ∙ ap (λ t. t ++ p.put) e)
    ∙ append_assoc (out ++ slice_range text at p.from) p.put (replaced p.to ps (drop p.to text))
    ∙ append_assoc out (slice_range text at p.from) (p.put ++ replaced p.to ps (drop p.to text))
    ∙ ap (λ t. out ++ (slice_range text at p.from ++ (p.put ++ replaced p.to ps t))) (sym rest)
    ∙ h

-- the pieces that are left are this one and those behind it
pub split_at : {X : Type 0} (f : X → Piece) (xs : List X) (i : ℕ) (x : X) → i < length xs → x ≡ get_or xs i x → map f (drop i xs) ≡ f x ∷ map f (drop (i + 1) xs)
split_at f xs i x within is =
    ap (map f) (drop-cons xs i x within ∙ ap (λ y. y ∷ drop (suc i) xs) (sym is) ∙ ap (λ k. x ∷ drop k xs) (sym (add-one i)))

pub first_from : (at end : ℕ) (p : Piece) (ps : List Piece) → ArePiecesInOrder at end (p ∷ ps) → at ≤ p.from
unfolding ArePiecesInOrder
first_from at end p ps h = h.0

pub first_to : (at end : ℕ) (p : Piece) (ps : List Piece) → ArePiecesInOrder at end (p ∷ ps) → p.from ≤ p.to
unfolding ArePiecesInOrder
first_to at end p ps h = h.1

pub first_rest : (at end : ℕ) (p : Piece) (ps : List Piece) → ArePiecesInOrder at end (p ∷ ps) → ArePiecesInOrder p.to end ps
unfolding ArePiecesInOrder
first_rest at end p ps h = h.2

pub last_written : (at : ℕ) (text out all : List ℕ) → out ++ replaced at [] (drop at text) ≡ all → out ++ drop at text ≡ all
unfolding replaced
last_written at text out all h = h

pub in_order : (at end : ℕ) (p : Piece) (ps : List Piece) → at ≤ p.from → p.from ≤ p.to → ArePiecesInOrder p.to end ps → ArePiecesInOrder at end (p ∷ ps)
unfolding ArePiecesInOrder
in_order at end p ps l k h = (l, k, h)

pub last_in_order : {X : Type 0} (f : X → Piece) (xs : List X) (i at end : ℕ) → length xs ≤ i → (ArePiecesInOrder at end (map f (drop i xs)) → at ≤ end) × (at ≤ end → ArePiecesInOrder at end (map f (drop i xs)))
unfolding ArePiecesInOrder
last_in_order f xs i at end done =
    let none : drop i xs ≡ [] = drop_of_length-le xs done in
    (λ h. subst (λ ys. ArePiecesInOrder at end (map f ys)) none h, λ h. subst (λ ys. ArePiecesInOrder at end (map f ys)) (sym none) h)
