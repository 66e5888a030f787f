-- Parts that are read one after another: what was read so far, and what follows.
use Rattle.std.proofs.Common.{◌≡◌, ◌∙◌, ap, sym, refl, subst, ℕ, zero, suc, ◌+◌, ◌<◌, ◌≤◌, List, [], ◌∷◌, ◌++◌, map, length, take, drop, get_or, arith, add-one, append-nil, append_assoc, take-append-drop, drop-cons}
use Rattle.std.specs.List.{flat_map}
use Rattle.std.proofs.lemmas.List.Concat.{flat_map-append}
use Rattle.sexpr_text.specs.Items.{Item}
use Rattle.sexpr_text.specs.Parts.{Part, part_of}
use Rattle.board_text.specs.Things.{Placed}
use Rattle.board_text.specs.Items.{Context}
use Rattle.board_model.specs.declared.error.BoardError.{BoardError}
use Rattle.board_model.specs.State.{State}
use Rattle.board_model.specs.Run.{AreRead, IsStop}
use Rattle.board_model.proofs.Running.{read_none, read_both, stop_front, stop_behind}

-- what the parts of a list stand for
abbrev pub all_of : (Item → List Placed) → List Part → List Placed
all_of h ps = flat_map (λ (p : Part). h p.item) ps

split_at : (ps : List Part) (i : ℕ) (p : Part) → i < length ps → p ≡ get_or ps i p → ps ≡ take i ps ++ p ∷ drop (suc i) ps
split_at ps i p within is = sym (take-append-drop i ps) ∙ ap (λ qs. take i ps ++ qs) (drop-cons ps i p within ∙ ap (λ q. q ∷ drop (suc i) ps) (sym is))

take_one : (ps : List Part) (i : ℕ) (p : Part) → i < length ps → p ≡ get_or ps i p → take (suc i) ps ≡ take i ps ++ p ∷ []
take_one [] i p within is = absurd (omega (arith, within))
take_one (q ∷ qs) zero p within is = ap (λ r. r ∷ []) (sym is)
take_one (q ∷ qs) (suc i) p within is = ap (λ rs. q ∷ rs) (take_one qs i p (omega (arith, within)) is)

take_next : (ps : List Part) (i : ℕ) (p : Part) → i < length ps → p ≡ get_or ps i p → take (i + 1) ps ≡ take i ps ++ p ∷ []
take_next ps i p within is = ap (λ k. take k ps) (add-one i) ∙ take_one ps i p within is

one_of : (h : Item → List Placed) (p : Part) → all_of h (p ∷ []) ≡ h p.item
one_of h p = append-nil (h p.item)

pub none_read : (c : Context) (s : State) (h : Item → List Placed) (ps : List Part) → AreRead c s (all_of h (take 0 ps)) s
none_read c s h ps = read_none c s

pub next_read : (c : Context) (start now new : State) (h : Item → List Placed) (ps : List Part) (i : ℕ) (p : Part) → i < length ps → p ≡ get_or ps i p
    → AreRead c start (all_of h (take i ps)) now → AreRead c now (h p.item) new → AreRead c start (all_of h (take (i + 1) ps)) new
next_read c start now new h ps i p within is f g =
    let split : all_of h (take (i + 1) ps) ≡ all_of h (take i ps) ++ h p.item =
    ap (all_of h) (take_next ps i p within is) ∙ flat_map-append (λ (q : Part). h q.item) (take i ps) (p ∷ []) ∙ ap (λ qs. all_of h (take i ps) ++ qs) (one_of h p) in
    subst (λ qs. AreRead c start qs new) (sym split) (read_both c start now new (all_of h (take i ps)) (h p.item) f g)

pub stop_read : (c : Context) (start now : State) (h : Item → List Placed) (ps : List Part) (i : ℕ) (p : Part) (e : BoardError) → i < length ps → p ≡ get_or ps i p
    → AreRead c start (all_of h (take i ps)) now → IsStop c now (h p.item) e → IsStop c start (all_of h ps) e
stop_read c start now h ps i p e within is f g =
    let rest = all_of h (drop (suc i) ps) in
    let split : all_of h ps ≡ (all_of h (take i ps) ++ h p.item) ++ rest =
    ap (all_of h) (split_at ps i p within is) ∙ flat_map-append (λ (q : Part). h q.item) (take i ps) (p ∷ drop (suc i) ps) ∙ sym (append_assoc (all_of h (take i ps)) (h p.item) rest) in
    subst (λ qs. IsStop c start qs e) (sym split)
    (stop_front c start (all_of h (take i ps) ++ h p.item) rest e (stop_behind c start now (all_of h (take i ps)) (h p.item) e f g))

take_whole : (ps : List Part) (i : ℕ) → length ps ≤ i → take i ps ≡ ps
take_whole [] zero l = refl
take_whole [] (suc i) l = refl
take_whole (p ∷ ps) zero l = absurd (omega (arith, l))
take_whole (p ∷ ps) (suc i) l = ap (λ qs. p ∷ qs) (take_whole ps i (omega (arith, l)))

pub all_read : (c : Context) (start now : State) (h : Item → List Placed) (ps : List Part) (i : ℕ) → length ps ≤ i → AreRead c start (all_of h (take i ps)) now → AreRead c start (all_of h ps) now
all_read c start now h ps i l f = subst (λ qs. AreRead c start (all_of h qs) now) (take_whole ps i l) f

-- the parts are those of items of one text
pub bytes_are : (bytes : List ℕ) (items : List Item) (ps : List Part) (i : ℕ) (p : Part) → ps ≡ map (part_of bytes) items → i < length ps → p ≡ get_or ps i p → p.bytes ≡ bytes
bytes_are bytes items ps i p e within is =
    ap (λ (q : Part). q.bytes) (is ∙ ap (λ qs. get_or qs i p) e) ∙ by_place items i (subst (λ qs. i < length qs) e within)
  where
    by_place : (items : List Item) (i : ℕ) → i < length (map (part_of bytes) items) → (get_or (map (part_of bytes) items) i p).bytes ≡ bytes
    by_place [] i l = absurd (omega (arith, l))
    by_place (x ∷ xs) zero l = refl
    by_place (x ∷ xs) (suc i) l = by_place xs i (omega (arith, l))

pub items_are : (h : Item → List Placed) (bytes : List ℕ) (items : List Item) → all_of h (map (part_of bytes) items) ≡ flat_map h items
items_are h bytes [] = refl
items_are h bytes (x ∷ xs) = ap (λ qs. h x ++ qs) (items_are h bytes xs)

pub each_alone : (f : Item → Placed) (items : List Item) → flat_map (λ i. f i ∷ []) items ≡ map f items
each_alone f [] = refl
each_alone f (x ∷ xs) = ap (λ qs. f x ∷ qs) (each_alone f xs)
