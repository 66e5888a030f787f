-- Laws of places and kinds.
use Rattle.std.proofs.Common.{◌≡◌, ◌⊎◌, ℕ, zero, suc, ◌+◌, ◌<◌, ◌≤◌, Bool, true, false, ◌==◌, cond, List, [], ◌++◌, length, slice_index, take, drop, refl, sym, ◌∙◌, ap, subst, inl, inr, arith, append_assoc, Some, slice_get}
use Rattle.std.proofs.lemmas.Option.{slice_get-get_or, slice_get_past}
use Rattle.std.proofs.lemmas.List.{append-nil, take-append-drop, take-take, take_all}
use Rattle.sexpr_text.specs.Grammar.{Forest, Spelt, is_space}
use Rattle.sexpr_text.specs.Inner.Spot.{TextSpot, step, text_spot, closed}
use Rattle.sexpr_text.specs.Inner.Spot.TextSpot.{Before, Inside, Quoted, Behind, Lost}
use Rattle.sexpr_text.specs.Faults.{IsFront, IsUtf8Front, IsPlace, IsFault, first_row}
use Rattle.sexpr_text.specs.Inner.Seen.{fault_at_spot}
use Rattle.sexpr_text.specs.declared.error.TextKind.{TextKind}
use Rattle.sexpr_text.specs.declared.error.TextKind.TheVariants.{StrayClose, NotList, After, TooDeep, BadUtf8}
use Rattle.sexpr_text.proofs.Spots.{next}
use Rattle.sexpr_text.proofs.Fronts.{front_alive, front_made, front_utf8}
use Rattle.sexpr_text.proofs.Wheres.{where_of, where_front}
use Rattle.sexpr_text.proofs.Table.{row_refused, ends_utf8}
use Rattle.sexpr_text.proofs.Numbers.{below_or_past, compared}

-- less of a front is a front
pub front_less : (bytes : List ℕ) (m n : ℕ) → m ≤ n → IsFront bytes n → IsFront bytes m
front_less bytes m n h f =
    let e : take m bytes ++ drop m (take n bytes) ≡ take n bytes = ap (λ t. t ++ drop m (take n bytes)) (sym (take-take m n bytes h)) ∙ take-append-drop m (take n bytes) in
    let g : take m bytes ++ (drop m (take n bytes) ++ f.more) ≡ take n bytes ++ f.more = sym (append_assoc (take m bytes) (drop m (take n bytes)) f.more) ∙ ap (λ t. t ++ f.more) e in
    record { within = omega (arith, f.within); more = drop m (take n bytes) ++ f.more; tree = f.tree; spelt = subst (λ b. Spelt b f.tree) (sym g) f.spelt }

-- a text has one place of a fault, and one kind
pub one_place : (bytes : List ℕ) (a b : ℕ) → IsPlace bytes a → IsPlace bytes b → a ≡ b
one_place bytes a b p q =
    elim (compared a b) [
      | inl same ↦ same
      | inr (inl less) ↦ absurd (p.longest (front_less bytes (a + 1) b (omega arith) q.front))
      | inr (inr more) ↦ absurd (q.longest (front_less bytes (b + 1) a (omega arith) p.front))
    ]

-- the kind, by the spot
pub kind_there : (bytes : List ℕ) (at : ℕ) (k : TextKind) → IsFault bytes at k → first_row (where_of (text_spot bytes at)) (slice_get bytes at) ≡ Some k
kind_there bytes at k f = ap (λ w. first_row w (slice_get bytes at)) (where_front bytes at f.place.front) ∙ f.of_kind

pub same_fault : (bytes : List ℕ) (a b : ℕ) (k l : TextKind) → IsFault bytes a k → IsFault bytes b l → (a ≡ b) × (k ≡ l)
same_fault bytes a b k l f g =
    let e : a ≡ b = one_place bytes a b f.place g.place in
    let d : Some k ≡ Some l = sym (kind_there bytes a k f) ∙ ap (λ n. first_row (where_of (text_spot bytes n)) (slice_get bytes n)) e ∙ kind_there bytes b l g in
    (e, cc)

-- a text that is spelt has no fault
pub no_fault : (bytes : List ℕ) (tree : Forest) (at : ℕ) (k : TextKind) → Spelt bytes tree → IsFault bytes at k → ⊥
no_fault bytes tree at k s f = f.place.none tree s

-- a spelt text begins a text at each place
pub spelt_front : (bytes : List ℕ) (tree : Forest) (n : ℕ) → n ≤ length bytes → Spelt bytes tree → IsFront bytes n
spelt_front bytes tree n h s =
    let e : take (length bytes) bytes ++ [] ≡ bytes = append-nil (take (length bytes) bytes) ∙ take_all (length bytes) bytes (omega arith) in
    front_less bytes n (length bytes) h (record { within = omega arith; more = []; tree = tree; spelt = subst (λ b. Spelt b tree) (sym e) s })

-- a place before the end, by the byte there: its spot is lost behind it, or it can't go on the UTF-8
pub place_byte : (bytes : List ℕ) (at : ℕ) → at < length bytes → IsFront bytes at
    → (step (text_spot bytes at) (slice_index bytes at) ≡ Lost) ⊎ (IsUtf8Front (take (at + 1) bytes) → ⊥) → IsPlace bytes at
place_byte bytes at h f c =
    let no : IsFront bytes (at + 1) → ⊥ = λ g. elim c [
      | inl lost ↦ front_alive bytes (at + 1) g (next bytes at (at + 1) refl ∙ lost)
      | inr cut ↦ cut (front_utf8 bytes (at + 1) g)
    ] in
    record { front = f; longest = no; none = λ tree s. no (spelt_front bytes tree (at + 1) (omega arith) s) }

abbrev Alive : TextSpot → Type 0
Alive Lost = ⊥
Alive other = Unit {0}

alive_cond : (b : Bool) (s t : TextSpot) → Alive s → Alive t → Alive (cond b s t)
alive_cond true s t h i = h
alive_cond false s t h i = i

alive_item : (room c : ℕ) → Alive (cond (c == 41) (closed room) (cond (c == 34) (Quoted room false) (Inside room)))
alive_item room c = alive_cond (c == 41) (closed room) (cond (c == 34) (Quoted room false) (Inside room))
    (alive_cond (room == 63) Behind (Inside (room + 1)) tt tt) (alive_cond (c == 34) (Quoted room false) (Inside room) tt tt)

-- where the byte may stand, it isn't lost
may_stand : (s : TextSpot) (c : ℕ) → (s ≡ Lost → ⊥) → fault_at_spot s c ≡ BadUtf8 → step s c ≡ Lost → ⊥
may_stand Before c a k l = on (c == 41) refl (is_space c) refl (c == 40) refl
  where
    on : (p : Bool) → (c == 41) ≡ p → (q : Bool) → is_space c ≡ q → (r : Bool) → (c == 40) ≡ r → ⊥
    on true p q x r y = let f : StrayClose ≡ BadUtf8 = sym (rw p refl) ∙ k in cc
    on false p true x r y = let f : Before ≡ Lost = sym (rw x refl) ∙ l in cc
    on false p false x true y = let f : Inside 63 ≡ Lost = sym (rw (x, y) refl) ∙ l in cc
    on false p false x false y = let f : NotList ≡ BadUtf8 = sym (rw (p, x, y) refl) ∙ k in cc
may_stand (Quoted room true) c a k l = cc
may_stand (Quoted room false) c a k l = on (c == 34) refl
  where
    on : (p : Bool) → (c == 34) ≡ p → ⊥
    on true p = let f : Inside room ≡ Lost = sym (rw p refl) ∙ l in cc
    on false p = let f : Quoted room (c == 92) ≡ Lost = sym (rw p refl) ∙ l in cc
may_stand (Inside zero) c a k l = on (c == 40) refl
  where
    on : (p : Bool) → (c == 40) ≡ p → ⊥
    on true p = let f : TooDeep ≡ BadUtf8 = sym (rw p refl) ∙ k in cc
    on false p = subst Alive (sym (rw p refl) ∙ l) (alive_item 0 c)
may_stand (Inside (suc room)) c a k l =
    subst Alive l (alive_cond (c == 40) (Inside room) (cond (c == 41) (closed (suc room)) (cond (c == 34) (Quoted (suc room) false) (Inside (suc room)))) tt (alive_item (suc room) c))
may_stand Behind c a k l = on (is_space c) refl
  where
    on : (p : Bool) → is_space c ≡ p → ⊥
    on true p = let f : Behind ≡ Lost = sym (rw p refl) ∙ l in cc
    on false p = let f : After ≡ BadUtf8 = sym (rw p refl) ∙ k in cc
may_stand Lost c a k l = a refl

-- The kind `BadUtf8` comes exactly where a byte that could stand at its spot can't continue the UTF-8.
pub bad_utf8 : (bytes : List ℕ) (at : ℕ) → IsFault bytes at BadUtf8 → IsUtf8Front (take (at + 1) bytes) → ⊥
bad_utf8 bytes at f u =
    elim (below_or_past at (length bytes)) [
      | inl less ↦
          let e : slice_get bytes at ≡ Some (slice_index bytes at) = slice_get-get_or bytes at 0 less in
          let k : Some (fault_at_spot (text_spot bytes at) (slice_index bytes at)) ≡ Some BadUtf8 =
          sym (row_refused (text_spot bytes at) (slice_index bytes at) (front_alive bytes at f.place.front)) ∙ ap (first_row (where_of (text_spot bytes at))) (sym e) ∙ kind_there bytes at BadUtf8 f in
          let d : fault_at_spot (text_spot bytes at) (slice_index bytes at) ≡ BadUtf8 = cc in
          f.place.longest (front_made bytes (at + 1) (omega arith) u
          (λ q. may_stand (text_spot bytes at) (slice_index bytes at) (front_alive bytes at f.place.front) d (sym (next bytes at (at + 1) refl) ∙ q)))
      | inr past ↦ ends_utf8 (text_spot bytes at) (ap (first_row (where_of (text_spot bytes at))) (sym (slice_get_past bytes at past)) ∙ kind_there bytes at BadUtf8 f)
    ]
