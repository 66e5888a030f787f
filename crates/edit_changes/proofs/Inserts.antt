-- Splices that put a list into a spelling: in place of another, behind white space, before white space.
use Rattle.std.proofs.Common.{◌≡◌, ◌∙◌, refl, ap, sym, ℕ, ◌+◌, ◌-◌, ◌<◌, true, false, cond, ◌||◌, List, [], ◌∷◌, ◌++◌, length, codes, arith, append-nil, append_assoc, length-append}
use Rattle.std.specs.List.{list_all}
use Rattle.std.proofs.lemmas.Bool.{false≢true}
use Rattle.sexpr_text.specs.Grammar.{is_space}
use Rattle.text_splices.specs.Splice.{IsSplice}
use Rattle.text_shapes.specs.Shapes.{Shape}
use Rattle.text_shapes.specs.Shapes.Shape.{Over, Bare, Quoted, Inside}
use Rattle.text_shapes.specs.Seen.{is_named}
use Rattle.text_shapes.specs.Spellings.{Spelling, spelt_bytes, width, contents, IsTextSpelling}
use Rattle.text_shapes.specs.Spellings.Spelling.{Ends, Nested}
use Rattle.text_shapes.proofs.Layouts.{all_both}
use Rattle.text_shapes.proofs.Spellings.{length-bytes}
use Rattle.same_boards.specs.Contents.{is_named_among, without}
use Rattle.edit_changes.proofs.Holes.{Hole, Here, PastName, PastString, PastList, Into, plug, front, back, deep, plug_bytes, good_plug, IsFlat, last_hole, last_white, last_is, last_flat, back_flat}
use Rattle.edit_changes.proofs.Texts.{splice_is}
use Rattle.edit_changes.proofs.Lists.{Lists, value_bytes}
use Rattle.edit_changes.proofs.InPlace.{list_apart}

-- a list for a list
pub replaced : (text new : List ℕ) (k : Hole) (w : List ℕ) (x y rest : Spelling) (from to : ℕ) → text ≡ spelt_bytes (plug k (Nested w x rest)) → length (front k) + length w ≡ from
    → from + length (value_bytes (Lists x)) ≡ to → IsSplice text from to (value_bytes (Lists y)) new → new ≡ spelt_bytes (plug k (Nested w y rest))
replaced text new k w x y rest from to e l m s =
    splice_is text new (value_bytes (Lists y)) (front k ++ w) (value_bytes (Lists x)) (spelt_bytes rest ++ back k) from to
    (e ∙ plug_bytes k (Nested w x rest) ∙ list_apart (front k) w (spelt_bytes x) (spelt_bytes rest) (back k)) (length-append (front k) w ∙ l) m s
    ∙ sym (plug_bytes k (Nested w y rest) ∙ list_apart (front k) w (spelt_bytes y) (spelt_bytes rest) (back k))

-- a list behind the white space at the end
pub put_behind : (text new : List ℕ) (k : Hole) (w v : List ℕ) (y : Spelling) (from : ℕ) → text ≡ spelt_bytes (plug k (Ends w)) → length (front k) + length w ≡ from
    → IsSplice text from from (v ++ value_bytes (Lists y)) new → new ≡ spelt_bytes (plug k (Nested (w ++ v) y (Ends [])))
put_behind text new k w v y from e l s =
    splice_is text new (v ++ value_bytes (Lists y)) (front k ++ w) [] (back k) from from (e ∙ plug_bytes k (Ends w) ∙ sym (append_assoc (front k) w (back k))) (length-append (front k) w ∙ l) (omega arith) s
    ∙ append_assoc (front k) w ((v ++ value_bytes (Lists y)) ++ back k)
    ∙ ap (λ z. front k ++ z) (sym (append_assoc w (v ++ value_bytes (Lists y)) (back k)) ∙ ap (λ z. z ++ back k) (sym (append_assoc w v (value_bytes (Lists y)))))
    ∙ sym (plug_bytes k (Nested (w ++ v) y (Ends [])))

-- a list before it
pub put_before : (text new : List ℕ) (k : Hole) (w : List ℕ) (y : Spelling) (from : ℕ) → text ≡ spelt_bytes (plug k (Ends w)) → length (front k) ≡ from
    → IsSplice text from from (codes " " ++ value_bytes (Lists y)) new → new ≡ spelt_bytes (plug k (Nested (codes " ") y (Ends w)))
put_before text new k w y from e l s =
    splice_is text new (codes " " ++ value_bytes (Lists y)) (front k) [] (w ++ back k) from from (e ∙ plug_bytes k (Ends w)) l (omega arith) s
    ∙ ap (λ z. front k ++ z)
    (sym (append_assoc (codes " " ++ value_bytes (Lists y)) w (back k)) ∙ ap (λ z. (32 ∷ 40 ∷ z) ++ back k) (append_assoc (spelt_bytes y) (41 ∷ []) w))
    ∙ sym (plug_bytes k (Nested (codes " ") y (Ends w)))

-- ---- they are good

pub replaced_good : (k : Hole) (w : List ℕ) (x y rest : Spelling) (room : ℕ) → IsTextSpelling room (plug k (Nested w x rest)) → ((m : ℕ) → m + deep k ≡ room → IsTextSpelling (m - 1) y)
    → IsTextSpelling room (plug k (Nested w y rest))
replaced_good k w x y rest room g f = good_plug k (Nested w x rest) (Nested w y rest) room refl g (λ m e h. (h.0, h.1, f m e, h.3))

pub behind_good : (k : Hole) (w v : List ℕ) (y : Spelling) (room : ℕ) → list_all is_space v ≡ true → deep k < room → IsTextSpelling room (plug k (Ends w))
    → ((m : ℕ) → m + deep k ≡ room → IsTextSpelling (m - 1) y) → IsTextSpelling room (plug k (Nested (w ++ v) y (Ends [])))
behind_good k w v y room a l g f = good_plug k (Ends w) (Nested (w ++ v) y (Ends [])) room refl g (λ m e h. (all_both is_space w v h a, omega (arith, e, l), f m e, refl))

pub before_good : (k : Hole) (w : List ℕ) (y : Spelling) (room : ℕ) → deep k < room → IsTextSpelling room (plug k (Ends w)) → ((m : ℕ) → m + deep k ≡ room → IsTextSpelling (m - 1) y)
    → IsTextSpelling room (plug k (Nested (codes " ") y (Ends w)))
before_good k w y room l g f = good_plug k (Ends w) (Nested (codes " ") y (Ends w)) room refl g (λ m e h. (refl, omega (arith, e, l), f m e, h))

-- ---- what stays

-- the head of a list whose first item is a word
pub named_plug : (k : Hole) (s t : Spelling) (name other : List ℕ) → is_named name (contents (plug k s)) ≡ true → is_named name (contents s) ≡ false
    → is_named other (contents (plug k t)) ≡ is_named other (contents (plug k s))
named_plug Here s t name other h n = absurd (false≢true (sym n ∙ h))
named_plug (PastName w u k) s t name other h n = refl
named_plug (PastString w u k) s t name other h n = absurd (false≢true h)
named_plug (PastList w inner k) s t name other h n = absurd (false≢true h)
named_plug (Into w k rest) s t name other h n = absurd (false≢true h)

-- the contents without lists of some heads
pub without_plug : (names : List (List ℕ)) (k : Hole) (s t : Spelling) → IsFlat k → without names (contents s) ≡ without names (contents t) → without names (contents (plug k s)) ≡ without names (contents (plug k t))
without_plug names Here s t f e = e
without_plug names (PastName w u k) s t f e = ap (Bare u) (without_plug names k s t f e)
without_plug names (PastString w u k) s t f e = ap (Quoted (Rattle.sexpr_text.specs.Items.unescaped false u)) (without_plug names k s t f e)
without_plug names (PastList w inner k) s t f e =
    ap (λ z. cond (is_named_among names (contents inner)) z (Inside (contents inner) z)) (without_plug names k s t f e)
without_plug names (Into w k rest) s t f e = absurd f

among_one : (name : List ℕ) (c : Shape) → is_named name c ≡ true → is_named_among (name ∷ []) c ≡ true
among_one name c h = ap (λ b. b || false) h

-- a list with the head is left out, whatever it says
pub without_replaced : (name : List ℕ) (w : List ℕ) (x y rest : Spelling) → is_named name (contents x) ≡ true → is_named name (contents y) ≡ true
    → without (name ∷ []) (contents (Nested w x rest)) ≡ without (name ∷ []) (contents (Nested w y rest))
without_replaced name w x y rest h g =
    ap (λ b. cond b (without (name ∷ []) (contents rest)) (Inside (contents x) (without (name ∷ []) (contents rest)))) (among_one name (contents x) h)
    ∙ sym (ap (λ b. cond b (without (name ∷ []) (contents rest)) (Inside (contents y) (without (name ∷ []) (contents rest)))) (among_one name (contents y) g))

pub without_put : (name v : List ℕ) (w z : List ℕ) (y : Spelling) → is_named name (contents y) ≡ true → without (name ∷ []) (contents (Ends w)) ≡ without (name ∷ []) (contents (Nested v y (Ends z)))
without_put name v w z y h = sym (ap (λ b. cond b Over (Inside (contents y) Over)) (among_one name (contents y) h))

-- how long a spelling is, by its last white space
pub last_width : (s : Spelling) → width s ≡ length (front (last_hole s)) + length (last_white s)
last_width s =
    sym (length-bytes s) ∙ ap (λ z. length (spelt_bytes z)) (sym (last_is s)) ∙ ap length (plug_bytes (last_hole s) (Ends (last_white s)))
    ∙ ap (λ z. length (front (last_hole s) ++ (last_white s ++ z))) (back_flat (last_hole s) (last_flat s))
    ∙ ap (λ z. length (front (last_hole s) ++ z)) (append-nil (last_white s)) ∙ length-append (front (last_hole s)) (last_white s)
