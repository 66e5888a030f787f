-- The place behind the last byte of a spelling that isn't white space.
use Rattle.std.proofs.Common.{◌≡◌, ◌∙◌, refl, ap, sym, subst, ℕ, zero, suc, ◌+◌, ◌-◌, ◌<◌, ◌≤◌, true, false, List, [], ◌∷◌, ◌++◌, length, slice_index, arith, append-nil, append_assoc, length-append}
use Rattle.std.specs.List.{list_all}
use Rattle.std.proofs.lemmas.Bool.{and_parts}
use Rattle.sexpr_text.specs.Grammar.{is_space, is_word}
use Rattle.board_text.specs.Items.{solid_end}
use Rattle.board_text.proofs.Solid.{white, solid}
use Rattle.text_shapes.specs.Spellings.{Spelling, spelt_bytes, IsTextSpelling}
use Rattle.text_shapes.specs.Spellings.Spelling.{Ends, Named, Strung, Nested}
use Rattle.text_shapes.proofs.Layouts.{holds_mid, next_byte}
use Rattle.edit_changes.proofs.Holes.{front, last_hole}

-- the last byte isn't white space
pub record EndsSolid (bytes : List ℕ) : Type 0 where
  pub before : List ℕ
  pub byte : ℕ
  pub is : bytes ≡ before ++ byte ∷ []
  pub solid : is_space byte ≡ false

word_solid : (c : ℕ) → is_word c ≡ true → is_space c ≡ false
word_solid c h = grind arith

behind_other : (xs ys : List ℕ) → EndsSolid ys → EndsSolid (xs ++ ys)
behind_other xs ys s = record { before = xs ++ s.before; byte = s.byte; is = ap (λ z. xs ++ z) s.is ∙ sym (append_assoc xs s.before (s.byte ∷ [])); solid = s.solid }

word_ends : (t : List ℕ) → 0 < length t → list_all is_word t ≡ true → EndsSolid t
word_ends [] l h = absurd (omega (arith, l))
word_ends (c ∷ []) l h = record { before = []; byte = c; is = refl; solid = word_solid c (and_parts (is_word c) true h).0 }
word_ends (c ∷ d ∷ t) l h = behind_other (c ∷ []) (d ∷ t) (word_ends (d ∷ t) (omega arith) (and_parts (is_word c) (list_all is_word (d ∷ t)) h).1)

byte_ends : (xs : List ℕ) (c : ℕ) → is_space c ≡ false → EndsSolid (xs ++ c ∷ [])
byte_ends xs c h = record { before = xs; byte = c; is = refl; solid = h }

-- before the last white space of a spelling that stands behind such a byte
pub last_solid : (s : Spelling) (room : ℕ) (pre : List ℕ) → IsTextSpelling room s → EndsSolid pre → EndsSolid (pre ++ front (last_hole s))
last_solid (Ends w) room pre g e = subst EndsSolid (sym (append-nil pre)) e
last_solid (Named w t rest) room pre g e =
    subst EndsSolid (append_assoc pre (w ++ t) (front (last_hole rest)) ∙ ap (λ z. pre ++ z) (append_assoc w t (front (last_hole rest))))
    (last_solid rest room (pre ++ (w ++ t)) g.4 (behind_other pre (w ++ t) (behind_other w t (word_ends t g.1 g.2))))
last_solid (Strung w t rest) room pre g e =
    subst EndsSolid
    (append_assoc pre (w ++ 34 ∷ (t ++ 34 ∷ [])) (front (last_hole rest))
    ∙ ap (λ z. pre ++ z) (append_assoc w (34 ∷ (t ++ 34 ∷ [])) (front (last_hole rest)) ∙ ap (λ z. w ++ 34 ∷ z) (append_assoc t (34 ∷ []) (front (last_hole rest)))))
    (last_solid rest room (pre ++ (w ++ 34 ∷ (t ++ 34 ∷ []))) g.2 (behind_other pre (w ++ 34 ∷ (t ++ 34 ∷ [])) (behind_other w (34 ∷ (t ++ 34 ∷ [])) (byte_ends (34 ∷ t) 34 refl))))
last_solid (Nested w inner rest) room pre g e =
    subst EndsSolid
    (append_assoc pre (w ++ 40 ∷ (spelt_bytes inner ++ 41 ∷ [])) (front (last_hole rest))
    ∙ ap (λ z. pre ++ z) (append_assoc w (40 ∷ (spelt_bytes inner ++ 41 ∷ [])) (front (last_hole rest)) ∙ ap (λ z. w ++ 40 ∷ z) (append_assoc (spelt_bytes inner) (41 ∷ []) (front (last_hole rest)))))
    (last_solid rest room (pre ++ (w ++ 40 ∷ (spelt_bytes inner ++ 41 ∷ []))) g.3
    (behind_other pre (w ++ 40 ∷ (spelt_bytes inner ++ 41 ∷ [])) (behind_other w (40 ∷ (spelt_bytes inner ++ 41 ∷ [])) (byte_ends (40 ∷ spelt_bytes inner) 41 refl))))

pub opened_solid : (pre : List ℕ) → EndsSolid (pre ++ 40 ∷ [])
opened_solid pre = byte_ends pre 40 refl

-- ---- the place

solid_there : (bytes front back : List ℕ) (at : ℕ) → bytes ≡ front ++ back → length front ≡ at → EndsSolid front → (1 ≤ at) × (is_space (slice_index bytes (at - 1)) ≡ false)
solid_there bytes front back at e l s =
    let n : length front ≡ length s.before + 1 = ap length s.is ∙ length-append s.before (s.byte ∷ []) in
    let b : length s.before ≡ at - 1 = omega (arith, n, l) in (
      omega (arith, n, l),
      ap is_space (next_byte bytes s.before back s.byte (at - 1) (e ∙ ap (λ z. z ++ back) s.is ∙ append_assoc s.before (s.byte ∷ []) back) b) ∙ s.solid,
    )

white_end : (bytes : List ℕ) (at k n : ℕ) → k ≤ n → 1 ≤ at → is_space (slice_index bytes (at - 1)) ≡ false → ((i : ℕ) → at ≤ i → i < at + n → is_space (slice_index bytes i) ≡ true) → solid_end bytes (at + k) ≡ at
white_end bytes at zero n l some s h =
    let e : at + 0 ≡ at = omega arith in
    ap (solid_end bytes) e ∙ sym (solid bytes at some s)
white_end bytes at (suc k) n l some s h =
    let e : at + suc k - 1 ≡ at + k = omega arith in
    sym (white bytes (at + suc k) (omega arith) (ap (λ i. is_space (slice_index bytes i)) e ∙ h (at + k) (omega arith) (omega (arith, l))))
    ∙ ap (solid_end bytes) e ∙ white_end bytes at k n (omega (arith, l)) some s h

-- behind a front with such a byte at its end, and before white space
pub solid_is : (bytes front w back : List ℕ) (at : ℕ) → bytes ≡ front ++ (w ++ back) → length front ≡ at → EndsSolid front → list_all is_space w ≡ true → solid_end bytes (at + length w) ≡ at
solid_is bytes front w back at e l s h =
    let t = solid_there bytes front (w ++ back) at e l s in
    white_end bytes at (length w) (length w) (omega arith) t.0 t.1 (holds_mid is_space bytes front w back at (at + length w) e l refl h)
