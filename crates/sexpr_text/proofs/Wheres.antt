-- Where a place lies in a text's tree is where a reader stands there.
use Rattle.std.proofs.Common.{◌≡◌, ℕ, ◌+◌, ◌-◌, ◌<◌, ◌≤◌, true, false, ◌&&◌, nat_lt, cond, List, ◌++◌, length, slice_index, take, refl, sym, ◌∙◌, ap, inl, inr, arith, length-append}
use Rattle.std.proofs.lemmas.List.{length-take-le}
use Rattle.sexpr_text.specs.Grammar.{Forest, Items, Spelt, IsWhite, IsWord, IsString, IsBracket, is_space, is_word}
use Rattle.sexpr_text.specs.Grammar.Forest.{Nil, Word, Text, Group}
use Rattle.sexpr_text.specs.Faults.{IsFront, Where, is_inside, where_among, where_in}
use Rattle.sexpr_text.specs.Faults.Where.{Before as TreeBefore, Inside as TreeInside, Quoted as TreeQuoted, Behind as TreeBehind}
use Rattle.sexpr_text.specs.Inner.Spot.{TextSpot, step, text_spot}
use Rattle.sexpr_text.specs.Inner.Spot.TextSpot.{Before, Inside, Quoted, Behind, Lost}
use Rattle.sexpr_text.proofs.Spots.{next, stays, space_before, space_behind, white_inside, word_over, word_inside, string_over, quoted_over, items_over, opened_some}
use Rattle.sexpr_text.proofs.Finish.{spot_local, spot_take}
use Rattle.sexpr_text.proofs.Numbers.{below_or_past}

-- a spot with room for so many lists lies in the others of the 64
abbrev pub where_of : TextSpot → Where
where_of Before = TreeBefore
where_of (Inside room) = TreeInside (64 - room)
where_of (Quoted room escaped) = TreeQuoted
where_of Behind = TreeBehind
where_of Lost = TreeBefore

not_below : (a b : ℕ) → b ≤ a → nat_lt a b ≡ false
not_below a b h = grind (arith, h)

is_below : (a b : ℕ) → a < b → nat_lt a b ≡ true
is_below a b h = grind (arith, h)

outside_before : (n from to : ℕ) → n ≤ from → is_inside n from to ≡ false
outside_before n from to h = ap (λ b. b && nat_lt n to) (not_below from n h)

outside_behind : (n from to : ℕ) → to ≤ n → from < to → is_inside n from to ≡ false
outside_behind n from to h o = ap (λ b. nat_lt from n && b) (not_below n to h) ∙ ap (λ b. b && false) (is_below from n (omega arith))

inside : (n from to : ℕ) → from < n → n < to → is_inside n from to ≡ true
inside n from to h k = ap (λ b. b && nat_lt n to) (is_below from n h) ∙ is_below n to k

-- a place before some items lies in none of them
early : (bytes : List ℕ) (room at end lists n : ℕ) (f : Forest) → Items bytes room at end f → n ≤ at → where_among lists n f ≡ TreeInside lists
early bytes room at end lists n Nil i h = refl
early bytes room at end lists n (Word from to rest) i h = early bytes room to end lists n rest i.2 (omega (arith, i.0.order, i.1.order))
early bytes room at end lists n (Text from to rest) i h =
    ap (λ b. cond b TreeQuoted (where_among lists n rest)) (outside_before n from to (omega (arith, i.0.order)))
    ∙ early bytes room to end lists n rest i.2 (omega (arith, i.0.order, i.1.order))
early bytes room at end lists n (Group from to inner rest) i h =
    ap (λ b. cond b (where_among (lists + 1) n inner) (where_among lists n rest)) (outside_before n from to (omega (arith, i.0.order)))
    ∙ early bytes room to end lists n rest i.3 (omega (arith, i.0.order, i.1.order))

shorter : (bytes : List ℕ) (at n end : ℕ) → IsWhite bytes at end → at ≤ n → n ≤ end → IsWhite bytes at n
shorter bytes at n end w h k = record { order = h; within = omega (arith, w.within); each = λ j low less. w.each j low (omega arith) }

-- in the white space before an item, and in a word
in_white : (bytes : List ℕ) (room at n end : ℕ) → IsWhite bytes at end → text_spot bytes at ≡ Inside room → at ≤ n → n ≤ end → where_of (text_spot bytes n) ≡ TreeInside (64 - room)
in_white bytes room at n end w s h k = ap where_of (white_inside bytes room at n (shorter bytes at n end w h k) s)

in_word : (bytes : List ℕ) (room from n to : ℕ) → IsWord bytes from to → text_spot bytes from ≡ Inside room → from ≤ n → n ≤ to → where_of (text_spot bytes n) ≡ TreeInside (64 - room)
in_word bytes room from n to w s h k = ap where_of (stays is_word (Inside room) (word_inside room) bytes from (n - from) n (omega arith) (λ j low less. w.each j low (omega arith)) s)

in_string : (bytes : List ℕ) (room from n to : ℕ) → IsString bytes from to → text_spot bytes from ≡ Inside room → from < n → n < to → where_of (text_spot bytes n) ≡ TreeQuoted
in_string bytes room from n to w s h k =
    let begun : text_spot bytes (from + 1) ≡ Quoted room false = next bytes from (from + 1) refl ∙ ap (λ t. step t (slice_index bytes from)) s ∙ ap (step (Inside room)) w.opening in
    ap where_of (quoted_over bytes room from to w begun (n - (from + 1)) n (omega arith) k)

-- behind a list's opening parenthesis, and behind its closing one
in_list : (bytes : List ℕ) (room from to : ℕ) → IsBracket bytes room from to → text_spot bytes from ≡ Inside room → text_spot bytes (from + 1) ≡ Inside (room - 1)
in_list bytes room from to b s = next bytes from (from + 1) refl ∙ ap (λ t. step t (slice_index bytes from)) s ∙ ap (step (Inside room)) b.opening ∙ opened_some room b.deep

after_list : (bytes : List ℕ) (room from to : ℕ) (inner : Forest) → room < 64 → IsBracket bytes room from to → Items bytes (room - 1) (from + 1) (to - 1) inner → text_spot bytes from ≡ Inside room → text_spot bytes to ≡ Inside room
after_list bytes room from to inner low b i s = items_over bytes room from to (Group from to inner Nil) low (white_here, b, i, white_there) s
  where
    white_here : IsWhite bytes from from
    white_here = record { order = omega arith; within = omega (arith, b.order, b.within); each = λ k p q. absurd (omega arith) }

    white_there : IsWhite bytes to to
    white_there = record { order = omega arith; within = b.within; each = λ k p q. absurd (omega arith) }

among : (bytes : List ℕ) (room at end n : ℕ) (f : Forest) → room < 64 → Items bytes room at end f → text_spot bytes at ≡ Inside room → at ≤ n → n ≤ end → where_of (text_spot bytes n) ≡ where_among (64 - room) n f
among bytes room at end n Nil low i s h k = in_white bytes room at n end i s h k
among bytes room at end n (Word from to rest) low i s h k =
    elim (below_or_past n to) [
      | inl less ↦
          let e : where_of (text_spot bytes n) ≡ TreeInside (64 - room) = elim (below_or_past n from) [
            | inl before ↦ in_white bytes room at n from i.0 s h (omega arith)
            | inr past ↦ in_word bytes room from n to i.1 (white_inside bytes room at from i.0 s) past (omega arith)
          ] in
          e ∙ sym (early bytes room to end (64 - room) n rest i.2 (omega arith))
      | inr past ↦ among bytes room to end n rest low i.2 (word_over bytes room from to i.1 (white_inside bytes room at from i.0 s)) past k
    ]
among bytes room at end n (Text from to rest) low i s h k =
    elim (below_or_past n to) [
      | inl less ↦ elim (below_or_past from n) [
        | inl inner ↦ in_string bytes room from n to i.1 (white_inside bytes room at from i.0 s) inner less
            ∙ sym (ap (λ b. cond b TreeQuoted (where_among (64 - room) n rest)) (inside n from to inner less))
        | inr past ↦ in_white bytes room at n from i.0 s h past
            ∙ sym (ap (λ b. cond b TreeQuoted (where_among (64 - room) n rest)) (outside_before n from to past) ∙ early bytes room to end (64 - room) n rest i.2 (omega (arith, i.1.order)))
      ]
      | inr past ↦ among bytes room to end n rest low i.2 (string_over bytes room from to i.1 (white_inside bytes room at from i.0 s)) past k
          ∙ sym (ap (λ b. cond b TreeQuoted (where_among (64 - room) n rest)) (outside_behind n from to past (omega (arith, i.1.order))))
    ]
among bytes room at end n (Group from to inner rest) low i s h k =
    elim (below_or_past n to) [
      | inl less ↦ elim (below_or_past from n) [
        | inl within ↦ among bytes (room - 1) (from + 1) (to - 1) n inner (omega arith) i.2 (in_list bytes room from to i.1 (white_inside bytes room at from i.0 s)) (omega arith) (omega arith)
            ∙ ap (λ lists. where_among lists n inner) (deeper i.1.deep) ∙ sym (ap (λ b. cond b (where_among (64 - room + 1) n inner) (where_among (64 - room) n rest)) (inside n from to within less))
        | inr past ↦ in_white bytes room at n from i.0 s h past
            ∙ sym (ap (λ b. cond b (where_among (64 - room + 1) n inner) (where_among (64 - room) n rest)) (outside_before n from to past) ∙ early bytes room to end (64 - room) n rest i.3 (omega (arith, i.1.order)))
      ]
      | inr past ↦ among bytes room to end n rest low i.3 (after_list bytes room from to inner low i.1 i.2 (white_inside bytes room at from i.0 s)) past k
          ∙ sym (ap (λ b. cond b (where_among (64 - room + 1) n inner) (where_among (64 - room) n rest)) (outside_behind n from to past (omega (arith, i.1.order))))
    ]
  where
    deeper : 0 < room → 64 - (room - 1) ≡ 64 - room + 1
    deeper d = omega arith

-- the part of a tree's own text where a place lies is the spot there
pub where_spelt : (bytes : List ℕ) (tree : Forest) (n : ℕ) → Spelt bytes tree → n ≤ length bytes → where_of (text_spot bytes n) ≡ where_in n tree
where_spelt bytes (Group from to inner Nil) n t h =
    elim (below_or_past from n) [
      | inr before ↦ ap where_of (stays is_space Before space_before bytes 0 n n (omega arith) (λ j low less. i.0.each j low (omega arith)) refl)
          ∙ sym (ap (λ b. cond b (cond (nat_lt n to) (where_among 1 n inner) TreeBehind) TreeBefore) (not_below from n before))
      | inl past ↦ elim (below_or_past n to) [
        | inl within ↦ among bytes 63 (from + 1) (to - 1) n inner (omega arith) i.2 opened_spot (omega arith) (omega arith)
            ∙ sym (ap (λ b. cond b (cond (nat_lt n to) (where_among 1 n inner) TreeBehind) TreeBefore) (is_below from n past)
            ∙ ap (λ b. cond b (where_among 1 n inner) TreeBehind) (is_below n to within))
        | inr behind ↦ ap where_of (stays is_space Behind space_behind bytes to (n - to) n (omega arith) (λ j low less. i.3.each j low (omega arith)) closed_spot)
            ∙ sym (ap (λ b. cond b (cond (nat_lt n to) (where_among 1 n inner) TreeBehind) TreeBefore) (is_below from n past)
            ∙ ap (λ b. cond b (where_among 1 n inner) TreeBehind) (not_below n to behind))
      ]
    ]
  where
    i : Items bytes 64 0 (length bytes) (Group from to inner Nil)
    i = t.items

    start_spot : text_spot bytes from ≡ Before
    start_spot = stays is_space Before space_before bytes 0 from from (omega arith) i.0.each refl

    opened_spot : text_spot bytes (from + 1) ≡ Inside 63
    opened_spot = next bytes from (from + 1) refl ∙ ap (λ t. step t (slice_index bytes from)) start_spot ∙ ap (step Before) i.1.opening

    closed_spot : text_spot bytes to ≡ Behind
    closed_spot =
        let e : text_spot bytes (to - 1) ≡ Inside 63 = items_over bytes 63 (from + 1) (to - 1) inner (omega arith) i.2 opened_spot in
        next bytes (to - 1) to (omega (arith, i.1.order)) ∙ ap (λ t. step t (slice_index bytes (to - 1))) e ∙ ap (step (Inside 63)) i.1.closing
where_spelt bytes tree n t h = absurd t.list

-- so it is the same in every text that begins as this one
pub where_front : (bytes : List ℕ) (n : ℕ) (f : IsFront bytes n) → where_of (text_spot bytes n) ≡ where_in n f.tree
where_front bytes n f =
    let l : length (take n bytes) ≡ n = length-take-le n bytes f.within in
    let m : length (take n bytes ++ f.more) ≡ length (take n bytes) + length f.more = length-append (take n bytes) f.more in
    let e : text_spot (take n bytes ++ f.more) n ≡ text_spot bytes n = spot_local (take n bytes) f.more n (omega arith) ∙ spot_take bytes n f.within in
    ap where_of (sym e) ∙ where_spelt (take n bytes ++ f.more) f.tree n f.spelt (omega arith)
