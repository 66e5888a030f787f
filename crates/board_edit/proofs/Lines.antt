-- The pieces of a text are those that a split gives; the first line ends at the first line feed.
use Rattle.std.proofs.Common.{◌≡◌, ◌∙◌, refl, ap, sym, ℕ, suc, ◌+◌, ◌-◌, ◌<◌, ◌≤◌, Bool, true, false, cond, not, List, [], ◌∷◌, filter, length, take, drop, arith}
use Rattle.std.specs.List.{slice_split, position_or_len}
use Rattle.std.specs.List as lists
use Rattle.std.proofs.lemmas.List.Splits.{slice_split_first}
use Rattle.std.proofs.Math.Seq.{take-length}
use Rattle.std.proofs.lemmas.List.{length-drop}
use Rattle.edit_language.specs.Lines.{onto_first, pieces, is_line_feed, is_blank, has_bytes, words_of}

same_onto : (byte : ℕ) (parts : List (List ℕ)) → onto_first byte parts ≡ lists.onto_first byte parts
same_onto byte [] = refl
same_onto byte (part ∷ parts) = refl

pub same_pieces : (p : ℕ → Bool) (xs : List ℕ) → pieces p xs ≡ slice_split p xs
unfolding pieces
same_pieces p [] = refl
same_pieces p (x ∷ xs) =
    ap (λ k. cond (p x) ([] ∷ k) (onto_first x k)) (same_pieces p xs) ∙ ap (cond (p x) ([] ∷ slice_split p xs)) (same_onto x (slice_split p xs))

-- the words of a line, as a chain of iterators gives them
pub word_list : (line : List ℕ) → filter has_bytes (slice_split is_blank line) ≡ words_of line
unfolding words_of
word_list line = ap (filter has_bytes) (sym (same_pieces is_blank line))

-- what a slice behind a place shows
behind_all : (text : List ℕ) (n : ℕ) → take (length text - n) (drop n text) ≡ drop n text
behind_all text n = ap (λ k. take k (drop n text)) (sym (length-drop n text)) ∙ take-length (drop n text)

-- the first line ends before the first line feed
pub first : (text : List ℕ) (end : ℕ) → end ≡ position_or_len is_line_feed text → end < length text
    → pieces is_line_feed text ≡ take end text ∷ pieces is_line_feed (take (length text - (end + 1)) (drop (end + 1) text))
first text end e l =
    let at : position_or_len is_line_feed text < length text = omega (arith, e, l) in
    same_pieces is_line_feed text
    ∙ slice_split_first is_line_feed text 0 at
    ∙ ap (λ n. take n text ∷ slice_split is_line_feed (drop (n + 1) text)) (sym e)
    ∙ ap (λ k. take end text ∷ k) (sym (same_pieces is_line_feed (drop (end + 1) text)))
    ∙ ap (λ k. take end text ∷ pieces is_line_feed k) (sym (behind_all text (end + 1)))

byte_by : (p : ℕ → Bool) (x : ℕ) (xs : List ℕ) (b : Bool) → suc (length xs) ≤ cond (not b) (1 + position_or_len p xs) 0
    → (length xs ≤ position_or_len p xs → pieces p xs ≡ xs ∷ []) → cond b ([] ∷ pieces p xs) (onto_first x (pieces p xs)) ≡ (x ∷ xs) ∷ []
byte_by p x xs true l ih = absurd (omega (arith, l))
byte_by p x xs false l ih = ap (onto_first x) (ih (omega (arith, l)))

no_end : (p : ℕ → Bool) (xs : List ℕ) → length xs ≤ position_or_len p xs → pieces p xs ≡ xs ∷ []
unfolding pieces
no_end p [] l = refl
no_end p (x ∷ xs) l = byte_by p x xs (p x) l (no_end p xs)

-- a text without a line feed is one line
pub last : (text : List ℕ) (end : ℕ) → end ≡ position_or_len is_line_feed text → length text ≤ end → pieces is_line_feed text ≡ text ∷ []
last text end e l = no_end is_line_feed text (omega (arith, e, l))
