-- How a text is parted into lines and words.
use Rattle.std.proofs.Common.{◌≡◌, ◌∙◌, refl, ap, ℕ, ◌≤◌, Bool, true, false, cond, List, [], ◌∷◌, ◌++◌, filter, length, inl, inr, arith}
use Rattle.std.proofs.lemmas.List.Elements.{filter-append}
use Rattle.classes.specs.Classes.{IsOneOf}
use Rattle.edit_language.specs.Lines.{Word, onto_first, pieces, is_line_feed, is_blank, has_bytes, words_of}
use Rattle.edit_language.specs.Laws.{HasNone, LineEndLaw, LineLaw, WordEndLaw, WordLaw, NoWordLaw}

-- there is always a first piece
record HasFirst (xs : List (List ℕ)) : Type 0 where
  piece : List ℕ
  rest : List (List ℕ)
  is : xs ≡ piece ∷ rest

first_onto : (byte : ℕ) (xs : List (List ℕ)) → HasFirst (onto_first byte xs)
first_onto byte [] = record { piece = byte ∷ []; rest = []; is = refl }
first_onto byte (x ∷ xs) = record { piece = byte ∷ x; rest = xs; is = refl }

first_cond : (c : Bool) (byte : ℕ) (xs : List (List ℕ)) → HasFirst (cond c ([] ∷ xs) (onto_first byte xs))
first_cond true byte xs = record { piece = []; rest = xs; is = refl }
first_cond false byte xs = first_onto byte xs

first_piece : (test : ℕ → Bool) (bytes : List ℕ) → HasFirst (pieces test bytes)
unfolding pieces
first_piece test [] = record { piece = []; rest = []; is = refl }
first_piece test (byte ∷ bytes) = first_cond (test byte) byte (pieces test bytes)

onto_append : (byte : ℕ) (xs ys : List (List ℕ)) → HasFirst xs → onto_first byte (xs ++ ys) ≡ onto_first byte xs ++ ys
onto_append byte [] ys f = absurd (omega (arith, ap length f.is))
onto_append byte (x ∷ xs) ys f = refl

parted_cond : (c : Bool) (byte : ℕ) (xs ys zs : List (List ℕ)) → zs ≡ xs ++ ys → HasFirst xs
    → cond c ([] ∷ zs) (onto_first byte zs) ≡ cond c ([] ∷ xs) (onto_first byte xs) ++ ys
parted_cond true byte xs ys zs e f = ap (λ k. [] ∷ k) e
parted_cond false byte xs ys zs e f = ap (onto_first byte) e ∙ onto_append byte xs ys f

pub parted : (test : ℕ → Bool) (front behind : List ℕ) (byte : ℕ) → test byte ≡ true
    → pieces test (front ++ byte ∷ behind) ≡ pieces test front ++ pieces test behind
unfolding pieces
parted test [] behind byte h = ap (λ c. cond c ([] ∷ pieces test behind) (onto_first byte (pieces test behind))) h
parted test (b ∷ bs) behind byte h =
    parted_cond (test b) b (pieces test bs) (pieces test behind) (pieces test (bs ++ byte ∷ behind)) (parted test bs behind byte h) (first_piece test bs)

pub whole : (test : ℕ → Bool) (bytes : List ℕ) → HasNone test bytes → pieces test bytes ≡ bytes ∷ []
unfolding pieces IsOneOf
whole test [] h = refl
whole test (b ∷ bs) h =
    ap (λ c. cond c ([] ∷ pieces test bs) (onto_first b (pieces test bs))) (h b (inl refl)) ∙ ap (onto_first b) (whole test bs (λ x m. h x (inr m)))

pub line_end_law : LineEndLaw
line_end_law front behind = parted is_line_feed front behind 10 refl

pub line_law : LineLaw
line_law line h = whole is_line_feed line h

pub word_end_law : WordEndLaw
unfolding words_of
word_end_law front behind byte h =
    ap (filter has_bytes) (parted is_blank front behind byte h) ∙ filter-append has_bytes (pieces is_blank front) (pieces is_blank behind)

kept : (word : Word) → 1 ≤ length word → filter has_bytes (word ∷ []) ≡ word ∷ []
kept [] l = absurd (omega (arith, l))
kept (b ∷ bs) l = refl

pub word_law : WordLaw
unfolding words_of
word_law word l h = ap (filter has_bytes) (whole is_blank word h) ∙ kept word l

pub no_word_law : NoWordLaw
unfolding words_of pieces
no_word_law = refl
