-- The steps of the loops, over plain values.
use Rattle.std.proofs.Common.{◌≡◌, ℕ, ◌+◌, ◌≤◌, List, ◌++◌, length, take, drop, sym, ◌∙◌, ap, subst, arith, length-append, length-take, length-drop, take-add, append_assoc}
use Rattle.desk.specs.Seen.{Seen, Gives, with_file, appended, with_said, with_complained}
use Rattle.desk.proofs.Files.{appended-with_file}

-- what was read is longer by a piece
pub reads_more : (bytes all new piece : List ℕ) (from n : ℕ) → from ≡ length all → (all ≡ take (length all) bytes) × (length all ≤ length bytes) → Gives bytes from piece n → new ≡ all ++ take n piece → (new ≡ take (length new) bytes) × (length new ≤ length bytes)
reads_more bytes all new piece from n f h given e =
    let g : Gives bytes (length all) piece n = subst (λ k. Gives bytes k piece n) f given in
    let m : length (take n (drop (length all) bytes)) ≡ n = omega (arith, length-take n (drop (length all) bytes), g.fits) in
    let long : length new ≡ length all + n = ap length e ∙ length-append all (take n piece) ∙ ap (λ xs. length all + length xs) g.same ∙ ap (λ k. length all + k) m in
    let grown : take (length all + n) bytes ≡ new = take-add (length all) n bytes ∙ ap (λ xs. xs ++ take n (drop (length all) bytes)) (sym h.0) ∙ ap (λ xs. all ++ xs) (sym g.same) ∙ sym e in
    let room : length (drop (length all) bytes) + length all ≡ length bytes = omega (arith, length-drop (length all) bytes, h.1) in
    (sym (ap (λ k. take k bytes) long ∙ grown), omega (arith, g.fits))

-- a piece went out
pub writes_more : (name bytes piece : List ℕ) (given n : ℕ) (s : Seen) → take n piece ≡ take n (drop given bytes) → appended name (take n piece) (with_file name (take given bytes) s) ≡ with_file name (take (given + n) bytes) s
writes_more name bytes piece given n s p =
    appended-with_file name (take given bytes) (take n piece) s
    ∙ ap (λ xs. with_file name (take given bytes ++ xs) s) p
    ∙ ap (λ xs. with_file name xs s) (sym (take-add given n bytes))

-- a piece was said
pub says_more : (bytes piece : List ℕ) (given n : ℕ) (s : Seen) → take n piece ≡ take n (drop given bytes) → with_said (take n piece) (with_said (take given bytes) s) ≡ with_said (take (given + n) bytes) s
says_more bytes piece given n s p =
    ap (λ xs. record { files = s.files; said = xs; complained = s.complained })
    (append_assoc s.said (take given bytes) (take n piece) ∙ ap (λ xs. s.said ++ xs) (ap (λ xs. take given bytes ++ xs) p ∙ sym (take-add given n bytes)))

-- a piece was complained
pub complains_more : (bytes piece : List ℕ) (given n : ℕ) (s : Seen) → take n piece ≡ take n (drop given bytes) → with_complained (take n piece) (with_complained (take given bytes) s) ≡ with_complained (take (given + n) bytes) s
complains_more bytes piece given n s p =
    ap (λ xs. record { files = s.files; said = s.said; complained = xs })
    (append_assoc s.complained (take given bytes) (take n piece) ∙ ap (λ xs. s.complained ++ xs) (ap (λ xs. take given bytes ++ xs) p ∙ sym (take-add given n bytes)))
