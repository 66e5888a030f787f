-- The steps of the loops, over plain values.
use Rattle.std.proofs.Common.{◌≡◌, ℕ, ◌+◌, List, ◌++◌, take, drop, sym, ◌∙◌, ap, take-add, append_assoc}
use Rattle.desk.specs.Seen.{Seen, with_said}

-- a piece was said
pub says_more : (bytes : List ℕ) (given n : ℕ) (s : Seen) → with_said (take n (drop given bytes)) (with_said (take given bytes) s) ≡ with_said (take (given + n) bytes) s
says_more bytes given n s =
    ap (λ xs. record { files = s.files; said = xs; complained = s.complained })
    (append_assoc s.said (take given bytes) (take n (drop given bytes)) ∙ ap (λ xs. s.said ++ xs) (sym (take-add given n bytes)))
