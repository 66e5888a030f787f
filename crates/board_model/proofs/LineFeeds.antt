-- Lines are counted by the line feeds before them.
use Rattle.std.proofs.Common.{◌≡◌, ◌+◌, ◌∙◌, ap, sym, arith, take, ℕ, suc, List}
use Rattle.std.specs.Prelude.{count_by, ◌==◌}
use Rattle.board_text.specs.Items.{line_of}

one_more : (n : ℕ) → 1 + n ≡ suc n
one_more n = omega arith

pub counted : (bytes : List ℕ) (place line : ℕ) → line ≡ line_of bytes place → line ≡ 1 + count_by (λ byte. byte == 10) (take place bytes)
unfolding line_of
counted bytes place line h = h ∙ sym (one_more (count_by (λ byte. byte == 10) (take place bytes)))

pub line_is : (bytes : List ℕ) (i place line : ℕ) → i ≡ place → line ≡ 1 + count_by (λ byte. byte == 10) (take i bytes) → line ≡ line_of bytes place
unfolding line_of
line_is bytes i place line e h = h ∙ ap (λ n. 1 + count_by (λ byte. byte == 10) (take n bytes)) e ∙ one_more (count_by (λ byte. byte == 10) (take place bytes))
