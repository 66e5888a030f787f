-- Pieces that are read.
use Rattle.std.proofs.Common.{◌≡◌, ℕ, ◌-◌, ◌<◌, ◌≤◌, min, List, ◌++◌, length, take, drop, ◌∙◌, ap, arith, length-take, length-drop}
use Rattle.std.proofs.lemmas.List.{take-append-le, take_all}
use Rattle.desk.specs.Seen.{Gives}

-- a read that gives the least of the step, the piece's length and the bytes that are left
pub gives_least : (bytes old new : List ℕ) (from step n : ℕ) → 0 < step → 0 < length old → n ≡ min (min step (length old)) (length bytes - from) → new ≡ take n (drop from bytes) ++ drop n old → Gives bytes from new n
gives_least bytes old new from step n some room least filled =
    let fits : n ≤ length (drop from bytes) = omega (arith, length-drop from bytes) in
    let long : length (take n (drop from bytes)) ≡ n = omega (arith, length-take n (drop from bytes)) in
    record {
      same = ap (take n) filled ∙ take-append-le n (take n (drop from bytes)) (drop n old) (omega arith) ∙ take_all n (take n (drop from bytes)) (omega arith);
      fits = fits;
      more = λ none. omega arith;
    }
