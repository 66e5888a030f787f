-- What is left where a file is cut.
use Rattle.std.proofs.Common.{◌≡◌, refl, inl, inr, ℕ, ◌<◌, arith, take, length, List, Option, Some}
use Rattle.std.specs.Prelude.{Result, Ok, Err, IfErr}
use Rattle.desk.specs.Seen.{Seen, with_file}
use Rattle.desk.specs.Whole.{IsCut}
use Rattle.run_rules.specs.Due.{File}
use Rattle.run_rules.specs.Leaves.{IsCutShort}

pub cut_short : (file : Option File) (name bytes : List ℕ) (given : ℕ) (s : Seen) (new : Option Seen) → file ≡ Some (record { name = name; bytes = bytes }) → 0 < length bytes → IsCut name bytes given s new
    → (cut : File) × (t : Seen) × (file ≡ Some cut) × IsCutShort cut given s t × (new ≡ Some t)
cut_short file name bytes given s new e some (inl none) = (record { name = name; bytes = bytes }, s, e, (omega (arith, none.0, some), inl (none.0, refl)), none.1)
cut_short file name bytes given s new e some (inr part) = (record { name = name; bytes = bytes }, with_file name (take given bytes) s, e, (part.0, inr refl), part.1)

-- what follows from an error's clause
pub weaker_err : {T E : Type 0} (P Q : E → Type 0) (r : Result T E) → ((e : E) → P e → Q e) → IfErr r P → IfErr r Q
weaker_err P Q (Ok x) f h = tt
weaker_err P Q (Err e) f h = f e h
