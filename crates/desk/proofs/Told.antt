-- What a caller over any desk says of what is told.
use Rattle.std.proofs.Common.{◌≡◌, ◌∙◌, ap, subst, Option, Some, IfSome}
use Rattle.std.specs.Option.{option_map}
use Rattle.desk.specs.Seen.{Seen, Changes}

-- a fact of what is told, where s is told
pub told : (P : Seen → Type 0) (o : Option Seen) (s : Seen) → o ≡ Some s → IfSome o P → P s
told P o s e h = let Q : Option Seen → Type 0 = λ x. IfSome x P in subst Q e h

-- what is told after a change
pub changed : (change : Seen → Seen) (old new : Option Seen) (s : Seen) → old ≡ Some s → Changes old new change → new ≡ Some (change s)
changed change old new s e h = h ∙ ap (option_map change) e
