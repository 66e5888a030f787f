-- Directions are below eight, and turning tells them apart.
use Rattle.std.proofs.Common.{◌≡◌, sym, ◌∙◌, ℕ, ◌<◌, arith, List}
use Rattle.plane.specs.Covering.{Edge}
use Rattle.rings.specs.Turning.{direction, turn_to}
use Rattle.rings.proofs.Lists.{Has, has_of}
use Rattle.rings.proofs.Lines.{direction_low}
use Rattle.rings.proofs.Walks.{HasOneNext}

turn_tells : (e : Edge) (c d : ℕ) → c < 8 → d < 8 → turn_to e c ≡ turn_to e d → c ≡ d
unfolding turn_to
turn_tells e c d h k t = let l = direction_low e in omega (arith, l, h, k, t)

-- no two edges that begin at one corner go in one direction
unfoldable pub AreApart : List Edge → Type 0
AreApart es = (e f : Edge) → Has es e → Has es f → e.start ≡ f.start → direction e ≡ direction f → e ≡ f

pub one_next : (es : List Edge) → AreApart es → HasOneNext es
unfolding HasOneNext AreApart
one_next es a e f g p q =
    a f g (has_of es f p.one) (has_of es g q.one) (p.joins ∙ sym q.joins)
    (turn_tells e (direction f) (direction g) (direction_low f) (direction_low g)
    (let u = p.first g q.one q.joins in let v = q.first f p.one p.joins in omega (arith, u, v)))
