-- Readiness over slots.
use Rattle.std.proofs.Common.{◌≡◌, sym, ◌∙◌, ap, ℕ, ◌<◌, arith, List, [], length, get_or}
use Rattle.std.specs.Prelude.{map, ◌↔◌, IsTrue, Bool}
use Rattle.std.specs.List.{All}
use Rattle.std.proofs.lemmas.List.{get_or-map}
use Rattle.pool_rules.specs.declared.Slot.{Slot}
use Rattle.pool_rules.specs.declared.Slot.TheVariants.{Waiting, Finished}
use Rattle.pool_rules.proofs.Runs.{waiting_within}
use Rattle.fill_pool.specs.Inner.Slots.{IsReadyRow}

pub ready_by : {X : Type 0} (f : X → List ℕ) (table : List X) (slots : List Slot) (i : ℕ) (x : X) → length table ≡ length slots
    → x ≡ get_or table i x → get_or slots i Finished ≡ Waiting → (r : Bool)
    → (IsTrue r ↔ All (λ (j : ℕ). get_or slots j Finished ≡ Finished) (f x)) → IsTrue r ↔ IsReadyRow (map f table) slots i
ready_by f table slots i x e is w r h =
    let l : i < length slots = waiting_within slots i w in
    let row : get_or (map f table) i [] ≡ f x = get_or-map f table i x [] (omega arith) ∙ ap f (sym is) in (
      λ t. record { waiting = w; done = rw row (h.0 t) },
      λ q. h.1 (rw row at q.done),
    )
