use Rattle.std.proofs.Common.{arith, ◌≡◌, [], map, sym, ◌∙◌, ap, subst}
use Rattle.std.specs.String.{string_bytes}
use Rattle.run_rules.specs.Leaves.{NeedsRoom}
use Rattle.top_call.specs.Today.{today}
use Rattle.run_table.proofs.NoWords.{no_words}
use Rattle.run_table.proofs.reserved.unworded_shown.Goals as goal

-- the room is 256
pub end_by_one-ended-requires-clause-room : goal.end_by_one-ended-requires-clause-room
end_by_one-ended-requires-clause-room c r s same told =
    let items = c.new-words.ensures.items in
    let now = c.deref.ensures.value in
    let empty : c.deref.result.now ≡ [] = now ∙ items in
    let none : map string_bytes c.deref.result.now ≡ [] = ap (λ w. map string_bytes w) empty in
    let has : c.in_ok-desk.desk.room ≡ r = cc in
    let room : c.in_ok-desk.desk.room ≡ 256 = ap (λ d. d.room) c.in_ok-desk.ensures in
    subst (λ words. NeedsRoom today words s r) (sym none) (no_words s r (omega (arith, has, room)))
