use Rattle.std.proofs.Common.{◌≡◌, ◌∙◌, ◌++◌, [], ◌∷◌, ap, refl, length, cond, is_ok, true}
use Rattle.desk.proofs.Tables.{added_place}
use Rattle.desk.proofs.arena.add.Goals as goal

pub returns-clause-table : goal.returns-clause-table
returns-clause-table c =
    let pushed : is_ok c.push.result ≡ true = c.push.ensures.succeeds c.requires.names_fit in
    (added_place c.args.table.now.items c.args.bytes.now.items c.args.name.now c.args.contents.now c.push_all-2.new.all.items (record { name = length c.args.name.now; contents = length c.args.contents.now }) c.push.new.self.items c.requires.table
    (c.push_all-2.ensures.items ∙ ap (λ b. b ++ c.args.contents.now) (c.push_all.ensures.items ∙ ap (λ n. c.args.bytes.now.items ++ n) c.as_bytes.ensures.value))
    (c.push.ensures.items ∙ ap (λ b. cond b (c.args.table.now.items ++ record { name = length c.args.name.now; contents = length c.args.contents.now } ∷ []) c.args.table.now.items) pushed)
    refl refl).1

pub returns-clause-entries : goal.returns-clause-entries
returns-clause-entries c =
    let pushed : is_ok c.push.result ≡ true = c.push.ensures.succeeds c.requires.names_fit in
    (added_place c.args.table.now.items c.args.bytes.now.items c.args.name.now c.args.contents.now c.push_all-2.new.all.items (record { name = length c.args.name.now; contents = length c.args.contents.now }) c.push.new.self.items c.requires.table
    (c.push_all-2.ensures.items ∙ ap (λ b. b ++ c.args.contents.now) (c.push_all.ensures.items ∙ ap (λ n. c.args.bytes.now.items ++ n) c.as_bytes.ensures.value))
    (c.push.ensures.items ∙ ap (λ b. cond b (c.args.table.now.items ++ record { name = length c.args.name.now; contents = length c.args.contents.now } ∷ []) c.args.table.now.items) pushed)
    refl refl).0
