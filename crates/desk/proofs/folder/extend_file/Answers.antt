use Rattle.std.proofs.lemmas.Result.{on_ok_weaker, on_err_weaker}
use Rattle.desk.proofs.Entries.{extended_entry, same_entry}
use Rattle.desk.proofs.folder.extend_file.Goals as goal

pub returns-clause-ok : goal.returns-clause-ok
returns-clause-ok c = on_ok_weaker c.extend.result (extended_entry c.args.files.now.items c.args.at c.index_mut.result.now c.extend.new.file c.args.bytes.now c.requires c.index_mut.ensures.value) c.extend.ensures.ok

pub returns-clause-err : goal.returns-clause-err
returns-clause-err c = on_err_weaker c.extend.result (same_entry c.args.files.now.items c.args.at c.index_mut.result.now c.extend.new.file c.index_mut.ensures.value) c.extend.ensures.err
