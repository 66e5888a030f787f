use Rattle.desk.proofs.Entries.{replaced_entry}
use Rattle.desk.proofs.folder.replace_file.Goals as goal

pub returns : goal.returns
returns c = replaced_entry c.args.files.now.items c.args.at c.index_mut.result.now c.replace.new.file c.args.bytes.items c.requires c.index_mut.ensures.value c.replace.ensures
