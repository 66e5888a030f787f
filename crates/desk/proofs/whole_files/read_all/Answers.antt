use Rattle.std.proofs.Common.{arith, ◌∙◌}
use Rattle.desk.specs.Seen.{content, Gives}
use Rattle.desk.proofs.Told.{told}
use Rattle.desk.proofs.Loops.{reads_more}
use Rattle.desk.proofs.whole_files.read_all.Goals as goal

pub reads-preserved : goal.reads-preserved
reads-preserved g c = record {
  piece = omega arith;
  so_far = λ s e. reads_more (content c.args.name.now s) c.reads.all.items c.extend_from_slice.new.self.items c.read_at.new.into c.len-from.result c.in_ok-count.count
      (omega (arith, c.len-from.ensures, c.reads.all.ok)) (c.reads.invariant.so_far s e)
      (told (λ t. Gives (content c.args.name.now t) c.len-from.result c.read_at.new.into c.in_ok-count.count) _ s (c.reads.invariant.seen ∙ e) c.in_ok-count.ensures.bytes)
      c.in_ok-extend_from_slice.ensures.items;
  seen = c.in_ok-count.ensures.seen ∙ c.reads.invariant.seen;
  room = c.in_ok-count.ensures.room ∙ c.reads.invariant.room;
  later = omega (arith, c.reads.invariant.later, c.in_ok-count.ensures.cause.later);
  others = (c.in_ok-count.ensures.others.0 ∙ c.reads.invariant.others.0, c.in_ok-count.ensures.others.1 ∙ c.reads.invariant.others.1, c.in_ok-count.ensures.others.2 ∙ c.reads.invariant.others.2);
}
