use Rattle.std.proofs.Common.{arith, refl, to_z, of_z, w64}
use Rattle.std.proofs.lemmas.Int.{ints}
use Rattle.scan_runs.proofs.StripLaws.{strips_straight, strips_whole, strips_open, open_at}
use Rattle.scan_runs.proofs.strip.+strips.Goals as goal

pub returns-in-Some : goal.returns-in-Some
returns-in-Some t c =
    strips_straight _ _ c.args.octs.now c.in_ok-near.near.items c.args.top _ c.args.more c.in-Some.runs.items
    (record { top = to_z w64 (of_z w64 c.args.top); more = c.args.more; runs = c.in-Some.runs }) c.args.out.now.items c.add.new.out.items c.add.result
    (open_at c.args.octs.now c.in_ok-near.near.items c.args.top _ c.args.more (omega (arith, ints)) c.in_ok-near.ensures)
    (omega (arith, ints))
    (rw c.deref.ensures.value at (rw c.in-Some.is at c.in_ok-runs.ensures.some))
    (record {
      runs = (rw c.in-Some.is at c.in_ok-runs.ensures.some).small;
      top = record { low = omega (arith, ints); high = omega (arith, ints) };
      bottom = omega (arith, ints);
    })
    (omega (arith, ints)) refl refl c.add.ensures.none c.add.ensures.some

pub returns : goal.returns
returns t c =
    strips_open _ _ c.args.octs.now c.in_ok-near.near.items c.args.top _ c.args.more c.args.out.now.items c.strips-2.new.out.items c.strips-2.result (omega (arith, ints)) c.in_ok-near.ensures
    (strips_whole _ _ c.in_ok-near.near.items c.args.top _ _ c.args.more _ _ c.args.out.now.items c.strips.new.out.items c.strips-2.new.out.items c.strips-2.result
    (omega (arith, ints)) (omega (arith, ints)) (omega arith)
    (rw c.deref-3.ensures.value at c.in_ok-strips.ensures) (rw c.deref-4.ensures.value at c.strips-2.ensures))
