use Rattle.std.proofs.Common.{◌∙◌, ap, arith}
use Rattle.grid_num.specs.Length.{with_sign}
use Rattle.std.proofs.lemmas.Bool.{iff_false}
use Rattle.grid_num.proofs.Meanings.{fault_or_length, no_length}
use Rattle.grid_num.specs.declared.read.NumFault.TheVariants.{NotANumber}
use Rattle.grid_num.proofs.read.read_mm.Goals as goal

pub returns-in_default-clause-none : goal.returns-in_default-clause-none
returns-in_default-clause-none c = λ nm l. fault_or_length c.args.text.now NotANumber nm c.in_default.ensures.none l

pub returns-then-not-is_whole_nm-clause-none : goal.returns-then-not-is_whole_nm-clause-none
returns-then-not-is_whole_nm-clause-none c = λ nm l.
    no_length c.args.text.now _ _ _ nm c.in-Some.ensures.found (λ fine range. iff_false c.is_whole_nm.ensures c.if-not-is_whole_nm.true fine) l

pub returns-then-magnitude-gt-MOST-clause-fault : goal.returns-then-magnitude-gt-MOST-clause-fault
returns-then-magnitude-gt-MOST-clause-fault c = record {
  negative = c.in-Some.parts.negative;
  whole = c.in-Some.parts.whole.now;
  fraction = c.in-Some.parts.fraction.now;
  spelling = c.in-Some.ensures.found;
  fine = c.is_whole_nm.ensures.0 c.if-not-is_whole_nm.false;
  beyond = omega (arith, c.magnitude-magnitude.ensures);
}

pub returns-then-magnitude-gt-MOST-clause-none : goal.returns-then-magnitude-gt-MOST-clause-none
returns-then-magnitude-gt-MOST-clause-none c = λ nm l.
    no_length c.args.text.now _ _ _ nm c.in-Some.ensures.found (λ fine range. omega (arith, range, c.magnitude-magnitude.ensures)) l

pub returns-clause-found : goal.returns-clause-found
returns-clause-found c = record {
  negative = c.in-Some.parts.negative;
  whole = c.in-Some.parts.whole.now;
  fraction = c.in-Some.parts.fraction.now;
  spelling = c.in-Some.ensures.found;
  fine = c.is_whole_nm.ensures.0 c.if-not-is_whole_nm.false;
  range = omega (arith, c.magnitude-magnitude.ensures);
  value = c.signed.ensures ∙ ap (λ n. with_sign c.in-Some.parts.negative n) (omega (arith, c.magnitude-magnitude.ensures));
}
