use Rattle.std.proofs.Common.{arith}
use Rattle.std.proofs.lemmas.Bool.{iff_false}
use Rattle.grid_num.proofs.Areas.{fault_or_area, no_area, beyond_of, none_within}
use Rattle.grid_num.specs.declared.read.NumFault.TheVariants.{NotANumber}
use Rattle.grid_num.proofs.area.read_area.Goals as goal

pub returns-in_default-clause-none : goal.returns-in_default-clause-none
returns-in_default-clause-none c = λ area l. fault_or_area c.args.text.now NotANumber area c.in_default.ensures.none l

pub returns-then-not-is_whole_nm-clause-none : goal.returns-then-not-is_whole_nm-clause-none
returns-then-not-is_whole_nm-clause-none c = λ area l.
    no_area c.args.text.now _ _ _ area c.in-Some.ensures.found (λ fine range sign. iff_false c.is_whole_nm.ensures c.if-not-is_whole_nm.true fine) l

pub returns-then-not-is_in_range-clause-fault : goal.returns-then-not-is_in_range-clause-fault
returns-then-not-is_in_range-clause-fault c = record {
  negative = c.in-Some.parts.negative;
  whole = c.in-Some.parts.whole.now;
  fraction = c.in-Some.parts.fraction.now;
  spelling = c.in-Some.ensures.found;
  fine = c.is_whole_nm.ensures.0 c.if-not-is_whole_nm.false;
  beyond = beyond_of _ _ _ c.magnitude-area.ensures (c.is_in_range.ensures.no c.if-not-is_in_range.true);
}

pub returns-then-not-is_in_range-clause-none : goal.returns-then-not-is_in_range-clause-none
returns-then-not-is_in_range-clause-none c = λ area l.
    no_area c.args.text.now _ _ _ area c.in-Some.ensures.found
    (λ fine range sign. none_within _ _ _ c.magnitude-area.ensures range sign (c.is_in_range.ensures.no c.if-not-is_in_range.true)) l

pub returns-clause-found : goal.returns-clause-found
returns-clause-found c = record {
  negative = c.in-Some.parts.negative;
  whole = c.in-Some.parts.whole.now;
  fraction = c.in-Some.parts.fraction.now;
  spelling = c.in-Some.ensures.found;
  fine = c.is_whole_nm.ensures.0 c.if-not-is_whole_nm.false;
  range = omega (arith, c.magnitude-area.ensures, c.is_in_range.ensures.most c.if-not-is_in_range.false);
  sign = λ e. omega (arith, c.magnitude-area.ensures, c.is_in_range.ensures.most c.if-not-is_in_range.false, c.is_in_range.ensures.sign c.if-not-is_in_range.false e);
  value = omega (arith, c.magnitude-area.ensures, c.is_in_range.ensures.most c.if-not-is_in_range.false);
}
