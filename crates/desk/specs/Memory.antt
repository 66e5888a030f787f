-- A desk in memory: what it holds, and what each of its calls leaves.
use Rattle.std.specs.Prelude.{ℕ, ◌+◌, ◌-◌, ◌^◌, ◌==◌, min, Bool, List, if◌then◌else◌}
use Rattle.std.specs.Prelude.{refl}
use Rattle.std.specs.List.{list_any}
use Rattle.std.specs.Ordering.{nat_cmp}
use Rattle.std.specs.Cmp.Lexicographic.{slice_cmp}
use Rattle.std.specs.FinMap.{FinMap, code}
use Rattle.std.specs.Coded.{Coded, code_by, coded×, coded_ℕ, coded_list}
use Rattle.desk.specs.Seen.{Seen}
use Rattle.desk.specs.declared.Counts.{Counts}

-- a desk in memory, with the calls that it lets fail
pub record MemoryState : Type 0 where
  -- what it tells
  pub seen : Seen
  -- the most bytes that a call takes or gives
  pub step : ℕ
  -- the numbers of the calls that fail, from 1
  pub failing : List ℕ
  -- how many calls were made
  pub calls : ℕ
  -- how many of them wanted memory for the desk's own vectors
  pub starved : ℕ
  pub faults : Counts

-- it is stored as the tuple of its parts
abbrev pub memory_code : Coded MemoryState
memory_code =
    code_by
    ((FinMap (slice_cmp nat_cmp) (List ℕ) × (List ℕ × List ℕ)) × ((ℕ × List ℕ) × ((ℕ × ℕ) × ((ℕ × ℕ) × (ℕ × ℕ)))))
    (coded× (coded× (code (coded_list coded_ℕ) (coded_list coded_ℕ)) (coded× (coded_list coded_ℕ) (coded_list coded_ℕ))) (coded× (coded× coded_ℕ (coded_list coded_ℕ)) (coded× (coded× coded_ℕ coded_ℕ) (coded× (coded× coded_ℕ coded_ℕ) (coded× coded_ℕ coded_ℕ)))))
    (λ s. ((s.seen.files, (s.seen.said, s.seen.complained)), ((s.step, s.failing), ((s.calls, s.starved), ((s.faults.reading, s.faults.writing), (s.faults.saying, s.faults.complaining))))))
    (λ p. record {
      seen = record { files = p.0.0; said = p.0.1.0; complained = p.0.1.1 };
      step = p.1.0.0;
      failing = p.1.0.1;
      calls = p.1.1.0.0;
      starved = p.1.1.0.1;
      faults = record { reading = p.1.1.1.0.0; writing = p.1.1.1.0.1; saying = p.1.1.1.1.0; complaining = p.1.1.1.1.1 };
    })
    (λ _. refl)

-- one more; a counter at its last value stays there
abbrev pub raised : ℕ → ℕ
raised n = min (n + 1) (2 ^ 64 - 1)

-- the number of the next call is among those that fail
abbrev pub is_listed : MemoryState → Bool
is_listed s = list_any (λ n. n == raised s.calls) s.failing

-- a fault of reading more
abbrev pub reading_raised : Counts → Counts
reading_raised c = record { reading = raised c.reading; writing = c.writing; saying = c.saying; complaining = c.complaining }

-- a fault of writing more
abbrev pub writing_raised : Counts → Counts
writing_raised c = record { reading = c.reading; writing = raised c.writing; saying = c.saying; complaining = c.complaining }

-- a fault of saying more
abbrev pub saying_raised : Counts → Counts
saying_raised c = record { reading = c.reading; writing = c.writing; saying = raised c.saying; complaining = c.complaining }

-- a fault of complaining more
abbrev pub complaining_raised : Counts → Counts
complaining_raised c = record { reading = c.reading; writing = c.writing; saying = c.saying; complaining = raised c.complaining }

-- What a call leaves that did what it was asked: the call is counted, and what is told has changed.
abbrev pub done : (Seen → Seen) → MemoryState → MemoryState
done change s = record { seen = change s.seen; step = s.step; failing = s.failing; calls = raised s.calls; starved = s.starved; faults = s.faults }

-- What a failed call leaves that wanted no memory: the call and its fault are counted.
abbrev pub failed : (Counts → Counts) → MemoryState → MemoryState
failed fault s = record { seen = s.seen; step = s.step; failing = s.failing; calls = raised s.calls; starved = s.starved; faults = fault s.faults }

-- What a failed call leaves that may want memory: where its number isn't listed, it did.
abbrev pub refused : (Counts → Counts) → MemoryState → MemoryState
refused fault s = record { seen = s.seen; step = s.step; failing = s.failing; calls = raised s.calls; starved = (if is_listed s then s.starved else raised s.starved); faults = fault s.faults }
