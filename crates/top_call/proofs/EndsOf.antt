-- How a run ends, from its work and its complaint.
use Rattle.std.proofs.Common.{◌≡◌, ℕ, sym, subst, List, Option, Some}
use Rattle.desk.specs.Seen.{Seen, with_complained}
use Rattle.desk.specs.declared.Counts.{Counts}
use Rattle.desk.specs.Faults.{Rose, OnlyComplaining}
use Rattle.desk.specs.Whole.{IsComplained}
use Rattle.run_rules.specs.declared.ended.Ended.{Ended}
use Rattle.run_rules.specs.Complaint.{complaint_of}
use Rattle.run_rules.specs.Leaves.{Leaves, Ends, IsQuiet}
use Rattle.top_call.specs.Today.{today}

ends_with : (answer : Ended) (words : List (List ℕ)) (before now : Counts) (s t : Seen) (new : Option Seen) → Leaves today answer words s t
    → IsComplained (complaint_of answer) t new → ((Rose before.complaining now.complaining → ⊥) → new ≡ Some (with_complained (complaint_of answer) t))
    → Ends today answer words before now s new
ends_with answer words before now s t new l c w = record {
  worked = t;
  leaves = l;
  said = c.0;
  within = c.1;
  complained = c.2;
  whole = w;
}

pub ends_of : (answer : Ended) (words : List (List ℕ)) (before mid now : Counts) (s t : Seen) (new : Option Seen) (line : List ℕ) → Leaves today answer words s t → line ≡ complaint_of answer
    → mid.complaining ≡ before.complaining → IsComplained line t new → ((Rose mid.complaining now.complaining → ⊥) → new ≡ Some (with_complained line t))
    → Ends today answer words before now s new
ends_of answer words before mid now s t new line l e m c w =
    ends_with answer words before now s t new l (subst (λ b. IsComplained b t new) e c)
    (λ q. subst (λ b. new ≡ Some (with_complained b t)) e (w (λ h. q (subst (λ v. Rose v now.complaining) m h))))

-- a quiet run was quiet before it complained
pub quiet_before : (before mid now : Counts) → OnlyComplaining mid now → IsQuiet before now → IsQuiet before mid
quiet_before before mid now o q = record {
  reading = λ h. q.reading (subst (λ v. Rose before.reading v) (sym o.0) h);
  writing = λ h. q.writing (subst (λ v. Rose before.writing v) (sym o.1) h);
  saying = λ h. q.saying (subst (λ v. Rose before.saying v) (sym o.2) h);
}
