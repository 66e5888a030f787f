-- Octagons hang together where their stacks do, and the first octagon of a class of stacks is the first of its part.
use Rattle.std.proofs.Common.{◌≡◌, refl, sym, ◌∙◌, subst, ℕ, ◌<◌, inl, inr, arith, List, length, get_or}
use Rattle.std.specs.Prelude.{slice_get, Some}
use Rattle.std.specs.List.{All}
use Rattle.std.proofs.lemmas.Option.{slice_get_within, slice_get_read, slice_get-get_or, slice_get_cases, same_Some}
use Rattle.plane.specs.Plane.{Bounds, IsMeeting}
use Rattle.plane.proofs.Near.{IsMeeting-sym}
use Rattle.classes.specs.Classes.{Reaches}
use Rattle.classes.proofs.Reaching.{reaches_keeps, reaches_map}
use Rattle.spreading.specs.Labels.{AreLinks, AreThoseLinked, AreLabels}
use Rattle.spreading.proofs.Quotients.{AreGroups, reaches_groups, labels_same}
use Rattle.bins.specs.Meeting.{AreThoseMeeting}
use Rattle.stacks.specs.Places.{AreTogether, ArePlaces}
use Rattle.islands.specs.Parts.{IsMeetingAt, AreParts}
use Rattle.islands.specs.Inner.Firsts.{class_at, AreClasses, AreFirstPlaces}
use Rattle.islands.proofs.Members.{same_there, second_within}
use Rattle.islands.proofs.PartLaws.{meeting_at_back}

-- ---- octagons that are linked where they meet
pub meeting_links : (octs : List Bounds) → AreLinks (length octs) (IsMeetingAt octs)
meeting_links octs = record { back = meeting_at_back octs; within = second_within octs }

pub meeting_linked : (octs : List Bounds) (k : ℕ) (o : Bounds) (js : List ℕ) → k < length octs → o ≡ get_or octs k o → AreThoseMeeting octs o js
    → AreThoseLinked (IsMeetingAt octs) k js
meeting_linked octs k o js l e m =
    let at : slice_get octs k ≡ Some o = slice_get_read octs (length octs) k o refl l e in
    record {
      linked = λ j i. let t = ((m.same j).0 i).1 in record {
        first = o;
        second = t.other;
        at_first = at;
        at_second = t.there;
        meet = IsMeeting-sym t.other o t.meet;
      };
      whole = λ j h. inr ((m.same j).1 (
        second_within octs k j h,
        record {
          other = h.second;
          there = h.at_second;
          meet = IsMeeting-sym o h.second (subst (λ (z : Bounds). IsMeeting z h.second) (same_there octs k h.first o h.at_first at) h.meet);
        },
      ));
    }

-- labels are numbers of things
pub label_numbers : (octs : List Bounds) (labels : List ℕ) → AreLabels (length octs) (IsMeetingAt octs) labels → All (λ c. c < length labels) labels
label_numbers octs labels a k d l =
    let e = a.each in
    let m : k < length octs = omega (arith, l, e) in
    let w = reaches_keeps (IsMeetingAt octs) (λ x. x < length octs) (λ x y h b. second_within octs x y h) k (get_or labels k 0) (a.least k m).reached m in
    let s : get_or labels k d ≡ get_or labels k 0 = same_Some (get_or labels k d) (get_or labels k 0) (sym (slice_get-get_or labels k d l) ∙ slice_get-get_or labels k 0 l) in
    omega (arith, w, e, s)

-- ---- octagons and their stacks
module _ (octs stacks : List Bounds) (places : List ℕ) (s : ArePlaces octs stacks places) where
  abbrev IsOf : ℕ → ℕ → Type 0
  IsOf j n = slice_get places j ≡ Some n

  stack_of : (j : ℕ) → j < length octs → IsOf j (get_or places j 0)
  stack_of j l = slice_get-get_or places j 0 (let e = s.each in omega (arith, l, e))

  stack_there : (j : ℕ) → j < length octs → get_or places j 0 < length stacks
  stack_there j l = s.within j 0 (let e = s.each in omega (arith, l, e))

  oct_there : (j n : ℕ) → IsOf j n → (q : Bounds) × (slice_get octs j ≡ Some q)
  oct_there j n i = elim (slice_get_cases octs j).1 [
    | inl a ↦ (a.0, a.2)
    | inr a ↦ absurd (let l = slice_get_within places j n i in let e = s.each in let b = a.0 in omega (arith, l, e, b))
  ]

  meeting_stacks : (j k : ℕ) → IsMeetingAt octs j k → IsMeetingAt stacks (get_or places j 0) (get_or places k 0)
  unfolding IsMeeting
  meeting_stacks j k h =
      let l = slice_get_within octs j h.first h.at_first in
      let m = slice_get_within octs k h.second h.at_second in
      let a = slice_get-get_or stacks (get_or places j 0) h.first (stack_there j l) in
      let b = slice_get-get_or stacks (get_or places k 0) h.second (stack_there k m) in
      let p = h.meet.0 in
      record {
        first = get_or stacks (get_or places j 0) h.first;
        second = get_or stacks (get_or places k 0) h.second;
        at_first = a;
        at_second = b;
        meet = (
          p,
          (s.points (get_or places j 0) (get_or stacks (get_or places j 0) h.first) a p).1
              (record { at = j; piece = h.first; one = record { there = h.at_first; stack = stack_of j l }; holds = h.meet.1 }),
          (s.points (get_or places k 0) (get_or stacks (get_or places k 0) h.second) b p).1
              (record { at = k; piece = h.second; one = record { there = h.at_second; stack = stack_of k m }; holds = h.meet.2 }),
        );
      }

  meeting_octs : (m n : ℕ) → IsMeetingAt stacks m n → (j : ℕ) × (k : ℕ) × IsOf j m × IsOf k n × IsMeetingAt octs j k
  unfolding IsMeeting
  meeting_octs m n h =
      let p = h.meet.0 in
      let a = (s.points m h.first h.at_first p).0 h.meet.1 in
      let b = (s.points n h.second h.at_second p).0 h.meet.2 in (
        a.at,
        b.at,
        a.one.stack,
        b.one.stack,
        record {
          first = a.piece;
          second = b.piece;
          at_first = a.one.there;
          at_second = b.one.there;
          meet = (p, a.holds, b.holds);
        },
      )

  in_stack : (n j k : ℕ) → AreTogether octs places n j k → IsMeetingAt octs j k
  in_stack n j k h = record { first = h.first; second = h.second; at_first = h.one.there; at_second = h.other.there; meet = h.meet }

  stacks_are_groups : AreGroups (IsMeetingAt octs) (IsMeetingAt stacks) IsOf
  stacks_are_groups = record {
    one = λ j m n e f. same_Some m n (sym e ∙ f);
    groups = λ j k h. (
      get_or places j 0,
      get_or places k 0,
      stack_of j (slice_get_within octs j h.first h.at_first),
      stack_of k (second_within octs j k h),
      meeting_stacks j k h,
    );
    things = meeting_octs;
    together = λ n j k e f. let q = oct_there j n e in let r = oct_there k n f in
        reaches_map (AreTogether octs places n) (IsMeetingAt octs) (in_stack n) j k
        (s.together n j k q.0 r.0 (record { there = q.1; stack = e }) (record { there = r.1; stack = f }));
  }

  module _ (classes labels : List ℕ) (c : AreLabels (length stacks) (IsMeetingAt stacks) classes) where
    pub stack_classes : AreClasses places classes
    stack_classes = record {
      stacks = λ k d l. let w = s.within k d l in let e = c.each in omega (arith, w, e);
      each = label_numbers stacks classes c;
    }

    -- two octagons are of one part exactly where their stacks are of one class
    one_part : (j k : ℕ) → j < length octs → k < length octs → class_at places classes j ≡ class_at places classes k → Reaches (IsMeetingAt octs) j k
    one_part j k l m e =
        (reaches_groups (IsMeetingAt octs) (IsMeetingAt stacks) IsOf stacks_are_groups j k (get_or places j 0) (get_or places k 0) (stack_of j l) (stack_of k m)).1
        ((labels_same (length stacks) (IsMeetingAt stacks) classes (meeting_links stacks) c (get_or places j 0) (get_or places k 0) (stack_there j l) (stack_there k m)).0 e)

    one_class : (j k : ℕ) → j < length octs → k < length octs → Reaches (IsMeetingAt octs) j k → class_at places classes j ≡ class_at places classes k
    one_class j k l m r =
        (labels_same (length stacks) (IsMeetingAt stacks) classes (meeting_links stacks) c (get_or places j 0) (get_or places k 0) (stack_there j l) (stack_there k m)).1
        ((reaches_groups (IsMeetingAt octs) (IsMeetingAt stacks) IsOf stacks_are_groups j k (get_or places j 0) (get_or places k 0) (stack_of j l) (stack_of k m)).0 r)

    pub parts_by_stacks : AreFirstPlaces places classes labels → AreParts octs labels
    parts_by_stacks h = record {
      each = h.each ∙ s.each;
      least = λ k l.
          let e = s.each in
          let f = h.first k (omega (arith, l, e)) in
          let w : get_or labels k 0 < length octs = (let b = f.within in omega (arith, b, e)) in
          record {
            reached = one_part k (get_or labels k 0) l w (sym f.same);
            least = λ b r.
                let m = reaches_keeps (IsMeetingAt octs) (λ x. x < length octs) (λ x y i v. second_within octs x y i) k b r l in
                f.least b (omega arith) (omega (arith, m, e)) (sym (one_class k b l m r));
          };
    }
