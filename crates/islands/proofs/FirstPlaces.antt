-- The first places of classes, from the last place on, and class by class for all places.
use Rattle.std.proofs.Common.{◌≡◌, refl, sym, ◌∙◌, ap, subst, ℕ, ◌+◌, ◌<◌, ◌≤◌, inl, inr, arith, List, length, get_or, set, map}
use Rattle.std.proofs.lemmas.Bool.{cases_eq}
use Rattle.std.proofs.lemmas.List.{get_or-set_same, get_or-set_other, length-set, length-map, get_or-map}
use Rattle.islands.specs.Inner.Firsts.{class_at, AreClasses, IsFirstPlace, AreFirstOf, AreFirstPlaces}

module _ (places classes : List ℕ) where
  -- no place stands behind the last one
  pub first_none : (n : ℕ) (firsts : List ℕ) → n ≡ length places → length firsts ≡ length classes → AreFirstOf places classes n firsts
  first_none n firsts e c = record { count = c; each = λ k a l. absurd (omega (arith, e, a, l)) }

  pub class_within : AreClasses places classes → (k : ℕ) → k < length places → class_at places classes k < length classes
  class_within a k l = a.each (get_or places k 0) 0 (a.stacks k 0 l)

  module _ (n m : ℕ) (firsts : List ℕ) (e : n ≡ m + 1) (l : m < length places) (a : AreClasses places classes) (h : AreFirstOf places classes n firsts) where
    abbrev own : ℕ
    own = class_at places classes m

    abbrev put : List ℕ
    put = set firsts own m

    own_first : IsFirstPlace places classes m own m
    own_first = record { within = l; same = refl; least = λ k b c s. b }

    other_first : (k f : ℕ) → (class_at places classes k ≡ own → ⊥) → IsFirstPlace places classes n (class_at places classes k) f
        → IsFirstPlace places classes m (class_at places classes k) f
    other_first k f x i = record {
      within = i.within;
      same = i.same;
      least = λ j b c s. elim (cases_eq j m) [
        | inl q ↦ absurd (x (sym s ∙ ap (λ (z : ℕ). class_at places classes z) q))
        | inr q ↦ i.least j (omega (arith, e, b, q)) c s
      ];
    }

    -- one place more, from the end
    pub first_more : AreFirstOf places classes m (set firsts (class_at places classes m) m)
    first_more = record {
      count = length-set firsts own m ∙ h.count;
      each = λ k b c. elim (cases_eq (class_at places classes k) own) [
        | inl q ↦ subst (λ (z : ℕ). IsFirstPlace places classes m z (get_or put z 0)) (sym q)
            (subst (λ (z : ℕ). IsFirstPlace places classes m own z) (sym (get_or-set_same firsts own m 0 (let w = class_within a m l in let d = h.count in omega (arith, w, d)))) own_first)
        | inr q ↦ subst (λ (z : ℕ). IsFirstPlace places classes m (class_at places classes k) z) (sym (get_or-set_other firsts own (class_at places classes k) m 0 q))
            (other_first k (get_or firsts (class_at places classes k) 0) q (h.each k (later k b q) c))
      ];
    }
      where
        later : (k : ℕ) → m ≤ k → (class_at places classes k ≡ own → ⊥) → n ≤ k
        later k b q = elim (cases_eq k m) [ inl r ↦ absurd (q (ap (λ (z : ℕ). class_at places classes z) r)) | inr r ↦ omega (arith, e, b, r) ]

  -- what stands under the class of a place is its label
  abbrev pub label_of : List ℕ → ℕ → ℕ
  label_of firsts stack = get_or firsts (get_or classes stack 0) 0

  pub firsts_all : (firsts labels : List ℕ) → AreFirstOf places classes 0 firsts → labels ≡ map (label_of firsts) places → AreFirstPlaces places classes labels
  firsts_all firsts labels h e = record {
    each = ap (λ (z : List ℕ). length z) e ∙ length-map places (label_of firsts);
    first = λ k l. subst (λ (z : ℕ). IsFirstPlace places classes 0 (class_at places classes k) z)
        (sym (ap (λ (z : List ℕ). get_or z k 0) e ∙ get_or-map (label_of firsts) places k 0 0 l)) (h.each k (omega arith) l);
  }
