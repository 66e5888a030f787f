-- From each place to the next with the same label, and so the members of clusters.
use Rattle.std.proofs.Common.{◌≡◌, refl, sym, ◌∙◌, ap, subst, ℕ, zero, suc, ◌+◌, ◌-◌, ◌<◌, ◌≤◌, ◌⊎◌, arith, inl, inr, Bool, true, false, cond, List, [], ◌∷◌, ◌++◌, length, get_or, set, drop, replicate, map, length-set, length-drop, append-nil, append_assoc, add-one}
use Rattle.std.specs.Prelude.{◌==◌, ◌&&◌, filter}
use Rattle.std.proofs.lemmas.Bool.{cases_eq, true≢false}
use Rattle.std.proofs.lemmas.Bool.Decides.{Decides-eqb}
use Rattle.std.proofs.lemmas.List.{drop_more, drop_all, drop-drop, get_or-drop, get_or-set_same, get_or-set_other, get_or-replicate, length-replicate}
use Rattle.fill_rules.specs.Nodes.{passing_places, firsts_from}
use Rattle.output_rules.specs.Reported.{members_of}
use Rattle.fill_text.specs.Inner.Alike.{AreSmallLabels, place_of, IsNextNumber}

one_of_two : (t : Bool) → (t ≡ true) ⊎ (t ≡ false)
one_of_two true = inl refl
one_of_two false = inr refl

-- ---- the first place with a label

place_here : (l x : ℕ) (xs : List ℕ) → x ≡ l → place_of l (x ∷ xs) ≡ 0
place_here l x xs e = ap (λ (t : Bool). cond t zero (suc (place_of l xs))) ((Decides-eqb x l).1 e)

not_true : (t : Bool) → (t ≡ true → ⊥) → t ≡ false
not_true true n = absurd (n refl)
not_true false n = refl

place_later : (l x : ℕ) (xs : List ℕ) → (x ≡ l → ⊥) → place_of l (x ∷ xs) ≡ suc (place_of l xs)
place_later l x xs n = ap (λ (t : Bool). cond t zero (suc (place_of l xs))) (not_true (x == l) (λ e. n ((Decides-eqb x l).0 e)))

place_there : (l : ℕ) (xs : List ℕ) → place_of l xs < length xs → get_or xs (place_of l xs) 0 ≡ l
place_there l [] h = absurd (omega (arith, h))
place_there l (x ∷ xs) h = elim (cases_eq x l) [
  | inl e ↦ ap (λ (k : ℕ). get_or (x ∷ xs) k 0) (place_here l x xs e) ∙ e
  | inr n ↦ (let f = place_later l x xs n in ap (λ (k : ℕ). get_or (x ∷ xs) k 0) f ∙ place_there l xs (omega (arith, h, f)))
]

place_is : (l n : ℕ) (xs : List ℕ) → n < length xs → get_or xs n 0 ≡ l → ((j : ℕ) → j < n → get_or xs j 0 ≡ l → ⊥) → place_of l xs ≡ n
place_is l n [] h e none = absurd (omega (arith, h))
place_is l zero (x ∷ xs) h e none = place_here l x xs e
place_is l (suc n) (x ∷ xs) h e none =
    place_later l x xs (λ f. none 0 (omega arith) f) ∙ ap suc (place_is l n xs (omega (arith, h)) e (λ j m f. none (suc j) (omega (arith, m)) f))

-- nothing passes before it
skip : (l k : ℕ) (xs : List ℕ) → passing_places (λ (o : ℕ). o == l) k xs ≡ passing_places (λ (o : ℕ). o == l) (k + place_of l xs) (drop (place_of l xs) xs)
skip l k [] = refl
skip l k (x ∷ xs) = elim (cases_eq x l) [
  | inl e ↦ (
      let f = place_here l x xs e in
      sym (ap (λ (p : ℕ). passing_places (λ (o : ℕ). o == l) (k + p) (drop p (x ∷ xs))) f ∙ ap (λ (j : ℕ). passing_places (λ (o : ℕ). o == l) j (x ∷ xs)) (let g : k + 0 ≡ k = omega arith in g)))
  | inr n ↦ (
      let f = place_later l x xs n in
      let t = not_true (x == l) (λ e. n ((Decides-eqb x l).0 e)) in
      ap (λ (b : Bool). cond b (k ∷ passing_places (λ (o : ℕ). o == l) (suc k) xs) (passing_places (λ (o : ℕ). o == l) (suc k) xs)) t
      ∙ skip l (suc k) xs
      ∙ ap (λ (j : ℕ). passing_places (λ (o : ℕ). o == l) j (drop (place_of l xs) xs)) (let g : suc k + place_of l xs ≡ k + suc (place_of l xs) = omega arith in g)
      ∙ sym (ap (λ (p : ℕ). passing_places (λ (o : ℕ). o == l) (k + p) (drop p (x ∷ xs))) f))
]

-- ---- from each place to the next

pub record IsNextFrom (labels : List ℕ) (k : ℕ) (seen next : List ℕ) : Type 0 where
  pub seen_many : length seen ≡ length labels
  pub next_many : length next ≡ length labels
  pub within : k ≤ length labels
  pub seen_at : (l : ℕ) → l < length labels → get_or seen l 0 ≡ k + place_of l (drop k labels)
  pub next_at : (j : ℕ) → k ≤ j → j < length labels → get_or next j 0 ≡ (j + 1) + place_of (get_or labels j 0) (drop (j + 1) labels)

pub next_none : (labels : List ℕ) (count : ℕ) (seen next : List ℕ) → count ≡ length labels → seen ≡ replicate (length labels) count → next ≡ replicate (length labels) count
    → IsNextFrom labels count seen next
next_none labels count seen next e s n = record {
  seen_many = ap (λ (z : List ℕ). length z) s ∙ length-replicate (length labels) count;
  next_many = ap (λ (z : List ℕ). length z) n ∙ length-replicate (length labels) count;
  within = omega (arith, e);
  seen_at = λ l m.
      let a : get_or seen l 0 ≡ count = ap (λ (z : List ℕ). get_or z l 0) s ∙ get_or-replicate (length labels) l count 0 m in
      let b : place_of l (drop count labels) ≡ 0 = ap (place_of l) (drop_all count labels (omega (arith, e))) in
      omega (arith, a, b);
  next_at = λ j l m. absurd (omega (arith, e, l, m));
}

module _ (labels seen next : List ℕ) (rank : ℕ) (up : AreSmallLabels labels) (some : 0 < rank) (h : IsNextFrom labels rank seen next) where
  abbrev k : ℕ
  k = rank - 1

  abbrev label : ℕ
  label = get_or labels (rank - 1) 0

  in_labels : rank - 1 < length labels
  in_labels = let w = h.within in omega (arith, w, some)

  pub label_there : get_or labels (rank - 1) 0 < length labels
  label_there = let u = up (rank - 1) in_labels in let l = in_labels in omega (arith, u, l)

  opened : (l : ℕ) → place_of l (drop (rank - 1) labels) ≡ place_of l (label ∷ drop rank labels)
  opened l = ap (place_of l) (drop_more labels (rank - 1) 0 in_labels ∙ ap (λ (n : ℕ). label ∷ drop n labels) (let e : (rank - 1) + 1 ≡ rank = omega (arith, some) in e))

  pub next_more : IsNextFrom labels (rank - 1) (set seen label (rank - 1)) (set next (rank - 1) (get_or seen label 0))
  next_more = record {
    seen_many = length-set seen label (rank - 1) ∙ h.seen_many;
    next_many = length-set next (rank - 1) (get_or seen label 0) ∙ h.next_many;
    within = let w = h.within in omega (arith, w);
    seen_at = λ l m. elim (cases_eq l label) [
      | inl e ↦ (
          let a : get_or (set seen label (rank - 1)) l 0 ≡ rank - 1 = ap (λ (j : ℕ). get_or (set seen label (rank - 1)) j 0) e
          ∙ get_or-set_same seen label (rank - 1) 0 (let c = h.seen_many in let t = label_there in omega (arith, c, t)) in
          let b = opened l in
          let c = place_here l label (drop rank labels) (sym e) in
          omega (arith, a, b, c))
      | inr n ↦ (
          let a = get_or-set_other seen label l (rank - 1) 0 n in
          let b = opened l in
          let c = place_later l label (drop rank labels) (λ f. n (sym f)) in
          let d = h.seen_at l m in
          omega (arith, a, b, c, d, some))
    ];
    next_at = λ j l m. elim (cases_eq j (rank - 1)) [
      | inl e ↦ (
          let a : get_or (set next (rank - 1) (get_or seen label 0)) j 0 ≡ get_or seen label 0 = ap (λ (i : ℕ). get_or (set next (rank - 1) (get_or seen label 0)) i 0) e
          ∙ get_or-set_same next (rank - 1) (get_or seen label 0) 0 (let c = h.next_many in let t = in_labels in omega (arith, c, t)) in
          let b = h.seen_at label label_there in
          let f : rank ≡ j + 1 = omega (arith, e, some) in
          a ∙ b ∙ ap (λ (n : ℕ). n + place_of label (drop n labels)) f ∙ ap (λ (n : ℕ). (j + 1) + place_of (get_or labels n 0) (drop (j + 1) labels)) (sym e))
      | inr n ↦ get_or-set_other next (rank - 1) j (get_or seen label 0) 0 n ∙ h.next_at j (omega (arith, l, n)) m
    ];
  }

pub next_end : (labels seen next : List ℕ) (k : ℕ) → k ≡ 0 → IsNextFrom labels k seen next → IsNextNumber labels next
next_end labels seen next k e h = record { many = h.next_many; each = λ j l. h.next_at j (omega (arith, e)) l }

-- ---- the members of a cluster

pub record IsWalking (labels : List ℕ) (label at : ℕ) (members : List ℕ) : Type 0 where
  pub rest : members ++ passing_places (λ (o : ℕ). o == label) at (drop at labels) ≡ members_of labels label
  pub same : at < length labels → get_or labels at 0 ≡ label

pub walk_begun : (labels members : List ℕ) (label : ℕ) → AreSmallLabels labels → label < length labels → get_or labels label 0 ≡ label → members ≡ [] → IsWalking labels label label members
walk_begun labels members label up l e n =
    let p : place_of label labels ≡ label = place_is label label labels l e (λ j m f. let u = up j (omega (arith, m, l)) in absurd (omega (arith, u, m, f))) in
    record {
      rest = ap (λ (z : List ℕ). z ++ passing_places (λ (o : ℕ). o == label) label (drop label labels)) n
          ∙ sym (skip label 0 labels ∙ ap (λ (k : ℕ). passing_places (λ (o : ℕ). o == label) (0 + k) (drop k labels)) p
          ∙ ap (λ (k : ℕ). passing_places (λ (o : ℕ). o == label) k (drop label labels)) (let z : 0 + label ≡ label = omega arith in z));
      same = λ m. e;
    }

module _ (labels next members new : List ℕ) (label at : ℕ) (h : IsNextNumber labels next) (w : IsWalking labels label at members) (l : at < length labels) (en : new ≡ members ++ at ∷ []) where
  abbrev later : ℕ
  later = (at + 1) + place_of label (drop (at + 1) labels)

  next_is : get_or next at 0 ≡ (at + 1) + place_of label (drop (at + 1) labels)
  next_is = h.each at l ∙ ap (λ (x : ℕ). (at + 1) + place_of x (drop (at + 1) labels)) (w.same l)

  passed : passing_places (λ (o : ℕ). o == label) at (drop at labels) ≡ at ∷ passing_places (λ (o : ℕ). o == label) later (drop later labels)
  passed =
      ap (passing_places (λ (o : ℕ). o == label) at) (drop_more labels at 0 l)
      ∙ ap (λ (b : Bool). cond b (at ∷ passing_places (λ (o : ℕ). o == label) (suc at) (drop (at + 1) labels)) (passing_places (λ (o : ℕ). o == label) (suc at) (drop (at + 1) labels)))
      ((Decides-eqb (get_or labels at 0) label).1 (w.same l))
      ∙ ap (λ (z : List ℕ). at ∷ z)
      (ap (λ (n : ℕ). passing_places (λ (o : ℕ). o == label) n (drop (at + 1) labels)) (sym (add-one at)) ∙ skip label (at + 1) (drop (at + 1) labels)
      ∙ ap (passing_places (λ (o : ℕ). o == label) later) (drop-drop (place_of label (drop (at + 1) labels)) (at + 1) labels))

  later_same : later < length labels → get_or labels later 0 ≡ label
  later_same m =
      let d = length-drop (at + 1) labels in
      sym (get_or-drop (at + 1) labels (place_of label (drop (at + 1) labels)) 0) ∙ place_there label (drop (at + 1) labels) (omega (arith, d, m))

  walked : IsWalking labels label later new
  walked = record {
    rest = ap (λ (z : List ℕ). z ++ passing_places (λ (o : ℕ). o == label) later (drop later labels)) en ∙ append_assoc members (at ∷ []) (passing_places (λ (o : ℕ). o == label) later (drop later labels))
        ∙ ap (λ (z : List ℕ). members ++ z) (sym passed) ∙ w.rest;
    same = later_same;
  }

  pub walk_more : (to : ℕ) → to ≡ get_or next at 0 → IsWalking labels label to new
  walk_more to e = subst (λ (n : ℕ). IsWalking labels label n new) (sym (e ∙ next_is)) walked

  pub walk_falls : (to n : ℕ) → to ≡ get_or next at 0 → n ≡ length labels → n - to < n - at
  walk_falls to n e f = let a = next_is in omega (arith, a, e, f, l)

pub walk_end : (labels members : List ℕ) (label at : ℕ) → length labels ≤ at → IsWalking labels label at members → members ≡ members_of labels label
walk_end labels members label at l w = sym (append-nil members) ∙ ap (λ (z : List ℕ). members ++ passing_places (λ (o : ℕ). o == label) at z) (sym (drop_all at labels l)) ∙ w.rest

-- ---- the clusters of a net

module _ (labels : List ℕ) (P : ℕ → Bool) (k : ℕ) (l : k < length labels) where
  abbrev left : List (List ℕ)
  left = map (members_of labels) (filter P (firsts_from (k + 1) (drop (k + 1) labels)))

  picked : (t u : Bool) (x : ℕ) (xs : List ℕ) → (t && u) ≡ true → P x ≡ u → map (members_of labels) (filter P (cond t (x ∷ xs) xs)) ≡ members_of labels x ∷ map (members_of labels) (filter P xs)
  picked true true x xs e f = ap (λ (b : Bool). map (members_of labels) (cond b (x ∷ filter P xs) (filter P xs))) f
  picked true false x xs e f = absurd (true≢false (sym e))
  picked false u x xs e f = absurd (true≢false (sym e))

  passed_by : (t u : Bool) (x : ℕ) (xs : List ℕ) → (t && u) ≡ false → P x ≡ u → map (members_of labels) (filter P (cond t (x ∷ xs) xs)) ≡ map (members_of labels) (filter P xs)
  passed_by true true x xs e f = absurd (true≢false e)
  passed_by true false x xs e f = ap (λ (b : Bool). map (members_of labels) (cond b (x ∷ filter P xs) (filter P xs))) f
  passed_by false u x xs e f = refl

  opened_firsts : map (members_of labels) (filter P (firsts_from k (drop k labels)))
      ≡ map (members_of labels) (filter P (cond (get_or labels k 0 == k) (k ∷ firsts_from (k + 1) (drop (k + 1) labels)) (firsts_from (k + 1) (drop (k + 1) labels))))
  opened_firsts =
      ap (λ (z : List ℕ). map (members_of labels) (filter P (firsts_from k z))) (drop_more labels k 0 l)
      ∙ ap (λ (n : ℕ). map (members_of labels) (filter P (cond (get_or labels k 0 == k) (k ∷ firsts_from n (drop (k + 1) labels)) (firsts_from n (drop (k + 1) labels))))) (sym (add-one k))

  pub cluster_more : (u : Bool) (c : List ℕ) (done new all : List (List ℕ)) → (get_or labels k 0 == k && u) ≡ true → P k ≡ u → c ≡ members_of labels (get_or labels k 0) → new ≡ done ++ c ∷ []
      → done ++ map (members_of labels) (filter P (firsts_from k (drop k labels))) ≡ all → new ++ map (members_of labels) (filter P (firsts_from (k + 1) (drop (k + 1) labels))) ≡ all
  cluster_more u c done new all t e ec en h =
      let same : get_or labels k 0 ≡ k = (Decides-eqb (get_or labels k 0) k).0 (first_of (get_or labels k 0 == k) u t) in
      ap (λ (z : List (List ℕ)). z ++ left) en ∙ append_assoc done (c ∷ []) left
      ∙ ap (λ (x : List ℕ). done ++ x ∷ left) (ec ∙ ap (members_of labels) same)
      ∙ ap (λ (z : List (List ℕ)). done ++ z) (sym (opened_firsts ∙ picked (get_or labels k 0 == k) u k (firsts_from (k + 1) (drop (k + 1) labels)) t e)) ∙ h
    where
      first_of : (a b : Bool) → (a && b) ≡ true → a ≡ true
      first_of true b f = refl
      first_of false b f = absurd (true≢false (sym f))

  pub cluster_stay : (u : Bool) (done all : List (List ℕ)) → (get_or labels k 0 == k && u) ≡ false → P k ≡ u
      → done ++ map (members_of labels) (filter P (firsts_from k (drop k labels))) ≡ all → done ++ map (members_of labels) (filter P (firsts_from (k + 1) (drop (k + 1) labels))) ≡ all
  cluster_stay u done all t e h =
      ap (λ (z : List (List ℕ)). done ++ z) (sym (opened_firsts ∙ passed_by (get_or labels k 0 == k) u k (firsts_from (k + 1) (drop (k + 1) labels)) t e)) ∙ h

pub clusters_end : (labels : List ℕ) (P : ℕ → Bool) (k : ℕ) (done all : List (List ℕ)) → length labels ≤ k
    → done ++ map (members_of labels) (filter P (firsts_from k (drop k labels))) ≡ all → done ≡ all
clusters_end labels P k done all l h =
    sym (append-nil done) ∙ ap (λ (z : List ℕ). done ++ map (members_of labels) (filter P (firsts_from k z))) (sym (drop_all k labels l)) ∙ h
