-- Labels spread over a class, and class by class over all things.
use Rattle.std.proofs.Common.{◌≡◌, refl, sym, ◌∙◌, ap, subst, ℕ, zero, suc, ◌+◌, ◌*◌, ◌-◌, ◌<◌, ◌≤◌, inl, inr, arith, List, [], ◌∷◌, ◌++◌, length, get_or, take, set, length-append, length-set}
use Rattle.std.specs.Prelude.{Bool, true, false, ◌==◌, cond}
use Rattle.std.specs.List.{All}
use Rattle.std.proofs.lemmas.Bool.{cases_eq}
use Rattle.std.proofs.lemmas.Bool.Decides.{Decides-eqb}
use Rattle.std.proofs.lemmas.List.{take_more, take_all, take-append-le, get_or-set_same, get_or-set_other}
use Rattle.classes.specs.Classes.{IsOneOf, IsLeastOf}
use Rattle.classes.proofs.Reaching.{reaches_self, reaches_link, reaches_then, reaches_keeps, least_shared}
use Rattle.spreading.specs.Labels.{AreLinks, AreThoseLinked, IsUpTo, AreLabels}
use Rattle.spreading.specs.Inner.Flood.{HasNoLabel, how_many, ArePartly, IsMember, IsFlooding, AreSpread}
use Rattle.spreading.proofs.Members.{one_front, one_back, one_split, one_last, last_split, only_one, one_only, none_in, one_at, all_of}

-- ---- how many have no label
is_yes : (a b : ℕ) → a ≡ b → (a == b) ≡ true
is_yes a b e = (Decides-eqb a b).1 e

is_no : (a b : ℕ) → (a ≡ b → ⊥) → (a == b) ≡ false
is_no a b n = no (a == b) (λ t. n ((Decides-eqb a b).0 t))
  where
    no : (t : Bool) → (t ≡ true → ⊥) → t ≡ false
    no true f = absurd (f refl)
    no false f = refl

how_many_set : (n label : ℕ) (ls : List ℕ) (i : ℕ) → i < length ls → get_or ls i 0 ≡ n → (label ≡ n → ⊥) → suc (how_many n (set ls i label)) ≡ how_many n ls
unfolding how_many
how_many_set n label [] i l e m = absurd (omega (arith, l))
how_many_set n label (x ∷ ls) zero l e m = rw (is_yes x n e, is_no label n m) refl
how_many_set n label (x ∷ ls) (suc i) l e m = step (x == n) (how_many_set n label ls i (omega (arith, l)) e m)
  where
    step : (t : Bool) → suc (how_many n (set ls i label)) ≡ how_many n ls
        → suc (cond t (suc (how_many n (set ls i label))) (how_many n (set ls i label))) ≡ cond t (suc (how_many n ls)) (how_many n ls)
    step true q = ap (λ k. suc k) q
    step false q = q

-- ---- spreading over those that a thing is linked to
pub spread_none : (label : ℕ) (before old : List ℕ) → AreSpread [] label before old before old
spread_none label before old = record {
  count = refl;
  new = [];
  added = sym (append_none old);
  from = λ j i. i;
  bare = λ j i. absurd (none_in j i);
  given = λ j i. absurd (none_in j i);
  kept = λ j. inr refl;
  whole = λ j i. absurd (none_in j i);
  fewer = refl;
}
  where
    append_none : (xs : List ℕ) → xs ++ [] ≡ xs
    append_none [] = refl
    append_none (x ∷ xs) = ap (λ ys. x ∷ ys) (append_none xs)

module _ (seen : List ℕ) (label x : ℕ) (before old after members : List ℕ) (h : AreSpread seen label before old after members) where
  spread_past : (get_or after x 0 ≡ length before → ⊥) → AreSpread (seen ++ (x ∷ [])) label before old after members
  spread_past n = record {
    count = h.count;
    new = h.new;
    added = h.added;
    from = λ j i. one_front j seen (x ∷ []) (h.from j i);
    bare = h.bare;
    given = h.given;
    kept = h.kept;
    whole = λ j i e. elim (last_split j x seen i) [ inl a ↦ h.whole j a e | inr q ↦ n (subst (λ k. get_or after k 0 ≡ length before) q e) ];
    fewer = h.fewer;
  }

  module _ (bare : get_or after x 0 ≡ length before) (l : x < length before) (m : label < length before) where
    abbrev put : List ℕ
    put = set after x label

    -- it had no label before: it isn't one of the new members, since these have one
    fresh : IsOneOf x h.new → ⊥
    fresh i = let e = h.given x i in omega (arith, e, bare, m)

    was_bare : get_or before x 0 ≡ length before
    was_bare = elim (h.kept x) [ inl i ↦ absurd (fresh i) | inr e ↦ sym e ∙ bare ]

    at_x : get_or put x 0 ≡ label
    at_x = get_or-set_same after x label 0 (let c = h.count in omega (arith, c, l))

    off_x : (j : ℕ) → (j ≡ x → ⊥) → get_or put j 0 ≡ get_or after j 0
    off_x j n = get_or-set_other after x j label 0 n

    here : (P : ℕ → Type 0) (j : ℕ) → j ≡ x → P x → P j
    here P j e p = subst P (sym e) p

    new_label : (j : ℕ) → IsOneOf j (h.new ++ (x ∷ [])) → get_or put j 0 ≡ label
    new_label j i = elim (cases_eq j x) [
      | inl e ↦ here (λ k. get_or put k 0 ≡ label) j e at_x
      | inr n ↦ elim (last_split j x h.new i) [ inl a ↦ off_x j n ∙ h.given j a | inr e ↦ absurd (n e) ]
    ]

    spread_to : AreSpread (seen ++ (x ∷ [])) label before old put (members ++ (x ∷ []))
    spread_to = record {
      count = length-set after x label ∙ h.count;
      new = h.new ++ (x ∷ []);
      added = ap (λ z. z ++ (x ∷ [])) h.added ∙ append_assoc old h.new (x ∷ []);
      from = λ j i. elim (last_split j x h.new i) [ inl a ↦ one_front j seen (x ∷ []) (h.from j a) | inr e ↦ here (λ k. IsOneOf k (seen ++ (x ∷ []))) j e (one_last x seen) ];
      bare = λ j i. elim (last_split j x h.new i) [ inl a ↦ h.bare j a | inr e ↦ here (λ k. get_or before k 0 ≡ length before) j e was_bare ];
      given = new_label;
      kept = λ j. elim (cases_eq j x) [
        | inl e ↦ inl (here (λ k. IsOneOf k (h.new ++ (x ∷ []))) j e (one_last x h.new))
        | inr n ↦ elim (h.kept j) [ inl a ↦ inl (one_front j h.new (x ∷ []) a) | inr e ↦ inr (off_x j n ∙ e) ]
      ];
      whole = λ j i e. elim (cases_eq j x) [
        | inl q ↦ (let a = at_x in let b = subst (λ k. get_or put k 0 ≡ length before) q e in omega (arith, a, b, m))
        | inr n ↦ elim (last_split j x seen i) [ inl a ↦ h.whole j a (sym (off_x j n) ∙ e) | inr q ↦ n q ]
      ];
      fewer = let a = h.fewer in let b = length-append members (x ∷ []) in
          let c = how_many_set (length before) label after x (let c = h.count in omega (arith, c, l)) bare (λ e. omega (arith, e, m)) in omega (arith, a, b, c);
    }
      where
        append_assoc : (xs ys zs : List ℕ) → (xs ++ ys) ++ zs ≡ xs ++ (ys ++ zs)
        append_assoc [] ys zs = refl
        append_assoc (y ∷ xs) ys zs = ap (λ ws. y ∷ ws) (append_assoc xs ys zs)

pub spread_other : (met : List ℕ) (label : ℕ) (before old after members : List ℕ) (i d : ℕ) → i < length met → (get_or after (get_or met i d) 0 ≡ length before → ⊥)
    → AreSpread (take i met) label before old after members → AreSpread (take (i + 1) met) label before old after members
spread_other met label before old after members i d l n h =
    subst (λ z. AreSpread z label before old after members) (sym (take_more met i d l)) (spread_past (take i met) label (get_or met i d) before old after members h n)

pub spread_more : (met : List ℕ) (label : ℕ) (before old after members : List ℕ) (i d : ℕ) → i < length met → get_or after (get_or met i d) 0 ≡ length before
    → All (λ j. j < length before) met → label < length before → AreSpread (take i met) label before old after members
    → AreSpread (take (i + 1) met) label before old (set after (get_or met i d) label) (members ++ (get_or met i d ∷ []))
spread_more met label before old after members i d l b a m h =
    subst (λ z. AreSpread z label before old (set after (get_or met i d) label) (members ++ (get_or met i d ∷ []))) (sym (take_more met i d l))
    (spread_to (take i met) label (get_or met i d) before old after members h b (a i d l) m)

pub spread_end : (met : List ℕ) (label : ℕ) (before old after members : List ℕ) (i : ℕ) → length met ≤ i → AreSpread (take i met) label before old after members
    → AreSpread met label before old after members
spread_end met label before old after members i l h = subst (λ z. AreSpread z label before old after members) (take_all i met l) h

-- ---- all that a thing is linked to
pub linked_numbers : (n : ℕ) (R : ℕ → ℕ → Type 0) → AreLinks n R → (k : ℕ) (js : List ℕ) → AreThoseLinked R k js → All (λ j. j < n) js
linked_numbers n R g k js m = all_of (λ j. j < n) js (λ j i. g.within k j (m.linked j i))

-- ---- flooding
module _ (n : ℕ) (R : ℕ → ℕ → Type 0) (g : AreLinks n R) (first : ℕ) (before : List ℕ) (l : first < n) (p : ArePartly n R first before) (b : HasNoLabel n before first) where
  flooding_first : IsFlooding n R first before 0 (first ∷ []) (set before first first)
  flooding_first = record {
    many = length-set before first first ∙ p.many;
    begun = one_only first;
    each = λ j i. subst (λ k. IsMember n R first before (set before first first) k) (sym (only_one j first i)) (record {
      within = l;
      reached = reaches_self R first;
      bare = b;
      label = get_or-set_same before first first 0 (let c = p.many in omega (arith, c, l));
    });
    kept = λ j. elim (cases_eq j first) [
      | inl e ↦ inl (subst (λ k. IsOneOf k (first ∷ [])) (sym e) (one_only first))
      | inr q ↦ inr (get_or-set_other before first j first 0 q)
    ];
    closed = λ j k i. absurd (none_in j i);
  }

  module _ (done : ℕ) (members labels met after more : List ℕ) (t : done < length members) (h : IsFlooding n R first before done members labels)
      (m : AreThoseLinked R (get_or members done 0) met) (s : AreSpread met first labels members after more) where
    abbrev now : ℕ
    now = get_or members done 0

    now_in : IsOneOf now members
    now_in = one_at members done 0 t

    new_member : (j : ℕ) → IsOneOf j s.new → IsMember n R first before after j
    new_member j i =
        let link = m.linked j (s.from j i) in
        record {
          within = g.within now j link;
          reached = reaches_then R first now j (h.each now now_in).reached (reaches_link R now j link);
          bare = was j i;
          label = s.given j i;
        }
      where
        was : (j : ℕ) → IsOneOf j s.new → HasNoLabel n before j
        was j i = elim (h.kept j) [
          | inl a ↦ (let e = (h.each j a).label in let f = s.bare j i in let c = h.many in absurd (omega (arith, e, f, c, l)))
          | inr e ↦ sym e ∙ (s.bare j i ∙ h.many)
        ]

    old_member : (j : ℕ) → IsOneOf j members → IsMember n R first before after j
    old_member j i = let u = h.each j i in record {
      within = u.within;
      reached = u.reached;
      bare = u.bare;
      label = elim (s.kept j) [ inl a ↦ s.given j a | inr e ↦ e ∙ u.label ];
    }

    in_members : (j : ℕ) → IsOneOf j (members ++ s.new) → IsMember n R first before after j
    in_members j i = elim (one_split j members s.new i) [ inl a ↦ old_member j a | inr a ↦ new_member j a ]

    taken : take (done + 1) (members ++ s.new) ≡ take done members ++ (now ∷ [])
    taken = take-append-le (done + 1) members s.new (omega (arith, t)) ∙ take_more members done 0 t

    -- a label that is there stays
    stays : (k : ℕ) → HasNoLabel n after k → HasNoLabel n labels k
    stays k e = elim (s.kept k) [
      | inl a ↦ (let u = s.given k a in absurd (omega (arith, e, u, l)))
      | inr q ↦ sym q ∙ e
    ]

    -- the one that is looked at has a label itself
    now_labelled : HasNoLabel n after now → ⊥
    now_labelled e = let u = (old_member now now_in).label in omega (arith, e, u, l)

    more_closed : (j k : ℕ) → IsOneOf j (take (done + 1) (members ++ s.new)) → R j k → HasNoLabel n after k → ⊥
    more_closed j k i r e = elim (last_split j now (take done members) (subst (IsOneOf j) taken i)) [
      | inl a ↦ h.closed j k a r (stays k e)
      | inr q ↦ elim (m.whole k (subst (λ y. R y k) q r)) [
        | inl w ↦ now_labelled (subst (HasNoLabel n after) w e)
        | inr w ↦ s.whole k w (let c = h.many in omega (arith, e, c))
      ]
    ]

    flooding_next : IsFlooding n R first before (done + 1) (members ++ s.new) after
    flooding_next = record {
      many = s.count ∙ h.many;
      begun = one_front first members s.new h.begun;
      each = in_members;
      kept = λ j. elim (s.kept j) [
        | inl a ↦ inl (one_back j members s.new a)
        | inr e ↦ elim (h.kept j) [ inl a ↦ inl (one_front j members s.new a) | inr f ↦ inr (e ∙ f) ]
      ];
      closed = more_closed;
    }

    pub flooding_on : IsFlooding n R first before (done + 1) more after
    flooding_on = subst (λ z. IsFlooding n R first before (done + 1) z after) (sym s.added) flooding_next

    -- each turn is one member done, or gives members from what has no label
    pub flooding_down : (length more + 2 * how_many n after) - (done + 1) < (length members + 2 * how_many n labels) - done
    flooding_down =
        let a = subst (λ k. length more + how_many k after ≡ length members + how_many k labels) h.many s.fewer in
        let c = length-append members s.new in let d = ap (λ (z : List ℕ). length z) s.added in omega (arith, a, c, d, t)

  -- ---- a class is labelled
  module _ (members labels : List ℕ) (done : ℕ) (whole : length members ≤ done) (f : IsFlooding n R first before done members labels) where
    all_done : (j : ℕ) → IsOneOf j members → IsOneOf j (take done members)
    all_done j i = subst (IsOneOf j) (sym (take_all done members whole)) i

    grows : (x y : ℕ) → R x y → IsOneOf x members → IsOneOf y members
    grows x y r i = elim (f.kept y) [
      | inl a ↦ a
      | inr e ↦ absurd (f.closed x y (all_done x i) r (e ∙ p.closed x y r (f.each x i).bare))
    ]

    bare_from : (k : ℕ) → k < n → HasNoLabel n before k → first ≤ k
    bare_from k m e = elim (p.each k m) [
      | inl a ↦ a.1
      | inr a ↦ (let u = a.least k (reaches_self R k) in absurd (omega (arith, e, u, m)))
    ]

    first_least : IsLeastOf R IsUpTo first first
    first_least = record {
      reached = reaches_self R first;
      least = λ k r. (let u = f.each k (reaches_keeps R (λ y. IsOneOf y members) grows first k r f.begun) in bare_from k u.within u.bare);
    }

    member_least : (k : ℕ) → IsOneOf k members → IsLeastOf R IsUpTo k (get_or labels k 0)
    member_least k i =
        let u = f.each k i in
        subst (IsLeastOf R IsUpTo k) (sym u.label) (least_shared R IsUpTo g.back first k first u.reached first_least)

    pub partly_class : ArePartly n R (first + 1) labels
    partly_class = record {
      many = f.many;
      each = λ k m. elim (f.kept k) [
        | inl a ↦ inr (member_least k a)
        | inr e ↦ elim (cases_eq k first) [
          | inl q ↦ inr (member_least k (subst (λ y. IsOneOf y members) (sym q) f.begun))
          | inr w ↦ elim (p.each k m) [
            | inl a ↦ inl (e ∙ a.0, (let u = a.1 in omega (arith, u, w)))
            | inr a ↦ inr (subst (IsLeastOf R IsUpTo k) (sym e) a)
          ]
        ]
      ];
      closed = λ j k r e. elim (f.kept j) [
        | inl a ↦ (let u = (f.each j a).label in absurd (omega (arith, u, e, l)))
        | inr q ↦ elim (f.kept k) [
          | inl a ↦ absurd (f.closed k j (all_done k a) (g.back j k r) e)
          | inr w ↦ w ∙ p.closed j k r (sym q ∙ e)
        ]
      ];
    }

pub flooding_begun : (n : ℕ) (R : ℕ → ℕ → Type 0) → AreLinks n R → (first : ℕ) (before : List ℕ) → first < n → ArePartly n R first before → HasNoLabel n before first
    → IsFlooding n R first before 0 (first ∷ []) (set before first first)
flooding_begun n R g first before l p b = flooding_first n R g first before l p b

pub partly_more : (n : ℕ) (R : ℕ → ℕ → Type 0) → AreLinks n R → (first : ℕ) (before : List ℕ) → first < n → ArePartly n R first before → HasNoLabel n before first
    → (members labels : List ℕ) (done : ℕ) → length members ≤ done → IsFlooding n R first before done members labels → ArePartly n R (first + 1) labels
partly_more n R g first before l p b members labels done w f = partly_class n R g first before l p b members labels done w f

pub member_within : (n : ℕ) (R : ℕ → ℕ → Type 0) (first : ℕ) (before : List ℕ) (done : ℕ) (members labels : List ℕ) → done < length members → IsFlooding n R first before done members labels
    → get_or members done 0 < n
member_within n R first before done members labels t h = (h.each (get_or members done 0) (one_at members done 0 t)).within

-- ---- class by class
pub partly_none : (n : ℕ) (R : ℕ → ℕ → Type 0) → AreLinks n R → (labels : List ℕ) → length labels ≡ n → ((k : ℕ) → k < n → HasNoLabel n labels k) → ArePartly n R 0 labels
partly_none n R g labels c b = record {
  many = c;
  each = λ k l. inl (b k l, omega arith);
  closed = λ j k r e. b k (g.within j k r);
}

pub partly_past : (n : ℕ) (R : ℕ → ℕ → Type 0) (first : ℕ) (labels : List ℕ) → get_or labels first 0 < n → ArePartly n R first labels → ArePartly n R (first + 1) labels
partly_past n R first labels l p = record {
  many = p.many;
  each = λ k m. elim (p.each k m) [ inl a ↦ inl (a.0, later k a.0 a.1) | inr a ↦ inr a ];
  closed = p.closed;
}
  where
    later : (k : ℕ) → HasNoLabel n labels k → first ≤ k → first + 1 ≤ k
    later k e u = elim (cases_eq k first) [
      | inl q ↦ (let w = subst (λ y. HasNoLabel n labels y) q e in absurd (omega (arith, w, l)))
      | inr q ↦ omega (arith, u, q)
    ]

pub bare_first : (n : ℕ) (R : ℕ → ℕ → Type 0) (first : ℕ) (labels : List ℕ) → first < n → (get_or labels first 0 < n → ⊥) → ArePartly n R first labels → HasNoLabel n labels first
bare_first n R first labels l q p = elim (p.each first l) [
  | inl a ↦ a.0
  | inr a ↦ absurd (q (let u = a.least first (reaches_self R first) in omega (arith, u, l)))
]

pub partly_end : (n : ℕ) (R : ℕ → ℕ → Type 0) (labels : List ℕ) (upto : ℕ) → n ≤ upto → ArePartly n R upto labels → AreLabels n R labels
partly_end n R labels upto l p = record {
  each = p.many;
  least = λ k m. elim (p.each k m) [ inl a ↦ (let u = a.1 in absurd (omega (arith, u, l, m))) | inr a ↦ a ];
}

-- ---- what is read of a list, whatever stands past its end
pub read_is : (xs : List ℕ) (i r : ℕ) → i < length xs → r ≡ get_or xs i r → get_or xs i 0 ≡ r
read_is [] i r l e = absurd (omega (arith, l))
read_is (x ∷ xs) zero r l e = sym e
read_is (x ∷ xs) (suc i) r l e = read_is xs i r (omega (arith, l)) e

-- ---- a turn of the flood, as the code has it
pub flooding_turn : (n : ℕ) (R : ℕ → ℕ → Type 0) → AreLinks n R → (first : ℕ) (before : List ℕ) → first < n → ArePartly n R first before → HasNoLabel n before first → (done r : ℕ)
    (members labels met seen after more : List ℕ) → done < length members → IsFlooding n R first before done members labels → r ≡ get_or members done r
    → AreThoseLinked R r met → seen ≡ met → AreSpread seen first labels members after more → IsFlooding n R first before (done + 1) more after
flooding_turn n R g first before l p b done r members labels met seen after more t h read m all s =
    flooding_on n R g first before l p b done members labels met after more t h
    (subst (λ k. AreThoseLinked R k met) (sym (read_is members done r t read)) m) (subst (λ z. AreSpread z first labels members after more) all s)

pub flooding_turn_falls : (n : ℕ) (R : ℕ → ℕ → Type 0) → AreLinks n R → (first : ℕ) (before : List ℕ) → first < n → ArePartly n R first before → HasNoLabel n before first → (done r : ℕ)
    (members labels met seen after more : List ℕ) → done < length members → IsFlooding n R first before done members labels → r ≡ get_or members done r
    → AreThoseLinked R r met → seen ≡ met → AreSpread seen first labels members after more
    → (length more + 2 * how_many n after) - (done + 1) < (length members + 2 * how_many n labels) - done
flooding_turn_falls n R g first before l p b done r members labels met seen after more t h read m all s =
    flooding_down n R g first before l p b done members labels met after more t h
    (subst (λ k. AreThoseLinked R k met) (sym (read_is members done r t read)) m) (subst (λ z. AreSpread z first labels members after more) all s)
