-- Each walk has a contour, walks that share no edge have different ones, and they can be put into order.
use Rattle.std.proofs.Common.{◌≡◌, refl, sym, subst, ap, ◌∙◌, ◌⊎◌, inl, inr, arith, List, [], ◌∷◌, ◌++◌, length, Bool, true, false, get_or, drop}
use Rattle.std.proofs.lemmas.Int.{ints}
use Rattle.std.proofs.lemmas.List.{append-nil, append_assoc}
use Rattle.grid_num.specs.declared.Point.{Point}
use Rattle.plane.specs.Covering.{Edge}
use Rattle.rings.specs.Turning.{direction}
use Rattle.rings.specs.Walks.{last_of, visits_after, visits, IsWalk, is_bend, bends, IsSameRound, IsListLess, IsContour}
use Rattle.rings.proofs.Lists.{Has, has_head, has_of, has_round, round_sym, round_trans}
use Rattle.rings.proofs.Order.{list_cases, list_order}
use Rattle.rings.proofs.Lines.{GoesOn, IsGood, direction_is, direction_low}
use Rattle.rings.proofs.Turning.{AreApart}
use Rattle.rings.proofs.Parted.{AreGood}
use Rattle.rings.proofs.Walks.{first_visit, walk_round, bends_round}
use Rattle.rings.proofs.Bends.{tail_bends, bends_yes, bends_no, not_bend, Linked, IsUpTo, goes_on, bends_first, IsLinkedWalk, linked_walk, walk_begun}
use Rattle.rings.proofs.Heads.{visit_goes, visit_next}
use Rattle.rings.proofs.Orbits.{last_part}

-- ---- the least list of a round
record IsBest (cs front back : List Point) : Type 0 where
  best : List Point
  round : IsSameRound cs best
  least : (more rest : List Point) → back ≡ more ++ rest → IsListLess (rest ++ (front ++ more)) best → ⊥

best_from : (cs front back : List Point) → cs ≡ front ++ back → IsBest cs front back
best_from cs front [] e = record {
  best = front;
  round = record { front = front; back = []; was = e; is = refl };
  least = λ more rest k l. (let n = ends_empty more rest k in list_order.never front
      (subst (λ zs. IsListLess zs front) (ap (λ zs. zs ++ (front ++ more)) n.1 ∙ ap (λ zs. front ++ zs) n.0 ∙ append-nil front) l));
}
  where
    ends_empty : (more rest : List Point) → [] ≡ more ++ rest → (more ≡ []) × (rest ≡ [])
    ends_empty [] rest k = (refl, sym k)
    ends_empty (a ∷ more) rest k = absurd (let l = ap length k in omega (arith, l))
best_from cs front (b ∷ back) e = choose (best_from cs (front ++ b ∷ []) back (e ∙ sym (append_assoc front (b ∷ []) back))) (list_cases (b ∷ back ++ front) (best_from cs (front ++ b ∷ []) back (e ∙ sym (append_assoc front (b ∷ []) back))).best)
  where
    rest_less : (r : IsBest cs (front ++ b ∷ []) back) (more rest : List Point) → b ∷ back ≡ more ++ rest → (more ≡ [] → ⊥) → IsListLess (rest ++ (front ++ more)) r.best → ⊥
    rest_less r [] rest k n l = n refl
    rest_less r (m ∷ more) rest k n l =
        r.least more rest (ap (drop 1) k)
        (subst (λ zs. IsListLess (rest ++ zs) r.best) (ap (λ z. front ++ z ∷ more) (sym (ap (λ zs. get_or zs 0 b) k)) ∙ sym (append_assoc front (b ∷ []) more)) l)

    here : (more rest : List Point) → b ∷ back ≡ more ++ rest → more ≡ [] → rest ++ (front ++ more) ≡ b ∷ back ++ front
    here more rest k n = ap (λ zs. rest ++ (front ++ zs)) n ∙ ap (λ zs. rest ++ zs) (append-nil front) ∙ ap (λ zs. zs ++ front) (sym (k ∙ ap (λ zs. zs ++ rest) n))

    empty_cases : (xs : List Point) → (xs ≡ []) ⊎ (xs ≡ [] → ⊥)
    empty_cases [] = inl refl
    empty_cases (x ∷ xs) = inr (λ k. (let l = ap length k in omega (arith, l)))

    choose : (r : IsBest cs (front ++ b ∷ []) back) → IsListLess (b ∷ back ++ front) r.best ⊎ ((b ∷ back ++ front ≡ r.best) ⊎ IsListLess r.best (b ∷ back ++ front)) → IsBest cs front (b ∷ back)
    choose r (inl l) = record {
      best = b ∷ back ++ front;
      round = record { front = front; back = b ∷ back; was = e; is = refl };
      least = λ more rest k m. elim (empty_cases more) [
        | inl n ↦ list_order.never (b ∷ back ++ front) (subst (λ zs. IsListLess zs (b ∷ back ++ front)) (here more rest k n) m)
        | inr n ↦ rest_less r more rest k n (list_order.on (rest ++ (front ++ more)) (b ∷ back ++ front) r.best m l)
      ];
    }
    choose r (inr g) = record {
      best = r.best;
      round = r.round;
      least = λ more rest k m. elim (empty_cases more) [
        | inl n ↦ not_less (subst (λ zs. IsListLess zs r.best) (here more rest k n) m)
        | inr n ↦ rest_less r more rest k n m
      ];
    }
      where
        not_less : IsListLess (b ∷ back ++ front) r.best → ⊥
        not_less m = elim g [ inl q ↦ list_order.never r.best (subst (λ zs. IsListLess zs r.best) q m) | inr k ↦ list_order.never r.best (list_order.on r.best (b ∷ back ++ front) r.best k m) ]

pub contour_of : (w : List Edge) → (c : List Point) × IsContour w c
contour_of w =
    let b = best_from (bends w) [] (bends w) refl in (
      b.best,
      record {
        round = b.round;
        least = λ others r l. (let q = round_trans (bends w) b.best others b.round r in b.least q.front q.back q.was (subst (λ zs. IsListLess zs b.best) q.is l));
      },
    )

-- ---- a walk begun at the first corner of its contour
after_append : (p : Edge) (xs ys : List Edge) → tail_bends p (xs ++ ys) ≡ tail_bends p xs ++ tail_bends (last_of p xs) ys
unfolding tail_bends visits_after last_of
after_append p [] ys = refl
after_append p (x ∷ xs) ys = at (is_bend (record { comes = p; goes = x })) refl (after_append x xs ys)
  where
    at : (b : Bool) → is_bend (record { comes = p; goes = x }) ≡ b → tail_bends x (xs ++ ys) ≡ tail_bends x xs ++ tail_bends (last_of x xs) ys
        → tail_bends p (x ∷ xs ++ ys) ≡ tail_bends p (x ∷ xs) ++ tail_bends (last_of x xs) ys
    at true h e = bends_yes p x (xs ++ ys) h ∙ ap (λ zs. x.start ∷ zs) e ∙ ap (λ zs. zs ++ tail_bends (last_of x xs) ys) (sym (bends_yes p x xs h))
    at false h e = bends_no p x (xs ++ ys) h ∙ e ∙ ap (λ zs. zs ++ tail_bends (last_of x xs) ys) (sym (bends_no p x xs h))

record IsCutAt (p : Edge) (w : List Edge) (front : List Point) (h : Point) (back : List Point) : Type 0 where
  before : List Edge
  edge : Edge
  after : List Edge
  is : w ≡ before ++ edge ∷ after
  bend : is_bend (record { comes = last_of p before; goes = edge }) ≡ true
  start : edge.start ≡ h
  front_is : tail_bends p before ≡ front
  back_is : tail_bends edge after ≡ back

no_bends : (p : Edge) (front : List Point) (h : Point) (back : List Point) → tail_bends p [] ≡ front ++ h ∷ back → ⊥
unfolding tail_bends visits_after
no_bends p [] h back e = let l = ap length e in omega (arith, l)
no_bends p (f ∷ front) h back e = let l = ap length e in omega (arith, l)

cut_bend : (p : Edge) (w : List Edge) (front : List Point) (h : Point) (back : List Point) → tail_bends p w ≡ front ++ h ∷ back → IsCutAt p w front h back
unfolding last_of tail_bends visits_after
cut_bend p [] front h back e = absurd (no_bends p front h back e)
cut_bend p (x ∷ w) front h back e = at front (is_bend (record { comes = p; goes = x })) refl e (λ fs k. cut_bend x w fs h back k)
  where
    at : (front : List Point) (b : Bool) → is_bend (record { comes = p; goes = x }) ≡ b → tail_bends p (x ∷ w) ≡ front ++ h ∷ back
        → ((fs : List Point) → tail_bends x w ≡ fs ++ h ∷ back → IsCutAt x w fs h back) → IsCutAt p (x ∷ w) front h back
    at [] true i e f = let k = sym (bends_yes p x w i) ∙ e in record {
      before = [];
      edge = x;
      after = w;
      is = refl;
      bend = i;
      start = ap (λ zs. get_or zs 0 h) k;
      front_is = refl;
      back_is = ap (drop 1) k;
    }
    at (a ∷ fs) true i e f = let k = sym (bends_yes p x w i) ∙ e in let r = f fs (ap (drop 1) k) in record {
      before = x ∷ r.before;
      edge = r.edge;
      after = r.after;
      is = ap (λ zs. x ∷ zs) r.is;
      bend = r.bend;
      start = r.start;
      front_is = bends_yes p x r.before i ∙ ap (λ zs. x.start ∷ zs) r.front_is ∙ ap (λ z. z ∷ fs) (ap (λ zs. get_or zs 0 a) k);
      back_is = r.back_is;
    }
    at front false i e f = let r = f front (sym (bends_no p x w i) ∙ e) in record {
      before = x ∷ r.before;
      edge = r.edge;
      after = r.after;
      is = ap (λ zs. x ∷ zs) r.is;
      bend = r.bend;
      start = r.start;
      front_is = bends_no p x r.before i ∙ r.front_is;
      back_is = r.back_is;
    }

-- the walk begun with the first corner of its contour, at which it bends
pub record IsStarted (w : List Edge) (c : List Point) : Type 0 where
  pub first : Edge
  pub others : List Edge
  pub round : IsSameRound w (first ∷ others)
  pub bend : is_bend (first_visit first others) ≡ true
  pub are : bends (first ∷ others) ≡ c

bends_whole : (a : Edge) (bs : List Edge) → bends (a ∷ bs) ≡ tail_bends (last_of a bs) (a ∷ bs)
unfolding bends visits tail_bends
bends_whole a bs = refl

started_at : (a : Edge) (bs : List Edge) (front : List Point) (h : Point) (back : List Point) → IsCutAt (last_of a bs) (a ∷ bs) front h back → IsStarted (a ∷ bs) (h ∷ back ++ front)
unfolding first_visit last_of
started_at a bs front h back c = by c.before c.is c.bend c.front_is
  where
    by : (xs : List Edge) → a ∷ bs ≡ xs ++ c.edge ∷ c.after → is_bend (record { comes = last_of (last_of a bs) xs; goes = c.edge }) ≡ true → tail_bends (last_of a bs) xs ≡ front
        → IsStarted (a ∷ bs) (h ∷ back ++ front)
    by xs e d f =
        let last : last_of a bs ≡ last_of c.edge c.after = whole_last xs e in
        let bend : is_bend (first_visit c.edge (c.after ++ xs)) ≡ true = bend_here xs e d in
        record {
          first = c.edge;
          others = c.after ++ xs;
          round = record { front = xs; back = c.edge ∷ c.after; was = e; is = refl };
          bend = bend;
          are = bends_first c.edge (c.after ++ xs) bend ∙ ap (λ z. z ∷ tail_bends c.edge (c.after ++ xs)) c.start
              ∙ ap (λ zs. h ∷ zs) (after_append c.edge c.after xs ∙ ap (λ zs. zs ++ tail_bends (last_of c.edge c.after) xs) c.back_is
              ∙ ap (λ z. back ++ tail_bends z xs) (sym last) ∙ ap (λ zs. back ++ zs) f);
        }
      where
        whole_last : (xs : List Edge) → a ∷ bs ≡ xs ++ c.edge ∷ c.after → last_of a bs ≡ last_of c.edge c.after
        whole_last xs e = ap (λ zs. last_of a zs) e ∙ last_part a c.edge xs c.after

        bend_here : (xs : List Edge) → a ∷ bs ≡ xs ++ c.edge ∷ c.after → is_bend (record { comes = last_of (last_of a bs) xs; goes = c.edge }) ≡ true → is_bend (first_visit c.edge (c.after ++ xs)) ≡ true
        bend_here [] e d = subst (λ z. is_bend (record { comes = z; goes = c.edge }) ≡ true) (whole_last [] e ∙ ap (last_of c.edge) (sym (append-nil c.after))) d
        bend_here (x ∷ xs) e d = subst (λ z. is_bend (record { comes = z; goes = c.edge }) ≡ true) (sym (last_part c.edge x c.after xs)) d

started_again : (w v : List Edge) (c : List Point) → IsSameRound w v → IsStarted v c → IsStarted w c
started_again w v c r s = record { first = s.first; others = s.others; round = round_trans w v (s.first ∷ s.others) r s.round; bend = s.bend; are = s.are }

started_by : (a : Edge) (bs : List Edge) (c front back : List Point) → is_bend (first_visit a bs) ≡ true → bends (a ∷ bs) ≡ front ++ back → c ≡ back ++ front → IsStarted (a ∷ bs) c
started_by a bs c front (h ∷ back) d e k =
    subst (IsStarted (a ∷ bs)) (sym k) (started_at a bs front h back (cut_bend (last_of a bs) (a ∷ bs) front h back (sym (bends_whole a bs) ∙ e)))
started_by a bs c (f ∷ front) [] d e k =
    subst (IsStarted (a ∷ bs)) (ap (λ zs. f ∷ zs) (append-nil front) ∙ sym k)
    (started_at a bs [] f front (cut_bend (last_of a bs) (a ∷ bs) [] f front (sym (bends_whole a bs) ∙ e ∙ append-nil (f ∷ front))))
started_by a bs c [] [] d e k = absurd (let l = ap length (sym (bends_first a bs d) ∙ e) in omega (arith, l))

pub started : (es w : List Edge) (c : List Point) → AreGood es → IsWalk es w → IsContour w c → IsStarted w c
started es w c g i k =
    let b = walk_begun es w g i in
    let v = b.first ∷ b.others in
    let r = round_trans (bends v) (bends w) c (bends_round v w (round_sym w v b.round)) k.round in
    started_again w v c b.round (started_by b.first b.others c r.front r.back b.bend r.was r.is)

-- ---- its first edge goes towards the second corner
head_or : Point → List Point → Point
head_or z [] = z
head_or z (c ∷ cs) = c

runs_to : (z p : Point) (e : Edge) (bs : List Edge) → IsGood e → Linked e bs → (last_of e bs).finish ≡ z → IsUpTo (direction e) p e.start
    → GoesOn (direction e) (record { start = p; finish = head_or z (tail_bends e bs) })
unfolding Linked last_of tail_bends visits_after head_or
runs_to z p e [] g l h u =
    subst (λ q. GoesOn (direction e) (record { start = p; finish = q })) h (record { line = g.line ∙ sym u.line; on = (let a = u.on in let b = g.on in omega (arith, ints, a, b)) })
runs_to z p e (b ∷ bs) g l h u = at (is_bend (record { comes = e; goes = b })) refl (λ v. runs_to z p b bs l.1 l.2 h v)
  where
    at : (c : Bool) → is_bend (record { comes = e; goes = b }) ≡ c → (IsUpTo (direction b) p b.start → GoesOn (direction b) (record { start = p; finish = head_or z (tail_bends b bs) }))
        → GoesOn (direction e) (record { start = p; finish = head_or z (tail_bends e (b ∷ bs)) })
    at true i f =
        subst (λ q. GoesOn (direction e) (record { start = p; finish = q })) (sym (ap (head_or z) (bends_yes e b bs i)))
        (subst (λ q. GoesOn (direction e) (record { start = p; finish = q })) (sym l.0) (record { line = g.line ∙ sym u.line; on = (let a = u.on in let b = g.on in omega (arith, ints, a, b)) }))
    at false i f =
        let d = not_bend e b i in
        subst (λ q. GoesOn (direction e) (record { start = p; finish = q })) (sym (ap (head_or z) (bends_no e b bs i)))
        (subst (λ k. GoesOn k (record { start = p; finish = head_or z (tail_bends b bs) })) (sym d) (f (goes_on p e b g l.0 d u)))

first_way : (a : Edge) (bs : List Edge) → IsLinkedWalk a bs → direction (record { start = a.start; finish = head_or a.start (tail_bends a bs) }) ≡ direction a
first_way a bs w =
    direction_is (direction a) (direction_low a) (record { start = a.start; finish = head_or a.start (tail_bends a bs) })
    (runs_to a.start a.start a bs w.good w.linked (sym w.closed) (record { line = refl; on = omega (arith, ints) }))

walk_has : (es w : List Edge) (e : Edge) → IsWalk es w → Has w e → Has es e
walk_has es w e i h = let u = visit_goes w e h in subst (Has es) u.2 (has_of es u.0.goes (visit_next es w u.0 i u.1).one)

-- walks with one contour share an edge
started_same : (es w v : List Edge) (c : List Point) → AreGood es → AreApart es → IsWalk es w → IsWalk es v → IsStarted w c → IsStarted v c → (e : Edge) × Has w e × Has v e
unfolding AreApart
started_same es w v c g a i j s t =
    let x = linked_walk es s.first s.others g (walk_round es w (s.first ∷ s.others) s.round i) in
    let y = linked_walk es t.first t.others g (walk_round es v (t.first ∷ t.others) t.round j) in
    let k = sym (bends_first s.first s.others s.bend) ∙ s.are ∙ sym t.are ∙ bends_first t.first t.others t.bend in
    let start : s.first.start ≡ t.first.start = ap (λ zs. get_or zs 0 s.first.start) k in
    let next : head_or s.first.start (tail_bends s.first s.others) ≡ head_or t.first.start (tail_bends t.first t.others) =
    ap (λ z. head_or z (tail_bends s.first s.others)) start ∙ ap (λ zs. head_or t.first.start (drop 1 zs)) k in
    let way : direction s.first ≡ direction t.first =
    sym (first_way s.first s.others x) ∙ ap (λ z. direction (record { start = z; finish = head_or s.first.start (tail_bends s.first s.others) })) start
    ∙ ap (λ z. direction (record { start = t.first.start; finish = z })) next ∙ first_way t.first t.others y in
    let h = has_round (s.first ∷ s.others) w (round_sym w (s.first ∷ s.others) s.round) s.first (has_head s.first s.others) in
    let l = has_round (t.first ∷ t.others) v (round_sym v (t.first ∷ t.others) t.round) t.first (has_head t.first t.others) in
    let e = a s.first t.first (walk_has es w s.first i h) (walk_has es v t.first j l) start way in
    (s.first, h, subst (Has v) (sym e) l)

pub contours_differ : (es w v : List Edge) (c : List Point) → AreGood es → AreApart es → IsWalk es w → IsWalk es v → IsContour w c → IsContour v c → ((e : Edge) → Has w e → Has v e → ⊥) → ⊥
contours_differ es w v c g a i j k l f = let r = started_same es w v c g a i j (started es w c g i k) (started es v c g j l) in f r.0 r.1 r.2
