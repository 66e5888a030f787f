-- The loops over octagons, one octagon further.
use Rattle.std.proofs.Common.{◌≡◌, sym, subst, ◌⊎◌, inl, inr, ℕ, ◌+◌, ◌<◌, List, [], ◌∷◌, ◌++◌, length, get_or, take}
use Rattle.std.specs.Prelude.{ℤ, ◌↔◌}
use Rattle.std.proofs.lemmas.List.{take_more}
use Rattle.plane.specs.Plane.{Bounds, Within, IsMeeting, grid_point}
use Rattle.grid_sets.specs.Points.{HasPoint, AreApart}
use Rattle.scan_rows.specs.Sets.{IsInSomeSet, IsWithout, IsWithoutAll, IsJoined, IsRestAdded}
use Rattle.scan_rows.proofs.Grid.{within-In, within_or_not}
use Rattle.scan_rows.proofs.Lists.{has_end, apart_end, more_by, own_here}

-- ---- an octagon that doesn't meet the other is kept whole
pub meeting_by : (b c : Bounds) (x y : ℤ) → Within b x y → Within c x y → IsMeeting b c
unfolding IsMeeting
meeting_by b c x y v w = (grid_point x y, within-In b x y v, within-In c x y w)

pub kept_whole : (own o : Bounds) (os : List Bounds) → (IsMeeting own o → ⊥) → IsRestAdded own o os (os ++ own ∷ [])
kept_whole own o os n = record {
  same = λ x y. (
    λ h. elim ((has_end os own x y).0 h) [ inl m ↦ inl m | inr w ↦ inr (w, λ v. n (meeting_by own o x y w v)) ],
    λ h. (has_end os own x y).1 (elim h [ inl m ↦ inl m | inr k ↦ inr k.0 ]),
  );
  apart = λ a f. apart_end os own a f;
}

-- ---- without one
pub without_none : (o : Bounds) → IsWithout o [] []
without_none o = record { same = λ x y. (λ h. absurd h, λ h. h.0); apart = tt }

without_step : (o own : Bounds) (xs rest new : List Bounds) → ((x y : ℤ) → Within own x y → HasPoint xs x y → ⊥) → IsWithout o xs rest → IsRestAdded own o rest new → IsWithout o (xs ++ own ∷ []) new
without_step o own xs rest new f m w = record {
  same = λ x y. (
    λ h. elim ((w.same x y).0 h) [
      | inl k ↦ let a = (m.same x y).0 k in ((has_end xs own x y).1 (inl a.0), a.1)
      | inr k ↦ ((has_end xs own x y).1 (inr k.0), k.1)
    ],
    λ h. (w.same x y).1 (elim ((has_end xs own x y).0 h.0) [
      | inl k ↦ inl ((m.same x y).1 (k, h.1))
      | inr k ↦ inr (k, h.1)
    ]),
  );
  apart = w.apart m.apart (λ x y v k. f x y v ((m.same x y).0 k).0);
}

pub without_more : (o own : Bounds) (xs rest new : List Bounds) (i : ℕ) → AreApart xs → i < length xs → own ≡ get_or xs i own → IsWithout o (take i xs) rest → IsRestAdded own o rest new
    → IsWithout o (take (i + 1) xs) new
without_more o own xs rest new i a l e m w =
    more_by (λ t. IsWithout o t new) own xs i l e (without_step o own (take i xs) rest new (λ x y v k. own_here own xs i x y a l e v k) m w)

-- ---- without all
pub without_all_none : (os : List Bounds) → AreApart os → IsWithoutAll [] os os
without_all_none os a = record { same = λ x y. (λ h. (h, λ k. k), λ h. h.0); apart = a }

without_all_step : (o : Bounds) (xs os rest new : List Bounds) → IsWithoutAll xs os rest → IsWithout o rest new → IsWithoutAll (xs ++ o ∷ []) os new
without_all_step o xs os rest new m w = record {
  same = λ x y. (
    λ h. let a = (w.same x y).0 h in let b = (m.same x y).0 a.0 in (b.0, λ k. elim ((has_end xs o x y).0 k) [ inl j ↦ b.1 j | inr j ↦ a.1 j ]),
    λ h. (w.same x y).1 ((m.same x y).1 (h.0, λ k. h.1 ((has_end xs o x y).1 (inl k))), λ k. h.1 ((has_end xs o x y).1 (inr k))),
  );
  apart = w.apart;
}

pub without_all_more : (o : Bounds) (xs os rest new : List Bounds) (i : ℕ) → i < length xs → o ≡ get_or xs i o → IsWithoutAll (take i xs) os rest → IsWithout o rest new
    → IsWithoutAll (take (i + 1) xs) os new
without_all_more o xs os rest new i l e m w = more_by (λ t. IsWithoutAll t os new) o xs i l e (without_all_step o (take i xs) os rest new m w)

-- ---- joined
pub joined_none : (os : List Bounds) → AreApart os → IsJoined [] os os
joined_none os a = record { same = λ x y. (λ h. inl h, λ h. elim h [ inl k ↦ k | inr e ↦ absurd e ]); apart = a }

joined_step : (o : Bounds) (xs os all mid : List Bounds) → IsJoined xs os all → IsWithout o all mid → IsJoined (xs ++ o ∷ []) os (mid ++ o ∷ [])
joined_step o xs os all mid m w = record {
  same = λ x y. (
    λ h. elim ((has_end mid o x y).0 h) [
      | inl k ↦ elim ((m.same x y).0 ((w.same x y).0 k).0) [ inl j ↦ inl j | inr j ↦ inr ((has_end xs o x y).1 (inl j)) ]
      | inr k ↦ inr ((has_end xs o x y).1 (inr k))
    ],
    λ h. (has_end mid o x y).1 (elim (within_or_not o x y) [
      | inl k ↦ inr k
      | inr n ↦ inl ((w.same x y).1 ((m.same x y).1 (elim h [ inl j ↦ inl j | inr j ↦ elim ((has_end xs o x y).0 j) [ inl i ↦ inr i | inr i ↦ absurd (n i) ] ]), n))
    ]),
  );
  apart = apart_end mid o w.apart (λ x y v k. ((w.same x y).0 k).1 v);
}

pub joined_more : (o : Bounds) (xs os all mid : List Bounds) (i : ℕ) → i < length xs → o ≡ get_or xs i o → IsJoined (take i xs) os all → IsWithout o all mid
    → IsJoined (take (i + 1) xs) os (mid ++ o ∷ [])
joined_more o xs os all mid i l e m w = more_by (λ t. IsJoined t os (mid ++ o ∷ [])) o xs i l e (joined_step o (take i xs) os all mid m w)

-- ---- sets
some_end : (xs : List (List Bounds)) (os : List Bounds) (x y : ℤ) → IsInSomeSet (xs ++ os ∷ []) x y ↔ (IsInSomeSet xs x y ⊎ HasPoint os x y)
some_end [] os x y = (λ h. elim h [ inl w ↦ inr w | inr e ↦ absurd e ], λ h. elim h [ inl e ↦ absurd e | inr w ↦ inl w ])
some_end (a ∷ xs) os x y =
    let r = some_end xs os x y in (
      λ h. elim h [ inl w ↦ inl (inl w) | inr k ↦ elim (r.0 k) [ inl m ↦ inl (inr m) | inr w ↦ inr w ] ],
      λ h. elim h [ inl k ↦ elim k [ inl w ↦ inl w | inr m ↦ inr (r.1 (inl m)) ] | inr w ↦ inr (r.1 (inr w)) ],
    )

-- the list has what os has and what one of the sets has
pub record AreJoined (sets : List (List Bounds)) (os all : List Bounds) : Type 0 where
  pub same : (x y : ℤ) → HasPoint all x y ↔ (HasPoint os x y ⊎ IsInSomeSet sets x y)
  pub apart : AreApart all

pub joined_no_set : (os : List Bounds) → AreApart os → AreJoined [] os os
joined_no_set os a = record { same = λ x y. (λ h. inl h, λ h. elim h [ inl k ↦ k | inr e ↦ absurd e ]); apart = a }

set_step : (xs : List (List Bounds)) (set os all new : List Bounds) → AreJoined xs os all → IsJoined set all new → AreJoined (xs ++ set ∷ []) os new
set_step xs set os all new m w = record {
  same = λ x y. (
    λ h. elim ((w.same x y).0 h) [
      | inl k ↦ elim ((m.same x y).0 k) [ inl j ↦ inl j | inr j ↦ inr ((some_end xs set x y).1 (inl j)) ]
      | inr k ↦ inr ((some_end xs set x y).1 (inr k))
    ],
    λ h. (w.same x y).1 (elim h [
      | inl k ↦ inl ((m.same x y).1 (inl k))
      | inr k ↦ elim ((some_end xs set x y).0 k) [ inl j ↦ inl ((m.same x y).1 (inr j)) | inr j ↦ inr j ]
    ]),
  );
  apart = w.apart;
}

pub set_more : (set : List Bounds) (xs : List (List Bounds)) (os all new : List Bounds) (i : ℕ) → i < length xs → set ≡ get_or xs i set → AreJoined (take i xs) os all → IsJoined set all new
    → AreJoined (take (i + 1) xs) os new
set_more set xs os all new i l e m w =
    subst (λ (t : List (List Bounds)). AreJoined t os new) (sym (take_more xs i set l))
    (subst (λ (b : List Bounds). AreJoined (take i xs ++ b ∷ []) os new) e (set_step (take i xs) set os all new m w))
