-- What stays reserved over a change.
use Rattle.std.proofs.Common.{◌≡◌, ℕ, ◌+◌, ◌-◌, ◌<◌, ◌≤◌, Bool, true, false, cond, List, [], ◌∷◌, length, refl, sym, ◌∙◌, ap, subst, arith, Some, None, is_some}
use Rattle.std.specs.Prelude.{Option}
use Rattle.std.specs.Ordering.{nat_cmp}
use Rattle.std.specs.Cmp.Lexicographic.{slice_cmp, nat_list_cmp_total}
use Rattle.std.specs.FinMap.{FinMap, get, insert, get-insert}
use Rattle.desk.specs.Folder.{IsFirst, IsNowhere}
use Rattle.desk.specs.Room.{cost_in}
use Rattle.desk.specs.declared.arena.Lengths.{Lengths}
use Rattle.desk.specs.Arena.{Reserved, nameless, entries_of, IsReserved}
use Rattle.desk.proofs.Names.{same_name, exact}
use Rattle.desk.proofs.Files.{get-insert_same, get-insert_other}

-- ---- the place that was found in borrowed parts
pub first_moved : (ls ls' : List Lengths) (bytes bytes' name : List ℕ) (i : ℕ) → ls ≡ ls' → bytes ≡ bytes' → IsFirst name (entries_of ls bytes) i → IsFirst name (entries_of ls' bytes') i
first_moved ls ls' bytes bytes' name i p q h = subst (λ x. IsFirst name (entries_of x bytes') i) p (subst (λ y. IsFirst name (entries_of ls y) i) q h)

pub nowhere_moved : (ls ls' : List Lengths) (bytes bytes' name : List ℕ) → ls ≡ ls' → bytes ≡ bytes' → IsNowhere name (entries_of ls bytes) → IsNowhere name (entries_of ls' bytes')
nowhere_moved ls ls' bytes bytes' name p q h = subst (λ x. IsNowhere name (entries_of x bytes')) p (subst (λ y. IsNowhere name (entries_of ls y)) q h)

-- ---- what a name costs
some_is : (o : Option (List ℕ)) (x : List ℕ) → o ≡ Some x → is_some o ≡ true
some_is o x e = ap is_some e

none_is : (o : Option (List ℕ)) → o ≡ None → is_some o ≡ false
none_is o e = ap is_some e

module _ (m : FinMap (slice_cmp nat_cmp) (List ℕ)) (name : List ℕ) where
  pub cost_some : (x : List ℕ) → get m name ≡ Some x → cost_in m name ≡ 0
  cost_some x e = ap (λ b. cond b 0 (length name)) (some_is (get m name) x e)

  pub cost_none : get m name ≡ None → cost_in m name ≡ length name
  cost_none e = ap (λ b. cond b 0 (length name)) (none_is (get m name) e)

-- ---- the empty name
one_or_none : (b : Bool) → cond b 1 0 ≤ 1
one_or_none true = omega arith
one_or_none false = omega arith

nameless_most : (m : FinMap (slice_cmp nat_cmp) (List ℕ)) → nameless m ≤ 1
nameless_most m = one_or_none (is_some (get m []))

kept_nameless : (m : FinMap (slice_cmp nat_cmp) (List ℕ)) (name x v : List ℕ) → get m name ≡ Some x → nameless (insert m name v) ≡ nameless m
kept_nameless m name x v e =
    ap (λ o. cond (is_some o) 1 0) (get-insert nat_list_cmp_total m name v [])
    ∙ elim (same_name [] name) as (λ b. same_name [] name ≡ b → cond (is_some (cond b (Some v) (get m []))) 1 0 ≡ nameless m) [
      | true ↦ λ t. sym (ap (λ b. cond b 1 0) (some_is (get m []) x (ap (get m) (exact [] name t) ∙ e)))
      | false ↦ λ t. refl
    ] refl

made_nameless : (m : FinMap (slice_cmp nat_cmp) (List ℕ)) (v : List ℕ) → nameless (insert m [] v) ≡ 1
made_nameless m v = ap (λ b. cond b 1 0) (some_is (get (insert m [] v) []) v (get-insert_same m [] v))

no_nameless : (m : FinMap (slice_cmp nat_cmp) (List ℕ)) → get m [] ≡ None → nameless m ≡ 0
no_nameless m e = ap (λ b. cond b 1 0) (none_is (get m []) e)

other_nameless : (m : FinMap (slice_cmp nat_cmp) (List ℕ)) (c : ℕ) (cs v : List ℕ) → nameless (insert m (c ∷ cs) v) ≡ nameless m
other_nameless m c cs v = ap (λ o. cond (is_some o) 1 0) (get-insert_other m (c ∷ cs) v [] (λ e. cc))

-- there is a place in the table for a name that isn't there
pub place_free : (m : FinMap (slice_cmp nat_cmp) (List ℕ)) (name : List ℕ) (names names_capacity bytes bytes_capacity room : ℕ) → get m name ≡ None
    → IsReserved m names names_capacity bytes bytes_capacity room → length name ≤ room → names < names_capacity
place_free m [] names names_capacity bytes bytes_capacity room e r h = omega (arith, r.names_fit, no_nameless m e)
place_free m (c ∷ cs) names names_capacity bytes bytes_capacity room e r h = omega (arith, r.names_fit, nameless_most m)

-- ---- the reserve after a change
pub reserved_found : (m new : FinMap (slice_cmp nat_cmp) (List ℕ)) (name x v : List ℕ) (names names_capacity bytes bytes_capacity room names' names_capacity' bytes' bytes_capacity' left : ℕ) → get m name ≡ Some x
    → IsReserved m names names_capacity bytes bytes_capacity room → new ≡ insert m name v → left ≤ room → names' ≡ names → names_capacity' ≡ names_capacity → bytes' + left ≤ bytes_capacity'
    → IsReserved new names' names_capacity' bytes' bytes_capacity' left
reserved_found m new name x v names names_capacity bytes bytes_capacity room names' names_capacity' bytes' bytes_capacity' left e r is low n k fit = record {
  names_fit = omega (arith, r.names_fit, ap nameless is ∙ kept_nameless m name x v e);
  bytes_fit = fit;
}

pub reserved_new : (m new : FinMap (slice_cmp nat_cmp) (List ℕ)) (name v : List ℕ) (names names_capacity bytes bytes_capacity room names' names_capacity' bytes' bytes_capacity' left : ℕ) → get m name ≡ None
    → IsReserved m names names_capacity bytes bytes_capacity room → new ≡ insert m name v → left + length name ≤ room → names' ≡ names + 1 → names_capacity ≤ names_capacity' → bytes' + left ≤ bytes_capacity'
    → IsReserved new names' names_capacity' bytes' bytes_capacity' left
reserved_new m new [] v names names_capacity bytes bytes_capacity room names' names_capacity' bytes' bytes_capacity' left e r is low more grown fit = record {
  names_fit = omega (arith, r.names_fit, no_nameless m e, ap nameless is ∙ made_nameless m v);
  bytes_fit = fit;
}
reserved_new m new (c ∷ cs) v names names_capacity bytes bytes_capacity room names' names_capacity' bytes' bytes_capacity' left e r is low more grown fit = record {
  names_fit = omega (arith, r.names_fit, ap nameless is ∙ other_nameless m c cs v);
  bytes_fit = fit;
}

-- ---- what is seen of it
pub state_is : (old : Reserved) (m new : FinMap (slice_cmp nat_cmp) (List ℕ)) (room left : ℕ) (change : FinMap (slice_cmp nat_cmp) (List ℕ) → FinMap (slice_cmp nat_cmp) (List ℕ)) (cost : FinMap (slice_cmp nat_cmp) (List ℕ) → ℕ)
    → record { files = m; room = room } ≡ old → new ≡ change m → left ≡ room - cost m
    → ◌≡◌ {A = Reserved} (record { files = new; room = left }) (record { files = change old.files; room = old.room - cost old.files })
state_is old m new room left change cost e h k =
    subst (λ (o : Reserved). ◌≡◌ {A = Reserved} (record { files = new; room = left }) (record { files = change o.files; room = o.room - cost o.files })) e (λ i. record { files = h i; room = k i })

pub state_put : (old : Reserved) (m new : FinMap (slice_cmp nat_cmp) (List ℕ)) (room : ℕ) (change : FinMap (slice_cmp nat_cmp) (List ℕ) → FinMap (slice_cmp nat_cmp) (List ℕ))
    → record { files = m; room = room } ≡ old → new ≡ change m
    → ◌≡◌ {A = Reserved} (record { files = new; room = room }) (record { files = change old.files; room = old.room })
state_put old m new room change e h =
    subst (λ (o : Reserved). ◌≡◌ {A = Reserved} (record { files = new; room = room }) (record { files = change o.files; room = o.room })) e (λ i. record { files = h i; room = room })
