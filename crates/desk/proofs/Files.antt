-- What is told after several calls on one name.
use Rattle.std.proofs.Common.{◌≡◌, ◌≢◌, ℕ, cond, List, [], ◌++◌, sym, ◌∙◌, ap, Some, unwrap_or}
use Rattle.std.specs.Ordering.{nat_cmp}
use Rattle.std.specs.Cmp.{eq_by_cmp_equiv}
use Rattle.std.specs.Cmp.Lexicographic.{slice_cmp, nat_list_cmp_total}
use Rattle.std.specs.FinMap.{FinMap, get, insert, get-insert, same_map}
use Rattle.std.proofs.lemmas.Bool.{false_from_ne_true}
use Rattle.desk.specs.Seen.{Seen, content, with_file, appended}
use Rattle.desk.proofs.Names.{same_name, names_exact, exact, twice}

pub insert-twice : (m : FinMap (slice_cmp nat_cmp) (List ℕ)) (k a b : List ℕ) → insert (insert m k a) k b ≡ insert m k b
insert-twice m k a b =
    same_map nat_list_cmp_total names_exact _ _ (λ q.
    get-insert nat_list_cmp_total (insert m k a) k b q
    ∙ ap (cond (same_name q k) (Some b)) (get-insert nat_list_cmp_total m k a q)
    ∙ twice (same_name q k) (Some b) (Some a) (get m q)
    ∙ sym (get-insert nat_list_cmp_total m k b q))

pub get-insert_same : (m : FinMap (slice_cmp nat_cmp) (List ℕ)) (k a : List ℕ) → get (insert m k a) k ≡ Some a
get-insert_same m k a = get-insert nat_list_cmp_total m k a k ∙ ap (λ b. cond b (Some a) (get m k)) ((eq_by_cmp_equiv nat_list_cmp_total).refl k)

-- a name that is made leaves the others
pub get-insert_other : (m : FinMap (slice_cmp nat_cmp) (List ℕ)) (k a q : List ℕ) → q ≢ k → get (insert m k a) q ≡ get m q
get-insert_other m k a q ne =
    get-insert nat_list_cmp_total m k a q ∙ ap (λ b. cond b (Some a) (get m q)) (false_from_ne_true (same_name q k) (λ e. ne (exact q k e)))

pub content-with_file : (name bytes : List ℕ) (s : Seen) → content name (with_file name bytes s) ≡ bytes
content-with_file name bytes s = ap (λ o. unwrap_or o []) (get-insert_same s.files name bytes)

pub content-with_other : (q name bytes : List ℕ) (s : Seen) → q ≢ name → content q (with_file name bytes s) ≡ content q s
content-with_other q name bytes s ne = ap (λ o. unwrap_or o []) (get-insert_other s.files name bytes q ne)

pub with_file-twice : (name a b : List ℕ) (s : Seen) → with_file name b (with_file name a s) ≡ with_file name b s
with_file-twice name a b s = ap (λ m. record { files = m; said = s.said; complained = s.complained }) (insert-twice s.files name a b)

pub appended-with_file : (name a x : List ℕ) (s : Seen) → appended name x (with_file name a s) ≡ with_file name (a ++ x) s
appended-with_file name a x s =
    ap (λ c. with_file name (c ++ x) (with_file name a s)) (content-with_file name a s) ∙ with_file-twice name a (a ++ x) s
