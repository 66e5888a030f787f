-- Lists of names and bytes, as maps.
use Rattle.std.proofs.Common.{◌≡◌, ◌≢◌, ℕ, zero, suc, ◌+◌, ◌<◌, Bool, true, false, cond, List, [], ◌∷◌, ◌++◌, length, map, slice_index_or, slice_set, refl, sym, ◌∙◌, ap, arith, Some, None, unwrap_or, below_more}
use Rattle.std.specs.Ordering.{nat_cmp}
use Rattle.std.specs.Cmp.{eq_by_cmp_equiv}
use Rattle.std.specs.Cmp.Lexicographic.{slice_cmp, nat_list_cmp_total}
use Rattle.std.specs.FinMap.{find, get, insert, from_entries, get-insert, get-from_entries, from_entries_push, same_map}
use Rattle.std.proofs.lemmas.List.{get_or-map, map-set, length-map}
use Rattle.std.proofs.Math.Seq.{map-set_same}
use Rattle.desk.specs.declared.folder.File.{File}
use Rattle.desk.specs.Folder.{entry, IsFirst, IsNowhere, IsReplaced, bytes_of}
use Rattle.desk.proofs.Names.{same_name, names_exact, twice, apart, other}

swapped : {X : Type 0} (a b : Bool) (x y z : X) → (a ≡ true → b ≡ true → ⊥) → cond a x (cond b y z) ≡ cond b y (cond a x z)
swapped true true x y z apart = absurd (apart refl refl)
swapped true false x y z apart = refl
swapped false b x y z apart = refl

find_set : (es : List (List ℕ × List ℕ)) (i : ℕ) (name v q : List ℕ) → IsFirst name es i → find (slice_cmp nat_cmp) q (slice_set es i (name, v)) ≡ cond (same_name q name) (Some v) (find (slice_cmp nat_cmp) q es)
find_set [] i name v q h = absurd (omega (arith, h.0))
find_set (e ∷ es) zero name v q h =
    sym (ap (λ n. cond (same_name q name) (Some v) (cond (same_name q n) (Some e.1) (find (slice_cmp nat_cmp) q es))) h.1 ∙ twice (same_name q name) (Some v) (Some e.1) (find (slice_cmp nat_cmp) q es))
find_set (e ∷ es) (suc i) name v q h =
    ap (cond (same_name q e.0) (Some e.1)) (find_set es i name v q (omega (arith, h.0), h.1, λ k less. h.2 (suc k) (omega arith)))
    ∙ swapped (same_name q e.0) (same_name q name) (Some e.1) (Some v) (find (slice_cmp nat_cmp) q es) (apart q e.0 name (h.2 zero (omega arith)))

find_first : (es : List (List ℕ × List ℕ)) (i : ℕ) (name : List ℕ) → IsFirst name es i → find (slice_cmp nat_cmp) name es ≡ Some (slice_index_or es i ([], [])).1
find_first [] i name h = absurd (omega (arith, h.0))
find_first (e ∷ es) zero name h = ap (λ n. cond (same_name name n) (Some e.1) (find (slice_cmp nat_cmp) name es)) h.1 ∙ ap (λ b. cond b (Some e.1) (find (slice_cmp nat_cmp) name es)) ((eq_by_cmp_equiv nat_list_cmp_total).refl name)
find_first (e ∷ es) (suc i) name h =
    ap (λ b. cond b (Some e.1) (find (slice_cmp nat_cmp) name es)) (other name e.0 (h.2 zero (omega arith)))
    ∙ find_first es i name (omega (arith, h.0), h.1, λ k less. h.2 (suc k) (omega arith))

find_nowhere : (es : List (List ℕ × List ℕ)) (name : List ℕ) → IsNowhere name es → find (slice_cmp nat_cmp) name es ≡ None
find_nowhere [] name h = refl
find_nowhere (e ∷ es) name h =
    ap (λ b. cond b (Some e.1) (find (slice_cmp nat_cmp) name es)) (other name e.0 (h zero (omega arith)))
    ∙ find_nowhere es name (λ k less. h (suc k) (omega arith))

-- ---- what a name has
pub got_first : (es : List (List ℕ × List ℕ)) (i : ℕ) (name : List ℕ) → IsFirst name es i → get (from_entries {R = slice_cmp nat_cmp} es) name ≡ Some (slice_index_or es i ([], [])).1
got_first es i name h = get-from_entries nat_list_cmp_total es name ∙ find_first es i name h

pub got_none : (es : List (List ℕ × List ℕ)) (name : List ℕ) → IsNowhere name es → get (from_entries {R = slice_cmp nat_cmp} es) name ≡ None
got_none es name h = get-from_entries nat_list_cmp_total es name ∙ find_nowhere es name h

-- ---- what a name has from now on
pub replaced : (old new : List (List ℕ × List ℕ)) (i : ℕ) (name bytes : List ℕ) → IsFirst name old i → IsReplaced old i bytes new
    → from_entries {R = slice_cmp nat_cmp} new ≡ insert (from_entries old) name bytes
replaced old new i name bytes h e =
    let same : new ≡ slice_set old i (name, bytes) = e ∙ ap (λ n. slice_set old i (n, bytes)) h.1 in
    same_map nat_list_cmp_total names_exact _ _ (λ q.
    get-from_entries nat_list_cmp_total new q ∙ ap (find (slice_cmp nat_cmp) q) same ∙ find_set old i name bytes q h
    ∙ sym (get-insert nat_list_cmp_total (from_entries old) name bytes q
    ∙ ap (cond (same_name q name) (Some bytes)) (get-from_entries nat_list_cmp_total old q)))

pub extended : (old new : List (List ℕ × List ℕ)) (i : ℕ) (name bytes : List ℕ) → IsFirst name old i → IsReplaced old i ((slice_index_or old i ([], [])).1 ++ bytes) new
    → from_entries {R = slice_cmp nat_cmp} new ≡ insert (from_entries old) name (bytes_of (from_entries old) name ++ bytes)
extended old new i name bytes h e =
    replaced old new i name _ h e ∙ ap (λ o. insert (from_entries old) name (unwrap_or o [] ++ bytes)) (sym (got_first old i name h))

pub added : (old new : List (List ℕ × List ℕ)) (name bytes : List ℕ) → IsNowhere name old → new ≡ old ++ (name, bytes) ∷ []
    → from_entries {R = slice_cmp nat_cmp} new ≡ insert (from_entries old) name bytes
added old new name bytes h e = ap from_entries e ∙ from_entries_push nat_list_cmp_total names_exact old name bytes (find_nowhere old name h)

-- a name that isn't there has no bytes before these
pub begun : (old new : List (List ℕ × List ℕ)) (name bytes : List ℕ) → IsNowhere name old → new ≡ old ++ (name, bytes) ∷ []
    → from_entries {R = slice_cmp nat_cmp} new ≡ insert (from_entries old) name (bytes_of (from_entries old) name ++ bytes)
begun old new name bytes h e =
    added old new name bytes h e ∙ ap (λ o. insert (from_entries old) name (unwrap_or o [] ++ bytes)) (sym (got_none old name h))

-- ---- entries of files
pub entry_at : (fs : List File) (i : ℕ) (f : File) → i < length fs → f ≡ slice_index_or fs i f → slice_index_or (map entry fs) i ([], []) ≡ entry f
entry_at fs i f h e = get_or-map entry fs i f ([], []) h ∙ sym (ap entry e)

-- the names so far are others, and so is this one
pub others_more : (fs : List File) (i : ℕ) (name : List ℕ) (f : File) → i < length fs → f ≡ slice_index_or fs i f → (entry f).0 ≢ name
    → ((k : ℕ) → k < i → (slice_index_or (map entry fs) k ([], [])).0 ≢ name) → (k : ℕ) → k < i + 1 → (slice_index_or (map entry fs) k ([], [])).0 ≢ name
others_more fs i name f h e ne old = below_more (λ k. (slice_index_or (map entry fs) k ([], [])).0 ≢ name) i old (λ same. ne (ap (λ x. x.0) (sym (entry_at fs i f h e)) ∙ same))

pub first_here : (fs : List File) (i : ℕ) (name : List ℕ) (f : File) → i < length fs → f ≡ slice_index_or fs i f → (entry f).0 ≡ name
    → ((k : ℕ) → k < i → (slice_index_or (map entry fs) k ([], [])).0 ≢ name) → IsFirst name (map entry fs) i
first_here fs i name f h e same old = (omega (arith, length-map fs entry), ap (λ x. x.0) (entry_at fs i f h e) ∙ same, old)

pub in_files : (fs : List File) (i : ℕ) (name : List ℕ) → IsFirst name (map entry fs) i → i < length fs
in_files fs i name h = omega (arith, h.0, length-map fs entry)

pub replaced_entry : (fs : List File) (i : ℕ) (f g : File) (bytes : List ℕ) → i < length fs → f ≡ slice_index_or fs i f → entry g ≡ ((entry f).0, bytes)
    → IsReplaced (map entry fs) i bytes (map entry (slice_set fs i g))
replaced_entry fs i f g bytes h e d = map-set entry fs i g ∙ ap (slice_set (map entry fs) i) (d ∙ ap (λ x. (x.0, bytes)) (sym (entry_at fs i f h e)))

pub extended_entry : (fs : List File) (i : ℕ) (f g : File) (bytes : List ℕ) → i < length fs → f ≡ slice_index_or fs i f → entry g ≡ ((entry f).0, (entry f).1 ++ bytes)
    → IsReplaced (map entry fs) i ((slice_index_or (map entry fs) i ([], [])).1 ++ bytes) (map entry (slice_set fs i g))
extended_entry fs i f g bytes h e d = map-set entry fs i g ∙ ap (slice_set (map entry fs) i) (d ∙ ap (λ x. (x.0, x.1 ++ bytes)) (sym (entry_at fs i f h e)))

pub same_entry : (fs : List File) (i : ℕ) (f g : File) → f ≡ slice_index_or fs i f → entry g ≡ entry f → map entry (slice_set fs i g) ≡ map entry fs
same_entry fs i f g e d = map-set_same entry fs i g f (d ∙ ap entry e)
