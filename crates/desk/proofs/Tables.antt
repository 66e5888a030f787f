-- Names and contents side by side, and the table of their lengths.
use Rattle.std.proofs.Common.{◌≡◌, ◌≢◌, ℕ, suc, ◌+◌, ◌<◌, ◌≤◌, List, [], ◌∷◌, ◌++◌, length, take, drop, map, slice_index_or, slice_set, refl, sym, ◌∙◌, ap, arith, length-append, length-take, length-drop, append_assoc, append-nil, take-add, below_more}
use Rattle.std.proofs.lemmas.List.{get_or-map, map-set, map-append, take-map, set_split, set-get_or, take_all, take_at, drop_at, take-append-drop, take_more}
use Rattle.desk.specs.declared.arena.Lengths.{Lengths}
use Rattle.desk.specs.Arena.{entries_of, total_of, offset_of, IsTable}
use Rattle.desk.specs.Folder.{IsFirst, IsReplaced}

-- the bytes of entries, side by side
abbrev pub flat : List (List ℕ × List ℕ) → List ℕ
flat [] = []
flat (e ∷ es) = e.0 ++ (e.1 ++ flat es)

abbrev pub lengths_of : List ℕ × List ℕ → Lengths
lengths_of e = record { name = length e.0; contents = length e.1 }

same_lengths : (l : Lengths) (a b : ℕ) → l.name ≡ a → l.contents ≡ b → l ≡ record { name = a; contents = b }
same_lengths l a b p q = λ i. record { name = p i; contents = q i }

flat-append : (xs ys : List (List ℕ × List ℕ)) → flat (xs ++ ys) ≡ flat xs ++ flat ys
flat-append [] ys = refl
flat-append (x ∷ xs) ys = ap (λ z. x.0 ++ (x.1 ++ z)) (flat-append xs ys) ∙ simp append_assoc

total-append : (xs ys : List Lengths) → total_of (xs ++ ys) ≡ total_of xs + total_of ys
total-append [] ys = omega arith
total-append (x ∷ xs) ys = omega (arith, total-append xs ys)

total-lengths : (es : List (List ℕ × List ℕ)) → total_of (map lengths_of es) ≡ length (flat es)
total-lengths [] = refl
total-lengths (e ∷ es) = omega (arith, total-lengths es, length-append e.0 (e.1 ++ flat es), length-append e.1 (flat es))

-- ---- entries and their bytes, there and back
drop_both : (n c rest : List ℕ) → drop (length n + length c) (n ++ (c ++ rest)) ≡ rest
drop_both n c rest = ap (drop (length n + length c)) (sym (append_assoc n c rest)) ∙ drop_at (n ++ c) rest (length n + length c) (length-append n c)

pub entries-flat : (es : List (List ℕ × List ℕ)) → entries_of (map lengths_of es) (flat es) ≡ es
entries-flat [] = refl
entries-flat (e ∷ es) =
    let n = take_at e.0 (e.1 ++ flat es) (length e.0) refl in
    let c = ap (take (length e.1)) (drop_at e.0 (e.1 ++ flat es) (length e.0) refl) ∙ take_at e.1 (flat es) (length e.1) refl in
    let rest = ap (entries_of (map lengths_of es)) (drop_both e.0 e.1 (flat es)) ∙ entries-flat es in
    λ i. (n i, c i) ∷ rest i

flat-entries : (ls : List Lengths) (bytes : List ℕ) → total_of ls ≤ length bytes → flat (entries_of ls bytes) ≡ take (total_of ls) bytes
flat-entries [] bytes h = refl
flat-entries (l ∷ ls) bytes h =
    let rest = flat-entries ls (drop (l.name + l.contents) bytes) (omega (arith, length-drop (l.name + l.contents) bytes)) in
    ap (λ z. take l.name bytes ++ (take l.contents (drop l.name bytes) ++ z)) rest
    ∙ sym (append_assoc (take l.name bytes) (take l.contents (drop l.name bytes)) (take (total_of ls) (drop (l.name + l.contents) bytes)))
    ∙ ap (λ z. z ++ take (total_of ls) (drop (l.name + l.contents) bytes)) (sym (take-add l.name l.contents bytes))
    ∙ sym (take-add (l.name + l.contents) (total_of ls) bytes)

lengths-entries : (ls : List Lengths) (bytes : List ℕ) → total_of ls ≤ length bytes → map lengths_of (entries_of ls bytes) ≡ ls
lengths-entries [] bytes h = refl
lengths-entries (l ∷ ls) bytes h =
    let n : length (take l.name bytes) ≡ l.name = omega (arith, length-take l.name bytes) in
    let c : length (take l.contents (drop l.name bytes)) ≡ l.contents = omega (arith, length-take l.contents (drop l.name bytes), length-drop l.name bytes) in
    let rest = lengths-entries ls (drop (l.name + l.contents) bytes) (omega (arith, length-drop (l.name + l.contents) bytes)) in
    λ i. record { name = n i; contents = c i } ∷ rest i

pub length-entries : (ls : List Lengths) (bytes : List ℕ) → length (entries_of ls bytes) ≡ length ls
length-entries [] bytes = refl
length-entries (l ∷ ls) bytes = ap suc (length-entries ls (drop (l.name + l.contents) bytes))

flat-set : (es : List (List ℕ × List ℕ)) (i : ℕ) (v : List ℕ × List ℕ) → i < length es → flat (slice_set es i v) ≡ flat (take i es) ++ (v.0 ++ (v.1 ++ flat (drop (suc i) es)))
flat-set es i v h = ap flat (set_split es i v h) ∙ flat-append (take i es) (v ∷ drop (suc i) es)

-- ---- the bytes of a table, cut at a place
pub record Cut (ls : List Lengths) (bytes : List ℕ) (i : ℕ) (own : Lengths) : Type 0 where
  pub front : List ℕ
  pub name : List ℕ
  pub contents : List ℕ
  pub back : List ℕ
  pub bytes_are : bytes ≡ front ++ (name ++ (contents ++ back))
  pub offset_is : offset_of ls i ≡ length front
  pub name_long : own.name ≡ length name
  pub contents_long : own.contents ≡ length contents
  pub entry_is : slice_index_or (entries_of ls bytes) i ([], []) ≡ (name, contents)
  pub set_is : (v : List ℕ × List ℕ) → flat (slice_set (entries_of ls bytes) i v) ≡ front ++ (v.0 ++ (v.1 ++ back))
  pub lengths_are : map lengths_of (entries_of ls bytes) ≡ ls

pub cut_at : (ls : List Lengths) (bytes : List ℕ) (i : ℕ) (own : Lengths) → IsTable ls bytes → i < length ls → own ≡ slice_index_or ls i own → Cut ls bytes i own
cut_at ls bytes i own table h is =
    let es : List (List ℕ × List ℕ) = entries_of ls bytes in
    let e : List ℕ × List ℕ = slice_index_or es i ([], []) in
    let low : i < length es = omega (arith, length-entries ls bytes) in
    let all : flat es ≡ bytes = flat-entries ls bytes (omega arith) ∙ take_all (total_of ls) bytes (omega arith) in
    let lengths : map lengths_of es ≡ ls = lengths-entries ls bytes (omega arith) in
    let mine : own ≡ lengths_of e = is ∙ ap (λ x. slice_index_or x i own) (sym lengths) ∙ get_or-map lengths_of es i ([], []) own low in
    record {
      front = flat (take i es);
      name = e.0;
      contents = e.1;
      back = flat (drop (suc i) es);
      bytes_are = sym all ∙ ap flat (sym (set-get_or es i ([], []))) ∙ flat-set es i e low;
      offset_is = ap (λ x. total_of (take i x)) (sym lengths) ∙ ap total_of (take-map lengths_of i es) ∙ total-lengths (take i es);
      name_long = ap (λ x. x.name) mine;
      contents_long = ap (λ x. x.contents) mine;
      entry_is = refl;
      set_is = λ v. flat-set es i v low;
      lengths_are = lengths;
    }

module _ (ls : List Lengths) (bytes : List ℕ) (i : ℕ) (own : Lengths) (k : Cut ls bytes i own) where
  pub cut_fits : offset_of ls i + (own.name + own.contents) ≤ length bytes
  cut_fits = omega (arith, simp length-append at (ap length k.bytes_are), k.offset_is, k.name_long, k.contents_long)

  pub name_read : (at : ℕ) → at ≡ offset_of ls i → take own.name (drop at bytes) ≡ k.name
  name_read at e =
      ap (λ x. take own.name (drop at x)) k.bytes_are
      ∙ ap (take own.name) (drop_at k.front (k.name ++ (k.contents ++ k.back)) at (sym (e ∙ k.offset_is)))
      ∙ take_at k.name (k.contents ++ k.back) own.name (sym k.name_long)

  front_long : (at : ℕ) → at ≡ offset_of ls i → length (k.front ++ k.name) ≡ at + own.name
  front_long at e = omega (arith, length-append k.front k.name, k.offset_is, k.name_long)

  pub contents_read : (at : ℕ) → at ≡ offset_of ls i → take own.contents (drop (at + own.name) bytes) ≡ k.contents
  contents_read at e =
      ap (λ x. take own.contents (drop (at + own.name) x)) (k.bytes_are ∙ sym (append_assoc k.front k.name (k.contents ++ k.back)))
      ∙ ap (take own.contents) (drop_at (k.front ++ k.name) (k.contents ++ k.back) (at + own.name) (front_long at e))
      ∙ take_at k.contents k.back own.contents (sym k.contents_long)

  -- other bytes behind the first of the contents
  pub rewritten : (at kept gone : ℕ) (fresh new : List ℕ) (now : Lengths) (next : List Lengths)
      → at ≡ offset_of ls i + own.name + kept → kept + gone ≡ own.contents → new ≡ take at bytes ++ (fresh ++ drop (at + gone) bytes)
      → next ≡ slice_set ls i now → now.name ≡ own.name → now.contents ≡ kept + length fresh
      → (entries_of next new ≡ slice_set (entries_of ls bytes) i (k.name, take kept k.contents ++ fresh)) × IsTable next new
  rewritten at kept gone fresh new now next place parts is set name contents =
      let es : List (List ℕ × List ℕ) = entries_of ls bytes in
      let left : List ℕ = take kept k.contents in
      let right : List ℕ = drop kept k.contents in
      let v : List ℕ × List ℕ = (k.name, left ++ fresh) in
      let p : List ℕ = k.front ++ (k.name ++ left) in
      let left_long : length left ≡ kept = omega (arith, length-take kept k.contents, k.contents_long) in
      let right_long : length right ≡ gone = omega (arith, length-drop kept k.contents, k.contents_long) in
      let p_long : length p ≡ at = omega (arith, length-append k.front (k.name ++ left), length-append k.name left, k.offset_is, k.name_long) in
      let whole : bytes ≡ p ++ (right ++ k.back) = k.bytes_are ∙ ap (λ c. k.front ++ (k.name ++ (c ++ k.back))) (sym (take-append-drop kept k.contents)) ∙ simp append_assoc in
      let first : take at bytes ≡ p = ap (take at) whole ∙ take_at p (right ++ k.back) at p_long in
      let last : drop (at + gone) bytes ≡ k.back = ap (drop (at + gone)) (whole ∙ sym (append_assoc p right k.back)) ∙ drop_at (p ++ right) k.back (at + gone) (omega (arith, length-append p right)) in
      let bytes_are : new ≡ flat (slice_set es i v) = is ∙ ap (λ x. x ++ (fresh ++ drop (at + gone) bytes)) first ∙ ap (λ x. p ++ (fresh ++ x)) last ∙ regroup k.front k.name left fresh k.back ∙ sym (k.set_is v) in
      let now_is : now ≡ lengths_of v = same_lengths now (length k.name) (length (left ++ fresh)) (name ∙ k.name_long) (omega (arith, length-append left fresh)) in
      let lengths_are : next ≡ map lengths_of (slice_set es i v) = set ∙ ap (slice_set ls i) now_is ∙ ap (λ x. slice_set x i (lengths_of v)) (sym k.lengths_are) ∙ sym (map-set lengths_of es i v) in
      ((λ j. entries_of (lengths_are j) (bytes_are j)) ∙ entries-flat (slice_set es i v), ap total_of lengths_are ∙ total-lengths (slice_set es i v) ∙ ap length (sym bytes_are))
    where
      regroup : (a n l f b : List ℕ) → (a ++ (n ++ l)) ++ (f ++ b) ≡ a ++ (n ++ ((l ++ f) ++ b))
      regroup a n l f b = simp append_assoc

-- ---- a name more
pub added_place : (ls : List Lengths) (bytes name contents new : List ℕ) (now : Lengths) (next : List Lengths)
    → IsTable ls bytes → new ≡ (bytes ++ name) ++ contents → next ≡ ls ++ now ∷ [] → now.name ≡ length name → now.contents ≡ length contents
    → (entries_of next new ≡ entries_of ls bytes ++ (name, contents) ∷ []) × IsTable next new
added_place ls bytes name contents new now next table is more n c =
    let es : List (List ℕ × List ℕ) = entries_of ls bytes in
    let all : flat es ≡ bytes = flat-entries ls bytes (omega arith) ∙ take_all (total_of ls) bytes (omega arith) in
    let bytes_are : new ≡ flat (es ++ (name, contents) ∷ []) = is ∙ ap (λ x. (x ++ name) ++ contents) (sym all) ∙ behind (flat es) name contents ∙ sym (flat-append es ((name, contents) ∷ [])) in
    let lengths_are : next ≡ map lengths_of (es ++ (name, contents) ∷ []) =
    more ∙ ap (λ x. ls ++ x ∷ []) (same_lengths now (length name) (length contents) n c) ∙ ap (λ x. x ++ lengths_of (name, contents) ∷ []) (sym (lengths-entries ls bytes (omega arith)))
    ∙ sym (map-append lengths_of es ((name, contents) ∷ [])) in
    ((λ j. entries_of (lengths_are j) (bytes_are j)) ∙ entries-flat (es ++ (name, contents) ∷ []), ap total_of lengths_are ∙ total-lengths (es ++ (name, contents) ∷ []) ∙ ap length (sym bytes_are))
  where
    behind : (a n c : List ℕ) → (a ++ n) ++ c ≡ a ++ (n ++ (c ++ []))
    behind a n c = simp (append_assoc, append-nil)

-- ---- the search for a name
pub next_offset : (ls : List Lengths) (i at : ℕ) (own : Lengths) → i < length ls → own ≡ slice_index_or ls i own → at ≡ offset_of ls i → at + (own.name + own.contents) ≡ offset_of ls (i + 1)
next_offset ls i at own h is e =
    let more : offset_of ls (i + 1) ≡ offset_of ls i + total_of (own ∷ []) = ap total_of (take_more ls i own h) ∙ ap (λ x. total_of (take i ls ++ x ∷ [])) (sym is) ∙ total-append (take i ls) (own ∷ []) in
    omega (arith, more)

pub others_before : (ls : List Lengths) (bytes name : List ℕ) (i : ℕ) (own : Lengths) (k : Cut ls bytes i own) → k.name ≢ name
    → ((j : ℕ) → j < i → (slice_index_or (entries_of ls bytes) j ([], [])).0 ≢ name) → (j : ℕ) → j < i + 1 → (slice_index_or (entries_of ls bytes) j ([], [])).0 ≢ name
others_before ls bytes name i own k ne old = below_more (λ j. (slice_index_or (entries_of ls bytes) j ([], [])).0 ≢ name) i old (λ same. ne (sym (ap (λ x. x.0) k.entry_is) ∙ same))

pub first_place : (ls : List Lengths) (bytes name : List ℕ) (i : ℕ) (own : Lengths) (k : Cut ls bytes i own) → i < length ls → k.name ≡ name
    → ((j : ℕ) → j < i → (slice_index_or (entries_of ls bytes) j ([], [])).0 ≢ name) → IsFirst name (entries_of ls bytes) i
first_place ls bytes name i own k h same old = (omega (arith, length-entries ls bytes), ap (λ x. x.0) k.entry_is ∙ same, old)

pub own_fits : (ls : List Lengths) (bytes : List ℕ) (i at : ℕ) (own : Lengths) → IsTable ls bytes → i < length ls → own ≡ slice_index_or ls i own → at ≡ offset_of ls i → at + (own.name + own.contents) ≤ length bytes
own_fits ls bytes i at own table h is e = omega (arith, cut_fits ls bytes i own (cut_at ls bytes i own table h is))

-- ---- a change at a place
pub grown : (ls : List Lengths) (bytes piece new : List ℕ) (i at : ℕ) (own : Lengths) → IsTable ls bytes → i < length ls → own ≡ slice_index_or ls i own → at ≡ offset_of ls i
    → new ≡ take (at + own.name + own.contents) bytes ++ (piece ++ drop (at + own.name + own.contents + 0) bytes)
    → IsReplaced (entries_of ls bytes) i ((slice_index_or (entries_of ls bytes) i ([], [])).1 ++ piece) (entries_of (slice_set ls i (record { name = own.name; contents = own.contents + length piece })) new)
    × IsTable (slice_set ls i (record { name = own.name; contents = own.contents + length piece })) new
grown ls bytes piece new i at own table h is e made =
    let k : Cut ls bytes i own = cut_at ls bytes i own table h is in
    let r = rewritten ls bytes i own k (at + own.name + own.contents) own.contents 0 piece new (record { name = own.name; contents = own.contents + length piece }) _ (omega arith) (omega arith) made refl refl refl in
    let whole : take own.contents k.contents ≡ k.contents = take_all own.contents k.contents (omega (arith, k.contents_long)) in
    (r.0 ∙ ap (λ c. slice_set (entries_of ls bytes) i (k.name, c ++ piece)) whole ∙ ap (λ x. slice_set (entries_of ls bytes) i (x.0, x.1 ++ piece)) (sym k.entry_is), r.1)

pub refilled : (ls : List Lengths) (bytes fresh new : List ℕ) (i at : ℕ) (own : Lengths) → IsTable ls bytes → i < length ls → own ≡ slice_index_or ls i own → at ≡ offset_of ls i
    → new ≡ take (at + own.name) bytes ++ (fresh ++ drop (at + own.name + own.contents) bytes)
    → IsReplaced (entries_of ls bytes) i fresh (entries_of (slice_set ls i (record { name = own.name; contents = length fresh })) new)
    × IsTable (slice_set ls i (record { name = own.name; contents = length fresh })) new
refilled ls bytes fresh new i at own table h is e made =
    let k : Cut ls bytes i own = cut_at ls bytes i own table h is in
    let r = rewritten ls bytes i own k (at + own.name) 0 own.contents fresh new (record { name = own.name; contents = length fresh }) _ (omega arith) (omega arith) made refl refl (omega arith) in
    (r.0 ∙ ap (λ x. slice_set (entries_of ls bytes) i (x.0, fresh)) (sym k.entry_is), r.1)
