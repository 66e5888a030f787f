-- Stamps that are found by the keys of a map.
use Rattle.std.proofs.Common.{◌≡◌, Bool, true, false, cond, ◌||◌, if◌then◌else◌, List, [], ◌∷◌, ◌++◌, map, refl, sym, ap, ◌∙◌, Option, Some, None, is_some}
use Rattle.std.specs.List.{list_any}
use Rattle.std.specs.Map.{lookup}
use Rattle.std.specs.Option.{option_or}
use Rattle.std.specs.Str.{bytes_eq}
use Rattle.std.specs.Cmp.Lexicographic.{nat_list_eq_equiv, same_text}
use Rattle.std.proofs.Math.Bool.{or_assoc}
use Rattle.std.proofs.lemmas.Bool.{false≢true}
use Rattle.std.proofs.lemmas.List.{map-append}
use Rattle.std.proofs.lemmas.List.Folds.{list_any-append}
use Rattle.board_text.specs.Layers.{Name, is_among}
use Rattle.board_text.specs.declared.stamped.Stamped.{Stamped}
use Rattle.board_items.specs.Stamps.{Table, stamped, stamps_of, with_stamp, with_stamps}

abbrev pub pairs : {V : Type 0} → (V → Name) → List (V × Stamped) → Table
pairs f es = map (λ e. (f e.0, e.1)) es

same : (a b : Name) → bytes_eq a b ≡ bytes_eq b a
same a b = nat_list_eq_equiv.symm a b

-- what a look-up finds
pub found_is : {V : Type 0} (f : V → Name) (q : Name) (es : List (V × Stamped)) → lookup (λ k. bytes_eq q (f k)) es ≡ stamped (pairs f es) q
found_is f q [] = refl
found_is f q (e ∷ es) = λ i. cond (same q (f e.0) i) (Some e.1) (found_is f q es i)

some_or : (b : Bool) (x : Stamped) (o : Option Stamped) → is_some (cond b (Some x) o) ≡ (b || is_some o)
some_or true x o = refl
some_or false x o = refl

-- a stamp is there where it has a thing
pub some_among : (ps : Table) (q : Name) → is_some (stamped ps q) ≡ is_among (stamps_of ps) q
some_among [] q = refl
some_among (p ∷ ps) q = some_or (bytes_eq p.0 q) p.1 (stamped ps q) ∙ ap (λ b. bytes_eq p.0 q || b) (some_among ps q)

pub among_is : {V : Type 0} (f : V → Name) (q : Name) (es : List (V × Stamped)) → is_some (lookup (λ k. bytes_eq q (f k)) es) ≡ is_among (stamps_of (pairs f es)) q
among_is f q es = ap is_some (found_is f q es) ∙ some_among (pairs f es) q

none_of : {X : Type 0} (o : Option X) → is_some o ≡ false → o ≡ None
none_of None e = refl
none_of (Some x) e = absurd (false≢true (sym e))

-- what isn't there isn't found
pub none_found : {V : Type 0} (f : V → Name) (q : Name) (es : List (V × Stamped)) → is_among (stamps_of (pairs f es)) q ≡ false → lookup (λ k. bytes_eq q (f k)) es ≡ None
none_found f q es e = none_of (lookup (λ k. bytes_eq q (f k)) es) (among_is f q es ∙ e)

-- ---- one more

pub put_more : {V : Type 0} (f : V → Name) (es new : List (V × Stamped)) (v : V) (thing : Stamped) → is_among (stamps_of (pairs f es)) (f v) ≡ false → new ≡ es ++ (v, thing) ∷ []
    → pairs f new ≡ with_stamp (pairs f es) (f v) thing
put_more f es new v thing e h =
    ap (pairs f) h ∙ map-append (λ e. (f e.0, e.1)) es ((v, thing) ∷ [])
    ∙ sym (ap (λ b. if b then pairs f es else pairs f es ++ (f v, thing) ∷ []) e)

pub put_none : (ps : Table) (stamp : Name) (thing : Stamped) → is_among (stamps_of ps) stamp ≡ true → ps ≡ with_stamp ps stamp thing
put_none ps stamp thing e = sym (ap (λ b. if b then ps else ps ++ (stamp, thing) ∷ []) e)

-- ---- all of several

or_false : (b : Bool) → (b || false) ≡ b
or_false true = refl
or_false false = refl

or_known : (a b : Bool) → (b ≡ true → a ≡ true) → a ≡ (a || b)
or_known true b k = refl
or_known false true k = k refl
or_known false false k = refl

among_more : (ps : Table) (stamp q : Name) (thing : Stamped) → is_among (stamps_of (with_stamp ps stamp thing)) q ≡ (is_among (stamps_of ps) q || bytes_eq stamp q)
among_more ps stamp q thing = by_case (is_among (stamps_of ps) stamp) refl
  where
    by_case : (b : Bool) → is_among (stamps_of ps) stamp ≡ b → is_among (stamps_of (if b then ps else ps ++ (stamp, thing) ∷ [])) q ≡ (is_among (stamps_of ps) q || bytes_eq stamp q)
    by_case true e = or_known (is_among (stamps_of ps) q) (bytes_eq stamp q) (λ s. ap (is_among (stamps_of ps)) (sym (same_text stamp q (sym s))) ∙ e)
    by_case false e =
        ap (list_any (λ other. bytes_eq other q)) (map-append (λ p. p.0) ps ((stamp, thing) ∷ []))
        ∙ list_any-append (λ other. bytes_eq other q) (stamps_of ps) (stamp ∷ [])
        ∙ ap (λ b. is_among (stamps_of ps) q || b) (or_false (bytes_eq stamp q))

-- a stamp is among the table where it was in the table before or is among those that are put in
pub among_all : (ps more : Table) (q : Name) → is_among (stamps_of (with_stamps ps more)) q ≡ (is_among (stamps_of ps) q || is_among (stamps_of more) q)
unfolding with_stamps
among_all ps [] q = sym (or_false (is_among (stamps_of ps) q))
among_all ps (p ∷ more) q =
    among_all (with_stamp ps p.0 p.1) more q
    ∙ ap (λ b. b || is_among (stamps_of more) q) (among_more ps p.0 q p.1)
    ∙ or_assoc (is_among (stamps_of ps) q) (bytes_eq p.0 q) (is_among (stamps_of more) q)

or_none : {X : Type 0} (o : Option X) → option_or o None ≡ o
or_none None = refl
or_none (Some x) = refl

option_known : {X : Type 0} (o p : Option X) → is_some o ≡ true → o ≡ option_or o p
option_known None p e = absurd (false≢true e)
option_known (Some x) p e = refl

option_assoc : {X : Type 0} (o p q : Option X) → option_or (option_or o p) q ≡ option_or o (option_or p q)
option_assoc None p q = refl
option_assoc (Some x) p q = refl

option_cond : {X : Type 0} (b : Bool) (x : X) (o : Option X) → option_or (cond b (Some x) None) o ≡ cond b (Some x) o
option_cond true x o = refl
option_cond false x o = refl

stamped_more : (ps : Table) (stamp q : Name) (thing : Stamped) → stamped (ps ++ (stamp, thing) ∷ []) q ≡ option_or (stamped ps q) (cond (bytes_eq stamp q) (Some thing) None)
stamped_more [] stamp q thing = refl
stamped_more (p ∷ ps) stamp q thing = by_test (bytes_eq p.0 q) (stamped_more ps stamp q thing)
  where
    by_test : (b : Bool) → stamped (ps ++ (stamp, thing) ∷ []) q ≡ option_or (stamped ps q) (cond (bytes_eq stamp q) (Some thing) None)
        → cond b (Some p.1) (stamped (ps ++ (stamp, thing) ∷ []) q) ≡ option_or (cond b (Some p.1) (stamped ps q)) (cond (bytes_eq stamp q) (Some thing) None)
    by_test true e = refl
    by_test false e = e

found_more : (ps : Table) (stamp q : Name) (thing : Stamped) → stamped (with_stamp ps stamp thing) q ≡ option_or (stamped ps q) (cond (bytes_eq stamp q) (Some thing) None)
found_more ps stamp q thing = by_case (is_among (stamps_of ps) stamp) refl
  where
    there : (b : Bool) → bytes_eq stamp q ≡ b → is_among (stamps_of ps) stamp ≡ true → stamped ps q ≡ option_or (stamped ps q) (cond b (Some thing) None)
    there true s e = option_known (stamped ps q) (Some thing) (some_among ps q ∙ ap (is_among (stamps_of ps)) (sym (same_text stamp q (sym s))) ∙ e)
    there false s e = sym (or_none (stamped ps q))

    by_case : (b : Bool) → is_among (stamps_of ps) stamp ≡ b → stamped (if b then ps else ps ++ (stamp, thing) ∷ []) q ≡ option_or (stamped ps q) (cond (bytes_eq stamp q) (Some thing) None)
    by_case true e = there (bytes_eq stamp q) refl e
    by_case false e = stamped_more ps stamp q thing

-- what a stamp belongs to is what it belonged to before, else the first of those that are put in
pub found_all : (ps more : Table) (q : Name) → stamped (with_stamps ps more) q ≡ option_or (stamped ps q) (stamped more q)
unfolding with_stamps
found_all ps [] q = sym (or_none (stamped ps q))
found_all ps (p ∷ more) q =
    found_all (with_stamp ps p.0 p.1) more q
    ∙ ap (λ o. option_or o (stamped more q)) (found_more ps p.0 q p.1)
    ∙ option_assoc (stamped ps q) (cond (bytes_eq p.0 q) (Some p.1) None) (stamped more q)
    ∙ ap (option_or (stamped ps q)) (option_cond (bytes_eq p.0 q) p.1 (stamped more q))
