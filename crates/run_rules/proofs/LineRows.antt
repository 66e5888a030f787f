-- The rows of a parse: what they say of the names and the options.
use Rattle.std.proofs.Common.{◌≡◌, ◌∙◌, ap, sym, refl, Bool, true, false, List, [], ◌∷◌, ◌++◌, Option, None, Some}
use Rattle.std.specs.Prelude.{option_map, is_some, unwrap_or}
use Rattle.std.specs.Str.{bytes_eq}
use Rattle.std.proofs.lemmas.Slice.Eq.{bytes_eq-Decides}
use lib.Chars.{codes}
use Rattle.clap.specs.Walk.{Row, Text, all_of, with_values, without, has_row}
use Rattle.clap.specs.declared.builder.value_parser.Reading.{Reading}
use Rattle.clap.specs.declared.parser.matches.ValueSource.TheVariants.{CommandLine}
use Rattle.run_rules.specs.declared.words.Flag.{Flag}
use Rattle.run_rules.specs.declared.words.Flag.TheVariants.{Threads, Clearance, EdgeClearance}
use Rattle.run_rules.specs.Words.{GivenWord, Settings, setting, has_flag, with_value}
use Rattle.run_rules.specs.Inner.Line.{long_name}

none≢some : {X : Type 0} {x : X} → None ≡ Some x → ⊥
none≢some e = cc e

pub with_same : (id : Text) (how : Reading) (vs : List Text) (rows : List Row) → bytes_eq id id ≡ true
    → all_of id (with_values id how CommandLine vs rows) ≡ Some (unwrap_or (all_of id rows) [] ++ vs)
with_same id how vs [] self = rw self refl
with_same id how vs (r ∷ rs) self = go (bytes_eq r.id id) refl (with_same id how vs rs self)
  where
    go : (b : Bool) → bytes_eq r.id id ≡ b → all_of id (with_values id how CommandLine vs rs) ≡ Some (unwrap_or (all_of id rs) [] ++ vs) → all_of id (with_values id how CommandLine vs (r ∷ rs)) ≡ Some (unwrap_or (all_of id (r ∷ rs)) [] ++ vs)
    go true e ih = rw e (rw e refl)
    go false e ih = rw e (rw e ih)

pub with_other : (id other : Text) (how : Reading) (vs : List Text) (rows : List Row) → bytes_eq id other ≡ false
    → all_of other (with_values id how CommandLine vs rows) ≡ all_of other rows
with_other id other how vs [] apart = rw apart refl
with_other id other how vs (r ∷ rs) apart = go (bytes_eq r.id id) refl (with_other id other how vs rs apart)
  where
    skip : (b : Bool) → bytes_eq r.id other ≡ b → bytes_eq r.id id ≡ false → all_of other (with_values id how CommandLine vs rs) ≡ all_of other rs → all_of other (with_values id how CommandLine vs (r ∷ rs)) ≡ all_of other (r ∷ rs)
    skip true f e ih = rw (e, f) refl
    skip false f e ih = rw (e, f) ih

    go : (b : Bool) → bytes_eq r.id id ≡ b → all_of other (with_values id how CommandLine vs rs) ≡ all_of other rs → all_of other (with_values id how CommandLine vs (r ∷ rs)) ≡ all_of other (r ∷ rs)
    go true e ih =
        let same : r.id ≡ id = (bytes_eq-Decides r.id id).0 e in
        let far : bytes_eq r.id other ≡ false = ap (λ t. bytes_eq t other) same ∙ apart in
        rw (e, far) refl
    go false e ih = skip (bytes_eq r.id other) refl e ih

pub without_none : (id : Text) (rows : List Row) → all_of id rows ≡ None → without id rows ≡ rows
without_none id [] none = refl
without_none id (r ∷ rs) none = go (bytes_eq r.id id) refl none (without_none id rs)
  where
    go : (b : Bool) → bytes_eq r.id id ≡ b → all_of id (r ∷ rs) ≡ None → (all_of id rs ≡ None → without id rs ≡ rs) → without id (r ∷ rs) ≡ r ∷ rs
    go true e n ih = let there : all_of id (r ∷ rs) ≡ Some r.values = rw e refl in absurd (none≢some (sym n ∙ there))
    go false e n ih = let rest : all_of id rs ≡ None = rw e at n in rw e (ap (λ all. r ∷ all) (ih rest))

pub row_there : (id : Text) (rows : List Row) → has_row id rows ≡ is_some (all_of id rows)
row_there id [] = refl
row_there id (r ∷ rs) = go (bytes_eq r.id id) refl (row_there id rs)
  where
    go : (b : Bool) → bytes_eq r.id id ≡ b → has_row id rs ≡ is_some (all_of id rs) → has_row id (r ∷ rs) ≡ is_some (all_of id (r ∷ rs))
    go true e ih = rw e refl
    go false e ih = rw e ih

-- ---- what rows hold

pub record Holds (rows : List Row) (names : List GivenWord) (s : Settings) : Type 0 where
  pub names_are : unwrap_or (all_of (codes "names") rows) [] ≡ names
  pub flags_are : (flag : Flag) → all_of (long_name flag) rows ≡ option_map (λ v. v ∷ []) (setting flag s)

pub nothing_held : Holds [] [] (record { threads = None; clearance = None; edge_clearance = None })
nothing_held = record { names_are = refl; flags_are = none }
  where
    none : (flag : Flag) → all_of (long_name flag) [] ≡ option_map (λ v. v ∷ []) (setting flag (record { threads = None; clearance = None; edge_clearance = None }))
    none Threads = refl
    none Clearance = refl
    none EdgeClearance = refl

no_name_is_flag : (flag : Flag) → bytes_eq (codes "names") (long_name flag) ≡ false
no_name_is_flag Threads = refl
no_name_is_flag Clearance = refl
no_name_is_flag EdgeClearance = refl

no_flag_is_name : (flag : Flag) → bytes_eq (long_name flag) (codes "names") ≡ false
no_flag_is_name Threads = refl
no_flag_is_name Clearance = refl
no_flag_is_name EdgeClearance = refl

flag_is_itself : (flag : Flag) → bytes_eq (long_name flag) (long_name flag) ≡ true
flag_is_itself Threads = refl
flag_is_itself Clearance = refl
flag_is_itself EdgeClearance = refl

pub name_held : (rows : List Row) (names : List GivenWord) (s : Settings) (how : Reading) (word : GivenWord) → Holds rows names s
    → Holds (with_values (codes "names") how CommandLine (word ∷ []) rows) (names ++ word ∷ []) s
name_held rows names s how word h = record {
  names_are = ap (λ o. unwrap_or o []) (with_same (codes "names") how (word ∷ []) rows refl) ∙ ap (λ all. all ++ word ∷ []) h.names_are;
  flags_are = λ flag. with_other (codes "names") (long_name flag) how (word ∷ []) rows (no_name_is_flag flag) ∙ h.flags_are flag;
}

no_value : (flag : Flag) (s : Settings) → has_flag flag s ≡ false → setting flag s ≡ None
no_value flag s e = go (setting flag s) e
  where
    go : (o : Option GivenWord) → is_some o ≡ false → o ≡ None
    go None h = refl
    go (Some v) h = absurd (cc h)

-- no row has it where the option isn't there
pub no_row : (rows : List Row) (names : List GivenWord) (s : Settings) (flag : Flag) → has_flag flag s ≡ false → Holds rows names s → all_of (long_name flag) rows ≡ None
no_row rows names s flag e h = h.flags_are flag ∙ ap (option_map (λ v. v ∷ [])) (no_value flag s e)

pub row_is_flag : (rows : List Row) (names : List GivenWord) (s : Settings) (flag : Flag) → Holds rows names s → has_row (long_name flag) rows ≡ has_flag flag s
row_is_flag rows names s flag h = row_there (long_name flag) rows ∙ ap is_some (h.flags_are flag) ∙ go (setting flag s)
  where
    go : (o : Option GivenWord) → is_some (option_map (λ v. v ∷ []) o) ≡ is_some o
    go None = refl
    go (Some v) = refl

pub flag_held : (rows : List Row) (names : List GivenWord) (s : Settings) (how : Reading) (flag : Flag) (v : GivenWord) → has_flag flag s ≡ false → Holds rows names s
    → Holds (with_values (long_name flag) how CommandLine (v ∷ []) (without (long_name flag) rows)) names (with_value flag v s)
flag_held rows names s how flag v e h = record {
  names_are = ap (λ o. unwrap_or o []) (ap (λ rs. all_of (codes "names") (with_values (long_name flag) how CommandLine (v ∷ []) rs)) bare
      ∙ with_other (long_name flag) (codes "names") how (v ∷ []) rows (no_flag_is_name flag)) ∙ h.names_are;
  flags_are = λ other. ap (λ rs. all_of (long_name other) (with_values (long_name flag) how CommandLine (v ∷ []) rs)) bare ∙ flags flag other here h.flags_are;
}
  where
    bare : without (long_name flag) rows ≡ rows
    bare = without_none (long_name flag) rows (no_row rows names s flag e h)

    here : all_of (long_name flag) (with_values (long_name flag) how CommandLine (v ∷ []) rows) ≡ Some (v ∷ [])
    here = with_same (long_name flag) how (v ∷ []) rows (flag_is_itself flag) ∙ ap (λ o. Some (unwrap_or o [] ++ v ∷ [])) (no_row rows names s flag e h)

    flags : (f other : Flag) → all_of (long_name f) (with_values (long_name f) how CommandLine (v ∷ []) rows) ≡ Some (v ∷ [])
        → ((g : Flag) → all_of (long_name g) rows ≡ option_map (λ x. x ∷ []) (setting g s))
        → all_of (long_name other) (with_values (long_name f) how CommandLine (v ∷ []) rows) ≡ option_map (λ x. x ∷ []) (setting other (with_value f v s))
    flags Threads Threads k g = k
    flags Threads Clearance k g = with_other (codes "threads") (codes "clearance") how (v ∷ []) rows refl ∙ g Clearance
    flags Threads EdgeClearance k g = with_other (codes "threads") (codes "edge-clearance") how (v ∷ []) rows refl ∙ g EdgeClearance
    flags Clearance Threads k g = with_other (codes "clearance") (codes "threads") how (v ∷ []) rows refl ∙ g Threads
    flags Clearance Clearance k g = k
    flags Clearance EdgeClearance k g = with_other (codes "clearance") (codes "edge-clearance") how (v ∷ []) rows refl ∙ g EdgeClearance
    flags EdgeClearance Threads k g = with_other (codes "edge-clearance") (codes "threads") how (v ∷ []) rows refl ∙ g Threads
    flags EdgeClearance Clearance k g = with_other (codes "edge-clearance") (codes "clearance") how (v ∷ []) rows refl ∙ g Clearance
    flags EdgeClearance EdgeClearance k g = k
