-- Bytes that lead behind a list spell a tree.
use Rattle.std.proofs.Common.{◌≡◌, ◌⊎◌, ℕ, zero, suc, ◌+◌, ◌-◌, ◌<◌, ◌≤◌, Bool, true, false, ◌==◌, List, length, slice_index, refl, sym, ◌∙◌, ap, subst, inl, inr, arith, eq-eqb}
use Rattle.sexpr_text.specs.Grammar.{Forest, Items, Spelt, IsWhite, is_space, is_word, is_escaped}
use Rattle.sexpr_text.specs.Grammar.Forest.{Nil, Word, Text, Group}
use Rattle.sexpr_text.proofs.Steps.{white_at, white_joined, widened}
use Rattle.sexpr_text.proofs.Unique.{word_solid}
use Rattle.std.specs.Str.{IsUtf8}
use Rattle.sexpr_text.proofs.Local.{items_order}
use Rattle.sexpr_text.proofs.Strings.{is_escaped-next}
use Rattle.sexpr_text.specs.Inner.Spot.{TextSpot, step, text_spot, opened, closed}
use Rattle.sexpr_text.specs.Inner.Spot.TextSpot.{Before, Inside, Quoted, Behind, Lost}
use Rattle.sexpr_text.proofs.Spots.{next, lost_on}
use Rattle.sexpr_text.proofs.Numbers.{compared}

-- items up to a closing parenthesis
pub record Upto (bytes : List ℕ) (room at : ℕ) : Type 0 where
  pub end : ℕ
  pub tree : Forest
  pub items : Items bytes room at end tree
  pub within : end < length bytes
  pub closing : slice_index bytes end ≡ 41

-- items up to the end of each list that is open, and white space
abbrev pub Rest : List ℕ → ℕ → ℕ → ℕ → Type 0
Rest bytes zero room at = (u : Upto bytes room at) × IsWhite bytes (u.end + 1) (length bytes)
Rest bytes (suc outer) room at = (u : Upto bytes room at) × Rest bytes outer (room + 1) (u.end + 1)

pub mapped : (bytes : List ℕ) (outer room at at' : ℕ) → ((end : ℕ) (f : Forest) → end < length bytes → slice_index bytes end ≡ 41 → Items bytes room at end f → (g : Forest) × Items bytes room at' end g)
    → Rest bytes outer room at → Rest bytes outer room at'
mapped bytes zero room at at' f (u, w) =
    let g : (g : Forest) × Items bytes room at' u.end g = f u.end u.tree u.within u.closing u.items in
    (record { end = u.end; tree = g.0; items = g.1; within = u.within; closing = u.closing }, w)
mapped bytes (suc outer) room at at' f (u, w) =
    let g : (g : Forest) × Items bytes room at' u.end g = f u.end u.tree u.within u.closing u.items in
    (record { end = u.end; tree = g.0; items = g.1; within = u.within; closing = u.closing }, w)

-- a closing string
pub record Closes (bytes : List ℕ) (inside m : ℕ) : Type 0 where
  pub last : ℕ
  pub order : m ≤ last
  pub within : inside + last < length bytes
  pub closing : slice_index bytes (inside + last) ≡ 34
  pub ends : is_escaped bytes inside last ≡ false
  pub first : (j : ℕ) → m ≤ j → j < last → slice_index bytes (inside + j) ≡ 34 → is_escaped bytes inside j ≡ true

abbrev pub Done : List ℕ → Type 0
Done bytes = text_spot bytes (length bytes) ≡ Behind

abbrev pub InsideOk : List ℕ → ℕ → Type 0
InsideOk bytes n = (k outer room : ℕ) → k + n ≡ length bytes → room + outer ≡ 63 → text_spot bytes k ≡ Inside room → Rest bytes outer room k

abbrev pub QuotedOk : List ℕ → ℕ → Type 0
QuotedOk bytes n = (k inside m outer room : ℕ) → k ≡ inside + m → k + n ≡ length bytes → room + outer ≡ 63
    → text_spot bytes k ≡ Quoted room (is_escaped bytes inside m) → (c : Closes bytes inside m) × Rest bytes outer room (inside + c.last + 1)

abbrev pub BehindOk : List ℕ → ℕ → Type 0
BehindOk bytes n = (k : ℕ) → k + n ≡ length bytes → text_spot bytes k ≡ Behind → IsWhite bytes k (length bytes)

pub white_one : (bytes : List ℕ) (k : ℕ) → k < length bytes → is_space (slice_index bytes k) ≡ true → IsWhite bytes k (k + 1)
white_one bytes k h s = record {
  order = omega arith;
  within = omega arith;
  each = λ j low high. let e : j ≡ k = omega arith in rw e s;
}

-- where a byte leads
pub after : (bytes : List ℕ) (k : ℕ) (s t : TextSpot) → text_spot bytes k ≡ s → step s (slice_index bytes k) ≡ t → text_spot bytes (k + 1) ≡ t
after bytes k s t e f = next bytes k (k + 1) refl ∙ ap (λ x. step x (slice_index bytes k)) e ∙ f

pub not_lost : (bytes : List ℕ) (k : ℕ) → k ≤ length bytes → Done bytes → text_spot bytes k ≡ Lost → ⊥
not_lost bytes k h d e =
    let f : text_spot bytes (length bytes) ≡ Lost = lost_on bytes k (length bytes - k) (length bytes) (omega arith) e in
    let g : Lost ≡ Behind = sym f ∙ d in absurd cc

pub behind_step : (bytes : List ℕ) (n : ℕ) → Done bytes → BehindOk bytes n → BehindOk bytes (suc n)
behind_step bytes n d ok k e s = on (is_space (slice_index bytes k)) refl
  where
    on : (b : Bool) → is_space (slice_index bytes k) ≡ b → IsWhite bytes k (length bytes)
    on true q = white_joined bytes k (k + 1) (length bytes) (white_one bytes k (omega arith) q) (ok (k + 1) (omega arith) (after bytes k Behind Behind s (rw q refl)))
    on false q = absurd (not_lost bytes (k + 1) (omega arith) d (after bytes k Behind Lost s (rw q refl)))

pub quoted_step : (bytes : List ℕ) (n : ℕ) → InsideOk bytes n → QuotedOk bytes n → QuotedOk bytes (suc n)
quoted_step bytes n io qo k inside m outer room p e r s = on (is_escaped bytes inside m) refl (slice_index bytes k == 34) refl
  where
    at : inside + m ≡ k
    at = omega arith

    -- the byte is passed over
    pass : (next : Bool) → is_escaped bytes inside (m + 1) ≡ next → text_spot bytes (k + 1) ≡ Quoted room next
        → (slice_index bytes (inside + m) ≡ 34 → is_escaped bytes inside m ≡ true) → (c : Closes bytes inside m) × Rest bytes outer room (inside + c.last + 1)
    pass next f g h =
        let t : (c : Closes bytes inside (m + 1)) × Rest bytes outer room (inside + c.last + 1) =
        qo (k + 1) inside (m + 1) outer room (omega arith) (omega arith) r (g ∙ ap (Quoted room) (sym f)) in (
          record {
            last = t.0.last;
            order = omega (arith, t.0.order);
            within = t.0.within;
            closing = t.0.closing;
            ends = t.0.ends;
            first = λ j low high quote. elim (split j) [
              | inl same ↦ let u : slice_index bytes (inside + m) ≡ 34 = subst (λ x. slice_index bytes (inside + x) ≡ 34) same quote in rw same (h u)
              | inr more ↦ t.0.first j (omega arith) high quote
            ];
          },
          t.1,
        )
      where
        split : (j : ℕ) → (j ≡ m) ⊎ ((j < m) ⊎ (m < j))
        split j = compared j m

    on : (b : Bool) → is_escaped bytes inside m ≡ b → (c : Bool) → (slice_index bytes k == 34) ≡ c → (c : Closes bytes inside m) × Rest bytes outer room (inside + c.last + 1)
    on true q c w = pass false (is_escaped-next bytes inside m (m + 1) refl ∙ rw q refl) (after bytes k (Quoted room true) (Quoted room false) (s ∙ ap (Quoted room) q) refl) (λ h. q)
    on false q true w =
        let quote : slice_index bytes k ≡ 34 = grind arith in
        let t : Rest bytes outer room (k + 1) = io (k + 1) outer room (omega arith) r (after bytes k (Quoted room false) (Inside room) (s ∙ ap (Quoted room) q) (rw quote refl)) in (
          record {
            last = m;
            order = omega arith;
            within = omega arith;
            closing = rw at quote;
            ends = q;
            first = λ j low high h. absurd (omega arith);
          },
          subst (λ x. Rest bytes outer room (x + 1)) (sym at) t,
        )
    on false q false w = pass (slice_index bytes k == 92) (is_escaped-next bytes inside m (m + 1) refl ∙ rw (q, at) refl)
        (after bytes k (Quoted room false) (Quoted room (slice_index bytes k == 92)) (s ∙ ap (Quoted room) q) (rw w refl))
        (λ h. let u : slice_index bytes k ≡ 34 = subst (λ x. slice_index bytes x ≡ 34) at h in let v : (slice_index bytes k == 34) ≡ true = eq-eqb (slice_index bytes k) 34 u in let x : false ≡ true = sym w ∙ v in absurd cc)

-- a word's byte before items
pub alone : (bytes : List ℕ) (room k end : ℕ) (f : Forest) → k < length bytes → is_word (slice_index bytes k) ≡ true → (k + 1 < length bytes → is_word (slice_index bytes (k + 1)) ≡ false)
    → Items bytes room (k + 1) end f → (g : Forest) × Items bytes room k end g
alone bytes room k end f h w l i = (
  Word k (k + 1) f,
  (
    white_at bytes k (omega arith),
    record {
      order = omega arith;
      within = omega arith;
      each = λ j low high. let e : j ≡ k = omega arith in rw e w;
      longest = l;
    },
    i,
  ),
)

pub no_white : (bytes : List ℕ) (k p : ℕ) → is_word (slice_index bytes k) ≡ true → IsWhite bytes k p → k ≡ p
no_white bytes k p h w =
    elim (compared k p) [
      | inl same ↦ same
      | inr (inl less) ↦
          let e : is_space (slice_index bytes k) ≡ true = w.each k (omega arith) less in
          let f : is_space (slice_index bytes k) ≡ false = word_solid (slice_index bytes k) h in
          let g : true ≡ false = sym e ∙ f in absurd cc
      | inr (inr more) ↦ absurd (omega (arith, w.order))
    ]

pub no_word : (bytes : List ℕ) (k p c : ℕ) → is_word (slice_index bytes k) ≡ true → IsWhite bytes k p → slice_index bytes p ≡ c → is_word c ≡ false → ⊥
no_word bytes k p c h w e f =
    let s : k ≡ p = no_white bytes k p h w in
    let g : is_word (slice_index bytes k) ≡ false = rw (s, e) f in
    let x : true ≡ false = sym h ∙ g in cc

pub joined : (bytes : List ℕ) (room k end : ℕ) (f : Forest) → k < length bytes → is_word (slice_index bytes k) ≡ true → is_word (slice_index bytes (k + 1)) ≡ true
    → slice_index bytes end ≡ 41 → Items bytes room (k + 1) end f → (g : Forest) × Items bytes room k end g
joined bytes room k end Nil h w v c i = absurd (no_word bytes (k + 1) end 41 v i c refl)
joined bytes room k end (Word from to rest) h w v c i =
    let same : k + 1 ≡ from = no_white bytes (k + 1) from v i.0 in (
      Word k to rest,
      (
        white_at bytes k (omega arith),
        record {
          order = omega (arith, i.1.order);
          within = i.1.within;
          each = λ j low high. elim (compared j k) [
            | inl e ↦ rw e w
            | inr other ↦ i.1.each j (omega arith) high
          ];
          longest = i.1.longest;
        },
        i.2,
      ),
    )
joined bytes room k end (Text from to rest) h w v c i = absurd (no_word bytes (k + 1) from 34 v i.0 i.1.opening refl)
joined bytes room k end (Group from to inner rest) h w v c i = absurd (no_word bytes (k + 1) from 40 v i.0 i.1.opening refl)

pub add_word : (bytes : List ℕ) (room k end : ℕ) (f : Forest) → k < length bytes → is_word (slice_index bytes k) ≡ true
    → slice_index bytes end ≡ 41 → Items bytes room (k + 1) end f → (g : Forest) × Items bytes room k end g
add_word bytes room k end f h w c i = on (is_word (slice_index bytes (k + 1))) refl
  where
    on : (b : Bool) → is_word (slice_index bytes (k + 1)) ≡ b → (g : Forest) × Items bytes room k end g
    on true v = joined bytes room k end f h w v c i
    on false v = alone bytes room k end f h w (λ l. v) i

-- a list before items
pub add_group : (bytes : List ℕ) (outer room k : ℕ) → k < length bytes → slice_index bytes k ≡ 40 → (u : Upto bytes room (k + 1)) → Rest bytes outer (room + 1) (u.end + 1) → k + 1 ≤ u.end → Rest bytes outer (room + 1) k
add_group bytes outer room k h c u r o = mapped bytes outer (room + 1) (u.end + 1) k (λ end f low closing i. (
  Group k (u.end + 1) u.tree f,
  (
    white_at bytes k (omega arith),
    record {
      opening = c;
      order = omega arith;
      within = omega (arith, u.within);
      closing = let e : u.end + 1 - 1 ≡ u.end = omega arith in rw e u.closing;
      deep = omega arith;
    },
    let e : u.end ≡ u.end + 1 - 1 = omega arith in let d : room ≡ room + 1 - 1 = omega arith in
        subst (λ x. Items bytes x (k + 1) (u.end + 1 - 1) u.tree) d (subst (λ x. Items bytes room (k + 1) x u.tree) e u.items),
    i,
  ),
)) r

-- a string before items
pub add_string : (bytes : List ℕ) (outer room k : ℕ) → k < length bytes → slice_index bytes k ≡ 34 → (c : Closes bytes (k + 1) 0) → Rest bytes outer room (k + 1 + c.last + 1) → Rest bytes outer room k
add_string bytes outer room k h q c r = mapped bytes outer room (k + 1 + c.last + 1) k (λ end f low closing i.
    let e : k + 1 + c.last + 1 - 1 ≡ k + 1 + c.last = omega arith in
    let d : k + 1 + c.last + 1 - 1 - (k + 1) ≡ c.last = omega arith in (
      Text k (k + 1 + c.last + 1) f,
      (
        white_at bytes k (omega arith),
        record {
          opening = q;
          order = omega arith;
          within = omega (arith, c.within);
          closing = rw e c.closing;
          ends = rw d c.ends;
          first = λ j less quote. c.first j (omega arith) (omega arith) quote;
        },
        i,
      ),
    )) r

-- an opening parenthesis
open_step : (bytes : List ℕ) (n k outer room : ℕ) → Done bytes → InsideOk bytes n → k + suc n ≡ length bytes → room + outer ≡ 63 → slice_index bytes k ≡ 40
    → text_spot bytes (k + 1) ≡ opened room → Rest bytes outer room k
open_step bytes n k outer zero d io e r c s = absurd (not_lost bytes (k + 1) (omega arith) d s)
open_step bytes n k outer (suc room) d io e r c s =
    let t : Rest bytes (suc outer) room (k + 1) = io (k + 1) (suc outer) room (omega arith) (omega arith) s in
    let i : suc room ≡ room + 1 = omega arith in
    rw i (add_group bytes outer room k (omega arith) c t.0 t.1 (items_order bytes room (k + 1) t.0.end t.0.tree t.0.items))

-- a closing parenthesis
close_step : (bytes : List ℕ) (n k outer room : ℕ) → InsideOk bytes n → BehindOk bytes n → k + suc n ≡ length bytes → room + outer ≡ 63 → slice_index bytes k ≡ 41
    → text_spot bytes (k + 1) ≡ closed room → Rest bytes outer room k
close_step bytes n k zero room io bo e r c s =
    let f : (room == 63) ≡ true = grind (arith, r) in
    let w : IsWhite bytes (k + 1) (length bytes) = bo (k + 1) (omega arith) (s ∙ rw f refl) in
    (record { end = k; tree = Nil; items = white_at bytes k (omega arith); within = omega arith; closing = c }, w)
close_step bytes n k (suc outer) room io bo e r c s =
    let f : (room == 63) ≡ false = grind (arith, r) in
    let t : Rest bytes outer (room + 1) (k + 1) = io (k + 1) outer (room + 1) (omega arith) (omega arith) (s ∙ rw f refl) in
    (record { end = k; tree = Nil; items = white_at bytes k (omega arith); within = omega arith; closing = c }, t)

inside_step : (bytes : List ℕ) (n : ℕ) → Done bytes → InsideOk bytes n → QuotedOk bytes n → BehindOk bytes n → InsideOk bytes (suc n)
inside_step bytes n d io qo bo k outer room e r s =
    on (slice_index bytes k == 40) refl (slice_index bytes k == 41) refl (slice_index bytes k == 34) refl (is_space (slice_index bytes k)) refl
  where
    here : (t : TextSpot) → step (Inside room) (slice_index bytes k) ≡ t → text_spot bytes (k + 1) ≡ t
    here t f = after bytes k (Inside room) t s f

    on : (a : Bool) → (slice_index bytes k == 40) ≡ a → (b : Bool) → (slice_index bytes k == 41) ≡ b → (c : Bool) → (slice_index bytes k == 34) ≡ c
        → (w : Bool) → is_space (slice_index bytes k) ≡ w → Rest bytes outer room k
    on true p b q c t w v = let g : slice_index bytes k ≡ 40 = grind arith in open_step bytes n k outer room d io e r g (here (opened room) (rw g refl))
    on false p true q c t w v = let g : slice_index bytes k ≡ 41 = grind arith in close_step bytes n k outer room io bo e r g (here (closed room) (rw g refl))
    on false p false q true t w v =
        let g : slice_index bytes k ≡ 34 = grind arith in
        let x : (c : Closes bytes (k + 1) 0) × Rest bytes outer room (k + 1 + c.last + 1) = qo (k + 1) (k + 1) 0 outer room (omega arith) (omega arith) r (here (Quoted room false) (rw g refl)) in
        add_string bytes outer room k (omega arith) g x.0 x.1
    on false p false q false t true v =
        mapped bytes outer room (k + 1) k (λ end f low closing i. (f, widened bytes room k (k + 1) end f (white_one bytes k (omega arith) v) i))
        (io (k + 1) outer room (omega arith) r (here (Inside room) (rw (p, q, t) refl)))
    on false p false q false t false v =
        let word : is_word (slice_index bytes k) ≡ true = rw (v, p, q, t) refl in
        mapped bytes outer room (k + 1) k (λ end f low closing i. add_word bytes room k end f (omega arith) word closing i)
        (io (k + 1) outer room (omega arith) r (here (Inside room) (rw (p, q, t) refl)))

all_ok : (bytes : List ℕ) → Done bytes → (n : ℕ) → InsideOk bytes n × QuotedOk bytes n × BehindOk bytes n
all_ok bytes d zero = (
  λ k outer room e r s. let f : k ≡ length bytes = omega arith in let g : Inside room ≡ Behind = sym s ∙ rw f d in absurd cc,
  λ k inside m outer room p e r s. let f : k ≡ length bytes = omega arith in let g : Quoted room (is_escaped bytes inside m) ≡ Behind = sym s ∙ rw f d in absurd cc,
  λ k e s. let f : length bytes ≡ k = omega arith in rw f (white_at bytes k (omega arith)),
)
all_ok bytes d (suc n) =
    let t : InsideOk bytes n × QuotedOk bytes n × BehindOk bytes n = all_ok bytes d n in
    (inside_step bytes n d t.0 t.1 t.2, quoted_step bytes n t.0 t.1, behind_step bytes n d t.2)

-- the one list behind white space
pub record Whole (bytes : List ℕ) (k : ℕ) : Type 0 where
  pub from : ℕ
  pub white : IsWhite bytes k from
  pub within : from < length bytes
  pub opening : slice_index bytes from ≡ 40
  pub rest : Rest bytes 0 63 (from + 1)

whole : (bytes : List ℕ) → Done bytes → (n k : ℕ) → k + n ≡ length bytes → text_spot bytes k ≡ Before → Whole bytes k
whole bytes d zero k e s = let f : k ≡ length bytes = omega arith in let g : Before ≡ Behind = sym s ∙ rw f d in absurd cc
whole bytes d (suc n) k e s = on (λ t. whole bytes d n (k + 1) (omega arith) t) (is_space (slice_index bytes k)) refl (slice_index bytes k == 40) refl
  where
    on : (text_spot bytes (k + 1) ≡ Before → Whole bytes (k + 1)) → (a : Bool) → is_space (slice_index bytes k) ≡ a → (b : Bool) → (slice_index bytes k == 40) ≡ b → Whole bytes k
    on ih true p b q =
        let t : Whole bytes (k + 1) = ih (after bytes k Before Before s (rw p refl)) in
        record { from = t.from; white = white_joined bytes k (k + 1) t.from (white_one bytes k (omega arith) p) t.white; within = t.within; opening = t.opening; rest = t.rest }
    on ih false p true q =
        let g : slice_index bytes k ≡ 40 = grind arith in
        record {
          from = k;
          white = white_at bytes k (omega arith);
          within = omega arith;
          opening = g;
          rest = (all_ok bytes d n).0 (k + 1) 0 63 (omega arith) refl (after bytes k Before (Inside 63) s (rw g refl));
        }
    on ih false p false q = absurd (not_lost bytes (k + 1) (omega arith) d (after bytes k Before Lost s (rw (p, q) refl)))

-- bytes of UTF-8 that lead behind a list spell a tree
pub behind_spelt : (bytes : List ℕ) → IsUtf8 bytes → Done bytes → (tree : Forest) × Spelt bytes tree
behind_spelt bytes u d =
    let t : Whole bytes 0 = whole bytes d (length bytes) 0 (omega arith) refl in
    let w : Upto bytes 63 (t.from + 1) = t.rest.0 in
    let o : t.from + 1 ≤ w.end = items_order bytes 63 (t.from + 1) w.end w.tree w.items in (
      Group t.from (w.end + 1) w.tree Nil,
      record {
        utf8 = u;
        list = tt;
        items = (
          t.white,
          record {
            opening = t.opening;
            order = omega arith;
            within = omega (arith, w.within);
            closing = let e : w.end + 1 - 1 ≡ w.end = omega arith in rw e w.closing;
            deep = omega arith;
          },
          let e : w.end ≡ w.end + 1 - 1 = omega arith in subst (λ x. Items bytes 63 (t.from + 1) x w.tree) e w.items,
          t.rest.1,
        );
      },
    )
