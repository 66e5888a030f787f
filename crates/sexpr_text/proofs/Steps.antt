-- The steps of the reader, over plain values.
use Rattle.std.proofs.Common.{◌≡◌, ℕ, ◌+◌, ◌-◌, ◌<◌, ◌≤◌, false, List, [], ◌∷◌, ◌++◌, length, slice_index, refl, sym, ◌∙◌, ap, subst, inl, inr, arith, append_assoc, length-append, Result, Err, rules}
use Rattle.sexpr_text.specs.Grammar.{Forest, Items, IsWhite, IsWord, IsString, IsBracket, is_space}
use Rattle.sexpr_text.specs.Grammar.Forest.{Nil, Word, Text, Group}
use Rattle.sexpr_text.specs.Flat.{Shown, count, numbers, flat}
use Rattle.sexpr_text.specs.declared.NodeKind as kinds
use Rattle.sexpr_text.specs.declared.NodeKind.TheVariants as kind
use Rattle.sexpr_text.specs.Inner.Run.{Reads, Stops, Through, NoItems}
use Rattle.sexpr_text.proofs.Unique.{same_word, same_string, Begins, begins, begins_word, begins_string, same_begin, sort_below, one_reading, inner_stops, kind_of, place, same_start}
use Rattle.sexpr_text.proofs.Numbers.{below_or_past}

-- one list of items and then another
abbrev pub append : Forest → Forest → Forest
append Nil g = g
append (Word from to rest) g = Word from to (append rest g)
append (Text from to rest) g = Text from to (append rest g)
append (Group from to inner rest) g = Group from to inner (append rest g)

pub count-append : (f g : Forest) → count (append f g) ≡ count f + count g
count-append Nil g = omega arith
count-append (Word from to rest) g = omega (arith, count-append rest g)
count-append (Text from to rest) g = omega (arith, count-append rest g)
count-append (Group from to inner rest) g = omega (arith, count-append rest g)

pub numbers-append : (n : ℕ) (f g : Forest) → numbers n (append f g) ≡ numbers n f ++ numbers (n + count f) g
numbers-append n Nil g = let e : n + 0 ≡ n = omega arith in rw e refl
numbers-append n (Word from to rest) g = let e : n + (1 + count rest) ≡ n + 1 + count rest = omega arith in rw (e, numbers-append (n + 1) rest g) refl
numbers-append n (Text from to rest) g = let e : n + (1 + count rest) ≡ n + 1 + count rest = omega arith in rw (e, numbers-append (n + 1) rest g) refl
numbers-append n (Group from to inner rest) g =
    let e : n + (count inner + 1 + count rest) ≡ n + count inner + 1 + count rest = omega arith in rw (e, numbers-append (n + count inner + 1) rest g) refl

pub flat-append : (n : ℕ) (f g : Forest) → flat n (append f g) ≡ flat n f ++ flat (n + count f) g
flat-append n Nil g = let e : n + 0 ≡ n = omega arith in rw e refl
flat-append n (Word from to rest) g = let e : n + (1 + count rest) ≡ n + 1 + count rest = omega arith in rw (e, flat-append (n + 1) rest g) refl
flat-append n (Text from to rest) g = let e : n + (1 + count rest) ≡ n + 1 + count rest = omega arith in rw (e, flat-append (n + 1) rest g) refl
flat-append n (Group from to inner rest) g =
    let e : n + (count inner + 1 + count rest) ≡ n + count inner + 1 + count rest = omega arith in rw (e, flat-append (n + count inner + 1) rest g, append_assoc) refl

pub length-flat : (n : ℕ) (f : Forest) → length (flat n f) ≡ count f
length-flat n Nil = refl
length-flat n (Word from to rest) = omega (arith, length-flat (n + 1) rest)
length-flat n (Text from to rest) = omega (arith, length-flat (n + 1) rest)
length-flat n (Group from to inner rest) = simp length-append (omega (arith, length-flat n inner, length-flat (n + count inner + 1) rest))

pub white_at : (bytes : List ℕ) (at : ℕ) → at ≤ length bytes → IsWhite bytes at at
white_at bytes at h = record { order = omega arith; within = h; each = λ k low high. absurd (omega arith) }

pub white_joined : (bytes : List ℕ) (at mid to : ℕ) → IsWhite bytes at mid → IsWhite bytes mid to → IsWhite bytes at to
white_joined bytes at mid to a b = record {
  order = omega (arith, a.order, b.order);
  within = b.within;
  each = λ k low high. elim (below_or_past k mid) [ inl less ↦ a.each k low less | inr more ↦ b.each k more high ];
}

-- white space before a list of items
pub widened : (bytes : List ℕ) (room at mid end : ℕ) (f : Forest) → IsWhite bytes at mid → Items bytes room mid end f → Items bytes room at end f
widened bytes room at mid end Nil w h = white_joined bytes at mid end w h
widened bytes room at mid end (Word from to rest) w h = (white_joined bytes at mid from w h.0, h.1, h.2)
widened bytes room at mid end (Text from to rest) w h = (white_joined bytes at mid from w h.0, h.1, h.2)
widened bytes room at mid end (Group from to inner rest) w h = (white_joined bytes at mid from w h.0, h.1, h.2, h.3)

pub Items-append : (bytes : List ℕ) (room at mid end : ℕ) (f g : Forest) → Items bytes room at mid f → Items bytes room mid end g → Items bytes room at end (append f g)
Items-append bytes room at mid end Nil g h i = widened bytes room at mid end g h i
Items-append bytes room at mid end (Word from to rest) g h i = (h.0, h.1, Items-append bytes room to mid end rest g h.2 i)
Items-append bytes room at mid end (Text from to rest) g h i = (h.0, h.1, Items-append bytes room to mid end rest g h.2 i)
Items-append bytes room at mid end (Group from to inner rest) g h i = (h.0, h.1, h.2, Items-append bytes room to mid end rest g h.3 i)

pub reads_none : (bytes : List ℕ) (room at : ℕ) (old : List Shown) → at ≤ length bytes → Reads bytes room at at old old []
reads_none bytes room at old h = record { tree = Nil; items = white_at bytes at h; nodes = search rules; numbered = refl }

pub reads_more : (bytes : List ℕ) (room start at to : ℕ) (old mid new : List Shown) (ids more : List ℕ)
    → Reads bytes room start at old mid ids → Reads bytes room at to mid new more → Reads bytes room start to old new (ids ++ more)
reads_more bytes room start at to old mid new ids more a b =
    let e : length mid ≡ length old + count a.tree = ap length a.nodes ∙ length-append old (flat (length old) a.tree) ∙ ap (λ n. length old + n) (length-flat (length old) a.tree) in
    record {
      tree = append a.tree b.tree;
      items = Items-append bytes room start at to a.tree b.tree a.items b.items;
      nodes = b.nodes ∙ ap (λ n. mid ++ flat n b.tree) e ∙ ap (λ xs. xs ++ flat (length old + count a.tree) b.tree) a.nodes
          ∙ append_assoc old (flat (length old) a.tree) (flat (length old + count a.tree) b.tree) ∙ ap (λ xs. old ++ xs) (sym (flat-append (length old) a.tree b.tree));
      numbered = ap (λ xs. xs ++ more) a.numbered ∙ ap (λ xs. numbers (length old) a.tree ++ xs) (b.numbered ∙ ap (λ n. numbers n b.tree) e) ∙ sym (numbers-append (length old) a.tree b.tree);
    }

-- white space before what was read
pub reads_wider : (bytes : List ℕ) (room at mid to : ℕ) (old new : List Shown) (ids : List ℕ) → IsWhite bytes at mid → Reads bytes room mid to old new ids → Reads bytes room at to old new ids
reads_wider bytes room at mid to old new ids w a = record { tree = a.tree; items = widened bytes room at mid to a.tree w a.items; nodes = a.nodes; numbered = a.numbered }

-- white space behind what was read
append-nil : (f : Forest) → append f Nil ≡ f
append-nil Nil = refl
append-nil (Word from to rest) = ap (Word from to) (append-nil rest)
append-nil (Text from to rest) = ap (Text from to) (append-nil rest)
append-nil (Group from to inner rest) = ap (Group from to inner) (append-nil rest)

pub reads_end : (bytes : List ℕ) (room start at to : ℕ) (old new : List Shown) (ids : List ℕ) → Reads bytes room start at old new ids → IsWhite bytes at to → Reads bytes room start to old new ids
reads_end bytes room start at to old new ids a w = record {
  tree = a.tree;
  items = subst (λ f. Items bytes room start to f) (append-nil a.tree) (Items-append bytes room start at to a.tree Nil a.items w);
  nodes = a.nodes;
  numbered = a.numbered;
}

pub reads_word : (bytes : List ℕ) (room at to : ℕ) (old : List Shown) → at ≤ length bytes → IsWord bytes at to
    → Reads bytes room at to old (old ++ (record { kind = kind.Word; from = at; to = to; children = [] }) ∷ []) (length old ∷ [])
reads_word bytes room at to old h w = record { tree = Word at to Nil; items = (white_at bytes at h, w, white_at bytes to w.within); nodes = refl; numbered = refl }

pub reads_string : (bytes : List ℕ) (room at to : ℕ) (old : List Shown) → at ≤ length bytes → IsString bytes at to
    → Reads bytes room at to old (old ++ (record { kind = kind.Text; from = at; to = to; children = [] }) ∷ []) (length old ∷ [])
reads_string bytes room at to old h w = record { tree = Text at to Nil; items = (white_at bytes at h, w, white_at bytes to w.within); nodes = refl; numbered = refl }

pub reads_group : (bytes : List ℕ) (room at end : ℕ) (old mid : List Shown) (ids : List ℕ) → at ≤ length bytes → IsBracket bytes room at (end + 1)
    → Reads bytes (room - 1) (at + 1) end old mid ids
    → Reads bytes room at (end + 1) old (mid ++ (record { kind = kind.List; from = at; to = end + 1; children = ids }) ∷ []) (length mid ∷ [])
reads_group bytes room at end old mid ids h w a =
    let e : length mid ≡ length old + count a.tree = ap length a.nodes ∙ length-append old (flat (length old) a.tree) ∙ ap (λ n. length old + n) (length-flat (length old) a.tree) in
    let p : end ≡ end + 1 - 1 = omega arith in
    record {
      tree = Group at (end + 1) a.tree Nil;
      items = (white_at bytes at h, w, subst (λ x. Items bytes (room - 1) (at + 1) x a.tree) p a.items, white_at bytes (end + 1) w.within);
      nodes = ap (λ xs. xs ++ (record { kind = kind.List; from = at; to = end + 1; children = ids }) ∷ []) a.nodes
          ∙ append_assoc old (flat (length old) a.tree) ((record { kind = kind.List; from = at; to = end + 1; children = ids }) ∷ [])
          ∙ ap (λ xs. old ++ (flat (length old) a.tree ++ (record { kind = kind.List; from = at; to = end + 1; children = xs }) ∷ [])) a.numbered;
      numbered = ap (λ n. n ∷ []) e;
    }

-- from a place that isn't white on, the same items follow
pub narrowed : (bytes : List ℕ) (room at from end : ℕ) (g : Forest) → IsWhite bytes at from → is_space (slice_index bytes from) ≡ false → Items bytes room at end g → Stops bytes end → Items bytes room from end g
narrowed bytes room at from end g w solid h s =
    let e : place g end ≡ from = same_start bytes at (place g end) from (begins bytes room at end g h s).white w (begins bytes room at end g h s).solid solid in
    narrowed_at g h e
  where
    narrowed_at : (g : Forest) → Items bytes room at end g → place g end ≡ from → Items bytes room from end g
    narrowed_at Nil h e = subst (λ x. IsWhite bytes x end) e (white_at bytes end h.within)
    narrowed_at (Word p q rest) h e = (subst (λ x. IsWhite bytes x p) e (white_at bytes p h.0.within), h.1, h.2)
    narrowed_at (Text p q rest) h e = (subst (λ x. IsWhite bytes x p) e (white_at bytes p h.0.within), h.1, h.2)
    narrowed_at (Group p q inner rest) h e = (subst (λ x. IsWhite bytes x p) e (white_at bytes p h.0.within), h.1, h.2, h.3)

pub through_none : (bytes : List ℕ) (room at : ℕ) → Through bytes room at at
through_none bytes room at tree end h s = (tree, h)

pub through_more : (bytes : List ℕ) (room start at from to : ℕ) → Through bytes room start at → IsWhite bytes at from → is_space (slice_index bytes from) ≡ false → Through bytes room from to → Through bytes room start to
through_more bytes room start at from to a w solid b tree end h s =
    b (a tree end h s).0 end (narrowed bytes room at from end (a tree end h s).0 w solid (a tree end h s).1 s) s

pub none_more : (bytes : List ℕ) (room start at from : ℕ) → Through bytes room start at → IsWhite bytes at from → is_space (slice_index bytes from) ≡ false → NoItems bytes room from → NoItems bytes room start
none_more bytes room start at from a w solid b tree end h s =
    b (a tree end h s).0 end (narrowed bytes room at from end (a tree end h s).0 w solid (a tree end h s).1 s) s

-- what a list of items is that begins with a word, a string or a list
pub word_through : (bytes : List ℕ) (room at to : ℕ) → IsWord bytes at to → Through bytes room at to
word_through bytes room at to w tree end h s = by_tree tree h (same_begin bytes at _ _ _ _ (begins_word bytes at at to (white_at bytes at (omega (arith, w.within, w.order))) w) (begins bytes room at end tree h s))
  where
    by_tree : (g : Forest) → Items bytes room at end g → (at ≡ place g end) × (0 ≡ kind_of g) → (rest : Forest) × Items bytes room to end rest
    by_tree (Word p q rest) h e =
        let same : to ≡ q = same_word bytes at to q w (subst (λ x. IsWord bytes x q) (sym e.0) h.1) in
        (rest, subst (λ x. Items bytes room x end rest) (sym same) h.2)
    by_tree g h e = absurd (omega (arith, e.1))

pub string_through : (bytes : List ℕ) (room at to : ℕ) → IsString bytes at to → Through bytes room at to
string_through bytes room at to w tree end h s = by_tree tree h (same_begin bytes at _ _ _ _ (begins_string bytes at at to (white_at bytes at (omega (arith, w.within, w.order))) w) (begins bytes room at end tree h s))
  where
    by_tree : (g : Forest) → Items bytes room at end g → (at ≡ place g end) × (1 ≡ kind_of g) → (rest : Forest) × Items bytes room to end rest
    by_tree (Text p q rest) h e =
        let same : to ≡ q = same_string bytes at to q w (subst (λ x. IsString bytes x q) (sym e.0) h.1) in
        (rest, subst (λ x. Items bytes room x end rest) (sym same) h.2)
    by_tree g h e = absurd (omega (arith, e.1))

-- the string at a place that begins with a quote has an end, where items stand there
pub as_string : (bytes : List ℕ) (room at end : ℕ) (g : Forest) → at < length bytes → slice_index bytes at ≡ 34 → Items bytes room at end g → Stops bytes end → (to : ℕ) × IsString bytes at to
as_string bytes room at end g low q h s = by_tree g h (same_begin bytes at _ _ _ _ here (begins bytes room at end g h s))
  where
    here : Begins bytes at at 1
    here = record { white = white_at bytes at (omega arith); kind = sort_below bytes at low ∙ rw q refl; solid = rw q refl }

    by_tree : (g : Forest) → Items bytes room at end g → (at ≡ place g end) × (1 ≡ kind_of g) → (to : ℕ) × IsString bytes at to
    by_tree (Text p to rest) h e = (to, subst (λ x. IsString bytes x to) (sym e.0) h.1)
    by_tree g h e = absurd (omega (arith, e.1))

-- the list at a place that begins with a parenthesis
pub record Listed (bytes : List ℕ) (room at end : ℕ) : Type 0 where
  pub to : ℕ
  pub inner : Forest
  pub rest : Forest
  pub bracket : IsBracket bytes room at to
  pub inside : Items bytes (room - 1) (at + 1) (to - 1) inner
  pub behind : Items bytes room to end rest

pub as_list : (bytes : List ℕ) (room at end : ℕ) (g : Forest) → at < length bytes → slice_index bytes at ≡ 40 → Items bytes room at end g → Stops bytes end → Listed bytes room at end
as_list bytes room at end g low q h s = by_tree g h (same_begin bytes at _ _ _ _ here (begins bytes room at end g h s))
  where
    here : Begins bytes at at 2
    here = record { white = white_at bytes at (omega arith); kind = sort_below bytes at low ∙ rw q refl; solid = rw q refl }

    by_tree : (g : Forest) → Items bytes room at end g → (at ≡ place g end) × (2 ≡ kind_of g) → Listed bytes room at end
    by_tree (Group p to inner rest) h e = record {
      to = to;
      inner = inner;
      rest = rest;
      bracket = subst (λ x. IsBracket bytes room x to) (sym e.0) h.1;
      inside = subst (λ x. Items bytes (room - 1) (x + 1) (to - 1) inner) (sym e.0) h.2;
      behind = h.3;
    }
    by_tree g h e = absurd (omega (arith, e.1))

pub no_room : (bytes : List ℕ) (room at : ℕ) → at < length bytes → slice_index bytes at ≡ 40 → room ≡ 0 → NoItems bytes room at
no_room bytes room at low q e tree end h s = let d : 0 < room = (as_list bytes room at end tree low q h s).bracket.deep in omega arith

pub no_inner : (bytes : List ℕ) (room at : ℕ) → at < length bytes → slice_index bytes at ≡ 40 → NoItems bytes (room - 1) (at + 1) → NoItems bytes room at
no_inner bytes room at low q none tree end h s =
    let l : Listed bytes room at end = as_list bytes room at end tree low q h s in
    none l.inner (l.to - 1) l.inside (inner_stops bytes room at l.to l.bracket)

-- what was read inside is what stands there
pub inner_end : (bytes : List ℕ) (room at end inside : ℕ) (old new : List Shown) (ids : List ℕ) → Reads bytes (room - 1) (at + 1) inside old new ids → Stops bytes inside → (l : Listed bytes room at end) → l.to ≡ inside + 1
inner_end bytes room at end inside old new ids r stops l =
    let e : inside ≡ l.to - 1 = (one_reading bytes (room - 1) (at + 1) inside (l.to - 1) r.tree l.inner r.items stops l.inside (inner_stops bytes room at l.to l.bracket)).1 in
    omega (arith, l.bracket.order)

pub not_closed : (bytes : List ℕ) (room at inside : ℕ) (old new : List Shown) (ids : List ℕ) → at < length bytes → slice_index bytes at ≡ 40 → Reads bytes (room - 1) (at + 1) inside old new ids → Stops bytes inside → inside ≡ length bytes → NoItems bytes room at
not_closed bytes room at inside old new ids low q r stops e tree end h s =
    let l : Listed bytes room at end = as_list bytes room at end tree low q h s in
    let f : l.to ≡ inside + 1 = inner_end bytes room at end inside old new ids r stops l in
    let w : l.to ≤ length bytes = l.bracket.within in
    omega arith

pub list_through : (bytes : List ℕ) (room at inside : ℕ) (old new : List Shown) (ids : List ℕ) → at < length bytes → slice_index bytes at ≡ 40 → Reads bytes (room - 1) (at + 1) inside old new ids → Stops bytes inside → Through bytes room at (inside + 1)
list_through bytes room at inside old new ids low q r stops tree end h s =
    let l : Listed bytes room at end = as_list bytes room at end tree low q h s in
    (l.rest, subst (λ x. Items bytes room x end l.rest) (inner_end bytes room at end inside old new ids r stops l) l.behind)

pub bracket_at : (bytes : List ℕ) (room at inside : ℕ) → 0 < room → at < inside → inside < length bytes → slice_index bytes at ≡ 40 → Stops bytes inside → IsBracket bytes room at (inside + 1)
bracket_at bytes room at inside deep order low q stops =
    let e : inside + 1 - 1 ≡ inside = omega arith in
    record { opening = q; order = omega arith; within = omega arith; closing = rw e (stops low); deep = deep }

-- the same reading, by equal nodes and numbers
pub reads_as : (bytes : List ℕ) (room at to : ℕ) (old new new' : List Shown) (ids ids' : List ℕ) → Reads bytes room at to old new ids → new' ≡ new → ids' ≡ ids → Reads bytes room at to old new' ids'
reads_as bytes room at to old new new' ids ids' r e d = record { tree = r.tree; items = r.items; nodes = e ∙ r.nodes; numbered = d ∙ r.numbered }

-- a node behind the others, as it is seen
abbrev pub node : kinds.NodeKind → ℕ → ℕ → List ℕ → Shown
node k from to children = record { kind = k; from = from; to = to; children = children }

pub placed : (old new : List Shown) (k : kinds.NodeKind) (from to : ℕ) (children seen : List ℕ) → new ≡ old ++ node k from to seen ∷ [] → seen ≡ children → new ≡ old ++ node k from to children ∷ []
placed old new k from to children seen e d = e ∙ ap (λ xs. old ++ node k from to xs ∷ []) d

pub same_error : {A B E : Type 0} (r : Result A E) (x f b : E) → r ≡ Err x → x ≡ f → r ≡ Err b → ◌≡◌ {A = Result B E} (Err f) (Err b)
same_error r x f b e d h = let same : f ≡ b = cc in ap Err same
