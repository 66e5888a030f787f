-- A board in which nothing offends has at most 32 copper layers: its list of layers is tried.
use Rattle.std.proofs.Common.{◌≡◌, ◌∙◌, ap, sym, refl, ℕ, Bool, true, false, cond, not, List, [], ◌∷◌, ◌++◌, ◌||◌, map, arith, append_assoc, length, Option, None, Some, is_some}
use Rattle.std.specs.Prelude.{if◌then◌else◌, is_none, find, filter, flat_map, codes, unwrap_or, nat_le, nat_lt}
use Rattle.std.specs.List.{list_any}
use Rattle.std.proofs.lemmas.Bool.{false≢true}
use Rattle.std.proofs.lemmas.Bool.Decides.{nat_tests}
use Rattle.sexpr_text.specs.Grammar.{Forest}
use Rattle.sexpr_text.specs.Grammar.Forest.{Nil, Word, Text, Group}
use Rattle.sexpr_text.specs.declared.NodeKind.TheVariants as kinds_of
use Rattle.sexpr_text.specs.Items.{Item, items_of, is_headed}
use Rattle.board_text.specs.Lists.{is_list, lists_of}
use Rattle.outline_slab.specs.declared.error.OutlineFault.{OutlineFault}
use Rattle.board_language.specs.declared.offence.OffenceKind.{OffenceKind}
use Rattle.board_language.specs.declared.offence.OffenceKind.TheVariants as kinds
use Rattle.board_text.specs.Fields.{list_of, has_list, head_begins}
use Rattle.board_text.specs.Layers.{copper_layers, names_in, is_copper, layers_in, name_of_layer, has_double, layers_fault, layer_names_in}
use Rattle.board_text.specs.Things.{Placed, Root, OnBoard, InFootprint, Layers, Net, Track, CurvedTrack, Via, Footprint, RuleArea, Zone, Drawing, Pad, FootprintDrawing, FootprintZone, Other, thing_of, items_of_board, with_own, in_footprint, on_board, of_footprint, is_picture}
use Rattle.board_text.specs.Items.{Context, context_of, version_of}
use Rattle.board_language.specs.Offences.{first_kind, when, number_offence, is_version, is_layers, has_layers, board_kind, layers_kind, kind_with, kind_as}
use Rattle.board_language.specs.Reading.{AreSound}

abbrev is_layers_list : List ℕ → Item → Bool
is_layers_list bytes item = is_headed bytes (codes "layers") item

abbrev has_some : List ℕ → List Placed → Bool
has_some bytes items = list_any (λ (p : Placed). is_layers (thing_of bytes p)) items

any_both : {X : Type 0} (f : X → Bool) (xs ys : List X) → list_any f xs ≡ false → list_any f ys ≡ false → list_any f (xs ++ ys) ≡ false
any_both f [] ys p q = q
any_both f (x ∷ xs) ys p q = step (f x) (list_any f xs) (list_any f (xs ++ ys)) p (λ e. any_both f xs ys e q)
  where
    step : (a b d : Bool) → (a || b) ≡ false → (b ≡ false → d ≡ false) → (a || d) ≡ false
    step true b d p k = p
    step false b d p k = k p

-- ---- what isn't a list of layers

or_none : (a b : Bool) → a ≡ false → b ≡ false → (a || b) ≡ false
or_none a b p q = rw (p, q) refl

own_cases : (a b d : Bool) (footprint : Item) → is_layers (if a then Pad footprint else (if b then FootprintZone else (if d then FootprintDrawing else Other))) ≡ false
own_cases true b d footprint = refl
own_cases false true d footprint = refl
own_cases false false true footprint = refl
own_cases false false false footprint = refl

own_none : (bytes : List ℕ) (item : Item) (xs : List Item) → has_some bytes (map (λ i. record { item = i; site = InFootprint item }) xs) ≡ false
unfolding thing_of
own_none bytes item [] = refl
own_none bytes item (x ∷ xs) =
    or_none (is_layers (of_footprint bytes item x)) (has_some bytes (map (λ i. record { item = i; site = InFootprint item }) xs))
    (own_cases (is_headed bytes (codes "pad") x) (is_headed bytes (codes "zone") x) (head_begins bytes (codes "fp_") x || is_headed bytes (codes "image") x) item)
    (own_none bytes item xs)

zone_cases : (b : Bool) → is_layers (cond b RuleArea Zone) ≡ false
zone_cases true = refl
zone_cases false = refl

drawing_cases : (b : Bool) → is_layers (cond b Drawing Other) ≡ false
drawing_cases true = refl
drawing_cases false = refl

board_cases : (l n t a v f z k d : Bool) → l ≡ false
    → is_layers (if l then Layers else (if n then Net else (if t then Track else (if a then CurvedTrack else (if v then Via else (if f then Footprint else (if z then cond k RuleArea Zone else cond d Drawing Other))))))) ≡ false
board_cases true n t a v f z k d e = e
board_cases false true t a v f z k d e = refl
board_cases false false true a v f z k d e = refl
board_cases false false false true v f z k d e = refl
board_cases false false false false true f z k d e = refl
board_cases false false false false false true z k d e = refl
board_cases false false false false false false true k d e = zone_cases k
board_cases false false false false false false false k d e = drawing_cases d

other_none : (bytes : List ℕ) (item : Item) → is_layers_list bytes item ≡ false → is_layers (on_board bytes item) ≡ false
other_none bytes item e =
    board_cases (is_headed bytes (codes "layers") item) (is_headed bytes (codes "net") item) (is_headed bytes (codes "segment") item) (is_headed bytes (codes "arc") item)
    (is_headed bytes (codes "via") item) (is_headed bytes (codes "footprint") item) (is_headed bytes (codes "zone") item) (has_list bytes (codes "keepout") item)
    (head_begins bytes (codes "gr_") item || is_picture bytes item) e

with_none : (bytes : List ℕ) (item : Item) → is_layers_list bytes item ≡ false → has_some bytes (with_own bytes item) ≡ false
unfolding thing_of
with_none bytes item e = or_none (is_layers (on_board bytes item)) (has_some bytes (in_footprint bytes item)) (other_none bytes item e) (inside (is_headed bytes (codes "footprint") item))
  where
    inside : (b : Bool) → has_some bytes (cond b (map (λ i. record { item = i; site = InFootprint item }) (lists_of item)) []) ≡ false
    inside true = own_none bytes item (lists_of item)
    inside false = refl

-- ---- the first list of layers among the items of a board

record IsThere (bytes : List ℕ) (lists : List Item) (layers : Item) : Type 0 where
  before : List Placed
  behind : List Placed
  stands : flat_map (with_own bytes) lists ≡ before ++ record { item = layers; site = OnBoard } ∷ behind
  none : has_some bytes before ≡ false
  headed : is_layers_list bytes layers ≡ true

some_is : {X : Type 0} (x y : X) → Some x ≡ Some y → x ≡ y
some_is x y e = ap (λ o. unwrap_or o x) e

later : (bytes : List ℕ) (item : Item) (lists : List Item) (layers : Item) → is_layers_list bytes item ≡ false → IsThere bytes lists layers → IsThere bytes (item ∷ lists) layers
later bytes item lists layers e r =
    record {
      before = with_own bytes item ++ r.before;
      behind = r.behind;
      stands = ap (λ ys. with_own bytes item ++ ys) r.stands ∙ sym (append_assoc (with_own bytes item) r.before (record { item = layers; site = OnBoard } ∷ r.behind));
      none = any_both (λ (p : Placed). is_layers (thing_of bytes p)) (with_own bytes item) r.before (with_none bytes item e) r.none;
      headed = r.headed;
    }

there : (bytes : List ℕ) (f : Forest) (layers : Item) → find (is_layers_list bytes) (items_of f) ≡ Some layers → IsThere bytes (filter is_list (items_of f)) layers
there bytes Nil layers e = absurd (false≢true (ap is_some e))
there bytes (Word from to rest) layers e = there bytes rest layers e
there bytes (Text from to rest) layers e = there bytes rest layers e
there bytes (Group from to inner rest) layers e =
    by_head (record { kind = kinds_of.List; from = from; to = to; inner = inner }) (is_layers_list bytes (record { kind = kinds_of.List; from = from; to = to; inner = inner })) refl e
    (λ g. there bytes rest layers g)
  where
    by_head : (item : Item) (b : Bool) → is_layers_list bytes item ≡ b → cond (is_layers_list bytes item) (Some item) (find (is_layers_list bytes) (items_of rest)) ≡ Some layers
        → (find (is_layers_list bytes) (items_of rest) ≡ Some layers → IsThere bytes (filter is_list (items_of rest)) layers)
        → IsThere bytes (item ∷ filter is_list (items_of rest)) layers
    by_head item true h e more =
        let is : item ≡ layers = some_is item layers (sym (ap (λ b. cond b (Some item) (find (is_layers_list bytes) (items_of rest))) h) ∙ e) in
        record {
          before = [];
          behind = in_footprint bytes item ++ flat_map (with_own bytes) (filter is_list (items_of rest));
          stands = ap (λ l. record { item = l; site = OnBoard } ∷ (in_footprint bytes item ++ flat_map (with_own bytes) (filter is_list (items_of rest)))) is;
          none = refl;
          headed = ap (is_layers_list bytes) (sym is) ∙ h;
        }
    by_head item false h e more =
        later bytes item (filter is_list (items_of rest)) layers h (more (sym (ap (λ b. cond b (Some item) (find (is_layers_list bytes) (items_of rest))) h) ∙ e))

-- ---- its offences

-- there is a first kind where one of them holds
some_in : (front : List (Option OffenceKind)) (k : OffenceKind) (more : List (Option OffenceKind)) → is_some (first_kind (front ++ Some k ∷ more)) ≡ true
some_in [] k more = refl
some_in (None ∷ ks) k more = some_in ks k more
some_in (Some other ∷ ks) k more = refl

-- what has a kind isn't without one
has_none : {X : Type 0} (o : Option OffenceKind) → o ≡ None → is_some o ≡ true → X
has_none o e h = absurd (false≢true (sym (ap is_some e) ∙ h))

-- a board that doesn't offend has a list of layers
board_front : Context → Item → List (Option OffenceKind)
board_front c board =
    when kinds.NotBoard (not (is_headed c.bytes (codes "kicad_pcb") board))
    ∷ when kinds.Version (not (is_version (version_of c.bytes board)))
    ∷ []

has_one : (c : Context) (board : Item) → board_kind c board ≡ None → (layers : Item) × (list_of c.bytes (codes "layers") board ≡ Some layers)
unfolding board_front board_kind
has_one c board e = by_list (list_of c.bytes (codes "layers") board) refl
  where
    lacking : list_of c.bytes (codes "layers") board ≡ None → is_some (board_kind c board) ≡ true
    lacking g = ap (λ o. is_some (first_kind (board_front c board ++ when kinds.MissingPart (not (is_some o)) ∷ []))) g ∙ some_in (board_front c board) kinds.MissingPart []

    by_list : (o : Option Item) → list_of c.bytes (codes "layers") board ≡ o → (layers : Item) × (list_of c.bytes (codes "layers") board ≡ Some layers)
    by_list None g = has_none (board_kind c board) e (lacking g)
    by_list (Some layers) g = (layers, g)

is_few : (n : ℕ) → nat_lt 32 n ≡ false → nat_le n 32 ≡ true
is_few n e = grind (arith, nat_tests)

layers_front : Context → Item → List (Option OffenceKind)
layers_front c layers =
    when kinds.MissingPart (list_any (λ layer. is_none (name_of_layer c.bytes layer)) (layers_in layers))
    ∷ number_offence (layers_fault c.bytes layers)
    ∷ when kinds.DoubleLayer (has_double (layer_names_in c.bytes layers))
    ∷ []

few_layers : (c : Context) (layers : Item) → layers_kind c layers ≡ None → nat_le (length (filter is_copper (names_in c.bytes (Some layers)))) 32 ≡ true
unfolding layers_front layers_kind
few_layers c layers e = is_few (length (filter is_copper (names_in c.bytes (Some layers)))) (by_test (nat_lt 32 (length (filter is_copper (names_in c.bytes (Some layers))))) refl)
  where
    many : nat_lt 32 (length (filter is_copper (names_in c.bytes (Some layers)))) ≡ true → is_some (layers_kind c layers) ≡ true
    many g = ap (λ b. is_some (first_kind (layers_front c layers ++ when kinds.TooMany b ∷ []))) g ∙ some_in (layers_front c layers) kinds.TooMany []

    by_test : (b : Bool) → nat_lt 32 (length (filter is_copper (names_in c.bytes (Some layers)))) ≡ b → b ≡ false
    by_test true g = has_none (layers_kind c layers) e (many g)
    by_test false g = refl

layers_tried : (c : Context) (before : List Placed) (layers : Item) (outline : Option OutlineFault) → is_layers_list c.bytes layers ≡ true → has_layers c before ≡ false
    → None ≡ kind_as c before (record { item = layers; site = OnBoard }) outline (on_board c.bytes layers) → layers_kind c layers ≡ None
layers_tried c before layers outline headed none e =
    let is : on_board c.bytes layers ≡ Layers = rw headed refl in
    sym (e ∙ ap (kind_as c before (record { item = layers; site = OnBoard }) outline) is ∙ ap (λ b. cond b None (layers_kind c layers)) none)

-- the copper layers of an accepted board are few
pub accepted_few : (bytes : List ℕ) (root : Item) → AreSound (context_of bytes root) (items_of_board bytes root) → nat_le (length (context_of bytes root).copper) 32 ≡ true
unfolding items_of_board kind_with thing_of copper_layers context_of
accepted_few bytes root sound =
    let c = context_of bytes root in
    let board : Placed = record { item = root; site = Root } in
    let first = sound [] (flat_map (with_own bytes) (lists_of root)) board refl in
    let one = has_one c root (sym first.is_kind) in
    let at = there bytes root.inner one.0 one.1 in
    let mine = sound (board ∷ at.before) at.behind (record { item = one.0; site = OnBoard }) (ap (λ ys. board ∷ ys) at.stands) in
    ap (λ l. nat_le (length (filter is_copper (names_in bytes l))) 32) one.1
    ∙ few_layers c one.0 (layers_tried c (board ∷ at.before) one.0 mine.outline at.headed at.none mine.is_kind)
