-- A text that is spelt leads behind its list.
use Rattle.std.proofs.Common.{◌≡◌, ℕ, zero, suc, ◌+◌, ◌-◌, ◌<◌, Bool, true, false, ◌&&◌, not, ◌==◌, cond, List, length, slice_index, refl, sym, ◌∙◌, ap, arith, add-one}
use Rattle.sexpr_text.specs.Grammar.{Forest, Items, Spelt, HoldsBetween, IsWhite, IsWord, IsString, is_space, is_word, is_escaped}
use Rattle.sexpr_text.specs.Grammar.Forest.{Nil, Word, Text, Group}
use Rattle.sexpr_text.specs.Inner.Spot.{TextSpot, step, text_spot, opened, closed}
use Rattle.sexpr_text.specs.Inner.Spot.TextSpot.{Before, Inside, Quoted, Behind, Lost}

pub next : (bytes : List ℕ) (n m : ℕ) → m ≡ n + 1 → text_spot bytes m ≡ step (text_spot bytes n) (slice_index bytes n)
next bytes n m e = rw (e, add-one) refl

-- bytes that leave a spot as it is
pub stays : (p : ℕ → Bool) (s : TextSpot) → ((c : ℕ) → p c ≡ true → step s c ≡ s)
    → (bytes : List ℕ) (from n to : ℕ) → to ≡ from + n → HoldsBetween p bytes from to → text_spot bytes from ≡ s → text_spot bytes to ≡ s
stays p s k bytes from zero to e h at = let f : to ≡ from = omega arith in rw f at
stays p s k bytes from (suc n) to e h at =
    let m : from + n < to = omega arith in
    let ih : text_spot bytes (from + n) ≡ s = stays p s k bytes from n (from + n) refl (λ i low high. h i low (omega arith)) at in
    next bytes (from + n) to (omega arith) ∙ ap (λ t. step t (slice_index bytes (from + n))) ih ∙ k (slice_index bytes (from + n)) (h (from + n) (omega arith) m)

pub other_than : (c d : ℕ) → is_space c ≡ true → is_space d ≡ false → (c == d) ≡ false
other_than c d h e = on (c == d) refl
  where
    on : (b : Bool) → (c == d) ≡ b → (c == d) ≡ false
    on true q =
        let same : c ≡ d = grind arith in
        let f : is_space c ≡ false = rw same e in
        let g : true ≡ false = sym h ∙ f in
        absurd cc
    on false q = q

pub space_inside : (room c : ℕ) → is_space c ≡ true → step (Inside room) c ≡ Inside room
space_inside room c h = rw (other_than c 40 h refl, other_than c 41 h refl, other_than c 34 h refl) refl

pub space_before : (c : ℕ) → is_space c ≡ true → step Before c ≡ Before
space_before c h = rw h refl

pub space_behind : (c : ℕ) → is_space c ≡ true → step Behind c ≡ Behind
space_behind c h = rw h refl

pub word_inside : (room c : ℕ) → is_word c ≡ true → step (Inside room) c ≡ Inside room
word_inside room c h = grind arith

pub white_inside : (bytes : List ℕ) (room from to : ℕ) → IsWhite bytes from to → text_spot bytes from ≡ Inside room → text_spot bytes to ≡ Inside room
white_inside bytes room from to w at = stays is_space (Inside room) (space_inside room) bytes from (to - from) to (omega (arith, w.order)) w.each at

pub word_over : (bytes : List ℕ) (room from to : ℕ) → IsWord bytes from to → text_spot bytes from ≡ Inside room → text_spot bytes to ≡ Inside room
word_over bytes room from to w at = stays is_word (Inside room) (word_inside room) bytes from (to - from) to (omega (arith, w.order)) w.each at

flag : (room : ℕ) (e : Bool) (c : ℕ) → (c ≡ 34 → e ≡ true) → step (Quoted room e) c ≡ Quoted room (not e && c == 92)
flag room true c h = refl
flag room false c h = on (c == 34) refl
  where
    on : (b : Bool) → (c == 34) ≡ b → step (Quoted room false) c ≡ Quoted room (c == 92)
    on true q = let same : c ≡ 34 = grind arith in let f : false ≡ true = h same in absurd cc
    on false q = rw q refl

pub quoted_over : (bytes : List ℕ) (room from to : ℕ) → IsString bytes from to → text_spot bytes (from + 1) ≡ Quoted room false
    → (k m : ℕ) → m ≡ from + 1 + k → m < to → text_spot bytes m ≡ Quoted room (is_escaped bytes (from + 1) k)
quoted_over bytes room from to s at zero m e h = let f : m ≡ from + 1 = omega arith in rw f at
quoted_over bytes room from to s at (suc k) m e h =
    let ih : text_spot bytes (from + 1 + k) ≡ Quoted room (is_escaped bytes (from + 1) k) = quoted_over bytes room from to s at k (from + 1 + k) refl (omega arith) in
    next bytes (from + 1 + k) m (omega arith) ∙ ap (λ t. step t (slice_index bytes (from + 1 + k))) ih
    ∙ flag room (is_escaped bytes (from + 1) k) (slice_index bytes (from + 1 + k)) (s.first k (omega arith))

pub string_over : (bytes : List ℕ) (room from to : ℕ) → IsString bytes from to → text_spot bytes from ≡ Inside room → text_spot bytes to ≡ Inside room
string_over bytes room from to s at =
    let begun : text_spot bytes (from + 1) ≡ Quoted room false = next bytes from (from + 1) refl ∙ ap (λ t. step t (slice_index bytes from)) at ∙ ap (step (Inside room)) s.opening in
    let last : text_spot bytes (to - 1) ≡ Quoted room (is_escaped bytes (from + 1) (to - 1 - (from + 1))) =
    quoted_over bytes room from to s begun (to - 1 - (from + 1)) (to - 1) (omega (arith, s.order)) (omega (arith, s.order)) in
    next bytes (to - 1) to (omega (arith, s.order)) ∙ ap (λ t. step t (slice_index bytes (to - 1))) (last ∙ ap (Quoted room) s.ends) ∙ ap (step (Quoted room false)) s.closing

pub opened_some : (room : ℕ) → 0 < room → opened room ≡ Inside (room - 1)
opened_some zero h = absurd (omega arith)
opened_some (suc room) h = let e : suc room - 1 ≡ room = omega arith in rw e refl

pub closed_some : (room : ℕ) → 0 < room → room < 64 → closed (room - 1) ≡ cond (room == 64) Behind (Inside room)
closed_some room h low =
    let e : room - 1 + 1 ≡ room = omega arith in
    let f : (room - 1 == 63) ≡ false = grind arith in
    let g : (room == 64) ≡ false = grind arith in rw (e, f, g) refl

-- the items of a list keep the spot, where the list isn't the outermost one
pub items_over : (bytes : List ℕ) (room at end : ℕ) (f : Forest) → room < 64 → Items bytes room at end f → text_spot bytes at ≡ Inside room → text_spot bytes end ≡ Inside room
items_over bytes room at end Nil low h s = white_inside bytes room at end h s
items_over bytes room at end (Word from to rest) low h s =
    items_over bytes room to end rest low h.2 (word_over bytes room from to h.1 (white_inside bytes room at from h.0 s))
items_over bytes room at end (Text from to rest) low h s =
    items_over bytes room to end rest low h.2 (string_over bytes room from to h.1 (white_inside bytes room at from h.0 s))
items_over bytes room at end (Group from to inner rest) low h s =
    let b : text_spot bytes from ≡ Inside room = white_inside bytes room at from h.0 s in
    let o : text_spot bytes (from + 1) ≡ Inside (room - 1) = next bytes from (from + 1) refl ∙ ap (λ t. step t (slice_index bytes from)) b ∙ ap (step (Inside room)) h.1.opening ∙ opened_some room h.1.deep in
    let i : text_spot bytes (to - 1) ≡ Inside (room - 1) = items_over bytes (room - 1) (from + 1) (to - 1) inner (omega arith) h.2 o in
    let g : (room == 64) ≡ false = grind (arith, low) in
    let c : text_spot bytes to ≡ Inside room = next bytes (to - 1) to (omega (arith, h.1.order)) ∙ ap (λ t. step t (slice_index bytes (to - 1))) i ∙ ap (step (Inside (room - 1))) h.1.closing
    ∙ closed_some room h.1.deep low ∙ rw g refl in
    items_over bytes room to end rest low h.3 c

-- a text that is spelt ends behind its list
pub spelt_behind : (bytes : List ℕ) (tree : Forest) → Spelt bytes tree → text_spot bytes (length bytes) ≡ Behind
spelt_behind bytes (Group from to inner Nil) s =
    let h : Items bytes 64 0 (length bytes) (Group from to inner Nil) = s.items in
    let b : text_spot bytes from ≡ Before = stays is_space Before space_before bytes 0 from from (omega arith) h.0.each refl in
    let o : text_spot bytes (from + 1) ≡ Inside 63 = next bytes from (from + 1) refl ∙ ap (λ t. step t (slice_index bytes from)) b ∙ ap (step Before) h.1.opening in
    let i : text_spot bytes (to - 1) ≡ Inside 63 = items_over bytes 63 (from + 1) (to - 1) inner (omega arith) h.2 o in
    let c : text_spot bytes to ≡ Behind = next bytes (to - 1) to (omega (arith, h.1.order)) ∙ ap (λ t. step t (slice_index bytes (to - 1))) i ∙ ap (step (Inside 63)) h.1.closing in
    stays is_space Behind space_behind bytes to (length bytes - to) (length bytes) (omega (arith, h.3.order)) h.3.each c
spelt_behind bytes tree s = absurd s.list

-- once lost, always lost
pub lost_on : (bytes : List ℕ) (n k m : ℕ) → m ≡ n + k → text_spot bytes n ≡ Lost → text_spot bytes m ≡ Lost
lost_on bytes n zero m e h = let f : m ≡ n = omega arith in rw f h
lost_on bytes n (suc k) m e h = next bytes (n + k) m (omega arith) ∙ ap (λ t. step t (slice_index bytes (n + k))) (lost_on bytes n k (n + k) refl h)
