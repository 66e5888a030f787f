-- Each spot that isn't lost can be finished.
use Rattle.std.proofs.Common.{◌≡◌, ℕ, zero, suc, ◌+◌, ◌-◌, ◌≤◌, Bool, true, false, ◌==◌, cond, List, [], ◌∷◌, ◌++◌, length, slice_index, take, drop, refl, sym, ◌∙◌, ap, arith, append_assoc, length-append}
use Rattle.std.proofs.lemmas.List.{get_or_append_left, get_or-append_right, append-nil, take-append-drop, length-take-le}
use Rattle.sexpr_text.specs.Grammar.{is_space}
use Rattle.sexpr_text.specs.Inner.Spot.{TextSpot, step, text_spot, opened, closed}
use Rattle.sexpr_text.specs.Inner.Spot.TextSpot.{Before, Inside, Quoted, Behind, Lost}
use Rattle.sexpr_text.proofs.Spots.{next}

-- the spot depends on the bytes before it alone
pub spot_local : (bs cs : List ℕ) (n : ℕ) → n ≤ length bs → text_spot (bs ++ cs) n ≡ text_spot bs n
spot_local bs cs zero h = refl
spot_local bs cs (suc n) h =
    let e : slice_index (bs ++ cs) n ≡ slice_index bs n = get_or_append_left bs cs 0 n (omega arith) in
    ap (λ s. step s (slice_index (bs ++ cs) n)) (spot_local bs cs n (omega arith)) ∙ ap (step (text_spot bs n)) e

pub spot_take : (bytes : List ℕ) (n : ℕ) → n ≤ length bytes → text_spot (take n bytes) n ≡ text_spot bytes n
spot_take bytes n h =
    let l : length (take n bytes) ≡ n = length-take-le n bytes h in
    sym (spot_local (take n bytes) (drop n bytes) n (omega arith)) ∙ ap (λ b. text_spot b n) (take-append-drop n bytes)

unfoldable pub run : TextSpot → List ℕ → TextSpot
run s [] = s
run s (c ∷ cs) = run (step s c) cs

pub spot_run : (cs bs : List ℕ) → text_spot (bs ++ cs) (length (bs ++ cs)) ≡ run (text_spot bs (length bs)) cs
unfolding run
spot_run [] bs = let e : bs ++ [] ≡ bs = append-nil bs in rw e refl
spot_run (c ∷ cs) bs =
    let e : bs ++ c ∷ cs ≡ (bs ++ c ∷ []) ++ cs = sym (append_assoc bs (c ∷ []) cs) in
    let l : length (bs ++ c ∷ []) ≡ length bs + 1 = length-append bs (c ∷ []) in
    let i : slice_index (bs ++ c ∷ []) (length bs) ≡ c = get_or-append_right bs (c ∷ []) (length bs) (length bs) 0 refl (omega arith) ∙ (let z : length bs - length bs ≡ 0 = omega arith in rw z refl) in
    let s : text_spot (bs ++ c ∷ []) (length (bs ++ c ∷ [])) ≡ step (text_spot bs (length bs)) c =
    next (bs ++ c ∷ []) (length bs) (length (bs ++ c ∷ [])) l ∙ ap (λ s. step s (slice_index (bs ++ c ∷ []) (length bs))) (spot_local bs (c ∷ []) (length bs) (omega arith)) ∙ ap (step (text_spot bs (length bs))) i in
    ap (λ b. text_spot b (length b)) e ∙ spot_run cs (bs ++ c ∷ []) ∙ ap (λ s. run s cs) s

-- the lists that are open are closed
abbrev pub closers : ℕ → List ℕ
closers zero = 41 ∷ []
closers (suc outer) = 41 ∷ closers outer

abbrev pub finish : TextSpot → List ℕ
finish Before = 40 ∷ 41 ∷ []
finish (Inside room) = closers (63 - room)
finish (Quoted room true) = 34 ∷ 34 ∷ closers (63 - room)
finish (Quoted room false) = 34 ∷ closers (63 - room)
finish Behind = []
finish Lost = []

abbrev pub Low : TextSpot → Type 0
Low (Inside room) = room ≤ 63
Low (Quoted room escaped) = room ≤ 63
Low other = Unit {0}

low_cond : (b : Bool) (s t : TextSpot) → Low s → Low t → Low (cond b s t)
low_cond true s t h i = h
low_cond false s t h i = i

low_opened : (room : ℕ) → room ≤ 63 → Low (opened room)
low_opened zero h = tt
low_opened (suc room) h = omega arith

low_closed : (room : ℕ) → room ≤ 63 → Low (closed room)
low_closed room h = on (room == 63) refl
  where
    on : (b : Bool) → (room == 63) ≡ b → Low (closed room)
    on true q = rw q tt
    on false q = let f : room ≡ 63 → ⊥ = λ e. (let g : (room == 63) ≡ true = rw e refl in let x : false ≡ true = sym q ∙ g in cc) in let l : room + 1 ≤ 63 = grind (arith, f) in rw q l

pub low_step : (s : TextSpot) (c : ℕ) → Low s → Low (step s c)
low_step Before c h = low_cond (is_space c) Before (cond (c == 40) (Inside 63) Lost) tt (low_cond (c == 40) (Inside 63) Lost (omega arith) tt)
low_step (Inside room) c h = low_cond (c == 40) (opened room) (cond (c == 41) (closed room) (cond (c == 34) (Quoted room false) (Inside room))) (low_opened room h)
    (low_cond (c == 41) (closed room) (cond (c == 34) (Quoted room false) (Inside room)) (low_closed room h) (low_cond (c == 34) (Quoted room false) (Inside room) h h))
low_step (Quoted room true) c h = h
low_step (Quoted room false) c h = low_cond (c == 34) (Inside room) (Quoted room (c == 92)) h h
low_step Behind c h = low_cond (is_space c) Behind Lost tt tt
low_step Lost c h = tt

pub low : (bytes : List ℕ) (n : ℕ) → Low (text_spot bytes n)
low bytes zero = tt
low bytes (suc n) = low_step (text_spot bytes n) (slice_index bytes n) (low bytes n)

pub closers_run : (outer room : ℕ) → room + outer ≡ 63 → run (Inside room) (closers outer) ≡ Behind
unfolding run
closers_run zero room h = let e : (room == 63) ≡ true = grind (arith, h) in rw e refl
closers_run (suc outer) room h = let e : (room == 63) ≡ false = grind (arith, h) in ap (λ b. run (cond b Behind (Inside (room + 1))) (closers outer)) e ∙ closers_run outer (room + 1) (omega arith)

pub finish_run : (s : TextSpot) → Low s → (s ≡ Lost → ⊥) → run s (finish s) ≡ Behind
unfolding run
finish_run Before l h = refl
finish_run (Inside room) l h = closers_run (63 - room) room (omega arith)
finish_run (Quoted room true) l h = closers_run (63 - room) room (omega arith)
finish_run (Quoted room false) l h = closers_run (63 - room) room (omega arith)
finish_run Behind l h = refl
finish_run Lost l h = absurd (h refl)

abbrev pub Highs : List ℕ → Type 0
Highs [] = Unit {0}
Highs (c ∷ cs) = (128 ≤ c) × Highs cs

abbrev pub high : TextSpot → TextSpot
high Before = Lost
high (Inside room) = Inside room
high (Quoted room escaped) = Quoted room false
high Behind = Lost
high Lost = Lost

pub high_step : (s : TextSpot) (c : ℕ) → 128 ≤ c → step s c ≡ high s
high_step s c h = on s
  where
    a : (c == 40) ≡ false
    a = grind (arith, h)

    b : (c == 41) ≡ false
    b = grind (arith, h)

    d : (c == 34) ≡ false
    d = grind (arith, h)

    e : (c == 92) ≡ false
    e = grind (arith, h)

    f : is_space c ≡ false
    f = grind (arith, h)

    on : (s : TextSpot) → step s c ≡ high s
    on Before = rw (f, a) refl
    on (Inside room) = rw (a, b, d) refl
    on (Quoted room true) = refl
    on (Quoted room false) = rw (d, e) refl
    on Behind = rw f refl
    on Lost = refl

-- spots that bytes of other characters leave alive
abbrev pub Open : TextSpot → Type 0
Open (Inside room) = Unit {0}
Open (Quoted room escaped) = Unit {0}
Open other = ⊥

pub highs_run : (cs : List ℕ) (s : TextSpot) → Highs cs → Open s → Low s → (run s cs ≡ Lost → ⊥) × Low (run s cs)
unfolding run
highs_run [] (Inside room) h o l = (λ e. cc, l)
highs_run [] (Quoted room escaped) h o l = (λ e. cc, l)
highs_run (c ∷ cs) (Inside room) h o l = rw (high_step (Inside room) c h.0) (highs_run cs (Inside room) h.1 tt l)
highs_run (c ∷ cs) (Quoted room escaped) h o l = rw (high_step (Quoted room escaped) c h.0) (highs_run cs (Quoted room false) h.1 tt l)
highs_run cs other h o l = absurd o
