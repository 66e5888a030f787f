-- The fronts of texts, by their spot.
use Rattle.std.proofs.Common.{◌≡◌, ℕ, zero, suc, ◌+◌, ◌-◌, ◌<◌, ◌≤◌, true, false, List, [], ◌∷◌, ◌++◌, length, slice_index, take, refl, sym, ◌∙◌, ap, subst, inl, inr, arith, append_assoc, length-append}
use Rattle.std.proofs.lemmas.List.{length-take-le, append-nil}
use Rattle.std.proofs.lemmas.Str.{IsUtf8-append, IsUtf8-from_ascii}
use Rattle.std.specs.Str.{IsUtf8, IsAscii}
use Rattle.sexpr_text.specs.Grammar.{Forest, Spelt}
use Rattle.sexpr_text.specs.Inner.Spot.{TextSpot, step, text_spot}
use Rattle.sexpr_text.specs.Inner.Spot.TextSpot.{Before, Inside, Quoted, Behind, Lost}
use Rattle.sexpr_text.specs.Faults.{IsFront, IsUtf8Front}
use Rattle.sexpr_text.proofs.Spots.{spelt_behind, next}
use Rattle.sexpr_text.proofs.Parse.{not_lost, behind_spelt}
use Rattle.sexpr_text.proofs.Finish.{spot_local, spot_take, spot_run, run, finish, closers, finish_run, low, Low, highs_run, Open, high, high_step}
use Rattle.sexpr_text.proofs.Utf8Ends.{Ending, ending}
use Rattle.sexpr_text.proofs.Numbers.{below_or_past}

-- a front isn't lost
pub front_alive : (bytes : List ℕ) (n : ℕ) → IsFront bytes n → text_spot bytes n ≡ Lost → ⊥
front_alive bytes n f e =
    let l : length (take n bytes) ≡ n = length-take-le n bytes f.within in
    let s : text_spot (take n bytes ++ f.more) n ≡ Lost = spot_local (take n bytes) f.more n (omega arith) ∙ spot_take bytes n f.within ∙ e in
    let m : length (take n bytes ++ f.more) ≡ length (take n bytes) + length f.more = length-append (take n bytes) f.more in
    not_lost (take n bytes ++ f.more) n (omega arith) (spelt_behind (take n bytes ++ f.more) f.tree f.spelt) s

ascii_cons : (c : ℕ) (cs : List ℕ) → c < 128 → IsAscii cs → IsAscii (c ∷ cs)
ascii_cons c cs h t zero = h
ascii_cons c cs h t (suc i) = t i

ascii_nil : IsAscii []
ascii_nil i = omega arith

ascii_closers : (outer : ℕ) → IsAscii (closers outer)
ascii_closers zero = ascii_cons 41 [] (omega arith) ascii_nil
ascii_closers (suc outer) = ascii_cons 41 (closers outer) (omega arith) (ascii_closers outer)

ascii_finish : (s : TextSpot) → IsAscii (finish s)
ascii_finish Before = ascii_cons 40 (41 ∷ []) (omega arith) (ascii_cons 41 [] (omega arith) ascii_nil)
ascii_finish (Inside room) = ascii_closers (63 - room)
ascii_finish (Quoted room true) = ascii_cons 34 (34 ∷ closers (63 - room)) (omega arith) (ascii_cons 34 (closers (63 - room)) (omega arith) (ascii_closers (63 - room)))
ascii_finish (Quoted room false) = ascii_cons 34 (closers (63 - room)) (omega arith) (ascii_closers (63 - room))
ascii_finish Behind = ascii_nil
ascii_finish Lost = ascii_nil

-- a spot at which no character is cut, if it isn't inside a list
abbrev pub Shut : TextSpot → Type 0
Shut Before = Unit {0}
Shut Behind = Unit {0}
Shut other = ⊥

shut_high : (s : TextSpot) → Shut (high s) → ⊥
shut_high Before h = h
shut_high (Inside room) h = h
shut_high (Quoted room e) h = h
shut_high Behind h = h
shut_high Lost h = h

shut_low : (s : TextSpot) (c : ℕ) → Shut (step s c) → c < 128
shut_low s c h = elim (below_or_past c 128) [ inl less ↦ less | inr past ↦ absurd (shut_high s (subst Shut (high_step s c past) h)) ]

-- bytes whose spot is alive, and that end as they end, can be finished
pub record Finished (bs : List ℕ) : Type 0 where
  pub more : List ℕ
  pub tree : Forest
  pub spelt : Spelt (bs ++ more) tree

ended : (b : List ℕ) → IsUtf8 b → (text_spot b (length b) ≡ Lost → ⊥) → Finished b
ended b u h =
    let s : TextSpot = text_spot b (length b) in
    let d : text_spot (b ++ finish s) (length (b ++ finish s)) ≡ Behind = spot_run (finish s) b ∙ finish_run s (low b (length b)) h in
    let t : (tree : Forest) × Spelt (b ++ finish s) tree = behind_spelt (b ++ finish s) (IsUtf8-append b (finish s) u (IsUtf8-from_ascii (finish s) (ascii_finish s))) d in
    record { more = finish s; tree = t.0; spelt = t.1 }

alive_front : (bs : List ℕ) → Ending bs → (text_spot bs (length bs) ≡ Lost → ⊥) → Finished bs
alive_front bs e h = on (text_spot bs (length bs)) refl
  where
    plain : e.cont ≡ [] → Finished bs
    plain z = ended bs (subst IsUtf8 (ap (λ c. bs ++ c) z ∙ append-nil bs) e.utf8) h

    shut : (n : ℕ) → length bs ≡ n → Shut (text_spot bs (length bs)) → e.cont ≡ []
    shut zero z s = e.empty z
    shut (suc n) z s =
        let k : length bs ≡ n + 1 = omega (arith, z) in
        e.whole n k (shut_low (text_spot bs n) (slice_index bs n) (subst Shut (next bs n (length bs) k) s))

    more : Open (text_spot bs (length bs)) → Finished bs
    more o =
        let r : (run (text_spot bs (length bs)) e.cont ≡ Lost → ⊥) × Low (run (text_spot bs (length bs)) e.cont) = highs_run e.cont (text_spot bs (length bs)) e.highs o (low bs (length bs)) in
        let t : Finished (bs ++ e.cont) = ended (bs ++ e.cont) e.utf8 (λ q. r.0 (sym (spot_run e.cont bs) ∙ q)) in
        record { more = e.cont ++ t.more; tree = t.tree; spelt = subst (λ b. Spelt b t.tree) (append_assoc bs e.cont t.more) t.spelt }

    on : (s : TextSpot) → text_spot bs (length bs) ≡ s → Finished bs
    on Before q = plain (shut (length bs) refl (subst Shut (sym q) tt))
    on (Inside room) q = more (subst Open (sym q) tt)
    on (Quoted room escaped) q = more (subst Open (sym q) tt)
    on Behind q = plain (shut (length bs) refl (subst Shut (sym q) tt))
    on Lost q = absurd (h q)

-- The first n bytes begin some text where they begin UTF-8 and their spot isn't lost.
pub front_made : (bytes : List ℕ) (n : ℕ) → n ≤ length bytes → IsUtf8Front (take n bytes) → (text_spot bytes n ≡ Lost → ⊥) → IsFront bytes n
front_made bytes n h (more, u) a =
    let l : length (take n bytes) ≡ n = length-take-le n bytes h in
    let s : text_spot (take n bytes) (length (take n bytes)) ≡ text_spot bytes n = ap (text_spot (take n bytes)) l ∙ spot_take bytes n h in
    let t : Finished (take n bytes) = alive_front (take n bytes) (ending u.0 (take n bytes) more u.1.0 u.1.1) (λ q. a (sym s ∙ q)) in
    record { within = h; more = t.more; tree = t.tree; spelt = t.spelt }

-- and only there
pub front_utf8 : (bytes : List ℕ) (n : ℕ) → IsFront bytes n → IsUtf8Front (take n bytes)
front_utf8 bytes n f = (f.more, f.spelt.utf8)

-- bytes of a UTF-8 front that lead behind a list spell a tree
pub behind_tree : (bs : List ℕ) → IsUtf8Front bs → text_spot bs (length bs) ≡ Behind → (tree : Forest) × Spelt bs tree
behind_tree bs (more, u) q = behind_spelt bs (subst IsUtf8 (ap (λ c. bs ++ c) (shut (length bs) refl) ∙ append-nil bs) e.utf8) q
  where
    e : Ending bs
    e = ending u.0 bs more u.1.0 u.1.1

    shut : (n : ℕ) → length bs ≡ n → e.cont ≡ []
    shut zero z = e.empty z
    shut (suc n) z =
        let k : length bs ≡ n + 1 = omega (arith, z) in
        e.whole n k (shut_low (text_spot bs n) (slice_index bs n) (subst Shut (next bs n (length bs) k) (subst Shut (sym q) tt)))
