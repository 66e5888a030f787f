-- Lists of items that are read one after another.
use Rattle.std.proofs.Common.{◌≡◌, inl, inr, Result, Err, IfErr, ℕ, Option, ◌∙◌, ap, sym, refl, subst, List, [], ◌∷◌, ◌++◌, None}
use Rattle.board_language.specs.declared.offence.OffenceKind.{OffenceKind}
use Rattle.std.proofs.lemmas.Bool.{false≢true}
use Rattle.sexpr_text.specs.Items.{Item}
use Rattle.board_language.specs.Offences.{board_kind}
use Rattle.board_text.specs.Things.{Placed, thing_of}
use Rattle.board_text.specs.Items.{Context, line_of}
use Rattle.board_model.specs.Steps.{IsKindBy}
use Rattle.board_language.specs.declared.offence.Offence.{Offence}
use Rattle.board_model.specs.declared.error.BoardError.{BoardError}
use Rattle.board_model.specs.declared.error.BoardError.TheVariants.{Memory, Bad}
use Rattle.board_model.specs.State.{State, nothing_read_yet}
use Rattle.board_model.specs.Run.{after, after_all, AreSoundFrom, OffendsFirst, AreRead, IsStop, IsTried, IsOf, the_board}

state_join : (c : Context) (s : State) (xs ys : List Placed) → after_all c (after_all c s xs) ys ≡ after_all c s (xs ++ ys)
unfolding after_all
state_join c s [] ys = refl
state_join c s (x ∷ xs) ys = state_join c (after c s x) xs ys

sound_join : (c : Context) (s : State) (xs ys : List Placed) → AreSoundFrom c s xs → AreSoundFrom c (after_all c s xs) ys → AreSoundFrom c s (xs ++ ys)
unfolding after_all AreSoundFrom
sound_join c s [] ys f g = g
sound_join c s (x ∷ xs) ys f g = (f.0, sound_join c (after c s x) xs ys f.1 g)

offends_front : (c : Context) (s : State) (xs ys : List Placed) (o : Offence) → OffendsFirst c s xs o → OffendsFirst c s (xs ++ ys) o
unfolding OffendsFirst
offends_front c s [] ys o f = absurd f
offends_front c s (x ∷ xs) ys o (inl f) = inl f
offends_front c s (x ∷ xs) ys o (inr f) = inr (f.0, offends_front c (after c s x) xs ys o f.1)

offends_behind : (c : Context) (s : State) (xs ys : List Placed) (o : Offence) → AreSoundFrom c s xs → OffendsFirst c (after_all c s xs) ys o → OffendsFirst c s (xs ++ ys) o
unfolding after_all AreSoundFrom OffendsFirst
offends_behind c s [] ys o f g = g
offends_behind c s (x ∷ xs) ys o f g = inr (f.0, offends_behind c (after c s x) xs ys o f.1 g)

pub read_none : (c : Context) (s : State) → AreRead c s [] s
unfolding after_all AreSoundFrom
read_none c s = record { sound = tt; state = refl }

pub read_both : (c : Context) (s t u : State) (xs ys : List Placed) → AreRead c s xs t → AreRead c t ys u → AreRead c s (xs ++ ys) u
read_both c s t u xs ys f g =
    record {
      sound = sound_join c s xs ys f.sound (subst (λ v. AreSoundFrom c v ys) f.state g.sound);
      state = g.state ∙ ap (λ v. after_all c v ys) f.state ∙ state_join c s xs ys;
    }

pub stop_front : (c : Context) (s : State) (xs ys : List Placed) (e : BoardError) → IsStop c s xs e → IsStop c s (xs ++ ys) e
stop_front c s xs ys Memory h = h
stop_front c s xs ys (Bad o) h = offends_front c s xs ys o h

pub stop_behind : (c : Context) (s t : State) (xs ys : List Placed) (e : BoardError) → AreRead c s xs t → IsStop c t ys e → IsStop c s (xs ++ ys) e
stop_behind c s t xs ys Memory f h = h
stop_behind c s t xs ys (Bad o) f h = offends_behind c s xs ys o f.sound (subst (λ v. OffendsFirst c v ys o) f.state h)

-- one item that was tried
pub read_one : (c : Context) (s : State) (p : Placed) (new : State) (kind : Option OffenceKind) → IsTried c s p.item (thing_of c.bytes p) new kind → kind ≡ None → AreRead c s (p ∷ []) new
unfolding after after_all AreSoundFrom
read_one c s p new kind h e = record { sound = (subst (IsKindBy c s p.item (thing_of c.bytes p)) e h.is_kind, tt); state = h.after e }

pub stop_one : (c : Context) (s : State) (p : Placed) (new : State) (kind : Option OffenceKind) (line : ℕ) (e : BoardError) → IsTried c s p.item (thing_of c.bytes p) new kind
    → line ≡ line_of c.bytes p.item.from → IsOf p.item.from line kind e → IsStop c s (p ∷ []) e
unfolding OffendsFirst
stop_one c s p new kind line Memory h l e = absurd e
stop_one c s p new kind line (Bad o) h l e =
    inl (record {
      is_kind = subst (IsKindBy c s p.item (thing_of c.bytes p)) e.2 h.is_kind;
      at_item = e.0;
      on_line = e.1 ∙ l ∙ ap (line_of c.bytes) (sym e.0);
    })

-- the board itself, of which nothing is read
pub root_tried : (c : Context) (item : Item) (kind : Option OffenceKind) → kind ≡ board_kind c item → IsTried c nothing_read_yet item (thing_of c.bytes (the_board item)) nothing_read_yet kind
unfolding thing_of
root_tried c item kind e = record { is_kind = record { outline = None; is_outline = λ h. absurd (false≢true h); is_kind = e }; after = λ h. refl }

-- an error that is handed on stays as it is
pub err_kept : {A : Type 0} (r : Result A BoardError) (e f : BoardError) (P : BoardError → Type 0) → r ≡ Err f → f ≡ e → P e → IfErr r P
err_kept r e f P is same p = subst (λ q. IfErr q P) (sym is) (subst P (sym same) p)
