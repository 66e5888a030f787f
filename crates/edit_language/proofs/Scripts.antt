-- A script has either edits or a first fault, and just one of these.
use Rattle.std.proofs.Common.{◌≡◌, ◌∙◌, refl, ap, sym, subst, ℕ, suc, ◌+◌, List, [], ◌∷◌, ◌++◌, map, length, Option, None, Some, inl, inr, arith}
use Rattle.std.specs.Prelude.{◌⊎◌}
use Rattle.edit_language.specs.declared.edit.Edit.{Edit}
use Rattle.edit_language.specs.declared.edit.EditKind.{EditKind}
use Rattle.edit_language.specs.Lines.{Line, lines_of}
use Rattle.edit_language.specs.Forms.{fault_of}
use Rattle.edit_language.specs.Scripts.{edit_of, AreLinesSound, AreEdits, IsFirstFault, Script, Edits, Fault, or_fault, before_others, script_from, script_of}
use Rattle.edit_language.specs.Laws.{EditsLaw, FaultLaw, SomeScriptLaw, OneScriptLaw}

-- no line is faulty behind so many edits
abbrev pub SoundFrom : ℕ → List Line → Type 0
SoundFrom n [] = Unit {0}
SoundFrom n (line ∷ lines) = (fault_of n line ≡ None) × SoundFrom (suc n) lines

pub sound_at : (n : ℕ) (before after : List Line) (line : Line) → SoundFrom n (before ++ line ∷ after) → fault_of (n + length before) line ≡ None
sound_at n [] after line s = ap (λ k. fault_of k line) (omega arith) ∙ s.0
sound_at n (b ∷ before) after line s = ap (λ k. fault_of k line) (omega arith) ∙ sound_at (suc n) before after line s.1

pub sound_from : (n : ℕ) (lines : List Line)
    → ((before after : List Line) (line : Line) → lines ≡ before ++ line ∷ after → fault_of (n + length before) line ≡ None) → SoundFrom n lines
sound_from n [] h = tt
sound_from n (line ∷ lines) h = (
  ap (λ k. fault_of k line) (omega arith) ∙ h [] lines line refl,
  sound_from (suc n) lines (λ before after other e. ap (λ k. fault_of k other) (omega arith) ∙ h (line ∷ before) after other (ap (λ k. line ∷ k) e)),
)

to_sound : (lines : List Line) → SoundFrom 0 lines → AreLinesSound lines
to_sound lines s before after line e = ap (λ k. fault_of k line) (omega arith) ∙ sound_at 0 before after line (subst (SoundFrom 0) e s)

of_sound : (lines : List Line) → AreLinesSound lines → SoundFrom 0 lines
of_sound lines h = sound_from 0 lines (λ before after line e. ap (λ k. fault_of k line) (omega arith) ∙ h before after line e)

-- ---- values of scripts

abbrev pub is_edits : Script → List Edit
is_edits (Edits edits) = edits
is_edits (Fault line kind) = []

abbrev pub line_in : Script → ℕ
line_in (Edits edits) = 0
line_in (Fault line kind) = line

abbrev pub kind_in : EditKind → Script → EditKind
kind_in other (Edits edits) = other
kind_in other (Fault line kind) = kind

abbrev pub IsFaulty : Script → Type 0
IsFaulty (Edits edits) = ⊥
IsFaulty (Fault line kind) = Unit {0}

-- ---- from lines to the value

-- the lines are edits, or one is the first faulty
record HasFault (n : ℕ) (lines : List Line) (at : ℕ) (kind : EditKind) : Type 0 where
  before : List Line
  after : List Line
  line : Line
  stands : lines ≡ before ++ line ∷ after
  sound : SoundFrom n before
  is_kind : fault_of (n + length before) line ≡ Some kind
  on_line : at ≡ line.number

pub edits_value : (n : ℕ) (lines : List Line) → SoundFrom n lines → script_from n lines ≡ Edits (map edit_of lines)
unfolding script_from
edits_value n [] s = refl
edits_value n (line ∷ lines) s =
    ap (λ o. or_fault line o (before_others (edit_of line) (script_from (suc n) lines))) s.0 ∙ ap (before_others (edit_of line)) (edits_value (suc n) lines s.1)

pub fault_value : (n : ℕ) (before after : List Line) (line : Line) (kind : EditKind) → SoundFrom n before → fault_of (n + length before) line ≡ Some kind
    → script_from n (before ++ line ∷ after) ≡ Fault line.number kind
unfolding script_from
fault_value n [] after line kind s e =
    ap (λ o. or_fault line o (before_others (edit_of line) (script_from (suc n) after))) (ap (λ k. fault_of k line) (omega arith) ∙ e)
fault_value n (b ∷ before) after line kind s e =
    ap (λ o. or_fault b o (before_others (edit_of b) (script_from (suc n) (before ++ line ∷ after)))) s.0
    ∙ ap (before_others (edit_of b)) (fault_value (suc n) before after line kind s.1 (ap (λ k. fault_of k line) (omega arith) ∙ e))

-- ---- there is one of the two

choose : (n : ℕ) (line : Line) (lines : List Line) (o : Option EditKind) → fault_of n line ≡ o
    → SoundFrom (suc n) lines ⊎ ((at : ℕ) × (kind : EditKind) × HasFault (suc n) lines at kind)
    → SoundFrom n (line ∷ lines) ⊎ ((at : ℕ) × (kind : EditKind) × HasFault n (line ∷ lines) at kind)
choose n line lines (Some kind) e h = inr (
  line.number,
  kind,
  record {
    before = [];
    after = lines;
    line = line;
    stands = refl;
    sound = tt;
    is_kind = ap (λ k. fault_of k line) (omega arith) ∙ e;
    on_line = refl;
  },
)
choose n line lines None e (inl s) = inl (e, s)
choose n line lines None e (inr (at, kind, f)) = inr (
  at,
  kind,
  record {
    before = line ∷ f.before;
    after = f.after;
    line = f.line;
    stands = ap (λ k. line ∷ k) f.stands;
    sound = (e, f.sound);
    is_kind = ap (λ k. fault_of k f.line) (omega arith) ∙ f.is_kind;
    on_line = f.on_line;
  },
)

decide : (n : ℕ) (lines : List Line) → SoundFrom n lines ⊎ ((at : ℕ) × (kind : EditKind) × HasFault n lines at kind)
decide n [] = inl tt
decide n (line ∷ lines) = choose n line lines (fault_of n line) refl (decide (suc n) lines)

of_fault : (script : List ℕ) (at : ℕ) (kind : EditKind) → HasFault 0 (lines_of script) at kind → IsFirstFault script at kind
of_fault script at kind f = record {
  before = f.before;
  after = f.after;
  line = f.line;
  stands = f.stands;
  sound = to_sound f.before f.sound;
  is_kind = ap (λ k. fault_of k f.line) (omega arith) ∙ f.is_kind;
  on_line = f.on_line;
}

pub some_script : SomeScriptLaw
some_script script = elim (decide 0 (lines_of script)) [
  | inl s ↦ inl (map edit_of (lines_of script), record { sound = to_sound (lines_of script) s; edits_are = refl })
  | inr f ↦ inr (f.0, f.1, of_fault script f.0 f.1 f.2)
]

value_of_edits : (script : List ℕ) (edits : List Edit) → AreEdits script edits → script_of script ≡ Edits edits
unfolding script_of
value_of_edits script edits a = edits_value 0 (lines_of script) (of_sound (lines_of script) a.sound) ∙ ap Edits (sym a.edits_are)

value_of_fault : (script : List ℕ) (at : ℕ) (kind : EditKind) → IsFirstFault script at kind → script_of script ≡ Fault at kind
unfolding script_of
value_of_fault script at kind f =
    ap (script_from 0) f.stands
    ∙ fault_value 0 f.before f.after f.line kind (of_sound f.before f.sound) (ap (λ k. fault_of k f.line) (omega arith) ∙ f.is_kind)
    ∙ ap (λ k. Fault k kind) (sym f.on_line)

edits_back : (script : List ℕ) (edits : List Edit) → script_of script ≡ Edits edits
    → ((edits : List Edit) × AreEdits script edits) ⊎ ((line : ℕ) × (kind : EditKind) × IsFirstFault script line kind) → AreEdits script edits
edits_back script edits e (inl (others, a)) =
    record { sound = a.sound; edits_are = ap is_edits (sym e ∙ value_of_edits script others a) ∙ a.edits_are }
edits_back script edits e (inr (line, kind, f)) = absurd (subst IsFaulty (sym (value_of_fault script line kind f) ∙ e) tt)

pub edits_law : EditsLaw
edits_law script edits = (λ e. edits_back script edits e (some_script script), value_of_edits script edits)

fault_back : (script : List ℕ) (at : ℕ) (kind : EditKind) → script_of script ≡ Fault at kind
    → ((edits : List Edit) × AreEdits script edits) ⊎ ((line : ℕ) × (kind : EditKind) × IsFirstFault script line kind) → IsFirstFault script at kind
fault_back script at kind e (inl (others, a)) = absurd (subst IsFaulty (sym e ∙ value_of_edits script others a) tt)
fault_back script at kind e (inr (line, other, f)) =
    let same : Fault line other ≡ Fault at kind = sym (value_of_fault script line other f) ∙ e in
    record {
      before = f.before;
      after = f.after;
      line = f.line;
      stands = f.stands;
      sound = f.sound;
      is_kind = f.is_kind ∙ ap (λ s. Some (kind_in kind s)) same;
      on_line = sym (ap line_in same) ∙ f.on_line;
    }

pub fault_law : FaultLaw
fault_law script at kind = (λ e. fault_back script at kind e (some_script script), value_of_fault script at kind)

pub one_script : OneScriptLaw
one_script script edits others line at kind other = (
  λ a f. subst IsFaulty (sym (value_of_fault script line kind f) ∙ value_of_edits script edits a) tt,
  λ a b. ap is_edits (sym (value_of_edits script edits a) ∙ value_of_edits script others b),
  λ f g. (
    ap line_in (sym (value_of_fault script line kind f) ∙ value_of_fault script at other g),
    ap (kind_in kind) (sym (value_of_fault script line kind f) ∙ value_of_fault script at other g),
  ),
)
