-- The board that was read is the board of the definition, and a refusal is its first offence.
use Rattle.std.proofs.Common.{◌≡◌, ◌∙◌, ap, sym, subst, ℕ, List, []}
use Rattle.sexpr_text.specs.Items.{Item}
use Rattle.sexpr_text.specs.Parts.{Part}
use Rattle.board_language.specs.declared.board.Rules.{Rules}
use Rattle.board_text.specs.Layers.{Name}
use Rattle.board_text.specs.Items.{Context, context_of, version_of}
use Rattle.board_text.specs.Things.{items_of_board}
use Rattle.board_language.specs.Reading.{board_of, IsAccepted, IsOffence}
use Rattle.board_items.specs.declared.Known.{Known}
use Rattle.board_items.specs.Known.{context}
use Rattle.board_model.specs.declared.error.BoardError.{BoardError}
use Rattle.board_model.specs.declared.error.BoardError.TheVariants.{Memory, Bad}
use Rattle.board_model.specs.State.{State, nothing_read_yet}
use Rattle.board_model.specs.Run.{AreRead, IsStop}
use Rattle.board_model.specs.Whole.{Whole, whole_from, whole_board, stamps_of_board, IsRefusal}
use Rattle.board_model.proofs.First.{all_sound, first_offence}
use Rattle.board_language.specs.Clearances.{AreSoundRules}
use Rattle.board_language.specs.Facts.{IsSoundBoard}
use Rattle.board_language.proofs.Few.{accepted_few}
use Rattle.board_facts.proofs.Accepted.{accepted}
use Rattle.board_model.proofs.Found.{IsFound, none_found, all_found}

-- the part is the root of the text, and what is known is what holds for its board
pub record IsRootOf (bytes : List ℕ) (root : Item) (part : Part) (known : Known) : Type 0 where
  pub text_is : part.bytes ≡ bytes
  pub item_is : part.item ≡ root
  pub known_is : context part.bytes known ≡ context_of part.bytes part.item

pub root_of : (bytes : List ℕ) (root : Item) (part : Part) (known : Known) → part.bytes ≡ bytes → part.item ≡ root → context part.bytes known ≡ context_of part.bytes part.item → IsRootOf bytes root part known
root_of bytes root part known t i k = record { text_is = t; item_is = i; known_is = k }

refused_so : (bytes : List ℕ) (root : Item) (e : BoardError) → IsStop (context_of bytes root) nothing_read_yet (items_of_board bytes root) e → IsRefusal bytes root e
unfolding IsOffence
refused_so bytes root Memory h = h
refused_so bytes root (Bad o) h = first_offence (context_of bytes root) (items_of_board bytes root) o h

pub refusal : (bytes : List ℕ) (root : Item) (part : Part) (known : Known) (e : BoardError) → IsRootOf bytes root part known
    → IsStop (context part.bytes known) nothing_read_yet (items_of_board part.bytes part.item) e → IsRefusal bytes root e
refusal bytes root part known e r h =
    let in_part = refused_so part.bytes part.item e (subst (λ c. IsStop c nothing_read_yet (items_of_board part.bytes part.item) e) r.known_is h) in
    subst (λ b. IsRefusal b root e) r.text_is (subst (λ i. IsRefusal part.bytes i e) r.item_is in_part)

accepted_so : (bytes : List ℕ) (root : Item) (s : State) → AreRead (context_of bytes root) nothing_read_yet (items_of_board bytes root) s → IsAccepted bytes root
unfolding IsAccepted
accepted_so bytes root s h = all_sound (context_of bytes root) (items_of_board bytes root) h.sound

found_so : (bytes : List ℕ) (root : Item) (s : State) → AreRead (context_of bytes root) nothing_read_yet (items_of_board bytes root) s → IsFound (context_of bytes root) s (items_of_board bytes root)
found_so bytes root s h =
    let c = context_of bytes root in
    let items = items_of_board bytes root in
    let few = accepted_few bytes root (all_sound c items h.sound) in
    subst (λ t. IsFound c t items) (sym h.state) (all_found c nothing_read_yet [] items few (none_found c))

whole_so : (bytes : List ℕ) (root : Item) (version : ℕ) (layers : List Name) (nets : List ℕ) (s : State) (rules : Rules) → version ≡ version_of bytes root → layers ≡ (context_of bytes root).copper → nets ≡ (context_of bytes root).nets
    → AreRead (context_of bytes root) nothing_read_yet (items_of_board bytes root) s → whole_from version layers nets s rules ≡ whole_board bytes root rules
unfolding board_of stamps_of_board
whole_so bytes root version layers nets s rules v l n h =
    let f = found_so bytes root s h in
    λ i. record {
      board = record {
        layers = l i;
        nets = n i;
        tracks = f.tracks i;
        vias = f.vias i;
        pads = f.pads i;
        zones = f.zones i;
        areas = f.areas i;
        edges = f.edges i;
        rules = rules;
      };
      version = v i;
      stamps = f.stamps i;
    }

pub read_so : (bytes : List ℕ) (root : Item) (part : Part) (known : Known) (version : ℕ) (layers : List Name) (s : State) (rules : Rules) → IsRootOf bytes root part known
    → version ≡ version_of part.bytes part.item → layers ≡ known.copper
    → AreRead (context part.bytes known) nothing_read_yet (items_of_board part.bytes part.item) s → IsAccepted bytes root × (whole_from version layers known.nets s rules ≡ whole_board bytes root rules)
read_so bytes root part known version layers s rules r v l h =
    let in_part = subst (λ c. AreRead c nothing_read_yet (items_of_board part.bytes part.item) s) r.known_is h in
    let whole = whole_so part.bytes part.item version layers known.nets s rules v (l ∙ ap (λ (c : Context). c.copper) r.known_is) (ap (λ (c : Context). c.nets) r.known_is) in_part in (
      subst (λ b. IsAccepted b root) r.text_is (subst (λ i. IsAccepted part.bytes i) r.item_is (accepted_so part.bytes part.item s in_part)),
      whole ∙ ap (λ i. whole_board part.bytes i rules) r.item_is ∙ ap (λ b. whole_board b root rules) r.text_is,
    )

-- so it has what every accepted board has
pub sound_so : (bytes : List ℕ) (root : Item) (part : Part) (known : Known) (version : ℕ) (layers : List Name) (s : State) (rules : Rules) → IsRootOf bytes root part known
    → version ≡ version_of part.bytes part.item → layers ≡ known.copper
    → AreRead (context part.bytes known) nothing_read_yet (items_of_board part.bytes part.item) s → AreSoundRules rules → IsSoundBoard (whole_from version layers known.nets s rules).board
sound_so bytes root part known version layers s rules r v l h a =
    let read = read_so bytes root part known version layers s rules r v l h in
    subst (λ (w : Whole). IsSoundBoard w.board) (sym read.1) (accepted bytes root rules a read.0)
