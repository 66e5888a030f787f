-- An accepted edit that adds a track or via adds it to the board.
use Rattle.std.proofs.Common.{◌≡◌, ◌∙◌, refl, ap, subst, ℕ, ◌-◌, List, ◌++◌, codes}
use Rattle.grid_num.specs.declared.Point.{Point}
use Rattle.sexpr_text.specs.Items.{Item}
use Rattle.sexpr_text.specs.Trees.{IsRoot}
use Rattle.text_splices.specs.Splice.{IsSplice}
use Rattle.board_text.specs.Items.{context_of, version_of}
use Rattle.board_language.specs.declared.board.Rules.{Rules}
use Rattle.board_language.specs.Board.{Board}
use Rattle.board_language.specs.Reading.{IsAccepted, board_of}
use Rattle.text_shapes.specs.Seen.{ItemSeen, item_seen}
use Rattle.text_shapes.specs.Spellings.{contents}
use Rattle.text_shapes.proofs.Seen.{groups}
use Rattle.edit_language.specs.declared.edit.Edit.TheVariants as edits
use Rattle.edit_language.specs.Scripts.{IsFormed}
use Rattle.edit_language.specs.Splices.{splice_of, has_uuids}
use Rattle.edit_language.specs.Edited.{splice_in, IsBoardOf}
use Rattle.edit_language.proofs.OneRoot.{one_root}
use Rattle.edit_changes.specs.Changes.{track_named, via_named, IsTrackAdded, IsViaAdded}
use Rattle.edit_changes.proofs.Holes.{list_seen}
use Rattle.edit_changes.proofs.Lists.{Lists, value_bytes}
use Rattle.edit_changes.proofs.Lines.{track_spelt, track_is, track_good, track_stamp, via_spelt, via_is, via_good, via_stamp}
use Rattle.edit_changes.proofs.NewValues.{track_read, via_read}
use Rattle.edit_changes.proofs.Added.{appended}
use Rattle.edit_changes.proofs.NewCopper.{track_added, via_added}

-- the board at the root of its text
pub board_at : (text : List ℕ) (rules : Rules) (b : Board) (root : Item) → (h : IsBoardOf text rules b) → IsRoot text root → b ≡ board_of text root rules
board_at text rules b root h r = h.board_is ∙ ap (λ (x : Item). board_of text x rules) (one_root text h.root root h.is_root r)

e_bytes : (text : List ℕ) (root z : Item) (s : ItemSeen) → item_seen text z ≡ s → item_seen (context_of text root).bytes z ≡ s
unfolding context_of
e_bytes text root z s e = e

layers_are : (text : List ℕ) (root : Item) (rules : Rules) → (context_of text root).copper ≡ (board_of text root rules).layers
unfolding board_of
layers_are text root rules = refl

module _ (text new : List ℕ) (root last : Item) (rules : Rules) (from to : Point) (width : ℕ) (layer : List ℕ) (net : ℕ) (stamp : List ℕ) where
  pub track_change : IsRoot text root → IsRoot new last → IsAccepted new last → IsFormed (edits.Track from to width layer net stamp)
      → IsSplice text (splice_in text root (edits.Track from to width layer net stamp)).from (splice_in text root (edits.Track from to width layer net stamp)).to
      (splice_in text root (edits.Track from to width layer net stamp)).put new
      → IsTrackAdded new rules stamp (track_named (board_of text root rules).layers from to width layer net) (board_of text root rules) (board_of new last rules)
  unfolding IsFormed splice_in splice_of
  track_change r l ok f s =
      let uuids = has_uuids (version_of text root) in
      let inner = track_spelt uuids from to width layer net stamp in
      let put : IsSplice text (root.to - 1) (root.to - 1) (codes "  " ++ (value_bytes (Lists inner) ++ codes "\n")) new =
      subst (λ z. IsSplice text (root.to - 1) (root.to - 1) z new) (track_is (version_of text root) from to width layer net stamp) s in
      let p = appended text new root last inner r l (λ room some. track_good room uuids from to width layer net stamp some f.0 f.1 f.2 f.3 f.4 f.5) put refl refl in
      track_added text new root last rules (groups (item_seen text root)) (list_seen (contents inner)) p refl stamp (λ layers. track_named layers from to width layer net)
      (λ z e. track_read (context_of new last) z uuids from to width layer net stamp (e_bytes new last z (list_seen (contents inner)) e) f.0 f.1 f.2 f.3 f.4 ∙ ap (λ layers. track_named layers from to width layer net) (layers_are new last rules))
      l ok (track_stamp uuids from to width layer net stamp f.5)

module _ (text new : List ℕ) (root last : Item) (rules : Rules) (at : Point) (size drill : ℕ) (top bottom : List ℕ) (net : ℕ) (stamp : List ℕ) where
  pub via_change : IsRoot text root → IsRoot new last → IsAccepted new last → IsFormed (edits.Via at size drill top bottom net stamp)
      → IsSplice text (splice_in text root (edits.Via at size drill top bottom net stamp)).from (splice_in text root (edits.Via at size drill top bottom net stamp)).to
      (splice_in text root (edits.Via at size drill top bottom net stamp)).put new
      → IsViaAdded new rules stamp (via_named (board_of text root rules).layers at size top bottom net) (board_of text root rules) (board_of new last rules)
  unfolding IsFormed splice_in splice_of
  via_change r l ok f s =
      let uuids = has_uuids (version_of text root) in
      let inner = via_spelt uuids at size drill top bottom net stamp in
      let put : IsSplice text (root.to - 1) (root.to - 1) (codes "  " ++ (value_bytes (Lists inner) ++ codes "\n")) new =
      subst (λ z. IsSplice text (root.to - 1) (root.to - 1) z new) (via_is (version_of text root) at size drill top bottom net stamp) s in
      let p = appended text new root last inner r l (λ room some. via_good room uuids at size drill top bottom net stamp some f.0 f.1 f.2 f.3 f.4 f.5 f.6) put refl refl in
      via_added text new root last rules (groups (item_seen text root)) (list_seen (contents inner)) p refl stamp (λ layers. via_named layers at size top bottom net)
      (λ z e. via_read (context_of new last) z uuids at size drill top bottom net stamp (e_bytes new last z (list_seen (contents inner)) e) f.0 f.1 f.3 f.4 f.5 ∙ ap (λ layers. via_named layers at size top bottom net) (layers_are new last rules))
      l ok (via_stamp uuids at size drill top bottom net stamp f.6)
