-- An accepted board is sound.
use Rattle.std.proofs.Common.{◌≡◌, subst, ℕ, ◌+◌, ◌≤◌, arith, true, List, length}
use Rattle.std.specs.Prelude.{nat_le, flat_map}
use Rattle.std.proofs.lemmas.Bool.Decides.{nat_tests}
use Rattle.sexpr_text.specs.Items.{Item}
use Rattle.board_text.specs.Things.{Placed, thing_of, items_of_board}
use Rattle.board_text.specs.Items.{Context, declared_nets, context_of}
use Rattle.board_language.specs.Reading.{AreSound, IsAccepted, board_of, all_of, track_from, via_from, pad_from, zone_from, area_from, edges_from}
use Rattle.board_language.proofs.Members.{one_of_flat}
use Rattle.board_language.specs.Facts.{IsSoundTrack, IsSoundVia, IsSoundPad, IsSoundZone, IsSoundArea, IsSoundBoardEdge}
use Rattle.board_facts.specs.Laws.{AcceptedLaw, FactsLaw}
use Rattle.board_language.proofs.Few.{accepted_few}
use Rattle.board_facts.proofs.Tried.{tried, all_of_members}
use Rattle.board_facts.proofs.Tracks.{track_read, via_read}
use Rattle.board_facts.proofs.Pads.{pad_read}
use Rattle.board_facts.proofs.Zones.{zone_read, area_read}
use Rattle.board_facts.proofs.Edges.{edge_read}
use Rattle.board_facts.proofs.Stamps.{stamps}
use Rattle.board_facts.proofs.Spans.{places}
use Rattle.board_facts.proofs.Nets.{nets_read}
use Rattle.board_facts.proofs.Counts.{few_outlines, few_things}

few : (n : ℕ) → nat_le n 32 ≡ true → n ≤ 32
few n e = grind (arith, nat_tests)

things_few : (c : Context) (root : Item) → AreSound c (items_of_board c.bytes root)
    → length (declared_nets c.bytes root) + length (all_of track_from c (items_of_board c.bytes root)) + length (all_of via_from c (items_of_board c.bytes root))
    + length (all_of pad_from c (items_of_board c.bytes root)) + length (all_of zone_from c (items_of_board c.bytes root))
    + length (flat_map (λ (p : Placed). edges_from c p.item (thing_of c.bytes p)) (items_of_board c.bytes root)) ≤ 200000
things_few c root a =
    subst (λ (ns : List ℕ). length ns + length (all_of track_from c (items_of_board c.bytes root)) + length (all_of via_from c (items_of_board c.bytes root))
    + length (all_of pad_from c (items_of_board c.bytes root)) + length (all_of zone_from c (items_of_board c.bytes root))
    + length (flat_map (λ (p : Placed). edges_from c p.item (thing_of c.bytes p)) (items_of_board c.bytes root)) ≤ 200000)
    (nets_read c.bytes root) (few_things c (items_of_board c.bytes root) a)

pub accepted : AcceptedLaw
unfolding IsAccepted board_of context_of
accepted bytes root rules r a =
    let c = context_of bytes root in
    let items = items_of_board bytes root in
    record {
      layers = few (length c.copper) (accepted_few bytes root a);
      outlines = few_outlines c items a;
      things = things_few c root a;
      zones = all_of_members (IsSoundZone (length c.copper)) _ (λ z i. zone_read c items z (tried c items zone_from z a i));
      areas = all_of_members (IsSoundArea (length c.copper)) _ (λ z i. area_read c items z (tried c items area_from z a i));
      tracks = all_of_members (IsSoundTrack (length c.copper)) _ (λ y i. track_read c items y (tried c items track_from y a i));
      vias = all_of_members (IsSoundVia (length c.copper)) _ (λ y i. via_read c items y (tried c items via_from y a i));
      pads = all_of_members (IsSoundPad (length c.copper)) _ (λ y i. pad_read c root y a (tried c items pad_from y a i));
      edges = all_of_members IsSoundBoardEdge _ (λ e i.
          (let f = one_of_flat (λ (p : Placed). edges_from c p.item (thing_of c.bytes p)) e items i in edge_read c f.0.item (thing_of c.bytes f.0) e f.2));
      rules = r;
    }

pub facts : FactsLaw
facts bytes root rules s r a = record { sound = accepted bytes root rules s a; placed = places bytes root rules r; stamps = stamps bytes root a }
