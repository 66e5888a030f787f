-- Edit after edit: what is untouched by both is untouched.
use Rattle.std.proofs.Common.{◌∙◌, refl, ap, sym, subst, ℕ, inl, inr, arith}
use Rattle.std.proofs.lemmas.Bool.{cases_Bool, both_ways}
use Rattle.plane.specs.Plane.{PlanePoint, Bounds, In, AreNear}
use Rattle.hulls.specs.Cells.{around}
use Rattle.board_language.specs.Board.{Board}
use Rattle.fill_rules.specs.Tasks.{Settings, zone_at}
use Rattle.fill_rules.specs.Needs.{Need}
use Rattle.fill_rules.specs.Dirty.{IsUntouched}
use Rattle.refill_laws.specs.Laws.{ChainLaw, ChainRanksLaw, SameLaw, RenamedLaw, NextFlagsLaw}
use Rattle.refill_laws.proofs.OldRanks.{one_old_rank, untouched_renamed}
use Rattle.refill_laws.proofs.Edits.{edit_law}

module _ (first second third : Board) (older old : ℕ → ℕ) (k : ℕ) (u : IsUntouched second third old k) (v : IsUntouched first second older (old k)) where
  near_then : (n : Need) → AreNear n.need (around (zone_at third k).outline) n.oct → AreNear n.need (around (zone_at second (old k)).outline) n.oct
  near_then n w = subst (λ (z : Settings). AreNear n.need (around z.outline) n.oct) (sym u.like.zone) w

  inside_then : (o : Bounds) → ((p : PlanePoint) → In o p → In (around (zone_at third k).outline) p) → (p : PlanePoint) → In o p → In (around (zone_at second (old k)).outline) p
  inside_then o f p i = subst (λ (z : Settings). In (around z.outline) p) (sym u.like.zone) (f p i)

  chain : IsUntouched first third (λ (m : ℕ). older (old m)) k
  chain = record {
    like = record {
      zone = v.like.zone ∙ u.like.zone;
      layer = v.like.layer ∙ u.like.layer;
      pads = v.like.pads ∙ u.like.pads;
      areas = v.like.areas ∙ u.like.areas;
      edges = v.like.edges ∙ u.like.edges;
    };
    items = λ n w. let x = v.items n (near_then n w) in let y = u.items n w in (λ i. y.0 (x.0 i), λ i. x.1 (y.1 i));
    anchors = λ c o t f. let x = v.anchors c o t (inside_then o f) in let y = u.anchors c o t f in (λ i. y.0 (x.0 i), λ i. x.1 (y.1 i));
    reach_to = λ j r. let m = v.reach_to j r in let n = u.reach_to m.0 m.2 in (n.0, ap older n.1 ∙ m.1, n.2, m.3 ∙ n.3);
    reach_from = λ m r. let x = u.reach_from m r in let y = v.reach_from (old m) x.0 in (y.0, x.1 ∙ y.1);
  }

pub chain_law : ChainLaw
chain_law first second third older old k u v = chain first second third older old k u v

pub chain_ranks : ChainRanksLaw
chain_ranks first second third older old r q m l =
    let x = r m l in
    let y = q (old m) x.within in
    record { within = y.within; is = y.is ∙ x.is }

pub same_law : SameLaw
same_law b = record {
  ranks = λ m l. record { within = l; is = refl };
  clean = λ k l e. record {
    like = record { zone = refl; layer = refl; pads = refl; areas = refl; edges = refl };
    items = λ n w. (λ i. i, λ i. i);
    anchors = λ c o t f. (λ i. i, λ i. i);
    reach_to = λ j r. (j, refl, r, refl);
    reach_from = λ m r. (r, refl);
  };
}

pub renamed : RenamedLaw
renamed filled b old other flagged h ranks = record {
  ranks = ranks;
  clean = λ k l e. untouched_renamed filled b k old other (λ m w. one_old_rank filled b old other h.ranks ranks m (omega (arith, w, l))) (h.clean k l e);
}

pub next_flags : NextFlagsLaw
next_flags text new rules filled b d edit s one older old flagged next h ranks n = record {
  ranks = chain_ranks filled b d older old ranks h.ranks;
  clean = λ k l e. elim (cases_Bool (flagged (old k))) [
    | inl f ↦ absurd (both_ways (next k) e ((n.each k l).1 (inl f)))
    | inr f ↦ chain_law filled b d older old k
        (edit_law text new rules b d edit s one old ranks k l (λ x. both_ways (next k) e ((n.each k l).1 (inr x))))
        (h.clean (old k) (ranks k l).within f)
  ];
}
