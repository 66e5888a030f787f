-- The laws of loops and rings.
use Rattle.std.proofs.Common.{length, ◌≡◌, sym, subst, arith, List, [], ◌∷◌}
use Rattle.std.specs.Prelude.{AllPairs}
use Rattle.std.proofs.lemmas.List.Kept.{AllPairs-cons}
use Rattle.plane.specs.Covering.{Edge}
use Rattle.strips.specs.declared.Strip.{Strip}
use Rattle.strips.specs.Strips.{IsTrapezoid, IsStripBefore}
use Rattle.rings.specs.Boundary.{AreBoundary}
use Rattle.rings.specs.Laws.{AreOrderly, OneLoopsLaw, OneRingsLaw, LoopsCoverLaw, RingsCoverLaw, UnionCoverLaw, SomeLoopsLaw, SomeRingsLaw, HasOneNextEach, NextLaw, SlitsNextLaw, UncutLaw, SomeSlitsLaw, WalksLaw, SlitsWalksLaw, LoopsByLaw, SlitsByLaw, DrawnRingsLaw, RingsByLaw}
use Rattle.rings.specs.Walks.{IsWalk, joined_walks}
use Rattle.rings.specs.Inner.Tracing.{walks_of}
use Rattle.rings.proofs.Orbits.{IsClosed}
use Rattle.rings.proofs.Outcome.{loops_right, slits_right, rings_drawn, rings_right}
use Rattle.rings.proofs.Permuted.{tidy_permuted, alternate_permuted}
use Rattle.rings.proofs.Tracing.{walks_are}
use Rattle.std.specs.List.{All, AllZip}
use Rattle.std.specs.List.Sorted.{IsPermutation}
use Rattle.rings.proofs.Unique.{loops_one}
use Rattle.rings.specs.Rings.{holes_of, with_slits}
use Rattle.rings.specs.Slits.{IsSlit}
use Rattle.rings.specs.Loops.{Loop, AreLoopsOf}
use Rattle.rings.proofs.Lists.{Has, has_of, all_at, all_of, rising_of, NoRepeats}
use Rattle.rings.proofs.Walks.{HasOneNext}
use Rattle.rings.proofs.Near.{Alternate, OneToOne, near_next, one_to_one, boundary_alternate}
use Rattle.rings.proofs.Parts.{boundary_exists}
use Rattle.rings.proofs.Slitted.{boundary_loops, boundary_rings, boundary_slits, slits_alternate}
use Rattle.rings.proofs.Cover.{loops_cover, rings_cover}
use Rattle.rings.proofs.Rings.{AreTidy, tidy_next, tidy_with, rings_one}
use Rattle.rings.proofs.Sides.{AreOrdered}
use Rattle.rings.proofs.Boundary.{boundary_good, boundary_parted, boundary_once, boundary_same}

ordered : (ss : List Strip) → AreOrderly ss → AreOrdered ss
ordered ss a = record { shape = λ s h. all_at (λ s. IsTrapezoid s) ss s a.shapes h; order = rising_of IsStripBefore ss a.order }

tidy : (ss : List Strip) (es : List Edge) → AreOrdered ss → AreBoundary ss es → AreTidy es
tidy ss es o b = record { good = boundary_good ss es o b; parted = boundary_parted ss es o b; once = boundary_once ss es o b }

pub one_loops_law : OneLoopsLaw
one_loops_law ss loops others s a b =
    let o = ordered ss s in
    let t = tidy ss a.edges o a.boundary in
    loops_one a.edges b.edges loops others (tidy_next a.edges t) t.once (boundary_once ss b.edges o b.boundary) (boundary_same ss a.edges b.edges a.boundary b.boundary) a.are b.are

pub one_rings_law : OneRingsLaw
one_rings_law ss rings others s a b =
    let o = ordered ss s in
    rings_one a.edges b.edges rings others (tidy ss a.edges o a.boundary) (tidy ss b.edges o b.boundary) (boundary_same ss a.edges b.edges a.boundary b.boundary) a.are b.are

pub loops_cover_law : LoopsCoverLaw
loops_cover_law ss loops p s a = loops_cover ss a.edges loops p (ordered ss s) a.boundary a.are

pub rings_cover_law : RingsCoverLaw
rings_cover_law ss rings p s a = rings_cover ss a.edges rings p (ordered ss s) a.boundary a.are

pub union_cover_law : UnionCoverLaw
union_cover_law os ss rings p s c a = let r = rings_cover_law ss rings p s a in let k = c p in (λ i. k.0 (r.0 i), λ i. r.1 (k.1 i))

pub some_loops_law : SomeLoopsLaw
some_loops_law ss s =
    let o = ordered ss s in
    let b = boundary_exists ss o in
    let l = boundary_loops ss b.0 o b.1 in
    (l.0, record { edges = b.0; boundary = b.1; are = l.1 })

pub some_rings_law : SomeRingsLaw
some_rings_law ss s =
    let o = ordered ss s in
    let b = boundary_exists ss o in
    let r = boundary_rings ss b.0 o b.1 in
    (r.0, record { edges = b.0; boundary = b.1; are = r.1 })

-- ---- next edges
once_pairs : (es : List Edge) → NoRepeats es → AllPairs (λ e f. e ≡ f → ⊥) es
unfolding NoRepeats
once_pairs [] n = λ i j d l m. absurd (omega (arith, m))
once_pairs (e ∷ es) n = AllPairs-cons (λ e f. e ≡ f → ⊥) e es (all_of (λ f. e ≡ f → ⊥) es (λ f h k. n.0 (subst (Has es) (sym k) h))) (once_pairs es n.1)

next_each : (es : List Edge) → AreTidy es → Alternate es → HasOneNextEach es
unfolding Alternate HasOneNext OneToOne
next_each es t a = record {
  some = λ e c. (let n = a e (has_of es e c) in (n.0, near_next es e n.0 n.1));
  one = tidy_next es t;
  apart = λ e g f c d n m. one_to_one es t a e g f (has_of es e c) (has_of es g d) n m;
  once = once_pairs es t.once;
}

-- edges that don't overlap and alternate around each corner
record AreSound (es : List Edge) : Type 0 where
  tidy : AreTidy es
  alternate : Alternate es

sound_permuted : (es fs : List Edge) → IsPermutation es fs → AreSound es → AreSound fs
sound_permuted es fs p s = record { tidy = tidy_permuted es fs p s.tidy; alternate = alternate_permuted es fs p s.alternate }

boundary_sound : (ss : List Strip) (es : List Edge) → AreOrderly ss → AreBoundary ss es → AreSound es
boundary_sound ss es s b = let o = ordered ss s in record { tidy = tidy ss es o b; alternate = boundary_alternate ss es o b }

slits_sound : (ss : List Strip) (es : List Edge) (loops : List Loop) (slits : List Edge) → AreOrderly ss → AreBoundary ss es → AreLoopsOf es loops → AllZip (IsSlit es) (holes_of loops) slits → AreSound (with_slits es slits)
slits_sound ss es loops slits s b a z = let o = ordered ss s in record { tidy = tidy_with es loops slits (tidy ss es o b) a z; alternate = (slits_alternate ss es loops slits o b a z).0 }

pub next_law : NextLaw
next_law ss es fs s b p = let k = sound_permuted es fs p (boundary_sound ss es s b) in next_each fs k.tidy k.alternate

pub slits_next_law : SlitsNextLaw
slits_next_law ss es loops slits gs s b a z p = let k = sound_permuted (with_slits es slits) gs p (slits_sound ss es loops slits s b a z) in next_each gs k.tidy k.alternate

pub uncut_law : UncutLaw
uncut_law ss es loops slits s b a z = (slits_alternate ss es loops slits (ordered ss s) b a z).1

pub some_slits_law : SomeSlitsLaw
some_slits_law ss es loops s b a = boundary_slits ss es loops (ordered ss s) b a

-- ---- the plain program
walks_right : (es : List Edge) → AreSound es → All (IsWalk es) (walks_of (length es) es es) × IsPermutation (joined_walks (walks_of (length es) es es)) es
unfolding Alternate IsClosed
walks_right es s =
    let t = s.tidy in
    let r = walks_are (length es) es es (tidy_next es t) (one_to_one es t s.alternate)
    (record { closed = λ e h. (let n = s.alternate e h in (n.0, near_next es e n.0 n.1, (n.1).one)); inside = λ e h. h; once = t.once }) (omega arith) in
    (all_of (IsWalk es) (walks_of (length es) es es) r.are, r.perm)

pub walks_law : WalksLaw
walks_law ss es fs s b p = walks_right fs (sound_permuted es fs p (boundary_sound ss es s b))

pub slits_walks_law : SlitsWalksLaw
slits_walks_law ss es loops slits gs s b a z p = walks_right gs (sound_permuted (with_slits es slits) gs p (slits_sound ss es loops slits s b a z))

pub loops_by_law : LoopsByLaw
loops_by_law ss es fs s b p = loops_right ss es fs (ordered ss s) b p

pub slits_by_law : SlitsByLaw
slits_by_law ss es fs loops s b p a = slits_right ss es fs loops (ordered ss s) b p a

pub drawn_rings_law : DrawnRingsLaw
drawn_rings_law ss es loops slits gs s b a z p = rings_drawn ss es loops slits gs (ordered ss s) b a z p

pub rings_by_law : RingsByLaw
rings_by_law ss es s b = rings_right ss es (ordered ss s) b
