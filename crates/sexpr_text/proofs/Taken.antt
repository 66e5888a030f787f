-- What was read and what waits, step by step.
use Rattle.std.proofs.Common.{◌≡◌, ℕ, ◌+◌, ◌-◌, ◌≤◌, List, [], ◌∷◌, ◌++◌, length, take, drop, refl, sym, ◌∙◌, ap, subst, arith, append_assoc, length-append}
use Rattle.std.proofs.lemmas.List.{append-nil, drop_at, take_at}
use Rattle.sexpr_text.specs.Grammar.{Items, IsWhite, IsWord, IsString, IsBracket}
use Rattle.sexpr_text.specs.Flat.{flat, numbers}
use Rattle.sexpr_text.specs.Inner.Built.{Built}
use Rattle.sexpr_text.specs.Inner.Run.{Reads, Takes, TakesList}
use Rattle.sexpr_text.specs.declared.NodeKind.TheVariants as kind
use Rattle.sexpr_text.proofs.Steps.{node, white_at, reads_none, reads_more, reads_wider, reads_end, reads_word, reads_string, reads_group, reads_as}

pub takes_none : (bytes : List ℕ) (room at : ℕ) (old : Built) → at ≤ length bytes → Takes bytes room at at old old
takes_none bytes room at old h = record { ids = []; reads = reads_none bytes room at old.nodes h; waiting = sym (append-nil old.waiting) }

pub takes_more : (bytes : List ℕ) (room start at to : ℕ) (old mid new : Built) → Takes bytes room start at old mid → Takes bytes room at to mid new → Takes bytes room start to old new
takes_more bytes room start at to old mid new a b = record {
  ids = a.ids ++ b.ids;
  reads = reads_more bytes room start at to old.nodes mid.nodes new.nodes a.ids b.ids a.reads b.reads;
  waiting = b.waiting ∙ ap (λ w. w ++ b.ids) a.waiting ∙ append_assoc old.waiting a.ids b.ids;
}

-- white space before what was taken, and behind it
pub takes_wider : (bytes : List ℕ) (room at mid to : ℕ) (old new : Built) → IsWhite bytes at mid → Takes bytes room mid to old new → Takes bytes room at to old new
takes_wider bytes room at mid to old new w a = record { ids = a.ids; reads = reads_wider bytes room at mid to old.nodes new.nodes a.ids w a.reads; waiting = a.waiting }

pub takes_end : (bytes : List ℕ) (room start at to : ℕ) (old new : Built) → Takes bytes room start at old new → IsWhite bytes at to → Takes bytes room start to old new
takes_end bytes room start at to old new a w = record { ids = a.ids; reads = reads_end bytes room start at to old.nodes new.nodes a.ids a.reads w; waiting = a.waiting }

pub takes_word : (bytes : List ℕ) (room at to : ℕ) (old new : Built) → at ≤ length bytes → IsWord bytes at to
    → new.nodes ≡ old.nodes ++ node kind.Word at to [] ∷ [] → new.waiting ≡ old.waiting ++ length old.nodes ∷ [] → Takes bytes room at to old new
takes_word bytes room at to old new h w e f = record {
  ids = length old.nodes ∷ [];
  reads = reads_as bytes room at to old.nodes _ new.nodes _ _ (reads_word bytes room at to old.nodes h w) e refl;
  waiting = f;
}

pub takes_string : (bytes : List ℕ) (room at to : ℕ) (old new : Built) → at ≤ length bytes → IsString bytes at to
    → new.nodes ≡ old.nodes ++ node kind.Text at to [] ∷ [] → new.waiting ≡ old.waiting ++ length old.nodes ∷ [] → Takes bytes room at to old new
takes_string bytes room at to old new h w e f = record {
  ids = length old.nodes ∷ [];
  reads = reads_as bytes room at to old.nodes _ new.nodes _ _ (reads_string bytes room at to old.nodes h w) e refl;
  waiting = f;
}

-- what waits from the mark on is what was taken since
taken_since : (old mid : Built) (ids : List ℕ) (mark : ℕ) → mark ≡ length old.waiting → mid.waiting ≡ old.waiting ++ ids → drop mark mid.waiting ≡ ids
taken_since old mid ids mark m e = ap (drop mark) e ∙ drop_at old.waiting ids mark (sym m)

waited_before : (old mid : Built) (ids : List ℕ) (mark : ℕ) → mark ≡ length old.waiting → mid.waiting ≡ old.waiting ++ ids → take mark mid.waiting ≡ old.waiting
waited_before old mid ids mark m e = ap (take mark) e ∙ take_at old.waiting ids mark (sym m)

pub mark_within : (bytes : List ℕ) (room at end mark : ℕ) (old mid : Built) → mark ≡ length old.waiting → Takes bytes room at end old mid → mark ≤ length mid.waiting
mark_within bytes room at end mark old mid m t = let e : length mid.waiting ≡ length old.waiting + length t.ids = ap length t.waiting ∙ length-append old.waiting t.ids in omega arith

pub takes_group : (bytes : List ℕ) (room at end mark : ℕ) (old mid new : Built) → at ≤ length bytes → IsBracket bytes room at (end + 1) → mark ≡ length old.waiting
    → Takes bytes (room - 1) (at + 1) end old mid → new.nodes ≡ mid.nodes ++ node kind.List at (end + 1) (drop mark mid.waiting) ∷ []
    → new.waiting ≡ take mark mid.waiting ++ length mid.nodes ∷ [] → Takes bytes room at (end + 1) old new
takes_group bytes room at end mark old mid new h w m t e f = record {
  ids = length mid.nodes ∷ [];
  reads = reads_as bytes room at (end + 1) old.nodes _ new.nodes _ _ (reads_group bytes room at end old.nodes mid.nodes t.ids h w t.reads)
      (e ∙ ap (λ xs. mid.nodes ++ node kind.List at (end + 1) xs ∷ []) (taken_since old mid t.ids mark m t.waiting)) refl;
  waiting = f ∙ ap (λ xs. xs ++ length mid.nodes ∷ []) (waited_before old mid t.ids mark m t.waiting);
}

pub takes_list : (bytes : List ℕ) (room at end mark : ℕ) (old mid new : Built) → at ≤ length bytes → IsBracket bytes room at (end + 1) → mark ≡ length old.waiting
    → Takes bytes (room - 1) (at + 1) end old mid → new.nodes ≡ mid.nodes ++ node kind.List at (end + 1) (drop mark mid.waiting) ∷ [] → TakesList bytes room at (end + 1) old new
takes_list bytes room at end mark old mid new h w m t e =
    let p : end ≡ end + 1 - 1 = omega arith in
    let r : Reads bytes (room - 1) (at + 1) end old.nodes mid.nodes t.ids = t.reads in
    record {
      inner = r.tree;
      items = (white_at bytes at h, w, subst (λ x. Items bytes (room - 1) (at + 1) x r.tree) p r.items, white_at bytes (end + 1) w.within);
      nodes = e ∙ ap (λ xs. mid.nodes ++ node kind.List at (end + 1) xs ∷ []) (taken_since old mid t.ids mark m t.waiting ∙ r.numbered)
          ∙ ap (λ xs. xs ++ node kind.List at (end + 1) (numbers (length old.nodes) r.tree) ∷ []) r.nodes
          ∙ append_assoc old.nodes (flat (length old.nodes) r.tree) (node kind.List at (end + 1) (numbers (length old.nodes) r.tree) ∷ []);
    }
