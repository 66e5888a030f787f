-- What the calls know of a board that is read, and of its tasks.
use Rattle.std.proofs.Common.{◌≡◌, ◌∙◌, refl, sym, ap, subst, ℕ, ◌<◌, arith, inl, inr, List, [], ◌∷◌, length, map, get_or}
use Rattle.std.specs.List.{All}
use Rattle.std.proofs.lemmas.List.{get_or-map, length-map}
use Rattle.std.proofs.lemmas.List.Elements.{All-cons}
use Rattle.classes.specs.Classes.{IsOneOf}
use Rattle.board_language.specs.declared.board.Track.{Track}
use Rattle.board_language.specs.declared.board.Via.{Via}
use Rattle.board_language.specs.declared.board.Pad.{Pad}
use Rattle.board_language.specs.Board.{Board}
use Rattle.board_language.specs.Facts.{IsSoundBoard}
use Rattle.board_language.proofs.Members.{map_one_of}
use Rattle.fill_rules.specs.Tasks.{ranked, task_at, no_task}
use Rattle.fill_rules.specs.Ranking.{IsTask}
use Rattle.fill_rules.specs.Made.{Made}
use Rattle.fill_rules.proofs.Ranking.{ranked_is}
use Rattle.fills.specs.declared.Task.{Task}
use Rattle.fills.specs.Fills.{task_of}
use Rattle.fills.specs.Above.{AreFillsOfTasks, AreFillsAboveTask}
use Rattle.knockouts.specs.Inner.Reach.{IsTrackInReach, IsViaInReach, IsPadInReach}
use Rattle.knockouts.proofs.Near.{member}

-- ---- the lists of a board, as they are read

pub tracks_near : (b : Board) (ts : List Track) → IsSoundBoard b → ts ≡ b.tracks → All IsTrackInReach ts
tracks_near b ts s e = subst (All IsTrackInReach) (sym e) (λ k d l. (let t = s.tracks k d l in record { from = t.from; to = t.to; width = t.width }))

pub vias_near : (b : Board) (vs : List Via) → IsSoundBoard b → vs ≡ b.vias → All IsViaInReach vs
vias_near b vs s e = subst (All IsViaInReach) (sym e) (λ k d l. (let v = s.vias k d l in record { at = v.at; size = v.size }))

pub pads_near : (b : Board) (ps : List Pad) → IsSoundBoard b → ps ≡ b.pads → All IsPadInReach ps
pads_near b ps s e = subst (All IsPadInReach) (sym e) (λ k d l. (let p = s.pads k d l in record { at = p.at; pad = p.pad }))

-- ---- tasks

pub few_layers : (b : Board) (t : Rattle.fill_rules.specs.Tasks.Task) → IsSoundBoard b → IsTask b t → t.layer < 32
few_layers b t s h = let few = s.layers in let l = h.layer in omega (arith, few, l)

-- each of the ranked tasks is one of the board's
pub each_task : (b : Board) (ts : List Task) → map task_of ts ≡ ranked b → All (λ (t : Task). IsTask b (task_of t)) ts
each_task b ts e k d l =
    let t : Task = get_or ts k d in
    ((ranked_is b).members (task_of t)).0 (subst (λ us. IsOneOf (task_of t) us) e (map_one_of task_of t ts (member ts k d l)))

pub task_of_rank : (b : Board) (i : ℕ) → i < length (ranked b) → IsTask b (task_at b i)
unfolding task_at
task_of_rank b i l = ((ranked_is b).members (task_at b i)).0 (member (ranked b) i (no_task b) l)

-- the task that fills stand above is one of the board's
pub above_task : (b : Board) (t : Rattle.fill_rules.specs.Tasks.Task) (fills : List Made) → AreFillsAboveTask b t fills → IsTask b t
above_task b t fills h = subst (IsTask b) h.task (task_of_rank b h.rank h.within)

fills_tasks : (b : Board) (js : List ℕ) (fs : List Made) → ((j : ℕ) → IsOneOf j js → j < length (ranked b)) → AreFillsOfTasks b js fs → All (λ (f : Made). IsTask b f.task) fs
unfolding IsOneOf
fills_tasks b [] [] w h = λ k d l. absurd (omega (arith, l))
fills_tasks b [] (f ∷ fs) w h = absurd h
fills_tasks b (j ∷ js) [] w h = absurd h
fills_tasks b (j ∷ js) (f ∷ fs) w h =
    All-cons (λ (g : Made). IsTask b g.task) f fs (subst (IsTask b) (sym h.0.task) (task_of_rank b j (w j (inl refl)))) (fills_tasks b js fs (λ i m. w i (inr m)) h.1)

-- each of the fills above is that of one of the board's tasks
pub above_tasks : (b : Board) (t : Rattle.fill_rules.specs.Tasks.Task) (fills : List Made) → AreFillsAboveTask b t fills → All (λ (f : Made). IsTask b f.task) fills
above_tasks b t fills h =
    fills_tasks b h.above.tasks fills (λ j m. (let r = ((h.above.reaching.same j).0 m).above in omega (arith, r, h.within))) h.above.each

-- as they are read, one by one
pub read_task : {X : Type 0} (f : X → Made) (b : Board) (xs : List X) (k : ℕ) (x : X) → k < length xs → x ≡ get_or xs k x → All (λ (m : Made). IsTask b m.task) (map f xs) → IsTask b (f x).task
read_task f b xs k x l e h =
    subst (λ (m : Made). IsTask b m.task) (get_or-map f xs k x (f x) l ∙ ap f (sym e)) (h k (f x) (let n = length-map xs f in omega (arith, n, l)))
