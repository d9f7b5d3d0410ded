use Rattle.std.proofs.Common.{◌≡◌, List, [], ◌∷◌, ◌++◌, drop, length, Option, length-drop, refl, sym, ap, subst, ◌∙◌, arith}
use Rattle.std.proofs.Common.{Bool}
use Rattle.std.specs.Option.{option_to_list}
use Rattle.init_flow.specs.Carried.{Bits}
use Rattle.move_errors.specs.declared.search.Visit.{Visit}
use Rattle.move_errors.specs.Runs.{Problem, problem}
use Rattle.move_errors.specs.Stands.{Stands, Logged, Seen}
use Rattle.move_errors.specs.declared.search.Search.{Search}
use Rattle.move_errors.specs.declared.search.Waiting.{Waiting}
use Rattle.move_errors.proofs.Owning.{owns}
use Rattle.move_errors.proofs.Visiting.{none-left}
use Rattle.move_errors.proofs.search.first_found.Goals as goal

popped : (f : Problem) (old new : Search) (items : List Waiting) → new.seen ≡ old.seen → new.reached ≡ old.reached → new.visits ≡ old.visits → Stands f old old.queue.items → old.queue.items ≡ items → Stands f new items
popped f old new items seen reached visits stands same =
    let s = subst (Stands f old) same stands in
    record {
      done = s.done;
      logged = subst (λ (z : List Visit). Logged f z s.done) (sym visits) s.logged;
      from_done = s.from_done;
      seen = subst (λ (z : List Bits). Seen f z new.reached s.done) (sym seen) (subst (λ (z : List Bool). Seen f old.seen z s.done) (sym reached) s.seen);
      visited = s.visited;
      widths = s.widths;
      within = s.within;
    }

empty-if : (xs : List Waiting) → xs ≡ drop 1 xs → xs ≡ []
empty-if [] e = refl
empty-if (x ∷ xs) e = let k = ap length e in let l = length-drop 1 (x ∷ xs) in absurd (omega (k, l, arith))

pub turn-requires-clause-stands : goal.turn-requires-clause-stands
turn-requires-clause-stands c =
    popped (problem c.args.watch.now.items.now c.args.watch.now.body.now c.args.watch.now.forest.paths) c.loop-item.search
    (record { seen = c.loop-item.search.seen; reached = c.loop-item.search.reached; visits = c.loop-item.search.visits; queue = c.pop_front.new.self })
    (c.in-Some.item ∷ c.pop_front.new.self.items) refl refl refl c.loop-item.invariant
    (c.pop_front.ensures.items ∙ ap (λ (o : Option Waiting). option_to_list o ++ c.pop_front.new.self.items) c.in-Some.is)

pub returns-clause-none : goal.returns-clause-none
returns-clause-none c = λ none u run.
    let w = c.args.watch.now in
    let f : Problem = problem w.items.now w.body.now w.forest.paths in
    let same : c.loop-item.search.queue.items ≡ c.pop_front.new.self.items = c.pop_front.ensures.items ∙ ap (λ (o : Option Waiting). option_to_list o ++ c.pop_front.new.self.items) c.in_default.is in
    let s = subst (Stands f c.loop-item.search) (empty-if c.loop-item.search.queue.items (same ∙ c.pop_front.ensures.rest)) c.loop-item.invariant in
    none-left f (owns w.items.now w.body.now w.forest.paths) s.done s.visited u run
