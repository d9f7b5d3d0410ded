use Rattle.std.proofs.Common.{◌≡◌, ◌≢◌, ◌⊎◌, ℕ, ◌+◌, ◌<◌, ◌≤◌, List, [], ◌∷◌, ◌++◌, length, Option, None, Bool, true, false, slice_get, slice_index_or, slice_set, refl, sym, ap, subst, ◌∙◌, arith}
use Rattle.std.specs.Option.{option_map, is_some}
use Rattle.std.specs.Prelude.{sum_by}
use Rattle.mir_ty.proofs.ListLemmas.{slice_get-last}
use Rattle.bit_rows.specs.Words.{union}
use Rattle.cfg_graph.specs.Moves.Gone.{PathAction}
use Rattle.init_flow.specs.Carried.{Bits}
use Rattle.init_flow.specs.WorkList.{off, is_off}
use Rattle.move_errors.specs.Rows.{after, first_by}
use Rattle.move_errors.specs.Runs.{Problem, Trip, problem, index_of, acts_at, action_of}
use Rattle.move_errors.specs.Searching.{Own}
use Rattle.move_errors.specs.Stands.{trip_of, waiting_of, Logged, remaining, pushed_items}
use Rattle.move_errors.specs.declared.act.Act.{Act}
use Rattle.move_errors.specs.declared.point.Point.{Point}
use Rattle.move_errors.specs.declared.search.Search.{Search}
use Rattle.move_errors.specs.declared.search.Visit.{Visit}
use Rattle.move_errors.specs.declared.search.Waiting.{Waiting}
use Rattle.move_errors.proofs.Owning.{owns, leads-inside}
use Rattle.move_errors.proofs.Sorted.{here}
use Rattle.move_errors.proofs.Turning.{brings-nothing, goes-on, less-left, two-more, logged-more}
use Rattle.move_errors.proofs.Visiting.{first-least}
use Rattle.move_errors.proofs.search.turn.Goals as goal

set-at : (old new : List Bits) (row : Bits) (i n : ℕ) → i ≡ n → new ≡ slice_set old i (union row (slice_index_or old i [])) → new ≡ slice_set old n (union row (slice_index_or old n []))
set-at old new row i n same is = is ∙ ap (λ (z : ℕ). slice_set old z (union row (slice_index_or old z []))) same

flag-at : (old new : List Bool) (i n : ℕ) → i ≡ n → new ≡ slice_set old i true → new ≡ slice_set old n true
flag-at old new i n same is = is ∙ ap (λ (z : ℕ). slice_set old z true) same

none-first : (o : Option PathAction) (p : Option Act) (g : Act → PathAction) → option_map g p ≡ o → p ≡ None → is_some o ≡ false
none-first o p g is none = ap is_some (sym is) ∙ ap (λ (z : Option Act). is_some (option_map g z)) none

less-one : (old new : Search) (u v q : ℕ) → u < v → u ≡ sum_by off new.seen + sum_by is_off new.reached → v ≡ sum_by off old.seen + sum_by is_off old.reached
    → q ≡ length old.queue.items → length new.queue.items ≤ q + 2 → remaining new ≤ remaining old
less-one old new u v q less a b c d = omega (less, a, b, c, d, arith)

pub bring-requires-clause-row : goal.bring-requires-clause-row
bring-requires-clause-row c =
    let s = c.requires.stands in
    let h = here c.args.item c.args.search.now.queue.items in
    s.widths c.args.item h ∙ sym (ap (λ (n : ℕ). length (slice_index_or c.args.search.now.seen n [])) c.index.ensures ∙ s.seen.widths (index_of c.args.item.visit.at) (s.within c.args.item h))

pub returns-then-not-bring-clause-stands : goal.returns-then-not-bring-clause-stands
returns-then-not-bring-clause-stands c = λ none.
    let w = c.args.watch.now in
    let f : Problem = problem w.items.now w.body.now w.forest.paths in
    let e = c.bring.ensures in
    let old : Search = c.args.search.now in
    let item : Waiting = c.args.item in
    let n : ℕ = index_of c.args.item.visit.at in
    let nothing = e.old c.if-not-bring.true in
    brings-nothing f (owns w.items.now w.body.now w.forest.paths) old c.bring.new.self item c.requires.stands
    (set-at old.seen c.bring.new.self.seen item.row c.index.result n c.index.ensures e.seen)
    (flag-at old.reached c.bring.new.self.reached c.index.result n c.index.ensures e.reached) e.visits (ap (λ q. q.items) e.queue)
    (subst (λ (z : ℕ). union item.row (slice_index_or old.seen z []) ≡ slice_index_or old.seen z []) c.index.ensures nothing.0)
    (subst (λ (z : ℕ). slice_index_or old.reached z false ≡ true) c.index.ensures nothing.1)

pub bad_at-requires-clause-row : goal.bad_at-requires-clause-row
bad_at-requires-clause-row c = c.requires.stands.widths c.args.item (here c.args.item c.args.search.now.queue.items)

pub returns-in-Some-clause-found : goal.returns-in-Some-clause-found
returns-in-Some-clause-found c =
    let w = c.args.watch.now in
    let f : Problem = problem w.items.now w.body.now w.forest.paths in
    let law : Own f = owns w.items.now w.body.now w.forest.paths in
    let s = c.requires.stands in
    let old : Search = c.args.search.now in
    let item : Waiting = c.args.item in
    let at : Point = item.visit.at in
    let h = here item old.queue.items in
    let t : Trip = trip_of f s.done item.visit item.row in
    let visits : c.visit.new.self.visits ≡ old.visits ++ item.visit ∷ [] = c.in_ok-number.ensures.visits ∙ ap (λ (z : List Visit). z ++ item.visit ∷ []) c.bring.ensures.visits in
    record {
      done = s.done ++ t ∷ [];
      logged = subst (λ (z : List Visit). Logged f z (s.done ++ t ∷ [])) (sym visits) (logged-more f law old.visits s.done item.visit item.row s.logged (s.from_done item h));
      trip = t;
      at = ap (slice_get (s.done ++ t ∷ [])) (c.in_ok-number.ensures.number ∙ ap length c.bring.ensures.visits ∙ s.logged.long) ∙ slice_get-last s.done t;
      run = s.visited.waiting_runs t (here t (waiting_of f s.done old.queue.items));
      first = sym c.in_ok-act.ensures.first ∙ ap (option_map (action_of at.block)) c.in-Some.is;
      least = first-least f law s.done t (waiting_of f s.done old.queue.items) s.visited;
    }

pub returns-in-Some-clause-less : goal.returns-in-Some-clause-less
returns-in-Some-clause-less c =
    let s = c.requires.stands in
    let old : Search = c.args.search.now in
    let new : Search = c.visit.new.self in
    let e = c.bring.ensures in
    let h = here c.args.item old.queue.items in
    let n : ℕ = index_of c.args.item.visit.at in
    let within : n < (problem c.args.watch.now.items.now c.args.watch.now.body.now c.args.watch.now.forest.paths).points = s.within c.args.item h in
    let seen = c.visit.ensures.seen ∙ set-at old.seen c.bring.new.self.seen c.args.item.row c.index.result n c.index.ensures e.seen in
    let reached = c.visit.ensures.reached ∙ flag-at old.reached c.bring.new.self.reached c.index.result n c.index.ensures e.reached in
    let news = subst (λ (z : ℕ). (union c.args.item.row (slice_index_or old.seen z []) ≢ slice_index_or old.seen z []) ⊎ (slice_index_or old.reached z false ≡ false)) c.index.ensures (e.fresh c.if-not-bring.false) in
    let less = less-left (problem c.args.watch.now.items.now c.args.watch.now.body.now c.args.watch.now.forest.paths) (owns c.args.watch.now.items.now c.args.watch.now.body.now c.args.watch.now.forest.paths)
    old new n c.args.item.row (s.widths c.args.item h ∙ sym (s.seen.widths n within)) (let k = s.seen.seen_are in omega (k, within, arith)) (let k = s.seen.reached_are in omega (k, within, arith)) seen reached news in
    let queue : length new.queue.items ≡ length old.queue.items = ap (λ q. length q.items) (c.visit.ensures.queue ∙ e.queue) in
    less-one old new (sum_by off new.seen + sum_by is_off new.reached) (sum_by off old.seen + sum_by is_off old.reached) (length old.queue.items) less refl refl refl (omega (queue, arith))

pub returns-clause-stands : goal.returns-clause-stands
returns-clause-stands c = λ none.
    let w = c.args.watch.now in
    let f : Problem = problem w.items.now w.body.now w.forest.paths in
    let old : Search = c.args.search.now in
    let new : Search = c.go_on.new.self in
    let item : Waiting = c.args.item in
    let at : Point = item.visit.at in
    let n : ℕ = index_of at in
    let e = c.bring.ensures in
    goes-on f (owns w.items.now w.body.now w.forest.paths) old new item c.bad_at.new.row c.in_ok-number.number c.requires.stands
    (λ choice to leads. leads-inside w.items.now w.body.now at.block at.stage choice to leads)
    (c.go_on.ensures.seen ∙ c.visit.ensures.seen ∙ set-at old.seen c.bring.new.self.seen item.row c.index.result n c.index.ensures e.seen)
    (c.go_on.ensures.reached ∙ c.visit.ensures.reached ∙ flag-at old.reached c.bring.new.self.reached c.index.result n c.index.ensures e.reached)
    (c.go_on.ensures.visits ∙ c.in_ok-number.ensures.visits ∙ ap (λ (z : List Visit). z ++ item.visit ∷ []) e.visits)
    (c.in_ok-number.ensures.number ∙ ap length e.visits)
    (c.in_ok-act.ensures.after c.in_default.is)
    (none-first (first_by w.items.now w.body.now w.forest.paths (acts_at w.items.now w.body.now at.block at.stage) item.row) c.in_ok-act.field-0 (action_of at.block)
    c.in_ok-act.ensures.first c.in_default.is)
    (c.in_ok-go_on.ensures.queue ∙ (λ i. pushed_items (c.goes_on-onward.ensures i) c.in_ok-number.number c.bad_at.new.row (ap (λ q. q.items) (c.visit.ensures.queue ∙ e.queue) i)))

pub returns-clause-less : goal.returns-clause-less
returns-clause-less c =
    let s = c.requires.stands in
    let old : Search = c.args.search.now in
    let new : Search = c.go_on.new.self in
    let e = c.bring.ensures in
    let h = here c.args.item old.queue.items in
    let n : ℕ = index_of c.args.item.visit.at in
    let within : n < (problem c.args.watch.now.items.now c.args.watch.now.body.now c.args.watch.now.forest.paths).points = s.within c.args.item h in
    let seen = c.go_on.ensures.seen ∙ c.visit.ensures.seen ∙ set-at old.seen c.bring.new.self.seen c.args.item.row c.index.result n c.index.ensures e.seen in
    let reached = c.go_on.ensures.reached ∙ c.visit.ensures.reached ∙ flag-at old.reached c.bring.new.self.reached c.index.result n c.index.ensures e.reached in
    let news = subst (λ (z : ℕ). (union c.args.item.row (slice_index_or old.seen z []) ≢ slice_index_or old.seen z []) ⊎ (slice_index_or old.reached z false ≡ false)) c.index.ensures (e.fresh c.if-not-bring.false) in
    let less = less-left (problem c.args.watch.now.items.now c.args.watch.now.body.now c.args.watch.now.forest.paths) (owns c.args.watch.now.items.now c.args.watch.now.body.now c.args.watch.now.forest.paths)
    old new n c.args.item.row (s.widths c.args.item h ∙ sym (s.seen.widths n within)) (let k = s.seen.seen_are in omega (k, within, arith)) (let k = s.seen.reached_are in omega (k, within, arith)) seen reached news in
    let queue : length new.queue.items ≡ length (pushed_items c.goes_on-onward.result c.in_ok-number.number c.bad_at.new.row c.visit.new.self.queue.items) = ap length c.in_ok-go_on.ensures.queue in
    let more = two-more (problem c.args.watch.now.items.now c.args.watch.now.body.now c.args.watch.now.forest.paths) (owns c.args.watch.now.items.now c.args.watch.now.body.now c.args.watch.now.forest.paths) c.goes_on-onward.result c.in_ok-number.number c.bad_at.new.row c.visit.new.self.queue.items in
    let same : length c.visit.new.self.queue.items ≡ length old.queue.items = ap (λ q. length q.items) (c.visit.ensures.queue ∙ e.queue) in
    less-one old new (sum_by off new.seen + sum_by is_off new.reached) (sum_by off old.seen + sum_by is_off old.reached) (length old.queue.items) less refl refl refl (omega (queue, more, same, arith))
