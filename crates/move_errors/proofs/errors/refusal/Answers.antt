use Rattle.std.proofs.Common.{◌≡◌, ℕ, ◌<◌, List, map, length, slice_get, slice_index_or, Option, Some, None, refl, sym, ap, subst, ◌∙◌, arith}
use Rattle.std.proofs.lemmas.Option.{same_Some, slice_get-get_or, get_or_from_slice_get, slice_get_within}
use Rattle.mir_ty.specs.ItemTable.{ItemTable}
use Rattle.cfg_graph.specs.declared.place.Place.{Place}
use Rattle.cfg_graph.specs.declared.graph.Body.{Body}
use Rattle.cfg_graph.specs.Places.{named}
use Rattle.cfg_graph.specs.Moves.BadUses.{UseRule, U1, U2}
use Rattle.move_paths.specs.Uses.{use_of}
use Rattle.move_errors.specs.Reaches.{Reaches, rule_of}
use Rattle.move_errors.specs.Refusal.{IsRefused, IsRefusal, refused_by, named_use}
use Rattle.move_errors.specs.Runs.{Problem, Trip, problem, number_of, beginning, action_of}
use Rattle.move_errors.specs.Stands.{IsFrom, Logged}
use Rattle.move_errors.specs.declared.errors.BadUse.{BadUse as Refused}
use Rattle.move_errors.specs.declared.errors.UseError.{UseError}
use Rattle.move_errors.specs.declared.point.Stage.{Stage}
use Rattle.move_errors.specs.declared.search.Visit.{Visit}
use Rattle.move_errors.proofs.Meeting.{reaches}
use Rattle.move_errors.proofs.Running.{reached-soon}
use Rattle.move_errors.proofs.Sorted.{least-by-number}
use Rattle.move_errors.proofs.errors.refusal.Goals as goal

lower : (f : Problem) (o : Option ℕ) (n m : ℕ) → IsFrom f o n → o ≡ Some m → m < n
lower f None n m from is = absurd (cc)
lower f (Some k) n m from is = let same = same_Some k m is in omega (from, same, arith)

refused : (items : ItemTable) (body : Body) (n : ℕ) (rule : UseRule) (bad : Refused) (error : UseError) → error ≡ refused_by rule bad → IsRefused items body n rule bad → IsRefusal items body n error
refused items body n U1 bad error is it = subst (IsRefusal items body n) (sym is) it
refused items body n U2 bad error is it = subst (IsRefusal items body n) (sym is) it

inside : (visits slice : List Visit) (done : List Trip) (n : ℕ) (t : Trip) → slice ≡ visits → length visits ≡ length done → slice_get done n ≡ Some t → n < length slice
inside visits slice done n t same long at = let k = slice_get_within done n t at in let e = ap length same in omega (k, long, e, arith)

pub trail-requires-clause-earlier : goal.trail-requires-clause-earlier
trail-requires-clause-earlier c = λ n visit from at is.
    let f : Problem = problem c.args.watch.now.items.now c.args.watch.now.body.now c.args.watch.now.forest.paths in
    lower f visit.from n from (c.requires.found.logged.froms n visit (ap (λ (z : List Visit). slice_get z n) (sym c.as_slice.ensures) ∙ at)) is

pub trail-requires-clause-last : goal.trail-requires-clause-last
trail-requires-clause-last c = inside c.args.trace.now.visits c.as_slice.result.now c.requires.found.done c.args.trace.now.found.visit c.requires.found.trip c.as_slice.ensures c.requires.found.logged.long c.requires.found.at

pub bounds-as_slice-trace : goal.bounds-as_slice-trace
bounds-as_slice-trace c = inside c.args.trace.now.visits c.as_slice-2.result.now c.requires.found.done c.args.trace.now.found.visit c.requires.found.trip c.as_slice-2.ensures c.requires.found.logged.long c.requires.found.at

pub returns : goal.returns
returns c =
    let w = c.args.watch.now in
    let items : ItemTable = w.items.now in
    let body : Body = w.body.now in
    let f : Problem = problem w.items.now w.body.now w.forest.paths in
    let found = c.requires.found in
    let trip : Trip = found.trip in
    let act = c.args.trace.now.found.act in
    let n : ℕ = c.args.trace.now.found.visit in
    let none : Visit = record { at = record { block = 0; stage = Stage.Entry }; from = None; choice = None } in
    let visit : Visit = slice_index_or c.as_slice-2.result.now n none in
    let within : n < length c.as_slice-2.result.now = inside c.args.trace.now.visits c.as_slice-2.result.now found.done n trip c.as_slice-2.ensures found.logged.long found.at in
    let here : slice_get c.args.trace.now.visits n ≡ Some visit = ap (λ (z : List Visit). slice_get z n) (sym c.as_slice-2.ensures) ∙ slice_get-get_or c.as_slice-2.result.now n none within in
    let last : slice_index_or found.done n (beginning f) ≡ trip = get_or_from_slice_get found.done n trip (beginning f) found.at in
    let block : trip.at.block ≡ visit.at.block = ap (λ (z : Trip). z.at.block) (sym last ∙ found.logged.each n visit here) in
    let logged : Logged f c.as_slice.result.now found.done = subst (λ (z : List Visit). Logged f z found.done) (sym c.as_slice.ensures) found.logged in
    let path : c.in_ok-way.way.path ≡ trip.path = c.in_ok-way.ensures.path f found.done logged ∙ ap (λ (z : Trip). z.path) last in
    let answers : c.in_ok-way.way.answers ≡ map number_of trip.given = c.in_ok-way.ensures.answers f found.done logged ∙ ap (λ (z : Trip). map number_of z.given) last in
    let bad : Refused = record { body = c.args.body; block = visit.at.block; line = act.line; place = c.in_ok-copy_of.field-0; by = act.how; answers = c.in_ok-way.way.answers; path = c.in_ok-way.way.path } in
    let rule : UseRule = rule_of (use_of act.how) in
    let reached = reaches w.items.now w.body.now w.forest w.below c.requires.watched trip found.run (action_of trip.at.block act) found.first in
    let there = subst (λ (z : Place). Reaches w.items.now w.body.now trip.path trip.given (record { rule = rule_of (use_of act.how); action = record { how = use_of act.how; place = named z; block = trip.at.block; line = act.line } })) (sym c.in_ok-copy_of.ensures) reached in
    let in_block = subst (λ (z : ℕ). Reaches w.items.now w.body.now trip.path trip.given (record { rule = rule_of (use_of act.how); action = record { how = use_of act.how; place = named c.in_ok-copy_of.field-0; block = z; line = act.line } })) block there in
    refused w.items.now w.body.now c.args.body rule bad c.by_rule.result c.by_rule.ensures (record {
      body_is = refl;
      given = trip.given;
      answers = answers;
      reaches = subst (λ (z : List ℕ). Reaches w.items.now w.body.now z trip.given (named_use rule bad)) (sym path) in_block;
      least = λ other_path other other_bad r.
          let soon = reached-soon w.items.now w.body.now w.forest w.below c.requires.watched other_path other other_bad r in
          least-by-number trip.given other (let k = found.least soon.0 soon.1 soon.2 in let l = soon.3 in omega (k, l, arith));
    })
