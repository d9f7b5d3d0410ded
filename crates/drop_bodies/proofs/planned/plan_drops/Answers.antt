use Rattle.std.proofs.Common.{◌≡◌, ◌∙◌, ℕ, List, Option, Some, length, map, ap, subst, sym, arith}
use Rattle.std.specs.List.{range_with_len}
use Rattle.std.proofs.lemmas.List.{length-map}
use Rattle.std.proofs.lemmas.List.FromFn.{length-range_with_len}
use Rattle.cfg_graph.specs.Places.{named}
use Rattle.cfg_graph.specs.declared.place.Place.{Place}
use Rattle.move_paths.specs.Trie.{AreOnce}
use Rattle.drop_elaborate.specs.Kinds.{AreFlagged}
use Rattle.drop_ends.specs.declared.decided.Decided.{Decided}
use Rattle.drop_flags.specs.Flags.{paths_of}
use Rattle.drop_kinds.specs.Decided.{AreDecided}
use Rattle.drop_plans.specs.Plans.{flag_of}
use Rattle.drop_plans.specs.Tables.{AreTable}
use Rattle.drop_wants.proofs.Flagging.{own_numbers}
use Rattle.drop_wants.proofs.Renumbering.{decided-by-table}
use Rattle.drop_wants.specs.Renumbered.{number_in, AreRenumbered}
use Rattle.drop_bodies.proofs.FlagTables.{table-is}
use Rattle.drop_bodies.proofs.FlaggedPaths.{flags-are, flagged-once}
use Rattle.drop_bodies.proofs.planned.plan_drops.Goals as goal

pub flag_table-requires-clause-flagged : goal.flag_table-requires-clause-flagged
flag_table-requires-clause-flagged c =
    let paths : List Place = c.in_ok-paths.paths in
    subst (λ (l : List Place). AreOnce (map named l)) (sym (c.as_slice-3.ensures ∙ c.in_ok-flags.ensures.paths))
    (flagged-once c.args.items.now c.args.body.now c.args.told.now.forest c.requires.told.forest (map named paths)
    c.in_ok-paths.ensures)

pub flag_table-requires-clause-room : goal.flag_table-requires-clause-room
flag_table-requires-clause-room c =
    let fits = c.in_ok-flags.ensures.fits in let long = ap length c.as_slice-3.ensures in omega (fits, long, arith)

numbers-long : (count : ℕ) → length (own_numbers count) ≡ count
numbers-long count = length-map (range_with_len 0 count) Some ∙ length-range_with_len 0 count

pub decisions-requires-clause-flags : goal.decisions-requires-clause-flags
decisions-requires-clause-flags c =
    ap length (c.as_slice.ensures ∙ c.in_ok-numbers.ensures) ∙ numbers-long c.len.result ∙ c.len.ensures.len

pub returns-clause-flagged : goal.returns-clause-flagged
returns-clause-flagged c =
    subst (λ (l : List Place). AreFlagged c.args.items.now c.args.body.now c.args.told.now.forest.paths (map named l))
    (sym c.in_ok-flags.ensures.paths) c.in_ok-paths.ensures

pub returns-clause-flags : goal.returns-clause-flags
returns-clause-flags c =
    flags-are c.args.items.now c.args.body.now c.args.told.now.forest c.requires.told.forest c.in_ok-flags.flags
    c.in_ok-flags.ensures.params c.in_ok-flags.ensures.first
    (subst (λ (l : List Place). AreFlagged c.args.items.now c.args.body.now c.args.told.now.forest.paths (map named l))
    (sym c.in_ok-flags.ensures.paths) c.in_ok-paths.ensures)

pub returns-clause-decided : goal.returns-clause-decided
returns-clause-decided c =
    let items = c.args.items.now in
    let body = c.args.body.now in
    let forest = c.args.told.now.forest in
    let flagged = paths_of c.in_ok-flags.flags in
    let table = c.in_ok-table.table in
    let first = c.in_ok-flags.flags.first in
    let are_flagged : AreFlagged items body forest.paths flagged =
    subst (λ (l : List Place). AreFlagged items body forest.paths (map named l)) (sym c.in_ok-flags.ensures.paths)
    c.in_ok-paths.ensures in
    let are : AreTable forest.paths flagged (length body.locals) table =
    subst (λ (n : ℕ). AreTable forest.paths flagged n table) c.in_ok-flags.ensures.first
    (subst (λ (l : List Place). AreTable forest.paths (map named l) first table) c.as_slice-3.ensures
    c.in_ok-table.ensures) in
    let own : AreDecided items body forest.paths (flag_of (own_numbers (length forest.paths))) (length body.blocks)
    c.in_ok-decided.decided =
    subst (λ (l : List (Option ℕ)). AreDecided items body forest.paths (flag_of l) (length body.blocks)
    c.in_ok-decided.decided)
    (c.as_slice.ensures ∙ c.in_ok-numbers.ensures ∙ ap own_numbers c.len.ensures.len) c.in_ok-decided.ensures in
    let after : List Decided = c.renumber.new.decided in
    let rest : AreRenumbered (number_in table) c.in_ok-decided.decided after =
    subst (λ (l : List (Option ℕ)). AreRenumbered (number_in l) c.in_ok-decided.decided after) c.as_slice-4.ensures
    c.renumber.ensures in
    subst (λ (f : ℕ → Option ℕ). AreDecided items body forest.paths f (length body.blocks) after)
    (table-is items body forest.paths flagged table are)
    (decided-by-table items body c.requires.ready forest c.requires.told.forest c.in_ok-decided.decided after own
    flagged
    are_flagged (length body.locals) table are rest)
