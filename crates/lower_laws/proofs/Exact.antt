-- The law without a word of values of type `!`: the lines of a graph without a fault have their types, and the value of an
-- assignment has a cell that is no parameter's.
use Rattle.std.proofs.Common.{◌≡◌, inl, inr, ℕ, zero, suc, ◌+◌, ◌&&◌, Bool, true, false, List, [], ◌∷◌, ◌++◌, length, Option, Some, slice_get, refl, sym, ap, subst, ◌∙◌}
use Rattle.std.specs.Prelude.{option_map}
use Rattle.std.specs.List.{list_all}
use Rattle.std.specs.Option.{option_map_or}
use Rattle.std.proofs.lemmas.Bool.{false≢true}
use Rattle.std.proofs.lemmas.Option.{none-some, same_Some, slice_get-map}
use Rattle.mir_ty.specs.declared.def.Sig.{Sig}
use Rattle.mir_ty.specs.ItemTable.{ItemTable}
use Rattle.cfg_graph.specs.declared.graph.Block.{Block}
use Rattle.cfg_graph.specs.declared.graph.Body.{Body}
use Rattle.cfg_graph.specs.declared.graph.Graph.{Graph}
use Rattle.cfg_graph.specs.declared.graph.Kind.{Kind}
use Rattle.cfg_graph.specs.declared.statement.Stmt.{Stmt}
use Rattle.cfg_graph.specs.Moves.BadUses.{BadUse}
use Rattle.cfg_graph.specs.WellFormed.Faults.{at_line, of_each, item_faults, own_faults, locals_faults, stmts_faults, block_faults, faults_of_body, end_faults, IsWellFormed}
use Rattle.cfg_graph.specs.WellFormed.LineFaults.{stmt_tests, stmt_faults, term_tests, term_faults}
use Rattle.cfg_graph.specs.WellFormed.Typing.{stmt_is_typed, term_is_typed}
use Rattle.cfg_graph.proofs.NoFaults.{first_empty, second_empty, map_empty, of_each-empty, broken-holds}
use Rattle.cfg_graph.specs.Edges.{IsRanked, is_turn, is_turn_kind}
use Rattle.cfg_meaning.specs.Programs.{free_walk}
use Rattle.cfg_meaning.specs.Walk.{renamed}
use Rattle.move_errors.proofs.Pathways.{entry_choices}
use Rattle.move_errors.specs.Reaches.{Reaches}
use Rattle.lower_laws.specs.Meets.{PanicsLeadElsewhere, site_of, RunsReach, in_block, on_way}
use Rattle.lower_laws.proofs.Elsewhere.{kept-elsewhere}
use Rattle.typed_tree.specs.Nodes.{numbers_of}
use Rattle.typed_tree.specs.Tree.{BodyTree, ProgramTree}
use Rattle.src_meaning.specs.Programs.{free_run, reached_by}
use Rattle.store_model.specs.Abstract.Effects.{AbstractState}
use Rattle.store_model.specs.Effects.{Aborted, Out, Go, Halts, Unwind}
use Rattle.well_typed.specs.Claim.{Holds}
use Rattle.well_typed.specs.Names.{do_rise}
use Rattle.well_typed.specs.Program.{are_bodies, WellTyped}
use Rattle.lower_rules.specs.Laws.{AllNameTheirLoops}
use Rattle.lower_rules.specs.Lower.{body_of, graph_of, node_of, frame}
use Rattle.lower_rules.proofs.Bodies.{lowered_begins_plain, lowered_is_ranked, lowered_keeps_to_cleanup, lowered_returns, lowered_walks_as_it_runs_freely}
use Rattle.lower_rules.specs.CodeLaws.{without_place}
use Rattle.lower_rules.proofs.FormSites.{lowered_stops}
use Rattle.lower_laws.specs.Refused.{ruled_by, MeetsExactly, AllNumbersRise, LoweredPathsMeetExactly}
use Rattle.lower_laws.proofs.Ends as ends
use Rattle.lower_laws.proofs.Ends.{GivesCalmly, calm_by, calm_to, calmly}
use Rattle.lower_laws.proofs.Law.{lowered-paths-meet}
use Rattle.lower_laws.proofs.Numbers.{IsNoParam, no_param_in}
use Rattle.lower_laws.proofs.Taking.{given-where-taken, taken-by, taken-to}
use Rattle.lower_laws.specs.Given.{GivesBeforeBad, choices_left}

-- the numbers of the nodes of bodies that are well typed rise
pub bodies_rise : (items : ItemTable) (n : ℕ) (sigs : List Sig) (bodies : List BodyTree) → Holds (are_bodies items n sigs bodies) → (i : ℕ) (tree : BodyTree) → slice_get bodies i ≡ Some tree → do_rise (numbers_of tree) ≡ true
bodies_rise items n [] [] h i tree e = absurd (none-some tree e)
bodies_rise items n [] (body ∷ bodies) h i tree e = absurd (false≢true h)
bodies_rise items n (sig ∷ sigs) [] h i tree e = absurd (none-some tree e)
bodies_rise items n (sig ∷ sigs) (body ∷ bodies) h zero tree e = subst (λ (t : BodyTree). do_rise (numbers_of t) ≡ true) (same_Some body tree e) h.0.1.1.1.0
bodies_rise items n (sig ∷ sigs) (body ∷ bodies) h (suc i) tree e = bodies_rise items (suc n) sigs bodies h.1 i tree e

pub well_typed_rise : (program : ProgramTree) → WellTyped program → AllNumbersRise program
well_typed_rise program typed = bodies_rise program.items 0 program.items.bodies program.bodies typed.1

-- ---- the lines of a graph without a fault
all_pass : {X : Type 0} (test : X → Bool) (xs : List X) → ((n : ℕ) (x : X) → slice_get xs n ≡ Some x → test x ≡ true) → list_all test xs ≡ true
all_pass test [] h = refl
all_pass test (x ∷ xs) h = λ i. h 0 x refl i && all_pass test xs (λ n y e. h (suc n) y e) i

module _ (graph : Graph) (formed : IsWellFormed graph) (number : ℕ) (body : Body) (found : slice_get graph.bodies number ≡ Some body) where
  in_bodies : of_each (faults_of_body graph) 0 graph.bodies ≡ []
  in_bodies = first_empty (of_each (faults_of_body graph) 0 graph.bodies) (end_faults graph) (second_empty (item_faults graph) (of_each (faults_of_body graph) 0 graph.bodies ++ end_faults graph) formed)

  of_body : faults_of_body graph (0 + number) body ≡ []
  of_body = of_each-empty (faults_of_body graph) 0 graph.bodies in_bodies number body found

  in_blocks : of_each (block_faults graph (0 + number) body) 0 body.blocks ≡ []
  in_blocks = second_empty (locals_faults graph (0 + number) body) (of_each (block_faults graph (0 + number) body) 0 body.blocks) (second_empty (own_faults graph (0 + number) body) (locals_faults graph (0 + number) body ++ of_each (block_faults graph (0 + number) body) 0 body.blocks) of_body)

  typed_lines : (n : ℕ) (block : Block) → slice_get body.blocks n ≡ Some block → (list_all (stmt_is_typed graph.items body.locals) block.stmts ≡ true) × (term_is_typed graph.items body.locals block.term ≡ true)
  typed_lines n block at = (all_pass (stmt_is_typed graph.items body.locals) block.stmts stmts, term)
    where
      of_block : block_faults graph (0 + number) body (0 + n) block ≡ []
      of_block = of_each-empty (block_faults graph (0 + number) body) 0 body.blocks in_blocks n block at

      stmts : (line : ℕ) (stmt : Stmt) → slice_get block.stmts line ≡ Some stmt → stmt_is_typed graph.items body.locals stmt ≡ true
      stmts line stmt e =
          let all = first_empty (stmts_faults graph (0 + number) body (0 + n) block) (at_line (0 + number) (0 + n) (length block.stmts) (term_faults graph.items (length graph.bodies) body block)) of_block in
          let own = of_each-empty (λ line stmt. at_line (0 + number) (0 + n) line (stmt_faults graph.items (length graph.bodies) body stmt)) 0 block.stmts all line stmt e in
          let none = map_empty (λ (k : ℕ). record { number = k; body = 0 + number; block = 0 + n; line = 0 + line }) (stmt_faults graph.items (length graph.bodies) body stmt) own in
          broken-holds (stmt_tests graph.items (length graph.bodies) body stmt) none 2 (3, stmt_is_typed graph.items body.locals stmt) refl

      term : term_is_typed graph.items body.locals block.term ≡ true
      term =
          let in_line = second_empty (stmts_faults graph (0 + number) body (0 + n) block) (at_line (0 + number) (0 + n) (length block.stmts) (term_faults graph.items (length graph.bodies) body block)) of_block in
          let none = map_empty (λ (k : ℕ). record { number = k; body = 0 + number; block = 0 + n; line = length block.stmts }) (term_faults graph.items (length graph.bodies) body block) in_line in
          broken-holds (term_tests graph.items (length graph.bodies) body block) none 2 (3, term_is_typed graph.items body.locals block.term) refl

-- ---- bodies
module _ (program : ProgramTree) (named : AllNameTheirLoops program) (rises : AllNumbersRise program) (formed : IsWellFormed (graph_of program)) (n : ℕ) (tree : BodyTree) (there : slice_get program.bodies n ≡ Some tree) where
  abbrev items : ItemTable
  items = program.items

  abbrev body : Body
  body = body_of items tree

  found : slice_get (graph_of program).bodies n ≡ Some body
  found = slice_get-map (body_of items) program.bodies n ∙ ap (option_map (body_of items)) there

  runs : (path : List ℕ) (given : List Bool) (bad : BadUse) → Reaches items body path given bad → RunsReach items body path given bad
  runs =
      ends.runs_reach items body (frame items tree) (IsNoParam items tree) refl refl (λ key h. h)
      (lowered_stops items tree (IsNoParam items tree) (no_param_in items tree (rises n tree there)))
      (typed_lines (graph_of program) formed n body found)
      (kept-elsewhere body (lowered_keeps_to_cleanup items tree (named n tree there))) 1 Kind.Plain (lowered_returns items tree (named n tree there))

  reaches : (path : List ℕ) (given : List Bool) (bad : BadUse) → RunsReach items body path given bad → Reaches items body path given bad
  reaches path given bad (in_block r before) = inl r
  reaches path given bad (on_way r before) = inr r

  refused : (path : List ℕ) (given : List Bool) (bad : BadUse) → Reaches items body path given bad → (reached_by items tree given ≡ Some (site_of (node_of items tree) bad.action)) × (ruled_by items tree given ≡ Some bad.rule)
  refused path given bad r = (lowered-paths-meet items tree (named n tree there)).refused path given bad (runs path given bad r)

  -- ---- the lists of choices that paths give
  abbrev node : ℕ → ℕ → ℕ
  node = node_of items tree

  leads_elsewhere : PanicsLeadElsewhere body
  leads_elsewhere = kept-elsewhere body (lowered_keeps_to_cleanup items tree (named n tree there))

  is_ranked : IsRanked body
  is_ranked = lowered_is_ranked items tree (named n tree there)

  -- a body begins with no turn
  begins : entry_choices items body 0 ≡ []
  begins =
      let first = lowered_begins_plain items tree (named n tree there) in
      ap (λ (o : Option Block). zero_if (option_map_or is_turn o false)) first.1 ∙ ap (λ (kind : Kind). zero_if (is_turn_kind kind)) first.2
    where
      zero_if : Bool → List Bool
      zero_if true = false ∷ []
      zero_if false = []

  calm : (list : List Bool) → GivesBeforeBad items body list → GivesCalmly items body list
  calm =
      calmly items body (frame items tree) (IsNoParam items tree) refl refl (λ key h. h)
      (lowered_stops items tree (IsNoParam items tree) (no_param_in items tree (rises n tree there)))
      (typed_lines (graph_of program) formed n body found) leads_elsewhere 1 Kind.Plain (lowered_returns items tree (named n tree there)) refl

  -- the walk of the graph and the free run of the source leave the same choices
  same_left : (out : Out AbstractState) → choices_left (renamed without_place out) ≡ choices_left out
  same_left (Go w) = refl
  same_left (Unwind w) = refl
  same_left (Halts Aborted w) = refl
  same_left (Halts other w) = refl

  both_leave : (list : List Bool) → choices_left (free_walk items node body list) ≡ choices_left (free_run items tree list)
  both_leave list =
      sym (same_left (free_walk items node body list)) ∙ ap choices_left (lowered_walks_as_it_runs_freely items tree (named n tree there) list).0
      ∙ same_left (free_run items tree list)

  walk_takes : (list : List Bool) → GivesCalmly items body list → choices_left (free_walk items node body list) ≡ Some []
  walk_takes list (calm_to front last earlier is acts clean lasts) =
      taken-to items body is_ranked leads_elsewhere node list front last earlier is acts clean lasts
  walk_takes list (calm_by front last before block way earlier is acts clean lasts clean_in lasts_in at has whole) =
      taken-by items body is_ranked leads_elsewhere node list front last before block way earlier is acts clean lasts clean_in lasts_in at has whole

  meets_exactly : MeetsExactly items tree body
  meets_exactly = record {
    refused = refused;
    reached = λ given site is.
        let it = (lowered-paths-meet items tree (named n tree there)).reached given site is in
        (it.0, it.1, reaches it.0 given it.1 it.2, it.3, it.4);
    exact = (
      (lowered-paths-meet items tree (named n tree there)).accepted,
      λ none. ends.meets_none items body (λ path given bad r. none-some (site_of (node_of items tree) bad.action) (sym (none given) ∙ (refused path given bad r).0)),
    );
    lists = λ list. (
      λ gives. sym (both_leave list) ∙ walk_takes list (calm list gives),
      λ taken. given-where-taken items body leads_elsewhere node list begins (both_leave list ∙ taken),
    );
  }

pub lowered-paths-meet-exactly : LoweredPathsMeetExactly
lowered-paths-meet-exactly program named rises formed n tree there = meets_exactly program named rises formed n tree there
