-- In a graph without a fault no panic leads where the way on leads: one leads to a cleanup block, the other to none.
use Rattle.std.proofs.Common.{◌≡◌, ℕ, ◌+◌, ◌<◌, nat_lt, Bool, true, false, not, ◌&&◌, List, ◌++◌, length, Option, Some, slice_get, slice_index_or, Contains, refl, sym, ap, ◌∙◌}
use Rattle.std.specs.List.{list_all}
use Rattle.std.specs.Option.{option_map_or}
use Rattle.std.specs.Cmp.{first_so, second_so}
use Rattle.std.proofs.lemmas.Bool.{false≢true, ltb-true}
use Rattle.std.proofs.lemmas.Option.{slice_get-get_or}
use Rattle.std.proofs.lemmas.List.Elements.{All-contains, Contains-append_left}
use Rattle.std.proofs.lemmas.List.Sums.{AllPass-from_list_all}
use Rattle.cfg_graph.specs.declared.terminator.Term.{Term}
use Rattle.cfg_graph.specs.declared.terminator.Unwind.{Unwind}
use Rattle.cfg_graph.specs.declared.graph.Block.{Block}
use Rattle.cfg_graph.specs.declared.graph.Body.{Body}
use Rattle.cfg_graph.specs.Edges.{onward, unwind_targets, targets, is_cleanup}
use Rattle.cfg_graph.specs.WellFormed.Cleanup.{cleans_up, are_cleanup, are_no_cleanup, is_resume, keeps_cleanup, keeps_to_cleanup}
use Rattle.cfg_graph.specs.WellFormed.Faults.{at_line, of_each, item_faults, own_faults, locals_faults, stmts_faults, block_faults, faults_of_body, end_faults}
use Rattle.cfg_graph.specs.WellFormed.LineFaults.{term_numbers_exist, blocks_exist, term_tests, term_faults}
use Rattle.cfg_graph.proofs.NoFaults.{first_empty, second_empty, map_empty, of_each-empty, broken-holds}
use Rattle.move_errors.proofs.Sorted.{none-in}
use Rattle.lower_laws.specs.Meets.{PanicsLeadElsewhere, WellFormedPanicsLeadElsewhere}

-- the terminators of cleanup blocks lead to no block by a panic
no-panic : (term : Term) (m : ℕ) → cleans_up term ≡ true → Contains (unwind_targets term) m → ⊥
no-panic (Term.Goto block) m h has = none-in m has
no-panic (Term.If on if_true if_false) m h has = none-in m has
no-panic (Term.Case on variant if_true if_false) m h has = none-in m has
no-panic (Term.DropAt place next Unwind.Abort) m h has = none-in m has
no-panic Term.Return m h has = none-in m has
no-panic Term.Resume m h has = none-in m has
no-panic other m h has = false≢true h

not-both : (a : Bool) → not a ≡ true → a ≡ true → ⊥
not-both true h k = false≢true h
not-both false h k = false≢true k

module _ (body : Body) where
  there-so : (test : Block → Bool) (list : List ℕ) (m : ℕ) (block : Block) → list_all (λ n. option_map_or test (slice_get body.blocks n) true) list ≡ true
      → Contains list m → slice_get body.blocks m ≡ Some block → test block ≡ true
  there-so test list m block all has there =
      sym (ap (λ (o : Option Block). option_map_or test o true) there)
      ∙ All-contains (λ n. option_map_or test (slice_get body.blocks n) true ≡ true) list m
      (AllPass-from_list_all (λ n. option_map_or test (slice_get body.blocks n) true) list all) has

  apart : (term : Term) (cleanup : Bool) (m : ℕ) (to : Block) → keeps_cleanup cleanup body term ≡ true → slice_get body.blocks m ≡ Some to
      → Contains (onward term) m → Contains (unwind_targets term) m → ⊥
  apart term true m to h there on panic = no-panic term m (first_so (cleans_up term) (are_cleanup body (targets term)) h) panic
  apart term false m to h there on panic =
      let front = first_so (not (is_resume term) && are_no_cleanup body (onward term)) (are_cleanup body (unwind_targets term)) h in
      not-both (is_cleanup to)
      (there-so (λ block. not (is_cleanup block)) (onward term) m to (second_so (not (is_resume term)) (are_no_cleanup body (onward term)) front) on there)
      (there-so is_cleanup (unwind_targets term) m to (second_so (not (is_resume term) && are_no_cleanup body (onward term)) (are_cleanup body (unwind_targets term)) h) panic there)

-- where cleanup blocks keep to themselves, and each edge leads to a block
pub kept-elsewhere : (body : Body)
    → ((n : ℕ) (block : Block) → slice_get body.blocks n ≡ Some block
    → (keeps_to_cleanup body block ≡ true) × ((m : ℕ) → Contains (targets block.term) m → m < length body.blocks))
    → PanicsLeadElsewhere body
kept-elsewhere body kept n m block at on panic =
    let there = slice_get-get_or body.blocks m block ((kept n block at).1 m (Contains-append_left (onward block.term) (unwind_targets block.term) m on)) in
    apart body block.term (is_cleanup block) m (slice_index_or body.blocks m block) (kept n block at).0 there on panic

pub well-formed-elsewhere : WellFormedPanicsLeadElsewhere
well-formed-elsewhere graph number body h found = kept-elsewhere body (λ n block at.
    let in_bodies = first_empty (of_each (faults_of_body graph) 0 graph.bodies) (end_faults graph) (second_empty (item_faults graph) (of_each (faults_of_body graph) 0 graph.bodies ++ end_faults graph) h) in
    let of_body = of_each-empty (faults_of_body graph) 0 graph.bodies in_bodies number body found in
    let in_blocks = second_empty (locals_faults graph (0 + number) body) (of_each (block_faults graph (0 + number) body) 0 body.blocks) (second_empty (own_faults graph (0 + number) body) (locals_faults graph (0 + number) body ++ of_each (block_faults graph (0 + number) body) 0 body.blocks) of_body) in
    let of_block = of_each-empty (block_faults graph (0 + number) body) 0 body.blocks in_blocks n block at in
    let in_line = second_empty (stmts_faults graph (0 + number) body (0 + n) block) (at_line (0 + number) (0 + n) (length block.stmts) (term_faults graph.items (length graph.bodies) body block)) of_block in
    let none = map_empty (λ (k : ℕ). record { number = k; body = 0 + number; block = 0 + n; line = length block.stmts }) (term_faults graph.items (length graph.bodies) body block) in_line in
    let exist = broken-holds (term_tests graph.items (length graph.bodies) body block) none 0 (1, term_numbers_exist graph.items (length graph.bodies) block.term && blocks_exist graph.items (length graph.bodies) body (targets block.term)) refl in
    let keeps = broken-holds (term_tests graph.items (length graph.bodies) body block) none 4 (5, keeps_to_cleanup body block) refl in
    let all_there = second_so (term_numbers_exist graph.items (length graph.bodies) block.term) (blocks_exist graph.items (length graph.bodies) body (targets block.term)) exist in (
      keeps,
      λ m has. ltb-true m (length body.blocks)
          (All-contains (λ k. nat_lt k (length body.blocks) ≡ true) (targets block.term) m (AllPass-from_list_all (λ k. nat_lt k (length body.blocks)) (targets block.term) all_there) has),
    ))
