-- Each bad use that a path of a lowered body reaches has a site.
use Rattle.std.proofs.Common.{◌≡◌, ◌≢◌, ◌∙◌, ◌≤◌, ◌⊎◌, inl, inr, ℕ, zero, suc, Bool, true, false, if◌then◌else◌, List, [], ◌∷◌, ◌++◌, map, length, Option, Some, slice_get, refl, sym, ap, subst, arith}
use Rattle.std.specs.Prelude.{All}
use Rattle.std.proofs.lemmas.Bool.{false≢true}
use Rattle.std.proofs.lemmas.Option.{none-some, same_Some, slice_get_within}
use Rattle.move_errors.specs.Reaches.{Reaches, is_bad, first_bad, rule_of}
use Rattle.lower_rules.specs.Laws.{NamesItsLoops, IsRefilledIn}
use Rattle.lower_rules.specs.Lower.{body_of, node_of}
use Rattle.lower_rules.specs.Listed.{program_sites}
use Rattle.lower_rules.specs.Sites.{UseSite, position_of, site_at, term_site}
use Rattle.lower_rules.proofs.Bodies.{lowered_refills_parts}
use Rattle.lower_rules.proofs.FormSites.{lowered_has_sites}
use Rattle.cfg_graph.specs.declared.graph.Block.{Block}
use Rattle.cfg_graph.specs.declared.graph.Body.{Body}
use Rattle.cfg_graph.specs.declared.place.Operand.{Operand}
use Rattle.cfg_graph.specs.declared.place.Place.{Place}
use Rattle.cfg_graph.specs.declared.statement.Stmt.{Stmt}
use Rattle.cfg_graph.specs.Moves.Actions.{actions_on}
use Rattle.cfg_graph.specs.Moves.BadUses.{BadUse, may_not_store}
use Rattle.cfg_graph.specs.Moves.Gone.{PathAction}
use Rattle.cfg_graph.specs.Places.{named_step}
use Rattle.cfg_graph.specs.Uses.{PlaceUse, Stores, Drops, place_used, places_of_stmt}
use Rattle.mir_ty.specs.ItemTable.{ItemTable}
use Rattle.store_model.specs.Places.Place.{Step}
use Rattle.typed_tree.specs.Nodes.{body_nodes, first_with}
use Rattle.typed_tree.specs.Tree.{Node, BodyTree, ProgramTree}
use Rattle.lower_laws.specs.Told.{LineOfBody, behind_drop, told_by, line_told, has_site, stands_at, IsTold, LoweredUsesHaveSites}
use Rattle.lower_laws.proofs.Done.{is_dropping, ByLine, by_a_stmt, by_the_term, by_a_drop, IsDone, AllDone, on_path}
use Rattle.lower_laws.proofs.Listed.{is_listed}
use Rattle.lower_laws.proofs.SitedLines.{all_at}

-- ---- a bad use is one of the actions on a path
module _ (items : ItemTable) (body : Body) where
  record IsBad (bad : BadUse) : Type 0 where
    pub earlier : List PathAction
    pub done : IsDone body bad.action
    pub is : is_bad items body earlier bad.action bad.action.how ≡ true

  first_is : (earlier actions : List PathAction) → AllDone body actions → (bad : BadUse) →
      first_bad items body earlier actions ≡ Some bad → IsBad bad
  first_is earlier [] h bad e = absurd (none-some bad e)
  first_is earlier (action ∷ later) h bad e =
      by_test (is_bad items body earlier action action.how) refl e (first_is (earlier ++ action ∷ []) later h.1 bad)
    where
      by_test : (b : Bool) → is_bad items body earlier action action.how ≡ b →
          (if b then Some (record { rule = rule_of action.how; action = action }) else first_bad items body (earlier ++ action ∷ []) later) ≡ Some bad →
          (first_bad items body (earlier ++ action ∷ []) later ≡ Some bad → IsBad bad) → IsBad bad
      by_test true is e k = subst IsBad (same_Some (record { rule = rule_of action.how; action = action }) bad e) (record { earlier = earlier; done = h.0; is = is })
      by_test false is e k = k e

  first_part : (xs ys : List PathAction) → AllDone body (xs ++ ys) → AllDone body xs
  first_part [] ys h = tt
  first_part (x ∷ xs) ys h = (h.0, first_part xs ys h.1)

  second_part : (xs ys : List PathAction) → AllDone body (xs ++ ys) → AllDone body ys
  second_part [] ys h = h
  second_part (x ∷ xs) ys h = second_part xs ys h.1

  is_reached : (path : List ℕ) (given : List Bool) (bad : BadUse) → Reaches items body path given bad → IsBad bad
  is_reached path given bad (inl at) = first_is at.earlier (actions_on body (at.last ∷ [])) (on_path body (at.last ∷ [])) bad at.first
  is_reached path given bad (inr at) =
      first_is (actions_on body path) at.stored
      (second_part (actions_on body (at.last ∷ [])) at.stored
      (first_part (actions_on body (at.last ∷ []) ++ at.stored) (actions_on body (at.next ∷ []))
      (subst (AllDone body) at.stores (on_path body (at.last ∷ at.next ∷ [])))))
      bad at.first

  -- a whole local has no container that could be gone
  local_stands : (earlier : List PathAction) (local : ℕ) (steps : List Step) → steps ≡ [] →
      may_not_store items body earlier (record { local = local; steps = steps }) ≡ false
  local_stands earlier local steps e = ap (λ steps. may_not_store items body earlier (record { local = local; steps = steps })) e

-- ---- the line by which it is told
own_line : (how : PlaceUse) → is_dropping how ≡ false → (block : Option Block) (own : LineOfBody) → told_by how block own ≡ own
own_line Drops h block own = absurd (false≢true (sym h))
own_line other h block own = refl

has_one : (operand : List (PlaceUse × Place)) (place : Place) → map place_used (operand ++ (Stores, place) ∷ []) ≢ []
has_one [] place e = cc
has_one (u ∷ us) place e = cc

puts_somewhere : (to : Place) (from : Operand) → places_of_stmt (Stmt.Put to from) ≢ []
puts_somewhere to (Operand.Copied place) e = cc
puts_somewhere to (Operand.Moved place) e = cc
puts_somewhere to (Operand.Number value kind) e = cc
puts_somewhere to (Operand.Truth value) e = cc
puts_somewhere to Operand.Unit e = cc

from_mapped : {A B : Type 0} (g : A → B) (xs : List A) (n : ℕ) (y : B) → slice_get (map g xs) n ≡ Some y → (x : A) × (slice_get xs n ≡ Some x) × (g x ≡ y)
from_mapped g [] n y e = absurd (none-some y e)
from_mapped g (x ∷ xs) zero y e = (x, refl, same_Some (g x) y e)
from_mapped g (x ∷ xs) (suc n) y e = from_mapped g xs n y e

-- a node with this number is the one that is found, whatever number it is looked for by
same_node : (list : List Node) (i k : ℕ) (owner : Node) → i ≡ k → first_with i list ≡ Some owner → first_with k list ≡ Some owner
same_node list i k owner e found = ap (λ m. first_with m list) (sym e) ∙ found

module _ (program : ProgramTree) (n : ℕ) (tree : BodyTree) (at_n : slice_get program.bodies n ≡ Some tree) (named_loops : NamesItsLoops tree) where
  abbrev items : ItemTable
  items = program.items

  abbrev body : Body
  body = body_of items tree

  -- an action is told by the line of a site, which is of the node of the action's own line
  told_at : (action : PathAction) (at : LineOfBody) (block : Block) (site : UseSite) (owner : Node) → slice_get body.blocks at.block ≡ Some block →
      at.line ≤ length block.stmts → site_at items tree at.block at.line ≡ Some site → site.at ≡ position_of owner →
      first_with (node_of items tree action.block action.line) (body_nodes tree) ≡ Some owner →
      at ≡ line_told body action → IsTold program n body action
  told_at action at block site owner there within has is_at found same = record {
    sited = subst (λ line. has_site program n line ≡ true) same (is_listed program n tree at_n at block there within site has);
    tree = tree;
    there = at_n;
    node = owner;
    found = found;
    at =
        subst (λ line. All (λ one. stands_at n line one ≡ true → one.at ≡ position_of owner) (program_sites program)) same
        (subst (λ pos. All (λ one. stands_at n at one ≡ true → one.at ≡ pos) (program_sites program)) is_at
        (all_at program n tree at_n at site has));
  }

  by_line : (earlier : List PathAction) (action : PathAction) (block : Block) → slice_get body.blocks action.block ≡ Some block →
      ByLine body block action → is_bad items body earlier action action.how ≡ true → IsTold program n body action
  by_line earlier action block there (by_a_stmt stmt at uses no_drop) bad =
      let site = (lowered_has_sites items tree action.block block there).0 action.line stmt at uses in
      let within = slice_get_within block.stmts action.line stmt at in
      told_at action (record { block = action.block; line = action.line }) block _ site.0 there (omega (arith, within)) site.2 refl site.1
      (sym (own_line action.how no_drop (slice_get body.blocks action.block) _))
  by_line earlier action block there (by_the_term at uses no_drop) bad =
      let site = (lowered_has_sites items tree action.block block there).1 uses in
      told_at action (record { block = action.block; line = action.line }) block _ site.0 there (omega (arith, at))
      (subst (λ line. site_at items tree action.block line ≡ Some (term_site items tree block.term site.0)) (sym at) site.2) refl
      (same_node (body_nodes tree) _ _ site.0 (ap (node_of items tree action.block) (sym at)) site.1)
      (sym (own_line action.how no_drop (slice_get body.blocks action.block) _))
  by_line earlier action block there (by_a_drop place next unwind line is at how) bad =
      behind (lowered_refills_parts items tree named_loops action.block next block place unwind there is)
    where
      told : line_told body action ≡ record { block = next; line = 0 }
      told =
          ap (λ h. told_by h (slice_get body.blocks action.block) (record { block = action.block; line = action.line })) how
          ∙ ap (λ o. told_by Drops o (record { block = action.block; line = action.line })) there
          ∙ ap (λ t. behind_drop t (record { block = action.block; line = action.line })) is

      is_drop : may_not_store items body earlier action.place ≡ true
      is_drop = sym (ap (is_bad items body earlier action) how) ∙ bad

      behind : (place.steps ≡ []) ⊎ (IsRefilledIn body place next × (node_of items tree next 0 ≡ node_of items tree action.block (length block.stmts))) →
          IsTold program n body action
      behind (inl whole) =
          absurd (false≢true (sym (local_stands items body earlier place.local (map named_step place.steps) (ap (map named_step) whole))
          ∙ sym (ap (may_not_store items body earlier) at) ∙ is_drop))
      behind (inr ((after, from, rest, stands, puts), same)) =
          let first : slice_get after.stmts 0 ≡ Some (Stmt.Put place from) = ap (λ l. slice_get l 0) puts in
          let site = (lowered_has_sites items tree next after stands).0 0 (Stmt.Put place from) first (puts_somewhere place from) in
          let within = slice_get_within after.stmts 0 (Stmt.Put place from) first in
          told_at action (record { block = next; line = 0 }) after _ site.0 stands (omega (arith, within)) site.2 refl
          (same_node (body_nodes tree) _ _ site.0 (same ∙ ap (node_of items tree action.block) (sym line)) site.1) (sym told)

  of_body : (path : List ℕ) (given : List Bool) (bad : BadUse) → Reaches items body path given bad → IsTold program n body bad.action
  of_body path given bad reaches =
      let at = is_reached items body path given bad reaches in
      by_line at.earlier bad.action at.done.block at.done.there at.done.by_line at.is

pub lowered_uses_have_sites : LoweredUsesHaveSites
lowered_uses_have_sites program all_named n body there path given bad reaches =
    let from = from_mapped (body_of program.items) program.bodies n body there in
    subst (λ b. IsTold program n b bad.action) from.2
    (of_body program n from.0 from.1 (all_named n from.0 from.1) path given bad (subst (λ b. Reaches program.items b path given bad) (sym from.2) reaches))
