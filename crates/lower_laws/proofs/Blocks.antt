-- A block in a free walk does the actions of the block on a path.
use Rattle.std.proofs.Common.{◌≡◌, ℕ, List, [], ◌++◌, length, Option, Some, slice_get, sym, ap, subst}
use Rattle.std.specs.Option.{option_map_or}
use Rattle.mir_ty.specs.ItemTable.{ItemTable}
use Rattle.store_model.specs.Effects.{Out, Effects}
use Rattle.store_model.specs.Abstract.Effects.{AbstractState, abstract_effects}
use Rattle.cfg_graph.specs.declared.graph.Block.{Block}
use Rattle.cfg_graph.specs.declared.graph.Body.{Body}
use Rattle.cfg_graph.specs.Uses.{term_uses}
use Rattle.cfg_graph.specs.Moves.Gone.{PathAction}
use Rattle.cfg_meaning.specs.Walk.{Next, term_does, does_block}
use Rattle.init_flow.proofs.Along.{actions_in, actions_between}
use Rattle.lower_laws.specs.Meets.{PanicsLeadElsewhere}
use Rattle.lower_laws.proofs.Leaving.{Leaves, result_of, term-performs}
use Rattle.lower_laws.proofs.Lines.{at_line, stmt_actions, stmts-are, all_effects}
use Rattle.lower_laws.proofs.Performing.{Tells, Performed, performed, performed-more}

module _ (items : ItemTable) (body : Body) (elsewhere : PanicsLeadElsewhere body) (node : ℕ → ℕ → ℕ) where
  abbrev pub eff : Effects AbstractState
  eff = abstract_effects items (slice_get body.locals)

  -- a walk leaves a block
  abbrev pub LeavesBlock : ℕ → Block → Next AbstractState → AbstractState → Out AbstractState → Type 0
  LeavesBlock n block next = Leaves items body node n (length block.stmts) next block.term

  pub block-performs : (n : ℕ) (block : Block) → slice_get body.blocks n ≡ Some block → (next : Next AbstractState) (done : List PathAction) (w : AbstractState) → Tells items body w done
      → Performed items body node done (actions_in body n) (LeavesBlock n block next) w (does_block eff 0 node body n block next w)
  block-performs n block there next done w tells =
      subst (λ (z : List PathAction). Performed items body node done z (LeavesBlock n block next) w (does_block eff 0 node body n block next w)) (sym acts)
      (performed-more items body node stmts last done (LeavesBlock n block next) w (does_block eff 0 node body n block next w)
      (subst (Performed items body node done stmts After w) (sym (stmts-are items body node n block.stmts 0 rest w))
      (performed items body node After rest
      (λ v told. term-performs items body node n (length block.stmts) next block.term (λ m on_way panic. elsewhere n m block there on_way panic) (done ++ stmts) v told)
      stmts done w tells)))
    where
      stmts : List PathAction
      stmts = stmt_actions n 0 block.stmts

      last : List PathAction
      last = at_line n (length block.stmts) (term_uses block.term)

      rest : AbstractState → Out AbstractState
      rest = term_does (all_effects items body node n) (node n (length block.stmts)) block.term next

      After : AbstractState → Out AbstractState → Type 0
      After v o = Tells items body v (done ++ stmts) → Performed items body node (done ++ stmts) last (LeavesBlock n block next) v o

      acts : actions_in body n ≡ stmts ++ last
      acts = ap (λ (z : Option Block). option_map_or (λ block. stmt_actions n 0 block.stmts ++ at_line n (length block.stmts) (term_uses block.term)) z []) there

  pub result-is : (n m : ℕ) (block : Block) → slice_get body.blocks n ≡ Some block → (next : Next AbstractState)
      → result_of items body node n (length block.stmts) next block.term m ≡ actions_between body n m
  result-is n m block there next =
      sym (ap (λ (z : Option Block). option_map_or (λ block. result_of items body node n (length block.stmts) next block.term m) z []) there)
