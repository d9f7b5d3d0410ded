-- The statements of a raw block, and those of the elaborated one with their stores into flags: from alike to alike, and
-- each flag is true exactly where its path's own part is present.
use Rattle.std.proofs.Common.{◌≡◌, inl, inr, ℕ, zero, suc, ◌<◌, ◌≤◌, List, [], ◌∷◌, ◌++◌, length, Option, Some, None, slice_get, refl, ap, sym, ◌∙◌, subst, append_assoc, arith}
use Rattle.mir_ty.specs.declared.ty.Ty.{Ty}
use Rattle.mir_ty.specs.declared.ty.TyId.{TyId}
use Rattle.mir_ty.specs.ItemTable.{ItemTable, type_at}
use Rattle.cfg_graph.specs.declared.graph.Body.{Body}
use Rattle.cfg_graph.specs.declared.statement.Stmt.{Stmt}
use Rattle.cfg_graph.specs.Moves.Actions.{at_line, stmt_actions}
use Rattle.cfg_graph.specs.Moves.Gone.{PathAction}
use Rattle.cfg_graph.specs.Uses.{stmt_uses}
use Rattle.cfg_meaning.specs.Actions.{action_of}
use Rattle.cfg_meaning.specs.Walk.{◌>>=◌, renamed, naming, stmts_do}
use Rattle.store_model.specs.Concrete.Effects.{act, concrete_effects}
use Rattle.store_model.specs.Concrete.Location.{Setting}
use Rattle.store_model.specs.Concrete.State.{State, Bodies}
use Rattle.mir_base.specs.declared.trace.Event.{Event}
use Rattle.store_model.specs.Effects.{Action, Halt, Aborted, OutOfTicks, Stuck, StuckAt, BadUse, BadStore, NoChoice, Infeasible, Unreachable, Out, Go, Unwind, Halts, Effects}
use Rattle.store_model.specs.Places.Place.{Place}
use Rattle.store_model.specs.Values.Datum.{Datum}
use Rattle.drop_values.specs.Like.{body_at, Flags, Like, Same, SameBodies, IsStuck, raw_setting, strict_setting, Extends}
use Rattle.drop_values.proofs.Actions.{ActionOk, MayCall, StoreTyped, Stays, act-Same}
use Rattle.drop_values.proofs.Counting.{after}
use Rattle.drop_elaborate.proofs.Walks.{unplaced}
use Rattle.drop_elaborate.specs.Elaborated.{flag_at, flags_of_uses, with_flags}
use Rattle.drop_elaborate.proofs.FlagStores.{Tell as TellOf, uses-set}

abbrev pub up_to : (block line : ℕ) → List PathAction → List Stmt → ℕ → List PathAction
up_to block line acts stmts zero = acts
up_to block line acts [] (suc n) = acts
up_to block line acts (stmt ∷ stmts) (suc n) =
    up_to block (suc line) (acts ++ at_line block line (stmt_uses stmt)) stmts n

module _ (items : ItemTable) (local_ty local_ty' : (body local : ℕ) → Option TyId)
    (extends : Extends local_ty local_ty') (number depth : ℕ) (outer : Flags) (body : Body) (flagged : List Place)
    (flag_ty : TyId) (flag_is : type_at items flag_ty ≡ Some Ty.Bool)
    (added : (n : ℕ) → n < length flagged → (local_ty number (flag_at items body flagged n) ≡ None)
    × (local_ty' number (flag_at items body flagged n) ≡ Some flag_ty))
    (run' : Bodies) (bound : ℕ) where
  abbrev strict : Setting
  strict = strict_setting items local_ty'

  abbrev q : Effects State
  q = naming unplaced (concrete_effects strict run' bound)

  abbrev node : ℕ → ℕ
  node line = 0

  abbrev Tell : Flags → List PathAction → Type 0
  Tell = TellOf items local_ty local_ty' extends number depth outer body flagged flag_ty flag_is added run' bound

  abbrev raw : Setting
  raw = raw_setting items local_ty

  -- `Known` is what is known of the raw run after some actions of its path, whatever it is
  module _ (run : Bodies) (most : ℕ) (good : ℕ → List Datum → State → Type 0)
      (tie : SameBodies local_ty good most run run')
      (stays : (flags : Flags) (event : Event) (callee : ℕ) (args : List Datum) (w : State) → good callee args w →
      Stays items local_ty local_ty' extends flags depth number w (run event callee args w))
      (Known : List PathAction → State → Type 0) where
    abbrev p : Effects State
    p = naming unplaced (concrete_effects raw run bound)

    -- the raw run and the other one, after some actions of the path that the raw run has taken
    pub record At (acts : List PathAction) (w w' : State) : Type 0 where
      pub flags : Flags
      pub like : Like local_ty flags w w'
      pub tell : Tell flags acts
      pub deep : length w.activations ≡ suc depth
      pub number_is : body_at depth w ≡ Some number
      pub few : w.ticks ≤ most
      pub known : Known acts w

    -- what is owed of an action of the raw run after some others: it may be done, and what is known is kept
    pub record ActionOwed (acts uses : List PathAction) (action : Action) : Type 0 where
      pub ok : (flags : Flags) → ActionOk items local_ty local_ty' extends flags depth number most run run' good tie
          (stays flags) action
      pub may : (flags : Flags) (w : State) → Known acts w →
          MayCall items local_ty local_ty' extends flags depth number most run run' good tie (stays flags) action w
      pub typed : (flags : Flags) → StoreTyped items local_ty local_ty' extends flags depth number
          most run run' good tie (stays flags) action
      pub keeps : (w v : State) → Known acts w → act raw run action w ≡ Go v →
          Known (acts ++ uses) v
      pub frame : (w v : State) → Known acts w → length w.activations ≡ suc depth →
          body_at depth w ≡ Some number → act raw run action w ≡ Go v → (length v.activations ≡ suc depth)
          × (body_at depth v ≡ Some number) × (v.ticks ≤ w.ticks)

    pub acts-Same : (uses acts : List PathAction) (action : Action) (w w' : State) → ActionOwed acts uses action →
        (at : At acts w w') → Same local_ty (Like local_ty at.flags) (act raw run action w) (act strict run' action w')
    acts-Same uses acts action w w' owed at =
        act-Same items local_ty local_ty' extends at.flags depth number most run run' good tie
        (stays at.flags) action w w' (record {
          like = at.like;
          deep = at.deep;
          number_is = at.number_is;
          few =
              at.few;
        }) (owed.ok at.flags) (owed.may at.flags w at.known) (owed.typed at.flags)

    module _ (P : Out State → Out State → Type 0) (stuck : (halt : Halt) (w : State) (o : Out State) →
        IsStuck halt → P (Halts halt w) o) (halts : (halt : Halt) (w w' : State) → w'.trace ≡ w.trace →
        P (Halts halt w) (Halts halt w')) where
      stuck-unplaced : (halt : Halt) → IsStuck halt → IsStuck (unplaced halt)
      stuck-unplaced Stuck h = tt
      stuck-unplaced (StuckAt b n) h = tt
      stuck-unplaced other h = h

      pub stmts-Same : (block line : ℕ) (stmts : List Stmt) (acts : List PathAction) (line' : ℕ)
          (more : List Stmt) (rest rest' : State → Out State) (w w' : State) →
          ((n : ℕ) (stmt : Stmt) → slice_get stmts n ≡ Some stmt →
          ActionOwed (up_to block line acts stmts n) (at_line block (after line n) (stmt_uses stmt))
          (action_of 0 stmt)) → At acts w w' →
          ((line' : ℕ) (v v' : State) → At (acts ++ stmt_actions block line stmts) v v' →
          P (rest v) (stmts_do q node line' more rest' v')) →
          P (stmts_do p node line stmts rest w) (stmts_do q node line' (with_flags items body flagged stmts ++ more)
          rest' w')
      stmts-Same block line [] acts line' more rest rest' w w' owed at next =
          next line' w w' (subst (λ a. At a w w') (sym (nil acts)) at)
        where
          nil : (xs : List PathAction) → xs ++ [] ≡ xs
          nil [] = refl
          nil (x ∷ xs) = ap (λ r. x ∷ r) (nil xs)
      stmts-Same block line (stmt ∷ stmts) acts line' more rest rest' w w' owed at next =
          by (act raw run (action_of 0 stmt) w) refl (acts-Same (at_line block line (stmt_uses stmt)) acts
          (action_of 0 stmt) w w' (owed 0 stmt refl) at)
          (λ line1 v v'. stmts-Same block (suc line) stmts (acts ++ at_line block line (stmt_uses stmt)) line1 more rest
          rest' v v' (λ n s e. owed (suc n) s e))
        where
          uses : List PathAction
          uses = at_line block line (stmt_uses stmt)

          Again : Type 0
          Again = (line1 : ℕ) (v v' : State) → At (acts ++ uses) v v' →
              ((line2 : ℕ) (u u' : State) → At ((acts ++ uses) ++ stmt_actions block (suc line) stmts) u u' →
              P (rest u) (stmts_do q node line2 more rest' u')) →
              P (stmts_do p node (suc line) stmts rest v)
              (stmts_do q node line1 (with_flags items body flagged stmts ++ more) rest' v')

          sets_here : List Stmt
          sets_here = flags_of_uses items body flagged (stmt_uses stmt)

          onward : Out State → Out State
          onward o = ◌>>=◌ (renamed unplaced o) (λ v. stmts_do q node (suc line')
              ((sets_here ++ with_flags items body flagged stmts) ++ more) rest' v)

          by : (o : Out State) → act raw run (action_of 0 stmt) w ≡ o → Same local_ty (Like local_ty at.flags) o
              (act strict run' (action_of 0 stmt) w') → Again →
              P (◌>>=◌ (renamed unplaced o) (λ v. stmts_do p node (suc line) stmts rest v))
              (onward (act strict run' (action_of 0 stmt) w'))
          by (Go v) e s again =
              let fr = (owed 0 stmt refl).frame w v at.known at.deep at.number_is e in
              let a = uses-set items local_ty local_ty' extends number depth outer body flagged flag_ty flag_is added
              run' bound block line (stmt_uses stmt) acts (suc line') (with_flags items body flagged stmts
              ++ more) rest' at.flags v s.0 s.2 fr.0 fr.1 at.tell in
              subst (P (stmts_do p node (suc line) stmts rest v))
              (sym (ap onward s.1 ∙ ap (λ l. stmts_do q node (suc line') l rest' s.0)
              (append_assoc sets_here (with_flags items body flagged stmts) more) ∙ a.does))
              (again a.line' v a.v' (record {
                flags = a.new;
                like = a.like;
                tell = a.tell;
                deep = fr.0;
                number_is = fr.1;
                few = let l = fr.2 in let k = at.few in omega arith;
                known = (owed 0 stmt refl).keeps w v at.known e;
              }) (λ line2 u u' z. next line2 u u' (subst (λ l. At l u u')
              (append_assoc acts uses (stmt_actions block (suc line) stmts)) z)))
          by (Unwind v) e s again = stuck Stuck v _ tt
          by (Halts halt v) e (inl st) again = stuck (unplaced halt) v _ (stuck-unplaced halt st)
          by (Halts halt v) e (inr s) again = subst (P (Halts (unplaced halt) v)) (sym (ap onward s.1))
              (halts (unplaced halt) v s.0 s.2)
