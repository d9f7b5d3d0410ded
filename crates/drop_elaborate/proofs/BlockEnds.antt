-- A block from its first statement up to the beginnings of the next ones: what the raw block does, the elaborated one
-- does. What a drop does is a premise here.
use Rattle.std.proofs.Common.{◌≡◌, ◌⊎◌, inl, inr, append_assoc, ℕ, suc, ◌≤◌, ◌<◌, ◌==◌, Bool, true, false, List, [], ◌∷◌, ◌++◌, map, length, Option, Some, None, slice_get, Contains, refl, ap, sym, ◌∙◌, subst}
use Rattle.mir_base.specs.declared.trace.Event.{Event}
use Rattle.mir_ty.specs.declared.ty.Ty.{Ty}
use Rattle.mir_ty.specs.declared.ty.TyId.{TyId}
use Rattle.mir_ty.specs.ItemTable.{ItemTable, type_at}
use Rattle.cfg_graph.specs.declared.graph.Block.{Block}
use Rattle.cfg_graph.specs.declared.graph.Body.{Body}
use Rattle.cfg_graph.specs.declared.graph.Kind.{Kind}
use Rattle.cfg_graph.specs.declared.place.Place as graph
use Rattle.cfg_graph.specs.declared.statement.Stmt.{Stmt}
use Rattle.cfg_graph.specs.declared.terminator.Term.{Term}
use Rattle.cfg_graph.specs.declared.terminator.Unwind.{Unwind}
use Rattle.cfg_graph.specs.Edges.{is_turn, is_turn_kind, onward, unwind_of}
use Rattle.cfg_graph.specs.Moves.Actions.{at_line}
use Rattle.cfg_graph.specs.Moves.Gone.{PathAction}
use Rattle.cfg_graph.specs.Uses.{Stores, stored_by_term, term_uses}
use Rattle.cfg_meaning.specs.Walk.{Next, ◌>>=◌, renamed, naming, unwinding, stmts_do, acts, term_does, block_does}
use Rattle.store_model.specs.Concrete.Effects.{act, concrete_effects}
use Rattle.store_model.specs.Concrete.Location.{Setting}
use Rattle.store_model.specs.Concrete.State.{State, Bodies, spend}
use Rattle.store_model.proofs.Concrete.Effects.{ticks_of}
use Rattle.store_model.specs.Effects.{Halt, Out, Go, Unwind as Unwinds, Halts, Stuck, Effects}
use Rattle.store_model.specs.Places.Place.{Place, whole_local}
use Rattle.store_model.specs.Values.Datum.{Datum}
use Rattle.drop_values.specs.Like.{body_at, Flags, Like, Same, SameBodies, IsStuck, raw_setting, strict_setting, Extends}
use Rattle.drop_values.proofs.Actions.{Stays}
use Rattle.drop_elaborate.proofs.Walks.{unplaced, stuck-unplaced, Walks}
use Rattle.drop_elaborate.proofs.Statements.{up_to, At}
use Rattle.drop_elaborate.proofs.FlagStores.{After}
use Rattle.drop_elaborate.specs.Elaborated.{flag_at, flags_of_uses, EdgeTo, next_of, onward_to, result_flags}
use Rattle.cfg_meaning.specs.Actions.{action_of}
use Rattle.cfg_graph.specs.Moves.Actions.{stmt_actions}
use Rattle.cfg_graph.specs.Uses.{stmt_uses}
use Rattle.drop_values.proofs.Counting.{after}
use Rattle.drop_elaborate.proofs.Statements.{ActionOwed, stmts-Same}
use Rattle.drop_elaborate.proofs.FlagStores.{Tell, begin-sets, uses-set}
use Rattle.drop_elaborate.proofs.Terminators.{TermOwed, MayGo, result-Ends}
use Rattle.drop_elaborate.specs.Elaborated.{first_flags, is_drop, kind_after, at_start, with_flags, Ends, result, dead, plain, ladder, BlockDone}

module _ (items : ItemTable) (local_ty local_ty' : (body local : ℕ) → Option TyId)
    (extends : Extends local_ty local_ty') (number depth : ℕ) (outer : Flags) (body : Body) (flagged : List Place)
    (flag_ty : TyId) (flag_is : type_at items flag_ty ≡ Some Ty.Bool)
    (added : (n : ℕ) → n < length flagged → (local_ty number (flag_at items body flagged n) ≡ None)
    × (local_ty' number (flag_at items body flagged n) ≡ Some flag_ty))
    (run run' : Bodies) (bound most : ℕ) (good : ℕ → List Datum → State → Type 0)
    (tie : SameBodies local_ty good most run run')
    (stays : (flags : Flags) (event : Event) (callee : ℕ) (args : List Datum) (w : State) → good callee args w →
    Stays items local_ty local_ty' extends flags depth number w (run event callee args w))
    (Known : List PathAction → State → Type 0)
    (body' : Body) (WalkE : Next State) (walks : Walks
    (naming unplaced (concrete_effects (strict_setting items local_ty') run' bound)) ticks_of most body'
    (λ block line. 0) WalkE) where
  abbrev raw : Setting
  raw = raw_setting items local_ty

  abbrev strict : Setting
  strict = strict_setting items local_ty'

  abbrev q : Effects State
  q = naming unplaced (concrete_effects strict run' bound)

  abbrev p : Effects State
  p = naming unplaced (concrete_effects raw run bound)

  abbrev node : ℕ → ℕ
  node line = 0

  abbrev AtHere : List PathAction → State → State → Type 0
  AtHere acts w w' = At items local_ty local_ty' extends number depth outer body flagged flag_ty flag_is
      added run' bound run most good tie stays Known acts w w'

  nil : (xs : List Stmt) → xs ++ [] ≡ xs
  nil [] = refl
  nil (x ∷ xs) = ap (λ r. x ∷ r) (nil xs)

  no-drop : (term : Term) → is_drop term ≡ false →
      (place : graph.Place) (next : ℕ) (unwind : Unwind) → term ≡ Term.DropAt place next unwind → ⊥
  no-drop term h place next unwind e = let x : true ≡ false = sym (ap is_drop e)
      ∙ h in absurd (let never : ⊥ = cc in never)

  no-turn : (kind : Kind) → is_turn_kind (kind_after items body flagged body' kind) ≡ false
  no-turn Kind.Plain = refl
  no-turn Kind.Turn = refl
  no-turn Kind.Cleanup = refl

  module _ (P : Out State → Out State → Type 0) (stuck : (halt : Halt) (w : State) (o : Out State) →
      IsStuck halt → P (Halts halt w) o) (halts : (halt : Halt) (w w' : State) → w'.trace ≡ w.trace →
      P (Halts halt w) (Halts halt w')) where
    abbrev MayGoHere : Term → State → Type 0
    MayGoHere term w =
        MayGo items local_ty local_ty' extends number depth outer body flagged flag_ty flag_is added run run' bound
        most good tie
        stays Known body' WalkE walks P stuck halts term w

    -- what is owed of a block, after some actions of a path that comes to it
    pub record BlockOwed (n : ℕ) (block : Block) (before : List PathAction) (nextR : Next State) : Type 0 where
      pub stmts : (k : ℕ) (stmt : Stmt) → slice_get block.stmts k ≡ Some stmt →
          ActionOwed items local_ty local_ty' extends number depth outer body flagged flag_ty flag_is
          added run' bound run most good tie stays Known (up_to n 0 before block.stmts k)
          (at_line n (after 0 k) (stmt_uses stmt)) (action_of 0 stmt)
      pub term : (v v' : State) → AtHere (before ++ stmt_actions n 0 block.stmts) v v' → TermOwed items local_ty
          local_ty' extends number depth outer body flagged
          flag_ty flag_is added run run' bound most good tie stays Known body' WalkE walks P stuck halts n
          (length block.stmts) block.term (before ++ stmt_actions n 0 block.stmts) v
      pub goes : (m : ℕ) → Contains (onward block.term) m → (u u' : State) →
          AtHere (before ++ stmt_actions n 0 block.stmts) u u' → MayGoHere block.term u → (v v' : State) → AtHere
          (((before ++ stmt_actions n 0 block.stmts)
          ++ at_line n (length block.stmts) (term_uses block.term)) ++ at_line n (length block.stmts)
          (map (λ place. (Stores, place)) (stored_by_term block.term))) v v' → P (nextR m v) (WalkE m v')
      pub panics : is_drop block.term ≡ false → (unwind : Unwind) → (unwind ≡ Unwind.Resume)
          ⊎ Contains (unwind_of block.term) unwind →
          (v v' : State) → AtHere ((before ++ stmt_actions n 0 block.stmts)
          ++ at_line n (length block.stmts) (term_uses block.term)) v v' → P (unwinding unwind nextR v)
          (unwinding unwind WalkE v')
      pub gives : (v v' : State) → AtHere (before ++ stmt_actions n 0 block.stmts) v v' →
          P (p.give (record { node = 0; place = whole_local 0 }) v)
          (q.give (record { node = 0; place = whole_local 0 }) v')
      pub drops : (ending : List Stmt) (term' : Term) (line' : ℕ) (v v' : State) →
          is_drop block.term ≡ true → Ends items body flagged body' n
          (kind_after items body flagged body' block.kind) block.term ending term' →
          AtHere (before ++ stmt_actions n 0 block.stmts) v v' →
          P (term_does p 0 block.term nextR v) (stmts_do q node line' ending (term_does q 0 term' WalkE) v')

    term-Ends : (n : ℕ) (block : Block) (before : List PathAction) (nextR : Next State) →
        BlockOwed n block before nextR → (ending : List Stmt) (term' : Term) → Ends items body flagged body' n
        (kind_after items body flagged body' block.kind) block.term ending term' →
        (line' : ℕ) (v v' : State) → AtHere (before ++ stmt_actions n 0 block.stmts) v v' →
        P (term_does p 0 block.term nextR v) (stmts_do q node line' ending (term_does q 0 term' WalkE) v')
    term-Ends n block before nextR owed ending term' ends line' v v' at =
        by (is_drop block.term) refl
      where
        no-result : {term : Term} {ending : List Stmt} {term' : Term} → term ≡ block.term →
            is_drop block.term ≡ false → Ends items body flagged body' n
            (kind_after items body flagged body' block.kind) term ending term' → P (term_does p 0 block.term nextR v)
            (stmts_do q node line' ending (term_does q 0 term' WalkE) v')
        no-result e h (result term from is_none edge) =
            subst (λ t. P (term_does p 0 block.term nextR v)
            (stmts_do q node line' (flags_of_uses items body flagged (term_uses t))
            (term_does q 0 (onward_to items body flagged body' from t) WalkE) v')) (sym e)
            (subst (λ stmts. P (term_does p 0 block.term nextR v)
            (stmts_do q node line' stmts (term_does q 0 (onward_to items body flagged body' from block.term) WalkE)
            v')) (nil (flags_of_uses items body flagged (term_uses block.term)))
            (result-Ends items local_ty local_ty' extends number depth outer body flagged flag_ty flag_is
            added run run' bound most good tie stays Known body' WalkE walks P stuck halts n
            (length block.stmts) block.term (kind_after items body flagged body' block.kind) from nextR line'
            (before ++ stmt_actions n 0 block.stmts) v v' (no-turn block.kind)
            (subst (λ t. EdgeTo items body flagged body' (kind_after items body flagged body' block.kind)
            (result_flags items body flagged body' t) from (next_of items body flagged body' t)) e edge)
            (owed.term v v' at) at (λ m c g. owed.goes m c v v' at g) (owed.panics h) owed.gives (no-drop block.term
            h)))
        no-result e h (dead place next unwind is) = absurd (no-drop block.term h place next unwind (sym e))
        no-result e h (plain place next unwind some all) = absurd (no-drop block.term h place next unwind (sym e))
        no-result e h (ladder plan place next from unwind planned code) =
            absurd (no-drop block.term h place next unwind (sym e))

        by : (b : Bool) → is_drop block.term ≡ b → P (term_does p 0 block.term nextR v)
            (stmts_do q node line' ending (term_does q 0 term' WalkE) v')
        by true h = owed.drops ending term' line' v v' h ends at
        by false h = no-result refl h ends

    -- what the elaborated block does, from its first statement on
    abbrev pub entered : (n : ℕ) (block : Block) → BlockDone items body flagged body' n block → State → Out State
    entered n block done v =
        stmts_do q node 0 (at_start items body flagged n ++ (with_flags items body flagged block.stmts ++ done.ending))
        (term_does q 0 done.term WalkE) v

    pub enters : (n : ℕ) (block : Block) (done : BlockDone items body flagged body' n block) (w' : State) →
        is_turn block ≡ false → w'.ticks ≤ most → WalkE n w' ≡ entered n block done w'
    enters n block done w' flat few' =
        walks.plain n done.there.block done.there.there (ap is_turn_kind done.there.kind_is ∙ flat) w' few'
        ∙ ap (λ stmts. stmts_do q node 0 stmts (term_does q 0 done.there.block.term WalkE) w') done.there.stmts_are
        ∙ ap (λ term. stmts_do q node 0 (at_start items body flagged n ++ (with_flags items body flagged block.stmts
        ++ done.ending)) (term_does q 0 term WalkE) w') done.there.term_is

    -- a turn spends a tick before
    pub turns : (n : ℕ) (block : Block) (done : BlockDone items body flagged body' n block) (w' : State) →
        block.kind ≡ Kind.Turn → w'.ticks ≤ most →
        WalkE n w' ≡ ◌>>=◌ (renamed unplaced (spend w'.ticks w')) (entered n block done)
    turns n block done w' is_turn few' =
        walks.turn n done.there.block done.there.there (done.there.kind_is ∙ is_turn) w' few'
        ∙ ap (λ stmts. ◌>>=◌ (renamed unplaced (spend w'.ticks w'))
        (λ v. stmts_do q node 0 stmts (term_does q 0 done.there.block.term WalkE) v)) done.there.stmts_are
        ∙ ap (λ term. ◌>>=◌ (renamed unplaced (spend w'.ticks w'))
        (λ v. stmts_do q node 0 (at_start items body flagged n ++ (with_flags items body flagged block.stmts
        ++ done.ending)) (term_does q 0 term WalkE) v)) done.there.term_is

    -- from the first statement of a block
    pub block-Rest : (n : ℕ) (block : Block) (before : List PathAction) (nextR : Next State) (w w' : State) →
        (done : BlockDone items body flagged body' (suc n) block) → BlockOwed (suc n) block before nextR →
        AtHere before w w' → P (block_does p (λ line. 0) block nextR w) (entered (suc n) block done w')
    block-Rest n block before nextR w w' done owed at =
        stmts-Same items local_ty local_ty' extends number depth outer body flagged flag_ty flag_is added
        run' bound run most good tie stays Known P stuck halts (suc n) 0 block.stmts before 0 done.ending
        (term_does p 0 block.term nextR) (term_does q 0 done.term WalkE) w w' owed.stmts at
        (λ line' v v' a. term-Ends (suc n) block before nextR owed done.ending done.term done.ends line' v v' a)

    -- what holds after its first statement
    pub record Stood (acts : List PathAction) (v : State) : Type 0 where
      pub known : Known acts v
      pub deep : length v.activations ≡ suc depth
      pub number_is : body_at depth v ≡ Some number
      pub few : v.ticks ≤ most

    -- from the first statement of a block, where what that one does is shown on its own
    pub later-Rest : (n : ℕ) (block : Block) (before : List PathAction) (nextR : Next State) (w w' : State)
        (done : BlockDone items body flagged body' (suc n) block) → BlockOwed (suc n) block before nextR →
        (stmt : Stmt) (rest : List Stmt) → block.stmts ≡ stmt ∷ rest → (flags : Flags) →
        Same local_ty (Like local_ty flags) (act raw run (action_of 0 stmt) w) (act strict run' (action_of 0 stmt) w') →
        Tell items local_ty local_ty' extends number depth outer body flagged flag_ty flag_is added run' bound flags
        before → ((v : State) → act raw run (action_of 0 stmt) w ≡ Go v →
        Stood (before ++ at_line (suc n) 0 (stmt_uses stmt)) v) →
        P (block_does p (λ line. 0) block nextR w) (entered (suc n) block done w')
    later-Rest n block before nextR w w' done owed stmt rest is flags same tell stood =
        subst (λ l. P (stmts_do p node 0 l (term_does p 0 block.term nextR) w)
        (stmts_do q node 0 (with_flags items body flagged l ++ done.ending) (term_does q 0 done.term WalkE) w')) (sym
        is)
        (by (act raw run (action_of 0 stmt) w) refl same)
      where
        uses : List PathAction
        uses = at_line (suc n) 0 (stmt_uses stmt)

        onward_from : Out State → Out State
        onward_from o = ◌>>=◌ (renamed unplaced o) (λ v. stmts_do q node 1
            ((flags_of_uses items body flagged (stmt_uses stmt) ++ with_flags items body flagged rest) ++ done.ending)
            (term_does q 0 done.term WalkE) v)

        others_owed : (k : ℕ) (s : Stmt) → slice_get rest k ≡ Some s →
            ActionOwed items local_ty local_ty' extends number depth outer body flagged flag_ty flag_is
            added run' bound run most good tie stays Known (up_to (suc n) 1 (before ++ uses) rest k)
            (at_line (suc n) (after 1 k) (stmt_uses s)) (action_of 0 s)
        others_owed k s e =
            subst (λ l. (k : ℕ) (s : Stmt) → slice_get l k ≡ Some s →
            ActionOwed items local_ty local_ty' extends number depth outer body flagged flag_ty flag_is
            added run' bound run most good tie stays Known (up_to (suc n) 0 before l k)
            (at_line (suc n) (after 0 k) (stmt_uses s)) (action_of 0 s)) is owed.stmts (suc k) s e

        by : (o : Out State) → act raw run (action_of 0 stmt) w ≡ o →
            Same local_ty (Like local_ty flags) o (act strict run' (action_of 0 stmt) w') →
            P (◌>>=◌ (renamed unplaced o) (λ v. stmts_do p node 1 rest (term_does p 0 block.term nextR) v))
            (onward_from (act strict run' (action_of 0 stmt) w'))
        by (Go v) e s =
            let k = stood v e in
            let a = uses-set items local_ty local_ty' extends number depth outer body flagged flag_ty flag_is added run'
            bound (suc n) 0 (stmt_uses stmt) before 1 (with_flags items body flagged rest ++ done.ending)
            (term_does q 0 done.term WalkE) flags v s.0 s.2 k.deep k.number_is tell in
            subst (P (stmts_do p node 1 rest (term_does p 0 block.term nextR) v))
            (sym (ap onward_from s.1 ∙ ap (λ l. stmts_do q node 1 l (term_does q 0 done.term WalkE) s.0)
            (append_assoc (flags_of_uses items body flagged (stmt_uses stmt)) (with_flags items body flagged rest)
            done.ending) ∙ a.does))
            (stmts-Same items local_ty local_ty' extends number depth outer body flagged flag_ty flag_is added
            run' bound run most good tie stays Known P stuck halts (suc n) 1 rest (before ++ uses) a.line' done.ending
            (term_does p 0 block.term nextR) (term_does q 0 done.term WalkE) v a.v' others_owed
            (record {
              flags = a.new;
              like = a.like;
              tell = a.tell;
              deep = k.deep;
              number_is = k.number_is;
              few = k.few;
              known = k.known;
            })
            (λ line2 u u' z. term-Ends (suc n) block before nextR owed done.ending done.term done.ends line2 u u'
            (subst (λ l. AtHere (before ++ stmt_actions (suc n) 0 l) u u') (sym is)
            (subst (λ l. AtHere l u u') (append_assoc before uses (stmt_actions (suc n) 1 rest)) z))))
        by (Unwinds v) e s = stuck Stuck v _ tt
        by (Halts halt v) e (inl st) = stuck (unplaced halt) v _ (stuck-unplaced halt st)
        by (Halts halt v) e (inr s) = subst (P (Halts (unplaced halt) v)) (sym (ap onward_from s.1))
            (halts (unplaced halt) v s.0 s.2)

    -- from that of the first block, where the flags hold nothing yet
    pub first-Rest : (block : Block) (nextR : Next State) (flags : Flags) (w w' : State) →
        (done : BlockDone items body flagged body' 0 block) → BlockOwed 0 block [] nextR →
        Like local_ty flags w w' → length w.activations ≡ suc depth → body_at depth w ≡ Some number →
        ((d k : ℕ) → (d == depth) ≡ false → flags d k ≡ outer d k) →
        w.ticks ≤ most → Known [] w → P (block_does p (λ line. 0) block nextR w) (entered 0 block done w')
    first-Rest block nextR flags w w' done owed like deep is beyond few known =
        subst (P (block_does p (λ line. 0) block nextR w)) (sym a.does)
        (stmts-Same items local_ty local_ty' extends number depth outer body flagged flag_ty flag_is added
        run' bound run most good tie stays Known P stuck halts 0 0 block.stmts [] a.line' done.ending
        (term_does p 0 block.term nextR) (term_does q 0 done.term WalkE) w a.v' owed.stmts
        (record { flags = a.new; like = a.like; tell = a.tell; deep = deep; number_is = is; few = few; known = known })
        (λ line' v v' z. term-Ends 0 block [] nextR owed done.ending done.term done.ends line' v v' z))
      where
        a : After items local_ty local_ty' extends number depth outer body flagged flag_ty flag_is added run' bound []
            (first_flags items body flagged flagged 0) 0 (with_flags items body flagged block.stmts ++ done.ending)
            (term_does q 0 done.term WalkE) w w'
        a = begin-sets items local_ty local_ty' extends number depth outer body flagged flag_ty flag_is added run' bound
            0 (with_flags items body flagged block.stmts ++ done.ending) (term_does q 0 done.term WalkE)
            flags w w' like deep is beyond
