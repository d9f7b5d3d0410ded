-- A terminator that may panic, and its result, in the raw block and in the elaborated one: flags of moved operands are
-- cleared before it, and those of its result are set on the way on.
use Rattle.std.proofs.Common.{◌≡◌, ◌⊎◌, inl, inr, ℕ, suc, ◌≤◌, ◌<◌, Bool, true, false, List, [], ◌∷◌, ◌++◌, map, length, Option, Some, None, Contains, refl, ap, sym, ◌∙◌, subst, arith}
use Rattle.mir_base.specs.declared.trace.Event.{Event}
use Rattle.mir_ty.proofs.ListLemmas.{Contains-slice_get}
use Rattle.mir_ty.specs.declared.ty.Ty.{Ty}
use Rattle.mir_ty.specs.declared.ty.TyId.{TyId}
use Rattle.mir_ty.specs.ItemTable.{ItemTable, type_at}
use Rattle.cfg_graph.specs.declared.graph.Body.{Body}
use Rattle.cfg_graph.specs.declared.graph.Kind.{Kind}
use Rattle.cfg_graph.specs.declared.place.Place as graph
use Rattle.cfg_graph.specs.declared.statement.Stmt.{Stmt}
use Rattle.cfg_graph.specs.declared.terminator.Term.{Term}
use Rattle.cfg_graph.specs.declared.terminator.Unwind.{Unwind}
use Rattle.cfg_graph.specs.Edges.{is_turn_kind, onward, unwind_of}
use Rattle.cfg_graph.specs.Moves.Actions.{at_line}
use Rattle.cfg_graph.specs.Moves.Gone.{PathAction}
use Rattle.cfg_graph.specs.Uses.{PlaceUse, Stores, stored_by_term, term_uses}
use Rattle.cfg_meaning.specs.Actions.{site_of, operand_of, operands_of}
use Rattle.mir_base.specs.declared.trace.Why.{Why}
use Rattle.store_model.specs.Effects as effects
use Rattle.cfg_meaning.specs.Walk.{Next, branch, renamed, renamed_choice, naming, unwinding, stmts_do, acts, term_does}
use Rattle.store_model.specs.Concrete.Effects.{never_at, acted, act, choose, concrete_effects}
use Rattle.store_model.specs.Concrete.Location.{Setting}
use Rattle.store_model.specs.Concrete.State.{State, Bodies}
use Rattle.store_model.proofs.Concrete.Effects.{ticks_of}
use Rattle.store_model.specs.Effects.{Action, Test, Choice, Yes, No, Neither, Halt, Aborted, OutOfTicks, Stuck, StuckAt, BadUse, BadStore, NoChoice, Infeasible, Unreachable, Out, Go, Unwind as Unwinds, Halts, Effects, halting_if}
use Rattle.store_model.specs.Places.Place.{Place, whole_local}
use Rattle.store_model.specs.Values.Datum.{Datum}
use Rattle.drop_values.specs.Like.{body_at, Flags, Like, Same, SameBodies, IsStuck, raw_setting, strict_setting, Extends}
use Rattle.drop_values.proofs.Actions.{ActionOk, MayCall, StoreTyped, Stays, act-Same}
use Rattle.drop_values.proofs.Choices.{ChoiceWay}
use Rattle.drop_elaborate.proofs.Walks.{unplaced, stuck-unplaced, Walks}
use Rattle.drop_elaborate.proofs.Statements.{At}
use Rattle.drop_elaborate.proofs.FlagStores.{Tell, After, uses-set}
use Rattle.drop_elaborate.specs.Elaborated.{flag_at, flags_of_uses, EdgeTo, next_of, onward_to, result_flags}

module _ (items : ItemTable) (local_ty local_ty' : (body local : ℕ) → Option TyId)
    (extends : Extends local_ty local_ty') (number depth : ℕ) (outer : Flags) (body : Body) (flagged : List Place)
    (flag_ty : TyId) (flag_is : type_at items flag_ty ≡ Some Ty.Bool)
    (added : (n : ℕ) → n < length flagged → (local_ty number (flag_at items body flagged n) ≡ None)
    × (local_ty' number (flag_at items body flagged n) ≡ Some flag_ty))
    (run run' : Bodies) (bound most : ℕ) (good : ℕ → List Datum → State → Type 0)
    (tie : SameBodies local_ty good most run run')
    (stays : (flags : Flags) (event : Event) (callee : ℕ) (args : List Datum) (w : State) → good callee args w →
    Stays items local_ty local_ty' extends flags depth number w (run event callee args w))
    (Known : List PathAction → State → Type 0)
    (body' : Body) (WalkE : Next State) (walks : Walks
    (naming unplaced (concrete_effects (strict_setting items local_ty') run' bound)) ticks_of most body'
    (λ block line. 0) WalkE) where
  abbrev raw : Setting
  raw = raw_setting items local_ty

  abbrev strict : Setting
  strict = strict_setting items local_ty'

  abbrev q : Effects State
  q = naming unplaced (concrete_effects strict run' bound)

  abbrev node : ℕ → ℕ
  node line = 0

  abbrev AtHere : List PathAction → State → State → Type 0
  AtHere acts w w' = At items local_ty local_ty' extends number depth outer body flagged flag_ty flag_is
      added run' bound run most good tie stays Known acts w w'

  abbrev AfterHere : List PathAction → List Stmt → ℕ → List Stmt → (State → Out State) → State → State → Type 0
  AfterHere = After items local_ty local_ty' extends number depth outer body flagged flag_ty flag_is added run' bound

  abbrev TellHere : Flags → List PathAction → Type 0
  TellHere = Tell items local_ty local_ty' extends number depth outer body flagged flag_ty flag_is added run' bound

  -- an edge on which flags are set leads on to where they are set
  pub edge-leads : (kind : Kind) → is_turn_kind kind ≡ false → (block line : ℕ) (uses : List (PlaceUse × graph.Place))
      (done : List PathAction) (from to : ℕ) (flags : Flags) (w w' : State) → EdgeTo items body flagged body' kind
      (flags_of_uses items body flagged uses) from to →
      Like local_ty flags w w' → TellHere flags done → length w.activations ≡ suc depth →
      body_at depth w ≡ Some number → w.ticks ≤ most →
      (flags' : Flags) × (v' : State) × (WalkE from w' ≡ WalkE to v') × Like local_ty flags' w v'
      × TellHere flags' (done ++ at_line block line uses)
  edge-leads kind flat block line uses done from to flags w w' edge like tell deep is few =
      by (flags_of_uses items body flagged uses) refl edge
    where
      next : State → Out State
      next v = WalkE to v

      a : AfterHere (done ++ at_line block line uses) (flags_of_uses items body flagged uses) 0 [] next w w'
      a = uses-set items local_ty local_ty' extends number depth outer body flagged flag_ty flag_is added
          run' bound block line uses done 0 [] next flags w w' like deep is tell

      few' : w'.ticks ≤ most
      few' = let t = like.ticks in omega (arith, t, few)

      by : (stmts : List Stmt) → flags_of_uses items body flagged uses ≡ stmts →
          EdgeTo items body flagged body' kind stmts from to →
          (flags' : Flags) × (v' : State) × (WalkE from w' ≡ WalkE to v') × Like local_ty flags' w v'
          × TellHere flags' (done ++ at_line block line uses)
      by [] e h = (
        a.new,
        a.v',
        ap (λ n. WalkE n w') h ∙ ap (λ stmts. stmts_do q node 0 (stmts ++ []) next w') (sym e)
            ∙ a.does,
        a.like,
        a.tell,
      )
      by (stmt ∷ stmts) e h = (
        a.new,
        a.v',
        walks.plain from h.block h.there (ap is_turn_kind h.kind_is ∙ flat) w' few'
            ∙ ap (λ stmts. stmts_do q node 0 stmts (term_does q 0 h.block.term WalkE) w')
            (h.stmts_are ∙ sym (nil (stmt ∷ stmts)))
            ∙ ap (λ term. stmts_do q node 0 ((stmt ∷ stmts) ++ []) (term_does q 0 term WalkE) w') h.term_is
            ∙ ap (λ stmts. stmts_do q node 0 (stmts ++ []) next w') (sym e) ∙ a.does,
        a.like,
        a.tell,
      )
        where
          nil : (xs : List Stmt) → xs ++ [] ≡ xs
          nil [] = refl
          nil (x ∷ xs) = ap (λ r. x ∷ r) (nil xs)

  -- what is owed of an action that may panic: on each way on, what it moved is gone; its result is stored where it goes
  -- on
  pub record PanickingOwed (done moved stored : List PathAction) (action : Action) : Type 0 where
    pub ok : (flags : Flags) → ActionOk items local_ty local_ty' extends flags depth number most run run' good tie
        (stays flags) action
    pub may : (flags : Flags) (w : State) → Known done w →
        MayCall items local_ty local_ty' extends flags depth number most run run' good tie (stays flags) action w
    pub typed : (flags : Flags) → StoreTyped items local_ty local_ty' extends flags depth number most run run' good tie
        (stays flags) action
    pub goes_on : (w v : State) → Known done w → act raw run action w ≡ Go v →
        Known ((done ++ moved) ++ stored) v
    pub panics : (w v : State) → Known done w → act raw run action w ≡ Unwinds v →
        Known (done ++ moved) v
    pub frame : (w v : State) → Known done w → length w.activations ≡ suc depth →
        body_at depth w ≡ Some number → (act raw run action w ≡ Go v) ⊎ (act raw run action w ≡ Unwinds v) →
        (length v.activations ≡ suc depth) × (body_at depth v ≡ Some number) × (v.ticks ≤ w.ticks)

  module _ (P : Out State → Out State → Type 0) (stuck : (halt : Halt) (w : State) (o : Out State) →
      IsStuck halt → P (Halts halt w) o) (halts : (halt : Halt) (w w' : State) → w'.trace ≡ w.trace →
      P (Halts halt w) (Halts halt w')) where
    pub acts-Ends : (block line : ℕ) (moved stored : List (PlaceUse × graph.Place)) (action : Action)
        (kind : Kind) (from next : ℕ) (unwind : Unwind) (nextR : Next State) (line' : ℕ) (done : List PathAction)
        (w w' : State) →
        is_turn_kind kind ≡ false → EdgeTo items body flagged body' kind (flags_of_uses items body flagged stored)
        from next → PanickingOwed done (at_line block line moved) (at_line block line stored) action →
        AtHere done w w' →
        ((v v' : State) → act raw run action w ≡ Go v →
        AtHere ((done ++ at_line block line moved) ++ at_line block line stored) v v' →
        P (nextR next v) (WalkE next v')) →
        ((v v' : State) → AtHere (done ++ at_line block line moved) v v' → P (unwinding unwind nextR v)
        (unwinding unwind WalkE v')) →
        P (acts (renamed unplaced (act raw run action w)) nextR next unwind)
        (stmts_do q node line' (flags_of_uses items body flagged moved ++ [])
        (λ v. acts (renamed unplaced (act strict run' action v)) WalkE from unwind) w')
    acts-Ends block line moved stored action kind from next unwind nextR line' done w w' flat edge owed at goes panics =
        subst (P (acts (renamed unplaced (act raw run action w)) nextR next unwind)) (sym a.does)
        (by (act raw run action w) refl same)
      where
        strictly : State → Out State
        strictly v = acts (renamed unplaced (act strict run' action v)) WalkE from unwind

        a : AfterHere (done ++ at_line block line moved) (flags_of_uses items body flagged moved) line' []
            (λ v. acts (renamed unplaced (act strict run' action v)) WalkE from unwind) w w'
        a = uses-set items local_ty local_ty' extends number depth outer body flagged flag_ty flag_is
            added run' bound block line moved done line' []
            (λ v. acts (renamed unplaced (act strict run' action v)) WalkE from unwind) at.flags
            w w' at.like at.deep at.number_is at.tell

        same : Same local_ty (Like local_ty a.new) (act raw run action w) (act strict run' action a.v')
        same = act-Same items local_ty local_ty' extends a.new depth number most run run' good tie
            (stays a.new) action w a.v' (record {
              like = a.like;
              deep = at.deep;
              number_is = at.number_is;
              few =
                  at.few;
            }) (owed.ok a.new) (owed.may a.new w at.known) (owed.typed a.new)

        by : (o : Out State) → act raw run action w ≡ o → Same local_ty (Like local_ty a.new) o
            (act strict run' action a.v') → P (acts (renamed unplaced o) nextR next unwind)
            (acts (renamed unplaced (act strict run' action a.v')) WalkE from unwind)
        by (Go v) e s =
            let fr = owed.frame w v at.known at.deep at.number_is (inl e) in
            let few = (let l = fr.2 in let k = at.few in let x : v.ticks ≤ most = omega arith in x) in
            let t = edge-leads kind flat block line stored (done ++ at_line block line moved) from
            next a.new v s.0 edge s.2 a.tell fr.0 fr.1 few in
            subst (P (nextR next v)) (sym (ap (λ o. acts (renamed unplaced o) WalkE from unwind) s.1 ∙ t.2))
            (goes v t.1 e (record {
              flags = t.0;
              like = t.3;
              tell = t.4;
              deep = fr.0;
              number_is =
                  fr.1;
              few = few;
              known = owed.goes_on w v at.known e;
            }))
        by (Unwinds v) e s =
            let fr = owed.frame w v at.known at.deep at.number_is (inr e) in
            let few = (let l = fr.2 in let k = at.few in let x : v.ticks ≤ most = omega arith in x) in
            subst (P (unwinding unwind nextR v)) (sym (ap (λ o. acts (renamed unplaced o) WalkE from unwind) s.1))
            (panics v s.0 (record {
              flags = a.new;
              like = s.2;
              tell = a.tell;
              deep = fr.0;
              number_is =
                  fr.1;
              few = few;
              known = owed.panics w v at.known e;
            }))
        by (Halts halt v) e (inl st) = stuck (unplaced halt) v _ (stuck-unplaced halt st)
        by (Halts halt v) e (inr s) = subst (P (Halts (unplaced halt) v))
            (sym (ap (λ o. acts (renamed unplaced o) WalkE from unwind) s.1)) (halts (unplaced halt) v s.0 s.2)

    -- what a test leaves, on each way on
    pub record TestLeaves (done : List PathAction) (v : State) : Type 0 where
      pub known : Known done v
      pub deep : length v.activations ≡ suc depth
      pub number_is : body_at depth v ≡ Some number
      pub few : v.ticks ≤ most

    -- a test, whose operand may be moved
    pub tests-Ends : (block line : ℕ) (uses : List (PlaceUse × graph.Place)) (test : Test) (if_yes if_no : ℕ)
        (nextR : Next State) (line' : ℕ) (done : List PathAction) (w w' : State) → AtHere done w w' →
        ((flags : Flags) (v' : State) → Like local_ty flags w v' → ChoiceWay items local_ty local_ty'
        extends flags depth number most (choose raw test w) (choose strict test v')) →
        ((v : State) → (choose raw test w ≡ Yes v) ⊎ (choose raw test w ≡ No v) →
        TestLeaves (done ++ at_line block line uses) v) →
        ((m : ℕ) → (m ≡ if_yes) ⊎ (m ≡ if_no) → (v v' : State) → AtHere (done ++ at_line block line uses) v v' →
        P (nextR m v) (WalkE m v')) →
        P (branch (renamed_choice unplaced (choose raw test w)) (nextR if_yes) (nextR if_no))
        (stmts_do q node line' (flags_of_uses items body flagged uses ++ [])
        (λ v. branch (renamed_choice unplaced (choose strict test v)) (WalkE if_yes) (WalkE if_no)) w')
    tests-Ends block line uses test if_yes if_no nextR line' done w w' at same leaves goes =
        subst (P (branch (renamed_choice unplaced (choose raw test w)) (nextR if_yes) (nextR if_no)))
        (sym a.does) (by (choose raw test w) refl (same a.new a.v' a.like))
      where
        a : AfterHere (done ++ at_line block line uses) (flags_of_uses items body flagged uses) line' []
            (λ v. branch (renamed_choice unplaced (choose strict test v)) (WalkE if_yes) (WalkE if_no)) w w'
        a = uses-set items local_ty local_ty' extends number depth outer body flagged flag_ty flag_is
            added run' bound block line uses done line' [] (λ v. branch (renamed_choice unplaced (choose strict test v))
            (WalkE if_yes) (WalkE if_no)) at.flags w w' at.like at.deep at.number_is at.tell

        by : (c : Choice State) → choose raw test w ≡ c → ChoiceWay items local_ty local_ty' extends
            a.new depth number most c (choose strict test a.v') →
            P (branch (renamed_choice unplaced c) (nextR if_yes) (nextR if_no))
            (branch (renamed_choice unplaced (choose strict test a.v')) (WalkE if_yes) (WalkE if_no))
        by (Yes v) e h =
            let l = leaves v (inl e) in
            subst (P (nextR if_yes v)) (sym (ap (λ c. branch (renamed_choice unplaced c) (WalkE if_yes) (WalkE if_no))
            h.1)) (goes if_yes (inl refl) v h.0 (record {
              flags = a.new;
              like = h.2;
              tell = a.tell;
              deep =
                  l.deep;
              number_is = l.number_is;
              few = l.few;
              known = l.known;
            }))
        by (No v) e h =
            let l = leaves v (inr e) in
            subst (P (nextR if_no v)) (sym (ap (λ c. branch (renamed_choice unplaced c) (WalkE if_yes) (WalkE if_no))
            h.1)) (goes if_no (inr refl) v h.0 (record {
              flags = a.new;
              like = h.2;
              tell = a.tell;
              deep =
                  l.deep;
              number_is = l.number_is;
              few = l.few;
              known = l.known;
            }))
        by (Neither halt v) e (inl st) = stuck (unplaced halt) v _ (stuck-unplaced halt st)
        by (Neither halt v) e (inr h) = subst (P (Halts (unplaced halt) v))
            (sym (ap (λ c. branch (renamed_choice unplaced c) (WalkE if_yes) (WalkE if_no)) h.1))
            (halts (unplaced halt) v h.0 h.2)

    -- ---- a terminator that is no drop

    abbrev pub term_action : Term → Option Action
    term_action (Term.Math to op left right next unwind) =
        Some (effects.Compute (site_of 0 to) op (operand_of 0 left) (operand_of 0 right))
    term_action (Term.Negate to of next unwind) = Some (effects.Negate (site_of 0 to) (operand_of 0 of))
    term_action (Term.Bounds index count next unwind) = Some (effects.Bounds (operand_of 0 index) count)
    term_action (Term.Call to callee args next unwind) = Some (effects.Call (site_of 0 to) callee (operands_of 0 args))
    term_action (Term.Virtual to trait_no method args next unwind) =
        Some (effects.CallVirtual (site_of 0 to) trait_no method (operands_of 0 args))
    term_action (Term.Ask to next unwind) = Some (effects.Ask (site_of 0 to))
    term_action term = None

    abbrev pub term_test : Term → Option Test
    term_test (Term.If on if_yes if_no) = Some (effects.IsTrue (operand_of 0 on))
    term_test (Term.Case on variant if_yes if_no) = Some (effects.HasVariant (site_of 0 on) variant)
    term_test term = None

    abbrev p : Effects State
    p = naming unplaced (concrete_effects raw run bound)

    abbrev pub used_at : (n line : ℕ) → Term → List PathAction
    used_at n line term = at_line n line (term_uses term)

    abbrev pub stored_at_end : (n line : ℕ) → Term → List PathAction
    stored_at_end n line term = at_line n line (map (λ place. (Stores, place)) (stored_by_term term))

    -- what is owed of it
    pub record TermOwed (n line : ℕ) (term : Term) (done : List PathAction) (w : State) : Type 0 where
      pub acting : (action : Action) → term_action term ≡ Some action →
          PanickingOwed done (used_at n line term)
          (stored_at_end n line term) action
      pub same : (test : Test) → term_test term ≡ Some test → (flags : Flags) (v' : State) → Like local_ty flags w v' →
          ChoiceWay items local_ty local_ty' extends flags depth number most (choose raw test w) (choose strict test v')
      pub tested : (test : Test) → term_test term ≡ Some test → (v : State) → (choose raw test w ≡ Yes v)
          ⊎ (choose raw test w ≡ No v) → TestLeaves (done ++ used_at n line term) v
      pub panicking : (why : Why) (v' : State) → AtHere done w v' → AtHere done (p.panic why w) (q.panic why v')

    -- one of two blocks is one to which a test leads
    one-of : (if_yes if_no m : ℕ) → (m ≡ if_yes) ⊎ (m ≡ if_no) → Contains (if_no ∷ if_yes ∷ []) m
    one-of if_yes if_no m (inl e) = Contains-slice_get (if_no ∷ if_yes ∷ []) 1 m (ap Some (sym e))
    one-of if_yes if_no m (inr e) = Contains-slice_get (if_no ∷ if_yes ∷ []) 0 m (ap Some (sym e))

    nil : (xs : List PathAction) → xs ++ [] ≡ xs
    nil [] = refl
    nil (x ∷ xs) = ap (λ r. x ∷ r) (nil xs)

    no_more : (xs : List PathAction) (v v' : State) → AtHere xs v v' → AtHere (xs ++ []) v v'
    no_more xs v v' a = subst (λ l. AtHere l v v') (sym (nil xs)) a

    -- nothing is stored into a place of the type `!`
    abbrev pub MayGo : Term → State → Type 0
    MayGo term w = (to : graph.Place) → stored_by_term term ≡ to ∷ [] → never_at raw w (site_of 0 to) ≡ false

    went-there : (never : Bool) (o : Out State) (v : State) → halting_if never Stuck o ≡ Go v → never ≡ false
    went-there false o v e = refl
    went-there true (Go x) v e = absurd (let y : Halts Stuck x ≡ Go v = e in cc)
    went-there true (Unwinds x) v e = absurd (let y : Unwinds x ≡ Go v = e in cc)
    went-there true (Halts halt x) v e = absurd (let y : Halts halt x ≡ Go v = e in cc)

    pub result-Ends : (n line : ℕ) (term : Term) (kind : Kind) (from : ℕ) (nextR : Next State) (line' : ℕ)
        (done : List PathAction) (w w' : State) → is_turn_kind kind ≡ false → EdgeTo items body flagged body' kind
        (result_flags items body flagged body' term) from (next_of items body flagged body' term) →
        TermOwed n line term done w → AtHere done w w' →
        ((m : ℕ) → Contains (onward term) m → MayGo term w → (v v' : State) →
        AtHere ((done ++ used_at n line term) ++ stored_at_end n line term) v v' → P (nextR m v) (WalkE m v')) →
        ((unwind : Unwind) → (unwind ≡ Unwind.Resume) ⊎ Contains (unwind_of term) unwind → (v v' : State) →
        AtHere (done ++ used_at n line term) v v' → P (unwinding unwind nextR v) (unwinding unwind WalkE v')) →
        ((v v' : State) → AtHere done v v' → P (p.give (record { node = 0; place = whole_local 0 }) v)
        (q.give (record { node = 0; place = whole_local 0 }) v')) →
        ((place : graph.Place) (next : ℕ) (unwind : Unwind) → term ≡ Term.DropAt place next unwind → ⊥) →
        P (term_does p 0 term nextR w) (stmts_do q node line' (flags_of_uses items body flagged (term_uses term) ++ [])
        (term_does q 0 (onward_to items body flagged body' from term) WalkE) w')
    result-Ends n line (Term.Goto b) kind from nextR line' done w w' flat edge owed at goes panics gives no_drop =
        goes b (Contains-slice_get (b ∷ []) 0 b refl) (λ to e. absurd (let n : [] ≡ to ∷ [] = e in cc)) w w' (no_more
        (done ++ []) w w' (no_more done w w' at))
    result-Ends n line (Term.If on if_yes if_no) kind from nextR line' done w w' flat edge owed
        at goes panics gives no_drop =
        tests-Ends n line (term_uses (Term.If on if_yes if_no)) (effects.IsTrue (operand_of 0 on))
        if_yes if_no nextR line' done w w' at (owed.same _ refl) (owed.tested _ refl)
        (λ m t v v' a. goes m (one-of if_yes if_no m t) (λ to e. absurd (let n : [] ≡ to ∷ [] = e in cc)) v v'
        (no_more (done ++ used_at n line (Term.If on if_yes if_no)) v v' a))
    result-Ends n line (Term.Case on variant if_yes if_no) kind from nextR line' done w w' flat
        edge owed at goes panics gives no_drop =
        tests-Ends n line (term_uses (Term.Case on variant if_yes if_no)) (effects.HasVariant (site_of 0 on) variant)
        if_yes if_no nextR line' done w w' at (owed.same _ refl) (owed.tested _ refl)
        (λ m t v v' a. goes m (one-of if_yes if_no m t) (λ to e. absurd (let n : [] ≡ to ∷ [] = e in cc)) v v'
        (no_more (done ++ used_at n line (Term.Case on variant if_yes if_no)) v v' a))
    result-Ends n line (Term.Math to op left right next unwind) kind from nextR line' done w w'
        flat edge owed at goes panics gives no_drop =
        acts-Ends n line (term_uses (Term.Math to op left right next unwind))
        (map (λ place. (Stores, place)) (stored_by_term (Term.Math to op left right next unwind)))
        _ kind from next unwind nextR line' done w w' flat edge (owed.acting _ refl) at (λ v v' e. goes next
        (Contains-slice_get (next ∷ []) 0 next refl)
        (λ x y. ap (λ p. never_at raw w (site_of 0 p)) (let z : to ∷ [] ≡ x ∷ [] = y in let q : x ≡ to = cc in q)
        ∙ went-there (never_at raw w (site_of 0 to)) (acted raw run (effects.Compute (site_of 0 to) op (operand_of 0
        left) (operand_of 0 right)) w) v e)
        v v')
        (panics unwind (inr (Contains-slice_get (unwind ∷ []) 0 unwind refl)))
    result-Ends n line (Term.Negate to of next unwind) kind from nextR line' done w w' flat edge
        owed at goes panics gives no_drop =
        acts-Ends n line (term_uses (Term.Negate to of next unwind))
        (map (λ place. (Stores, place)) (stored_by_term (Term.Negate to of next unwind))) _
        kind from next unwind nextR line' done w w' flat edge (owed.acting _ refl) at (λ v v' e. goes next
        (Contains-slice_get (next ∷ []) 0 next refl)
        (λ x y. ap (λ p. never_at raw w (site_of 0 p)) (let z : to ∷ [] ≡ x ∷ [] = y in let q : x ≡ to = cc in q)
        ∙ went-there (never_at raw w (site_of 0 to)) (acted raw run (effects.Negate (site_of 0 to) (operand_of 0 of))
        w) v e)
        v v')
        (panics unwind (inr (Contains-slice_get (unwind ∷ []) 0 unwind refl)))
    result-Ends n line (Term.Bounds index count next unwind) kind from nextR line' done w w' flat
        edge owed at goes panics gives no_drop =
        acts-Ends n line (term_uses (Term.Bounds index count next unwind))
        (map (λ place. (Stores, place)) (stored_by_term (Term.Bounds index count next unwind)))
        _ kind from next unwind nextR line' done w w' flat edge (owed.acting _ refl) at (λ v v' e. goes next
        (Contains-slice_get (next ∷ []) 0 next refl)
        (λ to e. absurd (let n : [] ≡ to ∷ [] = e in cc)) v v')
        (panics unwind (inr (Contains-slice_get (unwind ∷ []) 0 unwind refl)))
    result-Ends n line (Term.Call to callee args next unwind) kind from nextR line' done w w' flat
        edge owed at goes panics gives no_drop =
        acts-Ends n line (term_uses (Term.Call to callee args next unwind))
        (map (λ place. (Stores, place)) (stored_by_term (Term.Call to callee args next unwind)))
        _ kind from next unwind nextR line' done w w' flat edge (owed.acting _ refl) at (λ v v' e. goes next
        (Contains-slice_get (next ∷ []) 0 next refl)
        (λ x y. ap (λ p. never_at raw w (site_of 0 p)) (let z : to ∷ [] ≡ x ∷ [] = y in let q : x ≡ to = cc in q)
        ∙ went-there (never_at raw w (site_of 0 to)) (acted raw run (effects.Call (site_of 0 to) callee (operands_of 0
        args)) w) v e)
        v v')
        (panics unwind (inr (Contains-slice_get (unwind ∷ []) 0 unwind refl)))
    result-Ends n line (Term.Virtual to trait_no method args next unwind) kind from nextR line'
        done w w' flat edge owed at goes panics gives no_drop =
        acts-Ends n line (term_uses (Term.Virtual to trait_no method args next unwind))
        (map (λ place. (Stores, place)) (stored_by_term (Term.Virtual to trait_no method args next unwind)))
        _ kind from next unwind nextR line' done w w' flat edge (owed.acting _ refl) at (λ v v' e. goes next
        (Contains-slice_get (next ∷ []) 0 next refl)
        (λ x y. ap (λ p. never_at raw w (site_of 0 p)) (let z : to ∷ [] ≡ x ∷ [] = y in let q : x ≡ to = cc in q)
        ∙ went-there (never_at raw w (site_of 0 to)) (acted raw run (effects.CallVirtual (site_of 0 to) trait_no
        method (operands_of 0 args)) w) v e)
        v v')
        (panics unwind (inr (Contains-slice_get (unwind ∷ []) 0 unwind refl)))
    result-Ends n line (Term.Ask to next unwind) kind from nextR line' done w w' flat edge owed
        at goes panics gives no_drop =
        acts-Ends n line (term_uses (Term.Ask to next unwind))
        (map (λ place. (Stores, place)) (stored_by_term (Term.Ask to next unwind))) _ kind from
        next unwind nextR line' done w w' flat edge (owed.acting _ refl) at (λ v v' e. goes next (Contains-slice_get
        (next ∷ []) 0 next refl)
        (λ x y. ap (λ p. never_at raw w (site_of 0 p)) (let z : to ∷ [] ≡ x ∷ [] = y in let q : x ≡ to = cc in q)
        ∙ went-there (never_at raw w (site_of 0 to)) (acted raw run (effects.Ask (site_of 0 to)) w) v e)
        v v')
        (panics unwind (inr (Contains-slice_get (unwind ∷ []) 0 unwind refl)))
    result-Ends n line (Term.DropAt place next unwind) kind from nextR line' done w w' flat edge
        owed at goes panics gives no_drop = absurd (no_drop place next unwind refl)
    result-Ends n line (Term.Panic why unwind) kind from nextR line' done w w' flat edge owed at
        goes panics gives no_drop =
        panics unwind (inr (Contains-slice_get (unwind ∷ []) 0 unwind refl)) (p.panic why w) (q.panic why w') (no_more
        done (p.panic why w) (q.panic why w')
        (owed.panicking why w' at))
    result-Ends n line Term.Return kind from nextR line' done w w' flat edge owed at goes panics gives no_drop =
        gives w w' at
    result-Ends n line Term.Resume kind from nextR line' done w w' flat edge owed at goes panics gives no_drop =
        panics Unwind.Resume (inl refl) w w' (no_more done w w' at)
