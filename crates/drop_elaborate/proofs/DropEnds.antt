-- A drop in the raw block, and what stands for it in the elaborated one: a ladder with its exits, or the same drop,
-- behind which the flags at and below its place are cleared.
use Rattle.std.proofs.Common.{◌≡◌, ◌⊎◌, inl, inr, ℕ, suc, ◌≤◌, ◌<◌, false, List, [], ◌∷◌, ◌++◌, length, Option, Some, None, refl, ap, sym, ◌∙◌, subst, arith}
use Rattle.mir_base.specs.declared.trace.Event.{Event}
use Rattle.mir_ty.specs.declared.ty.Ty.{Ty}
use Rattle.mir_ty.specs.declared.ty.TyId.{TyId}
use Rattle.mir_ty.specs.ItemTable.{ItemTable, type_at}
use Rattle.cfg_graph.specs.declared.graph.Body.{Body}
use Rattle.cfg_graph.specs.declared.graph.Kind.{Kind}
use Rattle.cfg_graph.specs.declared.place.Place as graph
use Rattle.cfg_graph.specs.declared.terminator.Unwind.{Unwind}
use Rattle.cfg_graph.specs.Edges.{is_turn_kind}
use Rattle.cfg_graph.specs.Moves.Actions.{at_line}
use Rattle.cfg_graph.specs.Moves.Gone.{PathAction}
use Rattle.cfg_graph.specs.Uses.{Drops}
use Rattle.cfg_meaning.specs.Actions.{mode_of}
use Rattle.cfg_meaning.specs.Walk.{Next, renamed, naming, unwinding, stmts_do, acts, term_does}
use Rattle.store_model.specs.Concrete.Effects.{concrete_effects}
use Rattle.store_model.specs.Concrete.State.{State, Bodies}
use Rattle.store_model.proofs.Concrete.Effects.{ticks_of}
use Rattle.store_model.specs.Effects.{Halt, Aborted, OutOfTicks, Stuck, StuckAt, BadUse, BadStore, NoChoice, Infeasible, Unreachable, Out, Go, Unwind as Unwinds, Halts, Effects}
use Rattle.store_model.specs.Places.Place.{Place}
use Rattle.store_model.specs.Values.Datum.{Datum}
use Rattle.drop_values.specs.Like.{body_at, Flags, Like, Same, SameBodies, IsStuck, strict_setting, Extends}
use Rattle.drop_values.specs.Plan.{Plan}
use Rattle.drop_values.proofs.Actions.{Stays}
use Rattle.drop_elaborate.proofs.Walks.{unplaced, stuck-unplaced, Walks}
use Rattle.drop_elaborate.proofs.Statements.{At}
use Rattle.drop_elaborate.proofs.FlagStores.{Tell, After, uses-set}
use Rattle.drop_elaborate.proofs.Terminators.{edge-leads}
use Rattle.drop_elaborate.specs.Elaborated.{flag_at, flags_of_uses, LadderTo}
use Rattle.drop_elaborate.specs.Ladder.{Ending, Calmly, Abruptly, mode_in, LadderAt}

module _ (items : ItemTable) (local_ty local_ty' : (body local : ℕ) → Option TyId)
    (extends : Extends local_ty local_ty') (number depth : ℕ) (outer : Flags) (body : Body) (flagged : List Place)
    (flag_ty : TyId) (flag_is : type_at items flag_ty ≡ Some Ty.Bool)
    (added : (n : ℕ) → n < length flagged → (local_ty number (flag_at items body flagged n) ≡ None)
    × (local_ty' number (flag_at items body flagged n) ≡ Some flag_ty))
    (run run' : Bodies) (bound most : ℕ) (good : ℕ → List Datum → State → Type 0)
    (tie : SameBodies local_ty good most run run')
    (stays : (flags : Flags) (event : Event) (callee : ℕ) (args : List Datum) (w : State) → good callee args w →
    Stays items local_ty local_ty' extends flags depth number w (run event callee args w))
    (Known : List PathAction → State → Type 0)
    (body' : Body) (WalkE : Next State) (walks : Walks
    (naming unplaced (concrete_effects (strict_setting items local_ty') run' bound)) ticks_of most body'
    (λ block line. 0) WalkE) where
  abbrev q : Effects State
  q = naming unplaced (concrete_effects (strict_setting items local_ty') run' bound)

  abbrev node : ℕ → ℕ
  node line = 0

  abbrev AtHere : List PathAction → State → State → Type 0
  AtHere acts w w' = At items local_ty local_ty' extends number depth outer body flagged flag_ty flag_is
      added run' bound run most good tie stays Known acts w w'

  abbrev TellHere : Flags → List PathAction → Type 0
  TellHere = Tell items local_ty local_ty' extends number depth outer body flagged flag_ty flag_is added run' bound

  -- what a drop leaves, on each way on
  pub record Leaves (dropped : List PathAction) (done : List PathAction) (v : State) : Type 0 where
    pub known : Known (done ++ dropped) v
    pub deep : length v.activations ≡ suc depth
    pub number_is : body_at depth v ≡ Some number
    pub few : v.ticks ≤ most

  -- where a ladder leads: the raw drop's outcome, and the walk from the ladder on
  abbrev Panics : Flags → Ending → State → Out State → Type 0
  Panics flags (Calmly cleanup) v out = (v' : State) × Like local_ty flags v v' × (out ≡ WalkE cleanup v')
  Panics flags Abruptly v out = ⊥

  abbrev pub Led : Flags → ℕ → Ending → Out State → Out State → Type 0
  Led flags to ending (Go v) out = (v' : State) × Like local_ty flags v v' × (out ≡ WalkE to v')
  Led flags to ending (Unwinds v) out = Panics flags ending v out
  Led flags to ending (Halts halt v) out = IsStuck halt ⊎ ((v' : State) × (out ≡ Halts halt v') × (v'.trace ≡ v.trace))

  module _ (P : Out State → Out State → Type 0) (stuck : (halt : Halt) (w : State) (o : Out State) →
      IsStuck halt → P (Halts halt w) o) (halts : (halt : Halt) (w w' : State) → w'.trace ≡ w.trace →
      P (Halts halt w) (Halts halt w'))
      (resumes : (flags : Flags) (acts : List PathAction) (w w' : State) → Like local_ty flags w w' →
      TellHere flags acts → length w.activations ≡ suc depth → P (Unwinds w) (Unwinds w')) where
    halted : (halt : Halt) (v v' : State) (out : Out State) → out ≡ Halts halt v' → v'.trace ≡ v.trace →
        P (Halts (unplaced halt) v) out
    halted Aborted v v' out e t = subst (P (Halts Aborted v)) (sym e) (halts Aborted v v' t)
    halted OutOfTicks v v' out e t = subst (P (Halts OutOfTicks v)) (sym e) (halts OutOfTicks v v' t)
    halted Stuck v v' out e t = stuck Stuck v out tt
    halted (StuckAt b n) v v' out e t = stuck Stuck v out tt
    halted (BadUse site) v v' out e t = subst (P (Halts (BadUse site) v)) (sym e) (halts (BadUse site) v v' t)
    halted (BadStore site) v v' out e t = subst (P (Halts (BadStore site) v)) (sym e) (halts (BadStore site) v v' t)
    halted NoChoice v v' out e t = subst (P (Halts NoChoice v)) (sym e) (halts NoChoice v v' t)
    halted Infeasible v v' out e t = subst (P (Halts Infeasible v)) (sym e) (halts Infeasible v v' t)
    halted Unreachable v v' out e t = subst (P (Halts Unreachable v)) (sym e) (halts Unreachable v v' t)

    -- a drop by its ladder
    pub ladder-Ends : (block line : ℕ) (plan : Plan) (kind : Kind) (place : graph.Place) (from next : ℕ)
        (unwind : Unwind) (nextR : Next State) (done : List PathAction) (flags : Flags) (w' : State) (o : Out State) →
        is_turn_kind kind ≡ false →
        LadderTo items body flagged body' plan kind place from next unwind →
        ((to : ℕ) (ending : Ending) → LadderAt body' plan place from to ending → mode_in ending ≡ mode_of unwind →
        Led flags to ending o (WalkE from w')) → Tell items local_ty local_ty' extends number depth outer body flagged
        flag_ty
        flag_is added run' bound flags done →
        ((v : State) → (o ≡ Go v) ⊎ (o ≡ Unwinds v) → Leaves (at_line block line ((Drops, place) ∷ [])) done v) →
        ((v v' : State) → AtHere (done ++ at_line block line ((Drops, place) ∷ [])) v v' →
        P (nextR next v) (WalkE next v')) →
        ((v v' : State) → AtHere (done ++ at_line block line ((Drops, place) ∷ [])) v v' →
        P (unwinding unwind nextR v) (unwinding unwind WalkE v')) →
        P (acts (renamed unplaced o) nextR next unwind) (WalkE from w')
    ladder-Ends block line plan kind place from next (Unwind.Block c) nextR done flags w' o flat
        code led tell leaves goes panics = by o refl (led code.0 (Calmly code.1) code.4 refl)
      where
        by : (x : Out State) → o ≡ x → Led flags code.0 (Calmly code.1) x (WalkE from w') →
            P (acts (renamed unplaced x) nextR next (Unwind.Block c)) (WalkE from w')
        by (Go v) e h =
            let l = leaves v (inl e) in
            let t = edge-leads items local_ty local_ty' extends number depth outer body flagged flag_ty
            flag_is added run run' bound most good tie stays Known body' WalkE walks kind flat block line
            ((Drops, place) ∷ []) done code.0 next flags v h.0 code.2 h.1 tell l.deep l.number_is l.few in
            subst (P (nextR next v)) (sym (h.2 ∙ t.2))
            (goes v t.1 (record {
              flags = t.0;
              like = t.3;
              tell = t.4;
              deep = l.deep;
              number_is =
                  l.number_is;
              few = l.few;
              known = l.known;
            }))
        by (Unwinds v) e h =
            let l = leaves v (inr e) in
            let t = edge-leads items local_ty local_ty' extends number depth outer body flagged flag_ty
            flag_is added run run' bound most good tie stays Known body' WalkE walks Kind.Cleanup refl block line
            ((Drops, place) ∷ []) done code.1 c flags v h.0 code.3 h.1 tell l.deep l.number_is l.few in
            subst (P (nextR c v)) (sym (h.2 ∙ t.2))
            (panics v t.1 (record {
              flags = t.0;
              like = t.3;
              tell = t.4;
              deep = l.deep;
              number_is =
                  l.number_is;
              few = l.few;
              known = l.known;
            }))
        by (Halts halt v) e (inl st) = stuck (unplaced halt) v _ (stuck-unplaced halt st)
        by (Halts halt v) e (inr h) = halted halt v h.0 (WalkE from w') h.1 h.2
    ladder-Ends block line plan kind place from next Unwind.Abort nextR done flags w' o flat code
        led tell leaves goes panics = by o refl (led code.0 Abruptly code.2 refl)
      where
        by : (x : Out State) → o ≡ x → Led flags code.0 Abruptly x (WalkE from w') →
            P (acts (renamed unplaced x) nextR next Unwind.Abort) (WalkE from w')
        by (Go v) e h =
            let l = leaves v (inl e) in
            let t = edge-leads items local_ty local_ty' extends number depth outer body flagged flag_ty
            flag_is added run run' bound most good tie stays Known body' WalkE walks kind flat block line
            ((Drops, place) ∷ []) done code.0 next flags v h.0 code.1 h.1 tell l.deep l.number_is l.few in
            subst (P (nextR next v)) (sym (h.2 ∙ t.2))
            (goes v t.1 (record {
              flags = t.0;
              like = t.3;
              tell = t.4;
              deep = l.deep;
              number_is =
                  l.number_is;
              few = l.few;
              known = l.known;
            }))
        by (Unwinds v) e h = absurd h
        by (Halts halt v) e (inl st) = stuck (unplaced halt) v _ (stuck-unplaced halt st)
        by (Halts halt v) e (inr h) = halted halt v h.0 (WalkE from w') h.1 h.2
    ladder-Ends block line plan kind place from next Unwind.Resume nextR done flags w' o flat code
        led tell leaves goes panics = by o refl (led code.0 (Calmly code.1) code.4 refl)
      where
        by : (x : Out State) → o ≡ x → Led flags code.0 (Calmly code.1) x (WalkE from w') →
            P (acts (renamed unplaced x) nextR next Unwind.Resume) (WalkE from w')
        by (Go v) e h =
            let l = leaves v (inl e) in
            let t = edge-leads items local_ty local_ty' extends number depth outer body flagged flag_ty
            flag_is added run run' bound most good tie stays Known body' WalkE walks kind flat block line
            ((Drops, place) ∷ []) done code.0 next flags v h.0 code.2 h.1 tell l.deep l.number_is l.few in
            subst (P (nextR next v)) (sym (h.2 ∙ t.2))
            (goes v t.1 (record {
              flags = t.0;
              like = t.3;
              tell = t.4;
              deep = l.deep;
              number_is =
                  l.number_is;
              few = l.few;
              known = l.known;
            }))
        by (Unwinds v) e h =
            let l = leaves v (inr e) in
            let few' = (let t = h.1.ticks in let k = l.few in let x : h.0.ticks ≤ most = omega (arith, t, k) in x) in
            subst (P (Unwinds v)) (sym (h.2 ∙ walks.plain code.1 code.3.block code.3.there
            (ap is_turn_kind code.3.kind_is) h.0 few'
            ∙ ap (λ stmts. stmts_do q node 0 stmts (term_does q 0 code.3.block.term WalkE) h.0) code.3.stmts_are
            ∙ ap (λ term. term_does q 0 term WalkE h.0) code.3.term_is))
            (resumes flags done v h.0 h.1 tell l.deep)
        by (Halts halt v) e (inl st) = stuck (unplaced halt) v _ (stuck-unplaced halt st)
        by (Halts halt v) e (inr h) = halted halt v h.0 (WalkE from w') h.1 h.2

    -- where nothing is told and nothing panics, the raw drop is not seen in the other run
    abbrev pub Unseen : Flags → Out State → State → Type 0
    Unseen flags (Go v) v' = Like local_ty flags v v'
    Unseen flags (Unwinds v) v' = ⊥
    Unseen flags (Halts halt v) v' = IsStuck halt

    -- a drop that is dead: its flags are cleared, and it goes on
    pub dead-Ends : (block line : ℕ) (place : graph.Place) (next : ℕ) (unwind : Unwind) (nextR : Next State)
        (line' : ℕ) (done : List PathAction) (w w' : State) (o : Out State) → AtHere done w w' →
        ((flags : Flags) (v' : State) → Like local_ty flags w v' → Unseen flags o v') →
        ((v : State) → (o ≡ Go v) ⊎ (o ≡ Unwinds v) → Leaves (at_line block line ((Drops, place) ∷ [])) done v) →
        ((v v' : State) → AtHere (done ++ at_line block line ((Drops, place) ∷ [])) v v' →
        P (nextR next v) (WalkE next v')) →
        P (acts (renamed unplaced o) nextR next unwind)
        (stmts_do q node line' (flags_of_uses items body flagged ((Drops, place) ∷ []) ++ [])
        (λ v. WalkE next v) w')
    dead-Ends block line place next unwind nextR line' done w w' o at unseen leaves goes =
        subst (P (acts (renamed unplaced o) nextR next unwind)) (sym a.does) (by o refl (unseen a.new a.v' a.like))
      where
        a : After items local_ty local_ty' extends number depth outer body flagged flag_ty flag_is added run' bound
            (done ++ at_line block line ((Drops, place) ∷ [])) (flags_of_uses items body flagged ((Drops, place) ∷ []))
            line' [] (λ v. WalkE next v) w w'
        a = uses-set items local_ty local_ty' extends number depth outer body flagged flag_ty flag_is
            added run' bound block line ((Drops, place) ∷ []) done line' [] (λ v. WalkE next v)
            at.flags w w' at.like at.deep at.number_is at.tell

        by : (x : Out State) → o ≡ x → Unseen a.new x a.v' → P (acts (renamed unplaced x) nextR next unwind)
            (WalkE next a.v')
        by (Go v) e h = let l = leaves v (inl e) in goes v a.v'
            (record {
              flags = a.new;
              like = h;
              tell = a.tell;
              deep = l.deep;
              number_is = l.number_is;
              few =
                  l.few;
              known = l.known;
            })
        by (Unwinds v) e h = absurd h
        by (Halts halt v) e h = stuck (unplaced halt) v _ (stuck-unplaced halt h)

    -- a drop that is plain: its flags are cleared, and the same drop does the same
    pub plain-Ends : (block line : ℕ) (place : graph.Place) (next : ℕ) (unwind : Unwind) (nextR : Next State)
        (line' : ℕ) (done : List PathAction) (w w' : State) (o : Out State) (strictly : State → Out State) →
        AtHere done w w' →
        ((flags : Flags) (v' : State) → Like local_ty flags w v' → Same local_ty (Like local_ty flags) o (strictly v'))
        →
        ((v : State) → (o ≡ Go v) ⊎ (o ≡ Unwinds v) → Leaves (at_line block line ((Drops, place) ∷ [])) done v) →
        ((v v' : State) → AtHere (done ++ at_line block line ((Drops, place) ∷ [])) v v' →
        P (nextR next v) (WalkE next v')) →
        ((v v' : State) → AtHere (done ++ at_line block line ((Drops, place) ∷ [])) v v' →
        P (unwinding unwind nextR v) (unwinding unwind WalkE v')) →
        P (acts (renamed unplaced o) nextR next unwind)
        (stmts_do q node line' (flags_of_uses items body flagged ((Drops, place) ∷ []) ++ [])
        (λ v. acts (renamed unplaced (strictly v)) WalkE next unwind) w')
    plain-Ends block line place next unwind nextR line' done w w' o strictly at same leaves goes panics =
        subst (P (acts (renamed unplaced o) nextR next unwind)) (sym a.does) (by o refl (same a.new a.v' a.like))
      where
        a : After items local_ty local_ty' extends number depth outer body flagged flag_ty flag_is added run' bound
            (done ++ at_line block line ((Drops, place) ∷ [])) (flags_of_uses items body flagged ((Drops, place) ∷ []))
            line' [] (λ v. acts (renamed unplaced (strictly v)) WalkE next unwind) w w'
        a = uses-set items local_ty local_ty' extends number depth outer body flagged flag_ty flag_is
            added run' bound block line ((Drops, place) ∷ []) done line' []
            (λ v. acts (renamed unplaced (strictly v)) WalkE next unwind) at.flags w w' at.like
            at.deep at.number_is at.tell

        by : (x : Out State) → o ≡ x → Same local_ty (Like local_ty a.new) x (strictly a.v') →
            P (acts (renamed unplaced x) nextR next unwind) (acts (renamed unplaced (strictly a.v')) WalkE next unwind)
        by (Go v) e h =
            let l = leaves v (inl e) in
            subst (P (nextR next v)) (sym (ap (λ x. acts (renamed unplaced x) WalkE next unwind) h.1))
            (goes v h.0 (record {
              flags = a.new;
              like = h.2;
              tell = a.tell;
              deep = l.deep;
              number_is =
                  l.number_is;
              few = l.few;
              known = l.known;
            }))
        by (Unwinds v) e h =
            let l = leaves v (inr e) in
            subst (P (unwinding unwind nextR v)) (sym (ap (λ x. acts (renamed unplaced x) WalkE next unwind) h.1))
            (panics v h.0 (record {
              flags = a.new;
              like = h.2;
              tell = a.tell;
              deep = l.deep;
              number_is =
                  l.number_is;
              few = l.few;
              known = l.known;
            }))
        by (Halts halt v) e (inl st) = stuck (unplaced halt) v _ (stuck-unplaced halt st)
        by (Halts halt v) e (inr h) = subst (P (Halts (unplaced halt) v))
            (sym (ap (λ x. acts (renamed unplaced x) WalkE next unwind) h.1)) (halts (unplaced halt) v h.0 h.2)
