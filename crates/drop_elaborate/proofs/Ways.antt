-- Along which edges a path goes on from a block, and what is done before the next one: on each edge that a run may
-- take.
use Rattle.std.proofs.Common.{◌≡◌, ◌⊎◌, inl, inr, ℕ, ◌==◌, nat_eq, ◌&&◌, ◌||◌, not, Bool, true, false, List, [], ◌∷◌, ◌++◌, map, flat_map, length, Some, if◌then◌else◌, slice_get, Contains, refl, ap, sym, ◌∙◌, subst}
use Rattle.std.specs.List.{list_any}
use Rattle.std.specs.Option.{option_map_or}
use Rattle.std.specs.Cmp.{first_so, second_so}
use Rattle.std.proofs.lemmas.Bool.{false≢true}
use Rattle.std.proofs.lemmas.Bool.Decides.{Decides-eqb}
use Rattle.mir_base.specs.declared.operator.Math.{Math}
use Rattle.mir_base.specs.declared.trace.Why.{Why}
use Rattle.mir_ty.proofs.ListLemmas.{Contains-slice_get}
use Rattle.mir_ty.specs.ItemTable.{ItemTable}
use Rattle.cfg_graph.specs.declared.graph.Block.{Block}
use Rattle.cfg_graph.specs.declared.graph.Body.{Body}
use Rattle.cfg_graph.specs.declared.place.Operand.{Operand}
use Rattle.cfg_graph.specs.declared.place.Place as graph
use Rattle.cfg_graph.specs.declared.terminator.Term.{Term}
use Rattle.cfg_graph.specs.declared.terminator.Unwind.{Unwind}
use Rattle.cfg_graph.specs.Edges.{ToBlock, onward, unwind_of, unwind_exit, unwind_block, unwind_targets, targets, is_cleanup}
use Rattle.cfg_graph.specs.Moves.Actions.{at_line, block_actions, actions_between}
use Rattle.cfg_graph.specs.Moves.Gone.{PathAction}
use Rattle.cfg_graph.specs.Moves.Paths.{PathWay, each_way, first_alone, second_alone, needs_dropping, ways}
use Rattle.cfg_graph.specs.Places.{place_id, ty_of_place}
use Rattle.cfg_graph.specs.Uses.{Stores, stored_by_term}
use Rattle.cfg_graph.specs.WellFormed.Cleanup.{are_cleanup, are_no_cleanup, keeps_cleanup, keeps_to_cleanup, is_resume, cleans_up}
use Rattle.store_model.specs.Places.TypeForms.{is_never}
use Rattle.drop_elaborate.proofs.PathGrows.{OnPath, grows, way-to, in-block, on-way, off-way}

module _ (items : ItemTable) (body : Body) where
  -- what stands after the next way
  abbrev pub After : ℕ → Block → List PathAction → List PathAction
  After n block acts =
      (acts ++ block_actions n block)
      ++ at_line n (length block.stmts) (map (λ place. (Stores, place)) (stored_by_term block.term))

  abbrev OnTo : ℕ → List PathAction → Type 0
  OnTo m acts = OnPath items body m acts

  module _ (n : ℕ) (block : Block) (at : slice_get body.blocks n ≡ Some block) (acts : List PathAction)
      (here : OnPath items body n acts) where
    -- by a way that leads there
    by-way : (m i : ℕ) (way : PathWay) → slice_get (ways items body block.term) i ≡ Some way → way.exit ≡ ToBlock m →
        OnTo m ((acts ++ block_actions n block) ++ actions_between body n m)
    by-way m i way there exit =
        let w = way-to items body n m block i way at there exit in
        subst (λ l. OnTo m ((acts ++ l) ++ actions_between body n m)) (in-block items body n block at)
        (grows items body n m acts w.0 way.choices here w.1)

    onward-by : (m i : ℕ) (way : PathWay) → slice_get (ways items body block.term) i ≡ Some way →
        way.exit ≡ ToBlock m → list_any (nat_eq m) (onward block.term) ≡ true → OnTo m (After n block acts)
    onward-by m i way there exit o =
        subst (λ l. OnTo m ((acts ++ block_actions n block) ++ l)) (on-way items body n m block at o)
        (by-way m i way there exit)

    same : (m : ℕ) → (m == m) ≡ true
    same m = (Decides-eqb m m).1 refl

    only-next : (m : ℕ) → list_any (nat_eq m) (m ∷ []) ≡ true
    only-next m = ap (λ b. b || false) (same m)

    nil : {A : Type 0} (l : List A) → l ++ [] ≡ l
    nil [] = refl
    nil (x ∷ l) = ap (λ l. x ∷ l) (nil l)

    -- where a panic leads: nothing is stored on that way
    unwinds-by : (m i : ℕ) (way : PathWay) → slice_get (ways items body block.term) i ≡ Some way →
        way.exit ≡ ToBlock m → list_any (nat_eq m) (onward block.term) ≡ false →
        OnTo m (acts ++ block_actions n block)
    unwinds-by m i way there exit o =
        subst (OnTo m) (nil (acts ++ block_actions n block))
        (subst (λ l. OnTo m ((acts ++ block_actions n block) ++ l)) (off-way items body n m block at o)
        (by-way m i way there exit))

    -- ---- onward

    pub goto-way : (m : ℕ) → block.term ≡ Term.Goto m → OnTo m (After n block acts)
    goto-way m e =
        onward-by m 0 (record { choices = []; exit = ToBlock m }) (ap (λ t. slice_get (ways items body t) 0) e) refl
        (ap (λ t. list_any (nat_eq m) (onward t)) e ∙ only-next m)

    pub if-way : (on : Operand) (y z m : ℕ) → block.term ≡ Term.If on y z → (m ≡ y) ⊎ (m ≡ z) →
        OnTo m (After n block acts)
    if-way on y z m e (inl q) =
        subst (λ m. OnTo m (After n block acts)) (sym q)
        (onward-by y 1 (record { choices = true ∷ []; exit = ToBlock y }) (ap (λ t. slice_get (ways items body t) 1)
        e) refl
        (ap (λ t. list_any (nat_eq y) (onward t)) e ∙ ap (λ b. (y == z) || (b || false)) (same y) ∙ or-true (y == z)))
      where
        or-true : (b : Bool) → (b || true) ≡ true
        or-true true = refl
        or-true false = refl
    if-way on y z m e (inr q) =
        subst (λ m. OnTo m (After n block acts)) (sym q)
        (onward-by z 0 (record { choices = false ∷ []; exit = ToBlock z }) (ap (λ t. slice_get (ways items body t) 0) e)
        refl (ap (λ t. list_any (nat_eq z) (onward t)) e ∙ ap (λ b. b || ((z == y) || false)) (same z)))

    pub case-way : (on : graph.Place) (variant y z m : ℕ) → block.term ≡ Term.Case on variant y z →
        (m ≡ y) ⊎ (m ≡ z) → OnTo m (After n block acts)
    case-way on variant y z m e (inl q) =
        subst (λ m. OnTo m (After n block acts)) (sym q)
        (onward-by y 1 (record { choices = true ∷ []; exit = ToBlock y }) (ap (λ t. slice_get (ways items body t) 1)
        e) refl
        (ap (λ t. list_any (nat_eq y) (onward t)) e ∙ ap (λ b. (y == z) || (b || false)) (same y) ∙ or-true (y == z)))
      where
        or-true : (b : Bool) → (b || true) ≡ true
        or-true true = refl
        or-true false = refl
    case-way on variant y z m e (inr q) =
        subst (λ m. OnTo m (After n block acts)) (sym q)
        (onward-by z 0 (record { choices = false ∷ []; exit = ToBlock z }) (ap (λ t. slice_get (ways items body t) 0) e)
        refl (ap (λ t. list_any (nat_eq z) (onward t)) e ∙ ap (λ b. b || ((z == y) || false)) (same z)))

    pub math-way : (to : graph.Place) (op : Math) (left right : Operand) (m : ℕ) (unwind : Unwind) → block.term ≡
        Term.Math to op left right m unwind → OnTo m (After n block acts)
    math-way to op left right m unwind e =
        onward-by m 0 (record { choices = false ∷ []; exit = ToBlock m }) (ap (λ t. slice_get (ways items body t) 0)
        e) refl
        (ap (λ t. list_any (nat_eq m) (onward t)) e ∙ only-next m)

    pub negate-way : (to : graph.Place) (of : Operand) (m : ℕ) (unwind : Unwind) → block.term ≡ Term.Negate to of m
        unwind → OnTo m (After n block acts)
    negate-way to of m unwind e =
        onward-by m 0 (record { choices = false ∷ []; exit = ToBlock m }) (ap (λ t. slice_get (ways items body t) 0)
        e) refl
        (ap (λ t. list_any (nat_eq m) (onward t)) e ∙ only-next m)

    pub bounds-way : (index : Operand) (count : ℕ) (m : ℕ) (unwind : Unwind) → block.term ≡ Term.Bounds index count m
        unwind → OnTo m (After n block acts)
    bounds-way index count m unwind e =
        onward-by m 0 (record { choices = false ∷ []; exit = ToBlock m }) (ap (λ t. slice_get (ways items body t) 0)
        e) refl
        (ap (λ t. list_any (nat_eq m) (onward t)) e ∙ only-next m)

    pub ask-way : (to : graph.Place) (m : ℕ) (unwind : Unwind) → block.term ≡ Term.Ask to m unwind → OnTo m (After n
        block acts)
    ask-way to m unwind e =
        onward-by m 0 (record { choices = false ∷ []; exit = ToBlock m }) (ap (λ t. slice_get (ways items body t) 0)
        e) refl
        (ap (λ t. list_any (nat_eq m) (onward t)) e ∙ only-next m)

    -- a call whose result has a value
    pub call-way : (to : graph.Place) (callee : ℕ) (args : List Operand) (m : ℕ) (unwind : Unwind) → block.term ≡
        Term.Call to callee args m unwind →
        is_never (ty_of_place items body.locals to) ≡ false → OnTo m (After n block acts)
    call-way to callee args m unwind e never =
        onward-by m 0 (record { choices = false ∷ []; exit = ToBlock m })
        (ap (λ t. slice_get (ways items body t) 0) e
        ∙ ap (λ b. slice_get (if b then second_alone (ToBlock m ∷ unwind_exit unwind ∷ []) else each_way (ToBlock m
        ∷ unwind_exit unwind ∷ [])) 0) never) refl
        (ap (λ t. list_any (nat_eq m) (onward t)) e ∙ only-next m)

    -- a call whose result has a value
    pub virtual-way : (to : graph.Place) (trait_no method : ℕ) (args : List Operand) (m : ℕ) (unwind : Unwind) →
        block.term ≡ Term.Virtual to trait_no method args m unwind →
        is_never (ty_of_place items body.locals to) ≡ false → OnTo m (After n block acts)
    virtual-way to trait_no method args m unwind e never =
        onward-by m 0 (record { choices = false ∷ []; exit = ToBlock m })
        (ap (λ t. slice_get (ways items body t) 0) e
        ∙ ap (λ b. slice_get (if b then second_alone (ToBlock m ∷ unwind_exit unwind ∷ []) else each_way (ToBlock m
        ∷ unwind_exit unwind ∷ [])) 0) never) refl
        (ap (λ t. list_any (nat_eq m) (onward t)) e ∙ only-next m)

    -- a drop goes on, whatever is dropped
    pub drop-way : (place : graph.Place) (m : ℕ) (unwind : Unwind) → block.term ≡ Term.DropAt place m unwind →
        OnTo m (After n block acts)
    drop-way place m unwind e = by (needs_dropping items (place_id items body.locals place)) refl
      where
        by : (b : Bool) → needs_dropping items (place_id items body.locals place) ≡ b → OnTo m (After n block acts)
        by true h =
            onward-by m 0 (record { choices = false ∷ []; exit = ToBlock m })
            (ap (λ t. slice_get (ways items body t) 0) e
            ∙ ap (λ b. slice_get (if b then each_way (ToBlock m ∷ unwind_exit unwind ∷ []) else first_alone (ToBlock m
            ∷ unwind_exit unwind ∷ [])) 0) h) refl
            (ap (λ t. list_any (nat_eq m) (onward t)) e ∙ only-next m)
        by false h =
            onward-by m 0 (record { choices = []; exit = ToBlock m })
            (ap (λ t. slice_get (ways items body t) 0) e
            ∙ ap (λ b. slice_get (if b then each_way (ToBlock m ∷ unwind_exit unwind ∷ []) else first_alone (ToBlock m
            ∷ unwind_exit unwind ∷ [])) 0) h) refl
            (ap (λ t. list_any (nat_eq m) (onward t)) e ∙ only-next m)

    -- ---- where a panic goes on

    -- unwinding leads to a cleanup block, and nothing else does
    apart-from : (m next : ℕ) (found : Block) → keeps_to_cleanup body block ≡ true → onward block.term ≡ next ∷ [] →
        unwind_targets block.term ≡ m ∷ [] → cleans_up block.term ≡ false → slice_get body.blocks m ≡ Some found →
        list_any (nat_eq m) (onward block.term) ≡ false
    apart-from m next found keeps on un cl there =
        ap (list_any (nat_eq m)) on ∙ by (is_cleanup block) keeps (m == next) refl
      where
        both : (b : Bool) → not b ≡ true → b ≡ true → ⊥
        both true n y = false≢true n
        both false n y = false≢true y

        by : (c : Bool) → keeps_cleanup c body block.term ≡ true → (b : Bool) → (m == next) ≡ b → (b || false) ≡ false
        by c k false e = refl
        by true k true e =
            absurd (false≢true (sym cl ∙ first_so (cleans_up block.term) (are_cleanup body (targets block.term)) k))
        by false k true e =
            let yes : is_cleanup found ≡ true =
            ap (λ o. option_map_or is_cleanup o true) (sym there)
            ∙ first_so (option_map_or is_cleanup (slice_get body.blocks m) true) true
            (ap (are_cleanup body) (sym un) ∙ second_so (not (is_resume block.term)
            && are_no_cleanup body (onward block.term)) (are_cleanup body (unwind_targets block.term)) k) in
            let none : not (is_cleanup found) ≡ true =
            ap (λ o. option_map_or (λ (b : Block). not (is_cleanup b)) o true) (sym there)
            ∙ ap (λ k. option_map_or (λ (b : Block). not (is_cleanup b)) (slice_get body.blocks k) true)
            ((Decides-eqb m next).0 e)
            ∙ first_so (option_map_or (λ (b : Block). not (is_cleanup b)) (slice_get body.blocks next) true) true
            (ap (are_no_cleanup body) (sym on) ∙ second_so (not (is_resume block.term))
            (are_no_cleanup body (onward block.term)) (first_so (not (is_resume block.term)
            && are_no_cleanup body (onward block.term)) (are_cleanup body (unwind_targets block.term)) k)) in
            absurd (both (is_cleanup found) none yes)

    module _ (keeps : keeps_to_cleanup body block ≡ true)
        (exists : (m : ℕ) → Contains (targets block.term) m → (found : Block) × (slice_get body.blocks m ≡ Some
        found)) where
      off : (m next : ℕ) → onward block.term ≡ next ∷ [] → unwind_of block.term ≡ Unwind.Block m ∷ [] →
          cleans_up block.term ≡ false → list_any (nat_eq m) (onward block.term) ≡ false
      off m next on un cl =
          let t : targets block.term ≡ next ∷ m ∷ [] =
          ap (λ l. l ++ unwind_targets block.term) on ∙ ap (λ l. (next ∷ []) ++ flat_map unwind_block l) un in
          let x = exists m (subst (λ l. Contains l m) (sym t) (Contains-slice_get (next ∷ m ∷ []) 1 m refl)) in
          apart-from m next x.0 keeps on (ap (flat_map unwind_block) un) cl x.1

      pub math-panics : (to : graph.Place) (op : Math) (left right : Operand) (next m : ℕ) → block.term ≡ Term.Math to
          op left right next (Unwind.Block m) →
          OnTo m (acts ++ block_actions n block)
      math-panics to op left right next m e =
          unwinds-by m 1 (record { choices = true ∷ []; exit = ToBlock m }) (ap (λ t. slice_get (ways items body t) 1)
          e)
          refl (off m next (ap onward e) (ap unwind_of e) (ap cleans_up e))

      pub negate-panics : (to : graph.Place) (of : Operand) (next m : ℕ) → block.term ≡ Term.Negate to of next
          (Unwind.Block m) →
          OnTo m (acts ++ block_actions n block)
      negate-panics to of next m e =
          unwinds-by m 1 (record { choices = true ∷ []; exit = ToBlock m }) (ap (λ t. slice_get (ways items body t) 1)
          e)
          refl (off m next (ap onward e) (ap unwind_of e) (ap cleans_up e))

      pub bounds-panics : (index : Operand) (count : ℕ) (next m : ℕ) → block.term ≡ Term.Bounds index count next
          (Unwind.Block m) →
          OnTo m (acts ++ block_actions n block)
      bounds-panics index count next m e =
          unwinds-by m 1 (record { choices = true ∷ []; exit = ToBlock m }) (ap (λ t. slice_get (ways items body t) 1)
          e)
          refl (off m next (ap onward e) (ap unwind_of e) (ap cleans_up e))

      pub ask-panics : (to : graph.Place) (next m : ℕ) → block.term ≡ Term.Ask to next (Unwind.Block m) →
          OnTo m (acts ++ block_actions n block)
      ask-panics to next m e =
          unwinds-by m 1 (record { choices = true ∷ []; exit = ToBlock m }) (ap (λ t. slice_get (ways items body t) 1)
          e)
          refl (off m next (ap onward e) (ap unwind_of e) (ap cleans_up e))

      pub call-panics : (to : graph.Place) (callee : ℕ) (args : List Operand) (next m : ℕ) →
          block.term ≡ Term.Call to callee args next (Unwind.Block m) → OnTo m (acts ++ block_actions n block)
      call-panics to callee args next m e = by (is_never (ty_of_place items body.locals to)) refl
        where
          o : list_any (nat_eq m) (onward block.term) ≡ false
          o = off m next (ap onward e) (ap unwind_of e) (ap cleans_up e)

          by : (b : Bool) → is_never (ty_of_place items body.locals to) ≡ b → OnTo m (acts ++ block_actions n block)
          by true h =
              unwinds-by m 0 (record { choices = true ∷ []; exit = ToBlock m })
              (ap (λ t. slice_get (ways items body t) 0) e
              ∙ ap (λ b. slice_get (if b then second_alone (ToBlock next ∷ ToBlock m ∷ []) else each_way (ToBlock next
              ∷ ToBlock m ∷ [])) 0) h) refl o
          by false h =
              unwinds-by m 1 (record { choices = true ∷ []; exit = ToBlock m })
              (ap (λ t. slice_get (ways items body t) 1) e
              ∙ ap (λ b. slice_get (if b then second_alone (ToBlock next ∷ ToBlock m ∷ []) else each_way (ToBlock next
              ∷ ToBlock m ∷ [])) 1) h) refl o

      pub virtual-panics : (to : graph.Place) (trait_no method : ℕ) (args : List Operand) (next m : ℕ) →
          block.term ≡ Term.Virtual to trait_no method args next (Unwind.Block m) → OnTo m (acts ++ block_actions n
          block)
      virtual-panics to trait_no method args next m e = by (is_never (ty_of_place items body.locals to)) refl
        where
          o : list_any (nat_eq m) (onward block.term) ≡ false
          o = off m next (ap onward e) (ap unwind_of e) (ap cleans_up e)

          by : (b : Bool) → is_never (ty_of_place items body.locals to) ≡ b → OnTo m (acts ++ block_actions n block)
          by true h =
              unwinds-by m 0 (record { choices = true ∷ []; exit = ToBlock m })
              (ap (λ t. slice_get (ways items body t) 0) e
              ∙ ap (λ b. slice_get (if b then second_alone (ToBlock next ∷ ToBlock m ∷ []) else each_way (ToBlock next
              ∷ ToBlock m ∷ [])) 0) h) refl o
          by false h =
              unwinds-by m 1 (record { choices = true ∷ []; exit = ToBlock m })
              (ap (λ t. slice_get (ways items body t) 1) e
              ∙ ap (λ b. slice_get (if b then second_alone (ToBlock next ∷ ToBlock m ∷ []) else each_way (ToBlock next
              ∷ ToBlock m ∷ [])) 1) h) refl o

      -- a drop panics where its place needs dropping
      pub drop-panics : (place : graph.Place) (next m : ℕ) → block.term ≡ Term.DropAt place next (Unwind.Block m) →
          needs_dropping items (place_id items body.locals place) ≡ true → OnTo m (acts ++ block_actions n block)
      drop-panics place next m e needs =
          unwinds-by m 1 (record { choices = true ∷ []; exit = ToBlock m })
          (ap (λ t. slice_get (ways items body t) 1) e
          ∙ ap (λ b. slice_get (if b then each_way (ToBlock next ∷ ToBlock m ∷ []) else first_alone (ToBlock next
          ∷ ToBlock m ∷ [])) 1) needs) refl (off m next (ap onward e) (ap unwind_of e) (ap cleans_up e))

      pub panic-panics : (why : Why) (m : ℕ) → block.term ≡ Term.Panic why (Unwind.Block m) →
          OnTo m (acts ++ block_actions n block)
      panic-panics why m e =
          unwinds-by m 0 (record { choices = []; exit = ToBlock m }) (ap (λ t. slice_get (ways items body t) 0) e) refl
          (ap (λ t. list_any (nat_eq m) (onward t)) e)
