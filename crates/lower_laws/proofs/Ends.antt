-- A path of a lowered body reaches no bad use behind a copy or a store of a value of type `!`. So runs reach what paths reach;
-- and where nothing is reached, no path meets a bad use.
use Rattle.std.proofs.Common.{◌≡◌, inl, inr, ℕ, zero, suc, ◌||◌, Bool, true, false, List, [], ◌∷◌, ◌++◌, length, map, Option, Some, None, slice_get, Contains, if◌then◌else◌, refl, sym, ap, subst, ◌∙◌}
use Rattle.std.specs.Prelude.{nat_eq}
use Rattle.std.specs.List.{list_any, list_all}
use Rattle.std.specs.Option.{option_map_or}
use Rattle.std.specs.Cmp.{second_so}
use Rattle.std.proofs.lemmas.Bool.{false≢true, eqb-true}
use Rattle.std.proofs.lemmas.Option.{none-some, same_Some}
use Rattle.std.proofs.lemmas.List.{append-nil, append_assoc, append_cancel_left, append_cancel_right}
use Rattle.mir_base.specs.declared.int_kind.IntKind.{IntKind}
use Rattle.mir_ty.specs.declared.ty.Ty.{Ty}
use Rattle.mir_ty.specs.ItemTable.{ItemTable}
use Rattle.store_model.specs.Places.TypeForms.{is_int, same_int}
use Rattle.cfg_graph.specs.declared.graph.Block.{Block}
use Rattle.cfg_graph.specs.declared.graph.Body.{Body}
use Rattle.cfg_graph.specs.declared.graph.Kind.{Kind}
use Rattle.cfg_graph.specs.declared.place.Place.{Place}
use Rattle.cfg_graph.specs.declared.terminator.Term.{Term}
use Rattle.cfg_graph.specs.declared.terminator.Unwind.{Unwind}
use Rattle.cfg_graph.specs.Edges.{BlockExit, ToBlock, LeavesBody, is_turn, is_turn_kind, onward, unwind_exit, unwind_targets}
use Rattle.cfg_graph.specs.Places.{ty_of_place, ty_of_operand}
use Rattle.cfg_graph.specs.Uses.{Stores, stored_by_term, term_uses}
use Rattle.cfg_graph.specs.WellFormed.Typing.{stmt_is_typed, term_is_typed, term_has_types}
use Rattle.cfg_graph.specs.Moves.Actions.{actions_on}
use Rattle.cfg_graph.specs.Moves.BadUses.{BadUse}
use Rattle.cfg_graph.specs.Moves.Gone.{PathAction, is_param}
use Rattle.cfg_graph.specs.Moves.Paths.{PathWay, ways, IsPath}
use Rattle.init_flow.specs.Carried.{last_of}
use Rattle.init_flow.proofs.Along.{actions_in, actions_between, came, came-is}
use Rattle.move_errors.proofs.Pathways.{ends as path-ends, in-flat, in-map, map-in, along, entry_choices, choices_between, between-way, way-between, path-snoc, actions-snoc}
use Rattle.move_errors.proofs.Sorted.{here, none-in, first-or}
use Rattle.move_errors.specs.Reaches.{first_bad, Reaches, MeetsNone}
use Rattle.lower_laws.specs.Given.{GivesBeforeBad, up_to_block, by_way_out}
use Rattle.lower_laws.specs.Meets.{PanicsLeadElsewhere, before_bad, RunsReach, in_block, on_way}
use Rattle.lower_laws.proofs.Lines.{at_line, stmt_actions}
use Rattle.lower_laws.proofs.Performing.{none-first, none-rest, none-of-both, some-rest}
use Rattle.lower_rules.specs.Build.{LoweringFrame}
use Rattle.lower_rules.proofs.Stops.{BlockStops}
use Rattle.lower_laws.proofs.Clean.{none-after}
use Rattle.lower_laws.proofs.Stopping.{untrue, made, ends_any, Comes, meets, clear, stops, calm, then_comes, bad_first, calm_line, block_comes, never_at}

abbrev Out : BlockExit → List Bool → PathWay
Out exit choices = record { choices = choices; exit = exit }

only : (w x : PathWay) → Contains (w ∷ []) x → w ≡ x
only w x has = elim (first-or x w [] has) [ inl same ↦ same | inr later ↦ absurd (none-in x later) ]

abbrev block_or : BlockExit → ℕ → ℕ
block_or (ToBlock n) d = n
block_or LeavesBody d = d

same_block : (a b : ℕ) → ToBlock a ≡ ToBlock b → a ≡ b
same_block a b e = ap (λ (x : BlockExit). block_or x 0) e

abbrev leaves : BlockExit → Bool
leaves (ToBlock n) = false
leaves LeavesBody = true

-- both ways of a call
abbrev each : ℕ → Unwind → List PathWay
each next unwind = Out (ToBlock next) (false ∷ []) ∷ Out (unwind_exit unwind) (true ∷ []) ∷ []

-- the way of a panic leads to the block of unwinding
unwinds_to : (unwind : Unwind) (m : ℕ) (call : Unwind → Term) → ((k : ℕ) → unwind_targets (call (Unwind.Block k)) ≡ k ∷ []) → unwind_exit unwind ≡ ToBlock m → Contains (unwind_targets (call unwind)) m
unwinds_to (Unwind.Block k) m call is e = subst (λ (xs : List ℕ). Contains xs m) (sym (is k)) (subst (λ (z : ℕ). Contains (z ∷ []) m) (sym (same_block k m e)) (here m []))
unwinds_to Unwind.Resume m call is e = absurd (false≢true (sym (ap leaves e)))
unwinds_to Unwind.Abort m call is e = absurd (false≢true (sym (ap leaves e)))

same_int_never : (o : Option Ty) → same_int o (Some Ty.Never) ≡ false
same_int_never None = refl
same_int_never (Some Ty.Never) = refl
same_int_never (Some other) = refl

module _ (items : ItemTable) (body : Body) where
  -- ---- the store of a result, on a way of a path
  abbrev result : Bool → (n line : ℕ) → Term → List PathAction
  result b n line term = if b then at_line n line (map (λ place. (Stores, place)) (stored_by_term term)) else []

  nothing_stored : (b : Bool) (n line : ℕ) (term : Term) → stored_by_term term ≡ [] → ends_any items body (result b n line term) ≡ false
  nothing_stored true n line term e = ap (λ (places : List Place). ends_any items body (at_line n line (map (λ place. (Stores, place)) places))) e
  nothing_stored false n line term e = refl

  one_stored : (b : Bool) (n line : ℕ) (term : Term) (to : Place) → stored_by_term term ≡ to ∷ [] → never_at items body to ≡ false → ends_any items body (result b n line term) ≡ false
  one_stored true n line term to e fine = ap (λ (places : List Place). ends_any items body (at_line n line (map (λ place. (Stores, place)) places))) e ∙ calm_line items body n line ((Stores, to) ∷ []) (fine, tt)
  one_stored false n line term to e fine = refl

  -- a call with a result of type `!` does not return
  of_call : (n line m next : ℕ) (term : Term) (to : Place) (given : List Bool) (unwind : Unwind) → stored_by_term term ≡ to ∷ [] → onward term ≡ next ∷ [] →
      (Contains (onward term) m → Contains (unwind_targets term) m → ⊥) → (never_at items body to ≡ true → unwind_exit unwind ≡ ToBlock m → Contains (unwind_targets term) m) →
      (never_at items body to ≡ true → unwind_exit unwind ≡ ToBlock m) → ends_any items body (result (list_any (nat_eq m) (onward term)) n line term) ≡ false
  of_call n line m next term to given unwind stored leads apart unwound back = by (never_at items body to) refl
    where
      by : (b : Bool) → never_at items body to ≡ b → ends_any items body (result (list_any (nat_eq m) (onward term)) n line term) ≡ false
      by false e = one_stored (list_any (nat_eq m) (onward term)) n line term to stored e
      by true e = is (list_any (nat_eq m) (onward term)) refl
        where
          is : (c : Bool) → list_any (nat_eq m) (onward term) ≡ c → ends_any items body (result c n line term) ≡ false
          is false d = refl
          is true d = absurd (apart (subst (λ (xs : List ℕ). Contains xs m) (sym leads) (subst (λ (z : ℕ). Contains (z ∷ []) m) (either (nat_eq m next) refl) (here m []))) (unwound e (back e)))
            where
              either : (c : Bool) → nat_eq m next ≡ c → m ≡ next
              either true f = eqb-true m next f
              either false f = absurd (untrue (sym (ap (λ (c : Bool). c || false) f) ∙ sym (ap (λ (xs : List ℕ). list_any (nat_eq m) xs) leads) ∙ d))

  -- the way of a call into a place of type `!`
  call_back : (to : Place) (next m : ℕ) (given : List Bool) (unwind : Unwind) (term : Term) → ways items body term ≡ (if never_at items body to then Out (unwind_exit unwind) (true ∷ []) ∷ [] else each next unwind) → Contains (ways items body term) (Out (ToBlock m) given) →
      never_at items body to ≡ true → unwind_exit unwind ≡ ToBlock m
  call_back to next m given unwind term are way e =
      ap (λ (w : PathWay). w.exit) (only (Out (unwind_exit unwind) (true ∷ [])) (Out (ToBlock m) given)
      (subst (λ (ws : List PathWay). Contains ws (Out (ToBlock m) given)) (are ∙ ap (λ (b : Bool). if b then Out (unwind_exit unwind) (true ∷ []) ∷ [] else each next unwind) e) way))

  term_stores : (n line m : ℕ) (term : Term) → term_has_types items body.locals term ≡ true → (Contains (onward term) m → Contains (unwind_targets term) m → ⊥) → (given : List Bool) → Contains (ways items body term) (Out (ToBlock m) given) →
      ends_any items body (result (list_any (nat_eq m) (onward term)) n line term) ≡ false
  term_stores n line m (Term.Math to op left right next unwind) h apart given way =
      one_stored (list_any (nat_eq m) (onward (Term.Math to op left right next unwind))) n line (Term.Math to op left right next unwind) to refl
      (made (ty_of_place items body.locals to) (same_int (ty_of_operand items body.locals left)) (same_int_never (ty_of_operand items body.locals left)) (second_so _ (same_int (ty_of_operand items body.locals left) (ty_of_place items body.locals to)) h))
  term_stores n line m (Term.Negate to of next unwind) h apart given way =
      one_stored (list_any (nat_eq m) (onward (Term.Negate to of next unwind))) n line (Term.Negate to of next unwind) to refl
      (made (ty_of_place items body.locals to) (same_int (ty_of_operand items body.locals of)) (same_int_never (ty_of_operand items body.locals of)) (second_so _ (same_int (ty_of_operand items body.locals of) (ty_of_place items body.locals to)) h))
  term_stores n line m (Term.Call to callee args next unwind) h apart given way =
      of_call n line m next (Term.Call to callee args next unwind) to given unwind refl refl apart (λ e. unwinds_to unwind m (λ u. Term.Call to callee args next u) (λ k. refl)) (call_back to next m given unwind (Term.Call to callee args next unwind) refl way)
  term_stores n line m (Term.Virtual to trait_no method args next unwind) h apart given way =
      of_call n line m next (Term.Virtual to trait_no method args next unwind) to given unwind refl refl apart (λ e. unwinds_to unwind m (λ u. Term.Virtual to trait_no method args next u) (λ k. refl)) (call_back to next m given unwind (Term.Virtual to trait_no method args next unwind) refl way)
  term_stores n line m (Term.Ask to next unwind) h apart given way =
      one_stored (list_any (nat_eq m) (onward (Term.Ask to next unwind))) n line (Term.Ask to next unwind) to refl (made (ty_of_place items body.locals to) (is_int IntKind.I32) refl h)
  term_stores n line m other h apart given way = nothing_stored (list_any (nat_eq m) (onward other)) n line other refl

  -- where nothing is reached, nothing is met
  module _ (never : (path : List ℕ) (given : List Bool) (bad : BadUse) → Reaches items body path given bad → ⊥) where
    no_bad : (o : Option BadUse) → ((bad : BadUse) → o ≡ Some bad → ⊥) → o ≡ None
    no_bad None h = refl
    no_bad (Some bad) h = absurd (h bad refl)

    here_none : (front : List ℕ) (n : ℕ) (given : List Bool) → IsPath items body (front ++ n ∷ []) given → (earlier : List PathAction) → actions_on body (front ++ n ∷ []) ≡ earlier ++ actions_on body (n ∷ []) →
        first_bad items body [] earlier ≡ None → first_bad items body [] (actions_on body (front ++ n ∷ [])) ≡ None
    here_none front n given is earlier before none =
        ap (first_bad items body []) before ∙ some-rest items body [] earlier (actions_on body (n ∷ [])) none
        ∙ no_bad (first_bad items body earlier (actions_on body (n ∷ []))) (λ bad e. never (front ++ n ∷ []) given bad
        (inl (record { front = front; last = n; path_is = refl; is_path = is; earlier = earlier; before = before; none = none; first = e })))

    walked : (rest front : List ℕ) (n : ℕ) (given : List Bool) → IsPath items body (front ++ n ∷ []) given → (earlier : List PathAction) → actions_on body (front ++ n ∷ []) ≡ earlier ++ actions_on body (n ∷ []) →
        first_bad items body [] earlier ≡ None → (more : List Bool) → Contains (along items body n rest) more → first_bad items body [] (actions_on body (front ++ n ∷ rest)) ≡ None
    walked [] front n given is earlier before none more has = here_none front n given is earlier before none
    walked (m ∷ rest) front n given is earlier before none more has =
        let one = in-flat (λ given. map (λ rest. given ++ entry_choices items body m ++ rest) (along items body m rest)) (choices_between items body n m) more has in
        let two = in-map (λ (rest : List Bool). one.0 ++ entry_choices items body m ++ rest) (along items body m rest) more one.2 in
        let way = between-way items body n m one.0 one.1 in
        let clean = here_none front n given is earlier before none in
        let stored = no_bad (first_bad items body (actions_on body (front ++ n ∷ [])) (actions_between body n m)) (λ bad e. never (front ++ n ∷ []) (given ++ one.0) bad
        (inr (record {
          front = front;
          last = n;
          path_is = refl;
          before = given;
          is_path = is;
          none = clean;
          next = m;
          choices = one.0;
          block = way.0;
          there = way.1;
          way = way.2;
          given_is = refl;
          stored = actions_between body n m;
          stores = refl;
          first = e;
        }))) in
        subst (λ (path : List ℕ). first_bad items body [] (actions_on body path) ≡ None) (append_assoc front (n ∷ []) (m ∷ rest))
        (walked rest (front ++ n ∷ []) m ((given ++ one.0) ++ entry_choices items body m) (path-snoc items body (front ++ n ∷ []) front n m given one.0 refl is one.1)
        (actions_on body (front ++ n ∷ []) ++ actions_between body n m) (actions-snoc body front n m) (some-rest items body [] (actions_on body (front ++ n ∷ [])) (actions_between body n m) clean ∙ stored) two.0 two.1)

    none_met : (path : List ℕ) (given : List Bool) → IsPath items body path given → first_bad items body [] (actions_on body path) ≡ None
    none_met [] given is = absurd (none-in given is)
    none_met (suc n ∷ rest) given is = absurd (none-in given is)
    none_met (zero ∷ rest) given is =
        let it = in-map (λ (rest : List Bool). entry_choices items body 0 ++ rest) (along items body 0 rest) given is in
        walked rest [] 0 (entry_choices items body 0 ++ []) (map-in (λ (rest : List Bool). entry_choices items body 0 ++ rest) ([] ∷ []) [] (here [] [])) [] refl refl it.0 it.1

    pub meets_none : MeetsNone items body
    meets_none path given is = none-after items body path (none_met path given is)

  -- a list that a path gives is given without a value of type `!` before
  pub data GivesCalmly (list : List Bool) : Type 0 where
    calm_to : (front : List ℕ) (last : ℕ) (earlier : List PathAction) → IsPath items body (front ++ last ∷ []) list →
        actions_on body (front ++ last ∷ []) ≡ earlier ++ actions_on body (last ∷ []) → first_bad items body [] earlier ≡ None →
        ends_any items body earlier ≡ false → GivesCalmly list
    calm_by : (front : List ℕ) (last : ℕ) (before : List Bool) (block : Block) (way : PathWay) (earlier : List PathAction) → IsPath items body (front ++ last ∷ []) before →
        actions_on body (front ++ last ∷ []) ≡ earlier ++ actions_on body (last ∷ []) → first_bad items body [] earlier ≡ None → ends_any items body earlier ≡ false →
        first_bad items body earlier (actions_in body last) ≡ None → ends_any items body (actions_in body last) ≡ false →
        slice_get body.blocks last ≡ Some block → Contains (ways items body block.term) way → list ≡ before ++ way.choices → GivesCalmly list

  -- ---- along a path of a lowered body
  module _ (f : LoweringFrame) (own : ℕ → Type 0) (same_items : f.items ≡ items) (same_tys : f.tys ≡ body.locals) (owned : (key : ℕ) → own key → is_param items body (f.local_of key) ≡ false)
      (stop : (n : ℕ) (block : Block) → slice_get body.blocks n ≡ Some block → BlockStops f own block.stmts block.term)
      (typed : (n : ℕ) (block : Block) → slice_get body.blocks n ≡ Some block → (list_all (stmt_is_typed items body.locals) block.stmts ≡ true) × (term_is_typed items body.locals block.term ≡ true))
      (elsewhere : PanicsLeadElsewhere body) (rank : ℕ) (kind : Kind) (returns : slice_get body.blocks 1 ≡ Some (record { kind = kind; rank = rank; stmts = []; term = Term.Return })) where
    abbrev block_actions : ℕ → Option Block → List PathAction
    block_actions n o = option_map_or (λ block. stmt_actions n 0 block.stmts ++ at_line n (length block.stmts) (term_uses block.term)) o []

    in_this : (n : ℕ) (block : Block) → slice_get body.blocks n ≡ Some block → (earlier : List PathAction) → ends_any items body earlier ≡ false → Comes items body (block.term ≡ Term.Goto 1) earlier (actions_in body n)
    in_this n block at earlier none =
        let types = typed n block at in
        subst (λ (o : Option Block). Comes items body (block.term ≡ Term.Goto 1) earlier (block_actions n o)) (sym at)
        (block_comes items body f own same_items same_tys owned block.stmts block.term earlier none n 0 (length block.stmts) (stop n block at) types.0 types.1)

    on_a_way : (n m : ℕ) (block : Block) → slice_get body.blocks n ≡ Some block → (given : List Bool) → Contains (ways items body block.term) (Out (ToBlock m) given) → ends_any items body (actions_between body n m) ≡ false
    on_a_way n m block at given way =
        subst (λ (o : Option Block). ends_any items body (option_map_or (λ block. result (list_any (nat_eq m) (onward block.term)) n (length block.stmts) block.term) o []) ≡ false) (sym at)
        (term_stores n (length block.stmts) m block.term (second_so _ (term_has_types items body.locals block.term) (typed n block at).1) (elsewhere n m block at) given way)

    -- behind the block that returns there is nothing
    returned : (m : ℕ) → m ≡ 1 → (rest : List ℕ) (more : List Bool) → Contains (along items body m rest) more → (earlier : List PathAction) → first_bad items body earlier (actions_on body (m ∷ rest)) ≡ None
    returned m is rest more has earlier = subst (λ (m : ℕ). Contains (along items body m rest) more → first_bad items body earlier (actions_on body (m ∷ rest)) ≡ None) (sym is) (by rest) has
      where
        by : (rest : List ℕ) → Contains (along items body 1 rest) more → first_bad items body earlier (actions_on body (1 ∷ rest)) ≡ None
        by [] has = ap (λ (o : Option Block). first_bad items body earlier (block_actions 1 o)) returns
        by (k ∷ rest) has =
            let one = in-flat (λ given. map (λ rest. given ++ entry_choices items body k ++ rest) (along items body k rest)) (choices_between items body 1 k) more has in
            let way = between-way items body 1 k one.0 one.1 in
            absurd (none-in (Out (ToBlock k) one.0) (subst (λ (block : Block). Contains (ways items body block.term) (Out (ToBlock k) one.0)) (sym (same_Some (record { kind = kind; rank = rank; stmts = []; term = Term.Return }) way.0 (sym returns ∙ way.1))) way.2))

    stopped : (n m : ℕ) (block : Block) → slice_get body.blocks n ≡ Some block → block.term ≡ Term.Goto 1 → (given : List Bool) → Contains (ways items body block.term) (Out (ToBlock m) given) → (m ≡ 1) × (actions_between body n m ≡ [])
    stopped n m block at goto given way = (
      sym (same_block 1 m (ap (λ (w : PathWay). w.exit) (only (Out (ToBlock 1) []) (Out (ToBlock m) given) (subst (λ (term : Term). Contains (ways items body term) (Out (ToBlock m) given)) goto way)))),
      ap (λ (o : Option Block). option_map_or (λ block. result (list_any (nat_eq m) (onward block.term)) n (length block.stmts) block.term) o []) at
          ∙ (λ i. result (list_any (nat_eq m) (onward block.term)) n (length block.stmts) (goto i)) ∙ nothing (list_any (nat_eq m) (onward block.term)),
    )
      where
        nothing : (b : Bool) → result b n (length block.stmts) (Term.Goto 1) ≡ []
        nothing true = refl
        nothing false = refl

    wide : {stop : Type 0} (earlier acts : List PathAction) → Comes items body stop earlier acts → Comes items body (Unit {0}) earlier acts
    wide earlier acts (meets bad is before) = meets bad is before
    wide earlier acts (clear is none) = clear is none
    wide earlier acts (stops is s) = stops is tt

    comes : (rest : List ℕ) (n : ℕ) (earlier : List PathAction) → ends_any items body earlier ≡ false → (more : List Bool) → Contains (along items body n rest) more → Comes items body (Unit {0}) earlier (actions_on body (n ∷ rest))
    comes [] n earlier none more has = by (slice_get body.blocks n) refl
      where
        by : (o : Option Block) → slice_get body.blocks n ≡ o → Comes items body (Unit {0}) earlier (actions_in body n)
        by None e = subst (λ (o : Option Block). Comes items body (Unit {0}) earlier (block_actions n o)) (sym e) (clear refl refl)
        by (Some block) e = wide earlier (actions_in body n) (in_this n block e earlier none)
    comes (m ∷ rest) n earlier none more has =
        let one = in-flat (λ given. map (λ rest. given ++ entry_choices items body m ++ rest) (along items body m rest)) (choices_between items body n m) more has in
        let two = in-map (λ (rest : List Bool). one.0 ++ entry_choices items body m ++ rest) (along items body m rest) more one.2 in
        let way = between-way items body n m one.0 one.1 in
        let both = then_comes items body earlier (actions_in body n) (actions_between body n m) none (in_this n way.0 way.1 earlier none)
        (λ still. calm items body (earlier ++ actions_in body n) (actions_between body n m) (on_a_way n m way.0 way.1 one.0 way.2))
        (λ goto. (ap (first_bad items body (earlier ++ actions_in body n)) (stopped n m way.0 way.1 goto one.0 way.2).1, goto)) in
        then_comes items body earlier (actions_in body n ++ actions_between body n m) (actions_on body (m ∷ rest)) none both
        (λ still. comes rest m (earlier ++ (actions_in body n ++ actions_between body n m)) still two.0 two.1)
        (λ goto. (returned m (stopped n m way.0 way.1 goto one.0 way.2).0 rest two.0 two.1 (earlier ++ (actions_in body n ++ actions_between body n m)), tt))

    of_path : (path : List ℕ) (given : List Bool) → IsPath items body path given → Comes items body (Unit {0}) [] (actions_on body path)
    of_path [] given is = absurd (none-in given is)
    of_path (suc n ∷ rest) given is = absurd (none-in given is)
    of_path (zero ∷ rest) given is =
        let it = in-map (λ (rest : List Bool). entry_choices items body 0 ++ rest) (along items body 0 rest) given is in
        comes rest 0 [] refl it.0 it.1

    -- Along a path to its last block, before which no value of type `!` is copied or stored; or to the block before that
    -- one, where it is the block that returns.
    data Calm (last : ℕ) (tail : List PathAction) (list : List Bool) : Type 0 where
      arrives : (front : List ℕ) (earlier : List PathAction) → IsPath items body (front ++ last ∷ []) list →
          actions_on body (front ++ last ∷ []) ≡ earlier ++ actions_on body (last ∷ []) → first_bad items body [] earlier ≡ None →
          ends_any items body earlier ≡ false → first_bad items body earlier tail ≡ None → Calm last tail list
      returns_next : (front : List ℕ) (n : ℕ) (earlier : List PathAction) → last ≡ 1 → IsPath items body (front ++ n ∷ []) list →
          actions_on body (front ++ n ∷ []) ≡ earlier ++ actions_on body (n ∷ []) → first_bad items body [] earlier ≡ None →
          ends_any items body earlier ≡ false → Calm last tail list

    no_entry : kind ≡ Kind.Plain → entry_choices items body 1 ≡ []
    no_entry plain = ap (λ (o : Option Block). zero_if (option_map_or is_turn o false)) returns ∙ ap (λ (k : Kind). zero_if (is_turn_kind k)) plain
      where
        zero_if : Bool → List Bool
        zero_if true = false ∷ []
        zero_if false = []

    module _ (plain : kind ≡ Kind.Plain) (tail : List PathAction) where
      -- from the block that returns no way leads on
      ends_there : (m : ℕ) → m ≡ 1 → (rest : List ℕ) (more : List Bool) → Contains (along items body m rest) more → (rest ≡ []) × (more ≡ [])
      ends_there m is [] more has = (refl, elim (first-or more [] [] has) [ inl same ↦ sym same | inr stop ↦ absurd (none-in more stop) ])
      ends_there m is (k ∷ rest) more has =
          let one = in-flat (λ given. map (λ rest. given ++ entry_choices items body k ++ rest) (along items body k rest)) (choices_between items body m k) more has in
          let way = between-way items body m k one.0 one.1 in
          absurd (none-in (Out (ToBlock k) one.0) (subst (λ (block : Block). Contains (ways items body block.term) (Out (ToBlock k) one.0))
          (sym (same_Some (record { kind = kind; rank = rank; stmts = []; term = Term.Return }) way.0 (sym returns ∙ ap (slice_get body.blocks) (sym is) ∙ way.1))) way.2))

      calm_from : (rest front : List ℕ) (n : ℕ) (given : List Bool) → IsPath items body (front ++ n ∷ []) given → (earlier : List PathAction) →
          actions_on body (front ++ n ∷ []) ≡ earlier ++ actions_on body (n ∷ []) → first_bad items body [] earlier ≡ None → ends_any items body earlier ≡ false →
          (more : List Bool) → Contains (along items body n rest) more → first_bad items body earlier (came body n rest ++ tail) ≡ None →
          Calm (last_of n rest) tail (given ++ more)
      calm_from [] front n given is earlier before none lasts more has clean =
          subst (Calm n tail) (sym (append-nil given) ∙ ap (λ (z : List Bool). given ++ z) (elim (first-or more [] [] has) [ inl same ↦ same | inr stop ↦ absurd (none-in more stop) ]))
          (arrives front earlier is before none lasts clean)
      calm_from (m ∷ rest) front n given is earlier before none lasts more has clean =
          let one = in-flat (λ given. map (λ rest. given ++ entry_choices items body m ++ rest) (along items body m rest)) (choices_between items body n m) more has in
          let two = in-map (λ (rest : List Bool). one.0 ++ entry_choices items body m ++ rest) (along items body m rest) more one.2 in
          let way = between-way items body n m one.0 one.1 in
          by_block one.0 two.0 way.0 way.1 way.2 one.1 two.1 two.2 (λ given is earlier before none lasts clean. calm_from rest (front ++ n ∷ []) m given is earlier before none lasts two.0 two.1 clean)
          (in_this n way.0 way.1 earlier lasts)
        where
          both : List PathAction
          both = actions_in body n ++ actions_between body n m

          -- what is done on the rest of the path, block by block
          parts : (came body n (m ∷ rest) ++ tail) ≡ both ++ (came body m rest ++ tail)
          parts = append_assoc both (came body m rest) tail

          clean_parts : first_bad items body earlier (both ++ (came body m rest ++ tail)) ≡ None
          clean_parts = ap (first_bad items body earlier) (sym parts) ∙ clean

          clean_both : first_bad items body earlier both ≡ None
          clean_both = none-first items body earlier both (came body m rest ++ tail) clean_parts

          clean_block : first_bad items body earlier (actions_in body n) ≡ None
          clean_block = none-first items body earlier (actions_in body n) (actions_between body n m) clean_both

          by_block : (choices later : List Bool) (block : Block) → slice_get body.blocks n ≡ Some block → Contains (ways items body block.term) (Out (ToBlock m) choices) →
              Contains (choices_between items body n m) choices → Contains (along items body m rest) later → choices ++ entry_choices items body m ++ later ≡ more →
              ((given : List Bool) → IsPath items body ((front ++ n ∷ []) ++ m ∷ []) given → (earlier : List PathAction) →
              actions_on body ((front ++ n ∷ []) ++ m ∷ []) ≡ earlier ++ actions_on body (m ∷ []) → first_bad items body [] earlier ≡ None → ends_any items body earlier ≡ false →
              first_bad items body earlier (came body m rest ++ tail) ≡ None → Calm (last_of m rest) tail (given ++ later)) →
              Comes items body (block.term ≡ Term.Goto 1) earlier (actions_in body n) → Calm (last_of m rest) tail (given ++ more)
          by_block choices later block there way between rest_so whole again (meets bad some free) = absurd (none-some bad (sym clean_block ∙ some))
          by_block choices later block there way between rest_so whole again (clear fine free) =
              subst (Calm (last_of m rest) tail) (grouped ∙ ap (λ (z : List Bool). given ++ z) whole)
              (again ((given ++ choices) ++ entry_choices items body m) (path-snoc items body (front ++ n ∷ []) front n m given choices refl is between)
              (earlier ++ both)
              (actions-snoc body front n m ∙ ap (λ (z : List PathAction). (z ++ actions_between body n m) ++ actions_on body (m ∷ [])) before
              ∙ ap (λ (z : List PathAction). z ++ actions_on body (m ∷ [])) (append_assoc earlier (actions_in body n) (actions_between body n m)))
              (some-rest items body [] earlier both none ∙ clean_both)
              (none_of_three (on_a_way n m block there choices way))
              (none-rest items body earlier both (came body m rest ++ tail) clean_parts))
            where
              grouped : ((given ++ choices) ++ entry_choices items body m) ++ later ≡ given ++ (choices ++ entry_choices items body m ++ later)
              grouped =
                  append_assoc (given ++ choices) (entry_choices items body m) later ∙ append_assoc given choices (entry_choices items body m ++ later)
                  ∙ ap (λ (z : List Bool). given ++ z) (sym (append_assoc choices (entry_choices items body m) later))

              none_of_three : ends_any items body (actions_between body n m) ≡ false → ends_any items body (earlier ++ both) ≡ false
              none_of_three on_the_way =
                  none-of-both items body (λ block line. 0) earlier both lasts
                  (none-of-both items body (λ block line. 0) (actions_in body n) (actions_between body n m) free on_the_way)
          by_block choices later block there way between rest_so whole again (stops fine goto) =
              let next = stopped n m block there goto choices way in
              let nothing = ends_there m next.0 rest later rest_so in
              let none_taken : choices ≡ [] =
              ap (λ (w : PathWay). w.choices) (sym (only (Out (ToBlock 1) []) (Out (ToBlock m) choices) (subst (λ (term : Term). Contains (ways items body term) (Out (ToBlock m) choices)) goto way))) in
              subst (Calm (last_of m rest) tail)
              (sym (append-nil given) ∙ ap (λ (z : List Bool). given ++ z)
              ((λ i. sym none_taken i ++ (sym (no_entry plain) ∙ ap (entry_choices items body) (sym next.0)) i ++ sym nothing.1 i) ∙ whole))
              (returns_next front n earlier (ap (last_of m) nothing.0 ∙ next.0) is before none lasts)

    module _ (plain : kind ≡ Kind.Plain) where
      last_is : (front rest : List ℕ) (last : ℕ) → 0 ∷ rest ≡ front ++ last ∷ [] → last_of 0 rest ≡ last
      last_is front rest last e = ap (λ (z : List ℕ). elim z [ [] ↦ last | n ∷ more ↦ last_of n more ]) e ∙ by_front front
        where
          by_front : (front : List ℕ) → (elim (front ++ last ∷ []) [ [] ↦ last | n ∷ more ↦ last_of n more ]) ≡ last
          by_front [] = refl
          by_front (n ∷ front) = path-ends n front last

      calm_path : (tail : List PathAction) (front : List ℕ) (last : ℕ) (given : List Bool) (path : List ℕ) → path ≡ front ++ last ∷ [] → IsPath items body path given →
          ((rest : List ℕ) → path ≡ 0 ∷ rest → first_bad items body [] (came body 0 rest ++ tail) ≡ None) → Calm last tail given
      calm_path tail front last given [] path_is is clean = absurd (none-in given is)
      calm_path tail front last given (suc n ∷ rest) path_is is clean = absurd (none-in given is)
      calm_path tail front last given (zero ∷ rest) path_is is clean =
          let it = in-map (λ (rest : List Bool). entry_choices items body 0 ++ rest) (along items body 0 rest) given is in
          subst (λ (n : ℕ). Calm n tail given) (last_is front rest last path_is)
          (subst (Calm (last_of 0 rest) tail) (whole it.0 it.2)
          (calm_from plain tail rest [] 0 (entry_choices items body 0 ++ []) (map-in (λ (rest : List Bool). entry_choices items body 0 ++ rest) ([] ∷ []) [] (here [] []))
          [] refl refl refl it.0 it.1 (clean rest refl)))
        where
          whole : (more : List Bool) → entry_choices items body 0 ++ more ≡ given → (entry_choices items body 0 ++ []) ++ more ≡ given
          whole more e = append_assoc (entry_choices items body 0) [] more ∙ e

      pub calmly : (list : List Bool) → GivesBeforeBad items body list → GivesCalmly list
      calmly list (up_to_block front last earlier is acts none) = by (calm_path [] front last list (front ++ last ∷ []) refl is clean)
        where
          clean : (rest : List ℕ) → front ++ last ∷ [] ≡ 0 ∷ rest → first_bad items body [] (came body 0 rest ++ []) ≡ None
          clean rest e =
              ap (first_bad items body []) (append-nil (came body 0 rest)
              ∙ append_cancel_right (came body 0 rest) earlier (actions_on body (last ∷ []))
              (ap (λ (n : ℕ). came body 0 rest ++ actions_on body (n ∷ [])) (sym (last_is front rest last (sym e))) ∙ sym (came-is body 0 rest) ∙ ap (actions_on body) (sym e) ∙ acts))
              ∙ none

          by : Calm last [] list → GivesCalmly list
          by (arrives front' earlier' is' acts' none' lasts' clean') = calm_to front' last earlier' is' acts' none' lasts'
          by (returns_next front' n earlier' last' is' acts' none' lasts') = calm_to front' n earlier' is' acts' none' lasts'
      calmly list (by_way_out front last before block way is none there has list_is) = by (calm_path (actions_in body last) front last before (front ++ last ∷ []) refl is clean)
        where
          clean : (rest : List ℕ) → front ++ last ∷ [] ≡ 0 ∷ rest → first_bad items body [] (came body 0 rest ++ actions_in body last) ≡ None
          clean rest e =
              ap (first_bad items body []) (ap (λ (n : ℕ). came body 0 rest ++ actions_on body (n ∷ [])) (sym (last_is front rest last (sym e))) ∙ sym (came-is body 0 rest) ∙ ap (actions_on body) (sym e))
              ∙ none

          by_block : (front' : List ℕ) (earlier' : List PathAction) → IsPath items body (front' ++ last ∷ []) before →
              actions_on body (front' ++ last ∷ []) ≡ earlier' ++ actions_on body (last ∷ []) → first_bad items body [] earlier' ≡ None → ends_any items body earlier' ≡ false →
              first_bad items body earlier' (actions_in body last) ≡ None → Comes items body (block.term ≡ Term.Goto 1) earlier' (actions_in body last) → GivesCalmly list
          by_block front' earlier' is' acts' none' lasts' clean' (meets bad some free) = absurd (none-some bad (sym clean' ∙ some))
          by_block front' earlier' is' acts' none' lasts' clean' (clear fine free) = calm_by front' last before block way earlier' is' acts' none' lasts' clean' free there has list_is
          by_block front' earlier' is' acts' none' lasts' clean' (stops fine goto) =
              let none_taken : way.choices ≡ [] = ap (λ (w : PathWay). w.choices) (sym (only (Out (ToBlock 1) []) way (subst (λ (term : Term). Contains (ways items body term) way) goto has))) in
              calm_to front' last earlier' (subst (IsPath items body (front' ++ last ∷ [])) (sym (append-nil before) ∙ ap (λ (z : List Bool). before ++ z) (sym none_taken) ∙ sym list_is) is') acts' none' lasts'

          by : Calm last (actions_in body last) before → GivesCalmly list
          by (arrives front' earlier' is' acts' none' lasts' clean') = by_block front' earlier' is' acts' none' lasts' clean' (in_this last block there earlier' lasts')
          by (returns_next front' n earlier' last' is' acts' none' lasts') =
              absurd (none-in way (subst (λ (block : Block). Contains (ways items body block.term) way)
              (sym (same_Some (record { kind = kind; rank = rank; stmts = []; term = Term.Return }) block (sym returns ∙ ap (slice_get body.blocks) (sym last') ∙ there))) has))

    before_it : (acts : List PathAction) (bad : BadUse) → Comes items body (Unit {0}) [] acts → first_bad items body [] acts ≡ Some bad → ends_any items body (before_bad items body [] acts) ≡ false
    before_it acts bad (meets other is before) some = before
    before_it acts bad (clear is none) some = absurd (none-some bad (sym is ∙ some))
    before_it acts bad (stops is s) some = absurd (none-some bad (sym is ∙ some))

    -- what a path reaches, runs reach
    pub runs_reach : (path : List ℕ) (given : List Bool) (bad : BadUse) → Reaches items body path given bad → RunsReach items body path given bad
    runs_reach path given bad (inl r) =
        in_block r (before_it (actions_on body path) bad (of_path path given r.is_path)
        (ap (first_bad items body []) r.before ∙ some-rest items body [] r.earlier (actions_on body (r.last ∷ [])) r.none ∙ r.first))
    runs_reach path given bad (inr r) =
        let on = path-snoc items body path r.front r.last r.next r.before r.choices r.path_is r.is_path (way-between items body r.last r.next r.block r.choices r.there r.way) in
        let stored : r.stored ≡ actions_between body r.last r.next = append_cancel_left (actions_in body r.last) r.stored (actions_between body r.last r.next)
        (append_cancel_right (actions_in body r.last ++ r.stored) (actions_in body r.last ++ actions_between body r.last r.next) (actions_on body (r.next ∷ [])) (sym r.stores)) in
        let snoc : actions_on body (path ++ r.next ∷ []) ≡ (actions_on body path ++ r.stored) ++ actions_on body (r.next ∷ []) =
        ap (λ (z : List ℕ). actions_on body (z ++ r.next ∷ [])) r.path_is ∙ actions-snoc body r.front r.last r.next
        ∙ (λ i. (actions_on body (sym r.path_is i) ++ sym stored i) ++ actions_on body (r.next ∷ [])) in
        let some : first_bad items body [] (actions_on body path ++ r.stored) ≡ Some bad = some-rest items body [] (actions_on body path) r.stored r.none ∙ r.first in
        let all = bad_first items body [] (actions_on body path ++ r.stored) (actions_on body (r.next ∷ [])) bad some in
        on_way r (ap (ends_any items body) (sym all.1) ∙ ap (λ (z : List PathAction). ends_any items body (before_bad items body [] z)) (sym snoc)
        ∙ before_it (actions_on body (path ++ r.next ∷ [])) bad (of_path (path ++ r.next ∷ []) ((r.before ++ r.choices) ++ entry_choices items body r.next) on)
        (ap (first_bad items body []) snoc ∙ all.0))
