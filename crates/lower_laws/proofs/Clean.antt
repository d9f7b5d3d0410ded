-- Where no path meets a bad use, none reaches one.
use Rattle.std.proofs.Common.{◌≡◌, ℕ, Bool, true, false, List, [], ◌∷◌, ◌++◌, Option, Some, None, if◌then◌else◌, refl, sym, ap, subst, ◌∙◌}
use Rattle.std.proofs.lemmas.List.{append_assoc, append-nil, append_cancel_left, append_cancel_right}
use Rattle.std.proofs.lemmas.Option.{none-some}
use Rattle.mir_ty.specs.ItemTable.{ItemTable}
use Rattle.cfg_graph.specs.declared.graph.Body.{Body}
use Rattle.cfg_graph.specs.Moves.Actions.{actions_on}
use Rattle.cfg_graph.specs.Moves.BadUses.{UseRule, U1, U2, BadUse, may_not_read, may_not_test, may_not_store, bad_uses_on}
use Rattle.cfg_graph.specs.Moves.Gone.{PathAction}
use Rattle.cfg_graph.specs.Moves.Paths.{IsPath}
use Rattle.cfg_graph.specs.Uses.{PlaceUse, Copies, Moves, Borrows, Touches, Tests, Stores, Drops, Frees}
use Rattle.move_errors.specs.Reaches.{rule_of, is_bad, first_bad, MeetsNone}
use Rattle.init_flow.proofs.Along.{actions_between}
use Rattle.move_errors.proofs.Pathways.{actions-snoc, entry_choices, path-snoc, way-between}
use Rattle.lower_laws.specs.Meets.{RunsReach, in_block, on_way}

module _ (items : ItemTable) (body : Body) where
  -- the bad uses, as the definition has them
  abbrev if_bad : Bool → UseRule → PathAction → List BadUse
  if_bad bad rule action = if bad then record { rule = rule; action = action } ∷ [] else []

  abbrev checked : List PathAction → PathAction → PlaceUse → List BadUse
  checked earlier action Copies = if_bad (may_not_read items body earlier action.place) U1 action
  checked earlier action Moves = if_bad (may_not_read items body earlier action.place) U1 action
  checked earlier action Borrows = if_bad (may_not_read items body earlier action.place) U1 action
  checked earlier action Touches = if_bad (may_not_read items body earlier action.place) U1 action
  checked earlier action Tests = if_bad (may_not_test items body earlier action.place) U1 action
  checked earlier action Stores = if_bad (may_not_store items body earlier action.place) U2 action
  checked earlier action Drops = if_bad (may_not_store items body earlier action.place) U2 action
  checked earlier action Frees = []

  abbrev bad_after : List PathAction → List PathAction → List BadUse
  bad_after earlier [] = []
  bad_after earlier (action ∷ later) = checked earlier action action.how ++ bad_after (earlier ++ action ∷ []) later

  -- the first bad use, and whether there is one
  abbrev first_from : Bool → List PathAction → PathAction → List PathAction → Option BadUse
  first_from bad earlier a later =
      if bad then Some (record { rule = rule_of a.how; action = a }) else first_bad items body (earlier ++ a ∷ []) later

  abbrev Clean : List PathAction → List PathAction → Type 0
  Clean earlier later = first_bad items body earlier later ≡ None

  none-bad : (bad : Bool) (rule : UseRule) (a : PathAction) (rest : List BadUse) → if_bad bad rule a ++ rest ≡ [] → bad ≡ false
  none-bad true rule a rest h = absurd (let never : (record { rule = rule; action = a }) ∷ rest ≡ [] = h in cc)
  none-bad false rule a rest h = refl

  not-bad : (earlier : List PathAction) (a : PathAction) (how : PlaceUse) (rest : List BadUse) → checked earlier a how ++ rest ≡ [] → is_bad items body earlier a how ≡ false
  not-bad earlier a Copies rest h = none-bad (may_not_read items body earlier a.place) U1 a rest h
  not-bad earlier a Moves rest h = none-bad (may_not_read items body earlier a.place) U1 a rest h
  not-bad earlier a Borrows rest h = none-bad (may_not_read items body earlier a.place) U1 a rest h
  not-bad earlier a Touches rest h = none-bad (may_not_read items body earlier a.place) U1 a rest h
  not-bad earlier a Tests rest h = none-bad (may_not_test items body earlier a.place) U1 a rest h
  not-bad earlier a Stores rest h = none-bad (may_not_store items body earlier a.place) U2 a rest h
  not-bad earlier a Drops rest h = none-bad (may_not_store items body earlier a.place) U2 a rest h
  not-bad earlier a Frees rest h = refl

  rest-none : (xs ys : List BadUse) → xs ++ ys ≡ [] → ys ≡ []
  rest-none [] ys h = h
  rest-none (x ∷ xs) ys h = absurd (let never : x ∷ (xs ++ ys) ≡ [] = h in cc)

  clean-after : (earlier acts : List PathAction) → bad_after earlier acts ≡ [] → Clean earlier acts
  clean-after earlier [] h = refl
  clean-after earlier (a ∷ acts) h =
      ap (λ (b : Bool). first_from b earlier a acts) (not-bad earlier a a.how (bad_after (earlier ++ a ∷ []) acts) h)
      ∙ clean-after (earlier ++ a ∷ []) acts (rest-none (checked earlier a a.how) (bad_after (earlier ++ a ∷ []) acts) h)

  -- and back
  no-bad : (rule : UseRule) (a : PathAction) (bad : Bool) → bad ≡ false → if_bad bad rule a ≡ []
  no-bad rule a bad e = ap (λ (b : Bool). if_bad b rule a) e

  none-checked : (earlier : List PathAction) (a : PathAction) (how : PlaceUse) → is_bad items body earlier a how ≡ false → checked earlier a how ≡ []
  none-checked earlier a Copies e = no-bad U1 a (may_not_read items body earlier a.place) e
  none-checked earlier a Moves e = no-bad U1 a (may_not_read items body earlier a.place) e
  none-checked earlier a Borrows e = no-bad U1 a (may_not_read items body earlier a.place) e
  none-checked earlier a Touches e = no-bad U1 a (may_not_read items body earlier a.place) e
  none-checked earlier a Tests e = no-bad U1 a (may_not_test items body earlier a.place) e
  none-checked earlier a Stores e = no-bad U2 a (may_not_store items body earlier a.place) e
  none-checked earlier a Drops e = no-bad U2 a (may_not_store items body earlier a.place) e
  none-checked earlier a Frees e = refl

  none-from : (earlier acts : List PathAction) → Clean earlier acts → bad_after earlier acts ≡ []
  none-from earlier [] h = refl
  none-from earlier (a ∷ acts) h = by (is_bad items body earlier a a.how) refl h (none-from (earlier ++ a ∷ []) acts)
    where
      by : (b : Bool) → is_bad items body earlier a a.how ≡ b → first_from b earlier a acts ≡ None → (Clean (earlier ++ a ∷ []) acts → bad_after (earlier ++ a ∷ []) acts ≡ []) → bad_after earlier (a ∷ acts) ≡ []
      by true e h later = absurd (none-some (record { rule = rule_of a.how; action = a }) (sym h))
      by false e h later = (λ i. none-checked earlier a a.how e i ++ later h i)

  pub none-after : (path : List ℕ) → Clean [] (actions_on body path) → bad_uses_on items body path ≡ []
  none-after path h = none-from [] (actions_on body path) h

  -- of two parts that are clean together
  parts : (earlier xs ys : List PathAction) → Clean earlier (xs ++ ys) → Clean earlier xs × Clean (earlier ++ xs) ys
  parts earlier [] ys h = (refl, subst (λ (z : List PathAction). Clean z ys) (sym (append-nil earlier)) h)
  parts earlier (a ∷ xs) ys h = by (parts (earlier ++ a ∷ []) xs ys) (is_bad items body earlier a a.how) refl h
    where
      by : (Clean (earlier ++ a ∷ []) (xs ++ ys) → Clean (earlier ++ a ∷ []) xs × Clean ((earlier ++ a ∷ []) ++ xs) ys) → (b : Bool) → is_bad items body earlier a a.how ≡ b → first_from b earlier a (xs ++ ys) ≡ None → Clean earlier (a ∷ xs) × Clean (earlier ++ a ∷ xs) ys
      by again true e h = absurd (none-some (record { rule = rule_of a.how; action = a }) (sym h))
      by again false e h =
          let it = again h in (
            ap (λ (b : Bool). first_from b earlier a xs) e ∙ it.0,
            subst (λ (z : List PathAction). Clean z ys) (append_assoc earlier (a ∷ []) xs) it.1,
          )

  clean-path : MeetsNone items body → (path : List ℕ) (given : List Bool) → IsPath items body path given → Clean [] (actions_on body path)
  clean-path none path given is = clean-after [] (actions_on body path) (none path given is)

  pub none-reached : MeetsNone items body → (path : List ℕ) (given : List Bool) (bad : BadUse) → RunsReach items body path given bad → ⊥
  none-reached none path given bad (in_block r before) =
      let clean = subst (Clean []) r.before (clean-path none path given r.is_path) in
      none-some bad (sym (parts [] r.earlier (actions_on body (r.last ∷ [])) clean).1 ∙ r.first)
  none-reached none path given bad (on_way r before) =
      let on = path-snoc items body path r.front r.last r.next r.before r.choices r.path_is r.is_path (way-between items body r.last r.next r.block r.choices r.there r.way) in
      let snoc = actions-snoc body r.front r.last r.next in
      let clean = subst (Clean []) (ap (λ (z : List ℕ). actions_on body (z ++ r.next ∷ [])) r.path_is ∙ snoc) (clean-path none (path ++ r.next ∷ []) ((r.before ++ r.choices) ++ entry_choices items body r.next) on) in
      let stored : actions_between body r.last r.next ≡ r.stored =
      append_cancel_left (actions_on body (r.last ∷ [])) (actions_between body r.last r.next) r.stored
      (append_cancel_right (actions_on body (r.last ∷ []) ++ actions_between body r.last r.next) (actions_on body (r.last ∷ []) ++ r.stored) (actions_on body (r.next ∷ []))
      (sym (actions-snoc body [] r.last r.next) ∙ r.stores)) in
      let two = (parts [] (actions_on body (r.front ++ r.last ∷ []) ++ actions_between body r.last r.next) (actions_on body (r.next ∷ [])) clean).0 in
      let three = (parts [] (actions_on body (r.front ++ r.last ∷ [])) (actions_between body r.last r.next) two).1 in
      none-some bad
      (sym three ∙ ap (λ (z : List PathAction). first_bad items body (actions_on body (r.front ++ r.last ∷ [])) z) stored
      ∙ ap (λ (z : List ℕ). first_bad items body (actions_on body z) r.stored) (sym r.path_is) ∙ r.first)
