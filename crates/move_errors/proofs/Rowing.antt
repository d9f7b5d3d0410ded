-- Rows that say what is gone after actions: which uses are bad by them, and what they become.
use Rattle.std.proofs.Common.{◌≡◌, inl, inr, ℕ, Bool, true, false, ◌&&◌, ◌||◌, if◌then◌else◌, List, [], ◌∷◌, ◌++◌, Some, None, Contains, refl, sym, ap, subst, ◌∙◌}
use Rattle.std.proofs.lemmas.Option.{none-some}
use Rattle.std.proofs.lemmas.List.{append-nil, append_assoc}
use Rattle.std.proofs.lemmas.List.Elements.{Contains-append_cases}
use Rattle.mir_ty.specs.ItemTable.{ItemTable}
use Rattle.store_model.specs.Places.Place.{Place}
use Rattle.cfg_graph.specs.declared.graph.Body.{Body}
use Rattle.cfg_graph.specs.Uses.{PlaceUse, Copies, Moves, Borrows, Touches, Tests, Stores, Drops, Frees}
use Rattle.cfg_graph.specs.Moves.Actions.{actions_on}
use Rattle.cfg_graph.specs.Moves.BadUses.{UseRule, U1, U2, BadUse, may_not_read, may_not_test, may_not_store, bad_uses_on}
use Rattle.cfg_graph.specs.Moves.Gone.{PathAction, is_gone_after}
use Rattle.init_flow.specs.Carried.{Bits}
use Rattle.move_paths.specs.Forest.{PathForest}
use Rattle.init_flow.specs.Concerns.{AreOfBody, some_gone, concerns_read, concerns_test, concerns_store}
use Rattle.init_flow.proofs.Following.{gone-push}
use Rattle.init_flow.proofs.Telling.{uses-are-told}
use Rattle.move_errors.specs.Reaches.{rule_of, is_bad, first_bad}
use Rattle.move_errors.specs.Rows.{some_on, concerns, left, state, is_bad_by, after, first_by, IsWatched, IsUsed}
use Rattle.move_errors.proofs.Leaving.{used-local}
use Rattle.move_errors.proofs.Sorted.{here, there, none-in, first-or}

some-state : (items : ItemTable) (body : Body) (earlier : List PathAction) (paths : List Place) (test : Place → Bool)
    → some_on test paths (state items body paths earlier) ≡ some_gone items body earlier paths test
some-state items body earlier [] test = refl
some-state items body earlier (q ∷ qs) test = ap (λ (b : Bool). (test q && is_gone_after items body earlier q) || b) (some-state items body earlier qs test)

left-state : (items : ItemTable) (body : Body) (earlier : List PathAction) (a : PathAction) (paths : List Place)
    → left items body a paths (state items body paths earlier) ≡ state items body paths (earlier ++ a ∷ [])
left-state items body earlier a [] = refl
left-state items body earlier a (q ∷ qs) = λ i. sym (gone-push items body q earlier a) i ∷ left-state items body earlier a qs i

more-of-body : (body : Body) (earlier acts : List PathAction) → AreOfBody body earlier → AreOfBody body acts → AreOfBody body (earlier ++ acts)
more-of-body body earlier acts one two a has = elim (Contains-append_cases earlier acts a has) [ inl early ↦ one a early | inr late ↦ two a late ]

pub of-body-more : (body : Body) (earlier acts : List PathAction) → AreOfBody body earlier → AreOfBody body acts → AreOfBody body (earlier ++ acts)
of-body-more body earlier acts one two = more-of-body body earlier acts one two

module _ (items : ItemTable) (body : Body) (forest : PathForest) (below : List Bits) (watched : IsWatched items body forest below) where
  abbrev paths : List Place
  paths = forest.paths

  by-row : (earlier : List PathAction) (a : PathAction) → AreOfBody body earlier → IsUsed body a.how a.place → is_bad_by items body forest.paths a (state items body forest.paths earlier) ≡ is_bad items body earlier a a.how
  by-row earlier a are used = by a.how
    where
      by : (how : PlaceUse) → some_on (λ path. concerns how path a.place) forest.paths (state items body forest.paths earlier) ≡ is_bad items body earlier a how
      by Copies = some-state items body earlier forest.paths (λ path. concerns_read path a.place) ∙ sym (uses-are-told items body forest earlier a.place watched.is_forest are (used-local items body forest below watched a.how a.place used)).read
      by Moves = some-state items body earlier forest.paths (λ path. concerns_read path a.place) ∙ sym (uses-are-told items body forest earlier a.place watched.is_forest are (used-local items body forest below watched a.how a.place used)).read
      by Borrows = some-state items body earlier forest.paths (λ path. concerns_read path a.place) ∙ sym (uses-are-told items body forest earlier a.place watched.is_forest are (used-local items body forest below watched a.how a.place used)).read
      by Touches = some-state items body earlier forest.paths (λ path. concerns_read path a.place) ∙ sym (uses-are-told items body forest earlier a.place watched.is_forest are (used-local items body forest below watched a.how a.place used)).read
      by Tests = some-state items body earlier forest.paths (λ path. concerns_test path a.place) ∙ sym (uses-are-told items body forest earlier a.place watched.is_forest are (used-local items body forest below watched a.how a.place used)).test
      by Stores = some-state items body earlier forest.paths (λ path. concerns_store path a.place) ∙ sym (uses-are-told items body forest earlier a.place watched.is_forest are (used-local items body forest below watched a.how a.place used)).store
      by Drops = some-state items body earlier forest.paths (λ path. concerns_store path a.place) ∙ sym (uses-are-told items body forest earlier a.place watched.is_forest are (used-local items body forest below watched a.how a.place used)).store
      by Frees = nothing forest.paths (state items body forest.paths earlier)
        where
          nothing : (paths : List Place) (row : Bits) → some_on (λ path. false) paths row ≡ false
          nothing [] row = refl
          nothing (q ∷ qs) [] = refl
          nothing (q ∷ qs) (b ∷ row) = nothing qs row

  -- by the row as by the actions: none is bad, or the same first one
  pub data Both (earlier acts : List PathAction) : Type 0 where
    none : first_bad items body earlier acts ≡ None → first_by items body forest.paths acts (state items body forest.paths earlier) ≡ None
        → after items body forest.paths acts (state items body forest.paths earlier) ≡ state items body forest.paths (earlier ++ acts) → Both earlier acts
    some : (a : PathAction) → first_bad items body earlier acts ≡ Some (record { rule = rule_of a.how; action = a })
        → first_by items body forest.paths acts (state items body forest.paths earlier) ≡ Some a → Both earlier acts

  pub both : (earlier acts : List PathAction) → AreOfBody body earlier → AreOfBody body acts → Both earlier acts
  both earlier [] one two = none refl refl (ap (state items body forest.paths) (sym (append-nil earlier)))
  both earlier (a ∷ acts) one two =
      by (is_bad items body earlier a a.how) refl
      (both (earlier ++ a ∷ []) acts (more-of-body body earlier (a ∷ []) one (λ x has. elim (first-or x a [] has) [ inl same ↦ two x (subst (Contains (a ∷ acts)) same (here a acts)) | inr stop ↦ absurd (none-in x stop) ]))
      (λ x has. two x (there x a acts has)))
    where
      row : is_bad_by items body forest.paths a (state items body forest.paths earlier) ≡ is_bad items body earlier a a.how
      row = by-row earlier a one (two a (here a acts))

      by : (b : Bool) → is_bad items body earlier a a.how ≡ b → Both (earlier ++ a ∷ []) acts → Both earlier (a ∷ acts)
      by true e rest = some a
          (ap (λ (z : Bool). if z then Some (record { rule = rule_of a.how; action = a }) else first_bad items body (earlier ++ a ∷ []) acts) e)
          (ap (λ (z : Bool). if z then Some a else first_by items body forest.paths acts (left items body a forest.paths (state items body forest.paths earlier))) (row ∙ e))
      by false e (none plain rows next) = none
          (ap (λ (z : Bool). if z then Some (record { rule = rule_of a.how; action = a }) else first_bad items body (earlier ++ a ∷ []) acts) e ∙ plain)
          (ap (λ (z : Bool). if z then Some a else first_by items body forest.paths acts (left items body a forest.paths (state items body forest.paths earlier))) (row ∙ e)
          ∙ ap (first_by items body forest.paths acts) (left-state items body earlier a forest.paths) ∙ rows)
          (ap (after items body forest.paths acts) (left-state items body earlier a forest.paths) ∙ next ∙ ap (state items body forest.paths) (append_assoc earlier (a ∷ []) acts))
      by false e (some x plain rows) = some x
          (ap (λ (z : Bool). if z then Some (record { rule = rule_of a.how; action = a }) else first_bad items body (earlier ++ a ∷ []) acts) e ∙ plain)
          (ap (λ (z : Bool). if z then Some a else first_by items body forest.paths acts (left items body a forest.paths (state items body forest.paths earlier))) (row ∙ e)
          ∙ ap (first_by items body forest.paths acts) (left-state items body earlier a forest.paths) ∙ rows)

-- Lists of actions without a bad use.

module _ (items : ItemTable) (body : Body) where
  pub none-append : (earlier xs ys : List PathAction) → first_bad items body earlier xs ≡ None → first_bad items body (earlier ++ xs) ys ≡ None → first_bad items body earlier (xs ++ ys) ≡ None
  none-append earlier [] ys one two = ap (λ (z : List PathAction). first_bad items body z ys) (sym (append-nil earlier)) ∙ two
  none-append earlier (a ∷ xs) ys one two =
      by (none-append (earlier ++ a ∷ []) xs ys) (is_bad items body earlier a a.how) refl one
    where
      by : (first_bad items body (earlier ++ a ∷ []) xs ≡ None → first_bad items body ((earlier ++ a ∷ []) ++ xs) ys ≡ None → first_bad items body (earlier ++ a ∷ []) (xs ++ ys) ≡ None)
          → (b : Bool) → is_bad items body earlier a a.how ≡ b
          → (if b then Some (record { rule = rule_of a.how; action = a }) else first_bad items body (earlier ++ a ∷ []) xs) ≡ None
          → first_bad items body earlier ((a ∷ xs) ++ ys) ≡ None
      by again true e h = absurd (none-some (record { rule = rule_of a.how; action = a }) (sym h))
      by again false e h =
          ap (λ (z : Bool). if z then Some (record { rule = rule_of a.how; action = a }) else first_bad items body (earlier ++ a ∷ []) (xs ++ ys)) e
          ∙ again h (ap (λ (z : List PathAction). first_bad items body z ys) (append_assoc earlier (a ∷ []) xs) ∙ two)

  -- the bad uses, as the definition has them
  abbrev if_bad : Bool → UseRule → PathAction → List BadUse
  if_bad bad rule action = if bad then record { rule = rule; action = action } ∷ [] else []

  abbrev checked : List PathAction → PathAction → PlaceUse → List BadUse
  checked earlier action Copies = if_bad (may_not_read items body earlier action.place) U1 action
  checked earlier action Moves = if_bad (may_not_read items body earlier action.place) U1 action
  checked earlier action Borrows = if_bad (may_not_read items body earlier action.place) U1 action
  checked earlier action Touches = if_bad (may_not_read items body earlier action.place) U1 action
  checked earlier action Tests = if_bad (may_not_test items body earlier action.place) U1 action
  checked earlier action Stores = if_bad (may_not_store items body earlier action.place) U2 action
  checked earlier action Drops = if_bad (may_not_store items body earlier action.place) U2 action
  checked earlier action Frees = []

  abbrev bad_after : List PathAction → List PathAction → List BadUse
  bad_after earlier [] = []
  bad_after earlier (action ∷ later) = checked earlier action action.how ++ bad_after (earlier ++ action ∷ []) later

  not-checked : (earlier : List PathAction) (a : PathAction) (how : PlaceUse) → is_bad items body earlier a how ≡ false → checked earlier a how ≡ []
  not-checked earlier a Copies e = ap (λ (z : Bool). if_bad z U1 a) e
  not-checked earlier a Moves e = ap (λ (z : Bool). if_bad z U1 a) e
  not-checked earlier a Borrows e = ap (λ (z : Bool). if_bad z U1 a) e
  not-checked earlier a Touches e = ap (λ (z : Bool). if_bad z U1 a) e
  not-checked earlier a Tests e = ap (λ (z : Bool). if_bad z U1 a) e
  not-checked earlier a Stores e = ap (λ (z : Bool). if_bad z U2 a) e
  not-checked earlier a Drops e = ap (λ (z : Bool). if_bad z U2 a) e
  not-checked earlier a Frees e = refl

  none-after : (earlier acts : List PathAction) → first_bad items body earlier acts ≡ None → bad_after earlier acts ≡ []
  none-after earlier [] h = refl
  none-after earlier (a ∷ acts) h = by (none-after (earlier ++ a ∷ []) acts) (is_bad items body earlier a a.how) refl h
    where
      by : (first_bad items body (earlier ++ a ∷ []) acts ≡ None → bad_after (earlier ++ a ∷ []) acts ≡ []) → (b : Bool) → is_bad items body earlier a a.how ≡ b
          → (if b then Some (record { rule = rule_of a.how; action = a }) else first_bad items body (earlier ++ a ∷ []) acts) ≡ None → bad_after earlier (a ∷ acts) ≡ []
      by again true e h = absurd (none-some (record { rule = rule_of a.how; action = a }) (sym h))
      by again false e h = λ i. not-checked earlier a a.how e i ++ again h i

  pub meets-none : (path : List ℕ) → first_bad items body [] (actions_on body path) ≡ None → bad_uses_on items body path ≡ []
  meets-none path h = none-after [] (actions_on body path) h
