-- The statements of a block, and what its terminator uses, as actions of a free walk.
use Rattle.std.proofs.Common.{◌≡◌, ℕ, suc, Bool, true, false, List, [], ◌∷◌, ◌++◌, map, flat_map, slice_get, refl, sym, ap, ◌∙◌}
use Rattle.std.proofs.lemmas.List.{append-nil, map-append}
use Rattle.mir_ty.specs.ItemTable.{ItemTable}
use Rattle.store_model.specs.Effects.{EffectSite, BadUse, BadStore, NoChoice, Infeasible, Unreachable, Out, Go, Halts, Effects, on_go, halting_if}
use Rattle.store_model.specs.Abstract.Effects.{AbstractState, presence, may_use, may_store, after, when, never_at, unless_never, using, operand_used, operands_used, store, abstract_effects}
use Rattle.cfg_graph.specs.declared.place.Place.{Place}
use Rattle.cfg_graph.specs.declared.place.Operand.{Operand}
use Rattle.cfg_graph.specs.declared.statement.Stmt.{Stmt}
use Rattle.cfg_graph.specs.declared.graph.Body.{Body}
use Rattle.cfg_graph.specs.Places.{named}
use Rattle.cfg_graph.specs.Uses.{PlaceUse, Borrows, Touches, Stores, operand_uses, stmt_uses}
use Rattle.cfg_graph.specs.Moves.Gone.{PathAction}
use Rattle.cfg_meaning.specs.Actions.{site_of, operand_of, operands_of, action_of}
use Rattle.cfg_meaning.specs.Walk.{stuck_in, ◌>>=◌, renamed, naming, stmts_do}
use Rattle.lower_laws.proofs.Performing.{perform, perform-append, unless_ended, watched_of}

abbrev pub at_line : (block line : ℕ) → List (PlaceUse × Place) → List PathAction
at_line block line uses = map (λ made. record { how = made.0; place = named made.1; block = block; line = line }) uses

abbrev pub stmt_actions : (block line : ℕ) → List Stmt → List PathAction
stmt_actions block line [] = []
stmt_actions block line (stmt ∷ stmts) = at_line block line (stmt_uses stmt) ++ stmt_actions block (suc line) stmts

abbrev pub stored : Place → List (PlaceUse × Place)
stored to = (Stores, to) ∷ []

-- what comes of an effect passes on that it halts
pub record Passes (c : Out AbstractState → Out AbstractState) : Type 0 where
  pub bad_use : (site : EffectSite) (w : AbstractState) → c (Halts (BadUse site) w) ≡ Halts (BadUse site) w
  pub bad_store : (site : EffectSite) (w : AbstractState) → c (Halts (BadStore site) w) ≡ Halts (BadStore site) w
  pub unreachable : (w : AbstractState) → c (Halts Unreachable w) ≡ Halts Unreachable w
  pub no_choice : (w : AbstractState) → c (Halts NoChoice w) ≡ Halts NoChoice w
  pub infeasible : (w : AbstractState) → c (Halts Infeasible w) ≡ Halts Infeasible w

module _ (items : ItemTable) (body : Body) (node : ℕ → ℕ → ℕ) (n line : ℕ) where
  abbrev eff : Effects AbstractState
  eff = abstract_effects items (slice_get body.locals)

  abbrev site : Place → EffectSite
  site place = site_of (node n line) place

  abbrev never : Place → Bool
  never place = never_at items (slice_get body.locals) (site place)

  abbrev doing : List (PlaceUse × Place) → (AbstractState → Out AbstractState) → AbstractState → Out AbstractState
  doing uses next w = perform items body node (at_line n line uses) next w

  doing-append : (xs ys : List (PlaceUse × Place)) (next : AbstractState → Out AbstractState) (w : AbstractState)
      → doing (xs ++ ys) next w ≡ doing xs (λ w. doing ys next w) w
  doing-append xs ys next w =
      ap (λ (z : List PathAction). perform items body node z next w) (map-append (λ (made : PlaceUse × Place). record { how = made.0; place = named made.1; block = n; line = line }) xs ys)
      ∙ perform-append items body node (at_line n line xs) (at_line n line ys) next w

  module _ (c : Out AbstractState → Out AbstractState) (passes : Passes c) where
    pub one-used : (operand : Operand) (k : AbstractState → Out AbstractState) (more : List (PlaceUse × Place)) (next : AbstractState → Out AbstractState)
        → ((w : AbstractState) → c (k w) ≡ doing more next w) → (w : AbstractState)
        → c (on_go (operand_used items (slice_get body.locals) (operand_of (node n line) operand) w) k) ≡ doing (operand_uses operand ++ more) next w
    one-used (Operand.Copied place) k more next same w =
        by (may_use (watched_of items body (named place)) (presence place.local w.cells)) (never place)
      where
        by : (may v : Bool)
            → c (on_go (when may (BadUse (site place)) (unless_never items (slice_get body.locals) v) w) k)
            ≡ when may (BadUse (site place)) (λ w. unless_ended items body node v (doing more next) w) w
        by false v = passes.bad_use (site place) w
        by true true = passes.unreachable w
        by true false = same w
    one-used (Operand.Moved place) k more next same w = by (may_use (watched_of items body (named place)) (presence place.local w.cells))
      where
        by : (may : Bool)
            → c (on_go (when may (BadUse (site place)) (λ w. Go (after items (slice_get body.locals) true (site place) w)) w) k)
            ≡ when may (BadUse (site place)) (λ w. doing more next (after items (slice_get body.locals) true (site place) w)) w
        by false = passes.bad_use (site place) w
        by true = same (after items (slice_get body.locals) true (site place) w)
    one-used (Operand.Number value kind) k more next same w = same w
    one-used (Operand.Truth value) k more next same w = same w
    one-used Operand.Unit k more next same w = same w

    pub all-used : (operands : List Operand) (k next : AbstractState → Out AbstractState)
        → ((w : AbstractState) → c (k w) ≡ next w) → (w : AbstractState)
        → c (operands_used items (slice_get body.locals) (operands_of (node n line) operands) k w) ≡ doing (flat_map operand_uses operands) next w
    all-used [] k next same w = same w
    all-used (operand ∷ operands) k next same w =
        one-used operand (operands_used items (slice_get body.locals) (operands_of (node n line) operands) k) (flat_map operand_uses operands) next
        (all-used operands k next same) w

  -- what follows a store, where nothing follows one of type `!`
  module _ (v : Bool) (c : Out AbstractState → Out AbstractState) (passes : Passes c) where
    abbrev lasting : Out AbstractState → Out AbstractState
    lasting o = c (halting_if v Unreachable o)

    pub lasting-passes : Passes lasting
    lasting-passes = by v
      where
        by : (v : Bool) → Passes (λ o. c (halting_if v Unreachable o))
        by true = record { bad_use = passes.bad_use; bad_store = passes.bad_store; unreachable = passes.unreachable; no_choice = passes.no_choice; infeasible = passes.infeasible }
        by false = record { bad_use = passes.bad_use; bad_store = passes.bad_store; unreachable = passes.unreachable; no_choice = passes.no_choice; infeasible = passes.infeasible }

  pub store-is : (c : Out AbstractState → Out AbstractState) → Passes c → (to : Place) (next : AbstractState → Out AbstractState)
      → ((w : AbstractState) → c (Go w) ≡ next w) → (w : AbstractState)
      → c (halting_if (never to) Unreachable (store items (slice_get body.locals) (site to) w)) ≡ doing (stored to) next w
  store-is c passes to next same w = by (may_store (watched_of items body (named to)) (presence to.local w.cells)) (never to)
    where
      by : (may v : Bool)
          → c (halting_if v Unreachable (when may (BadStore (site to)) (λ w. Go (after items (slice_get body.locals) false (site to) w)) w))
          ≡ when may (BadStore (site to)) (λ w. unless_ended items body node v next (after items (slice_get body.locals) false (site to) w)) w
      by false true = passes.bad_store (site to) w
      by false false = passes.bad_store (site to) w
      by true true = passes.unreachable (after items (slice_get body.locals) false (site to) w)
      by true false = same (after items (slice_get body.locals) false (site to) w)

  -- Statements.

  module _ (rest : AbstractState → Out AbstractState) where
    abbrev bound : Out AbstractState → Out AbstractState
    bound o = ◌>>=◌ (renamed (stuck_in 0 n) o) rest

    bound-passes : Passes bound
    bound-passes = record { bad_use = λ site w. refl; bad_store = λ site w. refl; unreachable = λ w. refl; no_choice = λ w. refl; infeasible = λ w. refl }

    storing : (operands : List Operand) (to : Place) (w : AbstractState)
        → bound (halting_if (never to) Unreachable (operands_used items (slice_get body.locals) (operands_of (node n line) operands) (store items (slice_get body.locals) (site to)) w))
        ≡ doing (flat_map operand_uses operands ++ [] ++ stored to) rest w
    storing operands to w =
        all-used (lasting (never to) bound bound-passes) (lasting-passes (never to) bound bound-passes) operands (store items (slice_get body.locals) (site to)) (doing (stored to) rest)
        (store-is bound bound-passes to rest (λ w. refl)) w
        ∙ sym (doing-append (flat_map operand_uses operands) (stored to) rest w)
        ∙ ap (λ (z : List (PlaceUse × Place)). doing z rest w) (ap (λ (z : List (PlaceUse × Place)). z ++ stored to) (sym (append-nil (flat_map operand_uses operands))))

    reading : (operands : List Operand) (w : AbstractState)
        → bound (operands_used items (slice_get body.locals) (operands_of (node n line) operands) Go w) ≡ doing (flat_map operand_uses operands ++ [] ++ []) rest w
    reading operands w =
        all-used bound bound-passes operands Go rest (λ w. refl) w
        ∙ ap (λ (z : List (PlaceUse × Place)). doing z rest w) (sym (append-nil (flat_map operand_uses operands ++ []) ∙ append-nil (flat_map operand_uses operands)))

    borrowing : (to of : Place) (w : AbstractState)
        → bound (halting_if (never to) Unreachable (using items (slice_get body.locals) (site of) (store items (slice_get body.locals) (site to)) w))
        ≡ doing ((Borrows, of) ∷ stored to) rest w
    borrowing to of w = by (may_use (watched_of items body (named of)) (presence of.local w.cells))
      where
        by : (may : Bool)
            → bound (halting_if (never to) Unreachable (when may (BadUse (site of)) (store items (slice_get body.locals) (site to)) w))
            ≡ when may (BadUse (site of)) (doing (stored to) rest) w
        by false = (lasting-passes (never to) bound bound-passes).bad_use (site of) w
        by true = store-is bound bound-passes to rest (λ w. refl) w

    touching : (of : Place) (w : AbstractState) → bound (using items (slice_get body.locals) (site of) Go w) ≡ doing ((Touches, of) ∷ []) rest w
    touching of w = by (may_use (watched_of items body (named of)) (presence of.local w.cells))
      where
        by : (may : Bool) → bound (when may (BadUse (site of)) Go w) ≡ when may (BadUse (site of)) rest w
        by false = refl
        by true = refl

    stmt-is : (stmt : Stmt) (w : AbstractState) → ◌>>=◌ ((naming (stuck_in 0 n) eff).act (action_of (node n line) stmt) w) rest ≡ doing (stmt_uses stmt) rest w
    stmt-is (Stmt.Put to from) w = storing (from ∷ []) to w
    stmt-is (Stmt.Compare to op left right) w = storing (left ∷ right ∷ []) to w
    stmt-is (Stmt.Not to operand) w = storing (operand ∷ []) to w
    stmt-is (Stmt.Tuple to parts) w = storing parts to w
    stmt-is (Stmt.Array to parts) w = storing parts to w
    stmt-is (Stmt.Make to adt variant parts) w = storing parts to w
    stmt-is (Stmt.Close to closure parts) w = storing parts to w
    stmt-is (Stmt.NewBox to operand) w = storing (operand ∷ []) to w
    stmt-is (Stmt.Unsize to trait_no from) w = storing (from ∷ []) to w
    stmt-is (Stmt.Borrow to unique of) w = borrowing to of w
    stmt-is (Stmt.Touch place) w = touching place w
    stmt-is (Stmt.Print operand) w = reading (operand ∷ []) w
    stmt-is (Stmt.Forget operand) w = reading (operand ∷ []) w
    stmt-is (Stmt.Free place) w = refl

module _ (items : ItemTable) (body : Body) (node : ℕ → ℕ → ℕ) (n : ℕ) where
  abbrev pub all_effects : Effects AbstractState
  all_effects = naming (stuck_in 0 n) (abstract_effects items (slice_get body.locals))

  pub stmts-are : (stmts : List Stmt) (line : ℕ) (rest : AbstractState → Out AbstractState) (w : AbstractState)
      → stmts_do all_effects (node n) line stmts rest w ≡ perform items body node (stmt_actions n line stmts) rest w
  stmts-are [] line rest w = refl
  stmts-are (stmt ∷ stmts) line rest w =
      stmt-is items body node n line (stmts_do all_effects (node n) (suc line) stmts rest) stmt w
      ∙ (λ i. perform items body node (at_line n line (stmt_uses stmt)) (λ w. stmts-are stmts (suc line) rest w i) w)
      ∙ sym (perform-append items body node (at_line n line (stmt_uses stmt)) (stmt_actions n (suc line) stmts) rest w)
