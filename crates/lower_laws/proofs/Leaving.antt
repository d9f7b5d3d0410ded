-- A block in a free walk: its actions, and then the way out of it that the choices tell.
use Rattle.std.proofs.Common.{◌≡◌, ◌⊎◌, inl, inr, ℕ, Bool, true, false, not, ◌||◌, if◌then◌else◌, List, [], ◌∷◌, ◌++◌, map, flat_map, nat_eq, Option, Some, None, slice_get, Contains, refl, sym, ap, subst, ◌∙◌}
use Rattle.std.specs.List.{list_any}
use Rattle.std.specs.Option.{option_map_or}
use Rattle.std.proofs.lemmas.Bool.{false≢true, eqb-true, eq-eqb}
use Rattle.std.proofs.lemmas.List.{append-nil, append_cancel_left}
use Rattle.std.proofs.lemmas.Option.{none-some, same_Some}
use Rattle.mir_ty.specs.declared.ty.TyId.{TyId}
use Rattle.mir_ty.specs.Facts.{needs_drop}
use Rattle.mir_ty.specs.ItemTable.{ItemTable}
use Rattle.store_model.specs.Effects.{EffectSite, Halt, Aborted, BadUse, BadStore, NoChoice, Infeasible, Unreachable, Out, Go, Unwind, Halts, Effects, on_go, halting_if}
use Rattle.store_model.specs.Abstract.Effects.{AbstractState, presence, after, when, never_at, operand_used, operands_used, store, next_choice, chosen_next, choice_after, computed_by_choice, returns_by_choice, panics_by_choice, dropped, unwound}
use Rattle.cfg_graph.specs.declared.place.Place.{Place}
use Rattle.cfg_graph.specs.declared.place.Operand.{Operand}
use Rattle.cfg_graph.specs.declared.terminator.Term.{Term}
use Rattle.cfg_graph.specs.declared.terminator.Unwind.{Unwind as UnwindTo}
use Rattle.cfg_graph.specs.declared.graph.Body.{Body}
use Rattle.cfg_graph.specs.Edges.{BlockExit, ToBlock, LeavesBody, onward, unwind_targets, unwind_exit, unwind_block}
use Rattle.cfg_graph.specs.Places.{named, place_id}
use Rattle.cfg_graph.specs.Uses.{PlaceUse, Tests, Stores, Drops, operand_uses, term_uses, stored_by_term}
use Rattle.cfg_graph.specs.Moves.Gone.{PathAction}
use Rattle.cfg_graph.specs.Moves.Paths.{PathWay, ways}
use Rattle.cfg_graph.specs.Moves.BadUses.{BadUse as Bad}
use Rattle.cfg_meaning.specs.Actions.{site_of, operand_of, operands_of, mode_of}
use Rattle.cfg_meaning.specs.Walk.{Next, stuck_in, branch, renamed, renamed_choice, unwinding, acts, term_does}
use Rattle.move_errors.proofs.Sorted.{here, there, none-in, first-or}
use Rattle.move_errors.specs.Reaches.{rule_of, is_bad}
use Rattle.lower_laws.specs.Given.{choices_left}
use Rattle.lower_laws.specs.Meets.{halt_by, is_refused, ends_runs}
use Rattle.lower_laws.proofs.Allowing.{allowed, is-allowed}
use Rattle.lower_laws.proofs.Lines.{Passes, at_line, stored, all-used, lasting-passes, store-is, all_effects}
use Rattle.lower_laws.proofs.Performing.{Tells, watched_of, left_by, left-tells, left-choices, perform, IsNotRefused, halts-same, Performed, on, met, performed}

abbrev pub by_way : List Bool → BlockExit → PathWay
by_way choices exit = record { choices = choices; exit = exit }

-- Lists of choices, and ways by them.

nil-cons : {X : Type 0} (x : X) (xs : List X) → [] ≡ x ∷ xs → ⊥
nil-cons x xs e = false≢true (ap (λ l. elim l [ [] ↦ false | y ∷ ys ↦ true ]) e)

first-is : (x y : Bool) (xs ys : List Bool) → x ∷ xs ≡ y ∷ ys → x ≡ y
first-is x y xs ys e = ap (λ (l : List Bool). elim l [ [] ↦ x | z ∷ zs ↦ z ]) e

true-false : true ≡ false → ⊥
true-false e = false≢true (sym e)

block-is : (a b : ℕ) → ToBlock a ≡ ToBlock b → a ≡ b
block-is a b e = ap (λ (x : BlockExit). elim x [ ToBlock n ↦ n | LeavesBody ↦ a ]) e

not-out : (a : ℕ) → LeavesBody ≡ ToBlock a → ⊥
not-out a e = false≢true (ap (λ (x : BlockExit). elim x [ ToBlock n ↦ true | LeavesBody ↦ false ]) e)

out-not : (a : ℕ) → ToBlock a ≡ LeavesBody → ⊥
out-not a e = not-out a (sym e)

no-cons : (x : Bool) (xs : List Bool) → x ∷ xs ≡ [] → ⊥
no-cons x xs e = nil-cons x xs (sym e)

-- which of two ways one is, and that one is the only one
either-way : (a : ℕ) (e exit : BlockExit) (choices : List Bool) → Contains (by_way (false ∷ []) (ToBlock a) ∷ by_way (true ∷ []) e ∷ []) (by_way choices exit)
    → ((choices ≡ false ∷ []) × (ToBlock a ≡ exit)) ⊎ ((choices ≡ true ∷ []) × (e ≡ exit))
either-way a e exit choices has = elim (first-or (by_way choices exit) (by_way (false ∷ []) (ToBlock a)) (by_way (true ∷ []) e ∷ []) has) [
  | inl same ↦ inl (sym (ap (λ (x : PathWay). x.choices) same), ap (λ (x : PathWay). x.exit) same)
  | inr later ↦ elim (first-or (by_way choices exit) (by_way (true ∷ []) e) [] later) [
    | inl same ↦ inr (sym (ap (λ (x : PathWay). x.choices) same), ap (λ (x : PathWay). x.exit) same)
    | inr stop ↦ absurd (none-in (by_way choices exit) stop)
  ]
]

two-cases : (a m : ℕ) (e : BlockExit) (choices : List Bool) → Contains (by_way (false ∷ []) (ToBlock a) ∷ by_way (true ∷ []) e ∷ []) (by_way choices (ToBlock m))
    → ((choices ≡ false ∷ []) × (m ≡ a)) ⊎ ((choices ≡ true ∷ []) × (e ≡ ToBlock m))
two-cases a m e choices has = elim (either-way a e (ToBlock m) choices has) [
  | inl first ↦ inl (first.0, sym (block-is a m first.1))
  | inr second ↦ inr second
]

-- the second of two ways alone may lead out of the body
out-case : (a : ℕ) (e : BlockExit) (choices : List Bool) → Contains (by_way (false ∷ []) (ToBlock a) ∷ by_way (true ∷ []) e ∷ []) (by_way choices LeavesBody)
    → (choices ≡ true ∷ []) × (e ≡ LeavesBody)
out-case a e choices has = elim (either-way a e LeavesBody choices has) [
  | inl first ↦ absurd (out-not a first.1)
  | inr second ↦ second
]

one-way : (given choices : List Bool) (e exit : BlockExit) → Contains (by_way given e ∷ []) (by_way choices exit) → (choices ≡ given) × (e ≡ exit)
one-way given choices e exit has = elim (first-or (by_way choices exit) (by_way given e) [] has) [
  | inl same ↦ (sym (ap (λ (x : PathWay). x.choices) same), ap (λ (x : PathWay). x.exit) same)
  | inr stop ↦ absurd (none-in (by_way choices exit) stop)
]

one-case : (m : ℕ) (given choices : List Bool) (e : BlockExit) → Contains (by_way given e ∷ []) (by_way choices (ToBlock m)) → (choices ≡ given) × (e ≡ ToBlock m)
one-case m given choices e has = one-way given choices e (ToBlock m) has

-- Which of the ways out of a block are those of a list of choices.

abbrev pub OnlyWay : List PathWay → List Bool → List Bool → ℕ → Type 0
OnlyWay all list choices m =
    (others : List Bool) (k : ℕ) (rest : List Bool) → Contains all (by_way others (ToBlock k)) → list ≡ others ++ rest → (others ≡ choices) × (k ≡ m)

abbrev pub NoWay : List PathWay → List Bool → Type 0
NoWay all list = (others : List Bool) (k : ℕ) (rest : List Bool) → Contains all (by_way others (ToBlock k)) → list ≡ others ++ rest → ⊥

-- no way out of the body is that of the choices
abbrev pub NoWayOut : List PathWay → List Bool → Type 0
NoWayOut all list = (others rest : List Bool) → Contains all (by_way others LeavesBody) → list ≡ others ++ rest → ⊥

-- A walk goes to no block. It takes all choices exactly where there are none, or where they are those of a way out of the
-- body.
pub record Stops (items : ItemTable) (body : Body) (node : ℕ → ℕ → ℕ) (all : List PathWay) (list : List Bool) (out : Out AbstractState) : Type 0 where
  pub fine : IsNotRefused items body node out
  pub no_way : NoWay all list
  pub taken : choices_left out ≡ Some [] → (list ≡ []) ⊎ Contains all (by_way list LeavesBody)
  pub none : list ≡ [] → choices_left out ≡ Some []
  pub by_way_out : Contains all (by_way list LeavesBody) → choices_left out ≡ Some []

module _ (items : ItemTable) (body : Body) (node : ℕ → ℕ → ℕ) (n line : ℕ) (next : Next AbstractState) where
  -- the result of a terminator is stored on its way on
  abbrev pub result_of : Term → ℕ → List PathAction
  result_of term m = if list_any (nat_eq m) (onward term) then at_line n line (map (λ place. (Stores, place)) (stored_by_term term)) else []

  -- a walk leaves by a way, and stores the result there; or it goes to no block
  pub data Leaves (term : Term) (w : AbstractState) (out : Out AbstractState) : Type 0 where
    goes : (choices : List Bool) (m : ℕ) (v : AbstractState) → Contains (ways items body term) (by_way choices (ToBlock m))
        → w.choices ≡ choices ++ v.choices → v.cells ≡ w.cells → out ≡ perform items body node (result_of term m) (next m) v
        → OnlyWay (ways items body term) w.choices choices m → NoWayOut (ways items body term) w.choices → Leaves term w out
    stops : Stops items body node (ways items body term) w.choices out → Leaves term w out

  abbrev with_choices : AbstractState → List Bool → AbstractState
  with_choices w rest = record w { choices = rest }

  not-refused : (halt : Halt) (w : AbstractState) → is_refused halt ≡ false → IsNotRefused items body node (Halts halt w)
  not-refused halt w e other v is = ap is_refused (sym (halts-same items body node halt other w v is)) ∙ e

  unwind-not-refused : (w : AbstractState) → IsNotRefused items body node (Unwind w)
  unwind-not-refused w other v is = absurd (false≢true (ap (λ (o : Out AbstractState). elim o [ Go x ↦ false | Unwind x ↦ false | Halts halt x ↦ true ]) is))

  go-not-refused : (w : AbstractState) → IsNotRefused items body node (Go w)
  go-not-refused w other v is = absurd (false≢true (ap (λ (o : Out AbstractState). elim o [ Go x ↦ false | Unwind x ↦ false | Halts halt x ↦ true ]) is))

  -- it goes out of the body by a way
  leaves-body : (all : List PathWay) (list choices rest : List Bool) (out : Out AbstractState) → IsNotRefused items body node out → choices_left out ≡ Some rest
      → Contains all (by_way choices LeavesBody) → list ≡ choices ++ rest
      → ((others : List Bool) (k : ℕ) (more : List Bool) → Contains all (by_way others (ToBlock k)) → list ≡ others ++ more → (others ≡ choices) × (LeavesBody ≡ ToBlock k))
      → ((others : List Bool) → Contains all (by_way others LeavesBody) → others ≡ choices)
      → Stops items body node all list out
  leaves-body all list choices rest out fine left has is only only_out = record {
    fine = fine;
    no_way = λ others k more there same. not-out k (only others k more there same).1;
    taken = λ e. inr (subst (λ (z : List Bool). Contains all (by_way z LeavesBody)) (sym (whole (same_Some rest [] (sym left ∙ e)))) has);
    none = λ e. left ∙ ap (λ (z : List Bool). Some z) (both choices (sym is ∙ e));
    by_way_out = λ c. left ∙ ap (λ (z : List Bool). Some z) (append_cancel_left choices rest [] (sym is ∙ only_out list c ∙ sym (append-nil choices)));
  }
    where
      whole : rest ≡ [] → list ≡ choices
      whole e = is ∙ ap (λ (z : List Bool). choices ++ z) e ∙ append-nil choices

      both : (choices : List Bool) → choices ++ rest ≡ [] → rest ≡ []
      both [] e = e
      both (x ∷ xs) e = absurd (no-cons x (xs ++ rest) e)

  -- there is no choice left that it wants
  wants-more : (all : List PathWay) (list : List Bool) (out : Out AbstractState) → IsNotRefused items body node out → choices_left out ≡ Some list → list ≡ []
      → NoWay all list → NoWayOut all list → Stops items body node all list out
  wants-more all list out fine left e no_way no_out = record {
    fine = fine;
    no_way = no_way;
    taken = λ h. inl e;
    none = λ h. left ∙ ap (λ (z : List Bool). Some z) e;
    by_way_out = λ c. absurd (no_out list [] c (sym (append-nil list)));
  }

  -- by a panic, where it is the way that is taken
  panics : (term : Term) (unwind : UnwindTo) (w v : AbstractState) (choices : List Bool)
      → Contains (ways items body term) (by_way choices (unwind_exit unwind))
      → ((b : ℕ) → unwind ≡ UnwindTo.Block b → result_of term b ≡ [])
      → w.choices ≡ choices ++ v.choices → v.cells ≡ w.cells
      → ((others : List Bool) (k : ℕ) (rest : List Bool) → Contains (ways items body term) (by_way others (ToBlock k)) → w.choices ≡ others ++ rest → (others ≡ choices) × (unwind_exit unwind ≡ ToBlock k))
      → ((others : List Bool) → Contains (ways items body term) (by_way others LeavesBody) → (others ≡ choices) × (unwind_exit unwind ≡ LeavesBody))
      → Leaves term w (unwinding unwind next v)
  panics term (UnwindTo.Block b) w v choices has none is cells only only_out =
      goes choices b v has is cells (ap (λ (z : List PathAction). perform items body node z (next b) v) (sym (none b refl)))
      (λ others k rest there same. let it = only others k rest there same in (it.0, sym (block-is b k it.1)))
      (λ others rest there same. out-not b (only_out others there).1)
  panics term UnwindTo.Resume w v choices has none is cells only only_out =
      stops (leaves-body (ways items body term) w.choices choices v.choices (Unwind v) (unwind-not-refused v) refl has is only (λ others there. (only_out others there).0))
  panics term UnwindTo.Abort w v choices has none is cells only only_out =
      stops (leaves-body (ways items body term) w.choices choices v.choices (Halts Aborted v) (not-refused Aborted v refl) refl has is only (λ others there. (only_out others there).0))

  -- two ways: on, or by a panic
  module _ (term : Term) (a : ℕ) (unwind : UnwindTo) (ways-are : ways items body term ≡ by_way (false ∷ []) (ToBlock a) ∷ by_way (true ∷ []) (unwind_exit unwind) ∷ [])
      (elsewhere : (b : ℕ) → unwind ≡ UnwindTo.Block b → result_of term b ≡ []) where
    abbrev here-on : Contains (ways items body term) (by_way (false ∷ []) (ToBlock a))
    here-on = subst (λ (z : List PathWay). Contains z (by_way (false ∷ []) (ToBlock a))) (sym ways-are) (here (by_way (false ∷ []) (ToBlock a)) (by_way (true ∷ []) (unwind_exit unwind) ∷ []))

    abbrev here-panic : Contains (ways items body term) (by_way (true ∷ []) (unwind_exit unwind))
    here-panic = subst (λ (z : List PathWay). Contains z (by_way (true ∷ []) (unwind_exit unwind))) (sym ways-are)
        (there (by_way (true ∷ []) (unwind_exit unwind)) (by_way (false ∷ []) (ToBlock a)) (by_way (true ∷ []) (unwind_exit unwind) ∷ []) (here (by_way (true ∷ []) (unwind_exit unwind)) []))

    cases : (others : List Bool) (k : ℕ) → Contains (ways items body term) (by_way others (ToBlock k)) → ((others ≡ false ∷ []) × (k ≡ a)) ⊎ ((others ≡ true ∷ []) × (unwind_exit unwind ≡ ToBlock k))
    cases others k has = two-cases a k (unwind_exit unwind) others (subst (λ (z : List PathWay). Contains z (by_way others (ToBlock k))) ways-are has)

    cases-out : (others : List Bool) → Contains (ways items body term) (by_way others LeavesBody) → (others ≡ true ∷ []) × (unwind_exit unwind ≡ LeavesBody)
    cases-out others has = out-case a (unwind_exit unwind) others (subst (λ (z : List PathWay). Contains z (by_way others LeavesBody)) ways-are has)

    two : (w : AbstractState) (out : List Bool → Out AbstractState) → IsNotRefused items body node (out []) → choices_left (out []) ≡ Some w.choices
        → ((rest : List Bool) → out (false ∷ rest) ≡ perform items body node (result_of term a) (next a) (with_choices w rest))
        → ((rest : List Bool) → out (true ∷ rest) ≡ unwinding unwind next (with_choices w rest))
        → Leaves term w (out w.choices)
    two w out stuck left on-way panic = by w.choices refl
      where
        by : (list : List Bool) → w.choices ≡ list → Leaves term w (out list)
        by [] e = stops (wants-more (ways items body term) w.choices (out []) stuck left e
            (λ others k rest has is. elim (cases others k has) [
              | inl first ↦ nil-cons false rest (sym e ∙ is ∙ ap (λ (z : List Bool). z ++ rest) first.0)
              | inr second ↦ nil-cons true rest (sym e ∙ is ∙ ap (λ (z : List Bool). z ++ rest) second.0)
            ])
            (λ others rest has is. nil-cons true rest (sym e ∙ is ∙ ap (λ (z : List Bool). z ++ rest) (cases-out others has).0)))
        by (false ∷ rest) e = goes (false ∷ []) a (with_choices w rest) here-on e refl (on-way rest)
            (λ others k more has is. elim (cases others k has) [
              | inl first ↦ (first.0, first.1)
              | inr second ↦ absurd (false≢true (first-is false true rest more (sym e ∙ is ∙ ap (λ (z : List Bool). z ++ more) second.0)))
            ])
            (λ others more has is. false≢true (first-is false true rest more (sym e ∙ is ∙ ap (λ (z : List Bool). z ++ more) (cases-out others has).0)))
        by (true ∷ rest) e = subst (Leaves term w) (sym (panic rest))
            (panics term unwind w (with_choices w rest) (true ∷ []) here-panic elsewhere e refl
            (λ others k more has is. elim (cases others k has) [
              | inl first ↦ absurd (true-false (first-is true false rest more (sym e ∙ is ∙ ap (λ (z : List Bool). z ++ more) first.0)))
              | inr second ↦ (second.0, second.1)
            ]) cases-out)

  -- a call that never returns leaves by a panic alone
  module _ (term : Term) (unwind : UnwindTo) (ways-are : ways items body term ≡ by_way (true ∷ []) (unwind_exit unwind) ∷ [])
      (elsewhere : (b : ℕ) → unwind ≡ UnwindTo.Block b → result_of term b ≡ []) where
    cases-second : (others : List Bool) (k : ℕ) → Contains (ways items body term) (by_way others (ToBlock k)) → (others ≡ true ∷ []) × (unwind_exit unwind ≡ ToBlock k)
    cases-second others k has = one-case k (true ∷ []) others (unwind_exit unwind) (subst (λ (z : List PathWay). Contains z (by_way others (ToBlock k))) ways-are has)

    out-second : (others : List Bool) → Contains (ways items body term) (by_way others LeavesBody) → (others ≡ true ∷ []) × (unwind_exit unwind ≡ LeavesBody)
    out-second others has = one-way (true ∷ []) others (unwind_exit unwind) LeavesBody (subst (λ (z : List PathWay). Contains z (by_way others LeavesBody)) ways-are has)

    second : (w : AbstractState) (out : List Bool → Out AbstractState) → IsNotRefused items body node (out []) → choices_left (out []) ≡ Some w.choices
        → ((rest : List Bool) → IsNotRefused items body node (out (false ∷ rest)) × (choices_left (out (false ∷ rest)) ≡ None))
        → ((rest : List Bool) → out (true ∷ rest) ≡ unwinding unwind next (with_choices w rest))
        → Leaves term w (out w.choices)
    second w out stuck left infeasible panic = by w.choices refl
      where
        by : (list : List Bool) → w.choices ≡ list → Leaves term w (out list)
        by [] e = stops (wants-more (ways items body term) w.choices (out []) stuck left e
            (λ others k rest has is. nil-cons true rest (sym e ∙ is ∙ ap (λ (z : List Bool). z ++ rest) (cases-second others k has).0))
            (λ others rest has is. nil-cons true rest (sym e ∙ is ∙ ap (λ (z : List Bool). z ++ rest) (out-second others has).0)))
        by (false ∷ rest) e = stops (record {
          fine = (infeasible rest).0;
          no_way = λ others k more has is. false≢true (first-is false true rest more (sym e ∙ is ∙ ap (λ (z : List Bool). z ++ more) (cases-second others k has).0));
          taken = λ h. absurd (none-some [] (sym (infeasible rest).1 ∙ h));
          none = λ h. absurd (no-cons false rest (sym e ∙ h));
          by_way_out = λ c. absurd (false≢true (first-is false true rest [] (sym e ∙ (out-second w.choices c).0)));
        })
        by (true ∷ rest) e = subst (Leaves term w) (sym (panic rest))
            (panics term unwind w (with_choices w rest) (true ∷ [])
            (subst (λ (z : List PathWay). Contains z (by_way (true ∷ []) (unwind_exit unwind))) (sym ways-are) (here (by_way (true ∷ []) (unwind_exit unwind)) []))
            elsewhere e refl (λ others k more has is. cases-second others k has) out-second)

  -- a way without a choice
  only-way : (term : Term) (a : ℕ) (w : AbstractState) → ways items body term ≡ by_way [] (ToBlock a) ∷ [] → result_of term a ≡ [] → Leaves term w (next a w)
  only-way term a w ways-are none =
      goes [] a w (subst (λ (z : List PathWay). Contains z (by_way [] (ToBlock a))) (sym ways-are) (here (by_way [] (ToBlock a)) [])) refl refl
      (ap (λ (z : List PathAction). perform items body node z (next a) w) (sym none))
      (λ others k rest has is. let it = one-case k [] others (ToBlock a) (subst (λ (z : List PathWay). Contains z (by_way others (ToBlock k))) ways-are has) in (it.0, sym (block-is a k it.1)))
      (λ others rest has is. out-not a (one-way [] others (ToBlock a) LeavesBody (subst (λ (z : List PathWay). Contains z (by_way others LeavesBody)) ways-are has)).1)

  no-way : (term : Term) (w : AbstractState) (out : Out AbstractState) → ways items body term ≡ [] → IsNotRefused items body node out → choices_left out ≡ Some w.choices → Leaves term w out
  no-way term w out ways-are fine left = stops (record {
    fine = fine;
    no_way = λ others k rest has is. none-in (by_way others (ToBlock k)) (subst (λ (z : List PathWay). Contains z (by_way others (ToBlock k))) ways-are has);
    taken = λ e. inl (same_Some w.choices [] (sym left ∙ e));
    none = λ e. left ∙ ap (λ (z : List Bool). Some z) e;
    by_way_out = λ c. absurd (none-in (by_way w.choices LeavesBody) (subst (λ (z : List PathWay). Contains z (by_way w.choices LeavesBody)) ways-are c));
  })

  -- Results.

  nothing : (b : Bool) → (if b then at_line n line [] else []) ≡ []
  nothing true = refl
  nothing false = refl

  stored-on : (a : ℕ) (uses : List (PlaceUse × Place)) → (if list_any (nat_eq a) (a ∷ []) then at_line n line uses else []) ≡ at_line n line uses
  stored-on a uses = ap (λ (b : Bool). if b || false then at_line n line uses else []) (eq-eqb a a refl)

  abbrev pub Elsewhere : Term → Type 0
  Elsewhere term = (m : ℕ) → Contains (onward term) m → Contains (unwind_targets term) m → ⊥

  stored-off : (a b : ℕ) (uses : List (PlaceUse × Place)) → (a ≡ b → ⊥) → (if list_any (nat_eq b) (a ∷ []) then at_line n line uses else []) ≡ []
  stored-off a b uses apart = by (nat_eq b a) refl
    where
      by : (e : Bool) → nat_eq b a ≡ e → (if e || false then at_line n line uses else []) ≡ []
      by true is = absurd (apart (sym (eqb-true b a is)))
      by false is = refl

  off : (a : ℕ) (unwind : UnwindTo) (uses : List (PlaceUse × Place)) → ((m : ℕ) → Contains (a ∷ []) m → Contains (unwind_block unwind ++ []) m → ⊥)
      → (b : ℕ) → unwind ≡ UnwindTo.Block b → (if list_any (nat_eq b) (a ∷ []) then at_line n line uses else []) ≡ []
  off a unwind uses apart b is =
      stored-off a b uses
      (λ same. apart b (subst (Contains (a ∷ [])) same (here a [])) (subst (λ (u : UnwindTo). Contains (unwind_block u ++ []) b) (sym is) (here b [])))

  -- Terminators.

  abbrev named_effects : Effects AbstractState
  named_effects = all_effects items body node n

  abbrev naming_halts : Halt → Halt
  naming_halts = stuck_in 0 n

  -- what goes on from an effect with a way on and a way by which it panics
  abbrev from_effect : ℕ → UnwindTo → Out AbstractState → Out AbstractState
  from_effect a unwind o = acts (renamed naming_halts o) next a unwind

  from-passes : (a : ℕ) (unwind : UnwindTo) → Passes (from_effect a unwind)
  from-passes a unwind = record { bad_use = λ site w. refl; bad_store = λ site w. refl; unreachable = λ w. refl; no_choice = λ w. refl; infeasible = λ w. refl }

  abbrev from_choice : (if_true if_false : ℕ) → Out AbstractState → Out AbstractState
  from_choice if_true if_false o = branch (renamed_choice naming_halts (choice_after o)) (next if_true) (next if_false)

  choice-passes : (if_true if_false : ℕ) → Passes (from_choice if_true if_false)
  choice-passes if_true if_false = record { bad_use = λ site w. refl; bad_store = λ site w. refl; unreachable = λ w. refl; no_choice = λ w. refl; infeasible = λ w. refl }

  abbrev Performs : Term → List PathAction → List (PlaceUse × Place) → AbstractState → Out AbstractState → Type 0
  Performs term done uses w out = Performed items body node done (at_line n line uses) (Leaves term) w out

  -- operands, and then what is told of a state
  operands-then : (term : Term) (c k : AbstractState → Out AbstractState) (done : List PathAction) (uses : List (PlaceUse × Place)) (w : AbstractState) (out : Out AbstractState)
      → out ≡ perform items body node (at_line n line uses) k w → ((v : AbstractState) → Leaves term v (k v)) → Tells items body w done
      → Performs term done uses w out
  operands-then term c k done uses w out is leaves tells =
      subst (Performs term done uses w) (sym is) (performed items body node (Leaves term) k leaves (at_line n line uses) done w tells)

  unwinding-by : (v : Bool) (a : ℕ) (unwind : UnwindTo) (w : AbstractState) → from_effect a unwind (halting_if v Unreachable (Unwind w)) ≡ unwinding unwind next w
  unwinding-by true a unwind w = refl
  unwinding-by false a unwind w = refl

  no-choice-by : (v : Bool) (a : ℕ) (unwind : UnwindTo) (w : AbstractState) → IsNotRefused items body node (from_effect a unwind (halting_if v Unreachable (Halts NoChoice w)))
  no-choice-by true a unwind w = not-refused NoChoice w refl
  no-choice-by false a unwind w = not-refused NoChoice w refl

  left-by : (v : Bool) (a : ℕ) (unwind : UnwindTo) (w : AbstractState) → choices_left (from_effect a unwind (halting_if v Unreachable (Halts NoChoice w))) ≡ Some w.choices
  left-by true a unwind w = refl
  left-by false a unwind w = refl

  none-by : (v : Bool) (a : ℕ) (unwind : UnwindTo) (w : AbstractState) → choices_left (from_effect a unwind (halting_if v Unreachable (Halts Infeasible w))) ≡ None
  none-by true a unwind w = refl
  none-by false a unwind w = refl

  infeasible-by : (v : Bool) (a : ℕ) (unwind : UnwindTo) (w : AbstractState) → IsNotRefused items body node (from_effect a unwind (halting_if v Unreachable (Halts Infeasible w)))
  infeasible-by true a unwind w = not-refused Infeasible w refl
  infeasible-by false a unwind w = not-refused Infeasible w refl

  abbrev locals : ℕ → Option TyId
  locals = slice_get body.locals

  abbrev place_site : Place → EffectSite
  place_site place = site_of (node n line) place

  abbrev never_to : Place → Bool
  never_to to = never_at items locals (place_site to)

  -- a result that is computed, and one of a call
  computed : (term : Term) (to : Place) (a : ℕ) (unwind : UnwindTo)
      → ways items body term ≡ by_way (false ∷ []) (ToBlock a) ∷ by_way (true ∷ []) (unwind_exit unwind) ∷ []
      → result_of term a ≡ at_line n line (stored to)
      → ((b : ℕ) → unwind ≡ UnwindTo.Block b → result_of term b ≡ [])
      → (v : AbstractState) → Leaves term v (from_effect a unwind (halting_if (never_to to) Unreachable (computed_by_choice items locals (place_site to) v)))
  computed term to a unwind ways-are result elsewhere v =
      two term a unwind ways-are elsewhere v (λ list. from_effect a unwind (halting_if (never_to to) Unreachable (next_choice list v (store items locals (place_site to)) Unwind)))
      (no-choice-by (never_to to) a unwind v) (left-by (never_to to) a unwind v)
      (λ rest. store-is items body node n line (from_effect a unwind) (from-passes a unwind) to (next a) (λ w. refl) (with_choices v rest)
      ∙ ap (λ (z : List PathAction). perform items body node z (next a) (with_choices v rest)) (sym result))
      (λ rest. unwinding-by (never_to to) a unwind (with_choices v rest))

  returned : (term : Term) (to : Place) (a : ℕ) (unwind : UnwindTo) (never : Bool) → never_to to ≡ never
      → ways items body term ≡ (if never then by_way (true ∷ []) (unwind_exit unwind) ∷ [] else by_way (false ∷ []) (ToBlock a) ∷ by_way (true ∷ []) (unwind_exit unwind) ∷ [])
      → result_of term a ≡ at_line n line (stored to)
      → ((b : ℕ) → unwind ≡ UnwindTo.Block b → result_of term b ≡ [])
      → (v : AbstractState) → Leaves term v (from_effect a unwind (halting_if (never_to to) Unreachable (returns_by_choice items locals (place_site to) v)))
  returned term to a unwind true e ways-are result elsewhere v =
      second term unwind ways-are elsewhere v (λ list. from_effect a unwind (halting_if (never_to to) Unreachable (next_choice list v (if never_to to then Halts Infeasible else store items locals (place_site to)) Unwind)))
      (no-choice-by (never_to to) a unwind v) (left-by (never_to to) a unwind v)
      (λ rest. (
        subst (λ (b : Bool). IsNotRefused items body node (from_effect a unwind (halting_if (never_to to) Unreachable ((if b then Halts Infeasible else store items locals (place_site to)) (with_choices v rest))))) (sym e)
            (infeasible-by (never_to to) a unwind (with_choices v rest)),
        ap (λ (b : Bool). choices_left (from_effect a unwind (halting_if (never_to to) Unreachable ((if b then Halts Infeasible else store items locals (place_site to)) (with_choices v rest))))) e
            ∙ none-by (never_to to) a unwind (with_choices v rest),
      ))
      (λ rest. unwinding-by (never_to to) a unwind (with_choices v rest))
  returned term to a unwind false e ways-are result elsewhere v =
      two term a unwind ways-are elsewhere v (λ list. from_effect a unwind (halting_if (never_to to) Unreachable (next_choice list v (if never_to to then Halts Infeasible else store items locals (place_site to)) Unwind)))
      (no-choice-by (never_to to) a unwind v) (left-by (never_to to) a unwind v)
      (λ rest. ap (λ (b : Bool). from_effect a unwind (halting_if (never_to to) Unreachable ((if b then Halts Infeasible else store items locals (place_site to)) (with_choices v rest)))) e
      ∙ store-is items body node n line (from_effect a unwind) (from-passes a unwind) to (next a) (λ w. refl) (with_choices v rest)
      ∙ ap (λ (z : List PathAction). perform items body node z (next a) (with_choices v rest)) (sym result))
      (λ rest. unwinding-by (never_to to) a unwind (with_choices v rest))

  -- a test
  chosen : (term : Term) (if_true if_false : ℕ) → ways items body term ≡ by_way (false ∷ []) (ToBlock if_false) ∷ by_way (true ∷ []) (ToBlock if_true) ∷ []
      → ((m : ℕ) → result_of term m ≡ []) → (v : AbstractState) → Leaves term v (from_choice if_true if_false (Go v))
  chosen term if_true if_false ways-are none v =
      two term if_false (UnwindTo.Block if_true) ways-are (λ b is. none b) v (λ list. branch (renamed_choice naming_halts (chosen_next list v)) (next if_true) (next if_false))
      (not-refused NoChoice v refl) refl
      (λ rest. ap (λ (z : List PathAction). perform items body node z (next if_false) (with_choices v rest)) (sym (none if_false)))
      (λ rest. refl)

  -- one use, where it may be made
  one-performed : (term : Term) (how : PlaceUse) (place : Place) (done : List PathAction) (w : AbstractState) (out : Out AbstractState)
      → ends_runs items body (record { how = how; place = named place; block = n; line = line }) ≡ false
      → Leaves term (left_by items body (record { how = how; place = named place; block = n; line = line }) w) out → Tells items body w done
      → Performs term done ((how, place) ∷ []) w
      (when (allowed how (watched_of items body (named place)) (presence place.local w.cells)) (halt_by (rule_of how) (place_site place)) (λ u. out) w)
  one-performed term how place done w out lasts leaves tells =
      by (allowed how (watched_of items body (named place)) (presence place.local w.cells)) (is_bad items body done a how) refl
      (ap (allowed how (watched_of items body (named place))) (tells place.local) ∙ is-allowed items body done a)
    where
      a : PathAction
      a = record { how = how; place = named place; block = n; line = line }

      bad : Bad
      bad = record { rule = rule_of how; action = a }

      by : (may b : Bool) → is_bad items body done a how ≡ b → may ≡ not (is_bad items body done a how)
          → Performs term done ((how, place) ∷ []) w (when may (halt_by (rule_of how) (place_site place)) (λ u. out) w)
      by may true e m =
          subst (λ (z : Bool). Performs term done ((how, place) ∷ []) w (when z (halt_by (rule_of how) (place_site place)) (λ u. out) w)) (sym (m ∙ ap not e))
          (met bad w refl refl (ap (λ (z : Bool). if z then Some bad else None) e)
          (ap (λ (z : Bool). list_any (ends_runs items body) (if z then [] else a ∷ [])) e))
      by may false e m =
          subst (λ (z : Bool). Performs term done ((how, place) ∷ []) w (when z (halt_by (rule_of how) (place_site place)) (λ u. out) w)) (sym (m ∙ ap not e))
          (on (left_by items body a w) leaves (left-tells items body a w done tells) (left-choices items body a w)
          (ap (λ (z : Bool). if z then Some bad else None) e) (ap (λ (z : Bool). z || false) lasts))

  -- a drop, whether it needs a choice or not
  abbrev after_drop : Place → AbstractState → AbstractState
  after_drop place w = after items locals true (place_site place) w

  dropping : (place : Place) (a : ℕ) (unwind : UnwindTo) (needs : Bool)
      → ways items body (Term.DropAt place a unwind) ≡ (if needs then by_way (false ∷ []) (ToBlock a) ∷ by_way (true ∷ []) (unwind_exit unwind) ∷ [] else by_way [] (ToBlock a) ∷ [])
      → (w : AbstractState) → Leaves (Term.DropAt place a unwind) (after_drop place w) (from_effect a unwind (dropped items locals needs (mode_of unwind) (place_site place) w))
  dropping place a unwind true ways-are w =
      two (Term.DropAt place a unwind) a unwind ways-are (λ b is. nothing (list_any (nat_eq b) (a ∷ []))) (after_drop place w)
      (λ list. from_effect a unwind (next_choice list w (λ w. Go (after_drop place w)) (λ w. unwound items locals (mode_of unwind) (after_drop place w))))
      (not-refused NoChoice w refl) refl
      (λ rest. ap (λ (z : List PathAction). perform items body node z (next a) (with_choices (after_drop place w) rest)) (sym (nothing (list_any (nat_eq a) (a ∷ [])))))
      (λ rest. by unwind (with_choices (after_drop place w) rest))
    where
      by : (unwind : UnwindTo) (v : AbstractState) → from_effect a unwind (unwound items locals (mode_of unwind) v) ≡ unwinding unwind next v
      by (UnwindTo.Block b) v = refl
      by UnwindTo.Resume v = refl
      by UnwindTo.Abort v = refl
  dropping place a unwind false ways-are w =
      only-way (Term.DropAt place a unwind) a (after_drop place w) ways-are (nothing (list_any (nat_eq a) (a ∷ [])))

  -- the ways of a call, and of a drop
  call-ways : (never : Bool) (a : ℕ) (unwind : UnwindTo)
      → (if never then by_way (true ∷ []) (unwind_exit unwind) ∷ [] else by_way (false ∷ []) (ToBlock a) ∷ by_way (true ∷ []) (unwind_exit unwind) ∷ [])
      ≡ (if never then by_way (true ∷ []) (unwind_exit unwind) ∷ [] else by_way (false ∷ []) (ToBlock a) ∷ by_way (true ∷ []) (unwind_exit unwind) ∷ [])
  call-ways true a unwind = refl
  call-ways false a unwind = refl

  drop-ways : (needs : Bool) (a : ℕ) (unwind : UnwindTo)
      → (if needs then by_way (false ∷ []) (ToBlock a) ∷ by_way (true ∷ []) (unwind_exit unwind) ∷ [] else by_way [] (ToBlock a) ∷ [])
      ≡ (if needs then by_way (false ∷ []) (ToBlock a) ∷ by_way (true ∷ []) (unwind_exit unwind) ∷ [] else by_way [] (ToBlock a) ∷ [])
  drop-ways needs a unwind = refl

  abbrev needed : Place → Bool
  needed place = option_map_or (needs_drop items) (place_id items body.locals place) false

  abbrev used_up : List Operand → List (PlaceUse × Place)
  used_up operands = flat_map operand_uses operands

  -- operands, and then a result or none
  all-then : (term : Term) (operands : List Operand) (v : Bool) (a : ℕ) (unwind : UnwindTo) (k : AbstractState → Out AbstractState) (done : List PathAction) (w : AbstractState)
      → ((u : AbstractState) → Leaves term u (from_effect a unwind (halting_if v Unreachable (k u)))) → Tells items body w done
      → Performs term done (used_up operands ++ []) w (from_effect a unwind (halting_if v Unreachable (operands_used items locals (operands_of (node n line) operands) k w)))
  all-then term operands v a unwind k done w leaves tells =
      subst (λ (z : List (PlaceUse × Place)). Performs term done z w (from_effect a unwind (halting_if v Unreachable (operands_used items locals (operands_of (node n line) operands) k w)))) (sym (append-nil (used_up operands)))
      (operands-then term Go (λ u. from_effect a unwind (halting_if v Unreachable (k u))) done (used_up operands) w _
      (all-used items body node n line (λ o. from_effect a unwind (halting_if v Unreachable o)) (lasting-passes items body node n line v (from_effect a unwind) (from-passes a unwind)) operands k
      (λ u. from_effect a unwind (halting_if v Unreachable (k u))) (λ u. refl) w)
      leaves tells)

  on-go : (o : Out AbstractState) → on_go o Go ≡ o
  on-go (Go w) = refl
  on-go (Unwind w) = refl
  on-go (Halts halt w) = refl

  pub term-performs : (term : Term) → Elsewhere term → (done : List PathAction) (w : AbstractState) → Tells items body w done
      → Performs term done (term_uses term) w (term_does named_effects (node n line) term next w)
  term-performs (Term.Goto b) apart done w tells =
      performed items body node (Leaves (Term.Goto b)) (next b) (λ v. only-way (Term.Goto b) b v refl (nothing (list_any (nat_eq b) (b ∷ [])))) [] done w tells
  term-performs (Term.If operand if_true if_false) apart done w tells =
      subst (λ (o : Out AbstractState). Performs (Term.If operand if_true if_false) done (used_up (operand ∷ []) ++ []) w (from_choice if_true if_false o)) (on-go (operand_used items locals (operand_of (node n line) operand) w))
      (subst (λ (z : List (PlaceUse × Place)). Performs (Term.If operand if_true if_false) done z w (from_choice if_true if_false (operands_used items locals (operands_of (node n line) (operand ∷ [])) Go w))) (sym (append-nil (used_up (operand ∷ []))))
      (operands-then (Term.If operand if_true if_false) Go (λ u. from_choice if_true if_false (Go u)) done (used_up (operand ∷ [])) w _
      (all-used items body node n line (from_choice if_true if_false) (choice-passes if_true if_false) (operand ∷ []) Go (λ u. from_choice if_true if_false (Go u)) (λ u. refl) w)
      (chosen (Term.If operand if_true if_false) if_true if_false refl (λ m. nothing (list_any (nat_eq m) (if_false ∷ if_true ∷ [])))) tells))
  term-performs (Term.Case place variant if_true if_false) apart done w tells =
      by (allowed Tests (watched_of items body (named place)) (presence place.local w.cells))
      (one-performed (Term.Case place variant if_true if_false) Tests place done w (from_choice if_true if_false (Go w)) refl
      (chosen (Term.Case place variant if_true if_false) if_true if_false refl (λ m. nothing (list_any (nat_eq m) (if_false ∷ if_true ∷ []))) w) tells)
    where
      by : (may : Bool) → Performs (Term.Case place variant if_true if_false) done ((Tests, place) ∷ []) w (when may (BadUse (place_site place)) (λ u. from_choice if_true if_false (Go w)) w)
          → Performs (Term.Case place variant if_true if_false) done ((Tests, place) ∷ []) w (from_choice if_true if_false (when may (BadUse (place_site place)) Go w))
      by true it = it
      by false it = it
  term-performs (Term.Math to op left right a unwind) apart done w tells =
      all-then (Term.Math to op left right a unwind) (left ∷ right ∷ []) (never_to to) a unwind (computed_by_choice items locals (place_site to)) done w
      (computed (Term.Math to op left right a unwind) to a unwind refl (stored-on a (stored to)) (off a unwind (stored to) apart)) tells
  term-performs (Term.Negate to operand a unwind) apart done w tells =
      all-then (Term.Negate to operand a unwind) (operand ∷ []) (never_to to) a unwind (computed_by_choice items locals (place_site to)) done w
      (computed (Term.Negate to operand a unwind) to a unwind refl (stored-on a (stored to)) (off a unwind (stored to) apart)) tells
  term-performs (Term.Bounds index count a unwind) apart done w tells =
      all-then (Term.Bounds index count a unwind) (index ∷ []) false a unwind (λ v. panics_by_choice v Go) done w
      (λ v. two (Term.Bounds index count a unwind) a unwind refl (λ b is. nothing (list_any (nat_eq b) (a ∷ []))) v (λ list. from_effect a unwind (next_choice list v Go Unwind))
      (not-refused NoChoice v refl) refl
      (λ rest. ap (λ (z : List PathAction). perform items body node z (next a) (with_choices v rest)) (sym (nothing (list_any (nat_eq a) (a ∷ [])))))
      (λ rest. refl)) tells
  term-performs (Term.Call to callee args a unwind) apart done w tells =
      all-then (Term.Call to callee args a unwind) args (never_to to) a unwind (returns_by_choice items locals (place_site to)) done w
      (returned (Term.Call to callee args a unwind) to a unwind (never_to to) refl (call-ways (never_to to) a unwind) (stored-on a (stored to)) (off a unwind (stored to) apart)) tells
  term-performs (Term.Virtual to trait_no method args a unwind) apart done w tells =
      all-then (Term.Virtual to trait_no method args a unwind) args (never_to to) a unwind (returns_by_choice items locals (place_site to)) done w
      (returned (Term.Virtual to trait_no method args a unwind) to a unwind (never_to to) refl (call-ways (never_to to) a unwind) (stored-on a (stored to)) (off a unwind (stored to) apart)) tells
  term-performs (Term.Ask to a unwind) apart done w tells =
      all-then (Term.Ask to a unwind) [] (never_to to) a unwind (computed_by_choice items locals (place_site to)) done w
      (computed (Term.Ask to a unwind) to a unwind refl (stored-on a (stored to)) (off a unwind (stored to) apart)) tells
  term-performs (Term.DropAt place a unwind) apart done w tells =
      by (allowed Drops (watched_of items body (named place)) (presence place.local w.cells))
      (one-performed (Term.DropAt place a unwind) Drops place done w (from_effect a unwind (dropped items locals (needed place) (mode_of unwind) (place_site place) w)) refl
      (dropping place a unwind (needed place) (drop-ways (needed place) a unwind) w) tells)
    where
      by : (may : Bool)
          → Performs (Term.DropAt place a unwind) done ((Drops, place) ∷ []) w (when may (BadStore (place_site place)) (λ u. from_effect a unwind (dropped items locals (needed place) (mode_of unwind) (place_site place) w)) w)
          → Performs (Term.DropAt place a unwind) done ((Drops, place) ∷ []) w (from_effect a unwind (when may (BadStore (place_site place)) (dropped items locals (needed place) (mode_of unwind) (place_site place)) w))
      by true it = it
      by false it = it
  term-performs (Term.Panic why unwind) apart done w tells =
      performed items body node (Leaves (Term.Panic why unwind)) (unwinding unwind next)
      (λ v. panics (Term.Panic why unwind) unwind v v [] (here (by_way [] (unwind_exit unwind)) []) (λ b is. refl) refl refl
      (λ others k rest has is. one-case k [] others (unwind_exit unwind) has)
      (λ others has. one-way [] others (unwind_exit unwind) LeavesBody has)) [] done w tells
  term-performs Term.Return apart done w tells =
      performed items body node (Leaves Term.Return) Go (λ v. no-way Term.Return v (Go v) refl (go-not-refused v) refl) [] done w tells
  term-performs Term.Resume apart done w tells =
      performed items body node (Leaves Term.Resume) Unwind (λ v. no-way Term.Resume v (Unwind v) refl (unwind-not-refused v) refl) [] done w tells
