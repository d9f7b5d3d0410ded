-- What is owed of the tests of terminators is met, and so all that is owed of a terminator that is no drop.
use Rattle.std.proofs.Common.{◌≡◌, ◌⊎◌, inl, inr, ℕ, ◌≤◌, ◌<◌, true, false, List, [], ◌∷◌, ◌++◌, flat_map, length, Option, Some, None, slice_get, refl, ap, subst, arith}
use Rattle.std.proofs.lemmas.Option.{none-some}
use Rattle.mir_base.specs.declared.trace.Event.{Event}
use Rattle.mir_base.specs.declared.trace.Why.{Why}
use Rattle.mir_ty.specs.declared.ty.Ty.{Ty}
use Rattle.mir_ty.specs.declared.ty.TyId.{TyId}
use Rattle.mir_ty.specs.ItemTable.{ItemTable, type_at}
use Rattle.cfg_graph.specs.declared.graph.Block.{Block}
use Rattle.cfg_graph.specs.declared.graph.Body.{Body}
use Rattle.cfg_graph.specs.declared.place.Operand.{Operand}
use Rattle.cfg_graph.specs.declared.place.Place as graph
use Rattle.cfg_graph.specs.declared.terminator.Term.{Term}
use Rattle.cfg_graph.specs.Moves.Actions.{at_line}
use Rattle.cfg_graph.specs.Moves.Gone.{PathAction}
use Rattle.cfg_graph.specs.Places.{named, place_id, ty_of_place}
use Rattle.cfg_graph.specs.Uses.{Stores, Tests, operand_uses, operands_of_term, stored_by_term, other_term_uses, term_uses}
use Rattle.cfg_graph.specs.WellFormed.Typing.{is_typed_place}
use Rattle.cfg_meaning.specs.Actions.{site_of, operand_of}
use Rattle.cfg_meaning.specs.Walk.{naming}
use Rattle.store_model.specs.declared.address.Addr.{Addr}
use Rattle.store_model.proofs.Concrete.Effects.{ticks_of, values_laws, Thrifty}
use Rattle.store_model.proofs.Effects.Laws.{NoMoreOf}
use Rattle.store_model.specs.Concrete.Effects.{choose, concrete_effects}
use Rattle.store_model.specs.Concrete.Location.{Setting}
use Rattle.store_model.specs.Concrete.State.{State, Bodies, with_event}
use Rattle.store_model.specs.Effects as effects
use Rattle.store_model.specs.Effects.{Action, Test, Yes, No, Out, Halts}
use Rattle.store_model.specs.Places.Place.{Place}
use Rattle.store_model.specs.Places.TypeForms.{is_never}
use Rattle.store_model.specs.Values.Datum.{Datum}
use Rattle.drop_values.specs.Like.{Flags, Like, SameBodies, raw_setting, strict_setting, Extends}
use Rattle.drop_values.proofs.Actions.{Stays}
use Rattle.drop_values.proofs.Choices.{ChoiceWay, truth-Same, variant-Same}
use Rattle.drop_values.proofs.Reach.{IndexOk}
use Rattle.drop_values.proofs.Touched.{same_cells, AllNameFull, KeepsOlder}
use Rattle.drop_elaborate.proofs.CalledBodies.{CalleesOk}
use Rattle.drop_elaborate.proofs.CheckedTerms.{used-Took}
use Rattle.drop_elaborate.proofs.Chosen.{chosen, unchanged}
use Rattle.drop_elaborate.proofs.Entered.{Enters}
use Rattle.drop_elaborate.proofs.Held.{Held, read-Held}
use Rattle.drop_elaborate.proofs.PathFacts.{Follows}
use Rattle.drop_elaborate.proofs.PathUses.{operated}
use Rattle.drop_elaborate.proofs.ReadyBody.{BodyIsReady}
use Rattle.drop_elaborate.proofs.SitesOk.{tested-ok}
use Rattle.drop_elaborate.proofs.Statements.{At}
use Rattle.drop_elaborate.proofs.StatementsHeld.{same-Held, one-of-list, told-cells}
use Rattle.drop_elaborate.proofs.LineOperands.{no_param, any-one}
use Rattle.drop_elaborate.proofs.StmtTests.{LineTested}
use Rattle.drop_elaborate.proofs.Terminators.{TestLeaves, TermOwed, term_test}
use Rattle.drop_elaborate.proofs.Walks.{unplaced, Walks}
use Rattle.drop_elaborate.specs.Elaborated.{flag_at}
use Rattle.cfg_meaning.specs.Walk.{Next}
use Rattle.drop_values.specs.Like.{IsStuck}
use Rattle.drop_elaborate.proofs.LinesOwed.{only, index_here as index_of, id_here as id_of, tested as tested_of, acting-Owed}

module _ (items : ItemTable) (local_ty local_ty' : (body local : ℕ) → Option TyId)
    (extends : Extends local_ty local_ty') (number depth bodies : ℕ) (outer : Flags) (body : Body) (flagged : List
    Place)
    (flag_ty : TyId) (flag_is : type_at items flag_ty ≡ Some Ty.Bool)
    (added : (n : ℕ) → n < length flagged → (local_ty number (flag_at items body flagged n) ≡ None)
    × (local_ty' number (flag_at items body flagged n) ≡ Some flag_ty))
    (addresses : List Addr) (before : State) (given : AllNameFull items local_ty before addresses)
    (locals_are : (k : ℕ) → local_ty number k ≡ slice_get body.locals k) (ready : BodyIsReady items bodies body)
    (callees : CalleesOk items local_ty bodies) (run run' : Bodies) (thrifty : Thrifty run)
    (keeps : KeepsOlder items local_ty (Enters items local_ty) run) (bound most : ℕ)
    (tie : SameBodies local_ty (Enters items local_ty) most run run')
    (stays : (flags : Flags) (event : Event) (callee : ℕ) (args : List Datum) (w : State) →
    Enters items local_ty callee args w → Stays items local_ty local_ty' extends flags depth number w (run event
    callee args w)) where
  abbrev raw : Setting
  raw = raw_setting items local_ty

  abbrev strict : Setting
  strict = strict_setting items local_ty'

  abbrev pub HeldNow : List PathAction → State → Type 0
  HeldNow actions w = Held items local_ty number depth body addresses before given locals_are actions w

  abbrev index_here : (place : graph.Place) → is_typed_place items body.locals place ≡ true →
      IndexOk (local_ty number) (named place).steps
  index_here = index_of items local_ty local_ty' extends number depth bodies outer body flagged flag_ty flag_is added
      addresses before given locals_are ready callees run run' thrifty keeps bound most tie stays

  abbrev id_here : (place : graph.Place) → is_typed_place items body.locals place ≡ true →
      (id : TyId) × (place_id items body.locals place ≡ Some id)
  id_here = id_of items local_ty local_ty' extends number depth bodies outer body flagged flag_ty flag_is added
      addresses before given locals_are ready callees run run' thrifty keeps bound most tie stays

  module _ (body' : Body) (WalkE : Next State) (walks : Walks
      (naming unplaced (concrete_effects (strict_setting items local_ty') run' bound)) ticks_of most body'
      (λ block line. 0) WalkE) where
    abbrev AtHere : List PathAction → State → State → Type 0
    AtHere acts w w' =
        At items local_ty local_ty' extends number depth outer body flagged flag_ty flag_is added run' bound run most
        (Enters items local_ty) tie stays HeldNow acts w w'

    module _ (P : Out State → Out State → Type 0) (stuck : (halt : effects.Halt) (w : State) (o : Out State) →
        IsStuck halt → P (Halts halt w) o) (halts : (halt : effects.Halt) (w w' : State) → w'.trace ≡ w.trace →
        P (Halts halt w) (Halts halt w')) (n line : ℕ) (block : Block) (at : slice_get body.blocks n ≡ Some block)
        (done rest : List PathAction) where
      abbrev TestOf : Term → Option Test
      TestOf term =
          term_test items local_ty local_ty' extends number depth outer body flagged flag_ty flag_is added run run'
          bound most (Enters items local_ty) tie stays HeldNow body' WalkE walks P stuck halts term

      -- it comes on a path
      abbrev pub Comes : Term → Type 0
      Comes term = Follows items body done (at_line n line (term_uses term) ++ rest)

      -- and its result is stored on the path that goes on
      abbrev pub Goes : Term → Type 0
      Goes term = (to : graph.Place) → stored_by_term term ≡ to ∷ [] →
          is_never (ty_of_place items body.locals to) ≡ false → (later : List PathAction)
          × Follows items body (done ++ at_line n line (term_uses term)) (at_line n line ((Stores, to) ∷ []) ++ later)

      abbrev tested : (term : Term) → block.term ≡ term →
          LineTested items body (operands_of_term term) (stored_by_term term) (other_term_uses term)
      tested = tested_of items local_ty local_ty' extends number depth bodies outer body flagged flag_ty flag_is added
          addresses before given locals_are ready callees run run' thrifty keeps bound most tie stays body' WalkE walks
          P stuck halts n line block at done rest

      -- ---- tests

      abbrev Leaves' : List PathAction → State → Type 0
      Leaves' acts v =
          TestLeaves items local_ty local_ty' extends number depth outer body flagged flag_ty flag_is added run run'
          bound most (Enters items local_ty) tie stays HeldNow body' WalkE walks P stuck halts acts v

      choose-less : (test : Test) (w v : State) → (choose raw test w ≡ Yes v) ⊎ (choose raw test w ≡ No v) →
          v.ticks ≤ w.ticks
      choose-less test w v (inl e) =
          subst (NoMoreOf ticks_of w.ticks) e ((values_laws raw run thrifty bound).choosing test w)
      choose-less test w v (inr e) =
          subst (NoMoreOf ticks_of w.ticks) e ((values_laws raw run thrifty bound).choosing test w)

      nil : {A : Type 0} (l : List A) → l ++ [] ≡ l
      nil [] = refl
      nil (x ∷ l) = ap (λ l. x ∷ l) (nil l)

      if-leaves : (on : Operand) (y other : ℕ) → block.term ≡ Term.If on y other → Comes (Term.If on y other) → (w w'
          v : State) →
          AtHere done w w' → (choose raw (effects.IsTrue (operand_of 0 on)) w ≡ Yes v)
          ⊎ (choose raw (effects.IsTrue (operand_of 0 on)) w ≡ No v) →
          Leaves' (done ++ at_line n line (term_uses (Term.If on y other))) v
      if-leaves on y other e f w w' v a c =
          let t = tested (Term.If on y other) e in
          let k = any-one items local_ty number depth bodies body addresses before given locals_are ready on
          (record { typed = t.operands_typed; stand = t.operands_stand; move = t.operands_move }) in
          let o = operated items local_ty number depth body addresses before given locals_are
          (no_param items local_ty number depth bodies body addresses before given locals_are ready) n line k.1 done
          rest
          (subst (λ l. Follows items body done (at_line n line l ++ rest)) (nil (flat_map operand_uses (on ∷ []))) f) in
          let x = chosen items local_ty on w v c in
          let took = used-Took items local_ty number depth body addresses before given locals_are n line done k.1 o w
          (x.value ∷ []) v a.known (one-of-list raw (operand_of 0 on) w x.value v x.gives) in record {
            known = took.held_now;
            deep = took.held_now.knows.deep;
            number_is = took.held_now.knows.number_is;
            few = (let l = choose-less (effects.IsTrue (operand_of 0 on)) w v c in let m = a.few in
                let z : v.ticks ≤ most = omega (arith, l, m) in z);
          }

      case-leaves : (on : graph.Place) (variant y other : ℕ) → (w w' v : State) → AtHere done w w' →
          (choose raw (effects.HasVariant (site_of 0 on) variant) w ≡ Yes v)
          ⊎ (choose raw (effects.HasVariant (site_of 0 on) variant) w ≡ No v) →
          Leaves' (done ++ at_line n line (term_uses (Term.Case on variant y other))) v
      case-leaves on variant y other w w' v a c =
          let action : PathAction = record { how = Tests; place = named on; block = n; line = line } in
          let same = unchanged items local_ty on variant w v c in
          let h = subst (HeldNow (done ++ action ∷ [])) same
          (read-Held items local_ty number depth body addresses before given locals_are done action w w refl (λ r. refl)
          (same_cells w) a.known) in record {
            known = h;
            deep = h.knows.deep;
            number_is = h.knows.number_is;
            few = (let l = choose-less (effects.HasVariant (site_of 0 on) variant) w v c in let m = a.few in
                let z : v.ticks ≤ most = omega (arith, l, m) in z);
          }

      abbrev Owes : Term → State → Type 0
      Owes term w =
          TermOwed items local_ty local_ty' extends number depth outer body flagged flag_ty flag_is added run run'
          bound most (Enters items local_ty) tie stays HeldNow body' WalkE walks P stuck halts n line term done w

      same-of : (term : Term) → block.term ≡ term → (w w' : State) → AtHere done w w' → (test : Test) →
          TestOf term ≡ Some test → (flags : Flags) (v' : State) → Like local_ty flags w v' →
          ChoiceWay items local_ty local_ty' extends flags depth number most (choose raw test w) (choose strict test v')
      same-of (Term.If on y other) e w w' a test t flags v' like =
          let l = tested (Term.If on y other) e in
          subst (λ test. ChoiceWay items local_ty local_ty' extends flags depth number most (choose raw test w)
          (choose strict test v')) (let x : Some (effects.IsTrue (operand_of 0 on)) ≡ Some test = t in
          let y : effects.IsTrue (operand_of 0 on) ≡ test = cc in y)
          (truth-Same items local_ty local_ty' extends flags depth number most (operand_of 0 on) w v'
          (record { like = like; deep = a.deep; number_is = a.number_is; few = a.few })
          (tested-ok items local_ty local_ty' extends number depth body locals_are index_here id_here flags on
          l.operands_typed))
      same-of (Term.Case on variant y other) e w w' a test t flags v' like =
          let l = tested (Term.Case on variant y other) e in
          subst (λ test. ChoiceWay items local_ty local_ty' extends flags depth number most (choose raw test w)
          (choose strict test v')) (let x : Some (effects.HasVariant (site_of 0 on) variant) ≡ Some test = t in
          let y : effects.HasVariant (site_of 0 on) variant ≡ test = cc in y)
          (variant-Same items local_ty local_ty' extends flags depth number most (site_of 0 on) variant w v'
          (record { like = like; deep = a.deep; number_is = a.number_is; few = a.few })
          (index_here on (only (is_typed_place items body.locals on) l.others_typed)))
      same-of other e w w' a test t flags v' like = absurd (none-some test t)

      tested-of : (term : Term) → block.term ≡ term → Comes term → (w w' : State) → AtHere done w w' → (test : Test) →
          TestOf term ≡ Some test → (v : State) → (choose raw test w ≡ Yes v) ⊎ (choose raw test w ≡ No v) →
          Leaves' (done ++ at_line n line (term_uses term)) v
      tested-of (Term.If on y other) e f w w' a test t v c =
          if-leaves on y other e f w w' v a (subst (λ test. (choose raw test w ≡ Yes v) ⊎ (choose raw test w ≡ No v))
          (let x : Some (effects.IsTrue (operand_of 0 on)) ≡ Some test = t in
          let y : test ≡ effects.IsTrue (operand_of 0 on) = cc in y) c)
      tested-of (Term.Case on variant y other) e f w w' a test t v c =
          case-leaves on variant y other w w' v a (subst (λ test. (choose raw test w ≡ Yes v) ⊎ (choose raw test w ≡
          No v))
          (let x : Some (effects.HasVariant (site_of 0 on) variant) ≡ Some test = t in
          let y : test ≡ effects.HasVariant (site_of 0 on) variant = cc in y) c)
      tested-of other e f w w' a test t v c = absurd (none-some test t)

      -- a panic that a graph starts tells of itself in both runs
      panicking-of : (w : State) (why : Why) (v' : State) → AtHere done w v' →
          AtHere done (with_event (Event.Panicked why) w) (with_event (Event.Panicked why) v')
      panicking-of w why v' a = record {
        flags = a.flags;
        like = (let l = a.like in record {
          asked = l.asked;
          ticks = l.ticks;
          serial = l.serial;
          trace = ap (λ t. t ++ Event.Panicked why ∷ []) l.trace;
          count = l.count;
          bodies = l.bodies;
          covers = l.covers;
          flags_are = l.flags_are;
        });
        tell = a.tell;
        deep = a.deep;
        number_is = a.number_is;
        few = a.few;
        known = same-Held items local_ty number depth body addresses before given locals_are done w
            (with_event (Event.Panicked why) w) (told-cells raw (Event.Panicked why) w) a.known;
      }

      -- all that is owed of a terminator that is no drop
      pub term-Owed : Comes block.term → Goes block.term → (w w' : State) → AtHere done w w' → Owes block.term w
      term-Owed f goes w w' a = record {
        acting = λ action e. acting-Owed items local_ty local_ty' extends number depth bodies outer body flagged flag_ty
            flag_is added addresses before given locals_are ready callees run run' thrifty keeps bound most tie stays
            body' WalkE walks P stuck halts n line block at done rest block.term refl f goes action e;
        same = λ test e. same-of block.term refl w w' a test e;
        tested = λ test e. tested-of block.term refl f w w' a test e;
        panicking = λ why v' a. panicking-of w why v' a;
      }
