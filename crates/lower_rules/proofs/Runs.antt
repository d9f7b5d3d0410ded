-- A graph that holds the code of a program runs as the program does, up to the place of being stuck: by induction on the
-- nesting of bodies, which spend a tick each.
use Rattle.std.proofs.Common.{◌≡◌, ◌≢◌, ◌⊎◌, ℕ, zero, suc, ◌+◌, ◌<◌, ◌≤◌, ◌==◌, Bool, true, false, ◌&&◌, ℤ, List, [], ◌∷◌, map, Option, Some, None, slice_get, inl, inr, refl, ap, sym, ◌∙◌, subst, arith}
use Rattle.std.proofs.lemmas.Bool.Decides.{eqb_tells}
use Rattle.std.proofs.lemmas.Option.{none-some}
use Rattle.std.proofs.Math.Path.{fun_ext}
use Rattle.std.specs.Option.{option_map_or, option_and_then}
use Rattle.cfg_graph.specs.declared.graph.Body.{Body}
use Rattle.cfg_graph.specs.declared.graph.Graph.{Graph}
use Rattle.cfg_meaning.proofs.Runs.{graph_keeps}
use Rattle.cfg_meaning.proofs.Walks.{naming_laws, walk_less}
use Rattle.cfg_meaning.specs.Actions.{action_of}
use Rattle.cfg_meaning.specs.Programs as cfg
use Rattle.cfg_meaning.specs.Walk.{renamed, naming, walk}
use Rattle.mir_base.specs.declared.trace.Event.{Event}
use Rattle.mir_ty.specs.declared.ty.TyId.{TyId}
use Rattle.mir_ty.specs.ItemTable.{ItemTable}
use Rattle.store_model.proofs.Concrete.Effects.{ticks_of, values_laws, body_thrifty, body_spends}
use Rattle.store_model.proofs.Effects.Laws.{NoMore, NoMoreOf, Ticked, Laws, Tied}
use Rattle.store_model.proofs.Effects.NeverStores.{runs_store_no_never}
use Rattle.store_model.specs.Abstract.Effects as free
use Rattle.store_model.specs.Concrete.Bodies.{run_body, ended, after_tick, main_of, run_of, outcome_of}
use Rattle.store_model.specs.Concrete.Effects.{concrete_effects, never_at}
use Rattle.store_model.specs.Concrete.Location.{Setting}
use Rattle.store_model.specs.Concrete.State.{Activation, Cells, State, Answer, Returns, Unwinds, HaltsIn, Bodies, spend, with_event, with_activation, without_activation, beginning}
use Rattle.store_model.specs.Effects as effects
use Rattle.store_model.specs.Effects.{Stuck, Out, Go, Unwind, Halts, Choice, Yes, No, Neither, Effects, Action, EffectSite, stores_where}
use Rattle.store_model.specs.Values.Datum.{Datum}
use Rattle.typed_tree.specs.Tree.{BodyTree, ProgramTree}
use Rattle.src_meaning.specs.Locals.Effects.{at_locals}
use Rattle.src_meaning.specs.Locals.OfBody.{local_of, local_tys}
use Rattle.src_meaning.specs.Programs as programs
use Rattle.src_meaning.specs.Programs.{activation, setting_of, code_of, source}
use Rattle.lower_rules.proofs.FreeWalks.{renamed_no_unwind, renamed_not_on}
use Rattle.lower_rules.proofs.NodeNumbers.{block_same}
use Rattle.lower_rules.proofs.PlacesOfHalts.{answer_without_place, AgreeUpToPlace, tied_up_to_place}
use Rattle.lower_rules.proofs.Simulation.{body_runs}
use Rattle.lower_rules.proofs.TiedWalks.{Settled}
use Rattle.lower_rules.proofs.StackOfBodies.{stack, bodies_in, SameStack, SameStackOf, KeepsStack, KeptAnswer, StackLaws, stack_laws}
use Rattle.lower_rules.proofs.ValuesSettled.{values_settled}
use Rattle.lower_rules.proofs.WalksOfBodies.{Walk, walks}
use Rattle.lower_rules.specs.CodeLaws.{without_place, outcome_without_place, target_of, HoldsBody, HoldsProgram, RunsAsItsSource}
use Rattle.lower_rules.specs.Spots.{CodeTarget}

-- what is left in a body: the ticks; and more than all of them if the stack of bodies is another than it was
abbrev same_list : List ℕ → List ℕ → Bool
same_list [] [] = true
same_list [] (b ∷ bs) = false
same_list (a ∷ as1) [] = false
same_list (a ∷ as1) (b ∷ bs) = (a == b) && same_list as1 bs

same_itself : (list : List ℕ) → same_list list list ≡ true
same_itself [] = refl
same_itself (a ∷ list) = by_head (a == a) (elim (eqb_tells a a) [ inl same ↦ same.0 | inr other ↦ absurd (let apart = other.1 in let never : ⊥ = omega arith in never) ]) (same_itself list)
  where
    by_head : (b : Bool) → b ≡ true → same_list list list ≡ true → b && same_list list list ≡ true
    by_head true e h = h
    by_head false e h = e

same_sound : (one other : List ℕ) → same_list one other ≡ true → one ≡ other
same_sound [] [] e = refl
same_sound [] (b ∷ bs) e = absurd (let never : false ≡ true = e in cc)
same_sound (a ∷ list) [] e = absurd (let never : false ≡ true = e in cc)
same_sound (a ∷ list) (b ∷ bs) e = by_head (a == b) (same_list list bs) (eqb_tells a b) (same_sound list bs) e
  where
    by_head : (x y : Bool) → ((x ≡ true) × (a ≡ b)) ⊎ ((x ≡ false) × (a ≢ b)) → (y ≡ true → list ≡ bs) → x && y ≡ true → ◌≡◌ {A = List ℕ} (a ∷ list) (b ∷ bs)
    by_head true y (inl same) ih h = ap (λ z. z ∷ list) same.1 ∙ ap (λ z. b ∷ z) (ih h)
    by_head true y (inr other) ih h = absurd (let never : true ≡ false = other.0 in cc)
    by_head false y t ih h = absurd (let never : false ≡ true = h in cc)

nil-cons : {x : ℕ} {xs : List ℕ} {A : Type 0} → ◌≡◌ {A = List ℕ} [] (x ∷ xs) → A
nil-cons e = absurd (let never : ◌≡◌ {A = List ℕ} [] (_ ∷ _) = e in cc)

abbrev rest_of : List ℕ → List ℕ
rest_of [] = []
rest_of (x ∷ xs) = xs

abbrev more_if : Bool → ℕ → ℕ
more_if true more = 0
more_if false more = more

abbrev left_in : List ℕ → ℕ → State → ℕ
left_in bodies more w = w.ticks + more_if (same_list (stack w) bodies) more

module _ (bodies : List ℕ) (more : ℕ) where
  abbrev size : State → ℕ
  size w = left_in bodies more w

  ticks_less : (w : State) (m : ℕ) → size w ≤ m → w.ticks ≤ m
  ticks_less w m l = omega arith

  -- where no more is left than the ticks that are, the stack is the same
  stack_same : (w : State) (m : ℕ) → m < more → size w ≤ m → stack w ≡ bodies
  stack_same w m h l = by_same (same_list (stack w) bodies) refl l
    where
      by_same : (b : Bool) → same_list (stack w) bodies ≡ b → w.ticks + more_if b more ≤ m → stack w ≡ bodies
      by_same true e l = same_sound (stack w) bodies e
      by_same false e l = absurd (let never : ⊥ = omega arith in never)

  no_less : (w : State) (ticks : ℕ) → stack w ≡ bodies → w.ticks ≤ ticks → size w ≤ ticks
  no_less w ticks e l = subst (λ b. w.ticks + more_if b more ≤ ticks) (sym (ap (λ list. same_list list bodies) e ∙ same_itself bodies)) (omega arith)

  carried : (w v : State) → v.ticks ≤ w.ticks → stack v ≡ stack w → size v ≤ size w
  carried w v l e = subst (λ list. v.ticks + more_if (same_list list bodies) more ≤ size w) (sym e) (omega arith)

  carried_less : (w v : State) → suc v.ticks ≤ w.ticks → stack v ≡ stack w → suc (size v) ≤ size w
  carried_less w v l e = subst (λ list. suc (v.ticks + more_if (same_list list bodies) more) ≤ size w) (sym e) (omega arith)

  out_less : (w : State) (o : Out State) → NoMore ticks_of w.ticks o → SameStack (stack w) o → NoMore size (size w) o
  out_less w (Go v) l e = carried w v l e
  out_less w (Unwind v) l e = carried w v l e
  out_less w (Halts halt v) l e = tt

  choice_less : (w : State) (o : Choice State) → NoMoreOf ticks_of w.ticks o → SameStackOf (stack w) o → NoMoreOf size (size w) o
  choice_less w (Yes v) l e = carried w v l e
  choice_less w (No v) l e = carried w v l e
  choice_less w (Neither halt v) l e = tt

  tick_less : (w : State) (o : Out State) → Ticked ticks_of w.ticks o → SameStack (stack w) o → Ticked size (size w) o
  tick_less w (Go v) l e = carried_less w v l e
  tick_less w (Unwind v) l e = carried w v l e
  tick_less w (Halts halt v) l e = tt

  left_laws : (p : Effects State) → Laws p ticks_of → StackLaws p → Laws p size
  left_laws p laws same = record {
    acting = λ action w. out_less w (p.act action w) (laws.acting action w) (same.acting action w);
    choosing = λ test w. choice_less w (p.choose test w) (laws.choosing test w) (same.choosing test w);
    dropping = λ mode site w. out_less w (p.drop mode site w) (laws.dropping mode site w) (same.dropping mode site w);
    panicking = λ why w. carried w (p.panic why w) (laws.panicking why w) (same.panicking why w);
    ticking = λ w. tick_less w (p.tick w) (laws.ticking w) (same.ticking w);
    giving = λ site w. out_less w (p.give site w) (laws.giving site w) (same.giving site w);
  }

  left_tied : (p q : Effects State) (m : ℕ) → Tied p q ticks_of m → Tied p q size m
  left_tied p q m tied = record {
    acting = λ action w l. tied.acting action w (ticks_less w m l);
    choosing = λ test w l. tied.choosing test w (ticks_less w m l);
    dropping = λ mode site w l. tied.dropping mode site w (ticks_less w m l);
    panicking = λ why w l. tied.panicking why w (ticks_less w m l);
    ticking = λ w l. tied.ticking w (ticks_less w m l);
    giving = λ site w l. tied.giving site w (ticks_less w m l);
  }

-- ---- the bodies of a graph leave the stack as it was
module _ (graph : Graph) where
  abbrev here : Setting
  here = cfg.setting_of false graph

  abbrev graph_bodies : ℕ → Bodies
  graph_bodies n = run_body here (cfg.code_of graph) n

  abbrev graph_effects : ℕ → Effects State
  graph_effects n = concrete_effects here (graph_bodies n) (suc n)

  graph_laws : (n : ℕ) → Laws (graph_effects n) ticks_of
  graph_laws n = values_laws here (graph_bodies n) (body_thrifty here (cfg.code_of graph) (graph_keeps graph) n) (suc n)

  -- what ends with the stack of a body leaves that of what called it
  without_youngest : (bodies : List ℕ) (body : ℕ) (w : State) (list : List Activation) → bodies_in list ≡ body ∷ bodies → stack (without_activation (record w { activations = list })) ≡ bodies
  without_youngest bodies body w [] e = absurd (nil-cons e)
  without_youngest bodies body w (a ∷ older) e = ap rest_of e

  ended_keeps : (bodies : List ℕ) (body answer ticks : ℕ) (o : Out State) → NoMore (left_in (body ∷ bodies) (suc ticks)) ticks o → KeptAnswer bodies (ended body answer o)
  ended_keeps bodies body answer ticks (Go w) l =
      record { kept = without_youngest bodies body w w.activations (stack_same (body ∷ bodies) (suc ticks) w ticks (omega arith) l) }
  ended_keeps bodies body answer ticks (Unwind w) l =
      record { kept = without_youngest bodies body w w.activations (stack_same (body ∷ bodies) (suc ticks) w ticks (omega arith) l) }
  ended_keeps bodies body answer ticks (Halts halt w) l = record { kept = tt }

  ticked_keeps : (bodies : List ℕ) (n : ℕ) (w : State) (next : State → Answer) → stack w ≡ bodies → ((v : State) → stack v ≡ bodies → KeptAnswer bodies (next v)) →
      KeptAnswer bodies (after_tick (spend n w) next)
  ticked_keeps bodies zero w next e h = record { kept = tt }
  ticked_keeps bodies (suc n) w next e h = h (record w { ticks = n }) e

  within_keeps : (n body ticks : ℕ) (bodies : List ℕ) → KeepsStack (graph_bodies n) → (w : State) → stack w ≡ body ∷ bodies → w.ticks ≤ ticks → (o : Option Body) →
      NoMore (left_in (body ∷ bodies) (suc ticks)) ticks (option_map_or (λ b. walk (graph_effects n) body (λ block line. 0) b (suc n) 0 w) o (Halts Stuck w))
  within_keeps n body ticks bodies keeps w e l None = tt
  within_keeps n body ticks bodies keeps w e l (Some b) =
      walk_less (left_in (body ∷ bodies) (suc ticks)) (graph_effects n)
      (left_laws (body ∷ bodies) (suc ticks) (graph_effects n) (graph_laws n) (stack_laws here (graph_bodies n) keeps (suc n))) body (λ block line. 0) b ticks (suc n) 0 w
      (no_less (body ∷ bodies) (suc ticks) w ticks e l)

  bodies_keep : (n : ℕ) → KeepsStack (graph_bodies n)
  bodies_keep zero bodies event body args w e = record { kept = tt }
  bodies_keep (suc n) bodies event body args w e =
      ticked_keeps bodies w.ticks w _ e
      (λ v h. ended_keeps bodies body 0 v.ticks _
      (within_keeps n body v.ticks bodies (bodies_keep n) (with_activation (record { body = body; cells = cfg.arguments_from 1 args }) (with_event event v)) (ap (λ list. body ∷ list) h) (omega arith)
      (slice_get graph.bodies body)))

-- ---- the items, the types of locals and the bodies of both sides
local_ty_of : (bodies : List Body) (n local : ℕ) →
    option_and_then (λ (tys : List TyId). slice_get tys local) (slice_get (map (λ (b : Body). b.locals) bodies) n) ≡ option_and_then (λ (b : Body). slice_get b.locals local) (slice_get bodies n)
local_ty_of [] n local = refl
local_ty_of (b ∷ bodies) zero local = refl
local_ty_of (b ∷ bodies) (suc n) local = local_ty_of bodies n local

cons-nil : {A : Type 0} {x : A} {xs : List A} {B : Type 0} → ◌≡◌ {A = List A} (x ∷ xs) [] → B
cons-nil {A} {x} {xs} e = absurd (let never : ◌≡◌ {A = List A} (x ∷ xs) [] = e in cc)

abbrev tail_of : {A : Type 0} → List A → List A
tail_of [] = []
tail_of (x ∷ xs) = xs

-- of two lists with the same images one has a place where the other has
there_too : {A B C : Type 0} (f : A → C) (g : B → C) (as1 : List A) (bs : List B) → map f as1 ≡ map g bs → (n : ℕ) (a : A) → slice_get as1 n ≡ Some a → (b : B) × (slice_get bs n ≡ Some b)
there_too f g [] bs e n a h = absurd (none-some a h)
there_too f g (x ∷ as1) [] e n a h = cons-nil e
there_too f g (x ∷ as1) (y ∷ bs) e zero a h = (y, refl)
there_too f g (x ∷ as1) (y ∷ bs) e (suc n) a h = there_too f g as1 bs (ap tail_of e) n a h

arguments_same : (local : ℕ) (args : List Datum) → programs.arguments_from local args ≡ cfg.arguments_from local args
arguments_same local [] = refl
arguments_same local (arg ∷ args) = ap {B = Cells} (λ cells. (local, arg) ∷ cells) (arguments_same (suc local) args)

ended_without_place : (body answer : ℕ) (o : Out State) → answer_without_place (ended body answer o) ≡ ended body answer (renamed without_place o)
ended_without_place body answer (Go w) = refl
ended_without_place body answer (Unwind w) = refl
ended_without_place body answer (Halts halt w) = refl

ended_same : (body answer : ℕ) (o o' : Out State) → renamed without_place o ≡ renamed without_place o' → answer_without_place (ended body answer o) ≡ answer_without_place (ended body answer o')
ended_same body answer o o' e = ended_without_place body answer o ∙ ap (ended body answer) e ∙ sym (ended_without_place body answer o')

-- a missing step has no place in the outcome
outcome_of_place : (a : Answer) → outcome_without_place (outcome_of a) ≡ outcome_without_place (outcome_of (answer_without_place a))
outcome_of_place (Returns value w) = refl
outcome_of_place (Unwinds w) = refl
outcome_of_place (HaltsIn effects.Aborted w) = refl
outcome_of_place (HaltsIn other w) = refl

none_there : {A B C : Type 0} (f : A → C) (g : B → C) (as1 : List A) (bs : List B) → map f as1 ≡ map g bs → (n : ℕ) → slice_get as1 n ≡ None → slice_get bs n ≡ None
none_there f g [] [] e n h = refl
none_there f g [] (y ∷ bs) e n h = cons-nil (sym e)
none_there f g (x ∷ as1) [] e n h = refl
none_there f g (x ∷ as1) (y ∷ bs) e zero h = absurd (none-some x (sym h))
none_there f g (x ∷ as1) (y ∷ bs) e (suc n) h = none_there f g as1 bs (ap tail_of e) n h

abbrev head_or : ℕ → List ℕ → ℕ
head_or d [] = d
head_or d (x ∷ xs) = x

abbrev setting_with_types : ItemTable → (ℕ → ℕ → Option TyId) → Setting
setting_with_types items local_ty = record { items = items; local_ty = local_ty; strict = false }

abbrev setting_by : ItemTable → List (List TyId) → Setting
setting_by items tys = setting_with_types items (λ n local. option_and_then (λ (tys : List TyId). slice_get tys local) (slice_get tys n))

module _ (program : ProgramTree) (graph : Graph) (held : HoldsProgram program graph) where
  -- both sides go by the same items and the same types of locals
  same_setting : setting_of program ≡ here graph
  same_setting =
      ap (λ (tys : List (List TyId)). setting_by program.items tys) (sym held.locals)
      ∙ ap (λ (f : ℕ → ℕ → Option TyId). setting_with_types program.items f) (fun_ext (λ n. fun_ext (λ local. local_ty_of graph.bodies n local)))
      ∙ ap (λ (items : ItemTable). setting_with_types items (λ n local. option_and_then (λ (b : Body). slice_get b.locals local) (slice_get graph.bodies n))) (sym held.items)

  abbrev source_bodies : ℕ → Bodies
  source_bodies n = run_body (here graph) (code_of program) n

  abbrev source_effects : ℕ → Effects State
  source_effects n = concrete_effects (here graph) (source_bodies n) (suc n)

  abbrev bodies_of_call : ℕ → State → List ℕ
  bodies_of_call number w = number ∷ stack w

  -- no run comes behind an action that stores into a place of type `!`
  never_same : (number : ℕ) (body : Body) → slice_get graph.bodies number ≡ Some body → (bodies : List ℕ) (w : State) (list : List Activation) → bodies_in list ≡ number ∷ bodies →
      (action : Action) → stores_where (free.never_at graph.items (slice_get body.locals)) action ≡ true → stores_where (never_at (here graph) (record w { activations = list })) action ≡ true
  never_same number body there bodies w [] e action h = nil-cons e
  never_same number body there bodies w (a ∷ older) e action h =
      ap (λ n. stores_where (never_with (λ local. (here graph).local_ty n local)) action) (ap (head_or number) e)
      ∙ ap (λ o. stores_where (never_with (λ local. option_and_then (λ (b : Body). slice_get b.locals local) o)) action) there ∙ h
    where
      never_with : (ℕ → Option TyId) → EffectSite → Bool
      never_with ty = free.never_at graph.items ty

  settled : (n number : ℕ) (tree : BodyTree) (body : Body) (node : ℕ → ℕ → ℕ) → slice_get graph.bodies number ≡ Some body → (bodies : List ℕ) →
      Settled (target_of program.items tree body node) (naming without_place (graph_effects graph n)) (left_in (number ∷ bodies) (suc n)) n
  settled n number tree body node there bodies = record {
    statements = λ i stmt w. renamed_no_unwind without_place ((graph_effects graph n).act (action_of i stmt) w) (values_settled (here graph) (graph_bodies graph n) i stmt w);
    lasting = λ action w l e. renamed_not_on without_place ((graph_effects graph n).act action w)
        (runs_store_no_never (here graph) (graph_bodies graph n) (suc n) action w
        (never_same number body there bodies w w.activations (stack_same (number ∷ bodies) (suc n) w n (omega arith) l) action
        (subst (λ items. stores_where (free.never_at items (slice_get body.locals)) action ≡ true) (sym held.items) e)));
  }

  -- what is done within a body
  within_same : (n : ℕ) → AgreeUpToPlace n (graph_bodies graph n) (source_bodies n) → (number : ℕ) (tree : BodyTree) (body : Body) → slice_get graph.bodies number ≡ Some body →
      HoldsBody program.items tree body (held.node number) → (bodies : List ℕ) (w : State) → stack w ≡ number ∷ bodies → w.ticks ≤ n →
      renamed without_place (activation program.items (at_locals (local_of program.items tree) (source_effects n)) (suc n) tree w)
      ≡ renamed without_place (walk (graph_effects graph n) number (λ block line. 0) body (suc n) 0 w)
  within_same n agree number tree body there holds bodies w e l =
      body_runs (record {
        t = t;
        p = source_effects n;
        q = naming without_place q;
        size = size;
        bound = n;
        laws = naming_laws size without_place q laws;
        tied = left_tied (number ∷ bodies) (suc n) (naming without_place (source_effects n)) (naming without_place q) n
            (tied_up_to_place (here graph) (source_bodies n) (graph_bodies graph n) (body_spends (here graph) (cfg.code_of graph) (graph_keeps graph) n) n (suc n) (omega arith) agree);
        settled = settled n number tree body (held.node number) there bodies;
        Walk = Walk size q laws number (λ block line. 0) t (block_same (here graph) (graph_bodies graph n) (suc n) (λ block line. 0) t.node) holds.ranked n (suc n) (omega arith);
        walks = walks size q laws number (λ block line. 0) t (block_same (here graph) (graph_bodies graph n) (suc n) (λ block line. 0) t.node) holds.ranked n (suc n) (omega arith);
      }) (suc n) (omega arith) tree holds.holds_code w (no_less (number ∷ bodies) (suc n) w n e l)
    where
      t : CodeTarget
      t = target_of program.items tree body (held.node number)

      q : Effects State
      q = graph_effects graph n

      size : State → ℕ
      size w = left_in (number ∷ bodies) (suc n) w

      laws : Laws q size
      laws = left_laws (number ∷ bodies) (suc n) q (graph_laws graph n) (stack_laws (here graph) (graph_bodies graph n) (bodies_keep graph n) (suc n))

  abbrev called_with : ℕ → List Datum → State → State
  called_with number args w = with_activation (record { body = number; cells = cfg.arguments_from 1 args }) w

  abbrev graph_does : ℕ → Option Body → ℕ → State → Out State
  graph_does n o number w = option_map_or (λ body. walk (graph_effects graph n) number (λ block line. 0) body (suc n) 0 w) o (Halts Stuck w)

  abbrev source_does : ℕ → Option BodyTree → State → Out State
  source_does n o w = option_map_or (λ tree. activation program.items (at_locals (local_of program.items tree) (source_effects n)) (suc n) tree w) o (Halts Stuck w)

  does_same : (n : ℕ) → AgreeUpToPlace n (graph_bodies graph n) (source_bodies n) → (number : ℕ) (o : Option BodyTree) → slice_get program.bodies number ≡ o → (bodies : List ℕ) (w : State) →
      stack w ≡ number ∷ bodies → w.ticks ≤ n → renamed without_place (graph_does n (slice_get graph.bodies number) number w) ≡ renamed without_place (source_does n o w)
  does_same n agree number None h bodies w e l =
      ap (λ o. renamed without_place (graph_does n o number w)) (none_there (local_tys program.items) (λ body. body.locals) program.bodies graph.bodies (sym held.locals) number h)
  does_same n agree number (Some tree) h bodies w e l =
      let body = there_too (local_tys program.items) (λ (body : Body). body.locals) program.bodies graph.bodies (sym held.locals) number tree h in
      ap (λ o. renamed without_place (graph_does n o number w)) body.1
      ∙ sym (within_same n agree number tree body.0 body.1 (held.bodies number tree body.0 h body.1) bodies w e l)

  -- by induction on the nesting of bodies
  pub bodies_same : (n : ℕ) → AgreeUpToPlace n (graph_bodies graph n) (source_bodies n)
  bodies_same zero event number args w l = refl
  bodies_same (suc n) event number args w l = by_ticks (bodies_same n) w.ticks refl
    where
      by_ticks : AgreeUpToPlace n (graph_bodies graph n) (source_bodies n) → (ticks : ℕ) → w.ticks ≡ ticks →
          answer_without_place (after_tick (spend ticks w) (λ w. ended number 0 (graph_does n (slice_get graph.bodies number) number (called_with number args (with_event event w)))))
          ≡ answer_without_place (after_tick (spend ticks w) (λ w. ended number 0
          (source_does n (slice_get program.bodies number) (with_activation (record { body = number; cells = programs.arguments_from 1 args }) (with_event event w)))))
      by_ticks agree zero e = refl
      by_ticks agree (suc ticks) e =
          ended_same number 0 _ _
          (does_same n agree number (slice_get program.bodies number) refl (stack w) (called_with number args (with_event event (record w { ticks = ticks }))) refl (omega arith)
          ∙ ap (λ cells. renamed without_place (source_does n (slice_get program.bodies number) (with_activation (record { body = number; cells = cells }) (with_event event (record w { ticks = ticks })))))
          (sym (arguments_same 1 args)))

  run_same : (asked : List ℤ) (ticks : ℕ) → outcome_without_place (cfg.raw_graph_run graph asked ticks) ≡ outcome_without_place (source program asked ticks)
  run_same asked ticks =
      ap (λ items. outcome_without_place (run_of (here graph) (cfg.code_of graph) (main_of items) asked ticks)) held.items
      ∙ outcome_of_place (graph_bodies graph (suc ticks) (Event.Call main) main [] (beginning asked ticks))
      ∙ ap (λ a. outcome_without_place (outcome_of a)) (bodies_same (suc ticks) (Event.Call main) main [] (beginning asked ticks) (omega arith))
      ∙ sym (outcome_of_place (source_bodies (suc ticks) (Event.Call main) main [] (beginning asked ticks)))
      ∙ ap (λ setting. outcome_without_place (run_of setting (code_of program) main asked ticks)) (sym same_setting)
    where
      main : ℕ
      main = main_of program.items

pub runs_as_its_source : RunsAsItsSource
runs_as_its_source program graph held asked ticks = run_same program graph held asked ticks
