-- What holds of a raw run is kept by each statement that makes no reference: its operands give full values, and what it
-- stores is a full value of the type of its place.
use Rattle.std.proofs.Common.{◌≡◌, ℕ, not, Bool, true, false, List, [], ◌∷◌, ◌++◌, map, flat_map, Option, Some, None, is_some, replicate, slice_get, refl, ap, sym, ◌∙◌, subst, append_assoc, arith}
use Rattle.std.specs.Prelude.{option_and_then}
use Rattle.std.specs.Option.{option_map_or}
use Rattle.std.proofs.lemmas.Option.{none-some}
use Rattle.mir_ty.specs.declared.ty.Ty.{Ty}
use Rattle.mir_ty.specs.declared.ty.TyId.{TyId}
use Rattle.mir_ty.specs.ItemTable.{ItemTable, type_at}
use Rattle.mir_ty.specs.Parts.{fields_of, variants_of, captures_of}
use Rattle.cfg_graph.specs.declared.graph.Body.{Body}
use Rattle.cfg_graph.specs.declared.place.Operand.{Operand}
use Rattle.cfg_graph.specs.declared.place.Place as graph
use Rattle.cfg_graph.specs.declared.statement.Stmt.{Stmt}
use Rattle.cfg_graph.specs.Moves.Actions.{at_line}
use Rattle.cfg_graph.specs.Moves.Gone.{PathAction}
use Rattle.cfg_graph.specs.Moves.Present.{present_after}
use Rattle.cfg_graph.specs.Places.{named}
use Rattle.cfg_graph.specs.Uses.{PlaceUse, Stores, operand_uses, stmt_uses}
use Rattle.cfg_meaning.specs.Actions.{site_of, operand_of, operands_of}
use Rattle.mir_base.specs.declared.operator.Cmp.{Cmp}
use Rattle.mir_base.specs.declared.trace.Event.{Event}
use Rattle.store_model.specs.declared.address.Addr.{Addr}
use Rattle.store_model.specs.Concrete.Drops.{drop_impl}
use Rattle.store_model.specs.Concrete.Effects.{or_stuck, compared, evaluate_operand, evaluate_operands, with_operand, with_operands, put, put_if, tell_after, negated, made, made_event, built, boxed, forgotten, type_of_operand, never_at, with_events, acted, act}
use Rattle.store_model.specs.Concrete.Location.{Setting, OfType}
use Rattle.store_model.specs.Concrete.State.{State, Bodies, with_event, numbered_next}
use Rattle.store_model.specs.Effects as effects
use Rattle.store_model.specs.Effects.{AggregateKind, OfTuple, OfArray, OfVariant, OfClosure, EffectSite, Halt, Out, Go, Unwind, Halts, Stuck, halting_if}
use Rattle.store_model.specs.Places.Place.{is_reference}
use Rattle.store_model.specs.Places.TypeForms.{is_bool, is_dyn}
use Rattle.store_model.specs.Values.Datum.{Datum, Gone, Number, Truth, UnitValue, Aggregate, Box, Address, data_from}
use Rattle.drop_values.specs.Like.{raw_setting}
use Rattle.drop_values.specs.Typed.{has_variant, IsFull}
use Rattle.drop_values.proofs.Made.{AllFull, aggregate-full, box-full, truth-full, full-plain}
use Rattle.drop_values.proofs.Sites.{IsOpen}
use Rattle.drop_values.proofs.Touched.{SameCells, same_cells, AllNameFull}
use Rattle.drop_elaborate.proofs.Apart.{IsNamed}
use Rattle.drop_elaborate.proofs.Held.{Held}
use Rattle.drop_elaborate.proofs.OperandLists.{OperandsAre, FullIf, all-full, AllUsed, LineSpares, operands-Took, at_line-append}
use Rattle.drop_elaborate.proofs.Operands.{PlaceOk}
use Rattle.drop_elaborate.proofs.SinceMade.{IsLive}
use Rattle.drop_elaborate.proofs.Stores.{put-Held}
use Rattle.drop_values.proofs.Invariant.{same-Invariant}

-- what goes on was not halted
pub went-on : {W : Type 0} (b : Bool) (halt : Halt) (o : Out W) (v : W) → halting_if b halt o ≡ Go v → o ≡ Go v
went-on true halt (Go w) v e = absurd (cc)
went-on true halt (Unwind w) v e = e
went-on true halt (Halts h w) v e = e
went-on false halt o v e = e

module _ (setting : Setting) where
  pub record OneTaken (operand : effects.Operand) (w : State) (next : Datum → State → Out State) (o : Out State) :
      Type 0 where
    pub v : Datum
    pub u : State
    pub gives : evaluate_operand setting operand w ≡ Some (v, u)
    pub then_does : next v u ≡ o

  pub one-taken : (operand : effects.Operand) (w : State) (next : Datum → State → Out State) (x : State) →
      with_operand setting operand w next ≡ Go x → OneTaken operand w next (Go x)
  one-taken operand w next x e = by (evaluate_operand setting operand w) refl e
    where
      by : (o : Option (Datum × State)) → evaluate_operand setting operand w ≡ o →
          or_stuck {A = Datum × State} o (λ (t : Datum × State). next t.0 t.1) w ≡ Go x → OneTaken operand w next (Go x)
      by None eo e = absurd (let y : Halts Stuck w ≡ Go x = e in cc)
      by (Some t) eo e = record { v = t.0; u = t.1; gives = eo; then_does = e }

  pub record AllTaken (operands : List effects.Operand) (w : State) (next : List Datum → State → Out State)
      (o : Out State) : Type 0 where
    pub vs : List Datum
    pub u : State
    pub gives : evaluate_operands setting operands w ≡ Some (vs, u)
    pub then_does : next vs u ≡ o

  pub all-taken : (operands : List effects.Operand) (w : State) (next : List Datum → State → Out State) (x : State) →
      with_operands setting operands w next ≡ Go x → AllTaken operands w next (Go x)
  all-taken operands w next x e = by (evaluate_operands setting operands w) refl e
    where
      by : (o : Option (List Datum × State)) → evaluate_operands setting operands w ≡ o →
          or_stuck {A = List Datum × State} o (λ (t : List Datum × State). next t.0 t.1) w ≡ Go x →
          AllTaken operands w next (Go x)
      by None eo e = absurd (let y : Halts Stuck w ≡ Go x = e in cc)
      by (Some t) eo e = record { vs = t.0; u = t.1; gives = eo; then_does = e }

  -- one operand as a list of one
  pub one-of-list : (operand : effects.Operand) (w : State) (v : Datum) (u : State) →
      evaluate_operand setting operand w ≡ Some (v, u) → evaluate_operands setting (operand ∷ []) w ≡ Some (v ∷ [], u)
  one-of-list operand w v u e =
      ap (option_and_then {U = List Datum × State}
      (λ (one : Datum × State). option_map_or {U = Option (List Datum × State)}
      (λ (rest : List Datum × State). Some (one.0 ∷ rest.0, rest.1)) (evaluate_operands setting [] one.1) None)) e

  pub two-of-list : (left right : effects.Operand) (w m : State) (a c : Datum) (u : State) →
      evaluate_operand setting left w ≡ Some (a, m) → evaluate_operand setting right m ≡ Some (c, u) →
      evaluate_operands setting (left ∷ right ∷ []) w ≡ Some (a ∷ c ∷ [], u)
  two-of-list left right w m a c u e f =
      ap (option_and_then {U = List Datum × State}
      (λ (one : Datum × State). option_map_or {U = Option (List Datum × State)}
      (λ (rest : List Datum × State). Some (one.0 ∷ rest.0, rest.1)) (evaluate_operands setting (right ∷ []) one.1)
      None)) e
      ∙ ap (λ o. option_map_or {U = Option (List Datum × State)}
      (λ (rest : List Datum × State). Some (a ∷ rest.0, rest.1))
      o None) (one-of-list right m c u f)

  -- an event changes no cell
  pub told-cells : (event : Event) (w : State) → SameCells w (with_event event w)
  told-cells event w = record { less = omega arith; count = refl; bodies = λ d. refl; cells = λ d k. refl }

  pub events-cells : (events : List Event) (w : State) → SameCells w (with_events setting events w)
  events-cells events w = record { less = omega arith; count = refl; bodies = λ d. refl; cells = λ d k. refl }

  pub numbered-cells : (w : State) → SameCells w (numbered_next w)
  numbered-cells w = record { less = omega arith; count = refl; bodies = λ d. refl; cells = λ d k. refl }

  pub record ToldAfter (event : Event) (o : Out State) (x : State) : Type 0 where
    pub before : State
    pub went : o ≡ Go before
    pub is : with_event event before ≡ x

  pub told-after : (event : Event) (o : Out State) (x : State) → tell_after setting event o ≡ Go x →
      ToldAfter event o x
  told-after event (Go w) x e = record {
    before = w;
    went = refl;
    is =
        (let y : Go (with_event event w) ≡ Go x = e in cc);
  }
  told-after event (Unwind w) x e = absurd (let y : Unwind w ≡ Go x = e in cc)
  told-after event (Halts halt w) x e = absurd (let y : Halts halt w ≡ Go x = e in cc)

module _ (items : ItemTable) (local_ty : (body local : ℕ) → Option TyId) (number depth : ℕ) (body : Body)
    (addresses : List Addr) (before : State) (given : AllNameFull items local_ty before addresses)
    (locals_are : (k : ℕ) → local_ty number k ≡ slice_get body.locals k) where
  abbrev raw : Setting
  raw = raw_setting items local_ty

  abbrev HeldNow : List PathAction → State → Type 0
  HeldNow actions w = Held items local_ty number depth body addresses before given locals_are actions w

  abbrev Are : List Operand → List (Option TyId) → Type 0
  Are operands ids = OperandsAre items local_ty number depth body addresses before given locals_are operands ids

  pub same-Held : (actions : List PathAction) (w v : State) → SameCells w v → HeldNow actions w → HeldNow actions v
  same-Held actions w v s h =
      same-Invariant items local_ty number depth addresses before (IsNamed body) (IsLive body actions)
      (present_after items body actions) w v s h

  -- the operands of a line, as they are used
  pub record Operated (n line : ℕ) (actions : List PathAction) {operands : List Operand} {ids : List (Option TyId)}
      (are : Are operands ids) : Type 0 where
    pub used : AllUsed items local_ty number depth body addresses before given locals_are n line actions are
    pub spare : LineSpares items local_ty number depth body addresses before given locals_are n line are

  -- the place into which a line stores, after its operands
  pub record StoreOk (n line : ℕ) (actions : List PathAction) (place : graph.Place) (id : TyId) : Type 0 where
    pub ok : PlaceOk items local_ty number depth body addresses before given locals_are (named place) id
    pub reachable : IsOpen items local_ty number depth addresses before (IsNamed body) given (IsLive body actions)
        (present_after items body actions) ok.is
    pub free : is_reference (type_at items id) ≡ false

  abbrev StoreOf : (n line : ℕ) → graph.Place → PathAction
  StoreOf n line place = record { how = Stores; place = named place; block = n; line = line }

  -- a full value is stored
  pub store-Held : (n line : ℕ) (actions : List PathAction) (place : graph.Place) (id : TyId) → StoreOk n line actions
      place id → (w u : State) (v : Datum) → HeldNow actions w → IsFull items (OfType id) v →
      put raw (site_of 0 place) v w ≡ Go u → HeldNow (actions ++ StoreOf n line place ∷ []) u
  store-Held n line actions place id s w u v h full e =
      put-Held items local_ty number depth body addresses before given locals_are (StoreOf n line place)
      actions 0 id s.ok w
      u v refl s.reachable h full (full-plain items id v s.free full) e

  -- the uses of a line that stores what its operands give
  stored-uses : (n line : ℕ) (actions : List PathAction) (operands : List Operand) (place : graph.Place) →
      (actions ++ at_line n line (flat_map operand_uses operands)) ++ StoreOf n line place ∷ []
      ≡ actions ++ at_line n line (flat_map operand_uses operands ++ [] ++ (Stores, place) ∷ [])
  stored-uses n line actions operands place =
      append_assoc actions (at_line n line (flat_map operand_uses operands)) (StoreOf n line place ∷ [])
      ∙ ap (λ l. actions ++ l) (sym (at_line-append items local_ty number depth body addresses before
      given locals_are n line
      (flat_map operand_uses operands) ((Stores, place) ∷ []))
      ∙ ap (λ l. at_line n line (l ++ (Stores, place) ∷ [])) (sym (no-more (flat_map operand_uses operands))))
    where
      no-more : (xs : List (PlaceUse × graph.Place)) → xs ++ [] ≡ xs
      no-more [] = refl
      no-more (x ∷ xs) = ap (λ l. x ∷ l) (no-more xs)

  -- a line that stores a value which it makes of its operands
  pub line-Held : (n line : ℕ) (actions : List PathAction) {operands : List Operand} {ids : List (Option TyId)}
      (are : Are operands ids) (place : graph.Place) (id : TyId) → Operated n line actions are →
      StoreOk n line (actions ++ at_line n line (flat_map operand_uses operands)) place id → (w x : State)
      (vs : List Datum) (u m v : State) (value : Datum) → HeldNow actions w →
      evaluate_operands raw (operands_of 0 operands) w ≡ Some (vs, u) →
      (FullIf items local_ty number depth body addresses before given locals_are ids vs →
      IsFull items (OfType id) value) →
      SameCells u m → put raw (site_of 0 place) value m ≡ Go v → SameCells v x →
      HeldNow (actions ++ at_line n line (flat_map operand_uses operands ++ [] ++ (Stores, place) ∷ [])) x
  line-Held n line actions {operands} {ids} are place id o s w x vs u m v value h e full before_it stores after_it =
      let t = operands-Took items local_ty number depth body addresses before given locals_are n line are actions w vs u
      o.used o.spare h e in
      subst (λ l. HeldNow l x) (stored-uses n line actions operands place)
      (same-Held ((actions ++ at_line n line (flat_map operand_uses operands)) ++ StoreOf n line place ∷ [])
      v x after_it
      (store-Held n line (actions ++ at_line n line (flat_map operand_uses operands)) place id s m v value
      (same-Held (actions ++ at_line n line (flat_map operand_uses operands)) u m before_it t.held_now) (full t.full)
      stores))

  -- a line that stores nothing
  pub quiet-Held : (n line : ℕ) (actions : List PathAction) {operands : List Operand} {ids : List (Option TyId)}
      (are : Are operands ids) → Operated n line actions are → (w x : State) (vs : List Datum) (u : State) →
      HeldNow actions w → evaluate_operands raw (operands_of 0 operands) w ≡ Some (vs, u) → SameCells u x →
      HeldNow (actions ++ at_line n line (flat_map operand_uses operands ++ [] ++ [])) x
  quiet-Held n line actions {operands} {ids} are o w x vs u h e after_it =
      let t = operands-Took items local_ty number depth body addresses before given locals_are n line are actions w vs u
      o.used o.spare h e in
      subst (λ l. HeldNow (actions ++ at_line n line l) x) (sym (no-more (flat_map operand_uses operands ++ [])
      ∙ no-more (flat_map operand_uses operands)))
      (same-Held (actions ++ at_line n line (flat_map operand_uses operands)) u x after_it t.held_now)
    where
      no-more : (xs : List (PlaceUse × graph.Place)) → xs ++ [] ≡ xs
      no-more [] = refl
      no-more (x ∷ xs) = ap (λ l. x ∷ l) (no-more xs)

  -- ---- the statements

  -- where a value is there to be stored
  pub record PutIf (site : EffectSite) (o : Option Datum) (u x : State) : Type 0 where
    pub value : Datum
    pub is : o ≡ Some value
    pub stores : put raw site value u ≡ Go x

  pub put-if : (site : EffectSite) (o : Option Datum) (u x : State) → put_if raw site o u ≡ Go x → PutIf site o u x
  put-if site None u x e = absurd (let y : Halts Stuck u ≡ Go x = e in cc)
  put-if site (Some d) u x e = record { value = d; is = refl; stores = e }

  negated-truth : (v d : Datum) → negated raw v ≡ Some d → (b : Bool) × (d ≡ Truth b)
  negated-truth (Truth b) d e = (not b, (let x : Some (Truth (not b)) ≡ Some d = e in cc))
  negated-truth other d e = absurd (none-some d e)

  truth-of : (o : Option Bool) (d : Datum) → option_map_or (λ t. Some (Truth t)) o None ≡ Some d →
      (b : Bool) × (d ≡ Truth b)
  truth-of None d e = absurd (none-some d e)
  truth-of (Some b) d e = (b, (let x : Some (Truth b) ≡ Some d = e in cc))

  -- what an aggregate is made of, by its type
  pub data KindIs : AggregateKind → TyId → List TyId → Type 0 where
    a_tuple : (id : TyId) (ids : List TyId) → type_at items id ≡ Some (Ty.Tuple ids) → KindIs OfTuple id ids
    an_array : (id element : TyId) (count : ℕ) → type_at items id ≡ Some (Ty.Array element count) →
        KindIs OfArray id (replicate count element)
    a_closure : (id : TyId) (closure : ℕ) → type_at items id ≡ Some (Ty.Closure closure) →
        KindIs (OfClosure closure) id (captures_of (slice_get items.closures closure))
    a_variant : (id : TyId) (adt variant : ℕ) → type_at items id ≡ Some (Ty.Adt adt) →
        has_variant items (Some (Ty.Adt adt)) variant ≡ true →
        KindIs (OfVariant adt variant) id (fields_of (slice_get (variants_of (slice_get items.adts adt)) variant))

  -- a full value is stored, and the rest changes no cell
  pub record StoresFull (site : EffectSite) (id : TyId) (u x : State) : Type 0 where
    pub value : Datum
    pub full : IsFull items (OfType id) value
    pub start : State
    pub stored : State
    pub before_it : SameCells u start
    pub stores : put raw site value start ≡ Go stored
    pub after_it : SameCells stored x

  built-full : (site : EffectSite) (kind : AggregateKind) (id : TyId) (ids : List TyId) → KindIs kind id ids →
      (vs : List Datum) (u x : State) → AllFull items ids vs → built raw site kind vs u ≡ Go x →
      StoresFull site id u x
  built-full site _ id ids (a_tuple _ _ t) vs u x f e = record {
    value = Aggregate 0 None (data_from vs);
    full = aggregate-full items id (Ty.Tuple ids) 0 None vs t refl refl f;
    start = u;
    stored = x;
    before_it = same_cells u;
    stores = e;
    after_it = same_cells x;
  }
  built-full site _ id _ (an_array _ element count t) vs u x f e = record {
    value = Aggregate 0 None (data_from vs);
    full = aggregate-full items id (Ty.Array element count) 0 None vs t refl refl f;
    start = u;
    stored = x;
    before_it = same_cells u;
    stores = e;
    after_it = same_cells x;
  }
  built-full site _ id _ (a_closure _ closure t) vs u x f e = record {
    value = Aggregate 0 None (data_from vs);
    full = aggregate-full items id (Ty.Closure closure) 0 None vs t refl refl f;
    start = u;
    stored = x;
    before_it = same_cells u;
    stores = e;
    after_it = same_cells x;
  }
  built-full site _ id _ (a_variant _ adt variant t has) vs u x f e =
      by (drop_impl items (Some (Ty.Adt adt))) refl e
    where
      by : (o : Option (ℕ × ℕ)) → drop_impl items (Some (Ty.Adt adt)) ≡ o →
          made_event raw adt site (made adt variant vs (Some u.serial) o) o u ≡ Go x → StoresFull site id u x
      by None eo e = record {
        value = Aggregate variant None (data_from vs);
        full = aggregate-full items id (Ty.Adt adt) variant None vs t (sym (ap is_some eo)) has f;
        start = u;
        stored = x;
        before_it = same_cells u;
        stores = e;
        after_it = same_cells x;
      }
      by (Some of) eo e =
          let told = told-after raw (Event.Make adt u.serial) (put raw site
          (Aggregate variant (Some u.serial) (data_from vs)) (numbered_next u)) x e in record {
            value = Aggregate variant (Some u.serial) (data_from vs);
            full = aggregate-full items id (Ty.Adt adt) variant (Some u.serial) vs t (sym (ap is_some eo)) has f;
            start = numbered_next u;
            stored = told.before;
            before_it = numbered-cells raw u;
            stores = told.went;
            after_it = subst (SameCells told.before) told.is (told-cells raw (Event.Make adt u.serial) told.before);
          }

  -- a line that stores an aggregate of its operands
  pub build-line : (run : Bodies) (n line : ℕ) (actions : List PathAction) (w x : State) (to : graph.Place)
      (kind : AggregateKind) (parts : List Operand) (id : TyId) (ids : List TyId) (are : Are parts (map Some ids)) →
      Operated n line actions are → StoreOk n line (actions ++ at_line n line (flat_map operand_uses parts)) to id →
      KindIs kind id ids → HeldNow actions w →
      act raw run (effects.Build (site_of 0 to) kind (operands_of 0 parts)) w ≡ Go x →
      HeldNow (actions ++ at_line n line (flat_map operand_uses parts ++ [] ++ (Stores, to) ∷ [])) x
  build-line run n line actions w x to kind parts id ids are o s k h e =
      let t = all-taken raw (operands_of 0 parts) w (built raw (site_of 0 to) kind) x (went-on
      (effects.stores_where (never_at raw w) (effects.Build (site_of 0 to) kind (operands_of 0 parts))) Stuck
      (acted raw run (effects.Build (site_of 0 to) kind (operands_of 0 parts)) w) x e) in
      let took = operands-Took items local_ty number depth body addresses before given locals_are
      n line are actions w t.vs
      t.u o.used o.spare h t.gives in
      let b = built-full (site_of 0 to) kind id ids k t.vs t.u x (all-full items local_ty number depth body addresses
      before
      given locals_are ids t.vs took.full) t.then_does in
      line-Held n line actions are to id o s w x t.vs t.u b.start b.stored b.value h t.gives (λ f. b.full) b.before_it
      b.stores b.after_it

  module _ (run : Bodies) (n line : ℕ) (actions : List PathAction) (w x : State) (h : HeldNow actions w) where
    -- the operand itself
    pub put-line : (to : graph.Place) (from : Operand) (id : TyId) (is : Are (from ∷ []) (Some id ∷ [])) →
        Operated n line actions is → StoreOk n line (actions ++ at_line n line (flat_map operand_uses (from ∷ [])))
        to id →
        act raw run (effects.Put (site_of 0 to) (operand_of 0 from)) w ≡ Go x →
        HeldNow (actions ++ at_line n line (stmt_uses (Stmt.Put to from))) x
    put-line to from id is o s e =
        let t = one-taken raw (operand_of 0 from) w (put raw (site_of 0 to)) x (went-on
        (effects.stores_where (never_at raw w) (effects.Put (site_of 0 to) (operand_of 0 from))) Stuck
        (acted raw run (effects.Put (site_of 0 to) (operand_of 0 from)) w) x e) in
        line-Held n line actions is to id o s w x (t.v ∷ []) t.u t.u x t.v h
        (one-of-list raw (operand_of 0 from) w t.v t.u t.gives) (λ f. f.0) (same_cells t.u) t.then_does (same_cells x)

    -- the other truth value
    pub not-line : (to : graph.Place) (operand : Operand) (id : TyId) (of : Option TyId)
        (is : Are (operand ∷ []) (of ∷ [])) →
        Operated n line actions is →
        StoreOk n line (actions ++ at_line n line (flat_map operand_uses (operand ∷ []))) to id →
        is_bool (type_at items id) ≡ true →
        act raw run (effects.Not (site_of 0 to) (operand_of 0 operand)) w ≡ Go x →
        HeldNow (actions ++ at_line n line (stmt_uses (Stmt.Not to operand))) x
    not-line to operand id of is o s b e =
        let t = one-taken raw (operand_of 0 operand) w (λ v. put_if raw (site_of 0 to) (negated raw v)) x (went-on
        (effects.stores_where (never_at raw w) (effects.Not (site_of 0 to) (operand_of 0 operand))) Stuck
        (acted raw run (effects.Not (site_of 0 to) (operand_of 0 operand)) w) x e) in
        let p = put-if (site_of 0 to) (negated raw t.v) t.u x t.then_does in
        let truth = negated-truth t.v p.value p.is in
        line-Held n line actions is to id o s w x (t.v ∷ []) t.u t.u x p.value h
        (one-of-list raw (operand_of 0 operand) w t.v t.u t.gives)
        (λ f. subst (IsFull items (OfType id)) (sym truth.1) (truth-full items id truth.0 b)) (same_cells t.u) p.stores
        (same_cells x)

    -- what a comparison gives
    pub compare-line : (to : graph.Place) (operator : Cmp) (left right : Operand) (id : TyId)
        (of other : Option TyId) (is : Are (left ∷ right ∷ []) (of ∷ other ∷ [])) → Operated n line actions is →
        StoreOk n line (actions ++ at_line n line (flat_map operand_uses (left ∷ right ∷ []))) to id →
        is_bool (type_at items id) ≡ true →
        act raw run (effects.Compare (site_of 0 to) operator (operand_of 0 left) (operand_of 0 right)) w ≡ Go x →
        HeldNow (actions ++ at_line n line (stmt_uses (Stmt.Compare to operator left right))) x
    compare-line to operator left right id of other is o s b e =
        let gives : Datum → Datum → Option Datum =
        λ a c. option_map_or (λ t. Some (Truth t)) (compared operator a c) None in
        let one = one-taken raw (operand_of 0 left) w (λ a m. with_operand raw (operand_of 0 right) m
        (λ c. put_if raw (site_of 0 to) (gives a c))) x (went-on (effects.stores_where (never_at raw w)
        (effects.Compare (site_of 0 to) operator (operand_of 0 left) (operand_of 0 right))) Stuck
        (acted raw run (effects.Compare (site_of 0 to) operator (operand_of 0 left) (operand_of 0 right)) w) x e) in
        let two = one-taken raw (operand_of 0 right) one.u (λ c. put_if raw (site_of 0 to) (gives one.v c)) x
        one.then_does in
        let p = put-if (site_of 0 to) (gives one.v two.v) two.u x two.then_does in
        let truth = truth-of (compared operator one.v two.v) p.value p.is in
        line-Held n line actions is to id o s w x (one.v ∷ two.v ∷ []) two.u two.u x p.value h
        (two-of-list raw (operand_of 0 left) (operand_of 0 right) w one.u one.v two.v two.u one.gives two.gives)
        (λ f. subst (IsFull items (OfType id)) (sym truth.1) (truth-full items id truth.0 b))
        (same_cells two.u) p.stores
        (same_cells x)

    -- a new box
    pub box-line : (to : graph.Place) (operand : Operand) (id content : TyId)
        (is : Are (operand ∷ []) (Some content ∷ [])) → Operated n line actions is →
        StoreOk n line (actions ++ at_line n line (flat_map operand_uses (operand ∷ []))) to id →
        type_at items id ≡ Some (Ty.Boxed content) → is_dyn (type_at items content) ≡ false →
        act raw run (effects.NewBox (site_of 0 to) (operand_of 0 operand)) w ≡ Go x →
        HeldNow (actions ++ at_line n line (stmt_uses (Stmt.NewBox to operand))) x
    box-line to operand id content is o s t d e =
        let k = one-taken raw (operand_of 0 operand) w (boxed raw (site_of 0 to)) x (went-on
        (effects.stores_where (never_at raw w) (effects.NewBox (site_of 0 to) (operand_of 0 operand))) Stuck
        (acted raw run (effects.NewBox (site_of 0 to) (operand_of 0 operand)) w) x e) in
        let told = told-after raw (Event.Boxed k.u.serial) (put raw (site_of 0 to) (Box k.u.serial None k.v)
        (numbered_next k.u)) x k.then_does in
        line-Held n line actions is to id o s w x (k.v ∷ []) k.u (numbered_next k.u) told.before
        (Box k.u.serial None k.v) h
        (one-of-list raw (operand_of 0 operand) w k.v k.u k.gives)
        (λ f. box-full items id content k.u.serial k.v t d f.0)
        (numbered-cells raw k.u) told.went
        (subst (SameCells told.before) told.is (told-cells raw (Event.Boxed k.u.serial) told.before))

    -- a value that is forgotten
    pub forget-line : (operand : Operand) (id : Option TyId) (is : Are (operand ∷ []) (id ∷ [])) → Operated n line
        actions is →
        act raw run (effects.Forget (operand_of 0 operand)) w ≡ Go x →
        HeldNow (actions ++ at_line n line (stmt_uses (Stmt.Forget operand))) x
    forget-line operand id is o e =
        let told : Datum → List Event =
        λ v. option_map_or (forgotten items v) (type_of_operand raw w (operand_of 0 operand)) [] in
        let t = one-taken raw (operand_of 0 operand) w (λ v u. Go (with_events raw (told v) u)) x e in
        let is_it : with_events raw (told t.v) t.u ≡ x =
        (let y : Go (with_events raw (told t.v) t.u) ≡ Go x = t.then_does in
        cc) in
        quiet-Held n line actions is o w x (t.v ∷ []) t.u h (one-of-list raw (operand_of 0 operand) w t.v t.u t.gives)
        (subst (SameCells t.u) is_it (events-cells raw (told t.v) t.u))
