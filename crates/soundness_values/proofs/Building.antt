-- Aggregates of a checked run: made of operands of the types of their parts, each fits the type of its place.
use Rattle.std.proofs.Common.{◌≡◌, ℕ, suc, ◌==◌, ◌&&◌, ◌||◌, Bool, true, false, List, [], ◌∷◌, Option, Some, None, is_some, refl, ap, sym, ◌∙◌, subst}
use Rattle.std.specs.Prelude.{slice_get, option_and_then, replicate}
use Rattle.std.specs.Option.{option_map_or}
use Rattle.std.proofs.lemmas.Bool.{false≢true}
use Rattle.std.proofs.lemmas.Bool.Decides.{Decides-eqb}
use Rattle.std.proofs.lemmas.Option.{none-some}
use Rattle.mir_base.specs.declared.trace.Event.{Event}
use Rattle.mir_ty.specs.declared.ty.Ty.{Ty}
use Rattle.mir_ty.specs.declared.ty.TyId.{TyId}
use Rattle.mir_ty.specs.ItemTable.{ItemTable, type_at}
use Rattle.mir_ty.specs.Parts.{parts_of, captures_of}
use Rattle.store_model.proofs.Effects.Following.{Relation}
use Rattle.store_model.specs.declared.address.Addr.{Addr}
use Rattle.store_model.specs.Values.Datum.{Datum, Aggregate, data_from}
use Rattle.store_model.specs.Effects as effects
use Rattle.store_model.specs.Effects.{EffectSite, Operand, AggregateKind, OfTuple, OfArray, OfVariant, OfClosure, Stuck, Unreachable, Out, halting_if}
use Rattle.store_model.specs.Abstract.Effects as free
use Rattle.store_model.specs.Abstract.Effects.{AbstractState, operands_used}
use Rattle.store_model.specs.Abstract.Presence.{Presence, is_present}
use Rattle.store_model.specs.Places.Place.{place_ty, is_enum}
use Rattle.store_model.specs.Places.TypeForms.{is_never}
use Rattle.store_model.specs.Concrete.Drops.{drop_impl}
use Rattle.store_model.specs.Concrete.Effects as values
use Rattle.store_model.specs.Concrete.Effects.{or_stuck, evaluate_operand, evaluate_operands, act}
use Rattle.store_model.specs.Concrete.Location.{Setting, DynamicType, OfType, type_of_field}
use Rattle.store_model.specs.Concrete.State.{State, Bodies, numbered_next}
use Rattle.soundness_values.proofs.Doing.{FollowsOut, out_after}
use Rattle.soundness_values.specs.Typed.{is_aggregate, has_variant}
use Rattle.soundness_values.proofs.Fits.{variant_exists, Fits, PartsFit}
use Rattle.soundness_values.proofs.Facts.{Facts, without}
use Rattle.soundness_values.proofs.Dropped.{feeding}
use Rattle.soundness_values.proofs.Known.{Target}
use Rattle.soundness_values.proofs.Running.{Passed, Runs}
use Rattle.soundness_values.proofs.Changing.{runs_alike}
use Rattle.soundness_values.proofs.Checks.{ty_of, tys_if, part_types, is_of, may_store, takes_well, take_well, after_operand, after_operands, acts_well}
use Rattle.soundness_values.proofs.Standings.{alike_itself}
use Rattle.soundness_values.proofs.Taking.{first, second, rel, operand_follows}
use Rattle.soundness_values.proofs.Acting.{concrete_ty_is, value_is}
use Rattle.soundness_values.proofs.Actions.{some_id, Stores, stores_well, formed_at, puts, follows_told}

module _ (setting : Setting) (number : ℕ) (targets : List Target) (uniques : List Addr) (base : State)
    (is_target : ℕ → Bool) (passed : Passed setting number targets uniques base is_target) where
  abbrev items : ItemTable
  items = setting.items

  abbrev local_ty : ℕ → Option TyId
  local_ty key = setting.local_ty number key

  abbrev R : State → List (ℕ × Presence) → Facts → Type 0
  R = Runs setting number targets uniques base is_target

  abbrev rels : Facts → Relation State AbstractState
  rels = rel setting number targets uniques base is_target passed

  -- values of these types
  pub data AllFit : List Datum → List TyId → Type 0 where
    no_value : AllFit [] []
    a_value : (value : Datum) (id : TyId) (values : List Datum) (ids : List TyId) →
        Fits items (OfType id) is_present value → AllFit values ids → AllFit (value ∷ values) (id ∷ ids)

  pub one_then_all : (operand : Operand) (operands : List Operand) (w w0 : State)
      (next : List Datum → State → Out State) →
      or_stuck {A = Datum × State} (evaluate_operand setting operand w)
      (λ t. or_stuck {A = List Datum × State} (evaluate_operands setting operands t.1)
      (λ rest. next (t.0 ∷ rest.0) rest.1) w0) w0
      ≡ or_stuck {A = List Datum × State} (evaluate_operands setting (operand ∷ operands) w) (λ t. next t.0 t.1) w0
  one_then_all operand operands w w0 next = by_one (evaluate_operand setting operand w)
    where
      by_rest : (one : Datum) (o : Option (List Datum × State)) →
          or_stuck {A = List Datum × State} o (λ rest. next (one ∷ rest.0) rest.1) w0
          ≡ or_stuck {A = List Datum × State} (option_map_or (λ rest. Some (one ∷ rest.0, rest.1)) o None)
          (λ t. next t.0 t.1) w0
      by_rest one None = refl
      by_rest one (Some rest) = refl

      by_one : (o : Option (Datum × State)) →
          or_stuck {A = Datum × State} o
          (λ t. or_stuck {A = List Datum × State} (evaluate_operands setting operands t.1)
          (λ rest. next (t.0 ∷ rest.0) rest.1) w0) w0
          ≡ or_stuck {A = List Datum × State}
          (option_and_then (λ one. option_map_or (λ rest. Some (one.0 ∷ rest.0, rest.1))
          (evaluate_operands setting operands one.1) None) o) (λ t. next t.0 t.1) w0
      by_one None = refl
      by_one (Some one) = by_rest one.0 (evaluate_operands setting operands one.1)

  -- operands one after the other
  pub all_follow : (goal : Facts) (operands : List Operand) (ids : List TyId) (facts : Facts) (w w0 : State)
      (cells : List (ℕ × Presence)) (next : List Datum → State → Out State)
      (more : AbstractState → Out AbstractState) →
      take_well items local_ty is_target facts ids operands ≡ true → R w cells facts →
      ((values : List Datum) (v : State) (cells' : List (ℕ × Presence)) → AllFit values ids →
      R v cells' (after_operands items local_ty is_target operands facts) →
      FollowsOut (rels goal) tt (next values v) (λ t. more (feeding t cells'))) →
      FollowsOut (rels goal) tt
      (or_stuck {A = List Datum × State} (evaluate_operands setting operands w) (λ t. next t.0 t.1) w0)
      (λ t. operands_used items local_ty operands more (feeding t cells))
  all_follow goal [] [] facts w w0 cells next more h r f = f [] w cells no_value r
  all_follow goal [] (id ∷ ids) facts w w0 cells next more h r f = absurd (false≢true h)
  all_follow goal (operand ∷ operands) [] facts w w0 cells next more h r f = absurd (false≢true h)
  all_follow goal (operand ∷ operands) (id ∷ ids) facts w w0 cells next more h r f =
      let one = first (takes_well items local_ty is_target facts operand && is_of items local_ty is_target operand
      id) _ h in
      let rest = second (takes_well items local_ty is_target facts operand && is_of items local_ty is_target operand
      id) _ h in
      subst (λ o. FollowsOut (rels goal) tt o
      (λ t. operands_used items local_ty (operand ∷ operands) more (feeding t cells)))
      (one_then_all operand operands w w0 next)
      (operand_follows setting number targets uniques base is_target passed w cells facts r goal operand w0
      (λ d v. or_stuck {A = List Datum × State} (evaluate_operands setting operands v) (λ t. next (d ∷ t.0) t.1) w0)
      (operands_used items local_ty operands more)
      (first (takes_well items local_ty is_target facts operand) _ one)
      (λ d v cells' value run. all_follow goal operands ids (after_operand items local_ty is_target operand facts) v
      w0 cells' (λ values. next (d ∷ values)) more rest run
      (λ values u cells'' all again. f (d ∷ values) u cells''
      (a_value d id values ids (value_is setting number targets uniques base is_target passed operand d id value
      (second (takes_well items local_ty is_target facts operand) _ one)) all) again)))

  -- the parts of an aggregate
  pub parts_of_values : (values : List Datum) (ids : List TyId) (found_at : ℕ → Option DynamicType) →
      AllFit values ids → ((n : ℕ) → found_at n ≡ option_map_or (λ id. Some (OfType id)) (slice_get ids n) None) →
      PartsFit items found_at (λ n. is_present) (data_from values)
  parts_of_values [] ids found_at no_value e = e
  parts_of_values (value ∷ values) ids found_at (a_value _ id _ rest fits_value all) e =
      ((OfType id, e 0, fits_value), parts_of_values values rest (λ n. found_at (suc n)) all (λ n. e (suc n)))

  -- an aggregate of a type, from the values of its parts
  aggregate_fits : (end : TyId) (ty : Ty) → type_at items end ≡ Some ty → (tys : List TyId) (values : List Datum) →
      AllFit values tys → (variant : ℕ) (serial : Option ℕ) → is_some serial ≡ is_some (drop_impl items (Some ty)) →
      (is_aggregate (Some ty) && ((is_enum items ty || variant == 0) && variant_exists items (Some ty) variant))
      ≡ true →
      ((n : ℕ) → type_of_field items variant n (Some ty) ≡ option_map_or (λ id. Some (OfType id))
      (slice_get tys n) None) → Fits items (OfType end) is_present (Aggregate variant serial (data_from values))
  aggregate_fits end ty e tys values all variant serial s a parts = (
    refl,
    s ∙ ap (λ o. is_some (drop_impl items o)) (sym e),
    ap (λ o. is_aggregate o
        && ((option_map_or (is_enum items) o false || variant == 0) && variant_exists items o variant)) e ∙ a,
    parts_of_values values tys (λ n. type_of_field items variant n (type_at items end)) all
        (λ n. ap (type_of_field items variant n) e ∙ parts n),
  )

  -- what an aggregate is made as
  pub data MadeAs (kind : AggregateKind) (ty : Ty) (tys : List TyId) : Type 0 where
    as_tuple : kind ≡ OfTuple → ty ≡ Ty.Tuple tys → MadeAs kind ty tys
    as_array : (element : TyId) (count : ℕ) → kind ≡ OfArray → ty ≡ Ty.Array element count →
        tys ≡ replicate count element → MadeAs kind ty tys
    as_variant : (adt variant : ℕ) → kind ≡ OfVariant adt variant → ty ≡ Ty.Adt adt →
        has_variant items (Some (Ty.Adt adt)) variant ≡ true → tys ≡ parts_of items (Ty.Adt adt) variant →
        MadeAs kind ty tys
    as_closure : (closure : ℕ) → kind ≡ OfClosure closure → ty ≡ Ty.Closure closure →
        tys ≡ captures_of (slice_get items.closures closure) → MadeAs kind ty tys

  tys_are : (b : Bool) (all tys : List TyId) → tys_if b all ≡ Some tys → (b ≡ true) × (tys ≡ all)
  tys_are true all tys e = (refl, sym (some_list e))
    where
      some_list : {a b : List TyId} → Some a ≡ Some b → a ≡ b
      some_list x = cc
  tys_are false all tys e = absurd (none-some tys e)

  pub made_as : (kind : AggregateKind) (o : Option Ty) (tys : List TyId) → part_types items local_ty is_target kind o
      ≡ Some tys → (ty : Ty) × ((o ≡ Some ty) × MadeAs kind ty tys)
  made_as OfTuple (Some (Ty.Tuple ts)) tys e = let same : ts ≡ tys =
      cc in (Ty.Tuple ts, (refl, as_tuple refl (ap Ty.Tuple same)))
  made_as OfArray (Some (Ty.Array element count)) tys e = let same : replicate count element ≡ tys =
      cc in (Ty.Array element count, (refl, as_array element count refl refl (sym same)))
  made_as (OfVariant adt variant) (Some (Ty.Adt n)) tys e =
      let t = tys_are (adt == n && has_variant items (Some (Ty.Adt n)) variant) (parts_of items (Ty.Adt n) variant)
      tys e in
      let same : adt ≡ n = (Decides-eqb adt n).0 (first (adt == n) _ t.0) in (
        Ty.Adt n,
        (
          refl,
          as_variant n variant (ap (λ x. OfVariant x variant) same) refl
              (second (adt == n) _ t.0) t.1,
        ),
      )
  made_as (OfClosure closure) (Some (Ty.Closure n)) tys e =
      let t = tys_are (closure == n) (captures_of (slice_get items.closures n)) tys e in
      (Ty.Closure n, (refl, as_closure n (ap OfClosure ((Decides-eqb closure n).0 t.0)) refl t.1))
  made_as OfTuple None tys e = absurd (none-some tys e)
  made_as OfArray None tys e = absurd (none-some tys e)
  made_as (OfVariant a v) None tys e = absurd (none-some tys e)
  made_as (OfClosure c) None tys e = absurd (none-some tys e)
  made_as OfTuple (Some other) tys e = absurd (none-some tys e)
  made_as OfArray (Some other) tys e = absurd (none-some tys e)
  made_as (OfVariant a v) (Some other) tys e = absurd (none-some tys e)
  made_as (OfClosure c) (Some other) tys e = absurd (none-some tys e)

  module _ (run : Bodies) (w : State) (cells : List (ℕ × Presence)) (facts : Facts) (runs : R w cells facts)
      (to : EffectSite) (end : TyId) (is_at : place_ty items local_ty to.place ≡ Some end) where
    -- the aggregate is stored; a value with a `Drop` impl gets the next number
    built_follows : (kind : AggregateKind) (ty : Ty) (tys : List TyId) → type_at items end ≡ Some ty →
        MadeAs kind ty tys → (known : Facts) → Stores setting number targets uniques base is_target passed known
        cells to.place →
        (made_of : List Datum) (v : State) (cells' : List (ℕ × Presence)) → AllFit made_of tys → R v cells' known →
        FollowsOut (rels (without to.place known)) tt (values.built setting to kind made_of v)
        (λ t. free.store items local_ty to (feeding t cells'))
    built_follows kind ty tys e (as_tuple k t) known st made_of v cells' all r =
        subst (λ x. FollowsOut (rels (without to.place known)) tt (values.built setting to x made_of v)
        (λ t. free.store items local_ty to (feeding t cells'))) (sym k)
        (puts setting number targets uniques base is_target passed run w cells facts runs known to end is_at st.sure
        st.changes (Aggregate 0 None (data_from made_of)) v cells'
        (aggregate_fits end (Ty.Tuple tys) (e ∙ ap (λ (x : Ty). Some x) t) tys made_of all 0 None refl refl
        (λ n. refl)) r)
    built_follows kind ty tys e (as_array element count k t is) known st made_of v cells' all r =
        subst (λ x. FollowsOut (rels (without to.place known)) tt (values.built setting to x made_of v)
        (λ t. free.store items local_ty to (feeding t cells'))) (sym k)
        (puts setting number targets uniques base is_target passed run w cells facts runs known to end is_at st.sure
        st.changes (Aggregate 0 None (data_from made_of)) v cells'
        (aggregate_fits end (Ty.Array element count) (e ∙ ap (λ (x : Ty). Some x) t) tys made_of all 0 None refl refl
        (λ n. ap (λ l. option_map_or (λ id. Some (OfType id)) (slice_get l n) None) (sym is))) r)
    built_follows kind ty tys e (as_closure closure k t is) known st made_of v cells' all r =
        subst (λ x. FollowsOut (rels (without to.place known)) tt (values.built setting to x made_of v)
        (λ t. free.store items local_ty to (feeding t cells'))) (sym k)
        (puts setting number targets uniques base is_target passed run w cells facts runs known to end is_at st.sure
        st.changes (Aggregate 0 None (data_from made_of)) v cells'
        (aggregate_fits end (Ty.Closure closure) (e ∙ ap (λ (x : Ty). Some x) t) tys made_of all 0 None refl refl
        (λ n. ap (λ l. option_map_or (λ id. Some (OfType id)) (slice_get l n) None) (sym is))) r)
    built_follows kind ty tys e (as_variant adt variant k t has is) known st made_of v cells' all r =
        subst (λ x. FollowsOut (rels (without to.place known)) tt (values.built setting to x made_of v)
        (λ t. free.store items local_ty to (feeding t cells'))) (sym k)
        (by (drop_impl items (Some (Ty.Adt adt))) refl)
      where
        swapped : (a b : Bool) → (a && b) ≡ true → (b && a) ≡ true
        swapped true true h = refl
        swapped true false h = h
        swapped false true h = h
        swapped false false h = h

        fits : (serial : Option ℕ) → is_some serial ≡ is_some (drop_impl items (Some (Ty.Adt adt))) →
            Fits items (OfType end) is_present (Aggregate variant serial (data_from made_of))
        fits serial s = aggregate_fits end (Ty.Adt adt) (e ∙ ap (λ (x : Ty). Some x) t) tys made_of all variant serial
            s (swapped (variant_exists items (Some (Ty.Adt adt)) variant)
            (is_enum items (Ty.Adt adt) || variant == 0) has)
            (λ n. ap (λ l. option_map_or (λ id. Some (OfType id)) (slice_get l n) None) (sym is))

        by : (o : Option (ℕ × ℕ)) → drop_impl items (Some (Ty.Adt adt)) ≡ o →
            FollowsOut (rels (without to.place known)) tt
            (values.made_event setting adt to (values.made adt variant made_of (Some v.serial) o) o v)
            (λ t. free.store items local_ty to (feeding t cells'))
        by None d = puts setting number targets uniques base is_target passed run w cells facts runs known to end
            is_at st.sure st.changes (Aggregate variant None (data_from made_of)) v cells'
            (fits None (ap is_some (sym d))) r
        by (Some of) d = follows_told setting number targets uniques base is_target passed (without to.place known)
            (Event.Make adt v.serial)
            (puts setting number targets uniques base is_target passed run w cells facts runs known to end is_at
            st.sure st.changes (Aggregate variant (Some v.serial) (data_from made_of)) (numbered_next v) cells'
            (fits (Some v.serial) (ap is_some (sym d)))
            (runs_alike setting number targets uniques base is_target passed v (numbered_next v) cells' known r
            (alike_itself v.activations)))

  not_never : (kind : AggregateKind) (ty : Ty) (tys : List TyId) → MadeAs kind ty tys → is_never (Some ty) ≡ false
  not_never kind ty tys (as_tuple k t) = ap (λ (x : Ty). is_never (Some x)) t
  not_never kind ty tys (as_array element count k t is) = ap (λ (x : Ty). is_never (Some x)) t
  not_never kind ty tys (as_variant adt variant k t has is) = ap (λ (x : Ty). is_never (Some x)) t
  not_never kind ty tys (as_closure closure k t is) = ap (λ (x : Ty). is_never (Some x)) t

  module _ (run : Bodies) (w : State) (cells : List (ℕ × Presence)) (facts : Facts) (runs : R w cells facts) where
    -- an aggregate is made
    pub build_acts : (to : EffectSite) (kind : AggregateKind) (parts : List Operand) → acts_well items local_ty
        is_target facts cells (effects.Build to kind parts) ≡ true →
        FollowsOut (rels (without to.place (after_operands items local_ty is_target parts facts))) tt
        (act setting run (effects.Build to kind parts) w)
        (λ t. free.act items local_ty (effects.Build to kind parts) (feeding t cells))
    build_acts to kind parts h =
        let known = after_operands items local_ty is_target parts facts in
        let st = stores_well setting number targets uniques base is_target passed known cells to.place
        (first (may_store items local_ty is_target known cells to.place) _ h) in
        let tys = some_id (part_types items local_ty is_target kind (ty_of items local_ty is_target to.place))
        (λ tys. take_well items local_ty is_target facts tys parts)
        (second (may_store items local_ty is_target known cells to.place) _ h) in
        let made = made_as kind (ty_of items local_ty is_target to.place) tys.0 tys.1.0 in
        let at = formed_at setting number targets uniques base is_target passed run w cells facts runs to made.0
        made.1.0 in
        let some = ap is_never at.is_ty ∙ not_never kind made.0 tys.0 made.1.1 in
        subst (λ b. FollowsOut (rels (without to.place known)) tt
        (halting_if b Stuck (values.with_operands setting parts w (values.built setting to kind)))
        (λ t. free.act items local_ty (effects.Build to kind parts) (feeding t cells)))
        (sym (ap is_never (concrete_ty_is setting number targets uniques base is_target passed w cells facts runs to ∙
        ap (option_and_then (type_at items)) at.is_at) ∙ some))
        (out_after (rels (without to.place known)) [] _
        (λ rest. ap (λ b. halting_if b Unreachable
        (operands_used items local_ty parts (free.store items local_ty to) (feeding rest cells)))
        (ap (λ x. is_never (option_and_then (type_at items) x)) at.is_at ∙ some))
        (all_follow (without to.place known) parts tys.0 facts w w cells (values.built setting to kind)
        (free.store items local_ty to) tys.1.1 runs
        (λ made_of v cells' all r. built_follows run w cells facts runs to at.end at.is_at kind made.0 tys.0 at.is_ty
        made.1.1 known st made_of v cells' all r)))
