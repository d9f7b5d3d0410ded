-- What is left of the tests of actions where the first test holds: that the cell into which an action stores holds
-- nothing that needs dropping (`PassEmpty`), and that no place waits to be refilled (`PassRefilled`); what has to be known
-- of places; of moves, what may be moved and changed; of borrows, that they go to a cell apart; of calls all.
use Rattle.std.proofs.Common.{◌≡◌, is_some, nat_lt, ◌+◌, ◌==◌, length, ℕ, ◌&&◌, ◌||◌, not, Bool, true, false, List, [], ◌∷◌, Option, Some, None, refl, ap, sym, subst}
use Rattle.std.specs.Prelude.{option_and_then}
use Rattle.std.specs.Option.{option_map_or}
use Rattle.std.specs.Cmp.Derive.{both_true}
use Rattle.std.proofs.lemmas.Bool.{false≢true}
use Rattle.mir_ty.specs.declared.ty.Ty.{Ty}
use Rattle.mir_ty.specs.declared.ty.TyId.{TyId}
use Rattle.mir_ty.specs.ItemTable.{ItemTable, type_at}
use Rattle.store_model.specs.Abstract.Presence.{Presence}
use Rattle.store_model.specs.Concrete.Location.{named_by}
use Rattle.store_model.specs.Effects as effects
use Rattle.store_model.specs.Effects.{EffectSite, Operand, Action}
use Rattle.mir_ty.specs.Facts.{needs_drop}
use Rattle.src_meaning.specs.Locals.OfBody.{local_ty}
use Rattle.typed_tree.specs.Tree.{BodyTree}
use Rattle.soundness_values.proofs.CheckedBodies.{is_reference_param}
use Rattle.store_model.specs.Places.Place.{Step, Place, whole_local, ty_along, is_reference}
use Rattle.store_model.specs.Places.TypeForms.{is_dyn, is_dyn_of, is_bool, is_int, is_signed, same_int, are_compared, adt_of, box_content}
use Rattle.store_model.specs.Concrete.Effects.{impl_of}
use Rattle.mir_base.specs.declared.int_kind.IntKind.{IntKind}
use Rattle.soundness_values.proofs.Along.{are_plain}
use Rattle.soundness_values.proofs.Checks as checks
use Rattle.soundness_values.proofs.Checks.{no_steps}
use Rattle.soundness_values.proofs.Facts.{Facts, takes_index}
use Rattle.soundness_cells.proofs.PassCellNames.{names_none}
use Rattle.soundness_cells.proofs.PassCellTests as tests
use Rattle.soundness_cells.proofs.PassCellTests.{alone}
use Rattle.soundness_cells.proofs.PassCellTypes.{left_of, right_of, is_false, is_plain_scalar, scalar_undropped}
use Rattle.soundness_cells.proofs.PassSure.{known_place, sure_if_known}
use Rattle.soundness_values.proofs.Running.{sure_place, sure_in, sure_from}

pub whole_is : (place : Place) → no_steps place.steps ≡ true → place ≡ whole_local place.local
whole_is place e = by place.steps e
  where
    by : (steps : List Step) → no_steps steps ≡ true →
        record { local = place.local; steps = steps } ≡ whole_local place.local
    by [] e = refl
    by (step ∷ steps) e = absurd (false≢true e)

module _ (items : ItemTable) (local_ty : ℕ → Option TyId) (is_target : ℕ → Bool)
    (own : (l : ℕ) (id : TyId) → local_ty l ≡ Some id → is_reference (type_at items id) ≡ false → is_target l ≡ false)
  where
    abbrev Cells : Type 0
    Cells = List (ℕ × Presence)

    abbrev T : Option TyId → Option Ty
    T o = option_and_then (type_at items) (option_and_then (ty_along items []) o)

    abbrev takes_well : Facts → Operand → Bool
    takes_well = checks.takes_well items local_ty is_target

    abbrev moved_cell : Operand → Bool
    moved_cell = tests.moved_cell items local_ty is_target

    abbrev target : Place → Bool
    target = tests.target items local_ty is_target

    pub no_name : (id : TyId) → alone items id ≡ true → is_reference (type_at items id) ≡ false
    no_name id h = is_false (is_reference (type_at items id)) (left_of _ _ h)

    -- a whole local of a type that is no reference
    pub local_free : (l : ℕ) (id : TyId) → local_ty l ≡ Some id → is_reference (type_at items id) ≡ false →
        not (is_target l) ≡ true
    local_free l id e r = ap not (own l id e r)

    pub whole_sure : (facts : Facts) (l : ℕ) (id : TyId) → local_ty l ≡ Some id → is_reference (type_at items id) ≡ false →
        sure_from items local_ty is_target facts (whole_local l) id (named_by (type_at items id)) ≡ true
    whole_sure facts l id e r =
        subst (λ n. sure_from items local_ty is_target facts (whole_local l) id n ≡ true)
        (sym (names_none (type_at items id) r)) (both_true (local_free l id e r) refl)

    whole_taken : (facts : Facts) (l : ℕ) → option_map_or (alone items) (local_ty l) false ≡ true →
        (sure_place items local_ty is_target facts (whole_local l)
        && (checks.is_value items local_ty is_target (whole_local l)
        && checks.may_move items local_ty is_target (whole_local l))) ≡ true
    whole_taken facts l h = by (local_ty l) refl h
      where
        by : (o : Option TyId) → local_ty l ≡ o → option_map_or (alone items) o false ≡ true →
            (sure_in items local_ty is_target facts (whole_local l) o
            && ((not (is_reference (T o)) && not (is_dyn (T o)))
            && ((not (is_target l) && true) && option_map_or (are_plain items []) o false))) ≡ true
        by None e h = absurd (false≢true h)
        by (Some id) e h = both_true (whole_sure facts l id e (no_name id h))
            (both_true h (both_true (both_true (local_free l id e (no_name id h)) refl) refl))

    moved_taken : (facts : Facts) (operand : Operand) → moved_cell operand ≡ true → takes_well facts operand ≡ true
    moved_taken facts (effects.Moved site) h = subst (λ p. (sure_place items local_ty is_target facts p
        && (checks.is_value items local_ty is_target p && checks.may_move items local_ty is_target p)) ≡ true)
        (sym (whole_is site.place (left_of _ _ h))) (whole_taken facts site.place.local (right_of _ _ h))
    moved_taken facts operand h = absurd (false≢true h)

    moved_all : (facts : Facts) (ids : List TyId) (operands : List Operand) →
        tests.moved_cells items local_ty is_target ids operands ≡ true →
        checks.take_well items local_ty is_target facts ids operands ≡ true
    moved_all facts [] [] h = refl
    moved_all facts [] (operand ∷ operands) h = absurd (false≢true h)
    moved_all facts (id ∷ ids) [] h = absurd (false≢true h)
    moved_all facts (id ∷ ids) (operand ∷ operands) h =
        let one = left_of (moved_cell operand && checks.is_of items local_ty is_target operand id) _ h in
        both_true (both_true (moved_taken facts operand (left_of _ _ one)) (right_of (moved_cell operand) _ one))
        (moved_all (checks.after_operand items local_ty is_target operand facts) ids operands
        (right_of (moved_cell operand && checks.is_of items local_ty is_target operand id) _ h))

    -- a store into a whole cell that holds nothing which needs dropping
    abbrev pub clear_cell : Cells → Place → Bool
    clear_cell cells place = no_steps place.steps && checks.is_empty items local_ty is_target cells place

    whole_stored : (facts : Facts) (cells : Cells) (l : ℕ) → option_map_or (alone items) (local_ty l) false ≡ true →
        checks.is_empty items local_ty is_target cells (whole_local l) ≡ true →
        checks.may_store items local_ty is_target facts cells (whole_local l) ≡ true
    whole_stored facts cells l h k = by (local_ty l) refl h
      where
        by : (o : Option TyId) → local_ty l ≡ o → option_map_or (alone items) o false ≡ true →
            (sure_in items local_ty is_target facts (whole_local l) o
            && (((not (is_reference (T o)) && not (is_dyn (T o)))
            && (not (is_target l) || checks.is_unique items local_ty is_target (local_ty l)))
            && checks.is_empty items local_ty is_target cells (whole_local l))) ≡ true
        by None e h = absurd (false≢true h)
        by (Some id) e h = both_true (whole_sure facts l id e (no_name id h))
            (both_true (both_true h (first (not (is_target l)) _ (local_free l id e (no_name id h)))) k)
          where
            first : (a b : Bool) → a ≡ true → (a || b) ≡ true
            first true b x = refl
            first false b x = absurd (false≢true x)

    pub stored : (facts : Facts) (cells : Cells) (place : Place) → target place ≡ true → clear_cell cells place ≡ true →
        checks.may_store items local_ty is_target facts cells place ≡ true
    stored facts cells place h k =
        let w = whole_is place (left_of (no_steps place.steps) _ k) in
        subst (λ p. checks.may_store items local_ty is_target facts cells p ≡ true) (sym w)
        (whole_stored facts cells place.local (subst (λ p. target p ≡ true) w h)
        (subst (λ p. checks.is_empty items local_ty is_target cells p ≡ true) w (right_of (no_steps place.steps) _ k)))

    abbrev acts_well : Facts → Cells → Action → Bool
    acts_well = checks.acts_well items local_ty is_target

    abbrev cells_act : Action → Bool
    cells_act = tests.cells_act items local_ty is_target

    abbrev sure : Facts → Place → Bool
    sure = sure_place items local_ty is_target

    abbrev pub known : Facts → Place → Bool
    known = known_place items local_ty is_target

    -- what is left to be tested of a place into which a value is moved
    abbrev pub rest_store : Facts → Cells → Place → Bool
    rest_store facts cells place = known facts place
        && (checks.may_change items local_ty is_target place && checks.is_empty items local_ty is_target cells place)

    -- What is left to be tested of an action: what has to be known of the places that it names; what may be moved out
    -- of them, and stored; of a borrow, that it goes to a cell apart; of calls all.
    abbrev pub rest_act : Facts → Cells → Action → Bool
    rest_act facts cells (effects.Put to (effects.Copied site)) = clear_cell cells to.place && known facts site.place
    rest_act facts cells (effects.Put to (effects.Moved site)) =
        rest_store (checks.after_operand items local_ty is_target (effects.Moved site) facts) cells to.place
        && (known facts site.place && checks.may_move items local_ty is_target site.place)
    rest_act facts cells (effects.Put to from) = clear_cell cells to.place
    rest_act facts cells (effects.Compare to operator (effects.Moved site) right) = clear_cell cells to.place
    rest_act facts cells (effects.Compare to operator (effects.Copied site) right) =
        clear_cell cells to.place && known facts site.place
    rest_act facts cells (effects.Borrow to unique base) =
        not (is_target to.place.local)
        && (known facts base.place
        && (not (base.place.local == to.place.local) && not (takes_index to.place.local base.place.steps)))
    rest_act facts cells (effects.Touch base) = known facts base.place
    rest_act facts cells (effects.Not to operand) = clear_cell cells to.place
    rest_act facts cells (effects.Build to kind parts) = clear_cell cells to.place
    rest_act facts cells (effects.NewBox to content) = clear_cell cells to.place
    rest_act facts cells (effects.Unsize to trait_no operand) = clear_cell cells to.place
    rest_act facts cells (effects.Print operand) = true
    rest_act facts cells (effects.Forget operand) = true
    rest_act facts cells (effects.Compute to operator left right) = clear_cell cells to.place
    rest_act facts cells (effects.Negate to operand) = clear_cell cells to.place
    rest_act facts cells (effects.Bounds index length) = true
    rest_act facts cells (effects.Ask to) = clear_cell cells to.place
    rest_act facts cells action = acts_well facts cells action

    pub place_sure : (facts : Facts) (place : Place) → tests.leads items local_ty is_target place ≡ true →
        known facts place ≡ true → sure facts place ≡ true
    place_sure facts place h k = sure_if_known items local_ty is_target facts own place h k

    -- an answer of a type that is known, from operands that are moved
    stored_as : (facts : Facts) (cells : Cells) (to : EffectSite) (test : Option Ty → Bool) →
        (target to.place && test (checks.ty_of items local_ty is_target to.place)) ≡ true →
        clear_cell cells to.place ≡ true → checks.stores_as items local_ty is_target facts cells to test ≡ true
    stored_as facts cells to test h k =
        both_true (stored facts cells to.place (left_of (target to.place) _ h) k) (right_of (target to.place) _ h)

    pub taken_and : (facts : Facts) (operand : Operand) (test : Bool) → (moved_cell operand && test) ≡ true →
        (takes_well facts operand && test) ≡ true
    taken_and facts operand test h =
        both_true (moved_taken facts operand (left_of (moved_cell operand) test h)) (right_of (moved_cell operand) test h)

    both_taken : (facts : Facts) (left right : Operand) (test : Bool) →
        (moved_cell left && (moved_cell right && test)) ≡ true →
        (takes_well facts left
        && (takes_well (checks.after_operand items local_ty is_target left facts) right && test)) ≡ true
    both_taken facts left right test h =
        both_true (moved_taken facts left (left_of (moved_cell left) _ h))
        (taken_and (checks.after_operand items local_ty is_target left facts) right test
        (right_of (moved_cell left) _ h))

    built : (facts : Facts) (parts : List Operand) (o : Option (List TyId)) →
        option_map_or (λ tys. tests.moved_cells items local_ty is_target tys parts) o false ≡ true →
        option_map_or (λ tys. checks.take_well items local_ty is_target facts tys parts) o false ≡ true
    built facts parts None h = absurd (false≢true h)
    built facts parts (Some tys) h = moved_all facts tys parts h

    -- an index is a number in a cell
    number_plain : (kind : IntKind) (o : Option Ty) → is_int kind o ≡ true →
        ((is_reference o ≡ false) × (is_dyn o ≡ false)) × (is_plain_scalar items o ≡ true)
    number_plain kind (Some (Ty.Int other)) h = ((refl, refl), refl)
    number_plain kind None h = absurd (false≢true h)
    number_plain kind (Some ty) h = absurd (false≢true h)

    whole_copied : (facts : Facts) (l : ℕ) →
        is_int IntKind.Usize (checks.ty_of items local_ty is_target (whole_local l)) ≡ true →
        (sure_place items local_ty is_target facts (whole_local l)
        && (checks.is_value items local_ty is_target (whole_local l)
        && not (checks.needs items local_ty is_target (whole_local l)))) ≡ true
    whole_copied facts l h = by (local_ty l) refl h
      where
        by : (o : Option TyId) → local_ty l ≡ o → is_int IntKind.Usize (T o) ≡ true →
            (sure_in items local_ty is_target facts (whole_local l) o
            && ((not (is_reference (T o)) && not (is_dyn (T o)))
            && not (option_map_or (needs_drop items) (option_and_then (ty_along items []) o) false))) ≡ true
        by None e h = absurd (false≢true h)
        by (Some id) e h =
            let n = number_plain IntKind.Usize (type_at items id) h in
            both_true (whole_sure facts l id e n.0.0)
            (both_true (both_true (ap not n.0.0) (ap not n.0.1)) (ap not (scalar_undropped items id n.1)))

    index_taken : (facts : Facts) (site : EffectSite) → no_steps site.place.steps ≡ true →
        is_int IntKind.Usize (checks.ty_of items local_ty is_target site.place) ≡ true →
        ((no_steps site.place.steps && takes_well facts (effects.Copied site))
        && is_int IntKind.Usize (checks.ty_of items local_ty is_target site.place)) ≡ true
    index_taken facts site n h =
        let w = whole_is site.place n in
        both_true (both_true n (subst (λ p. (sure_place items local_ty is_target facts p
        && (checks.is_value items local_ty is_target p && not (checks.needs items local_ty is_target p))) ≡ true) (sym w)
        (whole_copied facts site.place.local
        (subst (λ p. is_int IntKind.Usize (checks.ty_of items local_ty is_target p) ≡ true) w h)))) h

    abbrev after : Operand → Facts → Facts
    after = checks.after_operand items local_ty is_target

    abbrev ty_of : EffectSite → Option Ty
    ty_of to = checks.ty_of items local_ty is_target to.place

    abbrev form_of : Operand → Option Ty
    form_of = checks.form_of items local_ty is_target

    one_answer : (facts : Facts) (cells : Cells) (to : EffectSite) (test : Option Ty → Bool) (operand : Operand)
        (more : Bool) → ((target to.place && test (ty_of to)) && (moved_cell operand && more)) ≡ true →
        clear_cell cells to.place ≡ true →
        (checks.stores_as items local_ty is_target (after operand facts) cells to test
        && (takes_well facts operand && more)) ≡ true
    one_answer facts cells to test operand more h k =
        both_true (stored_as (after operand facts) cells to test
        (left_of (target to.place && test (ty_of to)) (moved_cell operand && more) h) k)
        (taken_and facts operand more (right_of (target to.place && test (ty_of to)) (moved_cell operand && more) h))

    two_answer : (facts : Facts) (cells : Cells) (to : EffectSite) (test : Option Ty → Bool) (left right : Operand)
        (more : Bool) →
        ((target to.place && test (ty_of to)) && (moved_cell left && (moved_cell right && more))) ≡ true →
        clear_cell cells to.place ≡ true →
        (checks.stores_as items local_ty is_target (after right (after left facts)) cells to test
        && (takes_well facts left && (takes_well (after left facts) right && more))) ≡ true
    two_answer facts cells to test left right more h k =
        both_true (stored_as (after right (after left facts)) cells to test
        (left_of (target to.place && test (ty_of to)) (moved_cell left && (moved_cell right && more)) h) k)
        (both_taken facts left right more
        (right_of (target to.place && test (ty_of to)) (moved_cell left && (moved_cell right && more)) h))

    one_stored : (facts : Facts) (cells : Cells) (to : EffectSite) (operand : Operand) (more : Bool) →
        (target to.place && (moved_cell operand && more)) ≡ true → clear_cell cells to.place ≡ true →
        (checks.may_store items local_ty is_target (after operand facts) cells to.place
        && (takes_well facts operand && more)) ≡ true
    one_stored facts cells to operand more h k =
        both_true (stored (after operand facts) cells to.place (left_of (target to.place) (moved_cell operand && more) h)
        k)
        (taken_and facts operand more (right_of (target to.place) (moved_cell operand && more) h))

    copied_taken : (facts : Facts) (site : EffectSite) → tests.copied_at items local_ty is_target site.place ≡ true →
        known facts site.place ≡ true → takes_well facts (effects.Copied site) ≡ true
    copied_taken facts site h k =
        let v = left_of (tests.value_at items local_ty is_target site.place) _ h in
        both_true (place_sure facts site.place (left_of (tests.leads items local_ty is_target site.place) _ v) k)
        (both_true (right_of (tests.leads items local_ty is_target site.place) _ v)
        (right_of (tests.value_at items local_ty is_target site.place) _ h))

    literal_taken : (facts : Facts) (operand : Operand) → tests.is_literal items local_ty is_target operand ≡ true →
        takes_well facts operand ≡ true
    literal_taken facts (effects.Number value kind) h = h
    literal_taken facts (effects.Truth value) h = refl
    literal_taken facts (effects.Copied site) h = absurd (false≢true h)
    literal_taken facts (effects.Moved site) h = absurd (false≢true h)
    literal_taken facts effects.UnitValue h = absurd (false≢true h)

    four : (a b c d : Bool) → a ≡ true → (b && (c && d)) ≡ true → (b && ((a && c) && d)) ≡ true
    four true b c d e h = h
    four false b c d e h = absurd (false≢true e)

    pub rest_holds : (facts : Facts) (cells : Cells) (action : Action) → cells_act action ≡ true →
        rest_act facts cells action ≡ true → acts_well facts cells action ≡ true
    rest_holds facts cells (effects.Put to (effects.Copied site)) h k =
        both_true (stored facts cells to.place (left_of (target to.place) _ h)
        (left_of (clear_cell cells to.place) _ k))
        (both_true (copied_taken facts site
        (left_of (tests.copied_at items local_ty is_target site.place) _ (right_of (target to.place) _ h))
        (right_of (clear_cell cells to.place) _ k))
        (right_of (tests.copied_at items local_ty is_target site.place) _ (right_of (target to.place) _ h)))
    rest_holds facts cells (effects.Put to (effects.Moved site)) h k =
        let t = tests.value_at items local_ty is_target to.place in
        let v = tests.value_at items local_ty is_target site.place in
        let r = rest_store (after (effects.Moved site) facts) cells to.place in
        let from = right_of r _ k in
        let to_leads = tests.leads items local_ty is_target to.place in
        let leads = tests.leads items local_ty is_target site.place in
        let to_known = known (after (effects.Moved site) facts) to.place in
        both_true (four (checks.is_value items local_ty is_target to.place) _ _ _ (right_of to_leads _ (left_of t _ h))
        (both_true (place_sure (after (effects.Moved site) facts) to.place (left_of to_leads _ (left_of t _ h))
        (left_of to_known _ (left_of r _ k))) (right_of to_known _ (left_of r _ k))))
        (both_true (both_true (place_sure facts site.place (left_of leads _ (left_of v _ (right_of t _ h)))
        (left_of (known facts site.place) _ from))
        (both_true (right_of leads _ (left_of v _ (right_of t _ h))) (right_of (known facts site.place) _ from)))
        (right_of v _ (right_of t _ h)))
    rest_holds facts cells (effects.Put to (effects.Number value kind)) h k =
        both_true (stored facts cells to.place (left_of (target to.place) _ h) k) (right_of (target to.place) _ h)
    rest_holds facts cells (effects.Put to (effects.Truth value)) h k =
        both_true (stored facts cells to.place (left_of (target to.place) _ h) k) (right_of (target to.place) _ h)
    rest_holds facts cells (effects.Put to effects.UnitValue) h k =
        both_true (stored facts cells to.place (left_of (target to.place) _ h) k) (right_of (target to.place) _ h)
    rest_holds facts cells (effects.Compare to operator (effects.Moved site) right) h k =
        two_answer facts cells to is_bool (effects.Moved site) right
        (are_compared (form_of (effects.Moved site)) (form_of right)) h k
    rest_holds facts cells (effects.Compare to operator (effects.Copied site) right) h k =
        let first = left_of (target to.place && is_bool (ty_of to)) _ h in
        let rest = right_of (target to.place && is_bool (ty_of to)) _ h in
        let c = tests.copied_at items local_ty is_target site.place in
        let l = tests.is_literal items local_ty is_target right in
        both_true (stored_as (after right facts) cells to is_bool first (left_of (clear_cell cells to.place) _ k))
        (both_true (copied_taken facts site (left_of c _ rest) (right_of (clear_cell cells to.place) _ k))
        (both_true (literal_taken facts right (left_of l _ (right_of c _ rest))) (right_of l _ (right_of c _ rest))))
    rest_holds facts cells (effects.Compare to operator left right) h k = k
    rest_holds facts cells (effects.Not to operand) h k =
        one_answer facts cells to is_bool operand (is_bool (form_of operand)) h k
    rest_holds facts cells (effects.Build to kind parts) h k =
        both_true (stored (checks.after_operands items local_ty is_target parts facts) cells to.place
        (left_of (target to.place) _ h) k)
        (built facts parts (checks.part_types items local_ty is_target kind (ty_of to)) (right_of (target to.place) _ h))
    rest_holds facts cells (effects.NewBox to content) h k = one_stored facts cells to content
        (option_map_or (λ id. checks.is_of items local_ty is_target content id && not (is_dyn (type_at items id)))
        (box_content (ty_of to)) false) h k
    rest_holds facts cells (effects.Unsize to trait_no operand) h k = one_stored facts cells to operand
        (is_dyn_of trait_no (option_and_then (type_at items) (box_content (ty_of to)))
        && option_map_or (λ adt. is_some (impl_of items trait_no adt))
        (adt_of (option_and_then (type_at items) (box_content (form_of operand)))) false) h k
    rest_holds facts cells (effects.Borrow to unique base) h k =
        let leads = tests.leads items local_ty is_target base.place in
        let typed = right_of (no_steps to.place.steps) _ h in
        let more = right_of (not (is_target to.place.local)) _ k in
        both_true (both_true (left_of (no_steps to.place.steps) _ h) (left_of (not (is_target to.place.local)) _ k))
        (both_true (right_of leads _ typed) (both_true (place_sure facts base.place (left_of leads _ typed)
        (left_of (known facts base.place) _ more)) (right_of (known facts base.place) _ more)))
    rest_holds facts cells (effects.Touch base) h k = place_sure facts base.place h k
    rest_holds facts cells (effects.Print operand) h k = taken_and facts operand (is_int IntKind.I32 (form_of operand)) h
    rest_holds facts cells (effects.Forget operand) h k =
        taken_and facts operand (is_some (checks.form_of items local_ty is_target operand)) h
    rest_holds facts cells (effects.Free box) h k = k
    rest_holds facts cells (effects.Compute to operator left right) h k =
        two_answer facts cells to (same_int (form_of left)) left right (same_int (form_of left) (form_of right)) h k
    rest_holds facts cells (effects.Negate to operand) h k =
        one_answer facts cells to (same_int (form_of operand)) operand (is_signed (form_of operand)) h k
    rest_holds facts cells (effects.Bounds (effects.Copied site) length) h k =
        index_taken facts site (left_of (no_steps site.place.steps) _ h) (right_of (no_steps site.place.steps) _ h)
    rest_holds facts cells (effects.Bounds index length) h k = h
    rest_holds facts cells (effects.Call to body args) h k = k
    rest_holds facts cells (effects.CallVirtual to trait_no method args) h k = k
    rest_holds facts cells (effects.Ask to) h k = stored_as facts cells to (is_int IntKind.I32) h k

    pub acts_left : (facts : Facts) (cells : Cells) (action : Action) → cells_act action ≡ true →
        facts.refilled ≡ None → rest_act facts cells action ≡ true →
        checks.may_act items local_ty is_target facts cells action ≡ true
    acts_left facts cells action h e k = subst (λ o. checks.unless_refilled o (acts_well facts cells action)
        (λ hole. checks.refills items local_ty is_target facts hole action) ≡ true) (sym e)
        (rest_holds facts cells action h k)

-- a parameter that is a reference is of a type that is one
pub own_local : (items : ItemTable) (body : BodyTree) (l : ℕ) (id : TyId) → local_ty items body l ≡ Some id →
    is_reference (type_at items id) ≡ false → is_reference_param items body l ≡ false
own_local items body l id e r = second (nat_lt 0 l && nat_lt l (1 + length body.params))
    (is_reference (option_and_then (type_at items) (local_ty items body l)))
    (subst (λ o. is_reference (option_and_then (type_at items) o) ≡ false) (sym e) r)
  where
    second : (a b : Bool) → b ≡ false → (a && b) ≡ false
    second true b h = h
    second false b h = refl
