-- The kinds of the drops of worked programs, and which of their paths have flags, by computation.
use Rattle.std.proofs.Common.{◌≡◌, ◌⊎◌, inl, inr, ◌∷◌, [], ℕ, true, false, List, Contains, refl, sym, subst}
use Rattle.std.specs.List.{list_all}
use Rattle.std.proofs.lemmas.Bool.{false≢true}
use Rattle.std.proofs.lemmas.Option.{none-some}
use Rattle.mir_ty.proofs.ListLemmas.{slice_get-Contains}
use Rattle.cfg_graph.specs.declared.graph.Body.{Body}
use Rattle.cfg_graph.specs.declared.terminator.Unwind.{Unwind}
use Rattle.cfg_graph.specs.Moves.Gone.{below}
use Rattle.move_paths.specs.Forest.{is_path}
use Rattle.store_model.specs.Places.Place.{ToPart, ToContent, ToField, Place, whole_local}
use Rattle.drop_values.specs.Facts.{no_branch}
use Rattle.drop_elaborate.specs.Kinds.{IsKind, IsDead, IsDrop, IsOpenable, Dead, Plain, Conditional, Opened, IsFlagged, AreFlagged}
use Rattle.drop_kinds.proofs.AllWays.{one-of}
use Rattle.drop_kinds.proofs.KindsByWays.{dead-by, alive-by, sure-by, unsure-by, may-be-there, may-be-gone, apart-by, flags-are, drops_nothing}
use Rattle.drop_kinds.proofs.WorkedBodies.{ty_no, items, local, parts_of_parameters, moved_on_one_way, part_of_a_box, field_on_one_way, forgotten}

none-dead : (body : Body) (n : ℕ) → Contains [] n → (place : Place) → IsDrop items body n place →
    IsDead items body n place
none-dead body n has = absurd (none-some n (slice_get-Contains [] n has))

none-flagged : (body : Body) (paths : List Place) (path : Place) → Contains [] path → IsFlagged items body paths path
none-flagged body paths path has = absurd (none-some path (slice_get-Contains [] path has))

-- ---- one part of each parameter is moved away, on each way: the drop of a parameter is opened, and nothing has a flag

module _ where
  the_second_binding : IsKind items parts_of_parameters 0 (whole_local 4) Plain
  the_second_binding = (
    alive-by items parts_of_parameters 10 refl 0 (whole_local 4) [] (ty_no 2) refl refl refl refl,
    sure-by items parts_of_parameters 10 refl 0 (whole_local 4) refl,
  )

  the_second_parameter : IsKind items parts_of_parameters 8 (whole_local 2) Opened
  the_second_parameter = (
    alive-by items parts_of_parameters 10 refl 8 (whole_local 2) (ToPart 0 ∷ []) (ty_no 2) refl refl refl refl,
    unsure-by items parts_of_parameters 10 refl 8 (whole_local 2) refl,
    record { step = ToPart 1; steps = []; path = refl },
  )

  the_first_binding : IsKind items parts_of_parameters 6 (whole_local 3) Plain
  the_first_binding = (
    alive-by items parts_of_parameters 10 refl 6 (whole_local 3) [] (ty_no 2) refl refl refl refl,
    sure-by items parts_of_parameters 10 refl 6 (whole_local 3) refl,
  )

  the_first_parameter : IsKind items parts_of_parameters 3 (whole_local 1) Opened
  the_first_parameter = (
    alive-by items parts_of_parameters 10 refl 3 (whole_local 1) (ToPart 1 ∷ []) (ty_no 2) refl refl refl refl,
    unsure-by items parts_of_parameters 10 refl 3 (whole_local 1) refl,
    record { step = ToPart 0; steps = []; path = refl },
  )

  abbrev parameter_paths : List Place
  parameter_paths =
      whole_local 0 ∷ whole_local 1 ∷ whole_local 2 ∷ whole_local 3 ∷ whole_local 4 ∷ below (whole_local 1)
      (ToPart 0 ∷ [])
      ∷ below (whole_local 2) (ToPart 1 ∷ []) ∷ []

  these_are_paths : list_all (is_path items parts_of_parameters) parameter_paths ≡ true
  these_are_paths = refl

  no_flags : AreFlagged items parts_of_parameters parameter_paths []
  no_flags =
      flags-are items parts_of_parameters 10 refl [] (none-dead parts_of_parameters) parameter_paths []
      (none-flagged parts_of_parameters parameter_paths) refl refl

-- ---- a value that is moved on one way: its drop is conditional, also where a panic unwinds, and it has the only flag

module _ where
  abbrev x : Place
  x = whole_local 1

  not_openable : IsOpenable items moved_on_one_way x → ⊥
  not_openable open_it = false≢true open_it.path

  it_may_be_gone : IsKind items moved_on_one_way 3 x Conditional
  it_may_be_gone = (
    alive-by items moved_on_one_way 10 refl 3 x [] (ty_no 2) refl refl refl refl,
    unsure-by items moved_on_one_way 10 refl 3 x refl,
    not_openable,
  )

  it_may_be_gone_after_a_panic : IsKind items moved_on_one_way 7 x Conditional
  it_may_be_gone_after_a_panic = (
    alive-by items moved_on_one_way 10 refl 7 x [] (ty_no 2) refl refl refl refl,
    unsure-by items moved_on_one_way 10 refl 7 x refl,
    not_openable,
  )

  abbrev locals_alone : List Place
  locals_alone =
      whole_local 0 ∷ whole_local 1 ∷ whole_local 2 ∷ whole_local 3 ∷ whole_local 4 ∷ whole_local 5 ∷ whole_local 6
      ∷ whole_local 7 ∷ []

  its_flag : IsFlagged items moved_on_one_way locals_alone x
  its_flag = (
    3,
    x,
    record {
      block = _;
      there = refl;
      dropped = local 1;
      next = 2;
      unwind = Unwind.Resume;
      term_is = refl;
      place_is = refl;
    },
    record {
      not_dead = it_may_be_gone.0;
      not_sure = it_may_be_gone.1;
      steps = [];
      path_is = refl;
      number = 1;
      under = no_branch;
      tree = (refl, tt, λ step none. refl);
      id = ty_no 2;
      typed = refl;
      needed = refl;
      reads = refl;
      apart = apart-by items moved_on_one_way 10 refl 3 x [] refl;
      present = may-be-there items moved_on_one_way 10 refl 3 x refl;
      gone = may-be-gone items moved_on_one_way 10 refl 3 x refl;
    },
  )

  one_flag : AreFlagged items moved_on_one_way locals_alone (x ∷ [])
  one_flag =
      flags-are items moved_on_one_way 10 refl [] (none-dead moved_on_one_way) locals_alone (x ∷ [])
      (λ path has. subst (IsFlagged items moved_on_one_way locals_alone) (one-of x path has) its_flag) refl refl

-- ---- a part of the content of a box is moved away, on each way: the drop of the box is opened, and nothing has a flag

module _ where
  the_box : IsKind items part_of_a_box 3 (whole_local 1) Opened
  the_box = (
    alive-by items part_of_a_box 10 refl 3 (whole_local 1) [] (ty_no 6) refl refl refl refl,
    unsure-by items part_of_a_box 10 refl 3 (whole_local 1) refl,
    record { step = ToContent; steps = []; path = refl },
  )

  the_box_after_a_panic : IsKind items part_of_a_box 5 (whole_local 1) Opened
  the_box_after_a_panic = (
    alive-by items part_of_a_box 10 refl 5 (whole_local 1) [] (ty_no 6) refl refl refl refl,
    unsure-by items part_of_a_box 10 refl 5 (whole_local 1) refl,
    record { step = ToContent; steps = []; path = refl },
  )

  abbrev box_paths : List Place
  box_paths =
      whole_local 0 ∷ whole_local 1 ∷ whole_local 2 ∷ whole_local 3 ∷ whole_local 4 ∷ whole_local 5 ∷ whole_local 6
      ∷ whole_local 7 ∷ whole_local 8 ∷ below (whole_local 1) (ToContent ∷ []) ∷ below (whole_local 1)
      (ToContent ∷ ToPart 0 ∷ []) ∷ []

  these_are_paths_of_the_box : list_all (is_path items part_of_a_box) box_paths ≡ true
  these_are_paths_of_the_box = refl

  no_flag_of_a_box : AreFlagged items part_of_a_box box_paths []
  no_flag_of_a_box =
      flags-are items part_of_a_box 10 refl [] (none-dead part_of_a_box) box_paths []
      (none-flagged part_of_a_box box_paths) refl refl

-- ---- a field of a variant is moved on one way: the drop of the enum is opened, the binding's drop after the move is
-- dead, and the field has the only flag

module _ where
  the_enum : IsKind items field_on_one_way 3 (whole_local 1) Opened
  the_enum = (
    alive-by items field_on_one_way 20 refl 3 (whole_local 1) (ToField 1 0 ∷ []) (ty_no 2) refl refl refl refl,
    unsure-by items field_on_one_way 20 refl 3 (whole_local 1) refl,
    record { step = ToField 1 0; steps = []; path = refl },
  )

  the_enum_after_a_panic : IsKind items field_on_one_way 5 (whole_local 1) Opened
  the_enum_after_a_panic = (
    alive-by items field_on_one_way 20 refl 5 (whole_local 1) (ToField 1 0 ∷ []) (ty_no 2) refl refl refl refl,
    unsure-by items field_on_one_way 20 refl 5 (whole_local 1) refl,
    record { step = ToField 1 0; steps = []; path = refl },
  )

  the_binding : IsKind items field_on_one_way 14 (whole_local 5) Dead
  the_binding = dead-by items field_on_one_way 20 refl 14 (whole_local 5) refl

  the_binding_after_a_panic : IsKind items field_on_one_way 15 (whole_local 5) Dead
  the_binding_after_a_panic = dead-by items field_on_one_way 20 refl 15 (whole_local 5) refl

  abbrev the_field : Place
  the_field = below (whole_local 1) (ToField 1 0 ∷ [])

  abbrev enum_paths : List Place
  enum_paths =
      whole_local 0 ∷ whole_local 1 ∷ whole_local 2 ∷ whole_local 3 ∷ whole_local 4 ∷ whole_local 5 ∷ whole_local 6
      ∷ whole_local 7 ∷ whole_local 8 ∷ whole_local 9 ∷ whole_local 10 ∷ whole_local 11 ∷ whole_local 12 ∷ the_field
      ∷ []

  these_are_paths_of_the_enum : list_all (is_path items field_on_one_way) enum_paths ≡ true
  these_are_paths_of_the_enum = refl

  flag_of_the_field : IsFlagged items field_on_one_way enum_paths the_field
  flag_of_the_field = (
    3,
    whole_local 1,
    record {
      block = _;
      there = refl;
      dropped = local 1;
      next = 2;
      unwind = Unwind.Resume;
      term_is = refl;
      place_is = refl;
    },
    record {
      not_dead = the_enum.0;
      not_sure = the_enum.1;
      steps = ToField 1 0 ∷ [];
      path_is = refl;
      number = 13;
      under = no_branch;
      tree = (refl, tt, λ step none. refl);
      id = ty_no 2;
      typed = refl;
      needed = refl;
      reads = refl;
      apart = apart-by items field_on_one_way 20 refl 3 (whole_local 1) (ToField 1 0 ∷ []) refl;
      present = may-be-there items field_on_one_way 20 refl 3 the_field refl;
      gone = may-be-gone items field_on_one_way 20 refl 3 the_field refl;
    },
  )

  one_flag_of_a_field : AreFlagged items field_on_one_way enum_paths (the_field ∷ [])
  one_flag_of_a_field =
      flags-are items field_on_one_way 20 refl [] (none-dead field_on_one_way) enum_paths (the_field ∷ [])
      (λ path has. subst (IsFlagged items field_on_one_way enum_paths) (one-of the_field path has) flag_of_the_field)
      refl refl

-- ---- a value that is forgotten: no drop is left of it

it_is_forgotten : drops_nothing forgotten ≡ true
it_is_forgotten = refl
