-- Plans by computation: what a flag guards, and which flags are read.
use Rattle.std.proofs.Common.{◌≡◌, ℕ, ◌+◌, ◌==◌, nat_lt, Bool, true, false, List, [], ◌∷◌, ◌++◌, Some, None, refl}
use Rattle.mir_base.specs.declared.int_kind.IntKind.{IntKind}
use Rattle.mir_ty.specs.declared.ty.Ty.{Ty}
use Rattle.mir_ty.specs.declared.ty.TyId.{TyId}
use Rattle.mir_ty.specs.ItemTable.{ItemTable}
use Rattle.store_model.specs.Places.Place.{Step, ToPart, ToField, ToContent}
use Rattle.drop_values.specs.Facts.{Tree, at_path, Branches, no_branch, a_branch, Facts}
use Rattle.drop_values.specs.Plan.{Plan, Nothing, Entire, ByFlag, InParts, OfBox, ByVariant, Plans, no_plan, a_plan, Cases, no_case, a_case}
use Rattle.drop_values.specs.Planning.{reads_flag, plan_of}

abbrev ty_no : ℕ → TyId
ty_no k = record { 0 = k }

-- struct D (i32) drop 0 | enum E { A (D), B (D) } | (D, D, i32) | Box<(D, D, i32)> | Box<D>
abbrev items : ItemTable
items = record {
  types = Ty.Int IntKind.I32 ∷ Ty.Unit ∷ Ty.Adt 0 ∷ Ty.Unique (ty_no 2) ∷ Ty.Adt 1 ∷ Ty.Tuple
      (ty_no 2 ∷ ty_no 2 ∷ ty_no 0 ∷ []) ∷ Ty.Boxed (ty_no 5) ∷ Ty.Boxed (ty_no 2) ∷ [];
  adts = (record {
    name = [];
    is_enum = false;
    copy = false;
    drop_body = Some 0;
    variants = (record { name = []; fields = ty_no 0 ∷ []; field_names = [] ∷ [] }) ∷ [];
  })
      ∷ (record {
        name = [];
        is_enum = true;
        copy = false;
        drop_body = None;
        variants = (record { name = []; fields = ty_no 2 ∷ []; field_names = [] ∷ [] }) ∷
            (record { name = []; fields = ty_no 2 ∷ []; field_names = [] ∷ [] }) ∷ [];
      })
      ∷ [];
  traits = [];
  impls = [];
  closures = [];
  bodies = (record { name = []; params = ty_no 3 ∷ []; result = ty_no 1 }) ∷ [];
}

-- all may be there and may be gone; path n has the flag n + 10
abbrev unsure : Facts
unsure = record { present = λ n. true; gone = λ n. true }

abbrev plan : Tree → ℕ → Plan
plan tree k = plan_of items unsure (λ n. Some (n + 10)) tree (ty_no k)

abbrev leaf : ℕ → Tree
leaf n = at_path n no_branch

abbrev one : Step → Tree → Branches
one step tree = a_branch step tree no_branch

abbrev two_parts : (first second : Plan) → Plans
two_parts first second = a_plan first (a_plan second (a_plan Nothing no_plan))

-- a path with none below
a_leaf : plan (leaf 0) 5 ≡ ByFlag 10 Entire
a_leaf = refl

-- the first part is a path, the second is not
a_tuple : plan (at_path 0 (one (ToPart 0) (leaf 1))) 5 ≡ InParts (two_parts (ByFlag 11 Entire) (ByFlag 10 Entire))
a_tuple = refl

a_box : plan (at_path 0 (one ToContent (leaf 1))) 7 ≡ OfBox (Some 10) (ByFlag 11 Entire)
a_box = refl

-- the box may stay without its content, of which one part is a path
a_box_of_a_tuple : plan (at_path 0 (one ToContent (at_path 1 (one (ToPart 1) (leaf 2))))) 6 ≡ OfBox
    (Some 10) (InParts (two_parts (ByFlag 11 Entire) (ByFlag 12 Entire)))
a_box_of_a_tuple = refl

an_enum : plan (at_path 0 (one (ToField 1 0) (leaf 1))) 4 ≡ ByFlag 10
    (ByVariant (a_case 0 (a_plan Entire no_plan) (a_case 1 (a_plan (ByFlag 11 Entire) no_plan) no_case)))
an_enum = refl

-- a type with a `Drop` impl is not taken apart
with_impl : plan (at_path 0 (one (ToPart 0) (leaf 1))) 2 ≡ ByFlag 10 Entire
with_impl = refl

-- ---- which flags a plan reads

abbrev mutual
  flags_read : Plan → List ℕ
  flags_read Nothing = []
  flags_read Entire = []
  flags_read (ByFlag flag plan) = flag ∷ flags_read plan
  flags_read (InParts plans) = flags_of_parts plans
  flags_read (OfBox None plan) = flags_read plan
  flags_read (OfBox (Some flag) plan) = flags_read plan ++ flag ∷ []
  flags_read (ByVariant cases) = flags_of_cases cases

  flags_of_parts : Plans → List ℕ
  flags_of_parts no_plan = []
  flags_of_parts (a_plan plan plans) = flags_read plan ++ flags_of_parts plans

  flags_of_cases : Cases → List ℕ
  flags_of_cases no_case = []
  flags_of_cases (a_case variant plans rest) = flags_of_parts plans ++ flags_of_cases rest

-- where each part that needs dropping is a path, the flag of the whole is not read, so none is asked for
a_tuple_of_paths : plan (at_path 0 (a_branch (ToPart 0) (leaf 1) (one (ToPart 1) (leaf 2)))) 5
    ≡ InParts (two_parts (ByFlag 11 Entire) (ByFlag 12 Entire))
a_tuple_of_paths = refl

it_reads_none_of_its_own : reads_flag items (a_branch (ToPart 0) (leaf 1) (one (ToPart 1) (leaf 2))) (ty_no 5) ≡ false
it_reads_none_of_its_own = refl

a_bare_part_reads_it : reads_flag items (one (ToPart 0) (leaf 1)) (ty_no 5) ≡ true
a_bare_part_reads_it = refl

a_box_reads_it : reads_flag items (one ToContent (leaf 1)) (ty_no 7) ≡ true
a_box_reads_it = refl

an_enum_reads_it : reads_flag items (one (ToField 1 0) (leaf 1)) (ty_no 4) ≡ true
an_enum_reads_it = refl

-- ---- plans of programs: what may be present and what may be gone, by path

abbrev known_as : (present gone : ℕ → Bool) → Tree → ℕ → Plan
known_as present gone tree k =
    plan_of items (record { present = present; gone = gone }) (λ n. Some (n + 10)) tree (ty_no k)

-- let x = D(1); if ask() == 0 { take(x); }
a_move_on_one_way : flags_read (known_as (λ n. true) (λ n. true) (leaf 0) 2) ≡ 10 ∷ []
a_move_on_one_way = refl

-- fn p((x, _): (D, D)): the first part is moved on each way, the second on none
a_parameter_in_part : known_as (λ n. n == 0) (λ n. n == 1) (at_path 0 (one (ToPart 0) (leaf 1))) 5
    ≡ InParts (two_parts Nothing Entire)
a_parameter_in_part = refl

-- let b = Box::new((D(1), D(2))); take(b.0);
a_box_in_part : known_as (λ n. nat_lt n 2) (λ n. n == 2) (at_path 0 (one ToContent (at_path 1 (one (ToPart 0) (leaf
    2))))) 6
    ≡ OfBox None (InParts (two_parts Nothing Entire))
a_box_in_part = refl

-- match j { E::A(d) if n == ask() => take(d), _ => {} }: the field has a flag, and the enum none
a_field_on_one_way : flags_read (known_as (λ n. true) (λ n. n == 1) (at_path 0 (one (ToField 0 0) (leaf 1))) 4)
    ≡ 11 ∷ []
a_field_on_one_way = refl

-- forget((D(1), Box::new(D(2)))): nothing is there
a_value_that_is_forgotten : known_as (λ n. false) (λ n. true) (leaf 0) 5 ≡ Nothing
a_value_that_is_forgotten = refl
