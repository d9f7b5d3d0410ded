-- A place as a program names it: a local of the body that runs, and steps from its value inwards. Its type, and the
-- part of it that is watched for what is gone. The rustc development guide calls such a place a `Place` with its
-- projections ("The MIR", "MIR data types").
use Rattle.std.specs.Prelude.{ℕ, Bool, true, false, ◌&&◌, ◌==◌, List, [], ◌∷◌, Option, Some, None, slice_get, option_and_then}
use Rattle.std.specs.Option.{option_map_or}
use Rattle.mir_ty.specs.declared.ty.Ty.{Ty}
use Rattle.mir_ty.specs.declared.ty.TyId.{TyId}
use Rattle.mir_ty.specs.ItemTable.{ItemTable, type_at}
use Rattle.mir_ty.specs.Parts.{parts_of}

-- to a numbered part of a struct, a tuple, an array or a closure; to one of a variant of an enum; to the content of a
-- box or what a reference names; to the element of an array under the number that a local holds
pub data Step : Type 0 where
  ToPart : (part : ℕ) → Step
  ToField : (variant part : ℕ) → Step
  ToContent : Step
  ToElement : (index : ℕ) → Step

-- a local by its number, or an entry of a scope by its key, and steps, outermost first
pub record Place : Type 0 where
  pub local : ℕ
  pub steps : List Step

abbrev pub whole_local : ℕ → Place
whole_local local = record { local = local; steps = [] }

abbrev pub same_step : Step → Step → Bool
same_step (ToPart n) (ToPart m) = n == m
same_step (ToField v n) (ToField u m) = v == u && n == m
same_step ToContent ToContent = true
same_step (ToElement n) (ToElement m) = n == m
same_step one other = false

abbrev pub is_enum : ItemTable → Ty → Bool
is_enum items (Ty.Adt n) = option_map_or (λ adt. adt.is_enum) (slice_get items.adts n) false
is_enum items _ = false

abbrev pub part_if : {A : Type 0} → Bool → Option A → Option A
part_if true part = part
part_if false part = None

abbrev pub unless_enum : {A : Type 0} → Bool → Option A → Option A
unless_enum true part = None
unless_enum false part = part

abbrev pub content_of : Ty → Option TyId
content_of (Ty.Boxed inside) = Some inside
content_of (Ty.Shared to) = Some to
content_of (Ty.Unique to) = Some to
content_of _ = None

abbrev pub element_of : Ty → Option TyId
element_of (Ty.Array element count) = Some element
element_of _ = None

-- the type to which a step leads; none where the type has no such part
abbrev pub step_ty : ItemTable → Step → Ty → Option TyId
step_ty items (ToPart n) ty = unless_enum (is_enum items ty) (slice_get (parts_of items ty 0) n)
step_ty items (ToField v n) ty = part_if (is_enum items ty) (slice_get (parts_of items ty v) n)
step_ty items ToContent ty = content_of ty
step_ty items (ToElement i) ty = element_of ty

abbrev pub ty_along : ItemTable → List Step → TyId → Option TyId
ty_along items [] id = Some id
ty_along items (step ∷ steps) id =
    option_and_then (ty_along items steps) (option_and_then (step_ty items step) (type_at items id))

-- the type of a place, by the types of the locals
abbrev pub place_ty : ItemTable → (ℕ → Option TyId) → Place → Option TyId
place_ty items local_ty place = option_and_then (ty_along items place.steps) (local_ty place.local)

abbrev pub is_reference : Option Ty → Bool
is_reference (Some (Ty.Shared to)) = true
is_reference (Some (Ty.Unique to)) = true
is_reference _ = false

-- How far a place is watched: to its end, or to a reference through which it goes, or to an array of which it takes an
-- element by a local.
pub data Reach : Type 0 where
  Whole : Reach
  ThroughReference : Reach
  ByElement : Reach

-- the steps that are watched, and how far they reach
pub record Watched : Type 0 where
  pub steps : List Step
  pub reach : Reach

abbrev pub watched_step : Step → Watched → Watched
watched_step step w = record w { steps = step ∷ w.steps }

abbrev pub watched_content : Bool → Watched → Watched
watched_content true rest = record { steps = []; reach = ThroughReference }
watched_content false rest = watched_step ToContent rest

abbrev pub watched : ItemTable → Option TyId → List Step → Watched
watched items id [] = record { steps = []; reach = Whole }
watched items id (ToPart n ∷ steps) =
    watched_step (ToPart n)
    (watched items (option_and_then (step_ty items (ToPart n)) (option_and_then (type_at items) id)) steps)
watched items id (ToField v n ∷ steps) =
    watched_step (ToField v n)
    (watched items (option_and_then (step_ty items (ToField v n)) (option_and_then (type_at items) id)) steps)
watched items id (ToContent ∷ steps) =
    watched_content (is_reference (option_and_then (type_at items) id))
    (watched items (option_and_then content_of (option_and_then (type_at items) id)) steps)
watched items id (ToElement i ∷ steps) = record { steps = []; reach = ByElement }

-- the array of whose elements a place takes one: it ends before the first such step
abbrev pub before_element : List Step → List Step
before_element [] = []
before_element (ToPart n ∷ steps) = ToPart n ∷ before_element steps
before_element (ToField v n ∷ steps) = ToField v n ∷ before_element steps
before_element (ToContent ∷ steps) = ToContent ∷ before_element steps
before_element (ToElement i ∷ steps) = []
