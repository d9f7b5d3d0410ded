-- One program's items: which types are Copy, need dropping and have a `Drop` impl, which parts they have, and how the
-- lines of a trace name them.
use Rattle.std.proofs.Common.{◌≡◌, ℕ, Bool, true, false, List, [], ◌∷◌, ◌++◌, map, Option, Some, None, refl, pos, negsuc}
use Rattle.std.specs.Prelude.{codes}
use Rattle.std.specs.Fmt.{digits}
use Rattle.mir_base.specs.declared.int_kind.IntKind.{IntKind}
use Rattle.mir_base.specs.declared.trace.Event.{Event}
use Rattle.mir_base.specs.declared.trace.Why.{Why}
use Rattle.mir_ty.specs.declared.adt.Adt.{Adt}
use Rattle.mir_ty.specs.declared.adt.Variant.{Variant}
use Rattle.mir_ty.specs.declared.def.Sig.{Sig}
use Rattle.mir_ty.specs.declared.ty.Ty.{Ty}
use Rattle.mir_ty.specs.declared.ty.TyId.{TyId}
use Rattle.mir_ty.specs.Facts.{is_copy, needs_drop, has_drop_impl}
use Rattle.mir_ty.specs.ItemTable.{ItemTable}
use Rattle.mir_ty.specs.Named.{line_of}
use Rattle.mir_ty.specs.Parts.{field_ty}

abbrev ty_no : ℕ → TyId
ty_no n = record { 0 = n }

-- ---- the types, by their numbers

abbrev i32 : TyId
i32 = ty_no 0

abbrev bool : TyId
bool = ty_no 1

abbrev unit : TyId
unit = ty_no 2

abbrev never : TyId
never = ty_no 3

abbrev d : TyId
d = ty_no 4

abbrev p : TyId
p = ty_no 5

abbrev pair : TyId
pair = ty_no 6

abbrev pair_and_d : TyId
pair_and_d = ty_no 7

abbrev pairs : TyId
pairs = ty_no 8

abbrev no_ds : TyId
no_ds = ty_no 9

abbrev nested : TyId
nested = ty_no 10

abbrev boxed : TyId
boxed = ty_no 11

abbrev dyn : TyId
dyn = ty_no 12

abbrev boxed_dyn : TyId
boxed_dyn = ty_no 13

abbrev shared_dyn : TyId
shared_dyn = ty_no 14

abbrev unique_d : TyId
unique_d = ty_no 15

abbrev sign : TyId
sign = ty_no 16

abbrev list : TyId
list = ty_no 17

abbrev boxed_list : TyId
boxed_list = ty_no 18

abbrev before_list : TyId
before_list = ty_no 19

abbrev taking : TyId
taking = ty_no 20

abbrev copying : TyId
copying = ty_no 21

abbrev copying_pair : TyId
copying_pair = ty_no 22

abbrev unknown : TyId
unknown = ty_no 23

-- ---- the items

-- fields have no names here
abbrev variant : List ℕ → List TyId → Variant
variant name fields = record { name = name; fields = fields; field_names = [] }

abbrev a_struct : List ℕ → List TyId → Bool → Option ℕ → Adt
a_struct name fields copy drop_body = record {
  name = name;
  is_enum = false;
  variants = variant name fields ∷ [];
  copy = copy;
  drop_body = drop_body;
}

abbrev an_enum : List ℕ → List Variant → Bool → Adt
an_enum name variants copy =
    record { name = name; is_enum = true; variants = variants; copy = copy; drop_body = None }

abbrev sig : List ℕ → List TyId → Sig
sig name params = record { name = name; params = params; result = unit }

abbrev items : ItemTable
items = record {
  types = Ty.Int IntKind.I32 ∷ Ty.Bool ∷ Ty.Unit ∷ Ty.Never ∷ Ty.Adt 0 ∷ Ty.Adt 1 ∷ Ty.Tuple (i32 ∷ bool ∷ []) ∷
      Ty.Tuple (pair ∷ d ∷ []) ∷ Ty.Array pair 3 ∷ Ty.Array d 0 ∷ Ty.Array pair_and_d 2 ∷ Ty.Boxed i32 ∷ Ty.Dyn 0 ∷
      Ty.Boxed dyn ∷ Ty.Shared dyn ∷ Ty.Unique d ∷ Ty.Adt 2 ∷ Ty.Adt 3 ∷ Ty.Boxed list ∷
      Ty.Tuple (i32 ∷ list ∷ []) ∷ Ty.Closure 0 ∷ Ty.Closure 1 ∷ Ty.Tuple (copying ∷ copying ∷ []) ∷ [];
  adts = a_struct (codes "D") (i32 ∷ []) false (Some 0) ∷ a_struct (codes "P") (i32 ∷ bool ∷ []) true None ∷
      an_enum (codes "Sign") (variant (codes "Less") [] ∷ variant (codes "More") (i32 ∷ []) ∷ []) true ∷
      an_enum (codes "List") (variant (codes "End") [] ∷ variant (codes "Item") (i32 ∷ boxed_list ∷ []) ∷ []) false ∷
      [];
  traits = (record { name = codes "Show"; methods = sig (codes "show") (shared_dyn ∷ []) ∷ [] }) ∷ [];
  impls = (record { trait_no = 0; adt = 0; bodies = 1 ∷ [] }) ∷ [];
  closures = (record { captures = d ∷ i32 ∷ []; body = 3 }) ∷ (record { captures = p ∷ i32 ∷ []; body = 4 }) ∷ [];
  bodies = sig (codes "D::drop") (unique_d ∷ []) ∷ sig (codes "main") [] ∷
      sig (codes "main::closure#1") (taking ∷ []) ∷ [];
}

abbrev types : List TyId
types =
    i32 ∷ bool ∷ unit ∷ never ∷ d ∷ p ∷ pair ∷ pair_and_d ∷ pairs ∷ no_ds ∷ nested ∷ boxed ∷ dyn ∷ boxed_dyn ∷
    shared_dyn ∷ unique_d ∷ sign ∷ list ∷ boxed_list ∷ before_list ∷ taking ∷ copying ∷ copying_pair ∷ unknown ∷ []

-- which of them are Copy
is_copy_of_each : map (is_copy items) types ≡
    (true ∷ true ∷ true ∷ true ∷ false ∷ true ∷ true ∷ false ∷ true ∷ false ∷ false ∷ false ∷ false ∷ false ∷ true ∷
    true ∷ true ∷ false ∷ false ∷ false ∷ false ∷ true ∷ true ∷ false ∷ [])
is_copy_of_each = refl

-- which of them need dropping: an array of no elements does not
needs_drop_of_each : map (needs_drop items) types ≡
    (false ∷ false ∷ false ∷ false ∷ true ∷ false ∷ false ∷ true ∷ false ∷ false ∷ true ∷ true ∷ true ∷ true ∷
    false ∷ false ∷ false ∷ true ∷ true ∷ true ∷ true ∷ false ∷ false ∷ false ∷ [])
needs_drop_of_each = refl

-- which of them have a `Drop` impl
has_drop_impl_of_each : map (has_drop_impl items) types ≡
    (false ∷ false ∷ false ∷ false ∷ true ∷ false ∷ false ∷ false ∷ false ∷ false ∷ false ∷ false ∷ false ∷ false ∷
    false ∷ false ∷ false ∷ false ∷ false ∷ false ∷ false ∷ false ∷ false ∷ false ∷ [])
has_drop_impl_of_each = refl

-- parts by their variants and numbers, also such as the type does not have
abbrev asked : List (TyId × ℕ × ℕ)
asked =
    (i32, 0, 0) ∷ (d, 0, 0) ∷ (d, 0, 1) ∷ (d, 1, 0) ∷ (p, 0, 1) ∷ (pair_and_d, 0, 0) ∷ (pair_and_d, 0, 1) ∷
    (pair_and_d, 0, 2) ∷ (pair_and_d, 1, 0) ∷ (pairs, 0, 2) ∷ (pairs, 0, 3) ∷ (pairs, 1, 0) ∷ (no_ds, 0, 0) ∷
    (boxed, 0, 0) ∷ (dyn, 0, 0) ∷ (shared_dyn, 0, 0) ∷ (sign, 0, 0) ∷ (sign, 1, 0) ∷ (sign, 2, 0) ∷ (list, 1, 0) ∷
    (list, 1, 1) ∷ (list, 0, 1) ∷ (taking, 0, 0) ∷ (taking, 0, 1) ∷ (taking, 1, 0) ∷ (unknown, 0, 0) ∷ []

part_of_each : map (λ at. field_ty items at.0 at.1 at.2) asked ≡
    (None ∷ Some i32 ∷ None ∷ None ∷ Some bool ∷ Some pair ∷ Some d ∷ None ∷ None ∷ Some pair ∷ None ∷ None ∷ None ∷
    None ∷ None ∷ None ∷ None ∷ Some i32 ∷ None ∷ Some i32 ∷ Some boxed_list ∷ None ∷ Some d ∷ Some i32 ∷ None ∷
    None ∷ [])
part_of_each = refl

-- every kind of line
abbrev events : List Event
events =
    Event.Call 1 ∷ Event.Return 0 ∷ Event.Unwind 2 ∷ Event.Make 0 1 ∷ Event.Boxed 18446744073709551615 ∷
    Event.Dropped 0 1 ∷ Event.Freed 20 ∷ Event.ForgotMade 3 3 ∷ Event.ForgotBox 4 ∷ Event.Printed (negsuc 2147483647) ∷
    Event.Printed (pos 7) ∷ Event.Asked (pos 0) ∷ Event.Panicked Why.Explicit ∷ Event.Panicked Why.Overflow ∷
    Event.Panicked Why.Divide ∷ Event.Panicked Why.Index ∷ Event.Panicked Why.Ask ∷ Event.Panicked Why.Match ∷ []

abbrev line : List ℕ → List ℕ
line words = words ++ 10 ∷ []

line_of_each : map (line_of items) events ≡
    (line (codes "call main") ∷ line (codes "return D::drop") ∷ line (codes "unwind main::closure#1") ∷
    line (codes "make D#1") ∷ line (codes "box #18446744073709551615") ∷ line (codes "drop D#1") ∷
    line (codes "free #20") ∷ line (codes "forget List#3") ∷ line (codes "forget #4") ∷
    line (codes "print -2147483648") ∷ line (codes "print 7") ∷ line (codes "ask 0") ∷
    line (codes "panic explicit") ∷ line (codes "panic overflow") ∷ line (codes "panic divide") ∷
    line (codes "panic index") ∷ line (codes "panic ask") ∷ line (codes "panic match") ∷ [])
unfolding digits
line_of_each = refl
