-- The definitions over forms that are borrowed from a tree: `None` is a node that is no expression.
use Rattle.std.specs.Prelude.{◌≡◌, ◌+◌, ◌<◌, ◌≤◌, ℕ, Bool, true, false, Option, Some, None, is_none, if◌then◌else◌}
use Rattle.mir_base.specs.declared.int_kind.IntKind.{IntKind}
use Rattle.mir_base.specs.declared.place_in_text.Pos.{Pos}
use Rattle.mir_base.specs.declared.rule.Rule.{Rule}
use Rattle.mir_ty.specs.declared.ty.TyId.{TyId}
use Rattle.mir_ty.specs.ItemTable.{ItemTable}
use Rattle.typeck_checker.specs.Variables.{found_as}
use Rattle.src_ast.specs.Seen.{syn_of}
use Rattle.src_ast.specs.Syntax.{Syn, Expression, Literal, Star, FieldOf, PartOf, ElementOf}
use Rattle.typed_tree.specs.Tree.{Node}
use Rattle.typing_rules.specs.Check.{Check, TypingState, breaks}
use Rattle.typing_rules.specs.Places.{variable_place}
use Rattle.typing_rules.specs.Rows as rows
use Rattle.typing_rules.specs.Rows.{Typer, Referrer}
use Rattle.typing_rules.specs.Scope.{Env, NamedEntry}
use Rattle.typing_rules.specs.Typed.{base_of, by_reference, is_place, is_place_syn, is_plain_form, may_refer, place, typed, value}
use Rattle.well_typed.specs.Types.{is_reference}
use Rattle.typeck_exprs.specs.Sizes.{size, seen_size}
use Rattle.typeck_exprs.specs.declared.argument_forms.ArgumentForm.{ArgumentForm}
use Rattle.typeck_exprs.specs.declared.literals.Digits.{Digits}
use Rattle.typeck_exprs.specs.declared.place_forms.NamedVariable.{NamedVariable}
use Rattle.typeck_exprs.specs.declared.place_forms.PlaceForm.{PlaceForm}

abbrev pub is_place_as : Env → Option Expression → Bool
is_place_as env None = false
is_place_as env (Some e) = is_place env e

abbrev pub value_as : Env → Pos → Option Expression → Typer
value_as env at None expected = breaks Rule.T20 at
value_as env at (Some e) expected = value env at e expected

abbrev pub base_as : Env → Pos → Option Expression → Check Node
base_as env at None = breaks Rule.T20 at
base_as env at (Some e) = if is_place env e then place env at e else value env at e None

-- ---- numbers

abbrev pub is_plain_as : Option Expression → Bool
is_plain_as None = false
is_plain_as (Some e) = is_plain_form e

abbrev pub literal_as : Option Expression → Option (ℕ × Option IntKind)
literal_as None = None
literal_as (Some (Literal value suffix)) = Some (value, suffix)
literal_as (Some _) = None

abbrev pub digits_of : Digits → ℕ × Option IntKind
digits_of d = (d.value, d.suffix)

abbrev pub is_plain_literal : Option (ℕ × Option IntKind) → Bool
is_plain_literal None = false
is_plain_literal (Some n) = is_none n.1

-- ---- places

abbrev pub entry_named : NamedVariable → NamedEntry
entry_named v = found_as v.name.now v.found

-- a place by its form, through parentheses
abbrev pub place_by : Env → PlaceForm → Check Node
place_by env (PlaceForm.Variable at variable) = variable_place at (entry_named variable)
place_by env (PlaceForm.Field at base name) = place env at (FieldOf (syn_of base.now) name.now)
place_by env (PlaceForm.Part at base number) = place env at (PartOf (syn_of base.now) number)
place_by env (PlaceForm.Element at base index) = place env at (ElementOf (syn_of base.now) (syn_of index.now))
place_by env (PlaceForm.Deref at base) = place env at (Star (syn_of base.now))

-- how large its parts are
abbrev pub place_size : PlaceForm → ℕ
place_size (PlaceForm.Variable at variable) = 0
place_size (PlaceForm.Field at base name) = size (syn_of base.now)
place_size (PlaceForm.Part at base number) = size (syn_of base.now)
place_size (PlaceForm.Element at base index) = size (syn_of base.now) + size (syn_of index.now)
place_size (PlaceForm.Deref at base) = size (syn_of base.now)

-- a form is that of a place, or there is none
abbrev pub IsPlaceOf : Env → Syn → Option PlaceForm → Type 0
IsPlaceOf env x None = is_place_syn env x ≡ false
IsPlaceOf env x (Some p) =
    (is_place_syn env x ≡ true) × (base_of env x ≡ place_by env p) × (place_size p < size x)

abbrev pub IsPlaceAs : Env → Pos → Option Expression → Option PlaceForm → Type 0
IsPlaceAs env at form None = is_place_as env form ≡ false
IsPlaceAs env at form (Some p) =
    (is_place_as env form ≡ true) × (base_as env at form ≡ place_by env p) × (place_size p ≤ seen_size form)

-- ---- arguments for references

abbrev pub may_refer_as : Option Expression → Bool
may_refer_as None = false
may_refer_as (Some e) = may_refer e

-- a variable, where it is a reference
abbrev pub reference_among : ItemTable → Option NamedVariable → Option NamedVariable
reference_among items None = None
reference_among items (Some v) = if is_reference items v.found.ty then Some v else None

abbrev pub referred_by : Env → ArgumentForm → Referrer
referred_by env (ArgumentForm.Borrow at unique base) expected is_unique to =
    rows.borrow at unique (base_of env (syn_of base.now)) expected is_unique to
referred_by env (ArgumentForm.Passed at variable) expected is_unique to =
    rows.passed_on at (entry_named variable) expected is_unique to
referred_by env (ArgumentForm.Value node) expected is_unique to = typed env (syn_of node.now) (Some expected)

-- how large it is
abbrev pub argument_size : ArgumentForm → ℕ
argument_size (ArgumentForm.Borrow at unique base) = size (syn_of base.now)
argument_size (ArgumentForm.Passed at variable) = 0
argument_size (ArgumentForm.Value node) = size (syn_of node.now)

-- what an argument is, at a point of the walk
abbrev pub IsArgumentOf : Env → Syn → TypingState → ArgumentForm → Type 0
IsArgumentOf env x s form =
    ((expected : TyId) (is_unique : Bool) (to : TyId) →
    by_reference env x expected is_unique to s ≡ referred_by env form expected is_unique to s)
    × (argument_size form ≤ size x)
