-- Patterns: one row a form (The Rust Reference, "Patterns").
use Rattle.std.specs.Prelude.{ℕ, suc, Bool, true, false, ◌==◌, ◌&&◌, ◌||◌, not, List, [], ◌∷◌, ◌++◌, length, nat_le, nat_lt, Option, Some, None, is_some, if◌then◌else◌, option_and_then, option_map, slice_get, replicate}
use Rattle.std.specs.Option.{option_map_or}
use Rattle.mir_base.specs.declared.int_kind.IntKind.{IntKind}
use Rattle.mir_base.specs.declared.place_in_text.Pos.{Pos}
use Rattle.mir_base.specs.declared.rule.Rule.{Rule}
use Rattle.mir_ty.specs.declared.adt.Variant.{Variant}
use Rattle.mir_ty.specs.declared.ty.Ty.{Ty}
use Rattle.mir_ty.specs.declared.ty.TyId.{TyId}
use Rattle.mir_ty.specs.Facts.{is_copy, has_drop_impl}
use Rattle.mir_ty.specs.ItemTable.{ItemTable}
use Rattle.typed_tree.specs.declared.node.Use.{Use}
use Rattle.typed_tree.specs.Tree as tree
use Rattle.typed_tree.specs.Tree.{Node, Form, Nodes, no_node, a_node, Fields}
use Rattle.well_typed.specs.Types.{is_same, is_unit, is_bool, is_dyn, kind_of, tuple_of, array_of, variant_at, adt_at, is_enum}
use Rattle.typing_rules.specs.Check.{Check, ◌>>=◌, ◌>>◌, ◌<$>◌, pure, breaks, obeys, known, the_items, number, interned}
use Rattle.typing_rules.specs.Places.{used, a_node_of, int}
use Rattle.typing_rules.specs.Rows.{PatternContext, taking, literal_value, is_signed_kind, most, all_given, are_known, Given}
use Rattle.typing_rules.specs.Scope.{Env, NamedEntry, Local, variable, variant_named, field_named, kind_at, adt_at_head, adt_named}
use Rattle.src_ast.specs.Syntax.{Word, FieldsKind, Unit_, Tuple_, Fields_, Syn, syn, APattern, AFieldPattern, Pattern, AnyPattern, BindPattern, LiteralPattern, TruthPattern, PathPattern, PartsPattern, FieldsPattern, ParensPattern, TuplePattern, ArrayPattern, Alternatives, Syns, no_syn, a_syn, nothing, just}

-- what a pattern gives: its node, and the bindings so far
abbrev pub BoundPattern : Type 0
BoundPattern = Node × List NamedEntry

abbrev pub count_of : Syns → ℕ
count_of no_syn = 0
count_of (a_syn first rest) = suc (count_of rest)

abbrev pub agrees_kind : Option IntKind → TyId → Bool
agrees_kind None ty = true
agrees_kind (Some kind) ty = is_same (int kind) ty

abbrev pub tested_end : ℕ → Pos → Bool → TyId → tree.Form → Check Node
tested_end id at takes_all ty form = do
  obeys Rule.T18 at (not takes_all)
  pure (used Use.Test (a_node_of id at ty form))

abbrev pub number_end : ℕ → Pos → Bool → TyId → Bool → ℕ → Check Node
number_end id at takes_all ty is_negative value =
    tested_end id at takes_all ty (tree.NumberPattern (literal_value is_negative value))

abbrev pub sized_end : ℕ → Pos → Bool → TyId → IntKind → Bool → ℕ → Check Node
sized_end id at takes_all ty kind is_negative value = do
  obeys Rule.T17 at (nat_le value (most kind is_negative))
  number_end id at takes_all ty is_negative value

abbrev pub kind_end : ℕ → Pos → Bool → TyId → IntKind → Bool → ℕ → Option IntKind → Check Node
kind_end id at takes_all ty kind is_negative value suffix = do
  obeys Rule.T03 at (agrees_kind suffix ty && (not is_negative || is_signed_kind kind))
  sized_end id at takes_all ty kind is_negative value

abbrev pub literal_pattern_end : ℕ → Pos → Bool → TyId → Bool → ℕ → Option IntKind → Check Node
literal_pattern_end id at takes_all ty is_negative value suffix = do
  items ← the_items
  kind ← known Rule.T03 at (kind_of items ty)
  kind_end id at takes_all ty kind is_negative value suffix

abbrev pub literal_pattern : Pos → PatternContext → TyId → Bool → ℕ → Option IntKind → Check Node
literal_pattern at e ty is_negative value suffix = do
  id ← number
  literal_pattern_end id at e.takes_all ty is_negative value suffix

abbrev pub truth_pattern_end : ℕ → Pos → Bool → TyId → Bool → Check Node
truth_pattern_end id at takes_all ty value = do
  items ← the_items
  obeys Rule.T03 at (is_bool items ty)
  tested_end id at takes_all ty (tree.TruthPattern value)

abbrev pub truth_pattern : Pos → PatternContext → TyId → Bool → Check Node
truth_pattern at e ty value = do
  id ← number
  truth_pattern_end id at e.takes_all ty value

abbrev pub wildcard : Pos → TyId → Check Node
wildcard at ty = do
  id ← number
  pure (a_node_of id at ty tree.Wildcard)

-- once the name is known to be new
abbrev pub bind_end : ℕ → Pos → Bool → TyId → Word → List NamedEntry → Check BoundPattern
bind_end id at is_fixed ty name earlier = do
  items ← the_items
  obeys Rule.T07 at (is_copy items ty || not (is_fixed || is_dyn items ty))
  let entry : NamedEntry = record { name = name; ty = ty; meaning = Local id }
  pure (used (taking items ty) (a_node_of id at ty (tree.Binding name)), earlier ++ entry ∷ [])

abbrev pub bind : Pos → PatternContext → TyId → Word → List NamedEntry → Check BoundPattern
bind at e ty name earlier = do
  id ← number
  obeys Rule.T02 at (not (is_some (variable earlier name)))
  bind_end id at e.is_fixed ty name earlier

-- ---- structs and variants

-- what a path names: a struct, or a variant of an enum
pub record PatternTarget : Type 0 where
  pub adt : ℕ
  pub variant : ℕ

abbrev pub target : ℕ → ℕ → PatternTarget
target adt variant = record { adt = adt; variant = variant }

abbrev pub target_of : ItemTable → Env → Option Word → Option Word → Option PatternTarget
target_of items env first None =
    option_and_then (λ n. if is_enum items n then None else Some (target n 0)) (adt_at_head items env first)
target_of items env first (Some second) =
    option_and_then (λ n. if is_enum items n then option_map (target n) (variant_named items n second) else None)
    (adt_at_head items env first)

abbrev pub variants_of : ItemTable → ℕ → ℕ
variants_of items adt = option_map_or (λ def. length def.variants) (adt_at items adt) 0

abbrev pub fields_of : ItemTable → PatternTarget → List TyId
fields_of items t = option_map_or (λ v. v.fields) (variant_at items t.adt t.variant) []

-- a variant of an enum with more than one is a test
abbrev pub is_test : ItemTable → PatternTarget → Bool
is_test items t = is_enum items t.adt && nat_lt 1 (variants_of items t.adt)

abbrev pub parts_form : ItemTable → PatternTarget → Fields → Form
parts_form items t fields =
    if is_enum items t.adt then tree.VariantPattern t.variant (is_test items t) fields else tree.StructPattern fields

abbrev pub tested_if : Bool → Node → Node
tested_if b n = if b then used Use.Test n else n

-- what is inside a type with a `Drop` impl is not moved out of
abbrev pub inside_of : ItemTable → TyId → PatternContext → PatternContext
inside_of items ty e = record e { is_fixed = e.is_fixed || has_drop_impl items ty }

-- once the place is known to be of the type that the path names
abbrev pub target_end : ℕ → Pos → PatternContext → TyId → PatternTarget →
    (PatternContext → List TyId → Check (Fields × List NamedEntry × Bool ×
    Bool)) → Check BoundPattern
target_end id at e ty t parts = do
  before ← the_items
  ps ← parts (inside_of before ty e) (fields_of before t)
  items ← the_items
  obeys Rule.T04 at ps.2
  obeys Rule.T12 at ps.3
  obeys Rule.T18 at (not (e.takes_all && is_test items t))
  pure (tested_if (is_test items t) (a_node_of id at ty (parts_form items t ps.0)), ps.1)

-- the place is of the type that the path names; then its parts, how many there are, and whether it may be a test
abbrev pub of_target : Pos → PatternContext → TyId → PatternTarget →
    (PatternContext → List TyId → Check (Fields × List NamedEntry × Bool ×
    Bool)) → Check BoundPattern
of_target at e ty t parts = do
  id ← number
  self ← interned (Ty.Adt t.adt)
  obeys Rule.T03 at (is_same ty self)
  target_end id at e ty t parts

-- a lone name: a unit struct's pattern, or a binding; a struct with fields has no such pattern
abbrev pub is_unit_kind : FieldsKind → Bool
is_unit_kind Unit_ = true
is_unit_kind _ = false

abbrev pub no_parts : List NamedEntry → Bool → PatternContext → List TyId →
    Check (Fields × List NamedEntry × Bool × Bool)
no_parts earlier is_whole e tys = pure (tree.no_field, earlier, is_whole, true)

abbrev pub lone_struct : Env → Pos → PatternContext → TyId → ℕ → List NamedEntry → Check BoundPattern
lone_struct env at e ty adt earlier =
    if is_unit_kind (kind_at env.kinds adt 0) then of_target at e ty (target adt 0) (no_parts earlier true)
    else breaks Rule.T18 at

abbrev pub lone_by : Env → Pos → PatternContext → TyId → Word → List NamedEntry → Option ℕ → ItemTable →
    Check BoundPattern
lone_by env at e ty name earlier None items = bind at e ty name earlier
lone_by env at e ty name earlier (Some adt) items =
    if is_enum items adt then bind at e ty name earlier else lone_struct env at e ty adt earlier

abbrev pub lone_name : Env → Pos → PatternContext → TyId → Word → List NamedEntry → Check BoundPattern
lone_name env at e ty name earlier = do
  items ← the_items
  lone_by env at e ty name earlier (adt_named items name) items

-- a path alone: `Self` as a lone name, a variant without parts
abbrev pub path_alone : Env → Pos → PatternContext → TyId → Option Word → Option Word → List NamedEntry →
    Check BoundPattern
path_alone env at e ty first None earlier = do
  adt ← known Rule.T01 at env.self_adt
  items ← the_items
  obeys Rule.T01 at (not (is_enum items adt))
  lone_struct env at e ty adt earlier
path_alone env at e ty first (Some second) earlier = do
  items ← the_items
  t ← known Rule.T01 at (target_of items env first (Some second))
  of_target at e ty t (no_parts earlier (is_unit_kind (kind_at env.kinds t.adt t.variant)))

-- parts by their order: as many as there are, or no more before `..`
abbrev pub is_count : Bool → ℕ → ℕ → Bool
is_count dots given count = if dots then nat_le given count else given == count

-- parts in parentheses are those of a struct or a variant that is written so; `V()` stands for one without parts, and
-- `V(..)` does not
abbrev pub has_ordered_parts : FieldsKind → Bool → Bool
has_ordered_parts Unit_ dots = not dots
has_ordered_parts Tuple_ dots = true
has_ordered_parts Fields_ dots = false

abbrev pub are_ordered : Env → PatternTarget → Bool → Bool
are_ordered env t dots = has_ordered_parts (kind_at env.kinds t.adt t.variant) dots

-- as many parts as there are fields, where these stand in an order
abbrev pub is_tuple_count : Env → PatternTarget → ℕ → ℕ → Bool → Bool
is_tuple_count env t given count dots = is_count dots given count && are_ordered env t dots

-- ---- tuples, arrays and alternatives

-- so many parts in their order, where there are so many places for them
abbrev pub sequence_end : ℕ → Pos → TyId → (Nodes → Form) → Bool → ℕ → ℕ → Check (Nodes × List NamedEntry) →
    Check BoundPattern
sequence_end id at ty form dots given count parts = do
  ps ← parts
  obeys Rule.T04 at (is_count dots given count)
  pure (a_node_of id at ty (form ps.0), ps.1)

abbrev pub types_if : Bool → List TyId → Option (List TyId)
types_if b tys = if b then Some tys else None

-- the types of the parts for a pattern of so many, with `..` behind them or not. `()` is no tuple: a pattern with parts
-- is none of it, and the pattern `()` is none of a tuple
abbrev pub tuple_types : ItemTable → TyId → ℕ → Bool → Option (List TyId)
tuple_types items ty given dots =
    if is_unit items ty then types_if (given == 0) []
    else option_and_then (types_if (dots || not (given == 0))) (tuple_of items ty)

abbrev pub has_names : List NamedEntry → List NamedEntry → Bool
has_names earlier later = not (length earlier == length later)

-- the alternatives bind no name
abbrev pub alternatives_end : ℕ → Pos → TyId → List NamedEntry → Check (Nodes × List NamedEntry) → Check BoundPattern
alternatives_end id at ty earlier patterns = do
  ps ← patterns
  obeys Rule.T18 at (not (has_names earlier ps.1))
  pure (a_node_of id at ty (tree.OrPattern ps.0), ps.1)

abbrev pub fields_from : ℕ → Nodes → Fields
fields_from k no_node = tree.no_field
fields_from k (a_node first rest) = tree.a_field k first (fields_from (suc k) rest)

abbrev pub field_ty : List TyId → Option ℕ → Option (ℕ × TyId)
field_ty tys number = option_and_then (λ k. option_map (λ ty. (k, ty)) (slice_get tys k)) number

abbrev pub no_variant : Variant
no_variant = record { name = []; fields = []; field_names = [] }

abbrev pub with_field : Option (ℕ × Node) → Fields → Fields
with_field None fields = fields
with_field (Some f) fields = tree.a_field f.0 f.1 fields

abbrev pub is_again : ℕ → Given → Bool
is_again k [] = false
is_again k (None ∷ given) = is_again k given
is_again k (Some n ∷ given) = k == n || is_again k given

abbrev pub are_given_once : Given → Bool
are_given_once [] = true
are_given_once (None ∷ given) = are_given_once given
are_given_once (Some n ∷ given) = not (is_again n given) && are_given_once given

-- each field, and nothing beside
abbrev pub are_all_given : ℕ → Given → Bool
are_all_given count given = length given == count && all_given count given

-- what the parts of a struct or a variant give: as fields, with their bindings, whether their number is right, and
-- whether each name is one of a field. So many in parentheses for so many fields
abbrev pub in_order_end : Env → PatternTarget → ℕ → ℕ → Bool → Check (Nodes × List NamedEntry) →
    Check (Fields × List NamedEntry × Bool × Bool)
in_order_end env t given count dots parts = do
  ps ← parts
  pure (fields_from 0 ps.0, ps.1, is_tuple_count env t given count dots, true)

-- in braces
abbrev pub by_name_end : ℕ → Bool → Check (Fields × List NamedEntry × Given) →
    Check (Fields × List NamedEntry × Bool × Bool)
by_name_end count dots fields = do
  ps ← fields
  pure (ps.0, ps.1, are_given_once ps.2 && (dots || are_all_given count ps.2), are_known ps.2)

abbrev pub with_number : ℕ → BoundPattern → Option (ℕ × Node) × List NamedEntry × Option ℕ
with_number k b = (Some (k, b.0), b.1, Some k)

abbrev pub field_at : List NamedEntry → Option (ℕ × TyId) → (TyId → Check BoundPattern) →
    Check (Option (ℕ × Node) × List NamedEntry ×
    Option ℕ)
field_at earlier None typed = pure (None, earlier, None)
field_at earlier (Some f) typed = with_number f.0 <$> typed f.1

abbrev pub field_by : Variant → Word → List NamedEntry → (TyId → Check BoundPattern) →
    Check (Option (ℕ × Node) × List NamedEntry ×
    Option ℕ)
field_by v name earlier typed = field_at earlier (field_ty v.fields (field_named v name)) typed

abbrev mutual
  -- a pattern for a place of a type, after these bindings of the same pattern
  pub pattern : Env → PatternContext → TyId → Syn → List NamedEntry → Check BoundPattern
  pattern env e ty (syn at (APattern p)) earlier = pattern_form env e ty at p earlier
  pattern env e ty (syn at _) earlier = breaks Rule.T20 at

  pub pattern_form : Env → PatternContext → TyId → Pos → Pattern → List NamedEntry → Check BoundPattern
  pattern_form env e ty at AnyPattern earlier = do
    n ← wildcard at ty
    pure (n, earlier)
  pattern_form env e ty at (BindPattern name) earlier = lone_name env at e ty name earlier
  pattern_form env e ty at (LiteralPattern is_negative value suffix) earlier = do
    n ← literal_pattern at e ty is_negative value suffix
    pure (n, earlier)
  pattern_form env e ty at (TruthPattern value) earlier = do
    n ← truth_pattern at e ty value
    pure (n, earlier)
  pattern_form env e ty at (PathPattern first second) earlier = path_alone env at e ty first second earlier
  pattern_form env e ty at (PartsPattern first second parts dots) earlier = do
    items ← the_items
    t ← known Rule.T01 at (target_of items env first second)
    of_target at e ty t
        (λ inside tys. in_order_end env t (count_of parts) (length tys) dots
        (part_patterns env inside tys parts earlier))
  pattern_form env e ty at (FieldsPattern first second fields dots) earlier = do
    items ← the_items
    t ← known Rule.T01 at (target_of items env first second)
    of_target at e ty t (λ inside tys. by_name_end (length tys) dots (field_patterns env inside (option_map_or (λ v. v)
        (variant_at items t.adt t.variant) no_variant) fields earlier))
  pattern_form env e ty at (ParensPattern inside) earlier = pattern env e ty inside earlier
  pattern_form env e ty at (TuplePattern parts dots) earlier = do
    id ← number
    items ← the_items
    tys ← known Rule.T03 at (tuple_types items ty (count_of parts) dots)
    sequence_end id at ty tree.TuplePattern dots (count_of parts) (length tys) (part_patterns env e tys parts earlier)
  pattern_form env e ty at (ArrayPattern elements dots) earlier = do
    id ← number
    items ← the_items
    a ← known Rule.T03 at (array_of items ty)
    sequence_end id at ty tree.ArrayPattern dots (count_of elements) a.1
        (part_patterns env e (replicate a.1 a.0) elements earlier)
  pattern_form env e ty at (Alternatives patterns) earlier = do
    id ← number
    obeys Rule.T20 at (nat_lt 1 (count_of patterns))
    alternatives_end id at ty earlier (each_pattern env e ty patterns earlier)

  -- patterns of parts in their order; those past the last part are not typed
  pub part_patterns : Env → PatternContext → List TyId → Syns → List NamedEntry → Check (Nodes × List NamedEntry)
  part_patterns env e tys no_syn earlier = pure (no_node, earlier)
  part_patterns env e [] (a_syn first rest) earlier = pure (no_node, earlier)
  part_patterns env e (ty ∷ tys) (a_syn first rest) earlier = do
    p ← pattern env e ty first earlier
    ps ← part_patterns env e tys rest p.1
    pure (a_node p.0 ps.0, ps.1)

  pub each_pattern : Env → PatternContext → TyId → Syns → List NamedEntry → Check (Nodes × List NamedEntry)
  each_pattern env e ty no_syn earlier = pure (no_node, earlier)
  each_pattern env e ty (a_syn first rest) earlier = do
    p ← pattern env e ty first earlier
    ps ← each_pattern env e ty rest p.1
    pure (a_node p.0 ps.0, ps.1)

  -- patterns of fields by their names; one for a field that is not there is not typed
  pub field_patterns : Env → PatternContext → Variant → Syns → List NamedEntry →
      Check (Fields × List NamedEntry × Given)
  field_patterns env e v no_syn earlier = pure (tree.no_field, earlier, [])
  field_patterns env e v (a_syn first rest) earlier = do
    p ← field_pattern env e v first earlier
    ps ← field_patterns env e v rest p.1
    pure (with_field p.0 ps.0, ps.1, p.2 ∷ ps.2)

  pub field_pattern : Env → PatternContext → Variant → Syn → List NamedEntry →
      Check (Option (ℕ × Node) × List NamedEntry × Option ℕ)
  field_pattern env e v (syn at (AFieldPattern name nothing)) earlier =
      field_by v name earlier (λ ty. lone_name env at e ty name earlier)
  field_pattern env e v (syn at (AFieldPattern name (just inside))) earlier =
      field_by v name earlier (λ ty. pattern env e ty inside earlier)
  field_pattern env e v (syn at _) earlier = breaks Rule.T20 at

-- the parts of a struct or a variant, in parentheses and in braces
abbrev pub parts_in_order : Env → PatternTarget → Syns → Bool → List NamedEntry → PatternContext → List TyId →
    Check (Fields × List NamedEntry × Bool × Bool)
parts_in_order env t parts dots earlier inside tys =
    in_order_end env t (count_of parts) (length tys) dots (part_patterns env inside tys parts earlier)

abbrev pub parts_by_name : Env → Variant → Syns → Bool → List NamedEntry → PatternContext → List TyId →
    Check (Fields × List NamedEntry × Bool × Bool)
parts_by_name env v fields dots earlier inside tys =
    by_name_end (length tys) dots (field_patterns env inside v fields earlier)
