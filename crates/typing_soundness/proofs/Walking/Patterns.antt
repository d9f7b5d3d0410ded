-- What patterns add to a walk, one line a form.
use Rattle.std.proofs.Common.{◌≡◌, ℕ, suc, Bool, true, false, ◌&&◌, ◌||◌, not, nat_le, nat_lt, if◌then◌else◌, List, [], ◌∷◌, ◌++◌, length, replicate, Option, Some, None, refl, ap, sym, subst}
use Rattle.std.specs.Prelude.{is_some}
use Rattle.std.specs.Option.{option_map_or}
use Rattle.mir_base.specs.declared.int_kind.IntKind.{IntKind}
use Rattle.mir_base.specs.declared.place_in_text.Pos.{Pos}
use Rattle.mir_base.specs.declared.rule.Rule.{Rule}
use Rattle.mir_ty.specs.declared.adt.Variant.{Variant}
use Rattle.mir_ty.specs.declared.ty.Ty.{Ty}
use Rattle.mir_ty.specs.declared.ty.TyId.{TyId}
use Rattle.mir_ty.specs.Facts.{is_copy}
use Rattle.mir_ty.specs.ItemTable.{ItemTable}
use Rattle.typed_tree.specs.declared.node.Use.{Use}
use Rattle.typed_tree.specs.Nodes.{nodes_of, nodes_in, nodes_among, nodes_of_fields}
use Rattle.typed_tree.specs.Tree as tree
use Rattle.typed_tree.specs.Tree.{Node, Form, Nodes, no_node, a_node, Fields, no_field, a_field}
use Rattle.well_typed.specs.Types.{is_same, is_bool, is_dyn, is_enum, kind_of, array_of, variant_at}
use Rattle.typing_rules.specs.Check.{Check, TypingState, breaks, pure, ◌>>=◌}
use Rattle.typing_rules.specs.Patterns as rules
use Rattle.typing_rules.specs.Places.{a_node_of}
use Rattle.typing_rules.specs.Rows.{PatternContext, is_signed_kind, most, literal_value, are_known}
use Rattle.typing_rules.specs.Scope.{Env, NamedEntry, adt_named, kind_at, variable, field_named}
use Rattle.src_ast.specs.Syntax.{Word, Syn, syn, APattern, AFieldPattern, Pattern, AnyPattern, BindPattern, LiteralPattern, TruthPattern, PathPattern, PartsPattern, FieldsPattern, ParensPattern, TuplePattern, ArrayPattern, Alternatives, Syns, no_syn, a_syn, nothing, just}
use Rattle.typing_rules.proofs.Sound.Gives.{numbered}
use Rattle.typing_soundness.specs.Walks.{Walked}
use Rattle.typing_soundness.specs.Walks as walking
use Rattle.typing_soundness.proofs.Walking.Adding.{walks_none, walks_both, walks_node, walks_used}
use Rattle.typing_soundness.proofs.Walking.Steps.{walk, walk_obeyed, walk_found, walk_ends, on_same, walk_interned}

-- a pattern has no closure
abbrev pub Walks : TypingState → TypingState → List Node → Type 0
Walks s t ns = walking.Walks (λ rest. rest) s t ns

-- what a pattern gives, and its parts
abbrev pub OfBound : TypingState → rules.BoundPattern → TypingState → Type 0
OfBound s b t = Walks s t (nodes_of b.0)

literal_walks : (at : Pos) (e : PatternContext) (ty : TyId) (is_negative : Bool) (value : ℕ) (suffix : Option IntKind) (s :
    TypingState) → Walked (λ n t. Walks s t (nodes_of n)) (rules.literal_pattern at e ty is_negative value suffix s)
literal_walks at e ty is_negative value suffix s =
    walk_found Rule.T03 at (kind_of s.items ty) _ λ kind is. walk_obeyed Rule.T03 at (rules.agrees_kind suffix ty &&
    (not is_negative || is_signed_kind kind)) _ λ _. walk_obeyed Rule.T17 at (nat_le value (most kind is_negative)) _ λ
    _. walk_obeyed Rule.T18 at (not e.takes_all) _ λ _. walk_ends (walks_node at ty (Some Use.Test) (tree.NumberPattern
    (literal_value is_negative value)) (walks_none (numbered s)))

truth_walks : (at : Pos) (e : PatternContext) (ty : TyId) (value : Bool) (s : TypingState) → Walked (λ n t. Walks s t (nodes_of n))
    (rules.truth_pattern at e ty value s)
truth_walks at e ty value s =
    walk_obeyed Rule.T03 at (is_bool s.items ty) _ λ _. walk_obeyed Rule.T18 at (not e.takes_all) _ λ _. walk_ends
    (walks_node at ty (Some Use.Test) (tree.TruthPattern value) (walks_none (numbered s)))

bind_walks : (at : Pos) (e : PatternContext) (ty : TyId) (name : Word) (earlier : List NamedEntry) (s : TypingState) → Walked (OfBound s)
    (rules.bind at e ty name earlier s)
bind_walks at e ty name earlier s =
    walk_obeyed Rule.T02 at (not (is_some (variable earlier name))) _ λ _. walk_obeyed Rule.T07 at (is_copy s.items ty
    || not (e.is_fixed || is_dyn s.items ty)) _ λ _. walk_ends (walks_node at ty _ (tree.Binding name) (walks_none
    (numbered s)))

-- ---- structs and variants

parts_nodes : (items : ItemTable) (t : rules.PatternTarget) (fields : Fields) → nodes_in (rules.parts_form items t fields) ≡
    nodes_of_fields fields
parts_nodes items t fields = by (is_enum items t.adt)
  where
    by : (b : Bool) → nodes_in (if b then tree.VariantPattern t.variant (rules.is_test items t) fields else
        tree.StructPattern fields) ≡ nodes_of_fields fields
    by true = refl
    by false = refl

tested_walks : {s t : TypingState} (b : Bool) (n : Node) → Walks s t (nodes_of n) → Walks s t (nodes_of (rules.tested_if b n))
tested_walks true n w = walks_used Use.Test n w
tested_walks false n w = w

abbrev WalksParts : (PatternContext → List TyId → Check (Fields × List NamedEntry × Bool × Bool)) → Type 0
WalksParts parts = (e : PatternContext) (tys : List TyId) (s : TypingState) → Walked (λ ps t. Walks s t (nodes_of_fields ps.0))
    (parts e tys s)

target_walks : (at : Pos) (e : PatternContext) (ty : TyId) (t : rules.PatternTarget) (parts : PatternContext → List TyId → Check (Fields ×
    List NamedEntry × Bool × Bool)) → WalksParts parts → (s : TypingState) → Walked (OfBound s) (rules.of_target at e ty t parts s)
target_walks at e ty t parts good s =
    walk_interned (Ty.Adt t.adt) (numbered s) λ self u same. walk_obeyed Rule.T03 at (is_same ty self) _ λ _. walk (good
    (rules.inside_of u.items ty e) (rules.fields_of u.items t) u) λ ps v w. walk_obeyed Rule.T04 at ps.2 _ λ _.
    walk_obeyed Rule.T12 at ps.3 _ λ _. walk_obeyed Rule.T18 at (not (e.takes_all && rules.is_test v.items t)) _ λ _.
    walk_ends (tested_walks (rules.is_test v.items t) (a_node_of s.next_node at ty (rules.parts_form v.items t ps.0))
    (walks_node at ty None (rules.parts_form v.items t ps.0) (subst (λ ns. Walks (numbered s) v ns) (sym (parts_nodes
    v.items t ps.0)) (walks_both (on_same same (walks_none (numbered s))) w))))

none_walk : (earlier : List NamedEntry) (is_whole : Bool) → WalksParts (rules.no_parts earlier is_whole)
none_walk earlier is_whole e tys s = walk_ends (walks_none s)

lone_walks : (env : Env) (at : Pos) (e : PatternContext) (ty : TyId) (adt : ℕ) (earlier : List NamedEntry) (s : TypingState) → Walked
    (OfBound s) (rules.lone_struct env at e ty adt earlier s)
lone_walks env at e ty adt earlier s = by (rules.is_unit_kind (kind_at env.kinds adt 0))
  where
    by : (b : Bool) → Walked (OfBound s) ((if b then rules.of_target at e ty (rules.target adt 0) (rules.no_parts
        earlier true) else breaks Rule.T18 at) s)
    by true = target_walks at e ty (rules.target adt 0) (rules.no_parts earlier true) (none_walk earlier true) s
    by false = record { so = tt }

lone_name_walks : (env : Env) (at : Pos) (e : PatternContext) (ty : TyId) (name : Word) (earlier : List NamedEntry) (s : TypingState) →
    Walked (OfBound s) (rules.lone_name env at e ty name earlier s)
lone_name_walks env at e ty name earlier s = by (adt_named s.items name)
  where
    if_enum : (adt : ℕ) (b : Bool) → Walked (OfBound s) ((if b then rules.bind at e ty name earlier else
        rules.lone_struct env at e ty adt earlier) s)
    if_enum adt true = bind_walks at e ty name earlier s
    if_enum adt false = lone_walks env at e ty adt earlier s

    by : (o : Option ℕ) → Walked (OfBound s) (rules.lone_by env at e ty name earlier o s.items s)
    by None = bind_walks at e ty name earlier s
    by (Some adt) = if_enum adt (is_enum s.items adt)

path_walks : (env : Env) (at : Pos) (e : PatternContext) (ty : TyId) (first second : Option Word) (earlier : List NamedEntry) (s :
    TypingState) → Walked (OfBound s) (rules.path_alone env at e ty first second earlier s)
path_walks env at e ty first None earlier s =
    walk_found Rule.T01 at env.self_adt _ λ adt is. walk_obeyed Rule.T01 at (not (is_enum s.items adt)) _ λ _.
    lone_walks env at e ty adt earlier s
path_walks env at e ty first (Some second) earlier s =
    walk_found Rule.T01 at (rules.target_of s.items env first (Some second)) _ λ t is. target_walks at e ty t _
    (none_walk earlier (rules.is_unit_kind (kind_at env.kinds t.adt t.variant))) s

-- ---- parts

from_nodes : (k : ℕ) (ns : Nodes) → nodes_of_fields (rules.fields_from k ns) ≡ nodes_among ns
from_nodes k no_node = refl
from_nodes k (a_node first rest) = ap (λ xs. nodes_of first ++ xs) (from_nodes (suc k) rest)

abbrev nodes_in_field : Option (ℕ × Node) → List Node
nodes_in_field None = []
nodes_in_field (Some f) = nodes_of f.1

with_nodes : (f : Option (ℕ × Node)) (rest : Fields) → nodes_of_fields (rules.with_field f rest) ≡ nodes_in_field f ++
    nodes_of_fields rest
with_nodes None rest = refl
with_nodes (Some f) rest = refl

field_by_walks : (v : Variant) (name : Word) (earlier : List NamedEntry) (typed : TyId → Check rules.BoundPattern) (s : TypingState) →
    ((ty : TyId) → Walked (OfBound s) (typed ty s)) → Walked (λ f t. Walks s t (nodes_in_field f.0)) (rules.field_by v
    name earlier typed s)
field_by_walks v name earlier typed s good = by (rules.field_ty v.fields (field_named v name))
  where
    by : (o : Option (ℕ × TyId)) → Walked (λ f t. Walks s t (nodes_in_field f.0)) (rules.field_at earlier o typed s)
    by None = walk_ends (walks_none s)
    by (Some f) = walk (good f.1) λ b t w. walk_ends w

module _ (env : Env) where
  mutual
    pub pattern_walks : (e : PatternContext) (ty : TyId) (p : Syn) (earlier : List NamedEntry) (s : TypingState) → Walked (OfBound s)
        (rules.pattern env e ty p earlier s)
    pattern_walks e ty (syn at (APattern p)) earlier s = form_walks e ty at p earlier s
    pattern_walks e ty _ earlier s = record { so = tt }

    form_walks : (e : PatternContext) (ty : TyId) (at : Pos) (form : Pattern) (earlier : List NamedEntry) (s : TypingState) → Walked
        (OfBound s) (rules.pattern_form env e ty at form earlier s)
    form_walks e ty at AnyPattern earlier s = walk_ends (walks_node at ty None tree.Wildcard (walks_none (numbered s)))
    form_walks e ty at (BindPattern name) earlier s = lone_name_walks env at e ty name earlier s
    form_walks e ty at (LiteralPattern is_negative value suffix) earlier s =
        walk (literal_walks at e ty is_negative value suffix s) λ n t w. walk_ends w
    form_walks e ty at (TruthPattern value) earlier s = walk (truth_walks at e ty value s) λ n t w. walk_ends w
    form_walks e ty at (PathPattern first second) earlier s = path_walks env at e ty first second earlier s
    form_walks e ty at (PartsPattern first second parts dots) earlier s =
        walk_found Rule.T01 at (rules.target_of s.items env first second) _ λ t is. target_walks at e ty t (λ inside
        tys. rules.part_patterns env inside tys parts earlier >>= (λ ps. pure (
          rules.fields_from 0 ps.0,
          ps.1,
          rules.is_count dots (rules.count_of parts) (length tys) && rules.are_ordered env t dots,
          true,
        ))) (λ inside tys u. walk (parts_walk inside tys parts earlier u) λ ps v w. walk_ends (subst (λ ns. Walks u v
        ns) (sym (from_nodes 0 ps.0)) w)) s
    form_walks e ty at (FieldsPattern first second fields dots) earlier s =
        walk_found Rule.T01 at (rules.target_of s.items env first second) _ λ t is. target_walks at e ty t (λ inside
        tys. rules.field_patterns env inside (option_map_or (λ v. v) (variant_at s.items t.adt t.variant)
        rules.no_variant) fields earlier >>= (λ ps. pure (
          ps.0,
          ps.1,
          rules.are_given_once ps.2 && (dots || rules.are_all_given (length tys) ps.2),
          are_known ps.2,
        ))) (λ inside tys u. walk (fields_walk inside (option_map_or (λ v. v) (variant_at s.items t.adt t.variant)
        rules.no_variant) fields earlier u) λ ps v w. walk_ends w) s
    form_walks e ty at (ParensPattern inside) earlier s = pattern_walks e ty inside earlier s
    form_walks e ty at (TuplePattern parts dots) earlier s =
        walk_found Rule.T03 at (rules.tuple_types s.items ty (rules.count_of parts) dots) _ λ tys is. walk (parts_walk e
        tys parts earlier (numbered s)) λ ps t w. walk_obeyed Rule.T04 at (rules.is_count dots (rules.count_of parts)
        (length tys)) _ λ _. walk_ends
        (walks_node at ty None (tree.TuplePattern ps.0) w)
    form_walks e ty at (ArrayPattern elements dots) earlier s =
        walk_found Rule.T03 at (array_of s.items ty) _ λ a is. walk (parts_walk e (replicate a.1 a.0) elements earlier
        (numbered s)) λ ps t w. walk_obeyed Rule.T04 at (rules.is_count dots (rules.count_of elements) a.1) _ λ _.
        walk_ends (walks_node at ty None (tree.ArrayPattern ps.0) w)
    form_walks e ty at (Alternatives patterns) earlier s =
        walk_obeyed Rule.T20 at (nat_lt 1 (rules.count_of patterns)) _ λ _. walk (each_walks e ty patterns earlier
        (numbered s)) λ ps t w. walk_obeyed Rule.T18 at (not (rules.has_names earlier ps.1)) _ λ _. walk_ends
        (walks_node at ty None (tree.OrPattern ps.0) w)

    parts_walk : (e : PatternContext) (tys : List TyId) (parts : Syns) (earlier : List NamedEntry) (s : TypingState) → Walked (λ ps t.
        Walks s t (nodes_among ps.0)) (rules.part_patterns env e tys parts earlier s)
    parts_walk e tys no_syn earlier s = walk_ends (walks_none s)
    parts_walk e [] (a_syn first rest) earlier s = walk_ends (walks_none s)
    parts_walk e (ty ∷ tys) (a_syn first rest) earlier s =
        walk (pattern_walks e ty first earlier s) λ p t w. walk (parts_walk e tys rest p.1 t) λ ps u x. walk_ends
        (walks_both w x)

    each_walks : (e : PatternContext) (ty : TyId) (patterns : Syns) (earlier : List NamedEntry) (s : TypingState) → Walked (λ ps t. Walks
        s t (nodes_among ps.0)) (rules.each_pattern env e ty patterns earlier s)
    each_walks e ty no_syn earlier s = walk_ends (walks_none s)
    each_walks e ty (a_syn first rest) earlier s =
        walk (pattern_walks e ty first earlier s) λ p t w. walk (each_walks e ty rest p.1 t) λ ps u x. walk_ends
        (walks_both w x)

    fields_walk : (e : PatternContext) (v : Variant) (fields : Syns) (earlier : List NamedEntry) (s : TypingState) → Walked (λ ps t.
        Walks s t (nodes_of_fields ps.0)) (rules.field_patterns env e v fields earlier s)
    fields_walk e v no_syn earlier s = walk_ends (walks_none s)
    fields_walk e v (a_syn first rest) earlier s =
        walk (field_walks e v first earlier s) λ p t w. walk (fields_walk e v rest p.1 t) λ ps u x. walk_ends (subst (λ
        ns. Walks s u ns) (sym (with_nodes p.0 ps.0)) (walks_both w x))

    field_walks : (e : PatternContext) (v : Variant) (field : Syn) (earlier : List NamedEntry) (s : TypingState) → Walked (λ f t. Walks s
        t (nodes_in_field f.0)) (rules.field_pattern env e v field earlier s)
    field_walks e v (syn at (AFieldPattern name nothing)) earlier s =
        field_by_walks v name earlier (λ ty. rules.lone_name env at e ty name earlier) s (λ ty. lone_name_walks env at
        e ty
        name earlier s)
    field_walks e v (syn at (AFieldPattern name (just inside))) earlier s =
        field_by_walks v name earlier (λ ty. rules.pattern env e ty inside earlier) s (λ ty. pattern_walks e ty inside
        earlier s)
    field_walks e v (syn at _) earlier s = record { so = tt }
