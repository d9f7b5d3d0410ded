-- A pattern is one name as it is typed where it is one as it is written.
use Rattle.std.proofs.Common.{◌≡◌, ℕ, Bool, true, false, not, if◌then◌else◌, List, [], Option, Some, None, Result, Ok, Err, refl, ◌&&◌, ◌||◌, length, replicate, nat_le, nat_lt, slice_get, sym, ◌∙◌, ap}
use Rattle.mir_base.specs.declared.int_kind.IntKind.{IntKind}
use Rattle.mir_base.specs.declared.place_in_text.Pos.{Pos}
use Rattle.mir_base.specs.declared.rule.Rule.{Rule}
use Rattle.mir_ty.specs.declared.ty.TyId.{TyId}
use Rattle.typed_tree.specs.Tree as tree
use Rattle.typed_tree.specs.Tree.{Node, Fields}
use Rattle.well_typed.specs.Nodes.{is_one_name}
use Rattle.well_typed.specs.Types.{is_enum, is_same, is_dyn, is_bool, kind_of, array_of, variant_at}
use Rattle.typing_rules.specs.Check.{Check, TypingState, Broken, and_then, breaks, obeys, known, interned, pure, ◌>>=◌}
use Rattle.typing_rules.specs.Patterns as rules
use Rattle.typing_rules.specs.Places.{a_node_of}
use Rattle.typing_rules.specs.Promises.{Then, Fact, Gives}
use Rattle.typing_rules.specs.Rows.{PatternContext, is_signed_kind, most, are_known}
use Rattle.typing_rules.specs.Scope.{Env, NamedEntry, adt_named, kind_at, variable}
use Rattle.src_ast.specs.Syntax.{Word, Syn, syn, APattern, Pattern, AnyPattern, BindPattern, LiteralPattern, TruthPattern, PathPattern, PartsPattern, FieldsPattern, ParensPattern, TuplePattern, ArrayPattern, Alternatives}
use Rattle.typing_rules.specs.Typed as typing
use Rattle.typing_rules.proofs.Sound.AllPatterns.{matcher_sound}
use Rattle.std.specs.Prelude.{is_some}
use Rattle.std.specs.Option.{option_map_or}
use Rattle.mir_ty.specs.declared.ty.Ty.{Ty}
use Rattle.mir_ty.specs.declared.adt.Variant.{Variant}
use Rattle.mir_ty.specs.Facts.{is_copy}
use Rattle.typing_rules.proofs.Sound.Gives.{numbered}
use Rattle.std.specs.List.{position as position_of}
use Rattle.std.specs.Str.{bytes_eq}
use Rattle.typing_rules.specs.RowPromises.{SoundPattern}
use Rattle.mir_ty.specs.ItemTable.{ItemTable}
use Rattle.mir_ty.specs.declared.adt.Adt.{Adt}

-- what is so of all that a check can give
record Shows {A : Type 0} (R : A → TypingState → Type 0) (r : Result (A × TypingState) Broken) : Type 0 where
  so : Then r R

then_on : {A B : Type 0} {Q : A → TypingState → Type 0} {R : B → TypingState → Type 0} {r : Result (A × TypingState) Broken} {f : A →
    Check B} →
    Shows Q r → ((a : A) (t : TypingState) → Q a t → Shows R (f a t)) → Shows R (and_then r f)
then_on {r = Ok a} h k = k a.0 a.1 h.so
then_on {r = Err e} h k = record { so = tt }

skip : {A B : Type 0} {R : B → TypingState → Type 0} (r : Result (A × TypingState) Broken) {f : A → Check B} → ((a : A) (t :
    TypingState) → Shows
    R (f a t)) → Shows R (and_then r f)
skip (Ok a) k = k a.0 a.1
skip (Err e) k = record { so = tt }

obeyed_on : {B : Type 0} {R : B → TypingState → Type 0} {s : TypingState} (rule : Rule) (at : Pos) (holds : Bool) (f : Check B) →
    Shows R (f
    s) → Shows R (and_then (obeys rule at holds s) (λ _. f))
obeyed_on rule at true f h = h
obeyed_on rule at false f h = record { so = tt }

known_on : {A B : Type 0} {R : B → TypingState → Type 0} {s : TypingState} (rule : Rule) (at : Pos) (o : Option A) (f : A → Check
    B) → ((a :
    A) → Shows R (f a s)) → Shows R (and_then (known rule at o s) f)
known_on rule at (Some a) f h = h a
known_on rule at None f h = record { so = tt }

ends : {A : Type 0} {R : A → TypingState → Type 0} {a : A} {t : TypingState} → R a t → Shows R (Ok (a, t))
ends h = record { so = h }

abbrev Is : Bool → rules.BoundPattern → TypingState → Type 0
Is one b t = is_one_name b.0 ≡ one

no_name : (id : ℕ) (at : Pos) (ty : TyId) (t : rules.PatternTarget) (test enum : Bool) (fields : Fields) → is_one_name
    (rules.tested_if test (a_node_of id at ty (if enum then tree.VariantPattern t.variant test fields else
    tree.StructPattern
    fields))) ≡ false
no_name id at ty t true true fields = refl
no_name id at ty t true false fields = refl
no_name id at ty t false true fields = refl
no_name id at ty t false false fields = refl

target_none : (at : Pos) (e : PatternContext) (ty : TyId) (t : rules.PatternTarget) (parts : PatternContext → List TyId → Check (Fields ×
    List NamedEntry
    × Bool × Bool)) (s : TypingState) → Shows (Is false) (rules.of_target at e ty t parts s)
target_none at e ty t parts s =
    skip (interned (Ty.Adt t.adt) (numbered s)) λ self u.
    obeyed_on Rule.T03 at (is_same ty self) _
    (skip (parts (rules.inside_of u.items ty e) (rules.fields_of u.items t) u) λ ps w.
    obeyed_on Rule.T04 at ps.2 _ (obeyed_on Rule.T12 at ps.3 _ (obeyed_on Rule.T18 at (not (e.takes_all &&
    rules.is_test w.items
    t)) _ (ends (no_name s.next_node at ty t (rules.is_test w.items t) (is_enum w.items t.adt) ps.0)))))

lone_none : (env : Env) (at : Pos) (e : PatternContext) (ty : TyId) (adt : ℕ) (earlier : List NamedEntry) (s : TypingState) → Shows (Is
    false)
    (rules.lone_struct env at e ty adt earlier s)
lone_none env at e ty adt earlier s = by (rules.is_unit_kind (kind_at env.kinds adt 0))
  where
    by : (b : Bool) → Shows (Is false) ((if b then rules.of_target at e ty (rules.target adt 0) (rules.no_parts
        earlier true)
        else breaks Rule.T18 at) s)
    by true = target_none at e ty (rules.target adt 0) (rules.no_parts earlier true) s
    by false = record { so = tt }

bind_one : (at : Pos) (e : PatternContext) (ty : TyId) (name : Word) (earlier : List NamedEntry) (s : TypingState) → Shows (Is true)
    (rules.bind at e ty name
    earlier s)
bind_one at e ty name earlier s =
    obeyed_on Rule.T02 at (not (is_some (variable earlier name))) _ (obeyed_on Rule.T07 at (is_copy s.items ty || not
    (e.is_fixed || is_dyn s.items ty)) _ (ends refl))

lone_one : (env : Env) (at : Pos) (e : PatternContext) (ty : TyId) (name : Word) (earlier : List NamedEntry) (s : TypingState) → Shows
    (Is (not (typing.names_struct s.items (adt_named s.items name))))
    (rules.lone_name env at e ty name earlier s)
lone_one env at e ty name earlier s = by (adt_named s.items name)
  where
    if_enum : (adt : ℕ) (b : Bool) → Shows (Is (not (not b))) ((if b then rules.bind at e ty name earlier else
        rules.lone_struct env at e ty adt earlier) s)
    if_enum adt true = bind_one at e ty name earlier s
    if_enum adt false = lone_none env at e ty adt earlier s

    by : (o : Option ℕ) → Shows (Is (not (typing.names_struct s.items o))) (rules.lone_by env at e ty name earlier o
        s.items s)
    by None = bind_one at e ty name earlier s
    by (Some adt) = if_enum adt (is_enum s.items adt)

path_none : (env : Env) (at : Pos) (e : PatternContext) (ty : TyId) (first second : Option Word) (earlier : List NamedEntry) (s :
    TypingState) →
    Shows (Is false) (rules.path_alone env at e ty first second earlier s)
path_none env at e ty first None earlier s =
    known_on Rule.T01 at env.self_adt _ λ adt. obeyed_on Rule.T01 at (not (is_enum s.items adt)) _ (lone_none env at e
    ty adt
    earlier s)
path_none env at e ty first (Some second) earlier s =
    known_on Rule.T01 at (rules.target_of s.items env first (Some second)) _ λ t. target_none at e ty t
    (rules.no_parts earlier
    (rules.is_unit_kind (kind_at env.kinds t.adt t.variant))) s

literal_none : (at : Pos) (e : PatternContext) (ty : TyId) (is_negative : Bool) (value : ℕ) (suffix : Option IntKind) (s :
    TypingState) → Shows
    (λ n t. is_one_name n ≡ false) (rules.literal_pattern at e ty is_negative value suffix s)
literal_none at e ty is_negative value suffix s =
    known_on Rule.T03 at (kind_of s.items ty) _ λ kind. obeyed_on Rule.T03 at (rules.agrees_kind suffix ty && (not
    is_negative ||
    is_signed_kind kind)) _ (obeyed_on Rule.T17 at (nat_le value (most kind is_negative)) _ (obeyed_on Rule.T18 at (not
    e.takes_all) _ (ends refl)))

truth_none : (at : Pos) (e : PatternContext) (ty : TyId) (value : Bool) (s : TypingState) → Shows (λ n t. is_one_name n ≡ false)
    (rules.truth_pattern at e ty value s)
truth_none at e ty value s =
    obeyed_on Rule.T03 at (is_bool s.items ty) _ (obeyed_on Rule.T18 at (not e.takes_all) _ (ends refl))

mutual
  one_name : (env : Env) (e : PatternContext) (ty : TyId) (p : Syn) (earlier : List NamedEntry) (s : TypingState) → Shows (Is
      (typing.is_one_name s.items p)) (rules.pattern env e ty p
      earlier s)
  one_name env e ty (syn at (APattern p)) earlier s = one_form env e ty at p earlier s
  one_name env e ty _ earlier s = record { so = tt }

  one_form : (env : Env) (e : PatternContext) (ty : TyId) (at : Pos) (form : Pattern) (earlier : List NamedEntry) (s : TypingState) →
      Shows (Is (typing.is_one_name_form s.items form))
      (rules.pattern_form env e ty at form earlier s)
  one_form env e ty at AnyPattern earlier s = ends refl
  one_form env e ty at (BindPattern name) earlier s = lone_one env at e ty name earlier s
  one_form env e ty at (LiteralPattern is_negative value suffix) earlier s =
      then_on (literal_none at e ty is_negative value suffix s) λ n t h. ends h
  one_form env e ty at (TruthPattern value) earlier s =
      then_on (truth_none at e ty value s) λ n t h. ends h
  one_form env e ty at (PathPattern first second) earlier s = path_none env at e ty first second earlier s
  one_form env e ty at (PartsPattern first second parts dots) earlier s =
      known_on Rule.T01 at (rules.target_of s.items env first second) _ λ t. target_none at e ty t (λ inside tys.
      rules.part_patterns env inside tys parts earlier >>= (λ ps. pure (
        rules.fields_from 0 ps.0,
        ps.1,
        rules.is_count dots
            (rules.count_of parts) (length tys) && rules.are_ordered env t dots,
        true,
      ))) s
  one_form env e ty at (FieldsPattern first second fields dots) earlier s =
      known_on Rule.T01 at (rules.target_of s.items env first second) _ λ t. target_none at e ty t (λ inside tys.
      rules.field_patterns env inside (option_map_or (λ (v : Variant). v) (variant_at s.items t.adt t.variant)
      rules.no_variant) fields earlier >>= (λ ps. pure (
        ps.0,
        ps.1,
        rules.are_given_once ps.2 && (dots || rules.are_all_given (length tys) ps.2),
        are_known ps.2,
      ))) s
  one_form env e ty at (ParensPattern inside) earlier s = one_name env e ty inside earlier s
  one_form env e ty at (TuplePattern parts dots) earlier s =
      known_on Rule.T03 at (rules.tuple_types s.items ty (rules.count_of parts) dots) _ λ tys. skip
      (rules.part_patterns env e tys parts earlier (numbered s))
      λ ps u. obeyed_on Rule.T04 at (rules.is_count dots (rules.count_of parts) (length tys)) _ (ends refl)
  one_form env e ty at (ArrayPattern elements dots) earlier s =
      known_on Rule.T03 at (array_of s.items ty) _ λ a. skip (rules.part_patterns env e (replicate a.1 a.0) elements
      earlier
      (numbered s)) λ ps u. obeyed_on Rule.T04 at (rules.is_count dots (rules.count_of elements) a.1) _ (ends refl)
  one_form env e ty at (Alternatives patterns) earlier s =
      obeyed_on Rule.T20 at (nat_lt 1 (rules.count_of patterns)) _ (skip (rules.each_pattern env e ty patterns earlier
      (numbered
      s)) λ ps u. obeyed_on Rule.T18 at (not (rules.has_names earlier ps.1)) _ (ends refl))

both_give : {A : Type 0} {s : TypingState} {Q : Fact A} (P : A → Type 0) (r : Result (A × TypingState) Broken) → Gives s Q r →
    Shows (λ a t. P
    a) r → Gives s (λ w a. Q w a × P a) r
both_give P (Ok a) h p = record { so = λ ready. let g = h.so ready in (g.0, λ w l. (g.1 w l, p.so)) }
both_give P (Err e) h p = record { so = λ ready. tt }

-- structs and enums stay, so a pattern that is written as one name stays one
module _ (old new : ItemTable) (e : new.adts ≡ old.adts) where
  abbrev named : List Adt → Option ℕ → Bool
  named adts None = false
  named adts (Some adt) = not (option_map_or (λ (def : Adt). def.is_enum) (slice_get adts adt) false)

  named_is : (items : ItemTable) (o : Option ℕ) → typing.names_struct items o ≡ named items.adts o
  named_is items None = refl
  named_is items (Some adt) = refl

  one_lone : (name : Word) → typing.names_struct new (adt_named new name) ≡ typing.names_struct old (adt_named old name)
  one_lone name =
      named_is new (adt_named new name) ∙ (ap (λ adts. named adts (position_of (λ (adt : Adt). bytes_eq adt.name name)
      adts)) e ∙
      sym (named_is old (adt_named old name)))

  mutual
    one_same : (p : Syn) → typing.is_one_name new p ≡ typing.is_one_name old p
    one_same (syn at (APattern p)) = one_same_form p
    one_same _ = refl

    one_same_form : (form : Pattern) → typing.is_one_name_form new form ≡ typing.is_one_name_form old form
    one_same_form (BindPattern name) = ap not (one_lone name)
    one_same_form (ParensPattern inside) = one_same inside
    one_same_form _ = refl

-- a whole pattern, with what it is as it is written
pub one_pattern_sound : (env : Env) (p : Syn) (first : TypingState) → SoundPattern first (typing.is_one_name first.items p)
    (λ e ty.
    rules.pattern env e ty p [])
one_pattern_sound env p first e ty s g ready =
    both_give (λ b. is_one_name b.0 ≡ typing.is_one_name first.items p) (rules.pattern env e ty p [] s) (matcher_sound
    env p e ty
    s ready) (named_on (rules.pattern env e ty p [] s) (one_name env e ty p [] s))
  where
    named_on : (r : Result (rules.BoundPattern × TypingState) Broken) → Shows (Is (typing.is_one_name s.items p)) r → Shows (λ b t.
        is_one_name b.0 ≡ typing.is_one_name first.items p) r
    named_on (Ok b) h = record { so = h.so ∙ one_same first.items s.items g.items.adts p }
    named_on (Err x) h = record { so = tt }
