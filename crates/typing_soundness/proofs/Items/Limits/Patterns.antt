-- Patterns and parameters keep types within their limits.
use Rattle.std.proofs.Common.{◌≡◌, ℕ, ◌<◌, Bool, true, false, ◌&&◌, ◌||◌, not, if◌then◌else◌, List, [], ◌∷◌, length, Option, Some, None, refl, subst, nat_le, nat_lt, replicate}
use Rattle.std.specs.Prelude.{option_and_then, option_map, is_some}
use Rattle.std.specs.Option.{option_map_or}
use Rattle.std.proofs.lemmas.Option.{none-some, same_Some}
use Rattle.mir_base.specs.declared.place_in_text.Pos.{Pos}
use Rattle.mir_base.specs.declared.rule.Rule.{Rule}
use Rattle.mir_ty.specs.declared.adt.Variant.{Variant}
use Rattle.mir_ty.specs.declared.ty.Ty.{Ty}
use Rattle.mir_ty.specs.declared.ty.TyId.{TyId}
use Rattle.mir_ty.specs.Facts.{is_copy}
use Rattle.mir_ty.specs.ItemTable.{ItemTable}
use Rattle.typed_tree.specs.Tree.{Fields}
use Rattle.well_typed.specs.Types.{is_same, is_bool, is_dyn, is_enum, is_reference, kind_of, array_of, variant_at}
use Rattle.typing_rules.specs.Bodies as bodies
use Rattle.typing_rules.specs.Bodies.{param_pattern_context, is_name_or_wildcard}
use Rattle.typing_rules.specs.Check.{Check, TypingState, breaks, pure, ◌>>=◌}
use Rattle.typing_rules.specs.Patterns as rules
use Rattle.typing_rules.specs.Rows.{PatternContext, is_signed_kind, most, are_known}
use Rattle.typing_rules.specs.Scope.{Env, NamedEntry, adt_named, adt_at_head, kind_at, variable, variant_named, field_named}
use Rattle.typing_rules.specs.Written as types
use Rattle.src_ast.specs.Syntax.{Word, Receiver, ByValue, ByShared, ByUnique, Syn, syn, APattern, AParam, AFieldPattern, Pattern, AnyPattern, BindPattern, LiteralPattern, TruthPattern, PathPattern, PartsPattern, FieldsPattern, ParensPattern, TuplePattern, ArrayPattern, Alternatives, ParamOf, SelfParam, Syns, no_syn, a_syn, MaybeSyn, nothing, just}
use Rattle.typing_rules.proofs.Sound.Gives.{numbered}
use Rattle.typing_soundness.specs.Walks.{Walked}
use Rattle.typing_soundness.proofs.Items.Limits.Rows.{Inside, Keeps, still_kept, IsNamed, named_below, head_below, intern_kept}
use Rattle.typing_soundness.proofs.Items.Limits.Types.{Bounds, written_in, written_param_in}
use Rattle.typing_soundness.proofs.Walking.Expressions.{both_walk}
use Rattle.typing_soundness.proofs.Walking.Params.{written_still, written_param_still}
use Rattle.typing_soundness.proofs.Walking.Steps.{walk, walk_map, walk_obeyed, walk_found, walk_ends}

module _ (b : Bounds) where
  literal_kept : (at : Pos) (e : PatternContext) (ty : TyId) (is_negative : Bool) (value : ℕ) (suffix : _) → Keeps b
      (rules.literal_pattern at e ty is_negative value suffix)
  literal_kept at e ty is_negative value suffix s h =
      walk_found Rule.T03 at (kind_of s.items ty) _ λ kind is. walk_obeyed Rule.T03 at (rules.agrees_kind suffix ty && (not
      is_negative || is_signed_kind kind)) _ λ _. walk_obeyed Rule.T17 at (nat_le value (most kind is_negative)) _ λ _.
      walk_obeyed Rule.T18 at (not e.takes_all) _ λ _. walk_ends h

  truth_kept : (at : Pos) (e : PatternContext) (ty : TyId) (value : Bool) → Keeps b (rules.truth_pattern at e ty value)
  truth_kept at e ty value s h =
      walk_obeyed Rule.T03 at (is_bool s.items ty) _ λ _. walk_obeyed Rule.T18 at (not e.takes_all) _ λ _. walk_ends h

  bind_kept : (at : Pos) (e : PatternContext) (ty : TyId) (name : Word) (earlier : List NamedEntry) → Keeps b (rules.bind at e ty name
      earlier)
  bind_kept at e ty name earlier s h =
      walk_obeyed Rule.T02 at (not (is_some (variable earlier name))) _ λ _. walk_obeyed Rule.T07 at (is_copy s.items ty ||
      not (e.is_fixed || is_dyn s.items ty)) _ λ _. walk_ends h

  -- ---- structs and variants

  -- what a path names is there
  pub target_below : (items : ItemTable) → Inside b items → (env : Env) → IsNamed b env → (first second : Option Word) (t :
      rules.PatternTarget) → rules.target_of items env first second ≡ Some t → t.adt < b.adts
  target_below items h env named first None t is = by (adt_at_head items env first) refl is
    where
      if_enum : (n : ℕ) → n < b.adts → (c : Bool) → ◌≡◌ {A = Option rules.PatternTarget} (if c then None else Some (rules.target n
          0)) (Some t) → t.adt < b.adts
      if_enum n below true is = absurd (none-some t is)
      if_enum n below false is = subst (λ (x : rules.PatternTarget). x.adt < b.adts) (same_Some (rules.target n 0) t is) below

      by : (o : Option ℕ) → adt_at_head items env first ≡ o → option_and_then (λ n. if is_enum items n then None else Some
          (rules.target n 0)) o ≡ Some t → t.adt < b.adts
      by None e is = absurd (none-some t is)
      by (Some n) e is = if_enum n (head_below b items h env named first n e) (is_enum items n) is
  target_below items h env named first (Some second) t is = by (adt_at_head items env first) refl is
    where
      found : (n : ℕ) → n < b.adts → (o : Option ℕ) → option_map (rules.target n) o ≡ Some t → t.adt < b.adts
      found n below None is = absurd (none-some t is)
      found n below (Some k) is = subst (λ (x : rules.PatternTarget). x.adt < b.adts) (same_Some (rules.target n k) t is) below

      if_enum : (n : ℕ) → n < b.adts → (c : Bool) → ◌≡◌ {A = Option rules.PatternTarget} (if c then option_map (rules.target n)
          (variant_named items n second) else None) (Some t) → t.adt < b.adts
      if_enum n below true is = found n below (variant_named items n second) is
      if_enum n below false is = absurd (none-some t is)

      by : (o : Option ℕ) → adt_at_head items env first ≡ o → option_and_then (λ n. if is_enum items n then option_map
          (rules.target n) (variant_named items n second) else None) o ≡ Some t → t.adt < b.adts
      by None e is = absurd (none-some t is)
      by (Some n) e is = if_enum n (head_below b items h env named first n e) (is_enum items n) is

  abbrev KeepsParts : (PatternContext → List TyId → Check (Fields × List NamedEntry × Bool × Bool)) → Type 0
  KeepsParts parts = (e : PatternContext) (tys : List TyId) → Keeps b (parts e tys)

  target_kept : (at : Pos) (e : PatternContext) (ty : TyId) (t : rules.PatternTarget) (parts : PatternContext → List TyId → Check (Fields × List
      NamedEntry × Bool × Bool)) → t.adt < b.adts → KeepsParts parts → Keeps b (rules.of_target at e ty t parts)
  target_kept at e ty t parts below good s h =
      walk (intern_kept b (Ty.Adt t.adt) (numbered s) h below) λ self u k. walk_obeyed Rule.T03 at (is_same ty self) _ λ _. walk
      (good (rules.inside_of u.items ty e) (rules.fields_of u.items t) u k) λ ps v l. walk_obeyed Rule.T04 at ps.2 _ λ _.
      walk_obeyed Rule.T12 at ps.3 _ λ _. walk_obeyed Rule.T18 at (not (e.takes_all && rules.is_test v.items t)) _ λ _.
      walk_ends l

  none_kept : (earlier : List NamedEntry) (is_whole : Bool) → KeepsParts (rules.no_parts earlier is_whole)
  none_kept earlier is_whole e tys s h = walk_ends h

  lone_kept : (env : Env) (at : Pos) (e : PatternContext) (ty : TyId) (adt : ℕ) (earlier : List NamedEntry) → adt < b.adts → Keeps b
      (rules.lone_struct env at e ty adt earlier)
  lone_kept env at e ty adt earlier below s h = by (rules.is_unit_kind (kind_at env.kinds adt 0))
    where
      by : (c : Bool) → Walked (λ _ t. Inside b t.items) ((if c then rules.of_target at e ty (rules.target adt 0)
          (rules.no_parts earlier true) else breaks Rule.T18 at) s)
      by true = target_kept at e ty (rules.target adt 0) (rules.no_parts earlier true) below (none_kept earlier true) s h
      by false = record { so = tt }

  lone_name_kept : (env : Env) (at : Pos) (e : PatternContext) (ty : TyId) (name : Word) (earlier : List NamedEntry) → Keeps b
      (rules.lone_name env at e ty name earlier)
  lone_name_kept env at e ty name earlier s h = by (adt_named s.items name) refl
    where
      if_enum : (adt : ℕ) → adt < b.adts → (c : Bool) → Walked (λ _ t. Inside b t.items) ((if c then rules.bind at e ty name
          earlier else rules.lone_struct env at e ty adt earlier) s)
      if_enum adt below true = bind_kept at e ty name earlier s h
      if_enum adt below false = lone_kept env at e ty adt earlier below s h

      by : (o : Option ℕ) → adt_named s.items name ≡ o → Walked (λ _ t. Inside b t.items) (rules.lone_by env at e ty name
          earlier o s.items s)
      by None is = bind_kept at e ty name earlier s h
      by (Some adt) is = if_enum adt (named_below b s.items h name adt is) (is_enum s.items adt)

  path_kept : (env : Env) → IsNamed b env → (at : Pos) (e : PatternContext) (ty : TyId) (first second : Option Word) (earlier : List
      NamedEntry) → Keeps b (rules.path_alone env at e ty first second earlier)
  path_kept env named at e ty first None earlier s h =
      walk_found Rule.T01 at env.self_adt _ λ adt is. walk_obeyed Rule.T01 at (not (is_enum s.items adt)) _ λ _. lone_kept env
      at e ty adt earlier (named.self adt is) s h
  path_kept env named at e ty first (Some second) earlier s h =
      walk_found Rule.T01 at (rules.target_of s.items env first (Some second)) _ λ t is. target_kept at e ty t _ (target_below
      s.items h env named first (Some second) t is) (none_kept earlier (rules.is_unit_kind (kind_at env.kinds t.adt t.variant)))
      s h

  field_by_kept : (v : Variant) (name : Word) (earlier : List NamedEntry) (typed : TyId → Check rules.BoundPattern) → ((ty : TyId) → Keeps b
      (typed ty)) → Keeps b (rules.field_by v name earlier typed)
  field_by_kept v name earlier typed good s h = by (rules.field_ty v.fields (field_named v name))
    where
      by : (o : Option (ℕ × TyId)) → Walked (λ _ t. Inside b t.items) (rules.field_at earlier o typed s)
      by None = walk_ends h
      by (Some f) = walk (good f.1 s h) λ n t k. walk_ends k

  module _ (env : Env) (named : IsNamed b env) where
    mutual
      pub pattern_kept : (e : PatternContext) (ty : TyId) (p : Syn) (earlier : List NamedEntry) → Keeps b (rules.pattern env e ty p earlier)
      pattern_kept e ty (syn at (APattern p)) earlier s h = form_kept e ty at p earlier s h
      pattern_kept e ty _ earlier s h = record { so = tt }

      form_kept : (e : PatternContext) (ty : TyId) (at : Pos) (form : Pattern) (earlier : List NamedEntry) → Keeps b (rules.pattern_form env
          e ty at form earlier)
      form_kept e ty at AnyPattern earlier s h = walk_ends h
      form_kept e ty at (BindPattern name) earlier s h = lone_name_kept env at e ty name earlier s h
      form_kept e ty at (LiteralPattern is_negative value suffix) earlier s h =
          walk (literal_kept at e ty is_negative value suffix s h) λ n t k. walk_ends k
      form_kept e ty at (TruthPattern value) earlier s h = walk (truth_kept at e ty value s h) λ n t k. walk_ends k
      form_kept e ty at (PathPattern first second) earlier s h = path_kept env named at e ty first second earlier s h
      form_kept e ty at (PartsPattern first second parts dots) earlier s h =
          walk_found Rule.T01 at (rules.target_of s.items env first second) _ λ t is. target_kept at e ty t (λ inside tys.
          rules.part_patterns env inside tys parts earlier >>= (λ ps. pure (
            rules.fields_from 0 ps.0,
            ps.1,
            rules.is_count dots (rules.count_of parts) (length tys) && rules.are_ordered env t dots,
            true,
          ))) (target_below s.items h env named first second t is) (λ inside tys u k. walk (parts_kept inside tys parts earlier
          u k) λ ps v l. walk_ends l) s h
      form_kept e ty at (FieldsPattern first second fields dots) earlier s h =
          walk_found Rule.T01 at (rules.target_of s.items env first second) _ λ t is. target_kept at e ty t (λ inside tys.
          rules.field_patterns env inside (option_map_or (λ v. v) (variant_at s.items t.adt t.variant) rules.no_variant)
          fields earlier >>= (λ ps. pure (
            ps.0,
            ps.1,
            rules.are_given_once ps.2 && (dots || rules.are_all_given (length tys) ps.2),
            are_known ps.2,
          ))) (target_below s.items h env named first second t is) (λ inside tys u k. walk (fields_kept inside (option_map_or
          (λ v. v) (variant_at s.items t.adt t.variant) rules.no_variant) fields earlier u k) λ ps v l. walk_ends l) s h
      form_kept e ty at (ParensPattern inside) earlier s h = pattern_kept e ty inside earlier s h
      form_kept e ty at (TuplePattern parts dots) earlier s h =
          walk_found Rule.T03 at (rules.tuple_types s.items ty (rules.count_of parts) dots) _ λ tys is. walk
          (parts_kept e tys
          parts earlier (numbered s) h) λ ps t k. walk_obeyed Rule.T04 at (rules.is_count dots (rules.count_of parts)
          (length tys)) _ λ _. walk_ends k
      form_kept e ty at (ArrayPattern elements dots) earlier s h =
          walk_found Rule.T03 at (array_of s.items ty) _ λ a is. walk (parts_kept e (replicate a.1 a.0) elements earlier
          (numbered s) h) λ ps t k. walk_obeyed Rule.T04 at (rules.is_count dots (rules.count_of elements) a.1) _ λ _.
          walk_ends k
      form_kept e ty at (Alternatives patterns) earlier s h =
          walk_obeyed Rule.T20 at (nat_lt 1 (rules.count_of patterns)) _ λ _. walk (each_kept e ty patterns earlier (numbered s)
          h) λ ps t k. walk_obeyed Rule.T18 at (not (rules.has_names earlier ps.1)) _ λ _. walk_ends k

      parts_kept : (e : PatternContext) (tys : List TyId) (parts : Syns) (earlier : List NamedEntry) → Keeps b (rules.part_patterns env e
          tys parts earlier)
      parts_kept e tys no_syn earlier s h = walk_ends h
      parts_kept e [] (a_syn first rest) earlier s h = walk_ends h
      parts_kept e (ty ∷ tys) (a_syn first rest) earlier s h =
          walk (pattern_kept e ty first earlier s h) λ p t k. walk (parts_kept e tys rest p.1 t k) λ ps u l. walk_ends l

      each_kept : (e : PatternContext) (ty : TyId) (patterns : Syns) (earlier : List NamedEntry) → Keeps b (rules.each_pattern env e ty
          patterns earlier)
      each_kept e ty no_syn earlier s h = walk_ends h
      each_kept e ty (a_syn first rest) earlier s h =
          walk (pattern_kept e ty first earlier s h) λ p t k. walk (each_kept e ty rest p.1 t k) λ ps u l. walk_ends l

      fields_kept : (e : PatternContext) (v : Variant) (fields : Syns) (earlier : List NamedEntry) → Keeps b (rules.field_patterns env e v
          fields earlier)
      fields_kept e v no_syn earlier s h = walk_ends h
      fields_kept e v (a_syn first rest) earlier s h =
          walk (field_kept e v first earlier s h) λ p t k. walk (fields_kept e v rest p.1 t k) λ ps u l. walk_ends l

      field_kept : (e : PatternContext) (v : Variant) (field : Syn) (earlier : List NamedEntry) → Keeps b (rules.field_pattern env e v field
          earlier)
      field_kept e v (syn at (AFieldPattern name nothing)) earlier s h =
          field_by_kept v name earlier (λ ty. rules.lone_name env at e ty name earlier) (λ ty. lone_name_kept env at e
          ty name
          earlier) s h
      field_kept e v (syn at (AFieldPattern name (just inside))) earlier s h =
          field_by_kept v name earlier (λ ty. rules.pattern env e ty inside earlier) (λ ty. pattern_kept e ty inside earlier) s h
      field_kept e v (syn at _) earlier s h = record { so = tt }

    -- ---- types as they are written, parameters and answers

    pub type_kept : (ty : Syn) → Keeps b (types.written (bodies.all_rules env) ty)
    type_kept ty s h =
        walk_map (both_walk (types.written (bodies.all_rules env) ty s) (written_in b (bodies.all_rules env) named ty s
        h.types) (written_still (bodies.all_rules env) ty s)) λ _ t k. still_kept b h k.0 k.1

    pub param_type_kept : (ty : Syn) → Keeps b (types.written_param (bodies.all_rules env) ty)
    param_type_kept ty s h =
        walk_map (both_walk (types.written_param (bodies.all_rules env) ty s) (written_param_in b (bodies.all_rules env) named
        ty s h.types) (written_param_still (bodies.all_rules env) ty s)) λ _ t k. still_kept b h k.0 k.1

    pub answer_kept : (answer : MaybeSyn) → Keeps b (bodies.answer_of env answer)
    answer_kept nothing s h = walk_ends h
    answer_kept (just ty) s h = type_kept ty s h

    receiver_kept : (at : Pos) (receiver : Receiver) → Keeps b (bodies.receiver_ty env at receiver)
    receiver_kept at receiver s h =
        walk_found Rule.T01 at env.self_adt _ λ n is. walk (intern_kept b (Ty.Adt n) s h (named.self n is)) λ own t k. by
        receiver own t k
      where
        by : (r : Receiver) (own : TyId) (t : TypingState) → Inside b t.items → Walked (λ _ u. Inside b u.items) (bodies.self_ty r
            own t)
        by ByValue own t k = walk_ends k
        by ByShared own t k = intern_kept b (Ty.Shared own) t k tt
        by ByUnique own t k = intern_kept b (Ty.Unique own) t k tt

    module _ (ty_of_param : Syn → Check TyId) (good : (ty : Syn) → Keeps b (ty_of_param ty)) where
      param_kept : (p : Syn) (earlier : List NamedEntry) → Keeps b (bodies.param env ty_of_param p earlier)
      param_kept (syn at (AParam (ParamOf p ty))) earlier s h =
          walk (good ty s h) λ t u k. walk_obeyed Rule.T08 at (is_name_or_wildcard p || not (is_reference u.items t)) _ λ _.
          walk (pattern_kept param_pattern_context t p earlier u k) λ n v l. walk_ends l
      param_kept (syn at (AParam (SelfParam receiver))) earlier s h = walk (receiver_kept at receiver s h) λ ty t k. walk_ends k
      param_kept (syn at _) earlier s h = record { so = tt }

      pub params_kept : (params : Syns) (earlier : List NamedEntry) → Keeps b (bodies.params_of env ty_of_param params earlier)
      params_kept no_syn earlier s h = walk_ends h
      params_kept (a_syn first rest) earlier s h =
          walk (param_kept first earlier s h) λ p t k. walk (params_kept rest p.1 t k) λ ps u l. walk_ends l
