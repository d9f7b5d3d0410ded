-- Each pattern gives what is well typed: the recursion, one line a form.
use Rattle.std.proofs.Common.{◌≡◌, ℕ, suc, ◌+◌, Bool, true, false, ◌&&◌, ◌||◌, ◌==◌, not, nat_lt, if◌then◌else◌, List, [], ◌∷◌, ◌++◌, length, map, slice_get, replicate, Option, Some, None, IsTrue, inl, inr, refl, ap, sym, subst, ◌∙◌, arith}
use Rattle.std.specs.Prelude.{option_and_then, option_map}
use Rattle.std.specs.List.{filter_map, position as position_of}
use Rattle.std.specs.Option.{option_map_or}
use Rattle.std.specs.Str.{bytes_eq}
use Rattle.std.proofs.lemmas.Bool.{lt-ltb}
use Rattle.std.proofs.lemmas.List.Quantifiers.{position-Some}
use Rattle.std.proofs.lemmas.Option.{none-some, same_Some}
use Rattle.mir_base.specs.declared.place_in_text.Pos.{Pos}
use Rattle.mir_base.specs.declared.rule.Rule.{Rule}
use Rattle.mir_ty.specs.declared.adt.Adt.{Adt}
use Rattle.mir_ty.specs.declared.adt.Variant.{Variant}
use Rattle.mir_ty.specs.declared.ty.TyId.{TyId}
use Rattle.mir_ty.specs.ItemTable.{ItemTable}
use Rattle.mir_ty.specs.Parts.{field_ty}
use Rattle.typed_tree.specs.Nodes.{nodes_of, nodes_among, nodes_of_fields}
use Rattle.typed_tree.specs.Tree.{Node, Nodes, no_node, a_node, Fields, a_field}
use Rattle.well_typed.specs.Claim.{Holds, some}
use Rattle.well_typed.specs.Names.{are_distinct, are_distinct_numbers, is_number_among}
use Rattle.well_typed.specs.Patterns as well
use Rattle.well_typed.specs.Patterns.{Matched, pattern, binding_name, binding_entry, field_numbers}
use Rattle.well_typed.specs.Types.{is_enum, variant_at, array_of, array_in}
use Rattle.well_typed.proofs.ClaimLemmas.{true_left}
use Rattle.typing_rules.specs.Check.{Check, TypingState, ◌>>=◌, pure, breaks}
use Rattle.typing_rules.specs.Patterns as rules
use Rattle.typing_rules.specs.Promises.{Extends, IsReady, AreReady, Gives, are_bound, AreFresh, AreReadyTypes, IsPattern, SoundMatcher}
use Rattle.typing_rules.specs.Rows.{PatternContext, Given, numbered_fields, are_known}
use Rattle.typing_rules.specs.Scope.{Env, NamedEntry, adt_named, adt_at_head, variant_named, field_named, kind_at}
use Rattle.src_ast.specs.Syntax.{Word, Syn, syn, APattern, AFieldPattern, Pattern, AnyPattern, BindPattern, LiteralPattern, TruthPattern, PathPattern, PartsPattern, FieldsPattern, ParensPattern, TuplePattern, ArrayPattern, Alternatives, Syns, no_syn, a_syn, nothing, just}
use Rattle.typing_rules.proofs.Sound.Bindings.{Binds, binds_none, binds_join}
use Rattle.typing_rules.proofs.Sound.Fitted.{same_self}
use Rattle.typing_rules.proofs.Sound.Gives.{◌⋆◌, bind, weaker, with_ready, given, gives_nothing, obeyed, found, after_number, numbered, grows_trans, grows_refl}
use Rattle.typing_rules.proofs.Sound.Later.{ready_later, alone_ready, in_later, some_got}
use Rattle.typing_rules.proofs.Sound.Named.{adt_fields, distinct_from}
use Rattle.typing_rules.proofs.Sound.Places.{not_true}
use Rattle.typing_rules.proofs.Sound.Patterns.{IsFor, IsAfter, ArePartsAfter, AreEachAfter, AreFieldsAfter, IsTarget, SoundFields, under, wildcard_sound, literal_pattern_sound, truth_pattern_sound, bind_sound, as_tuple, tuple_later, parts_ready, elements_ready, none_new, not_not, of_target_sound}

-- ---- what a path names

variant_below : (items : ItemTable) (adt : ℕ) (name : Word) (k : ℕ) → variant_named items adt name ≡ Some k → IsTrue
    (nat_lt k
    (well.variant_count items adt))
variant_below items adt name k h = by (slice_get items.adts adt) h
  where
    by : (o : Option Adt) → option_and_then (λ (def : Adt). position_of (λ (v : Variant). bytes_eq v.name name)
        def.variants) o ≡
        Some k → IsTrue (nat_lt k (option_map_or (λ (def : Adt). length def.variants) o 0))
    by None h = absurd (none-some k h)
    by (Some def) h =
        lt-ltb k (length def.variants) (position-Some (λ (v : Variant). bytes_eq v.name name) def.variants k (record {
          name =
              [];
          fields = [];
          field_names = [];
        }) h).0

target_is : (items : ItemTable) (env : Env) (first second : Option Word) (t : rules.PatternTarget) → rules.target_of items
    env first
    second ≡ Some t → IsTarget items t
target_is items env first None t h =
    let n = some_got (λ n. if is_enum items n then None else Some (rules.target n 0)) (adt_at_head items env first) t
    h in
    by n.0 (is_enum items n.0) refl n.2
  where
    by : (n : ℕ) (b : Bool) → is_enum items n ≡ b → (if b then None else Some (rules.target n 0)) ≡ Some t → IsTarget
        items t
    by n true e h = absurd (none-some t h)
    by n false e h =
        let same = same_Some (rules.target n 0) t h in
        inr (
          ap (λ (u : rules.PatternTarget). is_enum items u.adt) (sym same) ∙ e,
          ap (λ (u : rules.PatternTarget). u.variant) (sym
              same),
        )
target_is items env first (Some second) t h =
    let n = some_got (λ n. if is_enum items n then option_map (rules.target n) (variant_named items n second) else None)
    (adt_at_head items env first) t h in
    by n.0 (is_enum items n.0) refl n.2
  where
    at : (n : ℕ) → is_enum items n ≡ true → (o : Option ℕ) → variant_named items n second ≡ o → option_map
        (rules.target n) o ≡
        Some t → IsTarget items t
    at n e None is h = absurd (none-some t h)
    at n e (Some k) is h =
        subst (IsTarget items) (same_Some (rules.target n k) t h) (inl (e, variant_below items n second k is))

    by : (n : ℕ) (b : Bool) → is_enum items n ≡ b → (if b then option_map (rules.target n) (variant_named items n
        second) else
        None) ≡ Some t → IsTarget items t
    by n true e h = at n e (variant_named items n second) refl h
    by n false e h = absurd (none-some t h)

-- ---- fields by their order

same_fields : (k : ℕ) (ns : Nodes) → rules.fields_from k ns ≡ numbered_fields k ns
same_fields k no_node = refl
same_fields k (a_node first rest) = ap (a_field k first) (same_fields (suc k) rest)

fields_nodes : (k : ℕ) (ns : Nodes) → nodes_of_fields (rules.fields_from k ns) ≡ nodes_among ns
fields_nodes k no_node = refl
fields_nodes k (a_node first rest) = ap (λ xs. nodes_of first ++ xs) (fields_nodes (suc k) rest)

fields_hold : (items : ItemTable) (place : Matched) (tys : List TyId) (ty : TyId) (variant k : ℕ) (ns : Nodes) → ((n :
    ℕ) (part
    : TyId) → slice_get tys n ≡ Some part → field_ty items ty variant (k + n) ≡ Some part) → Holds (well.part_patterns
    items
    place tys ns) → Holds (well.field_patterns items place ty variant (rules.fields_from k ns))
fields_hold items place tys ty variant k no_node at h = refl
fields_hold items place [] ty variant k (a_node first rest) at h = absurd (let no_ : IsTrue false = h in cc)
fields_hold items place (t ∷ tys) ty variant k (a_node first rest) at h = (
  subst (λ o. Holds (some o (λ expected. pattern items place expected first))) (sym (ap (field_ty items ty variant) (omega
      arith) ∙
      at 0 t refl)) h.0,
  fields_hold items place tys ty variant (suc k) rest (λ n part is. ap (field_ty items ty variant) (omega arith) ∙ at
      (suc
      n) part is) h.1,
)

parts_as_fields : (e : PatternContext) (tys : List TyId) (earlier : List NamedEntry) (n : ℕ) (w : TypingState) (b : Nodes × List NamedEntry)
    (counted :
    Bool) → ArePartsAfter e tys earlier n w b → AreFieldsAfter e tys earlier n w (
      rules.fields_from 0 b.0,
      b.1,
      counted,
      true,
    )
parts_as_fields e tys earlier n w b counted are =
    record {
      holds = λ place for ty variant at.
          fields_hold w.items place tys ty variant 0 b.0 (λ k part is. ap (field_ty w.items ty variant) (omega arith)
          ∙ at k
          part is) (are.holds place for);
      distinct = λ two three. subst (λ fs. IsTrue (are_distinct_numbers (field_numbers fs))) (sym (same_fields 0 b.0))
          (distinct_from 0 b.0);
      binds = under earlier n n (nodes_among b.0) _ w b.1 (omega arith) (ap (filter_map binding_entry) (fields_nodes 0
          b.0)) (ap
          (filter_map binding_name) (fields_nodes 0 b.0)) are.binds;
    }

no_parts_sound : (e : PatternContext) (ty : TyId) (t : rules.PatternTarget) (earlier : List NamedEntry) (s : TypingState) (is_whole : Bool) →
    SoundFields e ty t earlier s (rules.no_parts earlier is_whole)
no_parts_sound e ty t earlier s is_whole u g all at =
    given _ λ ready w l.
    record {
      holds = λ place for ty variant fields. refl;
      distinct = λ two three. refl;
      binds = binds_none earlier u.next_node [] w l.numbers refl refl;
    }

-- ---- fields by their names

abbrev somes : Given → List ℕ
somes [] = []
somes (None ∷ given) = somes given
somes (Some n ∷ given) = n ∷ somes given

again_same : (k : ℕ) (given : Given) → rules.is_again k given ≡ is_number_among k (somes given)
again_same k [] = refl
again_same k (None ∷ given) = again_same k given
again_same k (Some n ∷ given) = ap (λ b. k == n || b) (again_same k given)

once_same : (given : Given) → rules.are_given_once given ≡ are_distinct_numbers (somes given)
once_same [] = refl
once_same (None ∷ given) = once_same given
once_same (Some n ∷ given) = λ i. not (again_same n given i) && once_same given i

-- patterns of fields of a variant, after earlier names
record AreNamedAfter (e : PatternContext) (tys : List TyId) (earlier : List NamedEntry) (n : ℕ) (w : TypingState) (b : Fields × List
    NamedEntry ×
    Given) : Type 0 where
  holds : (place : Matched) → IsFor e place → (ty : TyId) (variant : ℕ) → ((k : ℕ) (part : TyId) → slice_get tys k ≡
      Some part →
      field_ty w.items ty variant k ≡ Some part) → Holds (well.field_patterns w.items place ty variant b.0)
  numbers : field_numbers b.0 ≡ somes b.2
  binds : Binds earlier n (nodes_of_fields b.0) w b.1

abbrev nodes_in_field : Option (ℕ × Node) → List Node
nodes_in_field None = []
nodes_in_field (Some f) = nodes_of f.1

abbrev number_in : Option (ℕ × Node) → Option ℕ
number_in None = None
number_in (Some f) = Some f.0

-- one field, or none of that name
record IsFieldAfter (e : PatternContext) (tys : List TyId) (earlier : List NamedEntry) (n : ℕ) (w : TypingState) (b : Option (ℕ × Node)
    × List
    NamedEntry × Option ℕ) : Type 0 where
  holds : (place : Matched) → IsFor e place → (ty : TyId) (variant : ℕ) → ((k : ℕ) (part : TyId) → slice_get tys k ≡
      Some part →
      field_ty w.items ty variant k ≡ Some part) → (rest : Fields) → Holds (well.field_patterns w.items place ty
      variant rest) →
      Holds (well.field_patterns w.items place ty variant (rules.with_field b.0 rest))
  numbers : number_in b.0 ≡ b.2
  binds : Binds earlier n (nodes_in_field b.0) w b.1

with_nodes : (f : Option (ℕ × Node)) (rest : Fields) → nodes_of_fields (rules.with_field f rest) ≡ nodes_in_field f ++
    nodes_of_fields rest
with_nodes None rest = refl
with_nodes (Some f) rest = refl

with_numbers : (f : Option (ℕ × Node)) (k : Option ℕ) (rest : Fields) (given : Given) → number_in f ≡ k →
    field_numbers rest ≡
    somes given → field_numbers (rules.with_field f rest) ≡ somes (k ∷ given)
with_numbers None k rest given is e = e ∙ ap (λ o. somes (o ∷ given)) is
with_numbers (Some f) k rest given is e = ap (λ ns. f.0 ∷ ns) e ∙ ap (λ o. somes (o ∷ given)) is

field_by_sound : (e : PatternContext) (v : Variant) (name : Word) (earlier : List NamedEntry) (typed : TyId → Check (Node × List
    NamedEntry)) (s :
    TypingState) → ((k : ℕ) (t : TyId) → slice_get v.fields k ≡ Some t → Gives s (IsAfter e t earlier s.next_node) (typed t
    s)) →
    Gives s (IsFieldAfter e v.fields earlier s.next_node) (rules.field_by v name earlier typed s)
field_by_sound e v name earlier typed s good = by (rules.field_ty v.fields (field_named v name)) refl
  where
    got : (f : ℕ × TyId) → rules.field_ty v.fields (field_named v name) ≡ Some f → slice_get v.fields f.0 ≡ Some f.1
    got f h =
        let k = some_got (λ k. option_map (λ (ty : TyId). (k, ty)) (slice_get v.fields k)) (field_named v name) f h in
        at k.0 (slice_get v.fields k.0) refl k.2
      where
        at : (k : ℕ) (o : Option TyId) → slice_get v.fields k ≡ o → option_map (λ (ty : TyId). (k, ty)) o ≡ Some f →
            slice_get
            v.fields f.0 ≡ Some f.1
        at k None is h = absurd (none-some f h)
        at k (Some ty) is h =
            let same = same_Some (k, ty) f h in
            ap (λ (x : ℕ × TyId). slice_get v.fields x.0) (sym same) ∙ (is ∙ ap (λ (x : ℕ × TyId). Some x.1) same)

    by : (o : Option (ℕ × TyId)) → rules.field_ty v.fields (field_named v name) ≡ o → Gives s (IsFieldAfter e v.fields
        earlier
        s.next_node) (rules.field_at earlier o typed s)
    by None is =
        given _ λ ready w l.
        record {
          holds = λ place for ty variant at rest h. h;
          numbers = refl;
          binds = binds_none earlier s.next_node [] w l.numbers refl refl;
        }
    by (Some f) is =
        bind (good f.0 f.1 (got f is)) λ b t g d. given _ λ ready w l.
        record {
          holds = λ place for ty variant at rest h. (
            subst (λ o. Holds (some o (λ expected. pattern w.items place expected b.0))) (sym (at f.0 f.1 (got f is))) ((d w
                l).holds
                place for),
            h,
          );
          numbers = refl;
          binds = (d w l).binds;
        }

fields_ready : (items : ItemTable) → AreReady items → (t : rules.PatternTarget) (k : ℕ) (part : TyId) → slice_get
    (rules.fields_of items
    t) k ≡ Some part → IsReady items part
fields_ready items all t k part h = by (variant_at items t.adt t.variant) refl h
  where
    by : (o : Option Variant) → variant_at items t.adt t.variant ≡ o → slice_get (option_map_or (λ (v : Variant).
        v.fields) o
        []) k ≡ Some part → IsReady items part
    by None is h = absurd (none-some part h)
    by (Some v) is h =
        alone_ready items part (all.fields t.adt t.variant k part (ap (λ tys. slice_get tys k) (adt_fields items t.adt
        t.variant
        v is) ∙ h))

variant_fields : {old new : ItemTable} → Extends old new → (t : rules.PatternTarget) → (option_map_or (λ (v : Variant). v)
    (variant_at
    old t.adt t.variant) rules.no_variant).fields ≡ rules.fields_of new t
variant_fields {old} {new} e t =
    same (variant_at old t.adt t.variant) ∙ ap (λ adts. option_map_or (λ (v : Variant). v.fields) (option_and_then (λ
    (def :
    Adt). slice_get def.variants t.variant) (slice_get adts t.adt)) []) (sym e.adts)
  where
    same : (o : Option Variant) → (option_map_or (λ (v : Variant). v) o rules.no_variant).fields ≡ option_map_or (λ (v :
        Variant). v.fields) o []
    same None = refl
    same (Some v) = refl

named_as_fields : (e : PatternContext) (tys others : List TyId) (earlier : List NamedEntry) (n : ℕ) (w : TypingState) (b : Fields ×
    List NamedEntry ×
    Given) (more known : Bool) → tys ≡ others → AreNamedAfter e tys earlier n w b → AreFieldsAfter e others earlier n
    w (
      b.0,
      b.1,
      rules.are_given_once b.2 && more,
      known,
    )
named_as_fields e tys others earlier n w b more known same are =
    record {
      holds = λ place for ty variant at. are.holds place for ty variant (λ k part is. at k part (ap (λ xs. slice_get
          xs k) (sym
          same) ∙ is));
      distinct = λ two three. subst (λ ns. IsTrue (are_distinct_numbers ns)) (sym are.numbers) (subst IsTrue
          (once_same b.2)
          (true_left (rules.are_given_once b.2) more two));
      binds = are.binds;
    }

lone_sound : (env : Env) (at : Pos) (e : PatternContext) (ty : TyId) (adt : ℕ) (earlier : List NamedEntry) (s : TypingState) → IsReady
    s.items ty
    → is_enum s.items adt ≡ false → Gives s (IsAfter e ty earlier s.next_node) (rules.lone_struct env at e ty adt
    earlier s)
lone_sound env at e ty adt earlier s ready no_enum = by (rules.is_unit_kind (kind_at env.kinds adt 0))
  where
    by : (b : Bool) → Gives s (IsAfter e ty earlier s.next_node) ((if b then rules.of_target at e ty (rules.target adt
        0)
        (rules.no_parts earlier true) else breaks Rule.T18 at) s)
    by true =
        of_target_sound at e ty (rules.target adt 0) (rules.no_parts earlier true) earlier s ready (inr (no_enum, refl))
        (no_parts_sound e ty (rules.target adt 0) earlier s true)
    by false = gives_nothing Rule.T18 at

lone_name_sound : (env : Env) (at : Pos) (e : PatternContext) (ty : TyId) (name : Word) (earlier : List NamedEntry) (s : TypingState) →
    IsReady
    s.items ty → Gives s (IsAfter e ty earlier s.next_node) (rules.lone_name env at e ty name earlier s)
lone_name_sound env at e ty name earlier s ready = by (adt_named s.items name)
  where
    if_enum : (adt : ℕ) (b : Bool) → is_enum s.items adt ≡ b → Gives s (IsAfter e ty earlier s.next_node) ((if b then
        rules.bind
        at e ty name earlier else rules.lone_struct env at e ty adt earlier) s)
    if_enum adt true is = bind_sound at e ty name earlier s ready
    if_enum adt false is = lone_sound env at e ty adt earlier s ready is

    by : (o : Option ℕ) → Gives s (IsAfter e ty earlier s.next_node) (rules.lone_by env at e ty name earlier o s.items
        s)
    by None = bind_sound at e ty name earlier s ready
    by (Some adt) = if_enum adt (is_enum s.items adt) refl

path_sound : (env : Env) (at : Pos) (e : PatternContext) (ty : TyId) (first second : Option Word) (earlier : List NamedEntry) (s
    : TypingState) →
    IsReady s.items ty → Gives s (IsAfter e ty earlier s.next_node) (rules.path_alone env at e ty first second earlier
    s)
path_sound env at e ty first None earlier s ready =
    found Rule.T01 at env.self_adt _ λ adt is.
    obeyed Rule.T01 at (not (is_enum s.items adt)) _ λ no_enum.
    lone_sound env at e ty adt earlier s ready (not_true (is_enum s.items adt) no_enum)
path_sound env at e ty first (Some second) earlier s ready =
    found Rule.T01 at (rules.target_of s.items env first (Some second)) _ λ t is.
    of_target_sound at e ty t (rules.no_parts earlier (rules.is_unit_kind (kind_at env.kinds t.adt t.variant)))
    earlier s ready
    (target_is s.items env first (Some second) t is) (no_parts_sound e ty t earlier s (rules.is_unit_kind (kind_at
    env.kinds
    t.adt t.variant)))

-- a struct or a variant by the order of its parts, and by the names of its fields
in_order_sound : (at : Pos) (e : PatternContext) (ty : TyId) (t : rules.PatternTarget) (earlier : List NamedEntry) (s : TypingState) (counted
    : List TyId →
    Bool) (check : PatternContext → List TyId → Check (Nodes × List NamedEntry)) → IsReady s.items ty → IsTarget s.items t →
    ((inside :
    PatternContext) (tys : List TyId) (u : TypingState) → ((n : ℕ) (x : TyId) → slice_get tys n ≡ Some x → IsReady u.items x) →
    Gives u
    (ArePartsAfter inside tys earlier u.next_node) (check inside tys u)) → Gives s (IsAfter e ty earlier s.next_node)
    (rules.of_target at e ty t (λ inside tys. check inside tys >>= (λ ps. pure (
      rules.fields_from 0 ps.0,
      ps.1,
      counted tys,
      true,
    ))) s)
in_order_sound at e ty t earlier s counted check ready target good =
    of_target_sound at e ty t (λ inside tys. check inside tys >>= (λ ps. pure (
      rules.fields_from 0 ps.0,
      ps.1,
      counted tys,
      true,
    ))) earlier s ready target λ u g all at_.
    bind (good (rules.inside_of u.items ty e) (rules.fields_of u.items t) u (fields_ready u.items all t)) λ b v h d.
    given _ λ
    all_v w l. parts_as_fields (rules.inside_of u.items ty e) (rules.fields_of u.items t) earlier u.next_node w b
    (counted
    (rules.fields_of u.items t)) (d w l)

by_name_sound : (at : Pos) (e : PatternContext) (ty : TyId) (t : rules.PatternTarget) (earlier : List NamedEntry) (s : TypingState) (more :
    List TyId →
    Given → Bool) (check : PatternContext → Check (Fields × List NamedEntry × Given)) → IsReady s.items ty → IsTarget s.items t →
    ((inside :
    PatternContext) (u : TypingState) → ((k : ℕ) (x : TyId) → slice_get (option_map_or (λ (v : Variant). v) (variant_at s.items
    t.adt
    t.variant) rules.no_variant).fields k ≡ Some x → IsReady u.items x) → Gives u (AreNamedAfter inside (option_map_or
    (λ (v :
    Variant). v) (variant_at s.items t.adt t.variant) rules.no_variant).fields earlier u.next_node) (check inside u))
    → Gives s
    (IsAfter e ty earlier s.next_node) (rules.of_target at e ty t (λ inside tys. check inside >>= (λ ps. pure (
      ps.0,
      ps.1,
      rules.are_given_once ps.2 && more tys ps.2,
      are_known ps.2,
    ))) s)
by_name_sound at e ty t earlier s more check ready target good =
    of_target_sound at e ty t (λ inside tys. check inside >>= (λ ps. pure (
      ps.0,
      ps.1,
      rules.are_given_once ps.2 && more tys
          ps.2,
      are_known ps.2,
    ))) earlier s ready target λ u g all at_.
    bind (good (rules.inside_of u.items ty e) u (λ k part h. fields_ready u.items all t k part (ap (λ xs. slice_get xs
    k) (sym
    (variant_fields g.items t)) ∙ h))) λ b v h d. given _ λ all_v w l.
    named_as_fields (rules.inside_of u.items ty e) (option_map_or (λ (x : Variant). x) (variant_at s.items t.adt
    t.variant)
    rules.no_variant).fields (rules.fields_of u.items t) earlier u.next_node w b (more (rules.fields_of u.items t) b.2)
    (are_known b.2) (variant_fields g.items t) (d w l)

-- ---- the recursion

mutual
  pub pattern_sound : (env : Env) (e : PatternContext) (ty : TyId) (p : Syn) (earlier : List NamedEntry) (s : TypingState) → IsReady
      s.items ty →
      Gives s (IsAfter e ty earlier s.next_node) (rules.pattern env e ty p earlier s)
  pattern_sound env e ty (syn at (APattern p)) earlier s ready = form_sound env e ty at p earlier s ready
  pattern_sound env e ty (syn at _) earlier s ready = gives_nothing Rule.T20 at

  form_sound : (env : Env) (e : PatternContext) (ty : TyId) (at : Pos) (form : Pattern) (earlier : List NamedEntry) (s : TypingState) →
      IsReady
      s.items ty → Gives s (IsAfter e ty earlier s.next_node) (rules.pattern_form env e ty at form earlier s)
  form_sound env e ty at AnyPattern earlier s = λ ready. wildcard_sound at e ty earlier s
  form_sound env e ty at (BindPattern name) earlier s = λ ready. lone_name_sound env at e ty name earlier s ready
  form_sound env e ty at (LiteralPattern is_negative value suffix) earlier s = λ ready.
      bind (literal_pattern_sound at e ty is_negative value suffix earlier s) λ n t g d. given _ λ all w l. d w l
  form_sound env e ty at (TruthPattern value) earlier s = λ ready.
      bind (truth_pattern_sound at e ty value earlier s) λ n t g d. given _ λ all w l. d w l
  form_sound env e ty at (PathPattern first second) earlier s = λ ready. path_sound env at e ty first second earlier s
      ready
  form_sound env e ty at (PartsPattern first second parts dots) earlier s = λ ready.
      found Rule.T01 at (rules.target_of s.items env first second) _ λ t is.
      in_order_sound at e ty t earlier s (λ tys. rules.is_count dots (rules.count_of parts) (length tys) &&
      rules.are_ordered env t dots) (λ inside tys. rules.part_patterns env inside tys parts earlier) ready (target_is
      s.items env first second t is) (λ inside tys u types. parts_sound env inside tys parts
      earlier u
      types)
  form_sound env e ty at (FieldsPattern first second fields dots) earlier s = λ ready.
      found Rule.T01 at (rules.target_of s.items env first second) _ λ t is.
      by_name_sound at e ty t earlier s (λ tys given_. dots || rules.are_all_given (length tys) given_) (λ inside.
      rules.field_patterns env
      inside (option_map_or (λ (v : Variant). v) (variant_at s.items t.adt t.variant) rules.no_variant) fields
      earlier) ready
      (target_is s.items env first second t is) (λ inside u types. fields_sound env inside (option_map_or (λ (v :
      Variant). v)
      (variant_at s.items t.adt t.variant) rules.no_variant) fields earlier u types)
  form_sound env e ty at (ParensPattern inside) earlier s = λ ready. pattern_sound env e ty inside earlier s ready
  form_sound env e ty at (TuplePattern parts dots) earlier s = λ ready.
      with_ready λ all. after_number (found Rule.T03 at (rules.tuple_types s.items ty (rules.count_of parts) dots) _
      λ tys of.
      let is = as_tuple s.items ty (rules.count_of parts) dots tys of in
      bind (parts_sound env e tys parts earlier (numbered s) (parts_ready s.items all ty tys is)) λ b t g d.
      obeyed Rule.T04 at (rules.is_count dots (rules.count_of parts) (length tys)) _ λ counted.
      given _ λ ready_t w l.
      record {
        holds = λ place for.
            same_self ty.0 ⋆ refl ⋆ subst (λ o. Holds (some o (λ ts. well.part_patterns w.items place ts b.0))) (sym
            (tuple_later (grows_trans g l).items ty tys ready is)) ((d w l).holds place for);
        binds = under earlier s.next_node (suc s.next_node) (nodes_among b.0) _ w b.1 (omega arith) refl refl (d w
            l).binds;
      })
  form_sound env e ty at (ArrayPattern elements dots) earlier s = λ ready.
      with_ready λ all. after_number (found Rule.T03 at (array_of s.items ty) _ λ a is.
      bind (parts_sound env e (replicate a.1 a.0) elements earlier (numbered s) (elements_ready s.items all ty a is))
      λ b t g d.
      obeyed Rule.T04 at (rules.is_count dots (rules.count_of elements) a.1) _ λ counted.
      given _ λ ready_t w l.
      record {
        holds = λ place for.
            same_self ty.0 ⋆ refl ⋆ subst (λ o. Holds (some o (λ (x : TyId × ℕ). well.part_patterns w.items place
            (replicate x.1
            x.0) b.0))) (sym (in_later (grows_trans g l).items array_in ty a is)) ((d w l).holds place for);
        binds = under earlier s.next_node (suc s.next_node) (nodes_among b.0) _ w b.1 (omega arith) refl refl (d w
            l).binds;
      })
  form_sound env e ty at (Alternatives patterns) earlier s = λ ready.
      after_number (obeyed Rule.T20 at (nat_lt 1 (rules.count_of patterns)) _ λ many.
      bind (each_sound env e ty patterns earlier (numbered s) ready) λ b t g d.
      obeyed Rule.T18 at (not (rules.has_names earlier b.1)) _ λ no_names.
      given _ λ ready_t w l.
      let is = d w l in
      let none = none_new earlier is.binds.new_ b.1 is.binds.is (not_not _ no_names) in
      record {
        holds = λ place for.
            same_self ty.0 ⋆ subst (λ ns. IsTrue (well.has_no_names ns)) (sym (is.binds.names ∙ ap (λ (xs : List
            NamedEntry). map (λ
            (x : NamedEntry). x.name) xs) none)) refl ⋆ subst (λ n. IsTrue (nat_lt 1 n)) (sym is.counted) many ⋆ is.holds
            place for;
        binds = under earlier s.next_node (suc s.next_node) (nodes_among b.0) _ w b.1 (omega arith) refl refl is.binds;
      })

  parts_sound : (env : Env) (e : PatternContext) (tys : List TyId) (parts : Syns) (earlier : List NamedEntry) (s : TypingState) → ((n :
      ℕ) (t :
      TyId) → slice_get tys n ≡ Some t → IsReady s.items t) → Gives s (ArePartsAfter e tys earlier s.next_node)
      (rules.part_patterns env e tys parts earlier s)
  parts_sound env e tys no_syn earlier s ready =
      given _ λ all w l. record {
        holds = λ place for. refl;
        binds = binds_none earlier s.next_node [] w l.numbers
            refl refl;
      }
  parts_sound env e [] (a_syn first rest) earlier s ready =
      given _ λ all w l. record {
        holds = λ place for. refl;
        binds = binds_none earlier s.next_node [] w l.numbers
            refl refl;
      }
  parts_sound env e (ty ∷ tys) (a_syn first rest) earlier s ready =
      bind (pattern_sound env e ty first earlier s (ready 0 ty refl)) λ p t g d.
      bind (parts_sound env e tys rest p.1 t (λ n u is. ready_later g.items u (ready (suc n) u is))) λ ps u h f.
      given _ λ all w l.
      record {
        holds = λ place for. ((d w (grows_trans h l)).holds place for, (f w l).holds place for);
        binds = binds_join earlier p.1 ps.1 s.next_node (nodes_of p.0) (nodes_among ps.0) t w (d t (grows_refl
            t)).binds (d w
            (grows_trans h l)).binds (f w l).binds;
      }

  each_sound : (env : Env) (e : PatternContext) (ty : TyId) (patterns : Syns) (earlier : List NamedEntry) (s : TypingState) → IsReady
      s.items ty →
      Gives s (AreEachAfter e ty earlier s.next_node (rules.count_of patterns)) (rules.each_pattern env e ty patterns
      earlier s)
  each_sound env e ty no_syn earlier s ready =
      given _ λ all w l. record {
        holds = λ place for. refl;
        binds = binds_none earlier s.next_node [] w l.numbers refl refl;
        counted = refl;
      }
  each_sound env e ty (a_syn first rest) earlier s ready =
      bind (pattern_sound env e ty first earlier s ready) λ p t g d.
      bind (each_sound env e ty rest p.1 t (ready_later g.items ty ready)) λ ps u h f.
      given _ λ all w l.
      record {
        holds = λ place for. ((d w (grows_trans h l)).holds place for, (f w l).holds place for);
        binds = binds_join earlier p.1 ps.1 s.next_node (nodes_of p.0) (nodes_among ps.0) t w (d t (grows_refl
            t)).binds (d w
            (grows_trans h l)).binds (f w l).binds;
        counted = ap suc (f w l).counted;
      }

  fields_sound : (env : Env) (e : PatternContext) (v : Variant) (fields : Syns) (earlier : List NamedEntry) (s : TypingState) → ((k :
      ℕ) (t :
      TyId) → slice_get v.fields k ≡ Some t → IsReady s.items t) → Gives s (AreNamedAfter e v.fields earlier
      s.next_node)
      (rules.field_patterns env e v fields earlier s)
  fields_sound env e v no_syn earlier s ready =
      given _ λ all w l. record {
        holds = λ place for ty variant at. refl;
        numbers = refl;
        binds = binds_none earlier s.next_node []
            w l.numbers refl refl;
      }
  fields_sound env e v (a_syn first rest) earlier s ready =
      bind (field_sound env e v first earlier s ready) λ p t g d.
      bind (fields_sound env e v rest p.1 t (λ k u is. ready_later g.items u (ready k u is))) λ ps u h f.
      given _ λ all w l.
      let dw = d w (grows_trans h l) in
      record {
        holds = λ place for ty variant at. dw.holds place for ty variant at ps.0 ((f w l).holds place for ty variant
            at);
        numbers = with_numbers p.0 p.2 ps.0 ps.2 dw.numbers (f w l).numbers;
        binds = under earlier s.next_node s.next_node (nodes_in_field p.0 ++ nodes_of_fields ps.0) _ w ps.1 (omega
            arith) (ap
            (filter_map binding_entry) (with_nodes p.0 ps.0)) (ap (filter_map binding_name) (with_nodes p.0 ps.0))
            (binds_join
            earlier p.1 ps.1 s.next_node (nodes_in_field p.0) (nodes_of_fields ps.0) t w (d t (grows_refl t)).binds
            dw.binds (f w
            l).binds);
      }

  field_sound : (env : Env) (e : PatternContext) (v : Variant) (field : Syn) (earlier : List NamedEntry) (s : TypingState) → ((k : ℕ)
      (t : TyId)
      → slice_get v.fields k ≡ Some t → IsReady s.items t) → Gives s (IsFieldAfter e v.fields earlier s.next_node)
      (rules.field_pattern env e v field earlier s)
  field_sound env e v (syn at (AFieldPattern name nothing)) earlier s = λ ready.
      field_by_sound e v name earlier (λ ty. rules.lone_name env at e ty name earlier) s (λ k t is. lone_name_sound env
      at e t
      name earlier s (ready k t is))
  field_sound env e v (syn at (AFieldPattern name (just inside))) earlier s = λ ready.
      field_by_sound e v name earlier (λ ty. rules.pattern env e ty inside earlier) s (λ k t is. pattern_sound env e t
      inside
      earlier s (ready k t is))
  field_sound env e v (syn at _) earlier s = λ ready. gives_nothing Rule.T20 at

-- a whole pattern
pub matcher_sound : (env : Env) (p : Syn) → SoundMatcher (λ e ty. rules.pattern env e ty p [])
matcher_sound env p e ty s ready =
    weaker (IsPattern e ty s.next_node) (pattern_sound env e ty p [] s ready) λ b w all g is.
    let same : b.1 ≡ is.binds.new_ = is.binds.is in
    record {
      holds = λ place takes moves. is.holds place (takes, moves);
      names = subst (λ ns. IsTrue (are_distinct ns)) (sym (is.binds.names ∙ ap (λ (xs : List NamedEntry). map (λ (x :
          NamedEntry). x.name)
          xs) (sym same))) (is.binds.distinct refl);
      entries = is.binds.entries ∙ ap (are_bound false) (sym same);
      fresh = subst (λ xs. AreFresh s.next_node xs w.next_node) (sym same) is.binds.fresh;
      types = subst (AreReadyTypes w.items) (sym same) is.binds.types;
    }
