-- Patterns.
use Rattle.std.proofs.Common.{◌≡◌, ℕ, zero, suc, ◌≤◌, ◌+◌, Bool, true, false, ◌&&◌, ◌||◌, ◌==◌, not, nat_lt, nat_le, if◌then◌else◌, List, [], ◌∷◌, ◌++◌, length, slice_get, replicate, Option, Some, None, IsTrue, ◌⊎◌, inl, inr, refl, ap, sym, subst, ◌∙◌, arith}
use Rattle.std.specs.Prelude.{option_and_then, is_some}
use Rattle.std.specs.List.{filter_map}
use Rattle.std.specs.Option.{option_map_or}
use Rattle.std.proofs.lemmas.Bool.{eqb-true, true≢false}
use Rattle.std.proofs.lemmas.Option.{none-some, same_Some}
use Rattle.mir_base.specs.declared.int_kind.IntKind.{IntKind}
use Rattle.mir_base.specs.declared.place_in_text.Pos.{Pos}
use Rattle.mir_base.specs.declared.rule.Rule.{Rule}
use Rattle.mir_ty.specs.declared.adt.Adt.{Adt}
use Rattle.mir_ty.specs.declared.adt.Variant.{Variant}
use Rattle.mir_ty.specs.declared.ty.Ty.{Ty}
use Rattle.mir_ty.specs.declared.ty.TyId.{TyId}
use Rattle.mir_ty.specs.Facts.{is_copy, has_drop_impl}
use Rattle.mir_ty.specs.ItemTable.{ItemTable, type_at}
use Rattle.mir_ty.specs.Parts.{field_ty, parts_of}
use Rattle.mir_ty.proofs.ListLemmas.{Contains-slice_get}
use Rattle.typed_tree.specs.declared.node.Use.{Use}
use Rattle.typed_tree.specs.Nodes.{nodes_of, nodes_among, nodes_of_fields}
use Rattle.typed_tree.specs.Tree as tree
use Rattle.typed_tree.specs.Tree.{Node, node, Form, Nodes, no_node, a_node, Fields, no_field, a_field}
use Rattle.well_typed.specs.Claim.{Holds, some, fact, both}
use Rattle.well_typed.specs.Names.{are_distinct_numbers}
use Rattle.well_typed.specs.Patterns as well
use Rattle.well_typed.specs.Patterns.{Matched, pattern, binding_name, binding_entry, field_numbers, count_of}
use Rattle.well_typed.specs.Places.{is_by}
use Rattle.well_typed.specs.Types.{is_same, is_bool, is_bool_ty, is_dyn, is_unit, is_enum, kind_of, kind_in, is_within, adt_of, adt_in, variant_at, tuple_of, tuple_in, array_of, array_in}
use Rattle.well_typed.proofs.ClaimLemmas.{and_true, true_right}
use Rattle.typing_rules.specs.Check.{Check, TypingState, ◌>>=◌, pure, number}
use Rattle.typing_rules.specs.Patterns as rules
use Rattle.typing_rules.specs.Places.{a_node_of}
use Rattle.typing_rules.specs.Promises.{Extends, IsReady, AreReady, Grows, Gives}
use Rattle.typing_rules.specs.Rows.{PatternContext, most, is_signed_kind, literal_value}
use Rattle.typing_rules.specs.Scope.{NamedEntry, Local, variable}
use Rattle.src_ast.specs.Syntax.{Word}
use Rattle.typing_rules.proofs.Sound.Bindings.{Binds, binds_none, binds_from, binds_one}
use Rattle.typing_rules.proofs.Sound.Fitted.{or_right, same_self}
use Rattle.typing_rules.proofs.Sound.Gives.{◌⋆◌, bind, with_ready, given, obeyed, found, after_number, numbered, grows_trans, grows_refl, grows_number}
use Rattle.typing_rules.proofs.Sound.Interned.{interned_sound}
use Rattle.typing_rules.proofs.Sound.Later.{same_is, type_later, ready_later, alone_ready, in_later, is_later, same_copy, same_dyn, same_drop_impl, some_got}
use Rattle.typing_rules.proofs.Sound.Literals.{within}
use Rattle.typing_rules.proofs.Sound.Named.{adt_made, adt_fields}
use Rattle.typing_rules.proofs.Sound.Operators.{same_id}
use Rattle.typing_rules.proofs.Sound.Parts.{field_later}
use Rattle.typing_rules.proofs.Sound.Places.{or_false}

-- a place for which a pattern was checked
abbrev pub IsFor : PatternContext → Matched → Type 0
IsFor e place = (place.takes_all ≡ e.takes_all) × (IsTrue (not e.is_fixed) → IsTrue place.may_move)

-- a pattern for a place of a type, after earlier names
pub record IsAfter (e : PatternContext) (ty : TyId) (earlier : List NamedEntry) (n : ℕ) (w : TypingState) (b : Node × List NamedEntry) :
    Type 0
  where
    pub holds : (place : Matched) → IsFor e place → Holds (pattern w.items place ty b.0)
    pub binds : Binds earlier n (nodes_of b.0) w b.1

-- a pattern without names
plain_after : (e : PatternContext) (ty : TyId) (earlier : List NamedEntry) (id : ℕ) (at : Pos) (by : Option Use) (form : Form) (n
    : ℕ) (w
    : TypingState) → n ≤ w.next_node → filter_map binding_entry (nodes_of (node id at ty by form)) ≡ [] → filter_map
    binding_name
    (nodes_of (node id at ty by form)) ≡ [] → ((place : Matched) → IsFor e place → Holds (well.pattern_row w.items
    place ty by
    form)) → IsAfter e ty earlier n w (node id at ty by form, earlier)
plain_after e ty earlier id at by form n w le entries names holds =
    record {
      holds = λ place for. (same_self ty.0, holds place for);
      binds = binds_none earlier n (nodes_of (node id at ty by form)) w le entries names;
    }

pub wildcard_sound : (at : Pos) (e : PatternContext) (ty : TyId) (earlier : List NamedEntry) (s : TypingState) → Gives s (IsAfter e ty
    earlier
    s.next_node) ((number >>= (λ id. pure (a_node_of id at ty tree.Wildcard, earlier))) s)
wildcard_sound at e ty earlier s =
    after_number (given _ λ ready w g. plain_after e ty earlier s.next_node at None tree.Wildcard s.next_node w (omega (
      arith,
      g.numbers,
    )) refl refl (λ place for. refl))

not_all : (e : PatternContext) (place : Matched) → IsFor e place → IsTrue (not e.takes_all) → IsTrue (is_by Use.Test (Some
    Use.Test)
    && not place.takes_all)
not_all e place for h = subst (λ b. IsTrue (not b)) (sym for.0) h

pub literal_pattern_sound : (at : Pos) (e : PatternContext) (ty : TyId) (is_negative : Bool) (value : ℕ) (suffix : Option
    IntKind)
    (earlier : List NamedEntry) (s : TypingState) → Gives s (λ w n. IsAfter e ty earlier s.next_node w (n, earlier))
    (rules.literal_pattern
    at e ty is_negative value suffix s)
literal_pattern_sound at e ty is_negative value suffix earlier s =
    after_number (found Rule.T03 at (kind_of s.items ty) _ λ kind known.
    obeyed Rule.T03 at (rules.agrees_kind suffix ty && (not is_negative || is_signed_kind kind)) _ λ agrees_.
    obeyed Rule.T17 at (nat_le value (most kind is_negative)) _ λ few.
    obeyed Rule.T18 at (not e.takes_all) _ λ not_all_.
    given _ λ ready w g. plain_after e ty earlier s.next_node at (Some Use.Test) (tree.NumberPattern (literal_value
    is_negative
    value)) s.next_node w (omega (arith, g.numbers)) refl refl (λ place for.
    not_all e place for not_all_ ⋆ subst (λ o. IsTrue (option_map_or (is_within (literal_value is_negative value)) o
    false))
    (sym (in_later g.items kind_in ty kind known)) (within kind is_negative value (true_right (rules.agrees_kind
    suffix ty) _
    agrees_) few)))

pub truth_pattern_sound : (at : Pos) (e : PatternContext) (ty : TyId) (value : Bool) (earlier : List NamedEntry) (s : TypingState) →
    Gives s (λ w
    n. IsAfter e ty earlier s.next_node w (n, earlier)) (rules.truth_pattern at e ty value s)
truth_pattern_sound at e ty value earlier s =
    after_number (obeyed Rule.T03 at (is_bool s.items ty) _ λ is.
    obeyed Rule.T18 at (not e.takes_all) _ λ not_all_.
    given _ λ ready w g. plain_after e ty earlier s.next_node at (Some Use.Test) (tree.TruthPattern value) s.next_node
    w (omega
    (arith, g.numbers)) refl refl (λ place for. not_all e place for not_all_ ⋆ is_later g.items is_bool_ty ty is))

-- ---- names

copies_by : (b : Bool) → IsTrue (is_by (if b then Use.Copy else Use.Move) (Some (if b then Use.Copy else Use.Move)))
copies_by true = refl
copies_by false = refl

may_bind : (copies copies_later fixed dyn dyn_later may : Bool) → copies_later ≡ copies → dyn_later ≡ dyn → (IsTrue
    (not fixed)
    → IsTrue may) → IsTrue (copies || not (fixed || dyn)) → IsTrue (copies_later || (may && not dyn_later))
may_bind true copies_later fixed dyn dyn_later may same_c same_d moves h =
    subst (λ b. IsTrue (b || (may && not dyn_later))) (sym same_c) refl
may_bind false copies_later fixed dyn dyn_later may same_c same_d moves h =
    let so = or_false fixed dyn h in
    or_right copies_later _ (and_true may (not dyn_later) (moves so.0) (subst (λ b. IsTrue (not b)) (sym same_d) so.1))

pub bind_sound : (at : Pos) (e : PatternContext) (ty : TyId) (name : Word) (earlier : List NamedEntry) (s : TypingState) → IsReady
    s.items ty →
    Gives s (IsAfter e ty earlier s.next_node) (rules.bind at e ty name earlier s)
bind_sound at e ty name earlier s ready =
    with_ready λ all. after_number (obeyed Rule.T02 at (not (is_some (variable earlier name))) _ λ new_name.
    obeyed Rule.T07 at (is_copy s.items ty || not (e.is_fixed || is_dyn s.items ty)) _ λ moves.
    given _ λ all_ w g.
    let copy = same_copy g.items all ty ready in
    record {
      holds = λ place for.
          same_self ty.0 ⋆
          subst (λ b. IsTrue (is_by (if b then Use.Copy else Use.Move) (Some (if is_copy s.items ty then Use.Copy else
          Use.Move)))) (sym copy) (copies_by (is_copy s.items ty)) ⋆
          may_bind (is_copy s.items ty) (is_copy w.items ty) e.is_fixed (is_dyn s.items ty) (is_dyn w.items ty)
          place.may_move
          copy (same_dyn g.items ty ready) for.1 moves;
      binds = binds_one earlier s.next_node _ w (record { name = name; ty = ty; meaning = Local s.next_node })
          s.next_node refl
          (omega arith) (omega (arith, g.numbers)) (ready_later g.items ty ready) refl refl new_name;
    })

-- ---- parts

-- patterns of parts in their order, and patterns of one type, after earlier names
pub record ArePartsAfter (e : PatternContext) (tys : List TyId) (earlier : List NamedEntry) (n : ℕ) (w : TypingState) (b : Nodes × List
    NamedEntry) :
    Type 0 where
  pub holds : (place : Matched) → IsFor e place → Holds (well.part_patterns w.items place tys b.0)
  pub binds : Binds earlier n (nodes_among b.0) w b.1

pub record AreEachAfter (e : PatternContext) (ty : TyId) (earlier : List NamedEntry) (n count : ℕ) (w : TypingState) (b : Nodes × List
    NamedEntry) :
    Type 0 where
  pub holds : (place : Matched) → IsFor e place → Holds (well.each_pattern w.items place ty b.0)
  pub binds : Binds earlier n (nodes_among b.0) w b.1
  pub counted : count_of b.0 ≡ count

pub under : (earlier : List NamedEntry) (n m : ℕ) (inside outside : List Node) (w : TypingState) (out : List NamedEntry) → n ≤ m →
    filter_map
    binding_entry outside ≡ filter_map binding_entry inside → filter_map binding_name outside ≡ filter_map
    binding_name inside
    → Binds earlier m inside w out → Binds earlier n outside w out
under earlier n m inside outside w out le entries names b =
    let c = binds_from earlier n m inside w out le b in
    record {
      new_ = c.new_;
      is = c.is;
      entries = entries ∙ c.entries;
      names = names ∙ c.names;
      distinct = c.distinct;
      fresh = c.fresh;
      types = c.types;
    }

-- what has so many parts is a tuple, or `()`
pub as_tuple : (items : ItemTable) (ty : TyId) (count : ℕ) (dots : Bool) (tys : List TyId) → rules.tuple_types items ty
    count dots ≡ Some tys → well.tuple_types items ty ≡ Some tys
as_tuple items ty count dots tys h = by (is_unit items ty) h
  where
    only : (b : Bool) (some_tys : List TyId) → rules.types_if b some_tys ≡ Some tys → Some some_tys ≡ Some tys
    only true some_tys h = h
    only false some_tys h = absurd (none-some tys h)

    other : (o : Option (List TyId)) → option_and_then (rules.types_if (dots || not (count == 0))) o ≡ Some tys → o ≡
        Some tys
    other None h = absurd (none-some tys h)
    other (Some some_tys) h = only (dots || not (count == 0)) some_tys h

    by : (b : Bool) → (if b then rules.types_if (count == 0) [] else option_and_then (rules.types_if (dots || not
        (count == 0))) (tuple_of items ty)) ≡ Some tys → (if b then Some [] else tuple_of items ty) ≡ Some tys
    by true h = only (count == 0) [] h
    by false h = other (tuple_of items ty) h

pub tuple_later : {old new : ItemTable} → Extends old new → (ty : TyId) (tys : List TyId) → IsReady old ty →
    well.tuple_types old
    ty ≡ Some tys → well.tuple_types new ty ≡ Some tys
tuple_later {old} {new} e ty tys ready h = by (is_unit old ty) (is_unit new ty) (same_is e _ ty ready) h
  where
    by : (b c : Bool) → c ≡ b → (if b then Some [] else tuple_of old ty) ≡ Some tys → (if c then Some [] else tuple_of
        new ty)
        ≡ Some tys
    by true c same h = subst (λ x. (if x then Some [] else tuple_of new ty) ≡ Some tys) (sym same) h
    by false c same h =
        subst (λ x. (if x then Some [] else tuple_of new ty) ≡ Some tys) (sym same) (in_later e tuple_in ty tys h)

pub parts_ready : (items : ItemTable) → AreReady items → (ty : TyId) (tys : List TyId) → well.tuple_types items ty ≡
    Some tys → (n
    : ℕ) (t : TyId) → slice_get tys n ≡ Some t → IsReady items t
parts_ready items all ty tys h n t is = by (is_unit items ty) h
  where
    parts : (u : Ty) → type_at items ty ≡ Some u → tuple_in u ≡ Some tys → IsReady items t
    parts (Ty.Tuple others) at h =
        alone_ready items t (all.held ty t (Ty.Tuple others) at (Contains-slice_get others n t (ap (λ xs. slice_get xs
        n)
        (same_Some others tys h) ∙ is)))
    parts _ at h = absurd (none-some tys h)

    by : (b : Bool) → (if b then Some [] else tuple_of items ty) ≡ Some tys → IsReady items t
    by true h = absurd (none-some t (ap (λ xs. slice_get xs n) (same_Some [] tys h) ∙ is))
    by false h = let known = some_got tuple_in (type_at items ty) tys h in parts known.0 known.1 known.2

pub elements_ready : (items : ItemTable) → AreReady items → (ty : TyId) (a : TyId × ℕ) → array_of items ty ≡ Some a →
    (n : ℕ) (t :
    TyId) → slice_get (replicate a.1 a.0) n ≡ Some t → IsReady items t
elements_ready items all ty a h n t is =
    let known = some_got array_in (type_at items ty) a h in at known.0 known.1 known.2
  where
    same : (count n : ℕ) (x : TyId) → slice_get (replicate count x) n ≡ Some t → x ≡ t
    same zero n x h = absurd (none-some t h)
    same (suc count) zero x h = same_Some x t h
    same (suc count) (suc n) x h = same count n x h

    at : (u : Ty) → type_at items ty ≡ Some u → array_in u ≡ Some a → IsReady items t
    at (Ty.Array element count) at_ h =
        let e = same_Some (element, count) a h in
        alone_ready items t (all.held ty t (Ty.Array element count) at_ (
          0,
          omega arith,
          ap (λ (x : TyId × ℕ). x.0) e ∙ same
              a.1 n a.0 is,
        ))
    at _ at_ h = absurd (none-some a h)

-- as many names behind as before: none in between
pub none_new : (earlier new_ out : List NamedEntry) → out ≡ earlier ++ new_ → IsTrue (length earlier == length out) → new_
    ≡ []
none_new earlier new_ out is h = by new_ (eqb-true (length earlier) (length out) h ∙ (ap length is ∙ joined earlier
    new_))
  where
    joined : (xs ys : List NamedEntry) → length (xs ++ ys) ≡ length xs + length ys
    joined [] ys = omega arith
    joined (x ∷ xs) ys = let on = joined xs ys in omega (arith, on)

    by : (ys : List NamedEntry) → length earlier ≡ length earlier + length ys → ys ≡ []
    by [] e = refl
    by (y ∷ ys) e = absurd (omega (arith, e))

pub not_not : (b : Bool) → IsTrue (not (not b)) → IsTrue b
not_not true h = refl
not_not false h = h

-- ---- structs and variants

abbrev pub IsTarget : ItemTable → rules.PatternTarget → Type 0
IsTarget items t =
    ((is_enum items t.adt ≡ true) × IsTrue (nat_lt t.variant (well.variant_count items t.adt))) ⊎ ((is_enum items
    t.adt ≡
    false) × (t.variant ≡ 0))

-- patterns of fields after earlier names, and whether they are numbered apart
pub record AreFieldsAfter (e : PatternContext) (tys : List TyId) (earlier : List NamedEntry) (n : ℕ) (w : TypingState) (b : Fields ×
    List NamedEntry
    × Bool × Bool) : Type 0 where
  pub holds : (place : Matched) → IsFor e place → (ty : TyId) (variant : ℕ) → ((k : ℕ) (part : TyId) → slice_get tys k
      ≡ Some
      part → field_ty w.items ty variant k ≡ Some part) → Holds (well.field_patterns w.items place ty variant b.0)
  pub distinct : IsTrue b.2 → IsTrue b.3 → IsTrue (are_distinct_numbers (field_numbers b.0))
  pub binds : Binds earlier n (nodes_of_fields b.0) w b.1

pub enum_later : {old new : ItemTable} → Extends old new → (adt : ℕ) → is_enum new adt ≡ is_enum old adt
enum_later e adt =
    ap (λ adts. option_map_or (λ (def : Adt). def.is_enum) (slice_get adts adt) false) e.adts

count_later : {old new : ItemTable} → Extends old new → (adt : ℕ) → well.variant_count new adt ≡ rules.variants_of old
    adt
count_later e adt = ap (λ adts. option_map_or (λ (def : Adt). length def.variants) (slice_get adts adt) 0) e.adts

-- the fields that were asked for are those of the type
target_fields : (items : ItemTable) (ty : TyId) (t : rules.PatternTarget) → type_at items ty ≡ Some (Ty.Adt t.adt) → (k : ℕ)
    (part :
    TyId) → slice_get (rules.fields_of items t) k ≡ Some part → field_ty items ty t.variant k ≡ Some part
target_fields items ty t at k part h =
    ap (option_and_then (λ u. slice_get (parts_of items u t.variant) k)) at ∙ by (variant_at items t.adt t.variant)
    refl h
  where
    by : (o : Option Variant) → variant_at items t.adt t.variant ≡ o → slice_get (option_map_or (λ (v : Variant).
        v.fields) o
        []) k ≡ Some part → slice_get (parts_of items (Ty.Adt t.adt) t.variant) k ≡ Some part
    by None is h = absurd (none-some part h)
    by (Some v) is h = ap (λ tys. slice_get tys k) (adt_fields items t.adt t.variant v is) ∙ h

within_for : (e : PatternContext) (place : Matched) (drops drops_later : Bool) → drops_later ≡ drops → IsFor e place → IsFor
    (record e
    { is_fixed = e.is_fixed || drops }) (well.within drops_later place)
within_for e place drops drops_later same for = (
  for.0,
  λ h. let so = or_false e.is_fixed drops h in and_true (not drops_later) place.may_move (subst (λ b. IsTrue (not b))
      (sym same) so.1) (for.1 so.0),
)

true_same : (b : Bool) → IsTrue (if b then b else not b)
true_same true = refl
true_same false = refl

abbrev target_node : ℕ → Pos → TyId → rules.PatternTarget → Fields → Bool → Bool → Node
target_node id at ty t fields is_enum_ many =
    rules.tested_if (is_enum_ && many) (a_node_of id at ty (if is_enum_ then tree.VariantPattern t.variant (is_enum_
    && many)
    fields else tree.StructPattern fields))

adt_is : (items : ItemTable) (ty : TyId) (n : ℕ) → type_at items ty ≡ Some (Ty.Adt n) → adt_of items ty ≡ Some n
adt_is items ty n at = ap (option_and_then adt_in) at

module _ (e : PatternContext) (ty : TyId) (earlier : List NamedEntry) (id : ℕ) (at : Pos) (t : rules.PatternTarget) (n m : ℕ) (w : TypingState)
    (drops : Bool) (ps : Fields × List NamedEntry × Bool × Bool) (tys : List TyId) where
  struct_after : n ≤ m → type_at w.items ty ≡ Some (Ty.Adt t.adt) → is_enum w.items t.adt ≡ false → t.variant ≡ 0 →
      has_drop_impl w.items ty ≡ drops → ((k : ℕ) (part : TyId) → slice_get tys k ≡ Some part → field_ty w.items ty
      t.variant
      k ≡ Some part) → IsTrue ps.2 → IsTrue ps.3 → AreFieldsAfter (record e { is_fixed = e.is_fixed || drops }) tys
      earlier m
      w ps → (many : Bool) → IsAfter e ty earlier n w (target_node id at ty t ps.0 false many, ps.1)
  struct_after le at_ enum none drop fields two three after many =
      record {
        holds = λ place for.
            same_self ty.0 ⋆ refl ⋆
            subst (λ o. Holds (some o (λ k. fact (not (is_enum w.items k))))) (sym (adt_is w.items ty t.adt at_))
            (subst (λ b.
            IsTrue (not b)) (sym enum) refl) ⋆
            after.distinct two three ⋆
            after.holds (well.within (has_drop_impl w.items ty) place) (within_for e place drops (has_drop_impl
            w.items ty)
            drop for) ty 0 (λ k part is. subst (λ v. field_ty w.items ty v k ≡ Some part) none (fields k part is));
        binds = under earlier n m (nodes_of_fields ps.0) _ w ps.1 le refl refl after.binds;
      }

  variant_after : n ≤ m → type_at w.items ty ≡ Some (Ty.Adt t.adt) → is_enum w.items t.adt ≡ true → IsTrue (nat_lt
      t.variant
      (well.variant_count w.items t.adt)) → has_drop_impl w.items ty ≡ drops → ((k : ℕ) (part : TyId) → slice_get tys
      k ≡ Some
      part → field_ty w.items ty t.variant k ≡ Some part) → IsTrue ps.2 → IsTrue ps.3 → AreFieldsAfter (record e {
        is_fixed =
            e.is_fixed || drops;
      }) tys earlier m w ps → (many : Bool) → nat_lt 1 (well.variant_count w.items t.adt) ≡ many → IsTrue
      (not (e.takes_all && many)) → IsAfter e ty earlier n w (target_node id at ty t ps.0 true many, ps.1)
  variant_after le at_ enum below drop fields two three after many is_many all = by many is_many all
    where
      claim : (many : Bool) → nat_lt 1 (well.variant_count w.items t.adt) ≡ many → Holds (some (adt_of w.items ty) (λ
          k. both
          (fact (is_enum w.items k && nat_lt t.variant (well.variant_count w.items k))) (fact (if many then nat_lt 1
          (well.variant_count w.items k) else not (nat_lt 1 (well.variant_count w.items k))))))
      claim many is =
          subst (λ o. Holds (some o (λ k. both (fact (is_enum w.items k && nat_lt t.variant (well.variant_count
          w.items k)))
          (fact (if many then nat_lt 1 (well.variant_count w.items k) else not (nat_lt 1 (well.variant_count w.items
          k))))))) (sym (adt_is w.items ty t.adt at_)) (and_true _ _ enum below ⋆ subst (λ b. IsTrue (if many then b
          else not
          b)) (sym is) (true_same many))

      rest : (place : Matched) → IsFor e place → Holds (well.field_patterns w.items (well.within (has_drop_impl
          w.items ty)
          place) ty t.variant ps.0)
      rest place for =
          after.holds (well.within (has_drop_impl w.items ty) place) (within_for e place drops (has_drop_impl w.items
          ty) drop
          for) ty t.variant fields

      by : (many : Bool) → nat_lt 1 (well.variant_count w.items t.adt) ≡ many → IsTrue (not (e.takes_all && many)) →
          IsAfter e
          ty earlier n w (target_node id at ty t ps.0 true many, ps.1)
      by true is all =
          record {
            holds = λ place for.
                same_self ty.0 ⋆ not_taking (place.takes_all) (subst (λ b. IsTrue (not (b && true))) (sym for.0) all)
                ⋆ claim
                true is ⋆ after.distinct two three ⋆ rest place for;
            binds = under earlier n m (nodes_of_fields ps.0) _ w ps.1 le refl refl after.binds;
          }
        where
          not_taking : (b : Bool) → IsTrue (not (b && true)) → IsTrue (is_by Use.Test (Some Use.Test) && not (true &&
              b))
          not_taking true h = h
          not_taking false h = refl
      by false is all =
          record {
            holds = λ place for. same_self ty.0 ⋆ refl ⋆ claim false is ⋆ after.distinct two three ⋆ rest place for;
            binds = under earlier n m (nodes_of_fields ps.0) _ w ps.1 le refl refl after.binds;
          }

-- the check of parts that a struct or a variant asks for
abbrev pub SoundFields : PatternContext → TyId → rules.PatternTarget → List NamedEntry → TypingState → (PatternContext → List TyId → Check (Fields ×
    List NamedEntry ×
    Bool × Bool)) → Type 0
SoundFields e ty t earlier s parts = (u : TypingState) → Grows s u → AreReady u.items → type_at u.items ty ≡ Some (Ty.Adt
    t.adt) →
    Gives u (AreFieldsAfter (rules.inside_of u.items ty e) (rules.fields_of u.items t) earlier u.next_node) (parts
    (rules.inside_of u.items ty e) (rules.fields_of u.items t) u)

pub of_target_sound : (at : Pos) (e : PatternContext) (ty : TyId) (t : rules.PatternTarget) (parts : PatternContext → List TyId → Check
    (Fields × List
    NamedEntry × Bool × Bool)) (earlier : List NamedEntry) (s : TypingState) → IsReady s.items ty → IsTarget s.items t → SoundFields e
    ty t
    earlier s parts → Gives s (IsAfter e ty earlier s.next_node) (rules.of_target at e ty t parts s)
of_target_sound at e ty t parts earlier s ready target good =
    with_ready λ all₀. after_number (bind (interned_sound (Ty.Adt t.adt) (numbered s) (adt_made s.items all₀ t.adt)) λ
    self u g
    d.
    obeyed Rule.T03 at (is_same ty self) _ λ same.
    with_ready λ all.
    let at_u = subst (λ x. type_at u.items x ≡ Some (Ty.Adt t.adt)) (sym (same_id ty self same)) (d u (grows_refl u)) in
    let to_u = grows_trans (grows_number s) g in
    bind (good u to_u all at_u) λ ps v h f.
    obeyed Rule.T04 at ps.2 _ λ two.
    obeyed Rule.T12 at ps.3 _ λ three.
    obeyed Rule.T18 at (not (e.takes_all && rules.is_test v.items t)) _ λ all_taken.
    given _ λ ready_v w l.
    let on = grows_trans h l in
    let to_v = grows_trans to_u h in
    by w ps u v (omega (arith, to_u.numbers)) (type_later on.items ty (Ty.Adt t.adt) at_u)
    (same_drop_impl on.items ty (ready_later to_u.items ty ready))
    (λ k part is. field_later on.items ty t.variant k part (target_fields u.items ty t at_u k part is)) two three (f w
    l) (is_enum
    v.items t.adt) refl (enum_later l.items t.adt) (enum_later to_v.items t.adt) (count_later (grows_trans to_v
    l).items t.adt)
    (count_later l.items t.adt) all_taken target)
  where
    by : (w : TypingState) (ps : Fields × List NamedEntry × Bool × Bool) (u v : TypingState) → s.next_node ≤ u.next_node → type_at
        w.items ty ≡
        Some (Ty.Adt t.adt) → has_drop_impl w.items ty ≡ has_drop_impl u.items ty → ((k : ℕ) (part : TyId) → slice_get
        (rules.fields_of u.items t) k ≡ Some part → field_ty w.items ty t.variant k ≡ Some part) → IsTrue ps.2 →
        IsTrue ps.3 →
        AreFieldsAfter (rules.inside_of u.items ty e) (rules.fields_of u.items t) earlier u.next_node w ps → (b :
        Bool) →
        is_enum v.items t.adt ≡ b → is_enum w.items t.adt ≡ is_enum v.items t.adt → is_enum v.items t.adt ≡ is_enum
        s.items
        t.adt → well.variant_count w.items t.adt ≡ rules.variants_of s.items t.adt → well.variant_count w.items t.adt ≡
        rules.variants_of v.items t.adt → IsTrue (not (e.takes_all && (b && nat_lt 1 (rules.variants_of v.items
        t.adt)))) →
        IsTarget s.items t → IsAfter e ty earlier s.next_node w (
          target_node s.next_node at ty t ps.0 b (nat_lt 1
              (rules.variants_of v.items t.adt)),
          ps.1,
        )
    by w ps u v le at_ drop fields two three after true is same_w same_s count_s count_v all (inl target) =
        variant_after e ty earlier s.next_node at t s.next_node u.next_node w (has_drop_impl u.items ty) ps
        (rules.fields_of
        u.items t) le at_ (same_w ∙ is) (subst (λ c. IsTrue (nat_lt t.variant c)) (sym count_s) target.1) drop fields
        two three
        after (nat_lt 1 (rules.variants_of v.items t.adt)) (ap (nat_lt 1) count_v) all
    by w ps u v le at_ drop fields two three after false is same_w same_s count_s count_v all (inr target) =
        struct_after e ty earlier s.next_node at t s.next_node u.next_node w (has_drop_impl u.items ty) ps
        (rules.fields_of
        u.items t) le at_ (same_w ∙ is) target.1 drop fields two three after (nat_lt 1 (rules.variants_of v.items
        t.adt))
    by w ps u v le at_ drop fields two three after true is same_w same_s count_s count_v all (inr target) =
        absurd (true≢false (sym is ∙ (same_s ∙ target.0)))
    by w ps u v le at_ drop fields two three after false is same_w same_s count_s count_v all (inl target) =
        absurd (true≢false (sym target.0 ∙ (sym same_s ∙ is)))
