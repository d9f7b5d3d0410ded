-- Effects of forms are well typed lines: constants, calls, and what is made of parts.
use Rattle.std.proofs.Common.{◌≡◌, inl, inr, ℕ, suc, ◌==◌, ◌&&◌, ◌||◌, not, Bool, true, false, List, [], ◌∷◌, length, map, Option, Some, None, slice_get, ℤ, refl, sym, ap, subst, ◌∙◌}
use Rattle.std.proofs.lemmas.Bool.{eqb-true}
use Rattle.std.proofs.lemmas.Option.{none-some}
use Rattle.std.specs.Prelude.{option_and_then}
use Rattle.cfg_graph.specs.declared.graph.Body.{Body}
use Rattle.std.specs.List.{list_any}
use Rattle.std.specs.Option.{option_map_or}
use Rattle.cfg_graph.specs.WellFormed.TypeFaults.{is_drop_body}
use Rattle.cfg_graph.specs.WellFormed.Typing.{method_at}
use Rattle.mir_base.specs.declared.int_kind.IntKind.{IntKind}
use Rattle.mir_ty.specs.declared.adt.Adt.{Adt}
use Rattle.mir_ty.specs.declared.adt.Variant.{Variant}
use Rattle.mir_ty.specs.declared.def.Sig.{Sig}
use Rattle.mir_ty.specs.declared.ty.Ty.{Ty}
use Rattle.mir_ty.specs.declared.ty.TyId.{TyId}
use Rattle.store_model.specs.Effects as effects
use Rattle.store_model.specs.Effects.{Action, OfVariant}
use Rattle.typed_tree.specs.Tree.{Node, Nodes, no_node, a_node, Fields, no_field, a_field}
use Rattle.src_meaning.specs.Evaluation.{in_number_order}
use Rattle.src_meaning.specs.Forms.{site_in}
use Rattle.src_meaning.specs.Shape.{kind_of}
use Rattle.src_meaning.specs.FieldKeys.{field_keys, moved_fields}
use Rattle.well_typed.specs.Claim.{Holds}
use Rattle.well_typed.specs.Names.{are_distinct_numbers}
use Rattle.mir_ty.specs.DropBodies as of_drops
use Rattle.well_typed.specs.Nodes as typing
use Rattle.well_typed.specs.Patterns as patterns
use Rattle.well_typed.specs.Places.{Context}
use Rattle.well_typed.specs.Types as types
use Rattle.lower_rules.specs.Build as build
use Rattle.lower_rules.specs.Build.{LoweringFrame}
use Rattle.lower_rules.specs.Lower as lower
use Rattle.lower_rules.specs.Lower.{NodeLower}
use Rattle.lower_rules.proofs.KnownTypes.{bool_known, unit_known, never_known, int_known}
use Rattle.lower_rules.proofs.Lines as lines
use Rattle.lower_rules.proofs.TypedLines as typed_lines
use Rattle.lower_laws.proofs.Base as base
use Rattle.lower_laws.proofs.Base.{Ground, untrue, and_first, and_second, found}
use Rattle.lower_laws.proofs.Rules as rules
use Rattle.lower_laws.proofs.Names as names
use Rattle.lower_laws.proofs.Fields as taken_fields
use Rattle.lower_laws.proofs.FormTypes.{adt_is}

module _ (g : Ground) where
  abbrev F : LoweringFrame
  F = base.F g

  abbrev B : Body
  B = base.B g

  abbrev K : Context → Context
  K x = record x { items = g.items }

  abbrev L : Node → NodeLower
  L n = lower.lower F n

  abbrev ActOk : ℕ → Action → Type 0
  ActOk = lines.ActOk F (base.wanted g)

  -- ---- effects
  pub number_made : (ty : TyId) (value : ℤ) → types.is_number_of g.items ty value ≡ true → base.Never g ty → ⊥
  number_made ty value is v = let e = never_known g.items ty v in untrue (rw e at is)

  pub number_put : (id : ℕ) (ty : TyId) (value : ℤ) (key : ℕ) → base.KeyIs g key ty → types.is_number_of g.items ty value ≡ true → ActOk id (effects.Put (site_in id key) (effects.Number value (kind_of g.items ty)))
  number_put id ty value key k is = with_kind (types.kind_of g.items ty) refl is
    where
      with_kind : (o : Option IntKind) → types.kind_of g.items ty ≡ o → option_map_or (types.is_within value) o false ≡ true → ActOk id (effects.Put (site_in id key) (effects.Number value (kind_of g.items ty)))
      with_kind None e h = absurd (untrue h)
      with_kind (Some kind) e h =
          let known = int_known g.items ty kind e in
          let same : kind_of g.items ty ≡ kind = simp (known) in
          subst (λ (z : IntKind). ActOk id (effects.Put (site_in id key) (effects.Number value z))) (sym same) (typed_lines.put_number g.items g.bodies B _ ty value kind (base.key_at g key ty (Ty.Int kind) k known) h, refl)

  pub truth_put : (id : ℕ) (ty : TyId) (truth : Bool) (key : ℕ) → base.KeyIs g key ty → types.is_bool g.items ty ≡ true → ActOk id (effects.Put (site_in id key) (effects.Truth truth))
  truth_put id ty truth key k is = (typed_lines.put_truth g.items g.bodies B _ ty truth (base.key_at g key ty Ty.Bool k (bool_known g.items ty is)), refl)

  pub unit_put_at : (id : ℕ) (ty : TyId) (key : ℕ) → base.KeyIs g key ty → types.is_unit g.items ty ≡ true → ActOk id (effects.Put (site_in id key) effects.UnitValue)
  unit_put_at id ty key k is = (typed_lines.put_unit g.items g.bodies B _ ty (base.key_at g key ty Ty.Unit k (unit_known g.items ty is)), refl)

  -- operands that are moved are of their types
  pub given_moved : (n : ℕ) (ms : List NodeLower) (wants : List TyId) → rules.Given g ms wants → typed_lines.AllMoved g.items g.bodies B (build.operands_of F (lower.all_moved n ms)) wants
  given_moved n [] [] h = tt
  given_moved n [] (id ∷ ids) h = absurd h
  given_moved n (m ∷ ms) [] h = absurd h
  given_moved n (m ∷ ms) (id ∷ ids) h = let t = g.known (g.local_of m.head.id) id h.0.0 in ((t.0, base.key_at g m.head.id id t.0 h.0.0 t.1, t.2), given_moved n ms ids h.1)

  abbrev pub SameTypes : TyId → Nodes → List TyId
  SameTypes ty no_node = []
  SameTypes ty (a_node first rest) = ty ∷ SameTypes ty rest

  pub given_elements : (n : ℕ) (ty : TyId) (elements : Nodes) → rules.Given g (lower.lower_all F elements) (SameTypes ty elements) → typed_lines.AllOf g.items g.bodies B ty (build.operands_of F (lower.all_moved n (lower.lower_all F elements)))
  given_elements n ty no_node h = tt
  given_elements n ty (a_node first rest) h = let t = g.known (g.local_of (L first).head.id) ty h.0.0 in ((t.0, base.key_at g (L first).head.id ty t.0 h.0.0 t.1, t.2), given_elements n ty rest h.1)

  pub count_moved : (n : ℕ) (ns : Nodes) → length (build.operands_of F (lower.all_moved n (lower.lower_all F ns))) ≡ patterns.count_of ns
  count_moved n no_node = refl
  count_moved n (a_node first rest) = ap suc (count_moved n rest)

  -- a body that is called is that of no `Drop` impl
  drop_same : (n : ℕ) → of_drops.is_drop_body g.items n ≡ is_drop_body g.items n
  drop_same n = of_adts g.items.adts
    where
      swapped : (b : ℕ) → (b == n) ≡ (n == b)
      swapped b = elim (names.eq_tells n b) [ inl same ↦ ap (λ (z : ℕ). z == n) (sym same) ∙ ap (λ (z : ℕ). n == z) same | inr other ↦ names.unequal b n (λ e. other (sym e)) ∙ sym (names.unequal n b other) ]

      of_body : (o : Option ℕ) → option_map_or (λ b. b == n) o false ≡ option_map_or (λ b. n == b) o false
      of_body None = refl
      of_body (Some b) = swapped b

      of_adts : (adts : List Adt) → list_any (λ adt. option_map_or (λ b. b == n) adt.drop_body false) adts ≡ list_any (λ adt. option_map_or (λ b. n == b) adt.drop_body false) adts
      of_adts [] = refl
      of_adts (adt ∷ adts) = λ i. of_body adt.drop_body i || of_adts adts i

  pub called : (id callee key : ℕ) (ty : TyId) (sig : Sig) (ms : List NodeLower) → slice_get g.items.bodies callee ≡ Some sig → types.is_same ty sig.result ≡ true → is_drop_body g.items callee ≡ false → rules.Given g ms sig.params → base.KeyIs g key ty → ActOk id (effects.Call (site_in id key) callee (lower.all_moved id ms))
  called id callee key ty sig ms e same no_drop given k n u =
      let t = g.known (g.local_of key) ty k in
      (typed_lines.call_ok g.items g.bodies B _ ty t.0 callee sig _ (base.key_at g key ty t.0 k t.1) t.2 e (sym (eqb-true ty.0 sig.result.0 same)) no_drop (g.callable callee sig e) (given_moved id ms sig.params given) n u, base.moved_well g id (lower.keys_of ms))

  pub not_drop_body : (callee : ℕ) → (not (of_drops.is_drop_body g.items callee) && not (typing.is_closure_body g.items callee)) ≡ true → is_drop_body g.items callee ≡ false
  not_drop_body callee e = sym (drop_same callee) ∙ base.not_true (of_drops.is_drop_body g.items callee) (and_first _ _ e)

  pub called_virtually : (id trait_no method key : ℕ) (ty : TyId) (sig : Sig) (ms : List NodeLower) → method_at g.items trait_no method ≡ Some sig → types.is_same ty sig.result ≡ true → rules.Given g ms sig.params → base.KeyIs g key ty → ActOk id (effects.CallVirtual (site_in id key) trait_no method (lower.all_moved id ms))
  called_virtually id trait_no method key ty sig ms e same given k n u =
      let t = g.known (g.local_of key) ty k in
      (typed_lines.virtual_ok g.items g.bodies B _ ty t.0 trait_no method sig _ (base.key_at g key ty t.0 k t.1) t.2 e (sym (eqb-true ty.0 sig.result.0 same)) (given_moved id ms sig.params given) n u, base.moved_well g id (lower.keys_of ms))

  numbers_same : (fields : Fields) → map (λ f. f.0) (field_keys fields) ≡ patterns.field_numbers fields
  numbers_same no_field = refl
  numbers_same (a_field number value rest) = ap (λ z. number ∷ z) (numbers_same rest)

  count_same : (fields : Fields) → length (field_keys fields) ≡ length (patterns.field_numbers fields)
  count_same no_field = refl
  count_same (a_field number value rest) = ap suc (count_same rest)

  fields_moved : (n : ℕ) (fields : List (ℕ × ℕ)) → base.MovesOk g (build.operands_of F (moved_fields n fields))
  fields_moved n [] = refl
  fields_moved n (field ∷ fields) = fields_moved n fields

  pub made_adt : (id : ℕ) (ty : TyId) (adt variant : ℕ) (fields : Fields) (v : Variant) (key : ℕ) → option_map_or (λ n. n == adt) (types.adt_of g.items ty) false ≡ true → types.variant_at g.items adt variant ≡ Some v →
      (are_distinct_numbers (patterns.field_numbers fields) && length (patterns.field_numbers fields) == length v.fields) ≡ true → base.KeyIs g key ty → taken_fields.OfFields g v.fields (field_keys fields) →
      ActOk id (effects.Build (site_in id key) (OfVariant adt variant) (moved_fields id (in_number_order (field_keys fields))))
  made_adt id ty adt variant fields v key is found_at counts k of = with_adt (slice_get g.items.adts adt) refl found_at
    where
      with_adt : (o : Option Adt) → slice_get g.items.adts adt ≡ o → option_and_then (λ def. slice_get def.variants variant) o ≡ Some v → ActOk id (effects.Build (site_in id key) (OfVariant adt variant) (moved_fields id (in_number_order (field_keys fields))))
      with_adt None e d = absurd (none-some v d)
      with_adt (Some def) e d = (
        typed_lines.adt_made g.items g.bodies B _ ty adt variant def v _ (base.key_at g key ty (Ty.Adt adt) k (adt_is g ty adt is)) e d
            (taken_fields.fields_taken g id (field_keys fields) v.fields
            (taken_fields.distinct_numbers (field_keys fields) (ap are_distinct_numbers (numbers_same fields) ∙ and_first _ _ counts))
            (count_same fields ∙ eqb-true (length (patterns.field_numbers fields)) (length v.fields) (and_second _ _ counts)) of),
        fields_moved id (in_number_order (field_keys fields)),
      )

  abbrev pub wants_of : (x : Context) (fields : Fields) (tys : List TyId) → Holds (typing.made_fields (K x) tys fields) → List TyId
  wants_of x no_field tys h = []
  wants_of x (a_field number value rest) tys h = (found (slice_get tys number) _ h.0).0 ∷ wants_of x rest tys h.1
