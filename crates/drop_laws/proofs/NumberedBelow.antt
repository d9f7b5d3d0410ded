-- Something numbered lies at or below each place whose type needs dropping.
use Rattle.std.proofs.Common.{◌≡◌, ◌∙◌, ◌∷◌, [], ℕ, zero, suc, ◌==◌, Bool, true, false, List, Option, Some, None, slice_get, replicate, if◌then◌else◌, refl, sym, ap}
use Rattle.std.specs.Prelude.{option_and_then}
use Rattle.std.specs.Option.{option_map_or}
use Rattle.std.proofs.lemmas.Bool.{false≢true}
use Rattle.std.proofs.lemmas.Option.{none-some}
use Rattle.mir_ty.proofs.LeastRelations.{needs_drop-rules}
use Rattle.mir_ty.specs.declared.adt.Adt.{Adt}
use Rattle.mir_ty.specs.declared.adt.Variant.{Variant}
use Rattle.mir_ty.specs.declared.ty.Ty.{Ty}
use Rattle.mir_ty.specs.declared.ty.TyId.{TyId}
use Rattle.mir_ty.specs.Facts.{NeedsDrop, a_box, a_dyn, an_impl, a_part, needs_drop, ty_has_drop_impl}
use Rattle.mir_ty.specs.ItemTable.{ItemTable, type_at}
use Rattle.mir_ty.specs.Parts.{parts_of, of_one_variant, fields_of, variants_of, captures_of}
use Rattle.store_model.specs.Places.Place.{Step, ToPart, ToField, is_enum, part_if, unless_enum, step_ty, ty_along, watched}
use Rattle.store_model.specs.Places.TypeForms.{is_dyn}
use Rattle.cfg_graph.specs.declared.graph.Body.{Body}
use Rattle.cfg_graph.specs.Moves.Gone.{reaches_whole}
use Rattle.drop_elaborate.proofs.DeadDrops.{box-numbered, dyn-numbered, impl-numbered}
use Rattle.drop_elaborate.specs.Kinds.{is_numbered}

module _ (items : ItemTable) (body : Body)
    (one_variant : (n : ℕ) (adt : Adt) → slice_get items.adts n ≡ Some adt → adt.is_enum ≡ false →
    (variant : Variant) × (adt.variants ≡ variant ∷ [])) where
  pub record Below (id : TyId) : Type 0 where
    pub steps : List Step
    pub last : TyId
    pub along : ty_along items steps id ≡ Some last
    pub stays : reaches_whole (watched items (Some id) steps) ≡ true
    pub numbered : is_numbered items body last ≡ true

  itself : (id : TyId) → is_numbered items body id ≡ true → Below id
  itself id h = record { steps = []; last = id; along = refl; stays = refl; numbered = h }

  -- ---- the parts of what is no enum are those of its one variant

  of-one : (parts : List TyId) (variant n : ℕ) (part : TyId) → slice_get (of_one_variant parts variant) n ≡ Some part →
      slice_get parts n ≡ Some part
  of-one parts variant n part = by (variant == 0)
    where
      by : (b : Bool) → slice_get (if b then parts else []) n ≡ Some part → slice_get parts n ≡ Some part
      by true e = e
      by false e = absurd (none-some part e)

  of-struct : (variants : List Variant) (one : Variant) (variant n : ℕ) (part : TyId) → variants ≡ one ∷ [] →
      slice_get (fields_of (slice_get variants variant)) n ≡ Some part →
      slice_get (fields_of (slice_get variants 0)) n ≡ Some part
  of-struct variants one zero n part is e = e
  of-struct variants one (suc variant) n part is e =
      absurd (none-some part (sym (ap (λ (l : List Variant). slice_get (fields_of (slice_get l (suc variant))) n) is)
      ∙ e))

  of-adt : (k variant n : ℕ) (part : TyId) (o : Option Adt) → slice_get items.adts k ≡ o → is_enum items (Ty.Adt k) ≡
      false →
      slice_get (fields_of (slice_get (variants_of o) variant)) n ≡ Some part →
      slice_get (fields_of (slice_get (variants_of o) 0)) n ≡ Some part
  of-adt k variant n part None at none e = absurd (none-some part e)
  of-adt k variant n part (Some adt) at none e =
      let struct : adt.is_enum ≡ false =
      sym (ap (λ (o : Option Adt). option_map_or (λ (a : Adt). a.is_enum) o false) at) ∙ none in
      let one = one_variant k adt at struct in of-struct adt.variants one.0 variant n part one.1 e

  of-first : (ty : Ty) (variant n : ℕ) (part : TyId) → is_enum items ty ≡ false →
      slice_get (parts_of items ty variant) n ≡ Some part → slice_get (parts_of items ty 0) n ≡ Some part
  of-first (Ty.Adt k) variant n part none e = of-adt k variant n part (slice_get items.adts k) refl none e
  of-first (Ty.Tuple parts) variant n part none e = of-one parts variant n part e
  of-first (Ty.Array element count) variant n part none e = of-one (replicate count element) variant n part e
  of-first (Ty.Closure k) variant n part none e = of-one (captures_of (slice_get items.closures k)) variant n part e
  of-first _ variant n part none e = absurd (none-some part e)

  -- ---- a step further

  further : (step : Step) (id next : TyId) → option_and_then (step_ty items step) (type_at items id) ≡ Some next →
      ((steps : List Step) → reaches_whole (watched items (Some id) (step ∷ steps))
      ≡ reaches_whole (watched items (option_and_then (step_ty items step) (type_at items id)) steps)) →
      Below next → Below id
  further step id next e whole b = record {
    steps = step ∷ b.steps;
    last = b.last;
    along = ap (option_and_then (ty_along items b.steps)) e ∙ b.along;
    stays = whole b.steps ∙ ap (λ (o : Option TyId). reaches_whole (watched items o b.steps)) e ∙ b.stays;
    numbered = b.numbered;
  }

  in-part : (id next : TyId) (variant n : ℕ) (o : Option Ty) → type_at items id ≡ o →
      option_and_then (λ ty. slice_get (parts_of items ty variant) n) o ≡ Some next → Below next → Below id
  in-part id next variant n None at e b = absurd (none-some next e)
  in-part id next variant n (Some ty) at e b = by (is_enum items ty) refl
    where
      by : (enum : Bool) → is_enum items ty ≡ enum → Below id
      by true enum =
          further (ToField variant n) id next
          (ap (option_and_then (step_ty items (ToField variant n))) at
          ∙ ap (λ (z : Bool). part_if z (slice_get (parts_of items ty variant) n)) enum ∙ e) (λ steps. refl) b
      by false enum =
          further (ToPart n) id next
          (ap (option_and_then (step_ty items (ToPart n))) at
          ∙ ap (λ (z : Bool). unless_enum z (slice_get (parts_of items ty 0) n)) enum
          ∙ of-first ty variant n next enum e) (λ steps. refl) b

  from-needs : (id : TyId) → NeedsDrop items id → Below id
  from-needs id (a_box {inside = inside} is) = itself id (box-numbered items body id inside is)
  from-needs id (a_dyn is) = itself id (dyn-numbered items body id (ap is_dyn is))
  from-needs id (an_impl h) = itself id (impl-numbered items body id h)
  from-needs id (a_part {part = part} variant n is needs) =
      in-part id part variant n (type_at items id) refl is (from-needs part needs)

  pub numbered-below : (id : TyId) → needs_drop items id ≡ true → Below id
  numbered-below id h = from-needs id ((needs_drop-rules items id).0 h)

  -- what has no type needs no dropping
  pub typed-needs : (id : TyId) → type_at items id ≡ None → needs_drop items id ≡ true → ⊥
  typed-needs id none h = by ((needs_drop-rules items id).0 h)
    where
      by : NeedsDrop items id → ⊥
      by (a_box {inside = inside} is) = none-some (Ty.Boxed inside) (sym none ∙ is)
      by (a_dyn {n = n} is) = none-some (Ty.Dyn n) (sym none ∙ is)
      by (an_impl k) = false≢true (sym (ap (λ (o : Option Ty). option_map_or (ty_has_drop_impl items) o false) none) ∙
          k)
      by (a_part {part = part} variant n is needs) =
          none-some part (sym (ap (option_and_then (λ ty. slice_get (parts_of items ty variant) n)) none) ∙ is)
