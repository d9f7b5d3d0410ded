-- Fields, parts and elements: what is found by going through boxes and references.
use Rattle.std.proofs.Common.{◌≡◌, ℕ, zero, suc, Bool, true, false, ◌||◌, ◌==◌, not, if◌then◌else◌, List, [], length, slice_get, Option, Some, None, IsTrue, refl, ap, sym, subst, ◌∙◌}
use Rattle.std.specs.Prelude.{option_and_then, option_map}
use Rattle.std.specs.Option.{option_map_or}
use Rattle.std.proofs.lemmas.Option.{none-some, same_Some}
use Rattle.mir_base.specs.declared.place_in_text.Pos.{Pos}
use Rattle.mir_base.specs.declared.rule.Rule.{Rule}
use Rattle.mir_ty.specs.declared.adt.Adt.{Adt}
use Rattle.mir_ty.specs.declared.adt.Variant.{Variant}
use Rattle.mir_ty.specs.declared.def.ClosureDef.{ClosureDef}
use Rattle.mir_ty.specs.declared.ty.Ty.{Ty}
use Rattle.mir_ty.specs.declared.ty.TyId.{TyId}
use Rattle.mir_ty.specs.ItemTable.{ItemTable, type_at}
use Rattle.mir_ty.specs.Parts.{field_ty, parts_of, captures_of, fields_of, variants_of}
use Rattle.typed_tree.specs.Tree.{Node, Field}
use Rattle.well_typed.specs.Claim.{Holds, some, fact}
use Rattle.well_typed.specs.Places.{ty_of}
use Rattle.well_typed.specs.Types.{is_same, inside_of, inside_in, has_fields, fields_in, is_enum, variant_at, adt_of, adt_in, tuple_of, tuple_in}
use Rattle.well_typed.proofs.ClaimLemmas.{and_true}
use Rattle.typing_rules.specs.Check.{Check, TypingState}
use Rattle.typing_rules.specs.Places.{a_node_of, Member, through, through_in, through_at, struct_field, numbered_part, part_with, either_part}
use Rattle.typing_rules.specs.Promises.{Extends, AreReady, Grows, Fact, Gives, Knows, IsBase, SoundBase}
use Rattle.typing_rules.specs.RowPromises.{IsMember, IsPlace}
use Rattle.typing_rules.specs.Rows.{field, element}
use Rattle.typing_rules.specs.Scope.{Env, field_named}
use Rattle.src_ast.specs.Syntax.{Word, number_word}
use Rattle.typing_rules.proofs.Sound.Fitted.{same_self}
use Rattle.typing_rules.proofs.Sound.Gives.{◌⋆◌, bind, with_ready, given, found, after_number, numbered, grows_trans, grows_refl, knows_number, grows_number}
use Rattle.typing_rules.proofs.Sound.Later.{alone_ready, extends_refl, type_later, in_later, same_drop_impl, some_got, passes_by, passes_got}
use Rattle.typing_rules.proofs.Sound.Places.{deref_base, or_false}

-- ---- parts of later types

module _ {old new : ItemTable} (e : Extends old new) where
  captures_later : (n part : ℕ) (t : TyId) → slice_get (captures_of (slice_get old.closures n)) part ≡ Some t →
      slice_get (captures_of (slice_get new.closures n)) part ≡ Some t
  captures_later n part t h = by (slice_get old.closures n) refl h
    where
      by : (o : Option ClosureDef) → slice_get old.closures n ≡ o → slice_get (captures_of o) part ≡ Some t →
          slice_get (captures_of (slice_get new.closures n)) part ≡ Some t
      by None is h = absurd (none-some t h)
      by (Some def) is h = ap (λ o. slice_get (captures_of o) part) (e.closures n def is) ∙ h

  of_one_later : (xs ys : List TyId) (b : Bool) (part : ℕ) (t : TyId) → (slice_get xs part ≡ Some t → slice_get ys
      part ≡ Some t) → slice_get (if b then xs else []) part ≡ Some t → slice_get (if b then ys else []) part ≡ Some t
  of_one_later xs ys true part t more h = more h
  of_one_later xs ys false part t more h = h

  parts_later : (ty : Ty) (variant part : ℕ) (t : TyId) → slice_get (parts_of old ty variant) part ≡ Some t →
      slice_get (parts_of new ty variant) part ≡ Some t
  parts_later (Ty.Adt n) variant part t h =
      ap (λ adts. slice_get (fields_of (slice_get (variants_of (slice_get adts n)) variant)) part) e.adts ∙ h
  parts_later (Ty.Closure n) variant part t h =
      of_one_later (captures_of (slice_get old.closures n)) (captures_of (slice_get new.closures n)) (variant == 0) part
      t (captures_later n part t) h
  parts_later (Ty.Tuple parts) variant part t h = h
  parts_later (Ty.Array element count) variant part t h = h
  parts_later _ variant part t h = h

  pub field_later : (id : TyId) (variant part : ℕ) (t : TyId) → field_ty old id variant part ≡ Some t → field_ty new id
      variant part ≡ Some t
  field_later id variant part t h =
      let known = some_got (λ ty. slice_get (parts_of old ty variant) part) (type_at old id) t h in
      ap (option_and_then (λ ty. slice_get (parts_of new ty variant) part)) (type_later e id known.0 known.1) ∙
      parts_later known.0 variant part t known.2

  fields_in_later : (ty : Ty) → IsTrue (fields_in old ty) → IsTrue (fields_in new ty)
  fields_in_later (Ty.Adt n) h =
      subst (λ adts. IsTrue (not (option_map_or (λ (def : Adt). def.is_enum) (slice_get adts n) false))) (sym e.adts) h
  fields_in_later (Ty.Tuple parts) h = h
  fields_in_later _ h = absurd (let no_ : IsTrue false = h in cc)

  pub has_fields_later : (id : TyId) → IsTrue (has_fields old id) → IsTrue (has_fields new id)
  has_fields_later id h =
      let known = passes_got (fields_in old) (type_at old id) h in
      passes_by (fields_in new) (type_at new id) known.0 (type_later e id known.0 known.1) (fields_in_later known.0
      known.2)

-- ---- members

part_got : (tys : List TyId) (n : ℕ) (f : ℕ × TyId) → part_with tys n ≡ Some f → (n ≡ f.0) × (slice_get tys n ≡ Some
    f.1)
part_got tys n f h = by (slice_get tys n) refl h
  where
    by : (o : Option TyId) → slice_get tys n ≡ o → option_map (λ ty. (n, ty)) o ≡ Some f → (n ≡ f.0) × (slice_get tys n
        ≡ Some f.1)
    by None is h = absurd (none-some f h)
    by (Some ty) is h =
        let same = same_Some (n, ty) f h in (ap (λ (x : ℕ × TyId). x.0) same, is ∙ ap (λ (x : ℕ × TyId). Some x.1) same)

adt_type : (items : ItemTable) (id : TyId) (n : ℕ) → adt_of items id ≡ Some n → type_at items id ≡ Some (Ty.Adt n)
adt_type items id n h = let known = some_got adt_in (type_at items id) n h in known.1 ∙ by known.0 known.2
  where
    by : (ty : Ty) → adt_in ty ≡ Some n → Some ty ≡ Some (Ty.Adt n)
    by (Ty.Adt m) h = ap (λ k. Some (Ty.Adt k)) (same_Some m n h)
    by _ h = absurd (none-some n h)

tuple_type : (items : ItemTable) (id : TyId) (tys : List TyId) → tuple_of items id ≡ Some tys → type_at items id ≡ Some
    (Ty.Tuple tys)
tuple_type items id tys h = let known = some_got tuple_in (type_at items id) tys h in known.1 ∙ by known.0 known.2
  where
    by : (ty : Ty) → tuple_in ty ≡ Some tys → Some ty ≡ Some (Ty.Tuple tys)
    by (Ty.Tuple others) h = ap (λ k. Some (Ty.Tuple k)) (same_Some others tys h)
    by _ h = absurd (none-some tys h)

pub struct_member : (name : Word) → IsMember (struct_field name)
struct_member name items id f h =
    let adt = some_got (λ adt. if is_enum items adt then None else option_and_then (λ (v : Variant). option_and_then
    (part_with v.fields) (field_named v name)) (variant_at items adt 0)) (adt_of items id) f h in
    by adt.0 (adt_type items id adt.0 adt.1) (is_enum items adt.0) refl adt.2
  where
    by : (adt : ℕ) → type_at items id ≡ Some (Ty.Adt adt) → (b : Bool) → is_enum items adt ≡ b → (if b then None else
        option_and_then (λ (v : Variant). option_and_then (part_with v.fields) (field_named v name)) (variant_at items
        adt 0)) ≡ Some f → IsTrue (has_fields items id) × (field_ty items id 0 f.0 ≡ Some f.1)
    by adt at true is h = absurd (none-some f h)
    by adt at false is h =
        let v = some_got (λ (v : Variant). option_and_then (part_with v.fields) (field_named v name)) (variant_at items
        adt 0) f h in
        let k = some_got (part_with v.0.fields) (field_named v.0 name) f v.2 in
        let part = part_got v.0.fields k.0 f k.2 in (
          passes_by (fields_in items) (type_at items id) (Ty.Adt adt) at (subst (λ b. IsTrue (not b)) (sym is) refl),
          ap (option_and_then (λ ty. slice_get (parts_of items ty 0) f.0)) at ∙
              (variant_fields adt v.0 f.0 v.1 ∙ (ap (slice_get v.0.fields) (sym part.0) ∙ part.1)),
        )
      where
        variant_fields : (adt : ℕ) (v : Variant) (k : ℕ) → variant_at items adt 0 ≡ Some v → slice_get (fields_of
            (slice_get (variants_of (slice_get items.adts adt)) 0)) k ≡ slice_get v.fields k
        variant_fields adt v k h = by_adt (slice_get items.adts adt) h
          where
            by_adt : (o : Option Adt) → option_and_then (λ (def : Adt). slice_get def.variants 0) o ≡ Some v → slice_get
                (fields_of (slice_get (variants_of o) 0)) k ≡ slice_get v.fields k
            by_adt None h = absurd (none-some v h)
            by_adt (Some def) h = ap (λ o. slice_get (fields_of o) k) h

pub part_member : (n : ℕ) → IsMember (numbered_part n)
part_member n items id f h =
    by (option_and_then (λ tys. part_with tys n) (tuple_of items id)) refl h
  where
    by : (o : Option (ℕ × TyId)) → option_and_then (λ tys. part_with tys n) (tuple_of items id) ≡ o → either_part o
        (struct_field (number_word n) items id) ≡ Some f → IsTrue (has_fields items id) × (field_ty items id 0 f.0 ≡
        Some
        f.1)
    by None is h = struct_member (number_word n) items id f h
    by (Some x) is h =
        let tys = some_got (λ tys. part_with tys n) (tuple_of items id) f (is ∙ h) in
        let part = part_got tys.0 n f tys.2 in
        let at = tuple_type items id tys.0 tys.1 in (
          passes_by (fields_in items) (type_at items id) (Ty.Tuple tys.0) at refl,
          ap (option_and_then (λ ty. slice_get (parts_of items ty 0) f.0)) at ∙
              (ap (slice_get tys.0) (sym part.0) ∙ part.1),
        )

-- ---- through boxes and references

-- the place that has what is looked for, which the items at the start say of its type
abbrev pub IsFound : {A : Type 0} → Member A → ItemTable → Env → Fact (Node × Option A)
IsFound {A} member items env w r = IsBase env w r.0 × ((a : A) → r.1 ≡ Some a → member items (ty_of r.0) ≡ Some a)

module _ {A : Type 0} (member : Member A) (at : Pos) (env : Env) where
  through_in_sound : (n : ℕ) (items : ItemTable) (base : Node) (s : TypingState) → Extends items s.items → ((w : TypingState) →
      Grows
      s w → IsBase env w base) → Gives s (IsFound member items env) (through_in member at n items base s)
  through_in_sound zero items base s e is =
      given (base, None) λ ready w g. (is w g, λ a h. absurd (none-some a h))
  through_in_sound (suc n) items base s e is =
      by (member items (ty_of base)) (inside_of items (ty_of base)) refl refl (through_in_sound n items)
    where
      by : (m : Option A) (i : Option TyId) → member items (ty_of base) ≡ m → inside_of items (ty_of base) ≡ i →
          ((next : Node) (t : TypingState) → Extends items t.items → ((w : TypingState) → Grows t w → IsBase env w next) → Gives t
          (IsFound member items env) (through_in member at n items next t)) → Gives s (IsFound member items env)
          (through_at member at (through_in member at n items) base m i s)
      by (Some a) i hm hi on = given (base, Some a) λ ready w g. (is w g, λ b h. hm ∙ h)
      by None None hm hi on = given (base, None) λ ready w g. (is w g, λ b h. absurd (none-some b h))
      by None (Some ty) hm hi on =
          after_number (with_ready λ ready. on _ (numbered s) e λ w g.
          (deref_base env w s.next_node at ty base (g.ready ready) (is w (grows_trans (grows_number s) g)) (in_later
          g.items inside_in (ty_of base) ty (in_later e inside_in (ty_of base) ty hi))).base)

  pub through_sound : (base : Node) (s : TypingState) → ((w : TypingState) → Grows s w → IsBase env w base) → Gives s (IsFound
      member s.items env) (through member at base s)
  through_sound base s is = through_in_sound (suc (length s.items.types)) s.items base s (extends_refl s.items) is

-- ---- fields

field_base : (env : Env) (t w : TypingState) (id : ℕ) (at : Pos) (f : ℕ × TyId) (b : Node) → AreReady w.items → IsBase env w
    b → IsTrue (has_fields w.items (ty_of b)) → field_ty w.items (ty_of b) 0 f.0 ≡ Some f.1 → IsPlace env w (a_node_of
    id at f.1 (Field b f.0))
field_base env t w id at f b all base has is =
    record {
      base = record {
        ready = alone_ready w.items f.1 (all.parts (ty_of b) f.1 0 f.0 is);
        holds = λ p stands. (
          refl,
          base.holds p stands ⋆ has ⋆ subst (λ o. Holds (some o (λ t. fact (is_same f.1 t))))
              (sym is) (same_self f.1.0),
        );
        moves = λ p stands h. let both_ = or_false _ _ h in and_true _ _ both_.0 (base.moves p stands both_.1);
        is_fixed = λ v g. λ i. same_drop_impl g.items (ty_of b) base.ready i || base.is_fixed v g i;
        is_shared = λ v g. base.is_shared v g;
      };
      is = refl;
    }

pub field_sound : (env : Env) (at : Pos) (member : Member (ℕ × TyId)) → IsMember member → (base : Check Node) →
    SoundBase env base → (s : TypingState) → Knows env s → Gives s (IsPlace env) (field at member base s)
field_sound env at member is base good s k =
    after_number (bind (good (numbered s) (knows_number env k)) λ b t g d.
    bind (through_sound member at env b t d) λ r u h e.
    found Rule.T12 at r.1 _ λ f known.
    given _ λ ready w l.
    let so = is t.items (ty_of r.0) f ((e u (grows_refl u)).1 f known) in
    let on = (grows_trans h l).items in
    field_base env t w s.next_node at f r.0 (l.ready ready) (e w l).0 (has_fields_later on (ty_of r.0) so.0)
    (field_later
    on (ty_of r.0) 0 f.0 f.1 so.1))
