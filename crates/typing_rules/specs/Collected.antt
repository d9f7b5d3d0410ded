-- The items of a text, or the first broken rule on items: names first (T02), then the names in heads (T01), then types
-- that hold themselves (T09), then what is derived (T10), then `main`.
use Rattle.std.specs.Prelude.{ℕ, suc, ◌+◌, Bool, true, false, ◌&&◌, ◌||◌, not, List, [], ◌∷◌, ◌++◌, length, Option, Some, None, Result, Ok, Err, is_some, if◌then◌else◌, codes, option_and_then, slice_get}
use Rattle.std.specs.List.{list_any, list_all, filter_map}
use Rattle.std.specs.Str.{bytes_eq}
use Rattle.mir_base.specs.declared.place_in_text.Pos.{Pos}
use Rattle.mir_base.specs.declared.rule.Rule.{Rule}
use Rattle.mir_ty.specs.declared.adt.Adt.{Adt}
use Rattle.mir_ty.specs.declared.adt.Variant.{Variant}
use Rattle.mir_ty.specs.declared.def.Sig.{Sig}
use Rattle.mir_ty.specs.declared.def.TraitDef.{TraitDef}
use Rattle.mir_ty.specs.declared.ty.Ty.{Ty}
use Rattle.mir_ty.specs.declared.ty.TyId.{TyId}
use Rattle.mir_ty.specs.Facts.{is_copy, by_rule}
use Rattle.mir_ty.specs.ItemTable.{ItemTable, with_adt, with_trait, with_impl, with_body}
use Rattle.mir_ty.specs.Parts.{held_by}
use Rattle.src_tree.specs.Layout.{Parts}
use Rattle.well_typed.specs.Names.{is_among, built_in}
use Rattle.well_typed.specs.Types.{is_same}
use Rattle.typing_rules.specs.Check.{Check, TypingState, Broken, ◌>>=◌, ◌>>◌, pure, breaks, obeys, known, the_items, interned, each_checked}
use Rattle.typing_rules.specs.Items.{ItemSyn, items_of, item_syns, adt_names, trait_names, body_paths, method_body, drop_body, full_name, closure_name, impl_owner}
use Rattle.typing_rules.specs.Places.{scalars, unit}
use Rattle.src_ast.specs.Syntax.{Word, Named, number_word, Receiver, ByValue, ByShared, ByUnique, Syn, syn, AnExpression, AnItem, AParam, AField, AVariant, MoveOf, StructItem, EnumItem, TraitItem, ImplItem, FnItem, ParamOf, SelfParam, Syns, no_syn, a_syn, list_of, MaybeSyn, nothing, just}
use Rattle.typing_rules.specs.Written.{WrittenScope, written, written_param, or_unit, number_of}

-- ---- names of items

abbrev pub item_name : Syn → Option Named
item_name (syn at (AnItem (StructItem derives name kind fields))) = Some name
item_name (syn at (AnItem (EnumItem derives name variants))) = Some name
item_name (syn at (AnItem (TraitItem name heads))) = Some name
item_name (syn at (AnItem (FnItem name params answer block))) = Some name
item_name _ = None

abbrev pub names_differ : List Named → List Word → Check (Unit {0})
names_differ [] earlier = pure tt
names_differ (n ∷ ns) earlier = do
  obeys Rule.T02 n.0 (not (is_among n.1 earlier || is_among n.1 built_in))
  names_differ ns (earlier ++ n.1 ∷ [])

-- ---- heads

-- what is known of all items as the heads are gone over
pub record Known : Type 0 where
  pub adts : List Word
  pub traits : List Word
  pub paths : List Word

abbrev pub names_alone : Known → Option ℕ → WrittenScope
names_alone k self_adt = record { has_limits = false; self_adt = self_adt; adts = k.adts; traits = k.traits }

abbrev pub is_derivable : Word → Bool
is_derivable name = is_among name (codes "Copy" ∷ codes "Clone" ∷ codes "Debug" ∷ [])

abbrev pub derives_known : List Named → Check (Unit {0})
derives_known [] = pure tt
derives_known (d ∷ ds) = obeys Rule.T01 d.0 (is_derivable d.1) >> derives_known ds

abbrev pub derives : Word → List Named → Bool
derives word ds = list_any (λ d. bytes_eq word d.1) ds

-- fields by their order or by their names
abbrev pub field_name : ℕ → Syn → Word
field_name k (syn at (AField name ty)) = name
field_name k _ = number_word k

abbrev pub field_type : Syn → Syn
field_type (syn at (AField name ty)) = ty
field_type ty = ty

abbrev pub names_from : ℕ → List Syn → List Word
names_from k [] = []
names_from k (f ∷ fs) = field_name k f ∷ names_from (suc k) fs

abbrev pub variant_of : WrittenScope → Word → Syns → Check Variant
variant_of around name fields = do
  tys ← each_checked (λ f. written around (field_type f)) (list_of fields)
  pure (record { name = name; fields = tys; field_names = names_from 0 (list_of fields) })

abbrev pub declared_variant : WrittenScope → Syn → Check Variant
declared_variant around (syn at (AVariant name kind fields)) = variant_of around name fields
declared_variant around (syn at _) = breaks Rule.T20 at

abbrev pub adt_of : Known → List Named → Word → Bool → List Variant → Adt
adt_of k ds name is_enum variants =
    record {
      name = name;
      is_enum = is_enum;
      variants = variants;
      copy = derives (codes "Copy") ds;
      drop_body = drop_body k.paths name;
    }

abbrev pub added : (ItemTable → ItemTable) → Check (Unit {0})
added f = λ s. Ok (tt, record s { items = f s.items })

-- a receiver: of a struct or an enum in an impl, of `dyn` in a trait
abbrev pub receiver_ty : TyId → Receiver → Check TyId
receiver_ty own ByValue = pure own
receiver_ty own ByShared = interned (Ty.Shared own)
receiver_ty own ByUnique = interned (Ty.Unique own)

abbrev pub param_ty : WrittenScope → Check TyId → Syn → Check TyId
param_ty around self (syn at (AParam (ParamOf p ty))) = written_param around ty
param_ty around self (syn at (AParam (SelfParam receiver))) = self >>= (λ own. receiver_ty own receiver)
param_ty around self (syn at _) = breaks Rule.T20 at

abbrev pub answer_ty : WrittenScope → MaybeSyn → Check TyId
answer_ty around nothing = pure unit
answer_ty around (just ty) = written around ty

abbrev pub own_ty : Pos → Option ℕ → Check TyId
own_ty at self_adt = do
  n ← known Rule.T01 at self_adt
  interned (Ty.Adt n)

abbrev pub sig_of : WrittenScope → Check TyId → Word → Syns → MaybeSyn → Check Sig
sig_of around self name params answer = do
  tys ← each_checked (param_ty around self) (list_of params)
  ty ← answer_ty around answer
  pure (record { name = name; params = tys; result = ty })

-- the head of a trait's method; without `&self` or `&mut self`, which is refused later, it gets `&dyn`
abbrev pub is_by_reference : Syn → Bool
is_by_reference (syn at (AParam (SelfParam ByShared))) = true
is_by_reference (syn at (AParam (SelfParam ByUnique))) = true
is_by_reference _ = false

abbrev pub has_receiver : Syns → Bool
has_receiver no_syn = false
has_receiver (a_syn first rest) = is_by_reference first

abbrev pub behind_self : Syns → Syns
behind_self no_syn = no_syn
behind_self (a_syn (syn at (AParam (SelfParam receiver))) rest) = rest
behind_self (a_syn (syn at form) rest) = a_syn (syn at form) rest

abbrev pub with_receiver : TyId → Sig → Sig
with_receiver ty sig = record sig { params = ty ∷ sig.params }

abbrev pub trait_head : WrittenScope → TyId → Syn → Check Sig
trait_head around own (syn at (AnItem (FnItem name params answer block))) =
    if has_receiver params then sig_of around (pure own) name.1 params answer
    else (interned (Ty.Shared own) >>= (λ self. sig_of around (pure own) name.1 (behind_self params) answer >>= (λ
    sig. pure (with_receiver self sig))))
trait_head around own (syn at _) = breaks Rule.T20 at

-- ---- bodies of an item

-- the function or method around, and how many closures it has had; how many closures the text has had
pub record Count : Type 0 where
  pub outer : Word
  pub in_outer : ℕ
  pub closures : ℕ

abbrev pub body_added : Sig → Check (Unit {0})
body_added sig = added (λ items. with_body items sig)

abbrev pub closure_param : WrittenScope → Syn → Check TyId
closure_param around (syn at (AParam (ParamOf p ty))) = or_unit (written around ty)
closure_param around (syn at _) = pure unit

-- the parameters of a closure, behind the closure itself
abbrev pub closure_params : WrittenScope → ℕ → Syns → Check (List TyId)
closure_params around closures params = do
  self ← interned (Ty.Closure closures)
  tys ← each_checked (closure_param around) (list_of params)
  pure (self ∷ tys)

abbrev pub closure_head : WrittenScope → ℕ → Word → Syns → MaybeSyn → Check (Unit {0})
closure_head around closures name params answer = do
  tys ← closure_params around closures params
  ty ← or_unit (answer_ty around answer)
  body_added (record { name = name; params = tys; result = ty })

abbrev pub body_sig : Known → Option Word → Count → Syn → Check Count
body_sig k owner c (syn at (AnItem (FnItem name params answer block))) = do
  let self_adt = option_and_then (number_of k.adts) owner
  sig ← sig_of (names_alone k self_adt) (own_ty at self_adt) (full_name owner name.1) params answer
  body_added sig
  pure (record c { outer = full_name owner name.1; in_outer = 0 })
body_sig k owner c (syn at (AnExpression (MoveOf captures params answer body))) = do
  let around = names_alone k (option_and_then (number_of k.adts) owner)
  closure_head around c.closures (closure_name c.outer (c.in_outer + 1)) params answer
  pure (record c { in_outer = c.in_outer + 1; closures = c.closures + 1 })
body_sig k owner c (syn at _) = breaks Rule.T20 at

abbrev pub body_sigs : Known → Option Word → Count → List Syn → Check Count
body_sigs k owner c [] = pure c
body_sigs k owner c (body ∷ bodies) = do
  d ← body_sig k owner c body
  body_sigs k owner d bodies

-- ---- items

-- the bodies of an impl in the order of the trait's methods
abbrev pub impl_bodies : List Word → Word → Word → List Sig → List ℕ
impl_bodies paths owner trait_ methods = filter_map (λ m. method_body paths owner trait_ m.name) methods

abbrev pub methods_of : Option TraitDef → List Sig
methods_of None = []
methods_of (Some def) = def.methods

abbrev pub impl_added : Known → ℕ → ℕ → Word → Word → Check (Unit {0})
impl_added k trait_no adt trait_ owner = added (λ items. with_impl items (record {
  trait_no = trait_no;
  adt = adt;
  bodies = impl_bodies k.paths owner trait_ (methods_of (slice_get items.traits trait_no));
}))

abbrev pub is_drop : Word → Bool
is_drop name = bytes_eq name (codes "Drop")

abbrev pub impl_head : Known → Option Named → Named → Check (Unit {0})
impl_head k None name = obeys Rule.T01 name.0 (is_some (number_of k.adts name.1))
impl_head k (Some trait_) name = do
  obeys Rule.T01 trait_.0 (is_drop trait_.1 || is_some (number_of k.traits trait_.1))
  obeys Rule.T01 name.0 (is_some (number_of k.adts name.1))

abbrev pub item_head : Known → Syn → Check (Unit {0})
item_head k (syn at (AnItem (StructItem ds name kind fields))) = do
  derives_known ds
  v ← variant_of (names_alone k (number_of k.adts name.1)) name.1 fields
  added (λ items. with_adt items (adt_of k ds name.1 false (v ∷ [])))
item_head k (syn at (AnItem (EnumItem ds name variants))) = do
  derives_known ds
  vs ← each_checked (declared_variant (names_alone k (number_of k.adts name.1))) (list_of variants)
  added (λ items. with_adt items (adt_of k ds name.1 true vs))
item_head k (syn at (AnItem (TraitItem name heads))) = do
  items ← the_items
  own ← interned (Ty.Dyn (length items.traits))
  sigs ← each_checked (trait_head (names_alone k None) own) (list_of heads)
  added (λ items. with_trait items (record { name = name.1; methods = sigs }))
item_head k (syn at (AnItem (ImplItem trait_ name methods))) = impl_head k trait_ name
item_head k (syn at _) = pure tt

abbrev pub heads_collected : Known → Count → List ItemSyn → Check (Unit {0})
heads_collected k c [] = pure tt
heads_collected k c (i ∷ is) = do
  item_head k i.item
  d ← body_sigs k (impl_owner i.item) c i.bodies
  heads_collected k d is

-- impls come once all traits have their methods
abbrev pub impl_of : Known → Syn → Check (Unit {0})
impl_of k (syn at (AnItem (ImplItem (Some trait_) name methods))) =
    if is_drop trait_.1 then pure tt else (do
      n ← known Rule.T01 trait_.0 (number_of k.traits trait_.1)
      adt ← known Rule.T01 name.0 (number_of k.adts name.1)
      impl_added k n adt trait_.1 name.1)
impl_of k _ = pure tt

-- ---- what structs and enums hold, and what they derive

-- a type is held, at any depth but not through a box
abbrev pub holds : ItemTable → TyId → TyId → Bool
holds items part = by_rule items.types (λ known ty. list_any (λ h. is_same h part || known h) (held_by items ty))

abbrev pub is_finite : ℕ → Pos → Check (Unit {0})
is_finite n at = do
  ty ← interned (Ty.Adt n)
  items ← the_items
  obeys Rule.T09 at (not (holds items ty ty))

-- the struct or enum of an impl of `Drop`, whatever that lacks
abbrev pub drop_owner : Syn → Option Word
drop_owner (syn at (AnItem (ImplItem (Some trait_) name methods))) = if is_drop trait_.1 then Some name.1 else None
drop_owner _ = None

abbrev pub drop_owners : List ItemSyn → List Word
drop_owners items = filter_map drop_owner (item_syns items)

-- one among these has an impl of `Drop`, also where the impl has no `drop` body
abbrev pub is_dropped : List Word → Adt → Bool
is_dropped dropped adt = is_some adt.drop_body || is_some (number_of dropped adt.name)

abbrev pub may_derive : ItemTable → List Word → List Named → Option Adt → Bool
may_derive items dropped ds None = true
may_derive items dropped ds (Some adt) =
    not (derives (codes "Copy") ds) || (derives (codes "Clone") ds && (not (is_dropped dropped adt) &&
    list_all (λ v. list_all (is_copy items) v.fields) adt.variants))

-- the structs and enums in their order, each with its place and what it derives
abbrev pub adt_item : Syn → Option (Pos × List Named)
adt_item (syn at (AnItem (StructItem ds name kind fields))) = Some (at, ds)
adt_item (syn at (AnItem (EnumItem ds name variants))) = Some (at, ds)
adt_item _ = None

abbrev pub all_finite : ℕ → List (Pos × List Named) → Check (Unit {0})
all_finite n [] = pure tt
all_finite n (a ∷ as_) = is_finite n a.0 >> all_finite (suc n) as_

abbrev pub all_derive : List Word → ℕ → List (Pos × List Named) → Check (Unit {0})
all_derive dropped n [] = pure tt
all_derive dropped n (a ∷ as_) = do
  items ← the_items
  obeys Rule.T10 a.0 (may_derive items dropped a.1 (slice_get items.adts n))
  all_derive dropped (suc n) as_

-- ---- the whole

abbrev pub known_of : List ItemSyn → Known
known_of items =
    record { adts = adt_names (item_syns items); traits = trait_names (item_syns items); paths = body_paths items }

abbrev pub collecting : List ItemSyn → Pos → Check (Unit {0})
collecting items end = do
  names_differ (filter_map item_name (item_syns items)) []
  heads_collected (known_of items) (record { outer = []; in_outer = 0; closures = 0 }) items
  _ ← each_checked (impl_of (known_of items)) (item_syns items)
  all_finite 0 (filter_map adt_item (item_syns items))
  all_derive (drop_owners items) 0 (filter_map adt_item (item_syns items))
  obeys Rule.T01 end (is_some (number_of (body_paths items) (codes "main")))

abbrev pub no_items : ItemTable
no_items = record { types = scalars; adts = []; traits = []; impls = []; closures = []; bodies = [] }

abbrev pub starting_with : ItemTable → TypingState
starting_with items = record { items = items; next_node = 0; next_body = 0; breaks = []; bodies = [] }

abbrev pub items_in : {A : Type 0} → Result (A × TypingState) Broken → Result ItemTable Broken
items_in (Ok a) = Ok a.1.items
items_in (Err e) = Err e

-- the items of a text whose end is at a place
abbrev pub collected : Parts Pos → Pos → Result ItemTable Broken
collected parts end = items_in (collecting (items_of parts) end (starting_with no_items))
