-- The definitions over forms that are borrowed from a tree: `None` is a node that is none of the sort.
use Rattle.std.specs.Prelude.{◌≡◌, ℕ, ◌+◌, ◌<◌, ⊤, Result, Ok, Err, option_and_then, is_some, Bool, true, false, if◌then◌else◌, List, [], ◌∷◌, ◌++◌, length, ◌||◌, not, nat_le, Option, Some, None}
use Rattle.mir_base.specs.declared.int_kind.IntKind.{IntKind}
use Rattle.mir_ty.specs.declared.ty.Ty.{Ty}
use Rattle.mir_base.specs.declared.place_in_text.Pos.{Pos}
use Rattle.mir_base.specs.declared.rule.Rule.{Rule}
use Rattle.mir_ty.specs.declared.adt.Variant.{Variant}
use Rattle.mir_ty.specs.ItemTable.{with_adt}
use Rattle.mir_ty.specs.declared.def.Sig.{Sig}
use Rattle.mir_ty.specs.declared.ty.TyId.{TyId}
use Rattle.typeck_heads.specs.declared.written_types.WrittenScope as in_rust
use Rattle.typeck_heads.specs.declared.known_types.Known.{Known}
use Rattle.typeck_heads.specs.declared.heads.Own.{Own}
use Rattle.typing_rules.specs.Collected as walk
use Rattle.typing_rules.specs.Collected.{own_ty, receiver_ty, param_ty, derives_known, variant_of, declared_variant, adt_of, added, names_alone, sig_of, behind_self, with_receiver, has_receiver, trait_head, closure_param, body_added, body_sig, closure_head, is_drop, item_name}
use Rattle.src_ast.specs.View.{view}
use Rattle.well_typed.specs.Names.{is_among, built_in}
use Rattle.typing_rules.specs.Items.{full_name, closure_name, is_body_row, bodies_in}
use Rattle.src_tree.specs.View.{Single, a_token, a_node}
use Rattle.src_tree.specs.declared.row.GrammarRow.{GrammarRow}
use Rattle.mir_base.specs.declared.rule.RuleError.{RuleError}
use Rattle.src_ast.specs.Syntax.{Word, Named, number_word, Receiver, ByShared, ByUnique, Syn, syn, Shape, AnExpression, AnItem, AParam, AField, Expression, WrittenType, Item, Param, ParamOf, SelfParam, MaybeSyn, Syns, list_of}
use Rattle.typing_rules.specs.Check.{Check, each_checked, pure, breaks, obeys, interned, ◌>>=◌, ◌>>◌}
use Rattle.typing_rules.specs.Places.{unit}
use Rattle.typing_rules.specs.Written.{WrittenScope, or_unit, written, written_form, written_param, written_param_form, is_usize, length_shown, number_of}

-- a type as it is written, or that of a parameter
abbrev pub written_by : (is_param : Bool) → WrittenScope → Syn → Check TyId
written_by true = written_param
written_by false = written

abbrev pub around_of : in_rust.WrittenScope → WrittenScope
around_of scope =
    record {
      has_limits = scope.has_limits;
      self_adt = scope.self_adt;
      adts = scope.adts.now;
      traits = scope.traits.now;
    }

abbrev pub written_as : WrittenScope → Pos → Option WrittenType → Check TyId
written_as around at None = breaks Rule.T20 at
written_as around at (Some t) = written_form around at t

abbrev pub param_as : WrittenScope → Pos → Option WrittenType → Check TyId
param_as around at None = breaks Rule.T20 at
param_as around at (Some t) = written_param_form around at t

-- an array, once its elements have a type
abbrev pub array_short : WrittenScope → Pos → ℕ → TyId → Check TyId
array_short around at count ty = do
  obeys Rule.T19 at (not around.has_limits || nat_le count 32)
  interned (Ty.Array ty (length_shown count))

abbrev pub array_by : WrittenScope → Pos → ℕ → Option IntKind → TyId → Check TyId
array_by around at count suffix ty = do
  obeys Rule.T03 at (not around.has_limits || is_usize suffix)
  array_short around at count ty

-- ---- heads

abbrev pub known_of : Known → walk.Known
known_of k = record { adts = k.adts; traits = k.traits; paths = k.paths }

-- the type of `self`
abbrev pub own_by : WrittenScope → Own → Check TyId
own_by around (Own.Around at) = own_ty at around.self_adt
own_by around (Own.Given ty) = pure ty

abbrev pub IsOwn : List Ty → Own → Type 0
IsOwn types (Own.Around at) = ⊤
IsOwn types (Own.Given ty) = ty.0 < length types

abbrev pub own_receiver : WrittenScope → Own → Receiver → Check TyId
own_receiver around own receiver = own_by around own >>= (λ ty. receiver_ty ty receiver)

abbrev pub head_param : WrittenScope → Check TyId → Pos → Option Param → Check TyId
head_param around self at None = breaks Rule.T20 at
head_param around self at (Some p) = param_ty around self (syn at (AParam p))

-- ---- fields

abbrev pub field_type_by : Syn → Option Shape → Syn
field_type_by x (Some (AField name ty)) = ty
field_type_by x _ = x

abbrev pub field_name_by : ℕ → Option Shape → Word
field_name_by k (Some (AField name ty)) = name
field_name_by k _ = number_word k

-- ---- structs and enums

abbrev pub variant_by : WrittenScope → Pos → Option Shape → Check Variant
variant_by around at None = breaks Rule.T20 at
variant_by around at (Some form) = declared_variant around (syn at form)

-- one variant, of this name
abbrev pub is_one : Word → List Variant → Type 0
is_one name variants = (variant : Variant) × (variants ≡ variant ∷ []) × (variant.name ≡ name)

abbrev pub struct_by : walk.Known → List Named → Word → Syns → Check (Unit {0})
struct_by k ds name fields = do
  derives_known ds
  v ← variant_of (names_alone k (number_of k.adts name)) name fields
  added (λ items. with_adt items (adt_of k ds name false (v ∷ [])))

abbrev pub variants_in : walk.Known → Word → Syns → Check (List Variant)
variants_in k name variants =
    each_checked (declared_variant (names_alone k (number_of k.adts name))) (list_of variants)

abbrev pub enum_by : walk.Known → List Named → Word → Syns → Check (Unit {0})
enum_by k ds name variants = do
  derives_known ds
  vs ← variants_in k name variants
  added (λ items. with_adt items (adt_of k ds name true vs))

-- ---- traits

abbrev pub is_self_by : Option Param → Bool
is_self_by (Some (SelfParam receiver)) = true
is_self_by _ = false

abbrev pub reference_by : Option Param → Bool
reference_by (Some (SelfParam ByShared)) = true
reference_by (Some (SelfParam ByUnique)) = true
reference_by _ = false

-- a method without `&self` or `&mut self` gets `&dyn`
abbrev pub other_method : WrittenScope → TyId → Word → Syns → MaybeSyn → Check Sig
other_method around own name params answer =
    interned (Ty.Shared own) >>= (λ self. sig_of around (pure own) name (behind_self params) answer >>= (λ sig. pure (
    with_receiver self sig)))

abbrev pub own_method : WrittenScope → TyId → Word → Syns → MaybeSyn → Check Sig
own_method around own name params answer =
    if has_receiver params then sig_of around (pure own) name params answer
    else other_method around own name params answer

abbrev pub trait_head_by : WrittenScope → TyId → Pos → Option Item → Check Sig
trait_head_by around own at None = breaks Rule.T20 at
trait_head_by around own at (Some head) = trait_head around own (syn at (AnItem head))

-- ---- closures

abbrev pub closure_param_by : WrittenScope → Option Param → Check TyId
closure_param_by around (Some (ParamOf p ty)) = or_unit (written around ty)
closure_param_by around _ = pure unit

-- what a call answers, as the definitions say it
abbrev pub answered : {A B : Type 0} → (A → B) → Result A RuleError → Result B RuleError
answered f (Ok a) = Ok (f a)
answered f (Err e) = Err e

-- ---- bodies

abbrev pub function_by : walk.Known → Option Word → ℕ → Pos → Word → Syns → MaybeSyn → Check walk.Count
function_by k owner closures at name params answer = do
  let self_adt = option_and_then (number_of k.adts) owner
  sig ← sig_of (names_alone k self_adt) (own_ty at self_adt) (full_name owner name) params answer
  body_added sig
  pure (record { outer = full_name owner name; in_outer = 0; closures = closures })

abbrev pub body_by : walk.Known → Option Word → walk.Count → Pos → Option Item → Option Expression → Check walk.Count
body_by k owner c at (Some item) expression = body_sig k owner c (syn at (AnItem item))
body_by k owner c at None (Some e) = body_sig k owner c (syn at (AnExpression e))
body_by k owner c at None None = breaks Rule.T20 at

abbrev pub closure_by : walk.Known → Option Word → walk.Count → Syns → MaybeSyn → Check walk.Count
closure_by k owner c params answer = do
  let around = names_alone k (option_and_then (number_of k.adts) owner)
  closure_head around c.closures (closure_name c.outer (c.in_outer + 1)) params answer
  pure (record c { in_outer = c.in_outer + 1; closures = c.closures + 1 })

-- a node with its own head, where it is a body
abbrev pub own_sig : walk.Known → Option Word → walk.Count → GrammarRow → Syn → Check walk.Count
own_sig k owner c row x = if is_body_row row then body_sig k owner c x else pure c

abbrev pub bodies_in_piece : Single → List Syn
bodies_in_piece (a_token t) = []
bodies_in_piece (a_node g) = bodies_in g

abbrev pub listed : {A : Type 0} → Option A → List A
listed None = []
listed (Some a) = a ∷ []

abbrev pub trait_known : walk.Known → Named → Check (Unit {0})
trait_known k trait_ = obeys Rule.T01 trait_.0 (is_drop trait_.1 || is_some (number_of k.traits trait_.1))
