-- Types that keep all rules, as they are written: a reference is the type of a parameter alone, a tuple has at most 12
-- parts, an array at most 32 elements, counted by a `usize`.
use Rattle.std.specs.Prelude.{Bool, true, false, ◌&&◌, nat_le, List, [], ◌∷◌, length}
use Rattle.typing_rules.specs.Program.{behind_self}
use Rattle.typing_rules.specs.Written.{is_usize}
use Rattle.src_ast.specs.Syntax.{Syn, syn, AnExpression, AType, AnItem, AParam, AField, AVariant, MoveOf, WrittenType, NamedType, GenericType, DynType, SelfType, ParensType, TupleType, ArrayType, NeverType, RefType, StructItem, EnumItem, TraitItem, FnItem, ParamOf, SelfParam, Syns, no_syn, a_syn, list_of, MaybeSyn, nothing, just}

abbrev mutual
  pub legal : Syn → Bool
  legal (syn at (AType t)) = legal_form t
  legal _ = false

  pub legal_form : WrittenType → Bool
  legal_form (NamedType name) = true
  legal_form (GenericType name content) = legal content
  legal_form (DynType name trait_) = true
  legal_form SelfType = true
  legal_form (ParensType inside) = legal inside
  legal_form (TupleType parts) = all_legal parts && nat_le (length (list_of parts)) 12
  legal_form (ArrayType element count suffix) = legal element && (is_usize suffix && nat_le count 32)
  legal_form NeverType = true
  legal_form _ = false

  pub all_legal : Syns → Bool
  all_legal no_syn = true
  all_legal (a_syn first rest) = legal first && all_legal rest

-- of a parameter, also a reference
abbrev mutual
  pub legal_param : Syn → Bool
  legal_param (syn at (AType t)) = legal_param_form t
  legal_param _ = false

  pub legal_param_form : WrittenType → Bool
  legal_param_form (ParensType inside) = legal_param inside
  legal_param_form (RefType unique to) = legal to
  legal_param_form t = legal_form t

-- ---- heads

-- of a function or a method, and of a closure
abbrev pub param_legal : (Syn → Bool) → Syn → Bool
param_legal test (syn at (AParam (ParamOf p ty))) = test ty
param_legal test (syn at (AParam (SelfParam receiver))) = true
param_legal test _ = false

abbrev pub params_legal : (Syn → Bool) → Syns → Bool
params_legal test no_syn = true
params_legal test (a_syn first rest) = param_legal test first && params_legal test rest

abbrev pub answer_legal : MaybeSyn → Bool
answer_legal nothing = true
answer_legal (just ty) = legal ty

abbrev pub head_legal : (Syn → Bool) → Syns → MaybeSyn → Bool
head_legal test params answer = params_legal test params && answer_legal answer

-- of a body as it is listed
abbrev pub body_legal : Syn → Bool
body_legal (syn at (AnItem (FnItem name params answer block))) = head_legal legal_param params answer
body_legal (syn at (AnExpression (MoveOf captures params answer body))) = head_legal legal params answer
body_legal _ = true

-- ---- items, but for the heads of bodies

abbrev pub field_legal : Syn → Bool
field_legal (syn at (AField name ty)) = legal ty
field_legal ty = legal ty

abbrev pub fields_legal : List Syn → Bool
fields_legal [] = true
fields_legal (f ∷ fs) = field_legal f && fields_legal fs

abbrev pub variant_legal : Syn → Bool
variant_legal (syn at (AVariant name kind fields)) = fields_legal (list_of fields)
variant_legal _ = false

abbrev pub variants_legal : List Syn → Bool
variants_legal [] = true
variants_legal (v ∷ vs) = variant_legal v && variants_legal vs

-- the head of a trait's method, behind `self`
abbrev pub trait_head_legal : Syn → Bool
trait_head_legal (syn at (AnItem (FnItem name params answer block))) =
    head_legal legal_param (behind_self params) answer
trait_head_legal _ = false

abbrev pub trait_heads_legal : List Syn → Bool
trait_heads_legal [] = true
trait_heads_legal (h ∷ hs) = trait_head_legal h && trait_heads_legal hs

abbrev pub item_legal : Syn → Bool
item_legal (syn at (AnItem (StructItem derives name kind fields))) = fields_legal (list_of fields)
item_legal (syn at (AnItem (EnumItem derives name variants))) = variants_legal (list_of variants)
item_legal (syn at (AnItem (TraitItem name heads))) = trait_heads_legal (list_of heads)
item_legal _ = true
