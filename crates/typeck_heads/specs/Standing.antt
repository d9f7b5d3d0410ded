-- Whether all names in a type are known, where no limit is asked of it.
use Rattle.std.specs.Prelude.{Bool, true, false, ◌&&◌, ◌||◌, Option, Some, None, is_some}
use Rattle.src_ast.specs.Syntax.{Word, Syn, syn, AType, WrittenType, NamedType, GenericType, DynType, SelfType, ParensType, TupleType, ArrayType, NeverType, RefType, Syns, no_syn, a_syn}
use Rattle.typing_rules.specs.Written.{WrittenScope, number_of, scalar_named, is_box}

module _ (around : WrittenScope) where
  abbrev pub name_stands : Word → Bool
  name_stands name = is_some (scalar_named name) || is_some (number_of around.adts name)

  abbrev pub object_stands : Word → Word → Bool
  object_stands name trait_ = is_box name && is_some (number_of around.traits trait_)

  abbrev mutual
    pub stands : Syn → Bool
    stands (syn at (AType t)) = form_stands t
    stands _ = false

    pub form_stands : WrittenType → Bool
    form_stands (NamedType name) = name_stands name
    form_stands (GenericType name content) = is_box name && stands content
    form_stands (DynType name trait_) = object_stands name trait_.1
    form_stands SelfType = is_some around.self_adt
    form_stands (ParensType inside) = stands inside
    form_stands (TupleType parts) = all_stand parts
    form_stands (ArrayType element count suffix) = stands element
    form_stands NeverType = true
    form_stands (RefType unique to) = stands to

    pub all_stand : Syns → Bool
    all_stand no_syn = true
    all_stand (a_syn first rest) = stands first && all_stand rest

  abbrev pub generic_stands : Word → Syn → Bool
  generic_stands name content = is_box name && stands content

  abbrev pub stands_as : Option WrittenType → Bool
  stands_as None = false
  stands_as (Some t) = form_stands t
