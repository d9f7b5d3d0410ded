-- Fields and parts, in Rust as the rules of typing see them.
use Rattle.std.specs.List.{position as position_of}
use Rattle.std.specs.Prelude.{ℕ, Option, option_and_then, slice_get}
use Rattle.std.specs.Str.{bytes_eq}
use Rattle.mir_ty.specs.declared.ty.TyId.{TyId}
use Rattle.src_ast.specs.Syntax.{Word}
use Rattle.typeck_env.specs.declared.members.AdtNames.{AdtNames}
use Rattle.typeck_checker.specs.declared.tables.Tables.{Tables}
use Rattle.typing_rules.specs.Places.{Member, either_part, part_with, struct_field}
use Rattle.well_typed.specs.Types.{tuple_of}
use Rattle.typeck_calls.specs.declared.fields.MemberPart.{MemberPart}
use Rattle.typeck_calls.specs.declared.fields.WantedMember.{WantedMember}

abbrev pub part_seen : MemberPart → ℕ × TyId
part_seen p = (p.number, p.ty)

-- a part of a tuple by its number, or the field of a struct that has this name
abbrev pub numbered : ℕ → Word → Member (ℕ × TyId)
numbered n word items ty =
    either_part (option_and_then (λ tys. part_with tys n) (tuple_of items ty)) (struct_field word items ty)

abbrev pub wanted_by : WantedMember → Member (ℕ × TyId)
wanted_by (WantedMember.Named name) = struct_field name.now
wanted_by (WantedMember.Numbered number word) = numbered number word.now

-- the number of a field of a variant, by the tables of names
abbrev pub number_in : Tables → ℕ → ℕ → Word → Option ℕ
number_in tables adt variant name =
    option_and_then (position_of (bytes_eq name))
    (option_and_then (λ (names : AdtNames). slice_get names.fields variant)
    (slice_get tables.members adt))
