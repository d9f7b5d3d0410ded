-- Tables of names over items, each of which finds what the rules look up in a list.
use Rattle.std.specs.Prelude.{◌≡◌, ℕ, ◌==◌, List, map}
use Rattle.std.specs.List.{list_any}
use Rattle.mir_ty.specs.declared.adt.Adt.{Adt}
use Rattle.mir_ty.specs.declared.def.Sig.{Sig}
use Rattle.mir_ty.specs.declared.def.TraitDef.{TraitDef}
use Rattle.mir_ty.specs.ItemTable.{ItemTable}
use Rattle.src_ast.specs.ItemForms.{kind_seen}
use Rattle.src_ast.specs.Syntax.{FieldsKind, Word}
use Rattle.src_ast.specs.declared.item.FieldKind.{FieldKind}
use Rattle.mir_ty.specs.DropBodies.{is_drop_body}
use Rattle.typeck_env.specs.Coerced.{HasImpls}
use Rattle.typeck_env.specs.Members.{all_names}
use Rattle.typeck_checker.specs.declared.tables.Tables.{Tables}

abbrev pub adt_words : ItemTable → List Word
adt_words items = map (λ (adt : Adt). adt.name) items.adts

abbrev pub trait_words : ItemTable → List Word
trait_words items = map (λ (def : TraitDef). def.name) items.traits

abbrev pub body_words : ItemTable → List Word
body_words items = map (λ (sig : Sig). sig.name) items.bodies

abbrev pub method_words : TraitDef → List Word
method_words def = map (λ (sig : Sig). sig.name) def.methods

abbrev pub all_kinds_of : List (List FieldKind) → List (List FieldsKind)
all_kinds_of kinds = map (map kind_seen) kinds

-- the tables are those of the items
pub record AreTablesOf (items : ItemTable) (tables : Tables) : Type 0 where
  pub adts : tables.adt_names ≡ adt_words items
  pub traits : tables.trait_names ≡ trait_words items
  pub bodies : tables.body_names ≡ body_words items
  pub members : tables.members ≡ all_names items.adts
  pub methods : tables.methods ≡ map method_words items.traits
  pub impls : HasImpls tables.pairs items.impls
  pub drops : (body : ℕ) → list_any (λ k. k == body) tables.drop_bodies.keys ≡ is_drop_body items body
