-- How the parts of variants are written, variant by variant and item by item.
use Rattle.std.specs.Prelude.{List, [], ◌∷◌, Option, Some}
use Rattle.src_ast.specs.Syntax.{FieldsKind, Unit_, Syn, syn, Shape, AnItem, AVariant, Item, StructItem, EnumItem, Syns, no_syn, a_syn}
use Rattle.src_ast.specs.View.{view}
use Rattle.src_tree.specs.View.{Single, a_token, a_node}
use Rattle.typing_rules.specs.Items.{all_kinds}

abbrev first_kinds : List (List FieldsKind) → List FieldsKind
first_kinds [] = []
first_kinds (ks ∷ kss) = ks

-- those of the variants of an enum
abbrev pub kinds_in : Syns → List FieldsKind
kinds_in variants =
    first_kinds (all_kinds (syn (record { line = 0; col = 0 })
    (AnItem (EnumItem [] (record { line = 0; col = 0 }, []) variants)) ∷ []))

abbrev first_kind : List FieldsKind → FieldsKind
first_kind [] = Unit_
first_kind (k ∷ ks) = k

abbrev pub kind_in : Syn → FieldsKind
kind_in variant = first_kind (kinds_in (a_syn variant no_syn))

-- of a variant, and of an item, by its form
abbrev pub kind_by : Option Shape → FieldsKind
kind_by (Some (AVariant name kind fields)) = kind
kind_by _ = Unit_

abbrev pub kinds_by : Option Item → List (List FieldsKind)
kinds_by (Some (StructItem derives name kind fields)) = (kind ∷ []) ∷ []
kinds_by (Some (EnumItem derives name variants)) = kinds_in variants ∷ []
kinds_by _ = []

abbrev pub kinds_at : Single → List (List FieldsKind)
kinds_at (a_token t) = []
kinds_at (a_node g) = all_kinds (view g ∷ [])
