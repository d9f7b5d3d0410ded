-- Places in words, by the items of the program, the locals of a body and its nodes: a name, and then `.n` or `.name`
-- for a part, `.V.n` for one of the variant V, `.*` for the content of a box; an element of an array is called as the
-- array is (as rustc names places in its errors E0381 and E0382).
use Rattle.std.specs.Prelude.{ℕ, ◌==◌, Bool, true, false, ◌&&◌, List, [], ◌∷◌, ◌++◌, codes, Option, Some, None, slice_get, option_and_then}
use Rattle.std.specs.Fmt.{decimal}
use Rattle.std.specs.List.{find}
use Rattle.std.specs.Option.{option_map_or}
use Rattle.mir_ty.specs.declared.adt.Variant.{Variant}
use Rattle.mir_ty.specs.declared.ty.Ty.{Ty}
use Rattle.mir_ty.specs.declared.ty.TyId.{TyId}
use Rattle.mir_ty.specs.ItemTable.{ItemTable, type_at}
use Rattle.store_model.specs.Places.Place.{Step, ToPart, ToField, ToContent, ToElement, Place, step_ty}
use Rattle.typed_tree.specs.Nodes.{first_with}
use Rattle.typed_tree.specs.Tree.{Node, node, Binding, Captured}
use Rattle.src_meaning.specs.Scopes.{Entry}
use Rattle.lower_locals.specs.View.{keys, tys}

abbrev pub name_of_binding : Node → List ℕ
name_of_binding (node id at ty by (Binding name)) = name
name_of_binding _ = []

abbrev pub names_capture : ℕ → ℕ → Node → Bool
names_capture key part (node id at ty by (Captured closure captured name)) = key == closure && part == captured
names_capture key part _ = false

abbrev pub capture_name : Node → List ℕ
capture_name (node id at ty by (Captured closure captured name)) = name
capture_name _ = []

-- the name of a captured variable, if a node is one: a part of the value of a closure that has the key
abbrev pub name_if : Bool → List ℕ → Option (List ℕ)
name_if true name = Some name
name_if false name = None

abbrev pub capture_in : ℕ → ℕ → Node → Option (List ℕ)
capture_in key part n = name_if (names_capture key part n) (capture_name n)

abbrev pub first_capture : ℕ → ℕ → List Node → Option (List ℕ)
first_capture key part nodes = option_map_or (λ n. Some (capture_name n)) (find (names_capture key part) nodes) None

abbrev pub named_field : Option Variant → ℕ → List ℕ
named_field variant part =
    option_map_or (λ name. name)
    (option_and_then (λ v. slice_get v.field_names part) variant) (decimal part)

abbrev pub variants : ItemTable → Option Ty → List Variant
variants items (Some (Ty.Adt n)) = option_map_or (λ adt. adt.variants) (slice_get items.adts n) []
variants items _ = []

abbrev pub variant_name : Option Variant → List ℕ
variant_name variant = option_map_or (λ v. v.name) variant []

abbrev pub step_words : ItemTable → Option Ty → Step → List ℕ
step_words items ty (ToPart part) = codes "." ++ named_field (slice_get (variants items ty) 0) part
step_words items ty (ToField variant part) =
    codes "." ++ variant_name (slice_get (variants items ty) variant) ++ codes "." ++ decimal part
step_words items ty ToContent = codes ".*"
step_words items ty (ToElement index) = []

-- the type to which a step leads
abbrev pub ty_behind : ItemTable → Option TyId → Step → Option TyId
ty_behind items id step = option_and_then (step_ty items step) (option_and_then (type_at items) id)

abbrev pub steps_words : ItemTable → Option TyId → List Step → List ℕ
steps_words items id [] = []
steps_words items id (ToElement index ∷ steps) = []
steps_words items id (step ∷ steps) =
    step_words items (option_and_then (type_at items) id) step ++ steps_words items (ty_behind items id step) steps

module _ (items : ItemTable) (entries : List Entry) (nodes : List Node) where
  -- the name of the variable whose local this is; none for a temporary
  abbrev pub local_name : ℕ → List ℕ
  local_name local =
      option_map_or name_of_binding
      (option_and_then (λ key. first_with key nodes) (slice_get (keys entries) local)) []

  -- the name of a captured variable, by the local of the closure's value and the part's number
  abbrev pub captured_name : ℕ → ℕ → Option (List ℕ)
  captured_name local part =
      option_and_then (λ key. first_capture key part nodes) (slice_get (keys entries) local)

  abbrev pub whole_words : ℕ → List Step → List ℕ
  whole_words local steps = local_name local ++ steps_words items (slice_get (tys entries) local) steps

  -- the words of a part of a closure's value that has a name
  abbrev pub captured_words : Option (List ℕ) → ℕ → ℕ → List Step → List ℕ
  captured_words name local part steps =
      option_map_or
      (λ name. name ++ steps_words items (ty_behind items (slice_get (tys entries) local) (ToPart part)) steps)
      name (whole_words local (ToPart part ∷ steps))

  abbrev pub words_from : ℕ → List Step → List ℕ
  words_from local (ToPart part ∷ steps) = captured_words (captured_name local part) local part steps
  words_from local steps = whole_words local steps

  abbrev pub place_words : Place → List ℕ
  place_words place = words_from place.local place.steps
