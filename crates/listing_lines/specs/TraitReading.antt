-- The lines of traits, read from the front of a text with their line feed, each exactly as it is written.
use Rattle.std.specs.Prelude.{ℕ, Bool, true, false, if◌then◌else◌, List, [], ◌∷◌, ◌++◌, codes, Option, Some, None, slice_get}
use Rattle.mir_ty.specs.declared.def.Sig.{Sig}
use Rattle.mir_ty.specs.declared.def.TraitDef.{TraitDef}
use Rattle.mir_ty.specs.declared.ty.Ty.{Ty}
use Rattle.mir_ty.specs.declared.ty.TyId.{TyId}
use Rattle.mir_ty.specs.ItemTable.{ItemTable}
use Rattle.cfg_graph.specs.WellFormed.NameFaults.{same_name, stands_in_names}
use Rattle.listing_write.specs.Compared.{SigSeen}
use Rattle.listing_write.specs.Reading.Lines.{ended}
use Rattle.listing_write.specs.Reading.Rows.{many, comma}
use Rattle.listing_write.specs.Reading.Words.{FoundInText, bind, chosen, or_else, as_, said, strip, span}
use Rattle.listing_parts.specs.TypeReading.{more_types, type_read}
use Rattle.listing_lines.specs.ItemReading.{blank_name}

-- whether `&mut` stands before the `dyn` of `self`
abbrev pub self_mark : List ℕ → FoundInText Bool
self_mark t = or_else (said (codes "&dyn ") false t) (said (codes "&mut dyn ") true t)

abbrev pub self_text : Bool → List ℕ → List ℕ
self_text false name = codes "&dyn " ++ name
self_text true name = codes "&mut dyn " ++ name

abbrev pub reference_to : Bool → TyId → Ty
reference_to false to = Ty.Shared to
reference_to true to = Ty.Unique to

abbrev pub sig_of : List ℕ → List TyId → TyId → Sig
sig_of name params result = record { name = name; params = params; result = result }

abbrev pub trait_of : List ℕ → List Sig → TraitDef
trait_of name methods = record { name = name; methods = methods }

-- behind the name of the trait itself
abbrev pub own_from : List ℕ → List ℕ × List ℕ → Option (List ℕ)
own_from name q = if same_name q.0 name then Some q.1 else None

abbrev pub own_read : List ℕ → List ℕ → Option (List ℕ)
own_read name t = own_from name (span stands_in_names t)

-- the type of `self`: a reference to `dyn` of the trait itself
abbrev pub self_read : List ℕ → List ℕ → FoundInText Bool
self_read name t = bind (self_mark t) (λ mark. bind (own_read name mark.1) (λ r. Some (mark.0, r)))

abbrev pub closed_params : List ℕ → List (List ℕ) × List ℕ → FoundInText (List (List ℕ))
closed_params first q = bind (strip (codes ")") q.1) (λ r. Some (first ∷ q.0, r))

-- behind the parameters of a method of this name
abbrev pub result_from : ItemTable → List ℕ → List (List ℕ) × List ℕ → FoundInText SigSeen
result_from heads method params =
    bind (strip (codes " ") params.1) (λ t. as_ (λ result. (method, params.0, result)) (type_read heads t))

module _ (heads : ItemTable) (name : List ℕ) where
  abbrev pub params_from : Bool × List ℕ → FoundInText (List (List ℕ))
  params_from mark = closed_params (self_text mark.0 name) (more_types heads mark.1)

  -- the types of the parameters, that of `self` first
  abbrev pub params_read : List ℕ → FoundInText (List (List ℕ))
  params_read t = bind (strip (codes "(") t) (λ t. bind (self_read name t) params_from)

  -- `m (&dyn NAME, T) T`
  abbrev pub method_from : List ℕ × List ℕ → FoundInText SigSeen
  method_from method = bind (params_read method.1) (result_from heads method.0)

  abbrev pub method_read : List ℕ → FoundInText SigSeen
  method_read t = bind (blank_name t) method_from

  -- one method, and as many as stand behind commas
  abbrev pub with_more : SigSeen × List ℕ → FoundInText (List SigSeen)
  with_more first =
      Some (first.0 ∷ (many (comma method_read) first.1).0, (many (comma method_read) first.1).1)

  abbrev pub some_methods : List ℕ → FoundInText (List SigSeen)
  some_methods t = bind (method_read t) with_more

  abbrev pub closed_braces : List SigSeen × List ℕ → FoundInText (List SigSeen)
  closed_braces q = bind (strip (codes " }") q.1) (λ r. Some (q.0, r))

  abbrev pub methods_behind : List ℕ → FoundInText (List SigSeen)
  methods_behind t = bind (some_methods t) closed_braces

  -- methods in braces, maybe none
  abbrev pub methods_read : List ℕ → FoundInText (List SigSeen)
  methods_read t =
      chosen (strip (codes "{ }") t) (λ r. Some ([], r)) (bind (strip (codes "{ ") t) methods_behind)

  abbrev pub trait_from : List ℕ → FoundInText (List ℕ × List SigSeen)
  trait_from t = as_ (λ methods. (name, methods)) (ended (methods_read t))

-- the name of the trait with this number among the heads, with a blank behind it
abbrev pub own_head_from : ItemTable → ℕ → List ℕ × List ℕ → FoundInText (List ℕ)
own_head_from heads n name =
    bind (slice_get heads.traits n) (λ def. if same_name name.0 def.name then Some name else None)

abbrev pub own_head : ItemTable → ℕ → List ℕ → FoundInText (List ℕ)
own_head heads n t = bind (strip (codes "trait ") t) (λ t. bind (blank_name t) (own_head_from heads n))

-- `trait NAME { m (&dyn NAME, T) T, k (&mut dyn NAME) T }`
abbrev pub trait_read : ItemTable → ℕ → List ℕ → FoundInText (List ℕ × List SigSeen)
trait_read heads n t = bind (own_head heads n t) (λ name. trait_from heads name.0 name.1)
