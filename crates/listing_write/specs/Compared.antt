-- Graphs as they are compared: without the names of fields, without signatures past the last body, and with types as
-- they are written instead of by their numbers.
use Rattle.std.specs.Prelude.{◌≡◌, ◌<◌, ℕ, suc, Bool, true, List, [], ◌∷◌, map, length, All, Option, option_map, slice_get}
use Rattle.mir_ty.specs.declared.adt.Adt.{Adt}
use Rattle.mir_ty.specs.declared.adt.Variant.{Variant}
use Rattle.mir_ty.specs.declared.def.Sig.{Sig}
use Rattle.mir_ty.specs.declared.def.TraitDef.{TraitDef}
use Rattle.mir_ty.specs.declared.def.ImplDef.{ImplDef}
use Rattle.mir_ty.specs.declared.def.ClosureDef.{ClosureDef}
use Rattle.mir_ty.specs.declared.ty.TyId.{TyId}
use Rattle.mir_ty.specs.AreItems.{AreItems, AreTypes}
use Rattle.mir_ty.specs.ItemTable.{ItemTable}
use Rattle.cfg_graph.specs.declared.graph.Block.{Block}
use Rattle.cfg_graph.specs.declared.graph.Body.{Body}
use Rattle.cfg_graph.specs.declared.graph.Graph.{Graph}
use Rattle.cfg_graph.specs.WellFormed.Faults.{IsWellFormed}
use Rattle.cfg_graph.specs.WellFormed.TypeFaults.{ty_exists}
use Rattle.listing_write.specs.Fields.{GraphFits}
use Rattle.listing_write.specs.Listing.{listing}
use Rattle.listing_write.specs.Types.{type_text}

-- a type, as it is written
abbrev pub Written : Type 0
Written = List ℕ

-- a variant: its name and the types of its fields
abbrev pub VariantSeen : Type 0
VariantSeen = List ℕ × List Written

pub record AdtSeen : Type 0 where
  pub is_enum : Bool
  pub name : List ℕ
  pub variants : List VariantSeen
  pub copy : Bool
  pub drop_body : Option ℕ

-- a signature: a name, the types of the parameters, and that of the result
abbrev pub SigSeen : Type 0
SigSeen = List ℕ × List Written × Written

pub record BodySeen : Type 0 where
  pub signature : Option SigSeen
  pub params : ℕ
  pub locals : List Written
  pub blocks : List Block

pub record GraphSeen : Type 0 where
  pub adts : List AdtSeen
  pub traits : List (List ℕ × List SigSeen)
  pub impls : List ImplDef
  pub closures : List (List Written × ℕ)
  pub bodies : List BodySeen

-- each of a list, with the number at which it stands
abbrev pub numbered : {X Z : Type 0} → (ℕ → X → Z) → ℕ → List X → List Z
numbered seen n [] = []
numbered seen n (x ∷ xs) = seen n x ∷ numbered seen (suc n) xs

module _ (items : ItemTable) where
  abbrev pub variant_seen : Variant → VariantSeen
  variant_seen variant = (variant.name, map (type_text items) variant.fields)

  abbrev pub adt_seen : Adt → AdtSeen
  adt_seen adt = record {
    is_enum = adt.is_enum;
    name = adt.name;
    variants = map variant_seen adt.variants;
    copy = adt.copy;
    drop_body = adt.drop_body;
  }

  abbrev pub sig_seen : Sig → SigSeen
  sig_seen sig = (sig.name, map (type_text items) sig.params, type_text items sig.result)

  abbrev pub trait_seen : TraitDef → List ℕ × List SigSeen
  trait_seen def = (def.name, map sig_seen def.methods)

  abbrev pub closure_seen : ClosureDef → List Written × ℕ
  closure_seen def = (map (type_text items) def.captures, def.body)

  abbrev pub body_seen : ℕ → Body → BodySeen
  body_seen n body = record {
    signature = option_map sig_seen (slice_get items.bodies n);
    params = body.params;
    locals = map (type_text items) body.locals;
    blocks = body.blocks;
  }

abbrev pub seen : Graph → GraphSeen
seen graph = record {
  adts = map (adt_seen graph.items) graph.items.adts;
  traits = map (trait_seen graph.items) graph.items.traits;
  impls = graph.items.impls;
  closures = map (closure_seen graph.items) graph.items.closures;
  bodies = numbered (body_seen graph.items) 0 graph.bodies;
}

-- a well formed graph, such as its fields can hold
pub record IsListed (graph : Graph) : Type 0 where
  pub items : AreItems graph.items
  pub fits : GraphFits graph
  pub well_formed : IsWellFormed graph

-- what the law of listings says: two well formed graphs of one listing are equal as compared
abbrev pub OneGraphAListing : Type 0
OneGraphAListing =
    (left right : Graph) → IsListed left → IsListed right → listing left ≡ listing right → seen left ≡ seen right

-- each type of the table exists, and the types of the locals are in it
pub record TypesExist (graph : Graph) : Type 0 where
  pub table : (id : TyId) → id.0 < length graph.items.types → ty_exists graph.items id ≡ true
  pub locals : All (λ body. AreTypes graph.items.types body.locals) graph.bodies

-- and being well formed is told by what is compared: where a graph whose types exist equals a well formed one as
-- compared, it is well formed too
abbrev pub WellFormedAsCompared : Type 0
WellFormedAsCompared =
    (left right : Graph) → IsListed left → AreItems right.items → TypesExist right → GraphFits right →
    seen left ≡ seen right → IsWellFormed right
