-- The faults of a graph, and when it has none. They stand in the order of the text: structs and enums, traits, impls
-- and closures; then each body with its own line, its locals, and its blocks with their statements and terminators;
-- and last a `main` that is missing. At one line the lowest number stands first.
use Rattle.std.specs.Prelude.{◌≡◌, ◌<◌, All, ℕ, suc, ◌+◌, ◌-◌, ◌^◌, ◌==◌, Bool, true, false, ◌&&◌, List, [], ◌∷◌, ◌++◌, map, zip, Option, Some, length, codes, slice_get}
use Rattle.std.specs.List.{list_any}
use Rattle.mir_ty.specs.declared.def.Sig.{Sig}
use Rattle.mir_ty.specs.declared.ty.Ty.{Ty}
use Rattle.mir_ty.specs.AreItems.{types_in}
use Rattle.mir_ty.specs.Parts.{NoneHoldsItself}
use Rattle.cfg_graph.specs.declared.graph.Block.{Block}
use Rattle.cfg_graph.specs.declared.graph.Body.{Body}
use Rattle.cfg_graph.specs.declared.graph.Graph.{Graph}
use Rattle.cfg_graph.specs.declared.graph.GraphFault.{GraphFault}
use Rattle.cfg_graph.specs.Edges.{IsRanked}
use Rattle.cfg_graph.specs.WellFormed.Broken.{first_of}
use Rattle.cfg_graph.specs.WellFormed.ItemFaults.{adt_faults, trait_faults, impl_faults, closure_faults}
use Rattle.cfg_graph.specs.WellFormed.LineFaults.{stmt_faults, term_faults, local_faults, body_faults}
use Rattle.cfg_graph.specs.WellFormed.NameFaults.{same_name}

-- where a fault has no body, no block or no line
abbrev pub nowhere : ℕ
nowhere = 2 ^ 32 - 1

-- the faults of one line
abbrev pub at_line : (body block line : ℕ) → List ℕ → List GraphFault
at_line body block line numbers =
    map (λ number. record { number = number; body = body; block = block; line = line }) numbers

-- the faults of things that are counted from a number on
abbrev pub of_each : {X : Type 0} → (ℕ → X → List GraphFault) → ℕ → List X → List GraphFault
of_each faults n [] = []
of_each faults n (x ∷ xs) = faults n x ++ of_each faults (suc n) xs

module _ (graph : Graph) where
  abbrev pub bodies : ℕ
  bodies = length graph.bodies

  -- the lines of items are counted in the order of the text; those of a kind begin after this many
  abbrev pub of_items : {X : Type 0} → ℕ → (ℕ → X → List ℕ) → List X → List GraphFault
  of_items before faults items = of_each (λ n item. at_line nowhere nowhere (before + n) (faults n item)) 0 items

  -- of structs and enums, of traits, of impls, of closures, and of all items
  abbrev pub adts_faults : List GraphFault
  adts_faults = of_items 0 (adt_faults graph.items bodies) graph.items.adts

  abbrev pub traits_faults : List GraphFault
  traits_faults = of_items (length graph.items.adts) (trait_faults graph.items bodies) graph.items.traits

  abbrev pub impls_faults : List GraphFault
  impls_faults =
      of_items (length graph.items.adts + length graph.items.traits) (impl_faults graph.items bodies) graph.items.impls

  abbrev pub closures_faults : List GraphFault
  closures_faults =
      of_items (length graph.items.adts + length graph.items.traits + length graph.items.impls)
      (closure_faults graph.items bodies) graph.items.closures

  abbrev pub item_faults : List GraphFault
  item_faults = adts_faults ++ (traits_faults ++ (impls_faults ++ closures_faults))

  -- of the statements of a block, and of the whole block
  abbrev pub stmts_faults : (number : ℕ) → Body → ℕ → Block → List GraphFault
  stmts_faults number body n block =
      of_each (λ line stmt. at_line number n line (stmt_faults graph.items bodies body stmt)) 0 block.stmts

  abbrev pub block_faults : (number : ℕ) → Body → ℕ → Block → List GraphFault
  block_faults number body n block =
      stmts_faults number body n block
      ++ at_line number n (length block.stmts) (term_faults graph.items bodies body block)

  -- of the line of a body, of its locals, and of the whole body
  abbrev pub own_faults : (number : ℕ) → Body → List GraphFault
  own_faults number body = at_line number nowhere nowhere (body_faults graph.items bodies number body)

  abbrev pub locals_faults : (number : ℕ) → Body → List GraphFault
  locals_faults number body =
      of_each (λ n id. at_line number nowhere n (local_faults graph.items bodies id)) 0 body.locals

  abbrev pub faults_of_body : ℕ → Body → List GraphFault
  faults_of_body number body =
      own_faults number body ++ (locals_faults number body ++ of_each (block_faults number body) 0 body.blocks)

  -- `main`, without parameters
  abbrev pub is_main : Sig × Body → Bool
  is_main heads = same_name heads.0.name (codes "main") && (heads.1.params == 0)

  -- whether there is a `main`
  abbrev pub main_faults : Bool → List GraphFault
  main_faults true = []
  main_faults false = at_line nowhere nowhere nowhere (1 ∷ [])

  abbrev pub end_faults : List GraphFault
  end_faults = main_faults (list_any is_main (zip graph.items.bodies graph.bodies))

  -- all faults in the order of the text, and the first of them
  abbrev pub faults : List GraphFault
  faults = item_faults ++ (of_each faults_of_body 0 graph.bodies ++ end_faults)

  abbrev pub first_fault : Option GraphFault
  first_fault = first_of faults

  -- no fault at all
  abbrev pub IsWellFormed : Type 0
  IsWellFormed = faults ≡ []

-- what the law of ranks says: in a graph without a fault each body is ranked
abbrev pub WellFormedIsRanked : Type 0
WellFormedIsRanked =
    (graph : Graph) (n : ℕ) (body : Body) → IsWellFormed graph → slice_get graph.bodies n ≡ Some body → IsRanked body

-- the types in a type have lower numbers: so it is where each type is interned after those in it
abbrev pub ArePartsFirst : List Ty → Type 0
ArePartsFirst types = (n : ℕ) (ty : Ty) → slice_get types n ≡ Some ty → All (λ id. id.0 < n) (types_in ty)

-- what the law of items says: in a graph without a fault no type holds itself
abbrev pub WellFormedHoldsNothing : Type 0
WellFormedHoldsNothing =
    (graph : Graph) → IsWellFormed graph → ArePartsFirst graph.items.types → NoneHoldsItself graph.items

-- the lists of a body, and of a graph, have fewer members than a number of 32 bits can count
pub record IsCountedBody (body : Body) : Type 0 where
  pub locals : length body.locals < 2 ^ 32 - 1
  pub blocks : length body.blocks < 2 ^ 32 - 1
  pub stmts : All (λ (block : Block). length block.stmts < 2 ^ 32 - 1) body.blocks

pub record IsCounted (graph : Graph) : Type 0 where
  pub bodies : length graph.bodies < 2 ^ 32 - 1
  pub each : All IsCountedBody graph.bodies
