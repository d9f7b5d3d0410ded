-- When a graph is ready for drop elaboration: what a lowering gives, and that no path meets a bad use. (The rustc
-- development guide, "Drop elaboration", which runs after the borrow checker has passed a body.)
use Rattle.std.specs.Prelude.{◌≡◌, ℕ, ◌==◌, Bool, true, false, not, ◌&&◌, ◌||◌, List, [], ◌∷◌, ◌++◌, count_by, flat_map, if◌then◌else◌, length, Option, Some, is_some, slice_get, option_and_then, Contains, nat_eq}
use Rattle.std.specs.List.{list_any, list_all, range_with_len}
use Rattle.std.specs.Option.{option_map_or}
use Rattle.mir_ty.specs.declared.ty.Ty.{Ty}
use Rattle.mir_ty.specs.declared.ty.TyId.{TyId}
use Rattle.mir_ty.specs.AreItems.{types_in}
use Rattle.mir_ty.specs.ItemTable.{ItemTable, type_at}
use Rattle.cfg_graph.specs.declared.graph.Body.{Body}
use Rattle.cfg_graph.specs.declared.graph.Graph.{Graph}
use Rattle.cfg_graph.specs.declared.place.Operand.{Operand}
use Rattle.cfg_graph.specs.declared.place.Place.{Place}
use Rattle.cfg_graph.specs.declared.statement.Stmt.{Stmt}
use Rattle.cfg_graph.specs.declared.terminator.Term.{Term}
use Rattle.cfg_graph.specs.declared.terminator.Unwind.{Unwind}
use Rattle.cfg_graph.specs.Moves.Actions.{actions_on}
use Rattle.cfg_graph.specs.Moves.BadUses.{bad_uses_on}
use Rattle.cfg_graph.specs.Edges.{targets}
use Rattle.cfg_graph.specs.WellFormed.Faults.{IsWellFormed}
use Rattle.cfg_graph.specs.Moves.Gone.{has_index, is_param}
use Rattle.cfg_graph.specs.NamedPlaces.{same_place, references_made, keeps_named}
use Rattle.cfg_graph.specs.Moves.Paths.{IsPath}
use Rattle.cfg_graph.specs.Places.{named}
use Rattle.cfg_graph.specs.Uses.{operands_of_stmt, operands_of_term, stored_by_stmt, stored_by_term, places_of_stmt, places_of_term}
use Rattle.store_model.specs.Concrete.Drops.{drop_impl}
use Rattle.store_model.specs.Places.Place.{Step, step_ty, is_reference, whole_local}

-- a test of all statements of a body, and of all blocks
abbrev pub all_stmts : (Stmt → Bool) → Body → Bool
all_stmts test body = list_all (λ block. list_all test block.stmts) body.blocks

abbrev pub all_terms : (Term → Bool) → Body → Bool
all_terms test body = list_all (λ block. test block.term) body.blocks

-- nothing is freed by a statement of its own, as elaboration does it
abbrev pub is_no_free : Stmt → Bool
is_no_free (Stmt.Free place) = false
is_no_free stmt = true

abbrev pub frees_nothing : Body → Bool
frees_nothing body = all_stmts is_no_free body

-- no edge leads back to the block in which the body begins
abbrev pub begins_once : Body → Bool
begins_once body = all_terms (λ term. not (list_any (nat_eq 0) (targets term))) body

-- the types of the containers of a place, from its local on
abbrev pub container_tys : ItemTable → Option TyId → List Step → List (Option Ty)
container_tys items id [] = []
container_tys items id (step ∷ steps) =
    option_and_then (type_at items) id
    ∷ container_tys items (option_and_then (step_ty items step) (option_and_then (type_at items) id)) steps

-- the places that a statement stores into and those that a terminator does, in a whole body
abbrev pub stored_in : Body → List Place
stored_in body = flat_map (λ block. flat_map stored_by_stmt block.stmts ++ stored_by_term block.term) body.blocks

module _ (items : ItemTable) (body : Body) where
  abbrev pub containers_of : Place → List (Option Ty)
  containers_of place = container_tys items (slice_get body.locals place.local) (named place).steps

  -- a place may be left gone: it is not behind a reference, has no index, and does not lie within a value of a type
  -- with a `Drop` impl
  abbrev pub may_be_left_gone : Place → Bool
  may_be_left_gone place =
      not (has_index (named place).steps)
      && not (list_any (λ ty. is_reference ty || is_some (drop_impl items ty)) (containers_of place))

  -- a value is moved out only where its place may be left gone
  abbrev pub moves_out_well : Operand → Bool
  moves_out_well (Operand.Moved place) = may_be_left_gone place
  moves_out_well operand = true

  abbrev pub moves_well : Bool
  moves_well =
      all_stmts (λ stmt. list_all moves_out_well (operands_of_stmt stmt)) body
      && all_terms (λ term. list_all moves_out_well (operands_of_term term)) body

  -- the first statement of a block stores into a place
  abbrev pub begins_by_storing : Place → List Stmt → Bool
  begins_by_storing place [] = false
  begins_by_storing place (first ∷ rest) = list_any (λ to. same_place (named to) (named place)) (stored_by_stmt first)

  abbrev pub refills : Place → ℕ → Bool
  refills place n = option_map_or (λ block. begins_by_storing place block.stmts) (slice_get body.blocks n) false

  abbrev pub refills_after_panic : Place → Unwind → Bool
  refills_after_panic place (Unwind.Block block) = refills place block
  refills_after_panic place Unwind.Resume = false
  refills_after_panic place Unwind.Abort = true

  -- a place that may not be left gone gets a value again as soon as it is dropped
  abbrev pub drops_well : Term → Bool
  drops_well (Term.DropAt place next unwind) =
      may_be_left_gone place || (refills place next && refills_after_panic place unwind)
  drops_well term = true

  abbrev pub refills_dropped : Bool
  refills_dropped = all_terms drops_well body

  -- how often a whole local is stored into, and how often a reference is made there
  abbrev pub times_stored : ℕ → ℕ
  times_stored local = count_by (λ to. same_place (named to) (whole_local local)) (stored_in body)

  abbrev pub times_made : ℕ → ℕ
  times_made local = count_by (λ made. made.0 == local) (references_made body)

  -- no line has a place that begins with the local
  abbrev pub is_unnamed : ℕ → Bool
  is_unnamed local =
      all_stmts (λ stmt. list_all (λ place. not (place.local == local)) (places_of_stmt stmt)) body
      && all_terms (λ term. list_all (λ place. not (place.local == local)) (places_of_term term)) body

  -- a local of a reference type is a parameter, which is not stored into, or one whose reference is made by one
  -- statement and by nothing else; none makes it where no line names it, since what did was never reached
  abbrev pub holds_reference_well : ℕ → Bool
  holds_reference_well local =
      if is_param items body local then times_stored local == 0
      else not (local == 0) && ((times_stored local == 1) && (times_made local == 1) || is_unnamed local)

  abbrev pub local_well : ℕ → Bool
  local_well local =
      not (is_reference (option_and_then (type_at items) (slice_get body.locals local))) || holds_reference_well local

  abbrev pub references_in_locals : Bool
  references_in_locals = list_all local_well (range_with_len 0 (length body.locals))

-- no type has a reference in it
abbrev pub holds_no_reference : ItemTable → List TyId → Bool
holds_no_reference items ids = not (list_any (λ id. is_reference (type_at items id)) ids)

-- a reference type stands in no other type, in no field and no capture, and is the type of no result
abbrev pub references_stand_alone : ItemTable → Bool
references_stand_alone items =
    list_all (λ ty. holds_no_reference items (types_in ty)) items.types
    && list_all (λ adt. list_all (λ variant. holds_no_reference items variant.fields) adt.variants) items.adts
    && list_all (λ closure. holds_no_reference items closure.captures) items.closures
    && list_all (λ sig. holds_no_reference items (sig.result ∷ [])) items.bodies
    && list_all (λ def. list_all (λ method. holds_no_reference items (method.result ∷ [])) def.methods) items.traits

-- what a body keeps to for elaboration, use by use
pub record IsPreparedBody (items : ItemTable) (body : Body) : Type 0 where
  pub no_free : frees_nothing body ≡ true
  pub one_beginning : begins_once body ≡ true
  pub moves : moves_well items body ≡ true
  pub drops : refills_dropped items body ≡ true
  pub references : references_in_locals items body ≡ true
  -- on no path is what a reference names taken between its making and a use of it
  pub named_stays : (path : List ℕ) (given : List Bool) (local : ℕ) →
      IsPath items body path given → keeps_named body (actions_on body path) local ≡ true

-- What a lowering gives: a well formed graph with all that elaboration wants, but that no path meets a bad use. Drop
-- flags are of the type `bool`.
pub record IsPrepared (graph : Graph) : Type 0 where
  pub well_formed : IsWellFormed graph
  pub has_bool : Contains graph.items.types Ty.Bool
  pub alone : references_stand_alone graph.items ≡ true
  pub prepared : (n : ℕ) (body : Body) → slice_get graph.bodies n ≡ Some body → IsPreparedBody graph.items body

abbrev pub MeetsNoBadUse : Graph → Type 0
MeetsNoBadUse graph = (n : ℕ) (body : Body) (path : List ℕ) (given : List Bool) →
    slice_get graph.bodies n ≡ Some body → IsPath graph.items body path given → bad_uses_on graph.items body path ≡ []

pub record IsReadyGraph (graph : Graph) : Type 0 where
  pub prepared : IsPrepared graph
  pub uses : MeetsNoBadUse graph
