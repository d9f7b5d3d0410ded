-- The faults of the lines of a body: its own line, its locals, its statements and its terminators.
use Rattle.std.specs.Prelude.{ℕ, suc, ◌==◌, Bool, true, false, not, ◌&&◌, List, [], ◌∷◌, map, take, Option, Some, None, is_some, length, slice_get, nat_lt}
use Rattle.std.specs.List.{list_all}
use Rattle.std.specs.Option.{option_map_or}
use Rattle.mir_ty.specs.declared.ty.TyId.{TyId}
use Rattle.mir_ty.specs.declared.def.Sig.{Sig}
use Rattle.mir_ty.specs.ItemTable.{ItemTable, type_at}
use Rattle.store_model.specs.Concrete.Effects.{impl_of}
use Rattle.cfg_graph.specs.declared.place.Place.{Place}
use Rattle.cfg_graph.specs.declared.statement.Stmt.{Stmt}
use Rattle.cfg_graph.specs.declared.terminator.Term.{Term}
use Rattle.cfg_graph.specs.declared.graph.Block.{Block}
use Rattle.cfg_graph.specs.declared.graph.Body.{Body}
use Rattle.cfg_graph.specs.WellFormed.Broken.{broken}
use Rattle.cfg_graph.specs.WellFormed.Cleanup.{edges_lower, keeps_to_cleanup}
use Rattle.cfg_graph.specs.Edges.{targets}
use Rattle.cfg_graph.specs.WellFormed.NameFaults.{is_name, is_repeated}
use Rattle.cfg_graph.specs.Places.{index_locals, ty_of_operand}
use Rattle.cfg_graph.specs.WellFormed.TypeFaults.{ty_exists, misplaces_dyn}
use Rattle.store_model.specs.Places.TypeForms.{same_ids, adt_of, box_content}
use Rattle.cfg_graph.specs.WellFormed.Typing.{stmt_is_typed, term_is_typed, method_at}
use Rattle.cfg_graph.specs.Uses.{places_of_stmt, places_of_term}

-- the items, and how many bodies there are
module _ (items : ItemTable) (bodies : ℕ) where
  -- G1 of a statement: the struct, enum, closure or trait that it names exists
  abbrev pub stmt_numbers_exist : Stmt → Bool
  stmt_numbers_exist (Stmt.Make to adt variant parts) = nat_lt adt (length items.adts)
  stmt_numbers_exist (Stmt.Close to closure parts) = nat_lt closure (length items.closures)
  stmt_numbers_exist (Stmt.Unsize to trait_no from) = nat_lt trait_no (length items.traits)
  stmt_numbers_exist _ = true

  -- G1 of a terminator, beside its blocks: the body, or the trait and its method, that it calls exists
  abbrev pub term_numbers_exist : Term → Bool
  term_numbers_exist (Term.Call to body args next unwind) = nat_lt body bodies
  term_numbers_exist (Term.Virtual to trait_no method args next unwind) = is_some (method_at items trait_no method)
  term_numbers_exist _ = true

  -- G2 of a line: the locals of a place exist, those of its indices too
  abbrev pub locals_exist : Body → Place → Bool
  locals_exist body place =
      list_all (λ local. nat_lt local (length body.locals)) (place.local ∷ index_locals place.steps)

  -- G6: the type whose box becomes a box of `dyn` has an impl of the trait
  abbrev pub has_row : ℕ → Option TyId → Bool
  has_row trait_no None = true
  has_row trait_no (Some content) =
      option_map_or (λ adt. is_some (impl_of items trait_no adt)) (adt_of (type_at items content)) false

  abbrev pub stmt_has_row : List TyId → Stmt → Bool
  stmt_has_row locals (Stmt.Unsize to trait_no from) = has_row trait_no (box_content (ty_of_operand items locals from))
  stmt_has_row locals _ = true

  -- of a statement
  abbrev pub stmt_tests : Body → Stmt → List (ℕ × Bool)
  stmt_tests body stmt =
      (1, stmt_numbers_exist stmt)
      ∷ (2, list_all (locals_exist body) (places_of_stmt stmt))
      ∷ (3, stmt_is_typed items body.locals stmt)
      ∷ (6, stmt_has_row body.locals stmt)
      ∷ []

  abbrev pub stmt_faults : Body → Stmt → List ℕ
  stmt_faults body stmt = broken (stmt_tests body stmt)

  -- the blocks to which edges lead exist
  abbrev pub blocks_exist : Body → List ℕ → Bool
  blocks_exist body blocks = list_all (λ n. nat_lt n (length body.blocks)) blocks

  -- of the terminator of a block
  abbrev pub term_tests : Body → Block → List (ℕ × Bool)
  term_tests body block =
      (1, term_numbers_exist block.term && blocks_exist body (targets block.term))
      ∷ (2, list_all (locals_exist body) (places_of_term block.term))
      ∷ (3, term_is_typed items body.locals block.term)
      ∷ (4, edges_lower body block)
      ∷ (5, keeps_to_cleanup body block)
      ∷ []

  abbrev pub term_faults : Body → Block → List ℕ
  term_faults body block = broken (term_tests body block)

  -- of a local, by its type
  abbrev pub local_tests : TyId → List (ℕ × Bool)
  local_tests id = (1, ty_exists items id) ∷ (3, not (misplaces_dyn items id)) ∷ []

  abbrev pub local_faults : TyId → List ℕ
  local_faults id = broken (local_tests id)

  -- a signature is that of the locals: the result first, and after it the parameters
  abbrev pub is_sig_of : Body → Sig → Bool
  is_sig_of body sig =
      (length sig.params == body.params) && same_ids (take (suc body.params) body.locals) (sig.result ∷ sig.params)

  abbrev pub has_sig : Body → Option Sig → Bool
  has_sig body sig = option_map_or (is_sig_of body) sig false

  abbrev pub body_names : List (List ℕ)
  body_names = map (λ sig. sig.name) items.bodies

  abbrev pub has_own_name : ℕ → Sig → Bool
  has_own_name n sig = is_name sig.name && not (is_repeated body_names n sig.name)

  -- of the line of the body with this number
  abbrev pub body_tests : ℕ → Body → List (ℕ × Bool)
  body_tests n body =
      (1, nat_lt 0 (length body.blocks))
      ∷ (2, nat_lt body.params (length body.locals))
      ∷ (3, has_sig body (slice_get items.bodies n))
      ∷ (7, option_map_or (has_own_name n) (slice_get items.bodies n) true)
      ∷ []

  abbrev pub body_faults : ℕ → Body → List ℕ
  body_faults n body = broken (body_tests n body)
