-- A well formed graph with short lists, as it stands in memory, is listed: its items are such as items are, and its
-- numbers fit their fields.
use Rattle.std.proofs.Common.{◌≡◌, ℕ, ◌-◌, ◌^◌, ◌<◌, true, ◌&&◌, List, [], ◌∷◌, length, Option, Some, None, All, IfSome, nat_lt, slice_get, refl, arith}
use Rattle.std.specs.List.{list_all}
use Rattle.std.specs.Option.{option_map_or}
use Rattle.std.proofs.lemmas.Bool.{and_parts}
use Rattle.mir_ty.specs.declared.adt.Adt.{Adt}
use Rattle.mir_ty.specs.declared.def.ClosureDef.{ClosureDef}
use Rattle.mir_ty.specs.declared.def.ImplDef.{ImplDef}
use Rattle.mir_ty.specs.AreItems.{AreItems}
use Rattle.mir_ty.specs.ItemTable.{ItemTable}
use Rattle.cfg_graph.specs.declared.graph.Block.{Block}
use Rattle.cfg_graph.specs.declared.graph.Body.{Body}
use Rattle.cfg_graph.specs.declared.graph.Graph.{Graph}
use Rattle.cfg_graph.specs.declared.statement.Stmt.{Stmt}
use Rattle.cfg_graph.specs.Edges.{targets}
use Rattle.cfg_graph.specs.Uses.{places_of_stmt, places_of_term}
use Rattle.cfg_graph.specs.WellFormed.Faults.{IsCounted, IsCountedBody, IsWellFormed}
use Rattle.cfg_graph.specs.WellFormed.ItemFaults.{adt_tests, closure_tests, exist, field_types, impl_exists, impl_tests}
use Rattle.cfg_graph.specs.WellFormed.LineFaults.{blocks_exist, body_tests, locals_exist, stmt_numbers_exist, stmt_tests, term_numbers_exist, term_tests}
use Rattle.cfg_graph.specs.WellFormed.Typing.{stmt_is_typed, term_is_typed}
use Rattle.cfg_graph.proofs.NoFaults.{broken-holds}
use Rattle.listing_write.specs.Compared.{IsListed}
use Rattle.listing_write.specs.Fields.{BlockFits, BodyFits, Fits, GraphFits, StmtFits}
use Rattle.listing_write.proofs.Reading.Basics.{Every}
use Rattle.listing_write.proofs.Reading.Listed.{all_at, every_by}
use Rattle.mir_text.proofs.Told.{all_from_every}
use Rattle.listing_trip.specs.Numbers.{AreNumbered, NumbersFit, OwnNumbersFit}
use Rattle.listing_trip.proofs.Faultless.{adt_holds, closure_holds, impl_holds, own_holds, stmt_holds, term_holds}
use Rattle.listing_trip.proofs.Fitting.{below}
use Rattle.listing_trip.proofs.FittingLines.{stmt_fits, term_fits}

pub all_by : {X : Type 0} (P : X → Type 0) (xs : List X) → ((n : ℕ) (x : X) → slice_get xs n ≡ Some x → P x) → All P xs
all_by P xs h = all_from_every P xs (every_by P xs h)

module _ (graph : Graph) (well : IsWellFormed graph) (counted : IsCounted graph) (are : AreItems graph.items)
    (numbers : NumbersFit graph) where
  abbrev items : ItemTable
  items = graph.items

  abbrev bodies : ℕ
  bodies = length graph.bodies

  few : bodies < 2 ^ 32
  few = let most = counted.bodies in omega (arith, most)

  body_below : (n : ℕ) → nat_lt n bodies ≡ true → Fits n
  body_below n h = below n bodies h few

  numbers_below : (ns : List ℕ) → list_all (λ n. nat_lt n bodies) ns ≡ true → Every Fits ns
  numbers_below [] h = tt
  numbers_below (n ∷ ns) h = let (here, others) = and_parts (nat_lt n bodies) _ h in
      (body_below n here, numbers_below ns others)

  drop_fits : (n : ℕ) (adt : Adt) → slice_get items.adts n ≡ Some adt → IfSome adt.drop_body Fits
  drop_fits n adt is =
      by adt.drop_body
      (and_parts (exist items bodies (field_types adt)) _
      (broken-holds (adt_tests items bodies n adt) (adt_holds graph well n adt is) 0
      (1, exist items bodies (field_types adt) && option_map_or (λ body. nat_lt body bodies) adt.drop_body true)
      refl)).1
    where
      by : (o : Option ℕ) → option_map_or (λ body. nat_lt body bodies) o true ≡ true → IfSome o Fits
      by None h = tt
      by (Some body) h = body_below body h

  impl_fits : (n : ℕ) (def : ImplDef) → slice_get items.impls n ≡ Some def → All Fits def.bodies
  impl_fits n def is =
      let there = broken-holds (impl_tests items bodies n def) (impl_holds graph well n def is) 0
      (1, impl_exists items bodies def) refl in
      all_from_every Fits def.bodies (numbers_below def.bodies
      (and_parts (nat_lt def.trait_no (length items.traits) && nat_lt def.adt (length items.adts)) _ there).1)

  closure_fits : (n : ℕ) (def : ClosureDef) → slice_get items.closures n ≡ Some def → Fits def.body
  closure_fits n def is =
      let there = broken-holds (closure_tests items bodies n def) (closure_holds graph well n def is) 0
      (1, exist items bodies def.captures && nat_lt def.body bodies) refl in
      body_below def.body (and_parts (exist items bodies def.captures) _ there).1

  module _ (number : ℕ) (body : Body) (at : slice_get graph.bodies number ≡ Some body) where
    short : IsCountedBody body
    short = all_at IsCountedBody graph.bodies number body counted.each at

    numbered : AreNumbered body
    numbered = all_at AreNumbered graph.bodies number body numbers.bodies at

    params_fit : Fits body.params
    params_fit =
        below body.params (length body.locals)
        (broken-holds (body_tests items bodies number body) (own_holds graph well number body at) 1
        (2, nat_lt body.params (length body.locals)) refl)
        (let most = short.locals in omega (arith, most))

    module _ (m : ℕ) (block : Block) (here : slice_get body.blocks m ≡ Some block) where
      own : OwnNumbersFit block
      own = all_at OwnNumbersFit body.blocks m block numbered here

      one : (k : ℕ) (stmt : Stmt) → slice_get block.stmts k ≡ Some stmt → StmtFits stmt
      one k stmt is =
          let none = stmt_holds graph well number body at m block here k stmt is in
          stmt_fits items bodies few are.short numbers.types body short.locals short.blocks stmt
          (broken-holds (stmt_tests items bodies body stmt) none 0 (1, stmt_numbers_exist items bodies stmt) refl)
          (broken-holds (stmt_tests items bodies body stmt) none 1
          (2, list_all (locals_exist items bodies body) (places_of_stmt stmt)) refl)
          (broken-holds (stmt_tests items bodies body stmt) none 2 (3, stmt_is_typed items body.locals stmt) refl)

      block_fits : BlockFits block
      block_fits =
          let none = term_holds graph well number body at m block here in
          let (called, led) = and_parts (term_numbers_exist items bodies block.term)
          (blocks_exist items bodies body (targets block.term))
          (broken-holds (term_tests items bodies body block) none 0
          (1, term_numbers_exist items bodies block.term && blocks_exist items bodies body (targets block.term)) refl)
          in
          record {
            rank = own.rank;
            stmts = all_by StmtFits block.stmts one;
            term =
                term_fits items bodies few are.short numbers.types body short.locals short.blocks block.term called led
                (broken-holds (term_tests items bodies body block) none 1
                (2, list_all (locals_exist items bodies body) (places_of_term block.term)) refl)
                (broken-holds (term_tests items bodies body block) none 2
                (3, term_is_typed items body.locals block.term) refl)
                own.count;
          }

    body_fits : BodyFits body
    body_fits = record { params = params_fit; blocks = all_by BlockFits body.blocks block_fits }

  graph_fits : GraphFits graph
  graph_fits = record {
    items = record {
      types = numbers.types;
      drops = all_by (λ (adt : Adt). IfSome adt.drop_body Fits) items.adts drop_fits;
      impls = all_by (λ (def : ImplDef). All Fits def.bodies) items.impls impl_fits;
      closures = all_by (λ (def : ClosureDef). Fits def.body) items.closures closure_fits;
    };
    bodies = all_by BodyFits graph.bodies body_fits;
  }

  pub is_listed : IsListed graph
  is_listed = record { items = are; fits = graph_fits; well_formed = well }
