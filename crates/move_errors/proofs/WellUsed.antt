-- In a graph without a fault each body has a block, and its uses are of locals that exist.
use Rattle.std.proofs.Common.{◌≡◌, inl, inr, ℕ, suc, ◌+◌, ◌<◌, Bool, true, false, not, ◌&&◌, nat_lt, List, [], ◌∷◌, ◌++◌, map, flat_map, take, length, Option, Some, None, slice_get, Contains, refl, ap, subst}
use Rattle.std.specs.Prelude.{is_some, ◌==◌}
use Rattle.std.specs.List.{list_all}
use Rattle.std.specs.Option.{option_map_or}
use Rattle.std.specs.Cmp.{first_so, second_so}
use Rattle.std.specs.Cmp.Derive.{both_true}
use Rattle.std.proofs.lemmas.Bool.{ltb-true, lt-ltb}
use Rattle.move_errors.specs.Locals.{is_local, has_locals, WellFormedHasLocals}
use Rattle.move_errors.proofs.Sorted.{here, there}
use Rattle.std.proofs.lemmas.List.Elements.{Contains-append_left, Contains-append_right, Contains-append_cases, All-contains}
use Rattle.std.proofs.lemmas.List.Sums.{AllPass-from_list_all}
use Rattle.mir_ty.specs.declared.ty.TyId.{TyId}
use Rattle.mir_ty.specs.declared.def.Sig.{Sig}
use Rattle.mir_ty.specs.ItemTable.{ItemTable, type_at}
use Rattle.mir_ty.proofs.ListLemmas.{slice_get-Contains}
use Rattle.store_model.specs.Concrete.Effects.{impl_of}
use Rattle.store_model.specs.Places.TypeForms.{same_ids, adt_of, box_content}
use Rattle.cfg_graph.specs.declared.place.Place.{Place}
use Rattle.cfg_graph.specs.declared.statement.Stmt.{Stmt}
use Rattle.cfg_graph.specs.declared.graph.Block.{Block}
use Rattle.cfg_graph.specs.declared.graph.Body.{Body}
use Rattle.cfg_graph.specs.declared.graph.Graph.{Graph}
use Rattle.cfg_graph.specs.Places.{index_locals, ty_of_operand}
use Rattle.cfg_graph.specs.Uses.{PlaceUse, Stores, stmt_uses, term_uses, stored_by_term, places_of_stmt, places_of_term}
use Rattle.cfg_graph.specs.WellFormed.Faults.{nowhere, at_line, of_each, item_faults, own_faults, locals_faults, stmts_faults, block_faults, faults_of_body, end_faults, IsWellFormed}
use Rattle.cfg_graph.specs.WellFormed.LineFaults.{stmt_faults, term_tests, term_faults, body_faults}
use Rattle.cfg_graph.specs.WellFormed.NameFaults.{is_name, is_repeated}
use Rattle.cfg_graph.specs.WellFormed.Typing.{stmt_is_typed}
use Rattle.cfg_graph.proofs.NoFaults.{first_empty, second_empty, map_empty, of_each-empty, broken-holds}
use Rattle.move_paths.specs.Uses.{block_uses}
use Rattle.move_errors.proofs.Pathways.{in-flat, in-map, map-in}

-- the tests of lines, as the definition has them
module _ (items : ItemTable) (bodies : ℕ) where
  abbrev stmt_numbers_exist : Stmt → Bool
  stmt_numbers_exist (Stmt.Make to adt variant parts) = nat_lt adt (length items.adts)
  stmt_numbers_exist (Stmt.Close to closure parts) = nat_lt closure (length items.closures)
  stmt_numbers_exist (Stmt.Unsize to trait_no from) = nat_lt trait_no (length items.traits)
  stmt_numbers_exist _ = true

  abbrev locals_exist : Body → Place → Bool
  locals_exist body place =
      list_all (λ local. nat_lt local (length body.locals)) (place.local ∷ index_locals place.steps)

  abbrev has_row : ℕ → Option TyId → Bool
  has_row trait_no None = true
  has_row trait_no (Some content) =
      option_map_or (λ adt. is_some (impl_of items trait_no adt)) (adt_of (type_at items content)) false

  abbrev stmt_has_row : List TyId → Stmt → Bool
  stmt_has_row locals (Stmt.Unsize to trait_no from) = has_row trait_no (box_content (ty_of_operand items locals from))
  stmt_has_row locals _ = true

  abbrev stmt_tests : Body → Stmt → List (ℕ × Bool)
  stmt_tests body stmt =
      (1, stmt_numbers_exist stmt)
      ∷ (2, list_all (locals_exist body) (places_of_stmt stmt))
      ∷ (3, stmt_is_typed items body.locals stmt)
      ∷ (6, stmt_has_row body.locals stmt)
      ∷ []

  abbrev is_sig_of : Body → Sig → Bool
  is_sig_of body sig =
      (length sig.params == body.params) && same_ids (take (suc body.params) body.locals) (sig.result ∷ sig.params)

  abbrev has_sig : Body → Option Sig → Bool
  has_sig body sig = option_map_or (is_sig_of body) sig false

  abbrev body_names : List (List ℕ)
  body_names = map (λ sig. sig.name) items.bodies

  abbrev has_own_name : ℕ → Sig → Bool
  has_own_name n sig = is_name sig.name && not (is_repeated body_names n sig.name)

  abbrev body_tests : ℕ → Body → List (ℕ × Bool)
  body_tests n body =
      (1, nat_lt 0 (length body.blocks))
      ∷ (2, nat_lt body.params (length body.locals))
      ∷ (3, has_sig body (slice_get items.bodies n))
      ∷ (7, option_map_or (has_own_name n) (slice_get items.bodies n) true)
      ∷ []

  local-exists : (body : Body) (places : List Place) (place : Place) → list_all (locals_exist body) places ≡ true → Contains places place → place.local < length body.locals
  local-exists body places place all has =
      let one : locals_exist body place ≡ true = All-contains (λ p. locals_exist body p ≡ true) places place (AllPass-from_list_all (locals_exist body) places all) has in
      ltb-true place.local (length body.locals)
      (first_so (nat_lt place.local (length body.locals)) (list_all (λ local. nat_lt local (length body.locals)) (index_locals place.steps)) one)

module _ (graph : Graph) (well : IsWellFormed graph) (number : ℕ) (body : Body) (found : slice_get graph.bodies number ≡ Some body) where
  abbrev bodies : ℕ
  bodies = length graph.bodies

  of-body : faults_of_body graph (0 + number) body ≡ []
  of-body =
      let in_bodies = first_empty (of_each (faults_of_body graph) 0 graph.bodies) (end_faults graph) (second_empty (item_faults graph) (of_each (faults_of_body graph) 0 graph.bodies ++ end_faults graph) well) in
      of_each-empty (faults_of_body graph) 0 graph.bodies in_bodies number body found

  pub has-block : 0 < length body.blocks
  has-block =
      let own = first_empty (own_faults graph (0 + number) body) (locals_faults graph (0 + number) body ++ of_each (block_faults graph (0 + number) body) 0 body.blocks) of-body in
      let none = map_empty (λ (k : ℕ). record { number = k; body = 0 + number; block = nowhere; line = nowhere }) (body_faults graph.items bodies (0 + number) body) own in
      ltb-true 0 (length body.blocks) (broken-holds (body_tests graph.items bodies (0 + number) body) none 0 (1, nat_lt 0 (length body.blocks)) refl)

  in-blocks : (n : ℕ) (block : Block) → slice_get body.blocks n ≡ Some block → block_faults graph (0 + number) body (0 + n) block ≡ []
  in-blocks n block at =
      let rest = second_empty (own_faults graph (0 + number) body) (locals_faults graph (0 + number) body ++ of_each (block_faults graph (0 + number) body) 0 body.blocks) of-body in
      let blocks = second_empty (locals_faults graph (0 + number) body) (of_each (block_faults graph (0 + number) body) 0 body.blocks) rest in
      of_each-empty (block_faults graph (0 + number) body) 0 body.blocks blocks n block at

  stmt-local : (n : ℕ) (block : Block) → slice_get body.blocks n ≡ Some block → (k : ℕ) (stmt : Stmt) → slice_get block.stmts k ≡ Some stmt → (made : PlaceUse × Place) → Contains (stmt_uses stmt) made → made.1.local < length body.locals
  stmt-local n block at k stmt here made has =
      let stmts = first_empty (stmts_faults graph (0 + number) body (0 + n) block) (at_line (0 + number) (0 + n) (length block.stmts) (term_faults graph.items bodies body block)) (in-blocks n block at) in
      let one = of_each-empty (λ line stmt. at_line (0 + number) (0 + n) line (stmt_faults graph.items bodies body stmt)) 0 block.stmts stmts k stmt here in
      let none = map_empty (λ (j : ℕ). record { number = j; body = 0 + number; block = 0 + n; line = 0 + k }) (stmt_faults graph.items bodies body stmt) one in
      local-exists graph.items bodies body (places_of_stmt stmt) made.1
      (broken-holds (stmt_tests graph.items bodies body stmt) none 1 (2, list_all (locals_exist graph.items bodies body) (places_of_stmt stmt)) refl)
      (map-in (λ (made : PlaceUse × Place). made.1) (stmt_uses stmt) made has)

  term-local : (n : ℕ) (block : Block) → slice_get body.blocks n ≡ Some block → (place : Place) → Contains (places_of_term block.term) place → place.local < length body.locals
  term-local n block at place has =
      let line = second_empty (stmts_faults graph (0 + number) body (0 + n) block) (at_line (0 + number) (0 + n) (length block.stmts) (term_faults graph.items bodies body block)) (in-blocks n block at) in
      let none = map_empty (λ (j : ℕ). record { number = j; body = 0 + number; block = 0 + n; line = length block.stmts }) (term_faults graph.items bodies body block) line in
      local-exists graph.items bodies body (places_of_term block.term) place
      (broken-holds (term_tests graph.items bodies body block) none 1 (2, list_all (locals_exist graph.items bodies body) (places_of_term block.term)) refl) has

  pub uses-locals : (made : PlaceUse × Place) → Contains (flat_map block_uses body.blocks) made → made.1.local < length body.locals
  uses-locals made has =
      let it = in-flat block_uses body.blocks made has in
      let at = slice_get-Contains body.blocks it.0 it.1 in
      elim (Contains-append_cases (flat_map stmt_uses it.0.stmts) (term_uses it.0.term ++ map (λ place. (Stores, place)) (stored_by_term it.0.term)) made it.2) [
        | inl stmt ↦ (let s = in-flat stmt_uses it.0.stmts made stmt in stmt-local it.1.0 it.0 at s.1.0 s.0 (slice_get-Contains it.0.stmts s.0 s.1) made s.2)
        | inr term ↦ term-local it.1.0 it.0 at made.1 (elim (Contains-append_cases (term_uses it.0.term) (map (λ place. (Stores, place)) (stored_by_term it.0.term)) made term) [
          | inl used ↦ Contains-append_left (map (λ (made : PlaceUse × Place). made.1) (term_uses it.0.term)) (stored_by_term it.0.term) made.1 (map-in (λ (made : PlaceUse × Place). made.1) (term_uses it.0.term) made used)
          | inr stored ↦ (let s = in-map (λ place. (Stores, place)) (stored_by_term it.0.term) made stored in
              Contains-append_right (map (λ (made : PlaceUse × Place). made.1) (term_uses it.0.term)) (stored_by_term it.0.term) made.1 (subst (Contains (stored_by_term it.0.term)) (ap (λ (m : PlaceUse × Place). m.1) s.2) s.1))
        ])
      ]

all-pass : {X : Type 0} (test : X → Bool) (xs : List X) → ((x : X) → Contains xs x → test x ≡ true) → list_all test xs ≡ true
all-pass test [] each = refl
all-pass test (x ∷ xs) each = both_true (each x (here x xs)) (all-pass test xs (λ y has. each y (there y x xs has)))

pub has-its-locals : WellFormedHasLocals
has-its-locals graph n body well found =
    both_true (lt-ltb 0 (length body.blocks) (has-block graph well n body found))
    (all-pass (is_local (length body.locals)) (flat_map block_uses body.blocks) (λ made has. lt-ltb made.1.local (length body.locals) (uses-locals graph well n body found made has)))

pub locals-below : (body : Body) → has_locals body ≡ true → (made : PlaceUse × Place) → Contains (flat_map block_uses body.blocks) made → made.1.local < length body.locals
locals-below body h made has =
    ltb-true made.1.local (length body.locals)
    (All-contains (λ m. is_local (length body.locals) m ≡ true) (flat_map block_uses body.blocks) made
    (AllPass-from_list_all (is_local (length body.locals)) (flat_map block_uses body.blocks) (second_so (nat_lt 0 (length body.blocks)) (list_all (is_local (length body.locals)) (flat_map block_uses body.blocks)) h)) has)

pub block-there : (body : Body) → has_locals body ≡ true → 0 < length body.blocks
block-there body h = ltb-true 0 (length body.blocks) (first_so (nat_lt 0 (length body.blocks)) (list_all (is_local (length body.locals)) (flat_map block_uses body.blocks)) h)
