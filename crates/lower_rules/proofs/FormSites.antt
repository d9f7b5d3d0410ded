-- Each line of a lowered body has its node, and each that stops a run is one of the body's.
use Rattle.std.proofs.Common.{◌≡◌, ◌≢◌, inl, inr, ℕ, zero, suc, ◌==◌, Bool, true, false, List, [], ◌∷◌, ◌++◌, length, map, Option, Some, None, slice_get, unwrap_or, cond, refl, sym, ap, subst, arith}
use Rattle.std.proofs.lemmas.Option.{none-some, same_Some}
use Rattle.std.proofs.lemmas.Bool.Decides.{eqb_tells}
use Rattle.std.specs.List.{find}
use Rattle.cfg_graph.specs.declared.graph.Block.{Block}
use Rattle.cfg_graph.specs.declared.graph.Kind.{Kind}
use Rattle.cfg_graph.specs.declared.place.Place as graph_place
use Rattle.cfg_graph.specs.declared.statement.Stmt.{Stmt}
use Rattle.cfg_graph.specs.declared.terminator.Term.{Term}
use Rattle.cfg_graph.specs.Uses.{places_of_stmt}
use Rattle.mir_ty.specs.ItemTable.{ItemTable}
use Rattle.typed_tree.specs.Nodes.{number_of, nodes_of, param_nodes, body_nodes, first_with}
use Rattle.typed_tree.specs.Tree as tree
use Rattle.typed_tree.specs.Tree.{BodyTree}
use Rattle.src_meaning.specs.Locals.OfBody.{answer_key}
use Rattle.lower_rules.specs.Spots.{body_ways}
use Rattle.lower_rules.specs.Build as build
use Rattle.lower_rules.specs.Build.{LoweringFrame, BlockRest, MadeBlock, ending}
use Rattle.lower_rules.specs.Laws.{LoweredHasSites}
use Rattle.lower_rules.specs.Lower as lower
use Rattle.lower_rules.specs.Sites as sites
use Rattle.lower_rules.proofs.Lines as lines
use Rattle.lower_rules.proofs.Lines.{Wanted}
use Rattle.lower_rules.proofs.Stops as stops
use Rattle.lower_rules.proofs.SiteRules.{In, TermIn, wanted, AllIn, in_first, in_second, AllInside}
use Rattle.lower_rules.proofs.SitedForms.{function_sites}

-- ---- the sites of a body
equal_itself : (n : ℕ) → (n == n) ≡ true
equal_itself n = elim (eqb_tells n n) [ inl same ↦ same.0 | inr other ↦ absurd (let apart = other.1 in let never : ⊥ = omega arith in never) ]

-- each of some nodes is found by its number
found_in : (pre ns : List tree.Node) (f : LoweringFrame) (own : ℕ → Type 0) → AllIn f (pre ++ ns) own ns
found_in pre [] f own = tt
found_in pre (n ∷ ns) f own = (found pre, subst (λ all. AllIn f all own ns) (one_more pre) (found_in (pre ++ n ∷ []) ns f own))
  where
    found : (xs : List tree.Node) → (m : tree.Node) × (first_with (number_of n) (xs ++ n ∷ ns) ≡ Some m)
    found [] = (n, ap (λ b. cond b (Some n) (find (λ candidate. number_of candidate == number_of n) ns)) (equal_itself (number_of n)))
    found (x ∷ xs) = by_number (number_of x == number_of n) (found xs)
      where
        by_number : (b : Bool) → (m : tree.Node) × (first_with (number_of n) (xs ++ n ∷ ns) ≡ Some m) →
            (m : tree.Node) × (cond b (Some x) (first_with (number_of n) (xs ++ n ∷ ns)) ≡ Some m)
        by_number true h = (x, refl)
        by_number false h = h

    one_more : (xs : List tree.Node) → (xs ++ n ∷ []) ++ ns ≡ xs ++ n ∷ ns
    one_more [] = refl
    one_more (x ∷ xs) = ap (λ z. x ∷ z) (one_more xs)

-- of these nodes something holds of the number of each
abbrev pub AllOwn : (ℕ → Type 0) → List tree.Node → Type 0
AllOwn own [] = Unit {0}
AllOwn own (n ∷ ns) = own (number_of n) × AllOwn own ns

module _ (items : ItemTable) (body : BodyTree) (own : ℕ → Type 0) (owned : AllOwn own (nodes_of body.block)) where
  abbrev F : LoweringFrame
  F = lower.frame items body

  abbrev W : Wanted F
  W = wanted F (body_nodes body) own

  abbrev last : BlockRest
  last = ending (Term.Goto 1) 0

  begun_ok : lines.Ok F W (lower.start F body)
  begun_ok = lines.closed_ok F W Kind.Plain (ending Term.Return (answer_key body)) (build.reserved (record { blocks = []; shared = λ i. [] })) (lines.reserved_ok F W (record { blocks = []; shared = λ i. [] }) none) (tt, (tt, tt))
    where
      none : lines.Ok F W (record { blocks = []; shared = λ i. [] })
      none = record { blocks = λ n m e. absurd (none-some (Some m) e) }

  all_in : AllIn F (body_nodes body) own (body_nodes body)
  all_in = found_in [] (body_nodes body) F own

  block_in : AllIn F (body_nodes body) own (nodes_of body.block)
  block_in = in_second F (body_nodes body) own (param_nodes body.params) (nodes_of body.block) all_in

  all_inside : (ns : List tree.Node) → AllIn F (body_nodes body) own ns → AllOwn own ns → AllInside F (body_nodes body) own ns
  all_inside [] h k = tt
  all_inside (n ∷ ns) h k = ((h.0, k.0), all_inside ns h.1 k.1)

  answer_in : In F (body_nodes body) own (answer_key body)
  answer_in = first_in body.block block_in
    where
      first_in : (n : tree.Node) → AllIn F (body_nodes body) own (nodes_of n) → In F (body_nodes body) own (number_of n)
      first_in (tree.node id at ty by form) a = a.0

  built_ok : lines.Ok F W (lower.built F body)
  built_ok =
      let x = (function_sites F (body_nodes body) own body (in_first F (body_nodes body) own (param_nodes body.params) (nodes_of body.block) all_in) (all_inside (nodes_of body.block) block_in owned)).lines (body_ways 1) refl (lower.answer_scope F body) last (lower.start F body) ((answer_in, tt), tt, tt) begun_ok (tt, (tt, tt)) in
      let code = (lower.entire_function F body).build (body_ways 1) (lower.answer_scope F body) last (lower.start F body) in
      lines.filled_ok F W Kind.Plain 0 code.0 code.1 x.0 x.1

  -- the node of a line, in a block that is made
  line_in : (stmts : List Stmt) (term : Term) (nodes : List ℕ) → lines.BlockOk F W stmts term nodes → (line : ℕ) (stmt : Stmt) → slice_get stmts line ≡ Some stmt → In F (body_nodes body) own (unwrap_or (slice_get nodes line) 0)
  line_in [] term nodes h line stmt e = absurd (none-some stmt e)
  line_in (x ∷ stmts) term [] h line stmt e = absurd h
  line_in (x ∷ stmts) term (n ∷ nodes) h zero stmt e = h.0.0.0
  line_in (x ∷ stmts) term (n ∷ nodes) h (suc line) stmt e = line_in stmts term nodes h.1 line stmt e

  term_in : (stmts : List Stmt) (term : Term) (nodes : List ℕ) → lines.BlockOk F W stmts term nodes → TermIn F (body_nodes body) own term (unwrap_or (slice_get nodes (length stmts)) 0)
  term_in [] term [] h = absurd h
  term_in [] term (n ∷ nodes) h = h.0
  term_in (x ∷ stmts) term [] h = absurd h
  term_in (x ∷ stmts) term (n ∷ nodes) h = term_in stmts term nodes h.1

  term_named : (term : Term) (n : ℕ) → sites.used_by_term term ≢ [] → TermIn F (body_nodes body) own term n → In F (body_nodes body) own n
  term_named (Term.Goto block) n some i = absurd (some refl)
  term_named (Term.DropAt place next unwind) n some i = absurd (some refl)
  term_named (Term.Panic why unwind) n some i = absurd (some refl)
  term_named Term.Return n some i = absurd (some refl)
  term_named Term.Resume n some i = absurd (some refl)
  term_named other n some i = i

  from_mapped : {X Y : Type 0} (g : X → Y) (xs : List X) (n : ℕ) (y : Y) → slice_get (map g xs) n ≡ Some y → (x : X) × (slice_get xs n ≡ Some x) × (g x ≡ y)
  from_mapped g [] n y e = absurd (none-some y e)
  from_mapped g (x ∷ xs) zero y e = (x, refl, same_Some (g x) y e)
  from_mapped g (x ∷ xs) (suc n) y e = from_mapped g xs n y e

  mapped : {X Y : Type 0} (g : X → Y) (xs : List X) (n : ℕ) (x : X) → slice_get xs n ≡ Some x → slice_get (map g xs) n ≡ Some (g x)
  mapped g [] n x e = absurd (none-some x e)
  mapped g (y ∷ xs) zero x e = ap (λ o. Some (g (unwrap_or o y))) e
  mapped g (y ∷ xs) (suc n) x e = mapped g xs n x e

  past_end : {X : Type 0} (xs : List X) → slice_get xs (length xs) ≡ None
  past_end [] = refl
  past_end (x ∷ xs) = past_end xs

  some_place : {X : Type 0} (xs : List X) → xs ≢ [] → (x : X) × (rest : List X) × (xs ≡ x ∷ rest)
  some_place [] some = absurd (some refl)
  some_place (x ∷ xs) some = (x, xs, refl)

  abbrev found_node : ℕ → Option tree.Node
  found_node n = first_with n (body_nodes body)

  abbrev HasSites : ℕ → Block → Type 0
  HasSites n block =
      ((line : ℕ) (stmt : Stmt) → slice_get block.stmts line ≡ Some stmt → places_of_stmt stmt ≢ [] → In F (body_nodes body) own (lower.node_of items body n line))
      × (sites.used_by_term block.term ≢ [] → In F (body_nodes body) own (lower.node_of items body n (length block.stmts)))

  node_at : (n line : ℕ) (nodes : List ℕ) → slice_get (lower.nodes_of (lower.built F body)) n ≡ Some nodes → lower.node_of items body n line ≡ unwrap_or (slice_get nodes line) 0
  node_at n line nodes e = ap (λ o. unwrap_or (slice_get (unwrap_or o []) line) 0) e

  has_sites : (n : ℕ) (block : Block) → slice_get (lower.body_of items body).blocks n ≡ Some block → HasSites n block
  has_sites n block e = let h = from_mapped _ (lower.built F body).blocks n block e in by_made h.0 h.1 h.2
    where
      by_made : (o : Option MadeBlock) → slice_get (lower.built F body).blocks n ≡ Some o → (unwrap_or o lower.unmade).block ≡ block → HasSites n block
      by_made None e h = subst (HasSites n) h ((λ line stmt d some. absurd (none-some stmt d)), λ some. absurd (some refl))
      by_made (Some m) e h =
          let ok = built_ok.blocks n m e in
          let nodes = λ (line : ℕ). node_at n line m.nodes (mapped _ (lower.built F body).blocks n (Some m) e) in
          subst (HasSites n) h (
            (λ line stmt d some. subst (In F (body_nodes body) own) (sym (nodes line)) (line_in m.block.stmts m.block.term m.nodes ok line stmt d)),
            λ some. subst (In F (body_nodes body) own) (sym (nodes (length m.block.stmts))) (term_named m.block.term _ some (term_in m.block.stmts m.block.term m.nodes ok)),
          )

-- where something holds of the numbers of the nodes of its block, each block of a body stops where a value of type `!` is
-- copied or stored
pub lowered_stops : (items : ItemTable) (body : BodyTree) (own : ℕ → Type 0) → AllOwn own (nodes_of body.block) → (n : ℕ) (block : Block) → slice_get (lower.body_of items body).blocks n ≡ Some block →
    stops.BlockStops (lower.frame items body) own block.stmts block.term
lowered_stops items body own owned n block e = let h = from_mapped items body own owned _ (lower.built (lower.frame items body) body).blocks n block e in by_made h.0 h.1 h.2
  where
    Stop : Block → Type 0
    Stop block = stops.BlockStops (lower.frame items body) own block.stmts block.term

    in_block : (stmts : List Stmt) (term : Term) (nodes : List ℕ) → lines.BlockOk (F items body own owned) (W items body own owned) stmts term nodes → stops.BlockStops (lower.frame items body) own stmts term
    in_block [] term [] h = absurd h
    in_block [] term (n ∷ nodes) h = h.1
    in_block (x ∷ stmts) term [] h = absurd h
    in_block (x ∷ stmts) term (n ∷ nodes) h = ((h.0.0.1, h.0.1), in_block stmts term nodes h.1)

    by_made : (o : Option MadeBlock) → slice_get (lower.built (lower.frame items body) body).blocks n ≡ Some o → (unwrap_or o lower.unmade).block ≡ block → Stop block
    by_made None e h = subst Stop h tt
    by_made (Some m) e h = subst Stop h (in_block m.block.stmts m.block.term m.nodes ((built_ok items body own owned).blocks n m e))

-- of any number
abbrev Any : ℕ → Type 0
Any n = Unit {0}

all_any : (ns : List tree.Node) → AllOwn Any ns
all_any [] = tt
all_any (n ∷ ns) = (tt, all_any ns)

pub lowered_has_sites : LoweredHasSites
lowered_has_sites items body n block e =
    let h = has_sites items body Any (all_any (nodes_of body.block)) n block e in (
      (λ line stmt d some.
          let i = h.0 line stmt d some in
          let p = some_place items body Any (all_any (nodes_of body.block)) (places_of_stmt stmt) some in
          (i.0, i.1, stmt_at line stmt d i.0 i.1 p.0 p.1 p.2)),
      λ some.
          let i = h.1 some in
          let p = some_place items body Any (all_any (nodes_of body.block)) (sites.used_by_term block.term) some in
          (i.0, i.1, term_at i.0 i.1 p.0 p.1 p.2),
    )
  where
    stmt_at : (line : ℕ) (stmt : Stmt) → slice_get block.stmts line ≡ Some stmt → (found : tree.Node) → first_with (lower.node_of items body n line) (body_nodes body) ≡ Some found →
        (p : graph_place.Place) (rest : List graph_place.Place) → places_of_stmt stmt ≡ p ∷ rest → sites.site_at items body n line ≡ Some (sites.stmt_site items body stmt found)
    stmt_at line stmt d found i p rest some = simp (e, d, i, some)

    term_at : (found : tree.Node) → first_with (lower.node_of items body n (length block.stmts)) (body_nodes body) ≡ Some found →
        (p : graph_place.Place) (rest : List graph_place.Place) → sites.used_by_term block.term ≡ p ∷ rest → sites.site_at items body n (length block.stmts) ≡ Some (sites.term_site items body block.term found)
    term_at found i p rest some = simp (e, past_end items body Any (all_any (nodes_of body.block)) block.stmts, i, some)
