-- What is decided of a drop, by its plan where its place is a path, and else by its type.
use Rattle.std.proofs.Common.{◌≡◌, ◌↔◌, ◌∙◌, ◌∷◌, [], ◌++◌, ◌<◌, ℕ, Bool, true, false, ◌&&◌, ◌||◌, nat_lt, not, List, Option, Some, None, Contains, is_some, flat_map, map, length, slice_get, refl, sym, ap, subst}
use Rattle.std.specs.Prelude.{option_and_then}
use Rattle.std.specs.List.{list_any, list_all}
use Rattle.std.specs.Cmp.{first_so}
use Rattle.std.specs.Cmp.Derive.{both_true}
use Rattle.std.proofs.lemmas.Bool.{false≢true, lt-ltb}
use Rattle.std.proofs.lemmas.List.Folds.{list_any_at}
use Rattle.std.proofs.lemmas.Option.{none-some, get_or_from_slice_get, slice_get_within}
use Rattle.mir_ty.specs.declared.ty.TyId.{TyId}
use Rattle.mir_ty.specs.Facts.{needs_drop}
use Rattle.mir_ty.specs.ItemTable.{ItemTable, type_at}
use Rattle.mir_ty.proofs.ListLemmas.{Contains-slice_get}
use Rattle.cfg_graph.specs.declared.graph.Block.{Block}
use Rattle.cfg_graph.specs.declared.graph.Body.{Body}
use Rattle.cfg_graph.specs.declared.place.Place as graph
use Rattle.cfg_graph.specs.declared.terminator.Term.{Term}
use Rattle.cfg_graph.specs.declared.terminator.Unwind.{Unwind}
use Rattle.cfg_graph.specs.Moves.BadUses.{bad_uses_on}
use Rattle.cfg_graph.specs.Moves.Gone.{PathAction, below, counts, is_at_or_above, leaves_gone, is_gone_after}
use Rattle.cfg_graph.specs.Moves.Paths.{IsPath}
use Rattle.cfg_graph.specs.Places.{named}
use Rattle.cfg_graph.specs.Uses.{PlaceUse, Drops, Stores, stmt_uses, term_uses, stored_by_term, operands_of_term, places_of_term}
use Rattle.cfg_graph.specs.WellFormed.Typing.{is_typed_place, is_sized, operand_stands, places_have_types, term_has_types, term_is_typed}
use Rattle.move_paths.proofs.Above.{above-refl}
use Rattle.move_paths.specs.Forest.{PathForest, IsForest, is_local, is_above_change, is_path}
use Rattle.move_paths.specs.Uses.{block_uses}
use Rattle.store_model.specs.Places.Place.{Step, Place, whole_local, ty_along}
use Rattle.drop_values.specs.Facts.{Tree, Facts}
use Rattle.drop_values.specs.Planning.{plan_of, sure}
use Rattle.drop_elaborate.proofs.Counted.{in-append-left, in-append-right, in-flat}
use Rattle.drop_elaborate.proofs.DeadDrops.{unneeded-dead}
use Rattle.drop_elaborate.proofs.PathSpares.{then-some}
use Rattle.drop_elaborate.proofs.ReadyBody.{BodyIsReady}
use Rattle.drop_laws.proofs.ReadyLines.{ready-lines}
use Rattle.drop_elaborate.specs.Kinds.{place_id, Comes, IsDead, IsSure, MayBe, AreFacts, IsTree}
use Rattle.drop_ends.specs.declared.decided.Decided.{Decided}
use Rattle.drop_plans.proofs.Closed.{closed, tree-of}
use Rattle.drop_plans.proofs.Sureness.{sure-all}
use Rattle.drop_plans.specs.Trees.{IsTreeOf}
use Rattle.drop_laws.proofs.Elsewhere.{elsewhere-sure}
use Rattle.drop_laws.proofs.Living.{Living, alive-not-dead, whole-alive}
use Rattle.drop_laws.proofs.Rungs.{rung-alive, no-rung-dead, sure-whole}
use Rattle.drop_laws.proofs.TreesThere.{tree-there}
use Rattle.drop_kinds.specs.Decided.{EndsInDropOf, IsDecided, IsDecidedBy, IsElsewhere}
use Rattle.drop_laws.specs.Ready.{IsReadyBody}
use Rattle.drop_laws.specs.Rungs.{has_rung}

module _ (items : ItemTable) (body : Body) (made : IsReadyBody items body) where
  abbrev pub bodies : ℕ
  bodies = length made.graph.bodies

  pub ready : BodyIsReady items bodies body
  ready =
      subst (λ (i : ItemTable). BodyIsReady i bodies body) made.items_are
      (ready-lines made.graph made.sound made.ready made.number body made.there)

  pub fine : (path : List ℕ) (given : List Bool) → IsPath items body path given → bad_uses_on items body path ≡ []
  fine =
      subst (λ (i : ItemTable). (path : List ℕ) (given : List Bool) → IsPath i body path given →
      bad_uses_on i body path ≡ [])
      made.items_are (λ path given is. made.ready.uses made.number body path given made.there is)

  module _ (n : ℕ) (block : Block) (place : graph.Place) (ends : EndsInDropOf body n block place) where
    abbrev D : Place
    D = named place

    abbrev next : ℕ
    next = ends.1.0

    abbrev unwind : Unwind
    unwind = ends.1.1

    abbrev term_is : block.term ≡ Term.DropAt place next unwind
    term_is = ends.1.2

    some-id : (o : Option TyId) → is_some (option_and_then (type_at items) o) ≡ true → (id : TyId) × (o ≡ Some id)
    some-id None h = absurd (false≢true h)
    some-id (Some id) h = (id, refl)

    -- the place has a type
    pub drop-typed : (id : TyId) × (place_id items body D ≡ Some id)
    drop-typed =
        let term = Term.DropAt place next unwind in
        let t : term_is_typed items body.locals term ≡ true =
        sym (ap (term_is_typed items body.locals) term_is) ∙ ready.term_typed n block ends.0 in
        let all = first_so (places_have_types items body.locals (stored_by_term term) (operands_of_term term)
        (places_of_term term))
        (term_has_types items body.locals term) t in
        let places = first_so (list_all (is_typed_place items body.locals) (places_of_term term))
        (list_all (is_sized items body.locals) (stored_by_term term))
        (first_so (list_all (is_typed_place items body.locals) (places_of_term term)
        && list_all (is_sized items body.locals) (stored_by_term term))
        (list_all (operand_stands items body.locals) (operands_of_term term)) all) in
        some-id (place_id items body D)
        (first_so (is_some (option_and_then (type_at items) (place_id items body D))) _
        (first_so (is_typed_place items body.locals place) true places))

    pub local-within : (id : TyId) → place_id items body D ≡ Some id → D.local < length body.locals
    local-within id typed =
        let start = then-some items body (ty_along items D.steps) (slice_get body.locals D.local) id typed in
        slice_get_within body.locals D.local start.0 start.1

    -- ---- a path

    module _ (forest : PathForest) (is : IsForest items body forest) (facts : Facts)
        (are_facts : AreFacts items body forest.paths n facts)
        (flag_of : ℕ → Option ℕ) (id : TyId) (typed : place_id items body D ≡ Some id) where
      sure-so : (tree : Tree) → IsTree items body forest.paths D tree → IsSure items body n D →
          sure items facts flag_of tree ≡ true
      sure-so tree t all =
          sure-all items facts flag_of forest.paths is.once (closed items body forest is) tree D
          (tree-of items body forest is D tree t)
          (λ k rest at. off k rest at (facts.gone k) refl)
        where
          off : (k : ℕ) (rest : List Step) → slice_get forest.paths k ≡ Some (below D rest) → (b : Bool) →
              facts.gone k ≡ b →
              facts.gone k ≡ false
          off k rest at false e = e
          off k rest at true e =
              let may = (are_facts.gone k (below D rest) at).0 e in
              absurd (false≢true (sym (all may.0 may.1 rest) ∙ may.2))

      pub path-decided : (number : ℕ) → slice_get forest.paths number ≡ Some D → (how : Decided) →
          ((tree : Tree) → IsTreeOf forest.paths D tree →
          IsDecidedBy how (plan_of items facts flag_of tree id) (sure items facts flag_of tree)) →
          IsDecided items body forest.paths flag_of n D how
      path-decided number at how by_tree =
          let tree = tree-there items body forest is D number at in
          by how tree.0 tree.1 (by_tree tree.0 (tree-of items body forest is D tree.0 tree.1))
        where
          alive : (tree : Tree) → IsTree items body forest.paths D tree →
              has_rung (plan_of items facts flag_of tree id) ≡ true →
              IsDead items body n D → ⊥
          alive tree t rung =
              alive-not-dead items bodies body ready n D
              (rung-alive items bodies body ready fine forest is n facts are_facts flag_of tree D t id typed rung)

          by : (how : Decided) (tree : Tree) → IsTree items body forest.paths D tree →
              IsDecidedBy how (plan_of items facts flag_of tree id) (sure items facts flag_of tree) →
              IsDecided items body forest.paths flag_of n D how
          by Decided.Dead tree t h =
              no-rung-dead items bodies body ready fine forest is n facts are_facts flag_of tree D t id typed h
          by Decided.Plain tree t h = (
            alive tree t h.0,
            sure-whole items bodies body ready fine forest is n facts are_facts flag_of tree D t
                h.1,
          )
          by (Decided.Planned plan) tree t h = record {
            not_dead = alive tree t h.0;
            not_sure = λ all. false≢true (sym h.1 ∙ sure-so tree t all);
            tree = tree;
            is_tree = t;
            id = id;
            typed = typed;
            facts = facts;
            are_facts = are_facts;
            plan_is = h.2;
          }

    -- ---- any other place

    module _ (forest : PathForest) (is : IsForest items body forest) (flag_of : ℕ → Option ℕ) (id : TyId)
        (typed : place_id items body D ≡ Some id) (no_path : ¬ Contains forest.paths D) where
      use-there : (j : ℕ) × (slice_get (flat_map block_uses body.blocks) j ≡ Some (Drops, place))
      use-there =
          let uses = flat_map stmt_uses block.stmts in
          let rest = term_uses block.term ++ map (λ p. (Stores, p)) (stored_by_term block.term) in
          let here : slice_get (term_uses block.term) 0 ≡ Some (Drops, place) = ap
          (λ t. slice_get (term_uses t) 0) term_is in
          let one = in-append-left (term_uses block.term) (map (λ p. (Stores, p)) (stored_by_term block.term)) 0
          (Drops, place) here in
          let two = in-append-right uses rest 0 (Drops, place) one in
          in-flat block_uses body.blocks n two.0 block (Drops, place) ends.0 two.1

      unwatched : counts items body D ≡ false
      unwatched = by (counts items body D) refl
        where
          by : (b : Bool) → counts items body D ≡ b → counts items body D ≡ false
          by false e = e
          by true e =
              let change : is_above_change items body D (Drops, place) ≡ true = both_true e (above-refl D) in
              let any : list_any (is_above_change items body D) (flat_map block_uses body.blocks) ≡ true =
              list_any_at (is_above_change items body D) (flat_map block_uses body.blocks) use-there.0 (Drops, place)
              (slice_get_within (flat_map block_uses body.blocks) use-there.0 (Drops, place) use-there.1)
              (ap (is_above_change items body D) (get_or_from_slice_get (flat_map block_uses body.blocks) use-there.0
              (Drops, place) (Drops, place) use-there.1)
              ∙ change) in
              absurd (no_path ((is.each D).1 (both_true (lt-ltb D.local (length body.locals) (local-within id typed))
              (or-right (is_local D.steps) (list_any (is_above_change items body D) (flat_map block_uses body.blocks))
              any))))
            where
              or-right : (a b : Bool) → b ≡ true → (a || b) ≡ true
              or-right true b h = refl
              or-right false b h = h

      all-there : IsSure items body n D
      all-there = elsewhere-sure items body fine n block ends.0 place next unwind term_is unwatched

      pub elsewhere-decided : (reached : Bool) →
          ((reached ≡ true) ↔ ((before : List PathAction) × Comes items body n before)) →
          (how : Decided) → IsElsewhere (needs_drop items id) reached how →
          IsDecided items body forest.paths flag_of n D how
      elsewhere-decided reached comes how h = by (needs_drop items id) refl reached refl h
        where
          so : (other : Decided) → how ≡ other → IsDecided items body forest.paths flag_of n D other →
              IsDecided items body forest.paths flag_of n D how
          so other e d = subst (IsDecided items body forest.paths flag_of n D) (sym e) d

          unreached : reached ≡ false → IsDead items body n D
          unreached e before steps i c stays t numbered = absurd (false≢true (sym e ∙ comes.1 (before, c)))

          by : (a : Bool) → needs_drop items id ≡ a → (b : Bool) → reached ≡ b → IsElsewhere a b how →
              IsDecided items body forest.paths flag_of n D how
          by true ea true eb e =
              let c = comes.0 eb in
              so Decided.Plain e (
                alive-not-dead items bodies body ready n D
                    (whole-alive items bodies body ready n D id typed ea c.0 c.1 (λ steps. all-there c.0 c.1 steps)),
                all-there,
              )
          by true ea false eb e = so Decided.Dead e (unreached eb)
          by false ea b eb e = so Decided.Dead (none b e) (unneeded-dead items body n D id typed ea)
            where
              none : (b : Bool) → IsElsewhere false b how → how ≡ Decided.Dead
              none true e = e
              none false e = e

-- ---- whether a path comes to the drop, by what is known of a local

pub reached-by : (items : ItemTable) (body : Body) (n : ℕ) (forest : PathForest) → IsForest items body forest →
    (facts : Facts) →
    AreFacts items body forest.paths n facts → (number : ℕ) (q : Place) → slice_get forest.paths number ≡ Some q →
    ((facts.present number || facts.gone number) ≡ true) ↔ ((before : List PathAction) × Comes items body n before)
reached-by items body n forest is facts are number q at = (forth, λ c. back (is_gone_after items body c.0 q) refl c.1)
  where
    forth : (facts.present number || facts.gone number) ≡ true → (before : List PathAction) × Comes items body n before
    forth h = by (facts.present number) refl h
      where
        by : (b : Bool) → facts.present number ≡ b → (b || facts.gone number) ≡ true →
            (before : List PathAction) × Comes items body n before
        by true e h = let may = (are.present number q at).0 e in (may.0, may.1)
        by false e h = let may = (are.gone number q at).0 h in (may.0, may.1)

    left : (a b : Bool) → a ≡ true → (a || b) ≡ true
    left true b h = refl
    left false b h = absurd (false≢true h)

    right : (a b : Bool) → b ≡ true → (a || b) ≡ true
    right true b h = refl
    right false b h = h

    back : {before : List PathAction} (g : Bool) → is_gone_after items body before q ≡ g → Comes items body n before →
        (facts.present number || facts.gone number) ≡ true
    back {before} true e c = right (facts.present number) (facts.gone number) ((are.gone number q at).1 (before, c, e))
    back {before} false e c = left (facts.present number) (facts.gone number)
        ((are.present number q at).1 (before, c, e))
