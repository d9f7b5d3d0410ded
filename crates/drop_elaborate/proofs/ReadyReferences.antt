-- In a body that is ready each reference in a local is made by one statement, which alone stores there, or it is a
-- parameter, which nothing stores into; and none names a local with a reference.
use Rattle.std.proofs.Common.{◌≡◌, ◌⊎◌, inl, inr, ℕ, ◌+◌, ◌≤◌, ◌==◌, ◌&&◌, ◌||◌, not, cond, Bool, true, false, List, [], ◌∷◌, ◌++◌, map, flat_map, Option, Some, None, if◌then◌else◌, slice_get, refl, ap, sym, ◌∙◌, arith}
use Rattle.std.specs.Prelude.{option_and_then}
use Rattle.std.specs.List.{list_all}
use Rattle.std.specs.Option.{option_map_or}
use Rattle.std.specs.Cmp.{first_so, second_so}
use Rattle.std.proofs.lemmas.Bool.{false≢true}
use Rattle.std.proofs.lemmas.Bool.Decides.{Decides-eqb}
use Rattle.std.proofs.Math.Path.{fun_ext}
use Rattle.std.proofs.lemmas.Option.{none-some}
use Rattle.mir_ty.specs.declared.ty.TyId.{TyId}
use Rattle.mir_ty.specs.ItemTable.{ItemTable, type_at}
use Rattle.cfg_graph.specs.declared.graph.Block.{Block}
use Rattle.cfg_graph.specs.declared.graph.Body.{Body}
use Rattle.cfg_graph.specs.declared.place.Place as graph
use Rattle.cfg_graph.specs.declared.statement.Stmt.{Stmt}
use Rattle.cfg_graph.specs.Moves.Gone.{are_first, is_param}
use Rattle.cfg_graph.specs.NamedPlaces.{same_place, reference_made, references_made, named_by}
use Rattle.cfg_graph.specs.Places.{named, place_id}
use Rattle.cfg_graph.specs.Ready.{all_stmts, all_terms, stored_in, times_stored, times_made, is_unnamed, holds_reference_well, references_in_locals, references_stand_alone}
use Rattle.cfg_graph.specs.Uses.{Stores, operand_uses, operands_of_stmt, stored_by_stmt, other_uses, stored_by_term, term_uses, place_used, places_of_stmt, places_of_term}
use Rattle.cfg_graph.specs.WellFormed.Typing.{stmt_is_typed}
use Rattle.store_model.specs.Places.Place.{Place, whole_local, is_reference, ty_along}
use Rattle.drop_elaborate.proofs.Counted.{many, many-is, only-found, total, count-append, count-flat, total-part, total-less, total-same, in-flat, list_all-later, map-two}
use Rattle.drop_elaborate.proofs.StandAlone.{all-at}
use Rattle.drop_elaborate.proofs.ReferencesMade.{BorrowTyped as BorrowTypedOf, Making as MakingOf, local-holds, place-of, borrow-typed, making}

module _ (items : ItemTable) (alone : references_stand_alone items ≡ true) (body : Body)
    (well : references_in_locals items body ≡ true)
    (typed : (n line : ℕ) (block : Block) (stmt : Stmt) → slice_get body.blocks n ≡ Some block →
    slice_get block.stmts line ≡ Some stmt → stmt_is_typed items body.locals stmt ≡ true) where
  abbrev BorrowTyped : graph.Place → graph.Place → Type 0
  BorrowTyped = BorrowTypedOf items alone body well typed

  abbrev Making : ℕ → Place → Type 0
  Making = MakingOf items alone body well typed

  -- ---- how often a local is stored into, and how often a reference is made there

  module _ (k : ℕ) where
    abbrev is_stored : graph.Place → Bool
    is_stored to = same_place (named to) (whole_local k)

    abbrev is_made : (ℕ × Place) → Bool
    is_made one = one.0 == k

    abbrev stored_s : Stmt → ℕ
    stored_s stmt = many is_stored (stored_by_stmt stmt)

    abbrev stored_t : Block → ℕ
    stored_t block = many is_stored (stored_by_term block.term)

    abbrev made_s : Stmt → ℕ
    made_s stmt = many is_made (reference_made stmt)

    made-stored : (stmt : Stmt) → made_s stmt ≤ stored_s stmt
    made-stored (Stmt.Borrow to unique of) = by (same_place (named to) (whole_local to.local)) refl
      where
        by : (w : Bool) → same_place (named to) (whole_local to.local) ≡ w →
            many is_made (if w then (to.local, named of) ∷ [] else []) ≤ cond (is_stored to) 1 0 + 0
        by false e = omega arith
        by true e = so (to.local == k) refl
          where
            so : (c : Bool) → (to.local == k) ≡ c → cond c 1 0 + 0 ≤ cond (is_stored to) 1 0 + 0
            so false ec = omega arith
            so true ec =
                let one : cond (is_stored to) 1 0 ≡ 1 = ap (λ b. cond {A = ℕ} b 1 0)
                (ap (λ c. c && are_first (named to).steps [] && are_first [] (named to).steps) ec
                ∙ ap (λ c. c && are_first (named to).steps [] && are_first [] (named to).steps)
                (sym ((Decides-eqb to.local to.local).1 refl)) ∙ e) in
                omega (arith, one)
    made-stored other = omega arith

    times-made : times_made items body k ≡ total (λ (block : Block). total made_s block.stmts) body.blocks
    times-made =
        many-is is_made (references_made body)
        ∙ count-flat is_made (λ (block : Block). flat_map reference_made block.stmts) body.blocks
        ∙ ap (λ f. total f body.blocks) (fun_ext (λ (block : Block). count-flat is_made reference_made block.stmts))

    times-stored : times_stored items body k
        ≡ total (λ (block : Block). total stored_s block.stmts + stored_t block) body.blocks
    times-stored =
        many-is is_stored (stored_in body)
        ∙ count-flat is_stored (λ (block : Block). flat_map stored_by_stmt block.stmts ++ stored_by_term block.term)
        body.blocks
        ∙ ap (λ f. total f body.blocks) (fun_ext (λ (block : Block). count-append is_stored
        (flat_map stored_by_stmt block.stmts) (stored_by_term block.term)
        ∙ ap (λ n. n + stored_t block) (count-flat is_stored stored_by_stmt block.stmts)))

    made-less : (block : Block) → total made_s block.stmts ≤ total stored_s block.stmts + stored_t block
    made-less block = let h = total-less made_s stored_s block.stmts made-stored in omega (arith, h)

    -- where each store makes the reference
    pub record EachMakes (block : Block) : Type 0 where
      pub stmts : (line : ℕ) (stmt : Stmt) → slice_get block.stmts line ≡ Some stmt → made_s stmt ≡ stored_s stmt
      pub term : stored_t block ≡ 0

    each-makes : times_made items body k ≡ times_stored items body k → (n : ℕ) (block : Block) →
        slice_get body.blocks n ≡ Some block → EachMakes block
    each-makes e n block at =
        let same = total-same (λ (block : Block). total made_s block.stmts)
        (λ (block : Block). total stored_s block.stmts + stored_t block) body.blocks n block made-less
        (sym times-made ∙ e ∙ times-stored) at in
        let less = total-less made_s stored_s block.stmts made-stored in record {
          stmts = λ line stmt here. total-same made_s stored_s block.stmts line stmt made-stored
              (let z : total made_s block.stmts ≡ total stored_s block.stmts = omega (arith, same, less) in z) here;
          term = (let z : stored_t block ≡ 0 = omega (arith, same, less) in z);
        }

    -- where nothing is stored
    pub record NothingStored (block : Block) : Type 0 where
      pub stmts : (line : ℕ) (stmt : Stmt) → slice_get block.stmts line ≡ Some stmt → stored_s stmt ≡ 0
      pub term : stored_t block ≡ 0

    nothing-stored : times_stored items body k ≡ 0 → (n : ℕ) (block : Block) → slice_get body.blocks n ≡ Some block →
        NothingStored block
    nothing-stored e n block at =
        let h = total-part (λ (block : Block). total stored_s block.stmts + stored_t block) body.blocks n block at in
        let t : total (λ (block : Block). total stored_s block.stmts + stored_t block) body.blocks ≡ 0 =
        sym times-stored ∙ e in record {
          stmts = λ line stmt here.
              let p = total-part stored_s block.stmts line stmt here in
              let z : stored_s stmt ≡ 0 = omega (arith, h, t, p) in z;
          term = (let z : stored_t block ≡ 0 = omega (arith, h, t) in z);
        }

    -- what is known of a local with a reference that a line names
    pub data Held : Type 0 where
      a_parameter : is_param items body k ≡ true → times_stored items body k ≡ 0 → Held
      made_once : is_param items body k ≡ false → times_stored items body k ≡ 1 → times_made items body k ≡ 1 → Held
      no_line : is_param items body k ≡ false → is_unnamed items body k ≡ true → Held

    pub held : holds_reference_well items body k ≡ true → Held
    held h = by (is_param items body k) refl h
      where
        either : (a b : Bool) → (a || b) ≡ true → (a ≡ true) ⊎ (b ≡ true)
        either true b h = inl refl
        either false b h = inr h

        by : (p : Bool) → is_param items body k ≡ p →
            (if p then times_stored items body k == 0 else not (k == 0)
            && ((times_stored items body k == 1) && (times_made items body k == 1) || is_unnamed items body k)) ≡ true →
            Held
        by true p h = a_parameter p ((Decides-eqb (times_stored items body k) 0).0 h)
        by false p h =
            elim (either ((times_stored items body k == 1) && (times_made items body k == 1)) (is_unnamed items body k)
            (second_so (not (k == 0)) ((times_stored items body k == 1) && (times_made items body k == 1)
            || is_unnamed items body k) h)) [
              | inl t ↦ made_once p ((Decides-eqb (times_stored items body k) 1).0 (first_so
                  (times_stored items body k == 1) (times_made items body k == 1) t))
                  ((Decides-eqb (times_made items body k) 1).0 (second_so (times_stored items body k == 1)
                  (times_made items body k == 1) t))
              | inr u ↦ no_line p u
            ]

  -- a whole local is stored into
  stored-once : (to : graph.Place) → (named to).steps ≡ [] → cond {A = ℕ} (is_stored to.local to) 1 0 ≡ 1
  stored-once to e =
      ap (λ b. cond {A = ℕ} b 1 0) (ap (λ steps. (to.local == to.local) && are_first steps [] && are_first [] steps) e
      ∙ ap (λ b. b && true && true) ((Decides-eqb to.local to.local).1 refl))

  -- a local that no line names is not named by this one
  unnamed-stmt : (k n line : ℕ) (block : Block) (stmt : Stmt) → is_unnamed items body k ≡ true →
      slice_get body.blocks n ≡ Some block → slice_get block.stmts line ≡ Some stmt →
      list_all (λ (place : graph.Place). not (place.local == k)) (places_of_stmt stmt) ≡ true
  unnamed-stmt k n line block stmt u at here =
      all-at (λ stmt. list_all (λ (place : graph.Place). not (place.local == k)) (places_of_stmt stmt)) block.stmts line
      stmt (all-at (λ (block : Block). list_all (λ stmt. list_all (λ (place : graph.Place). not (place.local == k))
      (places_of_stmt stmt)) block.stmts) body.blocks n block
      (first_so (all_stmts (λ stmt. list_all (λ place. not (place.local == k)) (places_of_stmt stmt)) body)
      (all_terms (λ term. list_all (λ place. not (place.local == k)) (places_of_term term)) body) u) at) here

  unnamed-term : (k n : ℕ) (block : Block) → is_unnamed items body k ≡ true → slice_get body.blocks n ≡ Some block →
      list_all (λ (place : graph.Place). not (place.local == k)) (places_of_term block.term) ≡ true
  unnamed-term k n block u at =
      all-at (λ (block : Block). list_all (λ (place : graph.Place). not (place.local == k)) (places_of_term block.term))
      body.blocks n block
      (second_so (all_stmts (λ stmt. list_all (λ place. not (place.local == k)) (places_of_stmt stmt)) body)
      (all_terms (λ term. list_all (λ place. not (place.local == k)) (places_of_term term)) body) u) at

  no-more-named : (to : graph.Place) (xs : List graph.Place) →
      list_all (λ (place : graph.Place). not (place.local == to.local)) (xs ++ to ∷ []) ≡ true → ⊥
  no-more-named to xs h =
      false≢true (sym (ap not ((Decides-eqb to.local to.local).1 refl))
      ∙ first_so (not (to.local == to.local)) true (list_all-later (λ (place : graph.Place). not (place.local ==
      to.local))
      xs (to ∷ []) h))

  last-place : (stmt : Stmt) (to : graph.Place) → stored_by_stmt stmt ≡ to ∷ [] →
      places_of_stmt stmt
      ≡ map place_used (flat_map operand_uses (operands_of_stmt stmt) ++ other_uses stmt) ++ to ∷ []
  last-place stmt to e =
      map-two place_used (flat_map operand_uses (operands_of_stmt stmt) ++ other_uses stmt)
      (map (λ place. (Stores, place)) (stored_by_stmt stmt))
      ∙ ap (λ l. map place_used (flat_map operand_uses (operands_of_stmt stmt) ++ other_uses stmt)
      ++ map place_used (map (λ place. (Stores, place)) l)) e

  -- a statement that makes no reference stores none
  pub stmt-free : (n line : ℕ) (block : Block) (stmt : Stmt) (to : graph.Place) (id : TyId) →
      slice_get body.blocks n ≡ Some block → slice_get block.stmts line ≡ Some stmt → stored_by_stmt stmt ≡ to ∷ [] →
      reference_made stmt ≡ [] → place_id items body.locals to ≡ Some id → is_reference (type_at items id) ≡ false
  stmt-free n line block stmt to id at here stores none e = by (is_reference (type_at items id)) refl
    where
      by : (b : Bool) → is_reference (type_at items id) ≡ b → b ≡ false
      by false r = refl
      by true r =
          let p = place-of items alone body well typed to id e r in
          let one : stored_s to.local stmt ≡ 1 = ap (many (is_stored to.local)) stores
          ∙ (let s = stored-once to p.0 in let z : cond (is_stored to.local to) 1 0 + 0 ≡ 1 = omega (arith, s) in z) in
          absurd (of (held to.local (local-holds items alone body well typed to.local id p.1 r)) one)
        where
          of : Held to.local → stored_s to.local stmt ≡ 1 → ⊥
          of (a_parameter q z) one =
              let h = (nothing-stored to.local z n block at).stmts line stmt here in
              let never : ⊥ = omega (arith, h, one) in never
          of (made_once q s m) one =
              let h = (each-makes to.local (m ∙ sym s) n block at).stmts line stmt here in
              let z : made_s to.local stmt ≡ 0 = ap (many (is_made to.local)) none in
              let never : ⊥ = omega (arith, h, one, z) in never
          of (no_line q u) one =
              no-more-named to (map place_used (flat_map operand_uses (operands_of_stmt stmt) ++ other_uses stmt))
              (ap (list_all (λ (place : graph.Place). not (place.local == to.local))) (sym (last-place stmt to stores))
              ∙ unnamed-stmt to.local n line block stmt u at here)

  -- no terminator stores one
  pub term-free : (n : ℕ) (block : Block) (to : graph.Place) (id : TyId) → slice_get body.blocks n ≡ Some block →
      stored_by_term block.term ≡ to ∷ [] → place_id items body.locals to ≡ Some id →
      is_reference (type_at items id) ≡ false
  term-free n block to id at stores e = by (is_reference (type_at items id)) refl
    where
      by : (b : Bool) → is_reference (type_at items id) ≡ b → b ≡ false
      by false r = refl
      by true r =
          let p = place-of items alone body well typed to id e r in
          let one : stored_t to.local block ≡ 1 = ap (many (is_stored to.local)) stores
          ∙ (let s = stored-once to p.0 in let z : cond (is_stored to.local to) 1 0 + 0 ≡ 1 = omega (arith, s) in z) in
          absurd (of (held to.local (local-holds items alone body well typed to.local id p.1 r)) one)
        where
          of : Held to.local → stored_t to.local block ≡ 1 → ⊥
          of (a_parameter q z) one =
              let h = (nothing-stored to.local z n block at).term in let never : ⊥ = omega (arith, h, one) in never
          of (made_once q s m) one =
              let h = (each-makes to.local (m ∙ sym s) n block at).term in let never : ⊥ = omega (arith, h, one) in
              never
          of (no_line q u) one =
              no-more-named to (map place_used (term_uses block.term))
              (ap (list_all (λ (place : graph.Place). not (place.local == to.local)))
              (ap (λ l. map place_used (term_uses block.term) ++ l) (sym stores))
              ∙ unnamed-term to.local n block u at)

  -- a reference that a line makes: its local is no parameter, and this line alone makes it
  pub record MadeHere (to of : graph.Place) : Type 0 where
    pub no_param : is_param items body to.local ≡ false
    pub named_so : named_by to.local (references_made body) ≡ Some (named of)

  pub made-here : (n line : ℕ) (block : Block) (to of : graph.Place) (unique : Bool) →
      slice_get body.blocks n ≡ Some block → slice_get block.stmts line ≡ Some (Stmt.Borrow to unique of) →
      MadeHere to of
  made-here n line block to of unique at here =
      by (held to.local (local-holds items alone body well typed to.local t.id t.local_is t.reference))
    where
      t : BorrowTyped to of
      t = borrow-typed items alone body well typed to of unique (typed n line block (Stmt.Borrow to unique of) at here)

      one : stored_s to.local (Stmt.Borrow to unique of) ≡ 1
      one = let s = stored-once to t.whole in
          let z : cond (is_stored to.local to) 1 0 + 0 ≡ 1 = omega (arith, s) in z

      makes : reference_made (Stmt.Borrow to unique of) ≡ (to.local, named of) ∷ []
      makes = ap (λ b. if b then (to.local, named of) ∷ [] else [])
          (ap (λ steps. (to.local == to.local) && are_first steps [] && are_first [] steps) t.whole
          ∙ ap (λ b. b && true && true) ((Decides-eqb to.local to.local).1 refl))

      by : Held to.local → MadeHere to of
      by (a_parameter q z) =
          let h = (nothing-stored to.local z n block at).stmts line (Stmt.Borrow to unique of) here in
          absurd (let never : ⊥ = omega (arith, h, one) in never)
      by (no_line q u) =
          absurd (no-more-named to (map place_used (flat_map operand_uses (operands_of_stmt (Stmt.Borrow to unique of))
          ++ other_uses (Stmt.Borrow to unique of)))
          (ap (list_all (λ (place : graph.Place). not (place.local == to.local)))
          (sym (last-place (Stmt.Borrow to unique of) to refl))
          ∙ unnamed-stmt to.local n line block (Stmt.Borrow to unique of) u at here))
      by (made_once q s m) =
          let i = in-flat reference_made block.stmts line 0 (Stmt.Borrow to unique of) (to.local, named of) here
          (ap (λ l. slice_get l 0) makes) in
          let j = in-flat (λ (block : Block). flat_map reference_made block.stmts) body.blocks n i.0 block
          (to.local, named of) at i.1 in record {
            no_param = q;
            named_so = ap (λ o. option_map_or (λ (one : ℕ × Place). Some one.1) o None)
                (only-found (is_made to.local) (references_made body) j.0 (to.local, named of)
                (sym (many-is (is_made to.local) (references_made body)) ∙ m) j.1
                ((Decides-eqb to.local to.local).1 refl));
          }

  -- ---- so each reference that is made

  pub made-are : (k : ℕ) (place : Place) → named_by k (references_made body) ≡ Some place →
      (id : TyId) × (slice_get body.locals k ≡ Some id) × (is_reference (type_at items id) ≡ true)
  made-are k place e =
      let m = making items alone body well typed k place e in
      let t = borrow-typed items alone body well typed m.to m.of m.unique
      (typed m.n m.line m.block (Stmt.Borrow m.to m.unique m.of) m.there
      m.here) in
      (t.id, ap (slice_get body.locals) (sym m.local) ∙ t.local_is, t.reference)

  pub made-no-param : (k : ℕ) (place : Place) → named_by k (references_made body) ≡ Some place →
      is_param items body k ≡ false
  made-no-param k place e =
      let m = making items alone body well typed k place e in
      ap (is_param items body) (sym m.local) ∙ (made-here m.n m.line m.block m.to m.of m.unique m.there m.here).no_param

  -- none names a local with a reference
  pub names-none : (k : ℕ) (place : Place) → named_by k (references_made body) ≡ Some place → place.steps ≡ [] →
      named_by place.local (references_made body) ≡ None
  names-none k place e s = by (named_by place.local (references_made body)) refl
    where
      m : Making k place
      m = making items alone body well typed k place e

      t : BorrowTyped m.to m.of
      t = borrow-typed items alone body well typed m.to m.of m.unique
          (typed m.n m.line m.block (Stmt.Borrow m.to m.unique m.of) m.there m.here)

      at-local : (o : Option TyId) → option_and_then (ty_along items []) o ≡ Some t.target → o ≡ Some t.target
      at-local None h = absurd (none-some t.target h)
      at-local (Some x) h = h

      by : (o : Option Place) → named_by place.local (references_made body) ≡ o → o ≡ None
      by None h = refl
      by (Some q) h =
          let r = made-are place.local q h in
          let same : place ≡ named m.of = sym m.names in
          let local_is : slice_get body.locals place.local ≡ Some t.target =
          at-local (slice_get body.locals place.local)
          (ap (λ steps. option_and_then (ty_along items steps) (slice_get body.locals place.local)) (sym s)
          ∙ ap (λ (p : Place). option_and_then (ty_along items p.steps) (slice_get body.locals p.local)) same
          ∙ t.of_is) in
          let id_is : r.0 ≡ t.target = (let z : Some r.0 ≡ Some t.target = sym r.1 ∙ local_is in cc) in
          absurd (false≢true (sym t.free ∙ ap (λ i. is_reference (type_at items i)) (sym id_is) ∙ r.2))
