-- What the actions on a path are done by: a statement that uses a place, a terminator that does, or a drop.
use Rattle.std.proofs.Common.{◌≡◌, ◌≢◌, ◌∙◌, ℕ, suc, Bool, true, false, if◌then◌else◌, List, [], ◌∷◌, ◌++◌, map, flat_map, length, Option, Some, None, slice_get, refl, sym, ap, subst}
use Rattle.std.specs.Prelude.{nat_eq}
use Rattle.std.specs.List.{list_any}
use Rattle.std.specs.Option.{option_map_or}
use Rattle.lower_rules.specs.Sites.{used_by_term}
use Rattle.cfg_graph.specs.declared.graph.Block.{Block}
use Rattle.cfg_graph.specs.declared.graph.Body.{Body}
use Rattle.cfg_graph.specs.declared.place.Operand.{Operand}
use Rattle.cfg_graph.specs.declared.place.Place.{Place}
use Rattle.cfg_graph.specs.declared.statement.Stmt.{Stmt}
use Rattle.cfg_graph.specs.declared.terminator.Term.{Term}
use Rattle.cfg_graph.specs.declared.terminator.Unwind.{Unwind}
use Rattle.cfg_graph.specs.Edges.{onward}
use Rattle.cfg_graph.specs.Moves.Actions.{actions_on}
use Rattle.cfg_graph.specs.Moves.Gone.{PathAction}
use Rattle.cfg_graph.specs.Places.{named}
use Rattle.cfg_graph.specs.Uses.{PlaceUse, Stores, Drops, operand_uses, operands_of_stmt, other_uses, stmt_uses, term_uses, stored_by_stmt, stored_by_term, place_used, places_of_stmt, places_of_term}

-- the actions of a path, as the definition has them
abbrev at_line : (block line : ℕ) → List (PlaceUse × Place) → List PathAction
at_line block line uses = map (λ made. record { how = made.0; place = named made.1; block = block; line = line }) uses

abbrev stmt_actions : (block line : ℕ) → List Stmt → List PathAction
stmt_actions block line [] = []
stmt_actions block line (stmt ∷ stmts) = at_line block line (stmt_uses stmt) ++ stmt_actions block (suc line) stmts

abbrev block_actions : ℕ → Block → List PathAction
block_actions n block = stmt_actions n 0 block.stmts ++ at_line n (length block.stmts) (term_uses block.term)

abbrev result_actions : (n next : ℕ) → Block → List PathAction
result_actions n next block =
    if list_any (nat_eq next) (onward block.term)
    then at_line n (length block.stmts) (map (λ place. (Stores, place)) (stored_by_term block.term))
    else []

abbrev pub is_dropping : PlaceUse → Bool
is_dropping Drops = true
is_dropping how = false

-- ---- uses that are no drops
abbrev NoDrops : List (PlaceUse × Place) → Type 0
NoDrops [] = Unit {0}
NoDrops (u ∷ us) = (is_dropping u.0 ≡ false) × NoDrops us

no_drops_append : (us vs : List (PlaceUse × Place)) → NoDrops us → NoDrops vs → NoDrops (us ++ vs)
no_drops_append [] vs h k = k
no_drops_append (u ∷ us) vs h k = (h.0, no_drops_append us vs h.1 k)

by_operand : (operand : Operand) → NoDrops (operand_uses operand)
by_operand (Operand.Copied place) = (refl, tt)
by_operand (Operand.Moved place) = (refl, tt)
by_operand (Operand.Number value kind) = tt
by_operand (Operand.Truth value) = tt
by_operand Operand.Unit = tt

by_operands : (operands : List Operand) → NoDrops (flat_map operand_uses operands)
by_operands [] = tt
by_operands (operand ∷ operands) =
    no_drops_append (operand_uses operand) (flat_map operand_uses operands) (by_operand operand) (by_operands operands)

by_others : (stmt : Stmt) → NoDrops (other_uses stmt)
by_others (Stmt.Borrow to unique of) = (refl, tt)
by_others (Stmt.Touch place) = (refl, tt)
by_others (Stmt.Free place) = (refl, tt)
by_others other = tt

by_stores : (places : List Place) → NoDrops (map (λ place. (Stores, place)) places)
by_stores [] = tt
by_stores (place ∷ places) = (refl, by_stores places)

by_stmt : (stmt : Stmt) → NoDrops (stmt_uses stmt)
by_stmt stmt =
    no_drops_append (flat_map operand_uses (operands_of_stmt stmt) ++ other_uses stmt) _
    (no_drops_append (flat_map operand_uses (operands_of_stmt stmt)) (other_uses stmt) (by_operands (operands_of_stmt stmt))
    (by_others stmt)) (by_stores (stored_by_stmt stmt))

not_empty : {A : Type 0} (x : A) (xs : List A) → x ∷ xs ≢ []
not_empty x xs e = cc

-- a list whose members have places
has_places : (u : PlaceUse × Place) (us vs : List (PlaceUse × Place)) → u ∷ us ≡ vs → map place_used vs ≢ []
has_places u us vs e none = not_empty (place_used u) (map place_used us) (ap (map place_used) e ∙ none)

module _ (body : Body) where
  -- what an action is done by in its block
  pub data ByLine (block : Block) (action : PathAction) : Type 0 where
    by_a_stmt : (stmt : Stmt) → slice_get block.stmts action.line ≡ Some stmt → places_of_stmt stmt ≢ [] →
        is_dropping action.how ≡ false → ByLine block action
    by_the_term : action.line ≡ length block.stmts → used_by_term block.term ≢ [] → is_dropping action.how ≡ false →
        ByLine block action
    by_a_drop : (place : Place) (next : ℕ) (unwind : Unwind) → action.line ≡ length block.stmts →
        block.term ≡ Term.DropAt place next unwind → action.place ≡ named place → action.how ≡ Drops → ByLine block action

  pub record IsDone (action : PathAction) : Type 0 where
    pub block : Block
    pub there : slice_get body.blocks action.block ≡ Some block
    pub by_line : ByLine block action

  abbrev pub AllDone : List PathAction → Type 0
  AllDone [] = Unit {0}
  AllDone (action ∷ actions) = IsDone action × AllDone actions

  pub done_append : (xs ys : List PathAction) → AllDone xs → AllDone ys → AllDone (xs ++ ys)
  done_append [] ys h k = k
  done_append (x ∷ xs) ys h k = (h.0, done_append xs ys h.1 k)

  module _ (n : ℕ) (block : Block) (there : slice_get body.blocks n ≡ Some block) where
    -- ---- statements
    of_uses : (line : ℕ) (stmt : Stmt) → slice_get block.stmts line ≡ Some stmt → places_of_stmt stmt ≢ [] →
        (us : List (PlaceUse × Place)) → NoDrops us → AllDone (at_line n line us)
    of_uses line stmt at some [] h = tt
    of_uses line stmt at some (u ∷ us) h = (
      record { block = block; there = there; by_line = by_a_stmt stmt at some h.0 },
      of_uses line stmt at some us h.1,
    )

    of_stmt : (line : ℕ) (stmt : Stmt) → slice_get block.stmts line ≡ Some stmt → AllDone (at_line n line (stmt_uses stmt))
    of_stmt line stmt at = by_uses (stmt_uses stmt) refl (by_stmt stmt)
      where
        by_uses : (us : List (PlaceUse × Place)) → us ≡ stmt_uses stmt → NoDrops us → AllDone (at_line n line us)
        by_uses [] e h = tt
        by_uses (u ∷ us) e h = of_uses line stmt at (has_places u us (stmt_uses stmt) e) (u ∷ us) h

    -- the statement behind some others
    behind : (front : List Stmt) (stmt : Stmt) (rest : List Stmt) → slice_get (front ++ stmt ∷ rest) (length front) ≡ Some stmt
    behind [] stmt rest = refl
    behind (first ∷ front) stmt rest = behind front stmt rest

    one_longer : (front : List Stmt) (stmt : Stmt) → length (front ++ stmt ∷ []) ≡ suc (length front)
    one_longer [] stmt = refl
    one_longer (first ∷ front) stmt = ap suc (one_longer front stmt)

    moved_over : (front : List Stmt) (stmt : Stmt) (rest : List Stmt) → (front ++ stmt ∷ []) ++ rest ≡ front ++ stmt ∷ rest
    moved_over [] stmt rest = refl
    moved_over (first ∷ front) stmt rest = ap (λ l. first ∷ l) (moved_over front stmt rest)

    of_stmts : (front stmts : List Stmt) → block.stmts ≡ front ++ stmts → AllDone (stmt_actions n (length front) stmts)
    of_stmts front [] e = tt
    of_stmts front (stmt ∷ stmts) e =
        done_append (at_line n (length front) (stmt_uses stmt)) (stmt_actions n (suc (length front)) stmts)
        (of_stmt (length front) stmt (ap (λ l. slice_get l (length front)) e ∙ behind front stmt stmts))
        (subst (λ line. AllDone (stmt_actions n line stmts)) (one_longer front stmt)
        (of_stmts (front ++ stmt ∷ []) stmts (e ∙ sym (moved_over front stmt stmts))))

    -- ---- the terminator
    of_plain_term : used_by_term block.term ≢ [] → (us : List (PlaceUse × Place)) → NoDrops us → AllDone (at_line n (length block.stmts) us)
    of_plain_term some [] h = tt
    of_plain_term some (u ∷ us) h = (
      record { block = block; there = there; by_line = by_the_term refl some h.0 },
      of_plain_term some us h.1,
    )

    first_of : (us vs : List Place) → us ≢ [] → us ++ vs ≢ []
    first_of [] vs some e = some refl
    first_of (u ∷ us) vs some e = not_empty u (us ++ vs) e

    second_of : (us vs : List Place) → vs ≢ [] → us ++ vs ≢ []
    second_of [] vs some e = some e
    second_of (u ∷ us) vs some e = not_empty u (us ++ vs) e

    of_list : (uses : List (PlaceUse × Place)) (stored : List Place) → (map place_used uses ++ stored ≢ [] → used_by_term block.term ≢ []) →
        NoDrops uses → AllDone (at_line n (length block.stmts) uses)
    of_list [] stored some h = tt
    of_list (u ∷ us) stored some h = of_plain_term (some (first_of (map place_used (u ∷ us)) stored (not_empty (place_used u) (map place_used us)))) (u ∷ us) h

    of_results : (uses stored : List Place) → (uses ++ stored ≢ [] → used_by_term block.term ≢ []) →
        AllDone (at_line n (length block.stmts) (map (λ place. (Stores, place)) stored))
    of_results uses [] some = tt
    of_results uses (place ∷ places) some =
        of_plain_term (some (second_of uses (place ∷ places) (not_empty place places))) (map (λ place. (Stores, place)) (place ∷ places)) (by_stores (place ∷ places))

    -- a terminator that is no drop uses its places
    used_so : (term : Term) → block.term ≡ term → (places_of_term term ≢ [] → used_by_term term ≢ []) → places_of_term term ≢ [] → used_by_term block.term ≢ []
    used_so term is so some = subst (λ t. used_by_term t ≢ []) (sym is) (so some)

    plain : (term : Term) → block.term ≡ term → (places_of_term term ≢ [] → used_by_term term ≢ []) → NoDrops (term_uses term) →
        AllDone (at_line n (length block.stmts) (term_uses term)) × AllDone (at_line n (length block.stmts) (map (λ place. (Stores, place)) (stored_by_term term)))
    plain term is so h = (
      of_list (term_uses term) (stored_by_term term) (used_so term is so) h,
      of_results (map place_used (term_uses term)) (stored_by_term term) (used_so term is so),
    )

    by_operands_alone : (operands : List Operand) → NoDrops (flat_map operand_uses operands ++ [])
    by_operands_alone operands = no_drops_append (flat_map operand_uses operands) [] (by_operands operands) tt

    of_term : (term : Term) → block.term ≡ term →
        AllDone (at_line n (length block.stmts) (term_uses term)) × AllDone (at_line n (length block.stmts) (map (λ place. (Stores, place)) (stored_by_term term)))
    of_term (Term.DropAt place next unwind) is = (
      (record { block = block; there = there; by_line = by_a_drop place next unwind refl is refl refl }, tt),
      tt,
    )
    of_term (Term.Case on variant if_true if_false) is = plain (Term.Case on variant if_true if_false) is (λ some. some) (refl, tt)
    of_term (Term.Goto block) is = (tt, tt)
    of_term (Term.Panic why unwind) is = (tt, tt)
    of_term Term.Return is = (tt, tt)
    of_term Term.Resume is = (tt, tt)
    of_term (Term.If on if_true if_false) is = plain (Term.If on if_true if_false) is (λ some. some) (by_operands_alone (on ∷ []))
    of_term (Term.Math to op left right next unwind) is = plain (Term.Math to op left right next unwind) is (λ some. some) (by_operands_alone (left ∷ right ∷ []))
    of_term (Term.Negate to of next unwind) is = plain (Term.Negate to of next unwind) is (λ some. some) (by_operands_alone (of ∷ []))
    of_term (Term.Bounds index count next unwind) is = plain (Term.Bounds index count next unwind) is (λ some. some) (by_operands_alone (index ∷ []))
    of_term (Term.Call to callee args next unwind) is = plain (Term.Call to callee args next unwind) is (λ some. some) (by_operands_alone args)
    of_term (Term.Virtual to trait_no method args next unwind) is = plain (Term.Virtual to trait_no method args next unwind) is (λ some. some) (by_operands_alone args)
    of_term (Term.Ask to next unwind) is = plain (Term.Ask to next unwind) is (λ some. some) (by_operands_alone [])

    of_block : AllDone (block_actions n block)
    of_block =
        done_append (stmt_actions n 0 block.stmts) (at_line n (length block.stmts) (term_uses block.term))
        (of_stmts [] block.stmts refl) (of_term block.term refl).0

    of_result : (next : ℕ) → AllDone (result_actions n next block)
    of_result next = by_way (list_any (nat_eq next) (onward block.term))
      where
        by_way : (b : Bool) → AllDone (if b then at_line n (length block.stmts) (map (λ place. (Stores, place)) (stored_by_term block.term)) else [])
        by_way true = (of_term block.term refl).1
        by_way false = tt

  in_block : (n : ℕ) (o : Option Block) → slice_get body.blocks n ≡ o → AllDone (option_map_or (block_actions n) o [])
  in_block n None e = tt
  in_block n (Some block) e = of_block n block e

  on_way : (n next : ℕ) (o : Option Block) → slice_get body.blocks n ≡ o → AllDone (option_map_or (result_actions n next) o [])
  on_way n next None e = tt
  on_way n next (Some block) e = of_result n block e next

  -- each action of a path is done by a line
  pub on_path : (path : List ℕ) → AllDone (actions_on body path)
  on_path [] = tt
  on_path (last ∷ []) = in_block last (slice_get body.blocks last) refl
  on_path (n ∷ next ∷ path) =
      done_append _ _ (done_append _ _ (in_block n (slice_get body.blocks n) refl) (on_way n next (slice_get body.blocks n)
      refl)) (on_path (next ∷ path))
