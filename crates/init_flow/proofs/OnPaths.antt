-- Rows are carried along exactly the paths of a body.
use Rattle.std.proofs.Common.{◌≡◌, ◌↔◌, ◌⊎◌, inl, inr, ℕ, zero, suc, ◌<◌, Bool, true, false, if◌then◌else◌, List, [], ◌∷◌, ◌++◌, map, flat_map, Option, Some, None, slice_get, Contains, refl, sym, ap, subst, ◌∙◌, arith}
use Rattle.std.specs.Prelude.{slice_index_or, option_and_then, ◌==◌}
use Rattle.std.specs.Option.{option_map_or}
use Rattle.std.proofs.lemmas.Bool.{false≢true, eqb-true, eq-eqb}
use Rattle.std.proofs.lemmas.Option.{none-some, same_Some, get_or_from_slice_get}
use Rattle.std.proofs.lemmas.List.{append-nil, append_cancel_right, get_or-map}
use Rattle.std.proofs.lemmas.Option.{slice_get_within}
use Rattle.mir_ty.specs.ItemTable.{ItemTable}
use Rattle.mir_ty.specs.Facts.{needs_drop}
use Rattle.store_model.specs.Places.Place.{Place, whole_local}
use Rattle.store_model.specs.Places.TypeForms.{is_never}
use Rattle.cfg_graph.specs.declared.terminator.Term.{Term}
use Rattle.cfg_graph.specs.declared.terminator.Unwind.{Unwind}
use Rattle.cfg_graph.specs.declared.graph.Block.{Block}
use Rattle.cfg_graph.specs.declared.graph.Body.{Body}
use Rattle.cfg_graph.specs.Edges.{BlockExit, ToBlock, LeavesBody, unwind_exit, is_turn}
use Rattle.cfg_graph.specs.Places.{place_id, ty_of_place}
use Rattle.cfg_graph.specs.Moves.Actions.{actions_on}
use Rattle.cfg_graph.specs.Moves.Gone.{PathAction, is_gone_after}
use Rattle.cfg_graph.specs.Moves.Paths.{PathWay, ways}
use Rattle.init_flow.specs.Carried.{Bits, leads_to, rows_along}
use Rattle.init_flow.specs.Ways.{target, target_among, number_of, block_of}
use Rattle.init_flow.specs.Moved.{says, LeadsTo, SolvedSays}

-- Lists that have an element.

abbrev Filled : {X : Type 0} → List X → Type 0
Filled {X} xs = (x : X) × Contains xs x

filled-first : {X : Type 0} (x : X) (xs : List X) → Filled (x ∷ xs)
filled-first x xs = (x, (0, omega arith, refl))

filled-later : {X : Type 0} (y : X) (xs : List X) → Filled xs → Filled (y ∷ xs)
filled-later y xs has = (has.0, (suc has.1.0, (let k = has.1.1 in omega (k, arith)), has.1.2))

not-filled : {X : Type 0} → Filled {X = X} [] → ⊥
not-filled has = let k = has.1.1 in omega (k, arith)

filled-left : {X : Type 0} (xs ys : List X) → Filled xs → Filled (xs ++ ys)
filled-left [] ys has = absurd (not-filled has)
filled-left (x ∷ xs) ys has = filled-first x (xs ++ ys)

filled-right : {X : Type 0} (xs ys : List X) → Filled ys → Filled (xs ++ ys)
filled-right [] ys has = has
filled-right (x ∷ xs) ys has = filled-first x (xs ++ ys)

filled-either : {X : Type 0} (xs ys : List X) → Filled (xs ++ ys) → Filled xs ⊎ Filled ys
filled-either [] ys has = inr has
filled-either (x ∷ xs) ys has = inl (filled-first x xs)

filled-map : {X Y : Type 0} (f : X → Y) (xs : List X) → Filled xs → Filled (map f xs)
filled-map f [] has = absurd (not-filled has)
filled-map f (x ∷ xs) has = filled-first (f x) (map f xs)

filled-unmap : {X Y : Type 0} (f : X → Y) (xs : List X) → Filled (map f xs) → Filled xs
filled-unmap f [] has = absurd (not-filled has)
filled-unmap f (x ∷ xs) has = filled-first x xs

-- of lists that are one as full as another
filled-each : {X Y Z : Type 0} (f : X → Z → Y) (xs : List X) (zs : List Z) → Filled xs → Filled zs → Filled (flat_map (λ x. map (f x) zs) xs)
filled-each f [] zs one two = absurd (not-filled one)
filled-each f (x ∷ xs) zs one two = filled-left (map (f x) zs) (flat_map (λ x. map (f x) zs) xs) (filled-map (f x) zs two)

filled-both : {X Y Z : Type 0} (f : X → Z → Y) (xs : List X) (zs : List Z) → Filled (flat_map (λ x. map (f x) zs) xs) → Filled xs × Filled zs
filled-both f [] zs has = absurd (not-filled has)
filled-both f (x ∷ xs) zs has = (
  filled-first x xs,
  elim (filled-either (map (f x) zs) (flat_map (λ x. map (f x) zs) xs) has) [
    | inl here ↦ filled-unmap (f x) zs here
    | inr later ↦ (filled-both f xs zs later).1
  ],
)

-- The ways from a block to another.

abbrev choices_to : ℕ → PathWay → List (List Bool)
choices_to block way =
    elim way.exit [ ToBlock next ↦ if next == block then way.choices ∷ [] else [] | LeavesBody ↦ [] ]

to-forth : (to : ℕ) (choices : List Bool) (exit : BlockExit) → Filled (choices_to to (record { choices = choices; exit = exit })) → block_of exit ≡ Some to
to-forth to choices (ToBlock next) has = by (next == to) refl has
  where
    by : (b : Bool) → (next == to) ≡ b → Filled (if b then choices ∷ [] else []) → Some next ≡ Some to
    by true e has = ap Some (eqb-true next to e)
    by false e has = absurd (not-filled has)
to-forth to choices LeavesBody has = absurd (not-filled has)

to-back : (to : ℕ) (choices : List Bool) (exit : BlockExit) → block_of exit ≡ Some to → Filled (choices_to to (record { choices = choices; exit = exit }))
to-back to choices (ToBlock next) e =
    subst (λ (b : Bool). Filled (if b then choices ∷ [] else [])) (sym (eq-eqb next to (same_Some next to e))) (filled-first choices [])
to-back to choices LeavesBody e = absurd (none-some to e)

-- the ways lead to a block exactly where one of them does by its number
abbrev Agree : List PathWay → ℕ → Type 0
Agree list to = Filled (flat_map (choices_to to) list) ↔ ((k : ℕ) × (k < 2) × (target_among k list ≡ Some to))

agree-none : (to : ℕ) → Agree [] to
agree-none to = (λ has. absurd (not-filled has), λ it. absurd (none-some to it.2))

small : (choices : List Bool) → number_of choices < 2
small [] = omega arith
small (true ∷ rest) = omega arith
small (false ∷ rest) = omega arith

when : (b : Bool) (o : Option ℕ) (to : ℕ) → (if b then o else None) ≡ Some to → o ≡ Some to
when true o to e = e
when false o to e = absurd (none-some to e)

agree-one : (choices : List Bool) (exit : BlockExit) (to : ℕ) → Agree (record { choices = choices; exit = exit } ∷ []) to
agree-one choices exit to = (
  λ has. (
    number_of choices,
    small choices,
    ap (λ (b : Bool). if b then block_of exit else None) (eq-eqb (number_of choices) (number_of choices) refl)
        ∙ to-forth to choices exit (subst Filled (append-nil (choices_to to (record { choices = choices; exit = exit }))) has),
  ),
  λ it. filled-left (choices_to to (record { choices = choices; exit = exit })) []
      (to-back to choices exit (when (number_of choices == it.0) (block_of exit) to it.2)),
)

agree-two : (a b : BlockExit) (to : ℕ) → Agree (record { choices = false ∷ []; exit = a } ∷ record { choices = true ∷ []; exit = b } ∷ []) to
agree-two a b to = (forth, λ it. back it.0 it.1 it.2)
  where
    none : PathWay
    none = record { choices = false ∷ []; exit = a }

    one : PathWay
    one = record { choices = true ∷ []; exit = b }

    forth : Filled (choices_to to none ++ (choices_to to one ++ [])) → (k : ℕ) × (k < 2) × (target_among k (none ∷ one ∷ []) ≡ Some to)
    forth has = elim (filled-either (choices_to to none) (choices_to to one ++ []) has) [
      | inl here ↦ (0, omega arith, to-forth to (false ∷ []) a here)
      | inr there ↦ (1, omega arith, to-forth to (true ∷ []) b (subst Filled (append-nil (choices_to to one)) there))
    ]

    back : (k : ℕ) → k < 2 → target_among k (none ∷ one ∷ []) ≡ Some to → Filled (choices_to to none ++ (choices_to to one ++ []))
    back zero below e = filled-left (choices_to to none) (choices_to to one ++ []) (to-back to (false ∷ []) a e)
    back (suc zero) below e = filled-right (choices_to to none) (choices_to to one ++ []) (filled-left (choices_to to one) [] (to-back to (true ∷ []) b e))
    back (suc (suc k)) below e = absurd (omega (below, arith))

module _ (items : ItemTable) (body : Body) where
  agree-call : (never : Bool) (next : ℕ) (unwind : Unwind) (to : ℕ)
      → Agree (if never then record { choices = true ∷ []; exit = unwind_exit unwind } ∷ [] else record { choices = false ∷ []; exit = ToBlock next } ∷ record { choices = true ∷ []; exit = unwind_exit unwind } ∷ []) to
  agree-call true next unwind to = agree-one (true ∷ []) (unwind_exit unwind) to
  agree-call false next unwind to = agree-two (ToBlock next) (unwind_exit unwind) to

  agree-drop : (needed : Bool) (next : ℕ) (unwind : Unwind) (to : ℕ)
      → Agree (if needed then record { choices = false ∷ []; exit = ToBlock next } ∷ record { choices = true ∷ []; exit = unwind_exit unwind } ∷ [] else record { choices = []; exit = ToBlock next } ∷ []) to
  agree-drop true next unwind to = agree-two (ToBlock next) (unwind_exit unwind) to
  agree-drop false next unwind to = agree-one [] (ToBlock next) to

  agree : (term : Term) (to : ℕ) → Agree (ways items body term) to
  agree (Term.Goto block) to = agree-one [] (ToBlock block) to
  agree (Term.If on if_true if_false) to = agree-two (ToBlock if_false) (ToBlock if_true) to
  agree (Term.Case on variant if_true if_false) to = agree-two (ToBlock if_false) (ToBlock if_true) to
  agree (Term.Math place op left right next unwind) to = agree-two (ToBlock next) (unwind_exit unwind) to
  agree (Term.Negate place of next unwind) to = agree-two (ToBlock next) (unwind_exit unwind) to
  agree (Term.Bounds index count next unwind) to = agree-two (ToBlock next) (unwind_exit unwind) to
  agree (Term.Call place callee args next unwind) to = agree-call (is_never (ty_of_place items body.locals place)) next unwind to
  agree (Term.Virtual place trait_no method args next unwind) to = agree-call (is_never (ty_of_place items body.locals place)) next unwind to
  agree (Term.Ask place next unwind) to = agree-two (ToBlock next) (unwind_exit unwind) to
  agree (Term.DropAt place next unwind) to = agree-drop (option_map_or (needs_drop items) (place_id items body.locals place) false) next unwind to
  agree (Term.Panic why unwind) to = agree-one [] (unwind_exit unwind) to
  agree Term.Return to = agree-none to
  agree Term.Resume to = agree-none to

  -- the choices of paths, as the definition has them
  abbrev ways_from : ℕ → List PathWay
  ways_from block = option_map_or (λ found. ways items body found.term) (slice_get body.blocks block) []

  abbrev zero_if : Bool → List Bool
  zero_if true = false ∷ []
  zero_if false = []

  abbrev entry_choices : ℕ → List Bool
  entry_choices block = zero_if (option_map_or is_turn (slice_get body.blocks block) false)

  abbrev choices_between : ℕ → ℕ → List (List Bool)
  choices_between from to = flat_map (choices_to to) (ways_from from)

  abbrev choices_along : (ℕ → List (List Bool)) → ℕ → List ℕ → List (List Bool)
  choices_along at_last from [] = at_last from
  choices_along at_last from (to ∷ path) =
      flat_map (λ given. map (λ rest. given ++ entry_choices to ++ rest) (choices_along at_last to path))
      (choices_between from to)

  between-forth : (n to : ℕ) → Filled (choices_between n to) → (k : ℕ) × (k < 2) × (target items body n k ≡ Some to)
  between-forth n to = by (slice_get body.blocks n)
    where
      by : (o : Option Block) → Filled (flat_map (choices_to to) (option_map_or (λ found. ways items body found.term) o [])) → (k : ℕ) × (k < 2) × (option_and_then (λ found. target_among k (ways items body found.term)) o ≡ Some to)
      by None has = absurd (not-filled has)
      by (Some block) has = (agree block.term to).0 has

  between-back : (n k to : ℕ) → k < 2 → target items body n k ≡ Some to → Filled (choices_between n to)
  between-back n k to below = by (slice_get body.blocks n)
    where
      by : (o : Option Block) → option_and_then (λ found. target_among k (ways items body found.term)) o ≡ Some to → Filled (flat_map (choices_to to) (option_map_or (λ found. ways items body found.term) o []))
      by None e = absurd (none-some to e)
      by (Some block) e = (agree block.term to).1 (k, below, e)

  module _ (pass : ℕ → ℕ → Bits → Bits) where
    led : (to : ℕ) (o : Option ℕ) → leads_to to o ≡ true → o ≡ Some to
    led to None h = absurd (false≢true h)
    led to (Some m) h = ap Some (eqb-true m to h)

    leads : (to : ℕ) (o : Option ℕ) → o ≡ Some to → leads_to to o ≡ true
    leads to o e = ap (leads_to to) e ∙ eq-eqb to to refl

    abbrev by_way : ℕ → ℕ → Bits → ℕ → List ℕ → List Bits
    by_way n k row to path = if leads_to to (target items body n k) then rows_along (target items body) pass to (pass n k row) path else []

    filled-if : {X : Type 0} (b : Bool) (xs : List X) → Filled (if b then xs else []) → (b ≡ true) × Filled xs
    filled-if true xs has = (refl, has)
    filled-if false xs has = absurd (not-filled has)

    rows-choices : (path : List ℕ) (n : ℕ) (row : Bits) → Filled (rows_along (target items body) pass n row path) → Filled (choices_along (λ last. [] ∷ []) n path)
    rows-choices [] n row has = filled-first [] []
    rows-choices (to ∷ path) n row has =
        let one : (k : ℕ) → k < 2 → Filled (by_way n k row to path) → Filled (choices_along (λ last. [] ∷ []) n (to ∷ path)) =
        (λ k below here.
        let it = filled-if (leads_to to (target items body n k)) (rows_along (target items body) pass to (pass n k row) path) here in
        filled-each (λ given rest. given ++ entry_choices to ++ rest) (choices_between n to) (choices_along (λ last. [] ∷ []) to path)
        (between-back n k to below (led to (target items body n k) it.0)) (rows-choices path to (pass n k row) it.1)) in
        elim (filled-either (by_way n 0 row to path) (by_way n 1 row to path) has) [
          | inl here ↦ one 0 (omega arith) here
          | inr here ↦ one 1 (omega arith) here
        ]

    choices-rows : (path : List ℕ) (n : ℕ) (row : Bits) → Filled (choices_along (λ last. [] ∷ []) n path) → Filled (rows_along (target items body) pass n row path)
    choices-rows [] n row has = filled-first row []
    choices-rows (to ∷ path) n row has =
        let both = filled-both (λ given rest. given ++ entry_choices to ++ rest) (choices_between n to) (choices_along (λ last. [] ∷ []) to path) has in
        let way = between-forth n to both.0 in
        let rest : (k : ℕ) → target items body n k ≡ Some to → Filled (by_way n k row to path) =
        (λ k e. subst (λ (b : Bool). Filled (if b then rows_along (target items body) pass to (pass n k row) path else [])) (sym (leads to (target items body n k) e)) (choices-rows path to (pass n k row) both.1)) in
        place way.0 way.1 way.2 rest
      where
        place : (k : ℕ) → k < 2 → target items body n k ≡ Some to → ((k : ℕ) → target items body n k ≡ Some to → Filled (by_way n k row to path)) → Filled (by_way n 0 row to path ++ by_way n 1 row to path)
        place zero below e rest = filled-left (by_way n 0 row to path) (by_way n 1 row to path) (rest 0 e)
        place (suc zero) below e rest = filled-right (by_way n 0 row to path) (by_way n 1 row to path) (rest 1 e)
        place (suc (suc k)) below e rest = absurd (omega (below, arith))

pub solved-says : SolvedSays
solved-says items body places gone pass first rows said carried n k place inside at = (forth, back)
  where
    bit-is : (earlier : List PathAction) (row : Bits) → row ≡ map (λ place. says gone (is_gone_after items body earlier place)) places → slice_index_or row k false ≡ says gone (is_gone_after items body earlier place)
    bit-is earlier row is =
        ap (λ (z : Bits). slice_index_or z k false) is
        ∙ get_or-map (λ place. says gone (is_gone_after items body earlier place)) places k (whole_local 0) false (slice_get_within places k place at)
        ∙ ap (λ (q : Place). says gone (is_gone_after items body earlier q)) (get_or_from_slice_get places k place (whole_local 0) at)

    said-so : (gone is : Bool) → says gone is ≡ true → is ≡ gone
    said-so true is h = h
    said-so false true h = absurd (false≢true h)
    said-so false false h = refl

    so-said : (gone is : Bool) → is ≡ gone → says gone is ≡ true
    so-said true is h = h
    so-said false true h = absurd (false≢true (sym h))
    so-said false false h = refl

    forth : slice_index_or (slice_index_or rows n []) k false ≡ true → LeadsTo items body n place gone
    forth on =
        let it = (carried n k inside).0 on in
        let path = it.1.0 in
        let told = said.rows path it.0 it.1.2 in
        let choices = filled-map (λ (rest : List Bool). entry_choices items body 0 ++ rest) (choices_along items body (λ last. [] ∷ []) 0 path) (rows-choices items body pass path 0 first (it.0, it.1.2)) in
        record {
          rest = path;
          choices = choices.0;
          earlier = told.0;
          is_path = choices.1;
          ends = it.1.1;
          before = told.1 ∙ ap (λ (z : ℕ). told.0 ++ actions_on body (z ∷ [])) it.1.1;
          is = said-so gone (is_gone_after items body told.0 place) (sym (bit-is told.0 it.0 told.2) ∙ it.2);
        }

    back : LeadsTo items body n place gone → slice_index_or (slice_index_or rows n []) k false ≡ true
    back it =
        let row = choices-rows items body pass it.rest 0 first (filled-unmap (λ (rest : List Bool). entry_choices items body 0 ++ rest) (choices_along items body (λ last. [] ∷ []) 0 it.rest) (it.choices, it.is_path)) in
        let told = said.rows it.rest row.0 row.1 in
        let same : told.0 ≡ it.earlier =
        append_cancel_right told.0 it.earlier (actions_on body (n ∷ []))
        (ap (λ (z : ℕ). told.0 ++ actions_on body (z ∷ [])) (sym it.ends) ∙ sym told.1 ∙ it.before) in
        (carried n k inside).1 (
          row.0,
          (it.rest, it.ends, row.1),
          bit-is told.0 row.0 told.2 ∙ ap (λ (z : List PathAction). says gone (is_gone_after items body z place)) same ∙ so-said gone (is_gone_after items body it.earlier place) it.is,
        )
