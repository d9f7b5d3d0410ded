-- Paths of a body that grow by a block.
use Rattle.std.proofs.Common.{◌≡◌, inl, inr, ℕ, zero, suc, Bool, true, false, not, if◌then◌else◌, List, [], ◌∷◌, ◌++◌, map, flat_map, Option, Some, None, slice_get, Contains, refl, sym, ap, subst, ◌∙◌}
use Rattle.std.specs.Prelude.{option_and_then, ◌==◌}
use Rattle.std.specs.Option.{option_map_or}
use Rattle.std.proofs.lemmas.Bool.{false≢true, eqb-true, eq-eqb}
use Rattle.std.proofs.lemmas.Option.{none-some, same_Some}
use Rattle.std.proofs.lemmas.List.{append-nil, append_assoc}
use Rattle.std.proofs.lemmas.List.Elements.{Contains-append_left, Contains-append_right, Contains-append_cases}
use Rattle.mir_ty.specs.ItemTable.{ItemTable}
use Rattle.mir_ty.specs.Facts.{needs_drop}
use Rattle.store_model.specs.Places.TypeForms.{is_never}
use Rattle.cfg_graph.specs.declared.terminator.Term.{Term}
use Rattle.cfg_graph.specs.declared.terminator.Unwind.{Unwind}
use Rattle.cfg_graph.specs.declared.graph.Block.{Block}
use Rattle.cfg_graph.specs.declared.graph.Body.{Body}
use Rattle.cfg_graph.specs.Edges.{BlockExit, ToBlock, LeavesBody, unwind_exit, is_turn}
use Rattle.cfg_graph.specs.Places.{place_id, ty_of_place}
use Rattle.cfg_graph.specs.Moves.Actions.{actions_on}
use Rattle.cfg_graph.specs.Moves.Gone.{PathAction}
use Rattle.cfg_graph.specs.Moves.Paths.{PathWay, ways, IsPath}
use Rattle.init_flow.specs.Carried.{last_of}
use Rattle.init_flow.specs.Ways.{target, target_among, block_of}
use Rattle.init_flow.proofs.Along.{actions_in, actions_between}
use Rattle.move_errors.specs.declared.point.Point.{Point}
use Rattle.move_errors.specs.declared.point.Stage.{Stage}
use Rattle.move_errors.specs.declared.point.Onward.{Onward}
use Rattle.move_errors.specs.Runs.{Leads, optional, number_of, point, silently, leaving, left_block, is_silent, onward_from}
use Rattle.move_errors.proofs.Sorted.{here, there, none-in, first-or}

-- Members of lists of lists.

pub map-in : {X Y : Type 0} (f : X → Y) (xs : List X) (x : X) → Contains xs x → Contains (map f xs) (f x)
map-in f [] x has = absurd (none-in x has)
map-in f (y ∷ xs) x has = elim (first-or x y xs has) [
  | inl same ↦ subst (λ z. Contains (f y ∷ map f xs) (f z)) same (here (f y) (map f xs))
  | inr later ↦ there (f x) (f y) (map f xs) (map-in f xs x later)
]

pub in-map : {X Y : Type 0} (f : X → Y) (xs : List X) (y : Y) → Contains (map f xs) y → (x : X) × Contains xs x × (f x ≡ y)
in-map f [] y has = absurd (none-in y has)
in-map f (x ∷ xs) y has = elim (first-or y (f x) (map f xs) has) [
  | inl same ↦ (x, here x xs, same)
  | inr later ↦ (let it = in-map f xs y later in (it.0, there it.0 x xs it.1, it.2))
]

pub flat-in : {X Y : Type 0} (f : X → List Y) (xs : List X) (x : X) (y : Y) → Contains xs x → Contains (f x) y → Contains (flat_map f xs) y
flat-in f [] x y has inside = absurd (none-in x has)
flat-in f (z ∷ xs) x y has inside = elim (first-or x z xs has) [
  | inl same ↦ Contains-append_left (f z) (flat_map f xs) y (subst (λ w. Contains (f w) y) (sym same) inside)
  | inr later ↦ Contains-append_right (f z) (flat_map f xs) y (flat-in f xs x y later inside)
]

pub in-flat : {X Y : Type 0} (f : X → List Y) (xs : List X) (y : Y) → Contains (flat_map f xs) y → (x : X) × Contains xs x × Contains (f x) y
in-flat f [] y has = absurd (none-in y has)
in-flat f (x ∷ xs) y has = elim (Contains-append_cases (f x) (flat_map f xs) y has) [
  | inl now ↦ (x, here x xs, now)
  | inr later ↦ (let it = in-flat f xs y later in (it.0, there it.0 x xs it.1, it.2))
]

-- The last block of a path.

pub ends : (d : ℕ) (front : List ℕ) (n : ℕ) → last_of d (front ++ n ∷ []) ≡ n
ends d [] n = refl
ends d (k ∷ front) n = ends k front n

pub split-last : (n : ℕ) (path : List ℕ) → (front : List ℕ) × (n ∷ path ≡ front ++ last_of n path ∷ [])
split-last n [] = ([], refl)
split-last n (m ∷ path) = let it = split-last m path in (n ∷ it.0, ap (λ (z : List ℕ). n ∷ z) it.1)

-- The actions.

regroup : {X : Type 0} (a b c d : List X) → a ++ ((b ++ c) ++ d) ≡ ((a ++ b) ++ c) ++ d
regroup a b c d = sym (append_assoc a (b ++ c) d) ∙ ap (λ z. z ++ d) (sym (append_assoc a b c))

module _ (body : Body) where
  pub actions-snoc : (front : List ℕ) (n m : ℕ)
      → actions_on body ((front ++ n ∷ []) ++ m ∷ []) ≡ (actions_on body (front ++ n ∷ []) ++ actions_between body n m) ++ actions_on body (m ∷ [])
  actions-snoc [] n m = refl
  actions-snoc (k ∷ []) n m = regroup (actions_in body k ++ actions_between body k n) (actions_in body n) (actions_between body n m) (actions_on body (m ∷ []))
  actions-snoc (k ∷ (j ∷ front)) n m =
      ap (λ (z : List PathAction). (actions_in body k ++ actions_between body k j) ++ z) (actions-snoc (j ∷ front) n m)
      ∙ regroup (actions_in body k ++ actions_between body k j) (actions_on body ((j ∷ front) ++ n ∷ [])) (actions_between body n m) (actions_on body (m ∷ []))

-- The choices, as the definition has them.

abbrev choices_to : ℕ → PathWay → List (List Bool)
choices_to block way =
    elim way.exit [ ToBlock next ↦ if next == block then way.choices ∷ [] else [] | LeavesBody ↦ [] ]

abbrev zero_if : Bool → List Bool
zero_if true = false ∷ []
zero_if false = []

module _ (items : ItemTable) (body : Body) where
  abbrev ways_from : ℕ → List PathWay
  ways_from block = option_map_or (λ found. ways items body found.term) (slice_get body.blocks block) []

  abbrev pub entry_choices : ℕ → List Bool
  entry_choices block = zero_if (option_map_or is_turn (slice_get body.blocks block) false)

  abbrev pub choices_between : ℕ → ℕ → List (List Bool)
  choices_between from to = flat_map (choices_to to) (ways_from from)

  abbrev pub choices_along : (ℕ → List (List Bool)) → ℕ → List ℕ → List (List Bool)
  choices_along at_last from [] = at_last from
  choices_along at_last from (to ∷ path) =
      flat_map (λ given. map (λ rest. given ++ entry_choices to ++ rest) (choices_along at_last to path))
      (choices_between from to)

  abbrev pub along : ℕ → List ℕ → List (List Bool)
  along from path = choices_along (λ last. [] ∷ []) from path

  -- a path goes on by a way
  along-snoc : (path : List ℕ) (from m : ℕ) (rest way : List Bool) → Contains (along from path) rest → Contains (choices_between (last_of from path) m) way
      → Contains (along from (path ++ m ∷ [])) ((rest ++ way) ++ entry_choices m)
  along-snoc [] from m rest way has by = elim (first-or rest [] [] has) [
    | inl same ↦ subst (λ (z : List Bool). Contains (along from (m ∷ [])) ((z ++ way) ++ entry_choices m)) same
        (subst (Contains (along from (m ∷ []))) (append-nil (way ++ entry_choices m))
        (flat-in (λ given. map (λ rest. given ++ entry_choices m ++ rest) ([] ∷ [])) (choices_between from m) way ((way ++ entry_choices m) ++ []) by
        (map-in (λ (rest : List Bool). way ++ entry_choices m ++ rest) ([] ∷ []) [] (here [] []))))
    | inr stop ↦ absurd (none-in rest stop)
  ]
  along-snoc (to ∷ path) from m rest way has by =
      let one = in-flat (λ given. map (λ rest. given ++ entry_choices to ++ rest) (along to path)) (choices_between from to) rest has in
      let two = in-map (λ (rest : List Bool). one.0 ++ entry_choices to ++ rest) (along to path) rest one.2 in
      let more = along-snoc path to m two.0 way two.1 by in
      subst (Contains (along from (to ∷ (path ++ m ∷ []))))
      (sym (append_assoc (one.0 ++ entry_choices to) (two.0 ++ way) (entry_choices m))
      ∙ ap (λ (z : List Bool). z ++ entry_choices m) (sym (append_assoc (one.0 ++ entry_choices to) two.0 way))
      ∙ ap (λ (z : List Bool). (z ++ way) ++ entry_choices m) two.2)
      (flat-in (λ given. map (λ rest. given ++ entry_choices to ++ rest) (along to (path ++ m ∷ []))) (choices_between from to) one.0
      ((one.0 ++ entry_choices to) ++ ((two.0 ++ way) ++ entry_choices m)) one.1
      (map-in (λ (rest : List Bool). one.0 ++ entry_choices to ++ rest) (along to (path ++ m ∷ [])) ((two.0 ++ way) ++ entry_choices m) more))

  pub path-snoc : (path front : List ℕ) (n m : ℕ) (before way : List Bool) → path ≡ front ++ n ∷ [] → IsPath items body path before → Contains (choices_between n m) way
      → IsPath items body (path ++ m ∷ []) ((before ++ way) ++ entry_choices m)
  path-snoc [] front n m before way is path by = absurd (none-in before path)
  path-snoc (suc k ∷ rest) front n m before way is path by = absurd (none-in before path)
  path-snoc (zero ∷ rest) front n m before way is path by =
      let it = in-map (λ (rest : List Bool). entry_choices 0 ++ rest) (along 0 rest) before path in
      let last : last_of 0 rest ≡ n = ap (last_of 0) is ∙ ends 0 front n in
      let more = along-snoc rest 0 m it.0 way it.1 (subst (λ (z : ℕ). Contains (choices_between z m) way) (sym last) by) in
      subst (Contains (map (λ (rest : List Bool). entry_choices 0 ++ rest) (along 0 (rest ++ m ∷ []))))
      (sym (append_assoc (entry_choices 0) (it.0 ++ way) (entry_choices m))
      ∙ ap (λ (z : List Bool). z ++ entry_choices m) (sym (append_assoc (entry_choices 0) it.0 way))
      ∙ ap (λ (z : List Bool). (z ++ way) ++ entry_choices m) it.2)
      (map-in (λ (rest : List Bool). entry_choices 0 ++ rest) (along 0 (rest ++ m ∷ [])) ((it.0 ++ way) ++ entry_choices m) more)

  -- The ways out of a block, and where a run goes on from within it.

  abbrev Out : BlockExit → List Bool → PathWay
  Out exit choices = record { choices = choices; exit = exit }

  pub data Shape : List PathWay → Bool → Type 0 where
    none : (silent : Bool) → Shape [] silent
    lone : (exit : BlockExit) → Shape (Out exit [] ∷ []) true
    second : (exit : BlockExit) → Shape (Out exit (true ∷ []) ∷ []) false
    both : (first other : BlockExit) → Shape (Out first (false ∷ []) ∷ Out other (true ∷ []) ∷ []) false

  shape-call : (never : Bool) (next : ℕ) (unwind : Unwind)
      → Shape (if never then Out (unwind_exit unwind) (true ∷ []) ∷ [] else Out (ToBlock next) (false ∷ []) ∷ Out (unwind_exit unwind) (true ∷ []) ∷ []) false
  shape-call true next unwind = second (unwind_exit unwind)
  shape-call false next unwind = both (ToBlock next) (unwind_exit unwind)

  shape-drop : (needed : Bool) (next : ℕ) (unwind : Unwind)
      → Shape (if needed then Out (ToBlock next) (false ∷ []) ∷ Out (unwind_exit unwind) (true ∷ []) ∷ [] else Out (ToBlock next) [] ∷ []) (not needed)
  shape-drop true next unwind = both (ToBlock next) (unwind_exit unwind)
  shape-drop false next unwind = lone (ToBlock next)

  shape : (term : Term) → Shape (ways items body term) (is_silent items body term)
  shape (Term.Goto block) = lone (ToBlock block)
  shape (Term.If on if_true if_false) = both (ToBlock if_false) (ToBlock if_true)
  shape (Term.Case on variant if_true if_false) = both (ToBlock if_false) (ToBlock if_true)
  shape (Term.Math place op left right next unwind) = both (ToBlock next) (unwind_exit unwind)
  shape (Term.Negate place of next unwind) = both (ToBlock next) (unwind_exit unwind)
  shape (Term.Bounds index count next unwind) = both (ToBlock next) (unwind_exit unwind)
  shape (Term.Call place callee args next unwind) = shape-call (is_never (ty_of_place items body.locals place)) next unwind
  shape (Term.Virtual place trait_no method args next unwind) = shape-call (is_never (ty_of_place items body.locals place)) next unwind
  shape (Term.Ask place next unwind) = both (ToBlock next) (unwind_exit unwind)
  shape (Term.DropAt place next unwind) = shape-drop (option_map_or (needs_drop items) (place_id items body.locals place) false) next unwind
  shape (Term.Panic why unwind) = lone (unwind_exit unwind)
  shape Term.Return = none false
  shape Term.Resume = none false

  -- a choice of a way by its number
  abbrev pub Chosen : (silent k : Bool) → Option Bool → Type 0
  Chosen true k choice = (k ≡ false) × (choice ≡ None)
  Chosen false k choice = choice ≡ Some k

  -- the way with a number that leads to a block gives its choice
  way-there : (list : List PathWay) (silent : Bool) → Shape list silent → (k : Bool) (choice : Option Bool) (m : ℕ) → Chosen silent k choice → target_among (number_of k) list ≡ Some m
      → Contains list (Out (ToBlock m) (optional choice))
  way-there _ _ (none silent) k choice m chosen to = absurd (none-some m to)
  way-there _ _ (lone exit) true choice m chosen to = absurd (false≢true (sym chosen.0))
  way-there _ _ (lone (ToBlock b)) false choice m chosen to =
      subst (λ (z : PathWay). Contains (Out (ToBlock b) [] ∷ []) z) (λ i. Out (ToBlock (same_Some b m to i)) (optional (sym chosen.1 i))) (here (Out (ToBlock b) []) [])
  way-there _ _ (lone LeavesBody) false choice m chosen to = absurd (none-some m to)
  way-there _ _ (second exit) false choice m chosen to = absurd (none-some m to)
  way-there _ _ (second (ToBlock b)) true choice m chosen to =
      subst (λ (z : PathWay). Contains (Out (ToBlock b) (true ∷ []) ∷ []) z) (λ i. Out (ToBlock (same_Some b m to i)) (optional (sym chosen i))) (here (Out (ToBlock b) (true ∷ [])) [])
  way-there _ _ (second LeavesBody) true choice m chosen to = absurd (none-some m to)
  way-there _ _ (both (ToBlock b) other) false choice m chosen to =
      subst (λ (z : PathWay). Contains (Out (ToBlock b) (false ∷ []) ∷ Out other (true ∷ []) ∷ []) z) (λ i. Out (ToBlock (same_Some b m to i)) (optional (sym chosen i))) (here (Out (ToBlock b) (false ∷ [])) (Out other (true ∷ []) ∷ []))
  way-there _ _ (both LeavesBody other) false choice m chosen to = absurd (none-some m to)
  way-there _ _ (both first (ToBlock b)) true choice m chosen to =
      subst (λ (z : PathWay). Contains (Out first (false ∷ []) ∷ Out (ToBlock b) (true ∷ []) ∷ []) z) (λ i. Out (ToBlock (same_Some b m to i)) (optional (sym chosen i)))
      (there (Out (ToBlock b) (true ∷ [])) (Out first (false ∷ [])) (Out (ToBlock b) (true ∷ []) ∷ []) (here (Out (ToBlock b) (true ∷ [])) []))
  way-there _ _ (both first LeavesBody) true choice m chosen to = absurd (none-some m to)

  -- a way is one by its number
  abbrev pub Numbered : List PathWay → Bool → ℕ → List Bool → Type 0
  Numbered list silent m choices = (k : Bool) × (choice : Option Bool) × Chosen silent k choice × (target_among (number_of k) list ≡ Some m) × (choices ≡ optional choice)

  way-number : (list : List PathWay) (silent : Bool) → Shape list silent → (m : ℕ) (choices : List Bool) → Contains list (Out (ToBlock m) choices) → Numbered list silent m choices
  way-number _ _ (none silent) m choices has = absurd (none-in (Out (ToBlock m) choices) has)
  way-number _ _ (lone exit) m choices has = elim (first-or (Out (ToBlock m) choices) (Out exit []) [] has) [
    | inl same ↦ (false, None, (refl, refl), ap (λ (z : PathWay). block_of z.exit) same, ap (λ (z : PathWay). z.choices) (sym same))
    | inr stop ↦ absurd (none-in (Out (ToBlock m) choices) stop)
  ]
  way-number _ _ (second exit) m choices has = elim (first-or (Out (ToBlock m) choices) (Out exit (true ∷ [])) [] has) [
    | inl same ↦ (true, Some true, refl, ap (λ (z : PathWay). block_of z.exit) same, ap (λ (z : PathWay). z.choices) (sym same))
    | inr stop ↦ absurd (none-in (Out (ToBlock m) choices) stop)
  ]
  way-number _ _ (both first other) m choices has = elim (first-or (Out (ToBlock m) choices) (Out first (false ∷ [])) (Out other (true ∷ []) ∷ []) has) [
    | inl same ↦ (false, Some false, refl, ap (λ (z : PathWay). block_of z.exit) same, ap (λ (z : PathWay). z.choices) (sym same))
    | inr more ↦ elim (first-or (Out (ToBlock m) choices) (Out other (true ∷ [])) [] more) [
      | inl same ↦ (true, Some true, refl, ap (λ (z : PathWay). block_of z.exit) same, ap (λ (z : PathWay). z.choices) (sym same))
      | inr stop ↦ absurd (none-in (Out (ToBlock m) choices) stop)
    ]
  ]

  -- From within a block a run goes on by its ways.

  abbrev pub LeavesBy : (n : ℕ) → Option Bool → Bool → (m : ℕ) → List Bool → Type 0
  LeavesBy n choice k m choices =
      Leads (onward_from items body n Stage.Inside) choice (point n (Stage.Leaving k)) × (target items body n (number_of k) ≡ Some m) × (choices ≡ optional choice)

  leads-so : (silent k : Bool) (n m : ℕ) (choice : Option Bool) → Chosen silent k choice → target items body n (number_of k) ≡ Some m
      → Leads (if silent then silently (leaving items body n false) else Onward.Choices (leaving items body n false) (leaving items body n true)) choice (point n (Stage.Leaving k))
  leads-so true true n m choice chosen to = absurd (false≢true (sym chosen.0))
  leads-so true false n m choice chosen to =
      subst (λ (z : Option ℕ). Leads (silently (option_and_then (λ to. Some (point n (Stage.Leaving false))) z)) choice (point n (Stage.Leaving false))) (sym to) (chosen.1, refl)
  leads-so false false n m choice chosen to = inl (chosen, ap (option_and_then (λ to. Some (point n (Stage.Leaving false)))) to)
  leads-so false true n m choice chosen to = inr (chosen, ap (option_and_then (λ to. Some (point n (Stage.Leaving true)))) to)

  pub leaves-by : (n m : ℕ) (block : Block) (choices : List Bool) → slice_get body.blocks n ≡ Some block → Contains (ways items body block.term) (Out (ToBlock m) choices)
      → (k : Bool) × (choice : Option Bool) × LeavesBy n choice k m choices
  leaves-by n m block choices at has =
      let it = way-number (ways items body block.term) (is_silent items body block.term) (shape block.term) m choices has in
      let to : target items body n (number_of it.0) ≡ Some m = ap (option_and_then (λ found. target_among (number_of it.0) (ways items body found.term))) at ∙ it.3 in (
        it.0,
        it.1,
        (
          subst (λ (z : Option Block). Leads (left_block items body n z) it.1 (point n (Stage.Leaving it.0))) (sym at) (leads-so (is_silent items body block.term) it.0 n m it.1 it.2 to),
          to,
          it.4,
        ),
      )

  -- the choices between two blocks are those of a way
  to-exit : (m : ℕ) (way : PathWay) (choices : List Bool) → Contains (choices_to m way) choices → way ≡ Out (ToBlock m) choices
  to-exit m way choices has = by way.exit refl has
    where
      so : (next : ℕ) (b : Bool) → way.exit ≡ ToBlock next → (next == m) ≡ b → Contains (if b then way.choices ∷ [] else []) choices → way ≡ Out (ToBlock m) choices
      so next true is e has = elim (first-or choices way.choices [] has) [
        | inl same ↦ (λ i. record { choices = same i; exit = (is ∙ ap ToBlock (eqb-true next m e)) i })
        | inr stop ↦ absurd (none-in choices stop)
      ]
      so next false is e has = absurd (none-in choices has)

      by : (exit : BlockExit) → way.exit ≡ exit → Contains (elim exit [ ToBlock next ↦ if next == m then way.choices ∷ [] else [] | LeavesBody ↦ [] ]) choices → way ≡ Out (ToBlock m) choices
      by (ToBlock next) is has = so next (next == m) is refl has
      by LeavesBody is has = absurd (none-in choices has)

  pub between-way : (n m : ℕ) (choices : List Bool) → Contains (choices_between n m) choices
      → (block : Block) × (slice_get body.blocks n ≡ Some block) × Contains (ways items body block.term) (Out (ToBlock m) choices)
  between-way n m choices has = by (slice_get body.blocks n) refl has
    where
      by : (o : Option Block) → slice_get body.blocks n ≡ o → Contains (flat_map (choices_to m) (option_map_or (λ found. ways items body found.term) o [])) choices
          → (block : Block) × (slice_get body.blocks n ≡ Some block) × Contains (ways items body block.term) (Out (ToBlock m) choices)
      by None e has = absurd (none-in choices has)
      by (Some block) e has =
          let it = in-flat (choices_to m) (ways items body block.term) choices has in
          (block, e, subst (Contains (ways items body block.term)) (to-exit m it.0 choices it.2) it.1)

  pub way-between : (n m : ℕ) (block : Block) (choices : List Bool) → slice_get body.blocks n ≡ Some block → Contains (ways items body block.term) (Out (ToBlock m) choices)
      → Contains (choices_between n m) choices
  way-between n m block choices at has =
      subst (λ (z : Option Block). Contains (flat_map (choices_to m) (option_map_or (λ found. ways items body found.term) z [])) choices) (sym at)
      (flat-in (choices_to m) (ways items body block.term) (Out (ToBlock m) choices) choices has
      (subst (λ (b : Bool). Contains (if b then choices ∷ [] else []) choices) (sym (eq-eqb m m refl)) (here choices [])))

  -- and back: where a run goes on from within a block, there is a way
  pub goes-by : (n : ℕ) (choice : Option Bool) (to : Point) → Leads (onward_from items body n Stage.Inside) choice to
      → (k : Bool) × (m : ℕ) × (block : Block) × (to ≡ point n (Stage.Leaving k)) × (target items body n (number_of k) ≡ Some m)
      × (slice_get body.blocks n ≡ Some block) × Contains (ways items body block.term) (Out (ToBlock m) (optional choice))
  goes-by n choice to leads = by (slice_get body.blocks n) refl leads
    where
      way : (block : Block) (k : Bool) → slice_get body.blocks n ≡ Some block → Chosen (is_silent items body block.term) k choice → leaving items body n k ≡ Some to
          → (k : Bool) × (m : ℕ) × (block : Block) × (to ≡ point n (Stage.Leaving k)) × (target items body n (number_of k) ≡ Some m)
          × (slice_get body.blocks n ≡ Some block) × Contains (ways items body block.term) (Out (ToBlock m) (optional choice))
      way block k e chosen is = from (target items body n (number_of k)) refl is
        where
          from : (o : Option ℕ) → target items body n (number_of k) ≡ o → option_and_then (λ to. Some (point n (Stage.Leaving k))) o ≡ Some to
              → (k : Bool) × (m : ℕ) × (block : Block) × (to ≡ point n (Stage.Leaving k)) × (target items body n (number_of k) ≡ Some m)
              × (slice_get body.blocks n ≡ Some block) × Contains (ways items body block.term) (Out (ToBlock m) (optional choice))
          from None at is = absurd (none-some to is)
          from (Some m) at is = (
            k,
            m,
            block,
            sym (same_Some (point n (Stage.Leaving k)) to is),
            at,
            e,
            way-there (ways items body block.term) (is_silent items body block.term) (shape block.term) k choice m chosen
                (sym (ap (option_and_then (λ found. target_among (number_of k) (ways items body found.term))) e) ∙ at),
          )

      silent : (block : Block) → slice_get body.blocks n ≡ Some block → (b : Bool) → is_silent items body block.term ≡ b → (o : Option Point) → leaving items body n false ≡ o → b ≡ true → Leads (silently o) choice to
          → (k : Bool) × (m : ℕ) × (block : Block) × (to ≡ point n (Stage.Leaving k)) × (target items body n (number_of k) ≡ Some m)
          × (slice_get body.blocks n ≡ Some block) × Contains (ways items body block.term) (Out (ToBlock m) (optional choice))
      silent block e b is None at sure leads = absurd leads
      silent block e b is (Some p) at sure leads =
          way block false e (subst (λ (z : Bool). Chosen z false choice) (sym (is ∙ sure)) (refl, leads.0)) (at ∙ ap Some leads.1)

      go : (block : Block) → slice_get body.blocks n ≡ Some block → (b : Bool) → is_silent items body block.term ≡ b
          → Leads (if b then silently (leaving items body n false) else Onward.Choices (leaving items body n false) (leaving items body n true)) choice to
          → (k : Bool) × (m : ℕ) × (block : Block) × (to ≡ point n (Stage.Leaving k)) × (target items body n (number_of k) ≡ Some m)
          × (slice_get body.blocks n ≡ Some block) × Contains (ways items body block.term) (Out (ToBlock m) (optional choice))
      go block e true is leads = silent block e true is (leaving items body n false) refl refl leads
      go block e false is (inl zero_way) = way block false e (subst (λ (z : Bool). Chosen z false choice) (sym is) zero_way.0) zero_way.1
      go block e false is (inr one_way) = way block true e (subst (λ (z : Bool). Chosen z true choice) (sym is) one_way.0) one_way.1

      by : (o : Option Block) → slice_get body.blocks n ≡ o → Leads (left_block items body n o) choice to
          → (k : Bool) × (m : ℕ) × (block : Block) × (to ≡ point n (Stage.Leaving k)) × (target items body n (number_of k) ≡ Some m)
          × (slice_get body.blocks n ≡ Some block) × Contains (ways items body block.term) (Out (ToBlock m) (optional choice))
      by None e leads = absurd leads
      by (Some block) e leads = go block e (is_silent items body block.term) refl leads
