-- Kinds of drops and flags of worked programs: what two paths of each tell, by computation.
use Rattle.std.proofs.Common.{◌≡◌, ℕ, zero, suc, Bool, true, false, List, [], ◌∷◌, ◌++◌, map, flat_map, Some, Contains, refl, ap, sym, ◌∙◌, subst}
use Rattle.std.proofs.lemmas.Option.{none-some}
use Rattle.std.proofs.lemmas.Bool.{false≢true}
use Rattle.mir_base.specs.declared.int_kind.IntKind.{IntKind}
use Rattle.mir_ty.proofs.ListLemmas.{slice_get-Contains, Contains-slice_get}
use Rattle.mir_ty.specs.declared.ty.Ty.{Ty}
use Rattle.mir_ty.specs.declared.ty.TyId.{TyId}
use Rattle.mir_ty.specs.Facts.{has_drop_impl}
use Rattle.mir_ty.specs.ItemTable.{ItemTable}
use Rattle.cfg_graph.specs.declared.graph.Body.{Body}
use Rattle.cfg_graph.specs.declared.graph.Kind.{Kind}
use Rattle.cfg_graph.specs.declared.place.Operand.{Operand}
use Rattle.cfg_graph.specs.declared.place.Place as graph
use Rattle.cfg_graph.specs.declared.place.Step as graph_step
use Rattle.cfg_graph.specs.declared.statement.Stmt.{Stmt}
use Rattle.cfg_graph.specs.declared.terminator.Term.{Term}
use Rattle.cfg_graph.specs.declared.terminator.Unwind.{Unwind}
use Rattle.cfg_graph.specs.Moves.Actions.{actions_on}
use Rattle.cfg_graph.specs.Moves.Gone.{PathAction, below, is_gone_after}
use Rattle.cfg_graph.specs.Moves.Paths.{entry_choices, choices_between, choices_along, choices_of_path}
use Rattle.store_model.specs.Places.Place.{Step, ToPart, Place, whole_local}
use Rattle.drop_values.specs.Facts.{no_branch}
use Rattle.drop_elaborate.specs.Kinds.{before_last, Dead, Plain, Conditional, Opened, IsDrop, Comes, IsKind, place_id, IsFlagged}

abbrev ty_no : ℕ → TyId
ty_no k = record { 0 = k }

-- struct D (i32) drop 0 | bool | (D, D)
abbrev items : ItemTable
items = record {
  types = Ty.Int IntKind.I32 ∷ Ty.Unit ∷ Ty.Adt 0 ∷ Ty.Unique (ty_no 2) ∷ Ty.Bool ∷ Ty.Tuple (ty_no 2 ∷ ty_no 2 ∷ [])
      ∷ [];
  adts = (record {
    name = [];
    is_enum = false;
    copy = false;
    drop_body = Some 0;
    variants = (record { name = []; fields = ty_no 0 ∷ []; field_names = [] ∷ [] }) ∷ [];
  })
      ∷ [];
  traits = [];
  impls = [];
  closures = [];
  bodies = (record { name = []; params = ty_no 3 ∷ []; result = ty_no 1 }) ∷ [];
}

abbrev local : ℕ → graph.Place
local n = record { local = n; steps = [] }

abbrev first_part : graph.Place
first_part = record { local = 1; steps = graph_step.Step.Part 0 ∷ [] }

-- fn f(x: T, c: bool) { if c { forget(..) } }, where the drop of x stands in block 2
abbrev forgets : TyId → graph.Place → Body
forgets ty place = record {
  params = 2;
  locals = ty_no 1 ∷ ty ∷ ty_no 4 ∷ [];
  blocks = (record { kind = Kind.Plain; rank = 3; stmts = []; term = Term.If (Operand.Copied (local 2)) 1 2 })
      ∷ (record { kind = Kind.Plain; rank = 2; stmts = Stmt.Forget (Operand.Moved place) ∷ []; term = Term.Goto 2 })
      ∷ (record { kind = Kind.Plain; rank = 1; stmts = []; term = Term.DropAt (local 1) 3 Unwind.Resume })
      ∷ (record { kind = Kind.Plain; rank = 0; stmts = []; term = Term.Return }) ∷ [];
}

abbrev x : Place
x = whole_local 1

the_drop : (ty : TyId) (place : graph.Place) → IsDrop items (forgets ty place) 2 x
the_drop ty place = record {
  block = record { kind = Kind.Plain; rank = 1; stmts = []; term = Term.DropAt (local 1) 3 Unwind.Resume };
  there = refl;
  dropped = local 1;
  next = 3;
  unwind = Unwind.Resume;
  term_is = refl;
  place_is = refl;
}

-- what is done before the drop, where the condition is false, and where it is true
abbrev before_kept : Body → List PathAction
before_kept body = before_last (actions_on body (0 ∷ 2 ∷ []))

abbrev before_forgotten : Body → List PathAction
before_forgotten body = before_last (actions_on body (0 ∷ 1 ∷ 2 ∷ []))

kept : (ty : TyId) (place : graph.Place) → Comes items (forgets ty place) 2 (before_kept (forgets ty place))
kept ty place = record {
  path = 0 ∷ [];
  given = false ∷ [];
  is_path = Contains-slice_get (choices_of_path items (forgets ty place) (0 ∷ 2 ∷ [])) 0 (false ∷ []) refl;
  before_is = refl;
}

forgotten : (ty : TyId) (place : graph.Place) → Comes items (forgets ty place) 2 (before_forgotten (forgets ty place))
forgotten ty place = record {
  path = 0 ∷ 1 ∷ [];
  given = true ∷ [];
  is_path = Contains-slice_get (choices_of_path items (forgets ty place) (0 ∷ 1 ∷ 2 ∷ [])) 0 (true ∷ []) refl;
  before_is = refl;
}

-- ---- fn f(x: D, c: bool) { if c { forget(x) } }

abbrev whole : Body
whole = forgets (ty_no 2) (local 1)

-- the drop is conditional
a_conditional_drop : IsKind items whole 2 x Conditional
a_conditional_drop = (
  λ dead. false≢true (dead (before_kept whole) [] (ty_no 2) (kept (ty_no 2) (local 1)) refl refl refl),
  λ sure. false≢true (sym (sure (before_forgotten whole) (forgotten (ty_no 2) (local 1)) [])),
  λ below_it. false≢true below_it.path,
)

-- and x has a flag
abbrev whole_paths : List Place
whole_paths = whole_local 0 ∷ whole_local 1 ∷ whole_local 2 ∷ []

none_above : {P : Type 0} (upper lower : List Step) (step : Step) → [] ≡ upper ++ step ∷ lower → P
none_above [] lower step e = absurd (let n : [] ≡ step ∷ lower = e in cc)
none_above (s ∷ upper) lower step e = absurd (let n : [] ≡ s ∷ (upper ++ step ∷ lower) = e in cc)

a_flag_of_the_whole : IsFlagged items whole whole_paths x
a_flag_of_the_whole = (
  2,
  x,
  the_drop (ty_no 2) (local 1),
  record {
    not_dead = a_conditional_drop.0;
    not_sure = a_conditional_drop.1;
    steps = [];
    path_is = refl;
    number = 1;
    under = no_branch;
    tree = (refl, tt, λ step none. refl);
    id = ty_no 2;
    typed = refl;
    needed = refl;
    reads = refl;
    apart = λ upper lower step outer e t. none_above upper lower step e;
    present = (before_kept whole, kept (ty_no 2) (local 1), refl);
    gone = (before_forgotten whole, forgotten (ty_no 2) (local 1), refl);
  },
)

-- ---- fn f(x: (D, D), c: bool) { if c { forget(x.0) } }

abbrev part : Body
part = forgets (ty_no 5) first_part

-- the drop is opened
an_opened_drop : IsKind items part 2 x Opened
an_opened_drop = (
  λ dead. false≢true (dead (before_kept part) (ToPart 1 ∷ []) (ty_no 2) (kept (ty_no 5) first_part) refl refl refl),
  λ sure. false≢true (sym (sure (before_forgotten part) (forgotten (ty_no 5) first_part) (ToPart 0 ∷ []))),
  record { step = ToPart 0; steps = []; path = refl },
)

-- and x.0 has a flag
abbrev part_paths : List Place
part_paths = whole_local 0 ∷ whole_local 1 ∷ whole_local 2 ∷ below (whole_local 1) (ToPart 0 ∷ []) ∷ []

a_flag_of_the_part : IsFlagged items part part_paths (below x (ToPart 0 ∷ []))
a_flag_of_the_part = (
  2,
  x,
  the_drop (ty_no 5) first_part,
  record {
    not_dead = an_opened_drop.0;
    not_sure = an_opened_drop.1;
    steps = ToPart 0 ∷ [];
    path_is = refl;
    number = 3;
    under = no_branch;
    tree = (refl, tt, λ step none. refl);
    id = ty_no 2;
    typed = refl;
    needed = refl;
    reads = refl;
    apart = λ upper lower step outer e t. apart upper lower step outer e t;
    present = (before_kept part, kept (ty_no 5) first_part, refl);
    gone = (before_forgotten part, forgotten (ty_no 5) first_part, refl);
  },
)
  where
    apart : (upper lower : List Step) (step : Step) (outer : TyId) → ToPart 0 ∷ [] ≡ upper ++ step ∷ lower →
        place_id items part (below x upper) ≡ Some outer → has_drop_impl items outer ≡ false
    apart [] lower step outer e t =
        subst (λ id. has_drop_impl items id ≡ false) (let z : Some (ty_no 5) ≡ Some outer = t in
        let y : ty_no 5 ≡ outer = cc in y) refl
    apart (s ∷ upper) lower step outer e t =
        none_above upper lower step (let z : ToPart 0 ∷ [] ≡ s ∷ (upper ++ step ∷ lower) = e in
        let y : [] ≡ upper ++ step ∷ lower = cc in y)

-- ---- a drop in the first block, to which no edge leads: one path comes to it

flat-nothing : {A B : Type 0} (f : A → List B) (xs : List A) → ((a : A) → f a ≡ []) → flat_map f xs ≡ []
flat-nothing f [] none = refl
flat-nothing f (a ∷ xs) none = ap (λ l. l ++ flat_map f xs) (none a) ∙ flat-nothing f xs none

module _ (body : Body) (no_edge : (from : ℕ) → choices_between items body from 0 ≡ []) where
  abbrev end : ℕ → List (List Bool)
  end last = [] ∷ []

  -- no way along blocks ends there
  no-way : (path : List ℕ) (from : ℕ) → choices_along items body end from (path ++ 0 ∷ []) ≡ []
  no-way [] from =
      ap (λ l. flat_map (λ given. map (λ rest. given ++ entry_choices items body 0 ++ rest) (end 0)) l) (no_edge from)
  no-way (to ∷ path) from =
      flat-nothing (λ given. map (λ rest. given ++ entry_choices items body to ++ rest)
      (choices_along items body end to (path ++ 0 ∷ []))) (choices_between items body from to)
      (λ given. ap (map (λ rest. given ++ entry_choices items body to ++ rest)) (no-way path to))

  only-start : (before : List PathAction) → Comes items body 0 before → before ≡ before_last (actions_on body (0 ∷ []))
  only-start before c = by c.path c.given c.is_path c.before_is
    where
      never : {P : Type 0} (given : List Bool) → Contains {X = List Bool} [] given → P
      never given m = absurd (none-some given (slice_get-Contains [] given m))

      by : (path : List ℕ) (given : List Bool) → Contains (choices_of_path items body (path ++ 0 ∷ [])) given →
          before ≡ before_last (actions_on body (path ++ 0 ∷ [])) →
          before ≡ before_last (actions_on body (0 ∷ []))
      by [] given m e = e
      by (zero ∷ path) given m e =
          never given (subst (λ l. Contains (map (λ rest. entry_choices items body 0 ++ rest) l) given) (no-way path
          0) m)
      by (suc n ∷ path) given m e = never given m

-- fn f(x: D) { .. }, where the drop of x ends the first block
abbrev begins_with : List Stmt → Body
begins_with stmts = record {
  params = 1;
  locals = ty_no 1 ∷ ty_no 2 ∷ [];
  blocks = (record { kind = Kind.Plain; rank = 1; stmts = stmts; term = Term.DropAt (local 1) 1 Unwind.Resume })
      ∷ (record { kind = Kind.Plain; rank = 0; stmts = []; term = Term.Return }) ∷ [];
}

no_edges : (stmts : List Stmt) (from : ℕ) → choices_between items (begins_with stmts) from 0 ≡ []
no_edges stmts zero = refl
no_edges stmts (suc zero) = refl
no_edges stmts (suc (suc from)) = refl

-- fn f(x: D) {}: the drop is plain
abbrev untouched : Body
untouched = begins_with []

a_plain_drop : IsKind items untouched 0 x Plain
a_plain_drop = (
  λ dead. false≢true (dead [] [] (ty_no 2) (record {
    path = [];
    given = [];
    is_path = Contains-slice_get (choices_of_path items untouched (0 ∷ [])) 0 [] refl;
    before_is = refl;
  }) refl refl refl),
  λ before c steps. ap (λ l. is_gone_after items untouched l (below x steps))
      (only-start untouched (no_edges []) before c),
)

-- fn f(x: D) { forget(x) }: the drop is dead
abbrev forgets_it : Body
forgets_it = begins_with (Stmt.Forget (Operand.Moved (local 1)) ∷ [])

a_dead_drop : IsKind items forgets_it 0 x Dead
a_dead_drop before steps id c within typed numbered =
    ap (λ l. is_gone_after items forgets_it l (below x steps))
    (only-start forgets_it (no_edges (Stmt.Forget (Operand.Moved (local 1)) ∷ [])) before c)
