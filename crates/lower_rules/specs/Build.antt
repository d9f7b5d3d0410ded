-- How a body of a graph is built (the rustc development guide, "MIR construction"): from the end of the code to its
-- beginning. What stands from a place on to the end of its block is a rest of lines; a block gets its number as it is
-- closed. So each edge but that to a turn block leads to a smaller number, and a number can be a rank.
use Rattle.std.specs.Prelude.{ℕ, ◌==◌, nat_lt, not, Bool, true, false, ◌&&◌, ◌||◌, List, [], ◌∷◌, ◌++◌, length, map, Option, Some, None, slice_set, if◌then◌else◌}
use Rattle.cfg_graph.specs.declared.graph.Block.{Block}
use Rattle.cfg_graph.specs.declared.graph.Kind.{Kind}
use Rattle.cfg_graph.specs.declared.place.Operand as graph_operand
use Rattle.cfg_graph.specs.declared.place.Place as graph_place
use Rattle.cfg_graph.specs.declared.place.Step as graph_step
use Rattle.cfg_graph.specs.declared.statement.Stmt.{Stmt}
use Rattle.cfg_graph.specs.declared.terminator.Term.{Term}
use Rattle.cfg_graph.specs.declared.terminator.Unwind.{Unwind}
use Rattle.mir_base.specs.declared.operator.Cmp.{Cmp}
use Rattle.mir_base.specs.declared.trace.Why.{Why}
use Rattle.mir_ty.specs.declared.ty.TyId.{TyId}
use Rattle.mir_ty.specs.ItemTable.{ItemTable}
use Rattle.std.specs.Prelude.{slice_get}
use Rattle.store_model.specs.Abstract.Effects.{never_at}
use Rattle.store_model.specs.Effects as effects
use Rattle.store_model.specs.Effects.{EffectSite, Action, stores_where}
use Rattle.store_model.specs.Places.Place.{Step, ToPart, ToField, ToContent, ToElement}
use Rattle.src_meaning.specs.Forms.{site_of_key, moved}
use Rattle.src_meaning.specs.Locals.Effects.{action_at}
use Rattle.src_meaning.specs.Scopes.{Entry, Scopes, with_scope, innermost, without_operands, all_entries, needing_drop, entry_site, Exit, Breaks, Continues}
use Rattle.src_meaning.specs.Shape.{PatternTest, IsVariant, IsNumber, IsTruth, AnyOf, PatternTests, no_test, a_test, Alternatives, no_alternative, an_alternative}
use Rattle.lower_rules.specs.Spots.{JumpWay, Ways, ways_of, ways_in_loop}

-- the items of a program, and the locals of a body: their numbers by key, and their types
pub record LoweringFrame : Type 0 where
  pub items : ItemTable
  pub local_of : ℕ → ℕ
  pub tys : List TyId

-- a statement with the number of its node
pub record NodeLine : Type 0 where
  pub stmt : Stmt
  pub node : ℕ

-- the lines from a place on to the end of its block
pub record BlockRest : Type 0 where
  pub lines : List NodeLine
  pub term : Term
  pub node : ℕ

-- a block with the nodes of its lines
pub record MadeBlock : Type 0 where
  pub block : Block
  pub nodes : List ℕ

-- A block to which more than one place may lead, told by how it ends, which is all that there is of it: a panic leaves
-- the body; a block is entered by a jump; or what stands under a key is dropped, and another block is entered. A drop
-- out of which a panic aborts is one while a panic unwinds.
pub data SharedEnd : Type 0 where
  Resumes : SharedEnd
  GoesTo : (block : ℕ) → SharedEnd
  DropsThen : (key onward : ℕ) (unwind : Unwind) → SharedEnd

-- The blocks so far, none where a number is given out and the block is still to be made; and those of them that are
-- shared, each of which is made once, listed by the key that they drop.
pub record Building : Type 0 where
  pub blocks : List (Option MadeBlock)
  pub shared : ℕ → List (SharedEnd × ℕ)

abbrev pub ending : Term → ℕ → BlockRest
ending term node = record { lines = []; term = term; node = node }

abbrev pub with_line : Stmt → ℕ → BlockRest → BlockRest
with_line stmt node k = record k { lines = (record { stmt = stmt; node = node }) ∷ k.lines }

abbrev pub made : Kind → ℕ → BlockRest → MadeBlock
made kind rank k = record {
  block = record { kind = kind; rank = rank; stmts = map (λ l. l.stmt) k.lines; term = k.term };
  nodes = map (λ l. l.node) k.lines ++ k.node ∷ [];
}

abbrev pub next_number : Building → ℕ
next_number s = length s.blocks

-- a block is made, and has its number as its rank
abbrev pub closed : Kind → BlockRest → Building → Building
closed kind k s = record s { blocks = s.blocks ++ Some (made kind (next_number s) k) ∷ [] }

-- a block is made, and its number is known
abbrev pub closing : BlockRest × Building → ℕ × Building
closing built = (next_number built.1, closed Kind.Plain built.0 built.1)

-- a number is given out, and its block is made later; its rank is the number that it would then have had
abbrev pub reserved : Building → Building
reserved s = record s { blocks = s.blocks ++ None ∷ [] }

abbrev pub filled : Kind → ℕ → BlockRest → Building → Building
filled kind n k s = record s { blocks = slice_set s.blocks n (Some (made kind (next_number s) k)) }

-- Blocks that are shared.

abbrev pub same_unwind : Unwind → Unwind → Bool
same_unwind (Unwind.Block n) (Unwind.Block m) = n == m
same_unwind (Unwind.Block n) Unwind.Resume = false
same_unwind (Unwind.Block n) Unwind.Abort = false
same_unwind Unwind.Resume (Unwind.Block m) = false
same_unwind Unwind.Resume Unwind.Resume = true
same_unwind Unwind.Resume Unwind.Abort = false
same_unwind Unwind.Abort (Unwind.Block m) = false
same_unwind Unwind.Abort Unwind.Resume = false
same_unwind Unwind.Abort Unwind.Abort = true

abbrev pub same_end : SharedEnd → SharedEnd → Bool
same_end Resumes Resumes = true
same_end Resumes (GoesTo m) = false
same_end Resumes (DropsThen d m w) = false
same_end (GoesTo n) Resumes = false
same_end (GoesTo n) (GoesTo m) = n == m
same_end (GoesTo n) (DropsThen d m w) = false
same_end (DropsThen e n u) Resumes = false
same_end (DropsThen e n u) (GoesTo m) = false
same_end (DropsThen e n u) (DropsThen d m w) = (e == d) && ((n == m) && same_unwind u w)

abbrev pub end_among : SharedEnd → List (SharedEnd × ℕ) → Option ℕ
end_among e [] = None
end_among e (c ∷ shared) = if same_end e c.0 then Some c.1 else end_among e shared

-- where a shared block is listed
abbrev pub listed_at : SharedEnd → ℕ
listed_at Resumes = 0
listed_at (GoesTo block) = 0
listed_at (DropsThen key onward unwind) = key

abbrev pub with_shared : SharedEnd → ℕ → Building → Building
with_shared e n s = record s { shared = λ i. if i == listed_at e then (e, n) ∷ s.shared i else s.shared i }

-- the block that a rest enters, where it does nothing else and stands for no node
abbrev pub enters : List NodeLine → Term → Option ℕ
enters [] (Term.Goto block) = Some block
enters lines term = None

abbrev pub jump_of : BlockRest → Option ℕ
jump_of k = if k.node == 0 then enters k.lines k.term else None

-- Jumps, by the exits that they take.

abbrev pub way_of : Exit → Ways → JumpWay
way_of (Breaks loop) c = (ways_of loop c).breaks
way_of (Continues loop) c = (ways_of loop c).continues
way_of exit c = c.returns

-- the exits that name a loop
abbrev pub naming : Exit → List Exit
naming (Breaks loop) = Breaks loop ∷ []
naming (Continues loop) = Continues loop ∷ []
naming exit = []

abbrev pub names : ℕ → Exit → Bool
names id (Breaks loop) = id == loop
names id (Continues loop) = id == loop
names id exit = false

abbrev pub breaks_from : ℕ → Exit → Bool
breaks_from id (Breaks loop) = id == loop
breaks_from id exit = false

-- whether a `break` leaves a loop, and the jumps out of it that name other loops
abbrev pub is_left_by : ℕ → List Exit → Bool
is_left_by id [] = false
is_left_by id (exit ∷ exits) = breaks_from id exit || is_left_by id exits

abbrev pub outside : ℕ → List Exit → List Exit
outside id [] = []
outside id (exit ∷ exits) = if names id exit then outside id exits else exit ∷ outside id exits

abbrev pub jumps_if : Bool → List Exit → List Exit
jumps_if true jumps = jumps
jumps_if false jumps = []

-- Code to be built: whether it has an end, the loops that its jumps name, the scopes after it, and what is built before
-- the rest, from scopes on.
pub record Lowers : Type 0 where
  pub has_end : Bool
  pub jumps : List Exit
  pub after : Scopes → Scopes
  pub build : Ways → Scopes → BlockRest → Building → BlockRest × Building

-- how an effect is done: by a statement, or by a terminator with its two ways on
pub data Done : Type 0 where
  ByStmt : (stmt : Stmt) → Done
  ByTerm : (term : (onward : ℕ) → Unwind → Term) → Done

-- nothing is built for a change of scopes
abbrev pub change : (Scopes → Scopes) → Lowers
change f = record { has_end = true; jumps = []; after = f; build = λ c S k s. (k, s) }

abbrev pub nothing : Lowers
nothing = change (λ S. S)

abbrev pub from_changed : (Scopes → Scopes) → Lowers → Lowers
from_changed f P = record P { after = λ S. P.after (f S); build = λ c S k s. P.build c (f S) k s }

-- what has a value leaves the scopes around it as they were
abbrev pub back_in : Lowers → Lowers
back_in P = record P { after = λ S. S }

-- one before the other; what would come after code without an end is not built
abbrev pub then_build : Bool → Lowers → Lowers → Ways → Scopes → BlockRest → Building → BlockRest × Building
then_build true P Q c S k s = let rest = Q.build c (P.after S) k s in P.build c S rest.0 rest.1
then_build false P Q c S k s = P.build c S k s

abbrev pub then_lower : Lowers → Lowers → Lowers
then_lower P Q = record {
  has_end = P.has_end && Q.has_end;
  jumps = P.jumps ++ jumps_if P.has_end Q.jumps;
  after = λ S. Q.after (P.after S);
  build = then_build P.has_end P Q;
}

-- a place to which two codes come is a block of its own
abbrev pub joined : Bool → ℕ → BlockRest → Building → BlockRest × Building
joined true node k s = (ending (Term.Goto (next_number s)) node, closed Kind.Plain k s)
joined false node k s = (k, s)

abbrev pub after_either : Bool → Lowers → Lowers → Scopes → Scopes
after_either true P Q S = P.after S
after_either false P Q S = Q.after S

-- two ways on, each to a block of its own, from a test that is built last
abbrev pub branches : ℕ → (ℕ → ℕ → Building → BlockRest × Building) → Lowers → Lowers → Lowers
branches node test P Q = record {
  has_end = P.has_end || Q.has_end;
  jumps = P.jumps ++ Q.jumps;
  after = after_either P.has_end P Q;
  build = λ c S k s.
      let join = joined (P.has_end || Q.has_end) node k s in
      let if_false = closing (Q.build c S join.0 join.1) in
      let if_true = closing (P.build c S join.0 if_false.1) in
      test if_true.0 if_false.0 if_true.1;
}

-- the block behind a loop, if a `break` leads there
abbrev pub with_exit : Bool → BlockRest → Building → Building
with_exit true k s = closed Kind.Plain k s
with_exit false k s = s

-- a loop: its turn block gets its number before its code is built
abbrev pub looped : ℕ → Lowers → Lowers
looped id turn = record {
  has_end = is_left_by id turn.jumps;
  jumps = outside id turn.jumps;
  after = λ S. S;
  build = λ c S k s.
      let start = with_exit (is_left_by id turn.jumps) k s in
      let again = ending (Term.Goto (next_number start)) 0 in
      let inside = ways_in_loop id (length S) (next_number s) (next_number start) (is_left_by id turn.jumps) c in
      let code = turn.build inside S again (reserved start) in
      (again, filled Kind.Turn (next_number start) code.0 code.1);
}

module _ (f : LoweringFrame) where
  abbrev pub step_of : Step → graph_step.Step
  step_of (ToPart n) = graph_step.Step.Part n
  step_of (ToField variant n) = graph_step.Step.Field variant n
  step_of ToContent = graph_step.Step.Inside
  step_of (ToElement index) = graph_step.Step.Index (f.local_of index)

  abbrev pub place_of : EffectSite → graph_place.Place
  place_of site = record { local = f.local_of site.place.local; steps = map step_of site.place.steps }

  abbrev pub operand_of : effects.Operand → graph_operand.Operand
  operand_of (effects.Copied site) = graph_operand.Operand.Copied (place_of site)
  operand_of (effects.Moved site) = graph_operand.Operand.Moved (place_of site)
  operand_of (effects.Number value kind) = graph_operand.Operand.Number value kind
  operand_of (effects.Truth value) = graph_operand.Operand.Truth value
  operand_of effects.UnitValue = graph_operand.Operand.Unit

  abbrev pub operands_of : List effects.Operand → List graph_operand.Operand
  operands_of operands = map operand_of operands

  abbrev built_as : EffectSite → effects.AggregateKind → List graph_operand.Operand → Stmt
  built_as to effects.OfTuple parts = Stmt.Tuple (place_of to) parts
  built_as to effects.OfArray parts = Stmt.Array (place_of to) parts
  built_as to (effects.OfVariant adt variant) parts = Stmt.Make (place_of to) adt variant parts
  built_as to (effects.OfClosure closure) parts = Stmt.Close (place_of to) closure parts

  abbrev pub done_by : Action → Done
  done_by (effects.Put to from) = ByStmt (Stmt.Put (place_of to) (operand_of from))
  done_by (effects.Compare to operator left right) =
      ByStmt (Stmt.Compare (place_of to) operator (operand_of left) (operand_of right))
  done_by (effects.Not to operand) = ByStmt (Stmt.Not (place_of to) (operand_of operand))
  done_by (effects.Build to kind parts) = ByStmt (built_as to kind (operands_of parts))
  done_by (effects.NewBox to content) = ByStmt (Stmt.NewBox (place_of to) (operand_of content))
  done_by (effects.Unsize to trait_no operand) = ByStmt (Stmt.Unsize (place_of to) trait_no (operand_of operand))
  done_by (effects.Borrow to unique base) = ByStmt (Stmt.Borrow (place_of to) unique (place_of base))
  done_by (effects.Touch base) = ByStmt (Stmt.Touch (place_of base))
  done_by (effects.Print operand) = ByStmt (Stmt.Print (operand_of operand))
  done_by (effects.Forget operand) = ByStmt (Stmt.Forget (operand_of operand))
  done_by (effects.Free box) = ByStmt (Stmt.Free (place_of box))
  done_by (effects.Compute to operator left right) =
      ByTerm (Term.Math (place_of to) operator (operand_of left) (operand_of right))
  done_by (effects.Negate to operand) = ByTerm (Term.Negate (place_of to) (operand_of operand))
  done_by (effects.Bounds index count) = ByTerm (Term.Bounds (operand_of index) count)
  done_by (effects.Call to body args) = ByTerm (Term.Call (place_of to) body (operands_of args))
  done_by (effects.CallVirtual to trait_no method args) =
      ByTerm (Term.Virtual (place_of to) trait_no method (operands_of args))
  done_by (effects.Ask to) = ByTerm (Term.Ask (place_of to))

  abbrev pub panic_drops : Scopes → List Entry
  panic_drops S = needing_drop f.items (all_entries S)

  abbrev pub end_kind : SharedEnd → Kind
  end_kind Resumes = Kind.Cleanup
  end_kind (GoesTo block) = Kind.Plain
  end_kind (DropsThen key onward Unwind.Abort) = Kind.Cleanup
  end_kind (DropsThen key onward unwind) = Kind.Plain

  abbrev pub end_rest : SharedEnd → BlockRest
  end_rest Resumes = ending Term.Resume 0
  end_rest (GoesTo block) = ending (Term.Goto block) 0
  end_rest (DropsThen key onward unwind) = ending (Term.DropAt (place_of (site_of_key key)) onward unwind) key

  abbrev pub shared_or : Option ℕ → SharedEnd → Building → ℕ × Building
  shared_or (Some n) e s = (n, s)
  shared_or None e s = (next_number s, with_shared e (next_number s) (closed (end_kind e) (end_rest e) s))

  -- the block that ends so, if it stands already, or a new one
  abbrev pub share : SharedEnd → Building → ℕ × Building
  share e s = shared_or (end_among e (s.shared (listed_at e))) e s

  -- the block that drops these entries while a panic unwinds, and then leaves the body
  abbrev pub chain : List Entry → Building → ℕ × Building
  chain [] s = share Resumes s
  chain (e ∷ es) s = let rest = chain es s in share (DropsThen e.key rest.0 Unwind.Abort) rest.1

  -- where a panic goes on
  abbrev pub unwind_to : List Entry → Building → Unwind × Building
  unwind_to [] s = (Unwind.Resume, s)
  unwind_to (e ∷ es) s = let made = chain (e ∷ es) s in (Unwind.Block made.0, made.1)

  -- a terminator that may panic, where these entries are dropped after a panic
  abbrev pub unwinding : (Unwind → Term) → ℕ → List Entry → Building → BlockRest × Building
  unwinding term node es s = let made = unwind_to es s in (ending (term made.0) node, made.1)

  abbrev pub done : ℕ → Done → Scopes → BlockRest → Building → BlockRest × Building
  done node (ByStmt stmt) S k s = (with_line stmt node k, s)
  done node (ByTerm term) S k s = unwinding (term (next_number s)) node (panic_drops S) (closed Kind.Plain k s)

  -- no run comes behind a store into a place of type `!`
  abbrev pub is_last : Action → Bool
  is_last action = stores_where (never_at f.items (slice_get f.tys)) (action_at f.local_of action)

  abbrev pub act_by : Bool → ℕ → Done → Lowers
  act_by false node by =
      record { has_end = true; jumps = []; after = λ S. S; build = λ c. done node by }
  act_by true node by = record {
    has_end = false;
    jumps = [];
    after = λ S. S;
    build = λ c S k. done node by S (ending (Term.Goto c.returns.block) node);
  }

  abbrev pub act : ℕ → Action → Lowers
  act node action = act_by (is_last action) node (done_by action)

  -- one place is dropped, and these entries after a panic out of it
  abbrev pub drop_one : EffectSite → List Entry → BlockRest → Building → BlockRest × Building
  drop_one site es k s =
      unwinding (Term.DropAt (place_of site) (next_number s)) site.node es (closed Kind.Plain k s)

  -- entries are dropped, the youngest first: the code of the oldest is built first
  abbrev pub drop_all : List Entry → Scopes → BlockRest → Building → BlockRest × Building
  drop_all [] S k s = (k, s)
  drop_all (e ∷ es) S k s =
      let rest = drop_all es S k s in drop_one (entry_site e) (es ++ panic_drops S) rest.0 rest.1

  abbrev pub outer : Scopes → Scopes
  outer [] = []
  outer (s ∷ S) = S

  -- the shared block from which on entries are dropped, and then a block is entered
  abbrev pub drops_before : List Entry → Scopes → ℕ × Building → ℕ × Building
  drops_before [] S to = to
  drops_before (e ∷ es) S to =
      let rest = drops_before es S to in
      let down = unwind_to (es ++ panic_drops S) rest.1 in
      share (DropsThen e.key rest.0 down.0) down.1

  -- entries are dropped and then a block is entered, to which other places lead as well: the youngest is dropped here,
  -- the others in blocks that are shared
  abbrev pub drops_to : List Entry → Scopes → (to : ℕ × Building) (none : BlockRest × Building) → BlockRest × Building
  drops_to [] S to none = none
  drops_to (e ∷ es) S to none =
      let rest = drops_before es S to in
      unwinding (Term.DropAt (place_of (entry_site e)) rest.0) e.key (es ++ panic_drops S) rest.1

  abbrev pub leave_by : Option ℕ → List Entry → Scopes → BlockRest → Building → BlockRest × Building
  leave_by (Some block) es S k s = drops_to es S (share (GoesTo block) s) (k, s)
  leave_by None es S k s = drop_all es S k s

  -- what stands behind a scope that is left may be a jump
  abbrev pub leave_from : Scopes → BlockRest → Building → BlockRest × Building
  leave_from [] k s = (k, s)
  leave_from (scope ∷ S) k s = leave_by (jump_of k) (needing_drop f.items scope.entries) S k s

  abbrev pub leave : Lowers
  leave = record { has_end = true; jumps = []; after = outer; build = λ c. leave_from }

  abbrev pub scoped : (Scopes → Scopes) → Lowers → Lowers
  scoped enter P = from_changed enter (then_lower P leave)

  abbrev pub in_scope : ℕ → Bool → Lowers → Lowers
  in_scope node for_temporaries P = scoped (with_scope node for_temporaries) P

  abbrev pub leaves_one : {A : Type 0} → Bool → (more done : A) → A
  leaves_one true more done = more
  leaves_one false more done = done

  -- the shared block from which on scopes are left until so many stay, and then a block is entered
  abbrev pub leaves_before : JumpWay → Scopes → Building → ℕ × Building
  leaves_before way [] s = share (GoesTo way.block) s
  leaves_before way (scope ∷ S) s =
      leaves_one (not (nat_lt (length S) way.base))
      (drops_before (needing_drop f.items scope.entries) S (leaves_before way S s))
      (share (GoesTo way.block) s)

  -- scopes are left until so many stay, and then a block is entered
  abbrev pub leaves_to : ℕ → JumpWay → Scopes → Building → BlockRest × Building
  leaves_to node way [] s = (ending (Term.Goto way.block) node, s)
  leaves_to node way (scope ∷ S) s =
      leaves_one (not (nat_lt (length S) way.base))
      (drops_to (needing_drop f.items scope.entries) S (leaves_before way S s) (leaves_to node way S s))
      (ending (Term.Goto way.block) node, s)

  abbrev pub exits : ℕ → Exit → Lowers
  exits node exit = record {
    has_end = false;
    jumps = naming exit;
    after = λ S. S;
    build = λ c S k s. leaves_to node (way_of exit c) S s;
  }

  abbrev pub jump : ℕ → Exit → Lowers → Lowers
  jump node exit P = then_lower P (exits node exit)

  -- a panic starts
  abbrev pub panics : ℕ → Why → Lowers
  panics node why = record {
    has_end = false;
    jumps = [];
    after = λ S. S;
    build = λ c S k s. unwinding (Term.Panic why) node (panic_drops S) s;
  }

  -- Tests, given the numbers of the two blocks to which they lead: the code of the last is built first.

  abbrev pub if_true : effects.Operand → ℕ → ℕ → ℕ → Building → BlockRest × Building
  if_true operand node y n s = (ending (Term.If (operand_of operand) y n) node, s)

  abbrev pub compared : EffectSite → effects.Operand → Stmt
  compared site value =
      Stmt.Compare (place_of (site_of_key site.node)) Cmp.Eq (operand_of (effects.Copied site)) (operand_of value)

  abbrev pub equals : EffectSite → effects.Operand → ℕ → ℕ → Building → BlockRest × Building
  equals site value y n s = (
    with_line (compared site value) site.node
        (ending (Term.If (operand_of (moved site.node site.node)) y n) site.node),
    s,
  )

  abbrev mutual
    pub test : PatternTest → ℕ → ℕ → Building → BlockRest × Building
    test (IsVariant site variant) y n s = (ending (Term.Case (place_of site) variant y n) site.node, s)
    test (IsNumber site value kind) y n s = equals site (effects.Number value kind) y n s
    test (IsTruth site value) y n s = equals site (effects.Truth value) y n s
    test (AnyOf alternatives) y n s = any_test alternatives y n s

    pub tests : PatternTests → ℕ → ℕ → Building → BlockRest × Building
    tests no_test y n s = (ending (Term.Goto y) 0, s)
    tests (a_test first rest) y n s = let later = closing (tests rest y n s) in test first later.0 n later.1

    pub any_test : Alternatives → ℕ → ℕ → Building → BlockRest × Building
    any_test no_alternative y n s = (ending (Term.Goto n) 0, s)
    any_test (an_alternative one rest) y n s =
        let later = closing (any_test rest y n s) in tests one y later.0 later.1

  -- Assignment whose old value is dropped first: the value is stored on both ways on.

  abbrev pub taken : List ℕ → Scopes → Scopes
  taken keys = innermost (without_operands keys)

  abbrev pub put_into : EffectSite → ℕ → Stmt
  put_into site key = Stmt.Put (place_of site) (operand_of (moved site.node key))

  abbrev pub replaces_from : EffectSite → ℕ → Scopes → BlockRest → Building → BlockRest × Building
  replaces_from site key S k s =
      let onward = closing (with_line (put_into site key) site.node k, s) in
      let down = chain (panic_drops (taken (key ∷ []) S)) onward.1 in
      let unwound = with_line (put_into site key) site.node (ending (Term.Goto down.0) site.node) in (
        ending (Term.DropAt (place_of site) onward.0 (Unwind.Block (next_number down.1))) site.node,
        closed Kind.Cleanup unwound down.1,
      )

  abbrev pub stores : EffectSite → ℕ → Lowers
  stores site key = from_changed (taken (key ∷ [])) (act site.node (effects.Put site (moved site.node key)))

  abbrev pub replaces : Bool → EffectSite → ℕ → Lowers
  replaces true site key = record {
    has_end = true;
    jumps = [];
    after = taken (key ∷ []);
    build = λ c. replaces_from site key;
  }
  replaces false site key = stores site key
