-- What a body of a graph does from a block on, over any effects: the statements of the block, and then its terminator,
-- which leads on to a block or out of the body.
use Rattle.std.specs.Prelude.{ℕ, zero, suc, List, [], ◌∷◌, length, Option, Some, None, slice_get}
use Rattle.std.specs.Option.{option_map_or}
use Rattle.cfg_graph.specs.declared.graph.Block.{Block}
use Rattle.cfg_graph.specs.declared.graph.Body.{Body}
use Rattle.cfg_graph.specs.declared.graph.Kind.{Kind}
use Rattle.cfg_graph.specs.declared.statement.Stmt.{Stmt}
use Rattle.cfg_graph.specs.declared.terminator.Term.{Term}
use Rattle.cfg_graph.specs.declared.terminator.Unwind.{Unwind}
use Rattle.cfg_meaning.specs.Actions.{site_of, operand_of, operands_of, action_of, mode_of}
use Rattle.store_model.specs.Effects as effects
use Rattle.store_model.specs.Effects.{Action, Test, Mode, EffectSite, Halt, Aborted, OutOfTicks, Stuck, StuckAt, BadUse, BadStore, NoChoice, Infeasible, Unreachable, Out, Go, Unwind as Unwinds, Halts, Choice, Yes, No, Neither, Effects}
use Rattle.store_model.specs.Places.Place.{whole_local}

-- what is done from a block on
abbrev pub Next : Type 0 → Type 0
Next W = ℕ → W → Out W

-- A missing step is stuck in its block. What halted in a body that was called has its block already.
abbrev pub stuck_in : ℕ → ℕ → Halt → Halt
stuck_in body block Stuck = StuckAt body block
stuck_in body block halt = halt

module _ {W : Type 0} where
  -- what cannot panic, and what comes next where it goes on: the lines of a `do` block follow one another so
  abbrev pub ◌>>=◌ : Out W → (W → Out W) → Out W
  ◌>>=◌ (Go w) next = next w
  ◌>>=◌ (Unwinds w) next = Halts Stuck w
  ◌>>=◌ (Halts halt w) next = Halts halt w

  abbrev pub fork : Out W → (W → Out W) → (W → Out W) → Out W
  fork (Go w) next panics = next w
  fork (Unwinds w) next panics = panics w
  fork (Halts halt w) next panics = Halts halt w

  abbrev pub branch : Choice W → (W → Out W) → (W → Out W) → Out W
  branch (Yes w) if_true if_false = if_true w
  branch (No w) if_true if_false = if_false w
  branch (Neither halt w) if_true if_false = Halts halt w

  abbrev pub renamed : (Halt → Halt) → Out W → Out W
  renamed name (Go w) = Go w
  renamed name (Unwinds w) = Unwinds w
  renamed name (Halts halt w) = Halts (name halt) w

  abbrev pub renamed_choice : (Halt → Halt) → Choice W → Choice W
  renamed_choice name (Yes w) = Yes w
  renamed_choice name (No w) = No w
  renamed_choice name (Neither halt w) = Neither (name halt) w

  -- effects that name where they halt
  abbrev pub naming : (Halt → Halt) → Effects W → Effects W
  naming name p = record {
    act = λ action w. renamed name (p.act action w);
    choose = λ test w. renamed_choice name (p.choose test w);
    drop = λ mode site w. renamed name (p.drop mode site w);
    panic = p.panic;
    tick = λ w. renamed name (p.tick w);
    give = λ site w. renamed name (p.give site w);
  }

  -- where a panic goes on
  abbrev pub unwinding : Unwind → Next W → W → Out W
  unwinding (Unwind.Block block) next w = next block w
  unwinding Unwind.Resume next w = Unwinds w
  unwinding Unwind.Abort next w = Halts Aborted w

  abbrev pub stmts_do : Effects W → (ℕ → ℕ) → ℕ → List Stmt → (W → Out W) → W → Out W
  stmts_do p node line [] rest w = rest w
  stmts_do p node line (stmt ∷ stmts) rest w = do
    w ← p.act (action_of (node line) stmt) w
    stmts_do p node (suc line) stmts rest w

  -- an effect with a way on and a way by which it panics
  abbrev pub acts : Out W → Next W → ℕ → Unwind → Out W
  acts out next to unwind = fork out (next to) (unwinding unwind next)

  abbrev pub term_does : Effects W → ℕ → Term → Next W → W → Out W
  term_does p node (Term.Goto block) next w = next block w
  term_does p node (Term.If on if_true if_false) next w =
      branch (p.choose (effects.IsTrue (operand_of node on)) w) (next if_true) (next if_false)
  term_does p node (Term.Case on variant if_true if_false) next w =
      branch (p.choose (effects.HasVariant (site_of node on) variant) w) (next if_true) (next if_false)
  term_does p node (Term.Math to operator left right onward unwind) next w =
      acts (p.act (effects.Compute (site_of node to) operator (operand_of node left) (operand_of node right)) w)
      next onward unwind
  term_does p node (Term.Negate to operand onward unwind) next w =
      acts (p.act (effects.Negate (site_of node to) (operand_of node operand)) w) next onward unwind
  term_does p node (Term.Bounds index count onward unwind) next w =
      acts (p.act (effects.Bounds (operand_of node index) count) w) next onward unwind
  term_does p node (Term.Call to body args onward unwind) next w =
      acts (p.act (effects.Call (site_of node to) body (operands_of node args)) w) next onward unwind
  term_does p node (Term.Virtual to trait_no method args onward unwind) next w =
      acts (p.act (effects.CallVirtual (site_of node to) trait_no method (operands_of node args)) w) next onward unwind
  term_does p node (Term.Ask to onward unwind) next w =
      acts (p.act (effects.Ask (site_of node to)) w) next onward unwind
  term_does p node (Term.DropAt place onward unwind) next w =
      acts (p.drop (mode_of unwind) (site_of node place) w) next onward unwind
  term_does p node (Term.Panic why unwind) next w = unwinding unwind next (p.panic why w)
  term_does p node Term.Return next w = p.give (record { node = node; place = whole_local 0 }) w
  term_does p node Term.Resume next w = Unwinds w

  -- a block: its statements from line 0 on, and its terminator on the line after them
  abbrev pub block_does : Effects W → (ℕ → ℕ) → Block → Next W → W → Out W
  block_does p node block next w =
      stmts_do p node 0 block.stmts (term_does p (node (length block.stmts)) block.term next) w

module _ {W : Type 0} (p : Effects W) (number : ℕ) (node : ℕ → ℕ → ℕ) (body : Body) where
  abbrev pub rank_at : ℕ → ℕ
  rank_at n = option_map_or (λ block. block.rank) (slice_get body.blocks n) 0

  abbrev pub does_block : ℕ → Block → Next W → W → Out W
  does_block n block next w = block_does (naming (stuck_in number n) p) (node n) block next w

  -- a turn block spends a tick as it is entered
  abbrev pub does_turn : ℕ → Block → Next W → W → Out W
  does_turn n block next w = do
    w ← p.tick w
    does_block n block next w

  abbrev pub by_kind : Kind → ℕ → Block → (turn plain : Next W) → W → Out W
  by_kind Kind.Turn n block turn plain w = turn n w
  by_kind _ n block turn plain w = plain n w

  abbrev pub if_there : Option Block → ℕ → (Block → W → Out W) → W → Out W
  if_there None n does w = Halts (StuckAt number n) w
  if_there (Some block) n does w = does block w

  -- what the walk does from a block on, in terms of what it does from the next ones on
  abbrev pub unfolded : Next W → Next W
  unfolded next n w =
      if_there (slice_get body.blocks n) n
      (λ block. by_kind block.kind n block (λ n. does_turn n block next) (λ n. does_block n block next)) w

  -- At most so many blocks up to the next turn block, where it is given what a turn does. Each edge but one to a turn
  -- block lowers the rank, so fuel greater than the rank is never met.
  abbrev pub blocks : Next W → ℕ → Next W
  blocks turn zero n w =
      if_there (slice_get body.blocks n) n (λ block. by_kind block.kind n block turn (λ n. Halts Stuck)) w
  blocks turn (suc fuel) n w =
      if_there (slice_get body.blocks n) n
      (λ block. by_kind block.kind n block turn (λ n. does_block n block (blocks turn fuel))) w

  abbrev pub from_rank : Next W → Next W
  from_rank turn n w = blocks turn (suc (rank_at n)) n w

  -- fewer turns than so many: each spends a tick, or takes a choice, so fuel greater than what is left of these is
  -- never what ends it
  abbrev pub turns : ℕ → Next W
  turns zero n w = Halts OutOfTicks w
  turns (suc fuel) n w = if_there (slice_get body.blocks n) n (λ block. does_turn n block (from_rank (turns fuel))) w

  -- the walk of a body from a block on, with fewer turns than so many
  abbrev pub walk : ℕ → Next W
  walk fuel = from_rank (turns fuel)
