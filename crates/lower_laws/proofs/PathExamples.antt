-- Bodies that were worked out by hand: what their free walks and their paths meet.
use Rattle.std.proofs.Common.{◌≡◌, ℕ, ◌+◌, ◌*◌, Bool, true, false, List, [], ◌∷◌, map, refl}
use Rattle.mir_base.specs.declared.int_kind.IntKind.{IntKind}
use Rattle.mir_ty.specs.declared.ty.Ty.{Ty}
use Rattle.mir_ty.specs.declared.ty.TyId.{TyId}
use Rattle.mir_ty.specs.ItemTable.{ItemTable}
use Rattle.store_model.specs.Effects as effects
use Rattle.store_model.specs.Effects.{EffectSite, Halt, BadStore, NoChoice, Infeasible, Unreachable, Out, Go, Unwind, Halts}
use Rattle.store_model.specs.Places.Place.{whole_local, ToPart}
use Rattle.store_model.specs.Abstract.Effects.{AbstractState}
use Rattle.cfg_graph.specs.declared.graph.Block.{Block}
use Rattle.cfg_graph.specs.declared.graph.Body.{Body}
use Rattle.cfg_graph.specs.declared.graph.Kind.{Kind}
use Rattle.cfg_graph.specs.declared.place.Operand.{Operand}
use Rattle.cfg_graph.specs.declared.place.Place.{Place}
use Rattle.cfg_graph.specs.declared.place.Step.{Step}
use Rattle.cfg_graph.specs.declared.statement.Stmt.{Stmt}
use Rattle.cfg_graph.specs.declared.terminator.Term.{Term}
use Rattle.cfg_graph.specs.declared.terminator.Unwind.{Unwind as UnwindTo}
use Rattle.cfg_graph.specs.Moves.BadUses.{UseRule, U1, U2, BadUse, bad_uses_on}
use Rattle.cfg_graph.specs.Moves.Paths.{choices_of_path}
use Rattle.cfg_meaning.specs.Programs.{free_walk}

abbrev ty : ℕ → TyId
ty n = record { 0 = n }

-- i32, (), bool, Box<i32>, !, (Box<i32>, i32)
abbrev items : ItemTable
items = record {
  types = Ty.Int IntKind.I32 ∷ Ty.Unit ∷ Ty.Bool ∷ Ty.Boxed (ty 0) ∷ Ty.Never ∷ Ty.Tuple (ty 3 ∷ ty 0 ∷ []) ∷ [];
  adts = [];
  traits = [];
  impls = [];
  closures = [];
  bodies = [];
}

-- the result, and then a parameter of each of: Box<i32>, bool, (Box<i32>, i32), !; and a local of Box<i32>
abbrev body : List Block → Body
body blocks = record { params = 4; locals = ty 1 ∷ ty 3 ∷ ty 2 ∷ ty 5 ∷ ty 4 ∷ ty 3 ∷ []; blocks = blocks }

abbrev block : Kind → ℕ → List Stmt → Term → Block
block kind rank stmts term = record { kind = kind; rank = rank; stmts = stmts; term = term }

abbrev at : ℕ → Place
at local = record { local = local; steps = [] }

abbrev part : ℕ → ℕ → Place
part local n = record { local = local; steps = Step.Part n ∷ [] }

abbrev taken : Place → Stmt
taken place = Stmt.Forget (Operand.Moved place)

abbrev last : Block
last = block Kind.Plain 0 (Stmt.Put (at 0) Operand.Unit ∷ []) Term.Return

-- how a walk ends, with the choices that are left
data Ends : Type 0 where
  Goes : Ends
  Unwinds : Ends
  At : (halt : Halt) (left : List Bool) → Ends

abbrev ending : Out AbstractState → Ends
ending (Go w) = Goes
ending (Unwind w) = Unwinds
ending (Halts halt w) = At halt w.choices

-- the node of a line is ten times its block and its number
abbrev walked : List Block → List Bool → Ends
walked blocks list = ending (free_walk items (λ block line. block * 10 + line) (body blocks) list)

abbrev told : List BadUse → List (UseRule × ℕ × ℕ)
told bad = map (λ one. (one.rule, one.action.block, one.action.line)) bad

abbrev on_path : List Block → List ℕ → List (UseRule × ℕ × ℕ)
on_path blocks path = told (bad_uses_on items (body blocks) path)

abbrev given : List Block → List ℕ → List (List Bool)
given blocks path = choices_of_path items (body blocks) path

abbrev site : ℕ → ℕ → EffectSite
site node local = record { node = node; place = whole_local local }

-- a box that is taken in each turn of a loop
abbrev looping : List Block
looping =
    block Kind.Plain 3 [] (Term.Goto 1)
    ∷ block Kind.Turn 2 (taken (at 1) ∷ []) (Term.If (Operand.Copied (at 2)) 1 2)
    ∷ last ∷ []

the_second_turn : walked looping (false ∷ true ∷ false ∷ true ∷ []) ≡ At (effects.BadUse (site 10 1)) (true ∷ [])
the_second_turn = refl

its_path : on_path looping (0 ∷ 1 ∷ 1 ∷ []) ≡ (U1, 1, 0) ∷ []
its_path = refl

its_choices : given looping (0 ∷ 1 ∷ 1 ∷ []) ≡ (false ∷ true ∷ false ∷ []) ∷ []
its_choices = refl

one_turn : walked looping (false ∷ false ∷ []) ≡ Goes
one_turn = refl

a_turn_that_panics : walked looping (true ∷ []) ≡ At Infeasible []
a_turn_that_panics = refl

-- a drop takes on both of its ways
abbrev dropping : List Block
dropping =
    block Kind.Plain 2 [] (Term.DropAt (at 1) 1 (UnwindTo.Block 2))
    ∷ block Kind.Plain 0 (taken (at 1) ∷ []) Term.Return
    ∷ block Kind.Cleanup 0 (Stmt.Touch (at 1) ∷ []) Term.Resume ∷ []

on_its_way_on : walked dropping (false ∷ []) ≡ At (effects.BadUse (site 10 1)) []
on_its_way_on = refl

on_its_panic : walked dropping (true ∷ []) ≡ At (effects.BadUse (site 20 1)) []
on_its_panic = refl

-- a result is stored into a part of what is gone, on the way on alone
abbrev storing : List Block
storing =
    block Kind.Plain 2 (taken (at 3) ∷ []) (Term.Call (part 3 1) 0 [] 1 (UnwindTo.Block 2))
    ∷ last ∷ block Kind.Cleanup 0 [] Term.Resume ∷ []

a_store_of_a_result : walked storing (false ∷ [])
    ≡ At (BadStore (record { node = 1; place = record { local = 3; steps = ToPart 1 ∷ [] } })) []
a_store_of_a_result = refl

it_panics : walked storing (true ∷ []) ≡ Unwinds
it_panics = refl

its_paths : on_path storing (0 ∷ 1 ∷ []) ≡ (U2, 0, 1) ∷ []
its_paths = refl

-- Where a panic leads to the block of the way on, a path does not tell whether the result was stored, and a walk does.
abbrev both_ways : List Block
both_ways =
    block Kind.Plain 2 [] (Term.Call (at 5) 0 [] 1 (UnwindTo.Block 1))
    ∷ block Kind.Plain 0 (taken (at 5) ∷ []) Term.Return ∷ []

the_walk_tells : walked both_ways (true ∷ []) ≡ At (effects.BadUse (site 10 5)) []
the_walk_tells = refl

no_path_does : on_path both_ways (0 ∷ 1 ∷ []) ≡ []
no_path_does = refl

-- Behind a copy of a value of type `!` a path goes on, and a walk does not.
abbrev behind_never : List Block
behind_never =
    block Kind.Plain 1 (taken (at 1) ∷ Stmt.Forget (Operand.Copied (at 4)) ∷ taken (at 1) ∷ []) (Term.Goto 1) ∷ last ∷ []

the_walk_ends : walked behind_never [] ≡ At Unreachable []
the_walk_ends = refl

the_path_goes_on : on_path behind_never (0 ∷ []) ≡ (U1, 0, 2) ∷ []
the_path_goes_on = refl
