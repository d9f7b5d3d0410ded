-- What is proved of expressions and bodies: what is typed is well typed.
use Rattle.std.specs.Prelude.{◌≡◌, [], Option, Some, IsTrue, Contains}
use Rattle.mir_base.specs.declared.place_in_text.Pos.{Pos}
use Rattle.mir_ty.specs.declared.adt.Variant.{Variant}
use Rattle.mir_ty.specs.declared.ty.TyId.{TyId}
use Rattle.well_typed.specs.Claim.{Holds}
use Rattle.mir_ty.specs.DropBodies.{is_drop_body}
use Rattle.well_typed.specs.Types.{variant_at}
use Rattle.typing_rules.specs.Bodies.{closure, fn_body}
use Rattle.typing_rules.specs.Check.{TypingState}
use Rattle.typing_rules.specs.Named.{PathValue, Makes, IsBroken, path_value, Callee, Function, Constructor, callee_of}
use Rattle.typing_rules.specs.Promises.{Gives, KnowsItems, Sound, SoundTemporary}
use Rattle.typing_rules.specs.RowPromises.{IsFunction}
use Rattle.typing_rules.specs.Rows.{Typer, loop_row}
use Rattle.typing_rules.specs.Scope.{Env, NamedEntry, LabelledLoop, within_loop}
use Rattle.typing_rules.specs.Typed.{typed}
use Rattle.src_ast.specs.Syntax.{Word, Syn, Syns, MaybeSyn}
use Rattle.typing_soundness.specs.Shapes.{shaped, is_block, self_first}
use Rattle.typing_soundness.specs.Closures.{Tape}
use Rattle.typing_soundness.specs.Walks.{WalksNode}

-- a loop, where its body gives what is well typed and carries its breaks
abbrev pub Loops : Type 0
Loops = (f : Tape) (env : Env) (at : Pos) (label : Option Word) (body : LabelledLoop → Typer) →
    ((a : LabelledLoop) → Sound (within_loop a env)
    (body a)) → ((a : LabelledLoop) (expected : Option TyId) → WalksNode f (body a expected)) →
    SoundTemporary env (loop_row at label
    body)

-- a struct or a variant that a path names is there, and has no parts
abbrev pub NamesUnit : TypingState → PathValue → Type 0
NamesUnit s (Makes adt variant) = (v : Variant) × (variant_at s.items adt variant ≡ Some v) × (v.fields ≡ [])
NamesUnit s (IsBroken rule) = Unit {0}

abbrev pub Paths : Type 0
Paths = (s : TypingState) (env : Env) → KnowsItems env.kinds env.self_adt s.items → (first second : Option Word) →
    NamesUnit s
    (path_value s.items env first second)

-- a function that is called by its name is the body of no closure; a constructor has the parts of its variant
abbrev pub NamesCallee : TypingState → Callee → Type 0
NamesCallee s (Function body is_drop head) = IsFunction s body head × (is_drop ≡ is_drop_body s.items body)
NamesCallee s (Constructor adt variant tys) =
    (v : Variant) × (variant_at s.items adt variant ≡ Some v) × (tys ≡ v.fields)
NamesCallee s _ = Unit {0}

abbrev pub Callees : Type 0
Callees = (s : TypingState) (env : Env) → KnowsItems env.kinds env.self_adt s.items → (e : Syn) → Holds (shaped e) →
    NamesCallee s (callee_of s.items env e)

-- each expression, whatever is in it
abbrev pub AreSound : Type 0
AreSound = (env : Env) (e : Syn) → Holds (shaped e) → Sound env (typed env e)

-- a closure, and with it its body: bodies that come to the state are well typed in it (`Grows`)
abbrev pub Closures : Type 0
Closures = (env : Env) (at : Pos) (captures params : Syns) (answer : MaybeSyn) (body : Syn) → IsTrue (is_block body) →
    IsTrue (self_first params) → Holds (shaped body) → SoundTemporary env (closure env at captures params answer (λ
    inner. typed inner body))

-- The body of a function or a method, where nothing is in scope around it: bodies that come to the state are well typed
-- in it.
abbrev pub Functions : Type 0
Functions = (env : Env) (at : Pos) (params : Syns) (answer : MaybeSyn) (body : Syn) (s : TypingState) →
    KnowsItems env.kinds
    env.self_adt s.items → ((x : NamedEntry) → Contains env.variables x → ⊥) → IsTrue (is_block body) →
    IsTrue (self_first
    params) → Holds (shaped body) → Gives s (λ w b. Unit {0}) (fn_body env at params answer (λ inner. typed inner body)
    s)
