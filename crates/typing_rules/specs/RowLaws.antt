-- The rows of forms that keep the promise: where the checks of a node's parts give what is well typed, so does the row.
use Rattle.std.specs.Prelude.{◌≡◌, ℕ, Bool, true, List, [], ◌∷◌, Option, Some, Contains, None, not}
use Rattle.mir_base.specs.declared.int_kind.IntKind.{IntKind}
use Rattle.mir_base.specs.declared.operator.Cmp.{Cmp}
use Rattle.mir_base.specs.declared.operator.Math.{Math}
use Rattle.mir_base.specs.declared.place_in_text.Pos.{Pos}
use Rattle.mir_ty.specs.declared.ty.Ty.{Ty}
use Rattle.mir_ty.specs.declared.ty.TyId.{TyId}
use Rattle.mir_ty.specs.ItemTable.{type_at, ItemTable}
use Rattle.typed_tree.specs.Tree as tree
use Rattle.typed_tree.specs.Tree.{Node, Nodes}
use Rattle.typing_rules.specs.Check.{Check, TypingState, interned, ◌>>=◌}
use Rattle.typing_rules.specs.Places.{unit, bool, never, int, variable_place, struct_field, numbered_part}
use Rattle.typing_rules.specs.Promises.{Grows, Gives, IsKnown, Knows, IsValue, Sound, SoundTemporary, SoundBase, IsReady, IsTemporary, IsPattern, SoundMatcher, IsAlone}
use Rattle.typing_rules.specs.RowPromises.{IsMade, IsPlace, IsArgument, SoundReferrer, SoundArgs, SoundParts, SoundElements, SoundMaybe, IsLoopOf, SoundStatements, SoundTail, SoundStatement, IsFunction, FindsMethods, IsArm, SoundArms, SoundGuard, SoundDeclared, SoundInitialiser, SoundPattern, SoundInits, IsStatement, IsInParts}
use Rattle.typing_rules.specs.Rows.{Typer, Referrer, leaf, taken, field, deref, element, not_row, negate, arithmetic, comparison, logic, store, borrow, passed_on, argument, built_in, print_form, drop_form, forget_form, new_box, tuple_row, array_row, block, if_alone, if_else, while_row, break_row, continue_row, return_row, evaluate, PatternContext, Matcher, Method, literal, ask_form, call, make, if_let_alone, if_let_else, while_let_row, arm, match_row, method_call, closure_call, let_row, struct_row, Given, place_for_parts}
use Rattle.typing_rules.specs.Scope.{Env, NamedEntry, LabelledLoop, within_loop, with_variables}
use Rattle.src_ast.specs.Syntax.{Word, Syn}
use Rattle.mir_ty.specs.declared.adt.Variant.{Variant}
use Rattle.mir_ty.specs.declared.def.Sig.{Sig}
use Rattle.mir_ty.specs.DropBodies.{is_drop_body}
use Rattle.well_typed.specs.Types.{variant_at}
use Rattle.typing_rules.specs.Named.{Makes, method_named}
use Rattle.typing_rules.specs.Patterns.{pattern}
use Rattle.typing_rules.specs.Typed as typing
use Rattle.typing_rules.specs.Typed.{makes_unit}
use Rattle.typing_rules.specs.Written as types

-- a type gets one number, and all types stay what they are
abbrev pub TypesAreKept : Type 0
TypesAreKept = (ty : Ty) (s : TypingState) → IsMade s.items ty →
    Gives s (λ w id. type_at w.items id ≡ Some ty) (interned ty s)

pub record Leaves : Type 0 where
  pub truth : (env : Env) (at : Pos) (value : Bool) → SoundTemporary env (leaf at bool (tree.Truth value))
  pub unit_value : (env : Env) (at : Pos) → SoundTemporary env (leaf at unit tree.UnitValue)
  pub number : (env : Env) (at : Pos) (is_negative : Bool) (value : ℕ) (suffix : Option IntKind) →
      SoundTemporary env (literal at is_negative value suffix)
  pub panic : (env : Env) (at : Pos) → SoundTemporary env (leaf at never tree.Panic)

pub record Operators : Type 0 where
  pub negation : (env : Env) (at : Pos) (operand : Typer) → Sound env operand →
      SoundTemporary env (not_row at operand)
  pub minus : (env : Env) (at : Pos) (operand : Typer) → Sound env operand → SoundTemporary env (negate at operand)
  pub calculation : (env : Env) (at : Pos) (operator : Math) (is_literal : Bool) (left right : Typer) →
      Sound env left → Sound env right → SoundTemporary env (arithmetic at operator is_literal left right)
  pub compared : (env : Env) (at : Pos) (operator : Cmp) (is_literal : Bool) (left right : Typer) → Sound env left →
      Sound env right → SoundTemporary env (comparison at operator is_literal left right)
  pub and_also : (env : Env) (at : Pos) (left right : Typer) → Sound env left → Sound env right →
      SoundTemporary env (logic at tree.And left right)
  pub or_else : (env : Env) (at : Pos) (left right : Typer) → Sound env left → Sound env right →
      SoundTemporary env (logic at tree.Or left right)
  pub assignment : (env : Env) (at : Pos) (place : Check Node) (value : Typer) → SoundBase env place →
      Sound env value → SoundTemporary env (store env at place value)

-- places, and places that are taken
pub record Places : Type 0 where
  pub variable : (env : Env) (at : Pos) (x : NamedEntry) → Contains env.variables x → (s : TypingState) →
      Knows env s → Gives s (IsPlace env) (variable_place at x s)
  pub named_field : (env : Env) (at : Pos) (name : Word) (base : Check Node) → SoundBase env base →
      (s : TypingState) → Knows env s → Gives s (IsPlace env) (field at (struct_field name) base s)
  pub numbered_field : (env : Env) (at : Pos) (n : ℕ) (base : Check Node) → SoundBase env base → (s : TypingState) →
      Knows env s → Gives s (IsPlace env) (field at (numbered_part n) base s)
  pub dereferenced : (env : Env) (at : Pos) (base : Check Node) → SoundBase env base → (s : TypingState) →
      Knows env s → Gives s (IsPlace env) (deref at base s)
  pub indexed : (env : Env) (at : Pos) (base : Check Node) (index : Typer) → SoundBase env base → Sound env index →
      (s : TypingState) → Knows env s → Gives s (IsPlace env) (element at base index s)
  pub is_taken : (env : Env) (expected : Option TyId) (n : Node) (s : TypingState) → IsPlace env s n →
      ((w : TypingState) → Grows s w → IsPlace env w n) → Gives s (IsValue env expected) (taken env expected n s)

-- arguments by value and by reference
pub record Arguments : Type 0 where
  pub by_borrow : (env : Env) (at : Pos) (unique : Bool) (base : Check Node) → SoundBase env base →
      SoundReferrer env (borrow at unique base)
  pub by_passing_on : (env : Env) (at : Pos) (x : NamedEntry) → Contains env.variables x →
      SoundReferrer env (passed_on at x)
  pub either : (env : Env) (param : TyId) (by_value : Typer) (by_reference : Referrer) → Sound env by_value →
      SoundReferrer env by_reference → (s : TypingState) → Knows env s → IsKnown s.items param →
      Gives s (IsArgument env param) (argument param by_value by_reference s)

pub record BuiltIns : Type 0 where
  pub print : (env : Env) (at : Pos) (count : ℕ) (args : List TyId → Check Nodes) → SoundArgs env count args →
      SoundTemporary env (built_in at unit print_form count 1 (args (int IntKind.I32 ∷ [])))
  pub ask : (env : Env) (at : Pos) (count : ℕ) (args : List TyId → Check Nodes) → SoundArgs env count args →
      SoundTemporary env (built_in at (int IntKind.I32) ask_form count 0 (args []))
  pub drop_value : (env : Env) (at : Pos) (count : ℕ) (args : List TyId → Check Nodes) → SoundArgs env count args →
      SoundTemporary env (built_in at unit drop_form count 1 (args []))
  pub forget : (env : Env) (at : Pos) (count : ℕ) (args : List TyId → Check Nodes) → SoundArgs env count args →
      SoundTemporary env (built_in at unit forget_form count 1 (args []))
  pub boxed : (env : Env) (at : Pos) (count : ℕ) (args : List TyId → Check Nodes) → SoundArgs env count args →
      SoundTemporary env (new_box at count args)

pub record Aggregates : Type 0 where
  pub tuples : (env : Env) (at : Pos) (count : ℕ) (parts : List (Option TyId) → Check (Nodes × List TyId)) →
      SoundParts env parts → SoundTemporary env (tuple_row at count parts)
  pub structs : (env : Env) (at : Pos) (adt variant : ℕ) (v : Variant) (fields : Check (tree.Fields × Given)) →
      SoundInits env v fields → (expected : Option TyId) (s : TypingState) → variant_at s.items adt variant ≡ Some v →
      Knows env s → Gives s (IsTemporary env expected) (struct_row at adt variant v.fields fields expected s)
  pub arrays : (env : Env) (at : Pos) (count : ℕ) (elements : Option TyId → Check (Nodes × List TyId)) →
      SoundElements env count elements → SoundTemporary env (array_row at count elements)

pub record Branches : Type 0 where
  pub alone : (env : Env) (at : Pos) (c body : Typer) → Sound env c → Sound env body →
      SoundTemporary env (if_alone at c body)
  pub with_else : (env : Env) (at : Pos) (c body otherwise : Typer) → Sound env c → Sound env body →
      Sound env otherwise → SoundTemporary env (if_else at c body otherwise)
  pub while_loop : (env : Env) (at : Pos) (label : Option Word) (c body : LabelledLoop → Typer) →
      ((a : LabelledLoop) → Sound (within_loop a env) (c a)) →
      ((a : LabelledLoop) → Sound (within_loop a env) (body a)) → SoundTemporary env (while_row at label c body)

pub record Jumps : Type 0 where
  pub breaking : (env : Env) (at : Pos) (to : Option LabelledLoop) (value : Option TyId → Check tree.MaybeNode) →
      IsLoopOf env to → SoundMaybe env value → SoundTemporary env (break_row at to value)
  pub continuing : (env : Env) (at : Pos) (to : Option LabelledLoop) → IsLoopOf env to →
      SoundTemporary env (continue_row at to)
  pub returning : (env : Env) (at : Pos) (value : Option TyId → Check tree.MaybeNode) → SoundMaybe env value →
      SoundTemporary env (return_row at env.answer value)

pub record Blocks : Type 0 where
  pub evaluated : (env : Env) (at : Pos) (has_semicolon : Bool) (e : Typer) → Sound env e →
      SoundStatement env (evaluate at env has_semicolon e)
  pub declared :
      (env : Env) (at : Pos) (is_one : Bool) (written : Check (Option TyId)) (value : Option TyId →
      Check tree.MaybeNode) (matcher : Matcher) (s : TypingState) → SoundDeclared written →
      SoundInitialiser env is_one value → SoundPattern s is_one matcher → Knows env s →
      Gives s (λ w done. IsStatement env w done × Knows done.2 w)
      (let_row at env is_one written value matcher (λ xs. with_variables xs env) s)
  pub in_parts : (env : Env) (takes_any : Bool) (expected : Option TyId) (n : Node) (s : TypingState) →
      IsPlace env s n → ((w : TypingState) → Grows s w → IsPlace env w n) →
      Gives s (IsInParts env expected) (place_for_parts env takes_any expected n s)
  pub braces :
      (env : Env) (at : Pos) (check : Check (Nodes × Bool × Env)) (tail : Env → Option TyId → Check tree.MaybeNode) →
      SoundStatements env check → SoundTail env tail → SoundTemporary env (block at check tail)

-- a type that is written may stand alone
abbrev pub WrittenTypes : Type 0
WrittenTypes = (around : types.WrittenScope) → around.has_limits ≡ true → (ty : Syn) (s : TypingState) →
    Gives s (λ w t. IsAlone w.items t) (types.written around ty s)

-- each pattern, of whatever form; it is one name as it is typed where it is one as it is written
pub record Patterns : Type 0 where
  pub well_typed : (env : Env) (p : Syn) → SoundMatcher (λ e ty. pattern env e ty p [])
  pub one_name : (env : Env) (p : Syn) (s : TypingState) →
      SoundPattern s (typing.is_one_name s.items p) (λ e ty. pattern env e ty p [])

pub record Matches : Type 0 where
  pub if_let : (env : Env) (at : Pos) (scrutinee : Check Node) (matcher : Matcher) (body : List NamedEntry → Typer) →
      SoundBase env scrutinee → SoundMatcher matcher →
      ((xs : List NamedEntry) → Sound (with_variables xs env) (body xs)) →
      SoundTemporary env (if_let_alone env at scrutinee matcher body)
  pub if_let_or_else :
      (env : Env) (at : Pos) (scrutinee : Check Node) (matcher : Matcher) (body : List NamedEntry → Typer)
      (otherwise : Typer) → SoundBase env scrutinee → SoundMatcher matcher →
      ((xs : List NamedEntry) → Sound (with_variables xs env) (body xs)) → Sound env otherwise →
      SoundTemporary env (if_let_else env at scrutinee matcher body otherwise)
  pub while_let :
      (env : Env) (at : Pos) (label : Option Word) (scrutinee : LabelledLoop → Check Node) (matcher : Matcher)
      (body : LabelledLoop → List NamedEntry → Typer) →
      ((a : LabelledLoop) → SoundBase (within_loop a env) (scrutinee a)) → SoundMatcher matcher →
      ((a : LabelledLoop) (xs : List NamedEntry) → Sound (with_variables xs (within_loop a env)) (body a xs)) →
      SoundTemporary env (while_let_row env at label scrutinee matcher body)
  pub arms :
      (env : Env) (e : PatternContext) (ty : TyId) (check : Check (Node × List NamedEntry)) (guard : List NamedEntry →
      Check tree.MaybeNode) (body : List NamedEntry → Typer) →
      ((s : TypingState) → IsReady s.items ty → Gives s (IsPattern e ty s.next_node) (check s)) →
      SoundGuard env guard → ((xs : List NamedEntry) → Sound (with_variables xs env) (body xs)) →
      (expected : Option TyId) (s : TypingState) → Knows env s → IsReady s.items ty →
      Gives s (IsArm env e ty expected) (arm check guard body expected s)
  pub matches :
      (env : Env) (at : Pos) (scrutinee : Check Node) (arms : PatternContext → TyId → Option TyId →
      Check (Nodes × List TyId)) → SoundBase env scrutinee → SoundArms env arms →
      SoundTemporary env (match_row env at scrutinee arms)

-- functions, methods, closures and constructors that are called
pub record Calls : Type 0 where
  pub function : (env : Env) (at : Pos) (body : ℕ) (head : Sig) (count : ℕ) (args : List TyId → Check Nodes) →
      SoundArgs env count args → (expected : Option TyId) (s : TypingState) → Knows env s → IsFunction s body head →
      Gives s (IsTemporary env expected)
      (call at (tree.Call body) head.result count head.params args (not (is_drop_body s.items body)) expected s)
  pub method :
      (env : Env) (at : Pos) (named : ItemTable → TyId → Option Method) (count : ℕ) (receiver : Check Node)
      (args : List TyId → Check Nodes) → FindsMethods named → SoundBase env receiver → SoundArgs env count args →
      SoundTemporary env (method_call env at named count receiver args)
  pub methods : (name : Word) → FindsMethods (method_named name)
  pub closure : (env : Env) (at : Pos) (count : ℕ) (callee : Check Node) (args : List TyId → Check Nodes) →
      ((s : TypingState) → Knows env s → Gives s (IsValue env None) (callee s)) → SoundArgs env count args →
      SoundTemporary env (closure_call at count callee args)
  pub constructor :
      (env : Env) (at : Pos) (adt variant : ℕ) (v : Variant) (count : ℕ) (args : List TyId → Check Nodes) →
      SoundArgs env count args → (expected : Option TyId) (s : TypingState) →
      variant_at s.items adt variant ≡ Some v → Knows env s →
      Gives s (IsTemporary env expected)
      ((interned (Ty.Adt adt) >>= (λ ty. call at (make adt variant) ty count v.fields args true expected)) s)
  pub unit_struct :
      (env : Env) (at : Pos) (adt variant : ℕ) (v : Variant) (expected : Option TyId) (s : TypingState) →
      variant_at s.items adt variant ≡ Some v → v.fields ≡ [] → Knows env s →
      Gives s (IsTemporary env expected) (makes_unit at (Makes adt variant) expected s)
