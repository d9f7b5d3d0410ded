-- The checks of expressions give what is well typed: the recursion, one line a form.
use Rattle.std.proofs.Common.{◌≡◌, ℕ, zero, suc, Bool, true, false, ◌&&◌, ◌||◌, not, nat_lt, if◌then◌else◌, List, [], ◌∷◌, length, slice_get, Option, Some, None, Result, Ok, Err, IsTrue, Contains, ◌⊎◌, inl, inr, refl, ap, sym, subst, ◌∙◌, arith}
use Rattle.std.specs.Prelude.{is_some, is_none}
use Rattle.std.specs.Str.{bytes_eq}
use Rattle.std.proofs.lemmas.Bool.{true≢false, false≢true, lt-ltb}
use Rattle.std.proofs.lemmas.Option.{none-some, same_Some}
use Rattle.mir_base.specs.declared.int_kind.IntKind.{IntKind}
use Rattle.mir_base.specs.declared.place_in_text.Pos.{Pos}
use Rattle.mir_base.specs.declared.rule.Rule.{Rule}
use Rattle.mir_ty.specs.declared.adt.Variant.{Variant}
use Rattle.mir_ty.specs.declared.ty.Ty.{Ty}
use Rattle.mir_ty.specs.declared.ty.TyId.{TyId}
use Rattle.mir_ty.specs.ItemTable.{type_at}
use Rattle.typed_tree.specs.Tree as tree
use Rattle.typed_tree.specs.Tree.{Node, node, Form, Nodes, no_node, a_node, Fields, no_field, a_field, MaybeNode, absent, present}
use Rattle.well_typed.specs.Claim.{Claim, Holds, fact, both}
use Rattle.well_typed.specs.Nodes.{typed, statements, ends_in}
use Rattle.well_typed.specs.Patterns as well
use Rattle.well_typed.specs.Places.{Context, Taken, Wanted, Passed, ty_of, is_taken, is_borrow}
use Rattle.well_typed.specs.Types.{fits, is_same, is_never, is_reference, reference_of, reference_in}
use Rattle.typing_rules.specs.Bodies as bodies
use Rattle.typing_rules.specs.Check.{Check, TypingState, Broken, and_then, breaks, interned, obeys, ◌>>=◌}
use Rattle.typing_rules.specs.Named.{PathValue, Makes, IsBroken, path_value, Callee, Function, Constructor, Prints, Asks, Drops, Forgets, Boxes, AValue, Unnamed, NoCallee, callee_of, place_inside, method_named}
use Rattle.typing_rules.specs.Patterns.{pattern, count_of, target_of}
use Rattle.typing_rules.specs.Places.{bool, struct_field, numbered_part, variable_place}
use Rattle.typing_rules.specs.Promises.{IsReady, IsAlone, IsKnown, Grows, Fact, Gives, TypingSpot, at_spot, Stands, Knows, IsValue, IsTemporary, IsBase, Sound, SoundTemporary, SoundBase}
use Rattle.typing_rules.specs.RowPromises.{IsPlace, IsArgument, SoundReferrer, AreGiven, IsGiven, SoundArgs, AreParts, SoundElements, SoundMaybe, IsLoopOf, AreStatements, SoundStatements, IsStatement, AreArms, IsInParts, SoundInitialiser, SoundDeclared, AreInits, SoundInits}
use Rattle.typing_rules.specs.Rows as rows
use Rattle.typing_rules.specs.Rows.{Typer, Referrer, PatternContext, Given, taken}
use Rattle.typing_rules.specs.Scope.{Env, NamedEntry, LabelledLoop, with_variables, within_loop, jumps_to, in_guard, field_named, labelled, innermost}
use Rattle.typing_rules.specs.Typed as typing
use Rattle.typing_rules.specs.Typed.{is_one_name, takes_any}
use Rattle.src_ast.specs.Syntax.{Word, Syn, syn, AnExpression, AStatement, AParam, AnInit, AnArm, Expression, Literal, TruthLiteral, Path, Minus, Bang, Star, Ampersand, Calculate, Compare, Both, Either, Store, CallOf, MethodOf, FieldOf, PartOf, ElementOf, StructOf, Parens, TupleOf, ArrayOf, Braces, IfElse, IfLetElse, MatchOn, LoopOf, WhileOf, WhileLetOf, BreakOf, ContinueOf, ReturnOf, MoveOf, PanicOf, Statement, LetOf, Empty, Semi, SelfParam, Syns, no_syn, a_syn, MaybeSyn, nothing, just}
use Rattle.typing_rules.proofs.Sound.AllPatterns.{matcher_sound}
use Rattle.typing_rules.proofs.Sound.Arguments.{element_sound, store_sound, argument_sound}
use Rattle.typing_rules.proofs.Sound.Blocks.{block_sound, evaluate_sound}
use Rattle.typing_rules.proofs.Sound.Branches.{if_alone_sound, if_else_sound}
use Rattle.typing_rules.proofs.Sound.Calls.{truth_sound, unit_sound, panic_sound, print_sound, drop_sound, forget_sound}
use Rattle.typing_rules.proofs.Sound.Constructors.{new_box_sound, tuple_sound, array_sound}
use Rattle.typing_rules.proofs.Sound.Fitted.{fits_self}
use Rattle.typing_rules.proofs.Sound.Gives.{bind, weaker, obeyed, found, given, gives_nothing, knows_later, grows_refl, grows_trans}
use Rattle.typing_rules.proofs.Sound.Jumps.{continue_sound, return_sound, break_sound, while_sound}
use Rattle.typing_rules.proofs.Sound.Later.{is_some_got, ready_later, alone_later, alone_no_reference, known_later, some_got, same_known}
use Rattle.typing_rules.proofs.Sound.Lets.{let_sound, in_parts_sound}
use Rattle.typing_rules.proofs.Sound.Literals.{literal_sound}
use Rattle.typing_rules.proofs.Sound.Matching.{if_let_alone_sound, if_let_else_sound, while_let_sound, arm_sound, match_sound}
use Rattle.typing_rules.proofs.Sound.Methods.{methods_found, method_sound, closure_call_sound}
use Rattle.typing_rules.proofs.Sound.Named.{ask_sound, function_sound, constructor_sound, unit_struct_sound}
use Rattle.typing_rules.proofs.Sound.OneName.{one_pattern_sound}
use Rattle.typing_rules.proofs.Sound.Operators.{or_cases, same_id, as_wanted, not_sound, negate_sound, arithmetic_sound, comparison_sound, and_sound, or_sound}
use Rattle.typing_rules.proofs.Sound.Parts.{field_sound, struct_member, part_member}
use Rattle.typing_rules.proofs.Sound.Places.{not_true, variable_sound, deref_sound, taken_sound, temporary_base}
use Rattle.typing_rules.proofs.Sound.References.{borrow_sound, passed_on_sound}
use Rattle.typing_rules.proofs.Sound.Structs.{struct_sound}
use Rattle.typing_rules.proofs.Sound.Written.{written_sound}
use Rattle.typing_soundness.specs.Shapes.{shaped, shaped_form, shaped_expression, all_shaped, maybe_shaped, is_block, no_self, self_first}
use Rattle.typing_soundness.proofs.Numbers.Rows.{found_in}
use Rattle.typing_rules.specs.Bodies.{all_rules}
use Rattle.typing_soundness.specs.Closures.{closures_of}
use Rattle.typing_soundness.proofs.Sound.Loops.{loop_sound}
use Rattle.typing_soundness.proofs.Sound.Names.{IsUnit, IsCallee, path_is, callee_is, target_there, found_there}
use Rattle.typing_soundness.proofs.Walking.Expressions.{typed_walks}

-- ---- one of two checks

gives_if : {A : Type 0} {s : TypingState} {Q : Fact A} (b : Bool) (p q : Check A) → (b ≡ true → Gives s Q (p s)) → (b ≡ false
    → Gives s Q (q s)) → Gives s Q ((if b then p else q) s)
gives_if true p q h k = h refl
gives_if false p q h k = k refl

-- what is broken in the end gives nothing
broken_ends : {A B : Type 0} {s : TypingState} {Q : Fact B} (rule : Rule) (at : Pos) (r : Result (A × TypingState) Broken) → Gives s
    Q (and_then r (λ _. breaks rule at))
broken_ends rule at (Ok a) = record { so = λ ready. tt }
broken_ends rule at (Err e) = record { so = λ ready. tt }

-- a borrow that is no argument for a reference gives nothing
borrow_alone_ends : {s : TypingState} {Q : Fact Node} (at : Pos) (unique : Bool) (expected : Option TyId) (r : Result (Node × TypingState)
    Broken) → Gives s Q (and_then r (rows.borrow_alone_end at unique expected))
borrow_alone_ends at unique expected (Err e) = record { so = λ ready. tt }
borrow_alone_ends {s} {Q} at unique expected (Ok a) = by (rows.agrees_borrow a.1.items unique (ty_of a.0) expected)
  where
    by : (b : Bool) → Gives s Q (and_then (obeys Rule.T03 at b a.1) (λ _. breaks Rule.T08 at))
    by true = record { so = λ ready. tt }
    by false = record { so = λ ready. tt }

abbrev SoundPlace : Env → Check Node → Type 0
SoundPlace env check = (s : TypingState) → Knows env s → Gives s (IsPlace env) (check s)

-- ---- paths

path_value_sound : (env : Env) (at : Pos) (v : PathValue) (expected : Option TyId) (s : TypingState) → (k : Knows env s) → IsUnit
    s.items env k.items v → Gives s (IsTemporary env expected) (typing.makes_unit at v expected s)
path_value_sound env at (Makes adt variant) expected s k is = unit_struct_sound env at adt variant is.0 expected s is.1 is.2 k
path_value_sound env at (IsBroken rule) expected s k is = gives_nothing rule at

path_alone_sound : (env : Env) (at : Pos) (first second : Option Word) → SoundTemporary env (typing.path_alone env at
    first second)
path_alone_sound env at first second expected s k =
    path_value_sound env at (path_value s.items env first second) expected s k (path_is s.items env k.items first second)

-- a variable that a path names is in scope
in_scope : (env : Env) (first second : Option Word) (x : NamedEntry) → typing.variable_of env first second ≡ Some x →
    Contains env.variables x
in_scope env (Some name) None x e = (found_in (λ (y : NamedEntry). bytes_eq y.name name) env.variables x e).1
in_scope env None None x e = absurd (none-some x e)
in_scope env (Some name) (Some second) x e = absurd (none-some x e)
in_scope env None (Some second) x e = absurd (none-some x e)

variable_taken : (env : Env) (at : Pos) (x : NamedEntry) → Contains env.variables x → Sound env (λ expected. variable_place at x
    >>= taken env expected)
variable_taken env at x has expected s k =
    bind (variable_sound env at x has s k) λ n t g d. taken_sound env expected n t (d t (grows_refl t)) d

path_by_sound : (env : Env) (at : Pos) (first second : Option Word) (x : Option NamedEntry) → ((y : NamedEntry) → x ≡ Some y →
    Contains env.variables y) → Sound env (typing.path_by env at first second x)
path_by_sound env at first second (Some x) has expected s k = variable_taken env at x (has x refl) expected s k
path_by_sound env at first second None has expected s k =
    weaker (IsValue env expected) (path_alone_sound env at first second expected s k) λ n w all g v. v.value

path_sound : (env : Env) (at : Pos) (first second : Option Word) → Sound env (typing.path env at first second)
path_sound env at first second =
    path_by_sound env at first second (typing.variable_of env first second) (in_scope env first second)

base_place : (env : Env) (at : Pos) (first second : Option Word) (x : Option NamedEntry) → is_some x ≡ true → ((y : NamedEntry) →
    x ≡ Some y → Contains env.variables y) → SoundPlace env (typing.variable_base env at first second x)
base_place env at first second (Some x) e has s k = variable_sound env at x (has x refl) s k
base_place env at first second None e has s k = absurd (false≢true e)

-- ---- calls

called_sound : (env : Env) (at : Pos) (count : ℕ) (callee : Check Node) (args : List TyId → Check Nodes) (c : Callee) →
    ((s : TypingState) → Knows env s → Gives s (IsValue env None) (callee s)) → SoundArgs env count args → (expected : Option
    TyId) (s : TypingState) → (k : Knows env s) → IsCallee s env k.items c → Gives s (IsTemporary env expected)
    (typing.called_by at count callee args c expected s)
called_sound env at count callee args (Function body is_drop head) good_c good expected s k is =
    subst (λ b. Gives s (IsTemporary env expected) (rows.call at (tree.Call body) head.result count head.params args (not b)
    expected s)) (sym is.1) (function_sound env at body head count args good expected s k is.0)
called_sound env at count callee args (Constructor adt variant tys) good_c good expected s k is =
    subst (λ ts. Gives s (IsTemporary env expected) ((interned (Ty.Adt adt) >>= (λ ty. rows.call at (rows.make adt variant)
    ty count ts args true expected)) s)) (sym is.2) (constructor_sound env at adt variant is.0 count args good expected s is.1
    k)
called_sound env at count callee args Prints good_c good expected s k is = print_sound env at count args good expected s k
called_sound env at count callee args Asks good_c good expected s k is = ask_sound env at count args good expected s k
called_sound env at count callee args Drops good_c good expected s k is = drop_sound env at count args good expected s k
called_sound env at count callee args Forgets good_c good expected s k is = forget_sound env at count args good expected s k
called_sound env at count callee args Boxes good_c good expected s k is = new_box_sound env at count args good expected s k
called_sound env at count callee args AValue good_c good expected s k is = closure_call_sound env at count callee args
    good_c good expected s k
called_sound env at count callee args (Unnamed rule) good_c good expected s k is = gives_nothing rule at
called_sound env at count callee args NoCallee good_c good expected s k is = broken_ends Rule.T13 at (args [] s)

-- ---- arguments

-- a value that is passed for a reference is of type `!`
value_passed : (c : Context) (param : TyId) (n : Node) → is_reference c.items param ≡ true → IsTrue (not (is_reference
    c.items (ty_of n))) → Holds (typed c Taken n) → IsTrue (fits c.items param (ty_of n)) → Holds (typed c (Passed
    param) n)
value_passed c param (node id at ty by form) is no_reference h f =
    (else_by (is_never c.items ty) (never (or_cases (is_same ty param) (is_never c.items ty) f)) h.0 f, h.1)
  where
    never : IsTrue (is_same ty param) ⊎ IsTrue (is_never c.items ty) → IsTrue (is_never c.items ty)
    never (inl same) =
        absurd (true≢false (sym is ∙ (ap (is_reference c.items) (sym (same_id ty param same)) ∙ not_true (is_reference
        c.items ty) no_reference)))
    never (inr h) = h

    else_by : (b : Bool) → IsTrue b → Holds (is_taken c ty by form) → IsTrue (fits c.items param ty) → Holds (if
        is_reference c.items param && not b then fact
        (is_borrow form && is_none by && is_same ty param) else
        both (is_taken c ty by form) (fact (fits c.items
        param ty)))
    else_by true e h f = go (is_reference c.items param)
      where
        go : (r : Bool) → Holds (if r && false then fact
            (is_borrow form && is_none by && is_same ty param)
            else both (is_taken c ty by form) (fact (fits
            c.items param ty)))
        go true = (h, f)
        go false = (h, f)
    else_by false e h f = absurd (let no_ : IsTrue false = e in cc)

value_argument : (env : Env) (param : TyId) (unique : Bool) (to : TyId) (s w : TypingState) (n : Node) → Grows s w →
    reference_of s.items param ≡ Some (unique, to) → IsValue env (Some param) w n → IsArgument env param w n
value_argument env param unique to s w n g is v =
    let known = some_got reference_in (type_at s.items param) (unique, to) is in
    record {
      holds = λ p stands. value_passed (at_spot w.items env.answer p) param n (ap is_some (same_known g.items
          reference_in param (known.0, known.1) ∙ is)) (alone_no_reference w.items (ty_of n) v.alone) (v.holds p stands)
          v.fit;
    }

passed_sound : (env : Env) (at : Pos) (by_value : Typer) (x : Option NamedEntry) → ((y : NamedEntry) → x ≡ Some y → Contains
    env.variables y) → Sound env by_value → SoundReferrer env (typing.passed at by_value x)
passed_sound env at by_value None has good param to unique s k is =
    weaker (IsArgument env param) (good (Some param) s k) λ n w all g v. value_argument env param unique to s w n g is v
passed_sound env at by_value (Some x) has good param to unique s k is =
    gives_if (is_reference s.items x.ty) (rows.passed_on at x param unique to) (by_value (Some param)) (λ e.
    passed_on_sound env at x (has x refl) param to unique s k is) (λ e. weaker (IsArgument env param) (good (Some param)
    s k) λ n w all g v. value_argument env param unique to s w n g is v)

-- ---- loops that are left

loop_in : (env : Env) (label : Option Word) → IsLoopOf env (jumps_to env.loops label)
loop_in env None a e = first env.loops e
  where
    first : (ls : List LabelledLoop) → innermost ls ≡ Some a → Contains ls a
    first [] e = absurd (none-some a e)
    first (l ∷ ls) e = (0, omega arith, same_Some l a e)
loop_in env (Some name) a e = (found_in (λ (b : LabelledLoop). labelled name b.label) env.loops a e).1

-- ---- statements

-- a statement, or nothing
record IsPart (env : Env) (w : TypingState) (done : Option Node × Bool × Env) : Type 0 where
  holds : (p : TypingSpot) → Stands env w p → (rest : Nodes) (behind : Context → Claim) → ((q : TypingSpot) → Stands done.2 w q →
      Holds (statements (at_spot w.items env.answer q) rest behind)) → Holds (statements (at_spot w.items env.answer p)
      (typing.with_statement done.0 rest) behind)
  ends : (rest : Nodes) → ends_in w.items (typing.with_statement done.0 rest) ≡ (done.1 || ends_in w.items rest)
  answer : done.2.answer ≡ env.answer

as_part : (env : Env) (w : TypingState) (done : Node × Bool × Env) → IsStatement env w done → IsPart env w (typing.a_statement
    done)
as_part env w done is = record { holds = is.holds; ends = is.ends; answer = is.answer }

join_parts : (env : Env) (w : TypingState) (n : Option Node × Bool × Env) (ns : Nodes × Bool × Env) → IsPart env w n →
    AreStatements n.2 w ns → AreStatements env w (typing.with_statement n.0 ns.0, n.1 || ns.1, ns.2)
join_parts env w n ns one more = record {
  holds = λ p stands behind then_.
      one.holds p stands ns.0 behind λ q inner. subst (λ a. Holds (statements (at_spot w.items a q) ns.0 behind))
      one.answer (more.holds q inner behind (λ r last. subst (λ a. Holds (behind (at_spot w.items a r))) (sym
      one.answer) (then_ r last)));
  ends = one.ends ns.0 ∙ ap (λ b. n.1 || b) more.ends;
  answer = more.answer ∙ one.answer;
}

declared_sound : (env : Env) (ty : MaybeSyn) → SoundDeclared (typing.declared env ty)
declared_sound env nothing s = given None λ ready w g t is. absurd (none-some t is)
declared_sound env (just ty) s =
    bind (written_sound (bodies.all_rules env) refl ty s) λ t u g d. given (Some t) λ ready w l v is. subst (IsAlone
    w.items) (same_Some t v is) (d w l)

-- ---- fields

field_there : (v : Variant) (name : Word) (n : ℕ) → field_named v name ≡ Some n → length v.field_names ≡ length v.fields
    → (ty : TyId) × (slice_get v.fields n ≡ Some ty)
field_there v name n h same =
    let f = found_there (bytes_eq name) v.field_names n h in
    is_some_got (slice_get v.fields n) (there v.field_names v.fields n f.0 f.1
    same)
  where
    there : (names : List Word) (tys : List TyId) (n : ℕ) (x : Word) → slice_get names n ≡ Some x → length names ≡
        length tys → IsTrue (is_some (slice_get tys n))
    there [] tys n x at same = absurd (none-some x at)
    there (y ∷ ys) [] n x at same = absurd (omega (arith, same))
    there (y ∷ ys) (ty ∷ tys) zero x at same = refl
    there (y ∷ ys) (ty ∷ tys) (suc n) x at same = there ys tys n x at (omega (arith, same))

one_init : (env : Env) (v : Variant) (name : Word) (w : TypingState) (n : Node) (fs : Fields) (given_ : Given) (o : Option ℕ)
    → field_named v name ≡ o → length v.field_names ≡ length v.fields → IsValue env (typing.field_want v o) w n →
    AreInits env v w fs given_ → AreInits env v w (a_field (typing.or_zero o) n fs) (o ∷ given_)
one_init env v name w n fs given_ None e same value rest = rest
one_init env v name w n fs given_ (Some m) e same value rest =
    let f = field_there v name m e same in
    ((refl, (f.0, f.1, subst (λ o. IsValue env o w n) f.1 value)), rest)

-- ---- parts

later_want : (wants : List (Option TyId)) (ty : TyId) → Contains (typing.other_wants wants) (Some ty) → Contains wants
    (Some ty)
later_want [] ty has = has
later_want (x ∷ xs) ty has = (suc has.0, omega (arith, has.1), has.2)

one_part : (env : Env) (w : TypingState) (n : Node) (wants : List (Option TyId)) → IsValue env (typing.first_want wants) w n →
    ((ty : TyId) → Contains wants (Some ty) → IsAlone w.items ty) → IsAlone w.items (typing.part_ty (typing.first_want
    wants) n) × ((p : TypingSpot) → Stands env w p → Holds (typed (at_spot w.items env.answer p) (Wanted (typing.part_ty
    (typing.first_want wants) n)) n))
one_part env w n [] v alone = (
  v.alone,
  λ p stands. as_wanted (at_spot w.items env.answer p) (ty_of n) n (v.holds p stands) (fits_self w.items
      (ty_of n)),
)
one_part env w n (None ∷ wants) v alone = (
  v.alone,
  λ p stands. as_wanted (at_spot w.items env.answer p) (ty_of n) n (v.holds p stands) (fits_self w.items
      (ty_of n)),
)
one_part env w n (Some ty ∷ wants) v alone =
    (alone ty (0, omega arith, refl), λ p stands. as_wanted (at_spot w.items env.answer p) ty n (v.holds p stands) v.fit)

no_more : (env : Env) (w : TypingState) (params : List TyId) → AreGiven env params w no_node
no_more env w [] = tt
no_more env w (ty ∷ tys) = tt

some_arm : (arms : Syns) → IsTrue (typing.has_one arms) → IsTrue (nat_lt 0 (count_of arms))
some_arm no_syn h = h
some_arm (a_syn first rest) h = lt-ltb 0 (suc (count_of rest)) (omega arith)

minus_sound : (env : Env) (at : Pos) (o : Option (ℕ × Option IntKind)) (operand : Typer) → Sound env operand →
    SoundTemporary env (typing.minus at o operand)
minus_sound env at (Some n) operand good = literal_sound env at true n.0 n.1
minus_sound env at None operand good = negate_sound env at operand good

-- ---- the recursion

-- where `self` stands nowhere, it stands nowhere but first
first_if_none : (params : Syns) → IsTrue (no_self params) → IsTrue (self_first params)
first_if_none no_syn h = refl
first_if_none (a_syn (syn at (AParam (SelfParam receiver))) rest) h = absurd (false≢true h)
first_if_none (a_syn (syn at _) rest) h = h

module _ (closures : (env : Env) (at : Pos) (captures params : Syns) (answer : MaybeSyn) (body : Syn) → IsTrue (is_block
    body) → IsTrue (self_first params) → ((inner : Env) → Sound inner (typing.typed inner body)) → SoundTemporary env (bodies.closure env at captures
    params answer (λ inner. typing.typed inner body))) where
  mutual
    pub typed_sound : (env : Env) (e : Syn) → Holds (shaped e) → Sound env (typing.typed env e)
    typed_sound env (syn at (AnExpression form)) h expected s k =
        gives_if (typing.is_place env form) (typing.place env at form >>= taken env expected) (typing.value env at form
        expected) (λ e. bind (place_sound env at form h e s k) λ n t g d. taken_sound env expected n t (d t (grows_refl t)) d) (λ
        e. weaker (IsValue env expected) (value_sound env at form h e expected s k) λ n w all g v. v.value)
    typed_sound env (syn at _) h expected s k = gives_nothing Rule.T20 at

    base_sound : (env : Env) (e : Syn) → Holds (shaped e) → SoundBase env (typing.base_of env e)
    base_sound env (syn at (AnExpression form)) h s k =
        gives_if (typing.is_place env form) (typing.place env at form) (typing.value env at form None) (λ e. weaker
        (IsBase env) (place_sound env at form h e s k) λ n w all g v. v.base) (λ e. weaker (IsBase env) (value_sound env
        at form h e None s k) λ n w all g v. temporary_base env None w n v)
    base_sound env (syn at _) h s k = gives_nothing Rule.T20 at

    place_sound : (env : Env) (at : Pos) (form : Expression) → Holds (shaped_expression form) → typing.is_place env form ≡ true →
        SoundPlace env (typing.place env at form)
    place_sound env at (Path first second) h e s k =
        base_place env at first second (typing.variable_of env first second) e (in_scope env first second) s k
    place_sound env at (FieldOf base name) h e s k =
        field_sound env at (struct_field name) (struct_member name) (typing.base_of env base) (base_sound env base h) s
        k
    place_sound env at (PartOf base n) h e s k =
        field_sound env at (numbered_part n) (part_member n) (typing.base_of env base) (base_sound env base h) s k
    place_sound env at (ElementOf base index) h e s k =
        element_sound env at (typing.base_of env base) (typing.typed env index) (base_sound env base h.0) (typed_sound
        env index h.1) s k
    place_sound env at (Star base) h e s k = deref_sound env at (typing.base_of env base) (base_sound env base h) s k
    place_sound env at (Parens (syn inner (AnExpression form))) h e s k =
        gives_if (typing.is_place env form) (typing.place env inner form) (typing.value env inner form None) (λ f.
        place_sound env inner form h f s k) (λ f. absurd (true≢false (sym e ∙ f)))
    place_sound env at _ h e s k = absurd (false≢true e)

    value_sound : (env : Env) (at : Pos) (form : Expression) → Holds (shaped_expression form) → typing.is_place env form ≡ false →
        SoundTemporary env (typing.value env at form)
    value_sound env at (Path first second) h e expected s k = path_alone_sound env at first second expected s k
    value_sound env at (Parens (syn inner (AnExpression form))) h e expected s k =
        gives_if (typing.is_place env form) (typing.place env inner form >>= taken env expected) (typing.value env inner
        form expected) (λ f. absurd (true≢false (sym f ∙ e))) (λ f. value_sound env inner form h f expected s k)
    value_sound env at (Parens (syn inner _)) h e expected s k = gives_nothing Rule.T20 inner
    value_sound env at (Literal n suffix) h e expected s k = literal_sound env at false n suffix expected s k
    value_sound env at (TruthLiteral b) h e expected s k = truth_sound env at b expected s k
    value_sound env at (Minus operand) h e expected s k =
        minus_sound env at (typing.literal_in operand) (typing.typed env operand) (typed_sound env operand h) expected s k
    value_sound env at (Bang operand) h e expected s k =
        not_sound env at (typing.typed env operand) (typed_sound env operand h) expected s k
    value_sound env at (Ampersand unique base) h e expected s k =
        borrow_alone_ends at unique expected ((typing.base_of env base >>= rows.no_reference) s)
    value_sound env at (Calculate operator left right) h e expected s k =
        arithmetic_sound env at operator (typing.is_plain left) (typing.typed env left) (typing.typed env right)
        (typed_sound env left h.0) (typed_sound env right h.1) expected s k
    value_sound env at (Compare operator left right) h e expected s k =
        comparison_sound env at operator (typing.is_plain left) (typing.typed env left) (typing.typed env right)
        (typed_sound env left h.0) (typed_sound env right h.1) expected s k
    value_sound env at (Both left right) h e expected s k =
        and_sound env at (typing.typed env left) (typing.typed env right) (typed_sound env left h.0) (typed_sound env
        right h.1) expected s k
    value_sound env at (Either left right) h e expected s k =
        or_sound env at (typing.typed env left) (typing.typed env right) (typed_sound env left h.0) (typed_sound env
        right h.1) expected s k
    value_sound env at (Store left right) h e expected s k =
        store_sound env at (typing.base_of env left) (typing.typed env right) (base_sound env left h.0) (typed_sound env
        right h.1) expected s k
    value_sound env at (CallOf callee args) h e expected s k =
        called_sound env (typing.call_place at (place_inside callee) (callee_of s.items env callee)) (count_of args)
        (typing.typed env callee None) (λ params. typing.typed_args env params args) (callee_of s.items env callee) (λ t. typed_sound env callee h.0 None t) (λ params t. args_sound env args h.1
        params t) expected s k (callee_is s env k.items callee h.0)
    value_sound env at (MethodOf receiver name args) h e expected s k =
        method_sound env at (method_named name) (count_of args) (typing.base_of env receiver) (λ params.
        typing.typed_args env params args) (methods_found name) (base_sound env receiver h.0) (λ params t. args_sound
        env args h.1 params t) expected s k
    value_sound env at (StructOf first second inits) h e expected s k =
        found Rule.T01 at (target_of s.items env first second) _ λ t is. struct_sound env at t.adt t.variant
        (typing.variant_of s.items t) (typing.typed_inits env (typing.variant_of s.items t) inits) (λ u. inits_sound env
        (typing.variant_of s.items t) inits h (k.items.named t.adt t.variant (typing.variant_of s.items t) (target_there
        s.items env k.items first second t is)) u) expected s (target_there s.items env k.items first second t is) k
    value_sound env at (TupleOf no_syn) h e expected s k = unit_sound env at expected s k
    value_sound env at (TupleOf (a_syn first rest)) h e expected s k =
        tuple_sound env at (suc (count_of rest)) (λ wants. typing.typed_parts env wants (a_syn first rest)) (λ wants t.
        parts_sound env (a_syn first rest) h wants t) expected s k
    value_sound env at (ArrayOf elements) h e expected s k =
        array_sound env at (count_of elements) (λ expected. typing.typed_elements env expected elements) (λ expected t.
        elements_sound env elements h expected t) expected s k
    value_sound env at (Braces statements tail) h e expected s k =
        block_sound env at (typing.typed_all env statements) (λ inner. typing.typed_maybe inner tail) (λ t. all_sound
        env statements h.0 t) (λ inner same expected t. maybe_sound inner tail h.1 expected t) expected s k
    value_sound env at (IfElse c body nothing) h e expected s k =
        if_alone_sound env at (typing.typed env c) (typing.typed env body) (typed_sound env c h.0) (typed_sound env body
        h.1.0) expected s k
    value_sound env at (IfElse c body (just otherwise)) h e expected s k =
        if_else_sound env at (typing.typed env c) (typing.typed env body) (typing.typed env otherwise) (typed_sound env
        c h.0) (typed_sound env body h.1.0) (typed_sound env otherwise h.1.1) expected s k
    value_sound env at (IfLetElse p scrutinee body nothing) h e expected s k =
        if_let_alone_sound env at (typing.base_of env scrutinee) (typing.matcher env p) (λ xs. typing.typed
        (with_variables xs env) body) (base_sound env scrutinee h.0) (matcher_sound env p) (λ xs. typed_sound
        (with_variables xs env) body h.1.0) expected s k
    value_sound env at (IfLetElse p scrutinee body (just otherwise)) h e expected s k =
        if_let_else_sound env at (typing.base_of env scrutinee) (typing.matcher env p) (λ xs. typing.typed
        (with_variables xs env) body) (typing.typed env otherwise) (base_sound env scrutinee h.0) (matcher_sound env p)
        (λ xs. typed_sound (with_variables xs env) body h.1.0) (typed_sound env otherwise h.1.1) expected s k
    value_sound env at (MatchOn scrutinee arms) h e expected s k =
        obeyed Rule.T20 at (typing.has_one arms) _ λ one. match_sound env at (typing.base_of env scrutinee) (λ e ty
        expected. typing.typed_arms env e ty expected arms) (base_sound env scrutinee h.0) (λ e ty expected t k ready. weaker (λ w
        ns. AreArms env e ty expected w ns.0 ns.1 × IsTrue (nat_lt 0 (well.count_of ns.0))) (arms_sound env arms h.1 e ty
        expected t k ready) λ ns w all g is. (is.0, subst (λ n. IsTrue (nat_lt 0 n)) (sym is.1) (some_arm arms one))) expected s
        k
    value_sound env at (LoopOf label body) h e expected s k =
        loop_sound (closures_of (all_rules env) body) env at label (λ a. typing.typed (within_loop a env) body) (λ a. typed_sound (within_loop a env) body
        h) (λ a expected. typed_walks (within_loop a env) body expected) expected s k
    value_sound env at (WhileOf label c body) h e expected s k =
        while_sound env at label (λ a. typing.typed (within_loop a env) c) (λ a. typing.typed (within_loop a env) body)
        (λ a. typed_sound (within_loop a env) c h.0) (λ a. typed_sound (within_loop a env) body h.1) expected s k
    value_sound env at (WhileLetOf label p scrutinee body) h e expected s k =
        while_let_sound env at label (λ a. typing.base_of (within_loop a env) scrutinee) (typing.matcher env p) (λ a xs.
        typing.typed (with_variables xs (within_loop a env)) body) (λ a. base_sound (within_loop a env) scrutinee h.0)
        (matcher_sound env p) (λ a xs. typed_sound (with_variables xs (within_loop a env)) body h.1) expected s k
    value_sound env at (BreakOf label v) h e expected s k =
        break_sound env at (jumps_to env.loops label) (typing.typed_maybe env v) (loop_in env label) (λ expected t.
        maybe_sound env v h expected t) expected s k
    value_sound env at (ContinueOf label) h e expected s k =
        continue_sound env at (jumps_to env.loops label) (loop_in env label) expected s k
    value_sound env at (ReturnOf v) h e expected s k =
        return_sound env at (typing.typed_maybe env v) (λ expected t. maybe_sound env v h expected t) expected s k
    value_sound env at (MoveOf captures params answer body) h e expected s k =
        closures env at captures params answer body h.0 (first_if_none params h.1.0) (λ inner. typed_sound inner body h.1.1) expected s k
    value_sound env at PanicOf h e expected s k = panic_sound env at expected s k
    value_sound env at _ h e expected s k = gives_nothing Rule.T20 at

    maybe_sound : (env : Env) (v : MaybeSyn) → Holds (maybe_shaped v) → SoundMaybe env (typing.typed_maybe env v)
    maybe_sound env nothing h expected s k = given absent λ ready w g. tt
    maybe_sound env (just e) h expected s k =
        bind (typed_sound env e h expected s k) λ n t g d. given (present n) λ ready w l. d w l

    all_sound : (env : Env) (es : Syns) → Holds (all_shaped es) → SoundStatements env (typing.typed_all env es)
    all_sound env no_syn h s k =
        given (no_node, false, env) λ ready w g. (
          record { holds = λ p stands behind then_. then_ p stands; ends = refl; answer = refl },
          knows_later env g k,
        )
    all_sound env (a_syn first rest) h s k =
        bind (statement_sound env first h.0 s k) λ n t g d. bind (all_sound n.2 rest h.1 t (d t (grows_refl t)).1) λ ns
        u i e. given (typing.with_statement n.0 ns.0, n.1 || ns.1, ns.2) λ ready w l. (
          join_parts env w n ns (d w (grows_trans i l)).0 (e w l).0,
          (e w l).1,
        )

    statement_sound : (env : Env) (e : Syn) → Holds (shaped e) → (s : TypingState) → Knows env s → Gives s (λ w done. IsPart
        env w done × Knows done.2 w) (typing.statement env e s)
    statement_sound env (syn at (AnExpression form)) h s k =
        bind (evaluate_sound env at false (λ expected. if typing.is_place env
        form then (typing.place env at form >>= taken env expected) else typing.value env at form expected) (λ expected t kt.
        gives_if (typing.is_place env form) (typing.place env at form >>= taken env expected) (typing.value env at form
        expected) (λ f. bind (place_sound env at form h f t kt) λ n u g d. taken_sound env expected n u (d u (grows_refl u)) d)
        (λ f. weaker (IsValue env expected) (value_sound env at form h f expected t kt) λ n w all g v. v.value)) s k) λ done t g
        d. given (typing.a_statement done) λ ready w l. (as_part env w done (d w l).0, (d w l).1)
    statement_sound env (syn at (AStatement form)) h s k = other_sound env at form h s k
    statement_sound env (syn at _) h s k = gives_nothing Rule.T20 at

    other_sound : (env : Env) (at : Pos) (form : Statement) → Holds (shaped_form (AStatement form)) → (s : TypingState) → Knows env s → Gives s
        (λ w done. IsPart env w done × Knows done.2 w) (typing.other_statement env at form s)
    other_sound env at (LetOf p ty initialiser) h s k =
        bind (let_sound env at (is_one_name s.items p) (typing.declared env ty) (typing.initialised env (is_one_name
        s.items p) (takes_any p) initialiser) (typing.matcher env p) s (declared_sound env ty) (initialised_sound env
        (is_one_name s.items p) (takes_any p) initialiser h) (one_pattern_sound env p s) k) λ done t g d. given
        (typing.a_statement done) λ ready w
        l. (as_part env w done (d w l).0, (d w l).1)
    other_sound env at (Semi e) h s k =
        bind (evaluate_sound env at true (typing.typed env e) (typed_sound env e h) s k) λ done t g d. given
        (typing.a_statement done) λ ready w l. (as_part env w done (d w l).0, (d w l).1)
    other_sound env at Empty h s k =
        given (None, false, env) λ ready w g. (
          record { holds = λ p stands rest behind on. on p stands; ends = λ rest. refl; answer = refl },
          knows_later env g k,
        )

    initialised_sound : (env : Env) (one any : Bool) (v : MaybeSyn) → Holds (maybe_shaped v) → SoundInitialiser env one
        (typing.initialised env one any v)
    initialised_sound env one any nothing h expected s k = given absent λ ready w g. tt
    initialised_sound env true any (just e) h expected s k =
        bind (typed_sound env e h expected s k) λ n t g d. given (present n) λ ready w l. d w l
    initialised_sound env false any (just e) h expected s k =
        bind (for_parts_sound env any e h expected s k) λ n t g d. given (present n) λ ready w l. d w l

    for_parts_sound : (env : Env) (any : Bool) (e : Syn) → Holds (shaped e) → (expected : Option TyId) (s : TypingState)
        → Knows env s → Gives s (IsInParts env expected) (typing.for_parts env any expected e s)
    for_parts_sound env any (syn at (AnExpression form)) h expected s k =
        gives_if (typing.is_place env form) (typing.place env at form >>= rows.place_for_parts env any expected)
        (typing.value env at form expected) (λ e. bind (place_sound env at form h e s k) λ n t g d. in_parts_sound env
        any
        expected n t (d t (grows_refl t)) d) (λ e. weaker (IsInParts env expected) (value_sound env at form h e
        expected s k) λ n w all g v.
        record {
          base = temporary_base env expected w n v;
          fit = v.value.fit;
          no_reference = alone_no_reference w.items (ty_of n) v.value.alone;
        })
    for_parts_sound env any (syn at _) h expected s k = gives_nothing Rule.T20 at

    args_sound : (env : Env) (args : Syns) → Holds (all_shaped args) → (params : List TyId) (s : TypingState) → Knows env s →
        ((ty : TyId) → Contains params ty → IsKnown s.items ty) → Gives s (IsGiven env params (count_of args))
        (typing.typed_args env params args s)
    args_sound env no_syn h params s k known = given no_node λ ready w g. record { are = no_more env w params; counted = refl }
    args_sound env (a_syn e es) h [] s k known =
        bind (typed_sound env e h.0 None s k) λ n t g d. bind (args_sound env es h.1 [] t (knows_later env g k) (λ ty
        has. absurd (omega (arith, has.1)))) λ ns u i f. given (a_node n ns) λ ready w l. record {
          are = (d w (grows_trans i l), (f w l).are);
          counted = ap suc (f w l).counted;
        }
    args_sound env (a_syn e es) h (param ∷ params) s k known =
        bind (argument_sound env param (typing.typed env e) (typing.by_reference env e) (typed_sound env e h.0)
        (by_reference_sound env e h.0) s k (known param (0, omega arith, refl))) λ n t g d. bind (args_sound env es h.1
        params t (knows_later env g k) (λ ty has. known_later g.items ty (known ty (
          suc has.0,
          omega (arith, has.1),
          has.2,
        )))) λ ns u i f. given (a_node n ns) λ ready w l. record {
          are = (d w (grows_trans i l), (f w l).are);
          counted = ap suc (f w l).counted;
        }

    by_reference_sound : (env : Env) (e : Syn) → Holds (shaped e) → SoundReferrer env (typing.by_reference env e)
    by_reference_sound env (syn at (AnExpression form)) h param to unique s k is =
        gives_if (typing.may_refer form) (typing.reference_form env at form param unique to) (if typing.is_place env
        form then (typing.place env at form >>= taken env (Some param)) else typing.value env at form (Some param)) (λ
        e. reference_sound env at form h param to unique s k is) (λ e. weaker (IsArgument env param) (gives_if {Q =
        IsValue env (Some param)} (typing.is_place env form) (typing.place env at form >>= taken env (Some param))
        (typing.value env at form (Some param)) (λ f. bind (place_sound env at form h f s k) λ n t g d. taken_sound env
        (Some param) n t (d t (grows_refl t)) d) (λ f. weaker (IsValue env (Some param)) (value_sound env at form h f
        (Some param) s k) λ n w all g v. v.value)) λ n w all g v. value_argument env param unique to s w n g is v)
    by_reference_sound env (syn at _) h param to unique s k is = gives_nothing Rule.T20 at

    reference_sound : (env : Env) (at : Pos) (form : Expression) → Holds (shaped_expression form) → SoundReferrer env
        (typing.reference_form env at form)
    reference_sound env at (Ampersand unique base) h param to is_unique s k is =
        borrow_sound env at unique (typing.base_of env base) (base_sound env base h) param to is_unique s k is
    reference_sound env at (Path first second) h param to unique s k is =
        passed_sound env at (typing.path env at first second) (typing.variable_of env first second) (in_scope env first
        second) (path_sound env at first second) param to unique s k is
    reference_sound env at (Parens inside) h param to unique s k is = by_reference_sound env inside h param to unique s
        k is
    reference_sound env at _ h param to unique s k is = gives_nothing Rule.T20 at

    inits_sound : (env : Env) (v : Variant) (inits : Syns) → Holds (all_shaped inits) → length v.field_names ≡ length
        v.fields → SoundInits env v (typing.typed_inits env v inits)
    inits_sound env v no_syn h same s k = given (no_field, []) λ ready w g. tt
    inits_sound env v (a_syn (syn at (AnInit name init)) rest) h same s k =
        bind (init_sound env at name init h.0 (typing.field_want v (field_named v name)) s k) λ n t g d. bind
        (inits_sound env v rest h.1 same t (knows_later env g k)) λ fs u i e. given (
          a_field (typing.or_zero
              (field_named v name)) n fs.0,
          field_named v name ∷ fs.1,
        ) λ ready w l. one_init env v name w n fs.0 fs.1
        (field_named v name) refl same (d w (grows_trans i l)) (e w l)
    inits_sound env v (a_syn (syn at _) rest) h same s k = gives_nothing Rule.T20 at

    init_sound : (env : Env) (at : Pos) (name : Word) (init : MaybeSyn) → Holds (maybe_shaped init) → Sound env
        (typing.init_value env at name init)
    init_sound env at name nothing h expected s k = path_sound env at (Some name) None expected s k
    init_sound env at name (just e) h expected s k = typed_sound env e h expected s k

    parts_sound : (env : Env) (parts : Syns) → Holds (all_shaped parts) → (wants : List (Option TyId)) (s : TypingState) →
        Knows env s → ((ty : TyId) → Contains wants (Some ty) → IsAlone s.items ty) → Gives s (λ w ps. AreParts env w
        ps.0 ps.1) (typing.typed_parts env wants parts s)
    parts_sound env no_syn h wants s k alone = given (no_node, []) λ ready w g. tt
    parts_sound env (a_syn e es) h wants s k alone =
        bind (typed_sound env e h.0 (typing.first_want wants) s k) λ n t g d. bind (parts_sound env es h.1
        (typing.other_wants wants) t (knows_later env g k) (λ ty has. alone_later g.items ty (alone ty (later_want wants
        ty has)))) λ ns u i f. given (a_node n ns.0, typing.part_ty (typing.first_want wants) n ∷ ns.1) λ ready w l. (
          one_part env w n wants (d w (grows_trans i l)) (λ ty has. alone_later (grows_trans g (grows_trans i l)).items
              ty (alone ty has)),
          f w l,
        )

    elements_sound : (env : Env) (elements : Syns) → Holds (all_shaped elements) → SoundElements env (count_of elements)
        (λ expected. typing.typed_elements env expected elements)
    elements_sound env no_syn h expected s k = given (no_node, []) λ ready w g. (tt, refl)
    elements_sound env (a_syn e es) h expected s k =
        bind (typed_sound env e h.0 expected s k) λ n t g d. bind (elements_sound env es h.1 expected t (knows_later env g k)) λ
        ns u i f. given (a_node n ns.0, ty_of n ∷ ns.1) λ ready w l. (
          ((d w (grows_trans i l), refl), (f w l).0),
          ap suc (f w l).1,
        )

    arms_sound : (env : Env) (arms : Syns) → Holds (all_shaped arms) → (e : PatternContext) (ty : TyId) (expected : Option TyId) (s
        : TypingState) → Knows env s → IsReady s.items ty → Gives s (λ w ns. AreArms env e ty expected w ns.0 ns.1 ×
        (well.count_of ns.0 ≡ count_of arms)) (typing.typed_arms env e ty expected arms s)
    arms_sound env no_syn h e ty expected s k ready = given (no_node, []) λ all w g. (tt, refl)
    arms_sound env (a_syn (syn at (AnArm p guard body)) rest) h e ty expected s k ready =
        bind (arm_sound env e ty (pattern env e ty p []) (λ xs. typing.typed_maybe (with_variables (in_guard xs) env)
        guard (Some bool)) (λ xs. typing.typed (with_variables xs env) body) (λ t r. matcher_sound env p e ty t r) (λ xs
        t. maybe_sound (with_variables (in_guard xs) env) guard h.0.0 (Some bool) t) (λ xs. typed_sound (with_variables
        xs env) body h.0.1) expected s k ready) λ n t g d. bind (arms_sound env rest h.1 e ty expected t (knows_later env g k)
        (ready_later g.items ty ready)) λ ns u i f. given (
          a_node n ns.0,
          ty_of n
              ∷ ns.1,
        ) λ all w l. (((d w (grows_trans i l), refl), (f w l).0), ap suc (f w l).1)
    arms_sound env (a_syn (syn at _) rest) h e ty expected s k ready = gives_nothing Rule.T20 at
