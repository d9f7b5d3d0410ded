-- What the rows of forms add to a walk, where what the checks of their parts add is known.
use Rattle.std.proofs.Common.{◌≡◌, ℕ, zero, suc, Bool, true, false, ◌&&◌, ◌||◌, ◌==◌, not, if◌then◌else◌, List, [], ◌∷◌, ◌++◌, length, drop, Option, Some, None, Ok, IsTrue, Contains, ◌⊎◌, inl, inr, refl, ap, sym, subst, ◌∙◌, arith, nat_le}
use Rattle.std.specs.Prelude.{option_and_then, is_some}
use Rattle.std.specs.List.{filter_map}
use Rattle.std.proofs.lemmas.Bool.{eqb-true}
use Rattle.std.proofs.lemmas.List.{append-nil}
use Rattle.std.proofs.lemmas.List.Elements.{Contains-append_cases}
use Rattle.std.specs.List.{cons_option}
use Rattle.typing_rules.proofs.Sound.Places.{contains_cases}
use Rattle.mir_base.specs.declared.int_kind.IntKind.{IntKind}
use Rattle.mir_base.specs.declared.operator.Cmp.{Cmp}
use Rattle.mir_base.specs.declared.operator.Math.{Math}
use Rattle.mir_base.specs.declared.place_in_text.Pos.{Pos}
use Rattle.mir_base.specs.declared.rule.Rule.{Rule}
use Rattle.mir_ty.specs.declared.def.Sig.{Sig}
use Rattle.mir_ty.specs.declared.ty.Ty.{Ty}
use Rattle.mir_ty.specs.declared.ty.TyId.{TyId}
use Rattle.mir_ty.specs.ItemTable.{ItemTable}
use Rattle.typed_tree.specs.declared.node.Use.{Use}
use Rattle.typed_tree.specs.Nodes.{nodes_of, nodes_in, nodes_among, nodes_of_fields, nodes_if_any}
use Rattle.typed_tree.specs.Tree as tree
use Rattle.typed_tree.specs.Tree.{Node, node, Form, Nodes, no_node, a_node, Fields, no_field, a_field, MaybeNode, absent, present, Deref, Break}
use Rattle.well_typed.specs.Nodes.{carried_by}
use Rattle.well_typed.specs.Patterns.{count_of}
use Rattle.well_typed.specs.Places.{ty_of, form_of, is_place}
use Rattle.well_typed.specs.Types.{inside_of, reference_of, is_reference, is_dyn, is_unit, is_never, is_same, fits, array_of, kind_of}
use Rattle.mir_ty.specs.Facts.{is_copy}
use Rattle.typing_rules.specs.Check.{Check, TypingState, ◌>>=◌, ◌>>◌, breaks, types_for}
use Rattle.typing_rules.specs.Places.{place_in_text, used, a_node_of, unit, bool, never, int, Fit, Fits, Coerced, Differs, fit, meaning_form, variable_place, Member, through_at, through_in, through, is_fixed, in_own_guard, is_behind_shared, wanted}
use Rattle.typing_rules.specs.Rows as rows
use Rattle.typing_rules.specs.Rows.{Typer, Referrer, Method, OfAdt, OfTrait, Matcher, PatternContext, Given, ty_carried, borrow_by, used_if_place}
use Rattle.typing_rules.specs.Scope.{Env, NamedEntry, LabelledLoop, VariableMeaning, Local, Capture, InGuard}
use Rattle.src_ast.specs.Syntax.{Word}
use Rattle.typing_rules.proofs.Sound.Fitted.{same_self}
use Rattle.typing_rules.proofs.Sound.Gives.{numbered}
use Rattle.typing_soundness.specs.Closures.{Tape}
use Rattle.typing_soundness.specs.Walks.{IsCarried, Walks, Walked, WalksNode}
use Rattle.typing_soundness.proofs.Walking.Later.{met_both}
use Rattle.typing_soundness.proofs.Walking.Adding.{Stays, met_none, ordered_both, ordered_of, walks_none, walks_both, walks_swapped, walks_node, walks_outer, walks_used, walks_used_if}
use Rattle.typing_soundness.proofs.Walking.Steps.{walk, walk_obeyed, walk_found, walk_ends, walk_nothing, SameWalk, on_same, walk_interned, fitted_when, walk_fitted, walk_settled}

-- what has no closures, and one part after another
abbrev pub no_closure : Tape
no_closure rest = rest

infixr 11 ◌⨾◌
abbrev pub ◌⨾◌ : Tape → Tape → Tape
f ⨾ g = λ rest. f (g rest)

abbrev pub WalksTyper : Tape → Typer → Type 0
WalksTyper f check = (expected : Option TyId) → WalksNode f (check expected)

abbrev pub WalksMaybe : Tape → (Option TyId → Check MaybeNode) → Type 0
WalksMaybe f check = (expected : Option TyId) (s : TypingState) → Walked (λ v t. Walks f s t (nodes_if_any v)) (check expected s)

-- the checks of so many arguments
abbrev pub WalksArgs : Tape → ℕ → (List TyId → Check Nodes) → Type 0
WalksArgs f count args = (params : List TyId) (s : TypingState) → Walked (λ ns t. Walks f s t (nodes_among ns) × (count_of ns ≡
    count)) (args params s)

abbrev pub WalksReferrer : Tape → Referrer → Type 0
WalksReferrer f check = (expected : TyId) (unique : Bool) (to : TyId) → WalksNode f (check expected unique to)

abbrev pub WalksMatcher : Matcher → Type 0
WalksMatcher check = (e : PatternContext) (ty : TyId) (s : TypingState) → Walked (λ b t. Walks no_closure s t (nodes_of b.0)) (check e ty s)

-- ---- leaves

pub leaf_walks : (at : Pos) (ty : TyId) (form : Form) → nodes_in form ≡ [] → WalksTyper no_closure (rows.leaf at ty form)
leaf_walks at ty form none expected s =
    walk_fitted expected (a_node_of s.next_node at ty form) (walks_node at ty None form (subst (λ ns. Walks no_closure (numbered s)
    (numbered s) ns) (sym none) (walks_none (numbered s))))

pub literal_walks : (at : Pos) (is_negative : Bool) (value : ℕ) (suffix : Option IntKind) → WalksTyper no_closure (rows.literal at
    is_negative value suffix)
literal_walks at is_negative value suffix expected s =
    walk_obeyed Rule.T03 at (not is_negative || rows.is_signed_kind (rows.chosen suffix (option_and_then (kind_of s.items) expected))) _ λ _.
    walk (walk_fitted expected _ (walks_node at _ None (tree.Number (rows.literal_value is_negative value)) (walks_none
    (numbered s)))) λ n u w. walk_obeyed Rule.T17 at (nat_le value (rows.most (rows.chosen suffix (option_and_then (kind_of s.items) expected)) is_negative)) _ λ _. walk_ends w

-- ---- places

meaning_nodes : (name : Word) (m : VariableMeaning) → nodes_in (meaning_form name m) ≡ []
meaning_nodes name (Local key) = refl
meaning_nodes name (Capture closure part) = refl
meaning_nodes name (InGuard key) = refl

pub variable_walks : (at : Pos) (x : NamedEntry) → WalksNode no_closure (variable_place at x)
variable_walks at x s =
    walk_ends (walks_node at x.ty None (meaning_form x.name x.meaning) (subst (λ ns. Walks no_closure (numbered s) (numbered s) ns)
    (sym (meaning_nodes x.name x.meaning)) (walks_none (numbered s))))

pub taken_walks : {f : Tape} (env : Env) (expected : Option TyId) (n : Node) {s t : TypingState} → Walks f s t (nodes_of n) → Walked
    (λ m u. Walks f s u (nodes_of m)) (rows.taken env expected n t)
taken_walks env expected n {t = t} w =
    walk (walk_fitted expected (used (rows.taking t.items (ty_of n)) n) (walks_used _ n w)) λ m u w.
    walk_obeyed Rule.T07 (place_in_text n) (is_copy t.items (ty_of n) || not (is_fixed t.items (in_own_guard env.variables) n || is_dyn t.items (ty_of n))) _ λ _. walk_obeyed Rule.T08 (place_in_text n) (not (is_reference t.items (ty_of n))) _ λ _. walk_ends w

-- what is no reference by itself
pub plain_walks : {f : Tape} {check : Check Node} → WalksNode f check → WalksNode f (check >>= rows.no_reference)
plain_walks good s = walk (good s) λ n t w. walk_obeyed Rule.T08 (place_in_text n) (not (is_reference t.items (ty_of n))) _ λ _. walk_ends w

module _ {A : Type 0} (member : Member A) (at : Pos) where
  abbrev Found : Tape → TypingState → Node × Option A → TypingState → Type 0
  Found f s r u = Walks f s u (nodes_of r.0)

  through_in_walks : {f : Tape} (n : ℕ) (items : ItemTable) (base : Node) {s t : TypingState} → Walks f s t (nodes_of base) →
      Walked (Found f s) (through_in member at n items base t)
  through_in_walks zero items base w = walk_ends w
  through_in_walks {f} (suc n) items base {s} {t} w =
      by (λ ty. through_in_walks n items (a_node_of t.next_node at ty (Deref base)) (walks_outer at ty None (Deref base)
      w)) (member items (ty_of base)) (inside_of items (ty_of base))
    where
      by : ((ty : TyId) → Walked (Found f s) (through_in member at n items (a_node_of t.next_node at ty (Deref base))
          (numbered t))) → (a : Option A) (o : Option TyId) → Walked (Found f s) (through_at member at (through_in member
          at n items) base a o t)
      by on (Some found) o = walk_ends w
      by on None None = walk_ends w
      by on None (Some ty) = on ty

  pub through_walks : {f : Tape} (base : Node) {s t : TypingState} → Walks f s t (nodes_of base) → Walked (Found f s) (through
      member at base t)
  through_walks base {t = t} w = through_in_walks (suc (length t.items.types)) t.items base w

pub field_walks : {f : Tape} (at : Pos) (member : ItemTable → TyId → Option (ℕ × TyId)) (base : Check Node) → WalksNode f base →
    WalksNode f (rows.field at member base)
field_walks at member base good s =
    walk (good (numbered s)) λ b t w. walk (through_walks member at b w) λ r u w. walk_found Rule.T12 at r.1 _ λ f is.
    walk_ends (walks_node at f.1 None (tree.Field r.0 f.0) w)

pub deref_walks : {f : Tape} (at : Pos) (base : Check Node) → WalksNode f base → WalksNode f (rows.deref at base)
deref_walks at base good s =
    walk (good (numbered s)) λ b t w. walk_found Rule.T03 at (inside_of t.items (ty_of b)) _ λ ty is. walk_ends
    (walks_node at ty None (Deref b) w)

pub element_walks : {f g : Tape} (at : Pos) (base : Check Node) (index : Typer) → WalksNode f base → WalksTyper g index → WalksNode (f ⨾ g) (rows.element at base index)
element_walks at base index good good_i s =
    walk (plain_walks good (numbered s)) λ b t w. walk (good_i (Some (int IntKind.Usize)) t) λ i u v. walk_found
    Rule.T03 at (array_of u.items (ty_of b)) _ λ a is. walk_ends (walks_node at a.0 None (tree.Index b i a.1) (walks_both w v))

-- ---- operators

pub not_walks : {f : Tape} (at : Pos) (operand : Typer) → WalksTyper f operand → WalksTyper f (rows.not_row at operand)
not_walks at operand good expected s =
    walk (good None (numbered s)) λ n t w. walk_obeyed Rule.T03 at (fits t.items bool (ty_of n)) _ λ _. walk_fitted expected _ (walks_node at bool None
    (tree.Not n) w)

pub negate_walks : {f : Tape} (at : Pos) (operand : Typer) → WalksTyper f operand → WalksTyper f (rows.negate at operand)
negate_walks at operand good expected s =
    walk (good _ (numbered s)) λ n t w. walk_obeyed Rule.T03 at (is_same (ty_of n) (int IntKind.I32) || is_same (ty_of n) (int IntKind.I64)) _ λ _. walk_fitted expected _ (walks_node at (ty_of n)
    None (tree.Negate n) w)

-- a plain number has no closures, so it is the same which of two operands comes first
pub operands_walk : {f g : Tape} (is_literal : Bool) (expected : Option TyId) (left right : Typer) → (IsTrue is_literal → f ≡
    no_closure) → WalksTyper f left → WalksTyper g right → (s : TypingState) → Walked (λ (b : Node × Node) t. Walks (f ⨾ g) s t
    (nodes_of b.0 ++ nodes_of b.1)) (rows.operands is_literal expected left right s)
operands_walk {f} {g} true None left right alone good_l good_r s =
    walk (good_r None s) λ r t w. walk (good_l (rows.unless_never t.items (ty_of r)) t) λ l u v. walk_ends (subst (λ h.
    Walks h s u (nodes_of l ++ nodes_of r)) (either_first (alone refl)) (walks_swapped w v))
  where
    either_first : f ≡ no_closure → (g ⨾ f) ≡ (f ⨾ g)
    either_first e = (λ i rest. g (e i rest)) ∙ sym (λ i rest. e i (g rest))
operands_walk true (Some ty) left right alone good_l good_r s =
    walk (good_l (Some ty) s) λ l t w. walk (good_r (rows.if_int t.items (ty_of l)) t) λ r u v. walk_ends (walks_both w
    v)
operands_walk false expected left right alone good_l good_r s =
    walk (good_l expected s) λ l t w. walk (good_r (rows.if_int t.items (ty_of l)) t) λ r u v. walk_ends (walks_both w v)

pub arithmetic_walks : {f g : Tape} (at : Pos) (operator : Math) (is_literal : Bool) (left right : Typer) → (IsTrue is_literal → f ≡ no_closure) → WalksTyper f left →
    WalksTyper g right → WalksTyper (f ⨾ g) (rows.arithmetic at operator is_literal left right)
arithmetic_walks at operator is_literal left right alone good_l good_r expected s =
    walk (operands_walk is_literal _ left right alone good_l good_r (numbered s)) λ b t w. walk_found Rule.T03 at (option_and_then (rows.if_int t.items) (rows.one_of_two t.items (ty_of b.0) (ty_of b.1))) _ λ ty is.
    walk_fitted expected _ (walks_node at ty None (tree.Arithmetic operator b.0 b.1) w)

pub comparison_walks : {f g : Tape} (at : Pos) (operator : Cmp) (is_literal : Bool) (left right : Typer) → (IsTrue is_literal → f ≡ no_closure) → WalksTyper f left →
    WalksTyper g right → WalksTyper (f ⨾ g) (rows.comparison at operator is_literal left right)
comparison_walks at operator is_literal left right alone good_l good_r expected s =
    walk (operands_walk is_literal None left right alone good_l good_r (numbered s)) λ b t w. walk_found Rule.T03 at (option_and_then (rows.int_or_bool t.items) (rows.one_of_two t.items (ty_of b.0) (ty_of b.1))) _ λ ty
    is. walk_fitted expected _ (walks_node at bool None (tree.Comparison operator b.0 b.1) w)

pub and_walks : {f g : Tape} (at : Pos) (left right : Typer) → WalksTyper f left → WalksTyper g right → WalksTyper (f ⨾ g) (rows.logic at
    tree.And left right)
and_walks at left right good_l good_r expected s =
    walk (good_l None (numbered s)) λ l t w. walk (good_r None t) λ r u v. walk_obeyed Rule.T03 at (fits u.items bool (ty_of l) && fits u.items bool (ty_of r)) _ λ _. walk_fitted
    expected _ (walks_node at bool None (tree.And l r) (walks_both w v))

pub or_walks : {f g : Tape} (at : Pos) (left right : Typer) → WalksTyper f left → WalksTyper g right → WalksTyper (f ⨾ g) (rows.logic at tree.Or
    left right)
or_walks at left right good_l good_r expected s =
    walk (good_l None (numbered s)) λ l t w. walk (good_r None t) λ r u v. walk_obeyed Rule.T03 at (fits u.items bool (ty_of l) && fits u.items bool (ty_of r)) _ λ _. walk_fitted
    expected _ (walks_node at bool None (tree.Or l r) (walks_both w v))

pub store_walks : {f g : Tape} (env : Env) (at : Pos) (place : Check Node) (value : Typer) → WalksNode f place → WalksTyper g value →
    WalksTyper (f ⨾ g) (rows.store env at place value)
store_walks env at place value good good_v expected s =
    walk (plain_walks good (numbered s)) λ p t w. walk (good_v (Some (ty_of p)) t) λ v u w'. walk_obeyed Rule.T03 at (not (is_dyn u.items (ty_of p))) _ λ _. walk (walk_fitted expected _ (walks_node at unit None (tree.Assign (used Use.Store p) v) (walks_both (walks_used
    Use.Store p w) w'))) λ n x w. walk_obeyed Rule.T05 at (is_place (form_of p) && not (rows.own_in (in_own_guard env.variables) (form_of p))) _ λ _. walk_obeyed Rule.T08 (place_in_text p) (not (is_behind_shared u.items p)) _ λ _.
    walk_ends w

-- ---- references

pub borrow_walks : {f : Tape} (at : Pos) (unique : Bool) (base : Check Node) → WalksNode f base → WalksReferrer f (rows.borrow at unique
    base)
borrow_walks at unique base good expected is_unique to s =
    walk (plain_walks good (numbered s)) λ b t w. walk_obeyed Rule.T03 at (is_same (ty_of b) to && rows.is_same_truth unique is_unique) _ λ _. walk_obeyed Rule.T08 (place_in_text
    b) (not (unique && is_behind_shared t.items b)) _ λ _. walk_interned (rows.reference_ty unique (ty_of b)) t λ ty u e. walk_ends (walks_node at ty None (tree.Borrow unique (used_if_place
    (borrow_by unique) b)) (on_same e (walks_used_if (borrow_by unique) b w)))

pub passed_on_walks : (at : Pos) (x : NamedEntry) → WalksReferrer no_closure (rows.passed_on at x)
passed_on_walks at x expected unique to s =
    walk_obeyed Rule.T03 at (rows.passes unique to (reference_of s.items x.ty)) _ λ _. walk {f = λ v. rows.borrow_of
    s.next_node at unique (a_node_of (suc s.next_node) at to (Deref v))} (variable_walks at x (numbered (numbered s))) λ
    v t w. walk_interned (rows.reference_ty unique to) t λ ty u e. walk_ends (walks_node at ty None (tree.Borrow unique (used (borrow_by unique) (a_node_of (suc s.next_node) at
    to (Deref v)))) (on_same e (walks_used (borrow_by unique) (a_node_of (suc s.next_node) at to (Deref v)) (walks_node
    at to None (Deref v) w))))

pub argument_walks : {f : Tape} (param : TyId) (by_value : Typer) (by_reference : Referrer) → WalksTyper f by_value → WalksReferrer f by_reference → WalksNode f (rows.argument param by_value by_reference)
argument_walks {f} param by_value by_reference good_v good_r s = by (reference_of s.items param)
  where
    by : (o : Option (Bool × TyId)) → Walked (λ n t. Walks f s t (nodes_of n)) (rows.argument_by param by_value
        by_reference o s)
    by None = good_v (Some param) s
    by (Some r) = good_r param r.0 r.1 s

-- ---- calls

pub call_walks : {f : Tape} (at : Pos) (form : Nodes → Form) (answer : TyId) (count : ℕ) (params : List TyId) (args : List TyId →
    Check Nodes) (may : Bool) → ((ns : Nodes) → nodes_in (form ns) ≡ nodes_among ns) → WalksArgs f count args →
    WalksTyper f (rows.call at form answer count params args may)
call_walks {f} at form answer count params args may same good expected s =
    walk (good params (numbered s)) λ ns t w. walk (walk_fitted expected _ (walks_node at answer None (form ns) (subst (λ
    xs. Walks f (numbered s) t xs) (sym (same ns)) w.0))) λ n u w. walk_obeyed Rule.T04 at (count == length params) _ λ _. walk_obeyed Rule.T13
    at may _ λ _. walk_ends w

pub no_call_walks : {f : Tape} (at : Pos) (rule : Rule) (args : List TyId → Check Nodes) → WalksTyper f (rows.no_call at rule args)
no_call_walks at rule args expected s = walk_nothing rule at (args [] s)

made_nodes : (k : ℕ) (ns : Nodes) → nodes_of_fields (rows.numbered_fields k ns) ≡ nodes_among ns
made_nodes k no_node = refl
made_nodes k (a_node first rest) = ap (λ xs. nodes_of first ++ xs) (made_nodes (suc k) rest)

pub make_walks : {f : Tape} (at : Pos) (adt variant : ℕ) (ty : TyId) (count : ℕ) (types : List TyId) (args : List TyId → Check
    Nodes) → WalksArgs f count args → WalksTyper f (rows.call at (rows.make adt variant) ty count types args true)
make_walks at adt variant ty count types args good =
    call_walks at (rows.make adt variant) ty count types args true (λ ns. made_nodes 0 ns) good

method_nodes : (m : Method) (receiver : Node) (args : Nodes) → nodes_in (rows.method_form m receiver args) ≡ nodes_of
    receiver ++ nodes_among args
method_nodes (OfAdt body is_drop head) receiver args = refl
method_nodes (OfTrait trait_no method head) receiver args = refl

received_walks : {f : Tape} (env : Env) (at : Pos) (base : Node) (self : TyId) {s t : TypingState} → Walks f s t (nodes_of
    base) → Walked (λ n u. Walks f s u (nodes_of n)) (rows.received env at base self t)
received_walks {f} env at base self {s} {t} w = by (reference_of t.items self)
  where
    if_place : (b : Bool) → Walked (λ n u. Walks f s u (nodes_of n)) ((if b then rows.taken env None base else (λ v. Ok
        (base, v))) t)
    if_place true = taken_walks env None base w
    if_place false = walk_ends w

    by : (o : Option (Bool × TyId)) → Walked (λ n u. Walks f s u (nodes_of n)) (rows.received_by env at base o t)
    by None = if_place (is_place (form_of base))
    by (Some r) =
        walk_interned (rows.reference_ty r.0 (ty_of base)) (numbered t) λ ty u e. walk_ends (on_same e (walks_outer at ty None (tree.Borrow r.0
        (used_if_place (borrow_by r.0) base)) (walks_used_if (borrow_by r.0) base w)))

pub method_walks : {f g : Tape} (env : Env) (at : Pos) (named : ItemTable → TyId → Option Method) (count : ℕ) (receiver : Check Node)
    (args : List TyId → Check Nodes) → WalksNode f receiver → WalksArgs g count args → WalksTyper (f ⨾ g) (rows.method_call env at
    named count receiver args)
method_walks {f} {g} env at named count receiver args good_r good expected s =
    walk (good_r (numbered s)) λ b t w. walk (through_walks named (place_in_text b) b w) λ r u w. by r.0 r.1 u w
  where
    R : Node → TypingState → Type 0
    R n t = Walks (f ⨾ g) s t (nodes_of n)

    with_self : (base : Node) (m : Method) (params : List TyId) (u : TypingState) → Walks f (numbered s) u (nodes_of base) →
        Walked R (rows.with_self env at s.next_node base m count args expected params u)
    with_self base m [] u w = walk_nothing Rule.T12 at (args [] u)
    with_self base m (self ∷ params) u w =
        walk (received_walks env (place_in_text base) base self w) λ receiver t w. walk (good params t) λ ns v x. walk (walk_fitted expected
        (a_node_of s.next_node at (rows.head_of m).result (rows.method_form m receiver ns)) (walks_node at
        (rows.head_of m).result None (rows.method_form m receiver ns) (subst (λ xs. Walks (f ⨾ g) (numbered s) v xs) (sym
        (method_nodes m receiver ns)) (walks_both w x.0)))) λ n y w. walk_obeyed Rule.T04 at (count == length params) _ λ _. walk_obeyed
        Rule.T08 (place_in_text base) (not (rows.is_unique_borrow (form_of receiver) && is_behind_shared v.items base)) _ λ _. walk_obeyed Rule.T13 at (not (rows.is_drop_method m)) _ λ _. walk_ends w

    if_takes : (base : Node) (m : Method) (u : TypingState) → Walks f (numbered s) u (nodes_of base) → (b : Bool) → Walked R
        ((if b then rows.with_self env at s.next_node base m count args expected (rows.head_of m).params else (args [] >>
        breaks Rule.T12 at)) u)
    if_takes base m u w true = with_self base m (rows.head_of m).params u w
    if_takes base m u w false = walk_nothing Rule.T12 at (args [] u)

    by : (base : Node) (o : Option Method) (u : TypingState) → Walks f (numbered s) u (nodes_of base) → Walked R
        (rows.with_method env at s.next_node base o count args expected u)
    by base None u w = walk_nothing Rule.T12 at (args [] u)
    by base (Some m) u w = if_takes base m u w (rows.has_self env m && rows.takes_self u.items (ty_of base) (rows.head_of m).params)

pub closure_call_walks : {f g : Tape} (at : Pos) (count : ℕ) (callee : Check Node) (args : List TyId → Check Nodes) → WalksNode f callee → WalksArgs g count args → WalksTyper (f ⨾ g) (rows.closure_call at count callee args)
closure_call_walks {f} {g} at count callee args good_c good expected s =
    walk (good_c (numbered s)) λ c t w. by c t w _ _
  where
    by : (c : Node) (t : TypingState) → Walks f (numbered s) t (nodes_of c) → (body : ℕ) (o : Option Sig) → Walked (λ n u. Walks
        (f ⨾ g) s u (nodes_of n)) (rows.with_closure at s.next_node c count args expected body o t)
    by c t w body None = walk_nothing Rule.T13 at (args [] t)
    by c t w body (Some head) =
        walk (good (drop 1 head.params) t) λ ns u x. walk (walk_fitted expected _ (walks_node at head.result None
        (tree.ClosureCall body c ns) (walks_both w x.0))) λ n y w. walk_obeyed Rule.T04 at (count == length (drop 1 head.params)) _ λ _. walk_ends w

-- ---- built-in calls

one_alone : (ns : Nodes) (form : Node → Form) → ((n : Node) → nodes_in (form n) ≡ nodes_of n) → count_of ns ≡ 1 →
    nodes_in (rows.with_one ns form) ≡ nodes_among ns
one_alone no_node form same e = absurd (omega (arith, e))
one_alone (a_node first no_node) form same e = same first ∙ sym (append-nil (nodes_of first))
one_alone (a_node first (a_node second rest)) form same e = absurd (by (count_of rest) e)
  where
    by : (n : ℕ) → suc (suc n) ≡ 1 → ⊥
    by n h = omega (arith, h)

none_given : (ns : Nodes) → count_of ns ≡ 0 → nodes_among ns ≡ []
none_given no_node e = refl
none_given (a_node first rest) e = absurd (by (count_of rest) e)
  where
    by : (n : ℕ) → suc n ≡ 0 → ⊥
    by n h = omega (arith, h)

pub built_in_walks : {f : Tape} (at : Pos) (answer : TyId) (form : Nodes → Form) (count wants : ℕ) (params : List TyId) (args :
    List TyId → Check Nodes) → ((ns : Nodes) → count_of ns ≡ wants → nodes_in (form ns) ≡ nodes_among ns) → WalksArgs f count args → WalksTyper f (rows.built_in at answer form count wants (args params))
built_in_walks {f} at answer form count wants params args same good expected s =
    walk (good params (numbered s)) λ ns t w. walk (fitted_when {C = IsTrue (count == wants)} expected (a_node_of
    s.next_node at answer (form ns)) (λ c. walks_node at answer None (form ns) (subst (λ xs. Walks f (numbered s) t xs)
    (sym (same ns (w.1 ∙ eqb-true count wants c))) w.0))) λ n u w. walk_obeyed Rule.T04 at (count == wants) _ λ c.
    walk_ends (w c)

pub print_walks : {f : Tape} (at : Pos) (count : ℕ) (params : List TyId) (args : List TyId → Check Nodes) → WalksArgs f count args →
    WalksTyper f (rows.built_in at unit rows.print_form count 1 (args params))
print_walks at count params args good =
    built_in_walks at unit rows.print_form count 1 params args (λ ns e. one_alone ns tree.Print (λ n. refl) e) good

pub drop_walks : {f : Tape} (at : Pos) (count : ℕ) (params : List TyId) (args : List TyId → Check Nodes) → WalksArgs f count args →
    WalksTyper f (rows.built_in at unit rows.drop_form count 1 (args params))
drop_walks at count params args good =
    built_in_walks at unit rows.drop_form count 1 params args (λ ns e. one_alone ns tree.DropValue (λ n. refl) e) good

pub forget_walks : {f : Tape} (at : Pos) (count : ℕ) (params : List TyId) (args : List TyId → Check Nodes) → WalksArgs f count args →
    WalksTyper f (rows.built_in at unit rows.forget_form count 1 (args params))
forget_walks at count params args good =
    built_in_walks at unit rows.forget_form count 1 params args (λ ns e. one_alone ns tree.Forget (λ n. refl) e) good

pub ask_walks : {f : Tape} (at : Pos) (count : ℕ) (params : List TyId) (args : List TyId → Check Nodes) → WalksArgs f count args →
    WalksTyper f (rows.built_in at (int IntKind.I32) rows.ask_form count 0 (args params))
ask_walks at count params args good =
    built_in_walks at (int IntKind.I32) rows.ask_form count 0 params args (λ ns e. sym (none_given ns e)) good

pub new_box_walks : {f : Tape} (at : Pos) (count : ℕ) (args : List TyId → Check Nodes) → WalksArgs f count args → WalksTyper f (rows.new_box at count args)
new_box_walks {f} at count args good expected s =
    walk (good _ (numbered s)) λ ns t w. by ns t (w.1) w.0 (wanted rows.box_wanted s.items expected)
  where
    by : (ns : Nodes) (t : TypingState) → count_of ns ≡ count → Walks f (numbered s) t (nodes_among ns) → (content : Option
        TyId) → Walked (λ n u. Walks f s u (nodes_of n)) (rows.box_by at s.next_node count expected content (rows.first_node
        ns) t)
    by no_node t e w content = record { so = tt }
    by (a_node first rest) t e w content =
        walk_interned (Ty.Boxed (rows.part_ty content first)) t λ ty u same. walk (fitted_when {C = IsTrue (count == 1)} expected (a_node_of s.next_node at ty
        (tree.NewBox first)) (λ c. walks_node at ty None (tree.NewBox first) (on_same same (subst (λ xs. Walks f (numbered
        s) t xs) (sym (one_alone (a_node first rest) tree.NewBox (λ n. refl) (e ∙ eqb-true count 1 c))) w)))) λ n x w.
        walk_obeyed Rule.T04 at (count == 1) _ λ c. walk_ends (w c)

-- ---- constructors

pub struct_walks : {f : Tape} (at : Pos) (adt variant : ℕ) (types : List TyId) (fields : Check (Fields × Given)) → ((s : TypingState) →
    Walked (λ fs t. Walks f s t (nodes_of_fields fs.0)) (fields s)) → WalksTyper f (rows.struct_row at adt variant types
    fields)
struct_walks at adt variant types fields good expected s =
    walk_interned (Ty.Adt adt) (numbered s) λ ty t e. walk (good t) λ fs u w. walk (walk_fitted expected _ (walks_node at ty
    None (tree.Make adt variant fs.0) (walks_both (on_same e (walks_none (numbered s))) w))) λ n x w. walk_obeyed
    Rule.T04 at (rows.all_given (length types) fs.1 && length fs.1 == length types) _ λ _. walk_obeyed Rule.T12 at (rows.are_known fs.1) _ λ _. walk_ends w

pub tuple_walks : {f : Tape} (at : Pos) (count : ℕ) (parts : List (Option TyId) → Check (Nodes × List TyId)) → ((wants : List
    (Option TyId)) (s : TypingState) → Walked (λ ps t. Walks f s t (nodes_among ps.0)) (parts wants s)) → WalksTyper f (rows.tuple_row at count parts)
tuple_walks at count parts good expected s =
    walk (good _ (numbered s)) λ ps t w. walk_interned (Ty.Tuple ps.1) t λ ty u e. walk (walk_fitted expected _ (walks_node at ty None
    (tree.Tuple ps.0) (on_same e w))) λ n x w. walk_obeyed Rule.T19 at (nat_le count 12) _ λ _. walk_ends w

pub array_walks : {f : Tape} (at : Pos) (count : ℕ) (elements : Option TyId → Check (Nodes × List TyId)) → ((expected : Option TyId) (s
    : TypingState) → Walked (λ ps t. Walks f s t (nodes_among ps.0)) (elements expected s)) → WalksTyper f (rows.array_row at count
    elements)
array_walks at count elements good expected s =
    walk (good _ (numbered s)) λ ps t w. walk_found Rule.T03 at (rows.element_ty t.items (wanted rows.element_wanted s.items expected) ps.1) _ λ el is. walk_obeyed Rule.T16 at (is_some expected || not (count == 0)) _ λ _.
    walk_interned (Ty.Array el count) t λ ty u e. walk (walk_fitted expected _ (walks_node at ty None (tree.Array ps.0) (on_same e w))) λ n x
    w. walk_obeyed Rule.T19 at (nat_le count 32) _ λ _. walk_ends w

-- ---- blocks and branches

settle : {f : Tape} (s : TypingState) (expected : Option TyId) (at : Pos) (ty : TyId) (form : Form) {t : TypingState} → Walks f (numbered
    s) t (nodes_in form) → Walked (λ m u. Walks f s u (nodes_of m)) (rows.settled expected (a_node_of s.next_node at ty form) t)
settle s expected at ty form w = walk_settled expected (a_node_of s.next_node at ty form) (walks_node at ty None form w)

pub block_walks : {f g : Tape} (P : Env → Type 0) (at : Pos) (check : Check (Nodes × Bool × Env)) (tail : Env → Option TyId → Check MaybeNode) → ((s :
    TypingState) → Walked (λ done t. Walks f s t (nodes_among done.0) × P done.2) (check s)) → ((inner : Env) → P inner → WalksMaybe g
    (tail inner)) →
    WalksTyper (f ⨾ g) (rows.block at check tail)
block_walks P at check tail good good_t expected s =
    walk (good (numbered s)) λ done t w. walk (good_t done.2 w.1 expected t) λ v u x. settle s expected at (rows.block_ty v done.1)
    (tree.Block done.0 v) (walks_both w.0 x)

nothing_more : {f : Tape} {s t : TypingState} {xs : List Node} → Walks f s t xs → Walks f s t (xs ++ [])
nothing_more {f} {s} {t} {xs} w = subst (λ ns. Walks f s t ns) (sym (append-nil xs)) w

pub if_alone_walks : {f g : Tape} (at : Pos) (c body : Typer) → WalksTyper f c → WalksTyper g body → WalksTyper (f ⨾ g) (rows.if_alone at c body)
if_alone_walks at c body good_c good_b expected s =
    walk (good_c (Some bool) (numbered s)) λ n t w. walk (good_b (Some unit) t) λ b u x. settle s expected at unit (tree.If n b absent) (nothing_more (walks_both w x))

pub if_else_walks : {f g h : Tape} (at : Pos) (c body otherwise : Typer) → WalksTyper f c → WalksTyper g body → WalksTyper h otherwise →
    WalksTyper (f ⨾ g ⨾ h) (rows.if_else at c body otherwise)
if_else_walks at c body otherwise good_c good_b good_o expected s =
    walk (good_c (Some bool) (numbered s)) λ n t w. walk (good_b expected t) λ b u x. walk (good_o expected u) λ o v y.
    walk_found Rule.T03 at (rows.one_of_two v.items (ty_of b) (ty_of o)) _ λ ty is. settle s expected at ty (tree.If n b (present o)) (walks_both (walks_both w x) y)

scrutinised_walks : {f : Tape} {check : Check Node} → WalksNode f check → WalksNode f (rows.scrutinised check)
scrutinised_walks good s = walk (plain_walks good s) λ n t w. walk_ends (walks_used_if Use.Borrow n w)

pub if_let_alone_walks : {f g : Tape} (env : Env) (at : Pos) (scrutinee : Check Node) (matcher : Matcher) (body : List NamedEntry → Typer)
    → WalksNode f scrutinee → WalksMatcher matcher → ((xs : List NamedEntry) → WalksTyper g (body xs)) → WalksTyper (f ⨾ g) (rows.if_let_alone env at scrutinee matcher body)
if_let_alone_walks env at scrutinee matcher body good good_m good_b expected s =
    walk (scrutinised_walks good (numbered s)) λ n t w. walk (good_m _ (ty_of n) t) λ p u x. walk (good_b p.1 (Some
    unit) u) λ b v y. settle s expected at unit (tree.IfLet p.0 n b absent) (nothing_more (walks_both (walks_swapped w x) y))

pub if_let_else_walks : {f g h : Tape} (env : Env) (at : Pos) (scrutinee : Check Node) (matcher : Matcher) (body : List NamedEntry → Typer)
    (otherwise : Typer) → WalksNode f scrutinee → WalksMatcher matcher → ((xs : List NamedEntry) → WalksTyper g (body xs)) →
    WalksTyper h otherwise → WalksTyper (f ⨾ g ⨾ h) (rows.if_let_else env at scrutinee matcher body otherwise)
if_let_else_walks env at scrutinee matcher body otherwise good good_m good_b good_o expected s =
    walk (scrutinised_walks good (numbered s)) λ n t w. walk (good_m _ (ty_of n) t) λ p u x. walk (good_b p.1 expected u) λ
    b v y. walk (good_o expected v) λ o z q. walk_found Rule.T03 at (rows.one_of_two z.items (ty_of b) (ty_of o)) _ λ ty is. settle s expected at ty (tree.IfLet p.0 n b (present o)) (walks_both (walks_both (walks_swapped w x) y) q)

pub arm_walks : {f g : Tape} (check : Check (Node × List NamedEntry)) (guard : List NamedEntry → Check MaybeNode) (body : List NamedEntry → Typer) →
    ((s : TypingState) → Walked (λ b t. Walks no_closure s t (nodes_of b.0)) (check s)) → ((xs : List NamedEntry) (s : TypingState) → Walked (λ v
    t. Walks f s t (nodes_if_any v)) (guard xs s)) → ((xs : List NamedEntry) → WalksTyper g (body xs)) → WalksTyper (f ⨾ g) (rows.arm
    check guard body)
arm_walks check guard body good good_g good_b expected s =
    walk (good (numbered s)) λ p t w. walk (good_g p.1 t) λ g u x. walk (good_b p.1 expected u) λ b v y. walk_ends
    (walks_node (place_in_text p.0) (ty_of b) None (tree.Arm p.0 g b) (walks_both (walks_both w x) y))

pub match_walks : {f g : Tape} (env : Env) (at : Pos) (scrutinee : Check Node) (arms : PatternContext → TyId → Option TyId → Check (Nodes
    × List TyId)) → WalksNode f scrutinee → ((e : PatternContext) (ty : TyId) (expected : Option TyId) (s : TypingState) → Walked (λ ns
    t. Walks g s t (nodes_among ns.0)) (arms e ty expected s)) → WalksTyper (f ⨾ g) (rows.match_row env at scrutinee arms)
match_walks env at scrutinee arms good good_a expected s =
    walk (scrutinised_walks good (numbered s)) λ n t w. walk (good_a _ (ty_of n) expected t) λ ns u x. walk_found Rule.T03
    at (rows.one_type u.items ns.1) _ λ ty is. settle s expected at ty (tree.Match n ns.0) (walks_both w x)

-- ---- loops and jumps

pub loop_walks : {f : Tape} (at : Pos) (label : Option Word) (body : LabelledLoop → Typer) → ((a : LabelledLoop) → WalksTyper f (body a)) →
    WalksTyper f (rows.loop_row at label body)
loop_walks at label body good expected s =
    walk (good _ (Some unit) (numbered s)) λ b t w. walk_found Rule.T03 at (rows.one_type t.items (types_for s.next_node t.breaks)) _ λ ty is. settle s expected at ty (tree.Loop b) w

pub while_walks : {f g : Tape} (at : Pos) (label : Option Word) (c body : LabelledLoop → Typer) → ((a : LabelledLoop) → WalksTyper f (c a)) → ((a :
    LabelledLoop) → WalksTyper g (body a)) → WalksTyper (f ⨾ g) (rows.while_row at label c body)
while_walks at label c body good_c good_b expected s =
    walk (good_c _ (Some bool) (numbered s)) λ n t w. walk (good_b _ (Some unit) t) λ b u x. settle s expected at unit (tree.While n b) (walks_both w x)

pub while_let_walks : {f g : Tape} (env : Env) (at : Pos) (label : Option Word) (scrutinee : LabelledLoop → Check Node) (matcher : Matcher)
    (body : LabelledLoop → List NamedEntry → Typer) → ((a : LabelledLoop) → WalksNode f (scrutinee a)) → WalksMatcher matcher → ((a :
    LabelledLoop) (xs : List NamedEntry) → WalksTyper g (body a xs)) → WalksTyper (f ⨾ g) (rows.while_let_row env at label scrutinee matcher
    body)
while_let_walks env at label scrutinee matcher body good good_m good_b expected s =
    walk (scrutinised_walks (good _) (numbered s)) λ n t w. walk (good_m _ (ty_of n) t) λ p u x. walk (good_b _ p.1
    (Some unit) u) λ b v y. settle s expected at unit (tree.WhileLet p.0 n b) (walks_both (walks_swapped w x) y)

-- a break carries what is added to the breaks
pub break_walks : {f : Tape} (at : Pos) (to : Option LabelledLoop) (value : Option TyId → Check MaybeNode) → WalksMaybe f value →
    WalksTyper f (rows.break_row at to value)
break_walks {f} at to value good expected s =
    walk (good _ (numbered s)) λ v t w. walk_found Rule.T06 at to _ λ a is. walk_obeyed Rule.T06 at (rows.may_carry v a) _ λ _.
    walk_settled expected (a_node_of s.next_node at never (Break a.loop v)) (carries v a.loop t (walks_node at never None (Break a.loop v) w))
  where
    broken_off : (t : TypingState) (loop : ℕ) (v : MaybeNode) → Stays t (record t {
      breaks = t.breaks ++ (loop, ty_carried v) ∷
          [];
    })
    broken_off t loop v = record { types = λ n ty h. h; distinct = λ h. h; adts = refl; traits = refl; impls = refl; heads = refl; next_body = refl; bodies = refl; closures = refl }

    carries : (v : MaybeNode) (loop : ℕ) (t : TypingState) → Walks f s t (nodes_of (node s.next_node at never None (Break loop
        v))) → Walks f s (record t { breaks = t.breaks ++ (loop, ty_carried v) ∷ [] }) (nodes_of (node s.next_node at
        never None (Break loop v)))
    carries v loop t w =
        record {
          numbers = w.numbers;
          before = w.before;
          behind = w.behind;
          once = w.once;
          carried = λ b h. by b (Contains-append_cases t.breaks ((loop, ty_carried v) ∷ []) b h);
          ordered = ordered_both w.ordered (ordered_of (broken_off t loop v));
          met = met_both w.met (met_none (broken_off t loop v));
        }
      where
        ns : List Node
        ns = nodes_of (node s.next_node at never None (Break loop v))

        this : IsCarried (loop, ty_carried v) ns
        this = (
          v,
          subst (λ (c : Bool). Contains (cons_option (if c then Some v else None) (filter_map (carried_by loop)
              (nodes_if_any v))) v) (sym (same_self loop)) (0, omega arith, refl),
          refl,
        )

        last : (b : ℕ × TyId) → ((loop, ty_carried v) ≡ b) ⊎ Contains [] b → Contains s.breaks b ⊎ IsCarried b ns
        last b (inl same) = inr (subst (λ (x : ℕ × TyId). IsCarried x ns) same this)
        last b (inr none) = absurd (omega (arith, none.1))

        by : (b : ℕ × TyId) → Contains t.breaks b ⊎ Contains ((loop, ty_carried v) ∷ []) b → Contains s.breaks b ⊎
            IsCarried b ns
        by b (inl was) = w.carried b was
        by b (inr new_) = last b (contains_cases (loop, ty_carried v) [] b new_)

pub continue_walks : (at : Pos) (to : Option LabelledLoop) → WalksTyper no_closure (rows.continue_row at to)
continue_walks at to expected s =
    walk_found Rule.T06 at to _ λ a is. settle s expected at never (tree.Continue a.loop) (walks_none
    (numbered s))

pub return_walks : {f : Tape} (at : Pos) (answer : TyId) (value : Option TyId → Check MaybeNode) → WalksMaybe f value → WalksTyper f (rows.return_row at answer value)
return_walks at answer value good expected s =
    walk (good (Some answer) (numbered s)) λ v t w. walk_obeyed Rule.T03 at (rows.is_some_node v || is_unit t.items answer) _ λ _. settle s expected at never (tree.Return v) w

-- ---- statements

pub in_parts_walks : {f : Tape} (env : Env) (any : Bool) (expected : Option TyId) (n : Node) {s t : TypingState} →
    Walks f s t
    (nodes_of n) → Walked (λ m u. Walks f s u (nodes_of m)) (rows.place_for_parts env any expected n t)
in_parts_walks env any None n {t = t} w = walk_obeyed Rule.T08 (place_in_text n) (not (is_reference t.items (ty_of n)))
    _ λ _. walk_ends w
in_parts_walks {f} env any (Some expected) n {s} {t} w =
    walk_obeyed Rule.T03 (place_in_text n) (any || (is_same (ty_of n) expected || not (is_never t.items (ty_of n)))) _
    λ _. by
    (fit t.items expected (ty_of n))
  where
    by : (how : Fit) → Walked (λ m u. Walks f s u (nodes_of m)) (rows.as_part env (Some expected) n how t)
    by Fits = walk_obeyed Rule.T08 (place_in_text n) (not (is_reference t.items (ty_of n))) _ λ _. walk_ends w
    by (Coerced trait_no) = taken_walks env (Some expected) n w
    by Differs = taken_walks env (Some expected) n w

pub let_walks : {f : Tape} (P : Env → Type 0) (at : Pos) (env : Env) (one : Bool) (written : Check (Option TyId)) (value : Option TyId → Check
    MaybeNode) (matcher : Matcher) (behind : List NamedEntry → Env) → ((xs : List NamedEntry) → P (behind xs)) → ((s : TypingState) → Walked (λ _ t. SameWalk s t) (written
    s)) → WalksMaybe f value → WalksMatcher matcher → (s : TypingState) → Walked (λ done t. Walks f s t (nodes_of done.0) × P done.2)
    (rows.let_row at env one written value matcher behind s)
let_walks P at env one written value matcher behind stays good_w good_v good_m s =
    walk (good_w (numbered s)) λ ty t e. walk (good_v ty t) λ v u w. walk_found Rule.T16 at (rows.let_ty ty v) _ λ t is. walk (good_m _ _
    u) λ p x y. walk_ends (
      walks_node at unit None (tree.Let p.0 v) (walks_both (on_same e (walks_none (numbered s)))
          (walks_swapped w y)),
      stays p.1,
    )

pub evaluate_walks : {f : Tape} (P : Env → Type 0) (at : Pos) (env : Env) (has_semicolon : Bool) (e : Typer) → P env → WalksTyper f e → (s : TypingState) →
    Walked (λ done t. Walks f s t (nodes_of done.0) × P done.2) (rows.evaluate at env has_semicolon e s)
evaluate_walks P at env has_semicolon e stays good s =
    walk (good None (numbered s)) λ n t w. walk_obeyed Rule.T03 (place_in_text n) (has_semicolon || (is_unit t.items (ty_of n) || is_never t.items (ty_of n))) _ λ _. walk_ends (walks_node at unit None (tree.Evaluate n) w, stays)
