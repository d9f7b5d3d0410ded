-- The rows of forms keep types within their limits, where the checks of their parts do.
use Rattle.std.proofs.Common.{◌≡◌, ℕ, zero, suc, ◌<◌, ◌≤◌, Bool, true, false, ◌&&◌, ◌||◌, ◌==◌, not, if◌then◌else◌, List, [], ◌∷◌, ◌++◌, length, drop, Option, Some, None, Ok, IsTrue, sym, subst, arith, nat_le}
use Rattle.std.specs.Prelude.{option_and_then, is_some, nat_lt}
use Rattle.std.proofs.lemmas.Bool.{and_from}
use Rattle.mir_base.specs.declared.int_kind.IntKind.{IntKind}
use Rattle.mir_base.specs.declared.operator.Cmp.{Cmp}
use Rattle.mir_base.specs.declared.operator.Math.{Math}
use Rattle.mir_base.specs.declared.place_in_text.Pos.{Pos}
use Rattle.mir_base.specs.declared.rule.Rule.{Rule}
use Rattle.mir_ty.specs.declared.adt.Adt.{Adt}
use Rattle.mir_ty.specs.declared.def.Sig.{Sig}
use Rattle.mir_ty.specs.declared.ty.Ty.{Ty}
use Rattle.mir_ty.specs.declared.ty.TyId.{TyId}
use Rattle.mir_ty.specs.Facts.{is_copy}
use Rattle.mir_ty.specs.ItemTable.{ItemTable}
use Rattle.typed_tree.specs.Tree as tree
use Rattle.typed_tree.specs.Tree.{Node, Form, Nodes, no_node, a_node, Fields, MaybeNode, absent, present, Deref}
use Rattle.well_typed.specs.Places.{ty_of, form_of, is_place}
use Rattle.well_typed.specs.Types.{inside_of, reference_of, is_reference, is_dyn, is_unit, is_never, is_same, fits, array_of, kind_of}
use Rattle.typing_rules.specs.Check.{Check, TypingState, ◌>>=◌, ◌>>◌, breaks, types_for, interned}
use Rattle.typing_rules.specs.Places.{place_in_text, used, a_node_of, unit, bool, never, int, Fit, Fits, Coerced, Differs, fit, variable_place, Member, through_at, through_in, through, is_fixed, in_own_guard, is_behind_shared, wanted, agrees}
use Rattle.typing_rules.specs.Rows as rows
use Rattle.typing_rules.specs.Rows.{Typer, Referrer, Method, Matcher, PatternContext, Given, borrow_by}
use Rattle.typing_rules.specs.Scope.{Env, NamedEntry, LabelledLoop, adt_named, adt_at_head}
use Rattle.src_ast.specs.Syntax.{Word}
use Rattle.typing_rules.proofs.Sound.Gives.{numbered}
use Rattle.typing_rules.specs.Bodies.{all_rules}
use Rattle.typing_soundness.specs.Walks.{Walked}
use Rattle.typing_soundness.proofs.Items.Limits.Types.{Bounds, IsIn, AreIn, AreNamed, position_below, interned_when}
use Rattle.typing_soundness.proofs.Walking.Expressions.{both_walk}
use Rattle.typing_soundness.proofs.Walking.Params.{still, interned_still}
use Rattle.typing_soundness.proofs.Walking.Steps.{SameWalk, walk, walk_map, walk_obeyed, walk_found, walk_ends, walk_nothing}

-- A table within the limits, as it is while bodies are walked: its structs and enums are all there, and its types are
-- within their limits.
pub record Inside (b : Bounds) (items : ItemTable) : Type 0 where
  pub adts : length items.adts ≤ b.adts
  pub types : AreIn b items

-- a check that stays within them
abbrev pub Keeps : Bounds → {A : Type 0} → Check A → Type 0
Keeps b {A} check = (s : TypingState) → Inside b s.items → Walked (λ (_ : A) t. Inside b t.items) (check s)

abbrev pub KeepsTyper : Bounds → Typer → Type 0
KeepsTyper b check = (expected : Option TyId) → Keeps b (check expected)

abbrev pub KeepsReferrer : Bounds → Referrer → Type 0
KeepsReferrer b check = (expected : TyId) (unique : Bool) (to : TyId) → Keeps b (check expected unique to)

abbrev pub KeepsMatcher : Bounds → Matcher → Type 0
KeepsMatcher b check = (e : PatternContext) (ty : TyId) → Keeps b (check e ty)

-- the names of an environment
abbrev pub IsNamed : Bounds → Env → Type 0
IsNamed b env = AreNamed b (all_rules env)

no_adt : Adt
no_adt = record { name = []; is_enum = false; variants = []; copy = false; drop_body = None }

-- where only types come, which are within their limits
pub still_kept : (b : Bounds) {s t : TypingState} → Inside b s.items → AreIn b t.items → SameWalk s t → Inside b t.items
still_kept b h types e = record { adts = subst (λ as_. length as_ ≤ b.adts) (sym e.stays.adts) h.adts; types = types }

module _ (b : Bounds) where
  -- ---- types that come by a number

  -- the name of a struct or an enum
  pub named_below : (items : ItemTable) → Inside b items → (name : Word) (n : ℕ) → adt_named items name ≡ Some n → n < b.adts
  named_below items h name n is =
      let e = position_below _ items.adts no_adt n is in let f = h.adts in omega (arith, e, f)

  pub head_below : (items : ItemTable) → Inside b items → (env : Env) → IsNamed b env → (first : Option Word) (n : ℕ) →
      adt_at_head items env first ≡ Some n → n < b.adts
  head_below items h env named None n is = named.self n is
  head_below items h env named (Some name) n is = named_below items h name n is

  pub intern_when : {C : Type 0} (ty : Ty) (s : TypingState) → Inside b s.items → (C → IsIn b (length s.items.closures) ty) → Walked (λ
      id t. C → Inside b t.items) (interned ty s)
  intern_when {C} ty s h is =
      walk_map (both_walk (interned ty s) (interned_when b {C = C} ty s (λ _. h.types) is) (interned_still ty s (still s))) λ
      id t k c. still_kept b h (k.0 c) k.1

  pub intern_kept : (ty : Ty) (s : TypingState) → Inside b s.items → IsIn b (length s.items.closures) ty → Walked (λ id t. Inside b
      t.items) (interned ty s)
  intern_kept ty s h is = walk_map (intern_when {C = Unit {0}} ty s h (λ _. is)) λ id t k. k tt

  borrowed_in : (closures : ℕ) (unique : Bool) (to : TyId) → IsIn b closures (rows.reference_ty unique to)
  borrowed_in closures true to = tt
  borrowed_in closures false to = tt

  -- ---- the end of a row

  -- what only numbers a node
  fitted_as : (P : ItemTable → Type 0) (expected : Option TyId) (n : Node) (s : TypingState) → P s.items → Walked (λ _ t. P t.items)
      (rows.fitted expected n s)
  fitted_as P None n s h = walk_ends h
  fitted_as P (Some expected) n s h = by (fit s.items expected (ty_of n))
    where
      by : (how : Fit) → Walked (λ _ t. P t.items) (rows.fitted_by expected n how s)
      by Fits = walk_ends h
      by (Coerced trait_no) = walk_ends h
      by Differs = record { so = tt }

  pub fitted_kept : (expected : Option TyId) (n : Node) (s : TypingState) → Inside b s.items → Walked (λ _ t. Inside b t.items)
      (rows.fitted expected n s)
  fitted_kept expected n s h = fitted_as (Inside b) expected n s h

  settled_kept : (id : ℕ) (at : Pos) (expected : Option TyId) (ty : TyId) (form : Form) (s : TypingState) → Inside b s.items → Walked (λ _ t.
      Inside b t.items) (rows.settled expected (a_node_of id at ty form) s)
  settled_kept id at expected ty form s h = walk_obeyed Rule.T03 at (agrees s.items expected ty) _ λ _. walk_ends h

  -- ---- leaves

  pub leaf_kept : (at : Pos) (ty : TyId) (form : Form) → KeepsTyper b (rows.leaf at ty form)
  leaf_kept at ty form expected s h = fitted_kept expected (a_node_of s.next_node at ty form) (numbered s) h

  pub literal_kept : (at : Pos) (is_negative : Bool) (value : ℕ) (suffix : Option IntKind) → KeepsTyper b (rows.literal at
      is_negative value suffix)
  literal_kept at is_negative value suffix expected s h =
      walk_obeyed Rule.T03 at (not is_negative || rows.is_signed_kind (rows.chosen suffix (option_and_then (kind_of s.items)
      expected))) _ λ _. walk (fitted_kept expected _ _ h) λ n t k. walk_obeyed Rule.T17 at (nat_le value (rows.most (rows.chosen suffix
      (option_and_then (kind_of s.items) expected)) is_negative)) _ λ _. walk_ends k

  -- ---- places

  pub variable_kept : (at : Pos) (x : NamedEntry) → Keeps b (variable_place at x)
  variable_kept at x s h = walk_ends h

  pub taken_kept : (env : Env) (expected : Option TyId) (n : Node) (s : TypingState) → Inside b s.items → Walked (λ _ t. Inside b t.items)
      (rows.taken env expected n s)
  taken_kept env expected n s h =
      walk (fitted_kept expected (used (rows.taking s.items (ty_of n)) n) s h) λ m t k. walk_obeyed Rule.T07 (place_in_text n)
      (is_copy s.items (ty_of n) || not (is_fixed s.items (in_own_guard env.variables) n || is_dyn s.items (ty_of n))) _ λ _.
      walk_obeyed Rule.T08 (place_in_text n) (not (is_reference s.items (ty_of n))) _ λ _. walk_ends k

  -- what is no reference by itself
  plain_kept : {check : Check Node} → Keeps b check → Keeps b (check >>= rows.no_reference)
  plain_kept good s h =
      walk (good s h) λ n t k. walk_obeyed Rule.T08 (place_in_text n) (not (is_reference t.items (ty_of n))) _ λ _. walk_ends
      k

  module _ {A : Type 0} (member : Member A) (at : Pos) where
    through_in_kept : (n : ℕ) (items : ItemTable) (base : Node) (s : TypingState) → Inside b s.items → Walked (λ _ t. Inside b t.items)
        (through_in member at n items base s)
    through_in_kept zero items base s h = walk_ends h
    through_in_kept (suc n) items base s h =
        by (λ ty. through_in_kept n items (a_node_of s.next_node at ty (Deref base)) (numbered s) h) (member items (ty_of
        base)) (inside_of items (ty_of base))
      where
        by : ((ty : TyId) → Walked (λ _ t. Inside b t.items) (through_in member at n items (a_node_of s.next_node at ty
            (Deref base)) (numbered s))) → (a : Option A) (o : Option TyId) → Walked (λ _ t. Inside b t.items) (through_at
            member at (through_in member at n items) base a o s)
        by on (Some found) o = walk_ends h
        by on None None = walk_ends h
        by on None (Some ty) = on ty

    pub through_kept : (base : Node) (s : TypingState) → Inside b s.items → Walked (λ _ t. Inside b t.items) (through member at
        base s)
    through_kept base s h = through_in_kept (suc (length s.items.types)) s.items base s h

  pub field_kept : (at : Pos) (member : ItemTable → TyId → Option (ℕ × TyId)) (base : Check Node) → Keeps b base → Keeps b
      (rows.field at member base)
  field_kept at member base good s h =
      walk (good (numbered s) h) λ n t k. walk (through_kept member at n t k) λ r u l. walk_found Rule.T12 at r.1 _ λ f is.
      walk_ends l

  pub deref_kept : (at : Pos) (base : Check Node) → Keeps b base → Keeps b (rows.deref at base)
  deref_kept at base good s h =
      walk (good (numbered s) h) λ n t k. walk_found Rule.T03 at (inside_of t.items (ty_of n)) _ λ ty is. walk_ends k

  pub element_kept : (at : Pos) (base : Check Node) (index : Typer) → Keeps b base → KeepsTyper b index → Keeps b (rows.element
      at base index)
  element_kept at base index good good_i s h =
      walk (plain_kept good (numbered s) h) λ n t k. walk (good_i (Some (int IntKind.Usize)) t k) λ i u l. walk_found Rule.T03 at
      (array_of u.items (ty_of n)) _ λ a is. walk_ends l

  -- ---- operators

  pub not_kept : (at : Pos) (operand : Typer) → KeepsTyper b operand → KeepsTyper b (rows.not_row at operand)
  not_kept at operand good expected s h =
      walk (good None (numbered s) h) λ n t k. walk_obeyed Rule.T03 at (fits t.items bool (ty_of n)) _ λ _. fitted_kept expected _ _
      k

  pub negate_kept : (at : Pos) (operand : Typer) → KeepsTyper b operand → KeepsTyper b (rows.negate at operand)
  negate_kept at operand good expected s h =
      walk (good _ (numbered s) h) λ n t k. walk_obeyed Rule.T03 at (is_same (ty_of n) (int IntKind.I32) || is_same (ty_of n)
      (int IntKind.I64)) _ λ _. fitted_kept expected _ _ k

  operands_kept : (is_literal : Bool) (expected : Option TyId) (left right : Typer) → KeepsTyper b left → KeepsTyper b right →
      Keeps b (rows.operands is_literal expected left right)
  operands_kept true None left right good_l good_r s h =
      walk (good_r None s h) λ r t k. walk (good_l (rows.unless_never t.items (ty_of r)) t k) λ l u m. walk_ends m
  operands_kept true (Some ty) left right good_l good_r s h =
      walk (good_l (Some ty) s h) λ l t k. walk (good_r (rows.if_int t.items (ty_of l)) t k) λ r u m. walk_ends m
  operands_kept false expected left right good_l good_r s h =
      walk (good_l expected s h) λ l t k. walk (good_r (rows.if_int t.items (ty_of l)) t k) λ r u m. walk_ends m

  pub arithmetic_kept : (at : Pos) (operator : Math) (is_literal : Bool) (left right : Typer) → KeepsTyper b left → KeepsTyper b
      right → KeepsTyper b (rows.arithmetic at operator is_literal left right)
  arithmetic_kept at operator is_literal left right good_l good_r expected s h =
      walk (operands_kept is_literal _ left right good_l good_r (numbered s) h) λ n t k. walk_found Rule.T03 at
      (option_and_then (rows.if_int t.items) (rows.one_of_two t.items (ty_of n.0) (ty_of n.1))) _ λ ty is. fitted_kept expected _ _
      k

  pub comparison_kept : (at : Pos) (operator : Cmp) (is_literal : Bool) (left right : Typer) → KeepsTyper b left → KeepsTyper b
      right → KeepsTyper b (rows.comparison at operator is_literal left right)
  comparison_kept at operator is_literal left right good_l good_r expected s h =
      walk (operands_kept is_literal None left right good_l good_r (numbered s) h) λ n t k. walk_found Rule.T03 at
      (option_and_then (rows.int_or_bool t.items) (rows.one_of_two t.items (ty_of n.0) (ty_of n.1))) _ λ ty is. fitted_kept expected
      _ _ k

  pub logic_kept : (at : Pos) (form : Node → Node → Form) (left right : Typer) → KeepsTyper b left → KeepsTyper b right →
      KeepsTyper b (rows.logic at form left right)
  logic_kept at form left right good_l good_r expected s h =
      walk (good_l None (numbered s) h) λ l t k. walk (good_r None t k) λ r u m. walk_obeyed Rule.T03 at (fits u.items bool
      (ty_of l) && fits u.items bool (ty_of r)) _ λ _. fitted_kept expected _ _ m

  pub store_kept : (env : Env) (at : Pos) (place : Check Node) (value : Typer) → Keeps b place → KeepsTyper b value →
      KeepsTyper b (rows.store env at place value)
  store_kept env at place value good good_v expected s h =
      walk (plain_kept good (numbered s) h) λ p t k. walk (good_v (Some (ty_of p)) t k) λ v u l. walk_obeyed Rule.T03 at (not
      (is_dyn u.items (ty_of p))) _ λ _. walk (fitted_kept expected _ _ l) λ n w m. walk_obeyed Rule.T05 at (is_place (form_of p) &&
      not (rows.own_in (in_own_guard env.variables) (form_of p))) _ λ _. walk_obeyed Rule.T08 (place_in_text p) (not
      (is_behind_shared u.items p)) _ λ _. walk_ends m

  -- ---- references

  borrow_of_kept : (id : ℕ) (at : Pos) (unique : Bool) (base : Node) (s : TypingState) → Inside b s.items → Walked (λ _ t. Inside b
      t.items) (rows.borrow_of id at unique base s)
  borrow_of_kept id at unique base s h =
      walk (intern_kept (rows.reference_ty unique (ty_of base)) s h (borrowed_in (length s.items.closures) unique (ty_of base)))
      λ ty t k. walk_ends k

  pub borrow_kept : (at : Pos) (unique : Bool) (base : Check Node) → Keeps b base → KeepsReferrer b (rows.borrow at unique base)
  borrow_kept at unique base good expected is_unique to s h =
      walk (plain_kept good (numbered s) h) λ n t k. walk_obeyed Rule.T03 at (is_same (ty_of n) to && rows.is_same_truth unique
      is_unique) _ λ _. walk_obeyed Rule.T08 (place_in_text n) (not (unique && is_behind_shared t.items n)) _ λ _.
      borrow_of_kept s.next_node at unique n t k

  pub passed_on_kept : (at : Pos) (x : NamedEntry) → KeepsReferrer b (rows.passed_on at x)
  passed_on_kept at x expected unique to s h =
      walk_obeyed Rule.T03 at (rows.passes unique to (reference_of s.items x.ty)) _ λ _. walk {f = λ v. rows.borrow_of
      s.next_node at unique (a_node_of (suc s.next_node) at to (Deref v))} (variable_kept at x (numbered (numbered s)) h) λ v t
      k. borrow_of_kept s.next_node at unique (a_node_of (suc s.next_node) at to (Deref v)) t k

  pub argument_kept : (param : TyId) (by_value : Typer) (by_reference : Referrer) → KeepsTyper b by_value → KeepsReferrer b
      by_reference → Keeps b (rows.argument param by_value by_reference)
  argument_kept param by_value by_reference good_v good_r s h = by (reference_of s.items param)
    where
      by : (o : Option (Bool × TyId)) → Walked (λ _ t. Inside b t.items) (rows.argument_by param by_value by_reference o s)
      by None = good_v (Some param) s h
      by (Some r) = good_r param r.0 r.1 s h

  -- ---- calls

  abbrev KeepsArgs : (List TyId → Check Nodes) → Type 0
  KeepsArgs args = (params : List TyId) → Keeps b (args params)

  pub call_kept : (at : Pos) (form : Nodes → Form) (answer : TyId) (count : ℕ) (params : List TyId) (args : List TyId → Check
      Nodes) (may : Bool) → KeepsArgs args → KeepsTyper b (rows.call at form answer count params args may)
  call_kept at form answer count params args may good expected s h =
      walk (good params (numbered s) h) λ ns t k. walk (fitted_kept expected _ _ k) λ n u l. walk_obeyed Rule.T04 at (count == length
      params) _ λ _. walk_obeyed Rule.T13 at may _ λ _. walk_ends l

  pub no_call_kept : (at : Pos) (rule : Rule) (args : List TyId → Check Nodes) → KeepsTyper b (rows.no_call at rule args)
  no_call_kept at rule args expected s h = walk_nothing rule at (args [] s)

  received_kept : (env : Env) (at : Pos) (base : Node) (self : TyId) (s : TypingState) → Inside b s.items → Walked (λ _ t. Inside b
      t.items) (rows.received env at base self s)
  received_kept env at base self s h = by (reference_of s.items self)
    where
      if_place : (c : Bool) → Walked (λ _ t. Inside b t.items) ((if c then rows.taken env None base else (λ v. Ok (base, v)))
          s)
      if_place true = taken_kept env None base s h
      if_place false = walk_ends h

      by : (o : Option (Bool × TyId)) → Walked (λ _ t. Inside b t.items) (rows.received_by env at base o s)
      by None = if_place (is_place (form_of base))
      by (Some r) = borrow_of_kept s.next_node at r.0 base (numbered s) h

  pub method_kept : (env : Env) (at : Pos) (named : ItemTable → TyId → Option Method) (count : ℕ) (receiver : Check Node) (args :
      List TyId → Check Nodes) → Keeps b receiver → KeepsArgs args → KeepsTyper b (rows.method_call env at named count
      receiver args)
  method_kept env at named count receiver args good_r good expected s h =
      walk (good_r (numbered s) h) λ n t k. walk (through_kept named (place_in_text n) n t k) λ r u l. by r.0 r.1 u l
    where
      with_self : (base : Node) (m : Method) (params : List TyId) (u : TypingState) → Inside b u.items → Walked (λ _ t. Inside b
          t.items) (rows.with_self env at s.next_node base m count args expected params u)
      with_self base m [] u l = walk_nothing Rule.T12 at (args [] u)
      with_self base m (self ∷ params) u l =
          walk (received_kept env (place_in_text base) base self u l) λ receiver t k. walk (good params t k) λ ns v q. walk (fitted_kept expected
          (a_node_of s.next_node at (rows.head_of m).result (rows.method_form m receiver ns)) v q) λ n y w. walk_obeyed
          Rule.T04 at (count == length params) _ λ _. walk_obeyed Rule.T08 (place_in_text base) (not (rows.is_unique_borrow (form_of receiver)
          && is_behind_shared v.items base)) _ λ _. walk_obeyed Rule.T13 at (not (rows.is_drop_method m)) _ λ _. walk_ends w

      if_takes : (base : Node) (m : Method) (u : TypingState) → Inside b u.items → (c : Bool) → Walked (λ _ t. Inside b t.items) ((if
          c then rows.with_self env at s.next_node base m count args expected (rows.head_of m).params else (args [] >> breaks
          Rule.T12 at)) u)
      if_takes base m u l true = with_self base m (rows.head_of m).params u l
      if_takes base m u l false = walk_nothing Rule.T12 at (args [] u)

      by : (base : Node) (o : Option Method) (u : TypingState) → Inside b u.items → Walked (λ _ t. Inside b t.items)
          (rows.with_method env at s.next_node base o count args expected u)
      by base None u l = walk_nothing Rule.T12 at (args [] u)
      by base (Some m) u l = if_takes base m u l (rows.has_self env m && rows.takes_self u.items (ty_of base) (rows.head_of m).params)

  pub closure_call_kept : (at : Pos) (count : ℕ) (callee : Check Node) (args : List TyId → Check Nodes) → Keeps b callee →
      KeepsArgs args → KeepsTyper b (rows.closure_call at count callee args)
  closure_call_kept at count callee args good_c good expected s h =
      walk (good_c (numbered s) h) λ c t k. by c t k _ _
    where
      by : (c : Node) (t : TypingState) → Inside b t.items → (body : ℕ) (o : Option Sig) → Walked (λ _ u. Inside b u.items)
          (rows.with_closure at s.next_node c count args expected body o t)
      by c t k body None = walk_nothing Rule.T13 at (args [] t)
      by c t k body (Some head) =
          walk (good (drop 1 head.params) t k) λ ns u l. walk (fitted_kept expected _ _ l) λ n y w. walk_obeyed Rule.T04 at (count ==
          length (drop 1 head.params)) _ λ _. walk_ends w

  -- ---- built-in calls

  pub built_in_kept : (at : Pos) (answer : TyId) (form : Nodes → Form) (count wants : ℕ) (args : Check Nodes) → Keeps b args →
      KeepsTyper b (rows.built_in at answer form count wants args)
  built_in_kept at answer form count wants args good expected s h =
      walk (good (numbered s) h) λ ns t k. walk (fitted_kept expected _ _ k) λ n u l. walk_obeyed Rule.T04 at (count == wants) _ λ
      _. walk_ends l

  pub new_box_kept : (at : Pos) (count : ℕ) (args : List TyId → Check Nodes) → KeepsArgs args → KeepsTyper b (rows.new_box at
      count args)
  new_box_kept at count args good expected s h =
      walk (good _ (numbered s) h) λ ns t k. by (wanted rows.box_wanted s.items expected) (rows.first_node ns) t k
    where
      by : (content : Option TyId) (o : Option Node) (t : TypingState) → Inside b t.items → Walked (λ _ u. Inside b u.items)
          (rows.box_by at s.next_node count expected content o t)
      by content None t k = record { so = tt }
      by content (Some c) t k =
          walk (intern_kept (Ty.Boxed (rows.part_ty content c)) t k tt) λ ty u l. walk (fitted_kept expected _ _ l) λ n v m.
          walk_obeyed Rule.T04 at (count == 1) _ λ _. walk_ends m

  -- ---- constructors

  pub struct_kept : (at : Pos) (adt variant : ℕ) (types : List TyId) (fields : Check (Fields × Given)) → adt < b.adts → Keeps b
      fields → KeepsTyper b (rows.struct_row at adt variant types fields)
  struct_kept at adt variant types fields below good expected s h =
      walk (intern_kept (Ty.Adt adt) (numbered s) h below) λ ty t k. walk (good t k) λ fs u l. walk (fitted_kept expected _ _ l) λ n v
      m. walk_obeyed Rule.T04 at (rows.all_given (length types) fs.1 && length fs.1 == length types) _ λ _. walk_obeyed
      Rule.T12 at (rows.are_known fs.1) _ λ _. walk_ends m

  -- a tuple has its type before its parts are counted
  pub tuple_kept : (at : Pos) (count : ℕ) (parts : List (Option TyId) → Check (Nodes × List TyId)) → IsTrue (nat_lt 0 count) →
      ((wants : List (Option TyId)) (s : TypingState) → Inside b s.items → Walked (λ ps t. Inside b t.items × (length ps.1 ≡
      count)) (parts wants s)) → KeepsTyper b (rows.tuple_row at count parts)
  tuple_kept at count parts some good expected s h =
      walk (good _ (numbered s) h) λ ps t k. walk (intern_when {C = IsTrue (nat_le count 12)} (Ty.Tuple ps.1) t k.0 λ few.
      subst (λ n. IsTrue (nat_lt 0 n && nat_le n 12)) (sym k.1) (and_from (nat_lt 0 count) _ some few)) λ ty u l. walk
      (fitted_as (λ items. IsTrue (nat_le count 12) → Inside b items) expected _ _ l) λ n v m. walk_obeyed Rule.T19 at (nat_le
      count 12) _ λ few. walk_ends (m few)

  pub array_kept : (at : Pos) (count : ℕ) (elements : Option TyId → Check (Nodes × List TyId)) → ((expected : Option TyId) → Keeps b
      (elements expected)) → KeepsTyper b (rows.array_row at count elements)
  array_kept at count elements good expected s h =
      walk (good _ (numbered s) h) λ ps t k. walk_found Rule.T03 at (rows.element_ty t.items (wanted rows.element_wanted
      s.items expected) ps.1) _ λ el is. walk_obeyed Rule.T16 at (is_some expected || not (count == 0)) _ λ _. walk (intern_when {C = IsTrue (nat_le count 32)} (Ty.Array el count) t k λ few. few) λ ty u l. walk
      (fitted_as (λ items. IsTrue (nat_le count 32) → Inside b items) expected _ _ l) λ n v m. walk_obeyed Rule.T19 at (nat_le
      count 32) _ λ few. walk_ends (m few)

  -- ---- blocks and branches

  pub block_kept : (P : Env → Type 0) (at : Pos) (check : Check (Nodes × Bool × Env)) (tail : Env → Option TyId → Check
      MaybeNode) → ((s : TypingState) → Inside b s.items → Walked (λ done t. Inside b t.items × P done.2) (check s)) → ((inner :
      Env) → P inner → (expected : Option TyId) → Keeps b (tail inner expected)) → KeepsTyper b (rows.block at check tail)
  block_kept P at check tail good good_t expected s h =
      walk (good (numbered s) h) λ done t k. walk (good_t done.2 k.1 expected t k.0) λ v u l. settled_kept s.next_node at expected (rows.block_ty v done.1) (tree.Block done.0 v) u l

  pub if_alone_kept : (at : Pos) (c body : Typer) → KeepsTyper b c → KeepsTyper b body → KeepsTyper b (rows.if_alone at c body)
  if_alone_kept at c body good_c good_b expected s h =
      walk (good_c (Some bool) (numbered s) h) λ n t k. walk (good_b (Some unit) t k) λ m u l. settled_kept s.next_node at expected unit (tree.If n m absent) u l

  pub if_else_kept : (at : Pos) (c body otherwise : Typer) → KeepsTyper b c → KeepsTyper b body → KeepsTyper b otherwise →
      KeepsTyper b (rows.if_else at c body otherwise)
  if_else_kept at c body otherwise good_c good_b good_o expected s h =
      walk (good_c (Some bool) (numbered s) h) λ n t k. walk (good_b expected t k) λ m u l. walk (good_o expected u l) λ o v q.
      walk_found Rule.T03 at (rows.one_of_two v.items (ty_of m) (ty_of o)) _ λ ty is. settled_kept s.next_node at expected ty (tree.If n m (present o)) v q

  scrutinised_kept : {check : Check Node} → Keeps b check → Keeps b (rows.scrutinised check)
  scrutinised_kept good s h = walk (plain_kept good s h) λ n t k. walk_ends k

  pub if_let_alone_kept : (env : Env) (at : Pos) (scrutinee : Check Node) (matcher : Matcher) (body : List NamedEntry → Typer) →
      Keeps b scrutinee → KeepsMatcher b matcher → ((xs : List NamedEntry) → KeepsTyper b (body xs)) → KeepsTyper b
      (rows.if_let_alone env at scrutinee matcher body)
  if_let_alone_kept env at scrutinee matcher body good good_m good_b expected s h =
      walk (scrutinised_kept good (numbered s) h) λ n t k. walk (good_m _ (ty_of n) t k) λ p u l. walk (good_b p.1 (Some unit) u
      l) λ m v q. settled_kept s.next_node at expected unit (tree.IfLet p.0 n m absent) v q

  pub if_let_else_kept : (env : Env) (at : Pos) (scrutinee : Check Node) (matcher : Matcher) (body : List NamedEntry → Typer)
      (otherwise : Typer) → Keeps b scrutinee → KeepsMatcher b matcher → ((xs : List NamedEntry) → KeepsTyper b (body xs)) →
      KeepsTyper b otherwise → KeepsTyper b (rows.if_let_else env at scrutinee matcher body otherwise)
  if_let_else_kept env at scrutinee matcher body otherwise good good_m good_b good_o expected s h =
      walk (scrutinised_kept good (numbered s) h) λ n t k. walk (good_m _ (ty_of n) t k) λ p u l. walk (good_b p.1 expected u l) λ m
      v q. walk (good_o expected v q) λ o z w. walk_found Rule.T03 at (rows.one_of_two z.items (ty_of m) (ty_of o)) _ λ ty is.
      settled_kept s.next_node at expected ty (tree.IfLet p.0 n m (present o)) z w

  pub arm_kept : (check : Check (Node × List NamedEntry)) (guard : List NamedEntry → Check MaybeNode) (body : List NamedEntry → Typer) → Keeps
      b check → ((xs : List NamedEntry) → Keeps b (guard xs)) → ((xs : List NamedEntry) → KeepsTyper b (body xs)) → KeepsTyper b
      (rows.arm check guard body)
  arm_kept check guard body good good_g good_b expected s h =
      walk (good (numbered s) h) λ p t k. walk (good_g p.1 t k) λ g u l. walk (good_b p.1 expected u l) λ m v q. walk_ends q

  pub match_kept : (env : Env) (at : Pos) (scrutinee : Check Node) (arms : PatternContext → TyId → Option TyId → Check (Nodes × List
      TyId)) → Keeps b scrutinee → ((e : PatternContext) (ty : TyId) (expected : Option TyId) → Keeps b (arms e ty expected)) → KeepsTyper b
      (rows.match_row env at scrutinee arms)
  match_kept env at scrutinee arms good good_a expected s h =
      walk (scrutinised_kept good (numbered s) h) λ n t k. walk (good_a _ (ty_of n) expected t k) λ ns u l. walk_found Rule.T03 at
      (rows.one_type u.items ns.1) _ λ ty is. settled_kept s.next_node at expected ty (tree.Match n ns.0) u l

  -- ---- loops and jumps

  pub loop_kept : (at : Pos) (label : Option Word) (body : LabelledLoop → Typer) → ((a : LabelledLoop) → KeepsTyper b (body a)) → KeepsTyper
      b (rows.loop_row at label body)
  loop_kept at label body good expected s h =
      walk (good _ (Some unit) (numbered s) h) λ n t k. walk_found Rule.T03 at (rows.one_type t.items (types_for s.next_node
      t.breaks)) _ λ ty is. settled_kept s.next_node at expected ty (tree.Loop n) t k

  pub while_kept : (at : Pos) (label : Option Word) (c body : LabelledLoop → Typer) → ((a : LabelledLoop) → KeepsTyper b (c a)) → ((a :
      LabelledLoop) → KeepsTyper b (body a)) → KeepsTyper b (rows.while_row at label c body)
  while_kept at label c body good_c good_b expected s h =
      walk (good_c _ (Some bool) (numbered s) h) λ n t k. walk (good_b _ (Some unit) t k) λ m u l. settled_kept s.next_node at expected unit (tree.While n m) u l

  pub while_let_kept : (env : Env) (at : Pos) (label : Option Word) (scrutinee : LabelledLoop → Check Node) (matcher : Matcher) (body :
      LabelledLoop → List NamedEntry → Typer) → ((a : LabelledLoop) → Keeps b (scrutinee a)) → KeepsMatcher b matcher → ((a : LabelledLoop) (xs :
      List NamedEntry) → KeepsTyper b (body a xs)) → KeepsTyper b (rows.while_let_row env at label scrutinee matcher body)
  while_let_kept env at label scrutinee matcher body good good_m good_b expected s h =
      walk (scrutinised_kept (good _) (numbered s) h) λ n t k. walk (good_m _ (ty_of n) t k) λ p u l. walk (good_b _ p.1 (Some
      unit) u l) λ m v q. settled_kept s.next_node at expected unit (tree.WhileLet p.0 n m) v q

  pub break_kept : (at : Pos) (to : Option LabelledLoop) (value : Option TyId → Check MaybeNode) → ((expected : Option TyId) → Keeps b
      (value expected)) → KeepsTyper b (rows.break_row at to value)
  break_kept at to value good expected s h =
      walk (good _ (numbered s) h) λ v t k. walk_found Rule.T06 at to _ λ a is. walk_obeyed Rule.T06 at (rows.may_carry v a) _
      λ _. settled_kept s.next_node at expected never (tree.Break a.loop v) (record t { breaks = t.breaks ++ (a.loop, rows.ty_carried v) ∷ [] }) k

  pub continue_kept : (at : Pos) (to : Option LabelledLoop) → KeepsTyper b (rows.continue_row at to)
  continue_kept at to expected s h = walk_found Rule.T06 at to _ λ a is. settled_kept s.next_node at expected never (tree.Continue a.loop) (numbered s) h

  pub return_kept : (at : Pos) (answer : TyId) (value : Option TyId → Check MaybeNode) → ((expected : Option TyId) → Keeps b (value
      expected)) → KeepsTyper b (rows.return_row at answer value)
  return_kept at answer value good expected s h =
      walk (good (Some answer) (numbered s) h) λ v t k. walk_obeyed Rule.T03 at (rows.is_some_node v || is_unit t.items
      answer) _ λ _. settled_kept s.next_node at expected never (tree.Return v) t k

  -- ---- statements

  pub in_parts_kept : (env : Env) (any : Bool) (expected : Option TyId) (n : Node) (s : TypingState) → Inside b s.items
      →
      Walked (λ _ t. Inside b t.items) (rows.place_for_parts env any expected n s)
  in_parts_kept env any None n s h =
      walk_obeyed Rule.T08 (place_in_text n) (not (is_reference s.items (ty_of n))) _ λ _. walk_ends h
  in_parts_kept env any (Some expected) n s h =
      walk_obeyed Rule.T03 (place_in_text n) (any || (is_same (ty_of n) expected || not (is_never s.items (ty_of n))))
      _ λ _.
      by (fit s.items expected (ty_of n))
    where
      by : (how : Fit) → Walked (λ _ t. Inside b t.items) (rows.as_part env (Some expected) n how s)
      by Fits = walk_obeyed Rule.T08 (place_in_text n) (not (is_reference s.items (ty_of n))) _ λ _. walk_ends h
      by (Coerced trait_no) = taken_kept env (Some expected) n s h
      by Differs = taken_kept env (Some expected) n s h

  pub let_kept : (P : Env → Type 0) (at : Pos) (env : Env) (one : Bool) (written : Check (Option TyId)) (value : Option TyId →
      Check MaybeNode) (matcher : Matcher) (behind : List NamedEntry → Env) → ((xs : List NamedEntry) → P (behind xs)) → Keeps b written →
      ((expected : Option TyId) → Keeps b (value expected)) → KeepsMatcher b matcher → (s : TypingState) → Inside b s.items → Walked (λ done
      t. Inside b t.items × P done.2) (rows.let_row at env one written value matcher behind s)
  let_kept P at env one written value matcher behind stays good_w good_v good_m s h =
      walk (good_w (numbered s) h) λ ty t k. walk (good_v ty t k) λ v u l. walk_found Rule.T16 at (rows.let_ty ty v) _ λ x is.
      walk (good_m _ _ u l) λ p w m. walk_ends (m, stays p.1)

  pub evaluate_kept : (P : Env → Type 0) (at : Pos) (env : Env) (has_semicolon : Bool) (e : Typer) → P env → KeepsTyper b e →
      (s : TypingState) → Inside b s.items → Walked (λ done t. Inside b t.items × P done.2) (rows.evaluate at env has_semicolon e s)
  evaluate_kept P at env has_semicolon e stays good s h =
      walk (good None (numbered s) h) λ n t k. walk_obeyed Rule.T03 (place_in_text n) (has_semicolon || (is_unit t.items
      (ty_of n) || is_never t.items (ty_of n))) _ λ _. walk_ends (k, stays)
