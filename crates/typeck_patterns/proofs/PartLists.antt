-- Patterns one behind another: what the check of all gives is what it gives of the rest, behind the nodes so far.
use Rattle.std.proofs.Common.{◌≡◌, ℕ, suc, ◌+◌, ◌<◌, get_or, length, List, [], ◌∷◌, ◌++◌, append_assoc, drop, reverse, Option, Some, None, Result, Ok, Err, refl, ap, sym, ◌∙◌, arith}
use Rattle.std.proofs.Math.Seq.{drop-cons}
use Rattle.std.proofs.lemmas.List.{reverse-append}
use Rattle.typeck_checker.specs.Lists.{below_all, nodes_on}
use Rattle.typeck_heads.specs.Answers.{Refuses}
use Rattle.mir_base.specs.declared.rule.RuleError.{RuleError}
use Rattle.mir_ty.specs.declared.adt.Variant.{Variant}
use Rattle.mir_ty.specs.declared.ty.TyId.{TyId}
use Rattle.typeck_patterns.specs.Fields.{below_given, below_if, below_on, fields_on, with_last}
use Rattle.src_ast.specs.Syntax.{Syn, Syns, no_syn, a_syn}
use Rattle.typeck_checker.specs.Stand.{below, top}
use Rattle.typed_tree.specs.Tree.{Node, Nodes, no_node, a_node, Fields}
use Rattle.typing_rules.specs.Check.{Check, TypingState, Broken, and_then, pure}
use Rattle.typing_rules.specs.Patterns.{each_pattern, field_pattern, field_patterns, part_patterns, pattern, with_field}
use Rattle.typing_rules.specs.Rows.{PatternContext, Given}
use Rattle.typing_rules.specs.Scope.{Env, NamedEntry}
use Rattle.typeck_patterns.specs.Answers.{field_if}

-- ---- patterns in their order

abbrev pub Listed : Type 0
Listed = Result ((Nodes × List NamedEntry) × TypingState) Broken

-- behind as many nodes, the last of them on top
abbrev pub behind : ℕ → List Node → Listed → Listed
behind k ns (Ok p) = Ok ((nodes_on k ns p.0.0, p.0.1), p.1)
behind k ns (Err e) = Err e

pub nothing_before : (ns : List Node) (o : Listed) → o ≡ behind 0 ns o
nothing_before ns (Ok p) = refl
nothing_before ns (Err e) = refl

one_node : (k m : ℕ) (ns more : List Node) (o : Listed) → below more ≡ ns → m ≡ k + 1 →
    behind k ns (and_then o (λ ps. pure (a_node (top more) ps.0, ps.1))) ≡ behind m more o
one_node k m ns more (Ok p) under next =
    ap (λ (l : List Node). Ok ((nodes_on k l (a_node (top more) p.0.0), p.0.1), p.1)) (sym under)
    ∙ ap (λ (n : ℕ). Ok ((nodes_on n more p.0.0, p.0.1), p.1)) (let same : suc k ≡ m = omega (arith, next) in same)
one_node k m ns more (Err e) under next = refl

pub one_under : (k m : ℕ) (ns more origin : List Node) → below_all k ns ≡ origin → below more ≡ ns → m ≡ k + 1 →
    below_all m more ≡ origin
one_under k m ns more origin h under next =
    ap (λ (n : ℕ). below_all n more) (let same : m ≡ suc k = omega (arith, next) in same) ∙ ap (below_all k) under ∙ h

stopped_behind : {A : Type 0} (k : ℕ) (ns : List Node) (o : Result (A × TypingState) Broken) (f : A → Check (Nodes × List NamedEntry)) (err : RuleError) →
    Refuses o err → Refuses (behind k ns (and_then o f)) err
stopped_behind k ns o f (RuleError.Broken rule at) h = ap (λ p. behind k ns (and_then p f)) h
stopped_behind k ns o f RuleError.Memory h = tt

module _ (w : Env) (e : PatternContext) (ty : TyId) where
  pub each_step : (whole : Listed) (k m : ℕ) (ns more : List Node) (ss : Syns) (first : Syn) (rest : Syns) (xs ys : List NamedEntry) (s t : TypingState) →
      whole ≡ behind k ns (each_pattern w e ty ss xs s) → a_syn first rest ≡ ss → pattern w e ty first xs s ≡ Ok ((top more, ys), t) →
      below more ≡ ns → m ≡ k + 1 → whole ≡ behind m more (each_pattern w e ty rest ys t)
  each_step whole k m ns more ss first rest xs ys s t h split here under next =
      h ∙ ap (λ z. behind k ns (each_pattern w e ty z xs s)) (sym split)
      ∙ ap (λ o. behind k ns (and_then o (λ p. λ u. and_then (each_pattern w e ty rest p.1 u) (λ ps. pure (a_node p.0 ps.0, ps.1))))) here
      ∙ one_node k m ns more (each_pattern w e ty rest ys t) under next

  pub each_stop : (whole : Listed) (k : ℕ) (ns : List Node) (ss : Syns) (first : Syn) (rest : Syns) (xs : List NamedEntry) (s : TypingState) (err : RuleError) →
      whole ≡ behind k ns (each_pattern w e ty ss xs s) → a_syn first rest ≡ ss → Refuses (pattern w e ty first xs s) err → Refuses whole err
  each_stop whole k ns ss first rest xs s (RuleError.Broken rule at) h split here =
      h ∙ ap (λ z. behind k ns (each_pattern w e ty z xs s)) (sym split)
      ∙ stopped_behind k ns (pattern w e ty first xs s) (λ p. λ u. and_then (each_pattern w e ty rest p.1 u) (λ ps. pure (a_node p.0 ps.0, ps.1))) (RuleError.Broken rule at) here
  each_stop whole k ns ss first rest xs s RuleError.Memory h split here = tt

module _ (w : Env) (e : PatternContext) where
  pub part_step : (whole : Listed) (k m : ℕ) (ns more : List Node) (tys later : List TyId) (ty : TyId) (ss : Syns) (first : Syn) (rest : Syns) (xs ys : List NamedEntry) (s t : TypingState) →
      whole ≡ behind k ns (part_patterns w e tys ss xs s) → tys ≡ ty ∷ later → a_syn first rest ≡ ss → pattern w e ty first xs s ≡ Ok ((top more, ys), t) →
      below more ≡ ns → m ≡ k + 1 → whole ≡ behind m more (part_patterns w e later rest ys t)
  part_step whole k m ns more tys later ty ss first rest xs ys s t h cons split here under next =
      h ∙ ap (λ z. behind k ns (part_patterns w e z ss xs s)) cons ∙ ap (λ z. behind k ns (part_patterns w e (ty ∷ later) z xs s)) (sym split)
      ∙ ap (λ o. behind k ns (and_then o (λ p. λ u. and_then (part_patterns w e later rest p.1 u) (λ ps. pure (a_node p.0 ps.0, ps.1))))) here
      ∙ one_node k m ns more (part_patterns w e later rest ys t) under next

  pub part_stop : (whole : Listed) (k : ℕ) (ns : List Node) (tys later : List TyId) (ty : TyId) (ss : Syns) (first : Syn) (rest : Syns) (xs : List NamedEntry) (s : TypingState) (err : RuleError) →
      whole ≡ behind k ns (part_patterns w e tys ss xs s) → tys ≡ ty ∷ later → a_syn first rest ≡ ss → Refuses (pattern w e ty first xs s) err → Refuses whole err
  part_stop whole k ns tys later ty ss first rest xs s (RuleError.Broken rule at) h cons split here =
      h ∙ ap (λ z. behind k ns (part_patterns w e z ss xs s)) cons ∙ ap (λ z. behind k ns (part_patterns w e (ty ∷ later) z xs s)) (sym split)
      ∙ stopped_behind k ns (pattern w e ty first xs s) (λ p. λ u. and_then (part_patterns w e later rest p.1 u) (λ ps. pure (a_node p.0 ps.0, ps.1))) (RuleError.Broken rule at) here
  part_stop whole k ns tys later ty ss first rest xs s RuleError.Memory h cons split here = tt

  -- no part is left, or no type
  part_none : (tys : List TyId) (xs : List NamedEntry) (s : TypingState) → part_patterns w e tys no_syn xs s ≡ Ok ((no_node, xs), s)
  part_none [] xs s = refl
  part_none (ty ∷ tys) xs s = refl

  part_past : (ss : Syns) (xs : List NamedEntry) (s : TypingState) → part_patterns w e [] ss xs s ≡ Ok ((no_node, xs), s)
  part_past no_syn xs s = refl
  part_past (a_syn first rest) xs s = refl

  pub parts_done : (whole : Listed) (k : ℕ) (ns : List Node) (tys : List TyId) (ss : Syns) (xs : List NamedEntry) (s : TypingState) →
      whole ≡ behind k ns (part_patterns w e tys ss xs s) → no_syn ≡ ss → whole ≡ Ok ((nodes_on k ns no_node, xs), s)
  parts_done whole k ns tys ss xs s h none =
      h ∙ ap (λ z. behind k ns (part_patterns w e tys z xs s)) (sym none) ∙ ap (behind k ns) (part_none tys xs s)

  pub parts_past : (whole : Listed) (k : ℕ) (ns : List Node) (tys : List TyId) (ss : Syns) (xs : List NamedEntry) (s : TypingState) →
      whole ≡ behind k ns (part_patterns w e tys ss xs s) → tys ≡ [] → whole ≡ Ok ((nodes_on k ns no_node, xs), s)
  parts_past whole k ns tys ss xs s h none =
      h ∙ ap (λ z. behind k ns (part_patterns w e z ss xs s)) none ∙ ap (behind k ns) (part_past ss xs s)

-- ---- fields by their names

abbrev pub ListedFields : Type 0
ListedFields = Result ((Fields × List NamedEntry × Given) × TypingState) Broken

abbrev pub fields_behind : Given → List Node → ListedFields → ListedFields
fields_behind given ns (Ok p) = Ok ((fields_on (reverse given) ns p.0.0, p.0.1, given ++ p.0.2), p.1)
fields_behind given ns (Err e) = Err e

pub none_before : (ns : List Node) (o : ListedFields) → o ≡ fields_behind [] ns o
none_before ns (Ok p) = refl
none_before ns (Err e) = refl

field_before : (g : Option ℕ) (ns : List Node) (fs : Fields) → with_field (field_if g ns) fs ≡ with_last g ns fs
field_before None ns fs = refl
field_before (Some n) ns fs = refl

last_first : (given : Given) (g : Option ℕ) → reverse (given ++ g ∷ []) ≡ g ∷ reverse given
last_first given g = reverse-append given (g ∷ [])

one_field : (given later : Given) (g : Option ℕ) (ns more : List Node) (o : ListedFields) → below_if g more ≡ ns → later ≡ given ++ g ∷ [] →
    fields_behind given ns (and_then o (λ ps. pure (with_field (field_if g more) ps.0, ps.1, g ∷ ps.2))) ≡ fields_behind later more o
one_field given later g ns more (Ok p) under next =
    ap (λ (fs : Fields). Ok ((fields_on (reverse given) ns fs, p.0.1, given ++ g ∷ p.0.2), p.1)) (field_before g more p.0.0)
    ∙ ap (λ (l : List Node). Ok ((fields_on (reverse given) l (with_last g more p.0.0), p.0.1, given ++ g ∷ p.0.2), p.1)) (sym under)
    ∙ ap (λ (gs : Given). Ok ((fields_on gs more p.0.0, p.0.1, given ++ g ∷ p.0.2), p.1)) (sym (last_first given g))
    ∙ ap (λ (gs : Given). Ok ((fields_on (reverse (given ++ g ∷ [])) more p.0.0, p.0.1, gs), p.1)) (sym (append_assoc given (g ∷ []) p.0.2))
    ∙ ap (λ (gs : Given). Ok ((fields_on (reverse gs) more p.0.0, p.0.1, gs ++ p.0.2), p.1)) (sym next)
one_field given later g ns more (Err e) under next = refl

pub field_under : (given later : Given) (g : Option ℕ) (ns more origin : List Node) → below_given given ns ≡ origin → below_if g more ≡ ns →
    later ≡ given ++ g ∷ [] → below_given later more ≡ origin
field_under given later g ns more origin h under next =
    ap (λ gs. below_given gs more) next ∙ ap (λ gs. below_on gs more) (last_first given g) ∙ ap (below_given given) under ∙ h

stopped_fields : {A : Type 0} (given : Given) (ns : List Node) (o : Result (A × TypingState) Broken) (f : A → Check (Fields × List NamedEntry × Given)) (err : RuleError) →
    Refuses o err → Refuses (fields_behind given ns (and_then o f)) err
stopped_fields given ns o f (RuleError.Broken rule at) h = ap (λ p. fields_behind given ns (and_then p f)) h
stopped_fields given ns o f RuleError.Memory h = tt

module _ (w : Env) (e : PatternContext) (v : Variant) where
  pub field_step : (whole : ListedFields) (given later : Given) (g : Option ℕ) (ns more : List Node) (ss : Syns) (first : Syn) (rest : Syns) (xs ys : List NamedEntry) (s t : TypingState) →
      whole ≡ fields_behind given ns (field_patterns w e v ss xs s) → a_syn first rest ≡ ss → field_pattern w e v first xs s ≡ Ok ((field_if g more, ys, g), t) →
      below_if g more ≡ ns → later ≡ given ++ g ∷ [] → whole ≡ fields_behind later more (field_patterns w e v rest ys t)
  field_step whole given later g ns more ss first rest xs ys s t h split here under next =
      h ∙ ap (λ z. fields_behind given ns (field_patterns w e v z xs s)) (sym split)
      ∙ ap (λ o. fields_behind given ns (and_then o (λ p. λ u. and_then (field_patterns w e v rest p.1 u) (λ ps. pure (with_field p.0 ps.0, ps.1, p.2 ∷ ps.2))))) here
      ∙ one_field given later g ns more (field_patterns w e v rest ys t) under next

  pub field_stop : (whole : ListedFields) (given : Given) (ns : List Node) (ss : Syns) (first : Syn) (rest : Syns) (xs : List NamedEntry) (s : TypingState) (err : RuleError) →
      whole ≡ fields_behind given ns (field_patterns w e v ss xs s) → a_syn first rest ≡ ss → Refuses (field_pattern w e v first xs s) err → Refuses whole err
  field_stop whole given ns ss first rest xs s (RuleError.Broken rule at) h split here =
      h ∙ ap (λ z. fields_behind given ns (field_patterns w e v z xs s)) (sym split)
      ∙ stopped_fields given ns (field_pattern w e v first xs s) (λ p. λ u. and_then (field_patterns w e v rest p.1 u) (λ ps. pure (with_field p.0 ps.0, ps.1, p.2 ∷ ps.2))) (RuleError.Broken rule at) here
  field_stop whole given ns ss first rest xs s RuleError.Memory h split here = tt

pub drop_next : {X : Type 0} (xs : List X) (n : ℕ) (d : X) → n < length xs → drop n xs ≡ get_or xs n d ∷ drop (n + 1) xs
drop_next xs n d below =
    drop-cons xs n d below ∙ (let k : suc n ≡ n + 1 = omega arith in ap (λ (m : ℕ). get_or xs n d ∷ drop m xs) k)
