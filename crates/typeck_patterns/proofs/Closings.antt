-- How patterns with parts end, once their parts are checked.
use Rattle.typeck_patterns.specs.NodeEnds.{counted_node, target_begun, target_node}
use Rattle.std.proofs.Common.{◌≡◌, ℕ, zero, suc, Bool, true, false, ◌&&◌, ◌||◌, List, [], ◌∷◌, length, nat_lt, replicate, reverse, take, Option, Some, None, Result, Ok, Err, refl, ap, sym, subst, ◌∙◌}
use Rattle.std.proofs.lemmas.List.{reverse-append}
use Rattle.typeck_checker.specs.Lists.{below_all, last_nodes, nodes_on}
use Rattle.typeck_heads.specs.Answers.{Refuses}
use Rattle.mir_base.specs.declared.place_in_text.Pos.{Pos}
use Rattle.mir_base.specs.declared.rule.Rule.{Rule}
use Rattle.mir_base.specs.declared.rule.RuleError.{RuleError}
use Rattle.mir_ty.specs.declared.adt.Variant.{Variant}
use Rattle.mir_ty.specs.declared.ty.TyId.{TyId}
use Rattle.typeck_patterns.specs.PatternContext.{GivesBeside}
use Rattle.typeck_patterns.specs.Fields.{below_given, below_on, fields_on, last_fields}
use Rattle.typeck_patterns.specs.Parts.{AreFirst, AreFirstIf}
use Rattle.typeck_patterns.specs.declared.parts.PartTypes.{PartTypes}
use Rattle.typeck_patterns.proofs.Alone.{numbered}
use Rattle.typeck_patterns.proofs.Units.{begins, beside, ends_beside, target_bound}
use Rattle.src_ast.specs.Syntax.{TuplePattern, ArrayPattern, Alternatives, Syns, no_syn, a_syn}
use Rattle.typeck_checker.specs.Stand.{Gives, below, top}
use Rattle.typeck_checker.specs.declared.checker.Checker.{Checker}
use Rattle.typed_tree.specs.Tree as tree
use Rattle.typed_tree.specs.Tree.{Node, Nodes, a_node, Fields, no_field, a_field, Form}
use Rattle.typing_rules.specs.Check.{Check, TypingState, Broken, and_then, ◌>>=◌, ◌>>◌, known, number, pure, obeys, the_items}
use Rattle.typing_rules.specs.Patterns.{BoundPattern, PatternTarget, alternatives_end, are_all_given, are_given_once, count_of, each_pattern, field_patterns, fields_from, fields_of, inside_of, is_count, is_tuple_count, of_target, part_patterns, parts_by_name, parts_in_order, pattern, pattern_form, sequence_end, target_end, tuple_types}
use Rattle.typing_rules.specs.Places.{a_node_of}
use Rattle.typing_rules.specs.Rows.{PatternContext, Given, are_known}
use Rattle.typing_rules.specs.Scope.{Env, NamedEntry}
use Rattle.well_typed.specs.Types.{array_of}
use Rattle.typeck_patterns.specs.Numbers.{numbers_below}

-- ---- structs and variants

abbrev Parts : Type 0
Parts = Fields × List NamedEntry × Bool × Bool

module _ (w : Env) (id : ℕ) (at : Pos) (e : PatternContext) (ty : TyId) (t : PatternTarget) where
  abbrev closed : Parts → Check BoundPattern
  closed qs = target_bound id at e.takes_all ty t qs.0 qs.2 qs.3 qs.1

  abbrev in_order : Syns → Bool → List TyId → Result ((Nodes × List NamedEntry) × TypingState) Broken → Result (BoundPattern × TypingState) Broken
  in_order parts dots tys o =
      and_then {A = Parts} (and_then o (λ ps. pure {A = Parts} (fields_from 0 ps.0, ps.1, is_tuple_count w t (count_of parts) (length tys) dots, true))) closed

  pub parts_close : (parts : Syns) (dots : Bool) (xs ys : List NamedEntry) (s u : TypingState) (k : ℕ) (ns : List Node) (b : Bool) (r : Result (Unit {0}) RuleError) (c : Checker) →
      part_patterns w (inside_of s.items ty e) (fields_of s.items t) parts xs s ≡ Ok ((last_nodes k ns, ys), u) →
      b ≡ is_tuple_count w t (count_of parts) (length (fields_of s.items t)) dots →
      Gives (target_node id at e.takes_all ty t (fields_from 0 (last_nodes k ns)) b true u) r c →
      GivesBeside (target_end id at e ty t (parts_in_order w t parts dots xs) s) r ys c
  parts_close parts dots xs ys s u k ns b r c here is gives =
      subst (λ o. GivesBeside o r ys c)
      (sym (ap (in_order parts dots (fields_of s.items t)) here
      ∙ ap (λ (z : Bool). target_bound id at e.takes_all ty t (fields_from 0 (last_nodes k ns)) z true ys u) (sym is)
      ∙ ends_beside id at e.takes_all ty t (fields_from 0 (last_nodes k ns)) b true ys u))
      (beside (target_node id at e.takes_all ty t (fields_from 0 (last_nodes k ns)) b true u) r ys c gives)

  pub parts_stop : (parts : Syns) (dots : Bool) (xs : List NamedEntry) (s : TypingState) (err : RuleError) →
      Refuses (part_patterns w (inside_of s.items ty e) (fields_of s.items t) parts xs s) err →
      Refuses (target_end id at e ty t (parts_in_order w t parts dots xs) s) err
  parts_stop parts dots xs s (RuleError.Broken rule p) h = ap (in_order parts dots (fields_of s.items t)) h
  parts_stop parts dots xs s RuleError.Memory h = tt

  abbrev by_name : Bool → List TyId → Result ((Fields × List NamedEntry × Given) × TypingState) Broken → Result (BoundPattern × TypingState) Broken
  by_name dots tys o =
      and_then {A = Parts} (and_then o (λ ps. pure {A = Parts} (ps.0, ps.1, are_given_once ps.2 && (dots || are_all_given (length tys) ps.2), are_known ps.2))) closed

  pub fields_close : (v : Variant) (fields : Syns) (dots : Bool) (xs ys : List NamedEntry) (s u : TypingState) (given : Given) (ns : List Node) (n : ℕ) (r : Result (Unit {0}) RuleError) (c : Checker) →
      field_patterns w (inside_of s.items ty e) v fields xs s ≡ Ok ((last_fields given ns, ys, given), u) →
      n ≡ length (fields_of s.items t) →
      Gives (target_node id at e.takes_all ty t (last_fields given ns) (are_given_once given && (dots || are_all_given n given)) (are_known given) u) r c →
      GivesBeside (target_end id at e ty t (parts_by_name w v fields dots xs) s) r ys c
  fields_close v fields dots xs ys s u given ns n r c here is gives =
      subst (λ o. GivesBeside o r ys c)
      (sym (ap (by_name dots (fields_of s.items t)) here
      ∙ ap (λ (z : ℕ). target_bound id at e.takes_all ty t (last_fields given ns) (are_given_once given && (dots || are_all_given z given)) (are_known given) ys u) (sym is)
      ∙ ends_beside id at e.takes_all ty t (last_fields given ns) (are_given_once given && (dots || are_all_given n given)) (are_known given) ys u))
      (beside (target_node id at e.takes_all ty t (last_fields given ns) (are_given_once given && (dots || are_all_given n given)) (are_known given) u) r ys c gives)

  pub fields_stop : (v : Variant) (fields : Syns) (dots : Bool) (xs : List NamedEntry) (s : TypingState) (err : RuleError) →
      Refuses (field_patterns w (inside_of s.items ty e) v fields xs s) err →
      Refuses (target_end id at e ty t (parts_by_name w v fields dots xs) s) err
  fields_stop v fields dots xs s (RuleError.Broken rule p) h = ap (by_name dots (fields_of s.items t)) h
  fields_stop v fields dots xs s RuleError.Memory h = tt

  -- once the type is known to be that of the place
  pub after_begun : (parts : PatternContext → List TyId → Check Parts) (s u : TypingState) → target_begun at ty t s ≡ Ok (id, u) →
      of_target at e ty t parts s ≡ target_end id at e ty t parts u
  after_begun parts s u h = begins at e ty t parts s ∙ ap (λ o. and_then o (λ id. target_end id at e ty t parts)) h

-- ---- types of as many parts as there are patterns are enough

then_same : {A B : Type 0} (o : Result (A × TypingState) Broken) (f g : A → Check B) → ((a : A) (u : TypingState) → f a u ≡ g a u) → and_then o f ≡ and_then o g
then_same (Ok p) f g h = h p.0 p.1
then_same (Err e) f g h = refl

pub first_parts : (w : Env) (e : PatternContext) (tys : List TyId) (ps : Syns) (xs : List NamedEntry) (s : TypingState) →
    part_patterns w e (take (count_of ps) tys) ps xs s ≡ part_patterns w e tys ps xs s
first_parts w e [] no_syn xs s = refl
first_parts w e (ty ∷ tys) no_syn xs s = refl
first_parts w e [] (a_syn first rest) xs s = refl
first_parts w e (ty ∷ tys) (a_syn first rest) xs s =
    then_same (pattern w e ty first xs s) (λ p. λ u. and_then (part_patterns w e (take (count_of rest) tys) rest p.1 u) (λ ps. pure (a_node p.0 ps.0, ps.1)))
    (λ p. λ u. and_then (part_patterns w e tys rest p.1 u) (λ ps. pure (a_node p.0 ps.0, ps.1)))
    (λ p u. ap (λ o. and_then o (λ ps. pure (a_node p.0 ps.0, ps.1))) (first_parts w e tys rest p.1 u))

-- ---- numbers of the first fields

up_fields : (k : ℕ) (ns : List Node) (others : Nodes) →
    fields_on (reverse (numbers_below k)) ns (fields_from k others) ≡ fields_from 0 (nodes_on k ns others)
up_fields zero ns others = refl
up_fields (suc n) ns others =
    ap (λ gs. fields_on gs ns (fields_from (suc n) others)) (reverse-append (numbers_below n) (Some n ∷ []))
    ∙ up_fields n (below ns) (a_node (top ns) others)

pub first_fields : (k : ℕ) (ns : List Node) → last_fields (numbers_below k) ns ≡ fields_from 0 (last_nodes k ns)
first_fields zero ns = refl
first_fields (suc n) ns = up_fields (suc n) ns _

pub first_below : (k : ℕ) (ns : List Node) → below_given (numbers_below k) ns ≡ below_all k ns
first_below zero ns = refl
first_below (suc n) ns =
    ap (λ gs. below_on gs ns) (reverse-append (numbers_below n) (Some n ∷ [])) ∙ first_below n (below ns)

-- ---- parts in their order

counted_beside : (id : ℕ) (at : Pos) (ty : TyId) (form : Form) (ys : List NamedEntry) (b : Bool) (u : TypingState) →
    (obeys Rule.T04 at b >> pure {A = BoundPattern} (a_node_of id at ty form, ys)) u ≡ and_then (counted_node id at ty form b u) (λ n. pure {A = BoundPattern} (n, ys))
counted_beside id at ty form ys true u = refl
counted_beside id at ty form ys false u = refl

pub order_close : (w : Env) (id : ℕ) (at : Pos) (e : PatternContext) (ty : TyId) (tys : List TyId) (n : ℕ) (form : Nodes → Form) (parts : Syns) (dots : Bool) (xs ys : List NamedEntry) (s u : TypingState) (ns : Nodes) (b : Bool) (r : Result (Unit {0}) RuleError) (c : Checker) →
    part_patterns w e tys parts xs s ≡ Ok ((ns, ys), u) → b ≡ is_count dots (count_of parts) n → Gives (counted_node id at ty (form ns) b u) r c →
    GivesBeside (sequence_end id at ty form dots (count_of parts) n (part_patterns w e tys parts xs) s) r ys c
order_close w id at e ty tys n form parts dots xs ys s u ns b r c here is gives =
    subst (λ o. GivesBeside o r ys c)
    (sym (ap (λ o. and_then {B = BoundPattern} o (λ ps. obeys Rule.T04 at (is_count dots (count_of parts) n) >> pure {A = BoundPattern} (a_node_of id at ty (form ps.0), ps.1))) here
    ∙ ap (λ (z : Bool). (obeys Rule.T04 at z >> pure {A = BoundPattern} (a_node_of id at ty (form ns), ys)) u) (sym is)
    ∙ counted_beside id at ty (form ns) ys b u))
    (beside (counted_node id at ty (form ns) b u) r ys c gives)

-- the types of the parts of a tuple, where it is one
pub first_if : (given : ℕ) (o : Option (List TyId)) (p : Option PartTypes) (types : PartTypes) → AreFirstIf given o p → p ≡ Some types →
    (tys : List TyId) × (o ≡ Some tys) × AreFirst given tys types
first_if given (Some tys) (Some p) types h is = (tys, refl, subst (λ (o : Option PartTypes). AreFirstIf given (Some tys) o) is h)
first_if given (Some tys) None types h is = absurd h
first_if given None (Some p) types h is = absurd h
first_if given None None types h is = absurd (cc)

pub tuple_is : (w : Env) (at : Pos) (e : PatternContext) (ty : TyId) (parts : Syns) (dots : Bool) (xs : List NamedEntry) (s t : TypingState) (id : ℕ) (tys : List TyId) →
    number s ≡ Ok (id, t) → tuple_types t.items ty (count_of parts) dots ≡ Some tys →
    pattern_form w e ty at (TuplePattern parts dots) xs s ≡ sequence_end id at ty tree.TuplePattern dots (count_of parts) (length tys) (part_patterns w e tys parts xs) t
tuple_is w at e ty parts dots xs s t id tys here is =
    numbered (λ id. the_items >>= (λ items. known Rule.T03 at (tuple_types items ty (count_of parts) dots) >>= (λ tys. sequence_end id at ty tree.TuplePattern dots (count_of parts) (length tys) (part_patterns w e tys parts xs)))) s t id here
    ∙ ap (λ o. and_then {B = BoundPattern} (known {A = List TyId} Rule.T03 at o t) (λ tys. sequence_end id at ty tree.TuplePattern dots (count_of parts) (length tys) (part_patterns w e tys parts xs))) is

pub array_is : (w : Env) (at : Pos) (e : PatternContext) (ty : TyId) (parts : Syns) (dots : Bool) (xs : List NamedEntry) (s t : TypingState) (id : ℕ) (element : TyId) (count : ℕ) →
    number s ≡ Ok (id, t) → array_of t.items ty ≡ Some (element, count) →
    pattern_form w e ty at (ArrayPattern parts dots) xs s ≡ sequence_end id at ty tree.ArrayPattern dots (count_of parts) count (part_patterns w e (replicate count element) parts xs) t
array_is w at e ty parts dots xs s t id element count here is =
    numbered (λ id. the_items >>= (λ items. known Rule.T03 at (array_of items ty) >>= (λ a. sequence_end id at ty tree.ArrayPattern dots (count_of parts) a.1 (part_patterns w e (replicate a.1 a.0) parts xs)))) s t id here
    ∙ ap (λ o. and_then {B = BoundPattern} (known {A = TyId × ℕ} Rule.T03 at o t) (λ a. sequence_end id at ty tree.ArrayPattern dots (count_of parts) a.1 (part_patterns w e (replicate a.1 a.0) parts xs))) is

-- alternatives, where there are two or more
pub or_is : (w : Env) (at : Pos) (e : PatternContext) (ty : TyId) (ps : Syns) (xs : List NamedEntry) (s t : TypingState) (id : ℕ) →
    number s ≡ Ok (id, t) → nat_lt 1 (count_of ps) ≡ true →
    pattern_form w e ty at (Alternatives ps) xs s ≡ alternatives_end id at ty xs (each_pattern w e ty ps xs) t
or_is w at e ty ps xs s t id here several =
    numbered (λ id. obeys Rule.T20 at (nat_lt 1 (count_of ps)) >> alternatives_end id at ty xs (each_pattern w e ty ps xs)) s t id here
    ∙ ap (λ (b : Bool). (obeys Rule.T20 at b >> alternatives_end id at ty xs (each_pattern w e ty ps xs)) t) several
