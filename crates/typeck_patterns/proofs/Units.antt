-- Patterns of structs and variants: their node beside the bindings so far.
use Rattle.typeck_patterns.specs.NodeEnds.{partless_node, target_begun, target_node}
use Rattle.std.proofs.Common.{◌≡◌, ℕ, suc, Bool, true, false, ◌&&◌, not, List, Result, Ok, Err, refl, ap, sym, subst, ◌∙◌}
use Rattle.mir_base.specs.declared.place_in_text.Pos.{Pos}
use Rattle.mir_base.specs.declared.rule.Rule.{Rule}
use Rattle.mir_base.specs.declared.rule.RuleError.{RuleError}
use Rattle.mir_ty.specs.declared.ty.Ty.{Ty}
use Rattle.mir_ty.specs.declared.ty.TyId.{TyId}
use Rattle.typed_tree.specs.Tree.{Node, Fields, no_field}
use Rattle.typing_rules.specs.Check.{Check, TypingState, Broken, and_then, ◌>>=◌, ◌>>◌, pure, obeys, interned, the_items}
use Rattle.typing_rules.specs.Patterns.{BoundPattern, is_test, no_parts, of_target, parts_form, PatternTarget, target_end, tested_if}
use Rattle.typing_rules.specs.Places.{a_node_of}
use Rattle.typing_rules.specs.Rows.{PatternContext}
use Rattle.typing_rules.specs.Scope.{NamedEntry}
use Rattle.well_typed.specs.Types.{is_same}
use Rattle.typeck_heads.proofs.Sequences.{stopped}
use Rattle.typeck_checker.specs.Stand.{Gives}
use Rattle.typeck_checker.specs.declared.checker.Checker.{Checker}
use Rattle.typeck_patterns.specs.PatternContext.{GivesAnyhow, GivesBeside}

-- a node that a check gives, beside some bindings
pub beside : (o : Result (Node × TypingState) Broken) (r : Result (Unit {0}) RuleError) (bound : List NamedEntry) (c : Checker) → Gives o r c →
    GivesBeside (and_then o (λ n. pure (n, bound))) r bound c
beside o (Ok u) bound c h = ap (λ (p : Result (Node × TypingState) Broken). and_then p (λ n. pure (n, bound))) h
beside o (Err e) bound c h = stopped o (λ n. pure (n, bound)) e h

-- the end of the pattern of a struct or a variant, beside its bindings
abbrev pub target_bound : ℕ → Pos → Bool → TyId → PatternTarget → Fields → Bool → Bool → List NamedEntry → Check BoundPattern
target_bound id at takes_all ty t fields is_count is_known bound = do
  items ← the_items
  obeys Rule.T04 at is_count
  obeys Rule.T12 at is_known
  obeys Rule.T18 at (not (takes_all && is_test items t))
  pure (tested_if (is_test items t) (a_node_of id at ty (parts_form items t fields)), bound)

tested_beside : (at : Pos) (b : Bool) (n : Node) (bound : List NamedEntry) (s : TypingState) →
    (obeys Rule.T18 at b >> pure {A = BoundPattern} (n, bound)) s ≡ and_then ((obeys Rule.T18 at b >> pure n) s) (λ m. pure {A = BoundPattern} (m, bound))
tested_beside at true n bound s = refl
tested_beside at false n bound s = refl

pub ends_beside : (id : ℕ) (at : Pos) (takes_all : Bool) (ty : TyId) (t : PatternTarget) (fields : Fields) (is_count is_known : Bool)
    (bound : List NamedEntry) (s : TypingState) → target_bound id at takes_all ty t fields is_count is_known bound s
    ≡ and_then (target_node id at takes_all ty t fields is_count is_known s) (λ n. pure {A = BoundPattern} (n, bound))
ends_beside id at takes_all ty t fields true true bound s =
    tested_beside at (not (takes_all && is_test s.items t)) (tested_if (is_test s.items t) (a_node_of id at ty (parts_form s.items t fields))) bound s
ends_beside id at takes_all ty t fields true false bound s = refl
ends_beside id at takes_all ty t fields false is_known bound s = refl

-- ---- how such a pattern begins

same_begun : (at : Pos) (id : ℕ) (b : Bool) (tail : ℕ → Check BoundPattern) (s : TypingState) →
    (obeys Rule.T03 at b >> tail id) s ≡ and_then ((obeys Rule.T03 at b >> pure id) s) tail
same_begun at id true tail s = refl
same_begun at id false tail s = refl

begun : (at : Pos) (ty : TyId) (id : ℕ) (tail : ℕ → Check BoundPattern) (o : Result (TyId × TypingState) Broken) →
    and_then o (λ self. obeys Rule.T03 at (is_same ty self) >> tail id) ≡ and_then (and_then o (λ self. obeys Rule.T03 at (is_same ty self) >> pure id)) tail
begun at ty id tail (Ok p) = same_begun at id (is_same ty p.0) tail p.1
begun at ty id tail (Err e) = refl

pub begins : (at : Pos) (e : PatternContext) (ty : TyId) (t : PatternTarget) (parts : PatternContext → List TyId → Check (Fields × List NamedEntry × Bool × Bool)) (s : TypingState) →
    of_target at e ty t parts s ≡ and_then (target_begun at ty t s) (λ id. target_end id at e ty t parts)
begins at e ty t parts s =
    begun at ty s.next_node (λ id. target_end id at e ty t parts) (interned (Ty.Adt t.adt) (record s { next_node = suc s.next_node }))

-- ---- a pattern without parts

unit_by : (at : Pos) (e : PatternContext) (ty : TyId) (t : PatternTarget) (is_whole : Bool) (bound : List NamedEntry) (o : Result (ℕ × TypingState) Broken) →
    and_then o (λ id. target_end id at e ty t (no_parts bound is_whole))
    ≡ and_then (and_then o (λ id. target_node id at e.takes_all ty t no_field is_whole true)) (λ n. pure (n, bound))
unit_by at e ty t is_whole bound (Ok p) = ends_beside p.0 at e.takes_all ty t no_field is_whole true bound p.1
unit_by at e ty t is_whole bound (Err b) = refl

pub unit_beside : (at : Pos) (e : PatternContext) (ty : TyId) (t : PatternTarget) (is_whole : Bool) (bound : List NamedEntry) (s : TypingState) →
    of_target at e ty t (no_parts bound is_whole) s ≡ and_then (partless_node at e.takes_all ty t is_whole s) (λ n. pure (n, bound))
unit_beside at e ty t is_whole bound s =
    begins at e ty t (no_parts bound is_whole) s ∙ unit_by at e ty t is_whole bound (target_begun at ty t s)

-- ---- steps

pub then_given : {A B : Type 0} (p : Check A) (f : A → Check B) (s : TypingState) (a : A) (t : TypingState) → p s ≡ Ok (a, t) → (p >>= f) s ≡ f a t
then_given p f s a t h = ap (λ o. and_then o f) h

pub obeyed : {B : Type 0} (rule : Rule) (at : Pos) (b : Bool) (p : Check B) (s : TypingState) → b ≡ true → (obeys rule at b >> p) s ≡ p s
obeyed rule at b p s h = ap (λ (z : Bool). and_then (obeys rule at z s) (λ _. p)) h

-- what a check gives after any bindings, where another does the same
pub anyhow : (f g : List NamedEntry → Result (BoundPattern × TypingState) Broken) (r : Result (Unit {0}) RuleError) (c : Checker) → ((xs : List NamedEntry) → f xs ≡ g xs) →
    GivesAnyhow g r c → GivesAnyhow f r c
anyhow f g r c same h = λ xs. subst (λ o. GivesBeside o r xs c) (sym (same xs)) (h xs)
