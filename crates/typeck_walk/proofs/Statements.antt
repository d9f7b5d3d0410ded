-- Statements by the forms that are borrowed from them, and one after another.
use Rattle.std.proofs.Common.{◌≡◌, ◌≤◌, ℕ, suc, Bool, true, false, ◌||◌, List, [], ◌∷◌, ◌++◌, length, Result, Ok, Err, refl, ap, sym, ◌∙◌, arith, add-one}
use Rattle.src_tree.specs.declared.node.SyntaxNode.{SyntaxNode}
use Rattle.src_ast.specs.Expressions.{statement_of}
use Rattle.src_ast.specs.Seen.{syn_of}
use Rattle.src_ast.specs.declared.statement.StatementForm.{StatementForm}
use Rattle.src_ast.specs.Sorts.{statement_part}
use Rattle.src_ast.specs.Syntax.{Syn, syn, at_of, shape_of, AStatement, LetOf, Syns, a_syn}
use Rattle.src_ast.proofs.Named.{seen_as}
use Rattle.typed_tree.specs.Tree as tree
use Rattle.typed_tree.specs.Tree.{Nodes, a_node}
use Rattle.typing_rules.specs.Check.{TypingState, Broken, and_then, pure}
use Rattle.typing_rules.specs.Scope.{Env, NamedEntry, joined, with_variables}
use Rattle.typing_rules.specs.Typed.{statement, typed_all, with_statement}
use Rattle.typeck_checker.specs.Lists.{below_all, nodes_on}
use Rattle.typeck_checker.specs.Scopes.{OnlyPlace, with_only}
use Rattle.typeck_checker.proofs.Left.{leaves}
use Rattle.typeck_checker.specs.Stand.{Stays, below, env, stack, top}
use Rattle.typeck_checker.specs.declared.checker.Checker.{Checker}
use Rattle.typeck_walk.specs.Blocks.{Grows, behind_statements, below_if, last_if, more_if, statement_as}

pub statement_seen : (e : Env) (n : SyntaxNode) (s : TypingState) →
    statement e (syn_of n) s ≡ statement_as e (syn_of n) n.at (statement_part (shape_of (syn_of n))) s
statement_seen e n s =
    of_syn (syn_of n) ∙ ap (λ (x : Syn). statement_as e (syn_of n) (at_of x) (statement_part (shape_of (syn_of n))) s) (seen_as n)
  where
    of_syn : (x : Syn) → statement e x s ≡ statement_as e x (at_of x) (statement_part (shape_of x)) s
    of_syn (syn at (AStatement (LetOf a b c))) = refl
    of_syn (syn at _) = refl

-- the same by the form that was found
pub statement_by : (e : Env) (n : SyntaxNode) (s : TypingState) (found seen : StatementForm) →
    statement_of found ≡ statement_part (shape_of (syn_of n)) → found ≡ seen →
    statement e (syn_of n) s ≡ statement_as e (syn_of n) n.at (statement_of seen) s
statement_by e n s found seen of_node is =
    statement_seen e n s ∙ ap (λ o. statement_as e (syn_of n) n.at o s) (sym of_node)
    ∙ ap (λ (f : StatementForm). statement_as e (syn_of n) n.at (statement_of f) s) is

-- ---- one more

or_assoc : (a b c : Bool) → (a || (b || c)) ≡ ((a || b) || c)
or_assoc true b c = refl
or_assoc false b c = refl

one_behind : (k : ℕ) (is_made ends b : Bool) (ns ms : List tree.Node) (o : Result ((Nodes × Bool × Env) × TypingState) Broken) →
    below_if is_made ms ≡ ns →
    behind_statements k b ns (and_then o (λ more. pure (with_statement (last_if is_made ms) more.0, ends || more.1, more.2)))
    ≡ behind_statements (more_if is_made k) (b || ends) ms o
one_behind k true ends b ns ms (Ok p) h =
    ap (λ (l : List tree.Node). Ok ((nodes_on k l (a_node (top ms) p.0.0), b || (ends || p.0.1), p.0.2), p.1)) (sym h)
    ∙ ap (λ (c : Bool). Ok ((nodes_on (suc k) ms p.0.0, c, p.0.2), p.1)) (or_assoc b ends p.0.1)
    ∙ ap (λ (n : ℕ). Ok ((nodes_on n ms p.0.0, (b || ends) || p.0.1, p.0.2), p.1)) (sym (add-one k))
one_behind k false ends b ns ms (Ok p) h =
    ap (λ (l : List tree.Node). Ok ((nodes_on k l p.0.0, b || (ends || p.0.1), p.0.2), p.1)) (sym h)
    ∙ ap (λ (c : Bool). Ok ((nodes_on k ms p.0.0, c, p.0.2), p.1)) (or_assoc b ends p.0.1)
one_behind k true ends b ns ms (Err e) h = refl
one_behind k false ends b ns ms (Err e) h = refl

pub one_statement : (e f : Env) (whole : Result ((Nodes × Bool × Env) × TypingState) Broken) (k m : ℕ) (is_made ends b c : Bool)
    (ns ms : List tree.Node) (ss : Syns) (x : Syn) (xs : Syns) (s t : TypingState) →
    whole ≡ behind_statements k b ns (typed_all e ss s) → a_syn x xs ≡ ss →
    statement e x s ≡ Ok ((last_if is_made ms, ends, f), t) → below_if is_made ms ≡ ns → m ≡ more_if is_made k → c ≡ (b || ends) →
    whole ≡ behind_statements m c ms (typed_all f xs t)
one_statement e f whole k m is_made ends b c ns ms ss x xs s t h split here under next or =
    h ∙ ap (λ z. behind_statements k b ns (typed_all e z s)) (sym split)
    ∙ ap (λ o. behind_statements k b ns (and_then o (λ n. λ u. and_then (typed_all n.2 xs u) (λ more. pure (with_statement n.0 more.0, n.1 || more.1, more.2))))) here
    ∙ one_behind k is_made ends b ns ms (typed_all f xs t) under
    ∙ ap (λ (n : ℕ). behind_statements n (b || ends) ms (typed_all f xs t)) (sym next)
    ∙ ap (λ (d : Bool). behind_statements m d ms (typed_all f xs t)) (sym or)

-- ---- variables that came into scope

joined_both : (xs ys old : List NamedEntry) → joined ys (joined xs old) ≡ joined (xs ++ ys) old
joined_both [] ys old = refl
joined_both (x ∷ xs) ys old = joined_both xs ys (x ∷ old)

pub grows_on : (a b c : Checker) → Grows a b → Grows b c → Grows a c
grows_on a b c (x, t) (y, u) =
    ((x.0 ++ y.0, y.1 ∙ ap (with_variables y.0) x.1 ∙ ap (λ vs. record (env a) { variables = vs }) (joined_both x.0 y.0 (env a).variables)), u ∙ t)

joined_length : (xs old : List NamedEntry) → length old ≤ length (joined xs old)
joined_length [] old = omega arith
joined_length (x ∷ xs) old = omega (arith, joined_length xs (x ∷ old))

pub grown_length : (a b : Checker) → Grows a b → length (env a).variables ≤ length (env b).variables
grown_length a b (x, t) = omega (arith, joined_length x.0 (env a).variables, ap (λ (e : Env). length e.variables) x.1)

-- what came into scope goes out of it
pub left_grown : (a b c : Checker) → Grows a b → env c ≡ with_only (length (env a).variables) (env b) → env c ≡ env a
left_grown a b c (x, t) h =
    h ∙ ap (with_only (length (env a).variables)) x.1 ∙ leaves x.0 (env a)

-- a block is left
pub block_left : (a b c : Checker) (n : ℕ) → OnlyPlace b c → n ≡ length (env a).variables → env c ≡ with_only n (env b) →
    below (stack b) ≡ stack a → Grows a b → (below (stack c) ≡ stack a) × Stays a c
block_left a b c n (same, walked, tables) is left under (x, t) =
    (ap below same ∙ under, (left_grown a b c (x, t) (left ∙ ap (λ (k : ℕ). with_only k (env b)) is), tables ∙ t))

-- what stands below one statement more
pub below_statement : (k m : ℕ) (is_made : Bool) (ns ms others : List tree.Node) → below_all k ns ≡ others → below_if is_made ms ≡ ns → m ≡ more_if is_made k →
    below_all m ms ≡ others
below_statement k m true ns ms others h under next =
    ap (λ (n : ℕ). below_all n ms) (next ∙ add-one k) ∙ ap (below_all k) under ∙ h
below_statement k m false ns ms others h under next = ap (λ (n : ℕ). below_all n ms) next ∙ ap (below_all k) under ∙ h

-- what was entered around an expression is left behind it
pub scoped_grows : (a b d : Checker) (xs : List NamedEntry) → env b ≡ with_variables xs (env a) → OnlyPlace a b → Stays b d → Grows a d
scoped_grows a b d xs entered (same, walked, tables) (stays, same_tables) = ((xs, stays ∙ entered), same_tables ∙ tables)

pub scope_left : (a b d f : Checker) (n : ℕ) (xs : List NamedEntry) → env b ≡ with_variables xs (env a) → OnlyPlace a b → below (stack d) ≡ stack b → Stays b d →
    OnlyPlace d f → n ≡ length (env a).variables → env f ≡ with_only n (env d) → (below (stack f) ≡ stack a) × Stays a f
scope_left a b d f n xs entered (same, walked, tables) under stays only is left =
    block_left a d f n only is left (under ∙ same) (scoped_grows a b d xs entered (same, walked, tables) stays)
