-- Labels, and what a jump asks of the loop that it leaves: not its label.
use Rattle.std.proofs.Common.{◌≡◌, List, ℕ, suc, Option, Some, None, Result, Ok, Err, refl, ap, sym, ◌∙◌}
use Rattle.std.specs.Borrow.{Bor}
use Rattle.std.specs.Prelude.{option_map}
use Rattle.mir_base.specs.declared.place_in_text.Pos.{Pos}
use Rattle.mir_ty.specs.declared.ty.TyId.{TyId}
use Rattle.typeck_exprs.specs.Jumps.{unlabelled}
use Rattle.src_tree.specs.declared.node.SyntaxNode.{SyntaxNode}
use Rattle.src_ast.specs.Seen.{maybe_of, word_of}
use Rattle.typeck_env.specs.Scope.{word_in}
use Rattle.typed_tree.specs.Tree.{MaybeNode, Node, absent, present}
use Rattle.typing_rules.specs.Check.{Check, TypingState, Broken, ◌>>=◌, and_then, number, pure}
use Rattle.typing_rules.specs.Rows.{break_end, break_row, carried, continue_row, return_end}
use Rattle.typing_rules.specs.Scope.{LabelledLoop, Env, jumps_to}
use Rattle.typing_rules.specs.Typed.{typed, typed_maybe, value}
use Rattle.src_ast.specs.Syntax.{Syn, ReturnOf, just, nothing}

pub words_are : (label : Option (Bor (List ℕ))) → word_of label ≡ word_in label
words_are None = refl
words_are (Some label) = refl

pub break_unlabelled : (at : Pos) (to : Option LabelledLoop) (value : Option TyId → Check MaybeNode) (expected : Option TyId) (s : TypingState) →
    break_row at to value expected s ≡ break_row at (option_map unlabelled to) value expected s
break_unlabelled at None value expected s = refl
break_unlabelled at (Some a) value expected s = by (value a.expected (record s { next_node = suc s.next_node }))
  where
    by : (o : Result (MaybeNode × TypingState) Broken) →
        and_then o (λ v. break_end s.next_node at expected (Some a) v) ≡ and_then o (λ v. break_end s.next_node at expected (Some (unlabelled a)) v)
    by (Ok (absent, t)) = refl
    by (Ok (present n, t)) = refl
    by (Err e) = refl

pub continue_unlabelled : (at : Pos) (to : Option LabelledLoop) (expected : Option TyId) →
    continue_row at to expected ≡ continue_row at (option_map unlabelled to) expected
continue_unlabelled at None expected = refl
continue_unlabelled at (Some a) expected = refl

-- `break` with a value that was checked
pub broken_out : (e : Env) (at : Pos) (label : Option (Bor (List ℕ))) (x : Syn) (expected w : Option TyId) (id : ℕ) (n : Node) (to : Option LabelledLoop)
    (s s1 s2 : TypingState) → number s ≡ Ok (id, s1) → to ≡ option_map unlabelled (jumps_to e.loops (word_in label)) → w ≡ carried to →
    typed e x w s1 ≡ Ok (n, s2) →
    break_row at (jumps_to e.loops (word_of label)) (typed_maybe e (just x)) expected s ≡ break_end id at expected to (present n) s2
broken_out e at label x expected w id n to s s1 s2 h1 is wanted here =
    ap (λ l. break_row at (jumps_to e.loops l) (typed_maybe e (just x)) expected s) (words_are label)
    ∙ break_unlabelled at (jumps_to e.loops (word_in label)) (typed_maybe e (just x)) expected s
    ∙ ap (λ (j : Option LabelledLoop). break_row at j (typed_maybe e (just x)) expected s) (sym is)
    ∙ ap (λ o. and_then o (λ i. typed_maybe e (just x) (carried to) >>= (λ v. break_end i at expected to v))) h1
    ∙ ap (λ (k : Option TyId). and_then (and_then (typed e x k s1) (λ a. pure (present a))) (λ v. break_end id at expected to v)) (sym wanted)
    ∙ ap (λ o. and_then (and_then o (λ a. pure (present a))) (λ v. break_end id at expected to v)) here

-- `return` without a value
pub returned_alone : (e after : Env) (at : Pos) (given : Option (Bor SyntaxNode)) (expected : Option TyId) (id : ℕ) (s t : TypingState) →
    given ≡ None → number s ≡ Ok (id, t) → after ≡ e →
    value e at (ReturnOf (maybe_of given)) expected s ≡ return_end id at after.answer expected absent t
returned_alone e after at given expected id s t alone counted same =
    ap (λ (o : Option (Bor SyntaxNode)). value e at (ReturnOf (maybe_of o)) expected s) alone
    ∙ ap (λ o. and_then o (λ i. typed_maybe e nothing (Some e.answer) >>= (λ v. return_end i at e.answer expected v))) counted
    ∙ ap (λ (f : Env). return_end id at f.answer expected absent t) (sym same)
