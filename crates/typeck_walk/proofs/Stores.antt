-- Assignments, borrows and two operands, once their parts are checked.
use Rattle.std.proofs.Common.{◌≡◌, ℕ, Bool, Option, None, Some, Ok, ap, sym, ◌∙◌}
use Rattle.mir_base.specs.declared.place_in_text.Pos.{Pos}
use Rattle.mir_base.specs.declared.operator.Cmp.{Cmp}
use Rattle.mir_base.specs.declared.operator.Math.{Math}
use Rattle.mir_ty.specs.declared.ty.TyId.{TyId}
use Rattle.typed_tree.specs.Tree.{Node}
use Rattle.typing_rules.specs.Check.{Check, TypingState, ◌>>=◌, and_then, number, the_items}
use Rattle.typing_rules.specs.Rows.{arithmetic, arithmetic_end, borrow, borrow_end, comparison, comparison_end, if_int, no_reference, operands, store, store_end, Typer}
use Rattle.typing_rules.specs.Places.{wanted}
use Rattle.typing_rules.specs.Scope.{Env}
use Rattle.well_typed.specs.Places.{ty_of}

pub stored : (e f : Env) (at : Pos) (p : Check Node) (v : Typer) (expected : Option TyId) (id : ℕ) (b n : Node) (s s1 s2 s3 : TypingState) →
    number s ≡ Ok (id, s1) → (p >>= no_reference) s1 ≡ Ok (b, s2) → v (Some (ty_of b)) s2 ≡ Ok (n, s3) → f ≡ e →
    store e at p v expected s ≡ store_end f id at expected b n s3
stored e f at p v expected id b n s s1 s2 s3 h1 h2 h3 same =
    ap (λ o. and_then o (λ i. (p >>= no_reference) >>= (λ b. v (Some (ty_of b)) >>= (λ n. store_end e i at expected b n)))) h1
    ∙ ap (λ o. and_then o (λ b. v (Some (ty_of b)) >>= (λ n. store_end e id at expected b n))) h2
    ∙ ap (λ o. and_then o (λ n. store_end e id at expected b n)) h3
    ∙ ap (λ (g : Env). store_end g id at expected b n s3) (sym same)

pub borrowed : (at : Pos) (unique : Bool) (p : Check Node) (is_unique : Bool) (to : TyId) (id : ℕ) (b : Node) (s s1 s2 : TypingState) →
    number s ≡ Ok (id, s1) → (p >>= no_reference) s1 ≡ Ok (b, s2) →
    borrow at unique p to is_unique to s ≡ borrow_end id at unique is_unique to b s2
borrowed at unique p is_unique to id b s s1 s2 h1 h2 =
    ap (λ o. and_then o (λ i. (p >>= no_reference) >>= borrow_end i at unique is_unique to)) h1
    ∙ ap (λ o. and_then o (borrow_end id at unique is_unique to)) h2

-- two operands, once they are checked
pub calculated : (at : Pos) (operator : Math) (is_literal : Bool) (left right : Typer) (expected : Option TyId) (id : ℕ) (l r : Node) (s s1 s2 : TypingState) →
    number s ≡ Ok (id, s1) → operands is_literal (wanted if_int s1.items expected) left right s1 ≡ Ok ((l, r), s2) →
    arithmetic at operator is_literal left right expected s ≡ arithmetic_end id at operator expected l r s2
calculated at operator is_literal left right expected id l r s s1 s2 h1 h2 =
    ap (λ o. and_then o (λ i. the_items >>= (λ before. operands is_literal (wanted if_int before expected) left right >>= (λ both. arithmetic_end i at operator expected both.0 both.1)))) h1
    ∙ ap (λ o. and_then o (λ both. arithmetic_end id at operator expected both.0 both.1)) h2

pub compared : (at : Pos) (operator : Cmp) (is_literal : Bool) (left right : Typer) (expected : Option TyId) (id : ℕ) (l r : Node) (s s1 s2 : TypingState) →
    number s ≡ Ok (id, s1) → operands is_literal None left right s1 ≡ Ok ((l, r), s2) →
    comparison at operator is_literal left right expected s ≡ comparison_end id at operator expected l r s2
compared at operator is_literal left right expected id l r s s1 s2 h1 h2 =
    ap (λ o. and_then o (λ i. operands is_literal None left right >>= (λ both. comparison_end i at operator expected both.0 both.1))) h1
    ∙ ap (λ o. and_then o (λ both. comparison_end id at operator expected both.0 both.1)) h2
