-- An effect that may panic is done.
use Rattle.std.proofs.Common.{◌≡◌, ◌∙◌, ℕ, Some, sym, ap}
use Rattle.std.proofs.lemmas.Option.{none-some, same_Some}
use Rattle.lower_rules.specs.Build as build
use Rattle.lower_rules.specs.Build.{LoweringFrame, BlockRest, Building, Done, ByStmt, ByTerm, closed, ending, next_number, panic_drops, unwind_to}
use Rattle.cfg_graph.specs.declared.graph.Kind.{Kind}
use Rattle.cfg_graph.specs.declared.terminator.Term.{Term}
use Rattle.cfg_graph.specs.declared.terminator.Unwind.{Unwind}
use Rattle.src_meaning.specs.Scopes.{Scopes}
use Rattle.lower_passes.specs.Framed.{term_by}

pub done_is : (f : LoweringFrame) (node : ℕ) (by : Done) (S : Scopes) (k : BlockRest) (s : Building) (n : ℕ) (unwind : Unwind) (term : Term) (after : Building) → term_by by n unwind ≡ Some term → n ≡ next_number s → (unwind, after) ≡ unwind_to f (panic_drops f S) (closed Kind.Plain k s) → (ending term node, after) ≡ build.done f node by S k s
done_is f node (ByStmt stmt) S k s n unwind term after is number made = absurd (none-some term is)
done_is f node (ByTerm by) S k s n unwind term after is number made =
    ap (λ (t : Term). (ending t node, after)) (sym (same_Some (by n unwind) term is))
    ∙ (λ i. (ending (by (number i) (made i).0) node, (made i).1))
