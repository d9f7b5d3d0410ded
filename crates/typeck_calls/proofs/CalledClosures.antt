-- Closures that are called, behind their arguments.
use Rattle.std.proofs.Common.{◌≡◌, ℕ, Option, Some, None, slice_get, refl, ap, sym, ◌∙◌}
use Rattle.std.specs.Option.{option_and_then, option_map, option_map_or}
use Rattle.mir_base.specs.declared.place_in_text.Pos.{Pos}
use Rattle.mir_ty.specs.declared.def.ClosureDef.{ClosureDef}
use Rattle.mir_ty.specs.declared.def.Sig.{Sig}
use Rattle.mir_ty.specs.declared.ty.TyId.{TyId}
use Rattle.typeck_calls.specs.Calls.{Arguments}
use Rattle.typed_tree.specs.Tree.{Node}
use Rattle.typing_rules.specs.Check.{TypingState, ◌>>=◌}
use Rattle.typing_rules.specs.Rows.{closure_end, with_closure}
use Rattle.well_typed.specs.Places.{ty_of}
use Rattle.well_typed.specs.Types.{closure_of}
use Rattle.typeck_calls.specs.Closures.{body_seen, closure_seen}
use Rattle.typeck_calls.specs.Closures.{callee_end}
use Rattle.typeck_calls.specs.declared.closures.ClosureCallee.{ClosureCallee}

module _ (id : ℕ) (at : Pos) (expected : Option TyId) (c : Node) (count : ℕ) (args : Arguments) (s : TypingState) where
  by_head : (body : ℕ) (head : Option Sig) → with_closure at id c count args expected body head s ≡ (args (closure_seen body head).params >>= callee_end id at expected (closure_seen body head) c count) s
  by_head body None = refl
  by_head body (Some head) = refl

  some_def : (body : ℕ) (def : Option ClosureDef) → Some body ≡ option_map (λ d. d.body) def →
      with_closure at id c count args expected (option_map_or (λ d. d.body) def 0) (option_and_then (λ d. slice_get s.items.bodies d.body) def) s
      ≡ with_closure at id c count args expected body (slice_get s.items.bodies body) s
  some_def body None e = absurd (cc)
  some_def body (Some d) e =
      let is : d.body ≡ body = cc in ap (λ b. with_closure at id c count args expected b (slice_get s.items.bodies b) s) is

  no_def : (def : Option ClosureDef) → None ≡ option_map (λ d. d.body) def →
      with_closure at id c count args expected (option_map_or (λ d. d.body) def 0) (option_and_then (λ d. slice_get s.items.bodies d.body) def) s
      ≡ with_closure at id c count args expected 0 None s
  no_def None e = refl
  no_def (Some d) e = absurd (cc)

  behind : (callee first : ClosureCallee) → callee ≡ first →
      (args first.params >>= callee_end id at expected first c count) s ≡ (args callee.params >>= callee_end id at expected callee c count) s
  behind callee first is = sym (ap (λ (x : ClosureCallee). (args x.params >>= callee_end id at expected x c count) s) is)

  pub closure_given : (body : ℕ) (callee : ClosureCallee) → Some body ≡ body_seen s.items (ty_of c) → callee ≡ closure_seen body (slice_get s.items.bodies body) →
      closure_end id at expected c count args s ≡ (args callee.params >>= callee_end id at expected callee c count) s
  closure_given body callee is same =
      some_def body (option_and_then (slice_get s.items.closures) (closure_of s.items (ty_of c))) is
      ∙ by_head body (slice_get s.items.bodies body) ∙ behind callee (closure_seen body (slice_get s.items.bodies body)) same

  pub closure_none : (callee : ClosureCallee) → None ≡ body_seen s.items (ty_of c) → callee ≡ closure_seen 0 None →
      closure_end id at expected c count args s ≡ (args callee.params >>= callee_end id at expected callee c count) s
  closure_none callee is same =
      no_def (option_and_then (slice_get s.items.closures) (closure_of s.items (ty_of c))) is
      ∙ by_head 0 None ∙ behind callee (closure_seen 0 None) same
