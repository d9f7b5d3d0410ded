use Rattle.std.proofs.Common.{◌≡◌, ◌<◌, ◌-◌, ◌∙◌, refl, sym, ap, length, arith}
use Rattle.std.specs.List.{position}
use Rattle.std.proofs.lemmas.Option.{slice_get_read}
use Rattle.unwind_tree.specs.Rooms.{has_key}
use Rattle.unwind_tree.specs.declared.scope.Scope.{Scope}
use Rattle.unwind_tree.proofs.Finding.{further_out}
use Rattle.unwind_tree.proofs.pending.find.Goals as goal

pub returns-in-Some : goal.returns-in-Some
returns-in-Some c =
    let less : c.loop-number.number - 1 < length c.args.scopes.now = omega arith in
    let items : c.as_slice.result.now ≡ c.index-scopes-number.result.pending.items =
    c.as_slice.ensures.value ∙ ap (λ (s : Scope). s.pending.items) (sym c.index-scopes-number.is) in
    record {
      scope = c.index-scopes-number.result;
      there = slice_get_read c.args.scopes.now _ (c.loop-number.number - 1) _ refl less c.index-scopes-number.is;
      at_place = ap (position (has_key c.args.key)) (sym items) ∙ sym c.place_of.ensures ∙ c.in-Some.is;
    }

pub loop-number-preserved : goal.loop-number-preserved
loop-number-preserved c =
    let less : c.loop-number.number - 1 < length c.args.scopes.now = omega arith in
    let items : c.as_slice.result.now ≡ c.index-scopes-number.result.pending.items =
    c.as_slice.ensures.value ∙ ap (λ (s : Scope). s.pending.items) (sym c.index-scopes-number.is) in
    further_out c.args.key c.args.scopes.now c.loop-number.number _ c.index-scopes-number.result c.loop-number.invariant (omega arith)
    (slice_get_read c.args.scopes.now _ (c.loop-number.number - 1) _ refl less c.index-scopes-number.is)
    (ap (position (has_key c.args.key)) (sym items) ∙ sym c.place_of.ensures ∙ c.in_default.is)
