use Rattle.std.proofs.Common.{◌<◌, ◌&&◌, length, sym, ◌∙◌, arith}
use Rattle.std.specs.Prelude.{◌==◌}
use Rattle.mir_ty.specs.declared.def.ImplDef.{ImplDef}
use Rattle.cfg_graph.proofs.Rests.{any_goes_on, any_is_found, any_is_not, within, position-any}
use Rattle.cfg_graph.proofs.line_faults.has_impl.Goals as goal

pub loop-def-preserved : goal.loop-def-preserved
loop-def-preserved c = record {
  rest = any_goes_on (λ (def : ImplDef). (def.trait_no == c.args.trait_no) && (def.adt == c.args.adt)) c.args.items.now.impls c.loop-def.n c.loop-def.invariant.rest c.in-Some.def.now c.is_impl_of.result c.in-Some.ensures.value c.is_impl_of.ensures c.if-is_impl_of.false;
  within = let here : c.loop-def.n < length c.args.items.now.impls = within c.args.items.now.impls c.loop-def.n c.in-Some.def.now c.in-Some.ensures.value in omega arith;
}

pub returns-then-is_impl_of : goal.returns-then-is_impl_of
returns-then-is_impl_of c =
    any_is_found (λ (def : ImplDef). (def.trait_no == c.args.trait_no) && (def.adt == c.args.adt)) c.args.items.now.impls c.loop-def.n c.loop-def.invariant.rest c.in-Some.def.now c.is_impl_of.result c.in-Some.ensures.value c.is_impl_of.ensures c.if-is_impl_of.true
    ∙ sym (position-any (λ (def : ImplDef). (def.trait_no == c.args.trait_no) && (def.adt == c.args.adt)) c.args.items.now.impls)

pub returns : goal.returns
returns c =
    any_is_not (λ (def : ImplDef). (def.trait_no == c.args.trait_no) && (def.adt == c.args.adt)) c.args.items.now.impls c.loop-def.n c.loop-def.invariant.rest c.in_default.ensures.value
    ∙ sym (position-any (λ (def : ImplDef). (def.trait_no == c.args.trait_no) && (def.adt == c.args.adt)) c.args.items.now.impls)
