use Rattle.std.proofs.Common.{◌≡◌, ◌||◌, true, false, Bool, Some, None, slice_get, drop, rules, ap, sym, ◌∙◌, ◌+◌, arith}
use Rattle.std.proofs.lemmas.Option.{slice_get_within}
use Rattle.std.specs.List.{list_any}
use Rattle.mir_ty.specs.declared.def.ImplDef.{ImplDef}
use Rattle.borrow_rules.specs.Found.{method_found}
use Rattle.borrow_rules.specs.View.{params_in}
use Rattle.borrow_rules.proofs.Lists.{any_next, past_all}
use Rattle.borrow_rules.proofs.replaceable.is_any_found.Goals as goal

pub loop-def-preserved : goal.loop-def-preserved
loop-def-preserved c =
    let test : ImplDef → Bool = method_found (params_in c.args.found.now.keys) c.args.trait_no c.args.method c.args.number in
    let at : slice_get c.args.items.now.impls c.loop-def.n ≡ Some c.in-Some.def.now = search rules in
    let out : test c.in-Some.def.now ≡ false = search rules in
    record {
      within = omega (arith, slice_get_within c.args.items.now.impls c.loop-def.n c.in-Some.def.now at);
      left =
          sym (any_next test c.args.items.now.impls c.loop-def.n c.in-Some.def.now at
          ∙ ap (λ (b : Bool). b || list_any test (drop (c.loop-def.n + 1) c.args.items.now.impls)) out)
          ∙ c.loop-def.invariant.left;
    }

pub returns-then-is_method_found : goal.returns-then-is_method_found
returns-then-is_method_found c =
    let test : ImplDef → Bool = method_found (params_in c.args.found.now.keys) c.args.trait_no c.args.method c.args.number in
    let at : slice_get c.args.items.now.impls c.loop-def.n ≡ Some c.in-Some.def.now = search rules in
    let there : test c.in-Some.def.now ≡ true = search rules in
    sym (any_next test c.args.items.now.impls c.loop-def.n c.in-Some.def.now at
    ∙ ap (λ (b : Bool). b || list_any test (drop (c.loop-def.n + 1) c.args.items.now.impls)) there)
    ∙ c.loop-def.invariant.left

pub returns : goal.returns
returns c =
    let test : ImplDef → Bool = method_found (params_in c.args.found.now.keys) c.args.trait_no c.args.method c.args.number in
    let past : slice_get c.args.items.now.impls c.loop-def.n ≡ None = search rules in
    sym (ap (list_any test) (past_all c.args.items.now.impls c.loop-def.n past)) ∙ c.loop-def.invariant.left
