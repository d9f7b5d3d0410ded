use Rattle.std.proofs.Common.{◌≡◌, Some, None, slice_get, rules, refl, ap, ◌∙◌, arith}
use Rattle.std.specs.List.{list_any}
use Rattle.typeck_env.specs.Coerced.{is_impl}
use Rattle.std.proofs.lemmas.Option.{slice_get_within}
use Rattle.mir_ty.proofs.Sets.{all_taken}
use Rattle.typeck_env.proofs.ImplPairs.{noted}
use Rattle.typeck_env.proofs.impls.impl_pairs.Goals as goal

pub loop-def-preserved : goal.loop-def-preserved
loop-def-preserved c =
    let at : slice_get c.args.items.now.impls c.loop-def.n ≡ Some c.in-Some.def.now = search rules in
    record {
      within = omega (arith, slice_get_within c.args.items.now.impls c.loop-def.n c.in-Some.def.now at);
      pairs =
          noted (record { trait_no = c.in-Some.def.now.trait_no; adt = c.in-Some.def.now.adt }) c.loop-def.pairs.keys c.insert.new.self.keys c.in_ok-insert.field-0
          c.args.items.now.impls c.loop-def.n c.in-Some.def.now at refl c.in_ok-insert.ensures.keys c.in_ok-insert.ensures.added c.loop-def.invariant.pairs;
    }

pub returns : goal.returns
returns c =
    let past : slice_get c.args.items.now.impls c.loop-def.n ≡ None = search rules in
    λ t a. c.loop-def.invariant.pairs t a
    ∙ ap (list_any (is_impl t a)) (all_taken c.args.items.now.impls c.loop-def.n past c.loop-def.invariant.within)
