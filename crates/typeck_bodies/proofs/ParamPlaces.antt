-- Places as the rules of typing see them.
use Rattle.std.proofs.Common.{◌≡◌, List, map, reverse, ◌∙◌}
use Rattle.mir_ty.specs.declared.ty.TyId.{TyId}
use Rattle.typeck_bodies.specs.Aside.{IsAlone, IsAside, IsBlock, alone, in_block, with_loops}
use Rattle.typeck_env.specs.Scope.{around_of}
use Rattle.typeck_env.specs.declared.loops.LoopAround.{LoopAround}
use Rattle.typeck_checker.specs.Stand.{env_in}
use Rattle.typeck_checker.specs.Tables.{all_kinds_of}
use Rattle.typeck_checker.specs.declared.body_scope.BodyScope.{BodyScope}
use Rattle.typeck_checker.specs.declared.tables.Tables.{Tables}

pub alone_is : (t : Tables) (old new : BodyScope) → IsAlone old new → env_in t new ≡ alone (env_in t old)
unfolding env_in
alone_is t old new h =
    λ i. record {
      adts = t.adts;
      traits = t.traits;
      kinds = all_kinds_of t.kinds;
      methods = t.self_methods;
      self_adt = h.0 i;
      variables = h.1 i;
      loops = reverse (map around_of (h.2 i));
      answer = h.3 i;
    }

pub aside_is : (t : Tables) (old aside : BodyScope) → IsAside old aside → with_loops (env_in t old).loops (env_in t aside) ≡ env_in t old
unfolding env_in
aside_is t old aside h =
    λ i. record {
      adts = t.adts;
      traits = t.traits;
      kinds = all_kinds_of t.kinds;
      methods = t.self_methods;
      self_adt = h.0 i;
      variables = h.1 i;
      loops = reverse (map around_of old.loops);
      answer = h.2 i;
    }

pub block_is : (t : Tables) (answer : TyId) (old new : BodyScope) → IsBlock answer old new → env_in t new ≡ in_block answer (env_in t old)
unfolding env_in
block_is t answer old new h =
    λ i. record {
      adts = t.adts;
      traits = t.traits;
      kinds = all_kinds_of t.kinds;
      methods = t.self_methods;
      self_adt = h.0 i;
      variables = h.1 i;
      loops = reverse (map around_of (h.2 i));
      answer = h.3 i;
    }

pub loops_are : (t : Tables) (aside new from : BodyScope) (loops : List LoopAround) → IsAside aside new → new.loops ≡ loops → loops ≡ from.loops →
    env_in t new ≡ with_loops (env_in t from).loops (env_in t aside)
unfolding env_in
loops_are t aside new from loops h is same =
    (λ i. record {
      adts = t.adts;
      traits = t.traits;
      kinds = all_kinds_of t.kinds;
      methods = t.self_methods;
      self_adt = h.0 i;
      variables = h.1 i;
      loops = reverse (map around_of (is i));
      answer = h.2 i;
    })
    ∙ (λ i. record {
      adts = t.adts;
      traits = t.traits;
      kinds = all_kinds_of t.kinds;
      methods = t.self_methods;
      self_adt = aside.self_adt;
      variables = aside.variables;
      loops = reverse (map around_of (same i));
      answer = aside.answer;
    })
