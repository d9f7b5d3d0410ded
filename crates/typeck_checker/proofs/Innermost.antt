-- Loops that are entered and left: the innermost is the last.
use Rattle.std.proofs.Common.{◌≡◌, List, [], ◌∷◌, ◌++◌, drop, map, reverse, Option, Some, None, ap, sym, ◌∙◌}
use Rattle.std.specs.Prelude.{MatchOption}
use Rattle.std.proofs.lemmas.List.{map_push, reverse-append}
use Rattle.typeck_env.specs.Scope.{around_of}
use Rattle.typeck_env.specs.declared.loops.LoopAround.{LoopAround}
use Rattle.typeck_checker.specs.Stand.{env_in}
use Rattle.typeck_checker.specs.declared.body_scope.BodyScope.{BodyScope}
use Rattle.typeck_checker.specs.declared.tables.Tables.{Tables}
use Rattle.typing_rules.specs.Scope.{LabelledLoop, Env, within_loop}
use Rattle.typeck_checker.specs.Scopes.{without_loop}

turned : (loops : List LoopAround) (a : LoopAround) → reverse (map around_of (loops ++ a ∷ [])) ≡ around_of a ∷ reverse (map around_of loops)
turned loops a = ap reverse (map_push around_of loops a) ∙ reverse-append (map around_of loops) (around_of a ∷ [])

with_loops : List LabelledLoop → Env → Env
with_loops loops e = record e { loops = loops }

pub entered : (t : Tables) (s n : BodyScope) (a : LoopAround) → n.loops ≡ s.loops ++ a ∷ [] → n.self_adt ≡ s.self_adt → n.variables ≡ s.variables → n.answer ≡ s.answer →
    env_in t n ≡ within_loop (around_of a) (env_in t s)
unfolding env_in
entered t s n a l i v r = λ k. record {
  adts = t.adts;
  traits = t.traits;
  kinds = (env_in t s).kinds;
  methods = t.self_methods;
  self_adt = i k;
  variables = v k;
  loops = (ap (λ x. reverse (map around_of x)) l ∙ turned s.loops a) k;
  answer = r k;
}

pub left_some : (t : Tables) (s n : BodyScope) (a : LoopAround) → s.loops ≡ n.loops ++ a ∷ [] → n.self_adt ≡ s.self_adt → n.variables ≡ s.variables → n.answer ≡ s.answer →
    env_in t n ≡ without_loop (env_in t s)
unfolding env_in
left_some t s n a l i v r = λ k. record {
  adts = t.adts;
  traits = t.traits;
  kinds = (env_in t s).kinds;
  methods = t.self_methods;
  self_adt = i k;
  variables = v k;
  loops = sym (ap (λ x. drop 1 (reverse (map around_of x))) l ∙ ap (drop 1) (turned n.loops a)) k;
  answer = r k;
}

pub left_none : (t : Tables) (s n : BodyScope) → s.loops ≡ [] → n.loops ≡ [] → n.self_adt ≡ s.self_adt → n.variables ≡ s.variables → n.answer ≡ s.answer →
    env_in t n ≡ without_loop (env_in t s)
unfolding env_in
left_none t s n l m i v r = λ k. record {
  adts = t.adts;
  traits = t.traits;
  kinds = (env_in t s).kinds;
  methods = t.self_methods;
  self_adt = i k;
  variables = v k;
  loops = (ap (λ x. reverse (map around_of x)) m ∙ sym (ap (λ x. drop 1 (reverse (map around_of x))) l)) k;
  answer = r k;
}

pub left_by : (t : Tables) (s n : BodyScope) (r : Option LoopAround) → MatchOption r ((s.loops ≡ []) × (n.loops ≡ [])) (λ last. s.loops ≡ n.loops ++ last ∷ []) →
    n.self_adt ≡ s.self_adt → n.variables ≡ s.variables → n.answer ≡ s.answer → env_in t n ≡ without_loop (env_in t s)
left_by t s n None h i v r = left_none t s n h.0 h.1 i v r
left_by t s n (Some a) h i v r = left_some t s n a h i v r
