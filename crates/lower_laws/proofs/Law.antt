-- The law: a path of a lowered body and the free run of its source, with the same choices, meet the same refused use.
use Rattle.std.proofs.Common.{◌≡◌, ℕ, Bool, true, List, [], ◌∷◌, ◌++◌, Option, Some, None, refl, sym, ap, subst, ◌∙◌}
use Rattle.std.proofs.lemmas.List.{append-nil}
use Rattle.std.proofs.lemmas.Option.{none-some, same_Some}
use Rattle.mir_ty.specs.ItemTable.{ItemTable}
use Rattle.store_model.specs.Abstract.Effects.{AbstractState}
use Rattle.store_model.specs.Effects.{EffectSite, Out, Go, Unwind, Halts, Halt, Aborted, BadUse, BadStore}
use Rattle.cfg_graph.specs.declared.graph.Body.{Body}
use Rattle.cfg_graph.specs.Moves.BadUses as bad_uses
use Rattle.cfg_graph.specs.Moves.BadUses.{UseRule, U1, U2}
use Rattle.cfg_meaning.specs.Programs.{free_walk}
use Rattle.move_errors.specs.Reaches.{MeetsNone}
use Rattle.lower_laws.specs.Meets.{site_of, halt_by, halt_of, is_refused, RunsReach, MeetsSame}
use Rattle.lower_laws.proofs.Elsewhere.{kept-elsewhere}
use Rattle.lower_laws.proofs.WalkLaw.{free-walks-meet}
use Rattle.typed_tree.specs.Tree.{BodyTree}
use Rattle.src_meaning.specs.Programs.{free_run, reached_by, refused_of}
use Rattle.lower_rules.specs.Laws.{NamesItsLoops}
use Rattle.lower_rules.specs.Lower.{body_of, node_of}
use Rattle.lower_rules.proofs.Bodies.{lowered_walks_as_it_runs_freely, lowered_is_ranked, lowered_keeps_to_cleanup}
use Rattle.lower_rules.specs.CodeLaws.{without_place}
use Rattle.cfg_meaning.specs.Walk.{renamed}
use Rattle.lower_laws.specs.Refused.{LoweredPathsMeetItsRefusals, rule_of_run, ruled_by}
use Rattle.lower_laws.proofs.Clean.{none-reached}

-- a walk that halts at a bad use, with all choices taken, is refused there
told : (rule : UseRule) (site : EffectSite) (w : AbstractState) → w.choices ≡ [] → refused_of (Halts (halt_by rule site) w) ≡ Some site
told U1 site w e = simp (e)
told U2 site w e = simp (e)

told_rule : (rule : UseRule) (site : EffectSite) (w : AbstractState) → w.choices ≡ [] → rule_of_run (Halts (halt_by rule site) w) ≡ Some rule
told_rule U1 site w e = simp (e)
told_rule U2 site w e = simp (e)

-- the rule of a run is told without a place
same_rule : (out : Out AbstractState) → rule_of_run (renamed without_place out) ≡ rule_of_run out
same_rule (Go w) = refl
same_rule (Unwind w) = refl
same_rule (Halts Aborted w) = refl
same_rule (Halts other w) = refl

-- and back: where a walk is refused at a site, it has halted there, and has taken all choices
pub record Refusal (halt : Halt) (w : AbstractState) (site : EffectSite) : Type 0 where
  pub is : is_refused halt ≡ true
  pub taken : w.choices ≡ []
  pub at : (bad : bad_uses.BadUse) (node : ℕ → ℕ → ℕ) → halt ≡ halt_of node bad → site ≡ site_of node bad.action

refusal : (halt : Halt) (w : AbstractState) (site : EffectSite) → refused_of (Halts halt w) ≡ Some site → Refusal halt w site
refusal (BadUse at) w site h = by w.choices refl h
  where
    by : (l : List Bool) → w.choices ≡ l → refused_of (Halts (BadUse at) (record w { choices = l })) ≡ Some site → Refusal (BadUse at) w site
    by [] e h = record {
      is = refl;
      taken = e;
      at = λ bad node same. sym (same_Some at site h) ∙ same_site bad.rule (site_of node bad.action) same;
    }
      where
        same_site : (rule : UseRule) (other : EffectSite) → BadUse at ≡ halt_by rule other → at ≡ other
        same_site U1 other e = cc
        same_site U2 other e = absurd (cc)
    by (c ∷ l) e h = absurd (none-some site h)
refusal (BadStore at) w site h = by w.choices refl h
  where
    by : (l : List Bool) → w.choices ≡ l → refused_of (Halts (BadStore at) (record w { choices = l })) ≡ Some site → Refusal (BadStore at) w site
    by [] e h = record {
      is = refl;
      taken = e;
      at = λ bad node same. sym (same_Some at site h) ∙ same_site bad.rule (site_of node bad.action) same;
    }
      where
        same_site : (rule : UseRule) (other : EffectSite) → BadStore at ≡ halt_by rule other → at ≡ other
        same_site U1 other e = absurd (cc)
        same_site U2 other e = cc
    by (c ∷ l) e h = absurd (none-some site h)
refusal other w site h = absurd (none-some site h)

abbrev halting : Halt → AbstractState → Out AbstractState
halting halt w = Halts halt w

module _ (items : ItemTable) (tree : BodyTree) (names : NamesItsLoops tree) where
  abbrev body : Body
  body = body_of items tree

  abbrev node : ℕ → ℕ → ℕ
  node = node_of items tree

  meets : MeetsSame items body node
  meets = free-walks-meet items body (lowered_is_ranked items tree names) (kept-elsewhere body (lowered_keeps_to_cleanup items tree names)) node

  abbrev Reached : List Bool → EffectSite → Type 0
  Reached given site =
      (path : List ℕ) × (bad : bad_uses.BadUse) × RunsReach items body path given bad × (site ≡ site_of node bad.action)
      × (ruled_by items tree given ≡ Some bad.rule)

  walked : (given : List Bool) → refused_of (free_walk items node body given) ≡ reached_by items tree given
  walked given = (lowered_walks_as_it_runs_freely items tree names given).1

  walked_by : (given : List Bool) → rule_of_run (free_walk items node body given) ≡ ruled_by items tree given
  walked_by given = sym (same_rule (free_walk items node body given)) ∙ ap rule_of_run (lowered_walks_as_it_runs_freely items tree names given).0 ∙ same_rule (free_run items tree given)

  refused : (path : List ℕ) (given : List Bool) (bad : bad_uses.BadUse) → RunsReach items body path given bad → (reached_by items tree given ≡ Some (site_of node bad.action)) × (ruled_by items tree given ≡ Some bad.rule)
  refused path given bad reaches =
      let it = meets.walks path given [] bad reaches in
      let halts = ap (free_walk items node body) (sym (append-nil given)) ∙ it.1 in (
        sym (walked given) ∙ ap refused_of halts ∙ told bad.rule (site_of node bad.action) it.0 it.2,
        sym (walked_by given) ∙ ap rule_of_run halts ∙ told_rule bad.rule (site_of node bad.action) it.0 it.2,
      )

  reached : (given : List Bool) (site : EffectSite) → reached_by items tree given ≡ Some site → Reached given site
  reached given site is = by (free_walk items node body given) refl (walked given ∙ is)
    where
      by : (out : Out AbstractState) → free_walk items node body given ≡ out → refused_of out ≡ Some site → Reached given site
      by (Go w) e h = absurd (none-some site h)
      by (Unwind w) e h = absurd (none-some site h)
      by (Halts halt w) e h =
          let r = refusal halt w site h in
          let it = meets.paths given halt w e r.is in
          let path = it.0 in
          let own = it.1 in
          let bad = it.2 in
          let reaches = it.3 in
          let taken = it.4 in
          let same = it.5 in
          let all : own ≡ given = sym (taken ∙ ap (λ (z : List Bool). own ++ z) r.taken ∙ append-nil own) in (
            path,
            bad,
            subst (λ (z : List Bool). RunsReach items body path z bad) all reaches,
            r.at bad node same,
            sym (walked_by given) ∙ ap rule_of_run (e ∙ ap (λ (z : Halt). halting z w) same) ∙ told_rule bad.rule (site_of node bad.action) w r.taken,
          )

  accepted : MeetsNone items body → (given : List Bool) → reached_by items tree given ≡ None
  accepted none given = by (reached_by items tree given) refl
    where
      by : (o : Option EffectSite) → reached_by items tree given ≡ o → reached_by items tree given ≡ None
      by None e = e
      by (Some site) e = let it = reached given site e in absurd (none-reached items body none it.0 given it.1 it.2)

pub lowered-paths-meet : LoweredPathsMeetItsRefusals
lowered-paths-meet items tree names = record {
  refused = refused items tree names;
  reached = reached items tree names;
  accepted = accepted items tree names;
}
