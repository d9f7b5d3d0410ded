-- What a reference names stays on each path of a body, where only calls use the reference and the watch over it finds
-- nothing bad in the runs of the source over effects that only look.
use Rattle.std.proofs.Common.{◌≡◌, ℕ, Bool, true, false, List, [], ◌∷◌, slice_get, refl, sym, ap, ◌∙◌}
use Rattle.std.proofs.lemmas.Bool.{false≢true}
use Rattle.cfg_graph.specs.declared.graph.Body.{Body}
use Rattle.cfg_graph.specs.Moves.Actions.{actions_on}
use Rattle.cfg_graph.specs.Moves.Paths.{IsPath}
use Rattle.cfg_graph.specs.NamedPlaces.{keeps_named}
use Rattle.mir_ty.specs.ItemTable.{ItemTable}
use Rattle.store_model.specs.Places.Place.{Place}
use Rattle.store_model.specs.Effects.{Out, Go, Unwind, Halts}
use Rattle.typed_tree.specs.Tree.{BodyTree}
use Rattle.src_meaning.specs.Locals.OfBody.{local_tys}
use Rattle.lower_rules.specs.CodeLaws.{HoldsBody}
use Rattle.lower_ready.proofs.NamedStays.{stays_named}
use Rattle.lower_ready.proofs.NamedLines.{look, look_stays, none_looked, OnlyPassed, same_path}
use Rattle.lower_ready.proofs.NamedWatch.{NamedState, Unmade, Bad}
use Rattle.lower_ready.proofs.Noting.{Watched}
use Rattle.lower_ready.proofs.PathFollow.{GoesOn}
use Rattle.lower_ready.proofs.PathRun as runs
use Rattle.lower_ready.proofs.PathWatch.{path_seen}

-- nothing is bad where a run ends, however it does
abbrev pub NothingBad : Out (Watched NamedState) → Type 0
NothingBad (Go w) = w.seen.is_bad ≡ false
NothingBad (Unwind w) = w.seen.is_bad ≡ false
NothingBad (Halts halt w) = w.seen.is_bad ≡ false

-- the reference was not made yet
abbrev pub at_first : NamedState
at_first = record { since = Unmade; is_bad = false }

module _ (items : ItemTable) (tree : BodyTree) (body : Body) (node : ℕ → ℕ → ℕ)
    (holds : HoldsBody items tree body node) (goes : GoesOn items body) (local : ℕ) (named : Place) where
  -- the run of the source with these choices, and the watch over what the reference in the local names
  abbrev pub watched_run : List Bool → Out (Watched NamedState)
  watched_run given =
      runs.run items tree body node holds goes (look body local named) (Bad body local)
      (look_stays body local named) (none_looked body local named)
      (slice_get (local_tys items tree)) given at_first

  not_both : (o : Out (Watched NamedState)) → NothingBad o →
      runs.EndsBad items tree body node holds goes (look body local named) (Bad body local)
      (look_stays body local named) (none_looked body local named) o → ⊥
  not_both (Go w) fine bad = false≢true (sym fine ∙ bad)
  not_both (Unwind w) fine bad = false≢true (sym fine ∙ bad)
  not_both (Halts halt w) fine bad = false≢true (sym fine ∙ bad)

  pub named_by_runs : OnlyPassed body local named → ((given : List Bool) → NothingBad (watched_run given)) →
      (path : List ℕ) (given : List Bool) →
      IsPath items body path given → keeps_named body (actions_on body path) local ≡ true
  named_by_runs only fine [] given is = refl
  named_by_runs only fine (n ∷ path) given is = by (path_seen (look body local named) body n path at_first).is_bad refl
    where
      by : (b : Bool) → (path_seen (look body local named) body n path at_first).is_bad ≡ b →
          keeps_named body (actions_on body (n ∷ path)) local ≡ true
      by false e = stays_named body local n path at_first
          (ap (λ (m : NamedState). m.is_bad) (same_path body local named only path n at_first refl) ∙ e)
      by true e = absurd (not_both (watched_run given) (fine given)
          (runs.path_in_run items tree body node holds goes (look body local named) (Bad body local)
          (look_stays body local named) (none_looked body local named) (n ∷ path) given is at_first e))
