-- A free walk takes exactly the lists of choices that paths give before their first bad use.
use Rattle.std.proofs.Common.{◌≡◌, inl, inr, ℕ, Bool, true, false, List, [], ◌∷◌, ◌++◌, Option, Some, None, slice_get, Contains, refl, sym, ap, subst, ◌∙◌}
use Rattle.std.specs.List.{list_any}
use Rattle.std.proofs.lemmas.Bool.{false≢true}
use Rattle.std.proofs.lemmas.Option.{none-some, same_Some}
use Rattle.std.proofs.lemmas.List.{append-nil, append_cancel_left, append_cancel_right}
use Rattle.mir_ty.specs.ItemTable.{ItemTable}
use Rattle.store_model.specs.Effects.{Out, Halts}
use Rattle.store_model.specs.Abstract.Effects.{AbstractState, presence}
use Rattle.store_model.specs.Abstract.Presence.{Presence}
use Rattle.cfg_graph.specs.declared.graph.Block.{Block}
use Rattle.cfg_graph.specs.declared.graph.Body.{Body}
use Rattle.cfg_graph.specs.Edges.{BlockExit, ToBlock, LeavesBody, IsRanked}
use Rattle.cfg_graph.specs.Moves.Actions.{actions_on}
use Rattle.cfg_graph.specs.Moves.BadUses.{UseRule, U1, U2, BadUse}
use Rattle.cfg_graph.specs.Moves.Gone.{PathAction}
use Rattle.cfg_graph.specs.Moves.Paths.{PathWay, ways, IsPath}
use Rattle.cfg_meaning.specs.Programs.{free_walk}
use Rattle.cfg_meaning.specs.Walk.{Next, does_block, if_there, walk}
use Rattle.init_flow.specs.Carried.{last_of}
use Rattle.init_flow.proofs.Along.{actions_in, came, came-is}
use Rattle.move_errors.proofs.Pathways.{entry_choices}
use Rattle.move_errors.specs.Reaches.{first_bad}
use Rattle.lower_laws.specs.Given.{choices_left, GivesBeforeBad, up_to_block, by_way_out}
use Rattle.lower_laws.specs.Meets.{PanicsLeadElsewhere, halt_by, halt_of, ends_runs, site_of}
use Rattle.lower_laws.proofs.Blocks.{eff, LeavesBlock, block-performs, result-is}
use Rattle.lower_laws.proofs.Coming.{Within, OnWay, Outcomes, inside-comes, on-comes, walk-comes}
use Rattle.lower_laws.proofs.Following.{Reached, reached, fuel_for, last-is, within}
use Rattle.lower_laws.proofs.Leaving.{goes, stops, Stops, by_way}
use Rattle.lower_laws.proofs.Performing.{Tells, before-none, some-rest, Performed, on, met, ended, perform}

-- at a bad use all choices are left that were
halt-left : (node : ℕ → ℕ → ℕ) (bad : BadUse) (v : AbstractState) → choices_left (Halts (halt_of node bad) v) ≡ Some v.choices
halt-left node bad v = by bad.rule
  where
    by : (rule : UseRule) → choices_left (Halts (halt_by rule (site_of node bad.action)) v) ≡ Some v.choices
    by U1 = refl
    by U2 = refl

abbrev AreNone : List Bool → Type 0
AreNone list = list ≡ []

none-behind : (xs ys : List Bool) → xs ++ ys ≡ [] → ys ≡ []
none-behind [] ys e = e
none-behind (x ∷ xs) ys e = absurd (false≢true (ap (λ (l : List Bool). elim l [ [] ↦ false | y ∷ more ↦ true ]) (sym e)))

not-none : (x : Bool) (xs : List Bool) → x ∷ xs ≡ [] → ⊥
not-none x xs e = false≢true (ap (λ (l : List Bool). elim l [ [] ↦ false | y ∷ more ↦ true ]) (sym e))

module _ (items : ItemTable) (body : Body) (elsewhere : PanicsLeadElsewhere body) (node : ℕ → ℕ → ℕ) (given : List Bool) where
  -- ---- what a walk takes a path gives
  abbrev Gives : Out AbstractState → Type 0
  Gives out = choices_left out ≡ Some [] → GivesBeforeBad items body given

  -- all choices are taken
  all-taken : (used left : List Bool) → given ≡ used ++ left → left ≡ [] → used ≡ given
  all-taken used left e none = sym (e ∙ ap (λ (z : List Bool). used ++ z) none ∙ append-nil used)

  no-more : (out : Out AbstractState) (list : List Bool) → choices_left out ≡ Some list → choices_left out ≡ Some [] → list ≡ []
  no-more out list left e = same_Some list [] (sym left ∙ e)

  up-to : (n : ℕ) (w : AbstractState) (at : Within items body elsewhere node given n w) → w.choices ≡ [] → GivesBeforeBad items body given
  up-to n w at e =
      up_to_block at.front n at.earlier (subst (IsPath items body (at.front ++ n ∷ [])) (all-taken at.used w.choices at.given_is e) at.path) at.acts at.clean

  by-way-on : (n m : ℕ) (w u : AbstractState) (at : Within items body elsewhere node given n w) → OnWay items body elsewhere node given n m w u at → u.choices ≡ [] → GivesBeforeBad items body given
  by-way-on n m w u at o e =
      by_way_out at.front n at.used o.block (by_way o.choices (ToBlock m)) at.path
      (ap (first_bad items body []) at.acts ∙ plain_so n w at o.clean) o.there o.way
      (at.given_is ∙ ap (λ (z : List Bool). at.used ++ z) (o.list ∙ ap (λ (z : List Bool). o.choices ++ z) e ∙ append-nil o.choices))
    where
      plain_so : (n : ℕ) (w : AbstractState) (at : Within items body elsewhere node given n w) → first_bad items body at.earlier (actions_in body n) ≡ None →
          first_bad items body [] (at.earlier ++ actions_in body n) ≡ None
      plain_so n w at none = some-rest items body [] at.earlier (actions_in body n) at.clean ∙ none

  module _ (begins : entry_choices items body 0 ≡ []) where
    pub given-where-taken : choices_left (free_walk items node body given) ≡ Some [] → GivesBeforeBad items body given
    given-where-taken = walk-comes items body elsewhere node given (λ list. Unit {0}) Gives (record {
      keeps = λ xs ys k. k;
      halted = λ n w at k halt fine left e.
          subst (GivesBeforeBad items body) (all-taken at.used w.choices at.given_is (no-more (Halts halt w) w.choices left e)) (at.so_far begins);
      infeasible = λ n w rest at k whole e. absurd (none-some [] e);
      ended_in = λ n w at k out with e. up-to n w at (no-more out w.choices with.1 e);
      met_in = λ n w at k out bad v is same some long e. up-to n w at (sym same ∙ no-more out v.choices (ap choices_left is ∙ halt-left node bad v) e);
      stopped = λ n w at k block there v same none out s e. elim (s.taken e) [
        | inl nothing ↦ up-to n w at (sym same ∙ nothing)
        | inr way ↦ by_way_out at.front n at.used block (by_way v.choices LeavesBody) at.path
            (ap (first_bad items body []) at.acts ∙ some-rest items body [] at.earlier (actions_in body n) at.clean ∙ none) there way
            (at.given_is ∙ ap (λ (z : List Bool). at.used ++ z) (sym same))
      ];
      ended_on = λ n m w u at o k out with e. by-way-on n m w u at o (no-more out u.choices with.1 e);
      met_on = λ n m w u at o k out bad x is kept some long e. by-way-on n m w u at o (sym kept ∙ no-more out x.choices (ap choices_left is ∙ halt-left node bad x) e);
    }) tt

  -- ---- and where no choice is left, none is wanted
  abbrev TakesAll : Out AbstractState → Type 0
  TakesAll out = choices_left out ≡ Some []

  some-none : (list : List Bool) → list ≡ [] → Some list ≡ Some []
  some-none list e = ap (λ (z : List Bool). Some z) e

  with-none : Outcomes items body elsewhere node given AreNone TakesAll
  with-none = record {
    keeps = none-behind;
    halted = λ n w at k halt fine left. left ∙ some-none w.choices k;
    infeasible = λ n w rest at k e. absurd (not-none true rest (sym e ∙ k));
    ended_in = λ n w at k out with. with.1 ∙ some-none w.choices k;
    met_in = λ n w at k out bad v is same some long. ap choices_left is ∙ halt-left node bad v ∙ some-none v.choices (same ∙ k);
    stopped = λ n w at k block there v same none out s. s.none (same ∙ k);
    ended_on = λ n m w u at o k out with. with.1 ∙ some-none u.choices k;
    met_on = λ n m w u at o k out bad x is kept some long. ap choices_left is ∙ halt-left node bad x ∙ some-none x.choices (kept ∙ k);
  }

-- ---- what a path gives, without a value of type `!` before, a walk takes
module _ (items : ItemTable) (body : Body) (ranked : IsRanked body) (elsewhere : PanicsLeadElsewhere body) (node : ℕ → ℕ → ℕ) (list : List Bool) where
  abbrev next : Next AbstractState
  next = walk (eff items body elsewhere node) 0 node body (fuel_for items body ranked elsewhere node list)

  abbrev Takes : Out AbstractState → Type 0
  Takes out = choices_left out ≡ Some []

  abbrev in_place : Option Block → ℕ → AbstractState → Out AbstractState
  in_place o n v = if_there (eff items body elsewhere node) 0 node body o n (λ block. does_block (eff items body elsewhere node) 0 node body n block next) v

  -- a walk with these choices comes to the last block of a path
  record Arrived (front : List ℕ) (last : ℕ) (used left : List Bool) (earlier : List PathAction) : Type 0 where
    v : AbstractState
    is : free_walk items node body list ≡ in_place (slice_get body.blocks last) last v
    at : Within items body elsewhere node list last v
    earlier_is : at.earlier ≡ earlier
    choices : v.choices ≡ left

  arrived : (front : List ℕ) (last : ℕ) (used left : List Bool) (earlier : List PathAction) → IsPath items body (front ++ last ∷ []) used → list ≡ used ++ left →
      actions_on body (front ++ last ∷ []) ≡ earlier ++ actions_on body (last ∷ []) → first_bad items body [] earlier ≡ None →
      list_any (ends_runs items body) earlier ≡ false → Arrived front last used left earlier
  arrived front last used left earlier is whole acts clean lasts = by (reached items body ranked elsewhere node list (front ++ last ∷ []) used left is whole)
    where
      by : Reached items body ranked elsewhere node list (front ++ last ∷ []) left → Arrived front last used left earlier
      by it =
          let there = it.come (ap (first_bad items body []) (sym same) ∙ clean) (ap (list_any (ends_runs items body)) (sym same) ∙ lasts) in record {
            v = there.0;
            is = there.1 ∙ ap (λ (n : ℕ). within items body ranked elsewhere node list n there.0) last_so;
            at = record {
              front = front;
              used = used;
              earlier = earlier;
              path = is;
              acts = acts;
              clean = clean;
              lasts = lasts;
              tells = subst (Tells items body there.0) (sym same) there.2;
              given_is = whole ∙ ap (λ (z : List Bool). used ++ z) (sym there.3);
            };
            earlier_is = refl;
            choices = there.3;
          }
        where
          last_so : last_of 0 it.rest ≡ last
          last_so = last-is items body ranked elsewhere node front last list (front ++ last ∷ []) left refl it

          same : earlier ≡ came body 0 it.rest
          same =
              append_cancel_right earlier (came body 0 it.rest) (actions_on body (last ∷ []))
              (sym acts ∙ ap (actions_on body) it.path_is ∙ came-is body 0 it.rest ∙ ap (λ (n : ℕ). came body 0 it.rest ++ actions_on body (n ∷ [])) last_so)

  -- up to a block
  pub taken-to : (front : List ℕ) (last : ℕ) (earlier : List PathAction) → IsPath items body (front ++ last ∷ []) list →
      actions_on body (front ++ last ∷ []) ≡ earlier ++ actions_on body (last ∷ []) → first_bad items body [] earlier ≡ None →
      list_any (ends_runs items body) earlier ≡ false → Takes (free_walk items node body list)
  taken-to front last earlier is acts clean lasts = by (arrived front last list [] earlier is (sym (append-nil list)) acts clean lasts)
    where
      by : Arrived front last list [] earlier → Takes (free_walk items node body list)
      by it = ap choices_left it.is ∙ at_block (slice_get body.blocks last) refl
        where
          at_block : (o : Option Block) → slice_get body.blocks last ≡ o → Takes (in_place o last it.v)
          at_block None missing = ap (λ (z : List Bool). Some z) it.choices
          at_block (Some block) there =
              inside-comes items body elsewhere node list AreNone (TakesAll items body elsewhere node list) (with-none items body elsewhere node list)
              (fuel_for items body ranked elsewhere node list) last block there it.v it.at it.choices

  -- and by a way out of it
  pub taken-by : (front : List ℕ) (last : ℕ) (before : List Bool) (block : Block) (way : PathWay) (earlier : List PathAction) → IsPath items body (front ++ last ∷ []) before →
      actions_on body (front ++ last ∷ []) ≡ earlier ++ actions_on body (last ∷ []) → first_bad items body [] earlier ≡ None →
      list_any (ends_runs items body) earlier ≡ false → first_bad items body earlier (actions_in body last) ≡ None →
      list_any (ends_runs items body) (actions_in body last) ≡ false → slice_get body.blocks last ≡ Some block →
      Contains (ways items body block.term) way → list ≡ before ++ way.choices → Takes (free_walk items node body list)
  taken-by front last before block way earlier is acts clean lasts clean_in lasts_in there has whole = by (arrived front last before way.choices earlier is whole acts clean lasts)
    where
      by : Arrived front last before way.choices earlier → Takes (free_walk items node body list)
      by it = ap choices_left (it.is ∙ ap (λ (o : Option Block). in_place o last it.v) there) ∙ left (block-performs items body elsewhere node last block there next it.at.earlier it.v it.at.tells)
        where
          out : Out AbstractState
          out = does_block (eff items body elsewhere node) 0 node body last block next it.v

          fine : first_bad items body it.at.earlier (actions_in body last) ≡ None
          fine = ap (λ (z : List PathAction). first_bad items body z (actions_in body last)) it.earlier_is ∙ clean_in

          presence_in : ℕ → List (ℕ × Presence) → Presence
          presence_in local z = presence local z

          -- the way that the choices tell is this one
          leaves_so : (v : AbstractState) → v.choices ≡ way.choices → (exit : BlockExit) → way.exit ≡ exit → Stops items body node (ways items body block.term) v.choices out → Takes out
          leaves_so v same (ToBlock m) e s = absurd (s.no_way way.choices m [] (subst (λ (x : BlockExit). Contains (ways items body block.term) (by_way way.choices x)) e has) (same ∙ sym (append-nil way.choices)))
          leaves_so v same LeavesBody e s =
              s.by_way_out (subst (λ (z : List Bool). Contains (ways items body block.term) (by_way z LeavesBody)) (sym same) (subst (λ (x : BlockExit). Contains (ways items body block.term) (by_way way.choices x)) e has))

          left : Performed items body node it.at.earlier (actions_in body last) (LeavesBlock items body elsewhere node last block next) it.v out → Takes out
          left (ended with end) = absurd (false≢true (sym lasts_in ∙ ap (list_any (ends_runs items body)) (sym (before-none items body it.at.earlier (actions_in body last) fine)) ∙ end))
          left (met bad v at same some long) = absurd (none-some bad (sym fine ∙ some))
          left (on v (stops s) told same none free) = leaves_so v (same ∙ it.choices) way.exit refl s
          left (on v (goes choices m u has_way taken cells at only none_out) told same none free) = goes_so way.exit refl
            where
              all_same : v.choices ≡ way.choices ++ []
              all_same = same ∙ it.choices ∙ sym (append-nil way.choices)

              goes_so : (exit : BlockExit) → way.exit ≡ exit → Takes out
              goes_so LeavesBody e = absurd (none_out way.choices [] (subst (λ (x : BlockExit). Contains (ways items body block.term) (by_way way.choices x)) e has) all_same)
              goes_so (ToBlock k) e =
                  let this = only way.choices k [] (subst (λ (x : BlockExit). Contains (ways items body block.term) (by_way way.choices x)) e has) all_same in
                  let nothing : u.choices ≡ [] = append_cancel_left choices u.choices [] (sym taken ∙ all_same ∙ ap (λ (z : List Bool). z ++ []) this.0) in
                  ap choices_left (at ∙ ap (λ (z : List PathAction). perform items body node z (next m) u) (result-is items body elsewhere node last m block there next))
                  ∙ on-comes items body elsewhere node list AreNone (TakesAll items body elsewhere node list) (with-none items body elsewhere node list)
                  (fuel_for items body ranked elsewhere node list) last m it.v u it.at
                  (record { block = block; there = there; choices = choices; way = has_way; list = sym same ∙ taken; clean = fine; lasts = lasts_in })
                  (λ local. ap (λ z. presence_in local z) cells ∙ told local) nothing
