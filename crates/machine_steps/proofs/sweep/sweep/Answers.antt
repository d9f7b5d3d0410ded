use Rattle.std.proofs.Common.{[], map, ◌++◌, ap, sym, subst, ◌∙◌}
use Rattle.machine_steps.proofs.SweepsOver.{swept_back, freed_pushed}
use Rattle.machine_steps.specs.Swept.{AreSwept, freed_before}
use Rattle.machine_steps.specs.Worlds.{event_of}
use Rattle.machine_steps.proofs.sweep.sweep.Goals as goal

pub loop-turn-preserved : goal.loop-turn-preserved
loop-turn-preserved c =
    let items = c.args.items.now in
    let h = c.in_ok-sweep_one.ensures c.if-not-branch-2.false in
    record {
      swept = λ all.
          let k = h.swept all in
          c.loop-turn.invariant.swept (subst (AreSwept items) (sym c.in-Some.ensures) (swept_back items c.pop.new.self c.in-Some.one k.0 k.1));
      freed = h.freed []
          ∙ ap (λ l. map event_of c.loop-turn.told ++ l) (sym (ap (λ w. freed_before w []) c.in-Some.ensures ∙ freed_pushed items c.pop.new.self c.in-Some.one []))
          ∙ c.loop-turn.invariant.freed;
    }
