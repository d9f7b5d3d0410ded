use Rattle.std.proofs.Common.{◌∙◌, refl}
use Rattle.store_model.proofs.Values.Access.{IsCutOff-from_none, not_cut_off, replaced-nowhere}
use Rattle.store_model.proofs.access.take.Goals as goal

pub returns-then-exchange-clause-absent : goal.returns-then-exchange-clause-absent
returns-then-exchange-clause-absent c = (λ e. absurd (cc), λ cut. absurd (not_cut_off _ _ _ c.if-exchange.ensures.found cut))

pub returns-else-exchange-clause-absent : goal.returns-else-exchange-clause-absent
returns-else-exchange-clause-absent c = (λ _. IsCutOff-from_none _ _ c.if-exchange.ensures.found.0, λ _. refl)

pub returns-else-exchange-clause-unchanged : goal.returns-else-exchange-clause-unchanged
returns-else-exchange-clause-unchanged c = c.exchange.ensures.after ∙ replaced-nowhere _ _ _ c.if-exchange.ensures.found.0
