use Rattle.std.proofs.Common.{◌++◌, ◌∷◌, [], map, ap, ◌∙◌}
use Rattle.mir_machine.proofs.DropsBegin.{datum_of_address}
use Rattle.store_model.specs.Values.Datum.{Address, datum_of}
use Rattle.store_model.specs.declared.value.Value.{Value}
use Rattle.mir_machine.proofs.drops.drop_args.Goals as goal

pub returns-clause-data : goal.returns-clause-data
returns-clause-data c =
    ap (map datum_of) (c.in_ok-push.ensures.pushed ∙ ap (λ l. l ++ Value.Address c.in_ok-address.address ∷ []) c.new-args.ensures)
    ∙ ap (λ d. d ∷ []) (datum_of_address c.in_ok-address.address ∙ ap Address c.in_ok-address.ensures)
