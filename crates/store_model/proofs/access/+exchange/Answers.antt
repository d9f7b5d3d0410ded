use Rattle.std.proofs.Common.{refl}
use Rattle.store_model.specs.Values.Datum.{datum_of}
use Rattle.store_model.proofs.Values.AccessInPieces.{split_path, absent-in_pieces, same-in_pieces, found-in_pieces, replaced-in_pieces}
use Rattle.store_model.proofs.access.+exchange.Goals as goal

pub returns-then-not-exchange_by_steps-clause-found : goal.returns-then-not-exchange_by_steps-clause-found
returns-then-not-exchange_by_steps-clause-found t c =
    let path = c.args.path.now in
    let above = c.split_at.result.0.now in
    let below = c.split_at.result.1.now in
    let is_path = split_path 1024 path above below c.split_at.ensures.front c.split_at.ensures.back in
    (absent-in_pieces path above below (datum_of c.args.root.now) is_path c.if-not-exchange_by_steps.ensures.found.0, refl)

pub returns-then-not-exchange_by_steps-clause-after : goal.returns-then-not-exchange_by_steps-clause-after
returns-then-not-exchange_by_steps-clause-after t c =
    let path = c.args.path.now in
    let above = c.split_at.result.0.now in
    let below = c.split_at.result.1.now in
    let is_path = split_path 1024 path above below c.split_at.ensures.front c.split_at.ensures.back in
    same-in_pieces path above below (datum_of c.args.root.now) (datum_of c.exchange_by_steps-2.new.root) _ (datum_of c.args.value.now) is_path c.if-not-exchange_by_steps.ensures.found.0 c.exchange_by_steps-2.ensures.after

pub returns-clause-found : goal.returns-clause-found
returns-clause-found t c =
    let path = c.args.path.now in
    let above = c.split_at.result.0.now in
    let below = c.split_at.result.1.now in
    let is_path = split_path 1024 path above below c.split_at.ensures.front c.split_at.ensures.back in
    let container = datum_of c.exchange_by_steps-2.new.value in
    found-in_pieces c.exchange-found.result path above below (datum_of c.args.root.now) container (datum_of c.exchange-found.new.value) (datum_of c.args.value.now) is_path c.if-not-exchange_by_steps.ensures.found c.exchange-found.ensures.found

pub returns-clause-after : goal.returns-clause-after
returns-clause-after t c =
    let path = c.args.path.now in
    let above = c.split_at.result.0.now in
    let below = c.split_at.result.1.now in
    let is_path = split_path 1024 path above below c.split_at.ensures.front c.split_at.ensures.back in
    let container = datum_of c.exchange_by_steps-2.new.value in
    let changed = datum_of c.exchange-found.new.root in
    let emptied = datum_of c.exchange_by_steps-2.new.root in
    replaced-in_pieces path above below (datum_of c.args.root.now) container _ changed emptied (datum_of c.args.value.now) (datum_of c.exchange_by_steps-3.new.root) is_path c.if-not-exchange_by_steps.ensures.found c.exchange_by_steps-2.ensures.after c.exchange-found.ensures.after c.exchange_by_steps-3.ensures.after
