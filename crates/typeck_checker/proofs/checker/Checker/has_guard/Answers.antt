use Rattle.std.proofs.Common.{List, ap, ◌∙◌}
use Rattle.std.specs.Prelude.{◌==◌}
use Rattle.std.specs.List.{list_any}
use Rattle.mir_base.specs.declared.place_in_text.Key.{Key}
use Rattle.typeck_checker.proofs.Fixed.{guard_at}
use Rattle.typeck_checker.proofs.checker.Checker.has_guard.Goals as goal

pub returns : goal.returns
returns c =
    let checker = c.args.self.now in
    c.has_key.ensures ∙ ap (λ (ks : List Key). list_any (λ (k : Key). c.args.key.0 == k.0) ks) c.as_slice.ensures
    ∙ guard_at checker.tables checker.around c.args.key.0
