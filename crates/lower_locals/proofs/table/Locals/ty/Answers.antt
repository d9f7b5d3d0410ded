use Rattle.std.proofs.Common.{rules, ◌≡◌, ◌∙◌, map, sym, ap, Some, None}
use Rattle.std.specs.Prelude.{slice_get}
use Rattle.std.specs.Option.{option_copied, option_map}
use Rattle.lower_locals.specs.View.{entry_of, tys}
use Rattle.lower_locals.specs.declared.local.Local.{Local}
use Rattle.lower_locals.proofs.Positions.{ty_at}
use Rattle.lower_locals.proofs.table.Locals.ty.Goals as goal

pub returns-in-Some : goal.returns-in-Some
returns-in-Some c =
    let seen : c.args.self.now ≡ map entry_of c.self.inside.locals = search rules in
    let at : slice_get c.self.inside.locals c.args.local ≡ Some c.in-Some.found.now = sym c.get.ensures ∙ ap option_copied c.in-Some.is in
    sym (ap (λ es. slice_get (tys es) c.args.local) seen ∙ ty_at c.self.inside.locals c.args.local ∙ ap (option_map (λ (local : Local). local.ty)) at)

pub returns-in-None : goal.returns-in-None
returns-in-None c =
    let seen : c.args.self.now ≡ map entry_of c.self.inside.locals = search rules in
    let at : slice_get c.self.inside.locals c.args.local ≡ None = sym c.get.ensures ∙ ap option_copied c.in-None.is in
    sym (ap (λ es. slice_get (tys es) c.args.local) seen ∙ ty_at c.self.inside.locals c.args.local ∙ ap (option_map (λ (local : Local). local.ty)) at)
