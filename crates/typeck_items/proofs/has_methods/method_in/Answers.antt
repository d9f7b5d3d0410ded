use Rattle.std.proofs.Common.{sym, ◌∙◌}
use Rattle.typeck_items.proofs.Named.{method_found, no_method}
use Rattle.typeck_items.proofs.has_methods.method_in.Goals as goal

pub returns-in-Some : goal.returns-in-Some
returns-in-Some c =
    c.get.ensures ∙ sym (method_found c.args.names.now c.args.def.now c.args.name.now c.in-Some.method c.requires (sym c.find.ensures ∙ c.in-Some.is))

pub returns-in-None : goal.returns-in-None
returns-in-None c = sym (no_method c.args.names.now c.args.def.now c.args.name.now c.requires (sym c.find.ensures ∙ c.in-None.is))
