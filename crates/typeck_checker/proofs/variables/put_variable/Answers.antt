use Rattle.std.proofs.Common.{inl, inr, sym, subst}
use Rattle.typeck_env.specs.Scope.{meaning_of}
use Rattle.typeck_env.specs.declared.variables.VariableMeaning.{VariableMeaning}
use Rattle.typing_rules.specs.Places.{variable_place}
use Rattle.typeck_checker.specs.Stand.{Gives, state}
use Rattle.typeck_checker.proofs.variables.put_variable.Goals as goal

pub returns-in-Local-clause-gives : goal.returns-in-Local-clause-gives
returns-in-Local-clause-gives c =
    let given : VariableMeaning → Type 0 = λ m. Gives (variable_place c.args.at (record { name = c.args.name.now; ty = c.args.found.ty; meaning = meaning_of m }) (state c.args.checker.now)) c.put_local.result c.put_local.new.checker in
    elim c.in-Local.is [
      | inl is ↦ subst given (sym is) (c.put_local.ensures.gives c.args.name.now)
      | inr is ↦ subst given (sym is) (c.put_local.ensures.gives c.args.name.now)
    ]
