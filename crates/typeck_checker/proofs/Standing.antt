-- What a written type may name where an expression stands; tables stay those of the items where types alone are new.
use Rattle.std.proofs.Common.{◌≡◌, true, map, refl, ap, sym, subst, ◌∙◌}
use Rattle.mir_ty.specs.ItemTable.{ItemTable}
use Rattle.typeck_env.specs.Coerced.{HasImpls}
use Rattle.typeck_env.specs.Members.{all_names}
use Rattle.typeck_env.specs.Walked.{HasOnlyTypes}
use Rattle.typeck_checker.specs.Stand.{env_in}
use Rattle.typeck_checker.specs.Tables.{AreTablesOf, adt_words, body_words, method_words, trait_words}
use Rattle.typeck_checker.specs.declared.body_scope.BodyScope.{BodyScope}
use Rattle.typeck_checker.specs.declared.tables.Tables.{Tables}
use Rattle.typing_rules.specs.Bodies.{all_rules}
use Rattle.typing_rules.specs.Written.{WrittenScope}
use Rattle.mir_ty.specs.DropBodies.{is_drop_body}

abbrev pub names_in : Tables → BodyScope → WrittenScope
names_in t s = record { has_limits = true; self_adt = s.self_adt; adts = t.adts; traits = t.traits }

pub names_are : (t : Tables) (s : BodyScope) → names_in t s ≡ all_rules (env_in t s)
unfolding env_in
names_are t s = refl

pub ready_later : (old new : ItemTable) (t : Tables) → HasOnlyTypes old new → AreTablesOf old t → AreTablesOf new t
ready_later old new t same ready =
    record {
      adts = ready.adts ∙ ap (λ xs. adt_words (record old { adts = xs })) (sym same.0);
      traits = ready.traits ∙ ap (λ xs. trait_words (record old { traits = xs })) (sym same.1);
      bodies = ready.bodies ∙ ap (λ xs. body_words (record old { bodies = xs })) (sym same.3);
      members = ready.members ∙ ap all_names (sym same.0);
      methods = ready.methods ∙ ap (map method_words) (sym same.1);
      impls = subst (HasImpls t.pairs) (sym same.2) ready.impls;
      drops = λ body. ready.drops body ∙ ap (λ xs. is_drop_body (record old { adts = xs }) body) (sym same.0);
    }
