-- Variables that are found have the name that was looked for.
use Rattle.std.proofs.Common.{◌≡◌, Bool, true, false, if◌then◌else◌, List, [], ◌∷◌, Some, None, refl, ap, ◌∙◌}
use Rattle.std.specs.Str.{bytes_eq}
use Rattle.std.proofs.lemmas.Slice.Eq.{bytes_eq-Decides}
use Rattle.src_ast.specs.Syntax.{Word}
use Rattle.typeck_env.specs.Scope.{entry_of, meaning_of}
use Rattle.typeck_env.specs.declared.variables.Variable.{Variable}
use Rattle.typeck_checker.specs.Stand.{env_in}
use Rattle.typeck_checker.specs.declared.body_scope.BodyScope.{BodyScope}
use Rattle.typeck_checker.specs.declared.tables.Tables.{Tables}
use Rattle.typing_rules.specs.Scope.{NamedEntry, variable}

name_is : (xs : List NamedEntry) (name : Word) (e : NamedEntry) → variable xs name ≡ Some e → e.name ≡ name
name_is [] name e h = absurd (cc)
name_is (x ∷ xs) name e h = by (name_is xs name e) (bytes_eq x.name name) refl h
  where
    by : (variable xs name ≡ Some e → e.name ≡ name) → (b : Bool) → bytes_eq x.name name ≡ b → (if b then Some x else variable xs name) ≡ Some e → e.name ≡ name
    by older true is h = ap (λ (y : NamedEntry). y.name) (let same : e ≡ x = cc in same) ∙ (bytes_eq-Decides x.name name).0 is
    by older false is h = older h

variables_are : (t : Tables) (s : BodyScope) → (env_in t s).variables ≡ s.variables
unfolding env_in
variables_are t s = refl

pub found_some : (t : Tables) (s : BodyScope) (name : Word) (v : Variable) → variable s.variables name ≡ Some (entry_of v) →
    variable (env_in t s).variables name ≡ Some (record { name = name; ty = v.ty; meaning = meaning_of v.meaning })
found_some t s name v h =
    ap (λ xs. variable xs name) (variables_are t s) ∙ h
    ∙ ap (λ (w : Word). Some (record { name = w; ty = v.ty; meaning = meaning_of v.meaning })) (name_is s.variables name (entry_of v) h)

pub found_none : (t : Tables) (s : BodyScope) (name : Word) → variable s.variables name ≡ None → variable (env_in t s).variables name ≡ None
found_none t s name h = ap (λ xs. variable xs name) (variables_are t s) ∙ h
