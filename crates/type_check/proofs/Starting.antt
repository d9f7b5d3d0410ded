-- Tables put together of three parts, and the place where a checker begins.
use Rattle.std.proofs.Common.{◌≡◌, ℕ, List, [], Option, None, map, reverse, ap}
use Rattle.mir_ty.specs.declared.ty.TyId.{TyId}
use Rattle.mir_ty.specs.ItemTable.{ItemTable}
use Rattle.typeck_env.specs.Scope.{around_of}
use Rattle.typeck_checker.specs.Stand.{env_in, stack_of}
use Rattle.typeck_checker.specs.Tables.{AreTablesOf, all_kinds_of}
use Rattle.typeck_checker.specs.declared.body_scope.BodyScope.{BodyScope}
use Rattle.typeck_checker.specs.declared.tables.Tables.{Tables}
use Rattle.typed_tree.specs.declared.node.Node.{Node}
use Rattle.typing_rules.specs.Items.{adt_names, all_kinds, self_methods, trait_names}
use Rattle.typing_rules.specs.Places.{unit}
use Rattle.typing_rules.specs.Program.{outermost}
use Rattle.typing_rules.specs.Scope.{LabelledLoop, NamedEntry, Env}
use Rattle.src_ast.specs.Syntax.{Word, FieldsKind, Syn}
use Rattle.type_check.specs.Start.{HasItemTables, HasImplTables}
use Rattle.type_check.specs.declared.start.TextTables.{TextTables}
use Rattle.type_check.specs.declared.start.ItemTables.{ItemTables}
use Rattle.type_check.specs.declared.start.ImplTables.{ImplTables}

abbrev together : TextTables → ItemTables → ImplTables → Tables
together text of_items impls =
    record {
      adts = text.adts;
      traits = text.traits;
      kinds = text.kinds;
      self_methods = text.self_methods;
      adt_names = of_items.adt_names;
      trait_names = of_items.trait_names;
      body_names = of_items.body_names;
      members = of_items.members;
      methods = of_items.methods;
      pairs = impls.pairs;
      drop_bodies = impls.drop_bodies;
    }

pub ready : (items : ItemTable) (text : TextTables) (of_items : ItemTables) (impls : ImplTables) →
    HasItemTables items of_items → HasImplTables items impls → AreTablesOf items (together text of_items impls)
ready items text of_items impls known done =
    record {
      adts = known.adts;
      traits = known.traits;
      bodies = known.bodies;
      members = known.members;
      methods = known.methods;
      impls = done.impls;
      drops = done.drops;
    }

abbrev made : List Word → List Word → List (List FieldsKind) → List Word → Option ℕ → List NamedEntry → List LabelledLoop → TyId → Env
made adts traits kinds methods self_adt variables loops answer =
    record {
      adts = adts;
      traits = traits;
      kinds = kinds;
      methods = methods;
      self_adt = self_adt;
      variables = variables;
      loops = loops;
      answer = answer;
    }

pub begins : (items : List Syn) (t : Tables) (s : BodyScope) → t.adts ≡ adt_names items → t.traits ≡ trait_names items →
    all_kinds_of t.kinds ≡ all_kinds items → t.self_methods ≡ self_methods items → s.self_adt ≡ None → s.variables ≡ [] → s.loops ≡ [] →
    s.answer ≡ unit → env_in t s ≡ outermost items
unfolding env_in
begins items t s adts traits kinds methods self_adt variables loops answer =
    λ i. made (adts i) (traits i) (kinds i) (methods i) (self_adt i) (variables i) (reverse (map around_of (loops i))) (answer i)

pub none_made : (nodes : List Node) → nodes ≡ [] → stack_of nodes ≡ []
unfolding stack_of
none_made nodes is = ap stack_of is
