-- The fields of a struct expression, one behind another.
use Rattle.std.specs.Prelude.{◌≡◌, ⊤, ℕ, List, [], ◌∷◌, ◌++◌, length, Option, Some, Result, Ok, Err, option_and_then, slice_get}
use Rattle.std.specs.Option.{option_map_or}
use Rattle.mir_base.specs.declared.place_in_text.Pos.{Pos}
use Rattle.mir_base.specs.declared.rule.Rule.{Rule}
use Rattle.mir_base.specs.declared.rule.RuleError.{RuleError}
use Rattle.mir_ty.specs.declared.adt.Variant.{Variant}
use Rattle.mir_ty.specs.declared.ty.TyId.{TyId}
use Rattle.typeck_heads.specs.Answers.{Refuses}
use Rattle.typeck_checker.specs.Lists.{below_all, last_nodes}
use Rattle.src_ast.specs.Syntax.{Word, Syn, syn, Shape, AnInit}
use Rattle.typeck_calls.specs.StructFields.{numbered_by}
use Rattle.typeck_env.specs.declared.members.AdtNames.{AdtNames}
use Rattle.typeck_checker.specs.Stand.{Stays, stack, state, top}
use Rattle.typeck_checker.specs.declared.checker.Checker.{Checker}
use Rattle.typeck_checker.specs.declared.tables.Tables.{Tables}
use Rattle.typed_tree.specs.Tree.{Node, Nodes, no_node, a_node, Fields, a_field}
use Rattle.typing_rules.specs.Check.{Broken, Check, TypingState, ◌>>=◌, breaks, pure}
use Rattle.typing_rules.specs.Rows.{Given}
use Rattle.typing_rules.specs.Scope.{Env, field_named}
use Rattle.typing_rules.specs.Typed.{field_want, init_value, or_zero}

-- ---- the variant that is made, by the tables of names and the types of its fields

abbrev pub names_in : Tables → ℕ → ℕ → List Word
names_in tables adt variant =
    option_map_or (λ names. names) (option_and_then (λ (names : AdtNames). slice_get names.fields variant)
    (slice_get tables.members adt)) []

abbrev pub variant_by : Word → Tables → ℕ → ℕ → List TyId → Variant
variant_by name tables adt variant types =
    record { name = name; fields = types; field_names = names_in tables adt variant }

-- ---- one field

-- the number of the field that is named, if there is one, and the node of its value
abbrev pub one_init : Env → Variant → Syn → Check (Option ℕ × Node)
one_init env v (syn at (AnInit name init)) = do
  n ← init_value env at name init (field_want v (field_named v name))
  pure (field_named v name, n)
one_init env v (syn at form) = breaks Rule.T20 at

-- the same by the form of the initialiser, where it has one
abbrev pub init_by : Env → Variant → Pos → Option Shape → Check (Option ℕ × Node)
init_by env v at (Some (AnInit name init)) = do
  n ← init_value env at name init (field_want v (field_named v name))
  pure (field_named v name, n)
init_by env v at _ = breaks Rule.T20 at

abbrev pub GivesInit : Result ((Option ℕ × Node) × TypingState) Broken → Result (Option ℕ) RuleError → Checker → Type 0
GivesInit outcome (Ok number) after = outcome ≡ Ok ((number, top (stack after)), state after)
GivesInit outcome (Err e) after = Refuses outcome e

-- ---- all fields

-- the fields of these numbers, before some others
abbrev pub fields_before : Given → Nodes → Fields → Fields
fields_before [] nodes others = others
fields_before (number ∷ given) no_node others = others
fields_before (number ∷ given) (a_node first rest) others =
    a_field (or_zero number) first (fields_before given rest others)

-- what is given of the rest, behind the fields of these numbers, whose nodes are the last ones
abbrev pub behind_inits : Given → List Node → Result ((Fields × Given) × TypingState) Broken →
    Result ((Fields × Given) × TypingState)
    Broken
behind_inits given ns (Ok a) = Ok ((fields_before given (last_nodes (length given) ns) a.0.0, given ++ a.0.1), a.1)
behind_inits given ns (Err e) = Err e

-- the last nodes are the fields of these numbers, which a check gives
abbrev pub GivesInits : Result ((Fields × Given) × TypingState) Broken → Result Given RuleError → Checker → Type 0
GivesInits outcome (Ok given) after =
    outcome ≡ Ok ((numbered_by given (last_nodes (length given) (stack after)), given), state after)
GivesInits outcome (Err e) after = Refuses outcome e

abbrev pub KeepsBelowInits : List Node → Checker → Result Given RuleError → Checker → Type 0
KeepsBelowInits others before (Ok given) after =
    (below_all (length given) (stack after) ≡ others) × Stays before after
KeepsBelowInits others before (Err e) after = ⊤

-- ---- before all fields

-- what a check gives with the fields of a value, whatever they are, is what they give, and then the rest behind them
abbrev pub GivesFields : {B : Type 0} → (Check (Fields × Given) → Check Node) → TypingState →
    (B → Fields × Given → Check Node)
    → Result B RuleError → Checker → Type 0
GivesFields check before rest (Ok b) after =
    (fields : Check (Fields × Given)) → check fields before ≡ (fields >>= rest b) (state after)
GivesFields check before rest (Err e) after = (fields : Check (Fields × Given)) → Refuses (check fields before) e
