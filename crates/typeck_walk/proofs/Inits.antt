-- Fields of struct expressions, one after another.
use Rattle.std.proofs.Common.{◌≡◌, ℕ, List, [], Option, Result, Ok, Err, refl, ap, sym, subst, ◌∙◌}
use Rattle.typeck_heads.proofs.Sequences.{stopped}
use Rattle.typeck_heads.specs.Answers.{Refuses}
use Rattle.typeck_calls.proofs.Tabled.{variant_is}
use Rattle.typeck_calls.specs.Inits.{behind_inits, variant_by}
use Rattle.mir_base.specs.declared.place_in_text.Pos.{Pos}
use Rattle.mir_base.specs.declared.rule.RuleError.{RuleError}
use Rattle.mir_ty.specs.ItemTable.{ItemTable}
use Rattle.mir_ty.specs.declared.adt.Variant.{Variant}
use Rattle.mir_ty.specs.declared.ty.TyId.{TyId}
use Rattle.src_ast.specs.Syntax.{Word, MaybeSyn, Syns}
use Rattle.typeck_calls.specs.StructFields.{variant_of}
use Rattle.typeck_checker.specs.Tables.{AreTablesOf}
use Rattle.typeck_checker.specs.declared.tables.Tables.{Tables}
use Rattle.typed_tree.specs.Tree.{Fields, Node}
use Rattle.typing_rules.specs.Check.{Broken, Check, TypingState, ◌>>=◌, and_then, pure}
use Rattle.typing_rules.specs.Rows.{Given}
use Rattle.typing_rules.specs.Scope.{Env, field_named}
use Rattle.typing_rules.specs.Typed.{field_want, init_value, typed_inits}

-- no field yet
pub none_given : (ns : List Node) (o : Result ((Fields × Given) × TypingState) Broken) → o ≡ behind_inits [] ns o
none_given ns (Ok p) = refl
none_given ns (Err e) = refl

-- the value of a field, whose number and type are known
wanted_by : (v : Variant) (name : Word) (expected : Option TyId) (number : Option ℕ) → number ≡ field_named v name → expected ≡ field_want v number →
    field_want v (field_named v name) ≡ expected
wanted_by v name expected number is_number is_want = sym (is_want ∙ ap (field_want v) is_number)

abbrev with_number : Option ℕ → Node → Check (Option ℕ × Node)
with_number number n = pure (number, n)

pub named_init : (e : Env) (v : Variant) (at : Pos) (name : Word) (init : MaybeSyn) (expected : Option TyId) (number : Option ℕ) (n : Node) (s t : TypingState) →
    number ≡ field_named v name → expected ≡ field_want v number → init_value e at name init expected s ≡ Ok (n, t) →
    and_then (init_value e at name init (field_want v (field_named v name)) s) (with_number (field_named v name)) ≡ Ok ((number, n), t)
named_init e v at name init expected number n s t is_number is_want here =
    ap (λ w. and_then (init_value e at name init w s) (with_number (field_named v name))) (wanted_by v name expected number is_number is_want)
    ∙ ap (λ o. and_then o (with_number (field_named v name))) here ∙ ap (λ k. Ok ((k, n), t)) (sym is_number)

pub refused_value : (e : Env) (v : Variant) (at : Pos) (name : Word) (init : MaybeSyn) (expected : Option TyId) (number : Option ℕ) (s : TypingState) (err : RuleError) →
    number ≡ field_named v name → expected ≡ field_want v number → Refuses (init_value e at name init expected s) err →
    Refuses (and_then (init_value e at name init (field_want v (field_named v name)) s) (with_number (field_named v name))) err
refused_value e v at name init expected number s err is_number is_want here =
    subst (λ (w : Option TyId). Refuses (and_then (init_value e at name init w s) (with_number (field_named v name))) err) (sym (wanted_by v name expected number is_number is_want))
    (stopped (init_value e at name init expected s) (with_number (field_named v name)) err here)

-- the fields of a variant, by the tables
pub by_tables : (items : ItemTable) (t u : Tables) (adt variant : ℕ) (types : List TyId) (e f : Env) (is : Syns) (s : TypingState) → AreTablesOf items t →
    u ≡ t → types ≡ (variant_of items adt variant).fields → f ≡ e →
    typed_inits e (variant_of items adt variant) is s ≡ typed_inits f (variant_by (variant_of items adt variant).name u adt variant types) is s
by_tables items t u adt variant types e f is s ready same_tables same_types same =
    ap (λ (v : Variant). typed_inits e v is s) (sym (variant_is items t adt variant types ready same_types))
    ∙ ap (λ (w : Tables). typed_inits e (variant_by (variant_of items adt variant).name w adt variant types) is s) (sym same_tables)
    ∙ ap (λ (g : Env). typed_inits g (variant_by (variant_of items adt variant).name u adt variant types) is s) (sym same)

-- a row behind its fields
pub behind_fields : (check : Check (Fields × Given) → Check Node) (rest : Fields × Given → Check Node) (fields : Check (Fields × Given)) (fs : Fields × Given) (s t u : TypingState) →
    check fields s ≡ (fields >>= rest) t → fields t ≡ Ok (fs, u) → check fields s ≡ rest fs u
behind_fields check rest fields fs s t u h here = h ∙ ap (λ o. and_then o rest) here

pub refused_fields : (check : Check (Fields × Given) → Check Node) (rest : Fields × Given → Check Node) (fields : Check (Fields × Given)) (s t : TypingState) (err : RuleError) →
    check fields s ≡ (fields >>= rest) t → Refuses (fields t) err → Refuses (check fields s) err
refused_fields check rest fields s t err h here =
    subst (λ (o : Result (Node × TypingState) Broken). Refuses o err) (sym h) (stopped (fields t) rest err here)
