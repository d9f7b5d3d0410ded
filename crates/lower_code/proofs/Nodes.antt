-- The code of nodes one after the other, and their keys.
use Rattle.std.proofs.Common.{◌≡◌, ◌∙◌, ◌∷◌, ◌++◌, ◌+◌, ◌<◌, ℕ, suc, false, List, [], map, drop, length, refl, sym, ap, rules, append_assoc}
use Rattle.std.proofs.lemmas.List.{at_drop_more}
use Rattle.std.specs.Prelude.{get_or}
use Rattle.mir_ty.specs.ItemTable.{ItemTable}
use Rattle.src_meaning.specs.Forms.{Destination, Into, LoopsAndGuards}
use Rattle.src_meaning.specs.FieldKeys.{field_keys}
use Rattle.typed_tree.specs.declared.node.Node.{Node}
use Rattle.typed_tree.specs.declared.node.NumberedField.{NumberedField}
use Rattle.typed_tree.specs.declared.node.Form.{the_lemmas}
use Rattle.typed_tree.specs.Tree as tree
use Rattle.typed_tree.specs.Tree.{Fields, no_field, a_field}
use Rattle.typed_tree.specs.Nodes.{number_of}
use Rattle.typed_tree.specs.View.{tree_of, nodes_from, field_of, fields_from}
use Rattle.lower_code.specs.Code.{Code}
use Rattle.lower_code.specs.Forms.{NodeWords, WordsIfAny, no_code, a_code, operands, operand, statements, keys_of, code, codes, codes_of_fields, branch, value_of_jump, put_unit}
use Rattle.lower_code.specs.Ops as ops
use Rattle.lower_code.specs.Ops.{CodeWord, onto, thens, Then}
use Rattle.lower_code.specs.Wanted.{Category, AsOperand, UnderOwnKey, Alone, Value, code_for, codes_for, code_if_any_or}

abbrev pub each_onto : Category → LoopsAndGuards → List NodeWords → List CodeWord → List CodeWord
each_onto wanted around [] before = before
each_onto wanted around (m ∷ ms) before = each_onto wanted around ms (onto (code_for wanted m around) before)

pub codes_onto : (wanted : Category) (around : LoopsAndGuards) (ms : List NodeWords) (before : List CodeWord) → thens (length ms) (ops.Nothing ∷ each_onto wanted around ms before) ≡ onto (codes_for wanted ms around) before
codes_onto wanted around [] before = refl
codes_onto wanted around (m ∷ ms) before = ap (λ inner. Then ∷ inner) (codes_onto wanted around ms (onto (code_for wanted m around) before))

pub as_operands : (ms : List NodeWords) (around : LoopsAndGuards) → codes_for AsOperand ms around ≡ operands around ms
as_operands [] around = refl
as_operands (m ∷ ms) around = ap (Rattle.lower_code.specs.Code.Then (operand around m)) (as_operands ms around)

pub as_statements : (ms : List NodeWords) (around : LoopsAndGuards) → codes_for UnderOwnKey ms around ≡ statements around ms
as_statements [] around = refl
as_statements (m ∷ ms) around =
    ap (Rattle.lower_code.specs.Code.Then (m.evaluates around false (Into m.head.id))) (as_statements ms around)

pub so_many : (items : ItemTable) (nodes : List Node) → length (codes items (nodes_from (map tree_of nodes))) ≡ length nodes
so_many items [] = refl
so_many items (n ∷ nodes) = ap suc (so_many items nodes)

pub so_many_fields : (items : ItemTable) (fields : List NumberedField) → length (codes_of_fields items (fields_from (map field_of fields))) ≡ length fields
so_many_fields items [] = refl
so_many_fields items (field ∷ fields) = ap suc (so_many_fields items fields)

-- a node has the number of its tree
pub number_is : (items : ItemTable) (n : tree.Node) → (code items n).head.id ≡ number_of n
number_is items (tree.node id at ty by form) = refl

pub keys_are : (items : ItemTable) (nodes : List Node) → keys_of (codes items (nodes_from (map tree_of nodes))) ≡ map (λ n. n.id.0) nodes
keys_are items [] = refl
keys_are items (n ∷ nodes) =
    let first : (code items (tree_of n)).head.id ≡ n.id.0 = search (rules, the_lemmas) in
    (λ i. first i ∷ keys_are items nodes i)

pub field_keys_are : (items : ItemTable) (fields : Fields) → keys_of (codes_of_fields items fields) ≡ map (λ f. f.1) (field_keys fields)
field_keys_are items no_field = refl
field_keys_are items (a_field number value rest) = λ i. number_is items value i ∷ field_keys_are items rest i

-- a part that may be missing
pub branch_is : (m : WordsIfAny) (around : LoopsAndGuards) (to : Destination) (without : Code) → code_if_any_or (Alone to) m around without ≡ branch around to m without
branch_is no_code around to without = refl
branch_is (a_code m) around to without = refl

pub jump_is : (id : ℕ) (m : WordsIfAny) (around : LoopsAndGuards) (to : Destination) → code_if_any_or (Value false to) m around (put_unit id to) ≡ value_of_jump id m around to
jump_is id no_code around to = refl
jump_is id (a_code m) around to = refl

-- one more member of a list, behind those before it
pub one_more : {X Y : Type 0} (F : List X → List Y) (part : X → Y) (xs : List X) (i : ℕ) (d : X) (before new all : List Y) → ((x : X) (rest : List X) → F (x ∷ rest) ≡ part x ∷ F rest) → i < length xs → d ≡ get_or xs i d → new ≡ before ++ part d ∷ [] → before ++ F (drop i xs) ≡ all → new ++ F (drop (i + 1) xs) ≡ all
one_more F part xs i d before new all cons less is is_new so_far =
    ap (λ (l : List _). l ++ F (drop (i + 1) xs)) is_new
    ∙ append_assoc before (part d ∷ []) (F (drop (i + 1) xs))
    ∙ ap (λ (l : List _). before ++ l) (sym (at_drop_more F xs i d less ∙ cons (get_or xs i d) (drop (i + 1) xs) ∙ ap (λ x. part x ∷ F (drop (i + 1) xs)) (sym is)))
    ∙ so_far
