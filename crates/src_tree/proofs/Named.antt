-- What the named points of the table stand for.
use Rattle.std.proofs.Common.{◌≡◌, true, false, refl}
use Rattle.src_token.specs.declared.mark.Mark.{Mark}
use Rattle.src_token.specs.declared.word.Word.{Word}
use Rattle.src_tree.specs.declared.row.GrammarRow.{GrammarRow}
use Rattle.src_tree.specs.declared.row.Sort.{Sort}
use Rattle.src_tree.specs.declared.place.GrammarPart.{GrammarPart}
use Rattle.src_tree.specs.declared.kind.TokenKind.{TokenKind}
use Rattle.src_tree.specs.Grammar.{ends, token, either, part, maybe, many, items, alternatives, statements, arms, arm_body, after_break, close_block, comma, pattern1, a_name, a_type, a_pattern, a_label, any_expr, head_expr, block, of_sort, named, struct_rest, enum_rest, derived, head_rest, impl_rest, path_pattern, bind_or_self, if_rest, loop_rest, while_rest, labelled, closure, let_rest, operand, dot, exprs, patterns, fields, types, mark, word, if_mark, if_word}
use Rattle.src_tree.specs.Table.{rests, rest_at}

pub derived_is : rest_at 18 ≡ derived
unfolding rests rest_at
derived_is = refl

pub struct_is : rest_at 7 ≡ struct_rest
unfolding rests rest_at
struct_is = refl

pub enum_is : rest_at 11 ≡ enum_rest
unfolding rests rest_at
enum_is = refl

pub trait_is : rest_at 22 ≡ part a_name (mark Mark.OpenBrace (many (of_sort Sort.Head) (TokenKind.Mark Mark.CloseBrace) (ends GrammarRow.Trait)))
unfolding rests rest_at
trait_is = refl

pub impl_is : rest_at 28 ≡ part a_name (if_word Word.For (part a_name impl_rest) impl_rest)
unfolding rests rest_at
impl_is = refl

pub fn_is : rest_at 35 ≡ head_rest false (part block (ends GrammarRow.Fn))
unfolding rests rest_at
fn_is = refl

pub method_is : rest_at 42 ≡ head_rest true (part block (ends GrammarRow.Method))
unfolding rests rest_at
method_is = refl

pub head_is : rest_at 49 ≡ head_rest true (mark Mark.Semi (ends GrammarRow.Head))
unfolding rests rest_at
head_is = refl

pub field_is : rest_at 52 ≡ mark Mark.Colon (part a_type (ends GrammarRow.Field))
unfolding rests rest_at
field_is = refl

pub variant_is : rest_at 57 ≡ if_mark Mark.OpenParenthesis (types (ends GrammarRow.Variant)) (if_mark Mark.OpenBrace (fields (ends GrammarRow.Variant)) (ends GrammarRow.Variant))
unfolding rests rest_at
variant_is = refl

pub ident_is : rest_at 58 ≡ ends GrammarRow.Ident
unfolding rests rest_at
ident_is = refl

pub label_name_is : rest_at 59 ≡ ends GrammarRow.LabelName
unfolding rests rest_at
label_name_is = refl

pub type_name_is : rest_at 68 ≡ if_mark Mark.Lt (if_word Word.Dyn (part a_name (mark Mark.Gt (ends GrammarRow.DynType))) (part a_type (mark Mark.Gt (ends GrammarRow.GenericType)))) (ends GrammarRow.NamedType)
unfolding rests rest_at
type_name_is = refl

pub self_type_is : rest_at 69 ≡ ends GrammarRow.SelfType
unfolding rests rest_at
self_type_is = refl

pub tuple_type_is : rest_at 71 ≡ types (ends GrammarRow.TupleType)
unfolding rests rest_at
tuple_type_is = refl

pub array_type_is : rest_at 76 ≡ part a_type (mark Mark.Semi (token TokenKind.Number (mark Mark.CloseBracket (ends GrammarRow.ArrayType))))
unfolding rests rest_at
array_type_is = refl

pub never_type_is : rest_at 77 ≡ ends GrammarRow.NeverType
unfolding rests rest_at
never_type_is = refl

pub ref_type_is : rest_at 80 ≡ if_word Word.Mut (part a_type (ends GrammarRow.RefType)) (part a_type (ends GrammarRow.RefType))
unfolding rests rest_at
ref_type_is = refl

pub wild_is : rest_at 81 ≡ ends GrammarRow.WildPattern
unfolding rests rest_at
wild_is = refl

pub bind_is : rest_at 83 ≡ bind_or_self false
unfolding rests rest_at
bind_is = refl

pub bind_or_self_is : rest_at 85 ≡ bind_or_self true
unfolding rests rest_at
bind_or_self_is = refl

pub pattern_name_is : rest_at 96 ≡ path_pattern GrammarRow.BindPattern
unfolding rests rest_at
pattern_name_is = refl

pub pattern_self_type_is : rest_at 97 ≡ path_pattern GrammarRow.PathPattern
unfolding rests rest_at
pattern_self_type_is = refl

pub pattern_number_is : rest_at 98 ≡ ends GrammarRow.NumberPattern
unfolding rests rest_at
pattern_number_is = refl

pub pattern_minus_is : rest_at 99 ≡ token TokenKind.Number (ends GrammarRow.NumberPattern)
unfolding rests rest_at
pattern_minus_is = refl

pub pattern_truth_is : rest_at 100 ≡ ends GrammarRow.BoolPattern
unfolding rests rest_at
pattern_truth_is = refl

pub tuple_pattern_is : rest_at 102 ≡ patterns (TokenKind.Mark Mark.CloseParenthesis) (ends GrammarRow.TuplePattern)
unfolding rests rest_at
tuple_pattern_is = refl

pub array_pattern_is : rest_at 104 ≡ patterns (TokenKind.Mark Mark.CloseBracket) (ends GrammarRow.ArrayPattern)
unfolding rests rest_at
array_pattern_is = refl

pub self_param_is : rest_at 84 ≡ ends GrammarRow.SelfParam
unfolding rests rest_at
self_param_is = refl

pub ref_self_is : rest_at 106 ≡ if_word Word.Mut (word Word.SelfValue (ends GrammarRow.SelfParam)) (word Word.SelfValue (ends GrammarRow.SelfParam))
unfolding rests rest_at
ref_self_is = refl

pub field_pattern_is : rest_at 109 ≡ if_mark Mark.Colon (part a_pattern (ends GrammarRow.FieldPattern)) (ends GrammarRow.FieldPattern)
unfolding rests rest_at
field_pattern_is = refl

pub field_pattern_mut_is : rest_at 110 ≡ token TokenKind.Name (ends GrammarRow.FieldPattern)
unfolding rests rest_at
field_pattern_mut_is = refl

pub empty_is : rest_at 111 ≡ ends GrammarRow.Empty
unfolding rests rest_at
empty_is = refl

pub let_is : rest_at 118 ≡ let_rest
unfolding rests rest_at
let_is = refl

pub return_is : rest_at 120 ≡ maybe GrammarPart.AfterReturn (ends GrammarRow.Return) GrammarRow.Return
unfolding rests rest_at
return_is = refl

pub break_is : rest_at 121 ≡ after_break
unfolding rests rest_at
break_is = refl

pub continue_is : rest_at 123 ≡ maybe a_label (ends GrammarRow.Continue) GrammarRow.Continue
unfolding rests rest_at
continue_is = refl

pub closure_is : rest_at 132 ≡ closure
unfolding rests rest_at
closure_is = refl

pub prefix_is : rest_at 134 ≡ operand
unfolding rests rest_at
prefix_is = refl

pub reference_is : rest_at 135 ≡ if_word Word.Mut operand operand
unfolding rests rest_at
reference_is = refl

pub number_is : rest_at 136 ≡ ends GrammarRow.Number
unfolding rests rest_at
number_is = refl

pub truth_is : rest_at 137 ≡ ends GrammarRow.Truth
unfolding rests rest_at
truth_is = refl

pub self_value_is : rest_at 138 ≡ ends GrammarRow.SelfValue
unfolding rests rest_at
self_value_is = refl

pub path_is : rest_at 144 ≡ named false false
unfolding rests rest_at
path_is = refl

pub path_in_head_is : rest_at 146 ≡ named false true
unfolding rests rest_at
path_in_head_is = refl

pub panic_is : rest_at 151 ≡ named true false
unfolding rests rest_at
panic_is = refl

pub panic_in_head_is : rest_at 152 ≡ named true true
unfolding rests rest_at
panic_in_head_is = refl

pub round_is : rest_at 154 ≡ exprs Mark.CloseParenthesis (ends GrammarRow.Round)
unfolding rests rest_at
round_is = refl

pub square_is : rest_at 156 ≡ exprs Mark.CloseBracket (ends GrammarRow.Square)
unfolding rests rest_at
square_is = refl

pub block_is : rest_at 157 ≡ statements false
unfolding rests rest_at
block_is = refl

pub if_is : rest_at 165 ≡ if_rest
unfolding rests rest_at
if_is = refl

pub match_is : rest_at 168 ≡ part head_expr (mark Mark.OpenBrace (arms false))
unfolding rests rest_at
match_is = refl

pub loop_is : rest_at 170 ≡ loop_rest
unfolding rests rest_at
loop_is = refl

pub while_is : rest_at 176 ≡ while_rest
unfolding rests rest_at
while_is = refl

pub labelled_is : rest_at 179 ≡ labelled
unfolding rests rest_at
labelled_is = refl

pub field_init_is : rest_at 182 ≡ if_mark Mark.Colon (part any_expr (ends GrammarRow.FieldInit)) (ends GrammarRow.FieldInit)
unfolding rests rest_at
field_init_is = refl

pub assign_is : rest_at 184 ≡ part (GrammarPart.Operand 0) (ends GrammarRow.Assign)
unfolding rests rest_at
assign_is = refl

pub or_is : rest_at 186 ≡ part (GrammarPart.Operand 3) (ends GrammarRow.Or)
unfolding rests rest_at
or_is = refl

pub and_is : rest_at 188 ≡ part (GrammarPart.Operand 4) (ends GrammarRow.And)
unfolding rests rest_at
and_is = refl

pub compare_is : rest_at 190 ≡ part (GrammarPart.Operand 5) (ends GrammarRow.Compare)
unfolding rests rest_at
compare_is = refl

pub sum_is : rest_at 192 ≡ part (GrammarPart.Operand 6) (ends GrammarRow.Sum)
unfolding rests rest_at
sum_is = refl

pub product_is : rest_at 194 ≡ part (GrammarPart.Operand 7) (ends GrammarRow.Product)
unfolding rests rest_at
product_is = refl

pub call_is : rest_at 196 ≡ exprs Mark.CloseParenthesis (ends GrammarRow.Call)
unfolding rests rest_at
call_is = refl

pub dot_is : rest_at 203 ≡ dot
unfolding rests rest_at
dot_is = refl

pub index_is : rest_at 206 ≡ part any_expr (mark Mark.CloseBracket (ends GrammarRow.Index))
unfolding rests rest_at
index_is = refl

pub semi_is : rest_at 207 ≡ ends GrammarRow.Semi
unfolding rests rest_at
semi_is = refl

pub alternative_is : rest_at 209 ≡ part pattern1 alternatives
unfolding rests rest_at
alternative_is = refl

pub param_is : rest_at 211 ≡ part a_type (ends GrammarRow.Param)
unfolding rests rest_at
param_is = refl

pub arm_body_is : rest_at 212 ≡ arm_body
unfolding rests rest_at
arm_body_is = refl

pub guard_is : rest_at 214 ≡ part any_expr (mark Mark.FatArrow arm_body)
unfolding rests rest_at
guard_is = refl

pub items_is : rest_at 215 ≡ items
unfolding rests rest_at
items_is = refl

pub block_end_is : rest_at 216 ≡ ends GrammarRow.Block
unfolding rests rest_at
block_end_is = refl

pub close_block_is : rest_at 217 ≡ close_block
unfolding rests rest_at
close_block_is = refl

pub next_statements_is : rest_at 218 ≡ statements true
unfolding rests rest_at
next_statements_is = refl

pub match_end_is : rest_at 219 ≡ ends GrammarRow.Match
unfolding rests rest_at
match_end_is = refl

pub next_arms_is : rest_at 220 ≡ arms true
unfolding rests rest_at
next_arms_is = refl

pub close_match_is : rest_at 221 ≡ mark Mark.CloseBrace (ends GrammarRow.Match)
unfolding rests rest_at
close_match_is = refl

pub behind_block_is : rest_at 223 ≡ either comma (ends GrammarRow.Arm) (ends GrammarRow.Arm)
unfolding rests rest_at
behind_block_is = refl

pub behind_body_is : rest_at 225 ≡ either comma (ends GrammarRow.Arm) (ends GrammarRow.LastArm)
unfolding rests rest_at
behind_body_is = refl

pub behind_label_is : rest_at 227 ≡ maybe GrammarPart.AfterReturn (ends GrammarRow.Break) GrammarRow.Break
unfolding rests rest_at
behind_label_is = refl

pub break_end_is : rest_at 226 ≡ ends GrammarRow.Break
unfolding rests rest_at
break_end_is = refl
