-- The lines with open parts are those of the evaluation; and the law on parts.
use Rattle.std.proofs.Common.{◌≡◌, ◌∙◌, ℕ, List, ◌∷◌, Option, refl, ap}
use Rattle.mir_ty.specs.ItemTable.{ItemTable}
use Rattle.scope_table.proofs.Fresh.{fresh_of}
use Rattle.scope_table.proofs.PartsRuns.{runs_only_there}
use Rattle.scope_table.specs.Lines.{meaning_with, with_parts, each_part, each_field, if_any}
use Rattle.scope_table.specs.PartsLaw.{heads_of, RunsPartsInTheirScopes}
use Rattle.src_meaning.specs.Evaluation as evaluation
use Rattle.src_meaning.specs.Evaluation.{on_all, on_fields, a_value, a_scope, meaning, meaning_of, meanings, fields_of, meaning_if_any}
use Rattle.src_meaning.specs.Forms as forms
use Rattle.src_meaning.specs.Forms.{Meaning}
use Rattle.src_meaning.specs.Shape.{NodeHead, head, Shape, shape_of}
use Rattle.store_model.specs.Effects as effects
use Rattle.store_model.specs.Effects.{Effects}
use Rattle.typed_tree.specs.Nodes.{nodes_of}
use Rattle.typed_tree.specs.Tree.{Node, node, Form, Nodes, no_node, a_node, Fields, no_field, a_field, MaybeNode, absent, present, Number, Truth, UnitValue, Variable, Captured, Field, Index, Deref, Not, Negate, Arithmetic, Comparison, And, Or, Assign, Call, MethodCall, VirtualCall, ClosureCall, Make, Tuple, Array, Closure, NewBox, Print, Ask, DropValue, Forget, Panic, Borrow, Unsize, Block, Let, Evaluate, If, IfLet, Match, Arm, Loop, While, WhileLet, Break, Continue, Return, Wildcard, Binding, NumberPattern, TruthPattern, StructPattern, VariantPattern, TuplePattern, ArrayPattern, OrPattern}

module _ {W : Type 0} (items : ItemTable) (p : Effects W) (fuel : ℕ) where
  abbrev mean : Node → Meaning W
  mean n = meaning items p fuel n

  abbrev Means : Type 0
  Means = List (Meaning W)

  abbrev MaybeMeaning : Type 0
  MaybeMeaning = Option (Meaning W)

  all_of : (nodes : Nodes) → each_part items p fuel mean nodes ≡ meanings items p fuel nodes
  all_of no_node = refl
  all_of (a_node first rest) = ap (λ (l : Means). mean first ∷ l) (all_of rest)

  all_fields : (fields : Fields) → each_field items p fuel mean fields ≡ fields_of items p fuel fields
  all_fields no_field = refl
  all_fields (a_field number value rest) = ap (λ (l : List (ℕ × Meaning W)). (number, mean value) ∷ l) (all_fields rest)

  one_if_any : (o : MaybeNode) → if_any items p fuel mean o ≡ meaning_if_any items p fuel o
  one_if_any absent = refl
  one_if_any (present value) = refl

  line : (form : Form) (h : NodeHead) (s : Shape) → meaning_with items p fuel mean form h s
      ≡ meaning_of items p fuel form h s
  line (Call body args) h s =
      ap (λ (l : Means). on_all items p fuel h s l (λ site. effects.Call site body)) (all_of args)
  line (MethodCall body receiver args) h s =
      ap (λ (l : Means). on_all items p fuel h s (mean receiver ∷ l) (λ site. effects.Call site body)) (all_of args)
  line (VirtualCall trait_no method receiver args) h s =
      ap (λ (l : Means). on_all items p fuel h s (mean receiver ∷ l)
      (λ site. effects.CallVirtual site trait_no method)) (all_of args)
  line (ClosureCall body callee args) h s =
      ap (λ (l : Means). on_all items p fuel h s (mean callee ∷ l) (λ site. effects.Call site body)) (all_of args)
  line (Make adt variant fields) h s =
      ap (λ (l : List (ℕ × Meaning W)). on_fields items p fuel h s l
      (λ site. effects.Build site (effects.OfVariant adt variant))) (all_fields fields)
  line (Tuple elements) h s =
      ap (λ (l : Means). on_all items p fuel h s l (λ site. effects.Build site effects.OfTuple)) (all_of elements)
  line (Array elements) h s =
      ap (λ (l : Means). on_all items p fuel h s l (λ site. effects.Build site effects.OfArray)) (all_of elements)
  line (Closure closure captures) h s =
      ap (λ (l : Means). on_all items p fuel h s l (λ site. effects.Build site (effects.OfClosure closure)))
      (all_of captures)
  line (Block stmts tail) h s =
      ap (λ (l : Means). a_value items p fuel h s (forms.block items p h l (if_any items p fuel mean tail)))
      (all_of stmts)
      ∙ ap (λ (o : MaybeMeaning). a_value items p fuel h s (forms.block items p h (meanings items p fuel stmts) o))
      (one_if_any tail)
  line (Let pattern initialiser) h s =
      ap (λ (o : MaybeMeaning). evaluation.a_statement items p fuel h s (forms.letting items p h (mean pattern) o))
      (one_if_any initialiser)
  line (If condition consequent otherwise) h s =
      ap (λ (o : MaybeMeaning). a_scope items p fuel h s
      (evaluation.if_else items p fuel h (mean condition) (mean consequent) o)) (one_if_any otherwise)
  line (IfLet pattern scrutinee consequent otherwise) h s =
      ap (λ (o : MaybeMeaning). a_scope items p fuel h s
      (evaluation.if_let items p fuel h (mean pattern) (mean scrutinee) (mean consequent) o)) (one_if_any otherwise)
  line (Match scrutinee arms) h s =
      ap (λ (l : Means). a_value items p fuel h s (forms.matching items p h (mean scrutinee) l)) (all_of arms)
  line (Arm pattern guard body) h s =
      ap (λ (o : MaybeMeaning). record (evaluation.a_pattern items p fuel h s) {
        arm =
            forms.arm items p h (mean pattern) o (mean body);
      }) (one_if_any guard)
  line (Break loop value) h s =
      ap (λ (o : MaybeMeaning). a_scope items p fuel h s (evaluation.breaks items p fuel loop h o)) (one_if_any value)
  line (Return value) h s =
      ap (λ (o : MaybeMeaning). a_scope items p fuel h s (evaluation.returns items p fuel h o)) (one_if_any value)
  line other h s = refl

  closed : (n : Node) → with_parts items p fuel mean n ≡ mean n
  closed (node id at ty by form) = line form (head id ty by) (shape_of items form (head id ty by))

pub parts_in_their_scopes : (W : Type 0) → RunsPartsInTheirScopes W
parts_in_their_scopes W = record {
  lines = λ items p fuel n. closed items p fuel n;
  only_there = λ items p fuel instead w H n st new.
      runs_only_there items p fuel instead w H n st (fresh_of (heads_of H) (nodes_of n) new.distinct new.not_open);
}
