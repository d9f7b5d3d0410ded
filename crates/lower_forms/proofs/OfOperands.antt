-- The code of forms that are made of operands.
use Rattle.std.proofs.Common.{◌≡◌, ◌∙◌, ◌∷◌, ℕ, List, map, refl, sym, ap}
use Rattle.src_meaning.specs.FieldKeys.{field_keys}
use Rattle.mir_ty.specs.ItemTable.{ItemTable}
use Rattle.store_model.specs.Effects.{EffectSite, Operand, Action}
use Rattle.src_meaning.specs.Forms.{moved}
use Rattle.src_meaning.specs.Shape.{shape}
use Rattle.typed_tree.specs.declared.node.Node.{Node}
use Rattle.typed_tree.specs.Tree as tree
use Rattle.typed_tree.specs.Tree.{Fields}
use Rattle.typed_tree.specs.View.{tree_of, nodes_from}
use Rattle.lower_code.specs.Code.{Code}
use Rattle.lower_code.specs.Forms.{NodeWords, code, codes, codes_of_fields, keys_of, all_moved, operand, operands, acting, deliver}
use Rattle.lower_code.specs.Ops.{CodeWord, Then, onto, operated_onto}
use Rattle.lower_code.specs.View.{around_of, destination_of}
use Rattle.lower_code.specs.Wanted.{AsOperand, codes_for}
use Rattle.lower_code.specs.declared.context.Context.{Context}
use Rattle.lower_code.proofs.Nodes.{as_operands, keys_are, field_keys_are}

pub shape_is : (items : ItemTable) (n : tree.Node) → (code items n).shape ≡ shape items n
shape_is items (tree.node id at ty by form) = refl

-- operands are taken, and an action of them goes to the destination
abbrev pub on_all : Context → List NodeWords → (EffectSite → List Operand → Action) → Code
on_all at ms action =
    acting at.head.id.0 (around_of at.around) at.own ms
    (deliver at.head.id.0 (λ site. action site (all_moved at.head.id.0 ms)) (destination_of at.to))

-- the words behind those of the operands
abbrev pub taken_onto : Context → List ℕ → (EffectSite → List Operand → Action) → List CodeWord → List CodeWord
taken_onto at keys action made =
    operated_onto at.head.id.0 at.own keys
    (onto (deliver at.head.id.0 (λ site. action site (map (moved at.head.id.0) keys)) (destination_of at.to)) made)

of_operands : (at : Context) (ms : List NodeWords) (keys : List ℕ) (action : EffectSite → List Operand → Action) (before made after : List CodeWord) → after ≡ taken_onto at keys action made → made ≡ onto (operands (around_of at.around) ms) before → keys ≡ keys_of ms → after ≡ onto (on_all at ms action) before
of_operands at ms keys action before made after taken is are =
    taken ∙ ap (taken_onto at keys action) is
    ∙ ap (λ (ks : List ℕ). taken_onto at ks action (onto (operands (around_of at.around) ms) before)) are

abbrev pub each : ItemTable → List Node → List NodeWords
each items nodes = codes items (nodes_from (map tree_of nodes))

module _ (items : ItemTable) (at : Context) (nodes : List Node) (keys : List ℕ) (action : EffectSite → List Operand → Action) (before : List CodeWord) where
  -- nodes are made one after the other
  pub of_nodes : (made after : List CodeWord) → after ≡ taken_onto at keys action made → made ≡ onto (codes_for AsOperand (each items nodes) (around_of at.around)) before → keys ≡ map (λ n. n.id.0) nodes → after ≡ onto (on_all at (each items nodes) action) before
  of_nodes made after taken is are =
      of_operands at (each items nodes) keys action before made after taken
      (is ∙ ap (λ (c : Code). onto c before) (as_operands (each items nodes) (around_of at.around)))
      (are ∙ sym (keys_are items nodes))

  -- a node is made, and then others
  pub of_first_and_nodes : (first : Node) (one all made after : List CodeWord) → after ≡ taken_onto at keys action made → made ≡ Then ∷ all → all ≡ onto (codes_for AsOperand (each items nodes) (around_of at.around)) one → one ≡ onto (operand (around_of at.around) (code items (tree_of first))) before → keys ≡ first.id.0 ∷ map (λ n. n.id.0) nodes → after ≡ onto (on_all at (code items (tree_of first) ∷ each items nodes) action) before
  of_first_and_nodes first one all made after taken behind is begins are =
      of_operands at (code items (tree_of first) ∷ each items nodes) keys action before made after taken
      (behind
      ∙ ap (λ (rest : List CodeWord). Then ∷ rest)
      (is ∙ ap (λ (c : Code). onto c one) (as_operands (each items nodes) (around_of at.around))
      ∙ ap (onto (operands (around_of at.around) (each items nodes))) begins))
      (are ∙ sym (keys_are items (first ∷ nodes)))

-- the values of fields are made one after the other
pub of_fields : (items : ItemTable) (at : Context) (fields : Fields) (action : EffectSite → Action) (before made after : List CodeWord) → after ≡ operated_onto at.head.id.0 at.own (map (λ f. f.1) (field_keys fields)) (onto (deliver at.head.id.0 action (destination_of at.to)) made) → made ≡ onto (operands (around_of at.around) (codes_of_fields items fields)) before → after ≡ onto (acting at.head.id.0 (around_of at.around) at.own (codes_of_fields items fields) (deliver at.head.id.0 action (destination_of at.to))) before
of_fields items at fields action before made after taken is =
    let onto_keys : List ℕ → List CodeWord → List CodeWord =
    λ keys made. operated_onto at.head.id.0 at.own keys (onto (deliver at.head.id.0 action (destination_of at.to)) made) in
    taken ∙ ap (onto_keys (map (λ f. f.1) (field_keys fields))) is
    ∙ ap (λ (keys : List ℕ). onto_keys keys (onto (operands (around_of at.around) (codes_of_fields items fields)) before)) (sym (field_keys_are items fields))
