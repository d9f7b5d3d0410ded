-- The code of a node for what it is wanted is made from what its form does there.
use Rattle.std.proofs.Common.{◌≡◌, ◌∙◌, ◌∷◌, refl, sym, ap, ℕ, Bool, true, false, List, Option}
use Rattle.mir_ty.specs.ItemTable.{ItemTable}
use Rattle.mir_ty.specs.declared.ty.TyId.{TyId}
use Rattle.store_model.specs.Effects as effects
use Rattle.src_meaning.specs.Evaluation.{to_own_key}
use Rattle.src_meaning.specs.Forms.{LoopsAndGuards, is_never, entry_of}
use Rattle.src_meaning.specs.Scopes.{Entry}
use Rattle.src_meaning.specs.Shape.{NodeHead, head, Shape, shape_of, operand_at}
use Rattle.typed_tree.specs.Tree as tree
use Rattle.typed_tree.specs.Tree.{Form}
use Rattle.typed_tree.specs.declared.node.Use.{Use}
use Rattle.lower_code.specs.Code as code
use Rattle.lower_code.specs.Code.{Code, ScopeAt, Innermost, NearestTemporary}
use Rattle.lower_code.specs.Forms.{FormCode, Makes, IsPlace, IsArm, Reaches, code_of_form, node_code, use_of_place, made_entry, deliver}
use Rattle.lower_code.specs.Ops as ops
use Rattle.lower_code.specs.Ops.{CodeWord, onto, made_entry_onto}
use Rattle.lower_code.specs.View.{done}
use Rattle.lower_code.specs.Wanted.{Category, Value, UnderOwnKey, AsOperand, Alone, AloneUnderOwnKey, AsPlace, code_for, own_in, made_into, taken_onto, used_onto, finished_onto}
use Rattle.lower_code.proofs.Following.{in_own, pending}

abbrev is_a_place : FormCode → Bool
is_a_place (Makes evaluates) = false
is_a_place (IsPlace reaches) = true
is_a_place (IsArm arm) = false

module _ (items : ItemTable) where
  place_by_form : (form : Form) (h : NodeHead) (s : Shape) → (shape_of items form h).is_place ≡ is_a_place (code_of_form items form h s)
  place_by_form (tree.Number value) h s = refl
  place_by_form other h s = refl

  -- where a node is made for what is wanted
  abbrev pub there : FormCode → NodeHead → Category → LoopsAndGuards → Code
  there does h w around = done does around (own_in w) (to_own_key (is_never items h.ty) h.id (made_into w h.id))

  entry_made : (pends : Bool) (at : ScopeAt) (e : Entry) (c : Code) (before : List CodeWord) → made_entry_onto pends at e (onto c before) ≡ onto (made_entry pends at e c) before
  entry_made pends at e c before = sym (pending pends at e (code.Then c (code.Changes (code.Completes at e))) before)

  -- what is made, however it is taken
  taken : (w : Category) (h : NodeHead) (s : Shape) (does : FormCode) (around : LoopsAndGuards) (before : List CodeWord) → is_a_place does ≡ false → taken_onto w h s (onto (there does h w around) before) ≡ onto (code_for w (node_code items h s does) around) before
  taken (Value own to) h s (Makes e) around before is_value = refl
  taken UnderOwnKey h s (Makes e) around before is_value = refl
  taken AsOperand h s (Makes e) around before is_value = entry_made s.in_destination Innermost (entry_of h) _ before
  taken (Alone to) h s (Makes e) around before is_value = refl
  taken AloneUnderOwnKey h s (Makes e) around before is_value = refl
  taken AsPlace h s (Makes e) around before is_value = entry_made s.in_destination NearestTemporary (entry_of h) _ before
  taken (Value own to) h s (IsArm arm) around before is_value = refl
  taken UnderOwnKey h s (IsArm arm) around before is_value = refl
  taken AsOperand h s (IsArm arm) around before is_value = entry_made s.in_destination Innermost (entry_of h) _ before
  taken (Alone to) h s (IsArm arm) around before is_value = refl
  taken AloneUnderOwnKey h s (IsArm arm) around before is_value = refl
  taken AsPlace h s (IsArm arm) around before is_value = entry_made s.in_destination NearestTemporary (entry_of h) _ before
  taken w h s (IsPlace r) around before is_value = let never : true ≡ false = is_value in cc

  used : (w : Category) (h : NodeHead) (s : Shape) (r : Reaches) (around : LoopsAndGuards) (before : List CodeWord) → used_onto items w h s around (onto (r around) before) ≡ onto (use_of_place h s r around (own_in w) (to_own_key (is_never items h.ty) h.id (made_into w h.id))) before
  used w h s r around before = sym (in_own h.id (own_in w) (code.Then (r around) (deliver h.id (λ site. effects.Put site (operand_at h (s.place around.aliases))) (to_own_key (is_never items h.ty) h.id (made_into w h.id)))) before)

  place_taken : (w : Category) (h : NodeHead) (s : Shape) (r : Reaches) (around : LoopsAndGuards) (before : List CodeWord) → finished_onto items w true h s around (onto (r around) before) ≡ onto (code_for w (node_code items h s (IsPlace r)) around) before
  place_taken (Value own to) h s r around before = used (Value own to) h s r around before
  place_taken UnderOwnKey h s r around before = used UnderOwnKey h s r around before
  place_taken AsOperand h s r around before =
      ap (made_entry_onto s.in_destination Innermost (entry_of h)) (used AsOperand h s r around before)
      ∙ entry_made s.in_destination Innermost (entry_of h) _ before
  place_taken (Alone to) h s r around before = ap (λ inner. ops.BackIn ∷ inner) (used (Alone to) h s r around before)
  place_taken AloneUnderOwnKey h s r around before =
      ap (λ inner. ops.BackIn ∷ inner) (used AloneUnderOwnKey h s r around before)
  place_taken AsPlace h s r around before = refl

  value_taken : (w : Category) (h : NodeHead) (s : Shape) (around : LoopsAndGuards) (before : List CodeWord) → finished_onto items w false h s around before ≡ taken_onto w h s before
  value_taken (Value own to) h s around before = refl
  value_taken other h s around before = refl

  by_does : (w : Category) (h : NodeHead) (s : Shape) (does : FormCode) (around : LoopsAndGuards) (before : List CodeWord) → finished_onto items w (is_a_place does) h s around (onto (there does h w around) before) ≡ onto (code_for w (node_code items h s does) around) before
  by_does w h s (Makes e) around before =
      value_taken w h s around (onto (there (Makes e) h w around) before) ∙ taken w h s (Makes e) around before refl
  by_does w h s (IsPlace r) around before = place_taken w h s r around before
  by_does w h s (IsArm arm) around before =
      value_taken w h s around (onto (there (IsArm arm) h w around) before) ∙ taken w h s (IsArm arm) around before refl

  -- what comes behind the code of a form makes it the code of the node
  pub of_node : (w : Category) (id : ℕ) (ty : TyId) (by : Option Use) (form : Form) (around : LoopsAndGuards) (before : List CodeWord) → finished_onto items w (shape_of items form (head id ty by)).is_place (head id ty by) (shape_of items form (head id ty by)) around (onto (there (code_of_form items form (head id ty by) (shape_of items form (head id ty by))) (head id ty by) w around) before) ≡ onto (code_for w (node_code items (head id ty by) (shape_of items form (head id ty by)) (code_of_form items form (head id ty by) (shape_of items form (head id ty by)))) around) before
  of_node w id ty by form around before =
      let h = head id ty by in
      let s = shape_of items form h in
      let does = code_of_form items form h s in
      ap (λ b. finished_onto items w b h s around (onto (there does h w around) before)) (place_by_form form h s)
      ∙ by_does w h s does around before
