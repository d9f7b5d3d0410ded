-- What the code of a node is wanted for.
use Rattle.std.specs.Prelude.{ℕ, Bool, true, false, List, [], ◌∷◌}
use Rattle.mir_ty.specs.ItemTable.{ItemTable}
use Rattle.store_model.specs.Effects as effects
use Rattle.src_meaning.specs.Evaluation.{to_own_key}
use Rattle.src_meaning.specs.Forms.{Destination, Into, LoopsAndGuards, entry_of, is_never}
use Rattle.src_meaning.specs.Shape.{NodeHead, Shape, operand_at}
use Rattle.lower_code.specs.Code.{Code, Nothing, Then, Innermost, NearestTemporary}
use Rattle.lower_code.specs.Forms.{NodeWords, WordsIfAny, no_code, a_code, alone, operand, deliver}
use Rattle.lower_code.specs.Ops as ops
use Rattle.lower_code.specs.Ops.{CodeWord, onto, own_scope_onto, made_entry_onto}

-- A value in a destination, or under the node's own key; an operand, which is an entry; a value alone, behind which the
-- scopes are those before it; a place.
pub data Category : Type 0 where
  Value : (own : Bool) (to : Destination) → Category
  UnderOwnKey : Category
  AsOperand : Category
  Alone : (to : Destination) → Category
  AloneUnderOwnKey : Category
  AsPlace : Category

abbrev pub code_for : Category → NodeWords → LoopsAndGuards → Code
code_for (Value own to) m around = m.evaluates around own to
code_for UnderOwnKey m around = m.evaluates around false (Into m.head.id)
code_for AsOperand m around = operand around m
code_for (Alone to) m around = alone around m to
code_for AloneUnderOwnKey m around = alone around m (Into m.head.id)
code_for AsPlace m around = m.reaches around

abbrev pub code_if_any_or : Category → WordsIfAny → LoopsAndGuards → Code → Code
code_if_any_or wanted no_code around without = without
code_if_any_or wanted (a_code m) around without = code_for wanted m around

-- nodes, one after the other
abbrev pub codes_for : Category → List NodeWords → LoopsAndGuards → Code
codes_for wanted [] around = Nothing
codes_for wanted (m ∷ ms) around = Then (code_for wanted m around) (codes_for wanted ms around)

-- whether the node is a scope for temporaries of its own, and where its value is made
abbrev pub own_in : Category → Bool
own_in (Value own to) = own
own_in UnderOwnKey = false
own_in AsOperand = false
own_in (Alone to) = true
own_in AloneUnderOwnKey = true
own_in AsPlace = false

abbrev pub made_into : Category → ℕ → Destination
made_into (Value own to) id = to
made_into UnderOwnKey id = Into id
made_into AsOperand id = Into id
made_into (Alone to) id = to
made_into AloneUnderOwnKey id = Into id
made_into AsPlace id = Into id

-- What comes behind the code of a form, for what is wanted.

-- how what was made is taken
abbrev pub taken_onto : Category → NodeHead → Shape → List CodeWord → List CodeWord
taken_onto (Value own to) h s before = before
taken_onto UnderOwnKey h s before = before
taken_onto AsOperand h s before = made_entry_onto s.in_destination Innermost (entry_of h) before
taken_onto (Alone to) h s before = ops.BackIn ∷ before
taken_onto AloneUnderOwnKey h s before = ops.BackIn ∷ before
taken_onto AsPlace h s before = made_entry_onto s.in_destination NearestTemporary (entry_of h) before

module _ (items : ItemTable) where
  -- the use of a place
  abbrev pub used_onto : Category → NodeHead → Shape → LoopsAndGuards → List CodeWord → List CodeWord
  used_onto wanted h s around before =
      own_scope_onto h.id (own_in wanted)
      (ops.Then ∷ onto (deliver h.id (λ site. effects.Put site (operand_at h (s.place around.aliases)))
      (to_own_key (is_never items h.ty) h.id (made_into wanted h.id))) before)

  abbrev pub finished_onto : Category → (is_place : Bool) → NodeHead → Shape → LoopsAndGuards → List CodeWord → List CodeWord
  finished_onto AsPlace true h s around before = before
  finished_onto wanted true h s around before = taken_onto wanted h s (used_onto wanted h s around before)
  finished_onto wanted false h s around before = taken_onto wanted h s before
