-- A place that is exactly what a local names is `*p` for the variable of that local, or lies in a temporary: its node
-- says so, where the variables at its root stand for their own locals.
use Rattle.std.proofs.Common.{◌≡◌, ◌⊎◌, inl, inr, ℕ, Bool, true, false, List, [], ◌∷◌, ◌++◌, map, Option, Some, refl, ap, sym, ◌∙◌, subst}
use Rattle.std.proofs.lemmas.Bool.{false≢true}
use Rattle.mir_base.specs.declared.place_in_text.Pos.{Pos}
use Rattle.mir_ty.specs.declared.ty.TyId.{TyId}
use Rattle.mir_ty.specs.ItemTable.{ItemTable}
use Rattle.store_model.specs.Places.Place.{Step, ToPart, ToField, ToContent, ToElement, Place, whole_local}
use Rattle.typed_tree.specs.declared.node.Use.{Use}
use Rattle.typed_tree.specs.Nodes.{number_of, nodes_of, nodes_in}
use Rattle.typed_tree.specs.Tree as tree
use Rattle.typed_tree.specs.Tree.{Node, node, Form}
use Rattle.src_meaning.specs.Locals.Effects.{step_at}
use Rattle.src_meaning.specs.Shape as shapes
use Rattle.src_meaning.specs.Shape.{head, shape, shape_of}
use Rattle.typing_rules.specs.Accesses.{root_of, root_of_form}
use Rattle.typing_rules.specs.Replaced.{content_of}
use Rattle.soundness_values.proofs.DropsCount.{is_content}
use Rattle.soundness_cells.proofs.PassCells.{NodeIn}

-- the variable at the root of a place stands for its own local
abbrev pub Plain : shapes.Aliases → Node → Type 0
Plain places n = (key : ℕ) → root_of n ≡ Some key → shapes.place_of_key key places ≡ whole_local key

-- ---- the last step

abbrev goes_in : Step → Bool
goes_in ToContent = true
goes_in step = false

not_last : (steps : List Step) (step : Step) → goes_in step ≡ false → is_content (steps ++ step ∷ []) ≡ true → ⊥
not_last [] ToContent e h = false≢true (sym e)
not_last [] (ToPart n) e h = false≢true h
not_last [] (ToField v n) e h = false≢true h
not_last [] (ToElement i) e h = false≢true h
not_last (ToContent ∷ []) step e h = false≢true h
not_last (ToContent ∷ x ∷ steps) step e h = false≢true h
not_last (ToPart n ∷ steps) step e h = false≢true h
not_last (ToField v n ∷ steps) step e h = false≢true h
not_last (ToElement i ∷ steps) step e h = false≢true h

nothing_before : (steps : List Step) → is_content (steps ++ ToContent ∷ []) ≡ true → steps ≡ []
nothing_before [] h = refl
nothing_before (ToContent ∷ []) h = absurd (false≢true h)
nothing_before (ToContent ∷ x ∷ steps) h = absurd (false≢true h)
nothing_before (ToPart n ∷ steps) h = absurd (false≢true h)
nothing_before (ToField v n ∷ steps) h = absurd (false≢true h)
nothing_before (ToElement i ∷ steps) h = absurd (false≢true h)

no_end : (steps : List Step) (step : Step) → steps ++ step ∷ [] ≡ [] → ⊥
no_end steps step e = by steps (ap has e)
  where
    has : List Step → Bool
    has [] = false
    has (x ∷ xs) = true

    by : (steps : List Step) → has (steps ++ step ∷ []) ≡ false → ⊥
    by [] k = false≢true (sym k)
    by (x ∷ xs) k = false≢true (sym k)

-- the same of the steps at locals
pub content_at : (local_of : ℕ → ℕ) (steps : List Step) →
    is_content (map (step_at local_of) steps) ≡ is_content steps
content_at local_of [] = refl
content_at local_of (ToContent ∷ []) = refl
content_at local_of (ToContent ∷ ToContent ∷ steps) = refl
content_at local_of (ToContent ∷ ToPart n ∷ steps) = refl
content_at local_of (ToContent ∷ ToField v n ∷ steps) = refl
content_at local_of (ToContent ∷ ToElement i ∷ steps) = refl
content_at local_of (ToPart n ∷ steps) = refl
content_at local_of (ToField v n ∷ steps) = refl
content_at local_of (ToElement i ∷ steps) = refl

module _ (items : ItemTable) (places : shapes.Aliases) where
  abbrev at : Node → Place
  at n = (shape items n).place places

  -- it is what a variable names, or stands in the temporary of a node inside
  abbrev pub Names : Node → Type 0
  Names n = ((key : ℕ) × ((content_of n ≡ Some key) × ((at n).local ≡ key)))
      ⊎ ((m : Node) × (NodeIn (nodes_of n) m × ((at n).local ≡ number_of m)))

  -- without steps a place is a variable or a temporary
  steps_of : (base : Node) → Plain places base → (id : ℕ)
      (from : Pos) (ty : TyId) (by : Option Use) →
      (at base).steps ≡ [] → Names (node id from ty by (tree.Deref base))
  steps_of (node bid bat bty bby (tree.Variable key)) p id from ty by e =
      inl (key, (refl, ap (λ (q : Place). q.local) (p key refl)))
  steps_of (node bid bat bty bby (tree.Captured closure part name)) p id from ty by e =
      absurd (no_end (shapes.place_of_key closure places).steps (ToPart part) e)
  steps_of (node bid bat bty bby (tree.Field base part)) p id from ty by e =
      absurd (no_end (at base).steps (ToPart part) e)
  steps_of (node bid bat bty bby (tree.Index base index length)) p id from ty by e =
      absurd (no_end (at base).steps (ToElement (number_of index)) e)
  steps_of (node bid bat bty bby (tree.Deref base)) p id from ty by e = absurd (no_end (at base).steps ToContent e)
  steps_of (node bid bat bty bby form) p id from ty by e =
      inr (node bid bat bty bby form, (inr (inl refl), refl))

  form_names : (form : Form) (id : ℕ) (from : Pos) (ty : TyId)
      (by : Option Use) → Plain places (node id from ty by form) →
      is_content (at (node id from ty by form)).steps ≡ true → Names (node id from ty by form)
  form_names (tree.Variable key) id from ty by p h =
      absurd (false≢true (sym (ap (λ (q : Place). is_content q.steps) (p key refl)) ∙ h))
  form_names (tree.Captured closure part name) id from ty by p h =
      absurd (not_last (shapes.place_of_key closure places).steps (ToPart part) refl h)
  form_names (tree.Field base part) id from ty by p h = absurd (not_last (at base).steps (ToPart part) refl h)
  form_names (tree.Index base index length) id from ty by p h =
      absurd (not_last (at base).steps (ToElement (number_of index)) refl h)
  form_names (tree.Deref base) id from ty by p h =
      steps_of base (plain_base base p) id from ty by (nothing_before (at base).steps h)
    where
      plain_base : (base : Node) → Plain places (node id from ty by (tree.Deref base)) → Plain places base
      plain_base base p = p
  form_names form id from ty by p h = absurd (false≢true h)

  pub names_content : (n : Node) → Plain places n → is_content (at n).steps ≡ true → Names n
  names_content (node id from ty by form) p h = form_names form id from ty by p h
