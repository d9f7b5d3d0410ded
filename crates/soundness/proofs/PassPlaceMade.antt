-- What the place of a node is made of, where names that are no bindings of a guard stand for themselves: its root is
-- the name there or one of the nodes, its indices are nodes, it leads through no variant, and its own local is no
-- index on its way.
use Rattle.std.proofs.Common.{◌≡◌, ◌⊎◌, inl, inr, ℕ, ◌==◌, ◌||◌, Bool, true, false, List, [], ◌∷◌, ◌++◌, Option, Some, refl, sym, ◌∙◌, subst}
use Rattle.std.proofs.lemmas.Bool.{false≢true}
use Rattle.std.proofs.lemmas.Bool.Decides.{Decides-eqb}
use Rattle.mir_ty.specs.declared.ty.TyId.{TyId}
use Rattle.mir_ty.specs.ItemTable.{ItemTable}
use Rattle.store_model.specs.Places.Place.{Step, ToPart, ToField, ToContent, ToElement, Place, whole_local}
use Rattle.typed_tree.specs.declared.node.Use.{Use}
use Rattle.typed_tree.specs.Nodes.{nodes_of, nodes_in, number_of}
use Rattle.typed_tree.specs.Tree as tree
use Rattle.typed_tree.specs.Tree.{Node, node, Form, BodyTree}
use Rattle.src_meaning.specs.Shape.{Aliases, head, extended, shape, shape_of, place_of_key}
use Rattle.typing_rules.specs.Accesses.{root_of, root_of_form}
use Rattle.well_typed.specs.Claim.{Holds}
use Rattle.well_typed.specs.Nodes as typing
use Rattle.well_typed.specs.Places.{Context, is_place, Standing, Base}
use Rattle.soundness_values.proofs.Facts.{takes_index}
use Rattle.soundness_cells.proofs.PassCellPatterns.{Told}
use Rattle.soundness_cells.proofs.PassCellPlaces as places
use Rattle.soundness_cells.proofs.PassFacts.{Standpoint, context}
use Rattle.soundness.proofs.PassKnownStores.{has_field}
use Rattle.soundness.proofs.PassKnownTests.{no_way}
use Rattle.soundness.proofs.PassMovable.{RootPlain, is_index}
use Rattle.soundness_cells.proofs.PassNumbers.{Numbered, Rises, numbered_left, numbered_right, own_number, rises_left, rises_right, rises_apart}

-- ---- one step more

abbrev is_field : Step → Bool
is_field (ToField v n) = true
is_field step = false

no_field_more : (steps : List Step) (step : Step) → has_field steps ≡ false → is_field step ≡ false →
    has_field (steps ++ step ∷ []) ≡ false
no_field_more [] (ToPart n) h e = refl
no_field_more [] (ToField v n) h e = e
no_field_more [] ToContent h e = refl
no_field_more [] (ToElement i) h e = refl
no_field_more (ToPart n ∷ steps) step h e = no_field_more steps step h e
no_field_more (ToField v n ∷ steps) step h e = h
no_field_more (ToContent ∷ steps) step h e = no_field_more steps step h e
no_field_more (ToElement i ∷ steps) step h e = no_field_more steps step h e

same_way : (i : ℕ) (steps : List Step) (step : Step) → is_index step ≡ false →
    takes_index i (steps ++ step ∷ []) ≡ true → takes_index i steps ≡ true
same_way i steps step e h = by (takes_index i steps) refl
  where
    by : (b : Bool) → takes_index i steps ≡ b → b ≡ true
    by true k = refl
    by false k = absurd (false≢true (sym (no_way i steps step k e) ∙ h))

pub last_index : (i k : ℕ) (steps : List Step) → takes_index i (steps ++ ToElement k ∷ []) ≡ true →
    (takes_index i steps ≡ true) ⊎ (k ≡ i)
last_index i k [] h = inr (one (k == i) refl h)
  where
    one : (b : Bool) → (k == i) ≡ b → (b || false) ≡ true → k ≡ i
    one true e h = (Decides-eqb k i).0 e
    one false e h = absurd (false≢true h)
last_index i k (ToPart n ∷ steps) h = last_index i k steps h
last_index i k (ToField v n ∷ steps) h = last_index i k steps h
last_index i k (ToContent ∷ steps) h = last_index i k steps h
last_index i k (ToElement j ∷ steps) h = by (j == i) h (λ x. last_index i k steps x)
  where
    by : (b : Bool) → (b || takes_index i (steps ++ ToElement k ∷ [])) ≡ true →
        (takes_index i (steps ++ ToElement k ∷ []) ≡ true → (takes_index i steps ≡ true) ⊎ (k ≡ i)) →
        ((b || takes_index i steps) ≡ true) ⊎ (k ≡ i)
    by true h later = inl refl
    by false h later = later h

-- ---- places

pub record Made (ns : List Node) (root : Option ℕ) (place : Place) : Type 0 where
  pub fieldless : has_field place.steps ≡ false
  pub indices : (i : ℕ) → takes_index i place.steps ≡ true → Numbered ns i
  pub rooted : (root ≡ Some place.local) ⊎ Numbered ns place.local
  pub unmet : takes_index place.local place.steps ≡ false

-- the name at the root is none of these nodes
abbrev pub Elsewhere : Option ℕ → List Node → Type 0
Elsewhere root ns = (key : ℕ) → root ≡ Some key → Numbered ns key → ⊥

either_more : {A : Type 0} (ns more : List Node) (key : ℕ) → (Numbered ns key → Numbered more key) →
    A ⊎ Numbered ns key → A ⊎ Numbered more key
either_more ns more key f (inl a) = inl a
either_more ns more key f (inr n) = inr (f n)

made_more : (ns more : List Node) (root : Option ℕ) (place : Place) →
    ((key : ℕ) → Numbered ns key → Numbered more key) → Made ns root place → Made more root place
made_more ns more root place f m = record {
  fieldless = m.fieldless;
  indices = λ i h. f i (m.indices i h);
  rooted = either_more ns more place.local (f place.local) m.rooted;
  unmet = m.unmet;
}

made_further : (ns : List Node) (root : Option ℕ) (place : Place) (step : Step) → is_index step ≡ false →
    is_field step ≡ false → Made ns root place → Made ns root (extended step place)
made_further ns root place step e f m = record {
  fieldless = no_field_more place.steps step m.fieldless f;
  indices = λ i h. m.indices i (same_way i place.steps step e h);
  rooted = m.rooted;
  unmet = no_way place.local place.steps step m.unmet e;
}

whole_made : (ns : List Node) (root : Option ℕ) (key : ℕ) → (root ≡ Some key) ⊎ Numbered ns key →
    Made ns root (whole_local key)
whole_made ns root key r = record { fieldless = refl; indices = λ i h. absurd (false≢true h); rooted = r; unmet = refl }

made_element : (base index : List Node) (root : Option ℕ) (place : Place) (k : ℕ) → Numbered index k →
    Rises (base ++ index) → Elsewhere root (base ++ index) → Made base root place →
    Made (base ++ index) root (extended (ToElement k) place)
made_element base index root place k n r e m = record {
  fieldless = no_field_more place.steps (ToElement k) m.fieldless refl;
  indices = λ i h. number i (last_index i k place.steps h);
  rooted = either_more base (base ++ index) place.local (numbered_left base index place.local) m.rooted;
  unmet = by (takes_index place.local (place.steps ++ ToElement k ∷ [])) refl;
}
  where
    number : (i : ℕ) → (takes_index i place.steps ≡ true) ⊎ (k ≡ i) → Numbered (base ++ index) i
    number i (inl h) = numbered_left base index i (m.indices i h)
    number i (inr same) = numbered_right base index i (subst (Numbered index) same n)

    at_root : k ≡ place.local → (root ≡ Some place.local) ⊎ Numbered base place.local → ⊥
    at_root same (inl named) =
        e place.local named (numbered_right base index place.local (subst (Numbered index) same n))
    at_root same (inr h) = rises_apart base index r place.local h (subst (Numbered index) same n)

    never : (takes_index place.local place.steps ≡ true) ⊎ (k ≡ place.local) → ⊥
    never (inl h) = false≢true (sym m.unmet ∙ h)
    never (inr same) = at_root same m.rooted

    by : (b : Bool) → takes_index place.local (place.steps ++ ToElement k ∷ []) ≡ b → b ≡ false
    by false h = refl
    by true h = absurd (never (last_index place.local k place.steps h))

module _ (items : ItemTable) (body : BodyTree) (told : Told items) (fuel : ℕ) where
  abbrev K : Standpoint → Context
  K = context items

  elsewhere_inside : (root : Option ℕ) (ns more : List Node) → ((key : ℕ) → Numbered ns key → Numbered more key) →
      Elsewhere root more → Elsewhere root ns
  elsewhere_inside root ns more f e key same n = e key same (f key n)

  mutual
    pub made_place : (n : Node) (x : Standpoint) (standing : Standing) → Holds (typing.typed (K x) standing n) →
        (aliases : Aliases) → RootPlain aliases (root_of n) → Rises (nodes_of n) →
        Elsewhere (root_of n) (nodes_of n) → Made (nodes_of n) (root_of n) ((shape items n).place aliases)
    made_place (node id at ty by form) x standing h aliases g r e = of_kind (is_place form) refl
        (λ p. made_form form x id ty by h.1 p aliases g
        (rises_right (node id at ty by form ∷ []) (nodes_in form) r)
        (elsewhere_inside (root_of_form form) (nodes_in form) (node id at ty by form ∷ nodes_in form) (λ key n. inr n)
        e))
      where
        of_kind : (b : Bool) → is_place form ≡ b → (is_place form ≡ true →
            Made (nodes_in form) (root_of_form form) ((shape_of items form (head id ty by)).place aliases)) →
            Made (node id at ty by form ∷ nodes_in form) (root_of_form form)
            ((shape_of items form (head id ty by)).place aliases)
        of_kind true p later = made_more (nodes_in form) (node id at ty by form ∷ nodes_in form) (root_of_form form)
            ((shape_of items form (head id ty by)).place aliases) (λ key n. inr n) (later p)
        of_kind false p later = subst (Made (node id at ty by form ∷ nodes_in form) (root_of_form form))
            (sym (places.value_place items body told fuel form (head id ty by) aliases p))
            (whole_made (node id at ty by form ∷ nodes_in form) (root_of_form form) id (inr (inl refl)))

    made_form : (form : Form) (x : Standpoint) (id : ℕ) (ty : TyId) (by : Option Use) →
        Holds (typing.row (K x) id ty form) → is_place form ≡ true → (aliases : Aliases) →
        RootPlain aliases (root_of_form form) → Rises (nodes_in form) → Elsewhere (root_of_form form) (nodes_in form) →
        Made (nodes_in form) (root_of_form form) ((shape_of items form (head id ty by)).place aliases)
    made_form (tree.Variable key) x id ty by h p aliases g r e =
        subst (Made [] (Some key)) (sym (g key refl))
        (whole_made [] (Some key) key (inl refl))
    made_form (tree.Captured closure part name) x id ty by h p aliases g r e =
        made_further [] (Some closure) (place_of_key closure aliases) (ToPart part) refl refl
        (subst (Made [] (Some closure)) (sym (g closure refl)) (whole_made [] (Some closure) closure (inl refl)))
    made_form (tree.Field base part) x id ty by h p aliases g r e =
        made_further (nodes_of base) (root_of base) ((shape items base).place aliases) (ToPart part) refl refl
        (made_place base x Base h.0 aliases g r e)
    made_form (tree.Index base index count) x id ty by h p aliases g r e =
        made_element (nodes_of base) (nodes_of index) (root_of base) ((shape items base).place aliases) (number_of
        index) (own_number index) r e
        (made_place base x Base h.0 aliases g (rises_left (nodes_of base) (nodes_of index) r)
        (elsewhere_inside (root_of base) (nodes_of base) (nodes_of base ++ nodes_of index)
        (λ key n. numbered_left (nodes_of base) (nodes_of index) key n) e))
    made_form (tree.Deref base) x id ty by h p aliases g r e =
        made_further (nodes_of base) (root_of base) ((shape items base).place aliases) ToContent refl refl
        (made_place base x Base h.0 aliases g r e)
    made_form form x id ty by h p aliases g r e = absurd (false≢true p)
