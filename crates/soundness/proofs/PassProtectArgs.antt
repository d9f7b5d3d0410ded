-- The test of protected parameters at a call: what is passed as a reference to exactly what a protected parameter names
-- was made by the argument itself, which is `&mut *p` then; so the test holds, if it does of each such argument.
use Rattle.std.proofs.Common.{◌≡◌, inl, ℕ, suc, ◌==◌, ◌&&◌, ◌||◌, not, Bool, true, false, List, [], ◌∷◌, map, Option, Some, None, if◌then◌else◌, refl, ap, sym, ◌∙◌, subst}
use Rattle.std.specs.Cmp.{first_so, second_so}
use Rattle.std.specs.Cmp.Derive.{both_true}
use Rattle.std.specs.List.{list_all, find}
use Rattle.std.proofs.lemmas.Bool.{false≢true}
use Rattle.std.proofs.lemmas.Bool.Decides.{Decides-eqb}
use Rattle.std.proofs.lemmas.Option.{none-some, same_Some}
use Rattle.mir_ty.specs.declared.ty.Ty.{Ty}
use Rattle.mir_ty.specs.declared.ty.TyId.{TyId}
use Rattle.mir_ty.specs.ItemTable.{ItemTable, type_at}
use Rattle.store_model.specs.Abstract.Presence.{Presence}
use Rattle.store_model.specs.Effects.{Operand}
use Rattle.store_model.specs.Places.Place.{is_reference}
use Rattle.src_meaning.specs.Forms.{moved}
use Rattle.src_meaning.specs.Locals.Effects.{operand_at}
use Rattle.src_meaning.specs.Locals.OfBody.{local_ty, local_of, local_keys}
use Rattle.typed_tree.specs.Nodes.{number_of, nodes_of, nodes_among}
use Rattle.typed_tree.specs.Tree.{Node, Nodes, no_node, a_node, BodyTree}
use Rattle.typing_rules.specs.Replaced.{passes_key}
use Rattle.soundness_values.proofs.CheckedBodies.{is_reference_param}
use Rattle.soundness_values.proofs.Checks as checks
use Rattle.soundness_values.proofs.DropsCount.{is_content}
use Rattle.soundness_values.proofs.Facts.{Naming, Facts, Each}
use Rattle.soundness_cells.proofs.PassCells.{NodeIn, node_left, node_right, one_node}
use Rattle.soundness_frame.proofs.PassFrameHeads.{moved_nodes}
use Rattle.soundness_cells.proofs.PassLocals.{one_key}
use Rattle.soundness.proofs.PassNamingKept.{AllNamed, operand_named}
use Rattle.soundness_cells.proofs.PassNumbers.{Rises}
use Rattle.soundness_values.proofs.ProtectTests.{marked_naming, marked}

-- one that is found
found_of : (P : Naming → Type 0) (test : Naming → Bool) (l : List Naming) (m : Naming) → find test l ≡ Some m →
    Each P l → (test m ≡ true) × P m
found_of P test [] m e h = absurd (none-some m e)
found_of P test (x ∷ l) m e h = by (test x) refl e (λ k. found_of P test l m k h.1)
  where
    by : (b : Bool) → test x ≡ b → (if b then Some x else find test l) ≡ Some m →
        (find test l ≡ Some m → (test m ≡ true) × P m) → (test m ≡ true) × P m
    by true t k later = subst (λ y. (test y ≡ true) × P y) (same_Some x m k) (t, h.0)
    by false t k later = later k

module _ (items : ItemTable) (body : BodyTree) (protects : ℕ → ℕ → Bool) (n : ℕ)
    (rise : Rises (nodes_of body.block)) where
  abbrev pub local : ℕ → ℕ
  local = local_of items body

  abbrev pub ty_of_local : ℕ → Option Ty
  ty_of_local l = checks.ty_of items (local_ty items body) (is_reference_param items body)
      (record { local = l; steps = [] })

  -- `&mut` of exactly what a protected parameter names
  abbrev pub is_danger : Naming → Bool
  is_danger m = m.unique && (is_content m.place.steps && protects n m.place.local)

  -- such a reference is one that a node `&mut *p` of the block has made in its own local
  pub record MadeBy (m : Naming) : Type 0 where
    pub key : ℕ
    pub by : Node
    pub inside : NodeIn (nodes_of body.block) by
    pub stands : local (number_of by) ≡ m.local
    pub passes : passes_key by ≡ Some key
    pub names : local key ≡ m.place.local

  abbrev pub NamedSo : Naming → Type 0
  NamedSo m = is_danger m ≡ true → (is_reference (ty_of_local m.local) ≡ true) × MadeBy m

  abbrev pub Known : Facts → Type 0
  Known = AllNamed items (local_ty items body) (is_reference_param items body) NamedSo

  -- what is asked of an argument that is `&mut *p` for a protected p
  abbrev pub ArgOk : List ℕ → ℕ → TyId → Node → Type 0
  ArgOk bodies k id first = (key : ℕ) → passes_key first ≡ Some key → protects n (local key) ≡ true →
      is_reference (type_at items id) ≡ true → list_all (λ c. protects c (suc k)) bodies ≡ true

  abbrev pub ArgsOk : List ℕ → ℕ → List TyId → Nodes → Type 0
  ArgsOk bodies k (id ∷ ids) (a_node first rest) = ArgOk bodies k id first × ArgsOk bodies (suc k) ids rest
  ArgsOk bodies k ids args = Unit {0}

  abbrev passes_as : (last facts : Facts) → List (ℕ × Presence) → TyId → Operand → Option Ty → Bool
  passes_as = checks.passes_as items (local_ty items body) (is_reference_param items body)

  abbrev takes_well : Facts → Operand → Bool
  takes_well = checks.takes_well items (local_ty items body) (is_reference_param items body)

  abbrev moved_local : ℕ → ℕ → Operand
  moved_local at_node key = operand_at local (moved at_node key)

  -- a local that holds a reference is passed for a parameter that is one
  no_value : (facts : Facts) (more : Bool) (at_node key : ℕ) → is_reference (ty_of_local (local key)) ≡ true →
      (takes_well facts (moved_local at_node key)
      && more) ≡ true → ⊥
  no_value facts more at_node key r h = refused (is_reference (ty_of_local (local key))) r
      (first_so (not (is_reference (ty_of_local (local key)))) _
      (first_so (checks.is_value items (local_ty items body) (is_reference_param items body)
      (record { local = local key; steps = [] })) _
      (second_so _ (checks.is_value items (local_ty items body) (is_reference_param items body)
      (record { local = local key; steps = [] })
      && checks.may_move items (local_ty items body) (is_reference_param items body)
      (record { local = local key; steps = [] })) (first_so _ more h))))
    where
      refused : (b : Bool) → b ≡ true → not b ≡ true → ⊥
      refused true e k = false≢true k
      refused false e k = false≢true e

  is_passed : (last facts : Facts) (cells : List (ℕ × Presence)) (id : TyId) (at_node key : ℕ) (o : Option Ty) →
      is_reference (ty_of_local (local key)) ≡ true →
      passes_as last facts cells id (moved_local at_node key) o
      ≡ true → is_reference o ≡ true
  is_passed last facts cells id at_node key (Some (Ty.Shared to)) r h = refl
  is_passed last facts cells id at_node key (Some (Ty.Unique to)) r h = refl
  is_passed last facts cells id at_node key None r h = absurd (no_value facts _ at_node key r h)
  is_passed last facts cells id at_node key (Some ty) r h = absurd (no_value facts _ at_node key r h)

  one_holds : (bodies : List ℕ) (k : ℕ) (id : TyId) (first : Node) (at_node : ℕ) (last facts : Facts)
      (cells : List (ℕ × Presence)) → NodeIn (nodes_of body.block) first → ArgOk bodies k id first → Known facts →
      passes_as last facts cells id (moved_local at_node (number_of first))
      (type_at items id) ≡ true →
      marked_naming items protects n bodies (suc k)
      (checks.naming_of items (λ key. None) (λ key. true) (local (number_of first)) facts) ≡ true
  one_holds bodies k id first at_node last facts cells i ok known h = by
      (checks.naming_of items (λ key. None) (λ key. true) (local (number_of first)) facts) refl
    where
      by : (o : Option Naming) → checks.naming_of items (λ key. None) (λ key. true)
          (local (number_of first)) facts ≡ o →
          marked_naming items protects n bodies (suc k) o ≡ true
      by None e = refl
      by (Some m) e = of_danger (is_danger m) refl
        where
          f : ((m.local == local (number_of first)) ≡ true) × NamedSo m
          f = found_of NamedSo (λ (x : Naming). x.local == local (number_of first)) facts.naming m e known

          of_danger : (d : Bool) → is_danger m ≡ d → (not d || list_all (λ c. protects c (suc k)) bodies) ≡ true
          of_danger false x = refl
          of_danger true x =
              let made = (f.1 x).1 in
              let here : m.local ≡ local (number_of first) = (Decides-eqb m.local (local (number_of first))).0 f.0 in
              let same : made.by ≡ first = one_node (nodes_of body.block) rise made.by first made.inside i
              (one_key (local_keys items body) (number_of made.by) (number_of first) (made.stands ∙ here)) in
              ok made.key (ap passes_key (sym same) ∙ made.passes)
              (subst (λ l. protects n l ≡ true) (sym made.names)
              (second_so (is_content m.place.steps) (protects n m.place.local)
              (second_so m.unique (is_content m.place.steps && protects n m.place.local) x)))
              (is_passed last facts cells id at_node (number_of first) (type_at items id)
              (subst (λ l. is_reference (ty_of_local l) ≡ true) here (f.1 x).0) h)

  pub args_hold : (bodies : List ℕ) (k : ℕ) (ids : List TyId) (args : Nodes) (at_node : ℕ) (last facts : Facts)
      (cells : List (ℕ × Presence)) → ((m : Node) → NodeIn (nodes_among args) m → NodeIn (nodes_of body.block) m) →
      ArgsOk bodies k ids args → Known facts →
      checks.passes items (local_ty items body) (is_reference_param items body) last facts cells ids
      (map (operand_at local) (moved_nodes at_node args)) ≡ true →
      marked items protects n bodies (suc k) facts (map (operand_at local) (moved_nodes at_node args)) ≡ true
  args_hold bodies k ids no_node at_node last facts cells i ok known h = refl
  args_hold bodies k [] (a_node first rest) at_node last facts cells i ok known h = absurd (false≢true h)
  args_hold bodies k (id ∷ ids) (a_node first rest) at_node last facts cells i ok known h =
      let operand = moved_local at_node (number_of first) in
      both_true (one_holds bodies k id first at_node last facts cells
      (i first (node_left (nodes_of first) (nodes_among rest) first (own_node first))) ok.0 known
      (first_so (passes_as last facts cells id operand (type_at items id)) _ h))
      (args_hold bodies (suc k) ids rest at_node last
      (checks.after_operand items (local_ty items body) (is_reference_param items body) operand facts) cells
      (λ m j. i m (node_right (nodes_of first) (nodes_among rest) m j)) ok.1
      (operand_named items (local_ty items body) (is_reference_param items body) NamedSo operand facts known)
      (second_so (passes_as last facts cells id operand (type_at items id)) _ h))
    where
      own_node : (m : Node) → NodeIn (nodes_of m) m
      own_node (Rattle.typed_tree.specs.Tree.node id at ty by form) = inl refl
