-- The rules of evaluation do the same with other parts, if these do the same in their scopes.
use Rattle.std.proofs.Common.{◌≡◌, ◌∙◌, ◌⊎◌, inl, inr, ℕ, nat_lt, Bool, true, false, List, [], ◌∷◌, ◌++◌, map, Option, Some, None, refl, sym, ap, subst, if◌then◌else◌}
use Rattle.std.proofs.lemmas.Bool.Decides.{eqb_tells}
use Rattle.mir_base.specs.declared.place_in_text.NodeId.{NodeId}
use Rattle.mir_ty.specs.ItemTable.{ItemTable}
use Rattle.scope_table.proofs.Entering.{heads_in, entered_heads, Missing, AllEntries, OfEntry, enter_missing, enter_first, rest}
use Rattle.scope_table.proofs.Fresh.{Fresh, fresh_left, fresh_right}
use Rattle.scope_table.proofs.OneName.{Kind, one_name, no_name, kind_in}
use Rattle.scope_table.proofs.Passing.{AllNumbers, in_node, in_pattern, of_reached}
use Rattle.scope_table.proofs.Putting.{law, scrutinised_in, names_of}
use Rattle.scope_table.proofs.Rules.{alone_nothing, bind_enters, put_innermost}
use Rattle.scope_table.proofs.SameRules.{opens, Comes, comes_of, comes_then, comes_choosing, same, same_then, then_same, in_three, choosing_same, leaving_same, scope_same, scope_with_same, comes_leaving, comes_scope_with, pending_then}
use Rattle.scope_table.specs.declared.row.ScopeRow.{ScopeRow}
use Rattle.scope_table.specs.declared.row.Within.{Within}
use Rattle.scope_table.specs.Law.{ScopeHead, Held, enter, enter_if_any, entered, IsInnermost, StandsIn}
use Rattle.scope_table.specs.Lines.{each_part, each_field as fields_with, if_any as any_with}
use Rattle.scope_table.specs.Parts.{Role, Evaluated, ByItself, AsOperand, OfLet, Reached, AsArm, Step, if_any, each, each_field, let_role, let_steps}
use Rattle.scope_table.specs.PartsLaw.{heads_of, left_by, SameWhere, SameAs, of_let, Instead, changed, StepsAreKept}
use Rattle.scope_table.specs.Table.{named, both_in, entry_in, reached_in, name_in, rows, pattern_rows, form_of}
use Rattle.src_meaning.specs.Evaluation.{insert_field, in_number_order, values_of, meaning, meanings, fields_of, meaning_if_any}
use Rattle.src_meaning.specs.Forms as forms
use Rattle.src_meaning.specs.Forms.{Destination, Into, LoopsAndGuards, in_guard, Meaning, moved, keys_of, all_moved, alone, operand, operands, condition, branch, all_hold, bind, scrutinised, if_taken, arms_in_order, taken_arm, guarded, statements, tail_of, let_name, let_parts, let_value, letting, place_of, is_never, put_unit_if}
use Rattle.src_meaning.specs.Scopes.{innermost, around_innermost, Value, At, Does, ◌>>◌, choosing, leaving}
use Rattle.src_meaning.specs.Shape.{NodeHead, head, Shape}
use Rattle.store_model.specs.Effects.{Operand, IsTrue, Effects}
use Rattle.store_model.specs.Places.Place.{Place, whole_local}
use Rattle.typed_tree.specs.Nodes.{number_of, nodes_of, nodes_among, nodes_of_fields}
use Rattle.typed_tree.specs.Tree.{Node, node, Form, Nodes, no_node, a_node, Fields, no_field, a_field, MaybeNode, absent, present}

-- A scope that has been opened: what is within it makes entries there, and none in the scopes around it.

enter_within : (scope key : ℕ) (h : ScopeHead × List ℕ) (H : Held) → (h.0.node ≡ scope) ⊎ Missing (heads_in H) scope →
    (keys : List ℕ) × (enter scope key (h ∷ H) ≡ (h.0, keys) ∷ H)
enter_within scope key h H (inl is) = (key ∷ h.1, enter_first scope key h H is)
enter_within scope key h H (inr missing) = elim (eqb_tells h.0.node scope) [
  | inl one ↦ (key ∷ h.1, ap (λ (b : Bool). if b then (h.0, key ∷ h.1) ∷ H else h ∷ enter scope key H) one.0)
  | inr other ↦ (
    h.1,
    ap (λ (b : Bool). if b then (h.0, key ∷ h.1) ∷ H else h ∷ enter scope key H) other.0
        ∙ ap (λ (l : Held). h ∷ l) (enter_missing scope key H missing),
  )
]

-- an entry goes to a scope, or to none
abbrev pub GoesTo : ℕ → List ScopeHead → ℕ → Type 0
GoesTo id heads scope = (id ≡ scope) ⊎ Missing heads scope

if_any_within : (scope : Option NodeId) (key : NodeId) (h : ScopeHead × List ℕ) (H : Held) →
    OfEntry (GoesTo h.0.node (heads_in H)) scope → (keys : List ℕ) × (enter_if_any scope key (h ∷ H) ≡ (h.0, keys) ∷ H)
if_any_within None key h H goes = (h.1, refl)
if_any_within (Some scope) key h H goes = enter_within scope.0 key.0 h H goes

pub entered_within : (A : List ScopeRow) (h : ScopeHead × List ℕ) (H : Held) →
    AllEntries (GoesTo h.0.node (heads_in H)) A → (keys : List ℕ) × (entered A (h ∷ H) ≡ (h.0, keys) ∷ H)
entered_within [] h H all = (h.1, refl)
entered_within (row ∷ A) h H all =
    let one = if_any_within row.entry row.node h H all.0 in
    let others = entered_within A (h.0, one.0) H all.1 in
    (others.0, ap (entered A) one.1 ∙ others.1)

numbers_too : (P Q : ℕ → Type 0) → ((id : ℕ) → P id → Q id) → (nodes : List Node) → AllNumbers P nodes →
    AllNumbers Q nodes
numbers_too P Q f [] all = tt
numbers_too P Q f (n ∷ nodes) all = (f (number_of n) all.0, numbers_too P Q f nodes all.1)

-- a scrutinee and its names, in a scope of their own
pub matched_out : (H : Held) (id : ℕ) (scrutinee pattern : Node) →
    AllNumbers (Missing (heads_in H)) (nodes_of scrutinee) →
    rest (entered (rows (both_in (named id)) (reached_in (named id) scrutinee) scrutinee) (opens id true H)) ≡ H
    × (rest (entered (pattern_rows (named id) (name_in (named id)) pattern)
    (entered (rows (both_in (named id)) (reached_in (named id) scrutinee) scrutinee) (opens id true H))) ≡ H)
matched_out H id scrutinee pattern fresh =
    let own = named id in
    let A = rows (both_in own) (reached_in own scrutinee) scrutinee in
    let N = pattern_rows own (name_in own) pattern in
    let P = GoesTo id (heads_in H) in
    let here : P id = inl refl in
    let in_scrutinee = in_node P (both_in own) (reached_in own scrutinee) scrutinee here here
    (of_reached P own scrutinee here) (numbers_too (Missing (heads_in H)) P (λ id missing. inr missing)
    (nodes_of scrutinee) fresh) in
    let one = entered_within A (record { node = id; for_temporaries = true }, []) H in_scrutinee in
    let other = entered_within N (record { node = id; for_temporaries = true }, one.0) H
    (in_pattern P own (name_in own) here pattern) in
    (ap rest one.1, ap (λ (K : Held). rest (entered N K)) one.1 ∙ ap rest other.1)

-- nodes in scopes that stand as the table takes them, with numbers of which no scope is open
pub record Standing (w : Within) (H : Held) (nodes : List Node) : Type 0 where
  pub stands : StandsIn w (heads_of H)
  pub fresh : Fresh (heads_of H) nodes

pub later : (w : Within) (H : Held) (A : List ScopeRow) (nodes : List Node) → Standing w H nodes →
    Standing w (entered A H) nodes
later w H A nodes st = record {
  stands = subst (StandsIn w) (sym (entered_heads A H)) st.stands;
  fresh = subst (λ (heads : List ScopeHead). Fresh heads nodes) (sym (entered_heads A H)) st.fresh;
}

pub first_ones : (w : Within) (H : Held) (A B : List Node) → Standing w H (A ++ B) → Standing w H A
first_ones w H A B st = record { stands = st.stands; fresh = fresh_left (heads_of H) A B st.fresh }

pub last_ones : (w : Within) (H : Held) (A B : List Node) → Standing w H (A ++ B) → Standing w H B
last_ones w H A B st = record { stands = st.stands; fresh = fresh_right (heads_of H) A B st.fresh }

module _ {W : Type 0} (items : ItemTable) (p : Effects W) (fuel : ℕ) (instead : Instead W) where
  abbrev pub mean : Node → Meaning W
  mean n = meaning items p fuel n

  abbrev pub other : Node → Meaning W
  other n = changed items p fuel instead n

  abbrev pub means : Nodes → List (Meaning W)
  means nodes = meanings items p fuel nodes

  abbrev pub others : Nodes → List (Meaning W)
  others nodes = each_part items p fuel other nodes

  abbrev pub mean_any : MaybeNode → Option (Meaning W)
  mean_any o = meaning_if_any items p fuel o

  abbrev pub other_any : MaybeNode → Option (Meaning W)
  other_any o = any_with items p fuel other o

  abbrev pub Same : Role → Held → Node → Type 0
  Same role H n = SameAs items p role H (other n) (mean n)

  abbrev pub Kept : Within → Held → List Step → Type 0
  Kept w H steps = StepsAreKept items p fuel instead w H steps

  -- What a part leaves.

  pub evaluated_comes : (w : Within) (H : Held) (n : Node) → Standing w H (nodes_of n) →
      (around : LoopsAndGuards) (to : Destination) →
      Comes H (entered (left_by w Evaluated n) H) ((mean n).evaluate around false to)
  evaluated_comes w H n st around to =
      comes_of H (left_by w Evaluated n) ((mean n).evaluate around false to)
      ((law items p fuel n).evaluated (heads_of H) w st.stands st.fresh around to)

  pub operand_comes : (w : Within) (H : Held) (n : Node) → Standing w H (nodes_of n) → (around : LoopsAndGuards) →
      Comes H (entered (left_by w AsOperand n) H) (operand items p around (mean n))
  operand_comes w H n st around =
      comes_of H (left_by w AsOperand n) (operand items p around (mean n))
      ((law items p fuel n).completed (heads_of H) w st.stands st.fresh (entry_in w.innermost n) refl
      (mean n).shape.in_destination around)

  pub reached_comes : (w : Within) (H : Held) (n : Node) → Standing w H (nodes_of n) → (around : LoopsAndGuards) →
      Comes H (entered (left_by w Reached n) H) ((mean n).reach around)
  reached_comes w H n st around =
      comes_of H (left_by w Reached n) ((mean n).reach around)
      ((law items p fuel n).reached (heads_of H) w st.stands st.fresh (reached_in w.temporary n) refl around)

  pub scrutinised_comes : (w : Within) (H : Held) (n : Node) → Standing w H (nodes_of n) → (around : LoopsAndGuards) →
      Comes H (entered (left_by w Reached n) H) (scrutinised items p around (mean n))
  scrutinised_comes w H n st around =
      comes_of H (left_by w Reached n) (scrutinised items p around (mean n))
      (scrutinised_in items p fuel n (mean n) (law items p fuel n) (heads_of H) w st.stands st.fresh around)

  pub alone_comes : (H : Held) (n : Node) (around : LoopsAndGuards) (to : Destination) →
      Comes H H (alone items p around (mean n) to)
  alone_comes H n around to =
      comes_of H [] (alone items p around (mean n) to) (alone_nothing items p around (mean n) to (heads_of H))

  pub names_come : (t i : NodeId) (H : Held) (n : Node) (place : Place) → IsInnermost i (heads_of H) →
      Comes H (entered (pattern_rows t (name_in i) n) H) (bind items p innermost ((mean n).shape.bindings place))
  names_come t i H n place in_i =
      comes_of H (pattern_rows t (name_in i) n) (bind items p innermost ((mean n).shape.bindings place))
      (bind_enters items p (heads_of H) i.0 innermost (put_innermost items p (heads_of H) i in_i)
      (pattern_rows t (name_in i) n) ((mean n).shape.bindings place)
      (λ H. names_of items p fuel t (name_in i) i refl n (mean n) (law items p fuel n).shaped place H))

  -- Operands.

  pub same_keys : (nodes : Nodes) → keys_of (others nodes) ≡ keys_of (means nodes)
  same_keys no_node = refl
  same_keys (a_node first rest) = ap (λ (keys : List ℕ). (mean first).head.id ∷ keys) (same_keys rest)

  pub same_moved : (id : ℕ) (nodes : Nodes) → all_moved id (others nodes) ≡ all_moved id (means nodes)
  same_moved id no_node = refl
  same_moved id (a_node first rest) = ap (λ (l : List Operand). moved id (mean first).head.id ∷ l) (same_moved id rest)

  pub operands_same : (w : Within) (H : Held) (nodes : Nodes) → Standing w H (nodes_among nodes) →
      Kept w H (each AsOperand nodes) → (around : LoopsAndGuards) →
      SameWhere H (operands items p around (others nodes)) (operands items p around (means nodes))
  operands_same w H no_node st kept around = same H (At Value)
  operands_same w H (a_node first rest) st kept around =
      let made = left_by w AsOperand first in
      then_same H (entered made H) (operand items p around (other first)) (operand items p around (mean first))
      (operands items p around (others rest)) (operands items p around (means rest))
      (kept.0 around) (operand_comes w H first (first_ones w H (nodes_of first) (nodes_among rest) st) around)
      (operands_same w (entered made H) rest
      (later w H made (nodes_among rest) (last_ones w H (nodes_of first) (nodes_among rest) st)) kept.1 around)

  -- the fields of a struct expression, as they are written and by their numbers
  abbrev pairs : Fields → List (ℕ × Node)
  pairs no_field = []
  pairs (a_field number value rest) = (number, value) ∷ pairs rest

  module _ {B : Type 0} (g : Node → B) where
    abbrev on_value_of : ℕ × Node → ℕ × B
    on_value_of f = (f.0, g f.1)

    inserted_map : (number : ℕ) (n : Node) (fields : List (ℕ × Node)) →
        insert_field number (g n) (map on_value_of fields) ≡ map on_value_of (insert_field number n fields)
    inserted_map number n [] = refl
    inserted_map number n (f ∷ fields) = by (nat_lt number f.0) (inserted_map number n fields)
      where
        by : (b : Bool) → insert_field number (g n) (map on_value_of fields)
            ≡ map on_value_of (insert_field number n fields) →
            (if b then (number, g n) ∷ map on_value_of (f ∷ fields) else on_value_of f ∷ insert_field number (g n)
            (map on_value_of fields))
            ≡ map on_value_of (if b then (number, n) ∷ f ∷ fields else f ∷ insert_field number n fields)
        by true is = refl
        by false is = ap (λ (l : List (ℕ × B)). on_value_of f ∷ l) is

    ordered_map : (fields : List (ℕ × Node)) → in_number_order (map on_value_of fields)
        ≡ map on_value_of (in_number_order fields)
    ordered_map [] = refl
    ordered_map (f ∷ fields) =
        ap (insert_field f.0 (g f.1)) (ordered_map fields) ∙ inserted_map f.0 f.1 (in_number_order fields)

  other_pairs : (fields : Fields) → fields_with items p fuel other fields ≡ map (on_value_of other) (pairs fields)
  other_pairs no_field = refl
  other_pairs (a_field number value rest) =
      ap (λ (l : List (ℕ × Meaning W)). (number, other value) ∷ l) (other_pairs rest)

  mean_pairs : (fields : Fields) → fields_of items p fuel fields ≡ map (on_value_of mean) (pairs fields)
  mean_pairs no_field = refl
  mean_pairs (a_field number value rest) = ap (λ (l : List (ℕ × Meaning W)). (number, mean value) ∷ l) (mean_pairs rest)

  moved_pairs : (id : ℕ) (fields : List (ℕ × Node)) → all_moved id (values_of (map (on_value_of other) fields))
      ≡ all_moved id (values_of (map (on_value_of mean) fields))
  moved_pairs id [] = refl
  moved_pairs id (f ∷ fields) = ap (λ (l : List Operand). moved id (mean f.1).head.id ∷ l) (moved_pairs id fields)

  pub same_fields : (id : ℕ) (fields : Fields) →
      all_moved id (values_of (in_number_order (fields_with items p fuel other fields)))
      ≡ all_moved id (values_of (in_number_order (fields_of items p fuel fields)))
  same_fields id fields =
      let moved_of = λ (l : List (ℕ × Meaning W)). all_moved id (values_of l) in
      ap (λ (l : List (ℕ × Meaning W)). moved_of (in_number_order l)) (other_pairs fields)
      ∙ ap moved_of (ordered_map other (pairs fields))
      ∙ moved_pairs id (in_number_order (pairs fields))
      ∙ sym (ap moved_of (ordered_map mean (pairs fields)))
      ∙ sym (ap (λ (l : List (ℕ × Meaning W)). moved_of (in_number_order l)) (mean_pairs fields))

  pub same_field_keys : (fields : Fields) → keys_of (values_of (fields_with items p fuel other fields))
      ≡ keys_of (values_of (fields_of items p fuel fields))
  same_field_keys no_field = refl
  same_field_keys (a_field number value rest) =
      ap (λ (keys : List ℕ). (mean value).head.id ∷ keys) (same_field_keys rest)

  pub fields_same : (w : Within) (H : Held) (fields : Fields) → Standing w H (nodes_of_fields fields) →
      Kept w H (each_field AsOperand fields) → (around : LoopsAndGuards) →
      SameWhere H (operands items p around (values_of (fields_with items p fuel other fields)))
      (operands items p around (values_of (fields_of items p fuel fields)))
  fields_same w H no_field st kept around = same H (At Value)
  fields_same w H (a_field number value rest) st kept around =
      let made = left_by w AsOperand value in
      then_same H (entered made H) (operand items p around (other value)) (operand items p around (mean value))
      (operands items p around (values_of (fields_with items p fuel other rest)))
      (operands items p around (values_of (fields_of items p fuel rest)))
      (kept.0 around) (operand_comes w H value (first_ones w H (nodes_of value) (nodes_of_fields rest) st) around)
      (fields_same w (entered made H) rest (later w H made (nodes_of_fields rest)
      (last_ones w H (nodes_of value) (nodes_of_fields rest) st)) kept.1 around)

  -- Conditions, branches, arms.

  pub condition_same : (H : Held) (n : Node) (around : LoopsAndGuards) (f f' g g' : Does W) → Same ByItself H n →
      SameWhere H f f' → SameWhere H g g' →
      SameWhere H (condition items p around (other n) f g) (condition items p around (mean n) f' g')
  condition_same H n around f f' g g' kept one another =
      let test = p.choose (IsTrue (moved (mean n).head.id (mean n).head.id)) in
      then_same H H (alone items p around (other n) (Into (mean n).head.id))
      (alone items p around (mean n) (Into (mean n).head.id)) (choosing test f g) (choosing test f' g')
      (kept around (Into (mean n).head.id)) (alone_comes H n around (Into (mean n).head.id))
      (choosing_same H test f f' g g' one another)

  pub branch_same : (w : Within) (H : Held) (o : MaybeNode) (around : LoopsAndGuards) (to : Destination)
      (f : Does W) → Kept w H (if_any ByItself o) →
      SameWhere H (branch items p around to (other_any o) f) (branch items p around to (mean_any o) f)
  branch_same w H absent around to f kept = same H f
  branch_same w H (present n) around to f kept = kept.0 around to

  pub arms_same : (w : Within) (H : Held) (nodes : Nodes) (matched : Place) → Kept w H (each AsArm nodes) →
      (around : LoopsAndGuards) (to : Destination) →
      SameWhere H (arms_in_order items p (others nodes) matched around to)
      (arms_in_order items p (means nodes) matched around to)
  arms_same w H no_node matched kept around to = same H (arms_in_order items p [] matched around to)
  arms_same w H (a_node first rest) matched kept around to =
      kept.0 matched (arms_in_order items p (others rest) matched around to)
      (arms_in_order items p (means rest) matched around to) (arms_same w H rest matched kept.1 around to) around to

  pub guarded_same : (w : Within) (H : Held) (pattern : Node) (matched : Place) (o : MaybeNode)
      (around : LoopsAndGuards) (f f' g g' : Does W) → Kept w H (if_any ByItself o) → SameWhere H f f' →
      SameWhere H g g' →
      SameWhere H (guarded items p around ((mean pattern).shape.bindings matched) (other_any o) f g)
      (guarded items p around ((mean pattern).shape.bindings matched) (mean_any o) f' g')
  guarded_same w H pattern matched absent around f f' g g' kept one another = one
  guarded_same w H pattern matched (present n) around f f' g g' kept one another =
      condition_same H n (in_guard ((mean pattern).shape.bindings matched) around) f f' g g' kept.0 one another

  pub taken_same : (t : NodeId) (H : Held) (h : NodeHead) (pattern body : Node) (matched : Place)
      (around : LoopsAndGuards) (to : Destination) →
      Same ByItself (entered (pattern_rows t (name_in (named h.id)) pattern) (opens h.id false H)) body →
      SameWhere H (taken_arm items p h around ((mean pattern).shape.bindings matched) (other body) to)
      (taken_arm items p h around ((mean pattern).shape.bindings matched) (mean body) to)
  taken_same t H h pattern body matched around to kept =
      let bound = bind items p innermost ((mean pattern).shape.bindings matched) in
      scope_same items p H h.id false (bound >> alone items p around (other body) to)
      (bound >> alone items p around (mean body) to)
      (then_same (opens h.id false H) (entered (pattern_rows t (name_in (named h.id)) pattern) (opens h.id false H))
      bound bound (alone items p around (other body) to) (alone items p around (mean body) to)
      (same (opens h.id false H) bound) (names_come t (named h.id) (opens h.id false H) pattern matched refl)
      (kept around to))

  -- a scrutinee, its names and what follows them are in one scope, which is left before what happens elsewhere
  module _ (H : Held) (h : NodeHead) (pattern scrutinee : Node)
      (st : Standing (both_in (named h.id)) (opens h.id true H) (nodes_of scrutinee))
      (out : AllNumbers (Missing (heads_of H)) (nodes_of scrutinee)) where
    abbrev pub scrutinee_made : Held
    scrutinee_made = entered (left_by (both_in (named h.id)) Reached scrutinee) (opens h.id true H)

    abbrev pub names_made : Held
    names_made = entered (pattern_rows (named h.id) (name_in (named h.id)) pattern) scrutinee_made

    abbrev scope_of : NodeId
    scope_of = named h.id

    names_are_put : (place : Place) →
        Comes scrutinee_made names_made (bind items p innermost ((mean pattern).shape.bindings place))
    names_are_put place =
        names_come scope_of scope_of scrutinee_made pattern place
        (subst (IsInnermost scope_of) (sym
        (entered_heads (left_by (both_in scope_of) Reached scrutinee) (opens h.id true H))) refl)

    is_left : Comes scrutinee_made H (leaving items p (At Value))
    is_left =
        subst (λ (K : Held). Comes scrutinee_made K (leaving items p (At Value)))
        (matched_out H h.id scrutinee pattern out).0
        (comes_leaving items p scrutinee_made scrutinee_made (At Value) (λ S is x. is))

    pub if_taken_same : (around : LoopsAndGuards) (f f' g g' : Does W) → Same Reached (opens h.id true H) scrutinee →
        SameWhere names_made f f' → SameWhere H g g' →
        SameWhere H (if_taken items p h around (other pattern) (other scrutinee) f g)
        (if_taken items p h around (mean pattern) (mean scrutinee) f' g')
    if_taken_same around f f' g g' kept one another =
        let place = place_of (mean scrutinee) around in
        let bound = bind items p innermost ((mean pattern).shape.bindings place) in
        let gone : Does W = leaving items p (At Value) in
        let touched = forms.touched items p (mean scrutinee).shape.is_place (forms.site_of (mean scrutinee) around) in
        scope_with_same items p H scrutinee_made h.id true (scrutinised items p around (other scrutinee))
        (scrutinised items p around (mean scrutinee)) _ _
        (same_then (opens h.id true H) ((other scrutinee).reach around) ((mean scrutinee).reach around) touched
        (kept around))
        (scrutinised_comes (both_in scope_of) (opens h.id true H) scrutinee st around)
        (choosing_same scrutinee_made (all_hold items p ((mean pattern).shape.tests place))
        (leaving items p (bound >> f)) (leaving items p (bound >> f')) (gone >> g) (gone >> g')
        (leaving_same items p scrutinee_made (bound >> f) (bound >> f')
        (then_same scrutinee_made names_made bound bound f f' (same scrutinee_made bound) (names_are_put place) one))
        (then_same scrutinee_made H gone gone g g' (same scrutinee_made gone) is_left another))

    pub if_taken_comes : (around : LoopsAndGuards) (f g : Does W) → Comes names_made names_made f → Comes H H g →
        Comes H H (if_taken items p h around (mean pattern) (mean scrutinee) f g)
    if_taken_comes around f g one another =
        let place = place_of (mean scrutinee) around in
        let bound = bind items p innermost ((mean pattern).shape.bindings place) in
        let gone : Does W = leaving items p (At Value) in
        comes_scope_with items p H scrutinee_made H h.id true (scrutinised items p around (mean scrutinee)) _
        (scrutinised_comes (both_in scope_of) (opens h.id true H) scrutinee st around)
        (comes_choosing scrutinee_made H (all_hold items p ((mean pattern).shape.tests place))
        (leaving items p (bound >> f)) (gone >> g)
        (subst (λ (K : Held). Comes scrutinee_made K (leaving items p (bound >> f)))
        (matched_out H h.id scrutinee pattern out).1
        (comes_leaving items p scrutinee_made names_made (bound >> f)
        (comes_then scrutinee_made names_made names_made bound f (names_are_put place) one)))
        (comes_then scrutinee_made H H gone g is_left another))

  -- Blocks, and `let`.

  pub tail_same : (w : Within) (H : Held) (h : NodeHead) (o : MaybeNode) → Kept w H (if_any ByItself o) →
      (around : LoopsAndGuards) (to : Destination) →
      SameWhere H (tail_of items p h (other_any o) around to) (tail_of items p h (mean_any o) around to)
  tail_same w H h absent kept around to = same H (put_unit_if items p (is_never items h.ty) h to)
  tail_same w H h (present n) kept around to = kept.0 around to

  pub block_same : (w : Within) (H : Held) (h : NodeHead) (nodes : Nodes) (tail : MaybeNode) →
      Standing w H (nodes_among nodes) → Kept w H (each Evaluated nodes ++ if_any ByItself tail) →
      (around : LoopsAndGuards) (to : Destination) →
      SameWhere H (statements items p around (others nodes) >> tail_of items p h (other_any tail) around to)
      (statements items p around (means nodes) >> tail_of items p h (mean_any tail) around to)
  block_same w H h no_node tail st kept around to S is x = tail_same w H h tail kept around to S is x
  block_same w H h (a_node first rest) tail st kept around to S is x =
      let made = left_by w Evaluated first in
      let key = Into (mean first).head.id in
      let one = statements items p around (others rest) in
      let another = statements items p around (means rest) in
      let last = tail_of items p h (other_any tail) around to in
      let end = tail_of items p h (mean_any tail) around to in
      in_three ((other first).evaluate around false key S x) one last
      ∙ then_same H (entered made H) ((other first).evaluate around false key)
      ((mean first).evaluate around false key) (one >> last) (another >> end)
      (kept.0 around key) (evaluated_comes w H first (first_ones w H (nodes_of first) (nodes_among rest) st) around key)
      (block_same w (entered made H) h rest tail
      (later w H made (nodes_among rest) (last_ones w H (nodes_of first) (nodes_among rest) st)) kept.1 around to) S
      is x
      ∙ sym (in_three ((mean first).evaluate around false key S x) another end)

  let_name_same : (H : Held) (h x : NodeHead) (n : Node) (around : LoopsAndGuards) →
      Same Evaluated (opens h.id true H) n →
      SameWhere H (let_name items p h x (other n) around) (let_name items p h x (mean n) around)
  let_name_same H h x n around kept =
      scope_same items p H h.id true _ _
      (pending_then items p (opens h.id true H) true x _ _
      (same_then (opens h.id true H) ((other n).evaluate around false (Into x.id))
      ((mean n).evaluate around false (Into x.id)) _ (kept around (Into x.id))))

  let_parts_same : (H : Held) (h : NodeHead) (pattern n : Node) (around : LoopsAndGuards) →
      Same OfLet (opens h.id true H) n →
      SameWhere H (let_parts items p h (other pattern) (other n) around)
      (let_parts items p h (mean pattern) (mean n) around)
  let_parts_same H h pattern n around kept =
      scope_same items p H h.id true _ _
      (same_then (opens h.id true H) (of_let items p around (other n)) (of_let items p around (mean n))
      (bind items p around_innermost ((mean pattern).shape.bindings (place_of (mean n) around))) (kept around))

  let_value_same : (H : Held) (h : NodeHead) (pattern n : Node) (around : LoopsAndGuards) →
      Same (let_role (form_of pattern)) (opens h.id true H) n →
      SameWhere H (let_value items p (mean pattern).shape.is_binding h (other pattern) (other n) around)
      (let_value items p (mean pattern).shape.is_binding h (mean pattern) (mean n) around)
  let_value_same H h (node id at ty by form) n around kept = by_kind form (kind_in form) kept
    where
      by_kind : (form : Form) → Kind form → Same (let_role form) (opens h.id true H) n →
          SameWhere H (let_value items p (mean (node id at ty by form)).shape.is_binding h
          (other (node id at ty by form)) (other n) around)
          (let_value items p (mean (node id at ty by form)).shape.is_binding h (mean (node id at ty by form)) (mean n)
          around)
      by_kind _ (one_name text) kept = let_name_same H h (head id ty by) n around kept
      by_kind _ (no_name form none first name unnamed role) kept =
          let pattern = node id at ty by form in
          subst (λ (b : Bool). SameWhere H (let_value items p b h (other pattern) (other n) around)
          (let_value items p b h (mean pattern) (mean n) around))
          (sym (ap (λ (s : Shape). s.is_binding) (law items p fuel pattern).shaped ∙ none items (head id ty by)))
          (let_parts_same H h pattern n around (subst (λ (r : Role). Same r (opens h.id true H) n) role kept))

  pub letting_same : (w : Within) (H : Held) (h : NodeHead) (pattern : Node) (o : MaybeNode) →
      Kept w (opens h.id true H) (let_steps (form_of pattern) o) → (around : LoopsAndGuards) →
      SameWhere H (letting items p h (other pattern) (other_any o) around)
      (letting items p h (mean pattern) (mean_any o) around)
  letting_same w H h pattern absent kept around =
      same H (forms.declared items p ((mean pattern).shape.bindings (whole_local 0)))
  letting_same w H h pattern (present n) kept around = let_value_same H h pattern n around kept.0

  pub jump_same : (w : Within) (H : Held) (h : NodeHead) (o : MaybeNode) → Kept w H (if_any Evaluated o) →
      (around : LoopsAndGuards) (to : Destination) →
      SameWhere H (forms.value_of_jump items p h (other_any o) around to)
      (forms.value_of_jump items p h (mean_any o) around to)
  jump_same w H h absent kept around to = same H (forms.put_unit items p h to)
  jump_same w H h (present n) kept around to = kept.0 around to
