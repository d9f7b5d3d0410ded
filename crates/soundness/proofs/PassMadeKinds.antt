-- Where a form goes on, a value of its type is made: by kinds of forms.
use Rattle.std.proofs.Common.{◌≡◌, ℕ, ◌&&◌, not, Bool, true, false, List, [], ◌∷◌, ◌++◌, Option, Some, None, if◌then◌else◌, refl, ap, sym, ◌∙◌, subst}
use Rattle.std.specs.Prelude.{option_and_then}
use Rattle.std.specs.List.{list_all}
use Rattle.std.specs.Option.{option_map_or}
use Rattle.std.proofs.lemmas.Bool.{false≢true}
use Rattle.std.proofs.lemmas.Option.{none-some}
use Rattle.mir_ty.specs.declared.ty.Ty.{Ty}
use Rattle.mir_ty.specs.declared.ty.TyId.{TyId}
use Rattle.mir_ty.specs.ItemTable.{ItemTable, type_at}
use Rattle.store_model.proofs.Effects.NeverStores.{free_runs_store_no_never}
use Rattle.store_model.specs.Abstract.Effects.{AbstractState, never_at}
use Rattle.store_model.specs.Effects as effects
use Rattle.store_model.specs.Effects.{EffectSite, Action, Out, Go, Unwind, Halts, Effects, stores_where, DoesNotGoOn}
use Rattle.store_model.specs.Places.Place.{whole_local}
use Rattle.store_model.specs.Places.TypeForms.{is_never as is_never_ty}
use Rattle.typed_tree.specs.declared.node.Use.{Use}
use Rattle.typed_tree.specs.Tree.{Node, node, Form, Nodes, no_node, a_node, Fields, MaybeNode, BodyTree}
use Rattle.src_meaning.specs.Evaluation as evaluation
use Rattle.src_meaning.specs.Evaluation.{meaning, meanings, fields_of, meaning_if_any, to_own_key}
use Rattle.src_meaning.specs.Forms as forms
use Rattle.src_meaning.specs.Forms.{Destination, Into, LoopsAndGuards, Meaning, moved, all_moved, is_never, site_in}
use Rattle.src_meaning.specs.Locals.Effects.{action_at}
use Rattle.src_meaning.specs.Locals.OfBody.{local_of, local_ty}
use Rattle.src_meaning.specs.Scopes.{Entry, Breaks, At, Does}
use Rattle.src_meaning.specs.Shape.{NodeHead, head, Shape, shape_of, operand_at}
use Rattle.well_typed.specs.Claim.{Holds}
use Rattle.well_typed.specs.Nodes as typing
use Rattle.well_typed.specs.Places.{LoopAround, Context, loop_with, ty_of, form_of, is_place, Passed, Base}
use Rattle.well_typed.specs.Types as types
use Rattle.soundness_values.proofs.AlsoTests.{Also}
use Rattle.soundness_values.proofs.Checked.{Checking, with_facts}
use Rattle.soundness_values.proofs.Facts.{Facts}
use Rattle.soundness_cells.proofs.PassCellActs.{Cell}
use Rattle.soundness_cells.proofs.PassCellParts as at_nodes
use Rattle.soundness_cells.proofs.PassCellPatterns as cells_of
use Rattle.soundness_cells.proofs.PassCellPatterns.{Told, Has}
use Rattle.soundness_cells.proofs.PassCellTypes as facts_of
use Rattle.soundness_cells.proofs.PassFacts.{Standpoint, context, with_names, behind}
use Rattle.soundness.proofs.PassMadeRules as rules
use Rattle.soundness_cells.proofs.PassMarks.{marked}
use Rattle.soundness.proofs.PassPlacesEffects.{q}
use Rattle.soundness.proofs.PassPlacesMeant as meant

-- ---- types that are made

pub made_by : {A : Type 0} (f : Ty → Option A) → f Ty.Never ≡ None → (o : Option Ty) (a : A) → option_and_then f o ≡ Some
    a → is_never_ty o ≡ false
made_by f n None a e = absurd (none-some a e)
made_by f n (Some Ty.Never) a e = absurd (none-some a (sym n ∙ e))
made_by f n (Some ty) a e = refl

pub found_by : {A : Type 0} (test : A → Bool) (o : Option A) → option_map_or test o false ≡ true → (a : A) × (o ≡ Some a)
found_by test None e = absurd (false≢true e)
found_by test (Some a) e = (a, refl)

module _ (items : ItemTable) (body : BodyTree) (also : Also) (told : Told items) (fuel : ℕ) where
  abbrev V : Type 0
  V = Checking Facts

  abbrev K : Standpoint → Context
  K = context items

  abbrev r : Effects V
  r = q items body also

  abbrev N : Node → Meaning V
  N = meaning items (q items body also) fuel

  abbrev Ns : Nodes → List (Meaning V)
  Ns = meanings items (q items body also) fuel

  abbrev Nf : Fields → List (ℕ × Meaning V)
  Nf = fields_of items (q items body also) fuel

  abbrev Ni : MaybeNode → Option (Meaning V)
  Ni = meaning_if_any items (q items body also) fuel

  abbrev F : Form → ℕ → TyId → Option Use → Meaning V
  F = meant.Of items (q items body also) fuel

  abbrev H : List Entry → Type 0
  H = Has items body

  abbrev left : (a b : List Entry) → H (a ++ b) → H a
  left = cells_of.has_left items body

  abbrev right : (a b : List Entry) → H (a ++ b) → H b
  right = cells_of.has_right items body

  abbrev Makes : List LoopAround → Type 0 → Does V → Type 0
  Makes = rules.Makes items r

  abbrev None_ : Type 0
  None_ = rules.Nothing items r

  abbrev Mades : TyId → Type 0
  Mades ty = is_never items ty ≡ false

  -- a node that is evaluated, and one that is reached
  abbrev pub Es : List LoopAround → TyId → Meaning V → Type 0
  Es loops ty m = (around : LoopsAndGuards) (own : Bool) (to : Destination) →
      Makes loops (Mades ty) (m.evaluate around own to)

  abbrev pub Rs : List LoopAround → Node → Type 0
  Rs loops n = (around : LoopsAndGuards) → Makes loops (is_place (form_of n) ≡ false → Mades (ty_of n)) ((N n).reach
      around)

  abbrev AllE : List LoopAround → List (Meaning V) → Type 0
  AllE loops ms = (around : LoopsAndGuards) → rules.AllMake items r loops around ms

  -- ---- by kinds

  pub sure : (loops : List LoopAround) (ty : TyId) (does : Does V) → Mades ty → Makes loops None_ does →
      Makes loops (Mades ty) does
  sure loops ty does made k S v = rules.as_so items r loops None_ (Mades ty) (does S v) (λ u. made) (k S v)

  pub less : (loops : List LoopAround) (a : Type 0) (does : Does V) → Makes loops a does → Makes loops None_ does
  less loops a does k S v = rules.as_so items r loops a None_ (does S v) (λ u. tt) (k S v)

  pub one_of : (loops : List LoopAround) (ty : TyId) (m : Meaning V) → Es loops ty m → AllE loops (m ∷ [])
  one_of loops ty m e around =
      (less loops (Mades ty) (m.evaluate around false (Into m.head.id)) (e around false (Into m.head.id)), tt)

  pub more_of : (loops : List LoopAround) (ty : TyId) (m : Meaning V) (ms : List (Meaning V)) → Es loops ty m → AllE loops
      ms → AllE loops (m ∷ ms)
  more_of loops ty m ms e l around = (
    less loops (Mades ty) (m.evaluate around false (Into m.head.id)) (e around false (Into m.head.id)),
    l around,
  )

  pub effect_so : (loops : List LoopAround) (h : NodeHead) (s : Shape) (action : EffectSite → Action) → Mades h.ty →
      Es loops h.ty (evaluation.effect items r fuel h s action)
  effect_so loops h s action made around own to = sure loops h.ty _ made
      (rules.own_so items r loops None_ h own _ (rules.deliver_so items r loops h action (to_own_key (is_never items
      h.ty) h.id to)))

  pub operands_so : (loops : List LoopAround) (h : NodeHead) (s : Shape) (ms : List (Meaning V)) (action : EffectSite →
      Action) → AllE loops ms → Mades h.ty → Es loops h.ty (evaluation.on_operands items r fuel h s ms action)
  operands_so loops h s ms action e made around own to = sure loops h.ty _ made
      (rules.acting_so items r loops None_ h around own ms _ (e around)
      (rules.deliver_so items r loops h action (to_own_key (is_never items h.ty) h.id to)))

  pub gives_unit_so : (loops : List LoopAround) (h : NodeHead) (s : Shape) (m : Meaning V)
      (action : Rattle.store_model.specs.Effects.Operand → Action) → AllE loops (m ∷ []) → Mades h.ty →
      Es loops h.ty (evaluation.gives_unit items r fuel h s m action)
  gives_unit_so loops h s m action e made around own to = sure loops h.ty _ made
      (rules.acting_so items r loops None_ h around own (m ∷ []) _ (e around)
      (rules.both_so items r loops None_ None_ _ _ (rules.acts_so items r loops (action (moved h.id m.head.id)))
      (λ u. rules.unit_so items r loops h (to_own_key (is_never items h.ty) h.id to))))

  -- ---- what goes on

  marked_not : (mark : Option ℕ) (v : V) (went unwound : Facts) (o : Out AbstractState) → DoesNotGoOn o →
      DoesNotGoOn (marked mark v (with_facts went unwound o))
  marked_not None v went unwound (Go w) d = absurd d
  marked_not None v went unwound (Unwind w) d = tt
  marked_not None v went unwound (Halts halt w) d = tt
  marked_not (Some m) v went unwound o d = tt

  never_goes : (action : Action) (v : V) →
      stores_where (never_at items (local_ty items body)) (action_at (local_of items body) action) ≡ true →
      DoesNotGoOn (r.act action v)
  never_goes action v e = marked_not _ v _ _ _
      (free_runs_store_no_never items (local_ty items body) (action_at (local_of items body) action) v.free e)

  never_there : (at_node id : ℕ) (ty : TyId) → Cell items body id ty → is_never items ty ≡ true →
      never_at items (local_ty items body) (record { node = at_node; place = whole_local (local_of items body id) }) ≡
      true
  never_there at_node id ty c n = subst (λ o. is_never_ty (option_and_then (type_at items)
      (option_and_then (Rattle.store_model.specs.Places.Place.ty_along items []) o)) ≡ true) (sym c) n

  delivered_so : (loops : List LoopAround) (h : NodeHead) (action : EffectSite → Action) (to : Destination) (b : Bool) →
      (b ≡ true → (v : V) → DoesNotGoOn (r.act (action (site_in h.id h.id)) v)) →
      Makes loops (b ≡ false) (forms.deliver items r h action (to_own_key b h.id to))
  delivered_so loops h action to false n S v = rules.as_so items r loops None_ (false ≡ false) _ (λ u. refl)
      (rules.deliver_so items r loops h action to S v)
  delivered_so loops h action to true n S v =
      rules.stops_so items r loops (true ≡ false) (action (site_in h.id h.id)) (n refl) S v

  -- the use of a place, and a call, where its type is `!`
  pub used_so : (loops : List LoopAround) (form : Form) (id : ℕ) (ty : TyId) (by : Option Use) (reach_ : LoopsAndGuards →
      Does V) → ((around : LoopsAndGuards) → Makes loops None_ (reach_ around)) → (is_never items ty ≡ true → Cell
      items body id ty) → Es loops ty (evaluation.a_place items r fuel (head id ty by) (shape_of items form (head id
      ty by)) reach_)
  used_so loops form id ty by reach_ k c around own to = rules.own_so items r loops (Mades ty) (head id ty by) own _
      (rules.both_so items r loops None_ (Mades ty) (reach_ around) _ (k around)
      (λ u. delivered_so loops (head id ty by)
      (λ site. effects.Put site (operand_at (head id ty by) ((shape_of items form (head id ty by)).place
      around.aliases))) to (is_never items ty) (λ n v. never_goes (effects.Put (site_in id id) (operand_at (head id ty
      by) ((shape_of items form (head id ty by)).place around.aliases))) v (never_there id id ty (c n) n))))

  pub called_so : (loops : List LoopAround) (id : ℕ) (ty : TyId) (by : Option Use) (s : Shape) (ms : List (Meaning V))
      (callee : ℕ) → AllE loops ms → (is_never items ty ≡ true → Cell items body id ty) →
      Es loops ty (evaluation.on_all items r fuel (head id ty by) s ms (λ site. effects.Call site callee))
  called_so loops id ty by s ms callee e c around own to = rules.acting_so items r loops (Mades ty) (head id ty by)
      around own ms _ (e around) (delivered_so loops (head id ty by) (λ site. effects.Call site callee (all_moved id
      ms)) to (is_never items ty) (λ n v. never_goes (effects.Call (site_in id id) callee (all_moved id ms)) v
      (never_there id id ty (c n) n)))

  pub virtual_so : (loops : List LoopAround) (id : ℕ) (ty : TyId) (by : Option Use) (s : Shape) (ms : List (Meaning V))
      (trait_no method : ℕ) → AllE loops ms → (is_never items ty ≡ true → Cell items body id ty) →
      Es loops ty (evaluation.on_all items r fuel (head id ty by) s ms (λ site. effects.CallVirtual site trait_no
      method))
  virtual_so loops id ty by s ms trait_no method e c around own to = rules.acting_so items r loops (Mades ty) (head id
      ty by) around own ms _ (e around) (delivered_so loops (head id ty by)
      (λ site. effects.CallVirtual site trait_no method (all_moved id ms)) to
      (is_never items ty) (λ n v. never_goes (effects.CallVirtual (site_in id id) trait_no method (all_moved id ms)) v
      (never_there id id ty (c n) n)))

  pub passed_so : (loops : List LoopAround) (tys : List TyId) (first : Node) (rest : Nodes) (x : Standpoint) →
      Holds (typing.first_and_rest (λ t. typing.typed (K x) (Passed t) first) (λ ts. typing.arguments (K x) ts rest)
      tys) → ((t : TyId) → Holds (typing.typed (K x) (Passed t) first) → Es loops (ty_of first) (N first)) →
      ((ts : List TyId) → Holds (typing.arguments (K x) ts rest) → AllE loops (Ns rest)) → AllE loops (N first ∷ Ns
      rest)
  passed_so loops [] first rest x h f e = absurd (false≢true h)
  passed_so loops (ty ∷ tys) first rest x h f e = more_of loops (ty_of first) (N first) (Ns rest) (f ty h.0) (e tys h.1)

  -- a branch of a type that fits
  pub fits_so : (loops : List LoopAround) (ty : TyId) (n : Node) (does : Does V) → types.fits items ty (ty_of n) ≡ true →
      Makes loops (Mades (ty_of n)) does → Makes loops (Mades ty) does
  fits_so loops ty n does f k S v = rules.as_so items r loops (Mades (ty_of n)) (Mades ty) (does S v)
      (λ m. subst (λ t. is_never items t ≡ false) (facts_of.made_fits items ty (ty_of n) f m) m) (k S v)

  pub common_first : (ty a : TyId) (rest : List TyId) → types.is_common items ty (a ∷ rest) ≡ true → types.fits items ty a
      ≡ true
  common_first ty a rest h = facts_of.left_of (types.fits items ty a) _
      (facts_of.left_of (list_all (types.fits items ty) (a ∷ rest)) _ h)

  pub same_loops : (ns : Nodes) (x : Standpoint) → (behind x ns).loops ≡ x.loops
  same_loops no_node x = refl
  same_loops (a_node (node id at ty by form) rest) x = same_loops rest (with_names (typing.entries_in form) x)

  is_unused : (n : Node) (x : Standpoint) → Holds (typing.typed (K x) Base n) → is_place (form_of n) ≡ true →
      typing.is_unused_place n ≡ true
  is_unused (node id at ty by form) x h p = so (is_place form) (Rattle.std.proofs.Common.is_none by) p
      (facts_of.left_of (Rattle.std.proofs.Common.is_none by) _ h.0)
    where
      so : (a b : Bool) → a ≡ true → b ≡ true → (a && b) ≡ true
      so true b e f = f
      so false b e f = absurd (false≢true e)

  -- a place that is taken apart is not used, and what is no place is made
  pub parted_ends : (n : Node) (x : Standpoint) → Holds (typing.typed (K x) Base n) →
      (is_place (form_of n) ≡ false → Mades (ty_of n)) →
      (types.is_never items (ty_of n) && not (typing.is_unused_place n)) ≡ false
  parted_ends n x h made = by (is_place (form_of n)) refl
    where
      second : (a b : Bool) → b ≡ true → (a && not b) ≡ false
      second true true e = refl
      second true false e = absurd (false≢true e)
      second false b e = refl

      first : (a b : Bool) → a ≡ false → (a && b) ≡ false
      first true b e = absurd (false≢true (sym e))
      first false b e = refl

      by : (b : Bool) → is_place (form_of n) ≡ b → (types.is_never items (ty_of n) && not (typing.is_unused_place n))
          ≡ false
      by true p = second (types.is_never items (ty_of n)) (typing.is_unused_place n) (is_unused n x h p)
      by false p = first (types.is_never items (ty_of n)) _ (facts_of.never_same items (ty_of n) ∙ made p)

  pub named_ends : (n : Node) → Mades (ty_of n) → (types.is_never items (ty_of n) && not (typing.is_unused_place n)) ≡ false
  named_ends n made = first (types.is_never items (ty_of n)) _ (facts_of.never_same items (ty_of n) ∙ made)
    where
      first : (a b : Bool) → a ≡ false → (a && b) ≡ false
      first true b e = absurd (false≢true (sym e))
      first false b e = refl

  pub common_second : (ty a b : TyId) → types.is_common items ty (a ∷ b ∷ []) ≡ true → types.fits items ty b ≡ true
  common_second ty a b h = facts_of.left_of (types.fits items ty b) _ (facts_of.right_of (types.fits items ty a) _
      (facts_of.left_of (list_all (types.fits items ty) (a ∷ b ∷ [])) _ h))

  pub unit_if_so : (loops : List LoopAround) (b : Bool) (h : NodeHead) (to : Destination) →
      Makes loops None_ (forms.put_unit_if items r b h to)
  unit_if_so loops true h to = λ S v. tt
  unit_if_so loops false h to = rules.unit_so items r loops h to

  pub ends_so : (id : ℕ) (ty : TyId) (by : Option Use) (loops : List LoopAround) → Mades ty → (to : Destination) →
      Makes (at_nodes.around_a items body told fuel id ty false ∷ loops) None_ (forms.ends_loop items r (head id ty
      by) to)
  ends_so id ty by loops made to = rules.both_so items r (at_nodes.around_a items body told fuel id ty false ∷ loops)
      None_ None_ _ (At (Breaks id)) (rules.unit_so items r (at_nodes.around_a items body told fuel id ty false ∷ loops)
      (head id ty by) to)
      (λ u S v. (at_nodes.around_a items body told fuel id ty false, (itself, made)))
    where
      itself : loop_with id (at_nodes.around_a items body told fuel id ty false ∷ loops)
          ≡ Some (at_nodes.around_a items body told fuel id ty false)
      itself = ap (λ b. if b then Some (at_nodes.around_a items body told fuel id ty false) else loop_with id loops)
          ((Rattle.std.proofs.lemmas.Bool.Decides.Decides-eqb id id).1 refl)

  pub declared_so : (loops : List LoopAround) (bounds : List Rattle.src_meaning.specs.Shape.BoundName) →
      Makes loops None_ (forms.declared items r bounds)
  declared_so loops [] S v = tt
  declared_so loops (b ∷ bounds) S v = rules.both_so items r loops None_ None_ _ _
      (emptied_so (Rattle.mir_ty.specs.Facts.needs_drop items b.ty) b.key)
      (λ u T w. declared_so loops bounds
      (Rattle.src_meaning.specs.Scopes.innermost (Rattle.src_meaning.specs.Scopes.with_entry (forms.bound_entry b)) T)
      w) S v
    where
      emptied_so : (c : Bool) (key : ℕ) → Makes loops None_ (forms.emptied items r c key)
      emptied_so true key = λ S v. tt
      emptied_so false key = λ S v. rules.acted_so items r loops S (r.drop effects.Normal (forms.site_of_key key) v)

  pub same_meaning : (a b : Meaning V) → Some a ≡ Some b → a ≡ b
  same_meaning a b e = Rattle.std.proofs.lemmas.Option.same_Some a b e
