-- What each argument of a call names suits its parameter, by the rules of typing: a borrow is of the type of the
-- parameter;
-- what is no borrow is of type `!` where a reference is wanted, and is then the use of a place or a call, or has no
-- cell.
use Rattle.std.proofs.Common.{◌≡◌, inl, inr, ℕ, ◌<◌, ◌&&◌, ◌||◌, not, Bool, true, false, List, [], ◌∷◌, ◌++◌, Option, Some, None, is_none, is_some, if◌then◌else◌, refl, ap, sym, ◌∙◌, subst, arith}
use Rattle.std.specs.Prelude.{slice_get, option_and_then}
use Rattle.std.specs.Cmp.{second_so}
use Rattle.std.proofs.lemmas.Bool.{false≢true}
use Rattle.mir_base.specs.declared.place_in_text.Pos.{Pos}
use Rattle.mir_ty.specs.declared.ty.Ty.{Ty}
use Rattle.mir_ty.specs.declared.ty.TyId.{TyId}
use Rattle.mir_ty.specs.ItemTable.{ItemTable, type_at}
use Rattle.store_model.specs.Effects.{EffectSite, Operand, Action}
use Rattle.store_model.specs.Places.Place.{whole_local, ty_along}
use Rattle.store_model.specs.Places.TypeForms as type_forms
use Rattle.typed_tree.specs.declared.node.Use.{Use}
use Rattle.typed_tree.specs.Nodes.{number_of, nodes_of, nodes_in, nodes_among, param_nodes}
use Rattle.typed_tree.specs.Tree as tree
use Rattle.typed_tree.specs.Tree.{Node, node, Form, Nodes, no_node, a_node, BodyTree, ProgramTree}
use Rattle.src_meaning.specs.Forms.{is_never}
use Rattle.src_meaning.specs.Locals.Effects.{place_at}
use Rattle.src_meaning.specs.Locals.OfBody.{local_of, local_ty}
use Rattle.src_meaning.specs.Shape as shapes
use Rattle.src_meaning.specs.Shape.{shape}
use Rattle.typing_rules.specs.Accesses as rules
use Rattle.typing_rules.specs.Accesses.{Argument, told, told_form, place_of, root_of_form, own_access, access_by}
use Rattle.well_typed.specs.Claim.{Holds, fact, both}
use Rattle.well_typed.specs.Nodes as typing
use Rattle.well_typed.specs.Places.{Context, Passed, Used, borrow_by, form_of, ty_of, is_borrow, is_taken, is_behind_shared}
use Rattle.well_typed.specs.Types as types
use Rattle.soundness_values.proofs.AlsoTests.{Also}
use Rattle.soundness_values.proofs.CheckedBodies.{is_reference_param}
use Rattle.soundness_values.proofs.Checks as checks
use Rattle.soundness_values.proofs.Checks.{if_so}
use Rattle.soundness_values.proofs.Facts.{Naming}
use Rattle.soundness.proofs.PassAloneArgs.{Suits, SuitsAs, SuitsOne, AllSuit, is_listed, reference_to}
use Rattle.soundness.proofs.PassAloneBrings.{Fit, AllFit, named_form, args_of}
use Rattle.soundness.proofs.PassAloneChanges.{borrowed_changes}
use Rattle.soundness.proofs.PassAloneNever.{never_local, is_use_or_call}
use Rattle.soundness.proofs.PassAlonePassed.{Argued, AllTold}
use Rattle.soundness.proofs.PassAloneTogether.{no_alias}
use Rattle.soundness_frame.proofs.PassBlockTold.{in_block}
use Rattle.soundness_cells.proofs.PassCellPatterns.{made_of_never}
use Rattle.soundness_cells.proofs.PassCellTypes.{never_same}
use Rattle.soundness_cells.proofs.PassCells.{NodeIn, is_literal, made_in, made_ty}
use Rattle.soundness_cells.proofs.PassFacts.{Standpoint, context}
use Rattle.soundness_frame.proofs.PassFrameBodies.{any_place}
use Rattle.soundness.proofs.PassMadeCells.{local_made}
use Rattle.soundness_frame.proofs.PassPastParams.{no_param}
use Rattle.soundness.proofs.PassProtectEnds.{numbered_in}
use Rattle.soundness_frame.proofs.PassTold as here
use Rattle.soundness_frame.proofs.PassTold.{KnownOf, Here, Told}
use Rattle.soundness_frame.proofs.PassToldPlaces.{Rises, rises_right}
use Rattle.soundness_values.proofs.PlaceTypes.{some_holds, same_type}

module _ (items : ItemTable) (b : BodyTree) (also : Also) (fuel : ℕ)
    (rise : Rises (param_nodes b.params ++ nodes_of b.block)) (aliases : rules.Aliases) (places : shapes.Aliases)
    (x : Standpoint) where
  abbrev K : Context
  K = context items x

  abbrev InBlock : Node → Type 0
  InBlock m = NodeIn (nodes_of b.block) m

  abbrev Of : KnownOf
  Of = in_block items b InBlock

  abbrev Around : List Node → Type 0
  Around = Here items any_place Of aliases places x

  abbrev local : ℕ → ℕ
  local = local_of items b

  abbrev block_rise : Rises (nodes_of b.block)
  block_rise = rises_right (param_nodes b.params) (nodes_of b.block) rise

  -- ---- the type of a local

  listed_ty : (l : ℕ) → is_listed items b l ≡ true → (t : TyId) × (local_ty items b l ≡ Some t)
  listed_ty l h = by (local_ty items b l) refl h
    where
      by : (o : Option TyId) → local_ty items b l ≡ o → is_some (option_and_then (ty_along items []) o) ≡ true →
          (t : TyId) × (local_ty items b l ≡ Some t)
      by None e h = absurd (false≢true h)
      by (Some t) e h = (t, e)

  never_ty : (l : ℕ) → never_local items b l ≡ true →
      (t : TyId) × ((local_ty items b l ≡ Some t) × (is_never items t ≡ true))
  never_ty l h = by (local_ty items b l) refl h
    where
      by : (o : Option TyId) → local_ty items b l ≡ o →
          type_forms.is_never (option_and_then (type_at items) (option_and_then (ty_along items []) o)) ≡ true →
          (t : TyId) × ((local_ty items b l ≡ Some t) × (is_never items t ≡ true))
      by None e h = absurd (false≢true h)
      by (Some t) e h = (t, (e, h))

  -- ---- one argument

  not_literal : (form : Form) (id : ℕ) (ty : TyId) → Holds (typing.row K id ty form) → is_literal form ≡ false
  not_literal (tree.NumberPattern value) id ty h = absurd (false≢true h)
  not_literal (tree.TruthPattern value) id ty h = absurd (false≢true h)
  not_literal form id ty h = refl

  use_or_call : (form : Form) (id : ℕ) (ty : TyId) → Holds (typing.row K id ty form) → made_of_never form ≡ true →
      is_use_or_call form ≡ true
  use_or_call (tree.Binding name) id ty h m = absurd (false≢true h)
  use_or_call form id ty h m = m

  module _ (id : ℕ) (at : Pos) (ty : TyId) (by : Option Use) (form : Form) (want : TyId)
      (inside : NodeIn (nodes_in (form_of b.block)) (node id at ty by form))
      (typed : Holds (typing.typed K (Passed want) (node id at ty by form))) where
    abbrev arg : Node
    arg = node id at ty by form

    -- its local has its type, if any
    own_ty : (t : TyId) → local_ty items b (local id) ≡ Some t →
        (ty ≡ t) × (is_never items ty ≡ true → made_of_never form ≡ true)
    own_ty t e =
        let m = local_made items b rise arg inside t e in
        (sym (ap (λ c. made_ty items c ty) (not_literal form id ty typed.1)) ∙ m.0, m.1)

    pub fit : InBlock arg → Fit items b also fuel block_rise arg
    fit i = (
      i,
      λ n. let t = never_ty (local id) n in
          let o = own_ty t.0 t.1.0 in
          use_or_call form id ty typed.1 (o.1 (ap (is_never items) o.0 ∙ t.1.1)),
    )

    -- where a reference is wanted
    module _ (unique : Bool) (to : TyId) (is_ref : type_at items want ≡ Some (reference_to items b unique to)) where
      refers : types.is_reference items want ≡ true
      refers = ap (λ o. is_some (option_and_then types.reference_in o)) is_ref ∙ one unique
        where
          one : (u : Bool) → is_some (types.reference_in (reference_to items b u to)) ≡ true
          one true = refl
          one false = refl

      -- what is no borrow is of type `!`
      never_unless : is_borrow form ≡ false → types.is_never items ty ≡ true
      never_unless none = so (types.is_never items ty) refl
          (subst (λ c. Holds (if c && not (types.is_never items ty) then
          fact (is_borrow form && is_none by && types.is_same ty want)
          else both (is_taken K ty by form) (fact (types.fits items want ty)))) refers typed.0)
        where
          so : (n : Bool) → types.is_never items ty ≡ n → Holds (if true && not n then
              fact (is_borrow form && is_none by && types.is_same ty want)
              else both (is_taken K ty by form) (fact (types.fits items want ty))) → types.is_never items ty ≡ true
          so true e h = e
          so false e h = absurd (false≢true (sym none
              ∙ Rattle.std.specs.Cmp.first_so (is_borrow form) (is_none by)
              (Rattle.std.specs.Cmp.first_so (is_borrow form && is_none by) (types.is_same ty want) h)))

      plain_suits : is_borrow form ≡ false → Suits items b (local id) unique to None
      plain_suits none listed =
          let t = listed_ty (local id) listed in
          let o = own_ty t.0 t.1 in
          ap (λ z. type_forms.is_never (option_and_then (type_at items) (option_and_then (ty_along items []) z))) t.1
          ∙ ap (is_never items) (sym o.0) ∙ sym (never_same items ty) ∙ never_unless none

  -- a borrow
  module _ (id : ℕ) (at : Pos) (ty : TyId) (by : Option Use) (unique : Bool) (base : Node) (want : TyId)
      (inside : NodeIn (nodes_in (form_of b.block)) (node id at ty by (tree.Borrow unique base)))
      (typed : Holds (typing.typed K (Passed want) (node id at ty by (tree.Borrow unique base))))
      (o : Around (nodes_of (node id at ty by (tree.Borrow unique base))))
      (t : Told items any_place Of aliases (told_form aliases at (tree.Borrow unique base))) where
    abbrev borrow : Node
    borrow = node id at ty by (tree.Borrow unique base)

    abbrev naming : Naming
    naming = record {
      local = local id;
      unique = unique;
      place = place_at local ((shape items base).place places);
    }

    -- it has the type of the parameter
    same_want : types.is_reference items want ≡ true → ty ≡ want
    same_want r = so (types.is_never items ty) (subst (λ c. Holds (if c && not (types.is_never items ty) then
        fact (true && is_none by && types.is_same ty want)
        else both (is_taken K ty by (tree.Borrow unique base)) (fact (types.fits items want ty)))) r typed.0)
      where
        so : (n : Bool) → Holds (if true && not n then fact (true && is_none by && types.is_same ty want)
            else both (is_taken K ty by (tree.Borrow unique base)) (fact (types.fits items want ty))) → ty ≡ want
        so true h = absurd (false≢true (second_so (is_none by) false h.0))
        so false h = same_type ty want (second_so (true && is_none by) (types.is_same ty want) h)

    as_said : (wanted mine : Bool) (to : TyId) (r : Bool × TyId) →
        types.reference_in (reference_to items b wanted to) ≡ Some r → (if mine then r.0 else not r.0) ≡ true →
        if_so wanted mine ≡ true
    as_said true true to r e h = refl
    as_said true false to r e h =
        let same : (true, to) ≡ r = cc in absurd (false≢true (ap (λ (z : Bool × TyId). not z.0) same ∙ h))
    as_said false true to r e h =
        let same : (false, to) ≡ r = cc in absurd (false≢true (ap (λ (z : Bool × TyId). z.0) same ∙ h))
    as_said false false to r e h = refl

    turned : (c : Bool) → not (true && c) ≡ true → c ≡ false
    turned true h = absurd (false≢true h)
    turned false h = refl

    changes : (u : Bool) → unique ≡ u → (not u || checks.may_change items (local_ty items b)
        (is_reference_param items b) naming.place) ≡ true
    changes false e = refl
    changes true e = borrowed_changes items b rise any_place aliases places x base (Used (borrow_by unique))
        (here.here_in items any_place Of aliases places x borrow (nodes_of base) o) typed.1.0
        (no_alias items any_place Of aliases places x at unique base t e)
        (turned (is_behind_shared K base) (subst (λ u. not (u && is_behind_shared K base) ≡ true) e typed.1.1.0))

    wanted_changes : (wanted : Bool) → if_so wanted unique ≡ true → (not wanted || checks.may_change items
        (local_ty items b) (is_reference_param items b) naming.place) ≡ true
    wanted_changes true h = changes true h
    wanted_changes false h = refl

    pub borrow_suits : (wanted : Bool) (to : TyId) → type_at items want ≡ Some (reference_to items b wanted to) →
        SuitsOne items b (local id) wanted to naming
    borrow_suits wanted to e =
        let same = same_want (refers id at ty by (tree.Borrow unique base) want inside typed wanted to e) in
        let r = some_holds (types.reference_of items ty) (λ (r : Bool × TyId). both
        (fact (types.is_same (ty_of base) r.1)) (fact (if unique then r.0 else not r.0))) typed.1.1.1 in
        let is_so = as_said wanted unique to r.0
        (sym (ap (option_and_then types.reference_in) (ap (type_at items) same ∙ e)) ∙ r.1.0) r.1.1.1 in
        record {
          own = ap not (no_param items b rise id (numbered_in (nodes_of b.block) borrow (o.all borrow (inl refl))));
          is_so = is_so;
          changes = wanted_changes wanted is_so;
          by = refl;
          of_type = λ listed.
              let t = listed_ty (local id) listed in
              let own = own_ty id at ty by (tree.Borrow unique base) want inside typed t.0 t.1 in
              ap (λ z. option_and_then (type_at items) (option_and_then (ty_along items []) z)) t.1
              ∙ ap (type_at items) (sym own.0 ∙ same) ∙ e;
        }

  -- ---- all arguments

  abbrev AllInside : Nodes → Type 0
  AllInside ns = (m : Node) → NodeIn (nodes_among ns) m → NodeIn (nodes_in (form_of b.block)) m

  own_node : (m : Node) → NodeIn (nodes_of m) m
  own_node (node id at ty by form) = inl refl

  pub all_fit : (ns : Nodes) (tys : List TyId) → AllInside ns → Around (nodes_among ns) →
      Holds (typing.arguments K tys ns) → AllFit items b also fuel block_rise ns
  all_fit no_node tys f o h = tt
  all_fit (a_node (node id at ty by form) rest) [] f o h = absurd (false≢true h)
  all_fit (a_node (node id at ty by form) rest) (want ∷ tys) f o h = (
    fit id at ty by form want (f (node id at ty by form) (inl refl)) h.0
        (o.all (node id at ty by form) (inl refl)),
    all_fit rest tys
        (λ m i. f m (Rattle.soundness_cells.proofs.PassCells.node_right (nodes_of (node id at ty by form)) (nodes_among rest)
        m i))
        (here.here_right items any_place Of aliases places x (nodes_of (node id at ty by form)) (nodes_among rest) o)
        h.1,
  )

  one_suits : (form : Form) (id : ℕ) (at : Pos) (ty : TyId) (by : Option Use) (want : TyId) →
      NodeIn (nodes_in (form_of b.block)) (node id at ty by form) →
      Holds (typing.typed K (Passed want) (node id at ty by form)) → Around (nodes_of (node id at ty by form)) →
      Told items any_place Of aliases (told_form aliases at form) → (wanted : Bool) (to : TyId) →
      type_at items want ≡ Some (reference_to items b wanted to) →
      Suits items b (named_form items b also fuel block_rise places id form).0 wanted to
      (named_form items b also fuel block_rise places id form).1
  one_suits (tree.Borrow unique base) id at ty by want i h o t wanted to e =
      borrow_suits id at ty by unique base want i h o t wanted to e
  one_suits form id at ty by want i h o t wanted to e = plain_suits id at ty by form want i h wanted to e refl

  as_wanted : (form : Form) (id : ℕ) (at : Pos) (ty : TyId) (by : Option Use) (want : TyId) →
      NodeIn (nodes_in (form_of b.block)) (node id at ty by form) →
      Holds (typing.typed K (Passed want) (node id at ty by form)) → Around (nodes_of (node id at ty by form)) →
      Told items any_place Of aliases (told_form aliases at form) → (wanted : Option Ty) → type_at items want ≡ wanted →
      SuitsAs items b (named_form items b also fuel block_rise places id form).0
      (named_form items b also fuel block_rise places id form).1 wanted
  as_wanted form id at ty by want i h o t (Some (Ty.Shared to)) e = one_suits form id at ty by want i h o t false to e
  as_wanted form id at ty by want i h o t (Some (Ty.Unique to)) e = one_suits form id at ty by want i h o t true to e
  as_wanted form id at ty by want i h o t None e = tt
  as_wanted form id at ty by want i h o t (Some wanted) e = tt

  pub all_suit : (ns : Nodes) (tys : List TyId) (as_ : List Argument) → Argued aliases ns as_ → AllInside ns →
      Around (nodes_among ns) → Holds (typing.arguments K tys ns) → AllTold items any_place Of aliases as_ →
      AllSuit items b tys (args_of items b also fuel block_rise places ns)
  all_suit no_node [] as_ k f o h t = tt
  all_suit no_node (want ∷ tys) as_ k f o h t = tt
  all_suit (a_node (node id at ty by form) rest) [] as_ k f o h t = absurd (false≢true h)
  all_suit (a_node (node id at ty by form) rest) (want ∷ tys) [] k f o h t = absurd k
  all_suit (a_node (node id at ty by form) rest) (want ∷ tys) (a ∷ as_) k f o h t = (
    as_wanted form id at ty by want (f (node id at ty by form) (inl refl)) h.0
        (here.here_left items any_place Of aliases places x (nodes_of (node id at ty by form)) (nodes_among rest) o)
        (here.told_left items any_place Of aliases (told_form aliases at form)
        (own_access (access_by by) (place_of aliases (node id at ty by form)) (root_of_form form) at)
        (subst (Told items any_place Of aliases) k.0.1 t.0)) (type_at items want) refl,
    all_suit rest tys as_ k.1
        (λ m i. f m (Rattle.soundness_cells.proofs.PassCells.node_right (nodes_of (node id at ty by form)) (nodes_among rest)
        m i))
        (here.here_right items any_place Of aliases places x (nodes_of (node id at ty by form)) (nodes_among rest) o)
        h.1 t.1,
  )
