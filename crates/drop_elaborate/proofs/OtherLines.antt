-- What holds of a raw run is kept by the lines that store nothing, touch and print, and by the one that makes a box
-- of a trait; and which types the run finds for places and operands.
use Rattle.std.proofs.Common.{◌≡◌, ℕ, ◌==◌, ◌&&◌, Bool, true, false, List, [], ◌∷◌, ◌++◌, flat_map, Option, Some, None, slice_get, refl, ap, sym, ◌∙◌, subst}
use Rattle.std.specs.Prelude.{option_and_then, position}
use Rattle.std.specs.Option.{option_map_or}
use Rattle.std.specs.Cmp.{first_so, second_so}
use Rattle.std.proofs.lemmas.Bool.{false≢true}
use Rattle.std.proofs.lemmas.Bool.Decides.{Decides-eqb}
use Rattle.std.proofs.lemmas.List.Quantifiers.{position-Some}
use Rattle.std.proofs.lemmas.Option.{none-some, slice_get-get_or}
use Rattle.mir_base.specs.declared.trace.Event.{Event}
use Rattle.mir_ty.specs.declared.def.ImplDef.{ImplDef}
use Rattle.mir_ty.specs.declared.ty.Ty.{Ty}
use Rattle.mir_ty.specs.declared.ty.TyId.{TyId}
use Rattle.mir_ty.specs.ItemTable.{ItemTable, type_at}
use Rattle.cfg_graph.specs.declared.graph.Body.{Body}
use Rattle.cfg_graph.specs.declared.place.Operand.{Operand}
use Rattle.cfg_graph.specs.declared.place.Place as graph
use Rattle.cfg_graph.specs.declared.statement.Stmt.{Stmt}
use Rattle.cfg_graph.specs.Moves.Actions.{at_line}
use Rattle.cfg_graph.specs.Moves.Gone.{PathAction}
use Rattle.cfg_graph.specs.Places as places
use Rattle.cfg_graph.specs.Places.{named}
use Rattle.cfg_graph.specs.Uses.{Touches, operand_uses, stmt_uses}
use Rattle.cfg_meaning.specs.Actions.{site_of, operand_of}
use Rattle.store_model.specs.declared.address.Addr.{Addr}
use Rattle.store_model.specs.Concrete.Effects.{or_stuck, whole_at, with_impl, impl_of, impl_boxed, impl_put, printed, ty_of_place, ty_of_operand, never_at, acted, act}
use Rattle.store_model.specs.Concrete.Location.{Setting, OfType, Located, adt_of_impl}
use Rattle.store_model.specs.Concrete.State.{State, Bodies, with_event}
use Rattle.store_model.specs.Effects as effects
use Rattle.store_model.specs.Effects.{Out, Go, Halts, Stuck}
use Rattle.store_model.specs.Places.Place.{ty_along}
use Rattle.store_model.specs.Places.TypeForms.{adt_of, box_content, is_dyn, is_dyn_of}
use Rattle.store_model.specs.Values.Datum.{Datum, Gone, Number, Truth, UnitValue, Aggregate, Box, Address}
use Rattle.drop_values.specs.Like.{raw_setting}
use Rattle.drop_values.specs.Typed.{has_impl, IsFull}
use Rattle.drop_values.proofs.Actions.{youngest_is}
use Rattle.drop_values.proofs.Made.{object-full}
use Rattle.drop_values.proofs.Touched.{SameCells, same_cells, AllNameFull}
use Rattle.drop_elaborate.proofs.Held.{Held, read-Held}
use Rattle.drop_elaborate.proofs.OperandLists.{OperandsAre}
use Rattle.drop_elaborate.proofs.StatementsHeld.{went-on, one-taken, one-of-list, told-cells, Operated, StoreOk, line-Held, quiet-Held, put-if}

-- where the first that passes stands
pub found-at : {X : Type 0} (p : X → Bool) (xs : List X) (i : ℕ) → position p xs ≡ Some i →
    (x : X) × (slice_get xs i ≡ Some x) × (p x ≡ true)
found-at p [] i e = absurd (none-some i e)
found-at p (x ∷ xs) i e =
    let h = position-Some p (x ∷ xs) i x e in
    (_, slice_get-get_or (x ∷ xs) i x h.0, h.1)

-- it is one of the trait
pub impl-of-trait : (items : ItemTable) (trait_no adt impl_no : ℕ) (content : TyId) →
    impl_of items trait_no adt ≡ Some impl_no → is_dyn_of trait_no (type_at items content) ≡ true →
    has_impl items (type_at items content) (Some impl_no) ≡ true
impl-of-trait items trait_no adt impl_no content e d =
    let h = found-at (λ (impl : ImplDef). (impl.trait_no == trait_no) && (impl.adt == adt)) items.impls impl_no e in
    ap (λ o. option_map_or (λ (impl : ImplDef). is_dyn_of impl.trait_no (type_at items content)) o false) h.1
    ∙ ap (λ k. is_dyn_of k (type_at items content)) ((Decides-eqb h.0.trait_no trait_no).0
    (first_so (h.0.trait_no == trait_no) (h.0.adt == adt) h.2)) ∙ d

-- the impl that is found for a struct or an enum is one of it
pub impl-of-adt : (items : ItemTable) (trait_no adt impl_no : ℕ) → impl_of items trait_no adt ≡ Some impl_no →
    adt_of_impl items impl_no ≡ Some adt
impl-of-adt items trait_no adt impl_no e =
    let h = found-at (λ (impl : ImplDef). (impl.trait_no == trait_no) && (impl.adt == adt)) items.impls impl_no e in
    ap (λ o. option_map_or (λ (impl : ImplDef). Some impl.adt) o None) h.1
    ∙ ap Some ((Decides-eqb h.0.adt adt).0 (second_so (h.0.trait_no == trait_no) (h.0.adt == adt) h.2))

-- a `dyn` type of a trait is one
of-dyn : (trait_no : ℕ) (o : Option Ty) → is_dyn_of trait_no o ≡ true → is_dyn o ≡ true
of-dyn trait_no None h = absurd (false≢true h)
of-dyn trait_no (Some (Ty.Dyn n)) h = refl
of-dyn trait_no (Some other) h = absurd (false≢true h)

module _ (items : ItemTable) (local_ty : (body local : ℕ) → Option TyId) (number depth : ℕ) (body : Body)
    (addresses : List Addr) (before : State) (given : AllNameFull items local_ty before addresses)
    (locals_are : (k : ℕ) → local_ty number k ≡ slice_get body.locals k) where
  abbrev raw : Setting
  raw = raw_setting items local_ty

  abbrev HeldNow : List PathAction → State → Type 0
  HeldNow actions w = Held items local_ty number depth body addresses before given locals_are actions w

  abbrev Are : List Operand → List (Option TyId) → Type 0
  Are operands ids = OperandsAre items local_ty number depth body addresses before given locals_are operands ids

  abbrev OperatedHere : (n line : ℕ) (actions : List PathAction) {operands : List Operand} {ids : List (Option TyId)} →
      Are operands ids → Type 0
  OperatedHere n line actions {operands} {ids} are =
      Operated items local_ty number depth body addresses before given locals_are n line actions are

  abbrev Stored : (n line : ℕ) → List PathAction → graph.Place → TyId → Type 0
  Stored n line actions place id =
      StoreOk items local_ty number depth body addresses before given locals_are n line actions place id

  -- ---- types

  -- the type that the run finds for a place is the one that it has in the body
  pub place-type : (actions : List PathAction) (w : State) → HeldNow actions w → (place : graph.Place) →
      ty_of_place raw w (site_of 0 place) ≡ places.ty_of_place items body.locals place
  place-type actions w h place =
      ap (λ o. option_and_then (type_at items) (option_and_then (ty_along items (named place).steps) o))
      (ap (option_and_then (λ body. local_ty body place.local))
      (youngest_is items local_ty local_ty (λ body local id e. e) (λ d k. Gone) depth number w h.knows.deep
      h.knows.number_is) ∙ locals_are place.local)

  pub operand-type : (actions : List PathAction) (w : State) → HeldNow actions w → (operand : Operand) →
      ty_of_operand raw w (operand_of 0 operand) ≡ places.ty_of_operand items body.locals operand
  operand-type actions w h (Operand.Copied place) = place-type actions w h place
  operand-type actions w h (Operand.Moved place) = place-type actions w h place
  operand-type actions w h (Operand.Number value kind) = refl
  operand-type actions w h (Operand.Truth value) = refl
  operand-type actions w h Operand.Unit = refl

  -- ---- lines

  module _ (run : Bodies) (n line : ℕ) (actions : List PathAction) (w x : State) (h : HeldNow actions w) where
    -- a place that is only looked at
    pub touch-line : (place : graph.Place) → act raw run (effects.Touch (site_of 0 place)) w ≡ Go x →
        HeldNow (actions ++ at_line n line (stmt_uses (Stmt.Touch place))) x
    touch-line place e = by (whole_at raw w (site_of 0 place)) refl e
      where
        action : PathAction
        action = record { how = Touches; place = named place; block = n; line = line }

        by : (o : Option Located) → whole_at raw w (site_of 0 place) ≡ o →
            or_stuck {A = Located} o (λ s. Go w) w ≡ Go x → HeldNow (actions ++ action ∷ []) x
        by None eo e = absurd (let y : Halts Stuck w ≡ Go x = e in cc)
        by (Some s) eo e =
            let same : w ≡ x = (let y : Go w ≡ Go x = e in cc) in
            subst (HeldNow (actions ++ action ∷ [])) same
            (read-Held items local_ty number depth body addresses before given locals_are actions action w w refl
            (λ r. refl) (same_cells w) h)

    -- a number is printed
    pub print-line : (operand : Operand) (id : Option TyId) (is : Are (operand ∷ []) (id ∷ [])) →
        OperatedHere n line actions is → act raw run (effects.Print (operand_of 0 operand)) w ≡ Go x →
        HeldNow (actions ++ at_line n line (stmt_uses (Stmt.Print operand))) x
    print-line operand id is o e =
        let t = one-taken raw (operand_of 0 operand) w (printed raw) x e in
        quiet-Held items local_ty number depth body addresses before given locals_are n line actions is o w x (t.v ∷ [])
        t.u h (one-of-list raw (operand_of 0 operand) w t.v t.u t.gives) (told t.v t.u t.then_does)
      where
        told : (v : Datum) (u : State) → printed raw v u ≡ Go x → SameCells u x
        told (Number number) u e =
            subst (SameCells u) (let y : Go (with_event (Event.Printed number) u) ≡ Go x = e in
            let z : with_event (Event.Printed number) u ≡ x = cc in z) (told-cells raw (Event.Printed number) u)
        told other u e = absurd (let y : Halts Stuck u ≡ Go x = e in cc)

    -- what a box becomes by the impl that is found for its content
    record Objected (v : Datum) (inner : Option ℕ) (trait_no : ℕ) (d : Datum) : Type 0 where
      pub adt : ℕ
      pub impl_no : ℕ
      pub serial : ℕ
      pub other : Option ℕ
      pub inside : Datum
      pub inner_is : inner ≡ Some adt
      pub impl_is : impl_of items trait_no adt ≡ Some impl_no
      pub value_is : v ≡ Box serial other inside
      pub is : d ≡ Box serial (Some impl_no) inside

    objected : (v : Datum) (inner : Option ℕ) (trait_no : ℕ) (d : Datum) →
        option_and_then (λ n. with_impl n v) (option_and_then (impl_of items trait_no) inner) ≡ Some d →
        Objected v inner trait_no d
    objected v None trait_no d e = absurd (none-some d e)
    objected v (Some adt) trait_no d e = by (impl_of items trait_no adt) refl e
      where
        with-it : (v : Datum) (impl_no : ℕ) → impl_of items trait_no adt ≡ Some impl_no →
            with_impl impl_no v ≡ Some d → Objected v (Some adt) trait_no d
        with-it (Box serial other inside) impl_no i e = record {
          adt = adt;
          impl_no = impl_no;
          serial = serial;
          other = other;
          inside = inside;
          inner_is = refl;
          impl_is = i;
          value_is = refl;
          is = (let y : Some (Box serial (Some impl_no) inside) ≡ Some d = e in
              let z : Box serial (Some impl_no) inside ≡ d = cc in sym z);
        }
        with-it Gone impl_no i e = absurd (none-some d e)
        with-it (Number x) impl_no i e = absurd (none-some d e)
        with-it (Truth x) impl_no i e = absurd (none-some d e)
        with-it UnitValue impl_no i e = absurd (none-some d e)
        with-it (Aggregate x y z) impl_no i e = absurd (none-some d e)
        with-it (Address x) impl_no i e = absurd (none-some d e)

        by : (o : Option ℕ) → impl_of items trait_no adt ≡ o → option_and_then (λ n. with_impl n v) o ≡ Some d →
            Objected v (Some adt) trait_no d
        by None i e = absurd (none-some d e)
        by (Some impl_no) i e = with-it v impl_no i e

    adt-of-is : (o : Option Ty) (n : ℕ) → adt_of o ≡ Some n → o ≡ Some (Ty.Adt n)
    adt-of-is None n e = absurd (none-some n e)
    adt-of-is (Some (Ty.Adt m)) n e = ap (λ k. Some (Ty.Adt k)) (let y : Some m ≡ Some n = e in cc)
    adt-of-is (Some other) n e = absurd (none-some n e)

    -- a box becomes one of a trait
    pub unsize-line : (to : graph.Place) (trait_no : ℕ) (from : Operand) (id content start inner : TyId)
        (is : Are (from ∷ []) (Some start ∷ [])) → OperatedHere n line actions is →
        Stored n line (actions ++ at_line n line (flat_map operand_uses (from ∷ []))) to id →
        places.ty_of_operand items body.locals from ≡ type_at items start →
        type_at items id ≡ Some (Ty.Boxed content) → is_dyn_of trait_no (type_at items content) ≡ true →
        type_at items start ≡ Some (Ty.Boxed inner) →
        act raw run (effects.Unsize (site_of 0 to) trait_no (operand_of 0 from)) w ≡ Go x →
        HeldNow (actions ++ at_line n line (stmt_uses (Stmt.Unsize to trait_no from))) x
    unsize-line to trait_no from id content start inner is o s typed t d f e =
        let impl_no = impl_boxed raw trait_no w (operand_of 0 from) in
        let k = one-taken raw (operand_of 0 from) w (impl_put raw (site_of 0 to) impl_no) x (went-on
        (effects.stores_where (never_at raw w) (effects.Unsize (site_of 0 to) trait_no (operand_of 0 from))) Stuck
        (acted raw run (effects.Unsize (site_of 0 to) trait_no (operand_of 0 from)) w) x e) in
        let p = put-if items local_ty number depth body addresses before given locals_are (site_of 0 to)
        (option_and_then (λ n. with_impl n k.v) impl_no) k.u x k.then_does in
        let found : impl_no ≡ option_and_then (impl_of items trait_no) (adt_of (type_at items inner)) =
        ap (λ o. option_and_then (impl_of items trait_no) (adt_of (option_and_then (type_at items) (box_content o))))
        (operand-type actions w h from ∙ typed ∙ f) in
        let b = objected k.v (adt_of (type_at items inner)) trait_no p.value
        (ap (option_and_then (λ n. with_impl n k.v)) (sym found) ∙ p.is) in
        line-Held items local_ty number depth body addresses before given locals_are n line actions is to id o s w x
        (k.v ∷ []) k.u k.u x p.value h (one-of-list raw (operand_of 0 from) w k.v k.u k.gives)
        (λ full. subst (IsFull items (OfType id)) (sym b.is)
        (object-full items id start content inner b.adt b.impl_no b.serial b.other b.inside t
        (of-dyn trait_no (type_at items content) d) f
        (adt-of-is (type_at items inner) b.adt b.inner_is) (impl-of-adt items trait_no b.adt b.impl_no b.impl_is)
        (impl-of-trait items trait_no b.adt b.impl_no content b.impl_is d)
        (subst (IsFull items (OfType start)) b.value_is full.0)))
        (same_cells k.u) p.stores (same_cells x)
