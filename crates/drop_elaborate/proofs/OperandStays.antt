-- The address that an operand of a line gave names what it named, and as much, while the next operand is evaluated.
use Rattle.std.proofs.Common.{◌≡◌, ◌⊎◌, inl, inr, ℕ, ◌==◌, Bool, true, false, List, [], ◌∷◌, ◌++◌, Option, Some, None, slice_get, refl, ap, sym, ◌∙◌, subst}
use Rattle.std.specs.Option.{option_map_or}
use Rattle.std.proofs.lemmas.Bool.Decides.{Decides-eqb}
use Rattle.std.proofs.lemmas.Option.{none-some}
use Rattle.mir_ty.specs.declared.ty.TyId.{TyId}
use Rattle.mir_ty.specs.ItemTable.{ItemTable}
use Rattle.cfg_graph.specs.declared.graph.Body.{Body}
use Rattle.cfg_graph.specs.declared.place.Operand.{Operand}
use Rattle.cfg_graph.specs.Moves.Actions.{at_line}
use Rattle.cfg_graph.specs.Moves.Gone.{PathAction, reaches_whole}
use Rattle.cfg_graph.specs.Moves.Present.{present_after}
use Rattle.cfg_graph.specs.NamedPlaces.{references_made, named_by, spares}
use Rattle.cfg_graph.specs.Places.{named}
use Rattle.cfg_graph.specs.Uses.{Copies, Moves, operand_uses}
use Rattle.cfg_meaning.specs.Actions.{site_of, operand_of}
use Rattle.store_model.specs.declared.address.Addr.{Addr}
use Rattle.store_model.specs.Concrete.Effects.{whole_at, evaluate_operand}
use Rattle.store_model.specs.Concrete.Location.{Setting, Located, stored_at}
use Rattle.store_model.specs.Concrete.State.{State}
use Rattle.store_model.specs.Places.Place.{watched}
use Rattle.store_model.specs.Values.Datum.{Datum, Gone, Number, Truth, UnitValue}
use Rattle.drop_values.specs.Like.{raw_setting}
use Rattle.drop_values.proofs.Knows.{Own, own_place}
use Rattle.drop_values.proofs.Staying.{Diverge}
use Rattle.drop_values.proofs.Stand.{stored-Changed, stands-known}
use Rattle.drop_values.proofs.Touched.{AllNameFull}
use Rattle.drop_elaborate.proofs.Apart.{IsNamed, spared-apart, way-runs}
use Rattle.drop_elaborate.proofs.Held.{plain-counts, Held, OpensAfter, not-named, own-opens, read-opens}
use Rattle.drop_elaborate.proofs.Operands.{used-at, reads, OperandIs, copied, moved, a_number, a_truth, a_unit, OperandUsed}

module _ (items : ItemTable) (local_ty : (body local : ℕ) → Option TyId) (number depth : ℕ) (body : Body)
    (addresses : List Addr) (before : State) (given : AllNameFull items local_ty before addresses)
    (locals_are : (k : ℕ) → local_ty number k ≡ slice_get body.locals k) where
  abbrev raw : Setting
  raw = raw_setting items local_ty

  abbrev HeldNow : List PathAction → State → Type 0
  HeldNow actions w = Held items local_ty number depth body addresses before given locals_are actions w

  abbrev OpensNow : List PathAction → State → Addr → Type 0
  OpensNow actions w b = OpensAfter items local_ty number depth body addresses before given locals_are actions w b

  abbrev Is : Operand → TyId → Type 0
  Is operand id = OperandIs items local_ty number depth body addresses before given locals_are operand id

  -- an address that a use of this reference gave: what an action of the line spares for it does not take it
  pub record GivenBy (r : ℕ) (actions : List PathAction) (w : State) (b : Addr) : Type 0 where
    pub opened : OpensNow actions w b
    pub named_so : b.depth ≡ depth → IsNamed body r b

  -- an operand spares what the references name that were used before it
  abbrev pub Spares : ℕ → (n line : ℕ) → {operand : Operand} {id : TyId} → Is operand id → Type 0
  Spares r n line {operand} {id} (moved place end start ok typed plain bodiless itself) =
      (named_by r (references_made body) ≡ None)
      ⊎ (spares body r (record { how = Moves; place = named place; block = n; line = line }) ≡ true)
  Spares r n line {operand} {id} (copied place end ok) = Unit {0}
  Spares r n line {operand} {id} (a_number value kind end is) = Unit {0}
  Spares r n line {operand} {id} (a_truth value end is) = Unit {0}
  Spares r n line {operand} {id} (a_unit end is) = Unit {0}

  pub no_more : (actions : List PathAction) → actions ++ [] ≡ actions
  no_more [] = refl
  no_more (action ∷ actions) = ap (λ l. action ∷ l) (no_more actions)

  abbrev After : ℕ → ℕ → List PathAction → Operand → List PathAction
  After n line actions operand = actions ++ at_line n line (operand_uses operand)

  abbrev Gives : Type 0
  Gives = Option (Datum × State)

  constant-still : (actions : List PathAction) (d v : Datum) (w u : State) (r : ℕ) (b : Addr) →
      ◌≡◌ {A = Option (Datum × State)} (Some (d, w)) (Some (v, u)) → GivenBy r actions w b →
      GivenBy r (actions ++ []) u b
  constant-still actions d v w u r b e x =
      let both : ◌≡◌ {A = Datum × State} (d, w) (v, u) = cc in
      subst (λ l. GivenBy r l u b) (sym (no_more actions))
      (subst (λ u. GivenBy r actions u b) (ap (λ (x : Datum × State). x.1) both) x)

  -- what another operand gave before is as open as it was
  pub given-still : (n line : ℕ) (operand : Operand) (id : TyId) (is : Is operand id) (actions : List PathAction)
      (w : State) (v : Datum) (u : State) → OperandUsed items local_ty number depth body addresses
      before given locals_are
      actions is → HeldNow actions w →
      evaluate_operand raw (operand_of 0 operand) w ≡ Some (v, u) → (r : ℕ) → Spares r n line is → (b : Addr) →
      GivenBy r actions w b → GivenBy r (After n line actions operand) u b
  given-still n line _ id (copied place _ ok) actions w v u used h e r s b x =
      by (whole_at raw w (site_of 0 place)) refl e
    where
      by : (o : Option Located) → whole_at raw w (site_of 0 place) ≡ o →
          option_map_or {U = Option (Datum × State)} (λ s. Some (s.value, w)) o None ≡ Some (v, u) →
          GivenBy r (After n line actions (Operand.Copied place)) u b
      by None eo e = absurd (none-some (v, u) e)
      by (Some s) eo e =
          let both : ◌≡◌ {A = Datum × State} (s.value, w) (v, u) = cc in
          subst (λ u. GivenBy r (After n line actions (Operand.Copied place)) u b)
          (ap (λ (x : Datum × State). x.1) both) (record {
            opened = read-opens items local_ty number depth body addresses before given locals_are actions
                (record {
                  how =
                      Copies;
                  place = named place;
                  block = n;
                  line = line;
                }) w refl b x.opened;
            named_so = x.named_so;
          })
  given-still n line _ id (moved place _ start ok typed plain bodiless itself) actions w v u used h e r spared b x =
      by (whole_at raw w (site_of 0 place)) refl e
    where
      action : PathAction
      action = record { how = Moves; place = named place; block = n; line = line }

      by : (o : Option Located) → whole_at raw w (site_of 0 place) ≡ o →
          option_map_or {U = Option (Datum × State)} (λ s. Some (s.value, stored_at s.address Gone w)) o None
          ≡ Some (v, u) → GivenBy r (actions ++ action ∷ []) u b
      by None eo e = absurd (none-some (v, u) e)
      by (Some s) eo e =
          let got = reads items local_ty number depth body addresses before given locals_are actions w 0
          (named place) id s
          ok used h eo in
          let at = used-at raw w (site_of 0 place) s eo in
          let both : ◌≡◌ {A = Datum × State} (s.value, stored_at s.address Gone w) (v, u) = cc in
          let o = own_place raw number depth (present_after items body actions) w (named place) start id s h.knows typed
          plain at.reached in
          let c = stored-Changed s.address Gone w (stands-known raw w s got.lands_at.stands) in
          subst (λ u. GivenBy r (actions ++ action ∷ []) u b) (ap (λ (x : Datum × State). x.1) both) (record {
            opened = own-opens items local_ty number depth body addresses before given locals_are actions action w
                (stored_at s.address Gone w) start id s Gone true (ap (λ x. reaches_whole (watched items x
                (named place).steps)) (sym (locals_are place.local) ∙ typed) ∙ plain-counts items (named place).steps
                start id plain) refl typed o c b
                (λ deep key. inr (still s o deep key (r == place.local) refl)) x.opened;
            named_so = x.named_so;
          })
        where
          still : (s : Located) (o : Own raw number depth w (named place) s start id) → b.depth ≡ depth →
              b.key.0 ≡ place.local → (y : Bool) → (r == place.local) ≡ y → Diverge o.arrives.path b.path
          still s o deep key true n =
              absurd (not-named items local_ty number depth body addresses before given locals_are r b
              (ap (λ k. named_by k (references_made body)) ((Decides-eqb r place.local).0 n ∙ sym key)
              ∙ (x.named_so deep).rooted) (x.named_so deep))
          still s o deep key false n = elim spared [
            | inl none ↦ absurd (not-named items local_ty number depth body addresses before given locals_are r b none
                (x.named_so deep))
            | inr one ↦ spared-apart body r b action o.arrives.path one refl itself n (x.named_so deep) key
                (way-runs o.arrives.way)
          ]
  given-still n line _ id (a_number value kind _ is) actions w v u used h e r s b x =
      constant-still actions (Number value) v w u r b e x
  given-still n line _ id (a_truth value _ is) actions w v u used h e r s b x =
      constant-still actions (Truth value) v w u r b e x
  given-still n line _ id (a_unit _ is) actions w v u used h e r s b x = constant-still actions UnitValue v w u r b e x
