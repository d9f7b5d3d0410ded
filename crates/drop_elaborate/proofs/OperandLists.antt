-- All operands of a raw line in turn: full values of their types, and addresses at which values may come still, since
-- no operand takes what a reference names that another operand uses.
use Rattle.std.proofs.Common.{◌≡◌, ◌⊎◌, inl, inr, ℕ, zero, suc, List, [], ◌∷◌, ◌++◌, map, flat_map, Option, Some, None, slice_get, Contains, refl, ap, sym, ◌∙◌, subst, append_assoc}
use Rattle.std.specs.Prelude.{option_and_then}
use Rattle.std.specs.Option.{option_map_or}
use Rattle.std.proofs.lemmas.Bool.{false≢true}
use Rattle.std.proofs.lemmas.Bool.Decides.{Decides-eqb}
use Rattle.std.proofs.lemmas.Option.{none-some}
use Rattle.mir_ty.proofs.ListLemmas.{slice_get-Contains, Contains-slice_get}
use Rattle.mir_ty.specs.declared.ty.TyId.{TyId}
use Rattle.mir_ty.specs.ItemTable.{ItemTable}
use Rattle.cfg_graph.specs.declared.graph.Body.{Body}
use Rattle.cfg_graph.specs.declared.place.Operand.{Operand}
use Rattle.cfg_graph.specs.declared.place.Place as graph
use Rattle.cfg_graph.specs.Moves.Actions.{at_line}
use Rattle.cfg_graph.specs.Moves.Gone.{PathAction}
use Rattle.cfg_graph.specs.Moves.Present.{present_after}
use Rattle.cfg_graph.specs.Places.{named}
use Rattle.cfg_graph.specs.Uses.{PlaceUse, operand_uses}
use Rattle.cfg_meaning.specs.Actions.{site_of, operand_of, operands_of}
use Rattle.store_model.specs.declared.address.Addr.{Addr}
use Rattle.store_model.specs.Concrete.Effects.{whole_at, evaluate_operand, evaluate_operands}
use Rattle.store_model.specs.Concrete.Location.{Setting, OfType, Located, stored_at}
use Rattle.store_model.specs.Concrete.State.{State}
use Rattle.store_model.specs.Values.Datum.{Datum, Gone, Number, Truth, UnitValue, Aggregate, Box, Address}
use Rattle.drop_values.specs.Like.{raw_setting}
use Rattle.drop_values.specs.Typed.{IsFull}
use Rattle.drop_values.proofs.Invariant.{RefersTo, to_older, to_own}
use Rattle.drop_values.proofs.Made.{AllFull}
use Rattle.drop_values.proofs.Touched.{AllNameFull, addresses_of}
use Rattle.drop_elaborate.proofs.Apart.{IsNamed}
use Rattle.drop_elaborate.proofs.Held.{Held, OpensAfter}
use Rattle.drop_elaborate.proofs.SinceMade.{IsLive}
use Rattle.drop_elaborate.proofs.Operands.{reads, OperandIs, copied, moved, a_number, a_truth, a_unit, OperandUsed, operand-Took}
use Rattle.drop_elaborate.proofs.OperandStays.{GivenBy as GivenByOf, Spares, no_more, given-still}

module _ (items : ItemTable) (local_ty : (body local : ℕ) → Option TyId) (number depth : ℕ) (body : Body)
    (addresses : List Addr) (before : State) (given : AllNameFull items local_ty before addresses)
    (locals_are : (k : ℕ) → local_ty number k ≡ slice_get body.locals k) where
  abbrev raw : Setting
  raw = raw_setting items local_ty

  abbrev HeldNow : List PathAction → State → Type 0
  HeldNow actions w = Held items local_ty number depth body addresses before given locals_are actions w

  abbrev OpensNow : List PathAction → State → Addr → Type 0
  OpensNow actions w b = OpensAfter items local_ty number depth body addresses before given locals_are actions w b

  abbrev Is : Operand → TyId → Type 0
  Is operand id = OperandIs items local_ty number depth body addresses before given locals_are operand id

  abbrev GivenBy : ℕ → List PathAction → State → Addr → Type 0
  GivenBy = GivenByOf items local_ty number depth body addresses before given locals_are

  abbrev After : ℕ → ℕ → List PathAction → Operand → List PathAction
  After n line actions operand = actions ++ at_line n line (operand_uses operand)

  -- ---- a list of them

  -- an operand that reads no place
  abbrev pub IsConstant : Operand → Type 0
  IsConstant (Operand.Copied place) = ⊥
  IsConstant (Operand.Moved place) = ⊥
  IsConstant (Operand.Number value kind) = Unit {0}
  IsConstant (Operand.Truth value) = Unit {0}
  IsConstant Operand.Unit = Unit {0}

  -- operands with the types of their values; that of a constant may be left open
  pub data OperandsAre : List Operand → List (Option TyId) → Type 0 where
    none_is : OperandsAre [] []
    each_is : (operand : Operand) (operands : List Operand) (id : TyId) (ids : List (Option TyId)) → Is operand id →
        OperandsAre operands ids → OperandsAre (operand ∷ operands) (Some id ∷ ids)
    any_is : (operand : Operand) (operands : List Operand) (ids : List (Option TyId)) → IsConstant operand →
        OperandsAre operands ids → OperandsAre (operand ∷ operands) (None ∷ ids)

  -- as many values as types, each full of its type, if it is known
  abbrev pub FullIf : List (Option TyId) → List Datum → Type 0
  FullIf [] [] = Unit {0}
  FullIf (Some id ∷ ids) (v ∷ vs) = IsFull items (OfType id) v × FullIf ids vs
  FullIf (None ∷ ids) (v ∷ vs) = FullIf ids vs
  FullIf [] (v ∷ vs) = ⊥
  FullIf (id ∷ ids) [] = ⊥

  pub all-full : (ids : List TyId) (vs : List Datum) → FullIf (map Some ids) vs → AllFull items ids vs
  all-full [] [] f = f
  all-full (id ∷ ids) (v ∷ vs) f = (f.0, all-full ids vs f.1)
  all-full [] (v ∷ vs) f = f
  all-full (id ∷ ids) [] f = f

  abbrev pub AllUsed : (n line : ℕ) → List PathAction → {operands : List Operand} {ids : List (Option TyId)} →
      OperandsAre operands ids → Type 0
  AllUsed n line actions {operands} {ids} none_is = Unit {0}
  AllUsed n line actions {operands} {ids} (each_is operand rest id others is are) =
      OperandUsed items local_ty number depth body addresses before given locals_are actions is
      × AllUsed n line (After n line actions operand) are
  AllUsed n line actions {operands} {ids} (any_is operand rest others constant are) =
      AllUsed n line (After n line actions operand) are

  abbrev pub AllSpare : ℕ → (n line : ℕ) → {operands : List Operand} {ids : List (Option TyId)} → OperandsAre operands
      ids →
      Type 0
  AllSpare r n line {operands} {ids} none_is = Unit {0}
  AllSpare r n line {operands} {ids} (each_is operand rest id others is are) =
      Spares items local_ty number depth body addresses before given locals_are r n line is × AllSpare r n line are
  AllSpare r n line {operands} {ids} (any_is operand rest others constant are) = AllSpare r n line are

  -- the local that an operand reads as a whole
  abbrev pub Reads : ℕ → Operand → Type 0
  Reads r (Operand.Copied place) = place.local ≡ r
  Reads r (Operand.Moved place) = place.local ≡ r
  Reads r (Operand.Number value kind) = ⊥
  Reads r (Operand.Truth value) = ⊥
  Reads r Operand.Unit = ⊥

  -- no operand takes what a reference names that one before it gave
  abbrev pub LineSpares : (n line : ℕ) → {operands : List Operand} {ids : List (Option TyId)} → OperandsAre operands
      ids → Type 0
  LineSpares n line {operands} {ids} none_is = Unit {0}
  LineSpares n line {operands} {ids} (each_is operand rest id others is are) =
      ((r : ℕ) → Reads r operand → AllSpare r n line are) × LineSpares n line are
  LineSpares n line {operands} {ids} (any_is operand rest others constant are) = LineSpares n line are

  -- an address that an operand gives is that of the reference which it reads
  pub record Origin (operand : Operand) (b : Addr) : Type 0 where
    pub local : ℕ
    pub reads_it : Reads local operand
    pub named_so : b.depth ≡ depth → IsNamed body local b

  origin-of : (actions : List PathAction) (w : State) (local : ℕ) (b : Addr) →
      RefersTo items local_ty number depth addresses before (IsNamed body) (IsLive body actions)
      (present_after items body actions) w local b → b.depth ≡ depth → IsNamed body local b
  origin-of actions w local b (to_older far within full) deep =
      absurd (false≢true (sym far ∙ (Decides-eqb b.depth depth).1 deep))
  origin-of actions w local b (to_own e named there) deep = named

  origin : (operand : Operand) (id : TyId) (is : Is operand id) (actions : List PathAction) (w : State) (v : Datum)
      (u : State) → OperandUsed items local_ty number depth body addresses before given locals_are actions is →
      HeldNow actions w → evaluate_operand raw (operand_of 0 operand) w ≡ Some (v, u) → (b : Addr) → v ≡ Address b →
      Origin operand b
  origin _ id (copied place _ ok) actions w v u used h e b eb = by (whole_at raw w (site_of 0 place)) refl e
    where
      by : (o : Option Located) → whole_at raw w (site_of 0 place) ≡ o →
          option_map_or {U = Option (Datum × State)} (λ s. Some (s.value, w)) o None ≡ Some (v, u) →
          Origin (Operand.Copied place) b
      by None eo e = absurd (none-some (v, u) e)
      by (Some s) eo e =
          let both : ◌≡◌ {A = Datum × State} (s.value, w) (v, u) = cc in
          let got = reads items local_ty number depth body addresses before given locals_are actions w 0
          (named place) id s
          ok used h eo in record {
            local = place.local;
            reads_it = refl;
            named_so = origin-of actions w place.local b
                (h.refers place.local b (got.from b (ap (λ (x : Datum × State). x.0) both ∙ eb)));
          }
  origin _ id (moved place _ start ok typed plain bodiless itself) actions w v u used h e b eb =
      by (whole_at raw w (site_of 0 place)) refl e
    where
      by : (o : Option Located) → whole_at raw w (site_of 0 place) ≡ o →
          option_map_or {U = Option (Datum × State)} (λ s. Some (s.value, stored_at s.address Gone w)) o None
          ≡ Some (v, u) → Origin (Operand.Moved place) b
      by None eo e = absurd (none-some (v, u) e)
      by (Some s) eo e =
          let both : ◌≡◌ {A = Datum × State} (s.value, stored_at s.address Gone w) (v, u) = cc in
          let got = reads items local_ty number depth body addresses before given locals_are actions w 0
          (named place) id s
          ok used h eo in record {
            local = place.local;
            reads_it = refl;
            named_so = origin-of actions w place.local b
                (h.refers place.local b (got.from b (ap (λ (x : Datum × State). x.0) both ∙ eb)));
          }
  origin _ id (a_number value kind _ is) actions w v u used h e b eb =
      let both : ◌≡◌ {A = Datum × State} (Number value, w) (v, u) = cc in
      absurd (let x : Number value ≡ Address b = ap (λ (x : Datum × State). x.0) both ∙ eb in cc)
  origin _ id (a_truth value _ is) actions w v u used h e b eb =
      let both : ◌≡◌ {A = Datum × State} (Truth value, w) (v, u) = cc in
      absurd (let x : Truth value ≡ Address b = ap (λ (x : Datum × State). x.0) both ∙ eb in cc)
  origin _ id (a_unit _ is) actions w v u used h e b eb =
      let both : ◌≡◌ {A = Datum × State} (UnitValue, w) (v, u) = cc in
      absurd (let x : UnitValue ≡ Address b = ap (λ (x : Datum × State). x.0) both ∙ eb in cc)

  -- what all of them give
  pub record TookAll (actions : List PathAction) (ids : List (Option TyId)) (w : State) (vs : List Datum) (u : State) :
      Type 0 where
    pub full : FullIf ids vs
    pub opened : (b : Addr) → Contains (addresses_of vs) b → OpensNow actions u b
    pub held_now : HeldNow actions u

  pub record EvaluatedAll (operand : Operand) (operands : List Operand) (w : State) (vs : List Datum) (u : State) :
      Type 0 where
    pub v : Datum
    pub mid : State
    pub rest : List Datum
    pub first : evaluate_operand raw (operand_of 0 operand) w ≡ Some (v, mid)
    pub others : evaluate_operands raw (operands_of 0 operands) mid ≡ Some (rest, u)
    pub all_are : vs ≡ v ∷ rest

  evaluated-all : (operand : Operand) (operands : List Operand) (w : State) (vs : List Datum) (u : State) →
      evaluate_operands raw (operands_of 0 (operand ∷ operands)) w ≡ Some (vs, u) → EvaluatedAll operand operands w vs u
  evaluated-all operand operands w vs u e = by (evaluate_operand raw (operand_of 0 operand) w) refl e
    where
      by : (o : Option (Datum × State)) → evaluate_operand raw (operand_of 0 operand) w ≡ o →
          option_and_then {U = List Datum × State} (λ (one : Datum × State). option_map_or
          {U = Option (List Datum × State)} (λ (rest : List Datum × State). Some (one.0 ∷ rest.0, rest.1))
          (evaluate_operands raw (operands_of 0 operands) one.1) None) o ≡ Some (vs, u) →
          EvaluatedAll operand operands w vs u
      by None eo e = absurd (none-some (vs, u) e)
      by (Some (v, mid)) eo e = of (evaluate_operands raw (operands_of 0 operands) mid) refl e
        where
          of : (o : Option (List Datum × State)) → evaluate_operands raw (operands_of 0 operands) mid ≡ o →
              option_map_or {U = Option (List Datum × State)} (λ (rest : List Datum × State). Some (v ∷ rest.0, rest.1))
              o None ≡ Some (vs, u) → EvaluatedAll operand operands w vs u
          of None er e = absurd (none-some (vs, u) e)
          of (Some (rest, last)) er e =
              let both : ◌≡◌ {A = List Datum × State} (v ∷ rest, last) (vs, u) = cc in record {
                v = v;
                mid = mid;
                rest = rest;
                first = eo;
                others = er ∙ ap (λ (x : List Datum × State). Some (rest, x.1)) both;
                all_are = ap (λ (x : List Datum × State). x.0) (sym both);
              }

  pub at_line-append : (n line : ℕ) (xs ys : List (PlaceUse × graph.Place)) →
      at_line n line (xs ++ ys) ≡ at_line n line xs ++ at_line n line ys
  at_line-append n line [] ys = refl
  at_line-append n line (x ∷ xs) ys =
      ap (λ l. (record { how = x.0; place = named x.1; block = n; line = line }) ∷ l) (at_line-append n line xs ys)

  abbrev pub UsesOf : ℕ → ℕ → List Operand → List PathAction
  UsesOf n line operands = at_line n line (flat_map operand_uses operands)

  after-all : (n line : ℕ) (actions : List PathAction) (operand : Operand) (operands : List Operand) →
      After n line actions operand ++ UsesOf n line operands ≡ actions ++ UsesOf n line (operand ∷ operands)
  after-all n line actions operand operands =
      append_assoc actions (at_line n line (operand_uses operand)) (UsesOf n line operands)
      ∙ ap (λ l. actions ++ l) (sym (at_line-append n line (operand_uses operand) (flat_map operand_uses operands)))

  -- a constant changes nothing
  record Constantly (operand : Operand) (w : State) (v : Datum) (u : State) : Type 0 where
    pub same : w ≡ u
    pub plain : (b : Addr) → v ≡ Address b → ⊥
    pub no_use : operand_uses operand ≡ []

  constant-gives : (operand : Operand) (w : State) (v : Datum) (u : State) → IsConstant operand →
      evaluate_operand raw (operand_of 0 operand) w ≡ Some (v, u) → Constantly operand w v u
  constant-gives (Operand.Copied place) w v u c e = absurd c
  constant-gives (Operand.Moved place) w v u c e = absurd c
  constant-gives (Operand.Number value kind) w v u c e =
      let both : ◌≡◌ {A = Datum × State} (Number value, w) (v, u) = cc in record {
        same = ap (λ (x : Datum × State). x.1) both;
        plain = λ b eb. absurd (let x : Number value ≡ Address b = ap (λ (x : Datum × State). x.0) both ∙ eb in cc);
        no_use = refl;
      }
  constant-gives (Operand.Truth value) w v u c e =
      let both : ◌≡◌ {A = Datum × State} (Truth value, w) (v, u) = cc in record {
        same = ap (λ (x : Datum × State). x.1) both;
        plain = λ b eb. absurd (let x : Truth value ≡ Address b = ap (λ (x : Datum × State). x.0) both ∙ eb in cc);
        no_use = refl;
      }
  constant-gives Operand.Unit w v u c e =
      let both : ◌≡◌ {A = Datum × State} (UnitValue, w) (v, u) = cc in record {
        same = ap (λ (x : Datum × State). x.1) both;
        plain = λ b eb. absurd (let x : UnitValue ≡ Address b = ap (λ (x : Datum × State). x.0) both ∙ eb in cc);
        no_use = refl;
      }

  -- what holds before it holds after it
  after-constant : (P : List PathAction → State → Type 0) (n line : ℕ) (actions : List PathAction) (operand : Operand)
      (w : State) (v : Datum) (u : State) → Constantly operand w v u → P actions w → P (After n line actions operand) u
  after-constant P n line actions operand w v u c p =
      subst (λ uses. P (actions ++ at_line n line uses) u) (sym c.no_use)
      (subst (λ l. P l u) (sym (no_more items local_ty number depth body addresses before given locals_are actions))
      (subst (P actions) c.same p))

  all-still : (n line : ℕ) {operands : List Operand} {ids : List (Option TyId)} (are : OperandsAre operands ids)
      (actions : List PathAction) (w : State) (vs : List Datum) (u : State) → AllUsed n line actions are →
      HeldNow actions w → evaluate_operands raw (operands_of 0 operands) w ≡ Some (vs, u) → (r : ℕ) →
      AllSpare r n line are → (b : Addr) → GivenBy r actions w b → GivenBy r (actions ++ UsesOf n line operands) u b
  all-still n line none_is actions w vs u used h e r s b x =
      let both : ◌≡◌ {A = List Datum × State} ([], w) (vs, u) = cc in
      subst (λ l. GivenBy r l u b) (sym (no_more items local_ty number depth body addresses before given locals_are
      actions))
      (subst (λ u. GivenBy r actions u b) (ap (λ (x : List Datum × State). x.1) both) x)
  all-still n line (each_is operand operands id ids is are) actions w vs u used h e r s b x =
      let k = evaluated-all operand operands w vs u e in
      let t = operand-Took items local_ty number depth body addresses before given locals_are n
      line operand id is actions w
      k.v k.mid used.0 h k.first in
      subst (λ l. GivenBy r l u b) (after-all n line actions operand operands)
      (all-still n line are (After n line actions operand) k.mid k.rest u used.1 t.held_now k.others r s.1 b
      (given-still items local_ty number depth body addresses before given locals_are n line operand id is actions w k.v
      k.mid used.0 h k.first r s.0 b x))
  all-still n line (any_is operand operands ids constant are) actions w vs u used h e r s b x =
      let k = evaluated-all operand operands w vs u e in
      let c = constant-gives operand w k.v k.mid constant k.first in
      subst (λ l. GivenBy r l u b) (after-all n line actions operand operands)
      (all-still n line are (After n line actions operand) k.mid k.rest u used
      (after-constant HeldNow n line actions operand w k.v k.mid c h) k.others r s b
      (after-constant (λ l v. GivenBy r l v b) n line actions operand w k.v k.mid c x))

  -- an address among those of the arguments is the first's, or one of the others'
  among-more : (v : Datum) (rest : List Datum) (b : Addr) → Contains (addresses_of (v ∷ rest)) b →
      (v ≡ Address b) ⊎ Contains (addresses_of rest) b
  among-more (Address a) rest b c = by c.0 (slice_get-Contains (a ∷ addresses_of rest) b c)
    where
      by : (k : ℕ) → slice_get (a ∷ addresses_of rest) k ≡ Some b →
          (Address a ≡ Address b) ⊎ Contains (addresses_of rest) b
      by zero e = inl (ap Address (let x : a ≡ b = cc in x))
      by (suc k) e = inr (Contains-slice_get (addresses_of rest) k b e)
  among-more other rest b c = inr c

  -- all operands of a line give full values of their types, and addresses at which values may come still
  pub operands-Took : (n line : ℕ) {operands : List Operand} {ids : List (Option TyId)} (are : OperandsAre operands ids)
      (actions : List PathAction) (w : State) (vs : List Datum) (u : State) → AllUsed n line actions are →
      LineSpares n line are → HeldNow actions w → evaluate_operands raw (operands_of 0 operands) w ≡ Some (vs, u) →
      TookAll (actions ++ UsesOf n line operands) ids w vs u
  operands-Took n line none_is actions w vs u used s h e =
      let both : ◌≡◌ {A = List Datum × State} ([], w) (vs, u) = cc in
      subst (λ l. TookAll l [] w vs u) (sym (no_more items local_ty number depth body addresses before given locals_are
      actions))
      (subst (λ vs. TookAll actions [] w vs u) (ap (λ (x : List Datum × State). x.0) both)
      (subst (TookAll actions [] w []) (ap (λ (x : List Datum × State). x.1) both) (record {
        full = tt;
        opened = λ b c. absurd (no-member b c);
        held_now = h;
      })))
    where
      no-member : (b : Addr) → Contains (addresses_of []) b → ⊥
      no-member b c = none-some b (slice_get-Contains (addresses_of []) b c)
  operands-Took n line (each_is operand operands id ids is are) actions w vs u used s h e =
      let k = evaluated-all operand operands w vs u e in
      let t = operand-Took items local_ty number depth body addresses before given locals_are n
      line operand id is actions w
      k.v k.mid used.0 h k.first in
      let r = operands-Took n line are (After n line actions operand) k.mid k.rest u used.1 s.1 t.held_now k.others in
      subst (λ l. TookAll l (Some id ∷ ids) w vs u) (after-all n line actions operand operands)
      (subst (λ vs. TookAll (After n line actions operand ++ UsesOf n line operands) (Some id ∷ ids) w vs u) (sym
      k.all_are)
      (record {
        full = (t.full, r.full);
        opened = λ b c. elim (among-more k.v k.rest b c) [
          | inr x ↦ r.opened b x
          | inl x ↦ (let o = origin operand id is actions w k.v k.mid used.0 h k.first b x in
              (all-still n line are (After n line actions operand) k.mid k.rest u used.1 t.held_now k.others o.local
              (s.0 o.local o.reads_it) b (record { opened = t.opened b x; named_so = o.named_so })).opened)
        ];
        held_now = r.held_now;
      }))
  operands-Took n line (any_is operand operands ids constant are) actions w vs u used s h e =
      let k = evaluated-all operand operands w vs u e in
      let c = constant-gives operand w k.v k.mid constant k.first in
      let r = operands-Took n line are (After n line actions operand) k.mid k.rest u used s
      (after-constant HeldNow n line actions operand w k.v k.mid c h) k.others in
      subst (λ l. TookAll l (None ∷ ids) w vs u) (after-all n line actions operand operands)
      (subst (λ vs. TookAll (After n line actions operand ++ UsesOf n line operands) (None ∷ ids) w vs u) (sym
      k.all_are)
      (record {
        full = r.full;
        opened = λ b m. elim (among-more k.v k.rest b m) [ inr x ↦ r.opened b x | inl x ↦ absurd (c.plain b x) ];
        held_now = r.held_now;
      }))
