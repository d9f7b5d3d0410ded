-- What is known of a raw run as a body begins: each parameter holds a full value, each other local nothing, and what a
-- reference names is full and lies in an older activation.
use Rattle.std.proofs.Common.{◌≡◌, inl, inr, ℕ, zero, suc, ◌+◌, ◌<◌, ◌==◌, nat_lt, nat_le, Bool, true, false, List, [], ◌∷◌, take, length, Option, Some, if◌then◌else◌, slice_get, Contains, refl, ap, sym, ◌∙◌, subst, arith}
use Rattle.std.specs.Option.{option_map_or, option_and_then}
use Rattle.std.specs.Cmp.{first_so, second_so}
use Rattle.std.specs.Cmp.Derive.{both_true}
use Rattle.std.proofs.lemmas.Bool.{false≢true, ltb-true, leb-true, lt-ltb, le-leb}
use Rattle.std.proofs.lemmas.Bool.Decides.{Decides-eqb, eqb_tells}
use Rattle.std.proofs.lemmas.List.{append-nil}
use Rattle.std.proofs.lemmas.Option.{none-some}
use Rattle.mir_base.specs.declared.trace.Event.{Event}
use Rattle.mir_ty.proofs.ListLemmas.{slice_get-Contains, Contains-slice_get}
use Rattle.mir_ty.specs.declared.def.Sig.{Sig}
use Rattle.mir_ty.specs.declared.ty.TyId.{TyId}
use Rattle.mir_ty.specs.ItemTable.{ItemTable}
use Rattle.cfg_graph.specs.declared.graph.Body.{Body}
use Rattle.cfg_graph.specs.declared.graph.Graph.{Graph}
use Rattle.cfg_graph.specs.Moves.Gone.{is_param}
use Rattle.cfg_graph.specs.Moves.Present.{present_at_start}
use Rattle.cfg_graph.specs.WellFormed.Faults.{IsWellFormed}
use Rattle.cfg_graph.specs.WellFormed.LineFaults.{is_sig_of, has_sig}
use Rattle.cfg_meaning.specs.Programs.{arguments_from}
use Rattle.store_model.specs.declared.address.Addr.{Addr}
use Rattle.store_model.specs.Abstract.Presence.{is_present, is_gone}
use Rattle.store_model.specs.Concrete.Location.{OfType, located_at}
use Rattle.store_model.specs.Concrete.State.{State, Activation, cell, at_depth, with_event, with_activation}
use Rattle.store_model.specs.Places.TypeForms.{same_ids}
use Rattle.store_model.specs.Values.Datum.{Datum, Gone, Number, Truth, UnitValue, Aggregate, Box, Address}
use Rattle.drop_values.specs.Like.{held, held_by, body_of, raw_setting}
use Rattle.drop_values.specs.Typed.{Fits, IsFull}
use Rattle.drop_values.proofs.Sound.{Sound, full-Sound}
use Rattle.drop_values.proofs.Invariant.{to_older}
use Rattle.drop_values.proofs.Made.{AllFull}
use Rattle.drop_values.proofs.Named.{located-by}
use Rattle.drop_values.proofs.Touched.{addresses_of, untouched}
use Rattle.drop_elaborate.proofs.BodyFacts.{has-sig}
use Rattle.drop_elaborate.proofs.Entered.{Enters, same-list}
use Rattle.drop_elaborate.proofs.Held.{Held}

-- ---- the arguments in the locals from a number on

all-length : (items : ItemTable) (ids : List TyId) (args : List Datum) → AllFull items ids args →
    length args ≡ length ids
all-length items [] [] h = refl
all-length items (id ∷ ids) (v ∷ vs) h = ap suc (all-length items ids vs h.1)
all-length items [] (v ∷ vs) h = absurd h
all-length items (id ∷ ids) [] h = absurd h

-- an argument is full
record FullArgument (items : ItemTable) (ids : List TyId) (j : ℕ) (d : Datum) : Type 0 where
  pub id : TyId
  pub among : slice_get ids j ≡ Some id
  pub full : IsFull items (OfType id) d

argument-in : (items : ItemTable) (from : ℕ) (ids : List TyId) (args : List Datum) → AllFull items ids args → (j : ℕ) →
    j < length ids → (k : ℕ) → k ≡ from + j → FullArgument items ids j (cell k (arguments_from from args))
argument-in items from [] args h j l k e = absurd (let never : ⊥ = omega (arith, l) in never)
argument-in items from (id ∷ ids) [] h j l k e = absurd h
argument-in items from (id ∷ ids) (v ∷ vs) h zero l k e =
    let is : (k == from) ≡ true = (Decides-eqb k from).1 (omega (arith, e)) in record {
      id = id;
      among = refl;
      full = subst (λ b. IsFull items (OfType id) (if b then v else cell k (arguments_from (suc from) vs))) (sym is)
          h.0;
    }
argument-in items from (id ∷ ids) (v ∷ vs) h (suc j) l k e = by (k == from) refl
    (argument-in items (suc from) ids vs h.1 j (omega (arith, l)) k (omega (arith, e)))
  where
    by : (b : Bool) → (k == from) ≡ b → FullArgument items ids j (cell k (arguments_from (suc from) vs)) →
        FullArgument items (id ∷ ids) (suc j) (if b then v else cell k (arguments_from (suc from) vs))
    by true n r = let same = (Decides-eqb k from).0 n in absurd (let never : ⊥ = omega (arith, same, e) in never)
    by false n r = record { id = r.id; among = r.among; full = r.full }

-- a local that is none holds nothing
argument-out : (from : ℕ) (args : List Datum) (k : ℕ) → ((j : ℕ) → j < length args → k ≡ from + j → ⊥) →
    cell k (arguments_from from args) ≡ Gone
argument-out from [] k h = refl
argument-out from (v ∷ vs) k h = by (k == from) refl (argument-out (suc from) vs k (λ j l e. h (suc j)
    (omega (arith, l)) (omega (arith, e))))
  where
    by : (b : Bool) → (k == from) ≡ b → cell k (arguments_from (suc from) vs) ≡ Gone →
        (if b then v else cell k (arguments_from (suc from) vs)) ≡ Gone
    by true n r = let same = (Decides-eqb k from).0 n in absurd (h 0 (omega arith) (omega (arith, same)))
    by false n r = r

-- an address among them
in-more : (v : Datum) (vs : List Datum) (b : Addr) → Contains (addresses_of vs) b →
    Contains (addresses_of (v ∷ vs)) b
in-more (Address a) vs b c =
    Contains-slice_get (a ∷ addresses_of vs) (suc c.0) b (slice_get-Contains (addresses_of vs) b c)
in-more other vs b c = c

in-first : (v : Datum) (vs : List Datum) (b : Addr) → v ≡ Address b → Contains (addresses_of (v ∷ vs)) b
in-first v vs b e =
    subst (λ v. Contains (addresses_of (v ∷ vs)) b) (sym e) (Contains-slice_get (b ∷ addresses_of vs) 0 b refl)

argument-address : (from : ℕ) (args : List Datum) (k : ℕ) (b : Addr) →
    cell k (arguments_from from args) ≡ Address b → Contains (addresses_of args) b
argument-address from [] k b e = absurd (let x : Gone ≡ Address b = e in cc)
argument-address from (v ∷ vs) k b e = by (k == from) e (λ e. argument-address (suc from) vs k b e)
  where
    by : (x : Bool) → (if x then v else cell k (arguments_from (suc from) vs)) ≡ Address b →
        (cell k (arguments_from (suc from) vs) ≡ Address b → Contains (addresses_of vs) b) →
        Contains (addresses_of (v ∷ vs)) b
    by true e again = in-first v vs b e
    by false e again = in-more v vs b (again e)

taken-first : {A : Type 0} (n : ℕ) (xs : List A) (k : ℕ) (x : A) → slice_get (take n xs) k ≡ Some x →
    slice_get xs k ≡ Some x
taken-first zero xs k x e = absurd (none-some x e)
taken-first (suc n) [] k x e = absurd (none-some x e)
taken-first (suc n) (y ∷ ys) zero x e = e
taken-first (suc n) (y ∷ ys) (suc k) x e = taken-first n ys k x e

module _ (graph : Graph) (well : IsWellFormed graph) (number : ℕ) (body : Body)
    (found : slice_get graph.bodies number ≡ Some body) where
  abbrev items : ItemTable
  items = graph.items

  abbrev local_ty : (body local : ℕ) → Option TyId
  local_ty = λ n local. option_and_then (λ (body : Body). slice_get body.locals local) (slice_get graph.bodies n)

  -- the parameters have the types of the signature
  pub params-are : (sig : Sig) → slice_get items.bodies number ≡ Some sig →
      (length sig.params ≡ body.params) × (take (suc body.params) body.locals ≡ sig.result ∷ sig.params)
  params-are sig is =
      let h : has_sig items (length graph.bodies) body (slice_get items.bodies number) ≡ true =
      subst (λ n. has_sig items (length graph.bodies) body (slice_get items.bodies n) ≡ true)
      (let z : 0 + number ≡ number = omega arith in z) (has-sig graph well number body found) in
      let s : is_sig_of items (length graph.bodies) body sig ≡ true =
      ap (λ o. option_map_or (is_sig_of items (length graph.bodies) body) o false) (sym is) ∙ h in (
        (Decides-eqb (length sig.params) body.params).0 (first_so (length sig.params == body.params)
            (same_ids (take (suc body.params) body.locals) (sig.result ∷ sig.params)) s),
        same-list items local_ty (take (suc body.params) body.locals) (sig.result ∷ sig.params)
            (second_so (length sig.params == body.params)
            (same_ids (take (suc body.params) body.locals) (sig.result ∷ sig.params)) s),
      )

  module _ (locals_are : (k : ℕ) → local_ty number k ≡ slice_get body.locals k) (args : List Datum) (u : State)
      (event : Event) (t : ℕ) (may : Enters items local_ty number args u) (ticks_are : u.ticks ≡ suc t) where
    abbrev here : Activation
    here = record { body = number; cells = arguments_from 1 args }

    abbrev entered : State
    entered = with_activation here (with_event event (record u { ticks = t }))

    abbrev depth : ℕ
    depth = length u.activations

    own : (depth == depth) ≡ true
    own = (Decides-eqb depth depth).1 refl

    held-is : (k : ℕ) → held depth k entered ≡ cell k (arguments_from 1 args)
    held-is k = ap (λ b. held_by k (if b then Some here else at_depth depth u.activations)) own

    -- what a local holds
    record LocalIs (k : ℕ) (id : TyId) : Type 0 where
      pub fits : Fits items (OfType id) (present_at_start items body k) (cell k (arguments_from 1 args))
      pub sound : Sound items (cell k (arguments_from 1 args)) (OfType id)

    sig-is : (length may.sig.params ≡ body.params)
        × (take (suc body.params) body.locals ≡ may.sig.result ∷ may.sig.params)
    sig-is = params-are may.sig may.sig_is

    param-is : (j : ℕ) (id : TyId) → local_ty number (suc j) ≡ Some id → is_param items body (suc j) ≡ true →
        LocalIs (suc j) id
    param-is j id ty p =
        let le = leb-true (suc j) body.params (second_so (nat_lt 0 (suc j)) (nat_le (suc j) body.params) p) in
        let count = sig-is.0 in
        let a = argument-in items 1 may.sig.params args may.full j (omega (arith, le, count)) (suc j) (omega arith) in
        let at : slice_get body.locals (suc j) ≡ Some a.id =
        taken-first (suc body.params) body.locals (suc j) a.id
        (ap (λ l. slice_get l (suc j)) sig-is.1 ∙ a.among) in
        let same : a.id ≡ id = (let x : Some a.id ≡ Some id = sym at ∙ sym (locals_are (suc j)) ∙ ty in cc) in
        let full : IsFull items (OfType id) (cell (suc j) (arguments_from 1 args)) =
        subst (λ i. IsFull items (OfType i) (cell (suc j) (arguments_from 1 args))) same a.full in record {
          fits = subst (λ b. Fits items (OfType id) (if b then is_present else is_gone)
              (cell (suc j) (arguments_from 1 args))) (sym p) full.1;
          sound = full-Sound items (cell (suc j) (arguments_from 1 args)) (OfType id) full;
        }

    other-is : (k : ℕ) (id : TyId) → is_param items body k ≡ false → LocalIs k id
    other-is k id n =
        let none : cell k (arguments_from 1 args) ≡ Gone = argument-out 1 args k outside in record {
          fits = subst (Fits items (OfType id) (present_at_start items body k)) (sym none)
              (subst (λ b. Fits items (OfType id) (if b then is_present else is_gone) Gone) (sym n) refl);
          sound = subst (λ d. Sound items d (OfType id)) (sym none) tt;
        }
      where
        outside : (j : ℕ) → j < length args → k ≡ 1 + j → ⊥
        outside j l e =
            let count = all-length items may.sig.params args may.full in
            let params = sig-is.0 in
            false≢true (sym n ∙ both_true (lt-ltb 0 k (omega (arith, e)))
            (le-leb k body.params (omega (arith, e, l, count, params))))

    local-is : (k : ℕ) (id : TyId) → local_ty number k ≡ Some id → (b : Bool) → is_param items body k ≡ b →
        LocalIs k id
    local-is k id ty false n = other-is k id n
    local-is zero id ty true p =
        absurd (let l = ltb-true 0 0 (first_so (nat_lt 0 0) (nat_le 0 body.params) p) in let never : ⊥ =
        omega (arith, l) in never)
    local-is (suc j) id ty true p = param-is j id ty p

    same-located : (b : Addr) → b.depth < depth →
        located_at (raw_setting items local_ty) u b ≡ located_at (raw_setting items local_ty) entered b
    same-located b l = by (b.depth == depth) refl
      where
        by : (x : Bool) → (b.depth == depth) ≡ x →
            located_at (raw_setting items local_ty) u b ≡ located_at (raw_setting items local_ty) entered b
        by true n = let same = (Decides-eqb b.depth depth).0 n in absurd
            (let never : ⊥ = omega (arith, same, l) in never)
        by false n =
            located-by items local_ty u entered b
            (ap (λ x. body_of (if x then Some here else at_depth b.depth u.activations)) n)
            (ap (λ x. held_by b.key.0 (if x then Some here else at_depth b.depth u.activations)) n)

    other-depth : (b : Addr) → b.depth < depth → (b.depth == depth) ≡ false
    other-depth b l = elim (eqb_tells b.depth depth) [
      | inl y ↦ absurd (let same = y.1 in let never : ⊥ = omega (arith, same, l) in never)
      | inr y ↦ y.0
    ]

    -- what holds as it begins
    pub begins-here : Held items local_ty number depth body (addresses_of args) u may.named locals_are [] entered
    begins-here = record {
      knows = record {
        deep = refl;
        number_is = ap (λ b. body_of (if b then Some here else at_depth depth u.activations)) own;
        fits = λ k id ty. subst (Fits items (OfType id) (present_at_start items body k)) (sym (held-is k))
            (local-is k id ty (is_param items body k) refl).fits;
      };
      sound = λ k id ty. subst (λ d. Sound items d (OfType id)) (sym (held-is k))
          (local-is k id ty (is_param items body k) refl).sound;
      older = untouched (record {
        less = omega (arith, ticks_are);
        count = refl;
        bodies = λ d. refl;
        cells = λ d k.
            refl;
      });
      refers = λ r b e.
          let c = argument-address 1 args r b (sym (held-is r) ∙ e) in
          let n = may.named b c in
          to_older (other-depth b n.1) (record {
            above = b;
            among = c;
            path = [];
            is = ap (λ p. record b { path = p }) (sym (append-nil b.path));
          }) (λ s h. n.0 s (same-located b n.1 ∙ h));
    }

    pub begins : (depth' : ℕ) (w : State) → length w.activations ≡ suc depth' → w ≡ entered →
        Held items local_ty number depth' body (addresses_of args) u may.named locals_are [] w
    begins depth' w deep is =
        let same : depth ≡ depth' = (let x : length w.activations ≡ suc depth =
        ap (λ (w : State). length w.activations) is in omega (arith, x, deep)) in
        subst (λ w. Held items local_ty number depth' body (addresses_of args) u may.named locals_are [] w) (sym is)
        (subst (λ d. Held items local_ty number d body (addresses_of args) u may.named locals_are [] entered) same
        begins-here)
