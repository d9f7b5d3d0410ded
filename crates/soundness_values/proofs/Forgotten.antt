-- `forget` tells of exactly the serial numbers that a value has, in their order. And the account where a value is in
-- flight: one that is taken, made, stored, forgotten.
use Rattle.std.proofs.Common.{◌≡◌, ℕ, suc, ◌+◌, ◌<◌, ◌≤◌, ◌==◌, if◌then◌else◌, Bool, true, false, List, [], ◌∷◌, ◌++◌, Option, Some, None, is_some, refl, ap, sym, ◌∙◌, arith, append_assoc}
use Rattle.std.specs.Option.{option_to_list}
use Rattle.std.proofs.lemmas.Bool.{false≢true}
use Rattle.std.proofs.lemmas.Bool.Decides.{Decides-eqb}
use Rattle.soundness_values.proofs.Apart.{not_same}
use Rattle.mir_base.specs.declared.trace.Event.{Event}
use Rattle.mir_base.specs.Trace.{Trace}
use Rattle.mir_ty.specs.declared.ty.TyId.{TyId}
use Rattle.mir_ty.specs.ItemTable.{ItemTable}
use Rattle.store_model.specs.declared.address.At.TheVariants.{Part, Inside}
use Rattle.store_model.specs.Values.Datum.{Datum, Data, Gone, Number, Truth, UnitValue, Aggregate, Box, Address, no_part, a_part}
use Rattle.store_model.specs.Values.Wholeness.{serials, serials_of_all}
use Rattle.store_model.specs.Abstract.Presence.{Presence, presence_at}
use Rattle.store_model.specs.Places.Place.{ToContent}
use Rattle.store_model.specs.Concrete.Drops.{drop_impl}
use Rattle.store_model.specs.Concrete.Effects.{forgotten, forgotten_parts, made_forgotten, if_typed}
use Rattle.store_model.specs.Concrete.Location.{Setting, DynamicType, concrete_ty, type_of_part, Located, located_at, stored_at}
use Rattle.store_model.specs.Concrete.State.{State, with_event, numbered_next}
use Rattle.mir_base.specs.Once.{serial_made, serial_ended, made_in, ended_in, times, EndsWhatWasMade, a_line}
use Rattle.soundness_values.proofs.Fits.{Fits, PartsFit}
use Rattle.soundness_values.proofs.Counts.{times_append, in_value, held, held_stored}
use Rattle.soundness_values.proofs.Accounts.{made_after, ended_after, times_one}

ended_append : (a b : Trace) → ended_in (a ++ b) ≡ ended_in a ++ ended_in b
ended_append [] b = refl
ended_append (event ∷ a) b = ap (λ l. serial_ended event ++ l) (ended_append a b)
    ∙ sym (append_assoc (serial_ended event) (ended_in a) (ended_in b))

module _ (items : ItemTable) where
  made_ends : (serial : Option ℕ) (of : Option (ℕ × ℕ)) → is_some serial ≡ is_some of →
      ended_in (made_forgotten serial of) ≡ option_to_list serial
  made_ends None of e = refl
  made_ends (Some serial) None e = absurd (false≢true (sym e))
  made_ends (Some serial) (Some of) e = refl

  mutual
    pub forgets : (d : Datum) (f : DynamicType) (p : Presence) → Fits items f p d →
        ended_in (forgotten items d f) ≡ serials d
    forgets Gone f p k = refl
    forgets (Number number) f p k = refl
    forgets (Truth truth) f p k = refl
    forgets UnitValue f p k = refl
    forgets (Address address) f p k = refl
    forgets (Aggregate variant serial parts) f p k =
        ended_append (made_forgotten serial (drop_impl items (concrete_ty items f)))
        (forgotten_parts items parts (λ n. type_of_part items (Part n) (Aggregate variant serial no_part) f) 0)
        ∙ ap (λ l. l ++ ended_in
        (forgotten_parts items parts (λ n. type_of_part items (Part n) (Aggregate variant serial no_part) f) 0))
        (made_ends serial (drop_impl items (concrete_ty items f)) k.1)
        ∙ ap (λ l. option_to_list serial ++ l)
        (forgets_parts parts 0 (λ n. type_of_part items (Part n) (Aggregate variant serial no_part) f) _ _
        (λ m. ap (λ x. type_of_part items (Part x) (Aggregate variant serial no_part) f)
        (let z : m ≡ 0 + m = omega arith in z)) k.3)
    forgets (Box serial impl_no inside) f p k =
        ended_append (if_typed (type_of_part items Inside (Box serial impl_no Gone) f) (forgotten items inside))
        (Event.ForgotBox serial ∷ [])
        ∙ ap (λ o. ended_in (if_typed o (forgotten items inside)) ++ serial ∷ []) k.2.1
        ∙ ap (λ l. l ++ serial ∷ []) (forgets inside k.2.0 (presence_at ToContent p) k.2.2)

    forgets_parts : (parts : Data) (n : ℕ) (found_at found_from : ℕ → Option DynamicType)
        (presence_of : ℕ → Presence) →
        ((m : ℕ) → found_from m ≡ found_at (n + m)) → PartsFit items found_from presence_of parts →
        ended_in (forgotten_parts items parts found_at n) ≡ serials_of_all parts
    forgets_parts no_part n found_at found_from presence_of e k = refl
    forgets_parts (a_part first rest) n found_at found_from presence_of e k =
        ended_append (if_typed (found_at n) (forgotten items first)) (forgotten_parts items rest found_at (suc n))
        ∙ ap (λ o. ended_in (if_typed o (forgotten items first)) ++ ended_in
        (forgotten_parts items rest found_at (suc n)))
        (ap found_at (let z : n ≡ n + 0 = omega arith in z) ∙ sym (e 0) ∙ k.0.1)
        ∙ ap (λ l. l ++ ended_in (forgotten_parts items rest found_at (suc n)))
        (forgets first k.0.0 (presence_of 0) k.0.2)
        ∙ ap (λ l. serials first ++ l)
        (forgets_parts rest (suc n) found_at (λ m. found_from (suc m)) (λ m. presence_of (suc m))
        (λ m. e (suc m) ∙ ap found_at (let z : n + suc m ≡ suc n + m = omega arith in z)) k.1)

-- ---- the account with values in flight, between where they were taken and where they are stored

module _ (size : ℕ → ℕ) where
  pub record InFlight (flying dropping : List ℕ) (w : State) : Type 0 where
    pub sum : (k : ℕ) → held size k w.activations + times k flying + times k (ended_in w.trace) ≡ times k dropping
        + times k (made_in w.trace)
    pub once : (k : ℕ) → times k (made_in w.trace) ≤ 1
    pub has_ended : (k : ℕ) → times k dropping ≤ times k (ended_in w.trace)
    pub fresh : (k : ℕ) → w.serial ≤ k → times k (made_in w.trace) ≡ 0
    pub in_order : EndsWhatWasMade w.trace

  module _ (setting : Setting) (sized : (body key : ℕ) (id : TyId) → setting.local_ty body key ≡ Some id →
      key < size body) where
    -- a value is taken
    pub taken : (flying dropping : List ℕ) (w : State) (s : Located) → located_at setting w s.address ≡ Some s →
        InFlight flying dropping w → InFlight (serials s.value ++ flying) dropping (stored_at s.address Gone w)
    taken flying dropping w s e a = record {
      sum = λ k. let change = held_stored size k setting sized w s.address s Gone e in let sum = a.sum k in let all =
          times_append k (serials s.value) flying in omega arith;
      once = a.once;
      has_ended = a.has_ended;
      fresh = a.fresh;
      in_order = a.in_order;
    }

    -- a value is stored where nothing with a number stands
    pub put : (flying dropping : List ℕ) (w : State) (s : Located) (d : Datum) →
        located_at setting w s.address ≡ Some s → ((k : ℕ) → in_value k s.value ≡ 0) →
        InFlight (serials d ++ flying) dropping w → InFlight flying dropping (stored_at s.address d w)
    put flying dropping w s d e empty a = record {
      sum = λ k. let change = held_stored size k setting sized w s.address s d e in let sum = a.sum k in let all =
          times_append k (serials d) flying in let none = empty k in omega arith;
      once = a.once;
      has_ended = a.has_ended;
      fresh = a.fresh;
      in_order = a.in_order;
    }

  -- a value is made, or a box: it gets the next number
  pub makes : (flying dropping : List ℕ) (w : State) (event : Event) → serial_made event ≡ w.serial ∷ [] →
      serial_ended event ≡ [] → InFlight flying dropping w →
      InFlight (w.serial ∷ flying) dropping (with_event event (numbered_next w))
  makes flying dropping w event m n a = record {
    sum = λ k. let made = making k in let ended = ending k in let sum = a.sum k in let one =
        times_append k (w.serial ∷ []) flying in omega arith;
    once = λ k. made_once k;
    has_ended = λ k. let ended = ending k in let before = a.has_ended k in omega arith;
    fresh = λ k l. none_later k l;
    in_order = a_line w.trace event a.in_order
        (λ k e. absurd (let never : [] ≡ k ∷ [] = sym n ∙ e in let no : ⊥ = cc in no));
  }
    where
      making : (k : ℕ) → times k (made_in (w.trace ++ event ∷ [])) ≡ times k (made_in w.trace) + times k
          (w.serial ∷ [])
      making k = made_after k w.trace event ∙ ap (λ l. times k (made_in w.trace) + times k l) m

      ending : (k : ℕ) → times k (ended_in (w.trace ++ event ∷ [])) ≡ times k (ended_in w.trace)
      ending k = ended_after k w.trace event ∙ ap (λ l. times k (ended_in w.trace) + times k l) n
          ∙ (let z : times k (ended_in w.trace) + 0 ≡ times k (ended_in w.trace) = omega arith in z)

      other : (k : ℕ) → (k ≡ w.serial → ⊥) → times k (w.serial ∷ []) ≡ 0
      other k h = ap (λ b. if b then 1 else 0) (not_same k w.serial h)

      by_key : (k : ℕ) → (b : Bool) → (k == w.serial) ≡ b → times k (made_in (w.trace ++ event ∷ [])) ≤ 1
      by_key k true e =
          let same : k ≡ w.serial = (Decides-eqb k w.serial).0 e in
          let none : times k (made_in w.trace) ≡ 0 = a.fresh k (let z : w.serial ≤ k = omega arith in z) in
          let one : times k (w.serial ∷ []) ≡ 1 = ap (λ n. times k (n ∷ [])) (sym same) ∙ times_one k in
          let all = making k in
          omega arith
      by_key k false e =
          let none : times k (w.serial ∷ []) ≡ 0 = ap (λ b. if b then 1 else 0) e in
          let before = a.once k in
          let all = making k in
          omega arith

      made_once : (k : ℕ) → times k (made_in (w.trace ++ event ∷ [])) ≤ 1
      made_once k = by_key k (k == w.serial) refl

      none_later : (k : ℕ) → suc w.serial ≤ k → times k (made_in (w.trace ++ event ∷ [])) ≡ 0
      none_later k l =
          let before : times k (made_in w.trace) ≡ 0 = a.fresh k (let z : w.serial ≤ k = omega arith in z) in
          let none : times k (w.serial ∷ []) ≡ 0 = other k (λ same. let never : ⊥ = omega arith in never) in
          let all = making k in
          omega arith
