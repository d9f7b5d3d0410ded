-- What stands at an address after a value was stored at it or below it.
use Rattle.std.proofs.Common.{◌≡◌, inl, inr, ℕ, suc, ◌==◌, ◌≤◌, Bool, true, false, ◌&&◌, List, [], ◌∷◌, ◌++◌, length, Option, Some, None, if◌then◌else◌, refl, ap, sym, ◌∙◌, append_assoc, arith}
use Rattle.std.proofs.lemmas.Bool.Decides.{eqb_tells}
use Rattle.std.proofs.lemmas.Option.{option_and_then_some}
use Rattle.std.specs.Option.{option_and_then, option_map_or}
use Rattle.mir_ty.specs.declared.ty.TyId.{TyId}
use Rattle.mir_ty.specs.ItemTable.{ItemTable}
use Rattle.store_model.specs.declared.address.Addr.{Addr}
use Rattle.store_model.specs.declared.address.At.{At}
use Rattle.store_model.specs.declared.address.At.TheVariants.{Part, Inside}
use Rattle.store_model.specs.Values.Datum.{Datum, Gone, Number, Truth, UnitValue, Aggregate, Box, Address}
use Rattle.store_model.specs.Values.Access.{part, with_part, value_at, replaced}
use Rattle.store_model.specs.Concrete.Location.{Setting, DynamicType, OfType, type_of_part, Located, below, located_part, into, into_all, root_address, located_root, located_in, located_at, root_of, stored_at}
use Rattle.store_model.specs.Concrete.State.{Activation, Cells, State, cell, with_cell, at_depth, with_cell_at}
use Rattle.drop_values.specs.Like.{held_by, body_of, held, body_at}
use Rattle.store_model.proofs.Values.Access.{replaced-step, replaced-replaced, replaced-append, replaced-value_at}
use Rattle.store_model.proofs.Values.OnePart.{part-with_part}

-- ---- cells of activations

abbrev put_in : ℕ → Datum → Activation → Activation
put_in k v a = record a { cells = with_cell k v a.cells }

cell-same : (k : ℕ) (v : Datum) (cells : Cells) → cell k (with_cell k v cells) ≡ v
cell-same k v [] = by (k == k) refl
  where
    by : (b : Bool) → (k == k) ≡ b → (if b then v else Gone) ≡ v
    by true e = refl
    by false e = elim (eqb_tells k k) [
      | inl y ↦ absurd (let n : true ≡ false = sym y.0 ∙ e in cc)
      | inr n ↦ absurd (n.1 refl)
    ]
cell-same k v (c ∷ cells) = by (k == c.0) refl (k == k) refl (cell-same k v cells)
  where
    by : (b : Bool) → (k == c.0) ≡ b → (b' : Bool) → (k == k) ≡ b' → cell k (with_cell k v cells) ≡ v →
        cell k (if b then (k, v) ∷ cells else c ∷ with_cell k v cells) ≡ v
    by true e true e' h = ap (λ b. if b then v else cell k cells) e'
    by true e false e' h = elim (eqb_tells k k) [
      | inl y ↦ absurd (let n : true ≡ false = sym y.0 ∙ e' in cc)
      | inr n ↦ absurd (n.1 refl)
    ]
    by false e b' e' h = ap (λ b. if b then c.1 else cell k (with_cell k v cells)) e ∙ h

cell-other : (k j : ℕ) (v : Datum) (cells : Cells) → (j == k) ≡ false → cell j (with_cell k v cells) ≡ cell j cells
cell-other k j v [] e = ap (λ b. if b then v else Gone) e
cell-other k j v (c ∷ cells) e = by (k == c.0) refl (cell-other k j v cells e)
  where
    by : (b : Bool) → (k == c.0) ≡ b → cell j (with_cell k v cells) ≡ cell j cells →
        cell j (if b then (k, v) ∷ cells else c ∷ with_cell k v cells) ≡ (if j == c.0 then c.1 else cell j cells)
    by true h ih = elim (eqb_tells k c.0) [
      | inl y ↦ ap (λ b. if b then v else cell j cells) e
          ∙ sym (ap (λ b. if b then c.1 else cell j cells) (ap (λ x. j == x) (sym y.1) ∙ e))
      | inr n ↦ absurd (let x : true ≡ false = sym h ∙ n.0 in cc)
    ]
    by false h ih = ap (λ x. if j == c.0 then c.1 else x) ih

pub with_cell_at-length : (d k : ℕ) (v : Datum) (acts : List Activation) →
    length (with_cell_at d k v acts) ≡ length acts
with_cell_at-length d k v [] = refl
with_cell_at-length d k v (a ∷ older) = by (d == length older) (with_cell_at-length d k v older)
  where
    by : (b : Bool) → length (with_cell_at d k v older) ≡ length older →
        length (if b then put_in k v a ∷ older else a ∷ with_cell_at d k v older) ≡ suc (length older)
    by true h = refl
    by false h = ap suc h

at_depth-same : (d k : ℕ) (v : Datum) (acts : List Activation) → at_depth d (with_cell_at d k v acts) ≡ option_map_or
    (λ a. Some (put_in k v a)) (at_depth d acts) None
at_depth-same d k v [] = refl
at_depth-same d k v (a ∷ older) = by (d == length older) refl (at_depth-same d k v older)
  where
    by : (b : Bool) → (d == length older) ≡ b → at_depth d (with_cell_at d k v older) ≡ option_map_or
        (λ a. Some (put_in k v a)) (at_depth d older) None →
        at_depth d (if b then put_in k v a ∷ older else a ∷ with_cell_at d k v older) ≡ option_map_or
        (λ a. Some (put_in k v a)) (if b then Some a else at_depth d older) None
    by true e h = ap (λ b. if b then Some (put_in k v a) else at_depth d older) e
    by false e h = ap (λ b. if b then Some a else at_depth d (with_cell_at d k v older))
        (ap (λ n. d == n) (with_cell_at-length d k v older) ∙ e) ∙ h

at_depth-other : (d d' k : ℕ) (v : Datum) (acts : List Activation) → (d' == d) ≡ false →
    at_depth d' (with_cell_at d k v acts) ≡ at_depth d' acts
at_depth-other d d' k v [] n = refl
at_depth-other d d' k v (a ∷ older) n = by (d == length older) refl (at_depth-other d d' k v older n)
  where
    by : (b : Bool) → (d == length older) ≡ b → at_depth d' (with_cell_at d k v older) ≡ at_depth d' older →
        at_depth d' (if b then put_in k v a ∷ older else a ∷ with_cell_at d k v older) ≡ (if d'
        == length older then Some a else at_depth d' older)
    by true e h = elim (eqb_tells d (length older)) [
      | inl y ↦ ap (λ b. if b then Some (put_in k v a) else at_depth d' older) (ap (λ x. d' == x) (sym y.1) ∙ n)
          ∙ sym (ap (λ b. if b then Some a else at_depth d' older) (ap (λ x. d' == x) (sym y.1) ∙ n))
      | inr y ↦ absurd (let x : true ≡ false = sym e ∙ y.0 in cc)
    ]
    by false e h = ap (λ m. if d' == m then Some a else at_depth d' (with_cell_at d k v older))
        (with_cell_at-length d k v older) ∙ ap (λ x. if d' == length older then Some a else x) h

-- ---- one change of the cells

-- Of the activations only what stands at an address has changed, and no ticks were given back.
pub record Changed (a : Addr) (new : Datum) (w w' : State) : Type 0 where
  pub less : w'.ticks ≤ w.ticks
  pub count : length w'.activations ≡ length w.activations
  pub bodies : (d : ℕ) → body_at d w' ≡ body_at d w
  pub here : held a.depth a.key.0 w' ≡ replaced a.path new (held a.depth a.key.0 w)
  pub apart : (d k : ℕ) → ((d == a.depth) && (k == a.key.0)) ≡ false → held d k w' ≡ held d k w

abbrev pub Known : ℕ → State → Type 0
Known d w = (a : Activation) × (at_depth d w.activations ≡ Some a)

no_false : {P : Type 0} → true ≡ false → P
no_false e = absurd (let n : true ≡ false = e in cc)

same_nat : (n : ℕ) → (n == n) ≡ true
same_nat n = elim (eqb_tells n n) [ inl y ↦ y.0 | inr y ↦ absurd (y.1 refl) ]

abbrev stored_root : Addr → Datum → State → Datum
stored_root a new w = replaced a.path new (root_of a w)

-- a value is stored
pub stored-Changed : (a : Addr) (new : Datum) (w : State) → Known a.depth w → Changed a new w (stored_at a new w)
stored-Changed a new w known = record {
  less = omega arith;
  count = with_cell_at-length a.depth a.key.0 _ w.activations;
  bodies = λ d. bodies d (d == a.depth) refl;
  here = ap (held_by a.key.0) (at_depth-same a.depth a.key.0 (stored_root a new w) w.activations)
      ∙ ap (λ o. held_by a.key.0 (option_map_or (λ x. Some (put_in a.key.0 (stored_root a new w) x)) o None)) known.1
      ∙ cell-same a.key.0 (stored_root a new w) known.0.cells;
  apart = λ d k e. apart d k (d == a.depth) refl e;
}
  where
    bodies : (d : ℕ) (b : Bool) → (d == a.depth) ≡ b → body_at d (stored_at a new w) ≡ body_at d w
    bodies d false e = ap body_of (at_depth-other a.depth d a.key.0 (stored_root a new w) w.activations e)
    bodies d true e = elim (eqb_tells d a.depth) [
      | inl y ↦ ap (λ x. body_of (at_depth x (with_cell_at a.depth a.key.0 (stored_root a new w) w.activations))) y.1
          ∙ ap body_of (at_depth-same a.depth a.key.0 (stored_root a new w) w.activations)
          ∙ of (at_depth a.depth w.activations) ∙ ap (λ x. body_of (at_depth x w.activations)) (sym y.1)
      | inr y ↦ no_false (sym e ∙ y.0)
    ]
      where
        of : (o : Option Activation) → body_of (option_map_or (λ x. Some (put_in a.key.0 (stored_root a new w) x))
            o None) ≡ body_of o
        of None = refl
        of (Some x) = refl

    apart : (d k : ℕ) (b : Bool) → (d == a.depth) ≡ b → ((d == a.depth) && (k == a.key.0)) ≡ false →
        held d k (stored_at a new w) ≡ held d k w
    apart d k false e n = ap (held_by k) (at_depth-other a.depth d a.key.0 (stored_root a new w) w.activations e)
    apart d k true e n = elim (eqb_tells d a.depth) [
      | inl y ↦ ap (λ x. held_by k (at_depth x (with_cell_at a.depth a.key.0 (stored_root a new w) w.activations))) y.1
          ∙ ap (held_by k) (at_depth-same a.depth a.key.0 (stored_root a new w) w.activations)
          ∙ of (at_depth a.depth w.activations) ∙ ap (λ x. held_by k (at_depth x w.activations)) (sym y.1)
      | inr y ↦ no_false (sym e ∙ y.0)
    ]
      where
        of : (o : Option Activation) → held_by k (option_map_or (λ x. Some (put_in a.key.0 (stored_root a new w) x))
            o None) ≡ held_by k o
        of None = refl
        of (Some x) = cell-other a.key.0 k (stored_root a new w) x.cells (sym (ap (λ b. b && (k == a.key.0)) e) ∙ n)

-- two changes at one address
pub Changed-Changed : (a : Addr) (new later : Datum) (w w' w'' : State) → Changed a new w w' → Changed a later w' w'' →
    Changed a later w w''
Changed-Changed a new later w w' w'' one two = record {
  less = let h = one.less in let k = two.less in omega arith;
  count = two.count ∙ one.count;
  bodies = λ d. two.bodies d ∙ one.bodies d;
  here = two.here ∙ ap (replaced a.path later) one.here ∙ replaced-replaced a.path new later (held a.depth a.key.0 w);
  apart = λ d k e. two.apart d k e ∙ one.apart d k e;
}

-- ---- what stands at an address

abbrev pub with_value : Located → Datum → Located
with_value s new = record s { value = new }

found_part-with_part : (items : ItemTable) (step : At) (new v : Datum) (found : DynamicType) →
    type_of_part items step (with_part step new v) found ≡ type_of_part items step v found
found_part-with_part items (Part n) new (Aggregate variant serial parts) found = refl
found_part-with_part items Inside new (Aggregate variant serial parts) found = refl
found_part-with_part items (Part n) new other found = refl
found_part-with_part items Inside new other found = refl

-- what a step leads to, taken apart
pub record Into (items : ItemTable) (step : At) (s t : Located) : Type 0 where
  pub value : Datum
  pub dynamic : DynamicType
  pub value_is : part step s.value ≡ Some value
  pub found_is : type_of_part items step s.value s.dynamic ≡ Some dynamic
  pub is : t ≡ record { address = below s.address step; dynamic = dynamic; value = value }

pub into-parts : (items : ItemTable) (step : At) (s t : Located) → into items step s ≡ Some t → Into items step s t
into-parts items step s t e = go (part step s.value) refl (type_of_part items step s.value s.dynamic) refl e
  where
    go : (o : Option Datum) → part step s.value ≡ o → (f : Option DynamicType) →
        type_of_part items step s.value s.dynamic ≡ f → located_part s step o f ≡ Some t → Into items step s t
    go None h f k e = absurd (let n : None ≡ Some t = e in cc)
    go (Some v) h None k e = absurd (let n : None ≡ Some t = e in cc)
    go (Some v) h (Some f) k e = record {
      value = v;
      dynamic = f;
      value_is = h;
      found_is = k;
      is =
          let x : t ≡ (record { address = below s.address step; dynamic = f; value = v }) = cc in x;
    }

pub into-is : (items : ItemTable) (step : At) (s t : Located) → Into items step s t → into items step s ≡ Some t
into-is items step s t i = ap (λ o. located_part s step o (type_of_part items step s.value s.dynamic)) i.value_is
    ∙ ap (located_part s step (Some i.value)) i.found_is ∙ ap Some (sym i.is)

-- the container with another part
pub into-with_part : (items : ItemTable) (step : At) (s t : Located) (new : Datum) → Into items step s t →
    Into items step (with_value s (with_part step new s.value)) (with_value t new)
into-with_part items step s t new i = record {
  value = new;
  dynamic = i.dynamic;
  value_is = part-with_part step new i.value s.value i.value_is;
  found_is = found_part-with_part items step new s.value s.dynamic ∙ i.found_is;
  is = ap (λ x. with_value x new) i.is;
}

pub into_all-append : (items : ItemTable) (above rest : List At) (s : Located) → into_all items
    (above ++ rest) s ≡ option_and_then (into_all items rest) (into_all items above s)
into_all-append items [] rest s = refl
into_all-append items (step ∷ above) rest s = go (into items step s) (into_all-append items above rest)
  where
    go : (o : Option Located) → ((t : Located) → into_all items (above ++ rest) t ≡ option_and_then
        (into_all items rest) (into_all items above t)) →
        option_and_then (into_all items (above ++ rest)) o ≡ option_and_then (into_all items rest)
        (option_and_then (into_all items above) o)
    go None h = refl
    go (Some t) h = h t

-- along a path to what stands there: where it is, and that another value there is found alike
pub record Along (items : ItemTable) (path : List At) (s t : Located) : Type 0 where
  pub address : t.address ≡ record s.address { path = s.address.path ++ path }
  pub stands : value_at path s.value ≡ Some t.value
  pub other : (new : Datum) → into_all items path (with_value s (replaced path new s.value)) ≡ Some (with_value t new)

pub along : (items : ItemTable) (path : List At) (s t : Located) → into_all items path s ≡ Some t → Along items path s t
along items [] s t e = record {
  address = ap (λ x. x.address) same ∙ ap (λ p. record s.address { path = p }) (sym (nil s.address.path));
  stands = ap (λ x. Some x.value) (sym same);
  other = λ new. ap (λ x. Some (with_value x new)) (sym same);
}
  where
    same : t ≡ s
    same = let x : t ≡ s = cc in x

    nil : (p : List At) → p ++ [] ≡ p
    nil [] = refl
    nil (x ∷ p) = ap (λ r. x ∷ r) (nil p)
along items (step ∷ path) s t e = option_and_then_some (into_all items path) (into items step s) t e (λ m h k.
    let i = into-parts items step s m h in let a = along items path m t k in record {
      address = a.address ∙ ap (λ x. record x.address { path = x.address.path ++ path }) i.is
          ∙ ap (λ p. record s.address { path = p }) (append_assoc s.address.path (step ∷ []) path);
      stands = ap (option_and_then (value_at path)) (i.value_is ∙ ap (λ x. Some x.value) (sym i.is)) ∙ a.stands;
      other = λ new.
          ap (λ v. into_all items (step ∷ path) (with_value s v))
          (replaced-step step path new s.value m.value (i.value_is ∙ ap (λ x. Some x.value) (sym i.is)))
          ∙ ap (option_and_then (into_all items path))
          (into-is items step (with_value s (with_part step (replaced path new m.value) s.value))
          (with_value m (replaced path new m.value)) (into-with_part items step s m (replaced path new m.value) i))
          ∙ a.other new;
    })

module _ (setting : Setting) where
  abbrev pub rooted : ℕ → ℕ → Option ℕ → Datum → Option Located
  rooted d k None v = None
  rooted d k (Some b) v = option_map_or (λ id. Some
      (record { address = root_address d k; dynamic = OfType id; value = v })) (setting.local_ty b k) None

  root-rooted : (w : State) (d k : ℕ) (o : Option Activation) → located_in setting w d k o ≡ rooted d k
      (body_of o) (held_by k o)
  root-rooted w d k None = refl
  root-rooted w d k (Some a) = go (setting.local_ty a.body k)
    where
      go : (o : Option TyId) → located_root d k a.cells o ≡ option_map_or
          (λ id. Some (record { address = root_address d k; dynamic = OfType id; value = cell k a.cells })) o None
      go None = refl
      go (Some id) = refl

  -- what stands at an address, by what the cells hold
  pub standing-held : (w : State) (a : Addr) → located_at setting w a ≡ option_and_then (into_all setting.items a.path)
      (rooted a.depth a.key.0 (body_at a.depth w) (held a.depth a.key.0 w))
  standing-held w a = ap (option_and_then (into_all setting.items a.path))
      (root-rooted w a.depth a.key.0 (at_depth a.depth w.activations))

  abbrev pub Stands : State → Located → Type 0
  Stands w s = located_at setting w s.address ≡ Some s

  pub record Rooted (w : State) (a : Addr) (t : Located) : Type 0 where
    pub known : Known a.depth w
    pub root : Located
    pub root_is : rooted a.depth a.key.0 (body_at a.depth w) (held a.depth a.key.0 w) ≡ Some root
    pub root_value : root.value ≡ held a.depth a.key.0 w
    pub root_address : root.address ≡ record a { path = [] }
    pub other_root : (v : Datum) → rooted a.depth a.key.0 (body_at a.depth w) v ≡ Some (with_value root v)
    pub path : Along setting.items a.path root t

  pub to_root : (w : State) (a : Addr) (t : Located) → located_at setting w a ≡ Some t → Rooted w a t
  to_root w a t e = go (at_depth a.depth w.activations) refl (sym (standing-held w a) ∙ e)
    where
      go : (o : Option Activation) → at_depth a.depth w.activations ≡ o → option_and_then
          (into_all setting.items a.path) (rooted a.depth a.key.0 (body_at a.depth w) (held a.depth a.key.0 w)) ≡ Some
          t → Rooted w a t
      go None h e = absurd (let n : None ≡ Some t =
          sym (ap (λ o. option_and_then (into_all setting.items a.path)
          (rooted a.depth a.key.0 (body_of o) (held a.depth a.key.0 w))) h) ∙ e in cc)
      go (Some x) h e = ty (setting.local_ty x.body a.key.0) refl
          (sym (ap (λ o. option_and_then (into_all setting.items a.path)
          (rooted a.depth a.key.0 (body_of o) (held a.depth a.key.0 w))) h) ∙ e)
        where
          ty : (o : Option TyId) → setting.local_ty x.body a.key.0 ≡ o → option_and_then (into_all setting.items a.path)
              (rooted a.depth a.key.0 (Some x.body) (held a.depth a.key.0 w)) ≡ Some t → Rooted w a t
          ty None k e = absurd (let n : None ≡ Some t =
              sym (ap (λ o. option_and_then (into_all setting.items a.path)
              (option_map_or (λ id. Some (record {
                address = root_address a.depth a.key.0;
                dynamic =
                    OfType id;
                value = held a.depth a.key.0 w;
              })) o None)) k) ∙ e in cc)
          ty (Some id) k e = record {
            known = (x, h);
            root = record {
              address = root_address a.depth a.key.0;
              dynamic = OfType id;
              value =
                  held a.depth a.key.0 w;
            };
            root_is = ap (λ o. rooted a.depth a.key.0 (body_of o) (held a.depth a.key.0 w)) h
                ∙ ap (λ o. option_map_or (λ id. Some
                (record {
                  address = root_address a.depth a.key.0;
                  dynamic = OfType id;
                  value =
                      held a.depth a.key.0 w;
                })) o None) k;
            root_value = refl;
            root_address = refl;
            other_root = λ v. ap (λ o. rooted a.depth a.key.0 (body_of o) v) h
                ∙ ap (λ o. option_map_or (λ id. Some
                (record { address = root_address a.depth a.key.0; dynamic = OfType id; value = v })) o None) k;
            path = along setting.items a.path _ t (sym (ap (λ o. option_and_then (into_all setting.items a.path)
                (option_map_or (λ id. Some (record {
                  address = root_address a.depth a.key.0;
                  dynamic =
                      OfType id;
                  value = held a.depth a.key.0 w;
                })) o None)) k) ∙ e);
          }

  -- what stands at an address stands there by that address
  pub standing-address : (w : State) (a : Addr) (t : Located) → located_at setting w a ≡ Some t → t.address ≡ a
  standing-address w a t e = let r = to_root w a t e in r.path.address
      ∙ ap (λ (x : Addr). record x { path = x.path ++ a.path }) r.root_address

  pub standing-Stands : (w : State) (a : Addr) (t : Located) → located_at setting w a ≡ Some t → Stands w t
  standing-Stands w a t e = ap (located_at setting w) (standing-address w a t e) ∙ e

  -- after a change another value stands there
  pub stands-Changed : (w w' : State) (s : Located) (new : Datum) → Stands w s → Changed s.address new w w' →
      Stands w' (with_value s new)
  stands-Changed w w' s new e c =
      let r = to_root w s.address s e in
      standing-held w' s.address
      ∙ ap (λ b. option_and_then (into_all setting.items s.address.path)
      (rooted s.address.depth s.address.key.0 b (held s.address.depth s.address.key.0 w')))
      (c.bodies s.address.depth)
      ∙ ap (option_and_then (into_all setting.items s.address.path))
      (r.other_root (held s.address.depth s.address.key.0 w'))
      ∙ ap (λ v. into_all setting.items s.address.path (with_value r.root v))
      (c.here ∙ ap (replaced s.address.path new) (sym r.root_value))
      ∙ r.path.other new

  -- the part to which a step leads
  pub stands-into : (w : State) (s : Located) (step : At) → Stands w s → located_at setting w
      (below s.address step) ≡ into setting.items step s
  stands-into w s step e =
      let r = to_root w s.address s e in
      let whole : option_and_then (into_all setting.items s.address.path)
      (rooted s.address.depth s.address.key.0 (body_at s.address.depth w)
      (held s.address.depth s.address.key.0 w)) ≡ Some s = sym (standing-held w s.address) ∙ e in
      standing-held w (below s.address step)
      ∙ ap (option_and_then (into_all setting.items (s.address.path ++ step ∷ []))) r.root_is
      ∙ into_all-append setting.items s.address.path (step ∷ []) r.root
      ∙ ap (option_and_then (into_all setting.items (step ∷ [])))
      (sym (ap (option_and_then (into_all setting.items s.address.path)) r.root_is) ∙ whole)
      ∙ one (into setting.items step s)
    where
      one : (o : Option Located) → option_and_then (into_all setting.items []) o ≡ o
      one None = refl
      one (Some t) = refl

  -- a change of a part is a change of the container
  pub Changed-above : (w w' : State) (s t : Located) (step : At) (new : Datum) → Stands w s →
      Into setting.items step s t → Changed (below s.address step) new w w' → Changed s.address
      (with_part step new s.value) w w'
  Changed-above w w' s t step new e i c =
      let r = to_root w s.address s e in record {
        less = c.less;
        count = c.count;
        bodies = c.bodies;
        here = c.here ∙ replaced-append s.address.path (step ∷ []) new (held s.address.depth s.address.key.0 w) s.value
            (ap (value_at s.address.path) (sym r.root_value) ∙ r.path.stands)
            ∙ ap (λ v. replaced s.address.path v (held s.address.depth s.address.key.0 w))
            (replaced-step step [] new s.value i.value i.value_is);
        apart = c.apart;
      }

  -- a value may be put where it stands
  pub same-Changed : (w : State) (s : Located) → Stands w s → Changed s.address s.value w w
  same-Changed w s e =
      let r = to_root w s.address s e in record {
        less = omega arith;
        count = refl;
        bodies = λ d. refl;
        here = sym (replaced-value_at s.address.path (held s.address.depth s.address.key.0 w) s.value
            (ap (value_at s.address.path) (sym r.root_value) ∙ r.path.stands));
        apart = λ d k n. refl;
      }

  -- what is gone may be made gone
  pub gone-Changed : (w : State) (s : Located) → Stands w s → s.value ≡ Gone → Changed s.address Gone w w
  gone-Changed w s e g =
      let r = to_root w s.address s e in record {
        less = omega arith;
        count = refl;
        bodies = λ d. refl;
        here = sym (replaced-value_at s.address.path (held s.address.depth s.address.key.0 w) Gone
            (ap (value_at s.address.path) (sym r.root_value) ∙ r.path.stands ∙ ap Some g));
        apart = λ d k n. refl;
      }

  pub stands-known : (w : State) (s : Located) → Stands w s → Known s.address.depth w
  stands-known w s e = (to_root w s.address s e).known
