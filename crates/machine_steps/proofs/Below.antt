-- Where things stand after what is below one of them was replaced.
use Rattle.std.proofs.Common.{◌≡◌, ℕ, zero, suc, ◌==◌, ◌<◌, List, [], ◌∷◌, ◌++◌, length, Bool, true, false, Option, Some, None, refl, ap, sym, ◌∙◌, arith, append_assoc, append-nil}
use Rattle.std.proofs.lemmas.Bool.Decides.{Decides-eqb}
use Rattle.std.specs.Option.{option_and_then, option_map_or}
use Rattle.machine_steps.specs.Continuation.{from_part}
use Rattle.mir_ty.specs.ItemTable.{ItemTable}
use Rattle.mir_ty.specs.declared.ty.TyId.{TyId}
use Rattle.store_model.proofs.Values.Access.{replaced-step}
use Rattle.store_model.proofs.Values.OnePart.{part-with_part}
use Rattle.store_model.specs.declared.address.Addr.{Addr}
use Rattle.store_model.specs.declared.address.At.{At}
use Rattle.store_model.specs.declared.address.At.TheVariants.{Part, Inside}
use Rattle.store_model.specs.Concrete.Location.{Setting, DynamicType, OfType, Located, into, type_of_part, located_at, stored_at}
use Rattle.store_model.specs.Concrete.State.{State, Activation, Cells, cell, with_cell, at_depth, with_cell_at}
use Rattle.store_model.specs.Values.Access.{part, part_at, with_part, with_part_at, replaced}
use Rattle.store_model.specs.Values.Datum.{Datum, Data, Gone, Number, Truth, UnitValue, Aggregate, Box, Address, no_part, a_part}

-- Parts from a number on.

pub next_part : (n : ℕ) (parts : Data) (first : Datum) (rest : Data) → from_part n parts ≡ a_part first rest → (part_at n parts ≡ Some first) × (from_part (suc n) parts ≡ rest)
next_part zero no_part first rest e = absurd (cc)
next_part zero (a_part one others) first rest e = (ap Some (let k : one ≡ first = cc in k), (let k : others ≡ rest = cc in k))
next_part (suc n) no_part first rest e = absurd (cc)
next_part (suc n) (a_part one others) first rest e = next_part n others first rest e

pub later_parts_kept : (n k : ℕ) (new : Datum) (parts : Data) → k < n → from_part n (with_part_at k new parts) ≡ from_part n parts
later_parts_kept zero k new parts l = absurd (let never : ⊥ = omega arith in never)
later_parts_kept (suc n) zero new no_part l = refl
later_parts_kept (suc n) zero new (a_part first rest) l = refl
later_parts_kept (suc n) (suc k) new no_part l = refl
later_parts_kept (suc n) (suc k) new (a_part first rest) l = later_parts_kept n k new rest (omega arith)

-- One step.

abbrev pub with_value : Datum → Located → Located
with_value value s = record s { value = value }

module _ (items : ItemTable) where
  type_kept : (step : At) (new root : Datum) (dynamic : DynamicType) → type_of_part items step (with_part step new root) dynamic ≡ type_of_part items step root dynamic
  type_kept (Part n) new (Aggregate variant serial parts) dynamic = refl
  type_kept Inside new (Aggregate variant serial parts) dynamic = refl
  type_kept (Part n) new other dynamic = refl
  type_kept Inside new other dynamic = refl

  abbrev below : Addr → At → Addr
  below address step = record address { path = address.path ++ step ∷ [] }

  module _ (step : At) (s next : Located) (is : into items step s ≡ Some next) where
    -- the part is there, with a type
    pub record IsInto : Type 0 where
      pub part_is : part step s.value ≡ Some next.value
      pub type_is : type_of_part items step s.value s.dynamic ≡ Some next.dynamic
      pub address_is : next.address ≡ below s.address step

    is_into : (o : Option Datum) → part step s.value ≡ o → (t : Option DynamicType) → type_of_part items step s.value s.dynamic ≡ t → IsInto
    is_into None e t d = absurd (let k : None ≡ Some next = sym (rw e refl) ∙ is in cc)
    is_into (Some value) e None d = absurd (let k : None ≡ Some next = sym (rw (e, d) refl) ∙ is in cc)
    is_into (Some value) e (Some dynamic) d =
        let k : Some (record { address = below s.address step; dynamic = dynamic; value = value }) ≡ Some next = sym (rw (e, d) refl) ∙ is in
        let same : record { address = below s.address step; dynamic = dynamic; value = value } ≡ next = cc in
        record {
          part_is = e ∙ ap (λ (t : Located). Some t.value) same;
          type_is = d ∙ ap (λ (t : Located). Some t.dynamic) same;
          address_is = ap (λ (t : Located). t.address) (sym same);
        }

    pub parts_of_into : IsInto
    parts_of_into = is_into (part step s.value) refl (type_of_part items step s.value s.dynamic) refl

    pub into_replaced : (new : Datum) → into items step (with_value (with_part step new s.value) s) ≡ Some (with_value new next)
    into_replaced new =
        let h = parts_of_into in
        rw (part-with_part step new next.value s.value h.part_is, type_kept step new s.value s.dynamic, h.type_is)
        (ap (λ a. Some (record { address = a; dynamic = next.dynamic; value = new })) (sym h.address_is))

  pub into_is : (step : At) (s : Located) (value : Datum) (dynamic : DynamicType) → part step s.value ≡ Some value → type_of_part items step s.value s.dynamic ≡ Some dynamic →
      into items step s ≡ Some (record { address = below s.address step; dynamic = dynamic; value = value })
  into_is step s value dynamic e d = rw (e, d) refl

  pub into_untyped : (step : At) (s : Located) → type_of_part items step s.value s.dynamic ≡ None → into items step s ≡ None
  into_untyped step s d = go (part step s.value) refl
    where
      go : (o : Option Datum) → part step s.value ≡ o → into items step s ≡ None
      go None e = rw e refl
      go (Some value) e = rw (e, d) refl

-- Along a path.

module _ (items : ItemTable) where
  abbrev along : List At → Located → Option Located
  along [] s = Some s
  along (step ∷ path) s = option_and_then (along path) (into items step s)

  pub along_append : (path other : List At) (s : Located) → along (path ++ other) s ≡ option_and_then (along other) (along path s)
  along_append [] other s = refl
  along_append (step ∷ path) other s = go (along_append path other) (into items step s)
    where
      go : ((s : Located) → along (path ++ other) s ≡ option_and_then (along other) (along path s)) → (o : Option Located) →
          option_and_then (along (path ++ other)) o ≡ option_and_then (along other) (option_and_then (along path) o)
      go ih None = refl
      go ih (Some next) = ih next

  pub along_replaced : (path : List At) (root s : Located) → along path root ≡ Some s → (below : List At) (new : Datum) →
      along path (with_value (replaced (path ++ below) new root.value) root) ≡ Some (with_value (replaced below new s.value) s)
  along_replaced [] root s is below new = let same : root ≡ s = cc in ap (λ (s : Located). Some (with_value (replaced below new s.value) s)) same
  along_replaced (step ∷ path) root s is below new = go (along_replaced path) (into items step root) refl
    where
      go : ((root s : Located) → along path root ≡ Some s → (below : List At) (new : Datum) → along path (with_value (replaced (path ++ below) new root.value) root) ≡ Some (with_value (replaced below new s.value) s)) →
          (o : Option Located) → into items step root ≡ o → along (step ∷ path) (with_value (replaced (step ∷ (path ++ below)) new root.value) root) ≡ Some (with_value (replaced below new s.value) s)
      go ih None e = absurd (let k : None ≡ Some s = sym (ap (option_and_then (along path)) e) ∙ is in cc)
      go ih (Some next) e =
          let rest : along path next ≡ Some s = sym (ap (option_and_then (along path)) e) ∙ is in
          let h = parts_of_into items step root next e in
          ap (λ d. option_and_then (along path) (into items step (with_value d root))) (replaced-step step (path ++ below) new root.value next.value h.part_is)
          ∙ ap (option_and_then (along path)) (into_replaced items step root next e (replaced (path ++ below) new next.value))
          ∙ ih next s rest below new

  -- what is found along a path stands at that address
  pub along_address : (path : List At) (root s : Located) → along path root ≡ Some s → s.address ≡ record root.address { path = root.address.path ++ path }
  along_address [] root s is = let same : root ≡ s = cc in ap (λ (s : Located). s.address) (sym same) ∙ ap (λ p. record root.address { path = p }) (sym (append-nil root.address.path))
  along_address (step ∷ path) root s is = go (along_address path) (into items step root) refl
    where
      go : ((root s : Located) → along path root ≡ Some s → s.address ≡ record root.address { path = root.address.path ++ path }) → (o : Option Located) → into items step root ≡ o → s.address ≡ record root.address { path = root.address.path ++ step ∷ path }
      go ih None e = absurd (let k : None ≡ Some s = sym (ap (option_and_then (along path)) e) ∙ is in cc)
      go ih (Some next) e =
          let rest : along path next ≡ Some s = sym (ap (option_and_then (along path)) e) ∙ is in
          let h = parts_of_into items step root next e in
          ih next s rest
          ∙ ap (λ (a : Addr). record a { path = a.path ++ path }) h.address_is
          ∙ ap (λ p. record root.address { path = p }) (append_assoc root.address.path (step ∷ []) path)

-- In a run.

pub same_number : (n : ℕ) → (n == n) ≡ true
same_number n = (Decides-eqb n n).1 refl

pub cell_stored : (key : ℕ) (value : Datum) (cells : Cells) → cell key (with_cell key value cells) ≡ value
cell_stored key value [] = rw (same_number key) refl
cell_stored key value (c ∷ cells) = go (cell_stored key value cells) (key == c.0) refl
  where
    go : cell key (with_cell key value cells) ≡ value → (b : Bool) → (key == c.0) ≡ b → cell key (with_cell key value (c ∷ cells)) ≡ value
    go ih true e = rw (e, same_number key) refl
    go ih false e = rw (e, e) ih

pub as_many : (depth key : ℕ) (value : Datum) (acts : List Activation) → length (with_cell_at depth key value acts) ≡ length acts
as_many depth key value [] = refl
as_many depth key value (a ∷ older) = go (as_many depth key value older) (depth == length older) refl
  where
    go : length (with_cell_at depth key value older) ≡ length older → (b : Bool) → (depth == length older) ≡ b → length (with_cell_at depth key value (a ∷ older)) ≡ suc (length older)
    go ih true e = rw e refl
    go ih false e = rw e (ap suc ih)

pub stored_in : (depth key : ℕ) (value : Datum) (acts : List Activation) (a : Activation) → at_depth depth acts ≡ Some a →
    at_depth depth (with_cell_at depth key value acts) ≡ Some (record a { cells = with_cell key value a.cells })
stored_in depth key value [] a is = absurd (cc)
stored_in depth key value (b ∷ older) a is = go (stored_in depth key value older a) (depth == length older) refl
  where
    go : (at_depth depth older ≡ Some a → at_depth depth (with_cell_at depth key value older) ≡ Some (record a { cells = with_cell key value a.cells })) → (t : Bool) → (depth == length older) ≡ t → at_depth depth (with_cell_at depth key value (b ∷ older)) ≡ Some (record a { cells = with_cell key value a.cells })
    go ih true e =
        let k : Some b ≡ Some a = sym (rw e refl) ∙ is in
        let same : b ≡ a = cc in
        rw (e, e) (ap (λ (a : Activation). Some (record a { cells = with_cell key value a.cells })) same)
    go ih false e =
        let k : at_depth depth older ≡ Some a = sym (rw e refl) ∙ is in
        rw (e, as_many depth key value older, e) (ih k)

module _ (setting : Setting) (w : State) (address : Addr) (s : Located) (is : located_at setting w address ≡ Some s) where
  -- the local in which it stands
  pub record InLocal : Type 0 where
    pub activation : Activation
    pub there : at_depth address.depth w.activations ≡ Some activation
    pub ty : TyId
    pub typed : setting.local_ty activation.body address.key.0 ≡ Some ty

  abbrev root_of_local : TyId → Cells → Located
  root_of_local ty cells = record {
    address = record { depth = address.depth; key = (record { 0 = address.key.0 }); path = [] };
    dynamic = OfType ty;
    value = cell address.key.0 cells;
  }

  in_local : (o : Option Activation) → at_depth address.depth w.activations ≡ o → InLocal
  in_local None e = absurd (let k : None ≡ Some s = sym (rw e refl) ∙ is in cc)
  in_local (Some a) e = go (setting.local_ty a.body address.key.0) refl
    where
      go : (t : Option TyId) → setting.local_ty a.body address.key.0 ≡ t → InLocal
      go None d = absurd (let k : None ≡ Some s = sym (rw (e, d) refl) ∙ is in cc)
      go (Some ty) d = record { activation = a; there = e; ty = ty; typed = d }

  pub local_of : InLocal
  local_of = in_local (at_depth address.depth w.activations) refl

  pub by_local : (path : List At) (v : State) (a : Activation) (ty : TyId) → at_depth address.depth v.activations ≡ Some a → setting.local_ty a.body address.key.0 ≡ Some ty →
      located_at setting v (record address { path = path }) ≡ along setting.items path (root_of_local ty a.cells)
  by_local path v a ty e d = rw (e, d) refl

  along_local : along setting.items address.path (root_of_local local_of.ty local_of.activation.cells) ≡ Some s
  along_local = let l = local_of in sym (by_local address.path w l.activation l.ty l.there l.typed) ∙ is

  pub stands_at : s.address ≡ address
  stands_at = let l = local_of in along_address setting.items address.path (root_of_local l.ty l.activation.cells) s along_local

  -- after something was stored below it, it is found as before, with what was stored in it
  pub located_stored : (below : List At) (new : Datum) →
      located_at setting (stored_at (record address { path = address.path ++ below }) new w) address ≡ Some (with_value (replaced below new s.value) s)
  located_stored below new =
      let l = local_of in
      let key = address.key.0 in
      let root = option_map_or (λ (a : Activation). cell key a.cells) (at_depth address.depth w.activations) Gone in
      let value = replaced (address.path ++ below) new root in
      let cells = with_cell key value l.activation.cells in
      let same : root ≡ cell key l.activation.cells = ap (λ o. option_map_or (λ (a : Activation). cell key a.cells) o Gone) l.there in
      by_local address.path (stored_at (record address { path = address.path ++ below }) new w) (record l.activation { cells = cells }) l.ty
      (stored_in address.depth key value w.activations l.activation l.there) l.typed
      ∙ ap (λ d. along setting.items address.path (record (root_of_local l.ty l.activation.cells) { value = d }))
      (cell_stored key value l.activation.cells ∙ ap (replaced (address.path ++ below) new) same)
      ∙ along_replaced setting.items address.path (root_of_local l.ty l.activation.cells) s along_local below new

-- a part of what is found stands below it
pub located_step : (setting : Setting) (w : State) (address : Addr) (s : Located) → located_at setting w address ≡ Some s → (step : At) →
    located_at setting w (record address { path = address.path ++ step ∷ [] }) ≡ into setting.items step s
located_step setting w address s is step =
    let l = local_of setting w address s is in
    let root = root_of_local setting w address s is l.ty l.activation.cells in
    by_local setting w address s is (address.path ++ step ∷ []) w l.activation l.ty l.there l.typed
    ∙ along_append setting.items address.path (step ∷ []) root ∙ ap (option_and_then (along setting.items (step ∷ []))) (along_local setting w address s is)
    ∙ one (into setting.items step s)
  where
    one : (o : Option Located) → option_and_then (along setting.items []) o ≡ o
    one None = refl
    one (Some s) = refl
