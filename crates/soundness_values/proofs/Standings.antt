-- What stands at an address, after another value was stored there; and activations that hold the same.
use Rattle.std.proofs.Common.{◌≡◌, ℕ, ◌==◌, Bool, true, false, List, [], ◌∷◌, ◌++◌, length, Option, Some, None, if◌then◌else◌, refl, ap, sym, ◌∙◌, subst}
use Rattle.std.specs.Prelude.{option_and_then}
use Rattle.std.specs.Option.{option_map_or}
use Rattle.std.proofs.lemmas.Bool.Decides.{Decides-eqb}
use Rattle.std.proofs.lemmas.Option.{none-some}
use Rattle.mir_ty.specs.declared.ty.TyId.{TyId}
use Rattle.mir_ty.specs.ItemTable.{ItemTable}
use Rattle.store_model.proofs.Values.Access.{replaced-step, part-replaced, replaced-replaced, replaced-append, replaced-value_at}
use Rattle.store_model.specs.declared.address.Addr.{Addr}
use Rattle.store_model.specs.declared.address.At.{At}
use Rattle.store_model.specs.declared.address.At.TheVariants.{Part, Inside}
use Rattle.store_model.specs.Values.Datum.{Datum, Gone}
use Rattle.store_model.specs.Values.Access.{part, with_part, value_at, replaced}
use Rattle.store_model.specs.Concrete.Location.{Setting, DynamicType, OfType, type_of_part, Located, below, into, into_all, located_part, located_root, located_in, located_at, stored_at, root_of}
pub use Rattle.soundness_values.specs.Frames.{SameCells, Alike, none_runs, one_runs}
use Rattle.store_model.specs.Concrete.State.{State, Activation, Cells, cell, with_cell, at_depth, with_cell_at}

same_key : (n : ℕ) → (n == n) ≡ true
same_key n = (Decides-eqb n n).1 refl

-- ---- cells

pub cell_changed : (key : ℕ) (value : Datum) (cells : Cells) → cell key (with_cell key value cells) ≡ value
cell_changed key value [] = ap (λ b. if b then value else Gone) (same_key key)
cell_changed key value (c ∷ cells) = by (key == c.0) refl (cell_changed key value cells)
  where
    by : (b : Bool) → (key == c.0) ≡ b → cell key (with_cell key value cells) ≡ value →
        cell key (if b then (key, value) ∷ cells else c ∷ with_cell key value cells) ≡ value
    by true e later = ap (λ b. if b then value else cell key cells) (same_key key)
    by false e later = ap (λ b. if b then c.1 else cell key (with_cell key value cells)) e ∙ later

pub cell_other : (key other : ℕ) (value : Datum) (cells : Cells) → (other == key) ≡ false →
    cell other (with_cell key value cells) ≡ cell other cells
cell_other key other value [] h = ap (λ b. if b then value else Gone) h
cell_other key other value (c ∷ cells) h = by (key == c.0) refl (cell_other key other value cells h)
  where
    by : (b : Bool) → (key == c.0) ≡ b → cell other (with_cell key value cells) ≡ cell other cells →
        cell other (if b then (key, value) ∷ cells else c ∷ with_cell key value cells)
        ≡ (if other == c.0 then c.1 else cell other cells)
    by true e later =
        ap (λ b. if b then value else cell other cells) h
        ∙ sym (ap (λ b. if b then c.1 else cell other cells) (ap (λ n. other == n) (sym ((Decides-eqb key c.0).0 e))
        ∙ h))
    by false e later = ap (λ x. if other == c.0 then c.1 else x) later

pub changed_same : (key : ℕ) (value : Datum) (a b : Cells) → SameCells a b → SameCells (with_cell key value a)
    (with_cell key value b)
changed_same key value a b h other = by (other == key) refl
  where
    by : (t : Bool) → (other == key) ≡ t → cell other (with_cell key value a) ≡ cell other (with_cell key value b)
    by true e =
        let same : other ≡ key = (Decides-eqb other key).0 e in
        subst (λ k. cell k (with_cell key value a) ≡ cell k (with_cell key value b)) (sym same)
        (cell_changed key value a ∙ sym (cell_changed key value b))
    by false e = cell_other key other value a e ∙ h other ∙ sym (cell_other key other value b e)

pub changed_again : (key : ℕ) (value later : Datum) (a : Cells) →
    SameCells (with_cell key later (with_cell key value a)) (with_cell key later a)
changed_again key value later a other = by (other == key) refl
  where
    by : (t : Bool) → (other == key) ≡ t → cell other (with_cell key later (with_cell key value a)) ≡ cell other
        (with_cell key later a)
    by true e =
        let same : other ≡ key = (Decides-eqb other key).0 e in
        subst (λ k. cell k (with_cell key later (with_cell key value a)) ≡ cell k (with_cell key later a)) (sym same)
        (cell_changed key later (with_cell key value a) ∙ sym (cell_changed key later a))
    by false e = cell_other key other later (with_cell key value a) e ∙ cell_other key other value a e
        ∙ sym (cell_other key other later a e)

changed_not : (key : ℕ) (a : Cells) → SameCells a (with_cell key (cell key a) a)
changed_not key a other = by (other == key) refl
  where
    by : (t : Bool) → (other == key) ≡ t → cell other a ≡ cell other (with_cell key (cell key a) a)
    by true e =
        let same : other ≡ key = (Decides-eqb other key).0 e in
        subst (λ k. cell k a ≡ cell k (with_cell key (cell key a) a)) (sym same)
        (sym (cell_changed key (cell key a) a))
    by false e = sym (cell_other key other (cell key a) a e)

-- ---- activations

pub alike_itself : (acts : List Activation) → Alike acts acts
alike_itself [] = none_runs
alike_itself (a ∷ older) = one_runs a.body a.cells a.cells older older (λ key. refl) (alike_itself older)

pub alike_back : {a b : List Activation} → Alike a b → Alike b a
alike_back none_runs = none_runs
alike_back (one_runs body a b older older' h k) = one_runs body b a older' older (λ key. sym (h key)) (alike_back k)

then_alike : (body : ℕ) (a b : Cells) (older older' : List Activation) → SameCells a b → Alike older older' →
    (c : List Activation) →
    ((c : List Activation) → Alike older' c → Alike older c) →
    Alike ((record { body = body; cells = b }) ∷ older') c →
    Alike ((record { body = body; cells = a }) ∷ older) c
then_alike body a b older older' h k c later (one_runs _ _ b' _ older'' h' k') = one_runs body a b' older older''
    (λ key. h key ∙ h' key) (later older'' k')

pub alike_after : {a b : List Activation} → Alike a b → (c : List Activation) → Alike b c → Alike a c
alike_after none_runs c e = e
alike_after (one_runs body a b older older' h k) c e = then_alike body a b older older' h k c (alike_after k) e

pub alike_length : {a b : List Activation} → Alike a b → length a ≡ length b
alike_length none_runs = refl
alike_length (one_runs body a b older older' h k) = let later = alike_length k in cc

pub changed_length : (depth key : ℕ) (value : Datum) (acts : List Activation) →
    length (with_cell_at depth key value acts) ≡ length acts
changed_length depth key value [] = refl
changed_length depth key value (a ∷ older) = by (depth == length older) (changed_length depth key value older)
  where
    by : (b : Bool) → length (with_cell_at depth key value older) ≡ length older →
        length (if b then (record a { cells = with_cell key value a.cells }) ∷ older else a ∷ with_cell_at depth key
        value older) ≡ length (a ∷ older)
    by true later = refl
    by false later = cc

-- another value under one key of alike activations
pub changed_alike : {a b : List Activation} (depth key : ℕ) (value : Datum) → Alike a b →
    Alike (with_cell_at depth key value a) (with_cell_at depth key value b)
changed_alike depth key value none_runs = none_runs
changed_alike depth key value (one_runs body a b older older' h k) =
    subst (λ n. Alike (if depth == length older then (record { body = body; cells = with_cell key value a })
    ∷ older else (record { body = body; cells = a }) ∷ with_cell_at depth key value older)
    (if depth == n then (record { body = body; cells = with_cell key value b }) ∷ older' else
    (record { body = body; cells = b }) ∷ with_cell_at depth key value older')) (alike_length k)
    (by (depth == length older) (changed_alike depth key value k))
  where
    by : (t : Bool) → Alike (with_cell_at depth key value older) (with_cell_at depth key value older') →
        Alike (if t then (record { body = body; cells = with_cell key value a }) ∷ older else
        (record { body = body; cells = a }) ∷ with_cell_at depth key value older)
        (if t then (record { body = body; cells = with_cell key value b }) ∷ older' else
        (record { body = body; cells = b }) ∷ with_cell_at depth key value older')
    by true later = one_runs body _ _ older older' (changed_same key value a b h) k
    by false later = one_runs body a b _ _ h later

-- of two values under one key the later stays
pub changed_twice : (depth key : ℕ) (value later : Datum) (acts : List Activation) →
    Alike (with_cell_at depth key later (with_cell_at depth key value acts)) (with_cell_at depth key later acts)
changed_twice depth key value later [] = none_runs
changed_twice depth key value later (a ∷ older) = by (depth == length older) refl
    (changed_twice depth key value later older)
  where
    by : (b : Bool) → (depth == length older) ≡ b →
        Alike (with_cell_at depth key later (with_cell_at depth key value older))
        (with_cell_at depth key later older) →
        Alike (with_cell_at depth key later
        (if b then (record a { cells = with_cell key value a.cells }) ∷ older else a ∷ with_cell_at depth key value
        older))
        (if b then (record a { cells = with_cell key later a.cells }) ∷ older else a ∷ with_cell_at depth key later
        older)
    by true e k =
        subst (λ b. Alike (if b then (record a { cells = with_cell key later (with_cell key value a.cells) })
        ∷ older else (record a { cells = with_cell key value a.cells }) ∷ with_cell_at depth key later older)
        ((record a { cells = with_cell key later a.cells }) ∷ older)) (sym e)
        (one_runs a.body _ _ older older (changed_again key value later a.cells) (alike_itself older))
    by false e k =
        subst (λ b. Alike (if b then (record a { cells = with_cell key later a.cells }) ∷ with_cell_at depth key
        value
        older else a ∷ with_cell_at depth key later (with_cell_at depth key value older))
        (a ∷ with_cell_at depth key later older))
        (sym (ap (λ n. depth == n) (changed_length depth key value older) ∙ e))
        (one_runs a.body a.cells a.cells _ _ (λ key. refl) k)

-- ---- what stands at a path below what stands somewhere

module _ (items : ItemTable) where
  pub record PartOf (step : At) (s t : Located) : Type 0 where
    pub inner : Datum
    pub dynamic : DynamicType
    pub is_part : part step s.value ≡ Some inner
    pub is_found : type_of_part items step s.value s.dynamic ≡ Some dynamic
    pub is_it : t ≡ record { address = below s.address step; dynamic = dynamic; value = inner }

  pub part_of : (step : At) (s t : Located) → into items step s ≡ Some t → PartOf step s t
  part_of step s t e = by (part step s.value) refl (type_of_part items step s.value s.dynamic) refl e
    where
      by : (o : Option Datum) → part step s.value ≡ o → (f : Option DynamicType) →
          type_of_part items step s.value s.dynamic ≡ f → located_part s step o f ≡ Some t → PartOf step s t
      by None d f k e = absurd (none-some t e)
      by (Some inner) d None k e = absurd (none-some t e)
      by (Some inner) d (Some dynamic) k e =
          record {
            inner = inner;
            dynamic = dynamic;
            is_part = d;
            is_found = k;
            is_it =
                let same : record { address = below s.address step; dynamic = dynamic; value = inner } ≡ t =
                cc in sym same;
          }

  type_after : (step : At) (new v : Datum) (dynamic : DynamicType) →
      type_of_part items step (with_part step new v) dynamic ≡ type_of_part items step v dynamic
  type_after (Part n) new Gone dynamic = refl
  type_after Inside new Gone dynamic = refl
  type_after (Part n) new other dynamic = refl
  type_after Inside new other dynamic = refl

  pub into_one : (step : At) (s : Located) → into_all items (step ∷ []) s ≡ into items step s
  into_one step s = by (into items step s)
    where
      by : (o : Option Located) → option_and_then (into_all items []) o ≡ o
      by None = refl
      by (Some t) = refl

  pub into_append : (path rest : List At) (s : Located) → into_all items (path ++ rest) s ≡ option_and_then
      (into_all items rest) (into_all items path s)
  into_append [] rest s = refl
  into_append (step ∷ path) rest s = by (λ t. into_append path rest t) (into items step s)
    where
      by : ((t : Located) → into_all items (path ++ rest) t ≡ option_and_then (into_all items rest)
          (into_all items path t)) → (o : Option Located) →
          option_and_then (into_all items (path ++ rest)) o ≡ option_and_then (into_all items rest)
          (option_and_then (into_all items path) o)
      by later None = refl
      by later (Some t) = later t

  -- what is stored at the end of a path stands there, found as before
  into_stored : (path : List At) (d : Datum) (s t : Located) → into_all items path s ≡ Some t →
      into_all items path (record s { value = replaced path d s.value }) ≡ Some (record t { value = d })
  into_stored [] d s t e = let same : s ≡ t = cc in ap (λ (x : Located). Some (record x { value = d })) same
  into_stored (step ∷ path) d s t e = by (λ u h. into_stored path d u t h) (into items step s) refl e
    where
      by : ((u : Located) → into_all items path u ≡ Some t →
          into_all items path (record u { value = replaced path d u.value }) ≡ Some (record t { value = d })) →
          (o : Option Located) → into items step s ≡ o → option_and_then (into_all items path) o ≡ Some t →
          option_and_then (into_all items path)
          (into items step (record s { value = replaced (step ∷ path) d s.value })) ≡ Some (record t { value = d })
      by later None k e = absurd (none-some t e)
      by later (Some u) k e =
          let p = part_of step s u k in
          let shape : replaced (step ∷ path) d s.value ≡ with_part step (replaced path d p.inner) s.value =
          replaced-step step path d s.value p.inner p.is_part in
          let there : part step (replaced (step ∷ path) d s.value) ≡ Some (replaced path d p.inner) =
          part-replaced step path d s.value p.inner p.is_part in
          let found : type_of_part items step (replaced (step ∷ path) d s.value) s.dynamic ≡ Some p.dynamic =
          ap (λ v. type_of_part items step v s.dynamic) shape
          ∙ type_after step (replaced path d p.inner) s.value s.dynamic ∙ p.is_found in
          let now : into items step (record s { value = replaced (step ∷ path) d s.value }) ≡ Some
          (record { address = below s.address step; dynamic = p.dynamic; value = replaced path d p.inner }) =
          ap (λ x. located_part (record s { value = replaced (step ∷ path) d s.value }) step x
          (type_of_part items step (replaced (step ∷ path) d s.value) s.dynamic)) there
          ∙ ap (λ x. located_part (record s { value = replaced (step ∷ path) d s.value }) step
          (Some (replaced path d p.inner)) x) found in
          ap (option_and_then (into_all items path)) now
          ∙ later (record { address = below s.address step; dynamic = p.dynamic; value = p.inner })
          (ap (into_all items path) (sym p.is_it) ∙ e)

  into_value : (path : List At) (s t : Located) → into_all items path s ≡ Some t →
      value_at path s.value ≡ Some t.value
  into_value [] s t e = let same : s ≡ t = cc in ap (λ (x : Located). Some x.value) same
  into_value (step ∷ path) s t e = by (λ u h. into_value path u t h) (into items step s) refl e
    where
      by : ((u : Located) → into_all items path u ≡ Some t → value_at path u.value ≡ Some t.value) →
          (o : Option Located) → into items step s ≡ o → option_and_then (into_all items path) o ≡ Some t →
          option_and_then (value_at path) (part step s.value) ≡ Some t.value
      by later None k e = absurd (none-some t e)
      by later (Some u) k e =
          let p = part_of step s u k in
          ap (option_and_then (value_at path)) p.is_part
          ∙ later (record { address = below s.address step; dynamic = p.dynamic; value = p.inner })
          (ap (into_all items path) (sym p.is_it) ∙ e)

module _ (setting : Setting) where
  abbrev I : ItemTable
  I = setting.items

  pub located_below : (w : State) (a : Addr) (s : Located) (step : At) → located_at setting w a ≡ Some s →
      located_at setting w (below a step) ≡ into I step s
  located_below w a s step e = by (located_in setting w a.depth a.key.0 (at_depth a.depth w.activations)) e
    where
      by : (o : Option Located) → option_and_then (into_all I a.path) o ≡ Some s →
          option_and_then (into_all I (a.path ++ step ∷ [])) o ≡ into I step s
      by None e = absurd (none-some s e)
      by (Some r) e = into_append I a.path (step ∷ []) r ∙ ap (option_and_then (into_all I (step ∷ []))) e
          ∙ into_one I step s

  root_same : (w v : State) (depth key : ℕ) {acts acts' : List Activation} → Alike acts acts' →
      located_in setting w depth key (at_depth depth acts) ≡ located_in setting v depth key (at_depth depth acts')
  root_same w v depth key none_runs = refl
  root_same w v depth key (one_runs body a b older older' h k) =
      subst (λ n. located_in setting w depth key
      (if depth == length older then Some (record { body = body; cells = a }) else at_depth depth older)
      ≡ located_in setting v depth key
      (if depth == n then Some (record { body = body; cells = b }) else at_depth depth older')) (alike_length k)
      (by (depth == length older) (root_same w v depth key k))
    where
      here : (o : Option TyId) → located_root depth key a o ≡ located_root depth key b o
      here None = refl
      here (Some id) = let e = h key in cc

      by : (t : Bool) → located_in setting w depth key (at_depth depth older) ≡ located_in setting v depth key
          (at_depth depth older') →
          located_in setting w depth key
          (if t then Some (record { body = body; cells = a }) else at_depth depth older)
          ≡ located_in setting v depth key
          (if t then Some (record { body = body; cells = b }) else at_depth depth older')
      by true later = here (setting.local_ty body key)
      by false later = later

  -- alike activations hold the same at each address
  pub alike_located : (w v : State) → Alike w.activations v.activations → (a : Addr) →
      located_at setting w a ≡ located_at setting v a
  alike_located w v k a = ap (option_and_then (into_all I a.path)) (root_same w v a.depth a.key.0 k)

  held_same : (depth key : ℕ) {acts acts' : List Activation} → Alike acts acts' →
      option_map_or (λ (x : Activation). cell key x.cells) (at_depth depth acts) Gone ≡ option_map_or
      (λ (x : Activation). cell key x.cells) (at_depth depth acts') Gone
  held_same depth key none_runs = refl
  held_same depth key (one_runs body a b older older' h k) =
      subst (λ n. option_map_or (λ (x : Activation). cell key x.cells)
      (if depth == length older then Some (record { body = body; cells = a }) else at_depth depth older) Gone
      ≡ option_map_or (λ (x : Activation). cell key x.cells)
      (if depth == n then Some (record { body = body; cells = b }) else at_depth depth older') Gone)
      (alike_length k)
      (by (depth == length older) (held_same depth key k))
    where
      by : (t : Bool) → option_map_or (λ (x : Activation). cell key x.cells) (at_depth depth older) Gone
          ≡ option_map_or
          (λ (x : Activation). cell key x.cells) (at_depth depth older') Gone →
          option_map_or (λ (x : Activation). cell key x.cells)
          (if t then Some (record { body = body; cells = a }) else at_depth depth older) Gone
          ≡ option_map_or (λ (x : Activation). cell key x.cells)
          (if t then Some (record { body = body; cells = b }) else at_depth depth older') Gone
      by true later = h key
      by false later = later

  -- the same is stored in alike activations
  pub stored_alike : (w v : State) (a : Addr) (d : Datum) → Alike w.activations v.activations →
      Alike (stored_at a d w).activations (stored_at a d v).activations
  stored_alike w v a d k =
      subst (λ r. Alike (stored_at a d w).activations
      (with_cell_at a.depth a.key.0 (replaced a.path d r) v.activations)) (held_same a.depth a.key.0 k)
      (changed_alike a.depth a.key.0 (replaced a.path d (root_of a w)) k)

  pub depth_changed : (depth key : ℕ) (value : Datum) (act : Activation) (acts : List Activation) →
      at_depth depth acts ≡ Some act →
      at_depth depth (with_cell_at depth key value acts) ≡ Some
      (record act { cells = with_cell key value act.cells })
  depth_changed depth key value act [] e = absurd (none-some act e)
  depth_changed depth key value act (a ∷ older) e = by (depth == length older) refl e
      (depth_changed depth key value act older)
    where
      by : (t : Bool) → (depth == length older) ≡ t → (if t then Some a else at_depth depth older) ≡ Some act →
          (at_depth depth older ≡ Some act → at_depth depth (with_cell_at depth key value older) ≡ Some
          (record act { cells = with_cell key value act.cells })) →
          at_depth depth (if t then (record a { cells = with_cell key value a.cells }) ∷ older else a
          ∷ with_cell_at depth key value older) ≡ Some (record act { cells = with_cell key value act.cells })
      by true t e later =
          ap (λ b. if b then Some (record a { cells = with_cell key value a.cells }) else at_depth depth older) t
          ∙ (let same : a ≡ act =
          cc in ap (λ (x : Activation). Some (record x { cells = with_cell key value x.cells }))
          same)
      by false t e later =
          ap (λ b. if b then Some a else at_depth depth (with_cell_at depth key value older))
          (ap (λ n. depth == n) (changed_length depth key value older) ∙ t) ∙ later e

  -- what an address of a running activation is
  pub record RunsAt (w : State) (a : Addr) (s : Located) : Type 0 where
    pub act : Activation
    pub is_at : at_depth a.depth w.activations ≡ Some act
    pub id : TyId
    pub is_typed : setting.local_ty act.body a.key.0 ≡ Some id
    pub leads : into_all I a.path
        (record { address = record a { path = [] }; dynamic = OfType id; value = cell a.key.0 act.cells }) ≡ Some s

  pub runs_at : (w : State) (a : Addr) (s : Located) → located_at setting w a ≡ Some s → RunsAt w a s
  runs_at w a s e = by (at_depth a.depth w.activations) refl e
    where
      by_ty : (act : Activation) → at_depth a.depth w.activations ≡ Some act → (o : Option TyId) →
          setting.local_ty act.body a.key.0 ≡ o →
          option_and_then (into_all I a.path) (located_root a.depth a.key.0 act.cells o) ≡ Some s → RunsAt w a s
      by_ty act d None t e = absurd (none-some s e)
      by_ty act d (Some id) t e = record { act = act; is_at = d; id = id; is_typed = t; leads = e }

      by : (o : Option Activation) → at_depth a.depth w.activations ≡ o → option_and_then (into_all I a.path)
          (located_in setting w a.depth a.key.0 o) ≡ Some s → RunsAt w a s
      by None d e = absurd (none-some s e)
      by (Some act) d e = by_ty act d (setting.local_ty act.body a.key.0) refl e

  pub held_at : (w : State) (a : Addr) (s : Located) (r : RunsAt w a s) → root_of a w ≡ cell a.key.0 r.act.cells
  held_at w a s r = ap (λ o. option_map_or (λ (x : Activation). cell a.key.0 x.cells) o Gone) r.is_at

  pub value_there : (w : State) (a : Addr) (s : Located) → located_at setting w a ≡ Some s →
      value_at a.path (root_of a w) ≡ Some s.value
  value_there w a s e =
      let r = runs_at w a s e in
      ap (value_at a.path) (held_at w a s r)
      ∙ into_value I a.path
      (record { address = record a { path = [] }; dynamic = OfType r.id; value = cell a.key.0 r.act.cells }) s
      r.leads

  -- what is stored at an address stands there, found as before
  pub stored_located : (w : State) (a : Addr) (s : Located) (d : Datum) → located_at setting w a ≡ Some s →
      located_at setting (stored_at a d w) a ≡ Some (record s { value = d })
  stored_located w a s d e =
      let r = runs_at w a s e in
      ap (λ o. option_and_then (into_all I a.path) (located_in setting w a.depth a.key.0 o))
      (depth_changed a.depth a.key.0 (replaced a.path d (root_of a w)) r.act w.activations r.is_at)
      ∙ ap (λ o. option_and_then (into_all I a.path)
      (located_root a.depth a.key.0 (with_cell a.key.0 (replaced a.path d (root_of a w)) r.act.cells) o)) r.is_typed
      ∙ ap (λ v. into_all I a.path (record { address = record a { path = [] }; dynamic = OfType r.id; value = v }))
      (cell_changed a.key.0 (replaced a.path d (root_of a w)) r.act.cells ∙ ap (replaced a.path d) (held_at w a s r))
      ∙ into_stored I a.path d
      (record { address = record a { path = [] }; dynamic = OfType r.id; value = cell a.key.0 r.act.cells }) s
      r.leads

  -- to store below an address is to change what stands there
  pub stored_below : (w : State) (a : Addr) (s : Located) (step : At) (d : Datum) → located_at setting w a ≡ Some s →
      stored_at (below a step) d w ≡ stored_at a (replaced (step ∷ []) d s.value) w
  stored_below w a s step d e =
      ap (λ (v : Datum). record w { activations = with_cell_at a.depth a.key.0 v w.activations })
      (replaced-append a.path (step ∷ []) d (root_of a w) s.value (value_there w a s e))

  -- of two values at one address the later stays
  pub stored_twice : (w : State) (a : Addr) (s : Located) (c d : Datum) → located_at setting w a ≡ Some s →
      Alike (stored_at a d (stored_at a c w)).activations (stored_at a d w).activations
  stored_twice w a s c d e =
      let r = runs_at w a s e in
      let root : root_of a (stored_at a c w) ≡ replaced a.path c (root_of a w) =
      ap (λ o. option_map_or (λ (x : Activation). cell a.key.0 x.cells) o Gone)
      (depth_changed a.depth a.key.0 (replaced a.path c (root_of a w)) r.act w.activations r.is_at)
      ∙ cell_changed a.key.0 (replaced a.path c (root_of a w)) r.act.cells in
      subst (λ v. Alike (with_cell_at a.depth a.key.0 v
      (with_cell_at a.depth a.key.0 (replaced a.path c (root_of a w)) w.activations)) (stored_at a d w).activations)
      (sym (ap (replaced a.path d) root ∙ replaced-replaced a.path c d (root_of a w)))
      (changed_twice a.depth a.key.0 (replaced a.path c (root_of a w)) (replaced a.path d (root_of a w))
      w.activations)

  not_changed : (depth key : ℕ) (act : Activation) (acts : List Activation) → at_depth depth acts ≡ Some act →
      Alike acts (with_cell_at depth key (cell key act.cells) acts)
  not_changed depth key act [] e = absurd (none-some act e)
  not_changed depth key act (a ∷ older) e = by (depth == length older) e (not_changed depth key act older)
    where
      by : (t : Bool) → (if t then Some a else at_depth depth older) ≡ Some act →
          (at_depth depth older ≡ Some act → Alike older (with_cell_at depth key (cell key act.cells) older)) →
          Alike (a ∷ older) (if t then (record a { cells = with_cell key (cell key act.cells) a.cells })
          ∷ older else a
          ∷ with_cell_at depth key (cell key act.cells) older)
      by true e later =
          let same : a ≡ act = cc in
          subst (λ (x : Activation). Alike (a ∷ older)
          ((record a { cells = with_cell key (cell key x.cells) a.cells }) ∷ older)) same
          (one_runs a.body a.cells (with_cell key (cell key a.cells) a.cells) older older (changed_not key a.cells)
          (alike_itself older))
      by false e later = one_runs a.body a.cells a.cells older _ (λ k. refl) (later e)

  -- what stands at an address, stored there again, changes nothing
  pub stored_same : (w : State) (a : Addr) (s : Located) → located_at setting w a ≡ Some s →
      Alike w.activations (stored_at a s.value w).activations
  stored_same w a s e =
      let r = runs_at w a s e in
      subst (λ v. Alike w.activations (with_cell_at a.depth a.key.0 v w.activations))
      (sym (replaced-value_at a.path (root_of a w) s.value (value_there w a s e) ∙ held_at w a s r))
      (not_changed a.depth a.key.0 r.act w.activations r.is_at)
