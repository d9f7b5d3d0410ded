-- What is stored at one address changes nothing at an address that is apart from it, and at such addresses the order
-- does not matter.
use Rattle.std.proofs.Common.{◌≡◌, ◌≢◌, ℕ, ◌==◌, Bool, true, false, List, [], ◌∷◌, ◌++◌, length, Option, Some, None, if◌then◌else◌, refl, ap, sym, ◌∙◌, subst, inl, inr}
use Rattle.std.specs.Prelude.{option_and_then}
use Rattle.std.specs.Option.{option_map_or}
use Rattle.std.proofs.lemmas.Bool.{false≢true}
use Rattle.std.proofs.lemmas.Bool.Decides.{Decides-eqb}
use Rattle.std.proofs.lemmas.Option.{none-some}
use Rattle.mir_ty.specs.declared.ty.TyId.{TyId}
use Rattle.mir_ty.specs.ItemTable.{ItemTable}
use Rattle.store_model.proofs.Values.Access.{none_or_some, replaced-step, replaced-no_step, part-replaced}
use Rattle.store_model.proofs.Values.OnePart.{part-with_part_other}
use Rattle.store_model.specs.declared.address.Addr.{Addr}
use Rattle.store_model.specs.declared.address.At.{At}
use Rattle.store_model.specs.declared.address.At.TheVariants.{Part, Inside}
use Rattle.store_model.specs.Values.Datum.{Datum, Gone}
use Rattle.store_model.specs.Values.Access.{AreApart, part, with_part, replaced}
use Rattle.store_model.specs.Concrete.Location.{Setting, DynamicType, OfType, type_of_part, Located, into, into_all, located_part, located_root, located_in, located_at, stored_at, root_of}
use Rattle.store_model.specs.Concrete.State.{State, Activation, cell, with_cell, at_depth, with_cell_at}
use Rattle.soundness_values.specs.Frames.{Apart, other_depth, other_local, other_part}
use Rattle.soundness_values.proofs.Standings.{cell_changed, cell_other, changed_length, depth_changed}

-- the head of a value, which says as what its parts are found, is not changed where a part is
type_kept : (items : ItemTable) (step other : At) (new v : Datum) (dynamic : DynamicType) →
    type_of_part items step (with_part other new v) dynamic ≡ type_of_part items step v dynamic
type_kept items (Part n) (Part m) new Gone dynamic = refl
type_kept items (Part n) Inside new Gone dynamic = refl
type_kept items Inside (Part m) new Gone dynamic = refl
type_kept items Inside Inside new Gone dynamic = refl
type_kept items (Part n) (Part m) new other dynamic = refl
type_kept items (Part n) Inside new other dynamic = refl
type_kept items Inside (Part m) new other dynamic = refl
type_kept items Inside Inside new other dynamic = refl

module _ (items : ItemTable) where
  -- at a fork
  into_other : (step other : At) (below : List At) (d : Datum) (s : Located) → other ≢ step →
      into items step (record s { value = replaced (other ∷ below) d s.value }) ≡ into items step s
  into_other step other below d s differ = elim (none_or_some (part other s.value)) [
    | inl none ↦ ap (λ v. into items step (record s { value = v })) (replaced-no_step other below d s.value none)
    | inr some ↦ ap (λ v. into items step (record s { value = v }))
        (replaced-step other below d s.value some.0 some.1)
        ∙ ap (λ x. located_part s step x
        (type_of_part items step (with_part other (replaced below d some.0) s.value) s.dynamic))
        (part-with_part_other other step (replaced below d some.0) s.value differ)
        ∙ ap (λ x. located_part s step (part step s.value) x)
        (type_kept items step other (replaced below d some.0) s.value s.dynamic)
  ]

  into_fork : (above : List At) (step other : At) (below other_below : List At) (d : Datum) (s : Located) →
      other ≢ step →
      into_all items (above ++ step ∷ below) (record s { value = replaced (above ++ other ∷ other_below) d s.value })
      ≡ into_all items (above ++ step ∷ below) s
  into_fork [] step other below other_below d s differ = ap (option_and_then (into_all items below))
      (into_other step other other_below d s differ)
  into_fork (first ∷ above) step other below other_below d s differ =
      by (λ u. into_fork above step other below other_below d u differ) (part first s.value) refl
      (type_of_part items first s.value s.dynamic) refl
    where
      onward : Option Located → Option Located
      onward o = option_and_then (into_all items (above ++ step ∷ below)) o

      changed : Datum
      changed = replaced (first ∷ above ++ other ∷ other_below) d s.value

      by : ((u : Located) → into_all items (above ++ step ∷ below)
          (record u { value = replaced (above ++ other ∷ other_below) d u.value }) ≡ into_all items
          (above ++ step ∷ below) u) →
          (o : Option Datum) → part first s.value ≡ o → (f : Option DynamicType) →
          type_of_part items first s.value s.dynamic ≡ f →
          onward (into items first (record s { value = changed })) ≡ onward (into items first s)
      by later None e f k = ap (λ v. onward (into items first (record s { value = v })))
          (replaced-no_step first (above ++ other ∷ other_below) d s.value e)
      by later (Some inner) e f k =
          let shape : changed ≡ with_part first (replaced (above ++ other ∷ other_below) d inner) s.value =
          replaced-step first (above ++ other ∷ other_below) d s.value inner e in
          let there : part first changed ≡ Some (replaced (above ++ other ∷ other_below) d inner) =
          part-replaced first (above ++ other ∷ other_below) d s.value inner e in
          let found : type_of_part items first changed s.dynamic ≡ f =
          ap (λ v. type_of_part items first v s.dynamic) shape ∙ type_kept items first first
          (replaced (above ++ other ∷ other_below) d inner) s.value s.dynamic ∙ k in
          ap (λ x. onward (located_part (record s { value = changed }) first x
          (type_of_part items first changed s.dynamic))) there
          ∙ ap (λ x. onward (located_part (record s { value = changed }) first
          (Some (replaced (above ++ other ∷ other_below) d inner)) x)) found
          ∙ typed f
          ∙ sym (ap (λ x. onward (located_part s first x (type_of_part items first s.value s.dynamic))) e
          ∙ ap (λ x. onward (located_part s first (Some inner) x)) k)
        where
          typed : (f : Option DynamicType) →
              onward (located_part (record s { value = changed }) first
              (Some (replaced (above ++ other ∷ other_below) d inner)) f) ≡ onward
              (located_part s first (Some inner) f)
          typed None = refl
          typed (Some dynamic) =
              later (record {
                address = record s.address { path = s.address.path ++ first ∷ [] };
                dynamic =
                    dynamic;
                value = inner;
              })

  into_apart : (path other : List At) (d : Datum) (s : Located) → AreApart path other →
      into_all items path (record s { value = replaced other d s.value }) ≡ into_all items path s
  into_apart path other d s apart =
      ap (λ p. into_all items p (record s { value = replaced other d s.value })) apart.one_is
      ∙ ap (λ p. into_all items (apart.above ++ apart.one_step ∷ apart.one_below)
      (record s { value = replaced p d s.value })) apart.other_is
      ∙ into_fork apart.above apart.one_step apart.other_step apart.one_below apart.other_below d s
      (λ e. apart.differ (sym e))
      ∙ sym (ap (λ p. into_all items p s) apart.one_is)

-- ---- activations

pub not_same : (n m : ℕ) → n ≢ m → (n == m) ≡ false
not_same n m h = by (n == m) refl
  where
    by : (b : Bool) → (n == m) ≡ b → b ≡ false
    by false e = refl
    by true e = absurd (h ((Decides-eqb n m).0 e))

-- the locals differ
abbrev pub Differ : ℕ → ℕ → ℕ → ℕ → Type 0
Differ depth key depth' key' = (depth == depth') ≡ true → (key == key') ≡ false

pub nothing_changed : (depth key : ℕ) (v : Datum) (acts : List Activation) → at_depth depth acts ≡ None →
    with_cell_at depth key v acts ≡ acts
nothing_changed depth key v [] e = refl
nothing_changed depth key v (a ∷ older) e = by (depth == length older) e (nothing_changed depth key v older)
  where
    by : (t : Bool) → (if t then Some a else at_depth depth older) ≡ None →
        (at_depth depth older ≡ None → with_cell_at depth key v older ≡ older) →
        (if t then (record a { cells = with_cell key v a.cells }) ∷ older else a ∷ with_cell_at depth key v older)
        ≡ a
        ∷ older
    by true e later = absurd (none-some a (sym e))
    by false e later = ap (λ x. a ∷ x) (later e)

module _ (setting : Setting) where
  abbrev I : ItemTable
  I = setting.items

  root_kept : (w v : State) (depth key depth' key' : ℕ) (d : Datum) (acts : List Activation) →
      Differ depth key depth' key' →
      located_in setting w depth key (at_depth depth (with_cell_at depth' key' d acts)) ≡ located_in setting v depth
      key
      (at_depth depth acts)
  root_kept w v depth key depth' key' d [] h = refl
  root_kept w v depth key depth' key' d (a ∷ older) h = by (depth' == length older) refl (depth == length older) refl
      (root_kept w v depth key depth' key' d older h)
    where
      other_key : (key == key') ≡ false → (o : Option TyId) → located_root depth key (with_cell key' d a.cells) o
          ≡ located_root depth key a.cells o
      other_key e None = refl
      other_key e (Some id) = let same = cell_other key' key d a.cells e in cc

      by : (t : Bool) → (depth' == length older) ≡ t → (u : Bool) → (depth == length older) ≡ u →
          located_in setting w depth key (at_depth depth (with_cell_at depth' key' d older)) ≡ located_in setting v
          depth key (at_depth depth older) →
          located_in setting w depth key
          (at_depth depth (if t then (record a { cells = with_cell key' d a.cells }) ∷ older else a
          ∷ with_cell_at depth' key' d older))
          ≡ located_in setting v depth key (if u then Some a else at_depth depth older)
      by true e true k later =
          let same : depth ≡ depth' = (Decides-eqb depth (length older)).0 k
          ∙ sym ((Decides-eqb depth' (length older)).0 e) in
          ap (λ b. located_in setting w depth key
          (if b then Some (record a { cells = with_cell key' d a.cells }) else at_depth depth older)) k
          ∙ other_key (h ((Decides-eqb depth depth').1 same)) (setting.local_ty a.body key)
      by true e false k later =
          ap (λ b. located_in setting w depth key
          (if b then Some (record a { cells = with_cell key' d a.cells }) else at_depth depth older)) k ∙ no_change
        where
          no_change : located_in setting w depth key (at_depth depth older) ≡ located_in setting v depth key
              (at_depth depth older)
          no_change = refl
      by false e true k later =
          ap (λ b. located_in setting w depth key
          (if b then Some a else at_depth depth (with_cell_at depth' key' d older)))
          (ap (λ n. depth == n) (changed_length depth' key' d older) ∙ k)
      by false e false k later =
          ap (λ b. located_in setting w depth key
          (if b then Some a else at_depth depth (with_cell_at depth' key' d older)))
          (ap (λ n. depth == n) (changed_length depth' key' d older) ∙ k) ∙ later

  -- the same local, and paths that are apart
  same_local : (w : State) (a b : Addr) (d : Datum) → a.depth ≡ b.depth → a.key.0 ≡ b.key.0 →
      AreApart a.path b.path →
      located_at setting (stored_at b d w) a ≡ located_at setting w a
  same_local w a b d same_depth same_key apart =
      subst (λ depth. option_and_then (into_all I a.path)
      (located_in setting (stored_at b d w) depth a.key.0 (at_depth depth (stored_at b d w).activations))
      ≡ option_and_then (into_all I a.path) (located_in setting w depth a.key.0 (at_depth depth w.activations)))
      (sym same_depth)
      (subst (λ key. option_and_then (into_all I a.path)
      (located_in setting (stored_at b d w) b.depth key (at_depth b.depth (stored_at b d w).activations))
      ≡ option_and_then (into_all I a.path) (located_in setting w b.depth key (at_depth b.depth w.activations)))
      (sym same_key)
      (by (at_depth b.depth w.activations) refl))
    where
      typed : (act : Activation) → at_depth b.depth w.activations ≡ Some act → (o : Option TyId) →
          option_and_then (into_all I a.path)
          (located_root b.depth b.key.0 (with_cell b.key.0 (replaced b.path d (root_of b w)) act.cells) o)
          ≡ option_and_then (into_all I a.path) (located_root b.depth b.key.0 act.cells o)
      typed act e None = refl
      typed act e (Some id) =
          let root : root_of b w ≡ cell b.key.0 act.cells =
          ap (λ o. option_map_or (λ (x : Activation). cell b.key.0 x.cells) o Gone) e in
          ap (λ v. into_all I a.path (record { address = record b { path = [] }; dynamic = OfType id; value = v }))
          (cell_changed b.key.0 (replaced b.path d (root_of b w)) act.cells ∙ ap (replaced b.path d) root)
          ∙ into_apart I a.path b.path d
          (record { address = record b { path = [] }; dynamic = OfType id; value = cell b.key.0 act.cells }) apart

      by : (o : Option Activation) → at_depth b.depth w.activations ≡ o →
          option_and_then (into_all I a.path)
          (located_in setting (stored_at b d w) b.depth b.key.0 (at_depth b.depth (stored_at b d w).activations))
          ≡ option_and_then (into_all I a.path)
          (located_in setting w b.depth b.key.0 (at_depth b.depth w.activations))
      by None e = ap (λ x. option_and_then (into_all I a.path)
          (located_in setting w b.depth b.key.0 (at_depth b.depth x)))
          (nothing_changed b.depth b.key.0 (replaced b.path d (root_of b w)) w.activations e)
      by (Some act) e =
          ap (λ o. option_and_then (into_all I a.path) (located_in setting w b.depth b.key.0 o))
          (depth_changed setting b.depth b.key.0 (replaced b.path d (root_of b w)) act w.activations e)
          ∙ typed act e (setting.local_ty act.body b.key.0)
          ∙ sym (ap (λ o. option_and_then (into_all I a.path) (located_in setting w b.depth b.key.0 o)) e)

  other_root : (w : State) (a b : Addr) (d : Datum) → Differ a.depth a.key.0 b.depth b.key.0 →
      located_at setting (stored_at b d w) a ≡ located_at setting w a
  other_root w a b d h = ap (option_and_then (into_all I a.path))
      (root_kept (stored_at b d w) w a.depth a.key.0 b.depth b.key.0 (replaced b.path d (root_of b w)) w.activations
      h)

  -- apart from an address everything stands as before
  pub located_apart : (w : State) (a b : Addr) (d : Datum) → Apart a b → located_at setting (stored_at b d w) a
      ≡ located_at setting w a
  located_apart w a b d (other_depth _ _ h) =
      other_root w a b d (λ e. absurd (false≢true (sym (not_same a.depth b.depth h) ∙ e)))
  located_apart w a b d (other_local _ _ h) = other_root w a b d (λ e. not_same a.key.0 b.key.0 h)
  located_apart w a b d (other_part _ _ h) = by (a.depth == b.depth) refl (a.key.0 == b.key.0) refl
    where
      by : (t : Bool) → (a.depth == b.depth) ≡ t → (u : Bool) → (a.key.0 == b.key.0) ≡ u →
          located_at setting (stored_at b d w) a ≡ located_at setting w a
      by true e true k = same_local w a b d ((Decides-eqb a.depth b.depth).0 e) ((Decides-eqb a.key.0 b.key.0).0 k) h
      by true e false k = other_root w a b d (λ z. k)
      by false e u k = other_root w a b d (λ z. absurd (false≢true (sym e ∙ z)))
