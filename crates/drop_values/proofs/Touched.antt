-- What the bodies of a raw graph leave as it was: a body changes what is older than itself only at places that its
-- arguments name, and leaves full values there. A `Drop` body then leaves nothing changed but its value.
use Rattle.std.proofs.Common.{◌≡◌, ℕ, zero, suc, ◌≤◌, ◌<◌, slice_get, List, [], ◌∷◌, ◌++◌, length, Option, Some, None, Contains, refl, ap, sym, ◌∙◌, subst, arith}
use Rattle.std.specs.Prelude.{option_and_then}
use Rattle.std.proofs.lemmas.Option.{none-some, option_and_then_some}
use Rattle.mir_base.specs.declared.trace.Event.{Event}
use Rattle.mir_ty.proofs.ListLemmas.{slice_get-Contains}
use Rattle.mir_ty.specs.declared.ty.TyId.{TyId}
use Rattle.mir_ty.specs.ItemTable.{ItemTable}
use Rattle.store_model.specs.declared.address.Addr.{Addr}
use Rattle.store_model.specs.declared.address.At.{At}
use Rattle.store_model.proofs.Values.Access.{replaced-step}
use Rattle.store_model.specs.declared.address.At.TheVariants.{Part, Inside}
use Rattle.store_model.specs.Values.Access.{part, with_part, with_part_at, replaced}
use Rattle.store_model.specs.Values.Datum.{Datum, Gone, Number, Truth, UnitValue, Aggregate, Box, Address}
use Rattle.store_model.specs.Concrete.Drops.{drop_impl}
use Rattle.store_model.specs.Concrete.Location.{Setting, OfType, concrete_ty, Located, into, into_all, located_in, located_at}
use Rattle.store_model.specs.Concrete.State.{State, at_depth, Answer, Returns, Unwinds, HaltsIn, Bodies}
use Rattle.drop_values.specs.Like.{held, body_at, raw_setting}
use Rattle.drop_values.specs.Typed.{IsFull}
use Rattle.drop_values.proofs.Frame.{Left, Leaves, Frames}
use Rattle.drop_values.proofs.Named.{full-with, located-by, NamesFull, named-kept, changed-above}
use Rattle.drop_values.proofs.Stand.{Changed, Changed-Changed, same-Changed, into-parts, with_value, into_all-append, Stands, stands-Changed, standing-address}

-- nothing is changed in any activation
pub record SameCells (w v : State) : Type 0 where
  pub less : v.ticks ≤ w.ticks
  pub count : length v.activations ≡ length w.activations
  pub bodies : (d : ℕ) → body_at d v ≡ body_at d w
  pub cells : (d k : ℕ) → held d k v ≡ held d k w

pub same_cells : (w : State) → SameCells w w
same_cells w = record { less = omega arith; count = refl; bodies = λ d. refl; cells = λ d k. refl }

pub same-Changed-after : (a : Addr) (new : Datum) (w u v : State) → Changed a new w u → SameCells u v →
    Changed a new w v
same-Changed-after a new w u v c s = record {
  less = let h = c.less in let k = s.less in omega (arith, h, k);
  count = s.count ∙ c.count;
  bodies = λ d. s.bodies d ∙ c.bodies d;
  here = s.cells a.depth a.key.0 ∙ c.here;
  apart = λ d k n. s.cells d k ∙ c.apart d k n;
}

pub same-Changed-before : (a : Addr) (new : Datum) (w u v : State) → SameCells w u → Changed a new u v →
    Changed a new w v
same-Changed-before a new w u v s c = record {
  less = let h = c.less in let k = s.less in omega (arith, h, k);
  count = c.count ∙ s.count;
  bodies = λ d. c.bodies d ∙ s.bodies d;
  here = c.here ∙ ap (replaced a.path new) (s.cells a.depth a.key.0);
  apart = λ d k n. c.apart d k n ∙ s.cells d k;
}

-- the addresses among arguments; no value with parts holds one
abbrev pub addresses_of : List Datum → List Addr
addresses_of [] = []
addresses_of (Address a ∷ args) = a ∷ addresses_of args
addresses_of (Gone ∷ args) = addresses_of args
addresses_of (Number x ∷ args) = addresses_of args
addresses_of (Truth x ∷ args) = addresses_of args
addresses_of (UnitValue ∷ args) = addresses_of args
addresses_of (Aggregate x y z ∷ args) = addresses_of args
addresses_of (Box x y z ∷ args) = addresses_of args

-- a value that is no address
abbrev pub NoAddress : Datum → Type 0
NoAddress d = (c : Addr) → d ≡ Address c → ⊥

with-part-plain : (at : At) (d old new : Datum) → part at d ≡ Some old → NoAddress (with_part at new d)
with-part-plain (Part n) (Aggregate v k parts) old new e c h =
    absurd (let same : Aggregate v k (with_part_at n new parts) ≡ Address c = h in cc)
with-part-plain Inside (Box v k parts) old new e c h = absurd (let same : Box v k new ≡ Address c = h in cc)
with-part-plain (Part n) other old new e c h = none-some old e
with-part-plain Inside other old new e c h = none-some old e

-- with another value within it, it is none
pub no-address : (items : ItemTable) (path : List At) (r s : Located) (new : Datum) →
    into_all items path r ≡ Some s → NoAddress new → NoAddress (replaced path new r.value)
no-address items [] r s new e plain c h = plain c h
no-address items (step ∷ path) r s new e plain c h =
    option_and_then_some (into_all items path) (into items step r) s e (λ m em e2.
    let i = into-parts items step r m em in
    with-part-plain step r.value i.value (replaced path new m.value) i.value_is c
    (sym (replaced-step step path new r.value m.value (i.value_is ∙ ap (λ (x : Located). Some x.value) (sym i.is)))
    ∙ h))

module _ (items : ItemTable) (local_ty : (body local : ℕ) → Option TyId) where
  abbrev raw : Setting
  raw = raw_setting items local_ty

  -- full values, none of them an address, were stored at some of these addresses, one after another
  pub data Touched (addresses : List Addr) (w : State) : State → Type 0 where
    untouched : {v : State} → SameCells w v → Touched addresses w v
    stored : {u v : State} (a : Addr) (s : Located) (new : Datum) → Touched addresses w u → Contains addresses a →
        located_at raw u a ≡ Some s → IsFull items s.dynamic new → NoAddress new → Changed a new u v →
        Touched addresses w v

  -- each names what is full, in an activation that runs
  abbrev pub AllNameFull : State → List Addr → Type 0
  AllNameFull w addresses =
      (a : Addr) → Contains addresses a → NamesFull items local_ty w a × (a.depth < length w.activations)

  pub same-named : (w v : State) (c : Addr) → SameCells w v → NamesFull items local_ty w c →
      NamesFull items local_ty v c
  same-named w v c s h t e = h t (located-by items local_ty w v c (s.bodies c.depth) (s.cells c.depth c.key.0) ∙ e)

  pub touched-named : (addresses : List Addr) {w v : State} → Touched addresses w v →
      (c : Addr) → NamesFull items local_ty w c → NamesFull items local_ty v c
  touched-named addresses {w} {v} (untouched same) c h = same-named w v c same h
  touched-named addresses {w} {v} (stored {u = u} a s new before among e full plain change) c h =
      named-kept items local_ty u v a c s new e full change (touched-named addresses before c h)

  -- as many activations, of the same bodies, and no tick is given back
  pub touched-counts : (addresses : List Addr) (w v : State) → Touched addresses w v →
      (length v.activations ≡ length w.activations) × ((d : ℕ) → body_at d v ≡ body_at d w) × (v.ticks ≤ w.ticks)
  touched-counts addresses w v (untouched s) = (s.count, s.bodies, s.less)
  touched-counts addresses w v (stored {u} a s new t among e full plain c) =
      let r = touched-counts addresses w u t in (
        c.count ∙ r.0,
        λ d. c.bodies d ∙ r.1 d,
        (let x = c.less in let y = r.2 in omega (arith, x, y)),
      )

  pub touched-again : (addresses : List Addr) {w u v : State} → Touched addresses w u → Touched addresses u v →
      Touched addresses w v
  touched-again addresses (untouched one) (untouched two) = untouched (record {
    less = let h = one.less in let k = two.less in omega (arith, h, k);
    count = two.count ∙ one.count;
    bodies = λ d. two.bodies d ∙ one.bodies d;
    cells = λ d k. two.cells d k ∙ one.cells d k;
  })
  touched-again addresses {w} {u} {v} (stored {u = x} a s new before among e full plain change) (untouched two) =
      stored a s new before among e full plain (same-Changed-after a new x u v change two)
  touched-again addresses one (stored a s new before among e full plain change) =
      stored a s new (touched-again addresses one before) among e full plain change

  -- the address lies within what one of these names
  pub record IsWithin (addresses : List Addr) (b : Addr) : Type 0 where
    pub above : Addr
    pub among : Contains addresses above
    pub path : List At
    pub is : b ≡ record above { path = above.path ++ path }

  -- what stands above
  pub record Above (u : State) (a : Addr) (path : List At) (s : Located) : Type 0 where
    pub outer : Located
    pub there : located_at raw u a ≡ Some outer
    pub leads : into_all items path outer ≡ Some s

  pub stands-above : (u : State) (a : Addr) (path : List At) (s : Located) →
      located_at raw u (record a { path = a.path ++ path }) ≡ Some s → Above u a path s
  stands-above u a path s e = by (located_in raw u a.depth a.key.0 (at_depth a.depth u.activations)) refl e
    where
      by : (o : Option Located) → located_in raw u a.depth a.key.0 (at_depth a.depth u.activations) ≡ o →
          option_and_then (into_all items (a.path ++ path)) o ≡ Some s → Above u a path s
      by None h e = absurd (none-some s e)
      by (Some root) h e =
          option_and_then_some (into_all items path) (into_all items a.path root) s
          (sym (into_all-append items a.path path root) ∙ e) (λ m em e2. record {
            outer = m;
            there = ap (option_and_then (into_all items a.path)) h ∙ em;
            leads = e2;
          })

  -- what happens within what the addresses name happens to it
  pub touched-within : (addresses inner : List Addr) {w v : State} →
      ((a : Addr) → Contains addresses a → NamesFull items local_ty w a) →
      ((b : Addr) → Contains inner b → IsWithin addresses b) → Touched inner w v → Touched addresses w v
  touched-within addresses inner all within (untouched same) = untouched same
  touched-within addresses inner {w} {v} all within (stored {u = u} b s new before among e full plain change) =
      let i = within b among in
      let x = stands-above u i.above i.path s (ap (located_at raw u) (sym i.is) ∙ e) in
      let again = touched-within addresses inner all within before in
      let was = touched-named addresses again i.above (all i.above i.among) x.outer x.there in
      let address_is : x.outer.address ≡ i.above = standing-address raw u i.above x.outer x.there in
      stored i.above x.outer (replaced i.path new x.outer.value) again i.among x.there
      (full-with items i.path x.outer s new x.leads was full) (no-address items i.path x.outer s new x.leads plain)
      (subst (λ a. Changed a (replaced i.path new x.outer.value) u v) address_is
      (changed-above items local_ty i.path u v x.outer s new (ap (located_at raw u) address_is ∙ x.there) x.leads
      (subst (λ a. Changed a new u v) (sym (standing-address raw u b s e)) change)))

  -- how a body ends
  abbrev pub TouchedBy : List Addr → ℕ → State → Answer → Type 0
  TouchedBy addresses body w (Returns value v) =
      Touched addresses w v × ((id : TyId) → local_ty body 0 ≡ Some id → IsFull items (OfType id) value)
  TouchedBy addresses body w (Unwinds v) = Touched addresses w v
  TouchedBy addresses body w (HaltsIn halt v) = Unit {0}

  pub only_one : (b a : Addr) → Contains (b ∷ []) a → a ≡ b
  only_one b a c = single c.0 c.1 (slice_get-Contains (b ∷ []) a c)
    where
      single : (k : ℕ) → k < 1 → slice_get (b ∷ []) k ≡ Some a → a ≡ b
      single zero l e = let x : b ≡ a = cc in sym x
      single (suc k) l e = absurd (let never : ⊥ = omega arith in never)

  touched-Left : (s : Located) (w v : State) → Stands raw w s → IsFull items s.dynamic s.value →
      Touched (s.address ∷ []) w v → Left raw s w v
  touched-Left s w v st h (untouched same) = record {
    new = s.value;
    full = h;
    change = same-Changed-after s.address s.value w w v (same-Changed raw w s st) same;
  }
  touched-Left s w v st h (stored {u = u} a t new before among e full plain change) =
      let b = touched-Left s w u st h before in
      let a_is : a ≡ s.address = only_one s.address a among in
      let there : Some (with_value s b.new) ≡ Some t = sym (stands-Changed raw w u s b.new st b.change)
      ∙ ap (located_at raw u) (sym a_is) ∙ e in
      let same : with_value s b.new ≡ t = cc in record {
        new = new;
        full = subst (λ x. IsFull items x.dynamic new) (sym same) full;
        change = Changed-Changed s.address b.new new w u v b.change (subst (λ x. Changed x new u v) a_is change);
      }

  -- bodies that may be entered so, and what they leave
  abbrev pub KeepsOlder : (ℕ → List Datum → State → Type 0) → Bodies → Type 0
  KeepsOlder good run = (event : Event) (body : ℕ) (args : List Datum) (w : State) → good body args w →
      TouchedBy (addresses_of args) body w (run event body args w)

  -- a `Drop` body may be entered where a full value stands
  abbrev pub MayDrop : (ℕ → List Datum → State → Type 0) → Type 0
  MayDrop good = (of : ℕ × ℕ) (s : Located) (w : State) → drop_impl items (concrete_ty items s.dynamic) ≡ Some of →
      Stands raw w s → IsFull items s.dynamic s.value → good of.1 (Address s.address ∷ []) w

  pub keeps-Frames : (good : ℕ → List Datum → State → Type 0) (run : Bodies) → MayDrop good → KeepsOlder good run →
      Frames raw run
  keeps-Frames good run may keeps of serial s w impl st h = by (run (Event.Dropped of.0 serial) of.1
      (Address s.address ∷ []) w) (keeps (Event.Dropped of.0 serial) of.1 (Address s.address ∷ []) w
      (may of s w impl st h))
    where
      by : (a : Answer) → TouchedBy (s.address ∷ []) of.1 w a → Leaves raw s w a
      by (Returns value v) t = touched-Left s w v st h t.0
      by (Unwinds v) t = touched-Left s w v st h t
      by (HaltsIn halt v) t = tt
