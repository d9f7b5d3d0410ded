-- How a place of the youngest body names an address, by steps that go through no reference and by no index; and that it
-- is reached in the elaborated run too.
use Rattle.std.proofs.Common.{◌≡◌, inl, inr, ℕ, suc, ◌==◌, true, List, [], ◌∷◌, ◌++◌, length, Option, Some, None, if◌then◌else◌, refl, ap, sym, ◌∙◌, subst, arith}
use Rattle.std.proofs.lemmas.Bool.Decides.{eqb_tells}
use Rattle.std.specs.Option.{option_map_or}
use Rattle.mir_ty.specs.declared.ty.TyId.{TyId}
use Rattle.mir_ty.specs.ItemTable.{ItemTable}
use Rattle.store_model.specs.declared.address.At.{At}
use Rattle.store_model.specs.declared.address.At.TheVariants.{Part, Inside}
use Rattle.store_model.specs.Values.Datum.{Datum, Data, Gone, Number, Truth, UnitValue, Aggregate, Box, Address}
use Rattle.store_model.specs.Places.Place.{Step, ToPart, ToField, ToContent, ToElement, Place}
use Rattle.store_model.specs.Values.Access.{part, with_part, replaced}
use Rattle.store_model.specs.Concrete.Location.{Setting, OfType, Located, into, root_address, located_root, Reached, Reaches, CutOff, Nowhere, reach_of, reach_if, on_reached, follow, follow_from, along as walk_along, reach, in_youngest}
use Rattle.store_model.specs.Concrete.State.{State, Activation, Cells, cell, at_depth}
use Rattle.store_model.proofs.Values.Access.{replaced-step}
use Rattle.drop_values.specs.Covers.{CoversBy, Unnumbered, Covers}
use Rattle.drop_values.specs.Like.{held, held_by, body_at, body_of, Flags, Like, raw_setting, strict_setting, Extends}
use Rattle.drop_values.proofs.Stand.{Changed, with_value, Into, into-is, into-with_part, rooted}
use Rattle.drop_values.proofs.LikeLaws.{part-by, of_raw, extended}

-- a step of a place is taken from a value to a part of it
abbrev pub Takes : ItemTable → Step → At → Located → Located → Type 0
Takes items (ToPart n) step s m = (step ≡ Part n) × Into items (Part n) s m
Takes items (ToField variant n) step s m = (step ≡ Part n) × ((serial : Option ℕ) × (parts : Data)
    × (s.value ≡ Aggregate variant serial parts)) × Into items (Part n) s m
Takes items ToContent step s m = (step ≡ Inside) × Into items Inside s m
Takes items (ToElement index) step s m = ⊥

abbrev pub NamesAlong : ItemTable → List Step → List At → Located → Located → Type 0
NamesAlong items [] path s t = (path ≡ []) × (s ≡ t)
NamesAlong items (step ∷ steps) path s t = (at : At) × (rest : List At) × (m : Located) × (path ≡ at ∷ rest)
    × Takes items step at s m × NamesAlong items steps rest m t

pub names-further : (items : ItemTable) (steps : List Step) (path : List At) (s t u : Located) (step : Step) (at : At) →
    NamesAlong items steps path s t → Takes items step at t u → NamesAlong items (steps ++ step ∷ [])
    (path ++ at ∷ []) s u
names-further items [] path s t u step at n h = (
  at,
  [],
  u,
  ap (λ p. p ++ at ∷ []) n.0,
  subst
      (λ x. Takes items step at x u) (sym n.1) h,
  (refl, refl),
)
names-further items (x ∷ steps) path s t u step at n h =
    (n.0, n.1 ++ at ∷ [], n.2, ap (λ p. p ++ at ∷ []) n.3, n.4, names-further items steps n.1 n.2 t u step at n.5 h)

takes-other : (items : ItemTable) (step : Step) (at : At) (s m : Located) (new : Datum) → Takes items step at s m →
    Takes items step at (with_value s (with_part at new s.value)) (with_value m new)
takes-other items (ToPart n) at s m new h = (
  h.0,
  subst
      (λ a. Into items (Part n) (with_value s (with_part a new s.value)) (with_value m new)) (sym h.0)
      (into-with_part items (Part n) s m new h.1),
)
takes-other items (ToField v n) at s m new h = (
  h.0,
  (h.1.0, with_parts new h.1.1, ap (λ a. with_part a new s.value) h.0 ∙ ap (with_part (Part n) new) h.1.2),
  subst (λ a. Into items (Part n) (with_value s (with_part a new s.value)) (with_value m new))
      (sym h.0) (into-with_part items (Part n) s m new h.2),
)
  where
    with_parts : Datum → Data → Data
    with_parts new parts = parts_of (with_part (Part n) new (Aggregate v h.1.0 parts))
      where
        parts_of : Datum → Data
        parts_of (Aggregate variant serial parts) = parts
        parts_of _ = parts
takes-other items ToContent at s m new h = (
  h.0,
  subst (λ a. Into items Inside (with_value s (with_part a new s.value))
      (with_value m new)) (sym h.0) (into-with_part items Inside s m new h.1),
)
takes-other items (ToElement index) at s m new h = absurd h

pub takes-into : (items : ItemTable) (step : Step) (at : At) (s m : Located) → Takes items step at s m →
    Into items at s m
takes-into items (ToPart n) at s m h = subst (λ a. Into items a s m) (sym h.0) h.1
takes-into items (ToField v n) at s m h = subst (λ a. Into items a s m) (sym h.0) h.2
takes-into items ToContent at s m h = subst (λ a. Into items a s m) (sym h.0) h.1
takes-into items (ToElement index) at s m h = absurd h

pub names-other : (items : ItemTable) (steps : List Step) (path : List At) (s t : Located) (new : Datum) →
    NamesAlong items steps path s t → NamesAlong items steps path (with_value s (replaced path new s.value))
    (with_value t new)
names-other items [] path s t new n = (
  n.0,
  ap (λ p. with_value s (replaced p new s.value)) n.0
      ∙ ap (λ x. with_value x new) n.1,
)
names-other items (step ∷ steps) path s t new n =
    let i = takes-into items step n.0 s n.2 n.4 in
    let m_is : part n.0 s.value ≡ Some n.2.value = i.value_is ∙ ap (λ x. Some x.value) (sym i.is) in (
      n.0,
      n.1,
      with_value n.2 (replaced n.1 new n.2.value),
      n.3,
      subst (λ v. Takes items step n.0 (with_value s v) (with_value n.2 (replaced n.1 new n.2.value)))
          (sym (ap (λ p. replaced p new s.value) n.3 ∙ replaced-step n.0 n.1 new s.value n.2.value m_is))
          (takes-other items step n.0 s n.2 (replaced n.1 new n.2.value) n.4),
      names-other items steps n.1 n.2 t new n.5,
    )

module _ (items : ItemTable) (local_ty local_ty' : (body local : ℕ) → Option TyId)
    (extends : Extends local_ty local_ty') where
  abbrev raw : Setting
  raw = raw_setting items local_ty

  abbrev strict : Setting
  strict = strict_setting items local_ty'

  -- what is reached in the elaborated run along such steps
  pub record ReachesThere (w' : State) (cells : Cells) (steps : List Step) (s t : Located) (other : Datum) :
      Type 0 where
    pub other' : Datum
    pub reaches : walk_along strict w' cells steps (with_value s other) ≡ Reaches (with_value t other')
    pub covers : Covers t.value other'

  pub take_step : (Spare : Datum → Type 0) (w' : State) (cells : Cells) (step : Step) (at : At) (s m : Located) (other
      : Datum) →
      Takes items step at s m → CoversBy Spare s.value other →
      (inner : Datum) × (follow_from strict w' cells step other (with_value s other) ≡ Reaches (with_value m inner))
      × CoversBy Spare m.value inner
  take_step Spare w' cells step at s m other h c = go step h
    where
      shape : (at : At) → Into items at s m → (inner : Datum)
          × (into items at (with_value s other) ≡ Some (with_value m inner)) × CoversBy Spare m.value inner
      shape at i =
          let p = part-by Spare items at s.value other i.value c i.value_is in (
            p.inner',
            into-is items at (with_value s other) (with_value m p.inner')
                (record {
                  value = p.inner';
                  dynamic = i.dynamic;
                  value_is = p.part_is;
                  found_is =
                      p.found_is s.dynamic ∙ i.found_is;
                  is = ap (λ x. with_value x p.inner') i.is;
                }),
            subst (λ x. CoversBy Spare x.value p.inner') (sym i.is) p.covers,
          )

      -- a value with such a part
      by_part : (n : ℕ) (d : Datum) (x : Datum) → part (Part n) d ≡ Some x → (o : Reached) →
          follow strict w' cells (ToPart n) (with_value s other) ≡ o → follow_from strict w' cells
          (ToPart n) d (with_value s other) ≡ o
      by_part n (Aggregate variant serial parts) x e o h = h
      by_part n other x e o h = absurd (let y : None ≡ Some x = e in cc)

      by_content : (d : Datum) (x : Datum) → part Inside d ≡ Some x → other ≡ d → (o : Reached) →
          reach_of (into items Inside (with_value s other)) ≡ o → follow_from strict w' cells ToContent other
          (with_value s other) ≡ o
      by_content (Box serial impl_no inside) x e k o h =
          ap (λ d. follow_from strict w' cells ToContent d (with_value s d)) k
          ∙ ap (λ d. reach_of (into items Inside (with_value s d))) (sym k) ∙ h
      by_content other x e k o h = absurd (let y : None ≡ Some x = e in cc)

      same_variant : (v : ℕ) → (v == v) ≡ true
      same_variant v = elim (eqb_tells v v) [ inl y ↦ y.0 | inr y ↦ absurd (y.1 refl) ]

      go : (step : Step) → Takes items step at s m → (inner : Datum)
          × (follow_from strict w' cells step other (with_value s other) ≡ Reaches (with_value m inner))
          × CoversBy Spare m.value inner
      go (ToPart n) h =
          let i = shape (Part n) h.1 in let p = part-by Spare items (Part n) s.value other h.1.value c h.1.value_is in
          (i.0, by_part n other p.inner' p.part_is (Reaches (with_value m i.0)) (ap reach_of i.1), i.2)
      go (ToField v n) h =
          let i = shape (Part n) h.2 in
          let cov = subst (λ d. CoversBy Spare d other) h.1.2 c in (
            i.0,
            ap (λ d. follow_from strict w' cells (ToField v n) d (with_value s d)) cov.1
                ∙ ap (λ b. reach_if b (into items (Part n) (with_value s (Aggregate v h.1.0 cov.0)))) (same_variant v)
                ∙ ap (λ d. reach_of (into items (Part n) (with_value s d))) (sym cov.1) ∙ ap reach_of i.1,
            i.2,
          )
      go ToContent h =
          let i = shape Inside h.1 in let p = part-by Spare items Inside s.value other h.1.value c h.1.value_is in
          (i.0, by_content other p.inner' p.part_is refl (Reaches (with_value m i.0)) (ap reach_of i.1), i.2)
      go (ToElement index) h = absurd h

  pub names-reach : (w' : State) (cells : Cells) (steps : List Step) (path : List At) (s t : Located) (other : Datum) →
      NamesAlong items steps path s t → Covers s.value other → ReachesThere w' cells steps s t other
  names-reach w' cells [] path s t other n c = record {
    other' = other;
    reaches =
        ap (λ x. Reaches (with_value x other)) n.1;
    covers = subst (λ x. Covers x.value other) n.1 c;
  }
  names-reach w' cells (step ∷ steps) path s t other n c =
      let one = take_step Unnumbered w' cells step n.0 s n.2 other n.4 c in
      let rest = names-reach w' cells steps n.1 n.2 t one.0 n.5 one.2 in record {
        other' = rest.other';
        reaches = ap (λ r. on_reached r (walk_along strict w' cells steps) CutOff Nowhere) one.1 ∙ rest.reaches;
        covers = rest.covers;
      }

  -- a place of the youngest body names where a value stands
  pub record Names (w : State) (place : Place) (s : Located) : Type 0 where
    pub depth : length w.activations ≡ suc s.address.depth
    pub local : s.address.key.0 ≡ place.local
    pub root : Located
    pub root_is : rooted raw s.address.depth place.local (body_at s.address.depth w)
        (held s.address.depth place.local w) ≡ Some root
    pub root_value : root.value ≡ held s.address.depth place.local w
    pub other_root : (v : Datum) → rooted raw s.address.depth place.local (body_at s.address.depth w) v ≡ Some
        (with_value root v)
    pub along : NamesAlong items place.steps s.address.path root s

  -- after a change at it
  pub names-Changed : (w v : State) (place : Place) (s : Located) (new : Datum) → Names w place s →
      Changed s.address new w v → Names v place (with_value s new)
  names-Changed w v place s new n c =
      let there : held s.address.depth place.local v ≡ replaced s.address.path new n.root.value =
      ap (λ k. held s.address.depth k v) (sym n.local) ∙ c.here
      ∙ ap (λ k. replaced s.address.path new (held s.address.depth k w)) n.local
      ∙ ap (replaced s.address.path new) (sym n.root_value) in record {
        depth = c.count ∙ n.depth;
        local = n.local;
        root = with_value n.root (replaced s.address.path new n.root.value);
        root_is = ap (λ b. rooted raw s.address.depth place.local b (held s.address.depth place.local v))
            (c.bodies s.address.depth) ∙ n.other_root (held s.address.depth place.local v)
            ∙ ap (λ d. Some (with_value n.root d)) there;
        root_value = sym there;
        other_root = λ d. ap (λ b. rooted raw s.address.depth place.local b d) (c.bodies s.address.depth)
            ∙ n.other_root d;
        along = names-other items place.steps s.address.path n.root s new n.along;
      }

  -- such a place is reached in the elaborated run
  pub record ReachedBy (Spare : Datum → Type 0) (w' : State) (place : Place) (s : Located) : Type 0 where
    pub other : Datum
    pub reaches : reach strict w' place ≡ Reaches (with_value s other)
    pub covers : CoversBy Spare s.value other

  abbrev pub ReachedThere : State → Place → Located → Type 0
  ReachedThere w' place s = ReachedBy Unnumbered w' place s

  pub reached_there : (flags : Flags) (w w' : State) (place : Place) (s : Located) → Like local_ty flags w w' →
      Names w place s → ReachedThere w' place s
  reached_there flags w w' place s like n = by w'.activations refl
    where
      covers : Covers n.root.value (held s.address.depth place.local w')
      covers = let o = of_raw items local_ty local_ty' extends s.address.depth place.local (body_at s.address.depth w)
          (held s.address.depth place.local w) n.root n.root_is in
          subst (λ d. Covers d (held s.address.depth place.local w')) (sym n.root_value)
          (like.covers s.address.depth place.local o.body o.id o.body_is o.ty_is)

      to_rooted : (d k : ℕ) (a : Activation) (o : Option TyId) → located_root d k a.cells o ≡ option_map_or
          (λ id. Some (record { address = root_address d k; dynamic = OfType id; value = cell k a.cells })) o None
      to_rooted d k a None = refl
      to_rooted d k a (Some id) = refl

      by : (acts : List Activation) → w'.activations ≡ acts → ReachedThere w' place s
      by [] e = absurd (let x : 0 ≡ suc s.address.depth = sym (ap length e) ∙ like.count ∙ n.depth in cc)
      by (a ∷ older) e =
          let deep : length older ≡ s.address.depth =
          (let x : suc (length older) ≡ suc s.address.depth = sym (ap length e) ∙ like.count
          ∙ n.depth in omega (arith, x)) in
          let at : at_depth s.address.depth w'.activations ≡ Some a = ap (at_depth s.address.depth) e
          ∙ ap (λ b. if b then Some a else at_depth s.address.depth older)
          (ap (λ m. s.address.depth == m) deep ∙ same s.address.depth) in
          let r = names-reach w' a.cells place.steps s.address.path n.root s (held s.address.depth place.local w')
          n.along covers in record {
            other = r.other';
            reaches =
                ap (in_youngest strict w' place) e
                ∙ ap (λ o. on_reached (reach_of o) (walk_along strict w' a.cells place.steps) CutOff Nowhere)
                (to_rooted (length older) place.local a (local_ty' a.body place.local)
                ∙ ap (λ d. rooted strict d place.local (Some a.body) (cell place.local a.cells)) deep
                ∙ ap (λ o. rooted strict s.address.depth place.local (body_of o) (held_by place.local o)) (sym at)
                ∙ ap (λ b. rooted strict s.address.depth place.local b (held s.address.depth place.local w'))
                (like.bodies s.address.depth)
                ∙ extended items local_ty local_ty' extends s.address.depth place.local (body_at s.address.depth w)
                (held s.address.depth place.local w') (with_value n.root (held s.address.depth place.local w'))
                (n.other_root (held s.address.depth place.local w')))
                ∙ r.reaches;
            covers = r.covers;
          }
        where
          same : (d : ℕ) → (d == d) ≡ true
          same d = elim (eqb_tells d d) [ inl y ↦ y.0 | inr y ↦ absurd (y.1 refl) ]
