-- The parts of an aggregate, taken one after another: what stands there while the first of them are gone already.
use Rattle.std.proofs.Common.{◌≡◌, ℕ, zero, suc, ◌≤◌, [], ◌∷◌, ◌++◌, map, Option, Some, None, refl, ap, sym, ◌∙◌, subst, arith}
use Rattle.std.proofs.lemmas.List.{map-append}
use Rattle.mir_ty.specs.declared.ty.TyId.{TyId}
use Rattle.mir_ty.specs.ItemTable.{ItemTable}
use Rattle.cfg_graph.specs.declared.place.Place.{Place}
use Rattle.cfg_graph.specs.declared.place.Step.{Step}
use Rattle.cfg_graph.specs.Places.{named, named_step}
use Rattle.store_model.specs.declared.address.Addr.{Addr}
use Rattle.store_model.specs.declared.address.At.{At}
use Rattle.store_model.specs.declared.address.At.TheVariants.{Part}
use Rattle.store_model.specs.Values.Datum.{Datum, Data, Gone, Aggregate, no_part, a_part}
use Rattle.store_model.specs.Values.Access.{part, with_part_at}
use Rattle.store_model.specs.Concrete.Location.{Setting, concrete_ty, type_of_part, type_of_field, Located, below, into, located_at}
use Rattle.store_model.specs.Values.Wholeness.{serials, serials_of_all}
use Rattle.store_model.specs.Concrete.State.{State}
use Rattle.drop_elaborate.specs.Ladder.{place_below}
use Rattle.drop_values.specs.Like.{held, body_at, raw_setting, Extends}
use Rattle.drop_values.specs.Plan.{TakenApart}
use Rattle.drop_values.proofs.Stand.{rooted, Changed, Changed-Changed, with_value, Into, into-parts, into-is, Stands, stands-Changed, stands-into, standing-address, Changed-above}
use Rattle.drop_values.proofs.Frame.{tail, tail-first, tail-next}
use Rattle.drop_values.proofs.Names.{Takes, NamesAlong, names-further, Names, names-Changed}
use Rattle.drop_elaborate.proofs.Rungs.{Here as HereOf, here-Changed}

-- the parts before a number are gone
abbrev pub Emptied : ℕ → Data → Type 0
Emptied zero parts = Unit {0}
Emptied (suc k) no_part = Unit {0}
Emptied (suc k) (a_part first rest) = (first ≡ Gone) × Emptied k rest

pub emptied-next : (k : ℕ) (parts : Data) (first : Datum) (rest : Data) → Emptied k parts →
    tail k parts ≡ a_part first rest → Emptied (suc k) (with_part_at k Gone parts)
emptied-next zero no_part first rest h e = tt
emptied-next zero (a_part f r) first rest h e = (refl, tt)
emptied-next (suc k) no_part first rest h e = tt
emptied-next (suc k) (a_part f r) first rest h e = (h.0, emptied-next k r first rest h.1 e)

pub emptied-serials : (k : ℕ) (parts : Data) → Emptied k parts → tail k parts ≡ no_part → serials_of_all parts ≡ []
emptied-serials zero parts h e = ap serials_of_all e
emptied-serials (suc k) no_part h e = refl
emptied-serials (suc k) (a_part f r) h e = ap (λ d. serials d ++ serials_of_all r) h.0 ∙ emptied-serials k r h.1 e

pub later : (parts : Data) (k : ℕ) (first : Datum) (rest : Data) → tail k parts ≡ a_part first rest →
    tail (suc k) parts ≡ rest
later no_part zero first rest e = absurd (let n : no_part ≡ a_part first rest = e in cc)
later no_part (suc k) first rest e = absurd (let n : no_part ≡ a_part first rest = e in cc)
later (a_part f r) zero first rest e = let x : r ≡ rest = cc in x
later (a_part f r) (suc k) first rest e = later r k first rest e

module _ (items : ItemTable) (local_ty local_ty' : (body local : ℕ) → Option TyId)
    (extends : Extends local_ty local_ty') (most number depth : ℕ) where
  abbrev raw : Setting
  raw = raw_setting items local_ty

  abbrev Here : State → Type 0
  Here = HereOf number depth

  -- ---- the parts of an aggregate
  -- what stands there while the first parts are gone already
  pub record Current (place : Place) (s : Located) (k variant : ℕ) (rest : Data) (w0 w : State) : Type 0 where
    pub parts : Data
    pub stands : Stands raw w (with_value s (Aggregate variant None parts))
    pub tail_is : tail k parts ≡ rest
    pub emptied : Emptied k parts
    pub names : Names items local_ty local_ty' extends w (named place) (with_value s (Aggregate variant None parts))
    pub here : Here w
    pub few : w.ticks ≤ most
    pub change : (new : Datum) (v : State) → Changed s.address new w v → Changed s.address new w0 v

  pub record Emptied_of (place : Place) (s : Located) (w0 w : State) : Type 0 where
    pub value : Datum
    pub stands : Stands raw w (with_value s value)
    pub none : serials value ≡ []
    pub change : (new : Datum) (v : State) → Changed s.address new w v → Changed s.address new w0 v

  -- the steps to the parts of this variant
  abbrev pub StepsTo : (ℕ → Step) → ℕ → Type 0
  StepsTo step variant = (n : ℕ) (c m : Located) (parts : Data) → c.value ≡ Aggregate variant None parts →
      Into items (Part n) c m → Takes items (named_step (step n)) (Part n) c m

  pub names-below : (w : State) (place : Place) (step : Step) (at : At) (s t : Located) →
      Names items local_ty local_ty' extends w (named place) s → Takes items (named_step step) at s t →
      t.address ≡ below s.address at → Names items local_ty local_ty' extends w (named (place_below place step)) t
  names-below w place step at s t n h e = record {
    depth = n.depth ∙ ap (λ (a : Addr). suc a.depth) (sym e);
    local = ap (λ (a : Addr). a.key.0) e ∙ n.local;
    root = n.root;
    root_is = subst (λ (a : Addr). rooted raw a.depth place.local (body_at a.depth w)
        (held a.depth place.local w) ≡ Some n.root) (sym e) n.root_is;
    root_value = n.root_value ∙ ap (λ (a : Addr). held a.depth place.local w) (sym e);
    other_root = λ v. subst (λ (a : Addr). rooted raw a.depth place.local (body_at a.depth w) v ≡ Some
        (with_value n.root v)) (sym e) (n.other_root v);
    along = subst (λ steps. NamesAlong items steps t.address.path n.root t)
        (sym (map-append named_step place.steps (step ∷ [])))
        (subst (λ (a : Addr). NamesAlong items (map named_step place.steps ++ named_step step ∷ []) a.path n.root t)
        (sym e) (names-further items (map named_step place.steps) s.address.path n.root s t
        (named_step step) at n.along h));
  }

  -- the next part
  pub record NextPart (place : Place) (step : ℕ → Step) (s : Located) (k variant : ℕ) (first : Datum)
      (rest : Data) (w0 w : State) (t : Located) : Type 0 where
    pub stands : Stands raw w t
    pub value_is : t.value ≡ first
    pub found_is : type_of_field items variant k (concrete_ty items s.dynamic) ≡ Some t.dynamic
    pub names : Names items local_ty local_ty' extends w (named (place_below place (step k))) t
    pub goes_on : (v : State) → Changed t.address Gone w v → Current place s (suc k) variant rest w0 v

  pub next : (place : Place) (step : ℕ → Step) (s : Located) (k variant : ℕ) (parts : Data) (first : Datum)
      (rest : Data) (w0 w : State) (t : Located) → StepsTo step variant →
      s.value ≡ Aggregate variant None parts → tail k parts ≡ a_part first rest →
      Current place s k variant (a_part first rest) w0 w → into items (Part k) s ≡ Some t →
      NextPart place step s k variant first rest w0 w t
  next place step s k variant parts first rest w0 w t takes is tails r e =
      let i = into-parts items (Part k) s t e in
      let c : Located = with_value s (Aggregate variant None r.parts) in
      let first_is : i.value ≡ first = (let same : Some i.value ≡ Some first = sym i.value_is ∙ ap (part (Part k)) is
      ∙ tail-first k parts first rest tails in cc) in
      let found_is : type_of_field items variant k (concrete_ty items s.dynamic) ≡ Some i.dynamic =
      ap (λ d. type_of_part items (Part k) d s.dynamic) (sym is) ∙ i.found_is in
      let j : Into items (Part k) c t = record {
        value = i.value;
        dynamic = i.dynamic;
        value_is =
            tail-first k r.parts first rest r.tail_is ∙ ap Some (sym first_is);
        found_is = found_is;
        is = i.is;
      } in
      let there : located_at raw w (below s.address (Part k)) ≡ Some t = stands-into raw w c (Part k) r.stands
      ∙ into-is items (Part k) c t j in
      let address : t.address ≡ below s.address (Part k) = standing-address raw w (below s.address (Part k))
      t there in record {
        stands = ap (located_at raw w) address ∙ there;
        value_is = ap (λ x. x.value) i.is ∙ first_is;
        found_is = found_is ∙ ap (λ x. Some x.dynamic) (sym i.is);
        names = names-below w place (step k) (Part k) c t r.names (takes k c t r.parts refl j) address;
        goes_on = λ v ch.
            let above = Changed-above raw w v c t (Part k) Gone r.stands j
            (subst (λ a. Changed a Gone w v) address ch) in record {
              parts = with_part_at k Gone r.parts;
              stands = stands-Changed raw w v c (Aggregate variant None (with_part_at k Gone r.parts)) r.stands above;
              tail_is = tail-next k Gone r.parts first rest r.tail_is;
              emptied = emptied-next k r.parts first rest r.emptied r.tail_is;
              names = names-Changed items local_ty local_ty' extends w v (named place) c
                  (Aggregate variant None (with_part_at k Gone r.parts)) r.names above;
              here = here-Changed number depth s.address (Aggregate variant None (with_part_at k Gone r.parts)) w v
                  above r.here;
              few = let a = above.less in let b = r.few in omega arith;
              change = λ new u h. r.change new u (Changed-Changed s.address
                  (Aggregate variant None (with_part_at k Gone r.parts)) new w v u above h);
            };
      }

  pub at_first : (place : Place) (s : Located) (w : State) (variant : ℕ) (parts : Data) →
      TakenApart items s.value s.dynamic variant parts → Stands raw w s → Names items local_ty local_ty' extends w
      (named place) s → Here w → w.ticks ≤ most → Current place s 0 variant parts w w
  at_first place s w variant parts t st names here l = record {
    parts = parts;
    stands = subst (λ d. Stands raw w (with_value s d)) t.value_is st;
    tail_is = refl;
    emptied = tt;
    names = subst (λ d. Names items local_ty local_ty' extends w (named place) (with_value s d)) t.value_is names;
    here = here;
    few = l;
    change = λ new v c. c;
  }
