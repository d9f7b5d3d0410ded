-- The rules of `Lower` beside a local of a reference type: destinations, operands, what is around a node, and what a node
-- is.
use Rattle.std.proofs.Common.{◌≡◌, ◌⊎◌, inl, inr, ℕ, zero, suc, ◌+◌, ◌≤◌, ◌==◌, Bool, true, false, List, [], ◌∷◌, ◌++◌, length, map, Option, Some, None, slice_get, cond, if◌then◌else◌, refl, sym, ap, subst, ◌∙◌, arith}
use Rattle.std.proofs.lemmas.Bool.{eqb-true}
use Rattle.std.proofs.lemmas.Option.{same_Some}
use Rattle.std.specs.Prelude.{is_some, option_and_then}
use Rattle.std.specs.Option.{option_map_or}
use Rattle.mir_ty.specs.declared.ty.Ty.{Ty}
use Rattle.mir_ty.specs.declared.ty.TyId.{TyId}
use Rattle.mir_ty.specs.Facts.{needs_drop, drop_rule, in_rounds}
use Rattle.mir_ty.specs.ItemTable.{type_at}
use Rattle.store_model.specs.Effects as effects
use Rattle.store_model.specs.Effects.{EffectSite, Action}
use Rattle.store_model.specs.Places.Place.{Step, Place, whole_local}
use Rattle.typed_tree.specs.Tree as tree
use Rattle.typed_tree.specs.Tree.{Node}
use Rattle.src_meaning.specs.Evaluation.{to_own_key}
use Rattle.src_meaning.specs.Forms as source
use Rattle.src_meaning.specs.Forms.{Destination, Into, Coerced, LoopsAndGuards, in_guard, in_loop, aliases_with, loop_destination, entry_of, bound_entry, site_in, site_of_key, moved}
use Rattle.src_meaning.specs.Locals.OfBody.{cells, reached_cells, cells_in, is_place_form}
use Rattle.src_meaning.specs.Scopes.{Entry, Scope, Scopes, innermost, around_innermost, nearest_temporary, with_entry, with_pending, without_pending, becomes_entry}
use Rattle.src_meaning.specs.Shape.{NodeHead, BoundName, Aliases, place_of_key, extended, operand_of_bound, copied_or_moved}
use Rattle.well_typed.specs.Places as scopes
use Rattle.well_typed.specs.Places.{InScope, LoopAround, Context, with_entries, within, entry_with, loop_with, ty_of, form_of}
use Rattle.well_typed.specs.Types as types
use Rattle.lower_rules.specs.Build as build
use Rattle.lower_rules.specs.Build.{LoweringFrame, Lowers, change, from_changed, then_lower, taken}
use Rattle.lower_rules.specs.Lower as lower
use Rattle.lower_rules.specs.Lower.{NodeLower}
use Rattle.lower_rules.proofs.KnownTypes.{never_known}
use Rattle.lower_rules.proofs.Lines as lines
use Rattle.lower_laws.proofs.Base as base
use Rattle.lower_laws.proofs.Base.{Ground, untrue, and_first, and_second}
use Rattle.lower_laws.proofs.Names as names
use Rattle.lower_laws.proofs.Rules as rules
use Rattle.lower_ready.proofs.Once as once
use Rattle.lower_ready.proofs.Once.{About}
use Rattle.lower_ready.proofs.OnceUses.{AllWhole}
use Rattle.lower_ready.proofs.OnceActs as on

module _ (g : Ground) (L K : ℕ) (about : About g L K) (Q : Type 0) where
  abbrev F : LoweringFrame
  F = base.F g

  abbrev pub Free : Type 0
  Free = Unit {0}

  abbrev pub Once : Type 0 → List LoopAround → Lowers → ℕ → Type 0
  Once H loops P m = once.Once g L K about Q H loops P m

  abbrev pub Keeps : Lowers → Type 0 → ℕ → Type 0
  Keeps P M n = once.Keeps g L K about Q P M n

  abbrev W : Bool → lines.Wanted F
  W = once.W g L K about Q

  abbrev pub Cells : List Entry → Type 0
  Cells = base.CellsOk g

  -- ---- types
  abbrev pub NotRef : TyId → Type 0
  NotRef ty = types.is_reference g.items ty ≡ false

  abbrev pub IsRef : TyId → Type 0
  IsRef ty = types.is_reference g.items ty ≡ true

  pub by_ref : {P : Type 0} (ty : TyId) → (IsRef ty → P) → (NotRef ty → P) → P
  by_ref {P} ty yes_ no_ = by (types.is_reference g.items ty) refl
    where
      by : (b : Bool) → types.is_reference g.items ty ≡ b → P
      by true e = yes_ e
      by false e = no_ e

  pub not_both : (ty : TyId) → IsRef ty → NotRef ty → ⊥
  not_both ty r n = untrue (sym n ∙ r)

  pub known_ref : (ty : TyId) (t : Ty) → type_at g.items ty ≡ Some t → types.is_reference g.items ty ≡ is_some (types.reference_in t)
  known_ref ty t e = ap (λ (o : Option Ty). is_some (option_and_then types.reference_in o)) e

  pub never_no_ref : (ty : TyId) → base.Never g ty → NotRef ty
  never_no_ref ty v = known_ref ty Ty.Never (never_known g.items ty v)

  -- a reference needs no dropping
  pub no_drop : (ty : TyId) → IsRef ty → needs_drop g.items ty ≡ true → ⊥
  no_drop ty r d = on (length g.items.types) d
    where
      of_ty : (k : ℕ) (o : Option Ty) → is_some (option_and_then types.reference_in o) ≡ true → option_map_or (drop_rule g.items.adts g.items.closures (in_rounds g.items.types (drop_rule g.items.adts g.items.closures) k)) o false ≡ true → ⊥
      of_ty k None r h = untrue r
      of_ty k (Some (Ty.Shared to)) r h = untrue h
      of_ty k (Some (Ty.Unique to)) r h = untrue h
      of_ty k (Some other) r h = untrue r

      on : (k : ℕ) → in_rounds g.items.types (drop_rule g.items.adts g.items.closures) k ty ≡ true → ⊥
      on zero h = untrue h
      on (suc k) h = of_ty k (type_at g.items ty) r h

  -- ---- keys with cells
  pub keyed_ref : (key : ℕ) (ty : TyId) → base.KeyIs g key ty → key ≡ K → IsRef ty
  keyed_ref key ty k e =
      let at : slice_get g.tys (g.local_of key) ≡ Some about.ty = ap (λ (z : ℕ). slice_get g.tys (g.local_of z)) e ∙ ap (slice_get g.tys) (eqb-true (g.local_of K) L about.here) ∙ about.typed in
      ap (types.is_reference g.items) (same_Some ty about.ty (sym k ∙ at)) ∙ about.is_ref

  pub keyed_away : (key : ℕ) (ty : TyId) → base.KeyIs g key ty → NotRef ty → key ≡ K → ⊥
  keyed_away key ty k n e = not_both ty (keyed_ref key ty k e) n

  pub entered : (e : Entry) → base.EntryOk g e → once.Entered g L K about Q e
  entered e ok d k = no_drop e.ty (keyed_ref e.key e.ty (ok d) k) d

  -- ---- cells with the key
  abbrev pub one_if : Bool → ℕ
  one_if true = 1
  one_if false = 0

  abbrev pub occ : List Entry → ℕ
  occ [] = 0
  occ (e ∷ es) = one_if (e.key == K) + occ es

  pub occ_append : (xs ys : List Entry) → occ (xs ++ ys) ≡ occ xs + occ ys
  occ_append [] ys = let r : occ ys ≡ 0 + occ ys = omega arith in r
  occ_append (x ∷ xs) ys = let e = occ_append xs ys in let r : one_if (x.key == K) + occ (xs ++ ys) ≡ (one_if (x.key == K) + occ xs) + occ ys = omega (e, arith) in r

  pub occ_rest : (xs ys : List Entry) (m : ℕ) → m ≤ occ ys → m ≤ occ (xs ++ ys)
  occ_rest xs ys m h = let e = occ_append xs ys in let r : m ≤ occ (xs ++ ys) = omega (e, h, arith) in r

  pub inner_under : (o : Bool) (n : Node) (m : ℕ) → m ≤ occ (cells_in g.items (form_of n)) → m ≤ occ (cells g.items o n)
  inner_under o (tree.node id at ty by form) m h = occ_rest _ (cells_in g.items form) m h

  pub reach_under : (n : Node) (m : ℕ) → m ≤ occ (cells_in g.items (form_of n)) → m ≤ occ (reached_cells g.items n)
  reach_under (tree.node id at ty by form) m h = occ_rest _ (cells_in g.items form) m h

  -- ---- places
  abbrev pub FreePlace : Place → Type 0
  FreePlace place = (Q → on.Away g L K about Q place) × on.NotWhole g L K about Q place

  abbrev pub PlaceOk : TyId → Place → Type 0
  PlaceOk ty place = (Q → on.Away g L K about Q place) × (NotRef ty → on.NotWhole g L K about Q place)

  not_nil : (steps : List Step) (step : Step) → steps ++ step ∷ [] ≡ [] → ⊥
  not_nil [] step e = let never : ⊥ = (let z : suc zero ≡ zero = ap length e in omega (z, arith)) in never
  not_nil (x ∷ steps) step e = let never : ⊥ = (let z : suc (length (steps ++ step ∷ [])) ≡ zero = ap length e in omega (z, arith)) in never

  pub further : (place : Place) (step : Step) → (Q → on.Away g L K about Q place) → FreePlace (extended step place)
  further place step h = (h, λ k e. not_nil place.steps step e)

  pub other_whole : (key : ℕ) → (key ≡ K → ⊥) → FreePlace (whole_local key)
  other_whole key h = (λ q. h, λ k e. h k)

  abbrev pub AliasesFree : Aliases → Type 0
  AliasesFree [] = Unit {0}
  AliasesFree (a ∷ aliases) = FreePlace a.1 × AliasesFree aliases

  pub named_place : (key : ℕ) (ty : TyId) (aliases : Aliases) → AliasesFree aliases → PlaceOk ty (whole_local key) → PlaceOk ty (place_of_key key aliases)
  named_place key ty [] h p = p
  named_place key ty (a ∷ aliases) h p = by (key == a.0) (named_place key ty aliases h.1 p)
    where
      by : (b : Bool) → PlaceOk ty (place_of_key key aliases) → PlaceOk ty (if b then a.1 else place_of_key key aliases)
      by true k = (h.0.0, λ n. h.0.1)
      by false k = k

  -- ---- destinations: one under the key of the local is of a reference type, and nothing is made of type `!`
  abbrev pub Clear : Destination → Type 0
  Clear (Into key) = key ≡ K → ⊥
  Clear (Coerced key trait_no to) = (key ≡ K → ⊥) × (to ≡ K → ⊥)

  abbrev pub Dest : Destination → TyId → Type 0
  Dest to ty = NotRef ty → base.Made g ty → Clear to

  pub dest_fits : (to : Destination) (want ty : TyId) → rules.Fits g want ty → Dest to want → Dest to ty
  dest_fits to want ty fit d n m = elim fit [
    | inl same ↦ d (subst NotRef same n) (subst (base.Made g) same m)
    | inr never ↦ absurd (base.never_and_made g ty never m)
  ]

  pub own_dest : (h : NodeHead) (to : Destination) → Dest to h.ty → Dest (to_own_key (source.is_never g.items h.ty) h.id to) h.ty
  own_dest h to d n m = subst (λ (b : Bool). Clear (to_own_key b h.id to)) (sym m) (d n m)

  pub own_clear : (h : NodeHead) (to : Destination) → Dest to h.ty → NotRef h.ty → (base.Never g h.ty → h.id ≡ K → ⊥) → Clear (to_own_key (source.is_never g.items h.ty) h.id to)
  own_clear h to d n v = base.by_never g h.ty
      (λ never. subst (λ (b : Bool). Clear (to_own_key b h.id to)) (sym never) (v never))
      (λ made. subst (λ (b : Bool). Clear (to_own_key b h.id to)) (sym made) (d n made))

  -- an effect whose answer goes to a destination
  abbrev pub Answers : Type 0 → (EffectSite → Action) → Type 0
  Answers H action = (id key : ℕ) → (key ≡ K → ⊥) → on.StoresWell g L K about Q (action (site_in id key)) × ((Q → on.UsesWell g L K about Q (action (site_in id key))) × (H → Q → on.NamesNone g L K about Q (action (site_in id key))))

  zero_zero : 0 + 0 ≤ 0
  zero_zero = let r : 0 + 0 ≤ 0 = omega arith in r

  pub delivered : (H : Type 0) (loops : List LoopAround) (n : ℕ) (h : NodeHead) (action : EffectSite → Action) (to : Destination) → Clear to → Answers H action → Once H loops (lower.deliver_at F n h action to) 0
  delivered H loops n h action (Into key) d ok = on.acts g L K about Q H loops n (action (site_in h.id key)) (ok h.id key d).0 (ok h.id key d).1.0 (ok h.id key d).1.1
  delivered H loops n h action (Coerced key trait_no to) d ok =
      once.more g L K about Q H loops _ (0 + 0) 0 zero_zero
      (once.and_then g L K about Q H loops _ _ 0 0 (on.acts g L K about Q H loops n (action (site_in h.id key)) (ok h.id key d.0).0 (ok h.id key d.0).1.0 (ok h.id key d.0).1.1)
      (λ e. on.acts g L K about Q H loops h.id (effects.Unsize (site_in h.id to) trait_no (moved h.id key)) (λ k e. d.1 k) (λ q. (d.1, (d.0, tt))) (λ a q. (d.1, (d.0, tt)))))

  pub puts : (H : Type 0) (from : effects.Operand) → (Q → on.OperandAway g L K about Q from) → Answers H (λ site. effects.Put site from)
  puts H from f id key h = (λ k e. h k, (λ q. (h, (f q, tt)), λ a q. (h, (f q, tt))))

  pub unit_put : (H : Type 0) (loops : List LoopAround) (h : NodeHead) (to : Destination) → Clear to → Once H loops (lower.put_unit F h to) 0
  unit_put H loops h to d = delivered H loops h.id h (λ site. effects.Put site effects.UnitValue) to d (puts H effects.UnitValue (λ q. tt))

  pub owned : (loops : List LoopAround) (h : NodeHead) (own : Bool) (P : Lowers) (m : ℕ) → Once Free loops P m → Once Free loops (lower.in_own_scope F h own P) m
  owned loops h true P m p = once.scoped g L K about Q Free loops h.id true P m p
  owned loops h false P m p = p

  -- ---- what is around a node
  pub record Around (x : Context) (a : LoopsAndGuards) : Type 0 where
    pub names : (key : ℕ) (e : InScope) → entry_with key x.entries ≡ Some e → key ≡ K → (Q → ⊥) × IsRef e.ty
    pub aliases : AliasesFree a.aliases
    pub self : (e : InScope) → x.closure ≡ Some e → Q → e.key ≡ K → ⊥
    pub answer : Dest a.answer x.answer
    pub loops : (loop : ℕ) (l : LoopAround) → loop_with loop x.loops ≡ Some l → Dest (loop_destination loop a.loops) l.ty

  abbrev pub Others : List InScope → Type 0
  Others [] = Unit {0}
  Others (e ∷ es) = (e.key ≡ K → ⊥) × Others es

  named_more : (es old : List InScope) → Others es → ((key : ℕ) (e : InScope) → entry_with key old ≡ Some e → key ≡ K → (Q → ⊥) × IsRef e.ty) → (key : ℕ) (e : InScope) → entry_with key (es ++ old) ≡ Some e → key ≡ K → (Q → ⊥) × IsRef e.ty
  named_more [] old h older key e is k = older key e is k
  named_more (d ∷ es) old h older key e is k = by (d.key == key) refl is (λ c. named_more es old h.1 older key e c k)
    where
      by : (b : Bool) → (d.key == key) ≡ b → cond b (Some d) (entry_with key (es ++ old)) ≡ Some e → (entry_with key (es ++ old) ≡ Some e → (Q → ⊥) × IsRef e.ty) → (Q → ⊥) × IsRef e.ty
      by true q c rest = absurd (h.0 (eqb-true d.key key q ∙ k))
      by false q c rest = rest c

  pub around_more : (x : Context) (a : LoopsAndGuards) (es : List InScope) → Others es → Around x a → Around (with_entries es x) a
  around_more x a es h ar = record { names = named_more es x.entries h ar.names; aliases = ar.aliases; self = ar.self; answer = ar.answer; loops = ar.loops }

  others_guarded : (es : List InScope) → Others es → Others (scopes.in_guard es)
  others_guarded [] h = tt
  others_guarded (e ∷ es) h = (h.0, others_guarded es h.1)

  -- a name that is bound, and what it takes
  abbrev pub BoundWell : BoundName → Type 0
  BoundWell b = (b.key ≡ K → ⊥) × FreePlace b.site.place

  abbrev pub BoundsWell : List BoundName → Type 0
  BoundsWell [] = Unit {0}
  BoundsWell (b ∷ bounds) = BoundWell b × BoundsWell bounds

  guarded_aliases : (bounds : List BoundName) (aliases : Aliases) → BoundsWell bounds → AliasesFree aliases → AliasesFree (aliases_with bounds aliases)
  guarded_aliases [] aliases h k = k
  guarded_aliases (b ∷ bounds) aliases h k = (h.0.1, guarded_aliases bounds aliases h.1 k)

  pub around_guard : (x : Context) (a : LoopsAndGuards) (es : List InScope) (bounds : List BoundName) → Others es → BoundsWell bounds → Around x a → Around (with_entries (scopes.in_guard es) x) (in_guard bounds a)
  around_guard x a es bounds h b ar = record { names = named_more (scopes.in_guard es) x.entries (others_guarded es h) ar.names; aliases = guarded_aliases bounds a.aliases b ar.aliases; self = ar.self; answer = ar.answer; loops = ar.loops }

  pub around_loop : (x : Context) (a : LoopsAndGuards) (l : LoopAround) (to : Destination) → Dest to l.ty → Around x a → Around (within l x) (in_loop l.loop to a)
  around_loop x a l to d ar = record { names = ar.names; aliases = ar.aliases; self = ar.self; answer = ar.answer; loops = loops }
    where
      loops : (loop : ℕ) (k : LoopAround) → loop_with loop (l ∷ x.loops) ≡ Some k → Dest (loop_destination loop ((l.loop, to) ∷ a.loops)) k.ty
      loops loop k is = by (l.loop == loop) refl is
        where
          by : (b : Bool) → (l.loop == loop) ≡ b → cond b (Some l) (loop_with loop x.loops) ≡ Some k → Dest (if loop == l.loop then to else loop_destination loop a.loops) k.ty
          by true q c =
              subst (λ (z : LoopAround). Dest (if loop == l.loop then to else loop_destination loop a.loops) z.ty) (same_Some l k c)
              (subst (λ (z : ℕ). Dest (if loop == z then to else loop_destination loop a.loops) l.ty) (sym (eqb-true l.loop loop q)) (subst (λ (b : Bool). Dest (if b then to else loop_destination loop a.loops) l.ty) (sym (names.equal_too loop loop refl)) d))
          by false q c = subst (λ (b : Bool). Dest (if b then to else loop_destination loop a.loops) k.ty) (sym (names.differ_too l.loop loop q)) (ar.loops loop k c)

  -- ---- what a node is
  -- a place whose value is used is not of a reference type
  abbrev pub Valued : Node → Type 0
  Valued n = is_place_form (form_of n) ≡ true → IsRef (ty_of n) → ⊥

  pub record Known (x : Context) (n : Node) (m : NodeLower) : Type 0 where
    pub evaluates : (o : Bool) → Cells (cells g.items o n) → Valued n → (a : LoopsAndGuards) → Around x a → (own : Bool) (to : Destination) → Dest to (ty_of n) → Once Free x.loops (m.evaluates a own to) (occ (cells g.items o n))
    pub ended : (o : Bool) → Cells (cells g.items o n) → Valued n → IsRef (ty_of n) → (a : LoopsAndGuards) → Around x a → (own : Bool) (to : Destination) → (m.evaluates a own to).has_end ≡ false
    pub reaches : Cells (reached_cells g.items n) → (a : LoopsAndGuards) → Around x a → Once Free x.loops (m.reaches a) (occ (reached_cells g.items n))
    pub place : Cells (reached_cells g.items n) → (a : LoopsAndGuards) → Around x a → (m.reaches a).has_end ≡ true → PlaceOk (ty_of n) (m.shape.place a.aliases)

  pub record Child (x : Context) (n : Node) (m : NodeLower) : Type 0 where
    pub good : rules.Good g x n m
    pub known : Known x n m

  -- where the value of a node is made, it is not under the key of the local
  pub out : (x : Context) (n : Node) (m : NodeLower) → Child x n m → Cells (cells g.items true n) → Valued n → (a : LoopsAndGuards) → Around x a → (own : Bool) (to : Destination) → (m.evaluates a own to).has_end ≡ true → m.head.id ≡ K → ⊥
  out x n m c cs v a ar own to e k =
      by_ref (ty_of n) (λ r. untrue (sym (c.known.ended true cs v r a ar own to) ∙ e))
      (λ nr. base.by_never g m.head.ty (λ w. untrue (sym (c.good.ended true cs w a own to) ∙ e))
      (λ made. keyed_away m.head.id m.head.ty (c.good.cell cs made) (subst NotRef (sym c.good.ty_is) nr) k))

  -- a value goes under the key of its own node
  pub dest_own : (x : Context) (n : Node) (m : NodeLower) → Child x n m → Cells (cells g.items true n) → Dest (Into m.head.id) (ty_of n)
  dest_own x n m c cs nr made k = keyed_away m.head.id m.head.ty (c.good.cell cs (subst (base.Made g) (sym c.good.ty_is) made)) (subst NotRef (sym c.good.ty_is) nr) k

  pub entry_ok : (x : Context) (n : Node) (m : NodeLower) → Child x n m → Cells (cells g.items true n) → once.Entered g L K about Q (entry_of m.head)
  entry_ok x n m c cs = entered (entry_of m.head) (λ d. c.good.cell cs (rules.made_by_drop g m.head.ty d))

  -- ---- destinations that are pending, and then complete
  abbrev pub InAll : ((Scope → Scope) → Scopes → Scopes) → Type 0
  InAll in_that = (b : Bool) (f : Scope → Scope) → lines.KeepsOk F (W b) f → (S : Scopes) → lines.ScopesOk F (W b) S → lines.ScopesOk F (W b) (in_that f S)

  pub inner : InAll innermost
  inner b f k S o = lines.innermost_ok F (W b) f k S o

  pub around : InAll around_innermost
  around b f k S o = lines.around_ok F (W b) f k S o

  pub nearest : InAll nearest_temporary
  nearest b f k S o = lines.nearest_ok F (W b) f k S o

  pub pending : (z : Bool) (in_that : (Scope → Scope) → Scopes → Scopes) (h : NodeHead) → InAll in_that → (z ≡ true → once.Entered g L K about Q (entry_of h)) → once.KeepsAll g L K about Q (lower.pending_if F z in_that h)
  pending true in_that h keeps e b S o = keeps b (with_pending (entry_of h)) (lines.pending_keeps F (W b) (entry_of h) (e refl)) S o
  pending false in_that h keeps e b S o = o

  pub given_more : (H : Type 0) (loops : List LoopAround) (P : Lowers) (m : ℕ) → Once Free loops P m → Once (Free × H) loops P m
  given_more H loops P m p = record { count = p.count; adds = p.adds; bound = p.bound; plain = p.plain; quiet = λ h k e. p.quiet tt k e; stays = p.stays }

  pub more_kept : (M : Type 0) (loops : List LoopAround) (P : Lowers) (m n : ℕ) → m ≤ n → (p : Once Free loops P m) → Keeps P M p.count → (q : Once Free loops P n) × Keeps P M q.count
  more_kept M loops P m n le p k = (
    record { count = p.count; adds = p.adds; bound = (let b = p.bound in let r : p.count ≤ n = omega (b, le, arith) in r); plain = p.plain; quiet = p.quiet; stays = p.stays },
    k,
  )

  pub completing : (in_that : (Scope → Scope) → Scopes → Scopes) (h : NodeHead) → InAll in_that → once.Entered g L K about Q (entry_of h) → once.KeepsAll g L K about Q (lower.completed F in_that h)
  completing in_that h keeps e b S o = keeps b (becomes_entry (entry_of h)) (lines.becomes_keeps F (W b) (entry_of h) e) S o

  -- the name of a `let`, whose destination was pending within
  pub naming : (h : NodeHead) → once.Entered g L K about Q (entry_of h) → once.KeepsAll g L K about Q (lower.named F h)
  naming h e b S o = around b (with_entry (entry_of h)) (lines.entry_keeps F (W b) (entry_of h) e) _ (inner b (without_pending (entry_of h)) (lines.without_keeps F (W b) (entry_of h)) S o)

  pub no_more : (m : ℕ) → m + 0 ≤ m
  no_more m = let r : m + 0 ≤ m = omega arith in r

  pub pended : (loops : List LoopAround) (z : Bool) (in_that : (Scope → Scope) → Scopes → Scopes) (h : NodeHead) (P : Lowers) (m : ℕ) → InAll in_that → once.Entered g L K about Q (entry_of h) → Once Free loops P m →
      Once Free loops (from_changed (lower.pending_if F z in_that h) (then_lower P (change (lower.completed F in_that h)))) m
  pended loops z in_that h P m keeps e p =
      once.changed g L K about Q Free loops (lower.pending_if F z in_that h) _ m (pending z in_that h keeps (λ d. e))
      (once.more g L K about Q Free loops _ (m + 0) m (no_more m)
      (once.and_then g L K about Q Free loops P _ m 0 p (λ d. once.changes g L K about Q Free loops (lower.completed F in_that h) (completing in_that h keeps e))))

  -- ---- operands
  abbrev pub OneKey : NodeLower → Type 0
  OneKey m = m.head.id ≡ K

  abbrev pub AnyKey : List NodeLower → Type 0
  AnyKey [] = ⊥
  AnyKey (m ∷ ms) = OneKey m ⊎ AnyKey ms

  -- where code has an end, none of its operands is made under the key of the local
  abbrev pub Out : Lowers → Type 0 → Type 0
  Out P M = P.has_end ≡ true → M → ⊥

  -- an operand; one that is no argument of a call is made elsewhere
  abbrev pub OperandIs : Type 0 → Context → NodeLower → ℕ → Type 0
  OperandIs T x m o =
      (a : LoopsAndGuards) → Around x a → (t : Once Free x.loops (lower.operand F a m) o) × Keeps (lower.operand F a m) (OneKey m) t.count × (T → Out (lower.operand F a m) (OneKey m))

  abbrev pub OperandsAre : Type 0 → Context → List NodeLower → ℕ → Type 0
  OperandsAre T x ms o =
      (a : LoopsAndGuards) → Around x a → (t : Once Free x.loops (lower.operands F a ms) o) × Keeps (lower.operands F a ms) (AnyKey ms) t.count × (T → Out (lower.operands F a ms) (AnyKey ms))

  pub operand_is : (T : Type 0) (x : Context) (n : Node) (m : NodeLower) → Child x n m → Cells (cells g.items true n) → Valued n → OperandIs T x m (occ (cells g.items true n))
  operand_is T x n m c cs v a ar = (
    pended x.loops m.shape.in_destination innermost m.head _ (occ (cells g.items true n)) inner (entry_ok x n m c cs) (c.known.evaluates true cs v a ar false (Into m.head.id) (dest_own x n m c cs)),
    λ e k z. other e k,
    λ t e k. other e k,
  )
    where
      other : (lower.operand F a m).has_end ≡ true → OneKey m → ⊥
      other e k = out x n m c cs v a ar false (Into m.head.id) (and_first (m.evaluates a false (Into m.head.id)).has_end true e) k

  pub no_operand : (T : Type 0) (x : Context) → OperandsAre T x [] 0
  no_operand T x a ar = (once.nothing_done g L K about Q Free x.loops, λ e m z. m, λ t e m. m)

  pub an_operand : (T : Type 0) (x : Context) (m : NodeLower) (ms : List NodeLower) (o r : ℕ) → OperandIs T x m o → OperandsAre T x ms r → OperandsAre T x (m ∷ ms) (o + r)
  an_operand T x m ms o r one rest a ar =
      let p = one a ar in
      let q = rest a ar in
      let k = once.then_kept g L K about Q Free (OneKey m) (AnyKey ms) (AnyKey (m ∷ ms)) (λ k. k) x.loops (lower.operand F a m) (lower.operands F a ms) o r p.0 p.1
      (λ e. (once_given q.0 (p.0.count ≡ 0), kept_given q.0 (p.0.count ≡ 0) q.1)) in (k.0, k.1, λ t e any. neither (p.2 t (and_first _ _ e)) (q.2 t (and_second (lower.operand F a m).has_end _ e)) any)
    where
      once_given : {P : Lowers} {z : ℕ} → Once Free x.loops P z → (H : Type 0) → Once (Free × H) x.loops P z
      once_given {P} {z} q H = record { count = q.count; adds = q.adds; bound = q.bound; plain = q.plain; quiet = λ h k e. q.quiet tt k e; stays = q.stays }

      kept_given : {P : Lowers} {z : ℕ} (q : Once Free x.loops P z) (H : Type 0) → Keeps P (AnyKey ms) q.count → Keeps P (AnyKey ms) q.count
      kept_given q H k = k

      neither : (OneKey m → ⊥) → (AnyKey ms → ⊥) → AnyKey (m ∷ ms) → ⊥
      neither f h (inl k) = f k
      neither f h (inr k) = h k

  pub more_operands : (T : Type 0) (x : Context) (ms : List NodeLower) (o r : ℕ) → o ≤ r → OperandsAre T x ms o → OperandsAre T x ms r
  more_operands T x ms o r le os a ar =
      let p = os a ar in (
        record { count = p.0.count; adds = p.0.adds; bound = (let b = p.0.bound in let z : p.0.count ≤ r = omega (b, le, arith) in z); plain = p.0.plain; quiet = p.0.quiet; stays = p.0.stays },
        p.1,
        p.2,
      )

  pub all_away : (n : ℕ) (ms : List NodeLower) → (AnyKey ms → ⊥) → on.AllAway g L K about Q (lower.all_moved n ms)
  all_away n [] h = tt
  all_away n (m ∷ ms) h = (λ k. h (inl k), all_away n ms (λ k. h (inr k)))

  -- operands are whole locals
  pub all_whole : (n : ℕ) (ms : List NodeLower) → AllWhole (map (build.operand_of F) (lower.all_moved n ms))
  all_whole n [] = tt
  all_whole n (m ∷ ms) = (refl, all_whole n ms)

  pub acting : (T : Type 0) (x : Context) (h : NodeHead) (a : LoopsAndGuards) (own : Bool) (ms : List NodeLower) (o : ℕ) → OperandsAre T x ms o → Around x a → (P : Lowers) → ((H : Type 0) → (H → AnyKey ms → ⊥) → (T → AnyKey ms → ⊥) → Once H x.loops P 0) → Once Free x.loops (lower.acting F h a own ms P) o
  acting T x h a own ms o os ar P p =
      let t = os a ar in
      once.scoped g L K about Q Free x.loops h.id own _ o
      (once.more g L K about Q Free x.loops _ (o + 0) o (no_more o)
      (once.then_given g L K about Q Free x.loops (lower.operands F a ms) (from_changed (taken F (lower.keys_of ms)) P) o 0 t.0
      (λ e. once.changed g L K about Q (Free × (t.0.count ≡ 0)) x.loops (taken F (lower.keys_of ms)) P 0 (λ b S k. lines.taken_ok F (W b) (lower.keys_of ms) S k) (p (Free × (t.0.count ≡ 0)) (λ h any. t.1 e any h.1) (λ z any. t.2 z e any)))))

  -- ---- names that are bound
  pub binds : (loops : List LoopAround) (in_that : (Scope → Scope) → Scopes → Scopes) → InAll in_that → (bounds : List BoundName) → BoundsWell bounds → Once Free loops (lower.bind F in_that bounds) 0
  binds loops in_that keeps [] h = once.nothing_done g L K about Q Free loops
  binds loops in_that keeps (b ∷ bounds) h =
      once.more g L K about Q Free loops _ (0 + 0) 0 zero_zero
      (once.and_then g L K about Q Free loops _ _ 0 0 (on.acts g L K about Q Free loops b.key (effects.Put (site_of_key b.key) (operand_of_bound b)) (λ k e. h.0.0 k) (λ q. (h.0.0, (takes b.takes (h.0.1.0 q), tt))) (λ a q. (h.0.0, (takes b.takes (h.0.1.0 q), tt))))
      (λ e. once.changed g L K about Q Free loops (in_that (with_entry (bound_entry b))) _ 0 (λ z S o. keeps z (with_entry (bound_entry b)) (lines.entry_keeps F (W z) (bound_entry b) (λ d. h.0.0)) S o) (binds loops in_that keeps bounds h.1)))
    where
      takes : (t : Bool) → on.Away g L K about Q b.site.place → on.OperandAway g L K about Q (copied_or_moved t b.site)
      takes true away = away
      takes false away = away

  abbrev pub KeysAway : List BoundName → Type 0
  KeysAway [] = Unit {0}
  KeysAway (b ∷ bounds) = (b.key ≡ K → ⊥) × KeysAway bounds

  pub declares : (loops : List LoopAround) (bounds : List BoundName) → KeysAway bounds → Once Free loops (lower.declared F bounds) 0
  declares loops [] h = once.nothing_done g L K about Q Free loops
  declares loops (b ∷ bounds) h =
      once.more g L K about Q Free loops _ (0 + 0) 0 zero_zero
      (once.and_then g L K about Q Free loops _ _ 0 0 (emptied (needs_drop g.items b.ty))
      (λ e. once.changed g L K about Q Free loops (innermost (with_entry (bound_entry b))) _ 0 (λ z S o. inner z (with_entry (bound_entry b)) (lines.entry_keeps F (W z) (bound_entry b) (λ d. h.0)) S o) (declares loops bounds h.1)))
    where
      emptied : (x : Bool) → Once Free loops (lower.emptied F x b.key) 0
      emptied true = once.nothing_done g L K about Q Free loops
      emptied false = on.emptied g L K about Q loops b.key (λ q. h.0)
