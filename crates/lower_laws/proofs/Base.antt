-- What is known of a body, of its cells and of what is around a node; effects whose lines are well typed.
use Rattle.std.proofs.Common.{◌≡◌, ◌⊎◌, inl, inr, ℕ, ◌&&◌, ◌||◌, not, nat_lt, Bool, true, false, List, [], ◌∷◌, ◌++◌, length, Option, Some, None, map, slice_get, refl, sym, ap, subst, ◌∙◌}
use Rattle.std.proofs.lemmas.Bool.{eqb-true}
use Rattle.std.proofs.lemmas.Option.{none-some, same_Some}
use Rattle.std.proofs.lemmas.List.{map-append}
use Rattle.std.specs.List.{list_any, list_all}
use Rattle.std.specs.Prelude.{option_and_then, is_some}
use Rattle.cfg_graph.specs.declared.graph.Body.{Body}
use Rattle.cfg_graph.specs.declared.place.Operand as graph_operand
use Rattle.cfg_graph.specs.declared.statement.Stmt.{Stmt}
use Rattle.cfg_graph.specs.declared.terminator.Term.{Term}
use Rattle.cfg_graph.specs.Moves.Gone.{has_index}
use Rattle.cfg_graph.specs.Places.{named_step}
use Rattle.cfg_graph.specs.Ready.{container_tys, may_be_left_gone, moves_out_well}
use Rattle.cfg_graph.specs.Uses.{operands_of_stmt, operands_of_term}
use Rattle.cfg_graph.specs.WellFormed.TypeFaults.{is_drop_body}
use Rattle.mir_ty.specs.declared.def.Sig.{Sig}
use Rattle.mir_ty.specs.declared.ty.Ty.{Ty}
use Rattle.mir_ty.specs.declared.ty.TyId.{TyId}
use Rattle.mir_ty.specs.Facts.{needs_drop}
use Rattle.mir_ty.specs.ItemTable.{ItemTable, type_at}
use Rattle.store_model.specs.Concrete.Effects.{impl_of}
use Rattle.store_model.specs.Effects as effects
use Rattle.store_model.specs.Effects.{EffectSite, Action}
use Rattle.mir_ty.specs.Parts.{parts_of}
use Rattle.store_model.specs.Concrete.Drops.{drop_impl}
use Rattle.store_model.specs.Places.Place.{Step, ToPart, ToField, ToContent, ToElement, Place, whole_local, content_of, element_of, is_enum, is_reference, step_ty, ty_along}
use Rattle.store_model.specs.Places.TypeForms as forms
use Rattle.typed_tree.specs.Nodes.{number_of}
use Rattle.typed_tree.specs.Tree as tree
use Rattle.src_meaning.specs.Forms as source
use Rattle.src_meaning.specs.Forms.{Destination, Into, Coerced, LoopsAndGuards, loop_destination, entry_of, site_in, site_of_key, moved}
use Rattle.src_meaning.specs.Scopes.{Entry, Exit, Breaks, entry_site}
use Rattle.src_meaning.specs.Shape.{NodeHead, BoundName, Aliases, place_of_key, extended}
use Rattle.well_typed.specs.Claim.{Claim, Holds, some}
use Rattle.well_typed.specs.Nodes.{is_closure_body}
use Rattle.well_typed.specs.Places.{InScope, LoopAround, Context, entry_with, loop_with}
use Rattle.well_typed.specs.Types as types
use Rattle.lower_rules.specs.Build as build
use Rattle.cfg_graph.specs.declared.terminator.Unwind.{Unwind}
use Rattle.lower_rules.specs.Build.{LoweringFrame, Lowers, act, act_by, is_last, done_by, then_lower, change, from_changed, jumps_if}
use Rattle.lower_rules.specs.Lower as lower
use Rattle.lower_rules.proofs.KnownTypes.{same_never}
use Rattle.lower_rules.proofs.Lines as lines
use Rattle.lower_rules.proofs.Lines.{Wanted}
use Rattle.lower_rules.proofs.Stops as stops
use Rattle.lower_rules.proofs.TypedLines as typed_lines
use Rattle.lower_rules.proofs.TypedPlaces as typed_places

pub untrue : false ≡ true → ⊥
untrue e = let never : false ≡ true = e in cc

pub and_first : (x y : Bool) → x && y ≡ true → x ≡ true
and_first true y e = refl
and_first false y e = absurd (untrue e)

pub and_second : (x y : Bool) → x && y ≡ true → y ≡ true
and_second true y e = e
and_second false y e = absurd (untrue e)

pub either : (x y : Bool) → x || y ≡ true → (x ≡ true) ⊎ (y ≡ true)
either true y e = inl refl
either false y e = inr e

pub and_false : (x : Bool) → x && false ≡ false
and_false true = refl
and_false false = refl

pub false_and : (x y : Bool) → x ≡ false → x && y ≡ false
false_and x y e = ap (λ b. b && y) e

pub both_false : (x y : Bool) → x ≡ false → y ≡ false → x || y ≡ false
both_false x y e d = ap (λ b. b || y) e ∙ d

pub not_true : (x : Bool) → not x ≡ true → x ≡ false
not_true true e = absurd (untrue e)
not_true false e = refl

pub same_id : (a b : TyId) → types.is_same a b ≡ true → a ≡ b
same_id a b e = ap (λ (n : ℕ). record { 0 = n }) (eqb-true a.0 b.0 e)

-- what is claimed of something that is there
pub found : {A : Type 0} (o : Option A) (claim : A → Claim) → Holds (some o claim) → (a : A) × (o ≡ Some a) × Holds (claim a)
found None claim h = absurd (untrue h)
found (Some a) claim h = (a, refl, h)

-- a body's items and locals, as far as its lines ask
pub record Ground : Type 0 where
  pub items : ItemTable
  pub local_of : ℕ → ℕ
  pub tys : List TyId
  pub bodies : ℕ
  pub known : (local : ℕ) (id : TyId) → slice_get tys local ≡ Some id → (ty : Ty) × (type_at items id ≡ Some ty) × (forms.is_dyn (Some ty) ≡ false)
  pub callable : (n : ℕ) (sig : Sig) → slice_get items.bodies n ≡ Some sig → nat_lt n bodies ≡ true
  pub entered : (n : ℕ) → is_closure_body items n ≡ true → is_drop_body items n ≡ false
  pub parts : (id : TyId) (ty : Ty) (v n : ℕ) (j : TyId) → type_at items id ≡ Some ty → slice_get (parts_of items ty v) n ≡ Some j → (t : Ty) × (type_at items j ≡ Some t)
  pub contents : (id : TyId) (ty : Ty) (j : TyId) → type_at items id ≡ Some ty → content_of ty ≡ Some j → (t : Ty) × (type_at items j ≡ Some t)
  pub elements : (id : TyId) (ty : Ty) (j : TyId) → type_at items id ≡ Some ty → element_of ty ≡ Some j → (t : Ty) × (type_at items j ≡ Some t)
  pub rows : (trait_no adt : ℕ) → types.implements items adt trait_no ≡ true → (impl_no : ℕ) × (impl_of items trait_no adt ≡ Some impl_no)
  pub unique : (a b : TyId) (ty : Ty) → type_at items a ≡ Some ty → type_at items b ≡ Some ty → a ≡ b
  pub traits : (id : TyId) (n : ℕ) → type_at items id ≡ Some (Ty.Dyn n) → nat_lt n (length items.traits) ≡ true

module _ (g : Ground) where
  abbrev pub F : LoweringFrame
  F = record { items = g.items; local_of = g.local_of; tys = g.tys }

  abbrev pub B : Body
  B = typed_places.body F g.bodies

  abbrev pub KeyIs : ℕ → TyId → Type 0
  KeyIs key id = slice_get g.tys (g.local_of key) ≡ Some id

  abbrev pub At : Place → TyId → Ty → Type 0
  At place id ty = typed_places.At F g.bodies place id ty

  abbrev pub Typed : Place → TyId → Type 0
  Typed place id = (ty : Ty) × At place id ty

  abbrev pub Never : TyId → Type 0
  Never id = source.is_never g.items id ≡ true

  abbrev pub Made : TyId → Type 0
  Made id = source.is_never g.items id ≡ false

  pub by_never : {P : Type 0} (id : TyId) → (Never id → P) → (Made id → P) → P
  by_never {P} id yes_ no_ = by (source.is_never g.items id) refl
    where
      by : (b : Bool) → source.is_never g.items id ≡ b → P
      by true e = yes_ e
      by false e = no_ e

  pub never_and_made : (id : TyId) → Never id → Made id → ⊥
  never_and_made id n m = untrue (sym m ∙ n)

  -- a value of a type is of the wanted one, or of type `!`
  pub fits : (want ty : TyId) → types.fits g.items want ty ≡ true → (ty ≡ want) ⊎ Never ty
  fits want ty e = elim (either (types.is_same ty want) (types.is_never g.items ty) e) [
    | inl same ↦ inl (same_id ty want same)
    | inr never ↦ inr (sym (same_never g.items ty) ∙ never)
  ]

  pub key_typed : (key : ℕ) (id : TyId) → KeyIs key id → Typed (whole_local key) id
  key_typed key id k = let t = g.known (g.local_of key) id k in (t.0, typed_places.key_at F g.bodies key id t.0 k t.1)

  pub key_at : (key : ℕ) (id : TyId) (ty : Ty) → KeyIs key id → type_at g.items id ≡ Some ty → At (whole_local key) id ty
  key_at key id ty k e = typed_places.key_at F g.bodies key id ty k e

  pub key_sized : (key : ℕ) (id : TyId) (ty : Ty) → KeyIs key id → type_at g.items id ≡ Some ty → forms.is_dyn (Some ty) ≡ false
  key_sized key id ty k e = let t = g.known (g.local_of key) id k in subst (λ (z : Ty). forms.is_dyn (Some z) ≡ false) (same_Some t.0 ty (sym t.1 ∙ e)) t.2

  -- ---- cells
  abbrev pub EntryOk : Entry → Type 0
  EntryOk e = needs_drop g.items e.ty ≡ true → KeyIs e.key e.ty

  abbrev pub CellsOk : List Entry → Type 0
  CellsOk [] = Unit {0}
  CellsOk (e ∷ es) = KeyIs e.key e.ty × CellsOk es

  pub cells_first : (xs ys : List Entry) → CellsOk (xs ++ ys) → CellsOk xs
  cells_first [] ys h = tt
  cells_first (x ∷ xs) ys h = (h.0, cells_first xs ys h.1)

  pub cells_second : (xs ys : List Entry) → CellsOk (xs ++ ys) → CellsOk ys
  cells_second [] ys h = h
  cells_second (x ∷ xs) ys h = cells_second xs ys h.1

  -- names that are bound have cells
  abbrev pub KeysOk : List BoundName → Type 0
  KeysOk [] = Unit {0}
  KeysOk (b ∷ bounds) = KeyIs b.key b.ty × KeysOk bounds

  -- ---- places that may be left gone
  abbrev pub Left : Place → Type 0
  Left place = may_be_left_gone g.items B (typed_places.at_graph F g.bodies place) ≡ true

  -- out of a value of this type nothing is moved: it is a reference, or has a `Drop` impl
  abbrev pub holds_back : Option Ty → Bool
  holds_back ty = is_reference ty || is_some (drop_impl g.items ty)

  first_false : (x y : Bool) → x || y ≡ false → x ≡ false
  first_false true y e = absurd (untrue (sym e))
  first_false false y e = refl

  second_false : (x y : Bool) → x || y ≡ false → y ≡ false
  second_false true y e = absurd (untrue (sym e))
  second_false false y e = e

  no_index_on : (steps : List Step) (step : Step) → has_index steps ≡ false → has_index (step ∷ []) ≡ false → has_index (steps ++ step ∷ []) ≡ false
  no_index_on [] step h k = k
  no_index_on (ToPart n ∷ steps) step h k = no_index_on steps step h k
  no_index_on (ToField v n ∷ steps) step h k = no_index_on steps step h k
  no_index_on (ToContent ∷ steps) step h k = no_index_on steps step h k
  no_index_on (ToElement local ∷ steps) step h k = absurd (untrue (sym h))

  none_holds_on : (steps : List Step) (step : Step) (o : Option TyId) (id : TyId) (ty : Ty) → option_and_then (ty_along g.items steps) o ≡ Some id → type_at g.items id ≡ Some ty → holds_back (Some ty) ≡ false →
      list_any holds_back (container_tys g.items o steps) ≡ false → list_any holds_back (container_tys g.items o (steps ++ step ∷ [])) ≡ false
  none_holds_on steps step None id ty a e d h = absurd (none-some id a)
  none_holds_on [] step (Some k) id ty a e d h = both_false _ _ (ap holds_back (ap (type_at g.items) (same_Some k id a) ∙ e) ∙ d) refl
  none_holds_on (x ∷ steps) step (Some k) id ty a e d h =
      both_false _ _ (first_false (holds_back (type_at g.items k)) _ h)
      (none_holds_on steps step (option_and_then (step_ty g.items x) (type_at g.items k)) id ty a e d (second_false (holds_back (type_at g.items k)) _ h))

  not_false : (x : Bool) → x ≡ false → not x ≡ true
  not_false x e = ap not e

  both_true : (x y : Bool) → x ≡ true → y ≡ true → x && y ≡ true
  both_true true y e d = d
  both_true false y e d = e

  -- a whole local may be, and so may a part of what may be and does not hold its parts back
  pub left_whole : (key : ℕ) → Left (whole_local key)
  left_whole key = refl

  pub left_on : (place : Place) (step : Step) (id : TyId) (ty : Ty) → At place id ty → has_index (named_step (build.step_of F step) ∷ []) ≡ false → holds_back (Some ty) ≡ false → Left place → Left (extended step place)
  left_on place step id ty t no_index out left =
      let steps = map named_step (map (build.step_of F) place.steps) in
      subst (λ (z : List Step). not (has_index z) && not (list_any holds_back (container_tys g.items (slice_get g.tys (g.local_of place.local)) z)) ≡ true)
      (sym (ap (map named_step) (map-append (build.step_of F) place.steps (step ∷ [])) ∙ map-append named_step (map (build.step_of F) place.steps) (build.step_of F step ∷ [])))
      (both_true _ _ (not_false _ (no_index_on steps (named_step (build.step_of F step)) (not_true (has_index steps) (and_first _ _ left)) no_index))
      (not_false _ (none_holds_on steps (named_step (build.step_of F step)) (slice_get g.tys (g.local_of place.local)) id ty t.is t.known out (not_true _ (and_second (not (has_index steps)) _ left)))))

  -- ---- lines: they have no fault, and a value is moved out only where its place may be left gone
  abbrev pub MovesOk : List graph_operand.Operand → Type 0
  MovesOk operands = list_all (moves_out_well g.items B) operands ≡ true

  abbrev pub StmtOk : Stmt → Type 0
  StmtOk stmt = typed_lines.StmtOk g.items g.bodies B stmt × MovesOk (operands_of_stmt stmt)

  abbrev pub TermOk : Term → Type 0
  TermOk term = typed_lines.TermOk g.items g.bodies B term × MovesOk (operands_of_term term)

  pub one_moved : (place : Place) → Left place → MovesOk (graph_operand.Operand.Moved (typed_places.at_graph F g.bodies place) ∷ [])
  one_moved place left = both_true _ true left refl

  -- operands that are moved out of whole locals
  pub moved_well : (n : ℕ) (keys : List ℕ) → MovesOk (build.operands_of F (map (moved n) keys))
  moved_well n [] = refl
  moved_well n (key ∷ keys) = moved_well n keys

  pub drop_ok : (e : Entry) → EntryOk e → needs_drop g.items e.ty ≡ true → (n : ℕ) (u : Unwind) → TermOk (Term.DropAt (build.place_of F (entry_site e)) n u)
  drop_ok e h x n u = let t = key_typed e.key e.ty (h x) in (typed_lines.drop_ok g.items g.bodies B (typed_places.at_graph F g.bodies (whole_local e.key)) e.ty t.0 t.1 n u, refl)

  abbrev pub wanted : Wanted F
  wanted = record {
    stmt = λ stmt n. StmtOk stmt;
    term = λ term n. TermOk term;
    entry = EntryOk;
    goto = λ n node. (typed_lines.goto_ok g.items g.bodies B n, refl);
    resume = λ node. (typed_lines.resume_ok g.items g.bodies B, refl);
    drop = drop_ok;
    behind = stops.Behind F (λ key. ⊥);
    returns = 1;
    follows = stops.follows F (λ key. ⊥);
    compares = λ site value stmts term. tt;
  }

  abbrev pub Sound : Lowers → Type 0
  Sound = lines.Sound F wanted

  pub acts : (n : ℕ) (action : Action) → lines.ActOk F wanted n action → Sound (act F n action)
  acts n action ok = lines.act_sound F wanted n action ok

  pub and_then : (P Q : Lowers) → Sound P → (P.has_end ≡ true → Sound Q) → Sound (then_lower P Q)
  and_then P Q p q = lines.then_sound F wanted P Q p q

  pub nothing_done : Sound build.nothing
  nothing_done = lines.nothing_sound F wanted

  pub scoped : (node : ℕ) (own : Bool) (P : Lowers) → Sound P → Sound (build.in_scope F node own P)
  scoped node own P p = lines.scope_sound F wanted node own P p

  pub owned : (h : NodeHead) (own : Bool) (P : Lowers) → Sound P → Sound (lower.in_own_scope F h own P)
  owned h true P p = scoped h.id true P p
  owned h false P p = p

  -- an effect has an end, unless it stores a value of type `!`
  pub ends_by : (n : ℕ) (action : Action) → (act F n action).has_end ≡ not (is_last F action)
  ends_by n action = by (is_last F action)
    where
      by : (b : Bool) → (act_by F b n (done_by F action)).has_end ≡ not b
      by true = refl
      by false = refl

  -- ---- destinations: only a box of a struct or an enum is coerced
  abbrev pub Dest : Destination → TyId → Type 0
  Dest (Into key) id = KeyIs key id
  Dest (Coerced key trait_no to) id =
      KeyIs key id
      × StmtOk (Stmt.Unsize (build.place_of F (site_of_key to)) trait_no (graph_operand.Operand.Moved (build.place_of F (site_of_key key))))
      × ((inner : TyId) × (n : ℕ) × (type_at g.items id ≡ Some (Ty.Boxed inner)) × (type_at g.items inner ≡ Some (Ty.Adt n)))

  pub delivered : (n : ℕ) (h : NodeHead) (action : EffectSite → Action) (to : Destination) (id : TyId) → Dest to id →
      ((key : ℕ) → KeyIs key id → lines.ActOk F wanted n (action (site_in h.id key))) → Sound (lower.deliver_at F n h action to)
  delivered n h action (Into key) id d ok = acts n (action (site_in h.id key)) (ok key d)
  delivered n h action (Coerced key trait_no to) id d ok =
      and_then _ _ (acts n (action (site_in h.id key)) (ok key d.0)) (λ e. acts h.id (effects.Unsize (site_in h.id to) trait_no (moved h.id key)) d.1)

  -- where the type is not `!`
  abbrev pub DestIf : Destination → TyId → Type 0
  DestIf to id = Made id → Dest to id

  -- ---- what is around a node
  pub record AroundOk (x : Context) (a : LoopsAndGuards) : Type 0 where
    pub names : (key : ℕ) (e : InScope) → entry_with key x.entries ≡ Some e → Typed (place_of_key key a.aliases) e.ty
    pub self : (e : InScope) → x.closure ≡ Some e → Typed (place_of_key e.key a.aliases) e.ty
    pub captures : (e : InScope) (ty : Ty) → x.closure ≡ Some e → type_at g.items e.ty ≡ Some ty → is_enum g.items ty ≡ false
    -- a name stands for a place that may be left gone, unless it is a binding inside its own guard
    pub lets_go : (key : ℕ) (e : InScope) → entry_with key x.entries ≡ Some e → e.is_in_guard ≡ false → Left (place_of_key key a.aliases)
    pub self_lets_go : (e : InScope) → x.closure ≡ Some e → Left (place_of_key e.key a.aliases)
    pub captured_out : (e : InScope) (ty : Ty) → x.closure ≡ Some e → type_at g.items e.ty ≡ Some ty → holds_back (Some ty) ≡ false
    pub answer : DestIf a.answer x.answer
    pub loops : (loop : ℕ) (l : LoopAround) → loop_with loop x.loops ≡ Some l → DestIf (loop_destination loop a.loops) l.ty

  -- numbers rise along nodes
  abbrev pub Over : ℕ → List tree.Node → Type 0
  Over n [] = Unit {0}
  Over n (m ∷ ms) = (nat_lt n (number_of m) ≡ true) × Over n ms

  abbrev pub Rise : List tree.Node → Type 0
  Rise [] = Unit {0}
  Rise (n ∷ ns) = Over (number_of n) ns × Rise ns

  abbrev pub AliasesOver : Aliases → List tree.Node → Type 0
  AliasesOver [] ns = Unit {0}
  AliasesOver (a ∷ aliases) ns = Over a.0 ns × AliasesOver aliases ns

  abbrev pub SelfOver : Option InScope → List tree.Node → Type 0
  SelfOver None ns = Unit {0}
  SelfOver (Some e) ns = Over e.key ns

  pub over_first : (n : ℕ) (xs ys : List tree.Node) → Over n (xs ++ ys) → Over n xs
  over_first n [] ys h = tt
  over_first n (x ∷ xs) ys h = (h.0, over_first n xs ys h.1)

  pub over_second : (n : ℕ) (xs ys : List tree.Node) → Over n (xs ++ ys) → Over n ys
  over_second n [] ys h = h
  over_second n (x ∷ xs) ys h = over_second n xs ys h.1

  pub rise_first : (xs ys : List tree.Node) → Rise (xs ++ ys) → Rise xs
  rise_first [] ys h = tt
  rise_first (x ∷ xs) ys h = (over_first (number_of x) xs ys h.0, rise_first xs ys h.1)

  pub rise_second : (xs ys : List tree.Node) → Rise (xs ++ ys) → Rise ys
  rise_second [] ys h = h
  rise_second (x ∷ xs) ys h = rise_second xs ys h.1

  -- all of some nodes are below all of others
  abbrev pub Below : List tree.Node → List tree.Node → Type 0
  Below [] ys = Unit {0}
  Below (x ∷ xs) ys = Over (number_of x) ys × Below xs ys

  pub rise_across : (xs ys : List tree.Node) → Rise (xs ++ ys) → Below xs ys
  rise_across [] ys h = tt
  rise_across (x ∷ xs) ys h = (over_second (number_of x) xs ys h.0, rise_across xs ys h.1)

  aliases_first : (aliases : Aliases) (xs ys : List tree.Node) → AliasesOver aliases (xs ++ ys) → AliasesOver aliases xs
  aliases_first [] xs ys h = tt
  aliases_first (a ∷ aliases) xs ys h = (over_first a.0 xs ys h.0, aliases_first aliases xs ys h.1)

  aliases_second : (aliases : Aliases) (xs ys : List tree.Node) → AliasesOver aliases (xs ++ ys) → AliasesOver aliases ys
  aliases_second [] xs ys h = tt
  aliases_second (a ∷ aliases) xs ys h = (over_second a.0 xs ys h.0, aliases_second aliases xs ys h.1)

  self_first : (o : Option InScope) (xs ys : List tree.Node) → SelfOver o (xs ++ ys) → SelfOver o xs
  self_first None xs ys h = tt
  self_first (Some e) xs ys h = over_first e.key xs ys h

  self_second : (o : Option InScope) (xs ys : List tree.Node) → SelfOver o (xs ++ ys) → SelfOver o ys
  self_second None xs ys h = tt
  self_second (Some e) xs ys h = over_second e.key xs ys h

  -- around these nodes all is typed, and no name around them has a number that one of them has
  pub record Fine (x : Context) (a : LoopsAndGuards) (ns : List tree.Node) : Type 0 where
    pub around : AroundOk x a
    pub fresh : AliasesOver a.aliases ns
    pub apart : SelfOver x.closure ns

  pub fine_first : (x : Context) (a : LoopsAndGuards) (xs ys : List tree.Node) → Fine x a (xs ++ ys) → Fine x a xs
  fine_first x a xs ys f = record { around = f.around; fresh = aliases_first a.aliases xs ys f.fresh; apart = self_first x.closure xs ys f.apart }

  pub fine_second : (x : Context) (a : LoopsAndGuards) (xs ys : List tree.Node) → Fine x a (xs ++ ys) → Fine x a ys
  fine_second x a xs ys f = record { around = f.around; fresh = aliases_second a.aliases xs ys f.fresh; apart = self_second x.closure xs ys f.apart }

  -- ---- jumps: none leaves a loop of type `!` with a value
  abbrev pub Spared : List LoopAround → Exit → Type 0
  Spared loops (Breaks loop) = (l : LoopAround) → loop_with loop loops ≡ Some l → Made l.ty
  Spared loops exit = Unit {0}

  abbrev pub Spares : List LoopAround → List Exit → Type 0
  Spares loops [] = Unit {0}
  Spares loops (exit ∷ exits) = Spared loops exit × Spares loops exits

  pub spares_append : (loops : List LoopAround) (xs ys : List Exit) → Spares loops xs → Spares loops ys → Spares loops (xs ++ ys)
  spares_append loops [] ys h k = k
  spares_append loops (x ∷ xs) ys h k = (h.0, spares_append loops xs ys h.1 k)

  pub record Leaves (loops : List LoopAround) (P : Lowers) : Type 0 where
    pub spares : Spares loops P.jumps

  pub leaves_then : (loops : List LoopAround) (P Q : Lowers) → Leaves loops P → (P.has_end ≡ true → Leaves loops Q) → Leaves loops (then_lower P Q)
  leaves_then loops P Q p q = record { spares = by P.has_end refl }
    where
      by : (b : Bool) → P.has_end ≡ b → Spares loops (P.jumps ++ jumps_if b Q.jumps)
      by true e = spares_append loops P.jumps Q.jumps p.spares (q e).spares
      by false e = spares_append loops P.jumps [] p.spares tt

  pub leaves_none : (loops : List LoopAround) (n : ℕ) (action : Action) → Leaves loops (act F n action)
  leaves_none loops n action = by (is_last F action)
    where
      by : (b : Bool) → Leaves loops (act_by F b n (done_by F action))
      by true = record { spares = tt }
      by false = record { spares = tt }
