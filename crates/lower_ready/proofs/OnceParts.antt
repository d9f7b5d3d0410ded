-- Parts of forms beside a local of a reference type: operands, an argument that is a borrow, places, branches, the names
-- of a `let`.
use Rattle.std.proofs.Common.{◌≡◌, ◌⊎◌, inl, inr, ℕ, ◌+◌, ◌≤◌, ◌==◌, ◌&&◌, ◌||◌, not, Bool, true, false, List, [], ◌∷◌, ◌++◌, Option, Some, None, if◌then◌else◌, cond, refl, sym, ap, subst, ◌∙◌, arith}
use Rattle.std.proofs.lemmas.Bool.{eqb-true}
use Rattle.std.proofs.lemmas.Option.{same_Some}
use Rattle.std.specs.Prelude.{is_none, option_and_then, nat_lt}
use Rattle.std.specs.Option.{option_map_or}
use Rattle.mir_base.specs.declared.place_in_text.Pos.{Pos}
use Rattle.mir_ty.specs.declared.ty.Ty.{Ty}
use Rattle.mir_ty.specs.declared.ty.TyId.{TyId}
use Rattle.mir_ty.specs.ItemTable.{type_at}
use Rattle.store_model.specs.Effects as effects
use Rattle.store_model.specs.Effects.{EffectSite, Action, OfTuple, OfArray, OfVariant, OfClosure}
use Rattle.store_model.specs.Places.Place.{Step, ToPart, Place}
use Rattle.typed_tree.specs.declared.node.Use.{Use}
use Rattle.typed_tree.specs.Tree as tree
use Rattle.typed_tree.specs.Tree.{Node, Form, Nodes, no_node, a_node, Fields, no_field, a_field, MaybeNode, absent, present}
use Rattle.src_meaning.specs.Evaluation.{in_number_order, insert_field, to_own_key}
use Rattle.src_meaning.specs.Forms as source
use Rattle.src_meaning.specs.Forms.{Destination, Into, Coerced, coerced, LoopsAndGuards, in_loop, loop_destination, in_guard, entry_of, site_in, site_of_key, moved}
use Rattle.src_meaning.specs.Locals.OfBody.{cells, reached_cells, all_cells}
use Rattle.src_meaning.specs.Scopes.{Entry, Breaks, innermost, around_innermost}
use Rattle.src_meaning.specs.Shape.{NodeHead, head, Shape, BoundName, Aliases, shape, shape_of, extended, place_of_key}
use Rattle.src_meaning.specs.FieldKeys.{moved_fields}
use Rattle.well_typed.specs.Claim.{Holds, fact, ◌&◌}
use Rattle.well_typed.specs.Nodes as typing
use Rattle.well_typed.specs.Patterns as patterns
use Rattle.well_typed.specs.Patterns.{Matched, entries_of}
use Rattle.well_typed.specs.Places as scopes
use Rattle.well_typed.specs.Places.{InScope, LoopAround, Context, Standing, Taken, Wanted, Passed, Base, Used, Stored, with_entries, within, entry_with, loop_with, ty_of, form_of}
use Rattle.well_typed.specs.Types as types
use Rattle.lower_rules.specs.Build as build
use Rattle.lower_rules.specs.Build.{LoweringFrame, Lowers, act, change, from_changed, then_lower, leave, looped}
use Rattle.lower_rules.specs.Lower as lower
use Rattle.lower_rules.specs.Lower.{NodeLower, LowerIfAny}
use Rattle.lower_rules.proofs.KnownTypes.{adt_known, boxed_known, closure_known, same_never}
use Rattle.lower_laws.proofs.Base as base
use Rattle.lower_laws.proofs.Base.{Ground, untrue, and_first, and_second, and_false, both_false, either, same_id, found}
use Rattle.lower_laws.proofs.Names as names
use Rattle.lower_laws.proofs.Rules as rules
use Rattle.lower_ready.proofs.Once as once
use Rattle.lower_ready.proofs.Once.{About}
use Rattle.lower_ready.proofs.OnceActs as on
use Rattle.lower_ready.proofs.OnceNodes as nodes
use Rattle.lower_ready.proofs.OncePatterns as pattern_rules
use Rattle.lower_ready.proofs.OnceRules as by_rule
use Rattle.lower_ready.proofs.OnceStanding as standing

module _ (g : Ground) (L K : ℕ) (about : About g L K) (Q : Type 0) where
  abbrev F : LoweringFrame
  F = base.F g

  abbrev X : Context → Context
  X x = record x { items = g.items }

  abbrev N : Node → NodeLower
  N n = lower.lower F n

  abbrev S_of : Form → NodeHead → Shape
  S_of form h = shape_of g.items form h

  abbrev Free : Type 0
  Free = Unit {0}

  abbrev Once : Type 0 → List LoopAround → Lowers → ℕ → Type 0
  Once H loops P m = once.Once g L K about Q H loops P m

  abbrev Cells : List Entry → Type 0
  Cells = base.CellsOk g

  abbrev NotRef : TyId → Type 0
  NotRef ty = by_rule.NotRef g L K about Q ty

  abbrev IsRef : TyId → Type 0
  IsRef ty = by_rule.IsRef g L K about Q ty

  abbrev Dest : Destination → TyId → Type 0
  Dest to ty = by_rule.Dest g L K about Q to ty

  abbrev Around : Context → LoopsAndGuards → Type 0
  Around x a = by_rule.Around g L K about Q x a

  abbrev Good : Context → Node → NodeLower → Type 0
  Good = rules.Good g

  abbrev Known : Context → Node → NodeLower → Type 0
  Known x n m = by_rule.Known g L K about Q x n m

  abbrev Child : Context → Node → NodeLower → Type 0
  Child x n m = by_rule.Child g L K about Q x n m

  abbrev Valued : Node → Type 0
  Valued n = by_rule.Valued g L K about Q n

  abbrev Others : List InScope → Type 0
  Others es = by_rule.Others g L K about Q es

  abbrev occ : List Entry → ℕ
  occ es = by_rule.occ g L K about Q es

  abbrev OperandIs : Type 0 → Context → NodeLower → ℕ → Type 0
  OperandIs T x m o = by_rule.OperandIs g L K about Q T x m o

  abbrev OperandsAre : Type 0 → Context → List NodeLower → ℕ → Type 0
  OperandsAre T x ms o = by_rule.OperandsAre g L K about Q T x ms o

  abbrev more : (loops : List LoopAround) (P : Lowers) (m n : ℕ) → m ≤ n → Once Free loops P m → Once Free loops P n
  more loops P m n le p = once.more g L K about Q Free loops P m n le p

  abbrev and_then : (loops : List LoopAround) (P Q' : Lowers) (o r : ℕ) → Once Free loops P o → (P.has_end ≡ true → Once Free loops Q' r) → Once Free loops (then_lower P Q') (o + r)
  and_then loops P Q' o r p q = once.and_then g L K about Q Free loops P Q' o r p q

  not_true : (b : Bool) → not b ≡ true → b ≡ false
  not_true true h = absurd (untrue h)
  not_true false h = refl

  -- ---- lists of operands
  pub one_operand : (x : Context) (n : Node) → Child x n (N n) → Cells (cells g.items true n) → Valued n → OperandsAre Free x (N n ∷ []) (occ (cells g.items true n))
  one_operand x n c cs v =
      by_rule.more_operands g L K about Q Free x (N n ∷ []) (occ (cells g.items true n) + 0) (occ (cells g.items true n)) (nodes.no_more g L K about Q _)
      (by_rule.an_operand g L K about Q Free x (N n) [] (occ (cells g.items true n)) 0 (by_rule.operand_is g L K about Q Free x n (N n) c cs v) (by_rule.no_operand g L K about Q Free x))

  pub more_of : (T : Type 0) (x : Context) (m : NodeLower) (ms : List NodeLower) (xs ys : List Entry) → OperandIs T x m (occ xs) → OperandsAre T x ms (occ ys) → OperandsAre T x (m ∷ ms) (occ (xs ++ ys))
  more_of T x m ms xs ys one rest = by_rule.more_operands g L K about Q T x (m ∷ ms) (occ xs + occ ys) (occ (xs ++ ys)) (standing.two_under g L K about Q xs ys) (by_rule.an_operand g L K about Q T x m ms (occ xs) (occ ys) one rest)

  pub two_operands : (x : Context) (n m : Node) → Child x n (N n) → Child x m (N m) → Cells (cells g.items true n ++ cells g.items true m) → Valued n → Valued m → OperandsAre Free x (N n ∷ N m ∷ []) (occ (cells g.items true n ++ cells g.items true m))
  two_operands x n m c d cs v w =
      more_of Free x (N n) (N m ∷ []) (cells g.items true n) (cells g.items true m) (by_rule.operand_is g L K about Q Free x n (N n) c (base.cells_first g (cells g.items true n) (cells g.items true m) cs) v)
      (one_operand x m d (base.cells_second g (cells g.items true n) (cells g.items true m) cs) w)

  -- ---- fields in the order of their numbers
  abbrev pub FieldsAway : List (ℕ × ℕ) → Type 0
  FieldsAway [] = Unit {0}
  FieldsAway (f ∷ fs) = (f.1 ≡ K → ⊥) × FieldsAway fs

  pub inserted_away : (n k : ℕ) (fs : List (ℕ × ℕ)) → (k ≡ K → ⊥) → FieldsAway fs → FieldsAway (insert_field n k fs)
  inserted_away n k [] h a = (h, tt)
  inserted_away n k (f ∷ fs) h a = of (nat_lt n f.0) (inserted_away n k fs h a.1)
    where
      of : (b : Bool) → FieldsAway (insert_field n k fs) → FieldsAway (if b then (n, k) ∷ f ∷ fs else f ∷ insert_field n k fs)
      of true i = (h, a)
      of false i = (a.0, i)

  pub ordered_away : (fs : List (ℕ × ℕ)) → FieldsAway fs → FieldsAway (in_number_order fs)
  ordered_away [] h = tt
  ordered_away (f ∷ fs) h = inserted_away f.0 f.1 (in_number_order fs) h.0 (ordered_away fs h.1)

  pub moved_away : (n : ℕ) (fs : List (ℕ × ℕ)) → FieldsAway fs → on.AllAway g L K about Q (moved_fields n fs)
  moved_away n [] h = tt
  moved_away n (f ∷ fs) h = (h.0, moved_away n fs h.1)

  -- ---- an argument that is a borrow
  pub borrow_operand : (x : Context) (inner : Node) → Child x inner (N inner) → (id : ℕ) (at : Pos) (ty : TyId) (by : Option Use) (unique : Bool) → IsRef ty → base.Made g ty → Cells (reached_cells g.items inner) →
      OperandIs ⊥ x (N (tree.node id at ty by (tree.Borrow unique inner))) (occ (cells g.items true (tree.node id at ty by (tree.Borrow unique inner))))
  borrow_operand x inner c id at ty by unique r made cs a ar = let it = subst (λ (z : Destination). Goal z) own (of (names.eq_tells id K)) in (it.0, it.1, λ t e k. t)
    where
      h : NodeHead
      h = head id ty by

      m : NodeLower
      m = N (tree.node id at ty by (tree.Borrow unique inner))

      base_site : EffectSite
      base_site = lower.site_of (N inner) a

      action : effects.Action
      action = effects.Borrow (record (site_in id id) { node = (N inner).head.id }) unique base_site

      code : Lowers
      code = then_lower ((N inner).reaches a) (act F (N inner).head.id action)

      whole : Lowers → Lowers
      whole P = from_changed (lower.pending_if F false innermost h) (then_lower P (change (lower.completed F innermost h)))

      most : ℕ
      most = occ (cells g.items true (tree.node id at ty by (tree.Borrow unique inner)))

      Goal : Destination → Type 0
      Goal to = (t : Once Free x.loops (whole (lower.borrowing F h unique (N inner) a false to)) most) × by_rule.Keeps g L K about Q (whole (lower.borrowing F h unique (N inner) a false to)) (id ≡ K) t.count

      own : Into id ≡ to_own_key (source.is_never g.items ty) id (Into id)
      own = ap (λ (b : Bool). to_own_key b id (Into id)) (sym made)

      counted : most ≡ occ ((record { key = id; ty = ty }) ∷ reached_cells g.items inner)
      counted = simp (made)

      entry : once.Entered g L K about Q (entry_of h)
      entry d k = by_rule.no_drop g L K about Q ty r d

      finish : (p : Once Free x.loops code most) → by_rule.Keeps g L K about Q code (id ≡ K) p.count → Goal (Into id)
      finish p k =
          let q = once.then_kept g L K about Q Free (id ≡ K) ⊥ (id ≡ K) (λ e. inl e) x.loops code (change (lower.completed F innermost h)) most 0 p k
          (λ e. (by_rule.given_more g L K about Q (p.count ≡ 0) x.loops _ 0 (once.changes g L K about Q Free x.loops (lower.completed F innermost h) (by_rule.completing g L K about Q innermost h (by_rule.inner g L K about Q) entry)), λ d m z. m)) in
          let w = by_rule.more_kept g L K about Q (id ≡ K) x.loops _ (most + 0) most (nodes.no_more g L K about Q most) q.0 q.1 in
          once.changed_kept g L K about Q Free (id ≡ K) x.loops (lower.pending_if F false innermost h) _ most (λ b S o. o) w.0 w.1

      under : (n : ℕ) → (id ≡ K → n ≡ 1) → ((id ≡ K → ⊥) → n ≡ 0) → occ (reached_cells g.items inner) + n ≤ most
      under n one none = of (names.eq_tells id K)
        where
          of : (id ≡ K) ⊎ (id ≡ K → ⊥) → occ (reached_cells g.items inner) + n ≤ most
          of (inl e) =
              let o = one e in
              let z : by_rule.one_if g L K about Q (id == K) ≡ 1 = ap (λ (b : Bool). by_rule.one_if g L K about Q b) (names.equal_too id K e) in
              let c = counted in
              let w : occ (reached_cells g.items inner) + n ≤ most = omega (o, z, c, arith) in w
          of (inr e) =
              let o = none e in
              let c = counted in
              let w : occ (reached_cells g.items inner) + n ≤ most = omega (o, c, arith) in w

      of : (id ≡ K) ⊎ (id ≡ K → ⊥) → Goal (Into id)
      of (inl e) =
          let q = once.then_kept g L K about Q Free ⊥ (id ≡ K) (id ≡ K) (λ e. inr e) x.loops ((N inner).reaches a) (act F (N inner).head.id action) (occ (reached_cells g.items inner)) 1 (c.known.reaches cs a ar) (λ e m z. m)
          (λ d. on.borrows_here g L K about Q (Free × ((c.known.reaches cs a ar).count ≡ 0)) (id ≡ K) x.loops (N inner).head.id id id e unique base_site (c.known.place cs a ar d).0) in
          let w = by_rule.more_kept g L K about Q (id ≡ K) x.loops code (occ (reached_cells g.items inner) + 1) most (under 1 (λ e. refl) (λ f. absurd (f e))) q.0 q.1 in
          finish w.0 w.1
      of (inr f) =
          finish (more x.loops code (occ (reached_cells g.items inner) + 0) most (under 0 (λ e. absurd (f e)) (λ e. refl))
          (and_then x.loops ((N inner).reaches a) (act F (N inner).head.id action) (occ (reached_cells g.items inner)) 0 (c.known.reaches cs a ar)
          (λ e. on.acts g L K about Q Free x.loops (N inner).head.id action (λ k d. f k) (λ q. ((c.known.place cs a ar e).0 q, inl f)) (λ h q. (f, (c.known.place cs a ar e).0 q)))))
          (λ e k z. f k)

  -- ---- places
  pub away_named : (key : ℕ) (aliases : Aliases) → by_rule.AliasesFree g L K about Q aliases → (Q → key ≡ K → ⊥) → Q → on.Away g L K about Q (place_of_key key aliases)
  away_named key [] h f q = f q
  away_named key (a ∷ aliases) h f q = of (key == a.0) (away_named key aliases h.1 f q)
    where
      of : (b : Bool) → on.Away g L K about Q (place_of_key key aliases) → on.Away g L K about Q (if b then a.1 else place_of_key key aliases)
      of true w = h.0.0 q
      of false w = w

  pub variable_ok : (x : Context) (key : ℕ) (ty : TyId) → Holds (typing.row (X x) 0 ty (tree.Variable key)) → (a : LoopsAndGuards) → Around x a → by_rule.PlaceOk g L K about Q ty (place_of_key key a.aliases)
  variable_ok x key ty h a ar =
      let e = found (entry_with key x.entries) _ h in
      by_rule.named_place g L K about Q key ty a.aliases ar.aliases
      (λ q k. (ar.names key e.0 e.1 k).0 q, λ nr k z. by_rule.not_both g L K about Q ty (subst IsRef (sym (same_id ty e.0.ty e.2)) (ar.names key e.0 e.1 k).1) nr)

  pub captured_ok : (x : Context) (closure part : ℕ) (name : List ℕ) (ty : TyId) → Holds (typing.row (X x) 0 ty (tree.Captured closure part name)) → (a : LoopsAndGuards) → Around x a → by_rule.PlaceOk g L K about Q ty (extended (ToPart part) (place_of_key closure a.aliases))
  captured_ok x closure part name ty h a ar =
      let e = found x.closure _ h in
      let f = by_rule.further g L K about Q (place_of_key closure a.aliases) (ToPart part) (away_named closure a.aliases ar.aliases (λ q k. ar.self e.0 e.1 q (eqb-true e.0.key closure e.2.0 ∙ k))) in
      (f.0, λ nr. f.1)

  pub reached_away : (x : Context) (n : Node) → Child x n (N n) → Cells (reached_cells g.items n) → (a : LoopsAndGuards) → Around x a → ((N n).reaches a).has_end ≡ true → Q → on.Away g L K about Q ((shape g.items n).place a.aliases)
  reached_away x n c cs a ar e = subst (λ (s : Shape). Q → on.Away g L K about Q (s.place a.aliases)) (standing.shape_same g L K about Q n) (c.known.place cs a ar e).0

  pub further_ok : (ty : TyId) (place : Place) (step : Step) → (Q → on.Away g L K about Q place) → by_rule.PlaceOk g L K about Q ty (extended step place)
  further_ok ty place step away = let f = by_rule.further g L K about Q place step away in (f.0, λ nr. f.1)

  -- ---- types of boxes, structs and closures
  pub adt_at : (ty : TyId) (adt : ℕ) → option_map_or (λ n. n == adt) (types.adt_of g.items ty) false ≡ true → (n : ℕ) × (type_at g.items ty ≡ Some (Ty.Adt n))
  adt_at ty adt h = of (types.adt_of g.items ty) refl h
    where
      of : (o : Option ℕ) → types.adt_of g.items ty ≡ o → option_map_or (λ n. n == adt) o false ≡ true → (n : ℕ) × (type_at g.items ty ≡ Some (Ty.Adt n))
      of None e h = absurd (untrue h)
      of (Some n) e h = (n, adt_known g.items ty n e)

  pub closure_at : (ty : TyId) (closure : ℕ) → option_map_or (λ n. n == closure) (types.closure_of g.items ty) false ≡ true → (n : ℕ) × (type_at g.items ty ≡ Some (Ty.Closure n))
  closure_at ty closure h = of (types.closure_of g.items ty) refl h
    where
      of : (o : Option ℕ) → types.closure_of g.items ty ≡ o → option_map_or (λ n. n == closure) o false ≡ true → (n : ℕ) × (type_at g.items ty ≡ Some (Ty.Closure n))
      of None e h = absurd (untrue h)
      of (Some n) e h = (n, closure_known g.items ty n e)

  pub box_at : (to from : TyId) (trait_no : ℕ) → typing.box_implements g.items to from trait_no ≡ true → (inner : TyId) × (type_at g.items to ≡ Some (Ty.Boxed inner))
  box_at to from trait_no h = of (types.boxed_of g.items to) refl (and_first _ _ h)
    where
      of : (o : Option TyId) → types.boxed_of g.items to ≡ o → option_map_or (λ n. n == trait_no) (option_and_then (types.trait_of g.items) o) false ≡ true → (inner : TyId) × (type_at g.items to ≡ Some (Ty.Boxed inner))
      of None e h = absurd (untrue h)
      of (Some inner) e h = (inner, boxed_known g.items to inner e)

  pub coerced_clear : (key trait_no : ℕ) (to : Destination) → (key ≡ K → ⊥) → by_rule.Clear g L K about Q to → by_rule.Clear g L K about Q (coerced key trait_no to)
  coerced_clear key trait_no (Into to) h c = (h, c)
  coerced_clear key trait_no (Coerced other another to) h c = (h, c.1)

  -- ---- branches
  pub no_end_of : (x : Context) (n : Node) → Child x n (N n) → (o : Bool) → Cells (cells g.items o n) → Valued n → (want : TyId) → types.fits g.items want (ty_of n) ≡ true → IsRef want → (a : LoopsAndGuards) → Around x a → (own : Bool) (to : Destination) → ((N n).evaluates a own to).has_end ≡ false
  no_end_of x n c o cs v want fit r a ar own to = elim (standing.fits_ref g L K about Q want (ty_of n) fit r) [
    | inl is ↦ c.known.ended o cs v is a ar own to
    | inr never ↦ c.good.ended o cs (subst (base.Never g) (sym c.good.ty_is) never) a own to
  ]

  pub common_first : (ty a b : TyId) → types.is_common g.items ty (a ∷ b ∷ []) ≡ true → types.fits g.items ty a ≡ true
  common_first ty a b h = and_first _ _ (and_first _ _ h)

  pub common_second : (ty a b : TyId) → types.is_common g.items ty (a ∷ b ∷ []) ≡ true → types.fits g.items ty b ≡ true
  common_second ty a b h = and_first _ _ (and_second (types.fits g.items ty a) _ (and_first _ _ h))

  -- ---- names of a `let` without a value
  pub matched_keys : (bounds : List BoundName) (es : List InScope) → names.Matches bounds es → Others es → by_rule.KeysAway g L K about Q bounds
  matched_keys [] es m h = tt
  matched_keys (b ∷ bounds) [] m h = absurd m
  matched_keys (b ∷ bounds) (e ∷ es) m h = (λ k. h.0 (sym m.0 ∙ k), matched_keys bounds es m.2 h.1)

  -- ---- a block without a tail is of type `()` or `!`
  pub no_tail : (ty : TyId) (stmts : Nodes) → typing.is_block_ty g.items ty stmts absent ≡ true → NotRef ty
  no_tail ty stmts h = of (typing.ends_in g.items stmts) h
    where
      of : (b : Bool) → (if b then types.is_never g.items ty else types.is_unit g.items ty) ≡ true → NotRef ty
      of true h = standing.never_no g L K about Q ty h
      of false h = standing.unit_no g L K about Q ty h

  pub tail_put : (x : Context) (id : ℕ) (ty : TyId) (by : Option Use) (stmts : Nodes) (to : Destination) → typing.is_block_ty g.items ty stmts absent ≡ true → Dest to ty → Once Free x.loops (lower.put_unit_if F (source.is_never g.items ty) (head id ty by) to) 0
  tail_put x id ty by stmts to h d = of (source.is_never g.items ty) refl
    where
      of : (b : Bool) → source.is_never g.items ty ≡ b → Once Free x.loops (lower.put_unit_if F b (head id ty by) to) 0
      of true e = once.nothing_done g L K about Q Free x.loops
      of false e = by_rule.unit_put g L K about Q Free x.loops (head id ty by) to (d (no_tail ty stmts h) e)

  -- a break stays in a loop of a reference type
  pub break_stays : (loops : List LoopAround) (loop : ℕ) (l : LoopAround) → loop_with loop loops ≡ Some l → NotRef l.ty → once.Stays g L K about Q loops (build.naming (Breaks loop))
  break_stays loops loop l is nr other k at ref = of (other == loop) refl
    where
      of : (b : Bool) → (other == loop) ≡ b → b || false ≡ false
      of true e = absurd (by_rule.not_both g L K about Q k.ty ref (subst (λ (z : LoopAround). NotRef z.ty) (same_Some l k (sym is ∙ ap (λ (z : ℕ). loop_with z loops) (sym (eqb-true other loop e)) ∙ at)) nr))
      of false e = refl

  -- the end of a loop with a condition
  pub loop_ends : (x : Context) (l : LoopAround) (id : ℕ) (ty : TyId) (by : Option Use) (to : Destination) → NotRef ty → by_rule.Clear g L K about Q to → (id == id) ≡ true → Once Free ((record { loop = id; ty = ty; has_value = false }) ∷ x.loops) (lower.ends_loop F (head id ty by) to) 0
  loop_ends x l id ty by to nr clear same =
      let k : LoopAround = record { loop = id; ty = ty; has_value = false } in
      more (k ∷ x.loops) _ (0 + 0) 0 (nodes.no_more g L K about Q 0)
      (and_then (k ∷ x.loops) (lower.put_unit F (head id ty by) to) _ 0 0 (by_rule.unit_put g L K about Q Free (k ∷ x.loops) (head id ty by) to clear)
      (λ e. once.leaves_by g L K about Q (k ∷ x.loops) id (Breaks id) (break_stays (k ∷ x.loops) id k (ap (λ (b : Bool). cond b (Some k) (loop_with id x.loops)) same) nr)))

  -- what comes behind has no end
  pub none_behind : (P Q' : Lowers) → (P.has_end ≡ true → Q'.has_end ≡ false) → (then_lower P Q').has_end ≡ false
  none_behind P Q' h = of P.has_end refl
    where
      of : (b : Bool) → P.has_end ≡ b → (then_lower P Q').has_end ≡ false
      of true e = rules.no_end_second g P Q' (h e)
      of false e = rules.no_end_first g P Q' e

  pub not_never : (ty : TyId) → types.is_never g.items ty ≡ false → base.Made g ty
  not_never ty e = sym (same_never g.items ty) ∙ e

  -- a name that is bound by `let`, where what is behind is reached
  pub binding_out : (key : ℕ) (typ : TyId) (v : Node) → base.KeyIs g key typ → NotRef (ty_of v) → types.fits g.items typ (ty_of v) ≡ true → (base.Never g (ty_of v) → ⊥) → key ≡ K → ⊥
  binding_out key typ v k nr fit never same = elim (either (types.is_same (ty_of v) typ) (types.is_never g.items (ty_of v)) fit) [
    | inl is ↦ by_rule.keyed_away g L K about Q key typ k (subst NotRef (same_id (ty_of v) typ is) nr) same
    | inr is ↦ never (sym (same_never g.items (ty_of v)) ∙ is)
  ]

  pub arm_under : (xs ys zs : List Entry) → occ ys + occ zs ≤ occ (xs ++ ys ++ zs)
  arm_under xs ys zs =
      let e = by_rule.occ_append g L K about Q (xs ++ ys) zs in
      let d = by_rule.occ_append g L K about Q xs ys in
      let r : occ ys + occ zs ≤ occ (xs ++ ys ++ zs) = omega (e, d, arith) in r

  pub arms_under : (xs ys : List Entry) (m n : ℕ) → m ≤ occ xs → n ≤ occ ys → m + n ≤ occ (xs ++ ys)
  arms_under xs ys m n a b = let e = by_rule.occ_append g L K about Q xs ys in let r : m + n ≤ occ (xs ++ ys) = omega (e, a, b, arith) in r

  -- an argument, which is a borrow or another operand
  abbrev pub InnerIs : Context → Form → Type 0
  InnerIs x (tree.Borrow unique inner) = Child x inner (N inner)
  InnerIs x _ = Unit {0}

  pub arg_form : (form : Form) (b : Bool) (x : Context) (id : ℕ) (at : Pos) (ty : TyId) (by : Option Use) (want : TyId) → (types.is_reference g.items want && not (types.is_never g.items ty)) ≡ b →
      Holds (if b then fact (scopes.is_borrow form && is_none by && types.is_same ty want) else (scopes.is_taken (X x) ty by form & fact (types.fits g.items want ty))) →
      Good x (tree.node id at ty by form) (N (tree.node id at ty by form)) → (scopes.is_borrow form ≡ false → Known x (tree.node id at ty by form) (N (tree.node id at ty by form))) → InnerIs x form →
      Cells (cells g.items true (tree.node id at ty by form)) → OperandIs ⊥ x (N (tree.node id at ty by form)) (occ (cells g.items true (tree.node id at ty by form)))
  arg_form form false x id at ty by want e s good k i c =
      let n = tree.node id at ty by form in
      let f = standing.taken_facts g L K about Q x ty by form s.0 in
      by_rule.operand_is g L K about Q ⊥ x n (N n) (record { good = good; known = k f.0 }) c f.1
  arg_form (tree.Borrow unique inner) true x id at ty by want e s good k i c =
      let ref = subst IsRef (sym (same_id ty want (and_second (is_none by) _ s))) (and_first (types.is_reference g.items want) _ e) in
      let made = not_never ty (not_true (types.is_never g.items ty) (and_second (types.is_reference g.items want) _ e)) in
      borrow_operand x inner i id at ty by unique ref made (base.cells_second g _ (reached_cells g.items inner) c)
  arg_form _ true x id at ty by want e s good k i c = absurd (untrue s)

  -- a first argument and the others
  pub receiver_given : (x : Context) (receiver : Node) (args : Nodes) (tys : List TyId) → ((t : TyId) → Holds (typing.typed (X x) (Passed t) receiver) → OperandIs ⊥ x (N receiver) (occ (cells g.items true receiver))) → ((ts : List TyId) → Holds (typing.arguments (X x) ts args) → OperandsAre ⊥ x (lower.lower_all F args) (occ (all_cells g.items args))) →
      Holds (typing.first_and_rest (λ t. typing.typed (X x) (Passed t) receiver) (λ ts. typing.arguments (X x) ts args) tys) → OperandsAre ⊥ x (N receiver ∷ lower.lower_all F args) (occ (cells g.items true receiver ++ all_cells g.items args))
  receiver_given x receiver args [] one rest h = absurd (untrue h)
  receiver_given x receiver args (ty ∷ tys) one rest h = more_of ⊥ x (N receiver) (lower.lower_all F args) (cells g.items true receiver) (all_cells g.items args) (one ty h.0) (rest tys h.1)

  -- a `let` whose pattern takes a place apart
  pub parts_let : (x : Context) (p v : Node) (h : NodeHead) → Child x v (N v) → (m : Matched) → Holds (patterns.pattern g.items m (ty_of p) p) → types.fits g.items (ty_of p) (ty_of v) ≡ true → NotRef (ty_of v) → (not (scopes.is_place (form_of v)) || types.is_same (ty_of v) (ty_of p)) ≡ true → Cells (cells g.items true p) → Cells (reached_cells g.items v) → (a : LoopsAndGuards) → Around x a →
      Once Free x.loops (lower.let_parts F h (N p) (N v) a) (occ (reached_cells g.items v)) × ((lower.let_parts F h (N p) (N v) a).has_end ≡ true → Others (entries_of p))
  parts_let x p v h k m pattern fit nr same cp cv a ar = (
    once.scoped g L K about Q Free x.loops h.id true _ _ (once.changed g L K about Q Free x.loops (lower.pending_if F pends innermost (N v).head) _ _ (by_rule.pending g L K about Q pends innermost (N v).head (by_rule.inner g L K about Q) (λ b. by_rule.entered g L K about Q (entry_of (N v).head) (k.good.reach_entry cv (no_place (N v).shape.is_place (N v).shape.in_destination b))))
        (more x.loops _ (occ (reached_cells g.items v) + 0) _ (nodes.no_more g L K about Q _) (and_then x.loops ((N v).reaches a) _ (occ (reached_cells g.items v)) 0 (k.known.reaches cv a ar)
        (λ e. by_rule.binds g L K about Q x.loops around_innermost (by_rule.around g L K about Q) ((N p).shape.bindings (lower.place_in (N v) a)) (standing.shaped g L K about Q about.truth p m (ty_of p) (p_no e) pattern cp (lower.place_in (N v) a) (nodes.scrutinee_free g L K about Q x v (N v) k nr cv a ar e)).1)))),
    λ e. (pattern_rules.pattern_is g L K about Q about.truth p m (ty_of p) (p_no (and_first ((N v).reaches a).has_end _ (and_first (((N v).reaches a).has_end && binds_end) true e))) pattern cp).entries,
  )
    where
      pends : Bool
      pends = not ((N v).shape.is_place || (N v).shape.in_destination)

      binds_end : Bool
      binds_end = (lower.bind F around_innermost ((N p).shape.bindings (lower.place_in (N v) a))).has_end

      no_place : (p d : Bool) → not (p || d) ≡ true → p ≡ false
      no_place true d e = absurd (untrue e)
      no_place false d e = refl

      p_no : ((N v).reaches a).has_end ≡ true → NotRef (ty_of p)
      p_no e = of (scopes.is_place (form_of v)) refl same
        where
          of : (b : Bool) → scopes.is_place (form_of v) ≡ b → (not b || types.is_same (ty_of v) (ty_of p)) ≡ true → NotRef (ty_of p)
          of true q s = subst NotRef (same_id (ty_of v) (ty_of p) s) nr
          of false q s = elim (either (types.is_same (ty_of v) (ty_of p)) (types.is_never g.items (ty_of v)) fit) [
            | inl is ↦ subst NotRef (same_id (ty_of v) (ty_of p) is) nr
            | inr never ↦ absurd (untrue (sym (k.good.reach_ended cv q (subst (base.Never g) (sym k.good.ty_is) (sym (same_never g.items (ty_of v)) ∙ never)) a) ∙ e))
          ]
