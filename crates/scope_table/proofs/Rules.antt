-- The rules of evaluation: what each does with the entries of scopes, given what its parts do.
use Rattle.std.proofs.Common.{◌≡◌, ◌∙◌, ◌==◌, ℕ, zero, suc, Bool, true, false, List, [], ◌∷◌, ◌++◌, map, Option, Some, None, refl, sym, ap, subst, if◌then◌else◌}
use Rattle.std.specs.Prelude.{◌≢◌}
use Rattle.mir_base.specs.declared.place_in_text.NodeId.{NodeId}
use Rattle.mir_base.specs.declared.trace.Why.{Why}
use Rattle.mir_ty.specs.Facts.{needs_drop}
use Rattle.mir_ty.specs.ItemTable.{ItemTable}
use Rattle.scope_table.proofs.Entering.{heads_in, heads_held, enter_heads, entered_append, Missing, enter_first, enter_later, rest}
use Rattle.scope_table.proofs.Naming.{named_in, where_same}
use Rattle.scope_table.proofs.Runs.{more, after_value, then_enters, then_nothing, at_value, doing_enters, changing_enters, choosing_enters, back_enters, same_heads, KeepsAround, around_of, then_around, then_keeps, keeps_then, keeps_of, changing_keeps, leaving_pops, scope_enters, scope_keeps, Pops, scope_with_enters}
use Rattle.scope_table.specs.declared.row.ScopeRow.{ScopeRow}
use Rattle.scope_table.specs.declared.row.Within.{Within}
use Rattle.scope_table.specs.Law.{ScopeHead, head_of, Held, held_by, held, enter, enter_if_any, entered, IsInnermost, IsOr, IsNearest, StandsIn, WithValue, Enters}
use Rattle.scope_table.specs.Table.{named, both_in, inner, idle, where_true}
use Rattle.src_meaning.specs.Forms.{Destination, Into, Coerced, LoopsAndGuards, in_guard, Meaning, entry_of, bound_entry, site_in, site_of_key, moved, keys_of, acts, panics, deliver, put_unit, put_unit_if, alone, pending_if, complete, operand, operands, take, acting, dropping, stored, stored_after, dropped_first, replacing, assigning, condition, branch, all_hold, bind, touched, scrutinised, if_taken, taken_arm, guarded, arm, emptied, declared, ticked, turned, turns, ends_loop, site_of, place_of}
use Rattle.src_meaning.specs.Scopes.{Scope, Scopes, innermost, around_innermost, nearest_from, nearest_temporary, with_entry, with_pending, becomes_entry, without_operands, Exit, Value, Breaks, Continues, Returns, Panics, Run, At, Over, Does, on_value, ◌>>◌, in_scopes, changing, choosing, chosen, leaving}
use Rattle.src_meaning.specs.Shape.{NodeHead, BoundName}
use Rattle.store_model.specs.Effects.{EffectSite, Action, Put, UnitValue, IsTrue, Normal, Out, Go, Unwind, Halts, Choice, Yes, No, Neither, Effects}
use Rattle.store_model.specs.Places.Place.{Place}
use Rattle.typed_tree.specs.Tree.{Node}

-- Changes of scopes.

abbrev pub PutsKey : ℕ → (Scope → Scope) → Type 0
PutsKey key change = (s : Scope) → held_by (change s) ≡ (head_of s, key ∷ (held_by s).1)

abbrev pub Keeps : (Scope → Scope) → Type 0
Keeps change = (s : Scope) → held_by (change s) ≡ held_by s

module _ (change : Scope → Scope) (key : ℕ) (puts : PutsKey key change) where
  pub innermost_puts : (i : NodeId) (S : Scopes) → IsInnermost i (map head_of S) → held (innermost change S) ≡ enter i.0 key (held S)
  innermost_puts i [] h = absurd h
  innermost_puts i (s ∷ S) h = ap (λ (one : ScopeHead × List ℕ). one ∷ held S) (puts s) ∙ sym (enter_first i.0 key (held_by s) (held S) h)

  pub around_puts : (i : NodeId) (s : Scope) (S : Scopes) → s.node ≢ i.0 → IsInnermost i (map head_of S) → held (around_innermost change (s ∷ S)) ≡ enter i.0 key (held (s ∷ S))
  around_puts i s S apart h =
      ap (λ (H : Held). held_by s ∷ H) (innermost_puts i S h) ∙ sym (enter_later i.0 key (held_by s) (held S) apart)

  pub nearest_puts : (t : NodeId) (S : Scopes) → IsNearest t (map head_of S) → held (nearest_temporary change S) ≡ enter t.0 key (held S)
  nearest_puts t [] h = absurd h
  nearest_puts t (s ∷ S) h = by s.for_temporaries h (nearest_puts t S)
    where
      by : (b : Bool) → IsOr b (s.node ≡ t.0) ((s.node ≢ t.0) × IsNearest t (map head_of S)) → (IsNearest t (map head_of S) → held (nearest_temporary change S) ≡ enter t.0 key (held S)) → held (nearest_from b change s S (nearest_temporary change S)) ≡ enter t.0 key (held (s ∷ S))
      by true h next = ap (λ (one : ScopeHead × List ℕ). one ∷ held S) (puts s) ∙ sym (enter_first t.0 key (held_by s) (held S) h)
      by false h next = ap (λ (H : Held). held_by s ∷ H) (next h.1) ∙ sym (enter_later t.0 key (held_by s) (held S) h.0)

module _ (change : Scope → Scope) (keeps : Keeps change) where
  pub innermost_keeps : (S : Scopes) → held (innermost change S) ≡ held S
  innermost_keeps [] = refl
  innermost_keeps (s ∷ S) = ap (λ (one : ScopeHead × List ℕ). one ∷ held S) (keeps s)

  pub nearest_keeps : (S : Scopes) → held (nearest_temporary change S) ≡ held S
  nearest_keeps [] = refl
  nearest_keeps (s ∷ S) = by s.for_temporaries (nearest_keeps S)
    where
      by : (b : Bool) → held (nearest_temporary change S) ≡ held S → held (nearest_from b change s S (nearest_temporary change S)) ≡ held (s ∷ S)
      by true next = ap (λ (one : ScopeHead × List ℕ). one ∷ held S) (keeps s)
      by false next = ap (λ (H : Held). held_by s ∷ H) next

pub rest_innermost : (change : Scope → Scope) (S : Scopes) → rest (held (innermost change S)) ≡ rest (held S)
rest_innermost change [] = refl
rest_innermost change (s ∷ S) = refl

-- Scopes in which something stands.

pub innermost_apart : (i : NodeId) (id : ℕ) (heads : List ScopeHead) → IsInnermost i heads → Missing heads id → id ≢ i.0
innermost_apart i id [] h m = absurd h
innermost_apart i id (one ∷ heads) h m = λ same. m.0 (h ∙ sym same)

pub nearest_apart : (t : NodeId) (id : ℕ) (heads : List ScopeHead) → IsNearest t heads → Missing heads id → id ≢ t.0
nearest_apart t id [] h m = absurd h
nearest_apart t id (one ∷ heads) h m = by one.for_temporaries h (λ h. nearest_apart t id heads h m.1)
  where
    by : (b : Bool) → IsOr b (one.node ≡ t.0) ((one.node ≢ t.0) × IsNearest t heads) → (IsNearest t heads → id ≢ t.0) → id ≢ t.0
    by true h next = λ same. m.0 (h ∙ sym same)
    by false h next = next h.1

pub stands_inside : (w : Within) (heads : List ScopeHead) (id : ℕ) → StandsIn w heads → Missing heads id → StandsIn (inner (named id) w) (record { node = id; for_temporaries = false } ∷ heads)
stands_inside w heads id st m = record { innermost = refl; nearest = (nearest_apart w.temporary id heads st.nearest m, st.nearest) }

pub stands_alone : (heads : List ScopeHead) (id : ℕ) → StandsIn (both_in (named id)) (record { node = id; for_temporaries = true } ∷ heads)
stands_alone heads id = record { innermost = refl; nearest = refl }

-- a row behind those of what is in its node
pub ends_with : (A : List ScopeRow) (b : Bool) (t : NodeId) (nodes : List Node) (own : ScopeRow) (H : Held) → entered (A ++ where_true b (idle t nodes) ++ own ∷ []) H ≡ enter_if_any own.entry own.node (entered A H)
ends_with A b t nodes own H =
    entered_append (A ++ where_true b (idle t nodes)) (own ∷ []) H
    ∙ ap (enter_if_any own.entry own.node) (entered_append A (where_true b (idle t nodes)) H ∙ where_same b t nodes (entered A H))

module _ {W : Type 0} (items : ItemTable) (p : Effects W) where
  abbrev pub Nothing : Does W → Type 0
  Nothing f = (heads : List ScopeHead) → Enters heads [] f

  pub acts_nothing : (action : Action) → Nothing (acts items p action)
  acts_nothing action heads = doing_enters heads (p.act action)

  pub panics_nothing : (why : Why) → Nothing (panics items p why)
  panics_nothing why heads = doing_enters heads (λ x. Unwind (p.panic why x))

  pub both_nothing : (f g : Does W) → Nothing f → Nothing g → Nothing (f >> g)
  both_nothing f g one another heads = then_enters heads [] [] f g (one heads) (another heads)

  pub deliver_nothing : (h : NodeHead) (action : EffectSite → Action) (to : Destination) → Nothing (deliver items p h action to)
  deliver_nothing h action (Into key) = acts_nothing (action (site_in h.id key))
  deliver_nothing h action (Coerced key trait_no to) =
      both_nothing (acts items p (action (site_in h.id key))) (acts items p _) (acts_nothing (action (site_in h.id key))) (acts_nothing _)

  pub unit_nothing : (h : NodeHead) (to : Destination) → Nothing (put_unit items p h to)
  unit_nothing h to = deliver_nothing h (λ site. Put site UnitValue) to

  pub unit_if_nothing : (b : Bool) (h : NodeHead) (to : Destination) → Nothing (put_unit_if items p b h to)
  unit_if_nothing true h to heads = at_value heads
  unit_if_nothing false h to heads = unit_nothing h to heads

  pub alone_nothing : (around : LoopsAndGuards) (m : Meaning W) (to : Destination) → Nothing (alone items p around m to)
  alone_nothing around m to heads = back_enters heads (m.evaluate around true to)

  pub pending_nothing : (b : Bool) (h : NodeHead) → Nothing (pending_if items p b innermost h)
  pending_nothing true h heads = changing_enters heads [] _ (λ S is. innermost_keeps (with_pending (entry_of h)) (λ s. refl) S)
  pending_nothing false h heads = changing_enters heads [] _ (λ S is. refl)

  pub pending_nearest : (b : Bool) (h : NodeHead) → Nothing (pending_if items p b nearest_temporary h)
  pending_nearest true h heads = changing_enters heads [] _ (λ S is. nearest_keeps (with_pending (entry_of h)) (λ s. refl) S)
  pending_nearest false h heads = changing_enters heads [] _ (λ S is. refl)

  of_heads : (heads : List ScopeHead) (P : List ScopeHead → Type 0) (S : Scopes) → map head_of S ≡ heads → P heads → P (map head_of S)
  of_heads heads P S is h = subst P (sym is) h

  -- a node's entry, by the row of the table
  pub complete_enters : (heads : List ScopeHead) (i : NodeId) (own : ScopeRow) (h : NodeHead) → IsInnermost i heads → own.entry ≡ Some i → own.node ≡ named h.id → Enters heads (own ∷ []) (complete items p innermost h)
  complete_enters heads i own h in_i is node_is =
      changing_enters heads (own ∷ []) _ (λ S at.
      innermost_puts (becomes_entry (entry_of h)) h.id (λ s. refl) i S (of_heads heads (IsInnermost i) S at in_i)
      ∙ sym (ap (λ (o : Option NodeId). enter_if_any o own.node (held S)) is ∙ ap (λ (n : NodeId). enter_if_any (Some i) n (held S)) node_is))

  pub complete_nearest : (heads : List ScopeHead) (t : NodeId) (own : ScopeRow) (h : NodeHead) → IsNearest t heads → own.entry ≡ Some t → own.node ≡ named h.id → Enters heads (own ∷ []) (complete items p nearest_temporary h)
  complete_nearest heads t own h in_t is node_is =
      changing_enters heads (own ∷ []) _ (λ S at.
      nearest_puts (becomes_entry (entry_of h)) h.id (λ s. refl) t S (of_heads heads (IsNearest t) S at in_t)
      ∙ sym (ap (λ (o : Option NodeId). enter_if_any o own.node (held S)) is ∙ ap (λ (n : NodeId). enter_if_any (Some t) n (held S)) node_is))

  pub take_keeps : (keys : List ℕ) → KeepsAround (take items p keys)
  take_keeps keys = changing_keeps _ (rest_innermost (without_operands keys))

  -- operands in a scope of their own, which are taken
  pub acting_enters : (heads : List ScopeHead) (A : List ScopeRow) (h : NodeHead) (around : LoopsAndGuards) (ms : List (Meaning W)) (act : Does W) → Missing heads h.id → Enters (record { node = h.id; for_temporaries = false } ∷ heads) A (operands items p around ms) → Nothing act → Enters heads A (acting items p h around false ms act)
  acting_enters heads A h around ms act missing made nothing =
      scope_enters items p heads A h.id false _ missing
      (then_keeps (record { node = h.id; for_temporaries = false } ∷ heads) A (operands items p around ms) (take items p (keys_of ms) >> act) made
      (keeps_then (take items p (keys_of ms)) act (take_keeps (keys_of ms)) (keeps_of act nothing)))

  pub dropping_enters : (heads : List ScopeHead) (A : List ScopeRow) (h : NodeHead) (around : LoopsAndGuards) (m : Meaning W) (act : Does W) → Missing heads h.id → Enters (record { node = h.id; for_temporaries = false } ∷ heads) A (operand items p around m) → Nothing act → Enters heads A (dropping items p h around false m act)
  dropping_enters heads A h around m act missing made nothing =
      let inside = record { node = h.id; for_temporaries = false } ∷ heads in
      scope_enters items p heads A h.id false _ missing
      (around_of inside A (operand items p around m >> act) (then_nothing inside A (operand items p around m) act made (nothing inside)))

  stored_keeps : (site : EffectSite) (key : ℕ) → KeepsAround (stored items p site key)
  stored_keeps site key = keeps_then (take items p (key ∷ [])) (acts items p _) (take_keeps (key ∷ [])) (keeps_of _ (acts_nothing _))

  replacing_keeps : (b : Bool) (site : EffectSite) (key : ℕ) → KeepsAround (replacing items p b site key)
  replacing_keeps b site key S x = by (dropped_first items p b site x)
    where
      by : (o : Out W) → WithValue (λ after. rest (held after) ≡ rest (held S)) (stored_after items p site key S o)
      by (Go x) = stored_keeps site key S x
      by (Unwind x) = after_value (λ after. Unit {0}) (λ after. rest (held after) ≡ rest (held S)) (At Panics) (stored items p site key S x)
          (more (λ after. rest (held after) ≡ rest (held S)) (λ after. Unit {0}) (λ after h. tt) (stored items p site key S x) (stored_keeps site key S x)) (λ S' x' h. tt)
      by (Halts halt x) = tt

  pub assigning_enters : (heads : List ScopeHead) (A B : List ScopeRow) (h : NodeHead) (place value : Meaning W) (around : LoopsAndGuards) (to : Destination) → Missing heads h.id → Enters (record { node = h.id; for_temporaries = false } ∷ heads) A (operand items p around value) → Enters (record { node = h.id; for_temporaries = false } ∷ heads) B (place.reach around) → Enters heads (A ++ B) (assigning items p h place value around false to)
  assigning_enters heads A B h place value around to missing made reached =
      let inside = record { node = h.id; for_temporaries = false } ∷ heads in
      let last = replacing items p (needs_drop items place.head.ty) (site_of place around) value.head.id in
      scope_enters items p heads (A ++ B) h.id false _ missing
      (then_around inside A B (operand items p around value) (place.reach around >> (last >> put_unit items p h to)) made
      (then_keeps inside B (place.reach around) (last >> put_unit items p h to) reached
      (keeps_then last (put_unit items p h to) (replacing_keeps (needs_drop items place.head.ty) (site_of place around) value.head.id) (keeps_of _ (unit_nothing h to)))))

  -- Conditions and branches.

  pub either_nothing : (test : W → Choice W) (f g : Does W) → Nothing f → Nothing g → Nothing (choosing test f g)
  either_nothing test f g one another heads = choosing_enters heads [] test f g (one heads) (another heads)

  pub condition_nothing : (around : LoopsAndGuards) (m : Meaning W) (f g : Does W) → Nothing f → Nothing g → Nothing (condition items p around m f g)
  condition_nothing around m f g one another =
      both_nothing (alone items p around m (Into m.head.id)) (choosing (p.choose (IsTrue (moved m.head.id m.head.id))) f g) (alone_nothing around m (Into m.head.id)) (either_nothing (p.choose (IsTrue (moved m.head.id m.head.id))) f g one another)

  pub branch_nothing : (around : LoopsAndGuards) (to : Destination) (o : Option (Meaning W)) (without : Does W) → Nothing without → Nothing (branch items p around to o without)
  branch_nothing around to None without h = h
  branch_nothing around to (Some m) without h = alone_nothing around m to

  -- Names.

  bind_keeps : (bounds : List BoundName) → KeepsAround (bind items p innermost bounds)
  bind_keeps [] = keeps_of (At Value) (λ heads. at_value heads)
  bind_keeps (b ∷ bounds) =
      keeps_then (acts items p _) (changing (innermost (with_entry (bound_entry b))) >> bind items p innermost bounds) (keeps_of _ (acts_nothing _))
      (keeps_then (changing (innermost (with_entry (bound_entry b)))) (bind items p innermost bounds) (changing_keeps _ (rest_innermost (with_entry (bound_entry b)))) (bind_keeps bounds))

  module _ (heads : List ScopeHead) (scope : ℕ) (in_that : (Scope → Scope) → Scopes → Scopes) (put : (b : BoundName) (S : Scopes) → map head_of S ≡ heads → held (in_that (with_entry (bound_entry b)) S) ≡ enter scope b.key (held S)) where
    heads_after : (b : BoundName) (S : Scopes) → map head_of S ≡ heads → map head_of (in_that (with_entry (bound_entry b)) S) ≡ heads
    heads_after b S is =
        sym (heads_held (in_that (with_entry (bound_entry b)) S)) ∙ ap heads_in (put b S is) ∙ enter_heads scope b.key (held S) ∙ heads_held S ∙ is

    pub bind_makes : (bounds : List BoundName) (S : Scopes) → map head_of S ≡ heads → (x : W) → WithValue (λ after. held after ≡ named_in scope bounds (held S)) (bind items p in_that bounds S x)
    bind_makes [] S is x = refl
    bind_makes (b ∷ bounds) S is x = by (p.act _ x) (bind_makes bounds (in_that (with_entry (bound_entry b)) S) (heads_after b S is))
      where
        by : (o : Out W) → ((x : W) → WithValue (λ after. held after ≡ named_in scope bounds (held (in_that (with_entry (bound_entry b)) S))) (bind items p in_that bounds (in_that (with_entry (bound_entry b)) S) x)) → WithValue (λ after. held after ≡ named_in scope (b ∷ bounds) (held S)) (on_value (in_scopes S o) (changing (in_that (with_entry (bound_entry b))) >> bind items p in_that bounds))
        by (Go x) next = more (λ after. held after ≡ named_in scope bounds (held (in_that (with_entry (bound_entry b)) S))) (λ after. held after ≡ named_in scope (b ∷ bounds) (held S)) (λ after h. h ∙ ap (named_in scope bounds) (put b S is)) (bind items p in_that bounds (in_that (with_entry (bound_entry b)) S) x) (next x)
        by (Unwind x) next = tt
        by (Halts halt x) next = tt

    pub bind_enters : (A : List ScopeRow) (bounds : List BoundName) → ((H : Held) → entered A H ≡ named_in scope bounds H) → Enters heads A (bind items p in_that bounds)
    bind_enters A bounds same S is x =
        more (λ after. held after ≡ named_in scope bounds (held S)) (λ after. held after ≡ entered A (held S)) (λ after h. h ∙ sym (same (held S))) (bind items p in_that bounds S x) (bind_makes bounds S is x)

  emptied_nothing : (b : Bool) (key : ℕ) → Nothing (emptied items p b key)
  emptied_nothing true key heads = at_value heads
  emptied_nothing false key heads = doing_enters heads (p.drop Normal (site_of_key key))

  module _ (heads : List ScopeHead) (i : NodeId) (in_i : IsInnermost i heads) where
    pub put_innermost : (b : BoundName) (S : Scopes) → map head_of S ≡ heads → held (innermost (with_entry (bound_entry b)) S) ≡ enter i.0 b.key (held S)
    put_innermost b S is = innermost_puts (with_entry (bound_entry b)) b.key (λ s. refl) i S (of_heads heads (IsInnermost i) S is in_i)

    pub declared_makes : (bounds : List BoundName) (S : Scopes) → map head_of S ≡ heads → (x : W) → WithValue (λ after. held after ≡ named_in i.0 bounds (held S)) (declared items p bounds S x)
    declared_makes [] S is x = refl
    declared_makes (b ∷ bounds) S is x =
        after_value (λ after. held after ≡ held S) (λ after. held after ≡ named_in i.0 (b ∷ bounds) (held S)) (changing (innermost (with_entry (bound_entry b))) >> declared items p bounds) (emptied items p (needs_drop items b.ty) b.key S x)
        (emptied_nothing (needs_drop items b.ty) b.key heads S is x)
        (λ S' x' same.
        let here : map head_of S' ≡ heads = sym (heads_held S') ∙ ap heads_in same ∙ heads_held S ∙ is in
        let next = innermost (with_entry (bound_entry b)) S' in
        let there : map head_of next ≡ heads = heads_after heads i.0 innermost put_innermost b S' here in
        more (λ after. held after ≡ named_in i.0 bounds (held next)) (λ after. held after ≡ named_in i.0 (b ∷ bounds) (held S))
        (λ after h. h ∙ ap (named_in i.0 bounds) (put_innermost b S' here ∙ ap (enter i.0 b.key) same)) (declared items p bounds next x') (declared_makes bounds next there x'))

    pub declared_enters : (A : List ScopeRow) (bounds : List BoundName) → ((H : Held) → entered A H ≡ named_in i.0 bounds H) → Enters heads A (declared items p bounds)
    declared_enters A bounds same S is x =
        more (λ after. held after ≡ named_in i.0 bounds (held S)) (λ after. held after ≡ entered A (held S)) (λ after h. h ∙ sym (same (held S))) (declared items p bounds S x) (declared_makes bounds S is x)

  -- Arms.

  pub touched_nothing : (b : Bool) (site : EffectSite) → Nothing (touched items p b site)
  touched_nothing true site heads = acts_nothing _ heads
  touched_nothing false site heads = at_value heads

  taken_nothing : (h : NodeHead) (around : LoopsAndGuards) (bounds : List BoundName) (body : Meaning W) (to : Destination) → Nothing (taken_arm items p h around bounds body to)
  taken_nothing h around bounds body to heads =
      scope_keeps items p heads h.id false (bind items p innermost bounds >> alone items p around body to)
      (keeps_then (bind items p innermost bounds) (alone items p around body to) (bind_keeps bounds) (keeps_of _ (alone_nothing around body to)))

  guarded_nothing : (around : LoopsAndGuards) (bounds : List BoundName) (guard : Option (Meaning W)) (f g : Does W) → Nothing f → Nothing g → Nothing (guarded items p around bounds guard f g)
  guarded_nothing around bounds None f g one another = one
  guarded_nothing around bounds (Some guard) f g one another = condition_nothing (in_guard bounds around) guard f g one another

  pub arm_nothing : (h : NodeHead) (pattern : Meaning W) (guard : Option (Meaning W)) (body : Meaning W) (matched : Place) (otherwise : Does W) (around : LoopsAndGuards) (to : Destination) → Nothing otherwise → Nothing (arm items p h pattern guard body matched otherwise around to)
  arm_nothing h pattern guard body matched otherwise around to other =
      either_nothing (all_hold items p (pattern.shape.tests matched)) _ otherwise
      (guarded_nothing around (pattern.shape.bindings matched) guard (taken_arm items p h around (pattern.shape.bindings matched) body to) otherwise (taken_nothing h around (pattern.shape.bindings matched) body to) other)
      other

  choosing_pops : (test : W → Choice W) (f g : Does W) → Pops items p f → Pops items p g → Pops items p (choosing test f g)
  choosing_pops test f g one another S x = by (test x)
    where
      by : (o : Choice W) → WithValue (λ after. held after ≡ rest (held S)) (chosen o (f S) (g S))
      by (Yes x) = one S x
      by (No x) = another S x
      by (Neither halt x) = tt

  pops_then : (f g : Does W) → Pops items p f → Nothing g → Pops items p (f >> g)
  pops_then f g pops nothing S x =
      after_value (λ after. held after ≡ rest (held S)) (λ after. held after ≡ rest (held S)) g (f S x) (pops S x)
      (λ S' x' same. more (λ after. held after ≡ held S') (λ after. held after ≡ rest (held S)) (λ after h. h ∙ same) (g S' x') (nothing (map head_of S') S' refl x'))

  pub taken_enters : (heads : List ScopeHead) (A : List ScopeRow) (h : NodeHead) (around : LoopsAndGuards) (pattern scrutinee : Meaning W) (body otherwise : Does W) → Missing heads h.id → Enters (record { node = h.id; for_temporaries = true } ∷ heads) A (scrutinee.reach around) → Nothing body → Nothing otherwise → Enters heads A (if_taken items p h around pattern scrutinee body otherwise)
  taken_enters heads A h around pattern scrutinee body otherwise missing made one another =
      let inside = record { node = h.id; for_temporaries = true } ∷ heads in
      let bounds = pattern.shape.bindings (place_of scrutinee around) in
      scope_with_enters items p heads A h.id true (scrutinised items p around scrutinee) _ missing
      (then_nothing inside A (scrutinee.reach around) (touched items p scrutinee.shape.is_place (site_of scrutinee around)) made (touched_nothing scrutinee.shape.is_place (site_of scrutinee around) inside))
      (choosing_pops (all_hold items p (pattern.shape.tests (place_of scrutinee around))) _ _
      (leaving_pops items p (bind items p innermost bounds >> body) (keeps_then (bind items p innermost bounds) body (bind_keeps bounds) (keeps_of body one)))
      (pops_then (leaving items p (At Value)) otherwise (leaving_pops items p (At Value) (keeps_of (At Value) (λ heads. at_value heads))) another))

  -- Loops and jumps.

  abbrev Stops : (Scopes → Type 0) → Exit → Type 0
  Stops P exit = (S : Scopes) (x : W) → WithValue P (At exit S x)

  pub then_stops : (heads : List ScopeHead) (A : List ScopeRow) (f : Does W) (exit : Exit) → ((P : Scopes → Type 0) → Stops P exit) → Enters heads A (f >> At exit)
  then_stops heads A f exit stops S is x = by (f S x)
    where
      by : (r : Run W) → WithValue (λ after. held after ≡ entered A (held S)) (on_value r (At exit))
      by (At Value S' x') = stops (λ after. held after ≡ entered A (held S)) S' x'
      by (At (Breaks loop) S' x') = tt
      by (At (Continues loop) S' x') = tt
      by (At Returns S' x') = tt
      by (At Panics S' x') = tt
      by (Over halt x') = tt

  pub ends_nothing : (h : NodeHead) (to : Destination) → Nothing (ends_loop items p h to)
  ends_nothing h to heads = then_stops heads [] (put_unit items p h to) (Breaks h.id) (λ P S x. tt)

  module _ (heads : List ScopeHead) (id : ℕ) where
    after_turn : (S : Scopes) → map head_of S ≡ heads → (next : Does W) → Enters heads [] next → (r : Run W) → WithValue (λ after. held after ≡ held S) r → WithValue (λ after. held after ≡ held S) (turned items p id S r next)
    after_turn S is next nothing (At Value S' x) same =
        more (λ after. held after ≡ held S') (λ after. held after ≡ held S) (λ after h. h ∙ same) (next S' x) (nothing S' (same_heads heads [] S S' is same) x)
    after_turn S is next nothing (At (Breaks loop) S' x) same = by (id == loop)
      where
        by : (b : Bool) → WithValue (λ after. held after ≡ held S) (if b then At Value S x else At (Breaks loop) S' x)
        by true = refl
        by false = tt
    after_turn S is next nothing (At (Continues loop) S' x) same = by (id == loop)
      where
        by : (b : Bool) → WithValue (λ after. held after ≡ held S) ((if b then next S else At (Continues loop) S') x)
        by true = nothing S is x
        by false = tt
    after_turn S is next nothing (At Returns S' x) same = tt
    after_turn S is next nothing (At Panics S' x) same = tt
    after_turn S is next nothing (Over halt x) same = tt

    pub turns_nothing : (n : ℕ) (turn : Does W) → Enters heads [] turn → Enters heads [] (turns items p n id turn)
    turns_nothing zero turn nothing S is x = tt
    turns_nothing (suc n) turn nothing S is x = by (p.tick x) (turns_nothing n turn nothing)
      where
        by : (o : Out W) → Enters heads [] (turns items p n id turn) → WithValue (λ after. held after ≡ held S) (ticked items p o (λ x. turned items p id S (turn S x) (turns items p n id turn)))
        by (Go x) next = after_turn S is (turns items p n id turn) next (turn S x) (nothing S is x)
        by (Unwind x) next = tt
        by (Halts halt x) next = tt
