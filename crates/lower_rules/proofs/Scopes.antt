-- What is lowered changes no scope beyond the nearest one for temporaries. So where a scope for temporaries is left, those around
-- it are as they were.
use Rattle.std.proofs.Common.{◌≡◌, ℕ, Bool, true, false, not, ◌||◌, List, [], ◌∷◌, map, refl, sym, ap, ◌∙◌, subst}
use Rattle.store_model.specs.Effects as effects
use Rattle.store_model.specs.Effects.{EffectSite, Action}
use Rattle.typed_tree.specs.Tree as tree
use Rattle.typed_tree.specs.Tree.{Form, Nodes, no_node, a_node, Fields, no_field, a_field, MaybeNode, absent, present, ParamTree, BodyTree}
use Rattle.src_meaning.specs.Locals.OfBody.{param_key, answer_key}
use Rattle.mir_ty.specs.Facts.{needs_drop}
use Rattle.src_meaning.specs.Evaluation.{in_number_order, to_own_key}
use Rattle.src_meaning.specs.FieldKeys.{field_keys, moved_fields}
use Rattle.mir_base.specs.declared.trace.Why.{Why}
use Rattle.src_meaning.specs.Forms.{Destination, Into, Coerced, LoopsAndGuards, in_loop, loop_destination, coerced, entry_of, bound_entry, site_in, site_of_key, moved, is_never, changed_if}
use Rattle.src_meaning.specs.Scopes.{Scope, Scopes, with_scope, innermost, around_innermost, nearest_from, nearest_temporary, with_entry, with_pending, without_pending, becomes_entry, without_operands, Exit, Breaks, Continues, Returns}
use Rattle.src_meaning.specs.Shape.{NodeHead, head, Shape, BoundName, kind_of, shape, shape_of, site_at, operand_of_bound, operand_at}
use Rattle.store_model.specs.Places.Place.{whole_local}
use Rattle.lower_rules.specs.Build as build
use Rattle.lower_rules.specs.Build.{LoweringFrame, Lowers, after_either, act, act_by, outer, is_last, done_by}
use Rattle.lower_rules.specs.Lower as lower
use Rattle.lower_rules.specs.Lower.{Evaluates, Reaches, NodeLower, LowerIfAny, no_lower, a_lower}

abbrev kinds : Scopes → List Bool
kinds S = map (λ s. s.for_temporaries) S

abbrev past : Bool → Scopes → Scopes → Scopes
past true S further = S
past false S further = further

-- the scopes beyond the nearest one for temporaries
abbrev beyond : Scopes → Scopes
beyond [] = []
beyond (s ∷ S) = past s.for_temporaries S (beyond S)

abbrev first_of : List Bool → Bool
first_of [] = false
first_of (b ∷ bs) = b

abbrev rest_of : List Bool → List Bool
rest_of [] = []
rest_of (b ∷ bs) = bs

-- the same kinds of scopes, and beyond the nearest one for temporaries the same scopes
pub record Near (S S' : Scopes) : Type 0 where
  pub same_kinds : kinds S' ≡ kinds S
  pub same_beyond : beyond S' ≡ beyond S

near_itself : (S : Scopes) → Near S S
near_itself S = record { same_kinds = refl; same_beyond = refl }

near_then : (S S' S'' : Scopes) → Near S S' → Near S' S'' → Near S S''
near_then S S' S'' a b = record { same_kinds = b.same_kinds ∙ a.same_kinds; same_beyond = b.same_beyond ∙ a.same_beyond }

near_same : (S S' S'' : Scopes) → S' ≡ S'' → Near S S'' → Near S S'
near_same S S' S'' e n = subst (Near S) (sym e) n

-- a change of scopes that stays near
abbrev Stays : (Scopes → Scopes) → Type 0
Stays g = (S : Scopes) → Near S (g S)

-- a change of a scope that keeps its kind
abbrev KeepsKind : (Scope → Scope) → Type 0
KeepsKind g = (s : Scope) → (g s).for_temporaries ≡ s.for_temporaries

innermost_stays : (g : Scope → Scope) → KeepsKind g → Stays (innermost g)
innermost_stays g keeps [] = near_itself []
innermost_stays g keeps (s ∷ S) = record {
  same_kinds = ap (λ b. b ∷ kinds S) (keeps s);
  same_beyond = ap (λ b. past b S (beyond S)) (keeps s);
}

nearest_stays : (g : Scope → Scope) → KeepsKind g → Stays (nearest_temporary g)
nearest_stays g keeps [] = near_itself []
nearest_stays g keeps (s ∷ S) = by_kind s.for_temporaries refl (nearest_stays g keeps S)
  where
    by_kind : (b : Bool) → s.for_temporaries ≡ b → Near S (nearest_temporary g S) → Near (s ∷ S) (nearest_from b g s S (nearest_temporary g S))
    by_kind true e n = record {
      same_kinds = ap (λ b. b ∷ kinds S) (keeps s);
      same_beyond = ap (λ b. past b S (beyond S)) (keeps s);
    }
    by_kind false e n = record {
      same_kinds = ap (λ list. s.for_temporaries ∷ list) n.same_kinds;
      same_beyond = ap (λ b. past b (nearest_temporary g S) (beyond (nearest_temporary g S))) e ∙ n.same_beyond ∙ sym (ap (λ b. past b S (beyond S)) e);
    }

changed_stays : (b : Bool) (g : Scopes → Scopes) → Stays g → Stays (changed_if b g)
changed_stays true g stays S = stays S
changed_stays false g stays S = near_itself S

-- a scope is left: those around it are near what they were, and the very same if it was one for temporaries
module _ (f : LoweringFrame) (node : ℕ) (S Y : Scopes) where
  left_same : Near (with_scope node true S) Y → outer f Y ≡ S
  left_same n = by_list Y n
    where
      by_list : (Y : Scopes) → Near (with_scope node true S) Y → outer f Y ≡ S
      by_list [] n = absurd (let never : ◌≡◌ {A = List Bool} [] (true ∷ kinds S) = n.same_kinds in cc)
      by_list (y ∷ Y) n = sym (ap (λ b. past b Y (beyond Y)) (ap first_of n.same_kinds)) ∙ n.same_beyond

  left_near : (own : Bool) → Near (with_scope node own S) Y → Near S (outer f Y)
  left_near true n = near_same S (outer f Y) S (left_same n) (near_itself S)
  left_near false n = by_list Y n
    where
      by_list : (Y : Scopes) → Near (with_scope node false S) Y → Near S (outer f Y)
      by_list [] n = absurd (let never : ◌≡◌ {A = List Bool} [] (false ∷ kinds S) = n.same_kinds in cc)
      by_list (y ∷ Y) n = record {
        same_kinds = ap rest_of n.same_kinds;
        same_beyond = sym (ap (λ b. past b Y (beyond Y)) (ap first_of n.same_kinds)) ∙ n.same_beyond;
      }

pub record Local (P : Lowers) : Type 0 where
  pub stays : Stays P.after

change_local : (g : Scopes → Scopes) → Stays g → Local (build.change g)
change_local g l = record { stays = l }

nothing_local : Local build.nothing
nothing_local = record { stays = near_itself }

changed_local : (g : Scopes → Scopes) (P : Lowers) → Stays g → Local P → Local (build.from_changed g P)
changed_local g P k l = record { stays = λ S. near_then S (g S) (P.after (g S)) (k S) (l.stays (g S)) }

back_local : (P : Lowers) → Local (build.back_in P)
back_local P = record { stays = near_itself }

then_local : (P Q : Lowers) → Local P → Local Q → Local (build.then_lower P Q)
then_local P Q p q = record { stays = λ S. near_then S (P.after S) (Q.after (P.after S)) (p.stays S) (q.stays (P.after S)) }

module _ (f : LoweringFrame) where
  act_local : (n : ℕ) (action : Action) → Local (act f n action)
  act_local n action = by_last (is_last f action)
    where
      by_last : (x : Bool) → Local (act_by f x n (done_by f action))
      by_last true = record { stays = near_itself }
      by_last false = record { stays = near_itself }

  scope_local : (node : ℕ) (own : Bool) (P : Lowers) → Local P → Local (build.in_scope f node own P)
  scope_local node own P l = record { stays = λ S. left_near f node S (P.after (with_scope node own S)) own (l.stays (with_scope node own S)) }

  deliver_local : (n : ℕ) (h : NodeHead) (action : EffectSite → Action) (to : Destination) → Local (lower.deliver_at f n h action to)
  deliver_local n h action (Into key) = act_local n (action (site_in h.id key))
  deliver_local n h action (Coerced key trait_no to) =
      then_local (act f n (action (site_in h.id key))) (act f h.id (effects.Unsize (site_in h.id to) trait_no (moved h.id key))) (act_local n (action (site_in h.id key)))
      (act_local h.id (effects.Unsize (site_in h.id to) trait_no (moved h.id key)))

  own_local : (h : NodeHead) (own : Bool) (P : Lowers) → Local P → Local (lower.in_own_scope f h own P)
  own_local h true P l = scope_local h.id true P l
  own_local h false P l = l

  -- a node, as it is evaluated and as its place is reached
  pub record IsLocal (m : NodeLower) : Type 0 where
    pub evaluated : (around : LoopsAndGuards) (own : Bool) (to : Destination) → Local (m.evaluates around own to)
    pub reached : (around : LoopsAndGuards) → Local (m.reaches around)

  pub data AllLocal : List NodeLower → Type 0 where
    none_local : AllLocal []
    one_local : (m : NodeLower) (ms : List NodeLower) → IsLocal m → AllLocal ms → AllLocal (m ∷ ms)

  pub data IfAnyLocal : LowerIfAny → Type 0 where
    without : IfAnyLocal no_lower
    with_one : (m : NodeLower) → IsLocal m → IfAnyLocal (a_lower m)

  pending_stays : (b : Bool) (h : NodeHead) → Stays (lower.pending_if f b innermost h)
  pending_stays b h = changed_stays b _ (innermost_stays (with_pending (entry_of h)) (λ s. refl))

  completed_stays : (h : NodeHead) → Stays (lower.completed f innermost h)
  completed_stays h = innermost_stays (becomes_entry (entry_of h)) (λ s. refl)

  operand_local : (around : LoopsAndGuards) (m : NodeLower) → IsLocal m → Local (lower.operand f around m)
  operand_local around m l =
      changed_local _ _ (pending_stays m.shape.in_destination m.head)
      (then_local _ _ (l.evaluated around false (Into m.head.id)) (change_local _ (completed_stays m.head)))

  operands_local : (around : LoopsAndGuards) (ms : List NodeLower) → AllLocal ms → Local (lower.operands f around ms)
  operands_local around _ none_local = nothing_local
  operands_local around _ (one_local m ms l all) = then_local _ _ (operand_local around m l) (operands_local around ms all)

  acting_local : (h : NodeHead) (around : LoopsAndGuards) (own : Bool) (ms : List NodeLower) → AllLocal ms → (P : Lowers) → Local P → Local (lower.acting f h around own ms P)
  acting_local h around own ms all P l =
      scope_local h.id own _ (then_local _ _ (operands_local around ms all) (changed_local _ _ (innermost_stays (without_operands (lower.keys_of ms)) (λ s. refl)) l))

  temporary_local : (h : NodeHead) (s : Shape) (e : Evaluates) (around : LoopsAndGuards) → ((around : LoopsAndGuards) (own : Bool) (to : Destination) → Local (e around own to)) → Local (lower.temporary f h s e around)
  temporary_local h s e around l =
      changed_local _ _ (changed_stays s.in_destination _ (nearest_stays (with_pending (entry_of h)) (λ s. refl)))
      (then_local _ _ (l around false (Into h.id)) (change_local _ (nearest_stays (becomes_entry (entry_of h)) (λ s. refl))))

  value_local : (h : NodeHead) (s : Shape) (e : Evaluates) → ((around : LoopsAndGuards) (own : Bool) (to : Destination) → Local (e around own to)) → IsLocal (lower.a_value f h s e)
  value_local h s e l = record {
    evaluated = λ around own to. l around own (to_own_key (is_never f.items h.ty) h.id to);
    reached = λ around. temporary_local h s (lower.made_in f h e) around (λ around own to. l around own (to_own_key (is_never f.items h.ty) h.id to));
  }

  place_local : (h : NodeHead) (s : Shape) (r : Reaches) → ((around : LoopsAndGuards) → Local (r around)) → IsLocal (lower.a_place f h s r)
  place_local h s r l = record {
    evaluated = λ around own to. own_local h own _ (then_local _ _ (l around) (deliver_local h.id h (λ site. effects.Put site (operand_at h (s.place around.aliases))) (to_own_key (is_never f.items h.ty) h.id to)));
    reached = l;
  }

  scope_value_local : (h : NodeHead) (s : Shape) (e : lower.MakesInto) → ((around : LoopsAndGuards) (to : Destination) → Local (e around to)) → IsLocal (lower.a_scope f h s e)
  scope_value_local h s e l = value_local h s (λ around own to. lower.in_own_scope f h own (e around to)) (λ around own to. own_local h own _ (l around to))

  operands_value_local : (h : NodeHead) (s : Shape) (ms : List NodeLower) → AllLocal ms → (action : EffectSite → Action) → IsLocal (lower.on_operands f h s ms action)
  operands_value_local h s ms all action =
      value_local h s (λ around own to. lower.acting f h around own ms (lower.deliver f h action to)) (λ around own to. acting_local h around own ms all _ (deliver_local h.id h action to))

  unit_local : (h : NodeHead) (to : Destination) → Local (lower.put_unit f h to)
  unit_local h to = deliver_local h.id h (λ site. effects.Put site effects.UnitValue) to

  unit_if_local : (x : Bool) (h : NodeHead) (to : Destination) → Local (lower.put_unit_if f x h to)
  unit_if_local true h to = nothing_local
  unit_if_local false h to = unit_local h to

  gives_unit_local : (h : NodeHead) (s : Shape) (m : NodeLower) → IsLocal m → (action : effects.Operand → Action) → IsLocal (lower.gives_unit f h s m action)
  gives_unit_local h s m l action =
      value_local h s (λ around own to. lower.acting f h around own (m ∷ []) (lower.unit_after f h (action (moved h.id m.head.id)) to))
      (λ around own to. acting_local h around own (m ∷ []) (one_local m [] l none_local) _ (then_local _ _ (act_local h.id (action (moved h.id m.head.id))) (unit_local h to)))

  branches_local : (node : ℕ) (x : ℕ → ℕ → build.Building → build.BlockRest × build.Building) (P Q : Lowers) → Local P → Local Q → Local (build.branches node x P Q)
  branches_local node x P Q p q = by_end P.has_end
    where
      by_end : (y : Bool) → Local (record (build.branches node x P Q) { after = after_either y P Q })
      by_end true = record { stays = p.stays }
      by_end false = record { stays = q.stays }

  condition_local : (around : LoopsAndGuards) (m : NodeLower) (P Q : Lowers) → Local P → Local Q → Local (lower.condition f around m P Q)
  condition_local around m P Q p q = then_local _ _ (back_local (m.evaluates around true (Into m.head.id))) (branches_local m.head.id (build.if_true f (moved m.head.id m.head.id) m.head.id) P Q p q)

  branch_local : (around : LoopsAndGuards) (to : Destination) (m : LowerIfAny) (P : Lowers) → Local P → Local (lower.branch f around to m P)
  branch_local around to no_lower P l = l
  branch_local around to (a_lower m) P l = back_local (m.evaluates around true to)

  bind_inner : (bounds : List BoundName) → Local (lower.bind f innermost bounds)
  bind_inner [] = nothing_local
  bind_inner (b ∷ bounds) =
      then_local _ _ (act_local b.key (effects.Put (site_of_key b.key) (operand_of_bound b))) (changed_local _ _ (innermost_stays (with_entry (bound_entry b)) (λ s. refl)) (bind_inner bounds))

  touched_local : (x : Bool) (site : EffectSite) → Local (lower.touched f x site)
  touched_local true site = act_local site.node (effects.Touch site)
  touched_local false site = nothing_local

  scrutinised_local : (around : LoopsAndGuards) (m : NodeLower) → IsLocal m → Local (lower.scrutinised f around m)
  scrutinised_local around m l = then_local _ _ (l.reached around) (touched_local m.shape.is_place (lower.site_of m around))

  outer_innermost : (change : Scope → Scope) (S : Scopes) → outer f (innermost change S) ≡ outer f S
  outer_innermost change [] = refl
  outer_innermost change (scope ∷ S) = refl

  outer_act : (n : ℕ) (action : Action) (S : Scopes) → (act f n action).after S ≡ S
  outer_act n action S = by_last (is_last f action)
    where
      by_last : (x : Bool) → (act_by f x n (done_by f action)).after S ≡ S
      by_last true = refl
      by_last false = refl

  pub bind_outer : (bounds : List BoundName) (S : Scopes) → outer f ((lower.bind f innermost bounds).after S) ≡ outer f S
  bind_outer [] S = refl
  bind_outer (b ∷ bounds) S =
      bind_outer bounds (innermost (with_entry (bound_entry b)) ((act f b.key (effects.Put (site_of_key b.key) (operand_of_bound b))).after S))
      ∙ outer_innermost (with_entry (bound_entry b)) ((act f b.key (effects.Put (site_of_key b.key) (operand_of_bound b))).after S)
      ∙ ap (outer f) (outer_act b.key (effects.Put (site_of_key b.key) (operand_of_bound b)) S)

  -- what follows a test of a pattern leaves the scope of the scrutinee first
  pub if_taken_after : (h : NodeHead) (around : LoopsAndGuards) (pattern scrutinee : NodeLower) → IsLocal scrutinee → (P Q : Lowers) → ((S : Scopes) → P.after S ≡ S) → ((S : Scopes) → Q.after S ≡ S) →
      (S : Scopes) → (lower.if_taken f h around pattern scrutinee P Q).after S ≡ S
  if_taken_after h around pattern scrutinee l P Q p q S = by_end _
    where
      Y : Scopes
      Y = (lower.scrutinised f around scrutinee).after (with_scope h.id true S)

      left : outer f Y ≡ S
      left = left_same f h.id S Y ((scrutinised_local around scrutinee l).stays (with_scope h.id true S))

      by_end : (x : Bool) → after_either x
          (build.then_lower (build.then_lower (lower.bind f innermost (pattern.shape.bindings (lower.place_in scrutinee around))) P) (build.leave f))
          (build.then_lower (build.leave f) Q) Y ≡ S
      by_end true = ap (outer f) (p _) ∙ bind_outer (pattern.shape.bindings (lower.place_in scrutinee around)) Y ∙ left
      by_end false = q _ ∙ left

  if_taken_local : (h : NodeHead) (around : LoopsAndGuards) (pattern scrutinee : NodeLower) → IsLocal scrutinee → (P Q : Lowers) → ((S : Scopes) → P.after S ≡ S) → ((S : Scopes) → Q.after S ≡ S) →
      Local (lower.if_taken f h around pattern scrutinee P Q)
  if_taken_local h around pattern scrutinee l P Q p q = record { stays = λ S. near_same S _ S (if_taken_after h around pattern scrutinee l P Q p q S) (near_itself S) }

  -- the block around a statement takes the names of a `let`
  around_outer : (change : Scope → Scope) (S : Scopes) → outer f (around_innermost change S) ≡ innermost change (outer f S)
  around_outer change [] = refl
  around_outer change (scope ∷ S) = refl

  named_near : (x : NodeHead) (S Y : Scopes) (node : ℕ) → Near (with_scope node true S) Y → Near S (outer f (lower.named f x Y))
  named_near x S Y node n =
      near_same S _ _ (around_outer (with_entry (entry_of x)) (innermost (without_pending (entry_of x)) Y) ∙ ap (innermost (with_entry (entry_of x))) (outer_innermost (without_pending (entry_of x)) Y))
      (near_then S (outer f Y) _ (left_near f node S Y true n) (innermost_stays (with_entry (entry_of x)) (λ s. refl) (outer f Y)))

  let_name_local : (h x : NodeHead) (m : NodeLower) → IsLocal m → (around : LoopsAndGuards) → Local (lower.let_name f h x m around)
  let_name_local h x m l around = record {
    stays = λ S. named_near x S _ h.id (near_then (with_scope h.id true S) _ _ (pending_stays true x (with_scope h.id true S)) ((l.evaluated around false (Into x.id)).stays _));
  }

  bind_around : (bounds : List BoundName) (S Y : Scopes) → Near S (outer f Y) → Near S (outer f ((lower.bind f around_innermost bounds).after Y))
  bind_around [] S Y n = n
  bind_around (b ∷ bounds) S Y n =
      bind_around bounds S _
      (near_same S _ _ (around_outer (with_entry (bound_entry b)) _ ∙ ap (λ Z. innermost (with_entry (bound_entry b)) (outer f Z)) (outer_act b.key (effects.Put (site_of_key b.key) (operand_of_bound b)) Y))
      (near_then S (outer f Y) _ n (innermost_stays (with_entry (bound_entry b)) (λ s. refl) (outer f Y))))

  let_parts_local : (h : NodeHead) (pattern m : NodeLower) → IsLocal m → (around : LoopsAndGuards) → Local (lower.let_parts f h pattern m around)
  let_parts_local h pattern m l around = record {
    stays = λ S. bind_around (pattern.shape.bindings (lower.place_in m around)) S _ (left_near f h.id S _ true
        (near_then (with_scope h.id true S) _ _ (pending_stays (not (m.shape.is_place || m.shape.in_destination)) m.head (with_scope h.id true S)) ((l.reached around).stays _)));
  }

  emptied_local : (x : Bool) (key : ℕ) → Local (lower.emptied f x key)
  emptied_local true key = nothing_local
  emptied_local false key = record { stays = near_itself }

  declared_local : (bounds : List BoundName) → Local (lower.declared f bounds)
  declared_local [] = nothing_local
  declared_local (b ∷ bounds) =
      then_local _ _ (emptied_local (needs_drop f.items b.ty) b.key) (changed_local _ _ (innermost_stays (with_entry (bound_entry b)) (λ s. refl)) (declared_local bounds))

  let_value_local : (x : Bool) (h : NodeHead) (pattern m : NodeLower) → IsLocal m → (around : LoopsAndGuards) → Local (lower.let_value f x h pattern m around)
  let_value_local true h pattern m l around = let_name_local h pattern.head m l around
  let_value_local false h pattern m l around = let_parts_local h pattern m l around

  letting_local : (h : NodeHead) (pattern : NodeLower) (m : LowerIfAny) → IfAnyLocal m → (around : LoopsAndGuards) → Local (lower.letting f h pattern m around)
  letting_local h pattern _ without around = declared_local (pattern.shape.bindings (whole_local 0))
  letting_local h pattern _ (with_one m l) around = let_value_local pattern.shape.is_binding h pattern m l around

  statements_local : (around : LoopsAndGuards) (ms : List NodeLower) → AllLocal ms → Local (lower.statements f around ms)
  statements_local around _ none_local = nothing_local
  statements_local around _ (one_local m ms l all) = then_local _ _ (l.evaluated around false (Into m.head.id)) (statements_local around ms all)

  tail_local : (h : NodeHead) (m : LowerIfAny) (around : LoopsAndGuards) (to : Destination) → Local (lower.tail_of f h m around to)
  tail_local h no_lower around to = unit_if_local (is_never f.items h.ty) h to
  tail_local h (a_lower m) around to = back_local (m.evaluates around true to)

  jump_value_local : (h : NodeHead) (m : LowerIfAny) → IfAnyLocal m → (around : LoopsAndGuards) (to : Destination) → Local (lower.value_of_jump f h m around to)
  jump_value_local h _ without around to = unit_local h to
  jump_value_local h _ (with_one m l) around to = l.evaluated around false to

  jump_local : (node : ℕ) (exit : Exit) (P : Lowers) → Local P → Local (build.jump f node exit P)
  jump_local node exit P l = then_local P (build.exits f node exit) l (record { stays = near_itself })

  looped_local : (id : ℕ) (turn : Lowers) → Local (build.looped id turn)
  looped_local id turn = record { stays = near_itself }

  replaces_local : (x : Bool) (site : EffectSite) (key : ℕ) → Local (build.replaces f x site key)
  replaces_local true site key = record { stays = innermost_stays (without_operands (key ∷ [])) (λ s. refl) }
  replaces_local false site key = changed_local _ _ (innermost_stays (without_operands (key ∷ [])) (λ s. refl)) (act_local site.node (effects.Put site (moved site.node key)))

  unit_after_same : (h : NodeHead) (to : Destination) (S : Scopes) → (lower.put_unit f h to).after S ≡ S
  unit_after_same h (Into key) S = outer_act h.id (effects.Put (site_in h.id key) effects.UnitValue) S
  unit_after_same h (Coerced key trait_no to) S =
      outer_act h.id (effects.Unsize (site_in h.id to) trait_no (moved h.id key)) _ ∙ outer_act h.id (effects.Put (site_in h.id key) effects.UnitValue) S

  otherwise_same : (h : NodeHead) (m : LowerIfAny) (around : LoopsAndGuards) (to : Destination) (S : Scopes) → (lower.otherwise_unit f h m around to).after S ≡ S
  otherwise_same h no_lower around to S = unit_after_same h to S
  otherwise_same h (a_lower m) around to S = refl

  abbrev while_turn : NodeHead → NodeLower → NodeLower → LoopsAndGuards → Destination → Lowers
  while_turn h condition m around to =
      lower.condition f (in_loop h.id to around) condition (lower.body_in f m (in_loop h.id to around)) (lower.ends_loop f h to)

  abbrev while_let_turn : NodeHead → NodeLower → NodeLower → NodeLower → LoopsAndGuards → Destination → Lowers
  while_let_turn h pattern scrutinee m around to =
      lower.if_taken f h (in_loop h.id to around) pattern scrutinee (lower.body_in f m (in_loop h.id to around)) (lower.ends_loop f h to)

  effect_value_local : (h : NodeHead) (s : Shape) (action : EffectSite → Action) → IsLocal (lower.effect f h s action)
  effect_value_local h s action = scope_value_local h s (λ around to. lower.deliver f h action to) (λ around to. deliver_local h.id h action to)

  mutual
    pub is_local : (n : tree.Node) → IsLocal (lower.lower f n)
    is_local (tree.node id at ty by form) = form_local form (head id ty by) (shape_of f.items form (head id ty by))

    form_local : (form : Form) (h : NodeHead) (s : Shape) → IsLocal (lower.lower_form f form h s)
    form_local (tree.Number value) h s = effect_value_local h s (λ site. effects.Put site (effects.Number value (kind_of f.items h.ty)))
    form_local (tree.Truth value) h s = effect_value_local h s (λ site. effects.Put site (effects.Truth value))
    form_local tree.UnitValue h s = effect_value_local h s (λ site. effects.Put site effects.UnitValue)
    form_local (tree.Variable key) h s = place_local h s _ (λ around. nothing_local)
    form_local (tree.Captured closure part name) h s = place_local h s _ (λ around. nothing_local)
    form_local (tree.Field base part) h s = place_local h s _ (is_local base).reached
    form_local (tree.Index base index count) h s = place_local h s (lower.reach_element f h s (lower.lower f base) (lower.lower f index) count) (λ around.
        then_local _ _ ((is_local base).reached around) (then_local _ _ ((is_local index).evaluated around false (Into (lower.lower f index).head.id))
        (then_local _ _ (act_local h.id (effects.Touch (site_at h (lower.array_around f (s.place around.aliases)))))
        (act_local (lower.lower f index).head.id (effects.Bounds (effects.Copied (site_of_key (lower.lower f index).head.id)) count)))))
    form_local (tree.Deref base) h s = place_local h s _ (is_local base).reached
    form_local (tree.Not operand) h s = operands_value_local h s (lower.lower f operand ∷ []) (one_local _ [] (is_local operand) none_local) (λ site. effects.Not site (moved h.id (lower.lower f operand).head.id))
    form_local (tree.Negate operand) h s = operands_value_local h s (lower.lower f operand ∷ []) (one_local _ [] (is_local operand) none_local) (λ site. effects.Negate site (moved h.id (lower.lower f operand).head.id))
    form_local (tree.Arithmetic operator left right) h s =
        operands_value_local h s (lower.lower f left ∷ lower.lower f right ∷ []) (one_local _ _ (is_local left) (one_local _ [] (is_local right) none_local))
        (λ site. effects.Compute site operator (moved h.id (lower.lower f left).head.id) (moved h.id (lower.lower f right).head.id))
    form_local (tree.Comparison operator left right) h s =
        operands_value_local h s (lower.lower f left ∷ lower.lower f right ∷ []) (one_local _ _ (is_local left) (one_local _ [] (is_local right) none_local))
        (λ site. effects.Compare site operator (moved h.id (lower.lower f left).head.id) (moved h.id (lower.lower f right).head.id))
    form_local (tree.And left right) h s = scope_value_local h s (lower.conjunction f h (lower.lower f left) (lower.lower f right))
        (λ around to. condition_local around (lower.lower f left) (lower.alone f around (lower.lower f right) to) (lower.shortcut f h false to) (back_local ((lower.lower f right).evaluates around true to))
        (deliver_local h.id h (λ site. effects.Put site (effects.Truth false)) to))
    form_local (tree.Or left right) h s = scope_value_local h s (lower.disjunction f h (lower.lower f left) (lower.lower f right))
        (λ around to. condition_local around (lower.lower f left) (lower.shortcut f h true to) (lower.alone f around (lower.lower f right) to) (deliver_local h.id h (λ site. effects.Put site (effects.Truth true)) to)
        (back_local ((lower.lower f right).evaluates around true to)))
    form_local (tree.Assign place value) h s = value_local h s (lower.assigning f h (lower.lower f place) (lower.lower f value)) (λ around own to.
        scope_local h.id own _ (then_local _ _ (operand_local around (lower.lower f value) (is_local value)) (then_local _ _ ((is_local place).reached around)
        (then_local _ _ (replaces_local (needs_drop f.items (lower.lower f place).head.ty) (lower.site_of (lower.lower f place) around) (lower.lower f value).head.id) (unit_local h to)))))
    form_local (tree.Call g args) h s = operands_value_local h s (lower.lower_all f args) (all_local args) (λ site. effects.Call site g (lower.all_moved h.id (lower.lower_all f args)))
    form_local (tree.MethodCall g receiver args) h s = operands_value_local h s (lower.lower f receiver ∷ lower.lower_all f args) (one_local _ _ (is_local receiver) (all_local args)) (λ site. effects.Call site g (lower.all_moved h.id (lower.lower f receiver ∷ lower.lower_all f args)))
    form_local (tree.VirtualCall trait_no method receiver args) h s = operands_value_local h s (lower.lower f receiver ∷ lower.lower_all f args) (one_local _ _ (is_local receiver) (all_local args)) (λ site. effects.CallVirtual site trait_no method (lower.all_moved h.id (lower.lower f receiver ∷ lower.lower_all f args)))
    form_local (tree.ClosureCall g callee args) h s = operands_value_local h s (lower.lower f callee ∷ lower.lower_all f args) (one_local _ _ (is_local callee) (all_local args)) (λ site. effects.Call site g (lower.all_moved h.id (lower.lower f callee ∷ lower.lower_all f args)))
    form_local (tree.Make adt variant fields) h s =
        operands_value_local h s (lower.lower_fields f fields) (fields_local fields) (λ site. effects.Build site (effects.OfVariant adt variant) (moved_fields h.id (in_number_order (field_keys fields))))
    form_local (tree.Tuple parts) h s = operands_value_local h s (lower.lower_all f parts) (all_local parts) (λ site. effects.Build site effects.OfTuple (lower.all_moved h.id (lower.lower_all f parts)))
    form_local (tree.Array elements) h s = operands_value_local h s (lower.lower_all f elements) (all_local elements) (λ site. effects.Build site effects.OfArray (lower.all_moved h.id (lower.lower_all f elements)))
    form_local (tree.Closure closure captures) h s = operands_value_local h s (lower.lower_all f captures) (all_local captures) (λ site. effects.Build site (effects.OfClosure closure) (lower.all_moved h.id (lower.lower_all f captures)))
    form_local (tree.NewBox content) h s = operands_value_local h s (lower.lower f content ∷ []) (one_local _ [] (is_local content) none_local) (λ site. effects.NewBox site (moved h.id (lower.lower f content).head.id))
    form_local (tree.Print operand) h s = gives_unit_local h s _ (is_local operand) effects.Print
    form_local tree.Ask h s = effect_value_local h s effects.Ask
    form_local (tree.DropValue operand) h s = value_local h s (λ around own to. lower.dropping f h around own (lower.lower f operand) (lower.put_unit f h to))
        (λ around own to. scope_local h.id own _ (then_local _ _ (operand_local around (lower.lower f operand) (is_local operand)) (unit_local h to)))
    form_local (tree.Forget operand) h s = gives_unit_local h s _ (is_local operand) effects.Forget
    form_local tree.Panic h s = value_local h s (λ around own to. build.panics f h.id Why.Explicit) (λ around own to. record { stays = near_itself })
    form_local (tree.Borrow unique base) h s = value_local h s (lower.borrowing f h unique (lower.lower f base)) (λ around own to.
        own_local h own _ (then_local _ _ ((is_local base).reached around)
        (deliver_local (lower.lower f base).head.id h (λ site. effects.Borrow (record site { node = (lower.lower f base).head.id }) unique (lower.site_of (lower.lower f base) around)) to)))
    form_local (tree.Unsize trait_no operand) h s = value_local h s (λ around own to. (lower.lower f operand).evaluates around own (coerced (lower.lower f operand).head.id trait_no to))
        (λ around own to. (is_local operand).evaluated around own (coerced (lower.lower f operand).head.id trait_no to))
    form_local (tree.Block stmts tail) h s = value_local h s (lower.block f h (lower.lower_all f stmts) (lower.lower_if_any f tail))
        (λ around own to. scope_local h.id own _ (then_local _ _ (statements_local around (lower.lower_all f stmts) (all_local stmts)) (tail_local h (lower.lower_if_any f tail) around to)))
    form_local (tree.Let pattern initialiser) h s = value_local h s (λ around own to. lower.letting f h (lower.lower f pattern) (lower.lower_if_any f initialiser) around)
        (λ around own to. letting_local h (lower.lower f pattern) (lower.lower_if_any f initialiser) (if_any_local initialiser) around)
    form_local (tree.Evaluate expression) h s = value_local h s (λ around own to. lower.evaluating f h (lower.lower f expression) around) (λ around own to.
        scope_local h.id true _ (changed_local _ _ (pending_stays true (lower.lower f expression).head)
        (then_local _ _ ((is_local expression).evaluated around false (Into (lower.lower f expression).head.id)) (change_local _ (completed_stays (lower.lower f expression).head)))))
    form_local (tree.If condition consequent otherwise) h s = scope_value_local h s
        (λ around to. lower.condition f around (lower.lower f condition) (lower.alone f around (lower.lower f consequent) to) (lower.otherwise_unit f h (lower.lower_if_any f otherwise) around to))
        (λ around to. condition_local around (lower.lower f condition) (lower.alone f around (lower.lower f consequent) to) (lower.otherwise_unit f h (lower.lower_if_any f otherwise) around to)
        (back_local ((lower.lower f consequent).evaluates around true to)) (branch_local around to (lower.lower_if_any f otherwise) (lower.put_unit f h to) (unit_local h to)))
    form_local (tree.IfLet pattern scrutinee consequent otherwise) h s = scope_value_local h s
        (λ around to. lower.if_taken f h around (lower.lower f pattern) (lower.lower f scrutinee) (lower.alone f around (lower.lower f consequent) to) (lower.otherwise_unit f h (lower.lower_if_any f otherwise) around to))
        (λ around to. if_taken_local h around (lower.lower f pattern) (lower.lower f scrutinee) (is_local scrutinee) (lower.alone f around (lower.lower f consequent) to)
        (lower.otherwise_unit f h (lower.lower_if_any f otherwise) around to) (λ S. refl) (otherwise_same h (lower.lower_if_any f otherwise) around to))
    form_local (tree.Match scrutinee arms) h s = value_local h s (lower.matching f h (lower.lower f scrutinee) (lower.lower_all f arms))
        (λ around own to. own_local h own _ (then_local _ (lower.arms_in_order f h.id (lower.lower_all f arms) (lower.place_in (lower.lower f scrutinee) around) around to)
        (scrutinised_local around (lower.lower f scrutinee) (is_local scrutinee)) (record { stays = near_itself })))
    form_local (tree.Arm pattern guard m) h s =
        let l = value_local h s (λ around own to. build.nothing) (λ around own to. nothing_local) in record { evaluated = l.evaluated; reached = l.reached }
    form_local (tree.Loop m) h s = scope_value_local h s (λ around to. build.looped h.id (lower.body_in f (lower.lower f m) (in_loop h.id to around)))
        (λ around to. looped_local h.id (lower.body_in f (lower.lower f m) (in_loop h.id to around)))
    form_local (tree.While condition m) h s = scope_value_local h s (λ around to. build.looped h.id (while_turn h (lower.lower f condition) (lower.lower f m) around to))
        (λ around to. looped_local h.id (while_turn h (lower.lower f condition) (lower.lower f m) around to))
    form_local (tree.WhileLet pattern scrutinee m) h s =
        scope_value_local h s (λ around to. build.looped h.id (while_let_turn h (lower.lower f pattern) (lower.lower f scrutinee) (lower.lower f m) around to))
        (λ around to. looped_local h.id (while_let_turn h (lower.lower f pattern) (lower.lower f scrutinee) (lower.lower f m) around to))
    form_local (tree.Break loop value) h s =
        scope_value_local h s (λ around to. build.jump f h.id (Breaks loop) (lower.value_of_jump f h (lower.lower_if_any f value) around (loop_destination loop around.loops)))
        (λ around to. jump_local h.id (Breaks loop) (lower.value_of_jump f h (lower.lower_if_any f value) around (loop_destination loop around.loops))
        (jump_value_local h (lower.lower_if_any f value) (if_any_local value) around (loop_destination loop around.loops)))
    form_local (tree.Continue loop) h s = value_local h s (λ around own to. build.jump f h.id (Continues loop) build.nothing) (λ around own to. jump_local h.id (Continues loop) build.nothing nothing_local)
    form_local (tree.Return value) h s =
        scope_value_local h s (λ around to. build.jump f h.id Returns (lower.value_of_jump f h (lower.lower_if_any f value) around around.answer))
        (λ around to. jump_local h.id Returns (lower.value_of_jump f h (lower.lower_if_any f value) around around.answer) (jump_value_local h (lower.lower_if_any f value) (if_any_local value) around around.answer))
    form_local other h s = value_local h s (λ around own to. build.nothing) (λ around own to. nothing_local)

    all_local : (ns : Nodes) → AllLocal (lower.lower_all f ns)
    all_local no_node = none_local
    all_local (a_node first rest) = one_local _ _ (is_local first) (all_local rest)

    fields_local : (fs : Fields) → AllLocal (lower.lower_fields f fs)
    fields_local no_field = none_local
    fields_local (a_field number value rest) = one_local _ _ (is_local value) (fields_local rest)

    if_any_local : (n : MaybeNode) → IfAnyLocal (lower.lower_if_any f n)
    if_any_local absent = without
    if_any_local (present value) = with_one _ (is_local value)

  -- ---- a body leaves the scope of its result as it was
  names_local : (x : Bool) (bounds : List BoundName) → Local (lower.names_of_param f x bounds)
  names_local true bounds = nothing_local
  names_local false bounds = bind_inner bounds

  params_local : (params : List ParamTree) → Local (lower.params_entered f params)
  params_local [] = nothing_local
  params_local (param ∷ params) =
      changed_local _ _ (innermost_stays (with_entry (record { key = param_key param; ty = param.ty })) (λ s. refl))
      (then_local _ _ (names_local (shape f.items param.pattern).is_binding ((shape f.items param.pattern).bindings (whole_local (param_key param)))) (params_local params))

  pub function_after : (body : BodyTree) (S : Scopes) → (lower.entire_function f body).after S ≡ S
  function_after body S =
      left_same f (answer_key body) S _
      ((then_local _ _ (params_local body.params) ((is_local body.block).evaluated (lower.around_body f body) false (Into (answer_key body)))).stays (with_scope (answer_key body) true S))
