-- Worked examples, by computation: in the bodies of accepted texts the invariant of the pass holds before and after
-- each node, by whatever choices.
use Rattle.std.proofs.Common.{◌≡◌, ℕ, zero, suc, ◌+◌, ◌==◌, ◌&&◌, ◌||◌, not, Bool, true, false, List, [], ◌∷◌, ◌++◌, length, map, Option, Some, None, if◌then◌else◌, refl}
use Rattle.std.specs.Prelude.{codes, option_and_then}
use Rattle.std.specs.List.{range_with_len, list_any, list_all, filter}
use Rattle.std.specs.Option.{option_map_or}
use Rattle.mir_ty.specs.declared.ty.TyId.{TyId}
use Rattle.mir_ty.specs.Facts.{needs_drop}
use Rattle.mir_ty.specs.ItemTable.{ItemTable, type_at}
use Rattle.store_model.specs.Abstract.Effects.{AbstractState, at_start, abstract_effects, presence, may_use, watched_at}
use Rattle.store_model.specs.Abstract.Presence.{all_present, itself_gone}
use Rattle.store_model.specs.Effects.{Halt, Aborted, OutOfTicks, Stuck, StuckAt, BadUse, BadStore, NoChoice, Infeasible, Unreachable, Out, Go, Unwind, Halts, Effects}
use Rattle.store_model.specs.Places.Place.{Step, Place, is_reference}
use Rattle.store_model.specs.Places.TypeForms.{same_id}
use Rattle.src_meaning.specs.Forms.{Destination, Into, Coerced, LoopsAndGuards, loop_destination, Meaning, is_never}
use Rattle.src_meaning.specs.Locals.Effects.{at_locals, place_at}
use Rattle.src_meaning.specs.Locals.OfBody.{local_of, local_ty, locals, cells}
use Rattle.src_meaning.specs.Scopes.{Entry, Scope, Scopes, all_entries, Exit, Value, Breaks, Continues, Returns, Panics, Run, At, Over}
use Rattle.src_meaning.specs.Shape.{shape}
use Rattle.src_meaning.specs.Shape as shapes
use Rattle.typed_tree.specs.Nodes.{number_of, nodes_of, nodes_in}
use Rattle.typed_tree.specs.Tree.{Node, node, Form, Let, Evaluate, Borrow, BodyTree, ProgramTree}
use Rattle.typing_rules.proofs.Accepted as texts
use Rattle.typing_rules.proofs.Words.{Outcome, Typed, outcome, lines}
use Rattle.typing_rules.specs.Accesses as rules
use Rattle.typing_rules.specs.Accesses.{AccessPlace, Accessed, changes, told, begin_alike}
use Rattle.soundness_values.proofs.Checked.{Checking, checked_effects}
use Rattle.soundness_values.proofs.CheckedBodies.{checks_of, is_reference_param}
use Rattle.soundness_values.proofs.Checks.{is_none}
use Rattle.soundness_values.proofs.Facts.{Naming, Facts, no_facts, same_place, takes_index}
use Rattle.soundness_values.proofs.NoOverlap.{seen}
use Rattle.soundness_cells.proofs.PassViewed.{viewed_activation}
use Rattle.soundness_values.proofs.Running.{sure_place}
use Rattle.soundness_values.proofs.Ways.{has_index}

abbrev is_let : Node → Bool
is_let (node id at ty by (Let pattern value)) = true
is_let n = false

abbrev is_statement : Node → Bool
is_statement (node id at ty by (Let pattern value)) = true
is_statement (node id at ty by (Evaluate expression)) = true
is_statement n = false

abbrev is_entry : List Entry → ℕ → Bool
is_entry es key = list_any (λ e. e.key == key) es

abbrev pendings : Scopes → List Entry
pendings [] = []
pendings (s ∷ S) = s.pending ++ pendings S

abbrev keys_of : Destination → List ℕ
keys_of (Into key) = key ∷ []
keys_of (Coerced key trait_no to) = key ∷ to ∷ []

abbrev last_key : Destination → ℕ
last_key (Into key) = key
last_key (Coerced key trait_no to) = to

abbrev first_key : Destination → ℕ
first_key (Into key) = key
first_key (Coerced key trait_no to) = key

abbrev among : List ℕ → ℕ → Bool
among keys key = list_any (λ k. k == key) keys

abbrev same_keys : List Entry → List Entry → Bool
same_keys [] [] = true
same_keys (a ∷ as_) (b ∷ bs) = a.key == b.key && same_keys as_ bs
same_keys as_ bs = false

-- the second is the first behind some new entries, all of these keys
abbrev behind_new : ℕ → List ℕ → List Entry → List Entry → Bool
behind_new zero keys old new = same_keys old new
behind_new (suc n) keys old [] = same_keys old []
behind_new (suc n) keys old (e ∷ new) =
    same_keys old (e ∷ new) || (among keys e.key && behind_new n keys old new)

abbrev same_scopes : Scopes → Scopes → Bool
same_scopes [] [] = true
same_scopes (s ∷ S) (t ∷ T) = (same_keys s.entries t.entries && same_keys s.pending t.pending) && same_scopes S T
same_scopes S T = false

abbrev grown_scope : (entries pending : Bool) → List ℕ → Scope → Scope → Bool
grown_scope entries pending keys s t =
    (if entries then behind_new 40 keys s.entries t.entries else same_keys s.entries t.entries)
    && (if pending then behind_new 40 keys s.pending t.pending else same_keys s.pending t.pending)

-- the nearest scope for temporaries has new ones
abbrev grown : Bool → List ℕ → Scopes → Scopes → Bool
grown pending keys [] [] = true
grown pending keys (s ∷ S) (t ∷ T) =
    if s.for_temporaries then grown_scope true pending keys s t && same_scopes S T
    else (grown_scope false false keys s t && grown pending keys S T)
grown pending keys S T = false

abbrev grown_innermost : List ℕ → Scopes → Scopes → Bool
grown_innermost keys [] [] = true
grown_innermost keys (s ∷ S) (t ∷ T) = grown_scope true false keys s t && same_scopes S T
grown_innermost keys S T = false

abbrev as_access : Place → AccessPlace
as_access place = record { key = place.local; steps = seen place.steps; has_ended = has_index place.steps }

abbrev rule_aliases : shapes.Aliases → rules.Aliases
rule_aliases aliases = map (λ (a : ℕ × Place). (a.0, Some (as_access a.1))) aliases

module _ (items : ItemTable) (body : BodyTree) where
  abbrev State : Type 0
  State = Checking Facts

  abbrev local : ℕ → ℕ
  local = local_of items body

  abbrev needs : ℕ → Bool
  needs key = option_map_or (needs_drop items) (local_ty items body (local key)) false

  abbrev is_clear : State → ℕ → Bool
  is_clear v key = itself_gone (presence (local key) v.free.cells) || not (needs key)

  abbrev is_full : State → ℕ → Bool
  is_full v key = all_present (presence (local key) v.free.cells)

  abbrev is_held : (ℕ → Bool) → Scopes → State → Bool
  is_held flying S v =
      list_all (λ e. is_clear v e.key || (is_entry (all_entries S) e.key || flying e.key)) (locals items body)

  abbrev are_pending : (ℕ → Bool) → Scopes → State → Bool
  are_pending flying S v = list_all (λ e. is_clear v e.key || flying e.key) (pendings S)

  abbrev lands : Scopes → ℕ → Bool
  lands S key = not (needs key) || is_entry (all_entries S) key

  abbrev is_sure : State → Place → Bool
  is_sure v place =
      sure_place items (local_ty items body) (is_reference_param items body) v.facts (place_at local place)

  abbrev all_numbers : Node → List ℕ
  all_numbers n = map number_of (nodes_of n)

  abbrev inner_numbers : Node → List ℕ
  inner_numbers (node id at ty by form) = map number_of (nodes_in form)

  abbrev ty_of : Node → TyId
  ty_of (node id at ty by form) = ty

  abbrev fresh : List ℕ → Scopes → Bool
  fresh keys S = list_all (λ key. not (is_entry (all_entries S) key)) keys

  abbrev around_lands : LoopsAndGuards → Scopes → Bool
  around_lands around S =
      lands S (last_key around.answer) && list_all (λ (l : ℕ × Destination). lands S (last_key l.1)) around.loops

  abbrev sure_aliases : LoopsAndGuards → State → Bool
  sure_aliases around v = list_all (λ (a : ℕ × Place). is_sure v a.1) around.aliases

  abbrev typed_destination : Node → Destination → Bool
  typed_destination n to =
      is_never items (ty_of n) || option_map_or (same_id (ty_of n)) (local_ty items body (local (first_key to))) false

  -- ---- what is known of other places stays known

  abbrev locals_in : List ℕ → List ℕ
  locals_in keys = map local keys

  abbrev indexes_by : List ℕ → Place → Bool
  indexes_by ls place = list_any (λ l. takes_index l place.steps) ls

  abbrev changed_by : LoopsAndGuards → Node → List Accessed
  changed_by around n =
      filter (λ a. changes a.access) (told (rule_aliases around.aliases) n).accesses

  abbrev meets : Place → Accessed → Bool
  meets place a =
      option_map_or (λ (p : AccessPlace). local p.key == place.local && begin_alike p.steps (seen place.steps)) a.place
      false

  abbrev is_spared : List ℕ → List Accessed → Place → Bool
  is_spared ls accesses place =
      not (among ls place.local || indexes_by ls place) && not (list_any (meets place) accesses)

  abbrev has_variant : Facts → Place × ℕ → Bool
  has_variant facts x = list_any (λ (y : Place × ℕ). same_place x.0 y.0 && x.1 == y.1) facts.variants

  abbrev has_naming : Facts → Naming → Bool
  has_naming facts n = list_any (λ (m : Naming). n.local == m.local && same_place n.place m.place) facts.naming

  abbrev may_be_used : State → Place → Bool
  may_be_used v place = may_use (watched_at items (local_ty items body) (record { node = 0; place = place }))
      (presence place.local v.free.cells)

  abbrev kept_variants : List ℕ → List Accessed → Facts → Facts → Bool
  kept_variants ls accesses f g =
      list_all (λ (x : Place × ℕ). not (is_spared ls accesses x.0) || has_variant g x) f.variants

  abbrev kept_bounds : List ℕ → Facts → Facts → Bool
  kept_bounds ls f g =
      list_all (λ (b : ℕ × ℕ). among ls b.0 || list_any (λ (c : ℕ × ℕ). b.0 == c.0 && b.1 == c.1) g.bounded) f.bounded

  abbrev kept_naming : List ℕ → Facts → Facts → Bool
  kept_naming ls f g =
      list_all (λ (n : Naming). (among ls n.local || indexes_by ls n.place) || has_naming g n) f.naming

  abbrev kept_whole : List ℕ → List Accessed → State → State → Bool
  kept_whole ls accesses v w =
      list_all (λ (n : Naming). not (is_spared ls accesses n.place)
      || (not (may_be_used v n.place) || may_be_used w n.place)) v.facts.naming

  abbrev is_kept : List ℕ → List Accessed → State → State → Bool
  is_kept ls accesses v w =
      (kept_variants ls accesses v.facts w.facts && kept_bounds ls v.facts w.facts)
      && (kept_naming ls v.facts w.facts && kept_whole ls accesses v w)

  abbrev own_locals : Node → List ℕ → List ℕ
  own_locals n keys = locals_in (map (λ (e : Entry). e.key) (cells items true n) ++ keys)

  -- ---- before and after a node

  abbrev flying : LoopsAndGuards → Destination → Exit → ℕ → Bool
  flying around to Value key = last_key to == key
  flying around to (Breaks loop) key = last_key (loop_destination loop around.loops) == key
  flying around to (Continues loop) key = false
  flying around to Returns key = last_key around.answer == key
  flying around to Panics key = false

  abbrev keys_filled : LoopsAndGuards → Destination → Exit → List ℕ
  keys_filled around to Value = keys_of to
  keys_filled around to (Breaks loop) = keys_of to ++ keys_of (loop_destination loop around.loops)
  keys_filled around to (Continues loop) = keys_of to
  keys_filled around to Returns = keys_of to ++ keys_of around.answer
  keys_filled around to Panics = keys_of to

  abbrev full_flying : LoopsAndGuards → Destination → Exit → State → Bool
  full_flying around to Value v = is_full v (last_key to)
  full_flying around to (Breaks loop) v = is_full v (last_key (loop_destination loop around.loops))
  full_flying around to (Continues loop) v = true
  full_flying around to Returns v = is_full v (last_key around.answer)
  full_flying around to Panics v = true

  abbrev named_now : Node → LoopsAndGuards → Destination → State → Bool
  named_now (node id at ty by (Borrow unique base)) around to v =
      list_any (λ (m : Naming). m.local == local (last_key to)
      && same_place m.place (place_at local ((shape items base).place around.aliases))) v.facts.naming
  named_now n around to v = true

  abbrev unless : ℕ → Bool → List ℕ
  unless code true = []
  unless code false = code ∷ []

  abbrev before : Node → Bool → LoopsAndGuards → Destination → Scopes → State → List ℕ
  before n own around to S v =
      unless 1 (is_held (λ key. false) S v) ++ unless 2 (are_pending (λ key. false) S v)
      ++ unless 3 (list_all (is_clear v) (keys_of to)) ++ unless 4 (fresh (inner_numbers n) S)
      ++ unless 5 (not (own || (shape items n).in_destination) || lands S (last_key to))
      ++ unless 6 (around_lands around S) ++ unless 7 (is_statement n || typed_destination n to)
      ++ unless 8 (sure_aliases around v) ++ unless 9 (is_none v.facts.refilled)

  abbrev scopes_at : Node → Bool → Bool → Scopes → Scopes → Bool
  scopes_at n true pending S T = same_scopes S T
  scopes_at n false pending S T = grown pending (all_numbers n) S T

  abbrev at_value : Node → Bool → LoopsAndGuards → Destination → Scopes → State → Scopes → State → List ℕ
  at_value n own around to S v T w =
      unless 11 (is_statement n || not (is_never items (ty_of n)))
      ++ unless 12 (if is_let n then grown_innermost (all_numbers n) S T else scopes_at n own false S T)
      ++ unless 13 (is_statement n || is_full w (last_key to))
      ++ unless 14 (is_held (flying around to Value) T w) ++ unless 15 (are_pending (flying around to Value) T w)
      ++ unless 16 (is_kept (own_locals n (keys_of to)) (changed_by around n) v w)
      ++ unless 17 (is_none w.facts.refilled) ++ unless 18 (named_now n around to w)

  abbrev at_exit : Node → Bool → LoopsAndGuards → Destination → Scopes → State → Exit → Scopes → State → List ℕ
  at_exit n own around to S v exit T w =
      unless 21 (if is_let n then grown_innermost (all_numbers n) S T else scopes_at n own true S T)
      ++ unless 22 (is_held (flying around to exit) T w) ++ unless 23 (are_pending (flying around to exit) T w)
      ++ unless 25 (full_flying around to exit w)
      ++ unless 26 (is_kept (own_locals n (keys_filled around to exit)) (changed_by around n) v w)
      ++ unless 27 (is_none w.facts.refilled)

  abbrev if_none : List ℕ → Node → State → Run State → Run State
  if_none [] n v run = run
  if_none (code ∷ codes) n v run = Over (StuckAt code (number_of n)) v

  abbrev after : Node → Bool → LoopsAndGuards → Destination → Scopes → State → Run State → Run State
  after n own around to S v (At Value T w) = if_none (at_value n own around to S v T w) n w (At Value T w)
  after n own around to S v (At exit T w) = if_none (at_exit n own around to S v exit T w) n w (At exit T w)
  after n own around to S v (Over halt w) = Over halt w

  abbrev before_reach : Node → LoopsAndGuards → Scopes → State → List ℕ
  before_reach n around S v =
      unless 31 (is_held (λ key. false) S v) ++ unless 32 (are_pending (λ key. false) S v)
      ++ unless 34 (fresh (inner_numbers n) S) ++ unless 36 (around_lands around S)
      ++ unless 38 (sure_aliases around v) ++ unless 39 (is_none v.facts.refilled)

  -- a value that is reached was pending, and is an entry then
  abbrev pending_else : ℕ → Scopes → Scopes
  pending_else key [] = []
  pending_else key (s ∷ S) =
      record s { pending = filter (λ (e : Entry). not (e.key == key)) s.pending } ∷ pending_else key S

  -- a reference is gone through, and not used by itself
  abbrev reached : Node → LoopsAndGuards → Scopes → State → Scopes → State → List ℕ
  reached n around S v T w =
      unless 41 (is_reference (type_at items (ty_of n)) || is_sure w ((shape items n).place around.aliases))
      ++ unless 42 (grown false (all_numbers n) (pending_else (number_of n) S) T)
      ++ unless 44 (is_held (λ key. false) T w) ++ unless 45 (are_pending (λ key. false) T w)
      ++ unless 46 (is_kept (own_locals n (number_of n ∷ [])) (changed_by around n) v w)
      ++ unless 47 (is_none w.facts.refilled)

  abbrev after_reach : Node → LoopsAndGuards → Scopes → State → Run State → Run State
  after_reach n around S v (At Value T w) = if_none (reached n around S v T w) n w (At Value T w)
  after_reach n around S v (At exit T w) =
      if_none (at_exit n false around (Into (number_of n)) S v exit T w) n w (At exit T w)
  after_reach n around S v (Over halt w) = Over halt w

  abbrev viewed : Node → Meaning State → Meaning State
  viewed n m = record m {
    evaluate = λ around own to S v.
        if_none (before n own around to S v) n v (after n own around to S v (m.evaluate around own to S v));
    reach = λ around S v. if_none (before_reach n around S v) n v (after_reach n around S v (m.reach around S v));
  }

  abbrev run : List Bool → Out State
  run list = viewed_activation items
      (at_locals local (checked_effects (checks_of items body) (abstract_effects items (local_ty items body))))
      (suc (length list)) viewed body
      (record { free = at_start (range_with_len 1 (length body.params)) list; facts = no_facts; lost = false })

  -- where the invariant does not hold: the fault, the node and the choices
  abbrev faults_of : List Bool → Out State → (List Bool → List (ℕ × (ℕ × List Bool))) → List (ℕ × (ℕ × List Bool))
  faults_of list (Go v) rest = []
  faults_of list (Unwind v) rest = []
  faults_of list (Halts NoChoice v) rest = rest (list ++ false ∷ []) ++ rest (list ++ true ∷ [])
  faults_of list (Halts Stuck v) rest = (0, (0, list)) ∷ []
  faults_of list (Halts (StuckAt b c) v) rest = (b, (c, list)) ∷ []
  faults_of list (Halts (BadUse site) v) rest = (100, (0, list)) ∷ []
  faults_of list (Halts (BadStore site) v) rest = (101, (0, list)) ∷ []
  faults_of list (Halts halt v) rest = []

  abbrev faults : ℕ → List Bool → List (ℕ × (ℕ × List Bool))
  faults zero list = []
  faults (suc n) list = faults_of list (run list) (faults n)

abbrev pub all_faults : ℕ → ItemTable → List BodyTree → List (ℕ × (ℕ × List Bool))
all_faults n items [] = []
all_faults n items (body ∷ bodies) = faults items body n [] ++ all_faults n items bodies

abbrev program_faults : ℕ → Outcome → List (ℕ × (ℕ × List Bool))
program_faults n (Typed p) = all_faults n p.items p.bodies
program_faults n other = (200, (0, [])) ∷ []

abbrev text_faults : ℕ → List ℕ → List (ℕ × (ℕ × List Bool))
text_faults n text = program_faults n (outcome text)

two_locals_holds : text_faults 4 texts.two_locals ≡ []
two_locals_holds = refl

break_in_operands_holds : text_faults 4 texts.break_in_operands ≡ []
break_in_operands_holds = refl

panic_in_operands_holds : text_faults 4 texts.panic_in_operands ≡ []
panic_in_operands_holds = refl

moved_if_holds : text_faults 4 texts.moved_if ≡ []
moved_if_holds = refl

assigned_again_holds : text_faults 4 texts.assigned_again ≡ []
assigned_again_holds = refl

guarded_match_holds : text_faults 4 texts.guarded_match ≡ []
guarded_match_holds = refl

element_holds : text_faults 4 texts.element ≡ []
element_holds = refl

loops_holds : text_faults 4 texts.loops ≡ []
loops_holds = refl

never_holds : text_faults 4 texts.never ≡ []
never_holds = refl

params_holds : text_faults 3 texts.params ≡ []
params_holds = refl

tail_holds : text_faults 3 texts.tail ≡ []
tail_holds = refl

let_parts_holds : text_faults 3 texts.let_parts ≡ []
let_parts_holds = refl

part_of_a_box_holds : text_faults 3 texts.part_of_a_box ≡ []
part_of_a_box_holds = refl

struct_fields_holds : text_faults 3 texts.struct_fields ≡ []
struct_fields_holds = refl

trait_objects_holds : text_faults 3 texts.trait_objects ≡ []
trait_objects_holds = refl

part_of_self_holds : text_faults 3 texts.part_of_self ≡ []
part_of_self_holds = refl

references_holds : text_faults 3 texts.references ≡ []
references_holds = refl

methods_holds : text_faults 3 texts.methods ≡ []
methods_holds = refl

patterns_holds : text_faults 3 texts.patterns ≡ []
patterns_holds = refl

closure_holds : text_faults 3 texts.closure ≡ []
closure_holds = refl

literals_holds : text_faults 3 texts.literals ≡ []
literals_holds = refl

nested_closures_holds : text_faults 3 texts.nested_closures ≡ []
nested_closures_holds = refl
