-- The free walk of a body that holds the code of a body of the source is its free run.
use Rattle.std.proofs.Common.{◌≡◌, ℕ, suc, Bool, true, false, List, [], ◌∷◌, length, Option, slice_get, refl, ap, sym, ◌∙◌, arith}
use Rattle.std.specs.List.{range_with_len}
use Rattle.cfg_graph.specs.declared.graph.Body.{Body}
use Rattle.cfg_graph.specs.declared.statement.Stmt.{Stmt}
use Rattle.cfg_meaning.proofs.Walks.{naming_laws}
use Rattle.cfg_meaning.specs.Actions.{site_of, operand_of, operands_of, action_of}
use Rattle.cfg_meaning.specs.Programs.{free_walk}
use Rattle.cfg_meaning.specs.Walk.{renamed, naming}
use Rattle.mir_ty.specs.declared.ty.TyId.{TyId}
use Rattle.mir_ty.specs.ItemTable.{ItemTable}
use Rattle.store_model.proofs.Abstract.Effects.{choices_of, free_laws}
use Rattle.store_model.proofs.Effects.Agreement.{tied_itself}
use Rattle.store_model.proofs.Effects.NeverStores.{free_runs_store_no_never}
use Rattle.store_model.specs.Abstract.Effects.{AbstractState, at_start, abstract_effects, when, unless_never, operand_used, operands_used, store, never_at, acted_on, after}
use Rattle.store_model.specs.Effects as effects
use Rattle.store_model.specs.Effects.{EffectSite, Halt, Out, Go, Unwind, Halts, Effects, halting_if, DoesNotGoOn}
use Rattle.typed_tree.specs.Tree.{BodyTree}
use Rattle.src_meaning.specs.Locals.Effects.{at_locals}
use Rattle.src_meaning.specs.Locals.OfBody.{local_of, local_ty}
use Rattle.src_meaning.specs.Programs.{activation, free_run, refused_of, reached_by}
use Rattle.lower_rules.proofs.Simulation.{body_runs}
use Rattle.lower_rules.proofs.TiedWalks.{NoUnwind, Settled}
use Rattle.lower_rules.proofs.WalksOfBodies.{Walk, walks}
use Rattle.lower_rules.specs.CodeLaws.{without_place, target_of, HoldsBody, WalksAsItRunsFreely}

pub renamed_no_unwind : {W : Type 0} (name : Halt → Halt) (o : Out W) → NoUnwind o → NoUnwind (renamed name o)
renamed_no_unwind name (Go w) u = tt
renamed_no_unwind name (Unwind w) u = u
renamed_no_unwind name (Halts halt w) u = tt

pub renamed_not_on : {W : Type 0} (name : Halt → Halt) (o : Out W) → DoesNotGoOn o → DoesNotGoOn (renamed name o)
renamed_not_on name (Go w) u = u
renamed_not_on name (Unwind w) u = tt
renamed_not_on name (Halts halt w) u = tt

pub halting_no_unwind : {W : Type 0} (b : Bool) (halt : Halt) (o : Out W) → NoUnwind o → NoUnwind (halting_if b halt o)
halting_no_unwind true halt (Go w) u = tt
halting_no_unwind true halt (Unwind w) u = u
halting_no_unwind true halt (Halts other w) u = tt
halting_no_unwind false halt o u = u

-- statements do not panic
module _ (table : ItemTable) (ty : ℕ → Option TyId) where
  when_settled : (b : Bool) (halt : Halt) (next : AbstractState → Out AbstractState) (w : AbstractState) → NoUnwind (next w) → NoUnwind (when b halt next w)
  when_settled true halt next w u = u
  when_settled false halt next w u = tt

  never_settled : (b : Bool) (w : AbstractState) → NoUnwind (unless_never table ty b w)
  never_settled true w = tt
  never_settled false w = tt

  used_settled : (operand : effects.Operand) (w : AbstractState) → NoUnwind (operand_used table ty operand w)
  used_settled (effects.Copied site) w = when_settled _ _ (unless_never table ty (never_at table ty site)) w (never_settled (never_at table ty site) w)
  used_settled (effects.Moved site) w = when_settled _ _ (λ w. Go (after table ty true site w)) w tt
  used_settled (effects.Number value kind) w = tt
  used_settled (effects.Truth value) w = tt
  used_settled effects.UnitValue w = tt

  go_settled : (o : Out AbstractState) → NoUnwind o → (next : AbstractState → Out AbstractState) → ((w : AbstractState) → NoUnwind (next w)) → NoUnwind (effects.on_go o next)
  go_settled (Go w) u next n = n w
  go_settled (Unwind w) u next n = u
  go_settled (Halts halt w) u next n = tt

  all_settled : (operands : List effects.Operand) (next : AbstractState → Out AbstractState) → ((w : AbstractState) → NoUnwind (next w)) → (w : AbstractState) → NoUnwind (operands_used table ty operands next w)
  all_settled [] next n w = n w
  all_settled (operand ∷ operands) next n w = go_settled (operand_used table ty operand w) (used_settled operand w) (operands_used table ty operands next) (all_settled operands next n)

  store_settled : (to : EffectSite) (w : AbstractState) → NoUnwind (store table ty to w)
  store_settled to w = when_settled _ _ (λ w. Go (after table ty false to w)) w tt

  acted_settled : (n : ℕ) (stmt : Stmt) (w : AbstractState) → NoUnwind (acted_on table ty (action_of n stmt) w)
  acted_settled n (Stmt.Put to from) w = all_settled (operand_of n from ∷ []) (store table ty (site_of n to)) (store_settled (site_of n to)) w
  acted_settled n (Stmt.Compare to op l r) w = all_settled (operand_of n l ∷ operand_of n r ∷ []) (store table ty (site_of n to)) (store_settled (site_of n to)) w
  acted_settled n (Stmt.Not to x) w = all_settled (operand_of n x ∷ []) (store table ty (site_of n to)) (store_settled (site_of n to)) w
  acted_settled n (Stmt.Tuple to parts) w = all_settled (operands_of n parts) (store table ty (site_of n to)) (store_settled (site_of n to)) w
  acted_settled n (Stmt.Array to parts) w = all_settled (operands_of n parts) (store table ty (site_of n to)) (store_settled (site_of n to)) w
  acted_settled n (Stmt.Make to adt variant parts) w = all_settled (operands_of n parts) (store table ty (site_of n to)) (store_settled (site_of n to)) w
  acted_settled n (Stmt.Close to closure parts) w = all_settled (operands_of n parts) (store table ty (site_of n to)) (store_settled (site_of n to)) w
  acted_settled n (Stmt.NewBox to content) w = all_settled (operand_of n content ∷ []) (store table ty (site_of n to)) (store_settled (site_of n to)) w
  acted_settled n (Stmt.Unsize to trait_no from) w = all_settled (operand_of n from ∷ []) (store table ty (site_of n to)) (store_settled (site_of n to)) w
  acted_settled n (Stmt.Borrow to unique base) w = when_settled _ _ (store table ty (site_of n to)) w (store_settled (site_of n to) w)
  acted_settled n (Stmt.Touch place) w = when_settled _ _ Go w tt
  acted_settled n (Stmt.Print x) w = all_settled (operand_of n x ∷ []) Go (λ w. tt) w
  acted_settled n (Stmt.Forget x) w = all_settled (operand_of n x ∷ []) Go (λ w. tt) w
  acted_settled n (Stmt.Free place) w = tt

-- a refused use is found whatever a run that is stuck says of its place
refused_without_place : (o : Out AbstractState) → refused_of (renamed without_place o) ≡ refused_of o
refused_without_place (Go w) = refl
refused_without_place (Unwind w) = refl
refused_without_place (Halts effects.Aborted w) = refl
refused_without_place (Halts other w) = refl

module _ (items : ItemTable) (tree : BodyTree) (body : Body) (node : ℕ → ℕ → ℕ) (holds : HoldsBody items tree body node) where
  abbrev ty : ℕ → Option TyId
  ty = slice_get body.locals

  abbrev p : Effects AbstractState
  p = abstract_effects items ty

  settled : (n : ℕ) → Settled (target_of items tree body node) (naming without_place p) choices_of n
  settled n = record {
    statements = λ i stmt w. renamed_no_unwind without_place (p.act (action_of i stmt) w)
        (halting_no_unwind (effects.stores_where (never_at items ty) (action_of i stmt)) effects.Unreachable (acted_on items ty (action_of i stmt) w) (acted_settled items ty i stmt w));
    lasting = λ action w l e. renamed_not_on without_place (p.act action w) (free_runs_store_no_never items ty action w e);
  }

  abbrev started : ℕ → List Bool → AbstractState
  started n list = at_start (range_with_len 1 n) list

  abbrev run_with : (ℕ → Option TyId) → ℕ → List Bool → Out AbstractState
  run_with ty n list = activation items (at_locals (local_of items tree) (abstract_effects items ty)) (suc (length list)) tree (started n list)

  same_walk : (list : List Bool) → renamed without_place (free_walk items node body list) ≡ renamed without_place (free_run items tree list)
  same_walk list =
      sym (ap (λ n. renamed without_place (run_with (local_ty items tree) n list)) (sym holds.params)
      ∙ ap (λ tys. renamed without_place (run_with (slice_get tys) body.params list)) (sym holds.locals)
      ∙ body_runs (record {
        t = target_of items tree body node;
        p = p;
        q = naming without_place p;
        size = choices_of;
        bound = length list;
        laws = naming_laws choices_of without_place p (free_laws items ty);
        tied = tied_itself choices_of (length list) (naming without_place p);
        settled = settled (length list);
        Walk = Walk choices_of p (free_laws items ty) 0 node (target_of items tree body node) (λ n block next w. refl) holds.ranked (length list) (suc (length list)) (omega arith);
        walks = walks choices_of p (free_laws items ty) 0 node (target_of items tree body node) (λ n block next w. refl) holds.ranked (length list) (suc (length list)) (omega arith);
      }) (suc (length list)) (omega arith) tree holds.holds_code (started body.params list) (omega arith))

  same_refused : (list : List Bool) → refused_of (free_walk items node body list) ≡ reached_by items tree list
  same_refused list =
      sym (refused_without_place (free_walk items node body list)) ∙ ap refused_of (same_walk list) ∙ refused_without_place (free_run items tree list)

pub walks_as_it_runs_freely : WalksAsItRunsFreely
walks_as_it_runs_freely items tree body node holds list = (same_walk items tree body node holds list, same_refused items tree body node holds list)
