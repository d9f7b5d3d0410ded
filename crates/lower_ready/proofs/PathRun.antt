-- What a watch sees of a path of a lowered body it sees of the run of the source that is given the choices of the path,
-- over effects that only look.
use Rattle.std.proofs.Common.{◌≡◌, ℕ, zero, suc, Bool, true, false, List, [], ◌∷◌, ◌++◌, length, Option, slice_get, Contains, refl, sym, ap, subst, ◌∙◌, arith}
use Rattle.std.proofs.lemmas.List.{append-nil}
use Rattle.cfg_graph.specs.declared.graph.Body.{Body}
use Rattle.cfg_graph.specs.declared.statement.Stmt.{Stmt}
use Rattle.cfg_graph.specs.Moves.Paths.{IsPath, choices_along, entry_choices}
use Rattle.cfg_meaning.proofs.Walks.{naming_laws}
use Rattle.cfg_meaning.specs.Actions.{action_of}
use Rattle.cfg_meaning.specs.Walk.{Next, renamed, naming, walk}
use Rattle.mir_ty.specs.declared.ty.TyId.{TyId}
use Rattle.mir_ty.specs.ItemTable.{ItemTable}
use Rattle.store_model.proofs.Effects.Agreement.{tied_itself}
use Rattle.store_model.specs.Abstract.Effects.{never_at}
use Rattle.store_model.specs.Effects.{Action, Unreachable, Out, Go, Unwind, Halts, Effects, stores_where, halting_if, DoesNotGoOn}
use Rattle.typed_tree.specs.Tree.{BodyTree}
use Rattle.src_meaning.specs.Locals.Effects.{at_locals}
use Rattle.src_meaning.specs.Locals.OfBody.{local_of, local_tys}
use Rattle.src_meaning.specs.Programs.{activation}
use Rattle.move_errors.proofs.Pathways.{in-map}
use Rattle.move_errors.proofs.Sorted.{none-in}
use Rattle.lower_rules.proofs.FreeWalks.{renamed_no_unwind, renamed_not_on, halting_no_unwind}
use Rattle.lower_rules.proofs.Simulation.{body_runs}
use Rattle.lower_rules.proofs.TiedWalks.{NoUnwind, Settled, Walks}
use Rattle.lower_rules.proofs.WalksOfBodies.{Walk, walks}
use Rattle.lower_rules.specs.CodeLaws.{without_place, target_of, HoldsBody}
use Rattle.lower_ready.proofs.Noting.{Note, Sees, may_panic, Watched, left_of, acts_by, watching, watching_laws}
use Rattle.lower_ready.proofs.PathFollow as following
use Rattle.lower_ready.proofs.PathFollow.{GoesOn}
use Rattle.lower_ready.proofs.PathWatch as watch
use Rattle.lower_ready.proofs.PathWatch.{is_statement, path_seen}

module _ {M : Type 0} (items : ItemTable) (tree : BodyTree) (body : Body) (node : ℕ → ℕ → ℕ)
    (holds : HoldsBody items tree body node) (goes : GoesOn items body) (see : Sees M) (Bad : M → Type 0)
    (stays : (call : Bool) (notes : List Note) (m : M) → Bad m → Bad (see call notes m))
    (none_seen : (m : M) → see false [] m ≡ m) where
  abbrev ty : ℕ → Option TyId
  ty = slice_get body.locals

  abbrev p : Effects (Watched M)
  p = watching items ty see

  abbrev pub EndsBad : Out (Watched M) → Type 0
  EndsBad (Go w) = Bad w.seen
  EndsBad (Unwind w) = Bad w.seen
  EndsBad (Halts halt w) = Bad w.seen

  -- ---- what a simulation asks of effects

  no_unwind : (i : ℕ) (stmt : Stmt) (w : Watched M) → NoUnwind (p.act (action_of i stmt) w)
  no_unwind i stmt w =
      halting_no_unwind (stores_where (never_at items ty) (action_of i stmt)) Unreachable
      (acts_by items ty see (may_panic (action_of i stmt)) (action_of i stmt) w)
      (subst (λ (x : Bool). NoUnwind (acts_by items ty see x (action_of i stmt) w)) (sym (is_statement i stmt)) tt)

  not_on : (action : Action) (w : Watched M) → stores_where (never_at items ty) action ≡ true →
      DoesNotGoOn (p.act action w)
  not_on action w e =
      subst (λ (x : Bool). DoesNotGoOn (halting_if x Unreachable (acts_by items ty see (may_panic action) action w)))
      (sym e)
      (by (acts_by items ty see (may_panic action) action w))
    where
      by : (o : Out (Watched M)) → DoesNotGoOn (halting_if true Unreachable o)
      by (Go v) = tt
      by (Unwind v) = tt
      by (Halts halt v) = tt

  settled : (n : ℕ) → Settled (target_of items tree body node) (naming without_place p) left_of n
  settled n = record {
    statements = λ i stmt w. renamed_no_unwind without_place (p.act (action_of i stmt) w) (no_unwind i stmt w);
    lasting = λ action w l e. renamed_not_on without_place (p.act action w) (not_on action w e);
  }

  -- ---- the run

  abbrev pub run : (ℕ → Option TyId) → List Bool → M → Out (Watched M)
  run tys given m =
      activation items (at_locals (local_of items tree) (watching items tys see)) (suc (length given)) tree
      (record { seen = m; choices = given })

  unnamed : (o : Out (Watched M)) → EndsBad (renamed without_place o) → EndsBad o
  unnamed (Go v) b = b
  unnamed (Unwind v) b = b
  unnamed (Halts halt v) b = b

  abbrev pub whole_seen : List ℕ → M → M
  whole_seen [] m = m
  whole_seen (n ∷ path) m = path_seen see body n path m

  in_run : (path : List ℕ) (given : List Bool) → IsPath items body path given → (m : M) → Bad (whole_seen path m) →
      EndsBad (run ty given m)
  in_run [] given is m b = absurd (none-in given is)
  in_run (suc k ∷ path) given is m b = absurd (none-in given is)
  in_run (zero ∷ path) given is m b =
      unnamed (run ty given m)
      (subst EndsBad
      (sym (body_runs (record {
        t = target_of items tree body node;
        p = p;
        q = naming without_place p;
        size = left_of;
        bound = length given;
        laws = naming_laws left_of without_place p (watching_laws items ty see);
        tied = tied_itself left_of (length given) (naming without_place p);
        settled = settled (length given);
        Walk = W;
        walks = so;
      }) (suc (length given)) (omega arith) tree holds.holds_code w (omega arith)))
      (following.from_start (target_of items tree body node) see Bad stays none_seen without_place (length given) W so
      (λ n v c. watch.renamed_bad items ty see Bad stays without_place (walk p 0 node body (suc (length given)) n v)
      (watch.walk_bad items ty see Bad stays 0 node body (suc (length given)) n v c))
      goes path it.0 [] it.1 w
      (sym it.2 ∙ ap (λ (z : List Bool). entry_choices items body 0 ++ z) (sym (append-nil it.0))) (omega arith) b))
    where
      w : Watched M
      w = record { seen = m; choices = given }

      it : (c : List Bool) × Contains (choices_along items body (λ last. [] ∷ []) 0 path) c
          × (entry_choices items body 0 ++ c ≡ given)
      it = in-map (λ (rest : List Bool). entry_choices items body 0 ++ rest)
          (choices_along items body (λ last. [] ∷ []) 0 path) given is

      W : Next (Watched M)
      W = Walk left_of p (watching_laws items ty see) 0 node (target_of items tree body node) (λ n block next v. refl)
          holds.ranked (length given) (suc (length given)) (omega arith)

      so : Walks (target_of items tree body node) (naming without_place p) left_of (length given) W
      so = walks left_of p (watching_laws items ty see) 0 node (target_of items tree body node) (λ n block next v. refl)
          holds.ranked (length given) (suc (length given)) (omega arith)

  pub path_in_run : (path : List ℕ) (given : List Bool) → IsPath items body path given → (m : M) →
      Bad (whole_seen path m) → EndsBad (run (slice_get (local_tys items tree)) given m)
  path_in_run path given is m b =
      subst (λ (tys : List TyId). EndsBad (run (slice_get tys) given m)) holds.locals (in_run path given is m b)
