-- A walk that is given the choices of a path goes where the path goes: out of a block by the way that the path
-- takes, and
-- past the entry to the next one. So what a watch sees of the path it sees of the walk.
use Rattle.std.proofs.Common.{◌≡◌, ◌⊎◌, inl, inr, ℕ, ◌==◌, ◌||◌, Bool, true, false, List, [], ◌∷◌, ◌++◌, flat_map, if◌then◌else◌, slice_get, Contains, refl, sym, ap, subst, ◌∙◌, arith}
use Rattle.std.specs.Prelude.{nat_eq}
use Rattle.std.proofs.lemmas.Bool.{eqb-true, eq-eqb}
use Rattle.std.proofs.lemmas.List.{append-nil}
use Rattle.std.proofs.lemmas.List.Elements.{Contains-append_cases}
use Rattle.mir_ty.specs.ItemTable.{ItemTable}
use Rattle.store_model.specs.Effects as effects
use Rattle.store_model.specs.Effects.{Action, Mode, Normal, Unwinding, Halt, Infeasible, Unreachable, Out, Go, Unwind as Unwinds, Halts, Effects, halting_if}
use Rattle.store_model.specs.Places.TypeForms.{is_never}
use Rattle.cfg_graph.specs.declared.graph.Body.{Body}
use Rattle.cfg_graph.specs.declared.terminator.Term.{Term}
use Rattle.cfg_graph.specs.declared.terminator.Unwind.{Unwind}
use Rattle.cfg_graph.specs.Edges.{ToBlock, onward, unwind_targets, unwind_block, unwind_exit}
use Rattle.cfg_graph.specs.Moves.Paths.{ways, choices_to, needs_dropping}
use Rattle.cfg_graph.specs.Places.{place_id, ty_of_place}
use Rattle.cfg_graph.specs.Uses.{term_uses}
use Rattle.cfg_meaning.specs.Actions.{site_of, operand_of, operands_of, mode_of}
use Rattle.cfg_meaning.specs.Walk.{Next, branch, renamed, renamed_choice, naming, unwinding, acts, term_does}
use Rattle.move_errors.proofs.Sorted.{none-in, first-or}
use Rattle.lower_ready.proofs.Noting.{Note, Sees, is_call, before, stored, Watched, choice, chosen, unwound, looked, drops_by, watching}
use Rattle.lower_ready.proofs.PathWatch.{as_notes, both_are, calls, between}

-- ---- members of short lists

only_one : {X : Type 0} (x y : X) → Contains (x ∷ []) y → x ≡ y
only_one x y has = elim (first-or y x [] has) [ inl same ↦ same | inr later ↦ absurd (none-in y later) ]

of_one : {X : Type 0} (xs : List X) (y : X) → Contains (xs ++ []) y → Contains xs y
of_one xs y has = subst (λ (z : List _). Contains z y) (append-nil xs) has

of_two : {X : Type 0} (xs ys : List X) (z : X) → Contains (xs ++ (ys ++ [])) z → Contains xs z ⊎ Contains ys z
of_two xs ys z has = elim (Contains-append_cases xs (ys ++ []) z has) [ inl a ↦ inl a | inr b ↦ inr (of_one ys z b) ]

self_eq : (k b : ℕ) → b ≡ k → (nat_eq k b || false) ≡ true
self_eq k b e = ap (λ (c : Bool). c || false) (eq-eqb k b (sym e))

-- a terminator other than a call that would make a value of type `!`
abbrev pub makes_never : ItemTable → Body → Term → Bool
makes_never items body (Term.Math to op left right next unwind) = is_never (ty_of_place items body.locals to)
makes_never items body (Term.Negate to of next unwind) = is_never (ty_of_place items body.locals to)
makes_never items body (Term.Ask to next unwind) = is_never (ty_of_place items body.locals to)
makes_never items body term = false

module _ {M : Type 0} (items : ItemTable) (body : Body) (see : Sees M) (Bad : M → Type 0)
    (none_seen : (m : M) → see false [] m ≡ m) (name : Halt → Halt) (Walk : Next (Watched M)) where
  abbrev p : Effects (Watched M)
  p = watching items (slice_get body.locals) see

  abbrev pub q : Effects (Watched M)
  q = naming name p

  abbrev pub EndsBad : Out (Watched M) → Type 0
  EndsBad (Go w) = Bad w.seen
  EndsBad (Unwinds w) = Bad w.seen
  EndsBad (Halts halt w) = Bad w.seen

  -- what is to hold of the walk from the next block on
  abbrev pub Ahead : ℕ → List Bool → M → Type 0
  Ahead k rest m = (v : Watched M) → v.seen ≡ m → v.choices ≡ rest → EndsBad (Walk k v)

  -- ---- the choices of ways

  to_there : (choices : List Bool) (b k : ℕ) (given : List Bool) →
      Contains (choices_to items body k (record { choices = choices; exit = ToBlock b })) given →
      (b ≡ k) × (choices ≡ given)
  to_there choices b k given = by (b == k) refl
    where
      by : (c : Bool) → (b == k) ≡ c → Contains (if c then choices ∷ [] else []) given → (b ≡ k) × (choices ≡ given)
      by true e has = (eqb-true b k e, only_one choices given has)
      by false e has = absurd (none-in given has)

  to_unwind : (choices : List Bool) (u : Unwind) (k : ℕ) (given : List Bool) →
      Contains (choices_to items body k (record { choices = choices; exit = unwind_exit u })) given →
      (u ≡ Unwind.Block k) × (choices ≡ given)
  to_unwind choices (Unwind.Block b) k given has =
      let t = to_there choices b k given has in (ap Unwind.Block t.0, t.1)
  to_unwind choices Unwind.Resume k given has = absurd (none-in given has)
  to_unwind choices Unwind.Abort k given has = absurd (none-in given has)

  abbrev Forward : Bool → ℕ → ℕ → List Bool → Type 0
  Forward never to k given =
      Contains (choices_to items body k (record { choices = false ∷ []; exit = ToBlock to })) given × (never ≡ false)

  abbrev Backward : Unwind → ℕ → List Bool → Type 0
  Backward u k given = Contains (choices_to items body k (record { choices = true ∷ []; exit = unwind_exit u })) given

  abbrev Apart : ℕ → Unwind → ℕ → Type 0
  Apart to u k = to ≡ k → u ≡ Unwind.Block k → ⊥

  not_both : (to k : ℕ) (u : Unwind) → (Contains (to ∷ []) k → Contains (unwind_block u ++ []) k → ⊥) → Apart to u k
  not_both to k u f e d =
      f (subst (λ (z : ℕ). Contains (z ∷ []) k) (sym e) (0, omega arith, refl))
      (subst (λ (z : Unwind). Contains (unwind_block z ++ []) k) (sym d) (0, omega arith, refl))

  same_choices : (list given taken rest : List Bool) → list ≡ given ++ rest → taken ≡ given → list ≡ taken ++ rest
  same_choices list given taken rest e d = e ∙ ap (λ (z : List Bool). z ++ rest) (sym d)

  no_store : (c : Bool) (m : M) → (if c then see false [] m else m) ≡ m
  no_store true m = none_seen m
  no_store false m = refl

  -- ---- effects

  forward : (s : M) (stores : List Note) (list rest : List Bool) → list ≡ false ∷ rest → (never : Bool) →
      never ≡ false →
      (k : ℕ) (u : Unwind) → Ahead k rest (see false stores s) →
      EndsBad (acts (renamed name (halting_if never Unreachable
      (choice list s (λ v. Go (looked items (slice_get body.locals) see stores v)) Unwinds))) Walk k u)
  forward s stores list rest e never f k u ahead =
      subst (λ (l : List Bool). EndsBad (acts (renamed name (halting_if never Unreachable
      (choice l s (λ v. Go (looked items (slice_get body.locals) see stores v)) Unwinds))) Walk k u)) (sym e)
      (subst (λ (x : Bool). EndsBad (acts (renamed name (halting_if x Unreachable
      (choice (false ∷ rest) s (λ v. Go (looked items (slice_get body.locals) see stores v)) Unwinds))) Walk k u))
      (sym f)
      (ahead (record { seen = see false stores s; choices = rest }) refl refl))

  backward : (s : M) (goes : Watched M → Out (Watched M)) (list rest : List Bool) → list ≡ true ∷ rest →
      (never : Bool) →
      (to k : ℕ) (u : Unwind) → u ≡ Unwind.Block k → Ahead k rest s →
      EndsBad (acts (renamed name (halting_if never Unreachable (choice list s goes Unwinds))) Walk to u)
  backward s goes list rest e never to k u d ahead =
      subst (λ (l : List Bool). EndsBad (acts (renamed name (halting_if never Unreachable (choice l s goes Unwinds)))
      Walk to u))
      (sym e)
      (subst (λ (z : Unwind). EndsBad (acts (renamed name (halting_if never Unreachable
      (choice (true ∷ rest) s goes Unwinds))) Walk to z))
      (sym d) (by never))
    where
      by : (never : Bool) → EndsBad (acts (renamed name (halting_if never Unreachable
          (choice (true ∷ rest) s goes Unwinds))) Walk to (Unwind.Block k))
      by true = ahead (record { seen = s; choices = rest }) refl refl
      by false = ahead (record { seen = s; choices = rest }) refl refl

  acts_way : (a : Action) (never : Bool) (to : ℕ) (u : Unwind) (uses : List Note) (k : ℕ) (given rest : List Bool)
      (w : Watched M) → before a ≡ uses → Forward never to k given ⊎ Backward u k given → Apart to u k →
      w.choices ≡ given ++ rest →
      Ahead k rest (if (nat_eq k to || false) then see false (stored a) (see (is_call a) uses w.seen) else see
      (is_call a) uses w.seen) →
      EndsBad (acts (renamed name (halting_if never Unreachable (choice w.choices (see (is_call a) (before a) w.seen)
      (λ v. Go (looked items (slice_get body.locals) see (stored a) v)) Unwinds))) Walk to u)
  acts_way a never to u uses k given rest w is (inl f) apart e ahead =
      let t = to_there (false ∷ []) to k given f.0 in
      subst (λ (z : ℕ). EndsBad (acts (renamed name (halting_if never Unreachable
      (choice w.choices (see (is_call a) (before a) w.seen)
      (λ v. Go (looked items (slice_get body.locals) see (stored a) v)) Unwinds))) Walk z u)) (sym t.0)
      (forward (see (is_call a) (before a) w.seen) (stored a) w.choices rest
      (same_choices w.choices given (false ∷ []) rest e t.1) never f.1 k u
      (λ v seen left. ahead v
      (seen ∙ ap (λ (z : List Note). see false (stored a) (see (is_call a) z w.seen)) is
      ∙ sym (ap (λ (c : Bool). if c then see false (stored a) (see (is_call a) uses w.seen) else see
      (is_call a) uses w.seen) (self_eq k to t.0)))
      left))
  acts_way a never to u uses k given rest w is (inr b) apart e ahead =
      let t = to_unwind (true ∷ []) u k given b in
      backward (see (is_call a) (before a) w.seen) (λ v. Go (looked items (slice_get body.locals) see
      (stored a) v)) w.choices rest
      (same_choices w.choices given (true ∷ []) rest e t.1) never to k u t.0
      (λ v seen left. ahead v (seen ∙ ap (λ (z : List Note). see (is_call a) z w.seen) is ∙ sym (other
      (nat_eq k to) refl t.0))
      left)
    where
      other : (c : Bool) → nat_eq k to ≡ c → u ≡ Unwind.Block k →
          (if (c || false) then see false (stored a) (see (is_call a) uses w.seen) else see
          (is_call a) uses w.seen) ≡ see (is_call a) uses w.seen
      other true f d = absurd (apart (sym (eqb-true k to f)) d)
      other false f d = refl

  -- a call whose result is of type `!` never returns
  call_ways : (never : Bool) (to : ℕ) (u : Unwind) (k : ℕ) (given : List Bool) →
      Contains (flat_map (choices_to items body k)
      (if never then record { choices = true ∷ []; exit = unwind_exit u } ∷ []
      else record { choices = false ∷ []; exit = ToBlock to } ∷ record { choices = true ∷ []; exit = unwind_exit u }
      ∷ [])) given →
      Forward never to k given ⊎ Backward u k given
  call_ways true to u k given has =
      inr (of_one (choices_to items body k (record { choices = true ∷ []; exit = unwind_exit u })) given has)
  call_ways false to u k given has = elim (of_two
      (choices_to items body k (record { choices = false ∷ []; exit = ToBlock to }))
      (choices_to items body k (record { choices = true ∷ []; exit = unwind_exit u })) given has) [
        | inl a ↦ inl (a, refl)
        | inr b ↦ inr b
      ]

  plain_ways : (never : Bool) → never ≡ false → (to : ℕ) (u : Unwind) (k : ℕ) (given : List Bool) →
      Contains (flat_map (choices_to items body k)
      (record { choices = false ∷ []; exit = ToBlock to } ∷ record { choices = true ∷ []; exit = unwind_exit u } ∷
      [])) given →
      Forward never to k given ⊎ Backward u k given
  plain_ways never f to u k given has = elim (of_two
      (choices_to items body k (record { choices = false ∷ []; exit = ToBlock to }))
      (choices_to items body k (record { choices = true ∷ []; exit = unwind_exit u })) given has) [
        | inl a ↦ inl (a, f)
        | inr b ↦ inr b
      ]

  -- a condition: 0 for `no`
  chosen_way : (s : M) (y n k : ℕ) (given list rest : List Bool) →
      Contains (flat_map (choices_to items body k)
      (record { choices = false ∷ []; exit = ToBlock n } ∷ record { choices = true ∷ []; exit = ToBlock y } ∷ []))
      given →
      list ≡ given ++ rest → Ahead k rest s → EndsBad (branch (renamed_choice name (chosen list s)) (Walk y) (Walk n))
  chosen_way s y n k given list rest has e ahead = elim (of_two
      (choices_to items body k (record { choices = false ∷ []; exit = ToBlock n }))
      (choices_to items body k (record { choices = true ∷ []; exit = ToBlock y })) given has) [
        | inl a ↦
            let t = to_there (false ∷ []) n k given a in
            subst (λ (l : List Bool). EndsBad (branch (renamed_choice name (chosen l s)) (Walk y) (Walk n)))
            (sym (same_choices list given (false ∷ []) rest e t.1))
            (subst (λ (z : ℕ). EndsBad (Walk z (record { seen = s; choices = rest }))) (sym t.0)
            (ahead (record { seen = s; choices = rest }) refl refl))
        | inr b ↦
            let t = to_there (true ∷ []) y k given b in
            subst (λ (l : List Bool). EndsBad (branch (renamed_choice name (chosen l s)) (Walk y) (Walk n)))
            (sym (same_choices list given (true ∷ []) rest e t.1))
            (subst (λ (z : ℕ). EndsBad (Walk z (record { seen = s; choices = rest }))) (sym t.0)
            (ahead (record { seen = s; choices = rest }) refl refl))
      ]

  -- a drop: what needs no dropping does not panic
  drop_way : (needs : Bool) (s : M) (to : ℕ) (u : Unwind) (k : ℕ) (given list rest : List Bool) →
      Contains (flat_map (choices_to items body k)
      (if needs then record { choices = false ∷ []; exit = ToBlock to } ∷ record
      { choices = true ∷ []; exit = unwind_exit u } ∷ []
      else record { choices = []; exit = ToBlock to } ∷ [])) given →
      list ≡ given ++ rest → Ahead k rest s →
      EndsBad (acts (renamed name (drops_by items (slice_get body.locals) see needs (mode_of u)
      (record { seen = s; choices = list }))) Walk to u)
  drop_way true s to u k given list rest has e ahead = elim (of_two
      (choices_to items body k (record { choices = false ∷ []; exit = ToBlock to }))
      (choices_to items body k (record { choices = true ∷ []; exit = unwind_exit u })) given has) [
        | inl a ↦
            let t = to_there (false ∷ []) to k given a in
            subst (λ (l : List Bool). EndsBad (acts (renamed name (choice l s Go (unwound (mode_of u)))) Walk to u))
            (sym (same_choices list given (false ∷ []) rest e t.1))
            (subst (λ (z : ℕ). EndsBad (Walk z (record { seen = s; choices = rest }))) (sym t.0)
            (ahead (record { seen = s; choices = rest }) refl refl))
        | inr b ↦
            let t = to_unwind (true ∷ []) u k given b in
            subst (λ (l : List Bool). EndsBad (acts (renamed name (choice l s Go (unwound (mode_of u)))) Walk to u))
            (sym (same_choices list given (true ∷ []) rest e t.1))
            (subst (λ (z : Unwind). EndsBad (acts (renamed name (choice (true ∷ rest) s Go (unwound (mode_of z))))
            Walk to z)) (sym t.0)
            (ahead (record { seen = s; choices = rest }) refl refl))
      ]
  drop_way false s to u k given list rest has e ahead =
      let t = to_there [] to k given
      (of_one (choices_to items body k (record { choices = []; exit = ToBlock to })) given has) in
      subst (λ (z : ℕ). EndsBad (Walk z (record { seen = s; choices = list }))) (sym t.0)
      (ahead (record { seen = s; choices = list }) refl (same_choices list given [] rest e t.1))

  -- a way to one block
  pub goto_way : (b k : ℕ) (given : List Bool) →
      Contains (flat_map (choices_to items body k) (ways items body (Term.Goto b))) given → b ≡ k
  goto_way b k given has =
      (to_there [] b k given (of_one (choices_to items body k (record { choices = []; exit = ToBlock b })) given has)).0

  pub goto_seen : (b k : ℕ) (m : M) → between see (Term.Goto b) k (see (calls (Term.Goto b)) (as_notes (term_uses
      (Term.Goto b))) m) ≡ m
  goto_seen b k m = no_store (nat_eq k b || false) (see false [] m) ∙ none_seen m

  -- ---- terminators

  pub term_way : (n : ℕ) (term : Term) (k : ℕ) (given rest : List Bool) →
      Contains (flat_map (choices_to items body k) (ways items body term)) given → makes_never items body term ≡ false →
      (Contains (onward term) k → Contains (unwind_targets term) k → ⊥) → (w : Watched M) → w.choices ≡ given ++ rest →
      Ahead k rest (between see term k (see (calls term) (as_notes (term_uses term)) w.seen)) → EndsBad
      (term_does q n term Walk w)
  term_way n (Term.Goto b) k given rest has never apart w e ahead =
      let t = to_there [] b k given (of_one (choices_to items body k (record { choices = []; exit = ToBlock b }))
      given has) in
      subst (λ (z : ℕ). EndsBad (Walk z w)) (sym t.0)
      (ahead w (sym (no_store (nat_eq k b || false) (see false [] w.seen) ∙ none_seen w.seen))
      (same_choices w.choices given [] rest e t.1))
  term_way n (Term.If on y z) k given rest has never apart w e ahead =
      chosen_way _ y z k given w.choices rest has e
      (λ v seen left. ahead v (seen ∙ ap (λ (ns : List Note). see false ns w.seen) (both_are n (on ∷ []) [])
      ∙ sym (no_store (nat_eq k z || (nat_eq k y || false)) (see (calls (Term.If on y z)) (as_notes (term_uses
      (Term.If on y z))) w.seen))) left)
  term_way n (Term.Case on variant y z) k given rest has never apart w e ahead =
      chosen_way _ y z k given w.choices rest has e
      (λ v seen left. ahead v (seen
      ∙ sym (no_store (nat_eq k z || (nat_eq k y || false)) (see (calls (Term.Case on variant y z)) (as_notes
      (term_uses (Term.Case on variant y z)))
      w.seen))) left)
  term_way n (Term.Math to op l r next u) k given rest has never apart w e ahead =
      acts_way (effects.Compute (site_of n to) op (operand_of n l) (operand_of n r))
      (is_never (ty_of_place items body.locals to)) next u
      (as_notes (term_uses (Term.Math to op l r next u))) k given rest w (both_are n (l ∷ r ∷ []) [])
      (plain_ways _ never next u k given has) (not_both next k u apart) e ahead
  term_way n (Term.Negate to x next u) k given rest has never apart w e ahead =
      acts_way (effects.Negate (site_of n to) (operand_of n x)) (is_never (ty_of_place items body.locals to)) next u
      (as_notes (term_uses (Term.Negate to x next u))) k given rest w (both_are n (x ∷ []) [])
      (plain_ways _ never next u k given has) (not_both next k u apart) e ahead
  term_way n (Term.Bounds x count next u) k given rest has never apart w e ahead =
      acts_way (effects.Bounds (operand_of n x) count) false next u
      (as_notes (term_uses (Term.Bounds x count next u))) k given rest w (both_are n (x ∷ []) [])
      (plain_ways false refl next u k given has) (not_both next k u apart) e ahead
  term_way n (Term.Call to f args next u) k given rest has never apart w e ahead =
      acts_way (effects.Call (site_of n to) f (operands_of n args)) (is_never (ty_of_place items body.locals to)) next u
      (as_notes (term_uses (Term.Call to f args next u))) k given rest w (both_are n args [])
      (call_ways (is_never (ty_of_place items body.locals to)) next u k given has) (not_both next k u apart) e ahead
  term_way n (Term.Virtual to trait_no method args next u) k given rest has never apart w e ahead =
      acts_way (effects.CallVirtual (site_of n to) trait_no method (operands_of n args))
      (is_never (ty_of_place items body.locals to)) next u
      (as_notes (term_uses (Term.Virtual to trait_no method args next u))) k given rest w (both_are n args [])
      (call_ways (is_never (ty_of_place items body.locals to)) next u k given has) (not_both next k u apart) e ahead
  term_way n (Term.Ask to next u) k given rest has never apart w e ahead =
      acts_way (effects.Ask (site_of n to)) (is_never (ty_of_place items body.locals to)) next u
      (as_notes (term_uses (Term.Ask to next u))) k given rest w refl
      (plain_ways _ never next u k given has) (not_both next k u apart) e ahead
  term_way n (Term.DropAt place next u) k given rest has never apart w e ahead =
      drop_way (needs_dropping items (place_id items body.locals place))
      (see (calls (Term.DropAt place next u)) (as_notes (term_uses (Term.DropAt place next u))) w.seen)
      next u k given w.choices rest has e
      (λ v seen left. ahead v (seen
      ∙ sym (no_store (nat_eq k next || false) (see (calls (Term.DropAt place next u)) (as_notes (term_uses
      (Term.DropAt place next u))) w.seen))) left)
  term_way n (Term.Panic why u) k given rest has never apart w e ahead =
      let t = to_unwind [] u k given (of_one (choices_to items body k
      (record { choices = []; exit = unwind_exit u })) given has) in
      subst (λ (z : Unwind). EndsBad (unwinding z Walk w)) (sym t.0)
      (ahead w (sym (none_seen w.seen)) (same_choices w.choices given [] rest e t.1))
  term_way n Term.Return k given rest has never apart w e ahead = absurd (none-in given has)
  term_way n Term.Resume k given rest has never apart w e ahead = absurd (none-in given has)
