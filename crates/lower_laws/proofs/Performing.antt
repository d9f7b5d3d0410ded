-- Actions in a free walk, one after another: where none is bad, what is present after them is told as it is on a path.
use Rattle.std.proofs.Common.{◌≡◌, ℕ, zero, suc, ◌<◌, ◌≤◌, Bool, true, false, not, ◌&&◌, ◌||◌, if◌then◌else◌, List, [], ◌∷◌, ◌++◌, ◌+◌, Option, Some, None, nat_lt, slice_get, refl, sym, ap, subst, ◌∙◌, arith}
use Rattle.std.specs.Prelude.{◌==◌, nat_le}
use Rattle.std.specs.List.{list_any, range_with_len}
use Rattle.std.proofs.lemmas.Bool.{false≢true, ltb-true, ltb-false, leb-true, leb-false, eqb-true, eq-eqb}
use Rattle.std.proofs.lemmas.Option.{none-some}
use Rattle.std.proofs.lemmas.List.{append-nil, append_assoc}
use Rattle.std.proofs.lemmas.List.Folds.{list_any-append}
use Rattle.mir_ty.specs.declared.ty.TyId.{TyId}
use Rattle.mir_ty.specs.ItemTable.{ItemTable}
use Rattle.store_model.specs.Effects.{Halt, Unreachable, Out, Go, Unwind, Halts}
use Rattle.store_model.specs.Places.Place.{Step, Place, Watched, Whole, ThroughReference, ByElement, watched}
use Rattle.store_model.specs.Abstract.Presence.{Presence, is_present, is_gone, after_action}
use Rattle.store_model.specs.Abstract.Effects.{AbstractState, presence, with_presence, params_present, at_start, when}
use Rattle.cfg_graph.specs.declared.graph.Body.{Body}
use Rattle.cfg_graph.specs.Moves.Gone.{PathAction, leaves_gone, counts}
use Rattle.cfg_graph.specs.Moves.Present.{changed_by, present_by, present_from, present_at_start, present_after}
use Rattle.cfg_graph.specs.Moves.BadUses.{BadUse}
use Rattle.move_errors.specs.Reaches.{rule_of, is_bad, first_bad}
use Rattle.lower_laws.specs.Given.{choices_left}
use Rattle.lower_laws.specs.Meets.{site_of, halt_by, halt_of, is_refused, ends_runs, before_bad}
use Rattle.lower_laws.proofs.Watching.{Seen, whole, reference, element, seen}
use Rattle.lower_laws.proofs.Allowing.{allowed, is-allowed}

-- The presence of one local, after a change of another or of it.

ne_eqb-above : (local a : ℕ) → (local == a) ≡ false → a ≤ local → a < local
ne_eqb-above local a e l = by (nat_lt a local) refl
  where
    by : (b : Bool) → nat_lt a local ≡ b → a < local
    by true h = ltb-true a local h
    by false h = absurd (false≢true (sym e ∙ eq-eqb local a (let k = ltb-false a local h in omega (k, l, arith))))

swapped : (n m : ℕ) → (n == m) ≡ (m == n)
swapped n m = by (n == m) refl (m == n) refl
  where
    by : (a : Bool) → (n == m) ≡ a → (b : Bool) → (m == n) ≡ b → a ≡ b
    by true h true k = refl
    by false h false k = refl
    by true h false k = absurd (false≢true (sym k ∙ eq-eqb m n (sym (eqb-true n m h))))
    by false h true k = absurd (false≢true (sym h ∙ eq-eqb n m (sym (eqb-true m n k))))

presence-changed : (local key : ℕ) (change : Presence → Presence) (cells : List (ℕ × Presence))
    → presence local (with_presence key change cells) ≡ (if key == local then change (presence local cells) else presence local cells)
presence-changed local key change [] = ap (λ (z : Bool). if z then change is_gone else is_gone) (swapped local key)
presence-changed local key change (c ∷ cells) = by (key == c.0) refl (local == c.0) refl (key == local) refl (presence-changed local key change cells)
  where
    by : (a : Bool) → (key == c.0) ≡ a → (b : Bool) → (local == c.0) ≡ b → (k : Bool) → (key == local) ≡ k
        → presence local (with_presence key change cells) ≡ (if k then change (presence local cells) else presence local cells)
        → presence local (if a then (key, change c.1) ∷ cells else c ∷ with_presence key change cells)
        ≡ (if k then change (if b then c.1 else presence local cells) else if b then c.1 else presence local cells)
    by true a true b true k later = ap (λ (z : Bool). if z then change c.1 else presence local cells) (swapped local key ∙ k)
    by true a false b false k later = ap (λ (z : Bool). if z then change c.1 else presence local cells) (swapped local key ∙ k)
    by true a true b false k later = absurd (false≢true (sym k ∙ eq-eqb key local (eqb-true key c.0 a ∙ sym (eqb-true local c.0 b))))
    by true a false b true k later = absurd (false≢true (sym b ∙ eq-eqb local c.0 (sym (eqb-true key local k) ∙ eqb-true key c.0 a)))
    by false a true b true k later = absurd (false≢true (sym a ∙ eq-eqb key c.0 (eqb-true key local k ∙ eqb-true local c.0 b)))
    by false a true b false k later = ap (λ (z : Bool). if z then c.1 else presence local (with_presence key change cells)) b
    by false a false b true k later = ap (λ (z : Bool). if z then c.1 else presence local (with_presence key change cells)) b ∙ later
    by false a false b false k later = ap (λ (z : Bool). if z then c.1 else presence local (with_presence key change cells)) b ∙ later

-- What is present of the parameters as a walk begins.

param-within : (a n local : ℕ) → a ≤ local → local < a + n → presence local (params_present (range_with_len a n)) ≡ is_present
param-within a zero local l h = absurd (let never : ⊥ = omega (l, h, arith) in never)
param-within a (suc n) local l h = by (local == a) refl (param-within (a + 1) n local)
  where
    by : (b : Bool) → (local == a) ≡ b → (a + 1 ≤ local → local < a + 1 + n → presence local (params_present (range_with_len (a + 1) n)) ≡ is_present)
        → (if b then is_present else presence local (params_present (range_with_len (a + 1) n))) ≡ is_present
    by true e later = refl
    by false e later = later (let k = ne_eqb-above local a e l in omega (k, arith)) (omega (h, arith))

param-before : (a n local : ℕ) → local < a → presence local (params_present (range_with_len a n)) ≡ is_gone
param-before a zero local l = refl
param-before a (suc n) local l = by (local == a) refl (param-before (a + 1) n local (omega (l, arith)))
  where
    by : (b : Bool) → (local == a) ≡ b → presence local (params_present (range_with_len (a + 1) n)) ≡ is_gone
        → (if b then is_present else presence local (params_present (range_with_len (a + 1) n))) ≡ is_gone
    by true e later = absurd (let k = eqb-true local a e in let never : ⊥ = omega (k, l, arith) in never)
    by false e later = later

param-behind : (a n local : ℕ) → a + n ≤ local → presence local (params_present (range_with_len a n)) ≡ is_gone
param-behind a zero local l = refl
param-behind a (suc n) local l = by (local == a) refl (param-behind (a + 1) n local (omega (l, arith)))
  where
    by : (b : Bool) → (local == a) ≡ b → presence local (params_present (range_with_len (a + 1) n)) ≡ is_gone
        → (if b then is_present else presence local (params_present (range_with_len (a + 1) n))) ≡ is_gone
    by true e later = absurd (let k = eqb-true local a e in let never : ⊥ = omega (k, l, arith) in never)
    by false e later = later

params-start : (n local : ℕ) → presence local (params_present (range_with_len 1 n)) ≡ (if nat_lt 0 local && nat_le local n then is_present else is_gone)
params-start n local = by (nat_lt 0 local) refl (nat_le local n) refl
  where
    by : (a : Bool) → nat_lt 0 local ≡ a → (b : Bool) → nat_le local n ≡ b
        → presence local (params_present (range_with_len 1 n)) ≡ (if a && b then is_present else is_gone)
    by false e b h = param-before 1 n local (let k = ltb-false 0 local e in omega (k, arith))
    by true e true h = param-within 1 n local (let k = ltb-true 0 local e in omega (k, arith)) (let k = leb-true local n h in omega (k, arith))
    by true e false h = param-behind 1 n local (let k = leb-false local n h in omega (k, arith))

module _ (items : ItemTable) (body : Body) where
  -- the cells of a walk tell what is present after actions of a path
  abbrev pub Tells : AbstractState → List PathAction → Type 0
  Tells w actions = (local : ℕ) → presence local w.cells ≡ present_after items body actions local

  present-more : (local : ℕ) (xs : List PathAction) (a : PathAction) (p : Presence)
      → present_from items body local (xs ++ a ∷ []) p ≡ present_by items body local a (present_from items body local xs p)
  present-more local [] a p = refl
  present-more local (x ∷ xs) a p = present-more local xs a (present_by items body local x p)

  abbrev pub watched_of : Place → Watched
  watched_of place = watched items (slice_get body.locals place.local) place.steps

  -- the whole local after something was taken or stored, where it counts
  abbrev acted : Bool → Watched → Presence → Presence
  acted takes w p = elim w.reach [ Whole ↦ after_action takes w.steps p | ThroughReference ↦ p | ByElement ↦ p ]

  abbrev reaches_whole : Watched → Bool
  reaches_whole w = elim w.reach [ Whole ↦ true | ThroughReference ↦ false | ByElement ↦ false ]

  acted-counts : (takes : Bool) (id : Option TyId) (steps : List Step) (w : Watched) → Seen items id steps w → (p : Presence)
      → acted takes w p ≡ (if reaches_whole w then after_action takes steps p else p)
  acted-counts takes id steps _ (whole none) p = refl
  acted-counts takes id steps _ (reference upto more is not_whole array) p = refl
  acted-counts takes id steps _ (element upto more i is not_whole array has) p = refl

  -- what an action leaves
  abbrev changed : Option Bool → PathAction → AbstractState → AbstractState
  changed None a w = w
  changed (Some takes) a w = record w { cells = with_presence a.place.local (acted takes (watched_of a.place)) w.cells }

  abbrev pub left_by : PathAction → AbstractState → AbstractState
  left_by a w = changed (leaves_gone a.how) a w

  pub left-tells : (a : PathAction) (w : AbstractState) (done : List PathAction) → Tells w done → Tells (left_by a w) (done ++ a ∷ [])
  left-tells a w done tells local = by (leaves_gone a.how) refl ∙ sym (present-more local done a (present_at_start items body local))
    where
      before : Presence
      before = present_after items body done local

      by : (left : Option Bool) → leaves_gone a.how ≡ left → presence local (changed left a w).cells
          ≡ (if counts items body a.place && (a.place.local == local) then changed_by (leaves_gone a.how) a.place.steps before else before)
      by None e =
          tells local ∙ same (counts items body a.place && (a.place.local == local))
          ∙ ap (λ (z : Option Bool). if counts items body a.place && (a.place.local == local) then changed_by z a.place.steps before else before) (sym e)
        where
          same : (b : Bool) → before ≡ (if b then before else before)
          same true = refl
          same false = refl
      by (Some takes) e =
          presence-changed local a.place.local (acted takes (watched_of a.place)) w.cells
          ∙ (λ i. if a.place.local == local
          then acted-counts takes (slice_get body.locals a.place.local) a.place.steps (watched_of a.place) (seen items (slice_get body.locals a.place.local) a.place.steps) (tells local i) i
          else tells local i)
          ∙ swap (a.place.local == local) (counts items body a.place)
          ∙ ap (λ (z : Option Bool). if counts items body a.place && (a.place.local == local) then changed_by z a.place.steps before else before) (sym e)
        where
          swap : (l c : Bool) → (if l then (if c then after_action takes a.place.steps before else before) else before) ≡ (if c && l then after_action takes a.place.steps before else before)
          swap true true = refl
          swap true false = refl
          swap false true = refl
          swap false false = refl

  pub left-choices : (a : PathAction) (w : AbstractState) → (left_by a w).choices ≡ w.choices
  left-choices a w = by (leaves_gone a.how)
    where
      by : (left : Option Bool) → (changed left a w).choices ≡ w.choices
      by None = refl
      by (Some takes) = refl

  pub start-tells : (list : List Bool) → Tells (at_start (range_with_len 1 body.params) list) []
  start-tells list local = params-start body.params local

  -- Lists of actions, the first bad one, and those before it.

  pub none-first : (done xs ys : List PathAction) → first_bad items body done (xs ++ ys) ≡ None → first_bad items body done xs ≡ None
  none-first done [] ys h = refl
  none-first done (a ∷ xs) ys h = by (is_bad items body done a a.how) (none-first (done ++ a ∷ []) xs ys) h
    where
      by : (b : Bool) → (first_bad items body (done ++ a ∷ []) (xs ++ ys) ≡ None → first_bad items body (done ++ a ∷ []) xs ≡ None)
          → (if b then Some (record { rule = rule_of a.how; action = a }) else first_bad items body (done ++ a ∷ []) (xs ++ ys)) ≡ None
          → (if b then Some (record { rule = rule_of a.how; action = a }) else first_bad items body (done ++ a ∷ []) xs) ≡ None
      by true later h = absurd (none-some (record { rule = rule_of a.how; action = a }) (sym h))
      by false later h = later h

  pub none-rest : (done xs ys : List PathAction) → first_bad items body done (xs ++ ys) ≡ None → first_bad items body (done ++ xs) ys ≡ None
  none-rest done [] ys h = ap (λ (z : List PathAction). first_bad items body z ys) (append-nil done) ∙ h
  none-rest done (a ∷ xs) ys h = by (is_bad items body done a a.how) (none-rest (done ++ a ∷ []) xs ys) h
    where
      by : (b : Bool) → (first_bad items body (done ++ a ∷ []) (xs ++ ys) ≡ None → first_bad items body ((done ++ a ∷ []) ++ xs) ys ≡ None)
          → (if b then Some (record { rule = rule_of a.how; action = a }) else first_bad items body (done ++ a ∷ []) (xs ++ ys)) ≡ None
          → first_bad items body (done ++ a ∷ xs) ys ≡ None
      by true later h = absurd (none-some (record { rule = rule_of a.how; action = a }) (sym h))
      by false later h = ap (λ (z : List PathAction). first_bad items body z ys) (sym (append_assoc done (a ∷ []) xs)) ∙ later h

  pub before-none : (done xs : List PathAction) → first_bad items body done xs ≡ None → before_bad items body done xs ≡ xs
  before-none done [] h = refl
  before-none done (a ∷ xs) h = by (is_bad items body done a a.how) (before-none (done ++ a ∷ []) xs) h
    where
      by : (b : Bool) → (first_bad items body (done ++ a ∷ []) xs ≡ None → before_bad items body (done ++ a ∷ []) xs ≡ xs)
          → (if b then Some (record { rule = rule_of a.how; action = a }) else first_bad items body (done ++ a ∷ []) xs) ≡ None
          → (if b then [] else a ∷ before_bad items body (done ++ a ∷ []) xs) ≡ a ∷ xs
      by true later h = absurd (none-some (record { rule = rule_of a.how; action = a }) (sym h))
      by false later h = ap (λ (z : List PathAction). a ∷ z) (later h)

  pub before-append : (done xs ys : List PathAction) → first_bad items body done xs ≡ None
      → before_bad items body done (xs ++ ys) ≡ xs ++ before_bad items body (done ++ xs) ys
  before-append done [] ys h = ap (λ (z : List PathAction). before_bad items body z ys) (sym (append-nil done))
  before-append done (a ∷ xs) ys h = by (is_bad items body done a a.how) (before-append (done ++ a ∷ []) xs ys) h
    where
      by : (b : Bool) → (first_bad items body (done ++ a ∷ []) xs ≡ None → before_bad items body (done ++ a ∷ []) (xs ++ ys) ≡ xs ++ before_bad items body ((done ++ a ∷ []) ++ xs) ys)
          → (if b then Some (record { rule = rule_of a.how; action = a }) else first_bad items body (done ++ a ∷ []) xs) ≡ None
          → (if b then [] else a ∷ before_bad items body (done ++ a ∷ []) (xs ++ ys)) ≡ a ∷ (xs ++ before_bad items body (done ++ a ∷ xs) ys)
      by true later h = absurd (none-some (record { rule = rule_of a.how; action = a }) (sym h))
      by false later h = ap (λ (z : List PathAction). a ∷ z) (later h ∙ ap (λ (z : List PathAction). xs ++ before_bad items body z ys) (append_assoc done (a ∷ []) xs))

  pub some-rest : (done xs ys : List PathAction) → first_bad items body done xs ≡ None → first_bad items body done (xs ++ ys) ≡ first_bad items body (done ++ xs) ys
  some-rest done [] ys h = ap (λ (z : List PathAction). first_bad items body z ys) (sym (append-nil done))
  some-rest done (a ∷ xs) ys h = by (is_bad items body done a a.how) (some-rest (done ++ a ∷ []) xs ys) h
    where
      by : (b : Bool) → (first_bad items body (done ++ a ∷ []) xs ≡ None → first_bad items body (done ++ a ∷ []) (xs ++ ys) ≡ first_bad items body ((done ++ a ∷ []) ++ xs) ys)
          → (if b then Some (record { rule = rule_of a.how; action = a }) else first_bad items body (done ++ a ∷ []) xs) ≡ None
          → (if b then Some (record { rule = rule_of a.how; action = a }) else first_bad items body (done ++ a ∷ []) (xs ++ ys)) ≡ first_bad items body (done ++ a ∷ xs) ys
      by true later h = absurd (none-some (record { rule = rule_of a.how; action = a }) (sym h))
      by false later h = later h ∙ ap (λ (z : List PathAction). first_bad items body z ys) (append_assoc done (a ∷ []) xs)

  pub some-first : (done xs ys : List PathAction) (bad : BadUse) → first_bad items body done xs ≡ Some bad → first_bad items body done (xs ++ ys) ≡ Some bad
  some-first done [] ys bad h = absurd (none-some bad h)
  some-first done (a ∷ xs) ys bad h = by (is_bad items body done a a.how) (some-first (done ++ a ∷ []) xs ys bad) h
    where
      by : (b : Bool) → (first_bad items body (done ++ a ∷ []) xs ≡ Some bad → first_bad items body (done ++ a ∷ []) (xs ++ ys) ≡ Some bad)
          → (if b then Some (record { rule = rule_of a.how; action = a }) else first_bad items body (done ++ a ∷ []) xs) ≡ Some bad
          → (if b then Some (record { rule = rule_of a.how; action = a }) else first_bad items body (done ++ a ∷ []) (xs ++ ys)) ≡ Some bad
      by true later h = h
      by false later h = later h

  pub before-some : (done xs ys : List PathAction) (bad : BadUse) → first_bad items body done xs ≡ Some bad → before_bad items body done (xs ++ ys) ≡ before_bad items body done xs
  before-some done [] ys bad h = absurd (none-some bad h)
  before-some done (a ∷ xs) ys bad h = by (is_bad items body done a a.how) (before-some (done ++ a ∷ []) xs ys bad) h
    where
      by : (b : Bool) → (first_bad items body (done ++ a ∷ []) xs ≡ Some bad → before_bad items body (done ++ a ∷ []) (xs ++ ys) ≡ before_bad items body (done ++ a ∷ []) xs)
          → (if b then Some (record { rule = rule_of a.how; action = a }) else first_bad items body (done ++ a ∷ []) xs) ≡ Some bad
          → (if b then [] else a ∷ before_bad items body (done ++ a ∷ []) (xs ++ ys)) ≡ (if b then [] else a ∷ before_bad items body (done ++ a ∷ []) xs)
      by true later h = refl
      by false later h = ap (λ (z : List PathAction). a ∷ z) (later h)

  module _ (node : ℕ → ℕ → ℕ) where
    abbrev pub unless_ended : Bool → (AbstractState → Out AbstractState) → AbstractState → Out AbstractState
    unless_ended true next w = Halts Unreachable w
    unless_ended false next w = next w

    -- actions in turn, each where it may be done
    abbrev pub perform : List PathAction → (AbstractState → Out AbstractState) → AbstractState → Out AbstractState
    perform [] next w = next w
    perform (a ∷ acts) next w =
        when (allowed a.how (watched_of a.place) (presence a.place.local w.cells)) (halt_by (rule_of a.how) (site_of node a))
        (λ w. unless_ended (ends_runs items body a) (perform acts next) (left_by a w)) w

    pub perform-append : (xs ys : List PathAction) (next : AbstractState → Out AbstractState) (w : AbstractState)
        → perform (xs ++ ys) next w ≡ perform xs (λ w. perform ys next w) w
    perform-append [] ys next w = refl
    perform-append (a ∷ xs) ys next w =
        λ i. when (allowed a.how (watched_of a.place) (presence a.place.local w.cells)) (halt_by (rule_of a.how) (site_of node a))
        (λ w. unless_ended (ends_runs items body a) (λ w. perform-append xs ys next w i) (left_by a w)) w

    -- it halts at no refused use
    abbrev pub IsNotRefused : Out AbstractState → Type 0
    IsNotRefused out = (halt : Halt) (w : AbstractState) → out ≡ Halts halt w → is_refused halt ≡ false

    -- it halts at no refused use, and has left the choices of a state
    abbrev pub EndsWith : AbstractState → Out AbstractState → Type 0
    EndsWith w out = IsNotRefused out × (choices_left out ≡ Some w.choices)

    -- Actions come to their end, where something holds of the rest; or to the first bad one; or to a value of type `!`.
    pub data Performed (done acts : List PathAction) (R : AbstractState → Out AbstractState → Type 0) (w : AbstractState) (out : Out AbstractState) : Type 0 where
      on : (v : AbstractState) → R v out → Tells v (done ++ acts) → v.choices ≡ w.choices → first_bad items body done acts ≡ None
          → list_any (ends_runs items body) acts ≡ false → Performed done acts R w out
      met : (bad : BadUse) (v : AbstractState) → out ≡ Halts (halt_of node bad) v → v.choices ≡ w.choices → first_bad items body done acts ≡ Some bad
          → list_any (ends_runs items body) (before_bad items body done acts) ≡ false → Performed done acts R w out
      ended : EndsWith w out → list_any (ends_runs items body) (before_bad items body done acts) ≡ true → Performed done acts R w out

    abbrev pub halted : Halt → AbstractState → Out AbstractState
    halted halt w = Halts halt w

    pub halts-same : (h k : Halt) (w v : AbstractState) → halted h w ≡ halted k v → h ≡ k
    halts-same h k w v e = ap (λ (o : Out AbstractState). elim o [ Go x ↦ h | Unwind x ↦ h | Halts halt x ↦ halt ]) e

    pub unreachable : (v : AbstractState) → IsNotRefused (Halts Unreachable v)
    unreachable v halt w e = ap is_refused (sym (halts-same Unreachable halt v w e))

    module _ (R : AbstractState → Out AbstractState → Type 0) (next : AbstractState → Out AbstractState) (holds : (v : AbstractState) → R v (next v)) where
      pub performed : (acts : List PathAction) (done : List PathAction) (w : AbstractState) → Tells w done → Performed done acts R w (perform acts next w)
      performed [] done w tells = on w (holds w) (subst (Tells w) (sym (append-nil done)) tells) refl refl refl
      performed (a ∷ acts) done w tells =
          by (allowed a.how (watched_of a.place) (presence a.place.local w.cells)) (is_bad items body done a a.how) refl
          (ap (allowed a.how (watched_of a.place)) (tells a.place.local) ∙ is-allowed items body done a)
          (ends_runs items body a) refl
          (performed acts (done ++ a ∷ []) (left_by a w) (left-tells a w done tells))
        where
          bad : BadUse
          bad = record { rule = rule_of a.how; action = a }

          by : (may b : Bool) → is_bad items body done a a.how ≡ b → may ≡ not (is_bad items body done a a.how)
              → (ends : Bool) → ends_runs items body a ≡ ends
              → Performed (done ++ a ∷ []) acts R (left_by a w) (perform acts next (left_by a w))
              → Performed done (a ∷ acts) R w (when may (halt_by (rule_of a.how) (site_of node a)) (λ w. unless_ended ends (perform acts next) (left_by a w)) w)
          by may true e m ends f rest =
              subst (λ (z : Bool). Performed done (a ∷ acts) R w (when z (halt_by (rule_of a.how) (site_of node a)) (λ w. unless_ended ends (perform acts next) (left_by a w)) w))
              (sym (m ∙ ap not e))
              (met bad w refl refl
              (ap (λ (z : Bool). if z then Some bad else first_bad items body (done ++ a ∷ []) acts) e)
              (ap (λ (z : Bool). list_any (ends_runs items body) (if z then [] else a ∷ before_bad items body (done ++ a ∷ []) acts)) e))
          by may false e m ends f rest =
              subst (λ (z : Bool). Performed done (a ∷ acts) R w (when z (halt_by (rule_of a.how) (site_of node a)) (λ w. unless_ended ends (perform acts next) (left_by a w)) w))
              (sym (m ∙ ap not e)) (go ends f rest)
            where
              first : first_bad items body done (a ∷ acts) ≡ first_bad items body (done ++ a ∷ []) acts
              first = ap (λ (z : Bool). if z then Some bad else first_bad items body (done ++ a ∷ []) acts) e

              before : before_bad items body done (a ∷ acts) ≡ a ∷ before_bad items body (done ++ a ∷ []) acts
              before = ap (λ (z : Bool). if z then [] else a ∷ before_bad items body (done ++ a ∷ []) acts) e

              go : (ends : Bool) → ends_runs items body a ≡ ends
                  → Performed (done ++ a ∷ []) acts R (left_by a w) (perform acts next (left_by a w))
                  → Performed done (a ∷ acts) R w (unless_ended ends (perform acts next) (left_by a w))
              go true f rest = ended (unreachable (left_by a w), ap (λ (z : List Bool). Some z) (left-choices a w)) (ap (list_any (ends_runs items body)) before ∙ ap (λ (z : Bool). z || list_any (ends_runs items body) (before_bad items body (done ++ a ∷ []) acts)) f)
              go false f (on v r tells choices none clean) =
                  on v r (subst (Tells v) (append_assoc done (a ∷ []) acts) tells) (choices ∙ left-choices a w) (first ∙ none)
                  (ap (λ (z : Bool). z || list_any (ends_runs items body) acts) f ∙ clean)
              go false f (met it v is choices some clean) =
                  met it v is (choices ∙ left-choices a w) (first ∙ some)
                  (ap (list_any (ends_runs items body)) before ∙ ap (λ (z : Bool). z || list_any (ends_runs items body) (before_bad items body (done ++ a ∷ []) acts)) f ∙ clean)
              go false f (ended with end) =
                  ended (with.0, with.1 ∙ ap (λ (z : List Bool). Some z) (left-choices a w))
                  (ap (list_any (ends_runs items body)) before ∙ ap (λ (z : Bool). z || list_any (ends_runs items body) (before_bad items body (done ++ a ∷ []) acts)) f ∙ end)

    any-append : (xs ys : List PathAction) → list_any (ends_runs items body) (xs ++ ys) ≡ (list_any (ends_runs items body) xs || list_any (ends_runs items body) ys)
    any-append xs ys = list_any-append (ends_runs items body) xs ys

    pub none-of-both : (xs ys : List PathAction) → list_any (ends_runs items body) xs ≡ false → list_any (ends_runs items body) ys ≡ false → list_any (ends_runs items body) (xs ++ ys) ≡ false
    none-of-both xs ys h k = any-append xs ys ∙ (λ i. h i || k i)

    some-behind : (xs ys : List PathAction) → list_any (ends_runs items body) ys ≡ true → list_any (ends_runs items body) (xs ++ ys) ≡ true
    some-behind xs ys h = any-append xs ys ∙ by (list_any (ends_runs items body) xs) ∙ h
      where
        by : (b : Bool) → (b || list_any (ends_runs items body) ys) ≡ (list_any (ends_runs items body) ys)
        by false = refl
        by true = sym h

    -- actions, and then further ones
    pub performed-more : (xs ys done : List PathAction) (R : AbstractState → Out AbstractState → Type 0) (w : AbstractState) (out : Out AbstractState)
        → Performed done xs (λ v o. Tells v (done ++ xs) → Performed (done ++ xs) ys R v o) w out → Performed done (xs ++ ys) R w out
    performed-more xs ys done R w out (met bad v is choices some clean) =
        met bad v is choices (some-first done xs ys bad some) (ap (list_any (ends_runs items body)) (before-some done xs ys bad some) ∙ clean)
    performed-more xs ys done R w out (ended not_refused end) = later (first_bad items body done xs) refl
      where
        later : (o : Option BadUse) → first_bad items body done xs ≡ o → Performed done (xs ++ ys) R w out
        later (Some bad) e = ended not_refused (ap (list_any (ends_runs items body)) (before-some done xs ys bad e) ∙ end)
        later None e =
            ended not_refused
            (ap (list_any (ends_runs items body)) (before-append done xs ys e) ∙ any-append xs (before_bad items body (done ++ xs) ys)
            ∙ ap (λ (z : Bool). z || list_any (ends_runs items body) (before_bad items body (done ++ xs) ys))
            (ap (list_any (ends_runs items body)) (sym (before-none done xs e)) ∙ end))
    performed-more xs ys done R w out (on v r tells choices none clean) = more (r tells)
      where
        more : Performed (done ++ xs) ys R v out → Performed done (xs ++ ys) R w out
        more (on u s told same plain free) =
            on u s (subst (Tells u) (append_assoc done xs ys) told) (same ∙ choices) (some-rest done xs ys none ∙ plain) (none-of-both xs ys clean free)
        more (met bad u is same some free) =
            met bad u is (same ∙ choices) (some-rest done xs ys none ∙ some)
            (ap (list_any (ends_runs items body)) (before-append done xs ys none) ∙ none-of-both xs (before_bad items body (done ++ xs) ys) clean free)
        more (ended with end) =
            ended (with.0, with.1 ∙ ap (λ (z : List Bool). Some z) choices) (ap (list_any (ends_runs items body)) (before-append done xs ys none) ∙ some-behind xs (before_bad items body (done ++ xs) ys) end)
