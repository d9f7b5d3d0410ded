-- Terminators lead on by edges: where they led, or to the block of an edge.
use Rattle.std.proofs.Common.{◌≡◌, ◌⊎◌, inl, inr, ◌∙◌, ◌∷◌, [], ◌++◌, ℕ, zero, suc, false, List, Option, Some, None, Contains, length, slice_get, refl, sym, ap, subst}
use Rattle.std.proofs.lemmas.Option.{none-some}
use Rattle.mir_ty.proofs.ListLemmas.{slice_get-Contains, Contains-slice_get}
use Rattle.mir_ty.specs.ItemTable.{ItemTable}
use Rattle.store_model.specs.Places.Place as plain
use Rattle.cfg_graph.specs.declared.graph.Body.{Body}
use Rattle.cfg_graph.specs.declared.graph.Kind.{Kind}
use Rattle.cfg_graph.specs.declared.place.Place.{Place}
use Rattle.cfg_graph.specs.declared.statement.Stmt.{Stmt}
use Rattle.cfg_graph.specs.declared.terminator.Term.{Term}
use Rattle.cfg_graph.specs.declared.terminator.Unwind.{Unwind}
use Rattle.cfg_graph.specs.Edges.{targets, is_turn_kind, unwind_block, unwind_targets}
use Rattle.cfg_graph.specs.Uses.{stored_by_term}
use Rattle.drop_elaborate.specs.Build.{Made, Begun}
use Rattle.drop_elaborate.specs.Elaborated.{onward_to, next_of, kind_after}
use Rattle.drop_blocks.specs.Ladders.{Built, with_one}
use Rattle.drop_blocks.specs.declared.rungs.Chains.{Chains}
use Rattle.drop_values.specs.Plan.{Plan}
use Rattle.drop_blocks.specs.Ladders.{ladder_of}
use Rattle.drop_ends.specs.Edges.{edge_to}
use Rattle.drop_ends.specs.Leads.{IsLed, LeadBack, LeadsFrom, TwinLeads, TermLeads, ByUnwind, ByDrop, ByTerm}
use Rattle.drop_ends.proofs.Leading.{one-of, none-of, led-none, led-then, led-join, led-later, led-wider, led-one, one-led, edge-back, Heads, Laid, ladder-laid}

later-of : {A : Type 0} (x : A) (xs : List A) (m : A) → Contains xs m → Contains (x ∷ xs) m
later-of x xs m has = Contains-slice_get (x ∷ xs) (suc has.0) m (slice_get-Contains xs m has)

first-of : {A : Type 0} (x : A) (xs : List A) → Contains (x ∷ xs) x
first-of x xs = Contains-slice_get (x ∷ xs) 0 x refl

pub led-wide : (L M : ℕ → Type 0) (a b : Made) → ((m : ℕ) → L m → M m) → (m : ℕ) → IsLed L a b m → IsLed M a b m
led-wide L M a b f m (inl x) = inl (f m x)
led-wide L M a b f m (inr x) = inr x

-- ---- edges, as they were begun

pub edge-leads : (kind : Kind) (stmts : List Stmt) (to : ℕ) (made : Made) (b : Begun) → b ≡ edge_to kind stmts to made →
    is_turn_kind kind ≡ false → LeadsFrom (λ m. m ≡ to) made b.made b.at
edge-leads kind stmts to made b is flat =
    subst (λ (z : Begun). LeadsFrom (λ m. m ≡ to) made z.made z.at) (sym is) (edge-back kind stmts to made flat)

-- ---- a twin

pub twin-block : (kind : Kind) (stmts : List Stmt) (to : ℕ) (unwind : Unwind) (made : Made) (b : Begun) (twin : Option ℕ) →
    b ≡ edge_to kind stmts to made → is_turn_kind kind ≡ false → unwind ≡ Unwind.Block to → twin ≡ Some b.at →
    TwinLeads (ByUnwind unwind) made b.made twin
twin-block kind stmts to unwind made b twin is flat by_unwind twin_is =
    let e = edge-leads kind stmts to made b is flat in
    let wide : (m : ℕ) → m ≡ to → ByUnwind unwind m = λ m same. by_unwind ∙ ap Unwind.Block (sym same) in (
      led-wider (λ m. m ≡ to) (ByUnwind unwind) made b.made wide e.0,
      λ t at. subst (IsLed (ByUnwind unwind) made b.made) (same-some b.at t (sym twin_is ∙ at))
          (led-wide (λ m. m ≡ to) (ByUnwind unwind) made b.made wide b.at e.1),
    )
  where
    same-some : (x y : ℕ) → Some x ≡ Some y → x ≡ y
    same-some x y e = cc

pub twin-resume : (unwind : Unwind) (stmts : List Stmt) (made : Made) (b : Begun) (twin : Option ℕ) →
    b ≡ with_one Kind.Cleanup stmts Term.Resume made → twin ≡ Some b.at → TwinLeads (ByUnwind unwind) made b.made twin
twin-resume unwind stmts made b twin is twin_is =
    subst (λ (z : Begun). Some b.at ≡ Some z.at → TwinLeads (ByUnwind unwind) made z.made twin) (sym is)
    (λ e. (
      led-one (ByUnwind unwind) Kind.Cleanup stmts Term.Resume made refl (λ m has. absurd (none-of m has)),
      λ t at. subst (IsLed (ByUnwind unwind) made (with_one Kind.Cleanup stmts Term.Resume made).made)
          (same-some (with_one Kind.Cleanup stmts Term.Resume made).at t (sym e ∙ sym twin_is ∙ at))
          (one-led (ByUnwind unwind) Kind.Cleanup stmts Term.Resume made),
    )) refl
  where
    same-some : (x y : ℕ) → Some x ≡ Some y → x ≡ y
    same-some x y e = cc

-- ---- a ladder, between its ends

pub ladder-leads : (kind : Kind) → is_turn_kind kind ≡ false → (plan : Plan) (place : Place) (next : ℕ) (unwind : Unwind) (a b c : Made) (calm : ℕ) (twin : Option ℕ)
    (l : Built) → LeadsFrom (λ m. m ≡ next) a b calm → TwinLeads (ByUnwind unwind) b c twin →
    l ≡ ladder_of kind plan place (record { calm = calm; twin = twin }) c → LeadsFrom (ByDrop next unwind) a l.made l.chains.calm
ladder-leads kind flat plan place next unwind a b c calm twin l edge over is =
    subst (λ (z : Built). LeadsFrom (ByDrop next unwind) a z.made z.chains.calm) (sym is) so
  where
    L : ℕ → Type 0
    L = ByDrop next unwind

    rest : Chains
    rest = record { calm = calm; twin = twin }

    first : LeadBack L a b
    first = led-wider (λ m. m ≡ next) L a b (λ m e. inl e) edge.0

    second : LeadBack L a c
    second = led-then L (ByUnwind unwind) a b c first over.0 (λ m e. inl (inr e))

    calm_led : IsLed L a c calm
    calm_led =
        led-later L a b c calm (led-wide (λ m. m ≡ next) L a b (λ m e. inl e) calm edge.1) over.0.grows over.0.longer

    twin_led : (t : ℕ) → twin ≡ Some t → IsLed L a c t
    twin_led t e =
        led-join L (ByUnwind unwind) a b c first over.0.grows over.0.longer (λ m e. inl (inr e)) t (over.1 t e)

    head : (m : ℕ) → Heads rest m → IsLed L a c m
    head m (inl e) = subst (IsLed L a c) (sym e) calm_led
    head m (inr e) = twin_led m e

    so : LeadsFrom L a (ladder_of kind plan place rest c).made (ladder_of kind plan place rest c).chains.calm
    so =
        let laid = ladder-laid kind flat plan place rest c in (
          led-then L (Heads rest) a c (ladder_of kind plan place rest c).made second laid.back head,
          led-join L (Heads rest) a c (ladder_of kind plan place rest c).made second laid.back.grows laid.back.longer head
              (ladder_of kind plan place rest c).chains.calm laid.calm,
        )

-- ---- terminators

goto-targets : (from m : ℕ) → Contains (targets (Term.Goto from)) m → m ≡ from
goto-targets from m has = elim (one-of from [] m has) [ inl e ↦ e | inr none ↦ absurd (none-of m none) ]

pub goto-leads : (L : ℕ → Type 0) (a b : Made) (from : ℕ) → LeadsFrom L a b from → TermLeads L a b (Term.Goto from)
goto-leads L a b from g = (g.0, λ m has. subst (IsLed L a b) (sym (goto-targets from m has)) g.1)

-- a drop that stays leads where it did
drop-targets : (place : Place) (next : ℕ) (unwind : Unwind) (m : ℕ) → Contains (targets (Term.DropAt place next unwind)) m →
    ByDrop next unwind m
drop-targets place next unwind m has = elim (one-of next (unwind_targets (Term.DropAt place next unwind)) m has) [
  | inl e ↦ inl e
  | inr rest ↦ inr (by unwind rest)
]
  where
    by : (u : Unwind) → Contains (unwind_targets (Term.DropAt place next u)) m → u ≡ Unwind.Block m
    by (Unwind.Block block) h = elim (one-of block [] m h) [ inl e ↦ ap Unwind.Block (sym e) | inr none ↦ absurd (none-of m none) ]
    by Unwind.Resume h = absurd (none-of m h)
    by Unwind.Abort h = absurd (none-of m h)

pub dead-leads : (next : ℕ) (unwind : Unwind) (a : Made) → TermLeads (ByDrop next unwind) a a (Term.Goto next)
dead-leads next unwind a = goto-leads (ByDrop next unwind) a a next (led-none (ByDrop next unwind) a, inl (inl refl))

pub plain-leads : (place : Place) (next : ℕ) (unwind : Unwind) (a : Made) →
    TermLeads (ByDrop next unwind) a a (Term.DropAt place next unwind)
plain-leads place next unwind a =
    (led-none (ByDrop next unwind) a, λ m has. inl (drop-targets place next unwind m has))

-- so of the whole terminator
targets-of-drop : (place : Place) (next : ℕ) (unwind : Unwind) (m : ℕ) → ByDrop next unwind m →
    ByTerm (Term.DropAt place next unwind) m
targets-of-drop place next unwind m (inl e) =
    subst (λ (k : ℕ). Contains (targets (Term.DropAt place next unwind)) k) (sym e) (first-of next _)
targets-of-drop place next unwind m (inr e) =
    subst (λ (u : Unwind). Contains (targets (Term.DropAt place next u)) m) (sym e) (later-of next (m ∷ []) m (first-of m []))

pub drop-leads-so : (place : Place) (next : ℕ) (unwind : Unwind) (a b : Made) (term : Term) →
    TermLeads (ByDrop next unwind) a b term → TermLeads (ByTerm (Term.DropAt place next unwind)) a b term
drop-leads-so place next unwind a b term g = (
  led-wider (ByDrop next unwind) (ByTerm (Term.DropAt place next unwind)) a b (targets-of-drop place next unwind) g.0,
  λ m has. led-wide (ByDrop next unwind) (ByTerm (Term.DropAt place next unwind)) a b (targets-of-drop place next unwind) m (g.1 m has),
)

module _ (items : ItemTable) (body : Body) (flagged : List plain.Place) (after : Body) (a b : Made) (from : ℕ) where
  -- a terminator that goes on by the edge
  onward : (next : ℕ) (rest : List ℕ) → LeadsFrom (λ m. m ≡ next) a b from →
      LeadBack (λ m. Contains (next ∷ rest) m) a b
      × ((m : ℕ) → Contains (from ∷ rest) m → IsLed (λ m. Contains (next ∷ rest) m) a b m)
  onward next rest g =
      let wide : (m : ℕ) → m ≡ next → Contains (next ∷ rest) m =
      λ m e. subst (Contains (next ∷ rest)) (sym e) (first-of next rest) in (
        led-wider (λ m. m ≡ next) (λ m. Contains (next ∷ rest) m) a b wide g.0,
        λ m has. elim (one-of from rest m has) [
          | inl e ↦ subst (IsLed (λ m. Contains (next ∷ rest) m) a b) (sym e)
              (led-wide (λ m. m ≡ next) (λ m. Contains (next ∷ rest) m) a b wide from g.1)
          | inr later ↦ inl (later-of next rest m later)
        ],
      )

  -- and one that does not: no edge is made for it
  stays-so : (term : Term) → a ≡ b → TermLeads (ByTerm term) a b term
  stays-so term same =
      subst (λ (z : Made). TermLeads (ByTerm term) a z term) same (led-none (ByTerm term) a, λ m has. inl has)

  abbrev pub begun_at : Begun
  begun_at = record { at = from; made = b }

  none : (kind : Kind) (stmts : List Stmt) → stmts ≡ [] →
      begun_at ≡ edge_to kind stmts 0 a → a ≡ b
  none kind stmts empty is =
      sym (ap (λ (z : Begun). z.made) (is ∙ ap (λ (l : List Stmt). edge_to kind l 0 a) empty))

  pub term-leads : (kind : Kind) (term : Term) (stmts : List Stmt) → is_turn_kind kind ≡ false →
      (stored_by_term term ≡ [] → stmts ≡ []) →
      begun_at ≡ edge_to kind stmts (next_of items body flagged after term) a →
      TermLeads (ByTerm term) a b (onward_to items body flagged after from term)
  term-leads kind (Term.Math to op left right next unwind) stmts flat empty is =
      onward next (unwind_targets (Term.Math to op left right next unwind)) (edge-leads kind stmts next a begun_at is flat)
  term-leads kind (Term.Negate to of next unwind) stmts flat empty is =
      onward next (unwind_targets (Term.Negate to of next unwind)) (edge-leads kind stmts next a begun_at is flat)
  term-leads kind (Term.Call to callee args next unwind) stmts flat empty is =
      onward next (unwind_targets (Term.Call to callee args next unwind)) (edge-leads kind stmts next a begun_at is flat)
  term-leads kind (Term.Virtual to trait_no method args next unwind) stmts flat empty is =
      onward next (unwind_targets (Term.Virtual to trait_no method args next unwind)) (edge-leads kind stmts next a begun_at is flat)
  term-leads kind (Term.Ask to next unwind) stmts flat empty is =
      onward next (unwind_targets (Term.Ask to next unwind)) (edge-leads kind stmts next a begun_at is flat)
  term-leads kind (Term.Bounds index count next unwind) stmts flat empty is =
      onward next (unwind_targets (Term.Bounds index count next unwind)) (edge-leads kind stmts next a begun_at is flat)
  term-leads kind (Term.Goto to) stmts flat empty is = stays-so (Term.Goto to) (none kind stmts (empty refl) is)
  term-leads kind (Term.If on there to) stmts flat empty is = stays-so (Term.If on there to) (none kind stmts (empty refl) is)
  term-leads kind (Term.Case on variant there to) stmts flat empty is = stays-so (Term.Case on variant there to) (none kind stmts (empty refl) is)
  term-leads kind (Term.DropAt place next unwind) stmts flat empty is = stays-so (Term.DropAt place next unwind) (none kind stmts (empty refl) is)
  term-leads kind (Term.Panic why unwind) stmts flat empty is = stays-so (Term.Panic why unwind) (none kind stmts (empty refl) is)
  term-leads kind Term.Return stmts flat empty is = stays-so Term.Return (none kind stmts (empty refl) is)
  term-leads kind Term.Resume stmts flat empty is = stays-so Term.Resume (none kind stmts (empty refl) is)

pub kind-flat : (items : ItemTable) (body : Body) (flagged : List plain.Place) (after : Body) (kind : Kind) →
    is_turn_kind (kind_after items body flagged after kind) ≡ false
kind-flat items body flagged after Kind.Plain = refl
kind-flat items body flagged after Kind.Turn = refl
kind-flat items body flagged after Kind.Cleanup = refl
