-- What the lowering builds where scopes are left, for jumps, panics and tests, holds the code: one lemma a rule of `Build`.
use Rattle.std.proofs.Common.{◌≡◌, inl, ℕ, suc, ◌≤◌, ◌==◌, nat_lt, not, Bool, true, false, List, [], ◌∷◌, ◌++◌, length, Option, Some, None, if◌then◌else◌, refl, sym, ap, ◌∙◌, subst, arith}
use Rattle.std.proofs.lemmas.Bool.{eqb-true}
use Rattle.std.proofs.lemmas.Option.{none-some, same_Some}
use Rattle.cfg_graph.specs.declared.graph.Kind.{Kind}
use Rattle.cfg_graph.specs.declared.terminator.Term.{Term}
use Rattle.cfg_graph.specs.declared.terminator.Unwind.{Unwind}
use Rattle.cfg_graph.specs.Edges.{is_cleanup_kind, unwind_block}
use Rattle.cfg_meaning.specs.Actions as actions
use Rattle.mir_base.specs.declared.operator.Cmp.{Cmp}
use Rattle.mir_base.specs.declared.trace.Why.{Why}
use Rattle.store_model.specs.Effects as effects
use Rattle.store_model.specs.Effects.{EffectSite}
use Rattle.src_meaning.specs.Forms.{site_of_key, moved}
use Rattle.src_meaning.specs.Scopes.{Entry, Scope, Scopes, with_scope, needing_drop, entry_site, Exit, Value, Breaks, Continues, Returns, Panics}
use Rattle.src_meaning.specs.Shape.{PatternTest, IsVariant, IsNumber, IsTruth, AnyOf, PatternTests, no_test, a_test, Alternatives, no_alternative, an_alternative}
use Rattle.lower_rules.specs.Rules.{IfAt, EqualsAt, TestAt, TestsAt, AnyTestAt, PanicsAt}
use Rattle.lower_rules.specs.Spots.{CodeTarget, CodePos, JumpWay, Ways, CodeSpot, panic_drops, StepAt, TermAt, stays, goes, Cleans, DropsAt, AllDropAt, LeavesScope, Scoped, InScope, leaves_one, LeavesTo, JumpAt}
use Rattle.lower_rules.specs.Build as build
use Rattle.lower_rules.specs.Build.{BlockRest, SharedEnd, GoesTo, DropsThen, Building, ending, made, closed, jump_of, way_of, naming, names, Lowers, then_lower, place_of, share, unwind_to, drop_one, drop_all, drops_before, drops_to, outer, leave_by, leave_from, leave, scoped, in_scope, leaves_before, leaves_to, exits, jump, panics, if_true, compared, equals, test, tests, any_test}
use Rattle.lower_rules.proofs.LaidBlocks.{AllKind, BlockGiven, SharedStand, Given, Grows, IsUsed, JumpWays, KindAt, Later, LeadsOn, Lowered, PlainWay, Ranked, RestEnds, RestWell, Stands, Tidy, TidyAfter, closed_grows, closed_length, closed_ranked, closed_stands, closed_tidy, ends_with, f, grows_not, grows_on, kind_stands, later_before, plain_stands}
use Rattle.lower_rules.proofs.LaidEffects.{OperandOf, TwoWays, changed_lowered, operand_same, share_grows, share_made, share_ranked, share_tidy, site_same, then_lowered, two_grow, two_later, two_made, two_ranked, two_tidy, unwind_grows, unwind_made, unwind_ranked, unwind_tidy}

module _ (t : CodeTarget) where
  pub given_on : (n m d : ℕ) → n ≤ m → Given n d → Given m d
  given_on n m d l g = (g.0, (let i = g.1 in omega arith))

  -- ---- drops
  pub drop_one_at : (site : EffectSite) (es : List Entry) (k : BlockRest) (s : Building) →
      Cleans t es (unwind_to (f t) es (closed Kind.Plain k s)).0 → Later t (closed Kind.Plain k s) → (b : CodePos) →
      Stands t (drop_one (f t) site es k s).0 b → DropsAt t site es b (length s.blocks, 0)
  drop_one_at site es k s clean before b st =
      (place_of (f t) site, length s.blocks, (unwind_to (f t) es (closed Kind.Plain k s)).0, ends_with t _ site.node b st, site_same t (t.node b.0 b.1) site (sym st.2.2), clean, (plain_stands t k s before, refl))

  abbrev drop_term : EffectSite → ℕ → Unwind → Term
  drop_term site = Term.DropAt (place_of (f t) site)

  drops_grow : (es : List Entry) (S : Scopes) (k : BlockRest) (s : Building) → Grows s (drop_all (f t) es S k s).1
  drops_grow [] S k s = grows_not s
  drops_grow (x ∷ es) S k s =
      let r = drop_all (f t) es S k s in
      grows_on s r.1 _ (drops_grow es S k s) (two_grow t (drop_term (entry_site x)) x.key (es ++ panic_drops t S) r.0 r.1)

  drops_made : (es : List Entry) (S : Scopes) (k : BlockRest) (s : Building) → SharedStand t s →
      Later t (drop_all (f t) es S k s).1 →
      SharedStand t (drop_all (f t) es S k s).1 × ((b : CodePos) → Stands t (drop_all (f t) es S k s).0 b → (b' : CodePos) × Stands t k b' × AllDropAt t es S b b')
  drops_made [] S k s h later = (h, λ b st. (b, st, refl))
  drops_made (x ∷ es) S k s h later =
      let r = drop_all (f t) es S k s in
      let before = two_later t (drop_term (entry_site x)) x.key (es ++ panic_drops t S) r.0 r.1 later in
      let rest = drops_made es S k s h (later_before t r.1 _ (closed_grows Kind.Plain r.0 r.1) before) in
      let made = two_made t (drop_term (entry_site x)) x.key (es ++ panic_drops t S) r.0 r.1 rest.0 later in
      let on = rest.1 (length r.1.blocks, 0) (closed_stands t Kind.Plain r.0 r.1 before) in
      (made.0, λ b st. (on.0, on.1, ((length r.1.blocks, 0), drop_one_at (entry_site x) (es ++ panic_drops t S) r.0 r.1 made.1 before b st, on.2)))

  drops_ranked : (es : List Entry) (S : Scopes) (k : BlockRest) (s : Building) → Ranked s → LeadsOn k s →
      Ranked (drop_all (f t) es S k s).1 × LeadsOn (drop_all (f t) es S k s).0 (drop_all (f t) es S k s).1
  drops_ranked [] S k s h l = (h, l)
  drops_ranked (x ∷ es) S k s h l =
      let r = drop_all (f t) es S k s in
      let rest = drops_ranked es S k s h l in
      two_ranked t (drop_term (entry_site x)) x.key (es ++ panic_drops t S) r.0 r.1 (λ n u. refl) rest.0 rest.1

  pub whole_drops : (local : ℕ) → TwoWays t (Term.DropAt (record { local = local; steps = [] }))
  whole_drops local node n (Unwind.Block m) p g = ((p, tt), g, refl, inl refl)
  whole_drops local node n Unwind.Resume p g = ((p, tt), g, refl, refl)
  whole_drops local node n Unwind.Abort p g = ((p, tt), g, refl, refl)

  drops_tidy : (es : List Entry) (S : Scopes) (k : BlockRest) (s : Building) → Later t (drop_all (f t) es S k s).1 →
      Tidy t s → RestWell t k → TidyAfter t (drop_all (f t) es S k s)
  drops_tidy [] S k s later h l = (h, l)
  drops_tidy (x ∷ es) S k s later h l =
      let r = drop_all (f t) es S k s in
      let before = two_later t (drop_term (entry_site x)) x.key (es ++ panic_drops t S) r.0 r.1 later in
      let rest = drops_tidy es S k s (later_before t r.1 _ (closed_grows Kind.Plain r.0 r.1) before) h l in
      two_tidy t (drop_term (entry_site x)) x.key (es ++ panic_drops t S) r.0 r.1 (whole_drops (t.local_of x.key)) later rest.0 rest.1

  -- ---- drops before a jump, in blocks that are shared
  abbrev before_end : Entry → List Entry → Scopes → ℕ × Building → SharedEnd
  before_end x es S to =
      DropsThen x.key (drops_before (f t) es S to).0 (unwind_to (f t) (es ++ panic_drops t S) (drops_before (f t) es S to).1).0

  abbrev before_down : List Entry → Scopes → ℕ × Building → Building
  before_down es S to = (unwind_to (f t) (es ++ panic_drops t S) (drops_before (f t) es S to).1).1

  before_grows : (es : List Entry) (S : Scopes) (to : ℕ × Building) → Grows to.1 (drops_before (f t) es S to).1
  before_grows [] S to = grows_not to.1
  before_grows (x ∷ es) S to =
      let r = drops_before (f t) es S to in
      grows_on to.1 r.1 _ (before_grows es S to)
      (grows_on r.1 (before_down es S to) _ (unwind_grows t (es ++ panic_drops t S) r.1) (share_grows t (before_end x es S to) (before_down es S to)))

  before_made : (es : List Entry) (S : Scopes) (to : ℕ × Building) → SharedStand t to.1 → StepAt t to.0 →
      Later t (drops_before (f t) es S to).1 →
      SharedStand t (drops_before (f t) es S to).1 × StepAt t (drops_before (f t) es S to).0 × AllDropAt t es S ((drops_before (f t) es S to).0, 0) (to.0, 0)
  before_made [] S to h step later = (h, step, refl)
  before_made (x ∷ es) S to h step later =
      let r = drops_before (f t) es S to in
      let e = before_end x es S to in
      let s = before_down es S to in
      let l1 = later_before t s _ (share_grows t e s) later in
      let rest = before_made es S to h step (later_before t r.1 s (unwind_grows t (es ++ panic_drops t S) r.1) l1) in
      let down = unwind_made t (es ++ panic_drops t S) r.1 rest.0 l1 in
      let made = share_made t e s down.0 later in
      let n = (share (f t) e s).0 in (
        made.0,
        made.1.0,
        (
          (r.0, 0),
          (
            place_of (f t) (entry_site x),
            r.0,
            (unwind_to (f t) (es ++ panic_drops t S) r.1).0,
            ends_with t (drop_term (entry_site x) r.0 (unwind_to (f t) (es ++ panic_drops t S) r.1).0) x.key (n, 0) made.1.1,
            site_same t (t.node n 0) (entry_site x) (sym made.1.1.2.2),
            down.1,
            (rest.1, refl),
          ),
          rest.2,
        ),
      )

  before_ranked : (es : List Entry) (S : Scopes) (to : ℕ × Building) → Ranked to.1 → Given (length to.1.blocks) to.0 →
      Ranked (drops_before (f t) es S to).1 × Given (length (drops_before (f t) es S to).1.blocks) (drops_before (f t) es S to).0
  before_ranked [] S to h g = (h, g)
  before_ranked (x ∷ es) S to h g =
      let r = drops_before (f t) es S to in
      let rest = before_ranked es S to h g in
      let down = unwind_ranked t (es ++ panic_drops t S) r.1 rest.0 in
      let grown = unwind_grows t (es ++ panic_drops t S) r.1 in
      share_ranked t (before_end x es S to) (before_down es S to) down.0 (given_on (length r.1.blocks) (length (before_down es S to).blocks) r.0 grown.longer rest.1, down.1)

  -- a drop while no panic unwinds
  plain_drop : (key n : ℕ) (es : List Entry) (s : Building) → KindAt t false n →
      AllKind t true (unwind_block (unwind_to (f t) es s).0 ++ []) →
      RestEnds t (is_cleanup_kind (build.end_kind (f t) (DropsThen key n (unwind_to (f t) es s).0))) (build.end_rest (f t) (DropsThen key n (unwind_to (f t) es s).0))
  plain_drop key n [] s to down = (((to, tt), down, refl, refl), tt)
  plain_drop key n (y ∷ es) s to down = (((to, tt), down, refl, inl refl), tt)

  plain_kind : (key n : ℕ) (es : List Entry) (s : Building) (m : ℕ) →
      KindAt t (is_cleanup_kind (build.end_kind (f t) (DropsThen key n (unwind_to (f t) es s).0))) m →
      KindAt t false m
  plain_kind key n [] s m h = h
  plain_kind key n (y ∷ es) s m h = h

  before_tidy : (es : List Entry) (S : Scopes) (to : ℕ × Building) → Later t (drops_before (f t) es S to).1 →
      Tidy t to.1 → KindAt t false to.0 →
      Tidy t (drops_before (f t) es S to).1 × KindAt t false (drops_before (f t) es S to).0
  before_tidy [] S to later h k = (h, k)
  before_tidy (x ∷ es) S to later h k =
      let r = drops_before (f t) es S to in
      let e = before_end x es S to in
      let s = before_down es S to in
      let l1 = later_before t s _ (share_grows t e s) later in
      let rest = before_tidy es S to (later_before t r.1 s (unwind_grows t (es ++ panic_drops t S) r.1) l1) h k in
      let down = unwind_tidy t (es ++ panic_drops t S) r.1 rest.0 l1 in
      let made = share_tidy t e s down.0 (plain_drop x.key r.0 (es ++ panic_drops t S) r.1 rest.1 down.1) later in
      (made.0, plain_kind x.key r.0 (es ++ panic_drops t S) r.1 (share (f t) e s).0 made.1)

  -- what is built of drops before a jump, where none of them is made, and where the first of them is a terminator
  to_grows : (es : List Entry) (S : Scopes) (to : ℕ × Building) (none : BlockRest × Building) (s : Building) →
      Grows s to.1 → Grows s none.1 → Grows s (drops_to (f t) es S to none).1
  to_grows [] S to none s g n = n
  to_grows (x ∷ es) S to none s g n =
      let r = drops_before (f t) es S to in
      grows_on s to.1 _ g (grows_on to.1 r.1 _ (before_grows es S to) (unwind_grows t (es ++ panic_drops t S) r.1))

  to_made : (es : List Entry) (S : Scopes) (to : ℕ × Building) (none : BlockRest × Building) (End : CodePos → Type 0) →
      (Later t to.1 → SharedStand t to.1 × StepAt t to.0 × End (to.0, 0)) → (Later t none.1 → SharedStand t none.1 × ((b : CodePos) → Stands t none.0 b → End b)) → Later t (drops_to (f t) es S to none).1 →
      SharedStand t (drops_to (f t) es S to none).1 × ((b : CodePos) → Stands t (drops_to (f t) es S to none).0 b → (m : CodePos) × AllDropAt t es S b m × End m)
  to_made [] S to none End at without later = let it = without later in (it.0, λ b st. (b, refl, it.1 b st))
  to_made (x ∷ es) S to none End at without later =
      let r = drops_before (f t) es S to in
      let l1 = later_before t r.1 _ (unwind_grows t (es ++ panic_drops t S) r.1) later in
      let it = at (later_before t to.1 r.1 (before_grows es S to) l1) in
      let rest = before_made es S to it.0 it.1 l1 in
      let down = unwind_made t (es ++ panic_drops t S) r.1 rest.0 later in (
        down.0,
        λ b st. (
          (to.0, 0),
          (
            (r.0, 0),
            (
              place_of (f t) (entry_site x),
              r.0,
              (unwind_to (f t) (es ++ panic_drops t S) r.1).0,
              ends_with t (drop_term (entry_site x) r.0 (unwind_to (f t) (es ++ panic_drops t S) r.1).0) x.key b st,
              site_same t (t.node b.0 b.1) (entry_site x) (sym st.2.2),
              down.1,
              (rest.1, refl),
            ),
            rest.2,
          ),
          it.2,
        ),
      )

  to_ranked : (es : List Entry) (S : Scopes) (to : ℕ × Building) (none : BlockRest × Building) →
      Ranked to.1 × Given (length to.1.blocks) to.0 → Ranked none.1 × LeadsOn none.0 none.1 →
      Ranked (drops_to (f t) es S to none).1 × LeadsOn (drops_to (f t) es S to none).0 (drops_to (f t) es S to none).1
  to_ranked [] S to none h n = n
  to_ranked (x ∷ es) S to none h n =
      let r = drops_before (f t) es S to in
      let rest = before_ranked es S to h.0 h.1 in
      let down = unwind_ranked t (es ++ panic_drops t S) r.1 rest.0 in
      let grown = unwind_grows t (es ++ panic_drops t S) r.1 in
      (down.0, (given_on (length r.1.blocks) (length (unwind_to (f t) (es ++ panic_drops t S) r.1).1.blocks) r.0 grown.longer rest.1, down.1))

  -- what ends a block that drops for no panic
  drop_ends : (site_key n : ℕ) (es : List Entry) (s : Building) → KindAt t false n →
      AllKind t true (unwind_block (unwind_to (f t) es s).0 ++ []) →
      RestWell t (build.ending (Term.DropAt (record { local = t.local_of site_key; steps = [] }) n (unwind_to (f t) es s).0) site_key)
  drop_ends key n [] s to down = (((to, tt), down, refl, refl), tt)
  drop_ends key n (y ∷ es) s to down = (((to, tt), down, refl, inl refl), tt)

  to_tidy : (es : List Entry) (S : Scopes) (to : ℕ × Building) (none : BlockRest × Building) →
      (Later t to.1 → Tidy t to.1 × KindAt t false to.0) → (Later t none.1 → TidyAfter t none) →
      Later t (drops_to (f t) es S to none).1 → TidyAfter t (drops_to (f t) es S to none)
  to_tidy [] S to none h n later = n later
  to_tidy (x ∷ es) S to none h n later =
      let r = drops_before (f t) es S to in
      let l1 = later_before t r.1 _ (unwind_grows t (es ++ panic_drops t S) r.1) later in
      let it = h (later_before t to.1 r.1 (before_grows es S to) l1) in
      let rest = before_tidy es S to l1 it.0 it.1 in
      let down = unwind_tidy t (es ++ panic_drops t S) r.1 rest.0 later in
      (down.0, drop_ends x.key r.0 (es ++ panic_drops t S) r.1 rest.1 down.1)

  -- ---- scopes are left
  abbrev dropped_of : Scope → List Entry
  dropped_of scope = needing_drop t.items scope.entries

  -- a rest that is a jump
  jump_is : (k : BlockRest) (block : ℕ) → jump_of k ≡ Some block → k ≡ ending (Term.Goto block) 0
  jump_is k block = by_node (k.node == 0) refl
    where
      by_lines : (lines : List build.NodeLine) (term : Term) → build.enters lines term ≡ Some block →
          k.lines ≡ lines → k.term ≡ term → k.node ≡ 0 → k ≡ ending (Term.Goto block) 0
      by_lines [] (Term.Goto to) e l m z =
          λ i. record { lines = l i; term = (m ∙ ap Term.Goto (same_Some to block e)) i; node = z i }
      by_lines lines term e l m z = absurd (none-some block e)

      by_node : (x : Bool) → (k.node == 0) ≡ x → (if x then build.enters k.lines k.term else None) ≡ Some block →
          k ≡ ending (Term.Goto block) 0
      by_node true n e = by_lines k.lines k.term e refl refl (eqb-true k.node 0 n)
      by_node false n e = absurd (none-some block e)

  jump_grows : (o : Option ℕ) (es : List Entry) (S : Scopes) (k : BlockRest) (s : Building) →
      Grows s (leave_by (f t) o es S k s).1
  jump_grows (Some block) es S k s =
      to_grows es S (share (f t) (GoesTo block) s) (k, s) s (share_grows t (GoesTo block) s) (grows_not s)
  jump_grows None es S k s = drops_grow es S k s

  leave_grows : (S : Scopes) (k : BlockRest) (s : Building) → Grows s (leave_from (f t) S k s).1
  leave_grows [] k s = grows_not s
  leave_grows (scope ∷ S) k s = jump_grows (jump_of k) (dropped_of scope) S k s

  jump_holds : (o : Option ℕ) → (es : List Entry) (S : Scopes) (k : BlockRest) (s : Building) → jump_of k ≡ o →
      SharedStand t s → Later t (leave_by (f t) o es S k s).1 →
      SharedStand t (leave_by (f t) o es S k s).1 × ((b : CodePos) → Stands t (leave_by (f t) o es S k s).0 b → (m : CodePos) × AllDropAt t es S b m × Stands t k m)
  jump_holds (Some block) es S k s e h later =
      to_made es S (share (f t) (GoesTo block) s) (k, s) (Stands t k)
      (λ l. let it = share_made t (GoesTo block) s h l in (it.0, it.1.0, subst (λ z. Stands t z ((share (f t) (GoesTo block) s).0, 0)) (sym (jump_is k block e)) it.1.1)) (λ l. (h, λ b st. st)) later
  jump_holds None es S k s e h later =
      let d = drops_made es S k s h later in (d.0, λ b st. let on = d.1 b st in (on.0, on.2, on.1))

  leave_holds : (S : Scopes) (k : BlockRest) (s : Building) → SharedStand t s → Later t (leave_from (f t) S k s).1 →
      SharedStand t (leave_from (f t) S k s).1 × ((b : CodePos) → Stands t (leave_from (f t) S k s).0 b → (b' : CodePos) × Stands t k b' × LeavesScope t S b (outer (f t) S) b')
  leave_holds [] k s h later = (h, λ b st. (b, st, (refl, stays)))
  leave_holds (scope ∷ S) k s h later =
      let d = jump_holds (jump_of k) (dropped_of scope) S k s refl h later in
      (d.0, λ b st. let on = d.1 b st in (on.0, on.2, (refl, on.0, on.1, stays)))

  jump_ranks : (o : Option ℕ) (es : List Entry) (S : Scopes) (k : BlockRest) (s : Building) → jump_of k ≡ o →
      Ranked s → LeadsOn k s →
      Ranked (leave_by (f t) o es S k s).1 × LeadsOn (leave_by (f t) o es S k s).0 (leave_by (f t) o es S k s).1
  jump_ranks (Some block) es S k s e h l =
      to_ranked es S (share (f t) (GoesTo block) s) (k, s) (share_ranked t (GoesTo block) s h (subst (λ z. LeadsOn z s) (jump_is k block e) l)) (h, l)
  jump_ranks None es S k s e h l = drops_ranked es S k s h l

  leave_ranks : (S : Scopes) (k : BlockRest) (s : Building) → Ranked s → LeadsOn k s →
      Ranked (leave_from (f t) S k s).1 × LeadsOn (leave_from (f t) S k s).0 (leave_from (f t) S k s).1
  leave_ranks [] k s h l = (h, l)
  leave_ranks (scope ∷ S) k s h l = jump_ranks (jump_of k) (dropped_of scope) S k s refl h l

  jump_tidies : (o : Option ℕ) (es : List Entry) (S : Scopes) (k : BlockRest) (s : Building) → jump_of k ≡ o →
      Later t (leave_by (f t) o es S k s).1 → Tidy t s → RestWell t k → TidyAfter t (leave_by (f t) o es S k s)
  jump_tidies (Some block) es S k s e later h l =
      to_tidy es S (share (f t) (GoesTo block) s) (k, s) (share_tidy t (GoesTo block) s h (subst (RestWell t) (jump_is k block e) l)) (λ l1. (h, l)) later
  jump_tidies None es S k s e later h l = drops_tidy es S k s later h l

  leave_tidies : (S : Scopes) (k : BlockRest) (s : Building) → Later t (leave_from (f t) S k s).1 → Tidy t s →
      RestWell t k → TidyAfter t (leave_from (f t) S k s)
  leave_tidies [] k s later h l = (h, l)
  leave_tidies (scope ∷ S) k s later h l = jump_tidies (jump_of k) (dropped_of scope) S k s refl later h l

  pub leave_lowered : (Lowered t) (leave (f t)) (λ c. LeavesScope t)
  leave_lowered = record {
    grows = λ c S k s. leave_grows S k s;
    holds = λ c S k s u later chains. leave_holds S k s chains later;
    ranks = λ c S k s w h l. leave_ranks S k s h l;
    tidies = λ c S k s w later h l. leave_tidies S k s later h l;
  }

  pub scoped_lowered : (enter : Scopes → Scopes) (P : Lowers) (sp : Ways → CodeSpot) → Lowered t P sp →
      Lowered t (scoped (f t) enter P) (λ c. Scoped t enter (sp c))
  scoped_lowered enter P sp lp = changed_lowered t enter (then_lower P (leave (f t))) _ (then_lowered t P (leave (f t)) sp (λ c. LeavesScope t) lp leave_lowered)

  pub in_scope_lowered : (node : ℕ) (own : Bool) (P : Lowers) (sp : Ways → CodeSpot) → Lowered t P sp →
      Lowered t (in_scope (f t) node own P) (λ c. InScope t node own (sp c))
  in_scope_lowered node own P sp lp = scoped_lowered (with_scope node own) P sp lp

  -- ---- jumps
  before_leaves_grow : (way : JumpWay) (S : Scopes) (s : Building) → Grows s (leaves_before (f t) way S s).1
  before_leaves_grow way [] s = share_grows t (GoesTo way.block) s
  before_leaves_grow way (scope ∷ S) s = by_base (before_leaves_grow way S s) (not (nat_lt (length S) way.base))
    where
      by_base : Grows s (leaves_before (f t) way S s).1 → (x : Bool) →
          Grows s (build.leaves_one (f t) x (drops_before (f t) (dropped_of scope) S (leaves_before (f t) way S s)) (share (f t) (GoesTo way.block) s)).1
      by_base ih true = grows_on s (leaves_before (f t) way S s).1 _ ih (before_grows (dropped_of scope) S (leaves_before (f t) way S s))
      by_base ih false = share_grows t (GoesTo way.block) s

  leaves_grow : (node : ℕ) (way : JumpWay) (S : Scopes) (s : Building) → Grows s (leaves_to (f t) node way S s).1
  leaves_grow node way [] s = grows_not s
  leaves_grow node way (scope ∷ S) s = by_base (leaves_grow node way S s) (not (nat_lt (length S) way.base))
    where
      by_base : Grows s (leaves_to (f t) node way S s).1 → (x : Bool) →
          Grows s (build.leaves_one (f t) x (drops_to (f t) (dropped_of scope) S (leaves_before (f t) way S s) (leaves_to (f t) node way S s)) (ending (Term.Goto way.block) node, s)).1
      by_base ih true = to_grows (dropped_of scope) S (leaves_before (f t) way S s) (leaves_to (f t) node way S s) s (before_leaves_grow way S s) ih
      by_base ih false = grows_not s

  abbrev EntersAfter : JumpWay → Scopes → ℕ × Building → Type 0
  EntersAfter way S to = SharedStand t to.1 × StepAt t to.0 × LeavesTo t way.base way.block S (to.0, 0)

  enters_made : (way : JumpWay) (s : Building) → SharedStand t s → Later t (share (f t) (GoesTo way.block) s).1 →
      SharedStand t (share (f t) (GoesTo way.block) s).1 × StepAt t (share (f t) (GoesTo way.block) s).0 × TermAt t (Term.Goto way.block) ((share (f t) (GoesTo way.block) s).0, 0)
  enters_made way s h later =
      let made = share_made t (GoesTo way.block) s h later in (made.0, made.1.0, ends_with t (Term.Goto way.block) 0 ((share (f t) (GoesTo way.block) s).0, 0) made.1.1)

  before_leaves_made : (way : JumpWay) (S : Scopes) (s : Building) → SharedStand t s →
      Later t (leaves_before (f t) way S s).1 → EntersAfter way S (leaves_before (f t) way S s)
  before_leaves_made way [] s h later = enters_made way s h later
  before_leaves_made way (scope ∷ S) s h later =
      by_base (before_leaves_made way S s h) (not (nat_lt (length S) way.base)) later
    where
      after : Bool → ℕ × Building
      after x = build.leaves_one (f t) x (drops_before (f t) (dropped_of scope) S (leaves_before (f t) way S s)) (share (f t) (GoesTo way.block) s)

      by_base : (Later t (leaves_before (f t) way S s).1 → EntersAfter way S (leaves_before (f t) way S s)) →
          (x : Bool) → Later t (after x).1 →
          SharedStand t (after x).1 × StepAt t (after x).0
          × leaves_one t x ((m : CodePos) × AllDropAt t (dropped_of scope) S ((after x).0, 0) m × LeavesTo t way.base way.block S m) (TermAt t (Term.Goto way.block) ((after x).0, 0))
      by_base ih true later =
          let to = leaves_before (f t) way S s in
          let it = ih (later_before t to.1 _ (before_grows (dropped_of scope) S to) later) in
          let d = before_made (dropped_of scope) S to it.0 it.1 later in
          (d.0, d.1, ((to.0, 0), d.2, it.2))
      by_base ih false later = enters_made way s h later

  abbrev LeavesMade : ℕ → JumpWay → Scopes → BlockRest × Building → Type 0
  LeavesMade node way S r = SharedStand t r.1 × ((b : CodePos) → Stands t r.0 b → LeavesTo t way.base way.block S b)

  leaves_made : (node : ℕ) (way : JumpWay) (S : Scopes) (s : Building) → SharedStand t s →
      Later t (leaves_to (f t) node way S s).1 → LeavesMade node way S (leaves_to (f t) node way S s)
  leaves_made node way [] s h later = (h, λ b st. ends_with t (Term.Goto way.block) node b st)
  leaves_made node way (scope ∷ S) s h later =
      by_base (leaves_made node way S s h) (not (nat_lt (length S) way.base)) later
    where
      after : Bool → BlockRest × Building
      after x = build.leaves_one (f t) x (drops_to (f t) (dropped_of scope) S (leaves_before (f t) way S s) (leaves_to (f t) node way S s)) (ending (Term.Goto way.block) node, s)

      by_base : (Later t (leaves_to (f t) node way S s).1 → LeavesMade node way S (leaves_to (f t) node way S s)) →
          (x : Bool) → Later t (after x).1 →
          SharedStand t (after x).1
          × ((b : CodePos) → Stands t (after x).0 b → leaves_one t x ((m : CodePos) × AllDropAt t (dropped_of scope) S b m × LeavesTo t way.base way.block S m) (TermAt t (Term.Goto way.block) b))
      by_base ih true later =
          to_made (dropped_of scope) S (leaves_before (f t) way S s) (leaves_to (f t) node way S s) (LeavesTo t way.base way.block S) (before_leaves_made way S s h) ih later
      by_base ih false later = (h, λ b st. ends_with t (Term.Goto way.block) node b st)

  before_leaves_ranked : (way : JumpWay) (S : Scopes) (s : Building) → Given (length s.blocks) way.block → Ranked s →
      Ranked (leaves_before (f t) way S s).1 × Given (length (leaves_before (f t) way S s).1.blocks) (leaves_before (f t) way S s).0
  before_leaves_ranked way [] s g h = share_ranked t (GoesTo way.block) s h (g, tt)
  before_leaves_ranked way (scope ∷ S) s g h =
      by_base (before_leaves_ranked way S s g h) (not (nat_lt (length S) way.base))
    where
      after : Bool → ℕ × Building
      after x = build.leaves_one (f t) x (drops_before (f t) (dropped_of scope) S (leaves_before (f t) way S s)) (share (f t) (GoesTo way.block) s)

      by_base : Ranked (leaves_before (f t) way S s).1 × Given (length (leaves_before (f t) way S s).1.blocks) (leaves_before (f t) way S s).0 → (x : Bool) →
          Ranked (after x).1 × Given (length (after x).1.blocks) (after x).0
      by_base ih true = before_ranked (dropped_of scope) S (leaves_before (f t) way S s) ih.0 ih.1
      by_base ih false = share_ranked t (GoesTo way.block) s h (g, tt)

  leaves_ranked : (node : ℕ) (way : JumpWay) (S : Scopes) (s : Building) → Given (length s.blocks) way.block →
      Ranked s →
      Ranked (leaves_to (f t) node way S s).1 × LeadsOn (leaves_to (f t) node way S s).0 (leaves_to (f t) node way S s).1
  leaves_ranked node way [] s g h = (h, (g, tt))
  leaves_ranked node way (scope ∷ S) s g h = by_base (leaves_ranked node way S s g h) (not (nat_lt (length S) way.base))
    where
      after : Bool → BlockRest × Building
      after x = build.leaves_one (f t) x (drops_to (f t) (dropped_of scope) S (leaves_before (f t) way S s) (leaves_to (f t) node way S s)) (ending (Term.Goto way.block) node, s)

      by_base : Ranked (leaves_to (f t) node way S s).1 × LeadsOn (leaves_to (f t) node way S s).0 (leaves_to (f t) node way S s).1 → (x : Bool) → Ranked (after x).1 × LeadsOn (after x).0 (after x).1
      by_base ih true = to_ranked (dropped_of scope) S (leaves_before (f t) way S s) (leaves_to (f t) node way S s) (before_leaves_ranked way S s g h) ih
      by_base ih false = (h, (g, tt))

  before_leaves_tidy : (way : JumpWay) (S : Scopes) (s : Building) → PlainWay t way → Tidy t s →
      Later t (leaves_before (f t) way S s).1 →
      Tidy t (leaves_before (f t) way S s).1 × KindAt t false (leaves_before (f t) way S s).0
  before_leaves_tidy way [] s g h later = share_tidy t (GoesTo way.block) s h (((g, tt), tt, refl, tt), tt) later
  before_leaves_tidy way (scope ∷ S) s g h later =
      by_base (before_leaves_tidy way S s g h) (not (nat_lt (length S) way.base)) later
    where
      after : Bool → ℕ × Building
      after x = build.leaves_one (f t) x (drops_before (f t) (dropped_of scope) S (leaves_before (f t) way S s)) (share (f t) (GoesTo way.block) s)

      by_base : (Later t (leaves_before (f t) way S s).1 → Tidy t (leaves_before (f t) way S s).1 × KindAt t false (leaves_before (f t) way S s).0) → (x : Bool) → Later t (after x).1 → Tidy t (after x).1 × KindAt t false (after x).0
      by_base ih true later =
          let to = leaves_before (f t) way S s in
          let it = ih (later_before t to.1 _ (before_grows (dropped_of scope) S to) later) in
          before_tidy (dropped_of scope) S to later it.0 it.1
      by_base ih false later = share_tidy t (GoesTo way.block) s h (((g, tt), tt, refl, tt), tt) later

  leaves_tidy : (node : ℕ) (way : JumpWay) (S : Scopes) (s : Building) → PlainWay t way →
      Later t (leaves_to (f t) node way S s).1 → Tidy t s → TidyAfter t (leaves_to (f t) node way S s)
  leaves_tidy node way [] s g later h = (h, (((g, tt), tt, refl, tt), tt))
  leaves_tidy node way (scope ∷ S) s g later h =
      by_base (λ later. leaves_tidy node way S s g later h) (not (nat_lt (length S) way.base)) later
    where
      after : Bool → BlockRest × Building
      after x = build.leaves_one (f t) x (drops_to (f t) (dropped_of scope) S (leaves_before (f t) way S s) (leaves_to (f t) node way S s)) (ending (Term.Goto way.block) node, s)

      by_base : (Later t (leaves_to (f t) node way S s).1 → TidyAfter t (leaves_to (f t) node way S s)) →
          (x : Bool) → Later t (after x).1 → TidyAfter t (after x)
      by_base ih true later = to_tidy (dropped_of scope) S (leaves_before (f t) way S s) (leaves_to (f t) node way S s) (before_leaves_tidy way S s g h) ih later
      by_base ih false later = (h, (((g, tt), tt, refl, tt), tt))

  -- an exit that is a jump: by `return`, or one that names a loop
  abbrev pub IsJump : Exit → Type 0
  IsJump Value = ⊥
  IsJump (Breaks loop) = Unit {0}
  IsJump (Continues loop) = Unit {0}
  IsJump Returns = Unit {0}
  IsJump Panics = ⊥

  way_has : (P : JumpWay → Type 0) (exit : Exit) (c : Ways) → JumpWays P c (naming exit) → P (way_of exit c)
  way_has P Value c h = h.0
  way_has P (Breaks loop) c h = h.1.0
  way_has P (Continues loop) c h = h.1.0
  way_has P Returns c h = h.0
  way_has P Panics c h = h.0

  exits_lowered : (node : ℕ) (exit : Exit) → Lowered t (exits (f t) node exit) (λ c S b S' b'. ((way_of exit c).is_used ≡ true) × LeavesTo t (way_of exit c).base (way_of exit c).block S b)
  exits_lowered node exit = record {
    grows = λ c S k s. leaves_grow node (way_of exit c) S s;
    holds = λ c S k s u later chains.
        let made = leaves_made node (way_of exit c) S s chains later in (made.0, λ b st S' b'. (way_has IsUsed exit c u, made.1 b st));
    ranks = λ c S k s w h l. leaves_ranked node (way_of exit c) S s (way_has (BlockGiven (length s.blocks)) exit c w) h;
    tidies = λ c S k s w later h l. leaves_tidy node (way_of exit c) S s (way_has (PlainWay t) exit c w) later h;
  }

  pub jump_lowered : (node : ℕ) (exit : Exit) (P : Lowers) (sp : Ways → CodeSpot) → Lowered t P sp →
      Lowered t (jump (f t) node exit P) (λ c. JumpAt t (way_of exit c) (sp c))
  jump_lowered node exit P sp lp = then_lowered t P (exits (f t) node exit) sp _ lp (exits_lowered node exit)

  -- ---- a panic
  pub panics_lowered : (node : ℕ) (why : Why) → Lowered t (panics (f t) node why) (λ c. PanicsAt t why)
  panics_lowered node why = record {
    grows = λ c S k s. unwind_grows t (panic_drops t S) s;
    holds = λ c S k s u later chains.
        let made = unwind_made t (panic_drops t S) s chains later in (made.0, λ b st S' b'. ((unwind_to (f t) (panic_drops t S) s).0, ends_with t _ node b st, made.1));
    ranks = λ c S k s w h l. unwind_ranked t (panic_drops t S) s h;
    tidies = λ c S k s w later h l. let u = unwind_tidy t (panic_drops t S) s h later in (u.0, ((tt, u.1, refl, tt), tt));
  }

  -- ---- tests
  abbrev pub TestMade : Building → BlockRest × Building → (CodePos → CodePos → CodePos → Type 0) → ℕ → ℕ → Type 0
  TestMade s r spot y n =
      Grows s r.1 × (SharedStand t s → Later t r.1 → StepAt t y → StepAt t n → SharedStand t r.1 × ((b : CodePos) → Stands t r.0 b → spot b (y, 0) (n, 0)))
      × (Ranked s → Given (length s.blocks) y → Given (length s.blocks) n → Ranked r.1 × LeadsOn r.0 r.1) × (Later t r.1 → Tidy t s → KindAt t false y → KindAt t false n → TidyAfter t r)

  pub if_made : (operand : effects.Operand) (node : ℕ) → OperandOf t node operand → (y n : ℕ) (s : Building) →
      TestMade s (if_true (f t) operand node y n s) (IfAt t operand) y n
  if_made operand node one y n s = (
    grows_not s,
    (λ h later py pn. (
      h,
      λ b st.
          (build.operand_of (f t) operand, y, n, ends_with t _ node b st, ap (λ i. actions.operand_of i (build.operand_of (f t) operand)) st.2.2 ∙ operand_same t node operand one, (py, refl), (pn, refl)),
    )),
    (λ h gy gn. (h, (gn, (gy, tt)))),
    λ later h py pn. (h, (((pn, (py, tt)), tt, refl, tt), tt)),
  )

  equals_made : (site : EffectSite) (value : effects.Operand) → OperandOf t site.node value →
      (y n : ℕ) (s : Building) → TestMade s (equals (f t) site value y n s) (EqualsAt t site value) y n
  equals_made site value one y n s = (
    grows_not s,
    (λ h later py pn. (
      h,
      λ b st. (
        (b.0, suc b.1),
        (
          st.0,
          compared (f t) site value,
          st.1,
          st.2.0,
          ap (λ i. actions.action_of i (compared (f t) site value)) st.2.1
              ∙ (λ i. effects.Compare (site_same t site.node (site_of_key site.node) refl i) Cmp.Eq (effects.Copied (site_same t site.node site refl i)) (operand_same t site.node value one i)),
          refl,
        ),
        (
          build.operand_of (f t) (moved site.node site.node),
          y,
          n,
          (st.0, st.1, st.2.2.0, st.2.2.1),
          ap (λ i. actions.operand_of i (build.operand_of (f t) (moved site.node site.node))) st.2.2.2 ∙ operand_same t site.node (moved site.node site.node) refl,
          (py, refl),
          (pn, refl),
        ),
      ),
    )),
    (λ h gy gn. (h, (gn, (gy, tt)))),
    λ later h py pn. (h, (((pn, (py, tt)), tt, refl, tt), (tt, tt))),
  )

  mutual
    test_made : (x : PatternTest) (y n : ℕ) (s : Building) → TestMade s (test (f t) x y n s) (TestAt t x) y n
    test_made (IsVariant site variant) y n s = (
      grows_not s,
      (λ h later py pn. (h, λ b st. (place_of (f t) site, y, n, ends_with t _ site.node b st, site_same t (t.node b.0 b.1) site (sym st.2.2), (py, refl), (pn, refl)))),
      (λ h gy gn. (h, (gn, (gy, tt)))),
      λ later h py pn. (h, (((pn, (py, tt)), tt, refl, tt), tt)),
    )
    test_made (IsNumber site value kind) y n s = equals_made site (effects.Number value kind) tt y n s
    test_made (IsTruth site value) y n s = equals_made site (effects.Truth value) tt y n s
    test_made (AnyOf alternatives) y n s = any_made alternatives y n s

    pub tests_made : (x : PatternTests) (y n : ℕ) (s : Building) → TestMade s (tests (f t) x y n s) (TestsAt t x) y n
    tests_made no_test y n s = (grows_not s, (λ h later py pn. (h, λ b st. goes y (ends_with t _ 0 b st) py)), (λ h gy gn. (h, (gy, tt))), λ later h py pn. (h, (((py, tt), tt, refl, tt), tt)))
    tests_made (a_test first rest) y n s =
        let r = tests (f t) rest y n s in
        let c = closed Kind.Plain r.0 r.1 in
        let g = closed_grows Kind.Plain r.0 r.1 in
        let second = tests_made rest y n s in
        let one = test_made first (length r.1.blocks) n c in (
          grows_on s r.1 _ second.0 (grows_on r.1 c _ g one.0),
          (λ h later py pn.
              let l2 = later_before t c _ one.0 later in
              let more = second.1 h (later_before t r.1 c g l2) py pn in
              let it = one.1 more.0 later (plain_stands t r.0 r.1 l2) pn in
              (it.0, λ b st. ((length r.1.blocks, 0), it.1 b st, more.1 (length r.1.blocks, 0) (closed_stands t Kind.Plain r.0 r.1 l2)))),
          (λ h gy gn.
              let more = second.2 h gy gn in
              let j = closed_length Kind.Plain r.0 r.1 in
              one.2 (closed_ranked Kind.Plain r.0 r.1 more.0 more.1) (more.0.begun, omega arith) (given_on (length s.blocks) (length c.blocks) n (let a = second.0.longer in omega arith) gn)),
          λ later h py pn.
              let l2 = later_before t c _ one.0 later in
              let more = second.3 (later_before t r.1 c g l2) h py pn in
              one.3 later (closed_tidy t Kind.Plain r.0 r.1 more.0 more.1) (kind_stands t Kind.Plain r.0 r.1 l2) pn,
        )

    any_made : (x : Alternatives) (y n : ℕ) (s : Building) → TestMade s (any_test (f t) x y n s) (AnyTestAt t x) y n
    any_made no_alternative y n s = (grows_not s, (λ h later py pn. (h, λ b st. goes n (ends_with t _ 0 b st) pn)), (λ h gy gn. (h, (gn, tt))), λ later h py pn. (h, (((pn, tt), tt, refl, tt), tt)))
    any_made (an_alternative first rest) y n s =
        let r = any_test (f t) rest y n s in
        let c = closed Kind.Plain r.0 r.1 in
        let g = closed_grows Kind.Plain r.0 r.1 in
        let second = any_made rest y n s in
        let one = tests_made first y (length r.1.blocks) c in (
          grows_on s r.1 _ second.0 (grows_on r.1 c _ g one.0),
          (λ h later py pn.
              let l2 = later_before t c _ one.0 later in
              let more = second.1 h (later_before t r.1 c g l2) py pn in
              let it = one.1 more.0 later py (plain_stands t r.0 r.1 l2) in
              (it.0, λ b st. ((length r.1.blocks, 0), it.1 b st, more.1 (length r.1.blocks, 0) (closed_stands t Kind.Plain r.0 r.1 l2)))),
          (λ h gy gn.
              let more = second.2 h gy gn in
              let j = closed_length Kind.Plain r.0 r.1 in
              one.2 (closed_ranked Kind.Plain r.0 r.1 more.0 more.1) (given_on (length s.blocks) (length c.blocks) y (let a = second.0.longer in omega arith) gy) (more.0.begun, omega arith)),
          λ later h py pn.
              let l2 = later_before t c _ one.0 later in
              let more = second.3 (later_before t r.1 c g l2) h py pn in
              one.3 later (closed_tidy t Kind.Plain r.0 r.1 more.0 more.1) py (kind_stands t Kind.Plain r.0 r.1 l2),
        )
