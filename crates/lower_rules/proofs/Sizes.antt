-- How many blocks are made: one lemma a rule of `Build`. An entry is paid for when it is made: leaving its scope, which
-- happens at most twice, makes three blocks for it each time; and a chain is made once.
use Rattle.std.proofs.Common.{◌≡◌, ℕ, zero, suc, ◌+◌, ◌*◌, ◌≤◌, ◌||◌, Bool, true, false, List, [], ◌∷◌, length, Some, None, slice_set, refl, ap, arith, length-append}
use Rattle.cfg_graph.specs.declared.graph.Kind.{Kind}
use Rattle.cfg_graph.specs.declared.statement.Stmt.{Stmt}
use Rattle.cfg_graph.specs.declared.terminator.Term.{Term}
use Rattle.cfg_graph.specs.declared.terminator.Unwind.{Unwind}
use Rattle.mir_base.specs.declared.trace.Why.{Why}
use Rattle.store_model.specs.Effects as effects
use Rattle.store_model.specs.Effects.{EffectSite, Action}
use Rattle.src_meaning.specs.Scopes.{Scopes, with_scope, innermost, without_operands, Exit}
use Rattle.src_meaning.specs.Forms.{moved}
use Rattle.src_meaning.specs.Shape.{PatternTest, IsVariant, IsNumber, IsTruth, AnyOf, PatternTests, no_test, a_test, Alternatives, no_alternative, an_alternative}
use Rattle.lower_rules.specs.Spots.{Ways, ways_in_loop}
use Rattle.lower_rules.specs.Build as build
use Rattle.lower_rules.specs.Build.{LoweringFrame, BlockRest, Building, ending, made, closed, reserved, way_of, is_left_by, Lowers, Done, ByStmt, ByTerm, change, nothing, from_changed, back_in, then_build, then_lower, joined, after_either, branches, with_exit, looped, place_of, done_by, chain, unwinding, is_last, act_by, act, panic_drops, drop_one, outer, leave_from, leave, in_scope, exits, jump, panics, tests, test, any_test, taken, replaces}
use Rattle.lower_rules.proofs.ScopeSizes.{Grew, all, first, grew_all, grew_more, grew_not, grew_on, innermost_grew, operands_add}
use Rattle.lower_rules.proofs.KnownChains.{chained, closed_length, debt_most, found, unwound_most}
use Rattle.lower_rules.proofs.DropSizes.{drops_most, jumped_most, left, parted}

pub set_length : {X : Type 0} (xs : List X) (n : ℕ) (x : X) → length (slice_set xs n x) ≡ length xs
set_length [] n x = refl
set_length (y ∷ xs) zero x = refl
set_length (y ∷ xs) (suc n) x = ap suc (set_length xs n x)

-- ---- how many blocks tests take beside the first
abbrev mutual
  pub test_size : PatternTest → ℕ
  test_size (IsVariant site variant) = 0
  test_size (IsNumber site value kind) = 0
  test_size (IsTruth site value) = 0
  test_size (AnyOf alternatives) = any_size alternatives

  pub tests_size : PatternTests → ℕ
  tests_size no_test = 0
  tests_size (a_test first rest) = suc (test_size first + tests_size rest)

  pub any_size : Alternatives → ℕ
  any_size no_alternative = 0
  any_size (an_alternative one rest) = suc (tests_size one + any_size rest)

module _ (f : LoweringFrame) where
  -- ---- tests
  mutual
    test_made : (x : PatternTest) (y n : ℕ) (s : Building) →
        length (test f x y n s).1.blocks ≤ length s.blocks + test_size x
    test_made (IsVariant site variant) y n s = omega arith
    test_made (IsNumber site value kind) y n s = omega arith
    test_made (IsTruth site value) y n s = omega arith
    test_made (AnyOf alternatives) y n s = any_made alternatives y n s

    pub tests_made : (x : PatternTests) (y n : ℕ) (s : Building) →
        length (tests f x y n s).1.blocks ≤ length s.blocks + tests_size x
    tests_made no_test y n s = omega arith
    tests_made (a_test first rest) y n s =
        let r = tests f rest y n s in
        let i = tests_made rest y n s in
        let j = closed_length Kind.Plain r.0 r.1 in
        let k = test_made first (length r.1.blocks) n (closed Kind.Plain r.0 r.1) in
        omega arith

    any_made : (x : Alternatives) (y n : ℕ) (s : Building) →
        length (any_test f x y n s).1.blocks ≤ length s.blocks + any_size x
    any_made no_alternative y n s = omega arith
    any_made (an_alternative one rest) y n s =
        let r = any_test f rest y n s in
        let i = any_made rest y n s in
        let j = closed_length Kind.Plain r.0 r.1 in
        let k = tests_made one y (length r.1.blocks) (closed Kind.Plain r.0 r.1) in
        omega arith

  -- ---- the cost of what is lowered, in scopes that never have more than so many entries
  module _ (W : ℕ) where
    -- so many blocks are made with what new entries pay, and there are so many of these
    pub record Cost (b e : ℕ) (P : Lowers) (c : Ways) (S : Scopes) (k : BlockRest) (s : Building) : Type 0 where
      pub g : ℕ
      pub few : g ≤ e
      pub paid : 6 * g ≤ b
      pub grew : Grew S (P.after S) g
      pub most : length (P.build c S k s).1.blocks + 6 * g ≤ length s.blocks + b

    abbrev pub Costs : ℕ → ℕ → Lowers → Type 0
    Costs b e P = (c : Ways) (S : Scopes) (k : BlockRest) (s : Building) → all S + e ≤ W → Cost b e P c S k s

    pub costs_most : (b e b' e' : ℕ) (P : Lowers) → b ≤ b' → e ≤ e' → Costs b e P → Costs b' e' P
    costs_most b e b' e' P lb le p c S k s w =
        let x = p c S k s (omega (arith, lb, le, w)) in
        let few = x.few in
        let paid = x.paid in
        let most = x.most in
        record { g = x.g; few = omega arith; paid = omega (arith, lb); grew = x.grew; most = omega (arith, lb) }

    pub change_costs : (n : ℕ) (g : Scopes → Scopes) → ((S : Scopes) → Grew S (g S) n) → Costs (6 * n) n (change g)
    change_costs n g grew c S k s w =
        record { g = n; few = omega arith; paid = omega arith; grew = grew S; most = omega arith }

    pub nothing_costs : Costs 0 0 nothing
    nothing_costs = change_costs 0 (λ S. S) (λ S. grew_not S 0)

    pub changed_costs : (n b e : ℕ) (g : Scopes → Scopes) (P : Lowers) → ((S : Scopes) → Grew S (g S) n) →
        Costs b e P → Costs (6 * n + b) (n + e) (from_changed g P)
    changed_costs n b e g P grew p c S k s w =
        let a = grew_all S (g S) n (grew S) in
        let x = p c (g S) k s (omega arith) in
        let few = x.few in
        let paid = x.paid in
        let most = x.most in
        record { g = n + x.g; few = omega arith; paid = omega arith; grew = grew_on S (g S) (P.after (g S)) n x.g (grew S) x.grew; most = omega arith }

    pub then_costs : (b1 e1 b2 e2 : ℕ) (P Q : Lowers) → Costs b1 e1 P → Costs b2 e2 Q →
        Costs (b1 + b2) (e1 + e2) (then_lower P Q)
    then_costs b1 e1 b2 e2 P Q p q c S k s w = by_end P.has_end
      where
        x0 : Cost b1 e1 P c S k s
        x0 = p c S k s (omega (arith, w))

        room : all (P.after S) + e2 ≤ W
        room = let a = grew_all S (P.after S) x0.g x0.grew in let few = x0.few in omega (arith, w)

        y : Cost b2 e2 Q c (P.after S) k s
        y = q c (P.after S) k s room

        after : (x : Cost b1 e1 P c S (Q.build c (P.after S) k s).0 (Q.build c (P.after S) k s).1) →
            Grew S (Q.after (P.after S)) (x.g + y.g)
        after x = grew_on S (P.after S) (Q.after (P.after S)) x.g y.g x.grew y.grew

        by_end : (z : Bool) → Cost (b1 + b2) (e1 + e2) (record (then_lower P Q) { build = then_build z P Q }) c S k s
        by_end true =
            let r = Q.build c (P.after S) k s in
            let x = p c S r.0 r.1 (omega (arith, w)) in
            let f1 = x.few in let f2 = y.few in let p1 = x.paid in let p2 = y.paid in let m1 = x.most in let m2 = y.most in
            record { g = x.g + y.g; few = omega arith; paid = omega arith; grew = after x; most = omega arith }
        by_end false =
            let f1 = x0.few in let f2 = y.few in let p1 = x0.paid in let p2 = y.paid in let m1 = x0.most in
            record { g = x0.g + y.g; few = omega arith; paid = omega arith; grew = grew_on S (P.after S) (Q.after (P.after S)) x0.g y.g x0.grew y.grew; most = omega arith }

    pub back_costs : (b e : ℕ) (P : Lowers) → Costs b e P → Costs b e (back_in P)
    back_costs b e P p c S k s w =
        let x = p c S k s w in
        let most = x.most in
        record { g = 0; few = omega arith; paid = omega arith; grew = grew_not S 0; most = omega arith }

    pub stmt_costs : (x : Bool) (n : ℕ) (stmt : Stmt) → Costs 0 0 (act_by f x n (ByStmt stmt))
    stmt_costs true n stmt c S k s w =
        record { g = 0; few = omega arith; paid = omega arith; grew = grew_not S 0; most = omega arith }
    stmt_costs false n stmt c S k s w =
        record { g = 0; few = omega arith; paid = omega arith; grew = grew_not S 0; most = omega arith }

    -- a block, and the chain of all that a panic may drop
    two_most : (term : ℕ → Unwind → Term) (node : ℕ) (S : Scopes) (k : BlockRest) (s : Building) → all S ≤ W →
        length (unwinding f (term (length s.blocks)) node (panic_drops f S) (closed Kind.Plain k s)).1.blocks ≤ length s.blocks + (W + 2)
    two_most term node S k s w =
        let u = unwound_most f (panic_drops f S) (closed Kind.Plain k s) in
        let d = drops_most f S in
        let j = closed_length Kind.Plain k s in
        omega (arith, w)

    by_costs : (x : Bool) (n : ℕ) (by : Done) → Costs (W + 2) 0 (act_by f x n by)
    by_costs x n (ByStmt stmt) c S k s w = costs_most 0 0 (W + 2) 0 (act_by f x n (ByStmt stmt)) (omega arith) (omega arith) (stmt_costs x n stmt) c S k s w
    by_costs true n (ByTerm term) c S k s w =
        let m = two_most term n S (ending (Term.Goto c.returns.block) n) s (omega (arith, w)) in
        record { g = 0; few = omega arith; paid = omega arith; grew = grew_not S 0; most = omega arith }
    by_costs false n (ByTerm term) c S k s w =
        let m = two_most term n S k s (omega (arith, w)) in
        record { g = 0; few = omega arith; paid = omega arith; grew = grew_not S 0; most = omega arith }

    pub act_costs : (n : ℕ) (action : Action) → Costs (W + 2) 0 (act f n action)
    act_costs n action = by_costs (is_last f action) n (done_by f action)

    pub emptied_costs : (site : EffectSite) →
        Costs (W + 2) 0 (record nothing { build = λ c S. drop_one f site (panic_drops f S) })
    emptied_costs site c S k s w =
        let m = two_most (Term.DropAt (place_of f site)) site.node S k s (omega (arith, w)) in
        record { g = 0; few = omega arith; paid = omega arith; grew = grew_not S 0; most = omega arith }

    -- scopes that have grown, seen as the innermost one and the others
    pub record Opened (Y Y' : Scopes) (g : ℕ) : Type 0 where
      pub a : ℕ
      pub b : ℕ
      pub sum : a + b ≤ g
      pub inside : first Y' ≤ first Y + a
      pub around : Grew (outer f Y) (outer f Y') b

    pub opened : (Y Y' : Scopes) (g : ℕ) → Grew Y Y' g → Opened Y Y' g
    opened [] [] g x = record { a = 0; b = 0; sum = omega arith; inside = omega arith; around = tt }
    opened [] (y' ∷ Y') g x = absurd x
    opened (y ∷ Y) [] g x = absurd x
    opened (y ∷ Y) (y' ∷ Y') g x = record { a = x.0; b = x.1; sum = x.4; inside = x.2; around = x.3 }

    -- what leaves the innermost scope, as it is found: so many blocks, and three for each entry of that scope
    pub record Leaving (x b e : ℕ) (P : Lowers) (c : Ways) (Y : Scopes) (k : BlockRest) (s : Building) : Type 0 where
      pub g : ℕ
      pub few : g ≤ e
      pub paid : 6 * g ≤ b
      pub grew : Grew (outer f Y) (P.after Y) g
      pub most : length (P.build c Y k s).1.blocks + 6 * g ≤ length s.blocks + b + x

    abbrev pub Leaves : ℕ → ℕ → Lowers → Type 0
    Leaves b e P =
        (c : Ways) (Y : Scopes) (k : BlockRest) (s : Building) → all Y + e ≤ W → Leaving (3 * first Y) b e P c Y k s

    -- where it is left f on two ways
    abbrev pub LeavesTwice : ℕ → ℕ → Lowers → Type 0
    LeavesTwice b e P =
        (c : Ways) (Y : Scopes) (k : BlockRest) (s : Building) → all Y + e ≤ W → Leaving (6 * first Y) b e P c Y k s

    pub then_leaves : (b e : ℕ) (P : Lowers) → Costs b e P → Leaves (b + (W + 1)) e (then_lower P (leave f))
    then_leaves b e P p c Y k s w = by_end P.has_end
      where
        by_end : (z : Bool) → Leaving (3 * first Y) (b + (W + 1)) e (record (then_lower P (leave f)) { build = then_build z P (leave f) }) c Y k s
        by_end true =
            let r = leave_from f (P.after Y) k s in
            let x = p c Y r.0 r.1 w in
            let o = opened Y (P.after Y) x.g x.grew in
            let l = left f (P.after Y) k s in
            let i = parted f Y in
            let a = grew_all (outer f Y) (outer f (P.after Y)) o.b o.around in
            let few = x.few in let paid = x.paid in let most = x.most in let sum = o.sum in let inside = o.inside in
            record { g = o.b; few = omega arith; paid = omega arith; grew = o.around; most = omega (arith, w) }
        by_end false =
            let x = p c Y k s w in
            let o = opened Y (P.after Y) x.g x.grew in
            let few = x.few in let paid = x.paid in let most = x.most in let sum = o.sum in
            record { g = o.b; few = omega arith; paid = omega arith; grew = o.around; most = omega arith }

    pub leaves_then : (b e : ℕ) (Q : Lowers) → Costs b e Q → Leaves (b + (W + 1)) e (then_lower (leave f) Q)
    leaves_then b e Q q c Y k s w =
        let i = parted f Y in
        let y = q c (outer f Y) k s (omega (arith, w)) in
        let r = Q.build c (outer f Y) k s in
        let l = left f Y r.0 r.1 in
        let few = y.few in let paid = y.paid in let most = y.most in
        record { g = y.g; few = omega arith; paid = omega arith; grew = y.grew; most = omega (arith, w) }

    pub scope_costs : (b e node : ℕ) (own : Bool) (P : Lowers) → Costs b e P →
        Costs (W + 1 + b) e (in_scope f node own P)
    scope_costs b e node own P p c S k s w =
        let x = then_leaves b e P p c (with_scope node own S) k s (omega (arith, w)) in
        let few = x.few in let paid = x.paid in let most = x.most in
        record { g = x.g; few = omega arith; paid = omega arith; grew = x.grew; most = omega arith }

    -- ---- branches, loops, jumps, panics
    abbrev pub TestCosts : ℕ → (ℕ → ℕ → Building → BlockRest × Building) → Type 0
    TestCosts n test = (y m : ℕ) (s : Building) → length (test y m s).1.blocks ≤ length s.blocks + n

    pub joined_most : (x : Bool) (node : ℕ) (k : BlockRest) (s : Building) →
        length (joined x node k s).1.blocks ≤ length s.blocks + 1
    joined_most true node k s = let j = closed_length Kind.Plain k s in omega arith
    joined_most false node k s = omega arith

    pub either_grew : (x : Bool) (P Q : Lowers) (S Y : Scopes) (g h : ℕ) → Grew S (P.after Y) g →
        Grew S (Q.after Y) h → Grew S (after_either x P Q Y) (g + h)
    either_grew true P Q S Y g h p q = grew_more S (P.after Y) g (g + h) (omega arith) p
    either_grew false P Q S Y g h p q = grew_more S (Q.after Y) h (g + h) (omega arith) q

    pub branches_costs : (n b1 e1 b2 e2 node : ℕ) (test : ℕ → ℕ → Building → BlockRest × Building) (P Q : Lowers) →
        TestCosts n test → Costs b1 e1 P → Costs b2 e2 Q →
        Costs (n + 3 + (b1 + b2)) (e1 + e2) (branches node test P Q)
    branches_costs n b1 e1 b2 e2 node test P Q t p q c S k s w =
        let j = joined (P.has_end || Q.has_end) node k s in
        let jm = joined_most (P.has_end || Q.has_end) node k s in
        let y = q c S j.0 j.1 (omega (arith, w)) in
        let rq = Q.build c S j.0 j.1 in
        let cq = closed_length Kind.Plain rq.0 rq.1 in
        let x = p c S j.0 (closed Kind.Plain rq.0 rq.1) (omega (arith, w)) in
        let rp = P.build c S j.0 (closed Kind.Plain rq.0 rq.1) in
        let cp = closed_length Kind.Plain rp.0 rp.1 in
        let tm = t (length rp.1.blocks) (length rq.1.blocks) (closed Kind.Plain rp.0 rp.1) in
        let f1 = x.few in
        let f2 = y.few in
        let p1 = x.paid in
        let p2 = y.paid in
        let m1 = x.most in
        let m2 = y.most in
        record { g = x.g + y.g; few = omega arith; paid = omega arith; grew = either_grew P.has_end P Q S S x.g y.g x.grew y.grew; most = omega arith }

    pub branches_leave : (n b1 e1 b2 e2 node : ℕ) (test : ℕ → ℕ → Building → BlockRest × Building) (P Q : Lowers) →
        TestCosts n test → Leaves b1 e1 P → Leaves b2 e2 Q →
        LeavesTwice (n + 3 + (b1 + b2)) (e1 + e2) (branches node test P Q)
    branches_leave n b1 e1 b2 e2 node test P Q t p q c Y k s w =
        let j = joined (P.has_end || Q.has_end) node k s in
        let jm = joined_most (P.has_end || Q.has_end) node k s in
        let y = q c Y j.0 j.1 (omega (arith, w)) in
        let rq = Q.build c Y j.0 j.1 in
        let cq = closed_length Kind.Plain rq.0 rq.1 in
        let x = p c Y j.0 (closed Kind.Plain rq.0 rq.1) (omega (arith, w)) in
        let rp = P.build c Y j.0 (closed Kind.Plain rq.0 rq.1) in
        let cp = closed_length Kind.Plain rp.0 rp.1 in
        let tm = t (length rp.1.blocks) (length rq.1.blocks) (closed Kind.Plain rp.0 rp.1) in
        let f1 = x.few in let f2 = y.few in let p1 = x.paid in let p2 = y.paid in let m1 = x.most in let m2 = y.most in
        record { g = x.g + y.g; few = omega arith; paid = omega arith; grew = either_grew P.has_end P Q (outer f Y) Y x.g y.g x.grew y.grew; most = omega arith }

    -- a scope that is entered, and left f on two ways
    pub entered_costs : (b1 e1 b2 e2 node : ℕ) (own : Bool) (P R : Lowers) → Costs b1 e1 P → LeavesTwice b2 e2 R →
        Costs (b1 + b2) (e1 + e2) (from_changed (with_scope node own) (then_lower P R))
    entered_costs b1 e1 b2 e2 node own P R p r c S k s w = by_end P.has_end
      where
        inner : Scopes
        inner = with_scope node own S

        Z : Scopes
        Z = P.after inner

        x0 : Cost b1 e1 P c inner k s
        x0 = p c inner k s (omega (arith, w))

        room : all Z + e2 ≤ W
        room = let a = grew_all inner Z x0.g x0.grew in let few = x0.few in omega (arith, w)

        y : Leaving (6 * first Z) b2 e2 R c Z k s
        y = r c Z k s room

        by_end : (z : Bool) → Cost (b1 + b2) (e1 + e2) (record (from_changed (with_scope node own) (then_lower P R)) { build = λ c S. then_build z P R c (with_scope node own S) }) c S k s
        by_end true =
            let rest = R.build c Z k s in
            let x = p c inner rest.0 rest.1 (omega (arith, w)) in
            let o = opened inner Z x.g x.grew in
            let f1 = x.few in let f2 = y.few in let p1 = x.paid in let p2 = y.paid in let m1 = x.most in let m2 = y.most in let sum = o.sum in let inside = o.inside in
            record { g = o.b + y.g; few = omega arith; paid = omega arith; grew = grew_on S (outer f Z) (R.after Z) o.b y.g o.around y.grew; most = omega arith }
        by_end false =
            let o = opened inner Z x0.g x0.grew in
            let f1 = x0.few in let f2 = y.few in let p1 = x0.paid in let p2 = y.paid in let m1 = x0.most in let sum = o.sum in
            record { g = o.b + y.g; few = omega arith; paid = omega arith; grew = grew_on S (outer f Z) (R.after Z) o.b y.g o.around y.grew; most = omega arith }

    exit_most : (x : Bool) (k : BlockRest) (s : Building) → length (with_exit x k s).blocks ≤ length s.blocks + 1
    exit_most true k s = let j = closed_length Kind.Plain k s in omega arith
    exit_most false k s = omega arith

    pub looped_costs : (b e id : ℕ) (turn : Lowers) → Costs b e turn → Costs (2 + b) e (looped id turn)
    looped_costs b e id turn p c S k s w =
        let start = with_exit (is_left_by id turn.jumps) k s in
        let again = ending (Term.Goto (length start.blocks)) 0 in
        let inside = ways_in_loop id (length S) (length s.blocks) (length start.blocks) (is_left_by id turn.jumps) c in
        let em = exit_most (is_left_by id turn.jumps) k s in
        let rm = length-append start.blocks (None ∷ []) in
        let x = p inside S again (reserved start) w in
        let code = turn.build inside S again (reserved start) in
        let fm = set_length code.1.blocks (length start.blocks) (Some (made Kind.Turn (length code.1.blocks) code.0)) in
        let most = x.most in
        record { g = 0; few = omega arith; paid = omega arith; grew = grew_not S 0; most = omega arith }

    exits_costs : (node : ℕ) (exit : Exit) → Costs (3 * W + 1) 0 (exits f node exit)
    exits_costs node exit c S k s w =
        let j = jumped_most f node (way_of exit c) S s in
        record { g = 0; few = omega arith; paid = omega arith; grew = grew_not S 0; most = omega (arith, w) }

    pub jump_costs : (b e node : ℕ) (exit : Exit) (P : Lowers) → Costs b e P →
        Costs (b + (3 * W + 1)) (e + 0) (jump f node exit P)
    jump_costs b e node exit P p = then_costs b e (3 * W + 1) 0 P (exits f node exit) p (exits_costs node exit)

    pub panic_most : (term : Unwind → Term) (node : ℕ) (S : Scopes) (s : Building) → all S ≤ W →
        length (unwinding f term node (panic_drops f S) s).1.blocks ≤ length s.blocks + (W + 1)
    panic_most term node S s w =
        let u = unwound_most f (panic_drops f S) s in let d = drops_most f S in omega (arith, w)

    pub panics_costs : (node : ℕ) (why : Why) → Costs (W + 1) 0 (panics f node why)
    panics_costs node why c S k s w =
        let m = panic_most (Term.Panic why) node S s (omega (arith, w)) in
        record { g = 0; few = omega arith; paid = omega arith; grew = grew_not S 0; most = omega arith }

    -- ---- assignment
    taken_grew : (keys : List ℕ) (S : Scopes) → Grew S (taken f keys S) 0
    taken_grew keys S = innermost_grew 0 (without_operands keys) (operands_add keys) S

    pub taken_costs : (b e : ℕ) (keys : List ℕ) (P : Lowers) → Costs b e P → Costs b e (from_changed (taken f keys) P)
    taken_costs b e keys P p = costs_most (6 * 0 + b) (0 + e) b e _ (omega arith) (omega arith) (changed_costs 0 b e (taken f keys) P (taken_grew keys) p)

    pub replaces_costs : (x : Bool) (site : EffectSite) (key : ℕ) → Costs (W + 3) 0 (replaces f x site key)
    replaces_costs true site key c S k s w =
        let put = build.with_line (build.put_into f site key) site.node k in
        let on = closed Kind.Plain put s in
        let j = closed_length Kind.Plain put s in
        let es = panic_drops f (taken f (key ∷ []) S) in
        let ch = (chained f es on).cost in
        let d = debt_most es on.shared in
        let m = drops_most f (taken f (key ∷ []) S) in
        let a = grew_all S (taken f (key ∷ []) S) 0 (taken_grew (key ∷ []) S) in
        let down = chain f es on in
        let unwound_rest = build.with_line (build.put_into f site key) site.node (ending (Term.Goto down.0) site.node) in
        let l = closed_length Kind.Cleanup unwound_rest down.1 in
        record { g = 0; few = omega arith; paid = omega arith; grew = taken_grew (key ∷ []) S; most = omega (arith, w) }
    replaces_costs false site key c S k s w =
        costs_most 0 0 (W + 3) 0 (replaces f false site key) (omega arith) (omega arith)
        (taken_costs 0 0 (key ∷ []) (act f site.node (effects.Put site (moved site.node key))) (stmt_costs (is_last f (effects.Put site (moved site.node key))) site.node (build.put_into f site key))) c S k s w
