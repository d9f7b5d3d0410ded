-- How many statements of a kind stand in what is built of code: each effect of the code makes its own, and code behind
-- code without an end makes none. So nothing is built twice.
use Rattle.std.proofs.Common.{◌≡◌, ℕ, zero, suc, ◌+◌, ◌<◌, ◌||◌, not, nat_lt, Bool, true, false, List, [], ◌∷◌, ◌++◌, length, map, Option, Some, None, slice_get, slice_set, refl, sym, ap, ◌∙◌, arith, ◌&&◌, ◌==◌, if◌then◌else◌, length-append, add-one}
use Rattle.std.proofs.lemmas.Option.{none-some, same_Some}
use Rattle.cfg_graph.specs.declared.graph.Kind.{Kind}
use Rattle.cfg_graph.specs.declared.statement.Stmt.{Stmt}
use Rattle.cfg_graph.specs.declared.terminator.Term.{Term}
use Rattle.cfg_graph.specs.declared.terminator.Unwind.{Unwind}
use Rattle.mir_base.specs.declared.trace.Why.{Why}
use Rattle.store_model.specs.Effects as effects
use Rattle.store_model.specs.Effects.{EffectSite, Action}
use Rattle.src_meaning.specs.Forms.{moved, Destination, LoopsAndGuards}
use Rattle.src_meaning.specs.Scopes.{Entry, Scopes, needing_drop, entry_site, Exit}
use Rattle.src_meaning.specs.Shape.{PatternTest, IsVariant, IsNumber, IsTruth, AnyOf, PatternTests, no_test, a_test, Alternatives, no_alternative, an_alternative}
use Rattle.lower_rules.specs.Spots.{JumpWay, Ways, ways_in_loop}
use Rattle.lower_rules.specs.Build.{LoweringFrame, NodeLine, BlockRest, MadeBlock, SharedEnd, Resumes, GoesTo, DropsThen, Building, ending, with_line, made, closed, reserved, filled, end_among, end_kind, end_rest, listed_at, shared_or, share, enters, jump_of, way_of, is_left_by, Lowers, jumps_if, Done, ByStmt, ByTerm, change, nothing, from_changed, back_in, then_build, then_lower, joined, branches, with_exit, looped, place_of, operand_of, done_by, chain, unwind_to, unwinding, done, is_last, act_by, act, panic_drops, drop_one, drop_all, drops_before, drops_to, leave_by, leave_from, leave, leaves_one, leaves_before, leaves_to, exits, panics, compared, tests, test as one_test, any_test, taken, put_into, replaces_from}
use Rattle.lower_rules.specs.Lower as lower
use Rattle.lower_rules.specs.Lower.{LowersArm, NodeLower, guard_from}
use Rattle.store_model.specs.Places.Place.{Place}
use Rattle.mir_ty.proofs.ListLemmas.{slice_get-last, slice_get-below}
use Rattle.lower_rules.proofs.LaidBlocks.{Grows, grows_not, grows_on, closed_grows}

-- sums to which nothing is added
no_more : (c a b : ℕ) → c ≡ 0 → a ≡ c + b → a ≡ b
no_more c a b z e = let r : a ≡ b = omega (z, e, arith) in r

nothing_and : (c a b : ℕ) → c ≡ 0 → a ≡ b → c + a ≡ b
nothing_and c a b z e = let r : c + a ≡ b = omega (z, e, arith) in r

nothing_twice : (c a : ℕ) → c ≡ 0 → (c + 0) + a ≡ a
nothing_twice c a z = let r : (c + 0) + a ≡ a = omega (z, arith) in r

-- what comes behind code is built only where the code has an end
abbrev pub if_end : Bool → ℕ → ℕ
if_end true n = n
if_end false n = 0

module _ (f : LoweringFrame) (passes : Stmt → Bool) (none_compared : (site : EffectSite) (value : effects.Operand) → passes (compared f site value) ≡ false) where
  abbrev pub one_if : Bool → ℕ
  one_if true = 1
  one_if false = 0

  abbrev pub counted : Stmt → ℕ
  counted stmt = one_if (passes stmt)

  abbrev in_lines : List NodeLine → ℕ
  in_lines [] = 0
  in_lines (l ∷ ls) = counted l.stmt + in_lines ls

  abbrev pub in_stmts : List Stmt → ℕ
  in_stmts [] = 0
  in_stmts (stmt ∷ stmts) = counted stmt + in_stmts stmts

  abbrev pub in_block : Option MadeBlock → ℕ
  in_block None = 0
  in_block (Some m) = in_stmts m.block.stmts

  abbrev pub in_blocks : List (Option MadeBlock) → ℕ
  in_blocks [] = 0
  in_blocks (b ∷ bs) = in_block b + in_blocks bs

  -- those of a building, of a rest of lines, and of both
  abbrev pub total : Building → ℕ
  total s = in_blocks s.blocks

  abbrev pub rest : BlockRest → ℕ
  rest k = in_lines k.lines

  abbrev pub both : BlockRest × Building → ℕ
  both r = rest r.0 + total r.1

  lines_same : (ls : List NodeLine) → in_stmts (map (λ l. l.stmt) ls) ≡ in_lines ls
  lines_same [] = refl
  lines_same (l ∷ ls) = ap (λ (n : ℕ). counted l.stmt + n) (lines_same ls)

  push_total : (bs : List (Option MadeBlock)) (b : Option MadeBlock) → in_blocks (bs ++ b ∷ []) ≡ in_blocks bs + in_block b
  push_total [] b = let e : in_block b + 0 ≡ 0 + in_block b = omega arith in e
  push_total (x ∷ bs) b =
      let ih = push_total bs b in
      let e : in_block x + in_blocks (bs ++ b ∷ []) ≡ (in_block x + in_blocks bs) + in_block b = omega (ih, arith) in e

  set_total : (bs : List (Option MadeBlock)) (n : ℕ) (m : MadeBlock) → slice_get bs n ≡ Some None → in_blocks (slice_set bs n (Some m)) ≡ in_blocks bs + in_stmts m.block.stmts
  set_total [] n m e = absurd (none-some None e)
  set_total (x ∷ bs) zero m e =
      let none : in_block x ≡ 0 = ap in_block (same_Some x None e) in
      let r : in_stmts m.block.stmts + in_blocks bs ≡ (in_block x + in_blocks bs) + in_stmts m.block.stmts = omega (none, arith) in r
  set_total (x ∷ bs) (suc n) m e =
      let ih = set_total bs n m e in
      let r : in_block x + in_blocks (slice_set bs n (Some m)) ≡ (in_block x + in_blocks bs) + in_stmts m.block.stmts = omega (ih, arith) in r

  closed_total : (kind : Kind) (k : BlockRest) (s : Building) → total (closed kind k s) ≡ rest k + total s
  closed_total kind k s =
      let p = push_total s.blocks (Some (made kind (length s.blocks) k)) in
      let l = lines_same k.lines in
      let r : total (closed kind k s) ≡ rest k + total s = omega (p, l, arith) in r

  reserved_total : (s : Building) → total (reserved s) ≡ total s
  reserved_total s = let p = push_total s.blocks None in let r : total (reserved s) ≡ total s = omega (p, arith) in r

  pub filled_total : (kind : Kind) (n : ℕ) (k : BlockRest) (s : Building) → slice_get s.blocks n ≡ Some None → total (filled kind n k s) ≡ rest k + total s
  filled_total kind n k s e =
      let p = set_total s.blocks n (made kind (length s.blocks) k) e in
      let l = lines_same k.lines in
      let r : total (filled kind n k s) ≡ rest k + total s = omega (p, l, arith) in r

  -- ---- blocks that are shared, and chains of drops
  none_in : (e : SharedEnd) → rest (end_rest f e) ≡ 0
  none_in Resumes = refl
  none_in (GoesTo block) = refl
  none_in (DropsThen key onward unwind) = refl

  share_total : (e : SharedEnd) (s : Building) → total (share f e s).1 ≡ total s
  share_total e s = by (end_among e (s.shared (listed_at e)))
    where
      by : (o : Option ℕ) → total (shared_or f o e s).1 ≡ total s
      by (Some n) = refl
      by None =
          let c = closed_total (end_kind f e) (end_rest f e) s in
          let none = none_in e in
          let i : total (closed (end_kind f e) (end_rest f e) s) ≡ total s = omega (c, none, arith) in i

  share_grows : (e : SharedEnd) (s : Building) → Grows s (share f e s).1
  share_grows e s = by (end_among e (s.shared (listed_at e)))
    where
      by : (o : Option ℕ) → Grows s (shared_or f o e s).1
      by (Some n) = grows_not s
      by None = let g = closed_grows (end_kind f e) (end_rest f e) s in record { longer = g.longer; keeps = g.keeps }

  abbrev drop_end : Entry → ℕ × Building → SharedEnd
  drop_end x r = DropsThen x.key r.0 Unwind.Abort

  chain_total : (es : List Entry) (s : Building) → total (chain f es s).1 ≡ total s
  chain_total [] s = share_total Resumes s
  chain_total (x ∷ es) s = let r = chain f es s in share_total (drop_end x r) r.1 ∙ chain_total es s

  chain_grows : (es : List Entry) (s : Building) → Grows s (chain f es s).1
  chain_grows [] s = share_grows Resumes s
  chain_grows (x ∷ es) s = let r = chain f es s in grows_on s r.1 _ (chain_grows es s) (share_grows (drop_end x r) r.1)

  unwind_total : (es : List Entry) (s : Building) → total (unwind_to f es s).1 ≡ total s
  unwind_total [] s = refl
  unwind_total (x ∷ es) s = chain_total (x ∷ es) s

  unwind_grows : (es : List Entry) (s : Building) → Grows s (unwind_to f es s).1
  unwind_grows [] s = grows_not s
  unwind_grows (x ∷ es) s = chain_grows (x ∷ es) s

  unwinding_both : (term : Unwind → Term) (node : ℕ) (es : List Entry) (s : Building) → both (unwinding f term node es s) ≡ total s
  unwinding_both term node es s = nothing_and 0 _ _ refl (unwind_total es s)

  -- ---- drops, and scopes that are left
  dropped_both : (site : EffectSite) (es : List Entry) (k : BlockRest) (s : Building) → both (drop_one f site es k s) ≡ rest k + total s
  dropped_both site es k s = nothing_and 0 _ _ refl (unwind_total es (closed Kind.Plain k s)) ∙ closed_total Kind.Plain k s

  dropped_grows : (site : EffectSite) (es : List Entry) (k : BlockRest) (s : Building) → Grows s (drop_one f site es k s).1
  dropped_grows site es k s = grows_on s (closed Kind.Plain k s) _ (closed_grows Kind.Plain k s) (unwind_grows es (closed Kind.Plain k s))

  drops_both : (es : List Entry) (S : Scopes) (k : BlockRest) (s : Building) → both (drop_all f es S k s) ≡ rest k + total s
  drops_both [] S k s = refl
  drops_both (e ∷ es) S k s =
      let r = drop_all f es S k s in
      dropped_both (entry_site e) (es ++ panic_drops f S) r.0 r.1 ∙ drops_both es S k s

  drops_grow : (es : List Entry) (S : Scopes) (k : BlockRest) (s : Building) → Grows s (drop_all f es S k s).1
  drops_grow [] S k s = grows_not s
  drops_grow (e ∷ es) S k s =
      let r = drop_all f es S k s in
      grows_on s r.1 _ (drops_grow es S k s) (dropped_grows (entry_site e) (es ++ panic_drops f S) r.0 r.1)

  -- drops before a jump
  before_total : (es : List Entry) (S : Scopes) (to : ℕ × Building) → total (drops_before f es S to).1 ≡ total to.1
  before_total [] S to = refl
  before_total (e ∷ es) S to =
      let r = drops_before f es S to in
      let down = unwind_to f (es ++ panic_drops f S) r.1 in
      share_total (DropsThen e.key r.0 down.0) down.1 ∙ (unwind_total (es ++ panic_drops f S) r.1 ∙ before_total es S to)

  before_grows : (es : List Entry) (S : Scopes) (to : ℕ × Building) → Grows to.1 (drops_before f es S to).1
  before_grows [] S to = grows_not to.1
  before_grows (e ∷ es) S to =
      let r = drops_before f es S to in
      let down = unwind_to f (es ++ panic_drops f S) r.1 in
      grows_on to.1 r.1 _ (before_grows es S to) (grows_on r.1 down.1 _ (unwind_grows (es ++ panic_drops f S) r.1) (share_grows (DropsThen e.key r.0 down.0) down.1))

  to_both : (es : List Entry) (S : Scopes) (to : ℕ × Building) (none : BlockRest × Building) (n : ℕ) → total to.1 ≡ n → both none ≡ n → both (drops_to f es S to none) ≡ n
  to_both [] S to none n at without = without
  to_both (e ∷ es) S to none n at without =
      let r = drops_before f es S to in
      unwinding_both (Term.DropAt (place_of f (entry_site e)) r.0) e.key (es ++ panic_drops f S) r.1 ∙ (before_total es S to ∙ at)

  to_grows : (es : List Entry) (S : Scopes) (to : ℕ × Building) (none : BlockRest × Building) (s : Building) → Grows s to.1 → Grows s none.1 → Grows s (drops_to f es S to none).1
  to_grows [] S to none s at without = without
  to_grows (e ∷ es) S to none s at without =
      let r = drops_before f es S to in
      grows_on s to.1 _ at (grows_on to.1 r.1 _ (before_grows es S to) (unwind_grows (es ++ panic_drops f S) r.1))

  -- a rest that is a jump has no lines
  no_lines : (k : BlockRest) (block : ℕ) → jump_of k ≡ Some block → rest k ≡ 0
  no_lines k block = by (k.node == 0)
    where
      by_lines : (lines : List NodeLine) (term : Term) → enters lines term ≡ Some block → in_lines lines ≡ 0
      by_lines [] term e = refl
      by_lines (l ∷ lines) term e = absurd (none-some block e)

      by : (x : Bool) → (if x then enters k.lines k.term else None) ≡ Some block → rest k ≡ 0
      by true e = by_lines k.lines k.term e
      by false e = absurd (none-some block e)

  leave_both : (S : Scopes) (k : BlockRest) (s : Building) → both (leave_from f S k s) ≡ rest k + total s
  leave_both [] k s = refl
  leave_both (x ∷ S) k s = by (jump_of k) refl
    where
      by : (o : Option ℕ) → jump_of k ≡ o → both (leave_by f o (needing_drop f.items x.entries) S k s) ≡ rest k + total s
      by (Some block) e =
          to_both (needing_drop f.items x.entries) S (share f (GoesTo block) s) (k, s) (rest k + total s)
          (share_total (GoesTo block) s ∙ (let none = no_lines k block e in let i : total s ≡ rest k + total s = omega (none, arith) in i)) refl
      by None e = drops_both (needing_drop f.items x.entries) S k s

  leave_grows : (S : Scopes) (k : BlockRest) (s : Building) → Grows s (leave_from f S k s).1
  leave_grows [] k s = grows_not s
  leave_grows (x ∷ S) k s = by (jump_of k)
    where
      by : (o : Option ℕ) → Grows s (leave_by f o (needing_drop f.items x.entries) S k s).1
      by (Some block) = to_grows (needing_drop f.items x.entries) S (share f (GoesTo block) s) (k, s) s (share_grows (GoesTo block) s) (grows_not s)
      by None = drops_grow (needing_drop f.items x.entries) S k s

  before_leaves_total : (way : JumpWay) (S : Scopes) (s : Building) → total (leaves_before f way S s).1 ≡ total s
  before_leaves_total way [] s = share_total (GoesTo way.block) s
  before_leaves_total way (x ∷ S) s = by (before_leaves_total way S s) (not (nat_lt (length S) way.base))
    where
      by : total (leaves_before f way S s).1 ≡ total s → (b : Bool) → total (leaves_one f b (drops_before f (needing_drop f.items x.entries) S (leaves_before f way S s)) (share f (GoesTo way.block) s)).1 ≡ total s
      by ih true = before_total (needing_drop f.items x.entries) S (leaves_before f way S s) ∙ ih
      by ih false = share_total (GoesTo way.block) s

  before_leaves_grow : (way : JumpWay) (S : Scopes) (s : Building) → Grows s (leaves_before f way S s).1
  before_leaves_grow way [] s = share_grows (GoesTo way.block) s
  before_leaves_grow way (x ∷ S) s = by (before_leaves_grow way S s) (not (nat_lt (length S) way.base))
    where
      by : Grows s (leaves_before f way S s).1 → (b : Bool) → Grows s (leaves_one f b (drops_before f (needing_drop f.items x.entries) S (leaves_before f way S s)) (share f (GoesTo way.block) s)).1
      by ih true = grows_on s (leaves_before f way S s).1 _ ih (before_grows (needing_drop f.items x.entries) S (leaves_before f way S s))
      by ih false = share_grows (GoesTo way.block) s

  jumped_both : (node : ℕ) (way : JumpWay) (S : Scopes) (s : Building) → both (leaves_to f node way S s) ≡ total s
  jumped_both node way [] s = nothing_and 0 _ _ refl refl
  jumped_both node way (x ∷ S) s = by (jumped_both node way S s) (not (nat_lt (length S) way.base))
    where
      by : both (leaves_to f node way S s) ≡ total s → (b : Bool) →
          both (leaves_one f b (drops_to f (needing_drop f.items x.entries) S (leaves_before f way S s) (leaves_to f node way S s)) (ending (Term.Goto way.block) node, s)) ≡ total s
      by ih true = to_both (needing_drop f.items x.entries) S (leaves_before f way S s) (leaves_to f node way S s) (total s) (before_leaves_total way S s) ih
      by ih false = nothing_and 0 _ _ refl refl

  jumped_grows : (node : ℕ) (way : JumpWay) (S : Scopes) (s : Building) → Grows s (leaves_to f node way S s).1
  jumped_grows node way [] s = grows_not s
  jumped_grows node way (x ∷ S) s = by (jumped_grows node way S s) (not (nat_lt (length S) way.base))
    where
      by : Grows s (leaves_to f node way S s).1 → (b : Bool) →
          Grows s (leaves_one f b (drops_to f (needing_drop f.items x.entries) S (leaves_before f way S s) (leaves_to f node way S s)) (ending (Term.Goto way.block) node, s)).1
      by ih true = to_grows (needing_drop f.items x.entries) S (leaves_before f way S s) (leaves_to f node way S s) s (before_leaves_grow way S s) ih
      by ih false = grows_not s

  -- ---- tests
  equals_both : (site : EffectSite) (value : effects.Operand) → counted (compared f site value) ≡ 0
  equals_both site value = ap one_if (none_compared site value)

  mutual
    test_both : (t : PatternTest) (y n : ℕ) (s : Building) → both (one_test f t y n s) ≡ total s
    test_both (IsVariant site variant) y n s = nothing_and 0 _ _ refl refl
    test_both (IsNumber site value kind) y n s = nothing_twice _ _ (equals_both site (effects.Number value kind))
    test_both (IsTruth site value) y n s = nothing_twice _ _ (equals_both site (effects.Truth value))
    test_both (AnyOf alternatives) y n s = any_both alternatives y n s

    pub tests_both : (ts : PatternTests) (y n : ℕ) (s : Building) → both (tests f ts y n s) ≡ total s
    tests_both no_test y n s = nothing_and 0 _ _ refl refl
    tests_both (a_test first later) y n s =
        let r = tests f later y n s in
        test_both first (length r.1.blocks) n (closed Kind.Plain r.0 r.1) ∙ closed_total Kind.Plain r.0 r.1 ∙ tests_both later y n s

    any_both : (ts : Alternatives) (y n : ℕ) (s : Building) → both (any_test f ts y n s) ≡ total s
    any_both no_alternative y n s = nothing_and 0 _ _ refl refl
    any_both (an_alternative one later) y n s =
        let r = any_test f later y n s in
        tests_both one y (length r.1.blocks) (closed Kind.Plain r.0 r.1) ∙ closed_total Kind.Plain r.0 r.1 ∙ any_both later y n s

  mutual
    test_grows : (t : PatternTest) (y n : ℕ) (s : Building) → Grows s (one_test f t y n s).1
    test_grows (IsVariant site variant) y n s = grows_not s
    test_grows (IsNumber site value kind) y n s = grows_not s
    test_grows (IsTruth site value) y n s = grows_not s
    test_grows (AnyOf alternatives) y n s = any_grows alternatives y n s

    pub tests_grow : (ts : PatternTests) (y n : ℕ) (s : Building) → Grows s (tests f ts y n s).1
    tests_grow no_test y n s = grows_not s
    tests_grow (a_test first later) y n s =
        let r = tests f later y n s in
        grows_on s (closed Kind.Plain r.0 r.1) _ (grows_on s r.1 (closed Kind.Plain r.0 r.1) (tests_grow later y n s) (closed_grows Kind.Plain r.0 r.1))
        (test_grows first (length r.1.blocks) n (closed Kind.Plain r.0 r.1))

    any_grows : (ts : Alternatives) (y n : ℕ) (s : Building) → Grows s (any_test f ts y n s).1
    any_grows no_alternative y n s = grows_not s
    any_grows (an_alternative one later) y n s =
        let r = any_test f later y n s in
        grows_on s (closed Kind.Plain r.0 r.1) _ (grows_on s r.1 (closed Kind.Plain r.0 r.1) (any_grows later y n s) (closed_grows Kind.Plain r.0 r.1))
        (tests_grow one y (length r.1.blocks) (closed Kind.Plain r.0 r.1))

  -- ---- code that is built: how many it adds; what comes behind it stands once, if it has an end
  pub record Adds (P : Lowers) (m : ℕ) : Type 0 where
    pub grows : (c : Ways) (S : Scopes) (k : BlockRest) (s : Building) → Grows s (P.build c S k s).1
    pub adds : (c : Ways) (S : Scopes) (k : BlockRest) (s : Building) → both (P.build c S k s) ≡ m + (if_end P.has_end (rest k) + total s)

  from_nothing : (a b : ℕ) → a ≡ b → a ≡ 0 + b
  from_nothing a b e = let r : a ≡ 0 + b = omega (e, arith) in r

  pub change_adds : (g : Scopes → Scopes) → Adds (change g) 0
  change_adds g = record { grows = λ c S k s. grows_not s; adds = λ c S k s. from_nothing _ _ refl }

  pub changed_adds : (g : Scopes → Scopes) (P : Lowers) (m : ℕ) → Adds P m → Adds (from_changed g P) m
  changed_adds g P m a = record { grows = λ c S k s. a.grows c (g S) k s; adds = λ c S k s. a.adds c (g S) k s }

  pub back_adds : (P : Lowers) (m : ℕ) → Adds P m → Adds (back_in P) m
  back_adds P m a = record { grows = λ c S k s. a.grows c S k s; adds = λ c S k s. a.adds c S k s }

  -- one before the other
  then_both : (P Q : Lowers) (m n : ℕ) (x : Bool) → P.has_end ≡ x → Adds P m → Adds Q n → (c : Ways) (S : Scopes) (k : BlockRest) (s : Building) →
      both (then_build x P Q c S k s) ≡ (m + if_end x n) + (if_end (x && Q.has_end) (rest k) + total s)
  then_both P Q m n true e a b c S k s =
      let r = Q.build c (P.after S) k s in
      let one = a.adds c S r.0 r.1 in
      let two = b.adds c (P.after S) k s in
      let z : if_end P.has_end (rest r.0) ≡ rest r.0 = ap (λ (x : Bool). if_end x (rest r.0)) e in
      let g : both (P.build c S r.0 r.1) ≡ (m + n) + (if_end Q.has_end (rest k) + total s) = omega (one, two, z, arith) in
      g
  then_both P Q m n false e a b c S k s =
      let one = a.adds c S k s in
      let z : if_end P.has_end (rest k) ≡ 0 = ap (λ (x : Bool). if_end x (rest k)) e in
      let g : both (P.build c S k s) ≡ (m + 0) + (0 + total s) = omega (one, z, arith) in
      g

  then_grows : (P Q : Lowers) (m n : ℕ) (x : Bool) → Adds P m → Adds Q n → (c : Ways) (S : Scopes) (k : BlockRest) (s : Building) → Grows s (then_build x P Q c S k s).1
  then_grows P Q m n true a b c S k s =
      let r = Q.build c (P.after S) k s in grows_on s r.1 _ (b.grows c (P.after S) k s) (a.grows c S r.0 r.1)
  then_grows P Q m n false a b c S k s = a.grows c S k s

  pub then_adds : (P Q : Lowers) (m n : ℕ) → Adds P m → Adds Q n → Adds (then_lower P Q) (m + if_end P.has_end n)
  then_adds P Q m n a b = record {
    grows = λ c S k s. then_grows P Q m n P.has_end a b c S k s;
    adds = λ c S k s. then_both P Q m n P.has_end refl a b c S k s;
  }

  -- what would come behind code without an end is not built
  pub cut_adds : (P Q : Lowers) (m : ℕ) → P.has_end ≡ false → Adds P m → Adds (then_lower P Q) m
  cut_adds P Q m e a = record {
    grows = λ c S k s. by_grows P.has_end e c S k s;
    adds = λ c S k s. by_both P.has_end e c S k s;
  }
    where
      by_grows : (x : Bool) → x ≡ false → (c : Ways) (S : Scopes) (k : BlockRest) (s : Building) → Grows s (then_build x P Q c S k s).1
      by_grows true e c S k s = absurd (let never : false ≡ true = sym e in cc)
      by_grows false e c S k s = a.grows c S k s

      by_both : (x : Bool) → x ≡ false → (c : Ways) (S : Scopes) (k : BlockRest) (s : Building) → both (then_build x P Q c S k s) ≡ m + (if_end (x && Q.has_end) (rest k) + total s)
      by_both true d c S k s = absurd (let never : false ≡ true = sym d in cc)
      by_both false d c S k s =
          let one = a.adds c S k s in
          let z : if_end P.has_end (rest k) ≡ 0 = ap (λ (x : Bool). if_end x (rest k)) e in
          let r : both (P.build c S k s) ≡ m + (0 + total s) = omega (one, z, arith) in
          r

  -- two ways on: what is behind them is built once, in the block that joins them
  pub if_end_none : (x : Bool) → if_end x 0 ≡ 0
  if_end_none true = refl
  if_end_none false = refl

  no_rest : (x z : Bool) → (x ≡ true → z ≡ true) → (node : ℕ) (k : BlockRest) (s : Building) → if_end x (rest (joined z node k s).0) ≡ 0
  no_rest x true h node k s = if_end_none x
  no_rest true false h node k s = absurd (let never : false ≡ true = h refl in cc)
  no_rest false false h node k s = refl

  joined_total : (z : Bool) (node : ℕ) (k : BlockRest) (s : Building) → total (joined z node k s).1 ≡ if_end z (rest k) + total s
  joined_total true node k s = closed_total Kind.Plain k s
  joined_total false node k s = from_nothing _ _ refl

  joined_grows : (z : Bool) (node : ℕ) (k : BlockRest) (s : Building) → Grows s (joined z node k s).1
  joined_grows true node k s = closed_grows Kind.Plain k s
  joined_grows false node k s = grows_not s

  left_or : (x y : Bool) → x ≡ true → x || y ≡ true
  left_or true y e = refl
  left_or false y e = absurd (let never : false ≡ true = e in cc)

  right_or : (x y : Bool) → y ≡ true → x || y ≡ true
  right_or true y e = refl
  right_or false y e = e

  module _ (node : ℕ) (x : ℕ → ℕ → Building → BlockRest × Building) (P Q : Lowers) (m n : ℕ)
      (tested : (y n : ℕ) (s : Building) → both (x y n s) ≡ total s) (tested_grows : (y n : ℕ) (s : Building) → Grows s (x y n s).1) (a : Adds P m) (b : Adds Q n) where
    abbrev join : BlockRest → Building → BlockRest × Building
    join k s = joined (P.has_end || Q.has_end) node k s

    abbrev no_code : Ways → Scopes → BlockRest → Building → BlockRest × Building
    no_code c S k s = Q.build c S (join k s).0 (join k s).1

    abbrev no_made : Ways → Scopes → BlockRest → Building → Building
    no_made c S k s = closed Kind.Plain (no_code c S k s).0 (no_code c S k s).1

    abbrev yes_code : Ways → Scopes → BlockRest → Building → BlockRest × Building
    yes_code c S k s = P.build c S (join k s).0 (no_made c S k s)

    abbrev yes_made : Ways → Scopes → BlockRest → Building → Building
    yes_made c S k s = closed Kind.Plain (yes_code c S k s).0 (yes_code c S k s).1

    abbrev whole : Ways → Scopes → BlockRest → Building → BlockRest × Building
    whole c S k s = x (length (yes_code c S k s).1.blocks) (length (no_code c S k s).1.blocks) (yes_made c S k s)

    branches_both : (c : Ways) (S : Scopes) (k : BlockRest) (s : Building) → both (whole c S k s) ≡ (m + n) + (if_end (P.has_end || Q.has_end) (rest k) + total s)
    branches_both c S k s =
        let z = P.has_end || Q.has_end in
        let one = a.adds c S (join k s).0 (no_made c S k s) in
        let two = b.adds c S (join k s).0 (join k s).1 in
        let no1 = no_rest P.has_end z (left_or P.has_end Q.has_end) node k s in
        let no2 = no_rest Q.has_end z (right_or P.has_end Q.has_end) node k s in
        let t1 = closed_total Kind.Plain (no_code c S k s).0 (no_code c S k s).1 in
        let t2 = closed_total Kind.Plain (yes_code c S k s).0 (yes_code c S k s).1 in
        let t = tested (length (yes_code c S k s).1.blocks) (length (no_code c S k s).1.blocks) (yes_made c S k s) in
        let j = joined_total z node k s in
        let g : both (whole c S k s) ≡ (m + n) + (if_end z (rest k) + total s) = omega (one, two, no1, no2, t1, t2, t, j, arith) in
        g

    pub branches_adds : Adds (branches node x P Q) (m + n)
    branches_adds = record {
      grows = λ c S k s.
          grows_on s (join k s).1 _ (joined_grows (P.has_end || Q.has_end) node k s)
          (grows_on (join k s).1 (no_code c S k s).1 _ (b.grows c S (join k s).0 (join k s).1)
          (grows_on (no_code c S k s).1 (no_made c S k s) _ (closed_grows Kind.Plain (no_code c S k s).0 (no_code c S k s).1)
          (grows_on (no_made c S k s) (yes_code c S k s).1 _ (a.grows c S (join k s).0 (no_made c S k s))
          (grows_on (yes_code c S k s).1 (yes_made c S k s) _ (closed_grows Kind.Plain (yes_code c S k s).0 (yes_code c S k s).1)
          (tested_grows (length (yes_code c S k s).1.blocks) (length (no_code c S k s).1.blocks) (yes_made c S k s))))));
      adds = λ c S k s. branches_both c S k s;
    }

  -- an effect, which is a statement or an end of a block
  abbrev pub in_done : Done → ℕ
  in_done (ByStmt stmt) = counted stmt
  in_done (ByTerm term) = 0

  done_both : (node : ℕ) (by : Done) (S : Scopes) (k : BlockRest) (s : Building) → both (done f node by S k s) ≡ in_done by + (rest k + total s)
  done_both node (ByStmt stmt) S k s = let g : (counted stmt + rest k) + total s ≡ counted stmt + (rest k + total s) = omega arith in g
  done_both node (ByTerm term) S k s =
      from_nothing _ _ (unwinding_both (term (length s.blocks)) node (panic_drops f S) (closed Kind.Plain k s) ∙ closed_total Kind.Plain k s)

  done_grows : (node : ℕ) (by : Done) (S : Scopes) (k : BlockRest) (s : Building) → Grows s (done f node by S k s).1
  done_grows node (ByStmt stmt) S k s = grows_not s
  done_grows node (ByTerm term) S k s =
      grows_on s (closed Kind.Plain k s) _ (closed_grows Kind.Plain k s) (unwind_grows (panic_drops f S) (closed Kind.Plain k s))

  act_by_adds : (last : Bool) (node : ℕ) (by : Done) → Adds (act_by f last node by) (in_done by)
  act_by_adds false node by = record { grows = λ c S k s. done_grows node by S k s; adds = λ c S k s. done_both node by S k s }
  act_by_adds true node by = record {
    grows = λ c S k s. done_grows node by S (ending (Term.Goto c.returns.block) node) s;
    adds = λ c S k s. done_both node by S (ending (Term.Goto c.returns.block) node) s;
  }

  pub act_adds : (node : ℕ) (action : Action) → Adds (act f node action) (in_done (done_by f action))
  act_adds node action = act_by_adds (is_last f action) node (done_by f action)

  -- scopes that are left, jumps, and panics
  pub leave_adds : Adds (leave f) 0
  leave_adds = record { grows = λ c S k s. leave_grows S k s; adds = λ c S k s. from_nothing _ _ (leave_both S k s) }

  nothing_behind : (a b : ℕ) → a ≡ b → a ≡ 0 + (0 + b)
  nothing_behind a b e = let r : a ≡ 0 + (0 + b) = omega (e, arith) in r

  pub exits_adds : (node : ℕ) (exit : Exit) → Adds (exits f node exit) 0
  exits_adds node exit = record {
    grows = λ c S k s. jumped_grows node (way_of exit c) S s;
    adds = λ c S k s. nothing_behind _ _ (jumped_both node (way_of exit c) S s);
  }

  pub panics_add : (node : ℕ) (why : Why) → Adds (panics f node why) 0
  panics_add node why = record {
    grows = λ c S k s. unwind_grows (panic_drops f S) s;
    adds = λ c S k s. nothing_behind _ _ (unwinding_both (Term.Panic why) node (panic_drops f S) s);
  }

  -- a loop: its turn block is made last
  with_exit_total : (x : Bool) (k : BlockRest) (s : Building) → total (with_exit x k s) ≡ if_end x (rest k) + total s
  with_exit_total true k s = closed_total Kind.Plain k s
  with_exit_total false k s = from_nothing _ _ refl

  with_exit_grows : (x : Bool) (k : BlockRest) (s : Building) → Grows s (with_exit x k s)
  with_exit_grows true k s = closed_grows Kind.Plain k s
  with_exit_grows false k s = grows_not s

  reserved_grows : (s : Building) → Grows s (reserved s)
  reserved_grows s = record {
    longer = let e = length-append s.blocks (None ∷ []) in omega arith;
    keeps = λ n l. slice_get-below s.blocks (None ∷ []) n l;
  }

  set_length : (xs : List (Option MadeBlock)) (n : ℕ) (x : Option MadeBlock) → length (slice_set xs n x) ≡ length xs
  set_length [] n x = refl
  set_length (y ∷ xs) zero x = refl
  set_length (y ∷ xs) (suc n) x = ap suc (set_length xs n x)

  set_below : (xs : List (Option MadeBlock)) (n i : ℕ) (x : Option MadeBlock) → i < n → slice_get (slice_set xs n x) i ≡ slice_get xs i
  set_below [] n i x h = refl
  set_below (y ∷ xs) zero i x h = absurd (let never : ⊥ = omega arith in never)
  set_below (y ∷ xs) (suc n) zero x h = refl
  set_below (y ∷ xs) (suc n) (suc i) x h = set_below xs n i x (omega arith)

  module _ (id : ℕ) (turn : Lowers) (m : ℕ) (a : Adds turn m) where
    abbrev left : Bool
    left = is_left_by id turn.jumps

    abbrev begun_with : BlockRest → Building → Building
    begun_with k s = with_exit left k s

    abbrev begin_at : BlockRest → Building → ℕ
    begin_at k s = length (begun_with k s).blocks

    abbrev again : BlockRest → Building → BlockRest
    again k s = ending (Term.Goto (begin_at k s)) 0

    abbrev code_in : Ways → Scopes → BlockRest → Building → BlockRest × Building
    code_in c S k s =
        turn.build (ways_in_loop id (length S) (length s.blocks) (begin_at k s) left c) S (again k s) (reserved (begun_with k s))

    abbrev turned : Ways → Scopes → BlockRest → Building → Building
    turned c S k s = filled Kind.Turn (begin_at k s) (code_in c S k s).0 (code_in c S k s).1

    code_grows : (c : Ways) (S : Scopes) (k : BlockRest) (s : Building) → Grows (reserved (begun_with k s)) (code_in c S k s).1
    code_grows c S k s =
        a.grows (ways_in_loop id (length S) (length s.blocks) (begin_at k s) left c) S (again k s) (reserved (begun_with k s))

    begin_free : (c : Ways) (S : Scopes) (k : BlockRest) (s : Building) → slice_get (code_in c S k s).1.blocks (begin_at k s) ≡ Some None
    begin_free c S k s =
        let j : length (reserved (begun_with k s)).blocks ≡ suc (begin_at k s) = length-append (begun_with k s).blocks (None ∷ []) ∙ add-one (begin_at k s) in
        (code_grows c S k s).keeps (begin_at k s) (omega arith) ∙ slice_get-last (begun_with k s).blocks None

    looped_both : (c : Ways) (S : Scopes) (k : BlockRest) (s : Building) → both (again k s, turned c S k s) ≡ m + (if_end left (rest k) + total s)
    looped_both c S k s =
        let one = a.adds (ways_in_loop id (length S) (length s.blocks) (begin_at k s) left c) S (again k s) (reserved (begun_with k s)) in
        let z : if_end turn.has_end (rest (again k s)) ≡ 0 = if_end_none turn.has_end in
        let t = filled_total Kind.Turn (begin_at k s) (code_in c S k s).0 (code_in c S k s).1 (begin_free c S k s) in
        let r = reserved_total (begun_with k s) in
        let w = with_exit_total left k s in
        let g : 0 + total (turned c S k s) ≡ m + (if_end left (rest k) + total s) = omega (one, z, t, r, w, arith) in
        g

    looped_grows : (c : Ways) (S : Scopes) (k : BlockRest) (s : Building) → Grows s (turned c S k s)
    looped_grows c S k s =
        let e = with_exit_grows left k s in
        let g = grows_on s (reserved (begun_with k s)) (code_in c S k s).1 (grows_on s (begun_with k s) _ e (reserved_grows (begun_with k s))) (code_grows c S k s) in
        let b = (code_in c S k s).1.blocks in
        let x = Some (made Kind.Turn (length b) (code_in c S k s).0) in
        record {
          longer = let i = set_length b (begin_at k s) x in let j = g.longer in omega arith;
          keeps = λ i l. set_below b (begin_at k s) i x (let h = e.longer in omega arith) ∙ g.keeps i l;
        }

    pub looped_adds : Adds (looped id turn) m
    looped_adds = record { grows = λ c S k s. looped_grows c S k s; adds = λ c S k s. looped_both c S k s }

  -- an assignment whose old value is dropped first: its store is built on both ways on, and is not of the kind
  pub replaces_both : ((site : EffectSite) (key : ℕ) → passes (put_into f site key) ≡ false) → (site : EffectSite) (key : ℕ) (S : Scopes) (k : BlockRest) (s : Building) →
      both (replaces_from f site key S k s) ≡ 0 + (rest k + total s)
  replaces_both none_put site key S k s =
      let put = with_line (put_into f site key) site.node k in
      let onward = closed Kind.Plain put s in
      let down = chain f (panic_drops f (taken f (key ∷ []) S)) onward in
      let unwound = with_line (put_into f site key) site.node (ending (Term.Goto down.0) site.node) in
      let z : counted (put_into f site key) ≡ 0 = ap one_if (none_put site key) in
      let p1 : total onward ≡ (counted (put_into f site key) + rest k) + total s = closed_total Kind.Plain put s in
      let p2 : total down.1 ≡ total onward = chain_total (panic_drops f (taken f (key ∷ []) S)) onward in
      let p3 : total (closed Kind.Cleanup unwound down.1) ≡ (counted (put_into f site key) + 0) + total down.1 = closed_total Kind.Cleanup unwound down.1 in
      let g : 0 + total (closed Kind.Cleanup unwound down.1) ≡ 0 + (rest k + total s) = omega (z, p1, p2, p3, arith) in
      g

  pub replaces_adds : ((site : EffectSite) (key : ℕ) → passes (put_into f site key) ≡ false) → (site : EffectSite) (key : ℕ) → Adds (record { has_end = true; jumps = []; after = taken f (key ∷ []); build = λ c. replaces_from f site key }) 0
  replaces_adds none_put site key = record {
    grows = λ c S k s. replaced S k s;
    adds = λ c S k s. replaces_both none_put site key S k s;
  }
    where
      replaced : (S : Scopes) (k : BlockRest) (s : Building) → Grows s (replaces_from f site key S k s).1
      replaced S k s =
          let put = with_line (put_into f site key) site.node k in
          let onward = closed Kind.Plain put s in
          let down = chain f (panic_drops f (taken f (key ∷ []) S)) onward in
          grows_on s onward _ (closed_grows Kind.Plain put s)
          (grows_on onward down.1 _ (chain_grows (panic_drops f (taken f (key ∷ []) S)) onward) (closed_grows Kind.Cleanup (with_line (put_into f site key) site.node (ending (Term.Goto down.0) site.node)) down.1))

  pub drop_adds : (site : EffectSite) → Adds (record nothing { build = λ c S. drop_one f site (panic_drops f S) }) 0
  drop_adds site = record {
    grows = λ c S k s. dropped_grows site (panic_drops f S) k s;
    adds = λ c S k s. from_nothing _ _ (dropped_both site (panic_drops f S) k s);
  }

  -- ---- arms: what comes behind a `match` is built once, in the block that joins its arms
  pub record ArmAdds (one : LowersArm) (m : ℕ) : Type 0 where
    pub grows : (c : Ways) (S : Scopes) (n : ℕ) (k : BlockRest) (s : Building) → Grows s (one.build c S n k s).1
    pub adds : (c : Ways) (S : Scopes) (n : ℕ) (k : BlockRest) (s : Building) → both (one.build c S n k s) ≡ m + (if_end one.has_end (rest k) + total s)

  pub unguarded_adds : (P : Lowers) (m : ℕ) → Adds P m → ArmAdds (record { has_end = P.has_end; jumps = P.jumps; build = λ c S n k s. P.build c S k s }) m
  unguarded_adds P m a = record { grows = λ c S n k s. a.grows c S k s; adds = λ c S n k s. a.adds c S k s }

  abbrev pub with_guard : ℕ → Lowers → Lowers → LowersArm
  with_guard key guard P = record {
    has_end = guard.has_end && P.has_end;
    jumps = guard.jumps ++ jumps_if guard.has_end P.jumps;
    build = guard_from f guard.has_end guard key P;
  }

  pub guarded_adds : (key : ℕ) (guard P : Lowers) (m n : ℕ) → Adds guard m → (guard.has_end ≡ true → Adds P n) → ArmAdds (with_guard key guard P) (m + if_end guard.has_end n)
  guarded_adds key guard P m n a b = record {
    grows = λ c S r k s. by_grows guard.has_end refl c S r k s;
    adds = λ c S r k s. by_both guard.has_end refl c S r k s;
  }
    where
      by_grows : (x : Bool) → guard.has_end ≡ x → (c : Ways) (S : Scopes) (r : ℕ) (k : BlockRest) (s : Building) → Grows s (guard_from f x guard key P c S r k s).1
      by_grows true e c S r k s =
          let d = P.build c S k s in
          grows_on s d.1 _ ((b e).grows c S k s) (grows_on d.1 (closed Kind.Plain d.0 d.1) _ (closed_grows Kind.Plain d.0 d.1) (a.grows c S _ (closed Kind.Plain d.0 d.1)))
      by_grows false e c S r k s = a.grows c S k s

      by_both : (x : Bool) → guard.has_end ≡ x → (c : Ways) (S : Scopes) (r : ℕ) (k : BlockRest) (s : Building) → both (guard_from f x guard key P c S r k s) ≡ (m + if_end x n) + (if_end (x && P.has_end) (rest k) + total s)
      by_both true e c S r k s =
          let d = P.build c S k s in
          let asked = ending (Term.If (operand_of f (moved key key)) (length d.1.blocks) r) key in
          let one = a.adds c S asked (closed Kind.Plain d.0 d.1) in
          let two = (b e).adds c S k s in
          let t = closed_total Kind.Plain d.0 d.1 in
          let z : if_end guard.has_end (rest asked) ≡ 0 = if_end_none guard.has_end in
          let g : both (guard.build c S asked (closed Kind.Plain d.0 d.1)) ≡ (m + n) + (if_end P.has_end (rest k) + total s) = omega (one, two, t, z, arith) in
          g
      by_both false e c S r k s =
          let one = a.adds c S k s in
          let z : if_end guard.has_end (rest k) ≡ 0 = ap (λ (x : Bool). if_end x (rest k)) e in
          let g : both (guard.build c S k s) ≡ (m + 0) + (0 + total s) = omega (one, z, arith) in
          g

  pub tested_adds : (ts : PatternTests) (one : LowersArm) (m : ℕ) → ArmAdds one m →
      ArmAdds (record one { build = λ c S n k s. let d = one.build c S n k s in tests f ts (length d.1.blocks) n (closed Kind.Plain d.0 d.1) }) m
  tested_adds ts one m a = record {
    grows = λ c S n k s.
        let d = one.build c S n k s in
        grows_on s d.1 _ (a.grows c S n k s) (grows_on d.1 (closed Kind.Plain d.0 d.1) _ (closed_grows Kind.Plain d.0 d.1) (tests_grow ts (length d.1.blocks) n (closed Kind.Plain d.0 d.1)));
    adds = λ c S n k s.
        let d = one.build c S n k s in
        tests_both ts (length d.1.blocks) n (closed Kind.Plain d.0 d.1) ∙ closed_total Kind.Plain d.0 d.1 ∙ a.adds c S n k s;
  }

  if_first : (x y : Bool) (n : ℕ) → if_end (x || y) n ≡ 0 → if_end x n ≡ 0
  if_first true y n e = e
  if_first false y n e = refl

  if_second : (x y : Bool) (n : ℕ) → if_end (x || y) n ≡ 0 → if_end y n ≡ 0
  if_second true true n e = e
  if_second true false n e = refl
  if_second false y n e = e

  module _ (node : ℕ) (matched : Place) (a : LoopsAndGuards) (to : Destination) where
    pub data ArmsAdd : List NodeLower → ℕ → Type 0 where
      no_arm_adds : ArmsAdd [] 0
      an_arm_adds : (one : NodeLower) (others : List NodeLower) (m n : ℕ) → ArmAdds (one.arm matched a to) m → ArmsAdd others n → ArmsAdd (one ∷ others) (m + n)

    abbrev from_there : List NodeLower → Ways → Scopes → BlockRest → Building → BlockRest × Building
    from_there ms = lower.arms_from f node ms matched a to

    abbrev ends : List NodeLower → Bool
    ends ms = lower.arms_end f ms matched a to

    arms_grow : (all : List NodeLower) (n : ℕ) → ArmsAdd all n → (c : Ways) (S : Scopes) (k : BlockRest) (s : Building) → Grows s (from_there all c S k s).1
    arms_grow _ _ no_arm_adds c S k s = unwind_grows (panic_drops f S) s
    arms_grow _ _ (an_arm_adds one others m n x y) c S k s =
        let d = from_there others c S k s in
        grows_on s d.1 _ (arms_grow others n y c S k s) (grows_on d.1 (closed Kind.Plain d.0 d.1) _ (closed_grows Kind.Plain d.0 d.1) (x.grows c S (length d.1.blocks) k (closed Kind.Plain d.0 d.1)))

    arms_both : (all : List NodeLower) (n : ℕ) → ArmsAdd all n → (c : Ways) (S : Scopes) (k : BlockRest) (s : Building) → if_end (ends all) (rest k) ≡ 0 → both (from_there all c S k s) ≡ n + total s
    arms_both _ _ no_arm_adds c S k s z = from_nothing _ _ (unwinding_both (Term.Panic Why.Match) node (panic_drops f S) s)
    arms_both _ _ (an_arm_adds one others m n x y) c S k s z =
        let d = from_there others c S k s in
        let i = arms_both others n y c S k s (if_second (one.arm matched a to).has_end (ends others) (rest k) z) in
        let t = closed_total Kind.Plain d.0 d.1 in
        let o = x.adds c S (length d.1.blocks) k (closed Kind.Plain d.0 d.1) in
        let e = if_first (one.arm matched a to).has_end (ends others) (rest k) z in
        let r : both ((one.arm matched a to).build c S (length d.1.blocks) k (closed Kind.Plain d.0 d.1)) ≡ (m + n) + total s = omega (i, t, o, e, arith) in
        r

    pub arms_add : (all : List NodeLower) (n : ℕ) → ArmsAdd all n → Adds (lower.arms_in_order f node all matched a to) n
    arms_add all n x = record {
      grows = λ c S k s. let j = joined (ends all) node k s in grows_on s j.1 _ (joined_grows (ends all) node k s) (arms_grow all n x c S j.0 j.1);
      adds = λ c S k s.
          let j = joined (ends all) node k s in
          let z = no_rest (ends all) (ends all) (λ e. e) node k s in
          let t = joined_total (ends all) node k s in
          let b = arms_both all n x c S j.0 j.1 z in
          let r : both (from_there all c S j.0 j.1) ≡ n + (if_end (ends all) (rest k) + total s) = omega (b, t, arith) in
          r;
    }
