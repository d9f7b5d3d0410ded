-- How many blocks drops make: an entry is paid for when it is made. Leaving its scope makes three blocks for it, with
-- what the chain of all entries would still cost.
use Rattle.std.proofs.Common.{◌≡◌, ℕ, suc, ◌+◌, ◌*◌, ◌≤◌, not, nat_lt, Bool, true, false, List, [], ◌∷◌, ◌++◌, length, Option, Some, None, refl, ap, ◌∙◌, arith}
use Rattle.cfg_graph.specs.declared.graph.Kind.{Kind}
use Rattle.cfg_graph.specs.declared.terminator.Term.{Term}
use Rattle.src_meaning.specs.Scopes.{Entry, Scope, Scopes, all_entries, needing_drop}
use Rattle.lower_rules.specs.Spots.{JumpWay}
use Rattle.lower_rules.specs.Build.{LoweringFrame, BlockRest, Resumes, GoesTo, DropsThen, Building, ending, closed, share, jump_of, unwind_to, panic_drops, drop_all, drops_before, drops_to, outer, leave_by, leave_from, leaves_one, leaves_before, leaves_to}
use Rattle.lower_rules.proofs.ScopeSizes.{all, all_same, first, needing_append, needing_most}
use Rattle.lower_rules.proofs.KnownChains.{closed_length, debt, debt_behind, debt_less, debt_most, found, known, owes_most, reckoned, share_costs, unwound}

module _ (f : LoweringFrame) where
  pub drops_most : (S : Scopes) → length (panic_drops f S) ≤ all S
  drops_most S = let i = needing_most f.items (all_entries S) in let j = all_same S in omega arith

  -- ---- entries are dropped: with what the chain of them all would still cost, three blocks an entry
  pub dropped : (es : List Entry) (S : Scopes) (k : BlockRest) (s : Building) →
      reckoned (es ++ panic_drops f S) (drop_all f es S k s).1 ≤ reckoned (panic_drops f S) s + 3 * length es
  dropped [] S k s = omega arith
  dropped (e ∷ es) S k s =
      let r = drop_all f es S k s in
      let ih = dropped es S k s in
      let c = closed Kind.Plain r.0 r.1 in
      let j = closed_length Kind.Plain r.0 r.1 in
      let u = unwound f (es ++ panic_drops f S) c in
      let u0 = u.0 in
      let u2 = u.2 in
      let after = (unwind_to f (es ++ panic_drops f S) c).1.shared in
      let o = owes_most (known (e ∷ es ++ panic_drops f S) after) (debt (es ++ panic_drops f S) after) in
      omega arith

  -- the same of drops before a jump
  before : (es : List Entry) (S : Scopes) (to : ℕ × Building) →
      reckoned (es ++ panic_drops f S) (drops_before f es S to).1 ≤ reckoned (panic_drops f S) to.1 + 3 * length es
  before [] S to = omega arith
  before (e ∷ es) S to =
      let r = drops_before f es S to in
      let ih = before es S to in
      let down = unwind_to f (es ++ panic_drops f S) r.1 in
      let u = unwound f (es ++ panic_drops f S) r.1 in
      let u0 = u.0 in
      let u2 = u.2 in
      let c = share_costs f (DropsThen e.key r.0 down.0) down.1 in
      let i = c.cost in
      let most = owes_most (found (DropsThen e.key r.0 down.0) down.1.shared) 0 in
      let after = (share f (DropsThen e.key r.0 down.0) down.1).1.shared in
      let less = debt_less (es ++ panic_drops f S) down.1.shared after c.keeps in
      let o = owes_most (known (e ∷ es ++ panic_drops f S) after) (debt (es ++ panic_drops f S) after) in
      omega arith

  -- where the first of them is a terminator, one block less
  dropped_to : (es : List Entry) (S : Scopes) (to : ℕ × Building) (none : BlockRest × Building) (most : ℕ) →
      reckoned (panic_drops f S) to.1 ≤ suc most → reckoned (panic_drops f S) none.1 ≤ most →
      reckoned (es ++ panic_drops f S) (drops_to f es S to none).1 ≤ most + 3 * length es
  dropped_to [] S to none most at without = omega (arith, without)
  dropped_to (e ∷ es) S to none most at without =
      let r = drops_before f es S to in
      let b = before es S to in
      let u = unwound f (es ++ panic_drops f S) r.1 in
      let u0 = u.0 in
      let u2 = u.2 in
      let after = (unwind_to f (es ++ panic_drops f S) r.1).1.shared in
      let o = owes_most (known (e ∷ es ++ panic_drops f S) after) (debt (es ++ panic_drops f S) after) in
      omega (arith, at)

  -- a jump to a block
  entered : (block : ℕ) (S : Scopes) (s : Building) →
      reckoned (panic_drops f S) (share f (GoesTo block) s).1 ≤ suc (reckoned (panic_drops f S) s)
  entered block S s =
      let c = share_costs f (GoesTo block) s in
      let i = c.cost in
      let most = owes_most (found (GoesTo block) s.shared) 0 in
      let less = debt_less (panic_drops f S) s.shared (share f (GoesTo block) s).1.shared c.keeps in
      omega arith

  dropped_by : (o : Option ℕ) (es : List Entry) (S : Scopes) (k : BlockRest) (s : Building) →
      reckoned (es ++ panic_drops f S) (leave_by f o es S k s).1 ≤ reckoned (panic_drops f S) s + 3 * length es
  dropped_by (Some block) es S k s =
      let to = share f (GoesTo block) s in
      let d = dropped_to es S to (k, s) (reckoned (panic_drops f S) s) (entered block S s) (omega arith) in
      omega arith
  dropped_by None es S k s = dropped es S k s

  pub parted : (Y : Scopes) → all Y ≡ first Y + all (outer f Y)
  parted [] = refl
  parted (x ∷ S) = refl

  pub left : (Y : Scopes) (k : BlockRest) (s : Building) →
      length (leave_from f Y k s).1.blocks ≤ length s.blocks + 3 * first Y + all (outer f Y) + 1
  left [] k s = omega arith
  left (x ∷ S) k s =
      let d = dropped_by (jump_of k) (needing_drop f.items x.entries) S k s in
      let n = needing_most f.items x.entries in
      let m = debt_most (panic_drops f S) s.shared in
      let w = drops_most S in
      omega arith

  panic_drops_outer : (x : Scope) (S : Scopes) →
      panic_drops f (x ∷ S) ≡ needing_drop f.items x.pending ++ (needing_drop f.items x.entries ++ panic_drops f S)
  panic_drops_outer x S =
      needing_append f.items (x.pending ++ x.entries) (all_entries S)
      ∙ ap (λ z. z ++ panic_drops f S) (needing_append f.items x.pending x.entries)
      ∙ append_on (needing_drop f.items x.pending)
    where
      append_on : (xs : List Entry) →
          (xs ++ needing_drop f.items x.entries) ++ panic_drops f S
          ≡ xs ++ (needing_drop f.items x.entries ++ panic_drops f S)
      append_on [] = refl
      append_on (y ∷ xs) = ap (λ z. y ∷ z) (append_on xs)

  before_jump : (way : JumpWay) (S : Scopes) (s : Building) →
      reckoned (panic_drops f S) (leaves_before f way S s).1 ≤ length s.blocks + 3 * all S + 2
  before_jump way [] s = let e = entered way.block [] s in let o = owes_most (found Resumes s.shared) 0 in omega arith
  before_jump way (x ∷ S) s = by_base (before_jump way S s) (not (nat_lt (length S) way.base))
    where
      by_base : reckoned (panic_drops f S) (leaves_before f way S s).1 ≤ length s.blocks + 3 * all S + 2 → (b : Bool) →
          reckoned (panic_drops f (x ∷ S))
          (leaves_one f b (drops_before f (needing_drop f.items x.entries) S (leaves_before f way S s))
          (share f (GoesTo way.block) s)).1
          ≤ length s.blocks + 3 * all (x ∷ S) + 2
      by_base ih true =
          let to = leaves_before f way S s in
          let es = needing_drop f.items x.entries in
          let d = before es S to in
          let n = needing_most f.items x.entries in
          let p = needing_most f.items x.pending in
          let cs = (drops_before f es S to).1.shared in
          let b = debt_behind (needing_drop f.items x.pending) (es ++ panic_drops f S) cs in
          let e = ap (λ z. debt z cs) (panic_drops_outer x S) in
          omega (arith, ih)
      by_base ih false =
          let e = entered way.block (x ∷ S) s in
          let m = debt_most (panic_drops f (x ∷ S)) s.shared in
          let w = drops_most (x ∷ S) in
          omega arith

  jumped : (node : ℕ) (way : JumpWay) (S : Scopes) (s : Building) →
      reckoned (panic_drops f S) (leaves_to f node way S s).1 ≤ length s.blocks + 3 * all S + 1
  jumped node way [] s = let o = owes_most (found Resumes s.shared) 0 in omega arith
  jumped node way (x ∷ S) s = by_base (jumped node way S s) (not (nat_lt (length S) way.base))
    where
      by_base : reckoned (panic_drops f S) (leaves_to f node way S s).1 ≤ length s.blocks + 3 * all S + 1 →
          (b : Bool) →
          reckoned (panic_drops f (x ∷ S))
          (leaves_one f b
          (drops_to f (needing_drop f.items x.entries) S (leaves_before f way S s) (leaves_to f node way S s))
          (ending (Term.Goto way.block) node, s)).1
          ≤ length s.blocks + 3 * all (x ∷ S) + 1
      by_base ih true =
          let to = leaves_before f way S s in
          let es = needing_drop f.items x.entries in
          let at = before_jump way S s in
          let d = dropped_to es S to (leaves_to f node way S s) (length s.blocks + 3 * all S + 1) (omega arith) ih in
          let n = needing_most f.items x.entries in
          let p = needing_most f.items x.pending in
          let cs = (drops_to f es S to (leaves_to f node way S s)).1.shared in
          let b = debt_behind (needing_drop f.items x.pending) (es ++ panic_drops f S) cs in
          let e = ap (λ z. debt z cs) (panic_drops_outer x S) in
          omega arith
      by_base ih false =
          let m = debt_most (panic_drops f (x ∷ S)) s.shared in
          let w = drops_most (x ∷ S) in
          omega arith

  pub jumped_most : (node : ℕ) (way : JumpWay) (S : Scopes) (s : Building) →
      length (leaves_to f node way S s).1.blocks ≤ length s.blocks + 3 * all S + 1
  jumped_most node way S s = let j = jumped node way S s in omega arith
