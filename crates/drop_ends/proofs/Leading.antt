-- The blocks of ladders and of edges lead back: each to earlier ones, or to where the chains go on.
use Rattle.std.proofs.Common.{◌≡◌, ◌⊎◌, inl, inr, ◌∙◌, ◌∷◌, [], ◌++◌, ◌+◌, ◌<◌, ◌≤◌, ℕ, zero, suc, Bool, true, false, List, Option, Some, None, Contains, length, slice_get, refl, sym, ap, subst, arith}
use Rattle.std.specs.Prelude.{unwrap_or}
use Rattle.std.proofs.lemmas.Bool.{cases_lt}
use Rattle.std.proofs.lemmas.List.{length-append}
use Rattle.std.proofs.lemmas.Option.{none-some, same_Some, slice_get_within, slice_get_cases}
use Rattle.mir_ty.proofs.ListLemmas.{slice_get-Contains, Contains-slice_get, slice_get-append_left, slice_get-last, slice_get-push_cases}
use Rattle.cfg_graph.specs.declared.graph.Block.{Block}
use Rattle.cfg_graph.specs.declared.graph.Kind.{Kind}
use Rattle.cfg_graph.specs.declared.place.Operand.{Operand}
use Rattle.cfg_graph.specs.declared.place.Place.{Place}
use Rattle.cfg_graph.specs.declared.place.Step.{Step}
use Rattle.cfg_graph.specs.declared.statement.Stmt.{Stmt}
use Rattle.cfg_graph.specs.declared.terminator.Term.{Term}
use Rattle.cfg_graph.specs.declared.terminator.Unwind.{Unwind}
use Rattle.cfg_graph.specs.Edges.{targets, is_turn, is_turn_kind}
use Rattle.drop_elaborate.specs.Build.{Made, Begun, with_block}
use Rattle.drop_elaborate.specs.Ladder.{Ending, Calmly, Abruptly, unwind_in, place_below, local_place}
use Rattle.drop_values.specs.Plan.{Plan, Nothing, Entire, ByFlag, InParts, OfBox, ByVariant, Plans, no_plan, a_plan, Cases, no_case, a_case}
use Rattle.drop_blocks.proofs.LadderLaws.{stay, grow}
use Rattle.drop_blocks.specs.Ladders.{Built, built, ending_of, with_one, drop_rung, free_rung, flag_test, case_test, with_twin, rung_before, test_before, freed_before, ladder_of, parts_of, cases_of}
use Rattle.drop_blocks.specs.Standing.{Grows}
use Rattle.drop_blocks.specs.declared.rungs.Chains.{Chains}
use Rattle.drop_ends.specs.Edges.{edge_to}
use Rattle.drop_ends.specs.Leads.{IsLed, LeadBack}

-- ---- members of short lists

pub one-of : {A : Type 0} (x : A) (xs : List A) (m : A) → Contains (x ∷ xs) m → (m ≡ x) ⊎ Contains xs m
one-of x xs m has = by has.0 (slice_get-Contains (x ∷ xs) m has)
  where
    by : (i : ℕ) → slice_get (x ∷ xs) i ≡ Some m → (m ≡ x) ⊎ Contains xs m
    by zero e = inl (sym (same_Some x m e))
    by (suc i) e = inr (Contains-slice_get xs i m e)

pub none-of : {A : Type 0} (m : A) → Contains [] m → ⊥
none-of m has = none-some m (slice_get-Contains [] m has)

-- ---- blocks one after another

module _ (L : ℕ → Type 0) where
  pub led-none : (made : Made) → LeadBack L made made
  led-none made = record {
    grows = stay made;
    longer = omega arith;
    flat = λ i block far at. absurd (past i block far at);
    back = λ i block far at m has. absurd (past i block far at);
  }
    where
      past : (i : ℕ) (block : Block) → length made.blocks ≤ i → slice_get made.blocks i ≡ Some block → ⊥
      past i block far at = let w = slice_get_within made.blocks i block at in omega (w, far, arith)

  pub led-later : (a b c : Made) (m : ℕ) → IsLed L a b m → Grows b c → length b.blocks ≤ length c.blocks → IsLed L a c m
  led-later a b c m (inl l) g longer = inl l
  led-later a b c m (inr h) g longer =
      let f = g.first in let x = h.0 in let y = h.1 in inr (omega (f, x, arith), omega (f, y, longer, arith))

  -- of what may be led to from later blocks each is outside, or was made earlier
  pub led-then : (M : ℕ → Type 0) (a b c : Made) → LeadBack L a b → LeadBack M b c →
      ((m : ℕ) → M m → IsLed L a b m) → LeadBack L a c
  led-then M a b c g h into = record {
    grows = grow a b c g.grows h.grows;
    longer = (let x = g.longer in let y = h.longer in omega (x, y, arith));
    flat = λ i block far at. by-flat i block far at (cases_lt i (length b.blocks));
    back = λ i block far at m has. by-back i block far at m has (cases_lt i (length b.blocks));
  }
    where
      early : (i : ℕ) (block : Block) → i < length b.blocks → slice_get c.blocks i ≡ Some block → slice_get b.blocks i ≡ Some block
      early i block less at = elim ((slice_get_cases b.blocks i).1) [
        | inl it ↦ it.2 ∙ sym (h.grows.stays i it.0 it.2) ∙ at
        | inr past ↦ (let f = past.0 in absurd (let never : ⊥ = omega (f, less, arith) in never))
      ]

      by-flat : (i : ℕ) (block : Block) → length a.blocks ≤ i → slice_get c.blocks i ≡ Some block →
          (i < length b.blocks) ⊎ (length b.blocks ≤ i) → is_turn block ≡ false
      by-flat i block far at (inl less) = g.flat i block far (early i block less at)
      by-flat i block far at (inr more_far) = h.flat i block more_far at

      first : c.first ≡ b.first
      first = h.grows.first

      moved : (i m : ℕ) → L m ⊎ ((b.first + length a.blocks ≤ m) × (m < b.first + i)) →
          L m ⊎ ((c.first + length a.blocks ≤ m) × (m < c.first + i))
      moved i m (inl l) = inl l
      moved i m (inr x) = let f = first in let p = x.0 in let q = x.1 in inr (omega (f, p, arith), omega (f, q, arith))

      later : (i m : ℕ) → length b.blocks ≤ i → M m ⊎ ((c.first + length b.blocks ≤ m) × (m < c.first + i)) →
          L m ⊎ ((c.first + length a.blocks ≤ m) × (m < c.first + i))
      later i m far (inl x) = by (into m x)
        where
          by : IsLed L a b m → L m ⊎ ((c.first + length a.blocks ≤ m) × (m < c.first + i))
          by (inl l) = inl l
          by (inr y) = let f = first in let p = y.0 in let q = y.1 in inr (omega (f, p, arith), omega (f, q, far, arith))
      later i m far (inr x) = let l = g.longer in let p = x.0 in inr (omega (p, l, arith), x.1)

      by-back : (i : ℕ) (block : Block) → length a.blocks ≤ i → slice_get c.blocks i ≡ Some block → (m : ℕ) →
          Contains (targets block.term) m → (i < length b.blocks) ⊎ (length b.blocks ≤ i) →
          L m ⊎ ((c.first + length a.blocks ≤ m) × (m < c.first + i))
      by-back i block far at m has (inl less) = moved i m (g.back i block far (early i block less at) m has)
      by-back i block far at m has (inr more_far) = later i m more_far (h.back i block more_far at m has)

  -- one block more
  pub led-one : (kind : Kind) (stmts : List Stmt) (term : Term) (made : Made) → is_turn_kind kind ≡ false →
      ((m : ℕ) → Contains (targets term) m → L m) → LeadBack L made (with_one kind stmts term made).made
  led-one kind stmts term made flat to = record {
    grows = record { first = refl; stays = λ i block e. slice_get-append_left made.blocks _ i block e };
    longer = (let l = length-append made.blocks (the_block ∷ []) in omega (l, arith));
    flat = λ i block far at. subst (λ (b : Block). is_turn b ≡ false) (is i block far at) flat;
    back = λ i block far at m has. inl (to m (subst (λ (b : Block). Contains (targets b.term) m) (sym (is i block far at)) has));
  }
    where
      the_block : Block
      the_block = record { kind = kind; rank = made.base + length made.blocks; stmts = stmts; term = term }

      is : (i : ℕ) (block : Block) → length made.blocks ≤ i → slice_get (made.blocks ++ the_block ∷ []) i ≡ Some block →
          the_block ≡ block
      is i block far at = elim (slice_get-push_cases made.blocks the_block i block at) [
        | inl early ↦ (let w = slice_get_within made.blocks i block early in absurd (let never : ⊥ = omega (w, far, arith) in never))
        | inr last ↦ last.1
      ]

  pub one-led : (kind : Kind) (stmts : List Stmt) (term : Term) (made : Made) →
      IsLed L made (with_one kind stmts term made).made (with_one kind stmts term made).at
  one-led kind stmts term made =
      let l = length-append made.blocks ((record { kind = kind; rank = made.base + length made.blocks; stmts = stmts; term = term }) ∷ []) in
      inr (omega arith, omega (l, arith))

-- more may be led to
pub led-wider : (L M : ℕ → Type 0) (a b : Made) → ((m : ℕ) → L m → M m) → LeadBack L a b → LeadBack M a b
led-wider L M a b more_so g = record {
  grows = g.grows;
  longer = g.longer;
  flat = g.flat;
  back = λ i block far at m has. by (g.back i block far at m has);
}
  where
    by : {P : Type 0} {m : ℕ} → L m ⊎ P → M m ⊎ P
    by {m = m} (inl l) = inl (more_so m l)
    by (inr p) = inr p

-- ---- edges

pub edge-back : (kind : Kind) (stmts : List Stmt) (to : ℕ) (made : Made) → is_turn_kind kind ≡ false →
    LeadBack (λ m. m ≡ to) made (edge_to kind stmts to made).made
    × IsLed (λ m. m ≡ to) made (edge_to kind stmts to made).made (edge_to kind stmts to made).at
edge-back kind [] to made flat = (led-none (λ m. m ≡ to) made, inl refl)
edge-back kind (stmt ∷ stmts) to made flat = (
  led-one (λ m. m ≡ to) kind (stmt ∷ stmts) (Term.Goto to) made flat (λ m has. by m (one-of to [] m has)),
  one-led (λ m. m ≡ to) kind (stmt ∷ stmts) (Term.Goto to) made,
)
  where
    by : (m : ℕ) → (m ≡ to) ⊎ Contains [] m → m ≡ to
    by m (inl e) = e
    by m (inr h) = absurd (none-of m h)

-- ---- ladders

-- where chains go on
abbrev pub Heads : Chains → ℕ → Type 0
Heads rest m = (m ≡ rest.calm) ⊎ (rest.twin ≡ Some m)

-- chains lead back, and so do their beginnings
pub record Laid (rest : Chains) (made : Made) (b : Built) : Type 0 where
  pub back : LeadBack (Heads rest) made b.made
  pub calm : IsLed (Heads rest) made b.made b.chains.calm
  pub twin : (t : ℕ) → b.chains.twin ≡ Some t → IsLed (Heads rest) made b.made t

laid-none : (rest : Chains) (made : Made) → Laid rest made (record { chains = rest; made = made })
laid-none rest made = record { back = led-none (Heads rest) made; calm = inl (inl refl); twin = λ t e. inl (inr e) }

laid-then : (rest : Chains) (made : Made) (b c : Built) → Laid rest made b → Laid b.chains b.made c → Laid rest made c
laid-then rest made b c g h = record {
  back = led-then (Heads rest) (Heads b.chains) made b.made c.made g.back h.back head;
  calm = led c.chains.calm h.calm;
  twin = λ t e. led t (h.twin t e);
}
  where
    head : (m : ℕ) → Heads b.chains m → IsLed (Heads rest) made b.made m
    head m (inl e) = subst (IsLed (Heads rest) made b.made) (sym e) g.calm
    head m (inr e) = g.twin m e

    led : (m : ℕ) → IsLed (Heads b.chains) b.made c.made m → IsLed (Heads rest) made c.made m
    led m (inl x) = led-later (Heads rest) made b.made c.made m (head m x) h.back.grows h.back.longer
    led m (inr x) = let l = g.back.longer in let p = x.0 in inr (omega (p, l, arith), x.1)

-- what is led to in pieces
pub led-join : (L M : ℕ → Type 0) (a b c : Made) → LeadBack L a b → Grows b c → length b.blocks ≤ length c.blocks →
    ((m : ℕ) → M m → IsLed L a b m) → (m : ℕ) → IsLed M b c m → IsLed L a c m
led-join L M a b c g grows longer into m (inl x) = led-later L a b c m (into m x) grows longer
led-join L M a b c g grows longer into m (inr x) = let l = g.longer in let p = x.0 in inr (omega (p, l, arith), x.1)

-- one block of a chain
one-block-back : (L : ℕ → Type 0) (kind : Kind) → is_turn_kind kind ≡ false → (stmts : List Stmt) (term : Term) (made : Made) →
    ((m : ℕ) → Contains (targets term) m → L m) →
    LeadBack L made (with_one kind stmts term made).made × IsLed L made (with_one kind stmts term made).made (with_one kind stmts term made).at
one-block-back L kind flat stmts term made to = (led-one L kind stmts term made flat to, one-led L kind stmts term made)

module _ (L : ℕ → Type 0) (base mid : Made) (g : LeadBack L base mid) (kind : Kind) (flat : is_turn_kind kind ≡ false)
    (stmts : List Stmt) (term : Term) (to : (m : ℕ) → Contains (targets term) m → IsLed L base mid m) where
  one-step : LeadBack L base (with_one kind stmts term mid).made
      × IsLed L base (with_one kind stmts term mid).made (with_one kind stmts term mid).at
  one-step =
      let b = one-block-back (IsLed L base mid) kind flat stmts term mid to in
      let c = (with_one kind stmts term mid).made in (
        led-then L (IsLed L base mid) base mid c g b.0 (λ m h. h),
        led-join L (IsLed L base mid) base mid c g b.0.grows b.0.longer (λ m h. h) (with_one kind stmts term mid).at b.1,
      )

abbrev Grown-so : Made → Made → Type 0
Grown-so a b = Grows a b × (length a.blocks ≤ length b.blocks)

one-grown : (kind : Kind) → is_turn_kind kind ≡ false → (stmts : List Stmt) (term : Term) (made : Made) →
    Grown-so made (with_one kind stmts term made).made
one-grown kind flat stmts term made =
    let b = one-block-back (λ m. Contains (targets term) m) kind flat stmts term made (λ m h. h) in (b.0.grows, b.0.longer)

-- a rung or a test: to what is done where a test holds, to what follows, and to where a panic goes on
abbrev LeadsTo : (ℕ → ℕ → Ending → Term) → Type 0
LeadsTo term = (there to : ℕ) (ending : Ending) (m : ℕ) → Contains (targets (term there to ending)) m →
    (m ≡ there) ⊎ ((m ≡ to) ⊎ (ending ≡ Calmly m))

module _ (kind : Kind) (flat : is_turn_kind kind ≡ false) (stmts : List Stmt) (term : ℕ → ℕ → Ending → Term) (leads : LeadsTo term) (rest : Chains) (base mid : Made)
    (g : LeadBack (Heads rest) base mid) (there other : Chains) where
  abbrev Led : ℕ → Type 0
  Led m = IsLed (Heads rest) base mid m

  abbrev make : Kind → ℕ → ℕ → Ending → Made → Begun
  make of there to ending made = with_one of stmts (term there to ending) made

  pub block-laid : Led there.calm → ((t : ℕ) → there.twin ≡ Some t → Led t) → Led other.calm →
      ((t : ℕ) → other.twin ≡ Some t → Led t) →
      Laid rest base (with_twin (λ to. make Kind.Cleanup (unwrap_or there.twin to) to) other.twin (make kind there.calm other.calm (ending_of other.twin) mid))
  block-laid there_led twin_led other_led over_led = by other.twin refl
    where
      to-so : (ending : Ending) (there to : ℕ) → Led there → Led to → ((m : ℕ) → ending ≡ Calmly m → Led m) → (m : ℕ) →
          (m ≡ there) ⊎ ((m ≡ to) ⊎ (ending ≡ Calmly m)) → Led m
      to-so ending there to a b c m (inl e) = subst Led (sym e) a
      to-so ending there to a b c m (inr (inl e)) = subst Led (sym e) b
      to-so ending there to a b c m (inr (inr e)) = c m e

      calm-same : (to m : ℕ) → Calmly to ≡ Calmly m → to ≡ m
      calm-same to m e = cc

      no-calm : (m : ℕ) → Abruptly ≡ Calmly m → ⊥
      no-calm m e = cc

      yes_twin : (to : ℕ) → Led to → Led (unwrap_or there.twin to)
      yes_twin to led = by-twin there.twin refl
        where
          by-twin : (o : Option ℕ) → there.twin ≡ o → Led (unwrap_or o to)
          by-twin None e = led
          by-twin (Some t) e = twin_led t e

      by : (over : Option ℕ) → other.twin ≡ over →
          Laid rest base (with_twin (λ to. make Kind.Cleanup (unwrap_or there.twin to) to) over (make kind there.calm other.calm (ending_of over) mid))
      by None e =
          let calm = one-step (Heads rest) base mid g kind flat stmts (term there.calm other.calm Abruptly)
          (λ m has. to-so Abruptly there.calm other.calm there_led other_led (λ m e. absurd (no-calm m e)) m
          (leads there.calm other.calm Abruptly m has)) in
          record { back = calm.0; calm = calm.1; twin = λ t e. absurd (none-some t e) }
      by (Some to) e =
          let calm = one-step (Heads rest) base mid g kind flat stmts (term there.calm other.calm (Calmly to))
          (λ m has. to-so (Calmly to) there.calm other.calm there_led other_led
          (λ m e. subst Led (calm-same to m e) (over_led to e_twin)) m
          (leads there.calm other.calm (Calmly to) m has)) in
          let middle = (make kind there.calm other.calm (Calmly to) mid).made in
          let later : (m : ℕ) → Led m → IsLed (Heads rest) base middle m =
          λ m h. led-later (Heads rest) base mid middle m h calm_grows calm_longer in
          let twin = one-step (Heads rest) base middle calm.0 Kind.Cleanup refl stmts (term (unwrap_or there.twin to) to Abruptly)
          (λ m has. later m (to-so Abruptly (unwrap_or there.twin to) to (yes_twin to (over_led to e_twin)) (over_led to e_twin)
          (λ m e. absurd (no-calm m e)) m (leads (unwrap_or there.twin to) to Abruptly m has))) in
          let end = (make Kind.Cleanup (unwrap_or there.twin to) to Abruptly middle).made in record {
            back = twin.0;
            calm = led-later (Heads rest) base middle end (make kind there.calm other.calm (Calmly to) mid).at calm.1 twin_grows twin_longer;
            twin = λ t e. subst (IsLed (Heads rest) base end) (same_Some (make Kind.Cleanup (unwrap_or there.twin to) to Abruptly middle).at t e) twin.1;
          }
        where
          e_twin : other.twin ≡ Some to
          e_twin = e

          calm_more : Grown-so mid (make kind there.calm other.calm (Calmly to) mid).made
          calm_more = one-grown kind flat stmts (term there.calm other.calm (Calmly to)) mid

          calm_grows : Grows mid (make kind there.calm other.calm (Calmly to) mid).made
          calm_grows = calm_more.0

          calm_longer : length mid.blocks ≤ length (make kind there.calm other.calm (Calmly to) mid).made.blocks
          calm_longer = calm_more.1

          twin_more : Grown-so (make kind there.calm other.calm (Calmly to) mid).made
              (make Kind.Cleanup (unwrap_or there.twin to) to Abruptly (make kind there.calm other.calm (Calmly to) mid).made).made
          twin_more = one-grown Kind.Cleanup refl stmts (term (unwrap_or there.twin to) to Abruptly) (make kind there.calm other.calm (Calmly to) mid).made

          twin_grows : Grows (make kind there.calm other.calm (Calmly to) mid).made
              (make Kind.Cleanup (unwrap_or there.twin to) to Abruptly (make kind there.calm other.calm (Calmly to) mid).made).made
          twin_grows = twin_more.0

          twin_longer : length (make kind there.calm other.calm (Calmly to) mid).made.blocks
              ≤ length (make Kind.Cleanup (unwrap_or there.twin to) to Abruptly (make kind there.calm other.calm (Calmly to) mid).made).made.blocks
          twin_longer = twin_more.1

-- the forms of blocks of ladders

two-of : (a b m : ℕ) → Contains (a ∷ b ∷ []) m → (m ≡ a) ⊎ (m ≡ b)
two-of a b m has = elim (one-of a (b ∷ []) m has) [
  | inl e ↦ inl e
  | inr rest ↦ elim (one-of b [] m rest) [ inl e ↦ inr e | inr none ↦ absurd (none-of m none) ]
]

drop-leads : (place : Place) → LeadsTo (λ there to ending. Term.DropAt place to (unwind_in ending))
drop-leads place there to (Calmly cleanup) m has = elim (two-of to cleanup m has) [
  | inl e ↦ inr (inl e)
  | inr e ↦ inr (inr (ap Calmly (sym e)))
]
drop-leads place there to Abruptly m has = elim (one-of to [] m has) [
  | inl e ↦ inr (inl e)
  | inr none ↦ absurd (none-of m none)
]

goto-leads : LeadsTo (λ there to ending. Term.Goto to)
goto-leads there to ending m has = elim (one-of to [] m has) [
  | inl e ↦ inr (inl e)
  | inr none ↦ absurd (none-of m none)
]

flag-leads : (flag : ℕ) → LeadsTo (λ there to ending. Term.If (Operand.Copied (local_place flag)) there to)
flag-leads flag there to ending m has = elim (two-of to there m has) [
  | inl e ↦ inr (inl e)
  | inr e ↦ inl e
]

case-leads : (place : Place) (variant : ℕ) → LeadsTo (λ there to ending. Term.Case place variant there to)
case-leads place variant there to ending m has = elim (two-of to there m has) [
  | inl e ↦ inr (inl e)
  | inr e ↦ inl e
]

head-calm : (rest : Chains) (made : Made) → IsLed (Heads rest) made made rest.calm
head-calm rest made = inl (inl refl)

head-twin : (rest : Chains) (made : Made) (t : ℕ) → rest.twin ≡ Some t → IsLed (Heads rest) made made t
head-twin rest made t e = inl (inr e)

module _ (kind : Kind) (flat : is_turn_kind kind ≡ false) where
  drop-laid : (place : Place) (rest : Chains) (made : Made) → Laid rest made (rung_before kind (drop_rung place) rest made)
  drop-laid place rest made =
      block-laid kind flat [] (λ there to ending. Term.DropAt place to (unwind_in ending)) (drop-leads place) rest made made
      (led-none (Heads rest) made) rest rest (head-calm rest made) (head-twin rest made) (head-calm rest made) (head-twin rest made)

  free-laid : (place : Place) (rest : Chains) (made : Made) → Laid rest made (rung_before kind (free_rung place) rest made)
  free-laid place rest made =
      block-laid kind flat (Stmt.Free place ∷ []) (λ there to ending. Term.Goto to) goto-leads rest made made
      (led-none (Heads rest) made) rest rest (head-calm rest made) (head-twin rest made) (head-calm rest made) (head-twin rest made)

  -- a flag is tested before what stands there already
  flag-laid : (flag : ℕ) (rest : Chains) (made : Made) (b : Built) → Laid rest made b →
      Laid rest made (test_before kind (flag_test flag) b.chains rest b.made)
  flag-laid flag rest made b h =
      block-laid kind flat [] (λ there to ending. Term.If (Operand.Copied (local_place flag)) there to) (flag-leads flag) rest made b.made
      h.back b.chains rest h.calm h.twin
      (led-later (Heads rest) made made b.made rest.calm (head-calm rest made) h.back.grows h.back.longer)
      (λ t e. led-later (Heads rest) made made b.made t (head-twin rest made t e) h.back.grows h.back.longer)

  freed-laid : (guard : Option ℕ) (place : Place) (rest : Chains) (made : Made) → Laid rest made (freed_before kind guard place rest made)
  freed-laid None place rest made = free-laid place rest made
  freed-laid (Some flag) place rest made = flag-laid flag rest made (rung_before kind (free_rung place) rest made) (free-laid place rest made)

  -- a variant is tested before the others
  case-laid : (variant : ℕ) (place : Place) (rest : Chains) (made : Made) (other there : Built) → Laid rest made other →
      Laid rest other.made there → Laid rest made (test_before kind (case_test place variant) there.chains other.chains there.made)
  case-laid variant place rest made other there g h =
      let join = led-join (Heads rest) (Heads rest) made other.made there.made g.back h.back.grows h.back.longer
      (λ m x. inl x) in
      block-laid kind flat [] (λ there to ending. Term.Case place variant there to) (case-leads place variant) rest made there.made
      (led-then (Heads rest) (Heads rest) made other.made there.made g.back h.back (λ m x. inl x)) there.chains other.chains
      (join there.chains.calm h.calm) (λ t e. join t (h.twin t e))
      (led-later (Heads rest) made other.made there.made other.chains.calm g.calm h.back.grows h.back.longer)
      (λ t e. led-later (Heads rest) made other.made there.made t (g.twin t e) h.back.grows h.back.longer)

  mutual
    pub ladder-laid : (plan : Plan) (place : Place) (rest : Chains) (made : Made) → Laid rest made (ladder_of kind plan place rest made)
    ladder-laid Nothing place rest made = laid-none rest made
    ladder-laid Entire place rest made = drop-laid place rest made
    ladder-laid (ByFlag flag plan) place rest made =
        flag-laid flag rest made (ladder_of kind plan place rest made) (ladder-laid plan place rest made)
    ladder-laid (InParts plans) place rest made = parts-laid plans Step.Part 0 place rest made
    ladder-laid (OfBox guard plan) place rest made =
        let behind = freed_before kind guard place rest made in
        laid-then rest made behind (ladder_of kind plan (place_below place Step.Inside) behind.chains behind.made)
        (freed-laid guard place rest made) (ladder-laid plan (place_below place Step.Inside) behind.chains behind.made)
    ladder-laid (ByVariant cases) place rest made = cases-laid cases place rest made

    parts-laid : (plans : Plans) (step : ℕ → Step) (n : ℕ) (place : Place) (rest : Chains) (made : Made) →
        Laid rest made (parts_of kind plans step n place rest made)
    parts-laid no_plan step n place rest made = laid-none rest made
    parts-laid (a_plan plan plans) step n place rest made =
        let behind = parts_of kind plans step (suc n) place rest made in
        laid-then rest made behind (ladder_of kind plan (place_below place (step n)) behind.chains behind.made)
        (parts-laid plans step (suc n) place rest made) (ladder-laid plan (place_below place (step n)) behind.chains behind.made)

    cases-laid : (cases : Cases) (place : Place) (rest : Chains) (made : Made) → Laid rest made (cases_of kind cases place rest made)
    cases-laid no_case place rest made = laid-none rest made
    cases-laid (a_case variant plans others) place rest made =
        let other = cases_of kind others place rest made in
        let there = parts_of kind plans (λ n. Step.Field variant n) 0 place rest other.made in
        case-laid variant place rest made other there (cases-laid others place rest made)
        (parts-laid plans (λ n. Step.Field variant n) 0 place rest other.made)
