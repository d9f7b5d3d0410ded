-- A body with exact drops has no fault where its raw body has none, line by line.
use Rattle.std.proofs.Common.{◌≡◌, ◌⊎◌, inl, inr, ◌∙◌, ◌∷◌, [], ◌++◌, ◌+◌, ◌<◌, ◌≤◌, ◌&&◌, ◌||◌, ◌==◌, ℕ, zero, suc, nat_lt, Bool, true, false, not, List, Option, Some, None, Contains, length, replicate, slice_get, refl, sym, ap, subst, arith}
use Rattle.std.specs.Prelude.{take}
use Rattle.std.specs.List.{list_all}
use Rattle.std.specs.Option.{option_map_or}
use Rattle.std.specs.Cmp.{first_so, second_so}
use Rattle.std.specs.Cmp.Derive.{both_true}
use Rattle.std.proofs.lemmas.Bool.{ltb-true, lt-ltb}
use Rattle.std.proofs.lemmas.List.{length-append}
use Rattle.std.proofs.lemmas.Option.{none-some, same_Some, slice_get_within, slice_get_cases}
use Rattle.mir_ty.specs.declared.def.Sig.{Sig}
use Rattle.mir_ty.specs.declared.ty.Ty.{Ty}
use Rattle.mir_ty.specs.declared.ty.TyId.{TyId}
use Rattle.mir_ty.specs.ItemTable.{ItemTable, type_at}
use Rattle.store_model.specs.Places.Place.{Place}
use Rattle.store_model.specs.Places.TypeForms.{same_ids}
use Rattle.cfg_graph.specs.declared.graph.Block.{Block}
use Rattle.cfg_graph.specs.declared.graph.Body.{Body}
use Rattle.cfg_graph.specs.declared.graph.Kind.{Kind}
use Rattle.cfg_graph.specs.declared.statement.Stmt.{Stmt}
use Rattle.cfg_graph.specs.declared.terminator.Term.{Term}
use Rattle.cfg_graph.specs.Edges.{onward, unwind_targets, targets, is_turn, is_cleanup, is_cleanup_kind, lowers, IsRanked}
use Rattle.cfg_graph.specs.WellFormed.Cleanup.{edges_lower, keeps_cleanup, keeps_to_cleanup}
use Rattle.cfg_graph.specs.WellFormed.LineFaults.{locals_exist, blocks_exist, term_tests, term_faults, local_faults, has_sig, has_own_name, body_tests, body_faults, stmt_faults}
use Rattle.cfg_graph.specs.WellFormed.Typing.{term_is_typed}
use Rattle.cfg_graph.specs.Uses.{places_of_term}
use Rattle.cfg_graph.proofs.NoFaults.{broken-holds}
use Rattle.drop_elaborate.specs.Build.{Made}
use Rattle.drop_elaborate.specs.Elaborated as rules
use Rattle.drop_elaborate.specs.Elaborated.{BlockDone, Ends, result, dead, plain, ladder, onward_to}
use Rattle.drop_laws.specs.Ranked.{ranked_with}
use Rattle.drop_laws.proofs.Ranking.{ranked-there}
use Rattle.drop_bodies.proofs.Kept.{Keeps, Led}
use Rattle.drop_ends.specs.declared.decided.Decided.{Decided}
use Rattle.drop_bodies.proofs.BodyFaults.{all-hold, NoFaultIn}
use Rattle.drop_bodies.proofs.Faultless.{all-of, ranked-back, in-two, bool-fine, numbers-exist, places-exist, term-typed}
use Rattle.drop_bodies.proofs.KeptBlocks.{Raw, AllKept}
use Rattle.drop_bodies.proofs.LinesFine.{of_locals, TermFine, each-fine, term-fine}
use Rattle.drop_bodies.proofs.StoresFine.{Stmts, FineHere, stmts-fine}

-- the first of two lists tell where they are as long
take-left : (xs ys : List TyId) (n : ℕ) → n ≤ length xs → take n (xs ++ ys) ≡ take n xs
take-left xs ys zero less = refl
take-left [] ys (suc n) less = absurd (let never : ⊥ = omega (less, arith) in never)
take-left (x ∷ xs) ys (suc n) less = ap (λ l. x ∷ l) (take-left xs ys n (omega (less, arith)))

module _ (items : ItemTable) (bodies number : ℕ) (body : Body) (none : NoFaultIn items bodies number body) (flag_ty : TyId)
    (flag_is : type_at items flag_ty ≡ Some Ty.Bool) (flagged : List Place) (decided : List Decided) (after : Body)
    (params : after.params ≡ body.params) (locals : after.locals ≡ body.locals ++ replicate (length flagged) flag_ty)
    (ranked : IsRanked after) (made : List Block) (new : Made) (long : length made ≡ length body.blocks) (ranks : List ℕ)
    (ranks_long : length ranks ≡ length (made ++ new.blocks)) (blocks_are : after.blocks ≡ ranked_with (made ++ new.blocks) ranks)
    (kept : AllKept items body flagged decided (FineHere items bodies body flag_ty flag_is flagged) made new)
    (done : (n : ℕ) (block : Block) → slice_get body.blocks n ≡ Some block → BlockDone items body flagged after n block) where
  abbrev FineBlock : Block → Type 0
  FineBlock block = FineHere items bodies body flag_ty flag_is flagged block

  abbrev FineTerm : Term → Type 0
  FineTerm term = TermFine items bodies body.locals flag_ty (length flagged) flag_is term

  abbrev LedHere : Bool → ℕ → Type 0
  LedHere = Led (Raw items body flagged decided FineBlock) new

  first-is : new.first ≡ length body.blocks
  first-is = kept.back.grows.first

  -- ---- terminators of raw blocks

  raw-term : (n : ℕ) (block : Block) → slice_get body.blocks n ≡ Some block → FineTerm block.term
  raw-term n block at =
      term-fine items bodies body.locals flag_ty (length flagged) flag_is block.term
      (numbers-exist items bodies number body none n block at) (places-exist items bodies number body none n block at)
      (term-typed items bodies number body none n block at)

  goto-fine : (to : ℕ) → FineTerm (Term.Goto to)
  goto-fine to = record { numbers = refl; exist = refl; typed = refl }

  onward-fine : (from : ℕ) (term : Term) → FineTerm term → FineTerm (onward_to items body flagged after from term)
  onward-fine from (Term.Math to op left right next unwind) f = record { numbers = f.numbers; exist = f.exist; typed = f.typed }
  onward-fine from (Term.Negate to of next unwind) f = record { numbers = f.numbers; exist = f.exist; typed = f.typed }
  onward-fine from (Term.Call to callee args next unwind) f = record { numbers = f.numbers; exist = f.exist; typed = f.typed }
  onward-fine from (Term.Virtual to trait_no method args next unwind) f =
      record { numbers = f.numbers; exist = f.exist; typed = f.typed }
  onward-fine from (Term.Ask to next unwind) f = record { numbers = f.numbers; exist = f.exist; typed = f.typed }
  onward-fine from (Term.Bounds index count next unwind) f = record { numbers = f.numbers; exist = f.exist; typed = f.typed }
  onward-fine from other f = f

  ends-fine : (n : ℕ) (kind : Kind) (raw : Term) (ending : List Stmt) (term : Term) →
      Ends items body flagged after n kind raw ending term → FineTerm raw → FineTerm term
  ends-fine n kind _ _ _ (result raw from no_drop edge) f = onward-fine from raw f
  ends-fine n kind _ _ _ (dead place next unwind is_dead) f = goto-fine next
  ends-fine n kind _ _ _ (plain place next unwind not_dead is_sure) f = f
  ends-fine n kind _ _ _ (ladder plan place next from unwind planned to) f = goto-fine from

  -- ---- the blocks of the body

  pub record BlockFine (block : Block) : Type 0 where
    pub lines : FineBlock block
    pub keeps : Keeps LedHere block

  raw-at : (n : ℕ) → n < length body.blocks → (block : Block) × (slice_get body.blocks n ≡ Some block)
  raw-at n less = elim ((slice_get_cases body.blocks n).1) [
    | inl it ↦ (it.0, it.2)
    | inr past ↦ (let f = past.0 in absurd (let never : ⊥ = omega (f, less, arith) in never))
  ]

  own-fine : (n : ℕ) (block : Block) → n < length body.blocks → slice_get after.blocks n ≡ Some block → FineBlock block
  own-fine n block less at =
      let raw = raw-at n less in
      let d = done n raw.0 raw.1 in
      let same : d.there.block ≡ block = same_Some d.there.block block (sym d.there.there ∙ at) in
      subst FineBlock same (
        subst (Stmts items bodies body flag_ty flag_is flagged) (sym d.there.stmts_are)
            (stmts-fine items bodies body flag_ty flag_is flagged after n
            (rules.kind_after items body flagged after raw.0.kind) raw.0.stmts raw.0.term d.ending d.term
            (λ k stmt here. none.stmts n k raw.0 stmt raw.1 here) d.ends),
        subst FineTerm (sym d.there.term_is)
            (ends-fine n (rules.kind_after items body flagged after raw.0.kind) raw.0.term d.ending d.term d.ends
            (raw-term n raw.0 raw.1)),
      )

  was-made : (n : ℕ) (block : Block) → slice_get after.blocks n ≡ Some block →
      (was : Block) × (slice_get (made ++ new.blocks) n ≡ Some was) × ((rank : ℕ) × (record was { rank = rank } ≡ block))
  was-made n block at =
      ranked-back (made ++ new.blocks) ranks n block (ap (λ (l : List Block). slice_get l n) (sym blocks_are) ∙ at)

  pub block-fine : (n : ℕ) (block : Block) → slice_get after.blocks n ≡ Some block → BlockFine block
  block-fine n block at =
      let w = was-made n block at in elim (in-two made new.blocks n w.0 w.1) [
        | inl own ↦ record {
          lines = own-fine n block (let l = slice_get_within made n w.0 own in omega (l, long, arith)) at;
          keeps = subst (Keeps LedHere) w.2.1 (kept.own n w.0 own);
        }
        | inr later ↦
            let e = kept.back.each later.0 w.0 (omega arith) later.2 in record {
              lines = subst FineBlock w.2.1 e.0;
              keeps = subst (Keeps LedHere) w.2.1 e.1;
            }
      ]

  -- ---- edges

  made-there : (i : ℕ) (block : Block) → slice_get new.blocks i ≡ Some block → (rank : ℕ)
      × (slice_get after.blocks (new.first + i) ≡ Some (record block { rank = rank }))
  made-there i block at =
      let number : new.first + i ≡ length made + i = (let f = first-is in omega (f, long, arith)) in
      let r = ranked-there (made ++ new.blocks) ranks (length made + i) block ranks_long (behind made) in
      (r.0, ap (slice_get after.blocks) number ∙ ap (λ (l : List Block). slice_get l (length made + i)) blocks_are ∙ r.1)
    where
      behind : (l : List Block) → slice_get (l ++ new.blocks) (length l + i) ≡ Some block
      behind [] = (let z : 0 + i ≡ i = omega arith in ap (slice_get new.blocks) z) ∙ at
      behind (x ∷ l) =
          (let z : suc (length l) + i ≡ suc (length l + i) = omega arith in ap (slice_get (x ∷ (l ++ new.blocks))) z) ∙ behind l

  -- an edge leads to a block that is there, and that is a cleanup block or none
  led-there : (b : Bool) (m : ℕ) → LedHere b m → (found : Block) × (slice_get after.blocks m ≡ Some found)
      × (is_cleanup found ≡ b)
  led-there b m (inl raw) =
      let d = done m raw.0 raw.1 in (d.there.block, d.there.there, ap is_cleanup_kind d.there.kind_is ∙ raw.2)
  led-there b m (inr is) =
      let r = made-there is.index is.block is.at in
      (record is.block { rank = r.0 }, ap (slice_get after.blocks) is.number ∙ r.1, is.kind)

  module _ (n : ℕ) (block : Block) (at : slice_get after.blocks n ≡ Some block) where
    fine : BlockFine block
    fine = block-fine n block at

    abbrev cleanup : Bool
    cleanup = is_cleanup block

    calm-edge : (m : ℕ) → Contains (onward block.term) m → (found : Block) × (slice_get after.blocks m ≡ Some found)
        × (is_cleanup found ≡ cleanup)
    calm-edge m c = led-there cleanup m (fine.keeps.onward_to m c)

    wild-edge : (m : ℕ) → Contains (unwind_targets block.term) m → (found : Block) × (slice_get after.blocks m ≡ Some found)
        × (is_cleanup found ≡ true)
    wild-edge m c = led-there true m (fine.keeps.unwinds_to m c)

    within : (m : ℕ) (found : Block) → slice_get after.blocks m ≡ Some found → nat_lt m (length after.blocks) ≡ true
    within m found e = lt-ltb m (length after.blocks) (slice_get_within after.blocks m found e)

    both-edges : (f : ℕ → Bool) → ((m : ℕ) → Contains (onward block.term) m → f m ≡ true) →
        ((m : ℕ) → Contains (unwind_targets block.term) m → f m ≡ true) → list_all f (targets block.term) ≡ true
    both-edges f calm wild =
        joined (onward block.term) (all-of f (onward block.term) calm) (all-of f (unwind_targets block.term) wild)
      where
        joined : (l : List ℕ) → list_all f l ≡ true → list_all f (unwind_targets block.term) ≡ true →
            list_all f (l ++ unwind_targets block.term) ≡ true
        joined [] h k = k
        joined (x ∷ l) h k =
            both_true (first_so (f x) (list_all f l) h) (joined l (second_so (f x) (list_all f l) h) k)

    exist : blocks_exist items bodies after (targets block.term) ≡ true
    exist = both-edges (λ m. nat_lt m (length after.blocks))
        (λ m c. let e = calm-edge m c in within m e.0 e.1) (λ m c. let e = wild-edge m c in within m e.0 e.1)

    lower : edges_lower after block ≡ true
    lower = all-of (λ m. option_map_or (lowers block) (slice_get after.blocks m) true) (targets block.term)
        (λ m c. by m c (slice_get after.blocks m) refl)
      where
        by : (m : ℕ) → Contains (targets block.term) m → (o : Option Block) → slice_get after.blocks m ≡ o →
            option_map_or (lowers block) o true ≡ true
        by m c None e = refl
        by m c (Some to) e = turn (is_turn to) refl
          where
            turn : (b : Bool) → is_turn to ≡ b → (b || nat_lt to.rank block.rank) ≡ true
            turn true f = refl
            turn false f = lt-ltb to.rank block.rank (ranked n m block to at c e f)

    are-cleanup : (m : ℕ) → (found : Block) × (slice_get after.blocks m ≡ Some found) × (is_cleanup found ≡ true) →
        option_map_or is_cleanup (slice_get after.blocks m) true ≡ true
    are-cleanup m e = ap (λ (o : Option Block). option_map_or is_cleanup o true) e.1 ∙ e.2

    are-none : (m : ℕ) → (found : Block) × (slice_get after.blocks m ≡ Some found) × (is_cleanup found ≡ false) →
        option_map_or (λ block. not (is_cleanup block)) (slice_get after.blocks m) true ≡ true
    are-none m e = ap (λ (o : Option Block). option_map_or (λ block. not (is_cleanup block)) o true) e.1 ∙ ap not e.2

    keeps : keeps_to_cleanup after block ≡ true
    keeps = by cleanup refl
      where
        by : (b : Bool) → cleanup ≡ b → keeps_cleanup b after block.term ≡ true
        by true e =
            both_true (fine.keeps.cleans e)
            (both-edges (λ m. option_map_or is_cleanup (slice_get after.blocks m) true)
            (λ m c. let f = calm-edge m c in are-cleanup m (f.0, f.1, f.2 ∙ e)) (λ m c. are-cleanup m (wild-edge m c)))
        by false e =
            both_true (both_true (ap not (fine.keeps.calm e))
            (all-of (λ m. option_map_or (λ block. not (is_cleanup block)) (slice_get after.blocks m) true) (onward block.term)
            (λ m c. let f = calm-edge m c in are-none m (f.0, f.1, f.2 ∙ e))))
            (all-of (λ m. option_map_or is_cleanup (slice_get after.blocks m) true) (unwind_targets block.term)
            (λ m c. are-cleanup m (wild-edge m c)))

    pub term-none : term_faults items bodies after block ≡ []
    term-none =
        let there = subst (λ l. list_all (locals_exist items bodies (of_locals l)) (places_of_term block.term) ≡ true)
        (sym locals) fine.lines.1.exist in
        let typed = subst (λ l. term_is_typed items l block.term ≡ true) (sym locals) fine.lines.1.typed in
        all-hold (term_tests items bodies after block)
        (both_true fine.lines.1.numbers exist, (there, (typed, (lower, (keeps, tt)))))

    pub stmt-none : (k : ℕ) (stmt : Stmt) → slice_get block.stmts k ≡ Some stmt → stmt_faults items bodies after stmt ≡ []
    stmt-none k stmt here =
        subst (λ l. stmt_faults items bodies (of_locals l) stmt ≡ []) (sym locals)
        (each-fine items bodies body.locals flag_ty (length flagged) flag_is block.stmts k stmt fine.lines.0 here)

  -- ---- the body's own line, and its locals

  own-tests : (k : ℕ) (test : ℕ × Bool) → slice_get (body_tests items bodies number body) k ≡ Some test → test.1 ≡ true
  own-tests k test e = broken-holds (body_tests items bodies number body) none.own k test e

  has-blocks : nat_lt 0 (length after.blocks) ≡ true
  has-blocks =
      let h = ltb-true 0 (length body.blocks) (own-tests 0 (1, nat_lt 0 (length body.blocks)) refl) in
      let raw = raw-at 0 h in
      let d = done 0 raw.0 raw.1 in lt-ltb 0 (length after.blocks) (slice_get_within after.blocks 0 d.there.block d.there.there)

  few-params : body.params < length body.locals
  few-params = ltb-true body.params (length body.locals) (own-tests 1 (2, nat_lt body.params (length body.locals)) refl)

  has-params : nat_lt after.params (length after.locals) ≡ true
  has-params =
      let f = few-params in
      let l = ap (λ (l : List TyId). length l) locals in
      let a = length-append body.locals (replicate (length flagged) flag_ty) in
      let less : after.params < length after.locals = omega (f, l, a, params, arith) in
      lt-ltb after.params (length after.locals) less

  sig-same : has_sig items bodies after (slice_get items.bodies number) ≡ true
  sig-same =
      by (slice_get items.bodies number) (own-tests 2 (3, has_sig items bodies body (slice_get items.bodies number)) refl)
    where
      kept-locals : take (suc after.params) after.locals ≡ take (suc body.params) body.locals
      kept-locals =
          ap (λ (l : List TyId). take (suc after.params) l) locals
          ∙ ap (λ (n : ℕ). take (suc n) (body.locals ++ replicate (length flagged) flag_ty)) params
          ∙ take-left body.locals (replicate (length flagged) flag_ty) (suc body.params)
          (let f = few-params in omega (f, arith))

      by : (o : Option Sig) → has_sig items bodies body o ≡ true → has_sig items bodies after o ≡ true
      by None h = h
      by (Some sig) h =
          ap (λ (n : ℕ). (length sig.params == n) && same_ids (take (suc after.params) after.locals) (sig.result ∷ sig.params)) params
          ∙ ap (λ (l : List TyId). (length sig.params == body.params) && same_ids l (sig.result ∷ sig.params)) kept-locals ∙ h

  own-none : body_faults items bodies number after ≡ []
  own-none =
      let name = own-tests 3 (7, option_map_or (has_own_name items bodies number) (slice_get items.bodies number) true) refl in
      all-hold (body_tests items bodies number after) (has-blocks, (has-params, (sig-same, (name, tt))))

  locals-none : (n : ℕ) (id : TyId) → slice_get after.locals n ≡ Some id → local_faults items bodies id ≡ []
  locals-none n id at = elim (in-lists body.locals n (ap (λ (l : List TyId). slice_get l n) (sym locals) ∙ at)) [
    | inl own ↦ none.locals n id own
    | inr same ↦ subst (λ (i : TyId). local_faults items bodies i ≡ []) same (bool-fine items bodies flag_ty flag_is)
  ]
    where
      flag-same : (count k : ℕ) → slice_get (replicate count flag_ty) k ≡ Some id → flag_ty ≡ id
      flag-same zero k e = absurd (none-some id e)
      flag-same (suc count) zero e = same_Some flag_ty id e
      flag-same (suc count) (suc k) e = flag-same count k e

      in-lists : (l : List TyId) (k : ℕ) → slice_get (l ++ replicate (length flagged) flag_ty) k ≡ Some id →
          (slice_get l k ≡ Some id) ⊎ (flag_ty ≡ id)
      in-lists [] k e = inr (flag-same (length flagged) k e)
      in-lists (x ∷ l) zero e = inl e
      in-lists (x ∷ l) (suc k) e = in-lists l k e

  pub no-fault-after : NoFaultIn items bodies number after
  no-fault-after = record {
    own = own-none;
    locals = locals-none;
    stmts = λ n k block stmt at here. stmt-none n block at k stmt here;
    terms = λ n block at. term-none n block at;
  }
