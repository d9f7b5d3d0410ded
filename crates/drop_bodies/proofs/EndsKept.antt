-- What is made for the end of a block is fine, and keeps to cleanup blocks or to others; and so does its terminator.
use Rattle.std.proofs.Common.{◌≡◌, ◌⊎◌, inl, inr, ◌∷◌, [], ℕ, Bool, true, false, List, Some, None, Contains, refl, sym, subst}
use Rattle.std.proofs.lemmas.Bool.{false≢true}
use Rattle.std.proofs.lemmas.Option.{none-some, same_Some}
use Rattle.mir_ty.proofs.ListLemmas.{Contains-slice_get}
use Rattle.mir_ty.specs.ItemTable.{ItemTable}
use Rattle.store_model.specs.Places.Place as plain
use Rattle.cfg_graph.specs.declared.graph.Block.{Block}
use Rattle.cfg_graph.specs.declared.graph.Body.{Body}
use Rattle.cfg_graph.specs.declared.graph.Kind.{Kind}
use Rattle.cfg_graph.specs.declared.place.Place.{Place}
use Rattle.cfg_graph.specs.declared.statement.Stmt.{Stmt}
use Rattle.cfg_graph.specs.declared.terminator.Term.{Term}
use Rattle.cfg_graph.specs.declared.terminator.Unwind.{Unwind}
use Rattle.cfg_graph.specs.Edges.{onward, unwind_targets, is_cleanup_kind}
use Rattle.cfg_graph.specs.WellFormed.Cleanup.{cleans_up, is_resume, is_abort}
use Rattle.drop_elaborate.specs.Build.{Made, Begun}
use Rattle.drop_elaborate.specs.Elaborated.{cleared, result_flags}
use Rattle.drop_values.specs.Plan.{Plan}
use Rattle.drop_blocks.specs.Ladders.{ladder_of, with_one}
use Rattle.drop_blocks.specs.View.{plan_in}
use Rattle.drop_blocks.specs.declared.rungs.Chains.{Chains}
use Rattle.drop_ends.specs.Edges.{edge_to}
use Rattle.drop_ends.specs.Ends.{TwinMade, EndMade, twin_of, ladder_end, term_end, drop_end, end_by}
use Rattle.drop_ends.specs.declared.decided.Decided.{Decided}
use Rattle.drop_bodies.proofs.Kept.{TermKeeps, Led, led-on, WellMade, well-none, well-then, well-one, one-new}
use Rattle.drop_bodies.proofs.LadderKept.{RungsFine, Heads, ladder-kept}
use Rattle.drop_ends.proofs.Leading.{one-of, none-of}

only : (a m : ℕ) → Contains (a ∷ []) m → m ≡ a
only a m has = elim (one-of a [] m has) [ inl e ↦ e | inr none ↦ absurd (none-of m none) ]

first-of : {A : Type 0} (x : A) (xs : List A) → Contains (x ∷ xs) x
first-of x xs = Contains-slice_get (x ∷ xs) 0 x refl

-- where a terminator leads, by whether these are cleanup blocks
abbrev pub OutOf : (cleanup : Bool) → Term → Bool → ℕ → Type 0
OutOf cleanup term b m = (Contains (onward term) m × (b ≡ cleanup)) ⊎ (Contains (unwind_targets term) m × (b ≡ true))

module _ (Q : Block → Type 0) where
  -- a block of stores into flags is fine, and one that resumes
  abbrev pub StoresFine : List Stmt → Type 0
  StoresFine stmts = (kind : Kind) (rank to : ℕ) → Q (record { kind = kind; rank = rank; stmts = stmts; term = Term.Goto to })

  abbrev pub ResumeFine : Type 0
  ResumeFine = (rank : ℕ) → Q (record { kind = Kind.Cleanup; rank = rank; stmts = []; term = Term.Resume })

  module _ (L : Bool → ℕ → Type 0) where
    edge-kept : (kind : Kind) (stmts : List Stmt) (to : ℕ) (made : Made) → StoresFine stmts → L (is_cleanup_kind kind) to →
        WellMade Q L made (edge_to kind stmts to made).made
        × Led L (edge_to kind stmts to made).made (is_cleanup_kind kind) (edge_to kind stmts to made).at
    edge-kept kind [] to made fine l = (well-none Q L made, inl l)
    edge-kept kind (stmt ∷ stmts) to made fine l = (
      well-one Q L kind (stmt ∷ stmts) (Term.Goto to) made (fine kind _ to) (record {
        onward_to = λ m has. subst (L (is_cleanup_kind kind)) (sym (only to m has)) l;
        unwinds_to = λ m has. absurd (none-of m has);
        cleans = λ c. refl;
        calm = λ c. refl;
      }),
      inr (one-new Q kind (stmt ∷ stmts) (Term.Goto to) made),
    )

    resume-kept : (made : Made) → ResumeFine → WellMade Q L made (with_one Kind.Cleanup [] Term.Resume made).made
    resume-kept made fine = well-one Q L Kind.Cleanup [] Term.Resume made (fine _) (record {
      onward_to = λ m has. absurd (none-of m has);
      unwinds_to = λ m has. absurd (none-of m has);
      cleans = λ c. refl;
      calm = λ c. absurd (false≢true (sym c));
    })

  module _ (items : ItemTable) (body : Body) (flagged : List plain.Place) where
    abbrev TwinKept : (L : Bool → ℕ → Type 0) → Made → TwinMade → Type 0
    TwinKept L made t = WellMade Q L made t.made × ((m : ℕ) → t.twin ≡ Some m → Led L t.made true m)

    twin-kept : (L : Bool → ℕ → Type 0) (place : Place) (unwind : Unwind) (made : Made) →
        StoresFine (cleared items body flagged body place) → ResumeFine →
        ((block : ℕ) → unwind ≡ Unwind.Block block → L true block) →
        TwinKept L made (twin_of items body flagged place unwind made)
    twin-kept L place (Unwind.Block block) made fine resumes to =
        let edge = edge_to Kind.Cleanup (cleared items body flagged body place) block made in
        let e = edge-kept L Kind.Cleanup (cleared items body flagged body place) block made fine (to block refl) in
        (e.0, λ m is. subst (Led L edge.made true) (same_Some edge.at m is) e.1)
    twin-kept L place Unwind.Resume made fine resumes to =
        let one = with_one Kind.Cleanup [] Term.Resume made in (
          resume-kept L made resumes,
          λ m is. subst (Led L one.made true) (same_Some one.at m is) (inr (one-new Q Kind.Cleanup [] Term.Resume made)),
        )
    twin-kept L place Unwind.Abort made fine resumes to = (well-none Q L made, λ m is. absurd (none-some m is))

    abort-alone : (place : Place) (unwind : Unwind) (made : Made) → is_abort unwind ≡ true →
        (twin_of items body flagged place unwind made).twin ≡ None
    abort-alone place (Unwind.Block block) made h = absurd (false≢true h)
    abort-alone place Unwind.Resume made h = absurd (false≢true h)
    abort-alone place Unwind.Abort made h = refl

    module _ (kind : Kind) where
      abbrev cleanup : Bool
      cleanup = is_cleanup_kind kind

      abbrev BeginsKept : (L : Bool → ℕ → Type 0) → Made → Begun → Type 0
      BeginsKept L made b = WellMade Q L made b.made × Led L b.made cleanup b.at

      ladder-end-kept : (L : Bool → ℕ → Type 0) (plan : Plan) (place : Place) (next : ℕ) (unwind : Unwind) (made : Made) →
          StoresFine (cleared items body flagged body place) → ResumeFine → RungsFine Q plan place → L cleanup next →
          ((block : ℕ) → unwind ≡ Unwind.Block block → L true block) → (cleanup ≡ true → is_abort unwind ≡ true) →
          BeginsKept L made (ladder_end items body flagged plan kind place next unwind made)
      ladder-end-kept L plan place next unwind made fine resumes rungs onward_so unwinds_so quiet =
          let stmts = cleared items body flagged body place in
          let calm = edge_to kind stmts next made in
          let over = twin_of items body flagged place unwind calm.made in
          let rest : Chains = record { calm = calm.at; twin = over.twin } in
          let built = ladder_of kind plan place rest over.made in
          let e = edge-kept L kind stmts next made fine onward_so in
          let t = twin-kept L place unwind calm.made fine resumes unwinds_so in
          let l = ladder-kept Q kind plan place rest over.made rungs
          (λ c. abort-alone place unwind calm.made (quiet c)) in
          let first = well-then Q L L made calm.made over.made e.0 t.0 (λ k m x. inl x) in
          let head : (k : Bool) (m : ℕ) → Heads Q kind rest k m → Led L over.made k m =
          λ k m x. elim x [
            | inl y ↦ subst (λ (b : Bool). Led L over.made b m) (sym y.1)
                (subst (Led L over.made cleanup) (sym y.0) (led-on L calm.made over.made t.0.grows cleanup calm.at e.1))
            | inr y ↦ subst (λ (b : Bool). Led L over.made b m) (sym y.1) (t.1 m y.0)
          ] in (
            well-then Q L (Heads Q kind rest) made over.made built.made first l.back head,
            elim l.calm [
              | inl x ↦ led-on L over.made built.made l.back.grows cleanup built.chains.calm (head cleanup built.chains.calm x)
              | inr is ↦ inr is
            ],
          )

      -- ---- terminators

      abbrev EndKept : Term → Made → EndMade → Type 0
      EndKept raw made end =
          WellMade Q (OutOf cleanup raw) made end.made × TermKeeps (Led (OutOf cleanup raw) end.made) cleanup end.term

      -- no edge is made
      stays-kept : (term : Term) (made : Made) → (cleanup ≡ true → cleans_up term ≡ true) →
          (cleanup ≡ false → is_resume term ≡ false) → EndKept term made (record { term = term; made = made })
      stays-kept term made cleans calms = (
        well-none Q (OutOf cleanup term) made,
        record {
          onward_to = λ m has. inl (inl (has, refl));
          unwinds_to = λ m has. inl (inr (has, refl));
          cleans = cleans;
          calm = calms;
        },
      )

      -- the terminator goes on by an edge
      onward-kept : (raw term : Term) (stmts : List Stmt) (next : ℕ) (made : Made) → StoresFine stmts →
          onward raw ≡ next ∷ [] → onward term ≡ (edge_to kind stmts next made).at ∷ [] →
          unwind_targets term ≡ unwind_targets raw → (cleanup ≡ true → cleans_up term ≡ true) → is_resume term ≡ false →
          EndKept raw made (record { term = term; made = (edge_to kind stmts next made).made })
      onward-kept raw term stmts next made fine raw_on on winds cleans calms =
          let edge = edge_to kind stmts next made in
          let l : OutOf cleanup raw cleanup next =
          inl (subst (λ (z : List ℕ). Contains z next) (sym raw_on) (first-of next []), refl) in
          let e = edge-kept (OutOf cleanup raw) kind stmts next made fine l in (
            e.0,
            record {
              onward_to = λ m has. subst (Led (OutOf cleanup raw) edge.made cleanup)
                  (sym (only edge.at m (subst (λ (z : List ℕ). Contains z m) on has))) e.1;
              unwinds_to = λ m has. inl (inr (subst (λ (z : List ℕ). Contains z m) winds has, refl));
              cleans = cleans;
              calm = λ c. calms;
            },
          )

      term-end-kept : (term : Term) (made : Made) → StoresFine (result_flags items body flagged body term) →
          (cleanup ≡ true → cleans_up term ≡ true) → (cleanup ≡ false → is_resume term ≡ false) →
          EndKept term made (term_end items body flagged kind term made)
      term-end-kept (Term.Math to op left right next unwind) made fine cleans calms =
          onward-kept (Term.Math to op left right next unwind) (term_end items body flagged kind (Term.Math to op left right next unwind) made).term
          _ next made fine refl refl refl (λ c. cleans c) refl
      term-end-kept (Term.Negate to of next unwind) made fine cleans calms =
          onward-kept (Term.Negate to of next unwind) (term_end items body flagged kind (Term.Negate to of next unwind) made).term
          _ next made fine refl refl refl (λ c. cleans c) refl
      term-end-kept (Term.Bounds index count next unwind) made fine cleans calms =
          onward-kept (Term.Bounds index count next unwind) (term_end items body flagged kind (Term.Bounds index count next unwind) made).term
          _ next made fine refl refl refl (λ c. cleans c) refl
      term-end-kept (Term.Call to callee args next unwind) made fine cleans calms =
          onward-kept (Term.Call to callee args next unwind) (term_end items body flagged kind (Term.Call to callee args next unwind) made).term
          _ next made fine refl refl refl (λ c. cleans c) refl
      term-end-kept (Term.Virtual to trait_no method args next unwind) made fine cleans calms =
          onward-kept (Term.Virtual to trait_no method args next unwind)
          (term_end items body flagged kind (Term.Virtual to trait_no method args next unwind) made).term
          _ next made fine refl refl refl (λ c. cleans c) refl
      term-end-kept (Term.Ask to next unwind) made fine cleans calms =
          onward-kept (Term.Ask to next unwind) (term_end items body flagged kind (Term.Ask to next unwind) made).term
          _ next made fine refl refl refl (λ c. cleans c) refl
      term-end-kept other made fine cleans calms = stays-kept other made cleans calms

      -- a drop, by what is decided of it
      abbrev DropFineBy : Decided → Place → Type 0
      DropFineBy Decided.Dead place = Unit {0}
      DropFineBy Decided.Plain place = Unit {0}
      DropFineBy (Decided.Planned plan) place = RungsFine Q (plan_in plan) place

      drop-end-kept : (decided : Decided) (place : Place) (next : ℕ) (unwind : Unwind) (made : Made) →
          StoresFine (cleared items body flagged body place) → ResumeFine → DropFineBy decided place →
          (cleanup ≡ true → is_abort unwind ≡ true) →
          EndKept (Term.DropAt place next unwind) made (drop_end items body flagged decided kind place next unwind made)
      drop-end-kept Decided.Dead place next unwind made fine resumes by quiet = (
        well-none Q (OutOf cleanup (Term.DropAt place next unwind)) made,
        record {
          onward_to = λ m has. inl (inl (has, refl));
          unwinds_to = λ m has. absurd (none-of m has);
          cleans = λ c. refl;
          calm = λ c. refl;
        },
      )
      drop-end-kept Decided.Plain place next unwind made fine resumes by quiet =
          stays-kept (Term.DropAt place next unwind) made quiet (λ c. refl)
      drop-end-kept (Decided.Planned plan) place next unwind made fine resumes by quiet =
          let raw = Term.DropAt place next unwind in
          let begun = ladder_end items body flagged (plan_in plan) kind place next unwind made in
          let b = ladder-end-kept (OutOf cleanup (Term.DropAt place next unwind)) (plan_in plan) place next unwind made fine resumes by
          (inl (first-of next [], refl)) (λ block is. inr (unwinds-there block is, refl)) quiet in (
            b.0,
            record {
              onward_to = λ m has. subst (Led (OutOf cleanup (Term.DropAt place next unwind)) begun.made cleanup) (sym (only begun.at m has)) b.1;
              unwinds_to = λ m has. absurd (none-of m has);
              cleans = λ c. refl;
              calm = λ c. refl;
            },
          )
        where
          unwinds-there : (block : ℕ) → unwind ≡ Unwind.Block block → Contains (unwind_targets (Term.DropAt place next unwind)) block
          unwinds-there block is =
              subst (λ (u : Unwind). Contains (unwind_targets (Term.DropAt place next u)) block) (sym is) (first-of block [])

      -- what is asked of the end of a block
      abbrev pub EndFine : Decided → Term → Type 0
      EndFine decided (Term.DropAt place next unwind) =
          StoresFine (cleared items body flagged body place) × DropFineBy decided place
      EndFine decided term = StoresFine (result_flags items body flagged body term)

      pub end-kept : (decided : Decided) (term : Term) (made : Made) → ResumeFine → EndFine decided term →
          (cleanup ≡ true → cleans_up term ≡ true) → (cleanup ≡ false → is_resume term ≡ false) →
          EndKept term made (end_by items body flagged decided kind term made)
      end-kept decided (Term.DropAt place next unwind) made resumes fine cleans calms =
          drop-end-kept decided place next unwind made fine.0 resumes fine.1 cleans
      end-kept decided other made resumes fine cleans calms = term-end-kept other made fine cleans calms
