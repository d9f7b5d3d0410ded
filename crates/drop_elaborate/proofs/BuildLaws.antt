-- The blocks that are made for a plan are its ladder and the twin of it, in every body that holds them.
use Rattle.std.proofs.Common.{◌≡◌, ℕ, suc, ◌+◌, List, [], ◌∷◌, length, Option, Some, None, slice_get, refl, ◌∙◌, subst}
use Rattle.cfg_graph.specs.declared.graph.Block.{Block}
use Rattle.cfg_graph.specs.declared.graph.Body.{Body}
use Rattle.cfg_graph.specs.declared.place.Operand.{Operand}
use Rattle.cfg_graph.specs.declared.place.Place.{Place}
use Rattle.cfg_graph.specs.declared.place.Step.{Step}
use Rattle.cfg_graph.specs.declared.statement.Stmt.{Stmt}
use Rattle.cfg_graph.specs.declared.terminator.Term.{Term}
use Rattle.mir_ty.proofs.ListLemmas.{slice_get-append_left, slice_get-last}
use Rattle.drop_elaborate.specs.Build.{Made, BegunTwice, one_block, free_block, free_by, twice, ladder_of, parts_of, cases_of}
use Rattle.drop_elaborate.specs.Ladder.{Ending, Calmly, Abruptly, unwind_in, place_below, local_place, BlockAt, FreedBy, LadderAt, PartsAt, CasesAt}
use Rattle.drop_values.specs.Plan.{Plan, Nothing, Entire, ByFlag, InParts, OfBox, ByVariant, Plans, no_plan, a_plan, Cases, no_case, a_case}

-- a body holds the blocks
abbrev pub Holds : Body → Made → Type 0
Holds body made = (i : ℕ) (block : Block) → slice_get made.blocks i ≡ Some block →
    slice_get body.blocks (made.first + i) ≡ Some block

-- no block is changed by what is made later
pub record Grows (made later : Made) : Type 0 where
  pub first : later.first ≡ made.first
  pub stays : (i : ℕ) (block : Block) → slice_get made.blocks i ≡ Some block → slice_get later.blocks i ≡ Some block

stay : (made : Made) → Grows made made
stay made = record { first = refl; stays = λ i block e. e }

grow : (a b c : Made) → Grows a b → Grows b c → Grows a c
grow a b c g h = record { first = h.first ∙ g.first; stays = λ i block e. h.stays i block (g.stays i block e) }

holds-less : (body : Body) (made later : Made) → Grows made later → Holds body later → Holds body made
holds-less body made later g h i block e = subst (λ f. slice_get body.blocks (f + i) ≡ Some block) g.first
    (h i block (g.stays i block e))

one-grows : (ending : Ending) (stmts : List Stmt) (term : Term) (made : Made) →
    Grows made (one_block ending stmts term made).made
one-grows ending stmts term made = record {
  first = refl;
  stays = λ i block e. slice_get-append_left
      made.blocks _ i block e;
}

one-at : (ending : Ending) (stmts : List Stmt) (term : Term) (made : Made) (body : Body) →
    Holds body (one_block ending stmts term made).made → BlockAt body (one_block ending stmts term made).at stmts term
one-at (Calmly cleanup) stmts term made body h = record {
  block = _;
  there =
      h (length made.blocks) _ (slice_get-last made.blocks _);
  plain = refl;
  stmts_are = refl;
  term_is = refl;
}
one-at Abruptly stmts term made body h = record {
  block = _;
  there = h (length made.blocks) _
      (slice_get-last made.blocks _);
  plain = refl;
  stmts_are = refl;
  term_is = refl;
}

-- two blocks, one in each chain
pub record Both (made : Made) (b : BegunTwice) (calm twin : (body : Body) → ℕ → Type 0) : Type 0 where
  pub grows : Grows made b.made
  pub code : (body : Body) → Holds body b.made → calm body b.calm × twin body b.twin

two : (made : Made) (e e' : Ending) (stmts stmts' : List Stmt) (term term' : Term) →
    Both made (twice (one_block e stmts term) (one_block e' stmts' term') made) (λ body n. BlockAt body n stmts term)
    (λ body n. BlockAt body n stmts' term')
two made e e' stmts stmts' term term' = record {
  grows = grow made (one_block e stmts term made).made _ (one-grows e stmts term made)
      (one-grows e' stmts' term' (one_block e stmts term made).made);
  code = λ body h. (
    one-at e stmts term made body (holds-less body (one_block e stmts term made).made _
        (one-grows e' stmts' term' (one_block e stmts term made).made) h),
    one-at e' stmts' term'
        (one_block e stmts term made).made body h,
  );
}

free-built : (guard : Option ℕ) (place : Place) (to cleanup : ℕ) (made : Made) →
    Both made (free_by guard place to cleanup made) (λ body n. FreedBy body guard place n to (Calmly cleanup))
    (λ body n. FreedBy body guard place n cleanup Abruptly)
free-built None place to cleanup made = two made (Calmly cleanup) Abruptly (Stmt.Free place ∷ [])
    (Stmt.Free place ∷ []) (Term.Goto to) (Term.Goto cleanup)
free-built (Some flag) place to cleanup made =
    let b = twice (free_block place to (Calmly cleanup)) (free_block place cleanup Abruptly) made in
    let inner = two made (Calmly cleanup) Abruptly (Stmt.Free place ∷ []) (Stmt.Free place ∷ [])
    (Term.Goto to) (Term.Goto cleanup) in
    let t = two b.made (Calmly cleanup) Abruptly [] [] (Term.If (Operand.Copied (local_place flag)) b.calm to)
    (Term.If (Operand.Copied (local_place flag)) b.twin cleanup) in record {
      grows = grow made b.made _ inner.grows t.grows;
      code = λ body h. let c = inner.code body (holds-less body b.made _ t.grows h) in let d =
          t.code body h in ((b.calm, d.0, c.0), (b.twin, d.1, c.1));
    }

mutual
  pub ladder-built : (plan : Plan) (place : Place) (to cleanup : ℕ) (made : Made) →
      Both made (ladder_of plan place to cleanup made) (λ body n. LadderAt body plan place n to (Calmly cleanup))
      (λ body n. LadderAt body plan place n cleanup Abruptly)
  ladder-built Nothing place to cleanup made = record { grows = stay made; code = λ body h. (refl, refl) }
  ladder-built Entire place to cleanup made = two made (Calmly cleanup) Abruptly [] []
      (Term.DropAt place to (unwind_in (Calmly cleanup))) (Term.DropAt place cleanup (unwind_in Abruptly))
  ladder-built (ByFlag flag plan) place to cleanup made =
      let b = ladder_of plan place to cleanup made in let inner = ladder-built plan place to cleanup made in
      let t = two b.made (Calmly cleanup) Abruptly [] [] (Term.If (Operand.Copied (local_place flag)) b.calm to)
      (Term.If (Operand.Copied (local_place flag)) b.twin cleanup) in record {
        grows = grow made b.made _ inner.grows t.grows;
        code = λ body h. let c = inner.code body (holds-less body b.made _ t.grows h) in let d =
            t.code body h in ((b.calm, d.0, c.0), (b.twin, d.1, c.1));
      }
  ladder-built (InParts plans) place to cleanup made = parts-built plans Step.Part 0 place to cleanup made
  ladder-built (OfBox guard plan) place to cleanup made =
      let f = free_by guard place to cleanup made in
      let t = free-built guard place to cleanup made in
      let inner = ladder-built plan (place_below place Step.Inside) f.calm f.twin f.made in record {
        grows = grow made f.made _ t.grows inner.grows;
        code = λ body h. let c = inner.code body h in let d =
            t.code body (holds-less body f.made _ inner.grows h) in (
              (f.calm, d.0, (f.twin, d.1, c.0)),
              (f.twin, d.1, c.1),
            );
      }
  ladder-built (ByVariant cases) place to cleanup made = cases-built cases place to cleanup made

  parts-built : (plans : Plans) (step : ℕ → Step) (n : ℕ) (place : Place) (to cleanup : ℕ) (made : Made) →
      Both made (parts_of plans step n place to cleanup made)
      (λ body from. PartsAt body plans step n place from to (Calmly cleanup))
      (λ body from. PartsAt body plans step n place from cleanup Abruptly)
  parts-built no_plan step n place to cleanup made = record { grows = stay made; code = λ body h. (refl, refl) }
  parts-built (a_plan plan plans) step n place to cleanup made =
      let b = parts_of plans step (suc n) place to cleanup made in let rest =
      parts-built plans step (suc n) place to cleanup made in
      let inner = ladder-built plan (place_below place (step n)) b.calm b.twin b.made in record {
        grows = grow made b.made _ rest.grows inner.grows;
        code = λ body h. let c = inner.code body h in let d =
            rest.code body (holds-less body b.made _ inner.grows h) in (
              (b.calm, d.0, (b.twin, d.1, c.0)),
              (b.twin, d.1, c.1),
            );
      }

  cases-built : (cases : Cases) (place : Place) (to cleanup : ℕ) (made : Made) →
      Both made (cases_of cases place to cleanup made) (λ body n. CasesAt body cases place n to (Calmly cleanup))
      (λ body n. CasesAt body cases place n cleanup Abruptly)
  cases-built no_case place to cleanup made = record { grows = stay made; code = λ body h. (refl, refl) }
  cases-built (a_case variant plans rest) place to cleanup made =
      let b = cases_of rest place to cleanup made in let others = cases-built rest place to cleanup made in
      let c = parts_of plans (λ n. Step.Field variant n) 0 place to cleanup b.made in let inner =
      parts-built plans (λ n. Step.Field variant n) 0 place to cleanup b.made in
      let t = two c.made (Calmly cleanup) Abruptly [] [] (Term.Case place variant c.calm b.calm)
      (Term.Case place variant c.twin b.twin) in record {
        grows = grow made b.made _ others.grows (grow b.made c.made _ inner.grows t.grows);
        code = λ body h.
            let x = t.code body h in let y = inner.code body (holds-less body c.made _ t.grows h) in let z =
            others.code body (holds-less body b.made _ (grow b.made c.made _ inner.grows t.grows) h) in
            ((c.calm, b.calm, x.0, y.0, z.0), (c.twin, b.twin, x.1, y.1, z.1));
      }
