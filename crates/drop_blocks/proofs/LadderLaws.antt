-- The blocks that are made for a plan are its ladder and the twin of it, in every body that holds them.
use Rattle.std.proofs.Common.{◌≡◌, ◌∙◌, ◌∷◌, [], ◌+◌, ℕ, suc, false, List, Option, Some, None, length, slice_get, refl, ap, subst}
use Rattle.std.specs.Prelude.{unwrap_or}
use Rattle.cfg_graph.specs.declared.graph.Block.{Block}
use Rattle.cfg_graph.specs.declared.graph.Body.{Body}
use Rattle.cfg_graph.specs.declared.place.Operand.{Operand}
use Rattle.cfg_graph.specs.declared.place.Place.{Place}
use Rattle.cfg_graph.specs.declared.place.Step.{Step}
use Rattle.cfg_graph.specs.declared.statement.Stmt.{Stmt}
use Rattle.cfg_graph.specs.declared.terminator.Term.{Term}
use Rattle.cfg_graph.specs.Edges.{is_turn_kind}
use Rattle.mir_ty.proofs.ListLemmas.{slice_get-append_left, slice_get-last}
use Rattle.cfg_graph.specs.declared.graph.Kind.{Kind}
use Rattle.drop_elaborate.specs.Build.{Made, Begun}
use Rattle.drop_elaborate.specs.Ladder.{Ending, Calmly, Abruptly, unwind_in, place_below, local_place, BlockAt, TwinOf, FreedAt, FreedBy, LadderAt, PartsAt, CasesAt}
use Rattle.drop_values.specs.Plan.{Plan, Nothing, Entire, ByFlag, InParts, OfBox, ByVariant, Plans, no_plan, a_plan, Cases, no_case, a_case}
use Rattle.drop_blocks.specs.Ladders.{Built, built, ending_of, with_one, drop_rung, free_rung, flag_test, case_test, with_twin, rung_before, test_before, freed_before, ladder_of, parts_of, cases_of}
use Rattle.drop_blocks.specs.Standing.{IsAs, Holds, Grows, Twinned, Stands}
use Rattle.drop_blocks.specs.declared.rungs.Chains.{Chains}

pub stay : (made : Made) → Grows made made
stay made = record { first = refl; stays = λ i block e. e }

pub grow : (a b c : Made) → Grows a b → Grows b c → Grows a c
grow a b c g h = record { first = h.first ∙ g.first; stays = λ i block e. h.stays i block (g.stays i block e) }

pub holds-less : (body : Body) (made later : Made) → Grows made later → Holds body later → Holds body made
holds-less body made later g h i block e =
    subst (λ f. (there : Block) × (slice_get body.blocks (f + i) ≡ Some there) × IsAs block there) g.first
    (h i block (g.stays i block e))

one-grows : (kind : Kind) (stmts : List Stmt) (term : Term) (made : Made) →
    Grows made (with_one kind stmts term made).made
one-grows kind stmts term made =
    record { first = refl; stays = λ i block e. slice_get-append_left made.blocks _ i block e }

one-at : (kind : Kind) → is_turn_kind kind ≡ false → (stmts : List Stmt) (term : Term) (made : Made) (body : Body) →
    Holds body (with_one kind stmts term made).made → BlockAt body (with_one kind stmts term made).at stmts term
one-at kind flat stmts term made body h =
    let it = h (length made.blocks) _ (slice_get-last made.blocks _) in record {
      block = it.0;
      there = it.1;
      plain = ap is_turn_kind it.2.kind ∙ flat;
      stmts_are = it.2.stmts;
      term_is = it.2.term;
    }

same-twins : (twin : Option ℕ) (Q : ℕ → ℕ → Type 0) → ((n : ℕ) → Q n n) → Twinned twin twin Q
same-twins None Q same = tt
same-twins (Some n) Q same = same n

nothing-stands : (rest : Chains) (made : Made) (P : Body → ℕ → ℕ → Ending → Type 0) →
    ((body : Body) (n : ℕ) (ending : Ending) → P body n n ending) →
    Stands made (record { chains = rest; made = made }) rest.calm rest.twin P
nothing-stands rest made P same = record {
  grows = stay made;
  calm = λ body h. same body rest.calm (ending_of rest.twin);
  twin = same-twins rest.twin _ (λ n body h. same body n Abruptly);
}

-- a rung: a block that stands from its number to where it leads
record IsRung (rung : Kind → ℕ → Ending → Made → Begun) (P : Body → ℕ → ℕ → Ending → Type 0) : Type 0 where
  grows : (kind : Kind) (to : ℕ) (ending : Ending) (made : Made) → Grows made (rung kind to ending made).made
  stands : (kind : Kind) → is_turn_kind kind ≡ false → (to : ℕ) (ending : Ending) (made : Made) (body : Body) →
      Holds body (rung kind to ending made).made → P body (rung kind to ending made).at to ending

rung-stands : (rung : Kind → ℕ → Ending → Made → Begun) (P : Body → ℕ → ℕ → Ending → Type 0) → IsRung rung P →
    (kind : Kind) → is_turn_kind kind ≡ false → (to : ℕ) (over : Option ℕ) (made : Made) →
    Stands made (with_twin (rung Kind.Cleanup) over (rung kind to (ending_of over) made)) to over P
rung-stands rung P is kind flat to None made = record {
  grows = is.grows kind to Abruptly made;
  calm = is.stands kind flat to Abruptly made;
  twin = tt;
}
rung-stands rung P is kind flat to (Some other) made =
    let c : Begun = rung kind to (Calmly other) made in
    let t : Begun = rung Kind.Cleanup other Abruptly c.made in
    let grown : Grows c.made t.made = is.grows Kind.Cleanup other Abruptly c.made in record {
      grows = grow made c.made t.made (is.grows kind to (Calmly other) made) grown;
      calm = λ body h. is.stands kind flat to (Calmly other) made body (holds-less body c.made t.made grown h);
      twin = is.stands Kind.Cleanup refl other Abruptly c.made;
    }

drop-is-rung : (place : Place) →
    IsRung (drop_rung place) (λ body from to ending. BlockAt body from [] (Term.DropAt place to (unwind_in ending)))
drop-is-rung place = record {
  grows = λ kind to ending made. one-grows kind [] (Term.DropAt place to (unwind_in ending)) made;
  stands = λ kind flat to ending made body h.
      one-at kind flat [] (Term.DropAt place to (unwind_in ending)) made body h;
}

free-is-rung : (place : Place) → IsRung (free_rung place) (λ body. FreedAt body place)
free-is-rung place = record {
  grows = λ kind to ending made. one-grows kind (Stmt.Free place ∷ []) (Term.Goto to) made;
  stands = λ kind flat to ending made body h.
      one-at kind flat (Stmt.Free place ∷ []) (Term.Goto to) made body h;
}

-- a test: a block that stands at its number and leads to two others
record IsTest (test : Kind → ℕ → ℕ → Ending → Made → Begun) (At : Body → ℕ → ℕ → ℕ → Type 0) : Type 0 where
  grows : (kind : Kind) (there to : ℕ) (ending : Ending) (made : Made) →
      Grows made (test kind there to ending made).made
  stands : (kind : Kind) → is_turn_kind kind ≡ false → (there to : ℕ) (ending : Ending) (made : Made) (body : Body) →
      Holds body (test kind there to ending made).made → At body (test kind there to ending made).at there to

abbrev flag-at : ℕ → Body → ℕ → ℕ → ℕ → Type 0
flag-at flag body from there to = BlockAt body from [] (Term.If (Operand.Copied (local_place flag)) there to)

abbrev case-at : Place → ℕ → Body → ℕ → ℕ → ℕ → Type 0
case-at place variant body from there to = BlockAt body from [] (Term.Case place variant there to)

flag-is-test : (flag : ℕ) → IsTest (flag_test flag) (flag-at flag)
flag-is-test flag = record {
  grows = λ kind there to ending made. one-grows kind [] (Term.If (Operand.Copied (local_place flag)) there to) made;
  stands = λ kind flat there to ending made body h.
      one-at kind flat [] (Term.If (Operand.Copied (local_place flag)) there to) made body h;
}

case-is-test : (place : Place) (variant : ℕ) → IsTest (case_test place variant) (case-at place variant)
case-is-test place variant = record {
  grows = λ kind there to ending made. one-grows kind [] (Term.Case place variant there to) made;
  stands = λ kind flat there to ending made body h.
      one-at kind flat [] (Term.Case place variant there to) made body h;
}

module _ (test : Kind → ℕ → ℕ → Ending → Made → Begun) (At : Body → ℕ → ℕ → ℕ → Type 0) (is : IsTest test At) (base : Made)
    (kind : Kind) (flat : is_turn_kind kind ≡ false) where
  -- what is there leads to the rest, where the test leads too
  module _ (P : Body → ℕ → ℕ → Ending → Type 0) where
    abbrev Guarded : Body → ℕ → ℕ → Ending → Type 0
    Guarded body from to ending = (yes : ℕ) × At body from yes to × P body yes to ending

    tested-by : (calm : ℕ) (twin : Option ℕ) (made : Made) (to : ℕ) (over : Option ℕ) →
        Stands base (built calm twin made) to over P →
        Stands base (with_twin (λ k. test Kind.Cleanup (unwrap_or twin k) k) over (test kind calm to (ending_of over) made)) to over Guarded
    tested-by calm None made to None s =
        let c : Begun = test kind calm to Abruptly made in
        let grown : Grows made c.made = is.grows kind calm to Abruptly made in record {
          grows = grow base made c.made s.grows grown;
          calm = λ body h. (
            calm,
            is.stands kind flat calm to Abruptly made body h,
            s.calm body (holds-less body made c.made grown h),
          );
          twin = tt;
        }
    tested-by calm (Some a) made to (Some other) s =
        let c : Begun = test kind calm to (Calmly other) made in
        let t : Begun = test Kind.Cleanup a other Abruptly c.made in
        let one : Grows made c.made = is.grows kind calm to (Calmly other) made in
        let two : Grows c.made t.made = is.grows Kind.Cleanup a other Abruptly c.made in
        let both : Grows made t.made = grow made c.made t.made one two in record {
          grows = grow base made t.made s.grows both;
          calm = λ body h. (
            calm,
            is.stands kind flat calm to (Calmly other) made body (holds-less body c.made t.made two h),
            s.calm body (holds-less body made t.made both h),
          );
          twin = λ body h. (
            a,
            is.stands Kind.Cleanup refl a other Abruptly c.made body h,
            s.twin body (holds-less body made t.made both h),
          );
        }
    tested-by calm None made to (Some other) s = absurd s.twin
    tested-by calm (Some a) made to None s = absurd s.twin

    tested : (there : Built) (rest : Chains) → Stands base there rest.calm rest.twin P →
        Stands base (test_before kind test there.chains rest there.made) rest.calm rest.twin Guarded
    tested there rest s =
        tested-by there.chains.calm there.chains.twin there.made rest.calm rest.twin
        (record { grows = s.grows; calm = s.calm; twin = s.twin })

  -- of two chains the one or the other
  module _ (P R : Body → ℕ → ℕ → Ending → Type 0) where
    abbrev Either : Body → ℕ → ℕ → Ending → Type 0
    Either body from to ending = (yes no : ℕ) × At body from yes no × P body yes to ending × R body no to ending

    either-by : (n y : ℕ) (o q : Option ℕ) (m m' : Made) (to : ℕ) (over : Option ℕ) →
        Stands base (built n o m) to over R → Stands m (built y q m') to over P →
        Stands base (with_twin (λ k. test Kind.Cleanup (unwrap_or q k) k) o (test kind y n (ending_of o) m')) to over Either
    either-by n y None None m m' to None r p =
        let c : Begun = test kind y n Abruptly m' in
        let grown : Grows m' c.made = is.grows kind y n Abruptly m' in
        let all : Grows m c.made = grow m m' c.made p.grows grown in record {
          grows = grow base m c.made r.grows all;
          calm = λ body h. (
            y,
            n,
            is.stands kind flat y n Abruptly m' body h,
            p.calm body (holds-less body m' c.made grown h),
            r.calm body (holds-less body m c.made all h),
          );
          twin = tt;
        }
    either-by n y (Some b) (Some a) m m' to (Some other) r p =
        let c : Begun = test kind y n (Calmly b) m' in
        let t : Begun = test Kind.Cleanup a b Abruptly c.made in
        let one : Grows m' c.made = is.grows kind y n (Calmly b) m' in
        let two : Grows c.made t.made = is.grows Kind.Cleanup a b Abruptly c.made in
        let both : Grows m' t.made = grow m' c.made t.made one two in
        let all : Grows m t.made = grow m m' t.made p.grows both in record {
          grows = grow base m t.made r.grows all;
          calm = λ body h. (
            y,
            n,
            is.stands kind flat y n (Calmly b) m' body (holds-less body c.made t.made two h),
            p.calm body (holds-less body m' t.made both h),
            r.calm body (holds-less body m t.made all h),
          );
          twin = λ body h. (
            a,
            b,
            is.stands Kind.Cleanup refl a b Abruptly c.made body h,
            p.twin body (holds-less body m' t.made both h),
            r.twin body (holds-less body m t.made all h),
          );
        }
    either-by n y (Some b) q m m' to None r p = absurd r.twin
    either-by n y None q m m' to (Some other) r p = absurd r.twin
    either-by n y None (Some a) m m' to None r p = absurd p.twin
    either-by n y (Some b) None m m' to (Some other) r p = absurd p.twin

    branched : (other there : Built) (to : ℕ) (over : Option ℕ) → Stands base other to over R →
        Stands other.made there to over P →
        Stands base (test_before kind test there.chains other.chains there.made) to over Either
    branched other there to over r p =
        either-by other.chains.calm there.chains.calm other.chains.twin there.chains.twin other.made there.made to over
        (record { grows = r.grows; calm = r.calm; twin = r.twin })
        (record { grows = p.grows; calm = p.calm; twin = p.twin })

-- rungs before others, whose twins are where a panic goes on
module _ (base : Made) (P R : Body → ℕ → ℕ → Ending → Type 0) where
  abbrev Followed : Body → ℕ → ℕ → Ending → Type 0
  Followed body from to ending = (mid : ℕ) × P body mid to ending × TwinOf body (P body) ending (R body from mid)

  behind-by : (n m : ℕ) (a b : Option ℕ) (made later : Made) (to : ℕ) (over : Option ℕ) →
      Stands base (built n a made) to over P → Stands made (built m b later) n a R →
      Stands base (built m b later) to over Followed
  behind-by n m None None made later to None p r = record {
    grows = grow base made later p.grows r.grows;
    calm = λ body h. (n, p.calm body (holds-less body made later r.grows h), r.calm body h);
    twin = tt;
  }
  behind-by n m (Some a) (Some b) made later to (Some other) p r = record {
    grows = grow base made later p.grows r.grows;
    calm = λ body h.
        let less = holds-less body made later r.grows h in
        (n, p.calm body less, (a, p.twin body less, r.calm body h));
    twin = λ body h. (a, p.twin body (holds-less body made later r.grows h), r.twin body h);
  }
  behind-by n m (Some a) b made later to None p r = absurd p.twin
  behind-by n m None b made later to (Some other) p r = absurd p.twin
  behind-by n m None (Some b) made later to None p r = absurd r.twin
  behind-by n m (Some a) None made later to (Some other) p r = absurd r.twin

  behind : (first last : Built) (to : ℕ) (over : Option ℕ) → Stands base first to over P →
      Stands first.made last first.chains.calm first.chains.twin R → Stands base last to over Followed
  behind first last to over p r =
      let all = behind-by first.chains.calm last.chains.calm first.chains.twin last.chains.twin first.made last.made to
      over (record { grows = p.grows; calm = p.calm; twin = p.twin })
      (record { grows = r.grows; calm = r.calm; twin = r.twin }) in
      record { grows = all.grows; calm = all.calm; twin = all.twin }

module _ (kind : Kind) (flat : is_turn_kind kind ≡ false) where
  freed-stands : (guard : Option ℕ) (place : Place) (rest : Chains) (made : Made) →
      Stands made (freed_before kind guard place rest made) rest.calm rest.twin (λ body. FreedBy body guard place)
  freed-stands None place rest made =
      rung-stands (free_rung place) (λ body. FreedAt body place) (free-is-rung place) kind flat rest.calm rest.twin made
  freed-stands (Some flag) place rest made =
      tested (flag_test flag) (flag-at flag) (flag-is-test flag) made kind flat (λ body. FreedAt body place)
      (rung_before kind (free_rung place) rest made) rest
      (rung-stands (free_rung place) (λ body. FreedAt body place) (free-is-rung place) kind flat rest.calm rest.twin made)

  mutual
    pub ladder-stands : (plan : Plan) (place : Place) (rest : Chains) (made : Made) →
        Stands made (ladder_of kind plan place rest made) rest.calm rest.twin (λ body. LadderAt body plan place)
    ladder-stands Nothing place rest made =
        nothing-stands rest made (λ body. LadderAt body Nothing place) (λ body n ending. refl)
    ladder-stands Entire place rest made =
        rung-stands (drop_rung place) (λ body. LadderAt body Entire place) (drop-is-rung place) kind flat rest.calm rest.twin made
    ladder-stands (ByFlag flag plan) place rest made =
        tested (flag_test flag) (flag-at flag) (flag-is-test flag) made kind flat (λ body. LadderAt body plan place)
        (ladder_of kind plan place rest made) rest (ladder-stands plan place rest made)
    ladder-stands (InParts plans) place rest made = parts-stand plans Step.Part 0 place rest made
    ladder-stands (OfBox guard plan) place rest made =
        let b : Built = freed_before kind guard place rest made in
        behind made (λ body. FreedBy body guard place) (λ body. LadderAt body plan (place_below place Step.Inside)) b
        (ladder_of kind plan (place_below place Step.Inside) b.chains b.made) rest.calm rest.twin
        (freed-stands guard place rest made) (ladder-stands plan (place_below place Step.Inside) b.chains b.made)
    ladder-stands (ByVariant cases) place rest made = cases-stand cases place rest made

    parts-stand : (plans : Plans) (step : ℕ → Step) (n : ℕ) (place : Place) (rest : Chains) (made : Made) →
        Stands made (parts_of kind plans step n place rest made) rest.calm rest.twin (λ body. PartsAt body plans step n place)
    parts-stand no_plan step n place rest made =
        nothing-stands rest made (λ body. PartsAt body no_plan step n place) (λ body m ending. refl)
    parts-stand (a_plan plan plans) step n place rest made =
        let b : Built = parts_of kind plans step (suc n) place rest made in
        behind made (λ body. PartsAt body plans step (suc n) place) (λ body. LadderAt body plan (place_below place (step n)))
        b (ladder_of kind plan (place_below place (step n)) b.chains b.made) rest.calm rest.twin
        (parts-stand plans step (suc n) place rest made)
        (ladder-stands plan (place_below place (step n)) b.chains b.made)

    cases-stand : (cases : Cases) (place : Place) (rest : Chains) (made : Made) →
        Stands made (cases_of kind cases place rest made) rest.calm rest.twin (λ body. CasesAt body cases place)
    cases-stand no_case place rest made =
        nothing-stands rest made (λ body. CasesAt body no_case place) (λ body n ending. refl)
    cases-stand (a_case variant plans others) place rest made =
        let b : Built = cases_of kind others place rest made in
        branched (case_test place variant) (case-at place variant) (case-is-test place variant) made kind flat
        (λ body. PartsAt body plans (λ n. Step.Field variant n) 0 place) (λ body. CasesAt body others place) b
        (parts_of kind plans (λ n. Step.Field variant n) 0 place rest b.made) rest.calm rest.twin
        (cases-stand others place rest made) (parts-stand plans (λ n. Step.Field variant n) 0 place rest b.made)
