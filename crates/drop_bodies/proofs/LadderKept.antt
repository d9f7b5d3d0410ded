-- The blocks of a ladder are fine where its rungs are, and keep to cleanup blocks or to others.
use Rattle.std.proofs.Common.{◌≡◌, ◌⊎◌, inl, inr, ◌∙◌, ◌∷◌, [], ℕ, suc, Bool, true, false, List, Option, Some, None, Contains, refl, sym, ap, subst}
use Rattle.std.specs.Prelude.{unwrap_or}
use Rattle.std.proofs.lemmas.Bool.{false≢true}
use Rattle.std.proofs.lemmas.Option.{none-some, same_Some}
use Rattle.cfg_graph.specs.declared.graph.Block.{Block}
use Rattle.cfg_graph.specs.declared.graph.Kind.{Kind}
use Rattle.cfg_graph.specs.declared.place.Operand.{Operand}
use Rattle.cfg_graph.specs.declared.place.Place.{Place}
use Rattle.cfg_graph.specs.declared.place.Step.{Step}
use Rattle.cfg_graph.specs.declared.statement.Stmt.{Stmt}
use Rattle.cfg_graph.specs.declared.terminator.Term.{Term}
use Rattle.cfg_graph.specs.declared.terminator.Unwind.{Unwind}
use Rattle.cfg_graph.specs.Edges.{onward, unwind_targets, is_cleanup_kind}
use Rattle.cfg_graph.specs.WellFormed.Cleanup.{cleans_up, is_resume}
use Rattle.drop_elaborate.specs.Build.{Made, Begun}
use Rattle.drop_elaborate.specs.Ladder.{Ending, Calmly, Abruptly, unwind_in, place_below, local_place}
use Rattle.drop_values.specs.Plan.{Plan, Nothing, Entire, ByFlag, InParts, OfBox, ByVariant, Plans, no_plan, a_plan, Cases, no_case, a_case}
use Rattle.drop_blocks.specs.Ladders.{Built, ending_of, with_one, drop_rung, free_rung, flag_test, case_test, with_twin, rung_before, test_before, freed_before, ladder_of, parts_of, cases_of}
use Rattle.drop_blocks.specs.Standing.{Grows}
use Rattle.drop_blocks.specs.declared.rungs.Chains.{Chains}
use Rattle.drop_bodies.proofs.Kept.{Keeps, Led, led-on, WellMade, well-none, well-then, one_of, well-one, one-new}
use Rattle.drop_ends.proofs.Leading.{one-of, none-of}

-- each block of a plan's ladder is fine, whatever its kind and rank, and wherever it leads
module _ (Q : Block → Type 0) where
  abbrev pub DropFine : Place → Type 0
  DropFine place = (kind : Kind) (rank to : ℕ) (unwind : Unwind) →
      Q (record { kind = kind; rank = rank; stmts = []; term = Term.DropAt place to unwind })

  abbrev pub FreeFine : Place → Type 0
  FreeFine place = (kind : Kind) (rank to : ℕ) →
      Q (record { kind = kind; rank = rank; stmts = Stmt.Free place ∷ []; term = Term.Goto to })

  abbrev pub FlagFine : ℕ → Type 0
  FlagFine flag = (kind : Kind) (rank there to : ℕ) →
      Q (record { kind = kind; rank = rank; stmts = []; term = Term.If (Operand.Copied (local_place flag)) there to })

  abbrev pub CaseFine : Place → ℕ → Type 0
  CaseFine place variant = (kind : Kind) (rank there to : ℕ) →
      Q (record { kind = kind; rank = rank; stmts = []; term = Term.Case place variant there to })

  abbrev pub GuardFine : Option ℕ → Type 0
  GuardFine None = Unit {0}
  GuardFine (Some flag) = FlagFine flag

  abbrev mutual
    pub RungsFine : Plan → Place → Type 0
    RungsFine Nothing place = Unit {0}
    RungsFine Entire place = DropFine place
    RungsFine (ByFlag flag plan) place = FlagFine flag × RungsFine plan place
    RungsFine (InParts plans) place = PartsFine plans Step.Part 0 place
    RungsFine (OfBox guard plan) place = GuardFine guard × FreeFine place × RungsFine plan (place_below place Step.Inside)
    RungsFine (ByVariant cases) place = CasesFine cases place

    pub PartsFine : Plans → (ℕ → Step) → ℕ → Place → Type 0
    PartsFine no_plan step n place = Unit {0}
    PartsFine (a_plan plan plans) step n place =
        RungsFine plan (place_below place (step n)) × PartsFine plans step (suc n) place

    pub CasesFine : Cases → Place → Type 0
    CasesFine no_case place = Unit {0}
    CasesFine (a_case variant plans rest) place =
        CaseFine place variant × PartsFine plans (λ n. Step.Field variant n) 0 place × CasesFine rest place

-- ---- chains

module _ (Q : Block → Type 0) (kind : Kind) where
  -- where chains go on: a calm one, and a twin in cleanup blocks
  abbrev pub Heads : Chains → Bool → ℕ → Type 0
  Heads rest b m = ((m ≡ rest.calm) × (b ≡ is_cleanup_kind kind)) ⊎ ((rest.twin ≡ Some m) × (b ≡ true))

  pub record LaidWell (rest : Chains) (made : Made) (b : Built) : Type 0 where
    pub back : WellMade Q (Heads rest) made b.made
    pub calm : Led (Heads rest) b.made (is_cleanup_kind kind) b.chains.calm
    pub twin : (t : ℕ) → b.chains.twin ≡ Some t → Led (Heads rest) b.made true t
    pub alone : rest.twin ≡ None → b.chains.twin ≡ None

  well-laid-none : (rest : Chains) (made : Made) → LaidWell rest made (record { chains = rest; made = made })
  well-laid-none rest made = record {
    back = well-none Q (Heads rest) made;
    calm = inl (inl (refl, refl));
    twin = λ t e. inl (inr (e, refl));
    alone = λ e. e;
  }

  well-laid-then : (rest : Chains) (made : Made) (b c : Built) → LaidWell rest made b → LaidWell b.chains b.made c →
      LaidWell rest made c
  well-laid-then rest made b c g h = record {
    back = well-then Q (Heads rest) (Heads b.chains) made b.made c.made g.back h.back head;
    calm = led (is_cleanup_kind kind) c.chains.calm h.calm;
    twin = λ t e. led true t (h.twin t e);
    alone = λ e. h.alone (g.alone e);
  }
    where
      head : (k : Bool) (m : ℕ) → Heads b.chains k m → Led (Heads rest) b.made k m
      head k m (inl e) =
          subst (λ (c : Bool). Led (Heads rest) b.made c m) (sym e.1)
          (subst (Led (Heads rest) b.made (is_cleanup_kind kind)) (sym e.0) g.calm)
      head k m (inr e) = subst (λ (c : Bool). Led (Heads rest) b.made c m) (sym e.1) (g.twin m e.0)

      led : (k : Bool) (m : ℕ) → Led (Heads b.chains) c.made k m → Led (Heads rest) c.made k m
      led k m (inl x) = led-on (Heads rest) b.made c.made h.back.grows k m (head k m x)
      led k m (inr is) = inr is

  -- one block more
  one-well : (L : Bool → ℕ → Type 0) (base mid : Made) → WellMade Q L base mid → (own : Kind) (stmts : List Stmt) (term : Term) →
      Q (one_of Q own stmts term mid) → Keeps (Led L mid) (one_of Q own stmts term mid) →
      WellMade Q L base (with_one own stmts term mid).made
  one-well L base mid g own stmts term q k =
      well-then Q L (Led L mid) base mid (with_one own stmts term mid).made g (well-one Q (Led L mid) own stmts term mid q k)
      (λ c m x. x)

  -- a rung or a test: to what is done where a test holds, to what follows, and to where a panic goes on
  module _ (stmts : List Stmt) (term : ℕ → ℕ → Ending → Term)
      (fine : (own : Kind) (rank there to : ℕ) (ending : Ending) →
      Q (record { kind = own; rank = rank; stmts = stmts; term = term there to ending }))
      (leads : (there to : ℕ) (ending : Ending) (m : ℕ) → Contains (onward (term there to ending)) m → (m ≡ there) ⊎ (m ≡ to))
      (winds : (there to : ℕ) (ending : Ending) (m : ℕ) → Contains (unwind_targets (term there to ending)) m → ending ≡ Calmly m)
      (cleans : (there to : ℕ) → cleans_up (term there to Abruptly) ≡ true)
      (calms : (there to : ℕ) (ending : Ending) → is_resume (term there to ending) ≡ false)
      (rest : Chains) (base mid : Made) (g : WellMade Q (Heads rest) base mid) (there other : Chains) where
    abbrev To : Bool → ℕ → Type 0
    To b m = Led (Heads rest) mid b m

    abbrev make : Kind → ℕ → ℕ → Ending → Made → Begun
    make own from to ending made = with_one own stmts (term from to ending) made

    calm-same : (to m : ℕ) → Calmly to ≡ Calmly m → to ≡ m
    calm-same to m e = cc

    no-calm : (m : ℕ) → Abruptly ≡ Calmly m → ⊥
    no-calm m e = cc

    block-kept : To (is_cleanup_kind kind) there.calm → ((t : ℕ) → there.twin ≡ Some t → To true t) →
        To (is_cleanup_kind kind) other.calm → ((t : ℕ) → other.twin ≡ Some t → To true t) →
        (is_cleanup_kind kind ≡ true → other.twin ≡ None) → (rest.twin ≡ None → other.twin ≡ None) →
        LaidWell rest base (with_twin (λ to. make Kind.Cleanup (unwrap_or there.twin to) to) other.twin
        (make kind there.calm other.calm (ending_of other.twin) mid))
    block-kept there_led twin_led other_led over_led quiet other_alone = by other.twin refl
      where
        -- the calm block
        calm-keeps : (over : Option ℕ) → other.twin ≡ over →
            Keeps To (one_of Q kind stmts (term there.calm other.calm (ending_of over)) mid)
        calm-keeps over is = record {
          onward_to = λ m has. elim (leads there.calm other.calm (ending_of over) m has) [
            | inl e ↦ subst (To (is_cleanup_kind kind)) (sym e) there_led
            | inr e ↦ subst (To (is_cleanup_kind kind)) (sym e) other_led
          ];
          unwinds_to = λ m has. winds-to over is m (winds there.calm other.calm (ending_of over) m has);
          cleans = λ c. clean over is c;
          calm = λ c. calms there.calm other.calm (ending_of over);
        }
          where
            winds-to : (over : Option ℕ) → other.twin ≡ over → (m : ℕ) → ending_of over ≡ Calmly m → To true m
            winds-to None is m e = absurd (no-calm m e)
            winds-to (Some to) is m e = over_led m (is ∙ ap Some (calm-same to m e))

            clean : (over : Option ℕ) → other.twin ≡ over → is_cleanup_kind kind ≡ true →
                cleans_up (term there.calm other.calm (ending_of over)) ≡ true
            clean None is c = cleans there.calm other.calm
            clean (Some to) is c = absurd (none-some to (sym (quiet c) ∙ is))

        by : (over : Option ℕ) → other.twin ≡ over →
            LaidWell rest base (with_twin (λ to. make Kind.Cleanup (unwrap_or there.twin to) to) over
            (make kind there.calm other.calm (ending_of over) mid))
        by None is = record {
          back = one-well (Heads rest) base mid g kind stmts (term there.calm other.calm Abruptly)
              (fine kind _ there.calm other.calm Abruptly) (calm-keeps None is);
          calm = inr (one-new Q kind stmts (term there.calm other.calm Abruptly) mid);
          twin = λ t e. absurd (none-some t e);
          alone = λ e. refl;
        }
        by (Some to) is = record {
          back = one-well (Heads rest) base middle calm_back Kind.Cleanup stmts (term from to Abruptly)
              (fine Kind.Cleanup _ from to Abruptly) twin-keeps;
          calm = led-on (Heads rest) middle end twin_back.grows (is_cleanup_kind kind) (make kind there.calm other.calm (Calmly to) mid).at
              (inr (one-new Q kind stmts (term there.calm other.calm (Calmly to)) mid));
          twin = λ t e. subst (Led (Heads rest) end true) (same_Some (make Kind.Cleanup from to Abruptly middle).at t e)
              (inr (one-new Q Kind.Cleanup stmts (term from to Abruptly) middle));
          alone = λ e. absurd (none-some to (sym (other_alone e) ∙ is));
        }
          where
            from : ℕ
            from = unwrap_or there.twin to

            middle : Made
            middle = (make kind there.calm other.calm (Calmly to) mid).made

            end : Made
            end = (make Kind.Cleanup (unwrap_or there.twin to) to Abruptly (make kind there.calm other.calm (Calmly to) mid).made).made

            calm_back : WellMade Q (Heads rest) base (make kind there.calm other.calm (Calmly to) mid).made
            calm_back = one-well (Heads rest) base mid g kind stmts (term there.calm other.calm (Calmly to))
                (fine kind _ there.calm other.calm (Calmly to)) (calm-keeps (Some to) is)

            later : (b : Bool) (m : ℕ) → To b m → Led (Heads rest) (make kind there.calm other.calm (Calmly to) mid).made b m
            later b m x = led-on (Heads rest) mid (make kind there.calm other.calm (Calmly to) mid).made (grown) b m x
              where
                grown : Grows mid (make kind there.calm other.calm (Calmly to) mid).made
                grown = (well-one Q To kind stmts (term there.calm other.calm (Calmly to)) mid
                    (fine kind _ there.calm other.calm (Calmly to)) (calm-keeps (Some to) is)).grows

            to_led : To true to
            to_led = over_led to is

            from_led : To true (unwrap_or there.twin to)
            from_led = by-twin there.twin refl
              where
                by-twin : (o : Option ℕ) → there.twin ≡ o → To true (unwrap_or o to)
                by-twin None e = to_led
                by-twin (Some t) e = twin_led t e

            twin-keeps : Keeps (Led (Heads rest) (make kind there.calm other.calm (Calmly to) mid).made)
                (one_of Q Kind.Cleanup stmts (term (unwrap_or there.twin to) to Abruptly) (make kind there.calm other.calm (Calmly to) mid).made)
            twin-keeps = record {
              onward_to = λ m has. elim (leads (unwrap_or there.twin to) to Abruptly m has) [
                | inl e ↦ later true m (subst (To true) (sym e) from_led)
                | inr e ↦ later true m (subst (To true) (sym e) to_led)
              ];
              unwinds_to = λ m has. absurd (no-calm m (winds (unwrap_or there.twin to) to Abruptly m has));
              cleans = λ c. cleans (unwrap_or there.twin to) to;
              calm = λ c. absurd (false≢true (sym c));
            }

            twin_back : WellMade Q (Led (Heads rest) (make kind there.calm other.calm (Calmly to) mid).made)
                (make kind there.calm other.calm (Calmly to) mid).made
                (make Kind.Cleanup (unwrap_or there.twin to) to Abruptly (make kind there.calm other.calm (Calmly to) mid).made).made
            twin_back = well-one Q (Led (Heads rest) (make kind there.calm other.calm (Calmly to) mid).made) Kind.Cleanup stmts
                (term (unwrap_or there.twin to) to Abruptly) (make kind there.calm other.calm (Calmly to) mid).made
                (fine Kind.Cleanup _ (unwrap_or there.twin to) to Abruptly) twin-keeps

-- ---- the forms of blocks of ladders

two-of : (a b m : ℕ) → Contains (a ∷ b ∷ []) m → (m ≡ a) ⊎ (m ≡ b)
two-of a b m has = elim (one-of a (b ∷ []) m has) [
  | inl e ↦ inl e
  | inr rest ↦ elim (one-of b [] m rest) [ inl e ↦ inr e | inr none ↦ absurd (none-of m none) ]
]

only : (a m : ℕ) → Contains (a ∷ []) m → m ≡ a
only a m has = elim (one-of a [] m has) [ inl e ↦ e | inr none ↦ absurd (none-of m none) ]

drop-winds : (place : Place) (there to : ℕ) (ending : Ending) (m : ℕ) →
    Contains (unwind_targets (Term.DropAt place to (unwind_in ending))) m → ending ≡ Calmly m
drop-winds place there to (Calmly cleanup) m has = ap Calmly (sym (only cleanup m has))
drop-winds place there to Abruptly m has = absurd (none-of m has)

module _ (Q : Block → Type 0) (kind : Kind) (rest : Chains) (quiet : is_cleanup_kind kind ≡ true → rest.twin ≡ None) where
  abbrev Own : Made → Built → Type 0
  Own made b = LaidWell Q kind rest made b

  head-calm : (made : Made) → Led (Heads Q kind rest) made (is_cleanup_kind kind) rest.calm
  head-calm made = inl (inl (refl, refl))

  head-twin : (made : Made) (t : ℕ) → rest.twin ≡ Some t → Led (Heads Q kind rest) made true t
  head-twin made t e = inl (inr (e, refl))

  drop-kept : (place : Place) → DropFine Q place → (made : Made) → Own made (rung_before kind (drop_rung place) rest made)
  drop-kept place fine made =
      block-kept Q kind [] (λ there to ending. Term.DropAt place to (unwind_in ending))
      (λ own rank there to ending. fine own rank to (unwind_in ending))
      (λ there to ending m has. inr (only to m has)) (drop-winds place) (λ there to. refl) (λ there to ending. refl)
      rest made made (well-none Q (Heads Q kind rest) made) rest rest (head-calm made) (head-twin made) (head-calm made)
      (head-twin made) quiet (λ e. e)

  free-kept : (place : Place) → FreeFine Q place → (made : Made) → Own made (rung_before kind (free_rung place) rest made)
  free-kept place fine made =
      block-kept Q kind (Stmt.Free place ∷ []) (λ there to ending. Term.Goto to) (λ own rank there to ending. fine own rank to)
      (λ there to ending m has. inr (only to m has)) (λ there to ending m has. absurd (none-of m has)) (λ there to. refl)
      (λ there to ending. refl) rest made made (well-none Q (Heads Q kind rest) made) rest rest (head-calm made)
      (head-twin made) (head-calm made) (head-twin made) quiet (λ e. e)

  -- a flag is tested before what stands there already
  flag-kept : (flag : ℕ) → FlagFine Q flag → (made : Made) (b : Built) → Own made b →
      Own made (test_before kind (flag_test flag) b.chains rest b.made)
  flag-kept flag fine made b h =
      block-kept Q kind [] (λ there to ending. Term.If (Operand.Copied (local_place flag)) there to)
      (λ own rank there to ending. fine own rank there to)
      (λ there to ending m has. elim (two-of to there m has) [ inl e ↦ inr e | inr e ↦ inl e ])
      (λ there to ending m has. absurd (none-of m has)) (λ there to. refl) (λ there to ending. refl) rest made b.made
      h.back b.chains rest h.calm h.twin (head-calm b.made) (head-twin b.made) quiet (λ e. e)

  guard-kept : (guard : Option ℕ) (place : Place) → GuardFine Q guard → FreeFine Q place → (made : Made) →
      Own made (freed_before kind guard place rest made)
  guard-kept None place tested fine made = free-kept place fine made
  guard-kept (Some flag) place tested fine made =
      flag-kept flag tested made (rung_before kind (free_rung place) rest made) (free-kept place fine made)

  -- a variant is tested before the others
  case-kept : (variant : ℕ) (place : Place) → CaseFine Q place variant → (made : Made) (other there : Built) → Own made other →
      Own other.made there → Own made (test_before kind (case_test place variant) there.chains other.chains there.made)
  case-kept variant place fine made other there g h =
      block-kept Q kind [] (λ there to ending. Term.Case place variant there to)
      (λ own rank there to ending. fine own rank there to)
      (λ there to ending m has. elim (two-of to there m has) [ inl e ↦ inr e | inr e ↦ inl e ])
      (λ there to ending m has. absurd (none-of m has)) (λ there to. refl) (λ there to ending. refl) rest made there.made
      (well-then Q (Heads Q kind rest) (Heads Q kind rest) made other.made there.made g.back h.back (λ k m x. inl x))
      there.chains other.chains h.calm h.twin
      (led-on (Heads Q kind rest) other.made there.made h.back.grows (is_cleanup_kind kind) other.chains.calm g.calm)
      (λ t e. led-on (Heads Q kind rest) other.made there.made h.back.grows true t (g.twin t e))
      (λ c. g.alone (quiet c)) g.alone

module _ (Q : Block → Type 0) (kind : Kind) where
  mutual
    pub ladder-kept : (plan : Plan) (place : Place) (rest : Chains) (made : Made) → RungsFine Q plan place →
        (is_cleanup_kind kind ≡ true → rest.twin ≡ None) → LaidWell Q kind rest made (ladder_of kind plan place rest made)
    ladder-kept Nothing place rest made fine quiet = well-laid-none Q kind rest made
    ladder-kept Entire place rest made fine quiet = drop-kept Q kind rest quiet place fine made
    ladder-kept (ByFlag flag plan) place rest made fine quiet =
        flag-kept Q kind rest quiet flag fine.0 made (ladder_of kind plan place rest made)
        (ladder-kept plan place rest made fine.1 quiet)
    ladder-kept (InParts plans) place rest made fine quiet = parts-kept plans Step.Part 0 place rest made fine quiet
    ladder-kept (OfBox guard plan) place rest made fine quiet =
        let behind = freed_before kind guard place rest made in
        let freed = guard-kept Q kind rest quiet guard place fine.0 fine.1 made in
        well-laid-then Q kind rest made behind (ladder_of kind plan (place_below place Step.Inside) behind.chains behind.made) freed
        (ladder-kept plan (place_below place Step.Inside) behind.chains behind.made fine.2 (λ c. freed.alone (quiet c)))
    ladder-kept (ByVariant cases) place rest made fine quiet = cases-kept cases place rest made fine quiet

    parts-kept : (plans : Plans) (step : ℕ → Step) (n : ℕ) (place : Place) (rest : Chains) (made : Made) →
        PartsFine Q plans step n place → (is_cleanup_kind kind ≡ true → rest.twin ≡ None) →
        LaidWell Q kind rest made (parts_of kind plans step n place rest made)
    parts-kept no_plan step n place rest made fine quiet = well-laid-none Q kind rest made
    parts-kept (a_plan plan plans) step n place rest made fine quiet =
        let behind = parts_of kind plans step (suc n) place rest made in
        let later = parts-kept plans step (suc n) place rest made fine.1 quiet in
        well-laid-then Q kind rest made behind (ladder_of kind plan (place_below place (step n)) behind.chains behind.made) later
        (ladder-kept plan (place_below place (step n)) behind.chains behind.made fine.0 (λ c. later.alone (quiet c)))

    cases-kept : (cases : Cases) (place : Place) (rest : Chains) (made : Made) → CasesFine Q cases place →
        (is_cleanup_kind kind ≡ true → rest.twin ≡ None) → LaidWell Q kind rest made (cases_of kind cases place rest made)
    cases-kept no_case place rest made fine quiet = well-laid-none Q kind rest made
    cases-kept (a_case variant plans others) place rest made fine quiet =
        let other = cases_of kind others place rest made in
        let there = parts_of kind plans (λ n. Step.Field variant n) 0 place rest other.made in
        case-kept Q kind rest quiet variant place fine.0 made other there (cases-kept others place rest made fine.2 quiet)
        (parts-kept plans (λ n. Step.Field variant n) 0 place rest other.made fine.1 quiet)
