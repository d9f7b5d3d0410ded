-- What each drop does is done by what stands for it in the elaborated block: nothing for a dead one, the same drop
-- for one that is plain, and otherwise the ladder of its plan.
use Rattle.std.proofs.Common.{◌≡◌, ◌⊎◌, inl, inr, ℕ, suc, ◌≤◌, ◌<◌, ◌==◌, nat_eq, Bool, true, false, List, [], ◌∷◌, ◌++◌, length, Option, Some, None, slice_get, Contains, refl, ap, sym, ◌∙◌, subst, arith}
use Rattle.std.specs.List.{list_any}
use Rattle.std.proofs.lemmas.Bool.{false≢true}
use Rattle.mir_base.specs.declared.trace.Event.{Event}
use Rattle.mir_ty.proofs.ListLemmas.{Contains-slice_get}
use Rattle.mir_ty.specs.declared.ty.Ty.{Ty}
use Rattle.mir_ty.specs.declared.ty.TyId.{TyId}
use Rattle.mir_ty.specs.ItemTable.{ItemTable, type_at}
use Rattle.cfg_graph.specs.declared.graph.Block.{Block}
use Rattle.cfg_graph.specs.declared.graph.Body.{Body}
use Rattle.cfg_graph.specs.declared.graph.Kind.{Kind}
use Rattle.cfg_graph.specs.declared.place.Place as graph
use Rattle.cfg_graph.specs.declared.statement.Stmt.{Stmt}
use Rattle.cfg_graph.specs.declared.terminator.Term.{Term}
use Rattle.cfg_graph.specs.declared.terminator.Unwind.{Unwind}
use Rattle.cfg_graph.specs.Edges.{is_turn_kind, targets}
use Rattle.cfg_graph.specs.Moves.Actions.{at_line, stmt_actions, block_actions, actions_on}
use Rattle.cfg_graph.specs.Moves.BadUses.{bad_uses_on}
use Rattle.cfg_graph.specs.Moves.Gone.{PathAction}
use Rattle.cfg_graph.specs.Moves.Paths.{IsPath, needs_dropping}
use Rattle.cfg_graph.specs.NamedPlaces.{keeps_named}
use Rattle.cfg_graph.specs.Places.{named, place_id}
use Rattle.cfg_graph.specs.Uses.{Drops, term_uses}
use Rattle.cfg_meaning.specs.Actions.{site_of, mode_of}
use Rattle.cfg_meaning.specs.Walk.{Next, renamed, naming, unwinding, stmts_do, acts as on_ways, term_does}
use Rattle.move_paths.specs.Forest.{is_path}
use Rattle.store_model.proofs.Concrete.Effects.{ticks_of, Thrifty, Spending}
use Rattle.store_model.specs.declared.address.Addr.{Addr}
use Rattle.store_model.specs.Concrete.Drops.{Begins, drop_at}
use Rattle.store_model.specs.Concrete.Effects.{drop, dropped_if, concrete_effects}
use Rattle.store_model.specs.Concrete.Location.{Setting, Located, Reached, Reaches, CutOff, Nowhere, reach, on_reached}
use Rattle.store_model.specs.Concrete.State.{State, Bodies}
use Rattle.store_model.specs.Effects as effects
use Rattle.store_model.specs.Effects.{Aborted, Stuck, Out, Go, Halts, EffectSite, Effects, Mode}
use Rattle.store_model.specs.Places.Place.{Place}
use Rattle.store_model.specs.Values.Datum.{Datum, Gone}
use Rattle.drop_values.specs.Facts.{Tree, at_path}
use Rattle.drop_values.specs.Like.{held, Flags, Like, Same, SameBodies, IsStuck, MayEnter, raw_setting, strict_setting, Extends}
use Rattle.drop_values.specs.Plan.{Plan}
use Rattle.drop_values.proofs.Actions.{Stays}
use Rattle.drop_values.proofs.Frame.{Frames, Each, drop_at-After}
use Rattle.drop_values.proofs.Knows.{PlainSteps}
use Rattle.drop_values.proofs.Stand.{Changed}
use Rattle.drop_values.proofs.Touched.{AllNameFull, KeepsOlder}
use Rattle.drop_elaborate.proofs.AtDrop as drop_at_path
use Rattle.drop_elaborate.proofs.BlocksDone.{tie-less, walks-less, AtNext, AtMost, NextOk, DropsDo}
use Rattle.drop_elaborate.proofs.CalledBodies.{CalleesOk}
use Rattle.drop_elaborate.proofs.DropEnds.{Leaves, Led, Unseen, ladder-Ends, dead-Ends, plain-Ends}
use Rattle.drop_elaborate.proofs.Dropped.{DropPlace, not-cut, Found, Emptied}
use Rattle.drop_elaborate.proofs.Entered.{Enters}
use Rattle.drop_elaborate.proofs.Held.{Held}
use Rattle.drop_elaborate.proofs.Ladder.{Ends as LadderEnds}
use Rattle.drop_elaborate.proofs.LadderDrops.{planned-ladder}
use Rattle.drop_elaborate.proofs.OwnDrops.{Silent, plain-same, dead-unseen}
use Rattle.drop_elaborate.proofs.PathGrows.{OnPath}
use Rattle.drop_elaborate.proofs.ReadyBody.{BodyIsReady}
use Rattle.drop_elaborate.proofs.Statements.{At}
use Rattle.drop_elaborate.proofs.Walks.{unplaced, Walks}
use Rattle.drop_elaborate.proofs.Ways.{After}
use Rattle.drop_elaborate.specs.Elaborated.{flag_at, flags_of_uses, cleared, is_drop, kind_after, LadderTo, Ends, result, dead, plain, ladder, IsPlanned}
use Rattle.drop_elaborate.specs.Kinds.{Comes, IsDead, IsSure, IsTree}
use Rattle.drop_elaborate.specs.Ladder.{LadderAt, Ending, Calmly, Abruptly, mode_in}

nil : {A : Type 0} (l : List A) → l ++ [] ≡ l
nil [] = refl
nil (x ∷ l) = ap (λ l. x ∷ l) (nil l)

module _ (items : ItemTable) (local_ty local_ty' : (body local : ℕ) → Option TyId)
    (extends : Extends local_ty local_ty') (number depth bodies : ℕ) (outer : Flags) (body : Body)
    (flagged : List Place) (flag_ty : TyId) (flag_is : type_at items flag_ty ≡ Some Ty.Bool)
    (added : (n : ℕ) → n < length flagged → (local_ty number (flag_at items body flagged n) ≡ None)
    × (local_ty' number (flag_at items body flagged n) ≡ Some flag_ty))
    (addresses : List Addr) (before : State) (given : AllNameFull items local_ty before addresses)
    (locals_are : (k : ℕ) → local_ty number k ≡ slice_get body.locals k) (ready : BodyIsReady items bodies body)
    (bodies_are : (n : ℕ) (block : Block) → slice_get body.blocks n ≡ Some block → (m : ℕ) →
    Contains (targets block.term) m → (found : Block) × (slice_get body.blocks m ≡ Some found))
    (never_back : (n : ℕ) (block : Block) → slice_get body.blocks n ≡ Some block →
    list_any (nat_eq 0) (targets block.term) ≡ false)
    (callees : CalleesOk items local_ty bodies) (run run' : Bodies) (thrifty : Thrifty run)
    (keeps : KeepsOlder items local_ty (Enters items local_ty) run) (bound most : ℕ)
    (tie : SameBodies local_ty (Enters items local_ty) most run run')
    (stays : (flags : Flags) (event : Event) (callee : ℕ) (args : List Datum) (w : State) →
    Enters items local_ty callee args w → Stays items local_ty local_ty' extends flags depth number w (run event
    callee args w))
    (fine : (path : List ℕ) (given : List Bool) → IsPath items body path given → bad_uses_on items body path ≡ [])
    (kept : (path : List ℕ) (given : List Bool) (local : ℕ) → IsPath items body path given →
    keeps_named body (actions_on body path) local ≡ true)
    (body' : Body) (WalkE : Next State) (walks' : Walks
    (naming unplaced (concrete_effects (strict_setting items local_ty') run' bound)) ticks_of most body'
    (λ block line. 0) WalkE) (P : Out State → Out State → Type 0)
    (stuck : (halt : effects.Halt) (w : State) (o : Out State) → IsStuck halt → P (Halts halt w) o)
    (halts : (halt : effects.Halt) (w w' : State) → w'.trace ≡ w.trace → P (Halts halt w) (Halts halt w'))
    (resumes : (flags : Flags) (w w' : State) → Like local_ty flags w w' →
    ((d k : ℕ) → (d == depth) ≡ false → flags d k ≡ outer d k) → length w.activations ≡ suc depth →
    P (effects.Unwind w) (effects.Unwind w'))
    (gives : (flags : Flags) (w w' : State) → Like local_ty flags w w' →
    ((d k : ℕ) → (d == depth) ≡ false → flags d k ≡ outer d k) → length w.activations ≡ suc depth →
    held depth 0 w' ≡ held depth 0 w → P (Go w) (Go w'))
    (frames : Frames (raw_setting items local_ty) run) (spending : Spending run)
    (may_enter : MayEnter items local_ty (Enters items local_ty)) (great : most < bound) where
  abbrev raw : Setting
  raw = raw_setting items local_ty

  abbrev strict : Setting
  strict = strict_setting items local_ty'

  abbrev p : Effects State
  p = naming unplaced (concrete_effects raw run bound)

  abbrev q : Effects State
  q = naming unplaced (concrete_effects strict run' bound)

  abbrev HeldNow : List PathAction → State → Type 0
  HeldNow actions w = Held items local_ty number depth body addresses before given locals_are actions w

  abbrev EmptiedHere : ℕ → List PathAction → State → Type 0
  EmptiedHere m actions w =
      Emptied items local_ty number depth bodies body addresses before given locals_are ready m actions w

  abbrev tied : (t : ℕ) → t ≤ most → SameBodies local_ty (Enters items local_ty) t run run'
  tied t le =
      tie-less items local_ty local_ty' extends number depth bodies outer body flagged flag_ty flag_is added addresses
      before given locals_are ready bodies_are never_back callees run run' thrifty keeps bound most tie stays fine
      kept body' WalkE walks' P stuck halts resumes gives t le

  abbrev walked : (t : ℕ) → t ≤ most → Walks q ticks_of t body' (λ block line. 0) WalkE
  walked t le =
      walks-less items local_ty local_ty' extends number depth bodies outer body flagged flag_ty flag_is added
      addresses before given locals_are ready bodies_are never_back callees run run' thrifty keeps bound most tie
      stays fine kept body' WalkE walks' P stuck halts resumes gives t le

  module _ (t : ℕ) (le : t ≤ most) (n : ℕ) (block : Block) (at : slice_get body.blocks n ≡ Some block)
      (acts : List PathAction) (here : OnPath items body n acts) (nextR : Next State)
      (ok : NextOk items local_ty local_ty' extends number depth bodies outer body flagged flag_ty flag_is added
      addresses before given locals_are ready bodies_are never_back callees run run' thrifty keeps bound most tie
      stays fine kept body' WalkE walks' P stuck halts resumes gives t le block nextR) (v v' : State)
      (a : AtMost items local_ty local_ty' extends number depth bodies outer body flagged flag_ty flag_is added
      addresses before given locals_are ready bodies_are never_back callees run run' thrifty keeps bound most tie
      stays fine kept body'
      WalkE walks' P stuck halts resumes gives t le (acts ++ stmt_actions n 0 block.stmts) v v') where
    abbrev line : ℕ
    line = length block.stmts

    abbrev stmts_done : List PathAction
    stmts_done = acts ++ stmt_actions n 0 block.stmts

    abbrev used_by : Term → List PathAction
    used_by term = at_line n line (term_uses term)

    abbrev kind : Kind
    kind = kind_after items body flagged body' block.kind

    h : HeldNow stmts_done v
    h = a.known

    flat : is_turn_kind kind ≡ false
    flat = by block.kind
      where
        by : (k : Kind) → is_turn_kind (kind_after items body flagged body' k) ≡ false
        by Kind.Plain = refl
        by Kind.Turn = refl
        by Kind.Cleanup = refl

    module _ (place : graph.Place) (next : ℕ) (unwind : Unwind) (e : block.term ≡ Term.DropAt place next unwind) where
      abbrev site : EffectSite
      site = site_of 0 place

      abbrev mode : Mode
      mode = mode_of unwind

      abbrev D : Place
      D = named place

      abbrev dropped_now : List PathAction
      dropped_now = drop_at_path.dropped_now items local_ty number depth bodies body addresses before given locals_are
          ready bodies_are fine kept n block at acts here place next unwind e

      abbrev there : DropPlace items local_ty number depth bodies body addresses before given locals_are ready
          stmts_done place
      there = drop_at_path.there items local_ty number depth bodies body addresses before given locals_are ready
          bodies_are fine kept n block at acts here place next unwind e

      abbrev comes : Comes items body n stmts_done
      comes = drop_at_path.comes items local_ty number depth bodies body addresses before given locals_are ready
          bodies_are fine kept n block at acts here place next unwind e

      abbrev Behind : List PathAction → State → Type 0
      Behind actions w = drop_at_path.Behind items local_ty number depth bodies body addresses before given locals_are
          ready bodies_are fine kept n block at acts here place next unwind e actions w

      abbrev AtBehind : List PathAction → State → State → Type 0
      AtBehind actions w w' =
          At items local_ty local_ty' extends number depth outer body flagged flag_ty flag_is added run' bound run t
          (Enters items local_ty) (tied t le) stays Behind actions w w'

      a-behind : AtBehind stmts_done v v'
      a-behind = record {
        flags = a.flags;
        like = a.like;
        tell = a.tell;
        deep = a.deep;
        number_is = a.number_is;
        few = a.few;
        known = inl a.known;
      }

      goes : (x x' : State) → AtBehind dropped_now x x' → P (nextR next x) (WalkE next x')
      goes x x' k =
          ok next (After items body n block acts) (drop_at_path.onward-there items local_ty number depth bodies body
          addresses before given locals_are ready bodies_are fine kept n block at acts here place next unwind e)
          (drop_at_path.onward-path items local_ty number depth bodies body addresses before given locals_are ready
          bodies_are fine kept n block at acts here place next unwind e) x x'
          (subst (λ l. AtNext items local_ty local_ty' extends number depth bodies outer body flagged flag_ty flag_is
          added addresses before given locals_are ready bodies_are never_back callees run run' thrifty keeps bound
          most tie stays fine kept body' WalkE walks' P stuck halts resumes gives t le next l x x') (sym
          (drop_at_path.on-way items local_ty number depth bodies body addresses before given locals_are
          ready bodies_are fine kept n block at acts here place next unwind e)) (record {
            flags = k.flags;
            like = k.like;
            tell = k.tell;
            deep = k.deep;
            number_is = k.number_is;
            few = k.few;
            known = drop_at_path.behind-next items local_ty number depth bodies body addresses before given locals_are
                ready bodies_are fine kept n block at acts here place next unwind e dropped_now x k.known;
          }))

      panics : needs_dropping items (place_id items body.locals place) ≡ true → (u : Unwind) → unwind ≡ u →
          (x x' : State) → AtBehind dropped_now x x' → P (unwinding u nextR x) (unwinding u WalkE x')
      panics needs Unwind.Resume ue x x' k = resumes k.flags x x' k.like k.tell.others k.deep
      panics needs Unwind.Abort ue x x' k = halts Aborted x x' k.like.trace
      panics needs (Unwind.Block m) ue x x' k =
          ok m (acts ++ block_actions n block) (drop_at_path.unwind-there items local_ty number depth bodies body
          addresses before given locals_are ready bodies_are fine kept n block at acts here place next unwind e m
          ue)
          (drop_at_path.unwind-path items local_ty number depth bodies body addresses before given locals_are ready
          bodies_are fine kept n block at acts here place next unwind e m ue needs) x x'
          (subst (λ l. AtNext items local_ty local_ty' extends number depth bodies outer body flagged flag_ty flag_is
          added addresses before given locals_are ready bodies_are never_back callees run run' thrifty keeps bound
          most tie stays fine kept body' WalkE walks' P stuck halts resumes gives t le m l x x') (sym
          (drop_at_path.on-path items local_ty number depth bodies body addresses before given locals_are
          ready bodies_are fine kept n block at acts here place next unwind e)) (record {
            flags = k.flags;
            like = k.like;
            tell = k.tell;
            deep = k.deep;
            number_is = k.number_is;
            few = k.few;
            known = drop_at_path.behind-panic items local_ty number depth bodies body addresses before given
                locals_are ready bodies_are fine kept n block at acts here place next unwind e m ue dropped_now x
                k.known;
          }))

      -- ---- where it is reached

      module _ (s : Located) (er : reach raw v D ≡ Reaches s) where
        abbrev at_it : Found items local_ty number depth bodies body addresses before given locals_are ready
            stmts_done v place there h s
        at_it = drop_at_path.at_it items local_ty number depth bodies body addresses before given locals_are ready
            bodies_are fine kept n block at acts here place next unwind e v h s er

        abbrev raw_drop : Out State
        raw_drop = drop_at raw run bound Begins s mode v

        raw-is : drop raw run bound mode site v ≡ raw_drop
        raw-is = ap (λ r. on_reached r (λ s. dropped_if raw run bound true mode s v) (Go v) (Halts Stuck v)) er

        after : Each (Changed s.address Gone v) raw_drop
        after = drop_at-After raw run frames bound Begins s s.value mode v at_it.stands at_it.sound

        abbrev LeavesHere : State → Type 0
        LeavesHere x =
            Leaves items local_ty local_ty' extends number depth outer body flagged flag_ty flag_is added run run'
            bound t (Enters items local_ty) (tied t le) stays Behind body' WalkE (walked t le)
            (at_line n line ((Drops, place) ∷ [])) stmts_done x

        leaves-changed : (x : State) → Changed s.address Gone v x → LeavesHere x
        leaves-changed x c = record {
          known = drop_at_path.dropped-Behind items local_ty number depth bodies body addresses before given
              locals_are ready bodies_are fine kept n block at acts here place next unwind e v h s er x c;
          deep = c.count ∙ a.deep;
          number_is = c.bodies depth ∙ a.number_is;
          few = (let l = c.less in let k = a.few in let z : x.ticks ≤ t = omega (arith, l, k) in z);
        }

        leaves : (o : Out State) → raw_drop ≡ o → (x : State) → (o ≡ Go x) ⊎ (o ≡ effects.Unwind x) → LeavesHere x
        leaves o eo x (inl g) = leaves-changed x (subst (Each (Changed s.address Gone v)) (eo ∙ g) after)
        leaves o eo x (inr g) = leaves-changed x (subst (Each (Changed s.address Gone v)) (eo ∙ g) after)

        -- ---- a drop that is dead

        dead-there : IsDead items body n D → (line' : ℕ) →
            P (on_ways (renamed unplaced raw_drop) nextR next unwind)
            (stmts_do q (λ line. 0) line' (cleared items body flagged body' place) (λ x. WalkE next x) v')
        dead-there is_dead line' =
            let quiet = drop_at_path.quiet-here items local_ty number depth bodies body addresses before given
            locals_are ready bodies_are fine kept n block at acts here place next unwind e v h s er is_dead in
            subst (λ l. P (on_ways (renamed unplaced raw_drop) nextR next unwind)
            (stmts_do q (λ line. 0) line' l (λ x. WalkE next x) v'))
            (nil (flags_of_uses items body flagged ((Drops, place) ∷ [])))
            (dead-Ends items local_ty local_ty' extends number depth outer body flagged flag_ty flag_is added run run'
            bound t (Enters items local_ty) (tied t le) stays Behind body' WalkE (walked t le) P stuck halts
            (λ flags acts w w' l tell deep. resumes flags w w' l tell.others deep) n line place next unwind nextR line'
            stmts_done v v' raw_drop a-behind
            (λ flags x' l. silent-so flags x' raw_drop (dead-unseen items local_ty local_ty' extends run run' frames t
            (Enters items local_ty) may_enter (tied t le) flags number depth bound (omega (arith, le, great)) mode s v
            x' at_it.stands quiet.0 quiet.1 at_it.sound a.few l))
            (leaves raw_drop refl) goes)
          where
            silent-so : (flags : Flags) (x' : State) (o : Out State) →
                Silent items local_ty local_ty' extends run run' frames t (Enters items local_ty) may_enter (tied t
                le) flags
                number depth bound (omega (arith, le, great)) o x' →
                Unseen items local_ty local_ty' extends number depth outer body flagged flag_ty flag_is added run run'
                bound t (Enters items local_ty) (tied t le) stays Behind body' WalkE (walked t le) P stuck halts
                (λ flags acts w w' l tell deep. resumes flags w w' l tell.others deep) flags o x'
            silent-so flags x' (Go x) l = l
            silent-so flags x' (effects.Unwind x) l = l
            silent-so flags x' (Halts halt x) l = l

        -- ---- a drop that is plain

        plain-there : (IsDead items body n D → ⊥) → IsSure items body n D → (line' : ℕ) →
            P (on_ways (renamed unplaced raw_drop) nextR next unwind)
            (stmts_do q (λ line. 0) line' (cleared items body flagged body' place)
            (λ x. on_ways (renamed unplaced (drop strict run' bound mode site x)) WalkE next unwind) v')
        plain-there not_dead sure line' =
            subst (λ l. P (on_ways (renamed unplaced raw_drop) nextR next unwind)
            (stmts_do q (λ line. 0) line' l
            (λ x. on_ways (renamed unplaced (drop strict run' bound mode site x)) WalkE next unwind) v'))
            (nil (flags_of_uses items body flagged ((Drops, place) ∷ [])))
            (plain-Ends items local_ty local_ty' extends number depth outer body flagged flag_ty flag_is added run
            run' bound t (Enters items local_ty) (tied t le) stays Behind body' WalkE (walked t le) P stuck halts
            (λ flags acts w w' l tell deep. resumes flags w w' l tell.others deep) n line place next unwind nextR line'
            stmts_done v v' raw_drop (λ x. drop strict run' bound mode site x) a-behind
            (λ flags x' l. subst (λ o. Same local_ty (Like local_ty flags) o (drop strict run' bound mode site x'))
            raw-is
            (plain-same items local_ty local_ty' extends run run' frames t (Enters items local_ty) may_enter (tied t le)
            flags number depth bound (omega (arith, le, great)) mode site s v x' l a.deep a.number_is a.few
            there.index er
            (drop_at_path.full-here items local_ty number depth bodies body addresses before given locals_are ready
            bodies_are fine kept n block at acts here place next unwind e v h s er sure)))
            (leaves raw_drop refl) goes (panics (drop_at_path.needed items local_ty number depth bodies body addresses
            before given locals_are ready bodies_are fine kept n block at acts here place next unwind e not_dead)
            unwind refl))

        -- ---- and any other

        ladder-there : (plan : Plan) (from : ℕ) → IsPlanned items body flagged n D plan →
            LadderTo items body flagged body' plan kind place from next unwind →
            (start : TyId) → local_ty number D.local ≡ Some start → PlainSteps items D.steps start there.id →
            P (on_ways (renamed unplaced raw_drop) nextR next unwind) (WalkE from v')
        ladder-there plan from planned code start typed flatly =
            ladder-Ends items local_ty local_ty' extends number depth outer body flagged flag_ty flag_is added run
            run' bound t (Enters items local_ty) (tied t le) stays Behind body' WalkE (walked t le) P stuck halts
            (λ flags acts w w' l tell deep. resumes flags w w' l tell.others deep) n line plan kind place from next
            unwind nextR stmts_done a.flags v' raw_drop flat code led a.tell (leaves raw_drop refl) goes
            (panics (drop_at_path.needed items local_ty number depth bodies body addresses before given locals_are
            ready bodies_are fine kept n block at acts here place next unwind e planned.not_dead) unwind refl)
          where
            EndsLadder : (to : ℕ) → Ending → Out State → Type 0
            EndsLadder to ending o =
                LadderEnds items local_ty local_ty' extends run run' frames spending t (Enters items local_ty) may_enter
                (tied t le) bound (omega (arith, le, great)) body' (λ block line. 0) WalkE (walked t le) a.flags
                number depth (Changed s.address Gone v) to ending o (WalkE from v')

            led-so : (to : ℕ) (ending : Ending) (o : Out State) → EndsLadder to ending o →
                Led items local_ty local_ty' extends number depth outer body flagged flag_ty flag_is added run run'
                bound t
                (Enters items local_ty) (tied t le) stays Behind body' WalkE (walked t le) a.flags to ending o (WalkE
                from v')
            led-so to ending (Go x) k = (k.0, k.2, k.3)
            led-so to (Calmly cleanup) (effects.Unwind x) k = (k.0, k.2, k.3)
            led-so to Abruptly (effects.Unwind x) k = k
            led-so to ending (Halts halt x) k = k

            led : (to : ℕ) (ending : Ending) → LadderAt body' plan place from to ending → mode_in ending ≡ mode →
                Led items local_ty local_ty' extends number depth outer body flagged flag_ty flag_is added run run'
                bound t
                (Enters items local_ty) (tied t le) stays Behind body' WalkE (walked t le) a.flags to ending raw_drop
                (WalkE from v')
            led to ending ladder_at same =
                led-so to ending raw_drop (subst (λ m. EndsLadder to ending (drop_at raw run bound Begins s m v)) same
                (planned-ladder items local_ty local_ty' extends run run' frames spending t may_enter (tied t le) bound
                (omega (arith, le, great)) body' WalkE (walked t le) number depth bodies body addresses before given
                locals_are ready fine flagged flag_ty added n stmts_done comes place (drop_at_path.is-drop items
                local_ty
                number depth bodies body addresses before given locals_are ready bodies_are fine kept n block at acts
                here place next unwind e) there a.flags (λ k x e. a.tell.own k x e) v v' h s er at_it a.like a.few plan
                planned start typed flatly from to ending ladder_at))

      -- ---- whatever it leads to

      anyhow : (out : Out State) → ((s : Located) → reach raw v D ≡ Reaches s →
          P (on_ways (renamed unplaced (drop_at raw run bound Begins s mode v)) nextR next unwind) out) →
          P (on_ways (renamed unplaced (drop raw run bound mode site v)) nextR next unwind) out
      anyhow out does = by (reach raw v D) refl
        where
          by : (r : Reached) → reach raw v D ≡ r →
              P (on_ways (renamed unplaced (drop raw run bound mode site v)) nextR next unwind) out
          by (Reaches s) er =
              subst (λ o. P (on_ways (renamed unplaced o) nextR next unwind) out) (sym (raw-is s er)) (does s er)
          by CutOff er =
              absurd (not-cut items local_ty number depth bodies body addresses before given locals_are ready
              stmts_done v place there h er)
          by Nowhere er =
              subst (λ r. P (on_ways (renamed unplaced (on_reached r (λ s. dropped_if raw run bound true mode s v) (Go
              v)
              (Halts Stuck v))) nextR next unwind) out) (sym er) (stuck Stuck v out tt)

      -- the place of a ladder is a part of a local
      ladder-so : (plan : Plan) (from : ℕ) → IsPlanned items body flagged n D plan →
          LadderTo items body flagged body' plan kind place from next unwind →
          P (on_ways (renamed unplaced (drop raw run bound mode site v)) nextR next unwind) (WalkE from v')
      ladder-so plan from planned code =
          let part = drop_at_path.path-part items local_ty number depth bodies body addresses before given locals_are
          ready bodies_are fine kept n block at acts here place next unwind e (tree-path planned.tree
          planned.is_tree) in
          anyhow (WalkE from v') (λ s er. ladder-there s er plan from planned code part.start part.local_is part.flatly)
        where
          tree-path : (tree : Tree) → IsTree items body planned.forest.paths D tree → is_path items body D ≡ true
          tree-path (at_path k under) r =
              (planned.is_forest.each D).0 (Contains-slice_get planned.forest.paths k D r.0)

    -- each drop, by what stands for it
    ends-so : {term : Term} {ending : List Stmt} {term' : Term} → block.term ≡ term → is_drop block.term ≡ true →
        Ends items body flagged body' n kind term ending term' → (line' : ℕ) → P (term_does p 0 term nextR v)
        (stmts_do q (λ line. 0) line' ending (term_does q 0 term' WalkE) v')
    ends-so e d (result term from is_none edge) line' = absurd (false≢true (sym is_none ∙ ap is_drop (sym e) ∙ d))
    ends-so e d (dead place next unwind is_dead) line' =
        anyhow place next unwind e
        (stmts_do q (λ line. 0) line' (cleared items body flagged body' place) (λ x. WalkE next x) v')
        (λ s er. dead-there place next unwind e s er is_dead line')
    ends-so e d (plain place next unwind not_dead sure) line' =
        anyhow place next unwind e
        (stmts_do q (λ line. 0) line' (cleared items body flagged body' place)
        (λ x. on_ways (renamed unplaced (drop strict run' bound (mode_of unwind) (site_of 0 place) x)) WalkE next
        unwind) v')
        (λ s er. plain-there place next unwind e s er not_dead sure line')
    ends-so e d (ladder plan place next from unwind planned code) line' =
        ladder-so place next unwind e plan from planned code

  pub drops-Done : DropsDo items local_ty local_ty' extends number depth bodies outer body flagged flag_ty flag_is
      added addresses before given locals_are ready bodies_are never_back callees run run' thrifty keeps bound most
      tie stays fine kept body' WalkE walks' P stuck halts resumes gives
  drops-Done t le n block at acts here nextR ok ending term' line' v v' d ends a =
      ends-so t le n block at acts here nextR ok v v' a refl d ends line'
