-- From the beginning of each block the elaborated body does as the raw one up to the beginnings of the next blocks,
-- turns and the first block too, given what its drops do.
use Rattle.std.proofs.Common.{◌≡◌, ◌⊎◌, inl, inr, ℕ, zero, suc, ◌≤◌, ◌<◌, ◌==◌, nat_eq, ◌||◌, Bool, true, false, List, [], ◌∷◌, ◌++◌, length, Option, Some, None, if◌then◌else◌, slice_get, Contains, refl, ap, sym, ◌∙◌, subst, arith}
use Rattle.std.specs.List.{list_any}
use Rattle.std.proofs.lemmas.Bool.{false≢true}
use Rattle.std.proofs.lemmas.Bool.Decides.{Decides-eqb}
use Rattle.std.proofs.lemmas.Option.{none-some}
use Rattle.mir_base.specs.declared.trace.Event.{Event}
use Rattle.mir_ty.proofs.ListLemmas.{slice_get-Contains}
use Rattle.mir_ty.specs.declared.ty.Ty.{Ty}
use Rattle.mir_ty.specs.declared.ty.TyId.{TyId}
use Rattle.mir_ty.specs.ItemTable.{ItemTable, type_at}
use Rattle.cfg_graph.specs.declared.graph.Block.{Block}
use Rattle.cfg_graph.specs.declared.graph.Body.{Body}
use Rattle.cfg_graph.specs.declared.statement.Stmt.{Stmt}
use Rattle.cfg_graph.specs.declared.terminator.Term.{Term}
use Rattle.cfg_graph.specs.Edges.{IsRanked, targets}
use Rattle.cfg_graph.specs.Moves.Actions.{stmt_actions, actions_on}
use Rattle.cfg_graph.specs.Moves.BadUses.{bad_uses_on}
use Rattle.cfg_graph.specs.Moves.Gone.{PathAction}
use Rattle.cfg_graph.specs.Moves.Paths.{IsPath}
use Rattle.cfg_graph.specs.NamedPlaces.{keeps_named}
use Rattle.cfg_meaning.specs.Walk.{Next, ◌>>=◌, naming, renamed, stmts_do, block_does, term_does}
use Rattle.store_model.specs.declared.address.Addr.{Addr}
use Rattle.store_model.proofs.Concrete.Effects.{ticks_of, Thrifty}
use Rattle.store_model.specs.Concrete.Effects.{concrete_effects, whole, whole_at, or_stuck, if_so}
use Rattle.store_model.specs.Concrete.Location.{Setting, Located, OfType, root_address, in_youngest, on_reached}
use Rattle.store_model.specs.Concrete.State.{State, Activation, Bodies, at_depth, cell, spend}
use Rattle.store_model.specs.Effects as effects
use Rattle.store_model.specs.Effects.{EffectSite, Out, Go, Unwind, Halts, Effects, OutOfTicks, Stuck}
use Rattle.store_model.specs.Places.Place.{Place, whole_local}
use Rattle.store_model.specs.Values.Datum.{Datum}
use Rattle.store_model.specs.Values.Wholeness.{is_whole}
use Rattle.drop_values.specs.Like.{held, held_by, body_at, Flags, Like, SameBodies, IsStuck, raw_setting, strict_setting, Extends}
use Rattle.drop_values.proofs.Actions.{Stays}
use Rattle.drop_values.proofs.Operands.{Both, used_there}
use Rattle.drop_values.proofs.Touched.{SameCells, AllNameFull, KeepsOlder}
use Rattle.drop_elaborate.proofs.BlockEnds.{BlockOwed, entered, enters, turns, block-Rest, first-Rest}
use Rattle.drop_elaborate.proofs.Blocks.{BlocksDo}
use Rattle.drop_elaborate.proofs.BlocksOwed.{Left, block-Owed}
use Rattle.drop_elaborate.proofs.CalledBodies.{CalleesOk}
use Rattle.drop_elaborate.proofs.Dropped.{Emptied, emptied-same}
use Rattle.drop_elaborate.proofs.Entered.{Enters}
use Rattle.drop_elaborate.proofs.Held.{Held}
use Rattle.drop_elaborate.proofs.PathGrows.{OnPath, at-start}
use Rattle.drop_elaborate.proofs.ReadyBody.{BodyIsReady}
use Rattle.drop_elaborate.proofs.RefilledBlocks.{refilled-Rest}
use Rattle.drop_elaborate.proofs.Statements.{At}
use Rattle.drop_elaborate.proofs.FlagStores.{Tell}
use Rattle.drop_elaborate.proofs.StatementsHeld.{same-Held}
use Rattle.drop_elaborate.proofs.Walks.{unplaced, Walks}
use Rattle.drop_elaborate.specs.Elaborated.{flag_at, is_drop, kind_after, Ends, BlockDone}

-- ---- the result of a body

-- what the youngest activation's first local holds, where it is used
pub value-of : (setting : Setting) (w : State) (depth : ℕ) (acts : List Activation) (s : Located) →
    length acts ≡ suc depth → on_reached (in_youngest setting w (whole_local 0) acts) (whole setting) None None
    ≡ Some s → held_by 0 (at_depth depth acts) ≡ s.value
value-of setting w depth [] s d e = absurd (none-some s e)
value-of setting w depth (a ∷ older) s d e =
    ap (λ b. held_by 0 (if b then Some a else at_depth depth older)) here ∙ by (setting.local_ty a.body 0) e
  where
    here : (depth == length older) ≡ true
    here = (Decides-eqb depth (length older)).1 (let x : suc (length older) ≡ suc depth = d in omega (arith, x))

    so : (b : Bool) (t : Located) → if_so b t ≡ Some s → t.value ≡ s.value
    so true t e = ap (λ (x : Located). x.value) (let y : Some t ≡ Some s = e in let z : t ≡ s = cc in z)
    so false t e = absurd (none-some s e)

    by : (o : Option TyId) → on_reached (in_youngest (record setting { local_ty = λ b k. o }) w (whole_local 0)
        (a ∷ older)) (whole setting) None None ≡ Some s → cell 0 a.cells ≡ s.value
    by None e = absurd (none-some s e)
    by (Some id) e =
        so (is_whole (cell 0 a.cells)) (record {
          address = root_address (length older) 0;
          dynamic = OfType id;
          value = cell 0 a.cells;
        }) e

module _ (items : ItemTable) (local_ty local_ty' : (body local : ℕ) → Option TyId)
    (extends : Extends local_ty local_ty') (number depth bodies : ℕ) (outer : Flags) (body : Body)
    (flagged : List Place) (flag_ty : TyId) (flag_is : type_at items flag_ty ≡ Some Ty.Bool)
    (added : (n : ℕ) → n < length flagged → (local_ty number (flag_at items body flagged n) ≡ None)
    × (local_ty' number (flag_at items body flagged n) ≡ Some flag_ty))
    (addresses : List Addr) (before : State) (given : AllNameFull items local_ty before addresses)
    (locals_are : (k : ℕ) → local_ty number k ≡ slice_get body.locals k) (ready : BodyIsReady items bodies body)
    (bodies_are : (n : ℕ) (block : Block) → slice_get body.blocks n ≡ Some block → (m : ℕ) →
    Contains (targets block.term) m → (found : Block) × (slice_get body.blocks m ≡ Some found))
    (never_back : (n : ℕ) (block : Block) → slice_get body.blocks n ≡ Some block →
    list_any (nat_eq 0) (targets block.term) ≡ false)
    (callees : CalleesOk items local_ty bodies) (run run' : Bodies) (thrifty : Thrifty run)
    (keeps : KeepsOlder items local_ty (Enters items local_ty) run) (bound most : ℕ)
    (tie : SameBodies local_ty (Enters items local_ty) most run run')
    (stays : (flags : Flags) (event : Event) (callee : ℕ) (args : List Datum) (w : State) →
    Enters items local_ty callee args w → Stays items local_ty local_ty' extends flags depth number w (run event
    callee args w))
    (fine : (path : List ℕ) (given : List Bool) → IsPath items body path given → bad_uses_on items body path ≡ [])
    (kept : (path : List ℕ) (given : List Bool) (local : ℕ) → IsPath items body path given →
    keeps_named body (actions_on body path) local ≡ true)
    (body' : Body) (WalkE : Next State) (walks' : Walks
    (naming unplaced (concrete_effects (strict_setting items local_ty') run' bound)) ticks_of most body'
    (λ block line. 0) WalkE) (P : Out State → Out State → Type 0)
    (stuck : (halt : effects.Halt) (w : State) (o : Out State) → IsStuck halt → P (Halts halt w) o)
    (halts : (halt : effects.Halt) (w w' : State) → w'.trace ≡ w.trace → P (Halts halt w) (Halts halt w'))
    (resumes : (flags : Flags) (w w' : State) → Like local_ty flags w w' →
    ((d k : ℕ) → (d == depth) ≡ false → flags d k ≡ outer d k) → length w.activations ≡ suc depth →
    P (Unwind w) (Unwind w'))
    (gives : (flags : Flags) (w w' : State) → Like local_ty flags w w' →
    ((d k : ℕ) → (d == depth) ≡ false → flags d k ≡ outer d k) → length w.activations ≡ suc depth →
    held depth 0 w' ≡ held depth 0 w → P (Go w) (Go w')) where
  abbrev raw : Setting
  raw = raw_setting items local_ty

  abbrev strict : Setting
  strict = strict_setting items local_ty'

  abbrev p : Effects State
  p = naming unplaced (concrete_effects raw run bound)

  abbrev q : Effects State
  q = naming unplaced (concrete_effects strict run' bound)

  abbrev HeldNow : List PathAction → State → Type 0
  HeldNow actions w = Held items local_ty number depth body addresses before given locals_are actions w

  abbrev TellHere : Flags → List PathAction → Type 0
  TellHere = Tell items local_ty local_ty' extends number depth outer body flagged flag_ty flag_is added run' bound

  -- with no more ticks than so many
  pub tie-less : (t : ℕ) → t ≤ most → SameBodies local_ty (Enters items local_ty) t run run'
  tie-less t le flags event b args w w' g l few = tie flags event b args w w' g l (omega (arith, few, le))

  pub walks-less : (t : ℕ) → t ≤ most → Walks q ticks_of t body' (λ block line. 0) WalkE
  walks-less t le = record {
    plain = λ n b e k w l. walks'.plain n b e k w (omega (arith, l, le));
    turn = λ n b e k w l. walks'.turn n b e k w (omega (arith, l, le));
    nowhere = λ n e w l. walks'.nowhere n e w (omega (arith, l, le));
  }

  -- what is known where a path comes to a block
  abbrev pub EmptiedNow : ℕ → List PathAction → State → Type 0
  EmptiedNow m actions w =
      Emptied items local_ty number depth bodies body addresses before given locals_are ready m actions w

  abbrev pub AtNext : (t : ℕ) → t ≤ most → ℕ → List PathAction → State → State → Type 0
  AtNext t le m acts w w' =
      At items local_ty local_ty' extends number depth outer body flagged flag_ty flag_is added run' bound run t
      (Enters items local_ty) (tie-less t le) stays (λ acts w. HeldNow acts w ⊎ EmptiedNow m acts w) acts w w'

  abbrev pub AtMost : (t : ℕ) → t ≤ most → List PathAction → State → State → Type 0
  AtMost t le acts w w' =
      At items local_ty local_ty' extends number depth outer body flagged flag_ty flag_is added run' bound run t
      (Enters items local_ty) (tie-less t le) stays HeldNow acts w w'

  -- ---- at the beginning of a block

  -- the flags hold nothing yet
  pub record Start (w w' : State) : Type 0 where
    pub flags : Flags
    pub like : Like local_ty flags w w'
    pub others : (d k : ℕ) → (d == depth) ≡ false → flags d k ≡ outer d k
    pub deep : length w.activations ≡ suc depth
    pub number_is : body_at depth w ≡ Some number
    pub known : HeldNow [] w

  -- some path comes here
  pub record Come (n : ℕ) (w w' : State) : Type 0 where
    pub acts : List PathAction
    pub here : OnPath items body n acts
    pub flags : Flags
    pub like : Like local_ty flags w w'
    pub tell : TellHere flags acts
    pub deep : length w.activations ≡ suc depth
    pub number_is : body_at depth w ≡ Some number
    pub known : HeldNow acts w ⊎ EmptiedNow n acts w

  abbrev pub Entry : ℕ → State → State → Type 0
  Entry zero w w' = Start w w'
  Entry (suc n) w w' = Come (suc n) w w'

  -- a tick is spent
  spent-like : (t : ℕ) (flags : Flags) (w w' : State) → Like local_ty flags w w' →
      Like local_ty flags (record w { ticks = t }) (record w' { ticks = t })
  spent-like t flags w w' l = record {
    asked = l.asked;
    ticks = refl;
    serial = l.serial;
    trace = l.trace;
    count = l.count;
    bodies = l.bodies;
    covers = l.covers;
    flags_are = l.flags_are;
  }

  spent-same : (t : ℕ) (w : State) → suc t ≡ w.ticks → SameCells w (record w { ticks = t })
  spent-same t w e = record { less = omega (arith, e); count = refl; bodies = λ d. refl; cells = λ d k. refl }

  spent-held : (t : ℕ) (acts : List PathAction) (w : State) → suc t ≡ w.ticks → HeldNow acts w →
      HeldNow acts (record w { ticks = t })
  spent-held t acts w e h =
      same-Held items local_ty number depth body addresses before given locals_are acts w (record w { ticks = t })
      (spent-same t w e) h

  spent : (n t : ℕ) (w w' : State) → suc t ≡ w.ticks → Entry n w w' →
      Entry n (record w { ticks = t }) (record w' { ticks = t })
  spent zero t w w' e x = record {
    flags = x.flags;
    like = spent-like t x.flags w w' x.like;
    others = x.others;
    deep = x.deep;
    number_is = x.number_is;
    known = spent-held t [] w e x.known;
  }
  spent (suc n) t w w' e x = record {
    acts = x.acts;
    here = x.here;
    flags = x.flags;
    like = spent-like t x.flags w w' x.like;
    tell = x.tell;
    deep = x.deep;
    number_is = x.number_is;
    known = elim x.known [
      | inl h ↦ inl (spent-held t x.acts w e h)
      | inr h ↦ inr (emptied-same items local_ty number depth bodies body addresses before given locals_are ready (suc
          n)
          x.acts w (record w { ticks = t }) (spent-same t w e) h)
    ];
  }

  -- ---- what is left of a block

  abbrev pub NextOk : (t : ℕ) → t ≤ most → Block → Next State → Type 0
  NextOk t le block nextR = (m : ℕ) (done : List PathAction) → Contains (targets block.term) m →
      OnPath items body m done → (v v' : State) → AtNext t le m done v v' → P (nextR m v) (WalkE m v')

  -- nothing is to be refilled there
  pub to-next : (t : ℕ) (le : t ≤ most) (m : ℕ) (acts : List PathAction) (v v' : State) → AtMost t le acts v v' →
      AtNext t le m acts v v'
  to-next t le m acts v v' a = record {
    flags = a.flags;
    like = a.like;
    tell = a.tell;
    deep = a.deep;
    number_is = a.number_is;
    few = a.few;
    known = inl a.known;
  }

  abbrev NextDoes : Block → ℕ → Next State → Type 0
  NextDoes block ticks next = (m : ℕ) → Contains (targets block.term) m → (v v' : State) → v.ticks ≤ ticks →
      Entry m v v' → P (next m v) (WalkE m v')

  or-true : (b c : Bool) → c ≡ true → (b || c) ≡ true
  or-true true c e = refl
  or-true false c e = e

  in-any : (xs : List ℕ) (k : ℕ) → slice_get xs k ≡ Some 0 → list_any (nat_eq 0) xs ≡ true
  in-any [] k e = absurd (none-some 0 e)
  in-any (x ∷ xs) zero e =
      ap (λ b. b || list_any (nat_eq 0) xs) (ap (nat_eq 0) (let y : Some x ≡ Some 0 = e in let z : x ≡ 0 = cc in z))
  in-any (x ∷ xs) (suc k) e = or-true (nat_eq 0 x) (list_any (nat_eq 0) xs) (in-any xs k e)

  next-ok : (n : ℕ) (block : Block) → slice_get body.blocks n ≡ Some block → (t : ℕ) (le : t ≤ most)
      (next : Next State) → NextDoes block t next → NextOk t le block next
  next-ok n block at t le next does zero done c here v v' a =
      absurd (false≢true (sym (never_back n block at) ∙ in-any (targets block.term) c.0
      (slice_get-Contains (targets block.term) 0 c)))
  next-ok n block at t le next does (suc m) done c here v v' a =
      does (suc m) c v v' a.few (record {
        acts = done;
        here = here;
        flags = a.flags;
        like = a.like;
        tell = a.tell;
        deep = a.deep;
        number_is = a.number_is;
        known = a.known;
      })

  -- the result of the body is the same
  result-given : (t : ℕ) (le : t ≤ most) (acts : List PathAction) (v v' : State) → AtMost t le acts v v' →
      P (p.give (record { node = 0; place = whole_local 0 }) v)
      (q.give (record { node = 0; place = whole_local 0 }) v')
  result-given t le acts v v' a = by (whole_at raw v site) refl
    where
      site : EffectSite
      site = record { node = 0; place = whole_local 0 }

      both : Both items local_ty local_ty' extends a.flags depth number t v v'
      both = record { like = a.like; deep = a.deep; number_is = a.number_is; few = a.few }

      by : (o : Option Located) → whole_at raw v site ≡ o →
          P (renamed unplaced (or_stuck o (λ s. Go v) v))
          (renamed unplaced (or_stuck (whole_at strict v' site) (λ s. Go v') v'))
      by None e = stuck Stuck v _ tt
      by (Some s) e =
          let u = used_there items local_ty local_ty' extends a.flags depth number t v v' site s both tt e in
          subst (λ o. P (Go v) (renamed unplaced (or_stuck o (λ s. Go v') v'))) (sym u.there_too)
          (gives a.flags v v' a.like a.tell.others a.deep
          (value-of strict v' depth v'.activations s (a.like.count ∙ a.deep) u.there_too
          ∙ sym (value-of raw v depth v.activations s a.deep e)))

  -- what is owed of drops: they lead on to the next blocks
  abbrev pub DropsDo : Type 0
  DropsDo = (t : ℕ) (le : t ≤ most) (n : ℕ) (block : Block) → slice_get body.blocks n ≡ Some block →
      (acts : List PathAction) → OnPath items body n acts → (nextR : Next State) → NextOk t le block nextR →
      (ending : List Stmt) (term' : Term) (line' : ℕ) (v v' : State) →
      is_drop block.term ≡ true → Ends items body flagged body' n
      (kind_after items body flagged body' block.kind) block.term ending term' →
      AtMost t le (acts ++ stmt_actions n 0 block.stmts) v v' → P (term_does p 0 block.term nextR v)
      (stmts_do q (λ line. 0) line' ending (term_does q 0 term' WalkE) v')

  module _ (drops : DropsDo)
      (are_done : (n : ℕ) (block : Block) → slice_get body.blocks n ≡ Some block →
      BlockDone items body flagged body' n block) where
    left : (n : ℕ) (block : Block) (at : slice_get body.blocks n ≡ Some block) (t : ℕ) (le : t ≤ most)
        (acts : List PathAction) (here : OnPath items body n acts) (next : Next State) → NextOk t le block next →
        Left items local_ty local_ty' extends number depth bodies outer body flagged flag_ty flag_is added addresses
        before
        given locals_are ready bodies_are callees run run' thrifty keeps bound t (tie-less t le) stays fine kept body'
        WalkE
        (walks-less t le) P stuck halts n block at acts here next
    left n block at t le acts here next ok = record {
      next = λ m done c o v v' a. ok m done c o v v' (to-next t le m done v v' a);
      resumes = λ done v v' a. resumes a.flags v v' a.like a.tell.others a.deep;
      gives = λ v v' a. result-given t le (acts ++ stmt_actions n 0 block.stmts) v v' a;
      drops = λ ending term' line' v v' d e a. drops t le n block at acts here next ok ending term' line' v v' d e a;
    }

    rest : (n : ℕ) (block : Block) (at : slice_get body.blocks n ≡ Some block) (t : ℕ) (le : t ≤ most)
        (w w' : State) → Entry n w w' → w.ticks ≤ t → (next : Next State) → NextDoes block t next →
        P (block_does p (λ line. 0) block next w)
        (entered items local_ty local_ty' extends number depth outer body flagged flag_ty flag_is added run run' bound
        most
        (Enters items local_ty) tie stays HeldNow body' WalkE walks' P stuck halts n block (are_done n block at) w')
    rest zero block at t le w w' x few next does =
        first-Rest items local_ty local_ty' extends number depth outer body flagged flag_ty flag_is added run run'
        bound t
        (Enters items local_ty) (tie-less t le) stays HeldNow body' WalkE (walks-less t le) P stuck halts block next
        x.flags w w' (are_done 0 block at)
        (block-Owed items local_ty local_ty' extends number depth bodies outer body flagged flag_ty flag_is added
        addresses
        before given locals_are ready bodies_are callees run run' thrifty keeps bound t (tie-less t le) stays fine
        kept body'
        WalkE (walks-less t le) P stuck halts 0 block at [] (at-start items body) next
        (left 0 block at t le [] (at-start items body) next (next-ok 0 block at t le next does)))
        x.like x.deep x.number_is x.others few x.known
    rest (suc n) block at t le w w' x few next does = by x.known
      where
        owed : BlockOwed items local_ty local_ty' extends number depth outer body flagged flag_ty flag_is added run run'
            bound t (Enters items local_ty) (tie-less t le) stays HeldNow body' WalkE (walks-less t le) P stuck halts
            (suc n) block x.acts next
        owed =
            block-Owed items local_ty local_ty' extends number depth bodies outer body flagged flag_ty flag_is added
            addresses before given locals_are ready bodies_are callees run run' thrifty keeps bound t (tie-less t le)
            stays fine kept body' WalkE (walks-less t le) P stuck halts (suc n) block at x.acts x.here next
            (left (suc n) block at t le x.acts x.here next (next-ok (suc n) block at t le next does))

        by : HeldNow x.acts w ⊎ EmptiedNow (suc n) x.acts w → P (block_does p (λ line. 0) block next w)
            (entered items local_ty local_ty' extends number depth outer body flagged flag_ty flag_is added run run'
            bound
            most (Enters items local_ty) tie stays HeldNow body' WalkE walks' P stuck halts (suc n) block
            (are_done (suc n) block at) w')
        by (inl h) =
            block-Rest items local_ty local_ty' extends number depth outer body flagged flag_ty flag_is added run run'
            bound t (Enters items local_ty) (tie-less t le) stays HeldNow body' WalkE (walks-less t le) P stuck halts n
            block x.acts next w w' (are_done (suc n) block at) owed
            (record {
              flags = x.flags;
              like = x.like;
              tell = x.tell;
              deep = x.deep;
              number_is = x.number_is;
              few = few;
              known = h;
            })
        by (inr h) =
            refilled-Rest items local_ty local_ty' extends number depth bodies outer body flagged flag_ty flag_is added
            addresses before given locals_are ready bodies_are callees run run' thrifty keeps bound t (tie-less t le)
            stays fine kept body' WalkE (walks-less t le) P stuck halts n block at x.acts x.here next w w'
            (are_done (suc n) block at) owed x.flags x.like x.tell x.deep x.number_is few h

    ticks-are : (n : ℕ) (w w' : State) → Entry n w w' → w'.ticks ≡ w.ticks
    ticks-are zero w w' x = x.like.ticks
    ticks-are (suc n) w w' x = x.like.ticks

    trace-is : (n : ℕ) (w w' : State) → Entry n w w' → w'.trace ≡ w.trace
    trace-is zero w w' x = x.like.trace
    trace-is (suc n) w w' x = x.like.trace

    module _ (ranked : IsRanked body) (WalkR : Next State)
        (walks : Walks p ticks_of most body (λ block line. 0) WalkR) where
      pub blocks-Done : BlocksDo p most body (λ block line. 0) ranked WalkR WalkE walks Entry P
      blocks-Done = record {
        plain = λ n block at flat w w' x few next does.
            let t = ticks-are n w w' x in
            subst (P (block_does p (λ line. 0) block next w))
            (sym (enters items local_ty local_ty' extends number depth outer body flagged flag_ty flag_is added run run'
            bound most (Enters items local_ty) tie stays HeldNow body' WalkE walks' P stuck halts n block
            (are_done n block at) w' flat (omega (arith, t, few))))
            (rest n block at w.ticks few w w' x (omega arith) next does);
        turn = λ n block at is w w' x few next does.
            let t = ticks-are n w w' x in
            subst (P (◌>>=◌ (p.tick w) (block_does p (λ line. 0) block next)))
            (sym (turns items local_ty local_ty' extends number depth outer body flagged flag_ty flag_is added run run'
            bound most (Enters items local_ty) tie stays HeldNow body' WalkE walks' P stuck halts n block
            (are_done n block at) w' is (omega (arith, t, few))))
            (subst (λ s. P (◌>>=◌ (p.tick w) (block_does p (λ line. 0) block next))
            (◌>>=◌ (renamed unplaced (spend s w')) (on n block at))) (sym t)
            (by n block at w w' x few next does w.ticks refl));
        nowhere = λ n none w w' x. stuck Stuck w _ tt;
      }
        where
          on : (n : ℕ) (block : Block) → slice_get body.blocks n ≡ Some block → State → Out State
          on n block at =
              entered items local_ty local_ty' extends number depth outer body flagged flag_ty flag_is added run run'
              bound
              most (Enters items local_ty) tie stays HeldNow body' WalkE walks' P stuck halts n block (are_done n
              block at)

          by : (n : ℕ) (block : Block) (at : slice_get body.blocks n ≡ Some block) (w w' : State) → Entry n w w' →
              w.ticks ≤ most → (next : Next State) → ((t : ℕ) → suc t ≡ w.ticks → NextDoes block t next) →
              (s : ℕ) → w.ticks ≡ s → P (◌>>=◌ (renamed unplaced (spend s w)) (block_does p (λ line. 0) block next))
              (◌>>=◌ (renamed unplaced (spend s w')) (on n block at))
          by n block at w w' x few next does zero e = halts OutOfTicks w w' (trace-is n w w' x)
          by n block at w w' x few next does (suc s) e =
              rest n block at s (omega (arith, e, few)) (record w { ticks = s }) (record w' { ticks = s })
              (spent n s w w' (sym e) x) (omega arith) next (does s (sym e))
