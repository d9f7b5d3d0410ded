-- What is owed of each body of an elaborated graph, so that its run is that of the raw one, from what is known of a raw
-- run as a body begins, from the contract of the bodies that it calls, and from what its drops do.
use Rattle.std.proofs.Common.{◌≡◌, ℕ, zero, suc, ◌<◌, ◌+◌, ◌==◌, ℤ, nat_eq, not, Bool, true, false, List, [], ◌∷◌, ◌++◌, length, replicate, Option, Some, None, if◌then◌else◌, inl, inr, slice_get, Contains, refl, ap, sym, ◌∙◌, arith}
use Rattle.std.specs.List.{list_any}
use Rattle.std.specs.Option.{option_and_then}
use Rattle.std.proofs.lemmas.Bool.{false≢true}
use Rattle.std.proofs.lemmas.Bool.Decides.{Decides-eqb}
use Rattle.std.proofs.lemmas.Option.{none-some}
use Rattle.mir_base.specs.declared.trace.End.{End}
use Rattle.mir_base.specs.declared.trace.Event.{Event}
use Rattle.mir_ty.specs.AreItems.{AreItems}
use Rattle.mir_ty.specs.declared.ty.TyId.{TyId}
use Rattle.cfg_graph.specs.declared.graph.Block.{Block}
use Rattle.cfg_graph.specs.declared.graph.Body.{Body}
use Rattle.cfg_graph.specs.declared.graph.Graph.{Graph}
use Rattle.cfg_graph.specs.Edges.{IsRanked, targets}
use Rattle.cfg_graph.proofs.Ranked.{well_formed-ranked}
use Rattle.cfg_graph.specs.Ready.{IsReadyGraph, IsPreparedBody}
use Rattle.cfg_meaning.proofs.Runs.{graph_keeps}
use Rattle.cfg_meaning.specs.Programs.{setting_of, code_of, graph_run, raw_graph_run}
use Rattle.cfg_meaning.specs.Walk.{Next, naming}
use Rattle.store_model.specs.declared.address.Addr.{Addr}
use Rattle.store_model.proofs.Concrete.Effects.{ticks_of, Thrifty, body_thrifty}
use Rattle.store_model.specs.Concrete.Bodies.{run_body, main_of}
use Rattle.store_model.specs.Concrete.Effects.{concrete_effects}
use Rattle.store_model.specs.Concrete.State.{State, Answer, Returns, Unwinds, HaltsIn, Bodies, cell, beginning, with_activation, with_event}
use Rattle.store_model.specs.Effects as effects
use Rattle.store_model.specs.Effects.{Out, Go, Unwind, Halts}
use Rattle.store_model.specs.Values.Datum.{Datum}
use Rattle.drop_values.specs.Like.{held, Flags, Like, SameBodies, IsStuck, Extends}
use Rattle.drop_values.proofs.Actions.{Stays}
use Rattle.drop_values.proofs.Bodies.{with_flags}
use Rattle.drop_values.proofs.Touched.{TouchedBy, touched-counts, AllNameFull, KeepsOlder, addresses_of}
use Rattle.drop_elaborate.proofs.Blocks.{BlocksDo}
use Rattle.drop_elaborate.proofs.BlocksDone.{Entry, DropsDo, blocks-Done}
use Rattle.drop_elaborate.proofs.Elaborated.{elaborated, Outcome, BodyOwed, Owed, elaborated_runs, raw_laws, strict_laws}
use Rattle.drop_elaborate.proofs.Entered.{Enters}
use Rattle.drop_elaborate.proofs.Held.{Held}
use Rattle.drop_elaborate.proofs.ItemsOk.{callees-ok}
use Rattle.drop_elaborate.proofs.ReadyBody.{BodyIsReady, ready-body, targets-there}
use Rattle.drop_elaborate.proofs.StandAlone.{all-at}
use Rattle.drop_elaborate.proofs.WalkOf.{Walk, walks}
use Rattle.drop_elaborate.proofs.Walks.{unplaced, Walks}
use Rattle.drop_elaborate.specs.Elaborated.{flag_at, IsElaboratedBody}

-- ---- locals of the raw body, and flags behind them

get-first : {A : Type 0} (xs ys : List A) (k : ℕ) (x : A) → slice_get xs k ≡ Some x → slice_get (xs ++ ys) k ≡ Some x
get-first [] ys k x e = absurd (none-some x e)
get-first (y ∷ xs) ys zero x e = e
get-first (y ∷ xs) ys (suc k) x e = get-first xs ys k x e

get-past : {A : Type 0} (xs : List A) (n : ℕ) → slice_get xs (length xs + n) ≡ None
get-past [] n = refl
get-past (x ∷ xs) n =
    ap (slice_get (x ∷ xs)) (let e : suc (length xs) + n ≡ suc (length xs + n) = omega arith in e) ∙ get-past xs n

get-flag : {A : Type 0} (m n : ℕ) (x : A) → n < m → slice_get (replicate m x) n ≡ Some x
get-flag zero n x l = absurd (let never : ⊥ = omega (arith, l) in never)
get-flag (suc m) zero x l = refl
get-flag (suc m) (suc n) x l = get-flag m n x (omega (arith, l))

get-second : {A : Type 0} (xs ys : List A) (n : ℕ) → slice_get (xs ++ ys) (length xs + n) ≡ slice_get ys n
get-second [] ys n = ap (slice_get ys) (let e : 0 + n ≡ n = omega arith in e)
get-second (x ∷ xs) ys n =
    ap (slice_get (x ∷ xs ++ ys)) (let e : suc (length xs) + n ≡ suc (length xs + n) = omega arith in e)
    ∙ get-second xs ys n

-- flags of older activations as before, those of this one as they are now
like-outer : (local_ty : (body local : ℕ) → Option TyId) (flags outer : Flags) (depth : ℕ) (w w' : State) →
    Like local_ty flags w w' → ((d k : ℕ) → (d == depth) ≡ false → flags d k ≡ outer d k) →
    Like local_ty (with_flags outer depth (flags depth)) w w'
like-outer local_ty flags outer depth w w' l others = record {
  asked = l.asked;
  ticks = l.ticks;
  serial = l.serial;
  trace = l.trace;
  count = l.count;
  bodies = l.bodies;
  covers = l.covers;
  flags_are = λ d k b e n. l.flags_are d k b e n ∙ by d k (d == depth) refl;
}
  where
    by : (d k : ℕ) (b : Bool) → (d == depth) ≡ b → flags d k ≡ (if d == depth then flags depth k else outer d k)
    by d k true e =
        ap (λ x. flags x k) ((Decides-eqb d depth).0 e) ∙ sym (ap (λ b. if b then flags depth k else outer d k) e)
    by d k false e = others d k e ∙ sym (ap (λ b. if b then flags depth k else outer d k) e)

module _ (graph : Graph) (bodies' : List Body) (are : AreItems graph.items) (ready : IsReadyGraph graph)
    (each : (n : ℕ) (body : Body) → slice_get graph.bodies n ≡ Some body → (body' : Body)
    × (slice_get bodies' n ≡ Some body') × IsElaboratedBody graph.items body body') where
  abbrev local_ty : (body local : ℕ) → Option TyId
  local_ty = λ n local. option_and_then (λ (body : Body). slice_get body.locals local) (slice_get graph.bodies n)

  abbrev local_ty' : (body local : ℕ) → Option TyId
  local_ty' = λ n local. option_and_then (λ (body : Body). slice_get body.locals local) (slice_get bodies' n)

  abbrev good : ℕ → List Datum → State → Type 0
  good = Enters graph.items local_ty

  abbrev run : ℕ → Bodies
  run n = run_body (setting_of false graph) (code_of graph) n

  abbrev run' : ℕ → Bodies
  run' n = run_body (setting_of true (elaborated graph bodies' good)) (code_of (elaborated graph bodies' good)) n

  pub extends : Extends local_ty local_ty'
  extends b k id e = by (slice_get graph.bodies b) refl e
    where
      by : (o : Option Body) → slice_get graph.bodies b ≡ o →
          option_and_then (λ (body : Body). slice_get body.locals k) o ≡ Some id → local_ty' b k ≡ Some id
      by None e h = absurd (none-some id h)
      by (Some body) e h =
          let x = each b body e in
          ap (option_and_then (λ (body : Body). slice_get body.locals k)) x.1
          ∙ ap (λ l. slice_get l k) x.2.done.locals
          ∙ get-first body.locals (replicate (length x.2.flagged) x.2.done.flag_ty) k id h

  module _ (number : ℕ) (body : Body) (found : slice_get graph.bodies number ≡ Some body) where
    pub there : (body' : Body) × (slice_get bodies' number ≡ Some body') × IsElaboratedBody graph.items body body'
    there = each number body found

    pub added : (n : ℕ) → n < length there.2.flagged →
        (local_ty number (flag_at graph.items body there.2.flagged n) ≡ None)
        × (local_ty' number (flag_at graph.items body there.2.flagged n) ≡ Some there.2.done.flag_ty)
    added n l = (
      ap (option_and_then (λ (b : Body). slice_get b.locals (length body.locals + n))) found
          ∙ get-past body.locals n,
      ap (option_and_then (λ (b : Body). slice_get b.locals (length body.locals + n))) there.1
          ∙ ap (λ l. slice_get l (length body.locals + n)) there.2.done.locals
          ∙ get-second body.locals (replicate (length there.2.flagged) there.2.done.flag_ty) n
          ∙ get-flag (length there.2.flagged) n there.2.done.flag_ty l,
    )

    pub locals_are : (k : ℕ) → local_ty number k ≡ slice_get body.locals k
    locals_are k = ap (option_and_then (λ (b : Body). slice_get b.locals k)) found

    pub is_ready : BodyIsReady graph.items (length graph.bodies) body
    is_ready = ready-body graph are ready number body found

    pub prepared : IsPreparedBody graph.items body
    prepared = ready.prepared.prepared number body found

    pub bodies_are : (n : ℕ) (block : Block) → slice_get body.blocks n ≡ Some block → (m : ℕ) →
        Contains (targets block.term) m → (next : Block) × (slice_get body.blocks m ≡ Some next)
    bodies_are n block at m c = targets-there graph.items (length graph.bodies) body is_ready n block at m c

    pub never_back : (n : ℕ) (block : Block) → slice_get body.blocks n ≡ Some block →
        list_any (nat_eq 0) (targets block.term) ≡ false
    never_back n block at =
        by (list_any (nat_eq 0) (targets block.term)) (all-at (λ (block : Block).
        not (list_any (nat_eq 0) (targets block.term))) body.blocks n block prepared.one_beginning at)
      where
        by : (b : Bool) → not b ≡ true → b ≡ false
        by false h = refl
        by true h = absurd (false≢true h)

    pub ranked : IsRanked body
    ranked = well_formed-ranked graph number body ready.prepared.well_formed found

    module _ (n : ℕ) (same : SameBodies local_ty good n (run n) (run' n))
        (keeps : KeepsOlder graph.items local_ty good (run n)) where
      pub thrifty : Thrifty (run n)
      thrifty = body_thrifty (setting_of false graph) (code_of graph) (graph_keeps graph) n

      pub stays : (depth : ℕ) (flags : Flags) (event : Event) (callee : ℕ) (args : List Datum) (w : State) →
          good callee args w → Stays graph.items local_ty local_ty' extends flags depth number w
          (run n event callee args w)
      stays depth flags event callee args w g = by (run n event callee args w) (keeps event callee args w g)
        where
          by : (a : Answer) → TouchedBy graph.items local_ty (addresses_of args) callee w a →
              Stays graph.items local_ty local_ty' extends flags depth number w a
          by (Returns value v) t = touched-counts graph.items local_ty (addresses_of args) w v t.0
          by (Unwinds v) t = tt
          by (HaltsIn halt v) t = tt

      abbrev pub P : Flags → ℕ → Out State → Out State → Type 0
      P outer depth = Outcome graph bodies' good outer depth

      abbrev WalkR : Next State
      WalkR = Walk ticks_of (concrete_effects (setting_of false graph) (run n) (suc n)) (raw_laws graph bodies' good n)
          number (λ block line. 0) body ranked n (suc n) (omega arith)

      abbrev pub WalkE : Next State
      WalkE = Walk ticks_of (concrete_effects (setting_of true (elaborated graph bodies' good)) (run' n) (suc n))
          (strict_laws graph bodies' good n) number (λ block line. 0) there.0 there.2.done.ranked n (suc n) (omega
          arith)

      abbrev pub walksE : Walks (naming unplaced (concrete_effects (setting_of true (elaborated graph bodies' good))
          (run'
          n)
          (suc n))) ticks_of n there.0 (λ block line. 0) WalkE
      walksE = walks ticks_of (concrete_effects (setting_of true (elaborated graph bodies' good)) (run' n) (suc n))
          (strict_laws graph bodies' good n) number (λ block line. 0) there.0 there.2.done.ranked n (suc n) (omega
          arith)

      pub stuck : (outer : Flags) (depth : ℕ) (halt : effects.Halt) (w : State) (o : Out State) → IsStuck halt →
          P outer depth (Halts halt w) o
      stuck outer depth halt w o is = inl is

      pub halts : (outer : Flags) (depth : ℕ) (halt : effects.Halt) (w w' : State) → w'.trace ≡ w.trace →
          P outer depth (Halts halt w) (Halts halt w')
      halts outer depth halt w w' t = inr (w', refl, t)

      pub resumes : (outer : Flags) (depth : ℕ) (flags : Flags) (w w' : State) → Like local_ty flags w w' →
          ((d k : ℕ) → (d == depth) ≡ false → flags d k ≡ outer d k) → length w.activations ≡ suc depth →
          P outer depth (Unwind w) (Unwind w')
      resumes outer depth flags w w' l others deep =
          (w', flags depth, refl, like-outer local_ty flags outer depth w w' l others, deep)

      pub gives : (outer : Flags) (depth : ℕ) (flags : Flags) (w w' : State) → Like local_ty flags w w' →
          ((d k : ℕ) → (d == depth) ≡ false → flags d k ≡ outer d k) → length w.activations ≡ suc depth →
          held depth 0 w' ≡ held depth 0 w → P outer depth (Go w) (Go w')
      gives outer depth flags w w' l others deep e =
          (w', flags depth, refl, like-outer local_ty flags outer depth w w' l others, deep, e)

      abbrev EntryAt : (outer : Flags) (depth : ℕ) (addresses : List Addr) (before : State) →
          AllNameFull graph.items local_ty before addresses → ℕ → State → State → Type 0
      EntryAt outer depth addresses before given =
          Entry graph.items local_ty local_ty' extends number depth (length graph.bodies) outer body there.2.flagged
          there.2.done.flag_ty there.2.done.flag_is added addresses before given locals_are is_ready bodies_are
          never_back
          (callees-ok graph ready.prepared.well_formed) (run n) (run' n) thrifty keeps (suc n) n same (stays depth)
          (λ path given is. ready.uses number body path given found is)
          (λ path given local is. prepared.named_stays path given local is) there.0 WalkE walksE (P outer depth)
          (stuck outer depth) (halts outer depth) (resumes outer depth) (gives outer depth)

      abbrev pub DropsAt : (outer : Flags) (depth : ℕ) (addresses : List Addr) (before : State) →
          AllNameFull graph.items local_ty before addresses → Type 0
      DropsAt outer depth addresses before given =
          DropsDo graph.items local_ty local_ty' extends number depth (length graph.bodies) outer body there.2.flagged
          there.2.done.flag_ty there.2.done.flag_is added addresses before given locals_are is_ready bodies_are
          never_back
          (callees-ok graph ready.prepared.well_formed) (run n) (run' n) thrifty keeps (suc n) n same (stays depth)
          (λ path given is. ready.uses number body path given found is)
          (λ path given local is. prepared.named_stays path given local is) there.0 WalkE walksE (P outer depth)
          (stuck outer depth) (halts outer depth) (resumes outer depth) (gives outer depth)

      -- what its arguments name stood full before the body
      pub record Entering (outer : Flags) (depth m : ℕ) (w w' : State) : Type 0 where
        pub addresses : List Addr
        pub before : State
        pub given : AllNameFull graph.items local_ty before addresses
        pub entry : EntryAt outer depth addresses before given m w w'

      -- what is known of a raw run as the body begins
      abbrev pub Begins : Type 0
      Begins = (depth : ℕ) (args : List Datum) (u w : State) (event : Event) (t : ℕ) (may : good number args u) →
          length w.activations ≡ suc depth → u.ticks ≡ suc t →
          w ≡ with_activation (record { body = number; cells = (code_of graph).arguments number args })
          (with_event event (record u { ticks = t })) →
          Held graph.items local_ty number depth body (addresses_of args) u may.named locals_are [] w

      module _ (begins : Begins) (drops : (outer : Flags) (depth : ℕ) (addresses : List Addr) (before : State)
          (given : AllNameFull graph.items local_ty before addresses) → DropsAt outer depth addresses before given)
        where
          blocks-at : (outer : Flags) (depth : ℕ) (addresses : List Addr) (before : State)
              (given : AllNameFull graph.items local_ty before addresses) → BlocksDo
              (naming unplaced (concrete_effects (setting_of false graph) (run n) (suc n))) n body (λ block line. 0)
              ranked
              WalkR WalkE (walks ticks_of (concrete_effects (setting_of false graph) (run n) (suc n))
              (raw_laws graph bodies' good n) number (λ block line. 0) body ranked n (suc n) (omega arith))
              (EntryAt outer depth addresses before given) (P outer depth)
          blocks-at outer depth addresses before given =
              blocks-Done graph.items local_ty local_ty' extends number depth (length graph.bodies) outer body
              there.2.flagged there.2.done.flag_ty there.2.done.flag_is added addresses before given locals_are
              is_ready bodies_are
              never_back (callees-ok graph ready.prepared.well_formed) (run n) (run' n) thrifty keeps (suc n) n same
              (stays depth) (λ path given is. ready.uses number body path given found is)
              (λ path given local is. prepared.named_stays path given local is) there.0 WalkE walksE (P outer depth)
              (stuck outer depth) (halts outer depth) (resumes outer depth) (gives outer depth)
              (drops outer depth addresses before given) there.2.done.blocks ranked WalkR
              (walks ticks_of (concrete_effects (setting_of false graph) (run n) (suc n)) (raw_laws graph bodies' good
              n)
              number (λ block line. 0) body ranked n (suc n) (omega arith))

          pub body-Owed : BodyOwed graph bodies' good n number body there.0 ranked there.2.done.ranked
          body-Owed = record {
            entry = λ outer depth m w w'. Entering outer depth m w w';
            starts = λ outer depth args w w' like deep is few event u t may e entered_is. record {
              addresses = addresses_of args;
              before = u;
              given = may.named;
              entry = record {
                flags = with_flags outer depth (λ k. cell k ((code_of graph).arguments number args));
                like = like;
                others = λ d k h. ap (λ b. if b then cell k ((code_of graph).arguments number args) else outer d k) h;
                deep = deep;
                number_is = is;
                known = begins depth args u w event t may deep e entered_is;
              };
            };
            blocks = λ outer depth. record {
              plain = λ m block at flat w w' x few next does.
                  (blocks-at outer depth x.addresses x.before x.given).plain m block at flat w w' x.entry few next
                  (λ k c v v' l e. does k c v v' l
                  (record { addresses = x.addresses; before = x.before; given = x.given; entry = e }));
              turn = λ m block at is w w' x few next does.
                  (blocks-at outer depth x.addresses x.before x.given).turn m block at is w w' x.entry few next
                  (λ t h k c v v' l e. does t h k c v v' l
                  (record { addresses = x.addresses; before = x.before; given = x.given; entry = e }));
              nowhere = λ m none w w' x.
                  (blocks-at outer depth x.addresses x.before x.given).nowhere m none w w' x.entry;
            };
          }

  -- so the whole run is the same
  module _ (keeps : (n : ℕ) → KeepsOlder graph.items local_ty good (run n))
      (begins : (number : ℕ) (body : Body) (found : slice_get graph.bodies number ≡ Some body) (n : ℕ)
      (same : SameBodies local_ty good n (run n) (run' n)) → Begins number body found n same (keeps n))
      (drops : (number : ℕ) (body : Body) (found : slice_get graph.bodies number ≡ Some body) (n : ℕ)
      (same : SameBodies local_ty good n (run n) (run' n)) (outer : Flags) (depth : ℕ) (addresses : List Addr)
      (before : State) (given : AllNameFull graph.items local_ty before addresses) →
      DropsAt number body found n same (keeps n) outer depth addresses before given) where
    owed : Owed graph bodies' good
    owed = record {
      body = λ number body found. (
        (there number body found).0,
        (there number body found).1,
        ranked number body found,
        (there number body found).2.done.ranked,
        λ n same. body-Owed number body found n same (keeps n) (begins number body found n same)
            (drops number body found n same),
      );
    }

    -- the elaborated graph has the trace and the end of the raw one, where the latter is not stuck
    pub runs-same : (asked : List ℤ) (ticks : ℕ) → good (main_of graph.items) [] (beginning asked ticks) →
        ((body block : ℕ) → (raw_graph_run graph asked ticks).1 ≡ End.Stuck body block → ⊥) →
        graph_run (elaborated graph bodies' good) asked ticks ≡ raw_graph_run graph asked ticks
    runs-same = elaborated_runs graph bodies' good owed
