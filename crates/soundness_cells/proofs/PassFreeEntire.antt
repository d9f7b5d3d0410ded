-- What is free stays free: the block of a body, the entire function, and the end of a body. No cell is filled that holds
-- something, from the parameters on.
use Rattle.std.proofs.Common.{◌≡◌, ◌⊎◌, inl, inr, ℕ, Bool, true, false, List, [], ◌∷◌, ◌++◌, Option, Some, None, refl, ap, sym, subst}
use Rattle.std.proofs.lemmas.Bool.{false≢true}
use Rattle.std.proofs.lemmas.Option.{none-some}
use Rattle.mir_ty.specs.declared.ty.TyId.{TyId}
use Rattle.mir_ty.specs.ItemTable.{ItemTable}
use Rattle.store_model.specs.Effects as effects
use Rattle.store_model.specs.Effects.{EffectSite, Halt, Out, Go, Unwind, Halts, Effects}
use Rattle.typed_tree.specs.Nodes.{number_of, nodes_of, nodes_in, nodes_among, nodes_if_any, param_nodes}
use Rattle.typed_tree.specs.Tree as tree
use Rattle.typed_tree.specs.Tree.{Node, node, Nodes, MaybeNode, ParamTree, BodyTree}
use Rattle.src_meaning.specs.Evaluation.{meaning, meanings, meaning_if_any, to_own_key}
use Rattle.src_meaning.specs.Forms as forms
use Rattle.src_meaning.specs.Forms.{Destination, Into, LoopsAndGuards, Meaning, is_never, site_of_key}
use Rattle.src_meaning.specs.Locals.OfBody.{answer_key}
use Rattle.src_meaning.specs.Programs as programs
use Rattle.src_meaning.specs.Programs.{around_body, answer_scope, entire_function, params_entered}
use Rattle.src_meaning.specs.Scopes.{Entry, Scopes, with_scope, Exit, Value, Breaks, Continues, Returns, Panics, Run, At, Over, Does, on_value, needing_drop, all_entries, entry_site}
use Rattle.src_meaning.specs.Shape.{head}
use Rattle.well_typed.specs.Claim.{Holds}
use Rattle.well_typed.specs.Nodes as typing
use Rattle.well_typed.specs.Places.{InScope, Context, form_of, Standing}
use Rattle.soundness_values.proofs.Leaving.{Shown, ShownOut, shown_more, Among}
use Rattle.soundness_cells.proofs.PassBodies as bodies
use Rattle.soundness_cells.proofs.PassCells.{rising}
use Rattle.soundness_cells.proofs.PassClear.{KeepsClear, any, Nothing}
use Rattle.soundness_cells.proofs.PassFacts.{Standpoint, context}
use Rattle.soundness_cells.proofs.PassFree.{Always, FindsNothing, DestKey, Ext, ext_then, AroundOk}
use Rattle.soundness_cells.proofs.PassFreeAgain as again
use Rattle.soundness_cells.proofs.PassFreeBodies as params_of
use Rattle.soundness_cells.proofs.PassFreeBodies.{Inner, not_own}
use Rattle.soundness_cells.proofs.PassFreeForms.{block_in}
use Rattle.soundness_cells.proofs.PassFreeRules as rules
use Rattle.soundness_cells.proofs.PassNodes as nodes
use Rattle.soundness_cells.proofs.PassNumbers.{Numbered, numbered_left, numbered_right, Rises, first_apart, rises_left, rises_right, rises_apart, own_number, inside_numbered}
use Rattle.soundness_cells.proofs.PassParams as entering
use Rattle.soundness_cells.proofs.PassParams.{NamedParam}
use Rattle.soundness_cells.proofs.PassScopes as scopes
use Rattle.soundness_cells.proofs.PassScopes.{entries_of}

module _ {V : Type 0} (items : ItemTable) (needs : ℕ → Bool) (q : Effects V) (clear : V → ℕ → Type 0)
    (keeps : KeepsClear q needs clear) (over : Halt → V → Type 0) (waits : EffectSite → V → Type 0)
    (first : FindsNothing q over needs clear waits) (fuel : ℕ) where
  abbrev Post : LoopsAndGuards → (ℕ → Type 0) → List Node → Scopes → V → (Exit → Scopes → Type 0) → Exit → Scopes →
      V → Type 0
  Post = rules.Post items needs q clear keeps over waits first

  abbrev Extends : Scopes → Exit → Scopes → Type 0
  Extends = rules.Extends items needs q clear keeps over waits first

  abbrev Ready : Context → LoopsAndGuards → List Node → Scopes → V → Type 0
  Ready = rules.Ready items needs q clear keeps over waits first

  abbrev DestOk : ℕ → List Node → Destination → Scopes → V → Type 0
  DestOk = rules.DestOk items needs q clear keeps over waits first

  abbrev Free : V → Scopes → ℕ → Type 0
  Free = rules.Free items needs q clear keeps over waits first

  abbrev Good : List Node → Type 0
  Good = nodes.Good items needs q clear keeps fuel

  abbrev K : Standpoint → Context
  K = context items

  abbrev M : Node → Meaning V
  M = meaning items q fuel

  abbrev Ms : Nodes → List (Meaning V)
  Ms = meanings items q fuel

  abbrev Mi : MaybeNode → Option (Meaning V)
  Mi = meaning_if_any items q fuel

  abbrev no_clear : V → ℕ → Type 0
  no_clear = again.no_clear items needs q clear keeps

  abbrev keeps_none : KeepsClear q (λ key. false) no_clear
  keeps_none = again.keeps_none items needs q clear keeps

  -- ---- the block of a body

  pub block_free : (b : Node) (x : Standpoint) (standing : Standing) → bodies.is_block_form items (λ key. false) q no_clear keeps_none fuel (form_of b) ≡ true →
      Holds (typing.typed (K x) standing b) → Good (nodes_in (form_of b)) → Rises (nodes_of b) →
      (around : LoopsAndGuards) (U : Scopes) (u : V) → Ready (K x) around (nodes_in (form_of b)) U u →
      DestOk (number_of b) (nodes_in (form_of b)) (Into (number_of b)) U u →
      Shown over (Post around (DestKey (Into (number_of b))) (nodes_in (form_of b)) U u (Extends U))
      ((M b).evaluate around false (Into (number_of b)) U u)
  block_free (node id at ty by (tree.Block stmts tail)) x standing e h g r around U u t d = of_kind (is_never items ty)
    where
      os : List Node
      os = nodes_among stmts ++ nodes_if_any tail

      block : Shown over (Post around (DestKey (Into id)) (nodes_among stmts ++ nodes_if_any tail) U u (Extends U))
          (forms.block items q (head id ty by) (Ms stmts) (Mi tail) around false (Into id) U u)
      block = block_in items needs q clear keeps over waits first fuel stmts tail x id ty by h.1 g
          (rising (node id at ty by (tree.Block stmts tail)) (nodes_among stmts ++ nodes_if_any tail) r).1
          (nodes_among stmts ++ nodes_if_any tail) (record {
            within = λ z k. k;
            apart = λ k. first_apart (node id at ty by (tree.Block stmts tail)) (nodes_among stmts ++ nodes_if_any tail) r k;
          }) around false (Into id) U u t d

      of_kind : (b : Bool) →
          Shown over (Post around (DestKey (Into id)) (nodes_among stmts ++ nodes_if_any tail) U u (Extends U))
          (forms.block items q (head id ty by) (Ms stmts) (Mi tail) around false (to_own_key b id (Into id)) U u)
      of_kind true = block
      of_kind false = block
  block_free (node id at ty by form) x standing e h g r around U u t d = absurd (false≢true e)

  -- ---- a body

  module _ (body : BodyTree) (closure : Option InScope) (scoped : List ParamTree)
      (among : (key : ℕ) → NamedParam scoped key → NamedParam body.params key)
      (rise : Rises (param_nodes body.params ++ nodes_of body.block))
      (params : entering.GoodParams items (λ key. false) q no_clear keeps_none fuel body.params) where
    abbrev X : Standpoint
    X = bodies.at_body items (λ key. false) q no_clear keeps_none fuel body closure scoped among

    abbrev B : LoopsAndGuards
    B = around_body items q fuel body

    abbrev begun : Scopes
    begun = with_scope (answer_key body) true (answer_scope items q fuel body)

    abbrev Known : Exit → Scopes → Type 0
    Known exit U = Ext begun U × (exit ≡ Value → AroundOk items (K X) B U)

    temporary : (U : Scopes) → scopes.Inside items (λ key. false) true
        (answer_scope items q fuel body) U → scopes.HasTemporary items (λ key. false) U
    temporary Z (scopes.inside s T f t g) = inl f

    known : (v : V) (r : Run V) → Shown over (Post B Nothing (param_nodes body.params) begun v (Extends begun)) r →
        Shown any (entering.Entered items (λ key. false) q no_clear keeps_none fuel (answer_scope items q fuel body) body.params begun) r →
        Shown over (Post B Nothing (param_nodes body.params) begun v Known) r
    known v (At exit U w) x y = (
      (
        x.0,
        λ e. record {
          answer = inl refl;
          answer_suits = λ e. refl;
          loops = λ loop a e. inl refl;
          loops_suit = λ loop a e k. refl;
          names = λ key n e k p. subst (Among (entries_of U)) (ap (λ z. z.local) p)
              (y.1.1.1 key (inl (among key (bodies.param_named items (λ key. false) q no_clear keeps_none fuel body closure scoped among scoped key n e))));
          rooted = λ key k p. inr (sym (ap (λ z. z.local) p));
          temporary = temporary U y.1.0;
        },
      ),
      x.1,
    )
    known v (Over halt w) x y = x

    abbrev All : List Node
    All = param_nodes body.params ++ nodes_in (form_of body.block)

    -- nothing but parameters is held as a body begins
    pub entire_free : (standing : Standing) → bodies.is_block_form items (λ key. false) q no_clear keeps_none fuel (form_of body.block) ≡ true →
        Holds (typing.typed (K X) standing body.block) → Good (nodes_in (form_of body.block)) → (v : V) →
        ((z : ℕ) → Inner items needs q clear keeps over waits first fuel body.params z ⊎ Numbered (nodes_of body.block) z → clear v z) →
        Shown over (Post B (DestKey (Into (answer_key body))) All begun v (λ exit U. Unit {0}))
        (entire_function items q fuel body (answer_scope items q fuel body) v)
    entire_free standing e h g v held = rules.leave_free items needs q clear keeps over waits first B (DestKey (Into (answer_key body))) All begun v
        (λ exit U. Unit {0}) (on_value (params_entered items q fuel body.params begun v) evaluate)
        (shown_more over (λ exit U w p. (beneath exit U p.0, p.1))
        (on_value (params_entered items q fuel body.params begun v) evaluate)
        (rules.then_free items needs q clear keeps over waits first B Nothing (DestKey (Into (answer_key body))) (param_nodes body.params) All Known
        (Extends begun) begun v (params_entered items q fuel body.params begun v) evaluate
        (known v (params_entered items q fuel body.params begun v)
        (params_of.params_free items needs q clear keeps over waits first fuel B body.params (rises_left (param_nodes body.params) (nodes_of body.block) rise) begun v tt
        (λ z i. (held z (inl i), λ a. a)))
        (entering.params_so items (λ key. false) q no_clear keeps_none fuel (K X) B (answer_scope items q fuel body) body.params params begun v
        (scopes.opened items (λ key. false) (answer_key body) true
        (answer_scope items q fuel body)) (λ key. inl tt)))
        (numbered_left (param_nodes body.params) (nodes_in (form_of body.block))) (λ z n. absurd n) (λ exit T o k. k.0)
        (λ U u k j. rules.more_free items needs q clear keeps over waits first B (DestKey (Into (answer_key body))) (DestKey (Into (answer_key body)))
        (nodes_in (form_of body.block)) All U u (Extends U) (Extends begun) (evaluate U u)
        (block_free body.block X standing e h g (rises_right (param_nodes body.params) (nodes_of body.block) rise) B U u
        (record {
          ok = k.1 refl;
          free = λ z n. fresh U u j z (inside_numbered body.block z n);
          jumps = λ z i. jump U u j z i;
          twos = (tt, λ loop a n. absurd (none-some a n));
        }) (record {
          free = λ z n. subst (Free u U) n (fresh U u j (number_of body.block) (own_number body.block));
          apart = λ z n. inl n;
          two = tt;
        })) (numbered_right (param_nodes body.params) (nodes_in (form_of body.block))) (λ z n. inr n)
        (λ exit Z x. ext_then begun U Z k.0 x))))
      where
        evaluate : Does V
        evaluate = (M body.block).evaluate B false (Into (answer_key body))

        beneath : (exit : Exit) (U : Scopes) → Ext begun U → rules.Beneath items needs q clear keeps over waits first (λ exit U. Unit {0}) exit U
        beneath exit [] x = absurd x
        beneath exit (t ∷ T) x = (tt, tt)

        fresh : (U : Scopes) (u : V) → ((z : ℕ) → Free v begun z →
            (Numbered (param_nodes body.params) z → ⊥) → (⊥ → ⊥) → Free u U z) → (z : ℕ) →
            Numbered (nodes_of body.block) z → Free u U z
        fresh U u j z n = j z (held z (inr n), λ a. a)
            (λ m. rises_apart (param_nodes body.params) (nodes_of body.block) rise z m n) (λ x. x)

        jump : (U : Scopes) (u : V) → ((z : ℕ) → Free v begun z →
            (Numbered (param_nodes body.params) z → ⊥) → (⊥ → ⊥) → Free u U z) → (z : ℕ) →
            rules.Jump items needs q clear keeps over waits first (K X) B z → Free u U z × (Numbered (nodes_in (form_of body.block)) z → ⊥)
        jump U u j z (inl n) = (
          subst (Free u U) n (fresh U u j (number_of body.block) (own_number body.block)),
          λ m. not_own items needs q clear keeps over waits first fuel body.block (rises_right (param_nodes body.params) (nodes_of body.block) rise) z m n,
        )
        jump U u j z (inr (loop, (a, (n, k)))) = absurd (none-some a n)

  -- ---- the end of a body

  unwinds_free : (es : List Entry) (v : V) → ShownOut over Always Always (programs.unwinds items q fuel es v)
  unwinds_free [] v = tt
  unwinds_free (e ∷ es) v = by (q.drop effects.Unwinding (entry_site e) v)
      (first.drops effects.Unwinding e v) (λ w. unwinds_free es w)
    where
      by : (o : Out V) → ShownOut over Always Always o →
          ((w : V) → ShownOut over Always Always (programs.unwinds items q fuel es w)) →
          ShownOut over Always Always (effects.aborting o (programs.unwinds items q fuel es))
      by (Go w) h later = later w
      by (Unwind w) h later = first.aborts w
      by (Halts halt w) h later = h

  -- a body ends in no other way than it may
  pub ends_free : ((site : EffectSite) (v : V) → ShownOut over Always Always (q.give site v)) →
      ((v : V) → over effects.Stuck v) → (answer : ℕ) (post : Exit → Scopes → V → Type 0) (r : Run V) →
      Shown over post r → ShownOut over Always Always (programs.body_end items q fuel answer r)
  ends_free gives stuck answer post (At Value S w) h = gives (site_of_key answer) w
  ends_free gives stuck answer post (At (Breaks loop) S w) h = stuck w
  ends_free gives stuck answer post (At (Continues loop) S w) h = stuck w
  ends_free gives stuck answer post (At Returns S w) h = gives (site_of_key answer) w
  ends_free gives stuck answer post (At Panics S w) h = unwinds_free
      (needing_drop items (all_entries S)) w
  ends_free gives stuck answer post (Over halt w) h = h
