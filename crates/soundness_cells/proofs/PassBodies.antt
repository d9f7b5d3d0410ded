-- What is left when a body has ended: nothing is held but its result, and nothing at all after a panic.
use Rattle.std.proofs.Common.{◌≡◌, ◌⊎◌, inl, inr, ℕ, Bool, true, false, List, [], ◌∷◌, Option, Some, if◌then◌else◌, refl, ap, sym, subst}
use Rattle.std.specs.List.{flat_map}
use Rattle.std.proofs.lemmas.Bool.{false≢true}
use Rattle.std.proofs.lemmas.Option.{none-some}
use Rattle.mir_ty.specs.declared.ty.TyId.{TyId}
use Rattle.mir_ty.specs.Facts.{needs_drop}
use Rattle.mir_ty.specs.ItemTable.{ItemTable}
use Rattle.store_model.specs.Effects.{Effects, Out, Go, Unwind, Halts, aborting, Unwinding}
use Rattle.typed_tree.specs.Nodes.{nodes_of, nodes_in, nodes_among, nodes_if_any}
use Rattle.typed_tree.specs.Tree as tree
use Rattle.typed_tree.specs.Tree.{Form, ParamTree, BodyTree}
use Rattle.src_meaning.specs.Evaluation.{meaning, meaning_of, meanings, meaning_if_any}
use Rattle.src_meaning.specs.Forms as forms
use Rattle.src_meaning.specs.Forms.{Destination, Into, LoopsAndGuards, Meaning, site_of_key, is_never}
use Rattle.src_meaning.specs.Locals.OfBody.{answer_key}
use Rattle.src_meaning.specs.Programs as programs
use Rattle.src_meaning.specs.Programs.{params_entered, body_end, activation, entire_function, answer_scope, around_body}
use Rattle.src_meaning.specs.Scopes.{Entry, Scopes, with_scope, all_entries, needing_drop, Exit, Value, Breaks, Continues, Returns, Panics, Run, At, Over, Does, on_value, entry_site}
use Rattle.src_meaning.specs.Shape.{head, shape_of}
use Rattle.well_typed.specs.Claim.{Holds}
use Rattle.well_typed.specs.Patterns as pattern_rules
use Rattle.well_typed.specs.Places.{InScope, Context, entry_with}
use Rattle.soundness_values.proofs.Leaving.{Shown, ShownOut, shown_more, Among}
use Rattle.soundness_cells.proofs.PassAround as named
use Rattle.soundness_cells.proofs.PassFacts as facts
use Rattle.soundness_cells.proofs.PassFacts.{Standpoint, context, behind}
use Rattle.soundness_cells.proofs.PassForms as pass
use Rattle.soundness_cells.proofs.PassParams as entering
use Rattle.soundness_cells.proofs.PassParams.{param_keys, NamedParam}
use Rattle.soundness_cells.proofs.PassParts as parts
use Rattle.well_typed.specs.Nodes as typing
use Rattle.well_typed.specs.Types as types
use Rattle.src_meaning.specs.Evaluation as evaluation
use Rattle.typed_tree.specs.declared.node.Use.{Use}
use Rattle.soundness_cells.proofs.PassClear.{KeepsClear, any, Nothing}
use Rattle.soundness_cells.proofs.PassNames as names
use Rattle.soundness_cells.proofs.PassNames.{NameIn}
use Rattle.soundness_cells.proofs.PassNodes as nodes
use Rattle.soundness_cells.proofs.PassRules as rules
use Rattle.soundness_cells.proofs.PassRules.{InList}
use Rattle.soundness_cells.proofs.PassScopes as scopes
use Rattle.soundness_cells.proofs.PassScopes.{entries_of, Other, seq, inside}
use Rattle.soundness_cells.proofs.PassSteps as steps

module _ {V : Type 0} (items : ItemTable) (needs : ℕ → Bool) (q : Effects V) (clear : V → ℕ → Type 0)
    (keeps : KeepsClear q needs clear) (fuel : ℕ) where
  abbrev Held : (ℕ → Type 0) → List Entry → V → Type 0
  Held = scopes.Held items needs q clear keeps

  abbrev After : Context → LoopsAndGuards → (ℕ → Type 0) → (Scopes → Type 0) → Exit → Scopes → V → Type 0
  After = scopes.After items needs q clear keeps

  abbrev AroundOk : Context → LoopsAndGuards → Scopes → Type 0
  AroundOk = scopes.AroundOk items needs

  abbrev Inside : Bool → Scopes → Scopes → Type 0
  Inside = scopes.Inside items needs

  abbrev Grown : Bool → Scopes → Scopes → Type 0
  Grown = scopes.Grown items needs

  abbrev Grows : Scopes → Scopes → Type 0
  Grows = scopes.Grows items needs

  abbrev Lands : Scopes → ℕ → Type 0
  Lands = scopes.Lands items needs

  abbrev Typed : Entry → Type 0
  Typed = scopes.Typed items needs

  abbrev Suits : TyId → Destination → Type 0
  Suits = scopes.Suits items needs

  abbrev Sound : Context → Meaning V → Type 0
  Sound = rules.Sound items needs q clear keeps

  abbrev DoesSo : Context → LoopsAndGuards → (ℕ → Type 0) → Does V → Type 0
  DoesSo = steps.DoesSo items needs q clear keeps

  -- ---- a body

  -- what a body holds when it has ended
  abbrev pub Left : ℕ → Out V → Type 0
  Left answer = ShownOut any (λ w. (key : ℕ) → clear w key ⊎ (key ≡ answer)) (λ w. (key : ℕ) → clear w key)

  abbrev pub is_block_form : Form → Bool
  is_block_form (tree.Block statements tail) = true
  is_block_form _ = false

  -- the block of a body, into its result
  pub block_left : (form : Form) (x : Standpoint) (id : ℕ) (ty : TyId) (by : Option Use) → is_block_form form ≡ true →
      Holds (typing.row (context items x) id ty form) → nodes.Good items needs q clear keeps fuel (nodes_in form) →
      types.fits items x.answer ty ≡ true → Suits x.answer (Into id) → (around : LoopsAndGuards) (S : Scopes) (v : V) →
      AroundOk (context items x) around S → Held Nothing (entries_of S) v → Lands S id →
      Shown any (After (context items x) around (λ key. key ≡ id) (Grows S))
      ((meaning_of items q fuel form (head id ty by) (shape_of items form (head id ty by))).evaluate around false
      (Into id) S v)
  block_left (tree.Block stmts tail) x id ty by b h g fits suits around S v ok k lands = of_kind (is_never items ty)
    where
      block : Shown any (After (context items x) around (λ key. key ≡ id) (Grows S))
          (forms.block items q (head id ty by) (meanings items q fuel stmts) (meaning_if_any items q fuel tail) around
          false
          (Into id) S v)
      block = parts.block_so items needs q clear keeps fuel x id ty by stmts tail around false (Into id) S v
          (λ T w ok' i k'. pass.statements_so items needs q clear keeps fuel stmts x (λ d. typing.tail_of d tail) h.0
          (nodes.good_left items needs q clear keeps fuel (nodes_among stmts) (nodes_if_any tail) g) around false S T w
          ok' i k')
          (pass.tail_so items needs q clear keeps fuel tail (behind x stmts)
          (facts.behind_holds items needs q clear keeps fuel stmts x (λ d. typing.tail_of d tail) h.0)
          (nodes.good_right items needs q clear keeps fuel (nodes_among stmts) (nodes_if_any tail) g)) h.1 ok k lands
          (nodes.fits_suit items needs q clear keeps fuel x.answer ty (Into id) fits suits)

      of_kind : (b : Bool) → Shown any (After (context items x) around (λ key. key ≡ id) (Grows S))
          (forms.block items q (head id ty by) (meanings items q fuel stmts) (meaning_if_any items q fuel tail) around
          false
          (evaluation.to_own_key b id (Into id)) S v)
      of_kind true = block
      of_kind false = block
  block_left form x id ty by b h g fits suits around S v ok k lands = absurd (false≢true b)

  -- the names of some parameters are in scope; of a closure's body the first has none, but stands for what is captured
  module _ (body : BodyTree) (closure : Option InScope) (named_params : List ParamTree)
      (are_params : (key : ℕ) → NamedParam named_params key → NamedParam body.params key) where
    abbrev pub at_body : Standpoint
    at_body = record {
      entries = flat_map (λ p. pattern_rules.entries_of p.pattern) named_params;
      closure = closure;
      loops = [];
      answer = body.answer;
      outside = [];
    }

    pub param_named : (params : List ParamTree) (key : ℕ) (x : InScope) →
        entry_with key (flat_map (λ p. pattern_rules.entries_of p.pattern) params) ≡ Some x → NamedParam params key
    param_named [] key x e = absurd (none-some x e)
    param_named (param ∷ params) key x e = by (named.found_in items needs q clear keeps fuel key
        (pattern_rules.entries_of param.pattern)
        (flat_map (λ p. pattern_rules.entries_of p.pattern) params) x e) (λ k. param_named params key x k)
      where
        by : ((y : InScope) × (entry_with key (pattern_rules.entries_of param.pattern) ≡ Some y))
            ⊎ (entry_with key (flat_map (λ p. pattern_rules.entries_of p.pattern) params) ≡ Some x) →
            (entry_with key (flat_map (λ p. pattern_rules.entries_of p.pattern) params) ≡ Some x →
            NamedParam params key) →
            NameIn (nodes_of param.pattern) key ⊎ NamedParam params key
        by (inl y) later = inl (names.named_by (nodes_of param.pattern) key y.0 y.1)
        by (inr k) later = inr (later k)

    abbrev flying : ℕ → Type 0
    flying key = key ≡ answer_key body

    around_ok : Suits body.answer (Into (answer_key body)) → (U : Scopes) →
        Inside true (answer_scope items q fuel body) U →
        ((key : ℕ) → NamedParam body.params key → Among (entries_of U) key) →
        AroundOk (context items at_body) (around_body items q fuel body) U
    around_ok suits U i named = record {
      answer = inr ((scopes.inside_wider items needs true (answer_scope items q fuel body) U i).among (answer_key body)
          (inl refl));
      answer_suits = suits;
      loops = λ loop a e. absurd (none-some a e);
      loops_suit = λ loop a e. absurd (none-some a e);
      names = λ key x e k p. subst (Among (entries_of U)) (ap (λ z. z.local) p)
          (named key (are_params key (param_named named_params key x e)));
      rooted = λ key k p. inr (sym (ap (λ z. z.local) p));
      temporary = has_one U i;
    }
      where
        has_one : (U : Scopes) → Inside true (answer_scope items q fuel body) U → scopes.HasTemporary items needs U
        has_one A (inside s T f t g) = inl f

    module _ (params : entering.GoodParams items needs q clear keeps fuel body.params)
        (suits : Suits body.answer (Into (answer_key body)))
        (block : (U : Scopes) (u : V) → AroundOk (context items at_body) (around_body items q fuel body) U →
        Held Nothing (entries_of U) u → Lands U (answer_key body) →
        Shown any (After (context items at_body) (around_body items q fuel body) (λ key. key ≡ answer_key body)
        (Grows U))
        ((meaning items q fuel body.block).evaluate (around_body items q fuel body) false (Into (answer_key body)) U u))
      where
        abbrev Done : Exit → Scopes → V → Type 0
        Done = After (context items at_body) (around_body items q fuel body) flying
            (Grown true (answer_scope items q fuel body))

        function_so : (v : V) → Held (InList (param_keys body.params)) [] v →
            Shown any Done (entire_function items q fuel body (answer_scope items q fuel body) v)
        function_so v h = scopes.in_scope_landed items needs q clear keeps (context items at_body)
            (around_body items q fuel body) flying true
            (answer_scope items q fuel body) (inr (inl refl)) (λ loop a e. absurd (none-some a e)) (answer_key body)
            (λ T w. on_value (params_entered items q fuel body.params T w)
            ((meaning items q fuel body.block).evaluate (around_body items q fuel body) false (Into (answer_key body)))) v
            (seq (entering.Entered items needs q clear keeps fuel (answer_scope items q fuel body) body.params begun)
            (λ exit U u. After (context items at_body) (around_body items q fuel body) flying
            (Inside true (answer_scope items q fuel body)) exit U u
            × scopes.Landing items needs q clear keeps flying exit U) (params_entered items q fuel body.params begun v)
            ((meaning items q fuel body.block).evaluate (around_body items q fuel body) false (Into (answer_key body)))
            (entering.params_so items needs q clear keeps fuel (context items at_body) (around_body items q fuel body)
            (answer_scope items q fuel body) body.params params begun v
            (scopes.opened items needs (answer_key body) true (answer_scope items q fuel body)) h)
            (λ U u x. within U u x.1.0 x.1.1.0 (λ key n. x.1.1.1 key (inl n)))
            (λ exit U u o x. absurd (subst Other x.0 o)))
          where
            begun : Scopes
            begun = with_scope (answer_key body) true (answer_scope items q fuel body)

            within : (U : Scopes) (u : V) → Inside true (answer_scope items q fuel body) U →
                Held Nothing (entries_of U) u →
                ((key : ℕ) → NamedParam body.params key → Among (entries_of U) key) →
                Shown any (λ exit U u. After (context items at_body) (around_body items q fuel body) flying
                (Inside true (answer_scope items q fuel body)) exit U u ×
                scopes.Landing items needs q clear keeps flying exit U)
                ((meaning items q fuel body.block).evaluate (around_body items q fuel body) false (Into (answer_key body))
                U u)
            within U u i k named =
                let ok = around_ok suits U i named in
                shown_more any (λ exit Z z y. let j = scopes.inside_grows items needs true
                (answer_scope items q fuel body) U Z i y.0 in (
                  (j, y.1),
                  steps.landing_own items needs q clear keeps true (answer_scope items q fuel body) flying
                      (λ key e. subst (Lands (answer_scope items q fuel body)) (sym e) (inr (inl refl))) exit Z j,
                ))
                ((meaning items q fuel body.block).evaluate (around_body items q fuel body) false (Into (answer_key body))
                U u)
                (block U u ok k ok.answer)

        only_result : (S : Scopes) (w : V) → S ≡ answer_scope items q fuel body → Held flying (entries_of S) w →
            (key : ℕ) →
            clear w key ⊎ (key ≡ answer_key body)
        only_result S w e h key = by (subst (λ Z. Held flying (entries_of Z) w) e h key)
          where
            by : clear w key ⊎ (⊥ ⊎ (key ≡ answer_key body)) → clear w key ⊎ (key ≡ answer_key body)
            by (inl x) = inl x
            by (inr (inl n)) = absurd n
            by (inr (inr same)) = inr same

        given : (w : V) → ((key : ℕ) → clear w key ⊎ (key ≡ answer_key body)) → (o : Out V) →
            ShownOut any (λ z. (key : ℕ) → clear w key → clear z key) (λ z. ⊥) o → Left (answer_key body) o
        given w h (Go z) f = λ key. by (h key)
          where
            by : {key : ℕ} → clear w key ⊎ (key ≡ answer_key body) → clear z key ⊎ (key ≡ answer_key body)
            by {key} (inl x) = inl (f key x)
            by {key} (inr e) = inr e
        given w h (Unwind z) f = absurd f
        given w h (Halts halt z) f = tt

        abbrev answer : Entry
        answer = record { key = answer_key body; ty = body.answer }

        unwound : (w : V) → Held Nothing (answer ∷ []) w →
            Left (answer_key body) (programs.unwinds items q fuel (needing_drop items (answer ∷ [])) w)
        unwound w h = by (needs_drop items body.answer) refl
          where
            rest : (z : V) → clear z (answer_key body) → ((key : ℕ) → clear w key → clear z key) → (key : ℕ) →
                clear w key ⊎ (((answer_key body ≡ key) ⊎ ⊥) ⊎ ⊥) → clear z key
            rest z c f key (inl x) = f key x
            rest z c f key (inr (inl (inl e))) = subst (clear z) e c
            rest z c f key (inr (inl (inr n))) = absurd n
            rest z c f key (inr (inr n)) = absurd n

            dropped : (o : Out V) →
                ShownOut any (λ z. clear z (answer_key body) × ((key : ℕ) → clear w key → clear z key))
                (λ z. clear z (answer_key body) × ((key : ℕ) → clear w key → clear z key)) o →
                Left (answer_key body) (aborting o (programs.unwinds items q fuel []))
            dropped (Go z) f = λ key. rest z f.0 f.1 key (h key)
            dropped (Unwind z) f = tt
            dropped (Halts halt z) f = tt

            by : (b : Bool) → needs_drop items body.answer ≡ b →
                Left (answer_key body) (programs.unwinds items q fuel (if b then answer ∷ [] else []) w)
            by true n = dropped (q.drop Unwinding (entry_site answer) w) (keeps.drops Unwinding answer w)
            by false n = λ key. rest w (keeps.needs_none (answer_key body) w (suits n)) (λ key c. c) key (h key)

        ended : (r : Run V) → Shown any Done r → Left (answer_key body) (body_end items q fuel (answer_key body) r)
        ended (At Value S w) x =
            given w (only_result S w x.0 x.1) (q.give (site_of_key (answer_key body)) w)
            (keeps.gives (site_of_key (answer_key body)) w)
        ended (At (Breaks loop) S w) x = tt
        ended (At (Continues loop) S w) x = tt
        ended (At Returns S w) x =
            given w (only_result S w x.0 x.1) (q.give (site_of_key (answer_key body)) w)
            (keeps.gives (site_of_key (answer_key body)) w)
        ended (At Panics S w) x = subst (λ Z. Left (answer_key body)
            (programs.unwinds items q fuel (needing_drop items (all_entries Z)) w)) (sym x.0)
            (unwound w (subst (λ Z. Held Nothing (all_entries Z) w) x.0 x.1))
        ended (Over halt w) x = tt

        -- nothing is held but the result, and after a panic nothing at all
        pub body_left : (v : V) → Held (InList (param_keys body.params)) [] v →
            Left (answer_key body) (activation items q fuel body v)
        body_left v h = ended (entire_function items q fuel body (answer_scope items q fuel body) v) (function_so v h)
