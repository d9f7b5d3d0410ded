-- Where a turn of a loop ends, the cells of the nodes inside hold nothing: by the pass on scopes, in which nothing is
-- looked at but these cells. And by that pass, in which nothing at all is looked at, a scrutinee that is a whole local
-- stands among the entries.
use Rattle.std.proofs.Common.{◌≡◌, ◌⊎◌, inl, inr, ℕ, ◌==◌, ◌&&◌, ◌||◌, Bool, true, false, List, [], ◌∷◌, ◌++◌, Option, Some, None, refl, ap, sym, ◌∙◌, subst}
use Rattle.std.proofs.lemmas.Bool.{false≢true}
use Rattle.std.proofs.lemmas.Bool.Decides.{Decides-eqb}
use Rattle.mir_base.specs.declared.trace.Why.{Why}
use Rattle.mir_ty.specs.declared.ty.TyId.{TyId}
use Rattle.mir_ty.specs.Facts.{needs_drop}
use Rattle.mir_ty.specs.ItemTable.{ItemTable}
use Rattle.store_model.specs.Effects.{EffectSite, Action, Test, Mode, Out, Go, Unwind, Halts, Choice, Yes, No, Neither, Effects, stored_by}
use Rattle.store_model.specs.Places.Place.{whole_local}
use Rattle.typed_tree.specs.Nodes.{number_of, nodes_of}
use Rattle.typed_tree.specs.Tree.{Node}
use Rattle.src_meaning.specs.Evaluation.{meaning}
use Rattle.src_meaning.specs.Forms.{Destination, Into, Coerced, LoopsAndGuards, in_loop, loop_destination}
use Rattle.src_meaning.specs.Scopes.{Entry, Scopes, Exit, Value, Breaks, Continues, Returns, Panics, Run, Does}
use Rattle.well_typed.specs.Claim.{Holds}
use Rattle.well_typed.specs.Nodes as typing
use Rattle.well_typed.specs.Places.{Standing, LoopAround, Context, loop_with, ty_of}
use Rattle.soundness_values.proofs.Leaving.{Shown, ShownOut, shown_more, Among}
use Rattle.soundness_cells.proofs.PassClear.{KeepsClear, any, Nothing, Changes, ShownChoice, MovedByAny, operands_of, tested_by, StoredAt}
use Rattle.soundness_cells.proofs.PassFacts.{Standpoint, context}
use Rattle.soundness_cells.proofs.PassForms.{node_so}
use Rattle.soundness_cells.proofs.PassFree.{DestKey, AroundOk}
use Rattle.soundness_cells.proofs.PassNodes as nodes
use Rattle.soundness_cells.proofs.PassNumbers.{Numbered}
use Rattle.soundness_cells.proofs.PassRules as rules
use Rattle.soundness_cells.proofs.PassScopes as scopes
use Rattle.soundness_cells.proofs.PassScopes.{key_of, entries_of, NamedAt}

-- whether one of some nodes has a number
abbrev pub is_numbered : List Node → ℕ → Bool
is_numbered [] key = false
is_numbered (n ∷ ns) key = (number_of n == key) || is_numbered ns key

pub numbered_so : (ns : List Node) (key : ℕ) → is_numbered ns key ≡ true → Numbered ns key
numbered_so [] key e = absurd (false≢true e)
numbered_so (n ∷ ns) key e = by (number_of n == key) refl e (λ k. numbered_so ns key k)
  where
    by : (b : Bool) → (number_of n == key) ≡ b → (b || is_numbered ns key) ≡ true →
        (is_numbered ns key ≡ true → Numbered ns key) → (number_of n ≡ key) ⊎ Numbered ns key
    by true h k later = inl ((Decides-eqb (number_of n) key).0 h)
    by false h k later = inr (later k)

pub is_numbered_so : (ns : List Node) (key : ℕ) → Numbered ns key → is_numbered ns key ≡ true
is_numbered_so [] key h = absurd h
is_numbered_so (n ∷ ns) key (inl e) =
    ap (λ b. b || is_numbered ns key) ((Decides-eqb (number_of n) key).1 e)
is_numbered_so (n ∷ ns) key (inr h) = second (number_of n == key) (is_numbered ns key) (is_numbered_so ns key h)
  where
    second : (a b : Bool) → b ≡ true → (a || b) ≡ true
    second true b e = refl
    second false b e = e

pub key_dest : (d : Destination) → DestKey d (key_of d)
key_dest (Into key) = refl
key_dest (Coerced key trait_no to) = inr refl

module _ {V : Type 0} (items : ItemTable) (needs : ℕ → Bool) (q : Effects V) (clear : V → ℕ → Type 0)
    (keeps : KeepsClear q needs clear) where
  out_more : (a b c d : V → Type 0) (o : Out V) → ((w : V) → a w → c w) → ((w : V) → b w → d w) →
      ShownOut any a b o → ShownOut any c d o
  out_more a b c d (Go w) f g h = f w h
  out_more a b c d (Unwind w) f g h = g w h
  out_more a b c d (Halts halt w) f g h = tt

  choice_more : (a b c d : V → Type 0) (o : Choice V) → ((w : V) → a w → c w) → ((w : V) → b w → d w) →
      ShownChoice a b o → ShownChoice c d o
  choice_more a b c d (Yes w) f g h = f w h
  choice_more a b c d (No w) f g h = g w h
  choice_more a b c d (Neither halt w) f g h = tt

  -- cells of which something else is known to be clear
  module _ (clear' : V → ℕ → Type 0) (needs' : ℕ → Bool)
      (changes : (moved stored : ℕ → Type 0) (v w : V) → Changes clear moved stored v w →
      Changes clear' moved stored v w) (still : (v w : V) → ((key : ℕ) → clear v key → clear w key) → (key : ℕ) →
      clear' v key → clear' w key) (more : (v : V) (key : ℕ) → clear v key → clear' v key)
      (none : (key : ℕ) (v : V) → needs' key ≡ false → clear' v key) where
    keeps_other : KeepsClear q needs' clear'
    keeps_other = record {
      acts = λ action v. out_more (Changes clear (MovedByAny (operands_of action)) (StoredAt (stored_by action)) v)
          (Changes clear (MovedByAny (operands_of action)) Nothing v)
          (Changes clear' (MovedByAny (operands_of action)) (StoredAt (stored_by action)) v)
          (Changes clear' (MovedByAny (operands_of action)) Nothing v) (q.act action v)
          (λ w. changes (MovedByAny (operands_of action)) (StoredAt (stored_by action)) v w)
          (λ w. changes (MovedByAny (operands_of action)) Nothing v w) (keeps.acts action v);
      chooses = λ test v. choice_more (Changes clear (MovedByAny (tested_by test)) Nothing v)
          (Changes clear (MovedByAny (tested_by test)) Nothing v)
          (Changes clear' (MovedByAny (tested_by test)) Nothing v)
          (Changes clear' (MovedByAny (tested_by test)) Nothing v) (q.choose test v)
          (λ w. changes (MovedByAny (tested_by test)) Nothing v w)
          (λ w. changes (MovedByAny (tested_by test)) Nothing v w) (keeps.chooses test v);
      drops = λ mode e v. out_more (λ w. clear w e.key × ((key : ℕ) → clear v key → clear w key))
          (λ w. clear w e.key × ((key : ℕ) → clear v key → clear w key))
          (λ w. clear' w e.key × ((key : ℕ) → clear' v key → clear' w key))
          (λ w. clear' w e.key × ((key : ℕ) → clear' v key → clear' w key))
          (q.drop mode (Rattle.src_meaning.specs.Scopes.entry_site e) v)
          (λ w x. (more w e.key x.0, still v w x.1)) (λ w x. (more w e.key x.0, still v w x.1)) (keeps.drops mode e v);
      drops_at = λ mode site v. out_more (λ w. (key : ℕ) → clear v key → clear w key)
          (λ w. (key : ℕ) → clear v key → clear w key) (λ w. (key : ℕ) → clear' v key → clear' w key)
          (λ w. (key : ℕ) → clear' v key → clear' w key) (q.drop mode site v) (λ w x. still v w x) (λ w x. still v w x)
          (keeps.drops_at mode site v);
      puts = keeps.puts;
      gives = λ site v. out_more (λ w. (key : ℕ) → clear v key → clear w key) (λ w. ⊥)
          (λ w. (key : ℕ) → clear' v key → clear' w key) (λ w. ⊥) (q.give site v) (λ w x. still v w x) (λ w x. x)
          (keeps.gives site v);
      panics = λ why v key c. still v (q.panic why v) (keeps.panics why v) key c;
      ticks = λ v. out_more (λ w. (key : ℕ) → clear v key → clear w key)
          (λ w. (key : ℕ) → clear v key → clear w key) (λ w. (key : ℕ) → clear' v key → clear' w key)
          (λ w. (key : ℕ) → clear' v key → clear' w key) (q.tick v) (λ w x. still v w x) (λ w x. still v w x)
          (keeps.ticks v);
      needs_none = none;
    }

  -- ---- nothing is looked at

  abbrev pub no_clear : V → ℕ → Type 0
  no_clear v key = Unit {0}

  pub keeps_none : KeepsClear q (λ key. false) no_clear
  keeps_none = keeps_other no_clear (λ key. false) (λ moved stored v w f key h. inl tt) (λ v w f key c. tt)
      (λ v key c. tt) (λ key v e. tt)

  pub good_none : (fuel : ℕ) (ns : List Node) → nodes.Good items (λ key. false) q no_clear keeps_none fuel ns
  good_none fuel [] = tt
  good_none fuel (n ∷ ns) = ((λ e. refl), good_none fuel ns)

  -- a place that is a whole local stands among the entries when it is reached
  pub root_named : (fuel : ℕ) (n : Node) (x : Standpoint) (standing : Standing) →
      Holds (typing.typed (context items x) standing n) → (around : LoopsAndGuards) (S : Scopes) (v : V) →
      AroundOk items (context items x) around S →
      Shown any (λ exit T u. NamedAt exit
      (λ key. (meaning items q fuel n).shape.place around.aliases ≡ whole_local key) T)
      ((meaning items q fuel n).reach around S v)
  root_named fuel n x standing h around S v ok =
      shown_more any (λ exit T u p. p.1) ((meaning items q fuel n).reach around S v)
      ((node_so items (λ key. false) q no_clear keeps_none fuel n x standing h (good_none fuel (nodes_of n))).reaches
      around S v ok (λ key. inl tt))

  -- ---- the cells of some nodes alone are looked at

  module _ (os : List Node) where
    abbrev pub needs_in : ℕ → Bool
    needs_in key = needs key && is_numbered os key

    abbrev pub clear_in : V → ℕ → Type 0
    clear_in v key = clear v key ⊎ (is_numbered os key ≡ false)

    changes_in : (moved stored : ℕ → Type 0) (v w : V) → Changes clear moved stored v w →
        Changes clear_in moved stored v w
    changes_in moved stored v w f key h = by h
      where
        after : clear w key ⊎ stored key → clear_in w key ⊎ stored key
        after (inl x) = inl (inl x)
        after (inr x) = inr x

        by : clear_in v key ⊎ moved key → clear_in w key ⊎ stored key
        by (inl (inl c)) = after (f key (inl c))
        by (inl (inr e)) = inl (inr e)
        by (inr m) = after (f key (inr m))

    still_in : (v w : V) → ((key : ℕ) → clear v key → clear w key) → (key : ℕ) → clear_in v key → clear_in w key
    still_in v w f key (inl c) = inl (f key c)
    still_in v w f key (inr e) = inr e

    none_in : (key : ℕ) (v : V) → needs_in key ≡ false → clear_in v key
    none_in key v e = by (is_numbered os key) refl e
      where
        first : (a : Bool) → (a && true) ≡ false → a ≡ false
        first true e = e
        first false e = refl

        by : (b : Bool) → is_numbered os key ≡ b → (needs key && b) ≡ false → clear_in v key
        by true h k = inl (keeps.needs_none key v (first (needs key) k))
        by false h k = inr h

    pub keeps_in : KeepsClear q needs_in clear_in
    keeps_in = keeps_other clear_in needs_in changes_in still_in (λ v key c. inl c) none_in

    pub good_in : (fuel : ℕ) (ns : List Node) → nodes.Good items needs q clear keeps fuel ns →
        nodes.Good items needs_in q clear_in keeps_in fuel ns
    good_in fuel [] g = tt
    good_in fuel (n ∷ ns) g = (
      (λ e. first (needs (number_of n)) (is_numbered os (number_of n)) (g.0 e)),
      good_in fuel ns g.1,
    )
      where
        first : (a b : Bool) → a ≡ false → (a && b) ≡ false
        first true b e = absurd (false≢true (sym e))
        first false b e = refl

    needs_none_of : (key : ℕ) → (Numbered os key → ⊥) → needs_in key ≡ false
    needs_none_of key n = by (is_numbered os key) refl
      where
        second : (a : Bool) → (a && false) ≡ false
        second true = refl
        second false = refl

        by : (b : Bool) → is_numbered os key ≡ b → (needs key && b) ≡ false
        by true e = absurd (n (numbered_so os key e))
        by false e = second (needs key)

    -- the destinations of jumps are none of these cells
    pub around_in : (c : Context) (around : LoopsAndGuards) (S : Scopes) → AroundOk items c around S →
        ((z : ℕ) → DestKey around.answer z → Numbered os z → ⊥) →
        ((loop : ℕ) (a : LoopAround) → loop_with loop c.loops ≡ Some a → (z : ℕ) →
        DestKey (loop_destination loop around.loops) z → Numbered os z → ⊥) →
        scopes.AroundOk items needs_in c around S
    around_in c around S ok answer loops = record {
      answer = inl (needs_none_of (key_of around.answer) (answer (key_of around.answer) (key_dest around.answer)));
      answer_suits = λ e. needs_none_of (key_of around.answer) (answer (key_of around.answer) (key_dest around.answer));
      loops = λ loop a e. inl (needs_none_of (key_of (loop_destination loop around.loops))
          (loops loop a e (key_of (loop_destination loop around.loops))
          (key_dest (loop_destination loop around.loops))));
      loops_suit = λ loop a e k. needs_none_of (key_of (loop_destination loop around.loops))
          (loops loop a e (key_of (loop_destination loop around.loops))
          (key_dest (loop_destination loop around.loops)));
      names = ok.names;
      rooted = ok.rooted;
      temporary = ok.temporary;
    }

    abbrev pub HeldIn : List Entry → V → Type 0
    HeldIn = scopes.Held items needs_in q clear_in keeps_in Nothing

    pub held_in : (es : List Entry) (v : V) → ((z : ℕ) → Numbered os z → clear v z) → HeldIn es v
    held_in es v f key = by (is_numbered os key) refl
      where
        by : (b : Bool) → is_numbered os key ≡ b → clear_in v key ⊎ (Among es key ⊎ ⊥)
        by true e = inl (inl (f key (numbered_so os key e)))
        by false e = inl (inr e)

    abbrev AfterIn : Context → LoopsAndGuards → Scopes → Exit → Scopes → V → Type 0
    AfterIn c around S = scopes.After items needs_in q clear_in keeps_in c around Nothing (λ T. T ≡ S)

    -- where a turn goes on
    abbrev pub GoesOn : Scopes → Exit → Scopes → V → Type 0
    GoesOn S Value T w = (T ≡ S) × ((z : ℕ) → Numbered os z → clear w z)
    GoesOn S (Breaks loop) T w = Unit {0}
    GoesOn S (Continues loop) T w = (z : ℕ) → Numbered os z → clear w z
    GoesOn S Returns T w = Unit {0}
    GoesOn S Panics T w = Unit {0}

    none_held : (S T : Scopes) (w : V) → T ≡ S → ((z : ℕ) → Numbered os z → Among (entries_of S) z → ⊥) →
        HeldIn (entries_of T) w → (z : ℕ) → Numbered os z → clear w z
    none_held S T w same f h z n = by (h z)
      where
        by : clear_in w z ⊎ (Among (entries_of T) z ⊎ ⊥) → clear w z
        by (inl (inl c)) = c
        by (inl (inr e)) = absurd (false≢true (sym e ∙ is_numbered_so os z n))
        by (inr (inl a)) = absurd (f z n (subst (λ Z. Among (entries_of Z) z) same a))
        by (inr (inr x)) = absurd x

    pub goes_on : (c : Context) (around : LoopsAndGuards) (S : Scopes) →
        ((z : ℕ) → Numbered os z → Among (entries_of S) z → ⊥) → (r : Run V) →
        Shown any (AfterIn c around S) r → Shown any (GoesOn S) r
    goes_on c around S f r h = shown_more any so r h
      where
        so : (exit : Exit) (T : Scopes) (w : V) → AfterIn c around S exit T w → GoesOn S exit T w
        so Value T w x = (x.0, none_held S T w x.0 f x.1)
        so (Breaks loop) T w x = tt
        so (Continues loop) T w x = none_held S T w x.0 f x.1
        so Returns T w x = tt
        so Panics T w x = tt
