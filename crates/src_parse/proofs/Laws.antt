-- The laws of reading.
use Rattle.std.proofs.Common.{◌≡◌, true, Option, Some, None, List, [], ◌∷◌, refl, sym, ap, ◌∙◌, is_some}
use Rattle.src_token.specs.declared.token.Token.{Token}
use Rattle.src_tree.specs.declared.row.GrammarRow.{GrammarRow}
use Rattle.src_tree.specs.Layout.{node}
use Rattle.src_tree.specs.Reading.{and_then, whole, start}
use Rattle.src_tree.proofs.Complete.{Stack, step_if, run, complete}
use Rattle.src_parse.specs.Reads.{read, state_behind, IsItems, Begins, ReadsBeginnings, ReadsTrees}
use Rattle.src_parse.proofs.Answer.{Begins as BeginsSo, started, begins, no_more, sound}

same : (ts : List Token) (o : Option Stack) → run ts o ≡ read ts o
same [] o = refl
same (t ∷ ts) o = same ts (step_if o t)

forth : (ts : List Token) → BeginsSo ts → Begins ts
forth ts (g, rest, l, e) = (g, rest, (l, e))

back : (ts : List Token) → Begins ts → BeginsSo ts
back ts (g, rest, h) = (g, rest, h.0, h.1)

reads : (ts : List Token) (o : Option Stack) → started ts ≡ o → ((is_some o ≡ true) → Begins ts) × (Begins ts → is_some o ≡ true)
reads ts None e = (λ h. absurd (cc), λ b. absurd (no_more ts e (back ts b)))
reads ts (Some s) e = (λ h. forth ts (begins ts s e), λ b. refl)

pub reads_beginnings : ReadsBeginnings
reads_beginnings ts = reads ts (state_behind ts) (same ts (Some (start tt)))

pub reads_trees : ReadsTrees
reads_trees ts g = (to, from)
  where
    run_is : started ts ≡ state_behind ts
    run_is = same ts (Some (start tt))

    to : and_then (state_behind ts) (λ s. whole s) ≡ Some (node tt GrammarRow.File g) → IsItems ts g
    to e = let so = sound ts (node tt GrammarRow.File g) (ap (λ o. and_then o (λ s. whole s)) run_is ∙ e) in (so.1, so.2)

    from : IsItems ts g → and_then (state_behind ts) (λ s. whole s) ≡ Some (node tt GrammarRow.File g)
    from h = ap (λ o. and_then o (λ s. whole s)) (sym run_is ∙ ap (λ z. started z) (sym h.1)) ∙ complete g h.0
