-- Tokens that are read begin a levelled tree, and a token that is not goes on with none.
use Rattle.std.proofs.Common.{◌≡◌, Option, Some, None, List, [], ◌++◌, refl, sym, ap, ◌∙◌, subst, append-nil}
use Rattle.src_token.specs.declared.token.Token.{Token}
use Rattle.src_tree.specs.declared.row.GrammarRow.{GrammarRow}
use Rattle.src_tree.specs.Layout.{node, row_of, parts_of, spell, spell_parts, ItemsLevelled}
use Rattle.src_tree.specs.Reading.{and_then, whole, start}
use Rattle.src_tree.proofs.Complete.{Tree, Held, Stack, run, complete}
use Rattle.src_parse.proofs.Sound.{start_good, Reached, runs, run_none, Ended, whole_well}
use Rattle.src_parse.proofs.Finish.{run_append, finish}

-- the spelling of the items of a levelled tree begins so
abbrev pub Begins : List Token → Type 0
Begins ts = (g : Held) × (rest : List Token) × ItemsLevelled g × (spell_parts g [] ≡ ts ++ rest)

abbrev pub started : List Token → Option Stack
started ts = run ts (Some (start tt))

reached : (ts : List Token) (s : Stack) → started ts ≡ Some s → Reached (start tt) ts (Some s)
reached ts s a = subst (Reached (start tt) ts) a (runs ts (start tt) start_good)

-- what is whole is levelled, and spelled by the tokens
pub sound : (ts : List Token) (g : Tree) → and_then (started ts) (λ s. whole s) ≡ Some g → (row_of g ≡ GrammarRow.File) × ItemsLevelled (parts_of g) × (spell_parts (parts_of g) [] ≡ ts)
sound ts g e = go (started ts) refl e
  where
    spelled : (g : Tree) (k : List Token) → spell g k ≡ spell_parts (parts_of g) k
    spelled (node at r ps) k = refl

    by_whole : (s : Stack) (o : Option Tree) → o ≡ Some g → Ended s o → Ended s (Some g)
    by_whole s o e h = subst (Ended s) e h

    go : (o : Option Stack) → started ts ≡ o → and_then o (λ s. whole s) ≡ Some g → (row_of g ≡ GrammarRow.File) × ItemsLevelled (parts_of g) × (spell_parts (parts_of g) [] ≡ ts)
    go None a e = absurd (cc)
    go (Some s) a e =
        let r = reached ts s a in
        let w = by_whole s (whole s) e (whole_well s r.0) in
        (w.0, w.1, sym (spelled g []) ∙ w.2 ∙ r.1 [] ∙ append-nil ts)

-- tokens that are read begin a tree
pub begins : (ts : List Token) (s : Stack) → started ts ≡ Some s → Begins ts
begins ts s a =
    let (later, g, r) = finish s (reached ts s a).0 in
    let all : and_then (started (ts ++ later)) (λ s. whole s) ≡ Some g = ap (λ o. and_then o (λ s. whole s)) (run_append ts later (Some (start tt)) ∙ ap (run later) a) ∙ r in
    let so = sound (ts ++ later) g all in
    (parts_of g, later, so.1, so.2)

-- and tokens that begin a tree are read
pub no_more : (ts : List Token) → started ts ≡ None → Begins ts → ⊥
no_more ts a (g, rest, l, e) =
    let c = complete g l in
    let f : started (spell_parts g []) ≡ None = ap (λ z. started z) e ∙ run_append ts rest (Some (start tt)) ∙ ap (run rest) a ∙ run_none rest in
    let z : None ≡ Some (node tt GrammarRow.File g) = ap (λ o. and_then o (λ s. whole s)) (sym f) ∙ c in
    absurd (cc)
