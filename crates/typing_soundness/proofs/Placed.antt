-- What is so of a node by its row is so where it stands.
use Rattle.std.proofs.Common.{◌≡◌, Bool, true, nat_eq, nat_le, List, [], ◌∷◌, ◌⊎◌, inl, inr, Some, refl, sym, ap, ◌∙◌, subst}
use Rattle.std.proofs.lemmas.Bool.{eqb-true, false≢true, and_parts}
use Rattle.src_tree.specs.declared.place.GrammarPlace.{GrammarPlace}
use Rattle.src_tree.specs.declared.place.Start.{Start}
use Rattle.src_tree.specs.declared.row.GrammarRow.{GrammarRow}
use Rattle.src_tree.specs.declared.row.Sort.{Sort}
use Rattle.src_tree.specs.Grammar.{sort_of, sort_number, belongs, may_be, allowed, level}
use Rattle.src_tree.proofs.Samples.{nth}
use Rattle.typing_soundness.proofs.Good.{Tree, PatternIs, ExprIs, SortIs, RowIs, AtPattern, AtExpr, AtSort, Stands}

abbrev sorts : List Sort
sorts = Sort.File ∷ Sort.Item ∷ Sort.Method ∷ Sort.Head ∷ Sort.Field ∷ Sort.Variant ∷ Sort.Name ∷ Sort.Type_ ∷ Sort.Pattern ∷ Sort.FieldPattern ∷ Sort.Expr ∷ Sort.FieldInit ∷ Sort.Label ∷ []

sort_is_there : (s : Sort) → nth (sort_number s) sorts ≡ Some s
sort_is_there Sort.File = refl
sort_is_there _ = refl

same_sort : (a b : Sort) → nat_eq (sort_number a) (sort_number b) ≡ true → b ≡ a
same_sort a b h =
    let e = eqb-true (sort_number a) (sort_number b) h in
    let f : Some a ≡ Some b = sym (sort_is_there a) ∙ ap (λ n. nth n sorts) e ∙ sort_is_there b in
    cc

by_sort : (s : Sort) (r : GrammarRow) → belongs s r ≡ true → (sort_of r ≡ s) ⊎ ((s ≡ Sort.Expr) × (r ≡ GrammarRow.LabelName))
by_sort Sort.Expr GrammarRow.LabelName e = inr (refl, refl)
by_sort s r e = inl (same_sort s (sort_of r) e)

at_pattern : (start : Start) (self : Bool) (r : GrammarRow) (g : Tree) → may_be start r ≡ true → PatternIs self r g → AtPattern
    start self g
at_pattern Start.IsParam self GrammarRow.Param g m k = record { quiet = k.quiet; other = λ e rest. k.other refl rest }
at_pattern Start.IsParam self GrammarRow.SelfParam g m k = k
at_pattern Start.IsParam self _ g m k = absurd (false≢true m)
at_pattern Start.IsArm self GrammarRow.Arm g m k = k
at_pattern Start.IsArm self GrammarRow.LastArm g m k = k
at_pattern Start.IsArm self _ g m k = absurd (false≢true m)
at_pattern _ self GrammarRow.Param g m k = absurd (false≢true m)
at_pattern _ self GrammarRow.SelfParam g m k = absurd (false≢true m)
at_pattern _ self GrammarRow.Arm g m k = absurd (false≢true m)
at_pattern _ self GrammarRow.LastArm g m k = absurd (false≢true m)
at_pattern _ self _ g m k = k

at_expr : (start : Start) (r : GrammarRow) (g : Tree) → may_be start r ≡ true → ExprIs r g → AtExpr start g
at_expr Start.OnlyBlock GrammarRow.Block g m k = k
at_expr Start.OnlyBlock _ g m k = absurd (false≢true m)
at_expr Start.OnlyLabel r g m k = tt
at_expr Start.Jump GrammarRow.Block g m k = inl k.expr
at_expr Start.Jump _ g m k = inl k
at_expr Start.JumpInHead GrammarRow.Block g m k = inl k.expr
at_expr Start.JumpInHead _ g m k = inl k
at_expr _ GrammarRow.Block g m k = k.expr
at_expr _ _ g m k = k

at_label : (start : Start) (self : Bool) (g : Tree) → may_be start GrammarRow.LabelName ≡ true → RowIs self GrammarRow.LabelName g
    → AtExpr start g
at_label Start.OnlyLabel self g m k = tt
at_label Start.Jump self g m k = inr k
at_label Start.JumpInHead self g m k = inr k
at_label _ self g m k = absurd (false≢true m)

at_sort : (s : Sort) (start : Start) (self : Bool) (r : GrammarRow) (g : Tree) → may_be start r ≡ true → SortIs self s r g →
    AtSort s start self g
at_sort Sort.Pattern start self r g m k = at_pattern start self r g m k
at_sort Sort.Expr start self r g m k = at_expr start r g m k
at_sort Sort.Variant start self r g m k = k
at_sort _ start self r g m k = k

in_place : (s : Sort) (start : Start) (self : Bool) (r : GrammarRow) (g : Tree) → (sort_of r ≡ s) ⊎ ((s ≡ Sort.Expr) × (r ≡
    GrammarRow.LabelName)) → may_be start r ≡ true → RowIs self r g → AtSort s start self g
in_place s start self r g (inl e) m k = at_sort s start self r g m (subst (λ x. SortIs self x r g) e k)
in_place s start self r g (inr e) m k =
    subst (λ x. AtSort x start self g) (sym e.0) (at_label start self g (subst (λ x. may_be start x ≡ true) e.1 m)
    (subst (λ x. RowIs self x g) e.1 k))

pub placed : (c : GrammarPlace) (r : GrammarRow) (g : Tree) → allowed c r ≡ true → RowIs c.head r g → Stands c g
placed c r g a k =
    let b = and_parts (belongs c.sort r) _ a in
    let d = and_parts (nat_le c.least (level r)) _ b.1 in
    in_place c.sort c.start c.head r g (by_sort c.sort r b.0) d.1 k
