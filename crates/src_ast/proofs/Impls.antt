-- The names of an `impl`: the trait's, where there is `for`, and the type's.
use Rattle.std.proofs.Common.{◌≡◌, Bool, true, false, List, [], ◌∷◌, Some, None, refl, ap, sym, ◌∙◌}
use Rattle.std.proofs.lemmas.Bool.{and_parts}
use Rattle.src_ast.specs.Seen.{are_idents, is_none}
use Rattle.src_ast.specs.Syntax.{Named, Syn, AnItem, Odd, ImplItem, Syns, no_syn, a_syn}
use Rattle.src_ast.specs.View.{is_ident, named, idents, impl_row}

not_both : {A : Type 0} → true ≡ false → A
not_both h = cc

abbrev all_named : Syns → List Named
all_named no_syn = []
all_named (a_syn a rest) = named a ∷ all_named rest

all_idents : (ss : Syns) → are_idents ss ≡ true → idents ss ≡ all_named ss
all_idents no_syn h = refl
all_idents (a_syn a rest) h = let both = and_parts (is_ident a) _ h in rw (both.0) (ap (λ z. named a ∷ z) (all_idents rest both.1))

row_by : (b : Bool) (ss ts ms : Syns) → are_idents ss ≡ true → ts ≡ ss → impl_row b (idents ss) ms ≡ impl_row b (all_named ts) ms
row_by b ss ts ms all is = ap (λ z. impl_row b z ms) (all_idents ss all) ∙ ap (λ z. impl_row b (all_named z) ms) (sym is)

pub no_names : (b : Bool) (ss ms : Syns) → are_idents ss ≡ true → no_syn ≡ ss → Odd ≡ impl_row b (idents ss) ms
no_names true ss ms all is = sym (row_by true ss no_syn ms all is)
no_names false ss ms all is = sym (row_by false ss no_syn ms all is)

pub one_name : (ss r ms : Syns) (a : Syn) → are_idents ss ≡ true → a_syn a r ≡ ss → is_none r ≡ true → AnItem (ImplItem None (named a) ms) ≡ impl_row false (idents ss) ms
one_name ss no_syn ms a all is none = sym (row_by false ss (a_syn a no_syn) ms all is)
one_name ss (a_syn b r) ms a all is none = not_both (sym none)

pub more_names : (ss r ms : Syns) (a : Syn) → are_idents ss ≡ true → a_syn a r ≡ ss → is_none r ≡ false → Odd ≡ impl_row false (idents ss) ms
more_names ss no_syn ms a all is none = not_both none
more_names ss (a_syn b r) ms a all is none = sym (row_by false ss (a_syn a (a_syn b r)) ms all is)

pub two_names : (ss r t ms : Syns) (a b : Syn) → are_idents ss ≡ true → a_syn a r ≡ ss → a_syn b t ≡ r → is_none t ≡ true
    → AnItem (ImplItem (Some (named a)) (named b) ms) ≡ impl_row true (idents ss) ms
two_names ss r no_syn ms a b all is then none = sym (row_by true ss (a_syn a (a_syn b no_syn)) ms all (ap (λ z. a_syn a z) then ∙ is))
two_names ss r (a_syn c t) ms a b all is then none = not_both (sym none)

pub three_names : (ss r t ms : Syns) (a b : Syn) → are_idents ss ≡ true → a_syn a r ≡ ss → a_syn b t ≡ r → is_none t ≡ false → Odd ≡ impl_row true (idents ss) ms
three_names ss r no_syn ms a b all is then none = not_both none
three_names ss r (a_syn c t) ms a b all is then none = sym (row_by true ss (a_syn a (a_syn b (a_syn c t))) ms all (ap (λ z. a_syn a z) then ∙ is))

pub only_one : (ss r ms : Syns) (a : Syn) → are_idents ss ≡ true → a_syn a r ≡ ss → no_syn ≡ r → Odd ≡ impl_row true (idents ss) ms
only_one ss r ms a all is then = sym (row_by true ss (a_syn a no_syn) ms all (ap (λ z. a_syn a z) then ∙ is))
