-- A text with a program has no other, and is not refused where that is accepted.
use Rattle.std.proofs.Common.{◌≡◌, ℕ, List, Result, Ok, Err, refl, ap, sym, subst, ◌∙◌}
use Rattle.src_token.specs.declared.token.Spanned.{Spanned}
use Rattle.src_token.specs.Tokens.{Tokens}
use Rattle.src_tree.specs.declared.node.Tree.{Tree}
use Rattle.src_tree.specs.View.{items_of}
use Rattle.src_parse.specs.declared.error.ParseError.{ParseError}
use Rattle.src_parse.specs.Answers.{IsTree, IsRefused as IsBadToken}
use Rattle.mir_pipeline.specs.Programs.{program_in}
use Rattle.mir_pipeline.specs.Trees.{IsTreeOf, end_place, of_tokens, refusal_of}
use Rattle.mir_pipeline.specs.declared.refusal.Refusal.{Refusal}
use Rattle.mir_pipeline.specs.declared.refusal.Refusal.TheVariants.{Lex, Syntax, TooDeep, Broken, U1, U2, Memory}
use Rattle.src_meaning.specs.Programs.{IsAccepted}
use Rattle.text_laws.specs.Laws.{AcceptedAreNotRefused, ProgramsAreOne, ProgramsAreRead}
use Rattle.text_laws.proofs.Once.{one_list, one_tree}
use Rattle.text_laws.proofs.Unrefused.{has_tokens, has_tree}
use Rattle.typed_tree.specs.Tree.{ProgramTree}
use Rattle.typing_rules.specs.Borrows.{read_typed}
use Rattle.typing_rules.specs.Check as check

-- two trees of a text give one answer
same_answer : (text : List ℕ) (a b : Tree) → IsTreeOf text a → IsTreeOf text b → program_in a ≡ program_in b
same_answer text a b (tokens, cut, is) (others, cut_too, is_too) =
    let same : tokens ≡ others = one_list text tokens others cut cut_too in
    let tree : IsTree others (end_place text) a = subst (λ ts. IsTree ts (end_place text) a) same is in
    ap (λ ps. read_typed ps a.end) (one_tree others (end_place text) a b tree is_too)
    ∙ ap (λ e. read_typed (items_of b) e) (is.ended ∙ sym is_too.ended)

same_ok : (p q : ProgramTree) → ◌≡◌ {A = Result ProgramTree check.Broken} (Ok p) (Ok q) → p ≡ q
same_ok p q e = cc

pub programs_are_one : ProgramsAreOne
programs_are_one text p q (a, is, read) (b, is_too, read_too) =
    same_ok p q (sym read ∙ same_answer text a b is is_too ∙ read_too)

not_both : (p : ProgramTree) (e : check.Broken) → ◌≡◌ {A = Result ProgramTree check.Broken} (Ok p) (Err e) → ⊥
not_both p e same = cc

of_bad_token : (text : List ℕ) (tree : Tree) (why : Refusal) → IsTreeOf text tree →
    (others : List Spanned) → Tokens text others → (error : ParseError) → IsBadToken others (end_place text) error →
    why ≡ of_tokens error → why ≡ Memory
of_bad_token text tree why (tokens, cut, is) others cut_too error bad same =
    let one : tokens ≡ others = one_list text tokens others cut cut_too in
    let tree_too : IsTree others (end_place text) tree = subst (λ ts. IsTree ts (end_place text) tree) one is in
    same ∙ ap of_tokens (has_tree others (end_place text) tree error tree_too bad)

pub programs_are_read : ProgramsAreRead
programs_are_read text program (Lex code at) (tree, (tokens, cut, is), read) (error, refused, same) =
    same ∙ ap refusal_of (has_tokens text tokens error cut refused)
programs_are_read text program (Syntax at pos) (tree, is, read) (others, error, cut, bad, same) =
    of_bad_token text tree (Syntax at pos) is others cut error bad same
programs_are_read text program (TooDeep at pos) (tree, is, read) (others, error, cut, bad, same) =
    of_bad_token text tree (TooDeep at pos) is others cut error bad same
programs_are_read text program (Broken rule at) (tree, is, read) (other, is_too, broken) =
    absurd (not_both program _ (sym read ∙ same_answer text tree other is is_too ∙ broken))
programs_are_read text program (U1 bad site) p h = absurd h
programs_are_read text program (U2 bad site) p h = absurd h
programs_are_read text program Memory p h = refl

pub accepted_are_not_refused : AcceptedAreNotRefused
accepted_are_not_refused text program (U1 bad site) p accepted (other, lowered, q, refused) =
    absurd (refused.not_accepted (subst (λ r. IsAccepted r) (programs_are_one text program other p q) accepted))
accepted_are_not_refused text program (U2 bad site) p accepted (other, lowered, q, refused) =
    absurd (refused.not_accepted (subst (λ r. IsAccepted r) (programs_are_one text program other p q) accepted))
accepted_are_not_refused text program (Lex code at) p accepted h = programs_are_read text program (Lex code at) p h
accepted_are_not_refused text program (Syntax at pos) p accepted h = programs_are_read text program (Syntax at pos) p h
accepted_are_not_refused text program (TooDeep at pos) p accepted h =
    programs_are_read text program (TooDeep at pos) p h
accepted_are_not_refused text program (Broken rule at) p accepted h =
    programs_are_read text program (Broken rule at) p h
accepted_are_not_refused text program Memory p accepted h = refl
