use Rattle.std.proofs.Common.{◌≡◌, ◌∙◌, sym, refl, arith, length}
use Rattle.src_token.specs.declared.word.TheConstants.{KEYWORDS}
use Rattle.src_token.specs.Words.{keyword_of}
use Rattle.src_token.proofs.Keywords.{of_length, too_long}
use Rattle.src_token.proofs.characters.keyword.Goals as goal

pub returns-then-piece-gt8 : goal.returns-then-piece-gt8
unfolding keyword_of
returns-then-piece-gt8 c = sym (too_long (λ entry. entry.0.now) (λ entry. entry.1) c.args.piece.now KEYWORDS refl c.if-piece-gt8.true)

pub returns-in-2 : goal.returns-in-2
unfolding keyword_of
returns-in-2 c = c.keyword_in.ensures ∙ sym (of_length (λ entry. entry.0.now) (λ entry. entry.1) c.args.piece.now 2 c.in-2.is KEYWORDS)

pub returns-in-3 : goal.returns-in-3
unfolding keyword_of
returns-in-3 c = c.keyword_in-in-3.ensures ∙ sym (of_length (λ entry. entry.0.now) (λ entry. entry.1) c.args.piece.now 3 c.in-3.is KEYWORDS)

pub returns-in-4 : goal.returns-in-4
unfolding keyword_of
returns-in-4 c = c.keyword_in-in-4.ensures ∙ sym (of_length (λ entry. entry.0.now) (λ entry. entry.1) c.args.piece.now 4 c.in-4.is KEYWORDS)

pub returns-in-5 : goal.returns-in-5
unfolding keyword_of
returns-in-5 c = c.keyword_in-in-5.ensures ∙ sym (of_length (λ entry. entry.0.now) (λ entry. entry.1) c.args.piece.now 5 c.in-5.is KEYWORDS)

pub returns-in-6 : goal.returns-in-6
unfolding keyword_of
returns-in-6 c = c.keyword_in-in-6.ensures ∙ sym (of_length (λ entry. entry.0.now) (λ entry. entry.1) c.args.piece.now 6 c.in-6.is KEYWORDS)

pub returns-in-7 : goal.returns-in-7
unfolding keyword_of
returns-in-7 c = c.keyword_in-in-7.ensures ∙ sym (of_length (λ entry. entry.0.now) (λ entry. entry.1) c.args.piece.now 7 c.in-7.is KEYWORDS)

pub returns-in_default : goal.returns-in_default
unfolding keyword_of
returns-in_default c =
    let eight : length c.args.piece.now ≡ 8 = omega arith in
    c.keyword_in-in_default.ensures ∙ sym (of_length (λ entry. entry.0.now) (λ entry. entry.1) c.args.piece.now 8 eight KEYWORDS)
